-- The parts of counters: their text and their reader.
use Rattle.std.proofs.Common.{◌≡◌, ℕ, ◌+◌, ◌*◌, ◌<◌, ◌≤◌, ◌^◌, max, Bool, true, false, ◌&&◌, ltb, leb, cond, List, [], ◌∷◌, length, drop, Option, Some, None, refl, sym, ◌∙◌, arith}
use Rattle.std.specs.Prelude.{IfSome, nat_eq, sum_by}
use Rattle.std.specs.Bool.{Decides}
use Rattle.std.specs.List.{AllByRecursion}
use Rattle.std.proofs.lemmas.Bool.{leb-true, le-leb, ltb-true, lt-ltb, eqb-true, and_parts, false≢true}
use Rattle.std.proofs.lemmas.Bool.Decides.{Decides-and, Decides-ltb}
use Rattle.std.proofs.lemmas.List.Sums.{sum_by-cons}
use Rattle.pc_base.specs.declared.packet.Way.{Way}
use Rattle.pc_base.specs.declared.packet.Way.TheVariants.{Up, Down}
use Rattle.rate_policer.specs.Buckets.{BucketState}
use Rattle.rate_policer.specs.Conforming.{burst}
use Rattle.charging_book.specs.declared.records.Piece.{Piece}
use Rattle.charging_book.specs.Pieces.{volume}
use Rattle.charging_book.specs.Parts.{is_counting}
use Rattle.bearer_state.specs.declared.version.ActiveBearer.{ActiveBearer}
use Rattle.packet_steps.specs.Rows.{HeldRow}
use Rattle.bearer_state.specs.Qos.{is_guaranteed}
use Rattle.bearer_state.specs.Version.{VersionState}
use Rattle.packet_steps.specs.Parts.{PartsState, first_fit, own_fit, buckets_fit, were_asked, goes_down, may_wait, all_may_wait, held_fit, may_fit, fit}
use Rattle.record_codec.specs.Saved.{IsCount, IsBucket, IsPiece, IsHeld, IsPieceOf, ArePiecesFor, AreSavedParts}
use Rattle.record_codec.specs.Spelling.{u64, optional, bucket_text, piece_text, held_text, counters_text}
use Rattle.record_codec.specs.Read.{such, is_bucket, bucket_at, piece_at, is_held, held_at, is_past, option_at, count_at, counters_at, own_needed, bucket_count}
use Rattle.record_codec.proofs.Codecs.{IsCodec, EachFits, like, field, last_field, such_codec, option_codec, times_codec, each_codec, listed_codec}
use Rattle.record_codec.proofs.Numbers.{codec_32, codec_64, measured_codec, count_codec, rate_codec}

-- a burst has eight octets
burst_fits : (rate : ℕ) → rate < 2 ^ 40 → burst rate < 2 ^ 64
burst_fits rate fits =
    elim (nat_eq rate 0) as (λ b. cond b 0 (max (rate * 100000) 24000000) < 2 ^ 64) [
      | true ↦ omega arith
      | false ↦
          omega arith
    ]

pub bucket_codec : IsCodec IsBucket bucket_text bucket_at
unfolding bucket_at
bucket_codec =
    like (such_codec is_bucket (field {C = λ b. Unit {0}} (λ (r : BucketState). r.rate) rate_codec (λ rate rate_fits.
    field (λ (r : BucketState). r.level) codec_64 (λ level level_fits.
    last_field (λ (r : BucketState). r.last) (λ last. record { rate = rate; level = level; last = last }) count_codec
    (λ last fits. (((tt, refl), refl), refl)) (λ r is fits. let same : ◌≡◌ {A = BucketState} (record {
      rate =
          rate;
      level = level;
      last = r.last;
    }) (record { rate = r.rate; level = r.level; last = r.last }) = cc in
    same)))))
    (λ b h. record { rate = h.0.1.0; level = leb-true b.level (burst b.rate) h.1; last = h.0.1.1.1 })
    (λ b f. (
      (tt, (f.rate, (omega (arith, f.level, burst_fits b.rate f.rate), f.last))),
      le-leb b.level (burst
          b.rate) f.level,
    ))

-- a piece of a bearer
pub record IsPieceAt (bearer : ActiveBearer) (piece : Piece) : Type 0 where
  pub of : IsPieceOf bearer piece
  pub fits : IsPiece piece

pub piece_codec : (bearer : ActiveBearer) → IsCodec (IsPieceAt bearer) piece_text (piece_at bearer)
unfolding piece_at
piece_codec bearer =
    like (such_codec is_counting (field {C = IsPieceOf bearer} (λ (r : Piece). r.counts.seq) count_codec (λ seq
    seq_fits.
    field (λ (r : Piece). r.counts.up_octets) codec_64 (λ up_octets up_octets_fits.
    field (λ (r : Piece). r.counts.down_octets) codec_64 (λ down_octets down_octets_fits.
    field (λ (r : Piece). r.counts.up_packets) count_codec (λ up_packets up_packets_fits.
    field (λ (r : Piece). r.counts.down_packets) count_codec (λ down_packets down_packets_fits.
    field (λ (r : Piece). r.first) (option_codec count_codec) (λ first first_fits.
    last_field (λ (r : Piece). r.last) (λ last. record {
      counts = record {
        life = bearer.life;
        ebi = bearer.ebi;
        qci = bearer.qos.qci;
        seq = seq;
        up_octets = up_octets;
        down_octets = down_octets;
        up_packets = up_packets;
        down_packets = down_packets;
      };
      first = first;
      last = last;
    }) (option_codec count_codec) (λ last fits.
    (((((((record { life = refl; ebi = refl; qci = refl }, refl), refl), refl), refl), refl), refl), refl)) (λ r
    is fits. let same : ◌≡◌ {A = Piece} (record {
      counts = record {
        life = bearer.life;
        ebi = bearer.ebi;
        qci =
            bearer.qos.qci;
        seq = seq;
        up_octets = up_octets;
        down_octets = down_octets;
        up_packets = up_packets;
        down_packets = down_packets;
      };
      first = first;
      last = r.last;
    }) (record {
      counts = record {
        life =
            r.counts.life;
        ebi = r.counts.ebi;
        qci = r.counts.qci;
        seq = r.counts.seq;
        up_octets = r.counts.up_octets;
        down_octets = r.counts.down_octets;
        up_packets = r.counts.up_packets;
        down_packets = r.counts.down_packets;
      };
      first = r.first;
      last = r.last;
    }) = cc in same)))))))))
    (λ p h.
    let f = h.0.1 in
    record {
      of = h.0.0;
      fits = record {
        octets = ltb-true _ volume h.1;
        seq = f.0;
        up_packets = f.1.1.1.0;
        down_packets = f.1.1.1.1.0;
        first = f.1.1.1.1.1.0;
        last = f.1.1.1.1.1.1;
      };
    })
    (λ p f.
    let k = f.fits in (
      (
        f.of,
        (
          k.seq,
          (
            omega (arith, k.octets),
            (
              omega (arith, k.octets),
              (
                k.up_packets,
                (
                  k.down_packets,
                  (
                    k.first,
                    k.last,
                  ),
                ),
              ),
            ),
          ),
        ),
      ),
      lt-ltb _ volume k.octets,
    ))

-- a packet that is held goes down
pub record IsHeldDown (packets : ℕ) (row : HeldRow) : Type 0 where
  pub down : row.packet.way ≡ Down
  pub fits : IsHeld packets row

held_decides : (packets : ℕ) (row : HeldRow)
    → Decides (is_held packets row) ((row.packet.number < packets) × (length row.packet.octets < 2 ^ 16))
held_decides packets row =
    Decides-and (ltb row.packet.number packets) (ltb (length row.packet.octets) (2 ^ 16))
    (Decides-ltb row.packet.number packets) (Decides-ltb (length row.packet.octets) (2 ^ 16))

pub held_codec : (packets : ℕ) → packets < 2 ^ 50 → IsCodec (IsHeldDown packets) held_text (held_at packets)
unfolding held_at
held_codec packets few =
    like (such_codec (is_held packets) (field {C = λ h. h.packet.way ≡ Down} (λ (r : HeldRow). r.packet.number)
    codec_64 (λ number number_fits.
    field (λ (r : HeldRow). r.packet.moment) count_codec (λ moment moment_fits.
    field (λ (r : HeldRow). r.life) codec_64 (λ life life_fits.
    last_field (λ (r : HeldRow). r.packet.octets) (λ octets. record {
      packet = record {
        number = number;
        moment =
            moment;
        way = Down;
        octets = octets;
      };
      life = life;
    }) (measured_codec codec_32) (λ octets fits. (
      (
        (
          (
            refl,
            refl,
          ),
          refl,
        ),
        refl,
      ),
      refl,
    )) (λ r is fits. let same : ◌≡◌ {A = HeldRow} (record {
      packet = record {
        number =
            number;
        moment = moment;
        way = Down;
        octets = r.packet.octets;
      };
      life = life;
    }) (record {
      packet = record {
        number = r.packet.number;
        moment = r.packet.moment;
        way = r.packet.way;
        octets = r.packet.octets;
      };
      life =
          r.life;
    }) = cc in same))))))
    (λ row h.
    let p = (held_decides packets row).0 h.1 in
    record { down = h.0.0; fits = record { number = p.0; moment = h.0.1.1.0; life = h.0.1.1.1.0; octets = p.1 } })
    (λ row f.
    let k = f.fits in (
      (f.down, (omega (arith, k.number, few), (k.moment, (k.life, omega (arith, k.octets))))),
      (held_decides packets row).1 (k.number, k.octets),
    ))

last_codec : (moment : ℕ) → moment < 2 ^ 50
    → IsCodec (λ last. IfSome last (λ own. own ≤ moment)) (optional u64) (such (is_past moment) (option_at count_at))
last_codec moment early = like (such_codec (is_past moment) (option_codec count_codec)) to from
  where
    to : (last : Option ℕ) → IfSome last IsCount × (is_past moment last ≡ true) → IfSome last (λ own. own ≤ moment)
    to None h = tt
    to (Some own) h = leb-true own moment h.1

    from : (last : Option ℕ) → IfSome last (λ own. own ≤ moment) → IfSome last IsCount × (is_past moment last ≡ true)
    from None h = (tt, le-leb 0 moment (omega arith))
    from (Some own) h = (omega (arith, h, early), le-leb own moment h)

-- parts by what their octets have: as many buckets and pieces as the bearers ask for
pub record ArePartsText (packets moment : ℕ) (bearers : List ActiveBearer) (parts : PartsState) : Type 0 where
  pub last : IfSome parts.last (λ last. last ≤ moment)
  pub count : length parts.buckets ≡ bucket_count bearers
  pub buckets : AllByRecursion IsBucket parts.buckets
  pub pieces : EachFits IsPieceAt bearers parts.pieces
  pub few : length parts.held < 256
  pub held : AllByRecursion (IsHeldDown packets) parts.held

pub counters_codec : (packets moment : ℕ) → packets < 2 ^ 50 → moment < 2 ^ 50 → (bearers : List ActiveBearer)
    → IsCodec (ArePartsText packets moment bearers) counters_text (counters_at packets moment bearers)
unfolding counters_at
counters_codec packets moment fits early bearers =
    like (field {C = λ p. Unit {0}} (λ (r : PartsState). r.last) (last_codec moment early) (λ last last_fits.
    field (λ (r : PartsState). r.buckets) (times_codec bucket_codec (bucket_count bearers)) (λ buckets buckets_fits.
    field (λ (r : PartsState). r.pieces) (each_codec piece_codec bearers) (λ pieces pieces_fits.
    last_field (λ (r : PartsState). r.held) (λ held. record {
      last = last;
      buckets = buckets;
      pieces = pieces;
      held =
          held;
    }) (listed_codec (held_codec packets fits)) (λ held held_fits. ((((tt, refl), refl), refl), refl)) (λ r
    is r_fits. let same : ◌≡◌ {A = PartsState} (record {
      last = last;
      buckets = buckets;
      pieces = pieces;
      held =
          r.held;
    }) (record { last = r.last; buckets = r.buckets; pieces = r.pieces; held = r.held }) = cc in same)))))
    (λ p h. record {
      last = h.1.0;
      count = h.1.1.0.0;
      buckets = h.1.1.0.1;
      pieces = h.1.1.1.0;
      few = h.1.1.1.1.0;
      held = h.1.1.1.1.1;
    })
    (λ p f. (tt, (f.last, ((f.count, f.buckets), (f.pieces, (f.few, f.held))))))

-- ---- what counters that fit a version have

own_long : (bearers : List ActiveBearer) (buckets : List BucketState) → own_fit bearers buckets ≡ true
    → length buckets ≡ sum_by own_needed bearers
own_long [] [] e = refl
own_long [] (bucket ∷ buckets) e = absurd (false≢true e)
own_long (bearer ∷ bearers) buckets e =
    by_class (own_long bearers) (is_guaranteed bearer.qos.qci) buckets e ∙ sym (sum_by-cons own_needed bearer bearers)
  where
    by_class : ((others : List BucketState) → own_fit bearers others ≡ true
        → length others ≡ sum_by own_needed bearers) → (b : Bool) (buckets : List BucketState)
        → cond b (first_fit bearer.qos.mbr_up bearer.qos.mbr_down buckets && own_fit bearers (drop 2 buckets))
        (own_fit bearers buckets) ≡ true
        → length buckets ≡ cond b 2 0 + sum_by own_needed bearers
    by_class behind_is true [] e = absurd (false≢true e)
    by_class behind_is true (one ∷ []) e = absurd (false≢true e)
    by_class behind_is true (one ∷ two ∷ others) e =
        let behind = behind_is others (and_parts _ (own_fit bearers others) e).1 in
        omega (arith, behind)
    by_class behind_is false buckets e = let behind = behind_is buckets e in omega (arith, behind)

pub buckets_long : (version : VersionState) (buckets : List BucketState) → buckets_fit version buckets ≡ true
    → length buckets ≡ bucket_count version.bearers
buckets_long version [] e = absurd (false≢true e)
buckets_long version (one ∷ []) e = absurd (false≢true e)
buckets_long version (one ∷ two ∷ others) e =
    let behind = own_long version.bearers others (and_parts _ (own_fit version.bearers others) e).1 in
    omega (arith, behind)

goes_down_is : (way : Way) → goes_down way ≡ true → way ≡ Down
goes_down_is (Up index) e = absurd (false≢true e)
goes_down_is Down e = refl

each_down : (bearers : List ActiveBearer) (rows : List HeldRow) → all_may_wait bearers rows ≡ true
    → AllByRecursion (λ (row : HeldRow). row.packet.way ≡ Down) rows
each_down bearers [] e = tt
each_down bearers (row ∷ rows) e =
    let parts = and_parts (may_wait bearers row) (all_may_wait bearers rows) e in
    (goes_down_is row.packet.way (and_parts (goes_down row.packet.way) _ parts.0).0, each_down bearers rows parts.1)

pub record AreHeldDown (rows : List HeldRow) : Type 0 where
  pub few : length rows ≤ 16
  pub down : AllByRecursion (λ (row : HeldRow). row.packet.way ≡ Down) rows

pub held_down : (last : Option ℕ) (bearers : List ActiveBearer) (rows : List HeldRow) → held_fit last bearers rows ≡
    true
    → AreHeldDown rows
held_down None bearers [] e = record { few = omega arith; down = tt }
held_down None bearers (row ∷ rows) e = absurd (omega (arith, eqb-true _ _ e))
held_down (Some last) bearers rows e =
    let parts = and_parts (leb (length rows) 16) _ e in
    record {
      few = leb-true (length rows) 16 parts.0;
      down = each_down bearers rows (and_parts (all_may_wait bearers rows) _ parts.1).0;
    }

-- ---- from what is saved to its octets, and back

pieces_saved : (bearers : List ActiveBearer) (pieces : List Piece) → EachFits IsPieceAt bearers pieces
    → AllByRecursion IsPiece pieces × ArePiecesFor bearers pieces
pieces_saved [] [] each = (tt, tt)
pieces_saved [] (piece ∷ pieces) each = absurd each
pieces_saved (bearer ∷ bearers) [] each = absurd each
pieces_saved (bearer ∷ bearers) (piece ∷ pieces) each =
    let others = pieces_saved bearers pieces each.1 in
    ((each.0.fits, others.0), (each.0.of, others.1))

pieces_texts : (bearers : List ActiveBearer) (pieces : List Piece) → AllByRecursion IsPiece pieces
    → ArePiecesFor bearers pieces → EachFits IsPieceAt bearers pieces
pieces_texts [] [] each for = tt
pieces_texts [] (piece ∷ pieces) each for = absurd for
pieces_texts (bearer ∷ bearers) [] each for = absurd for
pieces_texts (bearer ∷ bearers) (piece ∷ pieces) each for =
    (record { of = for.0; fits = each.0 }, pieces_texts bearers pieces each.1 for.1)

held_saved : (packets : ℕ) (rows : List HeldRow) → AllByRecursion (IsHeldDown packets) rows
    → AllByRecursion (IsHeld packets) rows
held_saved packets [] each = tt
held_saved packets (row ∷ rows) each = (each.0.fits, held_saved packets rows each.1)

held_texts : (packets : ℕ) (rows : List HeldRow) → AllByRecursion (IsHeld packets) rows
    → AllByRecursion (λ (row : HeldRow). row.packet.way ≡ Down) rows → AllByRecursion (IsHeldDown packets) rows
held_texts packets [] each down = tt
held_texts packets (row ∷ rows) each down =
    (record { down = down.0; fits = each.0 }, held_texts packets rows each.1 down.1)

pub parts_saved : (packets moment : ℕ) (bearers : List ActiveBearer) (parts : PartsState)
    → ArePartsText packets moment bearers parts → AreSavedParts packets moment bearers parts
parts_saved packets moment bearers parts text =
    let pieces = pieces_saved bearers parts.pieces text.pieces in
    record {
      last = text.last;
      buckets = text.buckets;
      pieces = pieces.0;
      pieces_for = pieces.1;
      held = held_saved packets parts.held text.held;
    }

pub parts_text : (version : VersionState) (packets moment : ℕ) (parts : PartsState) → fit version parts ≡ true
    → AreSavedParts packets moment version.bearers parts → ArePartsText packets moment version.bearers parts
parts_text version packets moment parts fits saved =
    let may = (and_parts (may_fit version parts) _ fits).0 in
    let first = and_parts (buckets_fit version parts.buckets) _ may in
    let second = and_parts (were_asked parts.last parts.buckets) _ first.1 in
    let third = and_parts (held_fit parts.last version.bearers parts.held) _ second.1 in
    let held = held_down parts.last version.bearers parts.held third.0 in
    record {
      last = saved.last;
      count = buckets_long version parts.buckets first.0;
      buckets = saved.buckets;
      pieces = pieces_texts version.bearers parts.pieces saved.pieces saved.pieces_for;
      few = omega (arith, held.few);
      held = held_texts packets parts.held saved.held held.down;
    }
