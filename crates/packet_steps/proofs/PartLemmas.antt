-- Counters of parts have these parts, and represent what other counters with them do.
use Rattle.std.proofs.Common.{◌≡◌, ◌≢◌, ℕ, ◌<◌, ◌≤◌, ◌&&◌, Bool, true, false, cond, List, [], ◌∷◌, ◌++◌, length, map, filter, drop, get_or, set, inl, inr, IsTrue, Option, Some, SomeIff, refl, sym, ◌∙◌, ap, subst, arith}
use Rattle.std.specs.List.{Contains, AllByRecursion, flat_map}
use Rattle.std.proofs.lemmas.Bool.{false≢true}
use Rattle.std.proofs.lemmas.List.{get_or-set_same, get_or-set_other, drop_all}
use Rattle.std.proofs.Math.ListN.{length-set}
use Rattle.rate_policer.specs.Buckets.{BucketState}
use Rattle.charging_book.specs.declared.records.Piece.{Piece}
use Rattle.charging_book.specs.Accounts.{Accounts}
use Rattle.charging_book.specs.Happenings.{rows_of}
use Rattle.charging_book.specs.Parts.{counts_in, moments_in, ArePiecesOf, are_parts, book_with}
use Rattle.bearer_state.specs.Bearer.{EachPair}
use Rattle.bearer_state.specs.declared.version.ActiveBearer.{ActiveBearer}
use Rattle.bearer_state.specs.Qos.{is_guaranteed}
use Rattle.bearer_state.specs.Version.{VersionState, IsVersion, IsActiveBearer, IsActiveBefore}
use Rattle.packet_steps.specs.declared.meters.Meter.{Meter}
use Rattle.packet_steps.specs.Past.{moment_of}
use Rattle.packet_steps.specs.Policing.{mbr, ambr, is_of_life, is_of_rates}
use Rattle.packet_steps.specs.Meters.{MetersState, unused, no_meters, bucket_of, own_meter, Polices}
use Rattle.packet_steps.specs.Parts.{PartsState, own_buckets, buckets_in, first_fit, own_fit, buckets_fit, were_asked, held_fit, pieces_fit, may_fit, first_meter, own_with, PartsRepresentTheSame}
use Rattle.packet_steps.proofs.BearerLemmas.{none_in_nil, of_cons, first_in, later_in, each_of}

-- a bearer of the list takes two buckets, or none
abbrev taking : Bool → List Meter → ActiveBearer → List ActiveBearer → List BucketState → List Meter
taking g own b bearers buckets =
    cond g (own_with (set own b.index (first_meter buckets)) bearers (drop 2 buckets)) (own_with own bearers buckets)

own_sized : (own : List Meter) (bearers : List ActiveBearer) (buckets : List BucketState)
    → length (own_with own bearers buckets) ≡ length own
own_sized own [] buckets = refl
own_sized own (b ∷ bearers) buckets =
    elim (is_guaranteed b.qos.qci) as (λ g. length (taking g own b bearers buckets) ≡ length own) [
      | true ↦ own_sized (set own b.index (first_meter buckets)) bearers (drop 2 buckets)
          ∙ length-set own b.index (first_meter buckets)
      | false ↦ own_sized own bearers buckets
    ]

own_other : (own : List Meter) (bearers : List ActiveBearer) (buckets : List BucketState) (index : ℕ)
    → ((c : ActiveBearer) → Contains bearers c → index ≢ c.index)
    → get_or (own_with own bearers buckets) index unused ≡ get_or own index unused
own_other own [] buckets index apart = refl
own_other own (b ∷ bearers) buckets index apart =
    let behind : (c : ActiveBearer) → Contains bearers c → index ≢ c.index =
    λ c there. apart c (later_in b bearers c there) in
    elim (is_guaranteed b.qos.qci) as
    (λ g. get_or (taking g own b bearers buckets) index unused ≡ get_or own index unused) [
      | true ↦ own_other (set own b.index (first_meter buckets)) bearers (drop 2 buckets) index behind
          ∙ get_or-set_other own b.index index (first_meter buckets) unused (apart b (first_in b bearers))
      | false ↦ own_other own bearers buckets index behind
    ]

pub both : (a b : Bool) → (a && b) ≡ true → (a ≡ true) × (b ≡ true)
both true b holds = (refl, holds)
both false b holds = absurd (false≢true holds)

-- what fits two rates is two buckets and others
two_first : (up down : ℕ) (buckets : List BucketState) → first_fit up down buckets ≡ true
    → (first_meter buckets).up ∷ (first_meter buckets).down ∷ drop 2 buckets ≡ buckets
two_first up down [] holds = absurd (false≢true holds)
two_first up down (first ∷ []) holds = absurd (false≢true holds)
two_first up down (first ∷ second ∷ others) holds = refl

abbrev fit_with : Bool → ActiveBearer → List ActiveBearer → List BucketState → Bool
fit_with g b bearers buckets =
    cond g (first_fit b.qos.mbr_up b.qos.mbr_down buckets && own_fit bearers (drop 2 buckets)) (own_fit bearers buckets)

abbrev buckets_with : Bool → MetersState → ActiveBearer → List BucketState
buckets_with g m b = cond g ((own_meter m b.index).up ∷ (own_meter m b.index).down ∷ []) []

-- the meters have the buckets that their bearers took
abbrev Takes : MetersState → List ActiveBearer → Type 0
Takes m bearers = (own : List Meter) (buckets : List BucketState) → length own ≡ 11 → own_fit bearers buckets ≡ true
    → m.own ≡ own_with own bearers buckets → flat_map (own_buckets m) bearers ≡ buckets

one_taken : (g : Bool) (m : MetersState) (b : ActiveBearer) (bearers : List ActiveBearer) (own : List Meter)
    (buckets : List BucketState) → is_guaranteed b.qos.qci ≡ g
    → b.index ≤ 10 → AllByRecursion (IsActiveBefore b) bearers → Takes m bearers → length own ≡ 11
    → own_fit (b ∷ bearers) buckets ≡ true → m.own ≡ own_with own (b ∷ bearers) buckets
    → flat_map (own_buckets m) (b ∷ bearers) ≡ buckets
one_taken true m b bearers own buckets guaranteed low behind takes sized fits is =
    let held = both (first_fit b.qos.mbr_up b.qos.mbr_down buckets) (own_fit bearers (drop 2 buckets))
    (ap (λ g. fit_with g b bearers buckets) (sym guaranteed) ∙ fits) in
    let next = set own b.index (first_meter buckets) in
    let is_next : m.own ≡ own_with next bearers (drop 2 buckets) =
    is ∙ ap (λ g. taking g own b bearers buckets) guaranteed in
    let within : b.index < length own = omega (arith, low, sized) in
    let meter : own_meter m b.index ≡ first_meter buckets =
    ap (λ (ms : List Meter). get_or ms b.index unused) is_next
    ∙ own_other next bearers (drop 2 buckets) b.index (λ c there same.
    let known = each_of (IsActiveBefore b) bearers c behind there in omega (arith, known.indices_rise, same))
    ∙ get_or-set_same own b.index (first_meter buckets) unused within in
    let rest = takes next (drop 2 buckets) (length-set own b.index (first_meter buckets) ∙ sized) held.1 is_next in
    ap (λ g. buckets_with g m b ++ flat_map (own_buckets m) bearers) guaranteed
    ∙ ap (λ (x : Meter). x.up ∷ x.down ∷ flat_map (own_buckets m) bearers) meter
    ∙ ap (λ xs. (first_meter buckets).up ∷ (first_meter buckets).down ∷ xs) rest
    ∙ two_first b.qos.mbr_up b.qos.mbr_down buckets held.0
one_taken false m b bearers own buckets free low behind takes sized fits is =
    ap (λ g. buckets_with g m b ++ flat_map (own_buckets m) bearers) free
    ∙ takes own buckets sized (ap (λ g. fit_with g b bearers buckets) (sym free) ∙ fits)
    (is ∙ ap (λ g. taking g own b bearers buckets) free)

own_taken : (m : MetersState) (bearers : List ActiveBearer) → EachPair IsActiveBefore bearers
    → AllByRecursion IsActiveBearer bearers → Takes m bearers
own_taken m [] pairs each own [] sized fits is = refl
own_taken m [] pairs each own (first ∷ others) sized fits is = absurd (false≢true fits)
own_taken m (b ∷ bearers) pairs each own buckets sized fits is =
    one_taken (is_guaranteed b.qos.qci) m b bearers own buckets refl each.0.index pairs.0
    (own_taken m bearers pairs.1 each.1) sized fits is

pub meters_taken : (version : VersionState) (buckets : List BucketState) (m : MetersState) → IsVersion version
    → buckets_fit version buckets ≡ true → m.shared ≡ first_meter buckets
    → m.own ≡ own_with no_meters version.bearers (drop 2 buckets)
    → (buckets ≡ buckets_in version.bearers m) × (length m.own ≡ 11)
meters_taken version buckets m ranges fits shared own =
    let held = both (first_fit version.up version.down buckets) (own_fit version.bearers (drop 2 buckets)) fits in
    let rest = own_taken m version.bearers ranges.apart ranges.each no_meters (drop 2 buckets) refl held.1 own in (
      sym (ap (λ (x : Meter). x.up ∷ x.down ∷ flat_map (own_buckets m) version.bearers) shared
          ∙ ap (λ xs. (first_meter buckets).up ∷ (first_meter buckets).down ∷ xs) rest
          ∙ two_first version.up version.down buckets held.0),
      ap length own ∙ own_sized no_meters version.bearers (drop 2 buckets),
    )

pub first_test : (version : VersionState) (parts : PartsState) → may_fit version parts ≡ true
    → buckets_fit version parts.buckets ≡ true
first_test version parts holds =
    (both (buckets_fit version parts.buckets) (were_asked parts.last parts.buckets
    && (held_fit parts.last version.bearers parts.held && pieces_fit version.bearers parts.pieces)) holds).0

-- a book that was made of pieces has them
pub pieces_made : (lent pieces : List Piece) (made : Option Accounts) (b : Accounts) → lent ≡ pieces
    → SomeIff made (IsTrue (are_parts lent)) (book_with lent) → made ≡ Some b
    → ArePiecesOf b pieces × (b.rows ≡ [])
pieces_made lent pieces made b same told is =
    let known : SomeIff (Some b) (IsTrue (are_parts lent)) (book_with lent) =
    subst (λ (m : Option Accounts). SomeIff m (IsTrue (are_parts lent)) (book_with lent)) is told in (
      record {
        opens = ap (map counts_in) (sym same) ∙ sym (ap (λ (x : Accounts). x.opens) known.1);
        moments = ap (map moments_in) (sym same) ∙ sym (ap (λ (x : Accounts). x.moments) known.1);
      },
      ap (λ (x : Accounts). x.rows) known.1,
    )

-- meters with the same buckets have the same own meters where they are looked at
same_meters : (x y : Meter) → x.up ≡ y.up → x.down ≡ y.down → x ≡ y
same_meters x y ups downs = λ i. record { up = ups i; down = downs i }

same_first : (g : Bool) (m n : MetersState) (b : ActiveBearer) (bearers : List ActiveBearer) (c : ActiveBearer)
    → is_guaranteed b.qos.qci ≡ g → Contains (b ∷ bearers) c → is_guaranteed c.qos.qci ≡ true
    → flat_map (own_buckets m) (b ∷ bearers) ≡ flat_map (own_buckets n) (b ∷ bearers)
    → (Contains bearers c → flat_map (own_buckets m) bearers ≡ flat_map (own_buckets n) bearers
    → own_meter m c.index ≡ own_meter n c.index)
    → own_meter m c.index ≡ own_meter n c.index
same_first true m n b bearers c is there guaranteed same others =
    let all : (own_meter m b.index).up ∷ (own_meter m b.index).down ∷ flat_map (own_buckets m) bearers
    ≡ (own_meter n b.index).up ∷ (own_meter n b.index).down ∷ flat_map (own_buckets n) bearers =
    ap (λ g. buckets_with g m b ++ flat_map (own_buckets m) bearers) (sym is) ∙ same
    ∙ ap (λ g. buckets_with g n b ++ flat_map (own_buckets n) bearers) is in
    let ups : (own_meter m b.index).up ≡ (own_meter n b.index).up = cc in
    let downs : (own_meter m b.index).down ≡ (own_meter n b.index).down = cc in
    let rest : flat_map (own_buckets m) bearers ≡ flat_map (own_buckets n) bearers = cc in
    elim (of_cons b bearers c there) [
      | inl here ↦ subst (λ (x : ActiveBearer). own_meter m x.index ≡ own_meter n x.index) here
          (same_meters (own_meter m b.index) (own_meter n b.index) ups downs)
      | inr behind ↦ others behind rest
    ]
same_first false m n b bearers c is there guaranteed same others =
    let rest : flat_map (own_buckets m) bearers ≡ flat_map (own_buckets n) bearers =
    ap (λ g. buckets_with g m b ++ flat_map (own_buckets m) bearers) (sym is) ∙ same
    ∙ ap (λ g. buckets_with g n b ++ flat_map (own_buckets n) bearers) is in
    elim (of_cons b bearers c there) [
      | inl here ↦ absurd (false≢true (sym is ∙ ap (λ (x : ActiveBearer). is_guaranteed x.qos.qci) here ∙ guaranteed))
      | inr behind ↦ others behind rest
    ]

same_own : (m n : MetersState) (bearers : List ActiveBearer) (c : ActiveBearer) → Contains bearers c
    → is_guaranteed c.qos.qci ≡ true → flat_map (own_buckets m) bearers ≡ flat_map (own_buckets n) bearers
    → own_meter m c.index ≡ own_meter n c.index
same_own m n [] c there guaranteed same = absurd (none_in_nil c there)
same_own m n (b ∷ bearers) c there guaranteed same =
    same_first (is_guaranteed b.qos.qci) m n b bearers c refl there guaranteed same
    (λ behind rest. same_own m n bearers c behind guaranteed rest)

pub parts_stand : PartsRepresentTheSame
parts_stand counters other past taken parts stands are made =
    let bearers = past.version.bearers in
    let m = counters.meters in
    let n = other.meters in
    let all : m.shared.up ∷ m.shared.down ∷ flat_map (own_buckets m) bearers
    ≡ n.shared.up ∷ n.shared.down ∷ flat_map (own_buckets n) bearers = sym are.buckets ∙ made.parts_are.buckets in
    let ups : m.shared.up ≡ n.shared.up = cc in
    let downs : m.shared.down ≡ n.shared.down = cc in
    let rest : flat_map (own_buckets m) bearers ≡ flat_map (own_buckets n) bearers = cc in
    record {
      meters = record {
        sized = made.sized;
        shared = λ up. subst (λ (b : BucketState). Polices b (ambr up past.version)
            (filter (is_of_rates past.version.rates up) past.forwarded) (moment_of past)) (by_way up ups downs)
            (stands.meters.shared up);
        own = λ c up there guaranteed.
            subst (λ (x : Meter). Polices (bucket_of up x) (mbr up c.qos)
            (filter (is_of_life c.life up) past.forwarded) (moment_of past))
            (same_own m n bearers c there guaranteed rest) (stands.meters.own c up there guaranteed);
      };
      charges = record {
        lawful = stands.charges.lawful;
        opens = sym made.parts_are.pieces.opens ∙ are.pieces.opens ∙ stands.charges.opens;
        moments = sym made.parts_are.pieces.moments ∙ are.pieces.moments ∙ stands.charges.moments;
        rows = made.rows ∙ sym (drop_all (length (rows_of past.charged)) (rows_of past.charged) (omega arith));
        within = omega arith;
      };
      held = sym made.parts_are.held ∙ are.held ∙ stands.held;
      last = sym made.parts_are.last ∙ are.last ∙ stands.last;
      open_lives = stands.open_lives;
      rates = stands.rates;
      ranges = stands.ranges;
    }
  where
    by_way : (up : Bool) → counters.meters.shared.up ≡ other.meters.shared.up
        → counters.meters.shared.down ≡ other.meters.shared.down
        → bucket_of up counters.meters.shared ≡ bucket_of up other.meters.shared
    by_way true ups downs = ups
    by_way false ups downs = downs
