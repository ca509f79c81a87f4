-- A session with its bearers: its text and its reader.
use Rattle.std.proofs.Common.{◌≡◌, ℕ, ◌<◌, ◌^◌, Bool, true, false, ltb, List, [], ◌∷◌, ◌++◌, Option, Some, None, refl, ap, subst, ◌∙◌, arith}
use Rattle.std.specs.Prelude.{IfSome}
use Rattle.std.specs.Int.{w32}
use Rattle.std.specs.List.{AllByRecursion}
use Rattle.std.specs.Option.{option_and_then}
use Rattle.std.specs.Bool.{Decides}
use Rattle.std.proofs.lemmas.Bool.Decides.{Decides-and, Decides-ltb}
use Rattle.pc_base.specs.declared.packet.Peer.{Peer}
use Rattle.tft_codec.specs.Filter.{AreFilters, ids}
use Rattle.tft_codec.proofs.Kept.{filters_few}
use Rattle.bearer_state.specs.declared.bearer.Phase.{Phase}
use Rattle.bearer_state.specs.declared.bearer.Phase.TheVariants.{Asked, Active}
use Rattle.bearer_state.specs.declared.bearer.Bearer.{Bearer}
use Rattle.bearer_state.specs.declared.kept.Kept.{Kept}
use Rattle.bearer_state.specs.declared.qos.Qos.{Qos}
use Rattle.bearer_state.specs.Bearer.{AreBearers, IsBearer, IsPhase}
use Rattle.bearer_state.specs.Session.{SessionState, IsKept, HasBearersOf}
use Rattle.bearer_state.proofs.Few.{few_bearers}
use Rattle.record_codec.specs.Saved.{IsPeer, IsAnswer, IsOwnBearer, IsSavedSession}
use Rattle.record_codec.specs.Spelling.{flag, listed, peer_text, kept_text, phase_text, qos_text, filter_text, bearer_text, session_text}
use Rattle.record_codec.specs.Read.{and_then, done, octet_at, number_at, filters_differ, flag_at, peer_at, is_kept, kept_at, phase_behind, phase_at, filters_at, qos_at, bearer_at, are_bearers, bearers_at, is_session, session_at, lives_below, has_bearers_of}
use Rattle.record_codec.proofs.Codecs.{AreOctets, octets_behind, IsCodec, bind_some, some_is, like, field, last_field, such_codec, octet_codec, flag_codec, option_codec, listed_codec}
use Rattle.record_codec.proofs.Numbers.{codec_32, codec_64, measured_codec, count_codec, rate_codec}
use Rattle.record_codec.proofs.FilterCodec.{filter_codec}
use Rattle.record_codec.proofs.Tests.{kept_decides, bearers_decide, distinct_decides, bearers_of_decides, lives_decide}

pub peer_codec : IsCodec IsPeer peer_text peer_at
unfolding peer_at
peer_codec =
    like (field {C = λ p. Unit {0}} (λ (r : Peer). r.teid) codec_32 (λ teid teid_fits.
    last_field (λ (r : Peer). r.addr) (λ addr. record { teid = teid; addr = addr }) codec_32 (λ addr fits. (
      (
        tt,
        refl,
      ),
      refl,
    )) (λ r is fits. let same : ◌≡◌ {A = Peer} (record { teid = teid; addr = r.addr }) (record {
      teid = r.teid;
      addr = r.addr;
    }) = cc in same)))
    (λ p h. record { teid = h.1.0; addr = h.1.1 }) (λ p f. (tt, (f.teid, f.addr)))

pub kept_codec : IsCodec (λ kept. IsAnswer kept × IsKept kept) kept_text kept_at
unfolding kept_at
kept_codec =
    like (such_codec is_kept (field {C = λ k. Unit {0}} (λ (r : Kept). r.kind) octet_codec (λ kind kind_fits.
    field (λ (r : Kept). r.seq) codec_32 (λ seq seq_fits.
    last_field (λ (r : Kept). r.reply) (λ reply. record { kind = kind; seq = seq; reply = reply }) (measured_codec
    codec_32) (λ reply fits. (((tt, refl), refl), refl)) (λ r is fits. let same : ◌≡◌ {A = Kept} (record {
      kind =
          kind;
      seq = seq;
      reply = r.reply;
    }) (record { kind = r.kind; seq = r.seq; reply = r.reply }) = cc in same)))))
    (λ k h. (record { kind = h.0.1.0; reply = h.0.1.1.1 }, (kept_decides k).0 h.1))
    (λ k f. ((tt, (f.0.kind, (omega (arith, f.1.seq), f.0.reply))), (kept_decides k).1 f.1))

-- the numbers of a phase have their octets
abbrev IsPhaseText : Phase → Type 0
IsPhaseText (Asked seq) = seq < 2 ^ 32
IsPhaseText (Active ebi) = ebi < 256

phase_codec : IsCodec IsPhaseText phase_text phase_at
unfolding and_then flag_at phase_at
phase_codec = record { takes = taken; again = again_ }
  where
    by_flag : (octets : List ℕ) (b : Bool) (left : List ℕ) (phase : Phase) (rest : List ℕ) → AreOctets left
        → octets ≡ flag b ++ left → phase_behind b left ≡ Some (phase, rest)
        → (octets ≡ phase_text phase ++ rest) × IsPhaseText phase
    by_flag octets false left phase rest small is e =
        let b = bind_some (number_at w32 left) (λ a. done (Asked a.0) a.1) (phase, rest) e in
        let t = codec_32.takes left b.0.0 b.0.1 small b.1 in
        let found = some_is (Asked b.0.0, b.0.1) (phase, rest) b.2 in
        subst (λ p. (octets ≡ phase_text p.0 ++ p.1) × IsPhaseText p.0) found
        (is ∙ ap (λ (u : List ℕ). 0 ∷ u) t.0, t.1)
    by_flag octets true left phase rest small is e =
        let b = bind_some (octet_at left) (λ a. done (Active a.0) a.1) (phase, rest) e in
        let t = octet_codec.takes left b.0.0 b.0.1 small b.1 in
        let found = some_is (Active b.0.0, b.0.1) (phase, rest) b.2 in
        subst (λ p. (octets ≡ phase_text p.0 ++ p.1) × IsPhaseText p.0) found
        (is ∙ ap (λ (u : List ℕ). 1 ∷ u) t.0, t.1)

    taken : (octets : List ℕ) (phase : Phase) (rest : List ℕ) → AreOctets octets
        → phase_at octets ≡ Some (phase, rest) → (octets ≡ phase_text phase ++ rest) × IsPhaseText phase
    taken octets phase rest small e =
        let b = bind_some (flag_at octets) (λ a. phase_behind a.0 a.1) (phase, rest) e in
        let t = flag_codec.takes octets b.0.0 b.0.1 small b.1 in
        by_flag octets b.0.0 b.0.1 phase rest (octets_behind octets (flag b.0.0) b.0.1 small t.0) t.0 b.2

    again_ : (phase : Phase) (rest : List ℕ) → IsPhaseText phase → phase_at (phase_text phase ++ rest) ≡ Some (
      phase,
      rest,
    )
    again_ (Asked seq) rest fits = ap (λ r. option_and_then (λ a. done (Asked a.0) a.1) r) (codec_32.again seq rest
        fits)
    again_ (Active ebi) rest fits = refl

filters_codec : IsCodec AreFilters (listed filter_text) filters_at
filters_codec =
    like (such_codec filters_differ (listed_codec filter_codec))
    (λ filters h. record { each = h.0.1; differ = (distinct_decides (ids filters)).0 h.1 })
    (λ filters f. ((omega (arith, filters_few filters f), f.each), (distinct_decides (ids filters)).1 f.differ))

-- what the octets of a quality of service and of a bearer keep by themselves
pub record IsQosText (qos : Qos) : Type 0 where
  pub arp : qos.arp < 256
  pub qci : qos.qci < 256
  pub mbr_up : qos.mbr_up < 2 ^ 40
  pub mbr_down : qos.mbr_down < 2 ^ 40
  pub gbr_up : qos.gbr_up < 2 ^ 40
  pub gbr_down : qos.gbr_down < 2 ^ 40

qos_codec : IsCodec IsQosText qos_text qos_at
unfolding qos_at
qos_codec =
    like (field {C = λ q. Unit {0}} (λ (r : Qos). r.arp) octet_codec (λ arp arp_fits.
    field (λ (r : Qos). r.qci) octet_codec (λ qci qci_fits.
    field (λ (r : Qos). r.mbr_up) rate_codec (λ mbr_up mbr_up_fits.
    field (λ (r : Qos). r.mbr_down) rate_codec (λ mbr_down mbr_down_fits.
    field (λ (r : Qos). r.gbr_up) rate_codec (λ gbr_up gbr_up_fits.
    last_field (λ (r : Qos). r.gbr_down) (λ gbr_down. record {
      arp = arp;
      qci = qci;
      mbr_up = mbr_up;
      mbr_down =
          mbr_down;
      gbr_up = gbr_up;
      gbr_down = gbr_down;
    }) rate_codec (λ gbr_down fits. (
      (
        (
          (((tt, refl), refl), refl),
          refl,
        ),
        refl,
      ),
      refl,
    )) (λ r is fits. let same : ◌≡◌ {A = Qos} (record {
      arp = arp;
      qci = qci;
      mbr_up = mbr_up;
      mbr_down = mbr_down;
      gbr_up = gbr_up;
      gbr_down = r.gbr_down;
    }) (record {
      arp = r.arp;
      qci = r.qci;
      mbr_up =
          r.mbr_up;
      mbr_down = r.mbr_down;
      gbr_up = r.gbr_up;
      gbr_down = r.gbr_down;
    }) = cc in same)))))))
    (λ q h. record {
      arp = h.1.0;
      qci = h.1.1.0;
      mbr_up = h.1.1.1.0;
      mbr_down = h.1.1.1.1.0;
      gbr_up = h.1.1.1.1.1.0;
      gbr_down = h.1.1.1.1.1.1;
    })
    (λ q f. (tt, (f.arp, (f.qci, (f.mbr_up, (f.mbr_down, (f.gbr_up, f.gbr_down)))))))

pub record IsBearerText (bearer : Bearer) : Type 0 where
  pub index : bearer.choice.index < 256
  pub life : bearer.life < 2 ^ 64
  pub phase : IsPhaseText bearer.phase
  pub qos : IsQosText bearer.qos
  pub own : IsOwnBearer bearer

bearer_codec : IsCodec IsBearerText bearer_text bearer_at
unfolding bearer_at
bearer_codec =
    like (field {C = λ b. Unit {0}} (λ (r : Bearer). r.choice.index) octet_codec (λ index index_fits.
    field (λ (r : Bearer). r.life) codec_64 (λ life life_fits.
    field (λ (r : Bearer). r.phase) phase_codec (λ phase phase_fits.
    field (λ (r : Bearer). r.qos) qos_codec (λ qos qos_fits.
    field (λ (r : Bearer). r.enb) (option_codec peer_codec) (λ enb enb_fits.
    last_field (λ (r : Bearer). r.choice.filters) (λ filters. record {
      life = life;
      phase = phase;
      qos = qos;
      enb =
          enb;
      choice = record { index = index; filters = filters };
    }) filters_codec (λ filters fits. (
      (
        (
          (
            (
              (tt, refl),
              refl,
            ),
            refl,
          ),
          refl,
        ),
        refl,
      ),
      refl,
    )) (λ r is fits. let same : ◌≡◌ {A = Bearer} (record {
      life = life;
      phase =
          phase;
      qos = qos;
      enb = enb;
      choice = record { index = index; filters = r.choice.filters };
    }) (record {
      life = r.life;
      phase = r.phase;
      qos = r.qos;
      enb = r.enb;
      choice = record {
        index = r.choice.index;
        filters =
            r.choice.filters;
      };
    }) = cc in same)))))))
    (λ b h. record {
      index = h.1.0;
      life = h.1.1.0;
      phase = h.1.1.1.0;
      qos = h.1.1.1.1.0;
      own = record {
        enb =
            h.1.1.1.1.1.0;
        filters = h.1.1.1.1.1.1;
      };
    })
    (λ b f. (tt, (f.index, (f.life, (f.phase, (f.qos, (f.own.enb, f.own.filters)))))))

-- bearers that may be saved, with lives of eight octets
pub record AreBearersText (bearers : List Bearer) : Type 0 where
  pub are : AreBearers bearers
  pub own : AllByRecursion IsOwnBearer bearers
  pub lives : AllByRecursion (λ bearer. bearer.life < 2 ^ 64) bearers

owns : (bearers : List Bearer) → AllByRecursion IsBearerText bearers → AllByRecursion IsOwnBearer bearers
owns [] each = tt
owns (bearer ∷ bearers) each = (each.0.own, owns bearers each.1)

all_lives : (bearers : List Bearer) → AllByRecursion IsBearerText bearers
    → AllByRecursion (λ (bearer : Bearer). bearer.life < 2 ^ 64) bearers
all_lives [] each = tt
all_lives (bearer ∷ bearers) each = (each.0.life, all_lives bearers each.1)

phase_fits : (phase : Phase) → IsPhase phase → IsPhaseText phase
phase_fits (Asked seq) is = omega (arith, is)
phase_fits (Active ebi) is = omega (arith, is.most)

texts : (bearers : List Bearer) → AllByRecursion IsBearer bearers → AllByRecursion IsOwnBearer bearers
    → AllByRecursion (λ (bearer : Bearer). bearer.life < 2 ^ 64) bearers → AllByRecursion IsBearerText bearers
texts [] each own lives = tt
texts (bearer ∷ bearers) each own lives =
    let one = each.0 in (
      record {
        index = omega (arith, one.index);
        life = lives.0;
        phase = phase_fits bearer.phase one.phase;
        qos = record {
          arp = omega (arith, one.qos.arp.bit_8);
          qci = omega (arith, one.qos.qci);
          mbr_up = one.qos.mbr_up;
          mbr_down = one.qos.mbr_down;
          gbr_up = one.qos.gbr_up;
          gbr_down = one.qos.gbr_down;
        };
        own = own.0;
      },
      texts bearers each.1 own.1 lives.1,
    )

bearers_codec : IsCodec AreBearersText (listed bearer_text) bearers_at
bearers_codec =
    like (such_codec are_bearers (listed_codec bearer_codec))
    (λ bearers h. record {
      are = (bearers_decide bearers).0 h.1;
      own = owns bearers h.0.1;
      lives = all_lives bearers
          h.0.1;
    })
    (λ bearers f. (
      (omega (arith, few_bearers bearers f.are), texts bearers f.are.each f.own f.lives),
      (bearers_decide bearers).1 f.are,
    ))

lives_fit : (lives : ℕ) (bearers : List Bearer) → lives < 2 ^ 50
    → AllByRecursion (λ (bearer : Bearer). bearer.life < lives) bearers
    → AllByRecursion (λ (bearer : Bearer). bearer.life < 2 ^ 64) bearers
lives_fit lives [] few below = tt
lives_fit lives (bearer ∷ bearers) few below = (omega (arith, below.0), lives_fit lives bearers few below.1)

is_some_answer : (last : Option Kept) → IfSome last (λ kept. IsAnswer kept × IsKept kept) → IfSome last IsAnswer
is_some_answer None h = tt
is_some_answer (Some kept) h = h.0

is_some_kept : (last : Option Kept) → IfSome last (λ kept. IsAnswer kept × IsKept kept) → IfSome last IsKept
is_some_kept None h = tt
is_some_kept (Some kept) h = h.1

both_kept : (last : Option Kept) → IfSome last IsAnswer → IfSome last IsKept
    → IfSome last (λ kept. IsAnswer kept × IsKept kept)
both_kept None a k = tt
both_kept (Some kept) a k = (a, k)

-- the session of a slot
pub record IsSessionAt (slot : ℕ) (session : SessionState) : Type 0 where
  pub slot_is : session.slot ≡ slot
  pub saved : IsSavedSession session

pub session_parts : (s : SessionState) → Decides (is_session s)
    ((s.up < 2 ^ 32) × ((s.down < 2 ^ 32) × (AllByRecursion (λ bearer. bearer.life < s.lives) s.bearers
    × HasBearersOf s.live s.bearers)))
session_parts s =
    Decides-and (ltb s.up (2 ^ 32)) _ (Decides-ltb s.up (2 ^ 32))
    (Decides-and (ltb s.down (2 ^ 32)) _ (Decides-ltb s.down (2 ^ 32))
    (Decides-and (lives_below s.lives s.bearers) (has_bearers_of s.live s.bearers) (lives_decide s.lives s.bearers)
    (bearers_of_decides s.live s.bearers)))

pub session_codec : (slot : ℕ) → IsCodec (IsSessionAt slot) session_text (session_at slot)
unfolding session_at
session_codec slot =
    like (such_codec is_session (field {C = λ s. s.slot ≡ slot} (λ (r : SessionState). r.live) flag_codec (λ live
    live_fits.
    field (λ (r : SessionState). r.mme) (option_codec peer_codec) (λ mme mme_fits.
    field (λ (r : SessionState). r.up) rate_codec (λ up up_fits.
    field (λ (r : SessionState). r.down) rate_codec (λ down down_fits.
    field (λ (r : SessionState). r.rates) count_codec (λ rates rates_fits.
    field (λ (r : SessionState). r.lives) count_codec (λ lives lives_fits.
    field (λ (r : SessionState). r.last) (option_codec kept_codec) (λ last last_fits.
    last_field (λ (r : SessionState). r.bearers) (λ bearers. record {
      slot = slot;
      live = live;
      mme = mme;
      up = up;
      down = down;
      rates = rates;
      bearers = bearers;
      lives = lives;
      last = last;
    }) bearers_codec (λ bearers fits.
    ((((((((refl, refl), refl), refl), refl), refl), refl), refl), refl)) (λ r is fits. let same : ◌≡◌ {A =
    SessionState} (record {
      slot = slot;
      live = live;
      mme = mme;
      up = up;
      down = down;
      rates = rates;
      bearers =
          r.bearers;
      lives = lives;
      last = last;
    }) (record {
      slot = r.slot;
      live = r.live;
      mme = r.mme;
      up = r.up;
      down = r.down;
      rates = r.rates;
      bearers = r.bearers;
      lives = r.lives;
      last = r.last;
    }) = cc in same))))))))))
    (λ s h.
    let p = (session_parts s).0 h.1 in
    let f = h.0.1 in
    let rates = f.1.1.1.1.0 in
    let lives = f.1.1.1.1.1.0 in
    let last = f.1.1.1.1.1.1.0 in
    let bearers = f.1.1.1.1.1.1.1 in
    record {
      slot_is = h.0.0;
      saved = record {
        ranges = record {
          up = p.0;
          down = p.1.0;
          rates = omega (arith, rates);
          lives = omega (arith, lives);
          lives_below = p.1.1.0;
          bearers = p.1.1.1;
          last = is_some_kept s.last last;
        };
        bearers = bearers.are;
        own = bearers.own;
        mme = f.1.0;
        rates = rates;
        lives = lives;
        answer = is_some_answer s.last last;
      };
    })
    (λ s f.
    let k = f.saved in
    let bearers : AreBearersText s.bearers
    = record { are = k.bearers; own = k.own; lives = lives_fit s.lives s.bearers k.lives k.ranges.lives_below } in (
      (
        f.slot_is,
        (
          tt,
          (
            k.mme,
            (
              omega (arith, k.ranges.up),
              (
                omega (arith, k.ranges.down),
                (
                  k.rates,
                  (
                    k.lives,
                    (both_kept s.last k.answer k.ranges.last, bearers),
                  ),
                ),
              ),
            ),
          ),
        ),
      ),
      (session_parts s).1 (k.ranges.up, (k.ranges.down, (k.ranges.lives_below, k.ranges.bearers))),
    ))
