-- A session stays in its ranges whatever command comes that is in its own.
use Rattle.std.proofs.Common.{◌≡◌, ℕ, ◌-◌, ◌<◌, ◌≤◌, ◌^◌, ◌==◌, ◌&&◌, not, if◌then◌else◌, Bool, true, false, List, [], ◌∷◌, ◌++◌, length, Option, Some, None, IfSome, unwrap_or, refl, arith}
use Rattle.std.specs.List.{AllByRecursion, find, range_with_len}
use Rattle.std.specs.Option.{option_and_then, option_map, option_or}
use Rattle.std.proofs.lemmas.Bool.Decides.{nat_tests}
use Rattle.pc_base.specs.declared.packet.Peer.{Peer}
use Rattle.tft_codec.specs.declared.filter.Filter.{Filter}
use Rattle.gtpv2_msg.specs.Message.{Message}
use Rattle.gtpv2_msg.specs.Spelling.{header_octets, spelling}
use Rattle.gtpv2_ie.specs.Spelling.{spellings}
use Rattle.bearer_state.specs.Bearer.{AreBearers, IsBearer, IsEbi, IsSeq, index_of, is_active, is_asked}
use Rattle.bearer_state.specs.Changes as changes
use Rattle.bearer_state.specs.Lookup.{at_index, has_active, has_asked, has_dedicated, has_index, is_dedicated, least_free}
use Rattle.bearer_state.specs.Qos.{IsArp, IsQos, is_guaranteed}
use Rattle.bearer_state.specs.Session.{IsKept, IsSession, SessionState, new_session}
use Rattle.bearer_state.specs.Version.{active_in}
use Rattle.bearer_state.specs.declared.bearer.Bearer.{Bearer}
use Rattle.bearer_state.specs.declared.bearer.Phase.{Phase}
use Rattle.bearer_state.specs.declared.bearer.Phase.TheVariants.{Asked, Active}
use Rattle.bearer_state.specs.declared.qos.Qos.{Qos}
use Rattle.bearer_state.specs.declared.version.ActiveBearer.{ActiveBearer}
use Rattle.bearer_state.proofs.BearerLemmas.{bearers_filtered, bearers_granted, bearers_placed, bearers_rebound, bearers_unbound, bearers_without}
use Rattle.bearer_state.proofs.SessionLemmas.{asked_fits, denied_fits, dropped_fits, granted_fits, rebound_fits, refiltered_fits, released_fits}
use Rattle.control_steps.specs.Command.{AreRates, request_of}
use Rattle.control_steps.specs.ReadBack.{AreOrderNumbers}
use Rattle.control_steps.specs.Row.{Row, repeated, pdn_refused, class_refused, created, attached, no_session, no_bearer, modified, released, deleted, not_asked, asked, not_refiltered, refiltered, not_dropped, dropped, not_rerated, rerated, unasked, granted, denied}
use Rattle.control_steps.specs.Row.{all_active, can_ask, can_refilter, filters_given, filters_made, first_row, grants, is_repeat, row_of}
use Rattle.control_steps.specs.Table.{controlled, effect, kept_answer, last_answer, ordered_ebi, ordered_qos, qos_asked, with_bearer, with_enb, with_filters, written}
use Rattle.control_steps.specs.declared.command.CommandKind.{CommandKind}
use Rattle.control_steps.specs.declared.command.CommandKind.TheVariants.{Attach, Create, Modify, Release, Delete, AddBearer, Filters, Drop, Ambr, CreateAns, UpdateAns, DeleteAns}
use Rattle.report_laws.proofs.KeptRanges.{CommandKept}

-- a session and its bearers in their ranges
pub record SessionKept (session : SessionState) : Type 0 where
  pub fits : IsSession session
  pub bearers : AreBearers session.bearers

pub new_kept : (slot : ℕ) → SessionKept (new_session slot)
new_kept slot = record {
  fits = record {
    up = omega arith;
    down = omega arith;
    rates = omega arith;
    lives = omega arith;
    lives_below = tt;
    bearers = refl;
    last = tt;
  };
  bearers = record { each = tt; apart = tt };
}

-- what is found of a list
first_as : {X : Type 0} (P : X → Type 0) (p : X → Bool) (x : X) (rest : Option X) (passes : Bool) → p x ≡ passes
    → P x → IfSome rest (λ y. P y × (p y ≡ true))
    → IfSome (if passes then Some x else rest) (λ y. P y × (p y ≡ true))
first_as P p x rest true is own others = (own, is)
first_as P p x rest false is own others = others

found_as : {X : Type 0} (P : X → Type 0) (p : X → Bool) (xs : List X) → AllByRecursion P xs
    → IfSome (find p xs) (λ x. P x × (p x ≡ true))
found_as P p [] all = tt
found_as P p (x ∷ xs) all = first_as P p x (find p xs) (p x) refl all.0 (found_as P p xs all.1)

not_true : (a : Bool) → not a ≡ true → a ≡ false
not_true true is = absurd cc
not_true false is = refl

-- a new bearer takes a free index, and the ARP of the default bearer
free_index : (bearers : List Bearer)
    → IfSome (least_free bearers) (λ index. (index ≤ 10) × (not (has_index bearers index) ≡ true))
free_index bearers =
    found_as (λ index. index ≤ 10) (λ index. not (has_index bearers index)) (range_with_len 0 11) (
      omega arith,
      (
        omega arith,
        (
          omega arith,
          (
            omega arith,
            (
              omega arith,
              (
                omega arith,
                (
                  omega arith,
                  (
                    omega arith,
                    (omega arith, (omega arith, (omega arith, tt))),
                  ),
                ),
              ),
            ),
          ),
        ),
      ),
    )

active_arp : (bearer : Bearer) (phase : Phase) → IsArp bearer.qos.arp
    → IsArp (unwrap_or (option_map (λ (b : ActiveBearer). b.qos.arp) (active_in bearer phase)) 0)
active_arp bearer (Asked seq) arp = record { bit_8 = omega arith; bit_2 = refl }
active_arp bearer (Active ebi) arp = arp

found_arp : (found : Option Bearer) → IfSome found (λ b. IsBearer b × (index_of b == 0) ≡ true)
    → IsArp (unwrap_or (option_map (λ (b : ActiveBearer). b.qos.arp)
    (option_and_then (λ (b : Bearer). active_in b b.phase) found)) 0)
found_arp None is = record { bit_8 = omega arith; bit_2 = refl }
found_arp (Some b) is = active_arp b b.phase is.0.qos.arp

asked_qos : (bearers : List Bearer) (qci mbr_up mbr_down gbr_up gbr_down : ℕ) → AllByRecursion IsBearer bearers
    → AreOrderNumbers qci mbr_up mbr_down gbr_up gbr_down
    → IsQos (qos_asked bearers qci mbr_up mbr_down gbr_up gbr_down)
asked_qos bearers qci mbr_up mbr_down gbr_up gbr_down each are = record {
  arp = found_arp (at_index bearers 0) (found_as IsBearer (λ (b : Bearer). index_of b == 0) bearers each);
  qci = are.class_fits;
  mbr_up = are.mbr_up_fits;
  mbr_down = are.mbr_down_fits;
  gbr_up = are.gbr_up_fits;
  gbr_down = are.gbr_down_fits;
}

-- what a command leaves, but for the answer that is kept
module _ (session : SessionState) (kept : SessionKept session) (few_rates : session.rates ≤ 2 ^ 61 - 20)
    (few_lives : session.lives ≤ 2 ^ 61 - 20) where
  abbrev Leaves : CommandKind → Row → Type 0
  Leaves command row = SessionKept (effect row session command)

  either : (command : CommandKind) (test : Bool) (one other : Row) → Leaves command one → Leaves command other
      → Leaves command (if test then one else other)
  either command true one other first second = first
  either command false one other first second = second

  attaches : (mme : Option Peer) (up down ebi : ℕ) (qos : Qos) (enb : Option Peer) → IsEbi ebi → IsQos qos
      → AreRates up down → SessionKept (changes.attached session mme up down ebi qos enb)
  attaches mme up down ebi qos enb own own_qos rates = record {
    fits = record {
      up = rates.up_fits;
      down = rates.down_fits;
      rates = omega (arith, few_rates);
      lives = omega (arith, few_lives);
      lives_below = (omega arith, tt);
      bearers = (refl, tt);
      last = kept.fits.last;
    };
    bearers = record { each = (record { index = omega arith; phase = own; qos = own_qos }, tt); apart = (tt, tt) };
  }

  with_mme : (mme : Option Peer) → IsSession (changes.with_mme session mme)
  with_mme mme = record {
    up = kept.fits.up;
    down = kept.fits.down;
    rates = kept.fits.rates;
    lives = kept.fits.lives;
    lives_below = kept.fits.lives_below;
    bearers = kept.fits.bearers;
    last = kept.fits.last;
  }

  detaches : SessionKept (changes.detached session)
  detaches = record {
    fits = record {
      up = kept.fits.up;
      down = kept.fits.down;
      rates = kept.fits.rates;
      lives = kept.fits.lives;
      lives_below = tt;
      bearers = refl;
      last = kept.fits.last;
    };
    bearers = record { each = tt; apart = tt };
  }

  sets_rates : (up down : ℕ) → AreRates up down → SessionKept (changes.rerated session up down)
  sets_rates up down rates = record {
    fits = record {
      up = rates.up_fits;
      down = rates.down_fits;
      rates = omega (arith, few_rates);
      lives = kept.fits.lives;
      lives_below = kept.fits.lives_below;
      bearers = kept.fits.bearers;
      last = kept.fits.last;
    };
    bearers = kept.bearers;
  }

  bearer_comes : (seq : ℕ) (qos : Qos) (index : Option ℕ) (filters : Option (List Filter)) → IsSeq seq → IsQos qos
      → session.live ≡ true
      → IfSome index (λ i. (i ≤ 10) × (not (has_index session.bearers i) ≡ true))
      → SessionKept (with_bearer session seq qos index filters)
  bearer_comes seq qos (Some index) (Some filters) own own_qos live free = record {
    fits = asked_fits session index seq qos filters kept.fits live few_lives;
    bearers = bearers_placed (changes.asked_bearer session.lives index seq qos filters) session.bearers
        (record { index = free.0; phase = own; qos = own_qos }) (λ ebi. refl)
        (not_true (has_index session.bearers index) free.1) kept.fits.lives_below kept.bearers;
  }
  bearer_comes seq qos (Some index) None own own_qos live free = kept
  bearer_comes seq qos None filters own own_qos live free = kept

  filters_come : (ebi : ℕ) (filters : Option (List Filter)) → SessionKept (with_filters session ebi filters)
  filters_come ebi None = kept
  filters_come ebi (Some filters) = record {
    fits = refiltered_fits session ebi filters kept.fits;
    bearers = bearers_filtered (is_active ebi) filters session.bearers kept.bearers;
  }

  enb_comes : (seq ebi : ℕ) (enb : Option Peer) → IsEbi ebi → has_active session.bearers ebi ≡ false
      → SessionKept (with_enb session seq ebi enb)
  enb_comes seq ebi None own free = kept
  enb_comes seq ebi (Some enb) own free = record {
    fits = granted_fits session seq ebi enb kept.fits;
    bearers = bearers_granted (is_asked seq) ebi enb session.bearers own free kept.bearers;
  }

  both : (a b : Bool) → (a && b) ≡ true → (a ≡ true) × (b ≡ true)
  both true b is = (refl, is)
  both false b is = absurd cc

  asks : (seq qci mbr_up mbr_down gbr_up gbr_down : ℕ) (tft : _) → IsSeq seq
      → AreOrderNumbers qci mbr_up mbr_down gbr_up gbr_down → (may : Bool) → can_ask session tft ≡ may
      → Leaves (AddBearer seq qci mbr_up mbr_down gbr_up gbr_down tft) (if not may then not_asked else asked)
  asks seq qci mbr_up mbr_down gbr_up gbr_down tft own are true is =
      let live : session.live ≡ true = grind (arith, nat_tests, is) in
      bearer_comes seq (qos_asked session.bearers qci mbr_up mbr_down gbr_up gbr_down) (least_free session.bearers)
      (filters_given tft) own
      (asked_qos session.bearers qci mbr_up mbr_down gbr_up gbr_down kept.bearers.each are) live
      (free_index session.bearers)
  asks seq qci mbr_up mbr_down gbr_up gbr_down tft own are false is = kept

  gets : (seq cause ebi row_cause : ℕ) (enb : Option Peer) (may : Bool)
      → grants session.bearers cause ebi row_cause enb ≡ may
      → Leaves (CreateAns seq cause ebi row_cause enb) (if may then granted else denied)
  gets seq cause ebi row_cause enb true is =
      let least : 5 ≤ ebi = grind (arith, nat_tests, is) in
      let most : ebi ≤ 15 = grind (arith, nat_tests, is) in
      let free : has_active session.bearers ebi ≡ false = grind (arith, nat_tests, is) in
      enb_comes seq ebi enb (record { least = least; most = most }) free
  gets seq cause ebi row_cause enb false is = record {
    fits = denied_fits session seq kept.fits;
    bearers = bearers_without (is_asked seq) session.bearers kept.bearers;
  }

  first_leaves : (command : CommandKind) → CommandKept command → Leaves command (first_row session command)
  first_leaves (Create seq mme pdn ebi qos enb up down) is =
      either _ (pdn == 2) pdn_refused _ kept
      (either _ (is_guaranteed qos.qci) class_refused created kept (attaches (Some mme) up down ebi qos enb is.1 is.2 is.3))
  first_leaves (Attach enb up down) is =
      attaches None up down ordered_ebi ordered_qos (Some enb) (record { least = omega arith; most = omega arith })
      (record {
        arp = record { bit_8 = omega arith; bit_2 = refl };
        qci = omega arith;
        mbr_up = omega arith;
        mbr_down = omega arith;
        gbr_up = omega arith;
        gbr_down = omega arith;
      }) is
  first_leaves (Modify seq mme asks) is =
      either _ (not session.live) no_session _ kept
      (either _ (not (all_active session.bearers asks)) no_bearer modified kept (record {
        fits = rebound_fits (changes.with_mme session mme) asks (with_mme mme);
        bearers = bearers_rebound asks session.bearers kept.bearers;
      }))
  first_leaves (Release seq) is =
      either _ (not session.live) no_session released kept (record {
        fits = released_fits session kept.fits;
        bearers = bearers_unbound session.bearers kept.bearers;
      })
  first_leaves (Delete seq) is = either _ (not session.live) no_session deleted kept detaches
  first_leaves (AddBearer seq qci mbr_up mbr_down gbr_up gbr_down tft) is =
      asks seq qci mbr_up mbr_down gbr_up gbr_down tft is.0 is.1 (can_ask session tft) refl
  first_leaves (Filters seq ebi tft) is =
      either _ (not (can_refilter session ebi tft)) not_refiltered refiltered kept
      (filters_come ebi (filters_made session.bearers ebi tft))
  first_leaves (Drop seq ebi) is =
      either _ (not (session.live && has_dedicated session.bearers ebi)) not_dropped dropped kept (record {
        fits = dropped_fits session ebi kept.fits;
        bearers = bearers_without (is_dedicated ebi) session.bearers kept.bearers;
      })
  first_leaves (Ambr seq up down) is =
      either _ (not session.live) not_rerated rerated kept (sets_rates up down is)
  first_leaves (CreateAns seq cause ebi row_cause enb) is =
      either _ (not (has_asked session.bearers seq)) unasked _ kept
      (gets seq cause ebi row_cause enb (grants session.bearers cause ebi row_cause enb) refl)
  first_leaves (UpdateAns seq) is = kept
  first_leaves (DeleteAns seq) is = kept

  leaves : (command : CommandKind) → CommandKept command → Leaves command (row_of session command)
  leaves command is = either command (is_repeat session command) repeated _ kept (first_leaves command is)

  -- the answer that is kept
  request_kept : (command : CommandKind) → CommandKept command → IfSome (request_of command) (λ r. IsSeq r.1)
  request_kept (Create seq mme pdn ebi qos enb up down) is = is.0
  request_kept (Modify seq mme each) is = is
  request_kept (Release seq) is = is
  request_kept (Delete seq) is = is
  request_kept command is = tt

  header_some : (kind : ℕ) (teid : Option ℕ) (seq len : ℕ) (ies : List ℕ)
      → 0 < length (header_octets kind teid seq len ++ ies)
  header_some kind None seq len ies = omega arith
  header_some kind (Some teid) seq len ies = omega arith

  spelled_some : (message : Option Message) → IfSome (option_map spelling message) (λ answer. 0 < length answer)
  spelled_some None = tt
  spelled_some (Some message) =
      header_some message.kind message.teid message.seq (length (spellings message.ies)) (spellings message.ies)

  answer_kept : (request : Option (ℕ × ℕ)) (answer : Option (List ℕ)) → IfSome request (λ r. IsSeq r.1)
      → IfSome answer (λ a. 0 < length a) → IfSome (option_or (kept_answer request answer) session.last) IsKept
  answer_kept None answer seq some = kept.fits.last
  answer_kept (Some request) None seq some = kept.fits.last
  answer_kept (Some request) (Some answer) seq some = record { seq = seq; reply = some }

  last_kept : (row : Row) (command : CommandKind) → CommandKept command
      → IfSome (last_answer row session command) IsKept
  last_kept repeated command is = kept.fits.last
  last_kept row command is =
      answer_kept (request_of command) (option_map spelling (written row session command)) (request_kept command is)
      (spelled_some (written row session command))

  pub controlled_kept : (command : CommandKind) → CommandKept command → SessionKept (controlled session command).0
  controlled_kept command is =
      let left = leaves command is in
      record {
        fits = record {
          up = left.fits.up;
          down = left.fits.down;
          rates = left.fits.rates;
          lives = left.fits.lives;
          lives_below = left.fits.lives_below;
          bearers = left.fits.bearers;
          last = last_kept (row_of session command) command is;
        };
        bearers = left.bearers;
      }
