-- As often as a packet was held, it had its fate or is held still.
use Rattle.std.proofs.Common.{◌≡◌, ℕ, ◌+◌, ◌==◌, ◌&&◌, Bool, true, false, cond, List, [], ◌∷◌, ◌++◌, fold, Option, Some, None, refl, ap, ◌∙◌, arith}
use Rattle.std.specs.List.{sum_by, count_by, flat_map}
use Rattle.std.proofs.lemmas.List.Sums.{sum_by-append, sum_by-cons}
use Rattle.pc_base.specs.declared.effect.Effect.{Effect}
use Rattle.pc_base.specs.declared.effect.Effect.TheVariants as effect
use Rattle.pc_base.specs.declared.packet.Packet.{Packet}
use Rattle.pc_base.specs.declared.packet.Peer.{Peer}
use Rattle.pc_base.specs.declared.packet.Verdict.{Verdict}
use Rattle.bearer_state.specs.declared.version.ActiveBearer.{ActiveBearer}
use Rattle.bearer_state.specs.Version.{VersionState}
use Rattle.packet_steps.specs.Rows.{HeldRow}
use Rattle.packet_steps.specs.Messages.{end_marker}
use Rattle.packet_steps.specs.Past.{Past}
use Rattle.packet_steps.specs.Verdicts.{at_moment, judged}
use Rattle.packet_steps.specs.Change.{marker_between, marker_for, markers, enb_of, same_peer, marked, released, learnt}
use Rattle.gate_model.specs.declared.event.Event.{Event}
use Rattle.gate_model.specs.declared.event.Event.TheVariants as event
use Rattle.gate_model.specs.SlotPast.{SlotPast, new_slot, next_version, commanded, met, happens, behind}
use Rattle.gate_model.specs.Stories.{Episode, episodes_from}
use Rattle.gate_model.specs.Holding.{is_held, holds, is_fate_of, fates_in, fates_at, waiting, EachHeldPacketOnce}
use Rattle.gate_model.proofs.Outcomes.{JudgedAs, nothing, ReleasedAs, ends, judged_as, released_as}
use Rattle.gate_model.proofs.Outcomes as outcomes

abbrev counts : ℕ → HeldRow → ℕ
counts number row = cond (row.packet.number == number) 1 0

waiting-push : (number : ℕ) (rows : List HeldRow) (row : HeldRow)
    → waiting number (rows ++ row ∷ []) ≡ waiting number rows + counts number row
waiting-push number rows row = omega (arith, sum_by-append (counts number) rows (row ∷ []))

waiting-cons : (number : ℕ) (row : HeldRow) (rows : List HeldRow)
    → waiting number (row ∷ rows) ≡ counts number row + waiting number rows
waiting-cons number row rows = sum_by-cons (counts number) row rows

fates-push : (number : ℕ) (effects : List Effect) (now : Effect)
    → fates_in number (effects ++ now ∷ []) ≡ fates_in number effects + cond (is_fate_of number now) 1 0
fates-push number effects now =
    omega (arith, sum_by-append (λ (e : Effect). cond (is_fate_of number e) 1 0) effects (now ∷ []))

-- markers are no fates
markers_none : (number life : ℕ) (old new : Option Peer) → fates_in number (marker_between life old new) ≡ 0
markers_none number life None new = refl
markers_none number life (Some old) None = refl
markers_none number life (Some old) (Some new) = by_peer (same_peer old new)
  where
    by_peer : (same : Bool) → fates_in number (cond same [] (effect.Marker life old.addr (end_marker old) ∷ [])) ≡ 0
    by_peer true = refl
    by_peer false = refl

no_fates : (number : ℕ) (after : VersionState) (bearers : List ActiveBearer)
    → fates_in number (flat_map (marker_for after) bearers) ≡ 0
no_fates number after [] = refl
no_fates number after (b ∷ bs) =
    omega (
      arith,
      sum_by-append (λ (e : Effect). cond (is_fate_of number e) 1 0) (marker_for after b)
          (flat_map (marker_for after) bs),
      markers_none number b.life b.enb (enb_of after.bearers b.life),
      no_fates number after bs,
    )

-- a held packet that is looked at
one_released : (number : ℕ) (so_far : Past × List Effect) (row : HeldRow) (outcome : Past × List Effect)
    → ReleasedAs so_far row outcome
    → waiting number outcome.0.held + fates_in number outcome.1 ≡ waiting number so_far.0.held
    + fates_in number so_far.1 + counts number row
one_released number so_far row outcome (ends fate_ past effects none) =
    let held : waiting number outcome.0.held ≡ waiting number so_far.0.held =
    ap (λ (p : Past). waiting number p.held) past in
    let fates = ap (fates_in number) effects ∙ fates-push number so_far.1 (effect.Fate row.packet.number fate_) in
    omega (arith, fates)
one_released number so_far row outcome (outcomes.passed b fate_ there fits past effects shown) =
    let held : waiting number outcome.0.held ≡ waiting number so_far.0.held =
    ap (λ (p : Past). waiting number p.held) past in
    let fates = ap (fates_in number) effects ∙ fates-push number so_far.1 (effect.Fate row.packet.number fate_) in
    omega (arith, fates)
one_released number so_far row outcome (ReleasedAs.waits past effects) =
    let held : waiting number outcome.0.held ≡ waiting number so_far.0.held + counts number row =
    ap (λ (p : Past). waiting number p.held) past ∙ waiting-push number so_far.0.held row in
    let fates : fates_in number outcome.1 ≡ fates_in number so_far.1 = ap (fates_in number) effects in
    omega arith

all_counted : (number : ℕ) (so_far : Past × List Effect) (rows : List HeldRow)
    → waiting number (fold released so_far rows).0.held + fates_in number (fold released so_far rows).1
    ≡ waiting number so_far.0.held + fates_in number so_far.1 + waiting number rows
all_counted number so_far [] = omega arith
all_counted number so_far (row ∷ rows) =
    omega (
      arith,
      all_counted number (released so_far row) rows,
      one_released number so_far row (released so_far row) (released_as so_far row),
      waiting-cons number row rows,
    )

learnt_counted : (number : ℕ) (past : Past) (after : VersionState)
    → waiting number past.held ≡ fates_in number (learnt past after).1 + waiting number (learnt past after).0.held
learnt_counted number past after =
    omega (
      arith,
      all_counted number (marked past after, markers past.version after) past.held,
      no_fates number after past.version.bearers,
    )

-- a packet that is judged
abbrev held_now : ℕ → Packet → Verdict → ℕ
held_now number packet verdict = cond (packet.number == number && is_held verdict) 1 0

abbrev one : Bool → ℕ
one is = cond is 1 0

held_if : (same held : Bool) (is : Bool) → held ≡ is → one (same && held) ≡ one (same && is)
held_if same held is e = ap (λ b. one (same && b)) e

never : (same : Bool) → one (same && false) ≡ 0
never true = refl
never false = refl

only_same : (same : Bool) → one (same && true) ≡ one same
only_same true = refl
only_same false = refl

one_judged : (number : ℕ) (past : Past) (packet : Packet) (outcome : Past × Verdict) → JudgedAs past packet outcome
    → held_now number packet outcome.1 + waiting number past.held ≡ waiting number outcome.0.held
one_judged number past packet outcome (nothing same not_held shown) =
    let held : waiting number outcome.0.held ≡ waiting number past.held =
    ap (λ (p : Past). waiting number p.held) same in
    let none = held_if (packet.number == number) (is_held outcome.1) false not_held ∙ never (packet.number == number) in
    omega (arith, none)
one_judged number past packet outcome (JudgedAs.passed b way there fits same not_held shown) =
    let held : waiting number outcome.0.held ≡ waiting number past.held =
    ap (λ (p : Past). waiting number p.held) same in
    let none = held_if (packet.number == number) (is_held outcome.1) false not_held ∙ never (packet.number == number) in
    omega (arith, none)
one_judged number past packet outcome (JudgedAs.waits b there few same is_held_ shown) =
    let held : waiting number outcome.0.held ≡ waiting number past.held
    + counts number (record { packet = packet; life = b.life }) =
    ap (λ (p : Past). waiting number p.held) same ∙ waiting-push number past.held
    (record { packet = packet; life = b.life }) in
    let once = held_if (packet.number == number) (is_held outcome.1) true is_held_
    ∙ only_same (packet.number == number) in
    omega (arith, once)

judged_counted : (number : ℕ) (past : Past) (packet : Packet)
    → held_now number packet (judged past packet).1 + waiting number past.held
    ≡ waiting number (judged past packet).0.held
judged_counted number past packet =
    one_judged number (at_moment past packet.moment) packet (judged past packet) (judged_as past packet)

abbrev times_held : ℕ → List Episode → ℕ
times_held number story = count_by (holds number) story

abbrev times_fated : ℕ → List Episode → ℕ
times_fated number story = sum_by (λ (told : Episode). fates_at number told.happened) story

counted_from : (number : ℕ) (past : SlotPast) (events : List Event)
    → times_held number (episodes_from past events) + waiting number past.packets.held
    ≡ times_fated number (episodes_from past events) + waiting number (fold behind past events).packets.held
unfolding happens
counted_from number past [] = omega arith
counted_from number past (event.Command command ∷ later) =
    let told : Episode = record { event = event.Command command; happened = (happens past (event.Command command)).1 } in
    omega (
      arith,
      counted_from number (commanded past command) later,
      learnt_counted number past.packets (next_version past command),
      sum_by-cons (λ (t : Episode). cond (holds number t) 1 0) told (episodes_from (commanded past command) later),
      sum_by-cons (λ (t : Episode). fates_at number t.happened) told (episodes_from (commanded past command) later),
    )
counted_from number past (event.Packet packet ∷ later) =
    let told : Episode = record { event = event.Packet packet; happened = (happens past (event.Packet packet)).1 } in
    omega (
      arith,
      counted_from number (met past packet) later,
      judged_counted number past.packets packet,
      sum_by-cons (λ (t : Episode). cond (holds number t) 1 0) told (episodes_from (met past packet) later),
      sum_by-cons (λ (t : Episode). fates_at number t.happened) told (episodes_from (met past packet) later),
    )

pub held_once : EachHeldPacketOnce
held_once slot events number = omega (arith, counted_from number (new_slot slot) events)
