-- What is held waits for an active bearer without an eNodeB.
use Rattle.std.proofs.Common.{◌≡◌, ◌⊎◌, ℕ, ◌==◌, ◌&&◌, nat_le, Bool, true, false, cond, List, [], ◌∷◌, ◌++◌, length, fold, filter, Option, Some, None, is_some, is_none, inl, inr, refl, sym, ap, ◌∙◌, subst, eq-eqb}
use Rattle.std.specs.Option.{option_and_then}
use Rattle.std.proofs.lemmas.Bool.{ne_eqb}
use Rattle.ipv4_packet.specs.Fields.{source_of}
use Rattle.tft_match.specs.Chosen.{chosen}
use Rattle.pc_base.specs.Addresses.{addr_of}
use Rattle.pc_base.specs.declared.packet.Packet.{Packet}
use Rattle.pc_base.specs.declared.packet.Peer.{Peer}
use Rattle.pc_base.specs.declared.packet.Verdict.{Verdict}
use Rattle.pc_base.specs.declared.packet.Verdict.TheVariants as verdict
use Rattle.pc_base.specs.declared.packet.Way.{Way}
use Rattle.pc_base.specs.declared.packet.Way.TheVariants.{Up, Down}
use Rattle.bearer_state.specs.declared.version.ActiveBearer.{ActiveBearer}
use Rattle.bearer_state.specs.Version.{VersionState, bearer_at}
use Rattle.packet_steps.specs.Rows.{HeldRow}
use Rattle.packet_steps.specs.Messages.{gpdu}
use Rattle.packet_steps.specs.Past.{Past, row_for, with_row, with_held}
use Rattle.packet_steps.specs.Policing.{passes}
use Rattle.packet_steps.specs.Change.{bearer_of, waits, markers, marked, learnt}
use Rattle.packet_steps.specs.Parts.{goes_down, all_may_wait}
use Rattle.packet_steps.specs.Verdicts.{tried, judged_up, notice, judged_to, judged_down, bearer_for, judged_by_way, is_packet, judged_now, at_moment, judged}
use Rattle.packet_steps.proofs.FoldLemmas.{held_all}
use Rattle.gate_model.specs.declared.event.Event.{Event}
use Rattle.gate_model.specs.declared.event.Event.TheVariants as event
use Rattle.gate_model.specs.SlotPast.{SlotPast, new_slot, next_version, commanded, met, happens, behind, past_of}
use Rattle.gate_model.proofs.Members.{In, in_append, of_filter, AreDistinct, other_at, in_map}
use Rattle.gate_model.proofs.BookSteps.{life_in, active_lives}
use Rattle.gate_model.proofs.PastSteps.{found_chosen}
use Rattle.gate_model.proofs.Sound.{IsSound, new_sound, behind_sound, version-learnt, version-judged}

-- a packet went down and waits for a bearer
pub record Waits (bearers : List ActiveBearer) (row : HeldRow) : Type 0 where
  pub down : row.packet.way ≡ Down
  pub waits : waits bearers row.life ≡ true

abbrev pub AllWait : Past → Type 0
AllWait past = (row : HeldRow) → In row past.held → Waits past.version.bearers row

-- what a verdict leaves of the held packets: as they were, or one more, of a bearer without an eNodeB
record Adds (past : Past) (packet : Packet) (held : List HeldRow) : Type 0 where
  bearer : ActiveBearer
  there : In bearer past.version.bearers
  none : bearer.enb ≡ None
  down : packet.way ≡ Down
  is : held ≡ past.held ++ record { packet = packet; life = bearer.life } ∷ []

abbrev Leaves : Past → Packet → Past × Verdict → Type 0
Leaves past packet outcome = (outcome.0.held ≡ past.held) ⊎ Adds past packet outcome.0.held

leaves_tried : (past : Past) (packet : Packet) (b : ActiveBearer) (up : Bool) (octets : ℕ) (passed : Verdict)
    → Leaves past packet (tried past b up octets passed)
leaves_tried past packet b up octets passed =
    elim (passes past b up octets) as (λ t. Leaves past packet
    (cond t (with_row past (row_for past b up octets), passed) (past, verdict.Policed b.life))) [
      | true ↦ inl refl
      | false ↦ inl refl
    ]

leaves_up : (past : Past) (packet : Packet) (octets : List ℕ) (found : Option ActiveBearer)
    → Leaves past packet (judged_up past octets found)
leaves_up past packet octets None = inl refl
leaves_up past packet octets (Some b) =
    elim (source_of octets == addr_of past.version.slot) as (λ t. Leaves past packet
    (cond t (tried past b true (length octets) (verdict.Up b.life octets)) (past, verdict.Spoof))) [
      | true ↦ leaves_tried past packet b true (length octets) (verdict.Up b.life octets)
      | false ↦ inl refl
    ]

leaves_to : (past : Past) (packet : Packet) (b : ActiveBearer) (enb : Option Peer) → In b past.version.bearers
    → b.enb ≡ enb → packet.way ≡ Down → Leaves past packet (judged_to past packet b enb)
leaves_to past packet b None there is down =
    let row : HeldRow = record { packet = packet; life = b.life } in
    let message = notice past packet.number b.ebi in
    elim (nat_le 16 (length past.held)) as (λ t. Leaves past packet
    (cond t (past, verdict.Idle b.life) (with_held past row, verdict.Held b.life message))) [
      | true ↦ inl refl
      | false ↦ inr (record { bearer = b; there = there; none = is; down = down; is = refl })
    ]
leaves_to past packet b (Some peer) there is down =
    leaves_tried past packet b false (length packet.octets) (verdict.Down b.life peer.addr (gpdu peer packet.octets))

leaves_down : (past : Past) (packet : Packet) (found : Option ActiveBearer)
    → ((b : ActiveBearer) → found ≡ Some b → In b past.version.bearers) → packet.way ≡ Down
    → Leaves past packet (judged_down past packet found)
leaves_down past packet None among down = inl refl
leaves_down past packet (Some b) among down = leaves_to past packet b b.enb (among b refl) refl down

leaves_way : (past : Past) (packet : Packet) (way : Way) → packet.way ≡ way
    → Leaves past packet (judged_by_way past packet way)
leaves_way past packet (Up index) is =
    leaves_up past packet packet.octets (bearer_at past.version.bearers index)
leaves_way past packet Down is =
    leaves_down past packet (bearer_for past.version packet.octets)
    (found_chosen past.version.bearers (chosen past.version.rows packet.octets)) is

leaves_now : (past : Past) (packet : Packet) → Leaves past packet (judged_now past packet)
leaves_now past packet =
    elim (past.version.live && is_packet packet.octets) as (λ t. Leaves past packet
    (cond t (judged_by_way past packet packet.way) (past, verdict.NoBearer))) [
      | true ↦ leaves_way past packet packet.way refl
      | false ↦ inl refl
    ]

-- a bearer without an eNodeB is waited for
find_step : (t : Bool) (b : ActiveBearer) (others : Option ActiveBearer) → t ≡ true → cond t (Some b) others ≡ Some b
find_step t b others is = ap (λ x. cond x (Some b) others) is

find_later : (t : Bool) (b c : ActiveBearer) (others : Option ActiveBearer) → t ≡ false → others ≡ Some b
    → cond t (Some c) others ≡ Some b
find_later t b c others is found = ap (λ x. cond x (Some c) others) is ∙ found

pub bearer_found : (bearers : List ActiveBearer) (b : ActiveBearer) → AreDistinct (active_lives bearers)
    → In b bearers → bearer_of bearers b.life ≡ Some b
bearer_found [] b apart there = absurd there
bearer_found (c ∷ bearers) b apart (inl here) =
    subst (λ (x : ActiveBearer). bearer_of (c ∷ bearers) x.life ≡ Some x) here
    (find_step (c.life == c.life) c (bearer_of bearers c.life) (eq-eqb c.life c.life refl))
bearer_found (c ∷ bearers) b apart (inr behind_it) =
    find_later (c.life == b.life) b c (bearer_of bearers b.life)
    (ne_eqb c.life b.life (other_at c.life b.life (active_lives bearers) apart.0 (in_map life_in b bearers behind_it)))
    (bearer_found bearers b apart.1 behind_it)

waits_for : (bearers : List ActiveBearer) (b : ActiveBearer) → AreDistinct (active_lives bearers) → In b bearers
    → b.enb ≡ None → waits bearers b.life ≡ true
waits_for bearers b apart there none =
    ap (λ (found : Option ActiveBearer). is_some found
    && is_none (option_and_then (λ (x : ActiveBearer). x.enb) found)) (bearer_found bearers b apart there)
    ∙ ap (λ (enb : Option Peer). is_none enb) none

-- each event leaves them waiting
waits_by : (past : Past) (packet : Packet) (next : List HeldRow) → AreDistinct (active_lives past.version.bearers)
    → AllWait past → ((next ≡ past.held) ⊎ Adds past packet next)
    → (row : HeldRow) → In row next → Waits past.version.bearers row
waits_by past packet next apart all (inl same) row there = all row (subst (In row) same there)
waits_by past packet next apart all (inr adds) row there =
    let added : HeldRow = record { packet = packet; life = adds.bearer.life } in
    elim (in_append row past.held (added ∷ []) (subst (In row) adds.is there)) [
      | inl before ↦ all row before
      | inr now ↦ elim now [
        | inl here ↦ subst (Waits past.version.bearers) here (record {
          down = adds.down;
          waits = waits_for past.version.bearers adds.bearer apart adds.there adds.none;
        })
        | inr none ↦ absurd none
      ]
    ]

judged_wait : (past : Past) (packet : Packet) → AreDistinct (active_lives past.version.bearers) → AllWait past
    → AllWait (judged past packet).0
judged_wait past packet apart all row there =
    subst (λ (v : VersionState). Waits v.bearers row) (sym (version-judged past packet))
    (waits_by (at_moment past packet.moment) packet (judged past packet).0.held apart all
    (leaves_now (at_moment past packet.moment) packet) row there)

learnt_wait : (past : Past) (after : VersionState) → AllWait past → AllWait (learnt past after).0
learnt_wait past after all row there =
    let test : HeldRow → Bool = λ r. waits after.bearers r.life in
    let held : (learnt past after).0.held ≡ filter test past.held =
    held_all (marked past after, markers past.version after) past.held in
    let kept = of_filter test row past.held (subst (In row) held there) in
    subst (λ (v : VersionState). Waits v.bearers row) (sym (version-learnt past after))
    (record { down = (all row kept.0).down; waits = kept.1 })

wait_from : (past : SlotPast) (events : List Event) → IsSound past → AllWait past.packets
    → AllWait (fold behind past events).packets
unfolding happens
wait_from past [] sound all = all
wait_from past (event.Command command ∷ later) sound all =
    wait_from (commanded past command) later (behind_sound past (event.Command command) sound)
    (learnt_wait past.packets (next_version past command) all)
wait_from past (event.Packet packet ∷ later) sound all =
    wait_from (met past packet) later (behind_sound past (event.Packet packet) sound)
    (judged_wait past.packets packet sound.packets.apart all)

pub all_wait : (slot : ℕ) (events : List Event) → AllWait (past_of slot events).packets
all_wait slot events = wait_from (new_slot slot) events (new_sound slot) (λ row none. absurd none)

-- so the test passes
each_may : (bearers : List ActiveBearer) (rows : List HeldRow)
    → ((row : HeldRow) → In row rows → Waits bearers row) → all_may_wait bearers rows ≡ true
each_may bearers [] all = refl
each_may bearers (row ∷ rows) all =
    let known = all row (inl refl) in
    ap (λ t. t && all_may_wait bearers rows)
    (ap (λ way. goes_down way && waits bearers row.life) known.down ∙ known.waits)
    ∙ each_may bearers rows (λ r there. all r (inr there))

pub may_all_wait : (past : Past) → AllWait past → all_may_wait past.version.bearers past.held ≡ true
may_all_wait past all = each_may past.version.bearers past.held all
