-- A note behind an epoch's lines changes nothing that is told of them.
use Rattle.std.proofs.Common.{◌≡◌, ℕ, zero, suc, true, false, min, replicate, ◌+◌, ◌-◌, List, [], ◌∷◌, ◌++◌, Some, map, length, drop, nat_le, refl, sym, ap, ◌∙◌, arith}
use Rattle.std.proofs.lemmas.List.{map-append}
use Rattle.std.proofs.lemmas.List.Sums.{fold-append}
use Rattle.std.specs.List.{prefix_len}
use Rattle.demux.specs.Trace.{Meaning, note}
use Rattle.gate_model.specs.Events.{commands_of, packets_of}
use Rattle.pc_base.specs.declared.packet.Place.TheVariants.{Closing}
use Rattle.lawful_run.specs.Bounds.{count_before}
use Rattle.lawful_run.specs.Merging.{Histories}
use Rattle.lawful_run.specs.Noted.{note_entry, with_note}
use Rattle.lawful_run.specs.Outcomes as made_of
use Rattle.lawful_run.specs.Report.{EpochReport}
use Rattle.lawful_run.specs.Run.{by_slot}
use Rattle.lawful_run.specs.Telling.{command_number, packet_number, commands_told, counted, reply_told, verdict_told}
use Rattle.lawful_run.proofs.NotedEpoch.{answers_noted, commands_noted, entry_noted, events_noted, packets_noted}
use Rattle.epoch_schedule.specs.Front as ask
use Rattle.epoch_schedule.specs.Front.{back, control_back, control_home, data_back, data_home, control_ordered, control_offer_at, control_offer, data_ordered, data_offer_at, data_offer, drain_at, drain, controls_home, controls_offered, datas_home, datas_offered, pumped}
use Rattle.epoch_schedule.specs.Halves.{close_one, closed}
use Rattle.epoch_schedule.specs.Numbers.{times}
use Rattle.epoch_schedule.specs.Schedule.{Driven, behind_line, behind_lines, line_of, outcomes, mets}
use Rattle.epoch_schedule.specs.Slots.{CommandTags, Met, SlotNow, Standing, absent, front, placed, recalled, leaving, fresh_slot, destination}
use Rattle.epoch_schedule.specs.World.{World, Rooms, ControlOrder, DataOrder, come, go, arrive, item, leave, order_room, has_room, slot_at, on_slot, control_at, on_control, data_at, on_data, start}
use Rattle.epoch_schedule.proofs.Keeping.{cond_keeps, fold_keeps, for_each_keeps, put_each}
use Rattle.epoch_drive.specs.Driven.{IsDriven, asks_of, driven, mets_driven, outcome_told, place_told}
use Rattle.epoch_drive.specs.Noted.{NoteIsDriven}

-- ---- what the closing pass looks at

record Core : Type 0 where
  pub commands : List CommandTags
  pub packets : List ℕ
  pub learnt : ℕ
  pub met : List Met

abbrev core_of : SlotNow → Core
core_of slot = record { commands = slot.commands; packets = slot.packets; learnt = slot.learnt; met = slot.met }

abbrev learnt_all : Core → ℕ
learnt_all core = core.learnt + prefix_len (λ (tags : CommandTags). nat_le tags.floor (length core.met))
    (drop core.learnt core.commands)

abbrev core_closed : Core → Core
core_closed core = record core {
  learnt = learnt_all core;
  met = core.met ++ record { commands = learnt_all core; place = Closing } ∷ [];
}

closes_core : (n : ℕ) (slot : SlotNow) → core_of (times n close_one slot) ≡ times n core_closed (core_of slot)
closes_core zero slot = refl
closes_core (suc n) slot = closes_core n (close_one slot)

closed_same : (one other : SlotNow) → core_of one ≡ core_of other → (closed one).met ≡ (closed other).met
closed_same one other same =
    ap (λ (core : Core). core.met) (closes_core (length one.packets - length one.met) one)
    ∙ ap (λ (core : Core). (times (length core.packets - length core.met) core_closed core).met) same
    ∙ sym (ap (λ (core : Core). core.met) (closes_core (length other.packets - length other.met) other))

-- ---- the pump keeps it

module _ (cores : ℕ → Core) where
  abbrev Keeps : World → Type 0
  Keeps world = (s : ℕ) → core_of (slot_at world s) ≡ cores s

  kept : (world : World) (s : ℕ) (change : SlotNow → SlotNow)
      → core_of (change (slot_at world s)) ≡ core_of (slot_at world s) → Keeps world → Keeps (on_slot world s change)
  kept world s change same all =
      put_each (λ m slot. core_of slot ≡ cores m) fresh_slot world.slots s (change (slot_at world s)) all
      (same ∙ all s)

  control_back_keeps : (world : World) (s : ℕ) → Keeps world → Keeps (control_back world s)
  control_back_keeps world s all = kept world s (λ slot. record slot { control = back slot.control }) refl all

  control_home_keeps : (world : World) (slice : ℕ) → Keeps world → Keeps (control_home world slice)
  control_home_keeps world slice all =
      fold_keeps Keeps control_back control_back_keeps world (control_at world slice).home all

  data_back_keeps : (world : World) (s : ℕ) → Keeps world → Keeps (data_back world s)
  data_back_keeps world s all = kept world s (λ slot. record slot { data_half = back slot.data_half }) refl all

  data_home_keeps : (world : World) (slice : ℕ) → Keeps world → Keeps (data_home world slice)
  data_home_keeps world slice all = fold_keeps Keeps data_back data_back_keeps world (data_at world slice).home all

  control_ordered_keeps : (world : World) (slice s : ℕ) (order : ControlOrder) (standing : Standing) → Keeps world
      → Keeps (control_ordered world slice s order standing)
  control_ordered_keeps world slice s order standing all =
      let given = on_control world slice (λ worker. record worker { orders = worker.orders ++ order ∷ [] }) in
      cond_keeps Keeps (has_room order_room (control_at world slice).orders)
      (on_slot given s (λ slot. record slot { control = standing })) world
      (kept given s (λ slot. record slot { control = standing }) refl all) all

  control_offer_at_keeps : (bounds : ℕ → ℕ) (world : World) (s : ℕ) (standing : Standing) → Keeps world
      → Keeps (control_offer_at bounds world s standing)
  control_offer_at_keeps bounds world s absent all = all
  control_offer_at_keeps bounds world s front all =
      control_ordered_keeps (on_slot world s (λ slot. record slot { arrived = slot.hop }))
      (destination bounds s (slot_at world s)) s (come s) (placed (destination bounds s (slot_at world s)))
      (kept world s (λ slot. record slot { arrived = slot.hop }) refl all)
  control_offer_at_keeps bounds world s (placed slice) all = all
  control_offer_at_keeps bounds world s (recalled slice until) all =
      control_ordered_keeps world slice s (go s until) leaving all
  control_offer_at_keeps bounds world s leaving all = all

  data_ordered_keeps : (rooms : Rooms) (world : World) (slice s : ℕ) (order : DataOrder) (standing : Standing)
      → Keeps world → Keeps (data_ordered rooms world slice s order standing)
  data_ordered_keeps rooms world slice s order standing all =
      let given = on_data world slice (λ worker. record worker { orders = worker.orders ++ order ∷ [] }) in
      cond_keeps Keeps (has_room rooms.lane (data_at world slice).orders)
      (on_slot given s (λ slot. record slot { data_half = standing })) world
      (kept given s (λ slot. record slot { data_half = standing }) refl all) all

  data_offer_at_keeps : (rooms : Rooms) (bounds : ℕ → ℕ) (world : World) (s : ℕ) (standing : Standing) → Keeps world
      → Keeps (data_offer_at rooms bounds world s standing)
  data_offer_at_keeps rooms bounds world s absent all = all
  data_offer_at_keeps rooms bounds world s front all =
      let slice = destination bounds s (slot_at world s) in
      data_ordered_keeps rooms world slice s (arrive s) (placed slice) all
  data_offer_at_keeps rooms bounds world s (placed slice) all = all
  data_offer_at_keeps rooms bounds world s (recalled slice until) all =
      data_ordered_keeps rooms world slice s (leave s) leaving all
  data_offer_at_keeps rooms bounds world s leaving all = all

  drain_at_keeps : (rooms : Rooms) (world : World) (s : ℕ) (standing : Standing) → Keeps world
      → Keeps (drain_at rooms world s standing)
  drain_at_keeps rooms world s absent all = all
  drain_at_keeps rooms world s front all = all
  drain_at_keeps rooms world s (placed slice) all =
      let n = min (slot_at world s).queued (rooms.lane - length (data_at world slice).orders) in
      kept (on_data world slice (λ worker. record worker { orders = worker.orders ++ replicate n (item s) })) s
      (λ slot. record slot { queued = slot.queued - n }) refl all
  drain_at_keeps rooms world s (recalled slice until) all = all
  drain_at_keeps rooms world s leaving all = all

  pumped_keeps : (rooms : Rooms) (bounds : ℕ → ℕ) (world : World) → Keeps world → Keeps (pumped rooms bounds world)
  pumped_keeps rooms bounds world all =
      let home = for_each_keeps Keeps control_home control_home_keeps world 0 (length world.controls) all in
      let first = controls_home world in
      let offered = for_each_keeps Keeps (control_offer bounds)
      (λ w s. control_offer_at_keeps bounds w s (slot_at w s).control) first 0 (length first.slots) home in
      let second = controls_offered bounds first in
      let returned = for_each_keeps Keeps data_home data_home_keeps second 0 (length second.datas) offered in
      let third = datas_home second in
      let arrived = for_each_keeps Keeps (data_offer rooms bounds)
      (λ w s. data_offer_at_keeps rooms bounds w s (slot_at w s).data_half) third 0 (length third.slots) returned in
      let fourth = datas_offered rooms bounds third in
      for_each_keeps Keeps (drain rooms) (λ w s. drain_at_keeps rooms w s (slot_at w s).data_half) fourth 0
      (length fourth.slots) arrived

-- so what the closing pass makes of each slot is the same behind the pump
pumped_closes : (rooms : Rooms) (bounds : ℕ → ℕ) (world : World) (s : ℕ)
    → (closed (slot_at (pumped rooms bounds world) s)).met ≡ (closed (slot_at world s)).met
pumped_closes rooms bounds world s =
    closed_same (slot_at (pumped rooms bounds world) s) (slot_at world s)
    (pumped_keeps (λ m. core_of (slot_at world m)) rooms bounds world (λ m. refl) s)

-- ---- the schedule with a note behind it

abbrev noted_line : Driven
noted_line = record { asks = ask.nothing; turns = [] }

driven_noted : (made : List Meaning) (turns : List (List ℕ)) (text : List ℕ) → length turns ≡ length made
    → driven (made ++ note text ∷ []) turns ≡ driven made turns ++ noted_line ∷ []
driven_noted [] [] text same = refl
driven_noted [] (first ∷ turns) text same = absurd (omega (arith, same))
driven_noted (now ∷ made) [] text same = absurd (omega (arith, same))
driven_noted (now ∷ made) (first ∷ turns) text same =
    ap (λ lines. record { asks = asks_of now; turns = first } ∷ lines)
    (driven_noted made turns text (omega (arith, same)))

mets_noted : (rooms : Rooms) (bounds : ℕ → ℕ) (turns : List (List ℕ)) (made : List Meaning) (text : List ℕ) (slot : ℕ)
    → length turns ≡ length made
    → mets_driven rooms bounds turns (made ++ note text ∷ []) slot ≡ mets_driven rooms bounds turns made slot
mets_noted rooms bounds turns made text slot same =
    let behind = behind_lines rooms bounds start (driven made turns) in
    ap (λ lines. mets rooms bounds lines slot) (driven_noted made turns text same)
    ∙ ap (λ world. (closed (slot_at world slot)).met)
    (fold-append (behind_line rooms bounds) start (driven made turns) (noted_line ∷ []))
    ∙ pumped_closes rooms bounds behind slot

outcomes_noted : (rooms : Rooms) (bounds : ℕ → ℕ) (world : World) (lines : List Driven)
    → outcomes rooms bounds world (lines ++ noted_line ∷ []) ≡ outcomes rooms bounds world lines
    ++ record { taken = true; parked = false } ∷ []
outcomes_noted rooms bounds world [] = refl
outcomes_noted rooms bounds world (now ∷ lines) =
    ap (λ outcomes. (line_of rooms bounds world now).outcome ∷ outcomes)
    (outcomes_noted rooms bounds (behind_line rooms bounds world now) lines)

-- ---- the epoch with it

note_driven : (first : ℕ) (before : Histories) (made : List Meaning) (told : EpochReport) (text : List ℕ)
    (rooms : Rooms) (bounds : ℕ → ℕ) (turns : List (List ℕ)) (slots : ℕ) → length turns ≡ length made
    → IsDriven rooms bounds turns slots first before made told
    → IsDriven rooms bounds turns slots first before (made ++ note text ∷ []) (with_note told (first + length made) text)
note_driven first before made told text rooms bounds turns slots same is =
    let all = is.one_each in
    let events = events_noted first before made told text all in
    record {
      one_each = answers_noted first made told.lines text all;
      command_numbers = λ slot. entry_noted first before made told text all (command_number slot) refl
          ∙ is.command_numbers slot
          ∙ ap (λ (cs : _). counted (length (commands_of (before slot))) (length cs))
          (sym (commands_noted first before made told text all slot));
      packet_numbers = λ slot. entry_noted first before made told text all (packet_number slot) refl
          ∙ is.packet_numbers slot
          ∙ ap (λ (ps : _). counted (length (packets_of (before slot))) (length ps))
          (sym (packets_noted first before made told text all slot));
      replies = λ slot. entry_noted first before made told text all (reply_told slot) refl ∙ is.replies slot
          ∙ ap (made_of.replies slot (before slot)) (sym (events slot));
      verdicts = λ slot. entry_noted first before made told text all (verdict_told slot) refl ∙ is.verdicts slot
          ∙ ap (made_of.verdicts slot (before slot)) (sym (events slot));
      effects = is.effects
          ∙ λ i. by_slot slots (λ slot. made_of.effects slot (before slot) (sym (events slot) i));
      rows = is.rows
          ∙ λ i. by_slot slots (λ slot. made_of.rows slot (before slot) (sym (events slot) i));
      outcomes_are = map-append outcome_told told.lines (note_entry (first + length made) text ∷ [])
          ∙ ap (λ outs. outs ++ record { taken = true; parked = false } ∷ []) is.outcomes_are
          ∙ sym (outcomes_noted rooms bounds start (driven made turns))
          ∙ ap (outcomes rooms bounds start) (sym (driven_noted made turns text same));
      counts = λ slot. entry_noted first before made told text all (commands_told slot) refl ∙ is.counts slot
          ∙ ap (map (λ (m : Met). count_before before slot + m.commands))
          (sym (mets_noted rooms bounds turns made text slot same));
      places = λ slot. entry_noted first before made told text all (place_told slot) refl ∙ is.places slot
          ∙ ap (map (λ (m : Met). Some m.place)) (sym (mets_noted rooms bounds turns made text slot same));
    }

pub note_is_driven : NoteIsDriven
note_is_driven = λ rooms bounds turns slots first before made told text same is.
    note_driven first before made told text rooms bounds turns slots same is
