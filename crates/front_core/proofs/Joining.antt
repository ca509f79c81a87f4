-- What is told of all slots is a lawful epoch.
use Rattle.std.proofs.Common.{◌≡◌, ℕ, ◌+◌, ◌-◌, ◌^◌, ◌<◌, ◌≤◌, true≢false, is_some, if◌then◌else◌, List, [], ◌∷◌, ◌++◌, length, map, get_or, refl, sym, ap, subst, ◌∙◌, arith, append-nil, length-append}
use Rattle.std.specs.Prelude.{All, Option, Some, None, drop, take, unwrap_or}
use Rattle.std.proofs.lemmas.List.{get_or_past, length-map, take-append-drop}
use Rattle.std.proofs.lemmas.List.Elements.{All-head, All-map, All-tail}
use Rattle.bearer_state.specs.Session.{SessionState}
use Rattle.control_steps.specs.declared.command.CommandKind.{CommandKind}
use Rattle.demux.specs.Packets.{numbered}
use Rattle.gate_model.specs.Versions.{SessionsKeepTheirSlot}
use Rattle.gate_model.specs.declared.event.Event.TheVariants as event
use Rattle.lawful_run.specs.Accepted.{Placed, commands_accepted, packets_accepted}
use Rattle.trace_lines.specs.Line.{Line}
use Rattle.gate_model.specs.Events.{commands_of, packets_of}
use Rattle.gate_model.specs.declared.event.Event.{Event}
use Rattle.demux.specs.Trace.{Meaning}
use Rattle.lawful_run.specs.LinesTold.{LineTold, lines_told}
use Rattle.lawful_run.specs.Merging.{Histories, behind, merged}
use Rattle.lawful_run.specs.Outcomes as made_of
use Rattle.lawful_run.specs.Report.{EpochReport}
use Rattle.lawful_run.specs.Run.{IsEpochRun, told_in}
use Rattle.lawful_run.specs.Setup.{sliced}
use Rattle.lawful_run.specs.Trace.{meant_from}
use Rattle.report_lines.specs.Records.{Effected}
use Rattle.report_lines.specs.declared.entry.ChargeEntry.{ChargeEntry}
use Rattle.report_lines.specs.declared.entry.ChargeEntry.TheVariants.{R}
use Rattle.report_lines.specs.declared.entry.LineEntry.{LineEntry}
use Rattle.subscriber.specs.Standing.{Represents, SubscriberState, last_of}
use Rattle.at_rest.specs.Meant.{AreStanding, Stand}
use Rattle.at_rest.specs.Rest.{AreAtRest, Rest}
use Rattle.counter_half.specs.Tells.{last_moment}
use Rattle.control_half.specs.declared.items.CommandItem.{CommandItem}
use Rattle.counter_half.specs.declared.items.DataItem.{DataItem}
use Rattle.lawful_run.specs.Filling.{Met, Replied, filled}
use Rattle.lawful_run.specs.Joined.{SlotTold, counts_met, epoch_of, events_joined, events_met, with_counts}
use Rattle.lawful_run.proofs.Joining.{pieces_join}
use Rattle.front_core.specs.Kept.{EndsTold, LinesKept, OwnTold, new_ends}
use Rattle.split_record.specs.Finishing.{events_told}
use Rattle.split_record.specs.Rejoined.{commands_sent, start_of}
use Rattle.split_record.specs.declared.front.FrontEnd.{FrontEnd}
use Rattle.front_core.specs.declared.halves.Halves.{Halves}
use Rattle.front_core.specs.declared.lot.Lot.{Lot}
use Rattle.front_core.specs.declared.lot.Lot.TheVariants.{Moved, Split}
use Rattle.front_core.specs.Lots.{end_of, lot_of}
use Rattle.front_core.specs.Views.{ends_of, lent_of, load_of, own_of, parts_of, view_at}
use Rattle.front_core.specs.declared.taken.Taken.{Taken}
use Rattle.front_core.specs.Entries.{lines_of, opens_of}
use Rattle.front_core.specs.Keeping.{AreStarts, FrontKeeps, SplitKeeps, starts_of, unless_split}
use Rattle.front_core.proofs.Keeping.{split_keeps}
use Rattle.front_core.proofs.Starting.{start_none, start_split}
use Rattle.front_core.specs.declared.answers.SlotAnswers.{SlotAnswers}
use Rattle.front_core.specs.Ending.{AllEnd, Came, SplitEnds, nothing_came}
use Rattle.front_core.specs.Filled.{met_so, mets_at, replied_so, replies_at}
use Rattle.front_core.proofs.Epochs.{by_slot_as, mets_came, replies_came}
use Rattle.front_core.proofs.Resting.{no_events, no_rows, rests_told}
use Rattle.front_core.proofs.Telling.{events_same, slot_came, slot_told}

length_merged : (done next : ℕ) (commands : List CommandKind) (packets : List Placed)
    → length (merged done next commands packets) ≡ length commands + length packets
length_merged done next commands [] = length-map commands event.Command ∙ omega arith
length_merged done next commands (p ∷ packets) =
    let n : ℕ = p.commands - done in
    let rest = length_merged p.commands (next + 1) (drop n commands) packets in
    let first = length-map (take n commands) event.Command in
    let parts = ap (λ (l : List CommandKind). length l) (take-append-drop n commands) in
    let both = length-append (take n commands) (drop n commands) in
    let all = length-append (map event.Command (take n commands))
    (event.Packet (numbered next p.packet) ∷ merged p.commands (next + 1) (drop n commands) packets) in
    omega (arith, rest, first, parts, both, all)

counts_few : (counts : List ℕ) (packets : List Placed) → length (with_counts counts packets) ≤ length packets
counts_few [] packets = omega arith
counts_few (count ∷ counts) [] = omega arith
counts_few (count ∷ counts) (p ∷ packets) = let rest = counts_few counts packets in omega (arith, rest)

last_below : (latest : ℕ) (last : Option ℕ) (moments : List ℕ) → unwrap_or last 0 ≤ latest
    → All (λ (m : ℕ). m ≤ latest) moments → unwrap_or (last_moment last moments) 0 ≤ latest
last_below latest last [] late all = late
last_below latest last (moment ∷ moments) late all =
    last_below latest (Some moment) moments (All-head (λ (m : ℕ). m ≤ latest) moment moments all)
    (All-tail (λ (m : ℕ). m ≤ latest) moment moments all)

-- what is told of a slot, and the events that it comes to
pub record SlotCame (slot : ℕ) (before : List Event) (told : List LineTold) (came : Came) : Type 0 where
  pub told_so : SlotTold slot before told (map replied_so came.replies) (map met_so came.packets)
  pub effects_are : came.effects ≡ made_of.effects slot before (events_met slot before told (map met_so came.packets))
  pub rows_are : came.rows ≡ made_of.rows slot before (events_met slot before told (map met_so came.packets))

module _ (opened : Rest) (slices lane lines latest : ℕ) (book : List (List ℕ)) (subs new : List SubscriberState)
    (halves : Halves) (entries : List Taken)
    (keeps : FrontKeeps opened slices lane lines latest book subs halves entries)
    (answers : List SlotAnswers) (effects : List Effected) (rows : List ChargeEntry)
    (ends : AllEnd (λ (slot : ℕ). (view_at halves slot).accepted) halves.lots.items subs new answers effects rows)
    (prior : List Line) (before : Histories) (stand : Stand slices opened.book opened.subscribers prior)
    (standing : AreStanding opened.subscribers before) (few : (slot : ℕ) → length (before slot) ≤ opened.lines) where
  abbrev pub made : List Meaning
  made = meant_from slices prior (lines_of entries)

  abbrev pub opens : List LineEntry
  opens = opens_of (opened.lines + 1) entries

  abbrev pub told : List LineTold
  told = lines_told made opens

  pub kept : LinesKept slices opened.room lane (opened.lines + 1) made opens (parts_of halves) (load_of halves)
  kept = keeps.lines_keep prior stand

  are_starts : AreStarts subs (starts_of halves) before
  are_starts = keeps.starts before standing

  -- a split subscriber
  module _ (slot : ℕ) (end : FrontEnd) (none : SubscriberState)
      (is : lot_of halves.lots.items slot ≡ Some (Split end)) where
    abbrev pub accepted : List DataItem
    accepted = (view_at halves slot).accepted

    it : SplitEnds slot end accepted (get_or subs slot none) (get_or new slot none) (ends.came slot)
    it = ends.split slot end none is

    own : EndsTold slot (ends_of end accepted) told
    own = subst (λ (l : Option Lot). OwnTold slot (own_of l accepted) told) is (kept.slots slot).own_is

    keep : SplitKeeps slot (length entries) latest end (view_at halves slot)
    keep = split_keeps slot (length entries) latest end (view_at halves slot) is (keeps.halves_keep.views slot)

    stood : Represents end.started.value slot (before slot)
    stood = are_starts.split slot end.started.value (start_split (lot_of halves.lots.items slot) end is)

    few_events : length (before slot) + length (commands_sent end) + length accepted < 2 ^ 40
    few_events =
        let all = keeps.few in
        let counted = keeps.counted in
        let short = keep.few in
        let past = few slot in
        omega (arith, all, counted, short, past)

    packets : map met_so (ends.came slot).packets ≡ map met_so it.finished.packets.items
    packets = ap (λ (c : Came). map met_so c.packets) it.came_is

    events : events_told (start_of end) (commands_sent end) accepted it.finished.packets.items
        ≡ events_met slot (before slot) told (map met_so (ends.came slot).packets)
    events =
        events_same slot (before slot) told end accepted it.finished own stood keep.accepted it.finishes few_events
        ∙ ap (events_met slot (before slot) told) (sym packets)

    split_came : SlotCame slot (before slot) told (ends.came slot)
    split_came =
        let came = slot_came slot (before slot) told end accepted it.finished own stood keep.accepted it.finishes
        few_events in
        record {
          told_so = subst (λ (r : List Replied). SlotTold slot (before slot) told r
              (map met_so (ends.came slot).packets)) (ap (λ (c : Came). map replied_so c.replies) (sym it.came_is))
              (subst (SlotTold slot (before slot) told (map replied_so it.finished.commands.items)) (sym packets)
              (slot_told slot (before slot) told end accepted it.finished own stood keep.accepted it.finishes
              few_events));
          effects_are = ap (λ (c : Came). c.effects) it.came_is ∙ came.effects_are ∙ ap (made_of.effects slot (before slot)) events;
          rows_are = ap (λ (c : Came). c.rows) it.came_is ∙ ap (map (R slot)) came.rows_are ∙ ap (made_of.rows slot (before slot)) events;
        }

    split_represents : Represents (get_or new slot none) slot
        (before slot ++ events_met slot (before slot) told (map met_so (ends.came slot).packets))
    split_represents =
        let stands = (slot_came slot (before slot) told end accepted it.finished own stood keep.accepted it.finishes
        few_events).stands in
        subst (λ (s : SubscriberState). Represents s slot
        (before slot ++ events_met slot (before slot) told (map met_so (ends.came slot).packets))) (sym it.record_is)
        (subst (λ (now : List Event). Represents (record it.finished.record {
          destination = (get_or subs slot none).destination;
        }) slot (before slot ++ now)) events (record {
          session = stands.session;
          version = stands.version;
          counters = stands.counters;
          commands = stands.commands;
          packets = stands.packets;
        }))

  -- one that rests
  none_told : (slot : ℕ) (lot : Option Lot) → end_of lot ≡ None
      → OwnTold slot (own_of lot (view_at halves slot).accepted) told → (first_command first_packet : ℕ)
      → EndsTold slot (new_ends first_command first_packet) told
  none_told slot None unsplit is first_command first_packet = is first_command first_packet
  none_told slot (Some Moved) unsplit is first_command first_packet = is first_command first_packet
  none_told slot (Some (Split end)) unsplit is first_command first_packet = absurd (true≢false (ap is_some unsplit))

  module _ (slot : ℕ) (unsplit : end_of (lot_of halves.lots.items slot) ≡ None) where
    new_own : EndsTold slot (new_ends (length (commands_of (before slot))) (length (packets_of (before slot)))) told
    new_own = none_told slot (lot_of halves.lots.items slot) unsplit (kept.slots slot).own_is
        (length (commands_of (before slot))) (length (packets_of (before slot)))

    nothing : events_met slot (before slot) told [] ≡ []
    nothing = no_events slot (before slot) told new_own

    rest_came : SlotCame slot (before slot) told (ends.came slot)
    rest_came =
        subst (SlotCame slot (before slot) told) (sym (ends.rests slot unsplit)) (record {
          told_so = rests_told slot (before slot) told new_own;
          effects_are = ap (made_of.effects slot (before slot)) (sym nothing);
          rows_are = sym (no_rows slot (before slot)) ∙ ap (made_of.rows slot (before slot)) (sym nothing);
        })

    rest_represents : (none : SubscriberState) → slot < length subs
        → Represents (get_or new slot none) slot
        (before slot ++ events_met slot (before slot) told (map met_so (ends.came slot).packets))
    rest_represents none low =
        let stood = are_starts.standing.each slot none low in
        let whole : unless_split (starts_of halves) before slot ≡ before slot =
        ap (λ (o : Option SubscriberState). if is_some o then [] else before slot)
        (start_none (lot_of halves.lots.items slot) unsplit) in
        let events : events_met slot (before slot) told (map met_so (ends.came slot).packets) ≡ [] =
        ap (λ (c : Came). events_met slot (before slot) told (map met_so c.packets)) (ends.rests slot unsplit)
        ∙ nothing in
        let all : before slot ++ events_met slot (before slot) told (map met_so (ends.came slot).packets) ≡ before slot =
        ap (λ (now : List Event). before slot ++ now) events ∙ append-nil (before slot) in
        subst (λ (s : SubscriberState). Represents s slot
        (before slot ++ events_met slot (before slot) told (map met_so (ends.came slot).packets)))
        (sym (ends.stays slot none unsplit))
        (subst (λ (es : List Event). Represents (get_or subs slot none) slot es) (whole ∙ sym all) stood)

  -- each slot
  came_as : (slot : ℕ) (lot : Option Lot) → lot_of halves.lots.items slot ≡ lot
      → SlotCame slot (before slot) told (ends.came slot)
  came_as slot None is = rest_came slot (ap end_of is)
  came_as slot (Some Moved) is = rest_came slot (ap end_of is)
  came_as slot (Some (Split end)) is = split_came slot end end.started.value is

  pub each_came : (slot : ℕ) → SlotCame slot (before slot) told (ends.came slot)
  each_came slot = came_as slot (lot_of halves.lots.items slot) refl

  represents_as : (slot : ℕ) (none : SubscriberState) (lot : Option Lot) → lot_of halves.lots.items slot ≡ lot
      → slot < length subs → Represents (get_or new slot none) slot
      (before slot ++ events_met slot (before slot) told (map met_so (ends.came slot).packets))
  represents_as slot none None is low = rest_represents slot (ap end_of is) none low
  represents_as slot none (Some Moved) is low = rest_represents slot (ap end_of is) none low
  represents_as slot none (Some (Split end)) is low = split_represents slot end none is

  pub each_represents : (slot : ℕ) (none : SubscriberState) → slot < length subs → Represents (get_or new slot none) slot
      (before slot ++ events_met slot (before slot) told (map met_so (ends.came slot).packets))
  each_represents slot none low = represents_as slot none (lot_of halves.lots.items slot) refl low

  -- nothing came of slots beyond the lots
  pub past_came : (slot : ℕ) → length halves.lots.items ≤ slot → ends.came slot ≡ nothing_came
  past_came slot past = ends.rests slot (ap end_of (get_or_past halves.lots.items slot None past))

  -- what fills the entries
  replies_are : (slot : ℕ) → replies_at answers slot ≡ map replied_so (ends.came slot).replies
  replies_are slot = replies_came answers slot (ends.came slot).replies (ends.came slot).packets (ends.answers_are slot)

  mets_are : (slot : ℕ) → mets_at answers slot ≡ map met_so (ends.came slot).packets
  mets_are slot = mets_came answers slot (ends.came slot).replies (ends.came slot).packets (ends.answers_are slot)

  filled_told : (slot : ℕ) → SlotTold slot (before slot) told (replies_at answers slot) (mets_at answers slot)
  filled_told slot =
      subst (λ (r : List Replied). SlotTold slot (before slot) told r (mets_at answers slot)) (sym (replies_are slot))
      (subst (SlotTold slot (before slot) told (map replied_so (ends.came slot).replies)) (sym (mets_are slot))
      (each_came slot).told_so)

  module _ (slots : ℕ) (enough : length halves.lots.items ≤ slots) (report : EpochReport)
      (lines_are : report.lines ≡ filled opens (replies_at answers) (mets_at answers))
      (effects_so : report.effects ≡ effects) (rows_so : report.rows ≡ rows) where
    joined : Histories
    joined = events_joined before made opens (mets_at answers)

    report_is : report ≡ epoch_of slots before made opens (replies_at answers) (mets_at answers)
    report_is =
        let effects_all = by_slot_as (length halves.lots.items) slots (λ (slot : ℕ). (ends.came slot).effects)
        (λ (slot : ℕ). made_of.effects slot (before slot) (events_joined before made opens (mets_at answers) slot)) enough
        (λ slot. (each_came slot).effects_are
        ∙ ap (λ (m : List Met). made_of.effects slot (before slot) (events_met slot (before slot) told m))
        (sym (mets_are slot)))
        (λ slot past. ap (λ (c : Came). c.effects) (past_came slot past)) in
        let rows_all = by_slot_as (length halves.lots.items) slots (λ (slot : ℕ). (ends.came slot).rows)
        (λ (slot : ℕ). made_of.rows slot (before slot) (events_joined before made opens (mets_at answers) slot)) enough
        (λ slot. (each_came slot).rows_are
        ∙ ap (λ (m : List Met). made_of.rows slot (before slot) (events_met slot (before slot) told m))
        (sym (mets_are slot)))
        (λ slot past. ap (λ (c : Came). c.rows) (past_came slot past)) in
        let all_effects = effects_so ∙ ends.effects_are ∙ effects_all in
        let all_rows = rows_so ∙ ends.rows_are ∙ rows_all in
        λ i. record { lines = lines_are i; effects = all_effects i; rows = all_rows i }

    pub lawful : IsEpochRun (sliced slices opened.room lane) slots (opened.lines + 1) before made report
    lawful =
        subst (IsEpochRun (sliced slices opened.room lane) slots (opened.lines + 1) before made) (sym report_is)
        (pieces_join slices opened.room lane slots (opened.lines + 1) before made opens (replies_at answers)
        (mets_at answers) kept.answered kept.refused kept.parked filled_told).0

    pub behind_is : (slot : ℕ) → behind before (told_in made report) slot
        ≡ before slot ++ events_met slot (before slot) told (map met_so (ends.came slot).packets)
    behind_is slot =
        ap (λ (r : EpochReport). behind before (told_in made r) slot) report_is
        ∙ (pieces_join slices opened.room lane slots (opened.lines + 1) before made opens (replies_at answers)
        (mets_at answers) kept.answered kept.refused kept.parked filled_told).1 slot
        ∙ ap (λ (m : List Met). before slot ++ events_met slot (before slot) told m) (mets_are slot)

  -- a slot has no more events in the epoch than there were lines
  split_few : (slot : ℕ) (end : FrontEnd) → lot_of halves.lots.items slot ≡ Some (Split end)
      → length (events_met slot (before slot) told (map met_so (ends.came slot).packets)) ≤ length entries
  split_few slot end is =
      let none : SubscriberState = end.started.value in
      let tells = own slot end none is in
      let short = (keep slot end none is).few in
      let counts : List ℕ = counts_met (map met_so (ends.came slot).packets) in
      let all = length_merged (length (commands_of (before slot))) (length (packets_of (before slot)))
      (commands_accepted slot told) (with_counts counts (packets_accepted slot told)) in
      let some = counts_few counts (packets_accepted slot told) in
      let commands = ap length tells.commands_are in
      let sent = length-map (commands_sent end) (λ (c : CommandItem). c.command) in
      let packets = ap length tells.packets_are in
      let items = length-map (view_at halves slot).accepted (λ (i : DataItem). lent_of i.packet) in
      let placed = length-map (packets_accepted slot told) (λ (p : Placed). p.packet) in
      omega (arith, short, all, some, commands, sent, packets, items, placed)

  rest_few : (slot : ℕ) → end_of (lot_of halves.lots.items slot) ≡ None
      → length (events_met slot (before slot) told (map met_so (ends.came slot).packets)) ≤ length entries
  rest_few slot unsplit =
      let none = ap (λ (c : Came). length (events_met slot (before slot) told (map met_so c.packets)))
      (ends.rests slot unsplit) ∙ ap length (nothing slot unsplit) in
      omega (arith, none)

  few_as : (slot : ℕ) (lot : Option Lot) → lot_of halves.lots.items slot ≡ lot
      → length (events_met slot (before slot) told (map met_so (ends.came slot).packets)) ≤ length entries
  few_as slot None is = rest_few slot (ap end_of is)
  few_as slot (Some Moved) is = rest_few slot (ap end_of is)
  few_as slot (Some (Split end)) is = split_few slot end is

  pub each_few : (slot : ℕ)
      → length (before slot ++ events_met slot (before slot) told (map met_so (ends.came slot).packets)) ≤ lines
  each_few slot =
      let now = few_as slot (lot_of halves.lots.items slot) refl in
      let past = few slot in
      let counted = keeps.counted in
      let both = length-append (before slot) (events_met slot (before slot) told (map met_so (ends.came slot).packets)) in
      omega (arith, now, past, counted, both)

  -- the last packet of a slot is no later than the last line
  split_late : (slot : ℕ) (end : FrontEnd) (none : SubscriberState) → lot_of halves.lots.items slot ≡ Some (Split end)
      → unwrap_or (last_of (get_or new slot none)) 0 ≤ latest
  split_late slot end none is =
      let kept_so = keep slot end none is in
      let made_so = it slot end none is in
      let last = (slot_came slot (before slot) told end (view_at halves slot).accepted made_so.finished
      (own slot end none is) (stood slot end none is) kept_so.accepted made_so.finishes
      (few_events slot end none is)).last_is in
      let late = last_below latest (last_of (start_of end)) (map (λ (i : DataItem). i.packet.moment)
      (view_at halves slot).accepted) kept_so.late_start
      (All-map (λ (m : ℕ). m ≤ latest) (λ (i : DataItem). i.packet.moment) (view_at halves slot).accepted
      kept_so.late) in
      subst (λ (s : SubscriberState). unwrap_or (last_of s) 0 ≤ latest) (sym made_so.record_is)
      (subst (λ (l : Option ℕ). unwrap_or l 0 ≤ latest) (sym last) late)

  late_as : (slot : ℕ) (none : SubscriberState) (lot : Option Lot) → lot_of halves.lots.items slot ≡ lot
      → slot < length subs → unwrap_or (last_of (get_or new slot none)) 0 ≤ latest
  late_as slot none None is low =
      subst (λ (s : SubscriberState). unwrap_or (last_of s) 0 ≤ latest) (sym (ends.stays slot none (ap end_of is)))
      (keeps.at_rest slot none low).late
  late_as slot none (Some Moved) is low =
      subst (λ (s : SubscriberState). unwrap_or (last_of s) 0 ≤ latest) (sym (ends.stays slot none (ap end_of is)))
      (keeps.at_rest slot none low).late
  late_as slot none (Some (Split end)) is low = split_late slot end none is

  -- where it is bound for
  bound_as : (slot : ℕ) (none : SubscriberState) (lot : Option Lot) → lot_of halves.lots.items slot ≡ lot
      → (get_or new slot none).destination ≡ (get_or subs slot none).destination
  bound_as slot none None is = ap (λ (s : SubscriberState). s.destination) (ends.stays slot none (ap end_of is))
  bound_as slot none (Some Moved) is = ap (λ (s : SubscriberState). s.destination) (ends.stays slot none (ap end_of is))
  bound_as slot none (Some (Split end)) is =
      ap (λ (s : SubscriberState). s.destination) (ends.split slot end none is).record_is

  pub each_bound : (slot : ℕ) (none : SubscriberState)
      → (get_or new slot none).destination ≡ (get_or subs slot none).destination
  each_bound slot none = bound_as slot none (lot_of halves.lots.items slot) refl

  -- the gateway is at rest
  pub each_rests : SessionsKeepTheirSlot → AreAtRest slices lines latest new
  each_rests keep_slots slot none low =
      let many = ends.many in
      let within : slot < length subs = omega (arith, low, many) in
      let stands = each_represents slot none within in
      let bound = (keeps.at_rest slot none within).bound in
      let same = each_bound slot none in
      record {
        own = ap (λ (s : SessionState). s.slot) stands.session ∙ keep_slots slot
            (before slot ++ events_met slot (before slot) told (map met_so (ends.came slot).packets));
        bound = omega (arith, bound, same);
        late = late_as slot none (lot_of halves.lots.items slot) refl within;
        has_events = ∣ record {
          events = before slot ++ events_met slot (before slot) told (map met_so (ends.came slot).packets);
          represents = stands;
          few = each_few slot;
        } ∣₁;
      }

  -- beyond the subscribers there are no events
  pub beyond_none : (slot : ℕ) → length subs ≤ slot
      → before slot ++ events_met slot (before slot) told (map met_so (ends.came slot).packets) ≡ []
  beyond_none slot past =
      let none = keeps.halves_keep.within slot past in
      let unsplit : end_of (lot_of halves.lots.items slot) ≡ None = ap end_of none in
      let whole : unless_split (starts_of halves) before slot ≡ before slot =
      ap (λ (o : Option SubscriberState). if is_some o then [] else before slot)
      (start_none (lot_of halves.lots.items slot) unsplit) in
      let past_none : before slot ≡ [] = sym whole ∙ are_starts.standing.beyond slot past in
      let events : events_met slot (before slot) told (map met_so (ends.came slot).packets) ≡ [] =
      ap (λ (c : Came). events_met slot (before slot) told (map met_so c.packets)) (ends.rests slot unsplit)
      ∙ nothing slot unsplit in
      λ i. past_none i ++ events i
