-- The epoch is the driven one.
use Rattle.std.proofs.Common.{◌≡◌, ℕ, zero, suc, ◌+◌, ◌-◌, ◌<◌, ◌≤◌, List, [], ◌∷◌, ◌++◌, map, length, take, get_or, refl, sym, ap, subst, ◌∙◌, inl, inr, arith, append-nil}
use Rattle.std.proofs.lemmas.Bool.{cases_lt}
use Rattle.std.proofs.lemmas.List.{get_or-map, get_or_past, length-map, take_all}
use Rattle.demux.specs.Trace.{Meaning}
use Rattle.gate_model.specs.Events.{commands_of, packets_of}
use Rattle.gate_model.specs.declared.event.Event.{Event}
use Rattle.report_lines.specs.declared.entry.LineEntry.{LineEntry}
use Rattle.lawful_run.specs.Accepted as accepted
use Rattle.lawful_run.specs.Bounds.{count_before}
use Rattle.lawful_run.specs.LinesTold.{LineTold, lines_told}
use Rattle.lawful_run.specs.Merging.{Histories, events_in, merged}
use Rattle.lawful_run.specs.Outcomes as made_of
use Rattle.lawful_run.specs.Report.{EpochReport}
use Rattle.lawful_run.specs.Run.{by_slot, told_in}
use Rattle.lawful_run.specs.Filling as fill
use Rattle.lawful_run.specs.Joined.{epoch_of, events_joined, with_counts}
use Rattle.lawful_run.proofs.Joining.{events_same, pieces_join}
use Rattle.epoch_schedule.specs.Schedule.{outcomes}
use Rattle.epoch_schedule.specs.Slots.{Met}
use Rattle.epoch_schedule.specs.Tallies.{no_tally, AreDue}
use Rattle.epoch_schedule.specs.World.{Rooms, start}
use Rattle.epoch_schedule.proofs.Due.{each_outcome_is_due}
use Rattle.epoch_schedule.specs.Plan as plans
use Rattle.epoch_drive.specs.Driven.{IsDriven, driven, mets_driven}
use Rattle.epoch_drive.proofs.Forms.{filled_tell}
use Rattle.epoch_drive.proofs.Owing.{lines_lawful, untold}
use Rattle.epoch_drive.proofs.There as there
use Rattle.subscriber.specs.Standing.{SubscriberState, commands_met}
use Rattle.slot_execution.specs.Replaying.{counts_in, counts_of, effects_told, places_of}
use Rattle.slot_execution.specs.declared.placed.Placed.{Placed}
use Rattle.epoch_drive.specs.Joins as joins
use Rattle.at_rest.specs.Meant.{AreStanding}
use Rattle.epoch_drive.specs.DrivenOpened.{open_entries}
use Rattle.epoch_drive.specs.Opened.{opened}
use Rattle.epoch_drive.specs.Replays.{HasDone, HaveDone, commands_at, commands_shared, events_shared, packets_at, packets_shared}
use Rattle.epoch_drive.specs.Shares.{AreShares, IsShare, base_at, packets_alone, packets_lent}
use Rattle.slot_execution.specs.Replaying.{rows_told}
use Rattle.epoch_drive.specs.Telling.{DrivenTold, line_told}
use Rattle.epoch_drive.specs.declared.replays.SlotReplays.{SlotReplays}
use Rattle.epoch_drive.specs.declared.replays.Replays.{Replays}
use Rattle.epoch_drive.specs.declared.sharing.Share.{Share}
use Rattle.epoch_drive.proofs.Events.{mets_list, opened_lines, packets_counted, replies_list, with_none}
use Rattle.epoch_drive.proofs.Replaying.{by_slot-next, counts_so, no_rows}
use Rattle.epoch_drive.proofs.Scheduled.{as_many, counts_at, each, entries, tell}

-- a value of a list, at a place within it
pub some_at : {X : Type 0} (xs : List X) (i : ℕ) → i < length xs → (x : X) × (x ≡ get_or xs i x)
some_at [] i low = absurd (omega (arith, low))
some_at (x ∷ xs) zero low = (x, refl)
some_at (x ∷ xs) (suc i) low = some_at xs i (omega (arith, low))

-- nothing is made of no events
no_mets : (base next : ℕ) (mets : List Met) → there.met_list base next mets [] ≡ []
no_mets base next [] = refl
no_mets base next (m ∷ mets) = refl

-- slots that have nothing
more_slots : {X : Type 0} (has : ℕ → List X) (n d : ℕ) → ((slot : ℕ) → n ≤ slot → has slot ≡ [])
    → by_slot (n + d) has ≡ by_slot n has
more_slots has n zero none = ap (λ k. by_slot k has) (omega arith)
more_slots has n (suc d) none =
    let next : n + suc d ≡ n + d + 1 = omega arith in
    ap (λ k. by_slot k has) next ∙ by_slot-next has (n + d)
    ∙ ap (λ xs. by_slot (n + d) has ++ xs) (none (n + d) (omega arith)) ∙ append-nil (by_slot (n + d) has)
    ∙ more_slots has n d none

pub by_slot-more : {X : Type 0} (has : ℕ → List X) (n slots : ℕ) → n ≤ slots
    → ((slot : ℕ) → n ≤ slot → has slot ≡ []) → by_slot slots has ≡ by_slot n has
by_slot-more has n slots le none =
    let whole : slots ≡ n + (slots - n) = omega (arith, le) in
    ap (λ k. by_slot k has) whole ∙ more_slots has n (slots - n) none

-- the driven epoch
module _ (rooms : Rooms) (bounds : ℕ → ℕ) (turns : List (List ℕ)) (first : ℕ) (before : Histories)
    (made : List Meaning) where
  abbrev lines : List LineTold
  lines = lines_told made (entries rooms bounds turns first before made)

  abbrev own_mets : fill.Mets
  own_mets = there.mets_at rooms bounds turns first before made (entries rooms bounds turns first before made)

  abbrev own_replies : fill.Replies
  own_replies = there.replies_at rooms bounds turns first before made (entries rooms bounds turns first before made)

  abbrev own_events : ℕ → List Event
  own_events = there.events_at rooms bounds turns first before made (entries rooms bounds turns first before made)

  driven_epoch : (slots : ℕ) → IsDriven rooms bounds turns slots first before made
      (epoch_of slots before made (entries rooms bounds turns first before made) own_replies own_mets)
  driven_epoch slots =
      let es : List LineEntry = entries rooms bounds turns first before made in
      let answers = each rooms bounds turns first before made in
      let tells = tell rooms bounds turns first before made in
      let due = subst (AreDue rooms (λ s. no_tally) (driven made turns)) (sym tells)
      (each_outcome_is_due rooms bounds (driven made turns)) in
      let lawful = lines_lawful 1 rooms.room rooms.lane first [] (λ s. no_tally) made es turns answers untold due in
      let run = (pieces_join 1 rooms.room rooms.lane slots first before made es own_replies own_mets answers
      lawful.refusals lawful.parking
      (there.slot_told rooms bounds turns first before made es answers tells)).0 in
      record {
        one_each = run.one_each;
        command_numbers = run.command_numbers;
        packet_numbers = run.packet_numbers;
        replies = run.replies;
        verdicts = run.verdicts;
        effects = run.effects;
        rows = run.rows;
        outcomes_are = filled_tell es own_replies own_mets ∙ tells;
        counts = there.counts_filled rooms bounds turns first before made es answers tells;
        places = there.places_filled rooms bounds turns first before made es answers tells;
      }

  joined_events : (slot : ℕ) → events_joined before made (entries rooms bounds turns first before made) own_mets slot
      ≡ own_events slot
  joined_events slot =
      ap (λ counts. merged (length (commands_of (before slot))) (length (packets_of (before slot)))
      (accepted.commands_accepted slot lines) (with_counts counts (accepted.packets_accepted slot lines)))
      (counts_at rooms bounds turns first before made slot)

  events_behind : (slot : ℕ) → events_in (before slot)
      (lines_told made (fill.filled (entries rooms bounds turns first before made) own_replies own_mets)) slot
      ≡ own_events slot
  events_behind slot =
      let es : List LineEntry = entries rooms bounds turns first before made in
      let answers = each rooms bounds turns first before made in
      let tells = tell rooms bounds turns first before made in
      events_same first before made es own_replies own_mets answers
      (there.slot_told rooms bounds turns first before made es answers tells) slot
      ∙ joined_events slot

-- What the code made of an epoch: its outcomes and what packets meet are the schedule's, each slot has its share, the
-- subscribers did theirs, and entries were filled with what was told.
pub record Drove (rooms : Rooms) (bounds : ℕ → ℕ) (turns : List (List ℕ)) (first : ℕ) (made : List Meaning)
    (old new : List SubscriberState) (plan : plans.Plan) (shares : List Share) (replays : Replays)
    (told : List DrivenTold) : Type 0 where
  pub outs_are : plan.outcomes ≡ outcomes rooms bounds start (driven made turns)
  pub mets_are : (slot : ℕ) → plans.mets_of plan slot ≡ mets_driven rooms bounds turns made slot
  pub many : length shares ≡ length old
  pub are : AreShares shares old plan (opened first made plan.outcomes)
  pub done : HaveDone old new shares replays (length old)
  pub joined : map line_told told ≡ fill.filled (open_entries first made plan.outcomes)
      (joins.replies_at replays.answers.items) (joins.mets_at replays.answers.items)
  pub no_commands : (slot : ℕ) → length old ≤ slot
      → accepted.commands_accepted slot (opened first made plan.outcomes) ≡ []
  pub no_packets : (slot : ℕ) → length old ≤ slot
      → accepted.packets_accepted slot (opened first made plan.outcomes) ≡ []

module _ (rooms : Rooms) (bounds : ℕ → ℕ) (turns : List (List ℕ)) (first : ℕ) (before : Histories)
    (made : List Meaning) (old new : List SubscriberState) (plan : plans.Plan) (shares : List Share)
    (replays : Replays) (told : List DrivenTold)
    (drove : Drove rooms bounds turns first made old new plan shares replays told)
    (standing : AreStanding old before) where
  abbrev own_lines : List LineTold
  own_lines = lines rooms bounds turns first before made

  lines_are : opened first made plan.outcomes ≡ own_lines
  lines_are =
      opened_lines first made plan.outcomes
      ∙ ap (λ os. lines_told made (open_entries first made os)) drove.outs_are

  commands_are : (slot : ℕ) → commands_at shares slot ≡ accepted.commands_accepted slot own_lines
  commands_are slot = elim (cases_lt slot (length shares)) [
    | inl low ↦
        let share = some_at shares slot low in
        get_or-map commands_shared shares slot share.0 [] low
        ∙ (drove.are slot share.0 low).commands ∙ ap (accepted.commands_accepted slot) lines_are
    | inr past ↦
        get_or_past (map commands_shared shares) slot [] (omega (arith, past, length-map shares commands_shared))
        ∙ sym (drove.no_commands slot (omega (arith, past, drove.many)))
        ∙ ap (accepted.commands_accepted slot) lines_are
  ]

  -- the commands of a slot before the epoch
  base_is : (slot : ℕ) → slot < length old → base_at old slot ≡ count_before before slot
  base_is slot low =
      let s = some_at old slot low in
      get_or-map commands_met old slot s.0 0 low ∙ (standing.each slot s.0 low).commands

  abbrev counts_told : ℕ → List ℕ
  counts_told slot =
      map (λ (m : Met). count_before before slot + m.commands) (mets_driven rooms bounds turns made slot)

  -- the counts and places of a share
  pub record SharesAll (slot : ℕ) (share : Share) : Type 0 where
    pub counts : counts_of share.packets.items ≡ counts_told slot
    pub places : places_of share.packets.items
        ≡ map (λ (m : Met). m.place) (mets_driven rooms bounds turns made slot)
    pub packets : packets_lent share.packets.items ≡ packets_alone (accepted.packets_accepted slot own_lines)

  share_all : (slot : ℕ) (share : Share) → slot < length shares → SharesAll slot (get_or shares slot share)
  share_all slot share low =
      let own : Share = get_or shares slot share in
      let is : IsShare own (base_at old slot) (plans.mets_of plan slot) (opened first made plan.outcomes) slot =
      drove.are slot share low in
      let mets : List Met = mets_driven rooms bounds turns made slot in
      let packets : packets_lent own.packets.items ≡ packets_alone (accepted.packets_accepted slot own_lines) =
      is.packets ∙ ap (λ ls. packets_alone (accepted.packets_accepted slot ls)) lines_are in
      let long : length own.packets.items ≡ length mets =
      sym (length-map own.packets.items (λ (p : Placed). p.packet)) ∙ ap length packets
      ∙ length-map (accepted.packets_accepted slot own_lines) (λ (p : accepted.Placed). p.packet)
      ∙ sym (as_many rooms bounds turns first before made slot) in
      let all : take (length own.packets.items) (plans.mets_of plan slot) ≡ mets =
      ap (take (length own.packets.items)) (drove.mets_are slot) ∙ ap (λ n. take n mets) long ∙ take_all (length mets) mets (omega arith) in
      let base = base_is slot (omega (arith, low, drove.many)) in
      record {
        counts = is.counts ∙ ap (map (λ (m : Met). base_at old slot + m.commands)) all
            ∙ ap (λ b. map (λ (m : Met). b + m.commands) mets) base;
        places = is.places ∙ ap (map (λ (m : Met). m.place)) all;
        packets = packets;
      }

  packets_are : (slot : ℕ) → packets_at shares slot
      ≡ with_counts (counts_told slot) (accepted.packets_accepted slot own_lines)
  packets_are slot = elim (cases_lt slot (length shares)) [
    | inl low ↦
        let share = some_at shares slot low in
        let all = share_all slot share.0 low in
        get_or-map packets_shared shares slot share.0 [] low
        ∙ packets_counted (get_or shares slot share.0).packets.items (counts_told slot)
        (accepted.packets_accepted slot own_lines) all.counts all.packets
    | inr past ↦
        get_or_past (map packets_shared shares) slot [] (omega (arith, past, length-map shares packets_shared))
        ∙ sym (with_none (counts_told slot))
        ∙ ap (with_counts (counts_told slot)) (sym (drove.no_packets slot (omega (arith, past, drove.many)))
        ∙ ap (accepted.packets_accepted slot) lines_are)
  ]

  abbrev driven_events : ℕ → List Event
  driven_events = own_events rooms bounds turns first before made

  pub events_are : (slot : ℕ) → events_shared shares slot (before slot) ≡ driven_events slot
  events_are slot =
      let commands = commands_are slot in
      let packets = packets_are slot in
      λ i. merged (length (commands_of (before slot))) (length (packets_of (before slot))) (commands i) (packets i)

  pub events_none : (slot : ℕ) → length old ≤ slot → events_shared shares slot (before slot) ≡ []
  events_none slot past =
      let commands : commands_at shares slot ≡ [] =
      get_or_past (map commands_shared shares) slot []
      (omega (arith, past, drove.many, length-map shares commands_shared)) in
      let packets : packets_at shares slot ≡ [] =
      get_or_past (map packets_shared shares) slot []
      (omega (arith, past, drove.many, length-map shares packets_shared)) in
      λ i. merged (length (commands_of (before slot))) (length (packets_of (before slot))) (commands i) (packets i)

  done_at : (slot : ℕ) (s : SubscriberState) (a : SlotReplays) → slot < length old
      → HasDone (get_or old slot s) (get_or new slot s) shares (get_or replays.answers.items slot a) slot
  done_at slot s a low = drove.done.each slot s a low

  replies_are : (slot : ℕ) → joins.replies_at replays.answers.items slot
      ≡ own_replies rooms bounds turns first before made slot
  replies_are slot =
      let answers : List SlotReplays = replays.answers.items in
      let base : ℕ = length (commands_of (before slot)) in
      elim (cases_lt slot (length old)) [
        | inl low ↦
            let s = some_at old slot low in
            let within : slot < length answers = omega (arith, low, drove.done.answered) in
            let a = some_at answers slot within in
            let is = (done_at slot s.0 a.0 low).told (before slot) (standing.each slot s.0 low) in
            get_or-map joins.replies_of answers slot a.0 [] within
            ∙ replies_list (get_or answers slot a.0).replies.items base
            (length (commands_of (events_shared shares slot (before slot)))) is.numbers
            ∙ ap (there.reply_list base) (is.replies ∙ ap (made_of.replies slot (before slot)) (events_are slot))
        | inr past ↦
            get_or_past (map joins.replies_of answers) slot []
            (omega (arith, past, drove.done.answered, length-map answers joins.replies_of))
            ∙ ap (λ es. there.reply_list base (made_of.replies slot (before slot) es))
            (sym (events_none slot past) ∙ events_are slot)
      ]

  mets_are_told : (slot : ℕ) → joins.mets_at replays.answers.items slot
      ≡ own_mets rooms bounds turns first before made slot
  mets_are_told slot =
      let answers : List SlotReplays = replays.answers.items in
      let base : ℕ = count_before before slot in
      let next : ℕ = length (packets_of (before slot)) in
      let mets : List Met = mets_driven rooms bounds turns made slot in
      elim (cases_lt slot (length old)) [
        | inl low ↦
            let s = some_at old slot low in
            let within : slot < length answers = omega (arith, low, drove.done.answered) in
            let shared : slot < length shares = omega (arith, low, drove.many) in
            let a = some_at answers slot within in
            let share = some_at shares slot shared in
            let all = share_all slot share.0 shared in
            let did = done_at slot s.0 a.0 low in
            let is = did.told (before slot) (standing.each slot s.0 low) in
            let js = (get_or answers slot a.0).packets.items in
            let counts : counts_in js ≡ counts_told slot =
            did.counts ∙ ap (map (λ (p : accepted.Placed). p.commands))
            (get_or-map packets_shared shares slot share.0 [] shared)
            ∙ sym (counts_so (get_or shares slot share.0).packets.items) ∙ all.counts in
            get_or-map joins.mets_of answers slot a.0 [] within
            ∙ mets_list js mets base next (length (packets_of (events_shared shares slot (before slot))))
            is.packet_numbers counts (did.places share.0 ∙ all.places)
            ∙ ap (there.met_list base next mets) (is.verdicts
            ∙ ap (made_of.verdicts slot (before slot)) (events_are slot))
        | inr past ↦
            get_or_past (map joins.mets_of answers) slot []
            (omega (arith, past, drove.done.answered, length-map answers joins.mets_of))
            ∙ sym (no_mets base next mets)
            ∙ ap (λ es. there.met_list base next mets (made_of.verdicts slot (before slot) es))
            (sym (events_none slot past) ∙ events_are slot)
      ]

  abbrev pub report : EpochReport
  report = record {
    lines = map line_told told;
    effects = effects_told replays.effects.items;
    rows = rows_told replays.rows.items;
  }

  lines_so : map line_told told ≡ fill.filled (entries rooms bounds turns first before made)
      (own_replies rooms bounds turns first before made) (own_mets rooms bounds turns first before made)
  lines_so =
      let opens = ap (λ os. open_entries first made os) drove.outs_are in
      drove.joined ∙ (λ i. fill.filled (opens i) (λ slot. replies_are slot i) (λ slot. mets_are_told slot i))

  -- the events of each slot are those of the epoch
  events_joined_so : (slot : ℕ) → events_shared shares slot (before slot)
      ≡ events_joined before made (entries rooms bounds turns first before made)
      (own_mets rooms bounds turns first before made) slot
  events_joined_so slot = events_are slot ∙ sym (joined_events rooms bounds turns first before made slot)

  pub is_driven : (slots : ℕ) → length old ≤ slots → IsDriven rooms bounds turns slots first before made report
  is_driven slots most =
      let effects : effects_told replays.effects.items ≡ by_slot slots (λ slot.
      made_of.effects slot (before slot) (events_shared shares slot (before slot))) =
      drove.done.effects before standing ∙ sym (by_slot-more (λ slot.
      made_of.effects slot (before slot) (events_shared shares slot (before slot))) (length old) slots most
      (λ slot past. ap (made_of.effects slot (before slot)) (events_none slot past))) in
      let rows : rows_told replays.rows.items ≡ by_slot slots (λ slot.
      made_of.rows slot (before slot) (events_shared shares slot (before slot))) =
      drove.done.rows before standing ∙ sym (by_slot-more (λ slot.
      made_of.rows slot (before slot) (events_shared shares slot (before slot))) (length old) slots most
      (λ slot past. ap (made_of.rows slot (before slot)) (events_none slot past) ∙ no_rows slot (before slot))) in
      let same_effects = effects ∙ (λ i. by_slot slots (λ slot.
      made_of.effects slot (before slot) (events_joined_so slot i))) in
      let same_rows = rows ∙ (λ i. by_slot slots (λ slot.
      made_of.rows slot (before slot) (events_joined_so slot i))) in
      let is : epoch_of slots before made (entries rooms bounds turns first before made)
      (own_replies rooms bounds turns first before made) (own_mets rooms bounds turns first before made) ≡ report =
      λ i. record { lines = sym lines_so i; effects = sym same_effects i; rows = sym same_rows i } in
      subst (IsDriven rooms bounds turns slots first before made) is
      (driven_epoch rooms bounds turns first before made slots)

  pub events_told : (slot : ℕ) → events_in (before slot) (told_in made report) slot
      ≡ events_shared shares slot (before slot)
  events_told slot =
      ap (λ es. events_in (before slot) (lines_told made es) slot) lines_so
      ∙ events_behind rooms bounds turns first before made slot ∙ sym (events_are slot)
