-- Each schedule has a driven epoch: entries that are open but for their outcomes, filled with what is made of each
-- slot.
use Rattle.std.proofs.Common.{◌≡◌, ℕ, ◌+◌, Option, Some, None, List, [], ◌∷◌, ◌++◌, map, length, refl, sym, ap, subst, ◌∙◌, arith}
use Rattle.std.specs.List.{filter_map, cons_option}
use Rattle.std.proofs.lemmas.List.{length-map}
use Rattle.std.proofs.lemmas.List.Elements.{All-from_recursion}
use Rattle.demux.specs.Trace.{Meaning}
use Rattle.gate_model.specs.Events.{commands_of, packets_of}
use Rattle.gate_model.specs.declared.event.Event.{Event}
use Rattle.gate_model.specs.declared.event.Event.TheVariants as event
use Rattle.pc_base.specs.declared.packet.Verdict.{Verdict}
use Rattle.pc_base.specs.declared.reply.Reply.{Reply}
use Rattle.report_lines.specs.declared.entry.LineEntry.{LineEntry}
use Rattle.lawful_run.specs.Accepted.{Placed, accepted_packet, commands_accepted, packets_accepted, command_count}
use Rattle.lawful_run.specs.Answers.{AnswersAll}
use Rattle.lawful_run.specs.Bounds.{Rises, count_before}
use Rattle.lawful_run.specs.LinesTold.{LineTold, lines_told}
use Rattle.lawful_run.specs.Merging.{Histories, merged}
use Rattle.lawful_run.specs.Outcomes as made_of
use Rattle.lawful_run.specs.Placing.{numbered_from}
use Rattle.lawful_run.specs.Telling.{packet_number, commands_told, counted}
use Rattle.lawful_run.proofs.AsTold.{merged-commands, merged-packets}
use Rattle.lawful_run.specs.Filling as fill
use Rattle.lawful_run.specs.Floors.{packet_floor, floor_for, command_floors, packet_floors}
use Rattle.lawful_run.specs.Joined.{with_counts, events_met, MeetsFloors, SlotTold, epoch_of}
use Rattle.lawful_run.proofs.Fillings.{counts_told, packets_counted, met_told}
use Rattle.lawful_run.proofs.Joining.{pieces_join}
use Rattle.epoch_schedule.specs.Accounts.{no_account, account_of}
use Rattle.epoch_schedule.specs.Schedule.{outcomes}
use Rattle.epoch_schedule.specs.Slots.{Met}
use Rattle.epoch_schedule.specs.Tallies.{no_tally, AreDue}
use Rattle.epoch_schedule.specs.World.{Rooms, start}
use Rattle.epoch_schedule.proofs.Due.{each_outcome_is_due}
use Rattle.epoch_schedule.proofs.Lines.{each_packet_is_handled}
use Rattle.epoch_drive.specs.Driven.{EachScheduleIsDriven, driven, outcome_told, place_told, mets_driven}
use Rattle.epoch_drive.proofs.Accounting.{floors_told}
use Rattle.epoch_drive.specs.DrivenOpened.{open_entries}
use Rattle.epoch_drive.proofs.Forms.{all_formed, all_answer, all_tell, filled_tell}
use Rattle.epoch_drive.proofs.Lawful.{length-counted, slot_left}
use Rattle.epoch_drive.proofs.Owing.{lines_lawful, untold}
use Rattle.epoch_drive.proofs.Rising.{counts_from, rises_from}

-- what became of a slot's packets and commands, as lists to fill from
abbrev pub met_list : (base number : ℕ) → List Met → List Verdict → List fill.Met
met_list base number [] verdicts = []
met_list base number (m ∷ met) [] = []
met_list base number (m ∷ met) (v ∷ verdicts) = record {
  number = number;
  commands = base + m.commands;
  verdict = v;
  place = Some m.place;
} ∷ met_list base (number + 1) met verdicts

abbrev pub reply_list : (number : ℕ) → List Reply → List fill.Replied
reply_list number [] = []
reply_list number (r ∷ replies) = record { number = number; reply = r } ∷ reply_list (number + 1) replies

record MetList (base number : ℕ) (met : List Met) (verdicts : List Verdict) (told : List fill.Met) : Type 0 where
  pub numbers : map (λ (m : fill.Met). m.number) told ≡ counted number (length met)
  pub counts : map (λ (m : fill.Met). m.commands) told ≡ map (λ (m : Met). base + m.commands) met
  pub verdicts_are : map (λ (m : fill.Met). m.verdict) told ≡ verdicts
  pub places : map (λ (m : fill.Met). m.place) told ≡ map (λ (m : Met). Some m.place) met

lists_met : (base number : ℕ) (met : List Met) (verdicts : List Verdict) → length verdicts ≡ length met
    → MetList base number met verdicts (met_list base number met verdicts)
lists_met base number [] [] same = record { numbers = refl; counts = refl; verdicts_are = refl; places = refl }
lists_met base number [] (v ∷ verdicts) same = absurd (omega (arith, same))
lists_met base number (m ∷ met) [] same = absurd (omega (arith, same))
lists_met base number (m ∷ met) (v ∷ verdicts) same =
    let rest = lists_met base (number + 1) met verdicts (omega (arith, same)) in
    record {
      numbers = ap (λ ns. number ∷ ns) rest.numbers;
      counts = ap (λ ns. (base + m.commands) ∷ ns) rest.counts;
      verdicts_are = ap (λ vs. v ∷ vs) rest.verdicts_are;
      places = ap (λ ps. Some m.place ∷ ps) rest.places;
    }

reply_numbers : (number : ℕ) (replies : List Reply)
    → map (λ (r : fill.Replied). r.number) (reply_list number replies) ≡ counted number (length replies)
reply_numbers number [] = refl
reply_numbers number (r ∷ replies) = ap (λ ns. number ∷ ns) (reply_numbers (number + 1) replies)

reply_values : (number : ℕ) (replies : List Reply)
    → map (λ (r : fill.Replied). r.reply) (reply_list number replies) ≡ replies
reply_values number [] = refl
reply_values number (r ∷ replies) = ap (λ rs. r ∷ rs) (reply_values (number + 1) replies)

-- there is a verdict for each packet, and a reply for each command
length-verdicts : (slot : ℕ) (before events : List Event)
    → length (made_of.verdicts slot before events) ≡ length (packets_of events)
length-verdicts slot before [] = refl
length-verdicts slot before (event.Command c ∷ events) = length-verdicts slot (before ++ event.Command c ∷ []) events
length-verdicts slot before (event.Packet p ∷ events) =
    let rest = length-verdicts slot (before ++ event.Packet p ∷ []) events in omega (arith, rest)

length-replies : (slot : ℕ) (before events : List Event)
    → length (made_of.replies slot before events) ≡ length (commands_of events)
length-replies slot before [] = refl
length-replies slot before (event.Command c ∷ events) =
    let rest = length-replies slot (before ++ event.Command c ∷ []) events in omega (arith, rest)
length-replies slot before (event.Packet p ∷ events) = length-replies slot (before ++ event.Packet p ∷ []) events

length-numbered : (next : ℕ) (packets : List Placed) → length (numbered_from next packets) ≡ length packets
length-numbered next [] = refl
length-numbered next (p ∷ packets) = let rest = length-numbered (next + 1) packets in omega (arith, rest)

length-with_counts : (counts : List ℕ) (packets : List Placed) → length counts ≡ length packets
    → length (with_counts counts packets) ≡ length packets
length-with_counts [] packets same = refl
length-with_counts (count ∷ counts) [] same = absurd (omega (arith, same))
length-with_counts (count ∷ counts) (p ∷ packets) same =
    let rest = length-with_counts counts packets (omega (arith, same)) in omega (arith, rest)

floor_or_none : (own : Option Placed) (floor : ℕ) (floors : List ℕ) (packets : List Placed)
    → length floors ≡ length packets
    → length (cons_option (floor_for own floor) floors) ≡ length (cons_option own packets)
floor_or_none None floor floors packets same = same
floor_or_none (Some p) floor floors packets same = omega (arith, same)

length-floors : (slot : ℕ) (before lines : List LineTold)
    → length (packet_floors slot 0 before lines) ≡ length (packets_accepted slot lines)
length-floors slot before [] = refl
length-floors slot before (now ∷ lines) =
    floor_or_none (accepted_packet slot now) (packet_floor slot 0 before)
    (packet_floors slot 0 (before ++ now ∷ []) lines) (packets_accepted slot lines)
    (length-floors slot (before ++ now ∷ []) lines)

-- entries that tell the outcomes of a schedule, and what is filled in
module _ (rooms : Rooms) (bounds : ℕ → ℕ) (turns : List (List ℕ)) (first : ℕ) (before : Histories)
    (made : List Meaning) (entries : List LineEntry) where
  abbrev pub events_at : ℕ → List Event
  events_at slot =
      merged (length (commands_of (before slot))) (length (packets_of (before slot)))
      (commands_accepted slot (lines_told made entries))
      (with_counts (map (λ (m : Met). count_before before slot + m.commands) (mets_driven rooms bounds turns made slot))
      (packets_accepted slot (lines_told made entries)))

  abbrev pub mets_at : fill.Mets
  mets_at slot =
      met_list (count_before before slot) (length (packets_of (before slot))) (mets_driven rooms bounds turns made slot)
      (made_of.verdicts slot (before slot) (events_at slot))

  abbrev pub replies_at : fill.Replies
  replies_at slot =
      reply_list (length (commands_of (before slot))) (made_of.replies slot (before slot) (events_at slot))

  module _ (each : AnswersAll first made entries)
      (tell : map outcome_told entries ≡ outcomes rooms bounds start (driven made turns)) where
    as_many : (slot : ℕ) → length (mets_driven rooms bounds turns made slot)
        ≡ length (packets_accepted slot (lines_told made entries))
    as_many slot =
        let done = each_packet_is_handled rooms bounds (driven made turns) slot in
        let floors = floors_told slot first [] no_account made entries turns each
        (record { commands = refl; packets = refl; commands_before = refl; packets_before = refl }) in
        done.all
        ∙ ap (λ outs. length (account_of slot no_account (driven made turns) outs).packets) (sym tell)
        ∙ ap length floors.packets
        ∙ length-floors slot [] (lines_told made entries)

    verdict_count : (slot : ℕ) → length (made_of.verdicts slot (before slot) (events_at slot))
        ≡ length (mets_driven rooms bounds turns made slot)
    verdict_count slot =
        let met = mets_driven rooms bounds turns made slot in
        let packets = packets_accepted slot (lines_told made entries) in
        let counts = map (λ (m : Met). count_before before slot + m.commands) met in
        let many = as_many slot in
        length-verdicts slot (before slot) (events_at slot)
        ∙ ap length (merged-packets (length (commands_of (before slot))) (length (packets_of (before slot)))
        (commands_accepted slot (lines_told made entries)) (with_counts counts packets))
        ∙ length-numbered (length (packets_of (before slot))) (with_counts counts packets)
        ∙ length-with_counts counts packets
        (length-map met (λ (m : Met). count_before before slot + m.commands) ∙ many)
        ∙ sym many

    reply_count : (slot : ℕ) → length (made_of.replies slot (before slot) (events_at slot))
        ≡ command_count slot (lines_told made entries)
    reply_count slot =
        length-replies slot (before slot) (events_at slot)
        ∙ ap length (merged-commands (length (commands_of (before slot))) (length (packets_of (before slot)))
        (commands_accepted slot (lines_told made entries))
        (with_counts (map (λ (m : Met). count_before before slot + m.commands)
        (mets_driven rooms bounds turns made slot)) (packets_accepted slot (lines_told made entries))))

    lists_at : (slot : ℕ) → MetList (count_before before slot) (length (packets_of (before slot)))
        (mets_driven rooms bounds turns made slot) (made_of.verdicts slot (before slot) (events_at slot)) (mets_at slot)
    lists_at slot =
        lists_met (count_before before slot) (length (packets_of (before slot)))
        (mets_driven rooms bounds turns made slot) (made_of.verdicts slot (before slot) (events_at slot))
        (verdict_count slot)

    numbers_at : (slot : ℕ) → map (λ (m : fill.Met). m.number) (mets_at slot)
        ≡ counted (length (packets_of (before slot))) (length (packets_accepted slot (lines_told made entries)))
    numbers_at slot = (lists_at slot).numbers ∙ ap (counted (length (packets_of (before slot)))) (as_many slot)

    pub slot_told : (slot : ℕ)
        → SlotTold slot (before slot) (lines_told made entries) (replies_at slot) (mets_at slot)
    slot_told slot =
        let commands = length (commands_of (before slot)) in
        let packets = length (packets_of (before slot)) in
        let lines = lines_told made entries in
        let met = mets_driven rooms bounds turns made slot in
        let lists = lists_at slot in
        let left = slot_left rooms bounds turns first made entries slot commands packets (mets_at slot) each tell
        lists.counts (numbers_at slot) in
        let handles = (each_packet_is_handled rooms bounds (driven made turns) slot).handles in
        let same : events_met slot (before slot) lines (mets_at slot) ≡ events_at slot =
        ap (λ counts. merged commands packets (commands_accepted slot lines)
        (with_counts counts (packets_accepted slot lines))) lists.counts in
        record {
          numbers = reply_numbers commands (made_of.replies slot (before slot) (events_at slot))
              ∙ ap (counted commands) (reply_count slot);
          packet_numbers = numbers_at slot;
          rises = subst (Rises commands) (sym lists.counts)
              (rises_from commands (commands + 0) (map (λ (m : Met). commands + m.commands) met) (omega arith)
              (counts_from commands 0 met (λ k within. omega arith) handles.rise));
          least = left.least;
          most = All-from_recursion (MeetsFloors commands (command_floors slot packets [] lines)) (mets_at slot)
              left.most;
          replies = reply_values commands (made_of.replies slot (before slot) (events_at slot))
              ∙ ap (made_of.replies slot (before slot)) (sym same);
          verdicts = lists.verdicts_are ∙ ap (made_of.verdicts slot (before slot)) (sym same);
        }

    entries_count : (slot : ℕ) → length (mets_at slot) ≡ length (filter_map (packet_number slot) entries)
    entries_count slot =
        sym (length-map (mets_at slot) (λ (m : fill.Met). m.number))
        ∙ ap length (numbers_at slot)
        ∙ length-counted (length (packets_of (before slot))) (length (packets_accepted slot (lines_told made entries)))
        ∙ sym (packets_counted slot first made entries each)

    pub counts_filled : (slot : ℕ)
        → filter_map (commands_told slot) (fill.filled entries replies_at mets_at)
        ≡ map (λ (m : Met). count_before before slot + m.commands) (mets_driven rooms bounds turns made slot)
    counts_filled slot =
        counts_told slot entries replies_at mets_at (entries_count slot) ∙ (lists_at slot).counts

    pub places_filled : (slot : ℕ)
        → filter_map (place_told slot) (fill.filled entries replies_at mets_at)
        ≡ map (λ (m : Met). Some m.place) (mets_driven rooms bounds turns made slot)
    places_filled slot =
        met_told place_told (λ (m : fill.Met). m.place) (λ slot noted. refl) (λ slot answered. refl)
        (λ slot judged m. refl) (λ slot refused. refl) slot entries replies_at mets_at (entries_count slot)
        ∙ (lists_at slot).places

pub each_driven : EachScheduleIsDriven
each_driven rooms bounds turns slots first before made =
    let outs = outcomes rooms bounds start (driven made turns) in
    let formed = all_formed rooms bounds start (driven made turns) in
    let entries = open_entries first made outs in
    let each = all_answer first made turns outs formed in
    let tell = all_tell first made turns outs formed in
    let replies = replies_at rooms bounds turns first before made entries in
    let mets = mets_at rooms bounds turns first before made entries in
    let due = subst (AreDue rooms (λ s. no_tally) (driven made turns)) (sym tell)
    (each_outcome_is_due rooms bounds (driven made turns)) in
    let lawful = lines_lawful 1 rooms.room rooms.lane first [] (λ s. no_tally) made entries turns each untold due in
    let run = (pieces_join 1 rooms.room rooms.lane slots first before made entries replies mets each lawful.refusals
    lawful.parking (slot_told rooms bounds turns first before made entries each tell)).0 in (
      epoch_of slots before made entries replies mets,
      record {
        one_each = run.one_each;
        command_numbers = run.command_numbers;
        packet_numbers = run.packet_numbers;
        replies = run.replies;
        verdicts = run.verdicts;
        effects = run.effects;
        rows = run.rows;
        outcomes_are = filled_tell entries replies mets ∙ tell;
        counts = counts_filled rooms bounds turns first before made entries each tell;
        places = places_filled rooms bounds turns first before made entries each tell;
      },
    )
