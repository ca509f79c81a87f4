-- The entries of a lawful run of lines whose numbers are in range are in the ranges of a report.
use Rattle.std.proofs.Common.{◌≡◌, ℕ, zero, suc, ◌+◌, ◌-◌, ◌<◌, ◌≤◌, ◌^◌, ◌==◌, Bool, true, false, cond, if◌then◌else◌, Option, None, Some, List, [], ◌∷◌, ◌++◌, length, map, take, drop, sym, subst, arith, length-append}
use Rattle.std.specs.List.{All, AllByRecursion, cons_option, filter_map, flat_map}
use Rattle.std.specs.Option.{option_map}
use Rattle.std.proofs.lemmas.List.Elements.{All-from_recursion, All-head, All-tail, recursion_from_All}
use Rattle.bearer_state.specs.declared.version.ActiveBearer.{ActiveBearer}
use Rattle.charging_book.specs.Happenings.{open_at}
use Rattle.charging_book.specs.Rows.{Charged}
use Rattle.control_steps.specs.declared.command.CommandKind.{CommandKind}
use Rattle.demux.specs.Packets.{numbered}
use Rattle.demux.specs.Trace.{Meaning, command, packet, move, note}
use Rattle.gate_model.specs.Events.{commands_of, packets_of}
use Rattle.gate_model.specs.SlotPast.{past_of, records_after, records_made, version_after}
use Rattle.gate_model.specs.declared.event.Event.{Event}
use Rattle.gate_model.specs.declared.event.Event.TheVariants as event
use Rattle.gate_model.proofs.FewCharges.{events_few}
use Rattle.lawful_run.specs.Accepted.{Placed, accepted_command, accepted_packet, command_for, commands_accepted, commands_before, is_refused, packet_for, packets_accepted}
use Rattle.lawful_run.specs.Answers.{Answers, AnswersAll}
use Rattle.lawful_run.specs.LinesTold.{LineTold, lines_told}
use Rattle.lawful_run.specs.Merging.{Histories, behind, merged}
use Rattle.lawful_run.specs.Outcomes as made_of
use Rattle.lawful_run.specs.Report.{EpochReport, Report, entries_of, epoch_entries}
use Rattle.lawful_run.specs.Run.{AreEpochRuns, IsEpochRun, IsRun, behind_all, no_events, told_in}
use Rattle.lawful_run.specs.Setup.{Setup}
use Rattle.lawful_run.specs.Telling.{command_number, counted, reply_told}
use Rattle.lawful_run.proofs.ChargesTold.{now_events}
use Rattle.lawful_run.proofs.EventByEvent.{ordered_length}
use Rattle.lawful_run.proofs.SlotCases.{eqb_same}
use Rattle.report_lines.specs.Ranges.{AreCounters, IsChargeEntry, IsEffected, IsEntry, IsLineEntry}
use Rattle.report_lines.specs.Records.{IsNote, Noted}
use Rattle.report_lines.specs.Text.{line_without_place}
use Rattle.report_lines.specs.declared.entry.ChargeEntry.TheVariants.{R, O}
use Rattle.report_lines.specs.declared.entry.Entry.TheVariants as entry
use Rattle.report_lines.specs.declared.entry.LineEntry.{LineEntry}
use Rattle.report_lines.specs.declared.entry.LineEntry.TheVariants as line
use Rattle.report_lines.specs.declared.entry.Refusal.{Refusal}
use Rattle.demux.specs.Ranges.{IsCommandInRange, IsInRange, IsOctet, IsPacketInRange}
use Rattle.report_laws.specs.Shown.{epoch_shown, report_shown}
use Rattle.lawful_run.specs.Ranges.{ActiveIn, EventIn, PacketIn, PastIn}
use Rattle.lawful_run.proofs.ChargesIn.{RowIn, open_in, rows_in}
use Rattle.lawful_run.proofs.PastsIn.{new_in}
use Rattle.report_laws.proofs.EventsIn.{LedIn, MarkIn, ReplyIn, commands_most, led_in}
use Rattle.report_laws.proofs.Marks.{Mark, epoch_marks, mark_told}
use Rattle.demux.proofs.Small.{dropped, each_append, taken}

mapped : {X Y : Type 0} (P : X → Type 0) (Q : Y → Type 0) (f : X → Y) → ((x : X) → P x → Q (f x)) → (xs : List X)
    → AllByRecursion P xs → AllByRecursion Q (map f xs)
mapped P Q f step [] all = tt
mapped P Q f step (x ∷ xs) all = (step x all.0, mapped P Q f step xs all.1)

-- what lines bring
abbrev LineIn : LineTold → Type 0
LineIn told = IsInRange told.meaning

lines_in_range : (made : List Meaning) (entries : List LineEntry) → AllByRecursion IsInRange made
    → AllByRecursion LineIn (lines_told made entries)
lines_in_range [] entries all = tt
lines_in_range (now ∷ made) [] all = tt
lines_in_range (now ∷ made) (entry ∷ entries) all = (all.0, lines_in_range made entries all.1)

one_command : (refused own : Bool) (c : CommandKind) (rest : List CommandKind) → IsCommandInRange c
    → AllByRecursion IsCommandInRange rest
    → AllByRecursion IsCommandInRange (cons_option (if refused then None else (if own then Some c else None)) rest)
one_command true own c rest is all = all
one_command false true c rest is all = (is, all)
one_command false false c rest is all = all

no_command : (refused : Bool) (rest : List CommandKind) → AllByRecursion IsCommandInRange rest
    → AllByRecursion IsCommandInRange (cons_option (if refused then None else None) rest)
no_command true rest all = all
no_command false rest all = all

command_of_line : (slot : ℕ) (now : Meaning) (refused : Bool) (rest : List CommandKind) → IsInRange now
    → AllByRecursion IsCommandInRange rest
    → AllByRecursion IsCommandInRange (cons_option (if refused then None else command_for slot now) rest)
command_of_line slot (command own c) refused rest is all = one_command refused (own == slot) c rest is.1 all
command_of_line slot (packet own p) refused rest is all = no_command refused rest all
command_of_line slot (move own slice text) refused rest is all = no_command refused rest all
command_of_line slot (note text) refused rest is all = no_command refused rest all

commands_in_range : (slot : ℕ) (lines : List LineTold) → AllByRecursion LineIn lines
    → AllByRecursion IsCommandInRange (commands_accepted slot lines)
commands_in_range slot [] all = tt
commands_in_range slot (now ∷ lines) all =
    command_of_line slot now.meaning (is_refused now.entry) (commands_accepted slot lines) all.0
    (commands_in_range slot lines all.1)

abbrev PlacedIn : Placed → Type 0
PlacedIn placed = IsPacketInRange placed.packet

one_packet : (refused own : Bool) (p : _) (many : ℕ) (rest : List Placed) → IsPacketInRange p
    → AllByRecursion PlacedIn rest
    → AllByRecursion PlacedIn (cons_option (if refused then None
    else option_map (λ q. record { commands = many; packet = q }) (if own then Some p else None)) rest)
one_packet true own p many rest is all = all
one_packet false true p many rest is all = (is, all)
one_packet false false p many rest is all = all

no_packet : (refused : Bool) (many : ℕ) (rest : List Placed) → AllByRecursion PlacedIn rest
    → AllByRecursion PlacedIn (cons_option (if refused then None
    else option_map (λ q. record { commands = many; packet = q }) None) rest)
no_packet true many rest all = all
no_packet false many rest all = all

packet_of_line : (slot : ℕ) (now : Meaning) (refused : Bool) (many : ℕ) (rest : List Placed) → IsInRange now
    → AllByRecursion PlacedIn rest
    → AllByRecursion PlacedIn (cons_option (if refused then None
    else option_map (λ q. record { commands = many; packet = q }) (packet_for slot now)) rest)
packet_of_line slot (command own c) refused many rest is all = no_packet refused many rest all
packet_of_line slot (packet own p) refused many rest is all = one_packet refused (own == slot) p many rest is.1 all
packet_of_line slot (move own slice text) refused many rest is all = no_packet refused many rest all
packet_of_line slot (note text) refused many rest is all = no_packet refused many rest all

packets_in_range : (slot : ℕ) (lines : List LineTold) → AllByRecursion LineIn lines
    → AllByRecursion PlacedIn (packets_accepted slot lines)
packets_in_range slot [] all = tt
packets_in_range slot (now ∷ lines) all =
    packet_of_line slot now.meaning (is_refused now.entry) (commands_before now.entry) (packets_accepted slot lines)
    all.0 (packets_in_range slot lines all.1)

-- and how many
count_some : {X : Type 0} → Option X → ℕ
count_some None = 0
count_some (Some x) = 1

length-cons : {X : Type 0} (one : Option X) (xs : List X) → length (cons_option one xs) ≡ count_some one + length xs
unfolding count_some
length-cons None xs = omega arith
length-cons (Some x) xs = omega arith

one_most : (slot : ℕ) (now : Meaning) (refused : Bool) (many : ℕ)
    → count_some {X = CommandKind} (if refused then None else command_for slot now)
    + count_some {X = Placed} (if refused then None
    else option_map (λ q. record { commands = many; packet = q }) (packet_for slot now)) ≤ 1
unfolding count_some
one_most slot now true many = omega arith
one_most slot (command own c) false many = by_own (own == slot)
  where
    by_own : (test : Bool) → count_some {X = CommandKind} (if test then Some c else None) + count_some {X = Placed} None ≤ 1
    by_own true = omega arith
    by_own false = omega arith
one_most slot (packet own p) false many = by_own (own == slot)
  where
    by_own : (test : Bool) → count_some {X = CommandKind} None + count_some {X = Placed}
        (option_map (λ q. record { commands = many; packet = q }) (if test then Some p else None)) ≤ 1
    by_own true = omega arith
    by_own false = omega arith
one_most slot (move own slice text) false many = omega arith
one_most slot (note text) false many = omega arith

accepted_few : (slot : ℕ) (lines : List LineTold)
    → length (commands_accepted slot lines) + length (packets_accepted slot lines) ≤ length lines
accepted_few slot [] = omega arith
accepted_few slot (now ∷ lines) =
    omega (
      arith,
      length-cons (accepted_command slot now) (commands_accepted slot lines),
      length-cons (accepted_packet slot now) (packets_accepted slot lines),
      one_most slot now.meaning (is_refused now.entry) (commands_before now.entry),
      accepted_few slot lines,
    )

told_few : (made : List Meaning) (entries : List LineEntry) → length (lines_told made entries) ≤ length made
told_few [] entries = omega arith
told_few (now ∷ made) [] = omega arith
told_few (now ∷ made) (entry ∷ entries) = omega (arith, told_few made entries)

-- the events of a slot
numbered_in : (next : ℕ) (placed : Placed) → PlacedIn placed → next < 2 ^ 40 → PacketIn (numbered next placed.packet)
numbered_in next placed is few = record {
  octets = recursion_from_All IsOctet placed.packet.ip is.octets;
  short = is.short;
  moment = is.moment;
  number = few;
}

ordered_in : (done next : ℕ) (commands : List CommandKind) (packets : List Placed)
    → AllByRecursion IsCommandInRange commands → AllByRecursion PlacedIn packets → next + length packets < 2 ^ 40
    → AllByRecursion EventIn (merged done next commands packets)
ordered_in done next commands [] own others few =
    mapped IsCommandInRange EventIn event.Command (λ c is. is) commands own
ordered_in done next commands (p ∷ packets) own others few =
    let k : ℕ = p.commands - done in
    each_append EventIn (map event.Command (take k commands))
    (event.Packet (numbered next p.packet) ∷ merged p.commands (next + 1) (drop k commands) packets)
    (mapped IsCommandInRange EventIn event.Command (λ c is. is) (take k commands)
    (taken IsCommandInRange k commands own)) (
      numbered_in next p others.0 (omega (arith, few)),
      ordered_in p.commands (next + 1) (drop k commands) packets (dropped IsCommandInRange k commands own) others.1
          (omega (arith, few)),
    )

packets_most : (events : List Event) → length (packets_of events) ≤ length events
packets_most [] = omega arith
packets_most (event.Command c ∷ events) = omega (arith, packets_most events)
packets_most (event.Packet p ∷ events) = omega (arith, packets_most events)

now_few : (before : Histories) (made : List Meaning) (told : EpochReport) (slot : ℕ)
    → length (now_events before made told slot) ≤ length made
now_few before made told slot =
    let lines : List LineTold = told_in made told in
    omega (
      arith,
      ordered_length (length (commands_of (before slot))) (length (packets_of (before slot)))
          (commands_accepted slot lines) (packets_accepted slot lines),
      accepted_few slot lines,
      told_few made told.lines,
    )

now_in : (before : Histories) (made : List Meaning) (told : EpochReport) (slot : ℕ) → AllByRecursion IsInRange made
    → length (before slot) + length made < 2 ^ 40 → AllByRecursion EventIn (now_events before made told slot)
now_in before made told slot all few =
    let lines : List LineTold = told_in made told in
    let in_range : AllByRecursion LineIn lines = lines_in_range made told.lines all in
    ordered_in (length (commands_of (before slot))) (length (packets_of (before slot))) (commands_accepted slot lines)
    (packets_accepted slot lines) (commands_in_range slot lines in_range) (packets_in_range slot lines in_range)
    (omega (arith, few, packets_most (before slot), accepted_few slot lines, told_few made told.lines))

-- one line's entry
own_first : {X : Type 0} (P : X → Type 0) (x : X) (slot : ℕ) (rest : List X)
    → AllByRecursion P (cons_option (cond (slot == slot) (Some x) None) rest) → P x
own_first P x slot rest all =
    (subst (λ t. AllByRecursion P (cons_option (cond t (Some x) None) rest)) (eqb_same slot) all).0

less : {X : Type 0} (P : X → Type 0) (one : Option X) (xs : List X) → AllByRecursion P (cons_option one xs)
    → AllByRecursion P xs
less P None xs all = all
less P (Some x) xs all = all.1

abbrev NumberIn : ℕ → Type 0
NumberIn number = number < 2 ^ 40

-- what entries tell of each slot
record ToldIn (lines : List LineEntry) : Type 0 where
  numbers : (slot : ℕ) → slot ≤ 65532 → AllByRecursion NumberIn (filter_map (command_number slot) lines)
  replies : (slot : ℕ) → slot ≤ 65532 → AllByRecursion ReplyIn (filter_map (reply_told slot) lines)
  marks : (slot : ℕ) → slot ≤ 65532 → AllByRecursion MarkIn (filter_map (mark_told slot) lines)

told_less : (now : LineEntry) (lines : List LineEntry) → ToldIn (now ∷ lines) → ToldIn lines
told_less now lines is = record {
  numbers = λ slot known. less NumberIn (command_number slot now) (filter_map (command_number slot) lines)
      (is.numbers slot known);
  replies = λ slot known. less ReplyIn (reply_told slot now) (filter_map (reply_told slot) lines)
      (is.replies slot known);
  marks = λ slot known. less MarkIn (mark_told slot now) (filter_map (mark_told slot) lines) (is.marks slot known);
}

noted_in : (n : ℕ) (text : List ℕ) (noted : Noted) → n < 2 ^ 64 → IsNote text
    → noted ≡ record { line = n; note = text } → IsLineEntry (line.N noted)
noted_in n text noted few is same =
    subst (λ (now : Noted). IsLineEntry (line.N now)) (sym same) (few, is)

refused_in : (n slot : ℕ) (of_packet : Bool) (refused : Refusal) → n < 2 ^ 64 → slot ≤ 65532
    → refused ≡ record { line = n; slot = slot; packet = of_packet } → IsLineEntry (line.F refused)
refused_in n slot of_packet refused few known same =
    subst (λ (now : Refusal). IsLineEntry (line.F now)) (sym same) (few, known)

line_is : (n : ℕ) (now : Meaning) (told : LineEntry) (lines : List LineEntry) → n < 2 ^ 64 → IsInRange now
    → Answers n now told → ToldIn (told ∷ lines) → IsLineEntry (line_without_place told)
line_is n (note text) (line.N noted) lines few is same told_in = noted_in n text noted few is same
line_is n (move slot slice text) (line.N noted) lines few is same told_in = noted_in n text noted few is.1 same
line_is n (command slot c) (line.N noted) lines few is same told_in = absurd same
line_is n (packet slot p) (line.N noted) lines few is same told_in = absurd same
line_is n (note text) (line.C answered) lines few is same told_in = absurd same
line_is n (move slot slice text) (line.C answered) lines few is same told_in = absurd same
line_is n (command slot c) (line.C answered) lines few is same told_in =
    let known : answered.slot ≤ 65532 = subst (λ s. s ≤ 65532) (sym same.1) is.0 in
    let number : answered.number < 2 ^ 40 =
    own_first NumberIn answered.number answered.slot (filter_map (command_number answered.slot) lines)
    (told_in.numbers answered.slot known) in
    record {
      line = subst (λ m. m < 2 ^ 64) (sym same.0) few;
      slot = known;
      number = omega (arith, number);
      message = own_first ReplyIn answered.reply answered.slot (filter_map (reply_told answered.slot) lines)
          (told_in.replies answered.slot known);
    }
line_is n (packet slot p) (line.C answered) lines few is same told_in = absurd same
line_is n (note text) (line.P judged) lines few is same told_in = absurd same
line_is n (move slot slice text) (line.P judged) lines few is same told_in = absurd same
line_is n (command slot c) (line.P judged) lines few is same told_in = absurd same
line_is n (packet slot p) (line.P judged) lines few is same told_in =
    let known : judged.slot ≤ 65532 = subst (λ s. s ≤ 65532) (sym same.1) is.0 in
    let mark : Mark = record { number = judged.number; commands = judged.commands; verdict = judged.verdict } in
    let own : MarkIn mark =
    own_first MarkIn mark judged.slot (filter_map (mark_told judged.slot) lines) (told_in.marks judged.slot known) in
    record {
      line = subst (λ m. m < 2 ^ 64) (sym same.0) few;
      slot = known;
      number = omega (arith, own.number);
      commands = omega (arith, own.commands);
      verdict = own.verdict;
      place = tt;
      parked = tt;
    }
line_is n (note text) (line.F refused) lines few is same told_in = absurd same
line_is n (move slot slice text) (line.F refused) lines few is same told_in = absurd same
line_is n (command slot c) (line.F refused) lines few is same told_in =
    refused_in n slot false refused few is.0 same
line_is n (packet slot p) (line.F refused) lines few is same told_in = refused_in n slot true refused few is.0 same

lines_are : (n : ℕ) (made : List Meaning) (lines : List LineEntry) → n + length made < 2 ^ 64
    → AllByRecursion IsInRange made → AnswersAll n made lines → ToldIn lines
    → AllByRecursion IsLineEntry (map line_without_place lines)
lines_are n [] [] few all same told_in = tt
lines_are n [] (now ∷ lines) few all same told_in = absurd same
lines_are n (meant ∷ made) [] few all same told_in = absurd same
lines_are n (meant ∷ made) (now ∷ lines) few all same told_in = (
  line_is n meant now lines (omega (arith, few)) all.0 same.0 told_in,
  lines_are (n + 1) made lines (omega (arith, few)) all.1 same.1 (told_less now lines told_in),
)

-- numbers
counted_in : (first n : ℕ) → first + n < 2 ^ 40 → AllByRecursion NumberIn (counted first n)
counted_in first zero few = tt
counted_in first (suc n) few = (omega (arith, few), counted_in (first + 1) n (omega (arith, few)))

-- what is there by slot
each_by_slot : {X : Type 0} (P : X → Type 0) (has : ℕ → List X) (first n : ℕ)
    → ((s : ℕ) → s < first + n → AllByRecursion P (has s)) → AllByRecursion P (flat_map has (counted first n))
each_by_slot P has first zero each = tt
each_by_slot P has first (suc n) each =
    each_append P (has first) (flat_map has (counted (first + 1) n)) (each first (omega arith))
    (each_by_slot P has (first + 1) n (λ s below. each s (omega (arith, below))))

-- charging records, and open counters
rows_entries : (slot : ℕ) (rows : List Charged) → slot ≤ 65532 → AllByRecursion RowIn rows
    → AllByRecursion IsChargeEntry (map (R slot) rows)
rows_entries slot rows known all =
    mapped RowIn IsChargeEntry (R slot) (λ row is. (known, is.counters, is.first, is.last)) rows all

made_in : (slot : ℕ) (before now : List Event) → slot ≤ 65532 → length (before ++ now) < 2 ^ 40
    → PastIn (past_of slot (before ++ now)) → AllByRecursion IsChargeEntry (made_of.rows slot before now)
made_in slot before now known few is =
    rows_entries slot (records_made slot before now) known
    (dropped RowIn (length (records_after slot before)) (records_after slot (before ++ now))
    (rows_in (past_of slot (before ++ now)).packets.charged (events_few slot (before ++ now) (omega (arith, few))) is.packets.charged))

opens_in : (slot : ℕ) (events : List Event) → slot ≤ 65532 → length events < 2 ^ 40 → PastIn (past_of slot events)
    → AllByRecursion IsChargeEntry (made_of.opens slot events)
opens_in slot events known few is =
    let happened = (past_of slot events).packets.charged in
    mapped AreCounters IsChargeEntry (O slot) (λ counters own. (known, own)) _
    (mapped ActiveIn AreCounters (λ (b : ActiveBearer). open_at happened b.life)
    (λ b own. open_in happened b.life (events_few slot events (omega (arith, few))) own.life is.packets.charged)
    (version_after slot events).bearers is.packets.bearers)

-- an epoch
Ready : ℕ → Histories → Type 0
Ready first before =
    (slot : ℕ) → slot ≤ 65532 → PastIn (past_of slot (before slot)) × (length (before slot) < first)

module _ (setup : Setup) (slots first : ℕ) (before : Histories) (made : List Meaning) (told : EpochReport)
    (run : IsEpochRun setup slots first before made told) (all : AllByRecursion IsInRange made)
    (few : first + length made < 2 ^ 40) (known : slots ≤ 65533) (ready : Ready first before) where
  now : ℕ → List Event
  now slot = now_events before made told slot

  whole_few : (slot : ℕ) → slot ≤ 65532 → length (before slot ++ now_events before made told slot) < first + length made
  unfolding Ready
  whole_few slot is =
      omega (
        arith,
        (ready slot is).1,
        now_few before made told slot,
        length-append (before slot) (now_events before made told slot),
      )

  led : (slot : ℕ) → slot ≤ 65532 → LedIn slot (before slot) (now_events before made told slot)
  unfolding Ready
  led slot is =
      led_in slot (before slot) (now_events before made told slot) is (omega (arith, whole_few slot is, few))
      (ready slot is).0 (now_in before made told slot all (omega (arith, (ready slot is).1, few)))

  told_is : ToldIn told.lines
  unfolding Ready
  told_is = record {
    numbers = λ slot is. subst (AllByRecursion NumberIn) (sym (run.command_numbers slot))
        (counted_in (length (commands_of (before slot))) (length (commands_accepted slot (told_in made told)))
        (omega (
          arith,
          few,
          (ready slot is).1,
          commands_most (before slot),
          accepted_few slot (told_in made told),
          told_few made told.lines,
        )));
    replies = λ slot is. subst (AllByRecursion ReplyIn) (sym (run.replies slot)) (led slot is).replies;
    marks = λ slot is. subst (AllByRecursion MarkIn)
        (sym (epoch_marks setup slots first before made told slot run)) (led slot is).marks;
  }

  epoch_in : AllByRecursion IsEntry (epoch_entries (epoch_shown told))
  epoch_in =
      each_append IsEntry (map entry.Line (map line_without_place told.lines))
      (map entry.Effect told.effects ++ map entry.Charge told.rows)
      (mapped IsLineEntry IsEntry entry.Line (λ now is. is) (map line_without_place told.lines)
      (lines_are first made told.lines (omega (arith, few)) all run.one_each told_is))
      (each_append IsEntry (map entry.Effect told.effects) (map entry.Charge told.rows)
      (mapped IsEffected IsEntry entry.Effect (λ now is. is) told.effects
      (subst (AllByRecursion IsEffected) (sym run.effects)
      (each_by_slot IsEffected (λ slot. made_of.effects slot (before slot) (now_events before made told slot)) 0 slots
      (λ slot below. (led slot (omega (arith, below, known))).effects))))
      (mapped IsChargeEntry IsEntry entry.Charge (λ now is. is) told.rows
      (subst (AllByRecursion IsChargeEntry) (sym run.rows)
      (each_by_slot IsChargeEntry (λ slot. made_of.rows slot (before slot) (now_events before made told slot)) 0 slots
      (λ slot below.
      let is : slot ≤ 65532 = omega (arith, below, known) in
      made_in slot (before slot) (now_events before made told slot) is (omega (arith, whole_few slot is, few))
      (led slot is).past)))))

  ready_next : Ready (first + length made) (behind before (told_in made told))
  unfolding Ready
  ready_next slot is = ((led slot is).past, whole_few slot is)

epochs_in : (setup : Setup) (slots first : ℕ) (before : Histories) (epochs : List (List Meaning))
    (others : List EpochReport) → AreEpochRuns setup slots first before epochs others
    → AllByRecursion (AllByRecursion IsInRange) epochs
    → first + length (flat_map (λ (made : List Meaning). made) epochs) < 2 ^ 40 → slots ≤ 65533 → Ready first before
    → AllByRecursion IsEntry (flat_map epoch_entries (map epoch_shown others))
    × (last : ℕ) × Ready last (behind_all before epochs others) × (last < 2 ^ 40)
epochs_in setup slots first before [] [] runs all few known ready = (tt, first, ready, omega (arith, few))
epochs_in setup slots first before [] (told ∷ others) runs all few known ready = absurd runs
epochs_in setup slots first before (made ∷ epochs) [] runs all few known ready = absurd runs
epochs_in setup slots first before (made ∷ epochs) (told ∷ others) runs all few known ready =
    let parts = length-append made (flat_map (λ (m : List Meaning). m) epochs) in
    let here : first + length made < 2 ^ 40 = omega (arith, few, parts) in
    let rest = epochs_in setup slots (first + length made) (behind before (told_in made told)) epochs others runs.1
    all.1 (omega (arith, few, parts)) known
    (ready_next setup slots first before made told runs.0 all.0 here known ready) in (
      each_append IsEntry (epoch_entries (epoch_shown told)) (flat_map epoch_entries (map epoch_shown others))
          (epoch_in setup slots first before made told runs.0 all.0 here known ready) rest.0,
      rest.1,
      rest.2,
      rest.3,
    )

first_ready : Ready 1 no_events
unfolding Ready
first_ready slot is = (new_in slot, omega arith)

lists_from : (lists : List (List Meaning)) → All (All IsInRange) lists → AllByRecursion (AllByRecursion IsInRange) lists
lists_from [] all = tt
lists_from (made ∷ lists) all = (
  recursion_from_All IsInRange made (All-head (All IsInRange) made lists all),
  lists_from lists (All-tail (All IsInRange) made lists all),
)

pub entries_in : (setup : Setup) (slots : ℕ) (made : List (List Meaning)) (report : Report)
    → IsRun setup slots made report → All (All IsInRange) made
    → length (flat_map (λ (lines : List Meaning). lines) made) + 1 < 2 ^ 40 → slots ≤ 65533
    → All IsEntry (entries_of (report_shown report))
unfolding Ready
entries_in setup slots made report run all few known =
    let each : AllByRecursion (AllByRecursion IsInRange) made = lists_from made all in
    let epochs = epochs_in setup slots 1 no_events made report.epochs run.epochs each (omega (arith, few)) known
    first_ready in
    All-from_recursion IsEntry (entries_of (report_shown report))
    (each_append IsEntry (flat_map epoch_entries (map epoch_shown report.epochs)) (map entry.Charge report.opens)
    epochs.0
    (mapped IsChargeEntry IsEntry entry.Charge (λ now is. is) report.opens
    (subst (AllByRecursion IsChargeEntry) (sym run.opens)
    (each_by_slot IsChargeEntry
    (λ slot. made_of.opens slot (behind_all no_events made report.epochs slot)) 0 slots
    (λ slot below.
    let is : slot ≤ 65532 = omega (arith, below, known) in
    opens_in slot (behind_all no_events made report.epochs slot) is
    (omega (arith, (epochs.2 slot is).1, epochs.3)) (epochs.2 slot is).0)))))
