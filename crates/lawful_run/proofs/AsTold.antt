-- The events of a slot in a lawful epoch stand in the order that its packets' counts tell.
use Rattle.std.proofs.Common.{◌≡◌, ℕ, zero, suc, ◌+◌, ◌-◌, ◌≤◌, ◌==◌, Bool, true, false, Some, None, List, [], ◌∷◌, ◌++◌, length, map, take, drop, cond, refl, sym, ap, subst, ◌∙◌, arith, append_assoc, length-append}
use Rattle.std.specs.List.{filter_map, cons_option}
use Rattle.std.proofs.lemmas.Bool.{eqb-true}
use Rattle.std.proofs.lemmas.List.Elements.{filter_map-append}
use Rattle.control_steps.specs.declared.command.CommandKind.{CommandKind}
use Rattle.demux.specs.Packets.{numbered}
use Rattle.demux.specs.Trace.{Meaning}
use Rattle.gate_model.specs.Events.{commands_of, packets_of}
use Rattle.gate_model.specs.declared.event.Event.{Event}
use Rattle.gate_model.specs.declared.event.Event.TheVariants as event
use Rattle.report_lines.specs.declared.entry.LineEntry.{LineEntry}
use Rattle.report_lines.specs.declared.entry.LineEntry.TheVariants as line
use Rattle.lawful_run.specs.Accepted.{Placed, commands_accepted, packets_accepted, command_count}
use Rattle.lawful_run.specs.Answers.{AnswersAll}
use Rattle.lawful_run.specs.Bounds.{Rises, MeetsBounds, MeetsAs, MayMeet, count_before}
use Rattle.lawful_run.specs.Setup.{Setup, solo, sliced}
use Rattle.lawful_run.specs.LinesTold.{LineTold, lines_told, EachFrom}
use Rattle.lawful_run.specs.Moves.{moves, before_next_move}
use Rattle.lawful_run.specs.Merging.{Histories, merged}
use Rattle.lawful_run.specs.Placing.{places, numbered_from, EventsStandAsTold}
use Rattle.lawful_run.specs.Report.{EpochReport}
use Rattle.lawful_run.specs.Run.{told_in, IsEpochRun}
use Rattle.lawful_run.specs.Telling.{commands_told}
use Rattle.lawful_run.proofs.InSequenceSlots.{placed_counts}
use Rattle.lawful_run.proofs.MergingLemmas.{counts_of}

-- counts that aren't above a most one
abbrev pub NoneAbove : ℕ → List ℕ → Type 0
NoneAbove most [] = Unit {0}
NoneAbove most (count ∷ counts) = (count ≤ most) × NoneAbove most counts

-- commands alone
commands-alone : (commands : List CommandKind) → commands_of (map event.Command commands) ≡ commands
commands-alone [] = refl
commands-alone (c ∷ commands) = ap (λ cs. c ∷ cs) (commands-alone commands)

packets-alone : (commands : List CommandKind) → packets_of (map event.Command commands) ≡ []
packets-alone [] = refl
packets-alone (c ∷ commands) = packets-alone commands

places-alone : (done : ℕ) (commands : List CommandKind) → places done (map event.Command commands) ≡ []
places-alone done [] = refl
places-alone done (c ∷ commands) = places-alone (done + 1) commands

places-behind : (done : ℕ) (commands : List CommandKind) (events : List Event)
    → places done (map event.Command commands ++ events) ≡ places (done + length commands) events
places-behind done [] events = ap (λ k. places k events) (omega arith)
places-behind done (c ∷ commands) events =
    places-behind (done + 1) commands events ∙ ap (λ k. places k events) (omega arith)

take-drop : {X : Type 0} (n : ℕ) (xs : List X) → take n xs ++ drop n xs ≡ xs
take-drop zero xs = refl
take-drop (suc n) [] = refl
take-drop (suc n) (x ∷ xs) = ap (λ rest. x ∷ rest) (take-drop n xs)

length-take : {X : Type 0} (n : ℕ) (xs : List X) → n ≤ length xs → length (take n xs) ≡ n
length-take zero xs within = refl
length-take (suc n) [] within = absurd (omega (arith, within))
length-take (suc n) (x ∷ xs) within =
    let rest = length-take n xs (omega (arith, within)) in omega (arith, rest)

length-drop : {X : Type 0} (n : ℕ) (xs : List X) → n ≤ length xs → length (drop n xs) + n ≡ length xs
length-drop zero xs within = omega arith
length-drop (suc n) [] within = absurd (omega (arith, within))
length-drop (suc n) (x ∷ xs) within = let rest = length-drop n xs (omega (arith, within)) in omega (arith, rest)

-- in their order commands are the commands, and packets the packets
pub merged-commands : (done next : ℕ) (commands : List CommandKind) (packets : List Placed)
    → commands_of (merged done next commands packets) ≡ commands
merged-commands done next commands [] = commands-alone commands
merged-commands done next commands (p ∷ packets) =
    filter_map-append _ (map event.Command (take (p.commands - done) commands)) _
    ∙ (λ i. commands-alone (take (p.commands - done) commands) i
    ++ merged-commands p.commands (next + 1) (drop (p.commands - done) commands) packets i)
    ∙ take-drop (p.commands - done) commands

pub merged-packets : (done next : ℕ) (commands : List CommandKind) (packets : List Placed)
    → packets_of (merged done next commands packets) ≡ numbered_from next packets
merged-packets done next commands [] = packets-alone commands
merged-packets done next commands (p ∷ packets) =
    filter_map-append _ (map event.Command (take (p.commands - done) commands)) _
    ∙ (λ i. packets-alone (take (p.commands - done) commands) i
    ++ (numbered next p.packet ∷ merged-packets p.commands (next + 1) (drop (p.commands - done) commands) packets i))

-- and before each packet stand as many commands as it tells, where counts rise and none is above all commands
pub merged-places : (done next : ℕ) (commands : List CommandKind) (packets : List Placed)
    → Rises done (counts_of packets)
    → NoneAbove (done + length commands) (counts_of packets)
    → places done (merged done next commands packets) ≡ counts_of packets
merged-places done next commands [] rises within = places-alone done commands
merged-places done next commands (p ∷ packets) rises within =
    let few : p.commands - done ≤ length commands = omega (arith, rises.0, within.0) in
    let prefix = length-take (p.commands - done) commands few in
    let rest = length-drop (p.commands - done) commands few in
    let here : done + length (take (p.commands - done) commands) ≡ p.commands = omega (arith, prefix, rises.0) in
    let most : done + length commands ≡ p.commands + length (drop (p.commands - done) commands) =
    omega (arith, rest, rises.0) in
    places-behind done (take (p.commands - done) commands) _
    ∙ ap (λ k. places k (event.Packet (numbered next p.packet)
    ∷ merged p.commands (next + 1) (drop (p.commands - done) commands) packets)) here
    ∙ ap (λ counts. p.commands ∷ counts)
    (merged-places p.commands (next + 1) (drop (p.commands - done) commands) packets rises.1
    (subst (λ k. NoneAbove k (counts_of packets)) most within.1))

-- no packet meets more commands than its slot has
fewer_with : (test : Bool) (slot : ℕ) (now : LineTold) (lines some : List LineTold)
    → command_count slot some ≤ command_count slot lines
    → command_count slot (cond test [] (now ∷ some)) ≤ command_count slot (now ∷ lines)
fewer_with false slot now lines some fewer =
    let parts : command_count slot ((now ∷ []) ++ lines) ≡ command_count slot (now ∷ []) + command_count slot lines =
    simp (filter_map-append, length-append) in
    let others : command_count slot ((now ∷ []) ++ some) ≡ command_count slot (now ∷ []) + command_count slot some =
    simp (filter_map-append, length-append) in
    omega (arith, fewer, parts, others)
fewer_with true slot now lines some fewer = omega arith

fewer_before_move : (slot other : ℕ) (lines : List LineTold)
    → command_count slot (before_next_move other lines) ≤ command_count slot lines
fewer_before_move slot other [] = omega arith
fewer_before_move slot other (now ∷ later) =
    fewer_with (moves other now) slot now later (before_next_move other later) (fewer_before_move slot other later)

pub met_at_most : (setup : Setup) (start : Histories) (slot : ℕ) (prefix later : List LineTold) (now : LineTold) (count : ℕ)
    → MayMeet setup start slot prefix later count
    → count ≤ count_before start slot + command_count slot (prefix ++ now ∷ later)
met_at_most solo start slot prefix later now count meets =
    let parts : command_count slot (prefix ++ now ∷ later) ≡ command_count slot prefix
    + command_count slot (now ∷ later) =
    simp (filter_map-append, length-append) in
    omega (arith, meets, parts)
met_at_most (sliced slices room lane) start slot prefix later now count meets =
    let fewer = fewer_before_move slot slot later in
    let parts : command_count slot (prefix ++ now ∷ later) ≡ command_count slot prefix
    + command_count slot (now ∷ later) =
    simp (filter_map-append, length-append) in
    let some : command_count slot (prefix ++ before_next_move slot later) ≡ command_count slot prefix
    + command_count slot (before_next_move slot later) =
    simp (filter_map-append, length-append) in
    let own : command_count slot ((now ∷ []) ++ later) ≡ command_count slot (now ∷ []) + command_count slot later =
    simp (filter_map-append, length-append) in
    omega (arith, meets.1, fewer, parts, some, own)

above_first : (test : Bool) (count most : ℕ) (counts : List ℕ) → (test ≡ true → count ≤ most) → NoneAbove most counts
    → NoneAbove most (cons_option (cond test (Some count) None) counts)
above_first true count most counts own none = (own refl, none)
above_first false count most counts own none = none

by_entry : (slot : ℕ) (setup : Setup) (start : Histories) (prefix : List LineTold) (now : Meaning) (entry : LineEntry)
    (later : List LineTold)
    (counts : List ℕ) → MeetsAs setup start prefix entry later
    → NoneAbove (count_before start slot + command_count slot (prefix ++ record { meaning = now; entry = entry }
    ∷ later)) counts
    → NoneAbove (count_before start slot + command_count slot (prefix ++ record { meaning = now; entry = entry }
    ∷ later))
    (cons_option (commands_told slot entry) counts)
by_entry slot setup start prefix now (line.N noted) later counts meets none = none
by_entry slot setup start prefix now (line.C answered) later counts meets none = none
by_entry slot setup start prefix now (line.P judged) later counts meets none =
    above_first (judged.slot == slot) judged.commands
    (count_before start slot + command_count slot (prefix ++ record { meaning = now; entry = line.P judged }
    ∷ later)) counts
    (λ own. subst (λ s. judged.commands ≤ count_before start s
    + command_count s (prefix ++ record { meaning = now; entry = line.P judged } ∷ later))
    (eqb-true judged.slot slot own)
    (met_at_most setup start judged.slot prefix later (record { meaning = now; entry = line.P judged })
    judged.commands meets)) none
by_entry slot setup start prefix now (line.F refused) later counts meets none = none

none_above : (slot n : ℕ) (setup : Setup) (start : Histories) (prefix : List LineTold) (made : List Meaning)
    (entries : List LineEntry)
    → AnswersAll n made entries → EachFrom (MeetsBounds setup start) prefix (lines_told made entries)
    → NoneAbove (count_before start slot + command_count slot (prefix ++ lines_told made entries))
    (filter_map (commands_told slot) entries)
none_above slot n setup start prefix [] [] answers each = tt
none_above slot n setup start prefix [] (entry ∷ entries) answers each = absurd answers
none_above slot n setup start prefix (now ∷ made) [] answers each = absurd answers
none_above slot n setup start prefix (now ∷ made) (entry ∷ entries) answers each =
    let told : LineTold = record { meaning = now; entry = entry } in
    let rest = subst (λ lines. NoneAbove (count_before start slot + command_count slot lines)
    (filter_map (commands_told slot) entries))
    (append_assoc prefix (told ∷ []) (lines_told made entries))
    (none_above slot (n + 1) setup start (prefix ++ told ∷ []) made entries answers.1 each.1) in
    by_entry slot setup start prefix now entry (lines_told made entries)
    (filter_map (commands_told slot) entries) each.0 rest

pub counts_within : (setup : Setup) (slots first : ℕ) (before : Histories) (made : List Meaning) (told : EpochReport)
    (slot : ℕ)
    → IsEpochRun setup slots first before made told
    → NoneAbove (length (commands_of (before slot)) + length (commands_accepted slot (told_in made told)))
    (filter_map (commands_told slot) told.lines)
counts_within setup slots first before made told slot run =
    none_above slot first setup before [] made told.lines run.one_each run.bounds

pub stand_as_told : EventsStandAsTold
stand_as_told setup slots first before made told slot run =
    let placed = placed_counts slot first made told.lines run.one_each in
    let done : ℕ = length (commands_of (before slot)) in
    let commands : List CommandKind = commands_accepted slot (told_in made told) in
    let packets : List Placed = packets_accepted slot (told_in made told) in
    record {
      commands = merged-commands done (length (packets_of (before slot))) commands packets;
      packets = merged-packets done (length (packets_of (before slot))) commands packets;
      counts = merged-places done (length (packets_of (before slot))) commands packets
          (subst (Rises done) (sym placed) (run.counts_rise slot))
          (subst (NoneAbove (done + length commands)) (sym placed)
          (counts_within setup slots first before made told slot run))
          ∙ placed;
    }
