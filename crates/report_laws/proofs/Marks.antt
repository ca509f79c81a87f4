-- The packets of a slot, each with its number, the commands before it and its verdict: as events have them, and as
-- entries tell them.
use Rattle.std.proofs.Common.{◌≡◌, ℕ, suc, ◌+◌, ◌≤◌, ◌==◌, Bool, true, false, cond, if◌then◌else◌, Option, None, Some, List, [], ◌∷◌, ◌++◌, length, map, refl, sym, ap, ◌∙◌, subst, arith, append_assoc, append-nil, length-append}
use Rattle.std.specs.List.{All, cons_option, filter_map, flat_map}
use Rattle.std.proofs.lemmas.List.Elements.{All-cons, All-nil, filter_map-append}
use Rattle.demux.specs.Trace.{Meaning}
use Rattle.gate_model.specs.Events.{commands_of, packets_of}
use Rattle.gate_model.specs.SlotPast.{verdict_after}
use Rattle.gate_model.specs.declared.event.Event.{Event}
use Rattle.gate_model.specs.declared.event.Event.TheVariants as event
use Rattle.pc_base.specs.declared.packet.Packet.{Packet}
use Rattle.pc_base.specs.declared.packet.Verdict.{Verdict}
use Rattle.report_lines.specs.declared.entry.LineEntry.{LineEntry}
use Rattle.report_lines.specs.declared.entry.LineEntry.TheVariants as line
use Rattle.lawful_run.specs.Accepted.{Placed, packets_accepted}
use Rattle.lawful_run.specs.Merging.{Histories, behind}
use Rattle.lawful_run.specs.Outcomes as made_of
use Rattle.lawful_run.specs.Placing.{numbered_from, places}
use Rattle.lawful_run.specs.Report.{EpochReport, Report}
use Rattle.lawful_run.specs.Run.{AreEpochRuns, IsEpochRun, IsRun, behind_all, no_events, told_in}
use Rattle.lawful_run.specs.Setup.{Setup}
use Rattle.lawful_run.specs.Telling.{commands_told, counted, packet_number, verdict_told}
use Rattle.lawful_run.proofs.AsTold.{stand_as_told}
use Rattle.lawful_run.proofs.ChargesTold.{all_events, now_events}
use Rattle.lawful_run.proofs.Counting.{commands-command, commands-packet}

pub record Mark : Type 0 where
  pub number : ℕ
  pub commands : ℕ
  pub verdict : Verdict

-- those of events behind others
abbrev pub marks : ℕ → List Event → List Event → List Mark
marks slot before [] = []
marks slot before (event.Command c ∷ events) = marks slot (before ++ event.Command c ∷ []) events
marks slot before (event.Packet p ∷ events) =
    record { number = p.number; commands = length (commands_of before); verdict = verdict_after slot before p }
    ∷ marks slot (before ++ event.Packet p ∷ []) events

pub marks-append : (slot : ℕ) (before events more : List Event)
    → marks slot before (events ++ more) ≡ marks slot before events ++ marks slot (before ++ events) more
marks-append slot before [] more = ap (λ done. marks slot done more) (sym (append-nil before))
marks-append slot before (event.Command c ∷ events) more =
    marks-append slot (before ++ event.Command c ∷ []) events more
    ∙ ap (λ done. marks slot (before ++ event.Command c ∷ []) events ++ marks slot done more)
    (append_assoc before (event.Command c ∷ []) events)
marks-append slot before (event.Packet p ∷ events) more =
    let mark : Mark =
    record { number = p.number; commands = length (commands_of before); verdict = verdict_after slot before p } in
    ap (λ rest. mark ∷ rest) (marks-append slot (before ++ event.Packet p ∷ []) events more
    ∙ ap (λ done. marks slot (before ++ event.Packet p ∷ []) events ++ marks slot done more)
    (append_assoc before (event.Packet p ∷ []) events))

-- no packet has more commands before it than there are
before_within : (prefix later : List Event) (most : ℕ) → length (commands_of (prefix ++ later)) ≤ most
    → length (commands_of prefix) ≤ most
before_within prefix later most few =
    let parts : length (commands_of (prefix ++ later)) ≡ length (commands_of prefix) + length (commands_of later) =
    ap length (filter_map-append _ prefix later) ∙ length-append (commands_of prefix) (commands_of later) in
    omega (arith, parts, few)

pub marks_within : (slot most : ℕ) (before events : List Event) → length (commands_of (before ++ events)) ≤ most
    → All (λ (mark : Mark). mark.commands ≤ most) (marks slot before events)
marks_within slot most before [] few = All-nil _
marks_within slot most before (event.Command c ∷ events) few =
    marks_within slot most (before ++ event.Command c ∷ []) events
    (subst (λ (es : List Event). length (commands_of es) ≤ most)
    (sym (append_assoc before (event.Command c ∷ []) events)) few)
marks_within slot most before (event.Packet p ∷ events) few =
    let own : length (commands_of before) ≤ most = before_within before (event.Packet p ∷ events) most few in
    All-cons (λ (mark : Mark). mark.commands ≤ most)
    (record { number = p.number; commands = length (commands_of before); verdict = verdict_after slot before p })
    (marks slot (before ++ event.Packet p ∷ []) events) own
    (marks_within slot most (before ++ event.Packet p ∷ []) events
    (subst (λ (es : List Event). length (commands_of es) ≤ most)
    (sym (append_assoc before (event.Packet p ∷ []) events)) few))

-- the parts of each
numbers_of : (slot : ℕ) (before events : List Event)
    → map (λ (mark : Mark). mark.number) (marks slot before events) ≡ map (λ (p : Packet). p.number) (packets_of events)
numbers_of slot before [] = refl
numbers_of slot before (event.Command c ∷ events) = numbers_of slot (before ++ event.Command c ∷ []) events
numbers_of slot before (event.Packet p ∷ events) =
    ap (λ rest. p.number ∷ rest) (numbers_of slot (before ++ event.Packet p ∷ []) events)

places_of : (slot : ℕ) (before events : List Event)
    → map (λ (mark : Mark). mark.commands) (marks slot before events) ≡ places (length (commands_of before)) events
places_of slot before [] = refl
places_of slot before (event.Command c ∷ events) =
    places_of slot (before ++ event.Command c ∷ []) events ∙ ap (λ n. places n events) (commands-command before c)
places_of slot before (event.Packet p ∷ events) =
    ap (λ rest. length (commands_of before) ∷ rest) (places_of slot (before ++ event.Packet p ∷ []) events
    ∙ ap (λ n. places n events) (commands-packet before p))

verdicts_of : (slot : ℕ) (before events : List Event)
    → map (λ (mark : Mark). mark.verdict) (marks slot before events) ≡ made_of.verdicts slot before events
verdicts_of slot before [] = refl
verdicts_of slot before (event.Command c ∷ events) = verdicts_of slot (before ++ event.Command c ∷ []) events
verdicts_of slot before (event.Packet p ∷ events) =
    ap (λ rest. verdict_after slot before p ∷ rest) (verdicts_of slot (before ++ event.Packet p ∷ []) events)

length-numbered : (next : ℕ) (packets : List Placed) → length (numbered_from next packets) ≡ length packets
length-numbered next [] = refl
length-numbered next (p ∷ packets) = ap suc (length-numbered (next + 1) packets)

numbers_counted : (next : ℕ) (packets : List Placed)
    → map (λ (p : Packet). p.number) (numbered_from next packets) ≡ counted next (length packets)
numbers_counted next [] = refl
numbers_counted next (p ∷ packets) = ap (λ rest. next ∷ rest) (numbers_counted (next + 1) packets)

pub epoch_numbers : (setup : Setup) (slots first : ℕ) (before : Histories) (made : List Meaning) (told : EpochReport)
    (slot : ℕ) → IsEpochRun setup slots first before made told
    → map (λ (mark : Mark). mark.number) (marks slot (before slot) (now_events before made told slot))
    ≡ counted (length (packets_of (before slot))) (length (packets_of (now_events before made told slot)))
epoch_numbers setup slots first before made told slot run =
    let now : List Event = now_events before made told slot in
    let packets : List Placed = packets_accepted slot (told_in made told) in
    let next : ℕ = length (packets_of (before slot)) in
    let are : packets_of now ≡ numbered_from next packets = (stand_as_told setup slots first before made told slot run).packets in
    numbers_of slot (before slot) now ∙ ap (map (λ (p : Packet). p.number)) are ∙ numbers_counted next packets
    ∙ ap (counted next) (sym (ap length are ∙ length-numbered next packets))

-- those that entries tell of a slot
abbrev pub mark_told : ℕ → LineEntry → Option Mark
mark_told slot (line.N noted) = None
mark_told slot (line.C answered) = None
mark_told slot (line.P judged) =
    if judged.slot == slot
    then Some (record { number = judged.number; commands = judged.commands; verdict = judged.verdict })
    else None
mark_told slot (line.F refused) = None

told_part : {X : Type 0} (part : Mark → X) (test : Bool) (mark : Mark) (xs : List X) (marks_ : List Mark)
    → xs ≡ map part marks_
    → cons_option (cond test (Some (part mark)) None) xs ≡ map part (cons_option (cond test (Some mark) None) marks_)
told_part part true mark xs marks_ same = ap (λ rest. part mark ∷ rest) same
told_part part false mark xs marks_ same = same

numbers_told : (slot : ℕ) (lines : List LineEntry)
    → filter_map (packet_number slot) lines ≡ map (λ (mark : Mark). mark.number) (filter_map (mark_told slot) lines)
numbers_told slot [] = refl
numbers_told slot (line.N noted ∷ lines) = numbers_told slot lines
numbers_told slot (line.C answered ∷ lines) = numbers_told slot lines
numbers_told slot (line.P judged ∷ lines) =
    told_part (λ (mark : Mark). mark.number) (judged.slot == slot)
    (record { number = judged.number; commands = judged.commands; verdict = judged.verdict })
    (filter_map (packet_number slot) lines) (filter_map (mark_told slot) lines) (numbers_told slot lines)
numbers_told slot (line.F refused ∷ lines) = numbers_told slot lines

counts_told : (slot : ℕ) (lines : List LineEntry)
    → filter_map (commands_told slot) lines ≡ map (λ (mark : Mark). mark.commands) (filter_map (mark_told slot) lines)
counts_told slot [] = refl
counts_told slot (line.N noted ∷ lines) = counts_told slot lines
counts_told slot (line.C answered ∷ lines) = counts_told slot lines
counts_told slot (line.P judged ∷ lines) =
    told_part (λ (mark : Mark). mark.commands) (judged.slot == slot)
    (record { number = judged.number; commands = judged.commands; verdict = judged.verdict })
    (filter_map (commands_told slot) lines) (filter_map (mark_told slot) lines) (counts_told slot lines)
counts_told slot (line.F refused ∷ lines) = counts_told slot lines

verdicts_told : (slot : ℕ) (lines : List LineEntry)
    → filter_map (verdict_told slot) lines ≡ map (λ (mark : Mark). mark.verdict) (filter_map (mark_told slot) lines)
verdicts_told slot [] = refl
verdicts_told slot (line.N noted ∷ lines) = verdicts_told slot lines
verdicts_told slot (line.C answered ∷ lines) = verdicts_told slot lines
verdicts_told slot (line.P judged ∷ lines) =
    told_part (λ (mark : Mark). mark.verdict) (judged.slot == slot)
    (record { number = judged.number; commands = judged.commands; verdict = judged.verdict })
    (filter_map (verdict_told slot) lines) (filter_map (mark_told slot) lines) (verdicts_told slot lines)
verdicts_told slot (line.F refused ∷ lines) = verdicts_told slot lines

-- marks with the same parts are the same
tail_or : {X : Type 0} → List X → List X
tail_or [] = []
tail_or (x ∷ xs) = xs

head_or : {X : Type 0} → X → List X → X
head_or d [] = d
head_or d (x ∷ xs) = x

pub rest_same : {X : Type 0} (x y : X) (xs ys : List X) → x ∷ xs ≡ y ∷ ys → xs ≡ ys
unfolding tail_or
rest_same x y xs ys same = ap tail_or same

pub first_same : {X : Type 0} (x y : X) (xs ys : List X) → x ∷ xs ≡ y ∷ ys → x ≡ y
unfolding head_or
first_same x y xs ys same = ap (head_or x) same

same_marks : (xs ys : List Mark)
    → map (λ (mark : Mark). mark.number) xs ≡ map (λ (mark : Mark). mark.number) ys
    → map (λ (mark : Mark). mark.commands) xs ≡ map (λ (mark : Mark). mark.commands) ys
    → map (λ (mark : Mark). mark.verdict) xs ≡ map (λ (mark : Mark). mark.verdict) ys → xs ≡ ys
same_marks [] [] numbers counts verdicts = refl
same_marks [] (y ∷ ys) numbers counts verdicts = cc
same_marks (x ∷ xs) [] numbers counts verdicts = cc
same_marks (x ∷ xs) (y ∷ ys) numbers counts verdicts =
    let number = first_same x.number y.number _ _ numbers in
    let count = first_same x.commands y.commands _ _ counts in
    let verdict = first_same x.verdict y.verdict _ _ verdicts in
    let rest = same_marks xs ys (rest_same x.number y.number _ _ numbers) (rest_same x.commands y.commands _ _ counts)
    (rest_same x.verdict y.verdict _ _ verdicts) in
    λ i. record { number = number i; commands = count i; verdict = verdict i } ∷ rest i

-- an epoch's entries tell those of its events
pub epoch_marks : (setup : Setup) (slots first : ℕ) (before : Histories) (made : List Meaning) (told : EpochReport)
    (slot : ℕ) → IsEpochRun setup slots first before made told
    → filter_map (mark_told slot) told.lines ≡ marks slot (before slot) (now_events before made told slot)
epoch_marks setup slots first before made told slot run =
    let now : List Event = now_events before made told slot in
    let stands = stand_as_told setup slots first before made told slot run in
    same_marks (filter_map (mark_told slot) told.lines) (marks slot (before slot) now)
    (sym (numbers_told slot told.lines) ∙ run.packet_numbers slot
    ∙ sym (numbers_counted (length (packets_of (before slot))) (packets_accepted slot (told_in made told)))
    ∙ ap (map (λ (p : Packet). p.number)) (sym stands.packets) ∙ sym (numbers_of slot (before slot) now))
    (sym (counts_told slot told.lines) ∙ sym stands.counts ∙ sym (places_of slot (before slot) now))
    (sym (verdicts_told slot told.lines) ∙ run.verdicts slot ∙ sym (verdicts_of slot (before slot) now))

marks_from : (setup : Setup) (slots first : ℕ) (before : Histories) (epochs : List (List Meaning))
    (others : List EpochReport) (slot : ℕ) → AreEpochRuns setup slots first before epochs others
    → marks slot [] (before slot) ++ flat_map (λ (told : EpochReport). filter_map (mark_told slot) told.lines) others
    ≡ marks slot [] (behind_all before epochs others slot)
marks_from setup slots first before [] [] slot runs = append-nil (marks slot [] (before slot))
marks_from setup slots first before [] (told ∷ others) slot runs = absurd runs
marks_from setup slots first before (made ∷ epochs) [] slot runs = absurd runs
marks_from setup slots first before (made ∷ epochs) (told ∷ others) slot runs =
    let now : List Event = now_events before made told slot in
    let rest : List Mark = flat_map (λ (t : EpochReport). filter_map (mark_told slot) t.lines) others in
    ap (λ ms. marks slot [] (before slot) ++ (ms ++ rest)) (epoch_marks setup slots first before made told slot runs.0)
    ∙ sym (append_assoc (marks slot [] (before slot)) (marks slot (before slot) now) rest)
    ∙ ap (λ ms. ms ++ rest) (sym (marks-append slot [] (before slot) now))
    ∙ marks_from setup slots (first + length made) (behind before (told_in made told)) epochs others slot runs.1

-- and so in a whole run
pub marks_are : (setup : Setup) (slots : ℕ) (made : List (List Meaning)) (report : Report) (slot : ℕ)
    → IsRun setup slots made report
    → flat_map (λ (told : EpochReport). filter_map (mark_told slot) told.lines) report.epochs
    ≡ marks slot [] (all_events made report slot)
marks_are setup slots made report slot run =
    marks_from setup slots 1 no_events made report.epochs slot run.epochs
