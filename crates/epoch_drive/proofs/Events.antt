-- What is told of each slot is what the schedule asks for.
use Rattle.std.proofs.Common.{◌≡◌, ℕ, zero, suc, ◌+◌, ◌==◌, ◌≤◌, Bool, true, false, cond, Option, Some, None, List, [], ◌∷◌, map, length, refl, sym, ap, ◌∙◌, arith}
use Rattle.std.specs.List.{cons_option}
use Rattle.std.specs.Option.{option_map}
use Rattle.std.proofs.lemmas.List.{length-map, nil_from_length}
use Rattle.control_steps.specs.declared.command.CommandKind.{CommandKind}
use Rattle.demux.specs.Trace.{Meaning, command, packet, move, note}
use Rattle.demux.specs.declared.packet.LentPacket.{LentPacket}
use Rattle.report_lines.specs.declared.entry.LineEntry.{LineEntry}
use Rattle.lawful_run.specs.Accepted as accepted
use Rattle.lawful_run.specs.LinesTold.{LineTold, lines_told}
use Rattle.lawful_run.specs.Telling.{counted}
use Rattle.lawful_run.specs.Joined.{with_counts}
use Rattle.epoch_schedule.specs.Front.{Outcome}
use Rattle.epoch_schedule.specs.Slots.{Met}
use Rattle.epoch_drive.proofs.There.{met_list, reply_list}
use Rattle.slot_execution.specs.Replaying.{counts_in, counts_of, numbers_in, packet_numbers_in, placed_lent, places_in, replies_in, verdicts_in}
use Rattle.slot_execution.specs.declared.placed.Placed.{Placed}
use Rattle.slot_execution.specs.declared.replayed.NumberedVerdict.{NumberedVerdict}
use Rattle.slot_execution.specs.declared.replayed.NumberedReply as told
use Rattle.packet_steps.specs.Lent.{verdict_of}
use Rattle.epoch_drive.specs.Joins.{met_so, replied_so}
use Rattle.epoch_drive.specs.DrivenOpened.{open_entries, open_entry}
use Rattle.epoch_drive.specs.Opened.{opened}
use Rattle.epoch_drive.specs.Shares.{packets_alone, packets_lent}

-- the first value, and those behind it
abbrev pub head_or : {X : Type 0} → X → List X → X
head_or d [] = d
head_or d (x ∷ xs) = x

abbrev pub tail_of : {X : Type 0} → List X → List X
tail_of [] = []
tail_of (x ∷ xs) = xs

-- lines with their open entries are the opened ones
pub opened_lines : (n : ℕ) (made : List Meaning) (outs : List Outcome)
    → opened n made outs ≡ lines_told made (open_entries n made outs)
opened_lines n [] outs = refl
opened_lines n (m ∷ made) [] = refl
opened_lines n (m ∷ made) (o ∷ outs) =
    ap (λ rest. record { meaning = m; entry = open_entry n m o } ∷ rest) (opened_lines (n + 1) made outs)

-- replies under their numbers
pub replies_list : (rs : List told.NumberedReply) (first k : ℕ) → numbers_in rs ≡ counted first k
    → map replied_so rs ≡ reply_list first (replies_in rs)
replies_list [] first k numbers = refl
replies_list (r ∷ rs) first zero numbers = absurd (omega (arith, ap length numbers))
replies_list (r ∷ rs) first (suc k) numbers =
    let rest = replies_list rs (first + 1) k (ap tail_of numbers) in
    let here : r.number ≡ first = ap (head_or 0) numbers in
    λ i. record { number = here i; reply = r.reply } ∷ rest i

-- verdicts with what was met
pub mets_list : (js : List NumberedVerdict) (mets : List Met) (base next k : ℕ) → packet_numbers_in js ≡ counted next k
    → counts_in js ≡ map (λ (m : Met). base + m.commands) mets → places_in js ≡ map (λ (m : Met). m.place) mets
    → map met_so js ≡ met_list base next mets (verdicts_in js)
mets_list [] [] base next k numbers counts places = refl
mets_list [] (m ∷ mets) base next k numbers counts places = absurd (omega (arith, ap length counts))
mets_list (j ∷ js) [] base next k numbers counts places = absurd (omega (arith, ap length counts))
mets_list (j ∷ js) (m ∷ mets) base next zero numbers counts places = absurd (omega (arith, ap length numbers))
mets_list (j ∷ js) (m ∷ mets) base next (suc k) numbers counts places =
    let rest = mets_list js mets base (next + 1) k (ap tail_of numbers) (ap tail_of counts) (ap tail_of places) in
    let number : j.number ≡ next = ap (head_or 0) numbers in
    let count : j.commands ≡ base + m.commands = ap (head_or 0) counts in
    let place : j.place ≡ m.place = ap (head_or m.place) places in
    λ i. record {
      number = number i;
      commands = count i;
      verdict = verdict_of j.verdict;
      place = Some (place i);
    } ∷ rest i

-- packets with their counts
pub with_none : (counts : List ℕ) → with_counts counts [] ≡ []
with_none [] = refl
with_none (c ∷ counts) = refl

pub packets_counted : (ps : List Placed) (counts : List ℕ) (taken : List accepted.Placed)
    → counts_of ps ≡ counts → packets_lent ps ≡ packets_alone taken → placed_lent ps ≡ with_counts counts taken
packets_counted [] [] taken is same =
    sym (ap (with_counts []) (nil_from_length taken (sym (length-map taken (λ (p : accepted.Placed). p.packet)) ∙ ap length (sym same))))
packets_counted [] (c ∷ counts) taken is same = absurd (omega (arith, ap length is))
packets_counted (p ∷ ps) [] taken is same = absurd (omega (arith, ap length is))
packets_counted (p ∷ ps) (c ∷ counts) [] is same = absurd (omega (arith, ap length same))
packets_counted (p ∷ ps) (c ∷ counts) (t ∷ taken) is same =
    let rest = packets_counted ps counts taken (ap tail_of is) (ap tail_of same) in
    let count : p.commands ≡ c = ap (head_or 0) is in
    let own : p.packet ≡ t.packet = ap (head_or p.packet) same in
    λ i. record { commands = count i; packet = own i } ∷ rest i

-- each line is at most one command or packet of a slot
one_more : (c : Option CommandKind) (p : Option accepted.Placed) (cs : List CommandKind) (ps : List accepted.Placed)
    (n : ℕ) → length (cons_option c []) + length (cons_option p []) ≤ 1 → length cs + length ps ≤ n
    → length (cons_option c cs) + length (cons_option p ps) ≤ n + 1
one_more None None cs ps n one few = omega (arith, few)
one_more (Some c) None cs ps n one few = omega (arith, few)
one_more None (Some p) cs ps n one few = omega (arith, few)
one_more (Some c) (Some p) cs ps n one few = absurd (omega (arith, one))

abbrev absent : (X : Type 0) → Option X
absent X = None

none_or : (X : Type 0) (test : Bool) → length (cons_option (cond test (absent X) (absent X)) []) ≡ 0
none_or X true = refl
none_or X false = refl

at_most : {X : Type 0} (test other : Bool) (x : X)
    → length (cons_option (cond test None (cond other (Some x) None)) []) ≤ 1
at_most true other x = omega arith
at_most false true x = omega arith
at_most false false x = omega arith

at_most_placed : (test other : Bool) (count : ℕ) (p : LentPacket)
    → length (cons_option (cond test None (option_map {T = LentPacket} {U = accepted.Placed}
    (λ q. record { commands = count; packet = q }) (cond other (Some p) None))) []) ≤ 1
at_most_placed true other count p = omega arith
at_most_placed false true count p = omega arith
at_most_placed false false count p = omega arith

one_by : (slot : ℕ) (m : Meaning) (e : LineEntry)
    → length (cons_option (accepted.accepted_command slot (record { meaning = m; entry = e })) [])
    + length (cons_option (accepted.accepted_packet slot (record { meaning = m; entry = e })) []) ≤ 1
one_by slot (note text) e =
    let cs = none_or CommandKind (accepted.is_refused e) in
    let ps = none_or accepted.Placed (accepted.is_refused e) in
    omega (arith, cs, ps)
one_by slot (move own slice text) e =
    let cs = none_or CommandKind (accepted.is_refused e) in
    let ps = none_or accepted.Placed (accepted.is_refused e) in
    omega (arith, cs, ps)
one_by slot (command own c) e =
    let cs = at_most (accepted.is_refused e) (own == slot) c in
    let ps = none_or accepted.Placed (accepted.is_refused e) in
    omega (arith, cs, ps)
one_by slot (packet own p) e =
    let cs = none_or CommandKind (accepted.is_refused e) in
    let ps = at_most_placed (accepted.is_refused e) (own == slot) (accepted.commands_before e) p in
    omega (arith, cs, ps)

one_at_most : (slot : ℕ) (line : LineTold) → length (cons_option (accepted.accepted_command slot line) [])
    + length (cons_option (accepted.accepted_packet slot line) []) ≤ 1
one_at_most slot line = one_by slot line.meaning line.entry

pub few_taken : (slot : ℕ) (lines : List LineTold)
    → length (accepted.commands_accepted slot lines) + length (accepted.packets_accepted slot lines) ≤ length lines
few_taken slot [] = omega arith
few_taken slot (line ∷ lines) =
    let here : length (accepted.commands_accepted slot (line ∷ lines))
    + length (accepted.packets_accepted slot (line ∷ lines)) ≤ length lines + 1 =
    one_more (accepted.accepted_command slot line) (accepted.accepted_packet slot line)
    (accepted.commands_accepted slot lines) (accepted.packets_accepted slot lines) (length lines)
    (one_at_most slot line) (few_taken slot lines) in
    omega (arith, here)
