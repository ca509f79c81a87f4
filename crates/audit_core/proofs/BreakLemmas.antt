-- A break of a sentence in the lines of an epoch breaks it there.
use Rattle.std.proofs.Common.{◌≡◌, ℕ, zero, suc, ◌+◌, ◌≤◌, max, IfSome, Option, Some, None, List, [], ◌∷◌, ◌++◌, length, take, map, refl, sym, ap, ◌∙◌, subst, inl, inr, arith, append_assoc, append-nil, length-append}
use Rattle.std.specs.List.{cons_option, filter_map}
use Rattle.std.proofs.lemmas.List.{append_cancel_left, take_at}
use Rattle.std.proofs.lemmas.List.Elements.{filter_map-append}
use Rattle.gate_model.specs.Events.{commands_of, packets_of}
use Rattle.report_lines.specs.declared.entry.Entry.{Entry}
use Rattle.report_lines.specs.declared.entry.LineEntry.{LineEntry}
use Rattle.report_lines.specs.declared.entry.LineEntry.TheVariants as line
use Rattle.lawful_run.specs.Accepted.{command_count, commands_accepted, packets_accepted}
use Rattle.lawful_run.specs.Answers.{AnswersAll}
use Rattle.lawful_run.specs.Bounds.{MeetsAs, MeetsBounds, Rises, count_before}
use Rattle.lawful_run.specs.LinesTold.{EachFrom, LineTold, lines_told}
use Rattle.lawful_run.specs.Merging.{Histories, events_in}
use Rattle.lawful_run.specs.Moves.{before_last_move, before_next_move}
use Rattle.lawful_run.specs.Outcomes as made_of
use Rattle.lawful_run.specs.Parking.{ParkedBehindMoves}
use Rattle.lawful_run.specs.Refusals.{RefusedWhereFull}
use Rattle.lawful_run.specs.Setup.{Setup, solo, sliced}
use Rattle.lawful_run.specs.Telling.{command_number, commands_told, counted, packet_number}
use Rattle.audit_core.specs.Answers.{reply_in, verdict_in}
use Rattle.audit_core.specs.Bounds.{IsCountBreak, LiesBetween, last_before, last_count}
use Rattle.audit_core.specs.FirstLines.{InSequence, MayStand}
use Rattle.audit_core.specs.Gateway.{AnswerBreak, IsGatewayBreak, SaidBreak}
use Rattle.audit_core.specs.Meant.{share}
use Rattle.audit_core.specs.OfSlot.{AreAnswered, CountsRise, LiesWithin, NumberOn, Within, told_of}
use Rattle.audit_core.specs.Places.{first_of}
use Rattle.audit_core.specs.Sentences.{AreNumbered, AreOfTheGateway, CountsAreLawful, WaitsAreLawful}
use Rattle.audit_core.specs.Why.{NumberBreak, WaitBreak}
use Rattle.audit_core.specs.declared.telling.Break.{Break}
use Rattle.audit_core.proofs.LineKinds.{KindOf, kind_of, other, moved, answered, judged, refused}
use Rattle.audit_core.proofs.ShareLemmas.{replies_shared, verdicts_shared}
use Rattle.audit_core.proofs.TogetherLemmas.{counts_of_slots}

-- the first of some lines that are answered
pub answered_prefix : (n : ℕ) (prefix later : List LineTold) → AreAnswered n (prefix ++ later) → AreAnswered n prefix
answered_prefix n [] later are = tt
answered_prefix n (now ∷ prefix) later are = (are.0, answered_prefix (n + 1) prefix later are.1)

-- each accepted command or packet of a slot tells one number
command_told : (n slot : ℕ) (now : LineTold) (later : List LineTold) → KindOf slot now
    → length (told_of command_number slot later) ≡ length (commands_accepted slot later)
    → length (told_of command_number slot (now ∷ later)) ≡ length (commands_accepted slot (now ∷ later))
command_told n slot now later (other tells) rest =
    ap (λ o. length (cons_option o (told_of command_number slot later))) tells.command_number_is ∙ rest
    ∙ sym (ap (λ o. length (cons_option o (commands_accepted slot later))) tells.accepted_is)
command_told n slot now later (moved noted is moves tells) rest =
    ap (λ o. length (cons_option o (told_of command_number slot later))) tells.command_number_is ∙ rest
    ∙ sym (ap (λ o. length (cons_option o (commands_accepted slot later))) tells.accepted_is)
command_told n slot now later (answered a c is moves tells) rest =
    ap (λ o. length (cons_option o (told_of command_number slot later))) tells.command_number_is ∙ ap suc rest
    ∙ sym (ap (λ o. length (cons_option o (commands_accepted slot later))) tells.accepted_is)
command_told n slot now later (judged j p is moves tells) rest =
    ap (λ o. length (cons_option o (told_of command_number slot later))) tells.command_number_is ∙ rest
    ∙ sym (ap (λ o. length (cons_option o (commands_accepted slot later))) tells.accepted_is)
command_told n slot now later (refused r is moves tells) rest =
    ap (λ o. length (cons_option o (told_of command_number slot later))) tells.command_number_is ∙ rest
    ∙ sym (ap (λ o. length (cons_option o (commands_accepted slot later))) tells.accepted_is)

packet_told : (n slot : ℕ) (now : LineTold) (later : List LineTold) → KindOf slot now
    → length (told_of packet_number slot later) ≡ length (packets_accepted slot later)
    → length (told_of packet_number slot (now ∷ later)) ≡ length (packets_accepted slot (now ∷ later))
packet_told n slot now later (other tells) rest =
    ap (λ o. length (cons_option o (told_of packet_number slot later))) tells.packet_number_is ∙ rest
    ∙ sym (ap (λ o. length (cons_option o (packets_accepted slot later))) tells.placed_is)
packet_told n slot now later (moved noted is moves tells) rest =
    ap (λ o. length (cons_option o (told_of packet_number slot later))) tells.packet_number_is ∙ rest
    ∙ sym (ap (λ o. length (cons_option o (packets_accepted slot later))) tells.placed_is)
packet_told n slot now later (answered a c is moves tells) rest =
    ap (λ o. length (cons_option o (told_of packet_number slot later))) tells.packet_number_is ∙ rest
    ∙ sym (ap (λ o. length (cons_option o (packets_accepted slot later))) tells.placed_is)
packet_told n slot now later (judged j p is moves tells) rest =
    ap (λ o. length (cons_option o (told_of packet_number slot later))) tells.packet_number_is ∙ ap suc rest
    ∙ sym (ap (λ o. length (cons_option o (packets_accepted slot later))) tells.placed_is)
packet_told n slot now later (refused r is moves tells) rest =
    ap (λ o. length (cons_option o (told_of packet_number slot later))) tells.packet_number_is ∙ rest
    ∙ sym (ap (λ o. length (cons_option o (packets_accepted slot later))) tells.placed_is)

commands_counted : (n slot : ℕ) (lines : List LineTold) → AreAnswered n lines
    → length (told_of command_number slot lines) ≡ length (commands_accepted slot lines)
commands_counted n slot [] are = refl
commands_counted n slot (now ∷ later) are =
    command_told n slot now later (kind_of n slot now are.0) (commands_counted (n + 1) slot later are.1)

packets_counted : (n slot : ℕ) (lines : List LineTold) → AreAnswered n lines
    → length (told_of packet_number slot lines) ≡ length (packets_accepted slot lines)
packets_counted n slot [] are = refl
packets_counted n slot (now ∷ later) are =
    packet_told n slot now later (kind_of n slot now are.0) (packets_counted (n + 1) slot later are.1)

-- the first of numbers that go on
length_counted : (k n : ℕ) → length (counted k n) ≡ n
length_counted k zero = refl
length_counted k (suc n) = ap suc (length_counted (k + 1) n)

counted_parts : (k a b : ℕ) → counted k (a + b) ≡ counted k a ++ counted (k + a) b
counted_parts k zero b =
    let none : 0 + b ≡ b = omega arith in
    let same : k ≡ k + 0 = omega arith in
    ap (counted k) none ∙ ap (λ n. counted n b) same
counted_parts k (suc a) b =
    let same : k + 1 + a ≡ k + suc a = omega arith in
    let first : suc a + b ≡ suc (a + b) = omega arith in
    ap (counted k) first ∙ ap (λ rest. k ∷ rest) (counted_parts (k + 1) a b ∙ ap (λ n. counted (k + 1) a ++ counted n b) same)

prefix_counted : (xs ys : List ℕ) (k a b : ℕ) → length xs ≡ a → xs ++ ys ≡ counted k (a + b) → xs ≡ counted k a
prefix_counted xs ys k a b many is =
    sym (take_at xs ys a many) ∙ ap (take a) (is ∙ counted_parts k a b)
    ∙ take_at (counted k a) (counted (k + a) b) a (length_counted k a)

prefix_numbered : (n slot commands packets : ℕ) (prefix later : List LineTold) → AreAnswered n (prefix ++ later)
    → NumberOn slot commands packets (prefix ++ later) → NumberOn slot commands packets prefix
prefix_numbered n slot commands packets prefix later are on =
    let first = answered_prefix n prefix later are in
    record {
      of_commands =
          prefix_counted (told_of command_number slot prefix) (told_of command_number slot later) commands
          (length (commands_accepted slot prefix)) (length (commands_accepted slot later))
          (commands_counted n slot prefix first)
          (sym (filter_map-append (λ (told : LineTold). command_number slot told.entry) prefix later) ∙ on.of_commands
          ∙ ap (counted commands) (simp (filter_map-append, length-append)));
      of_packets =
          prefix_counted (told_of packet_number slot prefix) (told_of packet_number slot later) packets
          (length (packets_accepted slot prefix)) (length (packets_accepted slot later))
          (packets_counted n slot prefix first)
          (sym (filter_map-append (λ (told : LineTold). packet_number slot told.entry) prefix later) ∙ on.of_packets
          ∙ ap (counted packets) (simp (filter_map-append, length-append)));
    }

-- a line more, of lines in parts
with_line : (lines prefix : List LineTold) (now : LineTold) (later : List LineTold) → lines ≡ prefix ++ now ∷ later
    → lines ≡ (prefix ++ now ∷ []) ++ later
with_line lines prefix now later is = is ∙ sym (append_assoc prefix (now ∷ []) later)

pub numbers_broken : (n : ℕ) (before : Histories) (lines : List LineTold) (found : Break) → AreAnswered n lines
    → NumberBreak before lines found → AreNumbered before lines → ⊥
numbers_broken n before lines found are is all =
    let parts = with_line lines is.prefix is.now is.first.later is.first.parts in
    is.first.broken (λ slot. prefix_numbered n slot (length (commands_of (before slot))) (length (packets_of (before slot)))
    (is.prefix ++ is.now ∷ []) is.first.later (subst (AreAnswered n) parts are)
    (subst (NumberOn slot (length (commands_of (before slot))) (length (packets_of (before slot)))) parts (all slot)))

-- what holds of each line holds of one of them
each_at_line : (P : List LineTold → LineTold → List LineTold → Type 0) (before prefix : List LineTold) (now : LineTold)
    (later : List LineTold) → EachFrom P before (prefix ++ now ∷ later) → P (before ++ prefix) now later
each_at_line P before [] now later each = subst (λ b. P b now later) (sym (append-nil before)) each.0
each_at_line P before (one ∷ prefix) now later each =
    subst (λ b. P b now later) (append_assoc before (one ∷ []) prefix)
    (each_at_line P (before ++ one ∷ []) prefix now later each.1)

rises_at : (start : ℕ) (counts : List ℕ) (count : ℕ) (later : List ℕ) → Rises start (counts ++ count ∷ later)
    → last_count start counts ≤ count
rises_at start [] count later rises = rises.0
rises_at start (one ∷ counts) count later rises = rises_at one counts count later rises.1

lies_between : (slot start : ℕ) (prefix : List LineTold) (now : LineTold) (later : List LineTold) (told : Option ℕ)
    → commands_told slot now.entry ≡ told → CountsRise slot start (prefix ++ now ∷ later)
    → LiesBetween slot start prefix now later
lies_between slot start prefix now later None is rise =
    subst (λ o. IfSome o (λ count.
    (max (start + command_count slot (before_last_move slot prefix)) (last_before slot start prefix) ≤ count)
    × (count ≤ start + command_count slot (prefix ++ before_next_move slot later)))) (sym is) tt
lies_between slot start prefix now later (Some count) is rise =
    let within : Within slot start prefix later count =
    subst (λ o. IfSome o (Within slot start prefix later)) is
    (each_at_line (LiesWithin slot start) [] prefix now later rise.within) in
    let told : told_of commands_told slot (prefix ++ now ∷ later)
    ≡ told_of commands_told slot prefix ++ count ∷ told_of commands_told slot later =
    filter_map-append (λ (t : LineTold). commands_told slot t.entry) prefix (now ∷ later)
    ∙ ap (λ o. told_of commands_told slot prefix ++ cons_option o (told_of commands_told slot later)) is in
    let last : last_before slot start prefix ≤ count =
    rises_at start (told_of commands_told slot prefix) count (told_of commands_told slot later)
    (subst (Rises start) told rise.rises) in
    subst (λ o. IfSome o (λ count.
    (max (start + command_count slot (before_last_move slot prefix)) (last_before slot start prefix) ≤ count)
    × (count ≤ start + command_count slot (prefix ++ before_next_move slot later)))) (sym is)
    (omega (arith, within.0, last), within.1)

pub counts_broken : (before : Histories) (lines : List LineTold) (found : Break) → IsCountBreak before lines found
    → CountsAreLawful before lines → ⊥
counts_broken before lines found is all =
    is.first.broken (lies_between is.slot (count_before before is.slot) is.first.prefix is.first.now is.first.later
    (commands_told is.slot is.first.now.entry) refl
    (subst (CountsRise is.slot (count_before before is.slot)) is.first.parts (all is.slot)))

-- replies or verdicts that differ
said_broken : {X : Type 0} (tell : LineTold → Option X) (due : LineEntry → Option X → Option Entry) (slot : ℕ)
    (made : List X) (lines : List LineTold) (found : Break) → SaidBreak tell due slot made lines found
    → filter_map tell lines ≡ made → ⊥
said_broken tell due slot made lines found (inl first) same =
    let told : filter_map tell lines ≡ filter_map tell first.prefix ++ first.said ∷ filter_map tell first.later =
    ap (filter_map tell) first.parts ∙ filter_map-append tell first.prefix (first.now ∷ first.later)
    ∙ ap (λ o. filter_map tell first.prefix ++ cons_option o (filter_map tell first.later)) first.says in
    let left : first.left ≡ first.said ∷ filter_map tell first.later =
    append_cancel_left (filter_map tell first.prefix) first.left (first.said ∷ filter_map tell first.later)
    (first.holds ∙ sym same ∙ told) in
    first.broken (ap first_of left)
said_broken tell due slot made lines found (inr few) same =
    let whole : filter_map tell lines ++ few.next ∷ few.left ≡ filter_map tell lines = few.holds ∙ sym same in
    omega (arith, ap length whole, length-append (filter_map tell lines) (few.next ∷ few.left))

pub gateway_broken : (n : ℕ) (before : Histories) (lines : List LineTold) (found : Break) → AreAnswered n lines
    → IsGatewayBreak before lines found → AreOfTheGateway before lines → ⊥
gateway_broken n before lines found are is all =
    by is.slot is.first
  where
    by : (slot : ℕ) → AnswerBreak slot (made_of.replies slot (before slot) (events_in (before slot) lines slot))
        (made_of.verdicts slot (before slot) (events_in (before slot) lines slot)) (share slot lines) found → ⊥
    by slot (inl reply) =
        said_broken reply_in _ slot _ (share slot lines) found reply
        (sym (replies_shared n slot lines are) ∙ all.replies slot)
    by slot (inr (same, verdict)) =
        said_broken verdict_in _ slot _ (share slot lines) found verdict
        (sym (verdicts_shared n slot lines are) ∙ all.verdicts slot)

-- what doesn't speak of the lines behind holds of the first lines
each_prefix : (P : List LineTold → LineTold → List LineTold → Type 0)
    → ((before : List LineTold) (now : LineTold) (later other : List LineTold) → P before now later → P before now other)
    → (before prefix later : List LineTold) → EachFrom P before (prefix ++ later) → EachFrom P before prefix
each_prefix P free before [] later each = tt
each_prefix P free before (now ∷ prefix) later each =
    (free before now (prefix ++ later) prefix each.0, each_prefix P free (before ++ now ∷ []) prefix later each.1)

meets_free : (histories : Histories) (before : List LineTold) (entry : LineEntry) (later instead : List LineTold)
    → MeetsAs solo histories before entry later → MeetsAs solo histories before entry instead
meets_free histories before (line.N own) later instead meets = tt
meets_free histories before (line.C own) later instead meets = tt
meets_free histories before (line.P own) later instead meets = meets
meets_free histories before (line.F own) later instead meets = tt

sequence_prefix : (setup : Setup) (histories : Histories) (prefix later : List LineTold)
    → EachFrom (MeetsBounds setup histories) [] (prefix ++ later) → InSequence setup histories prefix
sequence_prefix solo histories prefix later each =
    each_prefix (MeetsBounds solo histories)
    (λ before now later other meets. meets_free histories before now.entry later other meets) [] prefix later each
sequence_prefix (sliced slices room lane) histories prefix later each = tt

pub waits_broken : (setup : Setup) (before : Histories) (lines : List LineTold) (found : Break)
    → WaitBreak setup before lines found → WaitsAreLawful setup before lines → ⊥
waits_broken setup before lines found is all =
    let parts = with_line lines is.prefix is.now is.first.later is.first.parts in
    let prefix = is.prefix ++ is.now ∷ [] in
    is.first.broken (record {
      refusals = each_prefix (RefusedWhereFull setup) (λ b n l o holds. holds) [] prefix is.first.later
          (subst (EachFrom (RefusedWhereFull setup) []) parts all.refusals);
      parking = each_prefix ParkedBehindMoves (λ b n l o holds. holds) [] prefix is.first.later
          (subst (EachFrom ParkedBehindMoves []) parts all.parking);
      sequence = sequence_prefix setup before prefix is.first.later
          (subst (EachFrom (MeetsBounds setup before) []) parts all.counts);
    })

-- lines with their entries, taken apart
pub retold : (lines : List LineTold)
    → lines_told (map (λ (told : LineTold). told.meaning) lines) (map (λ (told : LineTold). told.entry) lines) ≡ lines
retold [] = refl
retold (now ∷ later) = ap (λ (rest : List LineTold). now ∷ rest) (retold later)

pub answers_all : (n : ℕ) (lines : List LineTold) → AreAnswered n lines
    → AnswersAll n (map (λ (told : LineTold). told.meaning) lines) (map (λ (told : LineTold). told.entry) lines)
answers_all n [] are = tt
answers_all n (now ∷ later) are = (are.0, answers_all (n + 1) later are.1)

meets_bounds : (setup : Setup) (n : ℕ) (before : Histories) (lines : List LineTold) → AreAnswered n lines
    → CountsAreLawful before lines → InSequence setup before lines → EachFrom (MeetsBounds setup before) [] lines
meets_bounds solo n before lines are counts sequence = sequence
meets_bounds (sliced slices room lane) n before lines are counts sequence =
    let meant = map (λ (told : LineTold). told.meaning) lines in
    let entries = map (λ (told : LineTold). told.entry) lines in
    subst (EachFrom (MeetsBounds (sliced slices room lane) before) []) (retold lines)
    ((counts_of_slots slices room lane before n meant entries (answers_all n lines are)).1
    (λ slot. subst (CountsRise slot (count_before before slot)) (sym (retold lines)) (counts slot))).bounds

-- where counts are lawful, what may stand waits lawfully
pub waits_from : (setup : Setup) (n : ℕ) (before : Histories) (lines : List LineTold) → AreAnswered n lines
    → CountsAreLawful before lines → MayStand setup before lines → WaitsAreLawful setup before lines
waits_from setup n before lines are counts may = record {
  refusals = may.refusals;
  parking = may.parking;
  counts = meets_bounds setup n before lines are counts may.sequence;
}
