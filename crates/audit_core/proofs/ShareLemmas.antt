-- What lines about a slot tell and bring is what all lines tell and bring of it.
use Rattle.std.proofs.Common.{◌≡◌, ℕ, ◌+◌, ◌<◌, ◌≤◌, ◌==◌, Bool, true, false, Option, Some, None, IfSome, List, [], ◌∷◌, length, cond, if◌then◌else◌, refl, sym, ap, ◌∙◌, subst, arith, get_or}
use Rattle.std.specs.Borrow.{Bor}
use Rattle.std.specs.List.{All, cons_option, filter_map}
use Rattle.std.specs.Option.{option_map}
use Rattle.std.proofs.lemmas.Bool.{eq-eqb, eqb-true, false≢true, ne_eqb}
use Rattle.std.proofs.lemmas.List.{get_or-map, length-map}
use Rattle.std.proofs.lemmas.List.Elements.{All-cons, All-get_or, All-head, All-nil, All-tail, All-weaker}
use Rattle.control_steps.specs.declared.command.CommandKind.{CommandKind}
use Rattle.demux.specs.Trace.{Meaning, command, packet, move, note}
use Rattle.demux.specs.declared.packet.LentPacket.{LentPacket}
use Rattle.gate_model.specs.Events.{commands_of, packets_of}
use Rattle.gate_model.specs.declared.event.Event.{Event}
use Rattle.lawful_run.specs.Accepted.{Placed, accepted_command, accepted_packet, commands_accepted, commands_before, is_refused, packets_accepted}
use Rattle.lawful_run.specs.Answers.{Answers}
use Rattle.lawful_run.specs.LinesTold.{LineTold}
use Rattle.lawful_run.specs.Merging.{commands_lent, events_in, events_of, merged}
use Rattle.lawful_run.specs.Moves.{moves_by}
use Rattle.lawful_run.specs.Telling.{commands_told, reply_told, verdict_told}
use Rattle.report_lines.specs.Records.{Answered, PacketTold}
use Rattle.report_lines.specs.declared.entry.LineEntry.{LineEntry}
use Rattle.report_lines.specs.declared.entry.LineEntry.TheVariants as line
use Rattle.slot_execution.specs.Replaying.{placed_lent, placed_so}
use Rattle.slot_execution.specs.declared.placed.Placed.{Placed as HeldPlaced}
use Rattle.audit_core.specs.Answers.{reply_in, reply_of, verdict_in, verdict_of}
use Rattle.audit_core.specs.Holding.{AreKnownTold, IsKnown}
use Rattle.audit_core.specs.Meant.{command_taken, is_about, is_about_by, is_move, line_told, lines_of, share}
use Rattle.audit_core.specs.OfSlot.{AreAnswered, told_of}
use Rattle.audit_core.specs.Passing.{AreOf, IsOf}
use Rattle.audit_core.specs.Played.{placed_in}
use Rattle.audit_core.specs.Telling.{slot_in}
use Rattle.audit_core.specs.declared.told_line.ToldLine.{ToldLine}
use Rattle.audit_core.proofs.LineKinds.{KindOf, other, moved, answered, judged, refused, kind_of}

-- what is told of a slot is what a line about it tells
first_shared : {Y : Type 0} (g : LineTold → Option Y) (test : Bool) (now : LineTold) (rest : List LineTold)
    → cons_option (cond test (g now) None) (filter_map g rest) ≡ filter_map g (cond test (now ∷ rest) rest)
first_shared g true now rest = refl
first_shared g false now rest = refl

shared : {Y : Type 0} (f g : LineTold → Option Y) (slot : ℕ) (all : List LineTold)
    → ((told : LineTold) → f told ≡ cond (is_about slot told) (g told) None)
    → filter_map f all ≡ filter_map g (share slot all)
shared f g slot [] each = refl
shared f g slot (now ∷ later) each =
    (λ i. cons_option (each now i) (shared f g slot later each i))
    ∙ first_shared g (is_about slot now) now (share slot later)

shared_answers : {Y : Type 0} (f g : LineTold → Option Y) (n slot : ℕ) (all : List LineTold)
    → ((told : LineTold) → KindOf slot told → f told ≡ cond (is_about slot told) (g told) None) → AreAnswered n all
    → filter_map f all ≡ filter_map g (share slot all)
shared_answers f g n slot [] each are = refl
shared_answers f g n slot (now ∷ later) each are =
    (λ i. cons_option (each now (kind_of n slot now are.0) i) (shared_answers f g (n + 1) slot later each are.1 i))
    ∙ first_shared g (is_about slot now) now (share slot later)

reply_kind : (slot : ℕ) (told : LineTold) → KindOf slot told
    → reply_told slot told.entry ≡ cond (is_about slot told) (reply_of told.entry) None
reply_kind slot told (other tells) = tells.reply_is ∙ ap (λ t. cond t (reply_of told.entry) None) (sym tells.about_is)
reply_kind slot told (moved noted is moves tells) =
    tells.reply_is ∙ ap reply_of (sym is) ∙ ap (λ t. cond t (reply_of told.entry) None) (sym tells.about_is)
reply_kind slot told (answered a c is moves tells) =
    tells.reply_is ∙ ap reply_of (sym is) ∙ ap (λ t. cond t (reply_of told.entry) None) (sym tells.about_is)
reply_kind slot told (judged j p is moves tells) =
    tells.reply_is ∙ ap reply_of (sym is) ∙ ap (λ t. cond t (reply_of told.entry) None) (sym tells.about_is)
reply_kind slot told (refused r is moves tells) =
    tells.reply_is ∙ ap reply_of (sym is) ∙ ap (λ t. cond t (reply_of told.entry) None) (sym tells.about_is)

verdict_kind : (slot : ℕ) (told : LineTold) → KindOf slot told
    → verdict_told slot told.entry ≡ cond (is_about slot told) (verdict_of told.entry) None
verdict_kind slot told (other tells) =
    tells.verdict_is ∙ ap (λ t. cond t (verdict_of told.entry) None) (sym tells.about_is)
verdict_kind slot told (moved noted is moves tells) =
    tells.verdict_is ∙ ap verdict_of (sym is) ∙ ap (λ t. cond t (verdict_of told.entry) None) (sym tells.about_is)
verdict_kind slot told (answered a c is moves tells) =
    tells.verdict_is ∙ ap verdict_of (sym is) ∙ ap (λ t. cond t (verdict_of told.entry) None) (sym tells.about_is)
verdict_kind slot told (judged j p is moves tells) =
    tells.verdict_is ∙ ap verdict_of (sym is) ∙ ap (λ t. cond t (verdict_of told.entry) None) (sym tells.about_is)
verdict_kind slot told (refused r is moves tells) =
    tells.verdict_is ∙ ap verdict_of (sym is) ∙ ap (λ t. cond t (verdict_of told.entry) None) (sym tells.about_is)

pub replies_shared : (n slot : ℕ) (all : List LineTold) → AreAnswered n all
    → told_of reply_told slot all ≡ filter_map reply_in (share slot all)
replies_shared n slot all are =
    shared_answers (λ (told : LineTold). reply_told slot told.entry) reply_in n slot all (reply_kind slot) are

pub verdicts_shared : (n slot : ℕ) (all : List LineTold) → AreAnswered n all
    → told_of verdict_told slot all ≡ filter_map verdict_in (share slot all)
verdicts_shared n slot all are =
    shared_answers (λ (told : LineTold). verdict_told slot told.entry) verdict_in n slot all (verdict_kind slot) are

-- counts of commands
abbrev SameTold : ℕ → LineTold → Type 0
SameTold slot told = commands_told slot told.entry ≡ cond (is_about slot told) (commands_told slot told.entry) None

own_count : (slot : ℕ) (told : LineTold) → is_about slot told ≡ true → SameTold slot told
own_count slot told about = sym (ap (λ t. cond t (commands_told slot told.entry) None) about)

count_kind : (slot : ℕ) (told : LineTold) → KindOf slot told → SameTold slot told
count_kind slot told (other tells) =
    tells.commands_is ∙ ap (λ t. cond t (commands_told slot told.entry) None) (sym tells.about_is)
count_kind slot told (moved noted is moves tells) = own_count slot told tells.about_is
count_kind slot told (answered a c is moves tells) = own_count slot told tells.about_is
count_kind slot told (judged j p is moves tells) = own_count slot told tells.about_is
count_kind slot told (refused r is moves tells) = own_count slot told tells.about_is

pub counts_shared : (n slot : ℕ) (all : List LineTold) → AreAnswered n all
    → told_of commands_told slot all ≡ told_of commands_told slot (share slot all)
counts_shared n slot all are =
    shared_answers (λ (told : LineTold). commands_told slot told.entry) (λ (told : LineTold). commands_told slot told.entry)
    n slot all (count_kind slot) are

-- a line about a slot with its answer
pub record IsAnswered (slot : ℕ) (now : LineTold) : Type 0 where
  pub number : ℕ
  pub answers : Answers number now.meaning now.entry
  pub about : is_about slot now ≡ true

named : (n slot : ℕ) (meaning : Meaning) (entry : LineEntry) → Answers n meaning entry
    → is_about_by slot meaning ≡ true → IfSome (slot_in entry) (λ own. own ≡ slot)
named n slot (note text) entry answer about = absurd (false≢true about)
named n slot (move own slice text) (line.N noted) answer about = tt
named n slot (move own slice text) (line.C told) answer about = absurd answer
named n slot (move own slice text) (line.P told) answer about = absurd answer
named n slot (move own slice text) (line.F told) answer about = absurd answer
named n slot (command own c) (line.N noted) answer about = absurd answer
named n slot (command own c) (line.C told) answer about = answer.1 ∙ eqb-true own slot about
named n slot (command own c) (line.P told) answer about = absurd answer
named n slot (command own c) (line.F told) answer about = ap (λ r. r.slot) answer ∙ eqb-true own slot about
named n slot (packet own p) (line.N noted) answer about = absurd answer
named n slot (packet own p) (line.C told) answer about = absurd answer
named n slot (packet own p) (line.P told) answer about = answer.1 ∙ eqb-true own slot about
named n slot (packet own p) (line.F told) answer about = ap (λ r. r.slot) answer ∙ eqb-true own slot about

pub of_answered : (slot : ℕ) (now : LineTold) → IsAnswered slot now → IsOf slot now
of_answered slot now it = record {
  about = it.about;
  named = named it.number slot now.meaning now.entry it.answers it.about;
}

pub all_answered : (n slot : ℕ) (all : List LineTold) → AreAnswered n all → All (IsAnswered slot) (share slot all)
all_answered n slot [] are = All-nil (IsAnswered slot)
all_answered n slot (now ∷ later) are = by_test (is_about slot now) refl (all_answered (n + 1) slot later are.1)
  where
    by_test : (test : Bool) → is_about slot now ≡ test → All (IsAnswered slot) (share slot later)
        → All (IsAnswered slot) (cond test (now ∷ share slot later) (share slot later))
    by_test true about rest =
        All-cons (IsAnswered slot) now (share slot later) (record { number = n; answers = are.0; about = about }) rest
    by_test false about rest = rest

pub are_of : (slot : ℕ) (lines : List LineTold) → All (IsAnswered slot) lines → AreOf slot lines
are_of slot lines each = All-weaker (IsAnswered slot) (IsOf slot) (of_answered slot) lines each

-- accepted commands and packets
turned : {Y : Type 0} (refused own : Bool) (y : Option Y)
    → (if refused then None else (if own then y else None)) ≡ cond own (if refused then None else y) None
turned true true y = refl
turned true false y = refl
turned false true y = refl
turned false false y = refl

no_one : {Y : Type 0} (refused own : Bool) → let none : Option Y = None in
    (if refused then none else none) ≡ cond own (if refused then none else none) none
no_one true true = refl
no_one true false = refl
no_one false true = refl
no_one false false = refl

no_item : {Y : Type 0} (refused : Bool) → let none : Option Y = None in (if refused then none else none) ≡ none
no_item true = refl
no_item false = refl

pub command_about : (slot : ℕ) (meaning : Meaning) (entry : LineEntry)
    → let told : LineTold = record { meaning = meaning; entry = entry } in
    accepted_command slot told ≡ cond (is_about slot told) (command_taken told) None
command_about slot (command own c) entry = turned (is_refused entry) (own == slot) (Some c)
command_about slot (packet own p) entry = no_one (is_refused entry) (own == slot)
command_about slot (move own slice text) entry = no_one (is_refused entry) (own == slot)
command_about slot (note text) entry = no_item (is_refused entry)

abbrev place : ℕ → Option LentPacket → Option Placed
place count = option_map (λ (q : LentPacket). record { commands = count; packet = q })

place_turned : (refused own : Bool) (count : ℕ) (p : LentPacket)
    → (if refused then None else place count (if own then Some p else None))
    ≡ cond own (place count (if refused then None else Some p)) None
place_turned true true count p = refl
place_turned true false count p = refl
place_turned false true count p = refl
place_turned false false count p = refl

no_place : (refused own : Bool) (count : ℕ)
    → (if refused then None else place count None) ≡ cond own (place count (if refused then None else None)) None
no_place true true count = refl
no_place true false count = refl
no_place false true count = refl
no_place false false count = refl

packet_about : (slot : ℕ) (meaning : Meaning) (entry : LineEntry)
    → let told : LineTold = record { meaning = meaning; entry = entry } in
    accepted_packet slot told ≡ cond (is_about slot told) (placed_in told) None
packet_about slot (command own c) entry = no_place (is_refused entry) (own == slot) (commands_before entry)
packet_about slot (packet own p) entry = place_turned (is_refused entry) (own == slot) (commands_before entry) p
packet_about slot (move own slice text) entry = no_place (is_refused entry) (own == slot) (commands_before entry)
packet_about slot (note text) entry = no_place (is_refused entry) false (commands_before entry)

pub commands_shared : (slot : ℕ) (all : List LineTold)
    → commands_accepted slot all ≡ filter_map command_taken (share slot all)
commands_shared slot all =
    shared (accepted_command slot) command_taken slot all (λ told. command_about slot told.meaning told.entry)

pub packets_shared : (slot : ℕ) (all : List LineTold)
    → packets_accepted slot all ≡ filter_map placed_in (share slot all)
packets_shared slot all =
    shared (accepted_packet slot) placed_in slot all (λ told. packet_about slot told.meaning told.entry)

-- the events of a slot are those of the lines about it
pub events_shared : (slot : ℕ) (before : List Event) (all : List LineTold)
    → events_of before (filter_map command_taken (share slot all)) (filter_map placed_in (share slot all))
    ≡ events_in before all slot
events_shared slot before all =
    (λ i. merged (length (commands_of before)) (length (packets_of before)) (sym (commands_shared slot all) i)
    (sym (packets_shared slot all) i))

-- each line brings at most one
one_brought : (refused : Bool) (c : Option CommandKind) (q : Option LentPacket) (count : ℕ)
    → length (cons_option c []) + length (cons_option q []) ≤ 1
    → length (cons_option (if refused then None else c) [])
    + length (cons_option (place count (if refused then None else q)) []) ≤ 1
one_brought true c q count few = omega arith
one_brought false None None count few = omega arith
one_brought false None (Some q) count few = omega arith
one_brought false (Some c) None count few = omega arith
one_brought false (Some c) (Some q) count few = absurd (omega (arith, few))

brings : (meaning : Meaning) (entry : LineEntry) → let told : LineTold = record { meaning = meaning; entry = entry } in
    length (cons_option (command_taken told) []) + length (cons_option (placed_in told) []) ≤ 1
brings (command own c) entry = one_brought (is_refused entry) (Some c) None (commands_before entry) (omega arith)
brings (packet own p) entry = one_brought (is_refused entry) None (Some p) (commands_before entry) (omega arith)
brings (move own slice text) entry = one_brought (is_refused entry) None None (commands_before entry) (omega arith)
brings (note text) entry = one_brought (is_refused entry) None None (commands_before entry) (omega arith)

first_length : {Y : Type 0} (o : Option Y) (ys : List Y)
    → length (cons_option o ys) ≡ length (cons_option o []) + length ys
first_length None ys = omega arith
first_length (Some y) ys = omega arith

pub few_brought : (lines : List LineTold)
    → length (filter_map command_taken lines) + length (filter_map placed_in lines) ≤ length lines
few_brought [] = omega arith
few_brought (now ∷ later) =
    omega (
      arith,
      first_length (command_taken now) (filter_map command_taken later),
      first_length (placed_in now) (filter_map placed_in later),
      brings now.meaning now.entry,
      few_brought later,
    )

pub share_length : (slot : ℕ) (all : List LineTold) → length (share slot all) ≤ length all
share_length slot [] = omega arith
share_length slot (now ∷ later) = by_test (is_about slot now) (share_length slot later) where
  by_test : (test : Bool) → length (share slot later) ≤ length later
      → length (cond test (now ∷ share slot later) (share slot later)) ≤ length (now ∷ later)
  by_test true few = omega (arith, few)
  by_test false few = omega (arith, few)

-- as many commands and packets
pub brought_length : (lines : List ToldLine) (commands : List (Bor CommandKind)) (packets : List HeldPlaced)
    → commands_lent commands ≡ filter_map command_taken (lines_of lines)
    → placed_lent packets ≡ filter_map placed_in (lines_of lines) → length commands + length packets ≤ length lines
brought_length lines commands packets of_commands of_packets =
    omega (
      arith,
      length-map commands (λ (c : Bor CommandKind). c.now),
      ap length of_commands,
      length-map packets placed_so,
      ap length of_packets,
      few_brought (lines_of lines),
      length-map lines line_told,
    )

-- the events that are played are those of the slot
pub events_played : (slot : ℕ) (before : List Event) (all : List LineTold) (lines : List LineTold)
    (commands : List (Bor CommandKind)) (packets : List HeldPlaced) → lines ≡ share slot all
    → commands_lent commands ≡ filter_map command_taken lines → placed_lent packets ≡ filter_map placed_in lines
    → events_of before (commands_lent commands) (placed_lent packets) ≡ events_in before all slot
events_played slot before all lines commands packets same of_commands of_packets =
    (λ i. events_of before (of_commands i) (of_packets i))
    ∙ ap (λ its. events_of before (filter_map command_taken its) (filter_map placed_in its)) same
    ∙ events_shared slot before all

-- no line is about a slot that isn't known
not_about : (slots slot : ℕ) (meaning : Meaning) (entry : LineEntry) → IsKnown slots meaning → slots ≤ slot
    → is_about slot (record { meaning = meaning; entry = entry }) ≡ false
not_about slots slot (command own c) entry known past = ne_eqb own slot (λ is. omega (arith, known, past, is))
not_about slots slot (packet own p) entry known past = ne_eqb own slot (λ is. omega (arith, known, past, is))
not_about slots slot (move own slice text) entry known past = ne_eqb own slot (λ is. omega (arith, known, past, is))
not_about slots slot (note text) entry known past = refl

pub none_shared : (slots slot : ℕ) (all : List LineTold) → AreKnownTold slots all → slots ≤ slot
    → share slot all ≡ []
none_shared slots slot [] known past = refl
none_shared slots slot (now ∷ later) known past =
    ap (λ t. cond t (now ∷ share slot later) (share slot later))
    (not_about slots slot now.meaning now.entry
    (All-head (λ (told : LineTold). IsKnown slots told.meaning) now later known) past)
    ∙ none_shared slots slot later (All-tail (λ (told : LineTold). IsKnown slots told.meaning) now later known) past

-- what one line brings a slot
pub moves_about : (slot : ℕ) (meaning : Meaning) → is_about_by slot meaning ≡ false → moves_by slot meaning ≡ false
moves_about slot (command own c) away = refl
moves_about slot (packet own p) away = refl
moves_about slot (move own slice text) away = away
moves_about slot (note text) away = refl

pub command_here : (slot : ℕ) (told : LineTold) (taken : Option CommandKind) → is_about slot told ≡ true
    → command_taken told ≡ taken → length (cons_option taken []) ≡ length (commands_accepted slot (told ∷ []))
command_here slot told taken own is =
    sym (ap length (commands_shared slot (told ∷ [])
    ∙ ap (λ t. filter_map command_taken (cond t (told ∷ []) [])) own)
    ∙ ap (λ x. length (cons_option x [])) is)

pub own_moves : (slot : ℕ) (meaning : Meaning) → is_about_by slot meaning ≡ true → moves_by slot meaning ≡ is_move meaning
own_moves slot (command own c) about = refl
own_moves slot (packet own p) about = refl
own_moves slot (move own slice text) about = about
own_moves slot (note text) about = refl

-- the line at a place
pub all_at : (P : LineTold → Type 0) (lines : List ToldLine) (i : ℕ) (told : ToldLine) → i < length lines
    → told ≡ get_or lines i told → All P (lines_of lines) → P (line_told told)
all_at P lines i told within is all =
    let many : i < length (lines_of lines) = omega (arith, within, length-map lines line_told) in
    subst P (get_or-map line_told lines i told (line_told told) within ∙ ap line_told (sym is))
    (All-get_or P (lines_of lines) i (line_told told) many all)

-- the count that a packet of the slot tells
pub own_told : (slot : ℕ) (now : LineTold) (j : PacketTold) → now.entry ≡ line.P j → IsOf slot now
    → commands_told slot (line.P j) ≡ Some j.commands
own_told slot now j is of =
    let own : j.slot ≡ slot = subst (λ e. IfSome (slot_in e) (λ own. own ≡ slot)) is of.named in
    ap (λ t. cond t (Some j.commands) None) (eq-eqb j.slot slot own)

-- other entries tell nothing of it
pub no_count : (slot : ℕ) (entry : LineEntry) → ((j : PacketTold) → entry ≡ line.P j → ⊥)
    → commands_told slot entry ≡ None
no_count slot (line.N noted) not_packet = refl
no_count slot (line.C answer) not_packet = refl
no_count slot (line.P judgement) not_packet = absurd (not_packet judgement refl)
no_count slot (line.F refusal) not_packet = refl

pub no_reply : (entry : LineEntry) → ((a : Answered) → entry ≡ line.C a → ⊥) → reply_of entry ≡ None
no_reply (line.N noted) not_command = refl
no_reply (line.C answer) not_command = absurd (not_command answer refl)
no_reply (line.P judgement) not_command = refl
no_reply (line.F refusal) not_command = refl

pub no_verdict : (entry : LineEntry) → ((j : PacketTold) → entry ≡ line.P j → ⊥) → verdict_of entry ≡ None
no_verdict (line.N noted) not_packet = refl
no_verdict (line.C answer) not_packet = refl
no_verdict (line.P judgement) not_packet = absurd (not_packet judgement refl)
no_verdict (line.F refusal) not_packet = refl
