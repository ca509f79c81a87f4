-- The entries of lines, by what those of each slot tell: places are left open.
use Rattle.std.proofs.Common.{◌≡◌, ℕ, ◌+◌, ◌==◌, Bool, true, false, Some, None, List, [], ◌∷◌, map, cond, refl, sym, ap, ◌∙◌}
use Rattle.std.specs.List.{filter_map, cons_option}
use Rattle.demux.specs.Trace.{Meaning, command, packet, move, note}
use Rattle.report_lines.specs.Records.{Noted, Answered, PacketTold}
use Rattle.report_lines.specs.Text.{line_without_place}
use Rattle.report_lines.specs.declared.entry.LineEntry.{LineEntry}
use Rattle.report_lines.specs.declared.entry.LineEntry.TheVariants as line
use Rattle.lawful_run.specs.Answers.{Answers, AnswersAll}
use Rattle.lawful_run.specs.Telling.{command_number, packet_number, reply_told, verdict_told, commands_told}
use Rattle.lawful_run.proofs.SlotCases.{eqb_same}

-- the entries of a slot tell the same in both lists
pub record TellTheSame (slot : ℕ) (entries others : List LineEntry) : Type 0 where
  pub command_numbers : filter_map (command_number slot) entries ≡ filter_map (command_number slot) others
  pub replies : filter_map (reply_told slot) entries ≡ filter_map (reply_told slot) others
  pub packet_numbers : filter_map (packet_number slot) entries ≡ filter_map (packet_number slot) others
  pub counts : filter_map (commands_told slot) entries ≡ filter_map (commands_told slot) others
  pub verdicts : filter_map (verdict_told slot) entries ≡ filter_map (verdict_told slot) others

abbrev pub EachTellsTheSame : List LineEntry → List LineEntry → Type 0
EachTellsTheSame entries others = (slot : ℕ) → TellTheSame slot entries others

-- no line is refused
abbrev pub NotRefused : LineEntry → Type 0
NotRefused (line.N noted) = Unit {0}
NotRefused (line.C answered) = Unit {0}
NotRefused (line.P judged) = Unit {0}
NotRefused (line.F refused) = ⊥

abbrev pub NoneRefused : List LineEntry → Type 0
NoneRefused [] = Unit {0}
NoneRefused (entry ∷ entries) = NotRefused entry × NoneRefused entries

-- what stands behind a first item that both lists have, or neither
rest_is_one : {X : Type 0} (test other : Bool) (x y : X) (xs ys : List X) → test ≡ other
    → cons_option (cond test (Some x) None) xs ≡ cons_option (cond other (Some y) None) ys → xs ≡ ys
rest_is_one true true x y xs ys tests same = cc
rest_is_one true false x y xs ys tests same = cc
rest_is_one false true x y xs ys tests same = cc
rest_is_one false false x y xs ys tests same = same

-- the first item, where both have it
item_is_one : {X : Type 0} (test other : Bool) (x y : X) (xs ys : List X) → test ≡ true → other ≡ true
    → cons_option (cond test (Some x) None) xs ≡ cons_option (cond other (Some y) None) ys → x ≡ y
item_is_one true true x y xs ys is other_is same = cc
item_is_one true false x y xs ys is other_is same = cc
item_is_one false other x y xs ys is other_is same = cc

-- the first entries are one but for their places, and the entries behind them tell the same
record FirstIsOne (entry other : LineEntry) (entries others : List LineEntry) : Type 0 where
  first : line_without_place entry ≡ line_without_place other
  more : EachTellsTheSame entries others

one_note : (noted other : Noted) (entries others : List LineEntry) → noted ≡ other
    → EachTellsTheSame (line.N noted ∷ entries) (line.N other ∷ others)
    → FirstIsOne (line.N noted) (line.N other) entries others
one_note noted other entries others is same = record {
  first = ap line.N is;
  more = λ slot. record {
    command_numbers = (same slot).command_numbers;
    replies = (same slot).replies;
    packet_numbers = (same slot).packet_numbers;
    counts = (same slot).counts;
    verdicts = (same slot).verdicts;
  };
}

one_answer : (answered other : Answered) (entries others : List LineEntry) → answered.line ≡ other.line
    → answered.slot ≡ other.slot
    → EachTellsTheSame (line.C answered ∷ entries) (line.C other ∷ others)
    → FirstIsOne (line.C answered) (line.C other) entries others
one_answer answered other entries others lines slots same =
    let own : (answered.slot == answered.slot) ≡ true = eqb_same answered.slot in
    let other_own : (other.slot == answered.slot) ≡ true = ap (λ s. other.slot == s) slots ∙ eqb_same other.slot in
    let numbers = item_is_one (answered.slot == answered.slot)
    (other.slot == answered.slot) answered.number other.number _ _ own other_own
    (same answered.slot).command_numbers in
    let replies = item_is_one (answered.slot == answered.slot)
    (other.slot == answered.slot) answered.reply other.reply _ _ own other_own (same answered.slot).replies in
    record {
      first = λ i. line.C (record { line = lines i; slot = slots i; number = numbers i; reply = replies i });
      more = λ slot. record {
        command_numbers = rest_is_one (answered.slot == slot) (other.slot == slot) answered.number other.number _ _
            (ap (λ s. s == slot) slots) (same slot).command_numbers;
        replies = rest_is_one (answered.slot == slot) (other.slot == slot) answered.reply other.reply _ _
            (ap (λ s. s == slot) slots) (same slot).replies;
        packet_numbers = (same slot).packet_numbers;
        counts = (same slot).counts;
        verdicts = (same slot).verdicts;
      };
    }

one_judgement : (judged other : PacketTold) (entries others : List LineEntry) → judged.line ≡ other.line
    → judged.slot ≡ other.slot
    → EachTellsTheSame (line.P judged ∷ entries) (line.P other ∷ others)
    → FirstIsOne (line.P judged) (line.P other) entries others
one_judgement judged other entries others lines slots same =
    let own : (judged.slot == judged.slot) ≡ true = eqb_same judged.slot in
    let other_own : (other.slot == judged.slot) ≡ true = ap (λ s. other.slot == s) slots ∙ eqb_same other.slot in
    let numbers = item_is_one (judged.slot == judged.slot)
    (other.slot == judged.slot) judged.number other.number _ _ own other_own (same judged.slot).packet_numbers in
    let counts = item_is_one (judged.slot == judged.slot)
    (other.slot == judged.slot) judged.commands other.commands _ _ own other_own (same judged.slot).counts in
    let verdicts = item_is_one (judged.slot == judged.slot)
    (other.slot == judged.slot) judged.verdict other.verdict _ _ own other_own (same judged.slot).verdicts in
    record {
      first = λ i. line.P (record {
        line = lines i;
        slot = slots i;
        number = numbers i;
        commands = counts i;
        verdict = verdicts i;
        place = None;
        parked = false;
      });
      more = λ slot. record {
        command_numbers = (same slot).command_numbers;
        replies = (same slot).replies;
        packet_numbers = rest_is_one (judged.slot == slot) (other.slot == slot) judged.number other.number _ _
            (ap (λ s. s == slot) slots) (same slot).packet_numbers;
        counts = rest_is_one (judged.slot == slot) (other.slot == slot) judged.commands other.commands _ _
            (ap (λ s. s == slot) slots) (same slot).counts;
        verdicts = rest_is_one (judged.slot == slot) (other.slot == slot) judged.verdict other.verdict _ _
            (ap (λ s. s == slot) slots) (same slot).verdicts;
      };
    }

-- two entries for one line are one but for their places, where each slot tells the same from there on
first_is_one : (n : ℕ) (now : Meaning) (entry other : LineEntry) (entries others : List LineEntry)
    → Answers n now entry → Answers n now other
    → NotRefused entry → NotRefused other
    → EachTellsTheSame (entry ∷ entries) (other ∷ others) → FirstIsOne entry other entries others
first_is_one n (note text) (line.N noted) (line.N told) entries others a b taken also same =
    one_note noted told entries others (a ∙ sym b) same
first_is_one n (note text) (line.N noted) (line.C told) entries others a b taken also same = absurd b
first_is_one n (note text) (line.N noted) (line.P told) entries others a b taken also same = absurd b
first_is_one n (note text) (line.N noted) (line.F told) entries others a b taken also same = absurd b
first_is_one n (note text) (line.C answered) other entries others a b taken also same = absurd a
first_is_one n (note text) (line.P judged) other entries others a b taken also same = absurd a
first_is_one n (note text) (line.F refused) other entries others a b taken also same = absurd a
first_is_one n (move slot slice text) (line.N noted) (line.N told) entries others a b taken also same =
    one_note noted told entries others (a ∙ sym b) same
first_is_one n (move slot slice text) (line.N noted) (line.C told) entries others a b taken also same = absurd b
first_is_one n (move slot slice text) (line.N noted) (line.P told) entries others a b taken also same = absurd b
first_is_one n (move slot slice text) (line.N noted) (line.F told) entries others a b taken also same = absurd b
first_is_one n (move slot slice text) (line.C answered) other entries others a b taken also same = absurd a
first_is_one n (move slot slice text) (line.P judged) other entries others a b taken also same = absurd a
first_is_one n (move slot slice text) (line.F refused) other entries others a b taken also same = absurd a
first_is_one n (command slot c) (line.N noted) other entries others a b taken also same = absurd a
first_is_one n (command slot c) (line.C answered) (line.N told) entries others a b taken also same = absurd b
first_is_one n (command slot c) (line.C answered) (line.C told) entries others a b taken also same =
    one_answer answered told entries others (a.0 ∙ sym b.0) (a.1 ∙ sym b.1) same
first_is_one n (command slot c) (line.C answered) (line.P told) entries others a b taken also same = absurd b
first_is_one n (command slot c) (line.C answered) (line.F told) entries others a b taken also same = absurd also
first_is_one n (command slot c) (line.P judged) other entries others a b taken also same = absurd a
first_is_one n (command slot c) (line.F refused) other entries others a b taken also same = absurd taken
first_is_one n (packet slot p) (line.N noted) other entries others a b taken also same = absurd a
first_is_one n (packet slot p) (line.C answered) other entries others a b taken also same = absurd a
first_is_one n (packet slot p) (line.P judged) (line.N told) entries others a b taken also same = absurd b
first_is_one n (packet slot p) (line.P judged) (line.C told) entries others a b taken also same = absurd b
first_is_one n (packet slot p) (line.P judged) (line.P told) entries others a b taken also same =
    one_judgement judged told entries others (a.0 ∙ sym b.0) (a.1 ∙ sym b.1) same
first_is_one n (packet slot p) (line.P judged) (line.F told) entries others a b taken also same = absurd also
first_is_one n (packet slot p) (line.F refused) other entries others a b taken also same = absurd taken

-- two lists of entries for the same lines are one but for their places, where those of each slot tell the same
pub one_list : (n : ℕ) (made : List Meaning) (entries others : List LineEntry) → AnswersAll n made entries
    → AnswersAll n made others
    → NoneRefused entries → NoneRefused others
    → EachTellsTheSame entries others → map line_without_place entries ≡ map line_without_place others
one_list n [] [] [] answers other_answers taken also same = refl
one_list n [] [] (other ∷ others) answers other_answers taken also same = absurd other_answers
one_list n [] (entry ∷ entries) others answers other_answers taken also same = absurd answers
one_list n (now ∷ made) [] others answers other_answers taken also same = absurd answers
one_list n (now ∷ made) (entry ∷ entries) [] answers other_answers taken also same = absurd other_answers
one_list n (now ∷ made) (entry ∷ entries) (other ∷ others) answers other_answers taken also same =
    let head = first_is_one n now entry other entries others answers.0 other_answers.0 taken.0 also.0 same in
    let tail = one_list (n + 1) made entries others answers.1 other_answers.1 taken.1 also.1 head.more in
    λ i. head.first i ∷ tail i
