-- Entries that answer lines one by one stand in the order of the lines' numbers already.
use Rattle.std.proofs.Common.{◌≡◌, ℕ, zero, suc, ◌+◌, ◌==◌, ◌<◌, ◌≤◌, false, List, [], ◌∷◌, ◌++◌, length, map, take, drop, cond, refl, ap, ◌∙◌, subst, arith}
use Rattle.std.specs.List.{flat_map, filter}
use Rattle.std.proofs.lemmas.Bool.{eq-eqb, ne_eqb}
use Rattle.demux.specs.Trace.{Meaning, command, packet, move, note}
use Rattle.report_lines.specs.Records.{Noted}
use Rattle.report_lines.specs.declared.entry.LineEntry.{LineEntry}
use Rattle.report_lines.specs.declared.entry.LineEntry.TheVariants as line
use Rattle.report_lines.specs.declared.entry.Refusal.{Refusal}
use Rattle.lawful_run.specs.Answers.{Answers, AnswersAll}
use Rattle.lawful_run.specs.LinesTold.{LineTold, lines_told}
use Rattle.lawful_run.specs.Telling.{counted}
use Rattle.audit_core.specs.Entries.{line_of, in_line_order}

-- an entry answers the line of its number
pub line_is : (n : ℕ) (meaning : Meaning) (entry : LineEntry) → Answers n meaning entry → line_of entry ≡ n
line_is n (note text) (line.N noted) answers = ap (λ (x : Noted). x.line) answers
line_is n (note text) (line.C answered) answers = absurd answers
line_is n (note text) (line.P judged) answers = absurd answers
line_is n (note text) (line.F refused) answers = absurd answers
line_is n (move slot slice text) (line.N noted) answers = ap (λ (x : Noted). x.line) answers
line_is n (move slot slice text) (line.C answered) answers = absurd answers
line_is n (move slot slice text) (line.P judged) answers = absurd answers
line_is n (move slot slice text) (line.F refused) answers = absurd answers
line_is n (command slot c) (line.N noted) answers = absurd answers
line_is n (command slot c) (line.C answered) answers = answers.0
line_is n (command slot c) (line.P judged) answers = absurd answers
line_is n (command slot c) (line.F refused) answers = ap (λ (x : Refusal). x.line) answers
line_is n (packet slot p) (line.N noted) answers = absurd answers
line_is n (packet slot p) (line.C answered) answers = absurd answers
line_is n (packet slot p) (line.P judged) answers = answers.0
line_is n (packet slot p) (line.F refused) answers = ap (λ (x : Refusal). x.line) answers

-- those of a number
abbrev pub with_number : ℕ → List LineEntry → List LineEntry
with_number k entries = filter (λ of_line. line_of of_line == k) entries

-- none of them has a lower one
none_below : (k n : ℕ) (made : List Meaning) (entries : List LineEntry) → k < n → AnswersAll n made entries
    → with_number k entries ≡ []
none_below k n [] [] below answers = refl
none_below k n [] (entry ∷ entries) below answers = absurd answers
none_below k n (now ∷ made) [] below answers = absurd answers
none_below k n (now ∷ made) (entry ∷ entries) below answers =
    let its = line_is n now entry answers.0 in
    let other : (line_of entry == k) ≡ false = ne_eqb (line_of entry) k (λ same. omega (arith, same, its, below)) in
    ap (λ test. cond test (entry ∷ with_number k entries) (with_number k entries)) other
    ∙ none_below k (n + 1) made entries (omega (arith, below)) answers.1

-- what agrees from a number on is the same from there
same_from : {X : Type 0} (f g : ℕ → List X) (first n : ℕ) → ((k : ℕ) → first ≤ k → f k ≡ g k)
    → flat_map f (counted first n) ≡ flat_map g (counted first n)
same_from f g first zero agree = refl
same_from f g first (suc n) agree =
    ap (λ xs. xs ++ flat_map f (counted (first + 1) n)) (agree first (omega arith))
    ∙ ap (λ xs. g first ++ xs) (same_from f g (first + 1) n (λ k above. agree k (omega (arith, above))))

pub each_number : (n : ℕ) (made : List Meaning) (entries : List LineEntry) → AnswersAll n made entries
    → flat_map (λ k. with_number k entries) (counted n (length made)) ≡ entries
each_number n [] [] answers = refl
each_number n [] (entry ∷ entries) answers = absurd answers
each_number n (now ∷ made) [] answers = absurd answers
each_number n (now ∷ made) (entry ∷ entries) answers =
    let its = line_is n now entry answers.0 in
    let own : with_number n (entry ∷ entries) ≡ entry ∷ [] =
    ap (λ test. cond test (entry ∷ with_number n entries) (with_number n entries)) (eq-eqb (line_of entry) n its)
    ∙ ap (λ xs. entry ∷ xs) (none_below n (n + 1) made entries (omega arith) answers.1) in
    let others : flat_map (λ k. with_number k (entry ∷ entries)) (counted (n + 1) (length made))
    ≡ flat_map (λ k. with_number k entries) (counted (n + 1) (length made)) =
    same_from (λ k. with_number k (entry ∷ entries)) (λ k. with_number k entries) (n + 1) (length made)
    (λ k above. ap (λ test. cond test (entry ∷ with_number k entries) (with_number k entries))
    (ne_eqb (line_of entry) k (λ same. omega (arith, same, its, above)))) in
    ap (λ xs. xs ++ flat_map (λ k. with_number k (entry ∷ entries)) (counted (n + 1) (length made))) own
    ∙ ap (λ xs. entry ∷ xs) (others ∙ each_number (n + 1) made entries answers.1)

pub in_order_already : (made : List Meaning) (entries : List LineEntry) → AnswersAll 1 made entries
    → in_line_order (length made) entries ≡ entries
in_order_already made entries answers = each_number 1 made entries answers

-- there are as many entries as lines
pub as_many : (n : ℕ) (made : List Meaning) (entries : List LineEntry) → AnswersAll n made entries
    → length entries ≡ length made
as_many n [] [] answers = refl
as_many n [] (entry ∷ entries) answers = absurd answers
as_many n (now ∷ made) [] answers = absurd answers
as_many n (now ∷ made) (entry ∷ entries) answers = ap suc (as_many (n + 1) made entries answers.1)

-- the entries of some lines with their entries
pub entries_told : (n : ℕ) (made : List Meaning) (entries : List LineEntry) → AnswersAll n made entries
    → map (λ (told : LineTold). told.entry) (lines_told made entries) ≡ entries
entries_told n [] [] answers = refl
entries_told n [] (entry ∷ entries) answers = absurd answers
entries_told n (now ∷ made) [] answers = absurd answers
entries_told n (now ∷ made) (entry ∷ entries) answers =
    ap (λ xs. entry ∷ xs) (entries_told (n + 1) made entries answers.1)

-- lines behind others
pub answers_both : (n after : ℕ) (made more : List Meaning) (entries others : List LineEntry)
    → after ≡ n + length made → AnswersAll n made entries → AnswersAll after more others
    → AnswersAll n (made ++ more) (entries ++ others)
answers_both n after [] more [] others is first behind =
    let here : after ≡ n = omega (arith, is) in subst (λ k. AnswersAll k more others) here behind
answers_both n after [] more (entry ∷ entries) others is first behind = absurd first
answers_both n after (now ∷ made) more [] others is first behind = absurd first
answers_both n after (now ∷ made) more (entry ∷ entries) others is first behind = (
  first.0,
  answers_both (n + 1) after made more entries others (omega (arith, is)) first.1 behind,
)

pub answers_split : (n after : ℕ) (made more : List Meaning) (entries : List LineEntry)
    → after ≡ n + length made → AnswersAll n (made ++ more) entries
    → AnswersAll n made (take (length made) entries) × AnswersAll after more (drop (length made) entries)
answers_split n after [] more entries is answers =
    let here : n ≡ after = omega (arith, is) in (tt, subst (λ k. AnswersAll k more entries) here answers)
answers_split n after (now ∷ made) more [] is answers = absurd answers
answers_split n after (now ∷ made) more (entry ∷ entries) is answers =
    let parts = answers_split (n + 1) after made more entries (omega (arith, is)) answers.1 in
    ((answers.0, parts.0), parts.1)
