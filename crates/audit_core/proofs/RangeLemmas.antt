-- The entries of lines one after another, in line order, and where they don't answer the lines.
use Rattle.std.proofs.Common.{◌≡◌, ℕ, zero, suc, ◌+◌, ◌<◌, ◌≤◌, ◌==◌, nat_lt, if◌then◌else◌, Bool, true, false, Option, Some, None, List, [], ◌∷◌, ◌++◌, cond, length, refl, sym, ap, subst, ◌∙◌, arith, append_assoc, append-nil}
use Rattle.std.specs.List.{All}
use Rattle.std.proofs.lemmas.Bool.{eq-eqb, eqb-true, le-ltb, lt-ltb, ne_eqb}
use Rattle.std.proofs.lemmas.List.Elements.{All-append, All-head, All-nil, All-weaker}
use Rattle.demux.specs.Trace.{Meaning}
use Rattle.report_lines.specs.declared.entry.LineEntry.{LineEntry}
use Rattle.lawful_run.specs.Answers.{Answers, AnswersAll}
use Rattle.lawful_run.specs.LinesTold.{LineTold, lines_told}
use Rattle.audit_core.specs.AnswerPlaces.{asked, missing, unanswered}
use Rattle.audit_core.specs.Entries.{line_of}
use Rattle.audit_core.specs.Matched.{in_range, of_number}
use Rattle.audit_core.specs.Places.{first_of}
use Rattle.audit_core.specs.Telling.{at_line, dash}

-- those of the first lines, and of those behind them
pub range_parts : (first i k : ℕ) (entries : List LineEntry)
    → in_range first (i + k) entries ≡ in_range first i entries ++ in_range (first + i) k entries
range_parts first zero k entries =
    let none : 0 + k ≡ k = omega arith in
    let same : first ≡ first + 0 = omega arith in λ i. in_range (same i) (none i) entries
range_parts first (suc i) k entries =
    let count : suc i + k ≡ suc (i + k) = omega arith in
    let same : first + 1 + i ≡ first + suc i = omega arith in
    ap (λ n. in_range first n entries) count
    ∙ ap (λ l. of_number first entries ++ l) (range_parts (first + 1) i k entries)
    ∙ sym (append_assoc (of_number first entries) (in_range (first + 1) i entries)
    (in_range (first + 1 + i) k entries))
    ∙ ap (λ n. of_number first entries ++ in_range (first + 1) i entries ++ in_range n k entries) same

-- with one line more
pub range_more : (first i : ℕ) (entries : List LineEntry)
    → in_range first (i + 1) entries ≡ in_range first i entries ++ of_number (first + i) entries
range_more first i entries =
    range_parts first i 1 entries
    ∙ ap (λ l. in_range first i entries ++ l) (append-nil (of_number (first + i) entries))

-- entries of a line are of its number, and those from a number on are of no lesser one
own_number : (n : ℕ) (test : Bool) (entry : LineEntry) (later : List LineEntry) → (line_of entry == n) ≡ test
    → All (λ (e : LineEntry). line_of e ≡ n) later
    → All (λ (e : LineEntry). line_of e ≡ n) (cond test (entry ∷ later) later)
own_number n true entry later is all =
    All-append (λ (e : LineEntry). line_of e ≡ n) (entry ∷ []) later
    (λ k d low. at_first k d low) all
  where
    own : line_of entry ≡ n
    own = eqb-true (line_of entry) n is

    at_first : All (λ (e : LineEntry). line_of e ≡ n) (entry ∷ [])
    at_first zero d low = own
    at_first (suc k) d low = absurd (omega (arith, low))
own_number n false entry later is all = all

pub numbers_own : (n : ℕ) (entries : List LineEntry) → All (λ (e : LineEntry). line_of e ≡ n) (of_number n entries)
numbers_own n [] = All-nil (λ (e : LineEntry). line_of e ≡ n)
numbers_own n (entry ∷ entries) =
    own_number n (line_of entry == n) entry (of_number n entries) refl (numbers_own n entries)

pub numbers_from : (first k : ℕ) (entries : List LineEntry)
    → All (λ (e : LineEntry). first ≤ line_of e) (in_range first k entries)
numbers_from first zero entries = All-nil (λ (e : LineEntry). first ≤ line_of e)
numbers_from first (suc k) entries =
    All-append (λ (e : LineEntry). first ≤ line_of e) (of_number first entries) (in_range (first + 1) k entries)
    (All-weaker (λ (e : LineEntry). line_of e ≡ first) (λ (e : LineEntry). first ≤ line_of e)
    (λ e is. omega (arith, is)) (of_number first entries) (numbers_own first entries))
    (All-weaker (λ (e : LineEntry). first + 1 ≤ line_of e) (λ (e : LineEntry). first ≤ line_of e)
    (λ e low. omega (arith, low)) (in_range (first + 1) k entries) (numbers_from (first + 1) k entries))

pub first_all : {X : Type 0} (P : X → Type 0) (xs : List X) (x : X) → All P xs → first_of xs ≡ Some x → P x
first_all P [] x all is = absurd (cc)
first_all P (y ∷ xs) x all is =
    let same : y ≡ x = cc in subst P same (All-head P y xs all)

-- what is told of a line and an entry of it, of one before it, and of one behind it
pub told_own : (n : ℕ) (now : Meaning) (e : LineEntry) → line_of e ≡ n
    → unanswered n now (Some e) ≡ at_line e (asked n now)
told_own n now e is =
    ap (λ t. if t then at_line e (asked n now) else if nat_lt (line_of e) n then at_line e dash else missing n now)
    (eq-eqb (line_of e) n is)

pub told_before : (n : ℕ) (now : Meaning) (e : LineEntry) → line_of e < n → unanswered n now (Some e) ≡ at_line e dash
told_before n now e low =
    ap (λ t. if t then at_line e (asked n now) else if nat_lt (line_of e) n then at_line e dash else missing n now)
    (ne_eqb (line_of e) n (λ same. omega (arith, same, low)))
    ∙ ap (λ t. if t then at_line e dash else missing n now) (lt-ltb (line_of e) n low)

pub told_behind : (n : ℕ) (now : Meaning) (e : LineEntry) → n < line_of e → unanswered n now (Some e) ≡ missing n now
told_behind n now e low =
    ap (λ t. if t then at_line e (asked n now) else if nat_lt (line_of e) n then at_line e dash else missing n now)
    (ne_eqb (line_of e) n (λ same. omega (arith, same, low)))
    ∙ ap (λ t. if t then at_line e dash else missing n now) (le-ltb (line_of e) n (omega (arith, low)))

-- a line that has no entry
missing_by : (n : ℕ) (now : Meaning) (first : Option LineEntry) (rest : List LineEntry) → first_of rest ≡ first
    → All (λ (e : LineEntry). n + 1 ≤ line_of e) rest → unanswered n now first ≡ missing n now
missing_by n now None rest is all = refl
missing_by n now (Some e) rest is all =
    let behind = first_all (λ (x : LineEntry). n + 1 ≤ line_of x) rest e all is in
    told_behind n now e (omega (arith, behind))

pub missing_so : (n k : ℕ) (now : Meaning) (entries : List LineEntry) → of_number n entries ≡ []
    → unanswered n now (first_of (in_range n (suc k) entries)) ≡ missing n now
missing_so n k now entries none =
    ap (λ l. unanswered n now (first_of (l ++ in_range (n + 1) k entries))) none
    ∙ missing_by n now (first_of (in_range (n + 1) k entries)) (in_range (n + 1) k entries) refl
    (numbers_from (n + 1) k entries)

-- lines that are answered, with one more
pub answers_more : (n : ℕ) (made : List Meaning) (answers : List LineEntry) (now : Meaning) (entry : LineEntry)
    → AnswersAll n made answers → Answers (n + length made) now entry
    → AnswersAll n (made ++ now ∷ []) (answers ++ entry ∷ [])
answers_more n [] [] now entry all here =
    let same : n + 0 ≡ n = omega arith in (subst (λ k. Answers k now entry) same here, tt)
answers_more n [] (one ∷ answers) now entry all here = absurd all
answers_more n (one ∷ made) [] now entry all here = absurd all
answers_more n (one ∷ made) (first ∷ answers) now entry all here =
    let same : n + suc (length made) ≡ n + 1 + length made = omega arith in
    (all.0, answers_more (n + 1) made answers now entry all.1 (subst (λ k. Answers k now entry) same here))

pub told_more : (n : ℕ) (made : List Meaning) (answers : List LineEntry) (now : Meaning) (entry : LineEntry)
    → AnswersAll n made answers
    → lines_told (made ++ now ∷ []) (answers ++ entry ∷ [])
    ≡ lines_told made answers ++ record { meaning = now; entry = entry } ∷ []
told_more n [] [] now entry all = refl
told_more n [] (one ∷ answers) now entry all = absurd all
told_more n (one ∷ made) [] now entry all = absurd all
told_more n (one ∷ made) (first ∷ answers) now entry all =
    ap (λ (l : List LineTold). record { meaning = one; entry = first } ∷ l)
    (told_more (n + 1) made answers now entry all.1)
