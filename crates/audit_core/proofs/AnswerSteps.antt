-- The first sentence, epoch by epoch: the lines with their entries, or the first that isn't answered.
use Rattle.std.proofs.Common.{◌≡◌, ℕ, zero, suc, ◌+◌, ◌<◌, ◌≤◌, List, [], ◌∷◌, ◌++◌, length, take, drop, refl, sym, ap, ◌∙◌, subst, arith, append_assoc, append-nil, length-append}
use Rattle.std.specs.List.{All}
use Rattle.std.proofs.lemmas.Grind.{flat_map-append}
use Rattle.std.proofs.lemmas.List.{drop-append-le, length-drop, take-append-le, take_at}
use Rattle.std.proofs.lemmas.List.Elements.{All-append, All-head, All-nil, All-tail, All-weaker}
use Rattle.demux.specs.Trace.{Meaning}
use Rattle.report_lines.specs.declared.entry.LineEntry.{LineEntry}
use Rattle.lawful_run.specs.Answers.{AnswersAll}
use Rattle.lawful_run.specs.LinesTold.{lines_told}
use Rattle.audit_core.specs.AnswerPlaces.{IsUnanswered, Stops, break_at}
use Rattle.audit_core.specs.Entries.{all_lines, cut, in_line_order, line_entries, line_of}
use Rattle.audit_core.specs.Judged.{Case, Epoch, told_of}
use Rattle.audit_core.specs.Matched.{UnansweredIn, break_in, in_range, of_number}
use Rattle.audit_core.specs.Places.{first_of}
use Rattle.audit_core.specs.declared.telling.Break.{Break}
use Rattle.audit_core.proofs.LineOrder.{answers_both, as_many, line_is}
use Rattle.audit_core.proofs.RangeLemmas.{numbers_from, numbers_own, range_parts, told_before, told_behind}

-- lines cut where an epoch begins
cut_parts : (prefix : List (List Meaning)) (now : List Meaning) (left : List (List Meaning))
    (entries others : List LineEntry) → length entries ≡ length (all_lines prefix)
    → cut (prefix ++ now ∷ left) (entries ++ others)
    ≡ cut prefix entries ++ lines_told now (take (length now) others) ∷ cut left (drop (length now) others)
cut_parts [] now left [] others many = refl
cut_parts [] now left (entry ∷ entries) others many = absurd (omega (arith, many))
cut_parts (first ∷ prefix) now left entries others many =
    let count : length entries ≡ length first + length (all_lines prefix) =
    many ∙ length-append first (all_lines prefix) in
    let low : length first ≤ length entries = omega (arith, count) in
    (λ i. lines_told first (take-append-le (length first) entries others low i)
    ∷ cut (prefix ++ now ∷ left) (drop-append-le (length first) entries others low i))
    ∙ ap (λ rest. lines_told first (take (length first) entries) ∷ rest)
    (cut_parts prefix now left (drop (length first) entries) others
    (omega (arith, length-drop (length first) entries, count)))

pub cut_count : (prefix : List (List Meaning)) (entries : List LineEntry) → length (cut prefix entries) ≡ length prefix
cut_count [] entries = refl
cut_count (first ∷ prefix) entries = ap suc (cut_count prefix (drop (length first) entries))

-- lists of as many items before one have it at the same place
same_prefix : {X : Type 0} (xs ys : List X) (x y : X) (xs_behind ys_behind : List X) → length xs ≡ length ys
    → xs ++ x ∷ xs_behind ≡ ys ++ y ∷ ys_behind → x ≡ y
same_prefix [] [] x y xs_behind ys_behind many same = cc
same_prefix [] (one ∷ ys) x y xs_behind ys_behind many same = absurd (omega (arith, many))
same_prefix (one ∷ xs) [] x y xs_behind ys_behind many same = absurd (omega (arith, many))
same_prefix (one ∷ xs) (other ∷ ys) x y xs_behind ys_behind many same =
    let rest : xs ++ x ∷ xs_behind ≡ ys ++ y ∷ ys_behind = cc in
    same_prefix xs ys x y xs_behind ys_behind (omega (arith, many)) rest

-- entries in a range have no greater number
numbers_below : (first k : ℕ) (entries : List LineEntry)
    → All (λ (e : LineEntry). line_of e < first + k) (in_range first k entries)
numbers_below first zero entries = All-nil (λ (e : LineEntry). line_of e < first + 0)
numbers_below first (suc k) entries =
    All-append (λ (e : LineEntry). line_of e < first + suc k) (of_number first entries) (in_range (first + 1) k entries)
    (All-weaker (λ (e : LineEntry). line_of e ≡ first) (λ (e : LineEntry). line_of e < first + suc k)
    (λ e is. omega (arith, is)) (of_number first entries) (numbers_own first entries))
    (All-weaker (λ (e : LineEntry). line_of e < first + 1 + k) (λ (e : LineEntry). line_of e < first + suc k)
    (λ e low. omega (arith, low)) (in_range (first + 1) k entries) (numbers_below (first + 1) k entries))

-- what stops in an epoch does so before the lines and entries behind it
stops_on : (n : ℕ) (left more : List Meaning) (rest others : List LineEntry) → Stops n left rest
    → (left ≡ [] → rest ≡ [] → ⊥) → (left ≡ [] → All (λ (e : LineEntry). line_of e < n) rest)
    → (rest ≡ [] → (left ≡ [] → ⊥) → All (λ (e : LineEntry). n < line_of e) others)
    → Stops n (left ++ more) (rest ++ others)
stops_on n [] more [] others stops some low high = absurd (some refl refl)
stops_on n [] [] (e ∷ rest) others stops some low high = tt
stops_on n [] (now ∷ more) (e ∷ rest) others stops some low high = λ answers.
    omega (arith, line_is n now e answers, All-head (λ (x : LineEntry). line_of x < n) e rest (low refl))
stops_on n (now ∷ left) more [] [] stops some low high = tt
stops_on n (now ∷ left) more [] (e ∷ others) stops some low high = λ answers.
    omega (
      arith,
      line_is n now e answers,
      All-head (λ (x : LineEntry). n < line_of x) e others (high refl (λ none. cc)),
    )
stops_on n (now ∷ left) more (e ∷ rest) others stops some low high = stops

break_on : (count : ℕ) (all : List LineEntry) (n : ℕ) (left more : List Meaning) (rest others : List LineEntry)
    → (left ≡ [] → rest ≡ [] → ⊥) → (left ≡ [] → All (λ (e : LineEntry). line_of e < n) rest)
    → (rest ≡ [] → (left ≡ [] → ⊥) → All (λ (e : LineEntry). n < line_of e) others)
    → break_in n (first_of left) (first_of rest)
    ≡ break_at count all n (first_of (left ++ more)) (first_of (rest ++ others))
break_on count all n [] more [] others some low high = absurd (some refl refl)
break_on count all n [] [] (e ∷ rest) others some low high = refl
break_on count all n [] (now ∷ more) (e ∷ rest) others some low high =
    sym (told_before n now e (All-head (λ (x : LineEntry). line_of x < n) e rest (low refl)))
break_on count all n (now ∷ left) more [] [] some low high = refl
break_on count all n (now ∷ left) more [] (e ∷ others) some low high =
    sym (told_behind n now e (All-head (λ (x : LineEntry). n < line_of x) e others (high refl (λ none. cc))))
break_on count all n (now ∷ left) more (e ∷ rest) others some low high = refl

all_rest : {X : Type 0} (P : X → Type 0) (prefix rest : List X) → All P (prefix ++ rest) → All P rest
all_rest P [] rest all = all
all_rest P (x ∷ prefix) rest all = all_rest P prefix rest (All-tail P x (prefix ++ rest) all)

module _ (own : Case) (at : Epoch) (parts : own.made ≡ at.prefix ++ at.now ∷ at.left) where
  abbrev entries : List LineEntry
  entries = line_entries own.entries

  abbrev lines_prefix : ℕ
  lines_prefix = length (all_lines at.prefix)

  abbrev lines_left : ℕ
  lines_left = length (all_lines at.left)

  abbrev its : List LineEntry
  its = in_range (lines_prefix + 1) (length at.now) entries

  abbrev behind : List LineEntry
  behind = in_range (lines_prefix + 1 + length at.now) lines_left entries

  all_parts : all_lines own.made ≡ all_lines at.prefix ++ (at.now ++ all_lines at.left)
  all_parts =
      ap all_lines parts ∙ flat_map-append (λ (made : List Meaning). made) at.prefix (at.now ∷ at.left)

  all_count : length (all_lines own.made) ≡ lines_prefix + (length at.now + lines_left)
  all_count =
      ap length all_parts ∙ length-append (all_lines at.prefix) (at.now ++ all_lines at.left)
      ∙ ap (λ k. lines_prefix + k) (length-append at.now (all_lines at.left))

  one_first : 1 + lines_prefix ≡ lines_prefix + 1
  one_first = omega arith

  order_parts : in_line_order (length (all_lines own.made)) entries
      ≡ in_line_order lines_prefix entries ++ (its ++ behind)
  order_parts =
      ap (λ k. in_range 1 k entries) all_count
      ∙ range_parts 1 lines_prefix (length at.now + lines_left) entries
      ∙ ap (λ k. in_range 1 lines_prefix entries ++ in_range k (length at.now + lines_left) entries) one_first
      ∙ ap (λ l. in_range 1 lines_prefix entries ++ l)
      (range_parts (lines_prefix + 1) (length at.now) lines_left entries)

  module _ (answers : AnswersAll 1 (all_lines at.prefix) (in_line_order lines_prefix entries)) where
    -- the lines of the epoch with their entries
    pub told_here : told_of own ≡ at.told ++ at.here ∷ at.later → length at.told ≡ length at.prefix
        → length its ≡ length at.now → at.here ≡ lines_told at.now its
    told_here told_parts many one_each =
        let prefix = in_line_order lines_prefix entries in
        let first = as_many 1 (all_lines at.prefix) prefix answers in
        let whole : at.told ++ at.here ∷ at.later
        ≡ cut at.prefix prefix ++ lines_told at.now (take (length at.now) (its ++ behind))
        ∷ cut at.left (drop (length at.now) (its ++ behind)) =
        sym told_parts
        ∙ (λ i. cut (parts i) (order_parts i))
        ∙ cut_parts at.prefix at.now at.left prefix (its ++ behind) first in
        same_prefix at.told (cut at.prefix prefix) at.here (lines_told at.now (take (length at.now) (its ++ behind)))
        at.later (cut at.left (drop (length at.now) (its ++ behind)))
        (many ∙ sym (cut_count at.prefix prefix)) whole
        ∙ ap (lines_told at.now) (take_at its behind (length at.now) one_each)

    -- so lines are answered up to its end
    pub answers_with : AnswersAll (lines_prefix + 1) at.now its
        → AnswersAll 1 (all_lines (at.prefix ++ at.now ∷ []))
        (in_line_order (length (all_lines (at.prefix ++ at.now ∷ []))) entries)
    answers_with here =
        let lines : all_lines (at.prefix ++ at.now ∷ []) ≡ all_lines at.prefix ++ at.now =
        flat_map-append (λ (made : List Meaning). made) at.prefix (at.now ∷ [])
        ∙ ap (λ l. all_lines at.prefix ++ l) (append-nil at.now) in
        let order : in_line_order (length (all_lines (at.prefix ++ at.now ∷ []))) entries
        ≡ in_line_order lines_prefix entries ++ its =
        ap (λ k. in_range 1 k entries) (ap length lines ∙ length-append (all_lines at.prefix) at.now)
        ∙ range_parts 1 lines_prefix (length at.now) entries
        ∙ ap (λ k. in_range 1 lines_prefix entries ++ in_range k (length at.now) entries) one_first in
        subst (λ l. AnswersAll 1 l (in_line_order (length (all_lines (at.prefix ++ at.now ∷ []))) entries)) (sym lines)
        (subst (AnswersAll 1 (all_lines at.prefix ++ at.now)) (sym order)
        (answers_both 1 (lines_prefix + 1) (all_lines at.prefix) at.now (in_line_order lines_prefix entries) its
        (sym one_first) answers here))

    -- or stop in it
    pub answers_break : (found : Break) → UnansweredIn (lines_prefix + 1) at.now its found
        → IsUnanswered own.made own.entries found
    answers_break found is =
        let n = lines_prefix + 1 + length is.answered in
        let number : length (all_lines at.prefix ++ is.answered) + 1 ≡ n =
        omega (arith, length-append (all_lines at.prefix) is.answered) in
        let now_count : length at.now ≡ length is.answered + length is.left =
        ap length is.lines ∙ length-append is.answered is.left in
        let low : is.left ≡ [] → All (λ (e : LineEntry). line_of e < n) is.rest = λ none.
        let end : lines_prefix + 1 + length at.now ≡ n = omega (arith, now_count, ap length none) in
        subst (λ k. All (λ (e : LineEntry). line_of e < k) is.rest) end
        (all_rest (λ (e : LineEntry). line_of e < lines_prefix + 1 + length at.now) is.answers is.rest
        (subst (All (λ (e : LineEntry). line_of e < lines_prefix + 1 + length at.now)) is.in_order
        (numbers_below (lines_prefix + 1) (length at.now) entries))) in
        let high : is.rest ≡ [] → (is.left ≡ [] → ⊥) → All (λ (e : LineEntry). n < line_of e) behind = λ last some.
        All-weaker (λ (e : LineEntry). lines_prefix + 1 + length at.now ≤ line_of e) (λ (e : LineEntry). n < line_of e)
        (λ e from. omega (arith, from, now_count, some_left is.left some)) behind
        (numbers_from (lines_prefix + 1 + length at.now) lines_left entries) in
        record {
          answered = all_lines at.prefix ++ is.answered;
          left = is.left ++ all_lines at.left;
          answers = in_line_order lines_prefix entries ++ is.answers;
          rest = is.rest ++ behind;
          lines = all_parts
              ∙ ap (λ l. all_lines at.prefix ++ (l ++ all_lines at.left)) is.lines
              ∙ regroup (all_lines at.prefix) is.answered is.left (all_lines at.left);
          in_order = order_parts
              ∙ ap (λ l. in_line_order lines_prefix entries ++ (l ++ behind)) is.in_order
              ∙ regroup (in_line_order lines_prefix entries) is.answers is.rest behind;
          each = answers_both 1 (lines_prefix + 1) (all_lines at.prefix) is.answered (in_line_order lines_prefix entries)
              is.answers (sym one_first) answers is.each;
          stops = subst (λ k. Stops k (is.left ++ all_lines at.left) (is.rest ++ behind)) (sym number)
              (stops_on n is.left (all_lines at.left) is.rest behind is.stops is.more low high);
          too_many = λ none last. absurd (is.more (nil_prefix is.left (all_lines at.left) none)
              (nil_prefix is.rest behind last));
          is = is.is
              ∙ break_on (length (all_lines own.made)) entries n is.left (all_lines at.left) is.rest behind is.more low high
              ∙ ap (λ k. break_at (length (all_lines own.made)) entries k (first_of (is.left ++ all_lines at.left))
              (first_of (is.rest ++ behind))) (sym number);
        }
      where
        regroup : {X : Type 0} (a b c d : List X) → a ++ ((b ++ c) ++ d) ≡ (a ++ b) ++ (c ++ d)
        regroup a b c d = ap (λ l. a ++ l) (append_assoc b c d) ∙ sym (append_assoc a b (c ++ d))

        nil_prefix : {X : Type 0} (a b : List X) → a ++ b ≡ [] → a ≡ []
        nil_prefix [] b none = refl
        nil_prefix (x ∷ a) b none = absurd (cc)

        some_left : {X : Type 0} (a : List X) → (a ≡ [] → ⊥) → 1 ≤ length a
        some_left [] some = absurd (some refl)
        some_left (x ∷ a) some = omega arith
