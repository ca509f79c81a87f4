-- Lines of an epoch met by their entries, one line after another, and where one isn't.
use Rattle.std.proofs.Common.{◌≡◌, ℕ, zero, suc, ◌+◌, ◌-◌, ◌<◌, ◌≤◌, true, false, Option, Some, None, List, [], ◌∷◌, ◌++◌, length, drop, get_or, take, refl, sym, ap, subst, ◌∙◌, arith, append_assoc, append-nil}
use Rattle.std.specs.List.{All}
use Rattle.std.proofs.lemmas.List.{length-take-le, map_push, take_all, take_more}
use Rattle.std.proofs.lemmas.List.Elements.{All-head, All-nil, All-push, All-tail, All-weaker}
use Rattle.demux.specs.Trace.{Meaning}
use Rattle.report_lines.specs.declared.entry.LineEntry.{LineEntry}
use Rattle.lawful_run.specs.Answers.{Answers, AnswersAll}
use Rattle.lawful_run.specs.LinesTold.{lines_told}
use Rattle.audit_core.specs.AnswerPlaces.{Stops, asked, missing, unanswered}
use Rattle.audit_core.specs.Answering.{answers}
use Rattle.audit_core.specs.Entries.{line_of}
use Rattle.audit_core.specs.Matched.{MatchesAll, UnansweredIn, in_range, of_number}
use Rattle.audit_core.specs.Meant.{StandsTold, line_told, lines_of}
use Rattle.audit_core.specs.OfSlot.{AreAnswered}
use Rattle.audit_core.specs.Places.{first_of}
use Rattle.audit_core.specs.Telling.{at_line, dash}
use Rattle.audit_core.specs.declared.telling.Break.{Break}
use Rattle.audit_core.specs.declared.told_line.ToldLine.{ToldLine}
use Rattle.audit_core.proofs.AnswerLemmas.{answers_true}
use Rattle.audit_core.proofs.LineKinds.{are_answered}
use Rattle.audit_core.proofs.LineOrder.{line_is}
use Rattle.audit_core.proofs.RangeLemmas.{answers_more, first_all, missing_so, numbers_from, numbers_own, range_more, range_parts, told_before, told_more, told_own}

-- So many lines are answered, one by one; of the last one there are these entries more.
pub record Met (first : ℕ) (made : List Meaning) (entries : List LineEntry) (i : ℕ) (lines : List ToldLine)
    (again : Option LineEntry) : Type 0 where
  pub answers : List LineEntry
  pub over : List LineEntry
  pub in_order : in_range first i entries ≡ answers ++ over
  pub each : AnswersAll first (take i made) answers
  pub told : lines_of lines ≡ lines_told (take i made) answers
  pub stand : All StandsTold lines
  pub again_is : again ≡ first_of over
  pub earlier : All (λ (e : LineEntry). line_of e < first + i) over

pub met_none : (first : ℕ) (made : List Meaning) (entries : List LineEntry) → Met first made entries 0 [] None
met_none first made entries = record {
  answers = [];
  over = [];
  in_order = refl;
  each = tt;
  told = refl;
  stand = All-nil StandsTold;
  again_is = refl;
  earlier = All-nil (λ (e : LineEntry). line_of e < first + 0);
}

pub none_over : {X : Type 0} (xs : List X) → None ≡ first_of xs → xs ≡ []
none_over [] is = refl
none_over (x ∷ xs) is = absurd (cc)

pub some_over : {X : Type 0} (xs : List X) (x : X) → Some x ≡ first_of xs → xs ≡ x ∷ drop 1 xs
some_over [] x is = absurd (cc)
some_over (y ∷ xs) x is = let same : y ≡ x = cc in ap (λ z. z ∷ xs) same

split_at : {X : Type 0} (xs : List X) (i : ℕ) (x : X) → i < length xs → x ≡ get_or xs i x
    → xs ≡ take i xs ++ x ∷ drop (suc i) xs
split_at [] i x within is = absurd (omega (arith, within))
split_at (y ∷ xs) zero x within is = ap (λ z. z ∷ xs) (sym is)
split_at (y ∷ xs) (suc i) x within is = ap (λ l. y ∷ l) (split_at xs i x (omega (arith, within)) is)

module _ (first : ℕ) (made : List Meaning) (entries : List LineEntry) (i : ℕ) (lines : List ToldLine)
    (again : Option LineEntry) (met : Met first made entries i lines again) where
  -- with one line more
  pub met_more : (one : ToldLine) (more : List LineEntry) → again ≡ None → i < length made
      → (line_told one).meaning ≡ get_or made i (line_told one).meaning
      → of_number (first + i) entries ≡ (line_told one).entry ∷ more
      → Answers (first + i) (line_told one).meaning (line_told one).entry → StandsTold one
      → Met first made entries (i + 1) (lines ++ one ∷ []) (first_of more)
  met_more one more none within is own answers stands =
      let now = (line_told one).meaning in
      let entry = (line_told one).entry in
      let nothing : met.over ≡ [] = none_over met.over (sym none ∙ met.again_is) in
      let len : length (take i made) ≡ i = length-take-le i made (omega (arith, within)) in
      let prefix : take (i + 1) made ≡ take i made ++ now ∷ [] = take_more made i now within
      ∙ ap (λ m. take i made ++ m ∷ []) (sym is) in
      let here : Answers (first + length (take i made)) now entry =
      subst (λ k. Answers (first + k) now entry) (sym len) answers in
      record {
        answers = met.answers ++ entry ∷ [];
        over = more;
        in_order = range_more first i entries ∙ ap (λ l. l ++ of_number (first + i) entries) met.in_order
            ∙ ap (λ l. met.answers ++ l ++ of_number (first + i) entries) nothing
            ∙ ap (λ l. l ++ of_number (first + i) entries) (append-nil met.answers)
            ∙ ap (λ l. met.answers ++ l) own
            ∙ sym (append_assoc met.answers (entry ∷ []) more);
        each = subst (λ l. AnswersAll first l (met.answers ++ entry ∷ [])) (sym prefix)
            (answers_more first (take i made) met.answers now entry met.each here);
        told = map_push line_told lines one ∙ ap (λ l. l ++ line_told one ∷ []) met.told
            ∙ sym (told_more first (take i made) met.answers now entry met.each)
            ∙ ap (λ l. lines_told l (met.answers ++ entry ∷ [])) (sym prefix);
        stand = All-push StandsTold lines one met.stand stands;
        again_is = refl;
        earlier = more_earlier (of_number (first + i) entries) entry more own (numbers_own (first + i) entries);
      }
    where
      more_earlier : (all : List LineEntry) (e : LineEntry) (rest : List LineEntry) → all ≡ e ∷ rest
          → All (λ (x : LineEntry). line_of x ≡ first + i) all → All (λ (x : LineEntry). line_of x < first + (i + 1)) rest
      more_earlier all e rest is own =
          All-weaker (λ (x : LineEntry). line_of x ≡ first + i) (λ (x : LineEntry). line_of x < first + (i + 1))
          (λ x same. omega (arith, same)) rest
          (All-tail (λ (x : LineEntry). line_of x ≡ first + i) e rest
          (subst (All (λ (x : LineEntry). line_of x ≡ first + i)) is own))

  -- all entries of the lines in line order, from what is over on
  rest_of : i ≤ length made → in_range first (length made) entries
      ≡ met.answers ++ (met.over ++ in_range (first + i) (length made - i) entries)
  rest_of within =
      let same : i + (length made - i) ≡ length made = omega (arith, within) in
      ap (λ n. in_range first n entries) (sym same) ∙ range_parts first i (length made - i) entries
      ∙ ap (λ l. l ++ in_range (first + i) (length made - i) entries) met.in_order
      ∙ append_assoc met.answers met.over (in_range (first + i) (length made - i) entries)

  -- what is told where it stops at a line
  stops_at : (now : Meaning) (rest : List LineEntry) (found : Break) → i < length made → now ≡ get_or made i now
      → in_range first (length made) entries ≡ met.answers ++ rest
      → Stops (first + i) (now ∷ drop (suc i) made) rest
      → found ≡ unanswered (first + i) now (first_of rest)
      → UnansweredIn first made (in_range first (length made) entries) found
  stops_at now rest found within is in_order stops told =
      let len : length (take i made) ≡ i = length-take-le i made (omega (arith, within)) in
      record {
        answered = take i made;
        left = now ∷ drop (suc i) made;
        answers = met.answers;
        rest = rest;
        lines = split_at made i now within is;
        in_order = in_order;
        each = met.each;
        stops = subst (λ k. Stops (first + k) (now ∷ drop (suc i) made) rest) (sym len) stops;
        more = λ none last. cc;
        is = told ∙ ap (λ k. unanswered (first + k) now (first_of rest)) (sym len);
      }

  -- a second entry of the last line stands in its place
  pub broken_again : (now : Meaning) (e : LineEntry) → i < length made → now ≡ get_or made i now → again ≡ Some e
      → UnansweredIn first made (in_range first (length made) entries) (at_line e dash)
  broken_again now e within is there =
      let later = drop 1 met.over ++ in_range (first + i) (length made - i) entries in
      let over : met.over ≡ e ∷ drop 1 met.over = some_over met.over e (sym there ∙ met.again_is) in
      let low : line_of e < first + i =
      first_all (λ (x : LineEntry). line_of x < first + i) met.over e met.earlier (sym met.again_is ∙ there) in
      stops_at now (e ∷ later) (at_line e dash) within is
      (rest_of (omega (arith, within))
      ∙ ap (λ l. met.answers ++ (l ++ in_range (first + i) (length made - i) entries)) over)
      (λ answered. omega (arith, low, line_is (first + i) now e answered))
      (sym (told_before (first + i) now e low))

  -- it has none
  pub broken_missing : (now : Meaning) → i < length made → now ≡ get_or made i now → again ≡ None
      → of_number (first + i) entries ≡ []
      → UnansweredIn first made (in_range first (length made) entries) (missing (first + i) now)
  broken_missing now within is none no_own =
      let nothing : met.over ≡ [] = none_over met.over (sym none ∙ met.again_is) in
      let left : suc (length made - suc i) ≡ length made - i = omega (arith, within) in
      let rest = in_range (first + i) (suc (length made - suc i)) entries in
      let so = missing_so (first + i) (length made - suc i) now entries no_own in
      let behind : All (λ (e : LineEntry). first + i + 1 ≤ line_of e) rest =
      subst (λ l. All (λ (e : LineEntry). first + i + 1 ≤ line_of e)
      (l ++ in_range (first + i + 1) (length made - suc i) entries)) (sym no_own)
      (numbers_from (first + i + 1) (length made - suc i) entries) in
      stops_at now rest (missing (first + i) now) within is
      (rest_of (omega (arith, within))
      ∙ ap (λ l. met.answers ++ (l ++ in_range (first + i) (length made - i) entries)) nothing
      ∙ ap (λ n. met.answers ++ in_range (first + i) n entries) (sym left))
      (stops_behind now rest behind)
      (sym so)
    where
      stops_behind : (m : Meaning) (rest : List LineEntry) → All (λ (e : LineEntry). first + i + 1 ≤ line_of e) rest
          → Stops (first + i) (m ∷ drop (suc i) made) rest
      stops_behind m [] all = tt
      stops_behind m (e ∷ rest) all = λ answered.
          omega (
            arith,
            All-head (λ (x : LineEntry). first + i + 1 ≤ line_of x) e rest all,
            line_is (first + i) m e answered,
          )

  -- it has another
  pub broken_wrong : (now : Meaning) (e : LineEntry) (more : List LineEntry) → i < length made → now ≡ get_or made i now
      → again ≡ None → of_number (first + i) entries ≡ e ∷ more → answers (first + i) now e ≡ false
      → UnansweredIn first made (in_range first (length made) entries) (at_line e (asked (first + i) now))
  broken_wrong now e more within is none own wrong =
      let nothing : met.over ≡ [] = none_over met.over (sym none ∙ met.again_is) in
      let left : suc (length made - suc i) ≡ length made - i = omega (arith, within) in
      let later = more ++ in_range (first + i + 1) (length made - suc i) entries in
      let number : line_of e ≡ first + i = first_all (λ (x : LineEntry). line_of x ≡ first + i)
      (of_number (first + i) entries) e (numbers_own (first + i) entries) (ap first_of own) in
      stops_at now (e ∷ later) (at_line e (asked (first + i) now)) within is
      (rest_of (omega (arith, within))
      ∙ ap (λ l. met.answers ++ (l ++ in_range (first + i) (length made - i) entries)) nothing
      ∙ ap (λ n. met.answers ++ in_range (first + i) n entries) (sym left)
      ∙ ap (λ l. met.answers ++ (l ++ in_range (first + i + 1) (length made - suc i) entries)) own)
      (λ answered. let no : false ≡ true = sym wrong ∙ answers_true (first + i) now e answered in cc)
      (sym (told_own (first + i) now e number))

  -- behind all lines, one of the last line is over
  pub broken_end : (e : LineEntry) → i ≡ length made → again ≡ Some e
      → UnansweredIn first made (in_range first (length made) entries) (at_line e dash)
  broken_end e all there =
      let over : met.over ≡ e ∷ drop 1 met.over = some_over met.over e (sym there ∙ met.again_is) in
      record {
        answered = take i made;
        left = [];
        answers = met.answers;
        rest = e ∷ drop 1 met.over;
        lines = sym (append-nil (take i made) ∙ take_all i made (omega (arith, all)));
        in_order = subst (λ n. in_range first n entries ≡ met.answers ++ e ∷ drop 1 met.over) all
            (met.in_order ∙ ap (λ l. met.answers ++ l) over);
        each = met.each;
        stops = tt;
        more = λ none last. cc;
        is = refl;
      }

  -- or each line has one
  pub all_matched : i ≡ length made → again ≡ None → MatchesAll first made (in_range first (length made) entries) lines
  all_matched all none =
      let nothing : met.over ≡ [] = none_over met.over (sym none ∙ met.again_is) in
      let whole : take i made ≡ made = take_all i made (omega (arith, all)) in
      let own : in_range first (length made) entries ≡ met.answers =
      subst (λ n. in_range first n entries ≡ met.answers) all
      (met.in_order ∙ ap (λ l. met.answers ++ l) nothing ∙ append-nil met.answers) in
      let each : AnswersAll first made met.answers = subst (λ l. AnswersAll first l met.answers) whole met.each in
      let told : lines_of lines ≡ lines_told made (in_range first (length made) entries) =
      met.told ∙ ap (λ l. lines_told l met.answers) whole ∙ ap (lines_told made) (sym own) in
      record {
        told = told;
        many = ap length own ∙ as_many first made met.answers each;
        answered = subst (AreAnswered first) (sym (met.told ∙ ap (λ l. lines_told l met.answers) whole))
            (are_answered first made met.answers each);
        stand = met.stand;
      }
    where
      as_many : (n : ℕ) (all : List Meaning) (those : List LineEntry) → AnswersAll n all those
          → length those ≡ length all
      as_many n [] [] each = refl
      as_many n [] (e ∷ those) each = absurd each
      as_many n (now ∷ all) [] each = absurd each
      as_many n (now ∷ all) (e ∷ those) each = ap suc (as_many (n + 1) all those each.1)
