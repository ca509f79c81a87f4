-- The report of a made trace is counted epoch by epoch.
use Rattle.std.proofs.Common.{◌≡◌, ℕ, ◌+◌, ◌≤◌, false, List, [], ◌∷◌, ◌++◌, Option, None, Some, MatchOption, inl, inr, length, sym, ap, refl, subst, ◌∙◌, arith, append_assoc, append-nil, length-append}
use Rattle.report_lines.specs.Counts.{Counts as EntryCounts, all_held, counts_of, nothing}
use Rattle.report_lines.proofs.CountLemmas.{counts_of-append}
use Rattle.trace_lines.specs.Input.{ended}
use Rattle.trace_lines.specs.Line.{Line}
use Rattle.trace_maker.specs.Generated.{made}
use Rattle.trace_maker.specs.Numbering.{AreInOrder}
use Rattle.trace_maker.proofs.NumberingLemmas.{made_in_order}
use Rattle.trace_maker.proofs.ReadLemmas.{length-made, made_is_read}
use Rattle.lawful_run.specs.Report.{texts_of}
use Rattle.report_lines.specs.declared.entry.Entry.{Entry}
use Rattle.trace_run.specs.declared.epoch.Size.{Size}
use Rattle.trace_run.specs.declared.ending.Ending.TheVariants.{Ended}
use Rattle.trace_run.specs.Report.{IsText, IsWholeLines}
use Rattle.trace_run.specs.Reporting.{IsDue, Standing}
use Rattle.trace_run.specs.Takers.{IsNextOf}
use Rattle.solo_command.specs.declared.solo.Solo.{Solo}
use Rattle.pepc.specs.Counting.{CountedSoFar, Counting, CountsMore}
use Rattle.solo_command.specs.Entries.{text_line}
use Rattle.pepc.specs.Make.{IsCounted}
use Rattle.solo_command.specs.Progress.{HasAnswered}
use Rattle.solo_command.specs.Report.{IsSoloReport}

-- what is said of an option that is known
pub at_some : {A : Type 0} (P : Type 0) (Q : A → Type 0) (o : Option A) (value : A) → o ≡ Some value
    → MatchOption o P Q → Q value
at_some {A} P Q o value is said = subst (λ (o : Option A). MatchOption o P Q) is said

pub at_none : {A : Type 0} (P : Type 0) (Q : A → Type 0) (o : Option A) → ((value : A) → o ≡ Some value → ⊥)
    → MatchOption o P Q → P
at_none P Q None none said = said
at_none P Q (Some value) none said = absurd (none value refl)

-- the texts of entries are whole lines
texts_whole : (entries : List Entry) → IsWholeLines (texts_of false entries)
texts_whole [] = inl refl
texts_whole (told ∷ entries) =
    elim (texts_whole entries) as (λ w. IsWholeLines (text_line told ++ texts_of false entries)) [
      | inl none ↦ inr (_, ap (λ t. text_line told ++ t) none ∙ append-nil (text_line told))
      | inr lines ↦ inr (
        text_line told ++ lines.0,
        ap (λ t. text_line told ++ t) lines.1 ∙ sym (append_assoc (text_line told) lines.0 (10 ∷ [])),
      )
    ]

-- counts of whole epochs' texts, and of a text behind them
counts_more : (gateway : Solo) (size : Size) (waiting : List ℕ) (old new : EntryCounts) (done : List Line) (latest : ℕ)
    (so_far : CountedSoFar gateway size waiting old done latest) (more : List ℕ)
    → CountsMore old new more
    → new ≡ all_held (counts_of (so_far.sent ++ more))
counts_more gateway size waiting old new done latest so_far more grows =
    grows (counts_of so_far.sent) so_far.counted
    ∙ ap all_held (sym (counts_of-append so_far.sent more
    (subst IsWholeLines (sym so_far.standing.said.written) (texts_whole _))))

-- a line's epoch is open still
pub counts_open : (gateway after_it : Solo) (size later : Size) (waiting text : List ℕ) (counts : EntryCounts)
    (done : List Line) (latest : ℕ) (line : Line)
    → (so_far : CountedSoFar gateway size waiting counts done latest)
    → Standing IsSoloReport false (HasAnswered after_it (done ++ line ∷ []) line.moment) later text (done ++ line ∷ [])
    so_far.sent
    → CountedSoFar after_it later text counts (done ++ line ∷ []) line.moment
counts_open gateway after_it size later waiting text counts done latest line so_far standing =
    record { sent = so_far.sent; standing = standing; counted = so_far.counted }

-- or its text is counted
pub counts_closed : (gateway after_it : Solo) (size later : Size) (waiting text : List ℕ) (counts new : EntryCounts)
    (done : List Line) (latest : ℕ) (line : Line)
    → (so_far : CountedSoFar gateway size waiting counts done latest)
    → Standing IsSoloReport false (HasAnswered after_it (done ++ line ∷ []) line.moment) later [] (done ++ line ∷ [])
    (so_far.sent ++ text)
    → CountsMore counts new text
    → CountedSoFar after_it later [] new (done ++ line ∷ []) line.moment
counts_closed gateway after_it size later waiting text counts new done latest line so_far standing grows = record {
  sent = so_far.sent ++ text;
  standing = standing;
  counted = counts_more gateway size waiting counts new done latest so_far text grows;
}

pub counting_begins : (gateway : Solo) (size : Size) (waiting : List ℕ) (counts : EntryCounts)
    (seed subs lines : ℕ) → 1 ≤ subs → subs ≤ 65533 → lines ≤ 100000
    → Standing IsSoloReport false (HasAnswered gateway [] 0) size waiting [] [] → counts ≡ nothing
    → Counting gateway size waiting counts (made seed subs lines) (made seed subs lines)
counting_begins gateway size waiting counts seed subs lines some slots most standing zero = record {
  done = [];
  latest = 0;
  so_far = record { sent = []; standing = standing; counted = zero };
  parts = refl;
  in_order = made_in_order seed subs lines some slots most;
  few = omega (arith, length-made seed subs lines, slots, most);
}

-- the line that is found is the next one
pub next_is : {left rest : List Line} {found : Option Line} {line : Line} → found ≡ Some line
    → MatchOption found ((left ≡ []) × (rest ≡ [])) (λ line. left ≡ line ∷ rest) → left ≡ line ∷ rest
next_is {left} {rest} {found} {line} is made =
    at_some ((left ≡ []) × (rest ≡ [])) (λ line. left ≡ line ∷ rest) found line is made

-- and stands in order
pub next_in_order : {gateway : Solo} {size : Size} {waiting : List ℕ} {counts : EntryCounts}
    {all left rest : List Line} {line : Line} → (so_far : Counting gateway size waiting counts all left)
    → left ≡ line ∷ rest
    → IsNextOf so_far.done so_far.latest line × AreInOrder (length so_far.done + 1) so_far.latest (line ∷ rest)
next_in_order {gateway} {size} {waiting} {counts} {all} {left} {rest} {line} so_far is =
    let in_order = subst (AreInOrder (length so_far.done + 1) so_far.latest) is so_far.in_order in
    (record { numbered = in_order.0; late = in_order.1; few = omega (arith, so_far.few) }, in_order)

pub counting_goes_on : (gateway after_it : Solo) (size later : Size) (waiting text : List ℕ)
    (counts new : EntryCounts) (all left rest : List Line) (line : Line)
    → (so_far : Counting gateway size waiting counts all left) → left ≡ line ∷ rest
    → AreInOrder (length so_far.done + 1) so_far.latest (line ∷ rest)
    → CountedSoFar after_it later text new (so_far.done ++ line ∷ []) line.moment
    → Counting after_it later text new all rest
counting_goes_on gateway after_it size later waiting text counts new all left rest line so_far is in_order next =
    let more : length (so_far.done ++ line ∷ []) ≡ length so_far.done + 1 = length-append so_far.done (line ∷ []) in
    record {
      done = so_far.done ++ line ∷ [];
      latest = line.moment;
      so_far = next;
      parts = so_far.parts ∙ ap (λ l. so_far.done ++ l) is ∙ sym (append_assoc so_far.done (line ∷ []) rest);
      in_order = subst (λ n. AreInOrder (n + 1) line.moment rest) (sym more) in_order.3;
      few = omega (arith, so_far.few, ap length is, more);
    }

-- no line is left
pub all_done : (gateway : Solo) (size : Size) (waiting : List ℕ) (counts : EntryCounts) (all left : List Line)
    → (so_far : Counting gateway size waiting counts all left) → left ≡ [] → all ≡ so_far.done
all_done gateway size waiting counts all left so_far none =
    so_far.parts ∙ ap (λ l. so_far.done ++ l) none ∙ append-nil so_far.done

pub counting_ends : (gateway : Solo) (size : Size) (waiting text : List ℕ) (counts new : EntryCounts)
    (seed subs lines : ℕ) (left : List Line) → 1 ≤ subs → subs ≤ 65533 → lines ≤ 100000
    → (so_far : Counting gateway size waiting counts (made seed subs lines) left) → left ≡ []
    → IsDue IsSoloReport false Ended so_far.done (so_far.so_far.sent ++ text)
    → CountsMore counts new text
    → IsCounted (made seed subs lines) new
counting_ends gateway size waiting text counts new seed subs lines left some slots most so_far none due grows =
    let all = made seed subs lines in
    let is = all_done gateway size waiting counts all left so_far none in
    record {
      report = so_far.so_far.sent ++ text;
      of_trace = subst (λ input. IsText IsSoloReport false input (so_far.so_far.sent ++ text))
          (ap (λ l. record { lines = l; stop = ended }) (sym is)
          ∙ sym (made_is_read seed subs lines some slots most)) due;
      counted = counts_more gateway size waiting counts new so_far.done so_far.latest so_far.so_far text grows;
    }
