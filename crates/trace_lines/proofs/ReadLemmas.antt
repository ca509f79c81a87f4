-- An answer that is what the text means, or out of memory, in the words of lines, texts and faults.
use Rattle.std.proofs.Common.{◌≡◌, ℕ, ◌≤◌, ◌⊎◌, List, length, refl, sym, ap, ◌∙◌, Option, Some, None, Result, Ok, Err, inl, inr, if◌then◌else◌, Bool, true, false}
use Rattle.std.specs.Prelude.{IfOk, IfErr, IfSome}
use Rattle.std.specs.Result.{result_err}
use Rattle.text_fields.specs.Fields.{fields_of, has_empty_field}
use Rattle.trace_lines.specs.declared.bad.LineBad.{LineBad}
use Rattle.trace_lines.specs.declared.bad.LineBad.TheVariants.{NoMemory, Field}
use Rattle.trace_lines.specs.Line.{Line}
use Rattle.trace_lines.specs.Text.{Means, line_text}
use Rattle.wire_octets.specs.Memory.{OrNoMemory}
use Rattle.trace_lines.specs.Meaning.{line_meaning, line_of_fields}
use Rattle.trace_lines.specs.Refusal.{first_fault}
use Rattle.trace_lines.proofs.FaultLemmas.{fault_is}
use Rattle.trace_lines.proofs.MeaningLemmas.{meaning_taken, meaning_given, read_some, length-line_text}

pub means_by : (answer : Result Line LineBad) (least number : ℕ) (text : List ℕ)
    → IfOk answer (λ line. line_meaning least number text ≡ Ok line) → IfOk answer (λ line. Means text line)
means_by (Ok line) least number text read = (meaning_given least number text line read).0
means_by (Err why) least number text read = tt

pub numbered_by : (answer : Result Line LineBad) (least number : ℕ) (text : List ℕ)
    → IfOk answer (λ line. line_meaning least number text ≡ Ok line) → IfOk answer (λ line. line.number ≡ number)
numbered_by (Ok line) least number text read = (meaning_given least number text line read).1
numbered_by (Err why) least number text read = tt

pub in_order_by : (answer : Result Line LineBad) (least number : ℕ) (text : List ℕ)
    → IfOk answer (λ line. line_meaning least number text ≡ Ok line) → IfOk answer (λ line. least ≤ line.moment)
in_order_by (Ok line) least number text read = (meaning_given least number text line read).2
in_order_by (Err why) least number text read = tt

pub as_long_by : (answer : Result Line LineBad) (least number : ℕ) (text : List ℕ)
    → IfOk answer (λ line. line_meaning least number text ≡ Ok line)
    → IfOk answer (λ line. length (line_text line) ≡ length text)
as_long_by (Ok line) least number text read = length-line_text text line (meaning_given least number text line read).0
as_long_by (Err why) least number text read = tt

abbrev Refuses : ℕ → ℕ → List ℕ → LineBad → Type 0
Refuses least number text why = (why ≡ NoMemory) ⊎ (line_meaning least number text ≡ Err why)

pub only_by : (answer : Result Line LineBad) (least number : ℕ) (text : List ℕ)
    → IfOk answer (λ line. line_meaning least number text ≡ Ok line) → IfErr answer (Refuses least number text)
    → (line : Line) → Means text line → line.number ≡ number → least ≤ line.moment
    → OrNoMemory answer (Ok line) NoMemory
only_by (Ok other) least number text read refused line means numbered above =
    let meant = sym (ap (λ n. line_meaning least n text) numbered) ∙ meaning_taken least text line means above in
    inl (sym read ∙ meant)
only_by (Err why) least number text read refused line means numbered above =
    let meant = sym (ap (λ n. line_meaning least n text) numbered) ∙ meaning_taken least text line means above in
    elim refused [ inl none ↦ inr (ap Err none) | inr is ↦ cc ]

pub refused_by : (answer : Result Line LineBad) (least number : ℕ) (text : List ℕ)
    → IfErr answer (Refuses least number text)
    → IfErr answer (λ why. (why ≡ NoMemory) ⊎ (first_fault least text ≡ Some why))
refused_by (Ok line) least number text refused = tt
refused_by (Err why) least number text refused =
    elim refused [ inl none ↦ inl none | inr is ↦ inr (sym (fault_is least number text) ∙ ap result_err is) ]

fault_at : (fault : Option LineBad) (answer meant : Result Line LineBad) → result_err meant ≡ fault
    → IfOk answer (λ line. meant ≡ Ok line)
    → IfErr answer (λ why. (why ≡ NoMemory) ⊎ (meant ≡ Err why))
    → IfSome fault (λ why. OrNoMemory answer (Err why) NoMemory)
fault_at None answer meant is read refused = tt
fault_at (Some why) (Ok line) meant is read refused = let none : result_err meant ≡ None = ap result_err read in cc
fault_at (Some why) (Err other) meant is read refused =
    elim refused [
      | inl none ↦ inr (ap Err none)
      | inr told ↦ let same : Some other ≡ Some why = sym (ap result_err told) ∙ is in inl (cc)
    ]

pub fault_by : (answer : Result Line LineBad) (least number : ℕ) (text : List ℕ)
    → IfOk answer (λ line. line_meaning least number text ≡ Ok line) → IfErr answer (Refuses least number text)
    → IfSome (first_fault least text) (λ why. OrNoMemory answer (Err why) NoMemory)
fault_by answer least number text read refused =
    fault_at (first_fault least text) answer (line_meaning least number text) (fault_is least number text) read refused

-- where no field is empty the fields decide
pub whole_read : (least number : ℕ) (text : List ℕ) (line : Line)
    → line_of_fields least number (fields_of text) ≡ Ok line
    → line_meaning least number text ≡ Ok line
whole_read least number text line read = read_some least number text line read

refusal_at : (b : Bool) (read : Result Line LineBad) (why : LineBad) → (why ≡ NoMemory) ⊎ (read ≡ Err why)
    → ((if b then Field else why) ≡ NoMemory) ⊎ ((if b then Err Field else read) ≡ Err (if b then Field else why))
refusal_at true read why refused = inr refl
refusal_at false read why refused = refused

pub whole_refused : (least number : ℕ) (text : List ℕ) (why : LineBad)
    → (why ≡ NoMemory) ⊎ (line_of_fields least number (fields_of text) ≡ Err why)
    → ((if has_empty_field text then Field else why) ≡ NoMemory)
    ⊎ (line_meaning least number text ≡ Err (if has_empty_field text then Field else why))
whole_refused least number text why refused =
    refusal_at (has_empty_field text) (line_of_fields least number (fields_of text)) why refused
