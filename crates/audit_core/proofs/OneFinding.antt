-- Lines have one finding.
use Rattle.std.proofs.Common.{◌≡◌, ℕ, zero, suc, ◌<◌, List, inl, inr, Option, None, Some, refl, sym, ap, ◌∙◌, subst, arith, length}
use Rattle.report_lines.specs.declared.entry.Entry.{Entry}
use Rattle.demux.specs.Trace.{book_of}
use Rattle.lawful_run.specs.Setup.{Setup, slices_of}
use Rattle.lawful_run.specs.Trace.{epochs_told}
use Rattle.audit_core.proofs.HavingLines.{traces_have_lines}
use Rattle.audit_core.proofs.LawLemmas.{sentences_are_the_run}
use Rattle.audit_core.specs.Said.{report_texts, trace_said}
use Rattle.pc_outside.specs.Texts.{Text}
use Rattle.audit_core.proofs.SaidLemmas.{no_other, one_list}
use Rattle.audit_core.specs.Findings.{Breaks, Confirmed, Finds, IsOf, Refuted}
use Rattle.trace_lines.specs.Input.{Input}

-- a lawful run breaks no sentence
no_break : (setup : Setup) (trace : Input) (entries : List Entry) (k : ℕ) → IsOf setup trace entries
    → Breaks setup trace entries k → ⊥
no_break setup trace entries k lawful breaks =
    breaks.0.broken ((sentences_are_the_run setup (length (book_of trace.lines)) (epochs_told (slices_of setup) trace) entries
    (traces_have_lines (slices_of setup) trace)).1 lawful k)

same_number : (k j : ℕ) → (k < j → ⊥) → (j < k → ⊥) → k ≡ j
same_number zero zero less more = refl
same_number zero (suc j) less more = absurd (less (omega arith))
same_number (suc k) zero less more = absurd (more (omega arith))
same_number (suc k) (suc j) less more =
    ap suc (same_number k j (λ is. less (omega (arith, is))) (λ is. more (omega (arith, is))))

-- there is one first sentence that is broken
one_break : (setup : Setup) (trace : Input) (entries : List Entry) (k j : ℕ) → Breaks setup trace entries k
    → Breaks setup trace entries j → k ≡ j
one_break setup trace entries k j one other =
    same_number k j (λ less. one.0.broken (other.0.before k less)) (λ more. other.0.broken (one.0.before j more))

confirmed_refuted : (setup : Setup) (texts : List Text) (k : ℕ) → Confirmed setup texts → Refuted setup texts k → ⊥
confirmed_refuted setup texts k one other =
    no_break setup (trace_said texts) one.entries k one.lawful
    (subst (λ entries. Breaks setup (trace_said texts) entries k)
    (one_list (report_texts texts) other.entries one.entries other.are one.are) other.broken)

confirmed_clash : (setup : Setup) (texts : List Text) (k : ℕ) → Confirmed setup texts → Finds setup texts (Some k) → ⊥
confirmed_clash setup texts k one (inl other) = no_other (report_texts texts) one.entries one.are other.1
confirmed_clash setup texts k one (inr other) = confirmed_refuted setup texts k one other

both_refuted : (setup : Setup) (texts : List Text) (k j : ℕ) → Refuted setup texts k → Refuted setup texts j → k ≡ j
both_refuted setup texts k j one other =
    one_break setup (trace_said texts) one.entries k j one.broken
    (subst (λ entries. Breaks setup (trace_said texts) entries j)
    (one_list (report_texts texts) other.entries one.entries other.are one.are) other.broken)

both_some : (setup : Setup) (texts : List Text) (k j : ℕ) → Finds setup texts (Some k) → Finds setup texts (Some j) → k ≡ j
both_some setup texts k j (inl one) (inl other) = one.0 ∙ sym other.0
both_some setup texts k j (inl one) (inr other) = absurd (no_other (report_texts texts) other.entries other.are one.1)
both_some setup texts k j (inr one) (inl other) = absurd (no_other (report_texts texts) one.entries one.are other.1)
both_some setup texts k j (inr one) (inr other) = both_refuted setup texts k j one other

pub one_finding : (setup : Setup) (texts : List Text) (one other : Option ℕ) → Finds setup texts one → Finds setup texts other
    → one ≡ other
one_finding setup texts None None finds also = refl
one_finding setup texts None (Some j) finds also = absurd (confirmed_clash setup texts j finds also)
one_finding setup texts (Some k) None finds also = absurd (confirmed_clash setup texts k also finds)
one_finding setup texts (Some k) (Some j) finds also = ap Some (both_some setup texts k j finds also)
