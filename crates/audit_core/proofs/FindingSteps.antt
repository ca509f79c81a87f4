-- What is found of a case is what is found of the lines of an input.
use Rattle.std.proofs.Common.{◌≡◌, ℕ, zero, suc, ◌+◌, ◌≤◌, ◌↔◌, Option, None, Some, List, length, inl, inr, refl, arith}
use Rattle.demux.specs.Trace.{book_of}
use Rattle.report_lines.specs.declared.entry.Entry.{Entry}
use Rattle.lawful_run.specs.Setup.{Setup, slices_of}
use Rattle.lawful_run.specs.Trace.{epochs_told}
use Rattle.trace_lines.specs.Input.{Input}
use Rattle.audit_core.specs.Findings.{Breaks, IsOf}
use Rattle.audit_core.specs.Judged.{Case, HasFound}
use Rattle.audit_core.specs.Lawful.{AllSentences}
use Rattle.audit_core.specs.Ranks.{number_of}
use Rattle.audit_core.specs.Refuting.{FindsAt, at_report}
use Rattle.audit_core.specs.Said.{AreEntries, EndsAtNone, report_texts, trace_said}
use Rattle.pc_outside.specs.Texts.{Text}
use Rattle.audit_core.specs.Why.{IsBreak}
use Rattle.audit_core.specs.declared.sentence.Refutation.{Refutation}
use Rattle.audit_core.specs.declared.sentence.Sentence.{Sentence as Asked}
use Rattle.audit_core.specs.declared.sentence.Sentence.TheVariants as of
use Rattle.audit_core.specs.declared.telling.Break.{Break}
use Rattle.audit_core.proofs.BrokenLemmas.{breaks_are_broken}
use Rattle.audit_core.proofs.HavingLines.{traces_have_lines}
use Rattle.audit_core.proofs.HeardLemmas.{has_none}
use Rattle.audit_core.proofs.LawLemmas.{sentences_are_the_run}
use Rattle.audit_core.proofs.SaidLemmas.{no_other}

-- the case of a trace and the entries of its report
abbrev pub case_of : Setup → Input → List Entry → Case
case_of setup trace entries = record {
  setup = setup;
  slots = length (book_of trace.lines);
  made = epochs_told (slices_of setup) trace;
  entries = entries;
}

number_most : (s : Asked) → number_of s ≤ 6
number_most of.Entries = omega arith
number_most of.Answers = omega arith
number_most of.Outside = omega arith
number_most of.Numbers = omega arith
number_most of.Counts = omega arith
number_most of.Gateway = omega arith
number_most of.Effects = omega arith
number_most of.Rows = omega arith
number_most of.Opens = omega arith
number_most of.Waits = omega arith
number_most of.Order = omega arith

module _ (setup : Setup) (trace : Input) (entries : List Entry) where
  abbrev own : Case
  own = case_of setup trace entries

  -- a break of no sentence there is none
  some_number : (k : ℕ) (told : Break) → IsBreak own.setup own.slots own.made own.entries k told → 1 ≤ k
  some_number zero told is = absurd is
  some_number (suc k) told is = omega arith

  breaks_so : (found : Refutation) → HasFound own (Some found) → Breaks setup trace entries (number_of found.sentence)
  breaks_so found has = (
    record {
      before = has.holds;
      broken = breaks_are_broken setup own.slots own.made entries (number_of found.sentence) found.place has.broken;
    },
    some_number (number_of found.sentence) found.place has.broken,
    number_most found.sentence,
  )

  all_hold : HasFound own None → AllSentences setup own.slots own.made entries
  all_hold has zero = has.holds zero (omega arith)
  all_hold has (suc zero) = has.holds 1 (omega arith)
  all_hold has (suc (suc zero)) = has.holds 2 (omega arith)
  all_hold has (suc (suc (suc zero))) = has.holds 3 (omega arith)
  all_hold has (suc (suc (suc (suc zero)))) = has.holds 4 (omega arith)
  all_hold has (suc (suc (suc (suc (suc zero))))) = has.holds 5 (omega arith)
  all_hold has (suc (suc (suc (suc (suc (suc zero)))))) = has.holds 6 (omega arith)
  all_hold has (suc (suc (suc (suc (suc (suc (suc k))))))) = tt

  lawful_so : HasFound own None → IsOf setup trace entries
  lawful_so has =
      (sentences_are_the_run setup own.slots own.made entries (traces_have_lines (slices_of setup) trace)).0
      (all_hold has)

  not_lawful : (found : Refutation) → HasFound own (Some found) → IsOf setup trace entries → ⊥
  not_lawful found has lawful =
      (breaks_so found has).0.broken
      ((sentences_are_the_run setup own.slots own.made entries (traces_have_lines (slices_of setup) trace)).1 lawful
      (number_of found.sentence))

  pub found_yes : (found : Option Refutation) → HasFound own found → (found ≡ None) ↔ IsOf setup trace entries
  found_yes None has = ((λ is. lawful_so has), (λ lawful. refl))
  found_yes (Some found) has = ((λ is. absurd (cc)), (λ lawful. absurd (not_lawful found has lawful)))

pub found_at : (setup : Setup) (texts : List Text) (entries : List Entry) (found : Option Refutation)
    → AreEntries (report_texts texts) entries → HasFound (case_of setup (trace_said texts) entries) found
    → FindsAt setup texts found
found_at setup texts entries None are has = record {
  entries = entries;
  are = are;
  lawful = lawful_so setup (trace_said texts) entries has;
}
found_at setup texts entries (Some found) are has = inr (record {
  entries = entries;
  are = are;
  breaks = breaks_so setup (trace_said texts) entries found has;
  is = has.broken;
})

-- a line that is no entry
pub none_at : (setup : Setup) (texts : List Text) (entries : List Entry) (place : Break)
    → EndsAtNone (report_texts texts) entries → place ≡ at_report (length entries + 1)
    → FindsAt setup texts (Some (record { sentence = of.Entries; place = place }))
none_at setup texts entries place ends is = inl (refl, record { entries = entries; ends = ends; is = is })

pub none_yes : (setup : Setup) (texts : List Text) (entries other : List Entry) (place : Break)
    → EndsAtNone (report_texts texts) entries → AreEntries (report_texts texts) other
    → let found : Option Refutation = Some (record { sentence = of.Entries; place = place }) in
    (found ≡ None) ↔ IsOf setup (trace_said texts) other
none_yes setup texts entries other place ends are = (
  (λ is. absurd (cc)),
  (λ lawful. absurd (no_other (report_texts texts) other are (has_none (report_texts texts) entries ends))),
)
