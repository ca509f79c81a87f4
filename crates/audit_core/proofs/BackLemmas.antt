-- Where all six sentences hold, the entries are those of a lawful run.
use Rattle.std.proofs.Common.{◌≡◌, ℕ, zero, suc, ◌+◌, List, [], ◌∷◌, length, take, drop, refl, sym, ap, ◌∙◌, subst}
use Rattle.demux.specs.Trace.{Meaning}
use Rattle.report_lines.specs.declared.entry.Entry.{Entry}
use Rattle.report_lines.specs.declared.entry.LineEntry.{LineEntry}
use Rattle.lawful_run.specs.Answers.{AnswersAll}
use Rattle.lawful_run.specs.Setup.{Setup}
use Rattle.lawful_run.specs.LinesTold.{LineTold, lines_told}
use Rattle.lawful_run.specs.Merging.{Histories, events_in, behind}
use Rattle.lawful_run.specs.Outcomes as made_of
use Rattle.lawful_run.specs.Report.{EpochReport}
use Rattle.lawful_run.specs.Run.{told_in, IsEpochRun, AreEpochRuns, by_slot, no_events, behind_all}
use Rattle.lawful_run.specs.Telling.{reply_told, verdict_told}
use Rattle.audit_core.proofs.LineKinds.{told_entries}
use Rattle.audit_core.proofs.TogetherLemmas.{numbers_of_slots, counts_of_slots}
use Rattle.audit_core.specs.Entries.{line_entries, in_line_order, cut, all_lines}
use Rattle.audit_core.specs.Lawful.{AllSentences, IsLawful}
use Rattle.audit_core.specs.Sentences.{told_epochs, EachEpoch, AreNumbered, CountsAreLawful, AreOfTheGateway, made_epoch, made_epochs, made_report, behind_epochs, WaitsAreLawful}
use Rattle.audit_core.proofs.LineOrder.{entries_told, answers_split}

module _ (setup : Setup) (slots : ℕ) where
  -- an epoch with these entries of lines
  abbrev pub epoch_with : Histories → List Meaning → List LineEntry → EpochReport
  epoch_with before now entries = record {
    lines = entries;
    effects = by_slot slots (λ slot.
        made_of.effects slot (before slot) (events_in (before slot) (lines_told now entries) slot));
    rows = by_slot slots (λ slot.
        made_of.rows slot (before slot) (events_in (before slot) (lines_told now entries) slot));
  }

  pub made_with : (first : ℕ) (before : Histories) (now : List Meaning) (entries : List LineEntry)
      → AnswersAll first now entries
      → made_epoch slots before (lines_told now entries) ≡ epoch_with before now entries
  made_with first before now entries answers =
      ap (λ (xs : List LineEntry). record {
        lines = xs;
        effects = (epoch_with before now entries).effects;
        rows = (epoch_with before now entries).rows;
      }) (entries_told first now entries answers)

  pub run_with : (first : ℕ) (before : Histories) (now : List Meaning) (entries : List LineEntry)
      → AnswersAll first now entries → AreNumbered before (lines_told now entries)
      → CountsAreLawful before (lines_told now entries) → AreOfTheGateway before (lines_told now entries)
      → WaitsAreLawful setup before (lines_told now entries)
      → IsEpochRun setup slots first before now (epoch_with before now entries)
  run_with first before now entries answers numbers counts gateway waits =
      let numbered = (numbers_of_slots before first now entries answers).1 numbers in
      let risen = (counts_of_slots 1 1 1 before first now entries answers).1 counts in
      record {
        one_each = answers;
        command_numbers = numbered.command_numbers;
        packet_numbers = numbered.packet_numbers;
        counts_rise = risen.counts_rise;
        bounds = waits.counts;
        replies = λ slot. sym (told_entries (reply_told slot) first now entries answers) ∙ gateway.replies slot;
        verdicts = λ slot. sym (told_entries (verdict_told slot) first now entries answers) ∙ gateway.verdicts slot;
        effects = refl;
        rows = refl;
        refusals = waits.refusals;
        parking = waits.parking;
      }

  -- epoch after epoch
  runs_back : (first : ℕ) (before : Histories) (made : List (List Meaning)) (entries : List LineEntry)
      → AnswersAll first (all_lines made) entries → EachEpoch AreNumbered before (cut made entries)
      → EachEpoch CountsAreLawful before (cut made entries) → EachEpoch AreOfTheGateway before (cut made entries)
      → EachEpoch (WaitsAreLawful setup) before (cut made entries)
      → AreEpochRuns setup slots first before made (made_epochs slots before (cut made entries))
  runs_back first before [] entries answers numbers counts gateway waits = tt
  runs_back first before (now ∷ made) entries answers numbers counts gateway waits =
      let parts = answers_split first (first + length now) now (all_lines made) entries refl answers in
      let own = take (length now) entries in
      let others =
      made_epochs slots (behind before (lines_told now own)) (cut made (drop (length now) entries)) in
      let P : EpochReport → Type 0 = λ told. IsEpochRun setup slots first before now told
      × AreEpochRuns setup slots (first + length now) (behind before (told_in now told)) made others in
      subst P (sym (made_with first before now own parts.0)) (
        run_with first before now own parts.0 numbers.0 counts.0 gateway.0 waits.0,
        runs_back (first + length now) (behind before (lines_told now own)) made (drop (length now) entries) parts.1
            numbers.1 counts.1 gateway.1 waits.1,
      )

  behind_back : (first : ℕ) (before : Histories) (made : List (List Meaning)) (entries : List LineEntry)
      → AnswersAll first (all_lines made) entries
      → behind_all before made (made_epochs slots before (cut made entries)) ≡ behind_epochs before (cut made entries)
  behind_back first before [] entries answers = refl
  behind_back first before (now ∷ made) entries answers =
      let parts = answers_split first (first + length now) now (all_lines made) entries refl answers in
      let own = take (length now) entries in
      let others =
      made_epochs slots (behind before (lines_told now own)) (cut made (drop (length now) entries)) in
      ap (λ (lines : List LineTold). behind_all (behind before lines) made others)
      (ap (lines_told now) (entries_told first now own parts.0))
      ∙ behind_back (first + length now) (behind before (lines_told now own)) made (drop (length now) entries) parts.1

  pub lawful_back : (made : List (List Meaning)) (entries : List Entry) → AllSentences setup slots made entries
      → IsLawful setup slots made entries
  lawful_back made entries all =
      let ordered = in_line_order (length (all_lines made)) (line_entries entries) in
      let one = all (suc zero) in
      let six = all (suc (suc (suc (suc (suc (suc zero)))))) in (
        made_report slots (told_epochs made entries),
        record {
          epochs = runs_back 1 no_events made ordered one.answers (all (suc (suc zero))) (all (suc (suc (suc zero))))
              (all (suc (suc (suc (suc zero))))) six.waits;
          opens = ap (λ (now : Histories). by_slot slots (λ slot. made_of.opens slot (now slot)))
              (sym (behind_back 1 no_events made ordered one.answers));
        },
        six.order,
      )
