-- The sentences of an epoch, together.
use Rattle.std.proofs.Common.{◌≡◌, ℕ, ◌+◌, ◌∙◌, List, length}
use Rattle.report_lines.specs.Records.{Effected}
use Rattle.report_lines.specs.declared.entry.ChargeEntry.{ChargeEntry}
use Rattle.slot_execution.specs.Replaying.{effects_told, rows_told}
use Rattle.audit_core.specs.Entries.{all_lines}
use Rattle.audit_core.specs.Judged.{Case, Epoch, IsJudgedTo, IsLedTo, IsTold, led_here, offered}
use Rattle.audit_core.specs.Setups.{setup_of}
use Rattle.audit_core.specs.declared.judge.Judge.{Judge}
use Rattle.audit_core.specs.declared.report.Report.{Report}
use Rattle.audit_core.specs.declared.report.Stood.{Stood}
use Rattle.audit_core.specs.declared.sentence.Sentence.TheVariants as of
use Rattle.audit_core.specs.declared.setup.Setup.{Setup}
use Rattle.audit_core.specs.declared.slots.Played.{Played}
use Rattle.audit_core.specs.declared.told_line.ToldLine.{ToldLine}
use Rattle.audit_core.specs.declared.walking.Walked.{Walked}
use Rattle.audit_core.proofs.JudgeSteps.{counts_step, gateway_step, judged_on, numbers_step, opens_pass, waits_step}

module _ (own : Case) (at : Epoch) (lines : List ToldLine) (report : Report) (entries : List Stood)
    (told : IsTold own at lines report entries) (slots : ℕ) (setup : Setup) (walked : Walked) (played : Played)
    (led : IsLedTo own at slots setup walked played) where
  abbrev first : ℕ
  first = length (all_lines at.prefix) + 1

  pub judged_six : (j0 j1 j2 j3 : Judge)
      → j1.broken ≡ offered j0.broken of.Numbers walked.numbers → j1.entries ≡ j0.entries
      → j2.broken ≡ offered j1.broken of.Counts played.counts → j2.entries ≡ j1.entries
      → j3.broken ≡ offered j2.broken of.Gateway played.gateway → j3.entries ≡ j2.entries
      → IsJudgedTo own at 3 j0 → IsJudgedTo own at 6 j3
  judged_six j0 j1 j2 j3 broken1 same1 broken2 same2 broken3 same3 judged =
      let epoch = told.epoch in
      let four = judged_on own at 3 of.Numbers walked.numbers j0 j1 broken1 same1
      (numbers_step own at epoch.parts epoch.told_parts epoch.as_many first told.answered j0.broken walked.numbers
      led.walks.numbers_some led.walks.numbers_none) judged in
      let five = judged_on own at 4 of.Counts played.counts j1 j2 broken2 same2
      (counts_step own at epoch.parts epoch.told_parts epoch.as_many j1.broken played.counts led.plays.counts_some
      led.plays.counts_none) four in
      judged_on own at 5 of.Gateway played.gateway j2 j3 broken3 same3
      (gateway_step own at epoch.parts epoch.told_parts epoch.as_many first told.answered j2.broken played.gateway
      led.plays.gateway_some led.plays.gateway_none) five

  pub judged_ten : (j8 j10 : Judge) → j10.broken ≡ offered j8.broken of.Waits walked.waits → j10.entries ≡ j8.entries
      → IsJudgedTo own at 8 j8 → IsJudgedTo own at 10 j10
  judged_ten j8 j10 broken same judged =
      let epoch = told.epoch in
      let nine : IsJudgedTo own at 9 j8 = record {
        partly = opens_pass own at epoch.parts epoch.told_parts epoch.as_many j8.broken judged.partly;
        counted = judged.counted;
      } in
      judged_on own at 9 of.Waits walked.waits j8 j10 broken same
      (waits_step own at epoch.parts epoch.told_parts epoch.as_many first told.answered (setup_of setup) j8.broken
      walked.waits led.setup_is led.walks.waits_some led.walks.waits_none) nine

  -- what its lines lead to, as it was played
  pub effects_led : (effects : List Effected) → effects ≡ effects_told played.effects.items
      → effects ≡ (led_here own at).effects
  effects_led effects is = is ∙ led.plays.effects

  pub rows_led : (rows : List ChargeEntry) → rows ≡ rows_told played.rows.items → rows ≡ (led_here own at).rows
  rows_led rows is = is ∙ led.plays.rows
