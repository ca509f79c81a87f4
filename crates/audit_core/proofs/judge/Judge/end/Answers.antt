use Rattle.std.proofs.Common.{◌≡◌, ◌<◌, ◌∙◌, length, sym, subst, arith}
use Rattle.lawful_run.specs.Run.{no_events}
use Rattle.audit_core.specs.Belonging.{AreThose, placed_in}
use Rattle.audit_core.specs.Judged.{Behind, BelongToNone, asked_of, told_of}
use Rattle.audit_core.specs.Ranks.{rank_of}
use Rattle.audit_core.specs.Sentences.{behind_epochs, made_report}
use Rattle.audit_core.specs.declared.sentence.Sentence.TheVariants as of
use Rattle.audit_core.proofs.EndSteps.{due_all, ended_six, found_low, opens_below}
use Rattle.audit_core.proofs.FoundAll.{found_all}
use Rattle.audit_core.proofs.JudgeSteps.{not_wanted}
use Rattle.packet_steps.proofs.ResultLemmas.{on_ok}
use Rattle.audit_core.proofs.judge.Judge.end.Goals as goal

pub returns-then-not-wants : goal.returns-then-not-wants
returns-then-not-wants c = λ own told end runs_are.
    found_low own c.args.self.now 6
    (not_wanted c.wants.result (rank_of of.Effects) (asked_of c.args.self.now.broken) c.wants.ensures
    c.if-not-wants.true)
    (ended_six own told c.args.report.now c.args.subscribers.now c.args.self.now end)

pub entries_of-requires : goal.entries_of-requires
entries_of-requires c =
    let own = c.requires.0 in
    let end = c.requires.2 in
    (own.made, end.held.texts, length own.made, end.held.taken, end.held.all, c.requires.3)

pub judge_opens-requires : goal.judge_opens-requires
judge_opens-requires c =
    let end = c.requires.2 in
    let low : rank_of of.Numbers < asked_of c.args.self.now.broken =
    omega (arith, c.wants.ensures.0 c.if-not-wants.false) in
    let histories = behind_epochs no_events c.requires.1 in
    opens_below (length c.args.subscribers.now) histories c.as_slice-due.result.now
    (c.as_slice-due.ensures.value ∙ c.in_ok-opens.ensures histories (end.stands low).stand)

pub judge_last-requires : goal.judge_last-requires
judge_last-requires c =
    let own = c.requires.0 in
    let told = c.requires.1 in
    let end = c.requires.2 in
    let low : rank_of of.Numbers < asked_of c.args.self.now.broken =
    omega (arith, c.wants.ensures.0 c.if-not-wants.false) in
    let histories = behind_epochs no_events told in
    let belong : BelongToNone own c.as_slice-entries.result.now =
    subst (λ es. AreThose es (placed_in own.made (length own.made) own.entries)) (sym c.as_slice-entries.ensures.value)
    (c.in_ok-read.ensures own.made end.held.texts own.entries (length own.made) end.held.taken end.held.are
    c.requires.3) in
    let due_is : c.as_slice-due.result.now ≡ (made_report own.slots (told_of own)).opens =
    due_all own told c.args.subscribers.now c.args.self.now.lines c.as_slice-due.result.now end.judged.told_parts
    (end.stands low) (c.as_slice-due.ensures.value ∙ c.in_ok-opens.ensures histories (end.stands low).stand) in (
      own,
      end.held,
      belong,
      c.in_ok-judge_opens.ensures own belong due_is
          (c.in_ok-beyond_rows.ensures own belong
          (c.in_ok-beyond_effects.ensures own belong
          (ended_six own told c.args.report.now c.args.subscribers.now c.args.self.now end))),
    )

pub returns : goal.returns
returns c = λ own told end runs_are.
    let low : rank_of of.Numbers < asked_of c.args.self.now.broken =
    omega (arith, c.wants.ensures.0 c.if-not-wants.false) in
    let histories = behind_epochs no_events told in
    let belong : BelongToNone own c.as_slice-entries.result.now =
    subst (λ es. AreThose es (placed_in own.made (length own.made) own.entries)) (sym c.as_slice-entries.ensures.value)
    (c.in_ok-read.ensures own.made end.held.texts own.entries (length own.made) end.held.taken end.held.are
    runs_are) in
    let due_is : c.as_slice-due.result.now ≡ (made_report own.slots (told_of own)).opens =
    due_all own told c.args.subscribers.now c.args.self.now.lines c.as_slice-due.result.now end.judged.told_parts
    (end.stands low) (c.as_slice-due.ensures.value ∙ c.in_ok-opens.ensures histories (end.stands low).stand) in
    on_ok c.judge_last.result
    (λ partly. found_all own (Behind own) c.judge_last.new.self.broken partly)
    (c.judge_last.ensures own end.held belong due_is
    (c.in_ok-judge_opens.ensures own belong due_is
    (c.in_ok-beyond_rows.ensures own belong
    (c.in_ok-beyond_effects.ensures own belong
    (ended_six own told c.args.report.now c.args.subscribers.now c.args.self.now end)))))
