use Rattle.std.proofs.Common.{ℕ, List, sym, ap, ◌∙◌, true≢false}
use Rattle.epoch_schedule.specs.Waiting.{is_in}
use Rattle.epoch_schedule.proofs.Indices.{called_more, in_own}
use Rattle.epoch_schedule.proofs.roster.note_called.Goals as goal

pub returns-in_ok-push-clause-kept : goal.returns-in_ok-push-clause-kept
returns-in_ok-push-clause-kept c halves only i half here off =
    called_more halves c.args.called.now.items c.args.index only i half here
    (ap (λ (xs : List ℕ). is_in xs i) (sym c.in_ok-push.ensures.items) ∙ off)

pub returns-in_ok-push-clause-own : goal.returns-in_ok-push-clause-own
returns-in_ok-push-clause-own c off =
    absurd (true≢false
    (sym (ap (λ (xs : List ℕ). is_in xs c.args.index) c.in_ok-push.ensures.items
    ∙ in_own c.args.called.now.items c.args.index)
    ∙ off))
