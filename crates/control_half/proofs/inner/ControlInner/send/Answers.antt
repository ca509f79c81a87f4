use Rattle.std.proofs.Common.{sym, ◌∙◌}
use Rattle.control_half.proofs.inner.ControlInner.send.Goals as goal

pub returns-in-Ok-clause-sends : goal.returns-in-Ok-clause-sends
returns-in-Ok-clause-sends g c = (
  c.in-Some.batch,
  sym c.take.ensures.value ∙ c.in-Some.is,
  c.take.ensures.after,
  c.in-Ok.ensures.ok.0,
  c.in-Ok.ensures.ok.1,
)
