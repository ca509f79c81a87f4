use Rattle.std.proofs.Common.{◌≡◌, true, subst}
use Rattle.packet_steps.specs.Rows.{held_in_order}
use Rattle.packet_steps.specs.Standing.{CountersState}
use Rattle.packet_steps.proofs.counters.Counters.known.Goals as goal

pub returns : goal.returns
returns c = subst (λ (s : CountersState). held_in_order s.last s.held ≡ true) c.self.view_is c.self.invariant
