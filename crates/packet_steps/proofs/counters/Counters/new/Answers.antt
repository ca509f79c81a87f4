use Rattle.std.proofs.Common.{◌∙◌}
use Rattle.packet_steps.specs.Meters.{in_use}
use Rattle.packet_steps.proofs.NewLemmas.{new_is, new_stands}
use Rattle.packet_steps.proofs.counters.Counters.new.Goals as goal

pub returns-clause-new : goal.returns-clause-new
returns-clause-new c =
    new_is (in_use c.new-2.result) c.new-3.result c.new-4.result.items (c.new-2.ensures.shared ∙ c.new.ensures)
    c.new-2.ensures.own c.new-3.ensures c.new-4.ensures.items

pub returns-clause-stands : goal.returns-clause-stands
returns-clause-stands c = λ slot.
    new_stands (in_use c.new-2.result) c.new-3.result c.new-4.result.items slot (c.new-2.ensures.shared ∙ c.new.ensures)
    c.new-2.ensures.own c.new-3.ensures c.new-4.ensures.items
