use Rattle.std.proofs.Common.{◌∙◌, ap}
use Rattle.packet_steps.specs.Change.{bearer_of}
use Rattle.packet_steps.proofs.BearerLemmas.{of_life_there, of_life_same, found_in_range}
use Rattle.packet_steps.proofs.releasing.active_of.Goals as goal

pub returns-clause-there : goal.returns-clause-there
returns-clause-there c =
    of_life_there c.args.version.now.bearers c.args.life c.bearer_of.result
    (c.bearer_of.ensures ∙ ap (λ bearers. bearer_of bearers c.args.life) c.bearers.ensures.value)

pub returns-clause-life : goal.returns-clause-life
returns-clause-life c =
    of_life_same c.args.version.now.bearers c.args.life c.bearer_of.result
    (c.bearer_of.ensures ∙ ap (λ bearers. bearer_of bearers c.args.life) c.bearers.ensures.value)

pub returns-clause-index : goal.returns-clause-index
returns-clause-index c = found_in_range c.args.version.now c.bearer_of.result c.bearers.ensures.valid
    (returns-clause-there c)
