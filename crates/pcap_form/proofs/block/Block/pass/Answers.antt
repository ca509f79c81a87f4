use Rattle.std.proofs.Common.{drop, ap, sym, ◌∙◌}
use Rattle.pcap_form.specs.Ahead.{Ahead}
use Rattle.pc_outside.proofs.Parts.{part-behind}
use Rattle.pcap_form.proofs.block.Block.pass.Goals as goal

pub returns-clause-held : goal.returns-clause-held
returns-clause-held c =
    sym (part-behind c.self.inside.octets.items c.self.inside.from c.self.inside.to c.args.count)
    ∙ ap (λ (ahead : Ahead). drop c.args.count ahead.held) c.self.view_is
