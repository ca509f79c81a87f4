use Rattle.std.proofs.Common.{◌≡◌, ◌∙◌, ap, append_assoc}
use Rattle.std.proofs.Output.{has_written_of_eq}
use Rattle.std.specs.Int.{w32, to_be_bytes}
use Rattle.std.specs.Net.Addr.{ipv4_octets}
use Rattle.pc_base.proofs.numbers.Addr4Display.fmt.Goals as goal

pub returns-clause-writes : goal.returns-clause-writes
returns-clause-writes g c plain done =
    let octets : ipv4_octets c.from_octets.result ≡ to_be_bytes w32 c.args.self.now =
    c.from_octets.ensures ∙ c.to_be_bytes.ensures ∙ ap (to_be_bytes w32) c.self.view_is in
    has_written_of_eq _ _ _ _ _ (simp append_assoc) (rw octets at (c.fmt.ensures.writes plain done))
