use Rattle.std.proofs.Common.{◌≡◌, ap, length, arith}
use Rattle.audit_core.proofs.PackedLemmas.{keeps_end}
use Rattle.audit_core.proofs.packed.Packed.end.Goals as goal

pub returns-clause-place : goal.returns-clause-place
returns-clause-place c =
    let a = c.self.inside.octets.ok in
    let same = ap length c.self.view_is in omega (arith, c.len.ensures, same)

pub returns-clause-keeps : goal.returns-clause-keeps
returns-clause-keeps c =
    let len : length c.args.self.now ≡ c.len.result =
    let a = c.self.inside.octets.ok in
    let same = ap length c.self.view_is in omega (arith, c.len.ensures, same) in
    keeps_end c.args.self.now c.len.result len
