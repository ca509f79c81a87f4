use Rattle.std.proofs.Common.{◌≡◌, ap, ◌∙◌, length, arith}
use Rattle.audit_core.proofs.PackedLemmas.{laid, laid_at}
use Rattle.audit_core.proofs.packed.Packed.behind.Goals as goal

pub be24_at-head-requires : goal.be24_at-head-requires
be24_at-head-requires c =
    let there = laid c.args.self.now c.args.at c.requires.0 c.requires.1 c.requires.2 in
    let same : c.as_slice-octets.result.now ≡ c.args.self.now = c.as_slice-octets.ensures.value ∙ c.self.view_is in
    omega (arith, there.within, ap length same)

pub be24_at-field-requires : goal.be24_at-field-requires
be24_at-field-requires c =
    let there = laid c.args.self.now c.args.at c.requires.0 c.requires.1 c.requires.2 in
    let same : c.as_slice-octets.result.now ≡ c.args.self.now = c.as_slice-octets.ensures.value ∙ c.self.view_is in
    omega (arith, there.within, ap length same)

pub be24_at-tail-requires : goal.be24_at-tail-requires
be24_at-tail-requires c =
    let there = laid c.args.self.now c.args.at c.requires.0 c.requires.1 c.requires.2 in
    let same : c.as_slice-octets.result.now ≡ c.args.self.now = c.as_slice-octets.ensures.value ∙ c.self.view_is in
    omega (arith, there.within, ap length same)

pub returns : goal.returns
returns c own later keeps =
    let there =
    laid_at c.args.self.now c.as_slice-octets.result.now c.args.at c.be24_at-head.result c.be24_at-field.result c.be24_at-tail.result own later
    (c.as_slice-octets.ensures.value ∙ c.self.view_is) c.be24_at-head.ensures c.be24_at-field.ensures c.be24_at-tail.ensures keeps in
    there.next
