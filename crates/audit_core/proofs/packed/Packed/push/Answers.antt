use Rattle.std.proofs.Common.{◌≡◌, ◌++◌, ap, ◌∙◌, length, arith}
use Rattle.wire_octets.specs.Numbers.{be24_octets}
use Rattle.audit_core.specs.Packed.{Pack}
use Rattle.audit_core.proofs.PackedLemmas.{keeps_more, short_parts}
use Rattle.audit_core.proofs.packed.Packed.push.Goals as goal

pub returns : goal.returns
returns c at texts keeps =
    let parts = c.in_ok-parts.parts in
    let pack : Pack = record { head = parts.head.now; octets = parts.octets.items; tail = parts.tail.now } in
    let short = short_parts c.args.text.now pack c.in_ok-parts.ensures.text c.requires c.in_ok-parts.ensures.short in
    let len : c.len.result ≡ length parts.octets.items =
    let a = parts.octets.ok in omega (arith, c.len.ensures) in
    keeps_more c.args.self.now c.extend_from_slice-3.new.self.items at texts pack c.args.text.now short
    c.in_ok-parts.ensures.text
    (c.in_ok-extend_from_slice-3.ensures.items
    ∙ ap (λ l. l ++ parts.tail.now)
    (c.in_ok-extend_from_slice-2.ensures.items
    ∙ (λ i. c.extend_from_slice.new.self.items ++ c.as_slice.ensures.value i)
    ∙ ap (λ l. l ++ parts.octets.items)
    (c.in_ok-extend_from_slice.ensures.items
    ∙ ap (λ l. l ++ parts.head.now)
    (c.in_ok-push_len-3.ensures
    ∙ ap (λ l. l ++ be24_octets (length parts.tail.now))
    (c.in_ok-push_len-2.ensures
    ∙ ap (λ k. c.push_len.new.octets.items ++ be24_octets k) len
    ∙ ap (λ l. l ++ be24_octets (length parts.octets.items))
    (c.in_ok-push_len.ensures
    ∙ ap (λ l. l ++ be24_octets (length parts.head.now)) c.self.view_is))))))
    keeps
