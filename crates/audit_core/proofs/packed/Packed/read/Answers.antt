use Rattle.std.proofs.Common.{◌≡◌, ◌++◌, ◌∷◌, ap, sym, ◌∙◌, length, append-nil, arith}
use Rattle.hex.specs.Hex.{encode_lower}
use Rattle.audit_core.specs.Packed.{field_of}
use Rattle.audit_core.proofs.PackedLemmas.{field_none, field_some, laid, laid_at, unpacked}
use Rattle.audit_core.proofs.packed.Packed.read.Goals as goal
use Rattle.audit_core.proofs.packed.Packed.read.Goals.{then-field-tail+in_ok-push_octets, else-field-tail}

pub be24_at-requires : goal.be24_at-requires
be24_at-requires c =
    let there = laid c.args.self.now c.args.at c.requires.0 c.requires.1 c.requires.2 in
    let same : c.as_slice-octets.result.now ≡ c.args.self.now = c.as_slice-octets.ensures.value ∙ c.self.view_is in
    omega (arith, there.within, ap length same)

pub be24_at-requires-2 : goal.be24_at-requires-2
be24_at-requires-2 c =
    let there = laid c.args.self.now c.args.at c.requires.0 c.requires.1 c.requires.2 in
    let same : c.as_slice-octets.result.now ≡ c.args.self.now = c.as_slice-octets.ensures.value ∙ c.self.view_is in
    omega (arith, there.within, ap length same)

pub be24_at-requires-3 : goal.be24_at-requires-3
be24_at-requires-3 c =
    let there = laid c.args.self.now c.args.at c.requires.0 c.requires.1 c.requires.2 in
    let same : c.as_slice-octets.result.now ≡ c.args.self.now = c.as_slice-octets.ensures.value ∙ c.self.view_is in
    omega (arith, there.within, ap length same)

pub slice_bounds-extend_from_slice-end : goal.slice_bounds-extend_from_slice-end
slice_bounds-extend_from_slice-end c =
    let own = c.requires.0 in
    let later = c.requires.1 in
    let keeps = c.requires.2 in
    let there =
    laid_at c.args.self.now c.as_slice-octets.result.now c.args.at c.be24_at.result c.be24_at-2.result c.be24_at-3.result own later
    (c.as_slice-octets.ensures.value ∙ c.self.view_is) c.be24_at.ensures c.be24_at-2.ensures c.be24_at-3.ensures keeps in
    omega (arith, there.within)

pub slice_bounds-push_octets-end : goal.slice_bounds-push_octets-end
slice_bounds-push_octets-end c =
    let own = c.requires.0 in
    let later = c.requires.1 in
    let keeps = c.requires.2 in
    let there =
    laid_at c.args.self.now c.as_slice-octets.result.now c.args.at c.be24_at.result c.be24_at-2.result c.be24_at-3.result own later
    (c.as_slice-octets.ensures.value ∙ c.self.view_is) c.be24_at.ensures c.be24_at-2.ensures c.be24_at-3.ensures keeps in
    omega (arith, there.within)

pub slice_bounds-extend_from_slice-end-2 : goal.slice_bounds-extend_from_slice-end-2
slice_bounds-extend_from_slice-end-2 c =
    let own = c.requires.0 in
    let later = c.requires.1 in
    let keeps = c.requires.2 in
    let there =
    laid_at c.args.self.now c.as_slice-octets.result.now c.args.at c.be24_at.result c.be24_at-2.result c.be24_at-3.result own later
    (c.as_slice-octets.ensures.value ∙ c.self.view_is) c.be24_at.ensures c.be24_at-2.ensures c.be24_at-3.ensures keeps in
    omega (arith, there.within)

pub returns-clause-text : goal.returns-clause-text
returns-clause-text c own later keeps =
    let there =
    laid_at c.args.self.now c.as_slice-octets.result.now c.args.at c.be24_at.result c.be24_at-2.result c.be24_at-3.result own later
    (c.as_slice-octets.ensures.value ∙ c.self.view_is) c.be24_at.ensures c.be24_at-2.ensures c.be24_at-3.ensures keeps in
    let p = there.pack in
    let first = c.extend_from_slice.new.self in
    let second : c.if-field-tail.text ≡ first ++ field_of p.octets = elim c.if-field-tail.branch [
      | then-field-tail+in_ok-push_octets w ↦
          w.text-is ∙ w.in_ok-push_octets.ensures.appended ∙ ap (λ l. first ++ 32 ∷ encode_lower l) there.field
          ∙ ap (λ l. first ++ l) (field_some p.octets (omega (arith, w.if-field-tail.true, there.len)))
      | else-field-tail w ↦
          w.text-is ∙ sym (append-nil first)
          ∙ ap (λ l. first ++ l) (field_none p.octets (omega (arith, w.if-field-tail.false, there.len)))
    ] in
    unpacked p own c.clear.new.self first c.if-field-tail.text c.extend_from_slice-2.new.self there.text c.clear.ensures
    (c.in_ok-extend_from_slice.ensures.appended ∙ ap (λ l. c.clear.new.self ++ l) there.head) second
    (c.in_ok-extend_from_slice-2.ensures.appended ∙ ap (λ l. c.if-field-tail.text ++ l) there.tail)

pub returns-clause-next : goal.returns-clause-next
returns-clause-next c own later keeps =
    let there =
    laid_at c.args.self.now c.as_slice-octets.result.now c.args.at c.be24_at.result c.be24_at-2.result c.be24_at-3.result own later
    (c.as_slice-octets.ensures.value ∙ c.self.view_is) c.be24_at.ensures c.be24_at-2.ensures c.be24_at-3.ensures keeps in
    there.next
