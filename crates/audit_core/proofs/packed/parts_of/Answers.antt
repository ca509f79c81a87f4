use Rattle.std.proofs.Common.{◌≡◌, Some, Vec, Global, sym, ap, ◌∙◌, slice_range}
use Rattle.std.specs.Option.{option_map}
use Rattle.text_fields.specs.Hexadecimal.{lower_octets_of}
use Rattle.audit_core.proofs.PackedLemmas.{field_apart, octets_short}
use Rattle.audit_core.proofs.packed.parts_of.Goals as goal

pub returns-in-Some-clause-text : goal.returns-in-Some-clause-text
returns-in-Some-clause-text c =
    let field = c.longest_field-field.result in
    let read : lower_octets_of (slice_range c.args.text.now field.from field.to) ≡ Some c.in-Some.octets.items =
    sym c.in_ok-found.ensures.value ∙ ap (option_map (λ (v : Vec _ Global). v.items)) c.in-Some.is in
    field_apart c.args.text.now c.in-Some.octets.items field.from field.to c.if-field-gt0.true
    c.longest_field-field.ensures.ordered c.longest_field-field.ensures.within
    (c.longest_field-field.ensures.spaced c.if-field-gt0.true) read

pub returns-in-Some-clause-short : goal.returns-in-Some-clause-short
returns-in-Some-clause-short c =
    let field = c.longest_field-field.result in
    let read : lower_octets_of (slice_range c.args.text.now field.from field.to) ≡ Some c.in-Some.octets.items =
    sym c.in_ok-found.ensures.value ∙ ap (option_map (λ (v : Vec _ Global). v.items)) c.in-Some.is in
    octets_short c.args.text.now c.in-Some.octets.items field.from field.to c.longest_field-field.ensures.ordered
    c.longest_field-field.ensures.within read
