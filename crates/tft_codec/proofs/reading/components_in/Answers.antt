use Rattle.std.proofs.Common.{◌≡◌, arith, length, map, ap, sym, ◌∙◌, true, false, None, Some, refl}
use Rattle.tft_codec.specs.Component.{type_octet, has}
use Rattle.tft_codec.specs.Reading.{components_of}
use Rattle.tft_codec.proofs.Lists.{has_map}
use Rattle.tft_codec.proofs.Fields.{octet_is, no_octet}
use Rattle.tft_codec.proofs.ComponentLemmas.{component_found}
use Rattle.tft_codec.proofs.Loops.{still_reads, unknown, twice, all_read}
use Rattle.tft_codec.proofs.ContentsLemmas.{components_taken}
use Rattle.tft_codec.proofs.reading.components_in.Goals as goal

pub loop-kind-smaller : goal.loop-kind-smaller
loop-kind-smaller c =
    let rest_is = octet_is c.loop-kind.rest.now c.in-Some.kind c.in-Some.after.now c.in-Some.ensures in
    let found
    = component_found c.in-Some.kind c.in-Some.after.now c.in-Some-component_at.item c.in-Some-component_at.after.now
    c.in-Some-component_at.ensures in
    omega (arith, ap length rest_is, found.shorter)

pub returns-in_default-component_at : goal.returns-in_default-component_at
returns-in_default-component_at c =
    let rest_is = octet_is c.loop-kind.rest.now c.in-Some.kind c.in-Some.after.now c.in-Some.ensures in
    let nothing : components_of c.args.contents.now ≡ None
    = unknown c.loop-kind.items.items c.in-Some.kind c.in-Some.after.now (components_of c.args.contents.now)
    (rw rest_is at c.loop-kind.invariant) c.in_default-component_at.ensures in
    rw nothing refl

pub returns-then-has_type : goal.returns-then-has_type
returns-then-has_type c =
    let rest_is = octet_is c.loop-kind.rest.now c.in-Some.kind c.in-Some.after.now c.in-Some.ensures in
    let old : has (map type_octet c.loop-kind.items.items) c.in-Some.kind ≡ true
    = has_map type_octet c.loop-kind.items.items c.in-Some.kind ∙ sym (rw c.deref.ensures.value at c.has_type.ensures)
    ∙ c.if-has_type.true in
    let nothing : components_of c.args.contents.now ≡ None
    = twice c.loop-kind.items.items c.in-Some.kind c.in-Some.after.now c.in-Some-component_at.item
    c.in-Some-component_at.after.now (components_of c.args.contents.now)
    (rw rest_is at c.loop-kind.invariant) c.in-Some-component_at.ensures old in
    rw nothing refl

pub loop-kind-preserved : goal.loop-kind-preserved
loop-kind-preserved c =
    let rest_is = octet_is c.loop-kind.rest.now c.in-Some.kind c.in-Some.after.now c.in-Some.ensures in
    let new : has (map type_octet c.loop-kind.items.items) c.in-Some.kind ≡ false
    = has_map type_octet c.loop-kind.items.items c.in-Some.kind ∙ sym (rw c.deref.ensures.value at c.has_type.ensures)
    ∙ c.if-has_type.false in
    rw c.in_ok-push.ensures.items
    (still_reads c.loop-kind.items.items c.in-Some.kind c.in-Some.after.now c.in-Some-component_at.item c.in-Some-component_at.after.now (components_of c.args.contents.now) (rw rest_is at c.loop-kind.invariant) c.in-Some-component_at.ensures new)

pub invariant_of-result : goal.invariant_of-result
invariant_of-result c =
    let rest_is = no_octet c.loop-kind.rest.now c.in_default.ensures in
    let read : components_of c.args.contents.now ≡ Some c.loop-kind.items.items
    = all_read c.loop-kind.items.items (components_of c.args.contents.now) (rw rest_is at c.loop-kind.invariant) in
    (components_taken c.args.contents.now c.loop-kind.items.items (λ i. omega (arith, c.type_inv.contents i)) read).1

pub returns : goal.returns
returns c =
    let rest_is = no_octet c.loop-kind.rest.now c.in_default.ensures in
    let read : components_of c.args.contents.now ≡ Some c.loop-kind.items.items
    = all_read c.loop-kind.items.items (components_of c.args.contents.now) (rw rest_is at c.loop-kind.invariant) in
    rw read (refl, refl)
