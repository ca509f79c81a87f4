use Rattle.std.proofs.Common.{◌≡◌, ◌∙◌, ◌%◌, [], sym, true, false, arith}
use Rattle.std.proofs.lemmas.List.{append-nil}
use Rattle.tft_codec.specs.Component.{has}
use Rattle.tft_codec.specs.Reading.{ids_at}
use Rattle.tft_codec.specs.Refusal.{ids_fault}
use Rattle.tft_codec.proofs.Lists.{none_differ}
use Rattle.tft_codec.proofs.Fields.{octet_is, no_octet}
use Rattle.tft_codec.proofs.ContentsLemmas.{distinct_from_fresh}
use Rattle.tft_codec.proofs.Loops.{ids_begin, ids_on, ids_twice, ids_short, ids_end, nothing_left, something_left}
use Rattle.tft_codec.proofs.IdLemmas.{ids_taken}
use Rattle.tft_codec.proofs.reading.ids_of.Goals as goal

pub loop-init : goal.loop-init
loop-init c = ids_begin c.new-items.result.items c.args.number c.args.bytes.now c.new-items.ensures.items

pub returns-in_default : goal.returns-in_default
returns-in_default c =
    let rest_is = no_octet c.loop.rest.now c.in_default.ensures in
    ids_short c.loop.items.items c.args.number c.loop.counter (ids_fault c.args.number [] c.args.bytes.now)
    (ids_at c.args.bytes.now) c.loop-test.true (rw rest_is at c.loop.invariant)

pub returns-then-contains_id : goal.returns-then-contains_id
returns-then-contains_id c =
    let rest_is = octet_is c.loop.rest.now c.in-Some.first c.in-Some.after.now c.in-Some.ensures in
    let old : has c.loop.items.items (c.in-Some.first % 16) ≡ true
    = sym (rw c.deref.ensures.value at c.contains_id.ensures) ∙ c.if-contains_id.true in
    ids_twice c.loop.items.items c.args.number c.loop.counter c.in-Some.first c.in-Some.after.now
    (ids_fault c.args.number [] c.args.bytes.now) (ids_at c.args.bytes.now) c.loop-test.true
    (rw rest_is at c.loop.invariant) old

pub loop-preserved : goal.loop-preserved
loop-preserved c =
    let rest_is = octet_is c.loop.rest.now c.in-Some.first c.in-Some.after.now c.in-Some.ensures in
    let new : has c.loop.items.items (c.in-Some.first % 16) ≡ false
    = sym (rw c.deref.ensures.value at c.contains_id.ensures) ∙ c.if-contains_id.false in
    rw c.in_ok-push.ensures.items
    (ids_on c.loop.items.items c.args.number c.loop.counter c.in-Some.first c.in-Some.after.now
    (ids_fault c.args.number [] c.args.bytes.now) (ids_at c.args.bytes.now) c.loop-test.true
    (rw rest_is at c.loop.invariant) new)

pub returns-then-not-is_empty : goal.returns-then-not-is_empty
returns-then-not-is_empty c =
    let ended = ids_end c.loop.items.items c.args.number c.loop.counter c.loop.rest.now
    (ids_fault c.args.number [] c.args.bytes.now) (ids_at c.args.bytes.now) c.loop-test.false c.loop.invariant in
    sym ended.0 ∙ something_left c.loop.rest.now (sym c.is_empty.ensures ∙ c.if-not-is_empty.true)

pub invariant_of-result : goal.invariant_of-result
invariant_of-result c =
    let nothing = nothing_left c.loop.rest.now (sym c.is_empty.ensures ∙ c.if-not-is_empty.false) in
    let ended = ids_end c.loop.items.items c.args.number c.loop.counter []
    (ids_fault c.args.number [] c.args.bytes.now) (ids_at c.args.bytes.now) c.loop-test.false
    (rw nothing at c.loop.invariant) in
    let value : c.loop.items.items ≡ ids_at c.args.bytes.now = sym (append-nil c.loop.items.items) ∙ ended.1 in
    let taken = ids_taken c.args.number [] c.args.bytes.now (sym ended.0) in
    rw value
    (record {
      each = taken.each;
      differ = distinct_from_fresh [] (ids_at c.args.bytes.now) none_differ taken.fresh;
      some = omega (arith, taken.count, c.requires.some);
      few = omega (arith, taken.count, c.requires.few);
    })

pub returns : goal.returns
returns c =
    let nothing = nothing_left c.loop.rest.now (sym c.is_empty.ensures ∙ c.if-not-is_empty.false) in
    let ended = ids_end c.loop.items.items c.args.number c.loop.counter []
    (ids_fault c.args.number [] c.args.bytes.now) (ids_at c.args.bytes.now) c.loop-test.false
    (rw nothing at c.loop.invariant) in
    (sym ended.0, sym (append-nil c.loop.items.items) ∙ ended.1)
