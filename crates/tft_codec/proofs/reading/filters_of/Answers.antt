use Rattle.std.proofs.Common.{◌≡◌, ◌∙◌, [], sym, arith, None}
use Rattle.std.proofs.lemmas.Result.{err_from_is_err_and}
use Rattle.tft_codec.specs.Filter.{ids, AreFilters}
use Rattle.tft_codec.specs.Reading.{filters_at}
use Rattle.tft_codec.specs.Refusal.{Says, filter_fault, filters_fault}
use Rattle.tft_codec.proofs.Lists.{none_differ}
use Rattle.tft_codec.proofs.ContentsLemmas.{distinct_from_fresh}
use Rattle.tft_codec.proofs.Loops.{filters_begin, filters_on, filters_fail, filters_end, nothing_left, something_left}
use Rattle.tft_codec.proofs.FilterLemmas.{filters_taken}
use Rattle.tft_codec.proofs.reading.filters_of.Goals as goal

pub loop-init : goal.loop-init
loop-init c = filters_begin c.new-items.result.items c.args.number c.args.bytes.now c.new-items.ensures.items

pub returns-in_err-filter : goal.returns-in_err-filter
returns-in_err-filter c =
    let said : Says c.in_err-filter.field-0.0 (filter_fault (ids c.loop.items.items) c.loop.rest.now)
    = rw c.deref.ensures.value at c.in_err-filter.ensures in
    let p = err_from_is_err_and c.from_residual.result c.from_residual.ensures.1 in
    rw (p.1, p.2)
    (filters_fail c.loop.items.items c.args.number c.loop.counter c.loop.rest.now
    (filters_fault c.args.number [] c.args.bytes.now)
    (filters_at c.args.number c.args.bytes.now) c.in_err-filter.field-0.0 c.loop-test.true c.loop.invariant said)

pub loop-preserved : goal.loop-preserved
loop-preserved c =
    let fine = c.in_ok-filter.ensures in
    let faultless : filter_fault (ids c.loop.items.items) c.loop.rest.now ≡ None = rw c.deref.ensures.value at fine.0 in
    rw (c.in_ok-push.ensures.items, fine.1, fine.2)
    (filters_on c.loop.items.items c.args.number c.loop.counter c.loop.rest.now
    (filters_fault c.args.number [] c.args.bytes.now)
    (filters_at c.args.number c.args.bytes.now) c.loop-test.true c.loop.invariant faultless)

pub returns-then-not-is_empty : goal.returns-then-not-is_empty
returns-then-not-is_empty c =
    let ended = filters_end c.loop.items.items c.args.number c.loop.counter c.loop.rest.now
    (filters_fault c.args.number [] c.args.bytes.now)
    (filters_at c.args.number c.args.bytes.now) c.loop-test.false c.loop.invariant in
    sym ended.0 ∙ something_left c.loop.rest.now (sym c.is_empty.ensures ∙ c.if-not-is_empty.true)

pub invariant_of-result : goal.invariant_of-result
invariant_of-result c =
    let nothing = nothing_left c.loop.rest.now (sym c.is_empty.ensures ∙ c.if-not-is_empty.false) in
    let ended = filters_end c.loop.items.items c.args.number c.loop.counter []
    (filters_fault c.args.number [] c.args.bytes.now) (filters_at c.args.number c.args.bytes.now) c.loop-test.false
    (rw nothing at c.loop.invariant) in
    let taken = filters_taken c.args.number [] c.args.bytes.now (λ i. omega (arith, c.type_inv.bytes i))
    (sym ended.0) in
    let kept : AreFilters (filters_at c.args.number c.args.bytes.now)
    = record {
      each = taken.each;
      differ = distinct_from_fresh [] (ids (filters_at c.args.number c.args.bytes.now)) none_differ taken.fresh;
    } in
    rw ended.1
    (record {
      filters = kept;
      some = omega (arith, taken.count, c.requires.some);
      few = omega (arith, taken.count, c.requires.few);
    })

pub returns : goal.returns
returns c =
    let nothing = nothing_left c.loop.rest.now (sym c.is_empty.ensures ∙ c.if-not-is_empty.false) in
    let ended = filters_end c.loop.items.items c.args.number c.loop.counter []
    (filters_fault c.args.number [] c.args.bytes.now) (filters_at c.args.number c.args.bytes.now) c.loop-test.false
    (rw nothing at c.loop.invariant) in
    (sym ended.0, ended.1)
