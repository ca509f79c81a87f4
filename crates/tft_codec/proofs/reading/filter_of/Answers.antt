use Rattle.std.proofs.Common.{◌≡◌, ◌∙◌, ap, sym, true, false, take, drop, arith, List, ℕ}
use Rattle.std.specs.Prelude.{slice_index}
use Rattle.tft_codec.specs.declared.filter.Filter.{Filter}
use Rattle.tft_codec.specs.Component.{has}
use Rattle.tft_codec.specs.Filter.{ids}
use Rattle.tft_codec.specs.Reading.{id_at, contents_at, after_filter, components_or_none}
use Rattle.tft_codec.specs.Refusal.{Says, contents_fault, filter_fault}
use Rattle.tft_codec.proofs.Lists.{has_map}
use Rattle.tft_codec.proofs.FilterLemmas.{fault_repeated, fault_cut, fault_contents, filter_is}
use Rattle.std.proofs.lemmas.Result.{err_from_is_err_and}
use Rattle.tft_codec.proofs.reading.filter_of.Goals as goal

pub returns-then-has_id : goal.returns-then-has_id
returns-then-has_id c =
    let old : has (ids c.args.before.now) (id_at c.args.bytes.now) ≡ true
    = has_map (λ (f : Filter). f.id) c.args.before.now (id_at c.args.bytes.now) ∙ sym c.has_id.ensures
    ∙ c.if-has_id.true in
    fault_repeated (ids c.args.before.now) c.args.bytes.now (omega arith) old

pub returns-then-bytes-len : goal.returns-then-bytes-len
returns-then-bytes-len c =
    let new : has (ids c.args.before.now) (id_at c.args.bytes.now) ≡ false
    = has_map (λ (f : Filter). f.id) c.args.before.now (id_at c.args.bytes.now) ∙ sym c.has_id.ensures
    ∙ c.if-has_id.false in
    fault_cut (ids c.args.before.now) c.args.bytes.now (omega arith) new (omega arith)

pub returns-in_err-components : goal.returns-in_err-components
returns-in_err-components c =
    let new : has (ids c.args.before.now) (id_at c.args.bytes.now) ≡ false
    = has_map (λ (f : Filter). f.id) c.args.before.now (id_at c.args.bytes.now) ∙ sym c.has_id.ensures
    ∙ c.if-has_id.false in
    let contents_is : c.split_at-2.result.0.now ≡ contents_at c.args.bytes.now
    = c.split_at-2.ensures.front ∙ ap
    (λ (t : List ℕ). take (slice_index c.args.bytes.now 2) t) c.split_at.ensures.back in
    let fault_is : filter_fault (ids c.args.before.now) c.args.bytes.now
    ≡ contents_fault (contents_at c.args.bytes.now) =
    fault_contents (ids c.args.before.now) c.args.bytes.now (omega arith) new (omega arith) in
    let said : Says c.in_err-components.field-0.0 (contents_fault (contents_at c.args.bytes.now))
    = rw contents_is at c.in_err-components.ensures in
    let p = err_from_is_err_and c.from_residual.result c.from_residual.ensures.1 in
    rw (p.1, p.2, fault_is) said

pub returns : goal.returns
returns c =
    let new : has (ids c.args.before.now) (id_at c.args.bytes.now) ≡ false
    = has_map (λ (f : Filter). f.id) c.args.before.now (id_at c.args.bytes.now) ∙ sym c.has_id.ensures
    ∙ c.if-has_id.false in
    let contents_is : c.split_at-2.result.0.now ≡ contents_at c.args.bytes.now
    = c.split_at-2.ensures.front ∙ ap
    (λ (t : List ℕ). take (slice_index c.args.bytes.now 2) t) c.split_at.ensures.back in
    let fault_is : filter_fault (ids c.args.before.now) c.args.bytes.now
    ≡ contents_fault (contents_at c.args.bytes.now) =
    fault_contents (ids c.args.before.now) c.args.bytes.now (omega arith) new (omega arith) in
    let after_is : c.split_at-2.result.1.now ≡ after_filter c.args.bytes.now
    = c.split_at-2.ensures.back ∙ ap
    (λ (t : List ℕ). drop (slice_index c.args.bytes.now 2) t) c.split_at.ensures.back in (
      fault_is ∙ (rw contents_is at c.in_ok-components.ensures.0),
      filter_is c.args.bytes.now c.in_ok-components.components
          (c.in_ok-components.ensures.1 ∙ ap components_or_none contents_is),
      after_is,
    )
