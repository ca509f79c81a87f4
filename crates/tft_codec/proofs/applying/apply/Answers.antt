use Rattle.std.proofs.Common.{◌∙◌, sym, ap, inl, Ok}
use Rattle.tft_codec.specs.Filter.{AreFilters}
use Rattle.tft_codec.proofs.ApplyLemmas.{added, all_replaced, left_without, removed_empty, removed_some}
use Rattle.tft_codec.proofs.applying.apply.Goals as goal

pub invariant_of-result-in-Add : goal.invariant_of-result-in-Add
invariant_of-result-in-Add c =
    let kept : AreFilters c.as_slice-filters.result.now
    = rw c.as_slice-filters.ensures.value c.as_slice-filters.ensures.valid in
    let fits : AreFilters c.as_slice-new.result.now
    = rw c.as_slice-new.ensures.value c.as_slice-new.ensures.valid.filters in
    rw c.in_ok-items-in-Add.ensures
    (added c.as_slice-filters.result.now c.as_slice-new.result.now kept fits
    (sym c.any_taken.ensures ∙ c.if-any_taken.false))

pub invariant_of-result-in-Replace : goal.invariant_of-result-in-Replace
invariant_of-result-in-Replace c =
    let kept : AreFilters c.as_slice-filters.result.now
    = rw c.as_slice-filters.ensures.value c.as_slice-filters.ensures.valid in
    let fits : AreFilters c.as_slice-new-in-Replace.result.now
    = rw c.as_slice-new-in-Replace.ensures.value c.as_slice-new-in-Replace.ensures.valid.filters in
    rw c.in_ok-items-in-Replace.ensures
    (all_replaced c.as_slice-new-in-Replace.result.now c.as_slice-filters.result.now fits kept)

pub invariant_of-result-in-Remove : goal.invariant_of-result-in-Remove
invariant_of-result-in-Remove c =
    let kept : AreFilters c.as_slice-filters.result.now
    = rw c.as_slice-filters.ensures.value c.as_slice-filters.ensures.valid in
    rw c.in_ok-items-in-Remove.ensures (left_without c.as_slice-filters.result.now c.as_slice-ids.result.now kept)

pub returns-then-not-any_left-clause-made : goal.returns-then-not-any_left-clause-made
returns-then-not-any_left-clause-made c =
    let all = sym c.ids_there.ensures ∙ c.if-not-ids_there.false in
    let none = sym c.any_left.ensures ∙ c.if-not-any_left.true in
    inl (sym (removed_empty c.args.list.now c.args.tft.now c.in-Remove.ids c.as_slice-ids.result.now
    c.as_slice-filters.result.now c.in-Remove.is c.as_slice-ids.ensures.value c.as_slice-filters.ensures.value all
    none))

pub returns-in_err-items-in-Remove-clause-refused : goal.returns-in_err-items-in-Remove-clause-refused
returns-in_err-items-in-Remove-clause-refused c =
    let all = sym c.ids_there.ensures ∙ c.if-not-ids_there.false in
    let some = sym c.any_left.ensures ∙ c.if-not-any_left.false in
    rw (removed_some c.args.list.now c.args.tft.now c.in-Remove.ids c.as_slice-ids.result.now
    c.as_slice-filters.result.now c.in-Remove.is c.as_slice-ids.ensures.value c.as_slice-filters.ensures.value all
    some) tt

pub returns-in_ok-items-in-Remove-clause-made : goal.returns-in_ok-items-in-Remove-clause-made
returns-in_ok-items-in-Remove-clause-made c =
    let all = sym c.ids_there.ensures ∙ c.if-not-ids_there.false in
    let some = sym c.any_left.ensures ∙ c.if-not-any_left.false in
    inl (ap Ok c.in_ok-items-in-Remove.ensures ∙ sym (removed_some c.args.list.now c.args.tft.now c.in-Remove.ids
    c.as_slice-ids.result.now c.as_slice-filters.result.now c.in-Remove.is c.as_slice-ids.ensures.value
    c.as_slice-filters.ensures.value all some))

pub returns-in_ok-items-in-Remove-clause-refused : goal.returns-in_ok-items-in-Remove-clause-refused
returns-in_ok-items-in-Remove-clause-refused c =
    let all = sym c.ids_there.ensures ∙ c.if-not-ids_there.false in
    let some = sym c.any_left.ensures ∙ c.if-not-any_left.false in
    rw (removed_some c.args.list.now c.args.tft.now c.in-Remove.ids c.as_slice-ids.result.now
    c.as_slice-filters.result.now c.in-Remove.is c.as_slice-ids.ensures.value c.as_slice-filters.ensures.value all
    some) tt
