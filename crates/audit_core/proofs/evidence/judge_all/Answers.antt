use Rattle.std.proofs.Common.{◌≡◌, ℕ, ◌+◌, ◌<◌, ◌∙◌, length, take, get_or, slice_range, sym, ap, subst, arith}
use Rattle.std.specs.Global.{Vec}
use Rattle.audit_core.specs.Evidence.{RunsNext}
use Rattle.audit_core.specs.Judged.{IsEnd, asked_of, told_of}
use Rattle.audit_core.specs.Ranks.{rank_of}
use Rattle.audit_core.specs.Sharing.{under}
use Rattle.audit_core.specs.declared.report.Run.{Run}
use Rattle.audit_core.specs.declared.sentence.Sentence.TheVariants as of
use Rattle.audit_core.proofs.AmongLemmas.{share_count, share_is}
use Rattle.audit_core.proofs.EvidenceSteps.{begins_before, ends_many, ends_within, goes_on_so, is_end, judged_none, over_found, this_epoch, this_judged, this_next}
use Rattle.audit_core.proofs.RestLemmas.{denied}
use Rattle.audit_core.proofs.evidence.judge_all.Goals as goal

pub outside-requires : goal.outside-requires
outside-requires c =
    let own = c.requires.0 in
    let is = c.requires.1 in
    (own.made, is.held.texts, is.held.taken, is.held.all)

pub loop-epoch-init : goal.loop-epoch-init
loop-epoch-init c = λ own is.
    judged_none own c.args.setup c.args.trace c.args.report.now is c.in_ok-judge.judge
    (c.in_ok-judge.ensures.begins own
    (c.in_ok-outside.ensures own.made is.held.texts own.entries is.held.taken is.held.are))
    c.in_ok-judge.ensures.setup

pub returns-then-is_over : goal.returns-then-is_over
returns-then-is_over c = λ own is.
    let at = c.loop-epoch.invariant own is in
    over_found own _ _ _ _ c.loop-epoch.judge at.judged (c.is_over.ensures.0 c.if-is_over.true)

pub slice_bounds-judge_epoch-count : goal.slice_bounds-judge_epoch-count
slice_bounds-judge_epoch-count c =
    let own = c.requires.0 in
    let is = c.requires.1 in
    let i = c.loop-epoch.epoch in
    let places_are = c.as_slice-places.ensures.value in
    let low : i < length own.made =
    omega (
      arith,
      c.loop-epoch-test.true,
      ends_many own c.args.setup c.args.trace c.args.report.now is,
      ap length places_are,
    ) in
    let later : (before : ℕ) → i ≡ before + 1 → c.begin_of-begin.result ≡ get_or c.args.trace.ends.items before 0 =
    λ before same. c.begin_of-begin.ensures.later before same ∙ ap (λ l. get_or l before 0) places_are in
    let d = get_or c.as_slice-places.result.now i 0 in
    let end_at : d ≡ get_or c.args.trace.ends.items i 0 = ap (λ l. get_or l i 0) places_are in
    begins_before own c.args.setup c.args.trace c.args.report.now is i c.begin_of-begin.result d 0 low c.begin_of-begin.ensures.first later end_at

pub slice_bounds-judge_epoch-start : goal.slice_bounds-judge_epoch-start
slice_bounds-judge_epoch-start c =
    let own = c.requires.0 in
    let is = c.requires.1 in
    let i = c.loop-epoch.epoch in
    let places_are = c.as_slice-places.ensures.value in
    let low : i < length own.made =
    omega (
      arith,
      c.loop-epoch-test.true,
      ends_many own c.args.setup c.args.trace c.args.report.now is,
      ap length places_are,
    ) in
    let later : (before : ℕ) → i ≡ before + 1 → c.begin_of-begin.result ≡ get_or c.args.trace.ends.items before 0 =
    λ before same. c.begin_of-begin.ensures.later before same ∙ ap (λ l. get_or l before 0) places_are in
    let d = get_or c.as_slice-places.result.now i 0 in
    let end_at : d ≡ get_or c.args.trace.ends.items i 0 = ap (λ l. get_or l i 0) places_are in
    begins_before own c.args.setup c.args.trace c.args.report.now is i c.begin_of-begin.result d 0 low c.begin_of-begin.ensures.first later end_at

pub slice_bounds-judge_epoch-end : goal.slice_bounds-judge_epoch-end
slice_bounds-judge_epoch-end c =
    let own = c.requires.0 in
    let is = c.requires.1 in
    let i = c.loop-epoch.epoch in
    let places_are = c.as_slice-places.ensures.value in
    let low : i < length own.made =
    omega (
      arith,
      c.loop-epoch-test.true,
      ends_many own c.args.setup c.args.trace c.args.report.now is,
      ap length places_are,
    ) in
    let later : (before : ℕ) → i ≡ before + 1 → c.begin_of-begin.result ≡ get_or c.args.trace.ends.items before 0 =
    λ before same. c.begin_of-begin.ensures.later before same ∙ ap (λ l. get_or l before 0) places_are in
    let d = get_or c.as_slice-places.result.now i 0 in
    let end_at : d ≡ get_or c.args.trace.ends.items i 0 = ap (λ l. get_or l i 0) places_are in
    let within = ends_within own c.args.setup c.args.trace c.args.report.now is i c.begin_of-begin.result d 0 low c.begin_of-begin.ensures.first later end_at in
    omega (arith, within, ap length c.as_slice-lines.ensures.value)

pub offset_bounds-lines-begin : goal.offset_bounds-lines-begin
offset_bounds-lines-begin c =
    let own = c.requires.0 in
    let is = c.requires.1 in
    let i = c.loop-epoch.epoch in
    let places_are = c.as_slice-places.ensures.value in
    let low : i < length own.made =
    omega (
      arith,
      c.loop-epoch-test.true,
      ends_many own c.args.setup c.args.trace c.args.report.now is,
      ap length places_are,
    ) in
    let later : (before : ℕ) → i ≡ before + 1 → c.begin_of-begin.result ≡ get_or c.args.trace.ends.items before 0 =
    λ before same. c.begin_of-begin.ensures.later before same ∙ ap (λ l. get_or l before 0) places_are in
    let d = get_or c.as_slice-places.result.now i 0 in
    let end_at : d ≡ get_or c.args.trace.ends.items i 0 = ap (λ l. get_or l i 0) places_are in
    let within = ends_within own c.args.setup c.args.trace c.args.report.now is i c.begin_of-begin.result d 0 low c.begin_of-begin.ensures.first later end_at in
    let before = begins_before own c.args.setup c.args.trace c.args.report.now is i c.begin_of-begin.result d 0 low c.begin_of-begin.ensures.first later end_at in
    omega (arith, within, before, is.few)

pub index-requires : goal.index-requires
index-requires c =
    let many = share_count (λ (v : Vec Run). v.items) c.in_ok-runs.runs.items _ c.args.report.now.runs.items
    c.in_ok-runs.ensures in
    omega (arith, many, c.in_ok-runs.runs.ok.0, c.loop-epoch-test.true)

pub index-requires-2 : goal.index-requires-2
index-requires-2 c =
    let many = share_count (λ (v : Vec Run). v.items) c.in_ok-runs.runs.items _ c.args.report.now.runs.items
    c.in_ok-runs.ensures in
    omega (arith, many, c.in_ok-runs.runs.ok.0)

pub judge_epoch-requires-clause-next : goal.judge_epoch-requires-clause-next
judge_epoch-requires-clause-next c =
    let own = c.requires.0 in
    let is = c.requires.1 in
    let i = c.loop-epoch.epoch in
    let places_are = c.as_slice-places.ensures.value in
    let low : i < length own.made =
    omega (
      arith,
      c.loop-epoch-test.true,
      ends_many own c.args.setup c.args.trace c.args.report.now is,
      ap length places_are,
    ) in
    let later : (before : ℕ) → i ≡ before + 1 → c.begin_of-begin.result ≡ get_or c.args.trace.ends.items before 0 =
    λ before same. c.begin_of-begin.ensures.later before same ∙ ap (λ l. get_or l before 0) places_are in
    let d = get_or c.as_slice-places.result.now i 0 in
    let end_at : d ≡ get_or c.args.trace.ends.items i 0 = ap (λ l. get_or l i 0) places_are in
    let judge = c.loop-epoch.judge in
    let subscribers = c.loop-epoch.subscribers.items in
    let goes_on = goes_on_so (asked_of judge.broken) (rank_of of.Answers)
    (denied c.is_over.ensures c.if-is_over.false) in
    let runs_are = c.as_slice-in-loop-epoch.ensures.value
    ∙ share_is (λ (v : Vec Run). v.items) c.in_ok-runs.runs.items _ c.args.report.now.runs.items i c.index.result.now
    c.in_ok-runs.ensures (omega (arith, c.loop-epoch-test.true)) c.index.ensures in
    let this = this_epoch own c.args.setup c.args.trace c.args.report.now is i c.begin_of-begin.result d 0 low c.begin_of-begin.ensures.first later end_at in
    let next = this_next own c.args.setup c.args.trace c.args.report.now is i c.begin_of-begin.result d 0 low c.begin_of-begin.ensures.first later end_at subscribers judge c.as_slice-in-loop-epoch.result.now
    (c.loop-epoch.invariant own is) goes_on runs_are in (
      own,
      this,
      subst (λ ls. RunsNext own this c.as_slice.result.now (slice_range ls c.begin_of-begin.result d) c.args.report.now
          c.as_slice-in-loop-epoch.result.now subscribers judge) (sym c.as_slice-lines.ensures.value)
          (subst (λ os. RunsNext own this os (slice_range c.args.trace.kept.items c.begin_of-begin.result d)
          c.args.report.now c.as_slice-in-loop-epoch.result.now subscribers judge) (sym c.as_slice.ensures.value) next),
    )

pub loop-epoch-preserved : goal.loop-epoch-preserved
loop-epoch-preserved c = λ own is.
    let i = c.loop-epoch.epoch in
    let places_are = c.as_slice-places.ensures.value in
    let low : i < length own.made =
    omega (
      arith,
      c.loop-epoch-test.true,
      ends_many own c.args.setup c.args.trace c.args.report.now is,
      ap length places_are,
    ) in
    let later : (before : ℕ) → i ≡ before + 1 → c.begin_of-begin.result ≡ get_or c.args.trace.ends.items before 0 =
    λ before same. c.begin_of-begin.ensures.later before same ∙ ap (λ l. get_or l before 0) places_are in
    let d = get_or c.as_slice-places.result.now i 0 in
    let end_at : d ≡ get_or c.args.trace.ends.items i 0 = ap (λ l. get_or l i 0) places_are in
    let judge = c.loop-epoch.judge in
    let subscribers = c.loop-epoch.subscribers.items in
    let at = c.loop-epoch.invariant own is in
    let goes_on = goes_on_so (asked_of judge.broken) (rank_of of.Answers)
    (denied c.is_over.ensures c.if-is_over.false) in
    let runs_are = c.as_slice-in-loop-epoch.ensures.value
    ∙ share_is (λ (v : Vec Run). v.items) c.in_ok-runs.runs.items _ c.args.report.now.runs.items i c.index.result.now
    c.in_ok-runs.ensures (omega (arith, c.loop-epoch-test.true)) c.index.ensures in
    let this = this_epoch own c.args.setup c.args.trace c.args.report.now is i c.begin_of-begin.result d 0 low c.begin_of-begin.ensures.first later end_at in
    let next = this_next own c.args.setup c.args.trace c.args.report.now is i c.begin_of-begin.result d 0 low c.begin_of-begin.ensures.first later end_at subscribers judge c.as_slice-in-loop-epoch.result.now at goes_on runs_are in
    let runs_next = subst (λ ls. RunsNext own this c.as_slice.result.now (slice_range ls c.begin_of-begin.result d)
    c.args.report.now c.as_slice-in-loop-epoch.result.now subscribers judge) (sym c.as_slice-lines.ensures.value)
    (subst (λ os. RunsNext own this os (slice_range c.args.trace.kept.items c.begin_of-begin.result d)
    c.args.report.now c.as_slice-in-loop-epoch.result.now subscribers judge) (sym c.as_slice.ensures.value) next) in
    this_judged own c.args.setup c.args.trace c.args.report.now is i c.begin_of-begin.result d 0 low c.begin_of-begin.ensures.first later end_at c.judge_epoch.new.subscribers.items c.judge_epoch.new.judge
    (c.in_ok-judge_epoch.ensures.judged own this runs_next) (c.in_ok-judge_epoch.ensures.stands own this runs_next)
    (c.in_ok-judge_epoch.ensures.setup ∙ at.setup_is)
    (omega (
      arith,
      c.in_ok-judge_epoch.ensures.many,
      at.many,
      c.loop-epoch.subscribers.ok.0,
      c.judge_epoch.new.subscribers.ok.0,
    ))

pub end-requires : goal.end-requires
end-requires c =
    let own = c.requires.0 in
    let is = c.requires.1 in
    let i = c.loop-epoch.epoch in
    let many : length c.as_slice-places.result.now ≡ length own.made =
    ap length c.as_slice-places.ensures.value ∙ ends_many own c.args.setup c.args.trace c.args.report.now is in
    let runs_are = c.as_slice-3.ensures.value
    ∙ share_is (λ (v : Vec Run). v.items) c.in_ok-runs.runs.items _ c.args.report.now.runs.items
    (length c.as_slice-places.result.now) c.index-2.result.now c.in_ok-runs.ensures (omega arith) c.index-2.ensures in (
      own,
      take i (told_of own),
      subst (λ ss. IsEnd own (take i (told_of own)) c.args.report.now ss c.loop-epoch.judge) (sym c.as_slice-2.ensures.value)
          (is_end own c.args.setup c.args.trace c.args.report.now is i c.loop-epoch.subscribers.items c.loop-epoch.judge
          (omega (arith, many, c.loop-epoch-test.false)) (c.loop-epoch.invariant own is)),
      runs_are ∙ ap (λ k. under k c.args.report.now.runs.items) many,
    )

pub returns : goal.returns
returns c = λ own is.
    let i = c.loop-epoch.epoch in
    let many : length c.as_slice-places.result.now ≡ length own.made =
    ap length c.as_slice-places.ensures.value ∙ ends_many own c.args.setup c.args.trace c.args.report.now is in
    let runs_are = c.as_slice-3.ensures.value
    ∙ share_is (λ (v : Vec Run). v.items) c.in_ok-runs.runs.items _ c.args.report.now.runs.items
    (length c.as_slice-places.result.now) c.index-2.result.now c.in_ok-runs.ensures (omega arith) c.index-2.ensures in
    c.in_ok-end.ensures own (take i (told_of own))
    (subst (λ ss. IsEnd own (take i (told_of own)) c.args.report.now ss c.loop-epoch.judge) (sym c.as_slice-2.ensures.value)
    (is_end own c.args.setup c.args.trace c.args.report.now is i c.loop-epoch.subscribers.items c.loop-epoch.judge
    (omega (arith, many, c.loop-epoch-test.false)) (c.loop-epoch.invariant own is)))
    (runs_are ∙ ap (λ k. under k c.args.report.now.runs.items) many)
