use Rattle.std.proofs.Common.{◌≡◌, ℕ, ◌+◌, ◌++◌, ◌∷◌, [], List, refl, sym, ap, subst, ◌∙◌, arith, rules}
use Rattle.std.specs.Vec.{with_items}
use Rattle.std.proofs.lemmas.List.{with_items_is}
use Rattle.demux.specs.Meant.{meaning_of}
use Rattle.lawful_run.specs.Trace.{meant_next}
use Rattle.subscriber.specs.Standing.{SubscriberState}
use Rattle.front_core.proofs.Settling.{settles_none}
use Rattle.front_core.specs.declared.taken.Taken.{Taken}
use Rattle.front_core.specs.declared.took.Took.{Took}
use Rattle.front_core.specs.Counting.{TookTries}
use Rattle.front_core.specs.Entries.{lines_of, took_of}
use Rattle.front_core.specs.Taking.{MayBecome, MayTake, Takes}
use Rattle.front_core.proofs.Becoming.{becomes}
use Rattle.front_core.proofs.Fronts.{line_may}
use Rattle.front_core.proofs.LineDone.{line_done, taken_more, takes_as}
use Rattle.front_core.proofs.Sides.{takes_sides}
use Rattle.front_core.proofs.front.Front.line_at_once.Goals as goal

pub take-requires : goal.take-requires
take-requires g c =
    let old = c.args.self.now in
    subst (λ (subs : List SubscriberState). MayTake (meaning_of c.in_ok-meant.meant) subs old.halves)
    (sym c.as_mut_slice.ensures.value)
    (line_may old.opened.value old.slices old.lane old.lines old.latest old.book c.decide_line.new.book
    old.subscribers.items c.decide_line.new.subscribers.items old.halves old.halves old.entries.items
    c.args.line.now c.in_ok-meant.meant c.requires.whole (settles_none old.halves) c.in_ok-meant.ensures)

pub returns-clause-whole : goal.returns-clause-whole
returns-clause-whole g c =
    let old = c.args.self.now in
    let turned = c.decide_line.new.subscribers.items in
    let it = c.in_ok-meant.meant in
    let open_ = c.in_ok-open.open in
    let new = c.take.new.halves in
    let now = (with_items c.decide_line.new.subscribers c.take.new.subscribers).items in
    let now_is : now ≡ c.take.new.subscribers =
    with_items_is c.decide_line.new.subscribers c.take.new.subscribers
    (omega (arith, c.take.auto.subscribers, c.as_mut_slice.ensures.len)) in
    let takes : Takes (old.lines + 1) (c.args.patience + 1) (meaning_of it) open_ turned now old.halves new =
    takes_as (old.lines + 1) (c.args.patience + 1) it open_ turned c.as_mut_slice.result.now c.take.new.subscribers now
    old.halves new c.as_mut_slice.ensures.value now_is c.in_ok-open.ensures.takes in
    let taken : Taken = record { line = c.of.result; «open» = open_ } in
    let moment : c.line-inside.inside.0.1.0.0 ≡ c.args.line.now.moment = search rules in
    line_done old.opened.value old.slices old.lane old.lines old.latest (c.args.patience + 1) old.book
    c.decide_line.new.book old.subscribers.items turned now old.halves old.halves new old.entries.items
    c.push_reserved.new.self.items taken c.args.line.now it c.line-inside.inside.0.1.0.0 c.requires.whole c.requires.few
    c.requires.late (settles_none old.halves) c.in_ok-meant.ensures takes c.of.ensures moment
    (c.push_reserved.ensures.items ∙ ap (λ (e : List Taken). e ++ taken ∷ []) c.reserve.ensures.items)

pub returns-clause-taken : goal.returns-clause-taken
returns-clause-taken g c =
    let taken : Taken = record { line = c.of.result; «open» = c.in_ok-open.open } in
    taken_more c.args.self.now.entries.items c.reserve.new.self.items c.push_reserved.new.self.items taken
    c.args.line.now c.reserve.ensures.items c.push_reserved.ensures.items c.of.ensures

pub returns-clause-counts : goal.returns-clause-counts
returns-clause-counts g c =
    let moment : c.line-inside.inside.0.1.0.0 ≡ c.args.line.now.moment = search rules in (refl, moment)

pub returns-clause-lanes : goal.returns-clause-lanes
returns-clause-lanes g c =
    let old = c.args.self.now in
    let turned = c.decide_line.new.subscribers.items in
    let it = c.in_ok-meant.meant in
    let open_ = c.in_ok-open.open in
    let new = c.take.new.halves in
    let now = (with_items c.decide_line.new.subscribers c.take.new.subscribers).items in
    let now_is : now ≡ c.take.new.subscribers =
    with_items_is c.decide_line.new.subscribers c.take.new.subscribers
    (omega (arith, c.take.auto.subscribers, c.as_mut_slice.ensures.len)) in
    let takes : Takes (old.lines + 1) (c.args.patience + 1) (meaning_of it) open_ turned now old.halves new =
    takes_as (old.lines + 1) (c.args.patience + 1) it open_ turned c.as_mut_slice.result.now c.take.new.subscribers now
    old.halves new c.as_mut_slice.ensures.value now_is c.in_ok-open.ensures.takes in
    let sides =
    (takes_sides (old.lines + 1) (c.args.patience + 1) (meaning_of it) open_ turned now old.halves new takes) in
    (sides.control_lanes, sides.data_lanes)

pub returns-clause-takes : goal.returns-clause-takes
returns-clause-takes g c =
    let old = c.args.self.now in
    let turned = c.decide_line.new.subscribers.items in
    let it = c.in_ok-meant.meant in
    let open_ = c.in_ok-open.open in
    let new = c.take.new.halves in
    let now = (with_items c.decide_line.new.subscribers c.take.new.subscribers).items in
    let now_is : now ≡ c.take.new.subscribers =
    with_items_is c.decide_line.new.subscribers c.take.new.subscribers
    (omega (arith, c.take.auto.subscribers, c.as_mut_slice.ensures.len)) in
    let takes : Takes (old.lines + 1) (c.args.patience + 1) (meaning_of it) open_ turned now old.halves new =
    takes_as (old.lines + 1) (c.args.patience + 1) it open_ turned c.as_mut_slice.result.now c.take.new.subscribers now
    old.halves new c.as_mut_slice.ensures.value now_is c.in_ok-open.ensures.takes in
    let one : Taken = record { line = c.of.result; «open» = open_ } in
    record {
      taken = one;
      entries = c.push_reserved.ensures.items ∙ ap (λ (e : List Taken). e ++ one ∷ []) c.reserve.ensures.items;
      line_is = c.of.ensures;
      took_is = c.took-took.ensures;
      now = it;
      turned = turned;
      turns = c.in_ok-meant.ensures;
      takes = takes;
    }

pub returns-clause-means : goal.returns-clause-means
returns-clause-means g c = λ prior behind.
    let old = c.args.self.now in
    let turned = c.decide_line.new.subscribers.items in
    let it = c.in_ok-meant.meant in
    let open_ = c.in_ok-open.open in
    let new = c.take.new.halves in
    let now = (with_items c.decide_line.new.subscribers c.take.new.subscribers).items in
    let now_is : now ≡ c.take.new.subscribers =
    with_items_is c.decide_line.new.subscribers c.take.new.subscribers
    (omega (arith, c.take.auto.subscribers, c.as_mut_slice.ensures.len)) in
    let takes : Takes (old.lines + 1) (c.args.patience + 1) (meaning_of it) open_ turned now old.halves new =
    takes_as (old.lines + 1) (c.args.patience + 1) it open_ turned c.as_mut_slice.result.now c.take.new.subscribers now
    old.halves new c.as_mut_slice.ensures.value now_is c.in_ok-open.ensures.takes in
    subst (λ (took : Took). MayBecome (meant_next old.opened.value.slices (prior ++ lines_of old.entries.items)
    c.args.line.now) took) (sym c.took-took.ensures)
    (becomes old.opened.value old.slices old.lane old.lines old.latest (old.lines + 1) (c.args.patience + 1) old.book
    c.decide_line.new.book old.subscribers.items turned now old.halves old.halves new old.entries.items
    c.args.line.now it open_ c.requires.whole c.in_ok-meant.ensures takes prior behind)

pub returns-clause-tried : goal.returns-clause-tried
returns-clause-tried g c =
    let old = c.args.self.now in
    let new = c.take.new.halves in
    subst (λ (took : Took). TookTries (c.args.patience + 1) took old.halves.fulls new.fulls) (sym c.took-took.ensures)
    c.in_ok-open.ensures.tried
