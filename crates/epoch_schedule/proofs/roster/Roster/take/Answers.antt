use Rattle.std.proofs.Common.{◌≡◌, length, subst}
use Rattle.epoch_schedule.specs.World.{cursor_within}
use Rattle.epoch_schedule.specs.Rosters.{RosterNow, present, place_at, left, StandsAt, Lacks}
use Rattle.epoch_schedule.specs.Rounds.{place_held}
use Rattle.epoch_schedule.proofs.Places.{stands_place}
use Rattle.epoch_schedule.proofs.Indices.{indexed_same, still_called}
use Rattle.epoch_schedule.proofs.Rosters.{now_of, roster_left, left_is, none_left_is}
use Rattle.epoch_schedule.proofs.roster.Roster.take.Goals as goal

pub index_of-at-requires : goal.index_of-at-requires
index_of-at-requires c known =
    indexed_same _ _ _ _ c.as_slice.ensures.value c.as_slice-2.ensures.value (c.self.invariant.indexed known)

pub invariant_of-self : goal.invariant_of-self
invariant_of-self c =
    let own = c.self.inside in
    let done = c.leave_hole-self-inside.ensures in
    roster_left own.halves.items _ own.index.items own.once own.holes _ own.next c.in-Some.index own.called.items
    own.called.items c.self.invariant done.items done.less done.few
    (still_called own.halves.items c.in-Some.index own.called.items c.self.invariant.only)

pub returns-in-Some : goal.returns-in-Some
returns-in-Some c =
    let own = c.self.inside in
    let halves = own.halves.items in
    let new = c.leave_hole-self-inside.new.halves.items in
    let at = c.leave_hole-self-inside.result in
    let done = c.leave_hole-self-inside.ensures in
    subst (λ (now : RosterNow).
    now_of (present new) (place_at new at) ≡ left now (place_held c.args.slot now.held))
    c.self.view_is
    (left_is halves new c.in-Some.index (place_held c.args.slot (present halves)) own.next at
    (stands_place halves c.args.slot c.in-Some.index
    (subst (λ hs. StandsAt hs c.args.slot c.in-Some.index) c.as_slice.ensures.value c.in-Some.ensures.found)) done.held done.cursor)

pub returns-in-None : goal.returns-in-None
returns-in-None c =
    let own = c.self.inside in
    let halves = own.halves.items in
    let at = c.settle-self-inside.result in
    let value = c.as_slice-in-None.ensures.value in
    subst (λ (now : RosterNow).
    now_of (present halves) (place_at halves at) ≡ left now (place_held c.args.slot now.held))
    c.self.view_is
    (none_left_is halves c.args.slot own.next at
    (subst (λ hs. Lacks hs c.args.slot) c.as_slice.ensures.value c.in-None.ensures.none)
    (subst (λ hs. place_at hs at ≡ cursor_within (place_at hs own.next) (length (present hs))) value
    c.settle-self-inside.ensures.place))
