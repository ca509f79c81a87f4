use Rattle.std.proofs.Common.{rules, ◌≡◌, List, Option, [], ◌∷◌, ◌++◌, length, set, subst, sym, ap, ◌∙◌, arith}
use Rattle.epoch_schedule.specs.World.{HeldControl}
use Rattle.epoch_schedule.specs.Waiting.{is_in}
use Rattle.epoch_schedule.specs.Rosters.{RosterNow, present, place_at, IsRoster}
use Rattle.epoch_schedule.proofs.Indices.{indexed_same, lacks_same}
use Rattle.epoch_schedule.proofs.Rosters.{now_of, roster_grown, roster_push, push_is}
use Rattle.epoch_schedule.proofs.roster.Roster.push.Goals as goal

pub still_once-still-requires : goal.still_once-still-requires
still_once-still-requires c known =
    indexed_same _ _ _ _ c.as_slice.ensures.value c.as_slice-2.ensures.value (c.self.invariant.indexed known)

pub invariant_of-self : goal.invariant_of-self
invariant_of-self c =
    roster_grown _ _ _ _ _ _ _ _ c.self.invariant c.reach.ensures.same c.reach.ensures.more c.self.invariant.only

pub invariant_of-self-in_err-note_called : goal.invariant_of-self-in_err-note_called
invariant_of-self-in_err-note_called c =
    roster_grown _ _ _ _ _ _ _ _ c.self.invariant c.reach.ensures.same c.reach.ensures.more
    (c.note_called.ensures.kept c.self.inside.halves.items c.self.invariant.only)

pub invariant_of-self-in_err-push : goal.invariant_of-self-in_err-push
invariant_of-self-in_err-push c =
    let own = c.self.inside in
    subst
    (λ (hs : List (Option HeldControl)).
    IsRoster hs c.reach.new.index.items own.once own.holes own.next c.note_called.new.called.items)
    (sym c.in_err-push.ensures.items)
    (roster_grown own.halves.items own.index.items c.reach.new.index.items own.once own.holes own.next
    own.called.items c.note_called.new.called.items c.self.invariant c.reach.ensures.same c.reach.ensures.more
    (c.note_called.ensures.kept own.halves.items c.self.invariant.only))

pub invariant_of-self-2 : goal.invariant_of-self-2
invariant_of-self-2 c =
    let own = c.self.inside in
    let grown = c.reach.new.index.items in
    let at : c.len-index.result ≡ length own.halves.items = search rules in
    let slot = ap (λ (h : HeldControl). h.slot) c.half.view_is in
    let slot-2 = ap (λ (h : HeldControl). h.slot) c.half-2.view_is in
    let within = c.in_ok-reach.ensures.within in
    roster_push own.halves.items c.push.new.self.items own.index.items grown
    (set grown c.half-2.inside.slot c.kept_index.result) own.once c.still_once-still.result own.holes own.next
    own.called.items c.note_called.new.called.items c.args.half c.self.invariant c.in_ok-push.ensures.items
    c.reach.ensures.same c.reach.ensures.more (omega (arith, within, slot))
    (λ yes.
    let few = c.still_once-still.ensures.few yes in
    let many = ap length c.as_slice.ensures.value in
    ap (λ s. set grown s c.kept_index.result) slot-2
    ∙ ap (set grown c.args.half.slot) (c.kept_index.ensures (omega (arith, few, many, at)) ∙ at))
    (λ yes.
    let got = c.still_once-still.ensures.once yes in
    (got.0, lacks_same _ _ _ _ c.as_slice.ensures.value slot got.1))
    (c.note_called.ensures.kept own.halves.items c.self.invariant.only)
    (λ off. c.in_ok-note_called.ensures.own (ap (is_in c.note_called.new.called.items) at ∙ off))

pub returns : goal.returns
returns c =
    let own = c.self.inside in
    let new = c.push.new.self.items in
    subst
    (λ (now : RosterNow).
    now_of (present new) (place_at new own.next) ≡ now_of (now.held ++ c.args.half ∷ []) now.cursor)
    c.self.view_is
    (push_is own.halves.items new own.next c.args.half c.in_ok-push.ensures.items c.self.invariant.few)
