use Rattle.std.proofs.Common.{rules, ◌≡◌, true, ℕ, List, Option, length, map, set, subst, refl, sym, ap, ◌∙◌, arith}
use Rattle.std.proofs.lemmas.List.{length-map}
use Rattle.epoch_schedule.specs.World.{HeldControl}
use Rattle.epoch_schedule.specs.ControlTurns.{marked}
use Rattle.epoch_schedule.specs.Rosters.{RosterNow, present, place_at, entry, mark_entry, StandsAt, OnlyCalled}
use Rattle.epoch_schedule.proofs.Indices.{indexed_same, lacks_same, others_differ, all_called, called_set}
use Rattle.epoch_schedule.proofs.Rosters.{now_of, roster_marked, marked_is, none_marked, one_marked}
use Rattle.epoch_schedule.proofs.roster.Roster.mark.Goals as goal

pub index_of-at-requires : goal.index_of-at-requires
index_of-at-requires c known =
    indexed_same _ _ _ _ c.as_slice.ensures.value c.as_slice-2.ensures.value (c.self.invariant.indexed known)

pub invariant_of-self : goal.invariant_of-self
invariant_of-self c =
    let own = c.self.inside in
    let new = c.mark_each.new.halves.items in
    let total = ap length c.mark_each.ensures ∙ length-map own.halves.items (mark_entry c.args.slot c.args.until) in
    let count : c.len.result ≡ length own.halves.items = search rules in
    roster_marked c.args.slot c.args.until own.halves.items new own.index.items own.once own.holes own.next
    own.called.items c.in_ok-all.all.items c.self.invariant c.mark_each.ensures
    (all_called new c.in_ok-all.all.items c.len.result (omega (arith, total, count)) c.in_ok-all.ensures)

pub returns-then-not-self : goal.returns-then-not-self
returns-then-not-self c =
    let own = c.self.inside in
    let new = c.mark_each.new.halves.items in
    subst
    (λ (now : RosterNow).
    now_of (present new) (place_at new own.next)
    ≡ now_of (map (marked c.args.slot c.args.until) now.held) now.cursor)
    c.self.view_is
    (marked_is c.args.slot c.args.until own.halves.items new own.next c.mark_each.ensures)

pub returns-in-None : goal.returns-in-None
returns-in-None c =
    let own = c.self.inside in
    let halves = own.halves.items in
    subst
    (λ (now : RosterNow). now ≡ now_of (map (marked c.args.slot c.args.until) now.held) now.cursor)
    c.self.view_is
    (marked_is c.args.slot c.args.until halves halves own.next
    (sym (none_marked c.args.slot c.args.until halves
    (lacks_same _ _ _ _ c.as_slice.ensures.value refl c.in-None.ensures.none))))

pub invariant_of-self-in-Some : goal.invariant_of-self-in-Some
invariant_of-self-in-Some c =
    let own = c.self.inside in
    let halves = own.halves.items in
    let i = c.in-Some.index in
    let known : own.once ≡ true = search rules in
    let stands =
    subst (λ (hs : List (Option HeldControl)). StandsAt hs c.args.slot i) c.as_slice.ensures.value
    c.in-Some.ensures.found in
    let more = mark_entry c.args.slot c.args.until (entry halves i) in
    roster_marked c.args.slot c.args.until halves c.mark_at.new.halves.items own.index.items own.once own.holes own.next
    own.called.items c.push.new.self.items c.self.invariant
    (c.mark_at.ensures
    ∙ one_marked c.args.slot c.args.until halves i
    (others_differ halves own.index.items c.args.slot i (c.self.invariant.indexed known) stands.half stands.here
    stands.own))
    (subst (λ (hs : List (Option HeldControl)). OnlyCalled hs c.push.new.self.items) (sym c.mark_at.ensures)
    (subst (λ (xs : List ℕ). OnlyCalled (set halves i more) xs) (sym c.in_ok-push-in-Some.ensures.items)
    (called_set halves own.called.items i more c.self.invariant.only)))

pub returns-in_ok-push-in-Some : goal.returns-in_ok-push-in-Some
returns-in_ok-push-in-Some c =
    let own = c.self.inside in
    let halves = own.halves.items in
    let new = c.mark_at.new.halves.items in
    let i = c.in-Some.index in
    let known : own.once ≡ true = search rules in
    let stands =
    subst (λ (hs : List (Option HeldControl)). StandsAt hs c.args.slot i) c.as_slice.ensures.value
    c.in-Some.ensures.found in
    subst
    (λ (now : RosterNow).
    now_of (present new) (place_at new own.next)
    ≡ now_of (map (marked c.args.slot c.args.until) now.held) now.cursor)
    c.self.view_is
    (marked_is c.args.slot c.args.until halves new own.next
    (c.mark_at.ensures
    ∙ one_marked c.args.slot c.args.until halves i
    (others_differ halves own.index.items c.args.slot i (c.self.invariant.indexed known) stands.half stands.here
    stands.own)))
