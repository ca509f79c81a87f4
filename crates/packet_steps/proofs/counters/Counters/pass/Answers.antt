use Rattle.std.proofs.Common.{◌≤◌, IfSome, [], ◌∷◌, sym, ◌∙◌, ap, subst, refl}
use Rattle.charging_book.specs.Accounts as book
use Rattle.packet_steps.specs.Meters.{put_bucket}
use Rattle.charging_book.specs.Posted.{GoesFar}
use Rattle.packet_steps.specs.Running.{charge_of}
use Rattle.packet_steps.proofs.StandingLemmas.{may_charge, passes_stand}
use Rattle.packet_steps.specs.Standing.{CountersState}
use Rattle.packet_steps.proofs.OrderLemmas.{held_by}
use Rattle.packet_steps.proofs.RunningLemmas.{goes_once}
use Rattle.packet_steps.proofs.counters.Counters.pass.Goals as goal

pub returns-clause-stands : goal.returns-clause-stands
returns-clause-stands c = λ past taken stands late few there behind.
    let old = c.args.self.now in
    let bearer = c.args.bearer.now in
    let charges = subst (λ b. book.StandsFor b past.charged taken)
    (sym (ap (λ counters. counters.book) c.self.view_is)) stands.charges in
    passes_stand old _ past taken c.args.moment c.args.octets bearer c.args.up c.args.bucket stands late there behind
    (c.put.ensures ∙ ap (λ meters. put_bucket meters bearer c.args.up c.args.bucket)
    (c.keep_place.ensures.same ∙ ap (λ (counters : CountersState). counters.meters) c.self.view_is))
    (c.in_ok-post_one.ensures.stands past.charged taken charges
    (may_charge old past taken c.args.moment c.args.octets bearer c.args.up stands there few))
    (ap (λ counters. counters.held) c.self.view_is) refl

pub returns-clause-book : goal.returns-clause-book
returns-clause-book c =
    let now = charge_of c.args.bearer.now c.args.up c.args.octets c.args.moment in
    subst (λ b. GoesFar b c.post_one.new.self (now ∷ [])) (ap (λ counters. counters.book) c.self.view_is)
    (goes_once _ c.post_one.new.self now c.in_ok-post_one.ensures.pieces)

pub invariant_of-self-2 : goal.invariant_of-self-2
invariant_of-self-2 c = held_by c.self.inside.last c.args.moment c.self.inside.held.items
    (subst (λ (s : CountersState). IfSome s.last (λ last. last ≤ c.args.moment)) (sym c.self.view_is) c.requires)
    c.self.invariant
