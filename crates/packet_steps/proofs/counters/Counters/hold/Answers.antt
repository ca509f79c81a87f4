use Rattle.std.proofs.Common.{◌≡◌, ◌≤◌, true, List, Some, IfSome, refl, sym, subst, rules}
use Rattle.packet_steps.specs.Rows.{HeldRow, held_in_order}
use Rattle.packet_steps.specs.Standing.{CountersState}
use Rattle.packet_steps.proofs.OrderLemmas.{held_by, held_push}
use Rattle.packet_steps.proofs.StandingLemmas.{holds_stand}
use Rattle.packet_steps.proofs.counters.Counters.hold.Goals as goal

pub returns-clause-stands : goal.returns-clause-stands
returns-clause-stands c = λ past taken stands late.
    let row : HeldRow = record {
      packet = record { number = c.args.number; moment = c.args.moment; way = c.args.way; octets = c.args.octets.now };
      life = c.args.life;
    } in
    holds_stand c.args.self.now _ past taken c.args.moment row stands late (search rules)

pub invariant_of-self-2 : goal.invariant_of-self-2
invariant_of-self-2 c =
    let row : HeldRow = record {
      packet = record { number = c.args.number; moment = c.args.moment; way = c.args.way; octets = c.of.result };
      life = c.args.life;
    } in
    subst (λ (rows : List HeldRow). held_in_order (Some c.args.moment) rows ≡ true) (sym c.in_ok-push.ensures.items)
    (held_push c.args.moment c.self.inside.held.items row refl
    (held_by c.self.inside.last c.args.moment c.self.inside.held.items
    (subst (λ (s : CountersState). IfSome s.last (λ last. last ≤ c.args.moment)) (sym c.self.view_is) c.requires.late)
    c.self.invariant))
