-- Subscribers between two epochs.
use Rattle.std.proofs.Common.{◌≤◌, arith, [], length, ap, sym, subst, unwrap_or}
use Rattle.std.proofs.Math.Logic.{∥∥₁_elim, ∥∥₁_map}
use Rattle.std.proofs.Props.{props}
use Rattle.gate_model.specs.SlotPast.{records_after}
use Rattle.bearer_state.specs.Session.{SessionState}
use Rattle.subscriber.specs.Standing.{FewEventsLeaveRoom, HasRoom}
use Rattle.at_rest.specs.Rest.{HasEvents, RestLeavesRoom, RestGoesOn, NewOneIsAtRest}

pub room_left : FewEventsLeaveRoom → RestLeavesRoom
room_left few_leave slices lines latest slot subscriber few rest =
    let room : HasEvents slot lines subscriber → HasRoom subscriber = λ has.
    few_leave subscriber slot has.events (length (records_after slot has.events)) has.represents
    (omega (arith, few, has.few)) in
    record {
      rates = ∥∥₁_elim rest.has_events (hlevel props) (λ has. (room has).rates);
      lives = ∥∥₁_elim rest.has_events (hlevel props) (λ has. (room has).lives);
      few = ∥∥₁_elim rest.has_events (hlevel props) (λ has. (room has).few);
    }

pub goes_on : RestGoesOn
goes_on slices lines latest slot subscriber more later lines_rise moments_rise rest = record {
  own = rest.own;
  bound = rest.bound;
  late = omega (arith, rest.late, moments_rise);
  has_events = ∥∥₁_map rest.has_events (λ (has : HasEvents slot lines subscriber). record {
    events = has.events;
    represents = has.represents;
    few = omega (arith, has.few, lines_rise);
  });
}

pub new_rests : NewOneIsAtRest
new_rests slices lines latest slot subscriber stands bound none = record {
  own = ap (λ (s : SessionState). s.slot) stands.session;
  bound = bound;
  late = subst (λ last. unwrap_or last 0 ≤ latest) (sym none) (omega (arith));
  has_events = ∣ record { events = []; represents = stands; few = omega (arith) } ∣₁;
}
