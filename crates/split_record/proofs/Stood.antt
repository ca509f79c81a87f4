-- Counters that are known to represent a past do so: how they do is known from the past itself.
use Rattle.std.proofs.Common.{ℕ, List, [], ◌∷◌}
use Rattle.std.proofs.Math.Logic.{∥∥₁_elim}
use Rattle.std.proofs.Props.{props}
use Rattle.std.specs.Coded.{×_prop, Unit-prop}
use Rattle.std.specs.List.{AllByRecursion-prop}
use Rattle.bearer_state.specs.Bearer.{EachPair}
use Rattle.bearer_state.specs.Version.{IsActiveBefore}
use Rattle.packet_steps.specs.Standing as counters
use Rattle.gate_model.specs.declared.event.Event.{Event}
use Rattle.gate_model.specs.SlotPast.{past_of}
use Rattle.gate_model.specs.Versions.{OpenLivesAreActive}
use Rattle.gate_model.proofs.Sound.{past_sound}

EachPair-prop : {X : Type 0} (R : X → X → Type 0) → ((x y : X) → IsProp (R x y)) → (xs : List X) → IsProp (EachPair R xs)
EachPair-prop R each [] = Unit-prop
EachPair-prop R each (x ∷ xs) = ×_prop (AllByRecursion-prop (R x) (each x) xs) (EachPair-prop R each xs)

pub stands_for : OpenLivesAreActive → (slot : ℕ) (events : List Event) (stood : counters.CountersState) (taken : ℕ)
    → ∥ counters.StandsFor stood (past_of slot events).packets taken ∥₁
    → counters.StandsFor stood (past_of slot events).packets taken
stands_for opened slot events stood taken known =
    let past = (past_of slot events).packets in
    record {
      meters = ∥∥₁_elim known (hlevel props) (λ (s : counters.StandsFor stood past taken). s.meters);
      charges = record {
        lawful = (past_sound slot events).packets.lawful;
        opens = ∥∥₁_elim known (hlevel props) (λ (s : counters.StandsFor stood past taken). s.charges.opens);
        moments = ∥∥₁_elim known (hlevel props) (λ (s : counters.StandsFor stood past taken). s.charges.moments);
        rows = ∥∥₁_elim known (hlevel props) (λ (s : counters.StandsFor stood past taken). s.charges.rows);
        within = ∥∥₁_elim known (hlevel props) (λ (s : counters.StandsFor stood past taken). s.charges.within);
      };
      held = ∥∥₁_elim known (hlevel props) (λ (s : counters.StandsFor stood past taken). s.held);
      last = ∥∥₁_elim known (hlevel props) (λ (s : counters.StandsFor stood past taken). s.last);
      open_lives = opened slot events;
      rates = ∥∥₁_elim known (hlevel props) (λ (s : counters.StandsFor stood past taken). s.rates);
      ranges = record {
        number = ∥∥₁_elim known (hlevel props) (λ (s : counters.StandsFor stood past taken). s.ranges.number);
        up = ∥∥₁_elim known (hlevel props) (λ (s : counters.StandsFor stood past taken). s.ranges.up);
        down = ∥∥₁_elim known (hlevel props) (λ (s : counters.StandsFor stood past taken). s.ranges.down);
        rates = ∥∥₁_elim known (hlevel props) (λ (s : counters.StandsFor stood past taken). s.ranges.rates);
        each = ∥∥₁_elim known (hlevel props) (λ (s : counters.StandsFor stood past taken). s.ranges.each);
        apart = ∥∥₁_elim known (EachPair-prop IsActiveBefore (λ a b. hlevel props) past.version.bearers)
            (λ (s : counters.StandsFor stood past taken). s.ranges.apart);
        rows = ∥∥₁_elim known (hlevel props) (λ (s : counters.StandsFor stood past taken). s.ranges.rows);
        none_if_not_live = ∥∥₁_elim known (hlevel props)
            (λ (s : counters.StandsFor stood past taken). s.ranges.none_if_not_live);
      };
    }
