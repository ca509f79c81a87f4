use Rattle.std.proofs.Common.{rules, ℕ, ◌<◌, ◌≤◌, ◌||◌, List, length, refl, subst, sym, ap, ◌∙◌, arith}
use Rattle.std.proofs.lemmas.Bool.{eq-eqb}
use Rattle.epoch_schedule.specs.Busy.{InOrder}
use Rattle.epoch_schedule.specs.Rounds.{place_held}
use Rattle.epoch_schedule.specs.Waiting.{is_in}
use Rattle.epoch_schedule.proofs.Busied.{in_at, in_insert, order_insert, strictly_behind}
use Rattle.epoch_schedule.proofs.Kept.{on_ok}
use Rattle.epoch_schedule.proofs.SlotSets.{or_more}
use Rattle.epoch_schedule.proofs.busy.wake_on.Goals as goal

pub returns-then-not-has : goal.returns-then-not-has
returns-then-not-has c =
    let held = c.args.roster.now.held in
    let none : length held ≤ place_held c.args.slot held = search rules in
    record {
      ordered = c.requires;
      own = λ there. absurd (omega (arith, none, there));
      more = λ s is. is;
    }

pub returns-then-stands_at : goal.returns-then-stands_at
returns-then-stands_at c =
    let list : List ℕ = c.args.list.now in
    record {
      ordered = c.requires;
      own = λ there.
          ap (is_in list) (sym c.if-stands_at.ensures.own)
          ∙ in_at list c.place_among-place.result c.if-stands_at.ensures.within;
      more = λ s is. is;
    }

pub returns : goal.returns
returns c =
    let held = c.args.roster.now.held in
    let list : List ℕ = c.args.list.now in
    let slot = c.args.slot in
    let place = c.place_among-place.result in
    let few : place ≤ length list = c.place_among-place.ensures.few in
    let there : place_held slot held < length held = search rules in
    on_ok c.insert.result (λ is. record {
      ordered = subst (InOrder 0 (length held) held) (sym is)
          (order_insert 0 (length held) held list place slot few c.requires c.place_among-place.ensures.before
          (λ within. strictly_behind held list place slot there
          (c.place_among-place.ensures.behind place (omega arith) within) (c.if-stands_at.ensures.other within))
          (omega arith) there);
      own = λ here.
          ap (λ (xs : List ℕ). is_in xs slot) is ∙ in_insert list place slot slot few
          ∙ ap (λ test. test || is_in list slot) (eq-eqb slot slot refl);
      more = λ s stands.
          ap (λ (xs : List ℕ). is_in xs s) is ∙ in_insert list place slot s few
          ∙ or_more _ (is_in list s) stands;
    }) c.insert.ensures
