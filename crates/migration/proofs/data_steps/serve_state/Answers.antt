use Rattle.std.proofs.Common.{◌≡◌, ℕ, true, true≢false, List, refl, sym, ◌∙◌}
use Rattle.worker_core.specs.DataDesks.{DataDesk}
use Rattle.migration.specs.declared.data_place.DataState.{DataState}
use Rattle.migration.specs.declared.data_place.DataState.TheVariants.{Front, Placed, Recall, Leaving}
use Rattle.migration.specs.DataPlaces.{is_placed}
use Rattle.migration.specs.DataSteps.{Serves}
use Rattle.migration.proofs.data_steps.serve_state.Goals as goal

-- a half that is placed waits for nothing
placed_serves : {H I : Type 0} (slot : ℕ) (state : DataState H) (desks : List (DataDesk H I)) → is_placed state ≡ true
    → Serves slot state state desks desks
placed_serves slot (Front half to) desks is = absurd (true≢false (sym is))
placed_serves slot (Placed at) desks is = (refl, refl)
placed_serves slot (Recall at to) desks is = absurd (true≢false (sym is))
placed_serves slot (Leaving from to) desks is = absurd (true≢false (sym is))

pub returns-then-placed-clause-serves : goal.returns-then-placed-clause-serves
returns-then-placed-clause-serves g c =
    placed_serves c.args.slot c.args.state.now c.args.desks.now.items (sym c.placed.ensures ∙ c.if-placed.true)
