-- What is known of a bench.
use Rattle.std.specs.Prelude.{◌≡◌}
use Rattle.front_core.specs.Words.{latest_in}
use Rattle.check_fronts.specs.declared.bench.Bench.{Bench}
use Rattle.check_fronts.specs.Benches.{IsGateway, IsOpen}

-- its gateway is in an epoch whose front knows all, and its last moment is the front's
pub record Stands (bench : Bench) : Type 0 where
  pub setup : IsGateway bench.setup
  pub open_ : IsOpen bench.opened
  pub latest : latest_in bench.opened.front ≡ bench.latest
