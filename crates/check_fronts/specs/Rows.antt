-- What is known of a row.
use Rattle.check_fronts.specs.declared.rows.Row.{Row}
use Rattle.check_fronts.specs.declared.rows.Row.TheVariants as row
use Rattle.check_fronts.specs.Benches.{IsGateway}

-- the gateway of a trace is one over slices
abbrev pub IsRow : Row → Type 0
IsRow (row.Run run) = IsGateway run.setup
IsRow (row.Made seed runs) = Unit {0}
