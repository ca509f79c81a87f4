-- How far the counts of a session rise.
use Rattle.std.specs.Prelude.{◌+◌, ◌≤◌}
use Rattle.bearer_state.specs.Session.{SessionState}
use Rattle.control_steps.specs.declared.command.CommandKind.{CommandKind}
use Rattle.control_steps.specs.Table.{controlled}

-- none falls, and each is one more at most
pub record RiseByOne (before after : SessionState) : Type 0 where
  pub lives_stay : before.lives ≤ after.lives
  pub lives : after.lives ≤ before.lives + 1
  pub rates_stay : before.rates ≤ after.rates
  pub rates : after.rates ≤ before.rates + 1

abbrev pub CountsRise : Type 0
CountsRise = (session : SessionState) (command : CommandKind) → RiseByOne session (controlled session command).0
