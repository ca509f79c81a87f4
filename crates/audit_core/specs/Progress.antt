-- How far an audit's input was read and heard.
use Rattle.std.specs.Prelude.{ℕ, ◌+◌, ◌<◌, ◌≤◌, ◌^◌, List, Option, vec_len}
use Rattle.pc_outside.specs.WhereTold.{WhereTold}
use Rattle.audit_core.specs.Heard.{HasHeard}
use Rattle.pc_outside.specs.Texts.{Text}
use Rattle.audit_core.specs.declared.heard.Heard.{Heard}
use Rattle.pc_outside.specs.declared.input_stop.InputStop.{InputStop}
use Rattle.pc_outside.specs.InputRead.{HasRead, Reached}

-- these lines were read and heard
pub record Progress (start ahead : Option (List ℕ)) (room : ℕ) (heard : Heard) (done : List Text) : Type 0 where
  pub read : WhereTold start ahead (λ octets rest. HasRead octets rest room done)
  pub hears : HasHeard heard done
  pub roomy : vec_len heard.lines + vec_len heard.lines + room ≤ 2 ^ 40

pub record Ends (stop : InputStop) (start left : Option (List ℕ)) (heard : Heard) : Type 0 where
  pub done : List Text
  pub hears : HasHeard heard done
  pub few : vec_len heard.lines + 1 < 2 ^ 40
  pub reached : WhereTold start left (λ octets rest. Reached stop octets rest done)
