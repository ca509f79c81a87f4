-- What was forwarded keeps within the rates.
use Rattle.std.specs.Prelude.{ℕ, Bool, List, ◌++◌, filter, IsTrue, Contains}
use Rattle.rate_policer.specs.Conforming.{ArePoliced}
use Rattle.bearer_state.specs.declared.version.ActiveBearer.{ActiveBearer}
use Rattle.bearer_state.specs.Qos.{is_guaranteed}
use Rattle.packet_steps.specs.Rows.{ForwardedRow}
use Rattle.packet_steps.specs.Policing.{mbr, ambr, is_of_life, is_of_rates, costs}
use Rattle.gate_model.specs.declared.event.Event.{Event}
use Rattle.gate_model.specs.SlotPast.{past_of, version_after}

-- what was forwarded for a slot
abbrev pub forwarded_after : ℕ → List Event → List ForwardedRow
forwarded_after slot events = (past_of slot events).packets.forwarded

-- All that was ever forwarded one way for the life of a bearer with a guaranteed rate conforms to its maximum rate.
abbrev pub LivesArePoliced : Type 0
LivesArePoliced = (slot : ℕ) (before after : List Event) (bearer : ActiveBearer) (up : Bool)
    → Contains (version_after slot before).bearers bearer
    → IsTrue (is_guaranteed bearer.qos.qci)
    → ArePoliced (mbr up bearer.qos) (costs (filter (is_of_life bearer.life up)
    (forwarded_after slot (before ++ after))))

-- All that was forwarded one way for the other bearers while the AMBR was set so often conforms to the AMBR.
abbrev pub SharesArePoliced : Type 0
SharesArePoliced = (slot : ℕ) (before after : List Event) (up : Bool)
    → let version = version_after slot before in
    ArePoliced (ambr up version) (costs (filter (is_of_rates version.rates up)
    (forwarded_after slot (before ++ after))))
