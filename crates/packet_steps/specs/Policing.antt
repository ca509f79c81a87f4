-- Which octets a bearer's rate lets through (TS 23.401, 4.7.3): a bearer with a guaranteed rate has its own maximum
-- each way; all others share the APN-AMBR each way, anew whenever it is set.
use Rattle.std.specs.Prelude.{ℕ, ◌==◌, ◌&&◌, Bool, true, false, not, if◌then◌else◌, List, map, filter}
use Rattle.rate_policer.specs.declared.cost.Cost.{Cost}
use Rattle.rate_policer.specs.Conforming.{cost_of, conforms}
use Rattle.bearer_state.specs.declared.qos.Qos.{Qos}
use Rattle.bearer_state.specs.declared.version.ActiveBearer.{ActiveBearer}
use Rattle.bearer_state.specs.Qos.{is_guaranteed}
use Rattle.bearer_state.specs.Version.{VersionState}
use Rattle.packet_steps.specs.Rows.{ForwardedRow}
use Rattle.packet_steps.specs.Past.{Past, moment_of}

-- the maximum rate of a bearer one way · the AMBR one way
abbrev pub mbr : Bool → Qos → ℕ
mbr true qos = qos.mbr_up
mbr false qos = qos.mbr_down

abbrev pub ambr : Bool → VersionState → ℕ
ambr true version = version.up
ambr false version = version.down

abbrev pub same_way : Bool → Bool → Bool
same_way true up = up
same_way false up = not up

-- what was forwarded for a life one way · without a guaranteed rate one way since the AMBR was set so often
abbrev pub is_of_life : ℕ → Bool → ForwardedRow → Bool
is_of_life life up row = row.life == life && same_way row.up up

abbrev pub is_of_rates : ℕ → Bool → ForwardedRow → Bool
is_of_rates rates up row = not (is_guaranteed row.qci) && (row.rates == rates && same_way row.up up)

-- the costs of rows
abbrev pub costs : List ForwardedRow → List Cost
costs rows = map (λ row. cost_of row.octets row.at) rows

-- the rate that polices a bearer one way, and what it has let through
abbrev pub rate_for : VersionState → ActiveBearer → Bool → ℕ
rate_for version bearer up = if is_guaranteed bearer.qos.qci then mbr up bearer.qos else ambr up version

abbrev pub is_policed_with : VersionState → ActiveBearer → Bool → ForwardedRow → Bool
is_policed_with version bearer up row =
    if is_guaranteed bearer.qos.qci then is_of_life bearer.life up row else is_of_rates version.rates up row

abbrev pub history_for : VersionState → ActiveBearer → Bool → List ForwardedRow → List ForwardedRow
history_for version bearer up rows = filter (is_policed_with version bearer up) rows

-- whether octets of a bearer pass now
abbrev pub passes : Past → ActiveBearer → Bool → ℕ → Bool
passes past bearer up octets =
    conforms (rate_for past.version bearer up) (costs (history_for past.version bearer up past.forwarded))
    (cost_of octets (moment_of past))
