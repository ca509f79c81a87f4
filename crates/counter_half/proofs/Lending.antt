-- A verdict has the octets of its packet, or none.
use Rattle.std.proofs.Common.{◌≡◌, ℕ, List, refl, sym, subst}
use Rattle.packet_steps.specs.Lent.{verdict_of}
use Rattle.packet_steps.specs.Plans.{verdict_by}
use Rattle.packet_steps.specs.declared.plan.Plan.{Plan}
use Rattle.packet_steps.specs.declared.plan.Plan.TheVariants as plan
use Rattle.packet_steps.specs.declared.lent.LentVerdict.{LentVerdict}
use Rattle.slot_execution.specs.Lending.{HasOctets}
use Rattle.slot_execution.proofs.LentOctets.{OfPacket, behind_header, has_lent}

by_plan : (octets : List ℕ) (made : Plan) → OfPacket octets (verdict_by made octets)
by_plan octets plan.NoBearer = tt
by_plan octets plan.Spoof = tt
by_plan octets (plan.Idle life) = tt
by_plan octets (plan.Hold life message) = tt
by_plan octets (plan.Policed bearer up bucket) = tt
by_plan octets (plan.Up bearer bucket len) = refl
by_plan octets (plan.Down bearer peer bucket len) = behind_header peer octets

pub has_octets : (made : Plan) (octets : List ℕ) (lent : LentVerdict) → verdict_of lent ≡ verdict_by made octets
    → HasOctets lent octets
has_octets made octets lent is = has_lent octets lent (subst (OfPacket octets) (sym is) (by_plan octets made))
