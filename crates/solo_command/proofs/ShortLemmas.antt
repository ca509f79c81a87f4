-- A packet that goes down is in its tunnel as it came: no longer than IPv4 allows.
use Rattle.std.proofs.Common.{◌≡◌, ℕ, ◌+◌, ◌<◌, ◌^◌, List, length, sym, subst, arith}
use Rattle.gate_model.proofs.Outcomes.{length-gpdu}
use Rattle.packet_steps.specs.declared.lent.LentVerdict.{LentVerdict}
use Rattle.packet_steps.specs.declared.lent.LentVerdict.TheVariants as lent
use Rattle.packet_steps.specs.declared.plan.Plan.{Plan}
use Rattle.packet_steps.specs.declared.plan.Plan.TheVariants as plan
use Rattle.packet_steps.specs.Lent.{verdict_of}
use Rattle.packet_steps.specs.Plans.{verdict_by}
use Rattle.pc_base.specs.declared.packet.Verdict.{Verdict}
use Rattle.pc_base.specs.declared.packet.Verdict.TheVariants as verdict
use Rattle.report_lines.specs.Lent.{IsShort}

-- what goes down is eight octets longer than the packet
abbrev GoesDownAs : ℕ → Verdict → Type 0
GoesDownAs n (verdict.Up life octets) = Unit {0}
GoesDownAs n (verdict.Down life peer octets) = length octets ≡ n + 8
GoesDownAs n verdict.NoBearer = Unit {0}
GoesDownAs n verdict.Spoof = Unit {0}
GoesDownAs n (verdict.Idle life) = Unit {0}
GoesDownAs n (verdict.Held life message) = Unit {0}
GoesDownAs n (verdict.Policed life) = Unit {0}

planned_so : (made : Plan) (octets : List ℕ) → GoesDownAs (length octets) (verdict_by made octets)
planned_so plan.NoBearer octets = tt
planned_so plan.Spoof octets = tt
planned_so (plan.Idle life) octets = tt
planned_so (plan.Hold life message) octets = tt
planned_so (plan.Policed bearer up bucket) octets = tt
planned_so (plan.Up bearer bucket len) octets = tt
planned_so (plan.Down bearer peer bucket len) octets = length-gpdu peer octets

short_of : (lent : LentVerdict) (n : ℕ) → GoesDownAs n (verdict_of lent) → n < 2 ^ 16 → IsShort lent
short_of (lent.Up life octets) n is few = tt
short_of (lent.Down life peer octets) n is few = omega (arith, few, is, length-gpdu peer octets.now)
short_of lent.NoBearer n is few = tt
short_of lent.Spoof n is few = tt
short_of (lent.Idle life) n is few = tt
short_of (lent.Held life message) n is few = tt
short_of (lent.Policed life) n is few = tt

pub is_short : (lent : LentVerdict) (made : Plan) (octets : List ℕ) → verdict_of lent ≡ verdict_by made octets
    → length octets < 2 ^ 16 → IsShort lent
is_short lent made octets same few =
    short_of lent (length octets) (subst (GoesDownAs (length octets)) (sym same) (planned_so made octets)) few
