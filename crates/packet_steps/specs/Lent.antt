-- The verdict that a lent one is: a packet that goes down is in the tunnel to its eNodeB.
use Rattle.pc_base.specs.declared.packet.Verdict.{Verdict}
use Rattle.pc_base.specs.declared.packet.Verdict.TheVariants as verdict
use Rattle.packet_steps.specs.declared.lent.LentVerdict.{LentVerdict}
use Rattle.packet_steps.specs.declared.lent.LentVerdict.TheVariants as lent
use Rattle.packet_steps.specs.Messages.{gpdu}

abbrev pub verdict_of : LentVerdict → Verdict
verdict_of (lent.Up life octets) = verdict.Up life octets.now
verdict_of (lent.Down life peer octets) = verdict.Down life peer.addr (gpdu peer octets.now)
verdict_of lent.NoBearer = verdict.NoBearer
verdict_of lent.Spoof = verdict.Spoof
verdict_of (lent.Idle life) = verdict.Idle life
verdict_of (lent.Held life message) = verdict.Held life message
verdict_of (lent.Policed life) = verdict.Policed life
