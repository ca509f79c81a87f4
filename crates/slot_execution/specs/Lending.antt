-- The octets that a lent verdict has.
use Rattle.std.specs.Prelude.{◌≡◌, ℕ, List}
use Rattle.pc_base.specs.declared.packet.Verdict.{Verdict}
use Rattle.pc_base.specs.declared.packet.Verdict.TheVariants as verdict
use Rattle.packet_steps.specs.Messages.{gpdu}
use Rattle.packet_steps.specs.declared.lent.LentVerdict.{LentVerdict}
use Rattle.packet_steps.specs.declared.lent.LentVerdict.TheVariants as lent

-- if it has octets, then these
abbrev pub HasOctets : LentVerdict → List ℕ → Type 0
HasOctets (lent.Up life own) octets = own.now ≡ octets
HasOctets (lent.Down life peer own) octets = own.now ≡ octets
HasOctets lent.NoBearer octets = Unit {0}
HasOctets lent.Spoof octets = Unit {0}
HasOctets (lent.Idle life) octets = Unit {0}
HasOctets (lent.Held life message) octets = Unit {0}
HasOctets (lent.Policed life) octets = Unit {0}

-- the verdict with other octets
abbrev pub verdict_with : LentVerdict → List ℕ → Verdict
verdict_with (lent.Up life own) octets = verdict.Up life octets
verdict_with (lent.Down life peer own) octets = verdict.Down life peer.addr (gpdu peer octets)
verdict_with lent.NoBearer octets = verdict.NoBearer
verdict_with lent.Spoof octets = verdict.Spoof
verdict_with (lent.Idle life) octets = verdict.Idle life
verdict_with (lent.Held life message) octets = verdict.Held life message
verdict_with (lent.Policed life) octets = verdict.Policed life
