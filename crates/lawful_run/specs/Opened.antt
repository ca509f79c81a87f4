-- The entry of a command or packet, which is left open for what becomes of it: it was taken, or refused.
use Rattle.std.specs.Prelude.{ℕ, Bool, true, false, None}
use Rattle.pc_base.specs.declared.packet.Verdict.TheVariants.{NoBearer}
use Rattle.pc_base.specs.declared.reply.Outcome.TheVariants.{Done}
use Rattle.report_lines.specs.declared.entry.LineEntry.{LineEntry}
use Rattle.report_lines.specs.declared.entry.LineEntry.TheVariants as line

abbrev pub open_command : (n slot : ℕ) → Bool → LineEntry
open_command n slot true =
    line.C (record { line = n; slot = slot; number = 0; reply = record { outcome = Done; message = None } })
open_command n slot false = line.F (record { line = n; slot = slot; packet = false })

abbrev pub open_packet : (n slot : ℕ) → (taken parked : Bool) → LineEntry
open_packet n slot true parked = line.P (record {
  line = n;
  slot = slot;
  number = 0;
  commands = 0;
  verdict = NoBearer;
  place = None;
  parked = parked;
})
open_packet n slot false parked = line.F (record { line = n; slot = slot; packet = true })
