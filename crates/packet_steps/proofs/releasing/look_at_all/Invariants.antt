use Rattle.std.proofs.Common.{◌≡◌, List, take}
use Rattle.std.specs.List.{fold}
use Rattle.charging_book.specs.Happenings.{Happening}
use Rattle.pc_base.specs.declared.effect.Effect.{Effect}
use Rattle.packet_steps.specs.Past.{Past, moment_of}
use Rattle.packet_steps.specs.Change.{released}
use Rattle.packet_steps.specs.Releases.{Releases}
use Rattle.packet_steps.specs.Running.{brought_by, brought_with}
use Rattle.packet_steps.proofs.releasing.look_at_all.Given as goal

-- what the packets that were looked at have brought
abbrev pub invariant-loop-row : goal.invariant-loop-row
invariant-loop-row l = record {
  releases : (base : List Happening) (so_far : Past × List Effect) → Releases l.fn.release base so_far
      → so_far.0.version ≡ l.after
      → moment_of so_far.0 ≡ l.at → Releases l.release base (fold released so_far (take l.row-index l.held));
  brings : brought_by l.release
      ≡ fold (brought_with l.after.bearers l.at) (brought_by l.fn.release) (take l.row-index l.held);
}
