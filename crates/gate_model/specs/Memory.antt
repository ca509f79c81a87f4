-- What the plain gateway keeps of packets: the past of its slot but for the version, which its session has.
use Rattle.std.specs.Prelude.{ℕ, List, Option}
use Rattle.bearer_state.specs.Version.{VersionState}
use Rattle.charging_book.specs.Happenings.{Happening}
use Rattle.packet_steps.specs.Rows.{ForwardedRow, HeldRow}
use Rattle.packet_steps.specs.Past.{Past}

-- what was forwarded, what is held, the moment of the last packet, and what happened to the charging book
pub record MemoryState : Type 0 where
  pub forwarded : List ForwardedRow
  pub held : List HeldRow
  pub last : Option ℕ
  pub charged : List Happening

-- the past that these are at a version
abbrev pub past_at : VersionState → MemoryState → Past
past_at version memory = record {
  version = version;
  forwarded = memory.forwarded;
  held = memory.held;
  last = memory.last;
  charged = memory.charged;
}
