-- A kind as the code has it, and the octets beside it.
use Rattle.std.specs.Prelude.{ℕ, List}
use Rattle.trace_lines.specs.Kind.{LineKind}
use Rattle.trace_lines.specs.Kind as kind
use Rattle.trace_lines.specs.declared.line.LineKind.{LineKind as Bare}
use Rattle.trace_lines.specs.declared.line.LineKind.TheVariants as bare

-- what both say; octets beside a kind that has none say nothing
abbrev pub with_octets : Bare → List ℕ → LineKind
with_octets bare.S11 octets = kind.S11 octets
with_octets bare.S1u octets = kind.S1u octets
with_octets bare.Sgi octets = kind.Sgi octets
with_octets (bare.Attach imsi enb up down) octets = kind.Attach imsi enb up down
with_octets (bare.Bearer imsi qci mbr_up mbr_down gbr_up gbr_down) octets =
    kind.Bearer imsi qci mbr_up mbr_down gbr_up gbr_down octets
with_octets (bare.Filters imsi ebi) octets = kind.Filters imsi ebi octets
with_octets (bare.Drop imsi ebi) octets = kind.Drop imsi ebi
with_octets (bare.Ambr imsi up down) octets = kind.Ambr imsi up down
with_octets (bare.Move imsi slice) octets = kind.Move imsi slice
with_octets bare.Fence octets = kind.Fence
