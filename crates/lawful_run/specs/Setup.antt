-- The setup of the gateway, as far as the entries of a trace depend on it.
use Rattle.std.specs.Prelude.{ℕ}

-- One thread does line after line. Or slices share the work: so many of them, with room for so many waiting commands
-- or parked packets of a subscriber, and lanes that hold so many items of a slice.
pub data Setup : Type 0 where
  solo : Setup
  sliced : (slices room lane : ℕ) → Setup

-- how many slices a move may name: on one thread each of the 64 that there can be
abbrev pub slices_of : Setup → ℕ
slices_of solo = 64
slices_of (sliced slices room lane) = slices
