-- Out of memory: the one answer of a call that has no cause in what it was given.
use Rattle.std.specs.Prelude.{◌≡◌, ◌⊎◌, Result, Err}

-- The answer is this one, unless memory ran out: then it is the error that says so.
abbrev pub OrNoMemory : {T E : Type 0} → Result T E → Result T E → E → Type 0
OrNoMemory answer this no_memory = (answer ≡ this) ⊎ (answer ≡ Err no_memory)
