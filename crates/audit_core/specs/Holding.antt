-- Lines and epochs, as the program holds them.
use Rattle.std.specs.Prelude.{ℕ, ◌+◌, ◌<◌, All, IfSome, List, [], ◌∷◌, length, map}
use Rattle.demux.specs.Meant.{meaning_of}
use Rattle.demux.specs.Trace.{Meaning}
use Rattle.demux.specs.declared.meant.Meant.{Meant}
use Rattle.lawful_run.specs.LinesTold.{LineTold}
use Rattle.audit_core.specs.Meant.{slot_in}
use Rattle.audit_core.specs.OfSlot.{AreAnswered}

-- what lines mean, and what those of each epoch do
abbrev pub meant_of : List Meant → List Meaning
meant_of lines = map meaning_of lines

-- a line is about a slot below so many, or about none
abbrev pub IsKnown : ℕ → Meaning → Type 0
IsKnown slots now = IfSome (slot_in now) (λ slot. slot < slots)

-- so is each line of each epoch
abbrev pub AreKnown : ℕ → List (List Meaning) → Type 0
AreKnown slots epochs = All (All (IsKnown slots)) epochs

abbrev pub AreKnownTold : ℕ → List LineTold → Type 0
AreKnownTold slots lines = All (λ (told : LineTold). IsKnown slots told.meaning) lines

-- the lines of each epoch have their answers, from the line of this number on
abbrev pub EpochsAnswered : ℕ → List (List LineTold) → Type 0
EpochsAnswered n [] = Unit {0}
EpochsAnswered n (lines ∷ epochs) = AreAnswered n lines × EpochsAnswered (n + length lines) epochs

-- what the lines of each epoch mean
abbrev pub meanings_told : List (List LineTold) → List (List Meaning)
meanings_told epochs = map (λ (lines : List LineTold). map (λ (told : LineTold). told.meaning) lines) epochs
