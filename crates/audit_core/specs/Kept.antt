-- What lines mean that are kept until their epoch is judged.
use Rattle.std.specs.Prelude.{◌≡◌, ℕ, List, ◌++◌, All, map}
use Rattle.demux.specs.Meant.{meaning_of}
use Rattle.demux.specs.Trace.{Meaning}
use Rattle.demux.specs.declared.meant.Meant.{Meant}
use Rattle.slot_execution.specs.Kept.{IsPlaced, meaning_in}
use Rattle.slot_execution.specs.declared.kept.KeptMeaning.{KeptMeaning}

-- what lines mean
abbrev pub meanings_in : List ℕ → List KeptMeaning → List Meaning
meanings_in octets lines = map (meaning_in octets) lines

-- their packets stand among the octets
abbrev pub ArePlaced : List ℕ → List KeptMeaning → Type 0
ArePlaced octets lines = All (IsPlaced octets) lines

-- what a line means is kept, with these octets behind those before
pub record Keeps (old new : List ℕ) (now : Meant) (it : KeptMeaning) : Type 0 where
  pub more : List ℕ
  pub grown : new ≡ old ++ more
  pub means : meaning_in new it ≡ meaning_of now
  pub placed : IsPlaced new it
