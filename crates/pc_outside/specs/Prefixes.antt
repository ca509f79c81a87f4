-- What a write that failed appended.
use Rattle.std.specs.Prelude.{◌≡◌, ℕ, ◌<◌, List, ◌++◌, length, Option}
use Rattle.std.specs.Io.KnownBytes.{Appends}

-- known octets grow by a prefix of the octets, and not by all of them
pub record AppendsPrefix (old new : Option (List ℕ)) (octets : List ℕ) : Type 0 where
  pub prefix : List ℕ
  pub rest : List ℕ
  pub parts : octets ≡ prefix ++ rest
  pub some_left : 0 < length rest
  pub appended : Appends old new prefix
