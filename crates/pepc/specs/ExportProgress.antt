-- How far an export has come.
use Rattle.std.specs.Prelude.{◌≡◌, ℕ, ◌⊎◌, List, [], ◌++◌, Option}
use Rattle.std.specs.Io.KnownBytes.{Appends}
use Rattle.trace_lines.specs.Line.{Line}
use Rattle.pcap_form.specs.Export.{export_of}

-- nothing, or the capture of some first ones of these lines
pub record IsFirst (sent : List ℕ) (done : List Line) : Type 0 where
  pub closed : List Line
  pub open_ : List Line
  pub cut : done ≡ closed ++ open_
  pub capture : (sent ≡ []) ⊎ (sent ≡ export_of closed)

-- the capture of some first ones of these lines is written, and the rest of it waits
pub record Captures (waiting : List ℕ) (done : List Line) (old new : Option (List ℕ)) : Type 0 where
  pub sent : List ℕ
  pub written : Appends old new sent
  pub first : IsFirst sent done
  pub waits : export_of done ≡ sent ++ waiting

-- a prefix of the capture of these lines is written
pub record BreaksOff (done : List Line) (old new : Option (List ℕ)) : Type 0 where
  pub sent : List ℕ
  pub more : List ℕ
  pub written : Appends old new sent
  pub parts : export_of done ≡ sent ++ more
