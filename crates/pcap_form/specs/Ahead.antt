-- What a block holds, and what asking for octets comes to.
use Rattle.std.specs.Prelude.{◌≡◌, ℕ, ◌<◌, ◌≤◌, List, ◌++◌, length, Option}
use Rattle.std.specs.Io.KnownBytes.{Consumes, IsAtEnd}
use Rattle.pcap_form.specs.declared.block.Fill.{Fill}
use Rattle.pcap_form.specs.declared.block.Fill.TheVariants.{Enough, End, Full, Fault}

-- the octets taken and not yet passed, and the room from their start on
pub record Ahead : Type 0 where
  pub held : List ℕ
  pub room : ℕ

-- octets that a source gave stand behind those held
pub record Gains (old new : Ahead) (left left_now : Option (List ℕ)) : Type 0 where
  pub given : List ℕ
  pub held : new.held ≡ old.held ++ given
  pub consumed : Consumes left left_now given
  pub room : new.room ≡ old.room

-- how many are held, where so many are needed
abbrev pub Fills : Fill → ℕ → Ahead → Option (List ℕ) → Type 0
Fills Enough need now left = (need ≤ length now.held) × (length now.held ≤ now.room)
Fills End need now left = (length now.held < need) × (length now.held < now.room) × IsAtEnd left
Fills Full need now left = (length now.held < need) × (length now.held ≡ now.room)
Fills Fault need now left = (length now.held < need) × (length now.held < now.room)
