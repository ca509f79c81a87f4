-- What lines mean that are kept until their epoch ends.
use Rattle.std.specs.Prelude.{◌≡◌, ℕ, List, [], ◌∷◌, ◌++◌, All, map}
use Rattle.std.specs.List.{flat_map}
use Rattle.demux.specs.Meant.{meaning_of}
use Rattle.demux.specs.Trace.{Meaning, command, packet, move, note}
use Rattle.demux.specs.declared.meant.Meant.{Meant}
use Rattle.epoch_schedule.specs.Lines.{asked}
use Rattle.epoch_schedule.specs.declared.ask.LineAsk.{LineAsk}
use Rattle.epoch_drive.specs.Driven.{asks_of}
use Rattle.subscriber.specs.Standing.{SubscriberState}
use Rattle.epoch_drive.specs.declared.kept.EpochLines.{EpochLines}
use Rattle.slot_execution.specs.Kept.{IsPlaced, meaning_in}
use Rattle.slot_execution.specs.declared.kept.KeptMeaning.{KeptMeaning}

-- the octets of its packet, if it means one
abbrev pub packet_octets : Meaning → List ℕ
packet_octets (command slot c) = []
packet_octets (packet slot p) = p.ip
packet_octets (move slot slice text) = []
packet_octets (note text) = []

-- what a line means is kept, with the octets of its packet behind those before
pub record Keeps (old new : List ℕ) (now : Meant) (it : KeptMeaning) : Type 0 where
  pub grown : new ≡ old ++ packet_octets (meaning_of now)
  pub means : meaning_in new it ≡ meaning_of now
  pub placed : IsPlaced new it

-- one line more is kept, with what it asks of the schedule
pub record Adds (old new : EpochLines) (it : KeptMeaning) : Type 0 where
  pub ask : LineAsk
  pub asked_so : (octets : List ℕ) → asked ask ≡ asks_of (meaning_in octets it)
  pub asks : new.asks.items ≡ old.asks.items ++ ask ∷ []
  pub lines : new.lines.items ≡ old.lines.items ++ it ∷ []
  pub octets : new.octets.items ≡ old.octets.items
  pub bounds : new.bounds.items ≡ old.bounds.items

-- .. which is what this line means
pub record KeepsLine (old new : EpochLines) (now : Meant) : Type 0 where
  pub it : KeptMeaning
  pub ask : LineAsk
  pub asked_so : (octets : List ℕ) → asked ask ≡ asks_of (meaning_in octets it)
  pub asks : new.asks.items ≡ old.asks.items ++ ask ∷ []
  pub lines : new.lines.items ≡ old.lines.items ++ it ∷ []
  pub keeps : Keeps old.octets.items new.octets.items now it
  pub bounds : new.bounds.items ≡ old.bounds.items

-- what the lines of an epoch mean
abbrev pub meanings : EpochLines → List Meaning
meanings lines = map (meaning_in lines.octets.items) lines.lines.items

-- they mean this, their packets stand there and nothing else does, and they ask of the schedule what that asks
pub record AreKept (made : List Meaning) (lines : EpochLines) : Type 0 where
  pub mean : meanings lines ≡ made
  pub octets : lines.octets.items ≡ flat_map packet_octets made
  pub placed : All (IsPlaced lines.octets.items) lines.lines.items
  pub ask : map asked lines.asks.items ≡ map asks_of made

-- slots are bound for where these subscribers are
abbrev pub AreBounds : List SubscriberState → EpochLines → Type 0
AreBounds subscribers lines = lines.bounds.items ≡ map (λ (s : SubscriberState). s.destination) subscribers

-- there are none yet
pub record AreNone (subscribers : List SubscriberState) (lines : EpochLines) : Type 0 where
  pub kept_none : AreKept [] lines
  pub bounds : AreBounds subscribers lines
