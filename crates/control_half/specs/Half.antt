-- What a clause says of a control half.
use Rattle.std.specs.Prelude.{◌≡◌, ℕ}
use Rattle.lane_core.specs.Ends.{sender_lane, receiver_lane, sent, empty_answers, full_answers}
use Rattle.bearer_state.specs.contracts.version.VersionNumbered.TheImpl.{ghosts}
use Rattle.lane_core.specs.declared.did.Did.{Did}
use Rattle.control_half.specs.declared.half.ControlHalf.{ControlHalf}
use Rattle.control_half.specs.declared.inner.ControlInner.{ControlInner}
use Rattle.control_half.specs.declared.making.ControlEnd.{ControlEnd}
use Rattle.control_half.specs.Named.{Named}
use Rattle.control_half.specs.Turns.{Seen, Ended}

abbrev pub inner_name : ControlInner → Named
inner_name inner = record {
  session = inner.started;
  number = inner.first;
  commands = receiver_lane inner.commands;
  versions = sender_lane inner.versions;
}

abbrev pub name_of : ControlHalf → Named
name_of half = inner_name half.inner.value

-- how often it was turned, and worked, and had moved
abbrev pub turns_of : ControlHalf → ℕ
turns_of half = half.inner.value.turns

abbrev pub works_of : ControlHalf → ℕ
works_of half = half.inner.value.works

abbrev pub hop_of : ControlHalf → ℕ
hop_of half = half.inner.value.hop

abbrev pub done_of : ControlHalf → ℕ
done_of half = half.inner.value.control.number

-- its name, its hop, and its counts of turns
pub record IsSameHalf (old new : ControlInner) : Type 0 where
  pub name : inner_name new ≡ inner_name old
  pub hop : new.hop ≡ old.hop
  pub turns : new.turns ≡ old.turns
  pub works : new.works ≡ old.works

abbrev pub end_name : ControlEnd → Named
end_name end = record {
  session = end.started;
  number = end.first;
  commands = receiver_lane end.commands;
  versions = sender_lane end.versions;
}

-- what a turn sees of it
abbrev pub seen_of : ControlInner → Seen ghosts
seen_of inner = record {
  hop = inner.hop;
  head = inner.head;
  batch = inner.batch;
  sent = sent inner.versions;
  number = inner.control.number;
  empties = empty_answers inner.commands;
  fulls = full_answers inner.versions;
}

-- why a turn of a half ended as it did
abbrev pub HalfEnded : ControlHalf → ControlHalf → Did → Type 0
HalfEnded old new did = Ended did (seen_of old.inner.value) (seen_of new.inner.value)
