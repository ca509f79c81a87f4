-- The lanes stay as they are.
use Rattle.std.proofs.Common.{ℕ, List, inl, inr}
use Rattle.demux.specs.Trace.{Meaning, command, packet, move, note}
use Rattle.subscriber.specs.Standing.{SubscriberState}
use Rattle.front_core.specs.declared.halves.Halves.{Halves}
use Rattle.front_core.specs.Steps.{IsReady, SidesKeep}
use Rattle.front_core.proofs.Settling.{sides_then}
use Rattle.front_core.specs.declared.taken.OpenEntry.{OpenEntry}
use Rattle.front_core.specs.Taking.{Takes}

ready_sides : (slot : ℕ) (was is : SubscriberState) (old new : Halves) → IsReady slot was is old new
    → SidesKeep old new
ready_sides slot was is old new (inl split) = split.settles.sides
ready_sides slot was is old new (inr admits) = admits.sides

pub takes_sides : (n tries : ℕ) (now : Meaning) (open_ : OpenEntry) (subs after : List SubscriberState) (old new : Halves)
    → Takes n tries now open_ subs after old new → SidesKeep old new
takes_sides n tries (command slot c) open_ subs after old new takes =
    let first = ready_sides slot takes.ready.was takes.ready.is old takes.mid takes.ready.ready in
    elim takes.came [
      | inl came ↦
          sides_then old takes.mid new first (sides_then takes.mid came.mid new came.settles.sides came.sent.sides)
      | inr came ↦ sides_then old takes.mid new first came.settles.sides
    ]
takes_sides n tries (packet slot p) open_ subs after old new takes =
    let first = ready_sides slot takes.ready.was takes.ready.is old takes.mid takes.ready.ready in
    elim takes.came [
      | inl came ↦
          sides_then old takes.mid new first (sides_then takes.mid came.mid new came.settles.sides came.received.sides)
      | inr came ↦ sides_then old takes.mid new first came.settles.sides
    ]
takes_sides n tries (move slot slice text) open_ subs after old new takes = takes.moves.sides
takes_sides n tries (note text) open_ subs after old new takes = takes.still.sides
