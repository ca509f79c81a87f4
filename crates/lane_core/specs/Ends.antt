-- What a clause says of the two ends of a lane.
use Rattle.std.specs.Prelude.{◌≡◌, ℕ, ◌+◌, ◌-◌, ◌^◌, min, List, []}
use Rattle.std.specs.Arc.{arc_value}
use Rattle.atomic_table.specs.Seated.{TableId}
use Rattle.crossbeam_queue.specs.Passes.{view, ruled_capacity}
use Rattle.lane_core.specs.declared.ends.Sender.{Sender}
use Rattle.lane_core.specs.declared.ends.Receiver.{Receiver}

-- which lane it is, and how many places it has
pub record Lane : Type 0 where
  pub table : TableId
  pub room : ℕ

-- a count of answers one higher, which stays at the last u64
abbrev pub raised : ℕ → ℕ
raised n = min (n + 1) (2 ^ 64 - 1)

module _ {T : Type 0} where
  abbrev pub sender_lane : Sender T → Lane
  sender_lane tx = record { table = tx.pass.table_id; room = ruled_capacity (arc_value tx.queue) }

  abbrev pub receiver_lane : Receiver T → Lane
  receiver_lane rx = record { table = rx.pass.table_id; room = ruled_capacity (arc_value rx.queue) }

  -- the items that this end sent, in order
  abbrev pub sent : Sender T → List T
  sent tx = (view tx.pass).sent

  -- the items that this end took, in order
  abbrev pub taken : Receiver T → List T
  taken rx = (view rx.pass).got

  -- how many offers of this end were answered Full
  abbrev pub full_answers : Sender T → ℕ
  full_answers tx = tx.fulls

  -- how many takes of this end were answered None
  abbrev pub empty_answers : Receiver T → ℕ
  empty_answers rx = rx.empties

  -- nothing was sent, taken or refused yet
  abbrev pub AreNewEnds : Sender T → Receiver T → Type 0
  AreNewEnds tx rx = (sent tx ≡ []) × (taken rx ≡ []) × (full_answers tx ≡ 0) × (empty_answers rx ≡ 0)
