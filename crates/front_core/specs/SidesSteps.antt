-- What a step of both sides does to each slot.
use Rattle.std.specs.Prelude.{◌≡◌, ◌≢◌, ℕ, ◌+◌, ◌≤◌, ◌<◌, ◌⊎◌, ◌^◌, Bool, true, false, Some, None, [], ◌∷◌, ◌++◌}
use Rattle.std.specs.Prelude.{length, is_some, replicate}
use Rattle.worker_core.specs.Desks.{lanes_of}
use Rattle.front_core.specs.Lines.{LaneWasFull}
use Rattle.front_core.specs.Placing.{HalvesEnter, HalvesGo}
use Rattle.front_core.specs.Sides.{Both, View, view_of, load_of, lane_rooms}

-- all of a slot is as it was, but that its items may no longer be parked
pub record ViewSettles {N M I : Type 0} (old new : View N M I) : Type 0 where
  pub control : new.control ≡ old.control
  pub data_half : new.data_half ≡ old.data_half
  pub accepted : new.accepted ≡ old.accepted
  pub moved : new.moved ≡ old.moved
  pub parks : old.parks ≡ false → new.parks ≡ false

-- the lanes of both sides, and the room of a queue
pub record SidesKeep {H F I : Type 0} (old new : Both H F I) : Type 0 where
  pub control_lanes : lanes_of new.control_desks ≡ lanes_of old.control_desks
  pub data_lanes : lanes_of new.desks ≡ lanes_of old.desks
  pub queues : new.queue_room ≡ old.queue_room

-- each slice's lane has this room
abbrev pub AreLanes : {H F I : Type 0} → ℕ → Both H F I → Type 0
AreLanes lane both = lane_rooms both ≡ replicate (length (lane_rooms both)) lane

module _ {H N F M I : Type 0} (control_name : H → N) (data_name : F → M) where
  abbrev pub OthersSettle : ℕ → Both H F I → Both H F I → Type 0
  OthersSettle slot old new = (other : ℕ) → other ≢ slot
      → ViewSettles (view_of control_name data_name old other) (view_of control_name data_name new other)

  -- sides were pumped, or an item was refused
  pub record Settles (old new : Both H F I) : Type 0 where
    pub views : (slot : ℕ) → ViewSettles (view_of control_name data_name old slot)
        (view_of control_name data_name new slot)
    pub sides : SidesKeep old new
    pub load : load_of data_name new ≡ load_of data_name old
    pub asked : new.control_asked ≡ old.control_asked

  -- an admitted slot may be moved to a slice
  pub record MayMove (slot slice : ℕ) (both : Both H F I) : Type 0 where
    pub control_slice : slice < length both.control_desks
    pub data_slice : slice < length both.desks
    pub control_asked : both.control_asked < 2 ^ 48
    pub data_asked : both.asked < 2 ^ 48
    pub control_admitted : is_some (view_of control_name data_name both slot).control ≡ true
    pub data_admitted : is_some (view_of control_name data_name both slot).data_half ≡ true

  -- a slot moved to a slice, which the control half goes to once it has come to a count
  pub record SlotMoves (slot slice until : ℕ) (old new : Both H F I) : Type 0 where
    pub goes : HalvesGo slot slice until old new
    pub others : OthersSettle slot old new
    pub sides : SidesKeep old new
    pub control : (view_of control_name data_name new slot).control ≡ (view_of control_name data_name old slot).control
    pub data_half : (view_of control_name data_name new slot).data_half
        ≡ (view_of control_name data_name old slot).data_half
    pub accepted : (view_of control_name data_name new slot).accepted
        ≡ (view_of control_name data_name old slot).accepted
    pub moved : (view_of control_name data_name new slot).moved ≡ true
    pub load_accepted : (load_of data_name new).accepted ≡ (load_of data_name old).accepted
    pub load_admitted : (load_of data_name new).admitted ≡ (load_of data_name old).admitted
    pub asked : new.asked ≡ old.asked + 1
    pub control_asked : new.control_asked ≡ old.control_asked + 1

  -- a slot that isn't admitted may be, bound for a slice
  pub record MayAdmit (slot slice : ℕ) (both : Both H F I) : Type 0 where
    pub control_slice : slice < length both.control_desks
    pub data_slice : slice < length both.desks
    pub control_asked : both.control_asked < 2 ^ 48
    pub data_asked : both.asked < 2 ^ 48
    pub no_control : (view_of control_name data_name both slot).control ≡ None
    pub no_data : (view_of control_name data_name both slot).data_half ≡ None

  -- it was admitted with two halves, which are bound for a slice, and had moved or not
  pub record SlotAdmits (hop_of : H → ℕ) (slot slice : ℕ) (moved : Bool) (control : H) (data_half : F)
      (old new : Both H F I) : Type 0 where
    pub enters : HalvesEnter control_name hop_of slot slice moved control data_half old new
    pub others : OthersSettle slot old new
    pub sides : SidesKeep old new
    pub control_is : (view_of control_name data_name new slot).control ≡ Some (control_name control)
    pub data_is : (view_of control_name data_name new slot).data_half ≡ Some (data_name data_half)
    pub accepted : (view_of control_name data_name new slot).accepted ≡ []
    pub moved_is : (view_of control_name data_name new slot).moved ≡ moved
    pub parks : (view_of control_name data_name new slot).parks ≡ true → moved ≡ true
    pub load_accepted : (load_of data_name new).accepted ≡ (load_of data_name old).accepted
    pub load_admitted : (load_of data_name new).admitted ≡ (load_of data_name old).admitted + 1
    pub asked : new.asked ≡ old.asked + 1
    pub control_asked : new.control_asked ≡ old.control_asked + 1

  -- an admitted slot may be given an item
  pub record MayGive (slot : ℕ) (both : Both H F I) : Type 0 where
    pub admitted : is_some (view_of control_name data_name both slot).data_half ≡ true
    pub asked : both.asked < 2 ^ 48

  -- an item was accepted; its slot's items are parked then exactly where they were before
  pub record Received (slot : ℕ) (item : I) (old new : Both H F I) : Type 0 where
    pub others : OthersSettle slot old new
    pub sides : SidesKeep old new
    pub control : (view_of control_name data_name new slot).control ≡ (view_of control_name data_name old slot).control
    pub data_half : (view_of control_name data_name new slot).data_half
        ≡ (view_of control_name data_name old slot).data_half
    pub moved : (view_of control_name data_name new slot).moved ≡ (view_of control_name data_name old slot).moved
    pub accepted : (view_of control_name data_name new slot).accepted
        ≡ (view_of control_name data_name old slot).accepted ++ item ∷ []
    pub parks : (view_of control_name data_name new slot).parks ≡ (view_of control_name data_name old slot).parks
    pub load_accepted : (load_of data_name new).accepted ≡ (load_of data_name old).accepted + 1
    pub load_admitted : (load_of data_name new).admitted ≡ (load_of data_name old).admitted
    pub load_asked : new.asked ≡ old.asked + 1
    pub asked : new.control_asked ≡ old.control_asked

  -- the lane of a slice was full, or the slot's items were parked and its queue was
  abbrev pub WasFull : (slot lane : ℕ) → Both H F I → Both H F I → Type 0
  WasFull slot lane old new = LaneWasFull lane (load_of data_name new)
      ⊎ (((view_of control_name data_name old slot).parks ≡ true)
      × (old.queue_room ≤ length (view_of control_name data_name old slot).accepted))
