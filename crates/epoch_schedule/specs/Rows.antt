-- Worked rows: what lines ask, under turns, and what becomes of them.
use Rattle.std.specs.Prelude.{◌≡◌, ℕ, zero, suc, ◌%◌, true, false, Some, List, [], ◌∷◌, ◌++◌, map, replicate}
use Rattle.pc_base.specs.declared.packet.Place.TheVariants.{At, Closing}
use Rattle.epoch_schedule.specs.Slots.{Met}
use Rattle.epoch_schedule.specs.World.{World, Rooms, start, fresh_control, fresh_data, control_at, data_at}
use Rattle.epoch_schedule.specs.Front.{Asks, nothing, command, packet, move, Outcome}
use Rattle.epoch_schedule.specs.ControlTurns.{go_or_work}
use Rattle.epoch_schedule.specs.DataTurns.{go_home, doing, over}
use Rattle.epoch_schedule.specs.Schedule.{Driven, outcomes, mets}

-- the same turns behind each line, in a first epoch, where each slot is bound for the slice of its number
abbrev pub under : List ℕ → List Asks → List Driven
under turns lines = map (λ (asks : Asks). record { asks = asks; turns = turns }) lines

abbrev pub usual : Rooms
usual = record { room = 64; lane = 1024 }

abbrev pub outcomes_of : (slices : ℕ) → Rooms → List Driven → List Outcome
outcomes_of slices rooms lines = outcomes rooms (λ s. s % slices) start lines

abbrev pub mets_of : (slices : ℕ) → Rooms → List Driven → ℕ → List Met
mets_of slices rooms lines s = mets rooms (λ s. s % slices) lines s

abbrev pub counts_of : (slices : ℕ) → Rooms → List Driven → ℕ → List ℕ
counts_of slices rooms lines s = map (λ (met : Met). met.commands) (mets_of slices rooms lines s)

-- outcomes, and a packet that met one command at a place
abbrev pub done : Outcome
done = record { taken = true; parked = false }

abbrev pub waits : Outcome
waits = record { taken = true; parked = true }

abbrev pub full : Outcome
full = record { taken = false; parked = false }

abbrev pub at_closing : Met
at_closing = record { commands = 1; place = Closing }

abbrev pub on_slice : ℕ → Met
on_slice slice = record { commands = 1; place = At slice }

-- packets behind a move are parked while their half is on its way, here to the end: the slice that it left has no turn
abbrev pub on_the_way : List Driven
on_the_way = under (2 ∷ 3 ∷ [])
    (command 0 ∷ packet 0 ∷ packet 0 ∷ packet 0 ∷ move 0 1 ∷ packet 0 ∷ packet 0 ∷ [])

pub record ParkedOnTheWay : Type 0 where
  pub lines : outcomes_of 2 usual on_the_way ≡ done ∷ done ∷ done ∷ done ∷ done ∷ waits ∷ waits ∷ []
  pub packets : mets_of 2 usual on_the_way 0 ≡ replicate 5 at_closing

-- where all workers have their turn, packets are handled on the slice that their half is on
abbrev pub all_turns : List Driven
all_turns = under (0 ∷ 1 ∷ 2 ∷ 3 ∷ [])
    (command 0 ∷ packet 0 ∷ packet 0 ∷ packet 0 ∷ move 0 1 ∷ packet 0 ∷ packet 0 ∷ packet 0 ∷ [])

pub record PlacesOfTurns : Type 0 where
  pub lines : outcomes_of 2 usual all_turns ≡ done ∷ done ∷ done ∷ done ∷ done ∷ waits ∷ done ∷ done ∷ []
  pub packets : mets_of 2 usual all_turns 0 ≡ replicate 3 (on_slice 0) ++ replicate 3 (on_slice 1)

-- moves one behind the other; the third moves nothing, since the slot is bound there already
abbrev pub three_moves : List Driven
three_moves = under [] (command 0 ∷ move 0 1 ∷ move 0 0 ∷ nothing ∷ packet 0 ∷ [])

pub record MovesInARow : Type 0 where
  pub lines : outcomes_of 2 usual three_moves ≡ done ∷ done ∷ done ∷ done ∷ waits ∷ []
  pub packets : mets_of 2 usual three_moves 0 ≡ at_closing ∷ []

-- a slice's lane of five has room for an arrival and four packets
abbrev pub six_packets : List Driven
six_packets = under [] (command 0 ∷ replicate 6 (packet 0) ++ nothing ∷ [])

abbrev pub five : Rooms
five = record { room = 4; lane = 5 }

pub record FullRoom : Type 0 where
  pub lines : outcomes_of 2 five six_packets ≡ done ∷ replicate 4 done ++ full ∷ full ∷ done ∷ []
  pub packets : counts_of 2 five six_packets 0 ≡ replicate 4 1
  -- in the next epoch it has room again
  pub again : outcomes_of 2 five (under [] (packet 0 ∷ [])) ≡ done ∷ []

-- two commands go in one batch, and the packet behind them meets both
abbrev pub two_commands : List Driven
two_commands = under (0 ∷ 1 ∷ []) (command 0 ∷ command 0 ∷ packet 0 ∷ [])

pub record TwoCommandsOneBatch : Type 0 where
  pub lines : outcomes_of 2 usual two_commands ≡ done ∷ done ∷ done ∷ []
  pub packets : counts_of 2 usual two_commands 0 ≡ 2 ∷ []

-- a queue of two takes no third packet
abbrev pub three_parked : List Driven
three_parked = under [] (command 0 ∷ move 0 1 ∷ packet 0 ∷ packet 0 ∷ packet 0 ∷ [])

abbrev pub room_of_two : Rooms
room_of_two = record { room = 2; lane = 1024 }

pub record ParkingQueueFull : Type 0 where
  pub lines : outcomes_of 2 room_of_two three_parked ≡ done ∷ done ∷ waits ∷ waits ∷ full ∷ []
  pub packets : mets_of 2 room_of_two three_parked 0 ≡ at_closing ∷ at_closing ∷ []

-- two arrivals fill a lane of two
abbrev pub two_arrivals : List Driven
two_arrivals = under [] (command 0 ∷ command 1 ∷ packet 0 ∷ [])

abbrev pub lane_of_two : Rooms
lane_of_two = record { room = 64; lane = 2 }

pub record SliceLaneFull : Type 0 where
  pub lines : outcomes_of 1 lane_of_two two_arrivals ≡ done ∷ done ∷ full ∷ []
  pub packets : mets_of 1 lane_of_two two_arrivals 0 ≡ []

-- a packet waits behind one that waits, though its half is on its slice by then, where no lane has room
abbrev pub one_by_one : List Driven
one_by_one = under (1 ∷ []) (command 0 ∷ move 0 1 ∷ packet 0 ∷ packet 0 ∷ [])

abbrev pub lane_of_one : Rooms
lane_of_one = record { room = 64; lane = 1 }

pub record NewerWait : Type 0 where
  pub lines : outcomes_of 2 lane_of_one one_by_one ≡ done ∷ done ∷ waits ∷ waits ∷ []
  pub packets : mets_of 2 lane_of_one one_by_one 0 ≡ at_closing ∷ at_closing ∷ []

-- a batch has sixteen commands at most
abbrev pub seventeen : List Driven
seventeen = under [] (replicate 17 (command 0)) ++ under (0 ∷ 0 ∷ 1 ∷ []) (packet 0 ∷ [])

pub record SeventeenCommands : Type 0 where
  pub lines : outcomes_of 2 usual seventeen ≡ replicate 18 done
  pub packets : mets_of 2 usual seventeen 0 ≡ record { commands = 16; place = At 0 } ∷ []

-- a packet isn't handled before the command that it waits for, here not on its slice: no control worker has a turn
abbrev pub no_control_turns : List Driven
no_control_turns = under (1 ∷ 3 ∷ []) (command 0 ∷ move 0 1 ∷ nothing ∷ packet 0 ∷ [])

pub record WaitsForCommands : Type 0 where
  pub lines : outcomes_of 2 usual no_control_turns ≡ replicate 4 done
  pub packets : mets_of 2 usual no_control_turns 0 ≡ at_closing ∷ []

-- a turn of a data worker has eight orders at most: here an arrival and seven packets
abbrev pub nine_orders : List Driven
nine_orders = under [] (command 0 ∷ replicate 8 (packet 0)) ++ under (0 ∷ 0 ∷ 1 ∷ []) (nothing ∷ [])

pub record NineOrders : Type 0 where
  pub lines : outcomes_of 2 usual nine_orders ≡ replicate 10 done
  pub packets : mets_of 2 usual nine_orders 0 ≡ replicate 7 (on_slice 0) ++ at_closing ∷ []

-- a data half learns sixteen batches at most before it handles a packet: here of one command each
abbrev pub batches : List Driven
batches = under (0 ∷ 0 ∷ []) (replicate 17 (command 0)) ++ under (1 ∷ []) (packet 0 ∷ [])

pub record SeventeenBatches : Type 0 where
  pub lines : outcomes_of 2 usual batches ≡ replicate 18 done
  pub packets : mets_of 2 usual batches 0 ≡ record { commands = 16; place = At 0 } ∷ []

-- Of two halves that leave the first one ends the turn, and goes home in the next: so one is back behind two turns,
-- and both behind three.
abbrev pub two_leave : List ℕ → List Driven
two_leave turns =
    under [] (command 0 ∷ command 2 ∷ move 0 1 ∷ []) ++ under turns (move 2 1 ∷ []) ++ under []
    (packet 0 ∷ packet 2 ∷ [])

pub record TwoHalvesLeave : Type 0 where
  pub one_back : outcomes_of 2 usual (two_leave (1 ∷ 1 ∷ [])) ≡ replicate 5 done ++ waits ∷ []
  pub both_back : outcomes_of 2 usual (two_leave (1 ∷ 1 ∷ 1 ∷ [])) ≡ replicate 6 done

-- The turns of control halves go on where they stood as one leaves: of three halves the first works and leaves, and
-- then the second one works, so that its packet meets its command and that of the third one doesn't.
abbrev pub first_leaves : List Driven
first_leaves =
    under (0 ∷ []) (command 0 ∷ command 2 ∷ command 4 ∷ []) ++ under (0 ∷ 0 ∷ 0 ∷ []) (move 0 1 ∷ [])
    ++ under (0 ∷ []) (nothing ∷ []) ++ under (1 ∷ []) (packet 2 ∷ packet 4 ∷ [])

pub record NextHalfWorks : Type 0 where
  pub second : counts_of 2 usual first_leaves 2 ≡ 1 ∷ []
  pub third : counts_of 2 usual first_leaves 4 ≡ 0 ∷ []

-- a command of each of so many slots, all on one slice
abbrev pub of_each : (ℕ → Asks) → (first count : ℕ) → List Asks
of_each asks first zero = []
of_each asks first (suc n) = asks first ∷ of_each asks (suc first) n

-- A control worker has room for 64 orders: the half of the 65th slot is still at the front, and the command of the
-- 64th alone is done.
abbrev pub full_orders : List Driven
full_orders =
    under [] (of_each command 0 65 ++ packet 63 ∷ []) ++ under (replicate 130 0 ++ replicate 9 1) (packet 64 ∷ [])

pub record FullOrders : Type 0 where
  pub last : counts_of 1 usual full_orders 63 ≡ 1 ∷ []
  pub one_more : counts_of 1 usual full_orders 64 ≡ 0 ∷ []

-- A slice's way home has room for 64 halves: with so many on it, a half that is to go stays, and with one fewer it
-- goes.
abbrev pub on_the_way_home : ℕ → World
on_the_way_home n = record {
  slots = [];
  controls = record fresh_control { held = record { slot = 0; until = Some 0 } ∷ []; home = replicate n 1 } ∷ [];
  datas = record fresh_data { home = replicate n 1; waiting = Some 0 } ∷ [];
}

pub record FullHome : Type 0 where
  pub control_stays : (control_at (go_or_work usual 0 (on_the_way_home 64)) 0).home ≡ replicate 64 1
  pub control_goes : (control_at (go_or_work usual 0 (on_the_way_home 63)) 0).home ≡ replicate 63 1 ++ 0 ∷ []
  pub data_stays : go_home 0 (on_the_way_home 64) (Some 0) ≡ doing (on_the_way_home 64) over
  pub data_goes : (data_at (go_home 0 (on_the_way_home 63) (Some 0)).world 0).home ≡ replicate 63 1 ++ 0 ∷ []
