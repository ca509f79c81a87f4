-- Slots have the commands and packets that the lines say, and all packets are handled in the end.
use Rattle.std.proofs.Common.{◌≡◌, ℕ, ◌+◌, ◌-◌, ◌==◌, Bool, true, false, nat_lt, List, [], ◌∷◌, ◌++◌, map, length, cond, refl, sym, ap, subst, ◌∙◌, arith}
use Rattle.std.proofs.lemmas.Bool.{eqb-true}
use Rattle.std.proofs.lemmas.List.{map-append, length-map}
use Rattle.pc_base.specs.declared.packet.Place.TheVariants.{At}
use Rattle.epoch_schedule.specs.Slots.{CommandTags, Standing, absent, front, placed, recalled, leaving, is_placed, is_absent, SlotNow, fresh_slot}
use Rattle.epoch_schedule.specs.Halves.{control_work, learn, handle}
use Rattle.epoch_schedule.specs.World.{World, Rooms, start, item, has_room, slot_at, on_slot, data_at, on_data}
use Rattle.epoch_schedule.specs.Front.{Asks, nothing, command, packet, move, Done, back, pumped, control_made, control_offer, data_made, made, admitted, control_called, accepted, parked_at, refused, with_command, offer_command, parks, with_packet, park_packet, send_packet_at, send_packet, is_front, data_offer, arrived_first, offer_packet, moved, control_recalled, data_recalled, line_done}
use Rattle.epoch_schedule.specs.Schedule.{Driven, turned, line_of, behind_line, behind_lines, outcomes}
use Rattle.epoch_schedule.specs.Fits.{EachSlotFits, EachPacketIsHandled}
use Rattle.epoch_schedule.specs.Accounts.{Account, no_account, commanded, received, moved_on, account_after, account_of}
use Rattle.epoch_schedule.proofs.Keeping.{value-put, put_each, cond_keeps, fold_keeps}
use Rattle.epoch_schedule.proofs.Fitting.{fresh_fits, command_floors, command_handles, packet_floors, packet_handles, move_floors, length-push}
use Rattle.epoch_schedule.proofs.SlotTurns.{Counted, counted_work, counted_learn, counted_handle, closes}
use Rattle.epoch_schedule.proofs.Steps.{Steps}
use Rattle.epoch_schedule.proofs.Worlds.{pumped_keeps, control_offer_keeps, data_offer_keeps, control_recalled_keeps, turned_keeps}

-- what the lines say of each slot
abbrev pub Counts : (ℕ → Account) → ℕ → SlotNow → Type 0
Counts accounts s slot = Counted (accounts s) slot

abbrev pub AllCounted : (ℕ → Account) → World → Type 0
AllCounted accounts world = (s : ℕ) → Counts accounts s (slot_at world s)

module _ (accounts : ℕ → Account) where
  -- what halves and the front do changes nothing of this
  same : (s : ℕ) (slot other : SlotNow) → Counts accounts s slot → Counts accounts s (record slot {
    control = other.control;
    arrived = other.arrived;
    data_half = other.data_half;
    queued = other.queued;
  })
  same s slot other holds =
      let fits = holds.fits in
      let tells = holds.tells in
      record {
        fits = record { sizes = fits.sizes; floors = fits.floors; handles = fits.handles };
        tells = record {
          commands_are = tells.commands_are;
          packets_are = tells.packets_are;
          commands_before_are = tells.commands_before_are;
          packets_before_are = tells.packets_before_are;
        };
      }

  kept_at : (world : World) (s : ℕ) (change : SlotNow → SlotNow) → AllCounted accounts world
      → Counts accounts s (change (slot_at world s)) → AllCounted accounts (on_slot world s change)
  kept_at world s change all here =
      put_each (Counts accounts) fresh_slot world.slots s (change (slot_at world s)) all here

  same_at : (world : World) (s : ℕ) (other : SlotNow) → AllCounted accounts world
      → AllCounted accounts (on_slot world s (λ slot. record slot {
        control = other.control;
        arrived = other.arrived;
        data_half = other.data_half;
        queued = other.queued;
      }))
  same_at world s other all =
      kept_at world s (λ slot. record slot {
        control = other.control;
        arrived = other.arrived;
        data_half = other.data_half;
        queued = other.queued;
      }) all (same s (slot_at world s) other (all s))

  pub counted_steps : Steps (AllCounted accounts)
  counted_steps = record {
    controls = λ world slice change all. all;
    datas = λ world slice change fewer all. all;
    stands = λ world s standing there all. same_at world s (record (slot_at world s) { control = standing }) all;
    arrives = λ world s all. same_at world s (record (slot_at world s) { arrived = (slot_at world s).hop }) all;
    backs = λ world s all. same_at world s (record (slot_at world s) { data_half = back (slot_at world s).data_half }) all;
    gives = λ world slice s order standing own follows all.
        same_at world s (record (slot_at world s) { data_half = standing }) all;
    drains = λ rooms world slice s n few all.
        same_at world s (record (slot_at world s) { queued = (slot_at world s).queued - n }) all;
    works = λ room world s all.
        kept_at world s (λ slot. (control_work room slot).slot) all
        (counted_work (accounts s) room (slot_at world s) (all s));
    learns = λ world s all. kept_at world s learn all (counted_learn (accounts s) (slot_at world s) (all s));
    handles = λ slice world s may all.
        kept_at world s (handle (At slice)) all
        (counted_handle (accounts s) (At slice) (slot_at world s) may (all s));
  }

  pub pump_keeps : (rooms : Rooms) (bounds : ℕ → ℕ) (world : World) → AllCounted accounts world
      → AllCounted accounts (pumped rooms bounds world)
  pump_keeps = pumped_keeps (AllCounted accounts) counted_steps

  pub offer_keeps : (rooms : Rooms) (bounds : ℕ → ℕ) (world : World) (s : ℕ) → AllCounted accounts world
      → AllCounted accounts (data_offer rooms bounds world s)
  offer_keeps = data_offer_keeps (AllCounted accounts) counted_steps

  made_keeps : (rooms : Rooms) (bounds : ℕ → ℕ) (world : World) (s : ℕ) → AllCounted accounts world
      → AllCounted accounts (made rooms bounds world s)
  made_keeps rooms bounds world s all =
      let first = control_made world s in
      let second = control_offer bounds first s in
      let offered = control_offer_keeps (AllCounted accounts) counted_steps bounds first s
      (same_at world s (record (slot_at world s) { control = front }) all) in
      offer_keeps rooms bounds (data_made second s) s
      (same_at second s (record (slot_at second s) { data_half = front }) offered)

  pub admission_keeps : (rooms : Rooms) (bounds : ℕ → ℕ) (world : World) (s : ℕ) → AllCounted accounts world
      → AllCounted accounts (admitted rooms bounds world s)
  admission_keeps rooms bounds world s all =
      cond_keeps (AllCounted accounts) (is_absent (slot_at world s).control) (made rooms bounds world s) world
      (made_keeps rooms bounds world s all) all

  pub control_call_keeps : (bounds : ℕ → ℕ) (world : World) (s : ℕ) → AllCounted accounts world
      → AllCounted accounts (control_recalled bounds world s)
  control_call_keeps = control_recalled_keeps (AllCounted accounts) counted_steps

  pub data_call_keeps : (rooms : Rooms) (bounds : ℕ → ℕ) (world : World) (s : ℕ) → AllCounted accounts world
      → AllCounted accounts (data_recalled rooms bounds world s)
  data_call_keeps rooms bounds world s all =
      let change : SlotNow → SlotNow = λ slot. record slot { data_half = control_called slot.data_half 0 } in
      cond_keeps (AllCounted accounts) (is_placed (slot_at world s).data_half)
      (data_offer rooms bounds (on_slot world s change) s) world
      (offer_keeps rooms bounds (on_slot world s change) s
      (same_at world s (change (slot_at world s)) all)) all

  pub turn_keeps : (rooms : Rooms) (world : World) (worker : ℕ) → AllCounted accounts world
      → AllCounted accounts (turned rooms world worker)
  turn_keeps = turned_keeps (AllCounted accounts) counted_steps

-- one more command, or packet
one_command : (account : Account) (slot : SlotNow) → Counted account slot
    → Counted (commanded account) (with_command slot)
one_command account slot holds =
    let tags : CommandTags = record { hop = slot.hop; floor = slot.packets_before } in
    let more = length-push slot.commands tags in
    let few = holds.fits.sizes.few in
    let commands = holds.tells.commands_are in
    let floor = holds.tells.packets_before_are in
    record {
      fits = record {
        sizes = record { all = holds.fits.sizes.all; few = omega (arith, more, few) };
        floors = command_floors slot.commands slot.packets slot.commands_before slot.packets_before tags refl
            holds.fits.floors;
        handles = command_handles slot.commands slot.packets slot.learnt slot.met tags holds.fits.handles;
      };
      tells = record {
        commands_are = map-append (λ (tags : CommandTags). tags.floor) slot.commands (tags ∷ [])
            ∙ (λ i. commands i ++ floor i ∷ []);
        packets_are = holds.tells.packets_are;
        commands_before_are = holds.tells.commands_before_are;
        packets_before_are = holds.tells.packets_before_are;
      };
    }

one_packet : (account : Account) (slot : SlotNow) → Counted account slot
    → Counted (received account) (with_packet slot)
one_packet account slot holds =
    let packets = holds.tells.packets_are in
    let floor = holds.tells.commands_before_are in
    record {
      fits = record {
        sizes = holds.fits.sizes;
        floors = packet_floors slot.commands slot.packets slot.commands_before slot.packets_before holds.fits.floors;
        handles = packet_handles slot.commands slot.packets slot.learnt slot.met slot.commands_before
            holds.fits.handles;
      };
      tells = record {
        commands_are = holds.tells.commands_are;
        packets_are = λ i. packets i ++ floor i ∷ [];
        commands_before_are = holds.tells.commands_before_are;
        packets_before_are = holds.tells.packets_before_are;
      };
    }

one_parked : (account : Account) (slot : SlotNow) → Counted account slot
    → Counted (received account) (record (with_packet slot) { queued = slot.queued + 1 })
one_parked account slot holds =
    let one = one_packet account slot holds in
    record {
      fits = record { sizes = one.fits.sizes; floors = one.fits.floors; handles = one.fits.handles };
      tells = record {
        commands_are = one.tells.commands_are;
        packets_are = one.tells.packets_are;
        commands_before_are = one.tells.commands_before_are;
        packets_before_are = one.tells.packets_before_are;
      };
    }

one_move : (slice : ℕ) (account : Account) (slot : SlotNow) → Counted account slot
    → Counted (moved_on account) (moved slice slot)
one_move slice account slot holds = record {
  fits = record {
    sizes = holds.fits.sizes;
    floors = move_floors slot.commands slot.packets slot.commands_before slot.packets_before holds.fits.floors;
    handles = holds.fits.handles;
  };
  tells = record {
    commands_are = holds.tells.commands_are;
    packets_are = holds.tells.packets_are;
    commands_before_are = sym (length-map slot.commands (λ (tags : CommandTags). tags.floor))
        ∙ ap length holds.tells.commands_are;
    packets_before_are = ap length holds.tells.packets_are;
  };
}

-- a slot changes, the others don't
grown : (test : Bool) (account changed : Account) (new old : SlotNow) → (test ≡ true → Counted changed new)
    → Counted account old → Counted (cond test changed account) (cond test new old)
grown true account changed new old here there = here refl
grown false account changed new old here there = there

grown_at : (accounts : ℕ → Account) (world : World) (own : ℕ) (more : Account → Account) (change : SlotNow → SlotNow)
    → ((account : Account) (slot : SlotNow) → Counted account slot → Counted (more account) (change slot))
    → AllCounted accounts world
    → (s : ℕ) → Counted (cond (own == s) (more (accounts s)) (accounts s)) (slot_at (on_slot world own change) s)
grown_at accounts world own more change one all s =
    subst (Counted (cond (own == s) (more (accounts s)) (accounts s)))
    (sym (value-put fresh_slot world.slots own s (change (slot_at world own))))
    (grown (own == s) (accounts s) (more (accounts s)) (change (slot_at world own)) (slot_at world s)
    (λ is. subst (λ k. Counted (more (accounts k)) (change (slot_at world own))) (eqb-true own s is)
    (one (accounts own) (slot_at world own) (all own))) (all s))

-- what a line leaves
abbrev pub Grows : (ℕ → Account) → Asks → Done → Type 0
Grows accounts asks done =
    (s : ℕ) → Counted (account_after s (accounts s) asks done.outcome) (slot_at done.world s)

either_same : (test : Bool) (account : Account) → account ≡ cond test account account
either_same true account = refl
either_same false account = refl

command_refused : (accounts : ℕ → Account) (world : World) (own : ℕ) → AllCounted accounts world
    → Grows accounts (command own) (refused world)
command_refused accounts world own all s =
    subst (λ account. Counted account (slot_at world s)) (either_same (own == s) (accounts s)) (all s)

packet_refused : (accounts : ℕ → Account) (world : World) (own : ℕ) → AllCounted accounts world
    → Grows accounts (packet own) (refused world)
packet_refused accounts world own all s =
    subst (λ account. Counted account (slot_at world s)) (either_same (own == s) (accounts s)) (all s)

command_grows : (accounts : ℕ → Account) (rooms : Rooms) (world : World) (own : ℕ) → AllCounted accounts world
    → Grows accounts (command own) (offer_command rooms world own)
command_grows accounts rooms world own all =
    cond_keeps (Grows accounts (command own))
    (nat_lt (length (slot_at world own).commands - (slot_at world own).taken) rooms.room)
    (accepted (on_slot world own with_command)) (refused world)
    (grown_at accounts world own commanded with_command one_command all) (command_refused accounts world own all)

park_grows : (accounts : ℕ → Account) (rooms : Rooms) (world : World) (own : ℕ) → AllCounted accounts world
    → Grows accounts (packet own) (park_packet rooms world own)
park_grows accounts rooms world own all =
    let change : SlotNow → SlotNow = λ slot. record (with_packet slot) { queued = slot.queued + 1 } in
    cond_keeps (Grows accounts (packet own)) (nat_lt (slot_at world own).queued rooms.room)
    (parked_at (on_slot world own change)) (refused world)
    (grown_at accounts world own received change one_parked all) (packet_refused accounts world own all)

send_at_grows : (accounts : ℕ → Account) (rooms : Rooms) (world : World) (own : ℕ) (standing : Standing)
    → AllCounted accounts world → Grows accounts (packet own) (send_packet_at rooms world own standing)
send_at_grows accounts rooms world own absent all = packet_refused accounts world own all
send_at_grows accounts rooms world own front all = packet_refused accounts world own all
send_at_grows accounts rooms world own (placed slice) all =
    let sent = on_data world slice (λ worker. record worker { orders = worker.orders ++ item own ∷ [] }) in
    cond_keeps (Grows accounts (packet own)) (has_room rooms.lane (data_at world slice).orders)
    (accepted (on_slot sent own with_packet)) (refused world)
    (grown_at accounts sent own received with_packet one_packet all) (packet_refused accounts world own all)
send_at_grows accounts rooms world own (recalled slice until) all = packet_refused accounts world own all
send_at_grows accounts rooms world own leaving all = packet_refused accounts world own all

packet_grows : (accounts : ℕ → Account) (rooms : Rooms) (bounds : ℕ → ℕ) (world : World) (own : ℕ)
    → AllCounted accounts world → Grows accounts (packet own) (offer_packet rooms bounds world own)
packet_grows accounts rooms bounds world own all =
    let arrived : AllCounted accounts (arrived_first rooms bounds world own) =
    cond_keeps (AllCounted accounts) (is_front (slot_at world own).data_half) (data_offer rooms bounds world own) world
    (offer_keeps accounts rooms bounds world own all) all in
    cond_keeps (Grows accounts (packet own)) (parks (slot_at world own)) (park_packet rooms world own)
    (send_packet rooms (arrived_first rooms bounds world own) own)
    (park_grows accounts rooms world own all)
    (send_at_grows accounts rooms (arrived_first rooms bounds world own) own
    (slot_at (arrived_first rooms bounds world own) own).data_half arrived)

line_grows : (accounts : ℕ → Account) (rooms : Rooms) (bounds : ℕ → ℕ) (world : World) (asks : Asks)
    → AllCounted accounts world → Grows accounts asks (line_done rooms bounds world asks)
line_grows accounts rooms bounds world nothing all = all
line_grows accounts rooms bounds world (command own) all =
    command_grows accounts rooms (admitted rooms bounds world own) own
    (admission_keeps accounts rooms bounds world own all)
line_grows accounts rooms bounds world (packet own) all =
    packet_grows accounts rooms bounds (admitted rooms bounds world own) own
    (admission_keeps accounts rooms bounds world own all)
line_grows accounts rooms bounds world (move own slice) all =
    let first = on_slot world own (moved slice) in
    let second = control_recalled bounds first own in
    let after = λ (s : ℕ). cond (own == s) (moved_on (accounts s)) (accounts s) in
    data_call_keeps after rooms bounds second own
    (control_call_keeps after bounds first own
    (grown_at accounts world own moved_on (moved slice) (one_move slice) all))

-- lines
behind_line_grows : (accounts : ℕ → Account) (rooms : Rooms) (bounds : ℕ → ℕ) (world : World) (line : Driven)
    → AllCounted accounts world
    → AllCounted (λ s. account_after s (accounts s) line.asks (line_of rooms bounds world line).outcome)
    (behind_line rooms bounds world line)
behind_line_grows accounts rooms bounds world line all =
    let after = λ (s : ℕ). account_after s (accounts s) line.asks (line_of rooms bounds world line).outcome in
    fold_keeps (AllCounted after) (turned rooms) (turn_keeps after rooms) (line_of rooms bounds world line).world
    line.turns
    (line_grows accounts rooms bounds (pumped rooms bounds world) line.asks
    (pump_keeps accounts rooms bounds world all))

lines_grow : (accounts : ℕ → Account) (rooms : Rooms) (bounds : ℕ → ℕ) (world : World) (lines : List Driven)
    → AllCounted accounts world
    → AllCounted (λ s. account_of s (accounts s) lines (outcomes rooms bounds world lines))
    (behind_lines rooms bounds world lines)
lines_grow accounts rooms bounds world [] all = all
lines_grow accounts rooms bounds world (line ∷ lines) all =
    lines_grow (λ s. account_after s (accounts s) line.asks (line_of rooms bounds world line).outcome) rooms bounds
    (behind_line rooms bounds world line) lines (behind_line_grows accounts rooms bounds world line all)

behind_start : (rooms : Rooms) (bounds : ℕ → ℕ) (lines : List Driven) (s : ℕ)
    → Counted (account_of s no_account lines (outcomes rooms bounds start lines))
    (slot_at (behind_lines rooms bounds start lines) s)
behind_start rooms bounds lines s =
    lines_grow (λ s. no_account) rooms bounds start lines
    (λ s. record {
      fits = fresh_fits;
      tells = record {
        commands_are = refl;
        packets_are = refl;
        commands_before_are = refl;
        packets_before_are = refl;
      };
    }) s

pub each_slot_fits : EachSlotFits
each_slot_fits rooms bounds lines s = (behind_start rooms bounds lines s).fits

pub each_packet_is_handled : EachPacketIsHandled
each_packet_is_handled rooms bounds lines s =
    let counted = behind_start rooms bounds lines s in
    let done = closes (slot_at (behind_lines rooms bounds start lines) s) counted.fits in
    record {
      commands = ap (map (λ (tags : CommandTags). tags.floor)) done.commands ∙ counted.tells.commands_are;
      packets = done.packets ∙ counted.tells.packets_are;
      all = done.all ∙ ap length counted.tells.packets_are;
      handles = done.handles;
    }
