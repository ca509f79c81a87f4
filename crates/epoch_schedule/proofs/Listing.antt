-- What is listed stays so behind halves that come home, and but for a slot that is left out; and once that is put
-- where it belongs it is listed again.
use Rattle.std.proofs.Common.{◌≡◌, ℕ, ◌==◌, ◌||◌, Bool, true, false, List, [], ◌∷◌, refl, sym, ap, subst, ◌∙◌}
use Rattle.std.proofs.lemmas.Bool.{eqb-true}
use Rattle.epoch_schedule.specs.Slots.{SlotNow}
use Rattle.epoch_schedule.specs.World.{World, ControlNow, DataNow, slot_at, on_control, on_data, start}
use Rattle.epoch_schedule.specs.Busy.{AreBusyBut}
use Rattle.epoch_schedule.specs.Listed.{AreListedBut, AreListed}
use Rattle.epoch_schedule.specs.Setups.{EpochSetup, bounds_of}
use Rattle.epoch_schedule.specs.Waiting.{is_in, calls_of, wanted, Stands, IsPut, IsLeftOutOf, AreWaiting, waits_of}
use Rattle.epoch_schedule.specs.declared.waiting.Pass.{Pass}
use Rattle.epoch_schedule.specs.declared.waiting.Pass.TheVariants as pass
use Rattle.epoch_schedule.specs.declared.waiting.WaitingSlots.{WaitingSlots}
use Rattle.epoch_schedule.specs.declared.waiting.PassWaits.{PassWaits}
use Rattle.epoch_schedule.specs.declared.waiting.Want.{Want}
use Rattle.epoch_schedule.proofs.Busying.{busy_put}
use Rattle.epoch_schedule.proofs.Kept.{one_off, busy_one}
use Rattle.epoch_schedule.proofs.Touched.{on_data_within}

-- at the start nothing is wanted
none_waiting : (of : Pass) (bounds : ℕ → ℕ) (waits : PassWaits) → AreWaiting of bounds [] waits start
none_waiting pass.Controls bounds waits = λ s off. tt
none_waiting pass.Datas bounds waits = λ s off. tt
none_waiting pass.Queues bounds waits = λ s off. tt

pub none_listed : (setup : EpochSetup) (waiting : WaitingSlots) → waiting.busy.items ≡ [] → AreListed setup waiting start
none_listed setup waiting none = record {
  waits = λ of. none_waiting of (bounds_of setup) (waits_of of waiting);
  busy = subst (λ (busy : List (List ℕ)). AreBusyBut setup.rooms.room [] busy start) (sym none) (λ slice. record {
    ordered = tt;
    still = λ q within asleep off. refl;
  });
  within = λ s. tt;
}

pub fresh_listed : (setup : EpochSetup) (waiting : WaitingSlots) (world : World) → world.slots ≡ [] → world.controls ≡ []
    → world.datas ≡ [] → AreListed setup waiting start → AreListed setup waiting world
fresh_listed setup waiting world slots controls datas listed =
    let is : start ≡ world =
    ap (λ (xs : List SlotNow). record start { slots = xs }) (sym slots)
    ∙ ap (λ (xs : List ControlNow). record start { slots = world.slots; controls = xs }) (sym controls)
    ∙ ap (λ (xs : List DataNow). record start { slots = world.slots; controls = world.controls; datas = xs })
    (sym datas) in
    subst (AreListed setup waiting) is listed

-- a worker's way home is cleared
pub control_home_listed : (setup : EpochSetup) (waiting : WaitingSlots) (world : World) (slice : ℕ)
    → AreListed setup waiting world
    → AreListed setup waiting (on_control world slice (λ worker. record worker { home = [] }))
control_home_listed setup waiting world slice listed = record {
  waits = listed.waits;
  busy = busy_put setup.rooms.room [] waiting.busy.items world slice (λ worker. record worker { home = [] })
      listed.busy (listed.busy slice);
  within = listed.within;
}

pub data_home_listed : (setup : EpochSetup) (waiting : WaitingSlots) (world : World) (slice : ℕ)
    → AreListed setup waiting world
    → AreListed setup waiting (on_data world slice (λ worker. record worker { home = [] }))
data_home_listed setup waiting world slice listed = record {
  waits = listed.waits;
  busy = listed.busy;
  within = on_data_within world slice (λ worker. record worker { home = [] }) listed.within;
}

-- a slot is left out, and put where it belongs
pub left_listed : (setup : EpochSetup) (s : ℕ) (old new : WaitingSlots) (world : World) → IsLeftOutOf s old new
    → AreListed setup old world → AreListedBut (s ∷ []) setup new world
left_listed setup s old new world left listed = record {
  waits = λ of t off. left.others of _ t (one_off s t off) (listed.waits of t refl);
  busy = subst (λ (busy : List (List ℕ)). AreBusyBut setup.rooms.room (s ∷ []) busy world) (sym left.busy)
      (busy_one setup.rooms.room s old.busy.items world listed.busy);
  within = listed.within;
}

put_waiting : (of : Pass) (bounds : ℕ → ℕ) (s : ℕ) (but : List ℕ) (now : Want) (old new : PassWaits) (world : World)
    → now ≡ wanted of bounds s (calls_of (slot_at world s)) → IsPut s now old new
    → AreWaiting of bounds (s ∷ but) old world → AreWaiting of bounds but new world
put_waiting of bounds s but now old new world is put waiting = λ t off. by t (s == t) refl off
  where
    by : (t : ℕ) (test : Bool) → (s == t) ≡ test → is_in but t ≡ false
        → Stands (wanted of bounds t (calls_of (slot_at world t))) new t
    by t true same off =
        subst (λ m. Stands (wanted of bounds m (calls_of (slot_at world m))) new m) (eqb-true s t same)
        (subst (λ (w : Want). Stands w new s) is put.own)
    by t false other off = put.more _ t (waiting t (ap (λ test. test || is_in but t) other ∙ off))

module _ (setup : EpochSetup) (s : ℕ) (old new : WaitingSlots) (world : World) where
  abbrev WantedBy : Pass → Want → Type 0
  WantedBy of now = now ≡ wanted of (bounds_of setup) s (calls_of (slot_at world s))

  pub put_listed : (control data_half queue : Want) → WantedBy pass.Controls control → WantedBy pass.Datas data_half
      → WantedBy pass.Queues queue → IsPut s control old.controls new.controls → IsPut s data_half old.datas new.datas
      → IsPut s queue old.queues new.queues
      → ((but : List ℕ) → AreBusyBut setup.rooms.room (s ∷ but) old.busy.items world
      → AreBusyBut setup.rooms.room but new.busy.items world)
      → AreListedBut (s ∷ []) setup old world → AreListed setup new world
  put_listed control data_half queue one two three controls datas queues wakes listed = record {
    waits = λ of. by of;
    busy = wakes [] listed.busy;
    within = listed.within;
  }
    where
      by : (of : Pass) → AreWaiting of (bounds_of setup) [] (waits_of of new) world
      by pass.Controls =
          put_waiting pass.Controls (bounds_of setup) s [] control old.controls new.controls world one controls
          (listed.waits pass.Controls)
      by pass.Datas =
          put_waiting pass.Datas (bounds_of setup) s [] data_half old.datas new.datas world two datas
          (listed.waits pass.Datas)
      by pass.Queues =
          put_waiting pass.Queues (bounds_of setup) s [] queue old.queues new.queues world three queues
          (listed.waits pass.Queues)
