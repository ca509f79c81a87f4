-- Orders to leave: which were taken, and when a half is due home.
use Rattle.std.specs.Prelude.{◌≡◌, ◌≢◌, ℕ, ◌<◌, Bool, true, false, ◌==◌, ◌&&◌, nat_le, List, count_by}
use Rattle.std.specs.List.{list_any}
use Rattle.worker_core.specs.declared.order.Order.{Order}
use Rattle.worker_core.specs.declared.order.Order.TheVariants.{Arrive, Leave}
use Rattle.worker_core.specs.declared.worker.Leaving.{Leaving}

-- whether an order tells the half of this slot to leave at this count
abbrev pub is_leave : {H : Type 0} → ℕ → ℕ → Order H → Bool
is_leave slot until (Arrive _) = false
is_leave slot until (Leave at count) = (at == slot) && (count == until)

-- such an order is among these
abbrev pub IsOrdered : {H : Type 0} → List (Order H) → ℕ → ℕ → Type 0
IsOrdered orders slot until = 0 < count_by (is_leave slot until) orders

-- what a worker notes of a half that is to leave stood in an order
abbrev pub IsTold : {H : Type 0} → List (Order H) → Leaving → Type 0
IsTold orders leaving = IsOrdered orders leaving.slot leaving.until

-- whether this tells a half of this slot, which has done so much, to leave now
abbrev pub is_met : ℕ → ℕ → Leaving → Bool
is_met slot done leaving = (leaving.slot == slot) && nat_le leaving.until done

-- whether a half of this slot, which has done so much, is due home
abbrev pub is_due : List Leaving → ℕ → ℕ → Bool
is_due leaving slot done = list_any (is_met slot done) leaving

-- whether a half of this slot is among these
abbrev pub is_held : {H : Type 0} → (H → ℕ) → ℕ → List H → Bool
is_held slot_at slot held = list_any (λ half. slot_at half == slot) held

-- for slots other than this one the notes say the same
abbrev pub SameElsewhere : ℕ → List Leaving → List Leaving → Type 0
SameElsewhere slot old new = (other done : ℕ) → other ≢ slot → is_due new other done ≡ is_due old other done

-- the half of this slot, if it is held, is due once it has done so much and not before, whatever was noted of it; if it
-- isn't held, nothing is noted
pub record NotesLeave {H : Type 0} (slot_at : H → ℕ) (held : List H) (slot until : ℕ) (old new : List Leaving) : Type 0
  where
    pub due : is_held slot_at slot held ≡ true → (done : ℕ) → is_due new slot done ≡ nat_le until done
    pub elsewhere : SameElsewhere slot old new
    pub none : is_held slot_at slot held ≡ false → new ≡ old

-- what an order makes of the notes
abbrev pub IsNoted : {H : Type 0} → (H → ℕ) → List H → Order H → List Leaving → List Leaving → Type 0
IsNoted slot_at held (Arrive _) old new = new ≡ old
IsNoted slot_at held (Leave slot until) old new = NotesLeave slot_at held slot until old new
