-- What one step at a slot changes in sums over all.
use Rattle.std.proofs.Common.{◌≡◌, ℕ, ◌+◌, ◌<◌, ◌≤◌, ◌⊎◌, inl, inr, List, length, refl, sym, ap, ◌∙◌, subst, arith}
use Rattle.std.specs.Prelude.{Option, Some, None}
use Rattle.std.specs.List.{sum_by}
use Rattle.lane_core.specs.Ends.{sent, raised}
use Rattle.worker_core.specs.Desks.{Desk}
use Rattle.worker_core.specs.declared.order.Order.{Order}
use Rattle.worker_core.specs.declared.order.Order.TheVariants.{Arrive, Leave}
use Rattle.worker_core.specs.Names.{arrivals, weight}
use Rattle.migration.specs.declared.place.ControlPlace.{ControlPlace}
use Rattle.migration.specs.declared.place.ControlState.{ControlState}
use Rattle.migration.specs.declared.place.ControlState.TheVariants.{Front, Placed, Recall, Leaving}
use Rattle.migration.specs.Desks.{sent_weight}
use Rattle.worker_core.specs.Desks.{lanes_of, homes_of, order_count, fulls_at, Given, Refused}
use Rattle.migration.specs.Places.{pending, waits_for, front_weight, slices_fit}
use Rattle.migration.specs.Steps.{Sends, Recalls, Serves, Goes, Homes, Welcomes}
use Rattle.migration.proofs.Passes.{not_leaving}
use Rattle.migration.proofs.Desks.{arrive_weight, leave_weight}
use Rattle.worker_core.proofs.AtDesks.{changed_sum, changed_map, changed_len, changed_lanes, refused_sum}
use Rattle.worker_core.proofs.AtDesks.{refused_full, refused_raised, given_fulls, given_count}

-- a state changed with the desks; so many orders may be given more
pub record StateStep {H N : Type 0} (name : H → N) (spare : ℕ) (old new : ControlState H)
    (desks now : List (Desk H)) : Type 0 where
  pub lanes : lanes_of now ≡ lanes_of desks
  pub homes : homes_of now ≡ homes_of desks
  pub long : length now ≡ length desks
  pub weight : (h : N → ℕ) → front_weight name h new + sum_by (sent_weight name h) now ≡ front_weight name h old
      + sum_by (sent_weight name h) desks
  pub count : sum_by (order_count {O = Order H} {H = H}) now + pending new
      ≤ sum_by (order_count {O = Order H} {H = H}) desks + pending old + spare
  pub fulls : (slice : ℕ) → (fulls_at now slice ≡ fulls_at desks slice)
      ⊎ (fulls_at now slice ≡ raised (fulls_at desks slice))

-- a state that still waits for a slice met a full lane there
abbrev pub Again : {H : Type 0} → ControlState H → List (Desk H) → List (Desk H) → Type 0
Again state desks now = (slice : ℕ) → waits_for state ≡ Some slice → fulls_at now slice ≡ raised (fulls_at desks slice)

some_same : {X : Type 0} (x y : X) → Some x ≡ Some y → x ≡ y
some_same x y e = ap (λ o. out o x) e where
  out : {X : Type 0} → Option X → X → X
  out None d = d
  out (Some x) d = x

module _ {H N : Type 0} (name : H → N) (desks now : List (Desk H)) where
  again_at : (at : ℕ) (state : ControlState H) → waits_for state ≡ Some at → Refused at desks now → Again state desks now
  again_at at state waits refused slice still =
      let same : at ≡ slice = some_same at slice (sym waits ∙ still) in
      subst (λ (n : ℕ). fulls_at now n ≡ raised (fulls_at desks n)) same (refused_full at desks now refused)

  again_none : (state : ControlState H) → waits_for state ≡ None → Again state desks now
  again_none state none slice still = absurd (let no : ⊥ = cc in no)

  stay_step : (spare at : ℕ) (old new : ControlState H) → ((h : N → ℕ) → front_weight name h new ≡ front_weight name h old)
      → pending new ≤ pending old + spare → Refused at desks now → StateStep name spare old new desks now
  stay_step spare at old new front count refused =
      let b = refused.before in let n = refused.now in
      record {
        lanes = changed_lanes at b n desks now refused.desk;
        homes = changed_map at b n desks now refused.desk (λ (desk : Desk H). desk.home) refused.home;
        long = changed_len at b n desks now refused.desk;
        weight = λ h. let e = refused_sum at desks now refused
            (λ orders. weight name h (arrivals orders)) in let f = front h in omega arith;
        count = let e = refused_sum at desks now refused length in omega arith;
        fulls = refused_raised at desks now refused;
      }

  arrive_step : (to : ℕ) (half told : H) → name told ≡ name half → Given to (Arrive told) desks now
      → StateStep name 0 (Front half to) (Placed to) desks now
  arrive_step to half told named given =
      let b = given.before in let n = given.now in
      record {
        lanes = changed_lanes to b n desks now given.desk;
        homes = changed_map to b n desks now given.desk (λ (desk : Desk H). desk.home) given.home;
        long = changed_len to b n desks now given.desk;
        weight = λ h.
            let e = changed_sum to b n desks now given.desk (sent_weight name h) in
            let s = ap (λ orders. weight name h (arrivals orders)) given.sent in
            let a = arrive_weight name h (sent b.orders) told in
            let w = ap h named in omega arith;
        count = let e = given_count to (Arrive told) desks now given in omega arith;
        fulls = λ slice. inl (given_fulls to (Arrive told) desks now given slice);
      }

  leave_step : (spare at slot until to : ℕ) (old : ControlState H) → ((h : N → ℕ) → front_weight name h old ≡ 0)
      → 2 ≤ pending old + spare
      → Given at (Leave slot until) desks now → StateStep name spare old (Leaving at to) desks now
  leave_step spare at slot until to old front count given =
      let b = given.before in let n = given.now in
      record {
        lanes = changed_lanes at b n desks now given.desk;
        homes = changed_map at b n desks now given.desk (λ (desk : Desk H). desk.home) given.home;
        long = changed_len at b n desks now given.desk;
        weight = λ h.
            let e = changed_sum at b n desks now given.desk (sent_weight name h) in
            let s = ap (λ orders. weight name h (arrivals orders)) given.sent in
            let a = leave_weight name h (sent b.orders) slot until in
            let f = front h in omega arith;
        count = let e = given_count at (Leave slot until) desks now given in omega arith;
        fulls = λ slice. inl (given_fulls at (Leave slot until) desks now given slice);
      }

  same_step : (spare : ℕ) (old new : ControlState H) → ((h : N → ℕ) → front_weight name h new ≡ front_weight name h old)
      → pending new ≤ pending old + spare → now ≡ desks → StateStep name spare old new desks now
  same_step spare old new front count same = record {
    lanes = ap lanes_of same;
    homes = ap homes_of same;
    long = ap length same;
    weight = λ h. let e = ap (sum_by (sent_weight name h)) same in let f = front h in omega arith;
    count = let e = ap (sum_by (order_count {O = Order H} {H = H})) same in omega arith;
    fulls = λ slice. inl (ap (λ l. fulls_at l slice) same);
  }

  pub sends_step : (hop_of : H → ℕ) (hop to : ℕ) (half : H) (state : ControlState H)
      → Sends name hop_of hop to half state desks now
      → StateStep name 0 (Front half to) state desks now × Again state desks now
  sends_step hop_of hop to half state sends = elim sends.outcome [
    | inl put ↦ subst (λ (s : ControlState H). StateStep name 0 (Front half to) s desks now × Again s desks now) (sym put.0)
        (arrive_step to half sends.told sends.named put.1, again_none (Placed to) refl)
    | inr kept ↦ subst (λ (s : ControlState H). StateStep name 0 (Front half to) s desks now × Again s desks now)
        (sym kept.0) (
          stay_step 0 to (Front half to) (Front sends.told to) (λ h. ap h sends.named) (omega arith) kept.1,
          again_at to (Front sends.told to) refl kept.1,
        )
  ]

  pub recalls_step : (spare slot at until to : ℕ) (old state : ControlState H)
      → ((h : N → ℕ) → front_weight name h old ≡ 0) → 2 ≤ pending old + spare
      → Recalls slot at until to state desks now → StateStep name spare old state desks now × Again state desks now
  recalls_step spare slot at until to old state front count recalls = elim recalls [
    | inl put ↦ subst (λ (s : ControlState H). StateStep name spare old s desks now × Again s desks now) (sym put.0)
        (leave_step spare at slot until to old front count put.1, again_none (Leaving at to) refl)
    | inr kept ↦ subst (λ (s : ControlState H). StateStep name spare old s desks now × Again s desks now) (sym kept.0) (
      stay_step spare at old (Recall at until to) (λ h. sym (front h)) count kept.1,
      again_at at (Recall at until to) refl kept.1,
    )
  ]

  -- the order of a state was offered
  pub serves_step : (hop_of : H → ℕ) (slot hop : ℕ) (old state : ControlState H)
      → Serves name hop_of slot hop old state desks now
      → StateStep name 0 old state desks now × Again state desks now
  serves_step hop_of slot hop (Front half to) state serves = sends_step hop_of hop to half state serves
  serves_step hop_of slot hop (Placed at) state serves =
      subst (λ (s : ControlState H). StateStep name 0 (Placed at) s desks now × Again s desks now) (sym serves.0)
      (same_step 0 (Placed at) (Placed at) (λ h. refl) (omega arith) serves.1, again_none (Placed at) refl)
  serves_step hop_of slot hop (Recall at until to) state serves =
      recalls_step 0 slot at until to (Recall at until to) state (λ h. refl) (omega arith) serves
  serves_step hop_of slot hop (Leaving from to) state serves =
      subst (λ (s : ControlState H). StateStep name 0 (Leaving from to) s desks now × Again s desks now) (sym serves.0) (
        same_step 0 (Leaving from to) (Leaving from to) (λ h. refl) (omega arith) serves.1,
        again_none (Leaving from to) refl,
      )

  -- a slot moved
  pub goes_step : (slot slice until : ℕ) (old state : ControlState H) → Goes slot slice until old state desks now
      → StateStep name 2 old state desks now
  goes_step slot slice until (Front half to) state goes =
      subst (λ (s : ControlState H). StateStep name 2 (Front half to) s desks now) (sym goes.0)
      (same_step 2 (Front half to) (Front half slice) (λ h. refl) (omega arith) goes.1)
  goes_step slot slice until (Placed at) state goes =
      (recalls_step 2 slot at until slice (Placed at) state (λ h. refl) (omega arith) goes).0
  goes_step slot slice until (Recall at count to) state goes =
      subst (λ (s : ControlState H). StateStep name 2 (Recall at count to) s desks now) (sym goes.0)
      (same_step 2 (Recall at count to) (Recall at count slice) (λ h. refl) (omega arith) goes.1)
  goes_step slot slice until (Leaving from to) state goes =
      subst (λ (s : ControlState H). StateStep name 2 (Leaving from to) s desks now) (sym goes.0)
      (same_step 2 (Leaving from to) (Leaving from slice) (λ h. refl) (omega arith) goes.1)

  -- the slices of a state stay in range
  pub sends_fit : (hop_of : H → ℕ) (n hop to : ℕ) (half : H) (state : ControlState H) → to < n
      → Sends name hop_of hop to half state desks now → slices_fit n state
  sends_fit hop_of n hop to half state fits sends = elim sends.outcome [
    | inl put ↦ subst (slices_fit n) (sym put.0) (omega arith, omega arith)
    | inr kept ↦ subst (slices_fit n) (sym kept.0) (omega arith, omega arith)
  ]

  recalls_fit : (n slot at until to : ℕ) (state : ControlState H) → at < n → to < n
      → Recalls slot at until to state desks now → slices_fit n state
  recalls_fit n slot at until to state fits there recalls = elim recalls [
    | inl put ↦ subst (slices_fit n) (sym put.0) (omega arith, omega arith)
    | inr kept ↦ subst (slices_fit n) (sym kept.0) (omega arith, omega arith)
  ]

  pub serves_fit : (hop_of : H → ℕ) (n slot hop : ℕ) (old state : ControlState H) → slices_fit n old
      → Serves name hop_of slot hop old state desks now
      → slices_fit n state
  serves_fit hop_of n slot hop (Front half to) state fits serves =
      sends_fit hop_of n hop to half state (let t = fits.1 in omega arith) serves
  serves_fit hop_of n slot hop (Placed at) state fits serves = subst (slices_fit n) (sym serves.0) fits
  serves_fit hop_of n slot hop (Recall at until to) state fits serves =
      recalls_fit n slot at until to state (let t = fits.0 in omega arith) (let t = fits.1 in omega arith) serves
  serves_fit hop_of n slot hop (Leaving from to) state fits serves = subst (slices_fit n) (sym serves.0) fits

  pub goes_fit : (n slot slice until : ℕ) (old state : ControlState H) → slices_fit n old → slice < n
      → Goes slot slice until old state desks now
      → slices_fit n state
  goes_fit n slot slice until (Front half to) state fits there goes =
      subst (slices_fit n) (sym goes.0) (omega arith, omega arith)
  goes_fit n slot slice until (Placed at) state fits there goes =
      recalls_fit n slot at until slice state (let t = fits.0 in omega arith) there goes
  goes_fit n slot slice until (Recall at count to) state fits there goes =
      subst (slices_fit n) (sym goes.0) (fits.0, omega arith)
  goes_fit n slot slice until (Leaving from to) state fits there goes =
      subst (slices_fit n) (sym goes.0) (fits.0, omega arith)

-- a half that came home, and the place of its slot
pub homed_place : {H : Type 0} (half : H) (before now : ControlPlace H) (back : Option H) → now.hop ≡ before.hop
    → now.admitted ≡ before.admitted
    → Homes half before.state now.state back → Welcomes half (Some before) (Some now) back
homed_place half before now None hop admitted homes = (before, now, refl, refl, hop, admitted, homes)
homed_place half before now (Some other) hop admitted homes = (
  homes.0,
  (λ i. Some (record { hop = hop i; state = homes.1 i; admitted = admitted i })),
  not_leaving before.state homes.2,
)
