-- Nothing is lost at a step of a homecoming.
use Rattle.std.proofs.Common.{◌≡◌, ℕ, ◌+◌, List, [], ◌∷◌, ◌++◌, length, map, refl, sym, ap, ◌∙◌, arith, length-append}
use Rattle.std.specs.Prelude.{Option, None}
use Rattle.std.specs.List.{sum_by}
use Rattle.std.proofs.lemmas.List.{length-map}
use Rattle.std.proofs.lemmas.List.Sums.{sum_by-append, sum_by_push}
use Rattle.lane_core.specs.Ends.{sent, taken}
use Rattle.worker_core.specs.declared.order.Order.{Order}
use Rattle.worker_core.specs.declared.order.Order.TheVariants.{Arrive, Leave}
use Rattle.worker_core.specs.Desks.{Desk}
use Rattle.worker_core.specs.Names.{arrivals, weight}
use Rattle.worker_core.proofs.Arrivals.{arrivals-append, weight-push}
use Rattle.migration.specs.Desks.{sent_weight, home_weight}
use Rattle.migration.proofs.Desks.{arrive_weight, leave_weight}
use Rattle.worker_core.specs.declared.home_lane.HomeLane.{HomeLane}
use Rattle.worker_core.specs.Opened.{opened_sent, opened_taken}

pub none_left : {X : Type 0} (xs : List X) → length xs ≡ 0 → xs ≡ []
none_left [] none = refl
none_left (x ∷ xs) none = absurd (omega arith)

first_or : {X : Type 0} → X → List X → X
first_or d [] = d
first_or d (x ∷ xs) = x

rest_of : {X : Type 0} → List X → List X
rest_of [] = []
rest_of (x ∷ xs) = xs

-- the last of two lists that look alike
pub last_same : {A B L : Type 0} (f : A → L) (g : B → L) (xs : List A) (x : A) (ys : List B) (y : B)
    → map f (xs ++ x ∷ []) ≡ map g (ys ++ y ∷ [])
    → (map f xs ≡ map g ys) × (f x ≡ g y)
unfolding first_or rest_of
last_same f g [] x [] y same = (refl, ap (first_or (f x)) same)
last_same f g [] x (z ∷ ys) y same = absurd (
    let a = ap length same in
    let b = length-map (ys ++ y ∷ []) g in
    let c = length-append ys (y ∷ []) in omega arith)
last_same f g (z ∷ xs) x [] y same = absurd (
    let a = ap length same in
    let b = length-map (xs ++ x ∷ []) f in
    let c = length-append xs (x ∷ []) in omega arith)
last_same f g (z ∷ xs) x (w ∷ ys) y same =
    let later = last_same f g xs x ys y (ap rest_of same) in ((λ i. first_or (f z) (same i) ∷ later.0 i), later.1)

pub lasts_same : {A B L : Type 0} (f : A → L) (g : B → L) (all xs : List A) (x : A) (both ys : List B) (y : B)
    → all ≡ xs ++ x ∷ [] → both ≡ ys ++ y ∷ []
    → map f all ≡ map g both → (map f xs ≡ map g ys) × (f x ≡ g y)
lasts_same f g all xs x both ys y a b same = last_same f g xs x ys y (ap (map f) (sym a) ∙ same ∙ ap (map g) b)

module _ {H N : Type 0} (name : H → N) (h : N → ℕ) where
  -- an order that brings a half
  pub found_arrival : (left new : List (Order H)) (found more : List H) (half : H) → left ≡ new ++ Arrive half ∷ []
      → more ≡ found ++ half ∷ []
      → weight name h (arrivals new) + weight name h more ≡ weight name h (arrivals left) + weight name h found
  found_arrival left new found more half was is =
      let a = ap (λ l. weight name h (arrivals l)) was in
      let b = arrive_weight name h new half in
      let c = ap (weight name h) is in
      let d = weight-push name h found half in omega arith

  -- an order that brings none
  pub found_none : (left new : List (Order H)) (slot until total : ℕ) → left ≡ new ++ Leave slot until ∷ []
      → weight name h (arrivals new) + total ≡ weight name h (arrivals left) + total
  found_none left new slot until total was =
      let a = ap (λ l. weight name h (arrivals l)) was in
      let b = leave_weight name h new slot until in omega arith

  -- the lane of orders of the last desk is closed
  pub closed_orders : (fronts found names : ℕ) (left : List (Order H)) (held : List H)
      (opened : Option (HomeLane H)) (desks rest : List (Desk H)) (desk : Desk H)
      (came more : List (Order H)) (keeps gone : List H)
      → fronts + found + weight name h (arrivals left) + weight name h held + opened_sent (λ half. h (name half)) opened
      + sum_by (sent_weight name h) desks
      ≡ names + opened_taken (λ half. h (name half)) opened + sum_by (home_weight name h) desks
      → left ≡ [] → held ≡ [] → opened ≡ None → desks ≡ rest ++ desk ∷ [] → sent desk.orders ≡ came ++ more
      → weight name h (arrivals came) ≡ weight name h keeps + weight name h gone
      → fronts + found + weight name h (arrivals more) + weight name h keeps + weight name h gone
      + sum_by (sent_weight name h) rest
      ≡ names + weight name h (taken desk.home) + sum_by (home_weight name h) rest
  closed_orders fronts found names left held opened desks rest desk came more keeps gone whole no_left no_held
      closed last all kept =
      let f : H → ℕ = λ x. h (name x) in
      let a = ap (λ l. weight name h (arrivals l)) no_left in
      let b = ap (weight name h) no_held in
      let c = ap (opened_sent f) closed in
      let d = ap (opened_taken f) closed in
      let s = ap (sum_by (sent_weight name h)) last ∙ sum_by_push (sent_weight name h) rest desk in
      let t = ap (sum_by (home_weight name h)) last ∙ sum_by_push (home_weight name h) rest desk in
      let r : weight name h (arrivals (sent desk.orders)) ≡ weight name h (arrivals came)
      + weight name h (arrivals more) =
      ap (λ l. weight name h (arrivals l)) all ∙ ap (sum_by f) (arrivals-append came more)
      ∙ sum_by-append f (arrivals came) (arrivals more) in
      omega arith
