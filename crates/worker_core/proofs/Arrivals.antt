-- The names that came are those held and those that went home, whatever a worker does.
use Rattle.std.proofs.Common.{◌≡◌, ℕ, ◌+◌, ◌^◌, ◌<◌, ◌≤◌, List, [], ◌∷◌, ◌++◌, length, map, get_or, refl, sym, ap}
use Rattle.std.proofs.Common.{◌∙◌, arith}
use Rattle.std.specs.List.{sum_by, remove}
use Rattle.std.proofs.lemmas.List.Sums.{sum_by-append, sum_by-cons, sum_by_push, sum_by-remove}
use Rattle.worker_core.specs.declared.order.Order.{Order}
use Rattle.worker_core.specs.declared.order.Order.TheVariants.{Arrive, Leave}
use Rattle.worker_core.specs.Names.{arrivals, weight, Kept}

module _ {H : Type 0} where
  pub arrivals-append : (came more : List (Order H)) → arrivals (came ++ more) ≡ arrivals came ++ arrivals more
  arrivals-append [] more = refl
  arrivals-append (Arrive half ∷ came) more = ap (λ l. half ∷ l) (arrivals-append came more)
  arrivals-append (Leave _ _ ∷ came) more = arrivals-append came more

  pub length-arrivals-le : (came : List (Order H)) → length (arrivals came) ≤ length came
  length-arrivals-le [] = omega arith
  length-arrivals-le (Arrive half ∷ came) = let h = length-arrivals-le came in omega arith
  length-arrivals-le (Leave _ _ ∷ came) = let h = length-arrivals-le came in omega arith

-- each counted as one
sum_by-one : {X : Type 0} (xs : List X) → sum_by (λ _. 1) xs ≡ length xs
sum_by-one [] = refl
sum_by-one {X} (x ∷ xs) =
    let one : X → ℕ = λ _. 1 in let h = sum_by-one xs in let e = sum_by-cons one x xs in omega arith

-- a sum over values of elements
pub sum_by-through : {X N : Type 0} (name : X → N) (h : N → ℕ) (xs : List X)
    → sum_by (λ x. h (name x)) xs ≡ sum_by h (map name xs)
sum_by-through name h [] = refl
sum_by-through {X} name h (x ∷ xs) =
    let f : X → ℕ = λ x. h (name x) in
    sum_by-cons f x xs ∙ ap (λ n. h (name x) + n) (sum_by-through name h xs)
    ∙ sym (sum_by-cons h (name x) (map name xs))

module _ {H N : Type 0} (name : H → N) where
  pub weight-push : (h : N → ℕ) (halves : List H) (half : H)
      → weight name h (halves ++ half ∷ []) ≡ weight name h halves + h (name half)
  weight-push h halves half = let f : H → ℕ = λ x. h (name x) in sum_by_push f halves half

  pub kept_arrive : (came : List (Order H)) (held home : List H) (half : H) → Kept name came held home
      → Kept name (came ++ Arrive half ∷ []) (held ++ half ∷ []) home
  kept_arrive came held home half kept h =
      let f : H → ℕ = λ x. h (name x) in
      let e : weight name h (arrivals (came ++ Arrive half ∷ [])) ≡ weight name h (arrivals came) + h (name half) =
      ap (sum_by f) (arrivals-append came (Arrive half ∷ [])) ∙ sum_by_push f (arrivals came) half in
      let p = kept h in let q = weight-push h held half in omega arith

  pub kept_leave : (came : List (Order H)) (held home : List H) (slot until : ℕ) → Kept name came held home
      → Kept name (came ++ Leave slot until ∷ []) held home
  kept_leave came held home slot until kept h =
      let f : H → ℕ = λ x. h (name x) in
      let e : weight name h (arrivals (came ++ Leave slot until ∷ [])) ≡ weight name h (arrivals came) =
      ap (sum_by f) (arrivals-append came (Leave slot until ∷ [])) ∙ sum_by-append f (arrivals came) []
      ∙ (omega arith) in
      e ∙ kept h

  pub kept_names : (came : List (Order H)) (old new home : List H) → map name new ≡ map name old
      → Kept name came old home
      → Kept name came new home
  kept_names came old new home same kept h =
      let e : weight name h new ≡ weight name h old =
      sum_by-through name h new ∙ ap (sum_by h) same ∙ sym (sum_by-through name h old) in
      let p = kept h in omega arith

  pub kept_home : (came : List (Order H)) (held home : List H) (at : ℕ) (half : H) → at < length held
      → half ≡ get_or held at half
      → Kept name came held home → Kept name came (remove held at) (home ++ half ∷ [])
  kept_home came held home at half within is kept h =
      let f : H → ℕ = λ x. h (name x) in
      let e = sum_by-remove f held at half within in
      let here : f (get_or held at half) ≡ h (name half) = ap f (sym is) in
      let p = kept h in let q = weight-push h home half in omega arith

  -- a worker that holds a half has sent home fewer than came
  pub home_few : (came : List (Order H)) (held home : List H) → 0 < length held → length came ≤ 2 ^ 50
      → Kept name came held home
      → length home < 2 ^ 50
  home_few came held home some few kept =
      let one : N → ℕ = λ _. 1 in
      let p = kept one in
      let a = sum_by-one (arrivals came) in let b = sum_by-one held in let c = sum_by-one home in
      let d = length-arrivals-le came in omega arith
