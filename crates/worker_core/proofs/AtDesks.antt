-- What a change of one desk does to all of them.
use Rattle.std.proofs.Common.{◌≡◌, ◌≢◌, ℕ, ◌+◌, ◌<◌, ◌⊎◌, inl, inr, true, false, List, [], ◌∷◌, ◌++◌}
use Rattle.std.proofs.Common.{length, map, set, get_or, refl, sym, ap, ◌∙◌, subst, arith, length-append}
use Rattle.std.specs.Prelude.{nat_eq, Option, Some, None, MatchOption}
use Rattle.std.specs.List.{sum_by}
use Rattle.std.proofs.lemmas.List.{length-map, length-set, map-set, get_or-map, get_or-set_same, get_or-set_other}
use Rattle.std.proofs.lemmas.List.Sums.{sum_by-set}
use Rattle.std.proofs.Math.Seq.{map-set_same}
use Rattle.std.proofs.lemmas.Bool.{eqb-true, eqb-false}
use Rattle.lane_core.specs.Ends.{sent, taken, full_answers, raised}
use Rattle.worker_core.specs.declared.desks.LaneDesk.{LaneDesk}
use Rattle.worker_core.specs.Counts.{Lasts}
use Rattle.worker_core.specs.Workers.{desk_lanes}
use Rattle.worker_core.specs.Desks.{lanes_of, homes_of, sent_at, home_at, order_count, fulls_at}
use Rattle.worker_core.specs.Desks.{DeskChanged, Given, Refused, Taken}
use Rattle.worker_core.proofs.Arrivals.{sum_by-through}
use Rattle.worker_core.proofs.Rising.{lasts_raised}

pub option_then : {X : Type 0} (o : Option X) {A B : Type 0} {P Q : X → Type 0} → (A → B) → ((x : X) → P x → Q x)
    → MatchOption o A P → MatchOption o B Q
option_then None f g m = f m
option_then (Some x) f g m = g x m

module _ {O H : Type 0} (slice : ℕ) (before now : LaneDesk O H) (old new : List (LaneDesk O H))
    (desk : DeskChanged slice before now old new) where
  pub changed_sum : (f : LaneDesk O H → ℕ) → sum_by f new + f before ≡ sum_by f old + f now
  changed_sum f =
      let e = sum_by-set f old slice now before desk.within in
      let c = ap (sum_by f) desk.changed in
      let t = ap f desk.there in omega arith

  pub changed_map : {A : Type 0} (f : LaneDesk O H → A) → f now ≡ f before → map f new ≡ map f old
  changed_map f same = ap (map f) desk.changed ∙ map-set_same f old slice now before (same ∙ ap f desk.there)

  pub changed_len : length new ≡ length old
  changed_len = ap length desk.changed ∙ length-set old slice now

  pub changed_lanes : lanes_of new ≡ lanes_of old
  changed_lanes = changed_map desk_lanes desk.lanes

  as_set : {A : Type 0} (f : LaneDesk O H → A) → map f new ≡ set (map f old) slice (f now)
  as_set f = ap (map f) desk.changed ∙ map-set f old slice now

  pub at_now : {A : Type 0} (f : LaneDesk O H → A) (none : A) → get_or (map f new) slice none ≡ f now
  at_now f none =
      let within : slice < length (map f old) = rw length-map desk.within in
      ap (λ l. get_or l slice none) (as_set f) ∙ get_or-set_same (map f old) slice (f now) none within

  pub at_before : {A : Type 0} (f : LaneDesk O H → A) (none : A) → get_or (map f old) slice none ≡ f before
  at_before f none = get_or-map f old slice before none desk.within ∙ ap f (sym desk.there)

  pub at_other : {A : Type 0} (f : LaneDesk O H → A) (none : A) (other : ℕ) → other ≢ slice
      → get_or (map f new) other none ≡ get_or (map f old) other none
  at_other f none other apart = ap (λ l. get_or l other none) (as_set f)
      ∙ get_or-set_other (map f old) slice other (f now) none apart

  pub at_same : {A : Type 0} (f : LaneDesk O H → A) (none : A) (other : ℕ) → f now ≡ f before
      → get_or (map f new) other none ≡ get_or (map f old) other none
  at_same f none other same = ap (λ l. get_or l other none) (changed_map f same)

-- one order more stands at one slice, and elsewhere none does
pub record OneMore {O : Type 0} (slice : ℕ) (order : O) (old new : ℕ → List O) : Type 0 where
  pub here : new slice ≡ old slice ++ order ∷ []
  pub others : (d : ℕ) → d ≢ slice → new d ≡ old d

-- one half more came home from one slice
pub record OneHome {H : Type 0} (slice : ℕ) (half : H) (old new : ℕ → List H) : Type 0 where
  pub here : new slice ≡ old slice ++ half ∷ []
  pub others : (d : ℕ) → d ≢ slice → new d ≡ old d

-- an order that was put
module _ {O H : Type 0} (slice : ℕ) (order : O) (old new : List (LaneDesk O H))
    (given : Given slice order old new) where
  pub given_more : OneMore slice order (sent_at old) (sent_at new)
  given_more =
      let f : LaneDesk O H → List (O) = λ desk. sent desk.orders in
      record {
        here = at_now slice given.before given.now old new given.desk f [] ∙ given.sent
            ∙ ap (λ l. l ++ order ∷ []) (sym (at_before slice given.before given.now old new given.desk f []));
        others = λ d apart. at_other slice given.before given.now old new given.desk f [] d apart;
      }

  pub given_homes : (d : ℕ) → home_at new d ≡ home_at old d
  given_homes d = at_same slice given.before given.now old new given.desk (λ desk. taken desk.home) [] d
      (ap taken given.home)

  pub given_ends : homes_of new ≡ homes_of old
  given_ends = changed_map slice given.before given.now old new given.desk (λ desk. desk.home) given.home

  pub given_fulls : (d : ℕ) → fulls_at new d ≡ fulls_at old d
  given_fulls d = at_same slice given.before given.now old new given.desk (λ desk. full_answers desk.orders) 0 d
      given.fulls

  pub given_count : sum_by (order_count {O = O} {H = H}) new ≡ sum_by (order_count {O = O} {H = H}) old + 1
  given_count =
      let e = changed_sum slice given.before given.now old new given.desk order_count in
      let s : length (sent given.now.orders) ≡ length (sent given.before.orders) + 1 =
      ap length given.sent ∙ length-append (sent given.before.orders) (order ∷ []) in omega arith

  pub given_lanes : lanes_of new ≡ lanes_of old
  given_lanes = changed_lanes slice given.before given.now old new given.desk

  pub given_len : length new ≡ length old
  given_len = changed_len slice given.before given.now old new given.desk

-- a refused order: the lane of its slice was full once more, and nothing else is new
module _ {O H : Type 0} (slice : ℕ) (old new : List (LaneDesk O H)) (refused : Refused slice old new) where
  pub refused_sent : (d : ℕ) → sent_at new d ≡ sent_at old d
  refused_sent d = at_same slice refused.before refused.now old new refused.desk (λ desk. sent desk.orders) [] d
      refused.sent

  pub refused_homes : (d : ℕ) → home_at new d ≡ home_at old d
  refused_homes d = at_same slice refused.before refused.now old new refused.desk (λ desk. taken desk.home) [] d
      (ap taken refused.home)

  pub refused_ends : homes_of new ≡ homes_of old
  refused_ends = changed_map slice refused.before refused.now old new refused.desk (λ desk. desk.home) refused.home

  pub refused_sum : (f : List (O) → ℕ) → sum_by (λ (desk : LaneDesk O H). f (sent desk.orders)) new ≡
      sum_by (λ (desk : LaneDesk O H). f (sent desk.orders)) old
  refused_sum f =
      let g : LaneDesk O H → ℕ = λ desk. f (sent desk.orders) in
      let e = changed_sum slice refused.before refused.now old new refused.desk g in
      let s : g refused.now ≡ g refused.before = ap f refused.sent in omega arith

  pub refused_full : fulls_at new slice ≡ raised (fulls_at old slice)
  refused_full =
      let g : LaneDesk O H → ℕ = λ desk. full_answers desk.orders in
      at_now slice refused.before refused.now old new refused.desk g 0 ∙ refused.fulls
      ∙ ap raised (sym (at_before slice refused.before refused.now old new refused.desk g 0))

  pub refused_raised : (d : ℕ) → (fulls_at new d ≡ fulls_at old d) ⊎ (fulls_at new d ≡ raised (fulls_at old d))
  refused_raised d = elim (nat_eq d slice) as (λ b. nat_eq d slice ≡ b → (fulls_at new d ≡ fulls_at old d)
      ⊎ (fulls_at new d ≡ raised (fulls_at old d))) [
        | true ↦ λ e. inr (subst (λ (n : ℕ). fulls_at new n ≡ raised (fulls_at old n)) (sym (eqb-true d slice e))
            refused_full)
        | false ↦ λ e. inl (at_other slice refused.before refused.now old new refused.desk
            (λ desk. full_answers desk.orders) 0 d (eqb-false d slice e))
      ] refl

  pub refused_fulls : (d : ℕ) → Lasts (fulls_at old d) (fulls_at new d)
  refused_fulls d = elim (refused_raised d) [
    | inl same ↦ inl same
    | inr more ↦ lasts_raised (fulls_at old d) (fulls_at new d) more
  ]

  pub refused_lanes : lanes_of new ≡ lanes_of old
  refused_lanes = changed_lanes slice refused.before refused.now old new refused.desk

  pub refused_len : length new ≡ length old
  refused_len = changed_len slice refused.before refused.now old new refused.desk

-- a half that was taken home
module _ {O H : Type 0} (slice : ℕ) (half : H) (old new : List (LaneDesk O H)) (took : Taken slice half old new) where
  pub taken_more : OneHome slice half (home_at old) (home_at new)
  taken_more =
      let f : LaneDesk O H → List H = λ desk. taken desk.home in
      record {
        here = at_now slice took.before took.now old new took.desk f [] ∙ took.taken
            ∙ ap (λ l. l ++ half ∷ []) (sym (at_before slice took.before took.now old new took.desk f []));
        others = λ d apart. at_other slice took.before took.now old new took.desk f [] d apart;
      }

  pub taken_sent : (d : ℕ) → sent_at new d ≡ sent_at old d
  taken_sent d = at_same slice took.before took.now old new took.desk (λ desk. sent desk.orders) [] d
      (ap sent took.orders)

pub homes_sum : {O H : Type 0} (f : List H → ℕ) (old new : List (LaneDesk O H)) → homes_of new ≡ homes_of old
    → sum_by (λ (desk : LaneDesk O H). f (taken desk.home)) new ≡ sum_by
    (λ (desk : LaneDesk O H). f (taken desk.home)) old
homes_sum {O} {H} f old new same =
    sum_by-through (λ (desk : LaneDesk O H). desk.home) (λ home. f (taken home)) new
    ∙ ap (sum_by (λ home. f (taken home))) same
    ∙ sym (sum_by-through (λ (desk : LaneDesk O H). desk.home) (λ home. f (taken home)) old)
