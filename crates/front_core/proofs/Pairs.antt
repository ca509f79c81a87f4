-- Desks and workers, with one more of each.
use Rattle.std.proofs.Common.{◌≡◌, ℕ, ◌+◌, List, [], ◌∷◌, ◌++◌, map, replicate, sym, ap, ◌∙◌, add-one}
use Rattle.std.proofs.lemmas.List.{map-append, replicate_more}
use Rattle.worker_core.specs.Desks.{lanes_of}
use Rattle.worker_core.specs.Workers.{Lanes, desk_lanes}
use Rattle.worker_core.specs.declared.desks.LaneDesk.{LaneDesk}
use Rattle.front_core.specs.Words.{first_slices}

module _ {O H W : Type 0} (lanes_at : W → Lanes) (desks : List (LaneDesk O H)) (desk : LaneDesk O H) where
  pub lanes_push : (workers : List W) (worker : W) → lanes_of desks ≡ map lanes_at workers
      → desk_lanes desk ≡ lanes_at worker
      → lanes_of (desks ++ desk ∷ []) ≡ map lanes_at (workers ++ worker ∷ [])
  lanes_push workers worker all same =
      map-append desk_lanes desks (desk ∷ []) ∙ ap (λ (l : List Lanes). l ++ desk_lanes desk ∷ []) all
      ∙ ap (λ (x : Lanes). map lanes_at workers ++ x ∷ []) same ∙ sym (map-append lanes_at workers (worker ∷ []))

module _ {O H : Type 0} (desks : List (LaneDesk O H)) (desk : LaneDesk O H) where
  pub rooms_push : (many lane : ℕ) → map (λ (lanes : Lanes). lanes.0.room) (lanes_of desks) ≡ replicate many lane
      → (desk_lanes desk).0.room ≡ lane
      → map (λ (lanes : Lanes). lanes.0.room) (lanes_of (desks ++ desk ∷ [])) ≡ replicate (many + 1) lane
  rooms_push many lane all same =
      ap (map (λ (lanes : Lanes). lanes.0.room)) (map-append desk_lanes desks (desk ∷ []))
      ∙ map-append (λ (lanes : Lanes). lanes.0.room) (lanes_of desks) (desk_lanes desk ∷ [])
      ∙ ap (λ (l : List ℕ). l ++ (desk_lanes desk).0.room ∷ []) all
      ∙ ap (λ (room : ℕ). replicate many lane ++ room ∷ []) same ∙ replicate_more many lane

-- a worker of the next slice
pub places_push : {W : Type 0} (place_of : W → ℕ) (workers : List W) (worker : W) (many : ℕ)
    → map place_of workers ≡ first_slices many → place_of worker ≡ many
    → map place_of (workers ++ worker ∷ []) ≡ first_slices (many + 1)
places_push place_of workers worker many all same =
    map-append place_of workers (worker ∷ []) ∙ ap (λ (l : List ℕ). l ++ place_of worker ∷ []) all
    ∙ ap (λ (n : ℕ). first_slices many ++ n ∷ []) same ∙ ap first_slices (sym (add-one many))
