-- The ends of workers, one behind the other, and a turn of one.
use Rattle.std.proofs.Common.{◌≡◌, ℕ, List, [], ◌∷◌, ◌++◌, length, map, set, get_or, refl, sym, ap, ◌∙◌, append-nil, append_assoc, arith}
use Rattle.std.specs.Prelude.{reverse}
use Rattle.std.proofs.lemmas.List.{map-set, map_push, reverse-reverse, set-get_or}
use Rattle.worker_core.specs.declared.data_half.DataTraveller.{Ghosts}
use Rattle.worker_core.specs.declared.data_worker.DataEnd.{DataEnd}
use Rattle.front_core.proofs.Popping.{popped_some}

-- none of a list that has none
pub nothing_left : {X : Type 0} (xs : List X) → length xs ≡ 0 → xs ≡ []
nothing_left [] none = refl
nothing_left (x ∷ xs) none = absurd (omega arith)

-- the slice of a worker that stopped
abbrev pub end_place : {H N I : Type 0} {g : Ghosts H N I} → DataEnd H N I g → ℕ
end_place end = end.place

-- by the lanes of workers, or by their slices
module _ {W E L : Type 0} (lanes : W → L) (end_lanes : E → L) where
  -- some have ended, and others, the first one last, are left
  abbrev pub HaveEnded : List W → List W → List E → Type 0
  HaveEnded all left ends = map end_lanes ends ++ map lanes (reverse left) ≡ map lanes all

  pub none_ended : (all left : List W) (ends : List E) → left ≡ reverse all → ends ≡ [] → HaveEnded all left ends
  none_ended all left ends is none =
      ap (λ (es : List E). map end_lanes es ++ map lanes (reverse left)) none
      ∙ ap (λ (ws : List W). map lanes (reverse ws)) is ∙ ap (map lanes) (reverse-reverse all)

  pub one_ended : (all left now : List W) (ends new : List E) (w : W) (e : E) → left ≡ now ++ w ∷ []
      → end_lanes e ≡ lanes w → new ≡ ends ++ e ∷ [] → HaveEnded all left ends → HaveEnded all now new
  one_ended all left now ends new w e popped same pushed ended =
      ap (λ (es : List E). map end_lanes es ++ map lanes (reverse now)) pushed
      ∙ ap (λ (ls : List L). ls ++ map lanes (reverse now)) (map_push end_lanes ends e)
      ∙ append_assoc (map end_lanes ends) (end_lanes e ∷ []) (map lanes (reverse now))
      ∙ ap (λ (l : L). map end_lanes ends ++ l ∷ map lanes (reverse now)) same
      ∙ sym (ap (λ (ws : List W). map end_lanes ends ++ map lanes ws) (popped_some left now w popped)) ∙ ended

  pub all_ended : (all left : List W) (ends : List E) → left ≡ [] → HaveEnded all left ends
      → map end_lanes ends ≡ map lanes all
  all_ended all left ends none ended =
      sym (append-nil (map end_lanes ends)) ∙ sym (ap (λ (ws : List W). map end_lanes ends ++ map lanes (reverse ws)) none)
      ∙ ended

-- a turn of one worker keeps its lanes or its slice, and so those of all
pub turned : {W L : Type 0} (lanes : W → L) (all : List W) (at : ℕ) (was now : W) → was ≡ get_or all at was
    → lanes now ≡ lanes was → map lanes (set all at now) ≡ map lanes all
turned lanes all at was now read same =
    map-set lanes all at now ∙ ap (λ l. set (map lanes all) at l) same ∙ sym (map-set lanes all at was)
    ∙ ap (λ w. map lanes (set all at w)) read ∙ ap (map lanes) (set-get_or all at was)
