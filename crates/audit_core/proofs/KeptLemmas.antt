-- What lines mean is kept, with the octets of packets behind one another.
use Rattle.std.proofs.Common.{◌≡◌, ℕ, List, [], ◌∷◌, ◌++◌, map, sym, ap, subst, ◌∙◌, append-nil}
use Rattle.std.specs.List.{All}
use Rattle.std.proofs.lemmas.List.{map_push}
use Rattle.std.proofs.lemmas.List.Elements.{All-push, All-weaker}
use Rattle.demux.specs.Meant.{meaning_of}
use Rattle.demux.specs.declared.meant.Meant.{Meant}
use Rattle.slot_execution.specs.Kept.{IsPlaced, meaning_in}
use Rattle.slot_execution.specs.declared.kept.KeptMeaning.{KeptMeaning}
use Rattle.slot_execution.proofs.KeptLemmas.{meanings_stay, placed_still}
use Rattle.audit_core.specs.Kept.{ArePlaced, Keeps, meanings_in}

-- where no octets come with it
pub keeps_alone : (octets : List ℕ) (now : Meant) (it : KeptMeaning) → meaning_in octets it ≡ meaning_of now
    → IsPlaced octets it → Keeps octets octets now it
keeps_alone octets now it means placed = record {
  more = [];
  grown = sym (append-nil octets);
  means = means;
  placed = placed;
}

-- one line more
pub kept_more : (old new : List ℕ) (lines : List KeptMeaning) (now : Meant) (it : KeptMeaning) → ArePlaced old lines
    → Keeps old new now it → meanings_in new (lines ++ it ∷ []) ≡ meanings_in old lines ++ meaning_of now ∷ []
kept_more old new lines now it placed keeps =
    map_push (meaning_in new) lines it
    ∙ ap (λ ms. ms ++ meaning_in new it ∷ [])
    (ap (λ os. map (meaning_in os) lines) keeps.grown ∙ meanings_stay old keeps.more lines placed)
    ∙ ap (λ m. meanings_in old lines ++ m ∷ []) keeps.means

pub placed_more : (old new : List ℕ) (lines : List KeptMeaning) (now : Meant) (it : KeptMeaning) → ArePlaced old lines
    → Keeps old new now it → ArePlaced new (lines ++ it ∷ [])
placed_more old new lines now it placed keeps =
    let still : All (IsPlaced new) lines =
    subst (λ xs. All (IsPlaced xs) lines) (sym keeps.grown)
    (All-weaker (IsPlaced old) (IsPlaced (old ++ keeps.more)) (λ k is. placed_still old keeps.more k is) lines placed) in
    All-push (IsPlaced new) lines it still keeps.placed
