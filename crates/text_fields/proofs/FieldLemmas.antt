-- Pieces of a text, and the text that joins them.
use Rattle.std.proofs.Common.{◌≡◌, ◌≢◌, ℕ, Bool, true, false, ◌==◌, List, [], ◌∷◌, get_or, refl, ap, ◌∙◌, arith, All, if◌then◌else◌}
use Rattle.std.proofs.lemmas.Bool.Decides.{nat_tests}
use Rattle.std.proofs.lemmas.List.Splits.{slice_split_at, slice_split_none, join_with_byte-slice_split}
use Rattle.std.proofs.lemmas.List.Elements.{All-cons, All-nil}
use Rattle.std.specs.List.{join_with_byte, onto_first}
use Rattle.text_fields.specs.Fields.{pieces, AllLack}

differs : (at octet : ℕ) → octet ≢ at → (octet == at) ≡ false
differs at octet other = grind (arith, nat_tests)

all_differ : (at : ℕ) (text : List ℕ) → All (λ octet. octet ≢ at) text → All (λ octet. (octet == at) ≡ false) text
all_differ at text lacks k d inside = differs at (get_or text k d) (lacks k d inside)

same : (at : ℕ) → (at == at) ≡ true
same at = grind (arith, nat_tests)

pub pieces-joined : (at : ℕ) (first : List ℕ) (texts : List (List ℕ)) → AllLack at (first ∷ texts)
    → pieces at (join_with_byte at (first ∷ texts)) ≡ first ∷ texts
pieces-joined at first [] lack = slice_split_none (λ octet. octet == at) first (all_differ at first lack.0)
pieces-joined at first (next ∷ texts) lack =
    slice_split_at (λ octet. octet == at) first at (join_with_byte at (next ∷ texts)) (all_differ at first lack.0)
    (same at)
    ∙ ap (λ rest. first ∷ rest) (pieces-joined at next texts lack.1)

pub joined-pieces : (at : ℕ) (text : List ℕ) → join_with_byte at (pieces at text) ≡ text
joined-pieces at text = join_with_byte-slice_split at text

-- the pieces lack what parts them
is_other : (at octet : ℕ) → (octet == at) ≡ false → octet ≢ at
is_other at octet test same = grind (arith, nat_tests)

onto_lacks : (at octet : ℕ) (texts : List (List ℕ)) → octet ≢ at → AllLack at texts
    → AllLack at (onto_first octet texts)
onto_lacks at octet [] other lack = (All-cons (λ o. o ≢ at) octet [] other (All-nil (λ o. o ≢ at)), tt)
onto_lacks at octet (text ∷ texts) other lack = (All-cons (λ o. o ≢ at) octet text other lack.0, lack.1)

at_cut : (at octet : ℕ) (texts : List (List ℕ)) (b : Bool) → (octet == at) ≡ b → AllLack at texts
    → AllLack at (if b then [] ∷ texts else onto_first octet texts)
at_cut at octet texts true test lack = (All-nil (λ o. o ≢ at), lack)
at_cut at octet texts false test lack = onto_lacks at octet texts (λ same. is_other at octet test same) lack

pub pieces_lack : (at : ℕ) (text : List ℕ) → AllLack at (pieces at text)
pieces_lack at [] = (All-nil (λ o. o ≢ at), tt)
pieces_lack at (octet ∷ text) = at_cut at octet (pieces at text) (octet == at) refl (pieces_lack at text)
