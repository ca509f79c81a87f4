-- One piece more: whether all of them are whole, how many octets the last one has, and all octets.
use Rattle.std.proofs.Common.{◌≡◌, ◌≢◌, ℕ, ◌<◌, ◌≤◌, true, false, List, [], ◌∷◌, ◌++◌, length, refl, sym, ap, ◌∙◌, arith}
use Rattle.std.specs.Prelude.{nat_eq, nat_le}
use Rattle.std.proofs.lemmas.Bool.{le-leb, lt-leb, eq-eqb, ne_eqb, eqb-true, and_from, and_parts, and_left, and_right, false_from_ne_true, false≢true}
use Rattle.std.proofs.lemmas.Grind.{flat_map-append}
use Rattle.std.proofs.lemmas.List.{append-nil}
use Rattle.record_codec.specs.StateText.{piece_len, joined, are_pieces}
use Rattle.record_codec.specs.StateLines.{last_len}

pub push_whole : (pieces : List (List ℕ)) (piece : List ℕ) → are_pieces pieces ≡ true → last_len pieces ≡ piece_len
    → length piece ≤ piece_len → are_pieces (pieces ++ piece ∷ []) ≡ true
push_whole [] piece whole last fits = le-leb (length piece) piece_len fits
push_whole (only ∷ []) piece whole last fits =
    and_from (nat_eq (length only) piece_len) (nat_le (length piece) piece_len)
    (eq-eqb (length only) piece_len last) (le-leb (length piece) piece_len fits)
push_whole (first ∷ next ∷ pieces) piece whole last fits =
    let parts = and_parts (nat_eq (length first) piece_len) (are_pieces (next ∷ pieces)) whole in
    and_from (nat_eq (length first) piece_len) (are_pieces (next ∷ pieces ++ piece ∷ [])) parts.0
    (push_whole (next ∷ pieces) piece parts.1 last fits)

-- those behind a broken list, a short piece, or of too many octets
pub push_broken : (pieces : List (List ℕ)) (piece : List ℕ) → are_pieces pieces ≡ false
    → are_pieces (pieces ++ piece ∷ []) ≡ false
push_broken pieces piece broken = false_from_ne_true _ (λ whole. false≢true (sym broken ∙ before pieces whole))
  where
    before : (pieces : List (List ℕ)) → are_pieces (pieces ++ piece ∷ []) ≡ true → are_pieces pieces ≡ true
    before [] whole = refl
    before (only ∷ []) whole =
        let same = eqb-true (length only) piece_len (and_parts (nat_eq (length only) piece_len) (nat_le (length piece) piece_len) whole).0 in
        le-leb (length only) piece_len (omega (arith, same))
    before (first ∷ next ∷ pieces) whole =
        let parts = and_parts (nat_eq (length first) piece_len) (are_pieces (next ∷ pieces ++ piece ∷ [])) whole in
        and_from (nat_eq (length first) piece_len) (are_pieces (next ∷ pieces)) parts.0 (before (next ∷ pieces) parts.1)

pub push_late : (pieces : List (List ℕ)) (piece : List ℕ) → last_len pieces ≢ piece_len
    → are_pieces (pieces ++ piece ∷ []) ≡ false
push_late [] piece late = absurd (late refl)
push_late (only ∷ []) piece late =
    and_left (nat_eq (length only) piece_len) (nat_le (length piece) piece_len) (ne_eqb (length only) piece_len late)
push_late (first ∷ next ∷ pieces) piece late =
    and_right (nat_eq (length first) piece_len) (are_pieces (next ∷ pieces ++ piece ∷ []))
    (push_late (next ∷ pieces) piece late)

pub push_long : (pieces : List (List ℕ)) (piece : List ℕ) → piece_len < length piece
    → are_pieces (pieces ++ piece ∷ []) ≡ false
push_long [] piece long = lt-leb (length piece) piece_len long
push_long (only ∷ []) piece long =
    and_right (nat_eq (length only) piece_len) (nat_le (length piece) piece_len) (push_long [] piece long)
push_long (first ∷ next ∷ pieces) piece long =
    and_right (nat_eq (length first) piece_len) (are_pieces (next ∷ pieces ++ piece ∷ []))
    (push_long (next ∷ pieces) piece long)

pub last_len-push : (pieces : List (List ℕ)) (piece : List ℕ) → last_len (pieces ++ piece ∷ []) ≡ length piece
last_len-push [] piece = refl
last_len-push (only ∷ []) piece = refl
last_len-push (first ∷ next ∷ pieces) piece = last_len-push (next ∷ pieces) piece

pub joined-push : (pieces : List (List ℕ)) (piece : List ℕ) → joined (pieces ++ piece ∷ []) ≡ joined pieces ++ piece
joined-push pieces piece =
    flat_map-append (λ (p : List ℕ). p) pieces (piece ∷ []) ∙ ap (λ (xs : List ℕ). joined pieces ++ xs) (append-nil piece)
