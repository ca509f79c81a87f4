-- The text of octets, line by line.
use Rattle.std.proofs.Common.{◌≡◌, ℕ, ◌<◌, ◌≤◌, true, List, [], ◌∷◌, ◌++◌, length, refl, sym, ap, ◌∙◌, append_assoc, arith}
use Rattle.std.specs.Prelude.{nat_eq, nat_le}
use Rattle.std.specs.List.{AllByRecursion, flat_map}
use Rattle.std.proofs.lemmas.Bool.{le-leb, eq-eqb, and_from}
use Rattle.std.proofs.lemmas.List.{append-nil}
use Rattle.std.proofs.lemmas.Grind.{flat_map-append}
use Rattle.std.proofs.lemmas.List.Elements.{All-from_recursion, All-push, recursion_from_All}
use Rattle.pc_outside.specs.Limits.{newline}
use Rattle.record_codec.specs.StateText.{piece_len, joined, are_pieces, state_line, trace_word, IsStateText}
use Rattle.record_codec.proofs.PieceLists.{joined-push}

abbrev IsFull : List ℕ → Type 0
IsFull piece = length piece ≡ piece_len

-- one more of a kind
each_push : (P : List ℕ → Type 0) (pieces : List (List ℕ)) (piece : List ℕ) → AllByRecursion P pieces → P piece
    → AllByRecursion P (pieces ++ piece ∷ [])
each_push P pieces piece each is =
    recursion_from_All P (pieces ++ piece ∷ []) (All-push P pieces piece (All-from_recursion P pieces each) is)

-- so many lines are written, each with all the octets of a line, and these octets are left
pub record Written (octets left text : List ℕ) : Type 0 where
  pub pieces : List (List ℕ)
  pub each : AllByRecursion (λ (piece : List ℕ). length piece ≡ piece_len) pieces
  pub parts : octets ≡ joined pieces ++ left
  pub some : 0 < length left
  pub written : text ≡ flat_map state_line pieces

pub written_none : (octets : List ℕ) → 0 < length octets → Written octets octets []
written_none octets some = record { pieces = []; each = tt; parts = refl; some = some; written = refl }

-- one line more
lines-push : (pieces : List (List ℕ)) (piece : List ℕ)
    → flat_map state_line (pieces ++ piece ∷ []) ≡ flat_map state_line pieces ++ state_line piece
lines-push pieces piece =
    flat_map-append state_line pieces (piece ∷ [])
    ∙ ap (λ (xs : List ℕ). flat_map state_line pieces ++ xs) (append-nil (state_line piece))

pub written_more : (octets left text piece behind new : List ℕ) → Written octets left text → left ≡ piece ++ behind
    → length piece ≡ piece_len → 0 < length behind → new ≡ text ++ state_line piece → Written octets behind new
written_more octets left text piece behind new w parted full some is = record {
  pieces = w.pieces ++ piece ∷ [];
  each = each_push IsFull w.pieces piece w.each full;
  parts = w.parts ∙ ap (λ (xs : List ℕ). joined w.pieces ++ xs) parted
      ∙ sym (append_assoc (joined w.pieces) piece behind)
      ∙ ap (λ (xs : List ℕ). xs ++ behind) (sym (joined-push w.pieces piece));
  some = some;
  written = is ∙ ap (λ (xs : List ℕ). xs ++ state_line piece) w.written ∙ sym (lines-push w.pieces piece);
}

-- the last one
full_whole : (pieces : List (List ℕ)) (last : List ℕ) → AllByRecursion IsFull pieces → length last ≤ piece_len
    → are_pieces (pieces ++ last ∷ []) ≡ true
full_whole [] last each fits = le-leb (length last) piece_len fits
full_whole (piece ∷ []) last each fits =
    and_from (nat_eq (length piece) piece_len) (nat_le (length last) piece_len)
    (eq-eqb (length piece) piece_len each.0) (le-leb (length last) piece_len fits)
full_whole (piece ∷ next ∷ pieces) last each fits =
    and_from (nat_eq (length piece) piece_len) (are_pieces (next ∷ pieces ++ last ∷ []))
    (eq-eqb (length piece) piece_len each.0) (full_whole (next ∷ pieces) last each.1 fits)

full_some : (pieces : List (List ℕ)) → AllByRecursion IsFull pieces
    → AllByRecursion (λ (piece : List ℕ). 0 < length piece) pieces
full_some [] each = tt
full_some (piece ∷ pieces) each = (omega (arith, each.0), full_some pieces each.1)

pub written_whole : (octets left text lines new : List ℕ) → Written octets left text → length left ≤ piece_len
    → lines ≡ text ++ state_line left → new ≡ lines ++ trace_word ++ newline ∷ [] → IsStateText octets new
written_whole octets left text lines new w fits is ends = record {
  pieces = w.pieces ++ left ∷ [];
  whole = full_whole w.pieces left w.each fits;
  some = each_push (λ (piece : List ℕ). 0 < length piece) w.pieces left (full_some w.pieces w.each) w.some;
  parts = w.parts ∙ sym (joined-push w.pieces left);
  written = ends
      ∙ ap (λ (xs : List ℕ). xs ++ trace_word ++ newline ∷ [])
      (is ∙ ap (λ (xs : List ℕ). xs ++ state_line left) w.written ∙ sym (lines-push w.pieces left));
}
