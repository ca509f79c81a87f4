-- The pieces of octets between newlines, for whoever reads them as lines.
use Rattle.std.proofs.Common.{◌≡◌, ◌≢◌, ℕ, suc, ◌+◌, ◌-◌, ◌≤◌, Bool, false, ◌==◌, List, [], ◌∷◌, ◌++◌, length, get_or, refl, ap, ◌∙◌, arith, take, All, nat_le, length-append}
use Rattle.std.proofs.lemmas.Bool.Decides.{nat_tests}
use Rattle.std.proofs.lemmas.List.{take_all}
use Rattle.std.proofs.lemmas.List.Elements.{All-head, All-tail}
use Rattle.std.proofs.lemmas.List.Splits.{slice_split_at, slice_split_none, slice_split-cons_no}
use Rattle.std.proofs.Math.Seq.{take-append-add, take-append_seam}
use Rattle.std.specs.List.{slice_split, onto_first}
use Rattle.pc_outside.specs.Limits.{newline}
use Rattle.pc_outside.specs.Line.{NoNewline}

abbrev pub ends_line : ℕ → Bool
ends_line octet = octet == newline

differs : (octet : ℕ) → octet ≢ newline → ends_line octet ≡ false
differs octet other = grind (arith, nat_tests)

pub all_differ : (octets : List ℕ) → NoNewline octets → All (λ octet. ends_line octet ≡ false) octets
all_differ octets no_newline k d inside = differs (get_or octets k d) (no_newline k d inside)

-- the octets up to a newline and behind it, as far as there is room
taken_line : (room : ℕ) (line rest : List ℕ) → take (length line + 1 + room) (line ++ newline ∷ rest) ≡ line
    ++ newline ∷ take room rest
taken_line room line rest =
    let regrouped : length line + 1 + room ≡ length line + suc room = omega arith in
    ap (λ n. take n (line ++ newline ∷ rest)) regrouped ∙ take-append-add line (newline ∷ rest) (suc room)

-- a whole line is the first piece, and fills as much of the room as it has octets with its newline
pub whole_pieces : (room : ℕ) (line rest : List ℕ) → NoNewline line
    → slice_split ends_line (take (length line + 1 + room) (line ++ newline ∷ rest))
    ≡ line ∷ slice_split ends_line (take room rest)
whole_pieces room line rest no_newline =
    ap (slice_split ends_line) (taken_line room line rest)
    ∙ slice_split_at ends_line line newline (take room rest) (all_differ line no_newline) refl

pub whole_full : (room : ℕ) (line rest : List ℕ)
    → nat_le (length line + 1 + room) (length (line ++ newline ∷ rest)) ≡ nat_le room (length rest)
whole_full room line rest =
    let octets = line ++ newline ∷ rest in
    let long_octets : length octets ≡ length line + suc (length rest) = length-append line (newline ∷ rest) in
    let full : nat_le (length line + 1 + room) (length octets) ≡ nat_le room (length rest) = grind (arith, nat_tests) in
    full

-- octets without newline are one piece, with room left or none
pub last_pieces : (room : ℕ) (line : List ℕ) → NoNewline line
    → slice_split ends_line (take (length line + room) line) ≡ line ∷ []
last_pieces room line no_newline =
    ap (slice_split ends_line) (take_all (length line + room) line (omega arith))
    ∙ slice_split_none ends_line line (all_differ line no_newline)

pub cut_pieces : (prefix rest : List ℕ) → NoNewline prefix
    → slice_split ends_line (take (length prefix) (prefix ++ rest)) ≡ prefix ∷ []
cut_pieces prefix rest no_newline =
    ap (slice_split ends_line) (take-append_seam prefix rest)
    ∙ slice_split_none ends_line prefix (all_differ prefix no_newline)

-- octets that fit, and what is taken behind them
pub taken_behind : (room : ℕ) (prefix rest : List ℕ) → length prefix ≤ room
    → take room (prefix ++ rest) ≡ prefix ++ take (room - length prefix) rest
taken_behind room prefix rest within =
    let beyond = room - length prefix in
    let regrouped : room ≡ length prefix + beyond = omega arith in
    ap (λ n. take n (prefix ++ rest)) regrouped ∙ take-append-add prefix rest beyond

-- the first piece begins with the octets before any newline
pub first_piece : (prefix octets piece : List ℕ) (pieces : List (List ℕ)) → NoNewline prefix
    → slice_split ends_line octets ≡ piece ∷ pieces
    → slice_split ends_line (prefix ++ octets) ≡ (prefix ++ piece) ∷ pieces
first_piece [] octets piece pieces no_newline first = first
first_piece (octet ∷ prefix) octets piece pieces no_newline first =
    slice_split-cons_no ends_line octet (prefix ++ octets)
    (differs octet (All-head (λ o. o ≢ newline) octet prefix no_newline))
    ∙ ap (onto_first octet) (first_piece prefix octets piece pieces
    (All-tail (λ o. o ≢ newline) octet prefix no_newline) first)
