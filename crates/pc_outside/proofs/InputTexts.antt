-- The lines of an input, joined to a reader that gives one line after another: each lemma is of octets alone.
use Rattle.std.proofs.Common.{◌≡◌, ℕ, ◌+◌, ◌-◌, ◌<◌, ◌≤◌, Bool, true, false, List, [], ◌∷◌, ◌++◌, length, refl, sym, ap, ◌∙◌, arith, take, nat_lt, nat_le, length-append}
use Rattle.std.proofs.lemmas.Bool.Decides.{nat_tests}
use Rattle.std.proofs.lemmas.List.{take_all}
use Rattle.std.proofs.lemmas.List.Splits.{length-slice_split}
use Rattle.std.specs.List.{slice_split}
use Rattle.pc_outside.specs.Limits.{newline, line_max}
use Rattle.pc_outside.specs.Line.{NoNewline}
use Rattle.pc_outside.specs.Texts.{Texts, Text, long, big, ended, stopped, after_lines, rest_texts, pieces_texts, texts_within}
use Rattle.pc_outside.proofs.Pieces.{cut_pieces, ends_line, first_piece, last_pieces, taken_behind, whole_full, whole_pieces}

-- one whole line in front of further pieces
line_first : (full : Bool) (line : Text) (pieces : List Text) → length line ≤ line_max → 0 < length pieces
    → pieces_texts full (line ∷ pieces) ≡ after_lines (line ∷ []) (pieces_texts full pieces)
line_first full line [] short some = absurd (omega arith)
line_first full line (next ∷ pieces) short some =
    let fits : nat_lt line_max (length line) ≡ false = grind (arith, nat_tests) in rw fits

-- a piece that is too long in front
long_first : (full : Bool) (line : Text) (pieces : List Text) → line_max < length line
    → pieces_texts full (line ∷ pieces) ≡ stopped long
long_first full line [] too_long =
    let passes : nat_lt line_max (length line) ≡ true = grind (arith, nat_tests) in rw passes
long_first full line (next ∷ pieces) too_long =
    let passes : nat_lt line_max (length line) ≡ true = grind (arith, nat_tests) in rw passes

-- the octets begin with a line and its newline
pub whole_line : (room : ℕ) (line rest : List ℕ) → NoNewline line → length line ≤ line_max
    → texts_within (length line + 1 + room) (line ++ newline ∷ rest) ≡ after_lines (line ∷ []) (texts_within room rest)
unfolding texts_within
whole_line room line rest no_newline short =
    let octets = line ++ newline ∷ rest in
    ap (λ b. pieces_texts b (slice_split ends_line (take (length line + 1 + room) octets))) (whole_full room line rest)
    ∙ ap (pieces_texts (nat_le room (length rest))) (whole_pieces room line rest no_newline)
    ∙ line_first (nat_le room (length rest)) line (slice_split ends_line (take room rest)) short
    (omega (arith, length-slice_split ends_line (take room rest)))

-- nothing is left
pub at_end : (room : ℕ) → 0 < room → texts_within room [] ≡ stopped ended
unfolding texts_within
at_end room more =
    let not_full : nat_le room 0 ≡ false = grind (arith, nat_tests) in
    ap (λ b. pieces_texts b (slice_split ends_line (take room []))) not_full
    ∙ ap (λ octets. pieces_texts false (slice_split ends_line octets)) (take_all room [] (omega arith))

-- a last piece that isn't empty
last_piece : (line : List ℕ) → length line ≤ line_max → 0 < length line
    → rest_texts false line ≡ after_lines (line ∷ []) (stopped ended)
last_piece [] short some = absurd (omega arith)
last_piece (octet ∷ line) short some =
    let fits : nat_lt line_max (length (octet ∷ line)) ≡ false = grind (arith, nat_tests) in rw fits

-- the octets are a last line without newline, and there is room for more
pub last_line : (room : ℕ) (line : List ℕ) → NoNewline line → length line ≤ line_max → 0 < length line → 0 < room
    → texts_within (length line + room) line ≡ after_lines (line ∷ []) (texts_within room [])
unfolding texts_within
last_line room line no_newline short some more =
    let not_full : nat_le (length line + room) (length line) ≡ false = grind (arith, nat_tests) in
    ap (λ b. pieces_texts b (slice_split ends_line (take (length line + room) line))) not_full
    ∙ ap (pieces_texts false) (last_pieces room line no_newline)
    ∙ last_piece line short some
    ∙ ap (after_lines (line ∷ [])) (sym (at_end room more))

-- more octets than a line may have, in the first of some pieces
long_pieces : (full : Bool) (prefix octets : List ℕ) (pieces : List (List ℕ)) → NoNewline prefix → line_max < length prefix
    → slice_split ends_line octets ≡ pieces → 0 < length pieces
    → pieces_texts full (slice_split ends_line (prefix ++ octets)) ≡ stopped long
long_pieces full prefix octets [] no_newline too_long is some = absurd (omega arith)
long_pieces full prefix octets (piece ∷ pieces) no_newline too_long is some =
    ap (pieces_texts full) (first_piece prefix octets piece pieces no_newline is)
    ∙ long_first full (prefix ++ piece) pieces (omega (arith, length-append prefix piece))

-- more octets than a line may have came without newline
pub line_long : (room : ℕ) (prefix rest : List ℕ) → NoNewline prefix → line_max < length prefix → length prefix ≤ room
    → texts_within room (prefix ++ rest) ≡ stopped long
unfolding texts_within
line_long room prefix rest no_newline too_long within =
    let beyond = room - length prefix in
    let full = nat_le room (length (prefix ++ rest)) in
    ap (λ octets. pieces_texts full (slice_split ends_line octets)) (taken_behind room prefix rest within)
    ∙ long_pieces full prefix (take beyond rest)
    (slice_split ends_line (take beyond rest)) no_newline too_long refl
    (omega (arith, length-slice_split ends_line (take beyond rest)))

-- the octets that are looked at end with an unfinished line
pub input_big : (prefix rest : List ℕ) → NoNewline prefix → length prefix ≤ line_max
    → texts_within (length prefix) (prefix ++ rest) ≡ stopped big
unfolding texts_within
input_big prefix rest no_newline short =
    let full : nat_le (length prefix) (length (prefix ++ rest)) ≡ true =
    let longer = length-append prefix rest in grind (arith, nat_tests)
    in
    let fits : nat_lt line_max (length prefix) ≡ false = grind (arith, nat_tests) in
    ap (λ b. pieces_texts b (slice_split ends_line (take (length prefix) (prefix ++ rest)))) full
    ∙ ap (pieces_texts true) (cut_pieces prefix rest no_newline)
    ∙ rw fits

-- an unfinished line is a last one, where it isn't empty
pub unfinished : (room : ℕ) (prefix : List ℕ) → NoNewline prefix → length prefix ≤ line_max → length prefix < room
    → (texts_within room prefix).stop ≡ ended
unfinished room [] no_newline short more = ap (λ (t : Texts). t.stop) (at_end room more)
unfinished room (octet ∷ prefix) no_newline short more =
    let beyond = room - length (octet ∷ prefix) in
    let regrouped : room ≡ length (octet ∷ prefix) + beyond = omega arith in
    ap (λ n. (texts_within n (octet ∷ prefix)).stop) regrouped
    ∙ ap (λ (t : Texts). t.stop) (last_line beyond (octet ∷ prefix) no_newline short (omega arith) (omega arith))
    ∙ ap (λ (t : Texts). t.stop) (at_end beyond (omega arith))
