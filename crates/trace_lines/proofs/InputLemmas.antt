-- What a trace says, joined to a reader that gives one line after another: each lemma is of octets alone.
use Rattle.std.proofs.Common.{◌≡◌, ℕ, ◌+◌, ◌-◌, ◌<◌, ◌≤◌, Bool, true, false, List, [], ◌∷◌, ◌++◌, length, refl, sym, ap, ◌∙◌, arith, take, Ok, nat_lt, nat_le, append-nil, append_assoc, length-append}
use Rattle.std.proofs.lemmas.Bool.Decides.{nat_tests}
use Rattle.std.proofs.lemmas.List.{take_all}
use Rattle.std.proofs.lemmas.List.Splits.{length-slice_split}
use Rattle.std.specs.List.{slice_split}
use Rattle.pc_outside.specs.Limits.{newline, line_max}
use Rattle.pc_outside.specs.Line.{NoNewline}
use Rattle.pc_outside.proofs.Pieces.{cut_pieces, ends_line, first_piece, last_pieces, taken_behind, whole_full, whole_pieces}
use Rattle.trace_lines.specs.Line.{Line}
use Rattle.trace_lines.specs.Meaning.{line_meaning}
use Rattle.trace_lines.specs.Input.{Input, Stop, long, big, ended, stopped, after_lines, line_then, rest_meaning, pieces_meaning, input_within}

-- one whole line in front of further pieces
line_first : (full : Bool) (number least : ℕ) (line : List ℕ) (pieces : List (List ℕ)) → length line ≤ line_max
    → 0 < length pieces
    → pieces_meaning full number least (line ∷ pieces)
    ≡ line_then number (line_meaning least number line) (λ l. pieces_meaning full (number + 1) l.moment pieces)
line_first full number least line [] short some = absurd (omega arith)
line_first full number least line (next ∷ pieces) short some =
    let fits : nat_lt line_max (length line) ≡ false = grind (arith, nat_tests) in rw fits

-- a piece that is too long in front
long_first : (full : Bool) (number least : ℕ) (line : List ℕ) (pieces : List (List ℕ)) → line_max < length line
    → pieces_meaning full number least (line ∷ pieces) ≡ stopped (long number)
long_first full number least line [] too_long =
    let passes : nat_lt line_max (length line) ≡ true = grind (arith, nat_tests) in rw passes
long_first full number least line (next ∷ pieces) too_long =
    let passes : nat_lt line_max (length line) ≡ true = grind (arith, nat_tests) in rw passes

-- the octets begin with a line and its newline
pub whole_line : (room number least : ℕ) (line rest : List ℕ) → NoNewline line → length line ≤ line_max
    → input_within (length line + 1 + room) number least (line ++ newline ∷ rest)
    ≡ line_then number (line_meaning least number line) (λ l. input_within room (number + 1) l.moment rest)
unfolding input_within
whole_line room number least line rest no_newline short =
    let octets = line ++ newline ∷ rest in
    ap (λ b. pieces_meaning b number least (slice_split ends_line (take (length line + 1 + room) octets)))
    (whole_full room line rest)
    ∙ ap (pieces_meaning (nat_le room (length rest)) number least) (whole_pieces room line rest no_newline)
    ∙ line_first (nat_le room (length rest)) number least line (slice_split ends_line (take room rest)) short
    (omega (arith, length-slice_split ends_line (take room rest)))

-- nothing is left
pub at_end : (room number least : ℕ) → 0 < room → input_within room number least [] ≡ stopped ended
unfolding input_within
at_end room number least more =
    let not_full : nat_le room 0 ≡ false = grind (arith, nat_tests) in
    ap (λ b. pieces_meaning b number least (slice_split ends_line (take room []))) not_full
    ∙ ap (λ octets. pieces_meaning false number least (slice_split ends_line octets)) (take_all room [] (omega arith))

-- a last piece that means a line or a refusal
last_piece : (number least : ℕ) (line : List ℕ) → length line ≤ line_max → 0 < length line
    → rest_meaning false number least line ≡ line_then number (line_meaning least number line) (λ _. stopped ended)
last_piece number least [] short some = absurd (omega arith)
last_piece number least (octet ∷ line) short some =
    let fits : nat_lt line_max (length (octet ∷ line)) ≡ false = grind (arith, nat_tests) in rw fits

-- the octets are a last line without newline, and there is room for more
pub last_line : (room number least : ℕ) (line : List ℕ) → NoNewline line → length line ≤ line_max → 0 < length line
    → 0 < room
    → input_within (length line + room) number least line
    ≡ line_then number (line_meaning least number line) (λ l. input_within room (number + 1) l.moment [])
unfolding input_within
last_line room number least line no_newline short some more =
    let not_full : nat_le (length line + room) (length line) ≡ false = grind (arith, nat_tests) in
    ap (λ b. pieces_meaning b number least (slice_split ends_line (take (length line + room) line))) not_full
    ∙ ap (pieces_meaning false number least) (last_pieces room line no_newline)
    ∙ last_piece number least line short some
    ∙ ap (line_then number (line_meaning least number line)) (λ i l. sym (at_end room (number + 1) l.moment more) i)

-- a list of pieces that isn't empty has a first one
long_pieces : (full : Bool) (number least : ℕ) (prefix octets : List ℕ) (pieces : List (List ℕ)) → NoNewline prefix
    → line_max < length prefix
    → slice_split ends_line octets ≡ pieces → 0 < length pieces
    → pieces_meaning full number least (slice_split ends_line (prefix ++ octets)) ≡ stopped (long number)
long_pieces full number least prefix octets [] no_newline too_long is some = absurd (omega arith)
long_pieces full number least prefix octets (piece ∷ pieces) no_newline too_long is some =
    ap (pieces_meaning full number least) (first_piece prefix octets piece pieces no_newline is)
    ∙ long_first full number least (prefix ++ piece) pieces (omega (arith, length-append prefix piece))

-- more octets than a line may have came without newline
pub line_long : (room number least : ℕ) (prefix rest : List ℕ) → NoNewline prefix → line_max < length prefix
    → length prefix ≤ room
    → input_within room number least (prefix ++ rest) ≡ stopped (long number)
unfolding input_within
line_long room number least prefix rest no_newline too_long within =
    let beyond = room - length prefix in
    let full = nat_le room (length (prefix ++ rest)) in
    ap (λ octets. pieces_meaning full number least (slice_split ends_line octets)) (taken_behind room prefix rest within)
    ∙ long_pieces full number least prefix (take beyond rest)
    (slice_split ends_line (take beyond rest)) no_newline too_long refl
    (omega (arith, length-slice_split ends_line (take beyond rest)))

-- the octets that are looked at end with an unfinished line
pub input_big : (number least : ℕ) (prefix rest : List ℕ) → NoNewline prefix → length prefix ≤ line_max
    → input_within (length prefix) number least (prefix ++ rest) ≡ stopped big
unfolding input_within
input_big number least prefix rest no_newline short =
    let full : nat_le (length prefix) (length (prefix ++ rest)) ≡ true =
    let longer = length-append prefix rest in grind (arith, nat_tests)
    in
    let fits : nat_lt line_max (length prefix) ≡ false = grind (arith, nat_tests) in
    ap (λ b. pieces_meaning b number least (slice_split ends_line (take (length prefix) (prefix ++ rest)))) full
    ∙ ap (pieces_meaning true number least) (cut_pieces prefix rest no_newline)
    ∙ rw fits

-- one line more behind those that were read
pub one_line_more : (done : List Line) (number : ℕ) (line : Line) (behind : Line → Input)
    → after_lines done (line_then number (Ok line) behind) ≡ after_lines (done ++ line ∷ []) (behind line)
one_line_more done number line behind = ap (λ lines. record { lines = lines; stop = (behind line).stop })
    (sym (append_assoc done (line ∷ []) (behind line).lines))

-- the stop behind the lines that were read
pub stop_behind : (done : List Line) (stop : Stop) → (after_lines done (stopped stop)).lines ≡ done
stop_behind done stop = append-nil done
