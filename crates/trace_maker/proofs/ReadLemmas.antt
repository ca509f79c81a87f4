-- The text of lines that stand in order says these lines.
use Rattle.std.proofs.Common.{◌≡◌, ℕ, zero, suc, ◌+◌, ◌-◌, ◌*◌, ◌^◌, ◌<◌, ◌≤◌, List, [], ◌∷◌, ◌++◌, Ok, length, length-append, append_assoc, refl, sym, ap, ◌∙◌, arith}
use Rattle.trace_lines.specs.Input.{Input, ended, input_of, input_within, line_then}
use Rattle.trace_lines.specs.Line.{Line}
use Rattle.trace_lines.specs.Meaning.{line_meaning}
use Rattle.trace_lines.specs.Text.{line_text}
use Rattle.trace_lines.proofs.InputLemmas.{at_end, whole_line}
use Rattle.trace_lines.proofs.MeaningLemmas.{meaning_taken, text_means}
use Rattle.trace_maker.specs.Generated.{attach_lines, drawn_lines, line_drawn, made, row_of, text_of}
use Rattle.trace_maker.specs.Numbering.{AreInOrder}
use Rattle.trace_maker.proofs.NumberingLemmas.{made_in_order}

read_from : (lines : List Line) (number least room : ℕ) → AreInOrder number least lines → 0 < room
    → input_within (length (text_of lines) + room) number least (text_of lines) ≡ record { lines = lines; stop = ended }
read_from [] number least room in_order more =
    let same : 0 + room ≡ room = omega arith in
    ap (λ n. input_within n number least []) same ∙ at_end room number least more
read_from (line ∷ lines) number least room in_order more =
    let text = line_text line in
    let rest = text_of lines in
    let octets : text_of (line ∷ lines) ≡ text ++ 10 ∷ rest = append_assoc text (10 ∷ []) rest in
    let long : length (text_of (line ∷ lines)) + room ≡ length text + 1 + (length rest + room) =
    omega (arith, ap length octets, length-append text (10 ∷ rest)) in
    let meant : line_meaning least number text ≡ Ok line =
    ap (λ n. line_meaning least n text) (sym in_order.0)
    ∙ meaning_taken least text line (text_means line in_order.2.is_line) in_order.1 in
    let behind : Line → Input = λ l. input_within (length rest + room) (number + 1) l.moment rest in
    ap (λ n. input_within n number least (text_of (line ∷ lines))) long
    ∙ ap (input_within (length text + 1 + (length rest + room)) number least) octets
    ∙ whole_line (length rest + room) number least text rest in_order.2.no_newline
    (omega (arith, in_order.2.short))
    ∙ ap (λ read. line_then number read behind) meant
    ∙ ap (λ (input : Input). record { lines = line ∷ input.lines; stop = input.stop })
    (read_from lines (number + 1) line.moment room in_order.3 more)

length-text_of : (lines : List Line) (number least : ℕ) → AreInOrder number least lines
    → length (text_of lines) ≤ 601 * length lines
length-text_of [] number least in_order = omega arith
length-text_of (line ∷ lines) number least in_order =
    omega (
      arith,
      in_order.2.short,
      length-text_of lines (number + 1) line.moment in_order.3,
      length-append (row_of line) (text_of lines),
      length-append (line_text line) (10 ∷ []),
    )

length-attach_lines : (slot more : ℕ) → length (attach_lines slot more) ≡ more
length-attach_lines slot zero = refl
length-attach_lines slot (suc more) = ap suc (length-attach_lines (slot + 1) more)

length-drawn_lines : (subscribers state at more : ℕ) → length (drawn_lines subscribers state at more) ≡ more
length-drawn_lines subscribers state at zero = refl
length-drawn_lines subscribers state at (suc more) =
    ap suc (length-drawn_lines subscribers (line_drawn subscribers state).state (at + 1) more)

pub length-made : (seed subscribers lines : ℕ) → length (made seed subscribers lines) ≡ subscribers + lines
length-made seed subscribers lines =
    omega (
      arith,
      length-append (attach_lines 0 subscribers) (drawn_lines subscribers seed 1 lines),
      length-attach_lines 0 subscribers,
      length-drawn_lines subscribers seed 1 lines,
    )

pub made_is_read : (seed subscribers lines : ℕ) → 1 ≤ subscribers → subscribers ≤ 65533 → lines ≤ 100000
    → input_of (text_of (made seed subscribers lines)) ≡ record { lines = made seed subscribers lines; stop = ended }
made_is_read seed subscribers lines some slots most =
    let all = made seed subscribers lines in
    let in_order = made_in_order seed subscribers lines some slots most in
    let few : length (text_of all) < 2 ^ 40 =
    omega (arith, length-text_of all 1 0 in_order, length-made seed subscribers lines, slots, most) in
    let room = 2 ^ 40 - length (text_of all) in
    let whole : 2 ^ 40 ≡ length (text_of all) + room = omega (arith, few) in
    ap (λ n. input_within n 1 0 (text_of all)) whole ∙ read_from all 1 0 room in_order (omega (arith, few))
