-- The text of a state is read as that state.
use Rattle.std.proofs.Common.{◌≡◌, ◌≢◌, ℕ, ◌+◌, ◌-◌, ◌<◌, ◌≤◌, ◌^◌, true, cond, List, [], ◌∷◌, ◌++◌, length, map, All, Option, Some, None, refl, sym, ap, subst, ◌∙◌, arith, append_assoc, length-append}
use Rattle.std.specs.Prelude.{unwrap_or, nat_eq}
use Rattle.std.specs.List.{AllByRecursion, flat_map}
use Rattle.std.specs.Option.{is_some}
use Rattle.std.proofs.lemmas.Bool.{leb-true, eqb-true, and_parts}
use Rattle.std.proofs.lemmas.List.Elements.{All-append, All-from_recursion, recursion_from_All}
use Rattle.hex.specs.Hex.{encode_lower, lower_digits}
use Rattle.hex.proofs.HexLemmas.{length-encode_with}
use Rattle.text_fields.proofs.HexadecimalLemmas.{octets_read}
use Rattle.text_fields.proofs.PlainLemmas.{digits_between, field-encode_lower, kept}
use Rattle.pc_outside.specs.Limits.{newline, line_max}
use Rattle.pc_outside.specs.Line.{NoNewline}
use Rattle.pc_outside.specs.Texts.{Text, after_lines, texts_within}
use Rattle.pc_outside.proofs.InputTexts.{whole_line}
use Rattle.record_codec.specs.Saved.{FileState, IsFile}
use Rattle.record_codec.specs.Spelling.{state}
use Rattle.record_codec.specs.StateText.{piece_len, state_word, trace_word, joined, are_pieces, piece_line, state_line}
use Rattle.record_codec.specs.StateLines.{piece_in, pieces_in, others_in}
use Rattle.record_codec.specs.StateLaws.{LinesSayOneState, TextsSayTheirStates}

abbrev IsByte : ℕ → Type 0
IsByte octet = octet < 256

-- a piece of a line: some octets, and no more than a line has
record IsPiece (piece : List ℕ) : Type 0 where
  some : 0 < length piece
  fits : length piece ≤ piece_len
  bytes : All IsByte piece

-- ---- pieces

each_fits : (pieces : List (List ℕ)) → are_pieces pieces ≡ true
    → AllByRecursion (λ (piece : List ℕ). length piece ≤ piece_len) pieces
each_fits [] are = tt
each_fits (only ∷ []) are = (leb-true (length only) piece_len are, tt)
each_fits (first ∷ next ∷ pieces) are =
    let parts = and_parts (nat_eq (length first) piece_len) (are_pieces (next ∷ pieces)) are in
    let full = eqb-true (length first) piece_len parts.0 in
    (omega (arith, full), each_fits (next ∷ pieces) parts.1)

prefix_of : (one other : List ℕ) → AllByRecursion IsByte (one ++ other) → AllByRecursion IsByte one
prefix_of [] other all = tt
prefix_of (octet ∷ one) other all = (all.0, prefix_of one other all.1)

rest_of : (one other : List ℕ) → AllByRecursion IsByte (one ++ other) → AllByRecursion IsByte other
rest_of [] other all = all
rest_of (octet ∷ one) other all = rest_of one other all.1

each_piece : (pieces : List (List ℕ)) → AllByRecursion (λ (piece : List ℕ). length piece ≤ piece_len) pieces
    → AllByRecursion (λ (piece : List ℕ). 0 < length piece) pieces → AllByRecursion IsByte (joined pieces)
    → AllByRecursion IsPiece pieces
each_piece [] fits some bytes = tt
each_piece (piece ∷ pieces) fits some bytes = (
  record {
    some = some.0;
    fits = fits.0;
    bytes = All-from_recursion IsByte piece (prefix_of piece (joined pieces) bytes);
  },
  each_piece pieces fits.1 some.1 (rest_of piece (joined pieces) bytes),
)

-- ---- lines

word_plain : NoNewline state_word
word_plain = All-from_recursion (λ octet. octet ≢ newline) state_word
    (λ e. omega (arith, e), (λ e. omega (arith, e), (λ e. omega (arith, e), (λ e. omega (arith, e), (λ e. omega (arith, e), (λ e. omega (arith, e), tt))))))

trace_plain : NoNewline trace_word
trace_plain = All-from_recursion (λ octet. octet ≢ newline) trace_word
    (λ e. omega (arith, e), (λ e. omega (arith, e), (λ e. omega (arith, e), (λ e. omega (arith, e), (λ e. omega (arith, e), tt)))))

digits_plain : (piece : List ℕ) → All IsByte piece → NoNewline (encode_lower piece)
digits_plain piece bytes k d inside = let digit = digits_between piece bytes k d inside in λ e. omega (arith, digit.0, e)

line_plain : (piece : List ℕ) → IsPiece piece → NoNewline (piece_line piece)
line_plain piece is =
    All-append (λ octet. octet ≢ newline) state_word (encode_lower piece) word_plain (digits_plain piece is.bytes)

line_short : (piece : List ℕ) → IsPiece piece → length (piece_line piece) ≤ line_max
line_short piece is =
    omega (arith, length-append state_word (encode_lower piece), length-encode_with lower_digits piece, is.fits)

-- the lines of pieces are in front of what comes behind them
lines_read : (pieces : List (List ℕ)) (after : ℕ) (behind : List ℕ) → AllByRecursion IsPiece pieces
    → texts_within (length (flat_map state_line pieces) + after) (flat_map state_line pieces ++ behind)
    ≡ after_lines (map piece_line pieces) (texts_within after behind)
lines_read [] after behind each = let none : 0 + after ≡ after = omega arith in ap (λ n. texts_within n behind) none
lines_read (piece ∷ pieces) after behind each =
    let line : Text = piece_line piece in
    let rest : List ℕ = flat_map state_line pieces in
    let regrouped : ((line ++ newline ∷ []) ++ rest) ++ behind ≡ line ++ newline ∷ (rest ++ behind) =
    append_assoc (line ++ newline ∷ []) rest behind ∙ append_assoc line (newline ∷ []) (rest ++ behind) in
    let room : length ((line ++ newline ∷ []) ++ rest) + after ≡ length line + 1 + (length rest + after) =
    omega (arith, length-append (line ++ newline ∷ []) rest, length-append line (newline ∷ [])) in
    ap (λ n. texts_within n (((line ++ newline ∷ []) ++ rest) ++ behind)) room
    ∙ ap (texts_within (length line + 1 + (length rest + after))) regrouped
    ∙ whole_line (length rest + after) line (rest ++ behind) (line_plain piece each.0) (line_short piece each.0)
    ∙ ap (after_lines (line ∷ [])) (lines_read pieces after behind each.1)

-- and so is the line `TRACE`
text_read : (pieces : List (List ℕ)) (after : ℕ) (behind : List ℕ) → AllByRecursion IsPiece pieces
    → texts_within (length (flat_map state_line pieces ++ trace_word ++ newline ∷ []) + after)
    ((flat_map state_line pieces ++ trace_word ++ newline ∷ []) ++ behind)
    ≡ after_lines (map piece_line pieces ++ trace_word ∷ []) (texts_within after behind)
text_read pieces after behind each =
    let lines : List ℕ = flat_map state_line pieces in
    let regrouped : (lines ++ trace_word ++ newline ∷ []) ++ behind ≡ lines ++ (trace_word ++ newline ∷ behind) =
    append_assoc (lines ++ trace_word) (newline ∷ []) behind ∙ append_assoc lines trace_word (newline ∷ behind) in
    let room : length (lines ++ trace_word ++ newline ∷ []) + after ≡ length lines + (length trace_word + 1 + after) =
    omega (arith, length-append (lines ++ trace_word) (newline ∷ []), length-append lines trace_word) in
    ap (λ n. texts_within n ((lines ++ trace_word ++ newline ∷ []) ++ behind)) room
    ∙ ap (texts_within (length lines + (length trace_word + 1 + after))) regrouped
    ∙ lines_read pieces (length trace_word + 1 + after) (trace_word ++ newline ∷ behind) each
    ∙ ap (after_lines (map piece_line pieces)) (whole_line after trace_word behind trace_plain (omega arith))
    ∙ ap (λ ls. record { lines = ls; stop = (texts_within after behind).stop })
    (sym (append_assoc (map piece_line pieces) (trace_word ∷ []) (texts_within after behind).lines))

-- ---- what they say

piece_read : (piece : List ℕ) → IsPiece piece → piece_in (piece_line piece) ≡ Some piece
piece_read piece is =
    octets_read (encode_lower piece) piece is.some is.bytes
    (kept (encode_lower piece) (field-encode_lower piece is.some is.bytes).plain)

lines_say : (pieces : List (List ℕ)) → AllByRecursion IsPiece pieces
    → (pieces_in (map piece_line pieces ++ trace_word ∷ []) ≡ pieces)
    × (others_in (map piece_line pieces ++ trace_word ∷ []) ≡ trace_word ∷ [])
lines_say [] each = (refl, refl)
lines_say (piece ∷ pieces) each =
    by_line (piece_in (piece_line piece)) (piece_read piece each.0) (lines_say pieces each.1)
  where
    by_line : (o : Option (List ℕ)) → o ≡ Some piece
        → (pieces_in (map piece_line pieces ++ trace_word ∷ []) ≡ pieces)
        × (others_in (map piece_line pieces ++ trace_word ∷ []) ≡ trace_word ∷ [])
        → (cond (is_some o) (unwrap_or o [] ∷ pieces_in (map piece_line pieces ++ trace_word ∷ [])) []
        ≡ piece ∷ pieces)
        × (cond (is_some o) (others_in (map piece_line pieces ++ trace_word ∷ []))
        (piece_line piece ∷ map piece_line pieces ++ trace_word ∷ []) ≡ trace_word ∷ [])
    by_line o is rest = rw is (ap (λ ps. piece ∷ ps) rest.0, rest.1)

pub texts_say : TextsSayTheirStates
texts_say file text behind kept bytes written short =
    let each = each_piece written.pieces (each_fits written.pieces written.whole) written.some
    (recursion_from_All IsByte (joined written.pieces) (subst (All IsByte) written.parts bytes)) in
    let all : List Text = map piece_line written.pieces ++ trace_word ∷ [] in
    let says = lines_say written.pieces each in
    let room : length text + (2 ^ 40 - length text) ≡ 2 ^ 40 = omega (arith, short) in (
      all,
      record {
        gone = text;
        parts = refl;
        taken = room;
        says = λ more. ap (λ n. texts_within n (text ++ more)) (sym room)
            ∙ ap (λ (t : List ℕ). texts_within (length t + (2 ^ 40 - length text)) (t ++ more)) written.written
            ∙ text_read written.pieces (2 ^ 40 - length text) more each;
      },
      record {
        whole = ap are_pieces says.0 ∙ written.whole;
        kept = kept;
        octets = ap joined says.0 ∙ sym written.parts;
        trace = says.1;
      },
    )

-- ---- one state

heads : (one other : Text) (texts others : List Text) → one ∷ texts ≡ other ∷ others → one ≡ other
heads one other texts others same = cc

tails : (one other : Text) (texts others : List Text) → one ∷ texts ≡ other ∷ others → texts ≡ others
tails one other texts others same = cc

-- the lines up to the first one that is none of a state are the same in all that begin with them
pub same_before : (texts others behind more : List Text) (one other : Text) → others_in texts ≡ one ∷ []
    → others_in others ≡ other ∷ [] → texts ++ behind ≡ others ++ more → texts ≡ others
same_before [] others behind more one other first second same = cc
same_before (text ∷ texts) [] behind more one other first second same = cc
same_before (text ∷ texts) (next ∷ others) behind more one other first second same =
    let head : text ≡ next = heads text next (texts ++ behind) (others ++ more) same in
    ap (λ ts. text ∷ ts)
    (by_piece (piece_in text)
    (λ alone lone. same_before texts others behind more one other alone lone
    (tails text next (texts ++ behind) (others ++ more) same)) first (subst (λ t. others_in (t ∷ others) ≡ other ∷ []) (sym head) second))
    ∙ ap (λ t. t ∷ others) head
  where
    by_piece : (o : Option (List ℕ))
        → (others_in texts ≡ one ∷ [] → others_in others ≡ other ∷ [] → texts ≡ others)
        → cond (is_some o) (others_in texts) (text ∷ texts) ≡ one ∷ []
        → cond (is_some o) (others_in others) (text ∷ others) ≡ other ∷ [] → texts ≡ others
    by_piece None rest alone lone = tails text one texts [] alone ∙ sym (tails text other others [] lone)
    by_piece (Some octets) rest alone lone = rest alone lone

pub one_said : ((file other : FileState) → IsFile file → IsFile other → state file ≡ state other → file ≡ other)
    → LinesSayOneState
one_said one_file texts others behind more file other same first second =
    let prefix : texts ≡ others = same_before texts others behind more trace_word trace_word first.trace second.trace same in (
      prefix,
      one_file file other first.kept second.kept
          (sym first.octets ∙ ap (λ (ts : List Text). joined (pieces_in ts)) prefix ∙ second.octets),
    )
