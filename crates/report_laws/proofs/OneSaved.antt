-- Lines leave one state file, and its octets have one text.
use Rattle.std.proofs.Common.{◌≡◌, ℕ, ◌+◌, ◌*◌, ◌<◌, ◌≤◌, ◌^◌, ◌==◌, true, List, [], ◌∷◌, ◌++◌, length, take, drop, refl, sym, ap, ◌∙◌, subst, arith, append-nil, length-append}
use Rattle.std.specs.Prelude.{flat_map}
use Rattle.std.specs.List.{AllByRecursion}
use Rattle.std.proofs.lemmas.Bool.{and_parts, eqb-true, leb-true}
use Rattle.std.proofs.lemmas.List.{drop_at, take_at}
use Rattle.pc_outside.specs.Limits.{newline}
use Rattle.trace_lines.specs.Line.{Line}
use Rattle.record_codec.specs.Saved.{FileState, all_saved}
use Rattle.record_codec.specs.Spelling.{state}
use Rattle.record_codec.specs.StateText.{IsStateText, are_pieces, joined, piece_len, state_line, trace_word}
use Rattle.solo_command.specs.Gateway.{no_subscribers}
use Rattle.solo_command.specs.Left.{IsLeft}
use Rattle.solo_command.proofs.Steps.{step}
use Rattle.solo_command.proofs.Gateways.{LinesAlike, lines_one}
use Rattle.solo_command.proofs.LawLemmas.{none_one}
use Rattle.solo_command.proofs.SavedAlike.{all_saved_same}
use Rattle.report_laws.specs.OneText.{OneSavedText}

-- ---- one file

one_file : (slices : ℕ) (lines : List Line) (file other : FileState) → length lines < 2 ^ 50
    → IsLeft slices lines file → IsLeft slices lines other → file ≡ other
one_file slices lines file other few first second =
    let alike : LinesAlike first.told second.told first.gateway second.gateway (0 + length lines * step) =
    lines_one slices lines no_subscribers no_subscribers first.gateway second.gateway first.told second.told 0 none_one
    (omega (arith, few)) first.answers second.answers in
    let same : file.subscribers ≡ other.subscribers =
    first.saved
    ∙ all_saved_same first.gateway.book first.gateway.subscribers second.gateway.subscribers (0 + length lines * step)
    alike.are.each
    ∙ ap (λ (book : List (List ℕ)). all_saved book second.gateway.subscribers) alike.are.book ∙ sym second.saved in
    λ i. record {
      lines = (first.count ∙ sym second.count) i;
      moment = (first.moment ∙ sym second.moment) i;
      subscribers = same i;
    }

-- ---- octets are in one way in pieces that are whole but the last

abbrev AreSome : List (List ℕ) → Type 0
AreSome pieces = AllByRecursion (λ (piece : List ℕ). 0 < length piece) pieces

joined-len : (piece : List ℕ) (pieces : List (List ℕ))
    → length (joined (piece ∷ pieces)) ≡ length piece + length (joined pieces)
joined-len piece pieces = length-append piece (joined pieces)

-- a last piece isn't as long as a whole one and more behind it
too_long : (piece first next : List ℕ) (pieces : List (List ℕ)) → are_pieces (piece ∷ []) ≡ true
    → are_pieces (first ∷ next ∷ pieces) ≡ true → AreSome (first ∷ next ∷ pieces)
    → joined (piece ∷ []) ≡ joined (first ∷ next ∷ pieces) → ⊥
too_long piece first next pieces last whole some same =
    let most : length piece ≤ piece_len = leb-true (length piece) piece_len last in
    let full : length first ≡ piece_len =
    eqb-true (length first) piece_len (and_parts (length first == piece_len) (are_pieces (next ∷ pieces)) whole).0 in
    omega (
      arith,
      most,
      full,
      some.1.0,
      ap length same,
      joined-len piece [],
      joined-len first (next ∷ pieces),
      joined-len next pieces,
    )

one_cut : (pieces others : List (List ℕ)) → are_pieces pieces ≡ true → are_pieces others ≡ true → AreSome pieces
    → AreSome others → joined pieces ≡ joined others → pieces ≡ others
one_cut [] [] whole also some more same = refl
one_cut [] (first ∷ others) whole also some more same =
    absurd (omega (arith, more.0, ap length same, joined-len first others))
one_cut (first ∷ pieces) [] whole also some more same =
    absurd (omega (arith, some.0, ap length same, joined-len first pieces))
one_cut (piece ∷ []) (other ∷ []) whole also some more same =
    ap (λ (p : List ℕ). p ∷ []) (sym (append-nil piece) ∙ same ∙ append-nil other)
one_cut (piece ∷ []) (other ∷ next ∷ others) whole also some more same =
    absurd (too_long piece other next others whole also more same)
one_cut (piece ∷ next ∷ pieces) (other ∷ []) whole also some more same =
    absurd (too_long other piece next pieces also whole some (sym same))
one_cut (piece ∷ next ∷ pieces) (other ∷ last ∷ others) whole also some more same =
    let parts = and_parts (length piece == piece_len) (are_pieces (next ∷ pieces)) whole in
    let parts_too = and_parts (length other == piece_len) (are_pieces (last ∷ others)) also in
    let long : length piece ≡ piece_len = eqb-true (length piece) piece_len parts.0 in
    let long_too : length other ≡ piece_len = eqb-true (length other) piece_len parts_too.0 in
    let tail = joined (next ∷ pieces) in
    let tail_too = joined (last ∷ others) in
    let heads : piece ≡ other =
    sym (take_at piece tail piece_len long) ∙ ap (take piece_len) same ∙ take_at other tail_too piece_len long_too in
    let tails : tail ≡ tail_too =
    sym (drop_at piece tail piece_len long) ∙ ap (drop piece_len) same ∙ drop_at other tail_too piece_len long_too in
    ap (λ (p : List ℕ). p ∷ next ∷ pieces) heads
    ∙ ap (λ (ps : List (List ℕ)). other ∷ ps)
    (one_cut (next ∷ pieces) (last ∷ others) parts.1 parts_too.1 some.1 more.1 tails)

one_state_text : (octets text other : List ℕ) → IsStateText octets text → IsStateText octets other → text ≡ other
one_state_text octets text other first second =
    first.written
    ∙ ap (λ (pieces : List (List ℕ)). flat_map state_line pieces ++ trace_word ++ newline ∷ [])
    (one_cut first.pieces second.pieces first.whole second.whole first.some second.some
    (sym first.parts ∙ second.parts))
    ∙ sym second.written

pub one_saved : OneSavedText
one_saved lines one other few first second =
    one_state_text (state second.file) one other
    (subst (λ (file : FileState). IsStateText (state file) one)
    (one_file 64 lines first.file second.file few first.left second.left) first.written) second.written
