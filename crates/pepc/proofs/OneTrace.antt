-- What is said behind a state doesn't depend on how it was found.
use Rattle.std.proofs.Common.{◌≡◌, ℕ, ◌+◌, ◌<◌, ◌^◌, ◌==◌, Bool, true, false, List, [], ◌∷◌, length, Result, Ok, Err, inl, inr, refl, sym, ap, ◌∙◌, subst, arith, length-append, take}
use Rattle.std.specs.Prelude.{if◌then◌else◌, nat_le, nat_lt}
use Rattle.std.specs.List.{join_with_byte, slice_split}
use Rattle.std.proofs.lemmas.Bool.Decides.{nat_tests}
use Rattle.std.proofs.lemmas.List.Splits.{join_with_byte-slice_split}
use Rattle.pc_outside.specs.Limits.{line_max, newline}
use Rattle.pc_outside.specs.InputRead.{HasRead}
use Rattle.pc_outside.specs.Texts as texts
use Rattle.pc_outside.specs.Texts.{Text, texts_within}
use Rattle.trace_lines.specs.Input as input
use Rattle.trace_lines.specs.Input.{Input, input_within}
use Rattle.trace_lines.specs.Line.{Line}
use Rattle.trace_lines.specs.Meaning.{line_meaning}
use Rattle.trace_lines.specs.declared.bad.LineBad.{LineBad}
use Rattle.trace_lines.proofs.InputLemmas.{at_end}
use Rattle.record_codec.specs.Saved.{FileState}
use Rattle.record_codec.specs.StateLaws.{LinesSayOneState}
use Rattle.trace_run.specs.Beginnings.{input_from}
use Rattle.solo_command.specs.Resumes.{HasState, begins_at}
use Rattle.solo_command.proofs.ResumeRuns.{behind_state}
use Rattle.solo_command.proofs.StateLemmas.{one_state}

-- ---- what ends has fewer octets than are looked at

never_ends : (number least : ℕ) (line : List ℕ) (pieces : List (List ℕ))
    → (input.pieces_meaning true number least (line ∷ pieces)).stop ≡ input.ended → ⊥
never_ends number least line [] over = by_length (nat_lt line_max (length line)) over
  where
    by_length : (b : Bool)
        → (if b then input.stopped (input.long number) else input.stopped input.big).stop ≡ input.ended → ⊥
    by_length true is = cc
    by_length false is = cc
never_ends number least line (next ∷ pieces) over =
    by_length (nat_lt line_max (length line)) (λ n m e. never_ends n m next pieces e) over
  where
    behind : Line → Input
    behind l = input.pieces_meaning true (number + 1) l.moment (next ∷ pieces)

    by_read : (read : Result Line LineBad)
        → ((n m : ℕ) → (input.pieces_meaning true n m (next ∷ pieces)).stop ≡ input.ended → ⊥)
        → (input.line_then number read behind).stop ≡ input.ended → ⊥
    by_read (Ok l) never is = never (number + 1) l.moment is
    by_read (Err why) never is = cc

    by_length : (b : Bool) → ((n m : ℕ) → (input.pieces_meaning true n m (next ∷ pieces)).stop ≡ input.ended → ⊥)
        → (if b then input.stopped (input.long number)
        else input.line_then number (line_meaning least number line) behind).stop ≡ input.ended → ⊥
    by_length true never is = cc
    by_length false never is = by_read (line_meaning least number line) never is

never_over : (line : Text) (pieces : List Text) → (texts.pieces_texts true (line ∷ pieces)).stop ≡ texts.ended → ⊥
never_over line [] over = by_length (nat_lt line_max (length line)) over
  where
    by_length : (b : Bool)
        → (if b then texts.stopped texts.long else texts.stopped texts.big).stop ≡ texts.ended → ⊥
    by_length true is = cc
    by_length false is = cc
never_over line (next ∷ pieces) over =
    by_length (nat_lt line_max (length line)) (λ e. never_over next pieces e) over
  where
    by_length : (b : Bool) → ((texts.pieces_texts true (next ∷ pieces)).stop ≡ texts.ended → ⊥)
        → (if b then texts.stopped texts.long
        else texts.after_lines (line ∷ []) (texts.pieces_texts true (next ∷ pieces))).stop ≡ texts.ended → ⊥
    by_length true never is = cc
    by_length false never is = never is

some_piece : (octets : List ℕ) → slice_split (λ octet. octet == newline) octets ≡ [] → ⊥
some_piece [] none = cc
some_piece (octet ∷ octets) none =
    let bad : octet ∷ octets ≡ [] = sym (join_with_byte-slice_split newline (octet ∷ octets))
    ∙ ap (join_with_byte newline) none in
    cc

fits_so : (room number least : ℕ) (octets : List ℕ) (pieces : List (List ℕ)) → (pieces ≡ [] → ⊥) → (full : Bool)
    → nat_le room (length octets) ≡ full → (input.pieces_meaning full number least pieces).stop ≡ input.ended
    → length octets < room
fits_so room number least octets pieces some false is over = grind (arith, nat_tests)
fits_so room number least octets [] some true is over = absurd (some refl)
fits_so room number least octets (line ∷ pieces) some true is over = absurd (never_ends number least line pieces over)

ended_fits : (room number least : ℕ) (octets : List ℕ) → (input_within room number least octets).stop ≡ input.ended
    → length octets < room
unfolding input_within
ended_fits room number least octets over =
    fits_so room number least octets (slice_split (λ octet. octet == newline) (take room octets))
    (some_piece (take room octets)) (nat_le room (length octets)) refl over

texts_so : (room : ℕ) (octets : List ℕ) (pieces : List (List ℕ)) → (pieces ≡ [] → ⊥) → (full : Bool)
    → nat_le room (length octets) ≡ full → (texts.pieces_texts full pieces).stop ≡ texts.ended → length octets < room
texts_so room octets pieces some false is over = grind (arith, nat_tests)
texts_so room octets [] some true is over = absurd (some refl)
texts_so room octets (line ∷ pieces) some true is over = absurd (never_over line pieces over)

texts_fit : (room : ℕ) (octets : List ℕ) → (texts_within room octets).stop ≡ texts.ended → length octets < room
unfolding texts_within
texts_fit room octets over =
    texts_so room octets (slice_split (λ octet. octet == newline) (take room octets))
    (some_piece (take room octets)) (nat_le room (length octets)) refl over

-- ---- the trace behind a state ends, however the state was found

few_octets : (octets : List ℕ) (found : HasState octets)
    → (input_from (begins_at found.file found.room) found.ahead).stop ≡ input.ended → length octets < 2 ^ 40
few_octets octets found over = elim found.read [
  | inl read ↦ omega (
    arith,
    ap length read.parts ∙ length-append read.gone found.ahead,
    read.taken,
    ended_fits found.room (found.file.lines + 1) found.file.moment found.ahead over,
  )
  | inr all ↦ texts_fit (2 ^ 40) octets all.2
]

pub ends_alike : LinesSayOneState → (octets : List ℕ) (one other : HasState octets)
    → (input_from (begins_at one.file one.room) one.ahead).stop ≡ input.ended
    → (input_from (begins_at other.file other.room) other.ahead).stop ≡ input.ended
ends_alike say octets one other over =
    let same = one_state say octets one other in
    elim other.read [
      | inl own ↦
          let alike : input_within one.room (one.file.lines + 1) one.file.moment one.ahead
          ≡ input_within other.room (one.file.lines + 1) one.file.moment other.ahead =
          behind_state octets other.ahead other.room one.texts (few_octets octets one over)
          (subst (λ (ts : List Text). HasRead octets other.ahead other.room ts) (sym same.0) own) one refl
          (one.file.lines + 1) one.file.moment in
          subst (λ (f : FileState). (input_within other.room (f.lines + 1) f.moment other.ahead).stop ≡ input.ended)
          same.1 (ap (λ (i : Input). i.stop) (sym alike) ∙ over)
      | inr all ↦
          ap (λ (os : List ℕ). (input_within other.room (other.file.lines + 1) other.file.moment os).stop) all.0
          ∙ ap (λ (i : Input). i.stop) (at_end other.room (other.file.lines + 1) other.file.moment all.3)
    ]
