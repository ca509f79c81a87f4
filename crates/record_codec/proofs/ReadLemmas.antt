-- How far a state was read, line after line.
use Rattle.std.proofs.Common.{◌≡◌, ℕ, ◌≤◌, Bool, true, false, List, [], ◌∷◌, ◌++◌, Option, None, Some, Result, Ok, Err, IfErr, refl, sym, ap, ◌∙◌, subst, inl, inr, arith, append-nil}
use Rattle.pc_outside.specs.Held.{Held, IsUnfinished}
use Rattle.pc_outside.specs.Line.{HoldsLine}
use Rattle.pc_outside.specs.LineReads.{Reads}
use Rattle.pc_outside.specs.WhereTold.{WhereTold}
use Rattle.pc_outside.proofs.ToldLemmas.{told_map}
use Rattle.pc_outside.specs.declared.reading.LineRead.TheVariants as line_read
use Rattle.std.specs.Io.KnownBytes.{prepend_known}
use Rattle.pc_outside.specs.InputRead.{HasRead, Reached}
use Rattle.pc_outside.specs.declared.input_stop.InputStop.TheVariants as stopped_at
use Rattle.pc_outside.specs.Texts.{Text, Texts, after_lines, stopped, texts_of, texts_within, ended}
use Rattle.pc_outside.proofs.InputLemmas.{read_more, ends_last, ends_ended, ends_long, ends_big}
use Rattle.record_codec.specs.Saved.{FileState}
use Rattle.record_codec.specs.declared.state_reading.StateRead.TheVariants as read
use Rattle.record_codec.specs.StateLines.{SaysState, SaysNone, others_in}
use Rattle.record_codec.specs.StateReading.{AreRead, Found, HasFound, IsBadState, IsBig, IsLong, IsUndecided}

-- what holds in any case, at an error
pub in_err : {T E : Type 0} (P : Type 0) (r : Result T E) → P → IfErr r (λ e. P)
in_err P (Ok x) is = tt
in_err P (Err e) is = is

-- a line takes room
pub less_room : (room after : ℕ) (octets rest line : List ℕ) (last : Bool) → HoldsLine room after octets rest line last
    → after ≤ room
less_room room after octets rest line true holds = omega (arith, holds.form.given)
less_room room after octets rest line false holds = omega (arith, holds.form.given)

-- one line more was read, and maybe it was the last one
line_more : (start a b : Option (List ℕ)) (room after : ℕ) (line : Text) (last : Bool) (done : List Text)
    → WhereTold start a (λ octets rest. HasRead octets rest room done) → Reads line_read.Line room after a b line last
    → WhereTold start b (λ octets rest. AreRead octets rest after (done ++ line ∷ []))
line_more None a b room after line last done before reads = tt
line_more (Some octets) None b room after line last done before reads = absurd before
line_more (Some octets) (Some ahead) None room after line last done before reads = absurd reads
line_more (Some octets) (Some ahead) (Some rest) room after line false done before reads =
    inl (read_more (Some octets) (Some ahead) (Some rest) room after line false done refl before reads)
line_more (Some octets) (Some ahead) (Some rest) room after line true done before reads =
    let e = ends_last (Some octets) (Some ahead) (Some rest) room after line true [] done refl before reads in
    inr (e.0.1, e.1, e.0.0, reads.form.more)

pub state_read : (start a b : Option (List ℕ)) (room after : ℕ) (line : Text) (last : Bool) (done : List Text)
    (file : FileState) → WhereTold start a (λ octets rest. HasRead octets rest room done)
    → Reads line_read.Line room after a b line last → SaysState (done ++ line ∷ []) file
    → Found (read.Found file) start b after
state_read start a b room after line last done file before reads says =
    told_map start b (λ octets rest. AreRead octets rest after (done ++ line ∷ []))
    (λ octets rest. HasFound file octets rest after)
    (λ octets rest are. (done ++ line ∷ [], are, says))
    (line_more start a b room after line last done before reads)

-- lines that say no state, whatever comes behind them
pub begins_bad : (start a left : Option (List ℕ)) (room after : ℕ) (line : Text) (last : Bool) (prefix : List ℕ)
    (done : List Text) → WhereTold start a (λ octets rest. HasRead octets rest room done)
    → Reads line_read.Line room after a (prepend_known prefix left) line last → SaysNone (done ++ line ∷ [])
    → WhereTold start left (λ octets rest. IsBadState octets)
begins_bad None a left room after line last prefix done before reads none = tt
begins_bad (Some octets) None left room after line last prefix done before reads none = absurd before
begins_bad (Some octets) (Some ahead) None room after line last prefix done before reads none = absurd reads
begins_bad (Some octets) (Some ahead) (Some rest) room after line false prefix done before reads none =
    let h = read_more (Some octets) (Some ahead) (Some (prefix ++ rest)) room after line false done refl before reads in
    let begins : texts_of octets ≡ after_lines (done ++ line ∷ []) (texts_within after (prefix ++ rest))
    = ap texts_of h.parts ∙ h.says (prefix ++ rest) in
    inl (done ++ line ∷ [], texts_within after (prefix ++ rest), begins, none)
begins_bad (Some octets) (Some ahead) (Some rest) room after line true prefix done before reads none =
    let e = ends_last (Some octets) (Some ahead) (Some rest) room after line true prefix done refl before reads in
    let all = done ++ line ∷ [] in
    let texts = texts_of octets in
    let begins : texts ≡ after_lines all (stopped ended)
    = ap (λ (lines : List Text). let t : Texts = record { lines = lines; stop = texts.stop } in t)
    (e.1 ∙ sym (append-nil all))
    ∙ ap (λ stop. let t : Texts = record { lines = all ++ []; stop = stop } in t) e.0.0 in
    inl (all, stopped ended, begins, none)

-- lines of a state, and no other one: they end, or go on with what is no line
pub ends_first : (start a left : Option (List ℕ)) (room after : ℕ) (line : Text) (last : Bool) (prefix : List ℕ)
    (done : List Text) → last ≡ true → WhereTold start a (λ octets rest. HasRead octets rest room done)
    → Reads line_read.Line room after a (prepend_known prefix left) line last → others_in (done ++ line ∷ []) ≡ []
    → WhereTold start left (λ octets rest. IsBadState octets)
ends_first start a left room after line last prefix done is before reads each =
    told_map start left (λ octets rest. Reached stopped_at.Ended octets rest (done ++ line ∷ []))
    (λ octets rest. IsBadState octets) (λ octets rest e. inr (e.0.0, ap others_in e.1 ∙ each))
    (ends_last start a left room after line last prefix done is before reads)

pub ends_none : (start a left : Option (List ℕ)) (room after : ℕ) (line : Text) (last : Bool) (prefix : List ℕ)
    (done : List Text) → WhereTold start a (λ octets rest. HasRead octets rest room done)
    → Reads line_read.End room after a (prepend_known prefix left) line last → others_in done ≡ []
    → WhereTold start left (λ octets rest. IsBadState octets)
ends_none start a left room after line last prefix done before reads each =
    told_map start left (λ octets rest. Reached stopped_at.Ended octets rest done) (λ octets rest. IsBadState octets)
    (λ octets rest e. inr (e.0.0, ap others_in e.1 ∙ each))
    (ends_ended start a left room after line last prefix done before reads)

-- or the source fails
pub fails_first : (start a left : Option (List ℕ)) (room : ℕ) (now : Held) (line : Text) (last : Bool)
    (done : List Text) → IsUnfinished now → WhereTold start a (λ octets rest. HasRead octets rest room done)
    → Reads line_read.ReadFault room now.room a (prepend_known now.buffered left) line last → others_in done ≡ []
    → WhereTold start left IsUndecided
fails_first None a left room now line last done more before reads each = tt
fails_first (Some octets) None left room now line last done more before reads each = absurd before
fails_first (Some octets) (Some ahead) None room now line last done more before reads each = absurd reads
fails_first (Some octets) (Some ahead) (Some rest) room now line last done more before reads each = record {
  texts = done;
  unfinished = now.buffered;
  room = room;
  read = subst (λ next. HasRead octets next room done) (sym reads.octets_stay) before;
  no_newline = more.no_newline;
  short = more.short;
  more = omega (arith, more.more, reads.room_stays);
  each = each;
}

pub stops_long : (start a left : Option (List ℕ)) (room after : ℕ) (line : Text) (last : Bool) (prefix : List ℕ)
    (done : List Text) → WhereTold start a (λ octets rest. HasRead octets rest room done)
    → Reads line_read.LineLong room after a (prepend_known prefix left) line last → others_in done ≡ []
    → WhereTold start left (λ octets rest. IsLong octets)
stops_long start a left room after line last prefix done before reads each =
    told_map start left (λ octets rest. Reached stopped_at.LineLong octets rest done) (λ octets rest. IsLong octets)
    (λ octets rest e. (e.0, ap others_in e.1 ∙ each))
    (ends_long start a left room after line last prefix done before reads)

pub stops_big : (start a left : Option (List ℕ)) (room after : ℕ) (line : Text) (last : Bool) (prefix : List ℕ)
    (done : List Text) → WhereTold start a (λ octets rest. HasRead octets rest room done)
    → Reads line_read.TooLong room after a (prepend_known prefix left) line last → others_in done ≡ []
    → WhereTold start left (λ octets rest. IsBig octets)
stops_big start a left room after line last prefix done before reads each =
    told_map start left (λ octets rest. Reached stopped_at.TooLong octets rest done) (λ octets rest. IsBig octets)
    (λ octets rest e. (e.0, ap others_in e.1 ∙ each))
    (ends_big start a left room after line last prefix done before reads)
