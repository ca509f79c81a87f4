-- How far an input was read, line after line.
use Rattle.std.proofs.Common.{◌≡◌, ℕ, ◌+◌, ◌<◌, ◌^◌, Bool, true, false, List, [], ◌∷◌, ◌++◌, length, Option, None, Some, refl, sym, ap, ◌∙◌, subst, arith, append_assoc, append-nil, length-append}
use Rattle.std.specs.Io.KnownBytes.{prepend_known}
use Rattle.pc_outside.specs.Held.{Held, IsUnfinished}
use Rattle.pc_outside.specs.Limits.{newline}
use Rattle.pc_outside.specs.Line.{HoldsLine}
use Rattle.pc_outside.specs.LineReads.{Answers, Reads}
use Rattle.pc_outside.specs.declared.reading.LineRead.{LineRead}
use Rattle.pc_outside.specs.declared.reading.LineRead.TheVariants as read
use Rattle.pc_outside.specs.InputRead.{FailsBehind, HasRead, IsTaken, Reached}
use Rattle.pc_outside.specs.WhereTold.{WhereTold}
use Rattle.pc_outside.specs.Texts.{Texts, Text, long, big, ended, stopped, after_lines, texts_of, texts_within}
use Rattle.pc_outside.specs.declared.input_stop.InputStop.TheVariants as stopped_at
use Rattle.pc_outside.proofs.InputTexts.{at_end, input_big, last_line, line_long, unfinished, whole_line}

after_lines-push : (done : List Text) (line : Text) (texts : Texts)
    → after_lines done (after_lines (line ∷ []) texts) ≡ after_lines (done ++ line ∷ []) texts
after_lines-push done line texts =
    ap (λ lines. record { lines = lines; stop = texts.stop }) (sym (append_assoc done (line ∷ []) texts.lines))

-- nothing is read yet
pub starts : (start ahead : Option (List ℕ)) (room : ℕ) → ahead ≡ start → room ≡ 2 ^ 40
    → WhereTold start ahead (λ octets rest. HasRead octets rest room [])
starts start ahead room same full =
    subst (λ a. WhereTold start a (λ octets rest. HasRead octets rest room [])) (sym same)
    (subst (λ r. WhereTold start start (λ octets rest. HasRead octets rest r [])) (sym full) (first start))
  where
    first : (start : Option (List ℕ)) → WhereTold start start (λ octets rest. HasRead octets rest (2 ^ 40) [])
    first None = tt
    first (Some octets) = record { gone = []; parts = refl; taken = refl; says = λ behind. refl }

none_before : (known : Option (List ℕ)) → prepend_known [] known ≡ known
none_before None = refl
none_before (Some octets) = refl

pub starts_fresh : (start : Option (List ℕ)) (now : Held)
    → now ≡ record { line = []; last = false; buffered = []; room = 2 ^ 40 }
    → WhereTold start (prepend_known now.buffered start) (λ octets rest. HasRead octets rest now.room [])
starts_fresh start now fresh =
    starts start (prepend_known now.buffered start) now.room
    (ap (λ (held : Held). prepend_known held.buffered start) fresh ∙ none_before start)
    (ap (λ (held : Held). held.room) fresh)

-- a line and its newline are gone through too
read_whole : (room after : ℕ) (done : List Text) (line octets ahead rest : List ℕ) → HasRead octets ahead room done
    → HoldsLine room after ahead rest line false → HasRead octets rest after (done ++ line ∷ [])
read_whole room after done line octets ahead rest before holds = record {
  gone = before.gone ++ (line ++ newline ∷ []);
  parts = before.parts ∙ ap (λ t. before.gone ++ t) holds.form.parts ∙ sym (regrouped rest);
  taken = omega (
    arith,
    before.taken,
    holds.form.given,
    length-append before.gone (line ++ newline ∷ []),
    length-append line (newline ∷ []),
  );
  says = λ behind. ap texts_of (regrouped behind)
      ∙ before.says (line ++ newline ∷ behind)
      ∙ ap (λ n. after_lines done (texts_within n (line ++ newline ∷ behind))) holds.form.given
      ∙ ap (after_lines done) (whole_line after line behind holds.no_newline holds.short)
      ∙ after_lines-push done line (texts_within after behind);
}
  where
    regrouped : (behind : List ℕ)
        → (before.gone ++ (line ++ newline ∷ [])) ++ behind ≡ before.gone ++ (line ++ newline ∷ behind)
    regrouped behind = append_assoc before.gone (line ++ newline ∷ []) behind
        ∙ ap (λ t. before.gone ++ t) (append_assoc line (newline ∷ []) behind)

-- a last line without newline was read: nothing stands behind it
read_last : (room after : ℕ) (done : List Text) (line octets ahead rest : List ℕ) → HasRead octets ahead room done
    → HoldsLine room after ahead rest line true
    → texts_of octets ≡ record { lines = done ++ line ∷ []; stop = ended }
read_last room after done line octets ahead rest before holds =
    ap texts_of before.parts
    ∙ before.says ahead
    ∙ ap (λ n. after_lines done (texts_within n ahead)) holds.form.given
    ∙ ap (λ t. after_lines done (texts_within (length line + after) t)) holds.form.whole
    ∙ ap (after_lines done) (last_line after line holds.no_newline holds.short holds.form.some holds.form.more)
    ∙ after_lines-push done line (texts_within after [])
    ∙ ap (after_lines (done ++ line ∷ [])) (at_end after holds.form.more)
    ∙ ap (λ lines. record { lines = lines; stop = ended }) (append-nil (done ++ line ∷ []))

told_next : (start a left : Option (List ℕ)) (room after : ℕ) (one : LineRead) (line : Text) (last : Bool)
    (prefix : List ℕ) (done : List Text) (R : List ℕ → List ℕ → Type 0)
    → ((octets ahead rest : List ℕ) → HasRead octets ahead room done
    → Answers one room after ahead (prefix ++ rest) line last → R octets rest)
    → WhereTold start a (λ octets rest. HasRead octets rest room done)
    → Reads one room after a (prepend_known prefix left) line last → WhereTold start left R
told_next None a left room after one line last prefix done R follows read reads = tt
told_next (Some octets) None left room after one line last prefix done R follows read reads = absurd read
told_next (Some octets) (Some ahead) None room after one line last prefix done R follows read reads = absurd reads
told_next (Some octets) (Some ahead) (Some rest) room after one line last prefix done R follows read reads =
    follows octets ahead rest read reads

-- whatever is told of what was read, the source tells what is left
pub told_still : (start a left : Option (List ℕ)) (room after : ℕ) (one : LineRead) (line : Text) (last : Bool)
    (prefix : List ℕ) (done : List Text)
    → WhereTold start a (λ octets rest. HasRead octets rest room done)
    → Reads one room after a (prepend_known prefix left) line last → WhereTold start left (λ octets rest. Unit {0})
told_still start a left room after one line last prefix done read reads =
    told_next start a left room after one line last prefix done (λ octets rest. Unit {0})
    (λ octets ahead rest before says. tt) read reads

-- one line more was read
pub read_more : (start a b : Option (List ℕ)) (room after : ℕ) (line : Text) (last : Bool) (done : List Text)
    → last ≡ false
    → WhereTold start a (λ octets rest. HasRead octets rest room done)
    → Reads read.Line room after a b line last
    → WhereTold start b (λ octets rest. HasRead octets rest after (done ++ line ∷ []))
read_more None a b room after line last done more read reads = tt
read_more (Some octets) None b room after line last done more read reads = absurd read
read_more (Some octets) (Some ahead) None room after line last done more read reads = absurd reads
read_more (Some octets) (Some ahead) (Some rest) room after line true done more read reads = cc
read_more (Some octets) (Some ahead) (Some rest) room after line false done more read reads =
    read_whole room after done line octets ahead rest read reads

none_left : (held left : List ℕ) → held ++ left ≡ [] → left ≡ []
none_left [] left none = none
none_left (octet ∷ held) left none = cc

-- no more lines come
pub ends_last : (start a left : Option (List ℕ)) (room after : ℕ) (line : Text) (last : Bool) (prefix : List ℕ)
    (done : List Text) → last ≡ true
    → WhereTold start a (λ octets rest. HasRead octets rest room done)
    → Reads read.Line room after a (prepend_known prefix left) line last
    → WhereTold start left (λ octets rest. Reached stopped_at.Ended octets rest (done ++ line ∷ []))
ends_last start a left room after line last prefix done is =
    told_next start a left room after read.Line line last prefix done
    (λ octets rest. Reached stopped_at.Ended octets rest (done ++ line ∷ []))
    (λ octets ahead rest before holds. by_last octets ahead rest last is before holds)
  where
    by_last : (octets ahead rest : List ℕ) (last : Bool) → last ≡ true → HasRead octets ahead room done
        → HoldsLine room after ahead (prefix ++ rest) line last
        → Reached stopped_at.Ended octets rest (done ++ line ∷ [])
    by_last octets ahead rest false is before holds = cc
    by_last octets ahead rest true is before holds =
        let whole = read_last room after done line octets ahead (prefix ++ rest) before holds in (
          (ap (λ (t : Texts). t.stop) whole, none_left prefix rest holds.form.none_left),
          ap (λ (t : Texts). t.lines) whole,
        )

stands : (octets ahead : List ℕ) (room : ℕ) (done : List Text) (texts : Texts) → HasRead octets ahead room done
    → texts_within room ahead ≡ texts → texts_of octets ≡ after_lines done texts
stands octets ahead room done texts before is =
    ap texts_of before.parts ∙ before.says ahead ∙ ap (after_lines done) is

pub ends_ended : (start a left : Option (List ℕ)) (room after : ℕ) (line : Text) (last : Bool) (prefix : List ℕ)
    (done : List Text)
    → WhereTold start a (λ octets rest. HasRead octets rest room done)
    → Reads read.End room after a (prepend_known prefix left) line last
    → WhereTold start left (λ octets rest. Reached stopped_at.Ended octets rest done)
ends_ended start a left room after line last prefix done =
    told_next start a left room after read.End line last prefix done
    (λ octets rest. Reached stopped_at.Ended octets rest done)
    (λ octets ahead rest before says.
    let whole : texts_of octets ≡ after_lines done (stopped ended) =
    stands octets ahead room done (stopped ended) before
    (ap (texts_within room) says.1 ∙ at_end room says.2) in (
      (ap (λ (t : Texts). t.stop) whole, none_left prefix rest (says.0.octets_stay ∙ says.1)),
      ap (λ (t : Texts). t.lines) whole ∙ append-nil done,
    ))

pub ends_long : (start a left : Option (List ℕ)) (room after : ℕ) (line : Text) (last : Bool) (prefix : List ℕ)
    (done : List Text)
    → WhereTold start a (λ octets rest. HasRead octets rest room done)
    → Reads read.LineLong room after a (prepend_known prefix left) line last
    → WhereTold start left (λ octets rest. Reached stopped_at.LineLong octets rest done)
ends_long start a left room after line last prefix done =
    told_next start a left room after read.LineLong line last prefix done
    (λ octets rest. Reached stopped_at.LineLong octets rest done)
    (λ octets ahead rest before says.
    let whole : texts_of octets ≡ after_lines done (stopped long) =
    stands octets ahead room done (stopped long) before
    (ap (texts_within room) says.1.parts
    ∙ line_long room says.1.prefix says.1.rest says.1.no_newline says.1.long says.1.within) in
    (ap (λ (t : Texts). t.stop) whole, ap (λ (t : Texts). t.lines) whole ∙ append-nil done))

pub ends_big : (start a left : Option (List ℕ)) (room after : ℕ) (line : Text) (last : Bool) (prefix : List ℕ)
    (done : List Text)
    → WhereTold start a (λ octets rest. HasRead octets rest room done)
    → Reads read.TooLong room after a (prepend_known prefix left) line last
    → WhereTold start left (λ octets rest. Reached stopped_at.TooLong octets rest done)
ends_big start a left room after line last prefix done =
    told_next start a left room after read.TooLong line last prefix done
    (λ octets rest. Reached stopped_at.TooLong octets rest done)
    (λ octets ahead rest before says.
    let whole : texts_of octets ≡ after_lines done (stopped big) =
    stands octets ahead room done (stopped big) before
    (ap (λ n. texts_within n ahead) (sym says.1.full)
    ∙ ap (texts_within (length says.1.prefix)) says.1.parts
    ∙ input_big says.1.prefix says.1.rest says.1.no_newline says.1.short) in
    (ap (λ (t : Texts). t.stop) whole, ap (λ (t : Texts). t.lines) whole ∙ append-nil done))

pub fails_behind : (start a left : Option (List ℕ)) (room : ℕ) (now : Held) (line : Text) (last : Bool)
    (done : List Text) → IsUnfinished now
    → WhereTold start a (λ octets rest. HasRead octets rest room done)
    → Reads read.ReadFault room now.room a (prepend_known now.buffered left) line last
    → WhereTold start left (λ octets rest. Reached stopped_at.ReadFault octets rest done)
fails_behind start a left room now line last done more =
    told_next start a left room now.room read.ReadFault line last now.buffered done
    (λ octets rest. Reached stopped_at.ReadFault octets rest done)
    (λ octets ahead rest before says. record {
      unfinished = now.buffered;
      room = room;
      read = subst (λ next. HasRead octets next room done) (sym says.octets_stay) before;
      no_newline = more.no_newline;
      short = more.short;
      more = omega (arith, more.more, says.room_stays);
    })

-- whatever its lines are, none of what was taken is too long
pub taken_before : (octets left : List ℕ) (done : List Text) → FailsBehind octets left done → IsTaken octets left
taken_before octets left done fails = record {
  taken = fails.read.gone ++ fails.unfinished;
  parts = fails.read.parts ∙ sym (append_assoc fails.read.gone fails.unfinished left);
  stop = ap (λ (t : Texts). t.stop) (fails.read.says fails.unfinished)
      ∙ unfinished fails.room fails.unfinished fails.no_newline fails.short fails.more;
}

-- how much room a line takes
pub room_of_whole : (room after : ℕ) (octets rest line : List ℕ) (last : Bool) → last ≡ false
    → HoldsLine room after octets rest line last → room ≡ length line + 1 + after
room_of_whole room after octets rest line false is holds = holds.form.given
room_of_whole room after octets rest line true is holds = cc

pub room_of_last : (room after : ℕ) (octets rest line : List ℕ) (last : Bool) → last ≡ true
    → HoldsLine room after octets rest line last → (room ≡ length line + after) × (0 < after)
room_of_last room after octets rest line false is holds = cc
room_of_last room after octets rest line true is holds = (holds.form.given, holds.form.more)
