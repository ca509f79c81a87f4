-- What octets say, behind those of the lines that were read.
use Rattle.std.proofs.Common.{◌≡◌, ℕ, ◌+◌, List, [], ◌∷◌, ◌++◌, Option, None, Some, inr, refl, sym, ap, ◌∙◌, arith, append_assoc, append-nil, length-append}
use Rattle.std.specs.Io.KnownBytes.{prepend_known}
use Rattle.pc_outside.specs.Held.{Held, IsUnfinished}
use Rattle.pc_outside.specs.Limits.{newline}
use Rattle.trace_lines.specs.Input.{Input, Stop, ended, stopped, after_lines, input_within}
use Rattle.trace_lines.specs.Line.{Line}
use Rattle.trace_lines.proofs.InputLemmas.{at_end}
use Rattle.trace_run.specs.Coming.{Next}
use Rattle.trace_run.specs.Coming as next
use Rattle.trace_run.specs.Next.{SaysLine, Says, Tells}
use Rattle.trace_run.specs.Beginnings.{Beginning, input_from}
use Rattle.trace_run.specs.Lines.{HasRead, StopsFrom, FailsFrom}
use Rattle.pc_outside.specs.WhereTold.{WhereTold}
use Rattle.pc_outside.proofs.ToldLemmas.{told_then}

after_lines-push : (done : List Line) (line : Line) (input : Input)
    → after_lines done (after_lines (line ∷ []) input) ≡ after_lines (done ++ line ∷ []) input
after_lines-push done line input =
    ap (λ lines. record { lines = lines; stop = input.stop }) (sym (append_assoc done (line ∷ []) input.lines))

-- a text behind others, and what stands behind it
regrouped : (gone text behind : List ℕ) → gone ++ text ++ newline ∷ [] ++ behind ≡ gone ++ (text ++ newline ∷ behind)
regrouped gone text behind = append_assoc (gone ++ text) (newline ∷ []) behind
    ∙ append_assoc gone text (newline ∷ behind)

-- a line and its newline are gone through too
read_more : (begin : Beginning) (number least room after : ℕ) (done : List Line) (line : Line) (octets ahead rest : List ℕ)
    → HasRead begin octets ahead number least room done → SaysLine line number least room after ahead rest
    → HasRead begin octets rest (number + 1) line.moment after (done ++ line ∷ [])
read_more begin number least room after done line octets ahead rest read line_said = record {
  gone = read.gone ++ line_said.text ++ newline ∷ [];
  parts = read.parts ∙ ap (λ t. read.gone ++ t) line_said.parts ∙ sym (regrouped read.gone line_said.text rest);
  lines = inr (read.gone ++ line_said.text, refl);
  taken = omega (
    arith,
    read.taken,
    line_said.given,
    length-append (read.gone ++ line_said.text) (newline ∷ []),
    length-append read.gone line_said.text,
  );
  says = λ behind. ap (input_from begin) (regrouped read.gone line_said.text behind)
      ∙ read.says (line_said.text ++ newline ∷ behind)
      ∙ ap (after_lines done) (line_said.says behind)
      ∙ after_lines-push done line (input_within after (number + 1) line.moment behind);
}

pub told_more : (begin : Beginning) (start a b : Option (List ℕ)) (number least room after : ℕ) (done : List Line) (line : Line) (len : ℕ)
    → WhereTold start a (λ octets rest. HasRead begin octets rest number least room done)
    → Tells (next.Line line len) number least room after a b
    → WhereTold start b (λ octets rest. HasRead begin octets rest (number + 1) line.moment after (done ++ line ∷ []))
told_more begin start a b number least room after done line len read tells =
    told_then start a b (λ octets rest. HasRead begin octets rest number least room done)
    (λ octets rest. Says (next.Line line len) number least room after octets rest)
    (λ octets rest. HasRead begin octets rest (number + 1) line.moment after (done ++ line ∷ []))
    (read_more begin number least room after done line) read tells

-- the octets say the lines that were read, and then what those ahead say
pub begins_so : (begin : Beginning) (number least room : ℕ) (done : List Line) (octets ahead : List ℕ)
    → HasRead begin octets ahead number least room done
    → input_from begin octets ≡ after_lines done (input_within room number least ahead)
begins_so begin number least room done octets ahead read = ap (input_from begin) read.parts ∙ read.says ahead

pub stops_so : (begin : Beginning) (number least room : ℕ) (done : List Line) (stop : Stop) (octets ahead : List ℕ)
    → HasRead begin octets ahead number least room done
    → input_within room number least ahead ≡ stopped stop → StopsFrom begin octets done stop
stops_so begin number least room done stop octets ahead read says =
    begins_so begin number least room done octets ahead read ∙ ap (after_lines done) says
    ∙ ap (λ lines. record { lines = lines; stop = stop }) (append-nil done)

-- one line more, and what comes behind it
pub begins_more : (begin : Beginning) (number least room : ℕ) (done : List Line) (line : Line) (behind : Input) (octets ahead : List ℕ)
    → HasRead begin octets ahead number least room done
    → input_within room number least ahead ≡ after_lines (line ∷ []) behind
    → input_from begin octets ≡ after_lines (done ++ line ∷ []) behind
begins_more begin number least room done line behind octets ahead read says =
    begins_so begin number least room done octets ahead read ∙ ap (after_lines done) says ∙ after_lines-push done line behind

-- nothing is left of octets of which none are
pub none_left : (held left : List ℕ) → held ++ left ≡ [] → left ≡ []
none_left [] left none = none
none_left (octet ∷ held) left none = cc

-- what is told of what is next, behind what was read
pub told_next : (begin : Beginning) (start a left : Option (List ℕ)) (held : List ℕ) (number least room after : ℕ) (done : List Line)
    (one : Next) (R : List ℕ → List ℕ → Type 0)
    → ((octets ahead rest : List ℕ) → HasRead begin octets ahead number least room done
    → Says one number least room after ahead (held ++ rest) → R octets rest)
    → WhereTold start a (λ octets rest. HasRead begin octets rest number least room done)
    → Tells one number least room after a (prepend_known held left)
    → WhereTold start left R
told_next begin None a left held number least room after done one R follows read tells = tt
told_next begin (Some octets) None left held number least room after done one R follows read tells = absurd read
told_next begin (Some octets) (Some ahead) None held number least room after done one R follows read tells = absurd tells
told_next begin (Some octets) (Some ahead) (Some rest) held number least room after done one R follows read tells =
    follows octets ahead rest read tells

-- the octets held are an unfinished line
pub fails_so : (begin : Beginning) (number least room : ℕ) (done : List Line) (now : Held) (octets ahead rest : List ℕ) → IsUnfinished now
    → HasRead begin octets ahead number least room done → now.buffered ++ rest ≡ ahead → now.room ≡ room → FailsFrom begin octets rest done
fails_so begin number least room done now octets ahead rest unfinished read stays same = record {
  taken = record {
    whole = read.gone;
    unfinished = now.buffered;
    parts = read.parts ∙ ap (λ t. read.gone ++ t) (sym stays) ∙ sym (append_assoc read.gone now.buffered rest);
    lines = read.lines;
    no_newline = unfinished.no_newline;
    short = unfinished.short;
    within = omega (arith, read.taken, unfinished.more, same);
  };
  stops = ap (input_from begin) (sym (append-nil read.gone)) ∙ read.says []
      ∙ ap (after_lines done) (at_end room number least (omega (arith, unfinished.more, same)))
      ∙ ap (λ lines. record { lines = lines; stop = ended }) (append-nil done);
  begins = (input_within room number least ahead, begins_so begin number least room done octets ahead read);
}

-- what is next begins with this line
abbrev pub GivesLine : Next → Line → ℕ → ℕ → ℕ → ℕ → Type 0
GivesLine one line number least room after =
    (ahead rest : List ℕ) → Says one number least room after ahead rest
    → (behind : Input) × (input_within room number least ahead ≡ after_lines (line ∷ []) behind)

pub gives_line : (line : Line) (len number least room after : ℕ)
    → GivesLine (next.Line line len) line number least room after
gives_line line len number least room after = λ ahead rest says.
    (input_within after (number + 1) line.moment rest, ap (input_within room number least) says.parts ∙ says.says rest)

pub gives_last : (line : Line) (len number least room after : ℕ)
    → GivesLine (next.Last line len) line number least room after
gives_last line len number least room after = λ ahead rest says. (stopped ended, says.0)
