-- What is written of what was heard, and what it comes to.
use Rattle.std.proofs.Common.{◌≡◌, ℕ, ◌+◌, Bool, true, false, cond, List, [], ◌∷◌, ◌++◌, append-nil, Option, None, Some, is_some, Result, Ok, Err, refl, sym, ap, ◌∙◌, subst}
use Rattle.std.specs.Prelude.{bytes_eq}
use Rattle.std.proofs.KnownBytes.{Appends-nil}
use Rattle.audit_core.specs.Setups.{input_with}
use Rattle.audit_core.specs.declared.setup.BadAt.{BadAt}
use Rattle.audit_core.specs.Heard.{HasHeard}
use Rattle.pc_outside.specs.InputRead.{Reached}
use Rattle.pc_outside.specs.WhereTold.{WhereTold}
use Rattle.pc_outside.proofs.ToldLemmas.{told_map}
use Rattle.audit_core.specs.Said.{HasNoEntry, marker, report_texts, trace_from, trace_said, trace_texts}
use Rattle.pc_outside.specs.Texts.{Text, Texts, texts_of, texts_within}
use Rattle.pc_outside.specs.declared.input_stop.InputStop.{InputStop}
use Rattle.pc_outside.specs.declared.input_stop.InputStop.TheVariants as stopped_at
use Rattle.audit_core.specs.declared.heard.Heard.{Heard}
use Rattle.audit_core.proofs.HeardLemmas.{entries_heard, outside_heard, said_heard}
use Rattle.audit_core.proofs.SaidLemmas.{one_list}
use Rattle.trace_lines.specs.Input.{Input, bad, ended, line_then}
use Rattle.trace_lines.specs.Line.{Line}
use Rattle.trace_lines.specs.Meaning.{line_meaning}
use Rattle.trace_lines.specs.declared.bad.LineBad.{LineBad}
use Rattle.balance_plan.specs.Balance.{balanced}
use Rattle.balance_plan.specs.Report.{Balances, IsWrittenAs, Reports}
use Rattle.balance_plan.specs.Said.{HasBadLine, IsBalanced, IsTrace}
use Rattle.balance_plan.specs.Written.{text_of}
use Rattle.trace_run.specs.declared.status.Status.{Status}
use Rattle.trace_run.specs.declared.status.Status.TheVariants as ending_of

pub none_of : (found : Option BadAt) → is_some found ≡ false → found ≡ None
none_of None is = refl
none_of (Some at) is = cc

pub some_of : (found : Option BadAt) → is_some found ≡ true → (at : BadAt) × (found ≡ Some at)
some_of None is = cc
some_of (Some at) is = (at, refl)

-- no line of the trace is refused · one is
trace_heard_whole : (heard : Heard) (texts : List Text) → HasHeard heard texts → heard.bad ≡ None → IsTrace texts
trace_heard_whole heard texts hears good =
    ap (λ (input : Input). input.stop) (said_heard heard texts hears ∙ ap (input_with heard.lines.items) good)

bad_line_heard : (heard : Heard) (texts : List Text) (at : BadAt) → HasHeard heard texts → heard.bad ≡ Some at
    → HasBadLine texts
bad_line_heard heard texts at hears is = record {
  number = at.number;
  why = at.why;
  stop = ap (λ (input : Input). input.stop) (said_heard heard texts hears ∙ ap (input_with heard.lines.items) is);
}

balanced_heard : (slices most : ℕ) (heard : Heard) (texts : List Text) (text : List ℕ) → HasHeard heard texts
    → heard.bad ≡ None → heard.outside ≡ false
    → text ≡ text_of (balanced slices most heard.entries.items heard.lines.items)
    → IsBalanced slices most texts text
balanced_heard slices most heard texts text hears good inside is = record {
  trace = trace_heard_whole heard texts hears good;
  entries = heard.entries.items;
  report = entries_heard heard texts hears inside;
  written = is
      ∙ ap (λ (input : Input). text_of (balanced slices most heard.entries.items input.lines))
      (sym (said_heard heard texts hears));
}

-- the text was written, or a prefix of it
pub written_so : (ending : Status) (slices most : ℕ) (heard : Heard) (start left old new : Option (List ℕ))
    (texts : List Text) (text : List ℕ) → IsWrittenAs ending old new text → HasHeard heard texts
    → heard.bad ≡ None → heard.outside ≡ false
    → text ≡ text_of (balanced slices most heard.entries.items heard.lines.items)
    → WhereTold start left (λ octets rest. Reached stopped_at.Ended octets rest texts)
    → Balances ending slices most start left old new
written_so ending_of.Ok slices most heard start left old new texts text wrote hears good inside is reached = record {
  text = text;
  written = wrote;
  report = told_map start left (λ octets rest. Reached stopped_at.Ended octets rest texts)
      (λ octets rest. Reports ending_of.Ok slices most octets rest text)
      (λ octets rest at. (
        at.0,
        subst (λ ts. IsBalanced slices most ts text) (sym at.1)
            (balanced_heard slices most heard texts text hears good inside is),
      )) reached;
}
written_so ending_of.WriteFault slices most heard start left old new texts text wrote hears good inside is reached =
    record {
      text = wrote.prefix;
      written = wrote.appended;
      report = told_map start left (λ octets rest. Reached stopped_at.Ended octets rest texts)
          (λ octets rest. Reports ending_of.WriteFault slices most octets rest wrote.prefix)
          (λ octets rest at. (
            at.0,
            record {
              more = wrote.rest;
              whole = subst (λ ts. IsBalanced slices most ts (wrote.prefix ++ wrote.rest)) (sym at.1)
                  (balanced_heard slices most heard texts (wrote.prefix ++ wrote.rest) hears good inside
                  (sym wrote.parts ∙ is));
            },
          )) reached;
    }
written_so ending_of.Usage slices most heard start left old new texts text wrote hears good inside is reached =
    absurd wrote
written_so ending_of.ReadFault slices most heard start left old new texts text wrote hears good inside is reached =
    absurd wrote
written_so ending_of.NoMemory slices most heard start left old new texts text wrote hears good inside is reached =
    absurd wrote
written_so ending_of.BadLine slices most heard start left old new texts text wrote hears good inside is reached =
    absurd wrote
written_so ending_of.LineLong slices most heard start left old new texts text wrote hears good inside is reached =
    absurd wrote
written_so ending_of.TooLong slices most heard start left old new texts text wrote hears good inside is reached =
    absurd wrote
written_so ending_of.Refuted slices most heard start left old new texts text wrote hears good inside is reached =
    absurd wrote
written_so ending_of.BadCapture slices most heard start left old new texts text wrote hears good inside is reached =
    absurd wrote
written_so ending_of.BadState slices most heard start left old new texts text wrote hears good inside is reached =
    absurd wrote
written_so ending_of.BadReport slices most heard start left old new texts text wrote hears good inside is reached =
    absurd wrote

-- nothing is written
nothing_said : (ending : Status) (slices most : ℕ) (start left old : Option (List ℕ)) (P : List ℕ → List ℕ → Type 0)
    → ((octets rest : List ℕ) → P octets rest → Reports ending slices most octets rest [])
    → WhereTold start left P → Balances ending slices most start left old old
nothing_said ending slices most start left old P follows told = record {
  text = [];
  written = Appends-nil old;
  report = told_map start left P (λ octets rest. Reports ending slices most octets rest []) follows told;
}

pub memory_said : (slices most : ℕ) (start left old : Option (List ℕ)) (P : List ℕ → List ℕ → Type 0)
    → WhereTold start left P → Balances ending_of.NoMemory slices most start left old old
memory_said slices most start left old P =
    nothing_said ending_of.NoMemory slices most start left old P (λ octets rest at. refl)

pub report_said : (slices most : ℕ) (heard : Heard) (start left old : Option (List ℕ)) (texts : List Text)
    → HasHeard heard texts → heard.bad ≡ None → heard.outside ≡ true
    → WhereTold start left (λ octets rest. Reached stopped_at.Ended octets rest texts)
    → Balances ending_of.BadReport slices most start left old old
report_said slices most heard start left old texts hears good outside =
    nothing_said ending_of.BadReport slices most start left old
    (λ octets rest. Reached stopped_at.Ended octets rest texts)
    (λ octets rest at. (
      at.0,
      subst IsTrace (sym at.1) (trace_heard_whole heard texts hears good),
      subst (λ ts. HasNoEntry (report_texts ts)) (sym at.1) (outside_heard heard texts hears outside),
      refl,
    ))

long_said : (slices most : ℕ) (heard : Heard) (start left old : Option (List ℕ)) (texts : List Text)
    → HasHeard heard texts → heard.bad ≡ None
    → WhereTold start left (λ octets rest. Reached stopped_at.LineLong octets rest texts)
    → Balances ending_of.LineLong slices most start left old old
long_said slices most heard start left old texts hears good =
    nothing_said ending_of.LineLong slices most start left old
    (λ octets rest. Reached stopped_at.LineLong octets rest texts)
    (λ octets rest at. (at.0, subst IsTrace (sym at.1) (trace_heard_whole heard texts hears good), refl))

big_said : (slices most : ℕ) (heard : Heard) (start left old : Option (List ℕ)) (texts : List Text)
    → HasHeard heard texts → heard.bad ≡ None
    → WhereTold start left (λ octets rest. Reached stopped_at.TooLong octets rest texts)
    → Balances ending_of.TooLong slices most start left old old
big_said slices most heard start left old texts hears good =
    nothing_said ending_of.TooLong slices most start left old
    (λ octets rest. Reached stopped_at.TooLong octets rest texts)
    (λ octets rest at. (at.0, subst IsTrace (sym at.1) (trace_heard_whole heard texts hears good), refl))

fault_said : (slices most : ℕ) (heard : Heard) (start left old : Option (List ℕ)) (texts : List Text)
    → HasHeard heard texts → heard.bad ≡ None
    → WhereTold start left (λ octets rest. Reached stopped_at.ReadFault octets rest texts)
    → Balances ending_of.ReadFault slices most start left old old
fault_said slices most heard start left old texts hears good =
    nothing_said ending_of.ReadFault slices most start left old
    (λ octets rest. Reached stopped_at.ReadFault octets rest texts)
    (λ octets rest at. (texts, at, trace_heard_whole heard texts hears good, refl))

-- the input begins with the lines that were heard, whatever stopped them
lines_read : (stop : InputStop) (octets rest : List ℕ) (texts : List Text) → Reached stop octets rest texts
    → (more : List Text) × ((texts_of octets).lines ≡ texts ++ more)
lines_read stopped_at.Ended octets rest texts at = ([], at.1 ∙ sym (append-nil texts))
lines_read stopped_at.ReadFault octets rest texts at =
    let ahead = at.unfinished ++ rest in (
      (texts_within at.room ahead).lines,
      ap (λ (os : List ℕ). (texts_of os).lines) at.read.parts
          ∙ ap (λ (t : Texts). t.lines) (at.read.says ahead),
    )
lines_read stopped_at.LineLong octets rest texts at = ([], at.1 ∙ sym (append-nil texts))
lines_read stopped_at.TooLong octets rest texts at = ([], at.1 ∙ sym (append-nil texts))

-- a refused line is so whatever comes behind it
trace_more : (texts more : List Text)
    → (behind : List Text) × (trace_texts (texts ++ more) ≡ trace_texts texts ++ behind)
trace_more [] more = (trace_texts more, refl)
trace_more (text ∷ texts) more = by_marker (bytes_eq text marker) (trace_more texts more)
  where
    by_marker : (ends : Bool)
        → (behind : List Text) × (trace_texts (texts ++ more) ≡ trace_texts texts ++ behind)
        → (behind : List Text) × (cond ends [] (text ∷ trace_texts (texts ++ more))
        ≡ cond ends [] (text ∷ trace_texts texts) ++ behind)
    by_marker true rest = ([], refl)
    by_marker false rest = (rest.0, ap (λ (ts : List Text). text ∷ ts) rest.1)

stays_bad : (number least : ℕ) (texts behind : List Text) (n : ℕ) (why : LineBad)
    → (trace_from number least texts).stop ≡ bad n why → (trace_from number least (texts ++ behind)).stop ≡ bad n why
stays_bad number least [] behind n why is = absurd (let clash : ended ≡ bad n why = is in cc)
stays_bad number least (text ∷ texts) behind n why is =
    by_read (line_meaning least number text)
    (λ (line : Line). stays_bad (number + 1) line.moment texts behind n why) is
  where
    by_read : (read : Result Line LineBad)
        → ((line : Line) → (trace_from (number + 1) line.moment texts).stop ≡ bad n why
        → (trace_from (number + 1) line.moment (texts ++ behind)).stop ≡ bad n why)
        → (line_then number read (λ (line : Line). trace_from (number + 1) line.moment texts)).stop ≡ bad n why
        → (line_then number read (λ (line : Line). trace_from (number + 1) line.moment (texts ++ behind))).stop
        ≡ bad n why
    by_read (Ok line) later stops = later line stops
    by_read (Err reason) later stops = stops

bad_more : (texts more : List Text) → HasBadLine texts → HasBadLine (texts ++ more)
bad_more texts more has =
    let longer = trace_more texts more in
    record {
      number = has.number;
      why = has.why;
      stop = ap (λ (ts : List Text). (trace_from 1 0 ts).stop) longer.1
          ∙ stays_bad 1 0 (trace_texts texts) longer.0 has.number has.why has.stop;
    }

bad_said : (stop : InputStop) (slices most : ℕ) (heard : Heard) (at : BadAt) (start left old : Option (List ℕ))
    (texts : List Text) → HasHeard heard texts → heard.bad ≡ Some at
    → WhereTold start left (λ octets rest. Reached stop octets rest texts)
    → Balances ending_of.BadLine slices most start left old old
bad_said stop slices most heard at start left old texts hears is =
    nothing_said ending_of.BadLine slices most start left old (λ octets rest. Reached stop octets rest texts)
    (λ octets rest reached.
    let read = lines_read stop octets rest texts reached in
    (subst HasBadLine (sym read.1) (bad_more texts read.0 (bad_line_heard heard texts at hears is)), refl))

-- a stop behind which nothing is read, unless a line of the trace is refused
module _ (result : Status) (slices most : ℕ) (heard : Heard) (start left old : Option (List ℕ)) (texts : List Text)
    (hears : HasHeard heard texts)
    (refused : (at : BadAt) → heard.bad ≡ Some at → result ≡ ending_of.BadLine) where
  abbrev Ends : Status → Type 0
  Ends ending = Balances ending slices most start left old old

  refused_so : (stop : InputStop) (at : BadAt) → heard.bad ≡ Some at
      → WhereTold start left (λ octets rest. Reached stop octets rest texts) → Ends result
  refused_so stop at is reached =
      subst Ends (sym (refused at is)) (bad_said stop slices most heard at start left old texts hears is reached)

  pub fault_so : (heard.bad ≡ None → result ≡ ending_of.ReadFault)
      → WhereTold start left (λ octets rest. Reached stopped_at.ReadFault octets rest texts) → Ends result
  fault_so other reached = go heard.bad refl
    where
      go : (found : Option BadAt) → heard.bad ≡ found → Ends result
      go None is = subst Ends (sym (other is)) (fault_said slices most heard start left old texts hears is reached)
      go (Some at) is = refused_so stopped_at.ReadFault at is reached

  pub long_so : (heard.bad ≡ None → result ≡ ending_of.LineLong)
      → WhereTold start left (λ octets rest. Reached stopped_at.LineLong octets rest texts) → Ends result
  long_so other reached = go heard.bad refl
    where
      go : (found : Option BadAt) → heard.bad ≡ found → Ends result
      go None is = subst Ends (sym (other is)) (long_said slices most heard start left old texts hears is reached)
      go (Some at) is = refused_so stopped_at.LineLong at is reached

  pub big_so : (heard.bad ≡ None → result ≡ ending_of.TooLong)
      → WhereTold start left (λ octets rest. Reached stopped_at.TooLong octets rest texts) → Ends result
  big_so other reached = go heard.bad refl
    where
      go : (found : Option BadAt) → heard.bad ≡ found → Ends result
      go None is = subst Ends (sym (other is)) (big_said slices most heard start left old texts hears is reached)
      go (Some at) is = refused_so stopped_at.TooLong at is reached

-- and where all was read
pub refused_said : (slices most : ℕ) (heard : Heard) (at : BadAt) (start left old : Option (List ℕ)) (texts : List Text)
    → HasHeard heard texts → heard.bad ≡ Some at
    → WhereTold start left (λ octets rest. Reached stopped_at.Ended octets rest texts)
    → Balances ending_of.BadLine slices most start left old old
refused_said slices most heard at start left old texts =
    bad_said stopped_at.Ended slices most heard at start left old texts

-- lines have one list of entries, and so one text with planned moves
pub one_text : (slices most : ℕ) (texts : List Text) (one other : List ℕ) → IsBalanced slices most texts one
    → IsBalanced slices most texts other → one ≡ other
one_text slices most texts one other is also =
    is.written
    ∙ ap (λ entries. text_of (balanced slices most entries (trace_said texts).lines))
    (one_list (report_texts texts) is.entries also.entries is.report also.report)
    ∙ sym also.written
