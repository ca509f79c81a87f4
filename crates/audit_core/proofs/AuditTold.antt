-- What an audit wrote, by what was found and how it ended.
use Rattle.std.proofs.Common.{◌≡◌, ℕ, Bool, List, [], ◌++◌, Option, None, Some, Result, Ok, Err, OnOk, OnErr, refl, sym, subst}
use Rattle.std.specs.Io.KnownBytes.{Appends}
use Rattle.std.proofs.KnownBytes.{Appends-nil}
use Rattle.lawful_run.specs.Setup.{Setup}
use Rattle.pc_outside.specs.Prefixes.{AppendsPrefix}
use Rattle.pc_outside.specs.WhereTold.{WhereTold}
use Rattle.pc_outside.specs.declared.writing.WriteFault.{WriteFault}
use Rattle.pc_outside.proofs.ToldLemmas.{told_map}
use Rattle.audit_core.specs.Findings.{Finds}
use Rattle.pc_outside.specs.InputRead.{Reached}
use Rattle.audit_core.specs.Refuting.{SaysFinding}
use Rattle.audit_core.specs.Report.{Audits, Reports, SaysWhole, ending_as}
use Rattle.pc_outside.specs.Texts.{Text, texts_of}
use Rattle.audit_core.specs.declared.auditing.Audited.{Audited}
use Rattle.audit_core.specs.declared.auditing.Audited.TheVariants as audited
use Rattle.pc_outside.specs.declared.input_stop.InputStop.TheVariants as stopped_at
use Rattle.pc_outside.proofs.InputLemmas.{taken_before}

-- where the sink failed
pub write_failed : (found : Option ℕ) (written : Result Unit WriteFault) (P : Type 0) → OnErr written P
    → ending_as found written ≡ audited.WriteFault → P
write_failed None (Ok done) P failed is = absurd (cc)
write_failed (Some k) (Ok done) P failed is = absurd (cc)
write_failed found (Err fault) P failed is = failed

-- what is told with its place was written, or a prefix of it
says_told : (why : Bool) (setup : Setup) (octets : List ℕ) (texts : List Text) (found : Option ℕ) (text : List ℕ)
    → Finds setup texts found → SaysFinding why setup texts found text → (texts_of octets).lines ≡ texts
    → SaysWhole why setup octets text found
says_told why setup octets texts found text finds says same = record {
  finds = subst (λ t. Finds setup t found) (sym same) finds;
  says = subst (λ t. SaysFinding why setup t found text) (sym same) says;
}

pub told_so : (why : Bool) (setup : Setup) (found : Option ℕ) (written : Result Unit WriteFault)
    (start left old new : Option (List ℕ)) (texts : List Text) (text : List ℕ) → Finds setup texts found
    → SaysFinding why setup texts found text
    → WhereTold start left (λ octets rest. Reached stopped_at.Ended octets rest texts)
    → OnOk written (Appends old new text) → OnErr written (AppendsPrefix old new text)
    → Audits why (ending_as found written) setup start left old new
told_so why setup None (Ok done) start left old new texts text finds says reached whole cut = record {
  text = text;
  written = whole;
  report = told_map start left (λ octets rest. Reached stopped_at.Ended octets rest texts)
      (λ octets rest. Reports audited.Confirmed why setup octets rest text)
      (λ octets rest is. (is.0, says_told why setup octets texts None text finds says is.1)) reached;
}
told_so why setup (Some k) (Ok done) start left old new texts text finds says reached whole cut = record {
  text = text;
  written = whole;
  report = told_map start left (λ octets rest. Reached stopped_at.Ended octets rest texts)
      (λ octets rest. Reports audited.Refuted why setup octets rest text)
      (λ octets rest is. (is.0, (k, says_told why setup octets texts (Some k) text finds says is.1))) reached;
}
told_so why setup found (Err fault) start left old new texts text finds says reached whole cut = record {
  text = cut.prefix;
  written = cut.appended;
  report = told_map start left (λ octets rest. Reached stopped_at.Ended octets rest texts)
      (λ octets rest. Reports audited.WriteFault why setup octets rest cut.prefix)
      (λ octets rest is. (
        is.0,
        record {
          found = found;
          more = cut.rest;
          whole = says_told why setup octets texts found (cut.prefix ++ cut.rest) finds
              (subst (SaysFinding why setup texts found) cut.parts says) is.1;
        },
      )) reached;
}

-- nothing is written
nothing_told : (ending : Audited) (why : Bool) (setup : Setup) (start left old : Option (List ℕ))
    (P : List ℕ → List ℕ → Type 0)
    → ((octets rest : List ℕ) → P octets rest → Reports ending why setup octets rest [])
    → WhereTold start left P → Audits why ending setup start left old old
nothing_told ending why setup start left old P follows told = record {
  text = [];
  written = Appends-nil old;
  report = told_map start left P (λ octets rest. Reports ending why setup octets rest []) follows told;
}

pub memory_told : (why : Bool) (setup : Setup) (start left old : Option (List ℕ)) (P : List ℕ → List ℕ → Type 0)
    → WhereTold start left P → Audits why audited.NoMemory setup start left old old
memory_told why setup start left old P =
    nothing_told audited.NoMemory why setup start left old P (λ octets rest at. refl)

pub fault_told : (why : Bool) (setup : Setup) (start left old : Option (List ℕ)) (texts : List Text)
    → WhereTold start left (λ octets rest. Reached stopped_at.ReadFault octets rest texts)
    → Audits why audited.ReadFault setup start left old old
fault_told why setup start left old texts =
    nothing_told audited.ReadFault why setup start left old
    (λ octets rest. Reached stopped_at.ReadFault octets rest texts)
    (λ octets rest at. (taken_before octets rest texts at, refl))

pub long_told : (why : Bool) (setup : Setup) (start left old : Option (List ℕ)) (texts : List Text)
    → WhereTold start left (λ octets rest. Reached stopped_at.LineLong octets rest texts)
    → Audits why audited.LineLong setup start left old old
long_told why setup start left old texts =
    nothing_told audited.LineLong why setup start left old
    (λ octets rest. Reached stopped_at.LineLong octets rest texts) (λ octets rest at. (at.0, refl))

pub big_told : (why : Bool) (setup : Setup) (start left old : Option (List ℕ)) (texts : List Text)
    → WhereTold start left (λ octets rest. Reached stopped_at.TooLong octets rest texts)
    → Audits why audited.TooLong setup start left old old
big_told why setup start left old texts =
    nothing_told audited.TooLong why setup start left old
    (λ octets rest. Reached stopped_at.TooLong octets rest texts) (λ octets rest at. (at.0, refl))
