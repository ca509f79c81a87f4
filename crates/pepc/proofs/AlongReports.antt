-- What an audit that goes along wrote, by its status.
use Rattle.std.proofs.Common.{◌≡◌, ℕ, inl, inr, Bool, List, [], Option, None, Some, refl, sym, ◌∙◌, subst}
use Rattle.std.proofs.KnownBytes.{Appends-nil}
use Rattle.lawful_run.specs.Setup.{Setup}
use Rattle.audit_core.specs.Along.{Tells, begins, none_behind, pieces_of}
use Rattle.audit_core.specs.declared.auditing.Audited.{Audited}
use Rattle.audit_core.specs.declared.auditing.Audited.TheVariants as audited
use Rattle.audit_core.proofs.AlongOnce.{yes_or_no}
use Rattle.pc_outside.specs.Texts.{Text, big, ended, long, texts_of}
use Rattle.pc_outside.specs.WhereTold.{WhereTold}
use Rattle.pepc.specs.Along.{AreJudged, AuditsAlong}
use Rattle.pepc.specs.Audit.{status_of}
use Rattle.trace_run.specs.declared.status.Status.{Status}
use Rattle.trace_run.specs.declared.status.Status.TheVariants as status

-- memory ran out before anything was read
pub nothing_along : (why : Bool) (setup : Setup) (start sink : Option (List ℕ))
    → AuditsAlong why setup status.NoMemory start start sink sink
nothing_along why setup start sink = record {
  one = audited.NoMemory;
  ends = refl;
  goes = record { text = []; written = Appends-nil sink; report = told start };
}
  where
    told : (start : Option (List ℕ)) → WhereTold start start
        (λ octets rest. Tells audited.NoMemory why setup octets rest [])
    told None = tt
    told (Some octets) = record {
      prefix = [];
      later = pieces_of (texts_of octets).lines;
      known = none_behind;
      parts = refl;
      so = begins;
    }

pub nothing_judged : (setup : Setup) (texts : List Text) → AreJudged setup texts status.NoMemory
nothing_judged setup texts = record {
  judged = inr (inr refl);
  lawful = λ text yes is. cc;
  refuted = λ why text no is. cc;
}

-- Where the input ends with its last line and nothing failed, the status is that of what is found of the pieces, or memory
-- ran out.
pub along_complete : (why : Bool) (setup : Setup) (ending : Status) (source_failed sink_failed : Type 0) (octets : List ℕ)
    (start left old new : Option (List ℕ)) → start ≡ Some octets
    → (texts_of octets).stop ≡ ended → (source_failed → ⊥) → (sink_failed → ⊥)
    → (ending ≡ status.ReadFault → source_failed) → (ending ≡ status.WriteFault → sink_failed)
    → AuditsAlong why setup ending start left old new → AreJudged setup (texts_of octets).lines ending
along_complete why setup ending source_failed sink_failed octets start left old new is stop no_fault no_sink read_fault
    write_fault runs =
    by_left left (subst (λ s. WhereTold s left (λ o l. Tells runs.one why setup o l runs.goes.text)) is
    runs.goes.report)
  where
    texts : List Text
    texts = (texts_of octets).lines

    by_ending : (one : Audited) (l text : List ℕ) → ending ≡ status_of one → Tells one why setup octets l text
        → AreJudged setup texts ending
    by_ending audited.Confirmed l text same tells = record {
      judged = inl same;
      lawful = λ other yes is. let clash : status.Ok ≡ status.Refuted = sym same ∙ is in cc;
      refuted = λ w other no is. yes_or_no w setup texts text other tells.1 no;
    }
    by_ending audited.Refuted l text same tells = record {
      judged = inr (inl same);
      lawful = λ other yes is. yes_or_no why setup texts other text yes tells;
      refuted = λ w other no is. let clash : status.Refuted ≡ status.Ok = sym same ∙ is in cc;
    }
    by_ending audited.ReadFault l text same tells = absurd (no_fault (read_fault same))
    by_ending audited.WriteFault l text same tells = absurd (no_sink (write_fault same))
    by_ending audited.NoMemory l text same tells =
        subst (AreJudged setup texts) (sym same) (nothing_judged setup texts)
    by_ending audited.LineLong l text same tells = let clash : ended ≡ long = sym stop ∙ tells.0 in cc
    by_ending audited.TooLong l text same tells = let clash : ended ≡ big = sym stop ∙ tells.0 in cc

    by_left : (l : Option (List ℕ))
        → WhereTold (Some octets) l (λ o rest. Tells runs.one why setup o rest runs.goes.text)
        → AreJudged setup texts ending
    by_left None told = absurd told
    by_left (Some rest) told = by_ending runs.one rest runs.goes.text runs.ends told
