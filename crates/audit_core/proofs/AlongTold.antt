-- How an audit that goes along goes on, or ends.
use Rattle.std.proofs.Common.{◌≡◌, ◌≢◌, ℕ, ◌+◌, ◌*◌, ◌-◌, ◌^◌, ◌<◌, if◌then◌else◌, ◌≤◌, ◌⊎◌, true, false, Bool, IsTrue, IfNone, IfOk, IfSome, OnErr, OnOk, Result, Ok, Err, Option, None, Some, List, [], ◌∷◌, ◌++◌, bytes_eq, length, refl, sym, ap, subst, ◌∙◌, inl, inr, arith, append_assoc, append-nil}
use Rattle.std.specs.Io.KnownBytes.{Appends, prepend_known}
use Rattle.std.proofs.KnownBytes.{Appends-nil}
use Rattle.pc_outside.specs.Faults.{Rises}
use Rattle.pc_outside.specs.Prefixes.{AppendsPrefix}
use Rattle.pc_outside.specs.InputRead.{HasRead, Reached}
use Rattle.pc_outside.specs.Texts.{Text, Texts, after_lines, texts_of, texts_within}
use Rattle.pc_outside.specs.WhereTold.{WhereTold}
use Rattle.pc_outside.specs.declared.input_stop.InputStop.TheVariants as stopped
use Rattle.pc_outside.specs.declared.writing.WriteFault.{WriteFault}
use Rattle.pc_outside.proofs.KnownOctets.{appends_both}
use Rattle.pc_outside.proofs.ToldLemmas.{told_map}
use Rattle.lawful_run.specs.Setup.{Setup}
use Rattle.audit_core.specs.Along.{GoesAlong, SaysAny, SaysLawful, SaysNo, SaysSome, SaysYes, Tells, turn}
use Rattle.audit_core.specs.Along as along
use Rattle.audit_core.specs.Following.{EndsSaying, EndsSo, Follows, GoesOnSo, StopsSo, TellsEnd, ends_as, goes_as, weight_of}
use Rattle.audit_core.specs.Setups.{setup_of}
use Rattle.audit_core.specs.declared.auditing.Audited.{Audited}
use Rattle.audit_core.specs.declared.auditing.Audited.TheVariants as audited
use Rattle.audit_core.specs.declared.pieces.Pieces.{Pieces}
use Rattle.audit_core.proofs.AlongSteps.{any_last, any_next, follows_line, follows_next, lawful_said, no_last, no_next, some_here, some_said, yes_last}

pub none_of : {X : Type 0} (P : Type 0) (found : Option X) → found ≡ None → IfNone found P → P
none_of P found is holds = subst (λ f. IfNone f P) is holds

pub some_of : {X : Type 0} (P : X → Type 0) (found : Option X) (x : X) → found ≡ Some x → IfSome found P → P x
some_of P found x is holds = subst (λ f. IfSome f P) is holds

module _ (setup : Setup) (old new : Pieces) (texts : List Text) (said : List ℕ) (follows : Follows setup old texts said)
    (why : Bool) (text : List ℕ) (before now : Option (List ℕ)) where
  -- `TRACE` behind a piece
  module _ (same : new.setup ≡ old.setup) where
    pub goes_so : (lawful : Bool) (written : Result Unit WriteFault)
        → TellsEnd false why (setup_of old.setup) follows.known follows.piece lawful text new
        → OnOk written (Appends before now text)
        → IfNone (goes_as lawful written) (GoesOnSo setup new (texts ++ turn ∷ []) said before now)
    goes_so lawful (Err fault) told whole = tt
    goes_so true (Ok done) told whole = record {
      more = text;
      written = whole;
      follows = follows_next setup old new texts said follows why true text told same refl;
    }
    goes_so false (Ok done) told whole = tt

    pub stops_so : (lawful : Bool) (written : Result Unit WriteFault)
        → TellsEnd false why (setup_of old.setup) follows.known follows.piece lawful text new
        → OnOk written (Appends before now text) → OnErr written (AppendsPrefix before now text)
        → IfSome (goes_as lawful written) (λ ending.
        StopsSo ending why setup (texts ++ turn ∷ []) said before now)
    stops_so lawful (Err fault) told whole cut = record {
      unread = λ is. cc;
      more = cut.prefix;
      written = cut.appended;
      ends = λ later. (
        cut.rest,
        subst (SaysAny why setup ((texts ++ turn ∷ []) ++ later))
            (ap (λ t. said ++ t) cut.parts ∙ sym (append_assoc said cut.prefix cut.rest))
            (any_next setup old new texts said follows why lawful text told same later),
      );
    }
    stops_so true (Ok done) told whole cut = tt
    stops_so false (Ok done) told whole cut = record {
      unread = λ is. cc;
      more = text;
      written = whole;
      ends = λ later. no_next setup old new texts said follows why false text told same refl later;
    }

  -- no more lines come
  pub ends_so : (lawful : Bool) (written : Result Unit WriteFault)
      → TellsEnd true why (setup_of old.setup) follows.known follows.piece lawful text new
      → OnOk written (Appends before now text) → OnErr written (AppendsPrefix before now text)
      → EndsSo (ends_as lawful written) why setup texts said before now
  ends_so lawful (Err fault) told whole cut = record {
    more = cut.prefix;
    written = cut.appended;
    ends = (
      cut.rest,
      subst (SaysAny why setup texts)
          (ap (λ t. said ++ t) cut.parts ∙ sym (append_assoc said cut.prefix cut.rest))
          (any_last setup old new texts said follows why lawful text told),
    );
  }
  ends_so true (Ok done) told whole cut = record {
    more = text;
    written = whole;
    ends = yes_last setup old new texts said follows why true text told refl;
  }
  ends_so false (Ok done) told whole cut = record {
    more = text;
    written = whole;
    ends = no_last setup old new texts said follows why false text told refl;
  }

-- memory ran out
module _ (setup : Setup) (own : Pieces) (texts : List Text) (said : List ℕ) (follows : Follows setup own texts said)
    (why : Bool) (sink : Option (List ℕ)) where
  pub memory_stops : (text : Text) → StopsSo audited.NoMemory why setup (texts ++ text ∷ []) said sink sink
  memory_stops text = record {
    unread = λ is. cc;
    more = [];
    written = Appends-nil sink;
    ends = λ later. subst (λ t. SaysSome setup ((texts ++ text ∷ []) ++ later) t) (sym (append-nil said))
        (subst (λ t. SaysSome setup t said) (sym (append_assoc texts (text ∷ []) later))
        (some_said setup own texts said follows (text ∷ later)));
  }

  pub memory_ends : EndsSo audited.NoMemory why setup texts said sink sink
  memory_ends = record {
    more = [];
    written = Appends-nil sink;
    ends = subst (SaysSome setup texts) (sym (append-nil said)) (some_here setup own texts said follows);
  }

-- where the sink failed
pub goes_failed : (lawful : Bool) (written : Result Unit WriteFault) (P : Type 0) → OnErr written P
    → goes_as lawful written ≡ Some audited.WriteFault → P
goes_failed true (Ok done) P failed is = absurd (cc)
goes_failed false (Ok done) P failed is = absurd (cc)
goes_failed lawful (Err fault) P failed is = failed

pub ends_failed : (lawful : Bool) (written : Result Unit WriteFault) (P : Type 0) → OnErr written P
    → ends_as lawful written ≡ audited.WriteFault → P
ends_failed true (Ok done) P failed is = absurd (cc)
ends_failed false (Ok done) P failed is = absurd (cc)
ends_failed lawful (Err fault) P failed is = failed

pub goes_unread : (lawful : Bool) (written : Result Unit WriteFault)
    → goes_as lawful written ≡ Some audited.ReadFault → ⊥
goes_unread true (Ok done) is = cc
goes_unread false (Ok done) is = cc
goes_unread lawful (Err fault) is = cc

pub ends_unread : (lawful : Bool) (written : Result Unit WriteFault) → ends_as lawful written ≡ audited.ReadFault → ⊥
ends_unread true (Ok done) is = cc
ends_unread false (Ok done) is = cc
ends_unread lawful (Err fault) is = cc

-- a lawful piece is let go, and goes on
pub goes_lawful : (lawful : Bool) (written : Result Unit WriteFault) (P : Type 0) → (IsTrue lawful → P)
    → IfNone (goes_as lawful written) P
goes_lawful lawful (Err fault) P holds = tt
goes_lawful true (Ok done) P holds = holds refl
goes_lawful false (Ok done) P holds = tt

-- what is said where nothing ends, said of less
pub none_more : {X P Q : Type 0} (found : Option X) → (P → Q) → IfNone found P → IfNone found Q
none_more None more holds = more holds
none_more (Some x) more holds = tt

-- a count of faults that rose later
pub rises_from : (before mid now : ℕ) → before ≤ mid → Rises mid now → Rises before now
rises_from before mid now low (inl more) = inl (omega (arith, low, more))
rises_from before mid now low (inr full) = inr full

-- what a source told, where more lines may come
pub read_later : (start left : Option (List ℕ)) (prefix : List ℕ) (room : ℕ) (done : List Text)
    → WhereTold start left (λ octets rest. Unit {0})
    → WhereTold start (prepend_known prefix left) (λ octets rest. HasRead octets rest room done)
    → WhereTold start left (λ octets rest. (later : List Text) × ((texts_of octets).lines ≡ done ++ later))
read_later None left prefix room done told read = tt
read_later (Some octets) None prefix room done told read = absurd told
read_later (Some octets) (Some rest) prefix room done told read = (
  (texts_within room (prefix ++ rest)).lines,
  ap (λ o. (texts_of o).lines) read.parts ∙ ap (λ (t : Texts). t.lines) (read.says (prefix ++ rest)),
)

pub ended_later : (start left : Option (List ℕ)) (done : List Text)
    → WhereTold start left (λ octets rest. Reached stopped.Ended octets rest done)
    → WhereTold start left (λ octets rest. (later : List Text) × ((texts_of octets).lines ≡ done ++ later))
ended_later start left done told =
    told_map start left (λ octets rest. Reached stopped.Ended octets rest done)
    (λ octets rest. (later : List Text) × ((texts_of octets).lines ≡ done ++ later))
    (λ octets rest is. ([], is.1 ∙ sym (append-nil done))) told

-- all that was said, by how it ends
stop_tells : (ending : Audited) (why : Bool) (setup : Setup) (octets rest : List ℕ) (texts lines : List Text)
    (text : List ℕ) → ending ≢ audited.Confirmed → EndsSaying ending why setup lines text
    → (texts_of octets).lines ≡ lines → Tells ending why setup octets rest text
stop_tells audited.Confirmed why setup octets rest texts lines text unread ends is = absurd (unread refl)
stop_tells audited.Refuted why setup octets rest texts lines text unread ends is =
    subst (λ l. SaysNo why setup l text) (sym is) ends
stop_tells audited.ReadFault why setup octets rest texts lines text unread ends is = absurd ends
stop_tells audited.WriteFault why setup octets rest texts lines text unread ends is =
    (ends.0, subst (λ l. SaysAny why setup l (text ++ ends.0)) (sym is) ends.1)
stop_tells audited.NoMemory why setup octets rest texts lines text unread ends is =
    subst (λ l. SaysSome setup l text) (sym is) ends
stop_tells audited.LineLong why setup octets rest texts lines text unread ends is = absurd ends
stop_tells audited.TooLong why setup octets rest texts lines text unread ends is = absurd ends

end_tells : (ending : Audited) (why : Bool) (setup : Setup) (octets rest : List ℕ) (texts : List Text)
    (text : List ℕ) → EndsSaying ending why setup texts text → Reached stopped.Ended octets rest texts
    → Tells ending why setup octets rest text
end_tells audited.Confirmed why setup octets rest texts text ends is =
    (is.0, subst (λ l. SaysYes setup l text) (sym is.1) ends)
end_tells audited.Refuted why setup octets rest texts text ends is =
    subst (λ l. SaysNo why setup l text) (sym is.1) ends
end_tells audited.ReadFault why setup octets rest texts text ends is = absurd ends
end_tells audited.WriteFault why setup octets rest texts text ends is =
    (ends.0, subst (λ l. SaysAny why setup l (text ++ ends.0)) (sym is.1) ends.1)
end_tells audited.NoMemory why setup octets rest texts text ends is =
    subst (λ l. SaysSome setup l text) (sym is.1) ends
end_tells audited.LineLong why setup octets rest texts text ends is = absurd ends
end_tells audited.TooLong why setup octets rest texts text ends is = absurd ends

module _ (why : Bool) (setup : Setup) (start left old mid new : Option (List ℕ)) (texts : List Text) (said : List ℕ)
    (before : Appends old mid said) where
  pub stops_along : (ending : Audited) → StopsSo ending why setup texts said mid new
      → WhereTold start left (λ octets rest. (later : List Text) × ((texts_of octets).lines ≡ texts ++ later))
      → GoesAlong why ending setup start left old new
  stops_along ending stops told = record {
    text = said ++ stops.more;
    written = appends_both old mid new said stops.more before stops.written;
    report = told_map start left
        (λ octets rest. (later : List Text) × ((texts_of octets).lines ≡ texts ++ later))
        (λ octets rest. Tells ending why setup octets rest (said ++ stops.more))
        (λ octets rest is. stop_tells ending why setup octets rest texts (texts ++ is.0) (said ++ stops.more)
        stops.unread (stops.ends is.0) is.1) told;
  }

  pub ends_along : (ending : Audited) → EndsSo ending why setup texts said mid new
      → WhereTold start left (λ octets rest. Reached stopped.Ended octets rest texts)
      → GoesAlong why ending setup start left old new
  ends_along ending ends told = record {
    text = said ++ ends.more;
    written = appends_both old mid new said ends.more before ends.written;
    report = told_map start left (λ octets rest. Reached stopped.Ended octets rest texts)
        (λ octets rest. Tells ending why setup octets rest (said ++ ends.more))
        (λ octets rest is. end_tells ending why setup octets rest texts (said ++ ends.more) ends.ends is) told;
  }

module _ (why : Bool) (setup : Setup) (start left old now : Option (List ℕ)) (texts : List Text) (said : List ℕ)
    (before : Appends old now said) (lawful : SaysLawful setup texts said) where
  pub long_along : WhereTold start left (λ octets rest. Reached stopped.LineLong octets rest texts)
      → GoesAlong why audited.LineLong setup start left old now
  long_along told = record {
    text = said;
    written = before;
    report = told_map start left (λ octets rest. Reached stopped.LineLong octets rest texts)
        (λ octets rest. Tells audited.LineLong why setup octets rest said)
        (λ octets rest is. (is.0, subst (λ l. SaysLawful setup l said) (sym is.1) lawful)) told;
  }

  pub big_along : WhereTold start left (λ octets rest. Reached stopped.TooLong octets rest texts)
      → GoesAlong why audited.TooLong setup start left old now
  big_along told = record {
    text = said;
    written = before;
    report = told_map start left (λ octets rest. Reached stopped.TooLong octets rest texts)
        (λ octets rest. Tells audited.TooLong why setup octets rest said)
        (λ octets rest is. (is.0, subst (λ l. SaysLawful setup l said) (sym is.1) lawful)) told;
  }

  pub fault_along : WhereTold start left (λ octets rest. Reached stopped.ReadFault octets rest texts)
      → GoesAlong why audited.ReadFault setup start left old now
  fault_along told = record {
    text = said;
    written = before;
    report = told_map start left (λ octets rest. Reached stopped.ReadFault octets rest texts)
        (λ octets rest. Tells audited.ReadFault why setup octets rest said)
        (λ octets rest is. (texts, is, lawful)) told;
  }

-- nothing was read yet
pub none_along : (why : Bool) (setup : Setup) (start sink : Option (List ℕ))
    → GoesAlong why audited.NoMemory setup start start sink sink
none_along why setup start sink = record {
  text = [];
  written = Appends-nil sink;
  report = told start;
}
  where
    told : (start : Option (List ℕ))
        → WhereTold start start (λ octets rest. Tells audited.NoMemory why setup octets rest [])
    told None = tt
    told (Some octets) = record {
      prefix = [];
      later = along.pieces_of (texts_of octets).lines;
      known = along.none_behind;
      parts = refl;
      so = along.begins;
    }

pub few_by : (n held : ℕ) (stopped_ : Bool) → 2 * (n + held) - (if stopped_ then 1 else 0) < 2 ^ 40 + 1
    → n + held + 1 < 2 ^ 40
few_by n held true low = omega (arith, low)
few_by n held false low = omega (arith, low)

pub few_lines : (own : Pieces) → weight_of own < 2 ^ 40 + 1 → own.lines + length own.kept.items + 1 < 2 ^ 40
few_lines own low = few_by own.lines (length own.kept.items) own.stopped low
