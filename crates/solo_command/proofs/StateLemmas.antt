-- An input has one state before its trace, or none.
use Rattle.std.proofs.Common.{◌≡◌, ◌≢◌, ℕ, cond, List, [], ◌∷◌, ◌++◌, ◌⊎◌, inl, inr, Option, Some, None, refl, sym, ap, ◌∙◌, subst, append-nil}
use Rattle.std.specs.Option.{is_some}
use Rattle.pc_outside.specs.Faults.{Rises}
use Rattle.pc_outside.specs.Texts.{Text, Texts, big, ended, long, texts_of}
use Rattle.pc_outside.specs.Texts as texts
use Rattle.record_codec.specs.StateLines.{others_in, piece_in}
use Rattle.record_codec.specs.StateLines as state_lines
use Rattle.record_codec.specs.StateReading.{IsBadState, IsBig, IsLong}
use Rattle.record_codec.specs.StateText.{trace_word}
use Rattle.record_codec.specs.StateLaws.{LinesSayOneState}
use Rattle.record_codec.proofs.SavedLemmas.{same_before}
use Rattle.trace_run.specs.declared.status.Status.{Status}
use Rattle.trace_run.specs.declared.status.Status.TheVariants as status
use Rattle.solo_command.specs.Resumes.{HasState, Resumed, StatesAreOne, StatesAreTold, StatesAreToldExactly, StoppedFirst, TellsTaken}

-- the lines of an input begin with those of its state
pub begins_so : (octets : List ℕ) (found : HasState octets)
    → (more : List Text) × ((texts_of octets).lines ≡ found.texts ++ more)
begins_so octets found = elim found.read [
  | inl read ↦ (
    (texts.texts_within found.room found.ahead).lines,
    ap (λ (os : List ℕ). (texts_of os).lines) read.parts ∙ ap (λ (t : Texts). t.lines) (read.says found.ahead),
  )
  | inr all ↦ ([], all.1 ∙ sym (append-nil found.texts))
]

-- a line that is none of a state is so whatever comes behind
others_more : (lines more : List Text) (one : Text) (others : List Text) → others_in lines ≡ one ∷ others
    → others_in (lines ++ more) ≡ one ∷ others ++ more
others_more [] more one others is = absurd cc
others_more (line ∷ lines) more one others is =
    by_piece (piece_in line) (λ e. others_more lines more one others e) is
  where
    by_piece : (o : Option (List ℕ)) → (others_in lines ≡ one ∷ others → others_in (lines ++ more) ≡ one ∷ others ++ more)
        → cond (is_some o) (others_in lines) (line ∷ lines) ≡ one ∷ others
        → cond (is_some o) (others_in (lines ++ more)) (line ∷ lines ++ more) ≡ one ∷ others ++ more
    by_piece None behind e = ap (λ (ls : List Text). ls ++ more) e
    by_piece (Some octets) behind e = behind e

some_other : (octets : List ℕ) → HasState octets → others_in (texts_of octets).lines ≢ []
some_other octets found none =
    let begins = begins_so octets found in
    let other = others_more found.texts begins.0 trace_word [] found.says.trace in
    let nothing : trace_word ∷ begins.0 ≡ [] = sym other ∙ sym (ap others_in begins.1) ∙ none in
    absurd cc

none_bad : (octets : List ℕ) → HasState octets → IsBadState octets → ⊥
none_bad octets found (inl bad) =
    let begins = begins_so octets found in
    let none = bad.3 in
    let same : found.texts ++ begins.0 ≡ bad.0 ++ bad.1.lines =
    sym begins.1 ∙ ap (λ (t : Texts). t.lines) bad.2 in
    let one : found.texts ≡ bad.0 =
    same_before found.texts bad.0 begins.0 bad.1.lines trace_word none.other found.says.trace none.last same in
    none.none found.file (subst (λ (ts : List Text). state_lines.SaysState ts found.file) one found.says)
none_bad octets found (inr over) = some_other octets found over.1

pub none_stopped : (octets : List ℕ) (stop : texts.Stop) → HasState octets
    → ((texts_of octets).stop ≡ stop) × (others_in (texts_of octets).lines ≡ []) → ⊥
none_stopped octets stop found is = some_other octets found is.1

-- where octets are no state, no line is too long before that is known, and the other way round
not_long : (octets : List ℕ) → IsBadState octets → ((texts_of octets).stop ≡ long) ⊎ ((texts_of octets).stop ≡ big)
    → others_in (texts_of octets).lines ≡ [] → ⊥
not_long octets (inl bad) stops each =
    let none = bad.3 in
    let same : (texts_of octets).lines ≡ bad.0 ++ bad.1.lines = ap (λ (t : Texts). t.lines) bad.2 in
    let other = others_more bad.0 bad.1.lines none.other [] none.last in
    let nothing : none.other ∷ bad.1.lines ≡ [] = sym other ∙ sym (ap others_in same) ∙ each in
    absurd cc
not_long octets (inr over) (inl is) each =
    let both : ended ≡ long = sym over.0 ∙ is in absurd cc
not_long octets (inr over) (inr is) each =
    let both : ended ≡ big = sym over.0 ∙ is in absurd cc

not_both : (octets : List ℕ) → IsLong octets → IsBig octets → ⊥
not_both octets one other = let both : long ≡ big = sym one.0 ∙ other.0 in absurd cc

stopped_told : (ending : Status) (octets left text : List ℕ) → StoppedFirst ending octets left → text ≡ []
    → StatesAreTold ending octets left text
stopped_told status.Ok octets left text stopped none = absurd stopped
stopped_told status.Usage octets left text stopped none = absurd stopped
stopped_told status.ReadFault octets left text stopped none = record {
  bad = λ is. absurd cc;
  bad_is_told = λ bad. inr (inl refl);
  long_is_told = λ is. inr (inl refl);
  big_is_told = λ is. inr (inl refl);
  fault = λ is. inl (stopped, none);
}
stopped_told status.WriteFault octets left text stopped none = absurd stopped
stopped_told status.NoMemory octets left text stopped none = record {
  bad = λ is. absurd cc;
  bad_is_told = λ bad. inr (inr refl);
  long_is_told = λ is. inr (inr refl);
  big_is_told = λ is. inr (inr refl);
  fault = λ is. absurd cc;
}
stopped_told status.BadLine octets left text stopped none = absurd stopped
stopped_told status.LineLong octets left text stopped none = record {
  bad = λ is. absurd cc;
  bad_is_told = λ bad. absurd (not_long octets bad (inl stopped.0) stopped.1);
  long_is_told = λ is. inl refl;
  big_is_told = λ is. absurd (not_both octets stopped is);
  fault = λ is. absurd cc;
}
stopped_told status.TooLong octets left text stopped none = record {
  bad = λ is. absurd cc;
  bad_is_told = λ bad. absurd (not_long octets bad (inr stopped.0) stopped.1);
  long_is_told = λ is. absurd (not_both octets is stopped);
  big_is_told = λ is. inl refl;
  fault = λ is. absurd cc;
}
stopped_told status.Refuted octets left text stopped none = absurd stopped
stopped_told status.BadCapture octets left text stopped none = absurd stopped
stopped_told status.BadState octets left text stopped none = record {
  bad = λ is. (stopped, none);
  bad_is_told = λ bad. inl refl;
  long_is_told = λ is. absurd (not_long octets stopped (inl is.0) is.1);
  big_is_told = λ is. absurd (not_long octets stopped (inr is.0) is.1);
  fault = λ is. absurd cc;
}
stopped_told status.BadReport octets left text stopped none = absurd stopped

-- a report behind a state never has the status of a bad one
found_told : (ending : Status) (source_failed : Type 0) (octets left text : List ℕ)
    → Resumed ending source_failed octets left text → ending ≡ status.BadState → ⊥
found_told ending source_failed octets left text resumed is =
    (subst (λ (e : Status). Resumed e source_failed octets left text) is resumed).report

-- behind a failing read it is that of the whole lines taken
fault_told : (octets left text : List ℕ) (source_failed : Type 0)
    → Resumed status.ReadFault source_failed octets left text → TellsTaken octets left text
fault_told octets left text source_failed resumed = record { state = resumed.state; report = resumed.report }

pub told_exactly : StatesAreToldExactly
told_exactly ending before after octets left text (inl stopped) =
    stopped_told ending octets left text stopped.0 stopped.1
told_exactly ending before after octets left text (inr resumed) = record {
  bad = λ is. absurd (found_told ending (Rises before after) octets left text resumed is);
  bad_is_told = λ bad. absurd (none_bad octets resumed.state bad);
  long_is_told = λ is. absurd (none_stopped octets long resumed.state is);
  big_is_told = λ is. absurd (none_stopped octets big resumed.state is);
  fault = λ is. inr (fault_told octets left text (Rises before after)
      (subst (λ (e : Status). Resumed e (Rises before after) octets left text) is resumed));
}

pub one_state : LinesSayOneState → StatesAreOne
one_state one octets first second =
    let begins = begins_so octets first in
    let begins_too = begins_so octets second in
    one first.texts second.texts begins.0 begins_too.0 first.file second.file (sym begins.1 ∙ begins_too.1)
    first.says second.says
