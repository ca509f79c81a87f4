-- Lines are taken one behind another, until no more come or the run is cut.
use Rattle.std.proofs.Common.{◌≡◌, ℕ, ◌+◌, ◌≤◌, ◌^◌, Bool, List, [], ◌∷◌, ◌++◌, Option, None, Some, length, Result, Ok, Err, IfErr, IsErrAnd, refl, sym, ap, ◌∙◌, subst, arith, length-append}
use Rattle.std.specs.Prelude.{IfOk}
use Rattle.std.specs.Io.KnownBytes.{prepend_known}
use Rattle.pc_outside.specs.Held.{Held}
use Rattle.trace_lines.specs.Input.{Input, input_within}
use Rattle.lawful_run.specs.Report.{Report}
use Rattle.trace_lines.specs.Line.{Line}
use Rattle.trace_run.specs.declared.ending.Ending.{Ending}
use Rattle.trace_run.specs.declared.ending.Ending.TheVariants.{Ended}
use Rattle.pc_outside.specs.declared.writing.Unwritten.{Unwritten}
use Rattle.pc_outside.specs.declared.writing.Unwritten.TheVariants as unwritten
use Rattle.trace_run.specs.Coming.{Next}
use Rattle.trace_run.specs.Coming as next
use Rattle.trace_run.specs.Beginnings.{Beginning, behind, input_from, whole_input}
use Rattle.trace_run.specs.Lines.{BeginsFrom, ReachedFrom}
use Rattle.trace_run.specs.declared.status.Status.{Status}
use Rattle.trace_run.specs.Next.{IsNext, Tells}
use Rattle.trace_run.specs.Report.{RunsFrom}
use Rattle.trace_run.specs.Takers.{IsNextFrom, LinesCutFrom, LinesEndFrom, TakenSoFar}
use Rattle.pc_outside.specs.WhereTold.{WhereTold}
use Rattle.trace_run.proofs.EndingLemmas.{reached_last}
use Rattle.trace_run.proofs.ReadLemmas.{begins_more, begins_so, told_more, told_next, GivesLine}

-- the next line may come
pub is_next : (begin : Beginning) (represents : List Line → ℕ → Option (List ℕ) → Option (List ℕ) → Type 0)
    (start a old new : Option (List ℕ)) (lines least room : ℕ) (done : List Line) (line : Line) (len : ℕ)
    → TakenSoFar begin represents start a old new lines least room done → IsNext line len (lines + 1) least → 2 ≤ room
    → IsNextFrom begin.number done least line
is_next begin represents start a old new lines least room done line len so_far given some = record {
  numbered = omega (arith, given.numbered, so_far.counted);
  late = given.late;
  few = omega (arith, so_far.roomy, some);
}

-- and was taken
pub goes_on : (begin : Beginning) (before behind : List Line → ℕ → Option (List ℕ) → Option (List ℕ) → Type 0)
    (start a b old mid new : Option (List ℕ)) (lines least moment room after : ℕ) (done : List Line)
    (line : Line) (len : ℕ) → TakenSoFar begin before start a old mid lines least room done → moment ≡ line.moment
    → Tells (next.Line line len) (lines + 1) least room after a b → after + 2 ≤ room
    → behind (done ++ line ∷ []) line.moment old new
    → TakenSoFar begin behind start b old new (lines + 1) moment after (done ++ line ∷ [])
goes_on begin before behind start a b old mid new lines least moment room after done line len so_far is tells less stands =
    let more : length (done ++ line ∷ []) ≡ length done + 1 = length-append done (line ∷ []) in
    subst (λ m. TakenSoFar begin behind start b old new (lines + 1) m after (done ++ line ∷ [])) (sym is) (record {
      stands = stands;
      counted = omega (arith, so_far.counted, more);
      roomy = omega (arith, so_far.roomy, less, more);
      read = told_more begin start a b (lines + 1) least room after done line len so_far.read tells;
    })

-- no more lines come
pub ends : (begin : Beginning) (represents : List Line → ℕ → Option (List ℕ) → Option (List ℕ) → Type 0) (ending : Ending)
    (start a left old new : Option (List ℕ)) (lines least room : ℕ) (done : List Line)
    → TakenSoFar begin represents start a old new lines least room done
    → WhereTold start left (λ octets rest. ReachedFrom begin ending octets rest done)
    → LinesEndFrom begin represents ending lines start left old new
ends begin represents ending start a left old new lines least room done so_far reached = record {
  done = done;
  latest = least;
  counted = so_far.counted;
  few = omega (arith, so_far.roomy);
  reached = reached;
  stands = so_far.stands;
}

-- the last one was taken
pub ends_last : (begin : Beginning) (before behind : List Line → ℕ → Option (List ℕ) → Option (List ℕ) → Type 0)
    (start a left old mid new : Option (List ℕ)) (lines least room after : ℕ) (held : List ℕ) (done : List Line)
    (line : Line) (len : ℕ) → TakenSoFar begin before start a old mid lines least room done
    → Tells (next.Last line len) (lines + 1) least room after a (prepend_known held left) → 2 ≤ room
    → behind (done ++ line ∷ []) line.moment old new
    → LinesEndFrom begin behind Ended (lines + 1) start left old new
ends_last begin before behind start a left old mid new lines least room after held done line len so_far tells some stands =
    record {
      done = done ++ line ∷ [];
      latest = line.moment;
      counted = omega (arith, so_far.counted, length-append done (line ∷ []));
      few = omega (arith, so_far.roomy, some, length-append done (line ∷ []));
      reached = reached_last begin start a left (lines + 1) least room after held done line len so_far.read tells;
      stands = stands;
    }

-- memory ran out behind these lines, whatever was next
pub cut_here : (begin : Beginning) {T : Type 0} (represents : T → List Line → ℕ → Option (List ℕ) → Option (List ℕ) → Type 0)
    (breaks : List Line → Option (List ℕ) → Option (List ℕ) → Type 0) (start a left old new : Option (List ℕ))
    (taker : T) (lines least room after : ℕ) (held : List ℕ) (done : List Line) (one : Next)
    → TakenSoFar begin (represents taker) start a old new lines least room done
    → Tells one (lines + 1) least room after a (prepend_known held left)
    → LinesCutFrom begin represents breaks unwritten.NoMemory start left old new
cut_here begin represents breaks start a left old new taker lines least room after held done one so_far tells = record {
  done = done;
  reached = told_next begin start a left held (lines + 1) least room after done one (λ octets rest. BeginsFrom begin octets done)
      (λ octets ahead rest read says. (
        input_within room (lines + 1) least ahead,
        begins_so begin (lines + 1) least room done octets ahead read,
      ))
      so_far.read tells;
  cut = (taker, least, so_far.stands);
}

-- a line couldn't be taken
pub cut_by : (begin : Beginning) {T : Type 0} (represents : T → List Line → ℕ → Option (List ℕ) → Option (List ℕ) → Type 0)
    (breaks : List Line → Option (List ℕ) → Option (List ℕ) → Type 0) (why : Unwritten)
    (start a left old mid new : Option (List ℕ)) (taker : T) (lines least room after : ℕ) (held : List ℕ)
    (done : List Line) (one : Next) (line : Line) → GivesLine one line (lines + 1) least room after
    → TakenSoFar begin (represents taker) start a old mid lines least room done
    → Tells one (lines + 1) least room after a (prepend_known held left)
    → (why ≡ unwritten.WriteFault → breaks (done ++ line ∷ []) old new)
    → (why ≡ unwritten.NoMemory → new ≡ mid) → LinesCutFrom begin represents breaks why start left old new
cut_by begin represents breaks unwritten.NoMemory start a left old mid new taker lines least room after held done one line
    gives so_far tells broken kept =
    rw (kept refl) (cut_here begin represents breaks start a left old mid taker lines least room after held done one so_far
    tells)
cut_by begin represents breaks unwritten.WriteFault start a left old mid new taker lines least room after held done one line
    gives so_far tells broken kept = record {
      done = done ++ line ∷ [];
      reached = told_next begin start a left held (lines + 1) least room after done one
          (λ octets rest. BeginsFrom begin octets (done ++ line ∷ []))
          (λ octets ahead rest read says.
          let more = gives ahead (held ++ rest) says in
          (more.0, begins_more begin (lines + 1) least room done line more.0 octets ahead read more.1)) so_far.read tells;
      cut = broken refl;
    }

-- memory ran out before anything was read
pub cut_first : (begin : Beginning) {T : Type 0} (represents : T → List Line → ℕ → Option (List ℕ) → Option (List ℕ) → Type 0)
    (breaks : List Line → Option (List ℕ) → Option (List ℕ) → Type 0) (start sink : Option (List ℕ)) (taker : T)
    → represents taker [] begin.least sink sink → LinesCutFrom begin represents breaks unwritten.NoMemory start start sink sink
cut_first begin represents breaks start sink taker stands =
    record { done = []; reached = begins start; cut = (taker, begin.least, stands) }
  where
    begins : (from : Option (List ℕ)) → WhereTold from from (λ octets rest. BeginsFrom begin octets [])
    begins None = tt
    begins (Some octets) = (input_from begin octets, refl)

-- what follows from what is known of an error
pub if_err : {T E : Type 0} (P Q : E → Type 0) (r : Result T E) → ((e : E) → P e → Q e) → IsErrAnd r P → IfErr r Q
if_err P Q (Ok x) follows is = tt
if_err P Q (Err e) follows is = follows e is

-- ---- from the first octet of an input

-- a reader that nothing was read into has all of a source ahead
pub fresh_ahead : (buf : Held) (left : Option (List ℕ)) → (buf.buffered ≡ []) × (buf.room ≡ 2 ^ 40)
    → (prepend_known buf.buffered left ≡ left) × (buf.room ≡ 2 ^ 40)
fresh_ahead buf left is =
    (ap (λ (prefix : List ℕ). prepend_known prefix left) is.0 ∙ all_of left, is.1)
  where
    all_of : (left : Option (List ℕ)) → prepend_known [] left ≡ left
    all_of None = refl
    all_of (Some octets) = refl

pub lines_end_here : (represents : List Line → ℕ → Option (List ℕ) → Option (List ℕ) → Type 0)
    (r : Result (Ending × ℕ) Unwritten) (buf : Held) (start left old new : Option (List ℕ))
    → (buf.buffered ≡ []) × (buf.room ≡ 2 ^ 40)
    → IfOk r (λ end. LinesEndFrom (behind buf.room 0 0) represents end.0 end.1 (prepend_known buf.buffered start) left old new)
    → IfOk r (λ end. LinesEndFrom whole_input represents end.0 end.1 start left old new)
lines_end_here represents r buf start left old new is ends =
    let ahead = fresh_ahead buf start is in
    subst (λ a. IfOk r (λ end. LinesEndFrom whole_input represents end.0 end.1 a left old new)) ahead.0
    (subst (λ n. IfOk r (λ end. LinesEndFrom (behind n 0 0) represents end.0 end.1 (prepend_known buf.buffered start) left
    old new)) ahead.1 ends)

pub lines_cut_here : {T : Type 0} (represents : T → List Line → ℕ → Option (List ℕ) → Option (List ℕ) → Type 0)
    (breaks : List Line → Option (List ℕ) → Option (List ℕ) → Type 0) (r : Result (Ending × ℕ) Unwritten) (buf : Held)
    (start left old new : Option (List ℕ)) → (buf.buffered ≡ []) × (buf.room ≡ 2 ^ 40)
    → IfErr r (λ why. LinesCutFrom (behind buf.room 0 0) represents breaks why (prepend_known buf.buffered start) left old new)
    → IfErr r (λ why. LinesCutFrom whole_input represents breaks why start left old new)
lines_cut_here represents breaks r buf start left old new is cuts =
    let ahead = fresh_ahead buf start is in
    subst (λ a. IfErr r (λ why. LinesCutFrom whole_input represents breaks why a left old new)) ahead.0
    (subst (λ n. IfErr r (λ why. LinesCutFrom (behind n 0 0) represents breaks why (prepend_known buf.buffered start) left
    old new)) ahead.1 cuts)

pub runs_here : (may_have : Input → Report → Type 0) (places : Bool) (ending : Status) (failed : Type 0) (buf : Held)
    (start left old new : Option (List ℕ)) → (buf.buffered ≡ []) × (buf.room ≡ 2 ^ 40)
    → RunsFrom (behind buf.room 0 0) may_have places ending failed (prepend_known buf.buffered start) left old new
    → RunsFrom whole_input may_have places ending failed start left old new
runs_here may_have places ending failed buf start left old new is runs =
    let ahead = fresh_ahead buf start is in
    subst (λ a. RunsFrom whole_input may_have places ending failed a left old new) ahead.0
    (subst (λ n. RunsFrom (behind n 0 0) may_have places ending failed (prepend_known buf.buffered start) left old new)
    ahead.1 runs)
