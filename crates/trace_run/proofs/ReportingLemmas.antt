-- A report is told epoch by epoch, and ends or is cut.
use Rattle.std.proofs.Common.{◌≡◌, ℕ, ◌+◌, ◌<◌, ◌^◌, Bool, true, false, if◌then◌else◌, List, [], ◌∷◌, ◌++◌, Option, Result, Ok, Err, OnOk, OnErr, length, sym, ap, subst, ◌∙◌, arith, append_assoc, length-append}
use Rattle.std.specs.Io.KnownBytes.{Appends}
use Rattle.std.proofs.KnownBytes.{Appends-trans}
use Rattle.pc_outside.specs.Prefixes.{AppendsPrefix}
use Rattle.trace_lines.specs.Epochs.{ends_epoch, octets_in}
use Rattle.trace_lines.specs.Input.{Input}
use Rattle.trace_lines.specs.Line.{Line}
use Rattle.lawful_run.specs.Report.{Report}
use Rattle.lawful_run.proofs.CutLines.{cut_open, cut_whole, short_open}
use Rattle.trace_run.specs.declared.ending.Ending.{Ending}
use Rattle.trace_run.specs.declared.ending.Ending.TheVariants.{ReadFault}
use Rattle.pc_outside.specs.declared.writing.Unwritten.{Unwritten}
use Rattle.pc_outside.specs.declared.writing.Unwritten.TheVariants as unwritten
use Rattle.trace_run.specs.declared.epoch.Size.{Size}
use Rattle.trace_run.specs.declared.status.Status.TheVariants as status
use Rattle.trace_run.specs.Cut.{Counts}
use Rattle.trace_run.specs.Beginnings.{Beginning}
use Rattle.trace_run.specs.Lines.{BeginsFrom, ReachedFrom}
use Rattle.trace_run.specs.Report.{RunsFrom}
use Rattle.trace_run.specs.Reporting.{AnsweredFrom, BreaksOff, HasWritten, IsDueFrom, SaysEpochs, StandingFrom}
use Rattle.trace_run.specs.Status.{status_at, status_without}
use Rattle.trace_run.specs.Takers.{IsNextFrom, LinesCutFrom}
use Rattle.pc_outside.specs.WhereTold.{WhereTold}
use Rattle.trace_run.proofs.EndingLemmas.{begins_of, runs_cut, runs_epochs_cut, runs_unwritten, runs_whole}
use Rattle.pc_outside.proofs.ToldLemmas.{told_map}

-- the next line's number counts the lines of the open epoch
pub counts_next : (number : ℕ) (size : Size) (done open_ : List Line) (latest : ℕ) (line : Line) → Counts size (length done + number) open_
    → IsNextFrom number done latest line → Counts size line.number open_
counts_next number size done open_ latest line sized next =
    record { lines = sized.lines ∙ sym next.numbered; octets = sized.octets }

pub sized_so : (number : ℕ) (may_have : Input → Report → Type 0) (places : Bool)
    (represents : List (List Line) → List Line → List ℕ → List ℕ → Type 0) (size : Size) (waiting : List ℕ)
    (done : List Line) (sent : List ℕ) (latest : ℕ) (line : Line)
    → StandingFrom number may_have places represents size waiting done sent → IsNextFrom number done latest line
    → (before : List Line) × Counts size line.number before × (line.number < 2 ^ 60) × (octets_in before < 2 ^ 60)
sized_so number may_have places represents size waiting done sent latest line standing next = (
  standing.open_,
  counts_next number size done standing.open_ latest line standing.sized next,
  omega (arith, next.numbered, next.few, standing.low),
  omega (arith, short_open standing.open_ standing.cut.unfinished),
)

-- the epoch is open still behind a line
pub stays_open : (number : ℕ) (may_have : Input → Report → Type 0) (places : Bool)
    (before behind : List (List Line) → List Line → List ℕ → List ℕ → Type 0) (size later : Size)
    (waiting text : List ℕ) (done : List Line) (sent : List ℕ) (latest : ℕ) (line : Line)
    → (standing : StandingFrom number may_have places before size waiting done sent) → IsNextFrom number done latest line
    → ends_epoch standing.open_ line ≡ false
    → Counts later (line.number + 1) (if ends_epoch standing.open_ line then [] else standing.open_ ++ line ∷ [])
    → behind standing.closed (standing.open_ ++ line ∷ []) sent text
    → StandingFrom number may_have places behind later text (done ++ line ∷ []) sent
stays_open number may_have places before behind size later waiting text done sent latest line standing next stays counts
    stands =
    let numbers : line.number + 1 ≡ length (done ++ line ∷ []) + number =
    omega (arith, next.numbered, length-append done (line ∷ [])) in
    record {
      closed = standing.closed;
      open_ = standing.open_ ++ line ∷ [];
      cut = cut_open done standing.closed standing.open_ line standing.cut stays;
      stands = stands;
      sized = subst (λ n. Counts later n (standing.open_ ++ line ∷ [])) numbers
          (subst (λ test. Counts later (line.number + 1) (if test then [] else standing.open_ ++ line ∷ [])) stays
          counts);
      low = standing.low;
      said = standing.said;
    }

-- or the line ends it
pub ends_open : (number : ℕ) (may_have : Input → Report → Type 0) (places : Bool)
    (before behind : List (List Line) → List Line → List ℕ → List ℕ → Type 0) (size later : Size)
    (waiting text : List ℕ) (done : List Line) (sent : List ℕ) (latest : ℕ) (line : Line)
    → (standing : StandingFrom number may_have places before size waiting done sent) → IsNextFrom number done latest line
    → ends_epoch standing.open_ line ≡ true
    → Counts later (line.number + 1) (if ends_epoch standing.open_ line then [] else standing.open_ ++ line ∷ [])
    → behind (standing.closed ++ (standing.open_ ++ line ∷ []) ∷ []) [] (sent ++ text) []
    → SaysEpochs may_have places (standing.closed ++ (standing.open_ ++ line ∷ []) ∷ []) (sent ++ text)
    → StandingFrom number may_have places behind later [] (done ++ line ∷ []) (sent ++ text)
ends_open number may_have places before behind size later waiting text done sent latest line standing next ends counts stands
    said =
    let numbers : line.number + 1 ≡ length (done ++ line ∷ []) + number =
    omega (arith, next.numbered, length-append done (line ∷ [])) in
    record {
      closed = standing.closed ++ (standing.open_ ++ line ∷ []) ∷ [];
      open_ = [];
      cut = cut_whole done standing.closed standing.open_ line standing.cut ends;
      stands = stands;
      sized = subst (λ n. Counts later n []) numbers
          (subst (λ test. Counts later (line.number + 1) (if test then [] else standing.open_ ++ line ∷ [])) ends
          counts);
      low = standing.low;
      said = said;
    }

-- the epoch is open, or its text waits whole
pub answered_open : (number : ℕ) (ends : Bool) (may_have : Input → Report → Type 0) (places : Bool)
    (represents : List (List Line) → List Line → List ℕ → List ℕ → Type 0) (size : Size) (text : List ℕ)
    (done : List Line) (sent : List ℕ) → ends ≡ false
    → AnsweredFrom number ends may_have places represents size text done sent
    → StandingFrom number may_have places represents size text done sent
answered_open number ends may_have places represents size text done sent is answered =
    subst (λ test. AnsweredFrom number test may_have places represents size text done sent) is answered

pub answered_whole : (number : ℕ) (ends : Bool) (may_have : Input → Report → Type 0) (places : Bool)
    (represents : List (List Line) → List Line → List ℕ → List ℕ → Type 0) (size : Size) (text : List ℕ)
    (done : List Line) (sent : List ℕ) → ends ≡ true
    → AnsweredFrom number ends may_have places represents size text done sent
    → StandingFrom number may_have places represents size [] done (sent ++ text)
answered_whole number ends may_have places represents size text done sent is answered =
    subst (λ test. AnsweredFrom number test may_have places represents size text done sent) is answered

-- it was written, or a prefix of it
pub written_more : (number : ℕ) (result : Result (Unit {0}) Unwritten) (may_have : Input → Report → Type 0) (places : Bool)
    (represents : List (List Line) → List Line → List ℕ → List ℕ → Type 0) (size : Size) (text now : List ℕ)
    (done : List Line) (sent : List ℕ) (old mid new : Option (List ℕ)) → Appends old mid sent
    → StandingFrom number may_have places represents size [] done (sent ++ text) → OnOk result (Appends mid new text)
    → OnOk result (now ≡ []) → OnOk result (HasWritten number may_have places represents size now done old new)
written_more number (Ok x) may_have places represents size text now done sent old mid new written standing more emptied =
    rw emptied (record {
      sent = sent ++ text;
      written = Appends-trans old mid new sent text written more;
      standing = standing;
    })
written_more number (Err why) may_have places represents size text now done sent old mid new written standing more emptied = tt

pub breaks_off : (number : ℕ) (result : Result (Unit {0}) Unwritten) (may_have : Input → Report → Type 0) (places : Bool)
    (represents : List (List Line) → List Line → List ℕ → List ℕ → Type 0) (size : Size) (text : List ℕ)
    (done : List Line) (sent : List ℕ) (old mid new : Option (List ℕ)) → Appends old mid sent
    → StandingFrom number may_have places represents size [] done (sent ++ text) → (result ≡ Err unwritten.WriteFault)
    → OnErr result (AppendsPrefix mid new text) → BreaksOff may_have places done old new
breaks_off number result may_have places represents size text done sent old mid new written standing failed fails =
    let cut : AppendsPrefix mid new text = subst (λ r. OnErr r (AppendsPrefix mid new text)) failed fails in
    record {
      closed = standing.closed;
      open_ = standing.open_;
      cut = standing.cut;
      sent = sent ++ cut.prefix;
      more = cut.rest;
      written = Appends-trans old mid new sent cut.prefix written cut.appended;
      said = subst (SaysEpochs may_have places standing.closed)
          (ap (λ t. sent ++ t) cut.parts ∙ sym (append_assoc sent cut.prefix cut.rest)) standing.said;
    }

-- no memory was left behind the last lines
pub ends_unwritten : (begin : Beginning) (may_have : Input → Report → Type 0) (places : Bool)
    (represents : List (List Line) → List Line → List ℕ → List ℕ → Type 0) (size : Size) (waiting : List ℕ)
    (source_failed : Type 0) (start left old new : Option (List ℕ)) (done : List Line)
    → WhereTold start left (λ octets rest. BeginsFrom begin octets done)
    → HasWritten begin.number may_have places represents size waiting done old new
    → RunsFrom begin may_have places status.NoMemory source_failed start left old new
ends_unwritten begin may_have places represents size waiting source_failed start left old new done begins has =
    runs_unwritten begin may_have places source_failed start left old new done has.standing.closed has.standing.open_ has.sent
    has.standing.cut begins has.standing.said has.written

pub begins_at : (begin : Beginning) (ending : Ending) (start left : Option (List ℕ)) (done : List Line)
    → WhereTold start left (λ octets rest. ReachedFrom begin ending octets rest done)
    → WhereTold start left (λ octets rest. BeginsFrom begin octets done)
begins_at begin ending start left done reached =
    told_map start left (λ octets rest. ReachedFrom begin ending octets rest done) (λ octets rest. BeginsFrom begin octets done)
    (λ octets rest is. begins_of begin ending octets rest done is) reached

-- the report is whole and written, or a prefix of it
pub ends_whole : (begin : Beginning) (may_have : Input → Report → Type 0) (places : Bool) (ending : Ending) (source_failed : Type 0)
    (start left old mid new : Option (List ℕ)) (done : List Line) (sent text : List ℕ)
    → WhereTold start left (λ octets rest. ReachedFrom begin ending octets rest done)
    → IsDueFrom begin.number may_have places ending done (sent ++ text) → Appends old mid sent → Appends mid new text
    → RunsFrom begin may_have places (status_at ending) source_failed start left old new
ends_whole begin may_have places ending source_failed start left old mid new done sent text reached due written more =
    runs_whole begin may_have places ending source_failed start left old new done (sent ++ text) reached due
    (Appends-trans old mid new sent text written more)

pub ends_cut : (begin : Beginning) (may_have : Input → Report → Type 0) (places : Bool) (ending : Ending) (source_failed : Type 0)
    (start left old mid new : Option (List ℕ)) (done : List Line) (sent text : List ℕ)
    → (ending ≡ ReadFault → source_failed)
    → WhereTold start left (λ octets rest. ReachedFrom begin ending octets rest done)
    → IsDueFrom begin.number may_have places ending done (sent ++ text) → Appends old mid sent → AppendsPrefix mid new text
    → RunsFrom begin may_have places status.WriteFault source_failed start left old new
ends_cut begin may_have places ending source_failed start left old mid new done sent text failed reached due written cut =
    runs_cut begin may_have places ending source_failed start left old new done (sent ++ cut.prefix) cut.rest failed reached
    (subst (IsDueFrom begin.number may_have places ending done)
    (ap (λ t. sent ++ t) cut.parts ∙ sym (append_assoc sent cut.prefix cut.rest)) due)
    (Appends-trans old mid new sent cut.prefix written cut.appended)

-- it was cut before
pub cuts_run : (begin : Beginning) {T : Type 0} (may_have : Input → Report → Type 0) (places : Bool)
    (represents : T → List Line → ℕ → List (List Line) → List Line → List ℕ → List ℕ → Type 0) (size : T → Size)
    (waiting : T → List ℕ) (why : Unwritten) (source_failed : Type 0) (start left old new : Option (List ℕ))
    → LinesCutFrom begin (λ taker done latest. HasWritten begin.number may_have places (represents taker done latest) (size taker)
    (waiting taker) done) (BreaksOff may_have places) why start left old new
    → RunsFrom begin may_have places (status_without why) source_failed start left old new
cuts_run begin may_have places represents size waiting unwritten.WriteFault source_failed start left old new cuts =
    runs_epochs_cut begin may_have places source_failed start left old new cuts.done cuts.cut.closed cuts.cut.open_
    cuts.cut.sent cuts.cut.more cuts.cut.cut cuts.reached cuts.cut.said cuts.cut.written
cuts_run begin may_have places represents size waiting unwritten.NoMemory source_failed start left old new cuts =
    ends_unwritten begin may_have places (represents cuts.cut.0 cuts.done cuts.cut.1) (size cuts.cut.0)
    (waiting cuts.cut.0) source_failed start left old new cuts.done cuts.reached cuts.cut.2

-- the same where the number of the first line is told otherwise
pub cuts_run_as : (number : ℕ) (begin : Beginning) {T : Type 0} (may_have : Input → Report → Type 0) (places : Bool)
    (represents : T → List Line → ℕ → List (List Line) → List Line → List ℕ → List ℕ → Type 0) (size : T → Size)
    (waiting : T → List ℕ) (why : Unwritten) (source_failed : Type 0) (start left old new : Option (List ℕ))
    → number ≡ begin.number
    → LinesCutFrom begin (λ taker done latest. HasWritten number may_have places (represents taker done latest) (size taker)
    (waiting taker) done) (BreaksOff may_have places) why start left old new
    → RunsFrom begin may_have places (status_without why) source_failed start left old new
cuts_run_as number begin may_have places represents size waiting why source_failed start left old new is cuts =
    cuts_run begin may_have places represents size waiting why source_failed start left old new
    (subst (λ n. LinesCutFrom begin (λ taker done latest. HasWritten n may_have places (represents taker done latest)
    (size taker) (waiting taker) done) (BreaksOff may_have places) why start left old new) is cuts)
