-- An import goes on, ends, or is cut.
use Rattle.std.proofs.Common.{◌≡◌, ℕ, ◌+◌, ◌≤◌, ◌^◌, inl, inr, List, [], ◌∷◌, ◌++◌, length, drop, take, Option, None, Some, unwrap_or, Result, Ok, Err, IfErr, IsErrAnd, OnOk, refl, sym, ap, ◌∙◌, subst, arith, append_assoc, append-nil}
use Rattle.std.specs.Io.KnownBytes.{Appends, IsAtEnd, prepend_known}
use Rattle.std.proofs.KnownBytes.{Appends-nil, Appends-trans}
use Rattle.std.proofs.lemmas.Grind.{flat_map-append}
use Rattle.pc_outside.specs.Prefixes.{AppendsPrefix}
use Rattle.pcap_form.specs.declared.head.CaptureHead.{CaptureHead}
use Rattle.pcap_form.specs.declared.record.RecordHead.{RecordHead}
use Rattle.pcap_form.specs.Head.{head_of}
use Rattle.pcap_form.specs.Record.{Record, record_in, record_len}
use Rattle.pcap_form.specs.Trace.{Stamped, first_time, lines_from, lines_of, moment_of, stamped, stamped_text, text_of, trace_of}
use Rattle.pcap_form.specs.Ahead.{Ahead, Gains}
use Rattle.pcap_form.specs.Reading.{IsThere}
use Rattle.pc_outside.specs.WhereTold.{WhereTold}
use Rattle.pcap_form.specs.Progress.{Begins, Cuts, Ends, HasRead, IsSent, Progress, Reached, Takes}
use Rattle.pcap_form.specs.declared.importing.Stopped.{Stopped}
use Rattle.pc_outside.specs.declared.writing.Unwritten.{Unwritten}
use Rattle.pc_outside.specs.declared.writing.Unwritten.TheVariants as unwritten
use Rattle.pcap_form.proofs.ToldLemmas.{told_gains, told_left, told_passed, told_start}
use Rattle.pcap_form.proofs.ReadLemmas.{read_header, read_more}
use Rattle.pcap_form.proofs.StopLemmas.{begins}

-- texts of lines, one behind another
text-append : (lines more : List Stamped) → text_of (lines ++ more) ≡ text_of lines ++ text_of more
text-append lines more = flat_map-append stamped_text lines more

-- what is told of an error
pub if_err : {T E : Type 0} (P Q : E → Type 0) (r : Result T E) → ((e : E) → P e → Q e) → IsErrAnd r P → IfErr r Q
if_err P Q (Ok x) follows is = tt
if_err P Q (Err e) follows is = follows e is

-- the octets that are held are the first ones
first_held : (start now : Option (List ℕ)) (before behind : Ahead) → before.held ≡ [] → Gains before behind start now
    → WhereTold start (prepend_known behind.held now) (λ octets ahead. octets ≡ ahead)
first_held start now before behind empty gains =
    told_gains start start now before behind (λ octets ahead. octets ≡ ahead) gains
    (subst (λ held. WhereTold start (prepend_known held start) (λ octets ahead. octets ≡ ahead)) (sym empty)
    (told_start start (λ octets ahead. octets ≡ ahead) (λ octets. refl)))

-- what follows of them before the first record
pub headed : (start now : Option (List ℕ)) (before behind : Ahead) (Q : List ℕ → List ℕ → Type 0) → before.held ≡ []
    → Gains before behind start now
    → ((octets rest : List ℕ) → now ≡ Some rest → octets ≡ behind.held ++ rest → Q octets rest)
    → WhereTold start now Q
headed start now before behind Q empty gains follows =
    told_left start now behind.held (λ octets ahead. octets ≡ ahead) Q follows
    (first_held start now before behind empty gains)

-- nothing is read yet behind the header
pub starts : (start now sink : Option (List ℕ)) (before behind after : Ahead) (head : CaptureHead) (waiting : List ℕ)
    → before.held ≡ [] → before.room ≡ 2 ^ 40 → Gains before behind start now → 24 ≤ length behind.held
    → head_of (take 24 behind.held) ≡ Some head → after.held ≡ drop 24 behind.held → after.room + 24 ≡ behind.room
    → waiting ≡ []
    → Progress start (prepend_known after.held now) sink sink head None 0 after.room waiting []
starts start now sink before behind after head waiting empty full gains there is passed room none = record {
  read = subst (λ held. WhereTold start (prepend_known held now)
      (λ octets rest. HasRead octets rest head after.room []))
      (sym passed)
      (told_passed start now behind.held (drop 24 behind.held) (λ octets ahead. octets ≡ ahead)
      (λ octets rest. HasRead octets rest head after.room [])
      (λ octets rest parts. read_header head after.room behind.held octets rest there is
      (omega (arith, room, gains.room, full)) parts)
      (first_held start now before behind empty gains));
  closed = [];
  open_ = [];
  cut = refl;
  written = Appends-nil sink;
  waits = sym none;
  lines = λ behind. refl;
}

-- octets were gained, and no record yet
pub gained : (start left now old new : Option (List ℕ)) (before behind : Ahead) (head : CaptureHead) (first : Option ℕ)
    (least : ℕ) (waiting : List ℕ) (done : List Record) → Gains before behind left now
    → Progress start (prepend_known before.held left) old new head first least before.room waiting done
    → Progress start (prepend_known behind.held now) old new head first least behind.room waiting done
gained start left now old new before behind head first least waiting done gains so_far =
    subst (λ room. Progress start (prepend_known behind.held now) old new head first least room waiting done)
    (sym gains.room)
    (record {
      read = told_gains start left now before behind (λ octets rest. HasRead octets rest head before.room done) gains
          so_far.read;
      closed = so_far.closed;
      open_ = so_far.open_;
      cut = so_far.cut;
      written = so_far.written;
      waits = so_far.waits;
      lines = so_far.lines;
    })

-- nothing is left of a source that is at its end
pub none_left : (left : Option (List ℕ)) (rest : List ℕ) → IsAtEnd left → left ≡ Some rest → rest ≡ []
none_left left rest ends told = subst (λ known. IsAtEnd known) told ends

-- the lines of one record more
lines_more : (first : Option ℕ) (least : ℕ) (done : List Record) (one : Record)
    → ((behind : List Record) → lines_of (done ++ behind) ≡ lines_of done ++ lines_from
    (unwrap_or first (first_time behind)) least behind)
    → (lines_of (done ++ one ∷ []) ≡ lines_of done ++ stamped
    (moment_of (unwrap_or first one.time) least one.time) one.said)
    × ((behind : List Record) → lines_of ((done ++ one ∷ []) ++ behind)
    ≡ lines_of (done ++ one ∷ []) ++ lines_from (unwrap_or first one.time)
    (moment_of (unwrap_or first one.time) least one.time) behind)
lines_more first least done one lines =
    let start = unwrap_or first one.time in
    let moment = moment_of start least one.time in
    let last : lines_of (done ++ one ∷ []) ≡ lines_of done ++ stamped moment one.said =
    lines (one ∷ []) ∙ ap (λ ls. lines_of done ++ ls) (append-nil (stamped moment one.said))
    in (
      last,
      λ behind. ap lines_of (append_assoc done (one ∷ []) behind) ∙ lines (one ∷ behind)
          ∙ sym (append_assoc (lines_of done) (stamped moment one.said) (lines_from start moment behind))
          ∙ ap (λ ls. ls ++ lines_from start moment behind) (sym last),
    )

-- the trace of one record more
trace_more : (done : List Record) (one : Record) (lines : List Stamped) (closed : List Record) (waiting : List ℕ)
    → lines_of (done ++ one ∷ []) ≡ lines_of done ++ lines → trace_of done ≡ trace_of closed ++ waiting
    → trace_of (done ++ one ∷ []) ≡ trace_of closed ++ (waiting ++ text_of lines)
trace_more done one lines closed waiting last waits =
    ap text_of last ∙ text-append (lines_of done) lines ∙ ap (λ t. t ++ text_of lines) waits
    ∙ append_assoc (trace_of closed) waiting (text_of lines)

progress_now : (start ahead old mid new : Option (List ℕ)) (head : CaptureHead) (first least room : ℕ)
    (text now : List ℕ) (done closed open_ : List Record)
    → WhereTold start ahead (λ octets rest. HasRead octets rest head room done)
    → done ≡ closed ++ open_ → Appends old mid (trace_of closed) → trace_of done ≡ trace_of closed ++ text
    → ((behind : List Record) → lines_of (done ++ behind) ≡ lines_of done ++ lines_from first least behind)
    → Takes mid new text now
    → Progress start ahead old new head (Some first) least room now done
progress_now start ahead old mid new head first least room text now done closed open_ read cut written waits lines
    (inl stays) =
    record {
      read = read;
      closed = closed;
      open_ = open_;
      cut = cut;
      written = subst (λ sink. Appends old sink (trace_of closed)) (sym stays.kept) written;
      waits = waits ∙ ap (λ t. trace_of closed ++ t) (sym stays.waits);
      lines = lines;
    }
progress_now start ahead old mid new head first least room text now done closed open_ read cut written waits lines
    (inr sent) =
    record {
      read = read;
      closed = done;
      open_ = [];
      cut = sym (append-nil done);
      written = subst (λ t. Appends old new t) (sym waits) (Appends-trans old mid new
          (trace_of closed) text written sent.written);
      waits = sym (append-nil (trace_of done)) ∙ ap (λ t. trace_of done ++ t) (sym sent.emptied);
      lines = lines;
    }

-- what waited is written with a record's line
pub all_sent : (answer : Result (Unit {0}) Unwritten) (old new : Option (List ℕ)) (text waited now : List ℕ)
    → waited ≡ text → OnOk answer (Appends old new waited) → OnOk answer (now ≡ [])
    → OnOk answer (Takes old new text now)
all_sent (Ok done) old new text waited now is written emptied =
    let sent : IsSent old new text now = record { written = subst (Appends old new) is written; emptied = emptied } in
    inr sent
all_sent (Err why) old new text waited now is written emptied = tt

-- A record was taken: its line waits, or all that waited is written.
pub goes_on : (start left old mid new : Option (List ℕ)) (head : CaptureHead) (first : Option ℕ) (least room after : ℕ)
    (waiting text now : List ℕ)
    (done : List Record) (one : RecordHead) (held : List ℕ)
    → IsThere one head held → after + (record_len + one.captured) ≡ room
    → Progress start (prepend_known held left) old mid head first least room waiting done
    → text ≡ waiting ++ text_of (stamped (moment_of (unwrap_or first one.time) least one.time)
    (record_in head held).said)
    → Takes mid new text now
    → Progress start (prepend_known (drop (record_len + one.captured) held) left) old new head
    (Some (unwrap_or first one.time))
    (moment_of (unwrap_or first one.time) least one.time) after now (done ++ record_in head held ∷ [])
goes_on start left old mid new head first least room after waiting text now done one held there given so_far is takes =
    let it = record_in head held in
    let more = lines_more first least done it so_far.lines in
    let lines = stamped (moment_of (unwrap_or first it.time) least it.time) it.said in
    let trace : trace_of (done ++ it ∷ []) ≡ trace_of so_far.closed ++ (waiting ++ text_of lines) =
    trace_more done it lines so_far.closed waiting more.0 so_far.waits
    in
    let read : WhereTold start (prepend_known (drop (record_len + one.captured) held) left)
    (λ octets rest. HasRead octets rest head after (done ++ it ∷ [])) =
    told_passed start left held (drop (record_len + one.captured) held)
    (λ octets rest. HasRead octets rest head room done)
    (λ octets rest. HasRead octets rest head after (done ++ it ∷ []))
    (λ octets rest was. read_more head room after done one held octets rest there given was) so_far.read
    in
    let text_is : text ≡ waiting ++ text_of lines =
    is ∙ ap (λ t. waiting ++ text_of (stamped (moment_of (unwrap_or first t) least t) it.said)) there.time
    in
    let same_first : Some (unwrap_or first it.time) ≡ Some (unwrap_or first one.time) =
    ap (λ t. Some (unwrap_or first t)) (sym there.time) in
    let result : Progress start (prepend_known (drop (record_len + one.captured) held) left) old new head
    (Some (unwrap_or first it.time))
    (moment_of (unwrap_or first it.time) least it.time) after now (done ++ it ∷ []) =
    progress_now start (prepend_known (drop (record_len + one.captured) held) left) old mid new head
    (unwrap_or first it.time)
    (moment_of (unwrap_or first it.time) least it.time) after text now (done ++ it ∷ []) so_far.closed
    (so_far.open_ ++ it ∷ []) read
    (ap (λ rs. rs ++ it ∷ []) so_far.cut ∙ append_assoc so_far.closed so_far.open_ (it ∷ [])) so_far.written
    (trace ∙ ap (λ t. trace_of so_far.closed ++ t) (sym text_is)) more.1 takes
    in
    subst (λ t. Progress start (prepend_known (drop (record_len + one.captured) held) left) old new head
    (Some (unwrap_or first t))
    (moment_of (unwrap_or first t) least t) after now (done ++ it ∷ [])) (sym there.time) result

-- the same at the names that the code has for it
pub named : (start left old new : Option (List ℕ)) (head : CaptureHead) (first first_is least least_is room : ℕ)
    (held held_is waiting : List ℕ) (done : List Record) → first ≡ first_is → least ≡ least_is → held ≡ held_is
    → Progress start (prepend_known held_is left) old new head (Some first_is) least_is room waiting done
    → Progress start (prepend_known held left) old new head (Some first) least room waiting done
named start left old new head first first_is least least_is room held held_is waiting done one two three so_far =
    subst (λ f. Progress start (prepend_known held left) old new head (Some f) least room waiting done) (sym one)
    (subst (λ l. Progress start (prepend_known held left) old new head (Some first_is) l room waiting done) (sym two)
    (subst (λ h. Progress start (prepend_known h left) old new head (Some first_is) least_is room waiting done)
    (sym three) so_far))

pub text_named : (waiting : List ℕ) (moment moment_is : ℕ) (head : CaptureHead) (held held_is : List ℕ)
    → moment ≡ moment_is → held ≡ held_is
    → waiting ++ text_of (stamped moment (record_in head held).said)
    ≡ waiting ++ text_of (stamped moment_is (record_in head held_is).said)
text_named waiting moment moment_is head held held_is one two =
    ap (λ m. waiting ++ text_of (stamped m (record_in head held).said)) one
    ∙ ap (λ h. waiting ++ text_of (stamped moment_is (record_in head h).said)) two

-- no record more comes
pub ends : (stop : Stopped) (start left old new : Option (List ℕ)) (held : List ℕ) (head : CaptureHead)
    (first : Option ℕ) (least room : ℕ) (waiting : List ℕ) (done : List Record)
    → ((octets rest : List ℕ) → left ≡ Some rest → HasRead octets (held ++ rest) head room done
    → Reached stop octets rest done)
    → Progress start (prepend_known held left) old new head first least room waiting done
    → Ends stop start left old new waiting
ends stop start left old new held head first least room waiting done reached so_far = record {
  done = done;
  closed = so_far.closed;
  open_ = so_far.open_;
  cut = so_far.cut;
  reached = told_left start left held (λ octets rest. HasRead octets rest head room done)
      (λ octets rest. Reached stop octets rest done) reached so_far.read;
  written = so_far.written;
  waits = so_far.waits;
}

-- the same before the first record
pub ends_early : (stop : Stopped) (start left sink : Option (List ℕ)) (waiting : List ℕ) → waiting ≡ []
    → WhereTold start left (λ octets rest. Reached stop octets rest []) → Ends stop start left sink sink waiting
ends_early stop start left sink waiting empty reached = record {
  done = [];
  closed = [];
  open_ = [];
  cut = refl;
  reached = reached;
  written = Appends-nil sink;
  waits = sym empty;
}

-- A record's line couldn't be written, or found no memory.
pub cut_at : (why : Unwritten) (start left old mid new : Option (List ℕ)) (head : CaptureHead) (first : Option ℕ)
    (least room after : ℕ) (waiting text : List ℕ)
    (done : List Record) (one : RecordHead) (held : List ℕ)
    → IsThere one head held → after + (record_len + one.captured) ≡ room
    → Progress start (prepend_known held left) old mid head first least room waiting done
    → text ≡ waiting ++ text_of (stamped (moment_of (unwrap_or first one.time) least one.time)
    (record_in head held).said)
    → (why ≡ unwritten.WriteFault → AppendsPrefix mid new text) → (why ≡ unwritten.NoMemory → new ≡ mid)
    → Cuts why start left old new
cut_at unwritten.NoMemory start left old mid new head first least room after waiting text done one held there given
    so_far is cut kept =
    record {
      done = done;
      reached = told_left start left held (λ octets rest. HasRead octets rest head room done)
          (λ octets rest. Begins octets done)
          (λ octets rest told read. begins head room done octets (held ++ rest) read) so_far.read;
      text = trace_of so_far.closed;
      written = subst (λ sink. Appends old sink (trace_of so_far.closed)) (sym (kept refl)) so_far.written;
      cut = (so_far.closed, so_far.open_, so_far.cut, refl);
    }
cut_at unwritten.WriteFault start left old mid new head first least room after waiting text done one held there given
    so_far is cut kept =
    let it = record_in head held in
    let prefix = cut refl in
    let more = lines_more first least done it so_far.lines in
    let lines = stamped (moment_of (unwrap_or first it.time) least it.time) it.said in
    let trace : trace_of (done ++ it ∷ []) ≡ trace_of so_far.closed ++ (waiting ++ text_of lines) =
    trace_more done it lines so_far.closed waiting more.0 so_far.waits
    in
    let text_is : waiting ++ text_of lines ≡ prefix.prefix ++ prefix.rest =
    sym (is ∙ ap (λ t. waiting ++ text_of (stamped (moment_of (unwrap_or first t) least t) it.said)) there.time)
    ∙ prefix.parts
    in
    record {
      done = done ++ it ∷ [];
      reached = told_left start left held (λ octets rest. HasRead octets rest head room done)
          (λ octets rest. Begins octets (done ++ it ∷ []))
          (λ octets rest told read. begins head after (done ++ it ∷ []) octets
          (drop (record_len + one.captured) held ++ rest)
          (read_more head room after done one held octets rest there given read)) so_far.read;
      text = trace_of so_far.closed ++ prefix.prefix;
      written = Appends-trans old mid new (trace_of so_far.closed) prefix.prefix so_far.written prefix.appended;
      cut = (
        prefix.rest,
        trace ∙ ap (λ t. trace_of so_far.closed ++ t) text_is
            ∙ sym (append_assoc (trace_of so_far.closed) prefix.prefix prefix.rest),
      );
    }
