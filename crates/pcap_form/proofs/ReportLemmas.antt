-- What an import wrote, by how it ended.
use Rattle.std.proofs.Common.{◌≡◌, ℕ, List, [], ◌∷◌, ◌++◌, Option, None, Some, refl, sym, ap, ◌∙◌, subst, append_assoc, append-nil}
use Rattle.std.specs.Io.KnownBytes.{Appends}
use Rattle.std.proofs.KnownBytes.{Appends-nil, Appends-trans}
use Rattle.std.proofs.lemmas.Grind.{flat_map-append}
use Rattle.pc_outside.specs.Prefixes.{AppendsPrefix}
use Rattle.pcap_form.specs.Record.{Record}
use Rattle.pcap_form.specs.Capture.{input_capture}
use Rattle.pcap_form.specs.Trace.{Stamped, lines_from, lines_of, moment_of, stamped, stamped_text, text_of, trace_of}
use Rattle.pcap_form.specs.Report.{IsCutText, IsFirstText, Reports, Runs, input_text}
use Rattle.pc_outside.specs.WhereTold.{WhereTold}
use Rattle.pcap_form.specs.Progress.{Begins, CutAt, Cuts, Ends, IsSent, Reached, imported_at, imported_without}
use Rattle.pcap_form.specs.declared.importing.Imported.TheVariants as imported
use Rattle.pcap_form.specs.declared.importing.Stopped.{Stopped}
use Rattle.pcap_form.specs.declared.importing.Stopped.TheVariants as stopped
use Rattle.pc_outside.specs.declared.writing.Unwritten.{Unwritten}
use Rattle.pc_outside.specs.declared.writing.Unwritten.TheVariants as unwritten
use Rattle.pc_outside.proofs.ToldLemmas.{told_map}

-- the lines of first records are the first lines
lines-prefix : (first least : ℕ) (done more : List Record)
    → (rest : List Stamped) × (lines_from first least (done ++ more) ≡ lines_from first least done ++ rest)
lines-prefix first least [] more = (lines_from first least more, refl)
lines-prefix first least (one ∷ done) more =
    let moment = moment_of first least one.time in
    let r = lines-prefix first moment done more in (
      r.0,
      ap (λ ls. stamped moment one.said ++ ls) r.1 ∙ sym
          (append_assoc (stamped moment one.said) (lines_from first moment done) r.0),
    )

trace-prefix : (done more : List Record) → (rest : List ℕ) × (trace_of (done ++ more) ≡ trace_of done ++ rest)
trace-prefix [] more = (trace_of more, refl)
trace-prefix (one ∷ done) more =
    let r = lines-prefix one.time 0 (one ∷ done) more in
    (text_of r.0, ap text_of r.1 ∙ flat_map-append stamped_text (lines_of (one ∷ done)) r.0)

-- the trace of first records is a prefix of the input's
text_begins : (octets : List ℕ) (done : List Record) → Begins octets done
    → (rest : List ℕ) × (input_text octets ≡ trace_of done ++ rest)
text_begins octets done begins =
    let r = trace-prefix done begins.0 in
    (r.0, ap trace_of begins.1 ∙ r.1)

-- a prefix of that trace is one of the input's
cut_text : (octets : List ℕ) (done : List Record) (text more : List ℕ) → Begins octets done
    → trace_of done ≡ text ++ more → IsCutText octets text
cut_text octets done text more begins parts =
    let r = text_begins octets done begins in
    record { more = more ++ r.0; parts = r.1 ∙ ap (λ t. t ++ r.0) parts ∙ append_assoc text more r.0 }

-- however the records ended, the input begins with them
begins_at : (stop : Stopped) (octets left : List ℕ) (done : List Record) → Reached stop octets left done
    → Begins octets done
begins_at stopped.Ended octets left done reached = ([], reached.2 ∙ sym (append-nil done))
begins_at stopped.ReadFault octets left done reached = reached.begins
begins_at stopped.TooLong octets left done reached = ([], reached.1 ∙ sym (append-nil done))
begins_at stopped.BadCapture octets left done reached = ([], reached.1 ∙ sym (append-nil done))

reports_at : (stop : Stopped) (octets left text : List ℕ) (done : List Record) → text ≡ trace_of done
    → Reached stop octets left done
    → Reports (imported_at stop) octets left text
reports_at stopped.Ended octets left text done is reached = (reached.0, reached.1, is ∙ ap trace_of (sym reached.2))
reports_at stopped.ReadFault octets left text done is reached = record {
  taken = reached.taken;
  parts = reached.parts;
  within = reached.within;
  sound = reached.sound;
  trace = is ∙ ap trace_of (sym reached.records);
}
reports_at stopped.TooLong octets left text done is reached = (reached.0, is ∙ ap trace_of (sym reached.1))
reports_at stopped.BadCapture octets left text done is reached = (reached.0, is ∙ ap trace_of (sym reached.1))

-- what waited is written
pub ends_whole : (stop : Stopped) (start left old mid new : Option (List ℕ)) (waiting now : List ℕ)
    → Ends stop start left old mid waiting
    → IsSent mid new waiting now → Runs (imported_at stop) start left old new
ends_whole stop start left old mid new waiting now ends sent = record {
  text = trace_of ends.done;
  written = subst (λ t. Appends old new t) (sym ends.waits) (Appends-trans old mid new
      (trace_of ends.closed) waiting ends.written sent.written);
  report = told_map start left (λ octets rest. Reached stop octets rest ends.done)
      (λ octets rest. Reports (imported_at stop) octets rest (trace_of ends.done))
      (λ octets rest reached. reports_at stop octets rest (trace_of ends.done) ends.done refl reached) ends.reached;
}

-- or a prefix of it
pub ends_cut : (stop : Stopped) (start left old mid new : Option (List ℕ)) (waiting : List ℕ)
    → Ends stop start left old mid waiting
    → AppendsPrefix mid new waiting → Runs imported.WriteFault start left old new
ends_cut stop start left old mid new waiting ends cut = record {
  text = trace_of ends.closed ++ cut.prefix;
  written = Appends-trans old mid new (trace_of ends.closed) cut.prefix ends.written cut.appended;
  report = told_map start left (λ octets rest. Reached stop octets rest ends.done)
      (λ octets rest. IsCutText octets (trace_of ends.closed ++ cut.prefix))
      (λ octets rest reached. cut_text octets ends.done (trace_of ends.closed ++ cut.prefix) cut.rest
      (begins_at stop octets rest ends.done reached)
      (ends.waits ∙ ap (λ t. trace_of ends.closed ++ t) cut.parts
      ∙ sym (append_assoc (trace_of ends.closed) cut.prefix cut.rest))) ends.reached;
}

reports_without : (why : Unwritten) (octets left text : List ℕ) (done : List Record) → Begins octets done
    → CutAt why done text
    → Reports (imported_without why) octets left text
reports_without unwritten.WriteFault octets left text done begins cut = cut_text octets done text cut.0 begins cut.1
reports_without unwritten.NoMemory octets left text done begins cut = record {
  first = cut.0;
  rest = cut.1 ++ begins.0;
  parts = begins.1 ∙ ap (λ rs. rs ++ begins.0) cut.2 ∙ append_assoc cut.0 cut.1 begins.0;
  trace = cut.3;
}

pub cuts_run : (why : Unwritten) (start left old new : Option (List ℕ)) → Cuts why start left old new
    → Runs (imported_without why) start left old new
cuts_run why start left old new cuts = record {
  text = cuts.text;
  written = cuts.written;
  report = told_map start left (λ octets rest. Begins octets cuts.done)
      (λ octets rest. Reports (imported_without why) octets rest cuts.text)
      (λ octets rest begins. reports_without why octets rest cuts.text cuts.done begins cuts.cut) cuts.reached;
}

-- no memory for the first octet
told_first : (start : Option (List ℕ)) → WhereTold start start (λ octets rest. IsFirstText octets [])
told_first None = tt
told_first (Some octets) = record { first = []; rest = (input_capture octets).records; parts = refl; trace = refl }

pub nothing_runs : (start sink : Option (List ℕ)) → Runs imported.NoMemory start start sink sink
nothing_runs start sink = record { text = []; written = Appends-nil sink; report = told_first start }
