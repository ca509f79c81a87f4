-- How the lines of an input end, and what a run that ends, or is cut, wrote.
use Rattle.std.proofs.Common.{◌≡◌, ℕ, ◌+◌, Bool, List, [], ◌∷◌, ◌++◌, length, Option, None, Some, inl, inr, refl, sym, ap, subst, ◌∙◌, append_assoc, append-nil, arith}
use Rattle.std.specs.Io.KnownBytes.{Appends, prepend_known}
use Rattle.std.proofs.KnownBytes.{Appends-nil}
use Rattle.pc_outside.specs.Held.{Held, IsUnfinished}
use Rattle.trace_lines.specs.Epochs.{epochs_behind, epochs_of}
use Rattle.trace_lines.specs.Input.{Input, Stop, bad, long, big, ended, stopped, after_lines}
use Rattle.trace_lines.specs.Line.{Line}
use Rattle.trace_lines.specs.declared.bad.LineBad.{LineBad}
use Rattle.lawful_run.specs.Cut.{IsCut, lines_in}
use Rattle.lawful_run.specs.Report.{Report}
use Rattle.lawful_run.proofs.CutLines.{cut_closed, cut_nothing}
use Rattle.trace_run.specs.declared.ending.Ending.{Ending}
use Rattle.trace_run.specs.declared.ending.Ending.TheVariants.{Ended, ReadFault, BadLine, LineLong, TooLong}
use Rattle.trace_run.specs.Coming as next
use Rattle.trace_run.specs.declared.status.Status.{Status}
use Rattle.trace_run.specs.declared.status.Status.TheVariants as status
use Rattle.trace_run.specs.Beginnings.{Beginning, input_from}
use Rattle.trace_run.specs.Lines.{BeginsFrom, FailsFrom, HasRead, ReachedFrom, StopsFrom}
use Rattle.trace_run.specs.Next.{Tells}
use Rattle.trace_run.specs.Report.{IsBad, IsCutText, IsDone, IsEpochsText, IsFaultText, IsLong, IsText, ReportsFrom, RunsFrom, input_with}
use Rattle.trace_run.specs.Reporting.{IsDueFrom, SaysEpochs}
use Rattle.trace_run.specs.Status.{status_at}
use Rattle.pc_outside.specs.WhereTold.{WhereTold}
use Rattle.trace_run.proofs.ReadLemmas.{begins_more, fails_so, none_left, stops_so, told_next}
use Rattle.pc_outside.proofs.ToldLemmas.{told_map}

-- ---- where the lines end

-- nothing was read yet
pub read_nothing : (begin : Beginning) (start ahead : Option (List ℕ)) (room : ℕ) → ahead ≡ start → room ≡ begin.room
    → WhereTold start ahead (λ octets rest. HasRead begin octets rest begin.number begin.least room [])
read_nothing begin start ahead room same full =
    subst (λ a. WhereTold start a (λ octets rest. HasRead begin octets rest begin.number begin.least room [])) (sym same)
    (subst (λ r. WhereTold start start (λ octets rest. HasRead begin octets rest begin.number begin.least r [])) (sym full) (first start))
  where
    first : (start : Option (List ℕ)) → WhereTold start start (λ octets rest. HasRead begin octets rest begin.number begin.least begin.room [])
    first None = tt
    first (Some octets) =
        record { gone = []; parts = refl; lines = inl refl; taken = omega arith; says = λ behind. refl }

pub reached_end : (begin : Beginning) (start a left : Option (List ℕ)) (number least room after : ℕ) (held : List ℕ) (done : List Line)
    → WhereTold start a (λ octets rest. HasRead begin octets rest number least room done)
    → Tells next.End number least room after a (prepend_known held left)
    → WhereTold start left (λ octets rest. ReachedFrom begin Ended octets rest done)
reached_end begin start a left number least room after held done read tells =
    told_next begin start a left held number least room after done next.End (λ octets rest. ReachedFrom begin Ended octets rest done)
    (λ octets ahead rest has says. (
      stops_so begin number least room done ended octets ahead has says.0,
      none_left held rest says.1,
    )) read tells

pub reached_long : (begin : Beginning) (start a left : Option (List ℕ)) (number least room after : ℕ) (held : List ℕ) (done : List Line)
    → number ≡ length done + begin.number
    → WhereTold start a (λ octets rest. HasRead begin octets rest number least room done)
    → Tells next.LineLong number least room after a (prepend_known held left)
    → WhereTold start left (λ octets rest. ReachedFrom begin LineLong octets rest done)
reached_long begin start a left number least room after held done counted read tells =
    subst (λ n. WhereTold start left (λ octets rest. StopsFrom begin octets done (long n))) counted
    (told_next begin start a left held number least room after done next.LineLong
    (λ octets rest. StopsFrom begin octets done (long number))
    (λ octets ahead rest has says. stops_so begin number least room done (long number) octets ahead has says) read tells)

pub reached_big : (begin : Beginning) (start a left : Option (List ℕ)) (number least room after : ℕ) (held : List ℕ) (done : List Line)
    → WhereTold start a (λ octets rest. HasRead begin octets rest number least room done)
    → Tells next.TooLong number least room after a (prepend_known held left)
    → WhereTold start left (λ octets rest. ReachedFrom begin TooLong octets rest done)
reached_big begin start a left number least room after held done read tells =
    told_next begin start a left held number least room after done next.TooLong (λ octets rest. StopsFrom begin octets done big)
    (λ octets ahead rest has says. stops_so begin number least room done big octets ahead has says) read tells

pub reached_fault : (begin : Beginning) (start a left : Option (List ℕ)) (number least room : ℕ) (now : Held) (done : List Line)
    → WhereTold start a (λ octets rest. HasRead begin octets rest number least room done)
    → Tells next.ReadFault number least room now.room a (prepend_known now.buffered left) → IsUnfinished now
    → WhereTold start left (λ octets rest. ReachedFrom begin ReadFault octets rest done)
reached_fault begin start a left number least room now done read tells unfinished =
    told_next begin start a left now.buffered number least room now.room done next.ReadFault
    (λ octets rest. FailsFrom begin octets rest done)
    (λ octets ahead rest has says. fails_so begin number least room done now octets ahead rest unfinished has says.0 says.1)
    read tells

pub reached_bad : (begin : Beginning) (start a left : Option (List ℕ)) (number least room after : ℕ) (held : List ℕ) (done : List Line)
    (why : LineBad) → number ≡ length done + begin.number
    → WhereTold start a (λ octets rest. HasRead begin octets rest number least room done)
    → Tells (next.Bad why) number least room after a (prepend_known held left)
    → WhereTold start left (λ octets rest. ReachedFrom begin (BadLine why) octets rest done)
reached_bad begin start a left number least room after held done why counted read tells =
    subst (λ n. WhereTold start left (λ octets rest. StopsFrom begin octets done (bad n why))) counted
    (told_next begin start a left held number least room after done (next.Bad why)
    (λ octets rest. StopsFrom begin octets done (bad number why))
    (λ octets ahead rest has says. stops_so begin number least room done (bad number why) octets ahead has says) read tells)

-- the last line was read
pub reached_last : (begin : Beginning) (start a left : Option (List ℕ)) (number least room after : ℕ) (held : List ℕ) (done : List Line)
    (line : Line) (len : ℕ)
    → WhereTold start a (λ octets rest. HasRead begin octets rest number least room done)
    → Tells (next.Last line len) number least room after a (prepend_known held left)
    → WhereTold start left (λ octets rest. ReachedFrom begin Ended octets rest (done ++ line ∷ []))
reached_last begin start a left number least room after held done line len read tells =
    told_next begin start a left held number least room after done (next.Last line len)
    (λ octets rest. ReachedFrom begin Ended octets rest (done ++ line ∷ []))
    (λ octets ahead rest has says. (
      begins_more begin number least room done line (stopped ended) octets ahead has says.0
          ∙ ap (λ lines. record { lines = lines; stop = ended }) (append-nil (done ++ line ∷ [])),
      none_left held rest says.1,
    )) read tells

-- octets that stop behind lines begin with them
begins_stop : (begin : Beginning) (octets : List ℕ) (done : List Line) (stop : Stop) → StopsFrom begin octets done stop → BeginsFrom begin octets done
begins_stop begin octets done stop stops = (
  stopped stop,
  stops ∙ ap (λ lines. record { lines = lines; stop = stop }) (sym (append-nil done)),
)

pub begins_of : (begin : Beginning) (ending : Ending) (octets left : List ℕ) (done : List Line) → ReachedFrom begin ending octets left done
    → BeginsFrom begin octets done
begins_of begin Ended octets left done reached = begins_stop begin octets done ended reached.0
begins_of begin ReadFault octets left done reached = reached.begins
begins_of begin (BadLine why) octets left done reached = begins_stop begin octets done (bad (length done + begin.number) why) reached
begins_of begin LineLong octets left done reached = begins_stop begin octets done (long (length done + begin.number)) reached
begins_of begin TooLong octets left done reached = begins_stop begin octets done big reached

-- ---- the report of an ending

pub stop_is : (begin : Beginning) (octets : List ℕ) (done : List Line) (stop : Stop) → StopsFrom begin octets done stop
    → (input_from begin octets).stop ≡ stop
stop_is begin octets done stop stops = ap (λ (i : Input). i.stop) stops

-- the whole report, where the octets say these lines and stop so
whole_of : (begin : Beginning) (may_have : Input → Report → Type 0) (places : Bool) (octets : List ℕ) (done : List Line) (stop : Stop)
    (text : List ℕ) → StopsFrom begin octets done stop
    → IsText may_have places (record { lines = done; stop = stop }) text → IsText may_have places (input_from begin octets) text
whole_of begin may_have places octets done stop text stops said =
    subst (λ input. IsText may_have places input text) (sym stops) said

fault_of : (begin : Beginning) (may_have : Input → Report → Type 0) (places : Bool) (octets left text : List ℕ) (done : List Line)
    → FailsFrom begin octets left done → IsText may_have places (input_with done) text → IsFaultText begin may_have places octets left text
fault_of begin may_have places octets left text done reached said = record {
  taken = reached.taken;
  stop = stop_is begin reached.taken.whole done ended reached.stops;
  report = whole_of begin may_have places reached.taken.whole done ended text reached.stops said;
}

reports_ending : (begin : Beginning) (may_have : Input → Report → Type 0) (places : Bool) (ending : Ending) (source_failed : Type 0)
    (octets left text : List ℕ) (done : List Line)
    → ReachedFrom begin ending octets left done → IsDueFrom begin.number may_have places ending done text
    → ReportsFrom begin may_have places (status_at ending) source_failed octets left text
reports_ending begin may_have places Ended source_failed octets left text done reached said =
    (stop_is begin octets done ended reached.0, reached.1, whole_of begin may_have places octets done ended text reached.0 said)
reports_ending begin may_have places ReadFault source_failed octets left text done reached said =
    fault_of begin may_have places octets left text done reached said
reports_ending begin may_have places (BadLine why) source_failed octets left text done reached said = (
  subst IsBad (sym (stop_is begin octets done (bad (length done + begin.number) why) reached)) tt,
  whole_of begin may_have places octets done (bad (length done + begin.number) why) text reached said,
)
reports_ending begin may_have places LineLong source_failed octets left text done reached said = (
  subst IsLong (sym (stop_is begin octets done (long (length done + begin.number)) reached)) tt,
  whole_of begin may_have places octets done (long (length done + begin.number)) text reached said,
)
reports_ending begin may_have places TooLong source_failed octets left text done reached said =
    (stop_is begin octets done big reached, whole_of begin may_have places octets done big text reached said)

-- the report is written
pub runs_whole : (begin : Beginning) (may_have : Input → Report → Type 0) (places : Bool) (ending : Ending) (source_failed : Type 0)
    (start left old new : Option (List ℕ)) (done : List Line) (text : List ℕ)
    → WhereTold start left (λ octets rest. ReachedFrom begin ending octets rest done)
    → IsDueFrom begin.number may_have places ending done text → Appends old new text
    → RunsFrom begin may_have places (status_at ending) source_failed start left old new
runs_whole begin may_have places ending source_failed start left old new done text reached due written = record {
  text = text;
  written = written;
  report = told_map start left (λ octets over. ReachedFrom begin ending octets over done)
      (λ octets over. ReportsFrom begin may_have places (status_at ending) source_failed octets over text)
      (λ octets over is. reports_ending begin may_have places ending source_failed octets over text done is due) reached;
}

-- a prefix of the report of this ending
cut_ending : (begin : Beginning) (may_have : Input → Report → Type 0) (places : Bool) (ending : Ending) (source_failed : Type 0)
    (octets left text more : List ℕ) (done : List Line)
    → (ending ≡ ReadFault → source_failed)
    → ReachedFrom begin ending octets left done → IsDueFrom begin.number may_have places ending done (text ++ more)
    → IsCutText begin may_have places source_failed octets left text
cut_ending begin may_have places Ended source_failed octets left text more done failed reached said =
    record { more = more; whole = inl (whole_of begin may_have places octets done ended (text ++ more) reached.0 said) }
cut_ending begin may_have places ReadFault source_failed octets left text more done failed reached said = record {
  more = more;
  whole = inr (inl (failed refl, fault_of begin may_have places octets left (text ++ more) done reached said));
}
cut_ending begin may_have places (BadLine why) source_failed octets left text more done failed reached said = record {
  more = more;
  whole = inl (whole_of begin may_have places octets done (bad (length done + begin.number) why) (text ++ more) reached said);
}
cut_ending begin may_have places LineLong source_failed octets left text more done failed reached said = record {
  more = more;
  whole = inl (whole_of begin may_have places octets done (long (length done + begin.number)) (text ++ more) reached said);
}
cut_ending begin may_have places TooLong source_failed octets left text more done failed reached said =
    record { more = more; whole = inl (whole_of begin may_have places octets done big (text ++ more) reached said) }

-- the sink failed within it
pub runs_cut : (begin : Beginning) (may_have : Input → Report → Type 0) (places : Bool) (ending : Ending) (source_failed : Type 0)
    (start left old new : Option (List ℕ)) (done : List Line) (text more : List ℕ) → (ending ≡ ReadFault → source_failed)
    → WhereTold start left (λ octets rest. ReachedFrom begin ending octets rest done)
    → IsDueFrom begin.number may_have places ending done (text ++ more) → Appends old new text
    → RunsFrom begin may_have places status.WriteFault source_failed start left old new
runs_cut begin may_have places ending source_failed start left old new done text more failed reached due written = record {
  text = text;
  written = written;
  report = told_map start left (λ octets over. ReachedFrom begin ending octets over done)
      (λ octets over. IsCutText begin may_have places source_failed octets over text)
      (λ octets over is. cut_ending begin may_have places ending source_failed octets over text more done failed is due)
      reached;
}

-- ---- whole epochs alone

-- octets that begin with lines begin with the first of them
pub begins_prefix : (begin : Beginning) (octets : List ℕ) (done prefix back : List Line) → done ≡ prefix ++ back → BeginsFrom begin octets done
    → BeginsFrom begin octets prefix
begins_prefix begin octets done prefix back parts begins = (
  after_lines back begins.0,
  begins.1 ∙ ap (λ lines. after_lines lines begins.0) parts
      ∙ ap (λ lines. record { lines = lines; stop = begins.0.stop }) (append_assoc prefix back begins.0.lines),
)

epochs_of_cut : (begin : Beginning) (may_have : Input → Report → Type 0) (places : Bool) (octets : List ℕ) (closed : List (List Line))
    (text : List ℕ) → IsCut (lines_in closed) closed [] → BeginsFrom begin octets (lines_in closed)
    → SaysEpochs may_have places closed text → IsEpochsText may_have places (input_from begin octets) text
epochs_of_cut begin may_have places octets closed text cut begins said = record {
  first = closed;
  rest = epochs_behind [] begins.0.lines;
  parts = ap (λ (i : Input). epochs_of i.lines) begins.1 ∙ cut.closes begins.0.lines;
  whole = cut.whole;
  report = said.report;
  allowed = said.allowed;
  written = said.written;
}

-- the text of some first whole epochs of lines that octets begin with
pub cut_text : (begin : Beginning) (may_have : Input → Report → Type 0) (places : Bool) (octets : List ℕ) (done : List Line)
    (closed : List (List Line)) (open_ : List Line) (text : List ℕ) → IsCut done closed open_ → BeginsFrom begin octets done
    → SaysEpochs may_have places closed text → IsEpochsText may_have places (input_from begin octets) text
cut_text begin may_have places octets done closed open_ text cut begins said =
    epochs_of_cut begin may_have places octets closed text (cut_closed done closed open_ cut)
    (begins_prefix begin octets done (lines_in closed) open_ cut.parts begins) said

-- no memory is left for what stands behind them
pub runs_unwritten : (begin : Beginning) (may_have : Input → Report → Type 0) (places : Bool) (source_failed : Type 0)
    (start left old new : Option (List ℕ)) (done : List Line) (closed : List (List Line)) (open_ : List Line)
    (text : List ℕ) → IsCut done closed open_ → WhereTold start left (λ octets rest. BeginsFrom begin octets done)
    → SaysEpochs may_have places closed text → Appends old new text
    → RunsFrom begin may_have places status.NoMemory source_failed start left old new
runs_unwritten begin may_have places source_failed start left old new done closed open_ text cut reached said written =
    record {
      text = text;
      written = written;
      report = told_map start left (λ octets over. BeginsFrom begin octets done)
          (λ octets over. IsEpochsText may_have places (input_from begin octets) text)
          (λ octets over begins. cut_text begin may_have places octets done closed open_ text cut begins said) reached;
    }

-- the sink failed within them
pub runs_epochs_cut : (begin : Beginning) (may_have : Input → Report → Type 0) (places : Bool) (source_failed : Type 0)
    (start left old new : Option (List ℕ)) (done : List Line) (closed : List (List Line)) (open_ : List Line)
    (text more : List ℕ) → IsCut done closed open_ → WhereTold start left (λ octets rest. BeginsFrom begin octets done)
    → SaysEpochs may_have places closed (text ++ more) → Appends old new text
    → RunsFrom begin may_have places status.WriteFault source_failed start left old new
runs_epochs_cut begin may_have places source_failed start left old new done closed open_ text more cut reached said written =
    record {
      text = text;
      written = written;
      report = told_map start left (λ octets over. BeginsFrom begin octets done)
          (λ octets over. IsCutText begin may_have places source_failed octets over text)
          (λ octets over begins. record {
            more = more;
            whole = inr (inr (cut_text begin may_have places octets done closed open_ (text ++ more) cut begins said));
          }) reached;
    }

-- nothing was read and nothing written
pub nothing_runs : (begin : Beginning) (may_have : Input → Report → Type 0) (places : Bool) (source_failed : Type 0)
    (start old : Option (List ℕ)) → SaysEpochs may_have places [] []
    → RunsFrom begin may_have places status.NoMemory source_failed start start old old
nothing_runs begin may_have places source_failed start old said =
    runs_unwritten begin may_have places source_failed start start old old [] [] [] [] cut_nothing (by_start start) said
    (Appends-nil old)
  where
    by_start : (from : Option (List ℕ)) → WhereTold from from (λ octets over. BeginsFrom begin octets [])
    by_start None = tt
    by_start (Some octets) = (input_from begin octets, refl)

-- other words do nothing
pub nothing_told : (begin : Beginning) (may_have : Input → Report → Type 0) (places : Bool) (source_failed : Type 0)
    (start : Option (List ℕ))
    → WhereTold start start (λ octets left. ReportsFrom begin may_have places status.Usage source_failed octets left [])
nothing_told begin may_have places source_failed None = tt
nothing_told begin may_have places source_failed (Some octets) = refl

-- ---- a run at an input that ends

no_bad : (stop : Stop) → stop ≡ ended → IsBad stop → ⊥
no_bad stop is wrong = subst IsBad is wrong

not_big : ended ≡ big → ⊥
not_big same = cc

no_long : (stop : Stop) → stop ≡ ended → IsLong stop → ⊥
no_long stop is wrong = subst IsLong is wrong

pub complete : (begin : Beginning) (may_have : Input → Report → Type 0) (places : Bool) (ending : Status)
    (source_failed sink_failed : Type 0) (octets : List ℕ) (start left old new : Option (List ℕ)) → start ≡ Some octets
    → (input_from begin octets).stop ≡ ended → (source_failed → ⊥) → (sink_failed → ⊥)
    → (ending ≡ status.ReadFault → source_failed)
    → (ending ≡ status.WriteFault → sink_failed) → (ending ≡ status.Usage → ⊥)
    → RunsFrom begin may_have places ending source_failed start left old new → IsDone ending
complete begin may_have places ending source_failed sink_failed octets start left old new is stop no_fault no_sink read_fault
    write_fault no_usage runs =
    by_left left
    (subst (λ s. WhereTold s left (λ o l. ReportsFrom begin may_have places ending source_failed o l runs.text)) is runs.report)
  where
    by_status : (s : Status) (l text : List ℕ) → ReportsFrom begin may_have places s source_failed octets l text
        → (s ≡ status.ReadFault → source_failed)
        → (s ≡ status.WriteFault → sink_failed) → (s ≡ status.Usage → ⊥) → IsDone s
    by_status status.Ok l text reports read write usage = inl refl
    by_status status.Usage l text reports read write usage = absurd (usage refl)
    by_status status.ReadFault l text reports read write usage = absurd (no_fault (read refl))
    by_status status.WriteFault l text reports read write usage = absurd (no_sink (write refl))
    by_status status.NoMemory l text reports read write usage = inr refl
    by_status status.BadLine l text reports read write usage = absurd (no_bad (input_from begin octets).stop stop reports.0)
    by_status status.LineLong l text reports read write usage = absurd (no_long (input_from begin octets).stop stop reports.0)
    by_status status.TooLong l text reports read write usage =
        absurd (not_big (sym stop ∙ reports.0))
    by_status status.Refuted l text reports read write usage = absurd reports
    by_status status.BadCapture l text reports read write usage = absurd reports
    by_status status.BadState l text reports read write usage = absurd reports
    by_status status.BadReport l text reports read write usage = absurd reports

    by_left : (l : Option (List ℕ)) → WhereTold (Some octets) l
        (λ o rest. ReportsFrom begin may_have places ending source_failed o rest runs.text) → IsDone ending
    by_left None told = absurd told
    by_left (Some rest) told = by_status ending rest runs.text told read_fault write_fault no_usage
