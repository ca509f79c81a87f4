-- What a run of `save` wrote, by its status.
use Rattle.std.proofs.Common.{◌≡◌, ℕ, inl, inr, ◌<◌, All, List, [], ◌++◌, ◌+◌, length, Option, None, Some, refl, sym, ap, ◌∙◌, subst}
use Rattle.std.specs.Io.KnownBytes.{Appends}
use Rattle.std.proofs.KnownBytes.{Appends-nil}
use Rattle.pc_outside.specs.Prefixes.{AppendsPrefix}
use Rattle.pc_outside.specs.WhereTold.{WhereTold}
use Rattle.pc_outside.proofs.ToldLemmas.{told_map}
use Rattle.trace_lines.specs.Input.{Input, bad, big, ended, input_of, long}
use Rattle.trace_lines.specs.Line.{Line}
use Rattle.record_codec.specs.Saved.{FileState}
use Rattle.record_codec.specs.Spelling.{state}
use Rattle.solo_command.specs.Left.{IsLeft}
use Rattle.record_codec.specs.StateText.{IsStateText}
use Rattle.trace_run.specs.Beginnings.{whole_input}
use Rattle.trace_run.specs.Lines.{Begins, Reached}
use Rattle.trace_run.specs.Report.{IsBad, IsDone, IsLong}
use Rattle.trace_run.specs.Status.{status_at, status_without}
use Rattle.trace_run.specs.Takers.{LinesCut}
use Rattle.trace_run.specs.declared.ending.Ending.{Ending}
use Rattle.trace_run.specs.declared.ending.Ending.TheVariants.{Ended, ReadFault, BadLine, LineLong, TooLong}
use Rattle.pc_outside.specs.declared.writing.Unwritten.{Unwritten}
use Rattle.pc_outside.specs.declared.writing.Unwritten.TheVariants as unwritten
use Rattle.trace_run.specs.declared.status.Status.{Status}
use Rattle.trace_run.specs.declared.status.Status.TheVariants as status
use Rattle.trace_run.proofs.EndingLemmas.{stop_is}
use Rattle.solo_command.specs.Report.{slices}
use Rattle.save_command.specs.Left.{HasTaken}
use Rattle.save_command.specs.Saves.{IsSavedText, Saves, SavesAs, Wrote, WroteAs}
use Rattle.save_command.specs.declared.saver.Saver.{Saver}

-- nothing was written
nothing_as : (old new : Option (List ℕ)) → new ≡ old → Appends old new []
nothing_as old new same = subst (λ (n : Option (List ℕ)). Appends old n []) (sym same) (Appends-nil old)

-- of a file's text all was written, or a prefix
saved_text_is : (lines : List Line) (file : FileState) (text : List ℕ) → IsLeft slices lines file
    → All (λ octet. octet < 256) (state file) → IsStateText (state file) text → IsSavedText lines text
saved_text_is lines file text left octets written =
    record { file = file; left = left; octets = octets; written = written }

pub wrote_all : (lines : List Line) (file : FileState) (text : List ℕ) (old new : Option (List ℕ))
    → IsLeft slices lines file → All (λ octet. octet < 256) (state file) → IsStateText (state file) text
    → Appends old new text → Wrote status.Ok lines old new
wrote_all lines file text old new left octets written moved = record {
  text = text;
  written = moved;
  said = saved_text_is lines file text left octets written;
}

pub wrote_prefix : (lines : List Line) (file : FileState) (text : List ℕ) (old new : Option (List ℕ))
    → IsLeft slices lines file → All (λ octet. octet < 256) (state file) → IsStateText (state file) text
    → AppendsPrefix old new text → Wrote status.WriteFault lines old new
wrote_prefix lines file text old new left octets written cut = record {
  text = cut.prefix;
  written = cut.appended;
  said = (cut.rest, subst (IsSavedText lines) cut.parts (saved_text_is lines file text left octets written));
}

-- lines that were read whole
saves_lines : (ending : Status) (octets left text : List ℕ) (lines : List Line) → Reached Ended octets left lines
    → WroteAs ending lines text → SavesAs ending octets left text
saves_lines status.Ok octets left text lines reached said = (
  stop_is whole_input octets lines ended reached.0,
  reached.1,
  subst (λ (ls : List Line). IsSavedText ls text) (sym (ap (λ (i : Input). i.lines) reached.0)) said,
)
saves_lines status.WriteFault octets left text lines reached said = (
  stop_is whole_input octets lines ended reached.0,
  reached.1,
  (
    said.0,
    subst (λ (ls : List Line). IsSavedText ls (text ++ said.0)) (sym (ap (λ (i : Input). i.lines) reached.0)) said.1,
  ),
)
saves_lines status.NoMemory octets left text lines reached said = said
saves_lines status.Usage octets left text lines reached said = absurd said
saves_lines status.ReadFault octets left text lines reached said = absurd said
saves_lines status.BadLine octets left text lines reached said = absurd said
saves_lines status.LineLong octets left text lines reached said = absurd said
saves_lines status.TooLong octets left text lines reached said = absurd said
saves_lines status.Refuted octets left text lines reached said = said
saves_lines status.BadCapture octets left text lines reached said = said
saves_lines status.BadState octets left text lines reached said = said
saves_lines status.BadReport octets left text lines reached said = said

pub saves_whole : (ending : Status) (start left old new : Option (List ℕ)) (lines : List Line)
    → WhereTold start left (λ octets rest. Reached Ended octets rest lines) → Wrote ending lines old new
    → Saves ending start left old new
saves_whole ending start left old new lines reached wrote = record {
  text = wrote.text;
  written = wrote.written;
  said = told_map start left (λ octets rest. Reached Ended octets rest lines)
      (λ octets rest. SavesAs ending octets rest wrote.text)
      (λ octets rest is. saves_lines ending octets rest wrote.text lines is wrote.said) reached;
}

pub never_usage : (lines : List Line) (old new : Option (List ℕ)) → Wrote status.Usage lines old new → ⊥
never_usage lines old new wrote = wrote.said

pub never_read : (lines : List Line) (old new : Option (List ℕ)) → Wrote status.ReadFault lines old new → ⊥
never_read lines old new wrote = wrote.said

-- what the status of an ending is
pub usage_never : (ending : Ending) → status_at ending ≡ status.Usage → ⊥
usage_never Ended is = cc
usage_never ReadFault is = cc
usage_never (BadLine why) is = cc
usage_never LineLong is = cc
usage_never TooLong is = cc

pub write_never : (ending : Ending) → status_at ending ≡ status.WriteFault → ⊥
write_never Ended is = cc
write_never ReadFault is = cc
write_never (BadLine why) is = cc
write_never LineLong is = cc
write_never TooLong is = cc

pub at_read : (ending : Ending) → status_at ending ≡ status.ReadFault → ending ≡ ReadFault
at_read Ended is = absurd (cc)
at_read ReadFault is = refl
at_read (BadLine why) is = absurd (cc)
at_read LineLong is = absurd (cc)
at_read TooLong is = absurd (cc)

-- lines that weren't
stopped_so : (ending : Ending) (octets left : List ℕ) (lines : List Line) → (ending ≡ Ended → ⊥)
    → Reached ending octets left lines → SavesAs (status_at ending) octets left []
stopped_so Ended octets left lines stops reached = absurd (stops refl)
stopped_so ReadFault octets left lines stops reached =
    (reached.taken, stop_is whole_input reached.taken.whole lines ended reached.stops, refl)
stopped_so (BadLine why) octets left lines stops reached =
    let stop = bad (length lines + 1) why in
    (subst IsBad (sym (stop_is whole_input octets lines stop reached)) tt, refl)
stopped_so LineLong octets left lines stops reached =
    let stop = long (length lines + 1) in
    (subst IsLong (sym (stop_is whole_input octets lines stop reached)) tt, refl)
stopped_so TooLong octets left lines stops reached = (stop_is whole_input octets lines big reached, refl)

pub saves_nothing : (ending : Ending) (start left old new : Option (List ℕ)) (lines : List Line)
    → (ending ≡ Ended → ⊥) → WhereTold start left (λ octets rest. Reached ending octets rest lines) → new ≡ old
    → Saves (status_at ending) start left old new
saves_nothing ending start left old new lines stops reached same = record {
  text = [];
  written = nothing_as old new same;
  said = told_map start left (λ octets rest. Reached ending octets rest lines)
      (λ octets rest. SavesAs (status_at ending) octets rest [])
      (λ octets rest is. stopped_so ending octets rest lines stops is) reached;
}

-- memory ran out on the way
pub saves_cut : (why : Unwritten) (start left old new : Option (List ℕ))
    → LinesCut (λ (now : Saver) done latest before behind. HasTaken now done latest × (now.told ≡ [])
    × (behind ≡ before))
    (λ done before behind. ⊥) why start left old new
    → Saves (status_without why) start left old new
saves_cut unwritten.WriteFault start left old new cuts = absurd cuts.cut
saves_cut unwritten.NoMemory start left old new cuts = record {
  text = [];
  written = nothing_as old new cuts.cut.2.2;
  said = told_map start left (λ octets rest. Begins octets cuts.done)
      (λ octets rest. SavesAs status.NoMemory octets rest []) (λ octets rest begins. refl) cuts.reached;
}

-- Where the input stops at its end and nothing failed, memory alone can run out.
pub save_complete : (ending : Status) (source_failed sink_failed : Type 0) (octets : List ℕ)
    (start left old new : Option (List ℕ)) → start ≡ Some octets
    → (input_of octets).stop ≡ ended → (source_failed → ⊥) → (sink_failed → ⊥)
    → (ending ≡ status.ReadFault → source_failed) → (ending ≡ status.WriteFault → sink_failed)
    → Saves ending start left old new → IsDone ending
save_complete ending source_failed sink_failed octets start left old new is stop no_fault no_sink read_fault
    write_fault saves =
    by_left left (subst (λ s. WhereTold s left (λ o l. SavesAs ending o l saves.text)) is saves.said)
  where
    by_status : (s : Status) (l text : List ℕ) → SavesAs s octets l text → (s ≡ status.ReadFault → source_failed)
        → (s ≡ status.WriteFault → sink_failed) → IsDone s
    by_status status.Ok l text said read write = inl refl
    by_status status.Usage l text said read write = absurd said
    by_status status.ReadFault l text said read write = absurd (no_fault (read refl))
    by_status status.WriteFault l text said read write = absurd (no_sink (write refl))
    by_status status.NoMemory l text said read write = inr refl
    by_status status.BadLine l text said read write = absurd (subst IsBad stop said.0)
    by_status status.LineLong l text said read write = absurd (subst IsLong stop said.0)
    by_status status.TooLong l text said read write = let clash : ended ≡ big = sym stop ∙ said.0 in cc
    by_status status.Refuted l text said read write = absurd said
    by_status status.BadCapture l text said read write = absurd said
    by_status status.BadState l text said read write = absurd said
    by_status status.BadReport l text said read write = absurd said

    by_left : (l : Option (List ℕ)) → WhereTold (Some octets) l (λ o rest. SavesAs ending o rest saves.text)
        → IsDone ending
    by_left None said = absurd said
    by_left (Some l) said = by_status ending l saves.text said read_fault write_fault
