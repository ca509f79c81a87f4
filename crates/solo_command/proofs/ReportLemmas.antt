-- What the sequential gateway tells.
use Rattle.std.proofs.Common.{◌≡◌, ℕ, ◌+◌, ◌≤◌, false, List, [], ◌++◌, get_or, length, map, flat_map, Option, refl, sym, ap, subst, ◌∙◌, arith, append-nil, append_assoc}
use Rattle.trace_lines.specs.Input.{Input}
use Rattle.trace_lines.specs.Line.{Line}
use Rattle.demux.specs.Trace.{book_of}
use Rattle.report_lines.specs.declared.entry.Entry.TheVariants as entry
use Rattle.subscriber.specs.Standing.{Represents}
use Rattle.lawful_run.specs.AnsweredRun.{answered_run, behind_epochs}
use Rattle.lawful_run.specs.Cut.{IsCut, lines_in}
use Rattle.lawful_run.specs.Outcomes.{opens}
use Rattle.lawful_run.specs.Report.{epoch_entries, report_text, texts_of}
use Rattle.lawful_run.specs.Run.{by_slot, no_events}
use Rattle.lawful_run.specs.Setup.{solo}
use Rattle.lawful_run.specs.Trace.{answered_report, epochs_from, epochs_told, meant_epochs, slots_of}
use Rattle.lawful_run.proofs.BookGrows.{book_grows_all}
use Rattle.lawful_run.proofs.CutEpochs.{cut_means}
use Rattle.lawful_run.proofs.CutLines.{cut_nothing, epochs_are}
use Rattle.lawful_run.proofs.EveryTrace.{answered_is_run, answered_run_in_sequence}
use Rattle.trace_run.specs.Beginnings.{whole_input}
use Rattle.trace_run.specs.declared.ending.Ending.{Ending}
use Rattle.trace_run.specs.declared.status.Status.TheVariants as status
use Rattle.trace_run.specs.Lines.{stop_of}
use Rattle.trace_run.specs.Report.{IsText, Runs, input_with}
use Rattle.trace_run.specs.Reporting.{IsDue, SaysEpochs}
use Rattle.trace_run.proofs.EndingLemmas.{nothing_runs as nothing_runs_of}
use Rattle.trace_run.proofs.EntryLemmas.{texts-append}
use Rattle.solo_command.specs.Gateway.{no_subscribers}
use Rattle.solo_command.specs.Reports.{Gives, opens_from}
use Rattle.solo_command.specs.declared.solo.Solo.{Solo}
use Rattle.solo_command.specs.Gathering.{charges_text}
use Rattle.solo_command.specs.Progress.{HasAnswered, SaysClosed, closed_events, end_text, ending_text, open_meant}
use Rattle.solo_command.specs.Report.{IsSoloReport, slices}
use Rattle.solo_command.specs.Standing.{Stands, Story, events_of, story_of}
use Rattle.solo_command.proofs.GiveLemmas.{given_text}
use Rattle.solo_command.proofs.HoldLemmas.{opens_told}
use Rattle.solo_command.proofs.RunLemmas.{ending_waits}
use Rattle.solo_command.proofs.StoryLemmas.{stands_each}
use Rattle.solo_command.proofs.TextLemmas.{whole_text}

-- the report of the sequential gateway
text_of : (input : Input) (text : List ℕ) → text ≡ report_text false (answered_report solo input)
    → IsText (Gives slices no_subscribers) false input text → IsText IsSoloReport false input text
text_of input text said given = record {
  report = answered_report solo input;
  allowed = record {
    lawful = answered_is_run solo (slots_of input) (epochs_told slices input);
    in_sequence = answered_run_in_sequence (slots_of input) (epochs_told slices input);
    gives = subst (IsText (Gives slices no_subscribers) false input) said given;
  };
  written = said;
}

-- the texts of some first whole epochs
says_epochs : (closed : List (List Line)) (text : List ℕ) → IsCut (lines_in closed) closed [] → SaysClosed text closed
    → IsText (Gives slices no_subscribers) false (input_with (lines_in closed))
    (text ++ charges_text (by_slot (length (book_of (lines_in closed))) (λ slot. opens slot (closed_events closed slot))))
    → SaysEpochs IsSoloReport false closed text
says_epochs closed text cut said given =
    let input = input_with (lines_in closed) in
    let slots = length (book_of (lines_in closed)) in
    let report = answered_report solo input in
    let means : epochs_told slices input ≡ meant_epochs slices [] closed =
    ap (λ epochs. epochs_from slices [] epochs []) (epochs_are (lines_in closed) closed [] cut)
    ∙ cut_means slices [] closed [] [] cut.whole cut.unfinished ∙ append-nil (meant_epochs slices [] closed) in
    let written : text ≡ texts_of false (flat_map epoch_entries report.epochs) =
    said slots (omega arith)
    ∙ ap (λ made. texts_of false (flat_map epoch_entries (answered_run slots made).epochs)) (sym means) in
    let charges : by_slot slots (λ slot. opens slot (closed_events closed slot)) ≡ report.opens =
    ap (λ made. by_slot slots (λ slot. opens slot (behind_epochs no_events made slot))) (sym means) in
    record {
      report = report;
      allowed = record {
        lawful = answered_is_run solo (slots_of input) (epochs_told slices input);
        in_sequence = answered_run_in_sequence (slots_of input) (epochs_told slices input);
        gives = subst (IsText (Gives slices no_subscribers) false input)
            ((λ i. written i ++ charges_text (charges i))
            ∙ sym (texts-append false (flat_map epoch_entries report.epochs) (map entry.Charge report.opens))) given;
      };
      written = written;
    }

-- the open counters are those of the events that the subscribers represent
opens_are : (gateway : Solo) (story : Story) → Stands gateway story
    → opens_from 0 gateway.subscribers.items ≡ by_slot (length story.book) (λ slot. opens slot (events_of story slot))
opens_are gateway story stands =
    let items = gateway.subscribers.items in
    opens_told 0 items (events_of story)
    (λ k none within.
    let same : k ≡ 0 + k = omega arith in
    subst (λ s. Represents (get_or items k none) s (events_of story s)) same
    (stands_each gateway story stands k none within))
    ∙ ap (λ n. by_slot n (λ slot. opens slot (events_of story slot))) stands.places

pub says_answered : (gateway : Solo) (done : List Line) (latest : ℕ) (closed : List (List Line)) (text : List ℕ)
    → HasAnswered gateway done latest closed [] text [] → IsCut (lines_in closed) closed []
    → SaysEpochs IsSoloReport false closed text
says_answered gateway done latest closed text answered cut =
    let parts : done ≡ lines_in closed = answered.parts ∙ append-nil (lines_in closed) in
    let charges : opens_from 0 gateway.subscribers.items
    ≡ by_slot (length (book_of (lines_in closed))) (λ slot. opens slot (closed_events closed slot)) =
    opens_are gateway (story_of done latest (closed_events closed) []) answered.stands
    ∙ ap (λ lines. by_slot (length (book_of lines)) (λ slot. opens slot (closed_events closed slot))) parts in
    says_epochs closed text cut answered.said
    (subst (λ c. IsText (Gives slices no_subscribers) false (input_with (lines_in closed)) (text ++ charges_text c))
    charges (given_text no_subscribers gateway (length done) latest closed text answered.told cut))

pub says_nothing : SaysEpochs IsSoloReport false [] []
says_nothing = says_epochs [] [] cut_nothing (λ slots known. refl) (record {
  report = record { epochs = []; opens = [] };
  allowed = record { last = no_subscribers; epochs = (refl, refl); opens = refl };
  written = refl;
})

-- nothing was read and nothing written
pub nothing_runs : (source_failed : Type 0) (start old : Option (List ℕ))
    → Runs IsSoloReport false status.NoMemory source_failed start start old old
nothing_runs source_failed start old = nothing_runs_of whole_input IsSoloReport false source_failed start old says_nothing

-- the whole report, behind the entry of a bad line, the last epoch's texts and the open counters
pub is_due : (gateway : Solo) (ending : Ending) (done : List Line) (latest lines : ℕ) (closed : List (List Line))
    (open_ : List Line) (sent waiting noted ended text : List ℕ)
    → HasAnswered gateway done latest closed open_ sent waiting → IsCut done closed open_ → lines ≡ length done
    → noted ≡ waiting ++ ending_text (lines + 1) ending
    → ended ≡ noted ++ end_text (story_of done latest (closed_events closed) (open_meant closed open_))
    → text ≡ ended ++ charges_text (by_slot (length (book_of done))
    (λ slot. opens slot (events_of (story_of done latest (closed_events closed) (open_meant closed open_)) slot)))
    → IsDue (Gives slices no_subscribers) false ending done (sent ++ text)
    → IsDue IsSoloReport false ending done (sent ++ text)
is_due gateway ending done latest lines closed open_ sent waiting noted ended text answered cut counted first second
    third given =
    let stop = stop_of ending (length done + 1) in
    let story = story_of done latest (closed_events closed) (open_meant closed open_) in
    let charges = charges_text (by_slot (length (book_of done)) (λ slot. opens slot (events_of story slot))) in
    let grown : length (book_of (lines_in closed)) ≤ length (book_of done) =
    omega (
      arith,
      book_grows_all (lines_in closed) open_,
      ap (λ lines. length (book_of lines)) cut.parts,
    ) in
    text_of (record { lines = done; stop = stop }) (sent ++ text)
    (ap (λ t. sent ++ t) (third ∙ ap (λ t. t ++ charges) second ∙ append_assoc noted (end_text story) charges)
    ∙ whole_text done closed open_ stop latest sent noted cut answered.said grown
    (first ∙ ending_waits ending done closed open_ lines waiting cut.parts counted answered.waits)) given
