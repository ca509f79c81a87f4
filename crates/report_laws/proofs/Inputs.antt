-- What the lines of an input mean, without its epochs.
use Rattle.std.proofs.Common.{◌≡◌, ℕ, ◌+◌, Bool, true, false, List, [], ◌∷◌, ◌++◌, length, refl, sym, ap, ◌∙◌, append_assoc, append-nil}
use Rattle.std.specs.List.{filter}
use Rattle.std.proofs.lemmas.List.Elements.{filter-append}
use Rattle.trace_lines.specs.Epochs.{epochs_of}
use Rattle.trace_lines.specs.Input.{Input, Stop, bad, long, big, ended}
use Rattle.trace_lines.specs.Line.{Line}
use Rattle.trace_lines.proofs.EpochLemmas.{are_epochs}
use Rattle.demux.specs.Trace.{Meaning}
use Rattle.gate_model.specs.declared.event.Event.{Event}
use Rattle.lawful_run.specs.AnsweredRun.{entries_from, events_after, brought, behind_lines}
use Rattle.lawful_run.specs.Cut.{lines_in}
use Rattle.lawful_run.specs.Merging.{Histories}
use Rattle.lawful_run.specs.Trace.{is_whole, meant_from, own_epoch, with_noted, epochs_from, epochs_told, stop_noted}
use Rattle.lawful_run.proofs.CutEpochs.{meant_from-append}
use Rattle.report_laws.specs.Told.{tells_of}
use Rattle.report_laws.proofs.Epochs.{flat}
use Rattle.report_laws.proofs.Meanings.{entries_from-append, events_after-append, brought-append}

own_flat : (noted : List Meaning) → flat (own_epoch noted) ≡ noted
own_flat [] = refl
own_flat (now ∷ later) = append-nil (now ∷ later)

noted_flat : (whole : Bool) (made noted : List Meaning) → flat (with_noted whole made noted) ≡ made ++ noted
noted_flat true made noted = ap (λ rest. made ++ rest) (own_flat noted)
noted_flat false made noted = append-nil (made ++ noted)

epochs_flat : (slices : ℕ) (before : List Line) (epochs : List (List Line)) (noted : List Meaning)
    → flat (epochs_from slices before epochs noted) ≡ meant_from slices before (lines_in epochs) ++ noted
epochs_flat slices before [] noted = own_flat noted
epochs_flat slices before (last ∷ []) noted =
    noted_flat (is_whole [] last) (meant_from slices before last) noted
    ∙ ap (λ lines. meant_from slices before lines ++ noted) (sym (append-nil last))
epochs_flat slices before (epoch ∷ next ∷ epochs) noted =
    let rest = lines_in (next ∷ epochs) in
    ap (λ more. meant_from slices before epoch ++ more) (epochs_flat slices (before ++ epoch) (next ∷ epochs) noted)
    ∙ sym (append_assoc (meant_from slices before epoch) (meant_from slices (before ++ epoch) rest) noted)
    ∙ ap (λ made. made ++ noted) (sym (meant_from-append slices before epoch rest))

pub told_flat : (slices : ℕ) (input : Input)
    → flat (epochs_told slices input) ≡ meant_from slices [] input.lines ++ stop_noted input.stop
told_flat slices input =
    epochs_flat slices [] (epochs_of input.lines) (stop_noted input.stop)
    ∙ ap (λ lines. meant_from slices [] lines ++ stop_noted input.stop) (are_epochs input.lines).whole

-- the note on a bad line is nobody's
noted_brings : (slot : ℕ) (events : List Event) (stop : Stop) → brought slot events (stop_noted stop) ≡ []
noted_brings slot events (bad n why) = refl
noted_brings slot events (long n) = refl
noted_brings slot events big = refl
noted_brings slot events ended = refl

noted_events : (slot : ℕ) (events : List Event) (stop : Stop) → events_after slot events (stop_noted stop) ≡ events
noted_events slot events (bad n why) = refl
noted_events slot events (long n) = refl
noted_events slot events big = refl
noted_events slot events ended = refl

noted_entries : (own : ℕ → Bool) (n : ℕ) (before : Histories) (stop : Stop)
    → filter (tells_of own) (entries_from n before (stop_noted stop)) ≡ []
noted_entries own n before (bad k why) = refl
noted_entries own n before (long k) = refl
noted_entries own n before big = refl
noted_entries own n before ended = refl

-- wherever it is told
pub noted_anywhere : (n : ℕ) (before other : Histories) (stop : Stop)
    → entries_from n before (stop_noted stop) ≡ entries_from n other (stop_noted stop)
noted_anywhere n before other (bad k why) = refl
noted_anywhere n before other (long k) = refl
noted_anywhere n before other big = refl
noted_anywhere n before other ended = refl

-- so what is told of a slot is that of the lines
pub brought_told : (slices slot : ℕ) (events : List Event) (input : Input)
    → brought slot events (flat (epochs_told slices input)) ≡ brought slot events (meant_from slices [] input.lines)
brought_told slices slot events input =
    let made = meant_from slices [] input.lines in
    ap (brought slot events) (told_flat slices input)
    ∙ brought-append slot events made (stop_noted input.stop)
    ∙ ap (λ more. brought slot events made ++ more) (noted_brings slot (events_after slot events made) input.stop)
    ∙ append-nil (brought slot events made)

pub events_told : (slices slot : ℕ) (events : List Event) (input : Input)
    → events_after slot events (flat (epochs_told slices input))
    ≡ events_after slot events (meant_from slices [] input.lines)
events_told slices slot events input =
    let made = meant_from slices [] input.lines in
    ap (events_after slot events) (told_flat slices input)
    ∙ events_after-append slot events made (stop_noted input.stop)
    ∙ noted_events slot (events_after slot events made) input.stop

pub entries_told : (slices n : ℕ) (before : Histories) (input : Input)
    → entries_from n before (flat (epochs_told slices input))
    ≡ entries_from n before (meant_from slices [] input.lines)
    ++ entries_from (n + length (meant_from slices [] input.lines))
    (behind_lines before (meant_from slices [] input.lines)) (stop_noted input.stop)
entries_told slices n before input =
    ap (entries_from n before) (told_flat slices input)
    ∙ entries_from-append n before (meant_from slices [] input.lines) (stop_noted input.stop)

pub kept_told : (own : ℕ → Bool) (slices n : ℕ) (before : Histories) (input : Input)
    → filter (tells_of own) (entries_from n before (flat (epochs_told slices input)))
    ≡ filter (tells_of own) (entries_from n before (meant_from slices [] input.lines))
kept_told own slices n before input =
    let made = meant_from slices [] input.lines in
    let entries = entries_from n before made in
    let noted = entries_from (n + length made) (behind_lines before made) (stop_noted input.stop) in
    ap (filter (tells_of own)) (entries_told slices n before input)
    ∙ filter-append (tells_of own) entries noted
    ∙ ap (λ more. filter (tells_of own) entries ++ more)
    (noted_entries own (n + length made) (behind_lines before made) input.stop)
    ∙ append-nil (filter (tells_of own) entries)
