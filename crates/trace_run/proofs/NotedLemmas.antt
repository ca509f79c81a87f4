-- The last epoch, with the note of a bad line behind its lines.
use Rattle.std.proofs.Common.{◌≡◌, ℕ, ◌+◌, Bool, true, false, not, MatchBool, Option, None, Some, is_some, List, [], ◌∷◌, ◌++◌, length, refl, sym, ap, ap₂, ◌∙◌, append-nil, true≢false}
use Rattle.trace_lines.specs.Input.{Stop}
use Rattle.trace_lines.specs.Line.{Line}
use Rattle.trace_lines.specs.declared.bad.LineBad.{LineBad}
use Rattle.demux.specs.Trace.{Meaning}
use Rattle.lawful_run.specs.Answers.{AnswersAll}
use Rattle.lawful_run.specs.Cut.{IsCut, lines_in}
use Rattle.lawful_run.specs.Merging.{Histories, behind}
use Rattle.lawful_run.specs.Report.{EpochReport}
use Rattle.lawful_run.specs.Run.{told_in}
use Rattle.lawful_run.specs.Trace.{epochs_from, epochs_told, meant_epochs, meant_from, own_epoch, stop_noted}
use Rattle.lawful_run.proofs.CutEpochs.{cut_means}
use Rattle.lawful_run.proofs.CutLines.{epochs_are}
use Rattle.lawful_run.proofs.NotedEpoch.{events_noted}
use Rattle.trace_run.specs.Entries.{closing_text, epochs_text, lines_text}
use Rattle.trace_run.specs.Lines.{stop_of}
use Rattle.trace_run.specs.Noted.{bad_at, meant_all, noted, noted_entry, noted_meant, words_of}
use Rattle.trace_run.specs.declared.ending.Ending.{Ending}
use Rattle.trace_run.specs.declared.ending.Ending.TheVariants.{Ended, ReadFault, BadLine, LineLong, TooLong}
use Rattle.trace_run.proofs.EntryLemmas.{epochs_text-push, lines-append}

-- its text
noted_text : (places : Bool) (told : EpochReport) (bad : Option LineBad) (n : ℕ)
    → lines_text places (noted_entry told bad n).lines ++ closing_text places (noted_entry told bad n)
    ≡ lines_text places told.lines ++ lines_text places (noted bad n) ++ closing_text places told
noted_text places told None n =
    ap (λ lines. lines ++ closing_text places told) (sym (append-nil (lines_text places told.lines)))
noted_text places told (Some why) n =
    ap (λ lines. lines ++ closing_text places told) (lines-append places told.lines (noted (Some why) n))

-- behind the texts of other epochs
pub on_text : (places : Bool) (told : List EpochReport) (now : EpochReport) (bad : Option LineBad) (n : ℕ)
    (sent text : List ℕ) → sent ≡ epochs_text places told
    → text ≡ lines_text places now.lines ++ lines_text places (noted bad n) ++ closing_text places now
    → sent ++ text ≡ epochs_text places (told ++ noted_entry now bad n ∷ [])
on_text places told now bad n sent text before behind =
    ap₂ (λ one two. one ++ two) before (behind ∙ sym (noted_text places now bad n))
    ∙ sym (epochs_text-push places told (noted_entry now bad n))

-- a note is no event
pub noted_behind : (first : ℕ) (before : Histories) (made : List Meaning) (told : EpochReport) (bad : Option LineBad)
    (all : AnswersAll first made told.lines)
    → behind before (told_in (made ++ noted_meant bad) (noted_entry told bad (first + length made)))
    ≡ behind before (told_in made told)
noted_behind first before made told None all =
    ap (λ lines. behind before (told_in lines told)) (append-nil made)
noted_behind first before made told (Some why) all =
    λ i slot. before slot ++ events_noted first before made told (words_of why) all slot i

-- there are lines, or a line is bad
pub some_noted : (open_ : List Line) (bad : Option LineBad) → (open_ ≡ [] → bad ≡ None → ⊥)
    → open_ ≡ [] → noted_meant bad ≡ [] → ⊥
some_noted open_ None some none_open none = some none_open refl
some_noted open_ (Some why) some none_open none = cc

pub own_so : (slices : ℕ) (closed : List (List Line)) (open_ : List Line) (bad : Option LineBad)
    → (open_ ≡ [] → noted_meant bad ≡ [] → ⊥)
    → meant_epochs slices [] closed ++ (meant_from slices (lines_in closed) open_ ++ noted_meant bad) ∷ []
    ≡ meant_all slices closed open_ bad
own_so slices closed [] None some = absurd (some refl refl)
own_so slices closed [] (Some why) some = refl
own_so slices closed (line ∷ open_) bad some = refl

-- whether no epoch is open, and no line is bad
pub both_none : (none : Bool) (taken : List Line) (bad : Option LineBad) → is_some bad ≡ not none → taken ≡ []
    → MatchBool none ((taken ≡ []) × (bad ≡ None)) (taken ≡ [] → bad ≡ None → ⊥)
both_none true taken None is empty = (empty, refl)
both_none false taken None is empty = absurd (true≢false (sym is))
both_none true taken (Some why) is empty = absurd (true≢false is)
both_none false taken (Some why) is empty = λ same other. cc

-- the note of an ending
pub same_note : (ending : Ending) (n : ℕ) → stop_noted (stop_of ending n) ≡ noted_meant (bad_at ending)
same_note Ended n = refl
same_note ReadFault n = refl
same_note (BadLine why) n = refl
same_note LineLong n = refl
same_note TooLong n = refl

-- what lines mean that are cut so
pub cut_so : (slices : ℕ) (done : List Line) (closed : List (List Line)) (open_ : List Line) (stop : Stop)
    (bad : Option LineBad) → IsCut done closed open_ → stop_noted stop ≡ noted_meant bad
    → epochs_told slices (record { lines = done; stop = stop }) ≡ meant_all slices closed open_ bad
cut_so slices done closed open_ stop bad cut same =
    ap (λ epochs. epochs_from slices [] epochs (stop_noted stop)) (epochs_are done closed open_ cut)
    ∙ cut_means slices [] closed open_ (stop_noted stop) cut.whole cut.unfinished
    ∙ ap (λ last. meant_epochs slices [] closed ++ own_epoch (meant_from slices (lines_in closed) open_ ++ last)) same
