-- A gateway answers the lines of a run, epoch by epoch.
use Rattle.std.proofs.Common.{◌≡◌, ℕ, ◌+◌, ◌≤◌, List, [], ◌∷◌, ◌++◌, codes, length, refl, sym, ap, subst, ◌∙◌, arith, append_assoc, append-nil, length-append}
use Rattle.trace_lines.specs.Line.{Line}
use Rattle.trace_lines.specs.Word.{word_of}
use Rattle.trace_lines.specs.declared.bad.LineBad.{LineBad}
use Rattle.demux.specs.Trace.{book_of, note}
use Rattle.report_lines.specs.declared.entry.Entry.TheVariants as entry
use Rattle.report_lines.specs.declared.entry.LineEntry.TheVariants as line_entry
use Rattle.lawful_run.specs.AnsweredRun.{behind_epochs, behind_lines, entries_from, entry_after}
use Rattle.lawful_run.specs.Cut.{lines_in}
use Rattle.lawful_run.specs.Run.{no_events}
use Rattle.lawful_run.specs.Trace.{meant_epochs, stop_noted}
use Rattle.lawful_run.proofs.BookGrows.{book_grows_all}
use Rattle.lawful_run.proofs.CutEpochs.{meant_from-append}
use Rattle.lawful_run.proofs.CutLines.{length-meant_from, lines_in-push, meant_epochs-push}
use Rattle.lawful_run.proofs.Growing.{behind_epochs-push}
use Rattle.trace_run.specs.declared.ending.Ending.{Ending}
use Rattle.trace_run.specs.declared.ending.Ending.TheVariants.{Ended, ReadFault, BadLine, LineLong, TooLong}
use Rattle.trace_run.specs.Lines.{stop_of}
use Rattle.demux.specs.Resolved.{decided}
use Rattle.solo_command.specs.Gateway.{no_subscribers}
use Rattle.solo_command.specs.declared.solo.Solo.{Solo}
use Rattle.solo_command.specs.Entries.{text_line}
use Rattle.solo_command.specs.Gathering.{closing_text}
use Rattle.solo_command.specs.Holding.{HasTold, Holds, Tells, Waits, gateway_of, told_closing}
use Rattle.solo_command.specs.Progress.{HasAnswered, SaysClosed, closed_events, closed_text, end_text, ending_text, entries_text, open_entries, open_meant}
use Rattle.solo_command.specs.Report.{slices}
use Rattle.solo_command.specs.Standing.{Stands, entry_line, meant_next, story_of, with_end}
use Rattle.solo_command.proofs.GiveLemmas.{told_closed, told_lines, told_more, told_nothing}
use Rattle.solo_command.proofs.HoldLemmas.{nothing_holds}
use Rattle.solo_command.proofs.TextLemmas.{closed_text-push, closing_wider, entries_text-push}

-- the open epoch's lines mean one thing more
open_meant-push : (done : List Line) (closed : List (List Line)) (open_ : List Line) (line : Line)
    → done ≡ lines_in closed ++ open_
    → open_meant closed (open_ ++ line ∷ []) ≡ open_meant closed open_ ++ meant_next done line ∷ []
open_meant-push done closed open_ line parts =
    meant_from-append slices (lines_in closed) open_ (line ∷ [])
    ∙ ap (λ before. open_meant closed open_ ++ meant_next before line ∷ []) (sym parts)

-- and have one entry more
waits_more : (done : List Line) (closed : List (List Line)) (open_ : List Line) (line : Line) (latest : ℕ)
    (waiting : List ℕ) → done ≡ lines_in closed ++ open_
    → waiting ≡ entries_text (open_entries closed open_ [])
    → waiting ++ entry_line (story_of done latest (closed_events closed) (open_meant closed open_)) (meant_next done line)
    ≡ entries_text (open_entries closed (open_ ++ line ∷ []) [])
waits_more done closed open_ line latest waiting parts waits =
    let first = 1 + length (lines_in closed) in
    let before = closed_events closed in
    let made = open_meant closed open_ in
    let now = meant_next done line in
    let number : length done + 1 ≡ first + length made =
    omega (
      arith,
      ap length parts,
      length-append (lines_in closed) open_,
      length-meant_from slices (lines_in closed) open_,
    ) in
    ap (λ text. text ++ entry_line (story_of done latest before made) now)
    (waits ∙ ap (λ m. entries_text (entries_from first before m)) (append-nil made))
    ∙ ap (λ n. entries_text (entries_from first before made)
    ++ text_line (entry.Line (entry_after n (behind_lines before made) now))) number
    ∙ sym (entries_text-push first before made now)
    ∙ ap (λ m. entries_text (entries_from first before m))
    (sym (open_meant-push done closed open_ line parts) ∙ sym (append-nil (open_meant closed (open_ ++ line ∷ []))))

-- one epoch more is written
closed_events-push : (closed : List (List Line)) (epoch : List Line)
    → closed_events (closed ++ epoch ∷ []) ≡ behind_lines (closed_events closed) (open_meant closed epoch)
closed_events-push closed epoch =
    ap (λ epochs. behind_epochs no_events epochs) (meant_epochs-push slices [] closed epoch)
    ∙ behind_epochs-push no_events (meant_epochs slices [] closed) (open_meant closed epoch)

said_more : (closed : List (List Line)) (epoch : List Line) (sent lines : List ℕ) (book : ℕ) → SaysClosed sent closed
    → book ≡ length (book_of (lines_in closed ++ epoch))
    → lines ≡ entries_text (entries_from (1 + length (lines_in closed)) (closed_events closed)
    (open_meant closed epoch))
    → ((slot : ℕ) → book ≤ slot → behind_lines (closed_events closed) (open_meant closed epoch) slot ≡ [])
    → SaysClosed (sent ++ (lines ++ closing_text book (closed_events closed) (open_meant closed epoch))) (closed
    ++ epoch ∷ [])
said_more closed epoch sent lines book said book_is lines_are none = λ slots known.
    let grown : length (book_of (lines_in closed ++ epoch)) ≤ slots =
    omega (arith, known, ap (λ l. length (book_of l)) (lines_in-push closed epoch)) in
    let before = closed_events closed in
    let made = open_meant closed epoch in
    ap (λ text. text ++ (lines ++ closing_text book before made))
    (said slots (omega (arith, grown, book_grows_all (lines_in closed) epoch)))
    ∙ ap (λ text. closed_text slots closed ++ (text ++ closing_text book before made)) lines_are
    ∙ ap (λ text. closed_text slots closed
    ++ (entries_text (entries_from (1 + length (lines_in closed)) before made) ++ text))
    (sym (closing_wider book slots before made (omega (arith, grown, book_is)) none))
    ∙ sym (closed_text-push slots closed (meant_epochs slices [] (closed ++ epoch ∷ [])) made
    (meant_epochs-push slices [] closed epoch))

-- nothing is answered yet
pub begins : (gateway : Solo) → Stands gateway (story_of [] 0 no_events []) → gateway_of gateway ≡ no_subscribers
    → Waits gateway.gathered (length gateway.book) [] → HasAnswered gateway [] 0 [] [] [] []
begins gateway stands none waits = record {
  parts = refl;
  stands = stands;
  said = λ slots known. refl;
  waits = refl;
  told = subst (λ g. HasTold g gateway 0 0 [] [] [] []) none
      (told_nothing gateway 0 (subst (Holds 0 0) (sym none) (nothing_holds 0)) waits);
}

-- a line is answered
pub answers : (gateway after_it : Solo) (done : List Line) (latest : ℕ) (closed : List (List Line))
    (open_ : List Line) (sent waiting text : List ℕ) (line : Line)
    → HasAnswered gateway done latest closed open_ sent waiting
    → Stands after_it (story_of (done ++ line ∷ []) line.moment (closed_events closed)
    (open_meant closed open_ ++ meant_next done line ∷ []))
    → text ≡ waiting ++ entry_line (story_of done latest (closed_events closed) (open_meant closed open_))
    (meant_next done line)
    → Tells line.number (decided slices gateway.book line) gateway after_it waiting text → latest ≤ line.moment
    → HasAnswered after_it (done ++ line ∷ []) line.moment closed (open_ ++ line ∷ []) sent text
answers gateway after_it done latest closed open_ sent waiting text line answered stands told tells late = record {
  parts = ap (λ lines. lines ++ line ∷ []) answered.parts ∙ append_assoc (lines_in closed) open_ (line ∷ []);
  stands = subst (λ made. Stands after_it (story_of (done ++ line ∷ []) line.moment (closed_events closed) made))
      (sym (open_meant-push done closed open_ line answered.parts)) stands;
  said = answered.said;
  waits = told ∙ waits_more done closed open_ line latest waiting answered.parts answered.waits;
  told = told_lines no_subscribers after_it (length done + 1) (length (done ++ line ∷ [])) line.moment closed
      (open_ ++ line ∷ []) sent text (sym (length-append done (line ∷ [])))
      (told_more no_subscribers gateway after_it (length done) latest closed open_ sent waiting text line answered.told
      tells late);
}

-- an epoch ends
pub closes : (gateway after_it : Solo) (done : List Line) (latest : ℕ) (closed : List (List Line))
    (open_ : List Line) (sent waiting text : List ℕ)
    → (answered : HasAnswered gateway done latest closed open_ sent waiting)
    → Stands after_it (with_end (story_of done latest (closed_events closed) (open_meant closed open_)))
    → text ≡ waiting ++ end_text (story_of done latest (closed_events closed) (open_meant closed open_))
    → gateway_of after_it ≡ gateway_of gateway → Waits after_it.gathered (length after_it.book) []
    → text ≡ waiting ++ told_closing (length gateway.book) answered.told.told
    → HasAnswered after_it done latest (closed ++ open_ ∷ []) [] (sent ++ text) []
closes gateway after_it done latest closed open_ sent waiting text answered stands told same nothing ends = record {
  parts = answered.parts ∙ sym (lines_in-push closed open_) ∙ sym (append-nil (lines_in (closed ++ open_ ∷ [])));
  stands = subst (λ events. Stands after_it (story_of done latest events [])) (sym (closed_events-push closed open_))
      stands;
  said = subst (λ t. SaysClosed (sent ++ t) (closed ++ open_ ∷ [])) (sym told)
      (said_more closed open_ sent waiting (length (book_of done)) answered.said
      (ap (λ lines. length (book_of lines)) answered.parts)
      (answered.waits ∙ ap (λ m. entries_text (entries_from (1 + length (lines_in closed)) (closed_events closed) m))
      (append-nil (open_meant closed open_)))
      answered.stands.none_beyond);
  waits = refl;
  told = told_closed no_subscribers gateway after_it (length done) latest closed open_ sent waiting text answered.told
      same nothing ends;
}

-- a bad line has its entry
bad_waits : (closed : List (List Line)) (open_ : List Line) (why : LineBad) (lines : ℕ) (waiting : List ℕ)
    → lines ≡ length (lines_in closed ++ open_) → waiting ≡ entries_text (open_entries closed open_ [])
    → waiting ++ ending_text (lines + 1) (BadLine why)
    ≡ entries_text (open_entries closed open_ (note (codes "line" ++ 32 ∷ word_of why) ∷ []))
bad_waits closed open_ why lines waiting counted waits =
    let first = 1 + length (lines_in closed) in
    let made = open_meant closed open_ in
    let text = codes "line" ++ 32 ∷ word_of why in
    let same : lines + 1 ≡ first + length made =
    omega (
      arith,
      counted,
      length-append (lines_in closed) open_,
      length-meant_from slices (lines_in closed) open_,
    ) in
    ap (λ prefix. prefix ++ text_line (entry.Line (line_entry.N (record { line = lines + 1; note = text }))))
    (waits ∙ ap (λ m. entries_text (entries_from first (closed_events closed) m)) (append-nil made))
    ∙ ap (λ n. entries_text (entries_from first (closed_events closed) made)
    ++ text_line (entry.Line (line_entry.N (record { line = n; note = text })))) same
    ∙ sym (entries_text-push first (closed_events closed) made (note text))

pub ending_waits : (ending : Ending) (done : List Line) (closed : List (List Line)) (open_ : List Line) (lines : ℕ)
    (waiting : List ℕ) → done ≡ lines_in closed ++ open_ → lines ≡ length done
    → waiting ≡ entries_text (open_entries closed open_ [])
    → waiting ++ ending_text (lines + 1) ending
    ≡ entries_text (open_entries closed open_ (stop_noted (stop_of ending (length done + 1))))
ending_waits Ended done closed open_ lines waiting parts counted waits = append-nil waiting ∙ waits
ending_waits ReadFault done closed open_ lines waiting parts counted waits = append-nil waiting ∙ waits
ending_waits (BadLine why) done closed open_ lines waiting parts counted waits =
    bad_waits closed open_ why lines waiting (counted ∙ ap length parts) waits
ending_waits LineLong done closed open_ lines waiting parts counted waits = append-nil waiting ∙ waits
ending_waits TooLong done closed open_ lines waiting parts counted waits = append-nil waiting ∙ waits
