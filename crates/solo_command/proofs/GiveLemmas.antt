-- The report that a gateway gives by what its subscribers hold.
use Rattle.std.proofs.Common.{◌≡◌, ℕ, ◌+◌, ◌≤◌, ◌<◌, ◌^◌, ◌==◌, false, Result, Ok, List, [], ◌∷◌, ◌++◌, length, map, flat_map, filter, refl, sym, ap, subst, ◌∙◌, append-nil, append_assoc, arith}
use Rattle.std.proofs.lemmas.Grind.{flat_map-append}
use Rattle.std.proofs.lemmas.List.{map-append}
use Rattle.trace_lines.specs.Input.{Stop, bad, long, big, ended}
use Rattle.trace_lines.specs.Line.{Line}
use Rattle.demux.specs.declared.decision.Decision.{Decision}
use Rattle.demux.specs.Resolved.{decided}
use Rattle.demux.proofs.MomentLemmas.{moment_if_ok}
use Rattle.report_lines.specs.Records.{Effected}
use Rattle.report_lines.specs.declared.entry.Entry.TheVariants as entry
use Rattle.lawful_run.specs.Cut.{IsCut, lines_in}
use Rattle.lawful_run.specs.Report.{epoch_entries, texts_of}
use Rattle.lawful_run.specs.Run.{by_slot}
use Rattle.lawful_run.specs.Trace.{is_whole, open_epoch}
use Rattle.lawful_run.proofs.CutLines.{epochs_are}
use Rattle.trace_run.specs.declared.ending.Ending.{Ending}
use Rattle.trace_run.specs.declared.ending.Ending.TheVariants.{Ended, ReadFault, BadLine, LineLong, TooLong}
use Rattle.trace_run.specs.Lines.{stop_of}
use Rattle.trace_run.specs.Report.{IsText, input_with}
use Rattle.trace_run.specs.Reporting.{IsDueFrom, SaysEpochs}
use Rattle.trace_run.proofs.EntryLemmas.{epoch_text, epochs_text-push, lines-append, texts-append}
use Rattle.solo_command.specs.Gateway.{AnswersLines, Gateway, Told}
use Rattle.solo_command.specs.Reports.{AnswersEpochs, Gives, is_of, opens_from, own_told, reports_of, stop_told, told_epoch, with_stop}
use Rattle.solo_command.proofs.EpochLemmas.{epoch_then, epochs_then}
use Rattle.solo_command.proofs.AnswerLemmas.{line_then}
use Rattle.solo_command.specs.declared.solo.Solo.{Solo}
use Rattle.solo_command.specs.Entries.{text_line}
use Rattle.solo_command.specs.Gathering.{charges_text, effects_text}
use Rattle.solo_command.specs.Holding.{HasRoom, HasTold, Holds, IsLate, Tells, Waits, gateway_of, told_closing, told_text}
use Rattle.solo_command.specs.Progress.{ending_text}
use Rattle.solo_command.specs.Report.{slices}
use Rattle.solo_command.proofs.HoldLemmas.{answers_hold}
use Rattle.solo_command.proofs.TextLemmas.{by_slot-none}

-- the entries of one line more
told_text-push : (told : List Told) (one : Told)
    → told_text (told ++ one ∷ []) ≡ told_text told ++ text_line (entry.Line one.entry)
told_text-push told one =
    let lines = map (λ (t : Told). t.entry) told in
    ap (λ entries. texts_of false (map entry.Line entries)) (map-append (λ (t : Told). t.entry) told (one ∷ []))
    ∙ lines-append false lines (one.entry ∷ [])
    ∙ ap (λ text. told_text told ++ text) (append-nil (text_line (entry.Line one.entry)))

told_text-append : (told more : List Told) → told_text (told ++ more) ≡ told_text told ++ told_text more
told_text-append told more =
    ap (λ entries. texts_of false (map entry.Line entries)) (map-append (λ (t : Told). t.entry) told more)
    ∙ lines-append false (map (λ (t : Told). t.entry) told) (map (λ (t : Told). t.entry) more)

-- nothing is answered yet
pub told_nothing : (gateway : Solo) (latest : ℕ) → Holds 0 latest (gateway_of gateway)
    → Waits gateway.gathered (length gateway.book) [] → HasTold (gateway_of gateway) gateway 0 latest [] [] [] []
told_nothing gateway latest holds waits = record {
  between = gateway_of gateway;
  reports = [];
  told = [];
  whole = refl;
  answers = refl;
  said = refl;
  waits = refl;
  gathered = waits;
  holds = holds;
}

-- a line is answered
pub told_more : (first : Gateway) (gateway after_it : Solo) (lines latest : ℕ) (closed : List (List Line))
    (open_ : List Line) (sent waiting text : List ℕ) (line : Line)
    → HasTold first gateway lines latest closed open_ sent waiting
    → Tells line.number (decided slices gateway.book line) gateway after_it waiting text → latest ≤ line.moment
    → HasTold first after_it (lines + 1) line.moment closed (open_ ++ line ∷ []) sent text
told_more first gateway after_it lines latest closed open_ sent waiting text line so_far tells late =
    let one = tells.told in
    let answer : Result Decision ℕ = Ok (decided slices gateway.book line) in
    record {
      between = so_far.between;
      reports = so_far.reports;
      told = so_far.told ++ one ∷ [];
      whole = so_far.whole;
      answers = line_then slices open_ line so_far.between (gateway_of gateway) (gateway_of after_it) so_far.told one
          so_far.answers tells.answers;
      said = so_far.said;
      waits = tells.written ∙ ap (λ t. t ++ text_line (entry.Line one.entry)) so_far.waits
          ∙ sym (told_text-push so_far.told one);
      gathered = tells.waits so_far.told so_far.gathered;
      holds = answers_hold slices line.number lines latest line.moment (decided slices gateway.book line)
          (gateway_of gateway) (gateway_of after_it) one tells.answers so_far.holds late
          (moment_if_ok slices gateway.book line answer refl);
    }

-- the same behind as many lines, told otherwise
pub told_lines : (first : Gateway) (gateway : Solo) (lines more latest : ℕ) (closed : List (List Line))
    (open_ : List Line) (sent waiting : List ℕ) → lines ≡ more
    → HasTold first gateway lines latest closed open_ sent waiting
    → HasTold first gateway more latest closed open_ sent waiting
told_lines first gateway lines more latest closed open_ sent waiting same so_far =
    subst (λ n. HasTold first gateway n latest closed open_ sent waiting) same so_far

-- an epoch ends
pub told_closed : (first : Gateway) (gateway after_it : Solo) (lines latest : ℕ) (closed : List (List Line))
    (open_ : List Line) (sent waiting text : List ℕ)
    → (so_far : HasTold first gateway lines latest closed open_ sent waiting)
    → gateway_of after_it ≡ gateway_of gateway → Waits after_it.gathered (length after_it.book) []
    → text ≡ waiting ++ told_closing (length gateway.book) so_far.told
    → HasTold first after_it lines latest (closed ++ open_ ∷ []) [] (sent ++ text) []
told_closed first gateway after_it lines latest closed open_ sent waiting text so_far same waits is =
    let now = told_epoch (length gateway.book) so_far.told in
    let before = texts_of false (flat_map epoch_entries so_far.reports) in
    record {
      between = gateway_of gateway;
      reports = so_far.reports ++ now ∷ [];
      told = [];
      whole = epoch_then slices closed open_ first so_far.between (gateway_of gateway) so_far.reports so_far.told
          so_far.whole so_far.answers;
      answers = same;
      said = ap (λ s. s ++ text) so_far.said
          ∙ ap (λ t. before ++ t) (is
          ∙ ap (λ w. w ++ told_closing (length gateway.book) so_far.told) so_far.waits)
          ∙ sym (epochs_text-push false so_far.reports now);
      waits = refl;
      gathered = waits;
      holds = subst (Holds lines latest) (sym same) so_far.holds;
    }

-- no line, and no other gateway
nothing_more : (between new : Gateway) (told : List Told) → AnswersLines slices [] between told new → new ≡ between
nothing_more between new [] answers = answers
nothing_more between new (one ∷ told) answers = absurd answers

-- the report of whole epochs
pub gives_closed : (first : Gateway) (gateway : Solo) (lines latest : ℕ) (closed : List (List Line))
    (sent : List ℕ) → (so_far : HasTold first gateway lines latest closed [] sent []) → IsCut (lines_in closed) closed []
    → Gives slices first (input_with (lines_in closed))
    (record { epochs = so_far.reports; opens = opens_from 0 gateway.subscribers.items })
gives_closed first gateway lines latest closed sent so_far cut =
    let last = gateway_of gateway in
    let none : last ≡ so_far.between = nothing_more so_far.between last so_far.told so_far.answers in
    let all : AnswersEpochs slices (closed ++ []) [] first (so_far.reports ++ []) last =
    epochs_then slices closed [] [] first so_far.between last so_far.reports [] cut.whole so_far.whole (refl, none) in
    record {
      last = last;
      epochs = subst (λ epochs. AnswersEpochs slices epochs [] first so_far.reports last)
          (sym (epochs_are (lines_in closed) closed [] cut))
          (subst (λ reports. AnswersEpochs slices (closed ++ []) [] first reports last) (append-nil so_far.reports) all);
      opens = refl;
    }

pub says_given : (first : Gateway) (gateway : Solo) (lines latest : ℕ) (closed : List (List Line)) (sent : List ℕ)
    → HasTold first gateway lines latest closed [] sent [] → IsCut (lines_in closed) closed []
    → SaysEpochs (Gives slices first) false closed sent
says_given first gateway lines latest closed sent so_far cut = record {
  report = record { epochs = so_far.reports; opens = opens_from 0 gateway.subscribers.items };
  allowed = gives_closed first gateway lines latest closed sent so_far cut;
  written = so_far.said;
}

-- its whole text
pub given_text : (first : Gateway) (gateway : Solo) (lines latest : ℕ) (closed : List (List Line)) (sent : List ℕ)
    → HasTold first gateway lines latest closed [] sent [] → IsCut (lines_in closed) closed []
    → IsText (Gives slices first) false (input_with (lines_in closed))
    (sent ++ charges_text (opens_from 0 gateway.subscribers.items))
given_text first gateway lines latest closed sent so_far cut =
    let opens = opens_from 0 gateway.subscribers.items in
    record {
      report = record { epochs = so_far.reports; opens = opens };
      allowed = gives_closed first gateway lines latest closed sent so_far cut;
      written = ap (λ s. s ++ charges_text opens) so_far.said
          ∙ sym (texts-append false (flat_map epoch_entries so_far.reports) (map entry.Charge opens));
    }

-- the note on a bad line
note_text : (ending : Ending) (number : ℕ) → ending_text number ending ≡ told_text (stop_told (stop_of ending number))
note_text Ended number = refl
note_text ReadFault number = refl
note_text (BadLine why) number = sym (append-nil (ending_text number (BadLine why)))
note_text LineLong number = refl
note_text TooLong number = refl

-- nothing else waits of it
note_effects : (stop : Stop) → flat_map (λ (one : Told). one.effects) (stop_told stop) ≡ []
note_effects (bad n why) = refl
note_effects (long n) = refl
note_effects big = refl
note_effects ended = refl

note_rows : (stop : Stop) → flat_map (λ (one : Told). one.rows) (stop_told stop) ≡ []
note_rows (bad n why) = refl
note_rows (long n) = refl
note_rows big = refl
note_rows ended = refl

closing_noted : (slots : ℕ) (told : List Told) (stop : Stop)
    → told_closing slots told ≡ told_closing slots (told ++ stop_told stop)
closing_noted slots told stop =
    let effects : flat_map (λ (one : Told). one.effects) told
    ≡ flat_map (λ (one : Told). one.effects) (told ++ stop_told stop) =
    sym (flat_map-append (λ (one : Told). one.effects) told (stop_told stop)
    ∙ ap (λ more. flat_map (λ (one : Told). one.effects) told ++ more) (note_effects stop)
    ∙ append-nil (flat_map (λ (one : Told). one.effects) told)) in
    let rows : flat_map (λ (one : Told). one.rows) told
    ≡ flat_map (λ (one : Told). one.rows) (told ++ stop_told stop) =
    sym (flat_map-append (λ (one : Told). one.rows) told (stop_told stop)
    ∙ ap (λ more. flat_map (λ (one : Told). one.rows) told ++ more) (note_rows stop)
    ∙ append-nil (flat_map (λ (one : Told). one.rows) told)) in
    λ i. effects_text (by_slot slots (λ slot. filter (λ (effected : Effected). effected.slot == slot) (effects i)))
    ++ charges_text (by_slot slots (λ slot. filter (is_of slot) (rows i)))

-- the text of the last epoch, where it has lines or a note
own_text : (slots : ℕ) (told : List Told) → texts_of false (flat_map epoch_entries (reports_of slots (own_told told)))
    ≡ told_text told ++ told_closing slots told
own_text slots [] =
    let effects : by_slot slots (λ slot. filter (λ (effected : Effected). effected.slot == slot) []) ≡ [] =
    by_slot-none slots (λ slot. []) (λ slot. refl) in
    let rows : by_slot slots (λ slot. filter (is_of slot) []) ≡ [] =
    by_slot-none slots (λ slot. []) (λ slot. refl) in
    sym (λ i. effects_text (effects i) ++ charges_text (rows i))
own_text slots (one ∷ told) =
    let now = told_epoch slots (one ∷ told) in
    ap (texts_of false) (append-nil (epoch_entries now)) ∙ epoch_text false now

-- the report of epochs, and of the lines of one that is open still
ends_with : (between last : Gateway) (open_ : List Line) (stop : Stop) (told : List Told) → is_whole [] open_ ≡ false
    → AnswersLines slices open_ between told last
    → AnswersEpochs slices (open_epoch open_) (stop_told stop) between
    (reports_of (length last.book) (own_told (told ++ stop_told stop))) last
ends_with between last [] stop [] unfinished answers =
    (ap (λ (g : Gateway). reports_of (length g.book) (own_told (stop_told stop))) answers, answers)
ends_with between last [] stop (one ∷ told) unfinished answers = absurd answers
ends_with between last (line ∷ open_) stop [] unfinished answers = absurd answers
ends_with between last (line ∷ open_) stop (one ∷ told) unfinished answers = (
  one ∷ told,
  answers,
  sym (ap (λ b. reports_of (length last.book) (with_stop b (one ∷ told) (stop_told stop))) unfinished),
)

-- the whole report
pub gives_due : (first : Gateway) (gateway : Solo) (ending : Ending) (done : List Line) (number lines latest : ℕ)
    (count : ℕ) (closed : List (List Line)) (open_ : List Line) (sent waiting noted ended_ text : List ℕ)
    → (so_far : HasTold first gateway count latest closed open_ sent waiting) → IsCut done closed open_
    → lines + 1 ≡ length done + number
    → noted ≡ waiting ++ ending_text (lines + 1) ending
    → ended_ ≡ noted ++ told_closing (length gateway.book) so_far.told
    → text ≡ ended_ ++ charges_text (opens_from 0 gateway.subscribers.items)
    → IsDueFrom number (Gives slices first) false ending done (sent ++ text)
gives_due first gateway ending done number lines latest count closed open_ sent waiting noted ended_ text so_far cut
    counted first_ second third =
    let stop = stop_of ending (length done + number) in
    let last = gateway_of gateway in
    let slots = length gateway.book in
    let opens = opens_from 0 gateway.subscribers.items in
    let all = so_far.told ++ stop_told stop in
    let more = reports_of slots (own_told all) in
    let epochs = so_far.reports ++ more in
    let prefix = texts_of false (flat_map epoch_entries so_far.reports) in
    let closing = told_closing slots all in
    let noted_is : noted ≡ told_text all =
    first_ ∙ (λ i. so_far.waits i ++ ending_text (counted i) ending)
    ∙ ap (λ t. told_text so_far.told ++ t) (note_text ending (length done + number))
    ∙ sym (told_text-append so_far.told (stop_told stop)) in
    let last_is : ended_ ≡ texts_of false (flat_map epoch_entries more) =
    second ∙ (λ i. noted_is i ++ closing_noted slots so_far.told stop i) ∙ sym (own_text slots all) in
    record {
      report = record { epochs = epochs; opens = opens };
      allowed = record {
        last = last;
        epochs = subst (λ cuts. AnswersEpochs slices cuts (stop_told stop) first epochs last)
            (sym (epochs_are done closed open_ cut))
            (epochs_then slices closed (open_epoch open_) (stop_told stop) first so_far.between last so_far.reports more
            cut.whole so_far.whole
            (ends_with so_far.between last open_ stop so_far.told cut.unfinished so_far.answers));
        opens = refl;
      };
      written = ap (λ t. sent ++ t) (third ∙ ap (λ t. t ++ charges_text opens) last_is)
          ∙ ap (λ t. t ++ (texts_of false (flat_map epoch_entries more) ++ charges_text opens)) so_far.said
          ∙ sym (append_assoc prefix (texts_of false (flat_map epoch_entries more)) (charges_text opens))
          ∙ ap (λ t. t ++ charges_text opens)
          (sym (texts-append false (flat_map epoch_entries so_far.reports) (flat_map epoch_entries more))
          ∙ ap (texts_of false) (sym (flat_map-append epoch_entries so_far.reports more)))
          ∙ sym (texts-append false (flat_map epoch_entries epochs) (map entry.Charge opens));
    }

-- the same where the gateway that tells its open counters is the one behind the last epoch
pub gives_after : (first : Gateway) (gateway after_it : Solo) (ending : Ending) (done : List Line)
    (number lines latest count : ℕ) (closed : List (List Line)) (open_ : List Line)
    (sent waiting noted ended_ text : List ℕ)
    → (so_far : HasTold first gateway count latest closed open_ sent waiting) → IsCut done closed open_
    → lines + 1 ≡ length done + number
    → noted ≡ waiting ++ ending_text (lines + 1) ending
    → ended_ ≡ noted ++ told_closing (length gateway.book) so_far.told
    → gateway_of after_it ≡ gateway_of gateway
    → text ≡ ended_ ++ charges_text (opens_from 0 after_it.subscribers.items)
    → IsDueFrom number (Gives slices first) false ending done (sent ++ text)
gives_after first gateway after_it ending done number lines latest count closed open_ sent waiting noted ended_ text
    so_far cut counted first_ second same third =
    gives_due first gateway ending done number lines latest count closed open_ sent waiting noted ended_ text so_far cut
    counted first_ second
    (third ∙ ap (λ (g : Gateway). ended_ ++ charges_text (opens_from 0 g.subscribers)) same)

-- so the next line may be answered
pub may_enter_room : (first : Gateway) (gateway : Solo) (lines latest : ℕ) (closed : List (List Line))
    (open_ : List Line) (sent waiting : List ℕ) → HasTold first gateway lines latest closed open_ sent waiting
    → lines < 2 ^ 39 → HasRoom gateway
may_enter_room first gateway lines latest closed open_ sent waiting so_far few =
    record { lines = lines; latest = latest; holds = so_far.holds; few = omega (arith, few) }

pub may_enter_late : (first : Gateway) (gateway : Solo) (lines latest : ℕ) (closed : List (List Line))
    (open_ : List Line) (sent waiting : List ℕ) (moment : ℕ)
    → HasTold first gateway lines latest closed open_ sent waiting → latest ≤ moment → IsLate gateway moment
may_enter_late first gateway lines latest closed open_ sent waiting moment so_far late =
    record { lines = lines; latest = latest; holds = so_far.holds; late = late }
