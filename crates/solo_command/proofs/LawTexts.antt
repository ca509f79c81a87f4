-- The same of octets that end with a FENCE.
use Rattle.std.proofs.Common.{◌≡◌, ℕ, ◌+◌, ◌-◌, ◌^◌, ◌<◌, ◌≤◌, ◌==◌, ◌≢◌, ◌||◌, Bool, true, false, List, [], ◌∷◌, ◌++◌, length, map, take, Result, Ok, Err, refl, sym, ap, ◌∙◌, subst, arith, append-nil, append_assoc, length-take}
use Rattle.std.specs.Prelude.{if◌then◌else◌, nat_le, nat_lt}
use Rattle.std.specs.List.{flat_map, slice_split}
use Rattle.std.proofs.lemmas.Bool.Decides.{nat_tests}
use Rattle.std.proofs.lemmas.List.{take_all}
use Rattle.std.proofs.lemmas.List.Concat.{flat_map-append}
use Rattle.std.proofs.lemmas.List.Elements.{All-nil}
use Rattle.std.proofs.lemmas.List.Splits.{length-slice_split}
use Rattle.std.proofs.lemmas.List.Sums.{count_by-le-length}
use Rattle.pc_outside.specs.Limits.{input_max, line_max, newline}
use Rattle.text_fields.specs.Fields.{is_empty}
use Rattle.trace_lines.specs.Epochs.{ends_epoch, is_fence, octets_in}
use Rattle.trace_lines.specs.Text.{line_text}
use Rattle.trace_lines.specs.Input.{Input, after_lines, big, ended, input_of, input_within, line_then, long, pieces_meaning, stopped}
use Rattle.trace_lines.specs.Line.{Line}
use Rattle.trace_lines.specs.Meaning.{line_meaning}
use Rattle.trace_lines.specs.declared.bad.LineBad.{LineBad}
use Rattle.trace_lines.proofs.InputLemmas.{at_end}
use Rattle.report_lines.specs.Text.{entry_text, shown}
use Rattle.report_lines.specs.declared.entry.Entry.{Entry}
use Rattle.report_lines.specs.declared.entry.Entry.TheVariants as entry
use Rattle.lawful_run.specs.Cut.{IsCut}
use Rattle.lawful_run.specs.Report.{EpochReport, Report, entries_of, epoch_entries, texts_of}
use Rattle.lawful_run.proofs.CutLines.{cut_nothing, cut_open, cut_whole}
use Rattle.trace_run.specs.Report.{input_with}
use Rattle.solo_command.specs.Gateway.{no_subscribers}
use Rattle.solo_command.specs.Reports.{Gives, IsResumed}
use Rattle.solo_command.specs.Law.{EndWithFence, ResumedTextsGoOn}
use Rattle.solo_command.proofs.LawLemmas.{reports_go_on}
use Rattle.solo_command.proofs.Octets.{Say, all_said, ends_at_last}
use Rattle.at_rest.specs.Coming.{latest_behind}

-- ---- lines are cut into whole epochs and an open one; behind a FENCE none is open

record Cut (done : List Line) : Type 0 where
  closed : List (List Line)
  open_ : List Line
  cut : IsCut done closed open_

cut_if : (done : List Line) (line : Line) (so_far : Cut done) (ends : Bool) → ends_epoch so_far.open_ line ≡ ends
    → Cut (done ++ line ∷ [])
cut_if done line so_far true is = record {
  closed = so_far.closed ++ (so_far.open_ ++ line ∷ []) ∷ [];
  open_ = [];
  cut = cut_whole done so_far.closed so_far.open_ line so_far.cut is;
}
cut_if done line so_far false is = record {
  closed = so_far.closed;
  open_ = so_far.open_ ++ line ∷ [];
  cut = cut_open done so_far.closed so_far.open_ line so_far.cut is;
}

cut_on : (done lines : List Line) → Cut done → Cut (done ++ lines)
cut_on done [] so_far = subst Cut (sym (append-nil done)) so_far
cut_on done (line ∷ lines) so_far =
    subst Cut (append_assoc done (line ∷ []) lines)
    (cut_on (done ++ line ∷ []) lines (cut_if done line so_far (ends_epoch so_far.open_ line) refl))

pub cut_at_fence : (earlier : List Line) (last : Line) → is_fence last.kind ≡ true
    → (closed : List (List Line)) × IsCut (earlier ++ last ∷ []) closed []
cut_at_fence earlier last fence =
    let so_far : Cut earlier = cut_on [] earlier (record { closed = []; open_ = []; cut = cut_nothing }) in
    let ends : ends_epoch so_far.open_ last ≡ true =
    ap (λ b. b || nat_le 65536 (length so_far.open_ + 1)
    || nat_le 67108864 (octets_in so_far.open_ + length (line_text last))) fence in
    (so_far.closed ++ (so_far.open_ ++ last ∷ []) ∷ [], cut_whole earlier so_far.closed so_far.open_ last so_far.cut ends)

-- ---- the room doesn't matter where it isn't filled

pub any_room : (room more number least : ℕ) (octets : List ℕ) → length octets < room → length octets < more
    → input_within room number least octets ≡ input_within more number least octets
unfolding input_within
any_room room more number least octets fits fits_too =
    let one : nat_le room (length octets) ≡ false = grind (arith, nat_tests) in
    let two : nat_le more (length octets) ≡ false = grind (arith, nat_tests) in
    let cut : List ℕ → List (List ℕ) = slice_split (λ octet. octet == newline) in
    ap (λ b. pieces_meaning b number least (cut (take room octets))) (one ∙ sym two)
    ∙ ap (λ os. pieces_meaning (nat_le more (length octets)) number least (cut os))
    (take_all room octets (omega arith) ∙ sym (take_all more octets (omega arith)))

-- ---- there are no more lines than octets and one

then_most : (number : ℕ) (read : Result Line LineBad) (behind : Line → Input) (most : ℕ)
    → ((line : Line) → length (behind line).lines ≤ most) → length (line_then number read behind).lines ≤ most + 1
then_most number (Ok line) behind most few = omega (arith, few line)
then_most number (Err why) behind most few = omega arith

test_most : (test : Bool) (one other : Input) (most : ℕ) → length one.lines ≤ most → length other.lines ≤ most
    → length (if test then one else other).lines ≤ most
test_most true one other most first second = first
test_most false one other most first second = second

pieces_most : (full : Bool) (number least : ℕ) (pieces : List (List ℕ))
    → length (pieces_meaning full number least pieces).lines ≤ length pieces
pieces_most full number least [] = omega arith
pieces_most full number least (rest ∷ []) =
    let last : Input = line_then number (line_meaning least number rest) (λ _. stopped ended) in
    let few : length last.lines ≤ 0 + 1 =
    then_most number (line_meaning least number rest) (λ _. stopped ended) 0 (λ line. omega arith) in
    test_most (nat_lt line_max (length rest)) (stopped (long number))
    (if full then stopped big else if is_empty rest then stopped ended else last) 1 (omega arith)
    (test_most full (stopped big) (if is_empty rest then stopped ended else last) 1 (omega arith)
    (test_most (is_empty rest) (stopped ended) last 1 (omega arith) (omega arith)))
pieces_most full number least (line ∷ next ∷ pieces) =
    let behind : Line → Input = λ l. pieces_meaning full (number + 1) l.moment (next ∷ pieces) in
    let few : length (line_then number (line_meaning least number line) behind).lines ≤ length (next ∷ pieces) + 1 =
    then_most number (line_meaning least number line) behind (length (next ∷ pieces))
    (λ l. pieces_most full (number + 1) l.moment (next ∷ pieces)) in
    test_most (nat_lt line_max (length line)) (stopped (long number))
    (line_then number (line_meaning least number line) behind) (length (line ∷ next ∷ pieces)) (omega arith)
    (omega arith)

pub lines_most : (room number least : ℕ) (octets : List ℕ)
    → length (input_within room number least octets).lines ≤ length octets + 1
unfolding input_within
lines_most room number least octets =
    let looked : List ℕ = take room octets in
    omega (
      arith,
      pieces_most (nat_le room (length octets)) number least (slice_split (λ octet. octet == newline) looked),
      length-slice_split (λ octet. octet == newline) looked,
      count_by-le-length (λ octet. octet == newline) looked,
      length-take_most room octets,
    )
  where
    length-take_most : (n : ℕ) (xs : List ℕ) → length (take n xs) ≤ length xs
    length-take_most n xs = omega (arith, length-take n xs)

-- ---- texts

pub texts_split : (entries more : List Entry) → texts_of false (entries ++ more) ≡ texts_of false entries ++ texts_of false more
texts_split entries more =
    flat_map-append (λ (told : Entry). entry_text (shown false told) ++ 10 ∷ []) entries more

-- the text of the whole report
whole_text : (whole first resumed : Report) → whole.epochs ≡ first.epochs ++ resumed.epochs
    → whole.opens ≡ resumed.opens
    → texts_of false (entries_of whole)
    ≡ texts_of false (flat_map epoch_entries first.epochs) ++ texts_of false (entries_of resumed)
whole_text whole first resumed epochs opens =
    let charges = map entry.Charge resumed.opens in
    let all : entries_of whole ≡ flat_map epoch_entries first.epochs ++ entries_of resumed =
    ap (λ (es : List EpochReport). flat_map epoch_entries es ++ map entry.Charge whole.opens) epochs
    ∙ ap (λ os. flat_map epoch_entries (first.epochs ++ resumed.epochs) ++ map entry.Charge os) opens
    ∙ ap (λ (es : List Entry). es ++ charges) (flat_map-append epoch_entries first.epochs resumed.epochs)
    ∙ append_assoc (flat_map epoch_entries first.epochs) (flat_map epoch_entries resumed.epochs) charges in
    ap (texts_of false) all ∙ texts_split (flat_map epoch_entries first.epochs) (entries_of resumed)

-- what both parts say: the lines of the first, and what the second says behind them
pub whole_says : (octets behind : List ℕ) (room : ℕ) → EndWithFence octets → length octets + length behind < 2 ^ 40
    → length behind < room
    → input_of (octets ++ behind) ≡ after_lines (input_of octets).lines
    (input_within room (length (input_of octets).lines + 1) (latest_behind 0 (input_of octets).lines) behind)
whole_says octets behind room fenced short roomy =
    let extra = 2 ^ 40 - length octets in
    let rooms : 2 ^ 40 ≡ length octets + extra = omega arith in
    let stops : (input_within (length octets + extra) 1 0 octets).stop ≡ ended =
    subst (λ r. (input_within r 1 0 octets).stop ≡ ended) rooms fenced.stop in
    let said : Say 1 0 octets =
    all_said 1 0 extra [] octets (All-nil (λ o. o ≢ newline)) (ends_at_last octets fenced.prefix fenced.parts) stops in
    let lines = said.lines in
    let whole_input : input_of (octets ++ behind)
    ≡ after_lines lines (input_within extra (1 + length lines) (latest_behind 0 lines) behind) =
    ap (λ r. input_within r 1 0 (octets ++ behind)) rooms ∙ said.says extra behind in
    let own_input : input_of octets ≡ after_lines lines (input_within extra (1 + length lines) (latest_behind 0 lines) []) =
    ap (λ r. input_within r 1 0 octets) rooms
    ∙ ap (input_within (length octets + extra) 1 0) (sym (append-nil octets)) ∙ said.says extra [] in
    let own_lines : (input_of octets).lines ≡ lines =
    ap (λ (i : Input). i.lines) own_input
    ∙ ap (λ (i : Input). lines ++ i.lines) (at_end extra (1 + length lines) (latest_behind 0 lines) (omega arith))
    ∙ append-nil lines in
    let numbers : 1 + length lines ≡ length lines + 1 = omega arith in
    whole_input
    ∙ ap (after_lines lines)
    (any_room extra room (1 + length lines) (latest_behind 0 lines) behind (omega arith) roomy
    ∙ ap (λ n. input_within room n (latest_behind 0 lines) behind) numbers)
    ∙ ap (λ (ls : List Line). after_lines ls (input_within room (length ls + 1) (latest_behind 0 ls) behind))
    (sym own_lines)

-- the lines of an input that ends are all that it says
own_says : (octets : List ℕ) → (input_of octets).stop ≡ ended → input_of octets ≡ input_with (input_of octets).lines
own_says octets stop = λ i. record { lines = (input_of octets).lines; stop = stop i }

pub texts_go_on : ResumedTextsGoOn
texts_go_on octets behind text file first whole resumed fenced short saved_short left written gives whole_is resumed_is =
    let lines = (input_of octets).lines in
    let room = 2 ^ 40 - length text in
    let next = input_within room (length lines + 1) (latest_behind 0 lines) behind in
    let whole_input : input_of (octets ++ behind) ≡ after_lines lines next =
    whole_says octets behind room fenced short (omega arith) in
    let resumed_input : input_within room (file.lines + 1) file.moment behind ≡ next =
    ap (λ n. input_within room (n + 1) file.moment behind) left.count
    ∙ ap (λ m. input_within room (length lines + 1) m behind) left.moment in
    let cut = cut_at_fence fenced.earlier fenced.last (ap is_fence fenced.fence) in
    let few : length lines + length next.lines < 2 ^ 50 =
    omega (
      arith,
      lines_most room (length lines + 1) (latest_behind 0 lines) behind,
      lines_most input_max 1 0 octets,
    ) in
    let both = reports_go_on 64 lines next.lines cut.0 next.stop file whole_is.report first resumed_is.report
    (subst (λ (ls : List Line). IsCut ls cut.0 []) (sym fenced.lines) cut.1) few left
    (subst (λ (i : Input). Gives 64 no_subscribers i whole_is.report) whole_input whole_is.allowed)
    (subst (λ (i : Input). Gives 64 no_subscribers i first) (own_says octets fenced.stop) gives)
    (subst (λ (i : Input). IsResumed 64 file i resumed_is.report) resumed_input resumed_is.allowed) in
    whole_is.written ∙ whole_text whole_is.report first resumed_is.report both.0 both.1
    ∙ ap (λ (t : List ℕ). texts_of false (flat_map epoch_entries first.epochs) ++ t) (sym resumed_is.written)
