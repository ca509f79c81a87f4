-- The lines of a trace that were taken, with one more, and at their end.
use Rattle.std.proofs.Common.{◌≡◌, ◌≢◌, ℕ, ◌+◌, ◌*◌, ◌-◌, ◌<◌, ◌≤◌, ◌^◌, ◌⊎◌, true, false, if◌then◌else◌, Bool, Option, None, Some, Ok, Err, List, [], ◌∷◌, ◌++◌, All, codes, length, refl, sym, ap, subst, ◌∙◌, inl, inr, arith, append_assoc, append-nil, length-append}
use Rattle.std.proofs.lemmas.Grind.{flat_map-append}
use Rattle.std.proofs.lemmas.List.{length-map}
use Rattle.std.proofs.lemmas.List.Elements.{All-cons, All-nil}
use Rattle.trace_lines.specs.Epochs.{ends_epoch, octets_in}
use Rattle.trace_lines.specs.Line.{Line}
use Rattle.trace_lines.specs.Meaning.{line_meaning}
use Rattle.trace_lines.specs.Text.{line_text}
use Rattle.trace_lines.specs.Word.{word_of}
use Rattle.trace_lines.specs.declared.bad.LineBad.{LineBad}
use Rattle.trace_lines.specs.declared.bad.LineBad.TheVariants as whys
use Rattle.demux.specs.Meant.{meaning_of}
use Rattle.demux.specs.Trace.{Meaning, destination_after}
use Rattle.demux.specs.declared.meant.Meant.{Meant}
use Rattle.demux.specs.declared.meant.Meant.TheVariants as meant
use Rattle.at_rest.specs.Coming.{AreLater, latest_behind}
use Rattle.at_rest.specs.Meant.{Turned, bound_of}
use Rattle.lawful_run.specs.Cut.{lines_in}
use Rattle.lawful_run.specs.Run.{no_events}
use Rattle.lawful_run.specs.Trace.{epochs_told, meant_epochs, meant_from, meant_next, own_epoch, stop_noted}
use Rattle.lawful_run.proofs.CutEpochs.{meant_from-append}
use Rattle.lawful_run.proofs.CutLines.{count_meant, cut_nothing, cut_open, cut_whole, length-meant_from, meant_epochs-push, octets_more, stays_short}
use Rattle.audit_core.specs.Belonging.{ends_from}
use Rattle.audit_core.specs.Entries.{all_lines}
use Rattle.audit_core.specs.Heard.{SaysTrace}
use Rattle.audit_core.specs.Holding.{AreKnown, IsKnown}
use Rattle.slot_execution.specs.Kept.{meaning_in}
use Rattle.audit_core.specs.Kept.{ArePlaced, Keeps, meanings_in}
use Rattle.audit_core.specs.Said.{trace_from}
use Rattle.audit_core.specs.Setups.{input_with, stop_of}
use Rattle.pc_outside.specs.Texts.{Text}
use Rattle.audit_core.specs.TraceTaken.{HasTakenTrace, IsClosed, LeavesRest, TakesLines, has_stopped, weight_of}
use Rattle.slot_execution.specs.declared.kept.KeptMeaning.{KeptMeaning}
use Rattle.slot_execution.specs.declared.kept.KeptMeaning.TheVariants as kept
use Rattle.audit_core.specs.declared.setup.BadAt.{BadAt}
use Rattle.audit_core.specs.declared.trace.Trace.{Trace}
use Rattle.audit_core.proofs.CutLemmas.{all_own, epochs_mean}
use Rattle.audit_core.proofs.HeardLemmas.{passed_over}
use Rattle.audit_core.proofs.KeptLemmas.{keeps_alone, kept_more, placed_more}
use Rattle.audit_core.proofs.KnownLemmas.{told_known}
use Rattle.audit_core.proofs.SaidLemmas.{next_bad, next_line, some_text}

-- lines that come in time, with one more
pub later_more : (latest : ℕ) (lines : List Line) (line : Line) → AreLater latest lines
    → latest_behind latest lines ≤ line.moment → AreLater latest (lines ++ line ∷ [])
later_more latest [] line later late = (late, tt)
later_more latest (first ∷ lines) line later late = (later.0, later_more first.moment lines line later.1 late)

pub latest_more : (latest : ℕ) (lines : List Line) (line : Line)
    → latest_behind latest (lines ++ line ∷ []) ≡ line.moment
latest_more latest [] line = refl
latest_more latest (first ∷ lines) line = latest_more first.moment lines line

-- all lines of epochs, with one epoch more, and where they end
all_more : (made : List (List Meaning)) (last : List Meaning) → all_lines (made ++ last ∷ []) ≡ all_lines made ++ last
all_more made last =
    flat_map-append (λ (own : List Meaning). own) made (last ∷ []) ∙ ap (λ l. all_lines made ++ l) (append-nil last)

ends_more : (before : ℕ) (made : List (List Meaning)) (last : List Meaning)
    → ends_from before (made ++ last ∷ [])
    ≡ ends_from before made ++ (before + length (all_lines made) + length last) ∷ []
ends_more before [] last =
    let same : before + length last ≡ before + 0 + length last = omega arith in ap (λ k. k ∷ []) same
ends_more before (own ∷ made) last =
    let same : before + length own + length (all_lines made) + length last
    ≡ before + length (own ++ all_lines made) + length last = omega (arith, length-append own (all_lines made)) in
    ap (λ l. (before + length own) ∷ l) (ends_more (before + length own) made last
    ∙ ap (λ k. ends_from (before + length own) made ++ k ∷ []) same)

few_noted : (stop : Option BadAt) → length (stop_noted (stop_of stop)) ≤ 1
few_noted None = omega arith
few_noted (Some at) = omega arith

pub known_noted : (slots : ℕ) (stop : Option BadAt) → All (IsKnown slots) (stop_noted (stop_of stop))
known_noted slots None = All-nil (IsKnown slots)
known_noted slots (Some at) = All-cons (IsKnown slots) _ [] tt (All-nil (IsKnown slots))

-- as many lines are kept as were taken
pub count_kept : (trace : Trace) (slices : ℕ) (done : List Line) (stop : Option BadAt) → TakesLines trace slices done stop
    → length trace.kept.items ≡ length done + length (stop_noted (stop_of stop))
count_kept trace slices done stop takes =
    let closed = takes.closed in
    let open_ = takes.open_ in
    let whole = all_lines (meant_epochs slices [] closed) in
    let last = meant_from slices (lines_in closed) open_ in
    omega (
      arith,
      length-map trace.kept.items (meaning_in trace.octets.items),
      ap length takes.mean,
      length-append (whole ++ last) (stop_noted (stop_of stop)),
      length-append whole last,
      count_meant slices [] closed,
      length-meant_from slices (lines_in closed) open_,
      ap length takes.cut.parts,
      length-append (lines_in closed) open_,
    )

pub open_few : (trace : Trace) (slices : ℕ) (done : List Line) (stop : Option BadAt) → TakesLines trace slices done stop
    → trace.open_lines ≤ length trace.kept.items
open_few trace slices done stop takes =
    omega (
      arith,
      takes.open_lines,
      count_kept trace slices done stop takes,
      ap length takes.cut.parts,
      length-append (lines_in takes.closed) takes.open_,
    )

-- no lines
pub takes_none : (trace : Trace) (slices : ℕ) → LeavesRest trace slices [] → trace.kept.items ≡ []
    → trace.ends.items ≡ [] → trace.open_lines ≡ 0 → trace.open_octets ≡ 0 → trace.least ≡ 0
    → TakesLines trace slices [] None
takes_none trace slices leaves kept ends open_lines open_octets least = record {
  leaves = leaves;
  later = tt;
  closed = [];
  open_ = [];
  cut = cut_nothing;
  mean = ap (meanings_in trace.octets.items) kept;
  placed = subst (ArePlaced trace.octets.items) (sym kept) (All-nil _);
  ends = ends;
  open_lines = open_lines;
  open_octets = open_octets;
  latest = least;
  few = omega (arith, ap length kept);
}

-- what the book and the subscribers are behind one line more
leaves_more : (old new : Trace) (slices : ℕ) (done : List Line) (line : Line) (now : Meant)
    → LeavesRest old slices done → new.slices ≡ old.slices
    → Turned old.slices old.book old.subscribers.items line now new.book new.subscribers.items
    → LeavesRest new slices (done ++ line ∷ [])
leaves_more old new slices done line now leaves same turned =
    let turns : Turned slices old.book old.subscribers.items line now new.book new.subscribers.items =
    subst (λ k. Turned k old.book old.subscribers.items line now new.book new.subscribers.items) leaves.same_slices
    turned in
    record {
      same_slices = same ∙ leaves.same_slices;
      least = leaves.least;
      most = leaves.most;
      stand = turns.stand done leaves.stand;
      many = turns.many;
      rest = turns.rest 0 0 leaves.rest;
      no_event = turns.keep no_events leaves.no_event;
    }

-- what was taken, and one line more
module _ (old new : Trace) (slices : ℕ) (done : List Line) (line : Line) (now : Meant) (it : KeptMeaning)
    (takes : TakesLines old slices done None) (same : new.slices ≡ old.slices)
    (turned : Turned old.slices old.book old.subscribers.items line now new.book new.subscribers.items)
    (keeps : Keeps old.octets.items new.octets.items now it) (kept_is : new.kept.items ≡ old.kept.items ++ it ∷ [])
    (late : old.least ≤ line.moment) (least : new.least ≡ line.moment)
    (few : length old.kept.items + 1 < 2 ^ 40) where
  abbrev whole_made : List Meaning
  whole_made = all_lines (meant_epochs slices [] takes.closed)

  abbrev open_made : List Meaning
  open_made = meant_from slices (lines_in takes.closed) takes.open_

  begun_more : meant_from slices (lines_in takes.closed) (takes.open_ ++ line ∷ [])
      ≡ open_made ++ meant_next slices done line ∷ []
  begun_more =
      meant_from-append slices (lines_in takes.closed) takes.open_ (line ∷ [])
      ∙ ap (λ before. open_made ++ meant_next slices before line ∷ []) (sym takes.cut.parts)

  means_next : meaning_of now ≡ meant_next slices done line
  means_next =
      (subst (λ k. Turned k old.book old.subscribers.items line now new.book new.subscribers.items)
      takes.leaves.same_slices turned).means done takes.leaves.stand

  mean_more : meanings_in new.octets.items new.kept.items
      ≡ whole_made ++ meant_from slices (lines_in takes.closed) (takes.open_ ++ line ∷ [])
  mean_more =
      ap (meanings_in new.octets.items) kept_is
      ∙ kept_more old.octets.items new.octets.items old.kept.items now it takes.placed keeps
      ∙ ap (λ l. l ++ meaning_of now ∷ []) (takes.mean ∙ append-nil (whole_made ++ open_made))
      ∙ ap (λ m. (whole_made ++ open_made) ++ m ∷ []) means_next
      ∙ append_assoc whole_made open_made (meant_next slices done line ∷ [])
      ∙ ap (λ l. whole_made ++ l) (sym begun_more)

  placed_new : ArePlaced new.octets.items new.kept.items
  placed_new =
      subst (ArePlaced new.octets.items) (sym kept_is)
      (placed_more old.octets.items new.octets.items old.kept.items now it takes.placed keeps)

  count_new : length new.kept.items ≡ length old.kept.items + 1
  count_new = omega (arith, ap length kept_is, length-append old.kept.items (it ∷ []))

  later_new : AreLater 0 (done ++ line ∷ [])
  later_new = later_more 0 done line takes.later (omega (arith, late, takes.latest))

  pub takes_open : ends_epoch takes.open_ line ≡ false → new.ends.items ≡ old.ends.items
      → new.open_lines ≡ old.open_lines + 1
      → new.open_octets ≡ old.open_octets + length (line_text line) → TakesLines new slices (done ++ line ∷ []) None
  takes_open stays ends open_lines open_octets = record {
    leaves = leaves_more old new slices done line now takes.leaves same turned;
    later = later_new;
    closed = takes.closed;
    open_ = takes.open_ ++ line ∷ [];
    cut = cut_open done takes.closed takes.open_ line takes.cut stays;
    mean = mean_more ∙ sym (append-nil _);
    placed = placed_new;
    ends = ends ∙ takes.ends;
    open_lines = omega (arith, open_lines, takes.open_lines, length-append takes.open_ (line ∷ []));
    open_octets = omega (arith, open_octets, takes.open_octets, octets_more takes.open_ line);
    latest = least ∙ sym (latest_more 0 done line);
    few = omega (arith, count_new, few);
  }

  pub takes_whole : ends_epoch takes.open_ line ≡ true
      → new.ends.items ≡ old.ends.items ++ length new.kept.items ∷ [] → new.open_lines ≡ 0
      → new.open_octets ≡ 0 → TakesLines new slices (done ++ line ∷ []) None
  takes_whole ends_it ends open_lines open_octets =
      let epoch = takes.open_ ++ line ∷ [] in
      let made = meant_epochs slices [] takes.closed in
      let last = meant_from slices (lines_in takes.closed) epoch in
      let pushed : meant_epochs slices [] (takes.closed ++ epoch ∷ []) ≡ made ++ last ∷ [] =
      meant_epochs-push slices [] takes.closed epoch in
      let place : length new.kept.items ≡ 0 + length (all_lines made) + length last =
      omega (
        arith,
        length-map new.kept.items (meaning_in new.octets.items),
        ap length mean_more,
        length-append whole_made last,
      ) in
      record {
        leaves = leaves_more old new slices done line now takes.leaves same turned;
        later = later_new;
        closed = takes.closed ++ epoch ∷ [];
        open_ = [];
        cut = cut_whole done takes.closed takes.open_ line takes.cut ends_it;
        mean = mean_more ∙ sym (all_more made last) ∙ ap all_lines (sym pushed) ∙ sym (append-nil _)
            ∙ sym (append-nil _);
        placed = placed_new;
        ends = ends ∙ (λ i. takes.ends i ++ place i ∷ []) ∙ sym (ends_more 0 made last) ∙ ap (ends_from 0) (sym pushed);
        open_lines = open_lines;
        open_octets = open_octets;
        latest = least ∙ sym (latest_more 0 done line);
        few = omega (arith, count_new, few);
      }

-- the note on a bad line
pub takes_stop : (old new : Trace) (slices number : ℕ) (done : List Line) (why : LineBad) (text : List ℕ)
    → TakesLines old slices done None
    → new.slices ≡ old.slices → new.book ≡ old.book → new.subscribers ≡ old.subscribers
    → new.octets ≡ old.octets → new.ends ≡ old.ends → new.least ≡ old.least → new.open_octets ≡ old.open_octets
    → new.kept.items ≡ old.kept.items ++ kept.Note text ∷ [] → text ≡ codes "line" ++ 32 ∷ word_of why
    → new.open_lines ≡ old.open_lines + 1 → length old.kept.items + 1 < 2 ^ 40
    → TakesLines new slices done (Some (record { number = number; why = why }))
takes_stop old new slices number done why text takes same_slices same_book same_subscribers same_octets same_ends same_least
    same_open kept_is text_is open_lines few =
    let at : BadAt = record { number = number; why = why } in
    let octets = old.octets.items in
    let keeps : Keeps octets octets (meant.Note text) (kept.Note text) =
    keeps_alone octets (meant.Note text) (kept.Note text) refl tt in
    let whole = all_lines (meant_epochs slices [] takes.closed) in
    let last = meant_from slices (lines_in takes.closed) takes.open_ in
    let its = λ (t : List ℕ). meaning_of (meant.Note t) in
    record {
      leaves = record {
        same_slices = same_slices ∙ takes.leaves.same_slices;
        least = takes.leaves.least;
        most = takes.leaves.most;
        stand = rw (same_book, same_subscribers) takes.leaves.stand;
        many = rw (same_book, same_subscribers) takes.leaves.many;
        rest = rw same_subscribers takes.leaves.rest;
        no_event = rw same_subscribers takes.leaves.no_event;
      };
      later = takes.later;
      closed = takes.closed;
      open_ = takes.open_;
      cut = takes.cut;
      mean = (λ i. meanings_in (ap (λ v. v.items) same_octets i) (kept_is i))
          ∙ kept_more octets octets old.kept.items (meant.Note text) (kept.Note text) takes.placed keeps
          ∙ ap (λ l. l ++ its text ∷ []) (takes.mean ∙ append-nil (whole ++ last))
          ∙ ap (λ t. (whole ++ last) ++ its t ∷ []) text_is;
      placed = rw same_octets (subst (ArePlaced octets) (sym kept_is)
          (placed_more octets octets old.kept.items (meant.Note text) (kept.Note text) takes.placed keeps));
      ends = ap (λ v. v.items) same_ends ∙ takes.ends;
      open_lines = omega (arith, open_lines, takes.open_lines);
      open_octets = same_open ∙ takes.open_octets;
      latest = same_least ∙ takes.latest;
      few = omega (arith, ap length kept_is, length-append old.kept.items (kept.Note text ∷ []), few);
    }

-- the end of the lines
own_none : (made : List Meaning) → length made ≡ 0 → own_epoch made ≡ []
own_none [] none = refl
own_none (now ∷ later) none = absurd (omega (arith, none))

own_some : (made : List Meaning) → length made ≢ 0 → own_epoch made ≡ made ∷ []
own_some [] some = absurd (some refl)
own_some (now ∷ later) some = refl

module _ (old new : Trace) (slices : ℕ) (done : List Line) (stop : Option BadAt)
    (takes : TakesLines old slices done stop) where
  abbrev made : List (List Meaning)
  made = meant_epochs slices [] takes.closed

  abbrev left : List Meaning
  left = meant_from slices (lines_in takes.closed) takes.open_ ++ stop_noted (stop_of stop)

  told_is : epochs_told slices (input_with done stop) ≡ made ++ own_epoch left
  told_is = epochs_mean slices done takes.closed takes.open_ (stop_noted (stop_of stop)) takes.cut

  count_left : length left ≡ old.open_lines
  count_left =
      omega (
        arith,
        takes.open_lines,
        length-append (meant_from slices (lines_in takes.closed) takes.open_) (stop_noted (stop_of stop)),
        length-meant_from slices (lines_in takes.closed) takes.open_,
      )

  means_all : meanings_in old.octets.items old.kept.items ≡ all_lines made ++ left
  means_all =
      takes.mean ∙ append_assoc (all_lines made) (meant_from slices (lines_in takes.closed) takes.open_)
      (stop_noted (stop_of stop))

  all_told : all_lines (epochs_told slices (input_with done stop)) ≡ all_lines made ++ left
  all_told =
      ap all_lines told_is ∙ flat_map-append (λ (own : List Meaning). own) made (own_epoch left)
      ∙ ap (λ l. all_lines made ++ l) (all_own left)

  all_known : AreKnown (length old.subscribers.items) (epochs_told slices (input_with done stop))
  all_known =
      subst (AreKnown (length old.subscribers.items))
      (sym (epochs_mean slices done takes.closed takes.open_ (stop_noted (stop_of stop)) takes.cut))
      (told_known slices (length old.subscribers.items) done takes.closed takes.open_ (stop_noted (stop_of stop))
      takes.cut (omega (arith, takes.leaves.many, ap length takes.leaves.stand.book_is))
      (known_noted (length old.subscribers.items) stop))

  pub closed_already : old.open_lines ≡ 0 → IsClosed old slices done stop
  closed_already none =
      let empty : made ++ own_epoch left ≡ made =
      ap (λ l. made ++ l) (own_none left (omega (arith, none, count_left))) ∙ append-nil made in
      record {
        leaves = takes.leaves;
        later = takes.later;
        mean = means_all ∙ sym all_told;
        placed = takes.placed;
        ends = takes.ends ∙ ap (ends_from 0) (sym empty) ∙ ap (ends_from 0) (sym told_is);
        whole = none;
        known = all_known;
        few = takes.few;
      }

  pub closed_now : old.open_lines ≢ 0 → new.slices ≡ old.slices → new.book ≡ old.book
      → new.subscribers ≡ old.subscribers → new.octets ≡ old.octets → new.kept ≡ old.kept
      → new.ends.items ≡ old.ends.items ++ length old.kept.items ∷ [] → new.open_lines ≡ 0
      → IsClosed new slices done stop
  closed_now some same_slices same_book same_subscribers same_octets same_kept ends_are whole =
      let one : own_epoch left ≡ left ∷ [] = own_some left (λ none. some (omega (arith, none, count_left))) in
      let place : length old.kept.items ≡ 0 + length (all_lines made) + length left =
      omega (
        arith,
        length-map old.kept.items (meaning_in old.octets.items),
        ap length means_all,
        length-append (all_lines made) left,
      ) in
      record {
        leaves = record {
          same_slices = same_slices ∙ takes.leaves.same_slices;
          least = takes.leaves.least;
          most = takes.leaves.most;
          stand = rw (same_book, same_subscribers) takes.leaves.stand;
          many = rw (same_book, same_subscribers) takes.leaves.many;
          rest = rw same_subscribers takes.leaves.rest;
          no_event = rw same_subscribers takes.leaves.no_event;
        };
        later = takes.later;
        mean = rw (same_octets, same_kept) (means_all ∙ sym all_told);
        placed = rw (same_octets, same_kept) takes.placed;
        ends = ends_are ∙ (λ i. takes.ends i ++ place i ∷ []) ∙ sym (ends_more 0 made left)
            ∙ ap (λ l. ends_from 0 (made ++ l)) (sym one) ∙ ap (ends_from 0) (sym told_is);
        whole = whole;
        known = rw same_subscribers all_known;
        few = rw same_kept takes.few;
      }

-- what was taken is what the texts say: nothing, one line more, a bad one, or one behind a bad one
pub taken_none : (trace : Trace) (slices : ℕ) → TakesLines trace slices [] None → trace.stopped ≡ false
    → trace.least ≡ 0 → HasTakenTrace slices [] trace
taken_none trace slices takes stopped least = record {
  lines = [];
  stop = None;
  stopped = stopped;
  says = λ behind. ap (λ k. trace_from 1 k behind) (sym least);
  takes = takes;
}

pub not_stopped : (stop : Option BadAt) → has_stopped stop ≡ false → stop ≡ None
not_stopped None is = refl
not_stopped (Some at) is = absurd (no is)
  where
    no : true ≡ false → ⊥
    no same = cc

pub lines_open : (trace : Trace) (slices : ℕ) (texts : List Text) (taken : HasTakenTrace slices texts trace)
    → trace.stopped ≡ false → TakesLines trace slices taken.lines None
lines_open trace slices texts taken open_ =
    subst (TakesLines trace slices taken.lines) (not_stopped taken.stop (sym taken.stopped ∙ open_)) taken.takes

pub says_open : (trace : Trace) (slices : ℕ) (texts : List Text) (taken : HasTakenTrace slices texts trace)
    → trace.stopped ≡ false → SaysTrace taken.lines None trace.least texts
says_open trace slices texts taken open_ =
    subst (λ stop. SaysTrace taken.lines stop trace.least texts) (not_stopped taken.stop (sym taken.stopped ∙ open_))
    taken.says

pub taken_line : (old new : Trace) (slices number : ℕ) (texts : List Text) (text : Text) (line : Line)
    (taken : HasTakenTrace slices texts old) → old.stopped ≡ false → number ≡ length old.kept.items + 1
    → line_meaning old.least number text ≡ Ok line → new.stopped ≡ old.stopped
    → new.least ≡ line.moment → TakesLines new slices (taken.lines ++ line ∷ []) None
    → HasTakenTrace slices (texts ++ text ∷ []) new
taken_line old new slices number texts text line taken open_ number_is means stopped least takes =
    let before = lines_open old slices texts taken open_ in
    let count : number ≡ length taken.lines + 1 =
    omega (arith, number_is, count_kept old slices taken.lines None before) in
    record {
      lines = taken.lines ++ line ∷ [];
      stop = None;
      stopped = stopped ∙ open_;
      says = subst (λ k. SaysTrace (taken.lines ++ line ∷ []) None k (texts ++ text ∷ [])) (sym least)
          (next_line taken.lines old.least texts text line (says_open old slices texts taken open_)
          (subst (λ k. line_meaning old.least k text ≡ Ok line) count means));
      takes = takes;
    }

abbrev bad_at : LineBad → ℕ → BadAt
bad_at why k = record { number = k; why = why }

pub taken_bad : (old new : Trace) (slices number : ℕ) (texts : List Text) (text : Text) (why : LineBad)
    (taken : HasTakenTrace slices texts old) → old.stopped ≡ false → number ≡ length old.kept.items + 1
    → (why ≡ whys.NoMemory) ⊎ (line_meaning old.least number text ≡ Err why)
    → (why ≡ whys.NoMemory → ⊥) → new.stopped ≡ true
    → TakesLines new slices taken.lines (Some (record { number = number; why = why }))
    → HasTakenTrace slices (texts ++ text ∷ []) new
taken_bad old new slices number texts text why taken open_ number_is refused memory stopped takes =
    let before = lines_open old slices texts taken open_ in
    let count : number ≡ length taken.lines + 1 =
    omega (arith, number_is, count_kept old slices taken.lines None before) in
    let means : line_meaning old.least number text ≡ Err why =
    elim refused [ inl none ↦ absurd (memory none) | inr is ↦ is ] in
    record {
      lines = taken.lines;
      stop = Some (bad_at why number);
      stopped = stopped;
      says = λ behind.
          next_bad taken.lines old.least texts text why (says_open old slices texts taken open_)
          (subst (λ k. line_meaning old.least k text ≡ Err why) count means) behind
          ∙ ap (λ k. input_with taken.lines (Some (bad_at why k))) (sym count);
      takes = takes;
    }

over_by : (stop : Option BadAt) (lines : List Line) (least : ℕ) (texts : List Text) (text : Text)
    → has_stopped stop ≡ true → SaysTrace lines stop least texts → SaysTrace lines stop least (texts ++ text ∷ [])
over_by None lines least texts text is says = absurd (no is)
  where
    no : false ≡ true → ⊥
    no same = cc
over_by (Some at) lines least texts text is says = passed_over lines at least texts text says

pub taken_over : (trace : Trace) (slices : ℕ) (texts : List Text) (text : Text) → HasTakenTrace slices texts trace
    → trace.stopped ≡ true → HasTakenTrace slices (texts ++ text ∷ []) trace
taken_over trace slices texts text taken over = record {
  lines = taken.lines;
  stop = taken.stop;
  stopped = taken.stopped;
  says = over_by taken.stop taken.lines trace.least texts text (sym taken.stopped ∙ over) taken.says;
  takes = taken.takes;
}

-- how much it weighs
pub weighs_line : (old new : Trace) (least number : ℕ) (text : Text) (line : Line) → new.stopped ≡ old.stopped
    → old.stopped ≡ false → line_meaning least number text ≡ Ok line
    → length new.kept.items ≡ length old.kept.items + 1 → weight_of new ≤ weight_of old + length text + 1
weighs_line old new least number text line stopped open_ means count =
    let some = some_text least number text line means in
    let before : weight_of old ≡ 2 * length old.kept.items =
    ap (λ t. 2 * length old.kept.items - (if t then 1 else 0)) open_ ∙ (omega arith) in
    let after : weight_of new ≡ 2 * length new.kept.items =
    ap (λ t. 2 * length new.kept.items - (if t then 1 else 0)) (stopped ∙ open_) ∙ (omega arith) in
    omega (arith, some, before, after, count)

pub weighs_bad : (old new : Trace) (text : Text) → new.stopped ≡ true → old.stopped ≡ false
    → length new.kept.items ≡ length old.kept.items + 1 → weight_of new ≤ weight_of old + length text + 1
weighs_bad old new text stopped open_ count =
    let before : weight_of old ≡ 2 * length old.kept.items =
    ap (λ t. 2 * length old.kept.items - (if t then 1 else 0)) open_ ∙ (omega arith) in
    let after : weight_of new ≡ 2 * length new.kept.items - 1 =
    ap (λ t. 2 * length new.kept.items - (if t then 1 else 0)) stopped in
    omega (arith, before, after, count)

-- before the first line
pub leaves_none : (trace : Trace) (slices : ℕ) → trace.slices ≡ slices → 1 ≤ slices → slices ≤ 64 → trace.book ≡ []
    → trace.subscribers.items ≡ [] → LeavesRest trace slices []
leaves_none trace slices same least most book subscribers = record {
  same_slices = same;
  least = least;
  most = most;
  stand = record {
    book_is = book;
    bounds = λ slot. subst (λ l. bound_of slices l slot ≡ destination_after slices slot []) (sym subscribers) refl;
  };
  many = omega (arith, ap length book, ap length subscribers);
  rest = λ slot none below. absurd (omega (arith, below, ap length subscribers));
  no_event = record {
    each = λ slot none below. absurd (omega (arith, below, ap length subscribers));
    beyond = λ slot past. refl;
  };
}

-- whether a line ends the open epoch, and how much that has where it doesn't
pub ends_so : (trace : Trace) (slices : ℕ) (done : List Line) (line : Line) (len : ℕ) (ends : Bool)
    (takes : TakesLines trace slices done None) → len ≡ length (line_text line)
    → ((before : List Line) → len ≡ length (line_text line) → trace.open_lines ≡ length before
    → trace.open_octets ≡ octets_in before → ends ≡ ends_epoch before line)
    → ends ≡ ends_epoch takes.open_ line
ends_so trace slices done line len ends takes len_is says =
    says takes.open_ len_is (omega (arith, takes.open_lines)) takes.open_octets

pub fits_more : (trace : Trace) (slices : ℕ) (done : List Line) (line : Line) (len : ℕ)
    (takes : TakesLines trace slices done None) → len ≡ length (line_text line)
    → ends_epoch takes.open_ line ≡ false
    → (trace.open_lines + 1 < 65536) × (trace.open_octets + len < 67108864)
fits_more trace slices done line len takes len_is stays =
    let short = stays_short takes.open_ line stays in
    (omega (arith, takes.open_lines, short.0), omega (arith, takes.open_octets, len_is, short.1))
