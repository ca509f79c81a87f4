-- The lines of a piece that were taken, with one more.
use Rattle.std.proofs.Common.{◌≡◌, ◌≢◌, ℕ, ◌+◌, ◌*◌, ◌-◌, ◌<◌, if◌then◌else◌, ◌≤◌, ◌^◌, ◌⊎◌, true, false, Bool, Option, None, Some, Ok, Err, List, [], ◌∷◌, ◌++◌, length, codes, refl, sym, ap, subst, ◌∙◌, inl, inr, arith, append_assoc, append-nil, length-append}
use Rattle.std.proofs.lemmas.List.{length-map}
use Rattle.std.proofs.lemmas.List.Elements.{All-nil}
use Rattle.pc_outside.specs.Texts.{Text}
use Rattle.trace_lines.specs.Epochs.{IsEpoch, NoneEnds, ends_epoch, octets_in}
use Rattle.trace_lines.specs.Input.{Input, after_lines, ended, line_then}
use Rattle.trace_lines.specs.Line.{Line}
use Rattle.trace_lines.specs.Meaning.{line_meaning}
use Rattle.trace_lines.specs.Text.{line_text}
use Rattle.trace_lines.specs.Word.{word_of}
use Rattle.trace_lines.specs.declared.bad.LineBad.{LineBad}
use Rattle.trace_lines.specs.declared.bad.LineBad.TheVariants as whys
use Rattle.demux.specs.Meant.{meaning_of}
use Rattle.demux.specs.Trace.{Meaning}
use Rattle.demux.specs.declared.meant.Meant.{Meant}
use Rattle.demux.specs.declared.meant.Meant.TheVariants as meant
use Rattle.at_rest.specs.Coming.{AreLater, latest_behind}
use Rattle.at_rest.specs.Meant.{Stand, Turned}
use Rattle.at_rest.specs.Rest.{AreAtRest}
use Rattle.lawful_run.specs.Trace.{meant_from, meant_next, stop_noted}
use Rattle.lawful_run.proofs.CutEpochs.{meant_from-append}
use Rattle.lawful_run.proofs.CutLines.{length-meant_from, octets_more, stays_short}
use Rattle.audit_core.specs.Along.{Behind}
use Rattle.audit_core.specs.Following.{EndsAs, SaysLines, SaysMore, SaysPart, TakesLines, TakesPiece, weight_of}
use Rattle.slot_execution.specs.Kept.{meaning_in}
use Rattle.audit_core.specs.Kept.{ArePlaced, Keeps, meanings_in}
use Rattle.audit_core.specs.Said.{trace_from}
use Rattle.audit_core.specs.Setups.{input_with, stop_of}
use Rattle.audit_core.specs.TraceTaken.{has_stopped}
use Rattle.slot_execution.specs.declared.kept.KeptMeaning.{KeptMeaning}
use Rattle.slot_execution.specs.declared.kept.KeptMeaning.TheVariants as kept
use Rattle.audit_core.specs.declared.pieces.Pieces.{Pieces}
use Rattle.audit_core.specs.declared.setup.BadAt.{BadAt}
use Rattle.audit_core.proofs.KeptLemmas.{keeps_alone, kept_more, placed_more}
use Rattle.audit_core.proofs.SaidLemmas.{some_text}
use Rattle.audit_core.proofs.TakenLemmas.{later_more, latest_more, not_stopped}

-- what lines say behind others, with one more
module _ (known : Behind) where
  abbrev before : ℕ
  before = length known.lines

  abbrev from : List Text → Input
  from texts = trace_from (before + 1) (latest_behind 0 known.lines) texts

  pub says_line : (lines : List Line) (least : ℕ) (texts : List Text) (text : Text) (line : Line)
      → SaysLines known lines None least texts → line_meaning least (before + length lines + 1) text ≡ Ok line
      → SaysLines known (lines ++ line ∷ []) None line.moment (texts ++ text ∷ [])
  says_line lines least texts text line says means later =
      ap from (append_assoc texts (text ∷ []) later)
      ∙ says (text ∷ later)
      ∙ ap (λ m. after_lines lines (line_then (before + length lines + 1) m
      (λ l. trace_from (before + length lines + 1 + 1) l.moment later))) means
      ∙ ap (λ n. after_lines lines (after_lines (line ∷ []) (trace_from n line.moment later))) longer
      ∙ ap (λ its. record {
        lines = its;
        stop = (trace_from (before + length (lines ++ line ∷ []) + 1) line.moment later).stop;
      })
      (sym (append_assoc lines (line ∷ [])
      (trace_from (before + length (lines ++ line ∷ []) + 1) line.moment later).lines))
    where
      longer : before + length lines + 1 + 1 ≡ before + length (lines ++ line ∷ []) + 1
      longer = omega (arith, length-append lines (line ∷ []))

  pub says_bad : (lines : List Line) (least : ℕ) (texts : List Text) (text : Text) (why : LineBad) (now : ℕ)
      → SaysLines known lines None least texts → line_meaning least (before + length lines + 1) text ≡ Err why
      → SaysLines known lines (Some (record { number = before + length lines + 1; why = why })) now (texts ++ text ∷ [])
  says_bad lines least texts text why now says means later =
      ap from (append_assoc texts (text ∷ []) later)
      ∙ says (text ∷ later)
      ∙ ap (λ m. after_lines lines (line_then (before + length lines + 1) m
      (λ l. trace_from (before + length lines + 1 + 1) l.moment later))) means
      ∙ ap (λ its. input_with its (Some (record { number = before + length lines + 1; why = why }))) (append-nil lines)

  pub says_over : (lines : List Line) (at : BadAt) (least : ℕ) (texts : List Text) (text : Text)
      → SaysLines known lines (Some at) least texts → SaysLines known lines (Some at) least (texts ++ text ∷ [])
  says_over lines at least texts text says later =
      ap from (append_assoc texts (text ∷ []) later) ∙ says (text ∷ later)

  -- all that they say
  pub says_whole : (lines : List Line) (stop : Option BadAt) (least : ℕ) (texts : List Text)
      → SaysLines known lines stop least texts → from texts ≡ input_with lines stop
  says_whole lines None least texts says =
      ap from (sym (append-nil texts)) ∙ says []
      ∙ ap (λ its. record { lines = its; stop = ended }) (append-nil lines)
  says_whole lines (Some at) least texts says = ap from (sym (append-nil texts)) ∙ says []

-- a line that ends the epoch, or doesn't
none_ends_more : (before lines : List Line) (line : Line) → NoneEnds before lines
    → ends_epoch (before ++ lines) line ≡ false → NoneEnds before (lines ++ line ∷ [])
none_ends_more before [] line none stays =
    (subst (λ l. ends_epoch l line ≡ false) (append-nil before) stays, tt)
none_ends_more before (first ∷ lines) line none stays = (
  none.0,
  none_ends_more (before ++ first ∷ []) lines line none.1
      (subst (λ l. ends_epoch l line ≡ false) (sym (append_assoc before (first ∷ []) lines)) stays),
)

ends_more : (ends : Bool) (lines : List Line) (line : Line) → ends ≡ ends_epoch lines line → NoneEnds [] lines
    → EndsAs ends (lines ++ line ∷ [])
ends_more true lines line is none = (lines, line, refl, none, sym is)
ends_more false lines line is none = none_ends_more [] lines line none (sym is)

-- as many lines are kept as were taken
pub count_kept : (own : Pieces) (known : Behind) (lines : List Line) (stop : Option BadAt)
    → TakesLines own known lines stop → length own.kept.items ≡ length lines + length (stop_noted (stop_of stop))
count_kept own known lines stop takes =
    omega (
      arith,
      length-map own.kept.items (meaning_in own.octets.items),
      ap length takes.mean,
      length-append (meant_from own.setup.slices known.lines lines) (stop_noted (stop_of stop)),
      length-meant_from own.setup.slices known.lines lines,
    )

-- one line more
module _ (old new : Pieces) (known : Behind) (lines : List Line) (line : Line) (now : Meant) (it : KeptMeaning)
    (takes : TakesLines old known lines None) (setup : new.setup ≡ old.setup)
    (turned : Turned old.setup.slices old.book old.subscribers.items line now new.book new.subscribers.items)
    (keeps : Keeps old.octets.items new.octets.items now it) (kept_is : new.kept.items ≡ old.kept.items ++ it ∷ [])
    (late : old.least ≤ line.moment) (least : new.least ≡ line.moment) (unended : old.ended ≡ false)
    (ends : new.ended ≡ ends_epoch lines line) where
  mean_more : meanings_in new.octets.items new.kept.items
      ≡ meant_from old.setup.slices known.lines (lines ++ line ∷ [])
  mean_more =
      ap (meanings_in new.octets.items) kept_is
      ∙ kept_more old.octets.items new.octets.items old.kept.items now it takes.placed keeps
      ∙ ap (λ l. l ++ meaning_of now ∷ [])
      (takes.mean ∙ append-nil (meant_from old.setup.slices known.lines lines))
      ∙ ap (λ m. meant_from old.setup.slices known.lines lines ++ m ∷ [])
      (turned.means (known.lines ++ lines) takes.stand)
      ∙ sym (meant_from-append old.setup.slices known.lines lines (line ∷ []))

  pub takes_more : (new.ended ≡ false → new.open_octets ≡ octets_in (lines ++ line ∷ []))
      → TakesLines new known (lines ++ line ∷ []) None
  takes_more open_octets = record {
    ends = ends_more new.ended lines line ends (subst (λ b. EndsAs b lines) unended takes.ends);
    stand = subst (λ l. Stand new.setup.slices new.book new.subscribers.items l)
        (append_assoc known.lines lines (line ∷ []))
        (subst (λ s. Stand s.slices new.book new.subscribers.items ((known.lines ++ lines) ++ line ∷ [])) (sym setup)
        (turned.stand (known.lines ++ lines) takes.stand));
    many = turned.many;
    rest = subst (λ s. AreAtRest s.slices (length known.lines) (latest_behind 0 known.lines) new.subscribers.items)
        (sym setup) (turned.rest (length known.lines) (latest_behind 0 known.lines) takes.rest);
    standing = turned.keep known.events takes.standing;
    later = later_more (latest_behind 0 known.lines) lines line takes.later (omega (arith, late, takes.latest));
    latest = least ∙ sym (latest_more (latest_behind 0 known.lines) lines line);
    mean = mean_more
        ∙ ap (λ s. meant_from s.slices known.lines (lines ++ line ∷ [])) (sym setup) ∙ sym (append-nil _);
    placed = subst (ArePlaced new.octets.items) (sym kept_is)
        (placed_more old.octets.items new.octets.items old.kept.items now it takes.placed keeps);
    open_octets = open_octets;
  }

-- whatever line was read last
pub takes_lined : (old : Pieces) (line : Line) (known : Behind) (lines : List Line) (stop : Option BadAt)
    → TakesLines old known lines stop → TakesLines (record old { line = line }) known lines stop
takes_lined old line known lines stop takes = record {
  ends = takes.ends;
  stand = takes.stand;
  many = takes.many;
  rest = takes.rest;
  standing = takes.standing;
  later = takes.later;
  latest = takes.latest;
  mean = takes.mean;
  placed = takes.placed;
  open_octets = takes.open_octets;
}

-- the trace stops
module _ (old new : Pieces) (known : Behind) (lines : List Line) (number : ℕ) (why : LineBad) (text : List ℕ)
    (takes : TakesLines old known lines None) where
  abbrev at : BadAt
  at = record { number = number; why = why }

  pub takes_stop : new.setup ≡ old.setup → new.book ≡ old.book → new.subscribers ≡ old.subscribers
      → new.octets ≡ old.octets → new.least ≡ old.least → new.ended ≡ old.ended → new.open_octets ≡ old.open_octets
      → new.kept.items ≡ old.kept.items ++ kept.Note text ∷ [] → text ≡ codes "line" ++ 32 ∷ word_of why
      → TakesLines new known lines (Some at)
  takes_stop setup book subscribers octets least ended_is open_is kept_is text_is =
      let held = old.octets.items in
      let keeps : Keeps held held (meant.Note text) (kept.Note text) =
      keeps_alone held (meant.Note text) (kept.Note text) refl tt in
      let made = meant_from old.setup.slices known.lines lines in
      record {
        ends = subst (λ b. EndsAs b lines) (sym ended_is) takes.ends;
        stand = rw (setup, book, subscribers) takes.stand;
        many = rw (book, subscribers) takes.many;
        rest = rw (setup, subscribers) takes.rest;
        standing = rw subscribers takes.standing;
        later = takes.later;
        latest = least ∙ takes.latest;
        mean = (λ i. meanings_in (ap (λ v. v.items) octets i) (kept_is i))
            ∙ kept_more held held old.kept.items (meant.Note text) (kept.Note text) takes.placed keeps
            ∙ ap (λ l. l ++ meaning_of (meant.Note text) ∷ []) (takes.mean ∙ append-nil made)
            ∙ ap (λ t. made ++ meaning_of (meant.Note t) ∷ []) text_is
            ∙ ap (λ s. meant_from s.slices known.lines lines ++ stop_noted (stop_of (Some at))) (sym setup);
        placed = rw octets (subst (ArePlaced held) (sym kept_is)
            (placed_more held held old.kept.items (meant.Note text) (kept.Note text) takes.placed keeps));
        open_octets = λ is. open_is ∙ takes.open_octets (sym ended_is ∙ is);
      }

-- what an open piece has taken
open_by : (over : Bool) (known : Behind) (lines : List Line) (stop : Option BadAt) (least : ℕ) (texts : List Text)
    → over ≡ false → SaysPart over known lines stop least texts → SaysLines known lines stop least texts
open_by false known lines stop least texts is says = says
open_by true known lines stop least texts is says = absurd (cc)

not_over : (over ended_ : Bool) → (over ≡ true → ended_ ≡ true) → ended_ ≡ false → over ≡ false
not_over false ended_ more is = refl
not_over true ended_ more is = absurd (no (sym (more refl) ∙ is))
  where
    no : true ≡ false → ⊥
    no same = cc

module _ (old : Pieces) (known : Behind) (texts : List Text) (taken : TakesPiece old known texts)
    (open_ : old.stopped ≡ false) where
  stop_none : taken.stop ≡ None
  stop_none = not_stopped taken.stop (sym taken.stopped ∙ open_)

  pub lines_open : TakesLines old known taken.lines None
  lines_open = subst (TakesLines old known taken.lines) stop_none taken.takes

  says_open : old.over ≡ false → SaysLines known taken.lines None old.least texts
  says_open within =
      subst (λ stop. SaysLines known taken.lines stop old.least texts) stop_none
      (open_by old.over known taken.lines taken.stop old.least texts within taken.says)

  -- one line more
  pub piece_line : (new : Pieces) (number : ℕ) (text : Text) (line : Line) → old.ended ≡ false
      → number ≡ length known.lines + length old.kept.items + 1 → line_meaning old.least number text ≡ Ok line
      → new.over ≡ old.over → new.stopped ≡ old.stopped → new.least ≡ line.moment
      → TakesLines new known (taken.lines ++ line ∷ []) None
      → TakesPiece new known (texts ++ text ∷ [])
  piece_line new number text line unended number_is means over stopped least takes =
      let within = not_over old.over old.ended taken.more unended in
      let count : number ≡ length known.lines + length taken.lines + 1 =
      omega (arith, number_is, count_kept old known taken.lines None lines_open) in
      record {
        lines = taken.lines ++ line ∷ [];
        stop = None;
        stopped = stopped ∙ open_;
        says = subst (λ b. SaysPart b known (taken.lines ++ line ∷ []) None new.least (texts ++ text ∷ []))
            (sym (over ∙ within))
            (subst (λ k. SaysLines known (taken.lines ++ line ∷ []) None k (texts ++ text ∷ [])) (sym least)
            (says_line known taken.lines old.least texts text line (says_open within)
            (subst (λ k. line_meaning old.least k text ≡ Ok line) count means)));
        takes = takes;
        more = λ is. absurd (no (sym is ∙ over ∙ within));
        going = λ is. refl;
      }
    where
      no : true ≡ false → ⊥
      no same = cc

  -- a bad one
  pub piece_bad : (new : Pieces) (number : ℕ) (text : Text) (why : LineBad) → old.ended ≡ false
      → number ≡ length known.lines + length old.kept.items + 1
      → (why ≡ whys.NoMemory) ⊎ (line_meaning old.least number text ≡ Err why)
      → (why ≡ whys.NoMemory → ⊥) → new.over ≡ old.over → new.stopped ≡ true → new.ended ≡ old.ended
      → TakesLines new known taken.lines (Some (record { number = number; why = why }))
      → TakesPiece new known (texts ++ text ∷ [])
  piece_bad new number text why unended number_is refused memory over stopped ended_is takes =
      let within = not_over old.over old.ended taken.more unended in
      let count : number ≡ length known.lines + length taken.lines + 1 =
      omega (arith, number_is, count_kept old known taken.lines None lines_open) in
      let means : line_meaning old.least number text ≡ Err why =
      elim refused [ inl none ↦ absurd (memory none) | inr is ↦ is ] in
      record {
        lines = taken.lines;
        stop = Some (record { number = number; why = why });
        stopped = stopped;
        says = subst (λ b. SaysPart b known taken.lines (Some (record { number = number; why = why })) new.least
            (texts ++ text ∷ [])) (sym (over ∙ within))
            (subst (λ k. SaysLines known taken.lines (Some (record { number = k; why = why })) new.least
            (texts ++ text ∷ [])) (sym count)
            (says_bad known taken.lines old.least texts text why new.least (says_open within)
            (subst (λ k. line_meaning old.least k text ≡ Err why) count means)));
        takes = takes;
        more = λ is. absurd (no (sym is ∙ over ∙ within));
        going = λ is. absurd (no (sym is ∙ ended_is ∙ unended));
      }
    where
      no : true ≡ false → ⊥
      no same = cc

  -- one behind the end of the epoch
  pub piece_over : (new : Pieces) (text : Text) → old.ended ≡ true → new ≡ record old { over = true }
      → TakesPiece new known (texts ++ text ∷ [])
  piece_over new text ended_is is = subst (λ n. TakesPiece n known (texts ++ text ∷ [])) (sym is) (record {
    lines = taken.lines;
    stop = None;
    stopped = open_;
    says = more_by old.over taken.says;
    takes = over_takes;
    more = λ over. ended_is;
    going = λ over. refl;
  })
    where
      more_by : (over : Bool) → SaysPart over known taken.lines taken.stop old.least texts
          → SaysMore known taken.lines old.least (texts ++ text ∷ [])
      more_by false says = record {
        prefix = texts;
        next = text;
        later = [];
        parts = refl;
        says = subst (λ stop. SaysLines known taken.lines stop old.least texts) stop_none says;
      }
      more_by true says = record {
        prefix = says.prefix;
        next = says.next;
        later = says.later ++ text ∷ [];
        parts = ap (λ t. t ++ text ∷ []) says.parts ∙ append_assoc says.prefix (says.next ∷ says.later) (text ∷ []);
        says = says.says;
      }

      over_takes : TakesLines (record old { over = true }) known taken.lines None
      over_takes =
          let takes = lines_open in record {
            ends = takes.ends;
            stand = takes.stand;
            many = takes.many;
            rest = takes.rest;
            standing = takes.standing;
            later = takes.later;
            latest = takes.latest;
            mean = takes.mean;
            placed = takes.placed;
            open_octets = takes.open_octets;
          }

-- one behind a bad one
pub piece_passed : (old : Pieces) (known : Behind) (texts : List Text) (text : Text) → TakesPiece old known texts
    → old.stopped ≡ true → TakesPiece old known (texts ++ text ∷ [])
piece_passed old known texts text taken stopped = record {
  lines = taken.lines;
  stop = taken.stop;
  stopped = taken.stopped;
  says = pass taken.stop old.over (sym taken.stopped ∙ stopped) taken.going taken.more taken.says;
  takes = taken.takes;
  more = taken.more;
  going = taken.going;
}
  where
    pass : (stop : Option BadAt) (over : Bool) → has_stopped stop ≡ true → (old.ended ≡ true → stop ≡ None)
        → (over ≡ true → old.ended ≡ true) → SaysPart over known taken.lines stop old.least texts
        → SaysPart over known taken.lines stop old.least (texts ++ text ∷ [])
    pass None over is going more says = absurd (cc)
    pass (Some at) true is going more says =
        let none : Some at ≡ None = going (more refl) in absurd (cc)
    pass (Some at) false is going more says = says_over known taken.lines at old.least texts text says

-- whether the next line ends the epoch
pub ends_so : (own : Pieces) (known : Behind) (lines : List Line) (line : Line) (len before : ℕ) (ends : Bool)
    → TakesLines own known lines None → len ≡ length (line_text line) → before ≡ length own.kept.items
    → own.ended ≡ false
    → ((prefix : List Line) → len ≡ length (line_text line) → before ≡ length prefix
    → own.open_octets ≡ octets_in prefix → ends ≡ ends_epoch prefix line)
    → ends ≡ ends_epoch lines line
ends_so own known lines line len before ends takes len_is count unended says =
    says lines len_is (omega (arith, count, count_kept own known lines None takes)) (takes.open_octets unended)

pub fits_more : (own : Pieces) (known : Behind) (lines : List Line) (line : Line) (len : ℕ)
    → TakesLines own known lines None → own.ended ≡ false → len ≡ length (line_text line)
    → ends_epoch lines line ≡ false
    → (own.open_octets + len < 67108864) × (own.open_octets + len ≡ octets_in (lines ++ line ∷ []))
fits_more own known lines line len takes unended len_is stays =
    let short = stays_short lines line stays in
    let held = takes.open_octets unended in (
      omega (arith, held, len_is, short.1),
      omega (arith, held, len_is, octets_more lines line),
    )

-- how much it weighs
pub weighs_line : (old new : Pieces) (least number : ℕ) (text : Text) (line : Line) → new.lines ≡ old.lines
    → new.stopped ≡ old.stopped → old.stopped ≡ false → line_meaning least number text ≡ Ok line
    → length new.kept.items ≡ length old.kept.items + 1 → weight_of new ≤ weight_of old + length text + 1
weighs_line old new least number text line lines stopped open_ means count =
    let some = some_text least number text line means in
    let before : weight_of old ≡ 2 * (old.lines + length old.kept.items) =
    ap (λ t. 2 * (old.lines + length old.kept.items) - (if t then 1 else 0)) open_ ∙ (omega arith) in
    let after : weight_of new ≡ 2 * (new.lines + length new.kept.items) =
    ap (λ t. 2 * (new.lines + length new.kept.items) - (if t then 1 else 0)) (stopped ∙ open_) ∙ (omega arith) in
    omega (arith, some, before, after, count, lines)

pub weighs_bad : (old new : Pieces) (text : Text) → new.lines ≡ old.lines → new.stopped ≡ true → old.stopped ≡ false
    → length new.kept.items ≡ length old.kept.items + 1 → weight_of new ≤ weight_of old + length text + 1
weighs_bad old new text lines stopped open_ count =
    let before : weight_of old ≡ 2 * (old.lines + length old.kept.items) =
    ap (λ t. 2 * (old.lines + length old.kept.items) - (if t then 1 else 0)) open_ ∙ (omega arith) in
    let after : weight_of new ≡ 2 * (new.lines + length new.kept.items) - 1 =
    ap (λ t. 2 * (new.lines + length new.kept.items) - (if t then 1 else 0)) stopped in
    omega (arith, before, after, count, lines)
