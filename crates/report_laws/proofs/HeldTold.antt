-- A packet that is held has at most one fate, by a later command: in the entries of a lawful run.
use Rattle.std.proofs.Common.{◌≡◌, ◌≢◌, ℕ, zero, suc, ◌+◌, ◌<◌, ◌≤◌, ◌==◌, ◌&&◌, Bool, true, false, cond, Some, None, List, [], ◌∷◌, ◌++◌, length, map, get_or, refl, sym, ap, ◌∙◌, subst, arith, append_assoc, append-nil, length-append, inl, inr}
use Rattle.std.specs.List.{All, Contains, cons_option, count_by, filter_map, flat_map}
use Rattle.std.proofs.lemmas.Bool.{cases_eq, eqb-true, ne_eqb}
use Rattle.std.proofs.lemmas.List.{map-append}
use Rattle.std.proofs.lemmas.List.Elements.{All-append, All-nil, Contains-append_left, filter_map-append}
use Rattle.demux.specs.Trace.{Meaning}
use Rattle.gate_model.specs.Events.{commands_of, packets_of}
use Rattle.gate_model.specs.Holding.{is_fate_of, is_held}
use Rattle.gate_model.specs.SlotPast.{effects_after}
use Rattle.gate_model.specs.declared.event.Event.{Event}
use Rattle.gate_model.specs.declared.event.Event.TheVariants as event
use Rattle.pc_base.specs.declared.effect.Effect.{Effect}
use Rattle.pc_base.specs.declared.effect.Effect.TheVariants as effect
use Rattle.report_lines.specs.Records.{Effected, PacketTold}
use Rattle.report_lines.specs.declared.entry.LineEntry.{LineEntry}
use Rattle.report_lines.specs.declared.entry.LineEntry.TheVariants as line
use Rattle.lawful_run.specs.Merging.{Histories, behind}
use Rattle.lawful_run.specs.Outcomes as made_of
use Rattle.lawful_run.specs.Report.{EpochReport}
use Rattle.lawful_run.specs.Run.{AreEpochRuns, IsEpochRun, behind_all, no_events, told_in}
use Rattle.lawful_run.specs.Setup.{Setup}
use Rattle.lawful_run.specs.Telling.{counted}
use Rattle.lawful_run.proofs.ChargesTold.{all_events, now_events}
use Rattle.lawful_run.proofs.Growing.{effects-append}
use Rattle.report_laws.specs.Held.{AtMostOneFate, FateOfHeld, FatesFollow, IsOfHeld, lines_in, tells_fate}
use Rattle.report_laws.proofs.Fates.{EffectMarked, all_marked, count-append, count-cons, fates_within, holds_mark, ones}
use Rattle.report_laws.proofs.Marks.{Mark, epoch_numbers, first_same, mark_told, marks, marks-append, marks_are, rest_same}

-- the marks that a mark of a slot is among stand in lines
pub record MarkTold (slot : ℕ) (lines : List LineEntry) (mark : Mark) : Type 0 where
  pub judged : PacketTold
  pub stands : Contains lines (line.P judged)
  pub of_slot : judged.slot ≡ slot
  pub same : mark ≡ record { number = judged.number; commands = judged.commands; verdict = judged.verdict }

told_later : (slot : ℕ) (entry : LineEntry) (lines : List LineEntry) (mark : Mark) → MarkTold slot lines mark
    → MarkTold slot (entry ∷ lines) mark
told_later slot entry lines mark told = record {
  judged = told.judged;
  stands = (suc told.stands.0, omega (arith, told.stands.1), told.stands.2);
  of_slot = told.of_slot;
  same = told.same;
}

told_first : (slot : ℕ) (test : Bool) (judged : PacketTold) (lines : List LineEntry) (mark : Mark)
    → (judged.slot == slot) ≡ test
    → Contains (cons_option (cond test (Some (record {
      number = judged.number;
      commands = judged.commands;
      verdict = judged.verdict;
    })) None) (filter_map (mark_told slot) lines)) mark
    → (Contains (filter_map (mark_told slot) lines) mark → MarkTold slot lines mark)
    → MarkTold slot (line.P judged ∷ lines) mark
told_first slot true judged lines mark is (zero, within, same) rest = record {
  judged = judged;
  stands = (0, omega arith, refl);
  of_slot = eqb-true judged.slot slot is;
  same = sym same;
}
told_first slot true judged lines mark is (suc k, within, same) rest =
    told_later slot (line.P judged) lines mark (rest (k, omega (arith, within), same))
told_first slot false judged lines mark is there rest = told_later slot (line.P judged) lines mark (rest there)

told_mark : (slot : ℕ) (lines : List LineEntry) (mark : Mark) → Contains (filter_map (mark_told slot) lines) mark
    → MarkTold slot lines mark
told_mark slot [] mark there = absurd (omega (arith, there.1))
told_mark slot (line.N noted ∷ lines) mark there =
    told_later slot (line.N noted) lines mark (told_mark slot lines mark there)
told_mark slot (line.C answered ∷ lines) mark there =
    told_later slot (line.C answered) lines mark (told_mark slot lines mark there)
told_mark slot (line.P judged ∷ lines) mark there =
    told_first slot (judged.slot == slot) judged lines mark refl there (told_mark slot lines mark)
told_mark slot (line.F refused ∷ lines) mark there =
    told_later slot (line.F refused) lines mark (told_mark slot lines mark there)

all_lines_told : (slot : ℕ) (others : List EpochReport)
    → filter_map (mark_told slot) (flat_map (λ (told : EpochReport). told.lines) others)
    ≡ flat_map (λ (told : EpochReport). filter_map (mark_told slot) told.lines) others
all_lines_told slot [] = refl
all_lines_told slot (told ∷ others) =
    filter_map-append (mark_told slot) told.lines (flat_map (λ (t : EpochReport). t.lines) others)
    ∙ ap (λ rest. filter_map (mark_told slot) told.lines ++ rest) (all_lines_told slot others)

-- what is marked is told
convert : (slot own command : ℕ) (lines : List LineEntry) (marks_ : List Mark) (now : Effect) → own ≡ slot
    → ((mark : Mark) → Contains marks_ mark → MarkTold slot lines mark)
    → EffectMarked marks_ command now → FateOfHeld lines own command now
convert slot own command lines marks_ (effect.Marker life peer octets) of_slot told marked = tt
convert slot own command lines marks_ (effect.Fate packet fate) of_slot told marked =
    let is = told marked.mark marked.stands in
    record {
      judged = is.judged;
      stands = is.stands;
      of_slot = is.of_slot ∙ sym of_slot;
      of_packet = sym (ap (λ (m : Mark). m.number) is.same) ∙ marked.of_packet;
      held = ap (λ (m : Mark). is_held m.verdict) (sym is.same) ∙ marked.held;
      before = subst (λ (m : Mark). m.commands ≤ command) is.same marked.before;
    }

pub all_by_slot : {X : Type 0} (P : X → Type 0) (has : ℕ → List X) (first n : ℕ) → ((s : ℕ) → All P (has s))
    → All P (flat_map has (counted first n))
all_by_slot P has first zero each = All-nil P
all_by_slot P has first (suc n) each =
    All-append P (has first) (flat_map has (counted (first + 1) n)) (each first)
    (all_by_slot P has (first + 1) n each)

grows : (before : Histories) (epochs : List (List Meaning)) (others : List EpochReport) (slot : ℕ)
    → (more : List Event) × (behind_all before epochs others slot ≡ before slot ++ more)
grows before [] others slot = ([], sym (append-nil (before slot)))
grows before (made ∷ epochs) [] slot = ([], sym (append-nil (before slot)))
grows before (made ∷ epochs) (told ∷ others) slot =
    let rest = grows (behind before (told_in made told)) epochs others slot in
    let now : List Event = now_events before made told slot in
    (now ++ rest.0, rest.1 ∙ append_assoc (before slot) now rest.0)

all_from : (setup : Setup) (slots first : ℕ) (before : Histories) (epochs : List (List Meaning))
    (others : List EpochReport) (lines : List LineEntry) → AreEpochRuns setup slots first before epochs others
    → ((slot : ℕ) (mark : Mark) → Contains (marks slot [] (behind_all before epochs others slot)) mark
    → MarkTold slot lines mark)
    → All (IsOfHeld lines) (flat_map (λ (told : EpochReport). told.effects) others)
all_from setup slots first before [] [] lines runs told = All-nil (IsOfHeld lines)
all_from setup slots first before [] (now ∷ others) lines runs told = absurd runs
all_from setup slots first before (made ∷ epochs) [] lines runs told = absurd runs
all_from setup slots first before (made ∷ epochs) (now ∷ others) lines runs told =
    let next : Histories = behind before (told_in made now) in
    let among : (slot : ℕ) (mark : Mark)
    → Contains (marks slot [] (before slot ++ now_events before made now slot)) mark → MarkTold slot lines mark =
    λ slot mark there.
    let more = grows next epochs others slot in
    told slot mark (subst (λ ms. Contains ms mark)
    (sym (ap (marks slot []) more.1
    ∙ marks-append slot [] (before slot ++ now_events before made now slot) more.0))
    (Contains-append_left (marks slot [] (before slot ++ now_events before made now slot)) _ mark there)) in
    let own : (slot : ℕ) → All (IsOfHeld lines)
    (made_of.effects slot (before slot) (now_events before made now slot)) =
    λ slot k d within.
    let marked = all_marked slot (before slot) (now_events before made now slot) k d within in
    let effected : Effected = get_or (made_of.effects slot (before slot) (now_events before made now slot)) k d in
    convert slot effected.slot effected.command lines
    (marks slot [] (before slot ++ now_events before made now slot)) effected.effect marked.0 (among slot) marked.1 in
    All-append (IsOfHeld lines) now.effects (flat_map (λ (t : EpochReport). t.effects) others)
    (subst (All (IsOfHeld lines)) (sym runs.0.effects)
    (all_by_slot (IsOfHeld lines) (λ slot. made_of.effects slot (before slot) (now_events before made now slot)) 0 slots
    own))
    (all_from setup slots (first + length made) next epochs others lines runs.1 told)

pub fates_follow : FatesFollow
fates_follow setup slots made report run =
    all_from setup slots 1 no_events made report.epochs (lines_in report) run.epochs
    (λ slot mark there. told_mark slot (lines_in report) mark
    (subst (λ ms. Contains ms mark)
    (sym (all_lines_told slot report.epochs ∙ marks_are setup slots made report slot run)) there))

-- the packets of a slot are numbered
counted-append : (first m n : ℕ) → counted first m ++ counted (first + m) n ≡ counted first (m + n)
counted-append first zero n = λ i. counted (zero_more i) (none_more i)
  where
    zero_more : first + 0 ≡ first
    zero_more = omega arith

    none_more : n ≡ 0 + n
    none_more = omega arith
counted-append first (suc m) n =
    let one : first + suc m ≡ first + 1 + m = omega arith in
    let many : suc (m + n) ≡ suc m + n = omega arith in
    ap (λ k. first ∷ (counted (first + 1) m ++ counted k n)) one
    ∙ ap (λ rest. first ∷ rest) (counted-append (first + 1) m n) ∙ ap (counted first) many

AreNumbered : ℕ → List Event → Type 0
AreNumbered slot events =
    map (λ (mark : Mark). mark.number) (marks slot [] events) ≡ counted 0 (length (packets_of events))

numbered_on : (setup : Setup) (slots first : ℕ) (before : Histories) (made : List Meaning) (told : EpochReport)
    (slot : ℕ) → IsEpochRun setup slots first before made told → AreNumbered slot (before slot)
    → AreNumbered slot (before slot ++ now_events before made told slot)
unfolding AreNumbered
numbered_on setup slots first before made told slot run numbered =
    let now : List Event = now_events before made told slot in
    let parts : length (packets_of (before slot ++ now)) ≡ length (packets_of (before slot)) + length (packets_of now) =
    ap length (filter_map-append _ (before slot) now)
    ∙ length-append (packets_of (before slot)) (packets_of now) in
    let from_none : length (packets_of (before slot)) ≡ 0 + length (packets_of (before slot)) = omega arith in
    ap (map (λ (mark : Mark). mark.number)) (marks-append slot [] (before slot) now)
    ∙ map-append (λ (mark : Mark). mark.number) (marks slot [] (before slot)) (marks slot (before slot) now)
    ∙ (λ i. numbered i ++ epoch_numbers setup slots first before made told slot run i)
    ∙ ap (λ k. counted 0 (length (packets_of (before slot))) ++ counted k (length (packets_of now))) from_none
    ∙ counted-append 0 (length (packets_of (before slot))) (length (packets_of now))
    ∙ ap (counted 0) (sym parts)

numbered_all : (setup : Setup) (slots first : ℕ) (before : Histories) (epochs : List (List Meaning))
    (others : List EpochReport) (slot : ℕ) → AreEpochRuns setup slots first before epochs others
    → AreNumbered slot (before slot) → AreNumbered slot (behind_all before epochs others slot)
numbered_all setup slots first before [] others slot runs numbered = numbered
numbered_all setup slots first before (made ∷ epochs) [] slot runs numbered = absurd runs
numbered_all setup slots first before (made ∷ epochs) (told ∷ others) slot runs numbered =
    numbered_all setup slots (first + length made) (behind before (told_in made told)) epochs others slot runs.1
    (numbered_on setup slots first before made told slot runs.0 numbered)

-- so each number has one packet
record Once (number first : ℕ) (ms : List Mark) : Type 0 where
  none_before : number < first → count_by (holds_mark number) ms ≡ 0
  one : count_by (holds_mark number) ms ≤ 1

once : (number first n : ℕ) (ms : List Mark) → map (λ (mark : Mark). mark.number) ms ≡ counted first n
    → Once number first ms
once number first n [] same = record { none_before = λ before. refl; one = omega arith }
once number first zero (m ∷ ms) same = cc
once number first (suc n) (m ∷ ms) same =
    let own : m.number ≡ first = first_same m.number first _ _ same in
    let rest = once number (first + 1) n ms (rest_same m.number first _ _ same) in
    let whole = count-cons (holds_mark number) m ms in
    elim (cases_eq m.number number) [
      | inl is ↦
          let none = rest.none_before (omega (arith, own, is)) in
          record {
            none_before = λ before. absurd (omega (arith, own, is, before));
            one = omega (arith, whole, none, at_most (m.number == number && is_held m.verdict));
          }
      | inr other ↦
          let skipped : ones (holds_mark number m) ≡ 0 =
          ap (λ t. ones (t && is_held m.verdict)) (ne_eqb m.number number other) in
          record {
            none_before = λ before. omega (arith, whole, skipped, rest.none_before (omega (arith, before)));
            one = omega (arith, whole, skipped, rest.one);
          }
    ]
  where
    at_most : (test : Bool) → ones test ≤ 1
    at_most true = omega arith
    at_most false = omega arith

-- the entries that tell fates of a slot are those of its events
own_fate : (slot number s command : ℕ) (effects : List Effect) → s ≢ slot
    → count_by (tells_fate slot number) (map (made_of.effect_entry s command) effects) ≡ 0
own_fate slot number s command [] other = refl
own_fate slot number s command (now ∷ effects) other =
    let skipped : ones (tells_fate slot number (made_of.effect_entry s command now)) ≡ 0 =
    ap (λ t. ones (t && is_fate_of number now)) (ne_eqb s slot other) in
    omega (
      arith,
      count-cons (tells_fate slot number) (made_of.effect_entry s command now)
          (map (made_of.effect_entry s command) effects),
      skipped,
      own_fate slot number s command effects other,
    )

other_fates : (slot number s : ℕ) (before events : List Event) → s ≢ slot
    → count_by (tells_fate slot number) (made_of.effects s before events) ≡ 0
other_fates slot number s before [] other = refl
other_fates slot number s before (event.Command c ∷ events) other =
    omega (
      arith,
      count-append (tells_fate slot number)
          (map (made_of.effect_entry s (length (commands_of before))) (effects_after s before c))
          (made_of.effects s (before ++ event.Command c ∷ []) events),
      own_fate slot number s (length (commands_of before)) (effects_after s before c) other,
      other_fates slot number s (before ++ event.Command c ∷ []) events other,
    )
other_fates slot number s before (event.Packet p ∷ events) other =
    other_fates slot number s (before ++ event.Packet p ∷ []) events other

none_by_slot : (slot number : ℕ) (has : ℕ → List Effected) (first n : ℕ) → slot < first
    → ((s : ℕ) → s ≢ slot → count_by (tells_fate slot number) (has s) ≡ 0)
    → count_by (tells_fate slot number) (flat_map has (counted first n)) ≡ 0
none_by_slot slot number has first zero below none = refl
none_by_slot slot number has first (suc n) below none =
    omega (
      arith,
      count-append (tells_fate slot number) (has first) (flat_map has (counted (first + 1) n)),
      none first (λ is. omega (arith, is, below)),
      none_by_slot slot number has (first + 1) n (omega (arith, below)) none,
    )

one_by_slot : (slot number : ℕ) (has : ℕ → List Effected) (first n : ℕ) → first ≤ slot → slot < first + n
    → ((s : ℕ) → s ≢ slot → count_by (tells_fate slot number) (has s) ≡ 0)
    → count_by (tells_fate slot number) (flat_map has (counted first n)) ≡ count_by (tells_fate slot number) (has slot)
one_by_slot slot number has first zero above within none = absurd (omega (arith, above, within))
one_by_slot slot number has first (suc n) above within none =
    let parts = count-append (tells_fate slot number) (has first) (flat_map has (counted (first + 1) n)) in
    elim (cases_eq first slot) [
      | inl same ↦
          omega (
            arith,
            parts,
            none_by_slot slot number has (first + 1) n (omega (arith, same)) none,
            ap (λ s. count_by (tells_fate slot number) (has s)) same,
          )
      | inr other ↦
          omega (
            arith,
            parts,
            none first other,
            one_by_slot slot number has (first + 1) n (omega (arith, above, other)) (omega (arith, within)) none,
          )
    ]

fates_from : (setup : Setup) (slots first : ℕ) (before : Histories) (epochs : List (List Meaning))
    (others : List EpochReport) (slot number : ℕ) → slot < slots → AreEpochRuns setup slots first before epochs others
    → count_by (tells_fate slot number) (made_of.effects slot [] (before slot))
    + count_by (tells_fate slot number) (flat_map (λ (told : EpochReport). told.effects) others)
    ≡ count_by (tells_fate slot number) (made_of.effects slot [] (behind_all before epochs others slot))
fates_from setup slots first before [] [] slot number within runs = omega arith
fates_from setup slots first before [] (told ∷ others) slot number within runs = absurd runs
fates_from setup slots first before (made ∷ epochs) [] slot number within runs = absurd runs
fates_from setup slots first before (made ∷ epochs) (told ∷ others) slot number within runs =
    let has : ℕ → List Effected = λ s. made_of.effects s (before s) (now_events before made told s) in
    let now : List Event = now_events before made told slot in
    omega (
      arith,
      count-append (tells_fate slot number) told.effects (flat_map (λ (t : EpochReport). t.effects) others),
      ap (count_by (tells_fate slot number)) runs.0.effects,
      one_by_slot slot number has 0 slots (omega arith) (omega (arith, within))
          (λ s other. other_fates slot number s (before s) (now_events before made told s) other),
      ap (count_by (tells_fate slot number)) (effects-append slot [] (before slot) now),
      count-append (tells_fate slot number) (made_of.effects slot [] (before slot))
          (made_of.effects slot (before slot) now),
      fates_from setup slots (first + length made) (behind before (told_in made told)) epochs others slot number within
          runs.1,
    )

pub at_most_one : AtMostOneFate
unfolding AreNumbered
at_most_one setup slots made report slot number run within =
    let events : List Event = all_events made report slot in
    let numbered = numbered_all setup slots 1 no_events made report.epochs slot run.epochs refl in
    let one = once number 0 (length (packets_of events)) (marks slot [] events) numbered in
    omega (
      arith,
      fates_from setup slots 1 no_events made report.epochs slot number within run.epochs,
      fates_within slot number events,
      one.one,
    )
