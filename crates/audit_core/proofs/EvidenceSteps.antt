-- A case, epoch by epoch.
use Rattle.std.proofs.Common.{◌≡◌, ℕ, zero, suc, ◌+◌, ◌-◌, ◌<◌, ◌≤◌, ◌^◌, List, [], ◌∷◌, ◌++◌, length, take, drop, get_or, slice_range, refl, sym, ap, ◌∙◌, subst, inl, inr, arith, length-append}
use Rattle.std.specs.List.{All}
use Rattle.std.proofs.lemmas.Bool.{cases_lt}
use Rattle.std.proofs.lemmas.Grind.{flat_map-append}
use Rattle.std.proofs.lemmas.List.{drop-map, drop_all, drop_at, length-map, length-take-le, take-append-drop, take-map, take_all, take_at}
use Rattle.std.proofs.lemmas.List.Elements.{All-cons, All-drop, All-get_or, All-nil, All-take}
use Rattle.demux.specs.Trace.{Meaning}
use Rattle.lawful_run.specs.LinesTold.{LineTold}
use Rattle.at_rest.specs.Rest.{AreAtRest}
use Rattle.subscriber.specs.Standing.{SubscriberState}
use Rattle.audit_core.specs.Belonging.{ends_from}
use Rattle.audit_core.specs.Entries.{all_lines, in_line_order, line_entries}
use Rattle.audit_core.specs.Evidence.{IsCaseOf, RunsNext}
use Rattle.audit_core.specs.Holding.{IsKnown}
use Rattle.audit_core.specs.Judged.{Case, ComesNext, Epoch, HasFound, HasJudged, HoldsOf, HoldsWhole, IsEnd, StandsBehind, asked_of, told_of}
use Rattle.audit_core.specs.Belonging.{AreThose, placed_in}
use Rattle.slot_execution.specs.Kept.{IsPlaced, meaning_in}
use Rattle.audit_core.specs.Kept.{ArePlaced, meanings_in}
use Rattle.audit_core.specs.Ranks.{rank_of}
use Rattle.audit_core.specs.Setups.{setup_of}
use Rattle.audit_core.specs.Sharing.{under}
use Rattle.audit_core.specs.declared.judge.Judge.{Judge}
use Rattle.slot_execution.specs.declared.kept.KeptMeaning.{KeptMeaning}
use Rattle.audit_core.specs.declared.report.Report.{Report}
use Rattle.audit_core.specs.declared.report.Run.{Run}
use Rattle.audit_core.specs.declared.report.Stood.{Stood}
use Rattle.audit_core.specs.declared.sentence.Sentence.TheVariants as of
use Rattle.audit_core.specs.declared.setup.Setup.{Setup}
use Rattle.audit_core.specs.declared.trace.Trace.{Trace}
use Rattle.audit_core.proofs.AnswerSteps.{cut_count}
use Rattle.audit_core.proofs.Differing.{took_one}
use Rattle.audit_core.proofs.FoundAll.{found_all}
use Rattle.audit_core.proofs.OfferLemmas.{all_done, begin_with, pass_step}
use Rattle.audit_core.proofs.RestLemmas.{drop_next}

-- where epochs end
ends_count : (before : ℕ) (made : List (List Meaning)) → length (ends_from before made) ≡ length made
ends_count before [] = refl
ends_count before (now ∷ made) = ap suc (ends_count (before + length now) made)

end_at : (before i : ℕ) (made : List (List Meaning)) (now : List Meaning) → i < length made → now ≡ get_or made i now
    → (d : ℕ) → get_or (ends_from before made) i d ≡ before + length (all_lines (take i made)) + length now
end_at before i [] now low is d = absurd (omega (arith, low))
end_at before zero (first ∷ made) now low is d = omega (arith, ap length is)
end_at before (suc i) (first ∷ made) now low is d =
    end_at (before + length first) i made now (omega (arith, low)) is d
    ∙ omega (arith, length-append first (all_lines (take i made)))

begin_at : (before i : ℕ) (made : List (List Meaning)) → i < length made → (d : ℕ)
    → get_or (ends_from before made) i d ≡ before + length (all_lines (take (i + 1) made))
begin_at before i [] low d = absurd (omega (arith, low))
begin_at before zero (first ∷ made) low d =
    let one : 0 + 1 ≡ 1 = omega arith in
    omega (arith, ap (λ k. length (all_lines (take k (first ∷ made)))) one, length-append first [])
begin_at before (suc i) (first ∷ made) low d =
    let one : suc i + 1 ≡ suc (i + 1) = omega arith in
    begin_at (before + length first) i made (omega (arith, low)) d
    ∙ omega (
      arith,
      ap (λ k. length (all_lines (take k (first ∷ made)))) one,
      length-append first (all_lines (take (i + 1) made)),
    )

-- lines between two places
between : {X : Type 0} (prefix part later : List X) (from to : ℕ) → length prefix ≡ from → from + length part ≡ to
    → slice_range (prefix ++ (part ++ later)) from to ≡ part
between prefix part later from to at end =
    ap (take (to - from)) (drop_at prefix (part ++ later) from at)
    ∙ take_at part later (to - from) (omega (arith, end))

range_mapped : (octets : List ℕ) (kept : List KeptMeaning) (from to : ℕ)
    → meanings_in octets (slice_range kept from to) ≡ slice_range (meanings_in octets kept) from to
range_mapped octets kept from to =
    sym (take-map (meaning_in octets) (to - from) (drop from kept))
    ∙ ap (take (to - from)) (sym (drop-map (meaning_in octets) from kept))

-- an epoch of a case by its place
abbrev pub epoch_at_place : (own : Case) → ℕ → List Meaning → List LineTold → Epoch
epoch_at_place own i now here = record {
  prefix = take i own.made;
  now = now;
  left = drop (i + 1) own.made;
  told = take i (told_of own);
  here = here;
  later = drop (i + 1) (told_of own);
}

pub told_count : (own : Case) → length (told_of own) ≡ length own.made
told_count own = cut_count own.made (in_line_order (length (all_lines own.made)) (line_entries own.entries))

-- what was judged of the first epochs
pub record JudgedAt (own : Case) (i : ℕ) (setup : Setup) (subscribers : List SubscriberState) (judge : Judge) :
    Type 0 where
  pub judged : HasJudged own (take i own.made) (drop i own.made) (take i (told_of own)) (drop i (told_of own)) judge
  pub stands : StandsBehind own (take i (told_of own)) (drop i own.made) subscribers judge
  pub setup_is : judge.setup ≡ setup
  pub many : length subscribers ≡ own.slots

module _ (own : Case) (setup : Setup) (trace : Trace) (report : Report) (is : IsCaseOf own setup trace report) where
  pub ends_many : length trace.ends.items ≡ length own.made
  ends_many = ap length is.ends ∙ ends_count 0 own.made

  pub judged_none : (judge : Judge) → HasJudged own [] own.made [] (told_of own) judge → judge.setup ≡ setup
      → JudgedAt own 0 setup trace.subscribers.items judge
  judged_none judge judged setup_is = record {
    judged = judged;
    stands = λ low. record {
      many = is.many;
      stand = is.no_event;
      slices = is.slices;
      latest = 0;
      rest = subst (λ n. AreAtRest is.slices n 0 trace.subscribers.items) (sym judged.lines) is.rest;
      late = is.late;
    };
    setup_is = setup_is;
    many = is.many;
  }

  few_all : length (all_lines own.made) < 2 ^ 40
  few_all =
      omega (
        arith,
        is.few,
        ap length is.mean,
        length-map trace.kept.items (meaning_in trace.octets.items),
      )

  module _ (i : ℕ) (now : List Meaning) (here : List LineTold) (low : i < length own.made)
      (now_is : now ≡ get_or own.made i now) (here_is : here ≡ get_or (told_of own) i here) where
    made_parts : own.made ≡ take i own.made ++ now ∷ drop (i + 1) own.made
    made_parts =
        sym (take-append-drop i own.made) ∙ ap (λ l. take i own.made ++ l) (drop_next own.made i now low now_is)

    all_parts : all_lines own.made ≡ all_lines (take i own.made) ++ (now ++ all_lines (drop (i + 1) own.made))
    all_parts =
        ap all_lines made_parts
        ∙ flat_map-append (λ (made : List Meaning). made) (take i own.made) (now ∷ drop (i + 1) own.made)

    -- its lines among all
    module _ (from to : ℕ) (from_is : from ≡ length (all_lines (take i own.made)))
        (to_is : to ≡ from + length now) where
      lines_mean : meanings_in trace.octets.items (slice_range trace.kept.items from to) ≡ now
      lines_mean =
          range_mapped trace.octets.items trace.kept.items from to
          ∙ ap (λ l. slice_range l from to) (is.mean ∙ all_parts)
          ∙ between (all_lines (take i own.made)) now (all_lines (drop (i + 1) own.made)) from to (sym from_is)
          (sym to_is)

      lines_placed : ArePlaced trace.octets.items (slice_range trace.kept.items from to)
      lines_placed =
          All-take (IsPlaced trace.octets.items) (to - from) (drop from trace.kept.items)
          (All-drop (IsPlaced trace.octets.items) from trace.kept.items is.placed)

      pub runs_next : (subscribers : List SubscriberState) (judge : Judge) (runs : List Run)
          → JudgedAt own i setup subscribers judge → rank_of of.Answers < asked_of judge.broken
          → runs ≡ under i report.runs.items
          → RunsNext own (epoch_at_place own i now here) trace.octets.items (slice_range trace.kept.items from to)
          report runs subscribers judge
      runs_next subscribers judge runs at goes_on runs_are = record {
        setup = ap setup_of at.setup_is ∙ is.setup_is;
        means = lines_mean;
        placed = lines_placed;
        held = is.held;
        runs_are = runs_are
            ∙ ap (λ k. under k report.runs.items) (sym (length-take-le i own.made (omega (arith, low))));
        known = All-cons (All (IsKnown own.slots)) now []
            (subst (All (IsKnown own.slots)) (sym now_is)
            (All-get_or (All (IsKnown own.slots)) own.made i now low is.known))
            (All-nil (All (IsKnown own.slots)));
        few = few_all;
        judged = subst (λ l. HasJudged own (take i own.made) l (take i (told_of own)) (here ∷ drop (i + 1) (told_of own))
            judge) (drop_next own.made i now low now_is)
            (subst (λ l. HasJudged own (take i own.made) (drop i own.made) (take i (told_of own)) l judge)
            (drop_next (told_of own) i here (omega (arith, low, told_count own)) here_is) at.judged);
        stands = subst (λ l. StandsBehind own (take i (told_of own)) l subscribers judge)
            (drop_next own.made i now low now_is) at.stands;
        goes_on = goes_on;
      }

    -- and behind it
    pub judged_at : (subscribers : List SubscriberState) (judge : Judge)
        → HasJudged own (take i own.made ++ now ∷ []) (drop (i + 1) own.made) (take i (told_of own) ++ here ∷ [])
        (drop (i + 1) (told_of own)) judge
        → StandsBehind own (take i (told_of own) ++ here ∷ []) (drop (i + 1) own.made) subscribers judge
        → judge.setup ≡ setup → length subscribers ≡ own.slots
        → JudgedAt own (i + 1) setup subscribers judge
    judged_at subscribers judge judged stands setup_is many =
        let made_is : take i own.made ++ now ∷ [] ≡ take (i + 1) own.made = sym (took_one own.made i now low now_is) in
        let told_is : take i (told_of own) ++ here ∷ [] ≡ take (i + 1) (told_of own) =
        sym (took_one (told_of own) i here (omega (arith, low, told_count own)) here_is) in
        record {
          judged = subst (λ l. HasJudged own l (drop (i + 1) own.made) (take (i + 1) (told_of own))
              (drop (i + 1) (told_of own)) judge) made_is
              (subst (λ l. HasJudged own (take i own.made ++ now ∷ []) (drop (i + 1) own.made) l
              (drop (i + 1) (told_of own)) judge) told_is judged);
          stands = subst (λ l. StandsBehind own l (drop (i + 1) own.made) subscribers judge) told_is stands;
          setup_is = setup_is;
          many = many;
        }

  -- the end of all
  pub is_end : (i : ℕ) (subscribers : List SubscriberState) (judge : Judge) → length own.made ≤ i
      → JudgedAt own i setup subscribers judge → IsEnd own (take i (told_of own)) report subscribers judge
  is_end i subscribers judge past at =
      let none : drop i own.made ≡ [] = drop_all i own.made past in
      record {
        setup = ap setup_of at.setup_is ∙ is.setup_is;
        judged = subst (λ l. HasJudged own own.made l (take i (told_of own)) [] judge) none
            (subst (λ l. HasJudged own own.made (drop i own.made) (take i (told_of own)) l judge)
            (drop_all i (told_of own) (omega (arith, past, told_count own)))
            (subst (λ l. HasJudged own l (drop i own.made) (take i (told_of own)) (drop i (told_of own)) judge)
            (take_all i own.made past) at.judged));
        stands = subst (λ l. StandsBehind own (take i (told_of own)) l subscribers judge) none at.stands;
        held = is.held;
      }

-- the entries of its runs are those that belong to it
pub comes_next : (own : Case) (at : Epoch) (octets : List ℕ) (lines : List KeptMeaning) (report : Report) (runs : List Run)
    (entries : List Stood) (subscribers : List SubscriberState) (judge : Judge)
    → RunsNext own at octets lines report runs subscribers judge
    → AreThose entries (placed_in own.made (length at.prefix) own.entries)
    → ComesNext own at octets lines report entries subscribers judge
comes_next own at octets lines report runs entries subscribers judge next those = record {
  setup = next.setup;
  next = record {
    means = next.means;
    placed = next.placed;
    held = next.held;
    those = those;
    known = next.known;
    few = next.few;
  };
  judged = next.judged;
  stands = next.stands;
  goes_on = next.goes_on;
}

-- where a line isn't answered, no more is asked
pub over_found : (own : Case) (prefix left : List (List Meaning)) (told later : List (List LineTold)) (judge : Judge)
    → HasJudged own prefix left told later judge → asked_of judge.broken ≤ rank_of of.Answers
    → HasFound own judge.broken
over_found own prefix left told later judge judged low =
    let Old = HoldsOf own prefix told in
    found_all own Old judge.broken
    (all_done own Old (HoldsWhole own) judge.broken 1 low
    (pass_step own Old (HoldsWhole own) of.Entries judge.broken 0 refl
    (begin_with own Old (HoldsWhole own) judge.broken judged.holds judged.kept) (λ less. tt)))

-- an item of a list
pub pick : {X : Type 0} (xs : List X) (i : ℕ) → i < length xs → (x : X) × (x ≡ get_or xs i x)
pick [] i low = absurd (omega (arith, low))
pick (x ∷ xs) zero low = (x, refl)
pick (x ∷ xs) (suc i) low = pick xs i (omega (arith, low))

-- where an epoch begins and ends
module _ (own : Case) (setup : Setup) (trace : Trace) (report : Report) (is : IsCaseOf own setup trace report) where
  pub begin_is : (i begin : ℕ) → i < length own.made → (i ≡ 0 → begin ≡ 0)
      → ((before : ℕ) → i ≡ before + 1 → begin ≡ get_or trace.ends.items before 0)
      → begin ≡ length (all_lines (take i own.made))
  begin_is zero begin low first later = first refl
  begin_is (suc i) begin low first later =
      let one : suc i ≡ i + 1 = omega arith in
      later i one ∙ ap (λ l. get_or l i 0) is.ends ∙ begin_at 0 i own.made (omega (arith, low)) 0
      ∙ (let count : 0 + length (all_lines (take (i + 1) own.made)) ≡ length (all_lines (take (suc i) own.made)) =
      omega (arith, ap (λ k. length (all_lines (take k own.made))) one) in count)

  pub end_is : (i from end : ℕ) (now : List Meaning) → i < length own.made → now ≡ get_or own.made i now
      → from ≡ length (all_lines (take i own.made)) → (d : ℕ) → end ≡ get_or trace.ends.items i d
      → end ≡ from + length now
  end_is i from end now low now_is from_is d end_at_i =
      omega (arith, end_at_i, ap (λ l. get_or l i d) is.ends, end_at 0 i own.made now low now_is d, from_is)

  -- and that its lines are among all
  pub end_low : (i : ℕ) (now : List Meaning) → i < length own.made → now ≡ get_or own.made i now
      → length (all_lines (take i own.made)) + length now ≤ length trace.kept.items
  end_low i now low now_is =
      let whole : length (all_lines own.made)
      ≡ length (all_lines (take i own.made)) + (length now + length (all_lines (drop (i + 1) own.made))) =
      ap length (ap all_lines (sym (take-append-drop i own.made)
      ∙ ap (λ l. take i own.made ++ l) (drop_next own.made i now low now_is))
      ∙ flat_map-append (λ (made : List Meaning). made) (take i own.made) (now ∷ drop (i + 1) own.made))
      ∙ length-append (all_lines (take i own.made)) (now ++ all_lines (drop (i + 1) own.made))
      ∙ ap (λ k. length (all_lines (take i own.made)) + k) (length-append now (all_lines (drop (i + 1) own.made))) in
      omega (arith, whole, ap length is.mean, length-map trace.kept.items (meaning_in trace.octets.items))

-- one epoch of all, between its places
module _ (own : Case) (setup : Setup) (trace : Trace) (report : Report) (is : IsCaseOf own setup trace report)
    (i begin end d : ℕ) (low : i < length own.made) (first : i ≡ 0 → begin ≡ 0)
    (later : (before : ℕ) → i ≡ before + 1 → begin ≡ get_or trace.ends.items before 0)
    (end_is_at : end ≡ get_or trace.ends.items i d) where
  abbrev now_at : (x : List Meaning) × (x ≡ get_or own.made i x)
  now_at = pick own.made i low

  abbrev here_at : (x : List LineTold) × (x ≡ get_or (told_of own) i x)
  here_at = pick (told_of own) i (omega (arith, low, told_count own))

  from_at : begin ≡ length (all_lines (take i own.made))
  from_at = begin_is own setup trace report is i begin low first later

  to_at : end ≡ begin + length now_at.0
  to_at = end_is own setup trace report is i begin end now_at.0 low now_at.1 from_at d end_is_at

  pub begins_before : begin ≤ end
  begins_before = omega (arith, to_at)

  pub ends_within : end ≤ length trace.kept.items
  ends_within = omega (arith, to_at, from_at, end_low own setup trace report is i now_at.0 low now_at.1)

  abbrev pub this_epoch : Epoch
  this_epoch = epoch_at_place own i now_at.0 here_at.0

  pub this_next : (subscribers : List SubscriberState) (judge : Judge) (runs : List Run)
      → JudgedAt own i setup subscribers judge → rank_of of.Answers < asked_of judge.broken
      → runs ≡ under i report.runs.items
      → RunsNext own this_epoch trace.octets.items (slice_range trace.kept.items begin end) report runs subscribers judge
  this_next = runs_next own setup trace report is i now_at.0 here_at.0 low now_at.1 here_at.1 begin end from_at to_at

  pub this_judged : (subscribers : List SubscriberState) (judge : Judge)
      → HasJudged own (this_epoch.prefix ++ this_epoch.now ∷ []) this_epoch.left (this_epoch.told ++ this_epoch.here ∷ [])
      this_epoch.later judge
      → StandsBehind own (this_epoch.told ++ this_epoch.here ∷ []) this_epoch.left subscribers judge
      → judge.setup ≡ setup → length subscribers ≡ own.slots → JudgedAt own (i + 1) setup subscribers judge
  this_judged = judged_at own setup trace report is i now_at.0 here_at.0 low now_at.1 here_at.1

pub goes_on_so : (asked rank : ℕ) → (asked ≤ rank → ⊥) → rank < asked
goes_on_so asked rank over = elim (cases_lt rank asked) [
  | inl low ↦ low
  | inr past ↦ absurd (over past)
]
