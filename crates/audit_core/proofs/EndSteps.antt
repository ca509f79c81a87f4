-- What is found behind all epochs: what belongs to none, open counters, and the order of all entries.
use Rattle.std.proofs.Common.{◌≡◌, ℕ, ◌+◌, ◌<◌, ◌≤◌, if◌then◌else◌, Bool, true, false, IfNone, IfSome, Option, Some, None, List, [], ◌∷◌, ◌++◌, length, get_or, map, refl, sym, ap, ◌∙◌, subst, inl, inr, arith, append-nil}
use Rattle.std.specs.List.{All, find}
use Rattle.std.proofs.lemmas.Bool.{cases_lt}
use Rattle.std.proofs.lemmas.List.Elements.{All-cons, All-map, All-nil}
use Rattle.std.specs.Borrow.{Bor}
use Rattle.gate_model.specs.declared.event.Event.{Event}
use Rattle.report_lines.specs.Records.{Effected}
use Rattle.report_lines.specs.declared.entry.ChargeEntry.{ChargeEntry}
use Rattle.report_lines.specs.declared.entry.ChargeEntry.TheVariants.{O}
use Rattle.report_lines.specs.declared.entry.Entry.{Entry}
use Rattle.report_lines.specs.declared.entry.Entry.TheVariants as entry
use Rattle.report_lines.specs.declared.entry.LineEntry.{LineEntry}
use Rattle.lawful_run.specs.LinesTold.{LineTold}
use Rattle.lawful_run.specs.Merging.{Histories, events_in}
use Rattle.lawful_run.specs.Outcomes as made_of
use Rattle.lawful_run.specs.Report.{EpochReport}
use Rattle.lawful_run.specs.Run.{by_slot, no_events}
use Rattle.subscriber.specs.Standing.{SubscriberState}
use Rattle.audit_core.specs.Agreeing.{AreBySlot, AreTold, lent, slot_effected}
use Rattle.audit_core.specs.AnswerPlaces.{is_outside}
use Rattle.audit_core.specs.Charges.{EpochsBreak, OpenBreakOf}
use Rattle.audit_core.specs.Dues.{StandsSo}
use Rattle.audit_core.specs.Entries.{all_lines, effects_told, in_line_order, line_entries, opens_told, rows_told, slot_charged}
use Rattle.audit_core.specs.Judged.{Behind, BreakOf, Case, Epoch, HasFound, HoldsOf, HoldsWhole, IsBroken, IsEnd, IsEndedTo, Partly, RestsBehind, asked_of, due_of, histories_at, led_here, led_to, offered, told_of}
use Rattle.audit_core.specs.Places.{first_of}
use Rattle.audit_core.specs.Ranks.{rank_of}
use Rattle.audit_core.specs.Sentences.{behind_epochs, made_report}
use Rattle.audit_core.specs.Telling.{tells}
use Rattle.audit_core.specs.Why.{OrderBreak}
use Rattle.audit_core.specs.declared.judge.Judge.{Judge}
use Rattle.audit_core.specs.declared.report.Report.{Report}
use Rattle.audit_core.specs.declared.sentence.Refutation.{Refutation}
use Rattle.audit_core.specs.declared.sentence.Sentence.{Sentence as Asked}
use Rattle.audit_core.specs.declared.sentence.Sentence.TheVariants as of
use Rattle.audit_core.specs.declared.telling.Break.{Break}
use Rattle.audit_core.proofs.AnswerSteps.{cut_count}
use Rattle.audit_core.proofs.EpochCharges.{effects_all, rows_all}
use Rattle.audit_core.proofs.EpochSteps.{made_count}
use Rattle.audit_core.proofs.FoundAll.{found_all, inside}
use Rattle.audit_core.proofs.JudgeSteps.{none_map, some_map}
use Rattle.audit_core.proofs.MadeLemmas.{all_below, stands_by_slot}
use Rattle.audit_core.proofs.NoEpoch.{IsLine, no_effects, no_rows}
use Rattle.audit_core.proofs.OfferLemmas.{all_done, begin_with, offer_step, pass_step}
use Rattle.audit_core.proofs.OwnLemmas.{effects_own, rows_own}

-- what the events of an epoch make stands by slot
pub effects_by : (own : Case) (at : Epoch) (slots : ℕ) (effects : List Effected) → slots ≡ own.slots
    → effects ≡ (led_here own at).effects → AreBySlot slot_effected slots effects
effects_by own at slots effects many is =
    let before = histories_at at in
    subst (λ n. AreBySlot slot_effected n effects) (sym many)
    (stands_by_slot slot_effected (λ s. made_of.effects s (before s) (events_in (before s) at.here s))
    (λ s. effects_own s (before s) (events_in (before s) at.here s)) own.slots effects is)

pub rows_by : (own : Case) (at : Epoch) (slots : ℕ) (rows : List ChargeEntry) → slots ≡ own.slots
    → rows ≡ (led_here own at).rows → AreBySlot slot_charged slots rows
rows_by own at slots rows many is =
    let before = histories_at at in
    subst (λ n. AreBySlot slot_charged n rows) (sym many)
    (stands_by_slot slot_charged (λ s. made_of.rows s (before s) (events_in (before s) at.here s))
    (λ s. rows_own s (before s) (events_in (before s) at.here s)) own.slots rows is)

opens_own : (slot : ℕ) (events : List Event) → All (λ charge. slot_charged charge ≡ slot) (made_of.opens slot events)
opens_own slot events =
    All-map (λ charge. slot_charged charge ≡ slot) (O slot) (made_of.open_counters slot events) (λ k d low. refl)

-- and so are open counters below so many
pub opens_below : (slots : ℕ) (histories : Histories) (opens : List ChargeEntry)
    → opens ≡ by_slot slots (λ slot. made_of.opens slot (histories slot))
    → All (λ charge. slot_charged charge < slots) opens
opens_below slots histories opens is =
    subst (All (λ charge. slot_charged charge < slots)) (sym is)
    (all_below slot_charged (λ slot. made_of.opens slot (histories slot)) (λ slot. opens_own slot (histories slot)) slots)

-- where no line is answered that there isn't
known_by : (count : ℕ) (e : LineEntry) (test : Bool) → is_outside count e ≡ test → (rest : Option LineEntry)
    → (if test then Some e else rest) ≡ None → is_outside count e ≡ false
known_by count e true is rest none = absurd (let no : Some e ≡ None = none in cc)
known_by count e false is rest none = is

rest_none : (test : Bool) (e : LineEntry) (rest : Option LineEntry) → (if test then Some e else rest) ≡ None → rest ≡ None
rest_none true e rest none = absurd (let no : Some e ≡ None = none in cc)
rest_none false e rest none = none

pub lines_known : (count : ℕ) (entries : List Entry) → find (is_outside count) (line_entries entries) ≡ None
    → All (IsLine count) entries
lines_known count [] none = All-nil (IsLine count)
lines_known count (entry.Line of_line ∷ later) none =
    All-cons (IsLine count) (entry.Line of_line) later
    (inside count of_line (known_by count of_line (is_outside count of_line) refl
    (find (is_outside count) (line_entries later)) none))
    (lines_known count later (rest_none (is_outside count of_line) of_line
    (find (is_outside count) (line_entries later)) none))
lines_known count (entry.Effect effect ∷ later) none =
    All-cons (IsLine count) (entry.Effect effect) later tt (lines_known count later none)
lines_known count (entry.Charge charged ∷ later) none =
    All-cons (IsLine count) (entry.Charge charged) later tt (lines_known count later none)

module _ (own : Case) where
  -- of what was judged up to the end of the epochs
  pub told_all : (told : List (List LineTold)) → told_of own ≡ told ++ [] → told ≡ told_of own
  told_all told is = sym (append-nil told) ∙ sym is

  pub whole_first : (broken : Option Refutation) → ((s : Asked) → rank_of s < asked_of broken → Behind own s)
      → IsBroken own broken → Partly own (Behind own) (HoldsWhole own) 6 broken
  whole_first broken holds kept =
      let none = begin_with own (Behind own) (HoldsWhole own) broken holds kept in
      let entries = pass_step own (Behind own) (HoldsWhole own) of.Entries broken 0 refl none (λ low. tt) in
      let answers = pass_step own (Behind own) (HoldsWhole own) of.Answers broken 1 refl entries
      (λ low. holds of.Answers low) in
      let outside = pass_step own (Behind own) (HoldsWhole own) of.Outside broken 2 refl answers
      (λ low. holds of.Outside low) in
      let numbers = pass_step own (Behind own) (HoldsWhole own) of.Numbers broken 3 refl outside
      (λ low. holds of.Numbers low) in
      let counts = pass_step own (Behind own) (HoldsWhole own) of.Counts broken 4 refl numbers
      (λ low. holds of.Counts low) in
      pass_step own (Behind own) (HoldsWhole own) of.Gateway broken 5 refl counts (λ low. holds of.Gateway low)

  abbrev epochs : ℕ
  epochs = length (led_to own (told_of own))

  epochs_many : epochs ≡ length own.made
  epochs_many =
      made_count own.slots no_events (told_of own)
      ∙ cut_count own.made (in_line_order (length (all_lines own.made)) (line_entries own.entries))

  known : HoldsWhole own of.Outside → All (IsLine (length (all_lines own.made))) own.entries
  known none = lines_known (length (all_lines own.made)) own.entries none

  -- nothing belongs to no epoch, but where there is none
  module _ {X : Type 0} (told : ℕ → List X) (first : told (length own.made) ≡ [])
      (none : (later : ℕ) → 0 < length own.made + later → told (length own.made + later) ≡ []) where
    none_past : (later : ℕ) → told (0 + epochs + later) ≡ []
    none_past later = elim (cases_lt 0 (length own.made + later)) [
      | inl some ↦
          let at : length own.made + later ≡ 0 + epochs + later = omega (arith, epochs_many) in
          subst (λ k. told k ≡ []) at (none later some)
      | inr zero_ ↦
          let at : length own.made ≡ 0 + epochs + later = omega (arith, epochs_many, zero_) in
          subst (λ k. told k ≡ []) at first
    ]

  module _ {X : Type 0} (told : ℕ → List X)
      (none : (later : ℕ) → 0 < length own.made + later → told (length own.made + later) ≡ []) where
    none_first : (item : X) (others : List X) → told (length own.made) ≡ item ∷ others → length own.made ≡ 0
    none_first item others stands = elim (cases_lt 0 (length own.made)) [
      | inl some ↦
          let at : length own.made + 0 ≡ length own.made = omega arith in
          let nothing : told (length own.made) ≡ [] =
          subst (λ k. told k ≡ []) at (none 0 (omega (arith, some))) in
          let no : item ∷ others ≡ [] = sym stands ∙ nothing in
          absurd (cc)
      | inr zero_ ↦ omega (arith, zero_)
    ]

    pub no_epoch : (whose : X → ℕ) (as_entry : X → Entry) (made : EpochReport → List X) (items : List X) (item : X)
        (found : Break) → items ≡ told (length own.made) → first_of items ≡ Some item
        → found ≡ tells (Some (as_entry item)) None
        → EpochsBreak whose as_entry own.slots told made (led_to own (told_of own)) found
    no_epoch whose as_entry made [] item found are some is = absurd (cc)
    no_epoch whose as_entry made (one ∷ others) item found are some is =
        let same : one ≡ item = cc in
        let stands : told (length own.made) ≡ item ∷ others = sym are ∙ ap (λ x. x ∷ others) same in
        let zero_ : length own.made ≡ 0 = none_first item others stands in
        inl (record {
          none = epochs_many ∙ zero_;
          item = item;
          others = others;
          stands = subst (λ k. told k ≡ item ∷ others) zero_ stands;
          is = is;
        })

  pub effects_end : (broken : Option Refutation) (found : Option Break) (items : List Effected)
      → items ≡ effects_told own.made (length own.made) own.entries
      → IfSome found (λ f. (item : Effected) × (first_of items ≡ Some item)
      × (f ≡ tells (Some (entry.Effect item)) None))
      → IfNone found (items ≡ [])
      → Partly own (Behind own) (HoldsWhole own) 6 broken
      → Partly own (Behind own) (HoldsWhole own) 7 (offered broken of.Effects found)
  effects_end broken found items are some none partly =
      let told = λ (epoch : ℕ). effects_told own.made epoch own.entries in
      offer_step own (Behind own) (HoldsWhole own) of.Effects broken found 6 refl partly
      (λ low. some_map (λ (f : Break). (item : Effected) × (first_of items ≡ Some item)
      × (f ≡ tells (Some (entry.Effect item)) None)) (BreakOf own of.Effects) found (λ f there.
      no_epoch told (no_effects own.made own.entries (length own.made) refl
      (known (partly.new of.Outside (omega (arith, low)) (omega arith))))
      slot_effected entry.Effect (λ (now : EpochReport). now.effects) items there.0 f are there.1 there.2) some)
      (λ low. none_map found (λ (nothing : items ≡ []).
      effects_all own.made own.entries 0 (led_to own (told_of own)) (partly.old of.Effects low (omega arith))
      (none_past told (sym are ∙ nothing) (no_effects own.made own.entries (length own.made) refl
      (known (partly.new of.Outside (omega (arith, low)) (omega arith)))))) none)

  pub rows_end : (broken : Option Refutation) (found : Option Break) (items : List ChargeEntry)
      → items ≡ rows_told own.made (length own.made) own.entries
      → IfSome found (λ f. (item : ChargeEntry) × (first_of items ≡ Some item)
      × (f ≡ tells (Some (entry.Charge item)) None))
      → IfNone found (items ≡ [])
      → Partly own (Behind own) (HoldsWhole own) 7 broken
      → Partly own (Behind own) (HoldsWhole own) 8 (offered broken of.Rows found)
  rows_end broken found items are some none partly =
      let told = λ (epoch : ℕ). rows_told own.made epoch own.entries in
      offer_step own (Behind own) (HoldsWhole own) of.Rows broken found 7 refl partly
      (λ low. some_map (λ (f : Break). (item : ChargeEntry) × (first_of items ≡ Some item)
      × (f ≡ tells (Some (entry.Charge item)) None)) (BreakOf own of.Rows) found (λ f there.
      no_epoch told (no_rows own.made own.entries (length own.made) refl
      (known (partly.new of.Outside (omega (arith, low)) (omega arith))))
      slot_charged entry.Charge (λ (now : EpochReport). now.rows) items there.0 f are there.1 there.2) some)
      (λ low. none_map found (λ (nothing : items ≡ []).
      rows_all own.made own.entries 0 (led_to own (told_of own)) (partly.old of.Rows low (omega arith))
      (none_past told (sym are ∙ nothing) (no_rows own.made own.entries (length own.made) refl
      (known (partly.new of.Outside (omega (arith, low)) (omega arith)))))) none)

  pub opens_end : (broken : Option Refutation) (found : Option Break) (told due : List ChargeEntry)
      → told ≡ opens_told own.entries → due ≡ (made_report own.slots (told_of own)).opens
      → IfSome found (OpenBreakOf told due) → IfNone found (AreTold told due)
      → Partly own (Behind own) (HoldsWhole own) 8 broken
      → Partly own (Behind own) (HoldsWhole own) 9 (offered broken of.Opens found)
  opens_end broken found told due told_are due_are some none partly =
      offer_step own (Behind own) (HoldsWhole own) of.Opens broken found 8 refl partly
      (λ low. some_map (OpenBreakOf told due) (BreakOf own of.Opens) found (λ f there.
      subst (λ (t : List ChargeEntry). OpenBreakOf t (made_report own.slots (told_of own)).opens f) told_are
      (subst (λ (d : List ChargeEntry). OpenBreakOf told d f) due_are there)) some)
      (λ low. none_map found (λ (are : AreTold told due).
      subst (λ (t : List ChargeEntry). AreTold t (made_report own.slots (told_of own)).opens) told_are
      (subst (AreTold told) due_are are)) none)

  pub waits_pass : (broken : Option Refutation) → Partly own (Behind own) (HoldsWhole own) 9 broken
      → Partly own (Behind own) (HoldsWhole own) 10 broken
  waits_pass broken partly =
      pass_step own (Behind own) (HoldsWhole own) of.Waits broken 9 refl partly
      (λ low. partly.old of.Waits low (omega arith))

  -- the entries that epochs are due stand first
  pub stands_end : (place : ℕ) → Behind own of.Order → place ≡ length (due_of own (told_of own))
      → StandsSo own.entries (due_of own (told_of own)) place
  stands_end place holds count = record { left = holds.0; parts = holds.1; behind = count }

  pub order_end : (broken : Option Refutation) (found : Option Break) (due : List ChargeEntry)
      → due ≡ (made_report own.slots (told_of own)).opens
      → IfSome found (OrderBreak own.entries (due_of own (told_of own) ++ map entry.Charge due))
      → IfNone found (own.entries ≡ due_of own (told_of own) ++ map entry.Charge due)
      → Partly own (Behind own) (HoldsWhole own) 10 broken
      → Partly own (Behind own) (HoldsWhole own) 11 (offered broken of.Order found)
  order_end broken found due due_are some none partly =
      offer_step own (Behind own) (HoldsWhole own) of.Order broken found 10 refl partly
      (λ low. some_map (OrderBreak own.entries (due_of own (told_of own) ++ map entry.Charge due))
      (BreakOf own of.Order) found (λ f there.
      subst (λ (d : List ChargeEntry). OrderBreak own.entries (due_of own (told_of own) ++ map entry.Charge d) f)
      due_are there) some)
      (λ low. none_map found (λ (are : own.entries ≡ due_of own (told_of own) ++ map entry.Charge due).
      are ∙ ap (λ (d : List ChargeEntry). due_of own (told_of own) ++ map entry.Charge d) due_are) none)

pub ended_six : (own : Case) (told : List (List LineTold)) (report : Report) (subscribers : List SubscriberState)
    (judge : Judge) → IsEnd own told report subscribers judge → IsEndedTo own 6 judge
ended_six own told report subscribers judge end =
    let all : told ≡ told_of own = told_all own told end.judged.told_parts in
    record {
      partly = whole_first own judge.broken
          (λ s low. subst (λ t. HoldsOf own own.made t s) all (end.judged.holds s low)) end.judged.kept;
      counted = λ less. end.judged.counted less ∙ ap (λ t. length (due_of own t)) all;
    }

pub found_low : (own : Case) (judge : Judge) (done : ℕ) → asked_of judge.broken ≤ done → IsEndedTo own done judge
    → HasFound own judge.broken
found_low own judge done low ended =
    found_all own (Behind own) judge.broken
    (all_done own (Behind own) (HoldsWhole own) judge.broken done low ended.partly)

-- the first of what is lent
pub first_lent : {X : Type 0} (items : List (Bor X)) (one : Bor X) → 0 < length items → one ≡ get_or items 0 one
    → first_of (lent items) ≡ Some one.now
first_lent [] one some is = absurd (omega (arith, some))
first_lent (first ∷ items) one some is = ap (λ (b : Bor _). Some b.now) (sym is)

pub none_lent : {X : Type 0} (items : List (Bor X)) → length items ≡ 0 → lent items ≡ []
none_lent [] none = refl
none_lent (first ∷ items) none = absurd (omega (arith, none))

-- the open counters that are due
pub due_all : (own : Case) (told : List (List LineTold)) (subscribers : List SubscriberState) (lines : ℕ)
    (due : List ChargeEntry) → told_of own ≡ told ++ [] → RestsBehind own told [] subscribers lines
    → due ≡ by_slot (length subscribers) (λ slot. made_of.opens slot (behind_epochs no_events told slot))
    → due ≡ (made_report own.slots (told_of own)).opens
due_all own told subscribers lines due parts rests is =
    let all : told ≡ told_of own = told_all own told parts in
    is ∙ (λ i. by_slot (rests.many i) (λ slot. made_of.opens slot (behind_epochs no_events (all i) slot)))
