-- Whether a packet of a slot may be parked behind one line more of an epoch.
use Rattle.std.proofs.Common.{◌≡◌, ◌≢◌, ℕ, ◌==◌, ◌&&◌, ◌||◌, Bool, true, false, Option, None, Some, List, [], ◌∷◌, ◌++◌, cond, refl, sym, ap, ◌∙◌, append-nil}
use Rattle.std.specs.List.{cons_option, filter_map, list_all}
use Rattle.std.proofs.lemmas.Bool.{eq-eqb, ne_eqb}
use Rattle.std.proofs.lemmas.List.Elements.{filter_map-append}
use Rattle.std.proofs.lemmas.List.Folds.{list_all-append}
use Rattle.demux.specs.Trace.{Meaning, command, packet, move, note}
use Rattle.report_lines.specs.declared.entry.LineEntry.{LineEntry}
use Rattle.report_lines.specs.declared.entry.LineEntry.TheVariants as line
use Rattle.lawful_run.specs.Answers.{Answers}
use Rattle.lawful_run.specs.LinesTold.{LineTold}
use Rattle.lawful_run.specs.Moves.{behind_last_move, is_moved, moves}
use Rattle.lawful_run.specs.Parking.{parked_told}
use Rattle.audit_core.specs.Meant.{slot_in}
use Rattle.audit_core.specs.Walking.{may_park, own_by}
use Rattle.audit_core.specs.declared.walking.Own.{Own}
use Rattle.audit_core.proofs.MoveLemmas.{now_moved, still_unmoved}

-- behind a move
behind_this : (slot : ℕ) (lines : List LineTold) (now : LineTold) → moves slot now ≡ true
    → behind_last_move slot (lines ++ now ∷ []) ≡ []
behind_this slot [] now moves_ = ap (λ m. cond (m || false) [] (now ∷ [])) moves_
behind_this slot (first ∷ lines) now moves_ =
    ap (λ m. cond m (behind_last_move slot (lines ++ now ∷ [])) (first ∷ (lines ++ now ∷ [])))
    (now_moved slot (first ∷ lines) now moves_)
    ∙ behind_this slot lines now moves_

with_last : (test : Bool) (prefix others : List LineTold) (now : LineTold)
    → cond test (prefix ++ now ∷ []) (others ++ now ∷ []) ≡ cond test prefix others ++ now ∷ []
with_last true prefix others now = refl
with_last false prefix others now = refl

behind_more : (slot : ℕ) (lines : List LineTold) (now : LineTold) → moves slot now ≡ false
    → behind_last_move slot (lines ++ now ∷ []) ≡ behind_last_move slot lines ++ now ∷ []
behind_more slot [] now stays = ap (λ m. cond (m || false) [] (now ∷ [])) stays
behind_more slot (first ∷ lines) now stays =
    (λ i. cond (still_unmoved slot (first ∷ lines) now stays i) (behind_more slot lines now stays i)
    (first ∷ (lines ++ now ∷ [])))
    ∙ with_last (is_moved slot (first ∷ lines)) (behind_last_move slot lines) (first ∷ lines) now

-- those parked, with one line more that doesn't move the slot
abbrev parked_since : ℕ → List LineTold → List Bool
parked_since slot prefix = filter_map (parked_told slot) (behind_last_move slot prefix)

parked_more : (slot : ℕ) (prefix : List LineTold) (now : LineTold) (parked : Option Bool) → moves slot now ≡ false
    → parked_told slot now ≡ parked
    → parked_since slot (prefix ++ now ∷ []) ≡ parked_since slot prefix ++ cons_option parked []
parked_more slot prefix now parked stays is =
    ap (filter_map (parked_told slot)) (behind_more slot prefix now stays)
    ∙ filter_map-append (parked_told slot) (behind_last_move slot prefix) (now ∷ [])
    ∙ ap (λ x. parked_since slot prefix ++ cons_option x []) is

abbrev all_parked : List Bool → Bool
all_parked parked = list_all (λ (p : Bool). p) parked

with_one : (moved all one : Bool) → (moved && (all && (one && true))) ≡ ((moved && all) && one)
with_one false all one = refl
with_one true false one = refl
with_one true true false = refl
with_one true true true = refl

module _ (slot : ℕ) (prefix : List LineTold) (now : LineTold) where
  may_moved : moves slot now ≡ true → may_park slot (prefix ++ now ∷ []) ≡ true
  may_moved moves_ =
      (λ i. now_moved slot prefix now moves_ i
      && all_parked (filter_map (parked_told slot) (behind_this slot prefix now moves_ i)))

  may_quiet : moves slot now ≡ false → parked_told slot now ≡ None
      → may_park slot (prefix ++ now ∷ []) ≡ may_park slot prefix
  may_quiet stays none =
      let same : parked_since slot (prefix ++ now ∷ []) ≡ parked_since slot prefix =
      parked_more slot prefix now None stays none ∙ append-nil (parked_since slot prefix) in
      (λ i. still_unmoved slot prefix now stays i && all_parked (same i))

  may_parked : (parked : Bool) → moves slot now ≡ false → parked_told slot now ≡ Some parked
      → may_park slot (prefix ++ now ∷ []) ≡ (may_park slot prefix && parked)
  may_parked parked stays is =
      (λ i. still_unmoved slot prefix now stays i && all_parked (parked_more slot prefix now (Some parked) stays is i))
      ∙ ap (λ t. is_moved slot prefix && t) (list_all-append (λ (p : Bool). p) (parked_since slot prefix) (parked ∷ []))
      ∙ with_one (is_moved slot prefix) (all_parked (parked_since slot prefix)) parked

-- behind a line of the slot
pub may_next : (n slot : ℕ) (own : Own) (before : List LineTold) (meaning : Meaning) (entry : LineEntry)
    → Answers n meaning entry → slot_in meaning ≡ Some slot → own.may_park ≡ may_park slot before
    → (own_by own meaning entry).may_park ≡ may_park slot (before ++ record { meaning = meaning; entry = entry } ∷ [])
may_next n slot own before (note text) entry answers is may = absurd (nothing is)
  where
    nothing : None ≡ Some slot → ⊥
    nothing none = cc
may_next n slot own before (move at slice text) entry answers is may =
    let same : at ≡ slot = cc in
    sym (may_moved slot before (record { meaning = move at slice text; entry = entry }) (eq-eqb at slot same))
may_next n slot own before (command at c) (line.N noted) answers is may = absurd answers
may_next n slot own before (command at c) (line.C answered) answers is may =
    may ∙ sym (may_quiet slot before (record { meaning = command at c; entry = line.C answered }) refl refl)
may_next n slot own before (command at c) (line.P judged) answers is may = absurd answers
may_next n slot own before (command at c) (line.F refused) answers is may =
    may ∙ sym (may_quiet slot before (record { meaning = command at c; entry = line.F refused }) refl refl)
may_next n slot own before (packet at p) (line.N noted) answers is may = absurd answers
may_next n slot own before (packet at p) (line.C answered) answers is may = absurd answers
may_next n slot own before (packet at p) (line.P judged) answers is may =
    let same : at ≡ slot = cc in
    let here : (judged.slot == slot) ≡ true = eq-eqb judged.slot slot (answers.1 ∙ same) in
    ap (λ m. m && judged.parked) may
    ∙ sym (may_parked slot before (record { meaning = packet at p; entry = line.P judged }) judged.parked refl
    (ap (λ t. cond t (Some judged.parked) None) here))
may_next n slot own before (packet at p) (line.F refused) answers is may =
    may ∙ sym (may_quiet slot before (record { meaning = packet at p; entry = line.F refused }) refl refl)

-- behind a line of another slot, or of none
abbrev pub NotOf : ℕ → Meaning → Type 0
NotOf slot meaning = (at : ℕ) → slot_in meaning ≡ Some at → at ≢ slot

pub may_other : (n slot : ℕ) (before : List LineTold) (meaning : Meaning) (entry : LineEntry) → Answers n meaning entry
    → NotOf slot meaning
    → may_park slot (before ++ record { meaning = meaning; entry = entry } ∷ []) ≡ may_park slot before
may_other n slot before (note text) (line.N noted) answers other =
    may_quiet slot before (record { meaning = note text; entry = line.N noted }) refl refl
may_other n slot before (note text) (line.C answered) answers other = absurd answers
may_other n slot before (note text) (line.P judged) answers other = absurd answers
may_other n slot before (note text) (line.F refused) answers other = absurd answers
may_other n slot before (move at slice text) (line.N noted) answers other =
    may_quiet slot before (record { meaning = move at slice text; entry = line.N noted })
    (ne_eqb at slot (other at refl)) refl
may_other n slot before (move at slice text) (line.C answered) answers other = absurd answers
may_other n slot before (move at slice text) (line.P judged) answers other = absurd answers
may_other n slot before (move at slice text) (line.F refused) answers other = absurd answers
may_other n slot before (command at c) (line.N noted) answers other = absurd answers
may_other n slot before (command at c) (line.C answered) answers other =
    may_quiet slot before (record { meaning = command at c; entry = line.C answered }) refl refl
may_other n slot before (command at c) (line.P judged) answers other = absurd answers
may_other n slot before (command at c) (line.F refused) answers other =
    may_quiet slot before (record { meaning = command at c; entry = line.F refused }) refl refl
may_other n slot before (packet at p) (line.N noted) answers other = absurd answers
may_other n slot before (packet at p) (line.C answered) answers other = absurd answers
may_other n slot before (packet at p) (line.P judged) answers other =
    let there : (judged.slot == slot) ≡ false = ne_eqb judged.slot slot
    (λ is. other at refl (sym answers.1 ∙ is)) in
    may_quiet slot before (record { meaning = packet at p; entry = line.P judged }) refl
    (ap (λ t. cond t (Some judged.parked) None) there)
may_other n slot before (packet at p) (line.F refused) answers other =
    may_quiet slot before (record { meaning = packet at p; entry = line.F refused }) refl refl
