-- A packet that is held has at most one fate, by a command behind it: over the events of a slot.
use Rattle.std.proofs.Common.{◌≡◌, ℕ, zero, suc, ◌+◌, ◌<◌, ◌≤◌, ◌==◌, ◌&&◌, Bool, true, false, cond, List, [], ◌∷◌, ◌++◌, length, map, get_or, refl, sym, ap, ◌∙◌, subst, arith, append_assoc, append-nil}
use Rattle.std.specs.List.{All, Contains, count_by, sum_by}
use Rattle.std.proofs.lemmas.Bool.{eq-eqb, eqb-true}
use Rattle.std.proofs.lemmas.List.Elements.{All-append, All-map, All-nil, Contains-append_left}
use Rattle.std.proofs.lemmas.List.Sums.{sum_by-append, sum_by-cons}
use Rattle.pc_base.specs.declared.effect.Effect.{Effect}
use Rattle.pc_base.specs.declared.effect.Effect.TheVariants as effect
use Rattle.gate_model.specs.Events.{commands_of}
use Rattle.gate_model.specs.Holding.{fates_at, fates_in, holds, is_fate_of, is_held}
use Rattle.gate_model.specs.SlotPast.{SlotPast, commanded, effects_after, happens, met, past_of, verdict_after}
use Rattle.gate_model.specs.Stories.{Episode, episodes_from}
use Rattle.gate_model.specs.declared.event.Event.{Event}
use Rattle.gate_model.specs.declared.event.Event.TheVariants as event
use Rattle.gate_model.proofs.Following.{past-append}
use Rattle.gate_model.proofs.HeldOnce.{held_once}
use Rattle.report_lines.specs.Records.{Effected}
use Rattle.lawful_run.specs.Outcomes as made_of
use Rattle.lawful_run.proofs.Growing.{effects-append}
use Rattle.report_laws.specs.Held.{tells_fate}
use Rattle.report_laws.proofs.Marks.{Mark, marks, marks-append, marks_within}

-- whether a packet of a number was held
abbrev pub holds_mark : ℕ → Mark → Bool
holds_mark number mark = mark.number == number && is_held mark.verdict

-- counts of a list
abbrev pub ones : Bool → ℕ
ones test = cond test 1 0

pub count-cons : {X : Type 0} (p : X → Bool) (x : X) (xs : List X)
    → count_by p (x ∷ xs) ≡ ones (p x) + count_by p xs
count-cons p x xs = sum_by-cons (λ y. ones (p y)) x xs

pub count-append : {X : Type 0} (p : X → Bool) (xs ys : List X)
    → count_by p (xs ++ ys) ≡ count_by p xs + count_by p ys
count-append p xs ys = sum_by-append (λ x. ones (p x)) xs ys

-- one that passes counts, and a count has one that passes
count_at : {X : Type 0} (p : X → Bool) (xs : List X) (k : ℕ) (d : X) → k < length xs → p (get_or xs k d) ≡ true
    → 1 ≤ count_by p xs
count_at p [] k d within passes = absurd (omega (arith, within))
count_at p (x ∷ xs) zero d within passes =
    let one : ones (p x) ≡ 1 = ap ones passes in omega (arith, count-cons p x xs, one)
count_at p (x ∷ xs) (suc k) d within passes =
    omega (arith, count-cons p x xs, count_at p xs k d (omega (arith, within)) passes)

pub record Found {X : Type 0} (p : X → Bool) (xs : List X) : Type 0 where
  pub one : X
  pub stands : Contains xs one
  pub passes : p one ≡ true

found_later : {X : Type 0} (p : X → Bool) (x : X) (xs : List X) → Found p xs → Found p (x ∷ xs)
found_later p x xs found = record {
  one = found.one;
  stands = (suc found.stands.0, omega (arith, found.stands.1), found.stands.2);
  passes = found.passes;
}

found_first : {X : Type 0} (p : X → Bool) (test : Bool) (x : X) (xs : List X) → p x ≡ test
    → 1 ≤ ones test + count_by p xs → (1 ≤ count_by p xs → Found p xs) → Found p (x ∷ xs)
found_first p true x xs is some rest = record { one = x; stands = (0, omega arith, refl); passes = is }
found_first p false x xs is some rest = found_later p x xs (rest (omega (arith, some)))

pub found_in : {X : Type 0} (p : X → Bool) (xs : List X) → 1 ≤ count_by p xs → Found p xs
found_in p [] some = absurd (omega (arith, some))
found_in p (x ∷ xs) some =
    found_first p (p x) x xs refl (omega (arith, some, count-cons p x xs)) (found_in p xs)

-- what a story tells of a number
held_in : ℕ → List Episode → ℕ
held_in number story = count_by (holds number) story

module _ (slot number : ℕ) where
  holds_are : (before events : List Event)
      → count_by (holds number) (episodes_from (past_of slot before) events)
      ≡ count_by (holds_mark number) (marks slot before events)
  unfolding happens
  holds_are before [] = refl
  holds_are before (event.Command c ∷ events) =
      let past : SlotPast = past_of slot before in
      let told : Episode = record { event = event.Command c; happened = (happens past (event.Command c)).1 } in
      let more : List Event = before ++ event.Command c ∷ [] in
      let story : episodes_from (commanded past c) events ≡ episodes_from (past_of slot more) events =
      ap (λ p. episodes_from p events) (sym (past-append slot before (event.Command c ∷ []))) in
      omega (
        arith,
        count-cons (holds number) told (episodes_from (commanded past c) events),
        ap (count_by (holds number)) story,
        holds_are more events,
      )
  holds_are before (event.Packet p ∷ events) =
      let past : SlotPast = past_of slot before in
      let told : Episode = record { event = event.Packet p; happened = (happens past (event.Packet p)).1 } in
      let more : List Event = before ++ event.Packet p ∷ [] in
      let mark : Mark =
      record { number = p.number; commands = length (commands_of before); verdict = verdict_after slot before p } in
      let story : episodes_from (met past p) events ≡ episodes_from (past_of slot more) events =
      ap (λ q. episodes_from q events) (sym (past-append slot before (event.Packet p ∷ []))) in
      omega (
        arith,
        count-cons (holds number) told (episodes_from (met past p) events),
        count-cons (holds_mark number) mark (marks slot more events),
        ap (count_by (holds number)) story,
        holds_are more events,
      )

  own_fates : (command : ℕ) (effects : List Effect)
      → count_by (tells_fate slot number) (map (made_of.effect_entry slot command) effects) ≡ fates_in number effects
  own_fates command [] = refl
  own_fates command (now ∷ effects) =
      let own : ones (tells_fate slot number (made_of.effect_entry slot command now)) ≡ ones (is_fate_of number now) =
      ap (λ t. ones (t && is_fate_of number now)) (eq-eqb slot slot refl) in
      omega (
        arith,
        count-cons (tells_fate slot number) (made_of.effect_entry slot command now)
            (map (made_of.effect_entry slot command) effects),
        count-cons (is_fate_of number) now effects,
        own,
        own_fates command effects,
      )

  fates_are : (before events : List Event)
      → sum_by (λ (told : Episode). fates_at number told.happened) (episodes_from (past_of slot before) events)
      ≡ count_by (tells_fate slot number) (made_of.effects slot before events)
  unfolding happens
  fates_are before [] = refl
  fates_are before (event.Command c ∷ events) =
      let past : SlotPast = past_of slot before in
      let told : Episode = record { event = event.Command c; happened = (happens past (event.Command c)).1 } in
      let more : List Event = before ++ event.Command c ∷ [] in
      let story : episodes_from (commanded past c) events ≡ episodes_from (past_of slot more) events =
      ap (λ p. episodes_from p events) (sym (past-append slot before (event.Command c ∷ []))) in
      omega (
        arith,
        sum_by-cons (λ (t : Episode). fates_at number t.happened) told (episodes_from (commanded past c) events),
        ap (sum_by (λ (t : Episode). fates_at number t.happened)) story,
        own_fates (length (commands_of before)) (effects_after slot before c),
        count-append (tells_fate slot number)
            (map (made_of.effect_entry slot (length (commands_of before))) (effects_after slot before c))
            (made_of.effects slot more events),
        fates_are more events,
      )
  fates_are before (event.Packet p ∷ events) =
      let past : SlotPast = past_of slot before in
      let told : Episode = record { event = event.Packet p; happened = (happens past (event.Packet p)).1 } in
      let more : List Event = before ++ event.Packet p ∷ [] in
      let story : episodes_from (met past p) events ≡ episodes_from (past_of slot more) events =
      ap (λ q. episodes_from q events) (sym (past-append slot before (event.Packet p ∷ []))) in
      omega (
        arith,
        sum_by-cons (λ (t : Episode). fates_at number t.happened) told (episodes_from (met past p) events),
        ap (sum_by (λ (t : Episode). fates_at number t.happened)) story,
        fates_are more events,
      )

  -- so no more fates than packets that were held
  pub fates_within : (events : List Event) → count_by (tells_fate slot number) (made_of.effects slot [] events)
      ≤ count_by (holds_mark number) (marks slot [] events)
  fates_within events = omega (arith, held_once slot events number, holds_are [] events, fates_are [] events)

  -- a command that has the fate of a packet stands behind one that was held
  pub fate_behind : (before : List Event) (c : _) → 1 ≤ fates_in number (effects_after slot before c)
      → 1 ≤ count_by (holds_mark number) (marks slot [] before)
  fate_behind before c some =
      let e : Event = event.Command c in
      let effects : List Effected =
      map (made_of.effect_entry slot (length (commands_of before))) (effects_after slot before c) in
      let more : count_by (tells_fate slot number) (made_of.effects slot [] (before ++ e ∷ []))
      ≡ count_by (tells_fate slot number) (made_of.effects slot [] before) + count_by (tells_fate slot number) effects =
      ap (count_by (tells_fate slot number)) (effects-append slot [] before (e ∷ [])
      ∙ ap (λ es. made_of.effects slot [] before ++ es) (append-nil effects))
      ∙ count-append (tells_fate slot number) (made_of.effects slot [] before) effects in
      let none : count_by (holds_mark number) (marks slot [] (before ++ e ∷ []))
      ≡ count_by (holds_mark number) (marks slot [] before) =
      ap (count_by (holds_mark number)) (marks-append slot [] before (e ∷ []) ∙ append-nil (marks slot [] before)) in
      omega (
        arith,
        fates_within (before ++ e ∷ []),
        more,
        none,
        own_fates (length (commands_of before)) (effects_after slot before c),
        some,
      )

-- a held packet of this number stands among marks, before a command of that number
pub record IsMarked (marks_ : List Mark) (number command : ℕ) : Type 0 where
  pub mark : Mark
  pub stands : Contains marks_ mark
  pub of_packet : mark.number ≡ number
  pub held : is_held mark.verdict ≡ true
  pub before : mark.commands ≤ command

abbrev pub EffectMarked : List Mark → ℕ → Effect → Type 0
EffectMarked marks_ command (effect.Marker life peer octets) = Unit {0}
EffectMarked marks_ command (effect.Fate packet fate) = IsMarked marks_ packet command

abbrev pub FateMarked : ℕ → List Mark → Effected → Type 0
FateMarked slot marks_ told = (told.slot ≡ slot) × EffectMarked marks_ told.command told.effect

marked_at : (slot number : ℕ) (before later : List Event) (c : _) → 1 ≤ fates_in number (effects_after slot before c)
    → IsMarked (marks slot [] (before ++ later)) number (length (commands_of before))
marked_at slot number before later c some =
    let found : Found (holds_mark number) (marks slot [] before) =
    found_in (holds_mark number) (marks slot [] before) (fate_behind slot number before c some) in
    let within = marks_within slot (length (commands_of before)) [] before (omega arith) in
    let at : Contains (marks slot [] before) found.one = found.stands in
    record {
      mark = found.one;
      stands = subst (λ ms. Contains ms found.one) (sym (marks-append slot [] before later))
          (Contains-append_left (marks slot [] before) (marks slot before later) found.one found.stands);
      of_packet = eqb-true found.one.number number (and_true_left (found.one.number == number) (is_held found.one.verdict)
          found.passes);
      held = and_true_right (found.one.number == number) (is_held found.one.verdict) found.passes;
      before = subst (λ (m : Mark). m.commands ≤ length (commands_of before)) at.2 (within at.0 found.one at.1);
    }
  where
    and_true_left : (a b : Bool) → (a && b) ≡ true → a ≡ true
    and_true_left true b is = refl
    and_true_left false b is = is

    and_true_right : (a b : Bool) → (a && b) ≡ true → b ≡ true
    and_true_right true b is = is
    and_true_right false b is = cc

effect_marked : (slot : ℕ) (before later : List Event) (c : _) (now : Effect)
    → ((number : ℕ) → is_fate_of number now ≡ true → 1 ≤ fates_in number (effects_after slot before c))
    → EffectMarked (marks slot [] (before ++ later)) (length (commands_of before)) now
effect_marked slot before later c (effect.Marker life peer octets) counts = tt
effect_marked slot before later c (effect.Fate packet fate) counts =
    marked_at slot packet before later c (counts packet (eq-eqb packet packet refl))

-- so each fate has such a packet
pub all_marked : (slot : ℕ) (before events : List Event)
    → All (FateMarked slot (marks slot [] (before ++ events))) (made_of.effects slot before events)
all_marked slot before [] = All-nil (FateMarked slot (marks slot [] (before ++ [])))
all_marked slot before (event.Command c ∷ events) =
    let now : List Effect = effects_after slot before c in
    let all : List Mark = marks slot [] (before ++ event.Command c ∷ events) in
    let command : ℕ = length (commands_of before) in
    All-append (FateMarked slot all) (map (made_of.effect_entry slot command) now)
    (made_of.effects slot (before ++ event.Command c ∷ []) events)
    (All-map (FateMarked slot all) (made_of.effect_entry slot command) now
    (λ k d within. (
      refl,
      effect_marked slot before (event.Command c ∷ events) c (get_or now k d)
          (λ number passes. count_at (is_fate_of number) now k d within passes),
    )))
    (subst (λ es. All (FateMarked slot (marks slot [] es)) (made_of.effects slot (before ++ event.Command c ∷ []) events))
    (append_assoc before (event.Command c ∷ []) events)
    (all_marked slot (before ++ event.Command c ∷ []) events))
all_marked slot before (event.Packet p ∷ events) =
    subst (λ es. All (FateMarked slot (marks slot [] es)) (made_of.effects slot (before ++ event.Packet p ∷ []) events))
    (append_assoc before (event.Packet p ∷ []) events)
    (all_marked slot (before ++ event.Packet p ∷ []) events)
