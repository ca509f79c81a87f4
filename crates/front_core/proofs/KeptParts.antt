-- What is known of a slot, with one line more.
use Rattle.std.proofs.Common.{◌≡◌, ℕ, ◌+◌, ◌==◌, ◌||◌, Bool, true, false, Option, Some, None, List, [], ◌∷◌, ◌++◌, is_some, refl, sym, ap, subst, ◌∙◌, arith, inl, inr, true≢false}
use Rattle.std.specs.Bool.{IsTrue}
use Rattle.std.specs.List.{cons_option, filter_map, list_any}
use Rattle.std.specs.Option.{option_map}
use Rattle.std.proofs.lemmas.List.Elements.{All-append, All-from_recursion, filter_map-append}
use Rattle.std.proofs.lemmas.List.Folds.{list_any-append}
use Rattle.control_steps.specs.declared.command.CommandKind.{CommandKind}
use Rattle.lawful_run.specs.Accepted.{Placed, accepted_command, accepted_packet}
use Rattle.lawful_run.specs.LinesTold.{LineTold}
use Rattle.lawful_run.specs.Moves.{moves, behind_last_move}
use Rattle.lawful_run.specs.Parking.{parked_told}
use Rattle.lawful_run.specs.Refusals.{slot_of}
use Rattle.lawful_run.specs.Marks.{AllParked, marks_since}
use Rattle.lawful_run.proofs.Ceilings.{is_moved-behind}
use Rattle.lawful_run.proofs.LastMoves.{is_moved-last, since-move, since-other}
use Rattle.front_core.specs.Kept.{Ends, EndsTold, OwnTold, Part, PartTold, is_seen, new_ends, with_command, with_packet, moved_on}
use Rattle.front_core.specs.Lines.{Eases, IsAdmitted, MayPark}
use Rattle.front_core.proofs.Pushes.{none_more, one_more, ends_other, ends_commanded, ends_received, ends_moved}

-- whether a line is of the slot
abbrev pub is_of : ℕ → LineTold → Bool
is_of slot now = list_any (λ own. own == slot) (cons_option (slot_of now) [])

seen_push : (slot : ℕ) (taken : List LineTold) (now : LineTold)
    → is_seen slot (taken ++ now ∷ []) ≡ (is_seen slot taken || is_of slot now)
seen_push slot taken now =
    ap (list_any (λ own. own == slot)) (filter_map-append slot_of taken (now ∷ []))
    ∙ list_any-append (λ own. own == slot) (filter_map slot_of taken) (filter_map slot_of (now ∷ []))

or_false : (test : Bool) → (test || false) ≡ test
or_false true = refl
or_false false = refl

or_true : (test : Bool) → (test || true) ≡ true
or_true true = refl
or_true false = refl

-- marks with one line more
marks_still : (slot : ℕ) (taken : List LineTold) (now : LineTold) → moves slot now ≡ false
    → parked_told slot now ≡ None → marks_since slot (taken ++ now ∷ []) ≡ marks_since slot taken
marks_still slot taken now still none =
    ap (filter_map (parked_told slot)) (since-other slot taken now still)
    ∙ none_more (parked_told slot) (behind_last_move slot taken) now none

marks_more : (slot : ℕ) (taken : List LineTold) (now : LineTold) (mark : Bool) → moves slot now ≡ false
    → parked_told slot now ≡ Some mark
    → marks_since slot (taken ++ now ∷ []) ≡ marks_since slot taken ++ mark ∷ []
marks_more slot taken now mark still some =
    ap (filter_map (parked_told slot)) (since-other slot taken now still)
    ∙ one_more (parked_told slot) (behind_last_move slot taken) now mark some

marks_moved : (slot : ℕ) (taken : List LineTold) (now : LineTold) → moves slot now ≡ true
    → marks_since slot (taken ++ now ∷ []) ≡ []
marks_moved slot taken now moved = ap (filter_map (parked_told slot)) (since-move slot taken now moved)

no_marks : AllParked []
no_marks = All-from_recursion (λ parked. IsTrue parked) [] tt

one_mark : AllParked (true ∷ [])
one_mark = All-from_recursion (λ parked. IsTrue parked) (true ∷ []) (refl, tt)

-- where packets may be parked, all since the slot's move were
pub may_be_parked : (slot : ℕ) (part : Part) (taken : List LineTold) → PartTold slot part taken → MayPark part
    → (part.moved ≡ true) × AllParked (marks_since slot taken)
may_be_parked slot part taken told (inl parks) = told.parked parks
may_be_parked slot part taken told (inr fresh) =
    (fresh.1, subst AllParked (sym (told.unmarked fresh.0)) no_marks)

-- what was accepted, where the subscriber is split now
pub own_admitted : (slot : ℕ) (own : Option Ends) (ends : Ends) (taken : List LineTold) → IsAdmitted own ends
    → OwnTold slot own taken → EndsTold slot ends taken
own_admitted slot None ends taken is told =
    subst (λ (e : Ends). EndsTold slot e taken) (sym is.2) (told is.0 is.1)
own_admitted slot (Some own) ends taken is told = subst (λ (e : Ends). EndsTold slot e taken) (sym is) told

own_other : (slot : ℕ) (own : Option Ends) (taken : List LineTold) (now : LineTold)
    → accepted_command slot now ≡ None → accepted_packet slot now ≡ None → moves slot now ≡ false
    → OwnTold slot own taken → OwnTold slot own (taken ++ now ∷ [])
own_other slot None taken now no_command no_packet still told =
    λ c p. ends_other slot taken now (new_ends c p) no_command no_packet still (told c p)
own_other slot (Some ends) taken now no_command no_packet still told =
    ends_other slot taken now ends no_command no_packet still told

moved_new : (c p : ℕ) → moved_on (new_ends c p) ≡ new_ends c p
moved_new c p =
    let commands : c + 0 ≡ c = omega arith in
    let packets : p + 0 ≡ p = omega arith in
    λ i. record (new_ends c p) { commands_before = commands i; packets_before = packets i }

own_moved : (slot : ℕ) (own : Option Ends) (taken : List LineTold) (now : LineTold)
    → accepted_command slot now ≡ None → accepted_packet slot now ≡ None → moves slot now ≡ true
    → OwnTold slot own taken → OwnTold slot (option_map {T = Ends} {U = Ends} moved_on own) (taken ++ now ∷ [])
own_moved slot None taken now no_command no_packet moved told =
    λ c p. subst (λ (e : Ends). EndsTold slot e (taken ++ now ∷ [])) (moved_new c p)
    (ends_moved slot taken now (new_ends c p) no_command no_packet moved (told c p))
own_moved slot (Some ends) taken now no_command no_packet moved told =
    ends_moved slot taken now ends no_command no_packet moved told

some_stays : (own : Option Ends) → is_some (option_map {T = Ends} {U = Ends} moved_on own) ≡ is_some own
some_stays None = refl
some_stays (Some ends) = refl

none_stays : (own : Option Ends) → option_map {T = Ends} {U = Ends} moved_on own ≡ None → own ≡ None
none_stays None is = refl
none_stays (Some ends) is = absurd (true≢false (ap is_some is))

-- a line that isn't of the slot
pub part_still : (slot : ℕ) (old new : Part) (taken : List LineTold) (now : LineTold)
    → accepted_command slot now ≡ None → accepted_packet slot now ≡ None → moves slot now ≡ false
    → parked_told slot now ≡ None → is_of slot now ≡ false → Eases old new
    → PartTold slot old taken → PartTold slot new (taken ++ now ∷ [])
part_still slot old new taken now no_command no_packet still no_mark other eases told =
    let same = marks_still slot taken now still no_mark in
    record {
      own_is = subst (λ own. OwnTold slot own (taken ++ now ∷ [])) (sym eases.own)
          (own_other slot old.own taken now no_command no_packet still told.own_is);
      seen = seen_push slot taken now ∙ ap (λ test. is_seen slot taken || test) other
          ∙ or_false (is_seen slot taken) ∙ told.seen ∙ ap is_some (sym eases.own);
      moved_is = eases.moved ∙ told.moved_is ∙ sym (is_moved-last slot taken now still);
      unmarked = λ none. same ∙ told.unmarked (sym eases.own ∙ none);
      parked = λ parks.
          let was = told.parked (eases.parks parks) in
          (eases.moved ∙ was.0, subst AllParked (sym same) was.1);
    }

-- a move of the slot
pub part_moved : (slot : ℕ) (old new : Part) (taken : List LineTold) (now : LineTold)
    → accepted_command slot now ≡ None → accepted_packet slot now ≡ None → moves slot now ≡ true
    → is_of slot now ≡ false → new.own ≡ option_map {T = Ends} {U = Ends} moved_on old.own → new.moved ≡ true
    → PartTold slot old taken → PartTold slot new (taken ++ now ∷ [])
part_moved slot old new taken now no_command no_packet moved other own goes told =
    let none = marks_moved slot taken now moved in
    record {
      own_is = subst (λ o. OwnTold slot o (taken ++ now ∷ [])) (sym own)
          (own_moved slot old.own taken now no_command no_packet moved told.own_is);
      seen = seen_push slot taken now ∙ ap (λ test. is_seen slot taken || test) other
          ∙ or_false (is_seen slot taken) ∙ told.seen ∙ sym (some_stays old.own) ∙ ap is_some (sym own);
      moved_is = goes ∙ sym (is_moved-behind slot taken (now ∷ []) (ap (λ test. test || false) moved));
      unmarked = λ is. none;
      parked = λ parks. (goes, subst AllParked (sym none) no_marks);
    }

-- what a line of the slot makes of it
part_of_own : (slot : ℕ) (old new : Part) (taken : List LineTold) (now : LineTold) (ends : Ends)
    → moves slot now ≡ false → is_of slot now ≡ true → new.own ≡ Some ends → new.moved ≡ old.moved
    → EndsTold slot ends (taken ++ now ∷ [])
    → (new.parks ≡ true → (old.moved ≡ true) × AllParked (marks_since slot (taken ++ now ∷ [])))
    → PartTold slot old taken → PartTold slot new (taken ++ now ∷ [])
part_of_own slot old new taken now ends still of own moved is parks told = record {
  own_is = subst (λ o. OwnTold slot o (taken ++ now ∷ [])) (sym own) is;
  seen = seen_push slot taken now ∙ ap (λ test. is_seen slot taken || test) of ∙ or_true (is_seen slot taken)
      ∙ ap is_some (sym own);
  moved_is = moved ∙ told.moved_is ∙ sym (is_moved-last slot taken now still);
  unmarked = λ none. absurd (true≢false (ap is_some (sym own ∙ none)));
  parked = λ is_parked. let all = parks is_parked in (moved ∙ all.0, all.1);
}

-- one that isn't accepted, or is a command
pub part_refused : (slot : ℕ) (old new : Part) (taken : List LineTold) (now : LineTold) (ends : Ends)
    → accepted_command slot now ≡ None → accepted_packet slot now ≡ None → moves slot now ≡ false
    → parked_told slot now ≡ None → is_of slot now ≡ true → IsAdmitted old.own ends → new.own ≡ Some ends
    → new.moved ≡ old.moved → (new.parks ≡ true → MayPark old)
    → PartTold slot old taken → PartTold slot new (taken ++ now ∷ [])
part_refused slot old new taken now ends no_command no_packet still no_mark of admitted own moved parks told =
    part_of_own slot old new taken now ends still of own moved
    (ends_other slot taken now ends no_command no_packet still
    (own_admitted slot old.own ends taken admitted told.own_is))
    (λ is.
    let all = may_be_parked slot old taken told (parks is) in
    (all.0, subst AllParked (sym (marks_still slot taken now still no_mark)) all.1)) told

pub part_commanded : (slot : ℕ) (old new : Part) (taken : List LineTold) (now : LineTold) (ends : Ends)
    (c : CommandKind) → accepted_command slot now ≡ Some c → accepted_packet slot now ≡ None
    → moves slot now ≡ false → parked_told slot now ≡ None → is_of slot now ≡ true → IsAdmitted old.own ends
    → new.own ≡ Some (with_command c ends) → new.moved ≡ old.moved → (new.parks ≡ true → MayPark old)
    → PartTold slot old taken → PartTold slot new (taken ++ now ∷ [])
part_commanded slot old new taken now ends c one no_packet still no_mark of admitted own moved parks told =
    part_of_own slot old new taken now (with_command c ends) still of own moved
    (ends_commanded slot taken now ends c one no_packet still
    (own_admitted slot old.own ends taken admitted told.own_is))
    (λ is.
    let all = may_be_parked slot old taken told (parks is) in
    (all.0, subst AllParked (sym (marks_still slot taken now still no_mark)) all.1)) told

-- an accepted packet
parked_more : (slot : ℕ) (old : Part) (taken : List LineTold) (now : LineTold) (mark : Bool)
    → moves slot now ≡ false → parked_told slot now ≡ Some mark → (mark ≡ true → MayPark old) → mark ≡ true
    → PartTold slot old taken → (old.moved ≡ true) × AllParked (marks_since slot (taken ++ now ∷ []))
parked_more slot old taken now mark still some may is told =
    let all = may_be_parked slot old taken told (may is) in
    let same = marks_more slot taken now mark still some ∙ ap (λ m. marks_since slot taken ++ m ∷ []) is in (
      all.0,
      subst AllParked (sym same)
          (All-append (λ parked. IsTrue parked) (marks_since slot taken) (true ∷ []) all.1 one_mark),
    )

pub part_received : (slot : ℕ) (old new : Part) (taken : List LineTold) (now : LineTold) (ends : Ends)
    (placed : Placed) (mark : Bool) → accepted_command slot now ≡ None → accepted_packet slot now ≡ Some placed
    → moves slot now ≡ false → parked_told slot now ≡ Some mark → is_of slot now ≡ true → IsAdmitted old.own ends
    → new.own ≡ Some (with_packet placed.packet ends) → new.moved ≡ old.moved → (mark ≡ true → MayPark old)
    → (new.parks ≡ true → mark ≡ true)
    → PartTold slot old taken → PartTold slot new (taken ++ now ∷ [])
part_received slot old new taken now ends placed mark no_command one still some of admitted own moved may parks told =
    part_of_own slot old new taken now (with_packet placed.packet ends) still of own moved
    (ends_received slot taken now ends placed no_command one still
    (own_admitted slot old.own ends taken admitted told.own_is))
    (λ is. parked_more slot old taken now mark still some may (parks is) told) told
