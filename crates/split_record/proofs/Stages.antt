-- What is left to do as the lanes are closed, one after the other.
use Rattle.std.proofs.Common.{◌≡◌, ℕ, ◌-◌, length, arith, Option, List, ◌∷◌, ◌++◌, take, drop}
use Rattle.std.proofs.Common.{ap, sym, ◌∙◌, subst, append_assoc, length-append, option_to_list}
use Rattle.bearer_state.specs.Session.{SessionState}
use Rattle.subscriber.specs.Standing.{SubscriberState, commands_met}
use Rattle.control_half.specs.Applied.{before_head, KeepsNext, in_due}
use Rattle.control_half.specs.Controlled.{HasApplied}
use Rattle.control_half.specs.Published.{Published}
use Rattle.control_half.specs.declared.items.CommandItem.{CommandItem}
use Rattle.control_half.specs.declared.items.CommandDone.{CommandDone}
use Rattle.counter_half.specs.Handled.{Handled}
use Rattle.split_record.specs.Closing.{HasLeft}
use Rattle.split_record.specs.Finishing.{AllMeetBehind}
use Rattle.split_record.specs.Origin.{IsOpen, IsHalfway, IsClosing, IsAt}
use Rattle.split_record.specs.declared.origin.Origin.{Origin}
use Rattle.split_record.specs.declared.parts.Stage.TheVariants as stages
use Rattle.split_record.specs.declared.parts.OpenHalves.{OpenHalves}
use Rattle.split_record.specs.declared.parts.Halfway.{Halfway}
use Rattle.split_record.specs.declared.closing.Closing.{Closing}
use Rattle.split_record.proofs.Lanes.{lane_closed}

-- Of all commands that were sent, those before the head are applied; the head and those that were left in the lane
-- are still to be.
pub commands_closed : (start : SubscriberState) (commands : List CommandItem) (first : ℕ) (began : SessionState)
    (head : Option CommandItem) (taken rest : List CommandItem) (session : SessionState) (number : ℕ)
    (notes : List CommandDone) (due : Option ℕ) (sent kept : List Published) → began ≡ start.session
    → first ≡ commands_met start → commands ≡ taken ++ rest → KeepsNext head taken
    → HasApplied first began (before_head head taken) session number notes
    (sent ++ (kept ++ in_due due session number))
    → HasLeft start commands session number notes due (option_to_list head ++ rest) (sent ++ kept)
commands_closed
    start commands first began head taken rest session number notes due sent kept began_is first_is all next applied =
    let closed = lane_closed first number head commands taken rest next all applied.counted in
    let front : take (number - commands_met start) commands ≡ before_head head taken =
    ap (λ (n : ℕ). take (number - n) commands) (sym first_is) ∙ closed.0 in
    let left : drop (number - commands_met start) commands ≡ option_to_list head ++ rest =
    ap (λ (n : ℕ). drop (number - n) commands) (sym first_is) ∙ closed.1 in
    let whole : commands ≡ before_head head taken ++ (option_to_list head ++ rest) =
    all ∙ ap (λ (l : List CommandItem). l ++ rest) next
    ∙ append_assoc (before_head head taken) (option_to_list head) rest in
    record {
      applied = subst (λ (p : ℕ × SessionState × List CommandItem × List Published).
          HasApplied p.0 p.1 p.2 session number notes p.3)
          (λ i. (first_is i, began_is i, sym front i, sym (append_assoc sent kept (in_due due session number)) i))
          applied;
      waiting_are = sym left;
      within = omega (
        arith,
        applied.counted,
        first_is,
        ap (λ (l : List CommandItem). length l) whole,
        length-append (before_head head taken) (option_to_list head ++ rest),
      );
    }

-- What was sent of the versions are those learnt, those in hand, and those that were left in the lane; behind these
-- are those that weren't sent.
pub versions_closed : (sent learnt hand rest kept : List Published) → sent ≡ learnt ++ (hand ++ rest)
    → sent ++ kept ≡ learnt ++ (hand ++ (rest ++ kept))
versions_closed sent learnt hand rest kept is =
    ap (λ (l : List Published). l ++ kept) is ∙ append_assoc learnt (hand ++ rest) kept
    ∙ ap (λ (l : List Published). learnt ++ l) (append_assoc hand rest kept)

-- parts at a stage
pub at_open : (origin : Origin) (now : OpenHalves) → IsOpen origin now → IsAt origin (stages.Open now)
at_open origin now is = record {
  opens = λ other same. subst (IsOpen origin) (let s : now ≡ other = cc in s) is;
  halfway = λ other same. absurd (let no : ⊥ = cc in no);
  closing = λ other same. absurd (let no : ⊥ = cc in no);
}

pub at_halfway : (origin : Origin) (now : Halfway) → IsHalfway origin now → IsAt origin (stages.Halfway now)
at_halfway origin now is = record {
  opens = λ other same. absurd (let no : ⊥ = cc in no);
  halfway = λ other same. subst (IsHalfway origin) (let s : now ≡ other = cc in s) is;
  closing = λ other same. absurd (let no : ⊥ = cc in no);
}

pub at_closing : (origin : Origin) (now : Closing) → IsClosing origin now → IsAt origin (stages.Closing now)
at_closing origin now is = record {
  opens = λ other same. absurd (let no : ⊥ = cc in no);
  halfway = λ other same. absurd (let no : ⊥ = cc in no);
  closing = λ other same. subst (IsClosing origin) (let s : now ≡ other = cc in s) is;
}

-- versions of the batch in hand were learnt
pub learnt_of : (learnt more hand kept rest : List Published) → more ++ kept ≡ learnt ++ hand
    → learnt ++ (hand ++ rest) ≡ more ++ (kept ++ rest)
learnt_of learnt more hand kept rest same =
    sym (append_assoc learnt hand rest) ∙ ap (λ (l : List Published). l ++ rest) (sym same)
    ∙ append_assoc more kept rest

-- nothing is handled yet since the lanes were closed
pub none_behind : (early first : ℕ) (commands : List CommandItem) (handled : List Handled) → length handled ≡ early
    → AllMeetBehind early first commands handled
none_behind early first commands handled is = λ before h after at behind.
    absurd (omega (arith, is, behind, ap (λ (l : List Handled). length l) at, length-append before (h ∷ after)))
