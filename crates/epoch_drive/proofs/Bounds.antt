-- Where slots are bound for behind an epoch.
use Rattle.std.proofs.Common.{◌≡◌, ℕ, ◌==◌, Bool, true, false, cond, List, [], ◌∷◌, ◌++◌, get_or, map, slice_get, zero, suc, refl, sym, ap, ◌∙◌, append_assoc, append-nil}
use Rattle.std.proofs.lemmas.Bool.{eqb-true}
use Rattle.trace_lines.specs.Line.{Line}
use Rattle.demux.specs.declared.decision.Decision.{Decision}
use Rattle.demux.specs.declared.decision.Decision.TheVariants as decision
use Rattle.demux.specs.Destinations.{bound_for}
use Rattle.demux.specs.Resolved.{decided}
use Rattle.demux.specs.Texts.{move_note}
use Rattle.demux.specs.Trace.{move, note, book_of, destination_after}
use Rattle.demux.proofs.TraceLemmas.{destination_after-push}
use Rattle.lawful_run.specs.Trace.{meant_from, meant_next}
use Rattle.epoch_drive.specs.Runs.{bound_by, bounds_behind}
use Rattle.subscriber.specs.Standing.{SubscriberState}
use Rattle.at_rest.specs.Rest.{destination_or}
use Rattle.at_rest.proofs.Turning.{meant_by}

-- behind an order to move or to stay
settled_bound : (test own : Bool) (at slot slice here there : ℕ) (text : List ℕ)
    → own ≡ (at == slot) → (test ≡ true → slice ≡ here) → (own ≡ true → here ≡ there) → (bounds : ℕ → ℕ)
    → bounds slot ≡ there
    → bound_by bounds (cond test (note text) (move at slice text)) slot ≡ cond own slice there
settled_bound true true at slot slice here there text own_is stays same bounds is = is ∙ sym (same refl) ∙ sym (stays refl)
settled_bound true false at slot slice here there text own_is stays same bounds is = is
settled_bound false own at slot slice here there text own_is stays same bounds is =
    ap (λ t. cond t slice (bounds slot)) (sym own_is) ∙ ap (cond own slice) is

decided_bound : (slices slot : ℕ) (prior : List Line) (made : Decision)
    → bound_by (λ s. destination_after slices s prior) (meant_by slices prior made) slot
    ≡ bound_for slot (destination_after slices slot prior) made
decided_bound slices slot prior (decision.Command whose asks) = refl
decided_bound slices slot prior (decision.Packet at lent) = refl
decided_bound slices slot prior (decision.Move at slice) =
    settled_bound (slice == destination_after slices at prior) (at == slot) at slot slice
    (destination_after slices at prior) (destination_after slices slot prior)
    (move_note (destination_after slices at prior) at slice) refl
    (eqb-true slice (destination_after slices at prior))
    (λ own. ap (λ k. destination_after slices k prior) (eqb-true at slot own))
    (λ s. destination_after slices s prior) refl
decided_bound slices slot prior (decision.Note text) = refl

next_bound : (slices slot : ℕ) (prior : List Line) (line : Line)
    → bound_by (λ s. destination_after slices s prior) (meant_next slices prior line) slot
    ≡ destination_after slices slot (prior ++ line ∷ [])
next_bound slices slot prior line =
    decided_bound slices slot prior (decided slices (book_of prior) line)
    ∙ sym (destination_after-push slices slot prior line)

pub bounds_on : (slices slot : ℕ) (prior lines : List Line)
    → bounds_behind (λ s. destination_after slices s prior) (meant_from slices prior lines) slot
    ≡ destination_after slices slot (prior ++ lines)
bounds_on slices slot prior [] = ap (destination_after slices slot) (sym (append-nil prior))
bounds_on slices slot prior (line ∷ lines) =
    (λ i. bounds_behind (λ s. next_bound slices s prior line i) (meant_from slices (prior ++ line ∷ []) lines) slot)
    ∙ bounds_on slices slot (prior ++ line ∷ []) lines
    ∙ ap (destination_after slices slot) (append_assoc prior (line ∷ []) lines)

-- the list of where subscribers are bound for
pub bounds_listed : (subscribers : List SubscriberState) (slot home : ℕ)
    → get_or (map (λ (s : SubscriberState). s.destination) subscribers) slot home
    ≡ destination_or home (slice_get subscribers slot)
bounds_listed [] slot home = refl
bounds_listed (s ∷ subscribers) zero home = refl
bounds_listed (s ∷ subscribers) (suc slot) home = bounds_listed subscribers slot home
