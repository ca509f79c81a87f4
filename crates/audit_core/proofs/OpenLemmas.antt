-- The open counters of a slot, bearer by bearer, and of all slots.
use Rattle.std.proofs.Common.{◌≡◌, ℕ, zero, suc, ◌+◌, ◌<◌, length, get_or, take, List, [], ◌∷◌, ◌++◌, map, flat_map, inl, inr, refl, sym, ap, ◌∙◌, arith, append_assoc, append-nil}
use Rattle.std.proofs.lemmas.Grind.{flat_map-append}
use Rattle.std.proofs.lemmas.List.{take_more}
use Rattle.bearer_state.specs.declared.version.ActiveBearer.{ActiveBearer}
use Rattle.charging_book.specs.Happenings.{Happening, lives_of, open_at, opens_of}
use Rattle.gate_model.proofs.BookSteps.{has_of, life_in}
use Rattle.gate_model.proofs.Following.{open_are_active}
use Rattle.gate_model.proofs.Members.{In, in_contains, in_map}
use Rattle.gate_model.specs.SlotPast.{opens_after, past_of, version_after}
use Rattle.gate_model.specs.declared.event.Event.{Event}
use Rattle.report_lines.specs.declared.entry.ChargeEntry.{ChargeEntry}
use Rattle.report_lines.specs.declared.entry.ChargeEntry.TheVariants.{O}
use Rattle.lawful_run.specs.Outcomes.{opens}
use Rattle.lawful_run.specs.Run.{by_slot}
use Rattle.lawful_run.specs.Telling.{counted}
use Rattle.lawful_run.proofs.OpenCounters.{found}
use Rattle.audit_core.specs.Opens.{open_for, open_found}

-- those of bearers
each_open : (slot : ℕ) (happened : List Happening) (bearers : List ActiveBearer)
    → ((b : ActiveBearer) → In b bearers → In b.life (lives_of happened))
    → flat_map (λ (b : ActiveBearer). open_for slot (opens_of happened) b.life) bearers
    ≡ map (O slot) (map (λ (b : ActiveBearer). open_at happened b.life) bearers)
each_open slot happened [] each = refl
each_open slot happened (bearer ∷ bearers) each =
    ap (λ one. open_found slot one ++ flat_map (λ (b : ActiveBearer). open_for slot (opens_of happened) b.life) bearers)
    (found happened (lives_of happened) bearer.life (each bearer (inl refl)))
    ∙ ap (λ rest. O slot (open_at happened bearer.life) ∷ rest)
    (each_open slot happened bearers (λ b there. each b (inr there)))

pub opens_are : (slot : ℕ) (events : List Event)
    → flat_map (λ (b : ActiveBearer). open_for slot (opens_after slot events) b.life)
    (version_after slot events).bearers ≡ opens slot events
opens_are slot events =
    let happened = (past_of slot events).packets.charged in
    let bearers = (version_after slot events).bearers in
    each_open slot happened bearers
    (λ b there. in_contains b.life (lives_of happened)
    ((open_are_active slot events b.life).1 (has_of bearers b.life (in_map life_in b bearers there))))

-- one slot more
counted_push : {X : Type 0} (first slots : ℕ) (has : ℕ → List X)
    → flat_map has (counted first (suc slots)) ≡ flat_map has (counted first slots) ++ has (first + slots)
counted_push first zero has =
    let same : first ≡ first + 0 = omega arith in
    append-nil (has first) ∙ ap has same
counted_push first (suc slots) has =
    let same : first + 1 + slots ≡ first + suc slots = omega arith in
    ap (λ rest. has first ++ rest) (counted_push (first + 1) slots has)
    ∙ sym (append_assoc (has first) (flat_map has (counted (first + 1) slots)) (has (first + 1 + slots)))
    ∙ ap (λ s. flat_map has (counted first (suc slots)) ++ has s) same

pub opens_more : (slots : ℕ) (has : ℕ → List ChargeEntry) (prefix : List ChargeEntry) → prefix ≡ by_slot slots has
    → prefix ++ has slots ≡ by_slot (slots + 1) has
opens_more slots has prefix is =
    let one : suc slots ≡ slots + 1 = omega arith in
    let none : 0 + slots ≡ slots = omega arith in
    ap (λ f. f ++ has slots) is ∙ ap (λ s. by_slot slots has ++ has s) (sym none) ∙ sym (counted_push 0 slots has) ∙ ap (λ n. by_slot n has) one

-- one bearer more
pub lives_more : (f : ActiveBearer → List ChargeEntry) (before : List ChargeEntry) (bearers : List ActiveBearer) (i : ℕ)
    (bearer : ActiveBearer) → i < length bearers → bearer ≡ get_or bearers i bearer
    → (before ++ flat_map f (take i bearers)) ++ f bearer ≡ before ++ flat_map f (take (i + 1) bearers)
lives_more f before bearers i bearer low is =
    append_assoc before (flat_map f (take i bearers)) (f bearer)
    ∙ ap (λ l. before ++ l)
    (ap (λ b. flat_map f (take i bearers) ++ f b) is
    ∙ ap (λ l. flat_map f (take i bearers) ++ l) (sym (append-nil (f (get_or bearers i bearer))))
    ∙ sym (flat_map-append f (take i bearers) (get_or bearers i bearer ∷ []))
    ∙ ap (flat_map f) (sym (take_more bearers i bearer low)))
