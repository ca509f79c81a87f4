-- Step by step through the open counters that are told.
use Rattle.std.proofs.Common.{◌≡◌, ℕ, ◌+◌, ◌<◌, ◌≤◌, ◌↔◌, List, [], ◌∷◌, ◌++◌, length, get_or, take, sym, ap, ◌∙◌, subst, inl, inr, arith}
use Rattle.std.specs.Borrow.{Bor}
use Rattle.std.specs.List.{All, Contains}
use Rattle.std.proofs.lemmas.Bool.{cases_lt}
use Rattle.std.proofs.lemmas.List.{length-map, map-append, take-map, take_more}
use Rattle.std.proofs.lemmas.List.Elements.{All-contains}
use Rattle.report_lines.specs.declared.entry.ChargeEntry.{ChargeEntry}
use Rattle.audit_core.specs.Agreeing.{each_slot, lent, of_slot}
use Rattle.audit_core.specs.Charges.{IsTooMany, IsTooManyAt}
use Rattle.audit_core.specs.Entries.{slot_charged}
use Rattle.audit_core.specs.Sharing.{put_in}
use Rattle.audit_core.proofs.AmongLemmas.{each_more, of_all, of_its_slot}
use Rattle.audit_core.proofs.Differing.{mapped_parts}
use Rattle.audit_core.proofs.SurplusLemmas.{too_many_at}

-- among those of its slot
pub many_own : (due prefix known before : List ChargeEntry) (x : ChargeEntry) (s : ℕ) → s ≡ slot_charged x
    → known ≡ of_slot slot_charged s due → before ≡ of_slot slot_charged s prefix
    → IsTooMany known before x ↔ IsTooMany due prefix x
many_own due prefix known before x s its known_is before_is =
    let knows : Contains due x → Contains known x =
    λ there. subst (λ xs. Contains xs x) (sym (known_is ∙ ap (λ k. of_slot slot_charged k due) its))
    (of_its_slot slot_charged due x there) in
    let known_all : Contains known x → Contains due x =
    λ there. of_all slot_charged due x s (subst (λ xs. Contains xs x) known_is there) in
    let stands : Contains prefix x → Contains before x =
    λ there. subst (λ xs. Contains xs x) (sym (before_is ∙ ap (λ k. of_slot slot_charged k prefix) its))
    (of_its_slot slot_charged prefix x there) in
    let stands_all : Contains before x → Contains prefix x =
    λ there. of_all slot_charged prefix x s (subst (λ xs. Contains xs x) before_is there) in (
      (λ many. elim many [
        | inl again ↦ inl (stands_all again)
        | inr none ↦ inr (λ there. none (knows there))
      ]),
      (λ many. elim many [
        | inl again ↦ inl (stands again)
        | inr none ↦ inr (λ there. none (known_all there))
      ]),
    )

-- of a slot that there isn't
pub many_beyond : (due prefix : List ChargeEntry) (x : ChargeEntry) (slots : ℕ)
    → All (λ charge. slot_charged charge < slots) due → slots ≤ slot_charged x → IsTooMany due prefix x
many_beyond due prefix x slots known beyond =
    inr (λ there.
    let low : slot_charged x < slots = All-contains (λ charge. slot_charged charge < slots) due x known there in
    omega (arith, low, beyond))

module _ (due : List ChargeEntry) (tolds : List (Bor ChargeEntry)) (i : ℕ) (one : Bor ChargeEntry)
    (within : i < length tolds) (is : one ≡ get_or tolds i one) where
  pub many_here : IsTooMany due (take i (lent tolds)) one.now ↔ IsTooManyAt due (lent tolds) i
  many_here =
      too_many_at due (lent tolds) i one.now (mapped_parts (λ (b : Bor ChargeEntry). b.now) tolds i one within is)
      (simp length-map within)

  pub none_more : ((k : ℕ) → k < i → IsTooManyAt due (lent tolds) k → ⊥)
      → (IsTooMany due (take i (lent tolds)) one.now → ⊥) → (k : ℕ) → k < i + 1 → IsTooManyAt due (lent tolds) k → ⊥
  none_more none few k less many =
      elim (cases_lt k i) [
        | inl before ↦ none k before many
        | inr most ↦
            let same : k ≡ i = omega (arith, less, most) in
            few (many_here.1 (subst (IsTooManyAt due (lent tolds)) same many))
      ]

  pub prefix_more : take (i + 1) (lent tolds) ≡ take i (lent tolds) ++ one.now ∷ []
  prefix_more =
      take-map (λ (b : Bor ChargeEntry). b.now) (i + 1) tolds
      ∙ ap lent (take_more tolds i one within)
      ∙ map-append (λ (b : Bor ChargeEntry). b.now) (take i tolds) (get_or tolds i one ∷ [])
      ∙ ap (λ (b : Bor ChargeEntry). lent (take i tolds) ++ b.now ∷ []) (sym is)
      ∙ ap (λ xs. xs ++ one.now ∷ []) (sym (take-map (λ (b : Bor ChargeEntry). b.now) i tolds))

  pub shares_more : (slots : ℕ) (old new : List (List ChargeEntry)) (s : ℕ) → s ≡ slot_charged one.now
      → old ≡ each_slot slot_charged slots (take i (lent tolds)) → new ≡ put_in old s one.now
      → new ≡ each_slot slot_charged slots (take (i + 1) (lent tolds))
  shares_more slots old new s its before put =
      put
      ∙ ap (λ lists. put_in lists s one.now) before
      ∙ ap (λ k. put_in (each_slot slot_charged slots (take i (lent tolds))) k one.now) its
      ∙ each_more slot_charged slots (take i (lent tolds)) one.now
      ∙ ap (each_slot slot_charged slots) (sym prefix_more)
