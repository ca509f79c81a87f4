-- Items under keys, and those that are lent.
use Rattle.std.proofs.Common.{◌≡◌, ◌≢◌, ℕ, zero, suc, ◌+◌, ◌-◌, ◌==◌, ◌<◌, ◌≤◌, ◌↔◌, Bool, true, false, List, [], ◌∷◌, ◌++◌, length, map, take, get_or, filter, cond, refl, sym, ap, subst, ◌∙◌, inl, inr, arith}
use Rattle.std.specs.Borrow.{Bor}
use Rattle.std.specs.List.{flat_map}
use Rattle.std.proofs.lemmas.Bool.{cases_eq, eq-eqb, ne_eqb}
use Rattle.std.proofs.lemmas.List.{map-append, take_more}
use Rattle.std.proofs.lemmas.List.Elements.{All-head, All-tail, filter-append}
use Rattle.lawful_run.specs.Telling.{counted}
use Rattle.audit_core.specs.declared.sharing.Keyed.{Keyed}
use Rattle.audit_core.specs.Sharing.{under, arranged}
use Rattle.audit_core.specs.Agreeing.{of_slot, AreBySlot, AgreeBySlot, lent}
use Rattle.audit_core.specs.Charges.{AreOfSlots}
use Rattle.audit_core.proofs.SharingLemmas.{another, under_one}
use Rattle.audit_core.proofs.SlotLemmas.{agree_from, beyond, flat_from}

-- items that are lent, under keys
pub no_items : {X Y : Type 0} (f : X → Y) (xs : List X) → map f xs ≡ [] → xs ≡ []
no_items f [] none = refl
no_items f (x ∷ xs) none = cc

lent_arranged : {X : Type 0} (keyed : List (Keyed (Bor X))) (first n : ℕ)
    → lent (flat_map (λ k. under k keyed) (counted first n)) ≡ flat_map (λ k. lent (under k keyed)) (counted first n)
lent_arranged keyed first zero = refl
lent_arranged keyed first (suc n) =
    map-append (λ (item : Bor _). item.now) (under first keyed) (flat_map (λ k. under k keyed) (counted (first + 1) n))
    ∙ ap (λ later. lent (under first keyed) ++ later) (lent_arranged keyed (first + 1) n)

module _ {X : Type 0} (whose : X → ℕ) (slots : ℕ) (keyed : List (Keyed (Bor X))) (told made : List X)
    (by : AreBySlot whose slots made) (are : (slot : ℕ) → lent (under slot keyed) ≡ of_slot whose slot told) where
  pub arranged_flat : lent (arranged slots keyed) ≡ flat_map (λ t. of_slot whose t told) (counted 0 slots)
  arranged_flat =
      lent_arranged keyed 0 slots ∙ ap (λ (f : ℕ → List X). flat_map f (counted 0 slots)) (λ i t. are t i)

  pub agreeing : ((later : ℕ) → under (slots + later) keyed ≡ [])
      → (lent (arranged slots keyed) ≡ made) ↔ AgreeBySlot whose told made
  agreeing none = (
    (λ same. agree_from whose slots told made by
        (λ later. sym (are (slots + later)) ∙ ap lent (none later)) (sym arranged_flat ∙ same)),
    (λ agree. arranged_flat ∙ flat_from whose slots told made by agree),
  )

  pub none_beyond : AgreeBySlot whose told made → (later : ℕ) → under (slots + later) keyed ≡ []
  none_beyond agree later =
      no_items (λ (item : Bor X). item.now) (under (slots + later) keyed)
      (are (slots + later) ∙ agree (slots + later) ∙ beyond whose slots made by later)

-- one item more under its key
lent_one : {X : Type 0} (test : Bool) (key : ℕ) (one : Bor X)
    → lent (map (λ (o : Keyed (Bor X)). o.item) (cond test (record { key = key; item = one } ∷ []) []))
    ≡ cond test (one.now ∷ []) []
lent_one true key one = refl
lent_one false key one = refl

pub pushed : {X : Type 0} (whose : X → ℕ) (all : List (Keyed (Bor X))) (items : List (Bor X)) (i : ℕ) (one : Bor X)
    (key slot : ℕ)
    → i < length items → one ≡ get_or items i one → key ≡ whose one.now
    → lent (under slot all) ≡ of_slot whose slot (lent (take i items))
    → lent (under slot (all ++ record { key = key; item = one } ∷ [])) ≡ of_slot whose slot (lent (take (i + 1) items))
pushed whose all items i one key slot within is its before =
    ap lent (under_one all (record { key = key; item = one }) slot (key == slot) refl)
    ∙ map-append (λ (item : Bor _). item.now) (under slot all)
    (map (λ (o : Keyed (Bor _)). o.item) (cond (key == slot) (record { key = key; item = one } ∷ []) []))
    ∙ (λ j. before j ++ lent_one (key == slot) key one j)
    ∙ ap (λ k. of_slot whose slot (lent (take i items)) ++ cond (k == slot) (one.now ∷ []) []) its
    ∙ sym (filter-append (λ x. whose x == slot) (lent (take i items)) (one.now ∷ []))
    ∙ ap (of_slot whose slot) (sym (map-append (λ (item : Bor _). item.now) (take i items) (one ∷ [])))
    ∙ ap (λ y. of_slot whose slot (lent (take i items ++ y ∷ []))) is
    ∙ ap (λ some. of_slot whose slot (lent some)) (sym (take_more items i one within))

-- whether all keys are below a number
pub within_more : {T : Type 0} (keyed : List (Keyed T)) (i k : ℕ) (one : Keyed T) → i < length keyed
    → one ≡ get_or keyed i one → one.key ≢ k → under k (take i keyed) ≡ [] → under k (take (i + 1) keyed) ≡ []
within_more keyed i k one within is other none =
    ap (under k) (take_more keyed i one within)
    ∙ ap (λ x. under k (take i keyed ++ x ∷ [])) (sym is)
    ∙ another (take i keyed) one k other ∙ none

under_first : {T : Type 0} (test : Bool) (one : Keyed T) (some : List (Keyed T)) → test ≡ true
    → map (λ (o : Keyed T). o.item) (cond test (one ∷ some) some) ≡ [] → ⊥
under_first true one some is none = cc
under_first false one some is none = cc

under_later : {T : Type 0} (test : Bool) (one : Keyed T) (some : List (Keyed T))
    → map (λ (o : Keyed T). o.item) (cond test (one ∷ some) some) ≡ [] → map (λ (o : Keyed T). o.item) some ≡ []
under_later true one some none = cc
under_later false one some none = none

pub is_under : {T : Type 0} (keyed : List (Keyed T)) (i k : ℕ) (one : Keyed T) → i < length keyed
    → one ≡ get_or keyed i one → one.key ≡ k → under k keyed ≡ [] → ⊥
is_under [] i k one within is own none = absurd (omega (arith, within))
is_under (first ∷ keyed) zero k one within is own none =
    under_first (first.key == k) first (filter (λ o. o.key == k) keyed)
    (eq-eqb first.key k (ap (λ o. o.key) (sym is) ∙ own)) none
is_under (first ∷ keyed) (suc i) k one within is own none =
    is_under keyed i k one (omega (arith, within)) is own
    (under_later (first.key == k) first (filter (λ o. o.key == k) keyed) none)

-- where all items are of slots that there are, none is under another one
none_past : {X : Type 0} (whose : X → ℕ) (slots s : ℕ) (told : List X) → slots ≤ s → AreOfSlots whose slots told
    → of_slot whose s told ≡ []
none_past whose slots s [] past known = refl
none_past whose slots s (x ∷ told) past known =
    let low : whose x < slots = All-head (λ y. whose y < slots) x told known in
    ap (λ own. cond own (x ∷ of_slot whose s told) (of_slot whose s told))
    (ne_eqb (whose x) s (λ is. omega (arith, is, low, past)))
    ∙ none_past whose slots s told past (All-tail (λ y. whose y < slots) x told known)

pub none_under : {X : Type 0} (whose : X → ℕ) (slots : ℕ) (keyed : List (Keyed (Bor X))) (told : List X)
    → ((slot : ℕ) → lent (under slot keyed) ≡ of_slot whose slot told) → AreOfSlots whose slots told
    → (later : ℕ) → under (slots + later) keyed ≡ []
none_under whose slots keyed told are known later =
    no_items (λ (item : Bor _). item.now) (under (slots + later) keyed)
    (are (slots + later) ∙ none_past whose slots (slots + later) told (omega arith) known)

-- items in order of their keys, none of which is below a number
abbrev pub Ascends : {T : Type 0} → ℕ → List (Keyed T) → Type 0
Ascends least [] = Unit {0}
Ascends least (one ∷ keyed) = (least ≤ one.key) × Ascends one.key keyed

pub lower : {T : Type 0} (least low : ℕ) (keyed : List (Keyed T)) → low ≤ least → Ascends least keyed
    → Ascends low keyed
lower least low [] below up = tt
lower least low (one ∷ keyed) below up = (omega (arith, below, up.0), up.1)

none_low : {T : Type 0} (k least : ℕ) (keyed : List (Keyed T)) → k < least → Ascends least keyed → under k keyed ≡ []
none_low k least [] below up = refl
none_low k least (one ∷ keyed) below up =
    ap (λ own. map (λ (o : Keyed _). o.item) (cond own (one ∷ filter (λ (o : Keyed _). o.key == k) keyed)
    (filter (λ (o : Keyed _). o.key == k) keyed)))
    (ne_eqb one.key k (λ is. omega (arith, is, below, up.0)))
    ∙ none_low k least keyed below (lower one.key least keyed up.0 up.1)

-- those under some keys
abbrev flat : {T : Type 0} → (first n : ℕ) → List (Keyed T) → List T
flat first n keyed = flat_map (λ k. under k keyed) (counted first n)

-- an item under a key that isn't among them changes nothing
flat_past : {T : Type 0} (first n : ℕ) (one : Keyed T) (keyed : List (Keyed T)) → one.key < first
    → flat first n (one ∷ keyed) ≡ flat first n keyed
flat_past first zero one keyed below = refl
flat_past first (suc n) one keyed below =
    (λ i. ap (λ own. map (λ (o : Keyed _). o.item) (cond own (one ∷ filter (λ (o : Keyed _). o.key == first) keyed)
    (filter (λ (o : Keyed _). o.key == first) keyed)))
    (ne_eqb one.key first (λ is. omega (arith, is, below))) i ++ flat_past (first + 1) n one keyed (omega (arith, below)) i)

under_this : {T : Type 0} (k : ℕ) (one : Keyed T) (keyed : List (Keyed T)) → one.key ≡ k
    → under k (one ∷ keyed) ≡ one.item ∷ under k keyed
under_this k one keyed is =
    ap (λ own. map (λ (o : Keyed _). o.item) (cond own (one ∷ filter (λ (o : Keyed _). o.key == k) keyed)
    (filter (λ (o : Keyed _). o.key == k) keyed)))
    (eq-eqb one.key k is)

-- no item is under a key of these or past them
abbrev NonePast : {T : Type 0} → ℕ → List (Keyed T) → Type 0
NonePast end keyed = (k : ℕ) → end ≤ k → under k keyed ≡ []

tail_past : {T : Type 0} (end : ℕ) (one : Keyed T) (keyed : List (Keyed T)) → NonePast end (one ∷ keyed)
    → NonePast end keyed
tail_past end one keyed none k past =
    under_later (one.key == k) one (filter (λ (o : Keyed _). o.key == k) keyed) (none k past)

flat_step : {T : Type 0} (first n : ℕ)
    → ((keyed : List (Keyed T)) → Ascends (first + 1) keyed → NonePast (first + 1 + n) keyed
    → flat (first + 1) n keyed ≡ map (λ (o : Keyed T). o.item) keyed)
    → (keyed : List (Keyed T)) → Ascends first keyed → NonePast (first + suc n) keyed
    → flat first (suc n) keyed ≡ map (λ (o : Keyed T). o.item) keyed
flat_step first n next [] up none =
    next [] tt (λ k past. refl)
flat_step first n next (one ∷ keyed) up none = elim (cases_eq one.key first) [
  | inl is ↦
      (λ i. under_this first one keyed is i ++ flat_past (first + 1) n one keyed (omega (arith, is)) i)
      ∙ ap (λ rest. one.item ∷ rest)
      (flat_step first n next keyed (lower one.key first keyed up.0 up.1) (tail_past (first + suc n) one keyed none))
  | inr other ↦
      let above : Ascends (first + 1) (one ∷ keyed) = (omega (arith, other, up.0), up.1) in
      ap (λ prefix. prefix ++ flat (first + 1) n (one ∷ keyed)) (none_low first (first + 1) (one ∷ keyed) (omega arith) above)
      ∙ next (one ∷ keyed) above (λ k past. none k (omega (arith, past)))
]

flat_all : {T : Type 0} (first n : ℕ) (keyed : List (Keyed T)) → Ascends first keyed → NonePast (first + n) keyed
    → flat first n keyed ≡ map (λ (o : Keyed T). o.item) keyed
flat_all first zero [] up none = refl
flat_all first zero (one ∷ keyed) up none =
    absurd (under_first (one.key == one.key) one (filter (λ (o : Keyed _). o.key == one.key) keyed)
    (eq-eqb one.key one.key refl) (none one.key (omega (arith, up.0))))
flat_all first (suc n) keyed up none =
    flat_step first n (λ ks above past. flat_all (first + 1) n ks above past) keyed up none

pub in_order : {T : Type 0} (slots : ℕ) (keyed : List (Keyed T)) → Ascends 0 keyed
    → ((later : ℕ) → under (slots + later) keyed ≡ []) → map (λ (o : Keyed T). o.item) keyed ≡ arranged slots keyed
in_order slots keyed up none =
    sym (flat_all 0 slots keyed up (λ k past.
    let at : slots + (k - slots) ≡ k = omega (arith, past) in
    subst (λ n. under n keyed ≡ []) at (none (k - slots))))
