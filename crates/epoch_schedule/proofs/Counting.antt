-- Packets that are counted by slot.
use Rattle.std.proofs.Common.{◌≡◌, ℕ, zero, suc, ◌+◌, ◌<◌, ◌≤◌, ◌==◌, false, List, [], ◌∷◌, length, get_or, set, take, cond, refl, sym, ap, subst, ◌∙◌, inl, inr, arith, true≢false}
use Rattle.std.specs.List.{All, sum_by}
use Rattle.std.proofs.lemmas.Bool.{cases_eq, eq-eqb, ne_eqb}
use Rattle.std.proofs.lemmas.List.Elements.{All-get_or}
use Rattle.std.proofs.lemmas.List.Sums.{sum_by_more}
use Rattle.epoch_schedule.proofs.Grown.{value-within}
use Rattle.epoch_schedule.specs.Lines.{IsPacketBelow, packet_asked}
use Rattle.epoch_schedule.specs.declared.ask.LineAsk.{LineAsk}
use Rattle.epoch_schedule.specs.declared.ask.LineAsk.TheVariants as ask

-- no slot has more than these lines have packets of it
abbrev AreFew : List ℕ → List LineAsk → Type 0
AreFew counts asks = (slot : ℕ) → get_or counts slot 0 ≤ sum_by (packet_asked slot) asks

-- so many lines are gone over
pub record Counted (asks : List LineAsk) (i : ℕ) (counts : List ℕ) : Type 0 where
  pub few : AreFew counts (take i asks)
  pub many : (slots : ℕ) → All (IsPacketBelow slots) asks → length counts ≤ slots

get_set_own : (xs : List ℕ) (n x : ℕ) → n < length xs → get_or (set xs n x) n 0 ≡ x
get_set_own [] n x within = absurd (omega (arith, within))
get_set_own (y ∷ ys) zero x within = refl
get_set_own (y ∷ ys) (suc n) x within = get_set_own ys n x (omega (arith, within))

get_set_other : (xs : List ℕ) (n m x : ℕ) → (n ≡ m → ⊥) → get_or (set xs n x) m 0 ≡ get_or xs m 0
get_set_other [] n m x differ = refl
get_set_other (y ∷ ys) zero zero x differ = absurd (differ refl)
get_set_other (y ∷ ys) zero (suc m) x differ = refl
get_set_other (y ∷ ys) (suc n) zero x differ = refl
get_set_other (y ∷ ys) (suc n) (suc m) x differ = get_set_other ys n m x (λ same. differ (ap suc same))

-- one more of a slot
module _ (counts reached : List ℕ) (own n : ℕ) (same : (s : ℕ) → get_or reached s 0 ≡ get_or counts s 0) where
  pub counted_own : (was : ℕ) → own < length reached → was ≡ get_or reached own was → n ≤ was + 1
      → get_or (set reached own n) own 0 ≤ get_or counts own 0 + 1
  counted_own was within is most =
      let now = get_set_own reached own n within in
      let before = value-within 0 was reached own within in
      let kept = same own in
      omega (arith, now, before, kept, is, most)

  pub counted_others : (s : ℕ) → (own == s) ≡ false → get_or (set reached own n) s 0 ≡ get_or counts s 0
  counted_others s other =
      get_set_other reached own s n (λ is. true≢false (sym (eq-eqb own s is) ∙ other)) ∙ same s

-- a packet's slot is below any number that all are below
slot_below : (asks : List LineAsk) (i own slots : ℕ) (now : LineAsk) → i < length asks → get_or asks i now ≡ ask.Packet own
    → All (IsPacketBelow slots) asks → own < slots
slot_below asks i own slots now within here all =
    subst (IsPacketBelow slots) here (All-get_or (IsPacketBelow slots) asks i now within all)

module _ (asks : List LineAsk) (i : ℕ) (now : LineAsk) (within : i < length asks) (counts : List ℕ)
    (so : Counted asks i counts) where
  -- a line that is no packet
  pub passed : Counted asks (i + 1) counts
  passed = record {
    few = λ slot.
        let less = so.few slot in
        let more = sum_by_more (packet_asked slot) asks i now within in
        omega (arith, less, more);
    many = so.many;
  }

  -- a packet
  counted_few : (own : ℕ) (new : List ℕ) → get_or asks i now ≡ ask.Packet own
      → get_or new own 0 ≤ get_or counts own 0 + 1
      → ((s : ℕ) → (own == s) ≡ false → get_or new s 0 ≡ get_or counts s 0) → AreFew new (take (i + 1) asks)
  counted_few own new here most others slot = elim (cases_eq own slot) [
    | inl is ↦
        let less = so.few own in
        let more = sum_by_more (packet_asked own) asks i now within in
        let one : packet_asked own (get_or asks i now) ≡ 1 =
        ap (packet_asked own) here ∙ ap (λ test. cond test 1 0) (eq-eqb own own refl) in
        let all : get_or new own 0 ≤ sum_by (packet_asked own) (take (i + 1) asks) = omega (arith, less, more, one, most) in
        subst (λ m. get_or new m 0 ≤ sum_by (packet_asked m) (take (i + 1) asks)) is all
    | inr differ ↦
        let less = so.few slot in
        let more = sum_by_more (packet_asked slot) asks i now within in
        let before = others slot (ne_eqb own slot differ) in
        omega (arith, less, more, before)
  ]

  pub counted : (own : ℕ) (new : List ℕ) → get_or asks i now ≡ ask.Packet own
      → get_or new own 0 ≤ get_or counts own 0 + 1
      → ((s : ℕ) → (own == s) ≡ false → get_or new s 0 ≡ get_or counts s 0)
      → ((slots : ℕ) → own < slots → length counts ≤ slots → length new ≤ slots) → Counted asks (i + 1) new
  counted own new here most others least = record {
    few = counted_few own new here most others;
    many = λ slots all. least slots (slot_below asks i own slots now within here all) (so.many slots all);
  }
