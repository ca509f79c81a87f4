-- Items of slots that there are, one by one, and the first of one that there isn't.
use Rattle.std.proofs.Common.{◌≡◌, ℕ, ◌+◌, ◌<◌, ◌≤◌, List, length, take, drop, get_or, sym, subst, arith}
use Rattle.std.specs.Borrow.{Bor}
use Rattle.std.proofs.lemmas.List.{length-map, take_all}
use Rattle.std.proofs.lemmas.List.Elements.{All-push}
use Rattle.audit_core.specs.Agreeing.{lent}
use Rattle.audit_core.specs.Charges.{AreOfSlots, IsFirstBeyond}
use Rattle.audit_core.proofs.Differing.{mapped_parts, took}

module _ {X : Type 0} (whose : X → ℕ) (slots : ℕ) (told : List (Bor X)) (i : ℕ) where
  pub known_more : (one : Bor X) → i < length told → one ≡ get_or told i one
      → AreOfSlots whose slots (take i (lent told)) → whose one.now < slots
      → AreOfSlots whose slots (take (i + 1) (lent told))
  known_more one low at known here =
      subst (AreOfSlots whose slots) (sym (took (λ (b : Bor X). b.now) told i one low at))
      (All-push (λ x. whose x < slots) (take i (lent told)) one.now known here)

  pub first_beyond : (one : Bor X) → i < length told → one ≡ get_or told i one
      → AreOfSlots whose slots (take i (lent told)) → slots ≤ whose one.now
      → IsFirstBeyond whose slots (lent told) one.now
  first_beyond one low at known beyond = record {
    prefix = take i (lent told);
    later = drop (i + 1) (lent told);
    parts = mapped_parts (λ (b : Bor X). b.now) told i one low at;
    known = known;
    beyond = beyond;
  }

  pub all_known : length told ≤ i → AreOfSlots whose slots (take i (lent told)) → AreOfSlots whose slots (lent told)
  all_known end known =
      subst (AreOfSlots whose slots)
      (take_all i (lent told) (omega (arith, end, length-map told (λ (b : Bor X). b.now)))) known
