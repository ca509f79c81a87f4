-- What a bucket represents, behind an ask.
use Rattle.std.proofs.Common.{◌≡◌, ℕ, ◌+◌, ◌-◌, ◌*◌, ◌≤◌, ◌⊎◌, inl, inr, List, [], ◌∷◌, ◌++◌, length, min, All, refl, ap, sym, ◌∙◌, append_assoc, length-append, le_trans, arith}
use Rattle.std.proofs.Math.Nat.{min-le_left, le-min}
use Rattle.std.proofs.lemmas.List.Elements.{All-push}
use Rattle.rate_policer.specs.declared.cost.Cost.{Cost}
use Rattle.rate_policer.specs.Conforming.{burst, volume, Conforms}
use Rattle.rate_policer.specs.Buckets.{BucketState, StandsFor, LetsThrough, level_at}
use Rattle.rate_policer.proofs.Splits.{AtEnd, Within, split_push, All-split}
use Rattle.rate_policer.proofs.Volumes.{volume-one, volume-push}
use Rattle.rate_policer.proofs.Levels.{brought-between, level_at-moved, within_charged}

-- none of these passed after a moment
abbrev pub AreBy : ℕ → List Cost → Type 0
AreBy at passed = All (λ cost. cost.at ≤ at) passed

-- what two costs together need at the first one's moment, beyond what is brought until the later one's
abbrev pub joined : ℕ → Cost → Cost → Cost
joined rate first later =
    record { at = first.at; millibits = later.millibits + first.millibits - rate * (later.at - first.at) }

-- a later cost fits with what passed since an earlier one, where joined with the last one it conforms
pub since_push : (rate : ℕ) (passed before after : List Cost) (last later earlier : Cost)
    → AreBy last.at passed → last.at ≤ later.at → Conforms rate passed (joined rate last later)
    → AtEnd passed before after earlier last ⊎ Within passed before after earlier last
    → later.millibits + volume (earlier ∷ after) ≤ burst rate + rate * (later.at - earlier.at)
since_push rate passed before after last later earlier past high conforms (inl end) =
    let here : volume (earlier ∷ after) ≡ last.millibits =
    ap (λ rest. volume (earlier ∷ rest)) end.nothing ∙ volume-one earlier
    ∙ ap (λ (c : Cost). c.millibits) (sym end.is) in
    let alone : later.millibits + last.millibits - rate * (later.at - last.at) ≤ burst rate = conforms.alone in
    let moment : rate * (later.at - last.at) ≡ rate * (later.at - earlier.at)
    = ap (λ (c : Cost). rate * (later.at - c.at)) end.is in
    omega (arith, here, alone, moment)
since_push rate passed before after last later earlier past high conforms (inr inner) =
    let whole : volume (earlier ∷ after) ≡ volume (earlier ∷ inner.rest) + last.millibits =
    ap (λ rest. volume (earlier ∷ rest)) inner.is ∙ volume-push (earlier ∷ inner.rest) last in
    let since = conforms.since before inner.rest earlier inner.split in
    let low : earlier.at ≤ last.at
    = All-split (λ (c : Cost). c.at ≤ last.at) passed before inner.rest earlier inner.split past in
    let brought = brought-between rate earlier.at last.at later.at low high in
    omega (arith, whole, since, brought)

-- a cost conforms behind one more, where joined with that it conformed before
pub conforms_push : (rate : ℕ) (passed : List Cost) (last later : Cost)
    → AreBy last.at passed → last.at ≤ later.at → later.millibits ≤ burst rate
    → Conforms rate passed (joined rate last later)
    → Conforms rate (passed ++ last ∷ []) later
conforms_push rate passed last later past high alone conforms = record {
  alone = alone;
  since = λ before after earlier e.
      since_push rate passed before after last later earlier past high conforms
      (split_push passed before after earlier last e);
}

-- and the other way round, where no octets at all conformed at the moment of the last one
pub conforms_joined : (rate : ℕ) (passed : List Cost) (last later : Cost)
    → AreBy last.at passed → last.at ≤ later.at → Conforms rate passed (record { at = last.at; millibits = 0 })
    → Conforms rate (passed ++ last ∷ []) later → Conforms rate passed (joined rate last later)
conforms_joined rate passed last later past high nothing conforms = record {
  alone = let since = conforms.since passed [] last refl in omega (arith, since, volume-one last);
  since = λ before after earlier e.
      let without = nothing.since before after earlier e in
      let split : passed ++ last ∷ [] ≡ before ++ earlier ∷ (after ++ last ∷ []) =
      ap (λ xs. xs ++ last ∷ []) e ∙ append_assoc before (earlier ∷ after) (last ∷ []) in
      let since = conforms.since before (after ++ last ∷ []) earlier split in
      let whole : volume (earlier ∷ after ++ last ∷ []) ≡ volume (earlier ∷ after) + last.millibits
      = volume-push (earlier ∷ after) last in
      let low : earlier.at ≤ last.at = All-split (λ (c : Cost). c.at ≤ last.at) passed before after earlier e past in
      let brought = brought-between rate earlier.at last.at later.at low high in
      omega (arith, without, since, whole, brought);
}

-- a full bucket represents nothing that passed
pub stands_full : (rate level : ℕ) → level ≡ burst rate → StandsFor (record { rate = rate; level = level; last = 0 }) []
stands_full rate level full = record {
  past = λ k d inside. omega arith;
  level = omega (arith, full);
  same = λ cost late. (
    λ (lets : cost.millibits ≤ min (burst rate) (level + rate * (cost.at - 0))). record {
      alone = le_trans lets (min-le_left (burst rate) (level + rate * (cost.at - 0)));
      since = λ before after earlier e. omega (arith, ap length e, length-append before (earlier ∷ after));
    },
    λ conforms. le-min conforms.alone (omega (arith, conforms.alone, full)),
  );
}

-- a bucket whose level and moment have moved on represents what it represented
pub stands_moved : (bucket : BucketState) (passed : List Cost) (at rate level : ℕ) → StandsFor bucket passed
    → bucket.last ≤ at
    → rate ≡ bucket.rate → level ≡ level_at bucket at
    → StandsFor (record { rate = rate; level = level; last = at }) passed
stands_moved bucket passed at rate level stands low same_rate same_level =
    rw (same_rate, same_level) (record {
      past = λ k d inside. le_trans (stands.past k d inside) low;
      level = min-le_left (burst bucket.rate) _;
      same = λ cost late.
          let moved = level_at-moved bucket at cost.at low late in
          let same = stands.same cost (le_trans low late) in
          (λ lets. same.0 (rw moved at lets), λ conforms. rw moved (same.1 conforms));
    })

-- what is left of a level is within what it was within
left_within : (level cost most : ℕ) → level ≤ most → level - cost ≤ most
left_within level cost most within = omega (arith, within)

-- and where it let a cost through, and keeps what that leaves, also for this
pub stands_charged : (bucket : BucketState) (passed : List Cost) (cost : Cost) (rate level : ℕ)
    → StandsFor bucket passed
    → bucket.last ≤ cost.at → LetsThrough bucket cost → rate ≡ bucket.rate → level ≡ level_at bucket cost.at
    → StandsFor (record { rate = rate; level = level - cost.millibits; last = cost.at }) (passed ++ cost ∷ [])
stands_charged bucket passed cost rate level stands low lets same_rate same_level =
    rw (same_rate, same_level) (record {
      past = All-push (λ (c : Cost). c.at ≤ cost.at) passed cost past (omega arith);
      level = left_within (level_at bucket cost.at) cost.millibits (burst bucket.rate) (min-le_left (burst bucket.rate) _);
      same = λ later late.
          let within = within_charged (burst bucket.rate) (level_at bucket cost.at) later.millibits cost.millibits
          (bucket.rate * (later.at - cost.at)) lets (min-le_left (burst bucket.rate) _) in
          let same = stands.same (joined bucket.rate cost later) low in
          let nothing = (stands.same (record { at = cost.at; millibits = 0 }) low).0 (omega arith) in (
            λ fits. let parts = within.0 fits in
                conforms_push bucket.rate passed cost later past late parts.0 (same.0 parts.1),
            λ conforms. within.1
                (conforms.alone, same.1 (conforms_joined bucket.rate passed cost later past late nothing conforms)),
          );
    })
  where
    past : AreBy cost.at passed
    past = λ k d inside. le_trans (stands.past k d inside) low
