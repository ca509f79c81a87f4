-- How the lanes home are emptied, one after another.
use Rattle.std.proofs.Common.{◌≡◌, ◌≢◌, ℕ, ◌+◌, ◌<◌, ◌≤◌, ◌⊎◌, inl, inr, Bool, true, false, true≢false, List, [], ◌∷◌}
use Rattle.std.proofs.Common.{length, map, get_or, refl, sym, ap, ◌∙◌, subst, arith, length-append}
use Rattle.std.specs.Prelude.{nat_eq}
use Rattle.std.proofs.lemmas.Bool.{eqb-true, eqb-false}
use Rattle.std.proofs.lemmas.Simd.{map-map}
use Rattle.lane_core.specs.declared.ends.Receiver.{Receiver}
use Rattle.lane_core.specs.Ends.{taken, full_answers, empty_answers, raised}
use Rattle.worker_core.specs.declared.desks.LaneDesk.{LaneDesk}
use Rattle.worker_core.specs.Counts.{Rises}
use Rattle.worker_core.specs.Desks.{homes_of, fulls_at, empties_at, home_count, Taken, Empty}
use Rattle.worker_core.specs.Homes.{HomeEnded, HomeStays, TookOne, TookFrom}
use Rattle.worker_core.proofs.Rising.{rises_raised}
use Rattle.worker_core.proofs.AtDesks.{at_now, at_before, at_other, at_same}

module _ {O H A : Type 0} (slice admitted : ℕ) (aside new_aside : List A)
    (desks now : List (LaneDesk O H)) where
  -- a half was taken
  pub took_half : (half : H) → Taken slice half desks now → length aside ≤ length new_aside
      → TookOne true slice admitted aside new_aside desks now
  took_half half took grows =
      let b = took.before in let n = took.now in
      let count : LaneDesk O H → ℕ = λ desk. length (taken desk.home) in
      let empties : LaneDesk O H → ℕ = λ desk. empty_answers desk.home in
      let fulls : LaneDesk O H → ℕ = λ desk. full_answers desk.orders in
      record {
        others = λ other apart. (
          at_other slice b n desks now took.desk count 0 other apart,
          at_other slice b n desks now took.desk empties 0 other apart,
        );
        more = λ went. (
          at_now slice b n desks now took.desk count 0 ∙ ap length took.taken
              ∙ length-append (taken b.home) (half ∷ [])
              ∙ ap (λ n. n + 1) (sym (at_before slice b n desks now took.desk count 0)),
          at_same slice b n desks now took.desk empties 0 slice took.empties,
        );
        ended = λ isnt. absurd (true≢false isnt);
        aside_grows = grows;
        fulls = λ other. at_same slice b n desks now took.desk fulls 0 other (ap full_answers took.orders);
      }

  -- none was there
  pub took_none : Empty slice desks now → length aside ≤ length new_aside
      → TookOne false slice admitted aside new_aside desks now
  took_none none grows =
      let b = none.before in let n = none.now in
      let count : LaneDesk O H → ℕ = λ desk. length (taken desk.home) in
      let empties : LaneDesk O H → ℕ = λ desk. empty_answers desk.home in
      let fulls : LaneDesk O H → ℕ = λ desk. full_answers desk.orders in
      record {
        others = λ other apart. (
          at_other slice b n desks now none.desk count 0 other apart,
          at_other slice b n desks now none.desk empties 0 other apart,
        );
        more = λ went. absurd (true≢false (sym went));
        ended = λ isnt. inl (rises_raised (empties_at desks slice) (empties_at now slice)
            (at_now slice b n desks now none.desk empties 0 ∙ none.empties
            ∙ ap raised (sym (at_before slice b n desks now none.desk empties 0))));
        aside_grows = grows;
        fulls = λ other. at_same slice b n desks now none.desk fulls 0 other (ap full_answers none.orders);
      }

-- as many are kept aside as may be
pub took_full : {O H A : Type 0} (slice admitted : ℕ) (aside : List A) (desks : List (LaneDesk O H))
    → length aside ≡ admitted
    → TookOne false slice admitted aside aside desks desks
took_full slice admitted aside desks full = record {
  others = λ other apart. (refl, refl);
  more = λ went. absurd (true≢false (sym went));
  ended = λ isnt. inr full;
  aside_grows = omega arith;
  fulls = λ other. refl;
}

-- so many halves were taken from a lane home, and it wasn't empty yet
pub record Taking {O H A : Type 0} (slice done : ℕ) (aside new_aside : List A)
    (desks now : List (LaneDesk O H)) : Type 0 where
  pub others : (other : ℕ) → other ≢ slice → HomeStays other desks now
  pub so_many : home_count now slice ≡ home_count desks slice + done
  pub empties : empties_at now slice ≡ empties_at desks slice
  pub aside_grows : length aside ≤ length new_aside
  pub fulls : (other : ℕ) → fulls_at now other ≡ fulls_at desks other

module _ {O H A : Type 0} (slice : ℕ) (first : List A) (desks : List (LaneDesk O H)) where
  pub taking_none : Taking slice 0 first first desks desks
  taking_none = record {
    others = λ other apart. (refl, refl);
    so_many = omega arith;
    empties = refl;
    aside_grows = omega arith;
    fulls = λ other. refl;
  }

  pub taking_more : (went : Bool) (admitted done : ℕ) (aside new_aside : List A)
      (now new : List (LaneDesk O H))
      → Taking slice done first aside desks now
      → went ≡ true → TookOne went slice admitted aside new_aside now new
      → Taking slice (done + 1) first new_aside desks new
  taking_more went admitted done aside new_aside now new taking is took = record {
    others = λ other apart. (
      (took.others other apart).0 ∙ (taking.others other apart).0,
      (took.others other apart).1 ∙ (taking.others other apart).1,
    );
    so_many = let a = (took.more is).0 in let b = taking.so_many in omega arith;
    empties = (took.more is).1 ∙ taking.empties;
    aside_grows = let a = taking.aside_grows in let b = took.aside_grows in omega arith;
    fulls = λ other. took.fulls other ∙ taking.fulls other;
  }

  pub taking_ends : (went : Bool) (admitted done : ℕ) (aside new_aside : List A)
      (now new : List (LaneDesk O H))
      → Taking slice done first aside desks now
      → went ≡ false → TookOne went slice admitted aside new_aside now new
      → TookFrom slice admitted first new_aside desks new
  taking_ends went admitted done aside new_aside now new taking is took = record {
    others = λ other apart. (
      (took.others other apart).0 ∙ (taking.others other apart).0,
      (took.others other apart).1 ∙ (taking.others other apart).1,
    );
    ended = elim (took.ended is) [
      | inl rose ↦ inl (subst (λ (n : ℕ). Rises n (empties_at new slice)) taking.empties rose)
      | inr full ↦ inr (inr full)
    ];
    aside_grows = let a = taking.aside_grows in let b = took.aside_grows in omega arith;
    fulls = λ other. took.fulls other ∙ taking.fulls other;
  }

  pub taking_all : (admitted done : ℕ) (aside : List A) (now : List (LaneDesk O H))
      → Taking slice done first aside desks now → done ≡ 64
      → TookFrom slice admitted first aside desks now
  taking_all admitted done aside now taking all = record {
    others = taking.others;
    ended = inr (inl (taking.so_many ∙ ap (λ n. home_count desks slice + n) all));
    aside_grows = taking.aside_grows;
    fulls = taking.fulls;
  }

-- those of the chosen lanes home that are below this slice were emptied, and no other one was touched
pub record TakenBelow {O H A : Type 0} (chosen : ℕ → Bool) (slice admitted : ℕ) (new_aside : List A)
    (desks now : List (LaneDesk O H)) : Type 0 where
  pub ended : (low : ℕ) → low < slice → chosen low ≡ true → HomeEnded (length new_aside) admitted low desks now
  pub others : (other : ℕ) → (slice ≤ other) ⊎ (chosen other ≡ false) → HomeStays other desks now
  pub fulls : (other : ℕ) → fulls_at now other ≡ fulls_at desks other

later : (chosen : ℕ → Bool) (slice other : ℕ) → (slice + 1 ≤ other) ⊎ (chosen other ≡ false)
    → (slice ≤ other) ⊎ (chosen other ≡ false)
later chosen slice other (inl above) = inl (omega arith)
later chosen slice other (inr isnt) = inr isnt

apart_from : (chosen : ℕ → Bool) (slice other : ℕ) → chosen slice ≡ true
    → (slice + 1 ≤ other) ⊎ (chosen other ≡ false) → other ≢ slice
apart_from chosen slice other is (inl above) e = absurd (omega arith)
apart_from chosen slice other is (inr isnt) e = true≢false (sym is ∙ ap chosen (sym e) ∙ isnt)

module _ {O H A : Type 0} (chosen : ℕ → Bool) where
  pub below_none : (admitted : ℕ) (aside : List A) (desks : List (LaneDesk O H))
      → TakenBelow chosen 0 admitted aside desks desks
  below_none admitted aside desks = record {
    ended = λ low within is. absurd (omega arith);
    others = λ other out. (refl, refl);
    fulls = λ other. refl;
  }

  -- one that isn't chosen is passed
  pub below_passed : (slice admitted : ℕ) (aside : List A) (desks now : List (LaneDesk O H)) → chosen slice ≡ false
      → TakenBelow chosen slice admitted aside desks now → TakenBelow chosen (slice + 1) admitted aside desks now
  below_passed slice admitted aside desks now isnt had = record {
    ended = λ low within is. elim (nat_eq low slice) as (λ b. nat_eq low slice ≡ b
        → HomeEnded (length aside) admitted low desks now) [
          | true ↦ λ e. absurd (true≢false (sym is ∙ ap chosen (eqb-true low slice e) ∙ isnt))
          | false ↦ λ e. let apart : low ≢ slice = eqb-false low slice e in had.ended low (omega arith) is
        ] refl;
    others = λ other out. had.others other (later chosen slice other out);
    fulls = had.fulls;
  }

module _ {O H A : Type 0} (chosen : ℕ → Bool) (slice admitted : ℕ) (aside new_aside : List A)
    (desks now new : List (LaneDesk O H)) where
  pub below_more : (was : ℕ) → chosen slice ≡ true → TakenBelow chosen slice was aside desks now → was ≡ admitted
      → TookFrom slice admitted aside new_aside now new
      → length new_aside ≤ admitted → TakenBelow chosen (slice + 1) admitted new_aside desks new
  below_more was chose had same_count took few = record {
    ended = λ low within is. elim (nat_eq low slice) as (λ b. nat_eq low slice ≡ b
        → HomeEnded (length new_aside) admitted low desks new) [
          | true ↦ λ e. subst (λ (n : ℕ). HomeEnded (length new_aside) admitted n desks new)
              (sym (eqb-true low slice e)) here
          | false ↦ λ e. let apart : low ≢ slice = eqb-false low slice e in still low apart
              (had.ended low (omega arith) is)
        ] refl;
    others = λ other out.
        let before = had.others other (later chosen slice other out) in
        let after = took.others other (apart_from chosen slice other chose out) in
        (after.0 ∙ before.0, after.1 ∙ before.1);
    fulls = λ other. took.fulls other ∙ had.fulls other;
  } where
    same : HomeStays slice desks now
    same = had.others slice (inl (omega arith))

    here : HomeEnded (length new_aside) admitted slice desks new
    here = elim took.ended [
      | inl rose ↦ inl (subst (λ (n : ℕ). Rises n (empties_at new slice)) same.1 rose)
      | inr more ↦ elim more [
        | inl many ↦ inr (inl (let a = same.0 in omega arith))
        | inr full ↦ inr (inr full)
      ]
    ]

    still : (low : ℕ) → low ≢ slice → HomeEnded (length aside) was low desks now
        → HomeEnded (length new_aside) admitted low desks new
    still low apart ended = elim ended [
      | inl rose ↦ inl (subst (λ (n : ℕ). Rises (empties_at desks low) n) (sym (took.others low apart).1) rose)
      | inr more ↦ elim more [
        | inl many ↦ inr (inl ((took.others low apart).0 ∙ many))
        | inr full ↦ inr (inr (let a = took.aside_grows in omega arith))
      ]
    ]

-- what is counted of the ends of the lanes home stays as they do
by_homes : {O H : Type 0} (desks now : List (LaneDesk O H)) → homes_of now ≡ homes_of desks → (slice : ℕ)
    (count : Receiver H → ℕ) → get_or (map (λ (desk : LaneDesk O H). count desk.home) now) slice 0
    ≡ get_or (map (λ (desk : LaneDesk O H). count desk.home) desks) slice 0
by_homes {O} {H} desks now homes slice count = ap (λ l. get_or l slice 0)
    (sym (map-map count (λ (desk : LaneDesk O H). desk.home) now) ∙ ap (map count) homes
    ∙ map-map count (λ (desk : LaneDesk O H). desk.home) desks)

-- how the lanes home ended stays, while orders are given
pub ended_since : {O H A : Type 0} (admitted was : ℕ) (aside old_aside : List A) (slice : ℕ)
    (first desks now : List (LaneDesk O H))
    → homes_of now ≡ homes_of desks → aside ≡ old_aside → admitted ≡ was
    → HomeEnded (length old_aside) was slice first desks
    → HomeEnded (length aside) admitted slice first now
ended_since admitted was aside old_aside slice first desks now homes same alike ended = elim ended [
  | inl rose ↦ inl (subst (Rises (empties_at first slice)) (sym (by_homes desks now homes slice empty_answers)) rose)
  | inr more ↦ elim more [
    | inl many ↦ inr (inl (by_homes desks now homes slice (λ home. length (taken home)) ∙ many))
    | inr full ↦ inr (inr (ap length same ∙ full ∙ sym alike))
  ]
]

-- and that one wasn't touched
pub stays_since : {O H : Type 0} (slice : ℕ) (first desks now : List (LaneDesk O H)) → homes_of now ≡ homes_of desks
    → HomeStays slice first desks → HomeStays slice first now
stays_since slice first desks now homes stays = (
  by_homes desks now homes slice (λ home. length (taken home)) ∙ stays.0,
  by_homes desks now homes slice empty_answers ∙ stays.1,
)
