-- What a version brings to the book may happen there, and leaves the lives of the active bearers open.
use Rattle.std.proofs.Common.{◌≡◌, ◌≢◌, ℕ, ◌+◌, ◌==◌, Bool, true, false, not, if◌then◌else◌, nat_lt, List, [], ◌∷◌, ◌++◌, map, fold, refl, sym, ap, ◌∙◌, subst, inl, inr, append_assoc, eq-eqb}
use Rattle.std.specs.List.{filter}
use Rattle.std.proofs.lemmas.Bool.{false≢true, ne_eqb, eqb-true, cases_Bool, not_from_false, not-true}
use Rattle.std.proofs.lemmas.List.{append-nil}
use Rattle.std.proofs.lemmas.List.Sums.{fold-append}
use Rattle.bearer_state.specs.declared.version.ActiveBearer.{ActiveBearer}
use Rattle.bearer_state.specs.Version.{VersionState}
use Rattle.charging_book.specs.declared.records.Why.TheVariants.{Qos, Gone}
use Rattle.charging_book.specs.Happenings.{Happening, started, forwarded, closed, lives_step, lives_of, MayHappen, IsLawful}
use Rattle.charging_book.proofs.Steps.{lives-push, lawful-push}
use Rattle.packet_steps.specs.Change.{has_life, shared_with, lacking_in, shares_ambr, ended, cut, begun, marks}
use Rattle.gate_model.proofs.Members.{In, of_map, in_map, of_filter, in_filter, of_any, in_any, in_append, in_left, in_right, IsOther, AreDistinct, other_at, other_if, distinct_filter, contains_in, all_other}

abbrev pub life_in : ActiveBearer → ℕ
life_in bearer = bearer.life

abbrev pub active_lives : List ActiveBearer → List ℕ
active_lives bearers = map life_in bearers

-- whether a bearer has a life
pub has_of : (bearers : List ActiveBearer) (life : ℕ) → In life (active_lives bearers) → has_life bearers life ≡ true
has_of bearers life there =
    let found = of_map life_in life bearers there in
    in_any (λ (b : ActiveBearer). b.life == life) found.0 bearers found.1 (eq-eqb found.0.life life found.2)

pub of_has : (bearers : List ActiveBearer) (life : ℕ) → has_life bearers life ≡ true → In life (active_lives bearers)
of_has bearers life has =
    let found = of_any (λ (b : ActiveBearer). b.life == life) bearers has in
    subst (λ n. In n (active_lives bearers)) (eqb-true found.0.life life found.2)
    (in_map life_in found.0 bearers found.1)

-- what may happen where these lives are open
abbrev pub MayNow : List ℕ → Happening → Type 0
MayNow lives (started life ebi qci) = IsOther life lives
MayNow lives (forwarded life p) = In life lives
MayNow lives (closed life why) = In life lives

abbrev pub AllNow : List ℕ → List Happening → Type 0
AllNow lives [] = Unit {0}
AllNow lives (now ∷ later) = MayNow lives now × AllNow (lives_step lives now) later

abbrev pub lives_behind : List ℕ → List Happening → List ℕ
lives_behind lives happened = fold lives_step lives happened

may_now : (before : List Happening) (now : Happening) → MayNow (lives_of before) now → MayHappen before now
may_now before (started life ebi qci) may = all_other life (lives_of before) may
may_now before (forwarded life p) may = contains_in life (lives_of before) may
may_now before (closed life why) may = contains_in life (lives_of before) may

pub lawful_all : (before later : List Happening) → IsLawful before → AllNow (lives_of before) later
    → IsLawful (before ++ later)
lawful_all before [] lawful all = rw append-nil lawful
lawful_all before (now ∷ later) lawful all =
    let pushed = lawful-push before now lawful (may_now before now all.0) in
    let behind : AllNow (lives_of (before ++ now ∷ [])) later =
    subst (λ lives. AllNow lives later) (sym (lives-push before now)) all.1 in
    subst IsLawful (append_assoc before (now ∷ []) later) (lawful_all (before ++ now ∷ []) later pushed behind)

pub lives-all : (before later : List Happening) → lives_of (before ++ later) ≡ lives_behind (lives_of before) later
lives-all before later = fold-append lives_step [] before later

pub all_append : (lives : List ℕ) (xs ys : List Happening) → AllNow lives xs → AllNow (lives_behind lives xs) ys
    → AllNow lives (xs ++ ys)
all_append lives [] ys first second = second
all_append lives (x ∷ xs) ys first second = (first.0, all_append (lives_step lives x) xs ys first.1 second)

behind_append : (lives : List ℕ) (xs ys : List Happening)
    → lives_behind lives (xs ++ ys) ≡ lives_behind (lives_behind lives xs) ys
behind_append lives xs ys = fold-append lives_step lives xs ys

-- lives that end
abbrev gone : List ActiveBearer → List Happening
gone bearers = map (λ (b : ActiveBearer). closed b.life Gone) bearers

record Ends (lives : List ℕ) (bearers : List ActiveBearer) : Type 0 where
  may : AllNow lives (gone bearers)
  were : (life : ℕ) → In life (lives_behind lives (gone bearers)) → In life lives
  over : (life : ℕ) → In life (lives_behind lives (gone bearers)) → In life (active_lives bearers) → ⊥
  stay : (life : ℕ) → In life lives → (In life (active_lives bearers) → ⊥) → In life (lives_behind lives (gone bearers))

abbrev is_not : ℕ → ℕ → Bool
is_not life other = not (other == life)

not_itself : (life other : ℕ) → other ≢ life → is_not life other ≡ true
not_itself life other differs = not_from_false (other == life) (ne_eqb other life differs)

itself : (life other : ℕ) → is_not life other ≡ true → other ≢ life
itself life other is same = false≢true (sym (not-true (other == life) is) ∙ eq-eqb other life same)

end_each : (lives : List ℕ) (bearers : List ActiveBearer) → AreDistinct (active_lives bearers)
    → ((life : ℕ) → In life (active_lives bearers) → In life lives)
    → Ends lives bearers
end_each lives [] apart opened = record {
  may = tt;
  were = λ life there. there;
  over = λ life there among. among;
  stay = λ life there not_among. there;
}
end_each lives (b ∷ bs) apart opened =
    let left : List ℕ = filter (is_not b.life) lives in
    let still : (life : ℕ) → In life (active_lives bs) → In life left = λ life there.
    in_filter (is_not b.life) life lives (opened life (inr there))
    (not_itself b.life life (λ same. other_at b.life life (active_lives bs) apart.0 there (sym same))) in
    let rest = end_each left bs apart.1 still in
    record {
      may = (opened b.life (inl refl), rest.may);
      were = λ life there. (of_filter (is_not b.life) life lives (rest.were life there)).0;
      over = λ life there among. elim among [
        | inl here ↦ itself b.life life (of_filter (is_not b.life) life lives (rest.were life there)).1 (sym here)
        | inr more ↦ rest.over life there more
      ];
      stay = λ life there not_among. rest.stay life
          (in_filter (is_not b.life) life lives there (not_itself b.life life (λ same. not_among (inl (sym same)))))
          (λ more. not_among (inr more));
    }

-- pieces that are cut
abbrev cut_each : List ActiveBearer → List Happening
cut_each bearers = map (λ (b : ActiveBearer). closed b.life Qos) bearers

may_cut : (lives : List ℕ) (bearers : List ActiveBearer) → ((b : ActiveBearer) → In b bearers → In b.life lives)
    → AllNow lives (cut_each bearers)
may_cut lives [] opened = tt
may_cut lives (b ∷ bs) opened = (opened b (inl refl), may_cut lives bs (λ c there. opened c (inr there)))

behind_cut : (lives : List ℕ) (bearers : List ActiveBearer) → lives_behind lives (cut_each bearers) ≡ lives
behind_cut lives [] = refl
behind_cut lives (b ∷ bs) = behind_cut lives bs

cut_by : Bool → List ActiveBearer → List Happening
cut_by true bearers = cut_each bearers
cut_by false bearers = []

may_cut_if : (rose : Bool) (lives : List ℕ) (bearers : List ActiveBearer)
    → ((b : ActiveBearer) → In b bearers → In b.life lives)
    → AllNow lives (if rose then cut_each bearers else [])
    × (lives_behind lives (if rose then cut_each bearers else []) ≡ lives)
may_cut_if true lives bearers opened = (may_cut lives bearers opened, behind_cut lives bearers)
may_cut_if false lives bearers opened = (tt, refl)

-- lives that begin
abbrev begin_each : List ActiveBearer → List Happening
begin_each bearers = map (λ (b : ActiveBearer). started b.life b.ebi b.qos.qci) bearers

record Begins (lives : List ℕ) (bearers : List ActiveBearer) : Type 0 where
  may : AllNow lives (begin_each bearers)
  behind : lives_behind lives (begin_each bearers) ≡ lives ++ active_lives bearers

begin_all : (lives : List ℕ) (bearers : List ActiveBearer) → AreDistinct (active_lives bearers)
    → ((life : ℕ) → In life (active_lives bearers) → In life lives → ⊥)
    → Begins lives bearers
begin_all lives [] apart fresh = record { may = tt; behind = sym (append-nil lives) }
begin_all lives (b ∷ bs) apart fresh =
    let more : List ℕ = lives ++ b.life ∷ [] in
    let others : (life : ℕ) → In life (active_lives bs) → In life more → ⊥ =
    λ life there among. elim (in_append life lives (b.life ∷ []) among) [
      | inl old ↦ fresh life (inr there) old
      | inr new ↦ elim new [ inl same ↦ other_at b.life life (active_lives bs) apart.0 there same | inr none ↦ none ]
    ] in
    let rest = begin_all more bs apart.1 others in
    record {
      may = (
        other_if b.life lives (λ m there same. fresh b.life (inl refl)
            (subst (λ n. In n lives) (sym same) there)),
        rest.may,
      );
      behind = rest.behind ∙ append_assoc lives (b.life ∷ []) (active_lives bs);
    }

-- the open lives are those of bearers
pub record AreOpen (lives : List ℕ) (bearers : List ActiveBearer) : Type 0 where
  pub active : (life : ℕ) → In life lives → In life (active_lives bearers)
  pub opened : (life : ℕ) → In life (active_lives bearers) → In life lives

-- all three together
pub record Marked (lives : List ℕ) (before after : VersionState) : Type 0 where
  pub may : AllNow lives (marks before after)
  pub now_open : AreOpen (lives_behind lives (marks before after)) after.bearers

lacks : (others : List ActiveBearer) (b : ActiveBearer) → not (has_life others b.life) ≡ true
    → In b.life (active_lives others) → ⊥
lacks others b lacking there = false≢true (sym (not-true (has_life others b.life) lacking) ∙ has_of others b.life there)

pub marks_may : (lives : List ℕ) (before after : VersionState) → AreOpen lives before.bearers
    → AreDistinct (active_lives before.bearers)
    → AreDistinct (active_lives after.bearers) → Marked lives before after
marks_may lives before after are apart next_apart =
    let over : List ActiveBearer = lacking_in after.bearers before.bearers in
    let new : List ActiveBearer = lacking_in before.bearers after.bearers in
    let sharing : List ActiveBearer = filter shares_ambr (shared_with after.bearers before.bearers) in
    let in_over : (life : ℕ) → In life (active_lives over) → In life (active_lives before.bearers)
    × (In life (active_lives after.bearers) → ⊥) = λ life there.
    let found = of_map life_in life over there in
    let kept = of_filter (λ (b : ActiveBearer). not (has_life after.bearers b.life)) found.0 before.bearers found.1 in (
      subst (λ n. In n (active_lives before.bearers)) found.2 (in_map life_in found.0 before.bearers kept.0),
      λ after_there. lacks after.bearers found.0 kept.1
          (subst (λ n. In n (active_lives after.bearers)) (sym found.2) after_there),
    ) in
    let ends = end_each lives over (distinct_filter life_in
    (λ (b : ActiveBearer). not (has_life after.bearers b.life)) before.bearers apart)
    (λ life there. are.opened life (in_over life there).0) in
    let left : List ℕ = lives_behind lives (gone over) in
    let shared_left : (b : ActiveBearer) → In b sharing → In b.life left = λ b there.
    let one = of_filter shares_ambr b (shared_with after.bearers before.bearers) there in
    let two = of_filter (λ (c : ActiveBearer). has_life after.bearers c.life) b before.bearers one.0 in
    ends.stay b.life (are.opened b.life (in_map life_in b before.bearers two.0))
    (λ among. (in_over b.life among).1 (of_has after.bearers b.life two.1)) in
    let cuts = may_cut_if (nat_lt before.rates after.rates) left sharing shared_left in
    let in_new : (life : ℕ) → In life (active_lives new) → In life (active_lives after.bearers)
    × (In life (active_lives before.bearers) → ⊥) = λ life there.
    let found = of_map life_in life new there in
    let kept = of_filter (λ (b : ActiveBearer). not (has_life before.bearers b.life)) found.0 after.bearers found.1 in (
      subst (λ n. In n (active_lives after.bearers)) found.2 (in_map life_in found.0 after.bearers kept.0),
      λ before_there. lacks before.bearers found.0 kept.1
          (subst (λ n. In n (active_lives before.bearers)) (sym found.2) before_there),
    ) in
    let begins = begin_all left new (distinct_filter life_in
    (λ (b : ActiveBearer). not (has_life before.bearers b.life)) after.bearers next_apart)
    (λ life there old. (in_new life there).1 (are.active life (ends.were life old))) in
    let cut_behind : lives_behind lives (ended before.bearers after.bearers
    ++ cut (nat_lt before.rates after.rates) before.bearers after.bearers) ≡ left =
    behind_append lives (ended before.bearers after.bearers)
    (cut (nat_lt before.rates after.rates) before.bearers after.bearers) ∙ cuts.1 in
    let all_behind : lives_behind lives (marks before after) ≡ left ++ active_lives new =
    behind_append lives (ended before.bearers after.bearers
    ++ cut (nat_lt before.rates after.rates) before.bearers after.bearers) (begun before.bearers after.bearers)
    ∙ ap (λ open_lives. lives_behind open_lives (begun before.bearers after.bearers)) cut_behind ∙ begins.behind in
    record {
      may = all_append lives (ended before.bearers after.bearers
          ++ cut (nat_lt before.rates after.rates) before.bearers after.bearers) (begun before.bearers after.bearers)
          (all_append lives (ended before.bearers after.bearers)
          (cut (nat_lt before.rates after.rates) before.bearers after.bearers) ends.may cuts.0)
          (subst (λ open_lives. AllNow open_lives (begun before.bearers after.bearers)) (sym cut_behind) begins.may);
      now_open = record {
        active = λ life there. elim (in_append life left (active_lives new) (subst (In life) all_behind there)) [
          | inl old ↦ elim (cases_Bool (has_life after.bearers life)) [
            | inl has ↦ of_has after.bearers life has
            | inr none ↦
                let was = are.active life (ends.were life old) in
                let found = of_map life_in life before.bearers was in
                let none_of : has_life after.bearers found.0.life ≡ false =
                ap (has_life after.bearers) found.2 ∙ none in
                let lacking = in_filter (λ (b : ActiveBearer). not (has_life after.bearers b.life)) found.0
                before.bearers found.1
                (not_from_false (has_life after.bearers found.0.life) none_of) in
                absurd (ends.over life old (subst (λ n. In n (active_lives over)) found.2
                (in_map life_in found.0 over lacking)))
          ]
          | inr begins_now ↦ (in_new life begins_now).0
        ];
        opened = λ life there. subst (In life) (sym all_behind) (elim (cases_Bool (has_life before.bearers life)) [
          | inl has ↦ in_left life left (active_lives new)
              (ends.stay life (are.opened life (of_has before.bearers life has))
              (λ among. (in_over life among).1 there))
          | inr none ↦
              let found = of_map life_in life after.bearers there in
              let none_of : has_life before.bearers found.0.life ≡ false =
              ap (has_life before.bearers) found.2 ∙ none in
              let begins_now = in_filter (λ (b : ActiveBearer). not (has_life before.bearers b.life)) found.0
              after.bearers found.1
              (not_from_false (has_life before.bearers found.0.life) none_of) in
              in_right life left (active_lives new) (subst (λ n. In n (active_lives new)) found.2
              (in_map life_in found.0 new begins_now))
        ]);
      };
    }
