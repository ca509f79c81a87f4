-- The version of a session in its ranges is in its own.
use Rattle.std.proofs.Common.{◌≡◌, ℕ, ◌<◌, ◌≤◌, ◌^◌, Bool, true, false, List, [], ◌∷◌, map, IfSome, refl, ap, arith}
use Rattle.std.specs.List.{AllByRecursion, cons_option}
use Rattle.tft_codec.specs.declared.tft.BearerFilters.{BearerFilters}
use Rattle.bearer_state.specs.declared.bearer.Phase.{Phase}
use Rattle.bearer_state.specs.declared.bearer.Phase.TheVariants.{Asked, Active}
use Rattle.bearer_state.specs.declared.bearer.Bearer.{Bearer}
use Rattle.bearer_state.specs.declared.version.ActiveBearer.{ActiveBearer}
use Rattle.bearer_state.specs.Bearer.{IsBearer, IsBefore, IsPhase, EbisDiffer, AreBearers}
use Rattle.bearer_state.specs.Session.{SessionState, IsSession, HasBearersOf}
use Rattle.bearer_state.specs.Version.{active_in, row_in, actives, rows_of, version_of, IsActiveBearer, IsActiveBefore, IsVersion}
use Rattle.bearer_state.proofs.ListLemmas.{each_given, pairs_given}

-- a bearer in its ranges, of a life that the session had
record IsLived (lives : ℕ) (bearer : Bearer) : Type 0 where
  is_bearer : IsBearer bearer
  life : bearer.life < lives

both : (lives : ℕ) (bearers : List Bearer) → AllByRecursion IsBearer bearers
    → AllByRecursion (λ (b : Bearer). b.life < lives) bearers
    → AllByRecursion (IsLived lives) bearers
both lives [] each below = tt
both lives (b ∷ bs) each below = (record { is_bearer = each.0; life = below.0 }, both lives bs each.1 below.1)

active_fits : (lives : ℕ) → lives ≤ 2 ^ 61 → (bearer : Bearer) (phase : Phase) → IsPhase phase → IsLived lives bearer
    → IfSome (active_in bearer phase) IsActiveBearer
active_fits lives few bearer (Asked seq) fits lived = tt
active_fits lives few bearer (Active ebi) fits lived =
    record { index = lived.is_bearer.index; life = omega (arith, lived.life); ebi = fits; qos = lived.is_bearer.qos }

active_before : (bearer other : Bearer) (phase other_phase : Phase) → IsBefore bearer other
    → EbisDiffer phase other_phase
    → IfSome (active_in bearer phase) (λ b. IfSome (active_in other other_phase) (IsActiveBefore b))
active_before bearer other (Asked seq) other_phase before differ = tt
active_before bearer other (Active ebi) (Asked seq) before differ = tt
active_before bearer other (Active ebi) (Active other_ebi) before differ =
    record { indices_rise = before.indices_rise; lives_differ = before.lives_differ; ebis_differ = differ }

one_row : (bearer : Bearer) (phase : Phase) (rows : List BearerFilters) (bearers : List ActiveBearer)
    → map (λ (row : BearerFilters). row.index) rows ≡ map (λ (b : ActiveBearer). b.index) bearers
    → map (λ (row : BearerFilters). row.index) (cons_option (row_in bearer phase) rows)
    ≡ map (λ (b : ActiveBearer). b.index) (cons_option (active_in bearer phase) bearers)
one_row bearer (Asked seq) rows bearers same = same
one_row bearer (Active ebi) rows bearers same = ap (λ indices. bearer.choice.index ∷ indices) same

same_rows : (bearers : List Bearer) → map (λ (row : BearerFilters). row.index) (rows_of bearers)
    ≡ map (λ (b : ActiveBearer). b.index) (actives bearers)
same_rows [] = refl
same_rows (b ∷ bs) = one_row b b.phase (rows_of bs) (actives bs) (same_rows bs)

no_actives : (live : Bool) (bearers : List Bearer) → HasBearersOf live bearers → live ≡ false → actives bearers ≡ []
no_actives true bearers has not_live = cc
no_actives false bearers has not_live = ap actives has

pub version_fits : (session : SessionState) (number : ℕ) → IsSession session → AreBearers session.bearers
    → number ≤ 2 ^ 61 → IsVersion (version_of session number)
version_fits session number fits are few = record {
  number = few;
  up = fits.up;
  down = fits.down;
  rates = fits.rates;
  each = each_given (IsLived session.lives) IsActiveBearer (λ (b : Bearer). active_in b b.phase)
      (λ b lived. active_fits session.lives fits.lives b b.phase lived.is_bearer.phase lived)
      session.bearers (both session.lives session.bearers are.each fits.lives_below);
  apart = pairs_given IsBefore IsActiveBefore (λ (b : Bearer). active_in b b.phase)
      (λ b c before. active_before b c b.phase c.phase before before.ebis_differ) session.bearers are.apart;
  rows = same_rows session.bearers;
  none_if_not_live = no_actives session.live session.bearers fits.bearers;
}
