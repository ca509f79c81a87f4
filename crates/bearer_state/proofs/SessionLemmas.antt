-- A session keeps its ranges through each change.
use Rattle.std.proofs.Common.{◌≡◌, ℕ, ◌+◌, ◌-◌, ◌<◌, ◌≤◌, ◌^◌, Bool, true, false, if◌then◌else◌, nat_lt, List, [], ◌∷◌, map, refl, ap, arith}
use Rattle.std.specs.List.{AllByRecursion}
use Rattle.std.proofs.lemmas.Bool.Decides.{nat_tests}
use Rattle.pc_base.specs.declared.packet.Peer.{Peer}
use Rattle.tft_codec.specs.declared.filter.Filter.{Filter}
use Rattle.bearer_state.specs.declared.ask.Ask.{Ask}
use Rattle.bearer_state.specs.declared.bearer.Phase.{Phase}
use Rattle.bearer_state.specs.declared.bearer.Phase.TheVariants.{Asked, Active}
use Rattle.bearer_state.specs.declared.bearer.Bearer.{Bearer}
use Rattle.bearer_state.specs.declared.qos.Qos.{Qos}
use Rattle.bearer_state.specs.Bearer.{index_of, is_active, is_asked, is_asked_as}
use Rattle.bearer_state.specs.Lookup.{is_dedicated}
use Rattle.bearer_state.specs.Session.{SessionState, IsSession, IsActivePhase, BeginsWithDefault, HasBearersOf}
use Rattle.bearer_state.specs.Changes.{with_first, without_first, placed, asked_bearer, unbound, rebound_bearer, filtered, granted_bearer, rebound, released, with_asked, granted, denied, refiltered, dropped}
use Rattle.bearer_state.proofs.BearerLemmas.{each_without, each_with, each_mapped, each_implied, each_placed}

-- lives below a bound
abbrev IsBelow : ℕ → Bearer → Type 0
IsBelow lives bearer = bearer.life < lives

begins_if : (passes : Bool) (xs ys : List Bearer) → BeginsWithDefault xs → BeginsWithDefault ys
    → BeginsWithDefault (if passes then xs else ys)
begins_if true xs ys has other = has
begins_if false xs ys has other = other

-- the default bearer stays where each is changed
has_mapped : (change : Bearer → Bearer) → ((b : Bearer) → (index_of b ≡ 0) × IsActivePhase b.phase
    → (index_of (change b) ≡ 0) × IsActivePhase (change b).phase)
    → (live : Bool) (bearers : List Bearer) → HasBearersOf live bearers → HasBearersOf live (map change bearers)
has_mapped change kept false bearers has = ap (map change) has
has_mapped change kept true [] has = elim has [ ]
has_mapped change kept true (b ∷ bs) has = kept b has

-- or the first of some
has_with : (test : Bearer → Bool) (change : Bearer → Bearer)
    → ((b : Bearer) → (index_of b ≡ 0) × IsActivePhase b.phase → (index_of (change b) ≡ 0)
    × IsActivePhase (change b).phase)
    → (live : Bool) (bearers : List Bearer) → HasBearersOf live bearers
    → HasBearersOf live (with_first test change bearers)
has_with test change kept false bearers has = ap (with_first test change) has
has_with test change kept true [] has = elim has [ ]
has_with test change kept true (b ∷ bs) has =
    begins_if (test b) (change b ∷ bs) (b ∷ with_first test change bs) (kept b has) has

-- and where one goes that isn't the default bearer
has_without : (test : Bearer → Bool) → ((b : Bearer) → (index_of b ≡ 0) × IsActivePhase b.phase → test b ≡ false)
    → (live : Bool) (bearers : List Bearer) → HasBearersOf live bearers → HasBearersOf live (without_first test bearers)
has_without test other false bearers has = ap (without_first test) has
has_without test other true [] has = elim has [ ]
has_without test other true (b ∷ bs) has = rw (other b has) has

-- or one comes
has_placed : (new : Bearer) (bearers : List Bearer) → BeginsWithDefault bearers → BeginsWithDefault (placed new bearers)
has_placed new [] has = elim has [ ]
has_placed new (b ∷ bs) has =
    let behind : nat_lt (index_of new) (index_of b) ≡ false = grind (arith, nat_tests, has.0) in
    rw behind has

active_not_asked : (seq : ℕ) (phase : Phase) → IsActivePhase phase → is_asked_as seq phase ≡ false
active_not_asked seq (Asked own) active = elim active [ ]
active_not_asked seq (Active ebi) active = refl

first_not_dedicated : (ebi : ℕ) (b : Bearer) → index_of b ≡ 0 → is_dedicated ebi b ≡ false
first_not_dedicated ebi b first = grind (arith, nat_tests, first)

with_bearers : (session : SessionState) (bearers : List Bearer) → IsSession session
    → AllByRecursion (IsBelow session.lives) bearers
    → HasBearersOf session.live bearers → IsSession (record session { bearers = bearers })
with_bearers session bearers fits below has = record {
  up = fits.up;
  down = fits.down;
  rates = fits.rates;
  lives = fits.lives;
  lives_below = below;
  bearers = has;
  last = fits.last;
}

pub released_fits : (session : SessionState) → IsSession session → IsSession (released session)
released_fits session fits =
    with_bearers session (map unbound session.bearers) fits
    (each_mapped (IsBelow session.lives) unbound (λ b below. below) session.bearers fits.lives_below)
    (has_mapped unbound (λ b has. has) session.live session.bearers fits.bearers)

pub rebound_fits : (session : SessionState) (asks : List Ask) → IsSession session → IsSession (rebound session asks)
rebound_fits session asks fits =
    with_bearers session (map (rebound_bearer asks) session.bearers) fits
    (each_mapped (IsBelow session.lives) (rebound_bearer asks) (λ b below. below) session.bearers fits.lives_below)
    (has_mapped (rebound_bearer asks) (λ b has. has) session.live session.bearers fits.bearers)

pub refiltered_fits : (session : SessionState) (ebi : ℕ) (filters : List Filter) → IsSession session
    → IsSession (refiltered session ebi filters)
refiltered_fits session ebi filters fits =
    with_bearers session (with_first (is_active ebi) (filtered filters) session.bearers) fits
    (each_with (IsBelow session.lives) (is_active ebi) (filtered filters)
    (λ b below. below) session.bearers fits.lives_below)
    (has_with (is_active ebi) (filtered filters) (λ b has. has) session.live session.bearers fits.bearers)

pub granted_fits : (session : SessionState) (seq ebi : ℕ) (enb : Peer) → IsSession session
    → IsSession (granted session seq ebi enb)
granted_fits session seq ebi enb fits =
    with_bearers session (with_first (is_asked seq) (granted_bearer ebi enb) session.bearers) fits
    (each_with (IsBelow session.lives) (is_asked seq) (granted_bearer ebi enb)
    (λ b below. below) session.bearers fits.lives_below)
    (has_with (is_asked seq) (granted_bearer ebi enb) (λ b has. (has.0, tt)) session.live session.bearers fits.bearers)

pub denied_fits : (session : SessionState) (seq : ℕ) → IsSession session → IsSession (denied session seq)
denied_fits session seq fits =
    with_bearers session (without_first (is_asked seq) session.bearers) fits
    (each_without (IsBelow session.lives) (is_asked seq) session.bearers fits.lives_below)
    (has_without (is_asked seq) (λ b has. active_not_asked seq b.phase has.1) session.live session.bearers fits.bearers)

pub dropped_fits : (session : SessionState) (ebi : ℕ) → IsSession session → IsSession (dropped session ebi)
dropped_fits session ebi fits =
    with_bearers session (without_first (is_dedicated ebi) session.bearers) fits
    (each_without (IsBelow session.lives) (is_dedicated ebi) session.bearers fits.lives_below)
    (has_without (is_dedicated ebi) (λ b has. first_not_dedicated ebi b has.0) session.live session.bearers
    fits.bearers)

placed_if_live : (new : Bearer) (live : Bool) (bearers : List Bearer) → live ≡ true → HasBearersOf live bearers
    → HasBearersOf live (placed new bearers)
placed_if_live new true bearers is has = has_placed new bearers has
placed_if_live new false bearers is has = cc

pub asked_fits : (session : SessionState) (index seq : ℕ) (qos : Qos) (filters : List Filter) → IsSession session
    → session.live ≡ true
    → session.lives ≤ 2 ^ 61 - 20 → IsSession (with_asked session index seq qos filters)
asked_fits session index seq qos filters fits live few =
    let new : Bearer = asked_bearer session.lives index seq qos filters in
    let newest : IsBelow (session.lives + 1) new = omega arith in
    record {
      up = fits.up;
      down = fits.down;
      rates = fits.rates;
      lives = omega arith;
      lives_below = each_placed (IsBelow (session.lives + 1)) new session.bearers newest
          (each_implied (IsBelow session.lives) (IsBelow (session.lives + 1))
          (λ b below. omega (arith, below)) session.bearers fits.lives_below);
      bearers = placed_if_live new session.live session.bearers live fits.bearers;
      last = fits.last;
    }
