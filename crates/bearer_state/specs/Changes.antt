-- What a session becomes: each change that a command may ask for, of the fields that it names.
use Rattle.std.specs.Prelude.{ℕ, ◌+◌, Bool, true, false, nat_lt, List, [], ◌∷◌, map, Option, Some}
use Rattle.std.specs.Prelude.{None, if◌then◌else◌}
use Rattle.std.specs.Option.{option_or, option_and_then}
use Rattle.pc_base.specs.declared.packet.Peer.{Peer}
use Rattle.tft_codec.specs.declared.filter.Filter.{Filter}
use Rattle.tft_codec.specs.declared.tft.BearerFilters.{BearerFilters}
use Rattle.bearer_state.specs.declared.ask.Ask.{Ask}
use Rattle.bearer_state.specs.declared.bearer.Phase.{Phase}
use Rattle.bearer_state.specs.declared.bearer.Phase.TheVariants.{Asked, Active}
use Rattle.bearer_state.specs.declared.bearer.Bearer.{Bearer}
use Rattle.bearer_state.specs.declared.kept.Kept.{Kept}
use Rattle.bearer_state.specs.declared.qos.Qos.{Qos}
use Rattle.bearer_state.specs.Ask.{ask_for}
use Rattle.bearer_state.specs.Bearer.{index_of, is_active, is_asked}
use Rattle.bearer_state.specs.Lookup.{is_dedicated}
use Rattle.bearer_state.specs.Session.{SessionState}

-- the first element that passes a test, changed; and a list without it
abbrev pub with_first : {X : Type 0} → (X → Bool) → (X → X) → List X → List X
with_first test change [] = []
with_first test change (x ∷ xs) = if test x then change x ∷ xs else x ∷ with_first test change xs

abbrev pub without_first : {X : Type 0} → (X → Bool) → List X → List X
without_first test [] = []
without_first test (x ∷ xs) = if test x then xs else x ∷ without_first test xs

-- a bearer in its place among others, by index
abbrev pub placed : Bearer → List Bearer → List Bearer
placed new [] = new ∷ []
placed new (bearer ∷ bearers) =
    if nat_lt (index_of new) (index_of bearer) then new ∷ bearer ∷ bearers else bearer ∷ placed new bearers

-- a bearer of an index without filters, and without an eNodeB for now
abbrev pub no_filters : ℕ → BearerFilters
no_filters index = record { index = index; filters = [] }

-- the default bearer
abbrev pub default_bearer : ℕ → ℕ → Qos → Option Peer → Bearer
default_bearer life ebi qos enb =
    record { life = life; phase = Active ebi; qos = qos; enb = enb; choice = no_filters 0 }

-- a bearer that the MME is asked for
abbrev pub asked_bearer : ℕ → ℕ → ℕ → Qos → List Filter → Bearer
asked_bearer life index seq qos filters = record {
  life = life;
  phase = Asked seq;
  qos = qos;
  enb = None;
  choice = record { index = index; filters = filters };
}

-- changes of one bearer
abbrev pub unbound : Bearer → Bearer
unbound bearer = record bearer { enb = None }

abbrev pub filtered : List Filter → Bearer → Bearer
filtered filters bearer = record bearer { choice = record { index = index_of bearer; filters = filters } }

abbrev pub granted_bearer : ℕ → Peer → Bearer → Bearer
granted_bearer ebi enb bearer = record bearer { phase = Active ebi; enb = Some enb }

-- an active bearer takes the eNodeB of the ask for its EBI, where there is an ask that names one
abbrev pub enb_asked : List Ask → Phase → Option Peer
enb_asked asks (Asked seq) = None
enb_asked asks (Active ebi) = option_and_then (λ (ask : Ask). ask.enb) (ask_for asks ebi)

abbrev pub rebound_bearer : List Ask → Bearer → Bearer
rebound_bearer asks bearer = record bearer { enb = option_or (enb_asked asks bearer.phase) bearer.enb }

-- attached, once more or for the first time (TS 23.401, 5.3.2): all bearers go, the rates are set, and
-- the default bearer comes with the next life
abbrev pub attached : SessionState → Option Peer → ℕ → ℕ → ℕ → Qos → Option Peer → SessionState
attached session mme up down ebi qos enb = record session {
  live = true;
  mme = mme;
  up = up;
  down = down;
  rates = session.rates + 1;
  bearers = default_bearer session.lives ebi qos enb ∷ [];
  lives = session.lives + 1;
}

-- detached (5.3.8): all bearers go, the MME too
abbrev pub detached : SessionState → SessionState
detached session = record session { live = false; mme = None; bearers = [] }

-- other rates (5.4.2)
abbrev pub rerated : SessionState → ℕ → ℕ → SessionState
rerated session up down = record session { up = up; down = down; rates = session.rates + 1 }

-- other eNodeBs, by asks (5.4.7, 5.5.1): a path switch, or a service request
abbrev pub rebound : SessionState → List Ask → SessionState
rebound session asks = record session { bearers = map (rebound_bearer asks) session.bearers }

-- idle (5.3.5): no bearer has an eNodeB
abbrev pub released : SessionState → SessionState
released session = record session { bearers = map unbound session.bearers }

-- one bearer more, of an index and the next life, that the MME is asked for (5.4.1)
abbrev pub with_asked : SessionState → ℕ → ℕ → Qos → List Filter → SessionState
with_asked session index seq qos filters = record session {
  bearers = placed (asked_bearer session.lives index seq qos filters) session.bearers;
  lives = session.lives + 1;
}

-- the first bearer that was asked for so is active from now on; or it goes
abbrev pub granted : SessionState → ℕ → ℕ → Peer → SessionState
granted session seq ebi enb =
    record session { bearers = with_first (is_asked seq) (granted_bearer ebi enb) session.bearers }

abbrev pub denied : SessionState → ℕ → SessionState
denied session seq = record session { bearers = without_first (is_asked seq) session.bearers }

-- other filters of an active bearer (5.4.3)
abbrev pub refiltered : SessionState → ℕ → List Filter → SessionState
refiltered session ebi filters =
    record session { bearers = with_first (is_active ebi) (filtered filters) session.bearers }

-- an active bearer goes that isn't the default one (5.4.4)
abbrev pub dropped : SessionState → ℕ → SessionState
dropped session ebi = record session { bearers = without_first (is_dedicated ebi) session.bearers }

-- the MME is replaced where one is given
abbrev pub with_mme : SessionState → Option Peer → SessionState
with_mme session mme = record session { mme = option_or mme session.mme }

-- another answer is kept
abbrev pub keeping : SessionState → Kept → SessionState
keeping session kept = record session { last = Some kept }
