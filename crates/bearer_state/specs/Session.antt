-- A session as contracts see it, and the ranges that it keeps.
use Rattle.std.specs.Prelude.{◌≡◌, ℕ, ◌-◌, ◌<◌, ◌≤◌, ◌^◌, Bool, true, false, List, [], ◌∷◌}
use Rattle.std.specs.Prelude.{length, Option, None, IfSome}
use Rattle.std.specs.List.{AllByRecursion}
use Rattle.pc_base.specs.declared.packet.Peer.{Peer}
use Rattle.bearer_state.specs.declared.bearer.Phase.{Phase}
use Rattle.bearer_state.specs.declared.bearer.Phase.TheVariants.{Asked, Active}
use Rattle.bearer_state.specs.declared.bearer.Bearer.{Bearer}
use Rattle.bearer_state.specs.declared.kept.Kept.{Kept}
use Rattle.bearer_state.specs.Bearer.{index_of, IsSeq}

pub record SessionState : Type 0 where
  pub slot : ℕ
  pub live : Bool
  pub mme : Option Peer
  pub up : ℕ
  pub down : ℕ
  pub rates : ℕ
  pub bearers : List Bearer
  pub lives : ℕ
  pub last : Option Kept

-- before its first command a slot isn't live
abbrev pub new_session : ℕ → SessionState
new_session slot = record {
  slot = slot;
  live = false;
  mme = None;
  up = 0;
  down = 0;
  rates = 0;
  bearers = [];
  lives = 0;
  last = None;
}

-- the rates of an APN-AMBR have four octets (TS 29.274, 8.7)
abbrev pub IsAmbr : ℕ → Type 0
IsAmbr kbps = kbps < 2 ^ 32

abbrev pub IsActivePhase : Phase → Type 0
IsActivePhase (Asked seq) = ⊥
IsActivePhase (Active ebi) = Unit {0}

-- the default bearer is there, first and active
abbrev pub BeginsWithDefault : List Bearer → Type 0
BeginsWithDefault [] = ⊥
BeginsWithDefault (bearer ∷ bearers) = (index_of bearer ≡ 0) × IsActivePhase bearer.phase

-- a live session has its default bearer, another has no bearers
abbrev pub HasBearersOf : Bool → List Bearer → Type 0
HasBearersOf true bearers = BeginsWithDefault bearers
HasBearersOf false bearers = bearers ≡ []

pub record IsKept (kept : Kept) : Type 0 where
  pub seq : IsSeq kept.seq
  pub reply : 0 < length kept.reply

-- the ranges between the fields; the bearers keep their own
pub record IsSession (session : SessionState) : Type 0 where
  pub up : IsAmbr session.up
  pub down : IsAmbr session.down
  pub rates : session.rates ≤ 2 ^ 61
  pub lives : session.lives ≤ 2 ^ 61
  pub lives_below : AllByRecursion (λ bearer. bearer.life < session.lives) session.bearers
  pub bearers : HasBearersOf session.live session.bearers
  pub last : IfSome session.last IsKept

-- the counts may rise
pub record HasRoom (session : SessionState) : Type 0 where
  pub rates : session.rates ≤ 2 ^ 61 - 20
  pub lives : session.lives ≤ 2 ^ 61 - 20
