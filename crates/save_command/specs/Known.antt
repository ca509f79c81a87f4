-- What a subscriber keeps by its types.
use Rattle.std.specs.Prelude.{◌<◌, ◌^◌, All, IfSome, IsTrue}
use Rattle.bearer_state.specs.declared.kept.Kept.{Kept}
use Rattle.bearer_state.specs.Bearer.{AreBearers}
use Rattle.bearer_state.specs.Session.{IsSession, SessionState}
use Rattle.packet_steps.specs.Rows.{held_in_order}
use Rattle.subscriber.specs.Standing.{SubscriberState}
use Rattle.record_codec.specs.Saved.{IsOwnBearer, IsPeer}

-- a kept answer's type has one octet
abbrev pub IsKind : Kept → Type 0
IsKind kept = kept.kind < 2 ^ 8

-- the numbers of a session that its fields' types bound
pub record HasNumbers (session : SessionState) : Type 0 where
  pub mme : IfSome session.mme IsPeer
  pub kind : IfSome session.last IsKind

-- its ranges, and that held packets are in order
pub record IsKnown (one : SubscriberState) : Type 0 where
  pub session : IsSession one.session
  pub bearers : AreBearers one.session.bearers
  pub own : All IsOwnBearer one.session.bearers
  pub numbers : HasNumbers one.session
  pub ordered : IsTrue (held_in_order one.counters.last one.counters.held)
