-- What is decided of a packet before it is done.
use Rattle.std.specs.Prelude.{◌≡◌, ℕ, Bool, true, false, List, [], ◌∷◌, ◌++◌}
use Rattle.std.specs.List.{Contains}
use Rattle.pc_base.specs.declared.packet.Packet.{Packet}
use Rattle.pc_base.specs.declared.packet.Verdict.{Verdict}
use Rattle.pc_base.specs.declared.packet.Verdict.TheVariants as verdict
use Rattle.rate_policer.specs.Buckets.{BucketState}
use Rattle.bearer_state.specs.declared.version.ActiveBearer.{ActiveBearer}
use Rattle.packet_steps.specs.declared.plan.Plan.{Plan}
use Rattle.packet_steps.specs.declared.plan.Plan.TheVariants as plan
use Rattle.packet_steps.specs.Messages.{gpdu}
use Rattle.packet_steps.specs.Past.{Past, moment_of, row_for, with_row, with_held}
use Rattle.packet_steps.specs.Policing.{rate_for, history_for, passes}
use Rattle.packet_steps.specs.Meters.{Polices}

-- a bucket behind octets that pass
abbrev pub PolicesBehind : Past → ActiveBearer → Bool → ℕ → BucketState → Type 0
PolicesBehind past bearer up octets bucket =
    Polices bucket (rate_for past.version bearer up)
    (history_for past.version bearer up (past.forwarded ++ row_for past bearer up octets ∷ [])) (moment_of past)

-- a bucket that polices what a bearer's did before octets that don't pass
abbrev pub PolicesStill : Past → ActiveBearer → Bool → BucketState → Type 0
PolicesStill past bearer up bucket =
    Polices bucket (rate_for past.version bearer up) (history_for past.version bearer up past.forwarded)
    (moment_of past)

-- octets of a bearer were tried: whether they pass, and the bucket that is left
pub record Tries (past : Past) (bearer : ActiveBearer) (up : Bool) (octets : ℕ) (tried : Bool × BucketState) :
    Type 0 where
  pub answer : passes past bearer up octets ≡ tried.0
  pub behind : tried.0 ≡ true → PolicesBehind past bearer up octets tried.1
  pub still : tried.0 ≡ false → PolicesStill past bearer up tried.1

-- octets pass, and this is the past behind them
pub record Passes (past : Past) (bearer : ActiveBearer) (up : Bool) (octets : ℕ) (bucket : BucketState)
    (next : Past) : Type 0 where
  pub next_is : next ≡ with_row past (row_for past bearer up octets)
  pub there : Contains past.version.bearers bearer
  pub behind : PolicesBehind past bearer up octets bucket

-- octets don't pass, and the past stays
pub record Refuses (past : Past) (bearer : ActiveBearer) (up : Bool) (bucket : BucketState) (next : Past) : Type 0 where
  pub next_is : next ≡ past
  pub there : Contains past.version.bearers bearer
  pub still : PolicesStill past bearer up bucket

-- the verdict of a plan on these octets
abbrev pub verdict_by : Plan → List ℕ → Verdict
verdict_by plan.NoBearer octets = verdict.NoBearer
verdict_by plan.Spoof octets = verdict.Spoof
verdict_by (plan.Idle life) octets = verdict.Idle life
verdict_by (plan.Hold life message) octets = verdict.Held life message
verdict_by (plan.Policed bearer up bucket) octets = verdict.Policed bearer.life
verdict_by (plan.Up bearer bucket len) octets = verdict.Up bearer.life octets
verdict_by (plan.Down bearer peer bucket len) octets = verdict.Down bearer.life peer.addr (gpdu peer octets)

-- what a plan makes of a past
abbrev pub Does : Plan → Past → Packet → Past → Type 0
Does plan.NoBearer past packet next = next ≡ past
Does plan.Spoof past packet next = next ≡ past
Does (plan.Idle life) past packet next = next ≡ past
Does (plan.Hold life message) past packet next = next ≡ with_held past (record { packet = packet; life = life })
Does (plan.Policed bearer up bucket) past packet next = Refuses past bearer up bucket next
Does (plan.Up bearer bucket len) past packet next = Passes past bearer true len bucket next
Does (plan.Down bearer peer bucket len) past packet next = Passes past bearer false len bucket next

-- a plan is this past and verdict, of a packet
pub record Plans (past : Past) (packet : Packet) (outcome : Past × Verdict) (p : Plan) : Type 0 where
  pub verdict_is : verdict_by p packet.octets ≡ outcome.1
  pub does : Does p past packet outcome.0
