-- What is remembered of a slot is in range, where its events are.
use Rattle.std.proofs.Common.{◌≡◌, ℕ, ◌<◌, ◌^◌, List, [], ◌∷◌, ◌++◌, length, refl, sym, ap, subst, arith, append_assoc, append-nil, length-append, inl, inr}
use Rattle.std.specs.List.{AllByRecursion, cons_option}
use Rattle.bearer_state.specs.Session.{SessionState}
use Rattle.bearer_state.specs.Version.{active_in, actives}
use Rattle.bearer_state.specs.declared.bearer.Bearer.{Bearer}
use Rattle.bearer_state.specs.declared.bearer.Phase.{Phase}
use Rattle.bearer_state.specs.declared.bearer.Phase.TheVariants.{Asked, Active}
use Rattle.bearer_state.specs.declared.version.ActiveBearer.{ActiveBearer}
use Rattle.control_steps.specs.Row.{row_of}
use Rattle.control_steps.specs.declared.command.CommandKind.{CommandKind}
use Rattle.gate_model.specs.SlotPast.{SlotPast, commanded, effects_after, happens, met, next_session, next_version, past_of}
use Rattle.gate_model.specs.declared.event.Event.{Event}
use Rattle.gate_model.specs.declared.event.Event.TheVariants as event
use Rattle.gate_model.proofs.Following.{past-append}
use Rattle.gate_model.proofs.Members.{In}
use Rattle.gate_model.proofs.RoomLemmas.{counts_within}
use Rattle.gate_model.proofs.Sound.{past_sound}
use Rattle.packet_steps.specs.Change.{learnt}
use Rattle.pc_base.specs.declared.packet.Packet.{Packet}
use Rattle.report_lines.specs.Ranges.{IsEffect}
use Rattle.demux.specs.Ranges.{IsCommandInRange}
use Rattle.lawful_run.specs.RangeLaws.{EventsLeadInRange}
use Rattle.lawful_run.specs.Ranges.{ActiveIn, BearerIn, EventIn, PacketIn, PacketsIn, PastIn, PhaseIn, SessionIn}
use Rattle.lawful_run.proofs.PacketsIn.{judged_in, learnt_in}
use Rattle.lawful_run.proofs.SessionsIn.{session_in}

pub new_in : (slot : ℕ) → PastIn (past_of slot [])
new_in slot = record {
  session = record { bearers = tt; last = tt };
  packets = record { bearers = tt; held = tt; last = tt; charged = tt };
}

-- active bearers
active_one : (b : Bearer) (phase : Phase) (rest : List ActiveBearer) → BearerIn b → PhaseIn phase → b.life < 2 ^ 40
    → AllByRecursion ActiveIn rest → AllByRecursion ActiveIn (cons_option (active_in b phase) rest)
active_one b (Asked seq) rest is phase life all = all
active_one b (Active ebi) rest is phase life all =
    (record { life = life; ebi = phase; qci = is.qci; enb = is.enb }, all)

actives_in : (bearers : List Bearer) → AllByRecursion BearerIn bearers
    → ((b : Bearer) → In b bearers → b.life < 2 ^ 40) → AllByRecursion ActiveIn (actives bearers)
actives_in [] all lives = tt
actives_in (b ∷ bearers) all lives =
    let own : BearerIn b = all.0 in
    active_one b b.phase (actives bearers) own own.phase (lives b (inl refl))
    (actives_in bearers all.1 (λ other there. lives other (inr there)))

-- one event more
behind_command : (slot : ℕ) (before : List Event) (c : CommandKind)
    → past_of slot (before ++ event.Command c ∷ []) ≡ commanded (past_of slot before) c
unfolding happens
behind_command slot before c = past-append slot before (event.Command c ∷ [])

behind_packet : (slot : ℕ) (before : List Event) (p : Packet)
    → past_of slot (before ++ event.Packet p ∷ []) ≡ met (past_of slot before) p
unfolding happens
behind_packet slot before p = past-append slot before (event.Packet p ∷ [])

lives_few : (slot : ℕ) (events : List Event) → length events < 2 ^ 40
    → (b : Bearer) → In b (past_of slot events).session.bearers → b.life < 2 ^ 40
lives_few slot events few b there =
    let below = (past_sound slot events).lived.below b there in
    let most = (counts_within slot events).lives in
    omega (arith, few, below, most)

command_active : (slot : ℕ) (before : List Event) (c : CommandKind) → length (before ++ event.Command c ∷ []) < 2 ^ 40
    → SessionIn (next_session (past_of slot before) c)
    → AllByRecursion ActiveIn (next_version (past_of slot before) c).bearers
command_active slot before c few is =
    let same : (past_of slot (before ++ event.Command c ∷ [])).session ≡ next_session (past_of slot before) c =
    ap (λ (past : SlotPast). past.session) (behind_command slot before c) in
    actives_in (next_session (past_of slot before) c).bearers is.bearers
    (subst (λ (s : SessionState). (b : Bearer) → In b s.bearers → b.life < 2 ^ 40) same
    (lives_few slot (before ++ event.Command c ∷ []) few))

pub command_session : (slot : ℕ) (before : List Event) (c : CommandKind) → PastIn (past_of slot before)
    → IsCommandInRange c → SessionIn (next_session (past_of slot before) c)
command_session slot before c is own =
    session_in (row_of (past_of slot before).session c) (past_of slot before).session c is.session own

pub learnt_now : (slot : ℕ) (before : List Event) (c : CommandKind) → length (before ++ event.Command c ∷ []) < 2 ^ 40
    → PastIn (past_of slot before) → IsCommandInRange c
    → PacketsIn (learnt (past_of slot before).packets (next_version (past_of slot before) c)).0
    × AllByRecursion IsEffect (effects_after slot before c)
learnt_now slot before c few is own =
    learnt_in (past_of slot before).packets (next_version (past_of slot before) c) is.packets
    (command_active slot before c few (command_session slot before c is own))

pub command_in : (slot : ℕ) (before : List Event) (c : CommandKind) → length (before ++ event.Command c ∷ []) < 2 ^ 40
    → PastIn (past_of slot before) → IsCommandInRange c → PastIn (past_of slot (before ++ event.Command c ∷ []))
command_in slot before c few is own =
    subst PastIn (sym (behind_command slot before c)) (record {
      session = command_session slot before c is own;
      packets = (learnt_now slot before c few is own).0;
    })

pub packet_in : (slot : ℕ) (before : List Event) (p : Packet) → PastIn (past_of slot before) → PacketIn p
    → PastIn (past_of slot (before ++ event.Packet p ∷ []))
packet_in slot before p is own =
    subst PastIn (sym (behind_packet slot before p))
    (record { session = is.session; packets = (judged_in (past_of slot before).packets p is.packets own).0 })

pub prefix_few : (before : List Event) (e : Event) (events : List Event) → length (before ++ e ∷ events) < 2 ^ 40
    → (length before < 2 ^ 40) × (length (before ++ e ∷ []) < 2 ^ 40) × (length ((before ++ e ∷ []) ++ events) < 2 ^ 40)
prefix_few before e events few = (
  omega (arith, few, length-append before (e ∷ events)),
  omega (arith, few, length-append before (e ∷ events), length-append before (e ∷ [])),
  omega (arith, few, ap (λ (es : List Event). length es) (append_assoc before (e ∷ []) events)),
)

pub past_in : (slot : ℕ) (before events : List Event) → length (before ++ events) < 2 ^ 40 → PastIn (past_of slot before)
    → AllByRecursion EventIn events → PastIn (past_of slot (before ++ events))
past_in slot before [] few is all = subst (λ (es : List Event). PastIn (past_of slot es)) (sym (append-nil before)) is
past_in slot before (event.Command c ∷ events) few is all =
    let e : Event = event.Command c in
    let fewer = prefix_few before e events few in
    subst (λ (es : List Event). PastIn (past_of slot es)) (append_assoc before (e ∷ []) events)
    (past_in slot (before ++ e ∷ []) events fewer.2 (command_in slot before c fewer.1 is all.0) all.1)
past_in slot before (event.Packet p ∷ events) few is all =
    let e : Event = event.Packet p in
    let fewer = prefix_few before e events few in
    subst (λ (es : List Event). PastIn (past_of slot es)) (append_assoc before (e ∷ []) events)
    (past_in slot (before ++ e ∷ []) events fewer.2 (packet_in slot before p is all.0) all.1)

pub lead_in : EventsLeadInRange
lead_in slot events few all = past_in slot [] events few (new_in slot) all
