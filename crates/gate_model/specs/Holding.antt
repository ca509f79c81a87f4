-- What becomes of held packets.
use Rattle.std.specs.Prelude.{◌≡◌, ℕ, ◌+◌, ◌==◌, ◌&&◌, Bool, true, false, List, count_by, sum_by}
use Rattle.pc_base.specs.declared.effect.Effect.{Effect}
use Rattle.pc_base.specs.declared.effect.Effect.TheVariants as effect
use Rattle.pc_base.specs.declared.packet.Verdict.{Verdict}
use Rattle.pc_base.specs.declared.packet.Verdict.TheVariants as verdict
use Rattle.packet_steps.specs.Rows.{HeldRow}
use Rattle.gate_model.specs.declared.event.Event.{Event}
use Rattle.gate_model.specs.declared.event.Event.TheVariants as event
use Rattle.gate_model.specs.declared.event.Happened.{Happened}
use Rattle.gate_model.specs.declared.event.Happened.TheVariants.{Replied, Judged}
use Rattle.gate_model.specs.SlotPast.{past_of}
use Rattle.gate_model.specs.Stories.{Episode, story_of}

-- whether a verdict is that a packet is held
abbrev pub is_held : Verdict → Bool
is_held verdict.NoBearer = false
is_held verdict.Spoof = false
is_held (verdict.Up life octets) = false
is_held (verdict.Down life peer octets) = false
is_held (verdict.Idle life) = false
is_held (verdict.Held life message) = true
is_held (verdict.Policed life) = false

-- whether a packet of a number was held at an event
abbrev pub holds_at : ℕ → Event → Happened → Bool
holds_at number (event.Packet packet) (Judged verdict_) = packet.number == number && is_held verdict_
holds_at number (event.Packet packet) (Replied reply effects) = false
holds_at number (event.Command command) happened = false

abbrev pub holds : ℕ → Episode → Bool
holds number told = holds_at number told.event told.happened

-- whether an effect is the fate of a packet of a number, and how many of a command's effects are
abbrev pub is_fate_of : ℕ → Effect → Bool
is_fate_of number (effect.Marker life peer octets) = false
is_fate_of number (effect.Fate packet fate) = packet == number

abbrev pub fates_in : ℕ → List Effect → ℕ
fates_in number effects = count_by (is_fate_of number) effects

abbrev pub fates_at : ℕ → Happened → ℕ
fates_at number (Replied reply effects) = fates_in number effects
fates_at number (Judged verdict_) = 0

-- how many packets of a number are held
abbrev pub waiting : ℕ → List HeldRow → ℕ
waiting number rows = count_by (λ (row : HeldRow). row.packet.number == number) rows

-- As often as a packet of a number was held, it had its fate, or it is still held. So a packet that was held once has
-- one fate or is held still.
abbrev pub EachHeldPacketOnce : Type 0
EachHeldPacketOnce = (slot : ℕ) (events : List Event) (number : ℕ)
    → count_by (holds number) (story_of slot events)
    ≡ sum_by (λ (told : Episode). fates_at number told.happened) (story_of slot events)
    + waiting number (past_of slot events).packets.held
