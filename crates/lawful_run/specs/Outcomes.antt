-- What the one-thread gateway makes of the events of a slot behind those before them.
use Rattle.std.specs.Prelude.{ℕ, List, [], ◌∷◌, ◌++◌, length, map}
use Rattle.pc_base.specs.declared.effect.Effect.{Effect}
use Rattle.pc_base.specs.declared.packet.Verdict.{Verdict}
use Rattle.pc_base.specs.declared.reply.Reply.{Reply}
use Rattle.bearer_state.specs.declared.version.ActiveBearer.{ActiveBearer}
use Rattle.charging_book.specs.Happenings.{open_at}
use Rattle.charging_book.specs.Rows.{Counters}
use Rattle.gate_model.specs.Events.{commands_of}
use Rattle.gate_model.specs.SlotPast.{reply_after, effects_after, verdict_after, records_made, past_of, version_after}
use Rattle.gate_model.specs.declared.event.Event.{Event}
use Rattle.gate_model.specs.declared.event.Event.TheVariants as event
use Rattle.report_lines.specs.Records.{Effected}
use Rattle.report_lines.specs.declared.entry.ChargeEntry.{ChargeEntry}
use Rattle.report_lines.specs.declared.entry.ChargeEntry.TheVariants.{R, O}

-- the replies to its commands, and the verdicts on its packets
abbrev pub replies : ℕ → List Event → List Event → List Reply
replies slot before [] = []
replies slot before (event.Command c ∷ events) =
    reply_after slot before c ∷ replies slot (before ++ event.Command c ∷ []) events
replies slot before (event.Packet p ∷ events) = replies slot (before ++ event.Packet p ∷ []) events

abbrev pub verdicts : ℕ → List Event → List Event → List Verdict
verdicts slot before [] = []
verdicts slot before (event.Command c ∷ events) = verdicts slot (before ++ event.Command c ∷ []) events
verdicts slot before (event.Packet p ∷ events) =
    verdict_after slot before p ∷ verdicts slot (before ++ event.Packet p ∷ []) events

-- an effect of the command of this number, as an entry
abbrev pub effect_entry : ℕ → ℕ → Effect → Effected
effect_entry slot command effect = record { slot = slot; command = command; effect = effect }

-- the effects of its commands, each with its command's number
abbrev pub effects : ℕ → List Event → List Event → List Effected
effects slot before [] = []
effects slot before (event.Command c ∷ events) =
    map (effect_entry slot (length (commands_of before))) (effects_after slot before c)
    ++ effects slot (before ++ event.Command c ∷ []) events
effects slot before (event.Packet p ∷ events) = effects slot (before ++ event.Packet p ∷ []) events

-- the charging records that the events make
abbrev pub rows : ℕ → List Event → List Event → List ChargeEntry
rows slot before events = map (R slot) (records_made slot before events)

-- the open counters of the bearers that are active behind all events, by index
abbrev pub open_counters : ℕ → List Event → List Counters
open_counters slot events =
    map (λ (bearer : ActiveBearer). open_at (past_of slot events).packets.charged bearer.life)
    (version_after slot events).bearers

abbrev pub opens : ℕ → List Event → List ChargeEntry
opens slot events = map (O slot) (open_counters slot events)
