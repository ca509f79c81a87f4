-- What a slot is charged is what was forwarded for it.
use Rattle.std.specs.Prelude.{◌≡◌, ℕ, ◌+◌, ◌-◌, ◌==◌, Bool, true, false, List, [], ◌∷◌, ◌++◌}
use Rattle.std.specs.Prelude.{length, map, filter}
use Rattle.std.specs.List.{flat_map}
use Rattle.pc_base.specs.declared.effect.Effect.{Effect}
use Rattle.pc_base.specs.declared.effect.Effect.TheVariants as effect
use Rattle.pc_base.specs.declared.effect.Fate.{Fate}
use Rattle.pc_base.specs.declared.effect.Fate.TheVariants as fate
use Rattle.pc_base.specs.declared.packet.Verdict.{Verdict}
use Rattle.pc_base.specs.declared.packet.Verdict.TheVariants as verdict
use Rattle.charging_book.specs.Pieces.{Forwarded}
use Rattle.charging_book.specs.Ledger.{packets_of, IsPartition}
use Rattle.packet_steps.specs.Rows.{ForwardedRow}
use Rattle.gate_model.specs.declared.event.Event.{Event}
use Rattle.gate_model.specs.declared.event.Happened.{Happened}
use Rattle.gate_model.specs.declared.event.Happened.TheVariants.{Replied, Judged}
use Rattle.gate_model.specs.SlotPast.{past_of, records_after, records_made}
use Rattle.gate_model.specs.Stories.{Episode, story_of}
use Rattle.gate_model.specs.Rates.{forwarded_after}

-- A packet that left the gateway: for which life, which way, and how many octets it has. Down, eight octets of the
-- tunnel's header stand before them.
pub record Sent : Type 0 where
  pub life : ℕ
  pub up : Bool
  pub octets : ℕ

abbrev pub sent_up : ℕ → List ℕ → Sent
sent_up life octets = record { life = life; up = true; octets = length octets }

abbrev pub sent_down : ℕ → List ℕ → Sent
sent_down life octets = record { life = life; up = false; octets = length octets - 8 }

abbrev pub sent_by_verdict : Verdict → List Sent
sent_by_verdict (verdict.Up life octets) = sent_up life octets ∷ []
sent_by_verdict (verdict.Down life peer octets) = sent_down life octets ∷ []
sent_by_verdict verdict.NoBearer = []
sent_by_verdict verdict.Spoof = []
sent_by_verdict (verdict.Idle life) = []
sent_by_verdict (verdict.Held life message) = []
sent_by_verdict (verdict.Policed life) = []

abbrev pub sent_by_fate : Fate → List Sent
sent_by_fate (fate.Down life peer octets) = sent_down life octets ∷ []
sent_by_fate (fate.Policed life) = []
sent_by_fate (fate.Gone life) = []

abbrev pub sent_by_effect : Effect → List Sent
sent_by_effect (effect.Marker life peer octets) = []
sent_by_effect (effect.Fate packet fate_) = sent_by_fate fate_

abbrev pub sent_at : Happened → List Sent
sent_at (Replied reply effects) = flat_map sent_by_effect effects
sent_at (Judged verdict_) = sent_by_verdict verdict_

-- the packets that a story tells as forwarded, by verdicts up and down and by fates down
abbrev pub sent_in : List Episode → List Sent
sent_in story = flat_map (λ (told : Episode). sent_at told.happened) story

-- the same of what is remembered · of a life, as the book hears it
abbrev pub sent_as : ForwardedRow → Sent
sent_as row = record { life = row.life; up = row.up; octets = row.octets }

abbrev pub charged_as : ForwardedRow → Forwarded
charged_as row = record { up = row.up; octets = row.octets; at = row.at }

abbrev pub rows_of_life : ℕ → List ForwardedRow → List ForwardedRow
rows_of_life life rows = filter (λ (row : ForwardedRow). row.life == life) rows

-- What is remembered as forwarded is what the story tells, packet by packet.
abbrev pub ForwardedIsTold : Type 0
ForwardedIsTold = (slot : ℕ) (events : List Event) → map sent_as (forwarded_after slot events)
    ≡ sent_in (story_of slot events)

-- The pieces of a life, one behind another, are the packets that were forwarded for it, each in one piece.
pub record IsCharged (slot : ℕ) (events : List Event) (life : ℕ) : Type 0 where
  pub partition : IsPartition life (past_of slot events).packets.charged
  pub packets : packets_of life (past_of slot events).packets.charged
      ≡ map charged_as (rows_of_life life (forwarded_after slot events))

abbrev pub EachPacketInOnePiece : Type 0
EachPacketInOnePiece = (slot : ℕ) (events : List Event) (life : ℕ) → IsCharged slot events life

-- Records are never taken back: the events behind others make some more.
abbrev pub RecordsAreAdded : Type 0
RecordsAreAdded = (slot : ℕ) (before now : List Event)
    → records_after slot (before ++ now) ≡ records_after slot before ++ records_made slot before now
