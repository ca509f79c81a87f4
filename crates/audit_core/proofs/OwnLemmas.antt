-- What is made of a slot is its own.
use Rattle.std.proofs.Common.{◌≡◌, ℕ, List, [], ◌∷◌, ◌++◌, length, map, refl}
use Rattle.std.specs.List.{All}
use Rattle.std.proofs.lemmas.List.Elements.{All-append, All-map, All-nil}
use Rattle.gate_model.specs.SlotPast.{effects_after, records_made}
use Rattle.gate_model.specs.Events.{commands_of}
use Rattle.gate_model.specs.declared.event.Event.{Event}
use Rattle.gate_model.specs.declared.event.Event.TheVariants as event
use Rattle.report_lines.specs.Records.{Effected}
use Rattle.report_lines.specs.declared.entry.ChargeEntry.TheVariants.{R}
use Rattle.lawful_run.specs.Outcomes as made_of
use Rattle.audit_core.specs.Entries.{slot_charged}
use Rattle.audit_core.specs.Agreeing.{slot_effected}

-- effects and records of a slot are its own
pub effects_own : (slot : ℕ) (before events : List Event)
    → All (λ (e : Effected). slot_effected e ≡ slot) (made_of.effects slot before events)
effects_own slot before [] = All-nil (λ (e : Effected). slot_effected e ≡ slot)
effects_own slot before (event.Command c ∷ events) =
    All-append (λ (e : Effected). slot_effected e ≡ slot)
    (map (made_of.effect_entry slot (length (commands_of before))) (effects_after slot before c))
    (made_of.effects slot (before ++ event.Command c ∷ []) events)
    (All-map (λ (e : Effected). slot_effected e ≡ slot) (made_of.effect_entry slot (length (commands_of before)))
    (effects_after slot before c) (λ k d low. refl))
    (effects_own slot (before ++ event.Command c ∷ []) events)
effects_own slot before (event.Packet p ∷ events) = effects_own slot (before ++ event.Packet p ∷ []) events

pub rows_own : (slot : ℕ) (before events : List Event)
    → All (λ charge. slot_charged charge ≡ slot) (made_of.rows slot before events)
rows_own slot before events =
    All-map (λ charge. slot_charged charge ≡ slot) (R slot) (records_made slot before events) (λ k d low. refl)
