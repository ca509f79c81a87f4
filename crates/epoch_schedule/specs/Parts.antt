-- Steps of a slot, by the parts that they change.
use Rattle.std.specs.Prelude.{ℕ, zero, suc, ◌+◌, if◌then◌else◌, nat_lt, nat_le, Option, Some, List, [], ◌∷◌, ◌++◌}
use Rattle.std.specs.Prelude.{length, drop}
use Rattle.std.specs.List.{prefix_len}
use Rattle.pc_base.specs.declared.packet.Place.TheVariants.{Closing}
use Rattle.epoch_schedule.specs.Slots.{CommandTags, Met}

-- what is sent behind a batch of so many commands, and what isn't
abbrev pub sent_behind : (room : ℕ) → List ℕ → ℕ → List ℕ
sent_behind room sent zero = sent
sent_behind room sent (suc n) = if nat_lt (length sent) room then sent ++ suc n ∷ [] else sent

abbrev pub unsent_behind : (room : ℕ) → List ℕ → Option ℕ → ℕ → Option ℕ
unsent_behind room sent unsent zero = unsent
unsent_behind room sent unsent (suc n) = if nat_lt (length sent) room then unsent else Some (suc n)

-- how many commands are learnt where so many packets are handled, as an epoch closes
abbrev pub all_learnt : List CommandTags → (learnt handled : ℕ) → ℕ
all_learnt commands learnt handled =
    learnt + prefix_len (λ (tags : CommandTags). nat_le tags.floor handled) (drop learnt commands)

-- what packets met behind so many more
abbrev pub met_behind : List CommandTags → (learnt : ℕ) → List Met → ℕ → List Met
met_behind commands learnt met zero = met
met_behind commands learnt met (suc n) =
    met_behind commands (all_learnt commands learnt (length met))
    (met ++ record { commands = all_learnt commands learnt (length met); place = Closing } ∷ []) n
