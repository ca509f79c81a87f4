-- The slots of the gateway, one for each subscriber.
use Rattle.std.specs.Prelude.{ℕ, ◌≤◌}

-- as many as the users' addresses: 0 to 65,532
abbrev pub IsSlot : ℕ → Type 0
IsSlot slot = slot ≤ 65532
