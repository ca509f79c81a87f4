-- The users' addresses: one for each slot, from 10.45.0.2 to 10.45.255.254.
use Rattle.std.specs.Prelude.{ℕ, ◌+◌, ◌≤◌}

-- 10.45.0.2 to 10.45.255.254
abbrev pub IsUserAddr : ℕ → Type 0
IsUserAddr addr = (0x0a2d_0002 ≤ addr) × (addr ≤ 0x0a2d_fffe)

-- the gateway's end of every tunnel, 192.0.2.1
abbrev pub gateway_addr : ℕ
gateway_addr = 0xc000_0201

-- the address of a slot
abbrev pub addr_of : ℕ → ℕ
addr_of slot = 0x0a2d_0002 + slot
