-- Whose a TEID and an address of the gateway are: the way back from what a slot was given.
use Rattle.std.specs.Prelude.{ℕ, ◌-◌, ◌/◌, ◌%◌, ◌==◌, ◌&&◌, Bool, nat_lt, nat_le, if◌then◌else◌}
use Rattle.std.specs.Prelude.{Option, Some, None}

-- sixteen TEIDs are a slot's, from 16 on
abbrev pub is_given : ℕ → Bool
is_given teid = nat_le 16 teid && nat_le (teid / 16 - 1) 65532

-- the first is for control · the next eleven are for its bearers, by index
abbrev pub control_slot : ℕ → Option ℕ
control_slot teid = if is_given teid && teid % 16 == 0 then Some (teid / 16 - 1) else None

abbrev pub bearer_end : ℕ → Option (ℕ × ℕ)
bearer_end teid =
    if is_given teid && (nat_lt 0 (teid % 16) && nat_le (teid % 16) 11) then Some (teid / 16 - 1, teid % 16 - 1)
    else None

-- the slot whose address it is: 10.45.0.2 to 10.45.255.254
abbrev pub addressee : ℕ → Option ℕ
addressee addr = if nat_le 0x0a2d_0002 addr && nat_le addr 0x0a2d_fffe then Some (addr - 0x0a2d_0002) else None
