-- A bucket in a C caller's numbers.
use Rattle.std.specs.Prelude.{ℕ, ◌||◌, nat_lt, Bool, if◌then◌else◌}
use Rattle.rate_policer.specs.Buckets.{BucketState, lets_through}
use Rattle.rate_policer.specs.Conforming.{burst, cost_of}
use Rattle.gtp_c.specs.declared.policer.Policer.{Policer}

abbrev pub bucket_of : Policer → BucketState
bucket_of policer = record { rate = policer.rate; level = policer.level; last = policer.last }

-- a number is out of its range, or the level above the burst
abbrev pub is_wrong : Policer → Bool
is_wrong policer =
    nat_lt 1099511627775 policer.rate || nat_lt 1125899906842623 policer.last
    || nat_lt (burst policer.rate) policer.level

abbrev pub is_late : Policer → ℕ → Bool
is_late policer at = nat_lt 1125899906842623 at || nat_lt at policer.last

-- 23 where no bucket has these numbers, or the moment is none or before the last one; 28 where the octets don't pass
abbrev pub ask_code : Policer → ℕ → ℕ → ℕ
ask_code policer at octets =
    if is_late policer at || is_wrong policer then 23
    else if lets_through (bucket_of policer) (cost_of octets at) then 0
    else 28

-- 23 where no rate is so high
abbrev pub new_code : ℕ → ℕ
new_code rate = if nat_lt rate 1099511627776 then 0 else 23
