-- The numbers of refusals.
use Rattle.std.specs.Prelude.{ℕ, Option, Some, None}
use Rattle.gtpv2_msg.specs.declared.fault.CBad.{CBad}
use Rattle.gtpv2_msg.specs.declared.fault.CBad.TheVariants as bad

-- the number of a refusal; 0 is none
abbrev pub message_code : CBad → ℕ
message_code bad.Short = 1
message_code bad.Version = 2
message_code bad.Piggyback = 7
message_code bad.Length = 4
message_code bad.Kind = 6
message_code (bad.Missing kind instance) = 10
message_code (bad.Incorrect kind instance) = 11
message_code bad.NoMemory = 20

abbrev pub code_of : Option CBad → ℕ
code_of None = 0
code_of (Some bad) = message_code bad
