-- What is asked of a verdict whose octets are lent.
use Rattle.std.specs.Prelude.{◌<◌, ◌^◌, length}
use Rattle.packet_steps.specs.declared.lent.LentVerdict.{LentVerdict}
use Rattle.packet_steps.specs.declared.lent.LentVerdict.TheVariants.{Up, Down, NoBearer, Spoof, Idle, Held, Policed}

-- a packet that goes down is no longer than IPv4 allows
abbrev pub IsShort : LentVerdict → Type 0
IsShort (Up life octets) = Unit {0}
IsShort (Down life peer octets) = length octets.now < 2 ^ 16
IsShort NoBearer = Unit {0}
IsShort Spoof = Unit {0}
IsShort (Idle life) = Unit {0}
IsShort (Held life message) = Unit {0}
IsShort (Policed life) = Unit {0}
