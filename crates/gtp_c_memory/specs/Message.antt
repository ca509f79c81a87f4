-- What a C caller is told of a whole message.
use Rattle.std.specs.Prelude.{Option, Some}
use Rattle.gtpv2_msg.specs.declared.fault.CBad.{CBad}
use Rattle.gtpv2_msg.specs.declared.fault.CBad.TheVariants as bad
use Rattle.gtp_c_memory.specs.declared.message.Gtpv2Fault.{Gtpv2Fault}

-- the element that a fault is about, where it is about one
abbrev pub element_of : Option CBad → Gtpv2Fault → Gtpv2Fault
element_of (Some (bad.Missing kind instance)) old = record { kind = kind; instance = instance }
element_of (Some (bad.Incorrect kind instance)) old = record { kind = kind; instance = instance }
element_of fault old = old
