-- The definitions at worked octets of TS 24.008, 10.5.6.12.
use Rattle.std.proofs.Common.{◌≡◌, [], ◌∷◌, Some, None, refl}
use Rattle.tft_codec.specs.declared.component.Component.TheVariants.{RemoteAddr, LocalAddr, Protocol, LocalPort, LocalRange, RemotePort, RemoteRange, Spi, Tos}
use Rattle.tft_codec.specs.declared.fault.TBad.TheVariants as bad
use Rattle.tft_codec.specs.declared.tft.Tft.TheVariants.{Create, Delete, Add, Replace, Remove, Nothing}
use Rattle.tft_codec.specs.declared.filter.Filter.{Filter}
use Rattle.tft_codec.specs.Component.{contents}
use Rattle.tft_codec.specs.Spelling.{spelling}
use Rattle.tft_codec.specs.Reading.{component_of, components_from, filter_at, filters_at, tft_at}
use Rattle.tft_codec.specs.Refusal.{filter_fault, filters_fault, ids_fault, first_fault}

-- each component once
addresses-contents : contents (RemoteAddr 0xc000_0207 0xffff_ff00 ∷ LocalAddr 0x0a2d_0002 0xffff_ffff ∷ [])
    ≡ 0x10 ∷ 192 ∷ 0 ∷ 2 ∷ 7 ∷ 255 ∷ 255 ∷ 255 ∷ 0 ∷ 0x11 ∷ 10 ∷ 45 ∷ 0 ∷ 2 ∷ 255 ∷ 255 ∷ 255 ∷ 255 ∷ []
addresses-contents = refl

ports-contents : contents (LocalPort 8080 ∷ LocalRange 1024 65535 ∷ RemotePort 80 ∷ RemoteRange 5000 9 ∷ [])
    ≡ 0x40 ∷ 0x1f ∷ 0x90 ∷ 0x41 ∷ 4 ∷ 0 ∷ 255 ∷ 255 ∷ 0x50 ∷ 0 ∷ 80 ∷ 0x51 ∷ 0x13 ∷ 0x88 ∷ 0 ∷ 9 ∷ []
ports-contents = refl

others-contents : contents (Protocol 17 ∷ Spi 0xdead_beef ∷ Tos 0xb8 0xfc ∷ [])
    ≡ 0x30 ∷ 17 ∷ 0x60 ∷ 0xde ∷ 0xad ∷ 0xbe ∷ 0xef ∷ 0x70 ∷ 0xb8 ∷ 0xfc ∷ []
others-contents = refl

-- identifier 0, both directions, precedence 9, protocol UDP
abbrev udp : Filter
udp = record { id = 0; direction = 3; precedence = 9; components = Protocol 17 ∷ [] }

-- each operation
create-text : spelling (Create (udp ∷ [])) ≡ 0x21 ∷ 0x30 ∷ 9 ∷ 2 ∷ 0x30 ∷ 17 ∷ []
create-text = refl

delete-text : spelling Delete ≡ 0x40 ∷ []
delete-text = refl

add-text : spelling (Add (udp ∷ [])) ≡ 0x61 ∷ 0x30 ∷ 9 ∷ 2 ∷ 0x30 ∷ 17 ∷ []
add-text = refl

replace-text : spelling (Replace (udp ∷ [])) ≡ 0x81 ∷ 0x30 ∷ 9 ∷ 2 ∷ 0x30 ∷ 17 ∷ []
replace-text = refl

remove-text : spelling (Remove (3 ∷ 4 ∷ [])) ≡ 0xa2 ∷ 3 ∷ 4 ∷ []
remove-text = refl

nothing-text : spelling Nothing ≡ 0xc0 ∷ []
nothing-text = refl

-- it is read again
create-read : tft_at (0x21 ∷ 0x30 ∷ 9 ∷ 2 ∷ 0x30 ∷ 17 ∷ []) ≡ Create (udp ∷ [])
unfolding filters_at filter_at components_from component_of
create-read = refl

create-fault : first_fault (0x21 ∷ 0x30 ∷ 9 ∷ 2 ∷ 0x30 ∷ 17 ∷ []) ≡ None
unfolding filters_fault filter_fault components_from component_of
create-fault = refl

-- each fault
empty-fault : first_fault [] ≡ Some bad.Short
empty-fault = refl

parameters-fault : first_fault (0x31 ∷ []) ≡ Some bad.Parameters
parameters-fault = refl

operation-fault : first_fault (0xe1 ∷ []) ≡ Some bad.Operation
operation-fault = refl

number-fault : first_fault (0x41 ∷ []) ≡ Some bad.Operation
number-fault = refl

cut-fault : first_fault (0x21 ∷ 0x30 ∷ 9 ∷ 2 ∷ 0x30 ∷ []) ≡ Some bad.Short
unfolding filters_fault filter_fault
cut-fault = refl

component-fault : first_fault (0x21 ∷ 0x30 ∷ 9 ∷ 2 ∷ 0x99 ∷ 17 ∷ []) ≡ Some bad.Component
unfolding filters_fault filter_fault components_from component_of
component-fault = refl

repeated-fault : first_fault (0x22 ∷ 0x30 ∷ 9 ∷ 0 ∷ 0x20 ∷ 5 ∷ 7 ∷ []) ≡ Some bad.RepeatedId
unfolding filters_fault filter_fault components_from component_of
repeated-fault = refl

trailing-fault : first_fault (0xa1 ∷ 1 ∷ 2 ∷ []) ≡ Some bad.Trailing
unfolding ids_fault
trailing-fault = refl
