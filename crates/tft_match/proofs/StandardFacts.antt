-- The definitions at a packet of the wire, at filters of TS 24.008 and at ranks.
use Rattle.std.proofs.Common.{◌≡◌, ℕ, List, [], ◌∷◌, Some, None, inl, inr, refl, arith}
use Rattle.std.proofs.lemmas.List.Elements.{All-nil, All-cons, All-head}
use Rattle.tft_codec.specs.declared.component.Component.TheVariants.{RemoteAddr, LocalAddr, Protocol, LocalPort, LocalRange, RemotePort, RemoteRange, Spi, Tos}
use Rattle.tft_codec.specs.declared.filter.Filter.{Filter}
use Rattle.tft_codec.specs.declared.tft.BearerFilters.{BearerFilters}
use Rattle.tft_match.specs.declared.direction.Direction.TheVariants.{Up, Down}
use Rattle.tft_match.specs.Fit.{CountsIn, Holds, Fits}
use Rattle.tft_match.specs.Choice.{IsBefore, Takes, by_default}
use Rattle.tft_match.specs.Chosen.{chosen}
use Rattle.tft_match.specs.Walk.{IsFirstRank}
use Rattle.tft_match.proofs.WalkLemmas.{with_filters, no_ranks, row_begins, row_unfit, row_leads}
use Rattle.tft_match.proofs.ChoiceLemmas.{takes_first, no_candidate}

-- from 203.0.113.9, port 5060, to 10.45.0.2, port 10000, by type of service, fragment offset and protocol
abbrev datagram : ℕ → ℕ → ℕ → List ℕ
datagram tos offset protocol =
    69 ∷ tos ∷ 0 ∷ 28 ∷ 0 ∷ 0 ∷ 0 ∷ offset ∷ 64 ∷ protocol ∷ 0 ∷ 0 ∷ 203 ∷ 0 ∷ 113 ∷ 9 ∷ 10 ∷ 45 ∷ 0 ∷ 2 ∷ 19 ∷ 196
    ∷ 39 ∷ 16 ∷ 0 ∷ 8 ∷ 0 ∷ 0 ∷ []

abbrev udp : List ℕ
udp = datagram 0 0 17

-- fields of direction 0 to 3
counts-0_down : CountsIn Down 0
counts-0_down = refl

counts-0_up : ¬ CountsIn Up 0
counts-0_up = λ counted. cc

counts-1_down : CountsIn Down 1
counts-1_down = refl

counts-1_up : ¬ CountsIn Up 1
counts-1_up = λ counted. cc

counts-2_down : ¬ CountsIn Down 2
counts-2_down = λ counted. cc

counts-2_up : CountsIn Up 2
counts-2_up = refl

counts-3_down : CountsIn Down 3
counts-3_down = refl

counts-3_up : CountsIn Up 3
counts-3_up = refl

-- an address of the far end, with bits outside the mask
remote_address-down : Holds Down udp (RemoteAddr 0xcb0071f6 0xffffff00)
remote_address-down = refl

remote_address-up : Holds Up udp (RemoteAddr 0x0a2d0002 0xffffffff)
remote_address-up = refl

remote_address-other : ¬ Holds Down udp (RemoteAddr 0xcb007209 0xffffff00)
remote_address-other = λ held. cc

local_address-down : Holds Down udp (LocalAddr 0x0a2dffff 0xffff0000)
local_address-down = refl

local_address-up : Holds Up udp (LocalAddr 0xcb007109 0xffffffff)
local_address-up = refl

protocol-udp : Holds Down udp (Protocol 17)
protocol-udp = refl

remote_port-down : Holds Down udp (RemotePort 5060)
remote_port-down = refl

remote_port-up : Holds Up udp (RemotePort 10000)
remote_port-up = refl

local_port-down : Holds Down udp (LocalPort 10000)
local_port-down = refl

local_port-up : Holds Up udp (LocalPort 5060)
local_port-up = refl

-- both ends of a range are in it, and the ports beside it aren't
local_range-low : Holds Down udp (LocalRange 10000 20000)
local_range-low = refl

local_range-high : Holds Down udp (LocalRange 9000 10000)
local_range-high = refl

remote_range-above : ¬ Holds Down udp (RemoteRange 5000 5059)
remote_range-above = λ held. cc

remote_range-below : ¬ Holds Down udp (RemoteRange 5061 6000)
remote_range-below = λ held. cc

-- a packet without ports, or without an index, meets no component that asks for one
remote_port-icmp : ¬ Holds Down (datagram 0 0 1) (RemotePort 5060)
remote_port-icmp = λ same. cc

remote_range-icmp : ¬ Holds Down (datagram 0 0 1) (RemoteRange 0 65535)
remote_range-icmp = λ held. cc

spi-udp : ¬ Holds Down udp (Spi 0x13c42710)
spi-udp = λ same. cc

spi-esp : Holds Down (datagram 0 0 50) (Spi 0x13c42710)
spi-esp = refl

spi-ah : Holds Down (datagram 0 0 51) (Spi 0x00080000)
spi-ah = refl

-- the code point of expedited forwarding, without the two bits behind it
tos-expedited : Holds Down (datagram 0xba 0 17) (Tos 0xb8 0xfc)
tos-expedited = refl

-- the order: precedence, then index, then identifier
before-by_precedence : IsBefore (9, 2, 5) (10, 1, 0)
before-by_precedence = inl (omega arith)

before-by_index : IsBefore (9, 1, 5) (9, 2, 0)
before-by_index = inr (inl (refl, omega arith))

before-by_id : IsBefore (9, 1, 0) (9, 1, 5)
before-by_id = inr (inr (refl, refl, omega arith))

-- the default bearer, and a bearer for what comes from port 5060
abbrev default_bearer : BearerFilters
default_bearer = record { index = 0; filters = [] }

abbrev from_port : Filter
from_port = record { id = 0; direction = 3; precedence = 9; components = RemotePort 5060 ∷ [] }

abbrev dedicated : BearerFilters
dedicated = record { index = 1; filters = from_port ∷ [] }

abbrev bearers : List BearerFilters
bearers = default_bearer ∷ dedicated ∷ []

fits-from_port : Fits Down udp from_port
fits-from_port =
    record { counts = refl; each = All-cons (Holds Down udp) (RemotePort 5060) [] refl (All-nil (Holds Down udp)) }

unfit-later_fragment : ¬ Fits Down (datagram 0 1 17) from_port
unfit-later_fragment = λ fits. let held = All-head (Holds Down (datagram 0 1 17)) (RemotePort 5060) [] fits.each in cc

begun : (packet : List ℕ) → IsFirstRank (default_bearer ∷ with_filters dedicated [] ∷ []) packet None
begun packet =
    row_begins (default_bearer ∷ []) packet dedicated None (row_begins [] packet default_bearer None (no_ranks packet))

takes-by_filter : Takes bearers udp (Some 1)
takes-by_filter =
    takes_first bearers udp (9, 1, 0)
    (row_leads (default_bearer ∷ []) udp dedicated [] from_port None (begun udp) tt fits-from_port)

takes-by_default : Takes bearers (datagram 0 1 17) (Some 0)
takes-by_default =
    by_default bearers (datagram 0 1 17)
    (no_candidate bearers (datagram 0 1 17)
    (row_unfit (default_bearer ∷ []) (datagram 0 1 17) dedicated [] from_port None
    (begun (datagram 0 1 17)) unfit-later_fragment))
    (0, omega arith, refl)

chosen-by_filter : chosen bearers udp ≡ Some 1
unfolding chosen
chosen-by_filter = refl

chosen-by_default : chosen bearers (datagram 0 1 17) ≡ Some 0
unfolding chosen
chosen-by_default = refl

chosen-none : chosen (dedicated ∷ []) (datagram 0 1 17) ≡ None
unfolding chosen
chosen-none = refl

-- two bearers whose filters fit: the lower precedence counts first, and at one precedence the lower index
abbrev voice : ℕ → ℕ → BearerFilters
voice index precedence = record {
  index = index;
  filters = record {
    id = 7;
    direction = 3;
    precedence = precedence;
    components = Protocol 17 ∷ [];
  } ∷ [];
}

chosen-by_precedence : chosen (voice 1 10 ∷ voice 2 9 ∷ []) udp ≡ Some 2
unfolding chosen
chosen-by_precedence = refl

chosen-by_index : chosen (voice 2 9 ∷ voice 1 9 ∷ []) udp ≡ Some 1
unfolding chosen
chosen-by_index = refl
