-- The definitions at worked numbers: the ends of the addresses, and TEIDs with their remainders.
use Rattle.std.proofs.Common.{◌≡◌, [], ◌∷◌, refl}
use Rattle.wire_octets.specs.Numbers.{be32_at}
use Rattle.pc_base.specs.declared.packet.TeidUse.TheVariants.{Control, Bearer}
use Rattle.pc_base.specs.Addresses.{addr_of}
use Rattle.pc_base.specs.Teids.{teid_of}

-- 10.45.0.2, 10.45.1.0 and 10.45.255.254
first-addr : addr_of 0 ≡ be32_at (10 ∷ 45 ∷ 0 ∷ 2 ∷ []) 0
first-addr = refl

later-addr : addr_of 254 ≡ be32_at (10 ∷ 45 ∷ 1 ∷ 0 ∷ []) 0
later-addr = refl

last-addr : addr_of 65532 ≡ be32_at (10 ∷ 45 ∷ 255 ∷ 254 ∷ []) 0
last-addr = refl

-- the control plane and the default bearer of the first subscriber, the last bearer of the second
first-control : teid_of 0 Control ≡ 16
first-control = refl

first-bearer : teid_of 0 (Bearer 0) ≡ 17
first-bearer = refl

last-bearer : teid_of 1 (Bearer 10) ≡ 43
last-bearer = refl

last-control : teid_of 65532 Control ≡ 0xf_ffd0
last-control = refl
