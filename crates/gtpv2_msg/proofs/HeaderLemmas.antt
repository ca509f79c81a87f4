-- A header that is right has no fault.
use Rattle.std.proofs.Common.{◌≡◌, ℕ, false, ltb, List, length, None, refl}
use Rattle.std.proofs.lemmas.Bool.{le-ltb}
use Rattle.gtpv2_msg.specs.Header.{IsRight, has_teid, end_of, header_len}
use Rattle.gtpv2_msg.specs.Refusal.{header_fault}

pub right_without_fault : (octets : List ℕ) → IsRight octets → header_fault octets ≡ None
right_without_fault octets right =
    let least : ltb (length octets) 8 ≡ false = le-ltb _ _ right.least in
    let inside : ltb (length octets) (end_of octets) ≡ false = le-ltb _ _ right.inside in
    let whole : ltb (end_of octets) (header_len (has_teid octets)) ≡ false = le-ltb _ _ right.whole in
    rw (least, right.version, right.alone, inside, whole, right.kind) refl
