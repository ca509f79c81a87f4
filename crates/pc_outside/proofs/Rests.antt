-- What a read gives of the octets that are left.
use Rattle.std.proofs.Common.{◌≡◌, ℕ, ◌+◌, ◌-◌, ◌≤◌, List, ◌++◌, length, take, drop, ap, sym, arith, length-drop, length-take}
use Rattle.std.proofs.lemmas.List.{take-append-drop, take_at, drop-drop}

-- what a read gave, and what is left then, is what was left
pub prefix_and_rest : (octets prefix into : List ℕ) (from n : ℕ) → prefix ≡ take n (drop from octets)
    → n ≤ length octets - from
    → drop from octets ≡ take n (prefix ++ into) ++ drop (from + n) octets
prefix_and_rest octets prefix into from n is within =
    let count : length prefix ≡ n = omega (
      arith,
      ap length is,
      length-take n (drop from octets),
      length-drop from octets,
    ) in
    rw (take_at prefix into n count, is, ← drop-drop n from octets) (sym (take-append-drop n (drop from octets)))
