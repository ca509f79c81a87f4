-- Laws of big-endian numbers, for the proofs of the crates above.
use Rattle.std.proofs.Common.{◌≡◌, ℕ, ◌^◌, ◌<◌, List, ◌++◌, arith}
use Rattle.wire_octets.specs.Numbers.{be16_at, be24_at, be32_at, be40_at, be16_octets, be24_octets, be32_octets, be40_octets}

-- what is written is read again
pub be16-again : (n : ℕ) (after : List ℕ) → n < 2 ^ 16 → be16_at (be16_octets n ++ after) 0 ≡ n
be16-again n after fits = omega (arith, fits)

pub be24-again : (n : ℕ) (after : List ℕ) → n < 2 ^ 24 → be24_at (be24_octets n ++ after) 0 ≡ n
be24-again n after fits = omega (arith, fits)

pub be32-again : (n : ℕ) (after : List ℕ) → n < 2 ^ 32 → be32_at (be32_octets n ++ after) 0 ≡ n
be32-again n after fits = omega (arith, fits)

pub be40-again : (n : ℕ) (after : List ℕ) → n < 2 ^ 40 → be40_at (be40_octets n ++ after) 0 ≡ n
be40-again n after fits = omega (arith, fits)
