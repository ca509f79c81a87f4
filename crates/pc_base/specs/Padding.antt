-- Digits with zeros behind them, up to 15 in all.
use Rattle.std.proofs.Common.{
  ◌≡◌,
  ℕ,
  ◌-◌,
  ◌≤◌,
  List,
  length,
  take,
  drop,
  ◌++◌,
  replicate,
  arith,
  length-take-le,
  take-append-drop,
}

pub length-prefix : (digits : List ℕ) (len : ℕ) → length digits ≡ 15 → len ≤ 15 → length (take len digits) ≡ len
length-prefix digits len whole fits = length-take-le len digits (omega arith)

pub prefix-append-zeros : (digits : List ℕ) (len : ℕ) → length digits ≡ 15 → len ≤ 15
    → drop len digits ≡ replicate (15 - len) 0
    → take len digits ++ replicate (15 - length (take len digits)) 0 ≡ digits
prefix-append-zeros digits len whole fits zeros =
    rw (length-prefix digits len whole fits, ← zeros) (take-append-drop len digits)
