-- What an IMSI keeps: its digits, with zeros behind them.
use Rattle.std.proofs.Common.{◌≡◌, ℕ, ◌-◌, ◌≤◌, List, length, take, drop, ◌++◌, replicate, arith, length-append, length-drop}
use Rattle.std.proofs.Math.Seq.{take-append_seam, drop-append_seam}
use Rattle.std.proofs.lemmas.List.{drop-replicate}
use Rattle.pc_base.specs.Imsi.{IsImsi}

abbrev padded : List ℕ → List ℕ
padded digits = digits ++ drop (length digits) (replicate 15 0)

length-padded : (digits : List ℕ) → length digits ≤ 15 → length (padded digits) ≡ 15
length-padded digits fits =
    let zeros : List ℕ = drop (length digits) (replicate 15 0) in
    let count : length zeros ≡ 15 - length digits = length-drop (length digits) (replicate 15 0) in
    rw (length-append digits zeros) (omega (arith, count, fits))

pub is_kept : (digits : List ℕ) → IsImsi digits
    → IsImsi (take (length digits) (padded digits)) × (length (padded digits) ≡ 15) × (length digits ≤ 15)
    × (drop (length digits) (padded digits) ≡ replicate (15 - length digits) 0)
is_kept digits valid =
    let zeros : List ℕ = drop (length digits) (replicate 15 0) in (
      rw (take-append_seam digits zeros) valid,
      length-padded digits valid.1,
      valid.1,
      rw (drop-append_seam digits zeros) (drop-replicate (length digits) 15 0),
    )
