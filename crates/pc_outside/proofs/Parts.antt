-- Parts of a buffer: a line at the start of a part, and what is read behind one.
use Rattle.std.proofs.Common.{◌≡◌, ℕ, ◌+◌, ◌-◌, ◌≤◌, List, ◌++◌, take, drop, slice_range, sym, ◌∙◌, ap, arith}
use Rattle.std.proofs.lemmas.List.{take-take, drop-drop}
use Rattle.std.proofs.lemmas.Slice.{between_from_start, between_is}
use Rattle.std.proofs.Math.Seq.{take-add}

-- the first octets of a part
pub part-start : (octets : List ℕ) (from to len : ℕ) → from + len ≤ to
    → slice_range octets from (from + len) ≡ take len (slice_range octets from to)
part-start octets from to len within =
    let size : from + len - from ≡ len = omega arith in
    let shorter : len ≤ to - from = omega arith in
    ap (λ n. take n (drop from octets)) size ∙ sym (take-take len (to - from) (drop from octets) shorter)

-- what is behind them
pub part-behind : (octets : List ℕ) (from to len : ℕ)
    → drop len (slice_range octets from to) ≡ slice_range octets (from + len) to
part-behind octets from to len =
    ap (drop len) (between_is octets from to) ∙ drop-drop len from (take to octets)
    ∙ sym (between_is octets (from + len) to)

-- what was read behind the start of a buffer
pub part-gained : (before now : List ℕ) (at count : ℕ) → take at now ≡ take at before
    → slice_range now 0 (at + count) ≡ slice_range before 0 at ++ slice_range now at (at + count)
part-gained before now at count same =
    let size : at + count - at ≡ count = omega arith in
    between_from_start now (at + count) ∙ take-add at count now
    ∙ ap (λ first. first ++ take count (drop at now)) (same ∙ sym (between_from_start before at))
    ∙ ap (λ n. slice_range before 0 at ++ take n (drop at now)) (sym size)
