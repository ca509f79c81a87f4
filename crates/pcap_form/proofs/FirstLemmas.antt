-- What octets begin with: a record stays at the start, whatever comes behind it.
use Rattle.std.proofs.Common.{◌≡◌, ℕ, ◌+◌, ◌<◌, ◌≤◌, Bool, true, false, List, ◌++◌, length, take, drop, nat_lt, if◌then◌else◌, refl, sym, ap, ◌∙◌, arith, length-append, length-drop}
use Rattle.std.proofs.lemmas.Bool.Decides.{nat_tests}
use Rattle.std.proofs.lemmas.List.{get_or_append_left, take-append-le, drop-append-le}
use Rattle.pcap_form.specs.declared.head.CaptureHead.{CaptureHead}
use Rattle.pcap_form.specs.Numbers.{number32_at}
use Rattle.pcap_form.specs.Record.{Record, FirstRecord, nothing, part, wrong, whole, first_of, captured_of, record_in, record_len, time_of, snapshot_max}

-- the numbers within octets
number32-behind : (little : Bool) (octets behind : List ℕ) (at : ℕ) → at + 4 ≤ length octets
    → number32_at little (octets ++ behind) at ≡ number32_at little octets at
number32-behind true octets behind at inside = rw (
  get_or_append_left octets behind 0 at (omega arith),
  get_or_append_left octets behind 0 (at + 1) (omega arith),
  get_or_append_left octets behind 0 (at + 2) (omega arith),
  get_or_append_left octets behind 0 (at + 2 + 1) (omega arith),
) refl
number32-behind false octets behind at inside = rw (
  get_or_append_left octets behind 0 at (omega arith),
  get_or_append_left octets behind 0 (at + 1) (omega arith),
  get_or_append_left octets behind 0 (at + 1 + 1) (omega arith),
  get_or_append_left octets behind 0 (at + 1 + 1 + 1) (omega arith),
) refl

pub captured-behind : (head : CaptureHead) (held behind : List ℕ) → record_len ≤ length held
    → captured_of head (held ++ behind) ≡ captured_of head held
captured-behind head held behind there = number32-behind head.little held behind 8 (omega arith)

time-behind : (head : CaptureHead) (held behind : List ℕ) → record_len ≤ length held
    → time_of head (held ++ behind) ≡ time_of head held
time-behind head held behind there = rw (
  number32-behind head.little held behind 0 (omega arith),
  number32-behind head.little held behind 4 (omega arith),
) refl

-- the captured octets are those held
kept-behind : (n : ℕ) (held behind : List ℕ) → record_len + n ≤ length held
    → take n (drop record_len (held ++ behind)) ≡ take n (drop record_len held)
kept-behind n held behind all =
    ap (take n) (drop-append-le record_len held behind (omega arith))
    ∙ take-append-le n (drop record_len held) behind (omega (arith, length-drop record_len held))

pub record-behind : (head : CaptureHead) (held behind : List ℕ) → record_len + captured_of head held ≤ length held
    → record_in head (held ++ behind) ≡ record_in head held
record-behind head held behind all =
    let there : record_len ≤ length held = omega arith in
    rw (
      time-behind head held behind there,
      captured-behind head held behind there,
      kept-behind (captured_of head held) held behind all,
    ) refl

-- the steps of the definition, by its tests
abbrev prefix_by : Bool → Bool → Bool → Bool → Record → List ℕ → FirstRecord
prefix_by short some over cut one rest =
    if short then (if some then part else nothing) else if over then wrong else if cut then part else whole one rest

abbrev steps : (head : CaptureHead) (octets : List ℕ) → FirstRecord
steps head octets =
    prefix_by (nat_lt (length octets) record_len) (nat_lt 0 (length octets))
    (nat_lt snapshot_max (captured_of head octets))
    (nat_lt (length octets) (record_len + captured_of head octets)) (record_in head octets)
    (drop (record_len + captured_of head octets) octets)

-- a record that is held whole stands in front, whatever comes behind
pub prefix_whole : (head : CaptureHead) (held behind : List ℕ) → record_len + captured_of head held ≤ length held
    → captured_of head held ≤ snapshot_max
    → first_of head (held ++ behind) ≡ whole (record_in head held)
    (drop (record_len + captured_of head held) held ++ behind)
prefix_whole head held behind all fits =
    let n = captured_of head held in
    let longer : length (held ++ behind) ≡ length held + length behind = length-append held behind in
    let not_short : nat_lt (length (held ++ behind)) record_len ≡ false = grind (arith, nat_tests) in
    let not_over : nat_lt snapshot_max n ≡ false = grind (arith, nat_tests) in
    let not_cut : nat_lt (length (held ++ behind)) (record_len + n) ≡ false = grind (arith, nat_tests) in
    rw (
      not_short,
      captured-behind head held behind (omega arith),
      not_over,
      not_cut,
      time-behind head held behind (omega arith),
      kept-behind n held behind all,
      drop-append-le (record_len + n) held behind all,
    ) refl

-- and so does a captured length above the most
pub prefix_wrong : (head : CaptureHead) (held behind : List ℕ) → record_len ≤ length held
    → snapshot_max < captured_of head held
    → first_of head (held ++ behind) ≡ wrong
prefix_wrong head held behind there over =
    let longer : length (held ++ behind) ≡ length held + length behind = length-append held behind in
    let not_short : nat_lt (length (held ++ behind)) record_len ≡ false = grind (arith, nat_tests) in
    let is_over : nat_lt snapshot_max (captured_of head held) ≡ true = grind (arith, nat_tests) in
    rw (not_short, captured-behind head held behind there, is_over) refl

-- where the steps come to a record, none of the tests before it held
whole_only : (short some over cut : Bool) (one other : Record) (rest behind : List ℕ)
    → prefix_by short some over cut one rest ≡ whole other behind
    → (short ≡ false) × (cut ≡ false) × (behind ≡ rest)
whole_only true true over cut one other rest behind is = cc
whole_only true false over cut one other rest behind is = cc
whole_only false some true cut one other rest behind is = cc
whole_only false some false true one other rest behind is = cc
whole_only false some false false one other rest behind is = (refl, refl, cc)

steps-are : (head : CaptureHead) (octets : List ℕ) → first_of head octets ≡ steps head octets
steps-are head octets = refl

-- what is behind a record is shorter by its head at least
pub rest_shorter : (head : CaptureHead) (octets : List ℕ) (one : Record) (rest : List ℕ)
    → first_of head octets ≡ whole one rest
    → length rest + record_len ≤ length octets
rest_shorter head octets one rest is =
    let n = captured_of head octets in
    let tests = whole_only (nat_lt (length octets) record_len) (nat_lt 0 (length octets)) (nat_lt snapshot_max n)
    (nat_lt (length octets) (record_len + n)) (record_in head octets) one (drop (record_len + n) octets) rest
    (sym (steps-are head octets) ∙ is)
    in
    let short : nat_lt (length octets) (record_len + n) ≡ false = tests.1 in
    let long : record_len + n ≤ length octets = grind (arith, nat_tests) in
    omega (arith, ap length tests.2, length-drop (record_len + n) octets)
