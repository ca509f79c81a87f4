-- The moments of held packets don't fall.
use Rattle.std.proofs.Common.{◌≡◌, ℕ, ◌≤◌, ◌==◌, ◌&&◌, nat_le, Bool, true, false, cond, List, [], ◌∷◌, ◌++◌, length, filter, Option, Some, None, IfSome, refl, sym, ◌∙◌, ap, le_trans, arith}
use Rattle.std.proofs.lemmas.Bool.{eqb-true}
use Rattle.std.proofs.lemmas.Bool.Decides.{nat_tests}
use Rattle.packet_steps.specs.Rows.{HeldRow, in_order, held_in_order}
use Rattle.packet_steps.proofs.PartLemmas.{both}

both_are : (a b : Bool) → a ≡ true → b ≡ true → (a && b) ≡ true
both_are a b first second = ap (λ t. t && b) first ∙ second

le_test : (a b : ℕ) → a ≤ b → nat_le a b ≡ true
le_test a b least = grind (arith, nat_tests)

le_of : (a b : ℕ) → nat_le a b ≡ true → a ≤ b
le_of a b passes = grind (arith, nat_tests)

-- the first of them, and those behind it
record Ordered (least most : ℕ) (row : HeldRow) (rows : List HeldRow) : Type 0 where
  low : least ≤ row.packet.moment
  high : row.packet.moment ≤ most
  behind : in_order row.packet.moment most rows ≡ true

ordered_of : (least most : ℕ) (row : HeldRow) (rows : List HeldRow) → in_order least most (row ∷ rows) ≡ true
    → Ordered least most row rows
ordered_of least most row rows ordered =
    let at = row.packet.moment in
    let first = both (nat_le least at) (nat_le at most && in_order at most rows) ordered in
    let second = both (nat_le at most) (in_order at most rows) first.1 in
    record { low = le_of least at first.0; high = le_of at most second.0; behind = second.1 }

of_ordered : (least most : ℕ) (row : HeldRow) (rows : List HeldRow) → Ordered least most row rows
    → in_order least most (row ∷ rows) ≡ true
of_ordered least most row rows is =
    let at = row.packet.moment in
    both_are (nat_le least at) (nat_le at most && in_order at most rows) (le_test least at is.low)
    (both_are (nat_le at most) (in_order at most rows) (le_test at most is.high) is.behind)

order_more : (least other most more : ℕ) (rows : List HeldRow) → other ≤ least → most ≤ more
    → in_order least most rows ≡ true → in_order other more rows ≡ true
order_more least other most more [] low high ordered = refl
order_more least other most more (row ∷ rows) low high ordered =
    let is = ordered_of least most row rows ordered in
    let at = row.packet.moment in
    let same : at ≤ at = omega arith in
    of_ordered other more row rows (record {
      low = le_trans low is.low;
      high = le_trans is.high high;
      behind = order_more at at most more rows same high is.behind;
    })

order_push : (least most : ℕ) (rows : List HeldRow) (row : HeldRow) → least ≤ row.packet.moment
    → most ≤ row.packet.moment → in_order least most rows ≡ true
    → in_order least row.packet.moment (rows ++ row ∷ []) ≡ true
order_push least most [] row low high ordered =
    let same : row.packet.moment ≤ row.packet.moment = omega arith in
    of_ordered least row.packet.moment row [] (record { low = low; high = same; behind = refl })
order_push least most (first ∷ rows) row low high ordered =
    let is = ordered_of least most first rows ordered in
    of_ordered least row.packet.moment first (rows ++ row ∷ []) (record {
      low = is.low;
      high = le_trans is.high high;
      behind = order_push first.packet.moment most rows row (le_trans is.high high) high is.behind;
    })

order_kept : (p : HeldRow → Bool) (least most : ℕ) (rows : List HeldRow) → in_order least most rows ≡ true
    → in_order least most (filter p rows) ≡ true
order_kept p least most [] ordered = refl
order_kept p least most (row ∷ rows) ordered =
    let is = ordered_of least most row rows ordered in
    let rest = order_kept p row.packet.moment most rows is.behind in
    let same : most ≤ most = omega arith in
    elim (p row) as (λ b. in_order least most (cond b (row ∷ filter p rows) (filter p rows)) ≡ true) [
      | true ↦ of_ordered least most row (filter p rows) (record { low = is.low; high = is.high; behind = rest })
      | false ↦ order_more row.packet.moment least most most (filter p rows) is.low same rest
    ]

-- the same of what is held by the last packet's moment
none_held : (rows : List HeldRow) → (length rows == 0) ≡ true → rows ≡ []
none_held [] none = refl
none_held (row ∷ rows) none = absurd (omega (arith, eqb-true (length (row ∷ rows)) 0 none))

pub held_by : (last : Option ℕ) (at : ℕ) (rows : List HeldRow) → IfSome last (λ moment. moment ≤ at)
    → held_in_order last rows ≡ true → held_in_order (Some at) rows ≡ true
held_by None at rows late ordered = ap (in_order 0 at) (none_held rows ordered)
held_by (Some moment) at rows late ordered =
    let least : 0 ≤ 0 = omega arith in order_more 0 0 moment at rows least late ordered

pub held_push : (at : ℕ) (rows : List HeldRow) (row : HeldRow) → row.packet.moment ≡ at
    → held_in_order (Some at) rows ≡ true → held_in_order (Some at) (rows ++ row ∷ []) ≡ true
held_push at rows row is ordered =
    let low : 0 ≤ row.packet.moment = omega arith in
    let high : at ≤ row.packet.moment = omega (arith, is) in
    ap (λ most. in_order 0 most (rows ++ row ∷ [])) (sym is) ∙ order_push 0 at rows row low high ordered

pub held_kept : (p : HeldRow → Bool) (last : Option ℕ) (rows : List HeldRow) → held_in_order last rows ≡ true
    → held_in_order last (filter p rows) ≡ true
held_kept p None rows ordered =
    ap (λ (held : List HeldRow). length (filter p held) == 0) (none_held rows ordered)
held_kept p (Some last) rows ordered = order_kept p 0 last rows ordered
