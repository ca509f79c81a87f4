-- Sums of counts.
use Rattle.std.proofs.Common.{◌≡◌, ℕ, ◌+◌, arith, add_assoc, zero-add, add-zero}
use Rattle.report_lines.specs.Counts.{Counts, all_held, held, nothing, plus}

pub plus-assoc : (a b c : Counts) → plus (plus a b) c ≡ plus a (plus b c)
plus-assoc a b c = λ i. record {
  notes = add_assoc a.notes b.notes c.notes i;
  commands = add_assoc a.commands b.commands c.commands i;
  packets = add_assoc a.packets b.packets c.packets i;
  refusals = add_assoc a.refusals b.refusals c.refusals i;
  records = add_assoc a.records b.records c.records i;
  opens = add_assoc a.opens b.opens c.opens i;
  up = add_assoc a.up b.up c.up i;
  down = add_assoc a.down b.down c.down i;
}

pub nothing-plus : (a : Counts) → plus nothing a ≡ a
nothing-plus a = λ i. record {
  notes = zero-add a.notes i;
  commands = zero-add a.commands i;
  packets = zero-add a.packets i;
  refusals = zero-add a.refusals i;
  records = zero-add a.records i;
  opens = zero-add a.opens i;
  up = zero-add a.up i;
  down = zero-add a.down i;
}

pub plus-nothing : (a : Counts) → plus a nothing ≡ a
plus-nothing a = λ i. record {
  notes = add-zero a.notes i;
  commands = add-zero a.commands i;
  packets = add-zero a.packets i;
  refusals = add-zero a.refusals i;
  records = add-zero a.records i;
  opens = add-zero a.opens i;
  up = add-zero a.up i;
  down = add-zero a.down i;
}

-- a count that stays at its end, and more
held_more : (a b : ℕ) → held (held a + b) ≡ held (a + b)
held_more a b = omega arith

pub all_held-plus : (a b : Counts) → all_held (plus (all_held a) b) ≡ all_held (plus a b)
all_held-plus a b = λ i. record {
  notes = held_more a.notes b.notes i;
  commands = held_more a.commands b.commands i;
  packets = held_more a.packets b.packets i;
  refusals = held_more a.refusals b.refusals i;
  records = held_more a.records b.records i;
  opens = held_more a.opens b.opens i;
  up = held_more a.up b.up i;
  down = held_more a.down b.down i;
}
