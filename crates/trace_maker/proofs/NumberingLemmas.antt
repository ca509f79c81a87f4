-- The lines of a generated trace stand in order.
use Rattle.std.proofs.Common.{ℕ, zero, suc, ◌+◌, ◌*◌, ◌/◌, ◌^◌, ◌<◌, ◌≤◌, Bool, true, false, ◌==◌, List, ◌++◌, nat_lt, if◌then◌else◌, refl, subst, arith}
use Rattle.std.proofs.Math.Nat.{mod-lt}
use Rattle.pc_base.specs.Slots.{IsSlot}
use Rattle.trace_lines.specs.Line.{Line}
use Rattle.trace_maker.specs.Draws.{moved, number_at}
use Rattle.trace_maker.specs.Generated.{Drawn, attach_lines, chosen, drawn_lines, line_drawn, made}
use Rattle.trace_maker.specs.Numbering.{AreInOrder}
use Rattle.trace_maker.specs.Said.{IsLength, IsSaid}
use Rattle.trace_maker.specs.declared.said.Said.TheVariants.{Attach}
use Rattle.trace_maker.proofs.TextLemmas.{is_short}

-- what is drawn is in range
when : (test : Bool) (a b : Drawn) → IsSaid a.said → IsSaid b.said → IsSaid (if test then a else b).said
when true a b is other = is
when false a b is other = other

chosen_said : (slot choice len state : ℕ) → IsSlot slot → IsLength len → IsSaid (chosen slot choice len state).said
chosen_said slot choice len state is_slot is_length =
    when (nat_lt choice 8) _ _ (is_slot, is_length)
    (when (nat_lt choice 14) _ _ (is_slot, is_length)
    (when (choice == 14) _ _ (is_slot, omega arith) (is_slot, omega arith)))

pub said_in_range : (subscribers state : ℕ) → 1 ≤ subscribers → subscribers ≤ 65533
    → IsSaid (line_drawn subscribers state).said
said_in_range subscribers state some slots =
    let below : number_at subscribers (moved state) < subscribers =
    mod-lt (moved state / 2 ^ 33) {m = subscribers} some in
    chosen_said (number_at subscribers (moved state)) (number_at 16 (moved (moved state)))
    (20 + number_at 181 (moved (moved (moved state)))) (moved (moved (moved state)))
    (omega (arith, below, slots)) (omega arith, omega arith)

-- drawn lines
drawn_in_order : (subscribers state at more least : ℕ) → 1 ≤ subscribers → subscribers ≤ 65533 → least ≤ 100 * at
    → at + more ≤ 100001 → AreInOrder (subscribers + at) least (drawn_lines subscribers state at more)
drawn_in_order subscribers state at zero least some slots later few = tt
drawn_in_order subscribers state at (suc more) least some slots later few =
    let now = line_drawn subscribers state in (
      refl,
      later,
      is_short (record { number = subscribers + at; moment = 100 * at; said = now.said }) (omega (arith, few))
          (said_in_range subscribers state some slots),
      subst (λ number. AreInOrder number (100 * at) (drawn_lines subscribers now.state (at + 1) more)) (omega arith)
          (drawn_in_order subscribers now.state (at + 1) more (100 * at) some slots (omega arith) (omega (arith, few))),
    )

-- lines behind those that attach subscribers
attach_in_order : (slot more : ℕ) (rest : List Line) → slot + more ≤ 65533 → AreInOrder (slot + more + 1) 0 rest
    → AreInOrder (slot + 1) 0 (attach_lines slot more ++ rest)
attach_in_order slot zero rest few behind = subst (λ number. AreInOrder number 0 rest) (omega arith) behind
attach_in_order slot (suc more) rest few behind = (
  refl,
  omega arith,
  is_short (record { number = slot + 1; moment = 0; said = Attach slot }) (omega arith) (omega (arith, few)),
  attach_in_order (slot + 1) more rest (omega (arith, few))
      (subst (λ number. AreInOrder number 0 rest) (omega arith) behind),
)

pub made_in_order : (seed subscribers lines : ℕ) → 1 ≤ subscribers → subscribers ≤ 65533 → lines ≤ 100000
    → AreInOrder 1 0 (made seed subscribers lines)
made_in_order seed subscribers lines some slots most =
    attach_in_order 0 subscribers (drawn_lines subscribers seed 1 lines) (omega (arith, slots))
    (subst (λ number. AreInOrder number 0 (drawn_lines subscribers seed 1 lines)) (omega arith)
    (drawn_in_order subscribers seed 1 lines 0 some slots (omega arith) (omega (arith, most))))
