-- The lists of lines, one line at a time.
use Rattle.std.proofs.Common.{◌≡◌, ℕ, suc, ◌+◌, ◌-◌, ◌*◌, ◌<◌, ◌∷◌, refl, arith}
use Rattle.trace_maker.specs.Generated.{attach_line, attach_lines, drawn_lines, line_drawn}
use Rattle.trace_maker.specs.Said.{kind_of}

pub attach_next : (slot subscribers : ℕ) → slot < subscribers
    → attach_lines slot (subscribers - slot) ≡ attach_line slot ∷ attach_lines (slot + 1) (subscribers - (slot + 1))
attach_next slot subscribers below =
    let one_less : subscribers - slot ≡ suc (subscribers - (slot + 1)) = omega arith in rw one_less refl

pub drawn_next : (subscribers state drawn lines : ℕ) → drawn < lines
    → drawn_lines subscribers state (drawn + 1) (lines - drawn)
    ≡ record { number = subscribers + (drawn + 1); moment = 100 * (drawn + 1); kind = kind_of (line_drawn subscribers state).said }
    ∷ drawn_lines subscribers (line_drawn subscribers state).state (drawn + 1 + 1) (lines - (drawn + 1))
drawn_next subscribers state drawn lines below =
    let one_less : lines - drawn ≡ suc (lines - (drawn + 1)) = omega arith in rw one_less refl
