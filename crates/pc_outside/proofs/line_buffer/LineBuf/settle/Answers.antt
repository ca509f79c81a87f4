use Rattle.std.proofs.Common.{ℕ, refl, arith, length-take}
use Rattle.std.proofs.lemmas.List.Edits.{length-between}
use Rattle.pc_outside.proofs.Settling.{found_whole, found_long, found_full, found_unfinished}
use Rattle.pc_outside.proofs.line_buffer.LineBuf.settle.Goals as goal

pub returns-in-Some-clause-settled : goal.returns-in-Some-clause-settled
returns-in-Some-clause-settled c =
    rw (← c.self.view_is)
    (found_whole c.self.inside.octets.items _ c.self.inside.from c.self.inside.to c.in-Some.len c.self.inside.taken _
    (omega arith) (omega arith) (omega arith)
    (omega (arith, c.in-Some.ensures.within, length-take {A = ℕ})) c.in-Some.ensures.short
    (rw c.deref.ensures.value at c.in-Some.ensures.line) (rw c.deref.ensures.value at c.in-Some.ensures.newline))

pub returns-in-None-clause-settled : goal.returns-in-None-clause-settled
returns-in-None-clause-settled c = (
  refl,
  rw (← c.self.view_is)
      (found_long _ _ (omega (
        arith,
        length-between c.self.inside.octets.items c.self.inside.from c.self.inside.to
            (omega arith),
      ))
      (rw c.deref.ensures.value at c.if-buffered-gt-LINE_MAX.true) (rw c.deref.ensures.value at c.in-None.ensures.none)),
)

pub returns-in-None-2-clause-settled : goal.returns-in-None-2-clause-settled
returns-in-None-2-clause-settled c = (
  refl,
  rw (← c.self.view_is)
      (found_full _ _ (omega (
        arith,
        length-between c.self.inside.octets.items c.self.inside.from c.self.inside.to
            (omega arith),
      ))
      (rw c.deref.ensures.value at c.if-buffered-gt-LINE_MAX.false) (rw c.deref.ensures.value at c.in-None.ensures.none)),
)

pub returns-in-None-3-clause-waits : goal.returns-in-None-3-clause-waits
returns-in-None-3-clause-waits c = (
  refl,
  rw (← c.self.view_is)
      (found_unfinished _ (omega (
        arith,
        length-between c.self.inside.octets.items c.self.inside.from
            c.self.inside.to (omega arith),
      ))
      (rw c.deref.ensures.value at c.if-buffered-gt-LINE_MAX.false) (rw c.deref.ensures.value at c.in-None.ensures.none)),
)
