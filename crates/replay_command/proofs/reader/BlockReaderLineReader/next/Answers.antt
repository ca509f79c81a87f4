use Rattle.std.proofs.Common.{subst}
use Rattle.replay_command.specs.Apart.{AreFirst}
use Rattle.replay_command.proofs.reader.BlockReaderLineReader.next.Goals as goal

pub invariant_of-self : goal.invariant_of-self
invariant_of-self g c =
    let p = c.self.invariant in
    let are = subst (λ lines. AreFirst lines c.self.inside.buf.buffered p.0) c.in-Some.ensures.items p.1 in
    (p.0, rw (c.give.ensures.behind are.0 are.1) are.2)

pub ahead-requires-sync-R : goal.ahead-requires-sync-R
ahead-requires-sync-R g c κs within = c.requires
