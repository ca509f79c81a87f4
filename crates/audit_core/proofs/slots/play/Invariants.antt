use Rattle.audit_core.specs.Meant.{lines_of}
use Rattle.audit_core.proofs.PlayLemmas.{Half}
use Rattle.audit_core.proofs.slots.play.Given as goal

abbrev pub invariant-loop-place : goal.invariant-loop-place
invariant-loop-place l = Half (lines_of l.lines) l.fn.subscribers.items l.subscribers.items l.place l.played
