use Rattle.std.proofs.Common.{◌≡◌, ◌≤◌, ◌^◌, List}
use Rattle.std.specs.Io.KnownBytes.{prepend_known}
use Rattle.pc_outside.specs.WhereTold.{WhereTold}
use Rattle.pc_outside.specs.InputRead.{HasRead}
use Rattle.pc_outside.specs.Texts.{Text}
use Rattle.record_codec.specs.StateLines.{HasHeard}
use Rattle.record_codec.proofs.state_reading.read_state.Given as goal

abbrev pub invariant-loop-lines_heard : goal.invariant-loop-lines_heard
invariant-loop-lines_heard g l = record {
  read : (done : List Text) × HasHeard l.lines_heard done
      × WhereTold (g.S.Source.left l.fn.source) (prepend_known l.buf.buffered (g.S.Source.left l.source))
      (λ octets rest. HasRead octets rest l.buf.room done);
  roomy : l.buf.room ≤ 2 ^ 40;
  no_fault : g.S.Source.faults l.source ≡ g.S.Source.faults l.fn.source;
}

abbrev pub decreases-loop-lines_heard : goal.decreases-loop-lines_heard
decreases-loop-lines_heard g l = l.buf.room
