use Rattle.std.proofs.Common.{◌+◌, arith, drop, length-drop}
use Rattle.std.proofs.lemmas.List.{take_rest}
use Rattle.replay_command.proofs.ApartLemmas.{at_place, push_first}
use Rattle.replay_command.proofs.line_blocks.read_part.Goals as goal

pub loop-at-preserved : goal.loop-at-preserved
loop-at-preserved c =
    let at = c.loop-at.at in
    let octets = c.args.octets.now in
    let one = c.in-Some.one in
    record {
      within = omega (
        arith,
        length-drop at octets,
        rw (take_rest octets at) at c.in-Some.ensures.within,
        c.loop-at.invariant.within,
      );
      lines = rw (c.in_ok-push.ensures.items)
          (push_first c.loop-at.lines.items one octets (drop at octets) (drop (at + (one.len + 1)) octets)
          c.loop-at.invariant.lines (at_place one octets at _ (take_rest octets at) c.in-Some.ensures.first));
    }
