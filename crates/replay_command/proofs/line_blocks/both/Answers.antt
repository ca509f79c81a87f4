use Rattle.replay_command.proofs.ApartLemmas.{breaks_off, is_whole, joined_first}
use Rattle.replay_command.proofs.line_blocks.both.Goals as goal

pub returns-then-not-first : goal.returns-then-not-first
returns-then-not-first c = λ prefix back first second. breaks_off c.args.first prefix back first c.if-not-first.true

pub returns : goal.returns
returns c = λ prefix back first second.
    record {
      behind = second.behind;
      lines = rw c.in_ok-append.ensures.items
          (joined_first c.args.first.lines.items c.args.second.lines.items prefix back first.behind second.behind
          first.lines (first.whole (is_whole c.args.first.whole c.if-not-first.false)) second.lines);
      whole = second.whole;
    }
