use Rattle.std.proofs.Common.{subst}
use Rattle.std.proofs.lemmas.List.{take_all}
use Rattle.std.proofs.lemmas.List.Elements.{All-more}
use Rattle.record_codec.specs.Saved.{IsOwnBearer}
use Rattle.save_command.proofs.known.known_bearers.Goals as goal

pub loop-bearer-preserved : goal.loop-bearer-preserved
loop-bearer-preserved c =
    All-more IsOwnBearer c.args.bearers.now c.loop-bearer.bearer-index c.bearer-item.result c.loop-bearer-test.true
    c.loop-bearer.invariant (subst IsOwnBearer c.bearer-item.is c.known_bearer.ensures)

pub returns : goal.returns
returns c = rw (take_all c.loop-bearer.bearer-index c.args.bearers.now c.loop-bearer-test.false) at c.loop-bearer.invariant
