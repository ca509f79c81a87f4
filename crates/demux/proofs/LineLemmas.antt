-- What a line of a kind asks.
use Rattle.std.proofs.Common.{◌≡◌, ap}
use Rattle.trace_lines.specs.Kind.{LineKind}
use Rattle.trace_lines.specs.Line.{Line}
use Rattle.demux.specs.Line.{kind_asks, asked}

pub asked_as : (line : Line) (kind : LineKind) → line.kind ≡ kind → asked line ≡ kind_asks line.number line.moment kind
unfolding asked
asked_as line kind is = ap (kind_asks line.number line.moment) is
