-- The line of a plan.
use Rattle.trace_lines.specs.Line.{Line}
use Rattle.trace_maker.specs.Said.{kind_of}
use Rattle.trace_maker.specs.declared.maker.LinePlan.{LinePlan}

abbrev pub line_of : LinePlan → Line
line_of plan = record { number = plan.number; moment = plan.moment; kind = kind_of plan.said }
