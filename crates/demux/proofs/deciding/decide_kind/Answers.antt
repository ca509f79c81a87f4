use Rattle.std.proofs.Common.{ap, sym, ◌∙◌}
use Rattle.trace_lines.specs.Kind as kind
use Rattle.trace_lines.specs.Beside.{with_octets}
use Rattle.trace_lines.specs.Line.{Line}
use Rattle.demux.specs.declared.decision.Decision.TheVariants.{Note}
use Rattle.demux.specs.Resolved.{resolved}
use Rattle.demux.proofs.LineLemmas.{asked_as}
use Rattle.demux.proofs.deciding.decide_kind.Goals as goal

pub returns-in-Bearer : goal.returns-in-Bearer
returns-in-Bearer c =
    rw (asked_as c.args.line.now (kind.Bearer c.in-Bearer.imsi c.in-Bearer.qci c.in-Bearer.mbr_up
    c.in-Bearer.mbr_down c.in-Bearer.gbr_up c.in-Bearer.gbr_down c.line.inside.octets)
    (ap (λ (l : Line). l.kind) (sym c.line.view_is)
    ∙ ap (λ kind. with_octets kind c.line.inside.octets) c.in-Bearer.is))
    (rw (
      c.seq_of_line-seq.ensures.value,
      c.as_slice-in-Bearer.ensures,
      ap (λ (l : Line). l.number) c.line.view_is,
    ) at (c.decide_bearer.ensures c.args.slices))

pub returns-in-Filters : goal.returns-in-Filters
returns-in-Filters c =
    rw (asked_as c.args.line.now (kind.Filters c.in-Filters.imsi c.in-Filters.ebi c.line.inside.octets)
    (ap (λ (l : Line). l.kind) (sym c.line.view_is)
    ∙ ap (λ kind. with_octets kind c.line.inside.octets) c.in-Filters.is))
    (rw (
      c.seq_of_line-seq.ensures.value,
      c.as_slice-in-Filters.ensures,
      ap (λ (l : Line). l.number) c.line.view_is,
    ) at (c.decide_filters.ensures c.args.slices))

pub returns-in_ok-words-in-Fence : goal.returns-in_ok-words-in-Fence
unfolding resolved
returns-in_ok-words-in-Fence c = rw (asked_as c.args.line.now kind.Fence
    (ap (λ (l : Line). l.kind) (sym c.line.view_is)
    ∙ ap (λ kind. with_octets kind c.line.inside.octets) c.in-Fence.is)) (ap Note c.in_ok-words-in-Fence.ensures)
