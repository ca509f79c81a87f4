use Rattle.std.proofs.Common.{◌∙◌, ap, subst}
use Rattle.charging_book.specs.Parts.{ArePiecesOf}
use Rattle.packet_steps.specs.Meters.{in_use}
use Rattle.packet_steps.specs.Standing.{CountersState}
use Rattle.packet_steps.specs.Parts.{buckets_in}
use Rattle.packet_steps.proofs.counters.Counters.parts.Goals as goal

pub returns-clause-parts : goal.returns-clause-parts
returns-clause-parts c = record {
  last = ap (λ (s : CountersState). s.last) c.self.view_is;
  buckets = c.in_ok-buckets.ensures ∙ ap (λ bs. buckets_in bs (in_use c.self.inside.meters)) c.bearers.ensures.value
      ∙ ap (λ (s : CountersState). buckets_in c.args.version.now.bearers s.meters) c.self.view_is;
  pieces = subst (λ (s : CountersState). ArePiecesOf s.book c.in_ok-pieces.field-0.items) c.self.view_is
      c.in_ok-pieces.ensures.pieces;
  held = c.in_ok-copies_of.ensures ∙ c.deref.ensures.value ∙ ap (λ (s : CountersState). s.held) c.self.view_is;
}
