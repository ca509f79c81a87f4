use Rattle.std.proofs.Common.{◌≡◌, true, sym, ◌∙◌, ap, drop}
use Rattle.packet_steps.specs.Meters.{no_meters, in_use}
use Rattle.packet_steps.specs.Parts.{PartsState, may_fit, first_meter, own_with}
use Rattle.packet_steps.proofs.PartLemmas.{meters_taken, first_test, pieces_made}
use Rattle.packet_steps.proofs.counters.Counters.of.Goals as goal

pub returns-clause-made : goal.returns-clause-made
returns-clause-made c =
    let version = c.args.version.now in
    let tested : may_fit version c.args.parts ≡ true = sym c.may_fit.ensures ∙ c.if-not-may_fit.false in
    let buckets = c.deref-2.ensures.value ∙ ap (λ (p : PartsState). p.buckets) c.parts.view_is in
    let taken = meters_taken version c.args.parts.buckets (in_use c.in_ok-meters.meters) c.bearers.ensures.valid
    (first_test version c.args.parts tested)
    (c.in_ok-meters.ensures.shared ∙ ap first_meter buckets)
    (c.in_ok-meters.ensures.own ∙ ap (λ bs. own_with no_meters bs (drop 2 c.deref-2.result.now)) c.bearers.ensures.value
    ∙ ap (λ xs. own_with no_meters version.bearers (drop 2 xs)) buckets) in
    let pieces = c.deref.ensures.value ∙ ap (λ (p : PartsState). p.pieces) c.parts.view_is in
    let book = pieces_made c.deref.result.now c.args.parts.pieces c.in_ok-book.field-0 c.in-Some.book pieces
    c.in_ok-book.ensures c.in-Some.is in
    record {
      parts_are = record {
        last = sym (ap (λ (p : PartsState). p.last) c.parts.view_is);
        buckets = taken.0;
        pieces = book.0;
        held = sym (ap (λ (p : PartsState). p.held) c.parts.view_is);
      };
      rows = book.1;
      sized = taken.1;
    }
