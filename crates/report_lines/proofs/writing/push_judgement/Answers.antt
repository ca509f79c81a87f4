use Rattle.std.proofs.Common.{ap, length}
use Rattle.report_lines.specs.Records.{PacketTold}
use Rattle.report_lines.specs.Text.{place_fields}
use Rattle.report_lines.proofs.WritingLemmas.{shown_by, alone_by, cut_back}
use Rattle.report_lines.proofs.writing.push_judgement.Goals as goal

pub returns-then-places-clause-appended : goal.returns-then-places-clause-appended
returns-then-places-clause-appended c =
    shown_by c.args.judgement.now c.args.places c.push_place_behind.result c.args.out.now
    c.push_unplaced.new.out c.push_place_behind.new.out
    (place_fields c.judgement.inside.place c.judgement.inside.parked) c.if-places.true
    c.in_ok-push_unplaced.ensures.appended
    (ap (λ (told : PacketTold). place_fields told.place told.parked) c.judgement.view_is)
    c.push_place_behind.ensures.appended

pub returns-then-places-clause-kept : goal.returns-then-places-clause-kept
returns-then-places-clause-kept c =
    cut_back c.push_place_behind.result c.args.out.now c.push_unplaced.new.out c.push_place_behind.new.out _ _
    (ap length c.as_slice-start.ensures) c.in_ok-push_unplaced.ensures.appended c.push_place_behind.ensures.kept

pub returns-else-places-clause-appended : goal.returns-else-places-clause-appended
returns-else-places-clause-appended c =
    alone_by c.args.judgement.now c.args.places c.args.out.now c.push_unplaced.new.out c.if-places.false
    c.in_ok-push_unplaced.ensures.appended
