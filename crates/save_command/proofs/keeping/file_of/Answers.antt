use Rattle.std.proofs.Common.{◌∙◌, refl, subst}
use Rattle.std.specs.Prelude.{All}
use Rattle.pc_base.specs.Imsi.{IsImsi}
use Rattle.solo_command.specs.Holding.{gateway_of}
use Rattle.save_command.specs.Known.{IsKnown}
use Rattle.save_command.proofs.FileLemmas.{LeavesFile, file_kept, file_rests, leaves_file, places}
use Rattle.save_command.proofs.keeping.file_of.Goals as goal

pub invariant_of-result : goal.invariant_of-result
invariant_of-result c =
    let r = c.requires in
    let solo = c.args.saver.solo in
    let leaves : LeavesFile solo r.0 r.1 = leaves_file c.args.saver r.0 r.1 r.2 r.3 c.imsis.ensures.book
    (subst (All IsImsi) c.imsis.ensures.value c.known_imsis.ensures)
    (subst (All IsKnown) c.deref.ensures.value c.known_subscribers.ensures) in (
      file_kept solo r.0 c.args.saver.lines c.args.saver.latest r.1 leaves r.2.count r.2.moment,
      places solo r.0 r.1 leaves,
      file_rests solo r.0 r.1 leaves,
    )

pub returns : goal.returns
returns c = λ done latest taken few.
    let solo = c.args.saver.solo in
    let leaves : LeavesFile solo done latest = leaves_file c.args.saver done latest taken few c.imsis.ensures.book
    (subst (All IsImsi) c.imsis.ensures.value c.known_imsis.ensures)
    (subst (All IsKnown) c.deref.ensures.value c.known_subscribers.ensures) in
    record {
      gateway = gateway_of solo;
      told = taken.told;
      answers = taken.answers;
      many = places solo done latest leaves;
      saved = refl;
      count = taken.count;
      moment = taken.moment ∙ taken.latest_is;
      kept = file_kept solo done c.args.saver.lines c.args.saver.latest latest leaves taken.count taken.moment;
    }
