use Rattle.std.proofs.Common.{take, sym, ap, ◌∙◌, subst}
use Rattle.std.specs.List.{fold}
use Rattle.std.proofs.lemmas.List.{take_all}
use Rattle.packet_steps.specs.Change.{released}
use Rattle.packet_steps.specs.Releases.{Releases}
use Rattle.packet_steps.specs.Running.{brought_by, brought_with}
use Rattle.packet_steps.proofs.ListLemmas.{fold_more}
use Rattle.packet_steps.proofs.FoldLemmas.{version_kept, moment_kept}
use Rattle.packet_steps.proofs.releasing.look_at_all.Goals as goal

pub loop-row-preserved : goal.loop-row-preserved
loop-row-preserved c = record {
  releases = λ base so_far known same now.
      let held = c.args.held.now in
      let place = c.loop-row.row-index in
      let row = c.row-item.result in
      let seen = fold released so_far (take place held) in
      subst (Releases c.look_at.new.self base)
      (sym (fold_more released so_far held place row c.loop-row-test.true c.row-item.is))
      (c.in_ok-look_at.ensures.releases base seen (c.loop-row.invariant.releases base so_far known same now)
      (version_kept so_far (take place held) ∙ same) (moment_kept so_far (take place held) ∙ now));
  brings = c.in_ok-look_at.ensures.brings
      ∙ ap (λ b. brought_with c.args.after.now.bearers c.args.at b c.row-item.result) c.loop-row.invariant.brings
      ∙ sym (fold_more (brought_with c.args.after.now.bearers c.args.at) (brought_by c.args.release.now) c.args.held.now
      c.loop-row.row-index c.row-item.result c.loop-row-test.true c.row-item.is);
}

pub returns-clause-releases : goal.returns-clause-releases
returns-clause-releases c = λ base so_far known same now.
    subst (λ rows. Releases c.loop-row.release base (fold released so_far rows))
    (take_all c.loop-row.row-index c.args.held.now c.loop-row-test.false)
    (c.loop-row.invariant.releases base so_far known same now)

pub returns-clause-brings : goal.returns-clause-brings
returns-clause-brings c = c.loop-row.invariant.brings
    ∙ ap (fold (brought_with c.args.after.now.bearers c.args.at) (brought_by c.args.release.now))
    (take_all c.loop-row.row-index c.args.held.now c.loop-row-test.false)
