use Rattle.std.proofs.Common.{◌≡◌, ◌∙◌, ap, map, arith}
use Rattle.std.specs.Global.{Vec}
use Rattle.audit_core.specs.Meant.{lines_of}
use Rattle.audit_core.specs.Played.{AreShares, StandInEach}
use Rattle.audit_core.specs.Sharing.{shares}
use Rattle.audit_core.specs.declared.told_line.ToldLine.{ToldLine}
use Rattle.audit_core.proofs.KeyLemmas.{all_shares, all_stand, next_keyed, next_stands}
use Rattle.audit_core.proofs.PlayLemmas.{ok_from}
use Rattle.audit_core.proofs.slots.by_slot.Goals as goal

pub loop-told-preserved : goal.loop-told-preserved
loop-told-preserved c =
    let i = c.loop-told.told-index in
    let told = c.told-item.result in
    let keyed = c.loop-told.keyed.items in
    record {
      by_slot = next_keyed keyed c.args.lines.now i told c.loop-told-test.true c.told-item.is
          c.push_keyed.new.all.items c.in_ok-push_keyed.ensures c.loop-told.invariant.by_slot;
      stand = λ all. next_stands keyed c.args.lines.now i told c.loop-told-test.true c.told-item.is
          c.push_keyed.new.all.items c.in_ok-push_keyed.ensures all (c.loop-told.invariant.stand all);
    }

pub returns-clause-shares : goal.returns-clause-shares
returns-clause-shares c =
    ok_from (λ (vs : Vec (Vec ToldLine)). map (λ (v : Vec ToldLine). v.items) vs.items ≡ shares c.args.slots c.as_slice.result.now)
    (λ (vs : Vec (Vec ToldLine)). AreShares vs.items c.args.slots (lines_of c.args.lines.now)) c.shares_of.result
    (λ vs are. all_shares vs.items c.args.slots c.loop-told.told-index c.loop-told.keyed.items c.args.lines.now
    (omega arith) c.loop-told.invariant.by_slot (are ∙ ap (shares c.args.slots) c.as_slice.ensures.value))
    c.shares_of.ensures

pub returns-clause-stand : goal.returns-clause-stand
returns-clause-stand c = λ all.
    ok_from (λ (vs : Vec (Vec ToldLine)). map (λ (v : Vec ToldLine). v.items) vs.items ≡ shares c.args.slots c.as_slice.result.now)
    (λ (vs : Vec (Vec ToldLine)). StandInEach vs.items) c.shares_of.result
    (λ vs are. all_stand vs.items c.args.slots c.loop-told.keyed.items (c.loop-told.invariant.stand all)
    (are ∙ ap (shares c.args.slots) c.as_slice.ensures.value))
    c.shares_of.ensures
