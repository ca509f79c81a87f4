use Rattle.std.proofs.Common.{◌≡◌, ◌+◌, List, length, map, take, get_or, sym, ap, subst, ◌∙◌, arith}
use Rattle.std.proofs.lemmas.List.{get_or-map, length-map}
use Rattle.std.proofs.lemmas.List.Elements.{All-get_or}
use Rattle.demux.specs.Trace.{Meaning}
use Rattle.lawful_run.specs.LinesTold.{LineTold}
use Rattle.slot_execution.specs.Kept.{IsPlaced, meaning_in}
use Rattle.at_rest.specs.Meant.{IsWithin}
use Rattle.epoch_drive.specs.Opened.{opened}
use Rattle.epoch_drive.proofs.ShareLemmas.{has_met, shares_next, shares_over}
use Rattle.epoch_drive.proofs.sharing.shares_of.Goals as goal

pub share_line-requires-clause-within : goal.share_line-requires-clause-within
share_line-requires-clause-within c =
    let at = c.loop-i in
    let now = c.index-kept-i.result in
    let meant = meaning_in c.args.octets.now in
    subst (λ n. IsWithin n (meant now)) (sym at.invariant.many)
    (subst (IsWithin (length c.args.subscribers.now))
    (get_or-map meant c.args.kept.now at.i now (meant now) c.loop-i-test.true ∙ ap meant (sym c.index-kept-i.is))
    (All-get_or (IsWithin (length c.args.subscribers.now)) (map meant c.args.kept.now) at.i (meant now)
    (omega (arith, c.loop-i-test.true, length-map c.args.kept.now meant)) c.requires.within))

pub share_line-requires-clause-placed : goal.share_line-requires-clause-placed
share_line-requires-clause-placed c =
    let at = c.loop-i in
    let now = c.index-kept-i.result in
    subst (IsPlaced c.args.octets.now) (sym c.index-kept-i.is)
    (All-get_or (IsPlaced c.args.octets.now) c.args.kept.now at.i now c.loop-i-test.true c.requires.placed)

pub share_line-requires-clause-met : goal.share_line-requires-clause-met
share_line-requires-clause-met c =
    let at = c.loop-i in
    let plan = c.args.scheduled.now in
    let now = c.index-kept-i.result in
    let meant = meaning_in c.args.octets.now in
    let made : List Meaning = map meant c.args.kept.now in
    let long : length made ≡ length c.args.kept.now = length-map c.args.kept.now meant in
    has_met at.shares.items c.args.subscribers.now plan made at.i (c.requires.outcomes ∙ sym long) (meant now)
    c.index-outcomes-i.result (omega (arith, at.invariant.many, at.shares.ok.0)) c.requires.within
    (omega (arith, c.loop-i-test.true, long))
    (ap meant c.index-kept-i.is ∙ sym (get_or-map meant c.args.kept.now at.i now (meant now) c.loop-i-test.true))
    (c.index-outcomes-i.is ∙ ap (λ l. get_or l at.i c.index-outcomes-i.result) c.outcomes-outcomes.ensures)
    (at.invariant.shares 0) c.requires.met

pub loop-i-preserved : goal.loop-i-preserved
loop-i-preserved c =
    let at = c.loop-i in
    let plan = c.args.scheduled.now in
    let now = c.index-kept-i.result in
    let meant = meaning_in c.args.octets.now in
    let made : List Meaning = map meant c.args.kept.now in
    let long : length made ≡ length c.args.kept.now = length-map c.args.kept.now meant in
    record {
      many = c.in_ok-share_line.ensures.many ∙ at.invariant.many;
      shares = λ first.
          let told : List LineTold = take at.i (opened first made plan.outcomes) in
          shares_next c.share_line.new.shares.items c.args.subscribers.now plan made at.i (c.requires.outcomes ∙ sym long)
          first (meant now) c.index-outcomes-i.result (omega (arith, c.loop-i-test.true, long))
          (ap meant c.index-kept-i.is ∙ sym (get_or-map meant c.args.kept.now at.i now (meant now) c.loop-i-test.true))
          (c.index-outcomes-i.is ∙ ap (λ l. get_or l at.i c.index-outcomes-i.result) c.outcomes-outcomes.ensures)
          (c.in_ok-share_line.ensures.shares told (first + at.i) (at.invariant.shares first));
    }

pub returns-clause-shares : goal.returns-clause-shares
returns-clause-shares c = λ first.
    let at = c.loop-i in
    let meant = meaning_in c.args.octets.now in
    let made : List Meaning = map meant c.args.kept.now in
    let long : length made ≡ length c.args.kept.now = length-map c.args.kept.now meant in
    shares_over at.shares.items c.args.subscribers.now c.args.scheduled.now made at.i (c.requires.outcomes ∙ sym long)
    first (omega (arith, c.loop-i-test.false, long)) (at.invariant.shares first)
