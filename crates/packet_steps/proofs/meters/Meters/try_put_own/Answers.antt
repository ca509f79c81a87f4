use Rattle.std.proofs.Common.{set, ◌∙◌, ap}
use Rattle.packet_steps.specs.Meters.{MetersState}
use Rattle.packet_steps.proofs.OwnMeters.{put_kept, same_state}
use Rattle.packet_steps.proofs.meters.Meters.try_put_own.Goals as goal

pub returns : goal.returns
returns c =
    let kept = c.keep_own.new.self in
    let same = c.keep_own.ensures.same in
    same_state kept.shared c.args.self.now.shared _ _ (ap (λ (m : MetersState). m.shared) same)
    (put_kept kept.own.items c.put_at.new.own.items c.args.index c.args.meter c.in_ok-keep_own.ensures.kept
    c.put_at.ensures
    ∙ ap (λ (m : MetersState). set m.own c.args.index c.args.meter) same)
