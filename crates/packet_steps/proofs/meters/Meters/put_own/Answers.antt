use Rattle.std.proofs.Common.{set, refl, ◌∙◌, ap}
use Rattle.packet_steps.specs.Meters.{with_bucket, own_in_use}
use Rattle.packet_steps.proofs.OwnMeters.{put_kept, same_state}
use Rattle.packet_steps.proofs.meters.Meters.put_own.Goals as goal

pub returns : goal.returns
returns c =
    let old = c.args.self.now in
    same_state old.shared old.shared _ _ refl
    (put_kept old.own.items c.put_at.new.own.items c.args.index c.put.new.self c.requires c.put_at.ensures
    ∙ ap (set (own_in_use old.own.items) c.args.index)
    (c.put.ensures ∙ ap (with_bucket c.args.up c.args.bucket) c.own_meter-meter.ensures))
