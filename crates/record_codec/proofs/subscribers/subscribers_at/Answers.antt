use Rattle.std.proofs.Common.{◌≡◌, sym, ◌∙◌, ap, arith, length}
use Rattle.std.proofs.lemmas.List.{length_push}
use Rattle.std.proofs.lemmas.Result.{err_from_is_err_and}
use Rattle.tft_codec.proofs.Lists.{each_push}
use Rattle.record_codec.specs.Saved.{saved, all_saved, IsResting}
use Rattle.record_codec.specs.Read.{subscribers_at}
use Rattle.record_codec.proofs.SlotLoops.{goes_on_slot, ends_slot, is_done_slot}
use Rattle.record_codec.proofs.RoomLemmas.{saved-push}
use Rattle.record_codec.proofs.subscribers.subscribers_at.Goals as goal

pub returns-in_err-found-clause-read : goal.returns-in_err-found-clause-read
returns-in_err-found-clause-read c =
    let p = err_from_is_err_and c.from_residual.result c.from_residual.ensures.1 in
    rw (p.1, p.2)
    (ends_slot c.args.moment c.in_err-found.field-0.0 (all_saved c.loop-slot.imsis.items c.loop-slot.subscribers.items)
    c.args.count c.loop-slot.slot c.loop-slot.input.rest.now
    (subscribers_at c.args.moment 0 c.args.count c.args.input.now.rest.now) c.loop-slot-test.true
    c.in_err-found.ensures.read c.loop-slot.invariant.read)

pub loop-slot-preserved : goal.loop-slot-preserved
loop-slot-preserved c =
    let imsis = c.in_ok-push.ensures.items in
    let others = c.in_ok-push-2.ensures.items in
    let one = c.in_ok-found.found in
    let long : length c.loop-slot.imsis.items ≡ length c.loop-slot.subscribers.items
    = c.loop-slot.invariant.imsis ∙ sym c.loop-slot.invariant.each in
    record {
      read = rw (
        imsis,
        others,
        saved-push c.loop-slot.imsis.items c.loop-slot.subscribers.items one.imsi
            one.subscriber long,
      )
          (goes_on_slot c.args.moment (all_saved c.loop-slot.imsis.items c.loop-slot.subscribers.items) c.args.count
          c.loop-slot.slot c.loop-slot.input.rest.now (saved one.imsi one.subscriber) c.subscriber_at.new.input.rest.now
          (subscribers_at c.args.moment 0 c.args.count c.args.input.now.rest.now) c.loop-slot-test.true
          c.in_ok-found.ensures.read c.loop-slot.invariant.read);
      imsis = omega (arith, ap length imsis, length_push c.loop-slot.imsis.items one.imsi, c.loop-slot.invariant.imsis);
      each = omega (
        arith,
        ap length others,
        length_push c.loop-slot.subscribers.items one.subscriber,
        c.loop-slot.invariant.each,
      );
      resting = rw others
          (each_push IsResting c.loop-slot.subscribers.items one.subscriber c.loop-slot.invariant.resting
          c.in_ok-found.ensures.resting);
    }

pub returns-clause-read : goal.returns-clause-read
returns-clause-read c =
    is_done_slot c.args.moment (all_saved c.loop-slot.imsis.items c.loop-slot.subscribers.items) c.args.count
    c.loop-slot.slot c.loop-slot.input.rest.now
    (subscribers_at c.args.moment 0 c.args.count c.args.input.now.rest.now) c.loop-slot-test.false
    c.loop-slot.invariant.read
