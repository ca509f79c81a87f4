use Rattle.std.proofs.Common.{◌++◌, ◌∙◌, ap, List, ℕ}
use Rattle.std.specs.List.{flat_map}
use Rattle.record_codec.specs.Saved.{saved}
use Rattle.record_codec.specs.Spelling.{subscriber_text}
use Rattle.record_codec.proofs.RoomLemmas.{texts_more, texts_all}
use Rattle.record_codec.proofs.writing.put_subscribers.Goals as goal

pub loop-slot-preserved : goal.loop-slot-preserved
loop-slot-preserved c =
    let imsi = c.index-imsis-slot.result in
    let one = c.index-subscribers-slot.result in
    texts_more c.args.text.now.items c.put_subscriber.new.text.items c.args.imsis.now c.args.subscribers.now
    c.loop-slot.slot imsi one c.requires.long c.loop-slot-test.true c.index-imsis-slot.is c.index-subscribers-slot.is
    (c.in_ok-put_subscriber.ensures
    ∙ ap (λ (t : List ℕ). t ++ subscriber_text (saved imsi one)) c.loop-slot.invariant)

pub returns : goal.returns
returns c =
    c.loop-slot.invariant
    ∙ ap (λ xs. c.args.text.now.items ++ flat_map subscriber_text xs)
    (texts_all c.args.imsis.now c.args.subscribers.now c.loop-slot.slot c.requires.long c.loop-slot-test.false)
