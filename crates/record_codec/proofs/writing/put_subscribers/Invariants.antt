use Rattle.std.proofs.Common.{◌≡◌, ◌++◌, take}
use Rattle.std.specs.List.{flat_map}
use Rattle.record_codec.specs.Saved.{all_saved}
use Rattle.record_codec.specs.Spelling.{subscriber_text}
use Rattle.record_codec.proofs.writing.put_subscribers.Given as goal

abbrev pub invariant-loop-slot : goal.invariant-loop-slot
invariant-loop-slot l =
    l.text.items ≡ l.fn.text.items ++ flat_map subscriber_text (all_saved (take l.slot l.imsis) (take l.slot
    l.subscribers))
