use Rattle.epoch_schedule.proofs.Listing.{none_listed}
use Rattle.epoch_schedule.proofs.waiting.WaitingSlots.new.Goals as goal

pub returns : goal.returns
returns c = λ setup. none_listed setup _ c.new-4.ensures.items
