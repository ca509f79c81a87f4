use Rattle.epoch_schedule.proofs.Lines.{each_slot_fits, each_packet_is_handled}
use Rattle.epoch_schedule.proofs.schedule_laws.every_schedule_fits.Goals as goal

pub returns : goal.returns
returns c = record { fits = each_slot_fits; handled = each_packet_is_handled }
