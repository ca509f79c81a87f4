use Rattle.std.proofs.Common.{◌++◌, drop, option_to_list, ap}
use Rattle.split_record.specs.Origin.{start_in, commands_in, commands_left}
use Rattle.split_record.proofs.Leaving.{command_done}
use Rattle.split_record.proofs.closing.Closing.apply_head.Goals as goal

pub returns-clause-at : goal.returns-clause-at
returns-clause-at c =
    let old = c.args.self.now in
    let origin = c.args.origin.now in
    let is = c.requires.at in
    let done = old.control.controller in
    let rest = drop old.applied old.control.rest.items in
    record {
      left_to_do = command_done (start_in origin) (commands_in origin) done.session _ done.number _ done.notes.items _
          old.control.due c.in-Some.item (commands_left old) rest _ is.left_to_do c.requires.due
          (ap (λ h. option_to_list h ++ rest) c.in-Some.is) c.in_ok-apply.ensures.session c.in_ok-apply.ensures.number
          c.in_ok-apply.ensures.notes;
      roomy = is.roomy;
      few = is.few;
      started = is.started;
      items = is.items;
      places = is.places;
      met = is.met;
    }
