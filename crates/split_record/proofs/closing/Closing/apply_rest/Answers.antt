use Rattle.std.proofs.Common.{◌+◌, ◌++◌, ◌∷◌, drop, option_to_list, sym, ◌∙◌}
use Rattle.split_record.specs.Origin.{start_in, commands_in, commands_left}
use Rattle.split_record.proofs.Leaving.{command_done, next_at}
use Rattle.split_record.proofs.closing.Closing.apply_rest.Goals as goal

pub returns-clause-at : goal.returns-clause-at
returns-clause-at c =
    let old = c.args.self.now in
    let origin = c.args.origin.now in
    let is = c.requires.at in
    let done = old.control.controller in
    let item = c.in-Some.item.now in
    let rest = drop (old.applied + 1) old.control.rest.items in
    let next = next_at old.control.rest.items c.deref.result.now old.applied item c.deref.ensures.value
    c.in-Some.ensures.lookup.1 c.in-Some.ensures.lookup.3.0 in
    record {
      left_to_do = command_done (start_in origin) (commands_in origin) done.session _ done.number _ done.notes.items _
          old.control.due item (commands_left old) (option_to_list old.control.head ++ rest) _ is.left_to_do
          c.requires.due
          ((λ i. option_to_list (c.requires.head i) ++ next i)
          ∙ (λ i. item ∷ (option_to_list (sym c.requires.head i) ++ rest)))
          c.in_ok-apply.ensures.session c.in_ok-apply.ensures.number c.in_ok-apply.ensures.notes;
      roomy = is.roomy;
      few = is.few;
      started = is.started;
      items = is.items;
      places = is.places;
      met = is.met;
    }
