use Rattle.std.proofs.Common.{get_or, set, refl, ap, ◌∙◌}
use Rattle.std.specs.Borrow.{Bor}
use Rattle.std.proofs.lemmas.List.{map_push}
use Rattle.control_steps.specs.declared.command.CommandKind.{CommandKind}
use Rattle.slot_execution.specs.Replaying.{commands_lent}
use Rattle.epoch_drive.specs.declared.sharing.Share.{Share}
use Rattle.epoch_drive.proofs.sharing.give_command.Goals as goal

pub returns : goal.returns
returns c =
    let shares = c.args.shares.now.items in
    let share : Share = c.index_mut-share.result.now in
    let after : Share = record share { commands = c.push.new.self } in
    record {
      share = share;
      after = after;
      found = c.index_mut-share.ensures.value ∙ ap (λ k. get_or shares k share) c.slot.view_is;
      is = ap (λ k. set shares k after) c.slot.view_is;
      commands = ap commands_lent c.in_ok-push.ensures.items
          ∙ map_push (λ (command : Bor CommandKind). command.now) share.commands.items c.args.command;
      packets = refl;
    }
