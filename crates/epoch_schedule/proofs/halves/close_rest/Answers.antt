use Rattle.std.proofs.Common.{rules, ◌≡◌, ◌+◌, ◌-◌, ◌<◌, [], ◌∷◌, ◌++◌, length, sym, ap, ◌∙◌}
use Rattle.pc_base.specs.declared.packet.Place.TheVariants.{Closing}
use Rattle.epoch_schedule.specs.Parts.{all_learnt, met_behind}
use Rattle.epoch_schedule.proofs.Batches.{met_less}
use Rattle.epoch_schedule.proofs.halves.close_rest.Goals as goal

pub loop-preserved : goal.loop-preserved
loop-preserved c =
    let commands = c.args.commands.now in
    let left = c.args.rest - (c.loop.counter + 1) in
    let learnt : c.learn_all-known.result ≡ all_learnt commands c.loop.known (length c.loop.met) = search rules in
    let below : c.loop.counter < c.args.rest = search rules in
    record {
      known = c.learn_all-known.ensures.few;
      ahead = ap (λ met. met_behind commands c.learn_all-known.result met left) c.in_ok-push.ensures
          ∙ ap
          (λ k. met_behind commands k (c.loop.met ++ record { commands = k; place = Closing } ∷ []) left) learnt
          ∙ sym (met_less commands c.loop.known c.loop.met c.args.rest c.loop.counter below)
          ∙ c.loop.invariant.ahead;
    }
