use Rattle.std.proofs.Common.{◌++◌, length, sym, ap, subst, ◌∙◌, arith}
use Rattle.lawful_run.specs.Merging.{behind}
use Rattle.lawful_run.specs.Run.{told_in}
use Rattle.lawful_run.specs.Trace.{meant_from}
use Rattle.at_rest.specs.Rest.{IsBehind, RepresentsAll, Rest, bound_at}
use Rattle.epoch_drive.specs.Taken.{MayCome, rest_of}
use Rattle.epoch_drive.specs.Telling.{told_by}
use Rattle.epoch_drive.proofs.Wholes.{behind_full, represents_full}
use Rattle.epoch_drive.proofs.whole.drive_epoch.Goals as goal

pub take_all-requires : goal.take_all-requires
take_all-requires c = (c.args.rest, c.of-gateway.ensures)

pub drive-requires : goal.drive-requires
drive-requires c =
    let rest : Rest = c.args.rest in
    let may : MayCome rest c.args.lines.now = record { later = c.requires.later; few = c.requires.few } in
    (rest, c.args.lines.now, (c.in_ok-take_all.ensures rest c.of-gateway.ensures, may, c.requires.workers))

pub rest_again-requires-clause-resting : goal.rest_again-requires-clause-resting
rest_again-requires-clause-resting c =
    let rest : Rest = c.args.rest in
    c.in_ok-epoch.ensures.rests rest c.args.lines.now (c.in_ok-take_all.ensures rest c.of-gateway.ensures)
    (record { later = c.requires.later; few = c.requires.few })

pub rest_again-requires-clause-room : goal.rest_again-requires-clause-room
rest_again-requires-clause-room c =
    let rest : Rest = c.args.rest in
    let set_up = c.in_ok-epoch.ensures.setup rest c.args.lines.now (c.in_ok-take_all.ensures rest c.of-gateway.ensures) in
    let same = ap (λ (r : Rest). r.room) c.rest.view_is in (
      omega (arith, set_up.1, same, c.rest.inside.roomy.0),
      omega (arith, set_up.1, same, c.rest.inside.roomy.1),
    )

pub rest_again-requires-clause-lane : goal.rest_again-requires-clause-lane
rest_again-requires-clause-lane c =
    let rest : Rest = c.args.rest in
    let set_up = c.in_ok-epoch.ensures.setup rest c.args.lines.now (c.in_ok-take_all.ensures rest c.of-gateway.ensures) in
    let same = ap (λ (r : Rest). r.lane) c.rest.view_is in (
      omega (arith, set_up.2, same, c.rest.inside.lane_roomy.0),
      omega (arith, set_up.2, same, c.rest.inside.lane_roomy.1),
    )

pub rest_again-requires-clause-few : goal.rest_again-requires-clause-few
rest_again-requires-clause-few c =
    let rest : Rest = c.args.rest in
    let counted = c.in_ok-epoch.ensures.lines rest c.args.lines.now (c.in_ok-take_all.ensures rest c.of-gateway.ensures) in
    omega (arith, counted, c.requires.few)

pub returns-clause-driven : goal.returns-clause-driven
returns-clause-driven c = λ prior before slots is represents most.
    let rest : Rest = c.args.rest in
    let has = c.in_ok-take_all.ensures rest c.of-gateway.ensures in
    c.in_ok-epoch.ensures.driven rest c.args.lines.now prior before slots has
    (record { later = c.requires.later; few = c.requires.few }) is represents
    (omega (arith, most, ap (λ (r : Rest). length r.book) c.rest_again.ensures))

pub returns-clause-represents : goal.returns-clause-represents
returns-clause-represents c = λ prior before is represents.
    let rest : Rest = c.args.rest in
    let has = c.in_ok-take_all.ensures rest c.of-gateway.ensures in
    let made = meant_from rest.slices prior c.args.lines.now in
    subst (λ (r : Rest). RepresentsAll r (behind before (told_in made (told_by c.in_ok-epoch.epoch))))
    (sym c.rest_again.ensures)
    (represents_full (rest_of c.drive.new.self) c.rest.inside.fulls
    (behind before (told_in made (told_by c.in_ok-epoch.epoch)))
    (c.in_ok-epoch.ensures.represents rest c.args.lines.now prior before has
    (record { later = c.requires.later; few = c.requires.few }) is represents))

pub returns-clause-behind : goal.returns-clause-behind
returns-clause-behind c = λ prior is.
    let rest : Rest = c.args.rest in
    let has = c.in_ok-take_all.ensures rest c.of-gateway.ensures in
    subst (λ (r : Rest). IsBehind r (prior ++ c.args.lines.now)) (sym c.rest_again.ensures)
    (behind_full (rest_of c.drive.new.self) c.rest.inside.fulls (prior ++ c.args.lines.now)
    (c.in_ok-epoch.ensures.behind rest c.args.lines.now prior has
    (record { later = c.requires.later; few = c.requires.few }) is))

pub returns-clause-bounds : goal.returns-clause-bounds
returns-clause-bounds c = λ prior is slot.
    let rest : Rest = c.args.rest in
    let has = c.in_ok-take_all.ensures rest c.of-gateway.ensures in
    ap (λ (r : Rest). bound_at r slot) c.rest_again.ensures
    ∙ c.in_ok-epoch.ensures.bounds rest c.args.lines.now prior has
    (record { later = c.requires.later; few = c.requires.few }) is slot

pub returns-clause-setup : goal.returns-clause-setup
returns-clause-setup c =
    let rest : Rest = c.args.rest in
    let set_up = c.in_ok-epoch.ensures.setup rest c.args.lines.now (c.in_ok-take_all.ensures rest c.of-gateway.ensures) in (
      ap (λ (r : Rest). r.slices) c.rest_again.ensures ∙ set_up.0,
      ap (λ (r : Rest). r.room) c.rest_again.ensures ∙ set_up.1,
      ap (λ (r : Rest). r.lane) c.rest_again.ensures ∙ set_up.2,
      ap (λ (r : Rest). r.fulls) c.rest_again.ensures ∙ ap (λ (r : Rest). r.fulls) c.rest.view_is,
    )

pub returns-clause-lines : goal.returns-clause-lines
returns-clause-lines c =
    let rest : Rest = c.args.rest in
    ap (λ (r : Rest). r.lines) c.rest_again.ensures
    ∙ c.in_ok-epoch.ensures.lines rest c.args.lines.now (c.in_ok-take_all.ensures rest c.of-gateway.ensures)

pub returns-clause-latest : goal.returns-clause-latest
returns-clause-latest c =
    let rest : Rest = c.args.rest in
    ap (λ (r : Rest). r.latest) c.rest_again.ensures
    ∙ c.in_ok-epoch.ensures.latest rest c.args.lines.now (c.in_ok-take_all.ensures rest c.of-gateway.ensures)

pub returns-clause-turns : goal.returns-clause-turns
returns-clause-turns c =
    let rest : Rest = c.args.rest in
    c.in_ok-epoch.ensures.turns rest c.args.lines.now (c.in_ok-take_all.ensures rest c.of-gateway.ensures)
