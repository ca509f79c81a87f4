use Rattle.std.proofs.Common.{◌<◌, ◌∙◌, inr, length, length-set, refl, arith}
use Rattle.front_core.proofs.Admitting.{admits, halves_may_enter}
use Rattle.front_core.proofs.Setting.{lot_read}
use Rattle.front_core.proofs.halves.Halves.split_at.Goals as goal

pub admit-requires-clause-may : goal.admit-requires-clause-may
admit-requires-clause-may g c = λ κs within.
    halves_may_enter c.args.slot c.args.self.now.room c.destination-slice.result c.args.subscriber.now
    c.replace-own.result c.args.self.now c.in-Ok.end c.in-Ok.control c.in-Ok.data_half c.requires.may
    c.requires.unsplit c.replace-own.ensures.value c.in-Ok.ensures.ok c.destination-slice.ensures

pub returns-clause-ready : goal.returns-clause-ready
returns-clause-ready g c =
    let low : c.args.slot < length c.grow.new.places.items =
    omega (arith, c.in_ok-grow.ensures.enough, c.grow.new.places.ok, c.slot.view_is) in
    inr (admits c.args.self.now _ c.grow.new.places.items c.slot-2.inside.0 c.args.slot c.destination-slice.result
    c.args.subscriber.now
    c.replace-own.result c.replace-own.new.dest c.in_ok-fresh.fresh c.index.result.now c.has_moved-moved.result
    c.in-Ok.end c.in-Ok.control c.in-Ok.data_half c.grow.ensures.grown c.slot-2.view_is low
    (lot_read c.grow.new.places.items c.slot.inside.0 c.args.slot c.index.result.now c.slot.view_is low c.index.ensures)
    c.has_moved-moved.ensures c.replace-own.ensures.value c.replace-own.ensures.after c.requires.may
    c.requires.unsplit c.in-Ok.ensures.ok c.destination-slice.ensures c.in_ok-admit.ensures refl refl c.in_ok-fresh.ensures.stands
    (c.in_ok-fresh.ensures.destination ∙ c.destination-slice.ensures) c.in_ok-fresh.ensures.last)

pub returns-in_default-clause-lots : goal.returns-in_default-clause-lots
returns-in_default-clause-lots g c = λ most low few.
    let short = c.grow.ensures.short most (omega (arith, low, c.slot.view_is))
    (omega (arith, few, c.args.self.now.lots.ok)) in
    omega (arith, short, c.grow.new.places.ok)

pub returns-in_err-admit-clause-lots : goal.returns-in_err-admit-clause-lots
returns-in_err-admit-clause-lots g c = λ most low few.
    let short = c.grow.ensures.short most (omega (arith, low, c.slot.view_is))
    (omega (arith, few, c.args.self.now.lots.ok)) in
    omega (arith, short, c.grow.new.places.ok)

pub returns-clause-lots : goal.returns-clause-lots
returns-clause-lots g c = λ most low few.
    let short = c.grow.ensures.short most (omega (arith, low, c.slot.view_is))
    (omega (arith, few, c.args.self.now.lots.ok)) in
    simp length-set (omega (arith, short, c.grow.new.places.ok))
