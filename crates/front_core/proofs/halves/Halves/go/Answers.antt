use Rattle.std.proofs.Common.{◌≡◌, ◌<◌, ◌≤◌, ◌∙◌, None, length, refl, sym, ap, arith}
use Rattle.std.specs.Prelude.{Result, Ok, Err, OnErr}
use Rattle.std.proofs.lemmas.List.{get_or_past}
use Rattle.front_core.specs.Lots.{end_of, lot_of}
use Rattle.front_core.proofs.Lots.{unsplit_is}
use Rattle.front_core.proofs.Moving.{lot_may_move, moved_rest, moved_split}
use Rattle.front_core.proofs.halves.Halves.go.Goals as goal

pub move_on-requires : goal.move_on-requires
move_on-requires g c =
    let low : c.args.slot < length c.reach.new.lots.items =
    omega (arith, c.in_ok-reach.ensures.enough, c.reach.new.lots.ok, c.slot.view_is) in
    lot_may_move c.args.self.now c.reach.new.lots.items c.slot.inside.0 c.args.slot c.args.slice c.index_mut.result.now
    c.reach.ensures.grown c.slot.view_is low c.index_mut.ensures.value c.requires

pub returns-clause-moves : goal.returns-clause-moves
returns-clause-moves g c =
    let low : c.args.slot < length c.reach.new.lots.items =
    omega (arith, c.in_ok-reach.ensures.enough, c.reach.new.lots.ok, c.slot.view_is) in
    moved_split c.args.self.now _ c.reach.new.lots.items c.slot.inside.0 c.args.slot c.args.slice
    c.index_mut.result.now
    c.move_on.new.lot c.reach.ensures.grown c.slot.view_is low c.index_mut.ensures.value refl refl
    c.move_on.ensures.moves c.in-Some.until c.in-Some.ensures.split
    (sym c.move_on.ensures.commands ∙ c.in-Some.is) c.go.ensures

pub returns-in_default-clause-moves : goal.returns-in_default-clause-moves
returns-in_default-clause-moves g c =
    let low : c.args.slot < length c.reach.new.lots.items =
    omega (arith, c.in_ok-reach.ensures.enough, c.reach.new.lots.ok, c.slot.view_is) in
    moved_rest c.args.self.now _ c.reach.new.lots.items c.slot.inside.0 c.args.slot c.args.slice
    c.index_mut.result.now
    c.move_on.new.lot c.reach.ensures.grown c.slot.view_is low c.index_mut.ensures.value refl refl
    c.move_on.ensures.moves (unsplit_is c.index_mut.result.now c.in_default.ensures.split) refl

on_err : {T E : Type 0} (r : Result T E) (P : Type 0) → P → OnErr r P
on_err (Ok x) P holds = tt
on_err (Err e) P holds = holds

pub returns-in_err-reach-clause-memory : goal.returns-in_err-reach-clause-memory
returns-in_err-reach-clause-memory g c =
    let past : length c.args.self.now.lots.items ≤ c.args.slot =
    omega (arith, c.in_err-reach.ensures.memory, c.args.self.now.lots.ok) in
    on_err c.from_residual.result (end_of (lot_of c.args.self.now.lots.items c.args.slot) ≡ None)
    (ap end_of (get_or_past c.args.self.now.lots.items c.args.slot None past))
