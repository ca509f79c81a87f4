use Rattle.std.proofs.Common.{◌≡◌, ◌∙◌, [], drop, refl, sym, ap, arith}
use Rattle.std.proofs.lemmas.List.{drop_all, length-map}
use Rattle.lawful_run.specs.Accepted.{command_count}
use Rattle.lawful_run.specs.Moves.{before_next_move}
use Rattle.audit_core.specs.Meant.{line_told, lines_of}
use Rattle.audit_core.specs.Passing.{IsOf}
use Rattle.audit_core.proofs.RestLemmas.{drop_mapped}
use Rattle.audit_core.proofs.CountLemmas.{count_moves, count_stays}
use Rattle.audit_core.proofs.ShareLemmas.{all_at, own_moves}
use Rattle.audit_core.proofs.counts.next_count.Goals as goal

pub loop-told-init : goal.loop-told-init
loop-told-init c = record { count = λ slot are. refl; few = omega arith }

pub returns-then-moves : goal.returns-then-moves
returns-then-moves c = λ slot are.
    let now = line_told c.told-item.result in
    let it = all_at (IsOf slot) c.args.later.now c.loop-told.told-index c.told-item.result c.loop-told-test.true
    c.told-item.is are in
    let parts = drop_mapped line_told c.args.later.now c.loop-told.told-index c.told-item.result c.loop-told-test.true
    c.told-item.is in
    omega (
      arith,
      c.loop-told.invariant.count slot are,
      count_moves slot (lines_of c.args.later.now) c.loop-told.told-index now parts
          (own_moves slot now.meaning it.about ∙ sym c.moves.ensures ∙ c.if-moves.true),
    )

pub loop-told-preserved : goal.loop-told-preserved
loop-told-preserved c =
    let now = line_told c.told-item.result in
    let parts = drop_mapped line_told c.args.later.now c.loop-told.told-index c.told-item.result c.loop-told-test.true
    c.told-item.is in
    record {
      count = λ slot are.
          let it = all_at (IsOf slot) c.args.later.now c.loop-told.told-index c.told-item.result c.loop-told-test.true
          c.told-item.is are in
          let stays = count_stays slot (lines_of c.args.later.now) c.loop-told.told-index now parts
          (own_moves slot now.meaning it.about ∙ sym c.moves.ensures ∙ c.if-moves.false) in
          omega (arith, c.loop-told.invariant.count slot are, stays, c.one_command-count.ensures.value slot it);
      few = omega (arith, c.loop-told.invariant.few, c.one_command-count.ensures.most);
    }

pub returns : goal.returns
returns c = λ slot are.
    let lines = lines_of c.args.later.now in
    let none : drop c.loop-told.told-index lines ≡ [] =
    drop_all c.loop-told.told-index lines (omega (arith, length-map c.args.later.now line_told)) in
    omega (
      arith,
      c.loop-told.invariant.count slot are,
      ap (λ rest. command_count slot (before_next_move slot rest)) none,
    )
