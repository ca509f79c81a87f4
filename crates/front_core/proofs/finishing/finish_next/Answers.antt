use Rattle.std.proofs.Common.{◌≡◌, List, [], ◌∷◌, ◌++◌, ap, ◌∙◌}
use Rattle.std.specs.Prelude.{Option, Some, reverse}
use Rattle.std.proofs.lemmas.Result.{on_ok_weaker}
use Rattle.front_core.specs.declared.lot.Lot.{Lot}
use Rattle.front_core.specs.declared.lot.Lot.TheVariants.{Split}
use Rattle.front_core.proofs.Nexts.{can_first, split_next}
use Rattle.front_core.proofs.finishing.finish_next.Goals as goal

pub returns-in-Some-Split-clause-ends : goal.returns-in-Some-Split-clause-ends
returns-in-Some-Split-clause-ends g c = λ slot items can.
    let end = c.in-Some-Split.end in
    let lots : List (Option Lot) = c.args.lots.now.items in
    let left : List (Option Lot) = c.pop.new.self.items in
    let lot : c.in-Some.lot ≡ Some (Split end) = cc in
    let was : lots ≡ left ++ Some (Split end) ∷ [] =
    c.in-Some.ensures.items ∙ ap (λ (l : Option Lot). left ++ l ∷ []) lot in
    on_ok_weaker c.finish_split.result (λ ends. split_next slot items lots left c.finish_split.new.controls.items
    c.finish_split.new.homes.items end c.args.subscriber.now c.finish_split.new.subscriber c.args.told.now
    c.finish_split.new.told was ends)
    (c.finish_split.ensures.ends slot items (reverse left) (can_first slot items lots left c.args.controls.now.items
    c.args.homes.now.items (Some (Split end)) was can))
