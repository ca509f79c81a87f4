use Rattle.std.proofs.Common.{◌≡◌, ℕ, ◌+◌, [], ◌∷◌, ◌++◌, List, length, subst, sym, ap, ◌∙◌, arith}
use Rattle.std.specs.Prelude.{reverse}
use Rattle.std.proofs.lemmas.List.{length-reverse}
use Rattle.std.proofs.lemmas.List.Elements.{All-rest}
use Rattle.report_lines.specs.declared.entry.LineEntry.{LineEntry}
use Rattle.lawful_run.specs.Filling.{filled}
use Rattle.front_core.specs.declared.taken.Taken.{Taken}
use Rattle.front_core.specs.Entries.{opens_of}
use Rattle.front_core.specs.Filled.{FrontTold, IsWithin, mets_at, replies_at}
use Rattle.front_core.proofs.Entries.{Fills, fills_more}
use Rattle.front_core.proofs.filling.fill_all.Goals as goal

pub loop-place-preserved : goal.loop-place-preserved
loop-place-preserved c =
    let at = c.loop-place in
    let next = c.fill_next-entry.ensures in
    let left : List Taken = c.fill_next-entry.new.left.items in
    let whole : List LineEntry = filled (opens_of c.args.first c.args.entries.items)
    (replies_at c.args.answers.now.items) (mets_at c.args.answers.now.items) in
    let many : length (reverse at.entries.items) ≡ length (next.taken ∷ reverse left) =
    ap (λ (l : List Taken). length l) next.first in
    let on : c.args.first + at.place + 1 ≡ c.args.first + (at.place + 1) = omega arith in
    record {
      left = (let all = at.invariant.left in
          let old = length-reverse at.entries.items in
          let new = length-reverse left in
          omega (arith, many, all, old, new));
      many = next.fills.many ∙ at.invariant.many;
      within = All-rest (λ (taken : Taken). IsWithin (length c.args.answers.now.items) taken.open) next.taken
          (reverse left) (reverse at.entries.items) next.first at.invariant.within;
      fills = subst (λ (es : List FrontTold). Fills es (opens_of (c.args.first + (at.place + 1)) (reverse left))
          c.fill_next-entry.new.answers.items whole) (sym c.in_ok-push.ensures.items)
          (subst (λ (n : ℕ). Fills (at.told.items ++ c.fill_next-entry.result ∷ []) (opens_of n (reverse left))
          c.fill_next-entry.new.answers.items whole) on
          (fills_more at.told.items c.fill_next-entry.result (c.args.first + at.place) at.entries.items left
          at.answers.items c.fill_next-entry.new.answers.items whole at.invariant.fills next));
    }
