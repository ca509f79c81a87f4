use Rattle.std.proofs.Common.{◌≡◌, ◌++◌, ◌∷◌, [], length, sym, ap, subst, ◌∙◌, arith}
use Rattle.std.proofs.lemmas.List.{length_push}
use Rattle.at_rest.specs.Coming.{AreLater, latest_behind}
use Rattle.at_rest.proofs.Coming.{later-push, latest-push}
use Rattle.check_epochs.proofs.lines.lines_of.Goals as goal

pub loop-text-preserved : goal.loop-text-preserved
loop-text-preserved c =
    let lines = c.loop-text.lines.items in
    let known = c.loop-text.invariant in
    let line = c.in_ok-line.line in
    let made = c.in_ok-line.ensures in
    let items : c.push.new.self.items ≡ lines ++ line ∷ [] = c.in-Ok.ensures.items in
    let low = c.if-len-ge-MOST_LINES.false in
    record {
      later = subst (AreLater 0) (sym items) (later-push 0 lines line known.later
          (omega (arith, known.latest, made.0, made.1)));
      latest = ap (latest_behind 0) items ∙ (latest-push 0 lines line ∙ sym made.1);
      few = omega (arith, ap length items, length_push lines line, low, c.loop-text.lines.ok);
    }
