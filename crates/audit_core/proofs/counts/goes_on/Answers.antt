use Rattle.std.proofs.Common.{◌+◌, ◌∙◌, refl, sym, ap, subst}
use Rattle.std.proofs.lemmas.List.{drop-map, take_rest}
use Rattle.std.proofs.lemmas.List.Elements.{All-drop}
use Rattle.lawful_run.specs.Accepted.{command_count}
use Rattle.lawful_run.specs.Moves.{before_next_move}
use Rattle.audit_core.specs.Meant.{line_told, lines_of}
use Rattle.audit_core.specs.Passing.{AreOf, IsOf}
use Rattle.audit_core.proofs.CountLemmas.{passed_moves, passed_stays}
use Rattle.audit_core.proofs.Differing.{took}
use Rattle.audit_core.proofs.RestLemmas.{drop_mapped}
use Rattle.audit_core.proofs.ShareLemmas.{all_at, own_moves}
use Rattle.audit_core.proofs.counts.goes_on.Goals as goal

pub returns-then-moves-clause-passed : goal.returns-then-moves-clause-passed
returns-then-moves-clause-passed c = λ slot start are so.
    let lines = lines_of c.args.lines.now in
    let told = c.index-lines-at.result in
    let now = line_told told in
    let it = all_at (IsOf slot) c.args.lines.now c.args.at told c.requires.within c.index-lines-at.is are in
    let rest = ap lines_of (take_rest c.args.lines.now (c.args.at + 1))
    ∙ sym (drop-map line_told (c.args.at + 1) c.args.lines.now) in
    passed_moves slot start lines c.args.at now c.args.passed _ so
    (took line_told c.args.lines.now c.args.at told c.requires.within c.index-lines-at.is)
    (c.last_behind-last.ensures slot now refl it)
    (own_moves slot now.meaning it.about ∙ sym c.moves.ensures ∙ c.if-moves.true) refl refl
    (c.next_count.ensures slot (subst (AreOf slot) (sym rest) (All-drop (IsOf slot) (c.args.at + 1) lines are))
    ∙ ap (λ xs. c.args.passed.commands + command_count slot (before_next_move slot xs)) rest)

pub returns-clause-passed : goal.returns-clause-passed
returns-clause-passed c = λ slot start are so.
    let lines = lines_of c.args.lines.now in
    let told = c.index-lines-at.result in
    let now = line_told told in
    let it = all_at (IsOf slot) c.args.lines.now c.args.at told c.requires.within c.index-lines-at.is are in
    passed_stays slot start lines c.args.at now c.args.passed _ so
    (took line_told c.args.lines.now c.args.at told c.requires.within c.index-lines-at.is)
    (c.last_behind-last.ensures slot now refl it)
    (drop_mapped line_told c.args.lines.now c.args.at told c.requires.within c.index-lines-at.is)
    (own_moves slot now.meaning it.about ∙ sym c.moves.ensures ∙ c.if-moves.false)
    (ap (λ n. c.args.passed.commands + n) (c.one_command.ensures.value slot it)) refl refl
