use Rattle.std.proofs.Common.{rules, ◌≡◌, ◌+◌, ◌++◌, ◌∙◌, length, map, sym, ap, subst, arith}
use Rattle.std.proofs.lemmas.List.{nil_from_length}
use Rattle.report_lines.specs.declared.entry.ChargeEntry.TheVariants.{R}
use Rattle.slot_execution.specs.Replaying.{effects_told, rows_told}
use Rattle.subscriber.specs.Standing.{Represents}
use Rattle.audit_core.specs.Meant.{lines_of}
use Rattle.audit_core.specs.Played.{AnswersBelow, CountsBelow}
use Rattle.audit_core.proofs.LateLemmas.{latest_rises}
use Rattle.audit_core.proofs.PlayLemmas.{few_commands, on_known, plays_next, plays_none, rests_later, same_events}
use Rattle.audit_core.proofs.WhyFound.{on_two}
use Rattle.audit_core.proofs.slots.Played.add.Goals as goal

pub returns-then-is_empty-clause-plays : goal.returns-then-is_empty-clause-plays
returns-then-is_empty-clause-plays c = λ first histories all represents are same below.
    let none : length c.args.lines.now ≡ 0 = search rules in
    plays_none first c.args.slot histories all c.args.self.now are
    (sym same ∙ ap lines_of (nil_from_length c.args.lines.now none)) below

pub returns-then-is_empty-clause-represents : goal.returns-then-is_empty-clause-represents
returns-then-is_empty-clause-represents c = λ before all represents same.
    let none : length c.args.lines.now ≡ 0 = search rules in
    subst (Represents c.args.subscriber.now c.args.slot)
    (sym (same_events c.args.slot before all (sym same ∙ ap lines_of (nil_from_length c.args.lines.now none))))
    represents

pub returns-then-is_empty-clause-rest : goal.returns-then-is_empty-clause-rest
returns-then-is_empty-clause-rest c = λ slices count latest rest late.
    rests_later slices count latest c.args.slot _ _ c.args.subscriber.now (omega arith)
    (latest_rises latest (lines_of c.args.lines.now) late) rest

pub next_counts-requires : goal.next_counts-requires
next_counts-requires c =
    let few = few_commands c.requires.rest.0 c.requires.rest.1 c.requires.rest.2 c.args.slot c.args.subscriber.now
    (length c.args.lines.now) c.requires.rest.3 c.requires.rest.5 in
    omega (arith, few, c.commands-start.ensures)

pub returns-clause-plays : goal.returns-clause-plays
returns-clause-plays c = λ first histories all represents are same below.
    let counts : CountsBelow (c.args.slot + 1) histories all c.in_ok-counts.counts =
    c.in_ok-counts.ensures c.args.slot first histories all are same (c.commands-start.ensures ∙ represents.commands)
    (subst (CountsBelow c.args.slot histories all) (sym c.take-before.ensures.value) below.counts) in
    let leads = c.in_ok-replayed.ensures.leads c.args.slot (histories c.args.slot) all represents same in
    let gateway : AnswersBelow (c.args.slot + 1) histories all c.in_ok-gateway.gateway =
    c.in_ok-gateway.ensures.answers first histories all are same leads
    (subst (AnswersBelow c.args.slot histories all) (sym c.take-told.ensures.value) below.gateway) in
    on_two c.add_made.result
    (λ effects rows. plays_next c.args.slot histories all c.args.self.now c.add_made.new.self c.in_ok-replayed.replayed
    leads below (subst (CountsBelow (c.args.slot + 1) histories all) (sym c.add_made.ensures.counts) counts)
    (subst (AnswersBelow (c.args.slot + 1) histories all) (sym c.add_made.ensures.gateway) gateway)
    (effects ∙ ap (λ its. effects_told c.args.self.now.effects.items ++ effects_told its)
    c.next_answers.ensures.effects)
    (rows ∙ ap (λ its. rows_told c.args.self.now.rows.items ++ map (R c.args.slot) its)
    c.next_answers.ensures.rows))
    c.add_made.ensures.effects c.add_made.ensures.rows

pub returns-clause-rest : goal.returns-clause-rest
returns-clause-rest c = λ slices count latest rest late.
    on_known c.add_made.result (c.in_ok-replayed.ensures.rest slices count latest c.args.slot rest late)

pub returns-clause-destination : goal.returns-clause-destination
returns-clause-destination c = on_known c.add_made.result c.in_ok-replayed.ensures.destination
