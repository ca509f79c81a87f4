use Rattle.std.proofs.Common.{◌≡◌, ◌∙◌, Some, None, find, length, ap, sym, subst}
use Rattle.report_lines.specs.declared.entry.Entry.{Entry}
use Rattle.audit_core.specs.Belonging.{HasOutside, is_outside_entry}
use Rattle.audit_core.specs.Entries.{all_lines}
use Rattle.audit_core.proofs.ReadLemmas.{outside_at, said_ranges, same_entries}
use Rattle.audit_core.proofs.report.Report.outside.Goals as goal

pub entry_at-requires : goal.entry_at-requires
entry_at-requires c =
    let report = c.args.self.now in
    let made = c.requires.0 in
    let taken = c.requires.2 in
    let there = outside_at report.texts (length (all_lines made)) taken.entries c.in-Some.at report.outside c.in-Some.is
    (said_ranges made c.requires.1 report taken c.requires.3) taken.outside in
    (there.one, there.later, there.range, there.keeps)

pub returns-in_ok-entry_at-in-Some : goal.returns-in_ok-entry_at-in-Some
returns-in_ok-entry_at-in-Some c = λ made texts entries taken said.
    let report = c.args.self.now in
    let there = outside_at report.texts (length (all_lines made)) taken.entries c.in-Some.at report.outside c.in-Some.is
    (said_ranges made texts report taken c.requires.3) taken.outside in
    ap (λ (e : Entry). Some e) (c.in_ok-entry_at-in-Some.ensures there.one there.later there.range there.keeps)
    ∙ sym there.found
    ∙ ap (find (is_outside_entry (length (all_lines made)))) (same_entries made texts report entries taken c.requires.3 said)

pub returns-in-None : goal.returns-in-None
returns-in-None c = λ made texts entries taken said.
    let report = c.args.self.now in
    let none : find (is_outside_entry (length (all_lines made))) taken.entries ≡ None =
    subst (HasOutside report.texts (length (all_lines made)) taken.entries) c.in-None.is taken.outside in
    sym none
    ∙ ap (find (is_outside_entry (length (all_lines made)))) (same_entries made texts report entries taken c.requires.3 said)
