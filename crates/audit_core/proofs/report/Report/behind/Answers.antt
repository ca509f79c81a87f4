use Rattle.std.proofs.Common.{◌≡◌, ◌+◌, ◌∙◌, Some, drop, map, ap, sym, subst, arith}
use Rattle.std.proofs.lemmas.Result.{IfOk-weaker}
use Rattle.report_lines.specs.Text.{entry_text}
use Rattle.report_lines.specs.declared.entry.Entry.{Entry}
use Rattle.audit_core.specs.Packed.{KeepsFrom}
use Rattle.audit_core.specs.Places.{first_of}
use Rattle.audit_core.proofs.ReadLemmas.{next_entry_at}
use Rattle.audit_core.proofs.report.Report.behind.Goals as goal

pub behind-at-requires : goal.behind-at-requires
behind-at-requires c =
    let own = c.requires.0 in
    let i = c.loop-i.i in
    let next = next_entry_at c.args.self.now.texts c.loop-i.at own i (omega (arith, c.loop-i-test.true, c.requires.2))
    c.requires.1 (c.loop-i.invariant own c.requires.1 c.requires.2 c.requires.3) in
    (entry_text next.one, map entry_text (drop (i + 1) own), next.keeps)

pub loop-i-preserved : goal.loop-i-preserved
loop-i-preserved c = λ own ranges low keeps.
    let i = c.loop-i.i in
    let next = next_entry_at c.args.self.now.texts c.loop-i.at own i (omega (arith, c.loop-i-test.true, low)) ranges
    (c.loop-i.invariant own ranges low keeps) in
    c.behind-at.ensures (entry_text next.one) (map entry_text (drop (i + 1) own)) next.keeps

pub entry_at-requires : goal.entry_at-requires
entry_at-requires c =
    let own = c.requires.0 in
    let last : c.loop-i.i ≡ c.args.count = omega (arith, c.loop-i-test.false, c.loop-i.auto.i-end) in
    let keeps = subst (λ n. KeepsFrom c.args.self.now.texts c.loop-i.at (map entry_text (drop n own))) last
    (c.loop-i.invariant own c.requires.1 c.requires.2 c.requires.3) in
    let next = next_entry_at c.args.self.now.texts c.loop-i.at own c.args.count c.requires.2 c.requires.1 keeps in
    (next.one, map entry_text (drop (c.args.count + 1) own), next.range, next.keeps)

pub returns : goal.returns
returns c = λ own ranges low keeps.
    let last : c.loop-i.i ≡ c.args.count = omega (arith, c.loop-i-test.false, c.loop-i.auto.i-end) in
    let there = subst (λ n. KeepsFrom c.args.self.now.texts c.loop-i.at (map entry_text (drop n own))) last
    (c.loop-i.invariant own ranges low keeps) in
    let next = next_entry_at c.args.self.now.texts c.loop-i.at own c.args.count low ranges there in
    IfOk-weaker c.entry_at.result (λ (e : Entry). e ≡ next.one) (λ (e : Entry). Some e ≡ first_of (drop c.args.count own))
    (λ e is. ap (λ (x : Entry). Some x) is ∙ sym (ap first_of next.is))
    (c.entry_at.ensures next.one (map entry_text (drop (c.args.count + 1) own)) next.range next.keeps)
