use Rattle.std.proofs.Common.{◌≡◌, ◌∙◌, false, sym, ap, nat_lt, count_by}
use Rattle.std.specs.List.{insert}
use Rattle.migration.specs.DataDue.{is_among}
use Rattle.migration.proofs.DataRising.{joins_in}
use Rattle.migration.proofs.data_due.list.Goals as goal

pub returns-clause-joins : goal.returns-clause-joins
returns-clause-joins c = λ end within rising.
    let slot = c.args.slot in
    let due = c.args.due.now.items in
    let none : is_among slot due ≡ false =
    ap (is_among slot) (sym c.deref.ensures.value) ∙ sym c.is_listed.ensures ∙ c.if-is_listed.false in
    joins_in slot end c.args.joins due c.insert.new.self.items within rising none
    (c.in-Ok.ensures.items ∙ ap (λ k. insert due k slot)
    (c.below-at.ensures ∙ ap (count_by (λ other. nat_lt other slot)) c.deref-2.ensures.value))
