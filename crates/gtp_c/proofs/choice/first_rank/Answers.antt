use Rattle.std.proofs.Common.{◌+◌, [], get_or, drop, sym, ◌∙◌}
use Rattle.std.proofs.lemmas.List.{at_drop_all}
use Rattle.gtp_c_base.specs.declared.filter.TftFilter.{TftFilter}
use Rattle.gtp_c.proofs.ChoiceLemmas.{first_with, fitted, unfit, behind, no_more, looked_at}
use Rattle.gtp_c.proofs.choice.first_rank.Goals as goal
use Rattle.gtp_c.proofs.choice.first_rank.Goals.{then-leads+then-fits, else-leads, else-leads-via-then-leads+else-fits, else-leads-via-else-leads}

-- what stands for a filter past the end
abbrev none : TftFilter
none = record { components = []; bearer = 0; id = 0; direction = 0; precedence = 0; count = 0 }

pub loop-filter-preserved : goal.loop-filter-preserved
loop-filter-preserved c =
    let packet = c.args.packet.now in
    let filters = c.args.filters.now in
    let at = c.loop-filter.filter-index in
    let first = c.loop-filter.first in
    let filter : TftFilter = get_or filters at none in
    let rest = drop (at + 1) filters in
    let so_far = looked_at packet first filters at none c.loop-filter-test.true ∙ c.loop-filter.invariant in
    elim c.if-leads.branch [
      | then-leads+then-fits w ↦ rw w.first-is
          (fitted packet first filter rest (sym c.leads.ensures ∙ w.if-leads.true) (sym w.fits.ensures ∙ w.if-fits.true)
          ∙ so_far)
      | else-leads w ↦ rw w.first-is (elim w.else-leads.branch [
        | else-leads-via-then-leads+else-fits w' ↦
            unfit packet first filter rest (sym w'.fits.ensures ∙ w'.if-fits.false) ∙ so_far
        | else-leads-via-else-leads w' ↦
            behind packet first filter rest (sym c.leads.ensures ∙ w'.if-leads.false) ∙ so_far
      ])
    ]

pub returns : goal.returns
returns c =
    sym (no_more c.args.packet.now c.loop-filter.first)
    ∙ sym (at_drop_all (first_with c.args.packet.now c.loop-filter.first) c.args.filters.now c.loop-filter.filter-index
    c.loop-filter-test.false)
    ∙ c.loop-filter.invariant
