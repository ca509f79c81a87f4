use Rattle.std.proofs.Common.{◌≡◌, ◌∷◌, ◌++◌, [], true, false, sym, ◌∙◌}
use Rattle.trace_lines.specs.Epochs.{ends_epoch}
use Rattle.lawful_run.proofs.CutLines.{cut_whole}
use Rattle.trace_run.proofs.ReportingLemmas.{counts_next, ends_open, sized_so, stays_open}
use Rattle.trace_run.proofs.reporting.Epochs.answer.Goals as goal

pub take-ends-requires-clause-counted : goal.take-ends-requires-clause-counted
take-ends-requires-clause-counted g c =
    let due = c.requires.next in
    sized_so _ _ _ _ c.args.self.now.size c.args.self.now.text due.1 due.3 due.2 c.args.line.now due.4 due.5

pub returns-then-not-ends : goal.returns-then-not-ends
returns-then-not-ends g c = λ first done latest sent standing due.
    let line = c.args.line.now in
    let counts = counts_next _ c.args.self.now.size done standing.open_ latest line standing.sized due in
    let stays : ends_epoch standing.open_ line ≡ false =
    sym (c.take-ends.ensures.ends standing.open_ counts) ∙ c.if-not-ends.true in
    stays_open _ _ _ _ _ c.args.self.now.size c.take-ends.new.self c.args.self.now.text c.take.new.text done sent latest
    line standing due stays (c.take-ends.ensures.counts standing.open_ counts)
    (c.in_ok-take.ensures first done latest standing.closed standing.open_ sent standing.stands due)

pub close-requires : goal.close-requires
close-requires g c =
    let due = c.requires.next in
    let standing = due.4 in
    let line = c.args.line.now in
    let counts = counts_next _ c.args.self.now.size due.1 standing.open_ due.2 line standing.sized due.5 in
    let ends : ends_epoch standing.open_ line ≡ true =
    sym (c.take-ends.ensures.ends standing.open_ counts) ∙ c.if-not-ends.false in (
      due.0,
      due.1 ++ line ∷ [],
      line.moment,
      standing.closed,
      standing.open_ ++ line ∷ [],
      due.3,
      c.in_ok-take.ensures due.0 due.1 due.2 standing.closed standing.open_ due.3 standing.stands due.5,
      cut_whole due.1 standing.closed standing.open_ line standing.cut ends,
    )

pub returns : goal.returns
returns g c = λ first done latest sent standing due.
    let line = c.args.line.now in
    let counts = counts_next _ c.args.self.now.size done standing.open_ latest line standing.sized due in
    let ends : ends_epoch standing.open_ line ≡ true =
    sym (c.take-ends.ensures.ends standing.open_ counts) ∙ c.if-not-ends.false in
    let stands = c.in_ok-take.ensures first done latest standing.closed standing.open_ sent standing.stands due in
    let cut = cut_whole done standing.closed standing.open_ line standing.cut ends in
    ends_open _ _ _ _ _ c.args.self.now.size c.take-ends.new.self c.args.self.now.text c.close.new.text done sent latest
    line standing due ends (c.take-ends.ensures.counts standing.open_ counts)
    (c.in_ok-close.ensures.closed first (done ++ line ∷ []) line.moment standing.closed (standing.open_ ++ line ∷ [])
    sent stands cut)
    (c.in_ok-close.ensures.says first (done ++ line ∷ []) line.moment standing.closed (standing.open_ ++ line ∷ [])
    sent stands cut)
