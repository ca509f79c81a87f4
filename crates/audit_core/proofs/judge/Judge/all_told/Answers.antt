use Rattle.std.proofs.Common.{◌≡◌, ◌+◌, ◌<◌, ◌++◌, ◌∷◌, [], length, refl, sym, subst, vec_len, arith}
use Rattle.at_rest.specs.Meant.{AreStanding}
use Rattle.audit_core.specs.Holding.{AreKnownTold}
use Rattle.audit_core.specs.Judged.{RestsBehind, asked_of, histories_at}
use Rattle.audit_core.specs.Meant.{lines_of}
use Rattle.audit_core.specs.Played.{HasPlayed}
use Rattle.audit_core.specs.declared.judge.Judge.{Judge}
use Rattle.audit_core.specs.Ranks.{rank_of}
use Rattle.audit_core.specs.Walking.{FewBefore}
use Rattle.audit_core.specs.declared.sentence.Sentence.TheVariants as of
use Rattle.audit_core.proofs.JudgeSteps.{not_wanted, on_ok_any, on_ok_both}
use Rattle.audit_core.proofs.NextEpoch.{answered_lines, few_before, judged_to, known_lines, late_lines, led_so, lines_short, low_next, low_stands, plays_on, rests_on, whole_next}
use Rattle.audit_core.proofs.judge.Judge.all_told.Goals as goal

pub returns-then-not-wants-clause-judged : goal.returns-then-not-wants-clause-judged
returns-then-not-wants-clause-judged c = λ own at next.
    low_next own at c.args.lines.now c.args.report.now c.args.entries.now c.args.subscribers.now.items c.args.self.now
    next record {
      setup = c.args.self.now.setup;
      lines = c.args.self.now.lines + length c.args.lines.now;
      entries = c.args.self.now.entries;
      broken = c.args.self.now.broken;
    } (omega arith) refl
    (not_wanted c.wants.result (rank_of of.Numbers) (asked_of c.args.self.now.broken) c.wants.ensures
    c.if-not-wants.true)

pub returns-then-not-wants-clause-stands : goal.returns-then-not-wants-clause-stands
returns-then-not-wants-clause-stands c = λ own at next.
    low_stands own at c.args.lines.now c.args.report.now c.args.entries.now c.args.subscribers.now.items c.args.self.now
    next record {
      setup = c.args.self.now.setup;
      lines = c.args.self.now.lines + length c.args.lines.now;
      entries = c.args.self.now.entries;
      broken = c.args.self.now.broken;
    } (omega arith) refl
    (not_wanted c.wants.result (rank_of of.Numbers) (asked_of c.args.self.now.broken) c.wants.ensures
    c.if-not-wants.true) c.args.subscribers.now.items

pub walk-requires-clause-short : goal.walk-requires-clause-short
walk-requires-clause-short c =
    let next = c.requires.next.2 in
    let low : rank_of of.Numbers < asked_of c.args.self.now.broken = c.wants.ensures.0 c.if-not-wants.false in
    lines_short c.requires.next.0 c.requires.next.1 c.args.lines.now c.args.report.now c.args.entries.now next.told
    c.args.subscribers.now.items c.args.self.now.lines (next.stands low) next.judged.lines

pub walk-requires-clause-few : goal.walk-requires-clause-few
walk-requires-clause-few c =
    let next = c.requires.next.2 in
    let low : rank_of of.Numbers < asked_of c.args.self.now.broken = c.wants.ensures.0 c.if-not-wants.false in
    subst (λ s. FewBefore s (length c.args.lines.now)) (sym c.as_slice.ensures.value)
    (few_before c.requires.next.0 c.requires.next.1 c.args.lines.now c.args.report.now c.args.entries.now next.told
    c.args.subscribers.now.items c.args.self.now.lines (next.stands low) next.judged.lines)

pub walk-requires-clause-known : goal.walk-requires-clause-known
walk-requires-clause-known c =
    let next = c.requires.next.2 in
    let low : rank_of of.Numbers < asked_of c.args.self.now.broken = c.wants.ensures.0 c.if-not-wants.false in
    subst (λ s. AreKnownTold (length s) (lines_of c.args.lines.now)) (sym c.as_slice.ensures.value)
    (known_lines c.requires.next.0 c.requires.next.1 c.args.lines.now c.args.report.now c.args.entries.now next.told
    c.args.subscribers.now.items c.args.self.now.lines (next.stands low) next.judged.lines)

pub walk-requires-clause-answered : goal.walk-requires-clause-answered
walk-requires-clause-answered c =
    let next = c.requires.next.2 in
    let low : rank_of of.Numbers < asked_of c.args.self.now.broken = c.wants.ensures.0 c.if-not-wants.false in (
      _,
      answered_lines c.requires.next.0 c.requires.next.1 c.args.lines.now c.args.report.now c.args.entries.now
          next.told c.args.subscribers.now.items c.args.self.now.lines (next.stands low) next.judged.lines,
    )

pub play-requires-clause-stand : goal.play-requires-clause-stand
play-requires-clause-stand c = c.requires.next.2.told.stand

pub play-requires-clause-known : goal.play-requires-clause-known
play-requires-clause-known c =
    let next = c.requires.next.2 in
    let low : rank_of of.Numbers < asked_of c.args.self.now.broken = c.wants.ensures.0 c.if-not-wants.false in
    let many : length c.args.subscribers.now.items ≡ vec_len c.args.subscribers.now =
    omega (arith, c.args.subscribers.now.ok.0) in
    subst (λ k. AreKnownTold k (lines_of c.args.lines.now)) many
    (known_lines c.requires.next.0 c.requires.next.1 c.args.lines.now c.args.report.now c.args.entries.now next.told
    c.args.subscribers.now.items c.args.self.now.lines (next.stands low) next.judged.lines)

pub play-requires-clause-rest : goal.play-requires-clause-rest
play-requires-clause-rest c =
    let next = c.requires.next.2 in
    let low : rank_of of.Numbers < asked_of c.args.self.now.broken = c.wants.ensures.0 c.if-not-wants.false in
    let on = plays_on c.requires.next.0 c.requires.next.1 c.args.lines.now c.args.report.now c.args.entries.now next.told
    c.args.subscribers.now.items c.args.self.now.lines (next.stands low) next.judged.lines in
    (on.0, c.args.self.now.lines, on.1, on.2, on.3, on.4)

pub judge_all-requires : goal.judge_all-requires
judge_all-requires c =
    let own = c.requires.next.0 in
    let at = c.requires.next.1 in
    let next = c.requires.next.2 in
    let low : rank_of of.Numbers < asked_of c.args.self.now.broken = c.wants.ensures.0 c.if-not-wants.false in
    let rests = next.stands low in
    let many : vec_len c.args.subscribers.now ≡ length c.args.subscribers.now.items =
    omega (arith, c.args.subscribers.now.ok.0) in
    let answered = answered_lines own at c.args.lines.now c.args.report.now c.args.entries.now next.told
    c.args.subscribers.now.items c.args.self.now.lines rests next.judged.lines in (
      own,
      at,
      next.told,
      led_so own at c.args.lines.now c.args.report.now c.args.entries.now next.told c.args.subscribers.now.items
          c.args.self.now.lines rests next.judged.lines c.args.self.now.setup c.len.result c.in_ok-walked.walked
          c.in_ok-played.played next.setup (omega (arith, c.len.ensures, c.in_ok-played.ensures.many, c.args.subscribers.now.ok.0))
          (c.in_ok-walked.ensures (histories_at at) (subst (λ s. AreStanding s (histories_at at)) (sym c.as_slice.ensures.value) rests.stand))
          (subst (λ k. HasPlayed k (histories_at at) (lines_of c.args.lines.now) c.in_ok-played.played) many
          (c.in_ok-played.ensures.plays _ (histories_at at) rests.stand answered)),
      judged_to own at c.args.lines.now c.args.report.now c.args.entries.now c.args.subscribers.now.items c.args.self.now
          next record { setup = c.args.self.now.setup; lines = c.args.self.now.lines + length c.args.lines.now; entries = c.args.self.now.entries; broken = c.args.self.now.broken } (omega arith) refl refl,
    )

pub returns-clause-judged : goal.returns-clause-judged
returns-clause-judged c = λ own at next.
    let low : rank_of of.Numbers < asked_of c.args.self.now.broken = c.wants.ensures.0 c.if-not-wants.false in
    let rests = next.stands low in
    let many : vec_len c.args.subscribers.now ≡ length c.args.subscribers.now.items =
    omega (arith, c.args.subscribers.now.ok.0) in
    let answered = answered_lines own at c.args.lines.now c.args.report.now c.args.entries.now next.told
    c.args.subscribers.now.items c.args.self.now.lines rests next.judged.lines in
    let led = led_so own at c.args.lines.now c.args.report.now c.args.entries.now next.told c.args.subscribers.now.items
    c.args.self.now.lines rests next.judged.lines c.args.self.now.setup c.len.result c.in_ok-walked.walked
    c.in_ok-played.played next.setup (omega (arith, c.len.ensures, c.in_ok-played.ensures.many, c.args.subscribers.now.ok.0))
    (c.in_ok-walked.ensures (histories_at at) (subst (λ s. AreStanding s (histories_at at)) (sym c.as_slice.ensures.value) rests.stand))
    (subst (λ k. HasPlayed k (histories_at at) (lines_of c.args.lines.now) c.in_ok-played.played) many
    (c.in_ok-played.ensures.plays _ (histories_at at) rests.stand answered)) in
    let before : Judge = record {
      setup = c.args.self.now.setup;
      lines = c.args.self.now.lines + length c.args.lines.now;
      entries = c.args.self.now.entries;
      broken = c.args.self.now.broken;
    } in
    let to = judged_to own at c.args.lines.now c.args.report.now c.args.entries.now c.args.subscribers.now.items
    c.args.self.now next before (omega arith) refl refl in
    on_ok_both c.judge_all.result
    (λ partly counted. whole_next own at c.args.lines.now c.args.report.now c.args.entries.now
    c.args.subscribers.now.items c.args.self.now next c.judge_all.new.self (omega (arith, c.judge_all.ensures.lines))
    partly counted)
    (c.judge_all.ensures.judged own at next.told led to) (c.judge_all.ensures.counted own at next.told led to)

pub returns-clause-stands : goal.returns-clause-stands
returns-clause-stands c = λ own at next.
    let low : rank_of of.Numbers < asked_of c.args.self.now.broken = c.wants.ensures.0 c.if-not-wants.false in
    let rests = next.stands low in
    let behind : c.judge_all.new.self.lines ≡ c.args.self.now.lines + length c.args.lines.now =
    omega (arith, c.judge_all.ensures.lines) in
    let many : length c.play.new.subscribers.items ≡ length c.args.subscribers.now.items =
    omega (arith, c.in_ok-played.ensures.many, c.args.subscribers.now.ok.0, c.play.new.subscribers.ok.0) in
    let late = late_lines own at c.args.lines.now c.args.report.now c.args.entries.now next.told
    c.args.subscribers.now.items c.args.self.now.lines rests next.judged.lines in
    on_ok_any c.judge_all.result (λ less.
    subst (RestsBehind own (at.told ++ at.here ∷ []) at.left c.play.new.subscribers.items) (sym behind)
    (rests_on own at c.args.lines.now c.args.report.now c.args.entries.now next.told
    c.args.subscribers.now.items c.args.self.now.lines rests next.judged.lines c.play.new.subscribers.items
    (c.in_ok-played.ensures.stands (histories_at at) rests.stand)
    (c.in_ok-played.ensures.rest rests.slices c.args.self.now.lines rests.latest rests.rest late) many))
