use Rattle.std.proofs.Common.{◌+◌, sym, subst}
use Rattle.audit_core.specs.Entries.{line_entries}
use Rattle.audit_core.specs.Kept.{meanings_in}
use Rattle.audit_core.specs.Matched.{Matches, MatchesAll, entries_stood}
use Rattle.audit_core.proofs.NextEpoch.{broken_next, broken_stands, told_next, match_is}
use Rattle.audit_core.proofs.judge.Judge.epoch.Goals as goal

pub returns-in-Broken-clause-judged : goal.returns-in-Broken-clause-judged
returns-in-Broken-clause-judged c = λ own at next.
    broken_next own at c.args.octets.now c.args.lines.now c.args.report.now c.args.entries.now
    c.args.subscribers.now.items c.args.self.now next c.in-Broken.found
    (subst (Matches (c.args.self.now.lines + 1) (meanings_in c.args.octets.now c.args.lines.now)
    (line_entries (entries_stood c.args.entries.now))) c.in-Broken.is c.in_ok-matched.ensures) c.offer.new.self
    c.offer.ensures.broken c.offer.ensures.lines

pub returns-in-Broken-clause-stands : goal.returns-in-Broken-clause-stands
returns-in-Broken-clause-stands c = λ own at next.
    broken_stands own at c.args.octets.now c.args.lines.now c.args.report.now c.args.entries.now
    c.args.subscribers.now.items c.args.self.now next c.in-Broken.found
    (subst (Matches (c.args.self.now.lines + 1) (meanings_in c.args.octets.now c.args.lines.now)
    (line_entries (entries_stood c.args.entries.now))) c.in-Broken.is c.in_ok-matched.ensures) c.offer.new.self
    c.offer.ensures.broken c.args.subscribers.now.items

pub all_told-requires-clause-next : goal.all_told-requires-clause-next
all_told-requires-clause-next c =
    let own = c.requires.next.0 in
    let at = c.requires.next.1 in
    let next = c.requires.next.2 in
    let all = subst (Matches (c.args.self.now.lines + 1) (meanings_in c.args.octets.now c.args.lines.now)
    (line_entries (entries_stood c.args.entries.now))) c.in-All.is c.in_ok-matched.ensures in (
      own,
      at,
      told_next own at c.args.octets.now c.args.lines.now c.args.report.now c.args.entries.now
          c.args.subscribers.now.items c.args.self.now next c.as_slice.result.now
          (match_is own at c.args.octets.now c.args.lines.now c.args.report.now c.args.entries.now
          c.args.subscribers.now.items c.args.self.now next (λ n made its. MatchesAll n made its c.as_slice.result.now)
          (subst (MatchesAll (c.args.self.now.lines + 1) _ _) (sym c.as_slice.ensures.value) all)),
    )

pub returns-in-All-clause-judged : goal.returns-in-All-clause-judged
returns-in-All-clause-judged c = λ own at next.
    let all = subst (Matches (c.args.self.now.lines + 1) (meanings_in c.args.octets.now c.args.lines.now)
    (line_entries (entries_stood c.args.entries.now))) c.in-All.is c.in_ok-matched.ensures in
    c.all_told.ensures.judged own at
    (told_next own at c.args.octets.now c.args.lines.now c.args.report.now c.args.entries.now
    c.args.subscribers.now.items c.args.self.now next c.as_slice.result.now
    (match_is own at c.args.octets.now c.args.lines.now c.args.report.now c.args.entries.now
    c.args.subscribers.now.items c.args.self.now next (λ n made its. MatchesAll n made its c.as_slice.result.now)
    (subst (MatchesAll (c.args.self.now.lines + 1) _ _) (sym c.as_slice.ensures.value) all)))

pub returns-in-All-clause-stands : goal.returns-in-All-clause-stands
returns-in-All-clause-stands c = λ own at next.
    let all = subst (Matches (c.args.self.now.lines + 1) (meanings_in c.args.octets.now c.args.lines.now)
    (line_entries (entries_stood c.args.entries.now))) c.in-All.is c.in_ok-matched.ensures in
    c.all_told.ensures.stands own at
    (told_next own at c.args.octets.now c.args.lines.now c.args.report.now c.args.entries.now
    c.args.subscribers.now.items c.args.self.now next c.as_slice.result.now
    (match_is own at c.args.octets.now c.args.lines.now c.args.report.now c.args.entries.now
    c.args.subscribers.now.items c.args.self.now next (λ n made its. MatchesAll n made its c.as_slice.result.now)
    (subst (MatchesAll (c.args.self.now.lines + 1) _ _) (sym c.as_slice.ensures.value) all)))
