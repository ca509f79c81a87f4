use Rattle.std.proofs.Common.{◌≡◌, ◌+◌, sym, subst}
use Rattle.audit_core.specs.Entries.{line_entries}
use Rattle.audit_core.specs.Kept.{meanings_in}
use Rattle.audit_core.specs.Matched.{Matches, MatchesAll, entries_stood}
use Rattle.audit_core.specs.Pieces.{RestsSo}
use Rattle.audit_core.proofs.PieceSteps.{broken_first, lines_short, rests_any, told_so}
use Rattle.audit_core.proofs.piece.piece_broken.Goals as goal

pub match_lines-requires-clause-few : goal.match_lines-requires-clause-few
match_lines-requires-clause-few c =
    let next = c.requires.next in
    lines_short next.0 c.args.setup.now c.args.octets.now c.args.lines.now c.args.entries.now
    c.args.subscribers.now.items c.args.before next.1 next.2

pub match_lines-requires-clause-placed : goal.match_lines-requires-clause-placed
match_lines-requires-clause-placed c = c.requires.next.1.placed

pub returns-in-Broken-clause-found : goal.returns-in-Broken-clause-found
returns-in-Broken-clause-found c = λ own next lines_is last_is.
    broken_first own c.args.setup.now c.args.octets.now c.args.lines.now c.args.entries.now
    c.args.subscribers.now.items c.args.before next lines_is c.in-Broken.place
    (subst (Matches (c.args.before + 1) (meanings_in c.args.octets.now c.args.lines.now)
    (line_entries (entries_stood c.args.entries.now))) c.in-Broken.is c.in_ok-matched.ensures)

pub told_broken-requires-clause-next : goal.told_broken-requires-clause-next
told_broken-requires-clause-next c =
    let next = c.requires.next in
    let all = subst (Matches (c.args.before + 1) (meanings_in c.args.octets.now c.args.lines.now)
    (line_entries (entries_stood c.args.entries.now))) c.in-All.is c.in_ok-matched.ensures in (
      next.0,
      told_so next.0 c.args.setup.now c.args.octets.now c.args.lines.now c.args.entries.now
          c.args.subscribers.now.items c.args.before next.1 next.2 c.as_slice.result.now
          (subst (MatchesAll (c.args.before + 1) _ _) (sym c.as_slice.ensures.value) all),
      next.2,
      next.3,
    )

pub returns-in-All-clause-found : goal.returns-in-All-clause-found
returns-in-All-clause-found c = λ own next lines_is last_is.
    let all = subst (Matches (c.args.before + 1) (meanings_in c.args.octets.now c.args.lines.now)
    (line_entries (entries_stood c.args.entries.now))) c.in-All.is c.in_ok-matched.ensures in
    c.told_broken.ensures.found own
    (told_so own c.args.setup.now c.args.octets.now c.args.lines.now c.args.entries.now
    c.args.subscribers.now.items c.args.before next lines_is c.as_slice.result.now
    (subst (MatchesAll (c.args.before + 1) _ _) (sym c.as_slice.ensures.value) all)) lines_is last_is

pub returns-in-All-clause-stands : goal.returns-in-All-clause-stands
returns-in-All-clause-stands c = λ own slices latest next lines_is last_is rest late.
    let all = subst (Matches (c.args.before + 1) (meanings_in c.args.octets.now c.args.lines.now)
    (line_entries (entries_stood c.args.entries.now))) c.in-All.is c.in_ok-matched.ensures in
    rests_any (RestsSo own slices latest c.args.subscribers.now.items c.told_broken.new.subscribers.items)
    c.told_broken.result
    (c.told_broken.ensures.stands own slices latest
    (told_so own c.args.setup.now c.args.octets.now c.args.lines.now c.args.entries.now
    c.args.subscribers.now.items c.args.before next lines_is c.as_slice.result.now
    (subst (MatchesAll (c.args.before + 1) _ _) (sym c.as_slice.ensures.value) all)) lines_is last_is
    rest late)
