use Rattle.std.proofs.Common.{◌+◌, ◌∙◌, length, drop, sym, ap, subst, arith}
use Rattle.std.proofs.lemmas.List.{length-map}
use Rattle.audit_core.specs.Entries.{line_entries}
use Rattle.slot_execution.specs.Kept.{meaning_in}
use Rattle.audit_core.specs.Kept.{meanings_in}
use Rattle.audit_core.specs.Matched.{UnansweredIn, entries_stood, in_range, lent_entry, of_number}
use Rattle.audit_core.specs.Places.{first_of}
use Rattle.audit_core.specs.Telling.{at_line}
use Rattle.audit_core.proofs.AnswerLemmas.{true_answers}
use Rattle.audit_core.proofs.MatchedLemmas.{meant_at, meant_within, none_here, placed_at, second_here, some_here}
use Rattle.audit_core.proofs.MetLemmas.{Met, all_matched, broken_again, broken_end, broken_missing, broken_wrong, met_more}
use Rattle.audit_core.proofs.matching.match_lines.Goals as goal

pub returns-in-Some : goal.returns-in-Some
returns-in-Some c =
    let first = c.args.first in
    let octets = c.args.octets.now in
    let lines = c.args.lines.now in
    let made = meanings_in octets lines in
    let entries = line_entries (entries_stood c.args.entries.now) in
    let i = c.loop-i.i in
    let one = c.index-lines-i.result in
    let low = c.loop-i-test.true in
    let e = c.in-Some.entry.now in
    subst (UnansweredIn first made (in_range first (length made) entries))
    (sym (c.in_ok-at_line.ensures ∙ ap (at_line e) c.in_ok-dash.ensures))
    (broken_again first made entries i c.loop-i.told.items (lent_entry c.loop-i.again) c.loop-i.invariant.met
    (meaning_in octets one) e (meant_within octets lines i one low c.index-lines-i.is)
    (meant_at octets lines i one low c.index-lines-i.is) (ap lent_entry c.in-Some.is))

pub returns-in_default-first : goal.returns-in_default-first
returns-in_default-first c =
    let first = c.args.first in
    let octets = c.args.octets.now in
    let lines = c.args.lines.now in
    let made = meanings_in octets lines in
    let entries = line_entries (entries_stood c.args.entries.now) in
    let i = c.loop-i.i in
    let one = c.index-lines-i.result in
    let low = c.loop-i-test.true in
    subst (UnansweredIn first made (in_range first (length made) entries)) (sym (c.in_ok-missing.ensures octets))
    (broken_missing first made entries i c.loop-i.told.items (lent_entry c.loop-i.again) c.loop-i.invariant.met
    (meaning_in octets one) (meant_within octets lines i one low c.index-lines-i.is)
    (meant_at octets lines i one low c.index-lines-i.is) (ap lent_entry c.in_default.is)
    (none_here first (length lines) entries c.in_ok-found.found.items i c.index-own.result.now c.loop-i.invariant.found
    low c.index-own.ensures c.in_default-first.is))

pub returns-then-not-answers : goal.returns-then-not-answers
returns-then-not-answers c =
    let first = c.args.first in
    let octets = c.args.octets.now in
    let lines = c.args.lines.now in
    let made = meanings_in octets lines in
    let entries = line_entries (entries_stood c.args.entries.now) in
    let i = c.loop-i.i in
    let one = c.index-lines-i.result in
    let low = c.loop-i-test.true in
    let e = c.in-Some-first.entry.now in
    subst (UnansweredIn first made (in_range first (length made) entries))
    (sym (c.in_ok-at_line-2.ensures ∙ ap (at_line e) (c.in_ok-due.ensures octets)))
    (broken_wrong first made entries i c.loop-i.told.items (lent_entry c.loop-i.again) c.loop-i.invariant.met
    (meaning_in octets one) e (drop 1 (of_number (first + i) entries))
    (meant_within octets lines i one low c.index-lines-i.is) (meant_at octets lines i one low c.index-lines-i.is)
    (ap lent_entry c.in_default.is)
    (some_here first (length lines) entries c.in_ok-found.found.items i c.index-own.result.now
    c.loop-i.invariant.found low c.index-own.ensures c.in-Some-first.entry c.in-Some-first.is)
    (sym (c.answers.ensures octets) ∙ c.if-not-answers.true))

pub loop-i-preserved : goal.loop-i-preserved
loop-i-preserved c =
    let first = c.args.first in
    let octets = c.args.octets.now in
    let lines = c.args.lines.now in
    let made = meanings_in octets lines in
    let entries = line_entries (entries_stood c.args.entries.now) in
    let i = c.loop-i.i in
    let one = c.index-lines-i.result in
    let low = c.loop-i-test.true in
    let own = c.index-own.result.now in
    let e = c.in-Some-first.entry in
    record {
      found = c.loop-i.invariant.found;
      met =
          subst (Met first made entries (i + 1) c.push.new.self.items)
          (sym (second_here first (length lines) entries c.in_ok-found.found.items i own c.loop-i.invariant.found low
          c.index-own.ensures))
          (subst (λ l. Met first made entries (i + 1) l (first_of (drop 1 (of_number (first + i) entries))))
          (sym c.in_ok-push.ensures.items)
          (met_more first made entries i c.loop-i.told.items (lent_entry c.loop-i.again) c.loop-i.invariant.met _
          (drop 1 (of_number (first + i) entries)) (ap lent_entry c.in_default.is)
          (meant_within octets lines i one low c.index-lines-i.is) (meant_at octets lines i one low c.index-lines-i.is)
          (some_here first (length lines) entries c.in_ok-found.found.items i own c.loop-i.invariant.found low
          c.index-own.ensures e c.in-Some-first.is)
          (true_answers (first + i) (meaning_in octets one) e.now
          (sym (c.answers.ensures octets) ∙ c.if-not-answers.false))
          (placed_at octets lines i one low c.index-lines-i.is c.requires.placed)));
    }

pub returns-in-Some-again : goal.returns-in-Some-again
returns-in-Some-again c =
    let first = c.args.first in
    let octets = c.args.octets.now in
    let lines = c.args.lines.now in
    let made = meanings_in octets lines in
    let entries = line_entries (entries_stood c.args.entries.now) in
    let e = c.in-Some-again.entry.now in
    subst (UnansweredIn first made (in_range first (length made) entries))
    (sym (c.in_ok-at_line-in-Some-again.ensures ∙ ap (at_line e) c.in_ok-dash-in-Some-again.ensures))
    (broken_end first made entries c.loop-i.i c.loop-i.told.items (lent_entry c.loop-i.again) c.loop-i.invariant.met e
    (omega (arith, c.loop-i-test.false, c.loop-i.auto.i-end, length-map lines (meaning_in octets)))
    (ap lent_entry c.in-Some-again.is))

pub returns : goal.returns
returns c =
    let octets = c.args.octets.now in
    let lines = c.args.lines.now in
    all_matched c.args.first (meanings_in octets lines) (line_entries (entries_stood c.args.entries.now)) c.loop-i.i
    c.loop-i.told.items (lent_entry c.loop-i.again) c.loop-i.invariant.met
    (omega (arith, c.loop-i-test.false, c.loop-i.auto.i-end, length-map lines (meaning_in octets)))
    (ap lent_entry c.in-None.is)
