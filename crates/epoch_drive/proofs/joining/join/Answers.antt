use Rattle.std.proofs.Common.{◌≡◌, ◌+◌, ◌<◌, [], ◌∷◌, List, length, map, drop, get_or, subst, sym, ap, ◌∙◌, arith}
use Rattle.std.proofs.lemmas.List.{drop_all, drop_more, get_or-map, length-map}
use Rattle.std.proofs.lemmas.List.Elements.{All-get_or, All-push}
use Rattle.demux.specs.Trace.{Meaning}
use Rattle.report_lines.specs.declared.entry.LineEntry.{LineEntry}
use Rattle.lawful_run.specs.Filling.{filled}
use Rattle.epoch_drive.specs.Joins.{mets_at, replies_at}
use Rattle.slot_execution.specs.Kept.{meaning_in}
use Rattle.at_rest.specs.Meant.{IsWithin}
use Rattle.epoch_drive.specs.DrivenOpened.{open_entries}
use Rattle.epoch_drive.specs.Telling.{DrivenTold, AreShort, IsShortEntry}
use Rattle.epoch_drive.proofs.EntryLemmas.{Joins, joins_next, joins_over}
use Rattle.epoch_drive.proofs.joining.join.Goals as goal

pub entry_of-entry-requires : goal.entry_of-entry-requires
entry_of-entry-requires c =
    let at = c.loop-i in
    let now = c.index-kept-i.result in
    let made : List Meaning = map (meaning_in []) c.args.kept.now in
    subst (λ n. IsWithin n (meaning_in [] now)) (sym at.invariant.many)
    (subst (IsWithin (length c.args.answers.now.items))
    (get_or-map (meaning_in []) c.args.kept.now at.i now (meaning_in [] now) c.loop-i-test.true
    ∙ ap (meaning_in []) (sym c.index-kept-i.is))
    (All-get_or (IsWithin (length c.args.answers.now.items)) made at.i (meaning_in [] now)
    (omega (arith, c.loop-i-test.true, length-map c.args.kept.now (meaning_in []))) c.requires.within))

pub loop-i-preserved : goal.loop-i-preserved
loop-i-preserved c =
    let at = c.loop-i in
    let now = c.index-kept-i.result in
    let entry = c.entry_of-entry.result in
    let outs = c.args.outcomes.now in
    let answers = c.entry_of-entry.new.answers.items in
    record {
      room = c.push_reserved.ensures.capacity ∙ at.invariant.room;
      put = c.push_reserved.ensures.len ∙ ap (λ n. n + 1) at.invariant.put;
      many = (c.entry_of-entry.ensures []).many ∙ at.invariant.many;
      joins = λ octets.
          let made : List Meaning = map (meaning_in octets) c.args.kept.now in
          let it : Meaning = meaning_in octets now in
          let low : at.i < length made = omega (arith, c.loop-i-test.true, length-map c.args.kept.now (meaning_in octets)) in
          let it_is : it ≡ get_or made at.i it =
          ap (meaning_in octets) c.index-kept-i.is
          ∙ sym (get_or-map (meaning_in octets) c.args.kept.now at.i now it c.loop-i-test.true) in
          let whole : List LineEntry = filled (open_entries c.args.first made outs)
          (replies_at c.args.answers.now.items) (mets_at c.args.answers.now.items) in
          subst (λ (es : List DrivenTold). Joins es (open_entries (c.args.first + (at.i + 1)) (drop (at.i + 1) made)
          (drop (at.i + 1) outs)) (replies_at answers) (mets_at answers) whole) (sym c.push_reserved.ensures.items)
          (joins_next at.entries.items entry c.args.first at.i it (drop (at.i + 1) made) (drop at.i made) outs
          c.index-outcomes-i.result at.answers.items answers whole
          (omega (arith, c.loop-i-test.true, c.requires.outcomes)) c.index-outcomes-i.is
          (drop_more made at.i it low ∙ ap (λ x. x ∷ drop (at.i + 1) made) (sym it_is)) (at.invariant.joins octets)
          (c.entry_of-entry.ensures octets));
      short = subst AreShort (sym c.push_reserved.ensures.items)
          (All-push IsShortEntry at.entries.items entry at.invariant.short
          ((c.entry_of-entry.ensures []).short at.invariant.still));
      still = (c.entry_of-entry.ensures []).still at.invariant.still;
    }

pub returns-clause-entries : goal.returns-clause-entries
returns-clause-entries c = λ octets.
    let at = c.loop-i in
    let made : List Meaning = map (meaning_in octets) c.args.kept.now in
    joins_over at.entries.items (c.args.first + at.i) (drop at.i made) (drop at.i c.args.outcomes.now)
    (replies_at at.answers.items) (mets_at at.answers.items)
    (filled (open_entries c.args.first made c.args.outcomes.now) (replies_at c.args.answers.now.items)
    (mets_at c.args.answers.now.items))
    (drop_all at.i made (omega (arith, c.loop-i-test.false, length-map c.args.kept.now (meaning_in octets))))
    (at.invariant.joins octets)
