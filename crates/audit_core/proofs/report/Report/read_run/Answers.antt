use Rattle.std.proofs.Common.{◌≡◌, ◌+◌, ◌∙◌, ◌++◌, drop, map, refl, sym, subst, append-nil}
use Rattle.report_lines.specs.Text.{entry_text}
use Rattle.lawful_run.specs.Telling.{counted}
use Rattle.audit_core.specs.Matched.{entries_stood, places_stood}
use Rattle.audit_core.proofs.ReadLemmas.{ReadsIn, next_in_run, places_next, reads_begin, reads_next}
use Rattle.audit_core.proofs.report.Report.read_run.Goals as goal

pub read-requires : goal.read-requires
read-requires c =
    let octets = c.args.self.now.texts in
    let run = c.args.run.now in
    let entries = c.requires.0 in
    let i = c.loop-i.i in
    let next = next_in_run octets entries run (entries_stood c.args.all.now.items) c.loop-i.at i c.loop-i.all.items
    c.requires.2 c.requires.3 c.loop-i-test.true (c.loop-i.invariant.entries entries c.requires.2 c.requires.3) in
    (entry_text next.one, map entry_text (drop (run.first + i + 1) entries), next.keeps)

pub known-requires : goal.known-requires
known-requires c =
    let octets = c.args.self.now.texts in
    let run = c.args.run.now in
    let entries = c.requires.0 in
    let i = c.loop-i.i in
    let next = next_in_run octets entries run (entries_stood c.args.all.now.items) c.loop-i.at i c.loop-i.all.items
    c.requires.2 c.requires.3 c.loop-i-test.true (c.loop-i.invariant.entries entries c.requires.2 c.requires.3) in (
      next.one,
      next.range,
      c.as_slice.ensures
          ∙ c.in_ok-at.ensures.text (entry_text next.one) (map entry_text (drop (run.first + i + 1) entries)) next.keeps,
    )

pub loop-i-init : goal.loop-i-init
loop-i-init c = record {
  entries = reads_begin c.args.self.now.texts c.args.run.now c.args.all.now.items;
  places = sym (append-nil (places_stood c.args.all.now.items));
}

pub loop-i-preserved : goal.loop-i-preserved
loop-i-preserved c =
    let octets = c.args.self.now.texts in
    let run = c.args.run.now in
    let i = c.loop-i.i in
    let old = c.loop-i.all.items in
    record {
      entries =
          subst (ReadsIn octets run (entries_stood c.args.all.now.items) c.in_ok-at.at (i + 1))
          (sym c.in_ok-push.ensures.items)
          (reads_next octets run (entries_stood c.args.all.now.items) c.loop-i.at c.in_ok-at.at i old _ c.loop-i-test.true
          (λ own later is keeps. (
            c.in_ok-entry.ensures own is (c.as_slice.ensures ∙ c.in_ok-at.ensures.text (entry_text own) later keeps),
            c.in_ok-at.ensures.next (entry_text own) later keeps,
          )) c.loop-i.invariant.entries);
      places =
          subst (λ l. places_stood l ≡ places_stood c.args.all.now.items ++ counted run.first (i + 1))
          (sym c.in_ok-push.ensures.items)
          (places_next run (places_stood c.args.all.now.items) i old _ refl c.loop-i.invariant.places);
    }
