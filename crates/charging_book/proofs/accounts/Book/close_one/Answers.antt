use Rattle.std.proofs.Common.{[], ◌∷◌, ◌++◌, set, ap, subst, ◌∙◌, rules}
use Rattle.std.specs.List.{remove}
use Rattle.charging_book.specs.Counters.{row_from}
use Rattle.charging_book.proofs.Standing.{is-at, stands-marked, stands-gone, lives-marked}
use Rattle.charging_book.specs.Happenings.{lives_of}
use Rattle.charging_book.proofs.PartLemmas.{lives_in, distinct_set, distinct_after}
use Rattle.charging_book.proofs.PostedLemmas.{goes-marked, goes-gone}
use Rattle.charging_book.specs.Accounts.{AreDistinct}
use Rattle.charging_book.proofs.accounts.Book.close_one.Goals as goal

pub returns-in-Gone-clause-stands : goal.returns-in-Gone-clause-stands
returns-in-Gone-clause-stands c = λ happened taken stands.
    let old = c.args.self.now in
    let place = c.place_of-place.result in
    let counters = c.index.result.now in
    let moments = c.index-2.result.now in
    let opens = ap (λ book. book.opens) c.self.view_is in
    let spans = ap (λ book. book.moments) c.self.view_is in
    let at = is-at old c.self.inside.opens.items c.self.inside.spans.items place c.args.life counters moments opens
    spans
    (rw c.deref.ensures.value at c.place_of-place.ensures.within)
    (rw c.deref.ensures.value at c.place_of-place.ensures.found)
    c.index.ensures c.index-2.ensures in
    rw c.in-Gone.is (stands-gone old _ happened taken c.args.life place counters moments stands at c.requires.is_open
    (c.remove.ensures.items ∙ ap (λ xs. remove xs place) opens)
    (c.remove-in-Gone.ensures.items ∙ ap (λ xs. remove xs place) spans)
    (c.in_ok-push_one.ensures.pushed ∙ ap (λ xs. xs ++ c.new.result ∷ []) (ap (λ book. book.rows) c.self.view_is)
    ∙ ap (λ row. old.rows ++ row ∷ []) (c.new.ensures ∙ ap (row_from counters moments) c.in-Gone.is)))

pub returns-in_default-clause-stands : goal.returns-in_default-clause-stands
returns-in_default-clause-stands c = λ happened taken stands.
    let old = c.args.self.now in
    let place = c.place_of-place.result in
    let counters = c.index.result.now in
    let moments = c.index-2.result.now in
    let opens = ap (λ book. book.opens) c.self.view_is in
    let spans = ap (λ book. book.moments) c.self.view_is in
    let at = is-at old c.self.inside.opens.items c.self.inside.spans.items place c.args.life counters moments opens
    spans
    (rw c.deref.ensures.value at c.place_of-place.ensures.within)
    (rw c.deref.ensures.value at c.place_of-place.ensures.found)
    c.index.ensures c.index-2.ensures in
    stands-marked old _ happened taken c.args.life place c.args.why counters moments stands at c.requires.is_open
    (lives-marked (lives_of happened) c.args.life c.args.why c.in_default.not-Gone)
    (ap (λ xs. set xs place c.next.result) opens ∙ ap (set old.opens place) c.next.ensures)
    (ap (λ xs. set xs place c.new-in_default.result) spans ∙ ap (set old.moments place) c.new-in_default.ensures)
    (c.in_ok-push_one.ensures.pushed ∙ ap (λ xs. xs ++ c.new.result ∷ []) (ap (λ book. book.rows) c.self.view_is)
    ∙ ap (λ row. old.rows ++ row ∷ []) c.new.ensures)

pub returns-in-Gone-clause-pieces : goal.returns-in-Gone-clause-pieces
returns-in-Gone-clause-pieces c =
    let old = c.args.self.now in
    let place = c.place_of-place.result in
    let counters = c.index.result.now in
    let moments = c.index-2.result.now in
    let opens = ap (λ book. book.opens) c.self.view_is in
    let spans = ap (λ book. book.moments) c.self.view_is in
    let at = is-at old c.self.inside.opens.items c.self.inside.spans.items place c.args.life counters moments opens
    spans
    (rw c.deref.ensures.value at c.place_of-place.ensures.within)
    (rw c.deref.ensures.value at c.place_of-place.ensures.found)
    c.index.ensures c.index-2.ensures in
    let distinct = subst (λ xs. AreDistinct (lives_in xs)) opens c.self.invariant.2 in
    rw c.in-Gone.is (goes-gone old _ c.args.life place counters moments distinct at
    (c.remove.ensures.items ∙ ap (λ xs. remove xs place) opens)
    (c.remove-in-Gone.ensures.items ∙ ap (λ xs. remove xs place) spans)
    (c.in_ok-push_one.ensures.pushed ∙ ap (λ xs. xs ++ c.new.result ∷ []) (ap (λ book. book.rows) c.self.view_is)
    ∙ ap (λ row. old.rows ++ row ∷ []) (c.new.ensures ∙ ap (row_from counters moments) c.in-Gone.is)))

pub returns-in_default-clause-pieces : goal.returns-in_default-clause-pieces
returns-in_default-clause-pieces c =
    let old = c.args.self.now in
    let place = c.place_of-place.result in
    let counters = c.index.result.now in
    let moments = c.index-2.result.now in
    let opens = ap (λ book. book.opens) c.self.view_is in
    let spans = ap (λ book. book.moments) c.self.view_is in
    let at = is-at old c.self.inside.opens.items c.self.inside.spans.items place c.args.life counters moments opens
    spans
    (rw c.deref.ensures.value at c.place_of-place.ensures.within)
    (rw c.deref.ensures.value at c.place_of-place.ensures.found)
    c.index.ensures c.index-2.ensures in
    let distinct = subst (λ xs. AreDistinct (lives_in xs)) opens c.self.invariant.2 in
    goes-marked old _ c.args.life place c.args.why counters moments distinct at c.in_default.not-Gone
    (ap (λ xs. set xs place c.next.result) opens ∙ ap (set old.opens place) c.next.ensures)
    (ap (λ xs. set xs place c.new-in_default.result) spans ∙ ap (set old.moments place) c.new-in_default.ensures)
    (c.in_ok-push_one.ensures.pushed ∙ ap (λ xs. xs ++ c.new.result ∷ []) (ap (λ book. book.rows) c.self.view_is)
    ∙ ap (λ row. old.rows ++ row ∷ []) c.new.ensures)

pub invariant_of-self-in-Gone : goal.invariant_of-self-in-Gone
invariant_of-self-in-Gone c = (
  search rules,
  search rules,
  distinct_after c.self.inside.opens.items c.remove.new.self.items c.place_of-place.result c.remove.ensures.items
      c.self.invariant.2,
)

pub invariant_of-self-in_default : goal.invariant_of-self-in_default
invariant_of-self-in_default c = (
  search rules,
  search rules,
  distinct_set c.self.inside.opens.items c.place_of-place.result c.index.result.now c.next.result c.index.ensures
      (ap (λ counters. counters.life) c.next.ensures)
      c.self.invariant.2,
)
