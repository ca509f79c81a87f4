use Rattle.std.proofs.Common.{◌≡◌, ◌≤◌, Some, None, length, sym, ◌∙◌, ap, arith}
use Rattle.address_book.specs.Book.{slot_in}
use Rattle.address_book.proofs.BookLemmas.{is_index-push, slot_in-new}
use Rattle.address_book.proofs.book.AddressBook.admit_new.Goals as goal

pub invariant_of-self-in_default : goal.invariant_of-self-in_default
invariant_of-self-in_default c =
    let absent : slot_in c.self.inside.imsis.items c.args.imsi ≡ None
    = ap (λ book. slot_in book c.args.imsi) c.self.view_is ∙ c.requires in
    let room : length c.self.inside.imsis.items ≤ 65532 = omega arith in
    let next : c.len-place.result ≡ length c.self.inside.imsis.items = omega arith in
    rw c.in_ok-push.ensures.items
    (is_index-push c.self.inside.slots c.insert.new.self c.self.inside.imsis.items c.args.imsi c.len-place.result
    c.self.invariant absent next room c.in_default.ensures.updates.0)

pub returns-clause-slot : goal.returns-clause-slot
returns-clause-slot c =
    let absent : slot_in c.self.inside.imsis.items c.args.imsi ≡ None
    = ap (λ book. slot_in book c.args.imsi) c.self.view_is ∙ c.requires in
    let next : c.len-place.result ≡ length c.self.inside.imsis.items = omega arith in
    rw c.in_ok-push.ensures.items (slot_in-new c.self.inside.imsis.items c.args.imsi absent ∙ ap Some (sym next))
