use Rattle.address_book.proofs.BookLemmas.{is_index-nil}
use Rattle.address_book.proofs.book.AddressBook.new.Goals as goal

pub invariant_of-result : goal.invariant_of-result
invariant_of-result c = rw c.new.ensures.items (is_index-nil c.new-2.result c.new-2.ensures.empty)
