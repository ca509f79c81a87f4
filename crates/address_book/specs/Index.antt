-- The index beside a book: a hash map from IMSI to slot.
use Rattle.std.specs.Prelude.{◌≡◌, ℕ, Bool, List}
use Rattle.std.specs.declared.hash.FoldHasher.{FoldHasher}
use Rattle.std.specs.declared.hash.BuildHasherDefault.{BuildHasherDefault}
use Rattle.std.specs.HashMap.{get, HashMap}
use Rattle.pc_base.specs.contracts.imsi.ImsiPartialEq.TheImpl as imsi_eq
use Rattle.address_book.specs.Book.{IsBook, slot_in}

-- what `==` of two IMSIs gives
abbrev pub same_imsi : List ℕ → List ℕ → Bool
same_imsi = (imsi_eq.ghosts).eq

abbrev pub Slots : Type 0
Slots = HashMap (List ℕ) ℕ (BuildHasherDefault FoldHasher)

-- the map has the slot of each IMSI in the book, and no other
pub record IsIndex (slots : Slots) (book : List (List ℕ)) : Type 0 where
  pub is_book : IsBook book
  pub indexed : (imsi : List ℕ) → get same_imsi slots imsi ≡ slot_in book imsi
