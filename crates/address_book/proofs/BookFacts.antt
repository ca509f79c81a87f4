-- The definitions at three IMSIs: one, another that begins like it, and the first again.
use Rattle.std.proofs.Common.{◌≡◌, ℕ, List, [], ◌∷◌, Some, None, refl}
use Rattle.std.specs.Prelude.{codes}
use Rattle.address_book.specs.Book.{slot_in, admitted}

abbrev first : List ℕ
first = codes "001010"

abbrev longer : List ℕ
longer = codes "0010100"

abbrev book : List (List ℕ)
book = admitted (admitted (admitted [] first) longer) first

each_once : book ≡ first ∷ longer ∷ []
each_once = refl

slot_of_first : slot_in book first ≡ Some 0
slot_of_first = refl

slot_of_longer : slot_in book longer ≡ Some 1
slot_of_longer = refl

slot_of_other : slot_in book (codes "001011") ≡ None
slot_of_other = refl
