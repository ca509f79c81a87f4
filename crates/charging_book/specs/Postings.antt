-- What is posted to a book, and where it may follow what happened.
use Rattle.std.specs.Prelude.{◌≢◌, ℕ, ◌-◌, ◌^◌, ◌≤◌, List, [], ◌∷◌, ◌++◌, length, All, Contains}
use Rattle.charging_book.specs.declared.accounts.posting.Posting.{Posting}
use Rattle.charging_book.specs.declared.accounts.posting.Posting.TheVariants.{Start, Packet, Close}
use Rattle.charging_book.specs.Happenings.{Happening, started, forwarded, closed, MayHappen}
use Rattle.charging_book.specs.Accounts.{Accounts, lives_in, LifeHasRoom}

abbrev pub happening_of : Posting → Happening
happening_of (Start life ebi qci) = started life ebi qci
happening_of (Packet life up octets at) = forwarded life (record { up = up; octets = octets; at = at })
happening_of (Close life why) = closed life why

-- the number of a life that starts is in its range
abbrev pub IsInRange : Happening → Type 0
IsInRange (started life ebi qci) = life ≤ 2 ^ 61
IsInRange (forwarded life p) = Unit {0}
IsInRange (closed life why) = Unit {0}

-- it may happen, and so few things happened that every count may rise
pub record MayFollow (before : List Happening) (now : Happening) : Type 0 where
  pub may : MayHappen before now
  pub in_range : IsInRange now
  pub few : length before ≤ 2 ^ 61 - 20

abbrev pub MayAllFollow : List Happening → List Happening → Type 0
MayAllFollow before [] = Unit {0}
MayAllFollow before (now ∷ later) = MayFollow before now × MayAllFollow (before ++ now ∷ []) later

-- the same by the book itself: a life may start · something may happen to an open life
pub record MayStart (book : Accounts) (life : ℕ) : Type 0 where
  pub in_range : life ≤ 2 ^ 61
  pub fresh : All (λ other. other ≢ life) (lives_in book)

pub record MayGoOn (book : Accounts) (life : ℕ) : Type 0 where
  pub is_open : Contains (lives_in book) life
  pub room : LifeHasRoom book life

-- what may be posted to a book, by the book itself
abbrev pub MayBePosted : Accounts → Happening → Type 0
MayBePosted book (started life ebi qci) = MayStart book life
MayBePosted book (forwarded life p) = MayGoOn book life
MayBePosted book (closed life why) = MayGoOn book life
