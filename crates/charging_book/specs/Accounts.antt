-- A book as contracts see it, and the happenings that it represents.
use Rattle.std.specs.Prelude.{◌≡◌, ◌≢◌, ℕ, ◌+◌, ◌<◌, ◌≤◌, List, [], ◌∷◌, length, map, drop, All}
use Rattle.charging_book.specs.Rows.{Counters, Moments, Charged}
use Rattle.charging_book.specs.Counters.{HasRoom}
use Rattle.charging_book.specs.Pieces.{volume}
use Rattle.charging_book.specs.Happenings.{Happening, lives_of, opens_of, moments_at, rows_of, IsLawful}

-- the open counters and moments of the lives that aren't over, and the rows that weren't taken
pub record Accounts : Type 0 where
  pub opens : List Counters
  pub moments : List Moments
  pub rows : List Charged

-- the lives that aren't over
abbrev pub lives_in : Accounts → List ℕ
lives_in book = map (λ counters. counters.life) book.opens

-- the counts of a life may still rise
abbrev pub LifeHasRoom : Accounts → ℕ → Type 0
LifeHasRoom book life = All (λ counters. counters.life ≡ life → HasRoom counters) book.opens

-- the book is what these happenings make of a new one, with so many rows taken
pub record StandsFor (book : Accounts) (happened : List Happening) (taken : ℕ) : Type 0 where
  pub lawful : IsLawful happened
  pub opens : book.opens ≡ opens_of happened
  pub moments : book.moments ≡ map (moments_at happened) (lives_of happened)
  pub rows : book.rows ≡ drop taken (rows_of happened)
  pub within : taken ≤ length (rows_of happened)

-- each piece has fewer octets than fill one
abbrev pub AreCounting : List Counters → Type 0
AreCounting opens = All (λ counters. counters.up_octets + counters.down_octets < volume) opens

-- x isn't among them · no two of them are one
abbrev pub IsNone : ℕ → List ℕ → Type 0
IsNone x [] = Unit {0}
IsNone x (y ∷ ys) = (y ≢ x) × IsNone x ys

abbrev pub AreDistinct : List ℕ → Type 0
AreDistinct [] = Unit {0}
AreDistinct (x ∷ xs) = IsNone x xs × AreDistinct xs

-- no count of these counters is above a number
pub record IsBounded (most : ℕ) (counters : Counters) : Type 0 where
  pub rows : counters.seq ≤ most
  pub up : counters.up_packets ≤ most
  pub down : counters.down_packets ≤ most

-- no count of a book is above the number of happenings
abbrev pub AreBounded : Type 0
AreBounded = (book : Accounts) (happened : List Happening) (taken : ℕ) → StandsFor book happened taken
    → All (IsBounded (length happened)) book.opens
