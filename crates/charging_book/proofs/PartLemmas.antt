-- Lives stay distinct, and the test of pieces is what a book keeps.
use Rattle.std.proofs.Common.{Result, Ok, Err, IfOk, ◌≡◌, ℕ, zero, suc, ◌+◌, ◌<◌, ◌==◌, ◌||◌, ◌&&◌, not, nat_lt, Bool, true, false, List, [], ◌∷◌, ◌++◌, length, map, get_or, set, sym, ◌∙◌, ap, refl, subst, arith, eq-eqb}
use Rattle.std.specs.List.{remove}
use Rattle.std.proofs.lemmas.Bool.{false≢true, ne_eqb}
use Rattle.std.proofs.lemmas.Bool.Decides.{nat_tests}
use Rattle.std.proofs.lemmas.List.{drop_all, map_push}
use Rattle.charging_book.specs.declared.records.Piece.{Piece}
use Rattle.charging_book.specs.Rows.{Counters}
use Rattle.charging_book.specs.Happenings.{rows_of}
use Rattle.charging_book.specs.Accounts.{AreCounting, IsNone, AreDistinct}
use Rattle.charging_book.specs.Pieces.{volume}
use Rattle.charging_book.specs.Parts.{counts_in, is_counting, has_life, are_parts, PartsRepresentTheSame}
use Rattle.charging_book.proofs.Places.{distinct-push}

abbrev pub life_of : Counters → ℕ
life_of counters = counters.life

abbrev pub lives_in : List Counters → List ℕ
lives_in opens = map life_of opens

-- counters of the same life stand in the place of others
lives_set : (opens : List Counters) (place : ℕ) (old new : Counters) → old ≡ get_or opens place old
    → new.life ≡ old.life → lives_in (set opens place new) ≡ lives_in opens
lives_set [] zero old new is same = refl
lives_set [] (suc place) old new is same = refl
lives_set (first ∷ opens) zero old new is same = ap (λ life. life ∷ lives_in opens) (same ∙ ap life_of is)
lives_set (first ∷ opens) (suc place) old new is same =
    ap (λ lives. first.life ∷ lives) (lives_set opens place old new is same)

pub distinct_set : (opens : List Counters) (place : ℕ) (old new : Counters) → old ≡ get_or opens place old
    → new.life ≡ old.life → AreDistinct (lives_in opens) → AreDistinct (lives_in (set opens place new))
distinct_set opens place old new is same distinct =
    subst AreDistinct (sym (lives_set opens place old new is same)) distinct

-- counters go
none_removed : (life : ℕ) (opens : List Counters) (place : ℕ) → IsNone life (lives_in opens)
    → IsNone life (lives_in (remove opens place))
none_removed life [] zero none = tt
none_removed life [] (suc place) none = tt
none_removed life (first ∷ opens) zero none = none.1
none_removed life (first ∷ opens) (suc place) none = (none.0, none_removed life opens place none.1)

distinct_removed : (opens : List Counters) (place : ℕ) → AreDistinct (lives_in opens)
    → AreDistinct (lives_in (remove opens place))
distinct_removed [] zero distinct = tt
distinct_removed [] (suc place) distinct = tt
distinct_removed (first ∷ opens) zero distinct = distinct.1
distinct_removed (first ∷ opens) (suc place) distinct =
    (none_removed first.life opens place distinct.0, distinct_removed opens place distinct.1)

pub distinct_after : (opens left : List Counters) (place : ℕ) → left ≡ remove opens place → AreDistinct (lives_in opens)
    → AreDistinct (lives_in left)
distinct_after opens left place is distinct =
    subst (λ xs. AreDistinct (lives_in xs)) (sym is) (distinct_removed opens place distinct)

-- counters of a new life come
pub distinct_behind : (opens more : List Counters) (new : Counters) (life : ℕ) → more ≡ opens ++ new ∷ []
    → new.life ≡ life → IsNone life (lives_in opens) → AreDistinct (lives_in opens) → AreDistinct (lives_in more)
distinct_behind opens more new life is same none distinct =
    subst (λ xs. AreDistinct (lives_in xs)) (sym is)
    (subst AreDistinct (sym (map_push life_of opens new))
    (distinct-push (lives_in opens) new.life distinct (subst (λ x. IsNone x (lives_in opens)) (sym same) none)))

is_below : (m n : ℕ) → nat_lt m n ≡ true → m < n
is_below m n holds = grind (arith, nat_tests)

tests_below : (m n : ℕ) → m < n → nat_lt m n ≡ true
tests_below m n holds = grind (arith, nat_tests)

both : (a b : Bool) → (a && b) ≡ true → (a ≡ true) × (b ≡ true)
both true b holds = (refl, holds)
both false b holds = absurd (false≢true holds)

neither : (a b : Bool) → (a || b) ≡ false → (a ≡ false) × (b ≡ false)
neither true b fails = absurd (false≢true (sym fails))
neither false b fails = (refl, fails)

negated : (a : Bool) → not a ≡ true → a ≡ false
negated true holds = absurd (false≢true holds)
negated false holds = refl

-- no piece of a life
none_found : (life : ℕ) (pieces : List Piece) → has_life life pieces ≡ false
    → IsNone life (lives_in (map counts_in pieces))
none_found life [] fails = tt
none_found life (piece ∷ pieces) fails =
    let parts = neither (life == piece.counts.life) (has_life life pieces) fails in
    (λ same. false≢true (sym parts.0 ∙ eq-eqb life piece.counts.life (sym same)), none_found life pieces parts.1)

found_none : (life : ℕ) (pieces : List Piece) → IsNone life (lives_in (map counts_in pieces))
    → has_life life pieces ≡ false
found_none life [] none = refl
found_none life (piece ∷ pieces) none =
    rw (ne_eqb life piece.counts.life (λ same. none.0 (sym same))) (found_none life pieces none.1)

-- what the test says of the first piece, and of the others
tested : (piece : Piece) (pieces : List Piece) → are_parts (piece ∷ pieces) ≡ true
    → (has_life piece.counts.life pieces ≡ false) × (is_counting piece ≡ true) × (are_parts pieces ≡ true)
tested piece pieces holds =
    let first = both (not (has_life piece.counts.life pieces) && is_counting piece) (are_parts pieces) holds in
    let second = both (not (has_life piece.counts.life pieces)) (is_counting piece) first.0 in
    (negated (has_life piece.counts.life pieces) second.0, second.1, first.1)

pub parts_distinct : (pieces : List Piece) → are_parts pieces ≡ true → AreDistinct (lives_in (map counts_in pieces))
parts_distinct [] holds = tt
parts_distinct (piece ∷ pieces) holds =
    let told = tested piece pieces holds in
    (none_found piece.counts.life pieces told.0, parts_distinct pieces told.2)

pub parts_counting : (pieces : List Piece) → are_parts pieces ≡ true → AreCounting (map counts_in pieces)
parts_counting [] holds k d within = absurd (omega arith)
parts_counting (piece ∷ pieces) holds zero d within =
    is_below (piece.counts.up_octets + piece.counts.down_octets) volume (tested piece pieces holds).1
parts_counting (piece ∷ pieces) holds (suc k) d within =
    parts_counting pieces (tested piece pieces holds).2 k d (omega (arith, within))

pub kept_parts : (pieces : List Piece) → AreDistinct (lives_in (map counts_in pieces))
    → AreCounting (map counts_in pieces) → are_parts pieces ≡ true
kept_parts [] distinct counting = refl
kept_parts (piece ∷ pieces) distinct counting =
    let none = found_none piece.counts.life pieces distinct.0 in
    let fits = counting 0 piece.counts (omega arith) in
    let counts : is_counting piece ≡ true
    = tests_below (piece.counts.up_octets + piece.counts.down_octets) volume fits in
    rw (none, counts) (kept_parts pieces distinct.1 (λ k d within. counting (suc k) d (omega (arith, within))))

-- what follows from what holds of an answer
pub implied : {T E : Type 0} (result : Result T E) (P Q : T → Type 0) → IfOk result P → ((x : T) → P x → Q x)
    → IfOk result Q
implied (Ok x) P Q holds step = step x holds
implied (Err e) P Q holds step = tt

pub parts_stand : PartsRepresentTheSame
parts_stand book happened taken pieces stands are = record {
  lawful = stands.lawful;
  opens = are.opens ∙ stands.opens;
  moments = are.moments ∙ stands.moments;
  rows = sym (drop_all (length (rows_of happened)) (rows_of happened) (omega arith));
  within = omega arith;
}
