-- What may follow what happened may be posted to a book that represents it.
use Rattle.std.proofs.Common.{◌≡◌, ◌≢◌, ℕ, suc, ◌+◌, ◌↔◌, Bool, true, false, not, IsTrue, ◌-◌, ◌^◌, ◌≤◌, ◌<◌, List, [], ◌∷◌, ◌++◌, length, map, drop, take, All, Contains, get_or, sym, ◌∙◌, ap, refl, subst, append_assoc, length-append, arith}
use Rattle.std.proofs.lemmas.Bool.{false≢true}
use Rattle.std.proofs.lemmas.List.{append-nil, drop-append-le, get_or_default, map-append, take-append-drop, take_more}
use Rattle.std.proofs.Math.Seq.{drop-append_seam, drop-cons}
use Rattle.charging_book.specs.Happenings.{Happening, lives_of, rows_from, rows_of}
use Rattle.charging_book.specs.Accounts.{Accounts, lives_in, StandsFor, LifeHasRoom, IsBounded}
use Rattle.charging_book.specs.declared.accounts.posting.Posting.{Posting}
use Rattle.charging_book.specs.Postings.{happening_of, MayFollow, MayAllFollow, MayStart, MayGoOn}
use Rattle.charging_book.proofs.Bounds.{are_bounded}
use Rattle.charging_book.proofs.Standing.{lives-stand}
use Rattle.charging_book.proofs.Steps.{rows_from-append}

-- counts may rise where few things happened
pub life_has_room : (book : Accounts) (happened : List Happening) (taken life : ℕ) → StandsFor book happened taken
    → length happened ≤ 2 ^ 61 - 20 → LifeHasRoom book life
life_has_room book happened taken life stands few k d within same =
    let bounded : IsBounded (length happened) (get_or book.opens k d) =
    are_bounded book happened taken stands k d within in
    record {
      rows = omega (arith, bounded.rows, few);
      up = omega (arith, bounded.up, few);
      down = omega (arith, bounded.down, few);
    }

pub may_start : (book : Accounts) (happened : List Happening) (taken life : ℕ) → StandsFor book happened taken
    → All (λ other. other ≢ life) (lives_of happened) → life ≤ 2 ^ 61 → MayStart book life
may_start book happened taken life stands fresh in_range = record {
  in_range = in_range;
  fresh = subst (λ lives. All (λ other. other ≢ life) lives) (sym (lives-stand book happened taken stands)) fresh;
}

pub may_go_on : (book : Accounts) (happened : List Happening) (taken life : ℕ) → StandsFor book happened taken
    → Contains (lives_of happened) life → length happened ≤ 2 ^ 61 - 20 → MayGoOn book life
may_go_on book happened taken life stands there few = record {
  is_open = subst (λ lives. Contains lives life) (sym (lives-stand book happened taken stands)) there;
  room = life_has_room book happened taken life stands few;
}

-- what may follow step by step may follow behind the first steps
pub may_all_behind : (before xs ys : List Happening) → MayAllFollow before (xs ++ ys) → MayAllFollow (before ++ xs) ys
may_all_behind before [] ys may = rw append-nil may
may_all_behind before (x ∷ xs) ys may =
    rw append_assoc at (may_all_behind (before ++ x ∷ []) xs ys may.1)

-- a posting at its place
pub may_at : (before : List Happening) (postings : List Posting) (place : ℕ) (posting : Posting)
    → place < length postings
    → posting ≡ get_or postings place posting → MayAllFollow before (map happening_of postings)
    → MayFollow (before ++ map happening_of (take place postings)) (happening_of posting)
may_at before postings place posting within is may =
    let rest : drop place postings ≡ posting ∷ drop (suc place) postings =
    drop-cons postings place posting within ∙ ap (λ x. x ∷ drop (suc place) postings) (sym is) in
    let split : map happening_of postings
    ≡ map happening_of (take place postings) ++ happening_of posting ∷ map happening_of (drop (suc place) postings) =
    ap (map happening_of) (sym (take-append-drop place postings) ∙ ap (λ xs. take place postings ++ xs) rest)
    ∙ map-append happening_of (take place postings) (posting ∷ drop (suc place) postings) in
    (may_all_behind before (map happening_of (take place postings)) (happening_of posting
    ∷ map happening_of (drop (suc place) postings))
    (subst (MayAllFollow before) split may)).0

pub posted_one : (before : List Happening) (postings : List Posting) (place : ℕ) (posting : Posting)
    → place < length postings
    → posting ≡ get_or postings place posting
    → (before ++ map happening_of (take place postings)) ++ happening_of posting ∷ [] ≡ before
    ++ map happening_of (take (place + 1) postings)
posted_one before postings place posting within is =
    append_assoc before (map happening_of (take place postings)) (happening_of posting ∷ [])
    ∙ ap (λ xs. before ++ xs) (sym (ap (map happening_of) (take_more postings place posting within
    ∙ ap (λ x. take place postings ++ x ∷ []) (sym is))
    ∙ map-append happening_of (take place postings) (posting ∷ [])))

-- a book that takes a copy's counters over, and its rows behind its own
pub stands_joined : (book copy new : Accounts) (happened more : List Happening) (taken : ℕ)
    → StandsFor book happened taken
    → StandsFor copy (happened ++ more) (length (rows_of happened))
    → new.opens ≡ copy.opens → new.moments ≡ copy.moments → new.rows ≡ book.rows ++ copy.rows
    → StandsFor new (happened ++ more) taken
stands_joined book copy new happened more taken stands after opens moments rows =
    let all : rows_of (happened ++ more) ≡ rows_of happened ++ rows_from happened more =
    rows_from-append [] happened more in
    record {
      lawful = after.lawful;
      opens = opens ∙ after.opens;
      moments = moments ∙ after.moments;
      rows = rows ∙ ap (λ xs. xs ++ copy.rows) stands.rows
          ∙ ap (λ xs. drop taken (rows_of happened) ++ xs) (after.rows ∙ ap (drop (length (rows_of happened))) all
          ∙ drop-append_seam (rows_of happened) (rows_from happened more))
          ∙ sym (drop-append-le taken (rows_of happened) (rows_from happened more) stands.within)
          ∙ ap (drop taken) (sym all);
      within = omega (arith, stands.within, ap length all, length-append (rows_of happened) (rows_from happened more));
    }

-- a life may start where it isn't open
pub start_told : (book : Accounts) (life : ℕ) (told : Bool) → life ≤ 2 ^ 61
    → IsTrue told ↔ Contains (lives_in book) life
    → IsTrue (not told) ↔ MayStart book life
start_told book life true in_range is_open = (
  λ never. absurd (false≢true never),
  λ may. let there = is_open.0 refl in absurd (may.fresh there.0 life there.1 there.2),
)
start_told book life false in_range is_open = (
  λ not_open. record {
    in_range = in_range;
    fresh = λ k d within same.
        false≢true (is_open.1 (k, within, get_or_default (lives_in book) k life d within ∙ same));
  },
  λ may. refl,
)
