use Rattle.std.proofs.Common.{◌≡◌, ℕ, List, [], ◌∷◌, ◌++◌, length, set, get_or, ap, sym, subst, ◌<◌, ◌∙◌, rules}
use Rattle.std.proofs.lemmas.List.{get_or-map, get_or_default}
use Rattle.charging_book.specs.Rows.{Counters}
use Rattle.charging_book.specs.Counters.{next_piece, no_moments}
use Rattle.charging_book.specs.Accounts.{Accounts}
use Rattle.charging_book.proofs.PartLemmas.{lives_in, distinct_set}
use Rattle.charging_book.proofs.accounts.Book.fill_at.Goals as goal

abbrev life_of : Counters → ℕ
life_of counters = counters.life

pub returns-clause-filled : goal.returns-clause-filled
returns-clause-filled c =
    let old = c.args.self.now in
    let place = c.args.place in
    let opens : set c.self.inside.opens.items place c.next.result ≡ set old.opens place (next_piece c.args.counted.now) =
    ap (λ (book : Accounts). set book.opens place c.next.result) c.self.view_is
    ∙ ap (set old.opens place) c.next.ensures in
    let moments : set c.self.inside.spans.items place c.new-2.result ≡ set old.moments place no_moments =
    ap (λ (book : Accounts). set book.moments place c.new-2.result) c.self.view_is
    ∙ ap (set old.moments place) c.new-2.ensures in
    let rows = c.in_ok-push_one.ensures.pushed
    ∙ ap (λ (book : Accounts). book.rows ++ c.new.result ∷ []) c.self.view_is
    ∙ ap (λ row. old.rows ++ row ∷ []) c.new.ensures in
    cc (opens, moments, rows)

pub invariant_of-self-2 : goal.invariant_of-self-2
invariant_of-self-2 c = (
  search rules,
  search rules,
  let all = c.self.inside.opens.items in
      let place = c.args.place in
      let counted = c.args.counted.now in
      let old = get_or all place counted in
      let opens = ap (λ (book : Accounts). book.opens) c.self.view_is in
      let within : place < length all = subst (λ (xs : List Counters). place < length xs) (sym opens) c.requires.within in
      let same : counted.life ≡ old.life =
      sym (ap (λ (xs : List Counters). get_or (lives_in xs) place 0) opens ∙ c.requires.life)
      ∙ get_or-map life_of all place counted 0 within in
      distinct_set all place old c.next.result (get_or_default all place counted old within)
      (ap life_of c.next.ensures ∙ same)
      c.self.invariant.2,
)
