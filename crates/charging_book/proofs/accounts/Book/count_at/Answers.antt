use Rattle.std.proofs.Common.{ℕ, ◌+◌, [], ◌∷◌, ◌++◌, set, get_or, nat_le, ap, sym, subst, ◌∙◌, rules}
use Rattle.std.proofs.lemmas.List.{get_or-map}
use Rattle.charging_book.specs.declared.records.Why.TheVariants.{Volume}
use Rattle.charging_book.specs.Rows.{Counters}
use Rattle.charging_book.specs.Pieces.{volume}
use Rattle.charging_book.specs.Counters.{with_packet, next_piece, row_from}
use Rattle.charging_book.specs.Accounts.{Accounts, AreDistinct}
use Rattle.charging_book.proofs.Answered.{on_ok}
use Rattle.charging_book.proofs.Standing.{IsAt, life_there, stands-counted, stands-filled}
use Rattle.charging_book.proofs.PartLemmas.{lives_in, distinct_set}
use Rattle.charging_book.proofs.PostedLemmas.{goes-counted, goes-filled}
use Rattle.charging_book.proofs.accounts.Book.count_at.Goals as goal

abbrev life_of : Counters → ℕ
life_of counters = counters.life

pub fill_at-requires-clause-life : goal.fill_at-requires-clause-life
fill_at-requires-clause-life c =
    let old = c.args.self.now in
    let place = c.args.place in
    let counters = c.index.result.now in
    get_or-map life_of old.opens place counters 0 c.requires.within
    ∙ ap life_of (sym (c.index.ensures ∙ ap (λ xs. get_or xs place counters) (ap (λ book. book.opens) c.self.view_is)))
    ∙ ap life_of (sym c.with-counted.ensures)

pub returns-then-is_full-clause-stands : goal.returns-then-is_full-clause-stands
returns-then-is_full-clause-stands c = λ life happened taken found stands.
    let old = c.args.self.now in
    let place = c.args.place in
    let counters = c.index.result.now in
    let moments = c.index-2.result.now in
    let opens = ap (λ book. book.opens) c.self.view_is in
    let spans = ap (λ book. book.moments) c.self.view_is in
    let at : IsAt old place life counters moments = record {
      within = c.requires.within;
      found = found;
      counters_are = c.index.ensures ∙ ap (λ xs. get_or xs place counters) opens;
      moments_are = c.index-2.ensures ∙ ap (λ xs. get_or xs place moments) spans;
    } in
    let is_open = life_there old place life c.requires.within found in
    on_ok c.fill_at.result (λ is. stands-filled old _ happened taken life place
    (record { up = c.args.up; octets = c.args.octets; at = c.args.at })
    counters moments stands at is_open
    (ap (λ counted. nat_le volume (counted.up_octets + counted.down_octets)) (sym c.with-counted.ensures)
    ∙ sym c.is_full.ensures ∙ c.if-is_full.true)
    (ap (λ (book : Accounts). book.opens) is
    ∙ ap (λ counted. set old.opens place (next_piece counted)) c.with-counted.ensures)
    (ap (λ (book : Accounts). book.moments) is)
    (ap (λ (book : Accounts). book.rows) is
    ∙ ap (λ counted. old.rows ++ row_from counted c.with-span.result Volume ∷ []) c.with-counted.ensures
    ∙ ap (λ span. old.rows ++ row_from (with_packet counters c.args.up c.args.octets) span Volume ∷ [])
    c.with-span.ensures))
    c.fill_at.ensures.filled

pub returns-else-is_full-clause-stands : goal.returns-else-is_full-clause-stands
returns-else-is_full-clause-stands c = λ life happened taken found stands.
    let old = c.args.self.now in
    let place = c.args.place in
    let counters = c.index.result.now in
    let moments = c.index-2.result.now in
    let opens = ap (λ book. book.opens) c.self.view_is in
    let spans = ap (λ book. book.moments) c.self.view_is in
    let at : IsAt old place life counters moments = record {
      within = c.requires.within;
      found = found;
      counters_are = c.index.ensures ∙ ap (λ xs. get_or xs place counters) opens;
      moments_are = c.index-2.ensures ∙ ap (λ xs. get_or xs place moments) spans;
    } in
    let is_open = life_there old place life c.requires.within found in
    stands-counted old _ happened taken life place
    (record { up = c.args.up; octets = c.args.octets; at = c.args.at })
    counters moments stands at is_open
    (ap (λ counted. nat_le volume (counted.up_octets + counted.down_octets)) (sym c.with-counted.ensures)
    ∙ sym c.is_full.ensures ∙ c.if-is_full.false)
    (ap (λ xs. set xs place c.with-counted.result) opens ∙ ap (set old.opens place) c.with-counted.ensures)
    (ap (λ xs. set xs place c.with-span.result) spans ∙ ap (set old.moments place) c.with-span.ensures)
    (ap (λ book. book.rows) c.self.view_is)

pub returns-then-is_full-clause-pieces : goal.returns-then-is_full-clause-pieces
returns-then-is_full-clause-pieces c = λ life found.
    let old = c.args.self.now in
    let place = c.args.place in
    let counters = c.index.result.now in
    let moments = c.index-2.result.now in
    let opens = ap (λ book. book.opens) c.self.view_is in
    let spans = ap (λ book. book.moments) c.self.view_is in
    let at : IsAt old place life counters moments = record {
      within = c.requires.within;
      found = found;
      counters_are = c.index.ensures ∙ ap (λ xs. get_or xs place counters) opens;
      moments_are = c.index-2.ensures ∙ ap (λ xs. get_or xs place moments) spans;
    } in
    on_ok c.fill_at.result (λ is. goes-filled old _ life place
    (record { up = c.args.up; octets = c.args.octets; at = c.args.at })
    counters moments (subst (λ xs. AreDistinct (lives_in xs)) opens c.self.invariant.2) at
    (ap (λ counted. nat_le volume (counted.up_octets + counted.down_octets)) (sym c.with-counted.ensures)
    ∙ sym c.is_full.ensures ∙ c.if-is_full.true)
    (ap (λ (book : Accounts). book.opens) is
    ∙ ap (λ counted. set old.opens place (next_piece counted)) c.with-counted.ensures)
    (ap (λ (book : Accounts). book.moments) is)
    (ap (λ (book : Accounts). book.rows) is
    ∙ ap (λ counted. old.rows ++ row_from counted c.with-span.result Volume ∷ []) c.with-counted.ensures
    ∙ ap (λ span. old.rows ++ row_from (with_packet counters c.args.up c.args.octets) span Volume ∷ [])
    c.with-span.ensures))
    c.fill_at.ensures.filled

pub returns-else-is_full-clause-pieces : goal.returns-else-is_full-clause-pieces
returns-else-is_full-clause-pieces c = λ life found.
    let old = c.args.self.now in
    let place = c.args.place in
    let counters = c.index.result.now in
    let moments = c.index-2.result.now in
    let opens = ap (λ book. book.opens) c.self.view_is in
    let spans = ap (λ book. book.moments) c.self.view_is in
    let at : IsAt old place life counters moments = record {
      within = c.requires.within;
      found = found;
      counters_are = c.index.ensures ∙ ap (λ xs. get_or xs place counters) opens;
      moments_are = c.index-2.ensures ∙ ap (λ xs. get_or xs place moments) spans;
    } in
    goes-counted old _ life place
    (record { up = c.args.up; octets = c.args.octets; at = c.args.at })
    counters moments (subst (λ xs. AreDistinct (lives_in xs)) opens c.self.invariant.2) at
    (ap (λ counted. nat_le volume (counted.up_octets + counted.down_octets)) (sym c.with-counted.ensures)
    ∙ sym c.is_full.ensures ∙ c.if-is_full.false)
    (ap (λ xs. set xs place c.with-counted.result) opens ∙ ap (set old.opens place) c.with-counted.ensures)
    (ap (λ xs. set xs place c.with-span.result) spans ∙ ap (set old.moments place) c.with-span.ensures)
    (ap (λ book. book.rows) c.self.view_is)

pub invariant_of-self : goal.invariant_of-self
invariant_of-self c = (
  search rules,
  search rules,
  distinct_set c.self.inside.opens.items c.args.place c.index.result.now c.with-counted.result c.index.ensures
      (ap (λ counters. counters.life) c.with-counted.ensures)
      c.self.invariant.2,
)
