use Rattle.std.proofs.Common.{◌+◌, ◌<◌, [], ◌∷◌, ◌++◌, lit<, ap, sym, subst, ◌∙◌, rules}
use Rattle.std.proofs.lemmas.List.Elements.{All-push}
use Rattle.charging_book.specs.Rows.{Counters}
use Rattle.charging_book.specs.Pieces.{volume}
use Rattle.charging_book.proofs.Standing.{stands-started}
use Rattle.charging_book.proofs.PostedLemmas.{goes-started}
use Rattle.charging_book.specs.Accounts.{AreCounting, IsNone}
use Rattle.charging_book.proofs.Places.{none_of_all}
use Rattle.charging_book.proofs.PartLemmas.{lives_in, distinct_behind}
use Rattle.charging_book.proofs.accounts.Book.start.Goals as goal

pub returns-in-Ok-clause-stands : goal.returns-in-Ok-clause-stands
returns-in-Ok-clause-stands c = λ happened taken stands.
    let old = c.args.self.now in
    stands-started old _ happened taken c.args.life c.args.ebi c.args.qci stands c.requires.closed
    (c.in_ok-push_one.ensures.pushed ∙ ap (λ xs. xs ++ c.new.result ∷ []) (ap (λ book. book.opens) c.self.view_is)
    ∙ ap (λ counters. old.opens ++ counters ∷ []) c.new.ensures)
    (c.in-Ok.ensures.pushed ∙ ap (λ xs. xs ++ c.new-2.result ∷ []) (ap (λ book. book.moments) c.self.view_is)
    ∙ ap (λ moments. old.moments ++ moments ∷ []) c.new-2.ensures)
    (ap (λ book. book.rows) c.self.view_is)

pub returns-in-Ok-clause-pieces : goal.returns-in-Ok-clause-pieces
returns-in-Ok-clause-pieces c =
    let old = c.args.self.now in
    goes-started old _ c.args.life c.args.ebi c.args.qci
    (c.in_ok-push_one.ensures.pushed ∙ ap (λ xs. xs ++ c.new.result ∷ []) (ap (λ book. book.opens) c.self.view_is)
    ∙ ap (λ counters. old.opens ++ counters ∷ []) c.new.ensures)
    (c.in-Ok.ensures.pushed ∙ ap (λ xs. xs ++ c.new-2.result ∷ []) (ap (λ book. book.moments) c.self.view_is)
    ∙ ap (λ moments. old.moments ++ moments ∷ []) c.new-2.ensures)
    (ap (λ book. book.rows) c.self.view_is)

pub invariant_of-self-in-Ok : goal.invariant_of-self-in-Ok
invariant_of-self-in-Ok c = (
  search rules,
  subst AreCounting (sym c.in_ok-push_one.ensures.pushed)
      (All-push (λ (counters : Counters). counters.up_octets + counters.down_octets < volume)
      c.self.inside.opens.items c.new.result c.self.invariant.1
      (subst (λ (counters : Counters). counters.up_octets + counters.down_octets < volume) (sym c.new.ensures)
      (lit< tt))),
  distinct_behind c.self.inside.opens.items c.push_one.new.list.items c.new.result c.args.life
      c.in_ok-push_one.ensures.pushed (ap (λ counters. counters.life) c.new.ensures)
      (subst (λ opens. IsNone c.args.life (lives_in opens)) (sym (ap (λ book. book.opens) c.self.view_is))
      (none_of_all c.args.life (lives_in c.args.self.now.opens) c.requires.closed))
      c.self.invariant.2,
)
