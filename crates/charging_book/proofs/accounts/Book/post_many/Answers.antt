use Rattle.std.proofs.Common.{◌≡◌, ◌++◌, length, map, take, ap, sym, ◌∙◌, subst, rules}
use Rattle.std.proofs.lemmas.List.{take_all}
use Rattle.std.proofs.lemmas.Slice.{pushed}
use Rattle.charging_book.specs.Happenings.{rows_of}
use Rattle.charging_book.specs.Accounts.{Accounts, StandsFor}
use Rattle.charging_book.specs.Parts.{ArePiecesOf}
use Rattle.charging_book.specs.Posted.{pieces_after, rows_after}
use Rattle.charging_book.specs.Postings.{happening_of}
use Rattle.charging_book.proofs.PostingLemmas.{may_at, posted_one, stands_joined}
use Rattle.charging_book.proofs.PostedLemmas.{posted_more, goes_far}
use Rattle.charging_book.proofs.accounts.Book.post_many.Goals as goal

pub loop-posting-init : goal.loop-posting-init
loop-posting-init c = record {
  stands = search rules;
  pieces = λ pieces are may. (
    record {
      opens = are.opens ∙ sym (ap (λ (book : Accounts). book.opens) c.in_ok-copy.ensures.pieces);
      moments = are.moments ∙ sym (ap (λ (book : Accounts). book.moments) c.in_ok-copy.ensures.pieces);
    },
    ap (λ (book : Accounts). book.rows) c.in_ok-copy.ensures.pieces,
  );
}

pub loop-posting-preserved : goal.loop-posting-preserved
loop-posting-preserved c = record {
  stands = λ happened taken stands may.
      let postings = c.args.postings.now in
      let place = c.loop-posting.posting-index in
      let posting = c.posting-item.result in
      subst (λ all. StandsFor c.post_one.new.self all (length (rows_of happened)))
      (posted_one happened postings place posting c.loop-posting-test.true c.posting-item.is)
      (c.in_ok-post_one.ensures.stands (happened ++ map happening_of (take place postings)) (length (rows_of happened))
      (c.loop-posting.invariant.stands happened taken stands may)
      (may_at happened postings place posting c.loop-posting-test.true c.posting-item.is may));
  pieces = λ pieces are may.
      let so_far = c.loop-posting.invariant.pieces pieces are may in
      posted_more c.loop-posting.copy c.post_one.new.self pieces c.args.postings.now c.loop-posting.posting-index
      c.posting-item.result c.loop-posting-test.true c.posting-item.is so_far.0 so_far.1 may
      c.in_ok-post_one.ensures.pieces;
}

pub returns-clause-stands : goal.returns-clause-stands
returns-clause-stands c = λ happened taken stands may.
    let old = c.args.self.now in
    let copy = c.loop-posting.copy in
    let all = subst (λ postings. StandsFor copy (happened ++ map happening_of postings) (length (rows_of happened)))
    (take_all c.loop-posting.posting-index c.args.postings.now c.loop-posting-test.false)
    (c.loop-posting.invariant.stands happened taken stands may) in
    stands_joined old copy _ happened (map happening_of c.args.postings.now) taken stands all
    (ap (λ book. book.opens) c.copy-2.view_is) (ap (λ book. book.moments) c.copy-2.view_is)
    (pushed c.deref.result.now (ap (λ book. book.rows) c.self.view_is) c.in_ok-extend_from_slice.was
    c.extend_from_slice.ensures.items
    ∙ ap (λ rows. old.rows ++ rows) (c.deref.ensures.value ∙ ap (λ book. book.rows) c.copy-2.view_is))

pub returns-clause-pieces : goal.returns-clause-pieces
returns-clause-pieces c =
    let all = take_all c.loop-posting.posting-index c.args.postings.now c.loop-posting-test.false in
    goes_far c.args.self.now c.loop-posting.copy _ c.args.postings.now
    (λ pieces are may. subst
    (λ postings. ArePiecesOf c.loop-posting.copy (pieces_after pieces (map happening_of postings))
    × (c.loop-posting.copy.rows ≡ rows_after pieces (map happening_of postings))) all
    (c.loop-posting.invariant.pieces pieces are may))
    (ap (λ book. book.opens) c.copy-2.view_is) (ap (λ book. book.moments) c.copy-2.view_is)
    (pushed c.deref.result.now (ap (λ book. book.rows) c.self.view_is) c.in_ok-extend_from_slice.was
    c.extend_from_slice.ensures.items
    ∙ ap (λ rows. c.args.self.now.rows ++ rows) (c.deref.ensures.value ∙ ap (λ book. book.rows) c.copy-2.view_is))
