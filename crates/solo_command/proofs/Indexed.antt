-- The pieces of a book in the order of its version's bearers: they fit, where the book's own do.
use Rattle.std.proofs.Common.{◌≡◌, ℕ, suc, ◌==◌, ◌&&◌, ◌||◌, Bool, true, false, not, List, [], ◌∷◌, length, Option, Some, refl, sym, ap, ◌∙◌, subst, inl, inr, eq-eqb}
use Rattle.std.specs.List.{AllByRecursion, cons_option, list_all}
use Rattle.std.proofs.lemmas.Bool.{and_parts, and_from, eqb-true, false≢true, ne_eqb}
use Rattle.charging_book.specs.Parts.{are_parts, has_life, is_counting}
use Rattle.charging_book.specs.Posted.{is_of}
use Rattle.charging_book.specs.declared.records.Piece.{Piece}
use Rattle.bearer_state.specs.Bearer.{EachPair}
use Rattle.bearer_state.specs.Version.{IsActiveBefore, IsVersion, VersionState}
use Rattle.bearer_state.specs.declared.version.ActiveBearer.{ActiveBearer}
use Rattle.packet_steps.specs.Parts.{all_have_bearers, buckets_fit, has_bearer, held_fit, is_piece_of, may_fit, pieces_fit, were_asked}
use Rattle.packet_steps.proofs.BearerLemmas.{same_by_life}
use Rattle.gate_model.proofs.Members.{In, contains_in, in_any, of_any, of_find}
use Rattle.subscriber.proofs.AlikeFits.{fitting_open}
use Rattle.record_codec.specs.Saved.{ArePiecesFor, IsPieceOf, by_index, piece_for}
use Rattle.solo_command.specs.GatewayLaws.{PiecesFitInOrder}
use Rattle.solo_command.proofs.OpenPieces.{has_piece}

-- a bearer's piece
pub record HasOne (pieces : List Piece) (b : ActiveBearer) : Type 0 where
  pub piece : Piece
  pub found : piece_for pieces b ≡ Some piece
  pub of : IsPieceOf b piece
  pub among : In piece pieces

all_of : {X : Type 0} (test : X → Bool) (xs : List X) (x : X) → list_all test xs ≡ true → In x xs → test x ≡ true
all_of test [] x holds there = absurd there
all_of test (y ∷ xs) x holds (inl here) = ap test (sym here) ∙ (and_parts (test y) (list_all test xs) holds).0
all_of test (y ∷ xs) x holds (inr there) = all_of test xs x (and_parts (test y) (list_all test xs) holds).1 there

pub one_for : (version : VersionState) (pieces : List Piece) → IsVersion version
    → pieces_fit version.bearers pieces ≡ true → are_parts pieces ≡ true → (b : ActiveBearer)
    → In b version.bearers → HasOne pieces b
one_for version pieces ranges fits counting b there =
    let bearers = version.bearers in
    let found = has_piece version pieces (fitting_open version pieces fits counting) b there in
    let p = found.0 in
    let passes = of_find (is_of b.life) p pieces found.1 in
    let known = and_parts (length pieces == length bearers) (all_have_bearers bearers pieces) fits in
    let owner = of_any (is_piece_of p) bearers (all_of (has_bearer bearers) pieces p known.1 passes.0) in
    let c = owner.0 in
    let first = and_parts (p.counts.life == c.life) ((p.counts.ebi == c.ebi) && (p.counts.qci == c.qos.qci)) owner.2 in
    let second = and_parts (p.counts.ebi == c.ebi) (p.counts.qci == c.qos.qci) first.1 in
    let life : p.counts.life ≡ b.life = eqb-true p.counts.life b.life passes.1 in
    let own : c ≡ b = same_by_life version c b ranges (contains_in c bearers owner.1) (contains_in b bearers there)
    (sym (eqb-true p.counts.life c.life first.0) ∙ life) in
    record {
      piece = p;
      found = found.1;
      of = record {
        life = life;
        ebi = eqb-true p.counts.ebi c.ebi second.0 ∙ ap (λ (x : ActiveBearer). x.ebi) own;
        qci = eqb-true p.counts.qci c.qos.qci second.1 ∙ ap (λ (x : ActiveBearer). x.qos.qci) own;
      };
      among = passes.0;
    }

-- what each bearer's piece keeps, the pieces in their order do
pub each_indexed : (P : Piece → Type 0) (pieces : List Piece) (bearers : List ActiveBearer)
    → ((b : ActiveBearer) → In b bearers → HasOne pieces b) → ((p : Piece) → In p pieces → P p)
    → AllByRecursion P (by_index bearers pieces)
each_indexed P pieces [] one each = tt
each_indexed P pieces (b ∷ bearers) one each =
    let own = one b (inl refl) in
    subst (λ (o : Option Piece). AllByRecursion P (cons_option o (by_index bearers pieces))) (sym own.found)
    (each own.piece own.among, each_indexed P pieces bearers (λ c there. one c (inr there)) each)

pub indexed_for : (pieces : List Piece) (bearers : List ActiveBearer)
    → ((b : ActiveBearer) → In b bearers → HasOne pieces b) → ArePiecesFor bearers (by_index bearers pieces)
indexed_for pieces [] one = tt
indexed_for pieces (b ∷ bearers) one =
    let own = one b (inl refl) in
    subst (λ (o : Option Piece). ArePiecesFor (b ∷ bearers) (cons_option o (by_index bearers pieces))) (sym own.found)
    (own.of, indexed_for pieces bearers (λ c there. one c (inr there)))

-- pieces for bearers are as many, each of one of them, and no two of one life
as_many : (bearers : List ActiveBearer) (pieces : List Piece) → ArePiecesFor bearers pieces
    → length pieces ≡ length bearers
as_many [] [] are = refl
as_many [] (piece ∷ pieces) are = absurd are
as_many (b ∷ bearers) [] are = absurd are
as_many (b ∷ bearers) (piece ∷ pieces) are = ap (λ n. suc n) (as_many bearers pieces are.1)

of_test : (b : ActiveBearer) (piece : Piece) → IsPieceOf b piece → is_piece_of piece b ≡ true
of_test b piece of =
    and_from (piece.counts.life == b.life) ((piece.counts.ebi == b.ebi) && (piece.counts.qci == b.qos.qci))
    (eq-eqb piece.counts.life b.life of.life)
    (and_from (piece.counts.ebi == b.ebi) (piece.counts.qci == b.qos.qci) (eq-eqb piece.counts.ebi b.ebi of.ebi)
    (eq-eqb piece.counts.qci b.qos.qci of.qci))

have_bearers : (all bearers : List ActiveBearer) (pieces : List Piece) → ((b : ActiveBearer) → In b bearers → In b all)
    → ArePiecesFor bearers pieces → all_have_bearers all pieces ≡ true
have_bearers all [] [] among are = refl
have_bearers all [] (piece ∷ pieces) among are = absurd are
have_bearers all (b ∷ bearers) [] among are = absurd are
have_bearers all (b ∷ bearers) (piece ∷ pieces) among are =
    and_from (has_bearer all piece) (all_have_bearers all pieces)
    (in_any (is_piece_of piece) b all (among b (inl refl)) (of_test b piece are.0))
    (have_bearers all bearers pieces (λ c there. among c (inr there)) are.1)

no_such : (b : ActiveBearer) (bearers : List ActiveBearer) (life : ℕ) (pieces : List Piece) → life ≡ b.life
    → AllByRecursion (IsActiveBefore b) bearers → ArePiecesFor bearers pieces → has_life life pieces ≡ false
no_such b [] life [] is apart are = refl
no_such b [] life (piece ∷ pieces) is apart are = absurd are
no_such b (c ∷ bearers) life [] is apart are = absurd are
no_such b (c ∷ bearers) life (piece ∷ pieces) is apart are =
    let differs : (life == piece.counts.life) ≡ false =
    ne_eqb life piece.counts.life (λ same. apart.0.lives_differ (sym is ∙ same ∙ are.0.life)) in
    neither (life == piece.counts.life) (has_life life pieces) differs (no_such b bearers life pieces is apart.1 are.1)
  where
    neither : (x y : Bool) → x ≡ false → y ≡ false → (x || y) ≡ false
    neither true y first second = absurd (false≢true (sym first))
    neither false y first second = second

pub are_parts_for : (bearers : List ActiveBearer) (pieces : List Piece) → EachPair IsActiveBefore bearers
    → ArePiecesFor bearers pieces → AllByRecursion (λ (p : Piece). is_counting p ≡ true) pieces
    → are_parts pieces ≡ true
are_parts_for [] [] apart are counting = refl
are_parts_for [] (piece ∷ pieces) apart are counting = absurd are
are_parts_for (b ∷ bearers) [] apart are counting = absurd are
are_parts_for (b ∷ bearers) (piece ∷ pieces) apart are counting =
    let none = no_such b bearers piece.counts.life pieces are.0.life apart.0 are.1 in
    and_from (not (has_life piece.counts.life pieces) && is_counting piece) (are_parts pieces)
    (and_from (not (has_life piece.counts.life pieces)) (is_counting piece) (ap not none) counting.0)
    (are_parts_for bearers pieces apart.1 are.1 counting.1)

-- each of the book's pieces is not full
counting_at : (pieces : List Piece) → are_parts pieces ≡ true → (p : Piece) → In p pieces → is_counting p ≡ true
counting_at [] parts p there = absurd there
counting_at (piece ∷ pieces) parts p there =
    let first = and_parts (not (has_life piece.counts.life pieces) && is_counting piece) (are_parts pieces) parts in
    elim there [
      | inl here ↦
          ap is_counting (sym here)
          ∙ (and_parts (not (has_life piece.counts.life pieces)) (is_counting piece) first.0).1
      | inr behind ↦ counting_at pieces first.1 p behind
    ]

-- parts that fit do so with the pieces in the order of the bearers
pub fits_indexed : PiecesFitInOrder
fits_indexed version parts ranges fits =
    let bearers = version.bearers in
    let pieces = parts.pieces in
    let all = and_parts (may_fit version parts) (are_parts pieces) fits in
    let first = and_parts (buckets_fit version parts.buckets)
    (were_asked parts.last parts.buckets && (held_fit parts.last bearers parts.held && pieces_fit bearers pieces)) all.0 in
    let second = and_parts (were_asked parts.last parts.buckets)
    (held_fit parts.last bearers parts.held && pieces_fit bearers pieces) first.1 in
    let third = and_parts (held_fit parts.last bearers parts.held) (pieces_fit bearers pieces) second.1 in
    let one : (b : ActiveBearer) → In b bearers → HasOne pieces b = one_for version pieces ranges third.1 all.1 in
    let indexed = by_index bearers pieces in
    let are : ArePiecesFor bearers indexed = indexed_for pieces bearers one in
    let own : pieces_fit bearers indexed ≡ true =
    and_from (length indexed == length bearers) (all_have_bearers bearers indexed)
    (eq-eqb (length indexed) (length bearers) (as_many bearers indexed are))
    (have_bearers bearers bearers indexed (λ b there. there) are) in
    let counting : are_parts indexed ≡ true =
    are_parts_for bearers indexed ranges.apart are
    (each_indexed (λ (p : Piece). is_counting p ≡ true) pieces bearers one (counting_at pieces all.1)) in (
      are,
      and_from (may_fit version (record parts { pieces = indexed })) (are_parts indexed)
          (and_from (buckets_fit version parts.buckets)
          (were_asked parts.last parts.buckets && (held_fit parts.last bearers parts.held && pieces_fit bearers indexed))
          first.0
          (and_from (were_asked parts.last parts.buckets)
          (held_fit parts.last bearers parts.held && pieces_fit bearers indexed) second.0
          (and_from (held_fit parts.last bearers parts.held) (pieces_fit bearers indexed) third.0 own)))
          counting,
    )
