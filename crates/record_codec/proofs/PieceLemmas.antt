-- The pieces of a book, and those of bearers in their order.
use Rattle.std.proofs.Common.{◌≡◌, false, List, [], ◌∷◌, ◌++◌, Some, refl, sym, ap, ◌∙◌, append_assoc}
use Rattle.std.specs.Prelude.{map, nat_eq}
use Rattle.std.specs.List.{AllByRecursion, filter_map, cons_option}
use Rattle.std.proofs.lemmas.Bool.{eq-eqb, ne_eqb}
use Rattle.charging_book.specs.declared.records.Piece.{Piece}
use Rattle.charging_book.specs.Parts.{counts_in, moments_in, ArePiecesOf}
use Rattle.charging_book.specs.Accounts.{Accounts}
use Rattle.bearer_state.specs.declared.version.ActiveBearer.{ActiveBearer}
use Rattle.bearer_state.specs.Bearer.{EachPair}
use Rattle.bearer_state.specs.Version.{VersionState, IsActiveBefore}
use Rattle.packet_steps.specs.Standing.{CountersState}
use Rattle.packet_steps.specs.Parts.{PartsState, ArePartsOf, buckets_in}
use Rattle.record_codec.specs.Saved.{pieces_of, piece_for, by_index, parts_of}
use Rattle.record_codec.proofs.Codecs.{EachFits}
use Rattle.record_codec.proofs.CounterCodecs.{IsPieceAt}

pieces_again : (pieces : List Piece) → pieces_of (map counts_in pieces) (map moments_in pieces) ≡ pieces
pieces_again [] = refl
pieces_again (piece ∷ pieces) = ap (λ others. piece ∷ others) (pieces_again pieces)

pub pieces_are : (book : Accounts) (pieces : List Piece) → ArePiecesOf book pieces
    → pieces_of book.opens book.moments ≡ pieces
pieces_are book pieces are =
    ap (λ opens. pieces_of opens book.moments) (sym are.opens)
    ∙ ap (λ moments. pieces_of (map counts_in pieces) moments) (sym are.moments)
    ∙ pieces_again pieces

-- a life that no piece of a list has
abbrev HasNone : List Piece → ActiveBearer → Type 0
HasNone pieces bearer = AllByRecursion (λ (piece : Piece). nat_eq piece.counts.life bearer.life ≡ false) pieces

found_behind : (before : List Piece) (piece : Piece) (pieces : List Piece) (bearer : ActiveBearer) → HasNone before
    bearer
    → piece.counts.life ≡ bearer.life → piece_for (before ++ piece ∷ pieces) bearer ≡ Some piece
found_behind [] piece pieces bearer none is = rw (eq-eqb piece.counts.life bearer.life is) refl
found_behind (other ∷ before) piece pieces bearer none is = rw (none.0) (found_behind before piece pieces bearer
    none.1 is)

none_behind : (before : List Piece) (piece : Piece) (bearer : ActiveBearer) → HasNone before bearer
    → nat_eq piece.counts.life bearer.life ≡ false → HasNone (before ++ piece ∷ []) bearer
none_behind [] piece bearer none differs = (differs, tt)
none_behind (other ∷ before) piece bearer none differs = (none.0, none_behind before piece bearer none.1 differs)

all_behind : (before : List Piece) (piece : Piece) (bearer : ActiveBearer) (bearers : List ActiveBearer)
    → piece.counts.life ≡ bearer.life → AllByRecursion (IsActiveBefore bearer) bearers
    → AllByRecursion (HasNone before) bearers → AllByRecursion (HasNone (before ++ piece ∷ [])) bearers
all_behind before piece bearer [] is apart none = tt
all_behind before piece bearer (other ∷ bearers) is apart none =
    let differs : nat_eq piece.counts.life other.life ≡ false
    = ne_eqb piece.counts.life other.life (λ same. apart.0.lives_differ (sym is ∙ same)) in
    (none_behind before piece other none.0 differs, all_behind before piece bearer bearers is apart.1 none.1)

in_order : (before pieces : List Piece) (bearers : List ActiveBearer) → EachPair IsActiveBefore bearers
    → AllByRecursion (HasNone before) bearers → EachFits IsPieceAt bearers pieces
    → filter_map (piece_for (before ++ pieces)) bearers ≡ pieces
in_order before [] [] apart none each = refl
in_order before (piece ∷ pieces) [] apart none each = absurd each
in_order before [] (bearer ∷ bearers) apart none each = absurd each
in_order before (piece ∷ pieces) (bearer ∷ bearers) apart none each =
    let is = each.0.of.life in
    let here = found_behind before piece pieces bearer none.0 is in
    let regrouped : (before ++ piece ∷ []) ++ pieces ≡ before ++ piece ∷ pieces = append_assoc before (piece ∷ [])
    pieces in
    let others : filter_map (piece_for (before ++ piece ∷ pieces)) bearers ≡ pieces
    = ap (λ (all : List Piece). filter_map (piece_for all) bearers) (sym regrouped)
    ∙ in_order (before ++ piece ∷ []) pieces bearers apart.1 (all_behind before piece bearer bearers is apart.0
    none.1) each.1 in
    ap (λ o. cons_option o (filter_map (piece_for (before ++ piece ∷ pieces)) bearers)) here
    ∙ ap (λ rest. piece ∷ rest) others

none_yet : (bearers : List ActiveBearer) → AllByRecursion (HasNone []) bearers
none_yet [] = tt
none_yet (bearer ∷ bearers) = (tt, none_yet bearers)

-- pieces that stand in the order of bearers, one for each
pub by_index_is : (bearers : List ActiveBearer) (pieces : List Piece) → EachPair IsActiveBefore bearers
    → EachFits IsPieceAt bearers pieces → by_index bearers pieces ≡ pieces
by_index_is bearers pieces apart each = in_order [] pieces bearers apart (none_yet bearers) each

-- the parts of counters that have them
pub parts_are : (version : VersionState) (counters : CountersState) (parts : PartsState)
    → ArePartsOf version counters parts
    → parts_of version.bearers counters ≡ record parts { pieces = by_index version.bearers parts.pieces }
parts_are version counters parts are =
    let pieces : by_index version.bearers (pieces_of counters.book.opens counters.book.moments)
    ≡ by_index version.bearers parts.pieces = ap (by_index version.bearers) (pieces_are counters.book parts.pieces
    are.pieces) in
    let same : ◌≡◌ {A = PartsState} (record {
      last = counters.last;
      buckets = buckets_in version.bearers counters.meters;
      pieces = by_index version.bearers (pieces_of counters.book.opens counters.book.moments);
      held = counters.held;
    }) (record {
      last = parts.last;
      buckets = parts.buckets;
      pieces = by_index version.bearers parts.pieces;
      held = parts.held;
    }) = cc (are.last, are.buckets, are.held, pieces) in
    same

pub made_parts : (version : VersionState) (counters : CountersState) (parts : PartsState)
    → ArePartsOf version counters parts → EachPair IsActiveBefore version.bearers
    → EachFits IsPieceAt version.bearers parts.pieces → parts_of version.bearers counters ≡ parts
made_parts version counters parts are apart each =
    let order = by_index_is version.bearers parts.pieces apart each in
    parts_are version counters parts are
    ∙ ap (λ (ps : List Piece). record parts { pieces = ps }) order
