-- Two gateways that one state has are alike, and give one report.
use Rattle.std.proofs.Common.{◌≡◌, ℕ, ◌+◌, ◌*◌, ◌<◌, ◌≤◌, ◌^◌, ◌==◌, ◌&&◌, true, List, [], ◌∷◌, length, map, Option, None, Some, refl, sym, ap, ◌∙◌, subst, inl, inr, arith}
use Rattle.std.specs.Prelude.{nat_le}
use Rattle.std.specs.List.{AllByRecursion}
use Rattle.std.proofs.lemmas.Bool.{and_parts, eqb-true, leb-true}
use Rattle.charging_book.specs.Accounts.{AreDistinct, IsBounded, IsNone}
use Rattle.charging_book.specs.Parts.{are_parts}
use Rattle.charging_book.specs.Posted.{is_of}
use Rattle.charging_book.specs.declared.records.Piece.{Piece}
use Rattle.bearer_state.specs.Version.{IsVersion, VersionState, version_of}
use Rattle.bearer_state.specs.declared.version.ActiveBearer.{ActiveBearer}
use Rattle.bearer_state.proofs.VersionLemmas.{version_fits}
use Rattle.packet_steps.specs.Parts.{PartsState, all_may_wait, buckets_fit, fit, held_fit, may_fit, pieces_fit, were_asked}
use Rattle.packet_steps.specs.Rows.{HeldRow, in_order}
use Rattle.subscriber.specs.Standing.{SubscriberState}
use Rattle.gate_model.proofs.Members.{In, at_each, contains_in, each_at, in_filter_map, in_map, of_any, of_find}
use Rattle.subscriber.specs.Alike.{life_of}
use Rattle.subscriber.specs.Charging.{AreOpen, AreWithin}
use Rattle.trace_lines.specs.Epochs.{epochs_of}
use Rattle.trace_lines.proofs.EpochLemmas.{are_epochs}
use Rattle.lawful_run.specs.Cut.{lines_in}
use Rattle.record_codec.specs.Saved.{AreSaved, FileState, IsFile, IsPiece, IsResting, IsSaved, SavedSubscriber, all_saved, by_index, parts_of, piece_for, saved}
use Rattle.record_codec.proofs.PieceLemmas.{pieces_are}
use Rattle.solo_command.specs.Gateway.{Gateway}
use Rattle.solo_command.specs.Reports.{IsGatewayOf, stop_told}
use Rattle.solo_command.proofs.OpenPieces.{has_piece}
use Rattle.solo_command.proofs.Steps.{IsGoing, step}
use Rattle.solo_command.proofs.Gateways.{AreAllOne, AreGatewaysOne}
use Rattle.solo_command.proofs.LawLemmas.{opens_same}
use Rattle.solo_command.proofs.SavedAlike.{saved_alike}
use Rattle.solo_command.proofs.Splits.{ReportsAlike, epochs_one}
use Rattle.report_laws.specs.OneText.{OneResumedReport}

-- ---- the counts of its pieces are low

-- no two pieces are of one life
not_among : (life : ℕ) (piece : Piece) (pieces : List Piece) → IsNone life (map life_of pieces) → In piece pieces
    → life_of piece ≡ life → ⊥
not_among life piece [] none there is = there
not_among life piece (first ∷ pieces) none (inl here) is = none.0 (ap life_of here ∙ is)
not_among life piece (first ∷ pieces) none (inr there) is = not_among life piece pieces none.1 there is

same_piece : (one other : Piece) (pieces : List Piece) → AreDistinct (map life_of pieces) → In one pieces
    → In other pieces → life_of one ≡ life_of other → one ≡ other
same_piece one other [] apart here there same = absurd here
same_piece one other (first ∷ pieces) apart (inl here) (inl there) same = sym here ∙ there
same_piece one other (first ∷ pieces) apart (inl here) (inr there) same =
    absurd (not_among (life_of first) other pieces apart.0 there (sym same ∙ ap life_of (sym here)))
same_piece one other (first ∷ pieces) apart (inr here) (inl there) same =
    absurd (not_among (life_of first) one pieces apart.0 here (same ∙ ap life_of (sym there)))
same_piece one other (first ∷ pieces) apart (inr here) (inr there) same =
    same_piece one other pieces apart.1 here there same

-- each piece is that of an active bearer, and so among those that are saved
is_saved : (version : VersionState) (pieces : List Piece) → AreOpen version pieces
    → AreDistinct (map life_of pieces) → (piece : Piece) → In piece pieces
    → In piece (by_index version.bearers pieces)
is_saved version pieces open_ apart piece there =
    let life = life_of piece in
    let named = (open_ life).0 (contains_in life (map life_of pieces) (in_map life_of piece pieces there)) in
    let bearer = of_any (λ (b : ActiveBearer). b.life == life) version.bearers named in
    let own = has_piece version pieces open_ bearer.0 bearer.1 in
    let passes = of_find (is_of bearer.0.life) own.0 pieces own.1 in
    let same : own.0 ≡ piece =
    same_piece own.0 piece pieces apart passes.0 there
    (eqb-true own.0.counts.life bearer.0.life passes.1 ∙ eqb-true bearer.0.life life bearer.2) in
    in_filter_map (piece_for pieces) bearer.0 piece version.bearers bearer.1
    (own.1 ∙ ap (λ (p : Piece). Some p) same)

low_pieces : (version : VersionState) (pieces : List Piece) → AreOpen version pieces
    → AreDistinct (map life_of pieces) → AllByRecursion IsPiece (by_index version.bearers pieces)
    → AreWithin (2 ^ 50) pieces
low_pieces version pieces open_ apart low =
    each_at (λ (piece : Piece). IsBounded (2 ^ 50) piece.counts) pieces (λ piece there.
    let is : IsPiece piece =
    at_each IsPiece piece (by_index version.bearers pieces) low (is_saved version pieces open_ apart piece there) in
    let rows : piece.counts.seq < 2 ^ 50 = is.seq in
    let up : piece.counts.up_packets < 2 ^ 50 = is.up_packets in
    let down : piece.counts.down_packets < 2 ^ 50 = is.down_packets in
    record { rows = omega (arith, rows); up = omega (arith, up); down = omega (arith, down) })

-- ---- and it holds few packets

few_waiting : (last : Option ℕ) (bearers : List ActiveBearer) (rows : List HeldRow)
    → held_fit last bearers rows ≡ true → length rows ≤ 16
few_waiting None bearers rows fits = omega (arith, eqb-true (length rows) 0 fits)
few_waiting (Some last) bearers rows fits =
    leb-true (length rows) 16
    (and_parts (nat_le (length rows) 16) (all_may_wait bearers rows && in_order 0 last rows) fits).0

few_held : (version : VersionState) (parts : PartsState) → fit version parts ≡ true → length parts.held ≤ 16
few_held version parts fits =
    let held = held_fit parts.last version.bearers parts.held in
    let pieces = pieces_fit version.bearers parts.pieces in
    let all = and_parts (may_fit version parts) (are_parts parts.pieces) fits in
    let first = and_parts (buckets_fit version parts.buckets)
    (were_asked parts.last parts.buckets && (held && pieces)) all.0 in
    let second = and_parts (were_asked parts.last parts.buckets) (held && pieces) first.1 in
    few_waiting parts.last version.bearers parts.held (and_parts held pieces second.1).0

-- ---- so an event may be answered by it

going : (moment slot : ℕ) (imsi : List ℕ) (one : SubscriberState) (resting : IsResting one)
    → IsSaved moment slot (saved imsi one) → IsGoing one resting.has_pieces.pieces (2 ^ 50)
going moment slot imsi one resting kept =
    let has = resting.has_pieces in
    let bearers = one.version.bearers in
    let few : one.version.number < 2 ^ 50 = kept.commands in
    record {
      valid = record {
        session = kept.session.ranges;
        bearers = kept.session.bearers;
        version = subst IsVersion (sym resting.version)
            (version_fits one.session one.version.number kept.session.ranges kept.session.bearers (omega (arith, few)));
      };
      versioned = resting.version;
      rows = resting.rows;
      open_ = has.open_;
      within = low_pieces one.version has.pieces has.open_ has.apart
          (subst (AllByRecursion IsPiece) (ap (by_index bearers) (pieces_are one.counters.book has.pieces has.are))
          kept.counters.pieces);
      few = few_held (version_of one.session one.version.number) (parts_of bearers one.counters) kept.fits;
    }

all_one : (moment slot : ℕ) (book book_too : List (List ℕ)) (ones others : List SubscriberState)
    → length ones ≡ length book → length others ≡ length book_too
    → AllByRecursion IsResting ones → AllByRecursion IsResting others → AreSaved moment slot (all_saved book ones)
    → all_saved book ones ≡ all_saved book_too others → (book ≡ book_too) × AreAllOne ones others (2 ^ 50)
all_one moment slot [] [] [] [] many many_too rest rest_too kept same = (refl, tt)
all_one moment slot [] [] [] (other ∷ others) many many_too rest rest_too kept same = absurd (omega arith)
all_one moment slot [] [] (one ∷ ones) others many many_too rest rest_too kept same = absurd (omega arith)
all_one moment slot [] (imsi ∷ book_too) ones [] many many_too rest rest_too kept same = absurd (omega arith)
all_one moment slot [] (imsi ∷ book_too) ones (other ∷ others) many many_too rest rest_too kept same = absurd (cc)
all_one moment slot (imsi ∷ book) book_too [] others many many_too rest rest_too kept same = absurd (omega arith)
all_one moment slot (imsi ∷ book) [] (one ∷ ones) others many many_too rest rest_too kept same = absurd (cc)
all_one moment slot (imsi ∷ book) (imsi_too ∷ book_too) (one ∷ ones) [] many many_too rest rest_too kept same =
    absurd (omega arith)
all_one moment slot (imsi ∷ book) (imsi_too ∷ book_too) (one ∷ ones) (other ∷ others) many many_too rest rest_too kept
    same =
    let first : saved imsi one ≡ saved imsi_too other = cc in
    let later : all_saved book ones ≡ all_saved book_too others = cc in
    let many_behind : length ones ≡ length book = omega arith in
    let many_behind_too : length others ≡ length book_too = omega arith in
    let behind = all_one moment (slot + 1) book book_too ones others many_behind many_behind_too rest.1 rest_too.1
    kept.1 later in
    let has = rest.0.has_pieces in (
      ap (λ (s : SavedSubscriber). s.imsi ∷ book) first ∙ ap (λ (b : List (List ℕ)). imsi_too ∷ b) behind.0,
      (
        saved_alike imsi imsi_too one other has.pieces (2 ^ 50) (going moment slot imsi one rest.0 kept.0) has.are
            has.apart rest.0.sized rest_too.0 first,
        behind.1,
      ),
    )

gateways_one : (file : FileState) (g h : Gateway) → IsFile file → IsGatewayOf file g → IsGatewayOf file h
    → AreGatewaysOne g h (2 ^ 50)
gateways_one file g h kept first second =
    let both = all_one file.moment 0 g.book h.book g.subscribers h.subscribers first.many second.many first.resting
    second.resting (subst (AreSaved file.moment 0) first.saved kept.subscribers) (sym first.saved ∙ second.saved) in
    record { book = both.0; many = first.many; each = both.1 }

-- ---- the law

pub one_report : OneResumedReport
one_report slices file input one other kept few first second =
    let epochs = epochs_of input.lines in
    let counted : length (lines_in epochs) ≡ length input.lines = ap length (are_epochs input.lines).whole in
    let alike : ReportsAlike one.epochs other.epochs first.gives.last second.gives.last
    (2 ^ 50 + length (lines_in epochs) * step) =
    epochs_one slices epochs (stop_told input.stop) first.gateway second.gateway first.gives.last second.gives.last
    one.epochs other.epochs (2 ^ 50) (gateways_one file first.gateway second.gateway kept first.has_state
    second.has_state) (omega (arith, counted, few)) first.gives.epochs second.gives.epochs in
    λ i. record {
      epochs = alike.reporting i;
      opens = (first.gives.opens
          ∙ opens_same 0 first.gives.last.subscribers second.gives.last.subscribers
          (2 ^ 50 + length (lines_in epochs) * step) alike.are.each
          ∙ sym second.gives.opens) i;
    }
