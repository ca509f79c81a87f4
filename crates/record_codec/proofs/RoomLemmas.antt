-- What is saved has room in its octets, and how subscribers are saved one by one.
use Rattle.std.proofs.Common.{◌≡◌, ℕ, suc, ◌+◌, ◌<◌, ◌≤◌, ◌^◌, List, [], ◌∷◌, ◌++◌, length, take, get_or, Option, Some, None, refl, sym, ap, ◌∙◌, append_assoc, arith}
use Rattle.std.specs.Prelude.{All, map}
use Rattle.std.specs.List.{AllByRecursion, flat_map, cons_option}
use Rattle.std.proofs.lemmas.Bool.{and_parts}
use Rattle.std.proofs.lemmas.List.{take_more, take_all, length-take-le, length-map, flat_map_more}
use Rattle.std.proofs.lemmas.List.Elements.{All-from_recursion}
use Rattle.bearer_state.specs.Version.{version_of}
use Rattle.packet_steps.specs.Rows.{HeldRow}
use Rattle.bearer_state.specs.Version.{VersionState}
use Rattle.packet_steps.specs.Standing.{CountersState}
use Rattle.packet_steps.specs.Parts.{PartsState, ArePartsOf, buckets_fit, were_asked, held_fit, may_fit}
use Rattle.subscriber.specs.Standing.{SubscriberState}
use Rattle.address_book.specs.Book.{IsBook}
use Rattle.record_codec.specs.Saved.{saved, all_saved, imsi_of, IsHeld, IsSaved, AreSaved, IsWritable, parts_of, piece_for, by_index}
use Rattle.charging_book.specs.declared.records.Piece.{Piece}
use Rattle.bearer_state.specs.declared.version.ActiveBearer.{ActiveBearer}
use Rattle.record_codec.specs.Spelling.{u32, u64, state, optional, listed, bucket_text, piece_text, piece_or_none, text_for, held_text, counters_text, subscriber_text}
use Rattle.record_codec.proofs.CounterCodecs.{held_down}
use Rattle.record_codec.proofs.PieceLemmas.{parts_are}

short_held : (packets : ℕ) (rows : List HeldRow) → AllByRecursion (IsHeld packets) rows
    → AllByRecursion (λ (row : HeldRow). length row.packet.octets < 2 ^ 16) rows
short_held packets [] each = tt
short_held packets (row ∷ rows) each = (each.0.octets, short_held packets rows each.1)

writable_from : (moment slot : ℕ) (imsi : List ℕ) (one : SubscriberState) → IsSaved moment slot (saved imsi one)
    → IsWritable one
writable_from moment slot imsi one kept =
    let version = version_of one.session one.version.number in
    let parts = parts_of one.version.bearers one.counters in
    let may = (and_parts (may_fit version parts) _ kept.fits).0 in
    let first = and_parts (buckets_fit version parts.buckets) _ may in
    let second = and_parts (were_asked parts.last parts.buckets) _ first.1 in
    let third = and_parts (held_fit parts.last version.bearers parts.held) _ second.1 in
    record {
      answer = kept.session.answer;
      few = (held_down parts.last version.bearers parts.held third.0).few;
      short = All-from_recursion (λ (row : HeldRow). length row.packet.octets < 2 ^ 16) one.counters.held
          (short_held one.packets one.counters.held kept.counters.held);
    }

all_writable : (moment slot : ℕ) (imsis : List (List ℕ)) (subscribers : List SubscriberState)
    → length imsis ≡ length subscribers → AreSaved moment slot (all_saved imsis subscribers)
    → AllByRecursion IsWritable subscribers
all_writable moment slot imsis [] long kept = tt
all_writable moment slot [] (one ∷ subscribers) long kept = absurd cc
all_writable moment slot (imsi ∷ imsis) (one ∷ subscribers) long kept =
    let others : length imsis ≡ length subscribers = cc in
    (writable_from moment slot imsi one kept.0, all_writable moment (slot + 1) imsis subscribers others kept.1)

pub are_writable : (moment : ℕ) (imsis : List (List ℕ)) (subscribers : List SubscriberState)
    → length imsis ≡ length subscribers → AreSaved moment 0 (all_saved imsis subscribers)
    → All IsWritable subscribers
are_writable moment imsis subscribers long kept =
    All-from_recursion IsWritable subscribers (all_writable moment 0 imsis subscribers long kept)

-- one more at the end
pub saved-push : (imsis : List (List ℕ)) (subscribers : List SubscriberState) (imsi : List ℕ) (one : SubscriberState)
    → length imsis ≡ length subscribers
    → all_saved (imsis ++ imsi ∷ []) (subscribers ++ one ∷ []) ≡ all_saved imsis subscribers ++ saved imsi one ∷ []
saved-push [] [] imsi one long = refl
saved-push [] (other ∷ subscribers) imsi one long = absurd cc
saved-push (other ∷ imsis) [] imsi one long = absurd cc
saved-push (first ∷ imsis) (other ∷ subscribers) imsi one long =
    let others : length imsis ≡ length subscribers = cc in
    ap (λ xs. saved first other ∷ xs) (saved-push imsis subscribers imsi one others)

-- the next one of both lists
pub saved_more : (imsis : List (List ℕ)) (subscribers : List SubscriberState) (i : ℕ) (imsi : List ℕ) (one :
    SubscriberState)
    → length imsis ≡ length subscribers → i < length subscribers → imsi ≡ get_or imsis i imsi
    → one ≡ get_or subscribers i one
    → all_saved (take (i + 1) imsis) (take (i + 1) subscribers)
    ≡ all_saved (take i imsis) (take i subscribers) ++ saved imsi one ∷ []
saved_more imsis subscribers i imsi one long lt is_imsi is_one =
    let same : length (take i imsis) ≡ length (take i subscribers)
    = length-take-le i imsis (omega (arith, long, lt)) ∙ sym (length-take-le i subscribers (omega (arith, lt))) in
    ap (λ xs. all_saved xs (take (i + 1) subscribers))
    (take_more imsis i imsi (omega (arith, long, lt)) ∙ ap (λ x. take i imsis ++ x ∷ []) (sym is_imsi))
    ∙ ap (λ ys. all_saved (take i imsis ++ imsi ∷ []) ys)
    (take_more subscribers i one lt ∙ ap (λ y. take i subscribers ++ y ∷ []) (sym is_one))
    ∙ saved-push (take i imsis) (take i subscribers) imsi one same

pub texts_more : (old new : List ℕ) (imsis : List (List ℕ)) (subscribers : List SubscriberState) (i : ℕ) (imsi : List ℕ)
    (one : SubscriberState) → length imsis ≡ length subscribers → i < length subscribers → imsi ≡ get_or imsis i imsi
    → one ≡ get_or subscribers i one
    → new ≡ (old ++ flat_map subscriber_text (all_saved (take i imsis) (take i subscribers)))
    ++ subscriber_text (saved imsi one)
    → new ≡ old ++ flat_map subscriber_text (all_saved (take (i + 1) imsis) (take (i + 1) subscribers))
texts_more old new imsis subscribers i imsi one long lt is_imsi is_one e =
    e ∙ flat_map_more subscriber_text old (all_saved (take i imsis) (take i subscribers)) (saved imsi one)
    ∙ ap (λ xs. old ++ flat_map subscriber_text xs) (sym (saved_more imsis subscribers i imsi one long lt is_imsi
    is_one))

pub texts_all : (imsis : List (List ℕ)) (subscribers : List SubscriberState) (i : ℕ) → length imsis ≡ length subscribers
    → length subscribers ≤ i
    → all_saved (take i imsis) (take i subscribers) ≡ all_saved imsis subscribers
texts_all imsis subscribers i long le =
    ap (λ xs. all_saved xs (take i subscribers)) (take_all i imsis (omega (arith, long, le)))
    ∙ ap (λ ys. all_saved imsis ys) (take_all i subscribers le)

-- there are as many of them as IMSIs, and no more than a book has
pub length-saved : (imsis : List (List ℕ)) (subscribers : List SubscriberState) → length imsis ≡ length subscribers
    → length (all_saved imsis subscribers) ≡ length subscribers
length-saved [] [] long = refl
length-saved [] (one ∷ subscribers) long = absurd cc
length-saved (imsi ∷ imsis) [] long = absurd cc
length-saved (imsi ∷ imsis) (one ∷ subscribers) long =
    let others : length imsis ≡ length subscribers = cc in
    ap suc (length-saved imsis subscribers others)

pub few_saved : (imsis : List (List ℕ)) (subscribers : List SubscriberState) → length imsis ≡ length subscribers
    → IsBook (map imsi_of (all_saved imsis subscribers)) → length subscribers ≤ 65533
few_saved imsis subscribers long book =
    omega (arith, book.short, length-map (all_saved imsis subscribers) imsi_of, length-saved imsis subscribers long)

-- the fields of a file, put one behind another
pub file_put : (lines moment count : ℕ) (imsis : List (List ℕ)) (subscribers : List SubscriberState)
    (t0 t1 t2 t3 t4 t5 : List ℕ) → length imsis ≡ length subscribers → count ≡ length subscribers → t0 ≡ []
    → t1 ≡ t0 ++ 1 ∷ [] → t2 ≡ t1 ++ u64 lines → t3 ≡ t2 ++ u64 moment → t4 ≡ t3 ++ u32 count
    → t5 ≡ t4 ++ flat_map subscriber_text (all_saved imsis subscribers)
    → t5 ≡ state (record { lines = lines; moment = moment; subscribers = all_saved imsis subscribers })
file_put lines moment count imsis subscribers t0 t1 t2 t3 t4 t5 long is e0 e1 e2 e3 e4 e5 =
    let many : length (all_saved imsis subscribers) ≡ count = length-saved imsis subscribers long ∙ sym is in
    rw (many, e5, e4, e3, e2, e1, e0) (simp append_assoc)

-- the texts of the pieces that bearers have
pub texts_for : (pieces : List Piece) (bearers : List ActiveBearer)
    → flat_map (text_for pieces) bearers ≡ flat_map piece_text (by_index bearers pieces)
texts_for pieces [] = refl
texts_for pieces (bearer ∷ bearers) = by_piece (texts_for pieces bearers) (piece_for pieces bearer)
  where
    by_piece : flat_map (text_for pieces) bearers ≡ flat_map piece_text (by_index bearers pieces)
        → (o : Option Piece) → piece_or_none o ++ flat_map (text_for pieces) bearers
        ≡ flat_map piece_text (cons_option o (by_index bearers pieces))
    by_piece others None = others
    by_piece others (Some piece) = ap (λ (t : List ℕ). piece_text piece ++ t) others

-- the parts of counters, put one behind another
pub counters_put : (version : VersionState) (counters : CountersState) (parts : PartsState) (old t1 t2 t3 t4 : List ℕ)
    → ArePartsOf version counters parts → t1 ≡ old ++ optional u64 parts.last
    → t2 ≡ t1 ++ flat_map bucket_text parts.buckets → t3 ≡ t2 ++ flat_map (text_for parts.pieces) version.bearers
    → t4 ≡ t3 ++ listed held_text parts.held → t4 ≡ old ++ counters_text (parts_of version.bearers counters)
counters_put version counters parts old t1 t2 t3 t4 are e1 e2 e3 e4 =
    let pieces = texts_for parts.pieces version.bearers in
    let whole : t4 ≡ old ++ counters_text (record parts { pieces = by_index version.bearers parts.pieces })
    = rw (e4, e3, e2, e1, pieces) (simp append_assoc) in
    whole ∙ ap (λ (p : PartsState). old ++ counters_text p) (sym (parts_are version counters parts are))
