-- Subscribers that are alike are saved alike, and those that are saved alike are so.
use Rattle.std.proofs.Common.{◌≡◌, ℕ, ◌==◌, Bool, true, false, cond, arith, List, [], ◌∷◌, ◌++◌, length, map, Option, Some, None, refl, sym, ap, ◌∙◌, subst, inl, inr}
use Rattle.std.specs.List.{AllByRecursion, Contains, cons_option, filter_map, flat_map}
use Rattle.std.proofs.lemmas.Bool.{eqb-true}
use Rattle.rate_policer.specs.Buckets.{BucketState}
use Rattle.charging_book.specs.Accounts.{AreDistinct}
use Rattle.charging_book.specs.Parts.{ArePiecesOf}
use Rattle.charging_book.specs.Posted.{is_of}
use Rattle.charging_book.specs.declared.records.Piece.{Piece}
use Rattle.bearer_state.specs.Qos.{is_guaranteed}
use Rattle.bearer_state.specs.Session.{SessionState}
use Rattle.bearer_state.specs.Version.{VersionState, version_of}
use Rattle.bearer_state.specs.declared.version.ActiveBearer.{ActiveBearer}
use Rattle.packet_steps.specs.Meters.{MetersState, own_meter}
use Rattle.packet_steps.specs.Parts.{IsMadeOf, PartsState, buckets_in, own_buckets}
use Rattle.packet_steps.specs.declared.meters.Meter.{Meter}
use Rattle.subscriber.specs.Standing.{SubscriberState}
use Rattle.gate_model.proofs.Members.{In, contains_in, in_map, of_any, of_find}
use Rattle.subscriber.specs.Alike.{ArePiecesAlike, life_of}
use Rattle.subscriber.specs.Alike as alike
use Rattle.subscriber.specs.Charging.{AreOpen}
use Rattle.subscriber.specs.Subscribers.{AreSubscribersAlike}
use Rattle.subscriber.proofs.PlaceLemmas.{made_alike}
use Rattle.record_codec.specs.Saved.{IsResting, SavedSubscriber, all_saved, by_index, parts_of, piece_for, pieces_of, saved}
use Rattle.record_codec.proofs.PieceLemmas.{pieces_are}
use Rattle.solo_command.proofs.OpenPieces.{has_piece}
use Rattle.solo_command.proofs.Steps.{AreOne, IsGoing}
use Rattle.solo_command.proofs.Gateways.{AreAllOne}

-- ---- alike, so saved alike

own_if : (guaranteed : Bool) (x y : Meter) → (guaranteed ≡ true → x ≡ y)
    → cond guaranteed (x.up ∷ x.down ∷ []) [] ≡ cond guaranteed (y.up ∷ y.down ∷ []) []
own_if true x y same = ap (λ (m : Meter). m.up ∷ m.down ∷ []) (same refl)
own_if false x y same = refl

all_own : (m n : MetersState) (bearers : List ActiveBearer)
    → ((b : ActiveBearer) → In b bearers → is_guaranteed b.qos.qci ≡ true → own_meter m b.index ≡ own_meter n b.index)
    → flat_map (own_buckets m) bearers ≡ flat_map (own_buckets n) bearers
all_own m n [] same = refl
all_own m n (b ∷ bearers) same =
    ap (λ (first : List BucketState). first ++ flat_map (own_buckets m) bearers)
    (own_if (is_guaranteed b.qos.qci) (own_meter m b.index) (own_meter n b.index) (same b (inl refl)))
    ∙ ap (λ (others : List BucketState). own_buckets n b ++ others)
    (all_own m n bearers (λ c there. same c (inr there)))

by_index_same : (bearers : List ActiveBearer) (pieces others : List Piece)
    → ((life : ℕ) → alike.piece_for life pieces ≡ alike.piece_for life others)
    → by_index bearers pieces ≡ by_index bearers others
by_index_same [] pieces others same = refl
by_index_same (b ∷ bearers) pieces others same =
    ap (λ (found : Option Piece). cons_option found (by_index bearers pieces)) (same b.life)
    ∙ ap (λ (later : List Piece). cons_option (piece_for others b) later) (by_index_same bearers pieces others same)

pub saved_same : (imsi : List ℕ) (one other : SubscriberState) (pieces others : List Piece)
    → AreSubscribersAlike one other pieces others → saved imsi one ≡ saved imsi other
saved_same imsi one other pieces others are =
    let bearers = one.version.bearers in
    let counters = are.counters in
    let rest : flat_map (own_buckets one.counters.meters) bearers ≡ flat_map (own_buckets other.counters.meters) bearers =
    all_own one.counters.meters other.counters.meters bearers
    (λ b there guaranteed. counters.meters.own b (contains_in b bearers there) guaranteed) in
    let buckets : buckets_in bearers one.counters.meters ≡ buckets_in bearers other.counters.meters =
    ap (λ (m : Meter). m.up ∷ m.down ∷ flat_map (own_buckets one.counters.meters) bearers) counters.meters.shared
    ∙ ap (λ (later : List BucketState). other.counters.meters.shared.up ∷ other.counters.meters.shared.down ∷ later)
    rest in
    let indexed : by_index bearers (pieces_of one.counters.book.opens one.counters.book.moments)
    ≡ by_index bearers (pieces_of other.counters.book.opens other.counters.book.moments) =
    ap (by_index bearers) (pieces_are one.counters.book pieces counters.pieces_are)
    ∙ by_index_same bearers pieces others counters.pieces_alike.same
    ∙ ap (by_index bearers) (sym (pieces_are other.counters.book others counters.others_are)) in
    let parts : parts_of bearers one.counters ≡ parts_of bearers other.counters = λ i. record {
      last = counters.last i;
      buckets = buckets i;
      pieces = indexed i;
      held = counters.held i;
    } in
    let all : parts_of one.version.bearers one.counters ≡ parts_of other.version.bearers other.counters =
    parts ∙ ap (λ (v : VersionState). parts_of v.bearers other.counters) are.version in
    λ i. record {
      imsi = imsi;
      session = are.session i;
      commands = (are.version i).number;
      packets = are.packets i;
      destination = are.destination i;
      counters = all i;
    }

pub all_saved_same : (book : List (List ℕ)) (ones others : List SubscriberState) (most : ℕ)
    → AreAllOne ones others most → all_saved book ones ≡ all_saved book others
all_saved_same [] ones others most each = refl
all_saved_same (imsi ∷ book) [] [] most each = refl
all_saved_same (imsi ∷ book) [] (other ∷ others) most each = absurd each
all_saved_same (imsi ∷ book) (one ∷ ones) [] most each = absurd each
all_saved_same (imsi ∷ book) (one ∷ ones) (other ∷ others) most each =
    ap (λ (first : SavedSubscriber). first ∷ all_saved book ones)
    (saved_same imsi one other each.0.pieces each.0.others each.0.alike)
    ∙ ap (λ (later : List SavedSubscriber). saved imsi other ∷ later) (all_saved_same book ones others most each.1)

-- ---- saved alike, so alike

-- a piece has its active bearer
record HasBearer (version : VersionState) (life : ℕ) : Type 0 where
  bearer : ActiveBearer
  there : In bearer version.bearers
  named : bearer.life ≡ life

has_bearer : (version : VersionState) (pieces : List Piece) → AreOpen version pieces → (life : ℕ) (p : Piece)
    → alike.piece_for life pieces ≡ Some p → HasBearer version life
has_bearer version pieces open_ life p found =
    let passes = of_find (is_of life) p pieces found in
    let among = in_map life_of p pieces passes.0 in
    let named : p.counts.life ≡ life = eqb-true p.counts.life life passes.1 in
    let is = (open_ life).0 (subst (λ n. Contains (map life_of pieces) n) named
    (contains_in p.counts.life (map life_of pieces) among)) in
    let bearer = of_any (λ (c : ActiveBearer). c.life == life) version.bearers is in
    record { bearer = bearer.0; there = bearer.1; named = eqb-true bearer.0.life life bearer.2 }

-- lists of one value for each are the same only where the values are
each_same : {X Y : Type 0} (xs : List X) (f g : X → Option Y) → ((x : X) → In x xs → (y : Y) × (f x ≡ Some y))
    → ((x : X) → In x xs → (y : Y) × (g x ≡ Some y)) → filter_map f xs ≡ filter_map g xs
    → (x : X) → In x xs → f x ≡ g x
each_same [] f g some also same x there = absurd there
each_same (first ∷ xs) f g some also same x there =
    let here = some first (inl refl) in
    let here_too = also first (inl refl) in
    let both : here.0 ∷ filter_map f xs ≡ here_too.0 ∷ filter_map g xs =
    sym (ap (λ o. cons_option o (filter_map f xs)) here.1) ∙ same
    ∙ ap (λ o. cons_option o (filter_map g xs)) here_too.1 in
    let heads : here.0 ≡ here_too.0 = cc in
    let tails : filter_map f xs ≡ filter_map g xs = cc in
    elim there [
      | inl is ↦ subst (λ z. f z ≡ g z) is (here.1 ∙ ap (λ y. Some y) heads ∙ sym here_too.1)
      | inr behind ↦ each_same xs f g (λ z among. some z (inr among)) (λ z among. also z (inr among)) tails x behind
    ]

pieces_same : (version : VersionState) (pieces others : List Piece) → AreOpen version pieces → AreOpen version others
    → by_index version.bearers pieces ≡ by_index version.bearers others → (life : ℕ)
    → alike.piece_for life pieces ≡ alike.piece_for life others
pieces_same version pieces others open_ open_too same life =
    by_cases (alike.piece_for life pieces) (alike.piece_for life others) refl refl
  where
    of_bearer : HasBearer version life → alike.piece_for life pieces ≡ alike.piece_for life others
    of_bearer has = subst (λ n. alike.piece_for n pieces ≡ alike.piece_for n others) has.named
        (each_same version.bearers (piece_for pieces) (piece_for others) (has_piece version pieces open_)
        (has_piece version others open_too) same has.bearer has.there)

    by_cases : (x y : Option Piece) → alike.piece_for life pieces ≡ x → alike.piece_for life others ≡ y
        → alike.piece_for life pieces ≡ alike.piece_for life others
    by_cases (Some p) y is is_too = of_bearer (has_bearer version pieces open_ life p is)
    by_cases None (Some q) is is_too = of_bearer (has_bearer version others open_too life q is_too)
    by_cases None None is is_too = is ∙ sym is_too

pub saved_alike : (imsi imsi_too : List ℕ) (one other : SubscriberState) (pieces : List Piece) (most : ℕ)
    → IsGoing one pieces most → ArePiecesOf one.counters.book pieces
    → AreDistinct (map life_of pieces) → length one.counters.meters.own ≡ 11
    → IsResting other → saved imsi one ≡ saved imsi_too other → AreOne one other most
saved_alike imsi imsi_too one other pieces most going are apart sized resting same =
    let has = resting.has_pieces in
    let sessions : one.session ≡ other.session = ap (λ (s : SavedSubscriber). s.session) same in
    let numbers : one.version.number ≡ other.version.number = ap (λ (s : SavedSubscriber). s.commands) same in
    let versions : one.version ≡ other.version =
    going.versioned ∙ ap (λ (s : SessionState). version_of s one.version.number) sessions
    ∙ ap (version_of other.session) numbers ∙ sym resting.version in
    let bearers = one.version.bearers in
    let bearers_are : other.version.bearers ≡ bearers = ap (λ (v : VersionState). v.bearers) (sym versions) in
    let parts : PartsState = record {
      last = other.counters.last;
      buckets = buckets_in bearers other.counters.meters;
      pieces = has.pieces;
      held = other.counters.held;
    } in
    let made : IsMadeOf one.version parts other.counters = record {
      parts_are = record { last = refl; buckets = refl; pieces = has.are; held = refl };
      rows = resting.rows;
      sized = resting.sized;
    } in
    let buckets : buckets_in bearers other.counters.meters ≡ buckets_in bearers one.counters.meters =
    ap (λ (bs : List ActiveBearer). buckets_in bs other.counters.meters) (sym bearers_are)
    ∙ sym (ap (λ (s : SavedSubscriber). s.counters.buckets) same) in
    let open_too : AreOpen one.version has.pieces =
    subst (λ (v : VersionState). AreOpen v has.pieces) (sym versions) has.open_ in
    let indexed : by_index bearers pieces ≡ by_index bearers has.pieces =
    ap (by_index bearers) (sym (pieces_are one.counters.book pieces are))
    ∙ ap (λ (s : SavedSubscriber). s.counters.pieces) same
    ∙ ap (by_index other.version.bearers) (pieces_are other.counters.book has.pieces has.are)
    ∙ ap (λ (bs : List ActiveBearer). by_index bs has.pieces) bearers_are in
    let pieces_alike : ArePiecesAlike pieces has.pieces = record {
      apart = apart;
      others_apart = has.apart;
      same = pieces_same one.version pieces has.pieces going.open_ open_too indexed;
    } in
    record {
      pieces = pieces;
      others = has.pieces;
      alike = record {
        session = sessions;
        version = versions;
        packets = ap (λ (s : SavedSubscriber). s.packets) same;
        destination = ap (λ (s : SavedSubscriber). s.destination) same;
        counters = made_alike one.version one.counters other.counters pieces parts sized are made
            (sym (ap (λ (s : SavedSubscriber). s.counters.last) same)) buckets
            (sym (ap (λ (s : SavedSubscriber). s.counters.held) same)) pieces_alike;
      };
      going = going;
      others_rows = resting.rows;
    }

-- the same of all subscribers, of the first of which others are alike
pub all_saved_alike : (book book_too : List (List ℕ)) (ones twins others : List SubscriberState) (most : ℕ)
    → AreAllOne ones twins most → length ones ≡ length book → length others ≡ length book_too
    → AllByRecursion IsResting others → all_saved book ones ≡ all_saved book_too others
    → (book ≡ book_too) × AreAllOne ones others most
all_saved_alike [] [] [] twins [] most each many many_too rests same = (refl, tt)
all_saved_alike [] [] [] twins (other ∷ others) most each many many_too rests same = absurd (omega arith)
all_saved_alike [] [] (one ∷ ones) twins others most each many many_too rests same = absurd (omega arith)
all_saved_alike [] (imsi ∷ book_too) ones twins [] most each many many_too rests same = absurd (omega arith)
all_saved_alike [] (imsi ∷ book_too) ones twins (other ∷ others) most each many many_too rests same = absurd (cc)
all_saved_alike (imsi ∷ book) book_too [] twins others most each many many_too rests same = absurd (omega arith)
all_saved_alike (imsi ∷ book) [] (one ∷ ones) twins others most each many many_too rests same = absurd (cc)
all_saved_alike (imsi ∷ book) (imsi_too ∷ book_too) (one ∷ ones) twins [] most each many many_too rests same =
    absurd (omega arith)
all_saved_alike (imsi ∷ book) (imsi_too ∷ book_too) (one ∷ ones) [] (other ∷ others) most each many many_too rests
    same = absurd each
all_saved_alike (imsi ∷ book) (imsi_too ∷ book_too) (one ∷ ones) (twin ∷ twins) (other ∷ others) most each many many_too
    rests same =
    let first : saved imsi one ≡ saved imsi_too other = cc in
    let later : all_saved book ones ≡ all_saved book_too others = cc in
    let many_behind : length ones ≡ length book = omega arith in
    let many_behind_too : length others ≡ length book_too = omega arith in
    let behind = all_saved_alike book book_too ones twins others most each.1 many_behind many_behind_too rests.1 later in
    let are = each.0 in
    let counters = are.alike.counters in (
      ap (λ (s : SavedSubscriber). s.imsi ∷ book) first ∙ ap (λ (b : List (List ℕ)). imsi_too ∷ b) behind.0,
      (
        saved_alike imsi imsi_too one other are.pieces most are.going counters.pieces_are counters.pieces_alike.apart
            counters.meters.sized rests.0 first,
        behind.1,
      ),
    )
