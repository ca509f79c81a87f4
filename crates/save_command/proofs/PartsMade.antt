-- The parts of counters that represent what happened.
use Rattle.std.proofs.Common.{◌≡◌, ◌≤◌, ◌++◌, ◌∷◌, ℕ, Bool, true, false, cond, IsTrue, List, [], length, map, refl, sym, ap, ◌∙◌, subst, arith}
use Rattle.std.specs.List.{AllByRecursion, flat_map}
use Rattle.std.proofs.lemmas.List.{length-map}
use Rattle.rate_policer.specs.Buckets.{BucketState}
use Rattle.rate_policer.specs.Conforming.{burst}
use Rattle.charging_book.specs.Accounts.{AreCounting, AreDistinct}
use Rattle.charging_book.specs.Happenings.{lives_of, moments_at, open_at}
use Rattle.charging_book.specs.Parts.{ArePiecesOf, are_parts, counts_in, moments_in}
use Rattle.charging_book.specs.Rows.{Counters, Moments}
use Rattle.charging_book.specs.declared.records.Piece.{Piece}
use Rattle.charging_book.proofs.KeptLemmas.{stands_counting, stands_distinct}
use Rattle.charging_book.proofs.PartLemmas.{kept_parts}
use Rattle.bearer_state.specs.declared.version.ActiveBearer.{ActiveBearer}
use Rattle.bearer_state.specs.Qos.{is_guaranteed}
use Rattle.bearer_state.specs.Version.{VersionState}
use Rattle.packet_steps.specs.declared.meters.Meter.{Meter}
use Rattle.packet_steps.specs.Meters.{MetersStand, MetersState, own_meter}
use Rattle.packet_steps.specs.Parts.{ArePartsOf, PartsState, buckets_in, own_buckets}
use Rattle.packet_steps.specs.Past.{Past}
use Rattle.packet_steps.specs.Rows.{held_in_order}
use Rattle.packet_steps.specs.Standing.{CountersState}
use Rattle.gate_model.specs.SlotPast.{past_of}
use Rattle.gate_model.specs.declared.event.Event.{Event}
use Rattle.gate_model.proofs.Members.{contains_in, each_at}
use Rattle.subscriber.specs.Standing.{StandsFor, SubscriberState}
use Rattle.record_codec.specs.Saved.{pieces_of}

-- a bucket's level is within the burst of its rate
abbrev pub IsLevel : BucketState → Type 0
IsLevel bucket = bucket.level ≤ burst bucket.rate

-- counters have parts: no two pieces are of one life, none is full, and held packets are in order
pub record HasParts (version : VersionState) (counters : CountersState) : Type 0 where
  pub parts : PartsState
  pub are : ArePartsOf version counters parts
  pub counting : IsTrue (are_parts parts.pieces)
  pub ordered : IsTrue (held_in_order parts.last parts.held)
  pub levels : AllByRecursion IsLevel parts.buckets

-- both levels of an own meter, if the bearer has one
abbrev HasLevels : Bool → Meter → Type 0
HasLevels own meter = own ≡ true → IsLevel meter.up × IsLevel meter.down

by_class : (own : Bool) (meter : Meter) (others : List BucketState) → HasLevels own meter
    → AllByRecursion IsLevel others
    → AllByRecursion IsLevel (cond own (meter.up ∷ meter.down ∷ []) [] ++ others)
by_class true meter others has all = let both = has refl in (both.0, (both.1, all))
by_class false meter others has all = all

own_levels : (meters : MetersState) (bearers : List ActiveBearer)
    → AllByRecursion (λ (b : ActiveBearer). HasLevels (is_guaranteed b.qos.qci) (own_meter meters b.index)) bearers
    → AllByRecursion IsLevel (flat_map (own_buckets meters) bearers)
own_levels meters [] each = tt
own_levels meters (b ∷ bearers) each =
    by_class (is_guaranteed b.qos.qci) (own_meter meters b.index) (flat_map (own_buckets meters) bearers) each.0
    (own_levels meters bearers each.1)

levels_of : (meters : MetersState) (past : Past) → MetersStand meters past
    → AllByRecursion IsLevel (buckets_in past.version.bearers meters)
levels_of meters past stands = (
  (stands.shared true).stands.level,
  (
    (stands.shared false).stands.level,
    own_levels meters past.version.bearers
        (each_at (λ (b : ActiveBearer). HasLevels (is_guaranteed b.qos.qci) (own_meter meters b.index))
        past.version.bearers (λ b there own. (
          (stands.own b true (contains_in b past.version.bearers there) own).stands.level,
          (stands.own b false (contains_in b past.version.bearers there) own).stands.level,
        ))),
  ),
)

-- counters and moments, one for each, are those of their pieces
counts_again : (opens : List Counters) (moments : List Moments) → length opens ≡ length moments
    → map counts_in (pieces_of opens moments) ≡ opens
counts_again [] moments long = refl
counts_again (counts ∷ opens) [] long = absurd (omega (arith, long))
counts_again (counts ∷ opens) (span ∷ moments) long =
    ap (λ (others : List Counters). counts ∷ others) (counts_again opens moments (omega (arith, long)))

moments_again : (opens : List Counters) (moments : List Moments) → length opens ≡ length moments
    → map moments_in (pieces_of opens moments) ≡ moments
moments_again [] [] long = refl
moments_again [] (span ∷ moments) long = absurd (omega (arith, long))
moments_again (counts ∷ opens) [] long = absurd (omega (arith, long))
moments_again (counts ∷ opens) (span ∷ moments) long =
    ap (λ (others : List Moments). span ∷ others) (moments_again opens moments (omega (arith, long)))

-- what represents events has parts
pub has_parts : (slot : ℕ) (one : SubscriberState) (events : List Event) (taken : ℕ) → StandsFor one slot events taken
    → IsTrue (held_in_order one.counters.last one.counters.held) → HasParts one.version one.counters
has_parts slot one events taken stands ordered =
    let past : Past = (past_of slot events).packets in
    let book = one.counters.book in
    let charges = stands.counters.charges in
    let pieces : List Piece = pieces_of book.opens book.moments in
    let long : length book.opens ≡ length book.moments =
    ap length charges.opens ∙ length-map (lives_of past.charged) (open_at past.charged)
    ∙ sym (ap length charges.moments ∙ length-map (lives_of past.charged) (moments_at past.charged)) in
    let counts : map counts_in pieces ≡ book.opens = counts_again book.opens book.moments long in
    let are : ArePiecesOf book pieces =
    record { opens = counts; moments = moments_again book.opens book.moments long } in
    record {
      parts = record {
        last = one.counters.last;
        buckets = buckets_in one.version.bearers one.counters.meters;
        pieces = pieces;
        held = one.counters.held;
      };
      are = record { last = refl; buckets = refl; pieces = are; held = refl };
      counting = kept_parts pieces
          (subst (λ (opens : List Counters). AreDistinct (map (λ (c : Counters). c.life) opens)) (sym counts)
          (stands_distinct book past.charged taken charges))
          (subst AreCounting (sym counts) (stands_counting book past.charged taken charges));
      ordered = ordered;
      levels = subst (λ (v : VersionState). AllByRecursion IsLevel (buckets_in v.bearers one.counters.meters))
          (sym stands.version) (levels_of one.counters.meters past stands.counters.meters);
    }
