-- What the makers of lists and sessions say, by the tests of the reader.
use Rattle.std.proofs.Common.{◌≡◌, ℕ, ◌≤◌, ◌^◌, true, false, ltb, List, Some, sym, ap, subst, ◌∙◌, ◌<◌}
use Rattle.std.specs.Prelude.{IfSome, nat_eq, is_none, slice_index, Result}
use Rattle.std.proofs.lemmas.Bool.{false_from_ne_true, and_from, and_parts, eqb-true, ltb-true}
use Rattle.tft_codec.specs.declared.filter.Filter.{Filter}
use Rattle.tft_codec.specs.declared.tft.Tft.{Tft}
use Rattle.tft_codec.specs.Filter.{AreFilters, ids}
use Rattle.tft_codec.specs.Spelling.{Spells}
use Rattle.tft_codec.specs.Reading.{tft_at}
use Rattle.tft_codec.specs.Refusal.{first_fault}
use Rattle.tft_codec.proofs.TftLemmas.{tft_again}
use Rattle.bearer_state.specs.declared.bearer.Bearer.{Bearer}
use Rattle.bearer_state.specs.Bearer.{AreBearers}
use Rattle.bearer_state.specs.Session.{SessionState, IsSession, IsKept}
use Rattle.record_codec.specs.declared.fault.Fault.{Fault}
use Rattle.record_codec.specs.Read.{Makes, times, filter_at, filters_differ, are_bearers, is_session, begins_one, is_filter, filter_of, creates_some}
use Rattle.record_codec.proofs.Codecs.{AreOctets, times_codec}
use Rattle.record_codec.proofs.FilterCodec.{filter_codec, alone}
use Rattle.record_codec.proofs.Tests.{distinct_decides, bearers_decide}
use Rattle.record_codec.proofs.SessionCodecs.{session_parts}

pub filters_made : (filters : List Filter) → AreFilters filters → filters_differ filters ≡ true
filters_made filters are = (distinct_decides (ids filters)).1 are.differ

pub filters_not : (octets : List ℕ) (count : ℕ) (filters : List Filter) (rest : List ℕ) → AreOctets octets
    → times count filter_at octets ≡ Some (filters, rest) → (AreFilters filters → ⊥) → filters_differ filters ≡ false
filters_not octets count filters rest small read none =
    false_from_ne_true (filters_differ filters) (λ differ.
    none (record {
      each = ((times_codec filter_codec count).takes octets filters rest small read).1.1;
      differ = (distinct_decides (ids filters)).0 differ;
    }))

pub bearers_made : (bearers : List Bearer) → AreBearers bearers → are_bearers bearers ≡ true
bearers_made bearers are = (bearers_decide bearers).1 are

pub bearers_not : (bearers : List Bearer) → (AreBearers bearers → ⊥) → are_bearers bearers ≡ false
bearers_not bearers none = false_from_ne_true (are_bearers bearers) (λ are. none ((bearers_decide bearers).0 are))

pub session_is : (s : SessionState) → is_session s ≡ true → s.rates ≤ 2 ^ 61 → s.lives ≤ 2 ^ 61 → IfSome s.last IsKept
    → IsSession s
session_is s test rates lives kept =
    let p = (session_parts s).0 test in
    record {
      up = p.0;
      down = p.1.0;
      rates = rates;
      lives = lives;
      lives_below = p.1.1.0;
      bearers = p.1.1.1;
      last = kept;
    }

-- ---- a filter that is read from its template

begins_as : (octets : List ℕ) → begins_one octets ≡ true → (slice_index octets 0 ≡ 33) × (slice_index octets 1 < 64)
begins_as octets e =
    let parts = and_parts (nat_eq (slice_index octets 0) 33) (ltb (slice_index octets 1) 64) e in
    (eqb-true (slice_index octets 0) 33 parts.0, ltb-true (slice_index octets 1) 64 parts.1)

creates_one : (octets : List ℕ) (t : Tft) → Spells octets t → begins_one octets ≡ true → creates_some t ≡ true
creates_one octets t spelled begins =
    let b = begins_as octets begins in
    ap creates_some (alone octets t spelled b.0 b.1).template

pub makes_filter : (r : Result Filter Fault) (octets : List ℕ) (t : Tft) → Spells octets t → begins_one octets ≡ true
    → Makes r (creates_some t) (filter_of t) → Makes r (is_filter octets) (filter_of (tft_at octets))
makes_filter r octets t spelled begins made =
    let read = tft_again octets t spelled in
    let holds : is_filter octets ≡ true
    = and_from (begins_one octets) (is_none (first_fault octets)) begins (ap is_none read.faultless) in
    let same : creates_some t ≡ is_filter octets = creates_one octets t spelled begins ∙ sym holds in
    let value : filter_of t ≡ filter_of (tft_at octets) = ap filter_of (sym read.value) in
    subst (λ b. Makes r b (filter_of (tft_at octets))) same (subst (λ f. Makes r (creates_some t) f) value made)
