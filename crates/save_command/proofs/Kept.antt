-- A subscriber that represents the events of its slot may be saved.
use Rattle.std.proofs.Common.{◌≡◌, ℕ, ◌+◌, ◌<◌, ◌≤◌, ◌^◌, ◌==◌, ◌&&◌, nat_le, Bool, true, false, cond, Option, None, Some, IfSome, List, [], ◌∷◌, length, drop, map, sym, ap, ◌∙◌, subst, inl, inr, arith, append-nil}
use Rattle.std.specs.Prelude.{unwrap_or}
use Rattle.std.specs.List.{AllByRecursion, list_all}
use Rattle.std.proofs.lemmas.Bool.{and_parts, eqb-true, leb-true}
use Rattle.std.proofs.lemmas.List.Elements.{recursion_from_All}
use Rattle.std.proofs.lemmas.List.Prefix.{front_rest}
use Rattle.rate_policer.specs.Buckets.{BucketState}
use Rattle.charging_book.specs.Accounts.{AreDistinct}
use Rattle.charging_book.specs.Happenings.{Happening, moments_at, open_at, lives_of}
use Rattle.charging_book.specs.Parts.{are_parts, counts_in, moments_in}
use Rattle.charging_book.specs.Pieces.{volume}
use Rattle.charging_book.specs.Rows.{Charged, Counters, Moments}
use Rattle.charging_book.specs.declared.records.Piece.{Piece}
use Rattle.charging_book.proofs.PartLemmas.{parts_counting, parts_distinct}
use Rattle.bearer_state.specs.declared.kept.Kept.{Kept}
use Rattle.bearer_state.specs.declared.version.ActiveBearer.{ActiveBearer}
use Rattle.bearer_state.specs.Qos.{is_guaranteed}
use Rattle.bearer_state.specs.Session.{SessionState}
use Rattle.bearer_state.specs.Version.{IsActiveBearer, IsVersion, VersionState, actives, version_of}
use Rattle.packet_steps.specs.Parts.{PartsState, buckets_fit, first_fit, fit, held_fit, may_fit, own_fit, pieces_fit, were_asked}
use Rattle.packet_steps.specs.Rows.{HeldRow}
use Rattle.gate_model.specs.Events.{commands_of, packets_of}
use Rattle.gate_model.specs.SlotPast.{past_of, records_after, session_after}
use Rattle.gate_model.specs.declared.event.Event.{Event}
use Rattle.gate_model.specs.declared.event.Event.TheVariants as event
use Rattle.gate_model.proofs.FewCharges.{few_after, few_held}
use Rattle.gate_model.proofs.Members.{In, at_each, contains_in, each_at, in_contains, in_map}
use Rattle.gate_model.proofs.RoomLemmas.{counts_within}
use Rattle.gate_model.proofs.SlotLemmas.{slot_stays}
use Rattle.gate_model.proofs.Sound.{past_sound}
use Rattle.subscriber.specs.Standing.{StandsFor, SubscriberState}
use Rattle.subscriber.proofs.CountLemmas.{all_counted}
use Rattle.subscriber.proofs.FitLemmas.{parts_fit}
use Rattle.subscriber.proofs.AlikeFits.{fitting_open}
use Rattle.subscriber.proofs.PieceLemmas.{lives_are}
use Rattle.pc_base.specs.Imsi.{IsImsi}
use Rattle.lawful_run.specs.Ranges.{HappeningIn, HeldIn, IsShortAnswer, OpenIn, PastIn}
use Rattle.lawful_run.proofs.Answers.{answers_short}
use Rattle.lawful_run.proofs.ChargesIn.{open_piece_in}
use Rattle.lawful_run.proofs.HeldCame.{held_came}
use Rattle.lawful_run.proofs.PastsIn.{lead_in}
use Rattle.record_codec.specs.Saved.{AreSavedParts, IsAnswer, IsBucket, IsHeld, IsOwnBearer, IsPiece, IsResting, IsSaved, by_index, parts_of, saved}
use Rattle.record_codec.proofs.PieceLemmas.{parts_are}
use Rattle.save_command.specs.Known.{IsKind, IsKnown}
use Rattle.solo_command.proofs.Indexed.{HasOne, each_indexed, fits_indexed, indexed_for, one_for}
use Rattle.save_command.proofs.PartsMade.{HasParts, IsLevel, has_parts}
use Rattle.save_command.proofs.LineEvents.{AreEvents, NumberBelow, numbers_below}

-- the kept answer
answer_is : (last : Option Kept) → IfSome last IsKind → IfSome last IsShortAnswer → IfSome last IsAnswer
answer_is None kind short = tt
answer_is (Some kept) kind short = record { kind = kind; reply = omega (arith, short) }

-- buckets that fit have the rates of a version
abbrev AreLow : List BucketState → Type 0
AreLow buckets = AllByRecursion (λ (b : BucketState). b.rate < 2 ^ 40) buckets

two_low : (up down : ℕ) (rest : List BucketState → Bool) (buckets : List BucketState) → up < 2 ^ 40 → down < 2 ^ 40
    → ((others : List BucketState) → rest others ≡ true → AreLow others)
    → (first_fit up down buckets && rest (drop 2 buckets)) ≡ true → AreLow buckets
two_low up down rest [] up_low down_low each fits = tt
two_low up down rest (first ∷ []) up_low down_low each fits = absurd (cc)
two_low up down rest (first ∷ second ∷ others) up_low down_low each fits =
    let parts = and_parts (first_fit up down (first ∷ second ∷ others)) (rest others) fits in
    let own = and_parts (first.rate == up) (second.rate == down) parts.0 in
    let one : first.rate ≡ up = eqb-true first.rate up own.0 in
    let two : second.rate ≡ down = eqb-true second.rate down own.1 in
    (omega (arith, one, up_low), (omega (arith, two, down_low), each others parts.1))

by_class : (own : Bool) (b : ActiveBearer) (bearers : List ActiveBearer) (buckets : List BucketState)
    → IsActiveBearer b → ((others : List BucketState) → own_fit bearers others ≡ true → AreLow others)
    → cond own (first_fit b.qos.mbr_up b.qos.mbr_down buckets && own_fit bearers (drop 2 buckets))
    (own_fit bearers buckets) ≡ true
    → AreLow buckets
by_class true b bearers buckets is each fits =
    two_low b.qos.mbr_up b.qos.mbr_down (own_fit bearers) buckets is.qos.mbr_up is.qos.mbr_down each fits
by_class false b bearers buckets is each fits = each buckets fits

own_low : (bearers : List ActiveBearer) (buckets : List BucketState) → AllByRecursion IsActiveBearer bearers
    → own_fit bearers buckets ≡ true → AreLow buckets
own_low [] [] each fits = tt
own_low [] (first ∷ others) each fits = absurd (cc)
own_low (b ∷ bearers) buckets each fits =
    by_class (is_guaranteed b.qos.qci) b bearers buckets each.0 (λ others. own_low bearers others each.1) fits

version_low : (version : VersionState) (buckets : List BucketState) → IsVersion version
    → buckets_fit version buckets ≡ true → AreLow buckets
version_low version buckets is fits =
    let up : version.up < 2 ^ 40 = omega (arith, is.up) in
    let down : version.down < 2 ^ 40 = omega (arith, is.down) in
    two_low version.up version.down (own_fit version.bearers) buckets up down
    (λ others. own_low version.bearers others is.each) fits

-- and were asked no later than at the last packet
asked_by : (most : ℕ) (buckets : List BucketState) → list_all (λ (b : BucketState). nat_le b.last most) buckets ≡ true
    → AllByRecursion (λ (b : BucketState). b.last ≤ most) buckets
asked_by most [] fits = tt
asked_by most (b ∷ buckets) fits =
    let parts = and_parts (nat_le b.last most) (list_all (λ (c : BucketState). nat_le c.last most) buckets) fits in
    (leb-true b.last most parts.0, asked_by most buckets parts.1)

last_by : (last : Option ℕ) (moment : ℕ) → IfSome last (λ at. at ≤ moment) → unwrap_or last 0 ≤ moment
last_by None moment is = omega arith
last_by (Some at) moment is = is

buckets_are : (most : ℕ) (buckets : List BucketState) → most < 2 ^ 50 → AllByRecursion IsLevel buckets
    → AreLow buckets → AllByRecursion (λ (b : BucketState). b.last ≤ most) buckets
    → AllByRecursion IsBucket buckets
buckets_are most [] few levels low asked = tt
buckets_are most (b ∷ buckets) few levels low asked = (
  record { rate = low.0; level = levels.0; last = omega (arith, few, asked.0) },
  buckets_are most buckets few levels.1 low.1 asked.1,
)

-- pieces
opens_in : (happened : List Happening) (pieces : List Piece) (lives : List ℕ)
    → map counts_in pieces ≡ map (open_at happened) lives → map moments_in pieces ≡ map (moments_at happened) lives
    → AllByRecursion HappeningIn happened → (p : Piece) → In p pieces
    → OpenIn (length happened) p.counts (moments_in p)
opens_in happened [] lives opens moments all p there = absurd there
opens_in happened (q ∷ pieces) [] opens moments all p there = absurd (cc)
opens_in happened (q ∷ pieces) (life ∷ lives) opens moments all p (inl here) =
    let counts : q.counts ≡ open_at happened life = cc in
    let span : moments_in q ≡ moments_at happened life = cc in
    let own : OpenIn (length happened) (open_at happened life) (moments_at happened life) =
    open_piece_in happened life all in
    let by_counts : OpenIn (length happened) q.counts (moments_at happened life) =
    subst (λ (c : Counters). OpenIn (length happened) c (moments_at happened life)) (sym counts) own in
    let by_span : OpenIn (length happened) q.counts (moments_in q) =
    subst (λ (m : Moments). OpenIn (length happened) q.counts m) (sym span) by_counts in
    subst (λ (x : Piece). OpenIn (length happened) x.counts (moments_in x)) here by_span
opens_in happened (q ∷ pieces) (life ∷ lives) opens moments all p (inr behind) =
    let later : map counts_in pieces ≡ map (open_at happened) lives = cc in
    let spans : map moments_in pieces ≡ map (moments_at happened) lives = cc in
    opens_in happened pieces lives later spans all p behind

piece_is : (most : ℕ) (p : Piece) → most < 2 ^ 50 → p.counts.up_octets + p.counts.down_octets < volume
    → OpenIn most p.counts (moments_in p) → IsPiece p
piece_is most p few octets is = record {
  octets = octets;
  seq = omega (arith, few, is.seq);
  up_packets = omega (arith, few, is.up_packets);
  down_packets = omega (arith, few, is.down_packets);
  first = is.first;
  last = is.last;
}

-- held packets
held_are : (slot : ℕ) (events : List Event) (packets : ℕ) → PastIn (past_of slot events)
    → AllByRecursion (NumberBelow packets) events
    → AllByRecursion (IsHeld packets) (past_of slot events).packets.held
held_are slot events packets is below =
    let held : List HeldRow = (past_of slot events).packets.held in
    each_at (IsHeld packets) held (λ row there.
    let own : HeldIn row = at_each HeldIn row held is.packets.held there in
    let came = in_contains (event.Packet row.packet) events (held_came slot events row (contains_in row held there)) in
    let number : row.packet.number < packets =
    at_each (NumberBelow packets) (event.Packet row.packet) events below came in
    record {
      number = number;
      moment = own.packet.moment;
      life = omega (arith, own.life);
      octets = own.packet.short;
    })

-- What is known of a slot: its subscriber represents its events, so few, is bound for a slice, and has no packet that
-- is later than a moment.
pub record IsLeftAt (moment slot : ℕ) (one : SubscriberState) (events : List Event) : Type 0 where
  pub stands : StandsFor one slot events (length (records_after slot events))
  pub are : AreEvents events
  pub few : length events < 2 ^ 40
  pub bound : one.destination ≤ 63
  pub late : IfSome one.counters.last (λ last. last ≤ moment)
  pub early : moment < 2 ^ 50

-- its version is that of its session
version_is : (slot : ℕ) (one : SubscriberState) (events : List Event) (taken : ℕ) → StandsFor one slot events taken
    → one.version ≡ version_of one.session one.version.number
version_is slot one events taken stands =
    let past = past_of slot events in
    let sound : past.packets.version ≡ version_of past.session past.commands = (past_sound slot events).version in
    let same : one.version ≡ version_of past.session past.commands = stands.version ∙ sound in
    let number : past.commands ≡ one.version.number = sym (ap (λ (v : VersionState). v.number) same) in
    same ∙ ap (λ (s : SessionState). version_of s past.commands) (sym stands.session)
    ∙ ap (λ (n : ℕ). version_of one.session n) number

-- parts that fit, test by test
record Tests (version : VersionState) (parts : PartsState) : Type 0 where
  buckets : buckets_fit version parts.buckets ≡ true
  asked : were_asked parts.last parts.buckets ≡ true
  pieces : pieces_fit version.bearers parts.pieces ≡ true
  counting : are_parts parts.pieces ≡ true

tests_of : (version : VersionState) (parts : PartsState) → fit version parts ≡ true → Tests version parts
tests_of version parts fits =
    let bearers = version.bearers in
    let all = and_parts (may_fit version parts) (are_parts parts.pieces) fits in
    let first = and_parts (buckets_fit version parts.buckets)
    (were_asked parts.last parts.buckets && (held_fit parts.last bearers parts.held && pieces_fit bearers parts.pieces))
    all.0 in
    let second = and_parts (were_asked parts.last parts.buckets)
    (held_fit parts.last bearers parts.held && pieces_fit bearers parts.pieces) first.1 in
    let third = and_parts (held_fit parts.last bearers parts.held) (pieces_fit bearers parts.pieces) second.1 in
    record { buckets = first.0; asked = second.0; pieces = third.1; counting = all.1 }

fits_so : (slot : ℕ) (one : SubscriberState) (events : List Event) (taken : ℕ) (has : HasParts one.version one.counters)
    → StandsFor one slot events taken → fit one.version has.parts ≡ true
fits_so slot one events taken has stands =
    parts_fit few_held one slot events taken has.parts stands has.are has.counting has.ordered

-- the parts of a subscriber that may be saved
parts_kept : (moment slot : ℕ) (one : SubscriberState) (events : List Event) → IsLeftAt moment slot one events
    → IsKnown one
    → AreSavedParts one.packets moment (actives one.session.bearers) (parts_of one.version.bearers one.counters)
parts_kept moment slot one events left known =
    let stands = left.stands in
    let has : HasParts one.version one.counters =
    has_parts slot one events (length (records_after slot events)) stands known.ordered in
    let parts : PartsState = has.parts in
    let bearers = one.version.bearers in
    let past = (past_of slot events).packets in
    let led : PastIn (past_of slot events) = lead_in slot events left.few left.are.in_range in
    let ranges : IsVersion one.version = subst IsVersion (sym stands.version) stands.counters.ranges in
    let tests : Tests one.version parts = tests_of one.version parts
    (fits_so slot one events (length (records_after slot events)) has stands) in
    let most : ℕ = length past.charged in
    let charged_few : most < 2 ^ 50 = omega (arith, left.few, (few_after slot events).charged) in
    let packets_few : one.packets ≡ length (packets_of events) = stands.packets in
    let one_each : (b : ActiveBearer) → In b bearers → HasOne parts.pieces b =
    one_for one.version parts.pieces ranges tests.pieces tests.counting in
    let opens : map counts_in parts.pieces ≡ map (open_at past.charged) (lives_of past.charged) =
    has.are.pieces.opens ∙ stands.counters.charges.opens in
    let spans : map moments_in parts.pieces ≡ map (moments_at past.charged) (lives_of past.charged) =
    has.are.pieces.moments ∙ stands.counters.charges.moments in
    let each_piece : (p : Piece) → In p parts.pieces → IsPiece p = λ p there.
    piece_is most p charged_few
    (at_each (λ (c : Counters). c.up_octets + c.down_octets < volume) p.counts (map counts_in parts.pieces)
    (recursion_from_All (λ (c : Counters). c.up_octets + c.down_octets < volume) (map counts_in parts.pieces)
    (parts_counting parts.pieces tests.counting)) (in_map counts_in p parts.pieces there))
    (opens_in past.charged parts.pieces (lives_of past.charged) opens spans led.packets.charged p there) in
    let last : unwrap_or parts.last 0 ≤ moment =
    last_by parts.last moment (subst (λ (o : Option ℕ). IfSome o (λ at. at ≤ moment)) (sym has.are.last) left.late) in
    let buckets : AllByRecursion IsBucket parts.buckets =
    buckets_are (unwrap_or parts.last 0) parts.buckets (omega (arith, last, left.early))
    has.levels (version_low one.version parts.buckets ranges tests.buckets)
    (asked_by (unwrap_or parts.last 0) parts.buckets tests.asked) in
    let held : AllByRecursion (IsHeld one.packets) past.held =
    held_are slot events one.packets led
    (numbers_below 0 one.packets events left.are.numbered_ (omega (arith, packets_few))) in
    let same : parts_of bearers one.counters ≡ record parts { pieces = by_index bearers parts.pieces } =
    parts_are one.version one.counters parts has.are in
    let active : bearers ≡ actives one.session.bearers =
    ap (λ (v : VersionState). v.bearers) (version_is slot one events (length (records_after slot events)) stands) in
    let kept : AreSavedParts one.packets moment bearers (record parts { pieces = by_index bearers parts.pieces }) =
    record {
      last = subst (λ (o : Option ℕ). IfSome o (λ at. at ≤ moment)) (sym has.are.last) left.late;
      buckets = buckets;
      pieces = each_indexed IsPiece parts.pieces bearers one_each each_piece;
      pieces_for = indexed_for parts.pieces bearers one_each;
      held = subst (AllByRecursion (IsHeld one.packets)) (sym (has.are.held ∙ stands.counters.held)) held;
    } in
    subst (λ (bs : List ActiveBearer). AreSavedParts one.packets moment bs (parts_of bearers one.counters)) active
    (subst (λ (p : PartsState). AreSavedParts one.packets moment bearers p) (sym same) kept)

-- it may be saved
pub saved_is : (moment slot : ℕ) (imsi : List ℕ) (one : SubscriberState) (events : List Event) → IsImsi imsi
    → IsLeftAt moment slot one events → IsKnown one → IsSaved moment slot (saved imsi one)
saved_is moment slot imsi one events imsi_is left known =
    let stands = left.stands in
    let taken : ℕ = length (records_after slot events) in
    let session : one.session ≡ session_after slot events = stands.session in
    let counts = counts_within slot events in
    let rates : one.session.rates ≡ (session_after slot events).rates = ap (λ (s : SessionState). s.rates) session in
    let lives : one.session.lives ≡ (session_after slot events).lives = ap (λ (s : SessionState). s.lives) session in
    let short : IfSome one.session.last IsShortAnswer =
    subst (λ (s : SessionState). IfSome s.last IsShortAnswer) (sym session)
    (answers_short slot events left.are.in_range left.are.once) in
    let commands : one.version.number ≡ length (commands_of events) = stands.commands in
    let packets : one.packets ≡ length (packets_of events) = stands.packets in
    let ranges : IsVersion one.version = subst IsVersion (sym stands.version) stands.counters.ranges in
    let version : one.version ≡ version_of one.session one.version.number =
    version_is slot one events taken stands in
    let has : HasParts one.version one.counters = has_parts slot one events taken stands known.ordered in
    let same : parts_of one.version.bearers one.counters
    ≡ record has.parts { pieces = by_index one.version.bearers has.parts.pieces } =
    parts_are one.version one.counters has.parts has.are in
    let fits : fit one.version (record has.parts { pieces = by_index one.version.bearers has.parts.pieces }) ≡ true =
    (fits_indexed one.version has.parts ranges (fits_so slot one events taken has stands)).1 in
    record {
      imsi = imsi_is;
      slot_is = ap (λ (s : SessionState). s.slot) session ∙ slot_stays slot events;
      session = record {
        ranges = known.session;
        bearers = known.bearers;
        own = recursion_from_All IsOwnBearer one.session.bearers known.own;
        mme = known.numbers.mme;
        rates = omega (arith, rates, counts.rates, left.few);
        lives = omega (arith, lives, counts.lives, left.few);
        answer = answer_is one.session.last known.numbers.kind short;
      };
      commands = omega (arith, commands, all_counted events, left.few);
      packets = omega (arith, packets, all_counted events, left.few);
      destination = left.bound;
      counters = parts_kept moment slot one events left known;
      fits = subst (λ (v : VersionState). fit v (parts_of one.version.bearers one.counters) ≡ true) version
          (subst (λ (p : PartsState). fit one.version p ≡ true) (sym same) fits);
    }

-- it is at rest
pub rests : (moment slot : ℕ) (one : SubscriberState) (events : List Event) → IsLeftAt moment slot one events
    → IsKnown one → IsResting one
rests moment slot one events left known =
    let stands = left.stands in
    let taken : ℕ = length (records_after slot events) in
    let has : HasParts one.version one.counters = has_parts slot one events taken stands known.ordered in
    let tests : Tests one.version has.parts = tests_of one.version has.parts
    (fits_so slot one events taken has stands) in
    let rows : List Charged = records_after slot events in
    record {
      version = version_is slot one events taken stands;
      rows = stands.counters.charges.rows ∙ front_rest rows rows [] (sym (append-nil rows));
      sized = stands.counters.meters.sized;
      has_pieces = record {
        pieces = has.parts.pieces;
        are = has.are.pieces;
        apart = subst AreDistinct (lives_are has.parts.pieces) (parts_distinct has.parts.pieces tests.counting);
        open_ = fitting_open one.version has.parts.pieces tests.pieces tests.counting;
      };
    }
