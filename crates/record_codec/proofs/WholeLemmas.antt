-- A subscriber and a file as their readers put them together.
use Rattle.std.proofs.Common.{◌≡◌, ℕ, ◌<◌, ◌≤◌, ◌^◌, ◌&&◌, Bool, true, false, cond, List, [], ◌∷◌, length, Option, Some, None, refl, sym, ap, ◌∙◌, subst, arith}
use Rattle.std.specs.Prelude.{map, nat_eq, All}
use Rattle.std.specs.Option.{option_and_then}
use Rattle.std.specs.List.{AllByRecursion, cons_option}
use Rattle.std.specs.Int.{w32}
use Rattle.std.proofs.lemmas.Bool.{and_parts}
use Rattle.std.proofs.lemmas.Option.{none-some}
use Rattle.std.proofs.lemmas.List.Elements.{All-from_recursion}
use Rattle.charging_book.specs.Accounts.{AreDistinct}
use Rattle.charging_book.specs.Parts.{are_parts}
use Rattle.charging_book.proofs.PartLemmas.{parts_distinct}
use Rattle.bearer_state.specs.declared.bearer.Bearer.{Bearer}
use Rattle.bearer_state.specs.declared.version.ActiveBearer.{ActiveBearer}
use Rattle.bearer_state.specs.Bearer.{AreBearers}
use Rattle.bearer_state.specs.Session.{SessionState}
use Rattle.bearer_state.specs.Version.{VersionState, IsVersion, IsActiveBearer, version_of, actives, active_in}
use Rattle.bearer_state.proofs.Few.{few_bearers}
use Rattle.packet_steps.specs.Standing.{CountersState}
use Rattle.packet_steps.specs.Parts.{PartsState, IsMadeOf, buckets_fit, fit, held_fit, may_fit, pieces_fit, were_asked}
use Rattle.subscriber.specs.Standing.{SubscriberState}
use Rattle.subscriber.proofs.AlikeFits.{fitting_open}
use Rattle.subscriber.proofs.PieceLemmas.{lives_are}
use Rattle.record_codec.specs.declared.fault.Fault.{Fault}
use Rattle.record_codec.specs.declared.fault.Fault.TheVariants as fault
use Rattle.record_codec.specs.Saved.{SavedSubscriber, FileState, IsFile, IsResting, all_saved, parts_of, imsi_of}
use Rattle.record_codec.specs.Spelling.{state}
use Rattle.record_codec.specs.Read.{Fails, FailsAt, and_then, done, such, tested, octet_at, number_at, count_at, is_slice, imsi_at, session_at, counters_at, counters_fit, subscriber_at, subscribers_at, are_new, is_version, is_pool, fields_at, whole, file_at}
use Rattle.record_codec.proofs.Codecs.{AreOctets}
use Rattle.record_codec.proofs.CounterCodecs.{counters_codec}
use Rattle.record_codec.proofs.PieceLemmas.{made_parts}
use Rattle.record_codec.proofs.FileCodecs.{file_taken, file_again}

-- ---- the bearers of a version

short_actives : (bearers : List Bearer) → length (actives bearers) ≤ length bearers
short_actives [] = omega arith
short_actives (bearer ∷ bearers) = by_phase (active_in bearer bearer.phase) (short_actives bearers)
  where
    by_phase : (active : Option ActiveBearer) → length (actives bearers) ≤ length bearers
        → length (cons_option active (actives bearers)) ≤ length (bearer ∷ bearers)
    by_phase None short = omega (arith, short)
    by_phase (Some active) short = omega (arith, short)

pub few_actives : (bearers : List Bearer) → AreBearers bearers → length (actives bearers) ≤ 11
few_actives bearers are = omega (arith, few_bearers bearers are, short_actives bearers)

lives_low : (bearers : List ActiveBearer) → AllByRecursion IsActiveBearer bearers
    → AllByRecursion (λ (bearer : ActiveBearer). bearer.life ≤ 2 ^ 61) bearers
lives_low [] each = tt
lives_low (bearer ∷ bearers) each = (omega (arith, each.0.life), lives_low bearers each.1)

pub low_lives : (version : VersionState) → IsVersion version
    → All (λ (bearer : ActiveBearer). bearer.life ≤ 2 ^ 61) version.bearers
low_lives version is =
    All-from_recursion (λ (bearer : ActiveBearer). bearer.life ≤ 2 ^ 61) version.bearers (lives_low version.bearers
    is.each)

-- ---- a subscriber

pub subscriber_parts : (moment slot : ℕ) (octets r1 r2 r3 r4 r5 r6 : List ℕ) (imsi : List ℕ) (session : SessionState)
    (commands packets destination : ℕ) (parts : PartsState) → imsi_at octets ≡ Some (imsi, r1)
    → session_at slot r1 ≡ Some (session, r2) → count_at r2 ≡ Some (commands, r3) → count_at r3 ≡ Some (packets, r4)
    → such is_slice octet_at r4 ≡ Some (destination, r5)
    → counters_at packets moment (actives session.bearers) r5 ≡ Some (parts, r6)
    → subscriber_at moment slot octets
    ≡ tested counters_fit (
      record {
        imsi = imsi;
        session = session;
        commands = commands;
        packets = packets;
        destination = destination;
        counters = parts;
      },
      r6,
    )
unfolding subscriber_at and_then such
subscriber_parts moment slot octets r1 r2 r3 r4 r5 r6 imsi session commands packets destination parts e1 e2 e3 e4 e5
    e6 =
    rw (e1, e2, e3, e4, e5, e6) refl

pub fits_not : (one : SavedSubscriber) (rest : List ℕ) → counters_fit one ≡ false → tested counters_fit (one, rest) ≡
    None
fits_not one rest e = ap (λ b. cond b (Some (one, rest)) None) e

pub fits_so : (one other : SavedSubscriber) (rest : List ℕ) → counters_fit one ≡ true → one ≡ other
    → tested counters_fit (one, rest) ≡ Some (other, rest)
fits_so one other rest e same =
    ap (λ b. cond b (Some (one, rest)) None) e ∙ ap (λ o. Some (o, rest)) same

-- a subscriber whose counters were made of parts has these
pub made_is : (packets moment : ℕ) (octets rest : List ℕ) (version : VersionState) (parts : PartsState)
    (counters : CountersState) → AreOctets octets → packets < 2 ^ 50 → moment < 2 ^ 50 → IsVersion version
    → counters_at packets moment version.bearers octets ≡ Some (parts, rest) → IsMadeOf version parts counters
    → parts_of version.bearers counters ≡ parts
made_is packets moment octets rest version parts counters small few early is read made =
    let text = ((counters_codec packets moment few early version.bearers).takes octets parts rest small read).1 in
    made_parts version counters parts made.parts_are is.apart text.pieces

pub subscriber_is : (moment slot : ℕ) (octets r1 r2 r3 r4 r5 r6 : List ℕ) (imsi : List ℕ) (session : SessionState)
    (commands packets destination : ℕ) (parts : PartsState) (version : VersionState) (counters : CountersState)
    → imsi_at octets ≡ Some (imsi, r1) → session_at slot r1 ≡ Some (session, r2) → count_at r2 ≡ Some (commands, r3)
    → count_at r3 ≡ Some (packets, r4) → such is_slice octet_at r4 ≡ Some (destination, r5)
    → version ≡ version_of session commands → IsVersion version
    → counters_at packets moment version.bearers r5 ≡ Some (parts, r6) → AreOctets r5 → packets < 2 ^ 50 → moment < 2
    ^ 50
    → fit version parts ≡ true → IsMadeOf version parts counters
    → subscriber_at moment slot octets
    ≡ Some (
      record {
        imsi = imsi;
        session = session;
        commands = version.number;
        packets = packets;
        destination = destination;
        counters = parts_of version.bearers counters;
      },
      r6,
    )
subscriber_is moment slot octets r1 r2 r3 r4 r5 r6 imsi session commands packets destination parts version counters
    e1 e2 e3 e4 e5 is valid e6 small few early fits made =
    let bearers_are : version.bearers ≡ actives session.bearers = ap (λ (v : VersionState). v.bearers) is in
    let read : counters_at packets moment (actives session.bearers) r5 ≡ Some (parts, r6)
    = ap (λ bearers. counters_at packets moment bearers r5) (sym bearers_are) ∙ e6 in
    let number_is : commands ≡ version.number = sym (ap (λ (v : VersionState). v.number) is) in
    let parts_is : parts ≡ parts_of version.bearers counters
    = sym (made_is packets moment r5 r6 version parts counters small few early valid e6 made) in
    let one : SavedSubscriber
    = record {
      imsi = imsi;
      session = session;
      commands = commands;
      packets = packets;
      destination = destination;
      counters = parts;
    } in
    let other : SavedSubscriber
    = record {
      imsi = imsi;
      session = session;
      commands = version.number;
      packets = packets;
      destination =
          destination;
      counters = parts_of version.bearers counters;
    } in
    let same : one ≡ other
    = ap (λ n. let made : SavedSubscriber = record {
      imsi = imsi;
      session = session;
      commands = n;
      packets = packets;
      destination = destination;
      counters = parts;
    } in made) number_is
    ∙ ap (λ p. let made : SavedSubscriber = record {
      imsi = imsi;
      session = session;
      commands = version.number;
      packets = packets;
      destination = destination;
      counters = p;
    } in made) parts_is in
    subscriber_parts moment slot octets r1 r2 r3 r4 r5 r6 imsi session commands packets destination parts e1 e2 e3 e4
    e5 read
    ∙ fits_so one other r6 (ap (λ v. fit v parts) (sym is) ∙ fits) same

-- the same, where the counters don't fit
pub subscriber_not : (moment slot : ℕ) (octets r1 r2 r3 r4 r5 r6 : List ℕ) (imsi : List ℕ) (session : SessionState)
    (commands packets destination : ℕ) (parts : PartsState) (version : VersionState) → imsi_at octets ≡ Some (imsi, r1)
    → session_at slot r1 ≡ Some (session, r2) → count_at r2 ≡ Some (commands, r3) → count_at r3 ≡ Some (packets, r4)
    → such is_slice octet_at r4 ≡ Some (destination, r5) → version ≡ version_of session commands
    → counters_at packets moment version.bearers r5 ≡ Some (parts, r6) → fit version parts ≡ false
    → subscriber_at moment slot octets ≡ None
subscriber_not moment slot octets r1 r2 r3 r4 r5 r6 imsi session commands packets destination parts version e1 e2 e3
    e4 e5 is e6 fits =
    let bearers_are : version.bearers ≡ actives session.bearers = ap (λ (v : VersionState). v.bearers) is in
    let read : counters_at packets moment (actives session.bearers) r5 ≡ Some (parts, r6)
    = ap (λ bearers. counters_at packets moment bearers r5) (sym bearers_are) ∙ e6 in
    let one : SavedSubscriber
    = record {
      imsi = imsi;
      session = session;
      commands = commands;
      packets = packets;
      destination = destination;
      counters = parts;
    } in
    subscriber_parts moment slot octets r1 r2 r3 r4 r5 r6 imsi session commands packets destination parts e1 e2 e3 e4
    e5 read
    ∙ fits_not one r6 (ap (λ v. fit v parts) (sym is) ∙ fits)

-- a subscriber of these parts is at rest, where they fit
pub resting_is : (session : SessionState) (commands packets destination : ℕ) (version : VersionState) (parts :
    PartsState)
    (counters : CountersState) → version ≡ version_of session commands → IsMadeOf version parts counters
    → fit version parts ≡ true → IsResting (record {
      session = session;
      version = version;
      counters = counters;
      packets = packets;
      destination = destination;
    })
resting_is session commands packets destination version parts counters is made fits =
    let number_is : commands ≡ version.number = sym (ap (λ (v : VersionState). v.number) is) in
    let rests = held_fit parts.last version.bearers parts.held && pieces_fit version.bearers parts.pieces in
    let asked = were_asked parts.last parts.buckets && rests in
    let all = and_parts (may_fit version parts) (are_parts parts.pieces) fits in
    let behind_buckets = and_parts (buckets_fit version parts.buckets) asked all.0 in
    let behind_asked = and_parts (were_asked parts.last parts.buckets) rests behind_buckets.1 in
    let behind_held = and_parts (held_fit parts.last version.bearers parts.held)
    (pieces_fit version.bearers parts.pieces) behind_asked.1 in
    record {
      version = is ∙ ap (version_of session) number_is;
      rows = made.rows;
      sized = made.sized;
      has_pieces = record {
        pieces = parts.pieces;
        are = made.parts_are.pieces;
        apart = subst AreDistinct (lives_are parts.pieces) (parts_distinct parts.pieces all.1);
        open_ = fitting_open version parts.pieces behind_held.1 all.1;
      };
    }

-- ---- the whole file

imsis_saved : (imsis : List (List ℕ)) (subscribers : List SubscriberState) → length imsis ≡ length subscribers
    → map imsi_of (all_saved imsis subscribers) ≡ imsis
imsis_saved [] subscribers long = refl
imsis_saved (imsi ∷ imsis) [] long = absurd cc
imsis_saved (imsi ∷ imsis) (one ∷ subscribers) long =
    let others : length imsis ≡ length subscribers = cc in
    ap (λ rest. imsi ∷ rest) (imsis_saved imsis subscribers others)

-- what the fields of a file lead to, but for its IMSIs and its end
pub file_parts : (octets r1 r2 r3 r4 r5 : List ℕ) (version lines moment count : ℕ) (imsis : List (List ℕ))
    (subscribers : List SubscriberState) → such is_version octet_at octets ≡ Some (version, r1)
    → count_at r1 ≡ Some (lines, r2) → count_at r2 ≡ Some (moment, r3)
    → such is_pool (number_at w32) r3 ≡ Some (count, r4)
    → subscribers_at moment 0 count r4 ≡ Some (all_saved imsis subscribers, r5) → length imsis ≡ length subscribers
    → file_at octets
    ≡ cond (are_new [] imsis)
    (whole (record { lines = lines; moment = moment; subscribers = all_saved imsis subscribers }, r5)) None
unfolding file_at fields_at and_then such
file_parts octets r1 r2 r3 r4 r5 version lines moment count imsis subscribers e1 e2 e3 e4 e5 long =
    rw (e1, e2, e3, e4, e5, imsis_saved imsis subscribers long) (by_test (are_new [] imsis))
  where
    by_test : (b : Bool)
        → option_and_then whole
        (option_and_then (λ (a : List SavedSubscriber × List ℕ). done {X = FileState} (record {
          lines = lines;
          moment = moment;
          subscribers = a.0;
        }) a.1)
        (cond b (Some (all_saved imsis subscribers, r5)) None))
        ≡ cond b (whole (record { lines = lines; moment = moment; subscribers = all_saved imsis subscribers }, r5)) None
    by_test true = refl
    by_test false = refl

-- where its subscribers aren't read, or two IMSIs are alike
pub file_fails : (octets r1 r2 r3 r4 : List ℕ) (version lines moment count : ℕ) (e : Fault)
    → such is_version octet_at octets ≡ Some (version, r1) → count_at r1 ≡ Some (lines, r2)
    → count_at r2 ≡ Some (moment, r3) → such is_pool (number_at w32) r3 ≡ Some (count, r4)
    → Fails e (subscribers_at moment 0 count r4) → Fails e (file_at octets)
unfolding file_at fields_at and_then such
file_fails octets r1 r2 r3 r4 version lines moment count fault.NoMemory e1 e2 e3 e4 e5 = tt
file_fails octets r1 r2 r3 r4 version lines moment count fault.NotState e1 e2 e3 e4 e5 = rw (e1, e2, e3, e4, e5) refl

pub book_fails : (octets r1 r2 r3 r4 r5 : List ℕ) (version lines moment count : ℕ) (imsis : List (List ℕ))
    (subscribers : List SubscriberState) (e : Fault) → such is_version octet_at octets ≡ Some (version, r1)
    → count_at r1 ≡ Some (lines, r2) → count_at r2 ≡ Some (moment, r3)
    → such is_pool (number_at w32) r3 ≡ Some (count, r4)
    → subscribers_at moment 0 count r4 ≡ Some (all_saved imsis subscribers, r5) → length imsis ≡ length subscribers
    → FailsAt e (are_new [] imsis) → Fails e (file_at octets)
book_fails octets r1 r2 r3 r4 r5 version lines moment count imsis subscribers fault.NoMemory e1 e2 e3 e4 e5 long
    new = tt
book_fails octets r1 r2 r3 r4 r5 version lines moment count imsis subscribers fault.NotState e1 e2 e3 e4 e5 long new =
    file_parts octets r1 r2 r3 r4 r5 version lines moment count imsis subscribers e1 e2 e3 e4 e5 long
    ∙ ap (λ b. cond b (whole (
      record { lines = lines; moment = moment; subscribers = all_saved imsis subscribers },
      r5,
    )) None) new

-- where octets are left
pub rest_fails : (octets r1 r2 r3 r4 r5 : List ℕ) (version lines moment count : ℕ) (imsis : List (List ℕ))
    (subscribers : List SubscriberState) → such is_version octet_at octets ≡ Some (version, r1)
    → count_at r1 ≡ Some (lines, r2) → count_at r2 ≡ Some (moment, r3)
    → such is_pool (number_at w32) r3 ≡ Some (count, r4)
    → subscribers_at moment 0 count r4 ≡ Some (all_saved imsis subscribers, r5) → length imsis ≡ length subscribers
    → are_new [] imsis ≡ true → nat_eq (length r5) 0 ≡ false → file_at octets ≡ None
rest_fails octets r1 r2 r3 r4 r5 version lines moment count imsis subscribers e1 e2 e3 e4 e5 long new left =
    let file : FileState = record { lines = lines; moment = moment; subscribers = all_saved imsis subscribers } in
    file_parts octets r1 r2 r3 r4 r5 version lines moment count imsis subscribers e1 e2 e3 e4 e5 long
    ∙ ap (λ b. cond b (whole (file, r5)) None) new ∙ ap (λ b. cond b (Some file) None) left

-- where none are, and its book is that of the IMSIs
pub file_found : (octets r1 r2 r3 r4 r5 : List ℕ) (version lines moment count : ℕ) (imsis book : List (List ℕ))
    (subscribers : List SubscriberState) → such is_version octet_at octets ≡ Some (version, r1)
    → count_at r1 ≡ Some (lines, r2) → count_at r2 ≡ Some (moment, r3)
    → such is_pool (number_at w32) r3 ≡ Some (count, r4)
    → subscribers_at moment 0 count r4 ≡ Some (all_saved imsis subscribers, r5) → length imsis ≡ length subscribers
    → are_new [] imsis ≡ true → book ≡ imsis → nat_eq (length r5) 0 ≡ true
    → file_at octets ≡ Some (record { lines = lines; moment = moment; subscribers = all_saved book subscribers })
file_found octets r1 r2 r3 r4 r5 version lines moment count imsis book subscribers e1 e2 e3 e4 e5 long new is left =
    let file : FileState = record { lines = lines; moment = moment; subscribers = all_saved imsis subscribers } in
    file_parts octets r1 r2 r3 r4 r5 version lines moment count imsis subscribers e1 e2 e3 e4 e5 long
    ∙ ap (λ b. cond b (whole (file, r5)) None) new ∙ ap (λ b. cond b (Some file) None) left
    ∙ ap (λ (b : List (List ℕ)).
    let found : FileState = record { lines = lines; moment = moment; subscribers = all_saved b subscribers } in
    Some found) (sym is)

-- the file that is made of it keeps what a file keeps
pub file_kept : (octets : List ℕ) (lines moment : ℕ) (book : List (List ℕ)) (subscribers : List SubscriberState)
    → AreOctets octets
    → file_at octets ≡ Some (record { lines = lines; moment = moment; subscribers = all_saved book subscribers })
    → IsFile (record { lines = lines; moment = moment; subscribers = all_saved book subscribers })
file_kept octets lines moment book subscribers small e =
    (file_taken octets (record { lines = lines; moment = moment; subscribers = all_saved book subscribers }) small e).1

-- ---- what is read, and what isn't

pub only_file : (octets : List ℕ) (read file : FileState) → file_at octets ≡ Some read → IsFile file → octets ≡ state
    file
    → ◌≡◌ {A = Option FileState} (Some read) (Some file)
only_file octets read file e kept is = sym e ∙ ap file_at is ∙ file_again file kept

pub no_file : (octets : List ℕ) → file_at octets ≡ None → (file : FileState) → IsFile file → octets ≡ state file → ⊥
no_file octets e file kept is = none-some file (sym e ∙ ap file_at is ∙ file_again file kept)
