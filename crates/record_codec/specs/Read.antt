-- Reading a state file from left to right, as the private readers do: a value and the octets behind it, or nothing.
use Rattle.std.specs.Prelude.{◌≡◌, ℕ, zero, suc, ◌+◌, ◌/◌, ◌%◌, ◌^◌, ◌==◌, ◌&&◌, nat_lt, nat_le, not, Bool, true}
use Rattle.std.specs.Prelude.{false, if◌then◌else◌, List, [], ◌∷◌, length, take, drop, map, sum_by, slice_index}
use Rattle.std.specs.Prelude.{Option, Some, None, is_none, unwrap_or, Result, Ok, Err, ◌++◌}
use Rattle.std.specs.Option.{option_and_then}
use Rattle.std.specs.List.{list_all}
use Rattle.std.specs.Char.{is_ascii_digit}
use Rattle.std.specs.Int.{Width, w16, w32, w64, byte_len, from_be_bytes}
use Rattle.pc_base.specs.declared.packet.Peer.{Peer}
use Rattle.pc_base.specs.declared.packet.Way.TheVariants.{Down}
use Rattle.rate_policer.specs.Buckets.{BucketState}
use Rattle.rate_policer.specs.Conforming.{burst}
use Rattle.tft_codec.specs.declared.filter.Filter.{Filter}
use Rattle.tft_codec.specs.declared.tft.Tft.{Tft}
use Rattle.tft_codec.specs.declared.tft.Tft.TheVariants.{Create, Delete, Add, Replace, Remove, Nothing}
use Rattle.tft_codec.specs.Reading.{tft_at}
use Rattle.tft_codec.specs.Refusal.{first_fault}
use Rattle.charging_book.specs.declared.records.Piece.{Piece}
use Rattle.charging_book.specs.Parts.{is_counting}
use Rattle.bearer_state.specs.declared.bearer.Phase.{Phase}
use Rattle.bearer_state.specs.declared.bearer.Phase.TheVariants.{Asked, Active}
use Rattle.bearer_state.specs.declared.bearer.Bearer.{Bearer}
use Rattle.bearer_state.specs.declared.kept.Kept.{Kept}
use Rattle.bearer_state.specs.declared.qos.Qos.{Qos}
use Rattle.bearer_state.specs.declared.version.ActiveBearer.{ActiveBearer}
use Rattle.bearer_state.specs.Bearer.{index_of}
use Rattle.bearer_state.specs.Qos.{is_guaranteed}
use Rattle.bearer_state.specs.Session.{SessionState}
use Rattle.bearer_state.specs.Version.{version_of, actives}
use Rattle.packet_steps.specs.Rows.{HeldRow}
use Rattle.packet_steps.specs.Parts.{PartsState, fit}
use Rattle.address_book.specs.Book.{slot_in}
use Rattle.record_codec.specs.declared.fault.Fault.{Fault}
use Rattle.record_codec.specs.declared.fault.Fault.TheVariants as fault
use Rattle.record_codec.specs.Saved.{SavedSubscriber, FileState, imsi_of}

-- what a reader makes of octets
abbrev pub Reader : Type 0 → Type 0
Reader X = List ℕ → Option (X × List ℕ)

-- one reader behind another, which knows what the first one read · nothing more is read
unfoldable pub and_then : {A B : Type 0} → Reader A → (A → Reader B) → Reader B
and_then first next octets = option_and_then (λ a. next a.0 a.1) (first octets)

infixl 10 ◌>>=◌
abbrev pub ◌>>=◌ : {A B : Type 0} → Reader A → (A → Reader B) → Reader B
first >>= next = and_then first next

abbrev pub done : {X : Type 0} → X → Reader X
done x octets = Some (x, octets)

-- what was read, where it passes a test
abbrev pub tested : {X : Type 0} → (X → Bool) → X × List ℕ → Option (X × List ℕ)
tested test found = if test found.0 then Some found else None

unfoldable pub such : {X : Type 0} → (X → Bool) → Reader X → Reader X
such test reader octets = option_and_then (tested test) (reader octets)

-- what a function answered, seen by view, and the octets that it left, are what reading gives, unless memory ran out
abbrev pub Fails : {Y : Type 0} → Fault → Option Y → Type 0
Fails fault.NoMemory read = Unit {0}
Fails fault.NotState read = read ≡ None

abbrev pub Reads : {X Y : Type 0} → (X → Y) → Result X Fault → Option (Y × List ℕ) → List ℕ → Type 0
Reads view (Ok x) read rest = read ≡ Some (view x, rest)
Reads view (Err e) read rest = Fails e read

-- the same of all octets
abbrev pub Gives : {X : Type 0} → Result X Fault → Option X → Type 0
Gives (Ok x) read = read ≡ Some x
Gives (Err e) read = Fails e read

-- what a function put behind others
abbrev pub Pushes : {X U : Type 0} → (old new : List X) → Result U Fault → Option (X × List ℕ) → List ℕ → Type 0
Pushes {X} old new (Ok done) read rest = (x : X) × (read ≡ Some (x, rest)) × (new ≡ old ++ x ∷ [])
Pushes old new (Err e) read rest = Fails e read

-- a function makes this value, exactly where a test holds, unless memory ran out
abbrev pub FailsAt : Fault → Bool → Type 0
FailsAt fault.NoMemory holds = Unit {0}
FailsAt fault.NotState holds = holds ≡ false

abbrev pub Makes : {X : Type 0} → Result X Fault → Bool → X → Type 0
Makes (Ok x) holds value = (holds ≡ true) × (x ≡ value)
Makes (Err e) holds value = FailsAt e holds

-- an octet · a number of some width · so many octets
abbrev pub octet_at : Reader ℕ
octet_at [] = None
octet_at (octet ∷ rest) = Some (octet, rest)

abbrev pub number_at : Width → Reader ℕ
number_at w octets =
    if nat_lt (length octets) (byte_len w) then None
    else Some (from_be_bytes w (take (byte_len w) octets), drop (byte_len w) octets)

abbrev pub octets_at : ℕ → Reader (List ℕ)
octets_at n octets = if nat_lt (length octets) n then None else Some (take n octets, drop n octets)

-- octets behind their length
unfoldable pub measured_at : Reader ℕ → Reader (List ℕ)
measured_at length_at = do
  n ← length_at
  octets_at n

-- counts, rates and slices in their ranges
abbrev pub is_count : ℕ → Bool
is_count n = nat_lt n (2 ^ 50)

abbrev pub count_at : Reader ℕ
count_at = such is_count (number_at w64)

abbrev pub is_rate : ℕ → Bool
is_rate n = nat_lt n (2 ^ 40)

abbrev pub rate_at : Reader ℕ
rate_at = such is_rate (number_at w64)

abbrev pub is_slice : ℕ → Bool
is_slice n = nat_le n 63

-- 0 or 1, and behind a 1 a value
unfoldable pub flag_at : Reader Bool
flag_at [] = None
flag_at (zero ∷ rest) = Some (false, rest)
flag_at (suc zero ∷ rest) = Some (true, rest)
flag_at (suc (suc octet) ∷ rest) = None

abbrev pub made_some : {X : Type 0} → X → Reader (Option X)
made_some x = done (Some x)

abbrev pub option_behind : {X : Type 0} → Reader X → Bool → Reader (Option X)
option_behind reader false = done None
option_behind reader true = and_then reader made_some

unfoldable pub option_at : {X : Type 0} → Reader X → Reader (Option X)
option_at reader = and_then flag_at (option_behind reader)

-- so many values, one behind another · a value for each of a list · values behind their number
abbrev pub times : {X : Type 0} → ℕ → Reader X → Reader (List X)
times zero reader octets = Some ([], octets)
times (suc n) reader octets = and_then reader (λ x. and_then (times n reader) (λ xs. done (x ∷ xs))) octets

abbrev pub each_at : {B X : Type 0} → (B → Reader X) → List B → Reader (List X)
each_at reader [] octets = Some ([], octets)
each_at reader (b ∷ bs) octets =
    and_then (reader b) (λ x. and_then (each_at reader bs) (λ xs. done (x ∷ xs))) octets

abbrev pub times_of : {X : Type 0} → Reader X → ℕ → Reader (List X)
times_of reader n = times n reader

unfoldable pub listed_at : {X : Type 0} → Reader X → Reader (List X)
listed_at reader = and_then octet_at (times_of reader)

unfoldable pub peer_at : Reader Peer
peer_at = do
  teid ← number_at w32
  addr ← number_at w32
  done (record { teid = teid; addr = addr })

-- an answer that is kept: of a sequence number of three octets, and not empty
abbrev pub is_kept : Kept → Bool
is_kept kept = nat_lt kept.seq (2 ^ 24) && nat_lt 0 (length kept.reply)

unfoldable pub kept_at : Reader Kept
kept_at = such is_kept (do
  kind ← octet_at
  seq ← number_at w32
  reply ← measured_at (number_at w32)
  done (record { kind = kind; seq = seq; reply = reply }))

abbrev pub phase_behind : Bool → Reader Phase
phase_behind false = and_then (number_at w32) (λ seq. done (Asked seq))
phase_behind true = and_then octet_at (λ ebi. done (Active ebi))

unfoldable pub phase_at : Reader Phase
phase_at = and_then flag_at phase_behind

-- the filter of a template that creates it alone, with its spare bits 0
abbrev pub no_filter : Filter
no_filter = record { id = 0; direction = 0; precedence = 0; components = [] }

abbrev pub first_of : List Filter → Filter
first_of [] = no_filter
first_of (filter ∷ filters) = filter

abbrev pub filter_of : Tft → Filter
filter_of (Create filters) = first_of filters
filter_of Delete = no_filter
filter_of (Add filters) = no_filter
filter_of (Replace filters) = no_filter
filter_of (Remove ids) = no_filter
filter_of Nothing = no_filter

-- the answer is the filter of a template that creates some, unless memory ran out
abbrev pub creates_some : Tft → Bool
creates_some (Create filters) = not (length filters == 0)
creates_some Delete = false
creates_some (Add filters) = false
creates_some (Replace filters) = false
creates_some (Remove ids) = false
creates_some Nothing = false

abbrev pub Creates : Result Filter Fault → Tft → Type 0
Creates answer tft = Makes answer (creates_some tft) (filter_of tft)

-- the first octet of a template that creates one filter
abbrev pub create_one : ℕ
create_one = 33

abbrev pub begins_one : List ℕ → Bool
begins_one octets = slice_index octets 0 == create_one && nat_lt (slice_index octets 1) 64

abbrev pub is_filter : List ℕ → Bool
is_filter octets = begins_one octets && is_none (first_fault octets)

abbrev pub filter_in : List ℕ → Reader Filter
filter_in octets = done (filter_of (tft_at octets))

unfoldable pub filter_at : Reader Filter
filter_at = and_then (such is_filter (measured_at (number_at w16))) filter_in

-- no two filters have one identifier
abbrev pub differ : List ℕ → Bool
differ [] = true
differ (x ∷ xs) = list_all (λ y. not (x == y)) xs && differ xs

abbrev pub filters_differ : List Filter → Bool
filters_differ filters = differ (map (λ (filter : Filter). filter.id) filters)

abbrev pub filters_at : Reader (List Filter)
filters_at = such filters_differ (listed_at filter_at)

unfoldable pub qos_at : Reader Qos
qos_at = do
  arp ← octet_at
  qci ← octet_at
  mbr_up ← rate_at
  mbr_down ← rate_at
  gbr_up ← rate_at
  gbr_down ← rate_at
  done (record { arp = arp; qci = qci; mbr_up = mbr_up; mbr_down = mbr_down; gbr_up = gbr_up; gbr_down = gbr_down })

unfoldable pub bearer_at : Reader Bearer
bearer_at = do
  index ← octet_at
  life ← number_at w64
  phase ← phase_at
  qos ← qos_at
  enb ← option_at peer_at
  filters ← filters_at
  done (record {
    life = life;
    phase = phase;
    qos = qos;
    enb = enb;
    choice = record { index = index; filters = filters };
  })

-- the ranges of bearers, as a test
abbrev pub is_arp : ℕ → Bool
is_arp arp = nat_lt arp 128 && arp / 2 % 2 == 0

abbrev pub is_phase : Phase → Bool
is_phase (Asked seq) = nat_lt seq (2 ^ 24)
is_phase (Active ebi) = nat_le 5 ebi && nat_le ebi 15

abbrev pub is_qos : Qos → Bool
is_qos qos =
    is_arp qos.arp
    && (nat_lt qos.qci (2 ^ 8)
    && (is_rate qos.mbr_up && (is_rate qos.mbr_down && (is_rate qos.gbr_up && is_rate qos.gbr_down))))

abbrev pub is_bearer : Bearer → Bool
is_bearer bearer = nat_le (index_of bearer) 10 && (is_phase bearer.phase && is_qos bearer.qos)

abbrev pub ebis_differ : Phase → Phase → Bool
ebis_differ (Active ebi) (Active other) = not (ebi == other)
ebis_differ (Active ebi) (Asked seq) = true
ebis_differ (Asked seq) other = true

abbrev pub is_before : Bearer → Bearer → Bool
is_before bearer other =
    nat_lt (index_of bearer) (index_of other)
    && (not (bearer.life == other.life) && ebis_differ bearer.phase other.phase)

abbrev pub each_pair : {X : Type 0} → (X → X → Bool) → List X → Bool
each_pair test [] = true
each_pair test (x ∷ xs) = list_all (test x) xs && each_pair test xs

abbrev pub are_bearers : List Bearer → Bool
are_bearers bearers = list_all is_bearer bearers && each_pair is_before bearers

abbrev pub bearers_at : Reader (List Bearer)
bearers_at = such are_bearers (listed_at bearer_at)

-- the ranges between the fields of a session, as a test
abbrev pub is_active_phase : Phase → Bool
is_active_phase (Asked seq) = false
is_active_phase (Active ebi) = true

abbrev pub begins_with_default : List Bearer → Bool
begins_with_default [] = false
begins_with_default (bearer ∷ bearers) = index_of bearer == 0 && is_active_phase bearer.phase

abbrev pub has_bearers_of : Bool → List Bearer → Bool
has_bearers_of true bearers = begins_with_default bearers
has_bearers_of false bearers = length bearers == 0

abbrev pub lives_below : ℕ → List Bearer → Bool
lives_below lives bearers = list_all (λ (bearer : Bearer). nat_lt bearer.life lives) bearers

abbrev pub is_session : SessionState → Bool
is_session session =
    nat_lt session.up (2 ^ 32)
    && (nat_lt session.down (2 ^ 32)
    && (lives_below session.lives session.bearers && has_bearers_of session.live session.bearers))

unfoldable pub session_at : ℕ → Reader SessionState
session_at slot = such is_session (do
  live ← flag_at
  mme ← option_at peer_at
  up ← rate_at
  down ← rate_at
  rates ← count_at
  lives ← count_at
  last ← option_at kept_at
  bearers ← bearers_at
  done (record {
    slot = slot;
    live = live;
    mme = mme;
    up = up;
    down = down;
    rates = rates;
    bearers = bearers;
    lives = lives;
    last = last;
  }))

abbrev pub is_bucket : BucketState → Bool
is_bucket bucket = nat_le bucket.level (burst bucket.rate)

unfoldable pub bucket_at : Reader BucketState
bucket_at = such is_bucket (do
  rate ← rate_at
  level ← number_at w64
  last ← count_at
  done (record { rate = rate; level = level; last = last }))

unfoldable pub piece_at : ActiveBearer → Reader Piece
piece_at bearer = such is_counting (do
  seq ← count_at
  up_octets ← number_at w64
  down_octets ← number_at w64
  up_packets ← count_at
  down_packets ← count_at
  first ← option_at count_at
  last ← option_at count_at
  done (record {
    counts = record {
      life = bearer.life;
      ebi = bearer.ebi;
      qci = bearer.qos.qci;
      seq = seq;
      up_octets = up_octets;
      down_octets = down_octets;
      up_packets = up_packets;
      down_packets = down_packets;
    };
    first = first;
    last = last;
  }))

abbrev pub is_held : ℕ → HeldRow → Bool
is_held packets row = nat_lt row.packet.number packets && nat_lt (length row.packet.octets) (2 ^ 16)

unfoldable pub held_at : ℕ → Reader HeldRow
held_at packets = such (is_held packets) (do
  number ← number_at w64
  moment ← count_at
  life ← number_at w64
  octets ← measured_at (number_at w32)
  done (record {
    packet = record { number = number; moment = moment; way = Down; octets = octets };
    life = life;
  }))

-- how many buckets there are: two, and two for each active bearer with a guaranteed rate
abbrev pub own_needed : ActiveBearer → ℕ
own_needed bearer = if is_guaranteed bearer.qos.qci then 2 else 0

abbrev pub bucket_count : List ActiveBearer → ℕ
bucket_count bearers = 2 + sum_by own_needed bearers

abbrev pub is_past : ℕ → Option ℕ → Bool
is_past moment last = nat_le (unwrap_or last 0) moment

unfoldable pub counters_at : (packets moment : ℕ) → List ActiveBearer → Reader PartsState
counters_at packets moment bearers = do
  last ← such (is_past moment) (option_at count_at)
  buckets ← times (bucket_count bearers) bucket_at
  pieces ← each_at piece_at bearers
  held ← listed_at (held_at packets)
  done (record { last = last; buckets = buckets; pieces = pieces; held = held })

-- 6 to 15 digits
abbrev pub is_imsi : List ℕ → Bool
is_imsi digits = nat_le 6 (length digits) && (nat_le (length digits) 15 && list_all is_ascii_digit digits)

abbrev pub imsi_at : Reader (List ℕ)
imsi_at = such is_imsi (measured_at octet_at)

-- the counters of a subscriber fit its version
abbrev pub counters_fit : SavedSubscriber → Bool
counters_fit one = fit (version_of one.session one.commands) one.counters

unfoldable pub subscriber_at : (moment slot : ℕ) → Reader SavedSubscriber
subscriber_at moment slot = such counters_fit (do
  imsi ← imsi_at
  session ← session_at slot
  commands ← count_at
  packets ← count_at
  destination ← such is_slice octet_at
  counters ← counters_at packets moment (actives session.bearers)
  done (record {
    imsi = imsi;
    session = session;
    commands = commands;
    packets = packets;
    destination = destination;
    counters = counters;
  }))

-- so many subscribers, from this slot on
abbrev pub subscribers_at : (moment slot : ℕ) → ℕ → Reader (List SavedSubscriber)
subscribers_at moment slot zero octets = Some ([], octets)
subscribers_at moment slot (suc n) octets =
    and_then (subscriber_at moment slot)
    (λ one. and_then (subscribers_at moment (slot + 1) n) (λ others. done (one ∷ others))) octets

-- each IMSI is a new one to a book, behind those before it
abbrev pub are_new : List (List ℕ) → List (List ℕ) → Bool
are_new book [] = true
are_new book (imsi ∷ imsis) = is_none (slot_in book imsi) && are_new (book ++ imsi ∷ []) imsis

abbrev pub imsis_differ : List SavedSubscriber → Bool
imsis_differ subscribers = are_new [] (map imsi_of subscribers)

abbrev pub is_version : ℕ → Bool
is_version octet = octet == 1

abbrev pub is_pool : ℕ → Bool
is_pool count = nat_le count 65533

unfoldable pub fields_at : Reader FileState
fields_at = do
  version ← such is_version octet_at
  lines ← count_at
  moment ← count_at
  count ← such is_pool (number_at w32)
  subscribers ← such imsis_differ (subscribers_at moment 0 count)
  done (record { lines = lines; moment = moment; subscribers = subscribers })

-- all of the octets
abbrev pub whole : FileState × List ℕ → Option FileState
whole found = if length found.1 == 0 then Some found.0 else None

unfoldable pub file_at : List ℕ → Option FileState
file_at octets = option_and_then whole (fields_at octets)
