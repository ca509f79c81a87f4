-- What every past keeps at one version: of what was forwarded, what is held, and the book.
use Rattle.std.proofs.Common.{◌≡◌, ℕ, ◌+◌, ◌≤◌, ◌==◌, ◌&&◌, Bool, true, false, if◌then◌else◌, nat_le, List, [], ◌∷◌, ◌++◌, fold, length, Option, Some, None, refl, sym, ap, subst, inl, inr, arith}
use Rattle.std.specs.Option.{option_and_then}
use Rattle.pc_base.specs.declared.effect.Effect.{Effect}
use Rattle.pc_base.specs.declared.packet.Packet.{Packet}
use Rattle.pc_base.specs.declared.packet.Peer.{Peer}
use Rattle.pc_base.specs.declared.packet.Verdict.{Verdict}
use Rattle.pc_base.specs.declared.packet.Verdict.TheVariants as verdict
use Rattle.pc_base.specs.declared.packet.Way.{Way}
use Rattle.pc_base.specs.declared.packet.Way.TheVariants.{Up, Down}
use Rattle.pc_base.specs.declared.effect.Fate.TheVariants as fate
use Rattle.pc_base.specs.Addresses.{addr_of}
use Rattle.ipv4_packet.specs.Fields.{source_of}
use Rattle.tft_match.specs.Chosen.{chosen}
use Rattle.bearer_state.specs.declared.version.ActiveBearer.{ActiveBearer}
use Rattle.bearer_state.specs.Version.{bearer_at}
use Rattle.charging_book.specs.Happenings.{forwarded, lives_of, IsLawful}
use Rattle.packet_steps.specs.Rows.{ForwardedRow, HeldRow}
use Rattle.packet_steps.specs.Messages.{gpdu}
use Rattle.packet_steps.specs.Past.{Past, row_for, happening_for, with_row, with_held}
use Rattle.packet_steps.specs.Policing.{passes}
use Rattle.packet_steps.specs.Verdicts.{tried, judged_up, judged_to, judged_down, bearer_for, judged_by_way, is_packet, at_moment, judged, notice}
use Rattle.packet_steps.specs.Change.{bearer_of, fated, released_to, released_by, released}
use Rattle.gate_model.proofs.Members.{In, in_append, in_map, of_find, AreDistinct}
use Rattle.gate_model.proofs.BookSteps.{life_in, active_lives, AreOpen, lawful_all, lives-all}
use Rattle.gate_model.proofs.PolicedRows.{ArePolicedNow, policed_goes_on}

-- What a past keeps where a row is forwarded that passes, where a packet is held, and where a moment comes. `old` says
-- what is known of the lives of packets that are held.
pub record Keeps (P : Past → Type 0) (old : ℕ → Type 0) : Type 0 where
  pub row : (past : Past) (b : ActiveBearer) (way : Bool) (octets : ℕ) → P past → In b past.version.bearers
      → passes past b way octets ≡ true
      → P (with_row past (row_for past b way octets))
  pub waiting : (past : Past) (row : HeldRow) → P past → old row.life → P (with_held past row)
  pub moment : (past : Past) (at : ℕ) → P past → P (at_moment past at)
  pub active : (past : Past) (b : ActiveBearer) → P past → In b past.version.bearers → old b.life

abbrev pub either : {X : Type 0} → Bool → Past × X → Past × X → Past × X
either fits x y = if fits then x else y

-- the verdicts
tried_if : (P : Past → Type 0) (old : ℕ → Type 0) (keeps : Keeps P old) (past : Past) (b : ActiveBearer)
    (way : Bool) (octets : ℕ) (forwarded_as : Verdict) → P past → In b past.version.bearers
    → (fits : Bool) → passes past b way octets ≡ fits
    → P (either fits (with_row past (row_for past b way octets), forwarded_as) (past, verdict.Policed b.life)).0
tried_if P old keeps past b way octets forwarded_as is there true fits = keeps.row past b way octets is there fits
tried_if P old keeps past b way octets forwarded_as is there false fits = is

tried_kept : (P : Past → Type 0) (old : ℕ → Type 0) (keeps : Keeps P old) (past : Past) (b : ActiveBearer)
    (way : Bool) (octets : ℕ) (forwarded_as : Verdict) → P past → In b past.version.bearers
    → P (tried past b way octets forwarded_as).0
tried_kept P old keeps past b way octets forwarded_as is there =
    tried_if P old keeps past b way octets forwarded_as is there (passes past b way octets) refl

up_if : (P : Past → Type 0) (old : ℕ → Type 0) (keeps : Keeps P old) (past : Past) (octets : List ℕ)
    (b : ActiveBearer) → P past → In b past.version.bearers → (own : Bool)
    → P (either own (tried past b true (length octets) (verdict.Up b.life octets)) (past, verdict.Spoof)).0
up_if P old keeps past octets b is there true =
    tried_kept P old keeps past b true (length octets) (verdict.Up b.life octets) is there
up_if P old keeps past octets b is there false = is

up_kept : (P : Past → Type 0) (old : ℕ → Type 0) (keeps : Keeps P old) (past : Past) (octets : List ℕ)
    (found : Option ActiveBearer) → P past
    → ((b : ActiveBearer) → found ≡ Some b → In b past.version.bearers) → P (judged_up past octets found).0
up_kept P old keeps past octets None is among = is
up_kept P old keeps past octets (Some b) is among =
    up_if P old keeps past octets b is (among b refl) (source_of octets == addr_of past.version.slot)

waiting_if : (P : Past → Type 0) (old : ℕ → Type 0) (keeps : Keeps P old) (past : Past) (packet : Packet)
    (b : ActiveBearer) (message : Option (List ℕ)) → P past → In b past.version.bearers → (full : Bool)
    → P (either full (past, verdict.Idle b.life) (
      with_held past (record { packet = packet; life = b.life }),
      verdict.Held b.life message,
    )).0
waiting_if P old keeps past packet b message is there true = is
waiting_if P old keeps past packet b message is there false =
    keeps.waiting past (record { packet = packet; life = b.life }) is (keeps.active past b is there)

to_kept : (P : Past → Type 0) (old : ℕ → Type 0) (keeps : Keeps P old) (past : Past) (packet : Packet)
    (b : ActiveBearer) (enb : Option Peer) → P past → In b past.version.bearers
    → P (judged_to past packet b enb).0
to_kept P old keeps past packet b None is there =
    waiting_if P old keeps past packet b (notice past packet.number b.ebi) is there (nat_le 16 (length past.held))
to_kept P old keeps past packet b (Some peer) is there =
    tried_kept P old keeps past b false (length packet.octets)
    (verdict.Down b.life peer.addr (gpdu peer packet.octets)) is there

down_kept : (P : Past → Type 0) (old : ℕ → Type 0) (keeps : Keeps P old) (past : Past) (packet : Packet)
    (found : Option ActiveBearer) → P past
    → ((b : ActiveBearer) → found ≡ Some b → In b past.version.bearers) → P (judged_down past packet found).0
down_kept P old keeps past packet None is among = is
down_kept P old keeps past packet (Some b) is among = to_kept P old keeps past packet b b.enb is (among b refl)

pub found_at : (bearers : List ActiveBearer) (index : ℕ) (b : ActiveBearer) → bearer_at bearers index ≡ Some b
    → In b bearers
found_at bearers index b is = (of_find (λ (c : ActiveBearer). c.index == index) b bearers is).0

pub found_chosen : (bearers : List ActiveBearer) (index : Option ℕ) (b : ActiveBearer)
    → option_and_then (bearer_at bearers) index ≡ Some b → In b bearers
found_chosen bearers None b is = absurd (cc)
found_chosen bearers (Some index) b is = found_at bearers index b is

way_kept : (P : Past → Type 0) (old : ℕ → Type 0) (keeps : Keeps P old) (past : Past) (packet : Packet) (way : Way)
    → P past → P (judged_by_way past packet way).0
way_kept P old keeps past packet (Up index) is = up_kept P old keeps past packet.octets
    (bearer_at past.version.bearers index) is (found_at past.version.bearers index)
way_kept P old keeps past packet Down is =
    down_kept P old keeps past packet (bearer_for past.version packet.octets) is
    (found_chosen past.version.bearers (chosen past.version.rows packet.octets))

now_if : (P : Past → Type 0) (old : ℕ → Type 0) (keeps : Keeps P old) (past : Past) (packet : Packet) → P past
    → (may : Bool)
    → P (either may (judged_by_way past packet packet.way) (past, verdict.NoBearer)).0
now_if P old keeps past packet is true = way_kept P old keeps past packet packet.way is
now_if P old keeps past packet is false = is

pub judged_kept : (P : Past → Type 0) (old : ℕ → Type 0) (keeps : Keeps P old) (past : Past) (packet : Packet)
    → P past → P (judged past packet).0
judged_kept P old keeps past packet is =
    now_if P old keeps (at_moment past packet.moment) packet (keeps.moment past packet.moment is)
    (past.version.live && is_packet packet.octets)

-- the held packets, one after another
released_if : (P : Past → Type 0) (old : ℕ → Type 0) (keeps : Keeps P old) (so_far : Past
    × List Effect) (row : HeldRow) (b : ActiveBearer) (peer : Peer) → P so_far.0
    → In b so_far.0.version.bearers → (fits : Bool) → passes so_far.0 b false (length row.packet.octets) ≡ fits
    → P (either fits
    (fated (with_row so_far.0 (row_for so_far.0 b false (length row.packet.octets)), so_far.1) row
    (fate.Down row.life peer.addr (gpdu peer row.packet.octets)))
    (fated so_far row (fate.Policed row.life))).0
released_if P old keeps so_far row b peer is there true fits =
    keeps.row so_far.0 b false (length row.packet.octets) is there fits
released_if P old keeps so_far row b peer is there false fits = is

released_to_kept : (P : Past → Type 0) (old : ℕ → Type 0) (keeps : Keeps P old) (so_far : Past
    × List Effect) (row : HeldRow) (b : ActiveBearer) (enb : Option Peer) → P so_far.0 → old row.life
    → In b so_far.0.version.bearers → P (released_to so_far row b enb).0
released_to_kept P old keeps so_far row b None is old_life there = keeps.waiting so_far.0 row is old_life
released_to_kept P old keeps so_far row b (Some peer) is old_life there =
    released_if P old keeps so_far row b peer is there (passes so_far.0 b false (length row.packet.octets)) refl

released_by_kept : (P : Past → Type 0) (old : ℕ → Type 0) (keeps : Keeps P old) (so_far : Past
    × List Effect) (row : HeldRow) (found : Option ActiveBearer) → P so_far.0 → old row.life
    → ((b : ActiveBearer) → found ≡ Some b → In b so_far.0.version.bearers) → P (released_by so_far row found).0
released_by_kept P old keeps so_far row None is old_life among = is
released_by_kept P old keeps so_far row (Some b) is old_life among =
    released_to_kept P old keeps so_far row b b.enb is old_life (among b refl)

pub found_life : (bearers : List ActiveBearer) (life : ℕ) (b : ActiveBearer) → bearer_of bearers life ≡ Some b
    → In b bearers × ((b.life == life) ≡ true)
found_life bearers life b is = of_find (λ (c : ActiveBearer). c.life == life) b bearers is

pub all_released : (P : Past → Type 0) (old : ℕ → Type 0) (keeps : Keeps P old) (so_far : Past
    × List Effect) (rows : List HeldRow) → P so_far.0 → ((row : HeldRow) → In row rows → old row.life)
    → P (fold released so_far rows).0
all_released P old keeps so_far [] is olds = is
all_released P old keeps so_far (row ∷ rows) is olds =
    all_released P old keeps (released so_far row) rows
    (released_by_kept P old keeps so_far row (bearer_of so_far.0.version.bearers row.life) is (olds row (inl refl))
    (λ b found. (found_life so_far.0.version.bearers row.life b found).0))
    (λ r there. olds r (inr there))

-- `old` says of a life that it was active, and is over or still is
pub record IsPast (old : ℕ → Type 0) (past : Past) : Type 0 where
  pub apart : AreDistinct (active_lives past.version.bearers)
  pub actives : (b : ActiveBearer) → In b past.version.bearers → old b.life
  pub rows : (row : ForwardedRow) → In row past.forwarded → old row.life
  pub rates : (row : ForwardedRow) → In row past.forwarded → row.rates ≤ past.version.rates
  pub waiting : (row : HeldRow) → In row past.held → old row.life
  pub lawful : IsLawful past.charged
  pub opened : AreOpen (lives_of past.charged) past.version.bearers
  pub policed : ArePolicedNow past.version past.forwarded

-- one row more
pub row_kept : (old : ℕ → Type 0) (past : Past) (b : ActiveBearer) (way : Bool) (octets : ℕ) → IsPast old past
    → In b past.version.bearers
    → passes past b way octets ≡ true → IsPast old (with_row past (row_for past b way octets))
row_kept old past b way octets is there passed =
    let row : ForwardedRow = row_for past b way octets in
    let open_now : In b.life (lives_of past.charged) =
    is.opened.opened b.life (in_map life_in b past.version.bearers there) in
    let same_lives : lives_of (past.charged ++ happening_for row ∷ []) ≡ lives_of past.charged =
    lives-all past.charged (happening_for row ∷ []) in
    record {
      apart = is.apart;
      actives = is.actives;
      rows = λ r in_rows. elim (in_append r past.forwarded (row ∷ []) in_rows) [
        | inl before ↦ is.rows r before
        | inr now ↦ elim now [
          | inl here ↦ subst (λ (q : ForwardedRow). old q.life) here
              (is.actives b there)
          | inr none ↦ absurd none
        ]
      ];
      rates = λ r in_rows. elim (in_append r past.forwarded (row ∷ []) in_rows) [
        | inl before ↦ is.rates r before
        | inr now ↦ elim now [
          | inl here ↦ let same_rates : past.version.rates ≡ r.rates =
              ap (λ (q : ForwardedRow). q.rates) here in omega arith
          | inr none ↦ absurd none
        ]
      ];
      waiting = is.waiting;
      lawful = lawful_all past.charged (happening_for row ∷ []) is.lawful (open_now, tt);
      opened = subst (λ lives. AreOpen lives past.version.bearers) (sym same_lives) is.opened;
      policed = policed_goes_on past b way octets is.apart there passed is.policed;
    }

-- one packet more that is held
pub waiting_kept : (old : ℕ → Type 0) (past : Past) (row : HeldRow) → IsPast old past → old row.life
    → IsPast old (with_held past row)
waiting_kept old past row is old_life = record {
  apart = is.apart;
  actives = is.actives;
  rows = is.rows;
  rates = is.rates;
  waiting = λ r in_held. elim (in_append r past.held (row ∷ []) in_held) [
    | inl before ↦ is.waiting r before
    | inr now ↦ elim now [ inl here ↦ subst (λ (q : HeldRow). old q.life) here old_life | inr none ↦ absurd none ]
  ];
  lawful = is.lawful;
  opened = is.opened;
  policed = is.policed;
}

-- another moment
moment_kept : (old : ℕ → Type 0) (past : Past) (at : ℕ) → IsPast old past → IsPast old (at_moment past at)
moment_kept old past at is = record {
  apart = is.apart;
  actives = is.actives;
  rows = is.rows;
  rates = is.rates;
  waiting = is.waiting;
  lawful = is.lawful;
  opened = is.opened;
  policed = is.policed;
}

pub past_keeps : (old : ℕ → Type 0) → Keeps (IsPast old) old
past_keeps old = record {
  row = λ past b way octets is there passed. row_kept old past b way octets is there passed;
  waiting = λ past row is old_life. waiting_kept old past row is old_life;
  moment = λ past at is. moment_kept old past at is;
  active = λ past b is there. is.actives b there;
}
