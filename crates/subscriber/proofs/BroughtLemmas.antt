-- A new version brings the same to counters that are alike, and leaves them alike.
use Rattle.std.proofs.Common.{◌≡◌, ℕ, ◌==◌, Bool, true, false, List, [], ◌∷◌, ◌++◌, length, fold, filter, unwrap_or, Option, Some, None, refl, sym, ap, ◌∙◌, subst}
use Rattle.std.specs.List.{Contains}
use Rattle.pc_base.specs.declared.effect.Effect.{Effect}
use Rattle.pc_base.specs.declared.effect.Effect.TheVariants as effect
use Rattle.pc_base.specs.declared.effect.Fate.{Fate}
use Rattle.pc_base.specs.declared.effect.Fate.TheVariants as fate
use Rattle.pc_base.specs.declared.packet.Peer.{Peer}
use Rattle.rate_policer.specs.Buckets.{BucketState}
use Rattle.charging_book.specs.declared.records.Piece.{Piece}
use Rattle.charging_book.specs.Happenings.{Happening}
use Rattle.charging_book.specs.Posted.{GoesFar, AllMayBePosted}
use Rattle.bearer_state.specs.declared.version.ActiveBearer.{ActiveBearer}
use Rattle.bearer_state.specs.Version.{VersionState, IsVersion}
use Rattle.packet_steps.specs.Rows.{HeldRow}
use Rattle.packet_steps.specs.Messages.{gpdu}
use Rattle.packet_steps.specs.Change.{bearer_of, waits, marks, markers}
use Rattle.packet_steps.specs.Meters.{MetersState, learnt_meters}
use Rattle.packet_steps.specs.Standing.{CountersState}
use Rattle.packet_steps.specs.Running.{left_for, charge_of, Brought, with_fate, brought_through, brought_to, brought_at, brought_with, brought, Advances}
use Rattle.packet_steps.proofs.BearerLemmas.{find_found}
use Rattle.subscriber.specs.Alike.{AreMetersAlike, AreAlike, KeepPlaces, AreChargedAlike, VersionsAreAlike}
use Rattle.subscriber.proofs.PieceLemmas.{pieces_stay_alike}
use Rattle.subscriber.proofs.MeterLemmas.{left_alike, put_alike, learnt_alike}

record BringAlike (after : VersionState) (x y : Brought) : Type 0 where
  meters : AreMetersAlike after.bearers x.meters y.meters
  charged : x.charged ≡ y.charged
  effects : x.effects ≡ y.effects

fate_alike : (after : VersionState) (x y : Brought) (row : HeldRow) (fate_ : Fate) → BringAlike after x y
    → BringAlike after (with_fate x row fate_) (with_fate y row fate_)
fate_alike after x y row fate_ alike = record {
  meters = alike.meters;
  charged = alike.charged;
  effects = ap (λ (es : List Effect). es ++ effect.Fate row.packet.number fate_ ∷ []) alike.effects;
}

through_alike : (after : VersionState) (x y : Brought) (row : HeldRow) (b : ActiveBearer) (peer : Peer) (at : ℕ)
    (left : Bool × BucketState) → IsVersion after → Contains after.bearers b → BringAlike after x y
    → BringAlike after (brought_through x row b peer at left) (brought_through y row b peer at left)
through_alike after x y row b peer at (false, bucket) ranges there alike = record {
  meters = put_alike after x.meters y.meters b false bucket ranges alike.meters there;
  charged = alike.charged;
  effects = ap (λ (es : List Effect). es ++ effect.Fate row.packet.number (fate.Policed row.life) ∷ []) alike.effects;
}
through_alike after x y row b peer at (true, bucket) ranges there alike = record {
  meters = put_alike after x.meters y.meters b false bucket ranges alike.meters there;
  charged = ap (λ (hs : List Happening). hs ++ charge_of b false (length row.packet.octets) at ∷ []) alike.charged;
  effects = ap (λ (es : List Effect). es
      ++ effect.Fate row.packet.number (fate.Down row.life peer.addr (gpdu peer row.packet.octets)) ∷ []) alike.effects;
}

to_alike : (after : VersionState) (x y : Brought) (row : HeldRow) (b : ActiveBearer) (at : ℕ) (enb : Option Peer)
    → IsVersion after → Contains after.bearers b → BringAlike after x y
    → BringAlike after (brought_to x row b at enb) (brought_to y row b at enb)
to_alike after x y row b at None ranges there alike = alike
to_alike after x y row b at (Some peer) ranges there alike =
    let octets = length row.packet.octets in
    subst (λ left. BringAlike after (brought_through x row b peer at (left_for x.meters b false octets at))
    (brought_through y row b peer at left))
    (left_alike after.bearers x.meters y.meters b false octets at alike.meters there)
    (through_alike after x y row b peer at (left_for x.meters b false octets at) ranges there alike)

at_alike : (after : VersionState) (x y : Brought) (row : HeldRow) (at : ℕ) (found : Option ActiveBearer)
    → IsVersion after → ((b : ActiveBearer) → found ≡ Some b → Contains after.bearers b) → BringAlike after x y
    → BringAlike after (brought_at at x row found) (brought_at at y row found)
at_alike after x y row at None ranges among alike = fate_alike after x y row (fate.Gone row.life) alike
at_alike after x y row at (Some b) ranges among alike =
    to_alike after x y row b at b.enb ranges (among b refl) alike

all_alike : (after : VersionState) (x y : Brought) (rows : List HeldRow) (at : ℕ) → IsVersion after
    → BringAlike after x y
    → BringAlike after (fold (brought_with after.bearers at) x rows) (fold (brought_with after.bearers at) y rows)
all_alike after x y [] at ranges alike = alike
all_alike after x y (row ∷ rows) at ranges alike =
    all_alike after (brought_with after.bearers at x row) (brought_with after.bearers at y row) rows at ranges
    (at_alike after x y row at (bearer_of after.bearers row.life) ranges
    (λ b found. (find_found (λ (c : ActiveBearer). c.life == row.life) after.bearers b found).0) alike)

abbrev start : VersionState → VersionState → CountersState → Brought
start before after counters = record {
  meters = learnt_meters before after counters.meters;
  charged = marks before after;
  effects = markers before after;
}

brought_alike : (before after : VersionState) (old other : CountersState) (pieces others : List Piece)
    → AreAlike before old other pieces others → KeepPlaces before after → IsVersion after
    → BringAlike after (brought before after old) (brought before after other)
brought_alike before after old other pieces others alike keep ranges =
    let step = brought_with after.bearers in
    let y = start before after other in
    let same : fold (step (unwrap_or old.last 0)) y old.held ≡ brought before after other =
    ap (λ (last : Option ℕ). fold (step (unwrap_or last 0)) y old.held) alike.last
    ∙ ap (fold (step (unwrap_or other.last 0)) y) alike.held in
    subst (BringAlike after (brought before after old)) same
    (all_alike after (start before after old) y old.held (unwrap_or old.last 0) ranges (record {
      meters = learnt_alike before after old.meters other.meters alike.meters keep ranges;
      charged = refl;
      effects = refl;
    }))

effects_alike : (before after : VersionState) (old other : CountersState) (pieces others : List Piece)
    → AreAlike before old other pieces others → KeepPlaces before after → IsVersion after
    → (brought before after old).effects ≡ (brought before after other).effects
effects_alike before after old other pieces others alike keep ranges =
    (brought_alike before after old other pieces others alike keep ranges).effects

advance_alike : (before after : VersionState) (old other new next : CountersState) (pieces others : List Piece)
    → AreAlike before old other pieces others → KeepPlaces before after → IsVersion after
    → AllMayBePosted pieces (brought before after old).charged
    → Advances before after old new → Advances before after other next
    → AreChargedAlike after old other new next pieces others (brought before after old).charged
advance_alike before after old other new next pieces others alike keep ranges may goes also =
    let bring = brought_alike before after old other pieces others alike keep ranges in
    let happened = (brought before after old).charged in
    let stay = pieces_stay_alike pieces others happened alike.pieces_alike may in
    let book : GoesFar other.book next.book happened = subst (GoesFar other.book next.book) (sym bring.charged) also.book in
    record {
      alike = record {
        meters = subst (λ (m : MetersState). AreMetersAlike after.bearers m next.meters) (sym goes.meters)
            (subst (λ (n : MetersState). AreMetersAlike after.bearers (brought before after old).meters n) (sym also.meters)
            bring.meters);
        pieces_are = goes.book.pieces pieces alike.pieces_are may;
        others_are = book.pieces others alike.others_are stay.may;
        pieces_alike = stay.alike;
        held = goes.held ∙ ap (filter (λ (row : HeldRow). waits after.bearers row.life)) alike.held ∙ sym also.held;
        last = goes.last ∙ alike.last ∙ sym also.last;
      };
      rows = goes.book.rows pieces alike.pieces_are may;
      others_rows = book.rows others alike.others_are stay.may ∙ ap (λ rows. other.book.rows ++ rows) (sym stay.rows);
    }

pub versions_are_alike : VersionsAreAlike
versions_are_alike = record { effects = effects_alike; advances = advance_alike }
