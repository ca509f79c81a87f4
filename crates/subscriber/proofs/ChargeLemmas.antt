-- Pieces that active bearers have may be charged what packets and versions charge.
use Rattle.std.proofs.Common.{◌≡◌, ◌≢◌, ℕ, ◌+◌, ◌-◌, ◌^◌, ◌≤◌, ◌↔◌, ◌==◌, nat_lt, not, Bool, true, false, cond, List, [], ◌∷◌, ◌++◌, length, map, filter, fold, All, IsTrue, unwrap_or, Option, Some, None, refl, sym, ap, ◌∙◌, subst, append_assoc, arith}
use Rattle.std.specs.List.{Contains, AllByRecursion}
use Rattle.std.proofs.lemmas.List.{append-nil, map_push}
use Rattle.std.proofs.lemmas.List.Elements.{All-from_recursion}
use Rattle.pc_base.specs.declared.packet.Peer.{Peer}
use Rattle.rate_policer.specs.Buckets.{BucketState}
use Rattle.charging_book.specs.declared.records.Piece.{Piece}
use Rattle.charging_book.specs.declared.records.Why.TheVariants.{Volume, Qos, Gone}
use Rattle.charging_book.specs.Rows.{Counters}
use Rattle.charging_book.specs.Pieces.{Forwarded, open_of}
use Rattle.charging_book.specs.Counters.{HasRoom, no_moments}
use Rattle.charging_book.specs.Accounts.{IsBounded}
use Rattle.charging_book.specs.Happenings.{Happening, started, forwarded, closed, lives_step, lives_of, MayHappen, AllMay}
use Rattle.charging_book.specs.Parts.{piece_of, counts_in, book_with}
use Rattle.charging_book.specs.Postings.{IsInRange, MayGoOn, MayBePosted}
use Rattle.charging_book.specs.Posted.{fill, next_behind, counts_with, moments_with, with_one, is_of, pieces_behind, pieces_after, AllMayBePosted}
use Rattle.charging_book.proofs.Steps.{lives-push, may_from-push}
use Rattle.bearer_state.specs.declared.version.ActiveBearer.{ActiveBearer}
use Rattle.bearer_state.specs.Version.{VersionState}
use Rattle.packet_steps.specs.declared.plan.Plan.{Plan}
use Rattle.packet_steps.specs.declared.plan.Plan.TheVariants as plan
use Rattle.packet_steps.specs.Rows.{HeldRow}
use Rattle.packet_steps.specs.Change.{has_life, bearer_of, marks, markers}
use Rattle.packet_steps.specs.Meters.{learnt_meters}
use Rattle.packet_steps.specs.Running.{left_for, charge_of, charged_by, planned, Brought, brought_through, brought_to, brought_at, brought_with, brought}
use Rattle.packet_steps.proofs.BearerLemmas.{find_found}
use Rattle.packet_steps.proofs.StandingLemmas.{has_it}
use Rattle.packet_steps.proofs.LawfulMarks.{Going, marks_going}
use Rattle.subscriber.specs.Alike.{life_of}
use Rattle.subscriber.specs.Charging.{AreOpen, AreWithin, MayBeCharged, PacketsMayBeCharged, VersionsMayBeCharged}
use Rattle.subscriber.proofs.PieceLemmas.{lives, left_out, lives_mapped, lives_are, goes, goes_keeps, one_keeps}
use Rattle.subscriber.proofs.PlanLemmas.{IsOfBearer, plan_of}

-- the lives behind a happening
lives_left : (life : ℕ) (pieces : List Piece)
    → lives (filter (left_out life) pieces) ≡ filter (λ other. not (other == life)) (lives pieces)
lives_left life [] = refl
lives_left life (p ∷ ps) =
    let rest = lives_left life ps in
    elim (is_of life p) as (λ t. lives (cond (not t) (p ∷ filter (left_out life) ps) (filter (left_out life) ps))
    ≡ cond (not t) (p.counts.life ∷ filter (λ other. not (other == life)) (lives ps))
    (filter (λ other. not (other == life)) (lives ps))) [
      | true ↦ rest
      | false ↦ ap (λ ls. p.counts.life ∷ ls) rest
    ]

lives_behind : (pieces : List Piece) (now : Happening) → lives (pieces_behind pieces now) ≡ lives_step (lives pieces) now
lives_behind pieces (started life ebi qci) = map_push life_of pieces (piece_of (open_of life ebi qci 0 []) no_moments)
lives_behind pieces (forwarded life p) =
    lives_mapped (goes life (with_one p)) (goes_keeps life (with_one p) (one_keeps p)) pieces
lives_behind pieces (closed life Volume) =
    lives_mapped (goes life (λ piece. next_behind piece.counts))
    (goes_keeps life (λ piece. next_behind piece.counts) (λ p. refl)) pieces
lives_behind pieces (closed life Qos) =
    lives_mapped (goes life (λ piece. next_behind piece.counts))
    (goes_keeps life (λ piece. next_behind piece.counts) (λ p. refl)) pieces
lives_behind pieces (closed life Gone) = lives_left life pieces

-- counts behind a happening
more_bounded : (most : ℕ) (counts : Counters) → IsBounded most counts → IsBounded (most + 1) counts
more_bounded most counts known = record {
  rows = omega (arith, known.rows);
  up = omega (arith, known.up);
  down = omega (arith, known.down);
}

next_bounded : (most : ℕ) (counts : Counters) → IsBounded most counts → IsBounded (most + 1) (next_behind counts).counts
next_bounded most counts known = record { rows = omega (arith, known.rows); up = omega arith; down = omega arith }

with_bounded : (most : ℕ) (p : Forwarded) (piece : Piece) → IsBounded most piece.counts
    → IsBounded (most + 1) (counts_with p piece)
with_bounded most p piece known = record {
  rows = omega (arith, known.rows);
  up = packets p.up;
  down = others p.up;
}
  where
    packets : (up : Bool) → cond up (piece.counts.up_packets + 1) piece.counts.up_packets ≤ most + 1
    packets true = omega (arith, known.up)
    packets false = omega (arith, known.up)

    others : (up : Bool) → cond up piece.counts.down_packets (piece.counts.down_packets + 1) ≤ most + 1
    others true = omega (arith, known.down)
    others false = omega (arith, known.down)

one_bounded : (most : ℕ) (p : Forwarded) (piece : Piece) → IsBounded most piece.counts
    → IsBounded (most + 1) (with_one p piece).counts
one_bounded most p piece known =
    let counted = with_bounded most p piece known in
    let next : IsBounded (most + 1) (next_behind (counts_with p piece)).counts =
    record { rows = omega (arith, known.rows); up = omega arith; down = omega arith } in
    elim (fill (counts_with p piece)) as (λ t. IsBounded (most + 1)
    (cond t (next_behind (counts_with p piece)) (piece_of (counts_with p piece) (moments_with p piece))).counts) [
      | true ↦ next
      | false ↦ counted
    ]

goes_bounded : (most life : ℕ) (f : Piece → Piece)
    → ((p : Piece) → IsBounded most p.counts → IsBounded (most + 1) (f p).counts) → (p : Piece)
    → IsBounded most p.counts → IsBounded (most + 1) (goes life f p).counts
goes_bounded most life f rise p known =
    let changed = rise p known in
    let same = more_bounded most p.counts known in
    elim (is_of life p) as (λ t. IsBounded (most + 1) (cond t (f p) p).counts) [ true ↦ changed | false ↦ same ]

within_mapped : (most : ℕ) (f : Piece → Piece)
    → ((p : Piece) → IsBounded most p.counts → IsBounded (most + 1) (f p).counts) → (pieces : List Piece)
    → AreWithin most pieces → AreWithin (most + 1) (map f pieces)
within_mapped most f rise [] within = tt
within_mapped most f rise (p ∷ ps) within = (rise p within.0, within_mapped most f rise ps within.1)

within_pushed : (most : ℕ) (pieces : List Piece) (new : Piece) → IsBounded (most + 1) new.counts
    → AreWithin most pieces → AreWithin (most + 1) (pieces ++ new ∷ [])
within_pushed most [] new is within = (is, tt)
within_pushed most (p ∷ ps) new is within =
    (more_bounded most p.counts within.0, within_pushed most ps new is within.1)

within_left : (most life : ℕ) (pieces : List Piece) → AreWithin most pieces
    → AreWithin (most + 1) (filter (left_out life) pieces)
within_left most life [] within = tt
within_left most life (p ∷ ps) within =
    let first = more_bounded most p.counts within.0 in
    let rest = within_left most life ps within.1 in
    elim (left_out life p) as
    (λ t. AreWithin (most + 1) (cond t (p ∷ filter (left_out life) ps) (filter (left_out life) ps))) [
      | true ↦ (first, rest)
      | false ↦ rest
    ]

within_behind : (most : ℕ) (pieces : List Piece) (now : Happening) → AreWithin most pieces
    → AreWithin (most + 1) (pieces_behind pieces now)
within_behind most pieces (started life ebi qci) within =
    within_pushed most pieces (piece_of (open_of life ebi qci 0 []) no_moments)
    (record { rows = omega arith; up = omega arith; down = omega arith }) within
within_behind most pieces (forwarded life p) within =
    within_mapped most (goes life (with_one p)) (goes_bounded most life (with_one p) (one_bounded most p)) pieces within
within_behind most pieces (closed life Volume) within =
    within_mapped most (goes life (λ piece. next_behind piece.counts))
    (goes_bounded most life (λ piece. next_behind piece.counts) (λ p. next_bounded most p.counts)) pieces within
within_behind most pieces (closed life Qos) within =
    within_mapped most (goes life (λ piece. next_behind piece.counts))
    (goes_bounded most life (λ piece. next_behind piece.counts) (λ p. next_bounded most p.counts)) pieces within
within_behind most pieces (closed life Gone) within = within_left most life pieces within

-- what may happen where these lives are open may be posted to their pieces
all_with_room : (most life : ℕ) (pieces : List Piece) → AreWithin most pieces → most ≤ 2 ^ 61 - 20
    → AllByRecursion (λ (c : Counters). c.life ≡ life → HasRoom c) (map counts_in pieces)
all_with_room most life [] within few = tt
all_with_room most life (p ∷ ps) within few = (
  λ same. record {
    rows = omega (arith, few, within.0.rows);
    up = omega (arith, few, within.0.up);
    down = omega (arith, few, within.0.down);
  },
  all_with_room most life ps within.1 few,
)

may_go_on : (before : List Happening) (pieces : List Piece) (most life : ℕ) → lives_of before ≡ lives pieces
    → Contains (lives_of before) life → AreWithin most pieces → most ≤ 2 ^ 61 - 20 → MayGoOn (book_with pieces) life
may_go_on before pieces most life same there within few = record {
  is_open = subst (λ ls. Contains ls life) (same ∙ sym (lives_are pieces)) there;
  room = All-from_recursion (λ (c : Counters). c.life ≡ life → HasRoom c) (map counts_in pieces)
      (all_with_room most life pieces within few);
}

may_post : (before : List Happening) (pieces : List Piece) (most : ℕ) (now : Happening)
    → lives_of before ≡ lives pieces → MayHappen before now → IsInRange now → AreWithin most pieces
    → most ≤ 2 ^ 61 - 20 → MayBePosted (book_with pieces) now
may_post before pieces most (started life ebi qci) same may range within few = record {
  in_range = range;
  fresh = subst (λ ls. All (λ other. other ≢ life) ls) (same ∙ sym (lives_are pieces)) may;
}
may_post before pieces most (forwarded life p) same may range within few =
    may_go_on before pieces most life same may within few
may_post before pieces most (closed life why) same may range within few =
    may_go_on before pieces most life same may within few

record Posts (before : List Happening) (pieces : List Piece) (most : ℕ) (happened : List Happening) : Type 0 where
  may : AllMayBePosted pieces happened
  same : lives_of (before ++ happened) ≡ lives (pieces_after pieces happened)
  within : AreWithin (most + length happened) (pieces_after pieces happened)

all_post : (before : List Happening) (pieces : List Piece) (most : ℕ) (happened : List Happening)
    → lives_of before ≡ lives pieces → AllMay before happened → AllByRecursion IsInRange happened
    → AreWithin most pieces → most + length happened ≤ 2 ^ 61 - 20 → Posts before pieces most happened
all_post before pieces most [] same may range within few = record {
  may = tt;
  same = ap lives_of (append-nil before) ∙ same;
  within = subst (λ n. AreWithin n pieces) (omega arith) within;
}
all_post before pieces most (now ∷ later) same may range within few =
    let low : most ≤ 2 ^ 61 - 20 = omega (arith, few) in
    let next : lives_of (before ++ now ∷ []) ≡ lives (pieces_behind pieces now) =
    lives-push before now ∙ ap (λ ls. lives_step ls now) same ∙ sym (lives_behind pieces now) in
    let rest = all_post (before ++ now ∷ []) (pieces_behind pieces now) (most + 1) later next may.1 range.1
    (within_behind most pieces now within) (omega (arith, few)) in
    record {
      may = (may_post before pieces most now same may.0 range.0 within low, rest.may);
      same = ap lives_of (sym (append_assoc before (now ∷ []) later)) ∙ rest.same;
      within = subst (λ n. AreWithin n (pieces_after (pieces_behind pieces now) later)) (omega arith) rest.within;
    }

-- pieces as if each had just begun
abbrev begins : List Piece → List Happening
begins pieces = map (λ (p : Piece). started p.counts.life 0 0) pieces

lives_from : (ls : List ℕ) (pieces : List Piece) → fold lives_step ls (begins pieces) ≡ ls ++ lives pieces
lives_from ls [] = sym (append-nil ls)
lives_from ls (p ∷ ps) =
    lives_from (ls ++ p.counts.life ∷ []) ps ∙ append_assoc ls (p.counts.life ∷ []) (lives ps)

lives_begun : (pieces : List Piece) → lives_of (begins pieces) ≡ lives pieces
lives_begun pieces = lives_from [] pieces

opens_begun : (version : VersionState) (pieces : List Piece) → AreOpen version pieces → (life : ℕ)
    → Contains (lives_of (begins pieces)) life ↔ IsTrue (has_life version.bearers life)
opens_begun version pieces are life =
    subst (λ ls. Contains ls life ↔ IsTrue (has_life version.bearers life)) (sym (lives_begun pieces)) (are life)

charged : (version : VersionState) (pieces : List Piece) (most : ℕ) (happened : List Happening)
    → Going (begins pieces) happened (has_life version.bearers) → AreWithin most pieces
    → most + length happened ≤ 2 ^ 61 - 20 → MayBeCharged version most pieces happened
charged version pieces most happened going within few =
    let posts = all_post (begins pieces) pieces most happened (lives_begun pieces) going.lawful going.in_range within few in
    record {
      may = posts.may;
      open_then = λ life. subst (λ ls. Contains ls life ↔ IsTrue (has_life version.bearers life)) posts.same
          (going.opens life);
      within = posts.within;
    }

-- one packet of an active bearer more
going_more : (before hs : List Happening) (bearers : List ActiveBearer) (b : ActiveBearer) (up : Bool)
    (octets at : ℕ) → Contains bearers b → Going before hs (has_life bearers)
    → Going before (hs ++ charge_of b up octets at ∷ []) (has_life bearers)
going_more before hs bearers b up octets at there going =
    let now = charge_of b up octets at in
    record {
      lawful = may_from-push before hs now going.lawful ((going.opens b.life).1 (has_it bearers b there));
      in_range = each_push hs now going.in_range tt;
      opens = λ life. subst (λ ls. Contains ls life ↔ IsTrue (has_life bearers life))
          (sym (ap lives_of (sym (append_assoc before hs (now ∷ []))) ∙ lives-push (before ++ hs) now))
          (going.opens life);
    }
  where
    each_push : (xs : List Happening) (x : Happening) → AllByRecursion IsInRange xs → IsInRange x
        → AllByRecursion IsInRange (xs ++ x ∷ [])
    each_push [] x each here = (here, tt)
    each_push (y ∷ ys) x each here = (each.0, each_push ys x each.1 here)

going_none : (version : VersionState) (pieces : List Piece) → AreOpen version pieces
    → Going (begins pieces) [] (has_life version.bearers)
going_none version pieces are = record {
  lawful = tt;
  in_range = tt;
  opens = λ life. subst (λ (hs : List Happening). Contains (lives_of hs) life ↔ IsTrue (has_life version.bearers life))
      (sym (append-nil (begins pieces))) (opens_begun version pieces are life);
}

going_plan : (version : VersionState) (pieces : List Piece) (p : Plan) (at : ℕ) → AreOpen version pieces
    → IsOfBearer version p → Going (begins pieces) (charged_by p at) (has_life version.bearers)
going_plan version pieces plan.NoBearer at are of = going_none version pieces are
going_plan version pieces plan.Spoof at are of = going_none version pieces are
going_plan version pieces (plan.Idle life) at are of = going_none version pieces are
going_plan version pieces (plan.Hold life message) at are of = going_none version pieces are
going_plan version pieces (plan.Policed b up bucket) at are of = going_none version pieces are
going_plan version pieces (plan.Up b bucket len) at are of =
    going_more (begins pieces) [] version.bearers b true len at of (going_none version pieces are)
going_plan version pieces (plan.Down b peer bucket len) at are of =
    going_more (begins pieces) [] version.bearers b false len at of (going_none version pieces are)

one_at_most : (p : Plan) (at : ℕ) → length (charged_by p at) ≤ 1
one_at_most plan.NoBearer at = omega arith
one_at_most plan.Spoof at = omega arith
one_at_most (plan.Idle life) at = omega arith
one_at_most (plan.Hold life message) at = omega arith
one_at_most (plan.Policed b up bucket) at = omega arith
one_at_most (plan.Up b bucket len) at = omega arith
one_at_most (plan.Down b peer bucket len) at = omega arith

pub packets_charged : PacketsMayBeCharged
packets_charged version counters pieces most packet are within few =
    let p = planned version counters packet in
    charged version pieces most (charged_by p packet.moment)
    (going_plan version pieces p packet.moment are (plan_of version counters packet)) within
    (omega (arith, few, one_at_most p packet.moment))

-- what a version brings
going_through : (before : List Happening) (bearers : List ActiveBearer) (so_far : Brought) (row : HeldRow)
    (b : ActiveBearer) (peer : Peer) (at : ℕ) (left : Bool × BucketState) → Contains bearers b
    → Going before so_far.charged (has_life bearers)
    → Going before (brought_through so_far row b peer at left).charged (has_life bearers)
going_through before bearers so_far row b peer at (false, bucket) there going = going
going_through before bearers so_far row b peer at (true, bucket) there going =
    going_more before so_far.charged bearers b false (length row.packet.octets) at there going

going_to : (before : List Happening) (bearers : List ActiveBearer) (so_far : Brought) (row : HeldRow)
    (b : ActiveBearer) (at : ℕ) (enb : Option Peer) → Contains bearers b
    → Going before so_far.charged (has_life bearers)
    → Going before (brought_to so_far row b at enb).charged (has_life bearers)
going_to before bearers so_far row b at None there going = going
going_to before bearers so_far row b at (Some peer) there going =
    going_through before bearers so_far row b peer at
    (left_for so_far.meters b false (length row.packet.octets) at) there going

going_at : (before : List Happening) (bearers : List ActiveBearer) (so_far : Brought) (row : HeldRow) (at : ℕ)
    (found : Option ActiveBearer) → ((b : ActiveBearer) → found ≡ Some b → Contains bearers b)
    → Going before so_far.charged (has_life bearers)
    → Going before (brought_at at so_far row found).charged (has_life bearers)
going_at before bearers so_far row at None among going = going
going_at before bearers so_far row at (Some b) among going =
    going_to before bearers so_far row b at b.enb (among b refl) going

going_all : (before : List Happening) (bearers : List ActiveBearer) (so_far : Brought) (rows : List HeldRow) (at : ℕ)
    → Going before so_far.charged (has_life bearers)
    → Going before (fold (brought_with bearers at) so_far rows).charged (has_life bearers)
going_all before bearers so_far [] at going = going
going_all before bearers so_far (row ∷ rows) at going =
    going_all before bearers (brought_with bearers at so_far row) rows at
    (going_at before bearers so_far row at (bearer_of bearers row.life)
    (λ b found. (find_found (λ (c : ActiveBearer). c.life == row.life) bearers b found).0) going)

pub versions_charged : VersionsMayBeCharged
versions_charged before after counters pieces most before_ranges after_ranges are within few =
    let start : Brought = record {
      meters = learnt_meters before after counters.meters;
      charged = marks before after;
      effects = markers before after;
    } in
    charged after pieces most (brought before after counters).charged
    (going_all (begins pieces) after.bearers start counters.held (unwrap_or counters.last 0)
    (marks_going (nat_lt before.rates after.rates) before after (begins pieces) before_ranges after_ranges
    (opens_begun before pieces are))) within few
