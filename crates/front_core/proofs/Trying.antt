-- Tries one behind the other.
use Rattle.std.proofs.Common.{◌≡◌, ℕ, zero, suc, ◌+◌, ◌<◌, ◌≤◌, inl, inr, Bool, true, false, true≢false, is_some, List, length, map, replicate, refl, sym, ap, subst, ◌∙◌, add-one, arith}
use Rattle.std.specs.Prelude.{Option, Some}
use Rattle.control_steps.specs.declared.command.CommandKind.{CommandKind}
use Rattle.pc_base.specs.declared.packet.Packet.{Packet}
use Rattle.lane_core.specs.Ends.{raised}
use Rattle.worker_core.specs.Workers.{Lanes}
use Rattle.split_record.specs.declared.front.FrontEnd.{FrontEnd}
use Rattle.front_core.specs.Kept.{Load}
use Rattle.front_core.specs.declared.lot.Lot.{Lot}
use Rattle.front_core.specs.declared.lot.Lot.TheVariants.{Split}
use Rattle.front_core.specs.declared.halves.Halves.{Halves}
use Rattle.front_core.specs.Lots.{EndSettles, LotSettles}
use Rattle.front_core.specs.Steps.{AreLanes, Commanded, CommandsFull, IsSamePacket, MayGive, PacketsFull, Pumps, Received, Settles}
use Rattle.front_core.specs.Tries.{CountsTries, GivesCommand, GivesPacket, RisesBy, TriedOften, TriesPacket, lane_fulls, packets_refused, raised_by}
use Rattle.front_core.specs.declared.tried.Given.TheVariants as given
use Rattle.front_core.specs.declared.tried.Tried.TheVariants as tried
use Rattle.front_core.proofs.Settling.{settles_none, settles_then}
use Rattle.front_core.specs.Views.{view_at, lane_rooms}

-- a count of answers that was raised by one
pub rises_one : (old new : ℕ) → new ≡ raised old → RisesBy 1 old new
rises_one old new is = is

pub raised_then : (n m count : ℕ) → raised_by m (raised_by n count) ≡ raised_by (n + m) count
raised_then n zero count = ap (λ k. raised_by k count) (let e : n ≡ n + 0 = omega arith in e)
raised_then n (suc m) count =
    ap raised (raised_then n m count)
    ∙ ap (λ k. raised_by k count) (let e : suc (n + m) ≡ n + suc m = omega arith in e)

pub rises_then : (n m first mid last : ℕ) → RisesBy n first mid → RisesBy m mid last → RisesBy (n + m) first last
rises_then n m first mid last some more = more ∙ ap (raised_by m) some ∙ raised_then n m first

pub was_parked : (old new : Bool) → (old ≡ false → new ≡ false) → new ≡ true → old ≡ true
was_parked true new rests is = refl
was_parked false new rests is = absurd (true≢false (sym is ∙ rests refl))

pub lanes_then : (old mid : Halves) (lane : ℕ) → Settles old mid → AreLanes lane old → AreLanes lane mid
lanes_then old mid lane settles are =
    let same : lane_rooms mid ≡ lane_rooms old = ap (map (λ (l : Lanes). l.0.room)) settles.sides.data_lanes in
    same ∙ are ∙ ap (λ (rooms : List ℕ). replicate (length rooms) lane) (sym same)

pub full_then : (old mid new : Halves) (slot : ℕ) → Settles old mid → PacketsFull slot mid new
    → PacketsFull slot old new
full_then old mid new slot settles full = λ lane are.
    elim (full lane (lanes_then old mid lane settles are)) [
      | inl lanes ↦ inl lanes
      | inr queue ↦
          let view = settles.views slot in
          let count = ap length view.accepted in
          let queues = settles.sides.queues in
          let most = queue.1 in
          inr (
            was_parked (view_at old slot).parks (view_at mid slot).parks view.parks queue.0,
            omega (arith, count, queues, most),
          )
    ]

-- a packet that came back is the packet but for its number
renumbered : (cur packet : Packet) (n : ℕ) → IsSamePacket cur packet
    → ◌≡◌ {A = Packet} (record cur { number = n }) (record packet { number = n })
renumbered cur packet n same = ap (λ (p : Packet). record p { number = n }) same

pub received_as : (slot line : ℕ) (cur packet : Packet) (parked : Bool) (old new : Halves)
    → IsSamePacket cur packet → Received slot line cur parked old new
    → Received slot line packet parked old new
received_as slot line cur packet parked old new same received = record {
  others = received.others;
  sides = received.sides;
  lots = received.lots;
  end = received.end;
  after = received.after;
  item = received.item;
  was = received.was;
  is = received.is;
  control = received.control;
  data_half = received.data_half;
  moved = received.moved;
  accepts = received.accepts;
  made = record {
    slot = received.made.slot;
    number = received.made.number;
    floor = received.made.floor;
    line_is = received.made.line_is;
    packet_is = received.made.packet_is ∙ renumbered cur packet received.end.packets same;
  };
  stands = received.stands;
  accepted = received.accepted;
  parked_is = received.parked_is;
  parks = received.parks;
  load_accepted = received.load_accepted;
  load_admitted = received.load_admitted;
  load_asked = received.load_asked;
  asked = received.asked;
}

pub give_then : (old mid : Halves) (slot : ℕ) → Settles old mid → MayGive slot old → MayGive slot mid
give_then old mid slot settles may =
    let view = settles.views slot in
    let goes : LotSettles (Some (Split may.end)) (view_at mid slot).lot =
    subst (λ (l : Option Lot). LotSettles l (view_at mid slot).lot) may.lot view.lot in
    let after : FrontEnd = goes.0 in
    let is : EndSettles may.end after = goes.2 in
    let sent = ap length is.commands.0 in
    let sent_few = may.sent_few in
    let packets = is.packets in
    let packets_few = may.packets_few in
    let started = ap (λ s. s.value.packets) is.same.started in
    let asked = ap (λ (l : Load). l.asked) settles.load in
    let few = may.asked in
    record {
      end = after;
      lot = goes.1;
      own = is.same.slot ∙ may.own;
      sent_few = omega (arith, sent, sent_few);
      packets_few = omega (arith, packets, packets_few, started);
      admitted = ap is_some view.data_half ∙ may.admitted;
      asked = omega (arith, asked, few);
    }

-- so many tries of a command were refused
pub record CommandTried (slot : ℕ) (c now : CommandKind) (n : ℕ) (start halves : Halves) : Type 0 where
  pub settles : Settles start halves
  pub same : now ≡ c
  pub may : MayGive slot halves
  pub later : start.fulls ≤ halves.fulls
  pub rises : RisesBy n start.fulls halves.fulls
  pub met : RisesBy n (lane_fulls slot start) (lane_fulls slot halves)

pub none_tried : (slot : ℕ) (c : CommandKind) (start : Halves) → MayGive slot start → CommandTried slot c c 0 start start
none_tried slot c start may = record {
  settles = settles_none start;
  same = refl;
  may = may;
  later = omega arith;
  rises = refl;
  met = refl;
}

module _ (slot : ℕ) (c now : CommandKind) (n : ℕ) (start mid : Halves) (tried : CommandTried slot c now n start mid) where
  pub command_later : (new : Halves) → mid.fulls ≤ new.fulls → start.fulls ≤ new.fulls
  command_later new later = let before = tried.later in omega (arith, before, later)

  pub command_tried : (back : CommandKind) (new : Halves) → back ≡ now → Settles mid new
      → mid.fulls ≤ new.fulls → RisesBy 1 mid.fulls new.fulls → RisesBy 1 (lane_fulls slot mid) (lane_fulls slot new)
      → CommandTried slot c back (n + 1) start new
  command_tried back new same settles later rises met = record {
    settles = settles_then start mid new tried.settles settles;
    same = same ∙ tried.same;
    may = give_then mid new slot settles tried.may;
    later = command_later new later;
    rises = rises_then n 1 start.fulls mid.fulls new.fulls tried.rises rises;
    met = rises_then n 1 (lane_fulls slot start) (lane_fulls slot mid) (lane_fulls slot new) tried.met met;
  }

  pub command_given : (line tries : ℕ) (new : Halves) → Commanded slot line now mid new
      → GivesCommand slot line c tries (given.Accepted false) start new
  command_given line tries new does = (
    mid,
    tried.settles,
    subst (λ (k : CommandKind). Commanded slot line k mid new) tried.same does,
    refl,
  )

  pub command_counted : (tries : ℕ) (new : Halves) → new.fulls ≡ mid.fulls → n < tries
      → CountsTries tries (given.Accepted false) start.fulls new.fulls
  command_counted tries new kept few = (n, few, kept ∙ tried.rises)

  pub command_full : (line tries : ℕ) (new : Halves) → Settles mid new → CommandsFull slot new
      → RisesBy 1 mid.fulls new.fulls → RisesBy 1 (lane_fulls slot mid) (lane_fulls slot new) → n + 1 ≡ tries
      → GivesCommand slot line c tries given.Full start new
  command_full line tries new settles full rises met same = (
    settles_then start mid new tried.settles settles,
    full,
    subst (λ (k : ℕ). RisesBy k start.fulls new.fulls) same
        (rises_then n 1 start.fulls mid.fulls new.fulls tried.rises rises),
    subst (λ (k : ℕ). RisesBy k (lane_fulls slot start) (lane_fulls slot new)) same
        (rises_then n 1 (lane_fulls slot start) (lane_fulls slot mid) (lane_fulls slot new) tried.met met),
  )

-- so many tries of a packet were refused
pub record PacketTried (slot : ℕ) (packet now : Packet) (n : ℕ) (start halves : Halves) : Type 0 where
  pub settles : Settles start halves
  pub same : IsSamePacket now packet
  pub may : MayGive slot halves
  pub later : start.fulls ≤ halves.fulls
  pub rises : RisesBy n start.fulls halves.fulls
  pub met : RisesBy n (packets_refused start) (packets_refused halves)
  pub often : TriedOften slot n start halves

pub no_packet_tried : (slot : ℕ) (packet : Packet) (start : Halves) → MayGive slot start
    → PacketTried slot packet packet 0 start start
no_packet_tried slot packet start may = record {
  settles = settles_none start;
  same = refl;
  may = may;
  later = omega arith;
  rises = refl;
  met = refl;
  often = refl;
}

often_more : (slot n : ℕ) (start before refused new : Halves) → TriedOften slot n start before
    → Settles before refused → PacketsFull slot before refused → Pumps refused new → TriedOften slot (n + 1) start new
often_more slot n start before refused new often settles full pumps =
    subst (λ (k : ℕ). TriedOften slot k start new) (sym (add-one n)) (before, refused, often, settles, full, pumps)

module _ (slot : ℕ) (packet now : Packet) (n : ℕ) (start mid : Halves)
    (was : PacketTried slot packet now n start mid) where
  pub packet_later : (new : Halves) → mid.fulls ≤ new.fulls → start.fulls ≤ new.fulls
  packet_later new later = let before = was.later in omega (arith, before, later)

  -- and both sides were pumped
  pub packet_tried : (line : ℕ) (back : Packet) (next new : Halves)
      → TriesPacket slot line now (tried.Full back) mid next → mid.fulls ≤ next.fulls → Pumps next new
      → new.fulls ≡ next.fulls
      → packets_refused new ≡ packets_refused next → PacketTried slot packet back (n + 1) start new
  packet_tried line back next new tries later pump fulls refused =
      let settles = settles_then mid next new tries.0 pump.settles in
      record {
        settles = settles_then start mid new was.settles settles;
        same = tries.1 ∙ was.same;
        may = give_then mid new slot settles was.may;
        later = subst (λ (n : ℕ). start.fulls ≤ n) (sym fulls) (packet_later next later);
        rises = subst (RisesBy (n + 1) start.fulls) (sym fulls)
            (rises_then n 1 start.fulls mid.fulls next.fulls was.rises tries.3);
        met = subst (RisesBy (n + 1) (packets_refused start)) (sym refused)
            (rises_then n 1 (packets_refused start) (packets_refused mid) (packets_refused next) was.met tries.4);
        often = often_more slot n start mid next new was.often tries.0 tries.2 pump;
      }

  pub packet_given : (line tries : ℕ) (parked : Bool) (new : Halves)
      → TriesPacket slot line now (tried.Accepted parked) mid new → n < tries
      → GivesPacket slot line packet tries (given.Accepted parked) start new
  packet_given line tries parked new does fewer =
      (mid, was.settles, received_as slot line now packet parked mid new was.same does, n, fewer, was.often)

  pub packet_counted : (tries : ℕ) (parked : Bool) (new : Halves) → new.fulls ≡ mid.fulls → n < tries
      → CountsTries tries (given.Accepted parked) start.fulls new.fulls
  packet_counted tries parked new kept few = (n, few, kept ∙ was.rises)

  pub packet_full : (line tries : ℕ) (back : Packet) (new : Halves)
      → TriesPacket slot line now (tried.Full back) mid new → n + 1 ≡ tries
      → GivesPacket slot line packet tries given.Full start new
  packet_full line tries back new does same = (
    settles_then start mid new was.settles does.0,
    full_then start mid new slot was.settles does.2,
    subst (λ (k : ℕ). RisesBy k start.fulls new.fulls) same
        (rises_then n 1 start.fulls mid.fulls new.fulls was.rises does.3),
    subst (λ (k : ℕ). RisesBy k (packets_refused start) (packets_refused new)) same
        (rises_then n 1 (packets_refused start) (packets_refused mid) (packets_refused new) was.met does.4),
    n,
    mid,
    same,
    was.often,
    does.0,
    does.2,
  )
