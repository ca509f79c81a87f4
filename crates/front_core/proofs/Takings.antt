-- A line may be taken, and what it comes to.
use Rattle.std.proofs.Common.{◌≡◌, ℕ, ◌+◌, ◌*◌, ◌<◌, Bool, true, false, List, length, get_or, set, refl, sym, ap, ◌∙◌, subst, inl, inr, arith}
use Rattle.pc_base.specs.declared.packet.Packet.{Packet}
use Rattle.control_steps.specs.declared.command.CommandKind.{CommandKind}
use Rattle.demux.specs.Packets.{numbered}
use Rattle.demux.specs.Trace.{Meaning}
use Rattle.demux.specs.declared.packet.LentPacket.{LentPacket}
use Rattle.subscriber.specs.Standing.{SubscriberState}
use Rattle.at_rest.specs.Rest.{RestLeavesRoom}
use Rattle.front_core.specs.declared.halves.Halves.{Halves}
use Rattle.front_core.specs.declared.tried.Given.TheVariants as given
use Rattle.front_core.specs.Steps.{IsReady, MayAdmit, MayGive, Received}
use Rattle.front_core.specs.Tries.{GivesCommand, GivesPacket}
use Rattle.front_core.proofs.Settling.{settles_none}
use Rattle.front_core.specs.declared.taken.OpenEntry.TheVariants as entry
use Rattle.front_core.specs.Taking.{GrowsTo, MakesReady, MayTake, TakesCommand, TakesPacket}
use Rattle.front_core.proofs.Allowing.{may_admit, may_give}
use Rattle.front_core.proofs.Bridging.{prepared}
use Rattle.front_core.proofs.Fronts.{ready_goes}

module _ (now : Meaning) (subs : List SubscriberState) (halves : Halves) (may : MayTake now subs halves) where
  pub takes_admit : (slot : ℕ) (was : SubscriberState) → RestLeavesRoom → slot < length subs
      → was ≡ get_or subs slot was → MayAdmit slot was halves
  takes_admit slot was leaves_room low is =
      let few = may.few.0 in
      let most = may.few.1 in
      may_admit may.slices may.room may.lane (length subs) may.lines may.latest (2 * may.lines) halves may.keeps slot
      may.all subs was leaves_room (omega (arith, most)) may.roomy may.rest low is (omega (arith, few, most))

  -- the subscriber at this place
  pub admits_at : (slot at : ℕ) (was : SubscriberState) → at ≡ slot → RestLeavesRoom → slot < length subs
      → was ≡ get_or subs at was → MayAdmit slot (get_or subs at was) halves
  admits_at slot at was same leaves_room low found =
      subst (λ (s : SubscriberState). MayAdmit slot s halves) found
      (takes_admit slot was leaves_room low (found ∙ ap (λ (k : ℕ). get_or subs k was) same))

  pub makes : (slot at : ℕ) (was is : SubscriberState) (mid : Halves) → at ≡ slot → slot < length subs
      → was ≡ get_or subs at was → IsReady slot (get_or subs at was) is halves mid → GrowsTo slot halves mid
      → mid.fulls ≡ halves.fulls → MakesReady slot subs (set subs at is) halves mid
  makes slot at was is mid same low found ready lots fulls = record {
    low = low;
    was = was;
    is = is;
    found = found ∙ ap (λ (k : ℕ). get_or subs k was) same;
    changed = ap (λ (k : ℕ). set subs k is) same;
    ready = subst (λ (s : SubscriberState). IsReady slot s is halves mid) (sym found) ready;
    lots = lots;
    fulls = fulls;
  }

  pub takes_give : (slot : ℕ) (after : List SubscriberState) (mid : Halves) → MakesReady slot subs after halves mid
      → MayGive slot mid
  takes_give slot after mid makes =
      let few = may.few.0 in
      let most = may.few.1 in
      let goes = ready_goes may.slices may.room may.lane may.lines may.latest slot subs after halves mid may.keeps may.all
      may.rest makes in
      let prep = prepared slot halves halves mid mid makes.was makes.is (settles_none halves) makes.ready
      (settles_none mid) in
      may_give may.slices may.room may.lane (length subs) may.lines may.latest (2 * may.lines + 1) mid goes.keeps slot
      prep.end prep.lot (omega (arith, few, most)) (omega (arith, few, most))

-- what its slot's subscriber was given
module _ (slot line tries : ℕ) (subs after : List SubscriberState) (old mid new : Halves)
    (ready : MakesReady slot subs after old mid) where
  pub command_came : (c : CommandKind) (parked : Bool)
      → GivesCommand slot line c tries (given.Accepted parked) mid new
      → TakesCommand slot line tries c (entry.Command slot) subs after old new
  command_came c parked gives = record {
    mid = mid;
    ready = ready;
    came = inl (record { is = refl; mid = gives.0; settles = gives.1; sent = gives.2 });
  }

  pub command_refused : (c : CommandKind) → GivesCommand slot line c tries given.Full mid new
      → TakesCommand slot line tries c (entry.Full slot false) subs after old new
  command_refused c gives = record {
    mid = mid;
    ready = ready;
    came = inr (record { is = refl; settles = gives.0; full = gives.1; rises = gives.2; lane_rises = gives.3 });
  }

  pub packet_came : (p : LentPacket) (made : Packet) (parked : Bool) → made ≡ numbered 0 p
      → GivesPacket slot line made tries (given.Accepted parked) mid new
      → TakesPacket slot line tries p (entry.Packet slot parked) subs after old new
  packet_came p made parked is gives = record {
    mid = mid;
    ready = ready;
    came = inl (record {
      parked = parked;
      is = refl;
      mid = gives.0;
      settles = gives.1;
      received = subst (λ (m : Packet). Received slot line m parked gives.0 new) is gives.2;
      before = gives.3;
      fewer = gives.4;
      often = gives.5;
    });
  }

  pub packet_refused : (p : LentPacket) (made : Packet) → GivesPacket slot line made tries given.Full mid new
      → TakesPacket slot line tries p (entry.Full slot true) subs after old new
  packet_refused p made gives = record {
    mid = mid;
    ready = ready;
    came = inr (record {
      is = refl;
      settles = gives.0;
      full = gives.1;
      rises = gives.2;
      side_rises = gives.3;
      before = gives.4;
      last = gives.5;
      all = gives.6;
      often = gives.7;
      still = gives.8;
      full_last = gives.9;
    });
  }
