-- Whatever packet comes, counters that represent a past go on by it to some that represent the past behind it.
use Rattle.std.proofs.Common.{◌≡◌, ℕ, ◌≤◌, ◌==◌, ◌&&◌, nat_le, if◌then◌else◌, Bool, true, false, List, [], ◌∷◌, ◌++◌, length, Option, Some, None, IfSome, refl, sym, subst}
use Rattle.std.specs.List.{Contains}
use Rattle.std.specs.Option.{option_and_then}
use Rattle.pc_base.specs.Addresses.{addr_of}
use Rattle.pc_base.specs.declared.packet.Packet.{Packet}
use Rattle.pc_base.specs.declared.packet.Peer.{Peer}
use Rattle.pc_base.specs.declared.packet.Way.{Way}
use Rattle.pc_base.specs.declared.packet.Way.TheVariants.{Up, Down}
use Rattle.pc_base.specs.declared.packet.Verdict.{Verdict}
use Rattle.pc_base.specs.declared.packet.Verdict.TheVariants as verdict
use Rattle.ipv4_packet.specs.Fields.{source_of}
use Rattle.tft_match.specs.Chosen.{chosen}
use Rattle.rate_policer.specs.Buckets.{BucketState}
use Rattle.charging_book.specs.Happenings.{Happening}
use Rattle.charging_book.specs.Posted.{GoesFar}
use Rattle.bearer_state.specs.declared.version.ActiveBearer.{ActiveBearer}
use Rattle.bearer_state.specs.Version.{bearer_at}
use Rattle.packet_steps.specs.declared.plan.Plan.{Plan}
use Rattle.packet_steps.specs.declared.plan.Plan.TheVariants as plan
use Rattle.packet_steps.specs.Messages.{gpdu}
use Rattle.packet_steps.specs.Past.{Past, moment_of, row_for, with_held, with_row}
use Rattle.packet_steps.specs.Plans.{PolicesBehind, PolicesStill, Tries, verdict_by}
use Rattle.packet_steps.specs.Rows.{HeldRow}
use Rattle.packet_steps.specs.Running.{GoesOn, charge_of, charged_by, held_behind, left_for, meters_behind, planned, planned_by_way, planned_down, planned_through, planned_to, planned_up, planned_waiting}
use Rattle.packet_steps.specs.Meters.{put_bucket}
use Rattle.packet_steps.specs.Standing.{CountersState, StandsFor}
use Rattle.packet_steps.specs.Verdicts.{at_moment, bearer_for, is_packet, judged, judged_by_way, judged_down, judged_to, judged_up, judged_waiting, message_for, tried}
use Rattle.packet_steps.proofs.BearerLemmas.{find_found}
use Rattle.packet_steps.proofs.StandingLemmas.{has_it, holds_stand, passes_stand, refuses_stand, stays_stand}
use Rattle.packet_steps.proofs.RunningLemmas.{goes_nowhere}
use Rattle.report_laws.proofs.BooksPosted.{Posts, all_post}
use Rattle.report_laws.proofs.BucketsTried.{left_tries}

-- counters behind a plan, which is this outcome
pub record Steps (p : Plan) (outcome : Past × Verdict) (packet : Packet) (old : CountersState) (taken : ℕ) :
    Type 0 where
  pub new : CountersState
  pub goes : GoesOn p packet old new
  pub stands : StandsFor new outcome.0 taken
  pub verdict_is : verdict_by p packet.octets ≡ outcome.1

module _ (counters : CountersState) (past : Past) (taken : ℕ) (packet : Packet) (stands : StandsFor counters past taken)
    (late : moment_of past ≤ packet.moment) where
  abbrev here : Past
  here = at_moment past packet.moment

  -- a plan that changes no bucket, charges nothing and holds nothing
  record Idles (p : Plan) : Type 0 where
    meters : meters_behind p counters.meters ≡ counters.meters
    charged : charged_by p packet.moment ≡ []
    held : held_behind p packet counters.held ≡ counters.held

  stays : (p : Plan) (v : Verdict) → Idles p → verdict_by p packet.octets ≡ v → Steps p (here, v) packet counters taken
  stays p v idles is = record {
    new = record counters { last = Some packet.moment };
    goes = record {
      meters = sym idles.meters;
      book = subst (GoesFar counters.book counters.book) (sym idles.charged)
          (goes_nowhere counters.book);
      held = sym idles.held;
      last = refl;
    };
    stands = stays_stand counters _ past taken packet.moment stands late refl;
    verdict_is = is;
  }

  holds : (life : ℕ) (message : Option (List ℕ))
      → Steps (plan.Hold life message)
      (with_held here (record { packet = packet; life = life }), verdict.Held life message) packet counters taken
  holds life message = record {
    new = record counters { held = counters.held ++ record { packet = packet; life = life } ∷ []; last = Some packet.moment };
    goes = record {
      meters = refl;
      book = goes_nowhere counters.book;
      held = refl;
      last = refl;
    };
    stands = holds_stand counters _ past taken packet.moment (record { packet = packet; life = life }) stands late refl;
    verdict_is = refl;
  }

  -- octets of an active bearer are refused, or pass
  refuses : (bearer : ActiveBearer) (up : Bool) (bucket : BucketState) → Contains past.version.bearers bearer
      → PolicesStill here bearer up bucket
      → Steps (plan.Policed bearer up bucket) (here, verdict.Policed bearer.life) packet counters taken
  refuses bearer up bucket there still = record {
    new = record counters { meters = put_bucket counters.meters bearer up bucket; last = Some packet.moment };
    goes = record {
      meters = refl;
      book = goes_nowhere counters.book;
      held = refl;
      last = refl;
    };
    stands = refuses_stand counters _ past taken packet.moment bearer up bucket stands late there still refl;
    verdict_is = refl;
  }

  -- what a plan does that lets them pass
  record LetsPass (p : Plan) (bearer : ActiveBearer) (up : Bool) (octets : ℕ) (bucket : BucketState)
      (passed : Verdict) : Type 0 where
    meters : meters_behind p counters.meters ≡ put_bucket counters.meters bearer up bucket
    charged : charged_by p packet.moment ≡ charge_of bearer up octets packet.moment ∷ []
    held : held_behind p packet counters.held ≡ counters.held
    verdict_is : verdict_by p packet.octets ≡ passed

  lets : (p : Plan) (bearer : ActiveBearer) (up : Bool) (octets : ℕ) (bucket : BucketState) (passed : Verdict)
      → LetsPass p bearer up octets bucket passed → Contains past.version.bearers bearer
      → PolicesBehind here bearer up octets bucket
      → Steps p (with_row here (row_for here bearer up octets), passed) packet counters taken
  lets p bearer up octets bucket passed does there behind =
      let now : Happening = charge_of bearer up octets packet.moment in
      let posts : Posts counters.book past.charged taken (now ∷ []) =
      all_post counters.book past.charged (now ∷ []) taken stands.charges
      ((stands.open_lives bearer.life).1 (has_it past.version.bearers bearer there), tt) in
      record {
        new = record {
          meters = put_bucket counters.meters bearer up bucket;
          book = posts.new;
          held = counters.held;
          last = Some packet.moment;
        };
        goes = record {
          meters = sym does.meters;
          book = subst (GoesFar counters.book posts.new) (sym does.charged) posts.goes;
          held = sym does.held;
          last = refl;
        };
        stands = passes_stand counters _ past taken packet.moment octets bearer up bucket stands late there behind refl
            posts.stands refl refl;
        verdict_is = does.verdict_is;
      }

  -- by what trying them comes to
  tries : (bearer : ActiveBearer) (up : Bool) (octets : ℕ) (left : Bool × BucketState) (through : Plan) (passed : Verdict)
      → Contains past.version.bearers bearer → Tries here bearer up octets left
      → LetsPass through bearer up octets left.1 passed
      → Steps (if left.0 then through else plan.Policed bearer up left.1) (tried here bearer up octets passed) packet
      counters taken
  tries bearer up octets left through passed there known does =
      let next = with_row here (row_for here bearer up octets) in
      subst (λ b. Steps (if left.0 then through else plan.Policed bearer up left.1)
      (if b then (next, passed) else (here, verdict.Policed bearer.life)) packet counters taken) (sym known.answer)
      (by left.0 refl)
    where
      by : (b : Bool) → left.0 ≡ b
          → Steps (if b then through else plan.Policed bearer up left.1)
          (if b then (with_row here (row_for here bearer up octets), passed) else (here, verdict.Policed bearer.life))
          packet counters taken
      by true is = lets through bearer up octets left.1 passed does there (known.behind is)
      by false is = refuses bearer up left.1 there (known.still is)

  -- up
  to_own : (bearer : ActiveBearer) → Contains past.version.bearers bearer → (own : Bool)
      → Steps (if own then planned_through bearer (length packet.octets)
      (left_for counters.meters bearer true (length packet.octets) packet.moment) else plan.Spoof)
      (if own then tried here bearer true (length packet.octets) (verdict.Up bearer.life packet.octets)
      else (here, verdict.Spoof)) packet counters taken
  to_own bearer there true =
      let left = left_for counters.meters bearer true (length packet.octets) packet.moment in
      tries bearer true (length packet.octets) left (plan.Up bearer left.1 (length packet.octets))
      (verdict.Up bearer.life packet.octets) there
      (left_tries counters.meters past bearer true (length packet.octets) packet.moment stands.meters there late)
      (record { meters = refl; charged = refl; held = refl; verdict_is = refl })
  to_own bearer there false =
      stays plan.Spoof verdict.Spoof (record { meters = refl; charged = refl; held = refl }) refl

  nothing : Steps plan.NoBearer (here, verdict.NoBearer) packet counters taken
  nothing = stays plan.NoBearer verdict.NoBearer (record { meters = refl; charged = refl; held = refl }) refl

  abbrev IsThere : Option ActiveBearer → Type 0
  IsThere found = IfSome found (λ bearer. Contains past.version.bearers bearer)

  going_up : (found : Option ActiveBearer) → IsThere found
      → Steps (planned_up past.version counters.meters packet.moment packet.octets found)
      (judged_up here packet.octets found) packet counters taken
  going_up None there = nothing
  going_up (Some bearer) there = to_own bearer there (source_of packet.octets == addr_of past.version.slot)

  -- down
  to_waiting : (bearer : ActiveBearer) (full : Bool) (message : Option (List ℕ))
      → Steps (if full then plan.Idle bearer.life else plan.Hold bearer.life message)
      (if full then (here, verdict.Idle bearer.life)
      else (with_held here (record { packet = packet; life = bearer.life }), verdict.Held bearer.life message))
      packet counters taken
  to_waiting bearer true message =
      stays (plan.Idle bearer.life) (verdict.Idle bearer.life) (record { meters = refl; charged = refl; held = refl }) refl
  to_waiting bearer false message = holds bearer.life message

  waiting : (bearer : ActiveBearer)
      → Steps (planned_waiting past.version counters.held packet.number bearer) (judged_waiting here packet bearer)
      packet counters taken
  waiting bearer =
      subst (λ (rows : List HeldRow). Steps (planned_waiting past.version rows packet.number bearer)
      (judged_waiting here packet bearer) packet counters taken) (sym stands.held)
      (to_waiting bearer (nat_le 16 (length past.held))
      (message_for past.version past.held packet.number bearer.ebi))

  to_peer : (bearer : ActiveBearer) → Contains past.version.bearers bearer → (enb : Option Peer)
      → Steps (planned_to past.version counters packet bearer enb) (judged_to here packet bearer enb) packet counters
      taken
  to_peer bearer there None = waiting bearer
  to_peer bearer there (Some peer) =
      let left = left_for counters.meters bearer false (length packet.octets) packet.moment in
      tries bearer false (length packet.octets) left (plan.Down bearer peer left.1 (length packet.octets))
      (verdict.Down bearer.life peer.addr (gpdu peer packet.octets)) there
      (left_tries counters.meters past bearer false (length packet.octets) packet.moment stands.meters there late)
      (record { meters = refl; charged = refl; held = refl; verdict_is = refl })

  going_down : (found : Option ActiveBearer) → IsThere found
      → Steps (planned_down past.version counters packet found) (judged_down here packet found) packet counters taken
  going_down None there = nothing
  going_down (Some bearer) there = to_peer bearer there bearer.enb

  -- an active bearer that is found is there
  found_there : (index : ℕ) (found : Option ActiveBearer) → bearer_at past.version.bearers index ≡ found
      → IsThere found
  found_there index None is = tt
  found_there index (Some bearer) is =
      (find_found (λ (b : ActiveBearer). b.index == index) past.version.bearers bearer is).0

  chosen_there : (found : Option ℕ) → IsThere (option_and_then (bearer_at past.version.bearers) found)
  chosen_there None = tt
  chosen_there (Some index) = found_there index (bearer_at past.version.bearers index) refl

  by_way : (way : Way)
      → Steps (planned_by_way past.version counters packet way) (judged_by_way here packet way) packet counters taken
  by_way (Up index) =
      going_up (bearer_at past.version.bearers index) (found_there index (bearer_at past.version.bearers index) refl)
  by_way Down =
      going_down (bearer_for past.version packet.octets) (chosen_there (chosen past.version.rows packet.octets))

  by_test : (may : Bool)
      → Steps (if may then planned_by_way past.version counters packet packet.way else plan.NoBearer)
      (if may then judged_by_way here packet packet.way else (here, verdict.NoBearer)) packet counters taken
  by_test true = by_way packet.way
  by_test false = nothing

  pub packet_steps : Steps (planned past.version counters packet) (judged past packet) packet counters taken
  packet_steps = by_test (past.version.live && is_packet packet.octets)
