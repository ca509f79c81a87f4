-- What a half learns, orders that are done one after another, and turns.
use Rattle.std.proofs.Common.{◌≡◌, ◌≢◌, ℕ, suc, ◌+◌, ◌<◌, inl, inr, Bool, true, refl, sym, ap, ◌∙◌, subst, arith}
use Rattle.std.specs.Prelude.{nat_lt, ◌||◌, ◌≤◌, false, List, Result, Ok, Err, IfOk, OnOk}
use Rattle.std.proofs.lemmas.Bool.{ltb-false}
use Rattle.pc_base.specs.declared.packet.Place.{Place}
use Rattle.lane_core.specs.Ends.{raised}
use Rattle.worker_core.specs.DataCounts.{learns_after, LearnStops}
use Rattle.worker_core.specs.DataHanding.{LearnsAs}
use Rattle.lane_core.specs.declared.did.Did.{Did}
use Rattle.lane_core.specs.declared.did.Did.TheVariants as did
use Rattle.worker_core.specs.declared.data_half.DataTraveller.{Ghosts}
use Rattle.worker_core.specs.declared.data_serving.Sent.{Sent}
use Rattle.worker_core.specs.declared.data_serving.Sent.TheVariants.{Absent, Home, Refused}
use Rattle.worker_core.specs.declared.data_serving.Step.TheVariants.{Done, LeftNow, Stopped}
use Rattle.worker_core.specs.declared.data_serving.Served.TheVariants as served
use Rattle.worker_core.specs.DataTurns.{View}
use Rattle.worker_core.specs.DataDoing.{SendsAs, DoesOne, DoesMany, DoesOrders, LearnsNext, Serves, GoesOn, TurnsAs, did_of}

-- a half learnt, whatever its answer
pub learns_as : {H I E : Type 0} (handled : H → List I) (places : H → List Place) (takes : H → I → Bool)
    (asks learns batches empties : H → ℕ) (awaits : H → Type 0) (most : ℕ) (result : Result Bool E) (before after : H)
    → handled after ≡ handled before → places after ≡ places before → asks after ≡ raised (asks before)
    → learns after ≡ learns_after result (learns before) → OnOk result (batches after ≤ batches before + most)
    → IfOk result (λ learnt. learnt ≡ true → batches before < batches after)
    → IfOk result (λ learnt. learnt ≡ false → batches after ≡ batches before)
    → OnOk result (LearnStops most (batches before) (batches after) (empties before) (empties after) (awaits after))
    → IfOk result (λ learnt. LearnsAs handled places takes asks learns batches empties awaits most learnt before after)
learns_as handled places takes asks learns batches empties awaits most (Ok learnt) before after l p a n few more none
    stopped = record {
      lists = l;
      placed = p;
      asked = a;
      counted = n;
      few = few;
      more = more;
      none = none;
      stopped = stopped;
    }
learns_as handled places takes asks learns batches empties awaits most (Err e) before after l p a n few more none
    stopped = tt

module _ {H N I : Type 0} (g : Ghosts H N I) (place here : ℕ) (same : here ≡ place) where
  -- one order more
  pub many_more : (n m : ℕ) (first mid new : View H I) → m ≡ n + 1 → DoesMany g place n first mid
      → DoesOne g here Done mid new → DoesMany g place m first new
  many_more n m first mid new next before done =
      let more : m ≡ suc n = omega arith in
      subst (λ (k : ℕ). DoesMany g place k first new) (sym more)
      (mid, before, subst (λ (p : ℕ). DoesOne g p Done mid new) same done)

  -- a half left, orders ended, or eight were done
  pub ends_left : (n : ℕ) (first mid new : View H I) → n < 8 → DoesMany g place n first mid
      → DoesOne g here LeftNow mid new → DoesOrders g place served.Left first new
  ends_left n first mid new below before done =
      (n, mid, below, before, subst (λ (p : ℕ). DoesOne g p LeftNow mid new) same done)

  pub ends_stopped : (n : ℕ) (worked learnt any : Bool) (first mid new : View H I) → n < 8 → worked ≡ nat_lt 0 n
      → any ≡ (worked || learnt) → DoesMany g place n first mid → DoesOne g here (Stopped learnt) mid new
      → DoesOrders g place (served.Stopped any) first new
  ends_stopped n worked learnt any first mid new below is either before done = inr (
    n,
    mid,
    learnt,
    below,
    before,
    subst (λ (p : ℕ). DoesOne g p (Stopped learnt) mid new) same done,
    either ∙ ap (λ b. b || learnt) is,
  )

pub some_done : (n : ℕ) → nat_lt 0 (n + 1) ≡ true
some_done n = by_test (nat_lt 0 (n + 1)) refl where
  by_test : (b : Bool) → nat_lt 0 (n + 1) ≡ b → nat_lt 0 (n + 1) ≡ true
  by_test true e = e
  by_test false e = absurd (let high : n + 1 ≤ 0 = ltb-false 0 (n + 1) e in omega arith)

pub ends_full : {H N I : Type 0} (g : Ghosts H N I) (place n : ℕ) (worked : Bool) (first new : View H I) → n ≡ 8
    → worked ≡ nat_lt 0 n → DoesMany g place n first new → DoesOrders g place (served.Stopped worked) first new
ends_full g place n worked first new all is did = inl (
  is ∙ ap (nat_lt 0) all,
  subst (λ (k : ℕ). DoesMany g place k first new) all did,
)

module _ {H N I : Type 0} (g : Ghosts H N I) (place here : ℕ) (same : here ≡ place) (first mid : View H I) where
  goes_on : (sent : Sent) (answer : Did) (new : View H I) → sent ≢ Refused → Serves g place sent answer mid new
      → GoesOn g place sent answer mid new
  goes_on Absent answer new not serves = serves
  goes_on Home answer new not serves = serves
  goes_on Refused answer new not serves = absurd (not refl)

  pub turns_refused : SendsAs Refused first mid → TurnsAs g place did.Idle first mid
  turns_refused sends = (Refused, mid, sends, (refl, refl))

  pub turns_left : (sent : Sent) (new : View H I) → sent ≢ Refused → SendsAs sent first mid
      → DoesOrders g here served.Left mid new → TurnsAs g place did.Worked first new
  turns_left sent new not sends orders = (
    sent,
    mid,
    sends,
    goes_on sent did.Worked new not (inl (refl, subst (λ (p : ℕ). DoesOrders g p served.Left mid new) same orders)),
  )

  pub turns_on : (there : ℕ) (sent : Sent) (worked learnt : Bool) (answer : Did) (late new : View H I) → there ≡ place
      → sent ≢ Refused → SendsAs sent first mid → DoesOrders g here (served.Stopped worked) mid late
      → LearnsNext g there learnt late new → answer ≡ did_of sent worked learnt → TurnsAs g place answer first new
  turns_on there sent worked learnt answer late new also not sends orders next is = (
    sent,
    mid,
    sends,
    goes_on sent answer new not (inr (
      worked,
      learnt,
      late,
      subst (λ (p : ℕ). DoesOrders g p (served.Stopped worked) mid late) same orders,
      subst (λ (p : ℕ). LearnsNext g p learnt late new) also next,
      is,
    )),
  )
