-- Whatever version may follow, counters that represent a past go on by it to some that represent the past behind it.
use Rattle.std.proofs.Common.{◌≡◌, ℕ, if◌then◌else◌, ◌↔◌, ◌==◌, Bool, true, false, All, IsTrue, ◌≤◌, List, [], ◌∷◌, ◌++◌, length, filter, Option, Some, None, unwrap_or, refl, sym, ap, ◌∙◌, subst, append_assoc}
use Rattle.std.specs.List.{Contains, fold}
use Rattle.pc_base.specs.declared.effect.Effect.{Effect}
use Rattle.pc_base.specs.declared.effect.Effect.TheVariants as effect
use Rattle.pc_base.specs.declared.effect.Fate.{Fate}
use Rattle.pc_base.specs.declared.effect.Fate.TheVariants as fate
use Rattle.pc_base.specs.declared.packet.Peer.{Peer}
use Rattle.charging_book.specs.Accounts as book
use Rattle.charging_book.specs.Happenings.{AllMay, Happening, lives_of}
use Rattle.rate_policer.specs.Buckets.{BucketState}
use Rattle.bearer_state.specs.declared.version.ActiveBearer.{ActiveBearer}
use Rattle.bearer_state.specs.Version.{IsVersion, VersionState}
use Rattle.packet_steps.specs.Change.{bearer_of, fated, has_life, learnt, marked, markers, marks, released, released_by, released_to, waits}
use Rattle.packet_steps.specs.Messages.{gpdu}
use Rattle.packet_steps.specs.Meters.{MetersStand, learnt_meters}
use Rattle.packet_steps.specs.Past.{Past, moment_of, row_for, with_row}
use Rattle.packet_steps.specs.Plans.{Tries}
use Rattle.packet_steps.specs.Rows.{ForwardedRow, HeldRow}
use Rattle.packet_steps.specs.Running.{Advances, Brought, brought, brought_at, brought_to, brought_with, charge_of, left_for, with_charge, with_fate, with_put}
use Rattle.packet_steps.specs.Standing.{CountersState, Follows, StandsFor}
use Rattle.packet_steps.proofs.AdvanceLemmas.{learnt_reached}
use Rattle.packet_steps.proofs.BearerLemmas.{find_found}
use Rattle.packet_steps.proofs.FoldLemmas.{held_all, last_kept, moment_kept, version_kept}
use Rattle.packet_steps.proofs.LearntMeters.{learnt_stand}
use Rattle.packet_steps.proofs.ListLemmas.{same_behind}
use Rattle.packet_steps.proofs.MeterLemmas.{put_stands, put_still}
use Rattle.report_laws.proofs.BooksPosted.{Posts, all_post}
use Rattle.report_laws.proofs.BucketsTried.{left_tries_now}

-- what was brought so far is that of this past
record Brings (so_far : Brought) (before : List Happening) (reached : Past × List Effect) : Type 0 where
  meters : MetersStand so_far.meters reached.0
  charged : before ++ so_far.charged ≡ reached.0.charged
  effects : so_far.effects ≡ reached.1

tells_fate : (so_far : Brought) (before : List Happening) (reached : Past × List Effect) (row : HeldRow) (fate_ : Fate)
    → Brings so_far before reached → Brings (with_fate so_far row fate_) before (fated reached row fate_)
tells_fate so_far before reached row fate_ known = record {
  meters = known.meters;
  charged = known.charged;
  effects = ap (λ es. es ++ effect.Fate row.packet.number fate_ ∷ []) known.effects;
}

-- a held packet whose bearer has an eNodeB passes, or doesn't
module _ (so_far : Brought) (before : List Happening) (reached : Past × List Effect) (row : HeldRow)
    (bearer : ActiveBearer) (peer : Peer) (at : ℕ) (known : Brings so_far before reached)
    (ranges : IsVersion reached.0.version) (there : Contains reached.0.version.bearers bearer)
    (now : moment_of reached.0 ≡ at) where
  abbrev octets : ℕ
  octets = length row.packet.octets

  abbrev down : Fate
  down = fate.Down row.life peer.addr (gpdu peer row.packet.octets)

  passes_more : (bucket : BucketState) → Tries reached.0 bearer false octets (true, bucket)
      → Brings (with_fate (with_charge (with_put so_far bearer bucket) row bearer at) row down) before
      (fated (with_row reached.0 (row_for reached.0 bearer false octets), reached.1) row down)
  passes_more bucket tries = record {
    meters = put_stands so_far.meters reached.0 bearer false octets bucket known.meters ranges there (tries.behind refl);
    charged = sym (append_assoc before so_far.charged (charge_of bearer false octets at ∷ []))
        ∙ ap (λ all. all ++ charge_of bearer false octets at ∷ []) known.charged
        ∙ ap (λ moment. reached.0.charged ++ charge_of bearer false octets moment ∷ []) (sym now);
    effects = ap (λ es. es ++ effect.Fate row.packet.number down ∷ []) known.effects;
  }

  policed_more : (bucket : BucketState) → Tries reached.0 bearer false octets (false, bucket)
      → Brings (with_fate (with_put so_far bearer bucket) row (fate.Policed row.life)) before
      (fated reached row (fate.Policed row.life))
  policed_more bucket tries = record {
    meters = put_still so_far.meters reached.0 bearer false bucket known.meters ranges there (tries.still refl);
    charged = known.charged;
    effects = ap (λ es. es ++ effect.Fate row.packet.number (fate.Policed row.life) ∷ []) known.effects;
  }

  tried_more : (passed : Bool) (bucket : BucketState) → Tries reached.0 bearer false octets (passed, bucket)
      → Brings (if passed then with_fate (with_charge (with_put so_far bearer bucket) row bearer at) row down
      else with_fate (with_put so_far bearer bucket) row (fate.Policed row.life)) before
      (if passed then fated (with_row reached.0 (row_for reached.0 bearer false octets), reached.1) row down
      else fated reached row (fate.Policed row.life))
  tried_more true bucket tries = passes_more bucket tries
  tried_more false bucket tries = policed_more bucket tries

  to_peer : Brings (brought_to so_far row bearer at (Some peer)) before (released_to reached row bearer (Some peer))
  to_peer =
      let left = left_for so_far.meters bearer false octets at in
      let tries : Tries reached.0 bearer false octets left =
      left_tries_now so_far.meters reached.0 bearer false octets at known.meters there now in
      subst (λ b. Brings (brought_to so_far row bearer at (Some peer)) before
      (if b then fated (with_row reached.0 (row_for reached.0 bearer false octets), reached.1) row down
      else fated reached row (fate.Policed row.life))) (sym tries.answer) (tried_more left.0 left.1 tries)

-- one that waits on
to_bearer : (so_far : Brought) (before : List Happening) (reached : Past × List Effect) (row : HeldRow)
    (bearer : ActiveBearer) (at : ℕ) (enb : Option Peer) → Brings so_far before reached
    → IsVersion reached.0.version → Contains reached.0.version.bearers bearer → moment_of reached.0 ≡ at
    → Brings (brought_to so_far row bearer at enb) before (released_to reached row bearer enb)
to_bearer so_far before reached row bearer at None known ranges there now = record {
  meters = record { sized = known.meters.sized; shared = known.meters.shared; own = known.meters.own };
  charged = known.charged;
  effects = known.effects;
}
to_bearer so_far before reached row bearer at (Some peer) known ranges there now =
    to_peer so_far before reached row bearer peer at known ranges there now

to_found : (so_far : Brought) (before : List Happening) (reached : Past × List Effect) (row : HeldRow) (at : ℕ)
    (found : Option ActiveBearer) → bearer_of reached.0.version.bearers row.life ≡ found
    → Brings so_far before reached → IsVersion reached.0.version → moment_of reached.0 ≡ at
    → Brings (brought_at at so_far row found) before (released_by reached row found)
to_found so_far before reached row at None is known ranges now =
    tells_fate so_far before reached row (fate.Gone row.life) known
to_found so_far before reached row at (Some bearer) is known ranges now =
    to_bearer so_far before reached row bearer at bearer.enb known ranges
    (find_found (λ (b : ActiveBearer). b.life == row.life) reached.0.version.bearers bearer is).0 now

-- all that are held
all_brought : (after : VersionState) (at : ℕ) (so_far : Brought) (before : List Happening)
    (reached : Past × List Effect) (rows : List HeldRow) → reached.0.version ≡ after → moment_of reached.0 ≡ at
    → IsVersion after → Brings so_far before reached
    → Brings (fold (brought_with after.bearers at) so_far rows) before (fold released reached rows)
all_brought after at so_far before reached [] same now ranges known = known
all_brought after at so_far before reached (row ∷ rows) same now ranges known =
    let own = bearer_of reached.0.version.bearers row.life in
    let next : Brings (brought_with after.bearers at so_far row) before (released reached row) =
    subst (λ (v : VersionState). Brings (brought_with v.bearers at so_far row) before (released reached row)) same
    (to_found so_far before reached row at own refl known (subst IsVersion (sym same) ranges) now) in
    all_brought after at (brought_with after.bearers at so_far row) before (released reached row) rows
    (version_kept reached (row ∷ []) ∙ same) (moment_kept reached (row ∷ []) ∙ now) ranges next

-- counters behind a version
pub record AdvancesTo (counters : CountersState) (past : Past) (taken : ℕ) (after : VersionState) : Type 0 where
  pub new : CountersState
  pub advances : Advances past.version after counters new
  pub stands : StandsFor new (learnt past after).0 taken
  pub effects : (brought past.version after counters).effects ≡ (learnt past after).1

pub version_advances : (counters : CountersState) (past : Past) (taken : ℕ) (after : VersionState)
    → StandsFor counters past taken → Follows past after → IsVersion after → AdvancesTo counters past taken after
version_advances counters past taken after stands follows ranges =
    let start : Past × List Effect = (marked past after, markers past.version after) in
    let begun : Brought = record {
      meters = learnt_meters past.version after counters.meters;
      charged = marks past.version after;
      effects = markers past.version after;
    } in
    let at = unwrap_or counters.last 0 in
    let all = brought past.version after counters in
    let known : Brings all past.charged (learnt past after) =
    subst (λ (rows : List HeldRow). Brings (fold (brought_with after.bearers at) begun rows) past.charged
    (learnt past after)) (sym stands.held)
    (all_brought after at begun past.charged start past.held refl
    (ap (λ last. unwrap_or last 0) (sym stands.last)) ranges (record {
      meters = learnt_stand counters.meters past after stands.meters follows ranges stands.rates;
      charged = refl;
      effects = refl;
    })) in
    let reached = learnt_reached counters past taken after stands follows ranges in
    let same : all.charged ≡ reached.more =
    same_behind past.charged all.charged reached.more (known.charged ∙ reached.charged) in
    let posts : Posts counters.book past.charged taken all.charged =
    all_post counters.book past.charged all.charged taken stands.charges
    (subst (AllMay past.charged) (sym same) reached.going.lawful) in
    record {
      new = record {
        meters = all.meters;
        book = posts.new;
        held = filter (λ (row : HeldRow). waits after.bearers row.life) counters.held;
        last = counters.last;
      };
      advances = record { meters = refl; book = posts.goes; held = refl; last = refl };
      stands = record {
        meters = known.meters;
        charges = subst (λ (happened : List Happening). book.StandsFor posts.new happened taken) known.charged
            posts.stands;
        held = ap (filter (λ (row : HeldRow). waits after.bearers row.life)) stands.held
            ∙ sym (held_all start past.held);
        last = stands.last ∙ sym (last_kept start past.held);
        open_lives = λ life. subst
            (λ (v : VersionState). Contains (lives_of (learnt past after).0.charged) life ↔ IsTrue
            (has_life v.bearers life)) (sym reached.version)
            (subst (λ (happened : List Happening). Contains (lives_of happened) life ↔ IsTrue
            (has_life after.bearers life)) (sym reached.charged) (reached.going.opens life));
        rates = subst (λ (v : VersionState). All (λ (row : ForwardedRow). row.rates ≤ v.rates)
            (learnt past after).0.forwarded) (sym reached.version) reached.rates;
        ranges = subst IsVersion (sym reached.version) ranges;
      };
      effects = known.effects;
    }
