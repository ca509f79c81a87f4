-- What counters represent behind a new version.
use Rattle.std.proofs.Common.{◌≡◌, ℕ, ◌-◌, ◌^◌, ◌≤◌, ◌↔◌, ◌==◌, nat_lt, true, false, List, [], ◌∷◌, ◌++◌, length, map, filter, All, IsTrue, Option, Some, None, refl, sym, ◌∙◌, ap, subst, append_assoc, le_trans, arith}
use Rattle.std.specs.List.{Contains, AllByRecursion, fold}
use Rattle.std.proofs.lemmas.List.Elements.{All-push}
use Rattle.pc_base.specs.declared.effect.Effect.{Effect}
use Rattle.pc_base.specs.declared.packet.Peer.{Peer}
use Rattle.charging_book.specs.Accounts as book
use Rattle.charging_book.specs.Happenings.{Happening, lives_of}
use Rattle.charging_book.specs.Postings.{happening_of, IsInRange, MayAllFollow}
use Rattle.charging_book.proofs.Steps.{lives-push, may_from-push}
use Rattle.bearer_state.specs.declared.version.ActiveBearer.{ActiveBearer}
use Rattle.bearer_state.specs.Version.{VersionState, IsVersion}
use Rattle.packet_steps.specs.declared.releasing.Release.{Release}
use Rattle.packet_steps.specs.Rows.{ForwardedRow, HeldRow}
use Rattle.packet_steps.specs.Past.{Past, row_for, happening_for, with_row, with_held}
use Rattle.packet_steps.specs.Policing.{passes}
use Rattle.packet_steps.specs.Change.{has_life, bearer_of, waits, released_to, released_by, released, marks, markers, marked, learnt}
use Rattle.packet_steps.specs.Meters.{MetersState, in_use, learnt_meters, MetersStand}
use Rattle.packet_steps.specs.Releases.{Releases}
use Rattle.packet_steps.specs.Standing.{CountersState, StandsFor, Follows}
use Rattle.packet_steps.proofs.BearerLemmas.{find_found}
use Rattle.packet_steps.proofs.StandingLemmas.{has_it}
use Rattle.packet_steps.proofs.ListLemmas.{same_behind}
use Rattle.packet_steps.proofs.FoldLemmas.{passed_or, last_kept, held_all}
use Rattle.packet_steps.proofs.LearntMeters.{learnt_stand}
use Rattle.packet_steps.proofs.LawfulMarks.{Going, marks_going, all_follow}

-- what was reached so far may have happened to the book, and its lives are those of the version
pub record Reached (before : List Happening) (after : VersionState) (so_far : Past × List Effect) : Type 0 where
  pub version : so_far.0.version ≡ after
  pub more : List Happening
  pub charged : so_far.0.charged ≡ before ++ more
  pub going : Going before more (has_life after.bearers)
  pub rates : All (λ (row : ForwardedRow). row.rates ≤ after.rates) so_far.0.forwarded

-- one row more of an active bearer
reached_row : (before : List Happening) (after : VersionState) (so_far : Past × List Effect) (effects : List Effect)
    (bearer : ActiveBearer) (octets : ℕ)
    → Contains after.bearers bearer → Reached before after so_far
    → Reached before after (with_row so_far.0 (row_for so_far.0 bearer false octets), effects)
reached_row before after so_far effects bearer octets there reached =
    let row = row_for so_far.0 bearer false octets in
    let now = happening_for row in
    let going = reached.going in
    record {
      version = reached.version;
      more = reached.more ++ now ∷ [];
      charged = ap (λ (all : List Happening). all ++ now ∷ []) reached.charged
          ∙ append_assoc before reached.more (now ∷ []);
      going = record {
        lawful = may_from-push before reached.more now going.lawful
            ((going.opens bearer.life).1 (has_it after.bearers bearer there));
        in_range = each-push IsInRange reached.more now going.in_range tt;
        opens = λ life. subst (λ (lives : List ℕ). Contains lives life ↔ IsTrue (has_life after.bearers life))
            (sym (ap lives_of (sym (append_assoc before reached.more (now ∷ [])))
            ∙ lives-push (before ++ reached.more) now)) (going.opens life);
      };
      rates = All-push (λ (r : ForwardedRow). r.rates ≤ after.rates) so_far.0.forwarded row reached.rates
          (subst (λ (v : VersionState). v.rates ≤ after.rates) (sym reached.version) (omega arith));
    }
  where
    each-push : {X : Type 0} (P : X → Type 0) (xs : List X) (x : X) → AllByRecursion P xs → P x
        → AllByRecursion P (xs ++ x ∷ [])
    each-push P [] x each here = (here, tt)
    each-push P (y ∷ ys) x each here = (each.0, each-push P ys x each.1 here)

reached_same : (before : List Happening) (after : VersionState) (so_far : Past × List Effect) (effects : List Effect)
    → Reached before after so_far
    → Reached before after (so_far.0, effects)
reached_same before after so_far effects reached = record { version = reached.version; more = reached.more; charged = reached.charged; going = reached.going; rates = reached.rates }

reached_held : (before : List Happening) (after : VersionState) (so_far : Past × List Effect) (row : HeldRow)
    → Reached before after so_far
    → Reached before after (with_held so_far.0 row, so_far.1)
reached_held before after so_far row reached = record { version = reached.version; more = reached.more; charged = reached.charged; going = reached.going; rates = reached.rates }

reached_to : (before : List Happening) (after : VersionState) (so_far : Past × List Effect) (row : HeldRow)
    (bearer : ActiveBearer) (enb : Option Peer)
    → Contains after.bearers bearer → Reached before after so_far
    → Reached before after (released_to so_far row bearer enb)
reached_to before after so_far row bearer None there reached = reached_held before after so_far row reached
reached_to before after so_far row bearer (Some peer) there reached =
    elim (passes so_far.0 bearer false (length row.packet.octets)) as
    (λ b. Reached before after (passed_or b so_far row bearer peer)) [
      | true ↦ reached_row before after so_far _ bearer (length row.packet.octets) there reached
      | false ↦ reached_same before after so_far _ reached
    ]

reached_by : (before : List Happening) (after : VersionState) (so_far : Past × List Effect) (row : HeldRow)
    (found : Option ActiveBearer)
    → bearer_of after.bearers row.life ≡ found → Reached before after so_far
    → Reached before after (released_by so_far row found)
reached_by before after so_far row None is reached = reached_same before after so_far _ reached
reached_by before after so_far row (Some bearer) is reached =
    reached_to before after so_far row bearer bearer.enb
    (find_found (λ (b : ActiveBearer). b.life == row.life) after.bearers bearer is).0 reached

reached_next : (before : List Happening) (after : VersionState) (so_far : Past × List Effect) (row : HeldRow)
    → Reached before after so_far
    → Reached before after (released so_far row)
reached_next before after so_far row reached =
    reached_by before after so_far row (bearer_of so_far.0.version.bearers row.life)
    (ap (λ (v : VersionState). bearer_of v.bearers row.life) (sym reached.version)) reached

reached_all : (before : List Happening) (after : VersionState) (so_far : Past × List Effect) (rows : List HeldRow)
    → Reached before after so_far
    → Reached before after (fold released so_far rows)
reached_all before after so_far [] reached = reached
reached_all before after so_far (row ∷ rows) reached = reached_all before after (released so_far row) rows
    (reached_next before after so_far row reached)

-- so is what is learnt
all_later : (old new : ℕ) (rows : List ForwardedRow) → old ≤ new → All (λ (row : ForwardedRow). row.rates ≤ old) rows
    → All (λ (row : ForwardedRow). row.rates ≤ new) rows
all_later old new rows risen all k d within = le_trans (all k d within) risen

pub learnt_reached : (counters : CountersState) (past : Past) (taken : ℕ) (after : VersionState)
    → StandsFor counters past taken → Follows past after → IsVersion after
    → Reached past.charged after (learnt past after)
learnt_reached counters past taken after stands follows ranges =
    reached_all past.charged after (marked past after, markers past.version after) past.held (record {
      version = refl;
      more = marks past.version after;
      charged = refl;
      going = marks_going (nat_lt past.version.rates after.rates) past.version after past.charged stands.ranges ranges stands.open_lives;
      rates = all_later past.version.rates after.rates past.forwarded follows.rates_rise stands.rates;
    })

-- what is brought starts as the change does
pub release_starts : (counters : CountersState) (past : Past) (taken : ℕ) (after : VersionState) (release : Release)
    → StandsFor counters past taken → Follows past after → IsVersion after
    → in_use release.meters ≡ learnt_meters past.version after counters.meters
    → map happening_of release.postings.items ≡ marks past.version after
    → release.effects.items ≡ markers past.version after
    → Releases release past.charged (marked past after, markers past.version after)
release_starts counters past taken after release stands follows ranges meters postings effects = record {
  meters = subst (λ (m : MetersState). MetersStand m (marked past after)) (sym meters)
      (learnt_stand counters.meters past after stands.meters follows ranges stands.rates);
  postings = ap (λ (more : List Happening). past.charged ++ more) postings;
  effects = effects;
}

-- the postings may go into the book
pub postings_follow : (counters : CountersState) (past : Past) (taken : ℕ) (after : VersionState) (release : Release)
    → StandsFor counters past taken → Follows past after → IsVersion after
    → Releases release past.charged (learnt past after)
    → MayAllFollow past.charged (map happening_of release.postings.items)
postings_follow counters past taken after release stands follows ranges brought =
    let reached = learnt_reached counters past taken after stands follows ranges in
    let same : map happening_of release.postings.items
    ≡ reached.more = same_behind past.charged (map happening_of release.postings.items) reached.more
    (brought.postings ∙ reached.charged) in
    subst (MayAllFollow past.charged) (sym same)
    (all_follow past.charged reached.more reached.going.lawful reached.going.in_range
    (subst (λ (all : List Happening). length all ≤ 2 ^ 61 - 20) reached.charged follows.few))

-- the counters behind a new version
pub learnt_stands : (counters new : CountersState) (past : Past) (taken : ℕ) (after : VersionState)
    (release : Release) → StandsFor counters past taken → Follows past after → IsVersion after
    → Releases release past.charged (learnt past after) → new.meters ≡ in_use release.meters
    → book.StandsFor new.book (past.charged ++ map happening_of release.postings.items) taken
    → new.held ≡ filter (λ (row : HeldRow). waits after.bearers row.life) counters.held → new.last ≡ counters.last
    → StandsFor new (learnt past after).0 taken
learnt_stands counters new past taken after release stands follows ranges brought meters charges held last =
    let reached = learnt_reached counters past taken after stands follows ranges in
    let start : Past × List Effect = (marked past after, markers past.version after) in
    record {
      meters = subst (λ (m : MetersState). MetersStand m (learnt past after).0) (sym meters) brought.meters;
      charges = subst (λ (all : List Happening). book.StandsFor new.book all taken) brought.postings charges;
      held = held ∙ ap (filter (λ (row : HeldRow). waits after.bearers row.life)) stands.held
          ∙ sym (held_all start past.held);
      last = last ∙ stands.last ∙ sym (last_kept start past.held);
      open_lives = λ life. subst
          (λ (v : VersionState). Contains (lives_of (learnt past after).0.charged) life ↔ IsTrue
          (has_life v.bearers life)) (sym reached.version)
          (subst (λ (all : List Happening). Contains (lives_of all) life ↔ IsTrue (has_life after.bearers life))
          (sym reached.charged) (reached.going.opens life));
      rates = subst (λ (v : VersionState). All (λ (row : ForwardedRow). row.rates ≤ v.rates)
          (learnt past after).0.forwarded) (sym reached.version) reached.rates;
      ranges = subst IsVersion (sym reached.version) ranges;
    }
