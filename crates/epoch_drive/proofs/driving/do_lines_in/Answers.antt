use Rattle.std.proofs.Common.{◌≡◌, ℕ, ◌+◌, [], List, map, length, refl, sym, ap, subst, ◌∙◌, arith}
use Rattle.std.specs.List.{All}
use Rattle.demux.specs.Trace.{Meaning}
use Rattle.lawful_run.specs.Filling.{filled}
use Rattle.epoch_schedule.specs.Front.{Outcome}
use Rattle.epoch_schedule.specs.TurnsTold.{turns_told}
use Rattle.subscriber.specs.Standing.{SubscriberState}
use Rattle.epoch_drive.specs.DrivenOpened.{open_entries}
use Rattle.epoch_drive.specs.Joins.{mets_at, replies_at}
use Rattle.slot_execution.specs.Kept.{meaning_in}
use Rattle.at_rest.specs.Meant.{IsWithin, bound_of}
use Rattle.epoch_drive.specs.Opened.{opened}
use Rattle.epoch_drive.specs.Replays.{AllCanDo, HaveDone}
use Rattle.epoch_drive.specs.Shares.{AreMet, AreShares}
use Rattle.epoch_drive.specs.Steps.{MayDo}
use Rattle.epoch_drive.specs.declared.sharing.Share.{Share}
use Rattle.epoch_drive.proofs.Drives.{Planned, are_met, planned_so}
use Rattle.epoch_drive.proofs.Ends.{all_can, length-moments}
use Rattle.epoch_drive.proofs.Keeping.{all_within_any, length-kept, mean_lent, placed_lent}
use Rattle.epoch_drive.proofs.driving.do_lines_in.Goals as goal

pub shares_of-requires-clause-slots : goal.shares_of-requires-clause-slots
shares_of-requires-clause-slots c =
    let may : MayDo c.args.slices c.args.count c.args.lines.now c.args.book.now c.args.subscribers.now.items =
    c.requires.may in
    c.len-slots.ensures.length ∙ sym may.are.turned.many ∙ ap length (sym c.as_slice.ensures.value)

pub shares_of-requires-clause-within : goal.shares_of-requires-clause-within
shares_of-requires-clause-within c =
    let may : MayDo c.args.slices c.args.count c.args.lines.now c.args.book.now c.args.subscribers.now.items =
    c.requires.may in
    let mean : map (meaning_in c.as_slice-octets.result.now) c.as_slice-kept.result.now ≡ may.are.made =
    mean_lent may.are.made c.args.lines.now c.as_slice-kept.result.now c.as_slice-octets.result.now may.are.kept_so
    c.as_slice-kept.ensures.value c.as_slice-octets.ensures.value in
    subst (λ (ss : List SubscriberState). All (IsWithin (length ss))
    (map (meaning_in c.as_slice-octets.result.now) c.as_slice-kept.result.now)) (sym c.as_slice.ensures.value)
    (subst (λ (ms : List Meaning). All (IsWithin (length c.args.subscribers.now.items)) ms) (sym mean)
    may.are.turned.within)

pub shares_of-requires-clause-placed : goal.shares_of-requires-clause-placed
shares_of-requires-clause-placed c =
    let may : MayDo c.args.slices c.args.count c.args.lines.now c.args.book.now c.args.subscribers.now.items =
    c.requires.may in
    placed_lent may.are.made c.args.lines.now c.as_slice-kept.result.now c.as_slice-octets.result.now may.are.kept_so
    c.as_slice-kept.ensures.value c.as_slice-octets.ensures.value

pub shares_of-requires-clause-outcomes : goal.shares_of-requires-clause-outcomes
shares_of-requires-clause-outcomes c =
    let may : MayDo c.args.slices c.args.count c.args.lines.now c.args.book.now c.args.subscribers.now.items =
    c.requires.may in
    let scheduled = c.in_ok-scheduled.scheduled in
    let plan : Planned c.args.rooms c.args.slices may.subscribers may.taken
    (turns_told c.args.turns.now c.args.slices (length may.taken)) may.are.made scheduled =
    planned_so c.args.rooms c.args.slices may.book c.args.book.now may.subscribers c.args.subscribers.now.items may.taken
    c.args.lines.now c.as_slice-bounds.result.now c.as_slice-asks.result.now c.args.turns.now scheduled may.are
    c.as_slice-bounds.ensures.value c.as_slice-asks.ensures.value c.in_ok-scheduled.ensures.outcomes
    c.in_ok-scheduled.ensures.met in
    plan.long ∙ sym (length-kept may.are.made c.args.lines.now may.are.kept_so)
    ∙ ap length (sym c.as_slice-kept.ensures.value)

pub shares_of-requires-clause-met : goal.shares_of-requires-clause-met
shares_of-requires-clause-met c =
    let may : MayDo c.args.slices c.args.count c.args.lines.now c.args.book.now c.args.subscribers.now.items =
    c.requires.may in
    let between : List SubscriberState = c.args.subscribers.now.items in
    let scheduled = c.in_ok-scheduled.scheduled in
    let plan : Planned c.args.rooms c.args.slices may.subscribers may.taken
    (turns_told c.args.turns.now c.args.slices (length may.taken)) may.are.made scheduled =
    planned_so c.args.rooms c.args.slices may.book c.args.book.now may.subscribers c.args.subscribers.now.items may.taken
    c.args.lines.now c.as_slice-bounds.result.now c.as_slice-asks.result.now c.args.turns.now scheduled may.are
    c.as_slice-bounds.ensures.value c.as_slice-asks.ensures.value c.in_ok-scheduled.ensures.outcomes
    c.in_ok-scheduled.ensures.met in
    let met : AreMet scheduled between (opened 0 may.are.made scheduled.outcomes) =
    are_met c.args.rooms (bound_of c.args.slices may.subscribers)
    (turns_told c.args.turns.now c.args.slices (length may.taken)) may.are.made c.args.slices c.args.count may.latest
    between scheduled plan.outcomes_are plan.mets_are (omega (arith, may.few, plan.counted))
    (may.are.turned.rest c.args.count may.latest may.at_rest) in
    let mean : map (meaning_in c.as_slice-octets.result.now) c.as_slice-kept.result.now ≡ may.are.made =
    mean_lent may.are.made c.args.lines.now c.as_slice-kept.result.now c.as_slice-octets.result.now may.are.kept_so
    c.as_slice-kept.ensures.value c.as_slice-octets.ensures.value in
    subst (λ (ss : List SubscriberState). AreMet scheduled ss
    (opened 0 (map (meaning_in c.as_slice-octets.result.now) c.as_slice-kept.result.now) scheduled.outcomes))
    (sym c.as_slice.ensures.value)
    (subst (λ (ms : List Meaning). AreMet scheduled between (opened 0 ms scheduled.outcomes)) (sym mean) met)

pub replay_all-requires-clause-can : goal.replay_all-requires-clause-can
replay_all-requires-clause-can c =
    let may : MayDo c.args.slices c.args.count c.args.lines.now c.args.book.now c.args.subscribers.now.items =
    c.requires.may in
    let between : List SubscriberState = c.args.subscribers.now.items in
    let scheduled = c.in_ok-scheduled.scheduled in
    let shares : List Share = c.in_ok-shares.shares.items in
    let mean : map (meaning_in c.as_slice-octets.result.now) c.as_slice-kept.result.now ≡ may.are.made =
    mean_lent may.are.made c.args.lines.now c.as_slice-kept.result.now c.as_slice-octets.result.now may.are.kept_so
    c.as_slice-kept.ensures.value c.as_slice-octets.ensures.value in
    let are : (n : ℕ) → AreShares shares between scheduled (opened n may.are.made scheduled.outcomes) =
    λ n. subst (λ (ss : List SubscriberState). AreShares shares ss scheduled
    (opened n may.are.made scheduled.outcomes)) c.as_slice.ensures.value
    (subst (λ (ms : List Meaning). AreShares shares c.as_slice.result.now scheduled (opened n ms scheduled.outcomes)) mean
    (c.in_ok-shares.ensures.shares n)) in
    let many : length shares ≡ length between =
    omega (arith, c.in_ok-shares.ensures.many, ap length c.as_slice.ensures.value, c.in_ok-shares.shares.ok.0) in
    subst (λ (ss : List Share). AllCanDo between ss) (sym c.as_slice-2.ensures.value)
    (all_can c.args.slices c.args.count may.latest between shares scheduled may.taken may.are.made scheduled.outcomes 0
    (may.are.turned.rest c.args.count may.latest may.at_rest) many (are 0) may.later may.are.turned.moments may.few)

pub join-requires-clause-within : goal.join-requires-clause-within
join-requires-clause-within c =
    let may : MayDo c.args.slices c.args.count c.args.lines.now c.args.book.now c.args.subscribers.now.items =
    c.requires.may in
    let mean : map (meaning_in c.as_slice-octets.result.now) c.as_slice-kept.result.now ≡ may.are.made =
    mean_lent may.are.made c.args.lines.now c.as_slice-kept.result.now c.as_slice-octets.result.now may.are.kept_so
    c.as_slice-kept.ensures.value c.as_slice-octets.ensures.value in
    let slots : c.len-slots.result ≡ length c.args.subscribers.now.items =
    c.len-slots.ensures.length ∙ sym may.are.turned.many in
    let answered : length c.in_ok-replays.replays.answers.items ≡ length c.args.subscribers.now.items =
    c.in_ok-replays.ensures.answered ∙ slots in
    subst (λ n. All (IsWithin n) (map (meaning_in []) c.as_slice-kept.result.now)) (sym answered)
    (all_within_any (length c.args.subscribers.now.items) c.as_slice-octets.result.now [] c.as_slice-kept.result.now
    (subst (λ (ms : List Meaning). All (IsWithin (length c.args.subscribers.now.items)) ms) (sym mean)
    may.are.turned.within))

pub join-requires-clause-outcomes : goal.join-requires-clause-outcomes
join-requires-clause-outcomes c =
    let may : MayDo c.args.slices c.args.count c.args.lines.now c.args.book.now c.args.subscribers.now.items =
    c.requires.may in
    let scheduled = c.in_ok-scheduled.scheduled in
    let plan : Planned c.args.rooms c.args.slices may.subscribers may.taken
    (turns_told c.args.turns.now c.args.slices (length may.taken)) may.are.made scheduled =
    planned_so c.args.rooms c.args.slices may.book c.args.book.now may.subscribers c.args.subscribers.now.items may.taken
    c.args.lines.now c.as_slice-bounds.result.now c.as_slice-asks.result.now c.args.turns.now scheduled may.are
    c.as_slice-bounds.ensures.value c.as_slice-asks.ensures.value c.in_ok-scheduled.ensures.outcomes
    c.in_ok-scheduled.ensures.met in
    ap length c.outcomes.ensures ∙ plan.long ∙ sym (length-kept may.are.made c.args.lines.now may.are.kept_so)
    ∙ ap length (sym c.as_slice-kept.ensures.value)

pub join-requires-clause-few : goal.join-requires-clause-few
join-requires-clause-few c =
    let may : MayDo c.args.slices c.args.count c.args.lines.now c.args.book.now c.args.subscribers.now.items =
    c.requires.may in
    let many = length-kept may.are.made c.args.lines.now may.are.kept_so in
    let counted = length-moments may.taken may.are.made may.are.turned.moments in
    omega (arith, may.few, many, counted, ap length c.as_slice-kept.ensures.value)

pub join-requires-clause-short : goal.join-requires-clause-short
join-requires-clause-short c = c.in_ok-replays.ensures.short

pub returns-clause-does : goal.returns-clause-does
returns-clause-does c = λ first_book first taken are_taken.
    let between : List SubscriberState = c.args.subscribers.now.items in
    let made : List Meaning = are_taken.made in
    let scheduled = c.in_ok-scheduled.scheduled in
    let plan : Planned c.args.rooms c.args.slices first taken
    (turns_told c.args.turns.now c.args.slices (length taken)) made scheduled =
    planned_so c.args.rooms c.args.slices first_book c.args.book.now first between taken
    c.args.lines.now c.as_slice-bounds.result.now c.as_slice-asks.result.now c.args.turns.now scheduled are_taken
    c.as_slice-bounds.ensures.value c.as_slice-asks.ensures.value c.in_ok-scheduled.ensures.outcomes
    c.in_ok-scheduled.ensures.met in
    let shares : List Share = c.in_ok-shares.shares.items in
    let mean : map (meaning_in c.as_slice-octets.result.now) c.as_slice-kept.result.now ≡ made =
    mean_lent made c.args.lines.now c.as_slice-kept.result.now c.as_slice-octets.result.now are_taken.kept_so
    c.as_slice-kept.ensures.value c.as_slice-octets.ensures.value in
    let are : (n : ℕ) → AreShares shares between scheduled (opened n made scheduled.outcomes) =
    λ n. subst (λ (ss : List SubscriberState). AreShares shares ss scheduled
    (opened n made scheduled.outcomes)) c.as_slice.ensures.value
    (subst (λ (ms : List Meaning). AreShares shares c.as_slice.result.now scheduled (opened n ms scheduled.outcomes)) mean
    (c.in_ok-shares.ensures.shares n)) in
    let many : length shares ≡ length between =
    omega (arith, c.in_ok-shares.ensures.many, ap length c.as_slice.ensures.value, c.in_ok-shares.shares.ok.0) in
    let replays = c.in_ok-replays.replays in
    let new : List SubscriberState = c.replay_all.new.subscribers.items in
    let slots : c.len-slots.result ≡ length between = c.len-slots.ensures.length ∙ sym are_taken.turned.many in
    record {
      made = made;
      between = between;
      plan = scheduled;
      shares = shares;
      replays = replays;
      turned = are_taken.turned;
      outcomes_are = plan.outcomes_are;
      mets_are = plan.mets_are;
      many = many;
      are = are;
      done = subst (λ (n : ℕ). HaveDone between new shares replays n) slots
          (subst (λ (ss : List Share). HaveDone between new ss replays c.len-slots.result) c.as_slice-2.ensures.value
          c.in_ok-replays.ensures);
      joined = c.in_ok-entries.ensures.entries c.as_slice-octets.result.now
          ∙ ap (λ (os : List Outcome). filled (open_entries (c.args.count + 1)
          (map (meaning_in c.as_slice-octets.result.now) c.as_slice-kept.result.now) os)
          (replies_at replays.answers.items) (mets_at replays.answers.items)) c.outcomes.ensures
          ∙ ap (λ (ms : List Meaning). filled (open_entries (c.args.count + 1) ms scheduled.outcomes)
          (replies_at replays.answers.items) (mets_at replays.answers.items)) mean;
      effects = refl;
      rows = refl;
    }
