-- What a slot is charged is what was forwarded for it, and records are only added.
use Rattle.std.proofs.Common.{◌≡◌, ℕ, ◌+◌, ◌==◌, Bool, true, false, cond, if◌then◌else◌, nat_lt, List, [], ◌∷◌, ◌++◌, map, fold, length, drop, Option, Some, None, refl, sym, ap, ◌∙◌, append_assoc}
use Rattle.std.specs.List.{filter, flat_map}
use Rattle.std.proofs.lemmas.Grind.{flat_map-append}
use Rattle.std.proofs.lemmas.List.{append-nil}
use Rattle.std.proofs.lemmas.List.Elements.{filter-append, filter_map-append}
use Rattle.pc_base.specs.declared.effect.Effect.{Effect}
use Rattle.pc_base.specs.declared.effect.Effect.TheVariants as effect
use Rattle.pc_base.specs.declared.packet.Packet.{Packet}
use Rattle.pc_base.specs.declared.packet.Peer.{Peer}
use Rattle.pc_base.specs.declared.packet.Verdict.{Verdict}
use Rattle.bearer_state.specs.declared.version.ActiveBearer.{ActiveBearer}
use Rattle.bearer_state.specs.Version.{VersionState}
use Rattle.charging_book.specs.declared.records.Why.{Why}
use Rattle.charging_book.specs.declared.records.Why.TheVariants.{Qos, Gone}
use Rattle.charging_book.specs.Happenings.{Happening, started, forwarded, closed, rows_from, rows_of}
use Rattle.charging_book.specs.Ledger.{packet_by, packets_of}
use Rattle.charging_book.proofs.Steps.{rows_from-append}
use Rattle.charging_book.proofs.Partition.{ledgers_are_partitions}
use Rattle.packet_steps.specs.Messages.{end_marker}
use Rattle.packet_steps.specs.Rows.{ForwardedRow, HeldRow}
use Rattle.packet_steps.specs.Past.{Past, row_for, happening_for}
use Rattle.packet_steps.specs.Verdicts.{at_moment, judged}
use Rattle.packet_steps.specs.Change.{ended, cut, begun, marks, shares_ambr, shared_with, lacking_in, same_peer, marker_between, marker_for, enb_of, markers, marked, released, learnt}
use Rattle.gate_model.specs.declared.event.Event.{Event}
use Rattle.gate_model.specs.declared.event.Event.TheVariants as event
use Rattle.gate_model.specs.SlotPast.{SlotPast, new_slot, next_version, commanded, met, happens, behind, past_of, records_after, records_made}
use Rattle.gate_model.specs.Stories.{episodes_from}
use Rattle.gate_model.specs.Ledger.{Sent, sent_as, sent_by_verdict, sent_by_effect, sent_in, charged_as, rows_of_life, ForwardedIsTold, EachPacketInOnePiece, RecordsAreAdded}
use Rattle.gate_model.proofs.PastSteps.{Keeps, judged_kept, all_released}
use Rattle.gate_model.proofs.Outcomes.{JudgedAs, ReleasedAs, judged_as, released_as}
use Rattle.gate_model.proofs.Sound.{past_sound}
use Rattle.gate_model.proofs.Following.{past-append}

-- what was sent, so far
sent-push : (rows : List ForwardedRow) (row : ForwardedRow)
    → map sent_as (rows ++ row ∷ []) ≡ map sent_as rows ++ sent_as row ∷ []
sent-push [] row = refl
sent-push (r ∷ rows) row = ap (λ more. sent_as r ∷ more) (sent-push rows row)

abbrev sent_of : Past → List Sent
sent_of past = map sent_as past.forwarded

markers_none : (life : ℕ) (old new : Option Peer) → flat_map sent_by_effect (marker_between life old new) ≡ []
markers_none life None new = refl
markers_none life (Some old) None = refl
markers_none life (Some old) (Some new) = by_peer (same_peer old new)
  where
    by_peer : (same : Bool) → flat_map sent_by_effect (cond same [] (effect.Marker life old.addr (end_marker old)
        ∷ [])) ≡ []
    by_peer true = refl
    by_peer false = refl

none_sent : (after : VersionState) (bearers : List ActiveBearer)
    → flat_map sent_by_effect (flat_map (marker_for after) bearers) ≡ []
none_sent after [] = refl
none_sent after (b ∷ bs) =
    flat_map-append sent_by_effect (marker_for after b) (flat_map (marker_for after) bs)
    ∙ ap (λ some. some ++ flat_map sent_by_effect (flat_map (marker_for after) bs))
    (markers_none b.life b.enb (enb_of after.bearers b.life))
    ∙ none_sent after bs

effects-push : (effects : List Effect) (now : Effect) (sent : List Sent) → sent_by_effect now ≡ sent
    → flat_map sent_by_effect (effects ++ now ∷ []) ≡ flat_map sent_by_effect effects ++ sent
effects-push effects now sent is =
    flat_map-append sent_by_effect effects (now ∷ []) ∙ ap (λ more. flat_map sent_by_effect effects ++ more)
    (append-nil (sent_by_effect now) ∙ is)

one_sent : (base : List Sent) (so_far : Past × List Effect) (row : HeldRow) (outcome : Past × List Effect)
    → ReleasedAs so_far row outcome
    → sent_of so_far.0 ≡ base ++ flat_map sent_by_effect so_far.1
    → sent_of outcome.0 ≡ base ++ flat_map sent_by_effect outcome.1
one_sent base so_far row outcome (ReleasedAs.ends fate_ past effects none) sent =
    let more = ap (flat_map sent_by_effect) effects ∙ effects-push so_far.1
    (effect.Fate row.packet.number fate_) [] none ∙ append-nil (flat_map sent_by_effect so_far.1) in
    ap sent_of past ∙ sent ∙ ap (λ es. base ++ es) (sym more)
one_sent base so_far row outcome (ReleasedAs.passed b fate_ there fits past effects shown) sent =
    let now : ForwardedRow = row_for so_far.0 b false (length row.packet.octets) in
    let more = ap (flat_map sent_by_effect) effects ∙ effects-push so_far.1 (effect.Fate row.packet.number fate_)
    (sent_as now ∷ []) shown in
    ap sent_of past ∙ sent-push so_far.0.forwarded now ∙ ap (λ some. some ++ sent_as now ∷ []) sent
    ∙ append_assoc base (flat_map sent_by_effect so_far.1) (sent_as now ∷ []) ∙ ap (λ es. base ++ es) (sym more)
one_sent base so_far row outcome (ReleasedAs.waits past effects) sent =
    ap sent_of past ∙ sent ∙ ap (λ es. base ++ flat_map sent_by_effect es) (sym effects)

all_sent : (base : List Sent) (so_far : Past × List Effect) (rows : List HeldRow)
    → sent_of so_far.0 ≡ base ++ flat_map sent_by_effect so_far.1
    → sent_of (fold released so_far rows).0 ≡ base ++ flat_map sent_by_effect (fold released so_far rows).1
all_sent base so_far [] sent = sent
all_sent base so_far (row ∷ rows) sent =
    all_sent base (released so_far row) rows (one_sent base so_far row (released so_far row)
    (released_as so_far row) sent)

learnt_sent : (past : Past) (after : VersionState) → sent_of (learnt past after).0 ≡ sent_of past
    ++ flat_map sent_by_effect (learnt past after).1
learnt_sent past after =
    all_sent (sent_of past) (marked past after, markers past.version after) past.held
    (sym (ap (λ more. sent_of past ++ more) (none_sent after past.version.bearers) ∙ append-nil (sent_of past)))

one_judged : (past : Past) (packet : Packet) (outcome : Past × Verdict) → JudgedAs past packet outcome
    → sent_of outcome.0 ≡ sent_of past ++ sent_by_verdict outcome.1
one_judged past packet outcome (JudgedAs.nothing same not_held shown) =
    ap sent_of same ∙ sym (ap (λ more. sent_of past ++ more) shown ∙ append-nil (sent_of past))
one_judged past packet outcome (JudgedAs.passed b way there fits same not_held shown) =
    ap sent_of same ∙ sent-push past.forwarded (row_for past b way (length packet.octets))
    ∙ ap (λ more. sent_of past ++ more) (sym shown)
one_judged past packet outcome (JudgedAs.waits b there few same held shown) =
    ap sent_of same ∙ sym (ap (λ more. sent_of past ++ more) shown ∙ append-nil (sent_of past))

told_from_sent : (past : SlotPast) (events : List Event)
    → sent_of (fold behind past events).packets ≡ sent_of past.packets ++ sent_in (episodes_from past events)
unfolding happens
told_from_sent past [] = sym (append-nil (sent_of past.packets))
told_from_sent past (event.Command command ∷ later) =
    let now = (learnt past.packets (next_version past command)).1 in
    told_from_sent (commanded past command) later
    ∙ ap (λ some. some ++ sent_in (episodes_from (commanded past command) later))
    (learnt_sent past.packets (next_version past command))
    ∙ append_assoc (sent_of past.packets) (flat_map sent_by_effect now)
    (sent_in (episodes_from (commanded past command) later))
told_from_sent past (event.Packet packet ∷ later) =
    let now = (judged past.packets packet).1 in
    told_from_sent (met past packet) later
    ∙ ap (λ some. some ++ sent_in (episodes_from (met past packet) later))
    (one_judged (at_moment past.packets packet.moment) packet (judged past.packets packet)
    (judged_as past.packets packet))
    ∙ append_assoc (sent_of past.packets) (sent_by_verdict now) (sent_in (episodes_from (met past packet) later))

pub forwarded_told : ForwardedIsTold
forwarded_told slot events = told_from_sent (new_slot slot) events

-- what the book hears of packets
abbrev heard : ℕ → Past → Type 0
heard life past = packets_of life past.charged ≡ map charged_as (rows_of_life life past.forwarded)

charged-push : (rows : List ForwardedRow) (row : ForwardedRow)
    → map charged_as (rows ++ row ∷ []) ≡ map charged_as rows ++ charged_as row ∷ []
charged-push [] row = refl
charged-push (r ∷ rows) row = ap (λ more. charged_as r ∷ more) (charged-push rows row)

heard_one : (life : ℕ) (row : ForwardedRow) (same : Bool) → (row.life == life) ≡ same
    → packets_of life (happening_for row ∷ []) ≡ map charged_as (rows_of_life life (row ∷ []))
heard_one life row true is = rw is refl
heard_one life row false is = rw is refl

map_both : (rows more : List ForwardedRow) → map charged_as (rows ++ more) ≡ map charged_as rows ++ map charged_as more
map_both [] more = refl
map_both (r ∷ rows) more = ap (λ some. charged_as r ∷ some) (map_both rows more)

heard_keeps : (life : ℕ) → Keeps (heard life) (λ n. Unit {0})
heard_keeps life = record {
  row = λ past b way octets is there passed.
      let row : ForwardedRow = row_for past b way octets in
      filter_map-append (packet_by life) past.charged (happening_for row ∷ [])
      ∙ ap (λ some. some ++ packets_of life (happening_for row ∷ [])) is
      ∙ ap (λ more. map charged_as (rows_of_life life past.forwarded) ++ more)
      (heard_one life row (row.life == life) refl)
      ∙ sym (ap (map charged_as) (filter-append (λ (r : ForwardedRow). r.life == life) past.forwarded (row ∷ []))
      ∙ map_both (rows_of_life life past.forwarded) (rows_of_life life (row ∷ [])));
  waiting = λ past row is known. is;
  moment = λ past at is. is;
  active = λ past b is there. tt;
}

-- nothing of a packet in what a version brings
none_closed : (life : ℕ) (why : Why) (bearers : List ActiveBearer)
    → packets_of life (map (λ (b : ActiveBearer). closed b.life why) bearers) ≡ []
none_closed life why [] = refl
none_closed life why (b ∷ bs) = none_closed life why bs

none_begun : (life : ℕ) (bearers : List ActiveBearer)
    → packets_of life (map (λ (b : ActiveBearer). started b.life b.ebi b.qos.qci) bearers) ≡ []
none_begun life [] = refl
none_begun life (b ∷ bs) = none_begun life bs

none_cut : (life : ℕ) (rose : Bool) (bearers : List ActiveBearer)
    → packets_of life (if rose then map (λ (b : ActiveBearer). closed b.life Qos) bearers else []) ≡ []
none_cut life true bearers = none_closed life Qos bearers
none_cut life false bearers = refl

none_marked : (life : ℕ) (before after : VersionState) → packets_of life (marks before after) ≡ []
none_marked life before after =
    filter_map-append (packet_by life) (ended before.bearers after.bearers
    ++ cut (nat_lt before.rates after.rates) before.bearers after.bearers) (begun before.bearers after.bearers)
    ∙ ap (λ some. some ++ packets_of life (begun before.bearers after.bearers))
    (filter_map-append (packet_by life) (ended before.bearers after.bearers)
    (cut (nat_lt before.rates after.rates) before.bearers after.bearers)
    ∙ ap (λ some. some ++ packets_of life (cut (nat_lt before.rates after.rates) before.bearers after.bearers))
    (none_closed life Gone (lacking_in after.bearers before.bearers))
    ∙ none_cut life (nat_lt before.rates after.rates) (filter shares_ambr (shared_with after.bearers before.bearers)))
    ∙ none_begun life (lacking_in before.bearers after.bearers)

heard_learnt : (life : ℕ) (past : Past) (after : VersionState) → heard life past → heard life (learnt past after).0
heard_learnt life past after is =
    let at_marks : heard life (marked past after) =
    filter_map-append (packet_by life) past.charged (marks past.version after)
    ∙ ap (λ more. packets_of life past.charged ++ more) (none_marked life past.version after)
    ∙ append-nil (packets_of life past.charged) ∙ is in
    all_released (heard life) (λ n. Unit {0}) (heard_keeps life) (
      marked past after,
      markers past.version after,
    ) past.held at_marks (λ row there. tt)

heard_from : (life : ℕ) (past : SlotPast) (events : List Event) → heard life past.packets
    → heard life (fold behind past events).packets
unfolding happens
heard_from life past [] is = is
heard_from life past (event.Command command ∷ later) is =
    heard_from life (commanded past command) later (heard_learnt life past.packets (next_version past command) is)
heard_from life past (event.Packet packet ∷ later) is =
    heard_from life (met past packet) later (judged_kept (heard life) (λ n. Unit {0})
    (heard_keeps life) past.packets packet is)

pub in_one_piece : EachPacketInOnePiece
in_one_piece slot events life = record {
  partition = ledgers_are_partitions (past_of slot events).packets.charged life (past_sound slot events).packets.lawful;
  packets = heard_from life (new_slot slot) events refl;
}

-- happenings are only added, and so are records
pub record GoesOn (base : List Happening) (past : Past) : Type 0 where
  pub more : List Happening
  pub is : past.charged ≡ base ++ more

on_keeps : (base : List Happening) → Keeps (GoesOn base) (λ n. Unit {0})
on_keeps base = record {
  row = λ past b way octets on there passed. record {
    more = on.more ++ happening_for (row_for past b way octets) ∷ [];
    is = ap (λ some. some ++ happening_for (row_for past b way octets) ∷ []) on.is
        ∙ append_assoc base on.more (happening_for (row_for past b way octets) ∷ []);
  };
  waiting = λ past row on known. record { more = on.more; is = on.is };
  moment = λ past at on. record { more = on.more; is = on.is };
  active = λ past b on there. tt;
}

on_from : (base : List Happening) (past : SlotPast) (events : List Event) → GoesOn base past.packets
    → GoesOn base (fold behind past events).packets
unfolding happens
on_from base past [] on = on
on_from base past (event.Command command ∷ later) on =
    let after : VersionState = next_version past command in
    let new : List Happening = marks past.packets.version after in
    on_from base (commanded past command) later
    (all_released (GoesOn base) (λ n. Unit {0}) (on_keeps base) (
      marked past.packets after,
      markers past.packets.version after,
    ) past.packets.held
    (record { more = on.more ++ new; is = ap (λ some. some ++ new) on.is ∙ append_assoc base on.more new })
    (λ row there. tt))
on_from base past (event.Packet packet ∷ later) on =
    on_from base (met past packet) later (judged_kept (GoesOn base) (λ n. Unit {0})
    (on_keeps base) past.packets packet on)

drop_prefix : {X : Type 0} (xs ys : List X) → drop (length xs) (xs ++ ys) ≡ ys
drop_prefix [] ys = refl
drop_prefix (x ∷ xs) ys = drop_prefix xs ys

pub records_added : RecordsAreAdded
records_added slot before now =
    let base : List Happening = (past_of slot before).packets.charged in
    let on = on_from base (past_of slot before) now (record { more = []; is = sym (append-nil base) }) in
    let split : records_after slot (before ++ now) ≡ rows_of base ++ rows_from base on.more =
    ap (λ (past : SlotPast). rows_of past.packets.charged) (past-append slot before now) ∙ ap rows_of on.is
    ∙ rows_from-append [] base on.more in
    let made : records_made slot before now ≡ rows_from base on.more =
    ap (drop (length (rows_of base))) split ∙ drop_prefix (rows_of base) (rows_from base on.more) in
    split ∙ ap (λ rows. rows_of base ++ rows) (sym made)
