-- The parts of what represents events fit its version.
use Rattle.std.proofs.Common.{◌≡◌, ℕ, ◌≤◌, true, List, length, Option, Some, None, sym, ap, ◌∙◌, subst}
use Rattle.charging_book.specs.Parts.{are_parts}
use Rattle.bearer_state.specs.declared.version.ActiveBearer.{ActiveBearer}
use Rattle.bearer_state.specs.Version.{VersionState}
use Rattle.packet_steps.specs.Rows.{HeldRow, in_order, held_in_order}
use Rattle.packet_steps.specs.Parts.{buckets_in, buckets_fit, were_asked, all_may_wait, held_fit, pieces_fit, may_fit}
use Rattle.gate_model.specs.SlotPast.{past_of}
use Rattle.gate_model.specs.Few.{AtMostSixteenAreHeld}
use Rattle.subscriber.specs.Fitting.{RepresentedPartsFit}
use Rattle.subscriber.proofs.FitBuckets.{both_are, le_test, buckets_stand}
use Rattle.subscriber.proofs.FitHeld.{all_wait, may_all_wait}
use Rattle.subscriber.proofs.FitPieces.{pieces_of_bearers}

waiting_fits : (last : Option ℕ) (bearers : List ActiveBearer) (rows : List HeldRow) → length rows ≤ 16
    → all_may_wait bearers rows ≡ true → held_in_order last rows ≡ true → held_fit last bearers rows ≡ true
waiting_fits None bearers rows few wait ordered = ordered
waiting_fits (Some last) bearers rows few wait ordered =
    both_are _ _ (le_test (length rows) 16 few) (both_are (all_may_wait bearers rows) (in_order 0 last rows) wait ordered)

pub parts_fit : AtMostSixteenAreHeld → RepresentedPartsFit
parts_fit few subscriber slot events taken parts stands are counting ordered =
    let past = (past_of slot events).packets in
    let version : past.version ≡ subscriber.version = sym stands.version in
    let meters = subscriber.counters.meters in
    let buckets = buckets_stand meters past stands.counters.meters in
    let bearers : past.version.bearers ≡ subscriber.version.bearers = ap (λ (v : VersionState). v.bearers) version in
    let held : parts.held ≡ past.held = are.held ∙ stands.counters.held in
    let last : parts.last ≡ past.last = are.last ∙ stands.counters.last in
    let lists : parts.buckets ≡ buckets_in past.version.bearers meters =
    are.buckets ∙ ap (λ bs. buckets_in bs meters) (sym bearers) in
    let rates : buckets_fit subscriber.version parts.buckets ≡ true =
    ap (buckets_fit subscriber.version) lists
    ∙ ap (λ (v : VersionState). buckets_fit v (buckets_in past.version.bearers meters)) (sym version) ∙ buckets.rates in
    let asked : were_asked parts.last parts.buckets ≡ true =
    ap (were_asked parts.last) lists ∙ ap (λ l. were_asked l (buckets_in past.version.bearers meters)) last
    ∙ buckets.asked in
    let wait : all_may_wait subscriber.version.bearers parts.held ≡ true =
    ap (all_may_wait subscriber.version.bearers) held ∙ ap (λ bs. all_may_wait bs past.held) (sym bearers)
    ∙ may_all_wait past (all_wait slot events) in
    let most : length parts.held ≤ 16 =
    subst (λ (rows : List HeldRow). length rows ≤ 16) (sym held) (few slot events) in
    let waiting = waiting_fits parts.last subscriber.version.bearers parts.held most wait ordered in
    let pieces : pieces_fit subscriber.version.bearers parts.pieces ≡ true =
    ap (λ bs. pieces_fit bs parts.pieces) (sym bearers)
    ∙ pieces_of_bearers slot events parts.pieces (are.pieces.opens ∙ stands.counters.charges.opens) in
    both_are (may_fit subscriber.version parts) (are_parts parts.pieces)
    (both_are (buckets_fit subscriber.version parts.buckets) _ rates
    (both_are (were_asked parts.last parts.buckets) _ asked
    (both_are (held_fit parts.last subscriber.version.bearers parts.held) _ waiting pieces))) counting
