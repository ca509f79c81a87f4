-- A trace that is cut behind whole epochs, saved and resumed, has the report of the whole.
use Rattle.std.proofs.Common.{◌≡◌, ℕ, ◌+◌, ◌*◌, ◌==◌, Bool, true, false, cond, List, [], ◌∷◌, ◌++◌, length, map, Option, Some, refl, sym, ap, ◌∙◌, subst, arith, append-nil}
use Rattle.std.specs.List.{find, flat_map}
use Rattle.std.specs.Option.{option_map}
use Rattle.charging_book.specs.Parts.{counts_in}
use Rattle.charging_book.specs.Posted.{is_of}
use Rattle.charging_book.specs.Rows.{Counters}
use Rattle.charging_book.specs.declared.records.Piece.{Piece}
use Rattle.bearer_state.specs.Version.{VersionState}
use Rattle.bearer_state.specs.declared.version.ActiveBearer.{ActiveBearer}
use Rattle.trace_lines.specs.Epochs.{epochs_of}
use Rattle.trace_lines.specs.Line.{Line}
use Rattle.trace_lines.proofs.EpochLemmas.{are_epochs}
use Rattle.report_lines.specs.declared.entry.ChargeEntry.{ChargeEntry}
use Rattle.lawful_run.specs.Cut.{lines_in}
use Rattle.lawful_run.specs.Report.{EpochReport}
use Rattle.subscriber.specs.Standing.{SubscriberState}
use Rattle.subscriber.specs.Subscribers.{AreSubscribersAlike}
use Rattle.record_codec.specs.Saved.{all_saved}
use Rattle.trace_run.specs.Entries.{open_entry, open_for}
use Rattle.solo_command.specs.Gateway.{AnswersLines, no_subscribers}
use Rattle.solo_command.specs.Reports.{AnswersEpochs, opens_from, opens_of, stop_told}
use Rattle.solo_command.specs.Law.{ResumedReportsGoOn}
use Rattle.solo_command.proofs.Steps.{AreOne, step}
use Rattle.solo_command.proofs.Gateways.{AreAllOne, AreGatewaysOne, LinesAlike, lines_one}
use Rattle.solo_command.proofs.Splits.{ReportsAlike, Split, all_lines, all_one, epochs_one, split}
use Rattle.solo_command.proofs.SavedAlike.{all_saved_alike, all_saved_same}

-- ---- open counters

find_if : (passes : Bool) (piece : Piece) (x : Option Counters) (y : Option Piece) → x ≡ option_map counts_in y
    → cond passes (Some (counts_in piece)) x ≡ option_map counts_in (cond passes (Some piece) y)
find_if true piece x y same = refl
find_if false piece x y same = same

find_counts : (life : ℕ) (pieces : List Piece)
    → find (λ (counters : Counters). counters.life == life) (map counts_in pieces)
    ≡ option_map counts_in (find (is_of life) pieces)
find_counts life [] = refl
find_counts life (piece ∷ pieces) =
    find_if (piece.counts.life == life) piece
    (find (λ (counters : Counters). counters.life == life) (map counts_in pieces)) (find (is_of life) pieces)
    (find_counts life pieces)

open_same : (slot life : ℕ) (one other : SubscriberState) (pieces others : List Piece)
    → AreSubscribersAlike one other pieces others
    → open_for slot one.counters.book.opens life ≡ open_for slot other.counters.book.opens life
open_same slot life one other pieces others are =
    let found : List Counters → Option Counters = find (λ (counters : Counters). counters.life == life) in
    ap (open_entry slot)
    (ap found (sym are.counters.pieces_are.opens) ∙ find_counts life pieces
    ∙ ap (option_map counts_in) (are.counters.pieces_alike.same life)
    ∙ sym (find_counts life others) ∙ ap found are.counters.others_are.opens)

all_open : (slot : ℕ) (bearers : List ActiveBearer) (one other : SubscriberState) (pieces others : List Piece)
    → AreSubscribersAlike one other pieces others
    → flat_map (λ (bearer : ActiveBearer). open_for slot one.counters.book.opens bearer.life) bearers
    ≡ flat_map (λ (bearer : ActiveBearer). open_for slot other.counters.book.opens bearer.life) bearers
all_open slot [] one other pieces others are = refl
all_open slot (bearer ∷ bearers) one other pieces others are =
    ap (λ (entries : List ChargeEntry). entries
    ++ flat_map (λ (b : ActiveBearer). open_for slot one.counters.book.opens b.life) bearers)
    (open_same slot bearer.life one other pieces others are)
    ∙ ap (λ (entries : List ChargeEntry). open_for slot other.counters.book.opens bearer.life ++ entries)
    (all_open slot bearers one other pieces others are)

opens_one : (slot : ℕ) (one other : SubscriberState) (most : ℕ) → AreOne one other most
    → opens_of slot one ≡ opens_of slot other
opens_one slot one other most are =
    all_open slot one.version.bearers one other are.pieces are.others are.alike
    ∙ ap (λ (v : VersionState). flat_map
    (λ (b : ActiveBearer). open_for slot other.counters.book.opens b.life) v.bearers) are.alike.version

pub opens_same : (slot : ℕ) (ones others : List SubscriberState) (most : ℕ) → AreAllOne ones others most
    → opens_from slot ones ≡ opens_from slot others
opens_same slot [] [] most each = refl
opens_same slot [] (other ∷ others) most each = absurd each
opens_same slot (one ∷ ones) [] most each = absurd each
opens_same slot (one ∷ ones) (other ∷ others) most each =
    ap (λ (entries : List ChargeEntry). entries ++ opens_from (slot + 1) ones) (opens_one slot one other most each.0)
    ∙ ap (λ (entries : List ChargeEntry). opens_of slot other ++ entries) (opens_same (slot + 1) ones others most each.1)

-- ---- the law

pub none_one : AreGatewaysOne no_subscribers no_subscribers 0
none_one = record { book = refl; many = refl; each = tt }

pub reports_go_on : ResumedReportsGoOn
reports_go_on slices before behind closed stop file whole first resumed cut few left gives gives_first given =
    let parts : before ≡ lines_in closed = cut.parts ∙ append-nil (lines_in closed) in
    let whole_epochs : epochs_of (before ++ behind) ≡ closed ++ epochs_of behind =
    ap (λ (l : List Line). epochs_of (l ++ behind)) parts ∙ cut.closes behind in
    let first_epochs : epochs_of before ≡ closed ++ [] =
    ap epochs_of (parts ∙ sym (append-nil (lines_in closed))) ∙ cut.closes [] in
    let counted : length (lines_in closed) ≡ length before = sym (ap length parts) in
    let behind_counted : length (lines_in (epochs_of behind)) ≡ length behind = ap length (are_epochs behind).whole in
    let all : Split slices closed (epochs_of behind) (stop_told stop) no_subscribers whole.epochs gives.last =
    split slices closed (epochs_of behind) (stop_told stop) no_subscribers whole.epochs gives.last cut.whole
    (subst (λ (es : List (List Line)). AnswersEpochs slices es (stop_told stop) no_subscribers whole.epochs gives.last)
    whole_epochs gives.epochs) in
    let alone : Split slices closed [] [] no_subscribers first.epochs gives_first.last =
    split slices closed [] [] no_subscribers first.epochs gives_first.last cut.whole
    (subst (λ (es : List (List Line)). AnswersEpochs slices es [] no_subscribers first.epochs gives_first.last)
    first_epochs gives_first.epochs) in
    let most = 0 + length (lines_in closed) * step in
    let firsts : ReportsAlike all.before alone.before all.between alone.between most =
    all_one slices closed no_subscribers no_subscribers all.between alone.between all.before alone.before 0 none_one
    (omega arith) all.answers alone.answers in
    let flat = all_lines slices closed no_subscribers all.between all.before all.answers in
    let left_lines : AnswersLines slices (lines_in closed) no_subscribers left.told left.gateway =
    subst (λ (l : List Line). AnswersLines slices l no_subscribers left.told left.gateway) parts left.answers in
    let lefts : LinesAlike flat.0 left.told all.between left.gateway most =
    lines_one slices (lines_in closed) no_subscribers no_subscribers all.between left.gateway flat.0 left.told 0
    none_one (omega arith) flat.1 left_lines in
    let mid = all.between in
    let again = given.gateway in
    let saved : all_saved mid.book mid.subscribers ≡ all_saved again.book again.subscribers =
    all_saved_same mid.book mid.subscribers left.gateway.subscribers most lefts.are.each
    ∙ ap (λ (b : List (List ℕ)). all_saved b left.gateway.subscribers) lefts.are.book
    ∙ sym left.saved ∙ given.has_state.saved in
    let both = all_saved_alike mid.book again.book mid.subscribers left.gateway.subscribers again.subscribers most
    lefts.are.each lefts.are.many given.has_state.many given.has_state.resting saved in
    let alike : AreGatewaysOne mid again most = record {
      book = both.0;
      many = lefts.are.many;
      each = both.1;
    } in
    let rest = epochs_one slices (epochs_of behind) (stop_told stop) mid again gives.last given.gives.last all.behind
    resumed.epochs most alike (omega arith) all.goes_on given.gives.epochs in
    let alone_is : first.epochs ≡ alone.before =
    alone.parts ∙ ap (λ (rs : List EpochReport). alone.before ++ rs) alone.goes_on.0 ∙ append-nil alone.before in (
      all.parts ∙ ap (λ (rs : List EpochReport). rs ++ all.behind) (firsts.reporting ∙ sym alone_is)
          ∙ ap (λ (rs : List EpochReport). first.epochs ++ rs) rest.reporting,
      gives.opens
          ∙ opens_same 0 gives.last.subscribers given.gives.last.subscribers
          (most + length (lines_in (epochs_of behind)) * step) rest.are.each
          ∙ sym given.gives.opens,
    )
