-- A front that is closed.
use Rattle.std.proofs.Common.{◌≡◌, ℕ, zero, suc, ◌+◌, ◌≤◌, List, [], ◌∷◌, length, get_or, refl, sym, ap, subst, ◌∙◌, arith, length-append}
use Rattle.std.specs.Prelude.{slice_get}
use Rattle.std.proofs.lemmas.List.{length-map}
use Rattle.trace_lines.specs.Line.{Line}
use Rattle.demux.specs.Destinations.{start_slice}
use Rattle.gate_model.specs.declared.event.Event.{Event}
use Rattle.lawful_run.specs.Merging.{Histories}
use Rattle.lawful_run.specs.Report.{EpochReport}
use Rattle.report_lines.specs.Records.{Effected}
use Rattle.report_lines.specs.declared.entry.ChargeEntry.{ChargeEntry}
use Rattle.subscriber.specs.Standing.{Represents, SubscriberState}
use Rattle.at_rest.specs.Meant.{AreStanding, Stand}
use Rattle.at_rest.specs.Rest.{IsBehind, RepresentsAll, Rest, destination_or}
use Rattle.lawful_run.specs.Filling.{filled}
use Rattle.front_core.specs.declared.halves.Halves.{Halves}
use Rattle.front_core.specs.Views.{view_at}
use Rattle.front_core.specs.declared.taken.Taken.{Taken}
use Rattle.front_core.specs.Entries.{lines_of, opens_of}
use Rattle.front_core.specs.Keeping.{FrontKeeps}
use Rattle.front_core.specs.declared.answers.SlotAnswers.{SlotAnswers}
use Rattle.front_core.specs.Closing.{Closes}
use Rattle.front_core.specs.Ending.{AllEnd}
use Rattle.front_core.specs.Filled.{mets_at, replies_at}
use Rattle.front_core.proofs.Joining as joining

-- subscribers that are bound for the same slices
bounds_same : (old new : List SubscriberState) (home slot : ℕ) → length new ≡ length old
    → ((k : ℕ) (none : SubscriberState) → (get_or new k none).destination ≡ (get_or old k none).destination)
    → destination_or home (slice_get new slot) ≡ destination_or home (slice_get old slot)
bounds_same [] [] home slot many same = refl
bounds_same [] (n ∷ new) home slot many same = absurd (omega (arith, many))
bounds_same (o ∷ old) [] home slot many same = absurd (omega (arith, many))
bounds_same (o ∷ old) (n ∷ new) home zero many same = same 0 o
bounds_same (o ∷ old) (n ∷ new) home (suc slot) many same =
    bounds_same old new home slot (omega (arith, many)) (λ k none. same (suc k) none)

stands_behind : (opened : Rest) (prior : List Line) → IsBehind opened prior
    → Stand opened.slices opened.book opened.subscribers prior
stands_behind opened prior is = record { book_is = is.book; bounds = is.bounds }

all_standing : (opened : Rest) (before : Histories) → RepresentsAll opened before
    → AreStanding opened.subscribers before
all_standing opened before are = record { each = are.each; beyond = are.beyond }

module _ (opened : Rest) (lines latest fulls : ℕ) (book : List (List ℕ)) (subs new : List SubscriberState)
    (halves : Halves) (entries : List Taken)
    (keeps : FrontKeeps opened opened.slices opened.lane lines latest book subs halves entries)
    (answers : List SlotAnswers) (effects : List Effected) (rows : List ChargeEntry)
    (ends : AllEnd (λ (slot : ℕ). (view_at halves slot).accepted) halves.lots.items subs new answers effects rows)
    (told : EpochReport)
    (lines_are : told.lines ≡ filled (opens_of (opened.lines + 1) entries) (replies_at answers) (mets_at answers))
    (effects_so : told.effects ≡ effects) (rows_so : told.rows ≡ rows) where
  abbrev pub rest : Rest
  rest = record {
    slices = opened.slices;
    room = opened.room;
    lane = opened.lane;
    book = book;
    subscribers = new;
    lines = lines;
    latest = latest;
    fulls = fulls;
  }

  enough : (slots : ℕ) → length book ≤ slots → length halves.lots.items ≤ slots
  enough slots le =
      let lots = keeps.halves_keep.lots_few in
      let many = keeps.as_many in
      omega (arith, lots, many, le)

  pub closed : Closes opened (lines_of entries) rest told
  closed = record {
    lawful = λ prior before slots is are le.
        joining.lawful opened opened.slices opened.lane lines latest book subs new halves entries keeps answers effects
        rows ends prior before (stands_behind opened prior is) (all_standing opened before are) are.few slots
        (enough slots le) told lines_are effects_so rows_so;
    represents = λ prior before is are.
        let stand = stands_behind opened prior is in
        let standing = all_standing opened before are in
        let events_are = joining.behind_is opened opened.slices opened.lane lines latest book subs new halves entries keeps
        answers effects rows ends prior before stand standing are.few (length halves.lots.items) (omega arith) told
        lines_are effects_so rows_so in
        let many = ends.many in
        record {
          each = λ slot none low.
              subst (λ (events : List Event). Represents (get_or new slot none) slot events) (sym (events_are slot))
              (joining.each_represents opened opened.slices opened.lane lines latest book subs new halves entries keeps
              answers effects rows ends prior before stand standing are.few slot none (omega (arith, low, many)));
          beyond = λ slot past.
              events_are slot ∙ joining.beyond_none opened opened.slices opened.lane lines latest book subs new halves
              entries keeps answers effects rows ends prior before stand standing are.few slot
              (omega (arith, past, many));
          few = λ slot.
              let short = joining.each_few opened opened.slices opened.lane lines latest book subs new halves entries keeps
              answers effects rows ends prior before stand standing are.few slot in
              let same = ap length (events_are slot) in
              omega (arith, short, same);
        };
    is_behind = λ prior is.
        let stand = keeps.stand prior (stands_behind opened prior is) in
        let count = is.count in
        let counted = keeps.counted in
        let all = length-append prior (lines_of entries) in
        let some = length-map entries (λ (t : Taken). t.line.value) in
        record {
          book = stand.book_is;
          bounds = λ slot.
              bounds_same subs new (start_slice opened.slices slot) slot ends.many
              (joining.each_bound opened opened.slices opened.lane lines latest book subs new halves entries keeps
              answers effects rows ends keeps.first keeps.history keeps.behind keeps.represents keeps.events_few)
              ∙ stand.bounds slot;
          count = omega (arith, count, counted, all, some);
        };
    setup = (refl, refl, refl);
  }

-- the same of a gateway at rest that has these
pub closes_as : (opened : Rest) (slices room lane lines latest fulls : ℕ) (book : List (List ℕ))
    (subs new now : List SubscriberState) (halves : Halves) (entries : List Taken)
    (keeps : FrontKeeps opened slices lane lines latest book subs halves entries) → room ≡ halves.room → now ≡ new
    → (taken : List Line) → taken ≡ lines_of entries
    → (answers : List SlotAnswers) (effects : List Effected) (rows : List ChargeEntry)
    → AllEnd (λ (slot : ℕ). (view_at halves slot).accepted) halves.lots.items subs new answers effects rows
    → (told : EpochReport)
    → told.lines ≡ filled (opens_of (opened.lines + 1) entries) (replies_at answers) (mets_at answers)
    → told.effects ≡ effects → told.rows ≡ rows
    → Closes opened taken (record {
      slices = slices;
      room = room;
      lane = lane;
      book = book;
      subscribers = now;
      lines = lines;
      latest = latest;
      fulls = fulls;
    }) told
closes_as opened slices room lane lines latest fulls book subs new now halves entries keeps room_is now_is taken taken_is
    answers effects rows ends told lines_are effects_so rows_so =
    let own : FrontKeeps opened opened.slices opened.lane lines latest book subs halves entries =
    subst (λ (k : ℕ). FrontKeeps opened k opened.lane lines latest book subs halves entries) keeps.slices_are
    (subst (λ (k : ℕ). FrontKeeps opened slices k lines latest book subs halves entries) keeps.lane_is keeps) in
    let rooms : room ≡ opened.room = room_is ∙ keeps.halves_keep.room_is in
    let same : ◌≡◌ {A = Rest} (record {
      slices = opened.slices;
      room = opened.room;
      lane = opened.lane;
      book = book;
      subscribers = new;
      lines = lines;
      latest = latest;
      fulls = fulls;
    }) (record {
      slices = slices;
      room = room;
      lane = lane;
      book = book;
      subscribers = now;
      lines = lines;
      latest = latest;
      fulls = fulls;
    }) = λ i. record {
      slices = sym keeps.slices_are i;
      room = sym rooms i;
      lane = sym keeps.lane_is i;
      book = book;
      subscribers = sym now_is i;
      lines = lines;
      latest = latest;
      fulls = fulls;
    } in
    subst (λ (l : List Line). Closes opened l (record {
      slices = slices;
      room = room;
      lane = lane;
      book = book;
      subscribers = now;
      lines = lines;
      latest = latest;
      fulls = fulls;
    }) told) (sym taken_is)
    (subst (λ (r : Rest). Closes opened (lines_of entries) r told) same
    (closed opened lines latest fulls book subs new halves entries own answers effects rows ends told lines_are effects_so
    rows_so))
