-- Why a turn worked, or was idle, step by step.
use Rattle.std.proofs.Common.{◌≡◌, ◌≢◌, ℕ, ◌+◌, ◌<◌, ◌⊎◌, inl, inr, Bool, true, false, true≢false, cond, List}
use Rattle.std.proofs.Common.{[], ◌∷◌, ◌++◌, length, map, Some, None, refl, sym, ap, ◌∙◌, subst, arith}
use Rattle.std.specs.Prelude.{nat_lt, count_by, Result, Ok, Err}
use Rattle.std.specs.Option.{option_to_list}
use Rattle.std.proofs.lemmas.List.Sums.{sum_by_push}
use Rattle.std.proofs.lemmas.List.{length-map}
use Rattle.std.proofs.lemmas.Bool.{ltb-true, ltb-false}
use Rattle.lane_core.specs.declared.did.Did.{Did}
use Rattle.worker_core.specs.declared.data_order.DataOrder.{DataOrder}
use Rattle.worker_core.specs.declared.data_order.DataOrder.TheVariants.{Item}
use Rattle.worker_core.specs.declared.data_serving.TriedItem.{TriedItem}
use Rattle.worker_core.specs.declared.data_serving.TriedItem.TheVariants.{Handled, Waits}
use Rattle.worker_core.specs.declared.data_serving.Step.{Step}
use Rattle.worker_core.specs.declared.data_serving.Step.TheVariants.{Stopped}
use Rattle.worker_core.specs.declared.data_serving.Served.{Served}
use Rattle.worker_core.specs.declared.data_serving.Served.TheVariants as served
use Rattle.worker_core.specs.declared.data_serving.Sent.{Sent}
use Rattle.worker_core.specs.declared.data_serving.Sent.TheVariants.{Absent, Home, Refused}
use Rattle.worker_core.specs.declared.data_serving.OrderTaken.TheVariants.{Nothing, Left, Kept}
use Rattle.worker_core.specs.DataOrders.{is_marker, is_item}
use Rattle.worker_core.specs.DataCounts.{count_at, learnt_count}
use Rattle.worker_core.specs.Counts.{Rises, Lasts}
use Rattle.worker_core.specs.DataTurns.{View, wrapped, WentHome, TookMarker, HandledItem, Learnt, HasWorked, TookItem}
use Rattle.worker_core.specs.DataTurns.{Rested, CursorAsked, KeptWaits, HasIdled}
use Rattle.worker_core.specs.DataSteps.{WasSent, TookOrder, TriedKept, LearntNext, NotServed, Along, Ordered, step_of}
use Rattle.worker_core.proofs.DataChanges.{lasts_learnt, lasts_at, changed-map, changed_names, changed_len, half_now}
use Rattle.worker_core.proofs.DataChanges.{changed_lasts, changed_rises, read_same}
use Rattle.worker_core.proofs.Rising.{rises_raised, rises_then, then_rises, lasts_then, lasts_raised}

module _ {H I : Type 0} (learns : H → ℕ) where
  pub along_none : (view : View H I) → Along learns view view
  along_none view = record { marked = omega arith; handles = omega arith; aligned = λ same. (refl, λ k. inl refl) }

  pub along_then : (first old new : View H I) → Along learns first old → Along learns old new → Along learns first new
  along_then first old new before after = record {
    marked = let a = before.marked in let b = after.marked in omega arith;
    handles = let a = before.handles in let b = after.handles in omega arith;
    aligned = λ same.
        let a = before.marked in let b = after.marked in
        let x = before.aligned (omega arith) in let y = after.aligned (omega arith) in (
          y.0 ∙ x.0,
          λ k. lasts_then (count_at learns first.held k) (count_at learns old.held k)
              (count_at learns new.held k) (x.1 k) (y.1 k),
        );
  }

  -- a cause stays one, whatever goes on after it
  pub served_then : (first old new : View H I) → Along learns first old → TookMarker first old ⊎ HandledItem first old
      ⊎ Learnt learns first old → Along learns old new
      → TookMarker first new ⊎ HandledItem first new ⊎ Learnt learns first new
  served_then first old new before why after = elim why [
    | inl marker ↦ inl (let a = after.marked in omega arith)
    | inr more ↦ elim more [
      | inl item ↦ inr (inl (let a = after.handles in omega arith))
      | inr learnt ↦ elim (nat_lt (count_by is_marker old.took) (count_by is_marker new.took))
          as (λ b. nat_lt (count_by is_marker old.took) (count_by is_marker new.took) ≡ b → TookMarker first new
          ⊎ HandledItem first new ⊎ Learnt learns first new) [
            | true ↦ λ e. let a = ltb-true (count_by is_marker old.took)
                (count_by is_marker new.took) e in let b = before.marked in inl (omega arith)
            | false ↦ λ e.
                let a = ltb-false (count_by is_marker old.took)
                (count_by is_marker new.took) e in let b = after.marked in
                let k : ℕ = learnt.0 in
                inr (inr (
                  k,
                  learnt.1,
                  rises_then (count_at learns first.held k) (count_at learns old.held k)
                      (count_at learns new.held k) learnt.2 ((after.aligned (omega arith)).1 k),
                ))
          ] refl
    ]
  ]

  -- and is one, whatever went on before it
  pub then_served : (first old new : View H I) → Along learns first old → TookMarker old new ⊎ HandledItem old new
      ⊎ Learnt learns old new → Along learns old new
      → TookMarker first new ⊎ HandledItem first new ⊎ Learnt learns first new
  then_served first old new before why after = elim why [
    | inl marker ↦ inl (let a = before.marked in omega arith)
    | inr more ↦ elim more [
      | inl item ↦ inr (inl (let a = before.handles in omega arith))
      | inr learnt ↦ elim (nat_lt (count_by is_marker first.took) (count_by is_marker old.took))
          as (λ b. nat_lt (count_by is_marker first.took) (count_by is_marker old.took) ≡ b → TookMarker first new
          ⊎ HandledItem first new ⊎ Learnt learns first new) [
            | true ↦ λ e. let a = ltb-true (count_by is_marker first.took)
                (count_by is_marker old.took) e in let b = after.marked in inl (omega arith)
            | false ↦ λ e.
                let a = ltb-false (count_by is_marker first.took)
                (count_by is_marker old.took) e in let b = before.marked in
                let k : ℕ = learnt.0 in
                let alike = before.aligned (omega arith) in
                inr (inr (
                  k,
                  (let l = learnt.1 in let m = alike.0 in omega arith),
                  then_rises (count_at learns first.held k) (count_at learns old.held k) (count_at learns new.held k)
                      (alike.1 k) learnt.2,
                ))
          ] refl
    ]
  ]

  counted_last : (test : DataOrder H I → Bool) (took new : List (DataOrder H I)) (order : DataOrder H I)
      → new ≡ took ++ order ∷ []
      → count_by test new ≡ count_by test took + cond (test order) 1 0
  counted_last test took new order is = ap (count_by test) is ∙ sum_by_push (λ x. cond (test x) 1 0) took order

  -- a marker was taken
  pub along_marker : (old new : View H I) (order : DataOrder H I) → is_marker order ≡ true → is_item order ≡ false
      → new.took ≡ old.took ++ order ∷ []
      → new.kept ≡ old.kept → Along learns old new × TookMarker old new
  along_marker old new order marker none more kept =
      let a = counted_last is_marker old.took new.took order more in
      let b : ◌≡◌ {A = ℕ} (cond (is_marker order) 1 0) 1 = ap (λ t. cond t 1 0) marker in
      let c = counted_last is_item old.took new.took order more in
      let d : ◌≡◌ {A = ℕ} (cond (is_item order) 1 0) 0 = ap (λ t. cond t 1 0) none in
      let e = ap (λ o. length (option_to_list o)) kept in (
        record { marked = omega arith; handles = omega arith; aligned = λ same. absurd (omega arith) },
        (omega arith),
      )

  -- an item was taken and is kept
  pub along_item : (old new : View H I) (x : I) → new.took ≡ old.took ++ Item x ∷ [] → old.kept ≡ None
      → new.kept ≡ Some x → new.held ≡ old.held
      → Along learns old new
  along_item old new x more free kept held =
      let a = counted_last is_marker old.took new.took (Item x) more in
      let c = counted_last is_item old.took new.took (Item x) more in
      let e = ap (λ o. length (option_to_list o)) kept in
      let f = ap (λ o. length (option_to_list o)) free in
      record {
        marked = omega arith;
        handles = omega arith;
        aligned = λ same. (ap length held, lasts_at learns old.held new.held (ap (map learns) held));
      }

module _ {H I N : Type 0} (name : H → N) (slot_at : N → ℕ) (item_slot : I → ℕ) (handled : H → List I) (takes : H → I
    → Bool) (asks learns : H → ℕ) where
  abbrev slot : H → ℕ
  slot half = slot_at (name half)

  -- the kept item was handled
  pub along_handled : (old new : View H I) → TriedKept name slot item_slot handled takes asks learns Handled old new
      → Along learns old new × HandledItem old new
  along_handled old new tried =
      let a = ap (λ o. length (option_to_list o)) tried.was in
      let b = ap (λ o. length (option_to_list o)) tried.kept in
      let c = ap (count_by is_marker) tried.about.took in
      let d = ap (count_by is_item) tried.about.took in (
        record {
          marked = omega arith;
          handles = omega arith;
          aligned = λ same. (
            changed_len name tried.at tried.before tried.after old.held new.held tried.changed,
            changed_lasts name tried.at tried.before tried.after old.held new.held tried.changed learns tried.handed.1,
          );
        },
        (omega arith),
      )

  -- it waits
  pub along_waits : (learnt : Bool) (old new : View H I)
      → TriedKept name slot item_slot handled takes asks learns (Waits learnt) old new
      → Along learns old new
  along_waits learnt old new tried =
      let a = ap (λ o. length (option_to_list o)) tried.was in
      let b = ap (λ o. length (option_to_list o)) tried.kept in
      let c = ap (count_by is_marker) tried.about.took in
      let d = ap (count_by is_item) tried.about.took in
      record {
        marked = omega arith;
        handles = omega arith;
        aligned = λ same. (
          changed_len name tried.at tried.before tried.after old.held new.held tried.changed,
          changed_lasts name tried.at tried.before tried.after old.held new.held tried.changed learns
              (lasts_learnt learnt (learns tried.before) (learns tried.after) tried.handed.2),
        );
      }

  -- its half learnt something
  pub waits_learnt : (learnt : Bool) (old new : View H I) → learnt ≡ true
      → TriedKept name slot item_slot handled takes asks learns (Waits learnt) old new
      → Learnt learns old new
  waits_learnt learnt old new learns_it tried = (
    tried.at,
    tried.changed.within,
    changed_rises name tried.at tried.before tried.after old.held new.held tried.changed learns
        (rises_raised (learns tried.before) (learns tried.after)
        (tried.handed.2 ∙ ap (λ b. learnt_count b (learns tried.before)) learns_it)),
  )

  -- it learnt nothing
  pub waits_rested : (learnt : Bool) (first old new : View H I) → learnt ≡ false → old.held ≡ first.held
      → old.cursor ≡ first.cursor
      → TookItem first old → TriedKept name slot item_slot handled takes asks learns (Waits learnt) old new
      → NotServed name slot item_slot handled takes asks learns first new
  waits_rested learnt first old new none_learnt held cursor taken tried =
      let change = tried.changed in
      let at = tried.at in
      let asked : Lasts (asks tried.before) (asks tried.after) = lasts_raised (asks tried.before)
      (asks tried.after) tried.handed.1 in
      let risen : Rises (asks tried.before) (asks tried.after) = rises_raised (asks tried.before)
      (asks tried.after) tried.handed.1 in
      record {
        names = changed_names name at tried.before tried.after old.held new.held change ∙ ap (map name) held;
        lists = changed-map name at tried.before tried.after old.held new.held change handled tried.handed.0 ∙ ap
            (map handled) held;
        counted = changed-map name at tried.before tried.after old.held new.held change learns
            (tried.handed.2 ∙ ap (λ b. learnt_count b (learns tried.before)) none_learnt) ∙ ap (map learns) held;
        asked = λ k. subst (λ (l : List H). Lasts (count_at asks l k) (count_at asks new.held k)) held
            (changed_lasts name at tried.before tried.after old.held new.held change asks asked k);
        cursor = tried.cursor ∙ cursor;
        taken = elim taken [
          | inl none ↦ inl (tried.about.took ∙ none.0, tried.kept ∙ sym tried.was ∙ none.1)
          | inr one ↦ inr (one.0, one.1, tried.about.took ∙ one.2, tried.kept ∙ sym tried.was ∙ one.3)
        ];
        why = inr (record {
          item = tried.item;
          at = at;
          is_kept = tried.kept;
          within = let a = changed_len name at tried.before tried.after old.held new.held change in let b =
              change.within in omega arith;
          own = λ none. ap slot
              (half_now name at tried.before tried.after old.held new.held change none) ∙ ap slot_at change.named ∙
              tried.own;
          refused = λ none. ap (λ half. takes half tried.item)
              (half_now name at tried.before tried.after old.held new.held change none) ∙ tried.handed.3;
          asked = subst (λ (l : List H). Rises (count_at asks l at) (count_at asks new.held at)) held
              (changed_rises name at tried.before tried.after old.held new.held change asks risen);
        });
      }

  -- the lane was empty, and nothing was done before
  pub empty_rested : (first new : View H I) → TookOrder Nothing first new
      → NotServed name slot item_slot handled takes asks learns first new
  empty_rested first new took = record {
    names = ap (map name) took.3;
    lists = ap (map handled) took.3;
    counted = ap (map learns) took.3;
    asked = lasts_at asks first.held new.held (ap (map asks) took.3);
    cursor = took.5;
    taken = inl (took.0, took.4);
    why = inl took.6;
  }

  -- after an empty lane all is as it was
  pub along_empty : (old new : View H I) → TookOrder Nothing old new → Along learns old new
  along_empty old new took =
      let a = ap (λ o. length (option_to_list o)) took.4 in
      let c = ap (count_by is_marker) took.0 in
      let d = ap (count_by is_item) took.0 in
      record {
        marked = omega arith;
        handles = omega arith;
        aligned = λ same. (ap length took.3, lasts_at learns old.held new.held (ap (map learns) took.3));
      }

  -- the half at the cursor was asked
  pub along_next : (learnt : Bool) (old new : View H I)
      → LearntNext name slot item_slot handled takes asks learns learnt old new → Along learns old new
  along_next learnt old new next = elim next [
    | inl none ↦ subst (Along learns old) (sym none.2) (along_none learns old)
    | inr one ↦
        let a = ap (λ o. length (option_to_list o)) one.kept in
        let c = ap (count_by is_marker) one.about.took in
        let d = ap (count_by is_item) one.about.took in
        record {
          marked = omega arith;
          handles = omega arith;
          aligned = λ same. (
            changed_len name old.cursor one.before one.after old.held new.held one.changed,
            changed_lasts name old.cursor one.before one.after old.held new.held one.changed learns
                (lasts_learnt learnt (learns one.before) (learns one.after) one.counted),
          );
        }
  ]

  pub next_gone : (learnt : Bool) (old new : View H I)
      → LearntNext name slot item_slot handled takes asks learns learnt old new → new.gone ≡ old.gone
  next_gone learnt old new next = elim next [
    | inl none ↦ ap (λ (v : View H I). v.gone) none.2
    | inr one ↦ one.about.gone
  ]

  pub next_learnt : (learnt : Bool) (old new : View H I) → learnt ≡ true
      → LearntNext name slot item_slot handled takes asks learns learnt old new
      → Learnt learns old new
  next_learnt learnt old new learns_it next = elim next [
    | inl none ↦ absurd (true≢false (sym learns_it ∙ none.1))
    | inr one ↦ (
      old.cursor,
      one.changed.within,
      changed_rises name old.cursor one.before one.after old.held new.held one.changed learns
          (rises_raised (learns one.before) (learns one.after)
          (one.counted ∙ ap (λ b. learnt_count b (learns one.before)) learns_it)),
    )
  ]

  -- nothing was done, and the half at the cursor learnt nothing
  module _ (learnt : Bool) (first old new : View H I) (none_learnt : learnt ≡ false) (gone : old.gone ≡ first.gone)
      (waiting : old.waiting ≡ first.waiting)
      (idle : NotServed name slot item_slot handled takes asks learns first old)
      (next : LearntNext name slot item_slot handled takes asks learns learnt old new) where
    pub idle_rested : Rested name handled learns first new
    idle_rested = elim next [
      | inl none ↦ subst (Rested name handled learns first) (sym none.2) (record {
        gone = gone;
        waiting = waiting;
        names = idle.names;
        lists = idle.lists;
        counted = idle.counted;
        taken = idle.taken;
      })
      | inr one ↦ record {
        gone = one.about.gone ∙ gone;
        waiting = one.about.waiting ∙ waiting;
        names = changed_names name old.cursor one.before one.after old.held new.held one.changed ∙ idle.names;
        lists = changed-map name old.cursor one.before one.after old.held new.held one.changed handled one.lists ∙
            idle.lists;
        counted = changed-map name old.cursor one.before one.after old.held new.held one.changed learns
            (one.counted ∙ ap (λ b. learnt_count b (learns one.before)) none_learnt) ∙ idle.counted;
        taken = elim idle.taken [
          | inl none ↦ inl (one.about.took ∙ none.0, one.kept ∙ none.1)
          | inr x ↦ inr (x.0, x.1, one.about.took ∙ x.2, one.kept ∙ x.3)
        ];
      }
    ]

    long : length old.held ≡ length first.held
    long = sym (length-map old.held name) ∙ ap length idle.names ∙ length-map first.held name

    asked_next : CursorAsked asks first new
    asked_next some = elim next [
      | inl none ↦ absurd (let a = long in let b = ap length none.0 in omega arith)
      | inr one ↦ (
        then_rises (count_at asks first.held first.cursor) (count_at asks old.held first.cursor)
            (count_at asks new.held first.cursor) (idle.asked first.cursor)
            (subst (λ (n : ℕ). Rises (count_at asks old.held n) (count_at asks new.held n)) idle.cursor
            (changed_rises name old.cursor one.before one.after old.held new.held one.changed asks
            (rises_raised (asks one.before) (asks one.after) one.asked))),
        one.cursor ∙ (λ i. wrapped (idle.cursor i + 1) (long i)),
      )
    ]

    waits_still : KeptWaits asks slot item_slot takes first old → KeptWaits asks slot item_slot takes first new
    waits_still waits = elim next [
      | inl none ↦ subst (KeptWaits asks slot item_slot takes first) (sym none.2) waits
      | inr one ↦
          let change = one.changed in
          let same : (f : H → ℕ) → f one.after ≡ f one.before → map f new.held ≡ map f old.held =
          changed-map name old.cursor one.before one.after old.held new.held change in
          let within : waits.at < length new.held =
          let a = changed_len name old.cursor one.before one.after old.held new.held change in let b = waits.within in
          omega arith in
          record {
            item = waits.item;
            at = waits.at;
            is_kept = one.kept ∙ waits.is_kept;
            within = within;
            own = λ none. read_same slot waits.at old.held new.held none
                (same slot (ap slot_at change.named)) within ∙ waits.own none;
            refused = λ none. read_same (λ half. takes half waits.item) waits.at old.held new.held none
                (changed-map name old.cursor one.before one.after old.held new.held change
                (λ half. takes half waits.item) (one.same none_learnt waits.item)) within
                ∙ waits.refused none;
            asked = rises_then (count_at asks first.held waits.at) (count_at asks old.held waits.at)
                (count_at asks new.held waits.at) waits.asked
                (changed_lasts name old.cursor one.before one.after old.held new.held change asks
                (lasts_raised (asks one.before) (asks one.after) one.asked) waits.at);
          }
    ]

    pub idle_why : HasIdled asks slot item_slot takes first new
    idle_why = elim idle.why [
      | inl empty ↦ elim next [
        | inl none ↦ inr (inl (ap (λ (v : View H I). v.empties) none.2 ∙ empty, asked_next))
        | inr one ↦ inr (inl (one.about.empties ∙ empty, asked_next))
      ]
      | inr waits ↦ inr (inr (waits_still waits, asked_next))
    ]

  -- why a turn worked: its half went home, or it did something after that
  pub worked_after : (sent : Sent) (old mid new : View H I) → sent ≢ Refused → WasSent sent old mid
      → new.gone ≡ mid.gone
      → TookMarker mid new ⊎ HandledItem mid new ⊎ Learnt learns mid new → HasWorked learns old new
  worked_after Absent old mid new not sent gone why = inr
      (subst (λ (v : View H I). TookMarker v new ⊎ HandledItem v new ⊎ Learnt learns v new) sent why)
  worked_after Home old mid new not sent gone why = inl (sent.0, sent.1, gone ∙ sent.2)
  worked_after Refused old mid new not sent gone why = absurd (not refl)

  pub worked_home : (sent : Sent) (old mid new : View H I) → sent ≡ Home → WasSent sent old mid → new.gone ≡ mid.gone
      → HasWorked learns old new
  worked_home sent old mid new is was gone =
      let home : WentHome old mid = subst (λ (s : Sent). WasSent s old mid) is was in inl
      (home.0, home.1, gone ∙ home.2)

  abbrev Does : Step → View H I → View H I → Type 0
  Does step old new = Ordered name slot item_slot handled takes asks learns step old new

  -- one order was done
  pub ordered_kept : (tried : TriedItem) (step : Step) (old new : View H I) → step ≡ step_of tried
      → TriedKept name slot item_slot handled takes asks learns tried old new
      → Ordered name slot item_slot handled takes asks learns step old new
  ordered_kept tried step old new is did = subst (λ (s : Step). Does s old new) (sym is) (by_tried tried did) where
    by_tried : (tried : TriedItem) → TriedKept name slot item_slot handled takes asks learns tried old new
        → Does (step_of tried) old new
    by_tried Handled did = let a = along_handled old new did in (a.0, did.about.gone, did.about.waiting, inr (inl a.1))
    by_tried (Waits learnt) did = (
      along_waits learnt old new did,
      did.about.gone,
      did.about.waiting,
      (λ learns_it. inr (inr (waits_learnt learnt old new learns_it did))),
      λ none. waits_rested learnt old old new none refl refl (inl (refl, refl)) did,
    )

  pub ordered_taken : (tried : TriedItem) (step : Step) (first old new : View H I) → first.kept ≡ None
      → TookOrder Kept first old → step ≡ step_of tried
      → TriedKept name slot item_slot handled takes asks learns tried old new
      → Ordered name slot item_slot handled takes asks learns step first new
  ordered_taken tried step first old new free took is did = subst (λ (s : Step). Does s first new) (sym is)
      (by_tried tried did) where
        before : Along learns first old
        before = along_item learns first old took.0 took.1 free took.5 took.4

        by_tried : (tried : TriedItem) → TriedKept name slot item_slot handled takes asks learns tried old new
            → Does (step_of tried) first new
        by_tried Handled did = let a = along_handled old new did in (
          along_then learns first old new before a.0,
          did.about.gone ∙ took.2,
          did.about.waiting ∙ took.3,
          then_served learns first old new before (inr (inl a.1)) a.0,
        )
        by_tried (Waits learnt) did = let a = along_waits learnt old new did in (
          along_then learns first old new before a,
          did.about.gone ∙ took.2,
          did.about.waiting ∙ took.3,
          (λ learns_it. then_served learns first old new before
              (inr (inr (waits_learnt learnt old new learns_it did))) a),
          λ none. waits_rested learnt first old new none took.4 took.6 (inr (took.0, free, took.1, took.5)) did,
        )

-- what an answer says
pub stopped_is : {E : Type 0} (b t : Bool) → ◌≡◌ {A = Result Served E} (Ok (served.Stopped b)) (Ok (served.Stopped t))
    → b ≡ t
stopped_is {E} b t e = ap out e where
  out : Result Served E → Bool
  out (Ok served.Left) = false
  out (Ok (served.Stopped worked)) = worked
  out (Err _) = false

pub did_is : {E : Type 0} (a b : Did) → ◌≡◌ {A = Result Did E} (Ok a) (Ok b) → a ≡ b
did_is {E} a b e = ap (out a) e where
  out : Did → Result Did E → Did
  out d (Ok x) = x
  out d (Err _) = d

pub stopped_left : (b : Bool) → ◌≡◌ {A = Served} (served.Stopped b) served.Left → ⊥
stopped_left b e = true≢false (ap test e) where
  test : Served → Bool
  test served.Left = false
  test (served.Stopped _) = true

-- none waited
pub sent_absent : {H I : Type 0} (sent : Sent) (old new : View H I) → sent ≢ Home → sent ≢ Refused
    → WasSent sent old new → new ≡ old
sent_absent Absent old new not_home not_refused sent = sent
sent_absent Home old new not_home not_refused sent = absurd (not_home refl)
sent_absent Refused old new not_home not_refused sent = absurd (not_refused refl)
