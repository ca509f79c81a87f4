-- Halves and items that go from one place to another leave what is known.
use Rattle.std.proofs.Common.{◌≡◌, ℕ, ◌+◌, ◌<◌, cond, List, ◌++◌, length, ap, ◌∙◌, arith}
use Rattle.std.specs.Prelude.{Option}
use Rattle.std.specs.List.{sum_by}
use Rattle.std.proofs.Math.Logic.{∥∥₁_map}
use Rattle.std.proofs.lemmas.Bool.{le-ltb}
use Rattle.worker_core.specs.DataDesks.{DataDesk}
use Rattle.migration.specs.declared.data_place.DataPlace.{DataPlace}
use Rattle.migration.specs.declared.data_place.UnexpectedHalf.{UnexpectedHalf}
use Rattle.migration.specs.DataPlaces.{place_at, queue_at}
use Rattle.gather_home.specs.declared.data_hand.Hand.{Hand}
use Rattle.gather_home.specs.declared.data_home.Home.{Home}
use Rattle.gather_home.specs.DataHomecomings.{halves_sum, rest_at, aside_sum, of_slot, homes_sum, SlotLeft, IsLaid}

-- where all slices count, so do all halves that are aside
pub aside_all : {H : Type 0} (k : ℕ) (f : H → ℕ) (aside : List (UnexpectedHalf H)) → k ≡ 0
    → aside_sum k f aside ≡ sum_by (λ kept. f kept.half) aside
aside_all {H} k f aside none =
    ap (λ n. aside_sum n f aside) none
    ∙ ap (λ (g : UnexpectedHalf H → ℕ). sum_by g aside) (λ i kept. cond (le-ltb kept.slice 0 (omega arith) i) 0
    (f kept.half))

module _ {H N I : Type 0} (name : H → N) (slot_at : N → ℕ) (item_slot : I → ℕ) (handled : H → List I)
    (admitted : List (Option (DataPlace H I))) (desks : List (DataDesk H I)) (homes : List (Home H I)) where
  abbrev slot : H → ℕ
  slot half = slot_at (name half)

  abbrev Laid : List (Option (DataPlace H I)) → List (UnexpectedHalf H) → Hand H I → List H → Type 0
  Laid places aside hand out = IsLaid name slot_at item_slot handled admitted places aside hand out desks homes

  abbrev Left : ℕ → List (Option (DataPlace H I)) → List (UnexpectedHalf H) → Hand H I → List H → Type 0
  Left s places aside hand out = SlotLeft slot item_slot handled s admitted places aside hand out desks homes

  module _ (places later : List (Option (DataPlace H I))) (hand next : Hand H I) (out rest : List H)
      (items : (s : ℕ) → rest_at item_slot s later next ≡ rest_at item_slot s places hand)
      (queues : (s : ℕ) → 0 < length desks → queue_at (place_at later s) ≡ queue_at (place_at places s)) where
    module _ (aside : List (UnexpectedHalf H)) (halves : (f : H → ℕ) → halves_sum f later next rest
        ≡ halves_sum f places hand out) where
      moved_slot : (s : ℕ) → Left s places aside hand out → Left s later aside next rest
      moved_slot s left = record {
        stays = left.stays;
        half = left.half;
        is = left.is;
        chain = left.chain;
        all = left.all;
        gone = left.gone;
        now = left.now;
        back = left.back;
        closed = left.closed;
        lists = left.lists;
        met = λ h. let a = halves (of_slot slot handled s h) in let b = left.met h in omega arith;
        come = λ h. ap (λ r. sum_by (λ l. h (l ++ r)) left.lists + homes_sum slot handled s h homes) (items s)
            ∙ left.come h;
        queued = λ some. queues s some ∙ left.queued some;
        quiet = λ some none. items s ∙ left.quiet some none;
      }

      pub moved_laid : Laid places aside hand out → Laid later aside next rest
      moved_laid laid = record {
        names = λ h. let a = halves (λ half. h (name half)) in let b = laid.names h in omega arith;
        known = λ s. ∥∥₁_map (laid.known s) (moved_slot s);
      }

    -- the halves that were aside are found, once all lanes are closed
    module _ (aside kept : List (UnexpectedHalf H)) (none : length desks ≡ 0)
        (halves : (f : H → ℕ) → halves_sum f later next rest + sum_by (λ x. f x.half) kept
        ≡ halves_sum f places hand out + sum_by (λ x. f x.half) aside) where
      aside_slot : (s : ℕ) → Left s places aside hand out → Left s later kept next rest
      aside_slot s left = record {
        stays = left.stays;
        half = left.half;
        is = left.is;
        chain = left.chain;
        all = left.all;
        gone = left.gone;
        now = left.now;
        back = λ d within. absurd (omega arith);
        closed = left.closed;
        lists = left.lists;
        met = λ h.
            let f : H → ℕ = of_slot slot handled s h in
            let a = aside_all (length desks) f aside none in let b = aside_all (length desks) f kept none in
            let c = halves f in let d = left.met h in omega arith;
        come = λ h. ap (λ r. sum_by (λ l. h (l ++ r)) left.lists + homes_sum slot handled s h homes) (items s)
            ∙ left.come h;
        queued = λ some. queues s some ∙ left.queued some;
        quiet = λ some met. items s ∙ left.quiet some met;
      }

      pub aside_laid : Laid places aside hand out → Laid later kept next rest
      aside_laid laid = record {
        names = λ h. let a = halves (λ half. h (name half)) in let b = laid.names h in omega arith;
        known = λ s. ∥∥₁_map (laid.known s) (aside_slot s);
      }
