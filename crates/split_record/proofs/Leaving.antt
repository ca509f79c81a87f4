-- Commands that are left are applied, and the versions that they leave are published.
use Rattle.std.proofs.Common.{◌≡◌, ℕ, zero, suc, ◌+◌, ◌-◌, ◌≤◌, ◌<◌, ◌^◌, length, arith, Option, Some, None, List, [], ◌∷◌, ◌++◌, take, drop}
use Rattle.std.proofs.Common.{refl, ap, sym, ◌∙◌, subst, append-nil, length-append, length-drop, drop-cons, get_or}
use Rattle.bearer_state.specs.Session.{SessionState}
use Rattle.bearer_state.specs.Version.{version_of}
use Rattle.subscriber.specs.Standing.{SubscriberState, commands_met}
use Rattle.control_half.specs.declared.items.CommandItem.{CommandItem}
use Rattle.control_half.specs.declared.items.CommandDone.{CommandDone}
use Rattle.control_half.specs.Applied.{in_due, HasRoomFor}
use Rattle.control_half.specs.Controlled.{session_behind, stepped, replied, replies_to, versions_left, HasApplied}
use Rattle.control_half.specs.Published.{Published, under}
use Rattle.control_half.proofs.Applying.{applied_more}
use Rattle.split_record.specs.Closing.{HasLeft}
use Rattle.split_record.proofs.Waiting.{left_count}

module _ {X : Type 0} where
  no_front : (x : X) (rest : List X) → x ∷ rest ≡ [] → ⊥
  no_front x rest is = cc

  -- one more is taken of a list
  pub one_taken : (k : ℕ) (xs : List X) (x : X) (rest : List X) → x ∷ rest ≡ drop k xs
      → (take (suc k) xs ≡ take k xs ++ x ∷ []) × (drop (suc k) xs ≡ rest)
  one_taken zero [] x rest is = absurd (no_front x rest is)
  one_taken zero (y ∷ ys) x rest is =
      let head : y ≡ x = cc in
      let tail : ys ≡ rest = cc in
      (ap (λ (z : X). z ∷ []) head, tail)
  one_taken (suc k) [] x rest is = absurd (no_front x rest is)
  one_taken (suc k) (y ∷ ys) x rest is =
      let one = one_taken k ys x rest is in (ap (λ (l : List X). y ∷ l) one.0, one.1)

  -- the element at a place, as a slice lends it
  pub next_at : (xs lent : List X) (i : ℕ) (x : X) → lent ≡ xs → x ≡ get_or lent i x → i < length lent
      → drop i xs ≡ x ∷ drop (i + 1) xs
  next_at xs lent i x same is within =
      let here : get_or xs i x ≡ x = ap (λ (l : List X). get_or l i x) (sym same) ∙ sym is in
      let place : i < length xs = omega (arith, within, ap (λ (l : List X). length l) same) in
      let next : suc i ≡ i + 1 = omega arith in
      drop-cons xs i x place ∙ (λ j. here j ∷ drop (next j) xs)

  take_whole : (xs : List X) → take (length xs) xs ≡ xs
  take_whole [] = refl
  take_whole (x ∷ xs) = ap (λ (l : List X). x ∷ l) (take_whole xs)

  pub none_left : (k : ℕ) (xs : List X) → [] ≡ drop k xs → length xs ≤ k
  none_left k xs is = omega (arith, ap (λ (l : List X). length l) is, length-drop k xs)

module _ (start : SubscriberState) (commands : List CommandItem) where
  -- as few versions are learnt
  pub few_met : (session : SessionState) (number : ℕ) (notes : List CommandDone) (due : Option ℕ)
      (waiting : List CommandItem) (learnt more : List Published) (met first : ℕ)
      → HasLeft start commands session number notes due waiting (learnt ++ more)
      → HasRoomFor start.session (commands_met start) → length commands ≤ 2 ^ 50
      → met ≡ first + length learnt → first ≡ commands_met start → met < 2 ^ 61
  few_met session number notes due waiting learnt more met first left roomy few met_is first_is =
      let front = take (number - commands_met start) commands in
      let rest = in_due due session number in
      omega (
        arith,
        left.applied.counted,
        left.within,
        roomy.number,
        few,
        met_is,
        first_is,
        left_count (commands_met start) start.session front,
        ap (λ (l : List Published). length l) left.applied.versions,
        length-append (learnt ++ more) rest,
        length-append learnt more,
      )

  -- where none is left, all are applied
  pub none_waiting : (session : SessionState) (number : ℕ) (notes : List CommandDone) (due : Option ℕ)
      (waiting : List CommandItem) (published : List Published)
      → HasLeft start commands session number notes due waiting published → waiting ≡ []
      → number ≡ commands_met start + length commands
  none_waiting session number notes due waiting published left none =
      let short : length commands ≤ number - commands_met start =
      none_left (number - commands_met start) commands (sym none ∙ left.waiting_are) in
      omega (arith, short, left.within, left.applied.counted)

  -- the next command is applied, where no version was due
  pub command_done : (old new : SessionState) (number more : ℕ) (notes noted : List CommandDone) (due : Option ℕ)
      (item : CommandItem) (waiting rest : List CommandItem) (published : List Published)
      → HasLeft start commands old number notes due waiting published → due ≡ None → waiting ≡ item ∷ rest
      → new ≡ stepped old item → more ≡ number + 1 → noted ≡ notes ++ replied number old item ∷ []
      → HasLeft start commands new more noted (Some item.floor) rest published
  command_done
      old new number more notes noted due item waiting rest published left none next stepped_is count noted_is =
      let first = commands_met start in
      let k = number - first in
      let was : HasApplied first start.session (take k commands) old number notes (published ++ ([] ++ [])) =
      subst (λ (d : Option ℕ). HasApplied first start.session (take k commands) old number notes
      (published ++ in_due d old number)) none left.applied in
      let is : HasApplied first start.session (take k commands ++ item ∷ []) (stepped old item) (number + 1)
      (notes ++ replied number old item ∷ [])
      (published ++ under item.floor (version_of (stepped old item) (number + 1)) ∷ []) =
      applied_more first start.session (take k commands) old number notes published [] item was in
      let one = one_taken k commands item rest (sym next ∙ left.waiting_are) in
      let higher : suc k ≡ more - first = omega (arith, count, was.counted) in
      let front : take k commands ++ item ∷ [] ≡ take (more - first) commands =
      sym one.0 ∙ ap (λ (n : ℕ). take n commands) higher in
      let size : length (item ∷ rest) ≡ length commands - k =
      ap (λ (l : List CommandItem). length l) (sym next ∙ left.waiting_are) ∙ length-drop k commands in
      record {
        applied = record {
          session_is = stepped_is ∙ is.session_is ∙ ap (session_behind start.session) front;
          counted = count ∙ is.counted ∙ ap (λ (l : List CommandItem). first + length l) front;
          noted = noted_is ∙ is.noted ∙ ap (replies_to first start.session) front;
          versions = (λ i. published ++ under item.floor (version_of (stepped_is i) (count i)) ∷ [])
              ∙ is.versions ∙ ap (versions_left first start.session) front;
        };
        waiting_are = sym one.1 ∙ ap (λ (n : ℕ). drop n commands) higher;
        within = omega (arith, size, count, was.counted, left.within);
      }

  -- nothing is left: the session, its count, its notes and all versions are those of all commands
  pub all_applied : (session : SessionState) (number : ℕ) (notes : List CommandDone) (due : Option ℕ)
      (waiting : List CommandItem) (published learnt : List Published)
      → HasLeft start commands session number notes due waiting published
      → number ≡ commands_met start + length commands → due ≡ None → published ≡ learnt
      → HasApplied (commands_met start) start.session commands session number notes learnt
  all_applied session number notes due waiting published learnt left all none same =
      let first = commands_met start in
      let whole : take (number - first) commands ≡ commands =
      ap (λ (n : ℕ). take n commands) (let n : number - first ≡ length commands = omega (arith, all) in n)
      ∙ take_whole commands in
      record {
        session_is = left.applied.session_is ∙ ap (session_behind start.session) whole;
        counted = all;
        noted = left.applied.noted ∙ ap (replies_to first start.session) whole;
        versions = sym same ∙ sym (append-nil published) ∙ (λ i. published ++ in_due (sym none i) session number)
            ∙ left.applied.versions
            ∙ ap (versions_left first start.session) whole;
      }
