-- What a turn came to, and why it stopped.
use Rattle.std.proofs.Common.{◌≡◌, ℕ, ◌+◌, ◌<◌, ◌≤◌, ◌⊎◌, inl, inr, ⊎_elim, Bool, true, false, length, arith, Option}
use Rattle.std.proofs.Common.{Some, None, List, [], ◌∷◌, ◌++◌, refl, ap, sym, ◌∙◌, subst, append_assoc, append-nil}
use Rattle.std.proofs.Common.{length-append}
use Rattle.lane_core.specs.declared.did.Did.{Did}
use Rattle.lane_core.specs.declared.did.Did.TheVariants.{Idle, Held, Worked}
use Rattle.lane_core.specs.Ends.{raised, sent, full_answers, empty_answers}
use Rattle.pc_base.specs.declared.numbered.Numbered.{Ghosts}
use Rattle.bearer_state.specs.Version.{VersionState}
use Rattle.control_half.specs.declared.batch.Batch.{Batch}
use Rattle.control_half.specs.Batch.{versions_of, floor_of}
use Rattle.control_half.specs.declared.items.CommandItem.{CommandItem}
use Rattle.control_half.specs.declared.inner.ControlInner.{ControlInner}
use Rattle.control_half.specs.Half.{IsSameHalf, seen_of}
use Rattle.control_half.specs.Turns.{Grew, IsAhead, HasOtherFloor, Stops, SendsAs, StoppedFor, Seen, CameTo}
use Rattle.control_half.specs.Turns.{Stopped, Ended, came_to, size}

pub grew_more : {X : Type 0} (a b c : List X) → Grew a b → Grew b c → Grew a c
grew_more a b c one more = (
  one.0 ++ more.0,
  more.1 ∙ ap (λ (l : List _). l ++ more.0) one.1
      ∙ append_assoc a one.0 more.0,
)

pub grew_none : {X : Type 0} (a b : List X) → b ≡ a → Grew a b
grew_none a b same = ([], same ∙ sym (append-nil a))

pub same_more : (a b c : ControlInner) → IsSameHalf a b → IsSameHalf b c → IsSameHalf a c
same_more a b c one more = record {
  name = more.name ∙ one.name;
  hop = more.hop ∙ one.hop;
  turns = more.turns ∙ one.turns;
  works = more.works ∙ one.works;
}

pub not_fewer : (applied : Bool) (old new : ℕ) → (applied ≡ true → old < new) → (applied ≡ false → new ≡ old)
    → old ≤ new
not_fewer true old new more same = let is = more refl in omega (arith, is)
not_fewer false old new more same = let is = same refl in omega (arith, is)

wider : (hop floor : ℕ) (head : Option CommandItem) (old new : ℕ) → (new ≡ raised old) ⊎ IsAhead hop head
    → (new ≡ raised old) ⊎ IsAhead hop head ⊎ HasOtherFloor floor head
wider hop floor head old new why = ⊎_elim inl (λ ahead. inr (inl ahead)) why

module _ {g : Ghosts VersionState} where
  last_batch : (xs ys : List (Batch VersionState g)) (x y : Batch VersionState g) → xs ++ x ∷ [] ≡ ys ++ y ∷ [] → x ≡ y
  last_batch [] [] x y e = cc
  last_batch [] (b ∷ []) x y e = absurd (let h : [] ≡ y ∷ [] = cc in let no : ⊥ = cc in no)
  last_batch [] (b ∷ c ∷ cs) x y e = absurd (let h : [] ≡ c ∷ (cs ++ y ∷ []) = cc in let no : ⊥ = cc in no)
  last_batch (w ∷ []) [] x y e = absurd (let h : x ∷ [] ≡ [] = cc in let no : ⊥ = cc in no)
  last_batch (w ∷ v ∷ ws) [] x y e = absurd (let h : v ∷ (ws ++ x ∷ []) ≡ [] = cc in let no : ⊥ = cc in no)
  last_batch (w ∷ ws) (b ∷ bs) x y e = last_batch ws bs x y (let h : ws ++ x ∷ [] ≡ bs ++ y ∷ [] = cc in h)

  stops_none : (hop : ℕ) (kept : Option (Batch VersionState g)) (head : Option CommandItem) (old new : ℕ) → kept ≡ None
      → Stops hop kept head old new
      → (new ≡ raised old) ⊎ IsAhead hop head
  stops_none hop kept head old new none stops =
      ⊎_elim (λ full. absurd (omega (arith, full))) (⊎_elim inl (⊎_elim inr (λ no. absurd no)))
      (subst (λ (k : Option (Batch VersionState g)). Stops hop k head old new) none stops)

  stops_some : (hop : ℕ) (kept : Option (Batch VersionState g)) (batch : Batch VersionState g)
      (head : Option CommandItem) (old new : ℕ) → kept ≡ Some batch
      → length (versions_of batch) < 16 → Stops hop kept head old new
      → (new ≡ raised old) ⊎ IsAhead hop head ⊎ HasOtherFloor (floor_of batch) head
  stops_some hop kept batch head old new some few stops =
      ⊎_elim (λ full. absurd (omega (arith, full, few))) (λ other. other)
      (subst (λ (k : Option (Batch VersionState g)). Stops hop k head old new) some stops)

  none_some : (kept : Option (Batch VersionState g)) (batch : Batch VersionState g) → kept ≡ None → kept ≡ Some batch
      → ⊥
  none_some kept batch none some = let e : None ≡ Some batch = sym none ∙ some in let no : ⊥ = cc in no

  -- the reason holds of the batch, wherever it is behind the last offer
  stopped_for : (behind : Option Bool) (kept left : Option (Batch VersionState g))
      (sent more : List (Batch VersionState g)) (fulls fuller hop : ℕ) (head : Option CommandItem)
      (old new : ℕ) → SendsAs behind kept left sent more fulls fuller → Stops hop kept head old new
      → StoppedFor hop head left more old new
  stopped_for (Some false) kept left sent more fulls fuller hop head old new sends stops batch latest few =
      wider hop (floor_of batch) head old new (stops_none hop kept head old new sends.0 stops)
  stopped_for None kept left sent more fulls fuller hop head old new sends stops batch latest few =
      ⊎_elim (λ (here : left ≡ Some batch). stops_some hop kept batch head old new (sym sends.0 ∙ here) few stops)
      (λ (gone : (left ≡ None) × (before : List (Batch VersionState g)) × (more ≡ before ++ batch ∷ [])).
      wider hop (floor_of batch) head old new (stops_none hop kept head old new (sym sends.0 ∙ gone.0) stops))
      latest
  stopped_for (Some true) kept left sent more fulls fuller hop head old new sends stops batch latest few =
      ⊎_elim (λ (here : left ≡ Some batch). absurd (none_some left batch sends.2 here))
      (λ (gone : (left ≡ None) × (before : List (Batch VersionState g)) × (more ≡ before ++ batch ∷ [])).
      let same : sends.0 ≡ batch = last_batch sent gone.1 sends.0 batch (sym sends.3 ∙ gone.2) in
      stops_some hop kept batch head old new (sends.1 ∙ ap (λ (b : Batch VersionState g). Some b) same) few stops)
      latest

  -- a send adds to what was sent, or nothing
  grew_sent : (did : Option Bool) (kept left : Option (Batch VersionState g)) (sent more : List (Batch VersionState g))
      (fulls fuller : ℕ)
      → SendsAs did kept left sent more fulls fuller → Grew sent more
  grew_sent (Some false) kept left sent more fulls fuller sends = grew_none sent more sends.2
  grew_sent None kept left sent more fulls fuller sends = grew_none sent more sends.1
  grew_sent (Some true) kept left sent more fulls fuller sends = (sends.0 ∷ [], sends.3)

  -- as many versions as a batch has
  pub size_few : (kept : Option (Batch VersionState g)) → size kept ≤ 16
  size_few None = omega arith
  size_few (Some batch) = batch.few

  -- a send adds one batch at most
  one_more : (did : Option Bool) (kept left : Option (Batch VersionState g)) (sent more : List (Batch VersionState g))
      (fulls fuller : ℕ) → SendsAs did kept left sent more fulls fuller → length more ≤ length sent + 1
  one_more (Some false) kept left sent more fulls fuller sends =
      omega (arith, ap (λ (l : List (Batch VersionState g)). length l) sends.2)
  one_more None kept left sent more fulls fuller sends =
      omega (arith, ap (λ (l : List (Batch VersionState g)). length l) sends.1)
  one_more (Some true) kept left sent more fulls fuller sends =
      omega (arith, ap (λ (l : List (Batch VersionState g)). length l) sends.3, length-append sent (sends.0 ∷ []))

  longer : (sent more : List (Batch VersionState g)) → Grew sent more → length sent ≤ length more
  longer sent more grew =
      omega (arith, ap (λ (l : List (Batch VersionState g)). length l) grew.1, length-append sent grew.0)

  one_longer : (sent more : List (Batch VersionState g)) (batch : Batch VersionState g) → more ≡ sent ++ batch ∷ []
      → length more ≡ length sent + 1
  one_longer sent more batch is = ap (λ (l : List (Batch VersionState g)). length l) is
      ∙ length-append sent (batch ∷ [])

  came : (applied before : Bool) (behind : Option Bool) (old new : Seen g) (kept first : Option (Batch VersionState g))
      (sent : List (Batch VersionState g)) (fulls : ℕ)
      → SendsAs (Some before) old.batch first old.sent sent old.fulls fulls → (applied ≡ true → old.number < new.number)
      → (applied ≡ false → new.number ≡ old.number)
      → Stops new.hop kept new.head old.empties new.empties
      → SendsAs behind kept new.batch sent new.sent fulls new.fulls
      → CameTo (came_to applied before behind) old new
  came true before behind old new kept first sent fulls one some none stops sends = inl (some refl)
  came false true behind old new kept first sent fulls one some none stops sends =
      inr (let more = longer sent new.sent (grew_sent behind kept new.batch sent new.sent fulls new.fulls sends) in
      omega (arith, one_longer old.sent sent one.0 one.3, more))
  came false false None old new kept first sent fulls one some none stops sends =
      (record { number = none refl; sent = sends.1 ∙ one.2 }, sends.2 ∙ ap raised one.3)
  came false false (Some true) old new kept first sent fulls one some none stops sends =
      inr (omega (
        arith,
        ap (λ (l : List (Batch VersionState g)). length l) one.2,
        one_longer sent new.sent sends.0 sends.3,
      ))
  came false false (Some false) old new kept first sent fulls one some none stops sends = (
    record { number = none refl; sent = sends.2 ∙ one.2 },
    sends.1,
    stops_none new.hop kept new.head old.empties new.empties sends.0 stops,
  )

  stopped : (did : Did) (behind : Option Bool) (old new : Seen g) (kept : Option (Batch VersionState g))
      (sent : List (Batch VersionState g)) (fulls : ℕ)
      → Stops new.hop kept new.head old.empties new.empties
      → SendsAs behind kept new.batch sent new.sent fulls new.fulls → Stopped did old new
  stopped Held behind old new kept sent fulls stops sends = tt
  stopped Idle behind old new kept sent fulls stops sends =
      stopped_for behind kept new.batch sent new.sent fulls new.fulls new.hop new.head old.empties new.empties
      sends stops
  stopped Worked behind old new kept sent fulls stops sends =
      stopped_for behind kept new.batch sent new.sent fulls new.fulls new.hop new.head old.empties new.empties
      sends stops

-- a turn: the batch is sent, commands are applied, and the batch is sent
module _ (old one two new : ControlInner) (applied before : Bool) (behind : Option Bool) where
  pub record Turns : Type 0 where
    pub sends : SendsAs (Some before) old.batch one.batch (sent old.versions) (sent one.versions)
        (full_answers old.versions) (full_answers one.versions)
    pub control_one : one.control ≡ old.control
    pub commands_one : one.commands ≡ old.commands
    pub versions_two : two.versions ≡ one.versions
    pub some : applied ≡ true → one.control.number < two.control.number
    pub none : applied ≡ false → two.control.number ≡ one.control.number
    pub few : two.control.number ≤ one.control.number + 16
    pub stops : Stops two.hop two.batch two.head (empty_answers one.commands) (empty_answers two.commands)
    pub sends_behind : SendsAs behind two.batch new.batch (sent two.versions) (sent new.versions)
        (full_answers two.versions) (full_answers new.versions)
    pub control_new : new.control ≡ two.control
    pub head_new : new.head ≡ two.head
    pub commands_new : new.commands ≡ two.commands
    pub hop_new : new.hop ≡ two.hop

  sends_to_two : Turns → SendsAs (Some before) old.batch one.batch (sent old.versions) (sent two.versions)
      (full_answers old.versions) (full_answers two.versions)
  sends_to_two t =
      subst (λ v. SendsAs (Some before) old.batch one.batch (sent old.versions) (sent v)
      (full_answers old.versions) (full_answers v)) (sym t.versions_two) t.sends

  stops_new : Turns → Stops new.hop two.batch new.head (empty_answers old.commands) (empty_answers new.commands)
  stops_new t =
      subst (λ (h : ℕ). Stops h two.batch new.head (empty_answers old.commands) (empty_answers new.commands))
      (sym t.hop_new)
      (subst (λ (h : Option CommandItem). Stops two.hop two.batch h (empty_answers old.commands)
      (empty_answers new.commands)) (sym t.head_new)
      (subst (λ c. Stops two.hop two.batch two.head (empty_answers old.commands) (empty_answers c)) (sym t.commands_new)
      (subst (λ c. Stops two.hop two.batch two.head (empty_answers c)
      (empty_answers two.commands)) t.commands_one t.stops)))

  turn_came : Turns → CameTo (came_to applied before behind) (seen_of old) (seen_of new)
  turn_came t =
      came applied before behind (seen_of old) (seen_of new) two.batch one.batch (sent two.versions)
      (full_answers two.versions) (sends_to_two t)
      (λ is. let more = t.some is in omega
      (arith, more, ap (λ k. k.number) t.control_one, ap (λ k. k.number) t.control_new))
      (λ is. ap (λ k. k.number) t.control_new ∙ t.none is ∙ ap (λ k. k.number) t.control_one)
      (stops_new t) t.sends_behind

  turn_stopped : (did : Did) → Turns → Stopped did (seen_of old) (seen_of new)
  turn_stopped did t = stopped did behind (seen_of old) (seen_of new) two.batch (sent two.versions)
      (full_answers two.versions) (stops_new t) t.sends_behind

  pub turn_sent : Turns → Grew (sent old.versions) (sent new.versions)
  turn_sent t =
      grew_more (sent old.versions) (sent two.versions) (sent new.versions)
      (grew_sent (Some before) old.batch one.batch (sent old.versions) (sent two.versions) (full_answers old.versions)
      (full_answers two.versions) (sends_to_two t))
      (grew_sent behind two.batch new.batch (sent two.versions) (sent new.versions) (full_answers two.versions)
      (full_answers new.versions) t.sends_behind)

  pub turn_ended : Turns → Ended (came_to applied before behind) (seen_of old) (seen_of new)
  turn_ended t = record {
    came = turn_came t;
    stopped = turn_stopped (came_to applied before behind) t;
    commands = omega (arith, t.few, ap (λ k. k.number) t.control_one, ap (λ k. k.number) t.control_new);
    batches = omega (
      arith,
      one_more (Some before) old.batch one.batch (sent old.versions) (sent two.versions) (full_answers old.versions)
          (full_answers two.versions) (sends_to_two t),
      one_more behind two.batch new.batch (sent two.versions) (sent new.versions) (full_answers two.versions)
          (full_answers new.versions) t.sends_behind,
    );
  }
