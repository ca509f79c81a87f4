-- Each step of an end keeps the rule of the lane, and what it tells.
use Rattle.std.proofs.Common.{◌≡◌, ◌≢◌, ℕ, zero, suc, ◌^◌, ◌<◌, ◌≤◌, true, false, true≢false, List, [], ◌∷◌, ◌++◌, length, set, sym, refl, ap, ◌∙◌, subst, ◌⊎◌, inl, inr, ⊎_elim, append_assoc, length-append, arith, lit≤}
use mathlib.Core.Option.{some, some-ne-none}
use lib.ListN.{get_elem?}
use Rattle.crossbeam_queue.specs.Fifo.{Pushes, Pops, Forks, Merges, Learns}
use Rattle.crossbeam_queue.proofs.Lists.{at_set, at_snoc}
use Rattle.lane_core.specs.declared.sequence.EndLog.{EndLog}
use Rattle.lane_core.specs.Sequence.{Lawful, log, Fits, Laid}

module _ {T : Type 0} where
  -- an item of a list that got one more at its end is the last one, or stood there before
  last_or_before : (sent before : List T) (x item : T) (after : List T) → sent ++ x ∷ [] ≡ before ++ item ∷ after
      → ((sent ≡ before) × (x ≡ item)) ⊎ ((rest : List T) × (sent ≡ before ++ item ∷ rest))
  last_or_before [] [] x item after e = inl (refl, cc)
  last_or_before (y ∷ ys) [] x item after e = inr (ys, cc)
  last_or_before [] (b ∷ []) x item after e = absurd (let h : [] ≡ item ∷ after = cc in let no : ⊥ = cc in no)
  last_or_before [] (b ∷ c ∷ cs) x item after e = absurd (let h : [] ≡ c
      ∷ (cs ++ item ∷ after) = cc in let no : ⊥ = cc in no)
  last_or_before (y ∷ ys) (b ∷ bs) x item after e =
      let head : y ≡ b = cc in let tail : ys ++ x ∷ [] ≡ bs ++ item ∷ after = cc in
      ⊎_elim (λ (last : (ys ≡ bs) × (x ≡ item)). inl (cc, last.1))
      (λ (there : (rest : List T) × (ys ≡ bs ++ item ∷ rest)). inr (there.0, let t = there.1 in cc))
      (last_or_before ys bs x item after tail)

  holds_none : (before : List T) (item : T) (after : List T) → [] ≡ before ++ item ∷ after → ⊥
  holds_none [] item after e = cc
  holds_none (b ∷ bs) item after e = cc

module _ {T : Type 0} (follows : List T → T → Type 0) where
  lawful_none : Lawful follows []
  lawful_none before item after e = absurd (holds_none before item after e)

  lawful_more : (sent : List T) (x : T) → Lawful follows sent → follows sent x → Lawful follows (sent ++ x ∷ [])
  lawful_more sent x lawful may before item after e =
      ⊎_elim (λ (last : (sent ≡ before) × (x ≡ item)). subst (λ (p : List T × T). follows p.0 p.1)
      (λ i. (last.0 i, last.1 i)) may)
      (λ (there : (rest : List T) × (sent ≡ before ++ item ∷ rest)). lawful before item there.0 there.1)
      (last_or_before sent before x item after e)

  lawful_front : (got more : List T) → Lawful follows (got ++ more) → Lawful follows got
  lawful_front got more lawful before item after e =
      lawful before item (after ++ more) (ap (λ l. l ++ more) e ∙ append_assoc before (item ∷ after) more)

  -- what a receiver learns of the item that it took last
  pub lawful_last : (got : List T) (x : T) → Lawful follows (got ++ x ∷ []) → follows got x
  lawful_last got x lawful = lawful got x [] refl

module _ {T : Type 0} where
  at_end : (l : List (EndLog T)) (a b : EndLog T) (j : ℕ) → get_elem? l j ≢ some b → get_elem? (l ++ a ∷ []) j ≡ some b
      → j ≡ length l
  at_end [] a b zero n e = refl
  at_end [] a b (suc j) n e = absurd (some-ne-none b (sym e))
  at_end (x ∷ xs) a b zero n e = absurd (n e)
  at_end (x ∷ xs) a b (suc j) n e = ap suc (at_end xs a b j n e)

  abbrev AllAt : (ℕ → EndLog T → Type 0) → List (EndLog T) → Type 0
  AllAt F views = (port : ℕ) (v : EndLog T) → get_elem? views port ≡ some v → F port v

  all_set : (F : ℕ → EndLog T → Type 0) (views : List (EndLog T)) (port : ℕ) (w : EndLog T) → F port w
      → ((j : ℕ) (u : EndLog T) → j ≢ port → get_elem? views j ≡ some u → F j u) → AllAt F (set views port w)
  all_set F views port w mine others j u e =
      ⊎_elim (λ (x : (j ≡ port) × (w ≡ u)). subst (λ (y : ℕ × EndLog T). F y.0 y.1) (λ i. (sym x.0 i, x.1 i)) mine)
      (λ (x : (j ≢ port) × (get_elem? views j ≡ some u)). others j u x.0 x.1)
      (at_set views port j w u e)

module _ {T : Type 0} (follows : List T → T → Type 0) where
  pub begins : Laid follows [] (log true true [] [] ∷ [])
  begins = record {
    writer = 0;
    reader = 0;
    sent = [];
    got = [];
    in_order = refl;
    few = lit≤ tt;
    lawful = lawful_none follows;
    views_fit = all_set (Fits 0 0 [] []) (log true true [] [] ∷ []) 0 (log true true [] []) (
      (λ _. (refl, refl)),
      λ _. (refl, refl),
    )
        (λ j u other e. absurd (other (at_end [] _ u j (λ x. some-ne-none u (sym x)) e)));
  }

  pub sends : (n port : ℕ) (v : EndLog T) (x : T) → v.pushes ≡ true → length v.sent < 2 ^ 50 → follows v.sent x
      → Pushes (Laid follows) n port v x (λ w. (w ≡ log v.pushes v.pops (v.sent ++ x ∷ []) v.got)
      × Lawful follows (v.sent ++ x ∷ []))
  sends n port v x may few allowed items views room h at =
      let w : EndLog T = log v.pushes v.pops (v.sent ++ x ∷ []) v.got in
      let mine = h.views_fit port v at in
      let writer = mine.0 may in
      let more : Lawful follows (v.sent ++ x ∷ []) = lawful_more follows v.sent x
      (subst (Lawful follows) (sym writer.1) h.lawful) allowed in (
        w,
        record {
          writer = h.writer;
          reader = h.reader;
          sent = v.sent ++ x ∷ [];
          got = h.got;
          in_order = ap (λ l. l ++ x ∷ []) (writer.1 ∙ h.in_order) ∙ append_assoc h.got items (x ∷ []);
          few = omega (arith, length-append v.sent (x ∷ []));
          lawful = more;
          views_fit = all_set (Fits h.writer h.reader (v.sent ++ x ∷ []) h.got) views port w
              ((λ _. (writer.0, refl)), mine.1)
              (λ j u other e. (
                (λ p. absurd (other (((h.views_fit j u e).0 p).0 ∙ sym writer.0))),
                (h.views_fit j u e).1,
              ));
        },
        (refl, more),
      )

  pub waits : (port : ℕ) (v : EndLog T) → v.pushes ≡ true
      → Learns (Laid follows) port v (λ items. (length items ≤ length v.sent) × Lawful follows v.sent)
  waits port v may items views h at =
      let writer = (h.views_fit port v at).0 may in (
        (let e = ap length (writer.1 ∙ h.in_order) in omega (arith, length-append h.got items, e)),
        subst (Lawful follows) (sym writer.1) h.lawful,
      )

  -- after a pop by who may pop, whatever else it knows
  popped : (port : ℕ) (v : EndLog T) (x : T) (items : List T) (views : List (EndLog T)) → v.pops ≡ true
      → Laid follows (x ∷ items) views
      → get_elem? views port ≡ some v → Laid follows items
      (set views port (log v.pushes v.pops v.sent (v.got ++ x ∷ [])))
  popped port v x items views may h at =
      let w : EndLog T = log v.pushes v.pops v.sent (v.got ++ x ∷ []) in
      let mine = h.views_fit port v at in
      let reader = mine.1 may in
      record {
        writer = h.writer;
        reader = h.reader;
        sent = h.sent;
        got = v.got ++ x ∷ [];
        in_order = h.in_order ∙ ap (λ l. l ++ x ∷ items) (sym reader.1) ∙ sym (append_assoc v.got (x ∷ []) items);
        few = h.few;
        lawful = h.lawful;
        views_fit = all_set (Fits h.writer h.reader h.sent (v.got ++ x ∷ [])) views port w (
          mine.0,
          λ _. (reader.0, refl),
        )
            (λ j u other e. ((h.views_fit j u e).0, λ p. absurd (other (((h.views_fit j u e).1 p).0 ∙ sym reader.0))));
      }

  pub takes : (port : ℕ) (v : EndLog T) → v.pops ≡ true
      → Pops (Laid follows) port v (λ x w. (w ≡ log v.pushes v.pops v.sent (v.got ++ x ∷ []))
      × Lawful follows (v.got ++ x ∷ []) × (length (v.got ++ x ∷ []) ≤ 2 ^ 50))
  takes port v may x items views h at =
      let after : Laid follows items (set views port (log v.pushes v.pops v.sent (v.got ++ x ∷ []))) =
      popped port v x items views may h at in
      let reader = (h.views_fit port v at).1 may in
      let whole : h.sent ≡ (v.got ++ x ∷ []) ++ items =
      h.in_order ∙ ap (λ l. l ++ x ∷ items) (sym reader.1) ∙ sym (append_assoc v.got (x ∷ []) items) in (
        log v.pushes v.pops v.sent (v.got ++ x ∷ []),
        after,
        (
          refl,
          lawful_front follows (v.got ++ x ∷ []) items (subst (Lawful follows) whole h.lawful),
          (let few = h.few in let e = ap length whole in omega (arith, length-append (v.got ++ x ∷ []) items, e, few)),
        ),
      )

  pub takes_none : (port : ℕ) (v : EndLog T) → v.pops ≡ true → Learns (Laid follows) port v (λ items. Lawful follows v.got)
  takes_none port v may items views h at =
      let reader = (h.views_fit port v at).1 may in
      subst (Lawful follows) (sym reader.1) (lawful_front follows h.got items
      (subst (Lawful follows) h.in_order h.lawful))

  pub rests : (port : ℕ) (v : EndLog T) → v.pushes ≡ true → v.pops ≡ true
      → Learns (Laid follows) port v (λ items. (v.sent ≡ v.got ++ items) × Lawful follows v.sent)
  rests port v may takes items views h at =
      let mine = h.views_fit port v at in (
        (mine.0 may).1 ∙ h.in_order ∙ ap (λ l. l ++ items) (sym (mine.1 takes).1),
        subst (Lawful follows) (sym (mine.0 may).1) h.lawful,
      )

  pub drains : (port : ℕ) (v : EndLog T) → v.pushes ≡ true → v.pops ≡ true
      → Pops (Laid follows) port v (λ x w. (w ≡ log v.pushes v.pops v.sent (v.got ++ x ∷ []))
      × (length (v.got ++ x ∷ []) ≤ length v.sent))
  drains port v may takes x items views h at =
      let after : Laid follows items (set views port (log v.pushes v.pops v.sent (v.got ++ x ∷ []))) =
      popped port v x items views takes h at in
      let mine = h.views_fit port v at in
      let whole : v.sent ≡ (v.got ++ x ∷ []) ++ items =
      (mine.0 may).1 ∙ h.in_order ∙ ap (λ l. l ++ x ∷ items) (sym (mine.1 takes).1)
      ∙ sym (append_assoc v.got (x ∷ []) items) in (
        log v.pushes v.pops v.sent (v.got ++ x ∷ []),
        after,
        (refl, (let e = ap length whole in omega (arith, length-append (v.got ++ x ∷ []) items, e))),
      )

  pub parts : (port : ℕ) (v : EndLog T) → v.pushes ≡ true → v.pops ≡ true
      → Forks (Laid follows) port v (log true false v.sent []) (log false true [] v.got)
  parts port v may takes items views h at =
      let left : EndLog T = log true false v.sent [] in let right : EndLog T = log false true [] v.got in
      let mine = h.views_fit port v at in let vs : List (EndLog T) = set views port left in
      let Old : ℕ → EndLog T → Type 0 = λ j u. (u.pushes ≡ true → (j ≡ h.writer) × (u.sent ≡ h.sent)) × (u.pops ≢ true) in
      let old : AllAt Old vs = all_set Old views port left ((λ _. mine.0 may), λ p. true≢false (sym p))
      (λ j u other e. ((h.views_fit j u e).0, λ p. other (((h.views_fit j u e).1 p).0 ∙ sym (mine.1 takes).0))) in
      record {
        writer = h.writer;
        reader = length vs;
        sent = h.sent;
        got = h.got;
        in_order = h.in_order;
        few = h.few;
        lawful = h.lawful;
        views_fit = λ j u e. ⊎_elim (λ x. ((old j u x).0, λ p. absurd ((old j u x).1 p)))
            (λ (is : right ≡ u). (
              (λ p. absurd (true≢false (sym (ap (λ (y : EndLog T). y.pushes) is ∙ p)))),
              λ p. (
                at_end vs right u j (λ x. (old j u x).1 p) e,
                ap (λ (y : EndLog T). y.got) (sym is)
                    ∙ (mine.1 takes).1,
              ),
            ))
            (at_snoc vs right u j e);
      }

  pub joins : (port : ℕ) (v : EndLog T) (other : ℕ) (u : EndLog T) → v.pushes ≡ true → u.pops ≡ true
      → Merges (Laid follows) port v other u (log true true v.sent u.got) (log false false [] [])
  joins port v other u may takes items views h at two at' =
      let both : EndLog T = log true true v.sent u.got in let mine = h.views_fit port v at in let vs : List (EndLog T) =
      set views port both in
      let was : get_elem? views other ≡ some u = ⊎_elim (λ x. absurd (two x.0)) (λ x. x.1)
      (at_set views port other both u at') in
      let theirs = (h.views_fit other u was).1 takes in
      let Now : ℕ → EndLog T → Type 0 = λ j y. j ≢ other → Fits h.writer port h.sent h.got j y in
      let now : AllAt Now vs = all_set Now views port both (λ _. ((λ _. mine.0 may), λ _. (refl, theirs.1)))
      (λ j y _ e apart. ((h.views_fit j y e).0, λ p. absurd (apart (((h.views_fit j y e).1 p).0 ∙ sym theirs.0)))) in
      record {
        writer = h.writer;
        reader = port;
        sent = h.sent;
        got = h.got;
        in_order = h.in_order;
        few = h.few;
        lawful = h.lawful;
        views_fit = all_set (Fits h.writer port h.sent h.got) vs other (log false false [] [])
            ((λ p. absurd (true≢false (sym p))), λ p. absurd (true≢false (sym p)))
            (λ j y apart e. now j y e apart);
      }
