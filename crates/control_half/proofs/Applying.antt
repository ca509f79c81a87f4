-- One command more is applied.
use Rattle.std.proofs.Common.{◌≡◌, ℕ, ◌+◌, length, arith, Option, Some, None, List, [], ◌∷◌, ◌++◌, refl}
use Rattle.std.proofs.Common.{ap, sym, ◌∙◌, subst, append-nil, append_assoc, length-append}
use Rattle.bearer_state.specs.Session.{SessionState}
use Rattle.control_half.specs.declared.items.CommandItem.{CommandItem}
use Rattle.control_half.specs.declared.items.CommandDone.{CommandDone}
use Rattle.control_half.specs.Applied.{before_head, KeepsNext, in_due}
use Rattle.control_half.specs.Controlled.{session_behind, stepped, replied, replies_to, leaves, versions_left}
use Rattle.control_half.specs.Controlled.{HasApplied}
use Rattle.control_half.specs.Published.{Published}
use Rattle.control_half.proofs.Heads.{head_done}

-- the session behind one item more
stepped_last : (start : SessionState) (items : List CommandItem) (item : CommandItem)
    → stepped (session_behind start items) item ≡ session_behind start (items ++ item ∷ [])
stepped_last start [] item = refl
stepped_last start (first ∷ items) item = stepped_last (stepped start first) items item

replies_more : (number : ℕ) (start : SessionState) (items : List CommandItem) (item : CommandItem) (count : ℕ)
    → count ≡ number + length items
    → replies_to number start items ++ replied count (session_behind start items) item ∷ []
    ≡ replies_to number start (items ++ item ∷ [])
replies_more number start [] item count is = ap (λ (n : ℕ). replied n start item ∷ []) (is ∙ omega arith)
replies_more number start (first ∷ items) item count is =
    ap (λ (l : List CommandDone). replied number start first ∷ l)
    (replies_more (number + 1) (stepped start first) items item count (omega (arith, is)))

versions_more : (number : ℕ) (start : SessionState) (items : List CommandItem) (item : CommandItem) (count : ℕ)
    → count ≡ number + length items
    → versions_left number start items ++ leaves count (session_behind start items) item ∷ []
    ≡ versions_left number start (items ++ item ∷ [])
versions_more number start [] item count is = ap (λ (n : ℕ). leaves n start item ∷ []) (is ∙ omega arith)
versions_more number start (first ∷ items) item count is =
    ap (λ (l : List Published). leaves number start first ∷ l)
    (versions_more (number + 1) (stepped start first) items item count (omega (arith, is)))

-- one item more is applied, and its version is still to be sent
pub applied_more : (first : ℕ) (start : SessionState) (items : List CommandItem) (session : SessionState) (number : ℕ)
    (notes : List CommandDone) (sent kept : List Published) (item : CommandItem)
    → HasApplied first start items session number notes (sent ++ (kept ++ []))
    → HasApplied first start (items ++ item ∷ []) (stepped session item) (number + 1)
    (notes ++ replied number session item ∷ [])
    (sent ++ (kept ++ leaves number session item ∷ []))
applied_more first start items session number notes sent kept item applied =
    let before = session_behind start items in
    let last : Published = leaves number session item in
    record {
      session_is = ap (λ (s : SessionState). stepped s item) applied.session_is ∙ stepped_last start items item;
      counted = omega (arith, applied.counted, length-append items (item ∷ []));
      noted = ap (λ (s : SessionState). notes ++ replied number s item ∷ []) applied.session_is
          ∙ ap (λ (l : List CommandDone). l ++ replied number before item ∷ []) applied.noted
          ∙ replies_more first start items item number applied.counted;
      versions = ap (λ (l : List Published). sent ++ (l ++ last ∷ [])) (sym (append-nil kept))
          ∙ sym (append_assoc sent (kept ++ []) (last ∷ []))
          ∙ ap (λ (l : List Published). l ++ last ∷ []) applied.versions
          ∙ ap (λ (s : SessionState). versions_left first start items ++ leaves number s item ∷ []) applied.session_is
          ∙ versions_more first start items item number applied.counted;
    }

-- the one at the head is applied, where no version was due
pub head_applied : (first : ℕ) (start : SessionState) (head : Option CommandItem) (taken : List CommandItem)
    (due : Option ℕ) (sent kept : List Published)
    (old new : SessionState) (number more : ℕ) (notes noted : List CommandDone) (item : CommandItem)
    → head ≡ Some item → due ≡ None → KeepsNext head taken
    → HasApplied first start (before_head head taken) old number notes (sent ++ (kept ++ in_due due old number))
    → new ≡ stepped old item → more ≡ number + 1 → noted ≡ notes ++ replied number old item ∷ []
    → HasApplied first start taken new more noted (sent ++ (kept ++ in_due (Some item.floor) new more))
head_applied
    first start head taken due sent kept old new number more notes noted item is none next applied session count
    notes_are =
    let was : HasApplied first start (before_head head taken) old number notes (sent ++ (kept ++ [])) =
    subst (λ (d : Option ℕ). HasApplied first start (before_head head taken) old number notes
    (sent ++ (kept ++ in_due d old number))) none applied in
    subst (λ (l : List CommandItem). HasApplied first start l new more noted
    (sent ++ (kept ++ in_due (Some item.floor) new more)))
    (head_done head taken item is next)
    (subst (λ (l : List CommandDone). HasApplied first start (before_head head taken ++ item ∷ []) new more l
    (sent ++ (kept ++ in_due (Some item.floor) new more))) (sym notes_are)
    (subst (λ (p : SessionState × ℕ). HasApplied first start (before_head head taken ++ item ∷ []) p.0 p.1
    (notes ++ replied number old item ∷ []) (sent ++ (kept ++ in_due (Some item.floor) p.0 p.1)))
    (λ i. (sym session i, sym count i))
    (applied_more first start (before_head head taken) old number notes sent kept item was)))

-- versions side by side have numbers side by side
pub numbered_on : (number : ℕ) (start : SessionState) (items : List CommandItem) (before : List Published)
    (one next : Published) (after : List Published)
    → versions_left number start items ≡ before ++ one ∷ next ∷ after → next.version.number ≡ one.version.number + 1
numbered_on number start [] [] one next after is =
    absurd (let h : [] ≡ one ∷ next ∷ after = is in let no : ⊥ = cc in no)
numbered_on number start [] (b ∷ before) one next after is =
    absurd (let h : [] ≡ b ∷ (before ++ one ∷ next ∷ after) = is in let no : ⊥ = cc in no)
numbered_on number start (first ∷ []) [] one next after is =
    absurd (let h : [] ≡ next ∷ after = cc in let no : ⊥ = cc in no)
numbered_on number start (first ∷ second ∷ items) [] one next after is =
    let a : leaves number start first ≡ one = cc in
    let b : leaves (number + 1) (stepped start first) second ≡ next = cc in
    sym (ap (λ (p : Published). p.version.number) b) ∙ ap (λ (p : Published). p.version.number + 1) a
numbered_on number start (first ∷ items) (b ∷ before) one next after is =
    numbered_on (number + 1) (stepped start first) items before one next after
    (let h : versions_left (number + 1) (stepped start first) items ≡ before ++ one ∷ next ∷ after = cc in h)

-- before the first command
pub applied_none : (first : ℕ) (start session : SessionState) (taken : List CommandItem) (notes : List CommandDone)
    (sent kept : List Published) → session ≡ start → taken ≡ []
    → notes ≡ [] → sent ≡ [] → kept ≡ [] → HasApplied first start taken session first notes (sent ++ kept)
applied_none first start session taken notes sent kept is none unnoted unsent unkept =
    subst (λ (p : SessionState × List CommandItem × List CommandDone × List Published × List Published).
    HasApplied first start p.1 p.0 first p.2 (p.3 ++ p.4))
    (λ i. (sym is i, sym none i, sym unnoted i, sym unsent i, sym unkept i))
    (record { session_is = refl; counted = omega arith; noted = refl; versions = refl })
