-- The pieces of a book that represents events are those of the active bearers, one of each.
use Rattle.std.proofs.Common.{◌≡◌, ℕ, nat_eq, ◌+◌, ◌≤◌, ◌==◌, ◌&&◌, not, nat_lt, Bool, true, false, cond, List, [], ◌∷◌, ◌++◌, length, map, fold, filter, inl, inr, refl, sym, ap, ◌∙◌, subst, arith, eq-eqb}
use Rattle.std.specs.Cmp.{nat_eq_equiv}
use Rattle.std.specs.List.{AllByRecursion, IsDistinct, list_all}
use Rattle.std.proofs.lemmas.Bool.{ne_eqb, eqb-true, false≢true, cases_Bool, not_from_false}
use Rattle.std.proofs.lemmas.List.{length-map}
use Rattle.std.proofs.lemmas.List.Sums.{fold-append}
use Rattle.std.proofs.lemmas.Map.Made.{length-le_from_is_member}
use Rattle.charging_book.specs.declared.records.Piece.{Piece}
use Rattle.charging_book.specs.declared.records.Why.TheVariants.{Qos, Gone}
use Rattle.charging_book.specs.Rows.{Counters}
use Rattle.charging_book.specs.Accounts as accounts
use Rattle.charging_book.specs.Happenings.{Happening, started, forwarded, closed, Story, story_step, story_of, lives_of, open_at, opens_of}
use Rattle.charging_book.specs.Parts.{counts_in}
use Rattle.charging_book.proofs.Steps.{lives-distinct}
use Rattle.bearer_state.specs.declared.bearer.Phase.{Phase}
use Rattle.bearer_state.specs.declared.bearer.Phase.TheVariants.{Active}
use Rattle.bearer_state.specs.declared.bearer.Bearer.{Bearer}
use Rattle.bearer_state.specs.declared.version.ActiveBearer.{ActiveBearer}
use Rattle.bearer_state.specs.Session.{SessionState}
use Rattle.bearer_state.specs.Version.{VersionState, actives}
use Rattle.control_steps.specs.declared.command.CommandKind.{CommandKind}
use Rattle.packet_steps.specs.Past.{Past, happening_for, row_for}
use Rattle.packet_steps.specs.Change.{has_life, shared_with, lacking_in, shares_ambr, ended, cut, begun, marks, markers, marked}
use Rattle.packet_steps.specs.Parts.{is_piece_of, has_bearer, all_have_bearers, pieces_fit}
use Rattle.gate_model.specs.declared.event.Event.{Event}
use Rattle.gate_model.specs.declared.event.Event.TheVariants as event
use Rattle.gate_model.specs.SlotPast.{SlotPast, new_slot, next_session, next_version, commanded, met, happens, behind, past_of}
use Rattle.gate_model.proofs.Members.{In, of_map, in_map, of_filter, in_filter, of_any, in_any, IsOther, AreDistinct, other_at, other_if, one_of, distinct_filter}
use Rattle.gate_model.proofs.SessionSteps.{Advances, AreLived, GoesTo, session_goes}
use Rattle.gate_model.proofs.ActiveSteps.{shown_by, life_shown, same_bearer, actives_apart}
use Rattle.gate_model.proofs.BookSteps.{life_in, active_lives, of_has, AreOpen}
use Rattle.gate_model.proofs.PastSteps.{Keeps, judged_kept, all_released}
use Rattle.gate_model.proofs.Sound.{IsSound, new_sound, behind_sound, past_sound}

-- a story is that of a bearer
pub record IsOf (b : ActiveBearer) (story : Story) : Type 0 where
  pub ebi : story.ebi ≡ b.ebi
  pub qci : story.qci ≡ b.qos.qci

abbrev pub TellsAll : Past → Type 0
TellsAll past = (b : ActiveBearer) → In b past.version.bearers → IsOf b (story_of past.charged b.life)

story_all : (before later : List Happening) (life : ℕ)
    → story_of (before ++ later) life ≡ fold (story_step life) (story_of before life) later
story_all before later life = fold-append (story_step life) (record { ebi = 0; qci = 0; items = [] }) before later

-- what happens to a life that has started leaves whose it is
abbrev Starts : ℕ → Happening → Type 0
Starts life (started other ebi qci) = other ≡ life
Starts life (forwarded other p) = ⊥
Starts life (closed other why) = ⊥

of_either : (t : Bool) (b : ActiveBearer) (story other : Story) → IsOf b story → (t ≡ true → IsOf b other)
    → IsOf b (cond t other story)
of_either true b story other is or = or refl
of_either false b story other is or = is

step_of : (life : ℕ) (b : ActiveBearer) (story : Story) (now : Happening) → IsOf b story → (Starts life now → ⊥)
    → IsOf b (story_step life story now)
step_of life b story (started other ebi qci) is not_it =
    of_either (other == life) b story _ is (λ same. absurd (not_it (eqb-true other life same)))
step_of life b story (forwarded other p) is not_it =
    of_either (other == life) b story _ is (λ same. record { ebi = is.ebi; qci = is.qci })
step_of life b story (closed other why) is not_it =
    of_either (other == life) b story _ is (λ same. record { ebi = is.ebi; qci = is.qci })

steps_of : (life : ℕ) (b : ActiveBearer) (story : Story) (later : List Happening) → IsOf b story
    → ((now : Happening) → In now later → Starts life now → ⊥) → IsOf b (fold (story_step life) story later)
steps_of life b story [] is others = is
steps_of life b story (now ∷ later) is others =
    steps_of life b (story_step life story now) later (step_of life b story now is (others now (inl refl)))
    (λ h there. others h (inr there))

-- a packet is of a life that has started
row_tells : (past : Past) (b : ActiveBearer) (way : Bool) (octets : ℕ) → TellsAll past
    → (c : ActiveBearer) → In c past.version.bearers
    → IsOf c (story_of (past.charged ++ happening_for (row_for past b way octets) ∷ []) c.life)
row_tells past b way octets all c there =
    let now = happening_for (row_for past b way octets) in
    subst (IsOf c) (sym (story_all past.charged (now ∷ []) c.life))
    (step_of c.life c (story_of past.charged c.life) now (all c there) (λ none. none))

tells_keep : Keeps TellsAll (λ life. Unit {0})
tells_keep = record {
  row = λ past b way octets is there passed. row_tells past b way octets is;
  waiting = λ past row is old. is;
  moment = λ past at is. is;
  active = λ past b is there. tt;
}

-- the marks start the lives that begin
abbrev start_of : ActiveBearer → Happening
start_of b = started b.life b.ebi b.qos.qci

begun_after : (life : ℕ) (story : Story) (bs : List ActiveBearer) (b : ActiveBearer) → IsOf b story
    → IsOther life (active_lives bs) → IsOf b (fold (story_step life) story (map start_of bs))
begun_after life story bs b is other =
    steps_of life b story (map start_of bs) is (λ now there starts.
    let found = of_map start_of now bs there in
    other_at life found.0.life (active_lives bs) other (in_map life_in found.0 bs found.1)
    (sym (subst (Starts life) (sym found.2) starts)))

begun_tells : (story : Story) (bs : List ActiveBearer) (b : ActiveBearer) → AreDistinct (active_lives bs) → In b bs
    → IsOf b (fold (story_step b.life) story (map start_of bs))
begun_tells story [] b apart there = absurd there
begun_tells story (c ∷ bs) b apart (inl here) =
    subst (λ (x : ActiveBearer). IsOf x (fold (story_step x.life) story (map start_of (c ∷ bs)))) here
    (begun_after c.life (story_step c.life story (start_of c)) bs c
    (subst (λ t. IsOf c (cond t (record { ebi = c.ebi; qci = c.qos.qci; items = [] }) story))
    (sym (eq-eqb c.life c.life refl)) (record { ebi = refl; qci = refl })) apart.0)
begun_tells story (c ∷ bs) b apart (inr later) =
    begun_tells (story_step b.life story (start_of c)) bs b apart.1 later

no_start_ended : (life : ℕ) (bs : List ActiveBearer) (now : Happening)
    → In now (map (λ (b : ActiveBearer). closed b.life Gone) bs) → Starts life now → ⊥
no_start_ended life bs now there starts =
    let found = of_map (λ (b : ActiveBearer). closed b.life Gone) now bs there in
    subst (Starts life) (sym found.2) starts

no_start_cut : (t : Bool) (life : ℕ) (bs : List ActiveBearer) (now : Happening)
    → In now (cond t (map (λ (b : ActiveBearer). closed b.life Qos) bs) []) → Starts life now → ⊥
no_start_cut true life bs now there starts =
    let found = of_map (λ (b : ActiveBearer). closed b.life Qos) now bs there in
    subst (Starts life) (sym found.2) starts
no_start_cut false life bs now there starts = there

-- a bearer that goes on keeps its EBI
same_phase : (before : Phase) (after : Phase) (ebi next : ℕ) → before ≡ Active ebi → after ≡ Active next
    → Advances before after → ebi ≡ next
same_phase before after ebi next was is advances =
    let goes : after ≡ Active ebi = subst (λ (p : Phase). Advances p after) was advances in
    let same : Active ebi ≡ Active next = sym goes ∙ is in
    cc

same_ebi : (before after : SessionState) → AreLived before.lives before.bearers → GoesTo before after
    → (b c : ActiveBearer) → In b (actives before.bearers) → In c (actives after.bearers) → b.life ≡ c.life
    → b.ebi ≡ c.ebi
same_ebi before after lived goes b c b_there c_there same_life =
    let was = shown_by b before.bearers b_there in
    let is = shown_by c after.bearers c_there in
    elim (goes.from is.0 is.1) [
      | inl old ↦
          let lives : old.0.life ≡ was.0.life = sym old.2.life ∙ life_shown is.0 c is.2 ∙ sym same_life
          ∙ sym (life_shown was.0 b was.2) in
          let same : old.0 ≡ was.0 = one_of (λ (x : Bearer). x.life) old.0 was.0 before.bearers lived.apart old.1 was.1
          lives in
          same_phase old.0.phase is.0.phase b.ebi c.ebi (ap (λ (x : Bearer). x.phase) same ∙ was.2.phase)
          is.2.phase old.2.phase
      | inr new ↦ absurd (omega (
        arith,
        new,
        lived.below was.0 was.1,
        life_shown was.0 b was.2,
        life_shown is.0 c is.2,
        same_life,
      ))
    ]

-- what the marks tell of the bearers behind a command
marks_tell : (past : SlotPast) (command : CommandKind) → IsSound past → TellsAll past.packets
    → TellsAll (marked past.packets (next_version past command))
marks_tell past command sound all c there =
    let before = past.packets.version in
    let after = next_version past command in
    let goes = session_goes past.session command sound.lived in
    let bearers : before.bearers ≡ actives past.session.bearers = ap (λ (v : VersionState). v.bearers) sound.version in
    let over = ended before.bearers after.bearers in
    let cut_off = cut (nat_lt before.rates after.rates) before.bearers after.bearers in
    let begins = begun before.bearers after.bearers in
    let new = lacking_in before.bearers after.bearers in
    let so_far = fold (story_step c.life) (fold (story_step c.life) (story_of past.packets.charged c.life) over) cut_off in
    let whole : story_of (past.packets.charged ++ marks before after) c.life ≡ fold (story_step c.life) so_far begins =
    story_all past.packets.charged (marks before after) c.life
    ∙ fold-append (story_step c.life) (story_of past.packets.charged c.life) (over ++ cut_off) begins
    ∙ ap (λ s. fold (story_step c.life) s begins)
    (fold-append (story_step c.life) (story_of past.packets.charged c.life) over cut_off) in
    subst (IsOf c) (sym whole) (elim (cases_Bool (has_life before.bearers c.life)) [
      | inl has ↦
          let found = of_map life_in c.life before.bearers (of_has before.bearers c.life has) in
          let was : In found.0 (actives past.session.bearers) = subst (In found.0) bearers found.1 in
          let same = same_bearer past.session (next_session past command) sound.lived goes found.0 c was there found.2 in
          let ebis = same_ebi past.session (next_session past command) sound.lived goes found.0 c was there found.2 in
          let own = all found.0 found.1 in
          let story_is : IsOf c (story_of past.packets.charged c.life) = subst
          (λ life. IsOf c (story_of past.packets.charged life)) found.2 (record {
            ebi = own.ebi ∙ ebis;
            qci = own.qci ∙ ap (λ (q : _). q.qci) same.qos;
          }) in
          let kept = steps_of c.life c _ cut_off
          (steps_of c.life c (story_of past.packets.charged c.life) over story_is
          (λ now in_over. no_start_ended c.life (lacking_in after.bearers before.bearers) now in_over))
          (λ now in_cut. no_start_cut (nat_lt before.rates after.rates) c.life
          (filter shares_ambr (shared_with after.bearers before.bearers)) now in_cut) in
          begun_after c.life so_far new c kept (other_if c.life (active_lives new) (λ m m_there same_life.
          let one = of_map life_in m new m_there in
          let lacks = of_filter (λ (x : ActiveBearer). not (has_life before.bearers x.life)) one.0 after.bearers one.1 in
          false≢true (sym (ap (λ t. not t) (ap (has_life before.bearers) (one.2 ∙ sym same_life) ∙ has)) ∙ lacks.1)))
      | inr begins_now ↦
          begun_tells so_far new c
          (distinct_filter life_in (λ (x : ActiveBearer). not (has_life before.bearers x.life)) after.bearers
          (actives_apart (next_session past command).bearers goes.lived.apart))
          (in_filter (λ (x : ActiveBearer). not (has_life before.bearers x.life)) c after.bearers there
          (not_from_false (has_life before.bearers c.life) begins_now))
    ])

tells_from : (past : SlotPast) (events : List Event) → IsSound past → TellsAll past.packets
    → TellsAll (fold behind past events).packets
unfolding happens
tells_from past [] sound all = all
tells_from past (event.Command command ∷ later) sound all =
    let after = next_version past command in
    tells_from (commanded past command) later (behind_sound past (event.Command command) sound)
    (all_released TellsAll (λ life. Unit {0}) tells_keep (marked past.packets after, markers past.packets.version after)
    past.packets.held (marks_tell past command sound all) (λ row there. tt))
tells_from past (event.Packet packet ∷ later) sound all =
    tells_from (met past packet) later (behind_sound past (event.Packet packet) sound)
    (judged_kept TellsAll (λ life. Unit {0}) tells_keep past.packets packet all)

pub tells_all : (slot : ℕ) (events : List Event) → TellsAll (past_of slot events).packets
tells_all slot events = tells_from (new_slot slot) events (new_sound slot) (λ b none. absurd none)

-- as many different numbers as others are no more
distinct_of : (ns : List ℕ) → AreDistinct ns → IsDistinct nat_eq ns
unfolding IsDistinct
distinct_of [] apart = tt
distinct_of (n ∷ ns) apart = (others n ns apart.0, distinct_of ns apart.1)
  where
    others : (n : ℕ) (ns : List ℕ) → IsOther n ns → AllByRecursion (λ m. nat_eq n m ≡ false) ns
    others n [] other = tt
    others n (m ∷ ns) other = (ne_eqb n m other.0, others n ns other.1)

pub no_more : (ns ms : List ℕ) → AreDistinct ns → ((n : ℕ) → In n ns → In n ms) → length ns ≤ length ms
no_more ns ms apart all = length-le_from_is_member nat_eq_equiv ns ms (distinct_of ns apart) (λ q member.
    let found = of_any (nat_eq q) ns member in in_any (nat_eq q) found.0 ms (all found.0 found.1) found.2)

-- the words for numbers that differ
others_of : (n : ℕ) (ns : List ℕ) → accounts.IsNone n ns → IsOther n ns
others_of n [] none = tt
others_of n (m ∷ ns) none = (λ same. none.0 (sym same), others_of n ns none.1)

pub apart_of : (ns : List ℕ) → accounts.AreDistinct ns → AreDistinct ns
apart_of [] distinct = tt
apart_of (n ∷ ns) distinct = (others_of n ns distinct.0, apart_of ns distinct.1)

-- so the pieces fit
one_has : (past : Past) (life : ℕ) (counts : Counters) → AreOpen (lives_of past.charged) past.version.bearers
    → TellsAll past → In life (lives_of past.charged) → open_at past.charged life ≡ counts
    → (b : ActiveBearer) × In b past.version.bearers × (counts.life ≡ b.life) × (counts.ebi ≡ b.ebi)
    × (counts.qci ≡ b.qos.qci)
one_has past life counts opened all there is =
    let found = of_map life_in life past.version.bearers (opened.active life there) in
    let own = subst (λ l. IsOf found.0 (story_of past.charged l)) found.2 (all found.0 found.1) in (
      found.0,
      found.1,
      sym (ap (λ (x : Counters). x.life) is) ∙ sym found.2,
      sym (ap (λ (x : Counters). x.ebi) is) ∙ own.ebi,
      sym (ap (λ (x : Counters). x.qci) is) ∙ own.qci,
    )

same_piece : (piece : Piece) (b : ActiveBearer) → piece.counts.life ≡ b.life → piece.counts.ebi ≡ b.ebi
    → piece.counts.qci ≡ b.qos.qci → is_piece_of piece b ≡ true
same_piece piece b lives ebis qcis =
    ap (λ t. t && ((piece.counts.ebi == b.ebi) && (piece.counts.qci == b.qos.qci)))
    (eq-eqb piece.counts.life b.life lives)
    ∙ ap (λ t. t && (piece.counts.qci == b.qos.qci)) (eq-eqb piece.counts.ebi b.ebi ebis)
    ∙ eq-eqb piece.counts.qci b.qos.qci qcis

all_at : {X : Type 0} (test : X → Bool) (xs : List X) → ((x : X) → In x xs → test x ≡ true) → list_all test xs ≡ true
all_at test [] passes = refl
all_at test (x ∷ xs) passes =
    ap (λ t. t && list_all test xs) (passes x (inl refl)) ∙ all_at test xs (λ y there. passes y (inr there))

pub pieces_of_bearers : (slot : ℕ) (events : List Event) (pieces : List Piece)
    → map counts_in pieces ≡ opens_of (past_of slot events).packets.charged
    → pieces_fit (past_of slot events).packets.version.bearers pieces ≡ true
pieces_of_bearers slot events pieces are =
    let past = (past_of slot events).packets in
    let sound = past_sound slot events in
    let opened = sound.packets.opened in
    let lives = lives_of past.charged in
    let bearers = past.version.bearers in
    let less = no_more lives (active_lives bearers)
    (apart_of lives (lives-distinct past.charged sound.packets.lawful)) opened.active in
    let more = no_more (active_lives bearers) lives sound.packets.apart opened.opened in
    let count : length pieces ≡ length lives =
    sym (length-map pieces counts_in) ∙ ap length are ∙ length-map lives (open_at past.charged) in
    let same : length pieces ≡ length bearers =
    omega (arith, less, more, count, length-map bearers life_in) in
    ap (λ t. t && all_have_bearers bearers pieces) (eq-eqb (length pieces) (length bearers) same)
    ∙ all_at (has_bearer bearers) pieces (λ piece there.
    let found = of_map (open_at past.charged) piece.counts lives
    (subst (In piece.counts) are (in_map counts_in piece pieces there)) in
    let is = one_has past found.0 piece.counts opened (tells_all slot events) found.1 found.2 in
    in_any (is_piece_of piece) is.0 bearers is.1 (same_piece piece is.0 is.2 is.3 is.4))
