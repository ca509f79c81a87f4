-- What was forwarded for a life, or while the AMBR was set so often, stays within its rate from then on.
use Rattle.std.proofs.Common.{◌≡◌, ℕ, ◌+◌, ◌<◌, ◌≤◌, ◌==◌, ◌&&◌, Bool, true, false, not, List, [], ◌∷◌, ◌++◌, fold, refl, sym, ap, ◌∙◌, subst, inl, inr, arith}
use Rattle.std.proofs.lemmas.Bool.{eqb-true, and_parts, not-true}
use Rattle.pc_base.specs.declared.packet.Packet.{Packet}
use Rattle.bearer_state.specs.declared.bearer.Bearer.{Bearer}
use Rattle.bearer_state.specs.declared.qos.Qos.{Qos}
use Rattle.bearer_state.specs.declared.version.ActiveBearer.{ActiveBearer}
use Rattle.bearer_state.specs.Qos.{is_guaranteed}
use Rattle.bearer_state.specs.Session.{SessionState}
use Rattle.bearer_state.specs.Version.{VersionState, version_of, actives}
use Rattle.packet_steps.specs.Past.{Past, row_for}
use Rattle.packet_steps.specs.Policing.{mbr, ambr, same_way, is_of_life, is_of_rates, passes}
use Rattle.packet_steps.specs.Change.{markers, marked}
use Rattle.gate_model.specs.declared.event.Event.{Event}
use Rattle.gate_model.specs.declared.event.Event.TheVariants as event
use Rattle.gate_model.specs.SlotPast.{SlotPast, next_session, next_version, happens, behind, past_of, version_after}
use Rattle.gate_model.specs.Rates.{LivesArePoliced, SharesArePoliced}
use Rattle.gate_model.proofs.Members.{In, in_contains, one_of}
use Rattle.gate_model.proofs.SessionSteps.{life_of, GoesTo, session_goes}
use Rattle.gate_model.proofs.BookSteps.{life_in}
use Rattle.gate_model.proofs.PolicedRows.{PolicedBy, left_out, let_in, passes_own, passes_shared, same_ways}
use Rattle.gate_model.proofs.ActiveSteps.{shown_by, life_shown}
use Rattle.gate_model.proofs.PastSteps.{Keeps, judged_kept, all_released}
use Rattle.gate_model.proofs.Sound.{IsSound, behind_sound, past_sound}
use Rattle.gate_model.proofs.Following.{past-append}

-- A past whose active bearers of a life have one quality of service, and whose rows of that life are policed by it.
record OfLife (life : ℕ) (qos : Qos) (past : Past) : Type 0 where
  same : (b : ActiveBearer) → In b past.version.bearers → b.life ≡ life → b.qos ≡ qos
  policed : (up : Bool) → PolicedBy (mbr up qos) (is_of_life life up) past.forwarded

life_row : (life : ℕ) (qos : Qos) (past : Past) (b : ActiveBearer) (way up : Bool) (octets : ℕ)
    → is_guaranteed qos.qci ≡ true → OfLife life qos past
    → In b past.version.bearers → passes past b way octets ≡ true → (mine : Bool)
    → is_of_life life up (row_for past b way octets) ≡ mine
    → PolicedBy (mbr up qos) (is_of_life life up) (past.forwarded ++ row_for past b way octets ∷ [])
life_row life qos past b way up octets guaranteed of_life there passed false is =
    left_out (mbr up qos) (is_of_life life up) past.forwarded (row_for past b way octets) is (of_life.policed up)
life_row life qos past b way up octets guaranteed of_life there passed true is =
    let parts = and_parts (b.life == life) (same_way way up) is in
    let lives : b.life ≡ life = eqb-true b.life life parts.0 in
    let same : b.qos ≡ qos = of_life.same b there lives in
    let ways : way ≡ up = same_ways way up parts.1 in
    let passed_here : passes past b up octets ≡ true = subst (λ w. passes past b w octets ≡ true) ways passed in
    let fits = passes_own past b up octets (ap (λ (q : Qos). is_guaranteed q.qci) same ∙ guaranteed) passed_here in
    let_in (mbr up qos) (is_of_life life up) past.forwarded (row_for past b way octets) is
    (rw (← lives, ← same) fits) (of_life.policed up)

life_keeps : (life : ℕ) (qos : Qos) → is_guaranteed qos.qci ≡ true → Keeps (OfLife life qos) (λ n. Unit {0})
life_keeps life qos guaranteed = record {
  row = λ past b way octets is there passed. record {
    same = is.same;
    policed = λ up. life_row life qos past b way up octets guaranteed is there passed
        (is_of_life life up (row_for past b way octets)) refl;
  };
  waiting = λ past row is known. record { same = is.same; policed = is.policed };
  moment = λ past at is. record { same = is.same; policed = is.policed };
  active = λ past b is there. tt;
}

-- the same of a slot's past: no bearer of another quality of service ever has the life
record HasLife (life : ℕ) (qos : Qos) (past : SlotPast) : Type 0 where
  sound : IsSound past
  below : life < past.session.lives
  one_qos : (b : Bearer) → In b past.session.bearers → b.life ≡ life → b.qos ≡ qos
  packets : OfLife life qos past.packets

qos_stays : (life : ℕ) (qos : Qos) (before after : SessionState) → GoesTo before after → life < before.lives
    → ((b : Bearer) → In b before.bearers → b.life ≡ life → b.qos ≡ qos) → (b : Bearer) → In b after.bearers
    → b.life ≡ life → b.qos ≡ qos
qos_stays life qos before after goes below one b there lives = elim (goes.from b there) [
  | inl old ↦ old.2.qos ∙ one old.0 old.1 (sym old.2.life ∙ lives)
  | inr new ↦ absurd (omega (arith, new, below, lives))
]

active_qos : (life : ℕ) (qos : Qos) (bearers : List Bearer)
    → ((b : Bearer) → In b bearers → b.life ≡ life → b.qos ≡ qos) → (c : ActiveBearer) → In c (actives bearers)
    → c.life ≡ life → c.qos ≡ qos
active_qos life qos bearers one c there lives =
    let shown = shown_by c bearers there in
    sym (ap (λ (a : ActiveBearer). a.qos) shown.2.shown) ∙ one shown.0 shown.1 (life_shown shown.0 c shown.2 ∙ lives)

life_behind : (life : ℕ) (qos : Qos) → is_guaranteed qos.qci ≡ true → (past : SlotPast) (now : Event)
    → HasLife life qos past → HasLife life qos (behind past now)
unfolding happens
life_behind life qos guaranteed past (event.Command command) has =
    let goes = session_goes past.session command has.sound.lived in
    let one = qos_stays life qos past.session (next_session past command) goes has.below has.one_qos in
    record {
      sound = behind_sound past (event.Command command) has.sound;
      below = omega (arith, has.below, goes.lives);
      one_qos = one;
      packets = all_released (OfLife life qos) (λ n. Unit {0}) (life_keeps life qos guaranteed) (
        marked past.packets (next_version past command),
        markers past.packets.version (next_version past command),
      ) past.packets.held
          (record {
            same = active_qos life qos (next_session past command).bearers one;
            policed = has.packets.policed;
          }) (λ row there. tt);
    }
life_behind life qos guaranteed past (event.Packet packet) has = record {
  sound = behind_sound past (event.Packet packet) has.sound;
  below = has.below;
  one_qos = has.one_qos;
  packets = judged_kept (OfLife life qos) (λ n. Unit {0})
      (life_keeps life qos guaranteed) past.packets packet has.packets;
}

life_from : (life : ℕ) (qos : Qos) → is_guaranteed qos.qci ≡ true → (past : SlotPast) (events : List Event)
    → HasLife life qos past → HasLife life qos (fold behind past events)
life_from life qos guaranteed past [] has = has
life_from life qos guaranteed past (now ∷ later) has =
    life_from life qos guaranteed (behind past now) later (life_behind life qos guaranteed past now has)

life_now : (past : SlotPast) (b : ActiveBearer) → IsSound past → In b past.packets.version.bearers
    → is_guaranteed b.qos.qci ≡ true → HasLife b.life b.qos past
life_now past b sound there guaranteed =
    let bearers : past.packets.version.bearers ≡ actives past.session.bearers =
    ap (λ (v : VersionState). v.bearers) sound.version in
    let shown = shown_by b past.session.bearers (subst (In b) bearers there) in
    record {
      sound = sound;
      below = (sound.packets.actives b there).below;
      one_qos = λ c c_there lives.
          let same : c ≡ shown.0 = one_of life_of c shown.0 past.session.bearers sound.lived.apart c_there shown.1
          (lives ∙ sym (life_shown shown.0 b shown.2)) in
          ap (λ (d : Bearer). d.qos) same ∙ ap (λ (a : ActiveBearer). a.qos) shown.2.shown;
      packets = record {
        same = λ c c_there lives. ap (λ (a : ActiveBearer). a.qos)
            (one_of life_in c b past.packets.version.bearers sound.packets.apart c_there there lives);
        policed = λ up. sound.packets.policed.own b up there guaranteed;
      };
    }

pub lives_policed : LivesArePoliced
lives_policed slot before after b up there guaranteed =
    let has = life_now (past_of slot before) b (past_sound slot before)
    (in_contains b (version_after slot before).bearers there) guaranteed in
    subst (λ (past : SlotPast). PolicedBy (mbr up b.qos) (is_of_life b.life up) past.packets.forwarded)
    (sym (past-append slot before after))
    ((life_from b.life b.qos guaranteed (past_of slot before) after has).packets.policed up)

-- A past whose rates are at least so many, and as long as they are so many, have these rates for AMBR.
record OfRates (rates : ℕ) (shares : Bool → ℕ) (past : Past) : Type 0 where
  least : rates ≤ past.version.rates
  same : past.version.rates ≡ rates → (up : Bool) → ambr up past.version ≡ shares up
  policed : (up : Bool) → PolicedBy (shares up) (is_of_rates rates up) past.forwarded

rates_row : (rates : ℕ) (shares : Bool → ℕ) (past : Past) (b : ActiveBearer) (way up : Bool) (octets : ℕ)
    → OfRates rates shares past
    → passes past b way octets ≡ true → (mine : Bool) → is_of_rates rates up (row_for past b way octets) ≡ mine
    → PolicedBy (shares up) (is_of_rates rates up) (past.forwarded ++ row_for past b way octets ∷ [])
rates_row rates shares past b way up octets of_rates passed false is =
    left_out (shares up) (is_of_rates rates up) past.forwarded (row_for past b way octets) is (of_rates.policed up)
rates_row rates shares past b way up octets of_rates passed true is =
    let parts = and_parts (not (is_guaranteed b.qos.qci)) (past.version.rates == rates && same_way way up) is in
    let later = and_parts (past.version.rates == rates) (same_way way up) parts.1 in
    let equal : past.version.rates ≡ rates = eqb-true past.version.rates rates later.0 in
    let ways : way ≡ up = same_ways way up later.1 in
    let passed_here : passes past b up octets ≡ true = subst (λ w. passes past b w octets ≡ true) ways passed in
    let fits = passes_shared past b up octets (not-true (is_guaranteed b.qos.qci) parts.0) passed_here in
    let_in (shares up) (is_of_rates rates up) past.forwarded (row_for past b way octets) is
    (rw (← of_rates.same equal up, ← equal) fits) (of_rates.policed up)

rates_keep : (rates : ℕ) (shares : Bool → ℕ) → Keeps (OfRates rates shares) (λ n. Unit {0})
rates_keep rates shares = record {
  row = λ past b way octets is there passed. record {
    least = is.least;
    same = is.same;
    policed = λ up. rates_row rates shares past b way up octets is passed
        (is_of_rates rates up (row_for past b way octets)) refl;
  };
  waiting = λ past row is known. record { least = is.least; same = is.same; policed = is.policed };
  moment = λ past at is. record { least = is.least; same = is.same; policed = is.policed };
  active = λ past b is there. tt;
}

ambr_next : (up : Bool) (version : VersionState) (before after : SessionState) (n m : ℕ)
    → version ≡ version_of before n → after.up ≡ before.up → after.down ≡ before.down
    → ambr up (version_of after m) ≡ ambr up version
ambr_next true version before after n m is ups downs = ups ∙ sym (ap (λ (v : VersionState). v.up) is)
ambr_next false version before after n m is ups downs = downs ∙ sym (ap (λ (v : VersionState). v.down) is)

record HasRates (rates : ℕ) (shares : Bool → ℕ) (past : SlotPast) : Type 0 where
  sound : IsSound past
  packets : OfRates rates shares past.packets

rates_behind : (rates : ℕ) (shares : Bool → ℕ) (past : SlotPast) (now : Event) → HasRates rates shares past
    → HasRates rates shares (behind past now)
unfolding happens
rates_behind rates shares past (event.Command command) has =
    let goes = session_goes past.session command has.sound.lived in
    let were : past.packets.version.rates ≡ past.session.rates = ap (λ (v : VersionState). v.rates) has.sound.version in
    let least : rates ≤ past.packets.version.rates = has.packets.least in
    let rose : past.session.rates ≤ (next_session past command).rates = goes.rates in
    record {
      sound = behind_sound past (event.Command command) has.sound;
      packets = all_released (OfRates rates shares) (λ n. Unit {0}) (rates_keep rates shares) (
        marked past.packets (next_version past command),
        markers past.packets.version (next_version past command),
      ) past.packets.held
          (record {
            least = omega arith;
            same = λ equal up.
                let stay : (next_session past command).rates ≡ past.session.rates = omega arith in
                let was : past.packets.version.rates ≡ rates = omega arith in
                ambr_next up past.packets.version past.session (next_session past command) past.commands
                (past.commands + 1) has.sound.version (goes.up stay) (goes.down stay)
                ∙ has.packets.same was up;
            policed = has.packets.policed;
          }) (λ row there. tt);
    }
rates_behind rates shares past (event.Packet packet) has = record {
  sound = behind_sound past (event.Packet packet) has.sound;
  packets = judged_kept (OfRates rates shares) (λ n. Unit {0})
      (rates_keep rates shares) past.packets packet has.packets;
}

rates_from : (rates : ℕ) (shares : Bool → ℕ) (past : SlotPast) (events : List Event) → HasRates rates shares past
    → HasRates rates shares (fold behind past events)
rates_from rates shares past [] has = has
rates_from rates shares past (now ∷ later) has =
    rates_from rates shares (behind past now) later (rates_behind rates shares past now has)

pub shares_policed : SharesArePoliced
shares_policed slot before after up =
    let version = version_after slot before in
    let sound = past_sound slot before in
    let shares : Bool → ℕ = λ way. ambr way version in
    let has : HasRates version.rates shares (past_of slot before) = record {
      sound = sound;
      packets = record {
        least = omega arith;
        same = λ equal way. refl;
        policed = λ way. sound.packets.policed.shared way;
      };
    } in
    subst (λ (past : SlotPast). PolicedBy (shares up) (is_of_rates version.rates up) past.packets.forwarded)
    (sym (past-append slot before after))
    ((rates_from version.rates shares (past_of slot before) after has).packets.policed up)
