-- What every past of a slot keeps, kept by each command and each packet.
use Rattle.std.proofs.Common.{◌≡◌, ℕ, ◌+◌, ◌≤◌, ◌==◌, ◌&&◌, Bool, true, false, not, List, [], ◌∷◌, fold, refl, sym, ap, ◌∙◌, subst, inl, inr, arith}
use Rattle.std.proofs.lemmas.Bool.{cases_Bool, eqb-true, eqb-false, ne_eqb, and_left, and_right}
use Rattle.pc_base.specs.declared.packet.Packet.{Packet}
use Rattle.bearer_state.specs.Qos.{is_guaranteed}
use Rattle.bearer_state.specs.Session.{SessionState}
use Rattle.bearer_state.specs.Version.{VersionState, version_of, actives}
use Rattle.charging_book.specs.Happenings.{lives_of}
use Rattle.control_steps.specs.declared.command.CommandKind.{CommandKind}
use Rattle.packet_steps.specs.Rows.{ForwardedRow}
use Rattle.packet_steps.specs.Past.{Past, new_past}
use Rattle.packet_steps.specs.Policing.{mbr, ambr, same_way, is_of_life, is_of_rates}
use Rattle.packet_steps.specs.Change.{has_life, marks, markers, marked, learnt}
use Rattle.packet_steps.specs.Verdicts.{judged}
use Rattle.gate_model.specs.SlotPast.{SlotPast, new_slot, next_session, next_version, commanded, met, happens, behind, past_of}
use Rattle.gate_model.specs.declared.event.Event.{Event}
use Rattle.gate_model.specs.declared.event.Event.TheVariants as event
use Rattle.gate_model.proofs.Members.{In, of_map, AreDistinct}
use Rattle.gate_model.proofs.SessionSteps.{AreLived, GoesTo, session_goes, new_lived}
use Rattle.gate_model.proofs.BookSteps.{life_in, active_lives, of_has, AreOpen, marks_may, lawful_all, lives-all}
use Rattle.gate_model.proofs.PolicedRows.{PolicedBy, ArePolicedNow, none_left}
use Rattle.gate_model.proofs.ActiveSteps.{actives_apart, IsOld, actives_old, stays_old, same_bearer, begins_fresh}
use Rattle.gate_model.proofs.PastSteps.{IsPast, past_keeps, Keeps, judged_kept, all_released}

pub record IsSound (past : SlotPast) : Type 0 where
  pub lived : AreLived past.session.lives past.session.bearers
  pub version : past.packets.version ≡ version_of past.session past.commands
  pub packets : IsPast (IsOld past.session) past.packets

-- before the first event
no_rows_policed : (version : VersionState) → ArePolicedNow version []
no_rows_policed version = record {
  own = λ b up there guaranteed. none_left (mbr up b.qos) (is_of_life b.life up) [] (λ row none. absurd none);
  shared = λ up. none_left (ambr up version) (is_of_rates version.rates up) [] (λ row none. absurd none);
}

pub new_sound : (slot : ℕ) → IsSound (new_slot slot)
new_sound slot = record {
  lived = new_lived slot;
  version = refl;
  packets = record {
    apart = tt;
    actives = λ b none. absurd none;
    rows = λ row none. absurd none;
    rates = λ row none. absurd none;
    waiting = λ row none. absurd none;
    lawful = tt;
    opened = record { active = λ life none. none; opened = λ life none. none };
    policed = no_rows_policed (new_past slot).version;
  };
}

-- what a command leaves of the policed rows: those of a life that goes on, none of one that begins
no_row_of_life : (life : ℕ) (up : Bool) (row : ForwardedRow) → (row.life ≡ life → ⊥) → is_of_life life up row ≡ false
no_row_of_life life up row differs = and_left (row.life == life) (same_way row.up up) (ne_eqb row.life life differs)

no_row_of_rates : (rates : ℕ) (up : Bool) (row : ForwardedRow) → (row.rates ≡ rates → ⊥)
    → is_of_rates rates up row ≡ false
no_row_of_rates rates up row differs =
    and_right (not (is_guaranteed row.qci)) (row.rates == rates && same_way row.up up)
    (and_left (row.rates == rates) (same_way row.up up) (ne_eqb row.rates rates differs))

ambr_stays : (up : Bool) (before after : SessionState) (n m : ℕ) → after.up ≡ before.up → after.down ≡ before.down
    → ambr up (version_of after m) ≡ ambr up (version_of before n)
ambr_stays true before after n m ups downs = ups
ambr_stays false before after n m ups downs = downs

policed_next : (before after : SessionState) (n m : ℕ) (rows : List ForwardedRow)
    → AreLived before.lives before.bearers → GoesTo before after
    → ((row : ForwardedRow) → In row rows → IsOld before row.life)
    → ((row : ForwardedRow) → In row rows → row.rates ≤ before.rates)
    → ArePolicedNow (version_of before n) rows → ArePolicedNow (version_of after m) rows
policed_next before after n m rows lived goes olds rates policed = record {
  own = λ c up there guaranteed. elim (cases_Bool (has_life (actives before.bearers) c.life)) [
    | inl has ↦
        let found = of_map life_in c.life (actives before.bearers) (of_has (actives before.bearers) c.life has) in
        let same = same_bearer before after lived goes found.0 c found.1 there found.2 in
        let policed_before = policed.own found.0 up found.1 (ap (λ (q : _). is_guaranteed q.qci) same.qos
        ∙ guaranteed) in
        subst (λ life. PolicedBy (mbr up c.qos) (is_of_life life up) rows) found.2
        (subst (λ q. PolicedBy (mbr up q) (is_of_life found.0.life up) rows) same.qos policed_before)
    | inr begins ↦ none_left (mbr up c.qos) (is_of_life c.life up) rows
        (λ row in_rows. no_row_of_life c.life up row (λ same.
        begins_fresh before after goes c there begins (subst (IsOld before) same (olds row in_rows))))
  ];
  shared = λ up. elim (cases_Bool (after.rates == before.rates)) [
    | inl stay ↦
        let same : after.rates ≡ before.rates = eqb-true after.rates before.rates stay in
        let same_ambr = ambr_stays up before after n m (goes.up same) (goes.down same) in
        subst (λ rate. PolicedBy rate (is_of_rates after.rates up) rows) (sym same_ambr)
        (subst (λ r. PolicedBy (ambr up (version_of before n)) (is_of_rates r up) rows) (sym same) (policed.shared up))
    | inr rise ↦
        let differs : after.rates ≡ before.rates → ⊥ = eqb-false after.rates before.rates rise in
        none_left (ambr up (version_of after m)) (is_of_rates after.rates up) rows
        (λ row in_rows. no_row_of_rates after.rates up row (λ same.
        let bound : row.rates ≤ before.rates = rates row in_rows in
        let rose : before.rates ≤ after.rates = goes.rates in
        differs (omega arith)))
  ];
}

-- a past where another version was learnt, before the held packets are looked at
marked_kept : (before after : SessionState) (m : ℕ) (past : Past) (n : ℕ) → past.version ≡ version_of before n
    → AreLived before.lives before.bearers → GoesTo before after
    → IsPast (IsOld before) past → IsPast (IsOld after) (marked past (version_of after m))
marked_kept before after m past n is lived goes was =
    let same_bearers : past.version.bearers ≡ actives before.bearers = ap (λ (v : VersionState). v.bearers) is in
    let same_rates : past.version.rates ≡ before.rates = ap (λ (v : VersionState). v.rates) is in
    let next : VersionState = version_of after m in
    let open_before : AreOpen (lives_of past.charged) past.version.bearers = was.opened in
    let next_apart : AreDistinct (active_lives (actives after.bearers)) =
    actives_apart after.bearers goes.lived.apart in
    let books = marks_may (lives_of past.charged) past.version next open_before was.apart next_apart in
    record {
      apart = next_apart;
      actives = λ b there. actives_old after goes.lived b there;
      rows = λ row there. stays_old before after goes row.life (was.rows row there);
      rates = λ row there.
          let bound : row.rates ≤ past.version.rates = was.rates row there in
          let rose : before.rates ≤ after.rates = goes.rates in
          omega arith;
      waiting = λ row none. absurd none;
      lawful = lawful_all past.charged (marks past.version next) was.lawful books.may;
      opened = subst (λ lives. AreOpen lives next.bearers)
          (sym (lives-all past.charged (marks past.version next))) books.now_open;
      policed = policed_next before after n m past.forwarded lived goes was.rows
          (λ row there. subst (λ r. row.rates ≤ r) same_rates (was.rates row there))
          (subst (λ v. ArePolicedNow v past.forwarded) is was.policed);
    }

pub learnt_kept : (before after : SessionState) (m : ℕ) (past : Past) (n : ℕ) → past.version ≡ version_of before n
    → AreLived before.lives before.bearers → GoesTo before after
    → IsPast (IsOld before) past → IsPast (IsOld after) (learnt past (version_of after m)).0
learnt_kept before after m past n is lived goes was =
    all_released (IsPast (IsOld after)) (IsOld after) (past_keeps (IsOld after)) (
      marked past (version_of after m),
      markers past.version (version_of after m),
    ) past.held
    (marked_kept before after m past n is lived goes was)
    (λ row there. stays_old before after goes row.life (was.waiting row there))

-- the version stays the one that was learnt
version_keeps : (version : VersionState) → Keeps (λ (past : Past). past.version ≡ version) (λ life. Unit {0})
version_keeps version = record {
  row = λ past b way octets is there passed. is;
  waiting = λ past row is known. is;
  moment = λ past at is. is;
  active = λ past b is there. tt;
}

pub version-learnt : (past : Past) (after : VersionState) → (learnt past after).0.version ≡ after
version-learnt past after =
    all_released (λ (p : Past). p.version ≡ after) (λ life. Unit {0}) (version_keeps after) (
      marked past after,
      markers past.version after,
    ) past.held refl (λ row there. tt)

pub version-judged : (past : Past) (packet : Packet) → (judged past packet).0.version ≡ past.version
version-judged past packet = judged_kept (λ (p : Past). p.version ≡ past.version) (λ life. Unit {0})
    (version_keeps past.version) past packet refl

-- each event keeps what holds of the past before it
commanded_sound : (past : SlotPast) (command : CommandKind) → IsSound past → IsSound (commanded past command)
commanded_sound past command sound =
    let goes = session_goes past.session command sound.lived in
    record {
      lived = goes.lived;
      version = version-learnt past.packets (next_version past command);
      packets = learnt_kept past.session (next_session past command) (past.commands
          + 1) past.packets past.commands sound.version sound.lived goes sound.packets;
    }

met_sound : (past : SlotPast) (packet : Packet) → IsSound past → IsSound (met past packet)
met_sound past packet sound = record {
  lived = sound.lived;
  version = version-judged past.packets packet ∙ sound.version;
  packets = judged_kept (IsPast (IsOld past.session)) (IsOld past.session)
      (past_keeps (IsOld past.session)) past.packets packet sound.packets;
}

pub behind_sound : (past : SlotPast) (now : Event) → IsSound past → IsSound (behind past now)
unfolding happens
behind_sound past (event.Command command) sound = commanded_sound past command sound
behind_sound past (event.Packet packet) sound = met_sound past packet sound

all_sound : (past : SlotPast) (events : List Event) → IsSound past → IsSound (fold behind past events)
all_sound past [] sound = sound
all_sound past (now ∷ later) sound = all_sound (behind past now) later (behind_sound past now sound)

pub past_sound : (slot : ℕ) (events : List Event) → IsSound (past_of slot events)
past_sound slot events = all_sound (new_slot slot) events (new_sound slot)
