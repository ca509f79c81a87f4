-- The session is of the commands alone, and each version follows on the past before it.
use Rattle.std.proofs.Common.{◌≡◌, ◌≢◌, ℕ, ◌+◌, false, List, [], ◌∷◌, ◌++◌, fold, length, refl, sym, ap, ◌∙◌, subst, arith}
use Rattle.std.proofs.lemmas.List.Elements.{All-from_recursion}
use Rattle.std.proofs.lemmas.List.Sums.{fold-append}
use Rattle.bearer_state.specs.Session.{new_session}
use Rattle.bearer_state.specs.Version.{VersionState, version_of, actives}
use Rattle.charging_book.specs.Happenings.{lives_of}
use Rattle.control_steps.specs.declared.command.CommandKind.{CommandKind}
use Rattle.packet_steps.specs.Rows.{ForwardedRow}
use Rattle.packet_steps.specs.Change.{has_life, learnt}
use Rattle.packet_steps.specs.Standing.{AreFew, Follows}
use Rattle.gate_model.specs.declared.event.Event.{Event}
use Rattle.gate_model.specs.declared.event.Event.TheVariants as event
use Rattle.gate_model.specs.Events.{commands_of}
use Rattle.gate_model.specs.SlotPast.{SlotPast, new_slot, next_session, next_version, commanded, met, happens, behind, past_of}
use Rattle.gate_model.specs.Versions.{controlled_by, SessionsAreOfCommands, VersionsAreOfCommands, EachVersionFollows, OpenLivesAreActive, CommandsAreLearnt, PacketsAreJudged}
use Rattle.gate_model.proofs.Members.{In, each_at, in_contains, contains_in}
use Rattle.gate_model.proofs.SessionSteps.{session_goes}
use Rattle.gate_model.proofs.BookSteps.{has_of, of_has}
use Rattle.gate_model.proofs.ActiveSteps.{IsOld, same_bearer, begins_fresh}
use Rattle.gate_model.proofs.Sound.{IsSound, past_sound}

pub past-append : (slot : ℕ) (before now : List Event)
    → past_of slot (before ++ now) ≡ fold behind (past_of slot before) now
past-append slot before now = fold-append behind (new_slot slot) before now

sessions_from : (past : SlotPast) (events : List Event)
    → (fold behind past events).session ≡ controlled_by past.session (commands_of events)
unfolding happens
sessions_from past [] = refl
sessions_from past (event.Command command ∷ later) = sessions_from (commanded past command) later
sessions_from past (event.Packet packet ∷ later) = sessions_from (met past packet) later

counts_from : (past : SlotPast) (events : List Event)
    → (fold behind past events).commands ≡ past.commands + length (commands_of events)
unfolding happens
counts_from past [] = omega arith
counts_from past (event.Command command ∷ later) = omega (arith, counts_from (commanded past command) later)
counts_from past (event.Packet packet ∷ later) = counts_from (met past packet) later

pub sessions_are : SessionsAreOfCommands
sessions_are slot events = sessions_from (new_slot slot) events

pub versions_are : VersionsAreOfCommands
versions_are slot events =
    let count : (past_of slot events).commands ≡ length (commands_of events) =
    omega (arith, counts_from (new_slot slot) events) in
    (past_sound slot events).version
    ∙ ap (λ session. version_of session (past_of slot events).commands) (sessions_are slot events)
    ∙ ap (version_of (controlled_by (new_session slot) (commands_of events))) count

pub commands_learnt : CommandsAreLearnt
unfolding happens
commands_learnt slot events command = past-append slot events (event.Command command ∷ [])

pub follows : (past : SlotPast) (command : CommandKind) → IsSound past
    → AreFew (learnt past.packets (next_version past command)).0.charged
    → Follows past.packets (next_version past command)
follows past command sound few =
    let goes = session_goes past.session command sound.lived in
    let bearers : past.packets.version.bearers ≡ actives past.session.bearers =
    ap (λ (v : VersionState). v.bearers) sound.version in
    let rates : past.packets.version.rates ≡ past.session.rates = ap (λ (v : VersionState). v.rates) sound.version in
    let up : past.packets.version.up ≡ past.session.up = ap (λ (v : VersionState). v.up) sound.version in
    let down : past.packets.version.down ≡ past.session.down = ap (λ (v : VersionState). v.down) sound.version in
    record {
      rates_rise = rw rates goes.rates;
      rates_stay = λ stay. let same : (next_session past command).rates ≡ past.session.rates = sym stay ∙ rates in
          (up ∙ sym (goes.up same), down ∙ sym (goes.down same));
      same_bearer = λ b c b_there c_there lives.
          let was : In b (actives past.session.bearers) =
          subst (In b) bearers (in_contains b past.packets.version.bearers b_there) in
          let is : In c (actives (next_session past command).bearers) =
          in_contains c (actives (next_session past command).bearers) c_there in
          let same = same_bearer past.session (next_session past command) sound.lived goes b c was is lives in
          (same.index, same.qos);
      fresh = λ c c_there has_not.
          let is : In c (actives (next_session past command).bearers) =
          in_contains c (actives (next_session past command).bearers) c_there in
          let begins : has_life (actives past.session.bearers) c.life ≡ false =
          subst (λ bs. has_life bs c.life ≡ false) bearers has_not in
          All-from_recursion (λ (row : ForwardedRow). row.life ≢ c.life) past.packets.forwarded
          (each_at (λ (row : ForwardedRow). row.life ≢ c.life) past.packets.forwarded (λ row there same.
          begins_fresh past.session (next_session past command) goes c is begins
          (subst (IsOld past.session) same (sound.packets.rows row there))));
      few = few;
    }

pub each_follows : EachVersionFollows
each_follows slot events command few = follows (past_of slot events) command (past_sound slot events) few

pub open_are_active : OpenLivesAreActive
open_are_active slot events life =
    let opened = (past_sound slot events).packets.opened in
    let bearers = (past_of slot events).packets.version.bearers in
    let lives = lives_of (past_of slot events).packets.charged in (
      λ there. has_of bearers life (opened.active life (in_contains life lives there)),
      λ has. contains_in life lives (opened.opened life (of_has bearers life has)),
    )

pub packets_judged : PacketsAreJudged
unfolding happens
packets_judged slot events packet = past-append slot events (event.Packet packet ∷ [])
