-- The story behind one line more, by the decision on it.
use Rattle.std.proofs.Common.{◌≡◌, ℕ, ◌+◌, ◌≤◌, ◌==◌, if◌then◌else◌, Bool, true, false, List, [], ◌∷◌, ◌++◌, length, refl, sym, ap, subst, ◌∙◌, length-append}
use Rattle.trace_lines.specs.Line.{Line}
use Rattle.demux.specs.declared.decision.Decision.{Decision}
use Rattle.demux.specs.declared.decision.Decision.TheVariants as decision
use Rattle.demux.specs.Destinations.{bound_for}
use Rattle.demux.specs.Resolved.{book_after, book_behind, decided}
use Rattle.demux.specs.Texts.{move_note}
use Rattle.demux.specs.Trace.{Meaning, book_of, decisions, destination_after, meant, move, note}
use Rattle.demux.proofs.TraceLemmas.{book_of-push, destination_after-push}
use Rattle.lawful_run.specs.Merging.{Histories}
use Rattle.lawful_run.specs.Trace.{settled_by}
use Rattle.subscriber.specs.Standing as subscribers
use Rattle.solo_command.specs.declared.solo.Solo.{Solo}
use Rattle.solo_command.specs.Report.{slices}
use Rattle.solo_command.specs.Standing.{BringsNothing, SlotStands, Stands, Story, entry_line, events_of, meant_next, story_of, with_meaning}
use Rattle.solo_command.proofs.PlaceLemmas.{has_at_map}
use Rattle.solo_command.proofs.StoryLemmas.{later, events_stay}

-- what a line means, by the decision on it
abbrev pub meant_by : List Line → Decision → Meaning
meant_by done made = settled_by slices done (meant slices (book_of done) (decisions slices done) made)

-- the decision on a line by this book
pub record IsDecided (done : List Line) (line : Line) (book : List (List ℕ)) (made : Decision) : Type 0 where
  pub decision : made ≡ decided slices book line
  pub behind : book_behind book made ≡ book_after book line
  pub same : book ≡ book_of done

decided_so : (done : List Line) (line : Line) (book : List (List ℕ)) (made : Decision) → IsDecided done line book made
    → decided slices (book_of done) line ≡ made
decided_so done line book made is = ap (λ b. decided slices b line) (sym is.same) ∙ sym is.decision

pub meant_is : (done : List Line) (line : Line) (book : List (List ℕ)) (made : Decision) → IsDecided done line book made
    → meant_by done made ≡ meant_next done line
meant_is done line book made is = ap (meant_by done) (sym (decided_so done line book made is))

-- so is the story behind it
pub story_is : (done : List Line) (line : Line) (book : List (List ℕ)) (made : Decision) (before : Histories)
    (means : List Meaning) (after : List (List ℕ))
    (bound : ℕ → ℕ) → IsDecided done line book made → after ≡ book_behind book made
    → ((slot : ℕ) → bound slot ≡ bound_for slot (destination_after slices slot done) made)
    → record {
      lines = length done + 1;
      book = after;
      bound = bound;
      latest = line.moment;
      before = before;
      made = means ++ meant_by done made ∷ [];
    }
    ≡ story_of (done ++ line ∷ []) line.moment before (means ++ meant_next done line ∷ [])
story_is done line book made before means after bound is after_is bound_is =
    let lines : length done + 1 ≡ length (done ++ line ∷ []) = sym (length-append done (line ∷ [])) in
    let books : after ≡ book_of (done ++ line ∷ []) =
    after_is ∙ is.behind ∙ ap (λ b. book_after b line) is.same ∙ sym (book_of-push done line) in
    let bounds : (slot : ℕ) → bound slot ≡ destination_after slices slot (done ++ line ∷ []) =
    λ slot. bound_is slot ∙ ap (bound_for slot (destination_after slices slot done))
    (sym (decided_so done line book made is))
    ∙ sym (destination_after-push slices slot done line) in
    let now = meant_is done line book made is in
    λ i. record {
      lines = lines i;
      book = books i;
      bound = λ slot. bounds slot i;
      latest = line.moment;
      before = before;
      made = means ++ now i ∷ [];
    }

-- a later moment
pub stands_later : (solo : Solo) (story : Story) (moment : ℕ) → story.latest ≤ moment → Stands solo story
    → Stands solo (record story { latest = moment })
stands_later solo story moment le stands = record {
  same_book = stands.same_book;
  places = stands.places;
  each = λ slot within.
      has_at_map solo.subscribers.items slot (λ h. SlotStands h slot (story.bound slot) story.latest
      (events_of story slot))
      (λ h. SlotStands h slot (story.bound slot) moment (events_of story slot))
      (λ h before. record {
        stands = before.stands;
        bound_for = before.bound_for;
        in_order = later (subscribers.last_of h) story.latest moment le before.in_order;
      }) (stands.each slot within);
  none_beyond = stands.none_beyond;
  at_home = stands.at_home;
  few = stands.few;
  gathered = stands.gathered;
}

-- what is told and what is represented, by what the line means
pub told_so : (done : List Line) (line : Line) (book : List (List ℕ)) (made : Decision) (story : Story)
    (old new : List ℕ) → IsDecided done line book made
    → new ≡ old ++ entry_line story (meant_by done made) → new ≡ old ++ entry_line story (meant_next done line)
told_so done line book made story old new is told =
    told ∙ ap (λ now. old ++ entry_line story now) (meant_is done line book made is)

pub stands_so : (done : List Line) (line : Line) (book : List (List ℕ)) (made : Decision) (latest : ℕ)
    (before : Histories) (means : List Meaning)
    (after : List (List ℕ)) (bound : ℕ → ℕ) (solo : Solo) → IsDecided done line book made
    → after ≡ book_behind book made
    → ((slot : ℕ) → bound slot ≡ bound_for slot (destination_after slices slot done) made) → latest ≤ line.moment
    → Stands solo (record {
      lines = length done + 1;
      book = after;
      bound = bound;
      latest = latest;
      before = before;
      made = means ++ meant_by done made ∷ [];
    })
    → Stands solo (story_of (done ++ line ∷ []) line.moment before (means ++ meant_next done line ∷ []))
stands_so done line book made latest before means after bound solo is after_is bound_is le stands =
    subst (Stands solo) (story_is done line book made before means after bound is after_is bound_is)
    (stands_later solo (record {
      lines = length done + 1;
      book = after;
      bound = bound;
      latest = latest;
      before = before;
      made = means ++ meant_by done made ∷ [];
    })
    line.moment le stands)

-- a move is no event, whether it is a stay or not
settled_nothing : (b : Bool) (slot slice : ℕ) (text : List ℕ)
    → BringsNothing (if b then note text else move slot slice text)
settled_nothing true slot slice text = λ s events. refl
settled_nothing false slot slice text = λ s events. refl

pub move_nothing : (done : List Line) (slot slice : ℕ) → BringsNothing (meant_by done (decision.Move slot slice))
move_nothing done slot slice =
    settled_nothing (slice == destination_after slices slot done) slot slice
    (move_note (destination_after slices slot done) slot slice)

settled_line : (story : Story) (b : Bool) (slot slice : ℕ) (text : List ℕ)
    → entry_line story (note text) ≡ entry_line story (if b then note text else move slot slice text)
settled_line story true slot slice text = refl
settled_line story false slot slice text = refl

pub move_line : (story : Story) (done : List Line) (slot slice : ℕ)
    → entry_line story (note (move_note (destination_after slices slot done) slot slice))
    ≡ entry_line story (meant_by done (decision.Move slot slice))
move_line story done slot slice =
    settled_line story (slice == destination_after slices slot done) slot slice
    (move_note (destination_after slices slot done) slot slice)

-- a subscriber that a line sends to another slice
pub move_holds : (story : Story) (now : Meaning) (own bound : ℕ) (old new : subscribers.SubscriberState)
    → BringsNothing now
    → SlotStands old own (story.bound own) story.latest (events_of story own) → new ≡ record old { destination = bound }
    → SlotStands new own bound story.latest (events_of (with_meaning story now) own)
move_holds story now own bound old new nothing holds is =
    subst (λ s. SlotStands s own bound story.latest (events_of (with_meaning story now) own)) (sym is)
    (subst (λ e. SlotStands (record old { destination = bound }) own bound story.latest e)
    (sym (events_stay story now own (nothing own (events_of story own))))
    (record {
      stands = record {
        session = holds.stands.session;
        version = holds.stands.version;
        counters = holds.stands.counters;
        commands = holds.stands.commands;
        packets = holds.stands.packets;
      };
      bound_for = refl;
      in_order = holds.in_order;
    }))
