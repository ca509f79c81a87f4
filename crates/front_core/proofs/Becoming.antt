-- What becomes of a line is what it means.
use Rattle.std.proofs.Common.{ℕ, ◌++◌, List, subst, sym, ap, ◌∙◌, inl, inr}
use Rattle.trace_lines.specs.Line.{Line}
use Rattle.demux.specs.Meant.{meaning_of}
use Rattle.demux.specs.Trace.{Meaning, command, packet, move, note}
use Rattle.demux.specs.declared.meant.Meant.{Meant}
use Rattle.lawful_run.specs.Trace.{meant_next}
use Rattle.subscriber.specs.Standing.{SubscriberState}
use Rattle.at_rest.specs.Meant.{Stand, Turned}
use Rattle.at_rest.specs.Rest.{IsBehind, Rest}
use Rattle.front_core.specs.declared.halves.Halves.{Halves}
use Rattle.front_core.specs.declared.taken.OpenEntry.{OpenEntry}
use Rattle.front_core.specs.declared.taken.Taken.{Taken}
use Rattle.front_core.specs.Entries.{lines_of, took_of}
use Rattle.front_core.specs.Keeping.{FrontKeeps}
use Rattle.front_core.specs.Taking.{MayBecome, Takes}

became : (n tries : ℕ) (now : Meaning) (open_ : OpenEntry) (subs after : List SubscriberState) (old new : Halves)
    → Takes n tries now open_ subs after old new → MayBecome now (took_of open_)
became n tries (command slot c) open_ subs after old new takes = elim takes.came [
  | inl came ↦ inl (ap took_of came.is)
  | inr came ↦ inr (ap took_of came.is)
]
became n tries (packet slot p) open_ subs after old new takes = elim takes.came [
  | inl came ↦ inl (came.parked, ap took_of came.is)
  | inr came ↦ inr (ap took_of came.is)
]
became n tries (move slot slice text) open_ subs after old new takes = ap took_of takes.is
became n tries (note text) open_ subs after old new takes = ap took_of takes.is

pub becomes : (opened : Rest) (slices lane lines latest n tries : ℕ) (book book_now : List (List ℕ))
    (subs turned after : List SubscriberState) (old mid new : Halves) (entries : List Taken) (line : Line) (it : Meant)
    (open_ : OpenEntry) → FrontKeeps opened slices lane lines latest book subs old entries
    → Turned slices book subs line it book_now turned → Takes n tries (meaning_of it) open_ turned after mid new
    → (prior : List Line) → IsBehind opened prior
    → MayBecome (meant_next opened.slices (prior ++ lines_of entries) line) (took_of open_)
becomes opened slices lane lines latest n tries book book_now subs turned after old mid new entries line it open_ keeps
    turns takes prior behind =
    let stands : Stand slices opened.book opened.subscribers prior =
    subst (λ (k : ℕ). Stand k opened.book opened.subscribers prior) (sym keeps.slices_are)
    (record { book_is = behind.book; bounds = behind.bounds }) in
    let means = turns.means (prior ++ lines_of entries) (keeps.stand prior stands)
    ∙ ap (λ (k : ℕ). meant_next k (prior ++ lines_of entries) line) keeps.slices_are in
    subst (λ (m : Meaning). MayBecome m (took_of open_)) means
    (became n tries (meaning_of it) open_ turned after mid new takes)
