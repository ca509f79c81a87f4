-- Lines that are taken one after another.
use Rattle.std.proofs.Common.{◌≡◌, ℕ, List, [], ◌∷◌, ◌++◌, map, length, refl, sym, ap, subst, ◌∙◌, append-nil}
use Rattle.std.specs.List.{All, flat_map}
use Rattle.std.proofs.lemmas.List.{flat_map_more, length-map, map_push}
use Rattle.std.proofs.lemmas.List.Elements.{All-cons, All-head, All-nil, All-push, All-tail, All-weaker}
use Rattle.trace_lines.specs.Line.{Line}
use Rattle.demux.specs.Meant.{meaning_of}
use Rattle.demux.specs.Trace.{Meaning}
use Rattle.demux.specs.declared.meant.Meant.{Meant}
use Rattle.epoch_schedule.specs.Lines.{asked}
use Rattle.epoch_schedule.specs.declared.ask.LineAsk.{LineAsk}
use Rattle.epoch_drive.specs.Driven.{asks_of}
use Rattle.at_rest.specs.Rest.{Rest}
use Rattle.slot_execution.specs.Kept.{IsPlaced, meaning_in}
use Rattle.epoch_drive.specs.Kept.{Adds, AreKept, AreNone, Keeps, KeepsLine, packet_octets}
use Rattle.at_rest.specs.Coming.{latest_behind}
use Rattle.at_rest.specs.Meant.{IsWithin, Turned}
use Rattle.epoch_drive.specs.Turned.{TurnedAll}
use Rattle.epoch_drive.specs.Taken.{HasTaken, IsResting}
use Rattle.epoch_drive.specs.declared.gateway.DrivenGateway.{DrivenGateway}
use Rattle.epoch_drive.specs.declared.kept.EpochLines.{EpochLines}
use Rattle.slot_execution.specs.declared.kept.KeptMeaning.{KeptMeaning}
use Rattle.slot_execution.specs.declared.kept.KeptMeaning.TheVariants as kept
use Rattle.slot_execution.proofs.KeptLemmas.{meanings_stay, placed_still}
use Rattle.epoch_drive.proofs.Turning.{turned_more, turned_none}

-- a line that is added is kept
pub keeps_line : (old middle new : EpochLines) (now : Meant) (it : KeptMeaning)
    → Keeps old.octets.items middle.octets.items now it → middle.lines.items ≡ old.lines.items
    → middle.asks.items ≡ old.asks.items → middle.bounds.items ≡ old.bounds.items
    → Adds middle new it → KeepsLine old new now
keeps_line old middle new now it keeps same_lines same_asks same_bounds adds = record {
  it = it;
  ask = adds.ask;
  asked_so = adds.asked_so;
  asks = adds.asks ∙ ap (λ xs. xs ++ adds.ask ∷ []) same_asks;
  lines = adds.lines ∙ ap (λ xs. xs ++ it ∷ []) same_lines;
  keeps = subst (λ os. Keeps old.octets.items os now it) (sym adds.octets) keeps;
  bounds = adds.bounds ∙ same_bounds;
}

-- where no octets come with it
pub adds_alone : (old new : EpochLines) (now : Meant) (it : KeptMeaning)
    → meaning_in old.octets.items it ≡ meaning_of now → IsPlaced old.octets.items it
    → packet_octets (meaning_of now) ≡ [] → Adds old new it → KeepsLine old new now
adds_alone old new now it means placed alone adds =
    keeps_line old old new now it (record {
      grown = sym (append-nil old.octets.items) ∙ ap (λ more. old.octets.items ++ more) (sym alone);
      means = means;
      placed = placed;
    }) refl refl refl adds

-- one line more is kept
kept_more : (made : List Meaning) (old new : EpochLines) (it : KeptMeaning) (ask : LineAsk) (more : List ℕ)
    → AreKept made old → new.octets.items ≡ old.octets.items ++ more
    → packet_octets (meaning_in new.octets.items it) ≡ more → new.lines.items ≡ old.lines.items ++ it ∷ []
    → new.asks.items ≡ old.asks.items ++ ask ∷ [] → IsPlaced new.octets.items it
    → ((octets : List ℕ) → asked ask ≡ asks_of (meaning_in octets it))
    → AreKept (made ++ meaning_in new.octets.items it ∷ []) new
kept_more made old new it ask more are grown own pushed asks placed asks_so =
    let now : List ℕ = new.octets.items in
    let before : map (meaning_in now) old.lines.items ≡ made =
    ap (λ xs. map (meaning_in xs) old.lines.items) grown
    ∙ meanings_stay old.octets.items more old.lines.items are.placed ∙ are.mean in
    let still : All (IsPlaced now) old.lines.items =
    subst (λ xs. All (IsPlaced xs) old.lines.items) (sym grown)
    (All-weaker (IsPlaced old.octets.items) (IsPlaced (old.octets.items ++ more))
    (λ k is. placed_still old.octets.items more k is) old.lines.items are.placed) in
    record {
      octets = grown ∙ ap (λ xs. xs ++ more) are.octets
          ∙ ap (λ xs. flat_map packet_octets made ++ xs) (sym own)
          ∙ flat_map_more packet_octets [] made (meaning_in now it);
      mean = ap (map (meaning_in now)) pushed ∙ map_push (meaning_in now) old.lines.items it
          ∙ ap (λ ms. ms ++ meaning_in now it ∷ []) before;
      placed = subst (All (IsPlaced now)) (sym pushed) (All-push (IsPlaced now) old.lines.items it still placed);
      ask = ap (map asked) asks ∙ map_push asked old.asks.items ask
          ∙ ap (λ xs. xs ++ asked ask ∷ []) are.ask
          ∙ ap (λ x. map asks_of made ++ x ∷ []) (asks_so now)
          ∙ sym (map_push asks_of made (meaning_in now it));
    }

latest-push : (latest : ℕ) (lines : List Line) (line : Line) → latest_behind latest (lines ++ line ∷ []) ≡ line.moment
latest-push latest [] line = refl
latest-push latest (first ∷ lines) line = latest-push first.moment lines line

pub takes_so : (start : Rest) (taken : List Line) (old now : DrivenGateway) (lines lines_now : EpochLines) (line : Line)
    (meant : Meant) → HasTaken start taken old lines
    → Turned old.slices old.book old.subscribers.items line meant now.book now.subscribers.items
    → KeepsLine lines lines_now meant
    → (now.slices ≡ old.slices) × (now.room ≡ old.room) × (now.lane ≡ old.lane) × (now.lines ≡ old.lines)
    → now.latest ≡ line.moment
    → HasTaken start (taken ++ line ∷ []) now lines_now
takes_so start taken old now lines lines_now line meant has turned keeps same latest =
    let made : List Meaning = has.are.made in
    let m : Meaning = meaning_of meant in
    record {
      set_up = record {
        same_slices = same.0 ∙ has.set_up.same_slices;
        same_room = same.1 ∙ has.set_up.same_room;
        same_lane = same.2 ∙ has.set_up.same_lane;
        same_lines = same.3 ∙ has.set_up.same_lines;
        some_slices = has.set_up.some_slices;
        few_slices = has.set_up.few_slices;
        at_rest = has.set_up.at_rest;
      };
      are = record {
        made = made ++ m ∷ [];
        kept_so = subst (λ x. AreKept (made ++ x ∷ []) lines_now) keeps.keeps.means
            (kept_more made lines lines_now keeps.it keeps.ask (packet_octets m) has.are.kept_so keeps.keeps.grown
            (ap packet_octets keeps.keeps.means) keeps.lines keeps.asks keeps.keeps.placed keeps.asked_so);
        bounds = keeps.bounds ∙ has.are.bounds;
        turned = turned_more start.slices start.book old.book now.book start.subscribers old.subscribers.items
            now.subscribers.items taken line made meant has.are.turned
            (subst (λ k. Turned k old.book old.subscribers.items line meant now.book now.subscribers.items)
            has.set_up.same_slices turned);
      };
      latest = latest ∙ sym (latest-push start.latest taken line);
    }

-- no line yet
pub lines_begin : (rest : Rest) (gateway : DrivenGateway) (lines : EpochLines) → IsResting rest gateway
    → AreNone rest.subscribers lines → HasTaken rest [] gateway lines
lines_begin rest gateway lines is none = record {
  set_up = is.set_up;
  are = record {
    made = [];
    kept_so = none.kept_none;
    bounds = none.bounds;
    turned = subst (λ b. TurnedAll rest.slices rest.book rest.subscribers [] [] b gateway.subscribers.items)
        (sym is.same_book)
        (subst (TurnedAll rest.slices rest.book rest.subscribers [] [] rest.book) (sym is.same_subscribers)
        (turned_none rest.slices rest.book rest.subscribers is.many));
  };
  latest = is.same_latest;
}

-- whose slots they are hangs on no octets
within_any : (slots : ℕ) (octets others : List ℕ) (it : KeptMeaning) → IsWithin slots (meaning_in octets it)
    → IsWithin slots (meaning_in others it)
within_any slots octets others (kept.Command slot c) is = is
within_any slots octets others (kept.Packet slot p) is = is
within_any slots octets others (kept.Move slot slice text) is = is
within_any slots octets others (kept.Note text) is = is

pub all_within_any : (slots : ℕ) (octets others : List ℕ) (all : List KeptMeaning)
    → All (IsWithin slots) (map (meaning_in octets) all) → All (IsWithin slots) (map (meaning_in others) all)
all_within_any slots octets others [] are = All-nil (IsWithin slots)
all_within_any slots octets others (it ∷ all) are =
    All-cons (IsWithin slots) (meaning_in others it) (map (meaning_in others) all)
    (within_any slots octets others it
    (All-head (IsWithin slots) (meaning_in octets it) (map (meaning_in octets) all) are))
    (all_within_any slots octets others all
    (All-tail (IsWithin slots) (meaning_in octets it) (map (meaning_in octets) all) are))

-- what is lent of the lines means the same
pub mean_lent : (made : List Meaning) (lines : EpochLines) (all : List KeptMeaning) (octets : List ℕ) → AreKept made lines
    → all ≡ lines.lines.items → octets ≡ lines.octets.items → map (meaning_in octets) all ≡ made
mean_lent made lines all octets are same_lines same_octets =
    ap (map (meaning_in octets)) same_lines ∙ ap (λ xs. map (meaning_in xs) lines.lines.items) same_octets ∙ are.mean

pub placed_lent : (made : List Meaning) (lines : EpochLines) (all : List KeptMeaning) (octets : List ℕ) → AreKept made lines
    → all ≡ lines.lines.items → octets ≡ lines.octets.items → All (IsPlaced octets) all
placed_lent made lines all octets are same_lines same_octets =
    subst (All (IsPlaced octets)) (sym same_lines)
    (subst (λ xs. All (IsPlaced xs) lines.lines.items) (sym same_octets) are.placed)

-- as many are kept as were taken
pub length-kept : (made : List Meaning) (lines : EpochLines) → AreKept made lines
    → length lines.lines.items ≡ length made
length-kept made lines are =
    sym (length-map lines.lines.items (meaning_in lines.octets.items)) ∙ ap length are.mean
