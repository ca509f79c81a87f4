-- Entries that are filled one after another.
use Rattle.std.proofs.Common.{◌≡◌, ℕ, ◌+◌, ◌==◌, ◌<◌, Bool, true, false, cond, Option, Some, None, IfSome, List, [], ◌∷◌, ◌++◌, map, length, drop, get_or, set, get_or-set_same, get_or-set_other, length-set, refl, sym, ap, subst, ◌∙◌, inl, inr, arith, append_assoc, append-nil}
use Rattle.std.specs.Prelude.{option_to_list}
use Rattle.std.proofs.lemmas.Bool.{cases_eq, cases_lt, eq-eqb, eqb-true, ne_eqb}
use Rattle.std.proofs.lemmas.List.{drop-map, drop_more, get_or-map, get_or_past, length-map, map_push, nil_from_length, length-drop}
use Rattle.std.proofs.lemmas.List.Elements.{All-drop, All-head, All-set}
use Rattle.demux.specs.Trace.{Meaning}
use Rattle.report_lines.specs.Lent.{IsShort}
use Rattle.report_lines.specs.declared.entry.LineEntry.{LineEntry}
use Rattle.lawful_run.specs.Filling.{Mets, Replies, fill, filled, met_slot, others_of, replied_slot}
use Rattle.epoch_schedule.specs.Front.{Outcome}
use Rattle.slot_execution.specs.Replaying.{AreShort}
use Rattle.slot_execution.specs.declared.replayed.NumberedVerdict.{NumberedVerdict}
use Rattle.slot_execution.specs.declared.replayed.NumberedReply as told
use Rattle.slot_execution.specs.declared.told.ToldEntry.TheVariants as entries
use Rattle.epoch_drive.specs.declared.replays.SlotReplays.{SlotReplays}
use Rattle.epoch_drive.specs.Joins.{AllShort, FillsNext, TakesPacket, TakesReply, met_so, mets_at, mets_of, replied_so, replies_at, replies_of, told_of_command, told_of_packet}
use Rattle.lawful_run.specs.Opened.{open_command, open_packet}
use Rattle.epoch_drive.specs.DrivenOpened.{open_entries, open_entry}
use Rattle.epoch_drive.specs.Telling.{DrivenTold, IsShortEntry, line_told}

-- lists by slot, where the value of one slot is another
get_other : {X Y : Type 0} (f : X → List Y) (xs : List X) (own slot : ℕ) (x : X) → (own ≡ slot → ⊥)
    → get_or (map f (set xs own x)) slot [] ≡ get_or (map f xs) slot []
get_other f xs own slot x other =
    let count : length (set xs own x) ≡ length xs = length-set xs own x in
    elim (cases_lt slot (length xs)) [
      | inl less ↦
          get_or-map f (set xs own x) slot x [] (omega (arith, less, count))
          ∙ ap f (get_or-set_other xs own slot x x (λ same. other (sym same)))
          ∙ sym (get_or-map f xs slot x [] less)
      | inr most ↦
          get_or_past (map f (set xs own x)) slot [] (omega (arith, most, count, length-map (set xs own x) f))
          ∙ sym (get_or_past (map f xs) slot [] (omega (arith, most, length-map xs f)))
    ]

lists_set : {X Y : Type 0} (f : X → List Y) (xs : List X) (own slot : ℕ) (x : X) → own < length xs
    → get_or (map f (set xs own x)) slot [] ≡ cond (own == slot) (f x) (get_or (map f xs) slot [])
lists_set f xs own slot x low =
    let count : length (set xs own x) ≡ length xs = length-set xs own x in
    elim (cases_eq own slot) [
      | inl same ↦
          ap (λ k. get_or (map f (set xs own x)) k []) (sym same)
          ∙ get_or-map f (set xs own x) own x [] (omega (arith, low, count))
          ∙ ap f (get_or-set_same xs own x x low)
          ∙ sym (ap (λ t. cond t (f x) (get_or (map f xs) slot [])) (eq-eqb own slot same))
      | inr other ↦
          get_other f xs own slot x other
          ∙ sym (ap (λ t. cond t (f x) (get_or (map f xs) slot [])) (ne_eqb own slot other))
    ]

own_or : {Y : Type 0} (test : Bool) (here there : List Y) → (test ≡ true → here ≡ there)
    → cond test (drop 1 here) there ≡ cond test (drop 1 there) there
own_or true here there same = ap (drop 1) (same refl)
own_or false here there same = refl

same_or : {Y : Type 0} (test : Bool) (here there : List Y) → (test ≡ true → here ≡ there)
    → cond test here there ≡ there
same_or true here there same = same refl
same_or false here there same = refl

-- the lists behind the first value of one of them
pub popped : {X Y : Type 0} (f : X → List Y) (xs : List X) (own : ℕ) (x y : X) → own < length xs
    → x ≡ get_or xs own x → f y ≡ drop 1 (f x) → (slot : ℕ)
    → get_or (map f (set xs own y)) slot [] ≡ others_of (Some own) (λ k. get_or (map f xs) k []) slot
popped f xs own x y low is first slot =
    let here : f x ≡ get_or (map f xs) own [] = ap f is ∙ sym (get_or-map f xs own x [] low) in
    lists_set f xs own slot y low
    ∙ ap (λ ys. cond (own == slot) ys (get_or (map f xs) slot [])) (first ∙ ap (drop 1) here)
    ∙ own_or (own == slot) (get_or (map f xs) own []) (get_or (map f xs) slot [])
    (λ yes. ap (λ k. get_or (map f xs) k []) (eqb-true own slot yes))

-- lists that aren't touched
pub kept : {X Y : Type 0} (f : X → List Y) (xs : List X) (own : ℕ) (x y : X) → own < length xs
    → x ≡ get_or xs own x → f y ≡ f x → (slot : ℕ)
    → get_or (map f (set xs own y)) slot [] ≡ get_or (map f xs) slot []
kept f xs own x y low is same slot =
    let here : f x ≡ get_or (map f xs) own [] = ap f is ∙ sym (get_or-map f xs own x [] low) in
    lists_set f xs own slot y low
    ∙ ap (λ ys. cond (own == slot) ys (get_or (map f xs) slot [])) (same ∙ here)
    ∙ same_or (own == slot) (get_or (map f xs) own []) (get_or (map f xs) slot [])
    (λ yes. ap (λ k. get_or (map f xs) k []) (eqb-true own slot yes))

-- what is taken from the start of a list
none_left : {X : Type 0} (xs ys : List X) → xs ≡ [] ++ ys → ys ≡ drop 1 xs → xs ≡ []
none_left xs ys is rest =
    nil_from_length xs (omega (arith, ap length is, ap length rest, length-drop 1 xs))

pub next_replied : (xs ys : List told.NumberedReply) (next : Option told.NumberedReply) → xs ≡ option_to_list next ++ ys
    → ys ≡ drop 1 xs → (n slot : ℕ) (replies : Replies) (mets : Mets) → map replied_so xs ≡ replies slot
    → told_of_command n slot next ≡ fill (open_command n slot true) replies mets
next_replied xs ys None is rest n slot replies mets own =
    ap (λ rs. fill (open_command n slot true) (λ k. rs) mets) (sym (ap (map replied_so) (none_left xs ys is rest)) ∙ own)
next_replied xs ys (Some r) is rest n slot replies mets own =
    ap (λ rs. fill (open_command n slot true) (λ k. rs) mets) (sym (ap (map replied_so) is) ∙ own)

pub next_judged : (xs ys : List NumberedVerdict) (next : Option NumberedVerdict) → xs ≡ option_to_list next ++ ys
    → ys ≡ drop 1 xs → (n slot : ℕ) (parked : Bool) (replies : Replies) (mets : Mets) → map met_so xs ≡ mets slot
    → told_of_packet n slot parked next ≡ fill (open_packet n slot true parked) replies mets
next_judged xs ys None is rest n slot parked replies mets own =
    ap (λ ms. fill (open_packet n slot true parked) replies (λ k. ms)) (sym (ap (map met_so) (none_left xs ys is rest)) ∙ own)
next_judged xs ys (Some j) is rest n slot parked replies mets own =
    ap (λ ms. fill (open_packet n slot true parked) replies (λ k. ms)) (sym (ap (map met_so) is) ∙ own)

-- the entries so far, and those that are left to fill
abbrev pub Joins : (entries : List DrivenTold) (left : List LineEntry) (replies : Replies) (mets : Mets)
    (whole : List LineEntry) → Type 0
Joins entries left replies mets whole = map line_told entries ++ filled left replies mets ≡ whole

pub joins_more : (entries : List DrivenTold) (entry : DrivenTold) (open_ : LineEntry) (left rest : List LineEntry)
    (replies replies_now : Replies) (mets mets_now : Mets) (whole : List LineEntry)
    → Joins entries left replies mets whole → left ≡ open_ ∷ rest → line_told entry ≡ fill open_ replies mets
    → ((slot : ℕ) → replies_now slot ≡ others_of (replied_slot open_) replies slot)
    → ((slot : ℕ) → mets_now slot ≡ others_of (met_slot open_) mets slot)
    → Joins (entries ++ entry ∷ []) rest replies_now mets_now whole
joins_more entries entry open_ left rest replies replies_now mets mets_now whole joins is told replied met =
    ap (λ es. es ++ filled rest replies_now mets_now) (map_push line_told entries entry)
    ∙ append_assoc (map line_told entries) (line_told entry ∷ []) (filled rest replies_now mets_now)
    ∙ (λ i. map line_told entries ++ told i ∷ filled rest (λ slot. replied slot i) (λ slot. met slot i))
    ∙ ap (λ l. map line_told entries ++ filled l replies mets) (sym is)
    ∙ joins

pub joins_next : (entries : List DrivenTold) (entry : DrivenTold) (first i : ℕ) (it : Meaning) (rest left : List Meaning)
    (outs : List Outcome) (o : Outcome) (old new : List SlotReplays) (whole : List LineEntry)
    → i < length outs → o ≡ get_or outs i o → left ≡ it ∷ rest
    → Joins entries (open_entries (first + i) left (drop i outs)) (replies_at old) (mets_at old) whole
    → FillsNext old new (open_entry (first + i) it o) entry
    → Joins (entries ++ entry ∷ []) (open_entries (first + (i + 1)) rest (drop (i + 1) outs))
    (replies_at new) (mets_at new) whole
joins_next entries entry first i it rest left outs o old new whole low o_is left_is joins fills =
    let at : first + i + 1 ≡ first + (i + 1) = omega arith in
    let out : drop i outs ≡ o ∷ drop (i + 1) outs =
    drop_more outs i o low ∙ ap (λ x. x ∷ drop (i + 1) outs) (sym o_is) in
    joins_more entries entry (open_entry (first + i) it o)
    (open_entries (first + i) left (drop i outs))
    (open_entries (first + (i + 1)) rest (drop (i + 1) outs)) (replies_at old) (replies_at new)
    (mets_at old) (mets_at new) whole joins
    (ap (λ ms. open_entries (first + i) ms (drop i outs)) left_is
    ∙ ap (open_entries (first + i) (it ∷ rest)) out
    ∙ ap (λ k. open_entry (first + i) it o ∷ open_entries k rest (drop (i + 1) outs)) at)
    fills.filled_so fills.replies fills.mets

pub joins_over : (entries : List DrivenTold) (n : ℕ) (left : List Meaning) (outs : List Outcome) (replies : Replies)
    (mets : Mets) (whole : List LineEntry) → left ≡ []
    → Joins entries (open_entries n left outs) replies mets whole → map line_told entries ≡ whole
joins_over entries n left outs replies mets whole none joins =
    sym (append-nil (map line_told entries))
    ∙ ap (λ ms. map line_told entries ++ filled (open_entries n ms outs) replies mets) (sym none) ∙ joins

-- a verdict that is taken can be written
next_short : (xs ys : List NumberedVerdict) (next : Option NumberedVerdict) → xs ≡ option_to_list next ++ ys → AreShort xs
    → IfSome next (λ (j : NumberedVerdict). IsShort j.verdict)
next_short xs ys None is short = tt
next_short xs ys (Some j) is short =
    All-head (λ (judged : NumberedVerdict). IsShort judged.verdict) j ys (subst AreShort is short)

-- the entry of a command, or a packet, that was taken
pub fills_command : (old new : List SlotReplays) (n slot : ℕ) (taken : Bool) (next : Option told.NumberedReply) (entry : DrivenTold)
    → taken ≡ true → slot < length old → TakesReply old new slot next
    → line_told entry ≡ told_of_command n slot next → IsShortEntry entry
    → FillsNext old new (open_command n slot taken) entry
fills_command old new n slot taken next entry is_taken low takes told_so short =
    let own : replies_of takes.before ≡ replies_at old slot =
    ap replies_of takes.found ∙ sym (get_or-map replies_of old slot takes.before [] low) in
    let first : replies_of takes.after ≡ drop 1 (replies_of takes.before) =
    ap (map replied_so) takes.rest ∙ sym (drop-map replied_so 1 takes.before.replies.items) in
    let fills : FillsNext old new (open_command n slot true) entry = record {
      filled_so = told_so
          ∙ next_replied takes.before.replies.items takes.after.replies.items next takes.first takes.rest n slot
          (replies_at old) (mets_at old) own;
      many = ap length takes.is ∙ length-set old slot takes.after;
      replies = λ k.
          ap (λ xs. replies_at xs k) takes.is
          ∙ popped replies_of old slot takes.before takes.after low takes.found first k;
      mets = λ k.
          ap (λ xs. mets_at xs k) takes.is
          ∙ kept mets_of old slot takes.before takes.after low takes.found (ap (map met_so) takes.same) k;
      short = λ all. short;
      still = λ all.
          subst AllShort (sym takes.is)
          (All-set (λ (a : SlotReplays). AreShort a.packets.items) old slot takes.after
          (subst AreShort (sym takes.same)
          (subst (λ (a : SlotReplays). AreShort a.packets.items) (sym takes.found) (all slot takes.before low))) all);
    } in
    subst (λ t. FillsNext old new (open_command n slot t) entry) (sym is_taken) fills

pub fills_packet : (old new : List SlotReplays) (n slot : ℕ) (taken parked : Bool) (next : Option NumberedVerdict) (entry : DrivenTold)
    → taken ≡ true → slot < length old → TakesPacket old new slot next
    → line_told entry ≡ told_of_packet n slot parked next
    → (IfSome next (λ (j : NumberedVerdict). IsShort j.verdict) → IsShortEntry entry)
    → FillsNext old new (open_packet n slot taken parked) entry
fills_packet old new n slot taken parked next entry is_taken low takes told_so short =
    let own : mets_of takes.before ≡ mets_at old slot =
    ap mets_of takes.found ∙ sym (get_or-map mets_of old slot takes.before [] low) in
    let first : mets_of takes.after ≡ drop 1 (mets_of takes.before) =
    ap (map met_so) takes.rest ∙ sym (drop-map met_so 1 takes.before.packets.items) in
    let before_short : AllShort old → AreShort takes.before.packets.items =
    λ all. subst (λ (a : SlotReplays). AreShort a.packets.items) (sym takes.found) (all slot takes.before low) in
    let fills : FillsNext old new (open_packet n slot true parked) entry = record {
      filled_so = told_so
          ∙ next_judged takes.before.packets.items takes.after.packets.items next takes.first takes.rest n slot parked
          (replies_at old) (mets_at old) own;
      many = ap length takes.is ∙ length-set old slot takes.after;
      replies = λ k.
          ap (λ xs. replies_at xs k) takes.is
          ∙ kept replies_of old slot takes.before takes.after low takes.found (ap (map replied_so) takes.same) k;
      mets = λ k.
          ap (λ xs. mets_at xs k) takes.is
          ∙ popped mets_of old slot takes.before takes.after low takes.found first k;
      short = λ all.
          short (next_short takes.before.packets.items takes.after.packets.items next takes.first (before_short all));
      still = λ all.
          subst AllShort (sym takes.is)
          (All-set (λ (a : SlotReplays). AreShort a.packets.items) old slot takes.after
          (subst AreShort (sym takes.rest)
          (All-drop (λ (judged : NumberedVerdict). IsShort judged.verdict) 1 takes.before.packets.items (before_short all))) all);
    } in
    subst (λ t. FillsNext old new (open_packet n slot t parked) entry) (sym is_taken) fills

-- and of one that wasn't, which takes nothing
pub fills_refused_command : (answers : List SlotReplays) (n slot : ℕ) (taken : Bool) → taken ≡ false
    → FillsNext answers answers (open_command n slot taken) (entries.Refusal n slot false)
fills_refused_command answers n slot taken is =
    let fills : FillsNext answers answers (open_command n slot false) (entries.Refusal n slot false) = record {
      filled_so = refl;
      many = refl;
      replies = λ k. refl;
      mets = λ k. refl;
      short = λ all. tt;
      still = λ all. all;
    } in
    subst (λ t. FillsNext answers answers (open_command n slot t) (entries.Refusal n slot false)) (sym is) fills

pub fills_refused_packet : (answers : List SlotReplays) (n slot : ℕ) (taken parked : Bool) → taken ≡ false
    → FillsNext answers answers (open_packet n slot taken parked) (entries.Refusal n slot true)
fills_refused_packet answers n slot taken parked is =
    let fills : FillsNext answers answers (open_packet n slot false parked) (entries.Refusal n slot true) = record {
      filled_so = refl;
      many = refl;
      replies = λ k. refl;
      mets = λ k. refl;
      short = λ all. tt;
      still = λ all. all;
    } in
    subst (λ t. FillsNext answers answers (open_packet n slot t parked) (entries.Refusal n slot true)) (sym is) fills
