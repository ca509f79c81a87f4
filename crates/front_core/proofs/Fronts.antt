-- What a front keeps stays true behind a line.
use Rattle.std.proofs.Common.{◌≡◌, ℕ, zero, suc, ◌+◌, ◌*◌, ◌^◌, ◌<◌, ◌≤◌, inl, inr, Bool, true, false, List, [], ◌∷◌, ◌++◌, length, replicate, get_or, set, length-set, length-append, append_assoc, refl, sym, ap, subst, ◌∙◌, arith}
use Rattle.std.specs.Prelude.{Option, Some, None, unwrap_or}
use Rattle.std.proofs.lemmas.List.{length-map, length-replicate, map-append}
use Rattle.trace_lines.specs.Line.{Line}
use Rattle.control_steps.specs.declared.command.CommandKind.{CommandKind}
use Rattle.pc_base.specs.declared.packet.Packet.{Packet}
use Rattle.demux.specs.Packets.{numbered}
use Rattle.demux.specs.Trace.{Meaning, command, packet, move, note}
use Rattle.demux.specs.declared.packet.LentPacket.{LentPacket}
use Rattle.lawful_run.specs.Merging.{Histories}
use Rattle.lawful_run.specs.Trace.{meant_from}
use Rattle.lawful_run.proofs.CutEpochs.{meant_from-append}
use Rattle.lawful_run.proofs.CutLines.{length-meant_from}
use Rattle.report_lines.specs.declared.entry.LineEntry.{LineEntry}
use Rattle.subscriber.specs.Standing.{SubscriberState, last_of}
use Rattle.at_rest.specs.Meant.{HasItsMoment, Stand, Turned}
use Rattle.at_rest.specs.Rest.{AreAtRest, Rest}
use Rattle.demux.specs.declared.meant.Meant.{Meant}
use Rattle.demux.specs.Meant.{meaning_of}
use Rattle.at_rest.proofs.Resting.{goes_on, new_rests}
use Rattle.lawful_run.specs.Opened.{open_command, open_packet}
use Rattle.front_core.specs.Kept.{LinesKept, Load}
use Rattle.front_core.specs.Lines.{noted}
use Rattle.front_core.proofs.Keeps.{kept_noted, kept_moved, kept_command, kept_packet}
use Rattle.front_core.specs.declared.halves.Halves.{Halves}
use Rattle.front_core.specs.Steps.{AreLanes, Commanded, Received, Settles, SlotAdmits, SlotMoves, WasSplit}
use Rattle.front_core.specs.Views.{load_of, parts_of, view_at}
use Rattle.front_core.proofs.Settling.{settles_none, settles_then}
use Rattle.front_core.proofs.Moved.{goes_to}
use Rattle.front_core.specs.declared.taken.OpenEntry.{OpenEntry}
use Rattle.front_core.specs.declared.taken.Taken.{Taken}
use Rattle.front_core.specs.Entries.{lines_of, open_of, opens_of}
use Rattle.front_core.specs.Keeping.{AreStarts, FrontKeeps, HalvesKeep, starts_of, unless_split}
use Rattle.front_core.specs.Taking.{GrowsTo, IsTo, MakesReady, MayTake, Takes, TakesCommand, TakesMove, TakesNote, TakesPacket}
use Rattle.front_core.proofs.Bridging.{commands_full, commands_so, eases, goes_so, packets_full, packets_so, prepared}
use Rattle.front_core.proofs.Keeping.{split_keeps, halves_admit, halves_command, halves_later, halves_move, halves_receive, halves_settle, halves_wider}
use Rattle.front_core.proofs.Starting.{others_start, rest_admit, start_none, start_split, stand_admit, starts_admit, starts_command, starts_move, starts_receive, starts_settle}

-- what a line leaves of subscribers and halves, and what is kept of it
pub record GoesOn (slices room lane slots lines latest later : ℕ) (subs now : List SubscriberState)
    (old new : Halves) : Type 0 where
  pub many : length now ≡ length subs
  pub rest : (all : ℕ) → AreAtRest slices all latest subs → AreAtRest slices all latest now
  pub stand : (book : List (List ℕ)) (prior : List Line) → Stand slices book subs prior → Stand slices book now prior
  pub starts : (before : Histories) → AreStarts subs (starts_of old) before → AreStarts now (starts_of new) before
  pub keeps : HalvesKeep slices room lane slots (lines + 1) later (2 * (lines + 1)) new

-- nothing but that sides were pumped
module _ (slices room lane slots lines latest later : ℕ) (subs : List SubscriberState) (late : latest ≤ later) where
  still_goes : (old new : Halves) → Settles old new
      → HalvesKeep slices room lane slots lines latest (2 * lines) old
      → GoesOn slices room lane slots lines latest later subs subs old new
  still_goes old new settles keeps = record {
    many = refl;
    rest = λ all rest. rest;
    stand = λ book prior stand. stand;
    starts = λ before are.
        subst (λ (s : ℕ → Option SubscriberState). AreStarts subs s before) (sym (starts_settle old new settles)) are;
    keeps = halves_later slices room lane slots lines latest (lines + 1) later (2 * (lines + 1)) new (omega arith) late
        (halves_wider slices room lane slots slots lines latest (2 * lines) (2 * (lines + 1)) new (omega arith)
        (omega arith) (halves_settle slices room lane slots lines latest (2 * lines) old new settles keeps));
  }

  move_goes : {slice : ℕ} (slot : ℕ) (old new : Halves) → SlotMoves slot slice old new → slot < slots
      → length new.lots.items ≤ slots
      → HalvesKeep slices room lane slots lines latest (2 * lines) old
      → GoesOn slices room lane slots lines latest later subs subs old new
  move_goes slot old new moves low lots keeps = record {
    many = refl;
    rest = λ all rest. rest;
    stand = λ book prior stand. stand;
    starts = λ before are.
        subst (λ (s : ℕ → Option SubscriberState). AreStarts subs s before) (sym (starts_move slot old new moves)) are;
    keeps = halves_later slices room lane slots (lines + 1) latest (lines + 1) later (2 * (lines + 1)) new (omega arith)
        late (halves_wider slices room lane slots slots (lines + 1) latest (2 * lines + 1) (2 * (lines + 1)) new
        (omega arith) (omega arith)
        (halves_move slices room lane slots lines latest (2 * lines) slot old new moves low lots keeps));
  }

-- a subscriber is ready: it was split before, or is now
pub record ReadyGoes (slices room lane slots lines latest : ℕ) (subs now : List SubscriberState)
    (old new : Halves) : Type 0 where
  pub many : length now ≡ length subs
  pub rest : (all : ℕ) → AreAtRest slices all latest subs → AreAtRest slices all latest now
  pub stand : (book : List (List ℕ)) (prior : List Line) → Stand slices book subs prior → Stand slices book now prior
  pub starts : (before : Histories) → AreStarts subs (starts_of old) before → AreStarts now (starts_of new) before
  pub keeps : HalvesKeep slices room lane slots lines latest (2 * lines + 1) new

-- a value that is set where it was
set_same : {X : Type 0} (xs : List X) (i : ℕ) (x : X) → x ≡ get_or xs i x → set xs i x ≡ xs
set_same [] i x is = refl
set_same (y ∷ xs) zero x is = ap (λ z. z ∷ xs) is
set_same (y ∷ xs) (suc i) x is = ap (λ zs. y ∷ zs) (set_same xs i x is)

module _ (slices room lane lines latest : ℕ) (slot : ℕ) (subs now : List SubscriberState) (old new : Halves)
    (keeps : HalvesKeep slices room lane (length subs) lines latest (2 * lines) old) (all : ℕ)
    (at_rest : AreAtRest slices all latest subs) where
  was_ready : (was is : SubscriberState) → WasSplit slot was is old new → was ≡ get_or subs slot was
      → now ≡ set subs slot is → ReadyGoes slices room lane (length subs) lines latest subs now old new
  was_ready was is split found changed =
      let same : now ≡ subs =
      changed ∙ ap (λ (s : SubscriberState). set subs slot s) split.same ∙ set_same subs slot was found in
      subst (λ (l : List SubscriberState). ReadyGoes slices room lane (length subs) lines latest subs l old new)
      (sym same) (record {
        many = refl;
        rest = λ all rest. rest;
        stand = λ book prior stand. stand;
        starts = λ before are.
            subst (λ (s : ℕ → Option SubscriberState). AreStarts subs s before)
            (sym (starts_settle old new split.settles)) are;
        keeps = halves_wider slices room lane (length subs) (length subs) lines latest (2 * lines) (2 * lines + 1) new
            (omega arith) (omega arith)
            (halves_settle slices room lane (length subs) lines latest (2 * lines) old new split.settles keeps);
      })

  now_ready : (was is : SubscriberState) → SlotAdmits slot was is old new → slot < length subs
      → was ≡ get_or subs slot was → now ≡ set subs slot is → GrowsTo slot old new
      → ReadyGoes slices room lane (length subs) lines latest subs now old new
  now_ready was is admits low found changed grows =
      let unsplit : starts_of old slot ≡ None = start_none (view_at old slot).lot admits.unsplit in
      let split : starts_of new slot ≡ Some was =
      start_split (view_at new slot).lot admits.end admits.lot ∙ ap Some admits.started in
      let late : unwrap_or (last_of was) 0 ≤ latest =
      subst (λ (s : SubscriberState). unwrap_or (last_of s) 0 ≤ latest) (sym found) (at_rest slot was low).late in
      subst (λ (l : List SubscriberState). ReadyGoes slices room lane (length subs) lines latest subs l old new)
      (sym changed) (record {
        many = length-set subs slot is;
        rest = λ all rest.
            rest_admit subs (starts_of old) (starts_of new) slot was is (λ other. []) low found unsplit split
            (others_start slot old new admits.others) admits.represents new_rests slices all latest
            admits.destination admits.last rest;
        stand = λ book prior stand.
            stand_admit slices book subs slot was is prior found admits.destination stand;
        starts = λ before are.
            starts_admit subs (starts_of old) (starts_of new) slot was is before low found unsplit split
            (others_start slot old new admits.others) admits.represents are;
        keeps = halves_admit slices room lane (length subs) lines latest (2 * lines) slot was is old new admits low
            (grows (length subs) low keeps.lots_few) late keeps;
      })

  pub ready_goes : MakesReady slot subs now old new
      → ReadyGoes slices room lane (length subs) lines latest subs now old new
  ready_goes makes = elim makes.ready [
    | inl split ↦ was_ready makes.was makes.is split makes.found makes.changed
    | inr admits ↦ now_ready makes.was makes.is admits makes.low makes.found makes.changed makes.lots
  ]

-- what came of a ready slot
module _ (slices room lane slots lines latest later : ℕ) (subs now : List SubscriberState) (old mid new : Halves)
    (ready : ReadyGoes slices room lane slots lines latest subs now old mid) where
  then_goes : starts_of new ≡ starts_of mid
      → HalvesKeep slices room lane slots (lines + 1) later (2 * lines + 2) new
      → GoesOn slices room lane slots lines latest later subs now old new
  then_goes starts keeps = record {
    many = ready.many;
    rest = ready.rest;
    stand = ready.stand;
    starts = λ before are.
        subst (λ (s : ℕ → Option SubscriberState). AreStarts now s before) (sym starts) (ready.starts before are);
    keeps = halves_wider slices room lane slots slots (lines + 1) later (2 * lines + 2) (2 * (lines + 1)) new
        (omega arith) (omega arith) keeps;
  }

  still_then : Settles mid new → latest ≤ later → GoesOn slices room lane slots lines latest later subs now old new
  still_then settles late =
      then_goes (starts_settle mid new settles)
      (halves_later slices room lane slots lines latest (lines + 1) later (2 * lines + 2) new (omega arith) late
      (halves_wider slices room lane slots slots lines latest (2 * lines + 1) (2 * lines + 2) new (omega arith)
      (omega arith) (halves_settle slices room lane slots lines latest (2 * lines + 1) mid new settles ready.keeps)))

  command_then : (slot line : ℕ) (c : CommandKind) (before : Halves) → Settles mid before
      → Commanded slot line c before new → slot < slots → latest ≤ later
      → GoesOn slices room lane slots lines latest later subs now old new
  command_then slot line c before settles does low late =
      then_goes (starts_command {line = line} {c = c} slot before new does ∙ starts_settle mid before settles)
      (halves_later slices room lane slots (lines + 1) latest (lines + 1) later (2 * lines + 2) new (omega arith) late
      (halves_wider slices room lane slots slots (lines + 1) latest (2 * lines + 1) (2 * lines + 2) new (omega arith)
      (omega arith)
      (halves_command slices room lane slots lines latest (2 * lines + 1) slot line c before new does low
      (halves_settle slices room lane slots lines latest (2 * lines + 1) mid before settles ready.keeps))))

  packet_then : (slot line : ℕ) (p : Packet) (parked : Bool) (before : Halves) → Settles mid before
      → Received slot line p parked before new → slot < slots → latest ≤ p.moment
      → p.moment ≡ later → GoesOn slices room lane slots lines latest later subs now old new
  packet_then slot line p parked before settles does low late is =
      then_goes (starts_receive {line = line} {packet = p} {parked = parked} slot before new does
      ∙ starts_settle mid before settles)
      (subst (λ (m : ℕ). HalvesKeep slices room lane slots (lines + 1) m (2 * lines + 2) new) is
      (halves_wider slices room lane slots slots (lines + 1) p.moment ((2 * lines + 1) + 1) (2 * lines + 2) new
      (omega arith) (omega arith)
      (halves_receive slices room lane slots lines latest (2 * lines + 1) slot line p parked before new does low
      late (halves_settle slices room lane slots lines latest (2 * lines + 1) mid before settles ready.keeps))))

-- what is kept of the lines, with a line more
abbrev pub KeptMore : (slices room lane first : ℕ) → List Meaning → List LineEntry → Meaning → LineEntry → Halves
    → Type 0
KeptMore slices room lane first made entries now told new =
    LinesKept slices room lane first (made ++ now ∷ []) (entries ++ told ∷ []) (parts_of new) (load_of new)

-- a line does both
pub record LineGoes (slices room lane slots lines latest later n : ℕ) (subs after : List SubscriberState)
    (old new : Halves) (now : Meaning) (open_ : OpenEntry) : Type 0 where
  pub goes : GoesOn slices room lane slots lines latest later subs after old new
  pub told : (first : ℕ) (made : List Meaning) (entries : List LineEntry) → n ≡ first + length made
      → LinesKept slices room lane first made entries (parts_of old) (load_of old)
      → KeptMore slices room lane first made entries now (open_of n open_) new

-- an entry that is the open one
told_as : (slices room lane first : ℕ) (made : List Meaning) (entries : List LineEntry) (now : Meaning)
    (told is : LineEntry) (new : Halves) → told ≡ is → KeptMore slices room lane first made entries now told new
    → KeptMore slices room lane first made entries now is new
told_as slices room lane first made entries now told is new same kept =
    subst (λ (e : LineEntry). KeptMore slices room lane first made entries now e new) same kept

module _ (slices room lane lines latest later n : ℕ) (subs : List SubscriberState) (old mid new : Halves)
    (pump : Settles old mid) (keeps : HalvesKeep slices room lane (length subs) lines latest (2 * lines) old)
    (late : latest ≤ later) where
  mid_keeps : HalvesKeep slices room lane (length subs) lines latest (2 * lines) mid
  mid_keeps = halves_settle slices room lane (length subs) lines latest (2 * lines) old mid pump keeps

  same_goes : (after : List SubscriberState) (now : Meaning) (open_ : OpenEntry) → after ≡ subs
      → LineGoes slices room lane (length subs) lines latest later n subs subs old new now open_
      → LineGoes slices room lane (length subs) lines latest later n subs after old new now open_
  same_goes after now open_ same goes =
      subst (λ (l : List SubscriberState). LineGoes slices room lane (length subs) lines latest later n subs l old new now
      open_) (sym same) goes

  note_goes : (text : List ℕ) (open_ : OpenEntry) (after : List SubscriberState) → TakesNote text open_ subs after mid new
      → LineGoes slices room lane (length subs) lines latest later n subs after old new (note text) open_
  note_goes text open_ after takes =
      let whole = settles_then old mid new pump takes.still in
      same_goes after (note text) open_ takes.same (record {
        goes = still_goes slices room lane (length subs) lines latest later subs late old new whole keeps;
        told = λ first made entries at kept.
            told_as slices room lane first made entries (note text) (noted (first + length made) text) (open_of n open_)
            new (ap (λ (k : ℕ). noted k text) (sym at) ∙ ap (open_of n) (sym takes.is))
            (subst (λ (l : Load). LinesKept slices room lane first (made ++ note text ∷ [])
            (entries ++ noted (first + length made) text ∷ []) (parts_of new) l) (sym whole.load)
            (kept_noted slices room lane first made entries (parts_of old) (parts_of new) (load_of old) text kept
            (λ slot. eases (view_at old slot) (view_at new slot) (whole.views slot))));
      })

  move_on : (slot slice : ℕ) (text : List ℕ) (open_ : OpenEntry) (after : List SubscriberState)
      → TakesMove slot slice text open_ subs after mid new → slot < length subs
      → LineGoes slices room lane (length subs) lines latest later n subs after old new (move slot slice text) open_
  move_on slot slice text open_ after takes low =
      let does = goes_so slot old mid new pump takes.moves
      (λ end is. (split_keeps slot lines latest end (view_at mid slot) is (mid_keeps.views slot)).accepted) in
      let went = move_goes slices room lane (length subs) lines latest later subs late slot mid new takes.moves low
      (takes.lots (length subs) low mid_keeps.lots_few) mid_keeps in
      same_goes after (move slot slice text) open_ takes.same (record {
        goes = record {
          many = refl;
          rest = went.rest;
          stand = went.stand;
          starts = λ before are.
              went.starts before (subst (λ (s : ℕ → Option SubscriberState). AreStarts subs s before)
              (sym (starts_settle old mid pump)) are);
          keeps = went.keeps;
        };
        told = λ first made entries at kept.
            told_as slices room lane first made entries (move slot slice text) (noted (first + length made) text)
            (open_of n open_) new (ap (λ (k : ℕ). noted k text) (sym at) ∙ ap (open_of n) (sym takes.is))
            (kept_moved slices room lane first made entries (parts_of old) (parts_of new) (load_of old) (load_of new) slot
            slice text kept does);
      })

  -- a subscriber that is ready behind a pump
  pumped_ready : (all slot : ℕ) (after : List SubscriberState) (next : Halves) → AreAtRest slices all latest subs
      → MakesReady slot subs after mid next
      → ReadyGoes slices room lane (length subs) lines latest subs after old next
  pumped_ready all slot after next rest makes =
      let ready = ready_goes slices room lane lines latest slot subs after mid next mid_keeps all rest makes in
      record {
        many = ready.many;
        rest = ready.rest;
        stand = ready.stand;
        starts = λ before are.
            ready.starts before (subst (λ (s : ℕ → Option SubscriberState). AreStarts subs s before)
            (sym (starts_settle old mid pump)) are);
        keeps = ready.keeps;
      }

  command_on : (all slot line tries : ℕ) (c : CommandKind) (open_ : OpenEntry) (after : List SubscriberState)
      → AreAtRest slices all latest subs → TakesCommand slot line tries c open_ subs after mid new
      → LineGoes slices room lane (length subs) lines latest later n subs after old new (command slot c) open_
  command_on all slot line tries c open_ after rest takes =
      let makes = takes.ready in
      let ready = pumped_ready all slot after takes.mid rest makes in
      elim takes.came [
        | inl came ↦
            let prep = prepared slot old mid takes.mid came.mid makes.was makes.is pump makes.ready came.settles in
            record {
              goes = command_then slices room lane (length subs) lines latest later subs after old takes.mid new ready
                  slot line c came.mid came.settles came.sent makes.low late;
              told = λ first made entries at kept.
                  told_as slices room lane first made entries (command slot c)
                  (open_command (first + length made) slot true) (open_of n open_) new
                  (ap (λ (k : ℕ). open_command k slot true) (sym at) ∙ ap (open_of n) (sym came.is))
                  (kept_command slices room lane first made entries (parts_of old) (parts_of new) (load_of old)
                  (load_of new) slot c true kept (commands_so room slot line c old came.mid new prep came.sent));
            }
        | inr came ↦
            let prep = prepared slot old mid takes.mid new makes.was makes.is pump makes.ready came.settles in
            let goes = still_then slices room lane (length subs) lines latest later subs after old takes.mid new ready
            came.settles late in
            record {
              goes = goes;
              told = λ first made entries at kept.
                  told_as slices room lane first made entries (command slot c)
                  (open_command (first + length made) slot false) (open_of n open_) new
                  (ap (λ (k : ℕ). open_command k slot false) (sym at) ∙ ap (open_of n) (sym came.is))
                  (kept_command slices room lane first made entries (parts_of old) (parts_of new) (load_of old)
                  (load_of new) slot c false kept (commands_full room slot c old new prep came.full
                  (goes.keeps.rooms slot came.full.end came.full.lot)));
            }
      ]

  packet_on : (all slot line tries : ℕ) (p : LentPacket) (open_ : OpenEntry) (after : List SubscriberState)
      → AreAtRest slices all latest subs → p.moment ≡ later → TakesPacket slot line tries p open_ subs after mid new
      → LineGoes slices room lane (length subs) lines latest later n subs after old new (packet slot p) open_
  packet_on all slot line tries p open_ after rest moment takes =
      let makes = takes.ready in
      let ready = pumped_ready all slot after takes.mid rest makes in
      elim takes.came [
        | inl came ↦
            let prep = prepared slot old mid takes.mid came.mid makes.was makes.is pump makes.ready came.settles in
            record {
              goes = packet_then slices room lane (length subs) lines latest later subs after old takes.mid new ready
                  slot line (numbered 0 p) came.parked came.mid came.settles came.received makes.low
                  (omega (arith, late, moment)) moment;
              told = λ first made entries at kept.
                  told_as slices room lane first made entries (packet slot p)
                  (open_packet (first + length made) slot true came.parked) (open_of n open_) new
                  (ap (λ (k : ℕ). open_packet k slot true came.parked) (sym at) ∙ ap (open_of n) (sym came.is))
                  (kept_packet slices room lane first made entries (parts_of old) (parts_of new) (load_of old)
                  (load_of new) slot p true came.parked kept
                  (packets_so room lane slot line (numbered 0 p) came.parked old came.mid new prep came.received));
            }
        | inr came ↦
            let prep = prepared slot old mid takes.mid takes.mid makes.was makes.is pump makes.ready
            (settles_none takes.mid) in
            let lanes : AreLanes lane takes.mid =
            ready.keeps.lanes_are ∙ ap (λ (k : ℕ). replicate k lane)
            (sym (ap length ready.keeps.lanes_are ∙ length-replicate slices lane)) in
            record {
              goes = still_then slices room lane (length subs) lines latest later subs after old takes.mid new ready
                  came.settles late;
              told = λ first made entries at kept.
                  told_as slices room lane first made entries (packet slot p)
                  (open_packet (first + length made) slot false false) (open_of n open_) new
                  (ap (λ (k : ℕ). open_packet k slot false false) (sym at) ∙ ap (open_of n) (sym came.is))
                  (kept_packet slices room lane first made entries (parts_of old) (parts_of new) (load_of old)
                  (load_of new) slot p false false kept
                  (packets_full room lane slot p old takes.mid new prep came.settles lanes ready.keeps.queues_are
                  came.full));
            }
      ]

  pub line_goes : (all line tries : ℕ) (now : Meaning) (open_ : OpenEntry) (after : List SubscriberState)
      → AreAtRest slices all latest subs → IsTo slices (length subs) now → HasItsMoment later now
      → Takes line tries now open_ subs after mid new
      → LineGoes slices room lane (length subs) lines latest later n subs after old new now open_
  line_goes all line tries (command slot c) open_ after rest to moment takes =
      command_on all slot line tries c open_ after rest takes
  line_goes all line tries (packet slot p) open_ after rest to moment takes =
      packet_on all slot line tries p open_ after rest moment takes
  line_goes all line tries (move slot slice text) open_ after rest to moment takes =
      move_on slot slice text open_ after takes to.0
  line_goes all line tries (note text) open_ after rest to moment takes = note_goes text open_ after takes

-- entries and lines, with one more
opens_push : (n : ℕ) (entries : List Taken) (taken : Taken)
    → opens_of n (entries ++ taken ∷ []) ≡ opens_of n entries ++ open_of (n + length entries) taken.open ∷ []
opens_push n [] taken = ap (λ (k : ℕ). open_of k taken.open ∷ []) (omega arith)
opens_push n (first ∷ entries) taken =
    let rest = opens_push (n + 1) entries taken in
    let at : (n + 1) + length entries ≡ n + length (first ∷ entries) = omega arith in
    ap (λ (l : List LineEntry). open_of n first.open ∷ l)
    (rest ∙ ap (λ (k : ℕ). opens_of (n + 1) entries ++ open_of k taken.open ∷ []) at)

pub lines_push : (entries : List Taken) (taken : Taken)
    → lines_of (entries ++ taken ∷ []) ≡ lines_of entries ++ taken.line.value ∷ []
lines_push entries taken = map-append (λ (t : Taken). t.line.value) entries (taken ∷ [])

-- what a line is to
turned_to : (opened : Rest) (slices lane lines latest : ℕ) (book book_now : List (List ℕ))
    (subs turned : List SubscriberState) (old : Halves) (entries : List Taken) (line : Line) (it : Meant)
    → FrontKeeps opened slices lane lines latest book subs old entries
    → Turned slices book subs line it book_now turned → IsTo slices (length turned) (meaning_of it)
turned_to opened slices lane lines latest book book_now subs turned old entries line it keeps turns =
    let prior : List Line = keeps.first ++ lines_of entries in
    let before : Stand slices book subs prior = keeps.stand keeps.first keeps.behind in
    let more = turns.more in
    let many = keeps.as_many in
    goes_to slices book subs (length turned) prior line (meaning_of it) before (omega (arith, many, more))
    (turns.means prior before) turns.within

-- a line may be taken
pub line_may : (opened : Rest) (slices lane lines latest : ℕ) (book book_now : List (List ℕ))
    (subs turned : List SubscriberState) (old mid : Halves) (entries : List Taken) (line : Line) (it : Meant)
    → FrontKeeps opened slices lane lines latest book subs old entries → Settles old mid
    → Turned slices book subs line it book_now turned → MayTake (meaning_of it) turned mid
line_may opened slices lane lines latest book book_now subs turned old mid entries line it keeps pump turns =
    let more = turns.more in
    let counted = keeps.counted in
    let few = keeps.few in
    record {
      slices = slices;
      room = opened.room;
      lane = lane;
      lines = length entries;
      all = lines;
      latest = latest;
      few = (omega (arith, counted), few);
      roomy = keeps.roomy;
      is_to = turned_to opened slices lane lines latest book book_now subs turned old entries line it keeps turns;
      rest = turns.rest lines latest keeps.at_rest;
      keeps = halves_settle slices opened.room lane (length turned) (length entries) latest (2 * length entries) old mid
          pump (halves_wider slices opened.room lane (length subs) (length turned) (length entries) latest
          (2 * length entries) (2 * length entries) old more (omega arith) keeps.halves_keep);
    }

-- all that is kept, behind a line
pub line_keeps : (opened : Rest) (slices lane lines latest tries : ℕ) (book book_now : List (List ℕ))
    (subs turned after : List SubscriberState) (old mid new : Halves) (entries : List Taken) (taken : Taken)
    (it : Meant) → FrontKeeps opened slices lane lines latest book subs old entries → lines < 2 ^ 39
    → latest ≤ taken.line.value.moment → Settles old mid
    → Turned slices book subs taken.line.value it book_now turned
    → Takes (lines + 1) tries (meaning_of it) taken.open turned after mid new
    → FrontKeeps opened slices lane (lines + 1) taken.line.value.moment book_now after new (entries ++ taken ∷ [])
line_keeps opened slices lane lines latest tries book book_now subs turned after old mid new entries taken it keeps few late
    pump turns takes =
    let line : Line = taken.line.value in
    let more = turns.more in
    let halves : HalvesKeep slices opened.room lane (length turned) (length entries) latest (2 * length entries) old =
    halves_wider slices opened.room lane (length subs) (length turned) (length entries) latest (2 * length entries)
    (2 * length entries) old more (omega arith) keeps.halves_keep in
    let rest : AreAtRest slices lines latest turned = turns.rest lines latest keeps.at_rest in
    let many = turns.many in
    let to : IsTo slices (length turned) (meaning_of it) =
    turned_to opened slices lane lines latest book book_now subs turned old entries line it keeps turns in
    let goes = line_goes slices opened.room lane (length entries) latest line.moment (lines + 1) turned old mid new pump
    halves late lines (lines + 1) tries (meaning_of it) taken.open after rest to turns.moment takes in
    let counted = keeps.counted in
    let count = length-append entries (taken ∷ []) in
    let still = goes.goes.many in
    record {
      slices_are = keeps.slices_are;
      lane_is = keeps.lane_is;
      slices_few = keeps.slices_few;
      roomy = keeps.roomy;
      lane_roomy = keeps.lane_roomy;
      as_many = still ∙ many;
      counted = omega (arith, counted, count);
      few = omega (arith, few);
      at_rest = λ slot none low.
          goes_on slices lines latest slot (get_or after slot none) (lines + 1) line.moment (omega arith) late
          (goes.goes.rest lines rest slot none low);
      first = keeps.first;
      behind = keeps.behind;
      history = keeps.history;
      represents = keeps.represents;
      events_few = keeps.events_few;
      stand = λ prior stand.
          subst (λ (l : List Line). Stand slices book_now after l)
          (append_assoc prior (lines_of entries) (line ∷ []) ∙ ap (λ (l : List Line). prior ++ l)
          (sym (lines_push entries taken)))
          (goes.goes.stand book_now ((prior ++ lines_of entries) ++ line ∷ [])
          (turns.stand (prior ++ lines_of entries) (keeps.stand prior stand)));
      starts = λ history standing.
          let are = keeps.starts history standing in
          goes.goes.starts history (record {
            standing = turns.keep (unless_split (starts_of old) history) are.standing;
            split = are.split;
          });
      halves_keep =
          subst (λ (n : ℕ). HalvesKeep slices opened.room lane (length after) n line.moment (2 * n) new)
          (sym count)
          (subst (λ (n : ℕ). HalvesKeep slices opened.room lane n (length entries + 1) line.moment
          (2 * (length entries + 1)) new) (sym still) goes.goes.keeps);
      lines_keep = λ prior stand.
          let made : List Meaning = meant_from slices prior (lines_of entries) in
          let opens : List LineEntry = opens_of (opened.lines + 1) entries in
          let made_count = length-meant_from slices prior (lines_of entries) in
          let lines_count = length-map entries (λ (t : Taken). t.line.value) in
          let at : lines + 1 ≡ (opened.lines + 1) + length made = omega (arith, counted, made_count, lines_count) in
          let kept = goes.told (opened.lines + 1) made opens at (keeps.lines_keep prior stand) in
          let made_now : made ++ meaning_of it ∷ [] ≡ meant_from slices prior (lines_of (entries ++ taken ∷ [])) =
          ap (λ (now : Meaning). made ++ now ∷ []) (turns.means (prior ++ lines_of entries) (keeps.stand prior stand))
          ∙ sym (meant_from-append slices prior (lines_of entries) (line ∷ []))
          ∙ ap (meant_from slices prior) (sym (lines_push entries taken)) in
          let told_now : opens ++ open_of (lines + 1) taken.open ∷ [] ≡ opens_of (opened.lines + 1) (entries ++ taken ∷ []) =
          ap (λ (n : ℕ). opens ++ open_of n taken.open ∷ [])
          (let place : lines + 1 ≡ (opened.lines + 1) + length entries = omega (arith, counted) in place)
          ∙ sym (opens_push (opened.lines + 1) entries taken) in
          subst (λ (m : List Meaning). LinesKept slices opened.room lane (opened.lines + 1) m
          (opens_of (opened.lines + 1) (entries ++ taken ∷ [])) (parts_of new) (load_of new)) made_now
          (subst (λ (e : List LineEntry). LinesKept slices opened.room lane (opened.lines + 1)
          (made ++ meaning_of it ∷ []) e (parts_of new) (load_of new)) told_now kept);
    }
