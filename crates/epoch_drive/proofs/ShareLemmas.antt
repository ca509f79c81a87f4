-- What was taken of lines, one after another.
use Rattle.std.proofs.Common.{◌≡◌, ℕ, zero, suc, ◌+◌, ◌==◌, ◌<◌, ◌≤◌, Bool, true, false, cond, Option, Some, None, List, [], ◌∷◌, ◌++◌, map, length, take, drop, get_or, set, get_or-set_same, get_or-set_other, length-set, true≢false, refl, sym, ap, subst, ◌∙◌, inl, inr, arith, length-append, append-nil}
use Rattle.std.specs.List.{All, cons_option}
use Rattle.std.specs.Option.{option_map}
use Rattle.std.proofs.lemmas.Bool.{cases_eq, eq-eqb, ne_eqb}
use Rattle.std.proofs.lemmas.List.{get_or-map, length-map, map_push, take-append-drop, take_all, take_more}
use Rattle.std.proofs.lemmas.List.Elements.{filter_map-append, All-get_or}
use Rattle.control_steps.specs.declared.command.CommandKind.{CommandKind}
use Rattle.demux.specs.Trace.{Meaning, command, packet, move, note}
use Rattle.demux.specs.declared.packet.LentPacket.{LentPacket}
use Rattle.gate_model.specs.Events.{FewEvents}
use Rattle.lawful_run.specs.Accepted as accepted
use Rattle.lawful_run.specs.LinesTold.{LineTold}
use Rattle.epoch_schedule.specs.Front.{Outcome}
use Rattle.epoch_schedule.specs.Slots.{Met}
use Rattle.epoch_schedule.specs.Plan.{Plan, mets_of}
use Rattle.slot_execution.specs.Replaying.{commands_lent, counts_of, places_of}
use Rattle.slot_execution.specs.declared.placed.Placed.{Placed}
use Rattle.subscriber.specs.Standing.{SubscriberState, commands_met}
use Rattle.at_rest.specs.Meant.{IsWithin}
use Rattle.lawful_run.specs.Opened.{open_command, open_packet}
use Rattle.epoch_drive.specs.DrivenOpened.{open_entry}
use Rattle.epoch_drive.specs.Opened.{opened}
use Rattle.epoch_drive.specs.Shares.{AreMet, AreShares, base_at, GivesCommand, GivesPacket, HasMet, IsShare, MayMeet, packets_alone, packets_lent}
use Rattle.epoch_drive.specs.declared.sharing.Share.{Share}

-- what a line brings a slot
abbrev pub line_at : ℕ → Meaning → Outcome → LineTold
line_at n m o = record { meaning = m; entry = open_entry n m o }

commands_push : (slot : ℕ) (told : List LineTold) (line : LineTold)
    → accepted.commands_accepted slot (told ++ line ∷ []) ≡ accepted.commands_accepted slot told
    ++ cons_option (accepted.accepted_command slot line) []
commands_push slot told line = filter_map-append (accepted.accepted_command slot) told (line ∷ [])

packets_push : (slot : ℕ) (told : List LineTold) (line : LineTold)
    → accepted.packets_accepted slot (told ++ line ∷ []) ≡ accepted.packets_accepted slot told
    ++ cons_option (accepted.accepted_packet slot line) []
packets_push slot told line = filter_map-append (accepted.accepted_packet slot) told (line ∷ [])

-- a line that brings the slot nothing
pub record Nothing (slot : ℕ) (line : LineTold) : Type 0 where
  pub command_ : accepted.accepted_command slot line ≡ None
  pub packet_ : accepted.accepted_packet slot line ≡ None

stays_share : (share : Share) (base : ℕ) (mets : List Met) (told : List LineTold) (slot : ℕ) (line : LineTold)
    → IsShare share base mets told slot → Nothing slot line → IsShare share base mets (told ++ line ∷ []) slot
stays_share share base mets told slot line is nothing = record {
  commands = is.commands ∙ sym (append-nil (accepted.commands_accepted slot told))
      ∙ ap (λ o. accepted.commands_accepted slot told ++ cons_option o []) (sym nothing.command_)
      ∙ sym (commands_push slot told line);
  packets = is.packets ∙ ap packets_alone (sym (append-nil (accepted.packets_accepted slot told))
      ∙ ap (λ o. accepted.packets_accepted slot told ++ cons_option o []) (sym nothing.packet_)
      ∙ sym (packets_push slot told line));
  counts = is.counts;
  places = is.places;
}

pub shares_stay : (shares : List Share) (subscribers : List SubscriberState) (plan : Plan) (told : List LineTold)
    (line : LineTold) → AreShares shares subscribers plan told → ((slot : ℕ) → Nothing slot line)
    → AreShares shares subscribers plan (told ++ line ∷ [])
shares_stay shares subscribers plan told line are nothing slot share low =
    stays_share (get_or shares slot share) (base_at subscribers slot) (mets_of plan slot) told slot line
    (are slot share low) (nothing slot)

pub noted_nothing : (n : ℕ) (text : List ℕ) (o : Outcome) (slot : ℕ) → Nothing slot (line_at n (note text) o)
noted_nothing n text o slot = record { command_ = refl; packet_ = refl }

pub moved_nothing : (n own slice : ℕ) (text : List ℕ) (o : Outcome) (slot : ℕ)
    → Nothing slot (line_at n (move own slice text) o)
moved_nothing n own slice text o slot = record { command_ = refl; packet_ = refl }

refused_command : (n own : ℕ) (c : CommandKind) (taken : Bool) (slot : ℕ) → taken ≡ false
    → Nothing slot (record { meaning = command own c; entry = open_command n own taken })
refused_command n own c true slot isnt = absurd (true≢false isnt)
refused_command n own c false slot isnt = record { command_ = refl; packet_ = refl }

refused_packet : (n own : ℕ) (p : LentPacket) (taken parked : Bool) (slot : ℕ) → taken ≡ false
    → Nothing slot (record { meaning = packet own p; entry = open_packet n own taken parked })
refused_packet n own p true parked slot isnt = absurd (true≢false isnt)
refused_packet n own p false parked slot isnt = record { command_ = refl; packet_ = refl }

pub refused_nothing : (n : ℕ) (m : Meaning) (o : Outcome) (slot : ℕ) → o.taken ≡ false → Nothing slot (line_at n m o)
refused_nothing n (note text) o slot isnt = noted_nothing n text o slot
refused_nothing n (move own slice text) o slot isnt = moved_nothing n own slice text o slot
refused_nothing n (command own c) o slot isnt = refused_command n own c o.taken slot isnt
refused_nothing n (packet own p) o slot isnt = refused_packet n own p o.taken o.parked slot isnt

-- a command that was taken
taken_command : (n own : ℕ) (c : CommandKind) (taken : Bool) (slot : ℕ) → taken ≡ true
    → accepted.accepted_command slot (record { meaning = command own c; entry = open_command n own taken })
    ≡ cond (own == slot) (Some c) None
taken_command n own c true slot is_taken = refl
taken_command n own c false slot is_taken = absurd (true≢false (sym is_taken))

no_packet : (n own : ℕ) (c : CommandKind) (taken : Bool) (slot : ℕ)
    → accepted.accepted_packet slot (record { meaning = command own c; entry = open_command n own taken }) ≡ None
no_packet n own c true slot = refl
no_packet n own c false slot = refl

pub shares_command : (old new : List Share) (subscribers : List SubscriberState) (plan : Plan) (told : List LineTold)
    (n own : ℕ) (c : CommandKind) (o : Outcome) → own < length old → o.taken ≡ true
    → GivesCommand old new own c → AreShares old subscribers plan told
    → AreShares new subscribers plan (told ++ line_at n (command own c) o ∷ [])
shares_command old new subscribers plan told n own c o low is_taken gives are slot share within =
    let line : LineTold = line_at n (command own c) o in
    let count : length new ≡ length old = ap length gives.is ∙ length-set old own gives.after in
    let base : ℕ = base_at subscribers slot in
    let told_now : Option CommandKind = cond (own == slot) (Some c) None in
    let is_command : accepted.accepted_command slot line ≡ told_now = taken_command n own c o.taken slot is_taken in
    let is_packet : accepted.accepted_packet slot line ≡ None = no_packet n own c o.taken slot in
    elim (cases_eq own slot) [
      | inl same ↦
          let here : get_or new slot share ≡ gives.after =
          ap (λ xs. get_or xs slot share) gives.is ∙ ap (λ k. get_or (set old own gives.after) k share) (sym same)
          ∙ get_or-set_same old own gives.after share low in
          let before : IsShare gives.share base (mets_of plan slot) told slot =
          subst (λ s. IsShare s base (mets_of plan slot) told slot)
          (ap (λ k. get_or old k gives.share) (sym same) ∙ sym gives.found)
          (are slot gives.share (omega (arith, within, count))) in
          let own_command : accepted.accepted_command slot line ≡ Some c =
          is_command ∙ ap (λ t. cond t (Some c) None) (eq-eqb own slot same) in
          subst (λ s. IsShare s base (mets_of plan slot) (told ++ line ∷ []) slot) (sym here)
          (record {
            commands = gives.commands ∙ ap (λ cs. cs ++ c ∷ []) before.commands
                ∙ ap (λ x. accepted.commands_accepted slot told ++ cons_option x []) (sym own_command)
                ∙ sym (commands_push slot told line);
            packets = ap packets_lent gives.packets ∙ before.packets
                ∙ ap packets_alone (sym (append-nil (accepted.packets_accepted slot told))
                ∙ ap (λ x. accepted.packets_accepted slot told ++ cons_option x []) (sym is_packet)
                ∙ sym (packets_push slot told line));
            counts = ap counts_of gives.packets ∙ before.counts
                ∙ ap (λ ps. map (λ (m : Met). base + m.commands) (take (length ps) (mets_of plan slot)))
                (sym gives.packets);
            places = ap places_of gives.packets ∙ before.places
                ∙ ap (λ ps. map (λ (m : Met). m.place) (take (length ps) (mets_of plan slot))) (sym gives.packets);
          })
      | inr other ↦
          let there : get_or new slot share ≡ get_or old slot share =
          ap (λ xs. get_or xs slot share) gives.is
          ∙ get_or-set_other old own slot gives.after share (λ same. other (sym same)) in
          subst (λ s. IsShare s base (mets_of plan slot) (told ++ line ∷ []) slot) (sym there)
          (stays_share (get_or old slot share) base (mets_of plan slot) told slot line
          (are slot share (omega (arith, within, count)))
          (record {
            command_ = is_command ∙ ap (λ t. cond t (Some c) None) (ne_eqb own slot other);
            packet_ = is_packet;
          }))
    ]

-- a packet that was taken
abbrev pub alone : LentPacket → accepted.Placed
alone p = record { commands = 0; packet = p }

taken_packet : (n own : ℕ) (p : LentPacket) (taken parked : Bool) (slot : ℕ) → taken ≡ true
    → accepted.accepted_packet slot (record { meaning = packet own p; entry = open_packet n own taken parked })
    ≡ option_map alone (cond (own == slot) (Some p) None)
taken_packet n own p true parked slot is_taken = refl
taken_packet n own p false parked slot is_taken = absurd (true≢false (sym is_taken))

no_command : (n own : ℕ) (p : LentPacket) (taken parked : Bool) (slot : ℕ)
    → accepted.accepted_command slot (record { meaning = packet own p; entry = open_packet n own taken parked }) ≡ None
no_command n own p true parked slot = refl
no_command n own p false parked slot = refl

-- one of the mets more
mets_more : {Y : Type 0} (f : Met → Y) (mets : List Met) (k after : ℕ) (m : Met) → k < length mets
    → m ≡ get_or mets k m → after ≡ k + 1
    → map f (take k mets) ++ f m ∷ [] ≡ map f (take after mets)
mets_more f mets k after m low is next =
    ap (λ x. map f (take k mets) ++ f x ∷ []) is
    ∙ sym (map_push f (take k mets) (get_or mets k m))
    ∙ ap (map f) (sym (take_more mets k m low)) ∙ ap (λ n. map f (take n mets)) (sym next)

pub shares_packet : (old new : List Share) (subscribers : List SubscriberState) (plan : Plan) (told : List LineTold)
    (n own : ℕ) (p : LentPacket) (o : Outcome) → own < length old → length old ≡ length subscribers → o.taken ≡ true
    → GivesPacket old new subscribers plan own p → AreShares old subscribers plan told
    → AreShares new subscribers plan (told ++ line_at n (packet own p) o ∷ [])
shares_packet old new subscribers plan told n own p o low many is_taken gives are slot share within =
    let line : LineTold = line_at n (packet own p) o in
    let count : length new ≡ length old = ap length gives.is ∙ length-set old own gives.after in
    let base : ℕ = base_at subscribers slot in
    let is_packet : accepted.accepted_packet slot line ≡ option_map alone (cond (own == slot) (Some p) None) =
    taken_packet n own p o.taken o.parked slot is_taken in
    let is_command : accepted.accepted_command slot line ≡ None = no_command n own p o.taken o.parked slot in
    elim (cases_eq own slot) [
      | inl same ↦
          let mets : List Met = mets_of plan slot in
          let here : get_or new slot share ≡ gives.after =
          ap (λ xs. get_or xs slot share) gives.is ∙ ap (λ k. get_or (set old own gives.after) k share) (sym same)
          ∙ get_or-set_same old own gives.after share low in
          let before : IsShare gives.share base mets told slot =
          subst (λ s. IsShare s base mets told slot)
          (ap (λ k. get_or old k gives.share) (sym same) ∙ sym gives.found)
          (are slot gives.share (omega (arith, within, count))) in
          let base_is : commands_met gives.subscriber ≡ base =
          ap commands_met gives.there
          ∙ sym (get_or-map commands_met subscribers own gives.subscriber 0 (omega (arith, low, many)))
          ∙ ap (base_at subscribers) same in
          let own_packet : accepted.accepted_packet slot line ≡ Some (alone p) =
          is_packet ∙ ap (λ t. option_map alone (cond t (Some p) None)) (eq-eqb own slot same) in
          let longer : length gives.after.packets.items ≡ length gives.share.packets.items + 1 =
          sym (length-map gives.after.packets.items (λ (x : Placed). x.place)) ∙ ap length gives.places
          ∙ length-append (places_of gives.share.packets.items) (gives.met.place ∷ [])
          ∙ ap (λ k. k + 1) (length-map gives.share.packets.items (λ (x : Placed). x.place)) in
          let meets : gives.met ≡ get_or mets (length gives.share.packets.items) gives.met =
          gives.meets ∙ ap (λ k. get_or (mets_of plan k) (length gives.share.packets.items) gives.met) same in
          let met_low : length gives.share.packets.items < length mets =
          subst (λ k. length gives.share.packets.items < length (mets_of plan k)) same gives.within in
          subst (λ s. IsShare s base mets (told ++ line ∷ []) slot) (sym here)
          (record {
            commands = ap commands_lent gives.commands ∙ before.commands
                ∙ sym (append-nil (accepted.commands_accepted slot told))
                ∙ ap (λ x. accepted.commands_accepted slot told ++ cons_option x []) (sym is_command)
                ∙ sym (commands_push slot told line);
            packets = gives.packets ∙ ap (λ ps. ps ++ p ∷ []) before.packets
                ∙ sym (map_push (λ (x : accepted.Placed). x.packet) (accepted.packets_accepted slot told) (alone p))
                ∙ ap packets_alone (ap (λ x. accepted.packets_accepted slot told ++ cons_option x []) (sym own_packet)
                ∙ sym (packets_push slot told line));
            counts = gives.counts ∙ ap (λ cs. cs ++ (commands_met gives.subscriber + gives.met.commands) ∷ []) before.counts
                ∙ ap (λ b. map (λ (m : Met). base + m.commands) (take (length gives.share.packets.items) mets)
                ++ (b + gives.met.commands) ∷ []) base_is
                ∙ mets_more (λ (m : Met). base + m.commands) mets (length gives.share.packets.items)
                (length gives.after.packets.items) gives.met met_low meets longer;
            places = gives.places ∙ ap (λ cs. cs ++ gives.met.place ∷ []) before.places
                ∙ mets_more (λ (m : Met). m.place) mets (length gives.share.packets.items)
                (length gives.after.packets.items) gives.met met_low meets longer;
          })
      | inr other ↦
          let there : get_or new slot share ≡ get_or old slot share =
          ap (λ xs. get_or xs slot share) gives.is
          ∙ get_or-set_other old own slot gives.after share (λ same. other (sym same)) in
          subst (λ s. IsShare s base (mets_of plan slot) (told ++ line ∷ []) slot) (sym there)
          (stays_share (get_or old slot share) base (mets_of plan slot) told slot line
          (are slot share (omega (arith, within, count)))
          (record {
            command_ = is_command;
            packet_ = is_packet ∙ ap (λ t. option_map alone (cond t (Some p) None)) (ne_eqb own slot other);
          }))
    ]

-- the lines, one more
pub opened_more : (n i : ℕ) (made : List Meaning) (outs : List Outcome) (m : Meaning) (o : Outcome)
    → i < length made → i < length outs → m ≡ get_or made i m → o ≡ get_or outs i o
    → take i (opened n made outs) ++ line_at (n + i) m o ∷ [] ≡ take (i + 1) (opened n made outs)
opened_more n i [] outs m o low low_outs m_is o_is = absurd (omega (arith, low))
opened_more n i (m1 ∷ made) [] m o low low_outs m_is o_is = absurd (omega (arith, low_outs))
opened_more n zero (m1 ∷ made) (o1 ∷ outs) m o low low_outs m_is o_is =
    let at : n + 0 ≡ n = omega arith in
    λ i. line_at (at i) (m_is i) (o_is i) ∷ []
opened_more n (suc i) (m1 ∷ made) (o1 ∷ outs) m o low low_outs m_is o_is =
    let at : n + suc i ≡ n + 1 + i = omega arith in
    let more : suc (i + 1) ≡ suc i + 1 = omega arith in
    ap (λ rest. line_at n m1 o1 ∷ rest) (ap (λ k. take i (opened (n + 1) made outs) ++ line_at k m o ∷ []) at
    ∙ opened_more (n + 1) i made outs m o (omega (arith, low)) (omega (arith, low_outs)) m_is o_is)
    ∙ ap (λ k. take k (opened n (m1 ∷ made) (o1 ∷ outs))) more

-- a prefix of the lines has no more packets of a slot than all
prefix_packets : (slot k : ℕ) (told : List LineTold)
    → length (accepted.packets_accepted slot (take k told)) ≤ length (accepted.packets_accepted slot told)
prefix_packets slot k told =
    let both : length (accepted.packets_accepted slot told) ≡ length (accepted.packets_accepted slot (take k told))
    + length (accepted.packets_accepted slot (drop k told)) =
    ap (λ ls. length (accepted.packets_accepted slot ls)) (sym (take-append-drop k told))
    ∙ ap length (filter_map-append (accepted.accepted_packet slot) (take k told) (drop k told))
    ∙ length-append (accepted.packets_accepted slot (take k told)) (accepted.packets_accepted slot (drop k told)) in
    omega (arith, both)

-- so there is something to meet for the packet of a line that was taken
pub may_meet : (shares : List Share) (subscribers : List SubscriberState) (plan : Plan) (told : List LineTold)
    (i n own : ℕ) (p : LentPacket) (o : Outcome) → own < length shares → length shares ≡ length subscribers
    → o.taken ≡ true → AreShares shares subscribers plan (take i told) → AreMet plan subscribers told
    → take i told ++ line_at n (packet own p) o ∷ [] ≡ take (i + 1) told → MayMeet shares subscribers plan own
may_meet shares subscribers plan told i n own p o low many is_taken are met more = record {
  within = λ share.
      let line : LineTold = line_at n (packet own p) o in
      let is : IsShare (get_or shares own share) (base_at subscribers own) (mets_of plan own) (take i told) own = are own share low in
      let lent : length (get_or shares own share).packets.items
      ≡ length (accepted.packets_accepted own (take i told)) =
      sym (length-map (get_or shares own share).packets.items (λ (x : Placed). x.packet)) ∙ ap length is.packets
      ∙ length-map (accepted.packets_accepted own (take i told)) (λ (x : accepted.Placed). x.packet) in
      let own_packet : accepted.accepted_packet own line ≡ Some (alone p) =
      taken_packet n own p o.taken o.parked own is_taken
      ∙ ap (λ t. option_map alone (cond t (Some p) None)) (eq-eqb own own refl) in
      let next : length (accepted.packets_accepted own (take (i + 1) told))
      ≡ length (accepted.packets_accepted own (take i told)) + 1 =
      ap (λ ls. length (accepted.packets_accepted own ls)) (sym more) ∙ ap length (packets_push own (take i told) line)
      ∙ ap (λ x. length (accepted.packets_accepted own (take i told) ++ cons_option x [])) own_packet
      ∙ length-append (accepted.packets_accepted own (take i told)) (alone p ∷ []) in
      let whole = prefix_packets own (i + 1) told in
      omega (arith, lent, next, whole, met.enough own);
  few = met.few own;
  counts = λ subscriber.
      All-get_or (λ (s : SubscriberState). FewEvents (commands_met s)) subscribers own subscriber
      (omega (arith, low, many)) met.counts;
}

-- the lines of an epoch, one after another
module _ (shares : List Share) (subscribers : List SubscriberState) (plan : Plan) where
  -- one that was refused
  pub shares_refused : (told : List LineTold) (n : ℕ) (m : Meaning) (o : Outcome) → o.taken ≡ false
      → AreShares shares subscribers plan told → AreShares shares subscribers plan (told ++ line_at n m o ∷ [])
  shares_refused told n m o isnt are =
      shares_stay shares subscribers plan told (line_at n m o) are (λ slot. refused_nothing n m o slot isnt)

  module _ (made : List Meaning) (i : ℕ) (as_many : length plan.outcomes ≡ length made) where
    abbrev lines_from : ℕ → List LineTold
    lines_from first = opened first made plan.outcomes

    is_next : (first : ℕ) (it : Meaning) (o : Outcome) → i < length made → it ≡ get_or made i it
        → o ≡ get_or plan.outcomes i o
        → take i (lines_from first) ++ line_at (first + i) it o ∷ [] ≡ take (i + 1) (lines_from first)
    is_next first it o low it_is o_is =
        opened_more first i made plan.outcomes it o low (omega (arith, low, as_many)) it_is o_is

    pub shares_next : (first : ℕ) (it : Meaning) (o : Outcome) → i < length made → it ≡ get_or made i it
        → o ≡ get_or plan.outcomes i o
        → AreShares shares subscribers plan (take i (lines_from first) ++ line_at (first + i) it o ∷ [])
        → AreShares shares subscribers plan (take (i + 1) (lines_from first))
    shares_next first it o low it_is o_is are =
        subst (AreShares shares subscribers plan) (is_next first it o low it_is o_is) are

    -- the packet of the next one has what it meets
    pub has_met : (it : Meaning) (o : Outcome) → length shares ≡ length subscribers
        → All (IsWithin (length subscribers)) made → i < length made → it ≡ get_or made i it
        → o ≡ get_or plan.outcomes i o → AreShares shares subscribers plan (take i (lines_from 0))
        → AreMet plan subscribers (lines_from 0) → o.taken ≡ true → HasMet shares subscribers plan it
    has_met (command slot c) o many all low it_is o_is are met is_taken = tt
    has_met (packet slot p) o many all low it_is o_is are met is_taken =
        let within : IsWithin (length subscribers) (packet slot p) =
        subst (IsWithin (length subscribers)) (sym it_is)
        (All-get_or (IsWithin (length subscribers)) made i (packet slot p) low all) in
        may_meet shares subscribers plan (lines_from 0) i (0 + i) slot p o (omega (arith, within, many)) many is_taken
        are met (is_next 0 (packet slot p) o low it_is o_is)
    has_met (move slot slice text) o many all low it_is o_is are met is_taken = tt
    has_met (note text) o many all low it_is o_is are met is_taken = tt

    opened_few : (n : ℕ) (made : List Meaning) (outs : List Outcome) → length (opened n made outs) ≤ length made
    opened_few n [] outs = omega arith
    opened_few n (m ∷ made) [] = omega arith
    opened_few n (m ∷ made) (o ∷ outs) = omega (arith, opened_few (n + 1) made outs)

    -- all of them
    pub shares_over : (first : ℕ) → length made ≤ i → AreShares shares subscribers plan (take i (lines_from first))
        → AreShares shares subscribers plan (lines_from first)
    shares_over first over are =
        subst (AreShares shares subscribers plan) (take_all i (lines_from first)
        (omega (arith, over, opened_few first made plan.outcomes))) are
