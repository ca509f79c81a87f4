-- What the halves do, and what the front accepts, keeps a slot's numbers right.
use Rattle.std.proofs.Common.{◌≡◌, ℕ, ◌+◌, ◌<◌, ◌≤◌, ◌⊎◌, List, [], ◌∷◌, ◌++◌, length, refl, ap, inl, inr, arith, length-append}
use Rattle.std.proofs.lemmas.Bool.{cases_lt}
use Rattle.pc_base.specs.declared.packet.Place.TheVariants.{Closing}
use Rattle.epoch_schedule.specs.Slots.{CommandTags, Met, fresh_slot}
use Rattle.epoch_schedule.specs.Fits.{floor_at, packet_at, count_at, Floors, Handles, SlotFits}
use Rattle.epoch_schedule.proofs.Keeping.{get_or-front, get_or-last_at}

pub fresh_fits : SlotFits fresh_slot
fresh_fits = record {
  sizes = record { all = refl; few = omega arith };
  floors = record {
    rise = λ i j below within. absurd (omega (arith, within));
    commands_wait = λ j within. absurd (omega (arith, within));
    packets_few = omega arith;
    commands_few = omega arith;
    packets_wait = λ k within. absurd (omega (arith, within));
    early = λ k j within below. absurd (omega (arith, within));
  };
  handles = record {
    few = omega arith;
    learnt_wait = λ j within. absurd (omega (arith, within));
    known = omega arith;
    within = λ k within. absurd (omega (arith, within));
    rise = λ i k below within. absurd (omega (arith, within));
    least = λ k within. absurd (omega (arith, within));
    most = λ k j within below. absurd (omega (arith, within));
  };
}

-- a command more
at_end : (n count : ℕ) → n < count + 1 → (n < count) ⊎ (n ≡ count)
at_end n count within = elim (cases_lt n count) [ inl below ↦ inl below | inr above ↦ inr (omega (arith, within, above)) ]

pub length-push : {X : Type 0} (xs : List X) (x : X) → length (xs ++ x ∷ []) ≡ length xs + 1
length-push xs x = length-append xs (x ∷ [])

floor-front : (commands : List CommandTags) (tags : CommandTags) (n : ℕ) → n < length commands
    → floor_at (commands ++ tags ∷ []) n ≡ floor_at commands n
floor-front commands tags n within =
    ap (λ (t : CommandTags). t.floor) (get_or-front commands tags n (record { hop = 0; floor = 0 }) within)

floor-last : (commands : List CommandTags) (tags : CommandTags) (n : ℕ) → n ≡ length commands
    → floor_at (commands ++ tags ∷ []) n ≡ tags.floor
floor-last commands tags n is =
    ap (λ (t : CommandTags). t.floor) (get_or-last_at commands tags n (record { hop = 0; floor = 0 }) is)

module _ (commands : List CommandTags) (packets : List ℕ) (commands_before packets_before : ℕ) (tags : CommandTags)
    (is : tags.floor ≡ packets_before) (floors : Floors commands packets commands_before packets_before) where
  command_rises : (i j : ℕ) → i ≤ j → j < length (commands ++ tags ∷ [])
      → floor_at (commands ++ tags ∷ []) i ≤ floor_at (commands ++ tags ∷ []) j
  command_rises i j below within =
      let more = length-push commands tags in
      elim (at_end j (length commands) (omega (arith, within, more))) [
        | inl front ↦
            let one = floor-front commands tags i (omega (arith, below, front)) in
            let other = floor-front commands tags j front in
            let old = floors.rise i j below front in
            omega (arith, one, other, old)
        | inr last ↦
            let other = floor-last commands tags j last in
            elim (at_end i (length commands) (omega (arith, below, last))) [
              | inl front ↦
                  let one = floor-front commands tags i front in
                  let old = floors.commands_wait i front in
                  omega (arith, one, other, old, is)
              | inr same ↦
                  let one = floor-last commands tags i same in omega (arith, one, other)
            ]
      ]

  command_waits : (j : ℕ) → j < length (commands ++ tags ∷ []) → floor_at (commands ++ tags ∷ []) j ≤ packets_before
  command_waits j within =
      let more = length-push commands tags in
      elim (at_end j (length commands) (omega (arith, within, more))) [
        | inl front ↦
            let one = floor-front commands tags j front in
            let old = floors.commands_wait j front in
            omega (arith, one, old)
        | inr last ↦
            let one = floor-last commands tags j last in omega (arith, one, is)
      ]

  pub command_floors : Floors (commands ++ tags ∷ []) packets commands_before packets_before
  command_floors =
      let more = length-push commands tags in
      let few = floors.commands_few in
      record {
        rise = command_rises;
        commands_wait = command_waits;
        packets_few = floors.packets_few;
        commands_few = omega (arith, more, few);
        packets_wait = λ k within. let old = floors.packets_wait k within in omega (arith, old, more);
        early = λ k j within below.
            let old = floors.packets_wait k within in
            let front = floor-front commands tags j (omega (arith, below, old)) in
            let early = floors.early k j within below in
            omega (arith, front, early);
      }

pub command_handles : (commands : List CommandTags) (packets : List ℕ) (learnt : ℕ) (met : List Met)
    (tags : CommandTags)
    → Handles commands packets learnt met → Handles (commands ++ tags ∷ []) packets learnt met
command_handles commands packets learnt met tags handles =
    let more = length-push commands tags in
    let known = handles.known in
    record {
      few = handles.few;
      learnt_wait = λ j within.
          let front = floor-front commands tags j (omega (arith, within, known)) in
          let old = handles.learnt_wait j within in
          omega (arith, front, old);
      known = omega (arith, known, more);
      within = handles.within;
      rise = handles.rise;
      least = handles.least;
      most = λ k j within below.
          let count = handles.within k within in
          let front = floor-front commands tags j (omega (arith, below, count, known)) in
          let old = handles.most k j within below in
          omega (arith, front, old);
    }

-- a packet more
packet-front : (packets : List ℕ) (floor n : ℕ) → n < length packets
    → packet_at (packets ++ floor ∷ []) n ≡ packet_at packets n
packet-front packets floor n within = get_or-front packets floor n 0 within

packet-last : (packets : List ℕ) (floor n : ℕ) → n ≡ length packets → packet_at (packets ++ floor ∷ []) n ≡ floor
packet-last packets floor n is = get_or-last_at packets floor n 0 is

module _ (commands : List CommandTags) (packets : List ℕ) (commands_before packets_before : ℕ)
    (floors : Floors commands packets commands_before packets_before) where
  packet_waits : (k : ℕ) → k < length (packets ++ commands_before ∷ [])
      → packet_at (packets ++ commands_before ∷ []) k ≤ length commands
  packet_waits k within =
      let more = length-push packets commands_before in
      elim (at_end k (length packets) (omega (arith, within, more))) [
        | inl front ↦
            let one = packet-front packets commands_before k front in
            let old = floors.packets_wait k front in
            omega (arith, one, old)
        | inr last ↦
            let one = packet-last packets commands_before k last in
            let few = floors.commands_few in
            omega (arith, one, few)
      ]

  packet_early : (k j : ℕ) → k < length (packets ++ commands_before ∷ [])
      → j < packet_at (packets ++ commands_before ∷ []) k → floor_at commands j ≤ k
  packet_early k j within below =
      let more = length-push packets commands_before in
      elim (at_end k (length packets) (omega (arith, within, more))) [
        | inl front ↦
            let one = packet-front packets commands_before k front in
            floors.early k j front (omega (arith, one, below))
        | inr last ↦
            let one = packet-last packets commands_before k last in
            let few = floors.commands_few in
            let wait = floors.commands_wait j (omega (arith, one, below, few)) in
            let some = floors.packets_few in
            omega (arith, wait, some, last)
      ]

  pub packet_floors : Floors commands (packets ++ commands_before ∷ []) commands_before packets_before
  packet_floors =
      let more = length-push packets commands_before in
      let few = floors.packets_few in
      record {
        rise = floors.rise;
        commands_wait = floors.commands_wait;
        packets_few = omega (arith, more, few);
        commands_few = floors.commands_few;
        packets_wait = packet_waits;
        early = packet_early;
      }

pub packet_handles : (commands : List CommandTags) (packets : List ℕ) (learnt : ℕ) (met : List Met) (floor : ℕ)
    → Handles commands packets learnt met → Handles commands (packets ++ floor ∷ []) learnt met
packet_handles commands packets learnt met floor handles =
    let more = length-push packets floor in
    let few = handles.few in
    record {
      few = omega (arith, few, more);
      learnt_wait = handles.learnt_wait;
      known = handles.known;
      within = handles.within;
      rise = handles.rise;
      least = λ k within.
          let front = packet-front packets floor k (omega (arith, within, few)) in
          let old = handles.least k within in
          omega (arith, front, old);
      most = handles.most;
    }

-- a move
pub move_floors : (commands : List CommandTags) (packets : List ℕ) (commands_before packets_before : ℕ)
    → Floors commands packets commands_before packets_before
    → Floors commands packets (length commands) (length packets)
move_floors commands packets commands_before packets_before floors = record {
  rise = floors.rise;
  commands_wait = λ j within.
      let old = floors.commands_wait j within in
      let few = floors.packets_few in
      omega (arith, old, few);
  packets_few = omega arith;
  commands_few = omega arith;
  packets_wait = floors.packets_wait;
  early = floors.early;
}

-- a packet is handled
count-front : (met : List Met) (m : Met) (n : ℕ) → n < length met → count_at (met ++ m ∷ []) n ≡ count_at met n
count-front met m n within =
    ap (λ (m : Met). m.commands) (get_or-front met m n (record { commands = 0; place = Closing }) within)

count-last : (met : List Met) (m : Met) (n : ℕ) → n ≡ length met → count_at (met ++ m ∷ []) n ≡ m.commands
count-last met m n is =
    ap (λ (m : Met). m.commands) (get_or-last_at met m n (record { commands = 0; place = Closing }) is)

module _ (commands : List CommandTags) (packets : List ℕ) (learnt : ℕ) (met : List Met) (m : Met)
    (is : m.commands ≡ learnt) (next : length met < length packets)
    (may : packet_at packets (length met) ≤ learnt) (handles : Handles commands packets learnt met) where
  one_within : (k : ℕ) → k < length (met ++ m ∷ []) → count_at (met ++ m ∷ []) k ≤ learnt
  one_within k within =
      let more = length-push met m in
      elim (at_end k (length met) (omega (arith, within, more))) [
        | inl front ↦
            let one = count-front met m k front in
            let old = handles.within k front in
            omega (arith, one, old)
        | inr last ↦
            let one = count-last met m k last in omega (arith, one, is)
      ]

  one_rises : (i k : ℕ) → i ≤ k → k < length (met ++ m ∷ [])
      → count_at (met ++ m ∷ []) i ≤ count_at (met ++ m ∷ []) k
  one_rises i k below within =
      let more = length-push met m in
      elim (at_end k (length met) (omega (arith, within, more))) [
        | inl front ↦
            let one = count-front met m i (omega (arith, below, front)) in
            let other = count-front met m k front in
            let old = handles.rise i k below front in
            omega (arith, one, other, old)
        | inr last ↦
            let other = count-last met m k last in
            let all = one_within i (omega (arith, below, within)) in
            omega (arith, other, all, is)
      ]

  one_least : (k : ℕ) → k < length (met ++ m ∷ []) → packet_at packets k ≤ count_at (met ++ m ∷ []) k
  one_least k within =
      let more = length-push met m in
      elim (at_end k (length met) (omega (arith, within, more))) [
        | inl front ↦
            let one = count-front met m k front in
            let old = handles.least k front in
            omega (arith, one, old)
        | inr last ↦
            let one = count-last met m k last in
            let here : packet_at packets k ≡ packet_at packets (length met) = ap (packet_at packets) last in
            omega (arith, one, here, is, may)
      ]

  one_most : (k j : ℕ) → k < length (met ++ m ∷ []) → j < count_at (met ++ m ∷ []) k → floor_at commands j ≤ k
  one_most k j within below =
      let more = length-push met m in
      elim (at_end k (length met) (omega (arith, within, more))) [
        | inl front ↦
            let one = count-front met m k front in
            handles.most k j front (omega (arith, one, below))
        | inr last ↦
            let one = count-last met m k last in
            let old = handles.learnt_wait j (omega (arith, one, below, is)) in
            omega (arith, old, last)
      ]

  pub one_handled : Handles commands packets learnt (met ++ m ∷ [])
  one_handled =
      let more = length-push met m in
      record {
        few = omega (arith, more, next);
        learnt_wait = λ j within. let old = handles.learnt_wait j within in omega (arith, old, more);
        known = handles.known;
        within = one_within;
        rise = one_rises;
        least = one_least;
        most = one_most;
      }

-- more commands are learnt, none of which waits for a packet that isn't handled
pub more_learnt : (commands : List CommandTags) (packets : List ℕ) (learnt more : ℕ) (met : List Met)
    → learnt ≤ more → more ≤ length commands
    → ((j : ℕ) → j < more → floor_at commands j ≤ length met)
    → Handles commands packets learnt met → Handles commands packets more met
more_learnt commands packets learnt more met grows known waits handles = record {
  few = handles.few;
  learnt_wait = waits;
  known = known;
  within = λ k within. let old = handles.within k within in omega (arith, old, grows);
  rise = handles.rise;
  least = handles.least;
  most = handles.most;
}
