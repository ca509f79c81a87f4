-- A line leaves gateways alike that were so, and both answer it alike.
use Rattle.std.proofs.Common.{◌≡◌, ℕ, zero, suc, ◌+◌, ◌-◌, ◌*◌, ◌^◌, ◌≤◌, List, [], ◌∷◌, ◌++◌, length, set, slice_get, Some, None, refl, sym, ap, ◌∙◌, subst, arith, length-append, length-set, lit<}
use Rattle.std.proofs.lemmas.Bool.{false≢true}
use Rattle.pc_base.specs.declared.effect.Effect.{Effect}
use Rattle.pc_base.specs.declared.packet.Verdict.{Verdict}
use Rattle.pc_base.specs.declared.reply.Reply.{Reply}
use Rattle.charging_book.specs.Rows.{Charged}
use Rattle.bearer_state.specs.Version.{VersionState}
use Rattle.control_steps.specs.declared.command.CommandKind.{CommandKind}
use Rattle.trace_lines.specs.Line.{Line}
use Rattle.demux.specs.declared.decision.Decision.{Decision}
use Rattle.demux.specs.declared.decision.Decision.TheVariants as decision
use Rattle.demux.specs.declared.decision.Whose.{Whose}
use Rattle.demux.specs.declared.decision.Whose.TheVariants.{Known, New}
use Rattle.demux.specs.declared.packet.LentPacket.{LentPacket}
use Rattle.demux.specs.Destinations.{start_slice}
use Rattle.demux.specs.Packets.{numbered}
use Rattle.demux.specs.Resolved.{decided, slot_of}
use Rattle.demux.specs.Texts.{move_note}
use Rattle.subscriber.specs.Standing.{SubscriberState, commands_met, new_subscriber}
use Rattle.gate_model.proofs.Members.{in_contains}
use Rattle.solo_command.specs.Answering.{Judges}
use Rattle.solo_command.specs.Gateway.{AnswersAs, AnswersLine, AnswersLines, Bound, Carried, Commanded, Gateway, Told, admitting, answered, judged, noted}
use Rattle.solo_command.proofs.Steps.{AnswersAlike, AreOne, JudgesAlike, answers_alike, judges_alike, more_are_one, step}

-- subscribers, one for one
abbrev pub AreAllOne : List SubscriberState → List SubscriberState → ℕ → Type 0
AreAllOne [] [] most = Unit {0}
AreAllOne [] (other ∷ others) most = ⊥
AreAllOne (one ∷ ones) [] most = ⊥
AreAllOne (one ∷ ones) (other ∷ others) most = AreOne one other most × AreAllOne ones others most

pub record AreGatewaysOne (g h : Gateway) (most : ℕ) : Type 0 where
  pub book : g.book ≡ h.book
  pub many : length g.subscribers ≡ length g.book
  pub each : AreAllOne g.subscribers h.subscribers most

pub more_all : (ones others : List SubscriberState) (most more : ℕ) → most ≤ more → AreAllOne ones others most
    → AreAllOne ones others more
more_all [] [] most more few each = tt
more_all [] (other ∷ others) most more few each = absurd each
more_all (one ∷ ones) [] most more few each = absurd each
more_all (one ∷ ones) (other ∷ others) most more few each =
    (more_are_one one other most more few each.0, more_all ones others most more few each.1)

none_found : {X : Type 0} (x : X) → None ≡ Some x → ⊥
none_found x is = cc

one_at : (ones others : List SubscriberState) (slot most : ℕ) (one other : SubscriberState)
    → AreAllOne ones others most → slice_get ones slot ≡ Some one → slice_get others slot ≡ Some other
    → AreOne one other most
one_at [] others slot most one other each found also = absurd (none_found one found)
one_at (x ∷ ones) [] slot most one other each found also = absurd each
one_at (x ∷ ones) (y ∷ others) zero most one other each found also =
    let first : x ≡ one = cc in
    let second : y ≡ other = cc in
    subst (λ (s : SubscriberState). AreOne s other most) first
    (subst (λ (s : SubscriberState). AreOne x s most) second each.0)
one_at (x ∷ ones) (y ∷ others) (suc slot) most one other each found also =
    one_at ones others slot most one other each.1 found also

set_one : (ones others : List SubscriberState) (slot most more : ℕ) (one other : SubscriberState) → most ≤ more
    → AreAllOne ones others most → AreOne one other more → AreAllOne (set ones slot one) (set others slot other) more
set_one [] [] slot most more one other few each are = tt
set_one [] (y ∷ others) slot most more one other few each are = absurd each
set_one (x ∷ ones) [] slot most more one other few each are = absurd each
set_one (x ∷ ones) (y ∷ others) zero most more one other few each are =
    (are, more_all ones others most more few each.1)
set_one (x ∷ ones) (y ∷ others) (suc slot) most more one other few each are =
    (more_are_one x y most more few each.0, set_one ones others slot most more one other few each.1 are)

push_one : (ones others : List SubscriberState) (most : ℕ) (one other : SubscriberState) → AreAllOne ones others most
    → AreOne one other most → AreAllOne (ones ++ one ∷ []) (others ++ other ∷ []) most
push_one [] [] most one other each are = (are, tt)
push_one [] (y ∷ others) most one other each are = absurd each
push_one (x ∷ ones) [] most one other each are = absurd each
push_one (x ∷ ones) (y ∷ others) most one other each are = (each.0, push_one ones others most one other each.1 are)

pub as_many : (ones others : List SubscriberState) (most : ℕ) → AreAllOne ones others most
    → length ones ≡ length others
as_many [] [] most each = refl
as_many [] (y ∷ others) most each = absurd each
as_many (x ∷ ones) [] most each = absurd each
as_many (x ∷ ones) (y ∷ others) most each = ap (λ n. suc n) (as_many ones others most each.1)

-- a subscriber before its first event, and itself
pub new_is_one : (slot destination : ℕ) → AreOne (new_subscriber slot destination) (new_subscriber slot destination) 0
new_is_one slot destination = record {
  pieces = [];
  others = [];
  alike = record {
    session = refl;
    version = refl;
    packets = refl;
    destination = refl;
    counters = record {
      meters = record { sized = refl; others_sized = refl; shared = refl; own = λ b there guaranteed. refl };
      pieces_are = record { opens = refl; moments = refl };
      others_are = record { opens = refl; moments = refl };
      pieces_alike = record { apart = tt; others_apart = tt; same = λ life. refl };
      held = refl;
      last = refl;
    };
  };
  going = record {
    valid = record {
      session = record {
        up = lit< tt;
        down = lit< tt;
        rates = omega arith;
        lives = omega arith;
        lives_below = tt;
        bearers = refl;
        last = tt;
      };
      bearers = record { each = tt; apart = tt };
      version = record {
        number = omega arith;
        up = lit< tt;
        down = lit< tt;
        rates = omega arith;
        each = tt;
        apart = tt;
        rows = refl;
        none_if_not_live = λ is. refl;
      };
    };
    versioned = refl;
    rows = refl;
    open_ = λ life. (λ there. absurd (in_contains life [] there), λ is. absurd (false≢true is));
    within = tt;
    few = omega arith;
  };
  others_rows = refl;
}

-- ---- a line

pub record LineAlike (told told_too : Told) (g h : Gateway) (most : ℕ) : Type 0 where
  pub telling : told ≡ told_too
  pub are : AreGatewaysOne g h (most + step)

same_answer : (n slot : ℕ) (one other : SubscriberState) (reply reply_too : Reply) (effects effects_too : List Effect)
    (rows rows_too : List Charged) → commands_met one ≡ commands_met other → reply ≡ reply_too
    → effects ≡ effects_too → rows ≡ rows_too
    → answered n slot one reply effects rows ≡ answered n slot other reply_too effects_too rows_too
same_answer n slot one other reply reply_too effects effects_too rows rows_too commands replies same_effects same_rows =
    let made : ℕ → Reply → List Effect → List Charged → Told = λ count r es rs.
    answered n slot (record one { version = record one.version { number = count } }) r es rs in
    ap (λ count. made count reply effects rows) commands
    ∙ ap (λ r. made (commands_met other) r effects rows) replies
    ∙ ap (λ es. made (commands_met other) reply_too es rows) same_effects
    ∙ ap (λ rs. made (commands_met other) reply_too effects_too rs) same_rows

same_verdict : (n slot : ℕ) (one other : SubscriberState) (verdict verdict_too : Verdict)
    (rows rows_too : List Charged) → commands_met one ≡ commands_met other → one.packets ≡ other.packets
    → verdict ≡ verdict_too → rows ≡ rows_too
    → judged n slot one verdict rows ≡ judged n slot other verdict_too rows_too
same_verdict n slot one other verdict verdict_too rows rows_too commands packets verdicts same_rows =
    let made : ℕ → ℕ → Verdict → List Charged → Told = λ count number v rs.
    judged n slot (record one { version = record one.version { number = count }; packets = number }) v rs in
    ap (λ count. made count one.packets verdict rows) commands
    ∙ ap (λ number. made (commands_met other) number verdict rows) packets
    ∙ ap (λ v. made (commands_met other) other.packets v rows) verdicts
    ∙ ap (λ rs. made (commands_met other) other.packets verdict_too rs) same_rows

command_one : (n slot : ℕ) (command : CommandKind) (g h next after : Gateway) (told told_too : Told) (most : ℕ)
    → AreGatewaysOne g h most → most + step ≤ 2 ^ 61 - 20 → next.book ≡ g.book → after.book ≡ h.book
    → Commanded n slot command g.subscribers told next.subscribers
    → Commanded n slot command h.subscribers told_too after.subscribers → LineAlike told told_too next after most
command_one n slot command g h next after told told_too most are few books books_too first second =
    let found = one_at g.subscribers h.subscribers slot most first.one second.one are.each first.found second.found in
    let both : AnswersAlike first.reply second.reply first.effects second.effects first.rows second.rows first.next
    second.next most =
    answers_alike first.one second.one first.next second.next command first.reply second.reply first.effects
    second.effects first.rows second.rows most found few first.answers second.answers in
    record {
      telling = first.told_is
          ∙ same_answer n slot first.one second.one first.reply second.reply first.effects second.effects first.rows
          second.rows (ap (λ (v : VersionState). v.number) found.alike.version) both.replies both.effects_are
          both.rows_are
          ∙ sym second.told_is;
      are = record {
        book = books ∙ are.book ∙ sym books_too;
        many = ap length first.put ∙ length-set g.subscribers slot first.next ∙ are.many ∙ ap length (sym books);
        each = subst (λ (ones : List SubscriberState). AreAllOne ones after.subscribers (most + step)) (sym first.put)
            (subst (λ (others : List SubscriberState). AreAllOne (set g.subscribers slot first.next) others
            (most + step)) (sym second.put)
            (set_one g.subscribers h.subscribers slot most (most + step) first.next second.next (omega arith) are.each
            both.are));
      };
    }

packet_one : (n slot : ℕ) (packet : LentPacket) (g h next after : Gateway) (told told_too : Told) (most : ℕ)
    → AreGatewaysOne g h most → most + step ≤ 2 ^ 61 - 20 → next.book ≡ g.book → after.book ≡ h.book
    → Carried n slot packet g.subscribers told next.subscribers
    → Carried n slot packet h.subscribers told_too after.subscribers → LineAlike told told_too next after most
packet_one n slot packet g h next after told told_too most are few books books_too first second =
    let found = one_at g.subscribers h.subscribers slot most first.one second.one are.each first.found second.found in
    let judges : Judges second.one (numbered first.one.packets packet) second.verdict second.rows second.next =
    subst (λ number. Judges second.one (numbered number packet) second.verdict second.rows second.next)
    (sym found.alike.packets) second.judges in
    let both : JudgesAlike first.verdict second.verdict first.rows second.rows first.next second.next most =
    judges_alike first.one second.one first.next second.next (numbered first.one.packets packet) first.verdict
    second.verdict first.rows second.rows most found few first.judges judges in
    record {
      telling = first.told_is
          ∙ same_verdict n slot first.one second.one first.verdict second.verdict first.rows second.rows
          (ap (λ (v : VersionState). v.number) found.alike.version) found.alike.packets both.verdicts both.rows_are
          ∙ sym second.told_is;
      are = record {
        book = books ∙ are.book ∙ sym books_too;
        many = ap length first.put ∙ length-set g.subscribers slot first.next ∙ are.many ∙ ap length (sym books);
        each = subst (λ (ones : List SubscriberState). AreAllOne ones after.subscribers (most + step)) (sym first.put)
            (subst (λ (others : List SubscriberState). AreAllOne (set g.subscribers slot first.next) others
            (most + step)) (sym second.put)
            (set_one g.subscribers h.subscribers slot most (most + step) first.next second.next (omega arith) are.each
            both.are));
      };
    }

-- a move binds both for the slice
bound_one : (one other : SubscriberState) (slice most : ℕ) → AreOne one other most
    → AreOne (record one { destination = slice }) (record other { destination = slice }) (most + step)
bound_one one other slice most are =
    let more = more_are_one one other most (most + step) (omega arith) are in
    record {
      pieces = more.pieces;
      others = more.others;
      alike = record {
        session = more.alike.session;
        version = more.alike.version;
        packets = more.alike.packets;
        destination = refl;
        counters = more.alike.counters;
      };
      going = record {
        valid = record {
          session = more.going.valid.session;
          bearers = more.going.valid.bearers;
          version = more.going.valid.version;
        };
        versioned = more.going.versioned;
        rows = more.going.rows;
        open_ = more.going.open_;
        within = more.going.within;
        few = more.going.few;
      };
      others_rows = more.others_rows;
    }

move_one : (n slot slice : ℕ) (g h next after : Gateway) (told told_too : Told) (most : ℕ) → AreGatewaysOne g h most
    → next.book ≡ g.book → after.book ≡ h.book → Bound n slot slice g.subscribers told next.subscribers
    → Bound n slot slice h.subscribers told_too after.subscribers → LineAlike told told_too next after most
move_one n slot slice g h next after told told_too most are books books_too first second =
    let found = one_at g.subscribers h.subscribers slot most first.one second.one are.each first.found second.found in
    let sent = record first.one { destination = slice } in
    record {
      telling = first.told_is ∙ ap (λ bound. noted n (move_note bound slot slice)) found.alike.destination
          ∙ sym second.told_is;
      are = record {
        book = books ∙ are.book ∙ sym books_too;
        many = ap length first.put ∙ length-set g.subscribers slot sent ∙ are.many ∙ ap length (sym books);
        each = subst (λ (ones : List SubscriberState). AreAllOne ones after.subscribers (most + step)) (sym first.put)
            (subst (λ (others : List SubscriberState). AreAllOne (set g.subscribers slot sent) others
            (most + step)) (sym second.put)
            (set_one g.subscribers h.subscribers slot most (most + step) sent
            (record second.one { destination = slice }) (omega arith) are.each
            (bound_one first.one second.one slice most found)));
      };
    }

-- a new IMSI
admitted_one : (slices : ℕ) (whose : Whose) (g h : Gateway) (most : ℕ) → AreGatewaysOne g h most
    → AreGatewaysOne (admitting slices whose g) (admitting slices whose h) most
admitted_one slices (Known slot) g h most are = are
admitted_one slices (New imsi) g h most are =
    let slot = length g.book in
    let own = new_subscriber slot (start_slice slices slot) in
    record {
      book = ap (λ book. book ++ imsi ∷ []) are.book;
      many = omega (arith, are.many, length-append g.subscribers (own ∷ []), length-append g.book (imsi ∷ []));
      each = subst (λ k. AreAllOne (g.subscribers ++ own ∷ [])
          (h.subscribers ++ new_subscriber k (start_slice slices k) ∷ []) most) (ap length are.book)
          (push_one g.subscribers h.subscribers most own own are.each
          (more_are_one own own 0 most (omega arith) (new_is_one slot (start_slice slices slot))));
    }

pub decided_one : (slices n : ℕ) (d : Decision) (g h next after : Gateway) (told told_too : Told) (most : ℕ)
    → AreGatewaysOne g h most → most + step ≤ 2 ^ 61 - 20
    → AnswersAs slices n d g told next → AnswersAs slices n d h told_too after
    → LineAlike told told_too next after most
decided_one slices n (decision.Command whose command) g h next after told told_too most are few first second =
    let with = admitted_one slices whose g h most are in
    command_one n (slot_of g.book whose) command (admitting slices whose g) (admitting slices whose h) next after told
    told_too most with few first.0 second.0 first.1
    (subst (λ (book : List (List ℕ)). Commanded n (slot_of book whose) command (admitting slices whose h).subscribers
    told_too after.subscribers) (sym are.book) second.1)
decided_one slices n (decision.Packet slot packet) g h next after told told_too most are few first second =
    packet_one n slot packet g h next after told told_too most are few first.0 second.0 first.1 second.1
decided_one slices n (decision.Move slot slice) g h next after told told_too most are few first second =
    move_one n slot slice g h next after told told_too most are first.0 second.0 first.1 second.1
decided_one slices n (decision.Note text) g h next after told told_too most are few first second =
    record {
      telling = first.0 ∙ sym second.0;
      are = record {
        book = ap (λ (x : Gateway). x.book) first.1 ∙ are.book ∙ sym (ap (λ (x : Gateway). x.book) second.1);
        many = ap (λ (x : Gateway). length x.subscribers) first.1 ∙ are.many
            ∙ sym (ap (λ (x : Gateway). length x.book) first.1);
        each = subst (λ (x : Gateway). AreAllOne x.subscribers after.subscribers (most + step)) (sym first.1)
            (subst (λ (x : Gateway). AreAllOne g.subscribers x.subscribers (most + step)) (sym second.1)
            (more_all g.subscribers h.subscribers most (most + step) (omega arith) are.each));
      };
    }

pub line_one : (slices : ℕ) (line : Line) (g h next after : Gateway) (told told_too : Told) (most : ℕ)
    → AreGatewaysOne g h most → most + step ≤ 2 ^ 61 - 20
    → AnswersLine slices line g told next → AnswersLine slices line h told_too after
    → LineAlike told told_too next after most
line_one slices line g h next after told told_too most are few first second =
    decided_one slices line.number (decided slices g.book line) g h next after told told_too most are few first
    (subst (λ (book : List (List ℕ)). AnswersAs slices line.number (decided slices book line) h told_too after)
    (sym are.book) second)

-- ---- lines

pub record LinesAlike (told told_too : List Told) (g h : Gateway) (most : ℕ) : Type 0 where
  pub telling : told ≡ told_too
  pub are : AreGatewaysOne g h most

pub lines_one : (slices : ℕ) (lines : List Line) (g h next after : Gateway) (told told_too : List Told) (most : ℕ)
    → AreGatewaysOne g h most → most + length lines * step ≤ 2 ^ 61 - 20
    → AnswersLines slices lines g told next → AnswersLines slices lines h told_too after
    → LinesAlike told told_too next after (most + length lines * step)
lines_one slices [] g h next after [] [] most are few first second = record {
  telling = refl;
  are = subst (λ (x : Gateway). AreGatewaysOne x after (most + 0 * step)) (sym first)
      (subst (λ (x : Gateway). AreGatewaysOne g x (most + 0 * step)) (sym second) (record {
        book = are.book;
        many = are.many;
        each = more_all g.subscribers h.subscribers most (most + 0 * step) (omega arith) are.each;
      }));
}
lines_one slices [] g h next after [] (told_too ∷ others) most are few first second = absurd second
lines_one slices [] g h next after (told ∷ others) told_too most are few first second = absurd first
lines_one slices (line ∷ lines) g h next after [] told_too most are few first second = absurd first
lines_one slices (line ∷ lines) g h next after (told ∷ others) [] most are few first second = absurd second
lines_one slices (line ∷ lines) g h next after (told ∷ others) (told_too ∷ others_too) most are few first second =
    let here = line_one slices line g h first.0 second.0 told told_too most are (omega arith) first.1 second.1 in
    let behind = lines_one slices lines first.0 second.0 next after others others_too (most + step) here.are
    (omega arith) first.2 second.2 in
    let sum : most + step + length lines * step ≡ most + length (line ∷ lines) * step = omega arith in
    record {
      telling = ap (λ (one : Told). one ∷ others) here.telling
          ∙ ap (λ (later : List Told). told_too ∷ later) behind.telling;
      are = subst (λ n. AreGatewaysOne next after n) sum behind.are;
    }
