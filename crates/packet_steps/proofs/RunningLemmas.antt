-- What packets and new versions make of running counters, step by step.
use Rattle.std.proofs.Common.{◌≡◌, ℕ, ◌<◌, ◌≤◌, ◌&&◌, Bool, true, false, cond, List, [], ◌∷◌, ◌++◌, map, length, Some, Ok, Err, OnOk, refl, sym, ◌∙◌, ap, subst, arith}
use Rattle.std.specs.Prelude.{Result}
use Rattle.std.proofs.lemmas.List.{append-nil, map_push}
use Rattle.pc_base.specs.declared.packet.Packet.{Packet}
use Rattle.pc_base.specs.declared.packet.Peer.{Peer}
use Rattle.pc_base.specs.declared.packet.Way.TheVariants.{Up, Down}
use Rattle.pc_base.specs.declared.effect.Effect.TheVariants as effect
use Rattle.pc_base.specs.declared.effect.Fate.{Fate}
use Rattle.pc_base.specs.declared.effect.Fate.TheVariants as fate
use Rattle.rate_policer.specs.Conforming.{cost_of}
use Rattle.rate_policer.specs.Buckets.{BucketState, lets_through, asked}
use Rattle.charging_book.specs.Accounts.{Accounts}
use Rattle.charging_book.specs.Happenings.{Happening, forwarded}
use Rattle.charging_book.specs.Postings.{happening_of, MayBePosted}
use Rattle.charging_book.specs.Posted as posted
use Rattle.charging_book.specs.Posted.{GoesFar, rows_made}
use Rattle.charging_book.specs.declared.accounts.posting.Posting.TheVariants as posting
use Rattle.charging_book.proofs.PostedLemmas.{may_by_pieces}
use Rattle.ipv4_packet.specs.Packet.{IsPacket}
use Rattle.bearer_state.specs.declared.version.ActiveBearer.{ActiveBearer}
use Rattle.bearer_state.specs.Version.{VersionState, bearer_at}
use Rattle.packet_steps.specs.declared.plan.Plan.{Plan}
use Rattle.packet_steps.specs.declared.plan.Plan.TheVariants as plan
use Rattle.packet_steps.specs.declared.releasing.Release.{Release}
use Rattle.packet_steps.specs.Rows.{HeldRow}
use Rattle.packet_steps.specs.Messages.{gpdu}
use Rattle.packet_steps.specs.Verdicts.{bearer_for, is_packet}
use Rattle.packet_steps.specs.Meters.{MetersState, in_use, bucket_for, put_bucket}
use Rattle.packet_steps.specs.Standing.{CountersState}
use Rattle.packet_steps.specs.Running.{cost_in, left_of, left_for, planned_up, planned_down, planned_by_way, planned, meters_behind, held_behind, charged_by, GoesOn, Brought, brought_by, with_fate, with_put, with_charge, brought_through, brought_to}
use Rattle.packet_steps.proofs.PacketLemmas.{packet_passes}

-- a bucket is asked at the later one of two moments
pub at_last : (b : BucketState) (octets at : ℕ) → at < b.last → cost_of octets b.last ≡ cost_in b octets at
at_last b octets at early = ap (cost_of octets) (omega arith)

pub at_now : (b : BucketState) (octets at : ℕ) → b.last ≤ at → cost_of octets at ≡ cost_in b octets at
at_now b octets at late = ap (cost_of octets) (omega arith)

-- whether octets pass, and the bucket that is left
pub left_is : (meters : MetersState) (bearer : ActiveBearer) (up : Bool) (octets at : ℕ) (old : BucketState)
    (tried : Bool × BucketState) → old ≡ bucket_for meters bearer up
    → tried.0 ≡ lets_through old (cost_in old octets at) → tried.1 ≡ asked old (cost_in old octets at)
    → tried ≡ left_for meters bearer up octets at
left_is meters bearer up octets at old tried is within parts =
    same_tried tried (left_of old octets at) within parts ∙ ap (λ b. left_of b octets at) is
  where
    same_tried : (x y : Bool × BucketState) → x.0 ≡ y.0 → x.1 ≡ y.1 → x ≡ y
    same_tried x y first second = λ i. (first i, second i)

-- while attached, what is to become of a packet is planned by its way
by_way : (version : VersionState) (counters : CountersState) (packet : Packet) → version.live ≡ true
    → is_packet packet.octets ≡ true
    → planned version counters packet ≡ planned_by_way version counters packet packet.way
by_way version counters packet live whole =
    ap (λ t. cond t (planned_by_way version counters packet packet.way) plan.NoBearer)
    (ap (λ t. t && is_packet packet.octets) live ∙ whole)

pub planned_going_up : (version : VersionState) (counters : CountersState) (packet : Packet) (index at : ℕ)
    (octets : List ℕ) → version.live ≡ true
    → IsPacket octets → packet.octets ≡ octets → packet.moment ≡ at → packet.way ≡ Up index
    → planned_up version counters.meters at octets (bearer_at version.bearers index) ≡ planned version counters packet
planned_going_up version counters packet index at octets live whole is now way =
    sym (by_way version counters packet live (ap is_packet is ∙ packet_passes octets whole)
    ∙ ap (planned_by_way version counters packet) way
    ∙ ap (λ o. planned_up version counters.meters packet.moment o (bearer_at version.bearers index)) is
    ∙ ap (λ t. planned_up version counters.meters t octets (bearer_at version.bearers index)) now)

pub planned_going_down : (version : VersionState) (counters : CountersState) (packet : Packet) (octets : List ℕ)
    → version.live ≡ true → IsPacket octets → packet.octets ≡ octets → packet.way ≡ Down
    → planned_down version counters packet (bearer_for version octets) ≡ planned version counters packet
planned_going_down version counters packet octets live whole is way =
    sym (by_way version counters packet live (ap is_packet is ∙ packet_passes octets whole)
    ∙ ap (planned_by_way version counters packet) way
    ∙ ap (λ o. planned_down version counters packet (bearer_for version o)) is)

and_false : (a : Bool) → (a && false) ≡ false
and_false true = refl
and_false false = refl

pub not_planned : (version : VersionState) (counters : CountersState) (packet : Packet)
    → is_packet packet.octets ≡ false → planned version counters packet ≡ plan.NoBearer
not_planned version counters packet fails =
    ap (λ t. cond t (planned_by_way version counters packet packet.way) plan.NoBearer)
    (ap (λ t. version.live && t) fails ∙ and_false version.live)

-- a book behind no happening · behind one
pub goes_nowhere : (book : Accounts) → GoesFar book book []
goes_nowhere book = record { pieces = λ pieces are may. are; rows = λ pieces are may. sym (append-nil book.rows) }

pub goes_once : (old new : Accounts) (now : Happening) → (MayBePosted old now → posted.GoesOn old new now)
    → GoesFar old new (now ∷ [])
goes_once old new now goes = record {
  pieces = λ pieces are may. (goes (may_by_pieces old pieces now are may.0)).pieces pieces are;
  rows = λ pieces are may. (goes (may_by_pieces old pieces now are may.0)).rows pieces are
      ∙ ap (λ rows. old.rows ++ rows) (sym (append-nil (rows_made pieces now)));
}

-- counters go on, where a call that may fail says so part by part · where nothing but time went by
pub goes_all : {T E : Type 0} (r : Result T E) (plan_ : Plan) (packet : Packet) (old new : CountersState)
    → OnOk r (new.meters ≡ meters_behind plan_ old.meters)
    → OnOk r (GoesFar old.book new.book (charged_by plan_ packet.moment))
    → OnOk r (new.held ≡ held_behind plan_ packet old.held) → OnOk r (new.last ≡ Some packet.moment)
    → OnOk r (GoesOn plan_ packet old new)
goes_all (Ok x) plan_ packet old new meters book held last = record {
  meters = meters;
  book = book;
  held = held;
  last = last;
}
goes_all (Err e) plan_ packet old new meters book held last = tt

pub stays_on : (packet : Packet) (old new : CountersState) → new ≡ record old { last = Some packet.moment }
    → GoesOn plan.NoBearer packet old new
stays_on packet old new is = record {
  meters = ap (λ (c : CountersState). c.meters) is;
  book = subst (λ (c : CountersState). GoesFar old.book c.book []) (sym is) (goes_nowhere old.book);
  held = ap (λ (c : CountersState). c.held) is;
  last = ap (λ (c : CountersState). c.last) is;
}

-- what is brought, by its three fields
pub same_brought : (x y : Brought) → x.meters ≡ y.meters → x.charged ≡ y.charged → x.effects ≡ y.effects → x ≡ y
same_brought x y meters charged effects = λ i. record {
  meters = meters i;
  charged = charged i;
  effects = effects i;
}

-- a held packet that is refused: its bucket is put back all the same
pub brought_no : (old new : Release) (row : HeldRow) (bearer : ActiveBearer) (peer : Peer) (tried : Bool × BucketState)
    (at : ℕ) (octets : List ℕ)
    → octets ≡ row.packet.octets → tried ≡ left_for (in_use old.meters) bearer false (length octets) at → tried.0 ≡ false
    → in_use new.meters ≡ put_bucket (in_use old.meters) bearer false tried.1 → new.postings.items ≡ old.postings.items
    → new.effects.items ≡ old.effects.items ++ effect.Fate row.packet.number (fate.Policed row.life) ∷ []
    → brought_by new ≡ brought_to (brought_by old) row bearer at (Some peer)
brought_no old new row bearer peer tried at octets is left kept_back meters postings effects =
    let so_far = brought_by old in
    let put = with_put so_far bearer tried.1 in
    let down = fate.Down row.life peer.addr (gpdu peer row.packet.octets) in
    same_brought (brought_by new) (with_fate put row (fate.Policed row.life)) meters (ap (map happening_of) postings)
    effects
    ∙ sym (ap (λ b. cond b (with_fate (with_charge put row bearer at) row down)
    (with_fate put row (fate.Policed row.life))) kept_back)
    ∙ ap (brought_through so_far row bearer peer at)
    (left ∙ ap (λ (text : List ℕ). left_for (in_use old.meters) bearer false (length text) at) is)

pub brought_yes : (old new : Release) (row : HeldRow) (bearer : ActiveBearer) (peer : Peer)
    (tried : Bool × BucketState) (at : ℕ) (octets : List ℕ)
    → octets ≡ row.packet.octets → tried ≡ left_for (in_use old.meters) bearer false (length octets) at → tried.0 ≡ true
    → in_use new.meters ≡ put_bucket (in_use old.meters) bearer false tried.1
    → new.postings.items ≡ old.postings.items ++ posting.Packet bearer.life false (length octets) at ∷ []
    → new.effects.items ≡ old.effects.items
    ++ effect.Fate row.packet.number (fate.Down row.life peer.addr (gpdu peer octets)) ∷ []
    → brought_by new ≡ brought_to (brought_by old) row bearer at (Some peer)
brought_yes old new row bearer peer tried at octets is left let_through meters postings effects =
    let so_far = brought_by old in
    let put = with_put so_far bearer tried.1 in
    let down = fate.Down row.life peer.addr (gpdu peer row.packet.octets) in
    same_brought (brought_by new) (with_fate (with_charge put row bearer at) row down) meters
    (ap (map happening_of) postings
    ∙ map_push happening_of old.postings.items (posting.Packet bearer.life false (length octets) at)
    ∙ ap (λ (text : List ℕ). map happening_of old.postings.items
    ++ forwarded bearer.life (record { up = false; octets = length text; at = at }) ∷ []) is)
    (effects ∙ ap (λ (text : List ℕ). old.effects.items
    ++ effect.Fate row.packet.number (fate.Down row.life peer.addr (gpdu peer text)) ∷ []) is)
    ∙ sym (ap (λ b. cond b (with_fate (with_charge put row bearer at) row down)
    (with_fate put row (fate.Policed row.life))) let_through)
    ∙ ap (brought_through so_far row bearer peer at)
    (left ∙ ap (λ (text : List ℕ). left_for (in_use old.meters) bearer false (length text) at) is)
