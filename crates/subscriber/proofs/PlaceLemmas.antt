-- Bearers keep their places at a command, and counters of parts have the buckets of those that these were read of.
use Rattle.std.proofs.Common.{◌≡◌, ◌<◌, Bool, true, false, cond, List, [], ◌∷◌, ◌++◌, inl, inr, sym, ap, ◌∙◌, subst}
use Rattle.std.specs.List.{flat_map}
use Rattle.std.proofs.lemmas.Bool.{false≢true}
use Rattle.rate_policer.specs.Buckets.{BucketState}
use Rattle.bearer_state.specs.Bearer.{EachPair, IsBefore, AreBearers}
use Rattle.bearer_state.specs.declared.bearer.Bearer.{Bearer}
use Rattle.bearer_state.specs.declared.version.ActiveBearer.{ActiveBearer}
use Rattle.bearer_state.specs.Qos.{is_guaranteed}
use Rattle.bearer_state.specs.Session.{SessionState, IsSession}
use Rattle.bearer_state.specs.Version.{actives}
use Rattle.control_steps.specs.Table.{controlled}
use Rattle.packet_steps.specs.Meters.{MetersState, own_meter}
use Rattle.packet_steps.specs.Parts.{own_buckets}
use Rattle.gate_model.proofs.Members.{In, at_each, of_map, AreDistinct, other_if, in_contains}
use Rattle.gate_model.proofs.SessionSteps.{lives_in, AreLived, session_goes}
use Rattle.gate_model.proofs.ActiveSteps.{same_bearer}
use Rattle.subscriber.specs.Alike.{SessionsKeepPlaces, MadeOnesAreAlike}

-- the bearers of a session have different lives, below the next one
apart_by : (bearers : List Bearer) → EachPair IsBefore bearers → AreDistinct (lives_in bearers)
apart_by [] pairs = tt
apart_by (b ∷ bs) pairs = (
  other_if b.life (lives_in bs) (λ m there same.
      let found = of_map (λ (c : Bearer). c.life) m bs there in
      (at_each (IsBefore b) found.0 bs pairs.0 found.1).lives_differ (same ∙ sym found.2)),
  apart_by bs pairs.1,
)

lived_by : (session : SessionState) → IsSession session → AreBearers session.bearers
    → AreLived session.lives session.bearers
lived_by session is are = record {
  apart = apart_by session.bearers are.apart;
  below = λ b there. at_each (λ (c : Bearer). c.life < session.lives) b session.bearers is.lives_below there;
}

pub sessions_keep : SessionsKeepPlaces
sessions_keep session command number next is are b c b_there c_there lives =
    let lived = lived_by session is are in
    let after = (controlled session command).0 in
    let same = same_bearer session after lived (session_goes session command lived) b c
    (in_contains b (actives session.bearers) b_there) (in_contains c (actives after.bearers) c_there) lives in
    (same.index, same.qos)

-- meters that gave the same buckets
abbrev taken_by : Bool → MetersState → ActiveBearer → List BucketState
taken_by g m b = cond g ((own_meter m b.index).up ∷ (own_meter m b.index).down ∷ []) []

record First (m n : MetersState) (b : ActiveBearer) (xs ys : List BucketState) (g : Bool) : Type 0 where
  rest : xs ≡ ys
  meter : g ≡ true → own_meter m b.index ≡ own_meter n b.index

first_taken : (g : Bool) (m n : MetersState) (b : ActiveBearer) (xs ys : List BucketState)
    → taken_by g m b ++ xs ≡ taken_by g n b ++ ys → First m n b xs ys g
first_taken true m n b xs ys same =
    let ups : (own_meter m b.index).up ≡ (own_meter n b.index).up = cc in
    let downs : (own_meter m b.index).down ≡ (own_meter n b.index).down = cc in
    let behind : xs ≡ ys = cc in
    record { rest = behind; meter = λ is. λ i. record { up = ups i; down = downs i } }
first_taken false m n b xs ys same = record { rest = same; meter = λ is. absurd (false≢true is) }

all_taken : (m n : MetersState) (bearers : List ActiveBearer)
    → flat_map (own_buckets m) bearers ≡ flat_map (own_buckets n) bearers
    → (c : ActiveBearer) → In c bearers → is_guaranteed c.qos.qci ≡ true → own_meter m c.index ≡ own_meter n c.index
all_taken m n [] same c there guaranteed = absurd there
all_taken m n (b ∷ bs) same c (inl here) guaranteed =
    let first = first_taken (is_guaranteed b.qos.qci) m n b (flat_map (own_buckets m) bs) (flat_map (own_buckets n) bs)
    same in
    subst (λ (x : ActiveBearer). own_meter m x.index ≡ own_meter n x.index) here
    (first.meter (ap (λ (x : ActiveBearer). is_guaranteed x.qos.qci) here ∙ guaranteed))
all_taken m n (b ∷ bs) same c (inr there) guaranteed =
    let first = first_taken (is_guaranteed b.qos.qci) m n b (flat_map (own_buckets m) bs) (flat_map (own_buckets n) bs)
    same in
    all_taken m n bs first.rest c there guaranteed

pub made_alike : MadeOnesAreAlike
made_alike version counters other pieces parts sized are made last buckets held alike =
    let m = counters.meters in
    let n = other.meters in
    let bearers = version.bearers in
    let all : m.shared.up ∷ m.shared.down ∷ flat_map (own_buckets m) bearers
    ≡ n.shared.up ∷ n.shared.down ∷ flat_map (own_buckets n) bearers = sym buckets ∙ made.parts_are.buckets in
    let ups : m.shared.up ≡ n.shared.up = cc in
    let downs : m.shared.down ≡ n.shared.down = cc in
    let rest : flat_map (own_buckets m) bearers ≡ flat_map (own_buckets n) bearers = cc in
    record {
      meters = record {
        sized = sized;
        others_sized = made.sized;
        shared = λ i. record { up = ups i; down = downs i };
        own = λ b there guaranteed. all_taken m n bearers rest b (in_contains b bearers there) guaranteed;
      };
      pieces_are = are;
      others_are = made.parts_are.pieces;
      pieces_alike = alike;
      held = sym held ∙ made.parts_are.held;
      last = sym last ∙ made.parts_are.last;
    }
