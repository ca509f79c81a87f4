-- A row that passes keeps what was forwarded within the rates.
use Rattle.std.proofs.Common.{◌≡◌, ◌≢◌, ℕ, ◌+◌, ◌==◌, ◌&&◌, Bool, true, false, not, if◌then◌else◌, List, [], ◌∷◌, ◌++◌, refl, sym, ap, ◌∙◌, subst, inl, inr}
use Rattle.std.specs.List.{filter}
use Rattle.std.proofs.lemmas.Bool.{false≢true, eqb-true, and_parts, not-true}
use Rattle.std.proofs.lemmas.List.{append-nil}
use Rattle.std.proofs.lemmas.List.Elements.{filter-append, filter_agree}
use Rattle.rate_policer.specs.declared.cost.Cost.{Cost}
use Rattle.rate_policer.specs.Conforming.{cost_of, Conforms, conforms, ArePoliced}
use Rattle.rate_policer.proofs.Testing.{conforming_tested}
use Rattle.rate_policer.proofs.Windows.{policed_none, policed_grow}
use Rattle.bearer_state.specs.declared.version.ActiveBearer.{ActiveBearer}
use Rattle.bearer_state.specs.Qos.{is_guaranteed}
use Rattle.bearer_state.specs.Version.{VersionState}
use Rattle.packet_steps.specs.Rows.{ForwardedRow}
use Rattle.packet_steps.specs.Past.{Past, moment_of, row_for}
use Rattle.packet_steps.specs.Policing.{mbr, ambr, same_way, is_of_life, is_of_rates, costs, rate_for, is_policed_with, history_for, passes}
use Rattle.gate_model.proofs.Members.{In, AreDistinct, one_of}
use Rattle.gate_model.proofs.BookSteps.{life_in, active_lives}

abbrev cost_for : ForwardedRow → Cost
cost_for row = cost_of row.octets row.at

-- rows behind a test, policed by a rate
abbrev pub PolicedBy : ℕ → (ForwardedRow → Bool) → List ForwardedRow → Type 0
PolicedBy rate test rows = ArePoliced rate (costs (filter test rows))

costs-push : (rows : List ForwardedRow) (row : ForwardedRow)
    → costs (rows ++ row ∷ []) ≡ costs rows ++ cost_for row ∷ []
costs-push [] row = refl
costs-push (r ∷ rows) row = ap (λ cs. cost_for r ∷ cs) (costs-push rows row)

filter_one : (test : ForwardedRow → Bool) (passed : Bool) (row : ForwardedRow) → test row ≡ passed
    → filter test (row ∷ []) ≡ (if passed then row ∷ [] else [])
filter_one test true row is = rw is refl
filter_one test false row is = rw is refl

-- a row that the test leaves out · a row that conforms
pub left_out : (rate : ℕ) (test : ForwardedRow → Bool) (rows : List ForwardedRow) (row : ForwardedRow)
    → test row ≡ false
    → PolicedBy rate test rows → PolicedBy rate test (rows ++ row ∷ [])
left_out rate test rows row out policed =
    let same : filter test (rows ++ row ∷ []) ≡ filter test rows =
    filter-append test rows (row ∷ []) ∙ ap (λ more. filter test rows ++ more) (filter_one test false row out)
    ∙ append-nil (filter test rows) in
    subst (λ (rs : List ForwardedRow). ArePoliced rate (costs rs)) (sym same) policed

pub let_in : (rate : ℕ) (test : ForwardedRow → Bool) (rows : List ForwardedRow) (row : ForwardedRow) → test row ≡ true
    → conforms rate (costs (filter test rows)) (cost_for row) ≡ true
    → PolicedBy rate test rows → PolicedBy rate test (rows ++ row ∷ [])
let_in rate test rows row in_ fits policed =
    let same : costs (filter test (rows ++ row ∷ [])) ≡ costs (filter test rows) ++ cost_for row ∷ [] =
    ap costs (filter-append test rows (row ∷ []) ∙ ap (λ more. filter test rows ++ more)
    (filter_one test true row in_)) ∙ costs-push (filter test rows) row in
    let conforming : Conforms rate (costs (filter test rows)) (cost_for row) =
    (conforming_tested rate (costs (filter test rows)) (cost_for row)).0 fits in
    subst (ArePoliced rate) (sym same) (policed_grow rate (costs (filter test rows)) (cost_for row) policed conforming)

pub none_left : (rate : ℕ) (test : ForwardedRow → Bool) (rows : List ForwardedRow)
    → ((row : ForwardedRow) → In row rows → test row ≡ false) → PolicedBy rate test rows
none_left rate test rows none =
    subst (λ (rs : List ForwardedRow). ArePoliced rate (costs rs)) (sym (empty test rows none)) (policed_none rate)
  where
    empty : (test : ForwardedRow → Bool) (rows : List ForwardedRow)
        → ((row : ForwardedRow) → In row rows → test row ≡ false) → filter test rows ≡ []
    empty test [] none = refl
    empty test (row ∷ rows) none = rw (none row (inl refl)) (empty test rows (λ r there. none r (inr there)))

-- what passes, by the kind of its bearer
history_own : (version : VersionState) (b : ActiveBearer) (up : Bool) (rows : List ForwardedRow)
    → is_guaranteed b.qos.qci ≡ true
    → history_for version b up rows ≡ filter (is_of_life b.life up) rows
history_own version b up rows is =
    filter_agree (is_policed_with version b up) (is_of_life b.life up) (λ row. rw is refl) rows

history_shared : (version : VersionState) (b : ActiveBearer) (up : Bool) (rows : List ForwardedRow)
    → is_guaranteed b.qos.qci ≡ false
    → history_for version b up rows ≡ filter (is_of_rates version.rates up) rows
history_shared version b up rows is =
    filter_agree (is_policed_with version b up) (is_of_rates version.rates up) (λ row. rw is refl) rows

rate_own : (version : VersionState) (b : ActiveBearer) (up : Bool) → is_guaranteed b.qos.qci ≡ true
    → rate_for version b up ≡ mbr up b.qos
rate_own version b up is = rw is refl

rate_shared : (version : VersionState) (b : ActiveBearer) (up : Bool) → is_guaranteed b.qos.qci ≡ false
    → rate_for version b up ≡ ambr up version
rate_shared version b up is = rw is refl

pub passes_own : (past : Past) (b : ActiveBearer) (up : Bool) (octets : ℕ) → is_guaranteed b.qos.qci ≡ true
    → passes past b up octets ≡ true
    → conforms (mbr up b.qos) (costs (filter (is_of_life b.life up) past.forwarded))
    (cost_of octets (moment_of past)) ≡ true
passes_own past b up octets is passed =
    let P : ℕ → List ForwardedRow → Type 0 = λ rate rows.
    conforms rate (costs rows) (cost_of octets (moment_of past)) ≡ true in
    subst (P (mbr up b.qos)) (history_own past.version b up past.forwarded is)
    (subst (λ rate. P rate (history_for past.version b up past.forwarded)) (rate_own past.version b up is) passed)

pub passes_shared : (past : Past) (b : ActiveBearer) (up : Bool) (octets : ℕ) → is_guaranteed b.qos.qci ≡ false
    → passes past b up octets ≡ true
    → conforms (ambr up past.version) (costs (filter (is_of_rates past.version.rates up) past.forwarded))
    (cost_of octets (moment_of past)) ≡ true
passes_shared past b up octets is passed =
    let P : ℕ → List ForwardedRow → Type 0 = λ rate rows.
    conforms rate (costs rows) (cost_of octets (moment_of past)) ≡ true in
    subst (P (ambr up past.version)) (history_shared past.version b up past.forwarded is)
    (subst (λ rate. P rate (history_for past.version b up past.forwarded)) (rate_shared past.version b up is) passed)

pub same_ways : (way up : Bool) → same_way way up ≡ true → way ≡ up
same_ways true true is = refl
same_ways true false is = absurd (false≢true is)
same_ways false true is = absurd (false≢true is)
same_ways false false is = refl

-- what is forwarded for a life of a guaranteed rate, and for the rates that are shared now
pub record ArePolicedNow (version : VersionState) (rows : List ForwardedRow) : Type 0 where
  pub own : (b : ActiveBearer) (up : Bool) → In b version.bearers → is_guaranteed b.qos.qci ≡ true
      → PolicedBy (mbr up b.qos) (is_of_life b.life up) rows
  pub shared : (up : Bool) → PolicedBy (ambr up version) (is_of_rates version.rates up) rows

-- a row of one bearer under the rows of a life with a rate of its own
own_goes_on : (past : Past) (b c : ActiveBearer) (way up : Bool) (octets : ℕ)
    → AreDistinct (active_lives past.version.bearers) → In b past.version.bearers → In c past.version.bearers
    → is_guaranteed c.qos.qci ≡ true → passes past b way octets ≡ true
    → PolicedBy (mbr up c.qos) (is_of_life c.life up) past.forwarded
    → (mine : Bool) → is_of_life c.life up (row_for past b way octets) ≡ mine
    → PolicedBy (mbr up c.qos) (is_of_life c.life up) (past.forwarded ++ row_for past b way octets ∷ [])
own_goes_on past b c way up octets apart b_there c_there guaranteed passed policed false is =
    left_out (mbr up c.qos) (is_of_life c.life up) past.forwarded (row_for past b way octets) is policed
own_goes_on past b c way up octets apart b_there c_there guaranteed passed policed true is =
    let parts = and_parts (b.life == c.life) (same_way way up) is in
    let same : b ≡ c = one_of life_in b c past.version.bearers apart b_there c_there (eqb-true b.life c.life parts.0) in
    let ways : way ≡ up = same_ways way up parts.1 in
    let passed_here : passes past c up octets ≡ true =
    subst (λ w. passes past c w octets ≡ true) ways (subst (λ d. passes past d way octets ≡ true) same passed) in
    let_in (mbr up c.qos) (is_of_life c.life up) past.forwarded (row_for past b way octets) is
    (passes_own past c up octets guaranteed passed_here) policed

-- and under those of the rates that are shared
shared_goes_on : (past : Past) (b : ActiveBearer) (way up : Bool) (octets : ℕ) → passes past b way octets ≡ true
    → PolicedBy (ambr up past.version) (is_of_rates past.version.rates up) past.forwarded
    → (mine : Bool) → is_of_rates past.version.rates up (row_for past b way octets) ≡ mine
    → PolicedBy (ambr up past.version) (is_of_rates past.version.rates up) (past.forwarded
    ++ row_for past b way octets ∷ [])
shared_goes_on past b way up octets passed policed false is =
    left_out (ambr up past.version) (is_of_rates past.version.rates up) past.forwarded
    (row_for past b way octets) is policed
shared_goes_on past b way up octets passed policed true is =
    let parts = and_parts (not (is_guaranteed b.qos.qci)) (past.version.rates == past.version.rates
    && same_way way up) is in
    let ways : way ≡ up = same_ways way up (and_parts (past.version.rates == past.version.rates)
    (same_way way up) parts.1).1 in
    let passed_here : passes past b up octets ≡ true = subst (λ w. passes past b w octets ≡ true) ways passed in
    let_in (ambr up past.version) (is_of_rates past.version.rates up) past.forwarded (row_for past b way octets) is
    (passes_shared past b up octets (not-true (is_guaranteed b.qos.qci) parts.0) passed_here) policed

pub policed_goes_on : (past : Past) (b : ActiveBearer) (way : Bool) (octets : ℕ)
    → AreDistinct (active_lives past.version.bearers) → In b past.version.bearers
    → passes past b way octets ≡ true → ArePolicedNow past.version past.forwarded
    → ArePolicedNow past.version (past.forwarded ++ row_for past b way octets ∷ [])
policed_goes_on past b way octets apart there passed policed = record {
  own = λ c up c_there guaranteed. own_goes_on past b c way up octets apart there c_there guaranteed passed
      (policed.own c up c_there guaranteed)
      (is_of_life c.life up (row_for past b way octets)) refl;
  shared = λ up. shared_goes_on past b way up octets passed (policed.shared up)
      (is_of_rates past.version.rates up (row_for past b way octets)) refl;
}
