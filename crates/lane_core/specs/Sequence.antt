-- The order in which a lane's items go through it.
use Rattle.std.specs.Prelude.{◌≡◌, ℕ, ◌^◌, ◌≤◌, Bool, true, List, ◌∷◌, ◌++◌, length}
use mathlib.Core.Option.{some}
use lib.ListN.{get_elem?}
use Rattle.lane_core.specs.declared.sequence.EndLog.{EndLog}

-- each item may follow those before it
abbrev pub Lawful : {T : Type 0} → (List T → T → Type 0) → List T → Type 0
Lawful {T} follows items =
    (before : List T) (item : T) (after : List T) → items ≡ before ++ item ∷ after → follows before item

abbrev pub log : {T : Type 0} → Bool → Bool → List T → List T → EndLog T
log pushes pops sent got = record { pushes = pushes; pops = pops; sent = sent; got = got }

-- the end that pushes is the writer and knows what was sent, the end that pops the reader, and knows what was taken
abbrev pub Fits : {T : Type 0} → ℕ → ℕ → List T → List T → ℕ → EndLog T → Type 0
Fits writer reader sent got port v =
    (v.pushes ≡ true → (port ≡ writer) × (v.sent ≡ sent)) × (v.pops ≡ true → (port ≡ reader) × (v.got ≡ got))

-- what was sent is what was taken and then what the queue holds
pub record Laid {T : Type 0} (follows : List T → T → Type 0) (items : List T) (views : List (EndLog T)) : Type 0 where
  pub writer : ℕ
  pub reader : ℕ
  pub sent : List T
  pub got : List T
  pub in_order : sent ≡ got ++ items
  pub few : length sent ≤ 2 ^ 50
  pub lawful : Lawful follows sent
  pub views_fit : (port : ℕ) (v : EndLog T) → get_elem? views port ≡ some v → Fits writer reader sent got port v
