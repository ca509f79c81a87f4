-- The message types that are known (TS 29.274, table 6.1-1): a request, and one more, its answer.
use Rattle.std.specs.Prelude.{ℕ, ◌+◌, ◌-◌, Bool, ◌||◌, List, [], ◌∷◌, ◌==◌}
use Rattle.std.specs.List.{list_any}

-- Echo; Create Session, Modify Bearer, Delete Session; Create, Update and Delete Bearer; Release
-- Access Bearers; Downlink Data Notification
abbrev pub requests : List ℕ
requests = 1 ∷ 32 ∷ 34 ∷ 36 ∷ 95 ∷ 97 ∷ 99 ∷ 170 ∷ 176 ∷ []

unfoldable pub is_request : ℕ → Bool
is_request kind = list_any (λ request. request == kind) requests

-- the type of the answer to a request
abbrev pub answer_of : ℕ → ℕ
answer_of request = request + 1

unfoldable pub is_kind : ℕ → Bool
is_kind kind = is_request kind || is_request (kind - 1)
