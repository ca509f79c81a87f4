-- Where the halves of a worker were noted, and the first of them that passes.
use Rattle.std.specs.Prelude.{◌≡◌, ℕ, ◌+◌, ◌<◌, if◌then◌else◌, nat_lt, Option, None, Some, List, length}
use Rattle.std.specs.Prelude.{slice_get, slice_index_or}
use Rattle.worker_core.specs.declared.seen.Seen.{Seen}

-- where the half of a slot was noted last
abbrev pub noted_at : Seen → ℕ → Option ℕ
noted_at seen slot = slice_get seen.at.items slot

module _ {H : Type 0} (slot_at : H → ℕ) where
  -- each half stands where one of its slot was noted last: so no two are of one slot
  abbrev pub AllSeen : List H → Seen → Type 0
  AllSeen held seen = (k : ℕ) (none : H) → k < length held → noted_at seen (slot_at (slice_index_or held k none))
      ≡ Some k

  -- the same, but that from this index on each stands one further to the front
  abbrev pub SeenBehind : ℕ → List H → Seen → Type 0
  SeenBehind from held seen = (k : ℕ) (none : H) → k < length held
      → noted_at seen (slot_at (slice_index_or held k none)) ≡ Some (if nat_lt k from then k else k + 1)

-- the lower of two indices, where there are two
abbrev pub earlier : Option ℕ → Option ℕ → Option ℕ
earlier None other = other
earlier (Some one) None = Some one
earlier (Some one) (Some other) = Some (if nat_lt other one then other else one)
