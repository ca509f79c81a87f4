-- The first rank of filters, found from the start: the first one so far counts with what follows.
use Rattle.std.proofs.Common.{◌≡◌, ℕ, Bool, true, false, cond, ◌+◌, ◌<◌, List, [], ◌∷◌, length, get_or, drop, Option, Some, None, refl, sym, ap, ◌∙◌, arith}
use Rattle.std.proofs.lemmas.Bool.Decides.{nat_tests}
use Rattle.std.proofs.lemmas.List.{at_drop_more}
use Rattle.tft_match.specs.declared.direction.Direction.TheVariants.{Down}
use Rattle.tft_match.specs.Choice.{Rank}
use Rattle.tft_match.specs.Chosen.{is_before, earlier_of, first_of, candidate_ranks}
use Rattle.tft_match.specs.Fit.{fits}
use Rattle.gtp_c_base.specs.Filter.{filter_said}
use Rattle.gtp_c_base.specs.declared.filter.TftFilter.{TftFilter}
use Rattle.gtp_c.specs.Choice.{leads, rows_said}

abbrev pub rank_said : TftFilter → Rank
rank_said said = (said.precedence, said.bearer, said.id)

abbrev ranks_of : List ℕ → List TftFilter → List Rank
ranks_of packet filters = candidate_ranks (rows_said filters) packet

abbrev joined : Option Rank → Option Rank → Option Rank
joined None later = later
joined (Some rank) later = Some (earlier_of rank later)

-- the first rank of one so far and of the filters behind it
abbrev pub first_with : List ℕ → Option Rank → List TftFilter → Option Rank
first_with packet first filters = joined first (first_of (ranks_of packet filters))

abbrev some : Rank → Option Rank
some rank = Some rank

-- ---- the order

before_trans : (a b c : Rank) → is_before a b ≡ true → is_before b c ≡ true → is_before a c ≡ true
before_trans a b c first second = grind (arith, nat_tests)

not_before_trans : (a b c : Rank) → is_before a b ≡ false → is_before b c ≡ false → is_before a c ≡ false
not_before_trans a b c first second = grind (arith, nat_tests)

leads_some : (rank other later : Rank) (test : Bool) → is_before later rank ≡ test → is_before rank other ≡ true
    → earlier_of other (Some (cond test later rank)) ≡ cond test later rank
leads_some rank other later true is leads = rw (before_trans later rank other is leads) refl
leads_some rank other later false is leads = rw leads refl

-- a rank before the first one so far stands in its place
leads_all : (rank other : Rank) (later : Option Rank) → is_before rank other ≡ true
    → earlier_of other (Some (earlier_of rank later)) ≡ earlier_of rank later
leads_all rank other None leads = rw leads refl
leads_all rank other (Some later) leads = leads_some rank other later (is_before later rank) refl leads

follows_some : (rank other later : Rank) (test : Bool) → is_before later rank ≡ test → is_before rank other ≡ false
    → earlier_of other (Some (cond test later rank)) ≡ earlier_of other (Some later)
follows_some rank other later true is follows = refl
follows_some rank other later false is follows =
    rw (follows, not_before_trans later rank other is follows) refl

-- one behind it doesn't count
follows_first : (rank other : Rank) (later : Option Rank) → is_before rank other ≡ false
    → earlier_of other (Some (earlier_of rank later)) ≡ earlier_of other later
follows_first rank other None follows = rw follows refl
follows_first rank other (Some later) follows = follows_some rank other later (is_before later rank) refl follows

-- ---- one filter

ranks_fit : (packet : List ℕ) (filter : TftFilter) (rest : List TftFilter) → fits Down packet (filter_said filter) ≡ true
    → ranks_of packet (filter ∷ rest) ≡ rank_said filter ∷ ranks_of packet rest
ranks_fit packet filter rest fit = rw fit refl

ranks_unfit : (packet : List ℕ) (filter : TftFilter) (rest : List TftFilter)
    → fits Down packet (filter_said filter) ≡ false → ranks_of packet (filter ∷ rest) ≡ ranks_of packet rest
ranks_unfit packet filter rest unfit = rw unfit refl

pub fitted : (packet : List ℕ) (first : Option Rank) (filter : TftFilter) (rest : List TftFilter)
    → leads (rank_said filter) first ≡ true → fits Down packet (filter_said filter) ≡ true
    → first_with packet (Some (rank_said filter)) rest ≡ first_with packet first (filter ∷ rest)
fitted packet None filter rest lead fit = sym (ap first_of (ranks_fit packet filter rest fit))
fitted packet (Some other) filter rest lead fit =
    sym (ap (λ ranks. joined (Some other) (first_of ranks)) (ranks_fit packet filter rest fit)
    ∙ ap some (leads_all (rank_said filter) other (first_of (ranks_of packet rest)) lead))

pub unfit : (packet : List ℕ) (first : Option Rank) (filter : TftFilter) (rest : List TftFilter)
    → fits Down packet (filter_said filter) ≡ false
    → first_with packet first rest ≡ first_with packet first (filter ∷ rest)
unfit packet first filter rest not_fit =
    sym (ap (λ ranks. joined first (first_of ranks)) (ranks_unfit packet filter rest not_fit))

behind_some : (packet : List ℕ) (other : Rank) (filter : TftFilter) (rest : List TftFilter) (test : Bool)
    → fits Down packet (filter_said filter) ≡ test → is_before (rank_said filter) other ≡ false
    → first_with packet (Some other) rest ≡ first_with packet (Some other) (filter ∷ rest)
behind_some packet other filter rest true fit follows =
    sym (ap (λ ranks. joined (Some other) (first_of ranks)) (ranks_fit packet filter rest fit)
    ∙ ap some (follows_first (rank_said filter) other (first_of (ranks_of packet rest)) follows))
behind_some packet other filter rest false not_fit follows = unfit packet (Some other) filter rest not_fit

pub behind : (packet : List ℕ) (first : Option Rank) (filter : TftFilter) (rest : List TftFilter)
    → leads (rank_said filter) first ≡ false
    → first_with packet first rest ≡ first_with packet first (filter ∷ rest)
behind packet None filter rest follows = absurd cc
behind packet (Some other) filter rest follows =
    behind_some packet other filter rest (fits Down packet (filter_said filter)) refl follows

pub no_more : (packet : List ℕ) (first : Option Rank) → first_with packet first [] ≡ first
no_more packet None = refl
no_more packet (Some rank) = refl

pub looked_at : (packet : List ℕ) (first : Option Rank) (filters : List TftFilter) (at : ℕ) (none : TftFilter)
    → at < length filters
    → first_with packet first (get_or filters at none ∷ drop (at + 1) filters) ≡ first_with packet first (drop at filters)
looked_at packet first filters at none within = sym (at_drop_more (first_with packet first) filters at none within)
