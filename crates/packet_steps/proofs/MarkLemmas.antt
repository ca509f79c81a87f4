-- What the book hears of a change, as postings.
use Rattle.std.proofs.Common.{◌≡◌, ℕ, ◌+◌, ◌<◌, Bool, true, false, not, cond, List, [], ◌∷◌, ◌++◌, length, map, filter, take, get_or, refl, ◌∙◌, ap}
use Rattle.std.proofs.lemmas.List.{map-append}
use Rattle.std.proofs.lemmas.List.Elements.{filter-append}
use Rattle.charging_book.specs.Postings.{happening_of}
use Rattle.charging_book.specs.declared.accounts.posting.Posting.{Posting}
use Rattle.charging_book.specs.declared.accounts.posting.Posting.TheVariants.{Start, Close}
use Rattle.charging_book.specs.declared.records.Why.TheVariants.{Qos, Gone}
use Rattle.bearer_state.specs.declared.version.ActiveBearer.{ActiveBearer}
use Rattle.packet_steps.specs.Change.{has_life, shares_ambr, shared_with, lacking_in, ended, cut, begun, marks_between}
use Rattle.packet_steps.proofs.ListLemmas.{map_map, take_item}

abbrev closing : ActiveBearer → Posting
closing bearer = Close bearer.life Gone

abbrev pub cutting : ActiveBearer → Posting
cutting bearer = Close bearer.life Qos

abbrev pub starting : ActiveBearer → Posting
starting bearer = Start bearer.life bearer.ebi bearer.qos.qci

pieces_are : (was_set : Bool) (before after : List ActiveBearer)
    → map happening_of (cond was_set (map cutting (filter shares_ambr (shared_with after before))) [])
    ≡ cut was_set before after
pieces_are true before after = map_map happening_of cutting (filter shares_ambr (shared_with after before))
pieces_are false before after = refl

pub marks_joined : (was_set : Bool) (before after : List ActiveBearer) (first pieces lives all : List Posting)
    → first ≡ map closing (lacking_in after before)
    → pieces ≡ cond was_set (map cutting (filter shares_ambr (shared_with after before))) []
    → lives ≡ map starting (lacking_in before after)
    → all ≡ (first ++ pieces) ++ lives → map happening_of all ≡ marks_between was_set before after
marks_joined was_set before after first pieces lives all first_is pieces_is lives_is all_is =
    let one : map happening_of first ≡ ended before after = ap (map happening_of) first_is
    ∙ map_map happening_of closing (lacking_in after before) in
    let two : map happening_of pieces ≡ cut was_set before after = ap (map happening_of) pieces_is
    ∙ pieces_are was_set before after in
    let three : map happening_of lives ≡ begun before after = ap (map happening_of) lives_is
    ∙ map_map happening_of starting (lacking_in before after) in
    ap (map happening_of) all_is ∙ map-append happening_of (first ++ pieces) lives
    ∙ ap (λ xs. xs ++ map happening_of lives) (map-append happening_of first pieces)
    ∙ ap (λ xs. (xs ++ map happening_of pieces) ++ map happening_of lives) one
    ∙ ap (λ xs. (ended before after ++ xs) ++ map happening_of lives) two
    ∙ ap (λ xs. (ended before after ++ cut was_set before after) ++ xs) three

-- one bearer more
pub cut_more : (before after : List ActiveBearer) (i : ℕ) (bearer : ActiveBearer) → i < length before
    → bearer ≡ get_or before i bearer
    → map cutting (filter shares_ambr (shared_with after (take (i + 1) before)))
    ≡ map cutting (filter shares_ambr (shared_with after (take i before)))
    ++ map cutting (filter shares_ambr (shared_with after (bearer ∷ [])))
cut_more before after i bearer within is =
    let seen = take i before in
    ap (λ xs. map cutting (filter shares_ambr (shared_with after xs))) (take_item before i bearer within is)
    ∙ ap (λ xs. map cutting (filter shares_ambr xs))
    (filter-append (λ (b : ActiveBearer). has_life after b.life) seen (bearer ∷ []))
    ∙ ap (map cutting) (filter-append shares_ambr (shared_with after seen) (shared_with after (bearer ∷ [])))
    ∙ map-append cutting (filter shares_ambr (shared_with after seen))
    (filter shares_ambr (shared_with after (bearer ∷ [])))

pub begun_more : (before after : List ActiveBearer) (i : ℕ) (bearer : ActiveBearer) → i < length after
    → bearer ≡ get_or after i bearer
    → map starting (lacking_in before (take (i + 1) after))
    ≡ map starting (lacking_in before (take i after)) ++ map starting (lacking_in before (bearer ∷ []))
begun_more before after i bearer within is =
    let seen = take i after in
    ap (λ xs. map starting (lacking_in before xs)) (take_item after i bearer within is)
    ∙ ap (map starting) (filter-append (λ (b : ActiveBearer). not (has_life before b.life)) seen (bearer ∷ []))
    ∙ map-append starting (lacking_in before seen) (lacking_in before (bearer ∷ []))
