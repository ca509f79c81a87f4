use Rattle.std.proofs.Common.{◌≡◌, ◌<◌, List, [], ◌∷◌, length, refl, sym, ◌∙◌, ap, subst, arith, rules}
use Rattle.std.proofs.lemmas.List.{nil_from_length}
use Rattle.packet_steps.specs.declared.meters.Meter.{Meter}
use Rattle.packet_steps.specs.Meters.{own_in_use, MetersState}
use Rattle.packet_steps.proofs.OwnMeters.{state_of}
use Rattle.packet_steps.proofs.meters.Meters.keep_own.Goals as goal

-- eleven meters
abbrev eleven : Meter → List Meter
eleven none =
    none ∷ none ∷ none ∷ none ∷ none ∷ none ∷ none ∷ none ∷ none ∷ none ∷ none ∷ []

pub returns-clause-same : goal.returns-clause-same
returns-clause-same c =
    let own = c.args.self.now.own.items in
    let none : length own ≡ 0 = search rules in
    let state : List Meter → MetersState = λ all. state_of c.args.self.now.shared (own_in_use all) in
    ap state c.in_ok-own.ensures.items
    ∙ ap (λ meter. state (eleven meter)) c.new-none.ensures
    ∙ sym (ap state (nil_from_length own none))

pub returns-clause-kept : goal.returns-clause-kept
returns-clause-kept c = subst (λ (own : List Meter). 0 < length own) (sym c.in_ok-own.ensures.items) (omega arith)

pub returns-then-not-is_empty-clause-kept : goal.returns-then-not-is_empty-clause-kept
returns-then-not-is_empty-clause-kept c = grind arith
