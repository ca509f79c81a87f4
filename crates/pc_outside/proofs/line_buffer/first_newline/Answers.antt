use Rattle.std.proofs.Common.{◌≡◌, ◌+◌, ◌-◌, ◌*◌, ◌/◌, length, subst, arith}
use Rattle.std.proofs.lemmas.List.Edits.{length-between}
use Rattle.memchr.specs.Find.{Nowhere, Passes, is_byte}
use Rattle.pc_outside.proofs.RoundLemmas.{none_on, found_behind}
use Rattle.pc_outside.proofs.line_buffer.first_newline.Goals as goal

pub returns-in-Some : goal.returns-in-Some
returns-in-Some c =
    found_behind c.args.octets.now _ _ c.in-Some.place (omega arith) (omega arith) c.loop-round.invariant
    c.in-Some.ensures

pub loop-round-preserved : goal.loop-round-preserved
loop-round-preserved c =
    let octets = c.args.octets.now in
    let at = 64 * c.loop-round.round in
    let next : at + 64 ≡ 64 * (c.loop-round.round + 1) = omega arith in
    subst (λ n. Nowhere (Passes (is_byte 10) octets) 0 n) next
    (none_on octets at (at + 64) 64 (omega arith) (omega arith) c.loop-round.invariant
    (λ k low below. c.in_default.ensures k low (omega arith)))

pub returns-in-Some-memchr : goal.returns-in-Some-memchr
returns-in-Some-memchr c =
    let octets = c.args.octets.now in
    let at : 64 * c.loop-round.round ≡ 64 * (length octets / 64) = omega arith in
    found_behind octets _ (length octets) c.in-Some-memchr.place (omega arith) (omega arith)
    (subst (λ n. Nowhere (Passes (is_byte 10) octets) 0 n) at c.loop-round.invariant) c.in-Some-memchr.ensures

pub returns-in-None : goal.returns-in-None
returns-in-None c =
    let octets = c.args.octets.now in
    let at = 64 * (length octets / 64) in
    let here : 64 * c.loop-round.round ≡ at = omega arith in
    let rest : at + (length octets - at) ≡ length octets = omega arith in
    subst (λ n. Nowhere (Passes (is_byte 10) octets) 0 n) rest
    (none_on octets at (length octets) (length octets - at) (omega arith) (omega arith)
    (subst (λ n. Nowhere (Passes (is_byte 10) octets) 0 n) here c.loop-round.invariant)
    (λ k low below. c.in-None.ensures k low
    (omega (arith, below, length-between octets at (length octets) (omega arith)))))
