use Rattle.std.proofs.Common.{◌≡◌, map, vec_len}
use Rattle.worker_core.specs.Turns.{AreTurned, NoneWorked}
use Rattle.worker_core.specs.Answered.{AllRest}
use Rattle.worker_core.proofs.turning.turn_some.Given as goal

abbrev pub invariant-loop-i : goal.invariant-loop-i
invariant-loop-i g l =
    (map g.H.Traveller.name l.held.items ≡ map g.H.Traveller.name l.fn.held.items)
    × (vec_len l.held ≡ vec_len l.fn.held)
    × AreTurned g.H.Traveller.turns g.H.Traveller.turned_at l.place l.from l.i l.fn.held.items l.held.items
    × NoneWorked g.H.Traveller.works l.fn.held.items l.held.items
    × AllRest (g.H.Traveller.came_to 8) l.from l.i l.fn.held.items l.held.items
