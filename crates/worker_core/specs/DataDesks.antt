-- The desk of a worker of a slice's lane.
use Rattle.worker_core.specs.declared.desks.LaneDesk.{LaneDesk}
use Rattle.worker_core.specs.declared.data_order.DataOrder.{DataOrder}

abbrev pub DataDesk : Type 0 → Type 0 → Type 0
DataDesk H I = LaneDesk (DataOrder H I) H
