-- A front with its own workers stays one.
use Rattle.std.proofs.Common.{◌≡◌, List, map, sym, ap, subst, ◌∙◌}
use Rattle.trace_lines.specs.Line.{Line}
use Rattle.lawful_run.specs.Merging.{Histories}
use Rattle.at_rest.specs.Rest.{IsBehind, RepresentsAll, Rest}
use Rattle.worker_core.specs.Workers as control_worker
use Rattle.worker_core.specs.DataWorkers as data_worker
use Rattle.front_core.specs.declared.opening.Opened.{Opened}
use Rattle.front_core.specs.Words.{IsWhole, control_lanes, first_slices, data_lanes, opened_of}
use Rattle.check_fronts.specs.Benches.{IsOpen}

pub opens : (made : Opened) (rest : Rest) (prior : List Line) (before : Histories) → IsWhole made.front
    → control_lanes made.front ≡ map control_worker.worker_lanes made.controls.items
    → data_lanes made.front ≡ map data_worker.worker_lanes made.datas.items
    → map data_worker.place_of made.datas.items ≡ first_slices rest.slices → opened_of made.front ≡ rest
    → IsBehind rest prior → RepresentsAll rest before → IsOpen made
opens made rest prior before whole controls datas places same behind represents = record {
  workers = record {
    whole = whole;
    controls = controls;
    datas = datas;
    places = places ∙ ap (λ (r : Rest). first_slices r.slices) (sym same);
  };
  prior = prior;
  behind = subst (λ (r : Rest). IsBehind r prior) (sym same) behind;
  before = before;
  represents = subst (λ (r : Rest). RepresentsAll r before) (sym same) represents;
}

-- behind a line, and behind turns of its workers
pub stays_open : (old new : Opened) → IsOpen old → IsWhole new.front → opened_of new.front ≡ opened_of old.front
    → control_lanes new.front ≡ control_lanes old.front → data_lanes new.front ≡ data_lanes old.front
    → map control_worker.worker_lanes new.controls.items ≡ map control_worker.worker_lanes old.controls.items
    → map data_worker.worker_lanes new.datas.items ≡ map data_worker.worker_lanes old.datas.items
    → map data_worker.place_of new.datas.items ≡ map data_worker.place_of old.datas.items → IsOpen new
stays_open old new is whole same controls datas control_workers data_workers places =
    opens new (opened_of old.front) is.prior is.before whole
    (controls ∙ is.workers.controls ∙ sym control_workers) (datas ∙ is.workers.datas ∙ sym data_workers)
    (places ∙ is.workers.places) same is.behind is.represents
