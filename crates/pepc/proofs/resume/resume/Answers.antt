use Rattle.pepc.proofs.ResumeReports.{nothing_resumed, resumes_behind, rises_later, stops_first}
use Rattle.pepc.proofs.resume.resume.Goals as goal

pub returns-in-Err-clause-resumes : goal.returns-in-Err-clause-resumes
returns-in-Err-clause-resumes g c = nothing_resumed _ _ _

pub returns-in-Ok-state_before-clause-resumes : goal.returns-in-Ok-state_before-clause-resumes
returns-in-Ok-state_before-clause-resumes g c =
    resumes_behind _ _ _ _ _ _ _ _ _ _ (rises_later _ _ _ c.in-Ok-state_before.ensures.later)
    c.in-Ok-state_before.ensures.found c.go_on.ensures.runs

pub returns-clause-resumes : goal.returns-clause-resumes
returns-clause-resumes g c = stops_first _ _ _ _ _ c.in-Err-state_before.ensures.stopped
