use Rattle.pepc.proofs.along.along.Goals as goal

pub returns-clause-audits : goal.returns-clause-audits
returns-clause-audits g c = record {
  one = c.audit_along.result;
  ends = c.status_of.ensures.status;
  goes = c.audit_along.ensures.goes;
}
