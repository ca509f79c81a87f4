use Rattle.std.proofs.Common.{◌≡◌, ◌-◌, ◌∙◌, ◌++◌, ◌∷◌, [], All, length, suc, refl, ap, sym, subst, arith}
use Rattle.audit_core.specs.Belonging.{AreRunsFrom, IsRunOf, epochs_of}
use Rattle.audit_core.specs.declared.report.Run.{Run}
use Rattle.audit_core.specs.declared.sharing.Keyed.{Keyed}
use Rattle.audit_core.proofs.RunLemmas.{each_longer, each_new, longer_epochs, longer_follow, runs_push, same_item}
use Rattle.audit_core.proofs.report.Report.add.Goals as goal

pub returns-then-index-key-clause-follow : goal.returns-then-index-key-clause-follow
returns-then-index-key-clause-follow c = λ follow many_epochs.
    let runs = c.args.self.now.runs in
    let m = c.len-runs.result - 1 in
    let many : length runs.items ≡ suc m = let a = runs.ok in omega (arith, c.len-runs.ensures, c.if-runs-gt0.true) in
    longer_follow runs.items m c.index_mut.result.now _ many c.index_mut.ensures.value refl refl refl follow

pub returns-then-index-key-clause-epochs : goal.returns-then-index-key-clause-epochs
returns-then-index-key-clause-epochs c =
    let runs = c.args.self.now.runs in
    let m = c.len-runs.result - 1 in
    let last = c.index_mut.result.now in
    let many : length runs.items ≡ suc m = let a = runs.ok in omega (arith, c.len-runs.ensures, c.if-runs-gt0.true) in
    let key : last.key ≡ c.args.epoch =
    ap (λ (r : Keyed Run). r.key) (same_item runs.items m last c.index.result.now (omega (arith, many))
    c.index_mut.ensures.value c.index.ensures) ∙ c.if-index-key.true in
    longer_epochs runs.items m last _ many c.index_mut.ensures.value refl refl refl
    ∙ ap (λ k. epochs_of runs.items ++ k ∷ []) key

pub returns-then-index-key-clause-each : goal.returns-then-index-key-clause-each
returns-then-index-key-clause-each c = λ entries one is count each.
    let runs = c.args.self.now.runs in
    let m = c.len-runs.result - 1 in
    let many : length runs.items ≡ suc m = let a = runs.ok in omega (arith, c.len-runs.ensures, c.if-runs-gt0.true) in
    each_longer c.args.self.now.texts c.push.new.self c.args.text.now entries one c.in_ok-push.ensures is runs.items m
    c.index_mut.result.now _ many c.index_mut.ensures.value refl refl refl each

pub returns-clause-follow : goal.returns-clause-follow
returns-clause-follow c = λ follow many.
    subst (AreRunsFrom 0) (sym c.in_ok-push-2.ensures.items)
    (runs_push 0 c.args.self.now.runs.items _ follow (omega (arith, many)))

pub returns-clause-each : goal.returns-clause-each
returns-clause-each c = λ entries one is count each.
    subst (All (λ (run : Keyed Run). IsRunOf c.push.new.self (entries ++ one ∷ []) run.item))
    (sym c.in_ok-push-2.ensures.items)
    (each_new c.args.self.now.texts c.push.new.self c.args.text.now entries one c.in_ok-push.ensures is
    c.args.self.now.runs.items _ (sym count) refl c.end-from.ensures.keeps each)
