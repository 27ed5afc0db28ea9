use Rattle.std.proofs.Common.{rules, arith, ℕ, ◌≡◌, ◌<◌, ◌∙◌, vec_len, subst, get_or, length}
use Rattle.std.specs.Prelude.{IfOk}
use Rattle.std.proofs.lemmas.Result.{IfOk-weaker}
use Rattle.claim_run.specs.Runs.{IsDoneBy}
use Rattle.claim_run.proofs.Gathering.{pick_any}
use Rattle.claim_run.proofs.threads.fn.run_threads.scope.Goals as goal

pub returns : goal.returns
returns g c =
    let joined = c.join_all.ensures in
    let started = c.in_ok-threads.ensures in
    let begins = g.S.Scout.begins in
    let finds = g.S.Scout.finds in
    let value = g.J.Job.value in
    record {
      count = IfOk-weaker c.join_all.result _ _ (λ v n. n ∙ started.count) joined.count;
      each = IfOk-weaker c.join_all.result _ _ (λ v all k d low.
          let within : k < vec_len c.in_ok-threads.threads = omega (arith, low, started.count) in
          let within_items : k < length c.in_ok-threads.threads.items = omega (arith, within, c.in_ok-threads.threads.ok) in
          pick_any c.in_ok-threads.threads.items k within_items (λ e.
          let p = (get_or c.in_ok-threads.threads.items k e).promise in
          let here = subst (λ (b : _). IfOk (get_or v.items k d) (λ done. IsDoneBy begins finds value b p.job.now done)) (started.board k e low) (all k d e within) in
          subst (λ (j : _). IfOk (get_or v.items k d) (λ done. IsDoneBy begins finds value c.captures.board.now j done)) (started.job k e low) here)) joined.each;
    }
