-- They are those of fast kinds and the others.
use Rattle.std.proofs.Common.{arith}
use Rattle.std.proofs.lemmas.Result.{IfOk-weaker}
use Rattle.m2_dispatch.specs.Heard.{heard_by}
use Rattle.m2_run.proofs.Leaves.{fast_over, messages_sum, queued_over}
use Rattle.m2_run.proofs.left.messages_in.Goals as goal

pub returns : goal.returns
returns g c =
    let cs = c.args.centers.now in
    let both = messages_sum c.args.from (heard_by (fast_over cs)) (heard_by (queued_over cs)) in
    IfOk-weaker c.sum.result _ _ (λ n e. omega (arith, both, c.in_ok-fast.ensures, c.in_ok-queued.ensures, e)) c.sum.ensures
