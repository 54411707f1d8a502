-- A script's run keeps what a run keeps between any two deeds.
use Rattle.m2_promise.proofs.post_laws.promises_are_kept.Goals as goal

pub returns : goal.returns
returns g c = λ nodes links lines first last sound types run.
    let kept = c.script_run_is_kept.ensures nodes links lines first last sound run in c.kept_is_promised.ensures nodes links lines last sound types kept.0 kept.1 (c.calls_are_noted.ensures nodes links lines first last run)
