-- A script's run, and what holds of it between any two of its deeds.
pub use Rattle.m2_promise.specs.Kept.{IsKept, run_in}
pub use Rattle.m2_script.specs.Started.{IsFirst, IsScriptRun}
