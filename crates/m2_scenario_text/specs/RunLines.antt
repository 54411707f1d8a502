-- The lines of `run` alone: `off A` and `limit MS`.
use Rattle.std.specs.Prelude.{not, List, is_none, Result, Ok}
use Rattle.std.specs.List.{list_any}
use Rattle.m2_scenario.specs.Text.{Word, word}
use Rattle.m2_scenario_text.specs.declared.run_lines.TheConstants.{MOST_LIMIT}
use Rattle.m2_scenario.specs.Draft.{Draft, without_start, with_limit, is_step_of}
use Rattle.m2_scenario_text.specs.declared.flaw.Flaw.{Flaw}
use Rattle.m2_scenario_text.specs.declared.flaw.Wanted.TheVariants as wanted
use Rattle.m2_scenario_text.specs.Flaw.{◌>>=◌, counted, number_at, want, want_first}
use Rattle.m2_scenario_text.specs.Pair.{place_of}

-- a node can't be off that has a step above
unfoldable pub off_line : Draft → List Word → Result Draft Flaw
off_line d ws = do
  _ ← counted 1 1 ws
  a ← place_of 0 d.nodes (word ws 0)
  _ ← want 0 wanted.NodeWithoutPlan (not (list_any (is_step_of a) d.lines))
  Ok (without_start a d)

unfoldable pub limit_line : Draft → List Word → Result Draft Flaw
limit_line d ws = do
  _ ← counted 1 1 ws
  _ ← want_first wanted.LimitOnce (is_none d.limit)
  milliseconds ← number_at 0 1 MOST_LIMIT (word ws 0)
  Ok (with_limit milliseconds d)
