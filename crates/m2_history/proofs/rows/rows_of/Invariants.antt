use Rattle.std.proofs.Common.{◌≡◌, ◌++◌, map, drop}
use Rattle.m2_history.specs.Ends.{end_now}
use Rattle.m2_history.specs.Woven.{row_in, row_now, rows_of}
use Rattle.m2_history.proofs.rows.rows_of.Given as goal

-- those so far, and those that are left
abbrev pub invariant-loop-e : goal.invariant-loop-e
invariant-loop-e l = map row_now l.rows.items ++ map (row_in (map end_now l.ends)) (map end_now (drop l.e-index l.ends)) ≡ rows_of (map end_now l.ends)
