-- A scenario's script has one run, but for want of memory. This project's own.
use Rattle.std.specs.Prelude.{◌≡◌, List, length}
use Rattle.m2_dispatch.specs.Heard.{heard_by}
use Rattle.m2_dispatch.specs.declared.logged.Logged.{Logged}
use Rattle.m2_scenario.specs.declared.line.Line.{Line}
use Rattle.m2_scenario.specs.declared.link.Link.{Link}
use Rattle.m2_scenario.specs.declared.node.Node.{Node}
use Rattle.m2_script.specs.Apart.{EndsStayApart}
use Rattle.m2_script.specs.Outcome.{all_heard, is_up, left_in}
use Rattle.m2_script.specs.Script.{RunNow, script_of}
use Rattle.m2_script.specs.Started.{IsFirst, IsScriptRun}
use Rattle.m2_exact.specs.Deeds.{AreAlike, HasFitNodes}

-- ---- the beginning

-- New nodes of one scenario are alike, and fit.
pub record FirstIsOne : Type 0 where
  pub alike : (nodes : List Node) (links : List Link) (lines : List Line) (s t : RunNow (List Logged)) → IsFirst nodes links lines s → IsFirst nodes links lines t → AreAlike heard_by s t
  pub fit : (nodes : List Node) (links : List Link) (lines : List Line) (s : RunNow (List Logged)) → IsFirst nodes links lines s → HasFitNodes s

-- ---- the end

-- what is printed of two runs is the same: what the dispatchers of each node were called with, and how many posts are left
pub record IsToldTheSame (links : List Link) (s t : RunNow (List Logged)) : Type 0 where
  pub heard : all_heard heard_by s ≡ all_heard heard_by t
  pub left : left_in heard_by links s ≡ left_in heard_by links t
  pub up : (l : Link) → is_up s l ≡ is_up t l

pub record LikeRunsAreToldAlike : Type 0 where
  pub told : (links : List Link) (s t : RunNow (List Logged)) → AreAlike heard_by s t → IsToldTheSame links s t

-- ---- the script

-- But for want of memory, two runs of one scenario come to the same, and the same is told of them, where along the one each socket has one
-- end at most at each node. So it is along that of a valid scenario, whose nodes are apart.
pub record RunsAreOne (E : Type 0) : Type 0 where
  pub alike : (nodes : List Node) (links : List Link) (lines : List Line) (first last one other : RunNow (List Logged)) → EndsStayApart E heard_by (script_of links (length nodes) lines) first →
      IsScriptRun E nodes links lines first last → IsScriptRun E nodes links lines one other → AreAlike heard_by last other
  pub told : (nodes : List Node) (links : List Link) (lines : List Line) (first last one other : RunNow (List Logged)) → EndsStayApart E heard_by (script_of links (length nodes) lines) first →
      IsScriptRun E nodes links lines first last → IsScriptRun E nodes links lines one other → IsToldTheSame links last other
