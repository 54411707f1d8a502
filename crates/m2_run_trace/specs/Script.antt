-- The lines of a scenario's text as a trace has them. This project's own.
use Rattle.std.specs.Prelude.{Bool, true, false, if◌then◌else◌, List, [], ◌∷◌, ◌++◌, codes, Option, Some, None}
use Rattle.std.specs.List.{flat_map}
use Rattle.std.specs.Str.{bytes_eq}
use Rattle.m2_promise.specs.m2_script.m2_cluster.Node.{NodeNow}
use Rattle.m2_dispatch.specs.declared.logged.Logged.{Logged}
use Rattle.m2_journal.specs.declared.facts.NodeFacts.{NodeFacts}
use Rattle.m2_promise.specs.m2_script.m2_record.RecordNow.{RecordNow}
use Rattle.m2_run_trace.specs.declared.script.Sort.{Sort}
use Rattle.m2_run_trace.specs.declared.script.Sort.TheVariants as sort
use Rattle.m2_scenario.specs.declared.node.Node.{Node}
use Rattle.m2_scenario.specs.Draft.{is_named}
use Rattle.m2_trace.specs.Sides.{node_line}
use Rattle.m2_scenario.specs.Line.{is_comment, line_words}
use Rattle.m2_scenario.specs.Text.{Word}

-- ---- sorts of lines

-- by its words: none, those of a node or a link, or others, by which it is one that is played
abbrev pub sort_of_words : List Word → Sort
sort_of_words [] = sort.Blank
sort_of_words (w ∷ ws) = if bytes_eq w (codes "node") then sort.Node else if bytes_eq w (codes "link") then sort.Link else sort.Step

abbrev pub sort_of : Word → Sort
sort_of line = if is_comment line then sort.Comment else sort_of_words (line_words line)

-- ---- lines

abbrev pub spaced : Word → Word
spaced w = codes " " ++ w

abbrev pub joined : List Word → Word
joined [] = []
joined (w ∷ ws) = w ++ flat_map spaced ws

-- its words, with one space between them
abbrev pub step_line : Word → Word
step_line line = joined (line_words line) ++ codes "\n"

-- what a node tells its records
abbrev pub facts_in : List RecordNow → Option NodeFacts
facts_in [] = None
facts_in (r ∷ rs) = Some r.core.facts.node

-- the node of this name
abbrev pub facts_of : List Node → List (NodeNow (List Logged)) → Word → Option NodeFacts
facts_of (n ∷ ns) (c ∷ cs) name = if is_named name n then facts_in c.center.records else facts_of ns cs name
facts_of _ _ name = None

-- as a line behind two spaces
abbrev pub facts_line : Word → Option NodeFacts → Word
facts_line name (Some facts) = codes "  " ++ node_line name facts
facts_line name None = []

abbrev pub told_under : List Node → List (NodeNow (List Logged)) → List Word → Word
told_under nodes cluster (w ∷ name ∷ ws) = facts_line name (facts_of nodes cluster name)
told_under nodes cluster _ = []

-- a line that isn't played: a comment as it is, a link, and a node with what it tells its records
abbrev pub quiet_by : List Node → List (NodeNow (List Logged)) → Word → Sort → Word
quiet_by nodes cluster line sort.Comment = line ++ codes "\n"
quiet_by nodes cluster line sort.Link = step_line line
quiet_by nodes cluster line sort.Node = step_line line ++ told_under nodes cluster (line_words line)
quiet_by nodes cluster line _ = []

abbrev pub quiet_text : List Node → List (NodeNow (List Logged)) → Word → Word
quiet_text nodes cluster line = quiet_by nodes cluster line (sort_of line)

-- ---- a text in lines

abbrev pub is_played : Sort → Bool
is_played sort.Step = true
is_played _ = false

-- the lines above the next one that is played
abbrev pub lines_above : List Word → List Word
lines_above [] = []
lines_above (l ∷ ls) = if is_played (sort_of l) then [] else l ∷ lines_above ls

-- that one; none has no bytes
abbrev pub next_step : List Word → Word
next_step [] = []
next_step (l ∷ ls) = if is_played (sort_of l) then l else next_step ls

-- the lines behind it; where there are none, an empty one
abbrev pub or_empty : List Word → List Word
or_empty [] = [] ∷ []
or_empty (l ∷ ls) = l ∷ ls

abbrev pub lines_behind : List Word → List Word
lines_behind [] = [] ∷ []
lines_behind (l ∷ ls) = if is_played (sort_of l) then or_empty ls else lines_behind ls
