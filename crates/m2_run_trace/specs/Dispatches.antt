-- What a node's dispatchers were called with, as lines. This project's own.
use Rattle.std.specs.Prelude.{List, [], ◌∷◌, ◌++◌, codes, map}
use Rattle.m2_dispatch.specs.Heard.{heard_of}
use Rattle.m2_dispatch.specs.declared.logged.Logged.{Logged}
use Rattle.m2_scenario.specs.Report.{line_of, name_of}
use Rattle.m2_trace.specs.Words.{Text}
use Rattle.m2_run_trace.specs.Telling.{Telling}

-- as `sim` reports it, behind two spaces
unfoldable pub call_line : Telling → Logged → Text
call_line t call = codes "  " ++ line_of (map name_of t.nodes) t.own.name (heard_of call)

-- the first of these, if there is one
abbrev pub first_line : Telling → List Logged → Text
first_line t [] = []
first_line t (call ∷ calls) = call_line t call
