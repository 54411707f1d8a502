-- How a command ended: its exit code and its line on standard error. The codes and texts are this
-- project's own (docs/SCENARIOS.md).
use Rattle.std.specs.Prelude.{ℕ, List, [], ◌∷◌, ◌++◌, codes}
use Rattle.std.specs.Fmt.{decimal}
use Rattle.m2_scenario.specs.Text.{Word, word}
use Rattle.m2_cli.specs.declared.status.Status.{Status}
use Rattle.m2_cli.specs.declared.status.Status.TheVariants.{Done, Usage, BadScenario, ReadFault, WriteFault, BindFault, Unfit, Stalled, Left, NoMemory, BadFrames}

abbrev pub code_of : Status → ℕ
code_of Done = 0
code_of Usage = 1
code_of (BadScenario line kind) = 2
code_of ReadFault = 3
code_of WriteFault = 4
code_of (BindFault node) = 5
code_of (Unfit socket opener place why) = 6
code_of (Stalled left) = 7
code_of (Left count) = 8
code_of NoMemory = 9
code_of (BadFrames place fault) = 10

-- the line of a status that carries no number, with its line feed
abbrev pub fixed_line_of : Status → List ℕ
fixed_line_of Done = []
fixed_line_of Usage = codes "usage: msgr2 sim FILE or run FILE or frames FILE or load N SEED" ++ 10 ∷ []
fixed_line_of (BadScenario line kind) = []
fixed_line_of ReadFault = codes "read fault" ++ 10 ∷ []
fixed_line_of WriteFault = codes "write fault" ++ 10 ∷ []
fixed_line_of (BindFault node) = []
fixed_line_of (Unfit socket opener place why) = []
fixed_line_of (Stalled left) = []
fixed_line_of (Left count) = []
fixed_line_of NoMemory = codes "no memory" ++ 10 ∷ []
fixed_line_of (BadFrames place fault) = []

-- The line of each status, with its line feed; nothing where the work is done. `names` are those of the scenario's nodes, of which one
-- is named.
abbrev pub line_of : (names : List Word) → Status → List ℕ
line_of names Done = []
line_of names Usage = fixed_line_of Usage
line_of names (BadScenario line kind) = codes "bad scenario: line " ++ decimal line ++ codes " kind " ++ decimal kind ++ 10 ∷ []
line_of names ReadFault = fixed_line_of ReadFault
line_of names WriteFault = fixed_line_of WriteFault
line_of names (BindFault node) = codes "bind fault: " ++ word names node ++ 10 ∷ []
line_of names (Unfit socket opener place why) =
    codes "unfit: socket " ++ decimal socket.from_port ++ codes "-" ++ decimal socket.to_port ++ codes " place " ++ decimal place ++ 10 ∷ []
line_of names (Stalled left) = codes "stalled: " ++ decimal left ++ codes " left\n"
line_of names (Left count) = codes "left: " ++ decimal count ++ 10 ∷ []
line_of names NoMemory = fixed_line_of NoMemory
line_of names (BadFrames place fault) = codes "bad frames: place " ++ decimal place ++ codes " fault " ++ decimal fault ++ 10 ∷ []
