-- What a trace is made of: one thing after another that is printed and played. This project's own.
use Rattle.std.specs.Prelude.{◌≡◌, ℕ, zero, suc, ◌+◌, List, [], ◌∷◌, ◌++◌, length, Option, Some, None, Ok}
use Rattle.std.specs.List.{flat_map}
use Rattle.m2_dispatch.specs.declared.logged.Logged.{Logged}
use Rattle.m2_dispatch.specs.Heard.{heard_by}
use Rattle.m2_fabric.specs.declared.socket.SocketId.{SocketId}
use Rattle.m2_run_trace.specs.Marks.{MarksNow, marks_of}
use Rattle.m2_run_trace.specs.News.{news_of}
use Rattle.m2_run_trace.specs.Sockets.{left_of}
use Rattle.m2_run_trace.specs.Telling.{telling_at}
use Rattle.m2_run_trace.specs.Words.{name_in, settle_line, turn_line}
use Rattle.m2_run_trace.specs.Script.{lines_above, lines_behind, next_step, quiet_text, step_line}
use Rattle.m2_scenario.specs.declared.line.Line.{Line}
use Rattle.m2_scenario.specs.declared.line.Line.TheVariants as line
use Rattle.m2_scenario.specs.declared.link.Link.{Link}
use Rattle.m2_scenario.specs.declared.node.Node.{Node}
use Rattle.m2_promise.specs.m2_script.Script.{CanAllBeDone, Deed, Ends, RunNow, both_flow, deeds_of, turn_and_meet}
use Rattle.m2_fabric.specs.declared.cut_end.CutEnd.{CutEnd}
use Rattle.m2_fabric.specs.declared.sim_end.SimEnd.{SimEnd}
use Rattle.m2_scenario.specs.Text.{Word}

-- a run of nodes in memory, whose dispatchers keep logs
abbrev pub MemoryRun : Type 0
MemoryRun = RunNow (List Logged)

-- where a trace stands: the run, the sockets of which there may be more to tell, and what is told so far
pub record StageNow : Type 0 where
  pub run : MemoryRun
  pub sockets : List SocketId
  pub text : Word

-- nothing is told yet
abbrev pub first_stage : MemoryRun → StageNow
first_stage run = record { run = run; sockets = []; text = [] }

-- what is printed before it, by where the run stands; its deeds; and the node, if there is one, of which is told what it did by them
pub record Act : Type 0 where
  pub says : MemoryRun → Word
  pub deeds : List Deed
  pub node : Option ℕ

-- ---- what an act leaves

-- where a node stands before it
abbrev pub marks_at : List Node → (node : ℕ) → StageNow → MarksNow
marks_at nodes node s = marks_of (telling_at nodes s.run.cluster.nodes node) s.sockets

-- what is told of the node when the run stands there
abbrev pub news_by : List Node → Option ℕ → StageNow → MemoryRun → Word
news_by nodes (Some node) old run = news_of (telling_at nodes run.cluster.nodes node) (marks_at nodes node old)
news_by nodes None old run = []

abbrev pub sockets_by : List Node → Option ℕ → StageNow → MemoryRun → List SocketId
sockets_by nodes (Some node) old run = left_of (telling_at nodes run.cluster.nodes node) (marks_at nodes node old)
sockets_by nodes None old run = old.sockets

-- deeds that are done one after another, each in full, over sockets in memory that may be cut
abbrev pub Does : List Deed → MemoryRun → MemoryRun → Type 0
Does deeds old new = Ends (CutEnd SimEnd) heard_by (Ok tt) deeds old new

-- what it says is printed, its deeds are done, and what its node did by them is told
pub record Plays (nodes : List Node) (a : Act) (old new : StageNow) : Type 0 where
  pub does : Does a.deeds old.run new.run
  pub text : new.text ≡ old.text ++ (a.says old.run ++ news_by nodes a.node old new.run)
  pub sockets : new.sockets ≡ sockets_by nodes a.node old new.run

-- the one act, and then the others
pub record PlaysBoth (one others : StageNow → StageNow → Type 0) (old new : StageNow) : Type 0 where
  pub between : StageNow
  pub first : one old between
  pub behind : others between new

abbrev pub PlaysAll : List Node → List Act → StageNow → StageNow → Type 0
PlaysAll nodes [] old new = new ≡ old
PlaysAll nodes (a ∷ acts) old new = PlaysBoth (Plays nodes a) (PlaysAll nodes acts) old new

-- ---- what acts need

-- each of these deeds can be done where those before it lead
abbrev pub CanDo : List Deed → MemoryRun → Type 0
CanDo deeds run = CanAllBeDone (CutEnd SimEnd) heard_by deeds run

abbrev pub deeds_in : List Act → List Deed
deeds_in acts = flat_map (λ (a : Act). a.deeds) acts

abbrev pub CanPlay : List Act → MemoryRun → Type 0
CanPlay acts run = CanDo (deeds_in acts) run

-- ---- the acts of a scenario's lines

-- lines that aren't played
abbrev pub quiet_act : List Node → List Word → Act
quiet_act nodes lines = record { says = λ s. flat_map (quiet_text nodes s.cluster.nodes) lines; deeds = []; node = None }

-- the node that does something by a line, if there is one
abbrev pub actor_of : Line → Option ℕ
actor_of (line.Post a b message) = Some a
actor_of (line.Dial a b) = Some a
actor_of (line.Down a b) = Some a
actor_of (line.Turn a) = Some a
actor_of _ = None

-- deeds by which a node does something, with nothing printed before them
abbrev pub silent_act : List Deed → (node : ℕ) → Act
silent_act deeds node = record { says = λ s. []; deeds = deeds; node = Some node }

-- a line of the text as it is
abbrev pub step_act : List Link → (count : ℕ) → Word → Line → Act
step_act links count step l = record { says = λ s. step_line step; deeds = deeds_of links count l; node = actor_of l }

-- a turn at its moment
abbrev pub turn_act : List Node → (node : ℕ) → Act
turn_act nodes node = record { says = λ s. turn_line (name_in nodes node) s.now; deeds = turn_and_meet node; node = Some node }

-- the turns of so many nodes, from one on
abbrev pub turn_acts : List Node → (from count : ℕ) → List Act
turn_acts nodes from zero = []
turn_acts nodes from (suc n) = turn_act nodes from ∷ turn_acts nodes (from + 1) n

-- a round begins, and everything flows
abbrev pub flow_act : List Link → Act
flow_act links = record { says = λ s. settle_line; deeds = flat_map both_flow links; node = None }

abbrev pub round_acts : List Node → List Link → List Act
round_acts nodes links = flow_act links ∷ turn_acts nodes 0 (length nodes)

abbrev pub rounds_acts : List Node → List Link → (count : ℕ) → List Act
rounds_acts nodes links zero = []
rounds_acts nodes links (suc n) = round_acts nodes links ++ rounds_acts nodes links n

-- a turn and rounds stand there as turns with their moments, any other line as it is
abbrev pub line_acts : List Node → List Link → Word → Line → List Act
line_acts nodes links step (line.Turn a) = turn_act nodes a ∷ []
line_acts nodes links step (line.Settle rounds) = rounds_acts nodes links rounds
line_acts nodes links step l = step_act links (length nodes) step l ∷ []

-- those of a line and of the text above it, where these lines of the text aren't printed yet
abbrev pub acts_to : List Node → List Link → List Word → Line → List Act
acts_to nodes links text l = quiet_act nodes (lines_above text) ∷ line_acts nodes links (next_step text) l

-- those of all lines of a script, and of the text behind them
abbrev pub acts_of : List Node → List Link → List Word → List Line → List Act
acts_of nodes links text [] = quiet_act nodes (lines_above text) ∷ []
acts_of nodes links text (l ∷ ls) = acts_to nodes links text l ++ acts_of nodes links (lines_behind text) ls
