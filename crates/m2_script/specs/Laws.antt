-- What is promised of a scenario's lines and of the records before them.
use Rattle.std.specs.Prelude.{◌≡◌, ℕ, true, List, [], length, map, slice_get, Some}
use Rattle.std.specs.List.{AllByRecursion}
use Rattle.m2_cluster.specs.m2_center.Finishing.{AllOwn}
use Rattle.m2_cluster.specs.m2_center.Making.{CanBegin}
use Rattle.m2_dispatch.specs.m2_message.Message.{IsSendable, content_of}
use Rattle.m2_dispatch.specs.m2_message.declared.message.Message.{Message}
use Rattle.m2_fabric.specs.Port.{SeenPort}
use Rattle.m2_record.specs.IsRecord.{no_room}
use Rattle.m2_record.specs.RecordNow.{RecordNow}
use Rattle.m2_scenario.specs.declared.line.Line.{Line}
use Rattle.m2_scenario.specs.declared.link.Link.{Link}
use Rattle.m2_scenario.specs.declared.node.Node.{Node}
use Rattle.m2_scenario.specs.Draft.{DraftLine, draft_line}
use Rattle.m2_scenario.specs.Valid.{IsSound, are_short}
use Rattle.m2_script.specs.Made.{records_of}
use Rattle.m2_script.specs.Script.{IsWithin, script_of}
use Rattle.m2_shared.specs.Numbers.{SeenNumberPass}
use Rattle.m2_shared.specs.declared.throttles.TakePasses.{TakePasses}
use Rattle.m2_shared.specs.Gates.{pass_places}

-- Each deed of a valid scenario's lines is of nodes that there are, and each step that is planned is of a link.
abbrev pub ScriptsAreWithin : Type 0
ScriptsAreWithin = (nodes : List Node) (links : List Link) (lines : List Line) → IsSound nodes links (map draft_line lines) →
    AllByRecursion (IsWithin links (length nodes)) (script_of links (length nodes) lines)

-- A message whose parts are as short as those of a post may be can be sent.
abbrev pub ShortPostsAreSendable : Type 0
ShortPostsAreSendable = (m : Message) → are_short (content_of m) ≡ true → IsSendable m

-- all of a record but its room, what it is to do, and how long it waits before a new connect
abbrev pub bare : RecordNow → RecordNow
bare r = record r {
  plan = [];
  room = no_room;
  waits = record { next_dial = 0; wait = 0 };
  core = record r.core { facts = record r.core.facts { node = record r.core.facts.node { first_wait = 0; most_wait = 0 } } };
}

-- A center can begin with the records of a valid scenario's node over its links, whatever they are to do and however long they wait,
-- over a port that has made no socket; and what they hold, which is nothing, was granted by its throttles.
abbrev pub NewRecordsCanBegin : Type 0
NewRecordsCanBegin = (nodes : List Node) (links : List Link) (lines : List DraftLine) → IsSound nodes links lines →
    (k word : ℕ) (x : Node) (rs : List RecordNow) → slice_get nodes k ≡ Some x → map bare rs ≡ map bare (records_of nodes links k word) →
    (port : SeenPort) (bytes : TakePasses) (numbers : SeenNumberPass) → port.made ≡ [] → CanBegin x.entity port rs bytes numbers × AllOwn (pass_places bytes) rs
