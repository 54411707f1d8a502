-- What the readers of lines make in memory, beside what the definitions make. Memory may run out at any
-- line.
use Rattle.std.specs.Prelude.{◌≡◌, ℕ, List, Result, Ok, Err}
use Rattle.m2_bytes.specs.declared.blob.Blob.{Blob}
use Rattle.m2_message.specs.declared.message.Message.{Message}
use Rattle.m2_message.specs.Message.{Content, content_of}
use Rattle.m2_scenario.specs.declared.node.Node.{Node}
use Rattle.m2_scenario.specs.Draft.{Draft}
use Rattle.m2_scenario_text.specs.declared.flaw.Flaw.{Flaw}
use Rattle.m2_scenario_text.specs.declared.flaw.LineFlaw.{LineFlaw}
use Rattle.m2_scenario_text.specs.declared.flaw.LineFlaw.TheVariants as flaw

-- Ok: the draft is the one that the line makes. Bad: the line is bad in this way.
abbrev pub Takes : Result (Unit {0}) LineFlaw → Result Draft Flaw → Draft → Type 0
Takes (Ok _) step new = step ≡ Ok new
Takes (Err (flaw.Bad f)) step new = step ≡ Err f
Takes (Err flaw.NoMemory) step new = Unit {0}

-- bytes
abbrev pub BytesTaken : Result Blob LineFlaw → Result (List ℕ) Flaw → Type 0
BytesTaken (Ok b) asked = asked ≡ Ok b.bytes
BytesTaken (Err (flaw.Bad f)) asked = asked ≡ Err f
BytesTaken (Err flaw.NoMemory) asked = Unit {0}

-- a message
abbrev pub MessageRead : Result Message LineFlaw → Result Content Flaw → Type 0
MessageRead (Ok m) asked = asked ≡ Ok (content_of m)
MessageRead (Err (flaw.Bad f)) asked = asked ≡ Err f
MessageRead (Err flaw.NoMemory) asked = Unit {0}

-- a node
abbrev pub NodeRead : Result Node LineFlaw → Result Node Flaw → Type 0
NodeRead (Ok n) asked = asked ≡ Ok n
NodeRead (Err (flaw.Bad f)) asked = asked ≡ Err f
NodeRead (Err flaw.NoMemory) asked = Unit {0}
