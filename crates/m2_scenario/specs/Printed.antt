-- What a line of the report prints of a call, and which nodes and calls have lines that are read in one way.
use Rattle.std.specs.Prelude.{◌≡◌, ℕ, ◌<◌, ◌^◌, true, false, List, length, All, AllPairs}
use Rattle.m2_message.specs.Message.{Content}
use Rattle.m2_policy.specs.declared.path.Key.{Key}
use Rattle.m2_bytes.specs.Items.{Holding}
use Rattle.m2_dispatch.specs.Heard.{Heard, message, reset, heard_of}
use Rattle.m2_dispatch.specs.declared.logged.Logged.{Logged}
use Rattle.m2_scenario.specs.declared.node.Node.{Node}
use Rattle.m2_scenario.specs.Valid.{AreApart}
use Rattle.m2_scenario.specs.Word.{is_name}
use Rattle.m2_scenario.specs.Report.{IsPeerAmong, name_of, report_of}

-- ---- what is printed

-- of a message its key, its kind and the bytes of its parts; its other fields, its number and the name of the life that it was
-- accepted in aren't printed
pub record PrintedMessage : Type 0 where
  pub key : Key
  pub kind : ℕ
  pub front : List ℕ
  pub middle : List ℕ
  pub tail : List ℕ

-- a message or a reset, and the place of the peer that it comes from
pub data Printed : Type 0 where
  printed_message : (peer : ℕ) → PrintedMessage → Printed
  printed_reset : (peer : ℕ) → Printed

abbrev pub message_of : Key → Content → PrintedMessage
message_of key m = record { key = key; kind = m.header.kind; front = m.front; middle = m.middle; tail = m.tail }

abbrev pub printed_of : Heard → Printed
printed_of (message peer key number life m) = printed_message peer (message_of key m)
printed_of (reset peer) = printed_reset peer

-- ---- of which nodes and calls

abbrev pub IsNamed : Node → Type 0
IsNamed n = is_name (name_of n) ≡ true

-- nodes as a valid scenario has them: each has a name, and no two have the same
pub record AreNamed (nodes : List Node) : Type 0 where
  pub named : All IsNamed nodes
  pub apart : AllPairs AreApart nodes

-- a part of a message: each number in it is a byte
abbrev pub IsPart : List ℕ → Type 0
IsPart part = All (λ b. b < 256) part

-- a priority and a kind of sixteen bits, and parts of bytes
pub record FieldsFit (m : PrintedMessage) : Type 0 where
  pub priority : m.key.priority < 2 ^ 16
  pub kind : m.kind < 2 ^ 16
  pub front : IsPart m.front
  pub middle : IsPart m.middle
  pub tail : IsPart m.tail

abbrev pub FitsLine : Heard → Type 0
FitsLine (message peer key number life m) = FieldsFit (message_of key m)
FitsLine (reset peer) = Unit {0}

-- a call whose fields fit a line, and whose peer is one of so many nodes
pub record IsReportable (nodes : ℕ) (h : Heard) : Type 0 where
  pub peer : IsPeerAmong nodes h
  pub fits : FitsLine h

-- for each node the calls that it heard, each fit for a line
pub record AreReportable (nodes : List Node) (heard : List (List Heard)) : Type 0 where
  pub each : length heard ≡ length nodes
  pub calls : All (All (IsReportable (length nodes))) heard

-- two runs of the nodes print one text, in the order of their calls
abbrev pub PrintAlike : List Node → List (List Heard) → List (List Heard) → Type 0
PrintAlike nodes one other = report_of false nodes one ≡ report_of false nodes other

-- ---- and of which logs

abbrev pub CallFits : Logged → Type 0
CallFits l = FitsLine (heard_of l)

abbrev pub LogFits : Holding Logged → Type 0
LogFits log = All CallFits log.items
