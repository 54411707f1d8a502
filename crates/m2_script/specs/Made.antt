-- What the nodes of a scenario have before its first line. This project's own.
use Rattle.m2_shared.specs.Gates.{peer_type}
use Rattle.std.specs.Prelude.{◌≡◌, ℕ, ◌+◌, ◌%◌, ◌==◌, if◌then◌else◌, List, flat_map, map, Option, Some, None, slice_get}
use Rattle.std.specs.Option.{option_to_list}
use Rattle.m2_journal.specs.declared.facts.NodeFacts.{NodeFacts}
use Rattle.m2_journal.specs.SideFacts.{SideFacts}
use Rattle.m2_policy.specs.Rules.{profile}
use Rattle.m2_cluster.specs.Node.{NodeNow}
use Rattle.m2_record.specs.IsRecord.{new_record, no_room}
use Rattle.m2_record.specs.RecordNow.{RecordNow}
use Rattle.m2_scenario.specs.declared.link.Link.{Link}
use Rattle.m2_scenario.specs.declared.node.Node.{Node}
use Rattle.m2_script.specs.declared.made.Towards.{Towards}

-- what a node of this number tells its records: it waits a millisecond before a new connect, and of a word drawn for it the low 16
-- bits are its salt; its rules are those of the profile
abbrev pub facts_of : Node → (number word : ℕ) → NodeFacts
facts_of n number word = record {
  entity = n.entity;
  number = number;
  supports = n.supports;
  requires_ = n.requires_;
  fast = n.fast;
  first_wait = 1;
  most_wait = 1;
  salt = word % 65536;
  rules = profile;
}

-- the other node of a link of the node of this number, and the policy towards it, if that is one of its two
abbrev pub other_of : ℕ → Link → Option Towards
other_of number l =
    if l.a == number then Some (record { place = l.b; policy = l.of_a })
    else if l.b == number then Some (record { place = l.a; policy = l.of_b })
    else None

-- a new record of one node towards another, where there are both
abbrev pub new_towards : (mine peer : Option Node) → (number word : ℕ) → Towards → Option RecordNow
new_towards (Some mine) (Some peer) number word t =
    Some (new_record (record { mine = mine.at; peer = peer.at; policy = t.policy; node = facts_of mine number word }) t.place (peer_type peer.entity))
new_towards _ _ number word t = None

-- the record of the node of this number over a link, if it is one of its two
abbrev pub over : List Node → (number word : ℕ) → Option Towards → Option RecordNow
over nodes number word None = None
over nodes number word (Some t) = new_towards (slice_get nodes number) (slice_get nodes t.place) number word t

-- all of a record but its room
abbrev pub roomless : RecordNow → RecordNow
roomless r = record r { room = no_room }

-- the records of the node of this number, in the order of its links
abbrev pub records_of : List Node → List Link → (number word : ℕ) → List RecordNow
records_of nodes links number word = flat_map (λ (l : Link). option_to_list (over nodes number word (other_of number l))) links

-- ---- what stays of records

-- the place of a record's peer, and what its node and its link tell it
pub record Side : Type 0 where
  pub place : ℕ
  pub facts : SideFacts

abbrev pub side_of : RecordNow → Side
side_of r = record { place = r.place; facts = r.core.facts }

-- Of each node the records are those over its links, in their order, at whatever they have done; the word that is drawn for the node
-- at place k is k + 1.
abbrev pub AreOverLinks : {D : Type 0} → List Node → List Link → List (NodeNow D) → Type 0
AreOverLinks {D} nodes links all =
    (k : ℕ) (n : NodeNow D) → slice_get all k ≡ Some n → map side_of n.center.records ≡ map side_of (records_of nodes links k (k + 1))
