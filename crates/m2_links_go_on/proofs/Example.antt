-- Two nodes, each with a new record of the other, that stay as they are.
use Rattle.std.proofs.Common.{◌≡◌, ℕ, inl, true, false, [], ◌∷◌, None, refl, ap, ◌∙◌, arith}
use Rattle.std.specs.Prelude.{◌==◌, ◌&&◌}
use Rattle.std.specs.List.{IsDistinct}
use Rattle.std.proofs.lemmas.Bool.{eqb-true}
use Rattle.m2_cluster.specs.m2_core.Agrees.{Agrees}
use Rattle.m2_cluster.specs.m2_core.CoreNow.{at_start}
use Rattle.m2_fabric.specs.declared.socket.SocketId.{SocketId}
use Rattle.m2_fabric.specs.Port.{fresh_port}
use Rattle.m2_fabric.specs.Sockets.{goes_to}
use Rattle.m2_dispatch.specs.m2_shared.declared.peer_type.PeerType.TheVariants.{Osd}
use Rattle.m2_growth.proofs.Ends.{own_none}
use Rattle.m2_weave.specs.m2_journal.SideFacts.{SideFacts}
use Rattle.m2_weave.specs.m2_journal.State.{start}
use Rattle.m2_weave.proofs.m2_journal.Pair.{facts_of_a, facts_of_b, here, there}
use Rattle.m2_history.specs.m2_record.IsRecord.{IsRecord, new_record, no_room}
use Rattle.m2_history.specs.m2_record.RecordNow.{RecordNow}
use Rattle.m2_history.proofs.m2_record.Making.{new-is-record}
use Rattle.m2_history.proofs.m2_record.m2_core.Holding.{nothing_owned}
use Rattle.m2_links_go_on.specs.LinkLaws.{ALinkGoesOn}
use Rattle.m2_links_go_on.specs.Linked.{IsNode, NodeNow, Nodes}
use Rattle.m2_links_go_on.proofs.Staying.{staying_goes_on}
use Rattle.m2_fabric.proofs.m2_lemmas.Booleans.{and_false, both_of_and, false_isnt_true}

-- a new record of the node at this place, towards an OSD
abbrev pub side : SideFacts → (place : ℕ) → RecordNow
side f place = new_record f place Osd

abbrev pub node : SideFacts → (place : ℕ) → NodeNow
node f place = record { holding = record { port = fresh_port f.mine; records = side f place ∷ []; halves = record { pending = []; loose = [] } }; side = side f place }

agrees : (f : SideFacts) → Agrees (at_start f Osd) (start f)
agrees f = record { session = refl; queue = refl; last = refl; life = refl; owes = refl; dials = refl; top = refl; feed = tt; resumed = inl refl }

from_here : (k : SocketId) → goes_to there k ≡ true → goes_to here k ≡ false
from_here k h =
    let port : k.to_port ≡ 7002 = eqb-true k.to_port 7002 (both_of_and (k.to_ip == there.ip) (k.to_port == 7002) h).1 in
    ap (λ n. (k.to_ip == here.ip) && (n == 7001)) port ∙ and_false (k.to_ip == here.ip)

from_there : (k : SocketId) → goes_to here k ≡ true → goes_to there k ≡ false
from_there k h =
    let port : k.to_port ≡ 7001 = eqb-true k.to_port 7001 (both_of_and (k.to_ip == here.ip) (k.to_port == 7001) h).1 in
    ap (λ n. (k.to_ip == there.ip) && (n == 7002)) port ∙ and_false (k.to_ip == there.ip)

with_record : (f : SideFacts) (place : ℕ) → IsRecord (side f place) → ((k : SocketId) → goes_to f.peer k ≡ true → goes_to f.mine k ≡ false) → IsNode (node f place).holding
unfolding IsDistinct
with_record f place is apart = record {
  records = (is, tt);
  whole = tt;
  own = record { held = own_none; made = tt; waiting = own_none; to_come = tt; elsewhere = (apart, tt); fed = (refl, tt); on_socket = tt; here = tt };
  halves = record { each = (λ k h. absurd (false_isnt_true h), tt); made = (λ k h. absurd (false_isnt_true h), tt); here = (λ k h. absurd (false_isnt_true h), tt); one_judge = (tt, tt); askers = tt; peers = (tt, tt) };
  supply = record { places = λ gate. None; least = 0 };
  entity = f.node.entity;
  sessions = record {
    records = (record { owned = record { feed = nothing_owned (λ gate. None) Osd; parcels = tt }; top = omega arith; made = λ k h. refl }, tt);
    kind = (refl, tt);
    peers = (tt, tt);
    halves = tt;
    loose = tt;
    apart = tt;
  };
}

pub is_node_of_a : IsNode (node facts_of_a 1).holding
is_node_of_a = with_record facts_of_a 1 (new-is-record facts_of_a 1 Osd no_room (omega arith) (agrees facts_of_a)) from_here

pub is_node_of_b : IsNode (node facts_of_b 0).holding
is_node_of_b = with_record facts_of_b 0 (new-is-record facts_of_b 0 Osd no_room (omega arith) (agrees facts_of_b)) from_there

abbrev nodes : Nodes
nodes = record { near = node facts_of_a 1; far = node facts_of_b 0 }

pub a_link_goes_on : ALinkGoesOn
a_link_goes_on = record {
  old = nodes;
  new = nodes;
  goes = record {
    near = staying_goes_on (node facts_of_a 1) 0 is_node_of_a refl;
    far = staying_goes_on (node facts_of_b 0) 0 is_node_of_b refl;
    near_peer = λ k. refl;
    far_peer = λ k. refl;
    near_alone = λ k o h. absurd (false_isnt_true o);
    far_alone = λ k o h. absurd (false_isnt_true o);
  };
}
