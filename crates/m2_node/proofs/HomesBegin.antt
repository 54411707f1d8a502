-- Of a node's new records those that are at home with one of its threads: a center can begin with them.
use Rattle.std.proofs.Common.{◌≡◌, ◌∙◌, ℕ, Bool, List, [], map, Some, refl, sym, ap, subst}
use Rattle.std.specs.Prelude.{filter, slice_get}
use Rattle.std.specs.List.{AllByRecursion, IsDistinct}
use Rattle.m2_fabric.proofs.m2_lemmas.Lists.{all_map, all_so_of}
use Rattle.m2_fabric.specs.Port.{SeenPort}
use Rattle.m2_fabric.specs.declared.socket.SocketId.{SocketId}
use Rattle.m2_journal.specs.m2_handshake.Asks.{same_addr}
use Rattle.m2_script.specs.m2_record.RecordNow.{RecordNow}
use Rattle.m2_scenario.specs.Draft.{DraftLine}
use Rattle.m2_scenario.specs.Valid.{IsSound}
use Rattle.m2_scenario.specs.declared.link.Link.{Link}
use Rattle.m2_scenario.specs.declared.node.Node.{Node}
use Rattle.m2_script.specs.Laws.{NewRecordsCanBegin, bare}
use Rattle.m2_script.specs.Made.{records_of}
use Rattle.m2_script.specs.m2_center.Finishing.{AllOwn}
use Rattle.m2_script.specs.m2_center.Making.{CanBegin, new_center}
use Rattle.m2_script.specs.m2_cluster.m2_center.m2_turn.Sessions.{IsSupplied, Supply, peer_of}
use Rattle.m2_dispatch.specs.m2_shared.Numbers.{SeenNumberPass}
use Rattle.m2_dispatch.specs.m2_shared.Gates.{pass_places}
use Rattle.m2_dispatch.specs.m2_shared.declared.throttles.TakePasses.{TakePasses}
use Rattle.m2_dispatch.specs.declared.logged.Logged.{Logged}
use Rattle.m2_journal.specs.declared.facts.PlanStep.{PlanStep}
use Rattle.m2_links_go_on.specs.Made.{IsBegun, SideMade, side_made}
use Rattle.m2_script.specs.m2_center.Center.{CenterNow}
use Rattle.m2_node.specs.Begins.{IsBeginning, IsPortFor}
use Rattle.m2_node.specs.Homes.{at_home, is_at_home, steps_at_home}
use Rattle.m2_node.specs.Planned.{plan_of, side_by, waiting}
use Rattle.m2_node.specs.Ports.{PortNow, seen_port}
use Rattle.m2_node.specs.declared.planning.StepTowards.{StepTowards}
use Rattle.m2_node.proofs.StepLists.{plan_at_home}
use Rattle.m2_script.proofs.Over.{all_owned, all_through, map_through, none_apart}
use Rattle.m2_node.proofs.Filters.{distinct_filter, map_kept}
use Rattle.m2_bytes.proofs.m2_lemmas.Lists.{all_filter}

-- a side that is to do this
abbrev planned_side : RecordNow → List PlanStep → SideMade
planned_side r plan = record { place = r.place; facts = waiting r.core.facts; plan = plan }

module _ (nodes : List Node) (links : List Link) (k word : ℕ) (test : RecordNow → Bool) (rs : List RecordNow) (over : map bare rs ≡ map bare (filter test (records_of nodes links k word))) where
  -- what all new records have, and bare ones show, these have
  kept_so : (P : RecordNow → Type 0) → ((r : RecordNow) → P r → P (bare r)) → ((r : RecordNow) → P (bare r) → P r) → AllByRecursion P (records_of nodes links k word) → AllByRecursion P rs
  kept_so P to from all =
      let kept = filter test (records_of nodes links k word) in
      all_through bare P P from rs
      (subst (AllByRecursion P) (sym over) (all_map P bare kept (all_so_of P (λ (r : RecordNow). P (bare r)) kept to (all_filter P test (records_of nodes links k word) all))))

  kept_supplied : (s : Supply) (made : List SocketId) → AllByRecursion (IsSupplied s made) (records_of nodes links k word) → AllByRecursion (IsSupplied s made) rs
  kept_supplied s made all =
      kept_so (IsSupplied s made)
      (λ r given. record { owned = record { feed = given.owned.feed; parcels = given.owned.parcels }; top = given.top; made = given.made })
      (λ r given. record { owned = record { feed = given.owned.feed; parcels = given.owned.parcels }; top = given.top; made = given.made }) all

  kept_apart : IsDistinct same_addr (map peer_of (records_of nodes links k word)) → IsDistinct same_addr (map peer_of rs)
  kept_apart apart =
      subst (IsDistinct same_addr)
      (sym (map_through bare peer_of (λ r. refl) (filter test (records_of nodes links k word))) ∙ sym (ap (map peer_of) over) ∙ map_through bare peer_of (λ r. refl) rs)
      (distinct_filter same_addr peer_of test (records_of nodes links k word) apart)

  pub kept_can_begin : NewRecordsCanBegin → (lines : List DraftLine) → IsSound nodes links lines → (x : Node) → slice_get nodes k ≡ Some x →
      (port : SeenPort) (bytes : TakePasses) (numbers : SeenNumberPass) → port.made ≡ [] → CanBegin x.entity port rs bytes numbers × AllOwn (pass_places bytes) rs
  kept_can_begin can lines sound x there port bytes numbers unused =
      let s : Supply = record { places = pass_places bytes; least = numbers.least } in
      let all : CanBegin x.entity port (records_of nodes links k word) bytes numbers = (can nodes links lines sound k word x (records_of nodes links k word) there refl port bytes numbers unused).0 in
      let supplied : AllByRecursion (IsSupplied s port.made) rs = kept_supplied s port.made all.records in
      let kind : RecordNow → Type 0 = λ (r : RecordNow). r.core.facts.node.entity ≡ x.entity in (
        record {
          records = supplied;
          kind = kept_so kind (λ r so. so) (λ r so. so) all.kind;
          peers = kept_apart all.peers;
          halves = tt;
          loose = tt;
          apart = none_apart;
        },
        all_owned s port.made rs supplied,
      )

-- ---- what such a center is

pub is_beginning : (nodes : List Node) (links : List Link) (its all : List StepTowards) (k j word centers : ℕ) (x : Node) (p : PortNow) (rs : List RecordNow) (bytes : TakePasses) (numbers : SeenNumberPass)
    (c : CenterNow (List Logged)) → centers ≡ x.centers → its ≡ steps_at_home nodes x.centers j all → IsPortFor x p → c ≡ new_center x.entity (seen_port p) rs [] [] bytes numbers →
    AllByRecursion IsBegun rs → map bare rs ≡ map bare (at_home nodes centers j (records_of nodes links k word)) →
    map side_made rs ≡ map (side_by (plan_of its)) (at_home nodes centers j (records_of nodes links k word)) → IsBeginning nodes links all k j word x c
is_beginning nodes links its all k j word centers x p rs bytes numbers c as_many same port is begun over sides = record {
  port = seen_port p;
  records = rs;
  bytes = bytes;
  numbers = numbers;
  center = is;
  at = port.at;
  unused = port.unused;
  off = port.off;
  begun = begun;
  over = over ∙ ap (λ (n : ℕ). map bare (at_home nodes n j (records_of nodes links k word))) as_many;
  sides = sides
      ∙ ap (λ (n : ℕ). map (side_by (plan_of its)) (at_home nodes n j (records_of nodes links k word))) as_many
      ∙ ap (λ (ss : List StepTowards). map (side_by (plan_of ss)) (at_home nodes x.centers j (records_of nodes links k word))) same
      ∙ map_kept (side_by (plan_of (steps_at_home nodes x.centers j all))) (side_by (plan_of all)) (λ (r : RecordNow). is_at_home nodes x.centers j r.place)
      (λ r here. ap (planned_side r) (plan_at_home nodes x.centers j r.place here all)) (records_of nodes links k word);
}
