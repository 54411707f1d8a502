-- New records over a node's links, whatever they are to do and however long they wait: a center can begin with them.
use Rattle.std.proofs.Common.{◌≡◌, ◌∙◌, ℕ, List, [], length, map, Some, refl, sym, ap, subst, arith}
use Rattle.std.specs.Prelude.{slice_get}
use Rattle.std.specs.List.{AllByRecursion, IsDistinct}
use Rattle.std.proofs.lemmas.List.Elements.{recursion_from_All}
use Rattle.std.proofs.lemmas.Option.{same_Some}
use Rattle.m2_cluster.specs.m2_center.Finishing.{AllOwn}
use Rattle.m2_cluster.specs.m2_center.Making.{CanBegin}
use Rattle.m2_cluster.specs.m2_center.m2_turn.Sessions.{IsSupplied, Supply, peer_of}
use Rattle.m2_fabric.specs.Port.{SeenPort}
use Rattle.m2_fabric.specs.declared.socket.SocketId.{SocketId}
use Rattle.m2_journal.specs.m2_handshake.Asks.{same_addr}
use Rattle.m2_record.specs.RecordNow.{RecordNow}
use Rattle.m2_scenario.specs.declared.link.Link.{Link}
use Rattle.m2_scenario.specs.declared.node.Node.{Node}
use Rattle.m2_scenario.specs.Draft.{DraftLine}
use Rattle.m2_scenario.specs.Valid.{IsLink, IsSound}
use Rattle.m2_script.specs.Laws.{bare}
use Rattle.m2_script.specs.Made.{records_of}
use Rattle.m2_script.proofs.Over.{IsOver, all_over, all_owned, all_through, apart_over, distinct_of, each_of, map_through, none_apart, peers_differ}
use Rattle.m2_shared.specs.Numbers.{SeenNumberPass}
use Rattle.m2_shared.specs.declared.throttles.TakePasses.{TakePasses}
use Rattle.m2_shared.specs.Gates.{pass_places}
use Rattle.m2_record.proofs.m2_core.Holding.{nothing_owned}

module _ (nodes : List Node) (links : List Link) (lines : List DraftLine) (sound : IsSound nodes links lines) (k word : ℕ) (rs : List RecordNow) (is : map bare rs ≡ map bare (records_of nodes links k word)) where
  -- what the bare ones of new records over links show
  all_so : (P Q : RecordNow → Type 0) → ((l : Link) (r : RecordNow) → IsOver nodes k word l r → Q (bare r)) → ((r : RecordNow) → Q (bare r) → P r) → AllByRecursion P rs
  all_so P Q new so =
      let news : AllByRecursion (λ (r : RecordNow). Q (bare r)) (records_of nodes links k word) =
      all_over nodes k word (IsLink (length nodes)) (λ (r : RecordNow). Q (bare r)) (λ l r fits. new l r) links (recursion_from_All (IsLink (length nodes)) links sound.joined) in
      all_through bare P Q so rs (subst (AllByRecursion Q) (sym is) (each_of bare Q (records_of nodes links k word) news))

  all_supplied : (s : Supply) (made : List SocketId) → made ≡ [] → AllByRecursion (IsSupplied s made) rs
  all_supplied s made unused =
      subst (λ (m : List SocketId). AllByRecursion (IsSupplied s m) rs) (sym unused)
      (all_so (IsSupplied s []) (IsSupplied s [])
      (λ l r v. subst (λ (x : RecordNow). IsSupplied s [] (bare x)) (sym v.is) (record { owned = record { feed = nothing_owned s.places _; parcels = tt }; top = omega arith; made = λ i new. new }))
      (λ r given. record { owned = record { feed = given.owned.feed; parcels = given.owned.parcels }; top = given.top; made = given.made }))

  peers_apart : IsDistinct same_addr (map peer_of rs)
  peers_apart =
      let all = records_of nodes links k word in
      subst (IsDistinct same_addr) (sym (map_through bare peer_of (λ r. refl) all) ∙ sym (ap (map peer_of) is) ∙ map_through bare peer_of (λ r. refl) rs)
      (distinct_of peer_of same_addr all (apart_over nodes k word (λ (r s : RecordNow). same_addr (peer_of r) (peer_of s)) (peers_differ nodes k word sound.apart) links sound.joined_once))

  pub bare_can_begin : (x : Node) → slice_get nodes k ≡ Some x → (port : SeenPort) (bytes : TakePasses) (numbers : SeenNumberPass) → port.made ≡ [] → CanBegin x.entity port rs bytes numbers × AllOwn (pass_places bytes) rs
  bare_can_begin x e port bytes numbers unused =
      let s : Supply = record { places = pass_places bytes; least = numbers.least } in
      let supplied : AllByRecursion (IsSupplied s port.made) rs = all_supplied s port.made unused in
      let kind : RecordNow → Type 0 = λ (r : RecordNow). r.core.facts.node.entity ≡ x.entity in (
        record {
          records = supplied;
          kind = all_so kind kind
              (λ l r v. ap (λ (y : RecordNow). y.core.facts.node.entity) v.is ∙ ap (λ (n : Node). n.entity) (same_Some v.mine x (sym v.mine_there ∙ e))) (λ r so. so);
          peers = peers_apart;
          halves = tt;
          loose = tt;
          apart = none_apart;
        },
        all_owned s port.made rs supplied,
      )
