-- A kept socket has the ends of both its nodes, and all that came to either the other had put.
use Rattle.std.proofs.Common.{◌≡◌, ℕ, true, List, Some, refl, subst, ◌⊎◌, inl, inr}
use Rattle.std.specs.Prelude.{IsSome}
use Rattle.std.specs.List.{AllByRecursion}
use Rattle.m2_fabric.specs.declared.socket.SocketId.{SocketId}
use Rattle.m2_links_go_on.proofs.m2_growth.Among.{of_each}
use Rattle.m2_links_go_on.specs.m2_growth.InStepLaws.{StayMet}
use Rattle.m2_links_go_on.specs.m2_growth.Turn.{CameOfPut}
use Rattle.m2_fabric.specs.Kept.{SeenPair, back, both, directions, is_kept, of_pair, there}
use Rattle.m2_fabric.specs.Meeting.{acceptor}
use Rattle.m2_script.proofs.m2_center.m2_turn.Peers.{each_of_two}
use Rattle.m2_promise.specs.Running.{AreBetween, RunNow}
use Rattle.m2_promise.proofs.Lists.{any_passes, flat_one}
use Rattle.m2_fabric.proofs.Sockets.{same_equal}

-- what holds of each direction holds of both those of a kept socket
record HoldsOfBoth (P : ℕ → ℕ → SocketId → Type 0) (k : SocketId) : Type 0 where
  first : ℕ
  second : ℕ
  forth : P first second k
  back : P second first k

holds_of_both : (P : ℕ → ℕ → SocketId → Type 0) (k : SocketId) (pairs : List SeenPair) → AllByRecursion (λ d. P d.from d.to d.id) (directions pairs) → is_kept k pairs ≡ true → HoldsOfBoth P k
holds_of_both P k pairs all h =
    let pair = any_passes _ pairs h in
    let p = pair.item in
    let socket = any_passes _ p.sockets pair.is in
    let x = socket.item in
    let one = flat_one of_pair p (there p.first p.second x) pairs pair.there (flat_one (both p.first p.second) x (there p.first p.second x) p.sockets socket.there (inl refl)) in
    let two = flat_one of_pair p (back p.first p.second x) pairs pair.there (flat_one (both p.first p.second) x (back p.first p.second x) p.sockets socket.there (inr (inl refl))) in
    subst (HoldsOfBoth P) (same_equal x.id k socket.is) (record {
      first = p.first;
      second = p.second;
      forth = of_each (λ d. P d.from d.to d.id) (there p.first p.second x) (directions pairs) all one;
      back = of_each (λ d. P d.from d.to d.id) (back p.first p.second x) (directions pairs) all two;
    })

-- the node that opened it, and the one at which it arrived
pub record IsMet (x : RunNow) (k : SocketId) : Type 0 where
  pub from : ℕ
  pub to : ℕ
  pub accepted : acceptor x.fabric.nodes from k ≡ Some to
  pub at_from : IsSome (x.holder.ends from k)
  pub at_to : IsSome (x.holder.ends to k)
  pub forth : CameOfPut (x.holder.ends to k) (x.holder.ends from k)
  pub back : CameOfPut (x.holder.ends from k) (x.holder.ends to k)

-- of one direction
record IsMetOneWay (x : RunNow) (from to : ℕ) (k : SocketId) : Type 0 where
  between : (acceptor x.fabric.nodes from k ≡ Some to) ⊎ (acceptor x.fabric.nodes to k ≡ Some from)
  some : IsSome (x.holder.ends to k)
  came : CameOfPut (x.holder.ends to k) (x.holder.ends from k)

pub are_met : (x : RunNow) → StayMet x.fabric x.holder → AreBetween x → (k : SocketId) → is_kept k x.fabric.pairs ≡ true → IsMet x k
are_met x stay between k h = by b.forth.between
  where
    b : HoldsOfBoth (IsMetOneWay x) k
    b =
        holds_of_both (IsMetOneWay x) k x.fabric.pairs
        (each_of_two _ _ (λ d. IsMetOneWay x d.from d.to d.id) (λ d a c. record { between = a; some = c.0; came = c.1 }) (directions x.fabric.pairs) between.kept
        (each_of_two _ _ (λ d. IsSome (x.holder.ends d.to d.id) × CameOfPut (x.holder.ends d.to d.id) (x.holder.ends d.from d.id)) (λ d a c. (a, c)) (directions x.fabric.pairs) stay.ends stay.came)) h

    by : (acceptor x.fabric.nodes b.first k ≡ Some b.second) ⊎ (acceptor x.fabric.nodes b.second k ≡ Some b.first) → IsMet x k
    by (inl a) = record { from = b.first; to = b.second; accepted = a; at_from = b.back.some; at_to = b.forth.some; forth = b.forth.came; back = b.back.came }
    by (inr a) = record { from = b.second; to = b.first; accepted = a; at_from = b.forth.some; at_to = b.back.some; forth = b.back.came; back = b.forth.came }
