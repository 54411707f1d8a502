-- The two ends of a kept socket, by the nodes that have them: the one's record opened it, and what came to either the other had put.
use Rattle.std.proofs.Common.{◌≡◌, ℕ, true, false, List, ◌++◌, Option, Some, None, refl, sym, ap, subst, ◌∙◌, append_assoc}
use Rattle.std.specs.Prelude.{IfSome, IsSome, is_some, slice_get}
use Rattle.std.specs.Option.{option_map}
use Rattle.m2_fabric.specs.m2_addr.declared.addr.Addr.{Addr}
use Rattle.m2_fabric.specs.declared.socket.SocketId.{SocketId}
use Rattle.m2_fabric.specs.End.{Inflow, SeenEnd}
use Rattle.m2_fabric.specs.Sockets.{goes_to}
use Rattle.m2_links_go_on.specs.m2_growth.Ends.{EndGrowsTo, come_to}
use Rattle.m2_links_go_on.specs.m2_growth.Holding.{Holding, all_ends}
use Rattle.m2_links_go_on.specs.m2_growth.Turn.{CameOfPut}
use Rattle.m2_script.specs.m2_record.Sources.{end_at}
use Rattle.m2_fabric.specs.Kept.{is_kept}
use Rattle.m2_fabric.specs.Meeting.{comes_from}
use Rattle.m2_links_go_on.specs.m2_weave.Later.{GoesOn}
use Rattle.m2_promise.specs.Running.{HoldsAll, IsRunning, RunNow}
use Rattle.m2_promise.proofs.Kept.{IsMet, are_met}
use Rattle.m2_promise.proofs.Openers.{IsOpener, opener_of}
use Rattle.m2_promise.proofs.Places.{IsFromTo, accepted, comes_one, goes_one}
use Rattle.m2_fabric.proofs.m2_lemmas.Booleans.{not_true_is_false, false_isnt_true}

-- ---- what came to an end

-- what an end got is the first of all that came to it, if that is still what came to it before
pub came_first : (v e : SeenEnd) (put : List ℕ) → come_to v ≡ come_to e → IsSome (come_to e) → IfSome (come_to e) (λ bytes. GoesOn bytes put) → GoesOn v.log.got put
came_first v e put same some came = at v.inflow same
  where
    at : (i : Option Inflow) → option_map (λ (i : Inflow). v.log.got ++ i.readable) i ≡ come_to e → GoesOn v.log.got put
    at None none = absurd (false_isnt_true (ap is_some none ∙ some))
    at (Some i) is =
        let on : GoesOn (v.log.got ++ i.readable) put = subst (λ o. IfSome o (λ bytes. GoesOn bytes put)) (sym is) came in
        (i.readable ++ on.0, on.1 ∙ append_assoc v.log.got i.readable on.0)

-- an end that is in memory later was so before
pub in_memory : (o p : Option SeenEnd) (e : SeenEnd) → EndGrowsTo o p → IfSome p (λ f. IsSome f.inflow) → o ≡ Some e → IsSome (come_to e)
in_memory None p e g m h = absurd cc
in_memory (Some x) None e g m h = absurd g
in_memory (Some x) (Some f) e g m h =
    let same : x ≡ e = cc in
    subst (λ (y : SeenEnd). IsSome (come_to y)) same (subst IsSome g.come (at f.inflow m))
  where
    at : (i : Option Inflow) → IsSome i → IsSome (option_map (λ (i : Inflow). f.log.got ++ i.readable) i)
    at None m = m
    at (Some i) m = refl

-- ---- who holds an end

pub record IsHeldAt (x : RunNow) (n : ℕ) (k : SocketId) : Type 0 where
  pub holding : Holding
  pub there : slice_get x.holdings n ≡ Some holding
  pub end : SeenEnd
  pub at : end_at (all_ends holding) k ≡ Some end
  pub is : x.holder.ends n k ≡ Some end

pub held_at : (x : RunNow) → HoldsAll x → (n : ℕ) (k : SocketId) → IsSome (x.holder.ends n k) → IsHeldAt x n k
held_at x all n k some = by (slice_get x.holdings n) refl
  where
    within : (h : Holding) → slice_get x.holdings n ≡ Some h → x.holder.ends n k ≡ end_at (all_ends h) k → (o : Option SeenEnd) → end_at (all_ends h) k ≡ o → IsHeldAt x n k
    within h so is None at = absurd (false_isnt_true (sym (ap is_some (is ∙ at)) ∙ some))
    within h so is (Some e) at = record { holding = h; there = so; end = e; at = at; is = is ∙ at }

    by : (o : Option Holding) → slice_get x.holdings n ≡ o → IsHeldAt x n k
    by None so = absurd (false_isnt_true (sym (ap is_some (all.none n so k)) ∙ some))
    by (Some h) so = within h so (all.ends n h so k) (end_at (all_ends h) k) refl

-- ---- both ends

-- an end, and the other one, of a record that opened the socket
pub record IsCome (x : RunNow) (k : SocketId) (e : SeenEnd) : Type 0 where
  pub from : ℕ
  pub near : Holding
  pub there : slice_get x.holdings from ≡ Some near
  pub comes : comes_from k (Some near.port.at) ≡ true
  pub end : SeenEnd
  pub opener : IsOpener near k end
  pub came : CameOfPut (Some e) (Some end)

-- an end at the node that opened the socket, and the other one
pub record IsGone (x : RunNow) (k : SocketId) (e : SeenEnd) : Type 0 where
  pub to : ℕ
  pub far : Holding
  pub there : slice_get x.holdings to ≡ Some far
  pub goes : goes_to far.port.at k ≡ true
  pub end : SeenEnd
  pub at : end_at (all_ends far) k ≡ Some end
  pub came : CameOfPut (Some e) (Some end)

module _ (x : RunNow) (run : IsRunning x) where
  -- the address at which a node is
  pub address : (n : ℕ) (h : Holding) (a : Addr) → slice_get x.holdings n ≡ Some h → slice_get x.fabric.nodes n ≡ Some a → a ≡ h.port.at
  address n h a there at = let its : slice_get x.fabric.nodes n ≡ Some h.port.at = (run.nodes n h there).at in cc

  -- a node's end is what the holder has
  pub holds : (n : ℕ) (h : Holding) (k : SocketId) (e : SeenEnd) → slice_get x.holdings n ≡ Some h → end_at (all_ends h) k ≡ Some e → x.holder.ends n k ≡ Some e
  holds n h k e there at = run.holds.ends n h there k ∙ at

  module _ (i : ℕ) (h : Holding) (there : slice_get x.holdings i ≡ Some h) (k : SocketId) (kept : is_kept k x.fabric.pairs ≡ true) (e : SeenEnd) (at : end_at (all_ends h) k ≡ Some e) where
    met : IsMet x k
    met = are_met x run.met run.between k kept

    way : IsFromTo x.fabric.nodes met.from met.to k
    way = accepted x.fabric.nodes met.from met.to k met.accepted

    one : IsHeldAt x met.from k
    one = held_at x run.holds met.from k met.at_from

    two : IsHeldAt x met.to k
    two = held_at x run.holds met.to k met.at_to

    comes : comes_from k (Some one.holding.port.at) ≡ true
    comes = subst (λ a. comes_from k (Some a) ≡ true) (address met.from one.holding way.near one.there way.near_at) way.comes

    goes : goes_to two.holding.port.at k ≡ true
    goes = subst (λ a. goes_to a k ≡ true) (address met.to two.holding way.far two.there way.far_at) way.goes

    away : goes_to one.holding.port.at k ≡ false
    away =
        not_true_is_false (goes_to one.holding.port.at k)
        (λ g. way.other (goes_one x.fabric.nodes met.to met.from two.holding.port.at one.holding.port.at k run.apart (run.nodes met.to two.holding two.there).at (run.nodes met.from one.holding one.there).at goes g))

    pub come : goes_to h.port.at k ≡ true → IsCome x k e
    come g =
        let same : met.to ≡ i = goes_one x.fabric.nodes met.to i two.holding.port.at h.port.at k run.apart (run.nodes met.to two.holding two.there).at (run.nodes i h there).at goes g in
        let its : x.holder.ends met.to k ≡ Some e = ap (λ n. x.holder.ends n k) same ∙ holds i h k e there at in
        record {
          from = met.from;
          near = one.holding;
          there = one.there;
          comes = comes;
          end = one.end;
          opener = opener_of x.fabric.nodes met.from one.holding (run.nodes met.from one.holding one.there) k one.end one.at away;
          came = subst (λ o. CameOfPut o (Some one.end)) its (subst (λ o. CameOfPut (x.holder.ends met.to k) o) one.is met.forth);
        }

    pub gone : comes_from k (Some h.port.at) ≡ true → IsGone x k e
    gone c =
        let same : met.from ≡ i = comes_one x.fabric.nodes met.from i one.holding.port.at h.port.at k run.apart (run.nodes met.from one.holding one.there).at (run.nodes i h there).at comes c in
        let its : x.holder.ends met.from k ≡ Some e = ap (λ n. x.holder.ends n k) same ∙ holds i h k e there at in
        record {
          to = met.to;
          far = two.holding;
          there = two.there;
          goes = goes;
          end = two.end;
          at = two.at;
          came = subst (λ o. CameOfPut o (Some two.end)) its (subst (λ o. CameOfPut (x.holder.ends met.from k) o) two.is met.back);
        }
