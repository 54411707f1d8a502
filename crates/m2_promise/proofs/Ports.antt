-- Where a node takes its turn, or plans a step, each socket that its port made has its end, and those that wait do so as they did.
-- So it is for a cluster of which one node does.
use Rattle.std.proofs.Common.{◌≡◌, ◌⊎◌, inl, inr, ℕ, ◌&&◌, not, true, List, ◌++◌, slice_get, slice_set, Option, Some, Ok, Err, refl, sym, ap, subst, ◌∙◌}
use Rattle.std.specs.Prelude.{IsSome, is_some}
use Rattle.m2_dispatch.specs.Heard.{Heard}
use Rattle.m2_fabric.specs.declared.socket.SocketId.{SocketId}
use Rattle.m2_fabric.specs.Sockets.{is_among}
use Rattle.m2_links_go_on.specs.m2_weave.m2_journal.declared.facts.PlanStep.{PlanStep}
use Rattle.m2_script.specs.m2_record.RecordNow.{ids_of}
use Rattle.m2_script.specs.m2_record.Sources.{end_at}
use Rattle.m2_dispatch.specs.m2_shared.declared.throttles.Throttles.{Throttles}
use Rattle.m2_script.specs.m2_center.m2_turn.RecordTurn.{Means}
use Rattle.m2_script.specs.m2_center.Center.{CenterNow}
use Rattle.m2_script.specs.m2_center.CenterTurn.{AndThen, Answer, AcceptsSo, AnswersSo, DeliversSo, Part, StepsSo, TakesTurn, accepting_in, all_amid_in}
use Rattle.m2_script.specs.m2_center.Plans.{PlansIn}
use Rattle.m2_script.specs.m2_center.Reaching.{ends_in}
use Rattle.m2_script.specs.m2_cluster.Cluster.{ClusterNow, OneDoes, address_of, end_of, held_by, made_by, waits_at}
use Rattle.m2_script.specs.m2_cluster.Node.{NodeNow, end_in, has_in, waits_in}
use Rattle.m2_links_go_on.specs.Center.{holding_of}
use Rattle.m2_links_go_on.proofs.Turning.{accepts, answers, plan_grows, steps}
use Rattle.m2_links_go_on.specs.m2_growth.Holding.{AreOwn, all_ends}
use Rattle.m2_links_go_on.specs.m2_growth.Passed.{AllPortsStand}
use Rattle.m2_links_go_on.specs.m2_growth.Ports.{PortStands, waits_there}
use Rattle.m2_links_go_on.proofs.m2_growth.Accepts.{accepts_stand}
use Rattle.m2_links_go_on.proofs.m2_growth.Dialled.{records_stand}
use Rattle.m2_links_go_on.proofs.m2_growth.InStepStanding.{Stands, both_by, both_then, stands_same, waits_still}
use Rattle.m2_promise.proofs.KeptLists.{of_set}
use Rattle.m2_links_go_on.proofs.OneGrows.{same_waiting}

module _ {D : Type 0} where
  -- ---- a center

  abbrev AllStand : Part D → Type 0
  AllStand part = (a : Answer) (old new : CenterNow D) → part a old new → AreOwn (holding_of old) → Stands (holding_of old) (holding_of new)

  and_then : (first second : Part D) → AllStand first → AllStand second → AllStand (AndThen first second)
  and_then first second f s (Ok done) old new h own =
      let one = f (Ok tt) old h.0 h.1 own in
      both_then (holding_of old) (holding_of h.0) (holding_of new) one (s (Ok tt) h.0 new h.2 one.grows.own)
  and_then first second f s (Err e) old new (inl h) own = f (Err e) old new h own
  and_then first second f s (Err e) old new (inr h) own =
      let one = f (Ok tt) old h.0 h.1 own in
      both_then (holding_of old) (holding_of h.0) (holding_of new) one (s (Err e) h.0 new h.2 one.grows.own)

  accepts_so : AllStand AcceptsSo
  accepts_so a old new h own = record {
    grows = accepts a old new h own;
    port = subst (λ rs. PortStands (holding_of old) (record { port = new.port; records = rs; halves = new.halves })) (sym (ap (λ (c : CenterNow D). c.records) h.2.only))
        (accepts_stand old.entity h.0 old.records (accepting_in old) (accepting_in new) h.2.accepts own);
  }

  answers_so : (E : Type 0) (m : Means) → AllStand (AnswersSo E m)
  answers_so E m a old new h own = record {
    grows = answers E m a old new h own;
    port = stands_same (holding_of old) (holding_of new) (ap (λ (c : CenterNow D). c.port) h.2.only);
  }

  steps_so : (heard : D → List Heard) (m : Means) → AllStand (StepsSo heard m)
  steps_so heard m a old new h own = record {
    grows = steps heard m a old new h own;
    port = subst (λ g. PortStands (holding_of old) (record { port = new.port; records = new.records; halves = g })) (sym (ap (λ (c : CenterNow D). c.halves) h.2.only))
        (records_stand heard m h.0 old.halves (all_amid_in old) (all_amid_in new) h.2.turns own);
  }

  delivers_so : (heard : D → List Heard) (m : Means) → AllStand (DeliversSo heard m)
  delivers_so heard m a old new h own = both_by (holding_of old) (holding_of new) (ap holding_of h.2.only) own

  pub turn_stands : (E : Type 0) (heard : D → List Heard) (m : Means) → AllStand (TakesTurn E heard m)
  turn_stands E heard m =
      and_then AcceptsSo (AndThen (AnswersSo E m) (AndThen (StepsSo heard m) (DeliversSo heard m))) accepts_so
      (and_then (AnswersSo E m) (AndThen (StepsSo heard m) (DeliversSo heard m)) (answers_so E m)
      (and_then (StepsSo heard m) (DeliversSo heard m) (steps_so heard m) (delivers_so heard m)))

  pub plan_stands : (answer : Answer) (peer : ℕ) (x : PlanStep) (now : ℕ) (throttles : Throttles) (old new : CenterNow D) → PlansIn answer peer x now throttles old new →
      AreOwn (holding_of old) → Stands (holding_of old) (holding_of new)
  plan_stands answer peer x now throttle old new p own = record {
    grows = plan_grows D answer peer x now throttle old new p own;
    port = stands_same (holding_of old) (holding_of new) (ap (λ (c : CenterNow D). c.port) p.only);
  }

  -- ---- what a node shows of it

  same_ends : (c : CenterNow D) (k : SocketId) → end_at (all_ends (holding_of c)) k ≡ end_in c k
  same_ends c k = ap (λ w. end_at (ends_in c ++ w) k) (same_waiting c.port.waiting)

  same_waits : (c : CenterNow D) (k : SocketId) → waits_there (holding_of c) k ≡ waits_in c k
  same_waits c k = ap (λ w. is_among k (ids_of w) && not (has_in c k)) (same_waiting c.port.waiting)

  -- the one port, as it was and as it is
  record OneStands (o p : Option (NodeNow D)) : Type 0 where
    at : address_of p ≡ address_of o
    made : (k : SocketId) → is_among k (made_by p) ≡ true → (is_among k (made_by o) ≡ true) ⊎ IsSome (end_of p k)
    waits : (k : SocketId) → waits_at p k ≡ true → (waits_at o k ≡ true) × (end_of p k ≡ end_of o k)

  as_it_was : (o : Option (NodeNow D)) → OneStands o o
  as_it_was o = record { at = refl; made = λ k is. inl is; waits = λ k is. (is, refl) }

  here : (n m : NodeNow D) → AreOwn (holding_of n.center) → Stands (holding_of n.center) (holding_of m.center) → OneStands (Some n) (Some m)
  here n m own stands = record {
    at = stands.grows.grows.at;
    made = λ k is. by k (stands.port.made k is);
    waits = λ k is.
        let was = waits_still (holding_of n.center) (holding_of m.center) own stands.port k (same_waits m.center k ∙ is) in
        (sym (same_waits n.center k) ∙ was.0, sym (same_ends m.center k) ∙ (was.1 ∙ same_ends n.center k));
  }
    where
      by : (k : SocketId) → (is_among k n.center.port.made ≡ true) ⊎ IsSome (end_at (all_ends (holding_of m.center)) k) → (is_among k n.center.port.made ≡ true) ⊎ IsSome (end_in m.center k)
      by k (inl was) = inl was
      by k (inr there) = inr (sym (ap is_some (same_ends m.center k)) ∙ there)

  -- ---- a cluster of which one node does

  pub all_ports : (i : ℕ) (how : NodeNow D → NodeNow D → Type 0) (old new : ClusterNow D) (does : OneDoes i how old new) → AreOwn (holding_of does.before.center) →
      Stands (holding_of does.before.center) (holding_of does.behind.center) → AllPortsStand (held_by old.nodes) (held_by new.nodes)
  all_ports i how old new does own stands =
      subst (λ (c : ClusterNow D). AllPortsStand (held_by old.nodes) (held_by c.nodes)) (sym does.only)
      (record { at = λ k. (each k).at; made = λ k. (each k).made; waits = λ k. (each k).waits })
    where
      each : (k : ℕ) → OneStands (slice_get old.nodes k) (slice_get (slice_set old.nodes i does.behind) k)
      each = of_set OneStands old.nodes i does.before does.behind does.was (here does.before does.behind own stands) as_it_was
