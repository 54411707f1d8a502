-- Where a node acts, what holds always holds still: of the others nothing changed.
use Rattle.std.proofs.Common.{◌≡◌, ℕ, Bool, true, false, Some, refl, sym, ap, subst, ◌∙◌, ◌⊎◌}
use Rattle.std.specs.Prelude.{◌==◌, IsSome, slice_get}
use Rattle.std.specs.List.{AllByRecursion}
use Rattle.std.proofs.lemmas.Bool.{eq-eqb, eqb-true}
use Rattle.m2_links_go_on.specs.m2_growth.AskLaws.{ArrivalsAreTheOpeners}
use Rattle.m2_fabric.specs.declared.socket.SocketId.{SocketId}
use Rattle.m2_fabric.specs.Sockets.{goes_to}
use Rattle.m2_links_go_on.specs.m2_growth.Holding.{Holding, all_ends}
use Rattle.m2_links_go_on.specs.m2_growth.InStepLaws.{StayMet, TurnsStayInStep, TurnsStayMet}
use Rattle.m2_script.proofs.Lists.{get_other, get_set}
use Rattle.m2_script.specs.m2_record.Sources.{end_at}
use Rattle.m2_fabric.specs.InStep.{IsInStep, SeenFabric}
use Rattle.m2_fabric.specs.Kept.{directions, is_kept}
use Rattle.m2_fabric.specs.Meeting.{acceptor}
use Rattle.m2_fabric.specs.SimFabric.{AreApart}
use Rattle.m2_promise.specs.Running.{HasAskedPeer, IsNodeAt, IsRunning, NodeActs, RunNow}
use Rattle.m2_promise.proofs.Asking.{still_asked, was_there}
use Rattle.m2_promise.proofs.Openers.{HasEnd, some_end}
use Rattle.m2_fabric.proofs.m2_lemmas.Booleans.{false_isnt_true}

module _ (i : ℕ) (old new : RunNow) (acts : NodeActs i old new) where
  -- what holds of the node that acts, as it is behind it, and of each other holds of all
  pub by_place : (P : ℕ → Holding → Type 0) → P i acts.behind → ((n : ℕ) (h : Holding) → slice_get old.holdings n ≡ Some h → P n h) → (n : ℕ) (h : Holding) → slice_get new.holdings n ≡ Some h → P n h
  by_place P this others n h there = by (n == i) refl
    where
      by : (b : Bool) → (n == i) ≡ b → P n h
      by true is =
          let same : n ≡ i = eqb-true n i is in
          let now : slice_get new.holdings n ≡ Some acts.behind =
          ap (slice_get new.holdings) same ∙ ap (λ l. slice_get l i) acts.is ∙ get_set old.holdings i acts.before acts.behind acts.was in
          let it : acts.behind ≡ h = cc in
          subst (λ g. P n g) it (subst (λ m. P m acts.behind) (sym same) this)
      by false is =
          others n h (sym (ap (λ l. slice_get l n) acts.is ∙ get_other old.holdings i n acts.behind (λ e. false_isnt_true (sym is ∙ eq-eqb n i e))) ∙ there)

abbrev HasArrived : SeenFabric → Holding → Type 0
HasArrived fabric h = (k : SocketId) → goes_to h.port.at k ≡ true → IsSome (end_at (all_ends h) k) → is_kept k fabric.pairs ≡ true

abbrev AreKeptBetween : SeenFabric → Type 0
AreKeptBetween fabric = AllByRecursion (λ d. (acceptor fabric.nodes d.from d.id ≡ Some d.to) ⊎ (acceptor fabric.nodes d.to d.id ≡ Some d.from)) (directions fabric.pairs)

pub keeps_running : TurnsStayInStep → TurnsStayMet → ArrivalsAreTheOpeners → (i : ℕ) (old new : RunNow) → IsRunning old → NodeActs i old new → IsRunning new
keeps_running in_step met openers i old new run acts = record {
  apart = subst (λ (f : SeenFabric). AreApart f.nodes) (sym acts.fabric) run.apart;
  in_step = subst (λ (f : SeenFabric). IsInStep (record { fabric = f; holder = new.holder })) (sym acts.fabric) (in_step old.fabric old.holder new.holder acts.ends run.met.ends run.in_step);
  met = subst (λ (f : SeenFabric). StayMet f new.holder) (sym acts.fabric) (met old.fabric old.holder new.holder acts.ends run.met);
  holds = acts.holds;
  between = record {
    kept = subst AreKeptBetween (sym acts.fabric) run.between.kept;
    arrived = by_place i old new acts (λ n h. HasArrived new.fabric h) arrived (λ n h there. subst (λ f. HasArrived f h) (sym acts.fabric) (run.between.arrived n h there));
  };
  nodes = by_place i old new acts (λ n h. IsNodeAt new.fabric.nodes n h) acts.node (λ n h there. subst (λ (f : SeenFabric). IsNodeAt f.nodes n h) (sym acts.fabric) (run.nodes n h there));
  asked = by_place i old new acts (λ n h. AllByRecursion HasAskedPeer h.records) (still_asked i old new openers run acts) (λ n h there. run.asked n h there);
}
  where
    arrived : HasArrived new.fabric acts.behind
    arrived k goes some =
        let was : HasEnd acts.before k = was_there i old new openers run acts k goes (some_end acts.behind k some) in
        ap (λ (f : SeenFabric). is_kept k f.pairs) acts.fabric
        ∙ run.between.arrived i acts.before acts.was k (ap (λ a. goes_to a k) (sym acts.grows.grows.at) ∙ goes) (subst (λ o. IsSome o) (sym was.at) refl)
