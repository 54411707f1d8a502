-- Where all that nodes heard is of nodes that links join with them, so are their logs.
use Rattle.std.proofs.Common.{◌≡◌, ℕ, ◌+◌, suc, List, [], ◌∷◌, length, map, sym, ap, ◌∙◌, subst, arith}
use Rattle.std.specs.List.{AllByRecursion}
use Rattle.std.proofs.lemmas.List.Elements.{All-from_recursion}
use Rattle.std.proofs.Math.ListN.{length-map}
use Rattle.m2_bytes.specs.Items.{Holding}
use Rattle.m2_scenario.specs.m2_dispatch.declared.logged.Logged.{Logged}
use Rattle.m2_scenario.specs.m2_dispatch.Heard.{Heard, heard_by, peer_of}
use Rattle.m2_scenario.specs.Order.{AreOfJoined, IsPeer, at}
use Rattle.m2_scenario.specs.Report.{AreLogsOf, IsLogOf, IsOfNodes, heard_in}
use Rattle.m2_scenario.specs.declared.link.Link.{Link}
use Rattle.m2_scenario.specs.declared.node.Node.{Node}

module _ (n : ℕ) (links : List Link) where
  log_within : (y : ℕ) (log : List Logged) → AllByRecursion (λ (h : Heard). IsPeer n links y (peer_of h)) (heard_by log) → AllByRecursion (IsOfNodes n) log
  log_within y [] all = tt
  log_within y (l ∷ ls) all = (all.0.within, log_within y ls all.1)

  logs_within : (first : ℕ) (logs : List (Holding Logged)) → ((y : ℕ) → AllByRecursion (λ (h : Heard). IsPeer n links (y + first) (peer_of h)) (at y (map heard_in logs))) →
      AllByRecursion (IsLogOf n) logs
  logs_within first [] all = tt
  logs_within first (log ∷ logs) all =
      let later : (y : ℕ) → y + suc first ≡ suc y + first = λ y. omega arith in (
        All-from_recursion (IsOfNodes n) log.items (log_within (0 + first) log.items (all 0)),
        logs_within (suc first) logs (λ y. subst (λ (k : ℕ). AllByRecursion (λ (h : Heard). IsPeer n links k (peer_of h)) (at y (map heard_in logs))) (sym (later y)) (all (suc y))),
      )

pub logs_are_of_nodes : (nodes : List Node) (links : List Link) (logs : List (Holding Logged)) (heard : List (List Heard)) → map heard_in logs ≡ heard →
    AreOfJoined (length nodes) links heard → AreLogsOf nodes logs
logs_are_of_nodes nodes links logs heard e joined = record {
  each = sym (length-map logs heard_in) ∙ ap (λ (hs : List (List Heard)). length hs) e ∙ joined.places;
  peers = All-from_recursion (IsLogOf (length nodes)) logs (logs_within (length nodes) links 0 logs (λ y.
      let same : y ≡ y + 0 = omega arith in
      subst (λ (k : ℕ). AllByRecursion (λ (h : Heard). IsPeer (length nodes) links k (peer_of h)) (at y (map heard_in logs))) same
      (subst (λ (hs : List (List Heard)). AllByRecursion (λ (h : Heard). IsPeer (length nodes) links y (peer_of h)) (at y hs)) (sym e) (joined.peers y))));
}
