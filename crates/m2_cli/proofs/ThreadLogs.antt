-- What is printed of a run on threads is the same by what the dispatchers were called with and by what the event threads have handed on: a
-- dispatcher keeps the order of each thread, and each peer is at home with one.
use Rattle.std.proofs.Common.{◌≡◌, ℕ, suc, ◌+◌, ◌==◌, ◌||◌, Bool, true, false, filter, List, [], ◌∷◌, ◌++◌, length, map, Some, refl, sym, ap, ◌∙◌, arith}
use Rattle.std.specs.Prelude.{slice_get}
use Rattle.std.specs.List.{AllByRecursion, flat_map, list_any, range_with_len, zip}
use Rattle.std.proofs.lemmas.Bool.{eqb-true, false≢true}
use Rattle.std.proofs.lemmas.List.{map-append}
use Rattle.std.proofs.lemmas.List.Elements.{filter-append}
use Rattle.m2_scenario.specs.m2_dispatch.m2_queues.ByRank.{by_rank}
use Rattle.m2_scenario.specs.Report.{is_reset_by, line_of, name_of, node_lines, rank_of, report_of, sorted_of}
use Rattle.m2_scenario.specs.Text.{Word}
use Rattle.m2_scenario.specs.declared.line.Line.{Line}
use Rattle.m2_scenario.specs.declared.link.Link.{Link}
use Rattle.m2_scenario.specs.declared.node.Node.{Node}
use Rattle.m2_scenario.specs.m2_dispatch.Heard.{Heard, heard_by, heard_of, is_message_from, message, peer_of, reset}
use Rattle.m2_scenario.specs.m2_dispatch.declared.logged.Logged.{Logged}
use Rattle.m2_exact.specs.m2_script.m2_center.Center.{CenterNow}
use Rattle.m2_exact.specs.m2_script.m2_record.RecordNow.{RecordNow}
use Rattle.m2_run.specs.m2_node.Handing.{AreHeardAtEnd, handed_by, heard_at_once, heard_in_order}
use Rattle.m2_run.specs.m2_node.Homes.{home_at}
use Rattle.m2_run.specs.m2_node.Lists.{SideBySide, joined}
use Rattle.m2_run.specs.m2_node.Nodes.{RunNodeNow, queued_in}
use Rattle.m2_run.specs.m2_node.Way.{IsNodeOf}
use Rattle.m2_run.specs.m2_links_go_on.OfPeers.{IsPeerOf}
use Rattle.m2_run.proofs.m2_node.Merging.{AreHomed, homed_alike}
use Rattle.m2_cli.proofs.ThreadNodes.{at_home}
use Rattle.m2_fabric.proofs.m2_lemmas.Lists.{flat_map_same}

abbrev Center : Type 0
Center = CenterNow (List Logged)

-- ---- calls that are printed alike

-- sorted, what is heard of each node is the same
abbrev pub Alike : (h g : List Heard) → Type 0
Alike h g = (p : ℕ) → sorted_of h p ≡ sorted_of g p

lines_alike : (names : List Word) (xs : List Node) (hs gs : List (List Heard)) → SideBySide Alike hs gs →
    flat_map (λ p. node_lines true names (name_of p.0) p.1) (zip xs hs) ≡ flat_map (λ p. node_lines true names (name_of p.0) p.1) (zip xs gs)
lines_alike names [] hs gs all = refl
lines_alike names (x ∷ xs) [] [] all = refl
lines_alike names (x ∷ xs) [] (g ∷ gs) all = absurd all
lines_alike names (x ∷ xs) (h ∷ hs) [] all = absurd all
lines_alike names (x ∷ xs) (h ∷ hs) (g ∷ gs) all =
    let its : node_lines true names (name_of x) h ≡ node_lines true names (name_of x) g =
    ap (flat_map (line_of names (name_of x))) (flat_map_same (sorted_of h) (sorted_of g) all.0 (range_with_len 0 (length names))) in
    ap (λ ls. ls ++ flat_map (λ p. node_lines true names (name_of p.0) p.1) (zip xs hs)) its ∙ ap (λ ls. node_lines true names (name_of x) g ++ ls) (lines_alike names xs hs gs all.1)

pub report_alike : (nodes : List Node) (hs gs : List (List Heard)) → SideBySide Alike hs gs → report_of true nodes hs ≡ report_of true nodes gs
report_alike nodes hs gs all = lines_alike (map name_of nodes) nodes hs gs all

-- ---- by where peers are at home

from_it : (p : ℕ) (h : Heard) → is_message_from p h ≡ true → peer_of h ≡ p
from_it p (message peer key number life m) e = eqb-true peer p e
from_it p (reset peer) e = absurd (false≢true e)

by_it : (p : ℕ) (h : Heard) → is_reset_by p h ≡ true → peer_of h ≡ p
by_it p (message peer key number life m) e = absurd (false≢true e)
by_it p (reset peer) e = eqb-true peer p e

joined_handed : (cs : List Center) → joined (map handed_by cs) ≡ heard_by (flat_map (λ (c : Center). c.queued.inner) cs)
joined_handed [] = refl
joined_handed (c ∷ cs) = ap (λ hs. handed_by c ++ hs) (joined_handed cs) ∙ sym (map-append heard_of c.queued.inner (flat_map (λ (d : Center). d.queued.inner) cs))

module _ (home : ℕ → ℕ) where
  -- a peer of records that are all at home there is so too
  peer_home : (j p : ℕ) (rs : List RecordNow) → AllByRecursion (λ (r : RecordNow). home r.place ≡ j) rs → IsPeerOf rs p → home p ≡ j
  peer_home j p [] all is = absurd (false≢true is)
  peer_home j p (r ∷ rs) all is = go (r.place == p) refl (peer_home j p rs all.1) is
    where
      go : (b : Bool) → (r.place == p) ≡ b → (IsPeerOf rs p → home p ≡ j) → (b || list_any (λ (q : RecordNow). q.place == p) rs) ≡ true → home p ≡ j
      go true e rest h = ap home (sym (eqb-true r.place p e)) ∙ all.0
      go false e rest h = rest h

  peers_home : (j : ℕ) (rs : List RecordNow) (hs : List Heard) → AllByRecursion (λ (r : RecordNow). home r.place ≡ j) rs → AllByRecursion (λ (h : Heard). IsPeerOf rs (peer_of h)) hs →
      AllByRecursion (λ (h : Heard). home (peer_of h) ≡ j) hs
  peers_home j rs [] all its = tt
  peers_home j rs (h ∷ hs) all its = (peer_home j (peer_of h) rs all its.0, peers_home j rs hs all its.1)

  module _ (n : RunNodeNow) (heard : List Heard) (homed : AreHomed (λ (h : Heard). home (peer_of h)) 0 (map handed_by n.centers)) (is : AreHeardAtEnd n heard) where
    one_peer : (q : Heard → Bool) (p : ℕ) → ((h : Heard) → q h ≡ true → peer_of h ≡ p) → filter q heard ≡ filter q (heard_in_order n)
    one_peer q p only =
        ap (filter q) is.both ∙ filter-append q (heard_at_once n) is.queued
        ∙ ap (λ hs. filter q (heard_at_once n) ++ hs)
        (homed_alike (λ (h : Heard). home (peer_of h)) q (home p) (λ h e. ap home (only h e)) (map handed_by n.centers) is.queued homed is.handed ∙ ap (filter q) (joined_handed n.centers))
        ∙ sym (filter-append q (heard_at_once n) (heard_by (queued_in n)))

    pub are_alike : Alike heard (heard_in_order n)
    are_alike p =
        ap (λ hs. by_rank rank_of hs ++ filter (is_reset_by p) heard) (one_peer (is_message_from p) p (from_it p))
        ∙ ap (λ hs. by_rank rank_of (filter (is_message_from p) (heard_in_order n)) ++ hs) (one_peer (is_reset_by p) p (by_it p))

module _ (may_give : ℕ → Type 0) (moment : ℕ) (nodes : List Node) (links : List Link) (lines : List Line) (k : ℕ) (x : Node) (n : RunNodeNow) (is : IsNodeOf may_give moment nodes links lines k x n) where
  abbrev its_home : ℕ → ℕ
  its_home place = home_at nodes x.centers place

  homed_from : (j : ℕ) (cs : List Center) → ((i : ℕ) (c : Center) → slice_get cs i ≡ Some c → slice_get n.centers (j + i) ≡ Some c) → AreHomed (λ (h : Heard). its_home (peer_of h)) j (map handed_by cs)
  homed_from j [] at = tt
  homed_from j (c ∷ cs) at =
      let e : slice_get n.centers j ≡ Some c = ap (slice_get n.centers) (let h : j ≡ j + 0 = omega arith in h) ∙ at 0 c refl in (
        peers_home its_home j c.records (handed_by c) (at_home may_give moment nodes links lines k x n is j c e) (is.each j c e).way.peers.queued,
        homed_from (suc j) cs (λ i d f. ap (slice_get n.centers) (let h : suc j + i ≡ j + suc i = omega arith in h) ∙ at (suc i) d f),
      )

  -- of a node of the scenario
  pub node_alike : (heard : List Heard) → AreHeardAtEnd n heard → Alike heard (heard_in_order n)
  node_alike heard = are_alike its_home n heard (homed_from 0 n.centers (λ i c e. ap (slice_get n.centers) (let h : 0 + i ≡ i = omega arith in h) ∙ e))

-- of all
pub all_alike : (ns : List RunNodeNow) (hs : List (List Heard)) → ((k : ℕ) (n : RunNodeNow) → slice_get ns k ≡ Some n → (heard : List Heard) → AreHeardAtEnd n heard → Alike heard (heard_in_order n)) →
    SideBySide AreHeardAtEnd ns hs → SideBySide Alike hs (map heard_in_order ns)
all_alike [] [] each all = tt
all_alike [] (h ∷ hs) each all = absurd all
all_alike (n ∷ ns) [] each all = absurd all
all_alike (n ∷ ns) (h ∷ hs) each all = (each 0 n refl h all.0, all_alike ns hs (λ k. each (suc k)) all.1)
