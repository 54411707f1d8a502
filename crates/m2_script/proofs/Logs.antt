-- The logs of all nodes, one after another.
use Rattle.std.proofs.Common.{◌≡◌, ℕ, ◌+◌, suc, List, [], ◌∷◌, ◌++◌, length, map, take, drop, Some, refl, sym, ap, ◌∙◌, append_assoc, length-append, arith}
use Rattle.std.specs.List.{range_with_len, slice_get}
use Rattle.std.proofs.lemmas.List.{drop-map, map-append, take-map}
use Rattle.m2_dispatch.specs.declared.logged.Logged.{Logged}
use Rattle.m2_dispatch.specs.Heard.{Heard, heard_by, heard_of}
use Rattle.m2_script.specs.declared.calls.TurnCalls.{TurnCalls}
use Rattle.m2_script.specs.declared.ending.BothLogs.{BothLogs}
use Rattle.m2_bytes.specs.Items.{Holding}
use Rattle.m2_cluster.specs.Node.{NodeNow}
use Rattle.m2_script.specs.Ended.{Both, both_in, both_of}
use Rattle.m2_scenario.specs.Report.{heard_in}
use Rattle.m2_script.specs.Outcome.{all_heard, heard_at, heard_of_node, in_turns, of_node}
use Rattle.m2_script.specs.Script.{RunNow}

-- ---- what the calls tell

pub told_in_turns : {X Y : Type 0} (f : X → Y) (cs : List TurnCalls) (fast queued : List X) → map f (in_turns cs fast queued) ≡ in_turns cs (map f fast) (map f queued)
told_in_turns f [] fast queued = map-append f fast queued
told_in_turns f (c ∷ cs) fast queued =
    let now = take c.queued queued in
    let behind = in_turns cs (drop c.fast fast) (drop c.queued queued) in
    map-append f (take c.fast fast) (now ++ behind)
    ∙ ap (λ ys. map f (take c.fast fast) ++ ys) (map-append f now behind ∙ ap (λ ys. map f now ++ ys) (told_in_turns f cs (drop c.fast fast) (drop c.queued queued)))
    ∙ simp (take-map, drop-map)

-- ---- from the node at a place on

abbrev pub heard_from : ℕ → List TurnCalls → List Both → List (List Heard)
heard_from k calls [] = []
heard_from k calls (b ∷ bs) = in_turns (of_node k calls) (heard_by b.fast) (heard_by b.queued) ∷ heard_from (k + 1) calls bs

from_place : (s : RunNow (List Logged)) (k : ℕ) (ns : List (NodeNow (List Logged))) → ((j : ℕ) → slice_get s.cluster.nodes (k + j) ≡ slice_get ns j) →
    heard_from k s.calls (map both_of ns) ≡ map (heard_at heard_by s) (range_with_len k (length ns))
from_place s k [] h = refl
from_place s k (n ∷ ns) h =
    let none : k + 0 ≡ k = omega arith in
    let here : slice_get s.cluster.nodes k ≡ Some n = ap (slice_get s.cluster.nodes) (sym none) ∙ h 0 in
    let later : (j : ℕ) → slice_get s.cluster.nodes ((k + 1) + j) ≡ slice_get ns j = λ j. (let e : (k + 1) + j ≡ k + suc j = omega arith in ap (slice_get s.cluster.nodes) e ∙ h (suc j)) in
    ap (λ (xs : List Heard). xs ∷ heard_from (k + 1) s.calls (map both_of ns)) (sym (ap (heard_of_node heard_by k s.calls) here))
    ∙ ap (λ (ls : List (List Heard)). heard_at heard_by s k ∷ ls) (from_place s (k + 1) ns later)

pub heard_from_first : (s : RunNow (List Logged)) → heard_from 0 s.calls (map both_of s.cluster.nodes) ≡ all_heard heard_by s
heard_from_first s = from_place s 0 s.cluster.nodes (λ j. (let e : 0 + j ≡ j = omega arith in ap (slice_get s.cluster.nodes) e))

-- ---- one log more

pub next_log : (calls : List TurnCalls) (logs new : List (Holding Logged)) (log : Holding Logged) (from rest : List BothLogs) (b : BothLogs) → from ≡ b ∷ rest →
    new ≡ logs ++ log ∷ [] → log.items ≡ in_turns (of_node (length logs) calls) b.fast.items b.queued.items →
    map heard_in new ++ heard_from (length new) calls (map both_in rest) ≡ map heard_in logs ++ heard_from (length logs) calls (map both_in from)
next_log calls logs new log from rest b e f g =
    let told : heard_in log ≡ in_turns (of_node (length logs) calls) (heard_by b.fast.items) (heard_by b.queued.items) =
    ap heard_by g ∙ told_in_turns heard_of (of_node (length logs) calls) b.fast.items b.queued.items in
    let count : length (logs ++ log ∷ []) ≡ length logs + 1 = length-append logs (log ∷ []) in
    let behind : List (List Heard) = heard_from (length logs + 1) calls (map both_in rest) in
    rw (f, count, e, map-append heard_in logs (log ∷ []))
    (append_assoc (map heard_in logs) (heard_in log ∷ []) behind ∙ ap (λ (h : List Heard). map heard_in logs ++ (h ∷ behind)) told)
