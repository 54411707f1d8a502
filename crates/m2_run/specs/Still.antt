-- Nodes of which nothing is to come. This project's own; that a run is still so is a rule of the runtime.
use Rattle.std.specs.Prelude.{◌≡◌, ◌≢◌, ◌⊎◌, ℕ, ◌==◌, ◌&&◌, ◌||◌, ◌≤◌, ◌<◌, not, Bool, true, false, if◌then◌else◌, List, [], ◌∷◌, count_by, length, slice_get, sum_by, Option, Some, None}
use Rattle.std.specs.List.{AllByRecursion, flat_map, range_with_len}
use Rattle.std.specs.Option.{option_map}
use Rattle.m2_addr.specs.declared.addr.Addr.{Addr}
use Rattle.m2_node.specs.m2_script.m2_center.Center.{CenterNow}
use Rattle.m2_node.specs.m2_script.m2_center.Idle.{is_idle}
use Rattle.m2_dispatch.specs.declared.logged.Logged.{Logged}
use Rattle.m2_fabric.specs.End.{SeenEnd}
use Rattle.m2_fabric.specs.Log.{Log}
use Rattle.m2_fabric.specs.Sockets.{goes_to, is_among}
use Rattle.m2_fabric.specs.declared.socket.SocketId.{SocketId}
use Rattle.m2_node.specs.m2_script.m2_record.Sources.{end_at}
use Rattle.m2_scenario.specs.declared.node.Node.{Node}
use Rattle.m2_trail.specs.Arrivals.{LooseNow}
use Rattle.m2_node.specs.Nodes.{KeptNow, RunNodeNow, ends_of_node, made_by, nodes_of}

-- ---- nodes by their places

abbrev pub started_in : Option Node → Bool
started_in None = false
started_in (Some x) = x.started

-- the node at this place is on
abbrev pub is_on : List Node → ℕ → Bool
is_on nodes k = started_in (slice_get nodes k)

-- ---- idle

-- each center of the node at place k is idle at this moment, where it is on
abbrev pub IsIdleAt : (now : ℕ) → List Node → List RunNodeNow → ℕ → Type 0
IsIdleAt now nodes kept k = (n : RunNodeNow) → slice_get kept k ≡ Some n → is_on nodes k ≡ true → AllByRecursion (λ (c : CenterNow (List Logged)). is_idle now c ≡ true) n.centers

-- ---- sockets between nodes

-- what a node's end of a socket did
abbrev pub log_in : RunNodeNow → SocketId → Option Log
log_in n s = option_map (λ (e : SeenEnd). e.log) (end_at (ends_of_node n) s)

-- Of a socket that one node opened to another: the opener's end is closed, or there is none; or both ends are open, and each has got
-- all that the other has put; or the other node has none.
abbrev pub IsMet : (near far : Option Log) → Type 0
IsMet None far = Unit {0}
IsMet (Some e) None = Unit {0}
IsMet (Some e) (Some f) = (e.closed ≡ true) ⊎ ((e.closed ≡ false) × (f.closed ≡ false) × (e.got ≡ f.put) × (f.got ≡ e.put))

-- each of these that n opened to the node m at this address is met
abbrev pub AreMetOf : Addr → (n m : RunNodeNow) → List SocketId → Type 0
AreMetOf at n m made = AllByRecursion (λ (s : SocketId). goes_to at s ≡ true → IsMet (log_in n s) (log_in m s)) made

-- each that it opened there is
abbrev pub IsMetFrom : Addr → (n m : RunNodeNow) → Type 0
IsMetFrom at n m = AreMetOf at n m (made_by n)

-- each that the node at place k opened to that at place j is, where both are on
abbrev pub IsMetAt : List Node → List RunNodeNow → (k j : ℕ) → Type 0
IsMetAt nodes kept k j = (y : Node) (n m : RunNodeNow) → slice_get kept k ≡ Some n → slice_get kept j ≡ Some m → slice_get nodes j ≡ Some y →
    is_on nodes k ≡ true → is_on nodes j ≡ true → IsMetFrom y.at n m

-- ---- sockets of which the other node has no end

-- the opener's end is open and the other node has none
abbrev pub is_missing : (near far : Option Log) → Bool
is_missing (Some e) None = not e.closed
is_missing near far = false

abbrev pub is_missing_to : Addr → (n m : RunNodeNow) → SocketId → Bool
is_missing_to at n m s = goes_to at s && is_missing (log_in n s) (log_in m s)

-- how many that n opened to the node m at this address
abbrev pub missing_in : Addr → (n m : RunNodeNow) → ℕ
missing_in at n m = count_by (is_missing_to at n m) (made_by n)

abbrev pub missing_between : Option Node → (near far : Option RunNodeNow) → ℕ
missing_between (Some y) (Some n) (Some m) = missing_in y.at n m
missing_between _ _ _ = 0

-- how many that the node at place k, where it is on, opened to another one at place j
abbrev pub missing_from : List Node → List RunNodeNow → (j k : ℕ) → ℕ
missing_from nodes kept j k = if (k == j) || not (is_on nodes k) then 0 else missing_between (slice_get nodes j) (slice_get kept k) (slice_get kept j)

-- how many that all nodes opened
abbrev pub missing_at : List Node → List RunNodeNow → (j : ℕ) → ℕ
missing_at nodes kept j = sum_by (missing_from nodes kept j) (range_with_len 0 (length kept))

-- how many the node has refused: at its first thread's port, which alone accepts
abbrev pub refused_by : List (CenterNow (List Logged)) → ℕ
refused_by [] = 0
refused_by (c ∷ cs) = c.port.refused

-- the node at place j, where it is on, lacks at most as many ends as it has refused
abbrev pub IsFoundAt : List Node → List RunNodeNow → ℕ → Type 0
IsFoundAt nodes kept j = (m : RunNodeNow) → slice_get kept j ≡ Some m → is_on nodes j ≡ true → missing_at nodes kept j ≤ refused_by m.centers

-- ---- all of it

-- All centers of nodes that are on are idle at this moment; and each socket that one of the nodes opened to another is met, of which each
-- such node lacks at most as many as it has refused.
pub record AreStill (now : ℕ) (nodes : List Node) (kept : List RunNodeNow) : Type 0 where
  pub idle : (k : ℕ) → IsIdleAt now nodes kept k
  pub met : (k j : ℕ) → k ≢ j → IsMetAt nodes kept k j
  pub found : (j : ℕ) → IsFoundAt nodes kept j

-- of each place below this one
abbrev pub AllBelow : (ℕ → Type 0) → ℕ → Type 0
AllBelow P i = (k : ℕ) → k < i → P k

-- ---- at doors

-- its end is closed; or it waits for what comes, or until more can be written, on a socket that is none of these
abbrev pub IsAtRest : List SocketId → LooseNow → Type 0
IsAtRest made l = (l.end.log.closed ≡ true) ⊎ (((l.end.log.dry ≡ true) ⊎ (l.end.log.blocked ≡ true)) × (is_among l.end.id made ≡ false))

-- No asked socket is on its way to its home. Each half at a door that wasn't asked is closed, or waits for a peer that is none of the
-- nodes: so of each socket between nodes that is open both ends are in centers.
pub record AllRest (kept : List KeptNow) : Type 0 where
  pub on_way : AllByRecursion (λ (n : KeptNow). n.on_way ≡ []) kept
  pub at_door : AllByRecursion (λ (n : KeptNow). AllByRecursion (IsAtRest (flat_map made_by (nodes_of kept))) n.at_door) kept
