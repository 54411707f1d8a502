-- What is told of a run: what the dispatchers of each node were called with, and how many posts weren't dispatched. That a node's
-- calls come in the order of its turns, in a turn those at once before those of the queue, and what counts as left, are rules of the
-- runtime; the rest is this project's own.
use Rattle.std.specs.Prelude.{ℕ, ◌+◌, ◌-◌, ◌==◌, ◌&&◌, ◌||◌, not, Bool, true, false, if◌then◌else◌, List, [], ◌∷◌, ◌++◌, length, filter, map, take, drop, slice_get, Option, Some, None, sum_by, count_by}
use Rattle.std.specs.List.{list_any, range_with_len}
use Rattle.m2_dispatch.specs.Heard.{Heard, is_message_from}
use Rattle.m2_journal.specs.declared.entry.Entry.{Entry}
use Rattle.m2_journal.specs.declared.entry.Entry.TheVariants as entry
use Rattle.m2_journal.specs.declared.facts.PlanStep.{PlanStep}
use Rattle.m2_journal.specs.declared.facts.PlanStep.TheVariants as step
use Rattle.m2_record.specs.RecordNow.{RecordNow}
use Rattle.m2_cluster.specs.Node.{NodeNow}
use Rattle.m2_scenario.specs.declared.link.Link.{Link}
use Rattle.m2_script.specs.declared.calls.TurnCalls.{TurnCalls}
use Rattle.m2_script.specs.Script.{RunNow}

-- ---- what a node heard

-- the turns of the node at this place
abbrev pub of_node : ℕ → List TurnCalls → List TurnCalls
of_node k calls = filter (λ (c : TurnCalls). c.node == k) calls

-- the calls of both dispatchers, turn by turn; behind the last turn what is left of either
abbrev pub in_turns : {X : Type 0} → List TurnCalls → (fast queued : List X) → List X
in_turns [] fast queued = fast ++ queued
in_turns (c ∷ cs) fast queued = take c.fast fast ++ (take c.queued queued ++ in_turns cs (drop c.fast fast) (drop c.queued queued))

-- of the node at this place, if there is one
abbrev pub heard_of_node : {D : Type 0} → (D → List Heard) → ℕ → List TurnCalls → Option (NodeNow D) → List Heard
heard_of_node heard k calls None = []
heard_of_node heard k calls (Some n) = in_turns (of_node k calls) (heard n.center.out.fast) (heard n.center.queued.inner)

abbrev pub heard_at : {D : Type 0} → (D → List Heard) → RunNow D → ℕ → List Heard
heard_at heard s k = heard_of_node heard k s.calls (slice_get s.cluster.nodes k)

-- of all nodes, in order
abbrev pub all_heard : {D : Type 0} → (D → List Heard) → RunNow D → List (List Heard)
all_heard heard s = map (heard_at heard s) (range_with_len 0 (length s.cluster.nodes))

-- ---- which links are up

abbrev pub is_down_entry : Entry → Bool
is_down_entry (entry.Down planned) = true
is_down_entry _ = false

-- the record was marked down
abbrev pub is_down : RecordNow → Bool
is_down r = list_any is_down_entry r.journal

-- the records of the node at a place, if there is one
abbrev pub records_at : {D : Type 0} → Option (NodeNow D) → List RecordNow
records_at None = []
records_at (Some n) = n.center.records

-- a record of node x towards node y was
abbrev pub is_down_at : {D : Type 0} → RunNow D → (x y : ℕ) → Bool
is_down_at s x y = list_any (λ (r : RecordNow). (r.place == y) && is_down r) (records_at (slice_get s.cluster.nodes x))

abbrev pub is_lossless : Link → Bool
is_lossless l = not (l.of_a.lossy || l.of_b.lossy)

-- the link is lossless, and neither end was marked down
abbrev pub is_up : {D : Type 0} → RunNow D → Link → Bool
is_up s l = is_lossless l && not (is_down_at s l.a l.b || is_down_at s l.b l.a)

-- ---- how many posts are left

abbrev pub is_post_step : PlanStep → Bool
is_post_step (step.Post m) = true
is_post_step _ = false

-- how many posts node x planned towards node y
abbrev pub posts_at : {D : Type 0} → RunNow D → (x y : ℕ) → ℕ
posts_at s x y = sum_by (λ (r : RecordNow). if r.place == y then count_by is_post_step r.plan else 0) (records_at (slice_get s.cluster.nodes x))

-- how many messages of node x the dispatchers of node y were called with
abbrev pub messages_at : {D : Type 0} → (D → List Heard) → RunNow D → (x y : ℕ) → ℕ
messages_at heard s x y = count_by (is_message_from x) (heard_at heard s y)

-- how many posts of x to y weren't dispatched
abbrev pub left_from : {D : Type 0} → (D → List Heard) → RunNow D → (x y : ℕ) → ℕ
left_from heard s x y = posts_at s x y - messages_at heard s x y

abbrev pub left_over : {D : Type 0} → (D → List Heard) → RunNow D → Link → ℕ
left_over heard s l = if is_up s l then left_from heard s l.a l.b + left_from heard s l.b l.a else 0

-- over all lossless links of which neither end was marked down
abbrev pub left_in : {D : Type 0} → (D → List Heard) → List Link → RunNow D → ℕ
left_in heard links s = sum_by (left_over heard s) links
