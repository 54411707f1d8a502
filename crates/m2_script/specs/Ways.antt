-- Links that are up, as their two ways. This project's own.
use Rattle.std.specs.Prelude.{ℕ, ◌-◌, ◌==◌, ◌&&◌, Bool, if◌then◌else◌, List, [], ◌∷◌, count_by, slice_get, Option, Some, None}
use Rattle.m2_bytes.specs.Items.{Holding}
use Rattle.m2_dispatch.specs.Heard.{Heard, is_message_from}
use Rattle.m2_dispatch.specs.declared.logged.Logged.{Logged}
use Rattle.m2_record.specs.RecordNow.{RecordNow}
use Rattle.m2_scenario.specs.Report.{heard_in}
use Rattle.m2_scenario.specs.declared.link.Link.{Link}
use Rattle.m2_script.specs.Outcome.{is_down, is_post_step, is_up, posts_at}
use Rattle.m2_script.specs.Script.{RunNow}
use Rattle.m2_script.specs.declared.ways.Way.{Way}

-- ---- of a record

-- it is towards this node, and was marked down
abbrev pub is_down_to : ℕ → RecordNow → Bool
is_down_to y r = (r.place == y) && is_down r

-- how many posts it planned, if it is towards this node
abbrev pub posts_to : ℕ → RecordNow → ℕ
posts_to y r = if r.place == y then count_by is_post_step r.plan else 0

-- ---- of a run

abbrev pub way_of : {D : Type 0} → RunNow D → (x y : ℕ) → Way
way_of s x y = record { from = x; to = y; posts = posts_at s x y }

-- both ways over a link that is up
abbrev pub ways_over : {D : Type 0} → RunNow D → Link → List Way
ways_over s l = if is_up s l then way_of s l.a l.b ∷ way_of s l.b l.a ∷ [] else []

-- what a node heard, if there is one
abbrev pub heard_if : Option (Holding Logged) → List Heard
heard_if None = []
heard_if (Some log) = heard_in log

-- how many posts of a way weren't dispatched, where these are the logs of all nodes
abbrev pub left_of : List (Holding Logged) → Way → ℕ
left_of logs w = w.posts - count_by (is_message_from w.from) (heard_if (slice_get logs w.to))
