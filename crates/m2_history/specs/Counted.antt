-- What a side posted, accepted and dispatched of a key, by its plan, its journal and the logs of its node's dispatchers. A key
-- is a priority with a dispatch path, which is Ceph's.
use Rattle.std.specs.Prelude.{ℕ, ◌+◌, Bool, false, if◌then◌else◌, List, [], ◌∷◌, ◌++◌, slice_get, Option, Some}
use Rattle.m2_channel.specs.Observed.{Logs}
use Rattle.m2_dispatch.specs.declared.logged.Logged.{Logged}
use Rattle.m2_dispatch.specs.Heard.{heard_by, is_key}
use Rattle.m2_journal.specs.declared.entry.Entry.{Entry}
use Rattle.m2_journal.specs.declared.entry.Entry.TheVariants as entry
use Rattle.m2_journal.specs.declared.facts.PlanStep.{PlanStep}
use Rattle.m2_journal.specs.declared.facts.PlanStep.TheVariants as step
use Rattle.m2_message.specs.Message.{Content, content_of}
use Rattle.m2_policy.specs.declared.path.Key.{Key}
use Rattle.m2_policy.specs.Path.{path_of}

-- the key of a message at a node that dispatches these kinds at once
abbrev pub key_at : (fast : List ℕ) → Content → Key
key_at fast m = record { priority = m.header.priority; path = path_of m.header.kind fast }

-- ---- posted

-- the message of a step of a plan, if it has one of this key
abbrev pub posted_by : (fast : List ℕ) → Key → Option PlanStep → List Content
posted_by fast key (Some (step.Post m)) = if is_key (key_at fast (content_of m)) key then content_of m ∷ [] else []
posted_by fast key _ = []

-- a post is of the step at its place in the plan
abbrev pub posted_at : List PlanStep → (fast : List ℕ) → Key → Entry → List Content
posted_at plan fast key (entry.Post place) = posted_by fast key (slice_get plan place)
posted_at plan fast key _ = []

abbrev pub posted : List PlanStep → (fast : List ℕ) → Key → List Entry → List Content
posted plan fast key [] = []
posted plan fast key (e ∷ es) = posted_at plan fast key e ++ posted plan fast key es

-- ---- accepted

abbrev pub is_accepted : Key → Entry → Bool
is_accepted key (entry.Accepted number its_key) = is_key its_key key
is_accepted key _ = false

abbrev pub accepted : Key → List Entry → ℕ
accepted key [] = 0
accepted key (e ∷ es) = if is_accepted key e then 1 + accepted key es else accepted key es

-- ---- dispatched

abbrev pub logs_of : (fast queued : List Logged) → Logs
logs_of fast queued = record { fast = heard_by fast; queued = heard_by queued }
