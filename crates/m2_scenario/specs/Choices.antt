-- What draws choose for a post. It takes five, in this order: from which node, to which, the kind, the priority, and
-- how many bytes its front has.
use Rattle.std.specs.Prelude.{ℕ, ◌+◌, ◌%◌, List, [], ◌∷◌, slice_index, replicate}
use Rattle.m2_message.specs.Message.{Content}
use Rattle.m2_scenario.specs.Draft.{DraftLine, post}
use Rattle.m2_scenario.specs.Posted.{posted}

abbrev pub from_by : ℕ → ℕ
from_by first = first % 4

-- one of the other three
abbrev pub to_by : ℕ → ℕ → ℕ
to_by first second = (from_by first + 1 + second % 3) % 4

-- kind 1 is dispatched at once, and kind 2 is queued
abbrev pub kind_by : ℕ → ℕ
kind_by third = 1 + third % 2

abbrev pub priority_by : ℕ → ℕ
priority_by fourth = slice_index (64 ∷ 127 ∷ 196 ∷ 255 ∷ []) (fourth % 4)

-- each byte of the i-th post's front is the low byte of i
abbrev pub front_by : ℕ → ℕ → List ℕ
front_by i fifth = replicate (fifth % 32) (i % 256)

-- it has a front alone
abbrev pub message_by : ℕ → ℕ → ℕ → ℕ → Content
message_by i third fourth fifth = posted (kind_by third) (priority_by fourth) (front_by i fifth) [] []

-- the i-th post, by its draws v 0 to v 4
abbrev pub post_by : ℕ → (ℕ → ℕ) → DraftLine
post_by i v = post (from_by (v 0)) (to_by (v 0) (v 1)) (message_by i (v 2) (v 3) (v 4))
