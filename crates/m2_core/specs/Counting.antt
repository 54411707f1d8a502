-- What a resumption acknowledges is counted by the step that takes it, before anything of the answer is written (Ceph); one
-- that acknowledges more than was written is taken, and is a fault then (this project's profile).
use Rattle.std.specs.Prelude.{◌≡◌, ℕ, nat_lt, if◌then◌else◌, Option, Some, None}
use Rattle.m2_core.specs.LiveNow.{LiveNow, is_ready}
use Rattle.m2_core.specs.CoreNow.{CoreNow}
use Rattle.m2_core.specs.Next.{Counts}

-- a number that is above what is counted already, and was written
abbrev pub countable : (base written number : ℕ) → Option ℕ
countable base written number =
    if nat_lt written number then None
    else if nat_lt base number then Some number
    else None

-- in Ready, up to where the resumption on the feed acknowledges what can be counted
abbrev pub to_count : LiveNow → Option ℕ
to_count l = if is_ready l then countable l.out.queue.base l.out.queue.written l.resumed else None

-- that is counted, where there is something to count
abbrev pub CountsIf : Option ℕ → CoreNow → CoreNow → Type 0
CountsIf (Some number) before after = Counts number before after
CountsIf None before after = after ≡ before
