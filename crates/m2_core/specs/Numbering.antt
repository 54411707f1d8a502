-- What composing the next message leaves of a core.
use Rattle.std.specs.Prelude.{◌≡◌, ℕ, Result, Ok, Err}
use Rattle.m2_bytes.specs.declared.memory.NoMemory as memory
use Rattle.m2_journal.specs.Items as item
use Rattle.m2_core.specs.LiveNumbering.{NumbersOn}
use Rattle.m2_core.specs.Agrees.{LeadsOn, MayCome, Stays}
use Rattle.m2_core.specs.CoreNow.{CoreNow}

-- the entry Numbered, or for want of memory none
abbrev pub IsNumbered : Result ℕ memory.NoMemory → (before after : CoreNow) → Type 0
IsNumbered (Ok number) before after = MayCome (item.numbered number) before × LeadsOn (item.numbered number) before after
IsNumbered (Err _) before after = Stays before after

pub record HasNumbered (r : Result ℕ memory.NoMemory) (before after : CoreNow) : Type 0 where
  pub numbers : NumbersOn r before.live.last before.live.out after.live.out before.live.feed after.live.feed
  pub only : after ≡ record before { live = record before.live { out = after.live.out; feed = after.live.feed } }
  pub entry : IsNumbered r before after
