-- What accepting the message at the front leaves of a core.
use Rattle.std.specs.Prelude.{◌≡◌, ℕ, ◌+◌, true, Some, Result, Ok, Err}
use Rattle.m2_bytes.specs.declared.memory.NoMemory as memory
use Rattle.m2_journal.specs.Items as item
use Rattle.m2_journal.specs.Lawful.{key_of}
use Rattle.m2_journal.specs.State.{letter}
use Rattle.m2_message.specs.Message.{content_of, size_of}
use Rattle.m2_shared.specs.Gates.{is_whole}
use Rattle.m2_core.specs.LiveNow.{AreFor}
use Rattle.m2_core.specs.LiveAccepting.{MovesMessage, accepted_live}
use Rattle.m2_core.specs.declared.accepting.CoreAccepted.{CoreAccepted}
use Rattle.m2_core.specs.Agrees.{HandsOut, LeadsOn, MayCome}
use Rattle.m2_core.specs.CoreNow.{CoreNow}
use Rattle.m2_core.specs.Front.{hearer_of}

pub record Accepts (a : CoreAccepted) (before after : CoreNow) : Type 0 where
  pub moves : MovesMessage (hearer_of before) a.number (content_of a.message) before.live.feed after.live.feed
  pub number : a.number ≡ before.live.last + 1
  pub life : a.life ≡ before.live.life
  pub key : a.key ≡ key_of before.facts (content_of a.message)
  pub grants : before.live.granted ≡ a.grants
  pub whole : is_whole a.grants ≡ true
  pub size : AreFor (Some (size_of a.message)) a.grants
  pub only : after ≡ record before { live = accepted_live a.number after.live.feed before.live; owes = true }
  pub may : MayCome (item.accepted a.number a.key) before
  pub leads : LeadsOn (item.accepted a.number a.key) before after
  pub hands_out : HandsOut (item.accepted a.number a.key) (letter a.number a.life a.key (content_of a.message)) before

-- the entry Accepted of this number, or for want of memory nothing changes
abbrev pub HasAccepted : Result CoreAccepted memory.NoMemory → (number : ℕ) → (before after : CoreNow) → Type 0
HasAccepted (Ok a) number before after = (a.number ≡ number) × Accepts a before after
HasAccepted (Err _) number before after = after ≡ before
