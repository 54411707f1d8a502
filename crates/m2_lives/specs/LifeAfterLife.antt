-- What is heard over a lossless link whose sides may be marked down: life after life of the side that dispatches, a prefix of what the
-- life of that name of the side that posts holds. It is said of the journal of each side by itself, and of the logs. This project's own.
use Rattle.std.specs.Prelude.{◌≡◌, ℕ, ◌+◌, ◌⊎◌, ◌==◌, if◌then◌else◌, List, [], ◌∷◌, ◌++◌, length, map}
use Rattle.std.specs.List.{AllByRecursion}
use Rattle.m2_channel.specs.Channel.{of_key}
use Rattle.m2_channel.specs.Observed.{Logs, all_of}
use Rattle.m2_channel.specs.ObservedLaws.{posted_to}
use Rattle.m2_channel.specs.m2_dispatch.Heard as heard
use Rattle.m2_channel.specs.m2_dispatch.m2_policy.declared.path.Key.{Key}
use Rattle.m2_journal.specs.Items.{JournalItem}
use Rattle.m2_journal.specs.Replay.{after_items}
use Rattle.m2_journal.specs.SideFacts.{SideFacts}
use Rattle.m2_journal.specs.State.{State, start}
use Rattle.m2_journal.specs.Steps.{after}
use Rattle.m2_journal.specs.m2_message.Message.{Content, unnumbered}
use Rattle.m2_never_reset.specs.Order.{AreFirstOf}
use Rattle.m2_never_reset.specs.Orders.{SideItem, near_items, far_items, posts_in, AreNodes}
use Rattle.m2_lives.specs.Lives.{Counts, none, SendingLife, LivesChannel, new_lives, sending_lives, LivesStep, after_in_lives, of_life, held_in}
use Rattle.m2_lives.specs.LivesLaws.{AreNames, ArePiecesOf, IsWithin}
use Rattle.m2_lives.specs.Observed.{heard_in_lives, sends_anew, shown_by_sender}
use Rattle.m2_lives.specs.ObservedLaws.{NumberedLife, IsHistoryOfLives, accepted_of, lives_of}
use Rattle.m2_lives.specs.ObservedRun.{AreLogsInLives}

-- ---- the side that posts, by its journal alone

-- the posts and acknowledgements that its entries show, and the lives that begin
abbrev pub shown_sending : (f g : SideFacts) → List JournalItem → State → List LivesStep
shown_sending f g [] s = []
shown_sending f g (i ∷ is) s = shown_by_sender g i s ++ sends_anew f i s ++ shown_sending f g is (after f i s)

-- where they lead: what it has posted, and its lives
abbrev pub sending_side : (f g : SideFacts) → List JournalItem → LivesChannel
sending_side f g items = after_in_lives (shown_sending f g items (start f)) new_lives

-- The first one starts there, and each other one with the first message of the one before it that isn't acknowledged, or behind all
-- that it holds.
abbrev pub AreInARow : Counts → List SendingLife → Type 0
AreInARow from [] = Unit {0}
AreInARow from (l ∷ ls) = ((key : Key) → l.start key ≡ from key) × (AreInARow (λ key. l.start key + l.acknowledged key) ls ⊎ AreInARow l.end ls)

-- what the life of this name holds; nothing where none has it, nor where it is no name
abbrev pub held_for : (name : ℕ) → Key → LivesChannel → List Content
held_for name key c = if name == 0 then [] else held_in name key c

-- ---- what is promised

-- From the near side to the far side, by the journals of both and by what the far side's dispatchers were called with.
pub record ComesInLives (f g : SideFacts) (near far : List JournalItem) (logs : Logs) : Type 0 where
  -- names tell lives apart
  pub sending_names : AreNames (map (λ (l : SendingLife). l.name) (sending_lives (sending_side f g near)))
  pub receiving_names : AreNames (map (λ (l : NumberedLife). l.name) (lives_of g far))
  -- the lives are of all that was posted, one after the other
  pub posted : (sending_side f g near).posted ≡ posted_to g (posts_in near)
  pub row : AreInARow none (sending_lives (sending_side f g near))
  pub end : (key : Key) → (sending_side f g near).sends.end key ≡ length (of_key key (sending_side f g near).posted)
  pub within : AllByRecursion (IsWithin (λ key. length (of_key key (sending_side f g near).posted))) (sending_lives (sending_side f g near))
  -- of each key, what is dispatched of a life is the first ones of what was accepted in it, and of what the sending life of its name
  -- holds
  pub in_life : (name : ℕ) (key : Key) → AreFirstOf (of_key key (of_life name (heard_in_lives f.node.number (all_of logs)))) (of_key key (accepted_of name (after_items g far (start g))))
  pub accepted : (name : ℕ) (key : Key) → AreFirstOf (of_key key (accepted_of name (after_items g far (start g)))) (held_for name key (sending_side f g near))
  -- and all that is dispatched is one piece of each life, life after life, each the first ones of what the sending life of its name
  -- holds, in order, each once; of a life without a name it is nothing, nor where no sending life has the name
  pub life_after_life : (key : Key) →
      ArePiecesOf (map unnumbered (heard.of_key f.node.number key (all_of logs))) (map (λ (l : NumberedLife). held_for l.name key (sending_side f g near)) (lives_of g far))

pub record BothComeInLives (f g : SideFacts) (order : List SideItem) (near_logs far_logs : Logs) : Type 0 where
  pub near : ComesInLives f g (near_items order) (far_items order) far_logs
  pub far : ComesInLives g f (far_items order) (near_items order) near_logs

-- so it is in every order of a lossless link that fits, with mark-downs by either side
abbrev pub LifeAfterLife : Type 0
LifeAfterLife = (f g : SideFacts) (order : List SideItem) (near_logs far_logs : Logs) → AreNodes f g → IsHistoryOfLives f g order →
    AreLogsInLives f g order near_logs far_logs → BothComeInLives f g order near_logs far_logs
