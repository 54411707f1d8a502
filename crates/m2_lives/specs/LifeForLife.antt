-- What a record accepts life for life, whatever its policy and whoever its peer is: names may come twice. Its lives lie between the
-- entries that set message numbers back. This project's own.
use Rattle.std.specs.Prelude.{◌≡◌, ℕ, Bool, false, if◌then◌else◌, List, [], ◌∷◌, ◌++◌, map, Option, Some, None}
use Rattle.std.specs.List.{flat_map}
use Rattle.m2_channel.specs.Channel.{keyed}
use Rattle.m2_channel.specs.Observed.{Logs, all_of, brought_on}
use Rattle.m2_channel.specs.m2_dispatch.m2_policy.declared.path.Key.{Key}
use Rattle.m2_journal.specs.Items as item
use Rattle.m2_journal.specs.Items.{JournalItem}
use Rattle.m2_journal.specs.Replay.{AreLawful, after_items}
use Rattle.m2_journal.specs.SideFacts.{SideFacts}
use Rattle.m2_journal.specs.State.{State, start}
use Rattle.m2_journal.specs.Steps.{after, event_at}
use Rattle.m2_journal.specs.m2_session.declared.event.Event.{Event}
use Rattle.m2_journal.specs.m2_session.declared.session.Session.{Session}
use Rattle.m2_journal.specs.m2_session.Steps.{step_of}
use Rattle.m2_lives.specs.Lives.{LifeMessage}
use Rattle.m2_lives.specs.LivesLaws.{ArePiecesOf}
use Rattle.m2_lives.specs.Observed.{handed_in_lives, heard_in_lives}
use Rattle.m2_lives.specs.ObservedRun.{IsLogInLives, with_key}

-- ---- the lives of a journal

-- whether the session has numbers set back, where it is told of something
abbrev pub sets_back : Option Event → Session → Bool
sets_back (Some e) s = (step_of s e).effects.set_back
sets_back None s = false

-- the message that an entry accepts, with the name of the record's life
abbrev pub accepted_at : JournalItem → State → List LifeMessage
accepted_at (item.accepted number key) s = map (λ m. record { life = s.life; message = keyed key m }) (brought_on s.last s.feed)
accepted_at _ s = []

-- in front of the first list
abbrev pub in_front : {X : Type 0} → List X → List (List X) → List (List X)
in_front xs [] = xs ∷ []
in_front xs (l ∷ ls) = (xs ++ l) ∷ ls

-- what the entries accept, a list for each life, in order
abbrev pub life_for_life : SideFacts → List JournalItem → State → List (List LifeMessage)
life_for_life f [] s = [] ∷ []
life_for_life f (i ∷ is) s = if sets_back (event_at f i s) s.session then [] ∷ life_for_life f is (after f i s) else in_front (accepted_at i s) (life_for_life f is (after f i s))

-- ---- what is promised

-- These together are what the record has handed on; and of each key, what dispatchers are called with is one piece of each life, in
-- order, each the first ones of what was accepted in it. So of each name the pieces are of the lives that have it.
pub record IsDispatchedInLives (f : SideFacts) (is : List JournalItem) (peer : ℕ) (logs : Logs) : Type 0 where
  pub all : flat_map (λ (l : List LifeMessage). l) (life_for_life f is (start f)) ≡ handed_in_lives (after_items f is (start f)).deliveries
  pub pieces : (key : Key) → ArePiecesOf (with_key key (heard_in_lives peer (all_of logs))) (map (with_key key) (life_for_life f is (start f)))

-- so it is of every lawful journal
abbrev pub DispatchedLifeForLife : Type 0
DispatchedLifeForLife = (f : SideFacts) (is : List JournalItem) (peer : ℕ) (logs : Logs) → AreLawful f is (start f) → IsLogInLives peer logs (after_items f is (start f)) →
    IsDispatchedInLives f is peer logs
