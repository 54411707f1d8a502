-- What is promised of the runs of the ordered channel with lives: each life of the side that dispatches has its messages from
-- the one life of its name of the side that posts.
use Rattle.std.specs.Prelude.{◌≡◌, ℕ, ◌+◌, ◌≤◌, ◌⊎◌, List, [], ◌∷◌, ◌++◌, length, map}
use Rattle.std.specs.List.{AllByRecursion}
use Rattle.m2_channel.specs.Channel.{of_key}
use Rattle.m2_channel.specs.m2_dispatch.m2_message.Message.{Content}
use Rattle.m2_channel.specs.m2_dispatch.m2_policy.declared.path.Key.{Key}
use Rattle.m2_channel.specs.m2_never_reset.Order.{AreFirstOf}
use Rattle.m2_lives.specs.Lives.{SendingLife, ReceivingLife, LivesChannel, new_lives, sending_lives, receiving_lives, Has, IsNewName}
use Rattle.m2_lives.specs.Lives.{LivesStep, mark, reset, after_in_lives, IsRunOfLives, LifeMessage, of_life, acceptances, dispatches, held_in}

-- ---- the state

-- no two of them are the same, but 0
abbrev pub AreNames : List ℕ → Type 0
AreNames [] = Unit {0}
AreNames (n ∷ ns) = IsNewName n ns × AreNames ns

-- of each key, a life ends within what was posted, and what is acknowledged of it lies within it
pub record IsWithin (posted : Key → ℕ) (l : SendingLife) : Type 0 where
  pub acknowledged : (key : Key) → l.start key + l.acknowledged key ≤ l.end key
  pub end : (key : Key) → l.end key ≤ posted key

-- a sending life of its name holds what it has accepted
abbrev pub IsHeldBy : Key → ReceivingLife → SendingLife → Type 0
IsHeldBy key l s = (s.name ≡ l.name) × (s.start key + l.accepted key ≤ s.end key)

-- a receiving life of its name has accepted what is acknowledged of it
abbrev pub HasSeen : Key → SendingLife → ReceivingLife → Type 0
HasSeen key s l = (l.name ≡ s.name) × (s.acknowledged key ≤ l.accepted key)

pub record IsOrderedInLives (c : LivesChannel) : Type 0 where
  pub sending_names : AreNames (map (λ (l : SendingLife). l.name) (sending_lives c))
  pub receiving_names : AreNames (map (λ (l : ReceivingLife). l.name) (receiving_lives c))
  -- the current sending life ends with what was posted
  pub end : (key : Key) → c.sends.end key ≡ length (of_key key c.posted)
  pub within : AllByRecursion (IsWithin (λ key. length (of_key key c.posted))) (sending_lives c)
  -- what a life has accepted, the one of its name holds
  pub accepted : AllByRecursion (λ (l : ReceivingLife). (key : Key) → (l.accepted key ≡ 0) ⊎ Has (IsHeldBy key l) (sending_lives c)) (receiving_lives c)
  pub dispatched : AllByRecursion (λ (l : ReceivingLife). (key : Key) → l.dispatched key ≤ l.accepted key) (receiving_lives c)
  -- what is acknowledged of a life, the one of its name has accepted
  pub acknowledged : AllByRecursion (λ (s : SendingLife). (key : Key) → (s.acknowledged key ≡ 0) ⊎ Has (HasSeen key s) (receiving_lives c)) (sending_lives c)

abbrev pub RunsKeepLives : Type 0
RunsKeepLives = (xs : List LivesStep) → IsRunOfLives xs new_lives → IsOrderedInLives (after_in_lives xs new_lives)

-- ---- the steps

-- these are one piece of each of those lists, in order, each piece the first ones of its list
abbrev pub ArePiecesOf : {X : Type 0} → List X → List (List X) → Type 0
ArePiecesOf xs [] = xs ≡ []
ArePiecesOf {X} xs (all ∷ more) = (piece rest left : List X) × (xs ≡ piece ++ rest) × (all ≡ piece ++ left) × ArePiecesOf rest more

-- what a list of messages has of a key
abbrev pub all_of_key : Key → List LifeMessage → List Content
all_of_key key xs = of_key key (map (λ (x : LifeMessage). x.message) xs)

pub record IsDeliveredInLives (xs : List LivesStep) : Type 0 where
  -- what they accept in a life is the first ones of what the sending life of its name holds
  pub accepted : (name : ℕ) (key : Key) → AreFirstOf (of_key key (of_life name (acceptances xs))) (held_in name key (after_in_lives xs new_lives))
  -- what they dispatch of it is the first ones of that
  pub dispatched : (name : ℕ) (key : Key) → AreFirstOf (of_key key (of_life name (dispatches xs))) (of_key key (of_life name (acceptances xs)))
  -- and all that they dispatch comes life after life
  pub life_after_life : (key : Key) →
      ArePiecesOf (all_of_key key (dispatches xs)) (map (λ (l : ReceivingLife). held_in l.name key (after_in_lives xs new_lives)) (receiving_lives (after_in_lives xs new_lives)))
  -- a reset comes only behind a mark
  pub no_reset : (before after : List LivesStep) → xs ≡ before ++ reset ∷ after → Has (λ x. x ≡ mark) before

abbrev pub RunsDeliverInLives : Type 0
RunsDeliverInLives = (xs : List LivesStep) → IsRunOfLives xs new_lives → IsDeliveredInLives xs
