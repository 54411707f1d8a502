-- What is promised of the runs of the ordered channel: up to a mark everything, and nothing of what comes behind it.
use Rattle.std.specs.Prelude.{◌≡◌, ℕ, ◌≤◌, List, ◌∷◌, ◌++◌, length}
use Rattle.std.specs.List.{AllByRecursion}
use Rattle.m2_dispatch.specs.m2_policy.declared.path.Key.{Key}
use Rattle.m2_never_reset.specs.Order.{AreFirstOf}
use Rattle.m2_channel.specs.Channel.{KeyedMessage, of_key, Channel, ChannelStep, acknowledge, new_channel}
use Rattle.m2_channel.specs.Channel.{after_steps, IsRun, IsNoMark, IsNoReset, unmarked, posts, acceptances, dispatches}

-- of each key the first ones of these, in order, each once
abbrev pub ComeInOrder : (some all : List KeyedMessage) → Type 0
ComeInOrder some all = (key : Key) → AreFirstOf (of_key key some) (of_key key all)

-- ---- the state

pub record IsOrdered (c : Channel) : Type 0 where
  -- what is dispatched was accepted, what is accepted was posted
  pub dispatched : ComeInOrder c.dispatched c.accepted
  pub accepted : ComeInOrder c.accepted c.posted
  -- and what is acknowledged was accepted
  pub acknowledged : c.acknowledged ≤ length c.accepted

-- wherever a run leads, with marks and resets or without
abbrev pub RunsKeepOrder : Type 0
RunsKeepOrder = (xs : List ChannelStep) → IsRun xs new_channel → IsOrdered (after_steps xs new_channel)

-- ---- the steps

-- Of the steps of a run before its first mark: of each key what they dispatch is the first ones of what they post, and
-- what one of them acknowledges was accepted before it.
pub record IsDelivered (xs : List ChannelStep) : Type 0 where
  pub accepted : ComeInOrder (acceptances xs) (posts xs)
  pub dispatched : ComeInOrder (dispatches xs) (acceptances xs)
  pub over : ComeInOrder (dispatches xs) (posts xs)
  pub acknowledged : (before after : List ChannelStep) (count : ℕ) → xs ≡ before ++ acknowledge count ∷ after → count ≤ length (acceptances before)
  -- none of them is a reset
  pub no_reset : AllByRecursion IsNoReset xs

abbrev pub RunsDeliver : Type 0
RunsDeliver = (xs : List ChannelStep) → IsRun xs new_channel → IsDelivered (unmarked xs)

-- so a run without a mark has no reset, and all of it is delivered like that
abbrev pub UnmarkedRunsDeliver : Type 0
UnmarkedRunsDeliver = (xs : List ChannelStep) → IsRun xs new_channel → AllByRecursion IsNoMark xs → IsDelivered xs

-- ---- done

-- No more is dispatched than was posted; and where it is as many, of each key all was dispatched that was posted.
pub record NothingLeftIsAll (some all : List KeyedMessage) : Type 0 where
  pub few : length some ≤ length all
  pub done : length some ≡ length all → (key : Key) → of_key key some ≡ of_key key all

abbrev pub DoneIsAllDispatched : Type 0
DoneIsAllDispatched = (some all : List KeyedMessage) → ComeInOrder some all → NothingLeftIsAll some all
