-- From what a record hands on to what its node's two dispatchers are called with, where messages that wait may be thrown away.
use Rattle.std.specs.Prelude.{ℕ, List}
use Rattle.m2_channel.specs.Handing.{AreFirstCalls, AreParcelsOf, calls_of, heard_at_once, heard_by_calls, parcels_of, queued_of}
use Rattle.m2_channel.specs.m2_dispatch.Heard.{Heard}
use Rattle.m2_channel.specs.m2_dispatch.Laws.{Call, start}
use Rattle.m2_channel.specs.m2_never_reset.m2_journal.State.{State}
use Rattle.m2_lives.specs.ObservedRun.{IsLogInLives}

-- The calls of both dispatchers together are of each key one piece of each stretch of what the record handed on, in order, where the
-- calls of the one are the first of its messages of fast keys, and the parcels of the peer that were put into the queue before the
-- other are the first ones of all else.
abbrev pub LogsAreInLives : Type 0
LogsAreInLives = (peer : ℕ) (fast : List Heard) (calls : List Call) (s : State) →
    AreFirstCalls (calls_of peer fast) (heard_at_once peer s.deliveries) → AreParcelsOf (parcels_of peer calls) (queued_of s.deliveries) →
    IsLogInLives peer (record { fast = fast; queued = heard_by_calls peer start calls }) s
