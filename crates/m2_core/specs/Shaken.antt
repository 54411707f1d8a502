-- What an answer of the opener's half leaves of a core.
use Rattle.std.specs.Prelude.{◌≡◌}
use Rattle.m2_handshake.specs.declared.answer.HalfStep.{HalfStep}
use Rattle.m2_handshake.specs.declared.answer.HalfStep.TheVariants as half
use Rattle.m2_core.specs.OnFeed.{GreetsFeed}
use Rattle.m2_core.specs.LiveCalls.{live_with}
use Rattle.m2_core.specs.Agrees.{IsBroken, Stays}
use Rattle.m2_core.specs.CoreNow.{CoreNow}

-- a fault that it finds is one of the replay
abbrev pub IsHalfFault : HalfStep → CoreNow → Type 0
IsHalfFault (half.Fault e) c = IsBroken c
IsHalfFault _ c = Unit {0}

pub record HasShaken (answer : HalfStep) (before after : CoreNow) : Type 0 where
  pub greets : GreetsFeed answer before.live.feed after.live.feed
  pub only : after ≡ record before { live = live_with after.live.feed before.live }
  pub stays : Stays before after
  pub broken : IsHalfFault answer before
