-- What an ask leaves of a core.
use Rattle.std.specs.Prelude.{◌≡◌, ℕ, ◌<◌, ◌≤◌, Bool, true, false, [], ◌∷◌, All}
use Rattle.m2_addr.specs.declared.addr.AnyAddr.TheVariants.{V4}
use Rattle.m2_control.specs.declared.control.Control.{Control}
use Rattle.m2_control.specs.declared.control.Control.TheVariants as control
use Rattle.m2_control.specs.declared.fields.TheConstants.{GREATEST_NUMBER}
use Rattle.m2_journal.specs.Items as item
use Rattle.m2_journal.specs.OutFrames as out
use Rattle.m2_journal.specs.OutFrames.{client_ident_of}
use Rattle.m2_journal.specs.SideFacts.{SideFacts}
use Rattle.m2_session.specs.declared.session.Phase.TheVariants.{Connecting}
use Rattle.m2_core.specs.LiveNow.{LiveNow, OnFeedNow}
use Rattle.m2_core.specs.OnFeed.{CanAsk, ChangesRoom, ComposesAsk}
use Rattle.m2_core.specs.declared.asking.CoreAsk.{CoreAsk}
use Rattle.m2_core.specs.declared.asking.CoreAsk.TheVariants as ask
use Rattle.m2_core.specs.Agrees.{LeadsOn, MayCome, Stays}
use Rattle.m2_core.specs.Calls.{ask_event, ask_frame, asks_ident}
use Rattle.m2_session.specs.Steps.{step_of}
use Rattle.m2_shared.specs.declared.draw.Draw.{Draw}
use Rattle.m2_shared.specs.declared.draw.Draw.TheVariants as draw
use Rattle.m2_shared.specs.declared.limits.TheConstants.{LAST_NUMBER}
use Rattle.m2_shared.specs.Draw.{IfDrawAgain, IfNumber, IsDrawAlone, drawn_after, word_told}
use Rattle.m2_shared.specs.Numbers.{SeenNumberPass}
use Rattle.m2_shared.specs.Place.{IsAlone, Place}
use Rattle.m2_core.specs.CoreNow.{CoreNow}

-- the ask of this side, an ident with this cookie or a reconnect, with this global number
abbrev pub ask_of : SideFacts → LiveNow → (by_ident : Bool) → (cookie number : ℕ) → Control
ask_of f l true cookie number = client_ident_of f cookie number
ask_of f l false cookie number = control.SessionReconnect (record {
  addrs = V4 f.mine ∷ [];
  client = l.session.client_cookie;
  server = l.session.server_cookie;
  global = number;
  connect = l.session.connect;
  seen = l.last;
})

pub record MayAskNow (c : CoreNow) : Type 0 where
  pub phase : c.live.session.phase ≡ Connecting
  pub fits : c.live.session.connect ≤ GREATEST_NUMBER
  pub feed : OnFeedNow c.live.feed CanAsk

-- the entry Asked, or none
abbrev pub HasAsked : CoreAsk → (before after : CoreNow) → Type 0
HasAsked (ask.Asked by_ident number) before after =
    (by_ident ≡ asks_ident before.live) × MayCome (item.asked by_ident number) before × LeadsOn (item.asked by_ident number) before after
HasAsked _ before after = Stays before after

-- the session is told that it asks with this number, and the ask that says so is composed
pub record AsksWith (number : ℕ) (before after : CoreNow) : Type 0 where
  pub event : after.live.session ≡ (step_of before.live.session (ask_event before.facts (asks_ident before.live) number)).session
  pub text : ComposesAsk (out.text_of before.facts (ask_frame (asks_ident before.live) number after.live)) before.live.feed after.live.feed
  pub only : after ≡ record before { live = record before.live { session = after.live.session; feed = after.live.feed }; top = number }

-- what is left of a core: where nothing was asked all but the feed's room is as before
abbrev pub LeavesAsk : CoreAsk → (before after : CoreNow) → Type 0
LeavesAsk (ask.Asked by_ident number) before after = AsksWith number before after
LeavesAsk _ before after = ChangesRoom before.live.feed after.live.feed × (after ≡ record before { live = record before.live { feed = after.live.feed } })

-- This is what the counter whose word lies there answers to a draw, and what that leaves of the pass. Of a counter that is
-- alone it is the answer of its word, which is never Again.
pub record IsDraw (place : Place) (answer : Draw) (before behind : SeenNumberPass) : Type 0 where
  pub bounds : IfNumber answer (λ n. (0 < n) × (n ≤ LAST_NUMBER))
  pub rises : IfNumber answer (λ n. All (λ x. x < n) before.drawn)
  pub above : IfNumber answer (λ n. before.least < n)
  pub drawn : behind.drawn ≡ drawn_after answer before.drawn
  pub least : behind.least ≡ word_told answer
  pub again : IfDrawAgain answer (λ seen now. (before.least ≤ seen) × (seen < now))
  pub alone : IsAlone place → IsDrawAlone answer before.least

-- what is left of the pass: the number of an ask was drawn by it
abbrev pub LeavesPass : CoreAsk → Place → (before behind : SeenNumberPass) → Type 0
LeavesPass (ask.Asked by_ident number) place before behind = IsDraw place (draw.Number number) before behind
LeavesPass ask.Spent place before behind = IsDraw place draw.Spent before behind
LeavesPass (ask.Again seen now) place before behind = IsDraw place (draw.Again seen now) before behind
LeavesPass ask.NoMemory place before behind = behind ≡ before
