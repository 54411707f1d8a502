-- What is to be composed on a feed, by a table: the first row that holds. That an acknowledgement comes last, where
-- nothing else is to be written, is this project's profile.
use Rattle.std.specs.Prelude.{◌&&◌, not, if◌then◌else◌, nat_lt, List, [], ◌∷◌, length, Option, Some, None}
use Rattle.std.specs.Option.{is_some}
use Rattle.m2_feed.specs.Calls.{is_empty}
use Rattle.m2_feed.specs.FeedNow.{FeedNow, is_framing}
use Rattle.m2_queues.specs.OutQueues.{next_number}
use Rattle.m2_session.specs.Phases as phase
use Rattle.m2_session.specs.Table.{Row, row, first_that_holds}
use Rattle.m2_session.specs.declared.session.Phase.TheVariants.{Connecting}
use Rattle.m2_core.specs.LiveNow.{is_ready}
use Rattle.m2_core.specs.CoreNow.{CoreNow}
use Rattle.m2_core.specs.declared.to_compose.CoreText.{CoreText}
use Rattle.m2_core.specs.declared.to_compose.CoreText.TheVariants as text

abbrev pub text_rows : FeedNow → CoreNow → List (Row CoreText (Option CoreText))
text_rows v c =
    row text.Ask (phase.is c.live.session.phase Connecting) (Some text.Ask) ∷
    row text.KeepaliveAnswer (is_ready c.live && nat_lt 0 (length v.stamps)) (Some text.KeepaliveAnswer) ∷
    row text.Message (is_ready c.live && is_some (next_number c.live.out.queue)) (Some text.Message) ∷
    row text.Acknowledgement (is_ready c.live && (c.owes && not c.facts.policy.lossy)) (Some text.Acknowledgement) ∷ []

-- nothing before both sides have signed, and while something is left of another text
abbrev pub text_on : Option FeedNow → CoreNow → Option CoreText
text_on (Some v) c = if is_framing v.reading && is_empty v.composed then first_that_holds (text_rows v c) None else None
text_on None c = None

abbrev pub to_compose : CoreNow → Option CoreText
to_compose c = text_on c.live.feed c
