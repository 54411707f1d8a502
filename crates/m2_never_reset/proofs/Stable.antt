-- What no event of a session changes: the greatest number, the sockets that were opened, the judgements, the frames that
-- were sent.
use Rattle.std.proofs.Common.{◌≡◌, ℕ, Bool, true, false, if◌then◌else◌, List, [], ◌∷◌, ◌++◌, Option, Some, None, refl, ap, ◌∙◌}
use Rattle.m2_session.specs.declared.ask.AskFacts.{AskFacts}
use Rattle.m2_journal.specs.m2_fabric.declared.socket.SocketId.{SocketId}
use Rattle.m2_session.specs.declared.answer.Answer.{Answer}
use Rattle.m2_session.specs.declared.event.Effects.{Effects}
use Rattle.m2_session.specs.declared.event.Event.{Event}
use Rattle.m2_session.specs.SessionLaws.{takes}
use Rattle.m2_session.specs.Steps.{step_of}
use Rattle.m2_queues.specs.QueueLaws.{Requeue}
use Rattle.m2_journal.specs.OutFrames.{replies_of}
use Rattle.m2_journal.specs.SideFacts.{SideFacts}
use Rattle.m2_journal.specs.State.{Feed, Judgement, SentFrame, State}
use Rattle.m2_journal.specs.Steps.{queues, where_true, closes, sets_back, discards, tells_of_reset, has_effects, sends, tells_if, event_of, notes, takes_socket, judges}

pub record Stable : Type 0 where
  pub top : ℕ
  pub opened : List SocketId
  pub judgements : List Judgement
  pub sent : List SentFrame

abbrev pub stable : State → Stable
stable s = record { top = s.top; opened = s.opened; judgements = s.judgements; sent = s.sent }

where_stays : (b : Bool) (change : State → State) (s : State) → stable (change s) ≡ stable s →
    stable (where_true b change s) ≡ stable s
where_stays true change s e = e
where_stays false change s e = refl

closes_stay : (s : State) → stable (closes s) ≡ stable s
closes_stay s = at s.feed
  where
    at : (o : Option Feed) → stable (closes (record s { feed = o })) ≡ stable s
    at (Some d) = refl
    at None = refl

set_back_stays : (s : State) → stable (sets_back s) ≡ stable s
set_back_stays s = at s.feed
  where
    at : (o : Option Feed) → stable (sets_back (record s { feed = o })) ≡ stable s
    at (Some d) = refl
    at None = refl

pub effects_stay : (e : Effects) (s : State) → stable (has_effects e s) ≡ stable s
effects_stay e s =
    let one : State = where_true e.close closes s in
    let two : State = where_true e.requeue (queues Requeue) one in
    let three : State = where_true e.set_back sets_back two in
    let four : State = where_true e.discard discards three in
    where_stays e.remote_reset tells_of_reset four refl
    ∙ where_stays e.discard discards three refl
    ∙ where_stays e.set_back sets_back two (set_back_stays two)
    ∙ where_stays e.requeue (queues Requeue) one refl
    ∙ where_stays e.close closes s (closes_stay s)

pub told_stays : (o : Option Event) (s : State) → stable (tells_if o s) ≡ stable s
told_stays (Some e) s =
    effects_stay (step_of s.session e).effects (record s { session = (step_of s.session e).session })
told_stays None s = refl

-- the judgement that an entry adds
abbrev pub judgement : SocketId → AskFacts → Answer → Judgement
judgement socket ask answer = record { socket = socket; item = record { ask = ask; answer = answer } }

pub judged_after : (f : SideFacts) (k : SocketId) (ask : AskFacts) (number : ℕ) (answer : Answer) (unread : List ℕ)
    (s : State) →
    (judges f k ask number answer unread s).judgements ≡ s.judgements ++ judgement k ask answer ∷ []
judged_after f k ask number answer unread s =
    at (takes answer) (tells_if (event_of f ask number answer) (notes k ask number answer s))
    ∙ ap (λ t. t.judgements) (told_stays (event_of f ask number answer) (notes k ask number answer s))
  where
    at : (t : Bool) (u : State) →
        (if t then takes_socket f k ask number unread u else sends k (replies_of answer) u).judgements ≡ u.judgements
    at true u = refl
    at false u = refl
