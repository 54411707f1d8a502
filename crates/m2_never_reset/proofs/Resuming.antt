-- A reconnect that is resumed is one step of the link, whatever the judging side's old feed was.
use Rattle.std.proofs.Common.{◌≡◌, ℕ, ◌+◌, ◌≤◌, max, false, List, [], ◌∷◌, ◌++◌, map, Option, Some, None, refl, sym, ap, ◌∙◌, arith}
use Rattle.m2_session.specs.declared.ask.AskFacts.{AskFacts}
use Rattle.m2_session.specs.Asks as asks
use Rattle.m2_journal.specs.m2_fabric.declared.socket.SocketId.{SocketId}
use Rattle.m2_session.specs.declared.answer.Answer.{Answer}
use Rattle.m2_session.specs.declared.event.Event.TheVariants as event
use Rattle.m2_session.specs.declared.session.Phase.TheVariants as phase
use Rattle.m2_session.specs.Reconnect.{Reconnect}
use Rattle.m2_journal.specs.Feeds.{taken_feed, begun}
use Rattle.m2_journal.specs.Lawful.{judged_sockets}
use Rattle.m2_journal.specs.OutFrames.{OutFrame, reconnect_ok}
use Rattle.m2_journal.specs.SideFacts.{SideFacts}
use Rattle.m2_journal.specs.State.{Feed, SentFrame, Judgement, State}
use Rattle.m2_journal.specs.Steps.{notes, tells, takes_socket}
use Rattle.m2_never_reset.specs.Asks.{by_reconnect, Asks, AtMost}
use Rattle.m2_never_reset.specs.Link.{Stand, resumed, ready, Node, Joined, apart, by_far, Link, link}
use Rattle.m2_never_reset.specs.Roles.{Role}
use Rattle.m2_never_reset.specs.Steps as step
use Rattle.m2_never_reset.specs.Steps.{Run, LeavesAt, IsDrawn, Resumes, after_resumption}
use Rattle.m2_never_reset.specs.Frames.{answers_on, mails}
use Rattle.m2_never_reset.specs.LinkOf.{role_of, asks_left, joined_by, stand_by, stand_of, node_of, link_of}
use Rattle.m2_never_reset.proofs.Accepting.{fewer_asked, same_stand}
use Rattle.m2_never_reset.proofs.Judging.{HearsIt, HasLeftIt, fewer_judged}
use Rattle.m2_never_reset.proofs.Leaving.{WaitsUnjudged, leaves_at, leaves_fewer}
use Rattle.m2_never_reset.proofs.Links.{plus_none, links, one_step}
use Rattle.m2_never_reset.proofs.Stable.{judgement}

module _ (f : SideFacts) (q : Role) (n : ℕ) (k : SocketId) (ask₀ : AskFacts) (number : ℕ) (answer : Answer)
    (unread : List ℕ) (a₀ b : State) where
  abbrev ask : AskFacts
  ask = record ask₀ { ident = false }

  abbrev r : Reconnect
  r = asks.reconnect_of ask

  -- the judging side, and where the resumption leads it
  abbrev a : Option Feed → State
  a o = record a₀ { feed = o }

  abbrev u : Option Feed → State
  u o =
      takes_socket f k ask number unread
      (tells (event.TookReconnect ask.global ask.connect) (notes k ask number answer (a o)))

  abbrev w : OutFrame
  w = reconnect_ok a₀.last

  abbrev sent' : List SentFrame
  sent' = a₀.sent ++ record { socket = k; frame = w } ∷ []

  abbrev fed : Feed
  fed = record (taken_feed k unread (Some ask.seen) a₀.last a₀.owes) { texts = begun f w ∷ [] }

  abbrev js' : List Judgement
  js' = a₀.judgements ++ judgement k ask answer ∷ []

  abbrev mine : Asks
  mine = asks_left (Some fed) sent' (judged_sockets b)

  abbrev theirs : Asks
  theirs = asks_left b.feed b.sent (map (λ j. j.socket) js')

  abbrev x : Option Feed → Node
  x o = node_of (a o) (judged_sockets b)

  abbrev y : Node
  y = node_of b (judged_sockets a₀)

  same_node : (v : Node) (g g' : ℕ) → g ≡ g' → ◌≡◌ {A = Node} (record v { peer_global = g })
      (record v { peer_global = g' })
  same_node v g g' e = rw e refl

  node_after : a₀.session.peer_global ≤ ask.global → (o : Option Feed) →
      after_resumption (x o) r number mine ≡ node_of (u o) (judged_sockets b)
  node_after l None =
      same_node (node_of (u None) (judged_sockets b)) (max a₀.session.peer_global ask.global) ask.global
      (omega (arith, l))
  node_after l (Some d) =
      same_node (node_of (u (Some d)) (judged_sockets b)) (max a₀.session.peer_global ask.global) ask.global
      (omega (arith, l))

  abbrev link_after : Option Feed → Stand → Joined → Link
  link_after o t j = link (after_resumption (x o) r number mine) (ready []) (record y { asks = theirs }) t j n

  ends_in : (o : Option Feed) (t : Stand) (j : Joined) (v : State) →
      after_resumption (x o) r number mine ≡ node_of v (judged_sockets b) →
      v.feed ≡ Some fed → v.session.phase ≡ phase.Ready → v.sent ≡ sent' → v.judgements ≡ js' → answers_on k b.sent ≡ [] →
      t ≡ stand_by b.feed b.session.phase b.sent sent' → j ≡ joined_by (Some fed) b.feed → link_after o t j ≡ link_of
      (n + 0) v b
  ends_in o t j v e feed ready_now sent judgements alone e_t e_j =
      links _ _ _ _ _ _ _ _ _ _ _ _ e
      (ap ready (ap mails (sym alone)) ∙ sym (same_stand b _ _ _ _ _ _ feed ready_now sent))
      (ap (λ js. record y { asks = asks_left b.feed b.sent (map (λ j. j.socket) js) }) (sym judgements))
      (e_t ∙ ap (stand_by b.feed b.session.phase b.sent) (sym sent))
      (e_j ∙ ap (λ o. joined_by o b.feed) (sym feed))
      (plus_none n)

  ends : a₀.session.peer_global ≤ ask.global → (o : Option Feed) (t : Stand) (j : Joined) → answers_on k b.sent ≡ [] →
      t ≡ stand_by b.feed b.session.phase b.sent sent' → j ≡ joined_by (Some fed) b.feed → link_after o t j ≡ link_of
      (n + 0) (u o) b
  ends l None t j = ends_in None t j (u None) (node_after l None) refl refl refl refl
  ends l (Some d) t j = ends_in (Some d) t j (u (Some d)) (node_after l (Some d)) refl refl refl refl

  module _ (o : Option Feed) (may : Resumes (x o) r) (drawn : IsDrawn (x o) number)
      (waits : WaitsUnjudged o a₀.session.phase a₀.sent b.sent (judged_sockets b))
      (alone : answers_on k b.sent ≡ []) where
    leaves : LeavesAt (stand_of (a o) b) (x o).asks mine
    leaves = leaves_fewer (stand_of (a o) b) (x o).asks (asks_left None a₀.sent (judged_sockets b)) mine
        (leaves_at o a₀.session.phase a₀.sent b.sent (judged_sockets b) waits)
        (fewer_asked fed a₀.sent (record { socket = k; frame = w }) (judged_sockets b) refl)

    fewer : AtMost y.asks theirs
    fewer = fewer_judged b.feed b.sent a₀.judgements (judgement k ask answer)

    pub live_is_resumed : HearsIt k (by_reconnect r) (a o) b →
        Run (role_of f) q (link_of n (a o) b) (link_of (n + 0) (u o) b)
    live_is_resumed live =
        one_step (role_of f) q _ _ _ _
        (ap (λ t. link (x o) (stand_of (a o) b) y t (joined_by o b.feed) n) live.stands)
        (step.resumes (x o) y (stand_of (a o) b) (joined_by o b.feed) n r number mine theirs may drawn leaves fewer)
        (ends may.not_old o (resumed a₀.last []) by_far alone (sym (live.hears w refl)) (sym (live.joined fed refl refl)))

    pub left_is_resumed : HasLeftIt k (by_reconnect r) (a o) b →
        Run (role_of f) q (link_of n (a o) b) (link_of (n + 0) (u o) b)
    left_is_resumed left =
        one_step (role_of f) q _ _ _ _ refl
        (step.resumes_left (x o) y (stand_of (a o) b) (stand_of b (a o)) (joined_by o b.feed) n k r number mine theirs left.left may drawn leaves fewer)
        (ends may.not_old o (stand_of b (a o)) apart alone (sym (left.deaf w)) (sym (left.apart_from fed refl)))
