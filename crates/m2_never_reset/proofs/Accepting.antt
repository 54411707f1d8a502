-- An ident that is accepted is one step of the link, whatever the judging side's old feed was.
use Rattle.std.proofs.Common.{◌≡◌, ℕ, ◌+◌, Bool, true, false, List, [], ◌∷◌, ◌++◌, length, map, Option, Some, None, refl, sym, ap, ◌∙◌}
use Rattle.std.specs.List.{drop-map}
use Rattle.std.proofs.lemmas.List.{append-nil}
use Rattle.m2_session.specs.declared.ask.AskFacts.{AskFacts}
use Rattle.m2_journal.specs.m2_fabric.declared.socket.SocketId.{SocketId}
use Rattle.m2_queues.specs.m2_message.Message.{Content, unnumbered}
use Rattle.m2_session.specs.declared.answer.Answer.{Answer}
use Rattle.m2_session.specs.declared.event.Event.TheVariants as event
use Rattle.m2_session.specs.declared.session.Phase.{Phase}
use Rattle.m2_session.specs.declared.session.Phase.TheVariants as phase
use Rattle.m2_journal.specs.Feeds.{taken_feed, begun}
use Rattle.m2_journal.specs.Lawful.{judged_sockets}
use Rattle.m2_journal.specs.OutFrames.{OutFrame, server_ident}
use Rattle.m2_journal.specs.SideFacts.{SideFacts, cookie_of}
use Rattle.m2_journal.specs.State as state
use Rattle.m2_journal.specs.State.{Feed, SentFrame, Judgement, State}
use Rattle.m2_journal.specs.Steps.{notes, tells, takes_socket}
use Rattle.m2_never_reset.specs.Asks.{Ident, by_ident, Asks, AtMost}
use Rattle.m2_never_reset.specs.Link.{Stand, offered, ready, Node, Joined, apart, by_far, Link, link}
use Rattle.m2_never_reset.specs.Roles.{Role}
use Rattle.m2_never_reset.specs.Steps as step
use Rattle.m2_never_reset.specs.Steps.{Run, LeavesAt, IsDrawn, troubled, times, Accepts, after_acceptance}
use Rattle.m2_never_reset.specs.Frames.{ask_of, answers_on, mails}
use Rattle.m2_never_reset.specs.LinkOf.{role_of, asks_left, letters, joined_by, stand_by, stand_of, node_of, link_of}
use Rattle.m2_never_reset.proofs.Answered.{letters-append}
use Rattle.m2_never_reset.proofs.Judging.{HearsIt, HasLeftIt, fewer_judged}
use Rattle.m2_never_reset.proofs.Leaving.{WaitsUnjudged, fewer_left, leaves_at, leaves_fewer}
use Rattle.m2_never_reset.proofs.Links.{links, one_step}
use Rattle.m2_never_reset.proofs.Sent.{asks_same}
use Rattle.m2_never_reset.proofs.Stable.{judgement}

-- no ask is left that wasn't, where a frame is sent that is none
pub fewer_asked : (d : Feed) (sent : List SentFrame) (x : SentFrame) (judged : List SocketId) → ask_of x.frame ≡ None →
    AtMost (asks_left None sent judged) (asks_left (Some d) (sent ++ x ∷ []) judged)
fewer_asked d sent x judged n k a e =
    let same : asks_left None sent judged k ≡ asks_left None (sent ++ x ∷ []) judged k = rw
    (asks_same k sent x n) refl in
    same ∙ fewer_left d (sent ++ x ∷ []) judged k a e

pub same_stand : (b : State) (o o' : Option Feed) (p p' : Phase) (s s' : List SentFrame) → o ≡ o' → p ≡ p' → s ≡ s' →
    stand_by o p s b.sent ≡ stand_by o' p' s' b.sent
same_stand b o o' p p' s s' e₁ e₂ e₃ = rw (e₁, e₂, e₃) refl

module _ (f : SideFacts) (q : Role) (n : ℕ) (k : SocketId) (ask₀ : AskFacts) (number : ℕ) (answer : Answer)
    (unread : List ℕ) (client : ℕ) (a₀ b : State) where
  abbrev ask : AskFacts
  ask = record ask₀ { ident = true }

  abbrev i : Ident
  i = record { cookie = ask.client; global = ask.global }

  -- the judging side, and where the acceptance leads it
  abbrev a : Option Feed → State
  a o = record a₀ { feed = o }

  abbrev u : Bool → Option Feed → State
  u full o =
      takes_socket f k ask number unread
      (tells (event.TookIdent full client (cookie_of f number) ask.global) (notes k ask number answer (a o)))

  abbrev w : OutFrame
  w = server_ident (cookie_of f number) number

  abbrev sent' : List SentFrame
  sent' = a₀.sent ++ record { socket = k; frame = w } ∷ []

  abbrev fed : Feed
  fed = record (taken_feed k unread None 0 a₀.owes) { texts = begun f w ∷ [] }

  abbrev js' : List Judgement
  js' = a₀.judgements ++ judgement k ask answer ∷ []

  abbrev mine : Asks
  mine = asks_left (Some fed) sent' (judged_sockets b)

  abbrev theirs : Asks
  theirs = asks_left b.feed b.sent (map (λ j. j.socket) js')

  abbrev x : Option Feed → Node
  x o = node_of (a o) (judged_sockets b)

  abbrev y : Node
  y = node_of b (judged_sockets a₀)

  abbrev m : Bool → ℕ
  m full = n + (times full + (length (letters a₀.deliveries) + length (letters b.deliveries)))

  same_node : (v : Node) (c c' : ℕ) (ms ms' ds ds' : List Content) → c ≡ c' → ms ≡ ms' → ds ≡ ds' →
      ◌≡◌ {A = Node} (record v { client = c; numbered = ms; accepted = ds })
      (record v { client = c'; numbered = ms'; accepted = ds' })
  same_node v c c' ms ms' ds ds' e₁ e₂ e₃ = rw (e₁, e₂, e₃) refl

  thrown_away : letters a₀.deliveries ≡ letters ((a₀.deliveries ++ state.discarded ∷ []) ++ state.remote_reset ∷ [])
  thrown_away =
      sym (letters-append (a₀.deliveries ++ state.discarded ∷ []) (state.remote_reset ∷ []) ∙ append-nil _ ∙ letters-append a₀.deliveries (state.discarded ∷ []) ∙ append-nil _)

  node_after : client ≡ ask.client → (full : Bool) (o : Option Feed) →
      after_acceptance (role_of f) (x o) i full number mine ≡ node_of (u full o) (judged_sockets b)
  node_after c false None =
      same_node (node_of (u false None) (judged_sockets b)) _ _ _ _ _ _ (sym c)
      (drop-map unnumbered a₀.out.queue.base a₀.out.numbered) refl
  node_after c false (Some d) =
      same_node (node_of (u false (Some d)) (judged_sockets b)) _ _ _ _ _ _ (sym c)
      (drop-map unnumbered a₀.out.queue.base a₀.out.numbered) refl
  node_after c true None = same_node (node_of (u true None) (judged_sockets b)) _ _ _ _ _ _ (sym c) refl thrown_away
  node_after c true (Some d) =
      same_node (node_of (u true (Some d)) (judged_sockets b)) _ _ _ _ _ _ (sym c) refl thrown_away

  abbrev link_after : Bool → Option Feed → Stand → Joined → Link
  link_after full o t j =
      link (after_acceptance (role_of f) (x o) i full number mine) (ready []) (record y { asks = theirs }) t j
      (troubled full (x o) y n)

  ends_in : (full : Bool) (o : Option Feed) (t : Stand) (j : Joined) (v : State) →
      after_acceptance (role_of f) (x o) i full number mine ≡ node_of v (judged_sockets b) →
      v.feed ≡ Some fed → v.session.phase ≡ phase.Ready → v.sent ≡ sent' → v.judgements ≡ js' → answers_on k b.sent ≡ [] →
      t ≡ stand_by b.feed b.session.phase b.sent sent' → j ≡ joined_by
      (Some fed) b.feed → link_after full o t j ≡ link_of (m full) v b
  ends_in full o t j v e feed ready_now sent judgements alone e_t e_j =
      links _ _ _ _ _ _ _ _ _ _ _ _ e
      (ap ready (ap mails (sym alone)) ∙ sym (same_stand b _ _ _ _ _ _ feed ready_now sent))
      (ap (λ js. record y { asks = asks_left b.feed b.sent (map (λ j. j.socket) js) }) (sym judgements))
      (e_t ∙ ap (stand_by b.feed b.session.phase b.sent) (sym sent))
      (e_j ∙ ap (λ o. joined_by o b.feed) (sym feed))
      refl

  ends : client ≡ ask.client → (full : Bool) (o : Option Feed) (t : Stand) (j : Joined) → answers_on k b.sent ≡ [] →
      t ≡ stand_by b.feed b.session.phase b.sent sent' → j ≡ joined_by
      (Some fed) b.feed → link_after full o t j ≡ link_of (m full) (u full o) b
  ends c false None t j = ends_in false None t j (u false None) (node_after c false None) refl refl refl refl
  ends c false (Some d) t j =
      ends_in false (Some d) t j (u false (Some d)) (node_after c false (Some d)) refl refl refl refl
  ends c true None t j = ends_in true None t j (u true None) (node_after c true None) refl refl refl refl
  ends c true (Some d) t j =
      ends_in true (Some d) t j (u true (Some d)) (node_after c true (Some d)) refl refl refl refl

  module _ (o : Option Feed) (full : Bool) (c : client ≡ ask.client)
      (may : Accepts (role_of f) (x o) (stand_of (a o) b) i full) (drawn : IsDrawn (x o) number)
      (waits : WaitsUnjudged o a₀.session.phase a₀.sent b.sent (judged_sockets b))
      (alone : answers_on k b.sent ≡ []) where
    leaves : LeavesAt (stand_of (a o) b) (x o).asks mine
    leaves = leaves_fewer (stand_of (a o) b) (x o).asks (asks_left None a₀.sent (judged_sockets b)) mine
        (leaves_at o a₀.session.phase a₀.sent b.sent (judged_sockets b) waits)
        (fewer_asked fed a₀.sent (record { socket = k; frame = w }) (judged_sockets b) refl)

    fewer : AtMost y.asks theirs
    fewer = fewer_judged b.feed b.sent a₀.judgements (judgement k ask answer)

    pub live_is_accepted : HearsIt k (by_ident i) (a o) b →
        Run (role_of f) q (link_of n (a o) b) (link_of (m full) (u full o) b)
    live_is_accepted live =
        one_step (role_of f) q _ _ _ _
        (ap (λ t. link (x o) (stand_of (a o) b) y t (joined_by o b.feed) n) live.stands)
        (step.accepts (x o) y (stand_of (a o) b) (joined_by o b.feed) n i full number mine theirs may drawn leaves fewer)
        (ends c full o (offered (cookie_of f number) number []) by_far alone (sym (live.hears w refl)) (sym (live.joined fed refl refl)))

    pub left_is_accepted : HasLeftIt k (by_ident i) (a o) b →
        Run (role_of f) q (link_of n (a o) b) (link_of (m full) (u full o) b)
    left_is_accepted left =
        one_step (role_of f) q _ _ _ _ refl
        (step.accepts_left (x o) y (stand_of (a o) b) (stand_of b (a o)) (joined_by o b.feed) n k i full number mine theirs left.left may drawn leaves fewer)
        (ends c full o (stand_of b (a o)) apart alone (sym (left.deaf w)) (sym (left.apart_from fed refl)))
