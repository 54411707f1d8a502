-- An ask that is answered and not taken is one step of the link; where the side gives up a socket of its own, two.
use Rattle.std.proofs.Common.{◌≡◌, ℕ, ◌+◌, Bool, true, false, if◌then◌else◌, List, [], ◌∷◌, ◌++◌, map, Option, Some, None, refl, sym, ap, ◌∙◌}
use Rattle.std.proofs.lemmas.List.{append-nil}
use Rattle.m2_session.specs.declared.ask.AskFacts.{AskFacts}
use Rattle.m2_journal.specs.m2_fabric.declared.socket.SocketId.{SocketId}
use Rattle.m2_session.specs.declared.answer.Answer.{Answer}
use Rattle.m2_session.specs.declared.event.Event.TheVariants as event
use Rattle.m2_session.specs.declared.session.Phase.{Phase}
use Rattle.m2_session.specs.declared.session.Phase.TheVariants as phase
use Rattle.m2_session.specs.Phases as phases
use Rattle.m2_journal.specs.Lawful.{judged_sockets}
use Rattle.m2_journal.specs.OutFrames as out
use Rattle.m2_journal.specs.OutFrames.{OutFrame}
use Rattle.m2_journal.specs.State.{Feed, SentFrame, Judgement, State}
use Rattle.m2_journal.specs.Steps.{notes, tells, sends}
use Rattle.m2_never_reset.specs.Asks.{Ask, Refusal, reset, Asks, AtMost}
use Rattle.m2_never_reset.specs.Link.{Stand, refused, Node, apart, Link, link}
use Rattle.m2_never_reset.specs.Roles.{Role}
use Rattle.m2_never_reset.specs.Steps as step
use Rattle.m2_never_reset.specs.Steps.{Run, near_acts, HasLeft, IsDrawn, MayRefuse}
use Rattle.m2_never_reset.specs.Frames.{ask_of, is_ask}
use Rattle.m2_never_reset.specs.LinkOf.{asks_left, joined_by, stand_asking, stand_off, stand_on, stand_by, stand_of, node_of, link_of}
use Rattle.m2_never_reset.proofs.Judging.{HearsIt, HasLeftIt, fewer_judged}
use Rattle.m2_never_reset.proofs.Leaving.{WaitsUnjudged, leaves_at}
use Rattle.m2_never_reset.proofs.Links.{plus_none, links, same_asks, one_step}
use Rattle.m2_never_reset.proofs.Sent.{asks_same}
use Rattle.m2_never_reset.proofs.Stable.{judgement}

-- a side stands as it did, where it sends what is no ask
stand_sent : (p : Phase) (d : Feed) (mine theirs : List SentFrame) (x : SentFrame) → ask_of x.frame ≡ None →
    stand_on p d mine theirs ≡ stand_on p d (mine ++ x ∷ []) theirs
stand_sent phase.Connecting d mine theirs x e = refl
stand_sent phase.IdentSent d mine theirs x e = rw (asks_same d.socket mine x e) refl
stand_sent phase.ReconnectSent d mine theirs x e = rw (asks_same d.socket mine x e) refl
stand_sent phase.Ready d mine theirs x e = refl
stand_sent phase.Absent d mine theirs x e = refl
stand_sent phase.Standby d mine theirs x e = refl
stand_sent phase.Wait d mine theirs x e = refl

pub stand_sent_by : (o : Option Feed) (p : Phase) (mine theirs : List SentFrame) (x : SentFrame) →
    ask_of x.frame ≡ None → stand_by o p mine theirs ≡ stand_by o p (mine ++ x ∷ []) theirs
stand_sent_by (Some d) p mine theirs x e = stand_sent p d mine theirs x e
stand_sent_by None p mine theirs x e = refl

pub left_sent : (o : Option Feed) (mine : List SentFrame) (judged : List SocketId) (x : SentFrame) →
    ask_of x.frame ≡ None → asks_left o mine judged ≡ asks_left o (mine ++ x ∷ []) judged
left_sent o mine judged x e =
    same_asks (asks_left o mine judged) (asks_left o (mine ++ x ∷ []) judged) (λ k. rw (asks_same k mine x e) refl)

module _ (p q : Role) (n : ℕ) (k : SocketId) (ask : AskFacts) (z : Ask) (number : ℕ) (answer : Answer)
    (a b : State) where
  abbrev x : Node
  x = node_of a (judged_sockets b)

  abbrev y : Node
  y = node_of b (judged_sockets a)

  abbrev js' : List Judgement
  js' = a.judgements ++ judgement k ask answer ∷ []

  abbrev theirs : Asks
  theirs = asks_left b.feed b.sent (map (λ j. j.socket) js')

  fewer : AtMost y.asks theirs
  fewer = fewer_judged b.feed b.sent a.judgements (judgement k ask answer)

  -- ---- a frame is sent

  module _ (w : OutFrame) (no_ask_it : ask_of w ≡ None) (unasked : is_ask w ≡ false) (drawn : IsDrawn x number) where
    abbrev u : State
    u = sends k (w ∷ []) (notes k ask number answer a)

    abbrev it : SentFrame
    it = record { socket = k; frame = w }

    node_after : record x { greatest = number } ≡ node_of u (judged_sockets b)
    node_after =
        ap (λ l. record x { greatest = number; asks = l }) (left_sent a.feed a.sent (judged_sockets b) it no_ask_it)

    ends : (t : Stand) → t ≡ stand_of b u → link (record x { greatest = number }) (stand_of a b)
        (record y { asks = theirs }) t (joined_by a.feed b.feed) n ≡ link_of (n + 0) u b
    ends t e =
        links _ _ _ _ _ _ _ _ _ _ _ _ node_after
        (stand_sent_by a.feed a.session.phase a.sent b.sent it no_ask_it) refl e refl (plus_none n)

    pub live_is_refused : (refusal : Refusal) → MayRefuse p x (stand_of a b) z refusal →
        stand_asking z (w ∷ []) ≡ refused z refusal → HearsIt k z a b →
        Run p q (link_of n a b) (link_of (n + 0) u b)
    live_is_refused refusal may is live =
        one_step p q _ _ _ _
        (ap (λ t. link x (stand_of a b) y t (joined_by a.feed b.feed) n) live.stands)
        (step.refuses x y (stand_of a b) (joined_by a.feed b.feed) n z refusal number theirs may drawn fewer)
        (ends (refused z refusal) (sym is ∙ sym (live.hears w unasked)))

    pub left_is_refused : HasLeftIt k z a b → Run p q (link_of n a b) (link_of (n + 0) u b)
    left_is_refused left =
        one_step p q _ _ _ _ refl
        (step.refuses_left x y (stand_of a b) (stand_of b a) (joined_by a.feed b.feed) n number theirs drawn fewer)
        (ends (stand_of b a) (sym (left.deaf w)))

  -- ---- the socket is closed without a word

  module _ (drawn : IsDrawn x number) where
    abbrev closed : State
    closed = sends k [] (notes k ask number answer a)

    nothing_sent : a.sent ≡ closed.sent
    nothing_sent = sym (append-nil a.sent)

    pub is_closed : Run p q (link_of n a b) (link_of (n + 0) closed b)
    is_closed =
        one_step p q _ _ _ _ refl
        (step.refuses_left x y (stand_of a b) (stand_of b a) (joined_by a.feed b.feed) n number theirs drawn fewer)
        (links _ _ _ _ _ _ _ _ _ _ _ _
        (ap (λ l. record x { greatest = number; asks = asks_left a.feed l (judged_sockets b) }) nothing_sent)
        (ap (λ l. stand_by a.feed a.session.phase l b.sent) nothing_sent) refl
        (ap (stand_by b.feed b.session.phase b.sent) nothing_sent) refl (plus_none n))

-- ---- a socket of its own is given up first

module _ (p q : Role) (n : ℕ) (k : SocketId) (ask : AskFacts) (z : Ask) (number : ℕ) (answer : Answer)
    (a₀ b : State) where
  abbrev before : Option Feed → State
  before o = record a₀ { feed = o }

  abbrev gives_up : Option Feed → State
  gives_up o = sends k (out.reset false ∷ []) (tells event.Pending (notes k ask number answer (before o)))

  abbrev rests_in : Phase
  rests_in = if phases.is a₀.session.phase phase.Standby then phase.Standby else phase.Wait

  has_left : HasLeft (stand_off rests_in)
  has_left = at (phases.is a₀.session.phase phase.Standby)
    where
      at : (t : Bool) → HasLeft (stand_off (if t then phase.Standby else phase.Wait))
      at true = tt
      at false = tt

  abbrev own : Option Feed → Node
  own o = node_of (before o) (judged_sockets b)

  -- without its socket
  abbrev given_up : Option Feed → Node
  given_up o = record (own o) { heard = 0; asks = asks_left None a₀.sent (judged_sockets b) }

  abbrev others : Node
  others = node_of b (judged_sockets a₀)

  abbrev behind : Asks
  behind = asks_left b.feed b.sent (map (λ j. j.socket) (a₀.judgements ++ judgement k ask answer ∷ []))

  abbrev reset_it : SentFrame
  reset_it = record { socket = k; frame = out.reset false }

  node_then : (o : Option Feed) → record (given_up o) { greatest = number } ≡ node_of (gives_up o) (judged_sockets b)
  node_then None =
      ap (λ l. record (given_up None) { greatest = number; asks = l })
      (left_sent None a₀.sent (judged_sockets b) reset_it refl)
  node_then (Some d) =
      ap (λ l. record (given_up (Some d)) { greatest = number; asks = l })
      (left_sent None a₀.sent (judged_sockets b) reset_it refl)

  ends_then : (o : Option Feed) (t : Stand) → t ≡ stand_by b.feed b.session.phase b.sent (a₀.sent ++ reset_it ∷ []) →
      link (record (given_up o) { greatest = number }) (stand_off rests_in)
      (record others { asks = behind }) t apart n ≡ link_of (n + 0) (gives_up o) b
  ends_then None t e = links _ _ _ _ _ _ _ _ _ _ _ _ (node_then None) refl refl e refl (plus_none n)
  ends_then (Some d) t e = links _ _ _ _ _ _ _ _ _ _ _ _ (node_then (Some d)) refl refl e refl (plus_none n)

  module _ (o : Option Feed) (drawn : IsDrawn (own o) number)
      (may : (u : Stand) → HasLeft u → MayRefuse p (given_up o) u z (reset false))
      (waits : WaitsUnjudged o a₀.session.phase a₀.sent b.sent (judged_sockets b)) where
    -- it leaves its socket
    leaves_first : (last : Link) →
        Run p q (link (given_up o) (stand_off rests_in) others (stand_of b (before o)) apart n) last →
        Run p q (link_of n (before o) b) last
    leaves_first last run =
        near_acts _ _ _ (step.leaves (own o) others (stand_of (before o) b) (stand_of b (before o)) (stand_off rests_in) (joined_by o b.feed) n
        (asks_left None a₀.sent (judged_sockets b)) has_left
        (leaves_at o a₀.session.phase a₀.sent b.sent (judged_sockets b) waits)) run

    fewer_then : AtMost others.asks behind
    fewer_then = fewer_judged b.feed b.sent a₀.judgements (judgement k ask answer)

    drawn_then : IsDrawn (given_up o) number
    drawn_then = record { above = drawn.above; within = drawn.within }

    pub live_is_given_up : stand_asking z (out.reset false ∷ []) ≡ refused z (reset false) → HearsIt k z (before o) b →
        Run p q (link_of n (before o) b) (link_of (n + 0) (gives_up o) b)
    live_is_given_up is live =
        leaves_first _
        (one_step p q _ _ _ _
        (ap (λ t. link (given_up o) (stand_off rests_in) others t apart n) live.stands)
        (step.refuses (given_up o) others (stand_off rests_in) apart n z (reset false) number behind (may (stand_off rests_in) has_left) drawn_then fewer_then)
        (ends_then o (refused z (reset false)) (sym is ∙ sym (live.hears (out.reset false) refl))))

    pub left_is_given_up : HasLeftIt k z (before o) b →
        Run p q (link_of n (before o) b) (link_of (n + 0) (gives_up o) b)
    left_is_given_up left =
        leaves_first _
        (one_step p q _ _ _ _ refl
        (step.refuses_left (given_up o) others (stand_off rests_in) (stand_of b (before o)) apart n number behind drawn_then fewer_then)
        (ends_then o (stand_of b (before o)) (sym (left.deaf (out.reset false)))))
