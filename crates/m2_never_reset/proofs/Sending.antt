-- What the two sides have in common stays where one sends a frame that is no ask.
use Rattle.std.proofs.Common.{◌≡◌, ◌+◌, ◌≤◌, ◌⊎◌, inl, inr, Bool, true, false, if◌then◌else◌, List, [], ◌∷◌, ◌++◌, length, map, Some, None, refl, sym, ◌∙◌, subst}
use Rattle.m2_journal.specs.m2_fabric.declared.socket.SocketId.{SocketId}
use Rattle.m2_journal.specs.m2_fabric.Sockets.{is_among, same_socket}
use Rattle.m2_session.specs.declared.session.Phase.TheVariants as phase
use Rattle.m2_journal.specs.Laws.{taken_among}
use Rattle.m2_journal.specs.OutFrames.{OutFrame}
use Rattle.m2_journal.specs.State.{Feed, Judgement, SentFrame}
use Rattle.m2_never_reset.specs.Frames.{ask_of, is_ask, answers_on, to_come}
use Rattle.m2_never_reset.specs.LinkOf.{judged_count, is_unjudged}
use Rattle.m2_never_reset.specs.Paired.{IsMail, IsAccepted, HasAsked, Beside, FeedIsPaired}
use Rattle.m2_never_reset.proofs.Keeping.{ListsArePaired, same_other, sent_elsewhere, mailed_here}
use Rattle.m2_never_reset.proofs.Sent.{frames_elsewhere, asks_same, answers_elsewhere}
use Rattle.m2_never_reset.proofs.Sockets.{taken_is_judged}
use Rattle.m2_queues.proofs.m2_lemmas.Booleans.{from_false_true}
use Rattle.m2_journal.proofs.m2_fabric.Sockets.{same_equal, same_turned}

-- ---- the sender's own facts

pub unjudged_same : (k : SocketId) (mine : List SentFrame) (x : SentFrame) (judged : List SocketId) →
    ask_of x.frame ≡ None → is_unjudged k (mine ++ x ∷ []) judged ≡ is_unjudged k mine judged
unjudged_same k mine x judged n = rw (asks_same k mine x n) refl

pub sent_in_ready : (s : Beside) (x : SentFrame)
    (d : Feed) → ask_of x.frame ≡ None → s.phase ≡ phase.Ready → FeedIsPaired s d → FeedIsPaired
    (record s { mine = s.mine ++ x ∷ [] }) d
sent_in_ready s x d n ready h = record {
  got = h.got;
  sent = h.sent;
  texts = h.texts;
  taken = h.taken;
  asks_alone = inl ready;
  unjudged = λ u. h.unjudged (sym (unjudged_same d.socket s.mine x s.judged n) ∙ u);
  coming = h.coming;
  accepted = h.accepted;
}

-- a frame is sent on a socket that was opened or on which it judged, and on which no ask of its own is unjudged
pub sent_lists : (opened : List SocketId) (mine : List SentFrame) (mine_judged judged : List SocketId) (x : SentFrame) →
    ask_of x.frame ≡ None →
    (is_among x.socket opened ≡ true) ⊎
    (is_among x.socket mine_judged ≡ true) → (is_unjudged x.socket mine judged ≡ true → ⊥) →
    ListsArePaired opened mine mine_judged judged → ListsArePaired opened (mine ++ x ∷ []) mine_judged judged
sent_lists opened mine mine_judged judged x n found settled h = record {
  asks = λ k e. asks_same k mine x n ∙ h.asks k e;
  sent = λ k e j. frames_elsewhere k mine x (apart k found e j) ∙ h.sent k e j;
  asks_once = λ k. subst (λ l. length l ≤ judged_count k judged + 1) (sym (asks_same k mine x n)) (h.asks_once k);
  unjudged = λ k u. alone k (sym (unjudged_same k mine x judged n) ∙ u) (same_socket k x.socket) refl;
}
  where
    apart : (k : SocketId) → (is_among x.socket opened ≡ true) ⊎ (is_among x.socket mine_judged ≡ true) →
        is_among k opened ≡ false → is_among k mine_judged ≡ false →
        same_socket k x.socket ≡ false
    apart k f e j = at f (same_socket k x.socket) refl
      where
        at : (is_among x.socket opened ≡ true) ⊎ (is_among x.socket mine_judged ≡ true) → (t : Bool) →
            same_socket k x.socket ≡ t → t ≡ false
        at f false s = refl
        at (inl o) true s = from_false_true (sym e ∙ subst (λ z. is_among z opened ≡ true) (sym (same_equal k x.socket s)) o)
        at (inr o) true s =
            from_false_true (sym j ∙ subst (λ z. is_among z mine_judged ≡ true) (sym (same_equal k x.socket s)) o)

    alone : (k : SocketId) → is_unjudged k mine judged ≡ true → (t : Bool) → same_socket k x.socket ≡ t →
        answers_on k (mine ++ x ∷ []) ≡ []
    alone k u true s = absurd (settled (subst (λ z. is_unjudged z mine judged ≡ true) (same_equal k x.socket s) u))
    alone k u false s = answers_elsewhere k mine x s ∙ h.unjudged k u

-- a feed was opened or taken
pub found_among : (opened : List SocketId) (js : List Judgement) (d : Feed) →
    is_among d.socket (if d.opened then opened else taken_among js) ≡ true →
    (is_among d.socket opened ≡ true) ⊎ (is_among d.socket (map (λ j. j.socket) js) ≡ true)
found_among opened js d h = at d.opened h
  where
    at : (t : Bool) → is_among d.socket (if t then opened else taken_among js) ≡ true →
        (is_among d.socket opened ≡ true) ⊎ (is_among d.socket (map (λ j. j.socket) js) ≡ true)
    at true k = inl k
    at false k = inr (taken_is_judged js d.socket k)

-- in Ready no ask is unjudged
pub settled_in_ready : (s : Beside) (d : Feed) → s.phase ≡ phase.Ready → FeedIsPaired s d →
    is_unjudged d.socket s.mine s.judged ≡ true → ⊥
settled_in_ready s d ready h u = elim (subst HasAsked ready (h.unjudged u).0) [ ]

-- ---- the other side's facts

accepted_of : (s : Beside) (d e : Feed) → FeedIsPaired
    (record s { other = Some d }) e → same_socket e.socket d.socket ≡ true → IsAccepted s.phase (to_come e s.theirs)
accepted_of s d e h one = at e.opened refl
  where
    at : (t : Bool) → e.opened ≡ t → IsAccepted s.phase (to_come e s.theirs)
    at true o = h.accepted o (same_turned d.socket e.socket ∙ one)
    at false o = subst (λ p. IsAccepted p (to_come e s.theirs)) (sym (h.taken o)) tt

-- mail is sent on the feed
pub mailed : (s : Beside) (d d' : Feed) (w : OutFrame)
    (e : Feed) → IsMail w → is_ask w ≡ false → d'.socket ≡ d.socket → FeedIsPaired (record s { other = Some d }) e →
    FeedIsPaired (record s { other = Some d'; theirs = s.theirs ++ record { socket = d.socket; frame = w } ∷ [] }) e
mailed s d d' w e m n one h =
    same_other (record s { theirs = s.theirs ++ record { socket = d.socket; frame = w } ∷ [] }) d d' e one
    (at (same_socket e.socket d.socket) refl)
  where
    x : SentFrame
    x = record { socket = d.socket; frame = w }

    at : (t : Bool) → same_socket e.socket d.socket ≡ t → FeedIsPaired
        (record s { other = Some d; theirs = s.theirs ++ x ∷ [] }) e
    at true same = mailed_here (record s { other = Some d }) x e m n same (accepted_of s d e h same) h
    at false other = sent_elsewhere (record s { other = Some d }) x e other h
