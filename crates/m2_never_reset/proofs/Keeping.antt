-- What two sides have in common, put together from its parts; and what of it stays where one part changes.
use Rattle.std.proofs.Common.{◌≡◌, ◌+◌, ◌≤◌, ◌⊎◌, true, false, List, [], ◌∷◌, ◌++◌, length, length-append, Option, Some, None, refl, sym, ap, ◌∙◌, subst, arith}
use Rattle.m2_journal.specs.m2_fabric.declared.socket.SocketId.{SocketId}
use Rattle.m2_journal.specs.m2_fabric.Sockets.{is_among, same_socket}
use Rattle.m2_session.specs.declared.session.Phase.{Phase}
use Rattle.m2_session.specs.declared.session.Phase.TheVariants as phase
use Rattle.m2_journal.specs.Lawful.{judged_sockets}
use Rattle.m2_journal.specs.Laws.{IfFed}
use Rattle.m2_journal.specs.OutFrames as out
use Rattle.m2_journal.specs.OutFrames.{OutFrame}
use Rattle.m2_journal.specs.State.{Feed, SentFrame, State}
use Rattle.m2_never_reset.specs.Frames.{frames_on, is_ask, asks_on, answers_on, to_come}
use Rattle.m2_never_reset.specs.LinkOf.{judged_count, is_unjudged}
use Rattle.m2_never_reset.specs.Paired.{IsMail, BeginsAccepted, IsToCome, IsAccepted, HasAsked, Beside, beside, FeedIsPaired, SideIsPaired, Paired}
use Rattle.m2_never_reset.proofs.Feeds.{HasHeard}
use Rattle.m2_never_reset.proofs.Sent.{answers_same, answers_here, answers_elsewhere, to_come_asked, to_come_here, to_come_elsewhere}
use Rattle.m2_never_reset.proofs.Written.{AreWritten}
use Rattle.m2_queues.proofs.m2_lemmas.Lists.{all_append}

-- ---- the parts

pub record ListsArePaired (opened : List SocketId) (mine : List SentFrame)
    (mine_judged judged : List SocketId) : Type 0 where
  pub asks : (k : SocketId) → is_among k opened ≡ false → asks_on k mine ≡ []
  pub sent : (k : SocketId) → is_among k opened ≡ false → is_among k mine_judged ≡ false → frames_on k mine ≡ []
  pub asks_once : (k : SocketId) → length (asks_on k mine) ≤ judged_count k judged + 1
  pub unjudged : (k : SocketId) → is_unjudged k mine judged ≡ true → answers_on k mine ≡ []

pub lists : (a b : State) → SideIsPaired a b → ListsArePaired a.opened a.sent (judged_sockets a) (judged_sockets b)
lists a b h = record { asks = h.asks; sent = h.sent; asks_once = h.asks_once; unjudged = h.unjudged }

side : (a b : State) → IfFed a.feed (FeedIsPaired (beside a b)) →
    ListsArePaired a.opened a.sent (judged_sockets a) (judged_sockets b) → SideIsPaired a b
side a b feed h = record { feed = feed; asks = h.asks; sent = h.sent; asks_once = h.asks_once; unjudged = h.unjudged }

pub paired : (a b : State) →
    IfFed a.feed (FeedIsPaired (beside a b)) → ListsArePaired a.opened a.sent (judged_sockets a) (judged_sockets b) →
    IfFed b.feed (FeedIsPaired (beside b a)) → ListsArePaired b.opened b.sent (judged_sockets b)
    (judged_sockets a) → Paired a b
paired a b near_feed near far_feed far = record { near = side a b near_feed near; far = side b a far_feed far }

pub if_fed : (o : Option Feed) (P Q : Feed → Type 0) → ((d : Feed) → P d → Q d) → IfFed o P → IfFed o Q
if_fed None P Q f h = tt
if_fed (Some d) P Q f h = f d h

-- ---- the other side's feed changes

pub with_other : (s : Beside) (o : Option Feed) (e : Feed) → FeedIsPaired s e →
    (e.opened ≡ true → IfFed o (λ c. same_socket c.socket e.socket ≡ true → IsAccepted s.phase (to_come e s.theirs))) → FeedIsPaired (record s { other = o }) e
with_other s o e h new = record {
  got = h.got;
  sent = h.sent;
  texts = h.texts;
  taken = h.taken;
  asks_alone = h.asks_alone;
  unjudged = h.unjudged;
  coming = h.coming;
  accepted = new;
}

pub without_other : (s : Beside) (e : Feed) → FeedIsPaired s e → FeedIsPaired (record s { other = None }) e
without_other s e h = with_other s None e h (λ o. tt)

-- it is the same socket
pub same_other : (s : Beside) (d d' : Feed) (e : Feed) → d'.socket ≡ d.socket → FeedIsPaired
    (record s { other = Some d }) e → FeedIsPaired (record s { other = Some d' }) e
same_other s d d' e one h =
    with_other (record s { other = Some d }) (Some d') e h
    (λ o same. h.accepted o (subst (λ k. same_socket k e.socket ≡ true) one same))

-- ---- the feed has heard more, or more is put there

pub heard_more : (s : Beside) (d d' : Feed) → HasHeard d d' → AreWritten s.phase s.last d'.texts → FeedIsPaired s d →
    FeedIsPaired s d'
heard_more s d d' is texts h = record {
  got =
      let l = h.got in let e = is.taken in let all = ap length is.got in let parts = length-append d.got is.more in omega (arith, l, e, all, parts);
  sent = rw (is.socket, is.taken) h.sent;
  texts = texts;
  taken = λ e. h.taken (sym is.opened ∙ e);
  asks_alone = subst (λ k. (s.phase ≡ phase.Ready) ⊎ (answers_on k s.mine ≡ [])) (sym is.socket) h.asks_alone;
  unjudged =
      λ e. subst (λ l. HasAsked s.phase × (l ≡ [])) come
      (h.unjudged (subst (λ k. is_unjudged k s.mine s.judged ≡ true) is.socket e));
  coming = subst (IsToCome s.phase) come h.coming;
  accepted =
      λ e. subst₂ (λ k l. IfFed s.other (λ c. same_socket c.socket k ≡ true → IsAccepted s.phase l))
      (sym is.socket) come (h.accepted (sym is.opened ∙ e));
}
  where
    come : to_come d s.theirs ≡ to_come d' s.theirs
    come = rw (is.socket, is.taken) refl

    subst₂ : {X Y : Type 0} (P : X → Y → Type 0) {x x' : X} {y y' : Y} → x ≡ x' → y ≡ y' → P x y → P x' y'
    subst₂ P {x} {x'} {y} {y'} e f h = subst (λ z. P x' z) f (subst (λ z. P z y) e h)

-- ---- the other side sends an ask

pub asked_more : (s : Beside) (x : SentFrame) (e : Feed) → is_ask x.frame ≡ true → FeedIsPaired s e → FeedIsPaired
    (record s { theirs = s.theirs ++ x ∷ [] }) e
asked_more s x e is h = record {
  got = h.got;
  sent = subst (λ l. e.taken ≤ length l) (sym (answers_same e.socket s.theirs x is)) h.sent;
  texts = h.texts;
  taken = h.taken;
  asks_alone = h.asks_alone;
  unjudged = λ u. subst (λ l. HasAsked s.phase × (l ≡ [])) come (h.unjudged u);
  coming = subst (IsToCome s.phase) come h.coming;
  accepted =
      λ o. subst (λ l. IfFed s.other (λ c. same_socket c.socket e.socket ≡ true → IsAccepted s.phase l)) come
      (h.accepted o);
}
  where
    come : to_come e s.theirs ≡ to_come e (s.theirs ++ x ∷ [])
    come = sym (to_come_asked e s.theirs x is)

-- ---- the other side sends a frame

-- elsewhere
pub sent_elsewhere : (s : Beside) (x : SentFrame)
    (e : Feed) → same_socket e.socket x.socket ≡ false → FeedIsPaired s e → FeedIsPaired
    (record s { theirs = s.theirs ++ x ∷ [] }) e
sent_elsewhere s x e is h = record {
  got = h.got;
  sent = subst (λ l. e.taken ≤ length l) (sym (answers_elsewhere e.socket s.theirs x is)) h.sent;
  texts = h.texts;
  taken = h.taken;
  asks_alone = h.asks_alone;
  unjudged = λ u. subst (λ l. HasAsked s.phase × (l ≡ [])) come (h.unjudged u);
  coming = subst (IsToCome s.phase) come h.coming;
  accepted =
      λ o. subst (λ l. IfFed s.other (λ c. same_socket c.socket e.socket ≡ true → IsAccepted s.phase l)) come
      (h.accepted o);
}
  where
    come : to_come e s.theirs ≡ to_come e (s.theirs ++ x ∷ [])
    come = sym (to_come_elsewhere e s.theirs x is)

-- mail, where an acceptance has come or is to come
mail_behind : (p : Phase) (ws : List OutFrame) (w : OutFrame) → IsMail w → IsAccepted p ws → IsToCome p ws →
    IsToCome p (ws ++ w ∷ [])
mail_behind phase.Ready ws w m a h = all_append IsMail ws (w ∷ []) h (m, tt)
mail_behind phase.IdentSent (out.server_ident c g ∷ ws) w m a h = all_append IsMail ws (w ∷ []) h (m, tt)
mail_behind phase.IdentSent (out.reconnect_ok n ∷ ws) w m a h = all_append IsMail ws (w ∷ []) h (m, tt)
mail_behind phase.ReconnectSent (out.server_ident c g ∷ ws) w m a h = all_append IsMail ws (w ∷ []) h (m, tt)
mail_behind phase.ReconnectSent (out.reconnect_ok n ∷ ws) w m a h = all_append IsMail ws (w ∷ []) h (m, tt)
mail_behind p ws w m a h = elim a [ ]

accepted_behind : (p : Phase) (ws : List OutFrame) (w : OutFrame) → IsAccepted p ws → IsAccepted p (ws ++ w ∷ [])
accepted_behind phase.Ready ws w a = tt
accepted_behind phase.IdentSent (out.server_ident c g ∷ ws) w a = tt
accepted_behind phase.IdentSent (out.reconnect_ok n ∷ ws) w a = tt
accepted_behind phase.ReconnectSent (out.server_ident c g ∷ ws) w a = tt
accepted_behind phase.ReconnectSent (out.reconnect_ok n ∷ ws) w a = tt
accepted_behind p ws w a = elim a [ ]

-- where it is, no ask is unjudged
pub not_accepted : (p : Phase) (ws : List OutFrame) → HasAsked p × (ws ≡ []) → IsAccepted p ws → ⊥
not_accepted phase.IdentSent ws h a = elim (subst BeginsAccepted h.1 a) [ ]
not_accepted phase.ReconnectSent ws h a = elim (subst BeginsAccepted h.1 a) [ ]
not_accepted phase.Ready ws h a = elim h.0 [ ]
not_accepted phase.Connecting ws h a = elim a [ ]
not_accepted phase.Absent ws h a = elim a [ ]
not_accepted phase.Standby ws h a = elim a [ ]
not_accepted phase.Wait ws h a = elim a [ ]

pub mailed_here : (s : Beside) (x : SentFrame) (e : Feed) → IsMail x.frame → is_ask x.frame ≡ false →
    same_socket e.socket x.socket ≡ true → IsAccepted s.phase (to_come e s.theirs) →
    FeedIsPaired s e → FeedIsPaired (record s { theirs = s.theirs ++ x ∷ [] }) e
mailed_here s x e m n one a h = record {
  got = h.got;
  sent =
      let l = h.sent in let all = ap length (answers_here e.socket s.theirs x n one) in let parts = length-append
      (answers_on e.socket s.theirs) (x.frame ∷ []) in omega (arith, l, all, parts);
  texts = h.texts;
  taken = h.taken;
  asks_alone = h.asks_alone;
  unjudged = λ u. absurd (not_accepted s.phase (to_come e s.theirs) (h.unjudged u) a);
  coming = subst (IsToCome s.phase) come (mail_behind s.phase (to_come e s.theirs) x.frame m a h.coming);
  accepted =
      λ o. if_fed s.other _
      (λ c. same_socket c.socket e.socket ≡ true → IsAccepted s.phase (to_come e (s.theirs ++ x ∷ [])))
      (λ c k same. subst (IsAccepted s.phase) come (accepted_behind s.phase (to_come e s.theirs) x.frame a))
      (h.accepted o);
}
  where
    come : to_come e s.theirs ++ x.frame ∷ [] ≡ to_come e (s.theirs ++ x ∷ [])
    come = sym (to_come_here e s.theirs x n one h.sent)
