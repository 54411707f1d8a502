-- What the two sides have in common, part by part, where one of them judges an ask of the other.
use Rattle.std.proofs.Common.{◌≡◌, ℕ, zero, suc, ◌+◌, ◌≤◌, ◌⊎◌, inl, inr, Bool, true, false, List, [], ◌∷◌, ◌++◌, length, length-append, drop, Option, Some, None, refl, sym, ap, ◌∙◌, subst, arith}
use Rattle.std.specs.List.{AllByRecursion, filter}
use Rattle.std.proofs.lemmas.Bool.{ltb-true, false_from_ne_true}
use Rattle.std.proofs.lemmas.List.Elements.{filter-append}
use Rattle.m2_journal.specs.m2_fabric.declared.socket.SocketId.{SocketId}
use Rattle.m2_journal.specs.m2_fabric.Sockets.{is_among, same_socket}
use Rattle.m2_session.specs.declared.session.Phase.{Phase}
use Rattle.m2_session.specs.declared.session.Phase.TheVariants as phase
use Rattle.m2_journal.specs.Laws.{IfFed}
use Rattle.m2_journal.specs.OutFrames.{OutFrame}
use Rattle.m2_journal.specs.State.{Feed, SentFrame}
use Rattle.m2_never_reset.specs.Frames.{ask_of, is_ask, asks_on, answers_on, to_come}
use Rattle.m2_never_reset.specs.LinkOf.{judged_count, is_unjudged}
use Rattle.m2_never_reset.specs.Paired.{IsMail, IsAnswered, BeginsAccepted, IsToCome, IsAccepted, HasAsked, Beside, FeedIsPaired}
use Rattle.m2_never_reset.proofs.Judging.{fewer_unjudged, count-grows}
use Rattle.m2_never_reset.proofs.Keeping.{ListsArePaired, if_fed, not_accepted, sent_elsewhere}
use Rattle.m2_never_reset.proofs.Sending.{sent_lists, unjudged_same}
use Rattle.m2_never_reset.proofs.Sent.{answers_here, answers_elsewhere, to_come_here}
use Rattle.m2_never_reset.proofs.Written.{AreWritten}
use Rattle.m2_queues.proofs.m2_lemmas.Booleans.{from_false_true}
use Rattle.m2_journal.proofs.m2_fabric.Sockets.{same_refl, same_equal, same_turned, among_last, among_front}

-- ---- lists

-- the judging side's own: a judgement more
pub more_judged : (opened : List SocketId) (mine : List SentFrame) (mj judged more : List SocketId) →
    ListsArePaired opened mine mj judged → ListsArePaired opened mine (mj ++ more) judged
more_judged opened mine mj judged more h = record {
  asks = h.asks;
  sent = λ k e j. h.sent k e (false_from_ne_true (is_among k mj) (λ i. from_false_true (sym j ∙ among_front k mj more i)));
  asks_once = h.asks_once;
  unjudged = h.unjudged;
}

-- no ask was sent on a socket that isn't its own
pub unasked_there : (opened : List SocketId) (mine : List SentFrame) (mj judged : List SocketId) (k : SocketId) →
    is_among k opened ≡ false → ListsArePaired opened mine mj judged →
    is_unjudged k mine judged ≡ true → ⊥
unasked_there opened mine mj judged k not_opened h u =
    let none : length (asks_on k mine) ≡ 0 = ap length (h.asks k not_opened) in
    let some = ltb-true _ _ u in
    omega (arith, none, some)

pub near_sent : (opened : List SocketId) (mine : List SentFrame) (mj judged : List SocketId) (x : SentFrame) →
    ask_of x.frame ≡ None → is_among x.socket opened ≡ false →
    ListsArePaired opened mine mj judged → ListsArePaired opened (mine ++ x ∷ []) (mj ++ x.socket ∷ []) judged
near_sent opened mine mj judged x n not_opened h =
    sent_lists opened mine (mj ++ x.socket ∷ []) judged x n (inr (among_last x.socket mj))
    (unasked_there opened mine mj judged x.socket not_opened h)
    (more_judged opened mine mj judged (x.socket ∷ []) h)

-- the other side's: one of its asks is judged
pub far_judged : (opened : List SocketId) (mine : List SentFrame) (mj judged more : List SocketId) →
    ListsArePaired opened mine mj judged → ListsArePaired opened mine mj (judged ++ more)
far_judged opened mine mj judged more h = record {
  asks = h.asks;
  sent = h.sent;
  asks_once =
      λ k. (let was = h.asks_once k in let grows = count-grows (same_socket k) judged more in omega (arith, was, grows));
  unjudged = λ k u. h.unjudged k (fewer_unjudged k mine judged more u);
}

-- ---- the judging side's own feed

pub near_refuses : (s : Beside) (opened : List SocketId) (x : SentFrame) (d : Feed) → ask_of x.frame ≡ None →
    is_among x.socket opened ≡ false →
    (d.opened ≡ true → is_among d.socket opened ≡ true) → FeedIsPaired s d → FeedIsPaired
    (record s { mine = s.mine ++ x ∷ [] }) d
near_refuses s opened x d n not_opened its h = record {
  got = h.got;
  sent = h.sent;
  texts = h.texts;
  taken = h.taken;
  asks_alone = alone h.asks_alone d.opened refl;
  unjudged = λ u. h.unjudged (sym (unjudged_same d.socket s.mine x s.judged n) ∙ u);
  coming = h.coming;
  accepted = h.accepted;
}
  where
    alone : (s.phase ≡ phase.Ready) ⊎ (answers_on d.socket s.mine ≡ []) → (t : Bool) → d.opened ≡ t →
        (s.phase ≡ phase.Ready) ⊎ (answers_on d.socket (s.mine ++ x ∷ []) ≡ [])
    alone (inl e) t o = inl e
    alone (inr e) false o = inl (h.taken o)
    alone (inr e) true o =
        inr (answers_elsewhere d.socket s.mine x (false_from_ne_true (same_socket d.socket x.socket) (λ same. from_false_true (sym not_opened ∙ subst (λ k. is_among k opened ≡ true) (same_equal d.socket x.socket same) (its o)))) ∙ e)

-- a socket that is taken
pub near_takes : (s : Beside) (d : Feed) → s.phase ≡ phase.Ready → d.taken ≡ 0 → d.opened ≡ false →
    AreWritten s.phase s.last d.texts → (is_unjudged d.socket s.mine s.judged ≡ true → ⊥) →
    answers_on d.socket s.theirs ≡ [] → FeedIsPaired s d
near_takes s d ready none closed texts judged alone = record {
  got = let e = none in omega (arith, e);
  sent = let e = none in omega (arith, e);
  texts = texts;
  taken = λ e. ready;
  asks_alone = inl ready;
  unjudged = λ u. absurd (judged u);
  coming = subst (λ p. IsToCome p (to_come d s.theirs)) (sym ready) (subst (AllByRecursion IsMail) (sym empty) tt);
  accepted = λ o. from_false_true (sym closed ∙ o);
}
  where
    drop_none : (n : ℕ) (ws : List OutFrame) → ws ≡ [] → drop n ws ≡ []
    drop_none zero ws e = e
    drop_none (suc n) [] e = refl
    drop_none (suc n) (w ∷ ws) e = absurd (some_isnt_none (sym e))
      where
        IsSome : List OutFrame → Type 0
        IsSome [] = ⊥
        IsSome (v ∷ vs) = Unit {0}

        some_isnt_none : [] ≡ w ∷ ws → ⊥
        some_isnt_none g = elim (subst IsSome (sym g) tt) [ ]

    empty : to_come d s.theirs ≡ []
    empty = drop_none d.taken (answers_on d.socket s.theirs) alone

-- ---- the other side's feed

module _ (s : Beside) (k : SocketId) (e : Feed) (h : FeedIsPaired s e)
    (once : length (asks_on k s.mine) ≤ judged_count k s.judged + 1) where
  abbrev judged' : List SocketId
  judged' = s.judged ++ k ∷ []

  -- of the socket on which it was judged no ask is unjudged
  all_judged : same_socket e.socket k ≡ true → is_unjudged e.socket s.mine judged' ≡ true → ⊥
  all_judged one u =
      let here = same_equal e.socket k one in
      let below = ltb-true _ _ (subst (λ z. is_unjudged z s.mine judged' ≡ true) here u) in
      let parts = ap length (filter-append (same_socket k) s.judged (k ∷ [])) in
      let size = length-append (filter (same_socket k) s.judged) (filter (same_socket k) (k ∷ [])) in
      let last : length (filter (same_socket k) (k ∷ [])) ≡ 1 = rw (same_refl k) refl in
      omega (arith, below, parts, size, last, once)

  -- it stands on the ask: an answer is to come
  pub far_answered : (w : OutFrame) (o : Option Feed) → is_ask w ≡ false → same_socket e.socket k ≡ true →
      is_unjudged e.socket s.mine s.judged ≡ true → IsAnswered (w ∷ []) →
      (e.opened ≡ true → IfFed o (λ c. same_socket c.socket e.socket ≡ true → IsAccepted s.phase (w ∷ []))) →
      FeedIsPaired (record s { theirs = s.theirs ++ record { socket = k; frame = w } ∷ []; judged = judged'; other = o }) e
  far_answered w o n one unjudged answered accepted = record {
    got = h.got;
    sent =
        let l = h.sent in let all = ap length (answers_here e.socket s.theirs x n one) in let parts = length-append
        (answers_on e.socket s.theirs) (w ∷ []) in omega (arith, l, all, parts);
    texts = h.texts;
    taken = h.taken;
    asks_alone = h.asks_alone;
    unjudged = λ u. absurd (all_judged one u);
    coming = subst (IsToCome s.phase) (sym come) (as_answered s.phase (h.unjudged unjudged).0);
    accepted =
        λ t. subst (λ l. IfFed o (λ c. same_socket c.socket e.socket ≡ true → IsAccepted s.phase l)) (sym come)
        (accepted t);
  }
    where
      x : SentFrame
      x = record { socket = k; frame = w }

      come : to_come e (s.theirs ++ x ∷ []) ≡ w ∷ []
      come = to_come_here e s.theirs x n one h.sent ∙ ap (λ l. l ++ w ∷ []) (h.unjudged unjudged).1

      as_answered : (p : Phase) → HasAsked p → IsToCome p (w ∷ [])
      as_answered phase.IdentSent a = answered
      as_answered phase.ReconnectSent a = answered
      as_answered phase.Connecting a = elim a [ ]
      as_answered phase.Ready a = elim a [ ]
      as_answered phase.Absent a = elim a [ ]
      as_answered phase.Standby a = elim a [ ]
      as_answered phase.Wait a = elim a [ ]

  -- nothing comes there
  pub far_unheard : (o : Option Feed) →
      (e.opened ≡ true → IfFed o (λ c. same_socket c.socket e.socket ≡ true → IsAccepted s.phase (to_come e s.theirs))) →
      FeedIsPaired (record s { judged = judged'; other = o }) e
  far_unheard o accepted = record {
    got = h.got;
    sent = h.sent;
    texts = h.texts;
    taken = h.taken;
    asks_alone = h.asks_alone;
    unjudged = λ u. h.unjudged (fewer_unjudged e.socket s.mine s.judged (k ∷ []) u);
    coming = h.coming;
    accepted = accepted;
  }

  -- what is refused there
  pub far_refused : (w : OutFrame) → is_ask w ≡ false → (is_unjudged k s.mine s.judged ≡ true) → IsAnswered (w ∷ []) →
      FeedIsPaired (record s { theirs = s.theirs ++ record { socket = k; frame = w } ∷ []; judged = judged' }) e
  far_refused w n unjudged answered = at (same_socket e.socket k) refl
    where
      at : (t : Bool) → same_socket e.socket k ≡ t → FeedIsPaired
          (record s { theirs = s.theirs ++ record { socket = k; frame = w } ∷ []; judged = judged' }) e
      at true one =
          let here : is_unjudged e.socket s.mine s.judged ≡ true = subst (λ z. is_unjudged z s.mine s.judged ≡ true)
          (sym (same_equal e.socket k one)) unjudged in
          far_answered w s.other n one here answered
          (λ o. if_fed s.other (λ c. same_socket c.socket e.socket ≡ true → IsAccepted s.phase (to_come e s.theirs)) (λ c. same_socket c.socket e.socket ≡ true → IsAccepted s.phase (w ∷ []))
          (λ c was same. absurd (not_accepted s.phase (to_come e s.theirs) (h.unjudged here) (was same)))
          (h.accepted o))
      at false apart =
          sent_elsewhere (record s { judged = judged' }) (record { socket = k; frame = w }) e apart
          (far_unheard s.other h.accepted)

  -- where its socket is taken
  pub far_taken : (w : OutFrame) (d : Feed) → is_ask w ≡ false → (is_unjudged k s.mine s.judged ≡ true) →
      IsAnswered (w ∷ []) → BeginsAccepted (w ∷ []) → d.socket ≡ k →
      FeedIsPaired (record s { theirs = s.theirs ++ record { socket = k; frame = w } ∷ []; judged = judged'; other = Some d }) e
  far_taken w d n unjudged answered accepts is = at (same_socket e.socket k) refl
    where
      as_accepted : (p : Phase) → HasAsked p → IsAccepted p (w ∷ [])
      as_accepted phase.IdentSent a = accepts
      as_accepted phase.ReconnectSent a = accepts
      as_accepted phase.Connecting a = elim a [ ]
      as_accepted phase.Ready a = elim a [ ]
      as_accepted phase.Absent a = elim a [ ]
      as_accepted phase.Standby a = elim a [ ]
      as_accepted phase.Wait a = elim a [ ]

      at : (t : Bool) → same_socket e.socket k ≡ t → FeedIsPaired
          (record s { theirs = s.theirs ++ record { socket = k; frame = w } ∷ []; judged = judged'; other = Some d }) e
      at true one =
          let here : is_unjudged e.socket s.mine s.judged ≡ true = subst (λ z. is_unjudged z s.mine s.judged ≡ true)
          (sym (same_equal e.socket k one)) unjudged in
          far_answered w (Some d) n one here answered (λ o same. as_accepted s.phase (h.unjudged here).0)
      at false apart =
          sent_elsewhere (record s { judged = judged'; other = Some d }) (record { socket = k; frame = w }) e apart
          (far_unheard (Some d) (λ o same. from_false_true (sym apart ∙ same_turned e.socket k ∙ subst (λ z. same_socket z e.socket ≡ true) is same)))
