-- What the two sides have in common stays where a socket is opened and where an ask is sent.
use Rattle.std.proofs.Common.{◌≡◌, ℕ, ◌+◌, ◌≤◌, ◌⊎◌, inl, inr, Bool, true, false, not, if◌then◌else◌, List, [], ◌∷◌, ◌++◌, length, length-append, Option, Some, None, refl, sym, ap, ◌∙◌, subst, arith, zero-le}
use Rattle.std.specs.Prelude.{nat_lt}
use Rattle.std.specs.List.{filter}
use Rattle.std.proofs.lemmas.Bool.{ltb-true, ltb-false, false_from_ne_true, true_from_ne_false}
use Rattle.m2_journal.specs.m2_fabric.declared.socket.SocketId.{SocketId}
use Rattle.m2_journal.specs.m2_fabric.Sockets.{is_among, same_socket}
use Rattle.m2_journal.specs.m2_handshake.Course.{course_of}
use Rattle.m2_session.specs.declared.session.Phase.{Phase}
use Rattle.m2_session.specs.declared.session.Phase.TheVariants as phase
use Rattle.m2_journal.specs.Feeds.{silent_feed, opened_feed, begun}
use Rattle.m2_journal.specs.Items as item
use Rattle.m2_journal.specs.Lawful.{OnFeedAt, MayAsk, judged_sockets}
use Rattle.m2_journal.specs.Laws.{IfFed, taken_among}
use Rattle.m2_journal.specs.OutFrames.{OutFrame, ident, reconnect}
use Rattle.m2_journal.specs.SideFacts.{SideFacts, cookie_of, opener_half}
use Rattle.m2_journal.specs.State.{PartText, Feed, SentFrame, State}
use Rattle.m2_journal.specs.Steps.{after, asks_peer}
use Rattle.m2_session.specs.Conditions.{is_kept}
use Rattle.m2_never_reset.specs.Asks.{Ask, by_ident, by_reconnect}
use Rattle.m2_never_reset.specs.Fits.{AreItsAsks}
use Rattle.m2_never_reset.specs.Frames.{frames_on, ask_of, is_ask, asks_on, answers_on, to_come}
use Rattle.m2_never_reset.specs.LinkOf.{judged_count, is_unjudged}
use Rattle.m2_never_reset.specs.PairLaws.{MayCome, Stays}
use Rattle.m2_never_reset.specs.Paired.{IsToCome, IsAccepted, HasAsked, Beside, beside, FeedIsPaired, Paired}
use Rattle.m2_never_reset.proofs.Answering.{goes_on_fits}
use Rattle.m2_never_reset.proofs.Feeds.{opened_hears}
use Rattle.m2_never_reset.proofs.Keeping.{ListsArePaired, lists, paired, if_fed, with_other, same_other, heard_more, asked_more}
use Rattle.m2_never_reset.proofs.Opened.{is_new}
use Rattle.m2_never_reset.proofs.Sent.{frames_elsewhere, asks_elsewhere, asks_here, answers_same}
use Rattle.m2_never_reset.proofs.Written.{AreWritten}
use Rattle.m2_never_reset.proofs.Sockets.{at_among}
use Rattle.m2_queues.proofs.m2_lemmas.Booleans.{from_false_true}
use Rattle.m2_journal.proofs.m2_fabric.Sockets.{same_equal, among_last, among_front}

-- ---- a socket is opened

module _ (f g : SideFacts) (socket : SocketId) (a b : State) (may : MayCome f g (item.opened socket) a b) where
  -- neither side has sent anything there
  mine_none : frames_on socket a.sent ≡ []
  mine_none = may.paired.near.sent socket may.lawful.not_opened may.lawful.not_judged

  theirs_none : frames_on socket b.sent ≡ []
  theirs_none = may.paired.far.sent socket
      (may.fits_after.opened_apart socket (among_last socket a.opened))
      (false_from_ne_true (is_among socket (judged_sockets b)) (λ e.
      let its = at_among (AreItsAsks a.opened a.sent b.judgements) (judged_sockets b) socket may.fits.far_judges e in
      from_false_true (sym may.lawful.not_opened ∙ its.opened)))

  abbrev silent : Feed
  silent = silent_feed socket true a.last a.owes

  abbrev s' : Beside
  s' = record (beside a b) { phase = phase.Connecting }

  nothing_unjudged : {X : Type 0} → is_unjudged socket a.sent (judged_sockets b) ≡ true → X
  nothing_unjudged u =
      let none : length (asks_on socket a.sent) ≡ 0 = ap length (may.paired.near.asks socket may.lawful.not_opened) in
      let some = ltb-true _ _ u in
      absurd (omega (arith, none, some))

  new_there : IfFed b.feed (λ e. e.socket ≡ socket → ⊥)
  new_there = is_new f g socket 0 a b may b.feed may.far_replayed.sound.feed

  silent_is : FeedIsPaired s' silent
  silent_is = record {
    got = zero-le;
    sent = zero-le;
    texts = tt;
    taken = λ e. from_false_true (sym e);
    asks_alone = inr (ap (λ l. filter (λ w. not (is_ask w)) l) mine_none);
    unjudged = λ u. nothing_unjudged u;
    coming = ap (λ l. filter (λ w. not (is_ask w)) l) theirs_none;
    accepted =
        λ o. if_fed b.feed (λ e. e.socket ≡ socket → ⊥) (λ e. same_socket e.socket socket ≡ true → ⊥)
        (λ e new same. new (same_equal e.socket socket same)) new_there;
  }

  opened_so : Paired (after f (item.opened socket) a) b
  opened_so =
      let d : Feed = opened_feed f socket a.last a.owes in
      let h = opened_hears f socket a.last a.owes in
      let near = lists a b may.paired.near in
      paired (after f (item.opened socket) a) b
      (heard_more s' silent d h (goes_on_fits phase.Connecting a.last (course_of (opener_half f) []) silent tt) silent_is)
      (record { asks = λ k e. near.asks k (not_before k e); sent = λ k e j. near.sent k (not_before k e) j; asks_once = near.asks_once; unjudged = near.unjudged })
      (both_fed b.feed (λ e. e.socket ≡ socket → ⊥) (FeedIsPaired (beside b a)) (FeedIsPaired (record (beside b a) { other = Some d }))
      (λ e new k. with_other (beside b a) (Some d) e k (λ o same. absurd (new (sym (same_equal d.socket e.socket same) ∙ h.socket)))) new_there may.paired.far.feed)
      (lists b a may.paired.far)
    where
      not_before : (k : SocketId) → is_among k (a.opened ++ socket ∷ []) ≡ false → is_among k a.opened ≡ false
      not_before k e =
          false_from_ne_true (is_among k a.opened) (λ h. from_false_true (sym e ∙ among_front k a.opened (socket ∷ []) h))

      both_fed : (o : Option Feed) (P Q R : Feed → Type 0) → ((d : Feed) → P d → Q d → R d) → IfFed o P → IfFed o Q →
          IfFed o R
      both_fed None P Q R h p q = tt
      both_fed (Some d) P Q R h p q = h d p q

pub opened_stays : (f g : SideFacts) (socket : SocketId) → Stays f g (item.opened socket)
opened_stays f g socket a b may = opened_so f g socket a b may

-- ---- an ask is sent

module _ (a₀ b : State) (d : Feed) (w : OutFrame) (q : Ask) (p' : Phase) (text : List PartText) where
  abbrev a : State
  a = record a₀ { feed = Some d; session = record a₀.session { phase = phase.Connecting } }

  abbrev x : SentFrame
  x = record { socket = d.socket; frame = w }

  abbrev sent' : List SentFrame
  sent' = a.sent ++ x ∷ []

  abbrev d' : Feed
  d' = record d { texts = text }

  near_lists : ask_of w ≡ Some q → is_ask w ≡ true → is_among d.socket a.opened ≡ true → Paired a b →
      ListsArePaired a.opened sent' (judged_sockets a) (judged_sockets b)
  near_lists is asks opened h = record {
    asks = λ k e. asks_elsewhere k a.sent x (apart k e) ∙ h.near.asks k e;
    sent = λ k e j. frames_elsewhere k a.sent x (apart k e) ∙ h.near.sent k e j;
    asks_once = λ k. once k (same_socket k d.socket) refl;
    unjudged = λ k u. answers_same k a.sent x asks ∙ alone k (same_socket k d.socket) refl u;
  }
    where
      apart : (k : SocketId) → is_among k a.opened ≡ false → same_socket k d.socket ≡ false
      apart k e =
          false_from_ne_true (same_socket k d.socket)
          (λ s. from_false_true (sym e ∙ subst (λ z. is_among z a.opened ≡ true) (sym (same_equal k d.socket s)) opened))

      all_judged : length (asks_on d.socket a.sent) ≤ judged_count d.socket (judged_sockets b)
      all_judged = ltb-false (judged_count d.socket (judged_sockets b)) (length (asks_on d.socket a.sent))
          (false_from_ne_true (is_unjudged d.socket a.sent (judged_sockets b)) (λ u. elim (h.near.feed.unjudged u).0 [ ]))

      once : (k : SocketId) (t : Bool) → same_socket k d.socket ≡ t →
          length (asks_on k sent') ≤ judged_count k (judged_sockets b) + 1
      once k true s =
          let here = same_equal k d.socket s in
          let size = ap length (asks_here k a.sent x q is s) in
          let parts = length-append (asks_on k a.sent) (q ∷ []) in
          let were = subst (λ z. length (asks_on z a.sent) ≤ judged_count z (judged_sockets b)) (sym here) all_judged in
          omega (arith, size, parts, were)
      once k false s =
          subst (λ l. length l ≤ judged_count k (judged_sockets b) + 1) (sym (asks_elsewhere k a.sent x s))
          (h.near.asks_once k)

      sent_asks_alone : (phase.Connecting ≡ phase.Ready) ⊎ (answers_on d.socket a.sent ≡ []) →
          answers_on d.socket a.sent ≡ []
      sent_asks_alone (inl e) = elim (subst IsConnecting e tt) [ ]
        where
          IsConnecting : Phase → Type 0
          IsConnecting phase.Connecting = Unit {0}
          IsConnecting _ = ⊥
      sent_asks_alone (inr e) = e

      alone : (k : SocketId) (t : Bool) → same_socket k d.socket ≡ t → is_unjudged k sent' (judged_sockets b) ≡ true →
          answers_on k a.sent ≡ []
      alone k true s u =
          subst (λ z. answers_on z a.sent ≡ []) (sym (same_equal k d.socket s)) (sent_asks_alone h.near.feed.asks_alone)
      alone k false s u =
          h.near.unjudged k (subst (λ l. nat_lt (judged_count k (judged_sockets b)) (length l) ≡ true) (asks_elsewhere k a.sent x s) u)

  asked_feed : HasAsked p' → AreWritten p' a.last text → is_ask w ≡ true →
      (to_come d b.sent ≡ [] → IsToCome p' (to_come d b.sent)) → Paired a b →
      FeedIsPaired (record (beside a b) { phase = p'; mine = sent' }) d'
  asked_feed asked texts is coming h = record {
    got = h.near.feed.got;
    sent = h.near.feed.sent;
    texts = texts;
    taken = λ e. absurd (not_ready (h.near.feed.taken e));
    asks_alone = inr (answers_same d.socket a.sent x is ∙ still h.near.feed.asks_alone);
    unjudged = λ u. (asked, h.near.feed.coming);
    coming = coming h.near.feed.coming;
    accepted =
        λ o. if_fed b.feed (λ e. same_socket e.socket d.socket ≡ true → ⊥)
        (λ e. same_socket e.socket d.socket ≡ true → IsAccepted p' (to_come d b.sent)) (λ e k same. absurd (k same))
        (h.near.feed.accepted o);
  }
    where
      not_ready : phase.Connecting ≡ phase.Ready → ⊥
      not_ready e = elim (subst IsConnecting e tt) [ ]
        where
          IsConnecting : Phase → Type 0
          IsConnecting phase.Connecting = Unit {0}
          IsConnecting _ = ⊥

      still : (phase.Connecting ≡ phase.Ready) ⊎ (answers_on d.socket a.sent ≡ []) → answers_on d.socket a.sent ≡ []
      still (inl e) = absurd (not_ready e)
      still (inr e) = e

  far_asked : is_ask w ≡ true → Paired a b → IfFed b.feed
      (FeedIsPaired (record (beside b a) { other = Some d'; theirs = sent' }))
  far_asked is h =
      if_fed b.feed (FeedIsPaired (beside b a)) (FeedIsPaired (record (beside b a) { other = Some d'; theirs = sent' }))
      (λ e k. asked_more (record (beside b a) { other = Some d' }) x e is (same_other (beside b a) d d' e refl k)) h.far.feed

-- in Connecting the feed was opened
opened_it : (a : State) (d : Feed) → d.opened ≡ true →
    is_among d.socket (if d.opened then a.opened else taken_among a.judgements) ≡ true →
    is_among d.socket a.opened ≡ true
opened_it a d o h = subst (λ t. is_among d.socket (if t then a.opened else taken_among a.judgements) ≡ true) o h

pub asked_stays : (f g : SideFacts) (by : Bool) (number : ℕ) → Stays f g (item.asked by number)
asked_stays f g by number s b may = at s.feed refl may.lawful
  where
    so : (k : Bool) (d : Feed) → is_among d.socket s.opened ≡ true → Paired
        (record s { feed = Some d; session = record s.session { phase = phase.Connecting } }) b →
        Paired (asks_peer f k number (record s { feed = Some d; session = record s.session { phase = phase.Connecting } })) b
    so true d opened h =
        let a : State = record s { feed = Some d; session = record s.session { phase = phase.Connecting } } in
        let cookie : ℕ = if is_kept a.session.client_cookie then a.session.client_cookie else cookie_of f number in
        let w : OutFrame = ident cookie number in
        let q : Ask = by_ident (record { cookie = cookie; global = number }) in
        paired (asks_peer f true number a) b
        (asked_feed s b d w q phase.IdentSent (begun f w ∷ []) tt (tt, tt) refl (λ e. subst (IsToCome phase.IdentSent) (sym e) tt) h)
        (near_lists s b d w q phase.IdentSent (begun f w ∷ []) refl refl opened h)
        (far_asked s b d w q phase.IdentSent (begun f w ∷ []) refl h)
        (lists b a h.far)
    so false d opened h =
        let a : State = record s { feed = Some d; session = record s.session { phase = phase.Connecting } } in
        let w : OutFrame = reconnect a.session.client_cookie a.session.server_cookie number a.session.connect a.last in
        let q : Ask = by_reconnect
        (record { client = a.session.client_cookie; server = a.session.server_cookie; global = number; connect = a.session.connect; seen = a.last }) in
        paired (asks_peer f false number a) b
        (asked_feed s b d w q phase.ReconnectSent (begun f w ∷ []) tt (tt, tt) refl (λ e. subst (IsToCome phase.ReconnectSent) (sym e) tt) h)
        (near_lists s b d w q phase.ReconnectSent (begun f w ∷ []) refl refl opened h)
        (far_asked s b d w q phase.ReconnectSent (begun f w ∷ []) refl h)
        (lists b a h.far)

    at : (o : Option Feed) → s.feed ≡ o → OnFeedAt o (MayAsk s by number) → Paired (after f (item.asked by number) s) b
    at None e h = elim h [ ]
    at (Some d) e h =
        let it : record s { feed = Some d; session = record s.session { phase = phase.Connecting } } ≡ s = rw
        (sym e, sym h.phase) refl in
        let old : Paired (record s { feed = Some d; session = record s.session { phase = phase.Connecting } }) b = subst (λ z. Paired z b) (sym it) may.paired in
        let opened : is_among d.socket s.opened ≡ true =
        opened_it s d (by_opened d (λ o. old.near.feed.taken o))
        (subst (λ o. IfFed o (λ d. is_among d.socket (if d.opened then s.opened else taken_among s.judgements) ≡ true)) e may.near_replayed.sound.feed) in
        subst (λ z. Paired (after f (item.asked by number) z) b) it (so by d opened old)
      where
        by_opened : (d : Feed) → (d.opened ≡ false → phase.Connecting ≡ phase.Ready) → d.opened ≡ true
        by_opened d h = true_from_ne_false d.opened (λ o. elim (subst IsConnecting (h o) tt) [ ])
          where
            IsConnecting : Phase → Type 0
            IsConnecting phase.Connecting = Unit {0}
            IsConnecting _ = ⊥
