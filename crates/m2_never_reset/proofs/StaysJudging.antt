-- What the two sides have in common stays where an ask is judged, by the answer of the tables.
use Rattle.std.proofs.Common.{◌≡◌, ℕ, Bool, true, false, if◌then◌else◌, List, [], ◌∷◌, ◌++◌, map, Option, Some, None, refl, sym, ap, ◌∙◌, subst}
use Rattle.std.proofs.lemmas.List.{map-append, append-nil}
use Rattle.m2_session.specs.declared.ask.AskFacts.{AskFacts}
use Rattle.m2_session.specs.Asks as asks
use Rattle.m2_journal.specs.m2_fabric.declared.socket.SocketId.{SocketId}
use Rattle.m2_journal.specs.m2_fabric.Sockets.{is_among}
use Rattle.m2_session.specs.declared.answer.Answer.{Answer}
use Rattle.m2_session.specs.declared.answer.Answer.TheVariants as answer
use Rattle.m2_session.specs.declared.event.Event.TheVariants as event
use Rattle.m2_session.specs.declared.session.Phase.{Phase}
use Rattle.m2_session.specs.declared.session.Phase.TheVariants as phase
use Rattle.m2_journal.specs.declared.entry.JudgedItem.{JudgedItem}
use Rattle.m2_journal.specs.Feeds.{taken_feed, begun}
use Rattle.m2_journal.specs.Items as item
use Rattle.m2_journal.specs.Lawful.{judged_sockets}
use Rattle.m2_journal.specs.Laws.{IfFed, taken_among}
use Rattle.m2_journal.specs.OutFrames as out
use Rattle.m2_journal.specs.OutFrames.{OutFrame}
use Rattle.m2_journal.specs.SideFacts.{SideFacts, cookie_of}
use Rattle.m2_journal.specs.State.{Feed, Judgement, SentFrame, State}
use Rattle.m2_journal.specs.Steps.{after, answer_to, notes, sends, tells, takes_socket}
use Rattle.m2_never_reset.specs.CrossingLaws.{AnswersAreSteps}
use Rattle.m2_never_reset.specs.Sessions.{IsKept, IsIdentStep, IsReconnectStep}
use Rattle.m2_never_reset.specs.Fits.{ask_by}
use Rattle.m2_never_reset.specs.Frames.{ask_of, is_ask, answers_on}
use Rattle.m2_never_reset.specs.LinkOf.{role_of, is_unjudged, stand_by, stand_of, node_of}
use Rattle.m2_never_reset.specs.PairLaws.{Stays}
use Rattle.m2_never_reset.specs.Paired.{IsAnswered, BeginsAccepted, beside, FeedIsPaired, Paired}
use Rattle.m2_never_reset.proofs.Judged.{absent_stands, its_ask}
use Rattle.m2_never_reset.proofs.JudgedParts.{more_judged, unasked_there, near_sent, far_judged, near_refuses, near_takes, far_unheard, far_refused, far_taken}
use Rattle.m2_never_reset.proofs.Judging.{IsAsked}
use Rattle.m2_never_reset.proofs.Keeping.{ListsArePaired, lists, paired, if_fed, without_other}
use Rattle.m2_never_reset.proofs.Sending.{unjudged_same}
use Rattle.m2_never_reset.proofs.Stable.{judgement}
use Rattle.m2_never_reset.proofs.Written.{AreWritten}

-- ---- what is compared of a state

record View : Type 0 where
  pub feed : Option Feed
  pub phase : Phase
  pub last : ℕ
  pub sent : List SentFrame
  pub opened : List SocketId
  pub judged : List SocketId

abbrev view : State → View
view s = record { feed = s.feed; phase = s.session.phase; last = s.last; sent = s.sent; opened = s.opened; judged = judged_sockets s }

record PairedBy (v : View) (b : State) : Type 0 where
  pub near_feed : IfFed v.feed
      (FeedIsPaired (record { phase = v.phase; last = v.last; mine = v.sent; theirs = b.sent; judged = judged_sockets b; other = b.feed }))
  pub near : ListsArePaired v.opened v.sent v.judged (judged_sockets b)
  pub far_feed : IfFed b.feed
      (FeedIsPaired (record { phase = b.session.phase; last = b.last; mine = b.sent; theirs = v.sent; judged = v.judged; other = v.feed }))
  pub far : ListsArePaired b.opened b.sent (judged_sockets b) v.judged

by_view : (a b : State) (v : View) → view a ≡ v → PairedBy v b → Paired a b
by_view a b v e h = let k = subst (λ v. PairedBy v b) (sym e) h in paired a b k.near_feed k.near k.far_feed k.far

judged_one_more : (js : List Judgement) (j : Judgement) →
    map (λ j. j.socket) (js ++ j ∷ []) ≡ map (λ j. j.socket) js ++ j.socket ∷ []
judged_one_more js j = map-append (λ j. j.socket) js (j ∷ [])

-- the judging side, the socket, and what is known of the ask
module _ (k : SocketId) (a b : State) (unjudged : is_unjudged k b.sent (judged_sockets a) ≡ true)
    (alone : answers_on k b.sent ≡ []) (not_opened : is_among k a.opened ≡ false) (h : Paired a b) where
  abbrev more : List SentFrame → List SocketId → Option Feed → Phase → ℕ → View
  more sent judged feed p last = record { feed = feed; phase = p; last = last; sent = sent; opened = a.opened; judged = judged }

  abbrev judged' : List SocketId
  judged' = judged_sockets a ++ k ∷ []

  abbrev with_frame : OutFrame → List SentFrame
  with_frame w = a.sent ++ record { socket = k; frame = w } ∷ []

  -- a frame is sent, and its own feed stays
  refused_by : (w : OutFrame) → ask_of w ≡ None → is_ask w ≡ false → IsAnswered (w ∷ []) →
      IfFed a.feed (λ d. d.opened ≡ true → is_among d.socket a.opened ≡ true) →
      PairedBy (more (with_frame w) judged' a.feed a.session.phase a.last) b
  refused_by w n unasked answered its = record {
    near_feed =
        two_fed a.feed (λ d. d.opened ≡ true → is_among d.socket a.opened ≡ true) (FeedIsPaired (beside a b))
        (FeedIsPaired (record (beside a b) { mine = with_frame w }))
        (λ d o p. near_refuses (beside a b) a.opened (record { socket = k; frame = w }) d n not_opened o p) its h.near.feed;
    near =
        near_sent a.opened a.sent (judged_sockets a) (judged_sockets b) (record { socket = k; frame = w }) n not_opened
        (lists a b h.near);
    far_feed =
        if_fed b.feed (FeedIsPaired (beside b a))
        (FeedIsPaired (record (beside b a) { theirs = with_frame w; judged = judged' }))
        (λ e p. far_refused (beside b a) k e p (h.far.asks_once k) w unasked unjudged answered) h.far.feed;
    far = far_judged b.opened b.sent (judged_sockets b) (judged_sockets a) (k ∷ []) (lists b a h.far);
  }
    where
      two_fed : (o : Option Feed) (P Q R : Feed → Type 0) → ((d : Feed) → P d → Q d → R d) → IfFed o P → IfFed o Q →
          IfFed o R
      two_fed None P Q R f p q = tt
      two_fed (Some d) P Q R f p q = f d p q

  -- a frame is sent, and its own feed is given up
  given_up_by : (w : OutFrame) (p : Phase) → ask_of w ≡ None → is_ask w ≡ false → IsAnswered (w ∷ []) →
      PairedBy (more (with_frame w) judged' None p a.last) b
  given_up_by w p n unasked answered = record {
    near_feed = tt;
    near =
        near_sent a.opened a.sent (judged_sockets a) (judged_sockets b) (record { socket = k; frame = w }) n not_opened
        (lists a b h.near);
    far_feed =
        if_fed b.feed (FeedIsPaired (beside b a))
        (FeedIsPaired (record (beside b a) { theirs = with_frame w; judged = judged'; other = None }))
        (λ e q. without_other (record (beside b a) { theirs = with_frame w; judged = judged' }) e (far_refused (beside b a) k e q (h.far.asks_once k) w unasked unjudged answered)) h.far.feed;
    far = far_judged b.opened b.sent (judged_sockets b) (judged_sockets a) (k ∷ []) (lists b a h.far);
  }

  -- the socket is taken, and this is the feed
  taken_by : (w : OutFrame) (d : Feed) (last : ℕ) → ask_of w ≡ None → is_ask w ≡ false → IsAnswered (w ∷ []) →
      BeginsAccepted (w ∷ []) → d.socket ≡ k → d.taken ≡ 0 → d.opened ≡ false →
      AreWritten phase.Ready last d.texts → PairedBy (more (with_frame w) judged' (Some d) phase.Ready last) b
  taken_by w d last n unasked answered accepts is none closed texts = record {
    near_feed =
        near_takes (record (beside a b) { phase = phase.Ready; last = last; mine = with_frame w }) d refl none closed texts
        (λ u. unasked_there a.opened a.sent (judged_sockets a) (judged_sockets b) k not_opened (lists a b h.near)
        (sym (unjudged_same k a.sent (record { socket = k; frame = w }) (judged_sockets b) n) ∙ subst (λ z. is_unjudged z (with_frame w) (judged_sockets b) ≡ true) is u))
        (subst (λ z. answers_on z b.sent ≡ []) (sym is) alone);
    near =
        near_sent a.opened a.sent (judged_sockets a) (judged_sockets b) (record { socket = k; frame = w }) n not_opened
        (lists a b h.near);
    far_feed =
        if_fed b.feed (FeedIsPaired (beside b a))
        (FeedIsPaired (record (beside b a) { theirs = with_frame w; judged = judged'; other = Some d }))
        (λ e p. far_taken (beside b a) k e p (h.far.asks_once k) w d unasked unjudged answered accepts is) h.far.feed;
    far = far_judged b.opened b.sent (judged_sockets b) (judged_sockets a) (k ∷ []) (lists b a h.far);
  }

  -- nothing is sent
  closed_by : PairedBy (more a.sent judged' a.feed a.session.phase a.last) b
  closed_by = record {
    near_feed = h.near.feed;
    near = more_judged a.opened a.sent (judged_sockets a) (judged_sockets b) (k ∷ []) (lists a b h.near);
    far_feed = if_fed b.feed (FeedIsPaired (beside b a)) (FeedIsPaired (record (beside b a) { judged = judged' }))
        (λ e p. far_unheard (beside b a) k e p (h.far.asks_once k) a.feed p.accepted) h.far.feed;
    far = far_judged b.opened b.sent (judged_sockets b) (judged_sockets a) (k ∷ []) (lists b a h.far);
  }

-- ---- where the answers lead

module _ (f : SideFacts) (k : SocketId) (ask₀ : AskFacts) (number : ℕ) (answer : Answer) (unread : List ℕ) (client : ℕ)
    (a₀ : State) where
  abbrev a : Option Feed → State
  a o = record a₀ { feed = o }

  abbrev js : List SocketId
  js = map (λ j. j.socket) a₀.judgements ++ k ∷ []

  abbrev accepted_to : Bool → Option Feed → State
  accepted_to full o = takes_socket f k (record ask₀ { ident = true }) number unread
      (tells (event.TookIdent full client (cookie_of f number) ask₀.global) (notes k (record ask₀ { ident = true }) number answer (a o)))

  abbrev its_feed : OutFrame → Option ℕ → ℕ → Feed
  its_feed w seen last = record (taken_feed k unread seen last a₀.owes) { texts = begun f w ∷ [] }

  abbrev taken_view : OutFrame → Option ℕ → ℕ → View
  taken_view w seen last = record {
    feed = Some (its_feed w seen last);
    phase = phase.Ready;
    last = last;
    sent = a₀.sent ++ record { socket = k; frame = w } ∷ [];
    opened = a₀.opened;
    judged = js;
  }

  same_view : (v : View) (l l' : List SocketId) → l ≡ l' → ◌≡◌ {A = View} (record v { judged = l })
      (record v { judged = l' })
  same_view v l l' e = rw e refl

  accepted_view : (full : Bool) (o : Option Feed) →
      view (accepted_to full o) ≡ taken_view (out.server_ident (cookie_of f number) number) None 0
  accepted_view true None =
      same_view (taken_view (out.server_ident (cookie_of f number) number) None 0) _ _
      (judged_one_more a₀.judgements (judgement k (record ask₀ { ident = true }) answer))
  accepted_view true (Some d) =
      same_view (taken_view (out.server_ident (cookie_of f number) number) None 0) _ _
      (judged_one_more a₀.judgements (judgement k (record ask₀ { ident = true }) answer))
  accepted_view false None =
      same_view (taken_view (out.server_ident (cookie_of f number) number) None 0) _ _
      (judged_one_more a₀.judgements (judgement k (record ask₀ { ident = true }) answer))
  accepted_view false (Some d) =
      same_view (taken_view (out.server_ident (cookie_of f number) number) None 0) _ _
      (judged_one_more a₀.judgements (judgement k (record ask₀ { ident = true }) answer))

  abbrev reconnecting : AskFacts
  reconnecting = record ask₀ { ident = false }

  abbrev resumed_to : Option Feed → State
  resumed_to o =
      takes_socket f k reconnecting number unread
      (tells (event.TookReconnect ask₀.global ask₀.connect) (notes k reconnecting number answer (a o)))

  resumed_view : (o : Option Feed) →
      view (resumed_to o) ≡ taken_view (out.reconnect_ok a₀.last) (Some ask₀.seen) a₀.last
  resumed_view None =
      same_view (taken_view (out.reconnect_ok a₀.last) (Some ask₀.seen) a₀.last) _ _
      (judged_one_more a₀.judgements (judgement k reconnecting answer))
  resumed_view (Some d) =
      same_view (taken_view (out.reconnect_ok a₀.last) (Some ask₀.seen) a₀.last) _ _
      (judged_one_more a₀.judgements (judgement k reconnecting answer))

-- ---- the entry

module _ (f g : SideFacts) (k : SocketId) (number : ℕ) (unread : List ℕ) (trail : List JudgedItem) (a b : State)
    (unjudged : is_unjudged k b.sent (judged_sockets a) ≡ true) (alone : answers_on k b.sent ≡ [])
    (not_opened : is_among k a.opened ≡ false) (h : Paired a b)
    (its : IfFed a.feed (λ d. d.opened ≡ true → is_among d.socket a.opened ≡ true)) where
  abbrev AreKept : AskFacts → Answer → Type 0
  AreKept ask ans = Paired (after f (item.judged k ask number ans unread trail) a) b

  sent_view : (ask : AskFacts) (ans : Answer) (w : OutFrame) → ask_of w ≡ None → is_ask w ≡ false →
      IsAnswered (w ∷ []) → Paired (sends k (w ∷ []) (notes k ask number ans a)) b
  sent_view ask ans w n unasked answered =
      by_view (sends k (w ∷ []) (notes k ask number ans a)) b _
      (ap (λ l. record (view (sends k (w ∷ []) (notes k ask number ans a))) { judged = l }) (judged_one_more a.judgements (judgement k ask ans)))
      (refused_by k a b unjudged alone not_opened h w n unasked answered its)

  closed_view : (ask : AskFacts) (ans : Answer) → Paired (sends k [] (notes k ask number ans a)) b
  closed_view ask ans =
      by_view (sends k [] (notes k ask number ans a)) b _
      (ap₂ (append-nil a.sent) (judged_one_more a.judgements (judgement k ask ans)))
      (closed_by k a b unjudged alone not_opened h)
    where
      ap₂ : {s s' : List SentFrame} {l l' : List SocketId} → s ≡ s' → l ≡ l' →
          ◌≡◌ {A = View} (record { feed = a.feed; phase = a.session.phase; last = a.last; sent = s; opened = a.opened; judged = l })
          (record { feed = a.feed; phase = a.session.phase; last = a.last; sent = s'; opened = a.opened; judged = l' })
      ap₂ e e' = rw (e, e') refl

  given_up : (ask : AskFacts) (ans : Answer) (o : Option Feed) → a.feed ≡ o → Paired
      (sends k (out.reset false ∷ []) (tells event.Pending (notes k ask number ans (record a { feed = o })))) b
  given_up ask ans None e =
      by_view (sends k (out.reset false ∷ []) (tells event.Pending (notes k ask number ans (record a { feed = None })))) b _
      (ap (λ l. record (view (sends k (out.reset false ∷ []) (tells event.Pending (notes k ask number ans (record a { feed = None }))))) { judged = l }) (judged_one_more a.judgements (judgement k ask ans)))
      (given_up_by k a b unjudged alone not_opened h (out.reset false) _ refl refl refl)
  given_up ask ans (Some d) e =
      by_view (sends k (out.reset false ∷ []) (tells event.Pending (notes k ask number ans (record a { feed = Some d })))) b _
      (ap (λ l. record (view (sends k (out.reset false ∷ []) (tells event.Pending (notes k ask number ans (record a { feed = Some d }))))) { judged = l }) (judged_one_more a.judgements (judgement k ask ans)))
      (given_up_by k a b unjudged alone not_opened h (out.reset false) _ refl refl refl)

  given_up_now : (ask : AskFacts) (ans : Answer) →
      Paired (sends k (out.reset false ∷ []) (tells event.Pending (notes k ask number ans a))) b
  given_up_now ask ans = given_up ask ans a.feed refl

  module _ (ask₀ : AskFacts) where
    abbrev by_its_ident : AskFacts
    by_its_ident = record ask₀ { ident = true }

    abbrev client : ℕ
    client = if f.policy.lossy then 0 else ask₀.client

    accepted_now : (ans : Answer) (full : Bool) → Paired (accepted_to f k ask₀ number ans unread client a full a.feed) b
    accepted_now ans full =
        by_view (accepted_to f k ask₀ number ans unread client a full a.feed) b _
        (accepted_view f k ask₀ number ans unread client a full a.feed)
        (taken_by k a b unjudged alone not_opened h (out.server_ident (cookie_of f number) number) (its_feed f k ask₀ number ans unread client a (out.server_ident (cookie_of f number) number) None 0) 0
        refl refl tt tt refl refl refl (tt, tt))

    resumed_now : (ans : Answer) → Paired (resumed_to f k ask₀ number ans unread client a a.feed) b
    resumed_now ans =
        by_view (resumed_to f k ask₀ number ans unread client a a.feed) b _
        (resumed_view f k ask₀ number ans unread client a a.feed)
        (taken_by k a b unjudged alone not_opened h (out.reconnect_ok a.last) (its_feed f k ask₀ number ans unread client a (out.reconnect_ok a.last) (Some ask₀.seen) a.last) a.last
        refl refl tt tt refl refl refl (tt, tt))

    ident_stays : (ans : Answer) → IsIdentStep (role_of f) (node_of a (judged_sockets b)) (stand_of a b)
        (record { cookie = ask₀.client; global = ask₀.global }) ans → AreKept by_its_ident ans
    ident_stays answer.Accept s = accepted_now answer.Accept false
    ident_stays answer.AcceptOver s = accepted_now answer.AcceptOver false
    ident_stays (answer.AcceptReset full) s = accepted_now (answer.AcceptReset full) full
    ident_stays answer.AcceptAgain s = accepted_now answer.AcceptAgain false
    ident_stays answer.AcceptReplace s = accepted_now answer.AcceptReplace false
    ident_stays answer.AcceptRace s = accepted_now answer.AcceptRace false
    ident_stays answer.Wait s = sent_view by_its_ident answer.Wait out.wait refl refl refl
    ident_stays answer.Close s = closed_view by_its_ident answer.Close
    ident_stays answer.Resume s = elim s [ ]
    ident_stays (answer.Reset full) s = elim s [ ]
    ident_stays answer.ResetPending s = elim s [ ]
    ident_stays (answer.Retry m) s = elim s [ ]
    ident_stays (answer.RetryGlobal m) s = elim s [ ]

    abbrev by_its_reconnect : AskFacts
    by_its_reconnect = record ask₀ { ident = false }

    reconnect_stays : (ans : Answer) →
        IsReconnectStep (role_of f) (node_of a (judged_sockets b)) (stand_of a b) (asks.reconnect_of ask₀) ans →
        AreKept by_its_reconnect ans
    reconnect_stays answer.Resume s = resumed_now answer.Resume
    reconnect_stays (answer.Reset full) s =
        sent_view by_its_reconnect (answer.Reset full) (out.reset full) refl refl refl
    reconnect_stays answer.ResetPending s = given_up_now by_its_reconnect answer.ResetPending
    reconnect_stays (answer.RetryGlobal m) s =
        sent_view by_its_reconnect (answer.RetryGlobal m) (out.retry_global m) refl refl refl
    reconnect_stays (answer.Retry m) s = sent_view by_its_reconnect (answer.Retry m) (out.retry m) refl refl refl
    reconnect_stays answer.Wait s = sent_view by_its_reconnect answer.Wait out.wait refl refl refl
    reconnect_stays answer.Close s = closed_view by_its_reconnect answer.Close
    reconnect_stays answer.Accept s = elim s [ ]
    reconnect_stays answer.AcceptOver s = elim s [ ]
    reconnect_stays (answer.AcceptReset full) s = elim s [ ]
    reconnect_stays answer.AcceptAgain s = elim s [ ]
    reconnect_stays answer.AcceptReplace s = elim s [ ]
    reconnect_stays answer.AcceptRace s = elim s [ ]

opened_its : (a : State) (o : Option Feed) →
    IfFed o (λ d. is_among d.socket (if d.opened then a.opened else taken_among a.judgements) ≡ true) →
    IfFed o (λ d. d.opened ≡ true → is_among d.socket a.opened ≡ true)
opened_its a None h = tt
opened_its a (Some d) h =
    λ o. subst (λ t. is_among d.socket (if t then a.opened else taken_among a.judgements) ≡ true) o h

pub judged_stays : AnswersAreSteps →
    (f g : SideFacts) (k : SocketId) (ask : AskFacts) (number : ℕ) (ans : Answer) (unread : List ℕ)
    (trail : List JudgedItem) → Stays f g (item.judged k ask number ans unread trail)
judged_stays tables f g k ask number ans unread trail a b may = by_kind ask.ident refl
  where
    asked : IsAsked k (ask_by ask) b.sent (judged_sockets a)
    asked = its_ask f g k ask number ans unread trail a b may

    its : IfFed a.feed (λ d. d.opened ≡ true → is_among d.socket a.opened ≡ true)
    its = opened_its a a.feed may.near_replayed.sound.feed

    kept : IsKept (role_of f) (node_of a (judged_sockets b)) (stand_of a b) a.session
    kept = record {
      policy = sym may.near_replayed.sound.session.policy;
      lossless = may.near_keeps;
      client = refl;
      server = refl;
      peer_global = refl;
      absent = λ e. ap (λ p. stand_by a.feed p a.sent b.sent) e ∙ absent_stands a.feed a.sent b.sent;
    }

    by_kind : (t : Bool) → ask.ident ≡ t → Paired (after f (item.judged k ask number ans unread trail) a) b
    by_kind true e =
        let it : ask ≡ record ask { ident = true } = ap (λ t. record ask { ident = t }) e in
        let table : ans ≡ answer_to (record ask { ident = true }) a = may.lawful.by_the_tables
        ∙ ap (λ q. answer_to q a) it in
        subst (λ q. Paired (after f (item.judged k q number ans unread trail) a) b) (sym it)
        (ident_stays f g k number unread trail a b asked.unjudged asked.alone may.lawful.not_opened may.paired its ask ans
        (subst (IsIdentStep (role_of f) (node_of a (judged_sockets b)) (stand_of a b) (record { cookie = ask.client; global = ask.global })) (sym table)
        (tables.ident (role_of f) (node_of a (judged_sockets b)) (stand_of a b) a.session (record { cookie = ask.client; global = ask.global }) kept)))
    by_kind false e =
        let it : ask ≡ record ask { ident = false } = ap (λ t. record ask { ident = t }) e in
        let table : ans ≡ answer_to (record ask { ident = false }) a = may.lawful.by_the_tables
        ∙ ap (λ q. answer_to q a) it in
        subst (λ q. Paired (after f (item.judged k q number ans unread trail) a) b) (sym it)
        (reconnect_stays f g k number unread trail a b asked.unjudged asked.alone may.lawful.not_opened may.paired its ask ans
        (subst (IsReconnectStep (role_of f) (node_of a (judged_sockets b)) (stand_of a b) (asks.reconnect_of ask)) (sym table)
        (tables.reconnect (role_of f) (node_of a (judged_sockets b)) (stand_of a b) a.session (asks.reconnect_of ask) a.out.queue.written kept)))
