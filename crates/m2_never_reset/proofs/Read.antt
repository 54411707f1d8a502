-- What is read on a feed is no step of the link, but where it completes the answer to an ask: that is taken.
--
-- Read that completes SERVER_IDENT: `takes_offer`; SESSION_RECONNECT_OK: `takes_resumption`; SESSION_RETRY or
-- SESSION_RETRY_GLOBAL: `asks_again`; WAIT: `leaves`; any other: no step.
use Rattle.std.proofs.Common.{◌≡◌, ℕ, ◌+◌, Bool, true, false, if◌then◌else◌, List, ◌∷◌, length, drop, Option, Some, None, refl, sym, ap, ◌∙◌, subst}
use Rattle.std.specs.List.{drop-map}
use Rattle.m2_session.specs.m2_control.declared.control.Control.TheVariants as control
use Rattle.m2_session.specs.m2_control.declared.server_ident.ServerIdent.{ServerIdent}
use Rattle.m2_session.specs.m2_control.declared.session_reconnect_ok.SessionReconnectOk.{SessionReconnectOk}
use Rattle.m2_session.specs.m2_control.declared.session_retry.SessionRetry.{SessionRetry}
use Rattle.m2_session.specs.m2_control.declared.session_retry_global.SessionRetryGlobal.{SessionRetryGlobal}
use Rattle.m2_session.specs.m2_control.declared.wait.Wait.{Wait}
use Rattle.m2_journal.specs.m2_fabric.Sockets.{same_socket}
use Rattle.m2_queues.specs.m2_message.Message.{Content, unnumbered}
use Rattle.m2_session.specs.declared.event.Event.{Event}
use Rattle.m2_session.specs.declared.event.Event.TheVariants as event
use Rattle.m2_session.specs.declared.session.Phase.{Phase}
use Rattle.m2_session.specs.declared.session.Phase.TheVariants as phase
use Rattle.m2_journal.specs.Feeds.{told_by, answer_said, hears}
use Rattle.m2_journal.specs.Items as item
use Rattle.m2_journal.specs.Lawful.{OnFeedAt, judged_sockets}
use Rattle.m2_journal.specs.Laws.{IfFed}
use Rattle.m2_journal.specs.OutFrames as out
use Rattle.m2_journal.specs.OutFrames.{OutFrame}
use Rattle.m2_journal.specs.Said.{Said, says}
use Rattle.m2_journal.specs.SideFacts.{SideFacts}
use Rattle.m2_journal.specs.State.{Feed, State}
use Rattle.m2_journal.specs.Steps.{after, is_agreed, answer_event, event_heard, takes_answer, heeds, reads}
use Rattle.m2_never_reset.specs.Asks.{retry}
use Rattle.m2_never_reset.specs.Link.{Stand, connecting, waiting, refused, offered, resumed, ready, Node, Joined, apart, Link, link}
use Rattle.m2_never_reset.specs.Steps.{Run, after_offer, troubled, takes_offer, takes_resumption, asks_again, leaves}
use Rattle.m2_never_reset.specs.Fits.{Says, HearsAt}
use Rattle.m2_never_reset.specs.Frames.{answers_on, ask_now, to_come, mails}
use Rattle.m2_never_reset.specs.LinkOf.{role_of, is_unjudged, raised_by, heard_first, heard_on, letters, asks_left, joined_by, stand_on, node_of, stand_of, link_of}
use Rattle.m2_never_reset.specs.PairLaws.{ReadIsSteps}
use Rattle.m2_never_reset.specs.Paired.{beside, FeedIsPaired}
use Rattle.m2_never_reset.specs.Trouble.{trouble_told, trouble_at}
use Rattle.m2_never_reset.proofs.Answered.{IsNext, next_of, heard_next}
use Rattle.m2_never_reset.proofs.Feeds.{HasHeard, hears_hears}
use Rattle.m2_never_reset.proofs.Leaving.{WaitsUnjudged, leaves_at}
use Rattle.m2_never_reset.proofs.Links.{plus_none, joined_same, same, one_step}
use Rattle.m2_never_reset.proofs.SameFeed.{same_feed}

-- ---- what the next text is to a session that waits for an answer

module _ (f : SideFacts) (P : Phase → Option Said → Option Event → Type 0)
    (ident : (i : ServerIdent) → P phase.IdentSent (Some (says (control.ServerIdent i))) (Some (event.GotServerIdent i.cookie i.global)))
    (ident_waits : (w : Wait) → P phase.IdentSent (Some (says (control.Wait w))) (Some event.GotWait))
    (ok : (k : SessionReconnectOk) → P phase.ReconnectSent (Some (says (control.SessionReconnectOk k))) (Some event.GotReconnectOk))
    (again : (r : SessionRetry) → P phase.ReconnectSent (Some (says (control.SessionRetry r))) (Some (event.GotRetry r.connect)))
    (again_global : (r : SessionRetryGlobal) → P phase.ReconnectSent (Some (says (control.SessionRetryGlobal r))) (Some (event.GotRetryGlobal r.global)))
    (reconnect_waits : (w : Wait) → P phase.ReconnectSent (Some (says (control.Wait w))) (Some event.GotWait))
    (none : (p : Phase) (o : Option Said) → P p o None) where
  pub by_answer : (p : Phase) (o : Option Said) → P p o (answer_event f p o)
  by_answer phase.IdentSent (Some (says (control.ServerIdent i))) = at (is_agreed f i)
    where
      at : (t : Bool) →
          P phase.IdentSent (Some (says (control.ServerIdent i)))
          (if t then Some (event.GotServerIdent i.cookie i.global) else None)
      at true = ident i
      at false = none phase.IdentSent (Some (says (control.ServerIdent i)))
  by_answer phase.IdentSent (Some (says (control.Wait w))) = ident_waits w
  by_answer phase.ReconnectSent (Some (says (control.SessionReconnectOk k))) = ok k
  by_answer phase.ReconnectSent (Some (says (control.SessionRetry r))) = again r
  by_answer phase.ReconnectSent (Some (says (control.SessionRetryGlobal r))) = again_global r
  by_answer phase.ReconnectSent (Some (says (control.Wait w))) = reconnect_waits w
  by_answer p o = none p o

-- ---- the frame that says it

pub is_ident : (i : ServerIdent) (w : OutFrame) → Says (says (control.ServerIdent i)) w →
    w ≡ out.server_ident i.cookie i.global
is_ident i (out.server_ident c g) h = rw (h.0, h.1) refl
is_ident i w h = elim h [ ]

pub is_ok : (k : SessionReconnectOk) (w : OutFrame) → Says (says (control.SessionReconnectOk k)) w →
    w ≡ out.reconnect_ok k.seen
is_ok k (out.reconnect_ok seen) h = ap out.reconnect_ok (sym h)
is_ok k w h = elim h [ ]

pub is_retry : (r : SessionRetry) (w : OutFrame) → Says (says (control.SessionRetry r)) w → w ≡ out.retry r.connect
is_retry r (out.retry connect) h = ap out.retry (sym h.0)
is_retry r w h = elim h [ ]

pub is_retry_global : (r : SessionRetryGlobal) (w : OutFrame) → Says (says (control.SessionRetryGlobal r)) w →
    w ≡ out.retry_global r.global
is_retry_global r (out.retry_global global) h = ap out.retry_global (sym h)
is_retry_global r w h = elim h [ ]

-- ---- the steps: the feed has heard the bytes

module _ (f g : SideFacts) (n : ℕ) (a₀ b : State) (d : Feed) where
  abbrev at_phase : Phase → State
  at_phase p = record a₀ { feed = Some d; session = record a₀.session { phase = p } }

  abbrev accepted : ℕ
  accepted = length (letters a₀.deliveries) + length (letters b.deliveries)

  abbrev IsRun : Phase → Option Event → Type 0
  IsRun p e =
      Run (role_of f) (role_of g) (link_of n (at_phase p) b)
      (link_of (n + trouble_told e (at_phase p).session accepted) (heeds e d (at_phase p)) b)

  abbrev x : Node
  x = node_of (at_phase phase.Ready) (judged_sockets b)

  abbrev y : Node
  y = node_of b (judged_sockets a₀)

  abbrev t : Stand
  t = stand_of b a₀

  abbrev j : Joined
  j = joined_by (Some d) b.feed

  abbrev rest : List OutFrame
  rest = drop (d.taken + 1) (answers_on d.socket b.sent)

  -- what is first to come, and what it acknowledges
  first_is : (w : OutFrame) (said_so : Said) (next : IsNext said_so d.taken (answers_on d.socket b.sent)) →
      next.frame ≡ w → to_come d b.sent ≡ w ∷ rest
  first_is w said_so next e = next.first ∙ ap (λ v. v ∷ rest) e

  heard_is : (said_so : Said) → answer_said d ≡ Some said_so →
      heard_on (Some (takes_answer d)) ≡ raised_by (heard_on (Some d)) (told_by said_so)
  heard_is said_so e = heard_next d.taken (heard_first d.resumed) d.got said_so e

  same_links : (l : Link) (h h' : ℕ) (ms ms' : List Content) (j' : Joined) (k : ℕ) → h ≡ h' → ms ≡ ms' → l.joined ≡ j' →
      l.trouble ≡ k →
      link (record l.near { heard = h; numbered = ms }) l.near_stand l.far l.far_stand l.joined l.trouble
      ≡ link (record l.near { heard = h'; numbered = ms' }) l.near_stand l.far l.far_stand j' k
  same_links l h h' ms ms' j' k e₁ e₂ e₃ e₄ = rw (e₁, e₂, e₃, e₄) refl

  takes_ident : (i : ServerIdent) → answer_said d ≡ Some (says (control.ServerIdent i)) →
      IsNext (says (control.ServerIdent i)) d.taken (answers_on d.socket b.sent) →
      IsRun phase.IdentSent (Some (event.GotServerIdent i.cookie i.global))
  takes_ident i e next =
      let first = first_is (out.server_ident i.cookie i.global) (says (control.ServerIdent i)) next
      (is_ident i next.frame next.says) in
      let before : stand_on phase.IdentSent d a₀.sent b.sent ≡ offered i.cookie i.global (mails rest) = rw first refl in
      one_step (role_of f) (role_of g) _ _ _ _
      (ap (λ s. link x s y t j n) before)
      (takes_offer x y t j n i.cookie i.global (mails rest))
      (same_links (link (after_offer x i.cookie i.global) (ready (mails rest)) y t j (troubled false x y n)) _ _ _ _ _ _
      (sym (heard_is (says (control.ServerIdent i)) e)) (drop-map unnumbered a₀.out.queue.base a₀.out.numbered)
      (joined_same d (record (takes_answer d) { floor = 0; owed = a₀.owes }) b.feed refl refl) refl)

  takes_ok : (k : SessionReconnectOk) → answer_said d ≡ Some (says (control.SessionReconnectOk k)) →
      IsNext (says (control.SessionReconnectOk k)) d.taken (answers_on d.socket b.sent) →
      IsRun phase.ReconnectSent (Some event.GotReconnectOk)
  takes_ok k e next =
      let first = first_is (out.reconnect_ok k.seen) (says (control.SessionReconnectOk k)) next
      (is_ok k next.frame next.says) in
      let before : stand_on phase.ReconnectSent d a₀.sent b.sent ≡ resumed k.seen (mails rest) = rw first refl in
      one_step (role_of f) (role_of g) _ _ _ _
      (ap (λ s. link x s y t j n) before)
      (takes_resumption x y t j n k.seen (mails rest))
      (same_links (link x (ready (mails rest)) y t j n) _ _ _ _ _ _
      (sym (heard_is (says (control.SessionReconnectOk k)) e)) refl (joined_same d (takes_answer d) b.feed refl refl)
      (plus_none n))

  takes_retry : (r : SessionRetry) → answer_said d ≡ Some (says (control.SessionRetry r)) →
      IsNext (says (control.SessionRetry r)) d.taken (answers_on d.socket b.sent) →
      IsRun phase.ReconnectSent (Some (event.GotRetry r.connect))
  takes_retry r e next =
      let first = first_is (out.retry r.connect) (says (control.SessionRetry r)) next
      (is_retry r next.frame next.says) in
      let before : stand_on phase.ReconnectSent d a₀.sent b.sent ≡ refused (ask_now d a₀.sent) retry = rw first refl in
      one_step (role_of f) (role_of g) _ _ _ _
      (ap (λ s. link x s y t j n) before)
      (asks_again x y t j n (ask_now d a₀.sent))
      (same_links (link x connecting y t j n) _ _ _ _ _ _
      (sym (heard_is (says (control.SessionRetry r)) e)) refl (joined_same d (takes_answer d) b.feed refl refl)
      (plus_none n))

  takes_retry_global : (r : SessionRetryGlobal) → answer_said d ≡ Some (says (control.SessionRetryGlobal r)) →
      IsNext (says (control.SessionRetryGlobal r)) d.taken (answers_on d.socket b.sent) →
      IsRun phase.ReconnectSent (Some (event.GotRetryGlobal r.global))
  takes_retry_global r e next =
      let first = first_is (out.retry_global r.global) (says (control.SessionRetryGlobal r)) next
      (is_retry_global r next.frame next.says) in
      let before : stand_on phase.ReconnectSent d a₀.sent b.sent ≡ refused (ask_now d a₀.sent) retry = rw first refl in
      one_step (role_of f) (role_of g) _ _ _ _
      (ap (λ s. link x s y t j n) before)
      (asks_again x y t j n (ask_now d a₀.sent))
      (same_links (link x connecting y t j n) _ _ _ _ _ _
      (sym (heard_is (says (control.SessionRetryGlobal r)) e)) refl (joined_same d (takes_answer d) b.feed refl refl)
      (plus_none n))

  takes_wait : (p : Phase) → WaitsUnjudged (Some d) p a₀.sent b.sent (judged_sockets b) → IsRun p (Some event.GotWait)
  takes_wait p w =
      one_step (role_of f) (role_of g) _ _ _ _ refl
      (leaves x y (stand_on p d a₀.sent b.sent) t waiting j n (asks_left None a₀.sent (judged_sockets b)) tt (leaves_at (Some d) p a₀.sent b.sent (judged_sockets b) w))
      (ap (λ k. link (record x { heard = 0; asks = asks_left None a₀.sent (judged_sockets b) }) waiting y t apart k) (plus_none n))

  takes_none : (p : Phase) → IsRun p None
  takes_none p = same (role_of f) (role_of g) _ _ (ap (λ k. link_of k (at_phase p) b) (plus_none n))

  -- what is said in the place of the answer, as long as the entry leaves the feed
  abbrev IsHeard : Phase → Option Event → Type 0
  IsHeard p e = HearsAt (heeds e d (at_phase p)).feed b.sent

  answered : (p : Phase) → WaitsUnjudged (Some d) p a₀.sent b.sent (judged_sockets b) → IsHeard p (event_heard f p d) →
      IsRun p (event_heard f p d)
  answered p w h =
      by_answer f (λ p o e. answer_said d ≡ o → WaitsUnjudged (Some d) p a₀.sent b.sent (judged_sockets b) → IsHeard p e → IsRun p e)
      (λ i e w h. takes_ident i e (next_of d.taken d.got (answers_on d.socket b.sent) (says (control.ServerIdent i)) (λ r. r) h e))
      (λ k e w h. takes_wait phase.IdentSent w)
      (λ k e w h. takes_ok k e (next_of d.taken d.got (answers_on d.socket b.sent) (says (control.SessionReconnectOk k)) (λ r. r) h e))
      (λ r e w h. takes_retry r e (next_of d.taken d.got (answers_on d.socket b.sent) (says (control.SessionRetry r)) (λ r. r) h e))
      (λ r e w h. takes_retry_global r e (next_of d.taken d.got (answers_on d.socket b.sent) (says (control.SessionRetryGlobal r)) (λ r. r) h e))
      (λ k e w h. takes_wait phase.ReconnectSent w)
      (λ p o e w h. takes_none p)
      p (answer_said d) refl w h

-- ---- the entry

module _ (f g : SideFacts) (bytes : List ℕ) (n : ℕ) (a₀ b : State) (d : Feed) where
  abbrev a : State
  a = record a₀ { feed = Some d }

  abbrev e : Feed
  e = hears bytes d

  waits_still : HasHeard d e → WaitsUnjudged (Some d) a.session.phase a.sent b.sent (judged_sockets b) →
      WaitsUnjudged (Some e) a.session.phase a.sent b.sent (judged_sockets b)
  waits_still h w unjudged =
      let it = w (subst (λ k. is_unjudged k a.sent (judged_sockets b) ≡ true) h.socket unjudged) in
      (it.0, ap₂ (λ m k. drop m (answers_on k b.sent)) h.taken h.socket ∙ it.1)
    where
      ap₂ : {X Y Z : Type 0} (c : X → Y → Z) {x x' : X} {y y' : Y} → x ≡ x' → y ≡ y' → c x y ≡ c x' y'
      ap₂ c e h = rw (e, h) refl

  read_is_steps : FeedIsPaired (beside a b) d → IsHeard f g n a b e a.session.phase (event_heard f a.session.phase e) →
      Run (role_of f) (role_of g) (link_of n a b)
      (link_of (n + trouble_told (event_heard f a.session.phase e) a.session (length (letters a.deliveries) + length (letters b.deliveries))) (reads f e a) b)
  read_is_steps paired heard =
      let h = hears_hears bytes d in
      subst (λ l. Run (role_of f) (role_of g) l (link_of (n + trouble_told (event_heard f a.session.phase e) a.session (length (letters a.deliveries) + length (letters b.deliveries))) (reads f e a) b))
      (sym (same_feed a b d e n n h paired.got refl))
      (answered f g n a b e a.session.phase (waits_still h paired.unjudged) heard)

pub read_is : ReadIsSteps
read_is f g socket bytes n a b may = at a.feed refl may.lawful.0 may.paired.near.feed may.fits_after.near_hears
  where
    at : (o : Option Feed) → a.feed ≡ o → OnFeedAt o (λ d. same_socket socket d.socket ≡ true) →
        IfFed o (FeedIsPaired (beside a b)) →
        HearsAt (after f (item.read socket bytes) a).feed b.sent →
        Run (role_of f) (role_of g) (link_of n a b)
        (link_of (n + trouble_at f (item.read socket bytes) a b) (after f (item.read socket bytes) a) b)
    at None e h paired heard = elim h [ ]
    at (Some d) e h paired heard =
        let it : record a { feed = Some d } ≡ a = ap (λ o. record a { feed = o }) (sym e) in
        subst (λ z. Run (role_of f) (role_of g) (link_of n z b) (link_of (n + trouble_at f (item.read socket bytes) z b) (after f (item.read socket bytes) z) b)) it
        (read_is_steps f g bytes n a b d (subst (λ z. FeedIsPaired (beside z b) d) (sym it) paired)
        (subst (λ z. HearsAt (after f (item.read socket bytes) z).feed b.sent) (sym it) heard))
