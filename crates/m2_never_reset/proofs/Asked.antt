-- An ask that is sent is a step of the link.
--
-- Asked: `asks_by_ident` or `asks_by_reconnect`.
use Rattle.std.proofs.Common.{◌≡◌, ◌≢◌, ℕ, ◌+◌, inl, inr, Bool, true, false, ◌==◌, if◌then◌else◌, List, [], ◌∷◌, ◌++◌, Option, Some, None, refl, sym, ap, ◌∙◌, subst}
use Rattle.std.proofs.lemmas.Bool.{eqb-true, eqb-false}
use Rattle.m2_journal.specs.m2_fabric.declared.socket.SocketId.{SocketId}
use Rattle.m2_journal.specs.m2_fabric.Sockets.{same_socket}
use Rattle.m2_session.specs.declared.session.Phase.{Phase}
use Rattle.m2_session.specs.declared.session.Phase.TheVariants as phase
use Rattle.m2_session.specs.Conditions.{is_kept}
use Rattle.m2_journal.specs.Feeds.{begun}
use Rattle.m2_journal.specs.Items as item
use Rattle.m2_journal.specs.Lawful.{OnFeedAt, MayAsk, IsUnused, judged_sockets}
use Rattle.m2_journal.specs.Laws.{IfFed}
use Rattle.m2_journal.specs.OutFrames.{OutFrame, ident, reconnect}
use Rattle.m2_journal.specs.SideFacts.{SideFacts, cookie_of}
use Rattle.m2_journal.specs.State.{Feed, SentFrame, State}
use Rattle.m2_journal.specs.Steps.{asks_peer}
use Rattle.m2_never_reset.specs.Asks.{Ask, Ident, by_ident, by_reconnect}
use Rattle.m2_never_reset.specs.Link.{Node}
use Rattle.m2_never_reset.specs.Roles.{Role}
use Rattle.m2_never_reset.specs.Steps.{Run, CarriesClient, reconnect_of, asks_by_ident, asks_by_reconnect}
use Rattle.m2_never_reset.specs.Frames.{ask_of, is_ask, asks_on, no_ask, last_ask, ask_now, to_come}
use Rattle.m2_never_reset.specs.LinkOf.{role_of, stand_by, stand_of, asks_left, joined_by, node_of, link_of}
use Rattle.m2_never_reset.specs.PairLaws.{AskedIsSteps}
use Rattle.m2_never_reset.specs.Paired.{IsToCome, beside, FeedIsPaired}
use Rattle.m2_never_reset.specs.Trouble.{trouble_at}
use Rattle.m2_never_reset.proofs.Links.{plus_none, links, joined_same, same_asks, stand_same, one_step}
use Rattle.m2_never_reset.proofs.Sent.{asks_elsewhere, asks_here, last_of, to_come_asked}
use Rattle.m2_journal.proofs.m2_fabric.Sockets.{same_refl}

-- ---- the ask is the last one, and no other side sees it yet

now_asked : (d : Feed) (sent : List SentFrame) (w : OutFrame) (q : Ask) → ask_of w ≡ Some q → ask_now d
    (sent ++ record { socket = d.socket; frame = w } ∷ []) ≡ q
now_asked d sent w q e =
    ap (last_ask no_ask) (asks_here d.socket sent (record { socket = d.socket; frame = w }) q e (same_refl d.socket))
    ∙ last_of no_ask q (asks_on d.socket sent)

unseen : (o : Option Feed) (p : Phase) (mine sent : List SentFrame) (x : SentFrame) → is_ask x.frame ≡ true →
    stand_by o p mine sent ≡ stand_by o p mine (sent ++ x ∷ [])
unseen None p mine sent x e = refl
unseen (Some d) p mine sent x e = sym (stand_same p d mine sent (sent ++ x ∷ []) (to_come_asked d sent x e))

left_same : (d : Feed) (sent : List SentFrame) (w : OutFrame) (judged : List SocketId) (k : SocketId) →
    asks_left (Some d) sent judged k ≡ asks_left (Some d)
    (sent ++ record { socket = d.socket; frame = w } ∷ []) judged k
left_same d sent w judged k = at (same_socket k d.socket) refl
  where
    at : (t : Bool) → same_socket k d.socket ≡ t →
        asks_left (Some d) sent judged k ≡ asks_left (Some d)
        (sent ++ record { socket = d.socket; frame = w } ∷ []) judged k
    at true h = rw h refl
    at false h = rw (asks_elsewhere k sent (record { socket = d.socket; frame = w }) h) refl

-- ---- an ident carries the client cookie

carries : (f : SideFacts) (x : Node) (number : ℕ) →
    CarriesClient (role_of f) x
    (record { cookie = (if is_kept x.client then x.client else cookie_of f number); global = number })
carries f x number = at (x.client == 0) refl
  where
    at : (t : Bool) → (x.client == 0) ≡ t →
        CarriesClient (role_of f) x
        (record { cookie = (if is_kept x.client then x.client else cookie_of f number); global = number })
    at true e = inr (eqb-true x.client 0 e, rw e refl)
    at false e = inl (eqb-false x.client 0 e, rw e refl)

-- ---- the steps

module _ (f : SideFacts) (q : Role) (n number : ℕ) (a₀ b : State) (d : Feed) where
  abbrev a : State
  a = record a₀ { feed = Some d; session = record a₀.session { phase = phase.Connecting } }

  abbrev after_ident : State
  after_ident = asks_peer f true number a

  abbrev after_reconnect : State
  after_reconnect = asks_peer f false number a

  abbrev x : Node
  x = node_of a (judged_sockets b)

  abbrev y : Node
  y = node_of b (judged_sockets a)

  abbrev i : Ident
  i = record { cookie = (if is_kept a.session.client_cookie then a.session.client_cookie else cookie_of f number); global = number }

  ident_is : to_come d b.sent ≡ [] → a.session.server_cookie ≡ 0 → IsUnused a number →
      Run (role_of f) q (link_of n a b) (link_of (n + 0) after_ident b)
  ident_is none server unused =
      one_step (role_of f) q _ _ _ _ refl
      (asks_by_ident x y (stand_of b a) (joined_by (Some d) b.feed) n i server (record { above = unused.from; within = unused.to }) (carries f x number))
      (links _ _ _ _ _ _ _ _ _ _ _ _
      (ap (λ l. record x { client = i.cookie; greatest = number; asks = l })
      (same_asks (asks_left (Some d) a.sent (judged_sockets b)) (asks_left (Some d) after_ident.sent (judged_sockets b)) (left_same d a.sent (ident i.cookie number) (judged_sockets b))))
      (sym (rw (none, now_asked d a.sent (ident i.cookie number) (by_ident i) refl) refl))
      refl
      (unseen b.feed b.session.phase b.sent a.sent (record { socket = d.socket; frame = ident i.cookie number }) refl)
      (joined_same d (record d { texts = begun f (ident i.cookie number) ∷ [] }) b.feed refl refl)
      (plus_none n))

  reconnect_is : to_come d b.sent ≡ [] → a.session.server_cookie ≢ 0 → IsUnused a number →
      Run (role_of f) q (link_of n a b) (link_of (n + 0) after_reconnect b)
  reconnect_is none server unused =
      let w = reconnect a.session.client_cookie a.session.server_cookie number a.session.connect a.last in
      one_step (role_of f) q _ _ _ _ refl
      (asks_by_reconnect x y (stand_of b a) (joined_by (Some d) b.feed) n number a.session.connect server (record { above = unused.from; within = unused.to }))
      (links _ _ _ _ _ _ _ _ _ _ _ _
      (ap (λ l. record x { greatest = number; asks = l })
      (same_asks (asks_left (Some d) a.sent (judged_sockets b)) (asks_left (Some d) after_reconnect.sent (judged_sockets b)) (left_same d a.sent w (judged_sockets b))))
      (sym (rw (none, now_asked d a.sent w (by_reconnect (reconnect_of x number a.session.connect)) refl) refl))
      refl
      (unseen b.feed b.session.phase b.sent a.sent (record { socket = d.socket; frame = w }) refl)
      (joined_same d (record d { texts = begun f w ∷ [] }) b.feed refl refl)
      (plus_none n))

-- ---- the entry

pub asked_is : AskedIsSteps
asked_is f g by number n a b may = at a.feed refl may.lawful may.paired.near.feed
  where
    in_phase : (d : Feed) → a.feed ≡ Some d → a.session.phase ≡ phase.Connecting → record a { feed = Some d; session = record a.session { phase = phase.Connecting } } ≡ a
    in_phase d e p = rw (sym e, sym p) refl

    none : (d : Feed) → a.session.phase ≡ phase.Connecting → FeedIsPaired (beside a b) d → to_come d b.sent ≡ []
    none d p paired = subst (λ p. IsToCome p (to_come d b.sent)) p paired.coming

    by_kind : (k : Bool) (d : Feed) → k ≡ (a.session.server_cookie == 0) → to_come d b.sent ≡ [] → IsUnused a number →
        Run (role_of f) (role_of g)
        (link_of n (record a { feed = Some d; session = record a.session { phase = phase.Connecting } }) b)
        (link_of (n + 0) (asks_peer f k number (record a { feed = Some d; session = record a.session { phase = phase.Connecting } })) b)
    by_kind true d e still unused =
        ident_is f (role_of g) n number a b d still (eqb-true _ _ (sym e))
        (record { from = unused.from; to = unused.to })
    by_kind false d e still unused =
        reconnect_is f (role_of g) n number a b d still (eqb-false _ _ (sym e))
        (record { from = unused.from; to = unused.to })

    no_trouble : (k : Bool) → n + 0 ≡ n + trouble_at f (item.asked k number) a b
    no_trouble true = refl
    no_trouble false = refl

    at : (o : Option Feed) → a.feed ≡ o → OnFeedAt o (MayAsk a by number) → IfFed o (FeedIsPaired (beside a b)) →
        Run (role_of f) (role_of g) (link_of n a b)
        (link_of (n + trouble_at f (item.asked by number) a b) (asks_peer f by number a) b)
    at None e h paired = elim h [ ]
    at (Some d) e h paired =
        subst (λ k. Run (role_of f) (role_of g) (link_of n a b) (link_of k (asks_peer f by number a) b)) (no_trouble by)
        (subst (λ z. Run (role_of f) (role_of g) (link_of n z b) (link_of (n + 0) (asks_peer f by number z) b)) (in_phase d e h.phase)
        (by_kind by d h.of_kind (none d h.phase paired) h.unused))
