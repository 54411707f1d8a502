-- What is put on a feed is no step of the link, but where it ends an acknowledgement: that is then on its way.
--
-- Wrote that ends an ACK: `acknowledges`; any other: no step.
use Rattle.std.proofs.Common.{◌≡◌, ℕ, ◌+◌, ◌≤◌, not, ◌&&◌, List, [], ◌∷◌, ◌++◌, length, Option, Some, None, refl, sym, ap, ◌∙◌, subst}
use Rattle.m2_session.specs.m2_control.declared.keepalive.Keepalive.{Keepalive}
use Rattle.m2_journal.specs.m2_fabric.declared.socket.SocketId.{SocketId}
use Rattle.m2_session.specs.declared.session.Phase.{Phase}
use Rattle.m2_session.specs.declared.session.Phase.TheVariants as phase
use Rattle.m2_journal.specs.Feeds.{texts_at, narrowed, finished}
use Rattle.m2_journal.specs.Items as item
use Rattle.m2_journal.specs.Lawful.{OnFeedAt, GoesOn, judged_sockets}
use Rattle.m2_journal.specs.Laws.{IfFed}
use Rattle.m2_journal.specs.OutFrames as out
use Rattle.m2_journal.specs.OutFrames.{OutFrame, acknowledges, keepalives_answered}
use Rattle.m2_journal.specs.SideFacts.{SideFacts}
use Rattle.m2_journal.specs.State.{PartText, Feed, State}
use Rattle.m2_journal.specs.Steps.{after, puts_whole, puts_on, puts}
use Rattle.m2_never_reset.specs.Link.{ready, Node, link}
use Rattle.m2_never_reset.specs.Mails.{ack}
use Rattle.m2_never_reset.specs.Steps as step
use Rattle.m2_never_reset.specs.Steps.{Run}
use Rattle.m2_never_reset.specs.Frames.{answers_on, to_come, mails, ask_of}
use Rattle.m2_never_reset.specs.LinkOf.{role_of, asks_left, joined_by, stand_on, node_of, stand_of, link_of}
use Rattle.m2_never_reset.specs.PairLaws.{WroteIsSteps}
use Rattle.m2_never_reset.specs.Paired.{MayBeWritten, beside, FeedIsPaired}
use Rattle.m2_never_reset.proofs.Links.{plus_none, links, joined_same, same_asks, same, one_step}
use Rattle.m2_never_reset.proofs.Mailed.{mail_is_on_its_way, no_mail_is_on_its_way}
use Rattle.m2_never_reset.proofs.SameFeed.{same_feed}
use Rattle.m2_never_reset.proofs.Sent.{asks_same}
use Rattle.m2_never_reset.proofs.Written.{AreWritten, are_narrowed, found, texts_fit}
use Rattle.m2_never_reset.proofs.StaysWriting.{put}

module _ (f g : SideFacts) (n : ℕ) (a₀ b : State) (d : Feed) where
  abbrev a : State
  a = record a₀ { feed = Some d }

  abbrev x : Node
  x = node_of a (judged_sockets b)

  abbrev y : Node
  y = node_of b (judged_sockets a)

  -- the feed behind a text that is wholly put
  abbrev whole_put : PartText → Feed
  whole_put t =
      record d { texts = []; floor = a.last; owed = a.owes && not (acknowledges t.frame); answered = d.answered + keepalives_answered t.frame }

  abbrev IsRun : State → Type 0
  IsRun u = Run (role_of f) (role_of g) (link_of n a b) (link_of (n + 0) u b)

  abbrev AreTaken : Option Feed → Type 0
  AreTaken o = IfFed o (λ e. e.taken ≤ length (answers_on e.socket a.sent))

  named_is_none : (t : PartText) → d.taken ≤ length d.got → IsRun
      (record a { feed = Some (whole_put t); owes = a.owes && not (acknowledges t.frame) })
  named_is_none t l =
      same (role_of f) (role_of g) _ _ (same_feed a b d (whole_put t) n (n + 0) (put d [] a.last _ _) l (plus_none n))

  -- the side after a frame that no entry names
  abbrev told : PartText → State
  told t = record a {
    feed = Some (whole_put t);
    owes = a.owes && not (acknowledges t.frame);
    sent = a.sent ++ record { socket = d.socket; frame = t.frame } ∷ [];
  }

  left_same : (t : PartText) → ask_of t.frame ≡ None → (k : SocketId) →
      asks_left (Some d) a.sent (judged_sockets b) k ≡ asks_left (Some (whole_put t)) (told t).sent (judged_sockets b) k
  left_same t e k = rw (asks_same k a.sent (record { socket = d.socket; frame = t.frame }) e) refl

  node_after : (t : PartText) → ask_of t.frame ≡ None → x ≡ node_of (told t) (judged_sockets b)
  node_after t e = ap (λ l. record x { asks = l })
      (same_asks (asks_left (Some d) a.sent (judged_sockets b)) (asks_left (Some (whole_put t)) (told t).sent (judged_sockets b)) (left_same t e))

  stamp_is_none : (k : Keepalive) (left : List ℕ) → AreTaken b.feed → a.session.phase ≡ phase.Ready → IsRun
      (told (record { frame = out.keepalive_answer k; left = left }))
  stamp_is_none k left h p =
      let t : PartText = record { frame = out.keepalive_answer k; left = left } in
      same (role_of f) (role_of g) _ _
      (links _ _ _ _ _ _ _ _ _ _ _ _ (node_after t refl)
      (subst (λ p. stand_on p d a.sent b.sent ≡ stand_on p (whole_put t) (told t).sent b.sent) (sym p) refl) refl
      (no_mail_is_on_its_way (out.keepalive_answer k) refl refl (λ q. refl) d b.feed b.session.phase b.sent a.sent h)
      (joined_same d (whole_put t) b.feed refl refl) (plus_none n))

  acknowledged_is_step : (number : ℕ) (left : List ℕ) → AreTaken b.feed → a.session.phase ≡ phase.Ready →
      number ≤ a.last →
      IsRun (told (record { frame = out.acknowledgement number; left = left }))
  acknowledged_is_step number left h p within =
      let t : PartText = record { frame = out.acknowledgement number; left = left } in
      let stands : stand_of a b ≡ ready (mails (to_come d b.sent)) = ap (λ p. stand_on p d a.sent b.sent) p in
      one_step (role_of f) (role_of g) _ _ _ _
      (ap (λ s. link x s y (stand_of b a) (joined_by (Some d) b.feed) n) stands)
      (step.acknowledges x y (mails (to_come d b.sent)) (stand_of b a) (joined_by (Some d) b.feed) n number within)
      (links _ _ _ _ _ _ _ _ _ _ _ _ (node_after t refl)
      (sym (ap (λ p. stand_on p (whole_put t) (told t).sent b.sent) p)) refl
      (mail_is_on_its_way (out.acknowledgement number) (ack number) refl refl (λ q. refl) d b.feed b.session.phase b.sent a.sent h)
      (joined_same d (whole_put t) b.feed refl refl) (plus_none n))

  whole_is : (w : OutFrame) (left : List ℕ) → d.taken ≤ length d.got → AreTaken b.feed → (p : Phase) →
      a.session.phase ≡ p → MayBeWritten p a.last w →
      IsRun (puts_whole (record { frame = w; left = left }) d a)
  whole_is (out.acknowledgement number) left l h p e m = acknowledged_is_step number left h (e ∙ m.0) m.1
  whole_is (out.keepalive_answer k) left l h p e m = stamp_is_none k left h (e ∙ m)
  whole_is out.greeting left l h p e m = named_is_none (record { frame = out.greeting; left = left }) l
  whole_is (out.ident c k) left l h p e m = named_is_none (record { frame = out.ident c k; left = left }) l
  whole_is (out.reconnect c s k o v) left l h p e m =
      named_is_none (record { frame = out.reconnect c s k o v; left = left }) l
  whole_is (out.server_ident c k) left l h p e m =
      named_is_none (record { frame = out.server_ident c k; left = left }) l
  whole_is (out.reconnect_ok v) left l h p e m = named_is_none (record { frame = out.reconnect_ok v; left = left }) l
  whole_is (out.reset full) left l h p e m = named_is_none (record { frame = out.reset full; left = left }) l
  whole_is (out.retry k) left l h p e m = named_is_none (record { frame = out.retry k; left = left }) l
  whole_is (out.retry_global k) left l h p e m = named_is_none (record { frame = out.retry_global k; left = left }) l
  whole_is out.wait left l h p e m = named_is_none (record { frame = out.wait; left = left }) l
  whole_is (out.message k v c) left l h p e m = named_is_none (record { frame = out.message k v c; left = left }) l

  put_is : (texts : List PartText) → AreWritten a.session.phase a.last texts → d.taken ≤ length d.got →
      AreTaken b.feed → (o : Option PartText) → finished texts ≡ o →
      IsRun (puts_on o texts d a)
  put_is texts w l h None e =
      same (role_of f) (role_of g) _ _
      (same_feed a b d (record d { texts = texts }) n (n + 0) (put d texts d.floor d.owed d.answered) l (plus_none n))
  put_is texts w l h (Some t) e =
      whole_is t.frame t.left l h a.session.phase refl (found a.session.phase a.last texts t w e)

  wrote_is_steps : (bytes : List ℕ) → AreWritten a.session.phase a.last d.texts → d.taken ≤ length d.got →
      AreTaken b.feed → IsRun (puts f bytes d a)
  wrote_is_steps bytes w l h =
      let texts = narrowed bytes (texts_at f a d) in
      put_is texts (are_narrowed a.session.phase a.last bytes (texts_at f a d) (texts_fit f a d w)) l h
      (finished texts) refl

-- ---- the entry

pub taken_of : (a b : State) → IfFed b.feed (FeedIsPaired (beside b a)) →
    IfFed b.feed (λ e. e.taken ≤ length (answers_on e.socket a.sent))
taken_of a b h = at b.feed h
  where
    at : (o : Option Feed) → IfFed o (FeedIsPaired (beside b a)) →
        IfFed o (λ e. e.taken ≤ length (answers_on e.socket a.sent))
    at None h = tt
    at (Some e) h = h.sent

pub wrote_is : WroteIsSteps
wrote_is f g socket bytes n a b may = at a.feed refl may.lawful.1 may.paired.near.feed
  where
    at : (o : Option Feed) → a.feed ≡ o → OnFeedAt o (GoesOn f a bytes) → IfFed o (FeedIsPaired (beside a b)) →
        Run (role_of f) (role_of g) (link_of n a b) (link_of (n + 0) (after f (item.wrote socket bytes) a) b)
    at None e h paired = elim h [ ]
    at (Some d) e h paired =
        let it : record a { feed = Some d } ≡ a = ap (λ o. record a { feed = o }) (sym e) in
        subst (λ z. Run (role_of f) (role_of g) (link_of n z b) (link_of (n + 0) (after f (item.wrote socket bytes) z) b)) it
        (wrote_is_steps f g n a b d bytes paired.texts paired.got (taken_of a b may.paired.far.feed))
