-- What the two sides have in common stays where a message is numbered and where bytes are put.
use Rattle.std.proofs.Common.{◌≡◌, ℕ, ◌+◌, ◌⊎◌, Bool, true, false, not, ◌&&◌, if◌then◌else◌, IsTrue, List, [], ◌∷◌, ◌++◌, Option, Some, None, refl, sym, ap, ◌∙◌, subst}
use Rattle.std.proofs.lemmas.List.{append-nil}
use Rattle.m2_journal.specs.m2_fabric.declared.socket.SocketId.{SocketId}
use Rattle.m2_journal.specs.m2_fabric.Sockets.{is_among}
use Rattle.m2_queues.specs.m2_message.Message.{Content}
use Rattle.m2_queues.specs.OutQueues.{after_next, message_at}
use Rattle.m2_queues.specs.QueueLaws.{Next}
use Rattle.m2_session.specs.declared.session.Phase.{Phase}
use Rattle.m2_session.specs.declared.session.Phase.TheVariants as phase
use Rattle.m2_journal.specs.Feeds.{begun, texts_at, narrowed, finished}
use Rattle.m2_journal.specs.Items as item
use Rattle.m2_journal.specs.Lawful.{OnFeedAt, MayNumber, GoesOn, judged_sockets}
use Rattle.m2_journal.specs.Laws.{IfFed, taken_among}
use Rattle.m2_journal.specs.OutFrames as out
use Rattle.m2_journal.specs.OutFrames.{OutFrame, acknowledges, keepalives_answered}
use Rattle.m2_journal.specs.SideFacts.{SideFacts}
use Rattle.m2_journal.specs.State.{PartText, Feed, SentFrame, State}
use Rattle.m2_journal.specs.Steps.{after, queues, writes_message, puts_whole, puts_on, puts}
use Rattle.m2_never_reset.specs.Frames.{ask_of, is_ask}
use Rattle.m2_never_reset.specs.PairLaws.{Stays}
use Rattle.m2_never_reset.specs.Paired.{IsMail, MayBeWritten, beside, FeedIsPaired, Paired}
use Rattle.m2_never_reset.proofs.Feeds.{HasHeard}
use Rattle.m2_never_reset.proofs.Keeping.{lists, paired, if_fed, heard_more, same_other}
use Rattle.m2_never_reset.proofs.Sending.{sent_in_ready, sent_lists, found_among, settled_in_ready, mailed}
use Rattle.m2_never_reset.proofs.Written.{AreWritten, are_narrowed, found, texts_fit}

abbrev IsFound : State → Feed → Type 0
IsFound a d = (is_among d.socket a.opened ≡ true) ⊎ (is_among d.socket (judged_sockets a) ≡ true)

pub put : (d : Feed) (texts : List PartText) (floor : ℕ) (owed : Bool) (answered : ℕ) →
    HasHeard d (record d { texts = texts; floor = floor; owed = owed; answered = answered })
put d texts floor owed answered = record { socket = refl; opened = refl; taken = refl; resumed = refl; more = []; got = sym (append-nil d.got) }

-- ---- the feed alone changes

module _ (a₀ b : State) (d d' : Feed) where
  abbrev a : State
  a = record a₀ { feed = Some d }

  pub same_stays : HasHeard d d' → AreWritten a.session.phase a.last d'.texts → Paired a b → Paired
      (record a₀ { feed = Some d' }) b
  same_stays is texts h =
      paired (record a₀ { feed = Some d' }) b (heard_more (beside a b) d d' is texts h.near.feed) (lists a b h.near)
      (if_fed b.feed (FeedIsPaired (beside b a)) (FeedIsPaired (record (beside b a) { other = Some d' })) (λ e k. same_other (beside b a) d d' e is.socket k) h.far.feed)
      (lists b a h.far)

  -- mail is sent on it
  module _ (w : OutFrame) where
    abbrev x : SentFrame
    x = record { socket = d.socket; frame = w }

    abbrev u : State
    u = record a₀ { feed = Some d'; sent = a₀.sent ++ x ∷ [] }

    pub mail_stays : HasHeard d d' → AreWritten a.session.phase a.last d'.texts → IsMail w → ask_of w ≡ None →
        is_ask w ≡ false → a₀.session.phase ≡ phase.Ready → IsFound a d → Paired a b → Paired u b
    mail_stays is texts m n unasked ready found h =
        paired u b
        (heard_more (record (beside a b) { mine = a.sent ++ x ∷ [] }) d d' is texts (sent_in_ready (beside a b) x d n ready h.near.feed))
        (sent_lists a.opened a.sent (judged_sockets a) (judged_sockets b) x n found (settled_in_ready (beside a b) d ready h.near.feed) (lists a b h.near))
        (if_fed b.feed (FeedIsPaired (beside b a)) (FeedIsPaired (record (beside b a) { other = Some d'; theirs = a.sent ++ x ∷ [] }))
        (λ e k. mailed (beside b a) d d' w e m unasked is.socket k) h.far.feed)
        (lists b a h.far)

-- ---- a message is numbered

numbered_so : (f : SideFacts) (n : ℕ) (a₀ b : State) (d : Feed) (o : Option Content) → IsFound a₀ d →
    Paired (record a₀ { feed = Some d; session = record a₀.session { phase = phase.Ready } }) b →
    Paired (writes_message f n o (queues Next (record a₀ { feed = Some d; session = record a₀.session { phase = phase.Ready } }))) b
numbered_so f n a₀ b d None found h =
    let a : State = record a₀ { feed = Some d; session = record a₀.session { phase = phase.Ready } } in
    paired (queues Next a) b h.near.feed (lists a b h.near) h.far.feed (lists b a h.far)
numbered_so f n a₀ b d (Some m) found h =
    let a : State = record a₀ { feed = Some d; session = record a₀.session { phase = phase.Ready } } in
    let w : OutFrame = out.message n a.last m in
    let d' : Feed = record d { texts = begun f w ∷ [] } in
    let u : State = writes_message f n (Some m) (queues Next a) in
    let k = mail_stays a b d d' w (put d (begun f w ∷ []) d.floor d.owed d.answered)
    (tt, tt) tt refl refl refl found h in
    paired u b k.near.feed
    (lists (record a { feed = Some d'; sent = a.sent ++ record { socket = d.socket; frame = w } ∷ [] }) b k.near) k.far.feed
    (lists b (record a { feed = Some d'; sent = a.sent ++ record { socket = d.socket; frame = w } ∷ [] }) k.far)

is_found : (f : SideFacts) (a : State) (d : Feed) → a.feed ≡ Some d →
    IfFed a.feed (λ d. IsTrue (is_among d.socket (if d.opened then a.opened else taken_among a.judgements))) →
    IsFound a d
is_found f a d e h =
    found_among a.opened a.judgements d
    (subst (λ o. IfFed o (λ d. IsTrue (is_among d.socket (if d.opened then a.opened else taken_among a.judgements)))) e h)

pub numbered_stays : (f g : SideFacts) (n : ℕ) → Stays f g (item.numbered n)
numbered_stays f g n s b may = at s.feed refl may.lawful
  where
    at : (o : Option Feed) → s.feed ≡ o → OnFeedAt o (MayNumber s n) → Paired (after f (item.numbered n) s) b
    at None e h = elim h [ ]
    at (Some d) e h =
        let it : record s { feed = Some d; session = record s.session { phase = phase.Ready } } ≡ s = rw
        (sym e, sym h.phase) refl in
        subst (λ z. Paired (after f (item.numbered n) z) b) it
        (numbered_so f n s b d (message_at (after_next s.out.queue) n) (is_found f s d e may.near_replayed.sound.feed) (subst (λ z. Paired z b) (sym it) may.paired))

-- ---- bytes are put

module _ (f : SideFacts) (a₀ b : State) (d : Feed) (found_it : IsFound a₀ d) where
  abbrev s : State
  s = record a₀ { feed = Some d }

  abbrev whole_put : PartText → Feed
  whole_put t =
      record d { texts = []; floor = s.last; owed = s.owes && not (acknowledges t.frame); answered = d.answered + keepalives_answered t.frame }

  named : (t : PartText) → Paired s b → Paired
      (record s { feed = Some (whole_put t); owes = s.owes && not (acknowledges t.frame) }) b
  named t h = let k = same_stays s b d (whole_put t) (put d [] s.last _ _) tt h in
      paired (record s { feed = Some (whole_put t); owes = s.owes && not (acknowledges t.frame) }) b k.near.feed
      (lists (record s { feed = Some (whole_put t) }) b k.near) k.far.feed
      (lists b (record s { feed = Some (whole_put t) }) k.far)

  unnamed : (t : PartText) → IsMail t.frame → ask_of t.frame ≡ None → is_ask t.frame ≡ false →
      s.session.phase ≡ phase.Ready → Paired s b →
      Paired (record s { feed = Some (whole_put t); owes = s.owes && not (acknowledges t.frame); sent = s.sent ++ record { socket = d.socket; frame = t.frame } ∷ [] }) b
  unnamed t m n unasked ready h =
      let v : State = record s { feed = Some (whole_put t); sent = s.sent ++ record { socket = d.socket; frame = t.frame } ∷ [] } in
      let k = mail_stays s b d (whole_put t) t.frame (put d [] s.last _ _) tt m n unasked ready found_it h in
      paired (record v { owes = s.owes && not (acknowledges t.frame) }) b k.near.feed (lists v b k.near) k.far.feed
      (lists b v k.far)

  whole : (w : OutFrame)
      (left : List ℕ) → (p : Phase) → s.session.phase ≡ p → MayBeWritten p s.last w → Paired s b → Paired
      (puts_whole (record { frame = w; left = left }) d s) b
  whole (out.acknowledgement number) left p e m h =
      unnamed (record { frame = out.acknowledgement number; left = left }) tt refl refl (e ∙ m.0) h
  whole (out.keepalive_answer k) left p e m h =
      unnamed (record { frame = out.keepalive_answer k; left = left }) tt refl refl (e ∙ m) h
  whole out.greeting left p e m h = named (record { frame = out.greeting; left = left }) h
  whole (out.ident c k) left p e m h = named (record { frame = out.ident c k; left = left }) h
  whole (out.reconnect c o k v l) left p e m h = named (record { frame = out.reconnect c o k v l; left = left }) h
  whole (out.server_ident c k) left p e m h = named (record { frame = out.server_ident c k; left = left }) h
  whole (out.reconnect_ok v) left p e m h = named (record { frame = out.reconnect_ok v; left = left }) h
  whole (out.reset full) left p e m h = named (record { frame = out.reset full; left = left }) h
  whole (out.retry k) left p e m h = named (record { frame = out.retry k; left = left }) h
  whole (out.retry_global k) left p e m h = named (record { frame = out.retry_global k; left = left }) h
  whole out.wait left p e m h = named (record { frame = out.wait; left = left }) h
  whole (out.message k v c) left p e m h = named (record { frame = out.message k v c; left = left }) h

  put_so : (texts : List PartText) → AreWritten s.session.phase s.last texts → (o : Option PartText) →
      finished texts ≡ o → Paired s b → Paired (puts_on o texts d s) b
  put_so texts w None e h = same_stays s b d (record d { texts = texts }) (put d texts d.floor d.owed d.answered) w h
  put_so texts w (Some t) e h = whole t.frame t.left s.session.phase refl (found s.session.phase s.last texts t w e) h

  wrote_so : (bytes : List ℕ) → Paired s b → Paired (puts f bytes d s) b
  wrote_so bytes h =
      put_so (narrowed bytes (texts_at f s d))
      (are_narrowed s.session.phase s.last bytes (texts_at f s d) (texts_fit f s d h.near.feed.texts))
      (finished (narrowed bytes (texts_at f s d))) refl h

pub wrote_stays : (f g : SideFacts) (socket : SocketId) (bytes : List ℕ) → Stays f g (item.wrote socket bytes)
wrote_stays f g socket bytes a b may = at a.feed refl may.lawful.1
  where
    at : (o : Option Feed) → a.feed ≡ o → OnFeedAt o (GoesOn f a bytes) → Paired (after f (item.wrote socket bytes) a) b
    at None e h = elim h [ ]
    at (Some d) e h =
        let it : record a { feed = Some d } ≡ a = ap (λ o. record a { feed = o }) (sym e) in
        subst (λ z. Paired (after f (item.wrote socket bytes) z) b) it
        (wrote_so f a b d (is_found f a d e may.near_replayed.sound.feed) bytes (subst (λ z. Paired z b) (sym it) may.paired))
