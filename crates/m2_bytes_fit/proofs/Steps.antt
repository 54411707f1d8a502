-- Each lawful entry of a journal keeps what is kept of each socket.
use Rattle.std.proofs.Common.{◌≡◌, ℕ, inl, Bool, true, false, not, if◌then◌else◌, List, [], ◌∷◌, ◌++◌, Option, Some, None, refl, sym, ap, ◌∙◌, subst, append_assoc, append-nil}
use Rattle.std.specs.List.{AllByRecursion, filter, filter_map}
use Rattle.std.proofs.lemmas.Grind.{flat_map-append}
use Rattle.std.proofs.lemmas.List.Elements.{filter_map-append}
use Rattle.m2_feed.specs.m2_fabric.declared.socket.SocketId.{SocketId}
use Rattle.m2_feed.specs.m2_fabric.Sockets.{same_socket}
use Rattle.m2_feed.specs.m2_handshake.Course.{text_of}
use Rattle.m2_feed.specs.m2_journal.Feeds.{begun}
use Rattle.m2_feed.specs.m2_journal.Items.{JournalItem}
use Rattle.m2_feed.specs.m2_journal.Laws.{IfFed}
use Rattle.m2_feed.specs.m2_journal.OutFrames.{OutFrame, is_unnamed}
use Rattle.m2_feed.specs.m2_journal.SideFacts.{SideFacts}
use Rattle.m2_feed.specs.m2_journal.State.{Feed, SentFrame, State}
use Rattle.m2_feed.specs.m2_journal.Steps.{composes}
use Rattle.m2_never_reset.specs.Frames.{is_ask, frames_on, answers_on}
use Rattle.m2_never_reset.proofs.Sent.{frames_here, frames_elsewhere}
use Rattle.m2_bytes_fit.specs.Ends.{read_in, wrote_in, taken_in, read_on, wrote_on, takings_on}
use Rattle.m2_bytes_fit.specs.Texts.{texts_of}
use Rattle.m2_bytes_fit.proofs.Kept.{View, feed_on, view, course_at, OpenedFeed, AsksComeFirst, TakenFeed, KeptBy, Kept, with_feed, kept_less, opened_put}
use Rattle.m2_bytes_fit.proofs.Less.{FeedLess, Less}
use Rattle.m2_bytes_fit.proofs.Lists.{not_nil, none_not_some}
use Rattle.m2_bytes_fit.proofs.Puts.{HasPut, is_put, composed_put}
use Rattle.m2_bytes_fit.proofs.Says.{NoAsk}
use Rattle.m2_feed.proofs.m2_lemmas.Booleans.{from_false_true}
use Rattle.m2_feed.proofs.m2_fabric.Sockets.{same_equal}
use Rattle.m2_feed.proofs.m2_lemmas.Lists.{all_append}

-- what is kept of every socket, where these entries have led here
abbrev pub AllKept : SideFacts → List JournalItem → State → Type 0
AllKept f is s = (k : SocketId) → Kept f (view is s k)

-- ---- lists of entries

pub read_next : (k : SocketId) (is : List JournalItem) (i : JournalItem) → read_on k (is ++ i ∷ []) ≡ read_on k is ++ read_in k i
read_next k is i = flat_map-append (read_in k) is (i ∷ []) ∙ ap (λ l. read_on k is ++ l) (append-nil (read_in k i))

pub wrote_next : (k : SocketId) (is : List JournalItem) (i : JournalItem) → wrote_on k (is ++ i ∷ []) ≡ wrote_on k is ++ wrote_in k i
wrote_next k is i = flat_map-append (wrote_in k) is (i ∷ []) ∙ ap (λ l. wrote_on k is ++ l) (append-nil (wrote_in k i))

pub takings_next : (k : SocketId) (is : List JournalItem) (i : JournalItem) → takings_on k (is ++ i ∷ []) ≡ takings_on k is ++ filter_map (taken_in k) (i ∷ [])
takings_next k is i = filter_map-append (taken_in k) is (i ∷ [])

-- an entry that reads, writes and takes nothing on the socket
pub record IsQuiet (k : SocketId) (i : JournalItem) : Type 0 where
  pub read : read_in k i ≡ []
  pub wrote : wrote_in k i ≡ []
  pub taken : filter_map (taken_in k) (i ∷ []) ≡ []

pub view_quiet : (k : SocketId) (is : List JournalItem) (i : JournalItem) (s : State) → IsQuiet k i → view (is ++ i ∷ []) s k ≡ view is s k
view_quiet k is i s q =
    let read : read_on k (is ++ i ∷ []) ≡ read_on k is = read_next k is i ∙ ap (λ l. read_on k is ++ l) q.read ∙ append-nil (read_on k is) in
    let wrote : wrote_on k (is ++ i ∷ []) ≡ wrote_on k is = wrote_next k is i ∙ ap (λ l. wrote_on k is ++ l) q.wrote ∙ append-nil (wrote_on k is) in
    let takings : takings_on k (is ++ i ∷ []) ≡ takings_on k is = takings_next k is i ∙ ap (λ l. takings_on k is ++ l) q.taken ∙ append-nil (takings_on k is) in
    rw (read, wrote, takings) refl

pub kept_quietly : (f : SideFacts) (is : List JournalItem) (i : JournalItem) (s : State) → ((k : SocketId) → IsQuiet k i) → AllKept f is s → AllKept f (is ++ i ∷ []) s
kept_quietly f is i s q h k = subst (Kept f) (sym (view_quiet k is i s (q k))) (h k)

-- ---- less of a state

pub feed_on_less : (k : SocketId) (o p : Option Feed) → FeedLess o p → FeedLess (feed_on k o) (feed_on k p)
feed_on_less k o None l = tt
feed_on_less k None (Some e) l = absurd l
feed_on_less k (Some d) (Some e) l = at (same_socket k d.socket) (same_socket k e.socket) (ap (same_socket k) l.socket)
  where
    at : (a b : Bool) → b ≡ a → FeedLess (if a then Some d else None) (if b then Some e else None)
    at true true q = l
    at false false q = tt
    at true false q = tt
    at false true q = from_false_true (sym q)

pub kept_in_less : (f : SideFacts) (is : List JournalItem) (s t : State) → Less s t → AllKept f is s → AllKept f is t
kept_in_less f is s t less h k =
    let same : view is t k ≡ with_feed (feed_on k t.feed) (view is s k) = rw (less.sent, less.opened, less.judgements) refl in
    subst (Kept f) (sym same) (kept_less f (view is s k) (feed_on k t.feed) (feed_on_less k s.feed t.feed less.feed) (h k))

-- ---- a socket's feed

pub here_feed : (k : SocketId) (d : Feed) → same_socket k d.socket ≡ true → feed_on k (Some d) ≡ Some d
here_feed k d e = rw e refl

pub other_feed : (k : SocketId) (d : Feed) → same_socket k d.socket ≡ false → feed_on k (Some d) ≡ None
other_feed k d e = rw e refl

-- what is kept of the feed's socket, by who opened it
pub if_some : (o : Option Feed) (d : Feed) (P : Feed → Type 0) → o ≡ Some d → IfFed o P → P d
if_some (Some e) d P q h = subst P (inside e d q) h
  where
    inside : (e d : Feed) → Some e ≡ Some d → e ≡ d
    inside e d q = cc
if_some None d P q h = none_not_some q

pub none_isnt : (o : Option Feed) (d : Feed) → o ≡ None → o ≡ Some d → ⊥
none_isnt o d e q = none_not_some (sym e ∙ q)

-- ---- a frame is composed

-- all that was composed is put, both sides have signed, and an ask is sent where nothing else was
pub record MayCompose (s : State) (w : OutFrame) (d : Feed) : Type 0 where
  pub put : d.texts ≡ []
  pub hand : d.hand ≡ None
  pub opener : is_ask w ≡ true → d.opened ≡ true
  pub asks : is_ask w ≡ true → answers_on d.socket s.sent ≡ []

only_asks : (ws : List OutFrame) → filter (λ w. not (is_ask w)) ws ≡ [] → AllByRecursion (λ w. is_ask w ≡ true) ws
only_asks [] e = tt
only_asks (w ∷ ws) e = at (is_ask w) refl (only_asks ws)
  where
    at : (b : Bool) → is_ask w ≡ b → (filter (λ w. not (is_ask w)) ws ≡ [] → AllByRecursion (λ w. is_ask w ≡ true) ws) → AllByRecursion (λ w. is_ask w ≡ true) (w ∷ ws)
    at true q later = (q, later (rw q at e))
    at false q later = not_nil (rw q at e)

pub order_on : (ws : List OutFrame) (w : OutFrame) → (is_ask w ≡ true → filter (λ w. not (is_ask w)) ws ≡ []) → AsksComeFirst ws → AsksComeFirst (ws ++ w ∷ [])
order_on ws w alone h = at (is_ask w) refl
  where
    at : (b : Bool) → is_ask w ≡ b → AsksComeFirst (ws ++ w ∷ [])
    at true q = record {
      asks = ws ++ w ∷ [];
      mails = [];
      all = sym (append-nil (ws ++ w ∷ []));
      are = all_append (λ w. is_ask w ≡ true) ws (w ∷ []) (only_asks ws (alone q)) (q, tt);
      none = tt;
    }
    at false q = record {
      asks = h.asks;
      mails = h.mails ++ w ∷ [];
      all = ap (λ l. l ++ w ∷ []) h.all ∙ append_assoc h.asks h.mails (w ∷ []);
      are = h.are;
      none = all_append NoAsk h.mails (w ∷ []) h.none (q, tt);
    }

abbrev composed_on : SideFacts → OutFrame → Feed → Feed
composed_on f w d = record d { texts = begun f w ∷ [] }

composes_here : (f : SideFacts) (w : OutFrame) (s : State) (d : Feed) (v : View) → is_unnamed w ≡ false → MayCompose s w d → v.feed ≡ Some d →
    v.frames ≡ frames_on d.socket s.sent → Kept f v → Kept f (record v { frames = v.frames ++ w ∷ []; feed = Some (composed_on f w d) })
composes_here f w s d v named may is frames h = at v.opened v.takings h
  where
    new : View
    new = record v { frames = v.frames ++ w ∷ []; feed = Some (composed_on f w d) }

    at : (b : Bool) (ts : List (List ℕ)) → KeptBy f b ts v → KeptBy f b ts new
    at true (u ∷ us) k = absurd k
    at true [] k =
        let old : OpenedFeed f v.read v.wrote v.frames d = if_some v.feed d (OpenedFeed f v.read v.wrote v.frames) is k.feed in
        let feed : OpenedFeed f v.read v.wrote (v.frames ++ w ∷ []) (composed_on f w d) = record {
          opened = old.opened;
          hand = old.hand;
          got = old.got;
          rest = old.rest;
          put = composed_put f v.wrote (text_of (course_at f v.read).events) v.frames w named (old.put.none may.put);
          unsigned = inl may.hand;
        } in
        record {
          unjudged = k.unjudged;
          put = opened_put f v.read v.wrote (v.frames ++ w ∷ []) (composed_on f w d) feed;
          order = order_on v.frames w (λ q. ap (filter (λ w. not (is_ask w))) frames ∙ may.asks q) k.order;
          feed = feed;
        }
    at false [] k = absurd (none_isnt v.feed d k.feed is)
    at false (u ∷ []) k =
        let old : TakenFeed f u v.read v.wrote k.after d = if_some v.feed d (TakenFeed f u v.read v.wrote k.after) is k.feed in
        let put : HasPut f v.wrote ([] ++ texts_of f (k.after ++ w ∷ [])) (begun f w ∷ []) = composed_put f v.wrote [] k.after w named (old.put.none may.put) in
        record {
          before = k.before;
          last = k.last;
          judged = k.judged;
          took = k.took;
          after = k.after ++ w ∷ [];
          frames = ap (λ l. l ++ w ∷ []) k.frames ∙ append_assoc _ k.after (w ∷ []);
          no_asks = all_append NoAsk v.frames (w ∷ []) k.no_asks (no_ask (is_ask w) refl old.opened, tt);
          put = is_put f v.wrote [] (k.after ++ w ∷ []) (begun f w ∷ []) put;
          feed = record { opened = old.opened; hand = old.hand; got = old.got; rest = old.rest; put = put };
        }
      where
        no_ask : (b : Bool) → is_ask w ≡ b → d.opened ≡ false → is_ask w ≡ false
        no_ask true q o = from_false_true (sym o ∙ may.opener q)
        no_ask false q o = q
    at false (u ∷ u' ∷ us) k = absurd k

pub kept_composes : (f : SideFacts) (is : List JournalItem) (w : OutFrame) (s : State) → is_unnamed w ≡ false → IfFed s.feed (MayCompose s w) →
    AllKept f is s → AllKept f is (composes f w s)
kept_composes f is w s named may h = at s.feed may h
  where
    at : (o : Option Feed) → IfFed o (MayCompose s w) → AllKept f is (record s { feed = o }) → AllKept f is (composes f w (record s { feed = o }))
    at None m g k = g k
    at (Some d) m g k = by_socket (same_socket k d.socket) refl
      where
        x : SentFrame
        x = record { socket = d.socket; frame = w }

        old : State
        old = record s { feed = Some d }

        new : State
        new = composes f w (record s { feed = Some d })

        by_socket : (b : Bool) → same_socket k d.socket ≡ b → Kept f (view is new k)
        by_socket true e =
            let frames : frames_on k (s.sent ++ x ∷ []) ≡ frames_on k s.sent ++ w ∷ [] = frames_here k s.sent x e in
            let same : view is new k ≡ record (view is old k) { frames = frames_on k s.sent ++ w ∷ []; feed = Some (composed_on f w d) } =
            rw (frames, here_feed k (composed_on f w d) e) refl in
            subst (Kept f) (sym same)
            (composes_here f w s d (view is old k) named m (here_feed k d e) (ap (λ j. frames_on j s.sent) (same_equal k d.socket e)) (g k))
        by_socket false e =
            let frames : frames_on k (s.sent ++ x ∷ []) ≡ frames_on k s.sent = frames_elsewhere k s.sent x e in
            let same : view is new k ≡ view is old k = rw (frames, other_feed k (composed_on f w d) e, other_feed k d e) refl in
            subst (Kept f) (sym same) (g k)
