-- What is kept of each socket where bytes are read and written, and where a socket is opened, judged and taken.
use Rattle.std.proofs.Common.{◌≡◌, ◌≢◌, ℕ, ◌+◌, ◌⊎◌, inl, inr, Bool, true, false, not, if◌then◌else◌, List, [], ◌∷◌, ◌++◌, length, map, Option, Some, None, refl, sym, ap, ◌∙◌, subst, append_assoc, append-nil}
use Rattle.std.specs.Prelude.{nat_lt, ◌==◌, ◌&&◌}
use Rattle.std.specs.List.{AllByRecursion, filter}
use Rattle.m2_feed.specs.m2_control.Banner.{begins}
use Rattle.m2_feed.specs.m2_fabric.declared.socket.SocketId.{SocketId}
use Rattle.m2_feed.specs.m2_fabric.Sockets.{same_socket}
use Rattle.m2_feed.specs.m2_handshake.Course.{text_of}
use Rattle.m2_feed.specs.m2_journal.Feeds.{hears, without_first, narrowed, finished, texts_at}
use Rattle.m2_feed.specs.m2_journal.Items as item
use Rattle.m2_feed.specs.m2_journal.Items.{JournalItem}
use Rattle.m2_feed.specs.m2_journal.OutFrames as out
use Rattle.m2_feed.specs.m2_journal.OutFrames.{OutFrame, acknowledges, is_unnamed, keepalives_answered}
use Rattle.m2_feed.specs.m2_journal.SideFacts.{SideFacts}
use Rattle.m2_feed.specs.m2_journal.State.{PartText, Feed, SentFrame, State}
use Rattle.m2_feed.specs.m2_journal.Steps.{puts, puts_on, sends}
use Rattle.m2_never_reset.specs.Frames.{is_ask, frames_on}
use Rattle.m2_never_reset.proofs.Answered.{nothing_isnt_some}
use Rattle.m2_never_reset.proofs.Feeds.{hears_hears}
use Rattle.m2_never_reset.proofs.Sent.{frames_here, frames_elsewhere}
use Rattle.m2_bytes_fit.specs.Ends.{read_in, wrote_in, read_on, wrote_on, takings_on}
use Rattle.m2_bytes_fit.specs.Texts.{texts_of}
use Rattle.m2_bytes_fit.proofs.Hearing.{opened_hears, taken_hears}
use Rattle.m2_bytes_fit.proofs.Kept.{View, feed_on, view, course_at, heard_of, IsNamed, OpenedFeed, AsksComeFirst, TakenFeed, KeptBy, Kept, opened_put}
use Rattle.m2_bytes_fit.proofs.Lists.{not_nil}
use Rattle.m2_bytes_fit.proofs.Puts.{HasPut, GoesOnHere, GoesOnSo, is_put, narrowed_here, found_whole, none_whole, texts_here, all_more, late_text, texts_both}
use Rattle.m2_bytes_fit.proofs.Says.{NoAsk}
use Rattle.m2_bytes_fit.proofs.Steps.{AllKept, read_next, wrote_next, takings_next, if_some, none_isnt, here_feed, other_feed}
use Rattle.m2_feed.proofs.m2_lemmas.Options.{some_same}
use Rattle.m2_feed.proofs.m2_lemmas.Booleans.{from_false_true}
use Rattle.m2_feed.proofs.m2_fabric.Sockets.{same_equal}
use Rattle.m2_feed.proofs.m2_lemmas.Lists.{all_append, same_behind}

-- ---- bytes are read on the feed

reads_here : (f : SideFacts) (bytes : List ℕ) (d : Feed) (v : View) → v.feed ≡ Some d → Kept f v → Kept f (record v { read = v.read ++ bytes; feed = Some (hears bytes d) })
reads_here f bytes d v is h = at v.opened v.takings h
  where
    at : (b : Bool) (ts : List (List ℕ)) → KeptBy f b ts v → KeptBy f b ts (record v { read = v.read ++ bytes; feed = Some (hears bytes d) })
    at true (u ∷ us) k = absurd k
    at true [] k =
        let old : OpenedFeed f v.read v.wrote v.frames d = if_some v.feed d (OpenedFeed f v.read v.wrote v.frames) is k.feed in
        record { unjudged = k.unjudged; put = k.put; order = k.order; feed = (opened_hears f v.read bytes v.wrote v.frames d old).1 }
    at false [] k = absurd (none_isnt v.feed d k.feed is)
    at false (u ∷ []) k =
        let old : TakenFeed f u v.read v.wrote k.after d = if_some v.feed d (TakenFeed f u v.read v.wrote k.after) is k.feed in
        record {
          before = k.before;
          last = k.last;
          judged = k.judged;
          took = k.took;
          after = k.after;
          frames = k.frames;
          no_asks = k.no_asks;
          put = k.put;
          feed = (taken_hears f u v.read bytes v.wrote k.after d old).1;
        }
    at false (u ∷ u' ∷ us) k = absurd k

socket_heard : (bytes : List ℕ) (d : Feed) → (hears bytes d).socket ≡ d.socket
socket_heard bytes d = (hears_hears bytes d).socket

pub kept_reads : (f : SideFacts) (is : List JournalItem) (k' : SocketId) (bytes : List ℕ) (s : State) (d : Feed) → s.feed ≡ Some d → same_socket k' d.socket ≡ true →
    AllKept f is s → AllKept f (is ++ item.read k' bytes ∷ []) (record s { feed = Some (hears bytes d) })
kept_reads f is k' bytes s d fed there h k = by_socket (same_socket k d.socket) refl
  where
    i : JournalItem
    i = item.read k' bytes

    new : State
    new = record s { feed = Some (hears bytes d) }

    old_feed : (b : Bool) → same_socket k d.socket ≡ b → feed_on k s.feed ≡ (if b then Some d else None)
    old_feed b e = ap (feed_on k) fed ∙ rw e refl

    wrote : wrote_on k (is ++ i ∷ []) ≡ wrote_on k is
    wrote = wrote_next k is i ∙ append-nil (wrote_on k is)

    takings : takings_on k (is ++ i ∷ []) ≡ takings_on k is
    takings = takings_next k is i ∙ append-nil (takings_on k is)

    one : k' ≡ d.socket
    one = same_equal k' d.socket there

    by_socket : (b : Bool) → same_socket k d.socket ≡ b → Kept f (view (is ++ i ∷ []) new k)
    by_socket true e =
        let in_it : read_in k i ≡ bytes = ap (λ j. if same_socket k j then bytes else []) one ∙ rw e refl in
        let read : read_on k (is ++ i ∷ []) ≡ read_on k is ++ bytes = read_next k is i ∙ ap (λ l. read_on k is ++ l) in_it in
        let feed : feed_on k (Some (hears bytes d)) ≡ Some (hears bytes d) = here_feed k (hears bytes d) (ap (same_socket k) (socket_heard bytes d) ∙ e) in
        let same : view (is ++ i ∷ []) new k ≡ record (view is s k) { read = read_on k is ++ bytes; feed = Some (hears bytes d) } =
        rw (read, wrote, takings, feed) refl in
        subst (Kept f) (sym same) (reads_here f bytes d (view is s k) (old_feed true e) (h k))
    by_socket false e =
        let in_it : read_in k i ≡ [] = ap (λ j. if same_socket k j then bytes else []) one ∙ rw e refl in
        let read : read_on k (is ++ i ∷ []) ≡ read_on k is = read_next k is i ∙ ap (λ l. read_on k is ++ l) in_it ∙ append-nil (read_on k is) in
        let feed : feed_on k (Some (hears bytes d)) ≡ None = other_feed k (hears bytes d) (ap (same_socket k) (socket_heard bytes d) ∙ e) in
        let same : view (is ++ i ∷ []) new k ≡ view is s k = rw (read, wrote, takings, feed, old_feed false e) refl in
        subst (Kept f) (sym same) (h k)

-- ---- bytes are put on the feed

-- where it has put all of a text, or not, by what it is of
pub record PutSo (f : SideFacts) (wrote front : List ℕ) (frames : List OutFrame) (texts : List PartText) (new_frames : List OutFrame) : Type 0 where
  pub put : HasPut f wrote (front ++ texts_of f new_frames) texts
  pub more : List OutFrame
  pub all : new_frames ≡ frames ++ more
  pub none : AllByRecursion NoAsk more

unnamed_no_ask : (w : OutFrame) → is_unnamed w ≡ true → is_ask w ≡ false
unnamed_no_ask (out.acknowledgement n) e = refl
unnamed_no_ask (out.keepalive_answer n) e = refl
unnamed_no_ask out.greeting e = from_false_true e
unnamed_no_ask (out.ident c g) e = from_false_true e
unnamed_no_ask (out.reconnect a b c d e) q = from_false_true q
unnamed_no_ask (out.server_ident c g) e = from_false_true e
unnamed_no_ask (out.reconnect_ok n) e = from_false_true e
unnamed_no_ask (out.reset b) e = from_false_true e
unnamed_no_ask (out.retry n) e = from_false_true e
unnamed_no_ask (out.retry_global n) e = from_false_true e
unnamed_no_ask out.wait e = from_false_true e
unnamed_no_ask (out.message a b m) e = from_false_true e

whole_so : (f : SideFacts) (wrote front : List ℕ) (frames : List OutFrame) (w : OutFrame) → wrote ≡ (front ++ texts_of f frames) ++ late_text f w →
    PutSo f wrote front frames [] (frames ++ (if is_unnamed w then w ∷ [] else []))
whole_so f wrote front frames w e = at (is_unnamed w) refl
  where
    at : (b : Bool) → is_unnamed w ≡ b → PutSo f wrote front frames [] (frames ++ (if b then w ∷ [] else []))
    at true q = record {
      put = record {
        each = tt;
        none = λ z. all_more f wrote (front ++ texts_of f frames) w e q ∙ append_assoc front (texts_of f frames) (texts_of f (w ∷ [])) ∙ ap (λ l. front ++ l) (sym (texts_both f frames (w ∷ [])));
      };
      more = w ∷ [];
      all = refl;
      none = (unnamed_no_ask w q, tt);
    }
    at false q = record {
      put = record {
        each = tt;
        none = λ z. e ∙ ap (λ l. (front ++ texts_of f frames) ++ l) (late_none q) ∙ append-nil (front ++ texts_of f frames) ∙ ap (λ l. front ++ texts_of f l) (sym (append-nil frames));
      };
      more = [];
      all = refl;
      none = tt;
    }
      where
        late_none : is_unnamed w ≡ false → late_text f w ≡ []
        late_none z = rw z refl

-- the texts, and the frames that were sent, where these bytes are put
abbrev texts_after : Option PartText → List PartText → List PartText
texts_after (Some t) texts = []
texts_after None texts = texts

abbrev more_after : Option PartText → List OutFrame
more_after (Some t) = if is_unnamed t.frame then t.frame ∷ [] else []
more_after None = []

some_there : (texts : List PartText) → nat_lt 0 (length texts) ≡ true → texts ≢ []
some_there [] e q = from_false_true e
some_there (t ∷ ts) e q = not_nil q

puts_so : (f : SideFacts) (wrote front : List ℕ) (frames : List OutFrame) (texts : List PartText) (o : Option PartText) → finished texts ≡ o → nat_lt 0 (length texts) ≡ true →
    AllByRecursion (GoesOnHere f wrote (front ++ texts_of f frames)) texts → PutSo f wrote front frames (texts_after o texts) (frames ++ more_after o)
puts_so f wrote front frames texts (Some t) e some h = whole_so f wrote front frames t.frame (found_whole f wrote (front ++ texts_of f frames) texts t h e)
puts_so f wrote front frames texts None e some h = record {
  put = record {
    each = subst (λ ws. AllByRecursion (GoesOnSo f wrote (front ++ texts_of f ws)) texts) (sym (append-nil frames)) (none_whole f wrote (front ++ texts_of f frames) texts h e);
    none = λ q. absurd (some_there texts some q);
  };
  more = [];
  all = refl;
  none = tt;
}

-- named texts end named, and add no frame
named_map : (n : ℕ) (ts : List PartText) → AllByRecursion IsNamed ts → AllByRecursion IsNamed (map (without_first n) ts)
named_map n [] h = tt
named_map n (t ∷ ts) h = (h.0, named_map n ts h.1)

named_filtered : (test : PartText → Bool) (ts : List PartText) → AllByRecursion IsNamed ts → AllByRecursion IsNamed (filter test ts)
named_filtered test [] h = tt
named_filtered test (t ∷ ts) h = at (test t) refl (named_filtered test ts h.1)
  where
    at : (b : Bool) → test t ≡ b → AllByRecursion IsNamed (filter test ts) → AllByRecursion IsNamed (filter test (t ∷ ts))
    at true e more = rw e (h.0, more)
    at false e more = rw e more

named_narrowed : (bytes : List ℕ) (ts : List PartText) → AllByRecursion IsNamed ts → AllByRecursion IsNamed (narrowed bytes ts)
named_narrowed bytes ts h = named_map (length bytes) (filter (λ t. begins bytes t.left) ts) (named_filtered (λ t. begins bytes t.left) ts h)

named_found : (ts : List PartText) (t : PartText) → AllByRecursion IsNamed ts → finished ts ≡ Some t → IsNamed t
named_found [] t h e = nothing_isnt_some t e
named_found (x ∷ xs) t h e = at (length x.left == 0) refl (named_found xs t h.1)
  where
    at : (b : Bool) → (length x.left == 0) ≡ b → (finished xs ≡ Some t → IsNamed t) → IsNamed t
    at true k later = subst IsNamed (some_same x t (rw k at e)) h.0
    at false k later = later (rw k at e)

named_after : (ts : List PartText) (o : Option PartText) → finished ts ≡ o → AllByRecursion IsNamed ts → (more_after o ≡ []) × AllByRecursion IsNamed (texts_after o ts)
named_after ts (Some t) e h = let n = named_found ts t h e in (rw n refl, tt)
named_after ts None e h = (refl, h)

abbrev IsPutFeed : Feed → List PartText → Feed → Type 0
IsPutFeed d texts e = (e.socket ≡ d.socket) × (e.opened ≡ d.opened) × (e.hand ≡ d.hand) × (e.got ≡ d.got) × (e.rest ≡ d.rest) × (e.texts ≡ texts)

orders_on : (ws vs : List OutFrame) → AllByRecursion NoAsk vs → AsksComeFirst ws → AsksComeFirst (ws ++ vs)
orders_on ws vs n h = record {
  asks = h.asks;
  mails = h.mails ++ vs;
  all = ap (λ l. l ++ vs) h.all ∙ append_assoc h.asks h.mails vs;
  are = h.are;
  none = all_append NoAsk h.mails vs h.none n;
}

-- before both sides have signed nothing is put but what is begun
pub record IsBegun (f : SideFacts) (s : State) (d : Feed) : Type 0 where
  pub texts : (d.hand ≡ None) ⊎ (texts_at f s d ≡ d.texts)

puts_here : (f : SideFacts) (bytes : List ℕ) (s : State) (d e : Feed) (v : View) → IsBegun f s d → nat_lt 0 (length (narrowed bytes (texts_at f s d))) ≡ true → v.feed ≡ Some d →
    let o = finished (narrowed bytes (texts_at f s d)) in IsPutFeed d (texts_after o (narrowed bytes (texts_at f s d))) e → Kept f v →
    Kept f (record v { wrote = v.wrote ++ bytes; frames = v.frames ++ more_after o; feed = Some e })
puts_here f bytes s d e v begun some is same h = at v.opened v.takings h
  where
    texts : List PartText
    texts = narrowed bytes (texts_at f s d)

    o : Option PartText
    o = finished texts

    new : View
    new = record v { wrote = v.wrote ++ bytes; frames = v.frames ++ more_after o; feed = Some e }

    at : (b : Bool) (ts : List (List ℕ)) → KeptBy f b ts v → KeptBy f b ts new
    at true (u ∷ us) k = absurd k
    at true [] k =
        let old : OpenedFeed f v.read v.wrote v.frames d = if_some v.feed d (OpenedFeed f v.read v.wrote v.frames) is k.feed in
        let front = text_of (course_at f v.read).events in
        let so = puts_so f (v.wrote ++ bytes) front v.frames texts o refl some (narrowed_here f v.wrote (front ++ texts_of f v.frames) bytes (texts_at f s d) (texts_here f s d v.wrote (front ++ texts_of f v.frames) old.put)) in
        let feed : OpenedFeed f v.read (v.wrote ++ bytes) (v.frames ++ more_after o) e = record {
          opened = same.1 ∙ old.opened;
          hand = same.2 ∙ old.hand ∙ ap (λ j. (heard_of f j v.read).hand) (sym same.0);
          got = same.3 ∙ old.got ∙ ap (λ j. (heard_of f j v.read).got) (sym same.0);
          rest = same.4 ∙ old.rest ∙ ap (λ j. (heard_of f j v.read).rest) (sym same.0);
          put = subst (HasPut f (v.wrote ++ bytes) (front ++ texts_of f (v.frames ++ more_after o))) (sym same.5) so.put;
          unsigned = unsigned_so old.unsigned begun.texts;
        } in
        record { unjudged = k.unjudged; put = opened_put f v.read (v.wrote ++ bytes) (v.frames ++ more_after o) e feed; order = order_so so k.order; feed = feed }
      where
        order_so : PutSo f (v.wrote ++ bytes) (text_of (course_at f v.read).events) v.frames (texts_after o texts) (v.frames ++ more_after o) → AsksComeFirst v.frames → AsksComeFirst (v.frames ++ more_after o)
        order_so so first = subst AsksComeFirst (sym so.all) (orders_on v.frames so.more so.none first)

        unsigned_so : (d.hand ≡ None) ⊎ ((v.frames ≡ []) × AllByRecursion IsNamed d.texts) → (d.hand ≡ None) ⊎ (texts_at f s d ≡ d.texts) →
            (e.hand ≡ None) ⊎ ((v.frames ++ more_after o ≡ []) × AllByRecursion IsNamed e.texts)
        unsigned_so (inl none) b = inl (same.2 ∙ none)
        unsigned_so (inr n) (inl none) = inl (same.2 ∙ none)
        unsigned_so (inr n) (inr at_it) =
            let named = named_narrowed bytes (texts_at f s d) (subst (AllByRecursion IsNamed) (sym at_it) n.1) in
            let after = named_after texts o refl named in
            inr (ap (λ l. l ++ more_after o) n.0 ∙ after.0, subst (AllByRecursion IsNamed) (sym same.5) after.1)
    at false [] k = absurd (none_isnt v.feed d k.feed is)
    at false (u ∷ []) k =
        let old : TakenFeed f u v.read v.wrote k.after d = if_some v.feed d (TakenFeed f u v.read v.wrote k.after) is k.feed in
        let so = puts_so f (v.wrote ++ bytes) [] k.after texts o refl some (narrowed_here f v.wrote (texts_of f k.after) bytes (texts_at f s d) (texts_here f s d v.wrote (texts_of f k.after) old.put)) in
        record {
          before = k.before;
          last = k.last;
          judged = k.judged;
          took = k.took;
          after = k.after ++ more_after o;
          frames = ap (λ l. l ++ more_after o) k.frames ∙ append_assoc _ k.after (more_after o);
          no_asks = no_asks_so so.more (more_same so.more so.all) so.none;
          put = is_put f (v.wrote ++ bytes) [] (k.after ++ more_after o) (texts_after o texts) so.put;
          feed = record {
            opened = same.1 ∙ old.opened;
            hand = same.2 ∙ old.hand;
            got = same.3 ∙ old.got;
            rest = same.4 ∙ old.rest;
            put = subst (HasPut f (v.wrote ++ bytes) (texts_of f (k.after ++ more_after o))) (sym same.5) so.put;
          };
        }
      where
        more_same : (more : List OutFrame) → k.after ++ more_after o ≡ k.after ++ more → more_after o ≡ more
        more_same more q = same_behind k.after (more_after o) more q

        no_asks_so : (more : List OutFrame) → more_after o ≡ more → AllByRecursion NoAsk more → AllByRecursion NoAsk (v.frames ++ more_after o)
        no_asks_so more q n = all_append NoAsk v.frames (more_after o) k.no_asks (subst (AllByRecursion NoAsk) (sym q) n)
    at false (u ∷ u' ∷ us) k = absurd k

put_where : (f : SideFacts) (is : List JournalItem) (k' : SocketId) (bytes : List ℕ) (s t : State) (d e : Feed) → s.feed ≡ Some d → same_socket k' d.socket ≡ true →
    IsBegun f s d → nat_lt 0 (length (narrowed bytes (texts_at f s d))) ≡ true → t.opened ≡ s.opened → t.judgements ≡ s.judgements → t.feed ≡ Some e →
    IsPutFeed d (texts_after (finished (narrowed bytes (texts_at f s d))) (narrowed bytes (texts_at f s d))) e →
    ((k : SocketId) → frames_on k t.sent ≡ (if same_socket k d.socket then frames_on k s.sent ++ more_after (finished (narrowed bytes (texts_at f s d))) else frames_on k s.sent)) →
    AllKept f is s → AllKept f (is ++ item.wrote k' bytes ∷ []) t
put_where f is k' bytes s t d e fed there begun some opened judgements fed_now same sent h k = by_socket (same_socket k d.socket) refl
  where
    i : JournalItem
    i = item.wrote k' bytes

    o : Option PartText
    o = finished (narrowed bytes (texts_at f s d))

    old_feed : (b : Bool) → same_socket k d.socket ≡ b → feed_on k s.feed ≡ (if b then Some d else None)
    old_feed b q = ap (feed_on k) fed ∙ rw q refl

    read : read_on k (is ++ i ∷ []) ≡ read_on k is
    read = read_next k is i ∙ append-nil (read_on k is)

    takings : takings_on k (is ++ i ∷ []) ≡ takings_on k is
    takings = takings_next k is i ∙ append-nil (takings_on k is)

    one : k' ≡ d.socket
    one = same_equal k' d.socket there

    by_socket : (b : Bool) → same_socket k d.socket ≡ b → Kept f (view (is ++ i ∷ []) t k)
    by_socket true q =
        let in_it : wrote_in k i ≡ bytes = ap (λ j. if same_socket k j then bytes else []) one ∙ rw q refl in
        let wrote : wrote_on k (is ++ i ∷ []) ≡ wrote_on k is ++ bytes = wrote_next k is i ∙ ap (λ l. wrote_on k is ++ l) in_it in
        let feed : feed_on k t.feed ≡ Some e = ap (feed_on k) fed_now ∙ here_feed k e (ap (same_socket k) same.0 ∙ q) in
        let frames : frames_on k t.sent ≡ frames_on k s.sent ++ more_after o = sent k ∙ rw q refl in
        let it : view (is ++ i ∷ []) t k ≡ record (view is s k) { wrote = wrote_on k is ++ bytes; frames = frames_on k s.sent ++ more_after o; feed = Some e } =
        rw (read, wrote, takings, feed, frames, opened, judgements) refl in
        subst (Kept f) (sym it) (puts_here f bytes s d e (view is s k) begun some (old_feed true q) same (h k))
    by_socket false q =
        let in_it : wrote_in k i ≡ [] = ap (λ j. if same_socket k j then bytes else []) one ∙ rw q refl in
        let wrote : wrote_on k (is ++ i ∷ []) ≡ wrote_on k is = wrote_next k is i ∙ ap (λ l. wrote_on k is ++ l) in_it ∙ append-nil (wrote_on k is) in
        let feed : feed_on k t.feed ≡ None = ap (feed_on k) fed_now ∙ other_feed k e (ap (same_socket k) same.0 ∙ q) in
        let frames : frames_on k t.sent ≡ frames_on k s.sent = sent k ∙ rw q refl in
        let it : view (is ++ i ∷ []) t k ≡ view is s k = rw (read, wrote, takings, feed, frames, opened, judgements, old_feed false q) refl in
        subst (Kept f) (sym it) (h k)

pub kept_puts : (f : SideFacts) (is : List JournalItem) (k' : SocketId) (bytes : List ℕ) (s : State) (d : Feed) → s.feed ≡ Some d → same_socket k' d.socket ≡ true →
    IsBegun f s d → nat_lt 0 (length (narrowed bytes (texts_at f s d))) ≡ true → AllKept f is s → AllKept f (is ++ item.wrote k' bytes ∷ []) (puts f bytes d s)
kept_puts f is k' bytes s d fed there begun some h = at (finished (narrowed bytes (texts_at f s d))) refl
  where
    texts : List PartText
    texts = narrowed bytes (texts_at f s d)

    at : (o : Option PartText) → finished texts ≡ o → AllKept f (is ++ item.wrote k' bytes ∷ []) (puts_on o texts d s)
    at None e =
        put_where f is k' bytes s (puts_on None texts d s) d (record d { texts = texts }) fed there begun some refl refl refl
        (refl, refl, refl, refl, refl, sym (ap (λ o. texts_after o texts) e)) (λ k. nothing_more k (same_socket k d.socket)) h
      where
        nothing_more : (k : SocketId) (b : Bool) → frames_on k s.sent ≡ (if b then frames_on k s.sent ++ more_after (finished texts) else frames_on k s.sent)
        nothing_more k true = sym (ap (λ o. frames_on k s.sent ++ more_after o) e ∙ append-nil (frames_on k s.sent))
        nothing_more k false = refl
    at (Some t) e = by_name (is_unnamed t.frame) refl
      where
        owes : Bool
        owes = s.owes && not (acknowledges t.frame)

        put : Feed
        put = record d { texts = []; floor = s.last; owed = owes; answered = d.answered + keepalives_answered t.frame }

        new : State
        new = record s { feed = Some put; owes = owes }

        x : SentFrame
        x = record { socket = d.socket; frame = t.frame }

        more : (b : Bool) → is_unnamed t.frame ≡ b → more_after (finished texts) ≡ (if b then t.frame ∷ [] else [])
        more b q = ap more_after e ∙ rw q refl

        by_name : (b : Bool) → is_unnamed t.frame ≡ b → AllKept f (is ++ item.wrote k' bytes ∷ []) (puts_on (Some t) texts d s)
        by_name true q =
            rw q
            (put_where f is k' bytes s (sends d.socket (t.frame ∷ []) new) d put fed there begun some refl refl refl
            (refl, refl, refl, refl, refl, sym (ap (λ o. texts_after o texts) e)) (λ k. one_more k (same_socket k d.socket) refl) h)
          where
            one_more : (k : SocketId) (b : Bool) → same_socket k d.socket ≡ b →
                frames_on k (s.sent ++ x ∷ []) ≡ (if b then frames_on k s.sent ++ more_after (finished texts) else frames_on k s.sent)
            one_more k true z = frames_here k s.sent x z ∙ ap (λ l. frames_on k s.sent ++ l) (sym (more true q))
            one_more k false z = frames_elsewhere k s.sent x z
        by_name false q =
            rw q
            (put_where f is k' bytes s new d put fed there begun some refl refl refl
            (refl, refl, refl, refl, refl, sym (ap (λ o. texts_after o texts) e)) (λ k. nothing_more k (same_socket k d.socket)) h)
          where
            nothing_more : (k : SocketId) (b : Bool) → frames_on k s.sent ≡ (if b then frames_on k s.sent ++ more_after (finished texts) else frames_on k s.sent)
            nothing_more k true = sym (ap (λ l. frames_on k s.sent ++ l) (more false q) ∙ append-nil (frames_on k s.sent))
            nothing_more k false = refl
