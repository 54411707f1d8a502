-- Where bytes fit at a point of an order, what each side has heard and judged there, the other had sent.
use Rattle.std.proofs.Common.{◌≡◌, ◌≢◌, ℕ, ◌⊎◌, inl, inr, Bool, true, false, not, List, [], ◌∷◌, ◌++◌, map, refl, sym, ap, ◌∙◌, append_assoc, append-nil}
use Rattle.std.specs.List.{AllByRecursion, filter, filter_map, flat_map}
use Rattle.std.proofs.lemmas.List.{map-append}
use Rattle.std.proofs.lemmas.List.Elements.{filter_map-append}
use Rattle.m2_feed.specs.m2_fabric.declared.socket.SocketId.{SocketId}
use Rattle.m2_feed.specs.m2_fabric.Sockets.{is_among, same_socket}
use Rattle.m2_feed.specs.m2_frame.Text as frame
use Rattle.m2_feed.specs.m2_handshake.declared.ask.Ask.{Ask}
use Rattle.m2_feed.specs.m2_handshake.Course.{Exchange, Reaches}
use Rattle.m2_feed.specs.m2_handshake.Greeting.{greeting}
use Rattle.m2_feed.specs.m2_handshake.Laws.{IsPrefix}
use Rattle.m2_feed.specs.m2_handshake.Standing.{Standing}
use Rattle.m2_feed.specs.m2_journal.declared.entry.JudgedItem.{JudgedItem}
use Rattle.m2_feed.specs.m2_journal.Lawful.{judged_on, judged_sockets}
use Rattle.m2_feed.specs.m2_journal.OutFrames as out
use Rattle.m2_feed.specs.m2_journal.OutFrames.{OutFrame}
use Rattle.m2_feed.specs.m2_journal.Said.{split}
use Rattle.m2_feed.specs.m2_journal.SideFacts.{SideFacts}
use Rattle.m2_feed.specs.m2_journal.State.{Judgement, SentFrame}
use Rattle.m2_never_reset.specs.Fits.{ask_by, AreItsAsks}
use Rattle.m2_never_reset.specs.Frames.{is_ask, ask_of, frames_on}
use Rattle.m2_trail.specs.Asks.{facts_of_ask}
use Rattle.m2_trail.specs.Replies.{all_replies}
use Rattle.m2_trail.specs.Trails.{ComesToAsk}
use Rattle.m2_bytes_fit.specs.Ends.{Side, state_of, read_on, wrote_on, takings_on, got_at}
use Rattle.m2_bytes_fit.specs.Halves.{HalfName, begins, KeepsRanges, HalfFits, BytesFit}
use Rattle.m2_bytes_fit.specs.Texts.{CanBeSent, CanAllBeSent, texts_of}
use Rattle.m2_bytes_fit.proofs.Acceptors.{as_asked, HasWelcomed, IsAsked, accepts}
use Rattle.m2_bytes_fit.proofs.Fronts.{AreFirst, front_items, nothing_split, begun_is_open}
use Rattle.m2_bytes_fit.proofs.Kept.{view, greeting_of, OpenedKept, KeptBy}
use Rattle.m2_bytes_fit.proofs.Lists.{cons_is_some, not_nil, nil_not}
use Rattle.m2_bytes_fit.proofs.Puts.{IsLate, texts_both, text_alone}
use Rattle.m2_bytes_fit.proofs.Says.{NoAsk, CanBeWritten, part, parts_all, unnamed_written, writable, text_made, all_written, texts_made, all_writable}
use Rattle.m2_bytes_fit.proofs.Steps.{AllKept}
use Rattle.m2_feed.proofs.m2_lemmas.Booleans.{from_false_true}
use Rattle.m2_feed.proofs.m2_fabric.Sockets.{same_refl}
use Rattle.m2_feed.proofs.m2_lemmas.Lists.{all_append, cons_same, empty_front}

-- ---- what is known at a point

pub record Known (a b : Side) : Type 0 where
  pub near_kept : AllKept a.facts a.entries (state_of a)
  pub far_kept : AllKept b.facts b.entries (state_of b)
  pub bytes : BytesFit a b
  -- no socket is opened by both
  pub apart : (k : SocketId) → is_among k (state_of a).opened ≡ true → is_among k (state_of b).opened ≡ false
  pub near_sent : CanAllBeSent a.facts (state_of a).sent
  pub far_sent : CanAllBeSent b.facts (state_of b).sent
  pub near_named : KeepsRanges a.facts
  pub far_named : KeepsRanges b.facts

pub bytes_turn : (a b : Side) → BytesFit a b → BytesFit b a
bytes_turn a b h = record {
  near_got = h.far_got;
  far_got = h.near_got;
  strange = λ k p q. let s = h.strange k q p in (s.1, s.0);
  near_halves = h.far_halves;
  far_halves = h.near_halves;
}

pub turn : (a b : Side) → Known a b → Known b a
turn a b h = record {
  near_kept = h.far_kept;
  far_kept = h.near_kept;
  bytes = bytes_turn a b h.bytes;
  apart = λ k p. far_apart k p (is_among k (state_of a).opened) refl;
  near_sent = h.far_sent;
  far_sent = h.near_sent;
  near_named = h.far_named;
  far_named = h.near_named;
}
  where
    far_apart : (k : SocketId) → is_among k (state_of b).opened ≡ true → (t : Bool) → is_among k (state_of a).opened ≡ t → is_among k (state_of a).opened ≡ false
    far_apart k p true e = from_false_true (sym (h.apart k e) ∙ p)
    far_apart k p false e = e

-- ---- the frames of a socket

pub all_frames : (f : SideFacts) (k : SocketId) (sent : List SentFrame) → CanAllBeSent f sent → AllByRecursion (CanBeSent f) (frames_on k sent)
all_frames f k [] h = tt
all_frames f k (x ∷ xs) h = at (same_socket k x.socket) refl (all_frames f k xs h.1)
  where
    at : (b : Bool) → same_socket k x.socket ≡ b → AllByRecursion (CanBeSent f) (frames_on k xs) → AllByRecursion (CanBeSent f) (frames_on k (x ∷ xs))
    at true e more = rw e (h.0, more)
    at false e more = rw e more

pub no_asks_stay : (ws : List OutFrame) → AllByRecursion NoAsk ws → filter (λ w. not (is_ask w)) ws ≡ ws
no_asks_stay [] h = refl
no_asks_stay (w ∷ ws) h = rw h.0 (ap (λ l. w ∷ l) (no_asks_stay ws h.1))

pub asks_go : (ws : List OutFrame) → AllByRecursion (λ w. is_ask w ≡ true) ws → filter (λ w. not (is_ask w)) ws ≡ []
asks_go [] h = refl
asks_go (w ∷ ws) h = rw h.0 (asks_go ws h.1)

late_written : (f : SideFacts) (late : List OutFrame) (left : List ℕ) → IsLate late left → AllByRecursion (CanBeWritten f) late
late_written f [] left h = tt
late_written f (w ∷ []) left h = (unnamed_written f w h.0, tt)
late_written f (w ∷ v ∷ ws) left h = absurd h

-- ---- the first of what was put

some_behind : {X : Type 0} (xs ys : List X) → ys ≢ [] → xs ++ ys ≢ []
some_behind [] ys n e = n e
some_behind (x ∷ xs) ys n e = cons_is_some x (xs ++ ys) e

pub nothing_of_nothing : (bytes more : List ℕ) → bytes ++ more ≡ [] → (split bytes).items ≡ []
nothing_of_nothing bytes more e = ap (λ l. (split l).items) (empty_front bytes more e)

-- of the front of the texts of these frames, and maybe of one that isn't wholly put, the texts are the first of the frames
pub put_first : (f : SideFacts) (frames late : List OutFrame) (bytes more left : List ℕ) → AllByRecursion (CanBeWritten f) frames → IsLate late left →
    bytes ++ (more ++ left) ≡ texts_of f (frames ++ late) → AreFirst (parts_all f frames) bytes
put_first f frames [] bytes more left k l e =
    front_items (parts_all f frames) [] bytes (more ++ left) (all_writable f frames k) (λ b q. nothing_of_nothing b (more ++ left) q)
    (e ∙ texts_both f frames [] ∙ ap (λ t. t ++ []) (texts_made f frames k))
put_first f frames (w ∷ []) bytes more left k l e =
    let is : CanBeWritten f w = unnamed_written f w l.0 in
    let last : texts_of f (w ∷ []) ≡ frame.text_of (part f w) = text_alone f w ∙ text_made f w is in
    front_items (parts_all f frames) (frame.text_of (part f w)) bytes (more ++ left) (all_writable f frames k)
    (λ b q. nothing_split b (begun_is_open (part f w) (writable f w is) b (more ++ left) (some_behind more left l.1) q))
    (e ∙ texts_both f frames (w ∷ []) ∙ ap (λ t. t ++ texts_of f (w ∷ [])) (texts_made f frames k) ∙ ap (λ t. flat_map frame.text_of (parts_all f frames) ++ t) last)
put_first f frames (w ∷ v ∷ ws) bytes more left k l e = absurd l

greeting_and : (entity : ℕ) (f : SideFacts) (t : List ℕ) → greeting_of f ++ t ≡ greeting f.node.rules.auth f.node.entity f.peer t
greeting_and entity f t = simp (append_assoc)

-- ---- a half that reads what the other side writes

-- what the half on a socket has read, beside the frames of the side that opened it
pub record ReadsFrames (b : Side) (k : SocketId) (bytes more : List ℕ) : Type 0 where
  pub late : List OutFrame
  pub left : List ℕ
  pub late_is : IsLate late left
  pub all : bytes ++ (more ++ left) ≡ greeting b.facts.node.rules.auth b.facts.node.entity b.facts.peer (texts_of b.facts (frames_on k (state_of b).sent ++ late))

can_write : (a b : Side) → Known a b → (k : SocketId) (late : List OutFrame) (left : List ℕ) → IsLate late left → AllByRecursion (CanBeWritten b.facts) (frames_on k (state_of b).sent ++ late)
can_write a b h k late left l =
    all_append (CanBeWritten b.facts) (frames_on k (state_of b).sent) late (all_written b.facts (frames_on k (state_of b).sent) (all_frames b.facts k (state_of b).sent h.far_sent)) (late_written b.facts late left l)

-- the other side opened the socket
pub opened_kept : (b : Side) (k : SocketId) → AllKept b.facts b.entries (state_of b) → is_among k (state_of b).opened ≡ true → OpenedKept b.facts (view b.entries (state_of b) k)
opened_kept b k h o = at (is_among k (state_of b).opened) (takings_on k b.entries) o (h k)
  where
    at : (t : Bool) (ts : List (List ℕ)) → t ≡ true → KeptBy b.facts t ts (view b.entries (state_of b) k) → OpenedKept b.facts (view b.entries (state_of b) k)
    at true [] e g = g
    at true (u ∷ us) e g = absurd g
    at false ts e g = from_false_true e

pub reads_frames : (a b : Side) (h : Known a b) (k : SocketId) (front rest : List ℕ) → is_among k (state_of b).opened ≡ true → front ++ rest ≡ got_at a k → ReadsFrames b k front (rest ++ (h.bytes.near_got k).0)
reads_frames a b h k front rest o e =
    let kept = opened_kept b k h.far_kept o in
    let put = kept.put in
    let got = h.bytes.near_got k in
    let silent = (h.bytes.far_halves k).opened o in
    let wrote : wrote_on k b.entries ≡ front ++ (rest ++ got.0) =
    sym (ap (λ l. l ++ wrote_on k b.entries) silent.1) ∙ got.1 ∙ ap (λ l. l ++ got.0) (sym e) ∙ append_assoc front rest got.0 in
    record {
      late = put.late;
      left = put.left;
      late_is = put.begun;
      all =
          sym (append_assoc front (rest ++ got.0) put.left) ∙ ap (λ l. l ++ put.left) (sym wrote) ∙ put.all
          ∙ greeting_and 0 b.facts (texts_of b.facts (frames_on k (state_of b).sent ++ put.late));
    }

-- the half was asked just asks of the other side, or nothing
pub half_asked : (a b : Side) (h : Known a b) (k : SocketId) (bytes more : List ℕ) (r : ReadsFrames b k bytes more) (name : HalfName) (x : Exchange) (s : Standing) → Reaches (begins name) x s → x.bytes ≡ bytes →
    HasWelcomed name.entity name.seen x ⊎ IsAsked b.facts name.entity name.seen (frames_on k (state_of b).sent ++ r.late) (more ++ r.left) x s
half_asked a b h k bytes more r name x s comes given =
    accepts b.facts name.entity name.seen (frames_on k (state_of b).sent ++ r.late) bytes (more ++ r.left) x s h.far_named.entity h.far_named.peer
    (can_write a b h k r.late r.left r.late_is) r.all comes given

-- a half that has read nothing was asked nothing
pub no_map : {X Y : Type 0} (f : X → Y) (xs : List X) → map f xs ≡ [] → xs ≡ []
no_map f [] e = refl
no_map f (x ∷ xs) e = not_nil e

none_asked : (a b : Side) (h : Known a b) (k : SocketId) (name : HalfName) (x : Exchange) (s : Standing) → Reaches (begins name) x s → x.bytes ≡ [] → x.asks ≡ []
none_asked a b h k name x s comes given =
    at (accepts b.facts name.entity name.seen [] [] (greeting b.facts.node.rules.auth b.facts.node.entity b.facts.peer []) x s h.far_named.entity h.far_named.peer tt refl comes given)
  where
    at : HasWelcomed name.entity name.seen x ⊎ IsAsked b.facts name.entity name.seen [] (greeting b.facts.node.rules.auth b.facts.node.entity b.facts.peer []) x s → x.asks ≡ []
    at (inl w) = w.asks
    at (inr i) = no_map as_asked x.asks (i.asks ∙ ap (map ask_of) (empty_front i.used i.left (sym i.all)))

-- ---- what was judged

facts_nothing : (js : List JudgedItem) (asks : List Ask) → IsPrefix (map (λ (i : JudgedItem). i.ask) js) (map facts_of_ask asks) → asks ≡ [] → js ≡ []
facts_nothing js asks p e =
    no_map (λ (i : JudgedItem). i.ask) js (empty_front (map (λ (i : JudgedItem). i.ask) js) p.0 (sym p.1 ∙ ap (map facts_of_ask) e))

unopened : (a : Side) (k : SocketId) → AllKept a.facts a.entries (state_of a) → judged_on k (state_of a).judgements ≢ [] → is_among k (state_of a).opened ≡ false
unopened a k h n = at (is_among k (state_of a).opened) (takings_on k a.entries) refl (h k)
  where
    at : (t : Bool) (ts : List (List ℕ)) → is_among k (state_of a).opened ≡ t → KeptBy a.facts t ts (view a.entries (state_of a) k) → is_among k (state_of a).opened ≡ false
    at false ts e g = e
    at true [] e g = absurd (n g.unjudged)
    at true (u ∷ us) e g = absurd g

-- an ask was judged there, so the other side opened it
pub opened_by_other : (a b : Side) (h : Known a b) (k : SocketId) → judged_on k (state_of a).judgements ≢ [] → is_among k (state_of b).opened ≡ true
opened_by_other a b h k n = at (is_among k (state_of b).opened) refl
  where
    at : (t : Bool) → is_among k (state_of b).opened ≡ t → is_among k (state_of b).opened ≡ true
    at true e = e
    at false e =
        let half = h.bytes.near_halves k in
        let nothing = empty_front (a.halves k).got (read_on k a.entries) (h.bytes.strange k (unopened a k h.near_kept n) e).0 in
        let asked = half.asks in
        absurd (n (facts_nothing (judged_on k (state_of a).judgements) asked.exchange.asks asked.first
        (none_asked a b h k half.name asked.exchange asked.standing asked.comes (asked.fed ∙ nothing))))

asks_of_used : (asks : List Ask) (used : List OutFrame) → map as_asked asks ≡ map ask_of used → filter_map ask_of used ≡ map (λ a. ask_by (facts_of_ask a)) asks
asks_of_used [] [] e = refl
asks_of_used [] (w ∷ ws) e = nil_not e
asks_of_used (q ∷ qs) [] e = not_nil e
asks_of_used (q ∷ qs) (w ∷ ws) e =
    let same = cons_same (as_asked q) (ask_of w) (map as_asked qs) (map ask_of ws) e in
    rw (sym same.0) (ap (λ l. ask_by (facts_of_ask q) ∷ l) (asks_of_used qs ws same.1))

late_no_ask : (late : List OutFrame) (left : List ℕ) → IsLate late left → filter_map ask_of late ≡ []
late_no_ask [] left l = refl
late_no_ask (out.acknowledgement n ∷ []) left l = refl
late_no_ask (out.keepalive_answer n ∷ []) left l = refl
late_no_ask (out.greeting ∷ []) left l = from_false_true l.0
late_no_ask (out.ident c g ∷ []) left l = from_false_true l.0
late_no_ask (out.reconnect p q r s t ∷ []) left l = from_false_true l.0
late_no_ask (out.server_ident c g ∷ []) left l = from_false_true l.0
late_no_ask (out.reconnect_ok n ∷ []) left l = from_false_true l.0
late_no_ask (out.reset b ∷ []) left l = from_false_true l.0
late_no_ask (out.retry n ∷ []) left l = from_false_true l.0
late_no_ask (out.retry_global n ∷ []) left l = from_false_true l.0
late_no_ask (out.wait ∷ []) left l = from_false_true l.0
late_no_ask (out.message p q m ∷ []) left l = from_false_true l.0
late_no_ask (w ∷ v ∷ ws) left l = absurd l

map_twice : {X Y Z : Type 0} (f : Y → Z) (g : X → Y) (xs : List X) → map (λ x. f (g x)) xs ≡ map f (map g xs)
map_twice f g [] = refl
map_twice f g (x ∷ xs) = ap (λ l. f (g x) ∷ l) (map_twice f g xs)

judges_so : (a b : Side) (h : Known a b) (k : SocketId) → judged_on k (state_of a).judgements ≢ [] → AreItsAsks (state_of b).opened (state_of b).sent (state_of a).judgements k
judges_so a b h k n = at (half_asked a b h k (a.halves k).got more reads half.name asked.exchange asked.standing asked.comes asked.fed)
  where
    opened : is_among k (state_of b).opened ≡ true
    opened = opened_by_other a b h k n

    half : HalfFits a k
    half = h.bytes.near_halves k

    js : List JudgedItem
    js = judged_on k (state_of a).judgements

    asked : ComesToAsk (begins half.name) (a.halves k).got (all_replies js half.refused) js
    asked = half.asks

    more : List ℕ
    more = read_on k a.entries ++ (h.bytes.near_got k).0

    reads : ReadsFrames b k (a.halves k).got more
    reads = reads_frames a b h k (a.halves k).got (read_on k a.entries) opened refl

    frames : List OutFrame
    frames = frames_on k (state_of b).sent

    at : HasWelcomed half.name.entity half.name.seen asked.exchange ⊎ IsAsked b.facts half.name.entity half.name.seen (frames ++ reads.late) (more ++ reads.left) asked.exchange asked.standing →
        AreItsAsks (state_of b).opened (state_of b).sent (state_of a).judgements k
    at (inl w) = absurd (n (facts_nothing js asked.exchange.asks asked.first w.asks))
    at (inr i) =
        let its : filter_map ask_of i.used ≡ map (λ q. ask_by (facts_of_ask q)) asked.exchange.asks = asks_of_used asked.exchange.asks i.used i.asks in
        let all : filter_map ask_of frames ≡ filter_map ask_of i.used ++ filter_map ask_of i.left =
        sym (append-nil (filter_map ask_of frames)) ∙ ap (λ l. filter_map ask_of frames ++ l) (sym (late_no_ask reads.late reads.left reads.late_is))
        ∙ sym (filter_map-append ask_of frames reads.late) ∙ ap (filter_map ask_of) i.all ∙ filter_map-append ask_of i.used i.left in
        let first : map (λ q. ask_by (facts_of_ask q)) asked.exchange.asks ≡ map (λ (i : JudgedItem). ask_by i.ask) js ++ map ask_by asked.first.0 =
        map_twice ask_by facts_of_ask asked.exchange.asks ∙ ap (map ask_by) asked.first.1 ∙ map-append ask_by (map (λ (i : JudgedItem). i.ask) js) asked.first.0
        ∙ ap (λ l. l ++ map ask_by asked.first.0) (sym (map_twice ask_by (λ (i : JudgedItem). i.ask) js)) in
        record {
          opened = opened;
          more = map ask_by asked.first.0 ++ filter_map ask_of i.left;
          first =
              all ∙ ap (λ l. l ++ filter_map ask_of i.left) (its ∙ first)
              ∙ append_assoc (map (λ (i : JudgedItem). ask_by i.ask) js) (map ask_by asked.first.0) (filter_map ask_of i.left);
        }

-- of every socket that was judged on
judged_some : (front : List Judgement) (j : Judgement) (back : List Judgement) → judged_on j.socket (front ++ j ∷ back) ≢ []
judged_some [] j back e = not_nil (rw (same_refl j.socket) at e)
judged_some (i ∷ front) j back e = at (same_socket j.socket i.socket) refl (judged_some front j back)
  where
    at : (t : Bool) → same_socket j.socket i.socket ≡ t → (judged_on j.socket (front ++ j ∷ back) ≢ []) → ⊥
    at true q later = not_nil (rw q at e)
    at false q later = later (rw q at e)

all_judged : (P : SocketId → Type 0) (all front back : List Judgement) → all ≡ front ++ back → ((k : SocketId) → judged_on k all ≢ [] → P k) → AllByRecursion P (map (λ (j : Judgement). j.socket) back)
all_judged P all front [] e each = tt
all_judged P all front (j ∷ back) e each = (
  each j.socket (λ q. judged_some front j back (ap (judged_on j.socket) (sym e) ∙ q)),
  all_judged P all (front ++ j ∷ []) back (e ∙ sym (append_assoc front (j ∷ []) back)) each,
)

pub near_judges : (a b : Side) → Known a b → AllByRecursion (AreItsAsks (state_of b).opened (state_of b).sent (state_of a).judgements) (judged_sockets (state_of a))
near_judges a b h =
    all_judged (AreItsAsks (state_of b).opened (state_of b).sent (state_of a).judgements) (state_of a).judgements [] (state_of a).judgements refl (judges_so a b h)
