-- What is kept of the feed of a side and of what it has sent on the sockets that it opened: on each of these it asks first.
use Rattle.std.proofs.Common.{◌≡◌, ◌≢◌, ℕ, ◌⊎◌, inl, inr, Bool, true, false, not, ◌==◌, if◌then◌else◌, List, [], ◌∷◌, ◌++◌, length, map, Option, Some, None, refl, sym, ap, ◌∙◌, subst, append_assoc, append-nil}
use Rattle.std.specs.List.{AllByRecursion, filter}
use Rattle.m2_weave.specs.m2_control.Banner.{begins}
use Rattle.m2_fabric.specs.declared.socket.SocketId.{SocketId}
use Rattle.m2_fabric.specs.Sockets.{is_among, same_socket}
use Rattle.m2_turn.specs.m2_handshake.Course.{Course, course_of, text_of}
use Rattle.m2_turn.specs.m2_handshake.Moves.{is_authed}
use Rattle.m2_turn.specs.m2_handshake.Standing.{Standing, fed}
use Rattle.m2_turn.specs.m2_session.declared.session.Phase.{Phase}
use Rattle.m2_turn.specs.m2_session.declared.session.Phase.TheVariants as phase
use Rattle.m2_turn.specs.m2_session.Phases as phases
use Rattle.m2_weave.specs.m2_journal.Feeds.{acknowledgements, finished, goes_on, greets, hears, hears_at, keepalive_answers, narrowed, opened_feed, signs, silent_feed, split_into, texts_at, unnamed, without_first}
use Rattle.m2_weave.specs.m2_journal.Laws.{IfFed}
use Rattle.m2_weave.specs.m2_journal.OutFrames.{OutFrame, is_unnamed}
use Rattle.m2_weave.specs.m2_journal.Said.{split}
use Rattle.m2_weave.specs.m2_journal.SideFacts.{SideFacts, opener_half}
use Rattle.m2_weave.specs.m2_journal.State.{Feed, PartText, SentFrame, State}
use Rattle.m2_bytes_fit.specs.m2_never_reset.Frames.{answers_on, frames_on, is_ask}
use Rattle.m2_bytes_fit.proofs.m2_never_reset.Answered.{nothing_isnt_some}
use Rattle.m2_bytes_fit.proofs.m2_never_reset.Sent.{answers_same, frames_elsewhere, frames_here}
use Rattle.m2_bytes_fit.proofs.m2_never_reset.Written.{is_ready}
use Rattle.m2_bytes_fit.proofs.Hands.{ready_apart}
use Rattle.m2_bytes_fit.proofs.Less.{FeedLess}
use Rattle.m2_bytes_fit.proofs.Lists.{not_nil}
use Rattle.m2_fabric.proofs.m2_lemmas.Options.{some_same}
use Rattle.m2_fabric.proofs.m2_lemmas.Booleans.{from_false_true}
use Rattle.m2_fabric.proofs.Sockets.{same_equal, same_refl}

-- ---- what begins with an ask

abbrev pub BeginsAsking : List OutFrame → Type 0
BeginsAsking [] = Unit {0}
BeginsAsking (w ∷ ws) = is_ask w ≡ true

-- on each socket that was opened
abbrev pub AskFirst : (sent : List SentFrame) → (opened : List SocketId) → Type 0
AskFirst sent opened = (k : SocketId) → is_among k opened ≡ true → BeginsAsking (frames_on k sent)

asking_more : (ws : List OutFrame) (w : OutFrame) → (is_ask w ≡ true) ⊎ (ws ≢ []) → BeginsAsking ws → BeginsAsking (ws ++ w ∷ [])
asking_more [] w (inl e) h = e
asking_more [] w (inr n) h = absurd (n refl)
asking_more (v ∷ ws) w may h = h

some_more : (ws : List OutFrame) (w : OutFrame) → ws ++ w ∷ [] ≢ []
some_more [] w e = not_nil e
some_more (v ∷ ws) w e = not_nil e

-- ---- of the feed

-- what no entry names is put in Ready alone
abbrev pub MayPut : Phase → PartText → Type 0
MayPut p t = is_unnamed t.frame ≡ true → p ≡ phase.Ready

-- by its phase, by what it sent and opened, and by the feed's socket, by whether it opened it, and by what it is putting there
pub record FeedFine (p : Phase) (sent : List SentFrame) (opened : List SocketId) (k : SocketId) (mine : Bool) (texts : List PartText) : Type 0 where
  -- before Ready it sends asks alone
  pub asks_alone : (p ≡ phase.Ready) ⊎ (answers_on k sent ≡ [])
  -- a socket that was taken is the feed in Ready alone, and wasn't opened
  pub taken : mine ≡ false → (p ≡ phase.Ready) × (is_among k opened ≡ false)
  pub there : mine ≡ true → is_among k opened ≡ true
  -- behind Connecting it has asked
  pub asked : mine ≡ true → (p ≡ phase.Connecting) ⊎ (frames_on k sent ≢ [])
  pub puts : AllByRecursion (MayPut p) texts

abbrev pub FeedIs : Phase → List SentFrame → List SocketId → Feed → Type 0
FeedIs p sent opened d = FeedFine p sent opened d.socket d.opened d.texts

pub record AsksFirst (s : State) : Type 0 where
  pub feed : IfFed s.feed (FeedIs s.session.phase s.sent s.opened)
  pub first : AskFirst s.sent s.opened

-- ---- texts

all_at : (P : PartText → Type 0) → ((t : PartText) → P t) → (texts : List PartText) → AllByRecursion P texts
all_at P h [] = tt
all_at P h (t ∷ ts) = (h t, all_at P h ts)

pub all_ready : (p : Phase) → p ≡ phase.Ready → (texts : List PartText) → AllByRecursion (MayPut p) texts
all_ready p e texts = all_at (MayPut p) (λ t u. e) texts

-- in another phase, where none is in Ready
pub none_ready : (p q : Phase) → p ≢ phase.Ready → (texts : List PartText) → AllByRecursion (MayPut p) texts → AllByRecursion (MayPut q) texts
none_ready p q n [] h = tt
none_ready p q n (t ∷ ts) h = (λ u. absurd (n (h.0 u)), none_ready p q n ts h.1)

shortened : (p : Phase) (n : ℕ) (texts : List PartText) → AllByRecursion (MayPut p) texts → AllByRecursion (MayPut p) (map (without_first n) texts)
shortened p n [] h = tt
shortened p n (t ∷ ts) h = (h.0, shortened p n ts h.1)

chosen : (p : Phase) (test : PartText → Bool) (texts : List PartText) → AllByRecursion (MayPut p) texts → AllByRecursion (MayPut p) (filter test texts)
chosen p test [] h = tt
chosen p test (t ∷ ts) h = at (test t) refl (chosen p test ts h.1)
  where
    at : (b : Bool) → test t ≡ b → AllByRecursion (MayPut p) (filter test ts) → AllByRecursion (MayPut p) (filter test (t ∷ ts))
    at true e more = rw e (h.0, more)
    at false e more = rw e more

pub may_narrow : (p : Phase) (bytes : List ℕ) (texts : List PartText) → AllByRecursion (MayPut p) texts → AllByRecursion (MayPut p) (narrowed bytes texts)
may_narrow p bytes texts h = shortened p (length bytes) (filter (λ t. begins bytes t.left) texts) (chosen p (λ t. begins bytes t.left) texts h)

pub found_so : (p : Phase) (texts : List PartText) (t : PartText) → AllByRecursion (MayPut p) texts → finished texts ≡ Some t → MayPut p t
found_so p [] t h e = nothing_isnt_some t e
found_so p (x ∷ xs) t h e = at (length x.left == 0) refl (found_so p xs t h.1)
  where
    at : (b : Bool) → (length x.left == 0) ≡ b → (finished xs ≡ Some t → MayPut p t) → MayPut p t
    at true q later = subst (MayPut p) (some_same x t (rw q at e)) h.0
    at false q later = later (rw q at e)

pub may_at : (f : SideFacts) (s : State) (d : Feed) → AllByRecursion (MayPut s.session.phase) d.texts → AllByRecursion (MayPut s.session.phase) (texts_at f s d)
may_at f s d h = at (length d.texts == 0)
  where
    late : (b : Bool) → phases.is s.session.phase phase.Ready ≡ b →
        AllByRecursion (MayPut s.session.phase) (if b then acknowledgements f s d ++ keepalive_answers f s d else [])
    late true e = all_ready s.session.phase (is_ready s.session.phase e) (acknowledgements f s d ++ keepalive_answers f s d)
    late false e = tt

    at : (b : Bool) → AllByRecursion (MayPut s.session.phase) (if b then unnamed f s d else d.texts)
    at true = late (phases.is s.session.phase phase.Ready) refl
    at false = h

greets_may : (p : Phase) (words : List ℕ) (texts : List PartText) → AllByRecursion (MayPut p) texts → AllByRecursion (MayPut p) (greets words texts)
greets_may p [] texts h = h
greets_may p (b ∷ bs) [] h = (λ u. from_false_true u, tt)
greets_may p (b ∷ bs) (t ∷ ts) h = (h.0, tt)

signs_texts : (s : Standing) (d : Feed) → (signs s d).texts ≡ d.texts
signs_texts s d = at (is_authed s.stage)
  where
    at : (b : Bool) → (if b then split_into (split s.rest) (record d { hand = None }) else record d { hand = Some s }).texts ≡ d.texts
    at true = refl
    at false = refl

goes_on_may : (p : Phase) (c : Course) (d : Feed) → AllByRecursion (MayPut p) d.texts → AllByRecursion (MayPut p) (goes_on c d).texts
goes_on_may p c d h =
    subst (AllByRecursion (MayPut p)) (sym (signs_texts c.standing (record d { texts = greets (text_of c.events) d.texts }))) (greets_may p (text_of c.events) d.texts h)

hears_at_may : (p : Phase) (o : Option Standing) (bytes : List ℕ) (d : Feed) → AllByRecursion (MayPut p) d.texts → AllByRecursion (MayPut p) (hears_at o bytes d).texts
hears_at_may p (Some s) bytes d h = goes_on_may p (course_of (fed s bytes) []) d h
hears_at_may p None bytes d h = h

pub hears_may : (p : Phase) (bytes : List ℕ) (d : Feed) → AllByRecursion (MayPut p) d.texts → AllByRecursion (MayPut p) (hears bytes d).texts
hears_may p bytes d h = hears_at_may p d.hand bytes d h

pub opened_may : (p : Phase) (f : SideFacts) (k : SocketId) (last : ℕ) (owes : Bool) → AllByRecursion (MayPut p) (opened_feed f k last owes).texts
opened_may p f k last owes = goes_on_may p (course_of (opener_half f) []) (silent_feed k true last owes) tt

-- ---- the feed is less, or the phase another

pub less_feed : (p : Phase) (sent : List SentFrame) (opened : List SocketId) (o q : Option Feed) → FeedLess o q → IfFed o (FeedIs p sent opened) → IfFed q (FeedIs p sent opened)
less_feed p sent opened o None l h = tt
less_feed p sent opened None (Some e) l h = absurd l
less_feed p sent opened (Some d) (Some e) l h = rw (l.socket, l.opened, l.texts) h

pub on_feed_all : (P Q : Feed → Type 0) (o : Option Feed) → ((d : Feed) → P d → Q d) → IfFed o P → IfFed o Q
on_feed_all P Q None each h = tt
on_feed_all P Q (Some d) each h = each d h

-- it comes to Ready from where it has asked
pub fine_ready : (p : Phase) (sent : List SentFrame) (opened : List SocketId) (d : Feed) → p ≢ phase.Connecting → FeedIs p sent opened d → FeedIs phase.Ready sent opened d
fine_ready p sent opened d n h = record {
  asks_alone = inl refl;
  taken = λ e. (refl, (h.taken e).1);
  there = h.there;
  asked = λ e. still (h.asked e);
  puts = all_ready phase.Ready refl d.texts;
}
  where
    still : (p ≡ phase.Connecting) ⊎ (frames_on d.socket sent ≢ []) → (phase.Ready ≡ phase.Connecting) ⊎ (frames_on d.socket sent ≢ [])
    still (inl c) = absurd (n c)
    still (inr some) = inr some

-- and back to Connecting from where it waits for the answer
pub fine_back : (p : Phase) (sent : List SentFrame) (opened : List SocketId) (d : Feed) → p ≢ phase.Ready → FeedIs p sent opened d → FeedIs phase.Connecting sent opened d
fine_back p sent opened d n h = record {
  asks_alone = still h.asks_alone;
  taken = λ e. absurd (n (h.taken e).0);
  there = h.there;
  asked = λ e. inl refl;
  puts = none_ready p phase.Connecting n d.texts h.puts;
}
  where
    still : (p ≡ phase.Ready) ⊎ (answers_on d.socket sent ≡ []) → (phase.Connecting ≡ phase.Ready) ⊎ (answers_on d.socket sent ≡ [])
    still (inl r) = absurd (n r)
    still (inr none) = inr none

-- ---- a frame more is sent

abbrev sent_on : SocketId → OutFrame → SentFrame
sent_on k w = record { socket = k; frame = w }

-- an ask, where it may be asked
pub fine_asks : (p q : Phase) (sent : List SentFrame) (opened : List SocketId) (k : SocketId) (mine : Bool) (texts new : List PartText) (w : OutFrame) → p ≡ phase.Connecting → is_ask w ≡ true →
    AllByRecursion (MayPut q) new → FeedFine p sent opened k mine texts → FeedFine q (sent ++ record { socket = k; frame = w } ∷ []) opened k mine new
fine_asks p q sent opened k mine texts new w connecting asks may h = record {
  asks_alone = still h.asks_alone;
  taken = λ e. absurd (ready_apart (sym (h.taken e).0 ∙ connecting));
  there = h.there;
  asked = λ e. inr (λ z. some_more (frames_on k sent) w (sym (frames_here k sent (sent_on k w) (same_refl k)) ∙ z));
  puts = may;
}
  where
    still : (p ≡ phase.Ready) ⊎ (answers_on k sent ≡ []) → (q ≡ phase.Ready) ⊎ (answers_on k (sent ++ sent_on k w ∷ []) ≡ [])
    still (inl r) = absurd (ready_apart (sym r ∙ connecting))
    still (inr none) = inr (answers_same k sent (sent_on k w) asks ∙ none)

pub first_asks : (sent : List SentFrame) (opened : List SocketId) (k : SocketId) (w : OutFrame) → is_ask w ≡ true → AskFirst sent opened → AskFirst (sent ++ record { socket = k; frame = w } ∷ []) opened
first_asks sent opened k w asks h j o = at (same_socket j k) refl
  where
    at : (b : Bool) → same_socket j k ≡ b → BeginsAsking (frames_on j (sent ++ sent_on k w ∷ []))
    at true e = subst BeginsAsking (sym (frames_here j sent (sent_on k w) e)) (asking_more (frames_on j sent) w (inl asks) (h j o))
    at false e = subst BeginsAsking (sym (frames_elsewhere j sent (sent_on k w) e)) (h j o)

-- another frame, in Ready
pub fine_mails : (p : Phase) (sent : List SentFrame) (opened : List SocketId) (k : SocketId) (mine : Bool) (texts new : List PartText) (w : OutFrame) → p ≡ phase.Ready →
    AllByRecursion (MayPut p) new → FeedFine p sent opened k mine texts → FeedFine p (sent ++ record { socket = k; frame = w } ∷ []) opened k mine new
fine_mails p sent opened k mine texts new w ready may h = record {
  asks_alone = inl ready;
  taken = h.taken;
  there = h.there;
  asked = λ e. inr (λ z. some_more (frames_on k sent) w (sym (frames_here k sent (sent_on k w) (same_refl k)) ∙ z));
  puts = may;
}

pub first_mails : (p : Phase) (sent : List SentFrame) (opened : List SocketId) (k : SocketId) (mine : Bool) (texts : List PartText) (w : OutFrame) → p ≡ phase.Ready →
    FeedFine p sent opened k mine texts → AskFirst sent opened → AskFirst (sent ++ record { socket = k; frame = w } ∷ []) opened
first_mails p sent opened k mine texts w ready h first j o = at (same_socket j k) refl
  where
    has_asked : (p ≡ phase.Connecting) ⊎ (frames_on k sent ≢ []) → frames_on k sent ≢ []
    has_asked (inl c) = absurd (ready_apart (sym ready ∙ c))
    has_asked (inr some) = some

    by_opener : (b : Bool) → mine ≡ b → j ≡ k → frames_on k sent ≢ []
    by_opener true e same = has_asked (h.asked e)
    by_opener false e same = from_false_true (sym (h.taken e).1 ∙ ap (λ i. is_among i opened) (sym same) ∙ o)

    at : (b : Bool) → same_socket j k ≡ b → BeginsAsking (frames_on j (sent ++ sent_on k w ∷ []))
    at true e =
        let same = same_equal j k e in
        subst BeginsAsking (sym (frames_here j sent (sent_on k w) e))
        (asking_more (frames_on j sent) w (inr (subst (λ i. frames_on i sent ≢ []) (sym same) (by_opener mine refl same))) (first j o))
    at false e = subst BeginsAsking (sym (frames_elsewhere j sent (sent_on k w) e)) (first j o)

-- frames on a socket of the peer
abbrev pub sent_all : SocketId → List OutFrame → List SentFrame
sent_all k ws = map (λ w. record { socket = k; frame = w }) ws

frames_apart : (j k : SocketId) (ws : List OutFrame) (sent : List SentFrame) → same_socket j k ≡ false → frames_on j (sent ++ sent_all k ws) ≡ frames_on j sent
frames_apart j k [] sent e = ap (frames_on j) (append-nil sent)
frames_apart j k (w ∷ ws) sent e =
    ap (frames_on j) (sym (append_assoc sent (sent_on k w ∷ []) (sent_all k ws))) ∙ frames_apart j k ws (sent ++ sent_on k w ∷ []) e ∙ frames_elsewhere j sent (sent_on k w) e

pub apart_from : (j k : SocketId) (opened : List SocketId) → is_among j opened ≡ true → is_among k opened ≡ false → same_socket j k ≡ false
apart_from j k opened o n = at (same_socket j k) refl
  where
    at : (b : Bool) → same_socket j k ≡ b → same_socket j k ≡ false
    at true e = from_false_true (sym n ∙ ap (λ i. is_among i opened) (sym (same_equal j k e)) ∙ o)
    at false e = e

pub first_replies : (sent : List SentFrame) (opened : List SocketId) (k : SocketId) (ws : List OutFrame) → is_among k opened ≡ false → AskFirst sent opened → AskFirst (sent ++ sent_all k ws) opened
first_replies sent opened k ws n h j o = subst BeginsAsking (sym (frames_apart j k ws sent (apart_from j k opened o n))) (h j o)

pub fine_replies : (p : Phase) (sent : List SentFrame) (opened : List SocketId) (d : Feed) (k : SocketId) (ws : List OutFrame) → is_among k opened ≡ false →
    FeedIs p sent opened d → FeedIs p (sent ++ sent_all k ws) opened d
fine_replies p sent opened d k ws n h = by_opener d.opened refl
  where
    same : d.opened ≡ true → frames_on d.socket (sent ++ sent_all k ws) ≡ frames_on d.socket sent
    same e = frames_apart d.socket k ws sent (apart_from d.socket k opened (h.there e) n)

    some : d.opened ≡ true → (p ≡ phase.Connecting) ⊎ (frames_on d.socket sent ≢ []) → (p ≡ phase.Connecting) ⊎ (frames_on d.socket (sent ++ sent_all k ws) ≢ [])
    some e (inl c) = inl c
    some e (inr s) = inr (λ z. s (sym (same e) ∙ z))

    alone : d.opened ≡ true → (p ≡ phase.Ready) ⊎ (answers_on d.socket sent ≡ []) → (p ≡ phase.Ready) ⊎ (answers_on d.socket (sent ++ sent_all k ws) ≡ [])
    alone e (inl r) = inl r
    alone e (inr none) = inr (ap (filter (λ w. not (is_ask w))) (same e) ∙ none)

    by_opener : (b : Bool) → d.opened ≡ b → FeedIs p (sent ++ sent_all k ws) opened d
    by_opener true e = record { asks_alone = alone e h.asks_alone; taken = h.taken; there = h.there; asked = λ z. some z (h.asked z); puts = h.puts }
    by_opener false e = record { asks_alone = inl (h.taken e).0; taken = h.taken; there = h.there; asked = λ z. from_false_true (sym e ∙ z); puts = h.puts }
