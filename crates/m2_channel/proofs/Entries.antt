-- Each lawful entry of a lossy side is one of the moves, and what it composes can be sent.
use Rattle.std.proofs.Common.{◌≡◌, ◌≢◌, ℕ, ◌+◌, ◌-◌, ◌<◌, ◌≤◌, ◌^◌, inl, Bool, true, false, not, ◌&&◌, ◌||◌, ◌==◌, if◌then◌else◌, List, [], ◌∷◌, ◌++◌, drop, length, Option, Some, None, refl, sym, ap, ◌∙◌, subst, arith}
use Rattle.std.specs.Prelude.{IfSome, nat_lt}
use Rattle.std.specs.List.{AllByRecursion}
use Rattle.std.proofs.lemmas.Bool.{and_parts, eq-eqb, eqb-true, lt-ltb}
use Rattle.m2_journal.specs.m2_session.declared.ask.AskFacts.{AskFacts}
use Rattle.m2_journal.specs.m2_session.Asks as asks
use Rattle.m2_journal.specs.m2_session.Dials.{at_rest}
use Rattle.m2_channel.specs.Channel.{KeyedMessage, keyed}
use Rattle.m2_channel.specs.Observed.{handed}
use Rattle.m2_journal.specs.m2_control.declared.control.Control.TheVariants as control
use Rattle.m2_journal.specs.m2_control.declared.fields.TheConstants.{GREATEST_NUMBER}
use Rattle.m2_journal.specs.m2_control.declared.server_ident.ServerIdent.{ServerIdent}
use Rattle.m2_journal.specs.m2_fabric.declared.socket.SocketId.{SocketId}
use Rattle.m2_journal.specs.m2_fabric.Sockets.{is_among, same_socket}
use Rattle.m2_bytes_fit.specs.Halves.{KeepsRanges}
use Rattle.m2_bytes_fit.specs.Texts.{KeepsFields}
use Rattle.m2_bytes_fit.proofs.Bounded.{RestIsBounded, IsUnasked}
use Rattle.m2_bytes_fit.proofs.Composed.{AreComposed, IsComposed, unasked_so}
use Rattle.m2_bytes_fit.proofs.Formats.{client_ident_keeps, numbered_keeps, reset_keeps, server_ident_keeps}
use Rattle.m2_journal.specs.declared.entry.JudgedItem.{JudgedItem}
use Rattle.m2_journal.specs.Feeds.{answer_said, hears, narrowed, finished, next_place, next_said, opened_feed, said_at, texts_at}
use Rattle.m2_journal.specs.Items as item
use Rattle.m2_journal.specs.Items.{JournalItem}
use Rattle.m2_journal.specs.Lawful as lawful
use Rattle.m2_journal.specs.Lawful.{IsNext, IsPost, Lawful, OnFeedAt, MayAsk, MayAcknowledge, MayObey, judged_on, may_ask_again}
use Rattle.m2_journal.specs.Laws.{IfFed, SessionIsSound, taken_among}
use Rattle.m2_journal.specs.OutFrames as out
use Rattle.m2_journal.specs.OutFrames.{OutFrame, is_unnamed}
use Rattle.m2_journal.specs.Plan.{Planned, to_post, to_dial, to_go_down}
use Rattle.m2_journal.specs.Said.{Said, says, brings, aborts, garbles}
use Rattle.m2_journal.specs.SideFacts.{SideFacts, cookie_of}
use Rattle.m2_journal.specs.State as state
use Rattle.m2_journal.specs.State.{PartText, Delivery, Feed, Judgement, SentFrame, State}
use Rattle.m2_journal.specs.Steps.{accepts, after, answer_to, breaks, event_heard, forgets, heeds, is_on, is_waiting, puts_on, queues, writes_message}
use Rattle.m2_journal.specs.m2_message.Message.{Content, unnumbered}
use Rattle.m2_never_reset.specs.Fits.{Says, HearsAt}
use Rattle.m2_never_reset.specs.Frames.{answers_on}
use Rattle.m2_never_reset.specs.Orders.{posted_in}
use Rattle.m2_never_reset.proofs.Answered.{IsNext as IsNextThere, next_of}
use Rattle.m2_never_reset.proofs.Feeds.{hears_hears, opened_hears}
use Rattle.m2_never_reset.proofs.Read.{by_answer}
use Rattle.m2_journal.specs.m2_policy.declared.path.Key.{Key}
use Rattle.m2_journal.specs.m2_queues.QueueLaws.{Next}
use Rattle.m2_journal.specs.m2_queues.OutQueues.{Queue, after_next, message_at, next_number}
use Rattle.m2_journal.specs.m2_session.declared.answer.Answer.{Answer}
use Rattle.m2_journal.specs.m2_session.declared.answer.Answer.TheVariants as answer
use Rattle.m2_journal.specs.m2_session.declared.event.Event.{Event}
use Rattle.m2_journal.specs.m2_session.declared.session.Phase.{Phase}
use Rattle.m2_journal.specs.m2_session.declared.session.Phase.TheVariants as phase
use Rattle.m2_journal.specs.m2_session.Conditions.{differs, is_above, is_kept}
use Rattle.m2_journal.specs.m2_session.Ident.{ident_answer}
use Rattle.m2_journal.specs.m2_session.SessionLaws as session
use Rattle.m2_journal.specs.m2_session.Phases as phases
use Rattle.m2_journal.specs.m2_session.Reconnect.{Reconnect, reconnect_answer}
use Rattle.m2_channel.proofs.Moves.{Spot, View, Move, rests, posts, opens, leaves, gives_up, refuses, takes_on, asks as asks_on_feed, settles, numbers, accepts as accepts_one, moved, posted_by, May, IsAway, IsBrought, spot_of, view, on_socket, sent_on}
use Rattle.m2_channel.proofs.Frames.{IsMute}
use Rattle.m2_channel.proofs.Named.{AreNamed, NamedKept, put_named}
use Rattle.m2_channel.proofs.Sides.{IsPlain, SideIs, StandsIn}
use Rattle.m2_journal.proofs.Sockets.{no_more_asks}
use Rattle.m2_journal.proofs.m2_lemmas.Lists.{all_append}
use Rattle.m2_journal.proofs.m2_lemmas.Booleans.{from_false_true}

-- ---- what is known of a side, and what is shown of its entry

-- of a side of a lossy link, beside the frames that the other one has sent
pub record IsLossySide (f : SideFacts) (s : State) (theirs : List SentFrame) : Type 0 where
  pub lossy : f.policy.lossy ≡ true
  pub ranges : KeepsRanges f
  pub sound : SessionIsSound f s.session
  pub side : SideIs f (view s)
  pub rest : RestIsBounded s
  pub named : NamedKept s
  pub composed : AreComposed f s.sent
  pub hears : HearsAt s.feed theirs

-- where an acceptance was read, the feed has got one
pub record HasGot (d : Feed) : Type 0 where
  pub place : ℕ
  pub ident : ServerIdent
  pub got : said_at d.got place ≡ Some (says (control.ServerIdent ident))

abbrev pub HasGotFor : Move → Option Feed → Type 0
HasGotFor (settles c) o = OnFeedAt o HasGot
HasGotFor m o = Unit {0}

pub record IsMoveTo (f : SideFacts) (theirs : List SentFrame) (i : JournalItem) (s t : State) : Type 0 where
  pub move : Move
  pub is : view t ≡ moved move (view s)
  pub may : May f theirs move (view s)
  pub posted : posted_in i ≡ posted_by move
  pub got : HasGotFor move t.feed
  pub composed : AreComposed f t.sent

abbrev pub IsMoveOf : SideFacts → List SentFrame → JournalItem → State → Type 0
IsMoveOf f theirs i s = IsMoveTo f theirs i s (after f i s)

-- ---- words

spot_is : (d : Feed) (k : SocketId) (b : Bool) → d.socket ≡ k → d.opened ≡ b → ◌≡◌ {A = Option Spot} (Some (record { socket = d.socket; opened = d.opened })) (Some (record { socket = k; opened = b }))
spot_is d k b e g = rw (e, g) refl

with_spot : (v : View) (o p : Option Spot) → o ≡ p → ◌≡◌ {A = View} (record v { feed = o }) (record v { feed = p })
with_spot v o p e = ap (λ q. record v { feed = q }) e

thrown_handed : (ds : List Delivery) → handed (ds ++ state.discarded ∷ []) ≡ handed ds
thrown_handed [] = refl
thrown_handed (state.letter n life key m ∷ ds) = ap (λ l. keyed key m ∷ l) (thrown_handed ds)
thrown_handed (state.discarded ∷ ds) = thrown_handed ds
thrown_handed (state.remote_reset ∷ ds) = thrown_handed ds

letter_handed : (ds : List Delivery) (n life : ℕ) (key : Key) (m : Content) → handed (ds ++ state.letter n life key m ∷ []) ≡ handed ds ++ keyed key m ∷ []
letter_handed [] n life key m = refl
letter_handed (state.letter a u b c ∷ ds) n life key m = ap (λ l. keyed b c ∷ l) (letter_handed ds n life key m)
letter_handed (state.discarded ∷ ds) n life key m = letter_handed ds n life key m
letter_handed (state.remote_reset ∷ ds) n life key m = letter_handed ds n life key m

no_cookie : (f : SideFacts) (n : ℕ) → f.policy.lossy ≡ true → cookie_of f n < 2 ^ 64
no_cookie f n e = rw e (omega arith)

on_it : (f : SideFacts) (k : SocketId) (ws : List OutFrame) → AllByRecursion (IsComposed f) ws → AreComposed f (on_socket k ws)
on_it f k [] h = tt
on_it f k (w ∷ ws) h = (h.0, on_it f k ws h.1)

-- ---- a queue that keeps nothing

plain_is : (q : Queue) → IsPlain q → q ≡ record { keeps = false; base = q.base; written = q.base; cursor = 0; kept = []; waiting = q.waiting }
plain_is q h = rw (h.keeps, h.cursor, h.kept, h.written) refl

-- the number that is next, and what it stands for
record IsFirst (b n : ℕ) (m : Content) (ms : List Content) : Type 0 where
  number : n ≡ b + 1
  message : message_at (after_next (record { keeps = false; base = b; written = b; cursor = 0; kept = []; waiting = m ∷ ms })) n ≡ Some m

first_is : (b n : ℕ) (m : Content) (ms : List Content) → next_number (record { keeps = false; base = b; written = b; cursor = 0; kept = []; waiting = m ∷ ms }) ≡ Some n → IsFirst b n m ms
first_is b n m ms e = record {
  number = number;
  message = rw (below, place) refl;
}
  where
    inside : Option ℕ → ℕ
    inside (Some k) = k
    inside None = 0

    nothing_next : None ≡ Some n → ⊥
    nothing_next g = cc

    by_room : (t : Bool) → (if t then Some (b + 0 + 1) else None) ≡ Some n → b + 0 + 1 ≡ n
    by_room true g = ap inside g
    by_room false g = absurd (nothing_next g)

    number : n ≡ b + 1
    number = let k = by_room (nat_lt 0 0 || nat_lt 0 (length (m ∷ ms))) e in omega (arith, k)

    below : nat_lt b n ≡ true
    below = lt-ltb b n (omega (arith, number))

    place : n - b - 1 ≡ 0
    place = omega (arith, number)

record IsNumberMove (f : SideFacts) (theirs : List SentFrame) (n : ℕ) (s : State) : Type 0 where
  message : Content
  is : view (after f (item.numbered n) s) ≡ moved (numbers n message) (view s)
  may : May f theirs (numbers n message) (view s)
  sent : (after f (item.numbered n) s).sent ≡ s.sent ++ sent_on (spot_of s.feed) (out.message n s.last message)
  composed : IsComposed f (out.message n s.last message)

view_numbered : (s : State) (d : Feed) (b n : ℕ) (m : Content) (ms : List Content) (f : SideFacts) →
    let z : State = record s { feed = Some d; out = record s.out { queue = record { keeps = false; base = b; written = b; cursor = 0; kept = []; waiting = m ∷ ms } } } in
    view (writes_message f n (Some m) (queues Next z)) ≡ moved (numbers n m) (view z)
view_numbered s d b n m ms f = let e : b + 0 + 1 ≡ b + 1 = omega arith in rw e refl

-- ---- each kind

module _ (f : SideFacts) (s : State) (theirs : List SentFrame) (h : IsLossySide f s theirs) where
  policy : s.session.policy.lossy ≡ true
  policy = ap (λ p. p.lossy) h.sound.policy ∙ h.lossy

  client : s.session.client_cookie ≡ 0
  client = h.sound.client h.lossy

  abbrev v : View
  v = view s

  -- nothing that matters
  quietly : (i : JournalItem) (t : State) → view t ≡ v → posted_in i ≡ [] → t.sent ≡ s.sent → IsMoveTo f theirs i s t
  quietly i t e p g = record { move = rests; is = e; may = tt; posted = p; got = tt; composed = subst (AreComposed f) (sym g) h.composed }

  posts_move : (place : ℕ) (planned : Option Planned) → IsPost planned → IsMoveOf f theirs (item.post place planned) s
  posts_move place (Some (to_post m)) p = record { move = posts m; is = refl; may = tt; posted = refl; got = tt; composed = h.composed }
  posts_move place (Some to_dial) p = absurd p
  posts_move place (Some to_go_down) p = absurd p
  posts_move place None p = absurd p

  -- ---- a socket is opened

  away : (p : Phase) (o : Option Spot) (x : Bool) → StandsIn v p o → ((phases.is_among p at_rest && x) || phases.is p phase.Wait) ≡ true → IsAway p
  away phase.Absent o x st e = tt
  away phase.Wait o x st e = tt
  away phase.Connecting o x st e = from_false_true e
  away phase.IdentSent o x st e = from_false_true e
  away phase.ReconnectSent o x st e = from_false_true e
  away phase.Ready o x st e = from_false_true e
  away phase.Standby o x st e = absurd st

  not_server : (b : Bool) → not b ≡ true → b ≡ false
  not_server false e = refl
  not_server true e = from_false_true e

  opens_move : (k : SocketId) → Lawful f (item.opened k) s → IsMoveOf f theirs (item.opened k) s
  opens_move k l =
      let heard = opened_hears f k s.last s.owes in
      let due = and_parts (not s.session.policy.server) ((phases.is_among s.session.phase at_rest && (is_waiting s || s.dials)) || phases.is s.session.phase phase.Wait) l.due in
      record {
        move = opens k;
        is = with_spot (moved (opens k) v) (Some (record { socket = (opened_feed f k s.last s.owes).socket; opened = (opened_feed f k s.last s.owes).opened })) (Some (record { socket = k; opened = true })) (spot_is (opened_feed f k s.last s.owes) k true heard.socket heard.opened);
        may = record {
          client = sym (ap (λ p. p.server) h.sound.policy) ∙ not_server s.session.policy.server due.0;
          away = away s.session.phase (spot_of s.feed) (is_waiting s || s.dials) h.side.stands due.1;
          not_opened = l.not_opened;
          not_judged = l.not_judged;
        };
        posted = refl;
        got = tt;
        composed = h.composed;
      }

  -- ---- bytes are read

  module _ (d : Feed) (bytes : List ℕ) where
    abbrev d' : Feed
    d' = hears bytes d

    abbrev fed_state : State
    fed_state = record s { feed = Some d }

    spot_heard : ◌≡◌ {A = Option Spot} (Some (record { socket = d'.socket; opened = d'.opened })) (Some (record { socket = d.socket; opened = d.opened }))
    spot_heard = let hd = hears_hears bytes d in spot_is d' d.socket d.opened hd.socket hd.opened

    abbrev IsRead : Phase → Option Said → Option Event → Type 0
    IsRead p o e = answer_said d' ≡ o → s.session.phase ≡ p → StandsIn v p (spot_of (Some d)) → IsMoveTo f theirs (item.read d.socket bytes) fed_state (heeds e d' fed_state)

    reads_move : StandsIn v s.session.phase (spot_of (Some d)) → IsMoveTo f theirs (item.read d.socket bytes) fed_state (heeds (event_heard f s.session.phase d') d' fed_state)
    reads_move stands =
        by_answer f IsRead
        (λ i q p st. record {
          move = settles i.cookie;
          is = with_spot (moved (settles i.cookie) (view fed_state)) (Some (record { socket = d'.socket; opened = d'.opened })) (Some (record { socket = d.socket; opened = d.opened })) spot_heard;
          may = p;
          posted = refl;
          got = record { place = d'.taken; ident = i; got = q };
          composed = h.composed;
        })
        (λ w q p st. record { move = leaves phase.Wait false; is = refl; may = (tt, p); posted = refl; got = tt; composed = h.composed })
        (λ k q p st. absurd st)
        (λ r q p st. absurd st)
        (λ r q p st. absurd st)
        (λ w q p st. absurd st)
        (λ p o q r st. record {
          move = rests;
          is = with_spot (view fed_state) (Some (record { socket = d'.socket; opened = d'.opened })) (Some (record { socket = d.socket; opened = d.opened })) spot_heard;
          may = tt;
          posted = refl;
          got = tt;
          composed = h.composed;
        })
        s.session.phase (answer_said d') refl refl stands

  read_move : (k : SocketId) (bytes : List ℕ) → Lawful f (item.read k bytes) s → IsMoveOf f theirs (item.read k bytes) s
  read_move k bytes l = at s.feed refl l.0 h.side.stands
    where
      at : (o : Option Feed) → s.feed ≡ o → OnFeedAt o (λ d. same_socket k d.socket ≡ true) → StandsIn v s.session.phase (spot_of o) → IsMoveTo f theirs (item.read k bytes) s (after f (item.read k bytes) s)
      at None e g st = absurd g
      at (Some d) e g st =
          let it : record s { feed = Some d } ≡ s = ap (λ o. record s { feed = o }) (sym e) in
          let m = reads_move d bytes st in
          subst (λ z. IsMoveTo f theirs (item.read k bytes) z (after f (item.read k bytes) z)) it
          (record { move = m.move; is = m.is; may = m.may; posted = m.posted; got = m.got; composed = m.composed })

  -- ---- bytes are put

  wrote_move : (k : SocketId) (bytes : List ℕ) → Lawful f (item.wrote k bytes) s → IsMoveOf f theirs (item.wrote k bytes) s
  wrote_move k bytes l = at s.feed refl l.0 h.named (unasked_so s.feed theirs h.hears)
    where
      put : (d : Feed) (o : Option PartText) (texts : List PartText) → IfSome o (λ t. is_unnamed t.frame ≡ false) →
          (view (puts_on o texts d (record s { feed = Some d })) ≡ view (record s { feed = Some d })) × ((puts_on o texts d (record s { feed = Some d })).sent ≡ s.sent)
      put d None texts n = (refl, refl)
      put d (Some t) texts n = rw n (refl, refl)

      at : (o : Option Feed) → s.feed ≡ o → OnFeedAt o (λ d. same_socket k d.socket ≡ true) → IfFed o (λ d. AreNamed d.texts) → IfFed o IsUnasked → IsMoveTo f theirs (item.wrote k bytes) s (after f (item.wrote k bytes) s)
      at None e g n u = absurd g
      at (Some d) e g n u =
          let it : record s { feed = Some d } ≡ s = ap (λ o. record s { feed = o }) (sym e) in
          let z = record s { feed = Some d } in
          let texts = narrowed bytes (texts_at f z d) in
          let still = put d (finished texts) texts (put_named f z d bytes h.lossy u n) in
          quietly (item.wrote k bytes) (after f (item.wrote k bytes) s)
          (subst (λ z. view (after f (item.wrote k bytes) z) ≡ view z) it still.0) refl
          (subst (λ z. (after f (item.wrote k bytes) z).sent ≡ z.sent) it still.1)

  -- ---- a feed is closed

  closed_move : (k : SocketId) (broken : Bool) → IsMoveOf f theirs (item.closed k broken) s
  closed_move k broken = at (is_on k s.feed)
    where
      left : (o : Option Feed) → view (breaks (record s { feed = o })) ≡ record (moved (leaves phase.Absent true) (view (record s { feed = o }))) { accepted = handed (s.deliveries ++ state.discarded ∷ []) }
      left (Some d) = rw policy refl
      left None = rw policy refl

      same : (breaks s).sent ≡ s.sent
      same = at s.feed
        where
          at : (o : Option Feed) → (breaks (record s { feed = o })).sent ≡ s.sent
          at (Some d) = rw policy refl
          at None = rw policy refl

      at : (b : Bool) → IsMoveTo f theirs (item.closed k broken) s (if b then breaks s else forgets k s)
      at true = record {
        move = leaves phase.Absent true;
        is = left s.feed ∙ ap (λ l. record (moved (leaves phase.Absent true) v) { accepted = l }) (thrown_handed s.deliveries);
        may = (tt, tt);
        posted = refl;
        got = tt;
        composed = subst (AreComposed f) (sym same) h.composed;
      }
      at false = quietly (item.closed k broken) (forgets k s) refl refl refl

  -- ---- an ask is judged

  by_ident : (P : Answer → Type 0) (cookie global : ℕ) → P answer.Accept → P answer.Close → P answer.AcceptOver → P (ident_answer s.session cookie global)
  by_ident P cookie global accept close over = at (phases.is s.session.phase phase.Absent) (is_above s.session.peer_global global) s.session.policy.lossy refl refl policy
    where
      at : (a b c : Bool) → phases.is s.session.phase phase.Absent ≡ a → is_above s.session.peer_global global ≡ b → s.session.policy.lossy ≡ true → P (ident_answer s.session cookie global)
      at true b c e g l = rw e accept
      at false true c e g l = rw (e, g) close
      at false false c e g l = rw (e, g, l) over

  by_reconnect : (P : Answer → Type 0) (r : Reconnect) (written : ℕ) → r.client ≢ 0 → P (answer.Reset s.session.policy.resetcheck) → P (reconnect_answer s.session r written)
  by_reconnect P r written some reset = at (phases.is s.session.phase phase.Absent) refl
    where
      other : differs s.session.client_cookie r.client ≡ true
      other = rw client (unlike (0 == r.client) refl)
        where
          unlike : (b : Bool) → (0 == r.client) ≡ b → not (0 == r.client) ≡ true
          unlike true e = absurd (some (sym (eqb-true 0 r.client e)))
          unlike false e = rw e refl

      at : (a : Bool) → phases.is s.session.phase phase.Absent ≡ a → P (reconnect_answer s.session r written)
      at true e = rw e reset
      at false e = rw (e, other) reset

  -- it asks again, so the socket wasn't taken
  not_taken_yet : (k : SocketId) (js : List Judgement) → AllByRecursion (λ (i : JudgedItem). may_ask_again i.answer ≡ true) (judged_on k js) → is_among k (taken_among js) ≡ false
  not_taken_yet k [] again = refl
  not_taken_yet k (j ∷ js) again = at (same_socket k j.socket) (session.takes j.item.answer) refl refl again (not_taken_yet k js)
    where
      at : (a b : Bool) → same_socket k j.socket ≡ a → session.takes j.item.answer ≡ b → AllByRecursion (λ (i : JudgedItem). may_ask_again i.answer ≡ true) (judged_on k (j ∷ js)) →
          (AllByRecursion (λ (i : JudgedItem). may_ask_again i.answer ≡ true) (judged_on k js) → is_among k (taken_among js) ≡ false) → is_among k (taken_among (j ∷ js)) ≡ false
      at true true e g again later = let both = rw e at again in absurd (no_more_asks j.item.answer g both.0)
      at true false e g again later = let both = rw e at again in rw g (later both.1)
      at false true e g again later = let more = rw e at again in rw (g, e) (later more)
      at false false e g again later = let more = rw e at again in rw g (later more)

  refused_move : (k : SocketId) (ask : AskFacts) (number : ℕ) (given : Answer) (unread : List ℕ) (trail : List JudgedItem) (ws : List OutFrame) → is_among k s.opened ≡ false → session.takes given ≡ false →
      AllByRecursion IsMute ws → AllByRecursion (IsComposed f) ws →
      view (after f (item.judged k ask number given unread trail) s) ≡ moved (refuses k ws (record { ask = ask; answer = given })) v →
      (after f (item.judged k ask number given unread trail) s).sent ≡ s.sent ++ on_socket k ws →
      IsMoveOf f theirs (item.judged k ask number given unread trail) s
  refused_move k ask number given unread trail ws not_opened refused mute new is sent = record {
    move = refuses k ws (record { ask = ask; answer = given });
    is = is;
    may = record { not_opened = not_opened; mute = mute; refused = refused };
    posted = refl;
    got = tt;
    composed = subst (AreComposed f) (sym sent) (all_append (λ x. IsComposed f x.frame) s.sent (on_socket k ws) h.composed (on_it f k ws new));
  }

  module _ (k : SocketId) (ask₀ : AskFacts) (number : ℕ) (unread : List ℕ) (trail : List JudgedItem) (not_opened : is_among k s.opened ≡ false)
      (again : AllByRecursion (λ (i : JudgedItem). may_ask_again i.answer ≡ true) (judged_on k s.judgements)) (few : number ≤ GREATEST_NUMBER) where
    abbrev identifying : AskFacts
    identifying = record ask₀ { ident = true }

    abbrev reconnecting : AskFacts
    reconnecting = record ask₀ { ident = false }

    new_ident : IsComposed f (out.server_ident (cookie_of f number) number)
    new_ident = (server_ident_keeps f h.ranges (cookie_of f number) number (no_cookie f number h.lossy) (inl h.lossy) few, tt)

    taken_by : (given : Answer) → session.takes given ≡ true →
        ((o : Option Feed) → view (after f (item.judged k identifying number given unread trail) (record s { feed = o })) ≡ moved (takes_on k (cookie_of f number) number (record { ask = identifying; answer = given })) (view (record s { feed = o }))) →
        ((o : Option Feed) → (after f (item.judged k identifying number given unread trail) (record s { feed = o })).sent ≡ s.sent ++ record { socket = k; frame = out.server_ident (cookie_of f number) number } ∷ []) →
        IsMoveOf f theirs (item.judged k identifying number given unread trail) s
    taken_by given taken is sent = record {
      move = takes_on k (cookie_of f number) number (record { ask = identifying; answer = given });
      is = is s.feed;
      may = record { not_opened = not_opened; not_taken = not_taken_yet k s.judgements again; taken = taken };
      posted = refl;
      got = tt;
      composed = subst (AreComposed f) (sym (sent s.feed)) (all_append (λ x. IsComposed f x.frame) s.sent _ h.composed (new_ident, tt));
    }

    accepted_view : (o : Option Feed) → view (after f (item.judged k identifying number answer.Accept unread trail) (record s { feed = o })) ≡ moved (takes_on k (cookie_of f number) number (record { ask = identifying; answer = answer.Accept })) (view (record s { feed = o }))
    accepted_view None = refl
    accepted_view (Some d) = refl

    accepted_sent : (o : Option Feed) → (after f (item.judged k identifying number answer.Accept unread trail) (record s { feed = o })).sent ≡ s.sent ++ record { socket = k; frame = out.server_ident (cookie_of f number) number } ∷ []
    accepted_sent None = refl
    accepted_sent (Some d) = refl

    over_view : (o : Option Feed) → view (after f (item.judged k identifying number answer.AcceptOver unread trail) (record s { feed = o })) ≡ moved (takes_on k (cookie_of f number) number (record { ask = identifying; answer = answer.AcceptOver })) (view (record s { feed = o }))
    over_view None = refl
    over_view (Some d) = refl

    over_sent : (o : Option Feed) → (after f (item.judged k identifying number answer.AcceptOver unread trail) (record s { feed = o })).sent ≡ s.sent ++ record { socket = k; frame = out.server_ident (cookie_of f number) number } ∷ []
    over_sent None = refl
    over_sent (Some d) = refl

    ident_move : (given : Answer) → given ≡ ident_answer s.session ask₀.client ask₀.global → IsMoveOf f theirs (item.judged k identifying number given unread trail) s
    ident_move given e =
        subst (λ a. IsMoveOf f theirs (item.judged k identifying number a unread trail) s) (sym e)
        (by_ident (λ a. IsMoveOf f theirs (item.judged k identifying number a unread trail) s) ask₀.client ask₀.global
        (taken_by answer.Accept refl accepted_view accepted_sent)
        (refused_move k identifying number answer.Close unread trail [] not_opened refl tt tt refl refl)
        (taken_by answer.AcceptOver refl over_view over_sent))

    reconnect_move : (given : Answer) → given ≡ reconnect_answer s.session (asks.reconnect_of reconnecting) s.out.queue.written → ask₀.client ≢ 0 → IsMoveOf f theirs (item.judged k reconnecting number given unread trail) s
    reconnect_move given e some =
        subst (λ a. IsMoveOf f theirs (item.judged k reconnecting number a unread trail) s) (sym e)
        (by_reconnect (λ a. IsMoveOf f theirs (item.judged k reconnecting number a unread trail) s) (asks.reconnect_of reconnecting) s.out.queue.written some
        (refused_move k reconnecting number (answer.Reset s.session.policy.resetcheck) unread trail (out.reset s.session.policy.resetcheck ∷ []) not_opened refl (tt, tt) ((reset_keeps s.session.policy.resetcheck, tt), tt) refl refl))

  judged_move : (k : SocketId) (ask : AskFacts) (number : ℕ) (given : Answer) (unread : List ℕ) (trail : List JudgedItem) → Lawful f (item.judged k ask number given unread trail) s →
      IsMoveOf f theirs (item.judged k ask number given unread trail) s
  judged_move k ask number given unread trail l = at ask.ident refl
    where
      at : (b : Bool) → ask.ident ≡ b → IsMoveOf f theirs (item.judged k ask number given unread trail) s
      at true e =
          let it : ask ≡ record ask { ident = true } = ap (λ t. record ask { ident = t }) e in
          subst (λ q. IsMoveOf f theirs (item.judged k q number given unread trail) s) (sym it)
          (ident_move k ask number unread trail l.not_opened l.asks_again l.unused.to given (l.by_the_tables ∙ ap (λ q. answer_to q s) it))
      at false e =
          let it : ask ≡ record ask { ident = false } = ap (λ t. record ask { ident = t }) e in
          subst (λ q. IsMoveOf f theirs (item.judged k q number given unread trail) s) (sym it)
          (reconnect_move k ask number unread trail l.not_opened l.asks_again l.unused.to given (l.by_the_tables ∙ ap (λ q. answer_to q s) it) (l.readable.reconnect e).0)

  -- ---- an ask is sent

  cookie_now : (number : ℕ) → (if is_kept s.session.client_cookie then s.session.client_cookie else cookie_of f number) < 2 ^ 64
  cookie_now number = rw client (no_cookie f number h.lossy)

  unkept : (p : Phase) (o : Option Spot) → p ≡ phase.Connecting → StandsIn v p o → s.session.server_cookie ≡ 0
  unkept p o e st = at o (subst (λ p. StandsIn v p o) e st)
    where
      at : (o : Option Spot) → StandsIn v phase.Connecting o → s.session.server_cookie ≡ 0
      at (Some p) c = c.cookie
      at None c = absurd c

  asked_move : (ident : Bool) (number : ℕ) → Lawful f (item.asked ident number) s → IsMoveOf f theirs (item.asked ident number) s
  asked_move ident number l = at s.feed refl l
    where
      c : ℕ
      c = if is_kept s.session.client_cookie then s.session.client_cookie else cookie_of f number

      new : number ≤ GREATEST_NUMBER → IsComposed f (out.ident c number)
      new few = (client_ident_keeps f h.ranges c number (cookie_now number) (inl h.lossy) few, tt)

      by_kind : (b : Bool) (d : Feed) → s.feed ≡ Some d → MayAsk s b number d → IsMoveTo f theirs (item.asked b number) s (after f (item.asked b number) s)
      by_kind true d e g =
          let it : record s { feed = Some d } ≡ s = ap (λ o. record s { feed = o }) (sym e) in
          subst (λ z. IsMoveTo f theirs (item.asked true number) z (after f (item.asked true number) z)) it
          (record {
            move = asks_on_feed c number;
            is = refl;
            may = g.phase;
            posted = refl;
            got = tt;
            composed = all_append (λ x. IsComposed f x.frame) s.sent _ h.composed (new g.unused.to, tt);
          })
      by_kind false d e g = from_false_true (g.of_kind ∙ eq-eqb s.session.server_cookie 0 (unkept s.session.phase (spot_of s.feed) g.phase h.side.stands))

      at : (o : Option Feed) → s.feed ≡ o → OnFeedAt o (MayAsk s ident number) → IsMoveTo f theirs (item.asked ident number) s (after f (item.asked ident number) s)
      at None e g = absurd g
      at (Some d) e g = by_kind ident d e g

  -- ---- a message gets its number

  numbered_move : (n : ℕ) → Lawful f (item.numbered n) s → IsMoveOf f theirs (item.numbered n) s
  numbered_move n l = at s.feed refl l
    where
      b : ℕ
      b = s.out.queue.base

      plain_queue : List Content → Queue
      plain_queue ms = record { keeps = false; base = b; written = b; cursor = 0; kept = []; waiting = ms }

      is_plain : s.out.queue ≡ plain_queue s.out.queue.waiting
      is_plain = plain_is s.out.queue h.side.queue

      with : List Content → Feed → State
      with ms d = record s { feed = Some d; out = record s.out { queue = plain_queue ms } }

      same_state : (d : Feed) → s.feed ≡ Some d → with s.out.queue.waiting d ≡ s
      same_state d e = rw (sym e, sym is_plain) refl

      next_is : (q : Queue) (ms : List Content) → q ≡ plain_queue ms → next_number q ≡ Some n → next_number (plain_queue ms) ≡ Some n
      next_is q ms e g = subst (λ q. next_number q ≡ Some n) e g

      first : (m : Content) (ms : List Content) → next_number (plain_queue (m ∷ ms)) ≡ Some n → IsFirst b n m ms
      first m ms e = first_is b n m ms e

      by_waiting : (ms : List Content) (d : Feed) → (phase_is : s.session.phase ≡ phase.Ready) → n ≤ GREATEST_NUMBER → AllByRecursion KeepsFields ms → next_number (plain_queue ms) ≡ Some n →
          IsNumberMove f theirs n (with ms d)
      by_waiting [] d p few fields e = absurd (nothing_next e)
        where
          nothing_next : None ≡ Some n → ⊥
          nothing_next e = cc
      by_waiting (m ∷ ms) d p few fields e =
          let it = first m ms e in
          let t = writes_message f n (Some m) (queues Next (with (m ∷ ms) d)) in
          let now : after f (item.numbered n) (with (m ∷ ms) d) ≡ t = ap (λ o. writes_message f n o (queues Next (with (m ∷ ms) d))) it.message in
          record {
            message = m;
            is = ap view now ∙ view_numbered s d b n m ms f;
            may = record { phase = p; next = it.number; first = refl };
            sent = ap (λ (z : State). z.sent) now;
            composed = (numbered_keeps m fields.0 n s.last (omega (arith, few)) (omega (arith, h.rest.last)), few);
          }

      at : (o : Option Feed) → s.feed ≡ o → OnFeedAt o (lawful.MayNumber s n) → IsMoveTo f theirs (item.numbered n) s (after f (item.numbered n) s)
      at None e g = absurd g
      at (Some d) e g =
          let z = same_state d e in
          let k : IsNumberMove f theirs n s = subst (IsNumberMove f theirs n) z
          (by_waiting s.out.queue.waiting d g.phase g.fits h.rest.queue.waiting (next_is s.out.queue s.out.queue.waiting is_plain g.next)) in
          record {
            move = numbers n k.message;
            is = k.is;
            may = k.may;
            posted = refl;
            got = tt;
            composed = subst (AreComposed f) (sym k.sent) (all_append (λ x. IsComposed f x.frame) s.sent (sent_on (spot_of s.feed) (out.message n s.last k.message)) h.composed (on_feed_sent (spot_of s.feed) (out.message n s.last k.message) k.composed));
          }
        where
          on_feed_sent : (o : Option Spot) (w : OutFrame) → IsComposed f w → AreComposed f (sent_on o w)
          on_feed_sent None w c = tt
          on_feed_sent (Some p) w c = (c, tt)

  -- ---- a message is accepted

  frame_brought : (p : Spot) (place : ℕ) (m : Content) (next : IsNextThere (brings m) place (answers_on p.socket theirs)) → m.header.seq ≡ s.last + 1 → (key : Key) → IsBrought theirs p s.last (keyed key m)
  frame_brought p place m next seq key = at next.frame next.says next.first
    where
      at : (w : OutFrame) → Says (brings m) w → drop place (answers_on p.socket theirs) ≡ w ∷ drop (place + 1) (answers_on p.socket theirs) → IsBrought theirs p s.last (keyed key m)
      at (out.message number acked c) told first =
          let numbered : number ≡ s.last + 1 = sym (ap (λ (x : Content). x.header.seq) told) ∙ seq in
          record {
            place = place;
            acked = acked;
            content = c;
            more = drop (place + 1) (answers_on p.socket theirs);
            first = first ∙ ap (λ n. out.message n acked c ∷ drop (place + 1) (answers_on p.socket theirs)) numbered;
            same = ap unnumbered told;
          }
      at out.greeting told first = elim told [ ]
      at (out.ident c g) told first = elim told [ ]
      at (out.reconnect c t g n z) told first = elim told [ ]
      at (out.server_ident c g) told first = elim told [ ]
      at (out.reconnect_ok n) told first = elim told [ ]
      at (out.reset full) told first = elim told [ ]
      at (out.retry n) told first = elim told [ ]
      at (out.retry_global n) told first = elim told [ ]
      at out.wait told first = elim told [ ]
      at (out.acknowledgement n) told first = elim told [ ]
      at (out.keepalive_answer n) told first = elim told [ ]

  accepted_move : (number : ℕ) (key : Key) → Lawful f (item.accepted number key) s → IsMoveOf f theirs (item.accepted number key) s
  accepted_move number key l = at s.feed refl l h.hears
    where
      brought : (d : Feed) → s.feed ≡ Some d → s.session.phase ≡ phase.Ready → HearsAt (Some d) theirs → (o : Option Said) → next_said s.last d ≡ o → IsNext f s number key o →
          IsMoveTo f theirs (item.accepted number key) (record s { feed = Some d }) (accepts number key o d (record s { feed = Some d }))
      brought d fed p heard (Some (brings m)) e n =
          let z = record s { feed = Some d } in
          record {
            move = accepts_one (keyed key m);
            is = ap₂ n.0 (letter_handed s.deliveries number s.life key m);
            may = record {
              phase = p;
              key = n.2;
              brought = frame_brought (record { socket = d.socket; opened = d.opened }) (next_place s.last d) m
                  (next_of (next_place s.last d) d.got (answers_on d.socket theirs) (brings m) (λ r. r) heard e) (n.1 ∙ n.0) key;
            };
            posted = refl;
            got = tt;
            composed = h.composed;
          }
        where
          ap₂ : {x y : ℕ} {xs ys : List KeyedMessage} → x ≡ y → xs ≡ ys → ◌≡◌ {A = View} (record v { feed = spot_of (Some d); last = x; accepted = xs }) (record v { feed = spot_of (Some d); last = y; accepted = ys })
          ap₂ e g = rw (e, g) refl
      brought d fed p heard (Some (says c)) e n = absurd n
      brought d fed p heard (Some aborts) e n = absurd n
      brought d fed p heard (Some garbles) e n = absurd n
      brought d fed p heard None e n = absurd n

      at : (o : Option Feed) → s.feed ≡ o → OnFeedAt o (lawful.MayAccept f s number key) → HearsAt o theirs → IsMoveTo f theirs (item.accepted number key) s (after f (item.accepted number key) s)
      at None e g heard = absurd g
      at (Some d) e g heard =
          let it : record s { feed = Some d } ≡ s = ap (λ o. record s { feed = o }) (sym e) in
          subst (λ z. IsMoveTo f theirs (item.accepted number key) z (after f (item.accepted number key) z)) it
          (brought d e g.phase heard (next_said s.last d) refl g.next)

  -- ---- the side is marked down

  down_move : (planned : Bool) (step : Option Planned) → IsMoveOf f theirs (item.down planned step) s
  down_move planned step = record {
    move = gives_up;
    is = given_up s.feed ∙ ap (λ l. record (moved gives_up v) { accepted = l }) (thrown_handed s.deliveries);
    may = tt;
    posted = refl;
    got = tt;
    composed = subst (AreComposed f) (sym (same s.feed)) h.composed;
  }
    where
      given_up : (o : Option Feed) → view (after f (item.down planned step) (record s { feed = o })) ≡ record (moved gives_up (view (record s { feed = o }))) { accepted = handed (s.deliveries ++ state.discarded ∷ []) }
      given_up (Some d) = refl
      given_up None = refl

      same : (o : Option Feed) → (after f (item.down planned step) (record s { feed = o })).sent ≡ s.sent
      same (Some d) = refl
      same None = refl

  -- ---- every kind

  pub entry_moves : (i : JournalItem) → Lawful f i s → IsMoveOf f theirs i s
  entry_moves (item.post place planned) l = posts_move place planned l.1
  entry_moves (item.dial planned) l = quietly (item.dial planned) (after f (item.dial planned) s) refl refl refl
  entry_moves (item.opened k) l = opens_move k l
  entry_moves (item.read k bytes) l = read_move k bytes l
  entry_moves (item.wrote k bytes) l = wrote_move k bytes l
  entry_moves (item.closed k broken) l = closed_move k broken
  entry_moves (item.judged k ask number given unread trail) l = judged_move k ask number given unread trail l
  entry_moves (item.asked ident number) l = asked_move ident number l
  entry_moves (item.numbered n) l = numbered_move n l
  entry_moves (item.accepted number key) l = accepted_move number key l
  entry_moves (item.acked number) l = absurd (nothing_acked s.feed l)
    where
      nothing_acked : (o : Option Feed) → OnFeedAt o (MayAcknowledge s number) → ⊥
      nothing_acked None g = g
      nothing_acked (Some d) g = omega (arith, g.above, g.written, h.side.queue.written)
  entry_moves (item.obeyed full) l = absurd (not_obeyed s.feed l)
    where
      not_obeyed : (o : Option Feed) → OnFeedAt o (MayObey s full) → ⊥
      not_obeyed None g = g
      not_obeyed (Some d) g = elim (subst (λ p. StandsIn v p (spot_of s.feed)) g.phase h.side.stands) [ ]
  entry_moves (item.down planned step) l = down_move planned step
