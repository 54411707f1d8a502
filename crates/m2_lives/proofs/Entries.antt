-- Each lawful entry of a lossless side is one of the moves.
use Rattle.std.proofs.Common.{◌≡◌, ℕ, zero, suc, ◌+◌, ◌-◌, ◌<◌, ◌≤◌, ◌⊎◌, inl, inr, max, Bool, true, false, not, ◌&&◌, ◌||◌, ◌==◌, if◌then◌else◌, List, [], ◌∷◌, ◌++◌, length, map, take, drop, Option, Some, None, refl, sym, ap, subst, ◌∙◌, arith}
use Rattle.std.specs.Prelude.{slice_get, nat_lt, nat_le}
use Rattle.std.specs.List.{AllByRecursion, list_any, filter_map, cons_option}
use Rattle.std.specs.Option.{option_to_list}
use Rattle.std.proofs.lemmas.List.{map-append}
use Rattle.std.proofs.lemmas.Bool.{eqb-true, eq-eqb, le-leb}
use Rattle.m2_channel.specs.Channel.{keyed}
use Rattle.m2_journal.specs.Feeds.{answer_said, hears, narrowed, finished, next_place, next_said, opened_feed, texts_at, told, told_by}
use Rattle.m2_journal.specs.Items as item
use Rattle.m2_journal.specs.Items.{JournalItem}
use Rattle.m2_journal.specs.Lawful as lawful
use Rattle.m2_journal.specs.Lawful.{IsNext, Lawful, OnFeedAt, MayAsk, MayAcknowledge, MayObey, IsReset}
use Rattle.m2_journal.specs.Laws.{IfFed, IsOfCalls, SessionIsSound, taken_among}
use Rattle.m2_journal.specs.OutFrames as out
use Rattle.m2_journal.specs.OutFrames.{OutFrame}
use Rattle.m2_journal.specs.Plan.{Planned, to_post, to_dial, to_go_down}
use Rattle.m2_journal.specs.Said.{Said, says, brings, aborts, garbles, said}
use Rattle.m2_journal.specs.SideFacts.{SideFacts, cookie_of}
use Rattle.m2_journal.specs.State as state
use Rattle.m2_journal.specs.State.{PartText, Delivery, Feed, SentFrame, State}
use Rattle.m2_journal.specs.Steps.{accepts, after, breaks, event_at, event_heard, forgets, heeds, is_on, is_waiting, puts_on, queues, takes_answer, tells, with_feed, writes_message}
use Rattle.m2_journal.specs.m2_control.declared.control.Control.TheVariants as control
use Rattle.m2_journal.specs.m2_fabric.declared.socket.SocketId.{SocketId}
use Rattle.m2_journal.specs.m2_fabric.Sockets.{is_among, same_socket}
use Rattle.m2_journal.specs.m2_message.Message.{Content, unnumbered}
use Rattle.m2_journal.specs.m2_message.m2_frame.Reading.{Item}
use Rattle.m2_journal.specs.m2_policy.declared.path.Key.{Key}
use Rattle.m2_journal.specs.m2_queues.QueueLaws.{Next, start_of, history_of, after_call, EachNumberIsAPlace, CallsGoOn}
use Rattle.m2_journal.specs.m2_queues.OutQueues.{Queue, cursor_number, next_number, after_next, after_sent, after_acked, newly_numbered, message_at}
use Rattle.m2_journal.specs.m2_session.declared.event.Event.{Event}
use Rattle.m2_journal.specs.m2_session.declared.event.Event.TheVariants as event
use Rattle.m2_journal.specs.m2_session.declared.session.Phase.{Phase}
use Rattle.m2_journal.specs.m2_session.declared.session.Phase.TheVariants as phase
use Rattle.m2_journal.specs.m2_session.declared.session.Session.{Session}
use Rattle.m2_journal.specs.m2_session.Steps.{step_of}
use Rattle.m2_journal.proofs.m2_lemmas.Booleans.{false_isnt_true, from_false_true, not_true_is_false, one_of_or}
use Rattle.m2_never_reset.specs.Fits.{AreSaid, Fits, HearsAt, IsRefusal, Says}
use Rattle.m2_never_reset.specs.Frames.{answers_on, to_come}
use Rattle.m2_never_reset.specs.Paired.{FeedIsPaired, MayBeWritten, Paired, beside}
use Rattle.m2_never_reset.proofs.Answered.{IsNext as IsNextThere, next_of}
use Rattle.m2_never_reset.proofs.Feeds.{hears_hears, opened_hears}
use Rattle.m2_never_reset.proofs.Obeyed.{it_resets, no_refusal, which}
use Rattle.m2_never_reset.proofs.Read.{by_answer, is_ident, is_ok, is_retry, is_retry_global}
use Rattle.m2_never_reset.proofs.Sockets.{taken_is_judged}
use Rattle.m2_never_reset.proofs.Written.{AreWritten, are_narrowed, found, texts_fit}
use Rattle.m2_lives.specs.Lives.{Has, LifeMessage}
use Rattle.m2_lives.specs.Observed.{handed_in_lives}
use Rattle.m2_lives.proofs.Ledger.{Ledger, IsAcceptance, IsTrueFrame}
use Rattle.m2_lives.proofs.Moves as move
use Rattle.m2_lives.proofs.Moves.{Spot, View, Move, spot_of, view, taken_more as spot_more, moved, OnSpot, IsNextAnswer, NothingComes, WasSent, Acknowledges, IsTold, MayNumber, May, begins}
use Rattle.m2_lives.proofs.Standing.{answer_sent, next_sent}
use Rattle.m2_queues.proofs.Unsent.{base-next}

-- ---- what is shown of an entry

-- whether a step of the session sets numbers back
abbrev pub sets_back_told : Option Event → Session → Bool
sets_back_told (Some e) s = (step_of s e).effects.set_back
sets_back_told None s = false

pub record IsMoveTo (mint : ℕ → ℕ) (y : Ledger) (o : Option Event) (s t : State) : Type 0 where
  pub move : Move
  pub is : view t ≡ moved move (view s)
  pub may : May mint y move (view s)
  pub begins : sets_back_told o s.session ≡ begins move

abbrev pub IsMoveOf : (mint : ℕ → ℕ) → Ledger → SideFacts → JournalItem → State → Type 0
IsMoveOf mint y f i s = IsMoveTo mint y (event_at f i s) s (after f i s)

-- what is known of the side and of the other one
pub record IsSide (f : SideFacts) (s b : State) (theirs : ℕ → ℕ) (y : Ledger) : Type 0 where
  pub keeps : f.policy.lossy ≡ false
  pub sound : SessionIsSound f s.session
  pub calls : IsOfCalls (not f.policy.lossy) s.out
  pub paired : Paired s b
  pub fits : Fits s b
  -- the other's ledger
  pub sent : y.sent ≡ b.sent
  pub taken : y.taken ≡ taken_among b.judgements
  pub frames : AllByRecursion (λ (w : SentFrame). IsTrueFrame theirs y w.socket w.frame) y.sent

-- ---- words

spot_is : (d e : Feed) → e.socket ≡ d.socket → e.opened ≡ d.opened → e.taken ≡ d.taken → e.resumed ≡ d.resumed → spot_of (Some e) ≡ spot_of (Some d)
spot_is d e a b c r = rw (a, b, c, r) refl

pub thrown_handed : (ds : List Delivery) → handed_in_lives (ds ++ state.discarded ∷ []) ≡ handed_in_lives ds
thrown_handed [] = refl
thrown_handed (state.letter n life key m ∷ ds) = ap (λ l. record { life = life; message = keyed key m } ∷ l) (thrown_handed ds)
thrown_handed (state.discarded ∷ ds) = thrown_handed ds
thrown_handed (state.remote_reset ∷ ds) = thrown_handed ds

pub told_handed : (ds : List Delivery) → handed_in_lives (ds ++ state.remote_reset ∷ []) ≡ handed_in_lives ds
told_handed [] = refl
told_handed (state.letter n life key m ∷ ds) = ap (λ l. record { life = life; message = keyed key m } ∷ l) (told_handed ds)
told_handed (state.discarded ∷ ds) = told_handed ds
told_handed (state.remote_reset ∷ ds) = told_handed ds

letter_handed : (ds : List Delivery) (n life : ℕ) (key : Key) (m : Content) → handed_in_lives (ds ++ state.letter n life key m ∷ []) ≡ handed_in_lives ds ++ record { life = life; message = keyed key m } ∷ []
letter_handed [] n life key m = refl
letter_handed (state.letter a u b c ∷ ds) n life key m = ap (λ l. record { life = u; message = keyed b c } ∷ l) (letter_handed ds n life key m)
letter_handed (state.discarded ∷ ds) n life key m = letter_handed ds n life key m
letter_handed (state.remote_reset ∷ ds) n life key m = letter_handed ds n life key m

pub with_handed : (v : View) (xs ys : List LifeMessage) (ks ls : List SocketId) → xs ≡ ys → ks ≡ ls → ◌≡◌ {A = View} (record v { accepted = xs; taken = ks }) (record v { accepted = ys; taken = ls })
with_handed v xs ys ks ls e g = rw (e, g) refl

-- ---- the queue

pub next_keeps : (q : Queue) → (after_next q).keeps ≡ q.keeps
next_keeps q = by_room (nat_lt q.cursor (length q.kept))
  where
    by_room : (t : Bool) → (if t then q else record q { kept = q.kept ++ take 1 q.waiting; waiting = drop 1 q.waiting }).keeps ≡ q.keeps
    by_room true = refl
    by_room false = refl

pub past_base : (q : Queue) → q.keeps ≡ true → (if nat_lt q.cursor (length q.kept) then after_sent q else q).base ≡ q.base
past_base q k = by_place (nat_lt q.cursor (length q.kept))
  where
    sent_base : (after_sent q).base ≡ q.base
    sent_base = rw k refl

    by_place : (t : Bool) → (if t then after_sent q else q).base ≡ q.base
    by_place true = sent_base
    by_place false = refl

pub acked_base : (q : Queue) (n : ℕ) → n ≤ q.written → (if nat_le n q.written then after_acked q n else q).base ≡ max q.base n
acked_base q n h = at (nat_le n q.written) (le-leb n q.written h)
  where
    at : (b : Bool) → b ≡ true → (if b then after_acked q n else q).base ≡ max q.base n
    at true e = refl
    at false e = from_false_true e

-- ---- each kind

module _ (mint theirs : ℕ → ℕ) (f : SideFacts) (s b : State) (y : Ledger) (h : IsSide f s b theirs y) where
  abbrev v : View
  v = view s

  policy : s.session.policy.lossy ≡ false
  policy = ap (λ p. p.lossy) h.sound.policy ∙ h.keeps

  -- nothing that matters
  pub quietly : (o : Option Event) (t : State) → view t ≡ v → sets_back_told o s.session ≡ false → IsMoveTo mint y o s t
  quietly o t e n = record { move = move.rests; is = e; may = tt; begins = n }

  pub posts_move : (place : ℕ) (planned : Option Planned) → IsMoveOf mint y f (item.post place planned) s
  posts_move place (Some (to_post m)) = quietly None _ refl refl
  posts_move place (Some to_dial) = quietly None _ refl refl
  posts_move place (Some to_go_down) = quietly None _ refl refl
  posts_move place None = quietly None _ refl refl

  pub opens_move : (k : SocketId) → Lawful f (item.opened k) s → IsMoveOf mint y f (item.opened k) s
  opens_move k l =
      let heard = opened_hears f k s.last s.owes in
      let opened : spot_of (Some (opened_feed f k s.last s.owes)) ≡ Some (record { socket = k; opened = true; taken = 0; resumed = None }) = rw (heard.socket, heard.opened, heard.taken, heard.resumed) refl in
      record {
        move = move.opens k;
        is = ap (λ (q : Option Spot). record (moved (move.opens k) v) { feed = q }) opened;
        may = (l.not_opened, not_true_is_false (is_among k (taken_among s.judgements)) (λ t. false_isnt_true (sym l.not_judged ∙ taken_is_judged s.judgements k t)));
        begins = refl;
      }

  -- ---- bytes are read

  module _ (d : Feed) (bytes : List ℕ) where
    abbrev d' : Feed
    d' = hears bytes d

    abbrev fed_state : State
    fed_state = record s { feed = Some d }

    spot_heard : spot_of (Some d') ≡ spot_of (Some d)
    spot_heard = let hd = hears_hears bytes d in spot_is d d' hd.socket hd.opened hd.taken hd.resumed

    abbrev IsRead : Phase → Option Said → Option Event → Type 0
    IsRead p o e = answer_said d' ≡ o → s.session.phase ≡ p → HearsAt (heeds e d' fed_state).feed b.sent → IsMoveTo mint y e fed_state (heeds e d' fed_state)

    -- the next answer is what says it
    next_is : (x : Said) (w : OutFrame) → ((z : OutFrame) → Says x z → z ≡ w) → IsNextThere x d'.taken (answers_on d'.socket b.sent) → OnSpot (spot_of (Some d)) (IsNextAnswer y.sent w)
    next_is x w only n =
        subst (λ o. OnSpot o (IsNextAnswer y.sent w)) spot_heard
        (subst (λ l. IsNextAnswer l w (record { socket = d'.socket; opened = d'.opened; taken = d'.taken; resumed = d'.resumed })) (sym h.sent)
        (drop (d'.taken + 1) (answers_on d'.socket b.sent), n.first ∙ ap (λ z. z ∷ drop (d'.taken + 1) (answers_on d'.socket b.sent)) (only n.frame n.says)))

    after_spot : (u : View) → ◌≡◌ {A = View} (record u { feed = spot_more (spot_of (Some d')) }) (record u { feed = spot_more (spot_of (Some d)) })
    after_spot u = ap (λ o. record u { feed = spot_more o }) spot_heard

    plain_next : (w : OutFrame) → IsNextAnswer y.sent w (record { socket = d.socket; opened = d.opened; taken = d.taken; resumed = d.resumed }) → (IsAcceptance w → ⊥) →
        OnSpot (spot_of (Some d)) (λ p. (z : OutFrame) × IsNextAnswer y.sent z p × (IsAcceptance z → ⊥))
    plain_next w n none = (w, n, none)

    reads_move : HearsAt (heeds (event_heard f s.session.phase d') d' fed_state).feed b.sent → IsMoveTo mint y (event_heard f s.session.phase d') fed_state (heeds (event_heard f s.session.phase d') d' fed_state)
    reads_move heard =
        by_answer f IsRead
        (λ i q p a.
        let kept = map unnumbered (drop s.out.queue.base s.out.numbered) in
        record {
          move = move.settles i.cookie i.global kept;
          is = after_spot (moved (move.settles i.cookie i.global kept) (view fed_state));
          may = (p, next_is (says (control.ServerIdent i)) (out.server_ident i.cookie i.global) (is_ident i) (next_of d'.taken d'.got (answers_on d'.socket b.sent) (says (control.ServerIdent i)) (λ r. r) a q));
          begins = refl;
        })
        (λ w q p a. record { move = move.leaves phase.Wait; is = refl; may = tt; begins = refl })
        (λ k q p a. record {
          move = move.goes_on k.seen;
          is = after_spot (moved (move.goes_on k.seen) (view fed_state));
          may = (p, next_is (says (control.SessionReconnectOk k)) (out.reconnect_ok k.seen) (is_ok k) (next_of d'.taken d'.got (answers_on d'.socket b.sent) (says (control.SessionReconnectOk k)) (λ r. r) a q));
          begins = refl;
        })
        (λ r q p a. record {
          move = move.asks_again;
          is = after_spot (moved move.asks_again (view fed_state));
          may = (p, plain_next (out.retry r.connect) (next_is (says (control.SessionRetry r)) (out.retry r.connect) (is_retry r) (next_of d'.taken d'.got (answers_on d'.socket b.sent) (says (control.SessionRetry r)) (λ r. r) a q)) (λ x. x));
          begins = refl;
        })
        (λ r q p a. record {
          move = move.asks_again;
          is = after_spot (moved move.asks_again (view fed_state));
          may = (p, plain_next (out.retry_global r.global) (next_is (says (control.SessionRetryGlobal r)) (out.retry_global r.global) (is_retry_global r) (next_of d'.taken d'.got (answers_on d'.socket b.sent) (says (control.SessionRetryGlobal r)) (λ r. r) a q)) (λ x. x));
          begins = refl;
        })
        (λ w q p a. record { move = move.leaves phase.Wait; is = refl; may = tt; begins = refl })
        (λ p o q r a. record { move = move.rests; is = ap (λ (q : Option Spot). record (view fed_state) { feed = q }) spot_heard; may = tt; begins = refl })
        s.session.phase (answer_said d') refl refl heard

  pub read_move : (k : SocketId) (bytes : List ℕ) → Lawful f (item.read k bytes) s → HearsAt (after f (item.read k bytes) s).feed b.sent → IsMoveOf mint y f (item.read k bytes) s
  read_move k bytes l heard = at s.feed refl l.0 heard
    where
      at : (o : Option Feed) → s.feed ≡ o → OnFeedAt o (λ d. same_socket k d.socket ≡ true) → HearsAt (after f (item.read k bytes) s).feed b.sent → IsMoveOf mint y f (item.read k bytes) s
      at None e g a = absurd g
      at (Some d) e g a =
          let it : record s { feed = Some d } ≡ s = ap (λ o. record s { feed = o }) (sym e) in
          subst (λ z. IsMoveOf mint y f (item.read k bytes) z) it (reads_move d bytes (subst (λ z. HearsAt (after f (item.read k bytes) z).feed b.sent) (sym it) a))

  -- ---- bytes are put

  pub wrote_move : (k : SocketId) (bytes : List ℕ) → Lawful f (item.wrote k bytes) s → IsMoveOf mint y f (item.wrote k bytes) s
  wrote_move k bytes l = at s.feed refl l.0 h.paired.near.feed
    where
      whole : (d : Feed) (w : OutFrame) (left : List ℕ) (texts : List PartText) → MayBeWritten s.session.phase s.last w → IsMoveTo mint y None (record s { feed = Some d }) (puts_on (Some (record { frame = w; left = left })) texts d (record s { feed = Some d }))
      whole d (out.acknowledgement n) left texts m = record { move = move.acknowledges n; is = refl; may = m; begins = refl }
      whole d (out.keepalive_answer a) left texts m = record { move = move.answers a; is = refl; may = m; begins = refl }
      whole d out.greeting left texts m = record { move = move.rests; is = refl; may = tt; begins = refl }
      whole d (out.ident c g) left texts m = record { move = move.rests; is = refl; may = tt; begins = refl }
      whole d (out.reconnect c t g n z) left texts m = record { move = move.rests; is = refl; may = tt; begins = refl }
      whole d (out.server_ident c g) left texts m = record { move = move.rests; is = refl; may = tt; begins = refl }
      whole d (out.reconnect_ok n) left texts m = record { move = move.rests; is = refl; may = tt; begins = refl }
      whole d (out.reset full) left texts m = record { move = move.rests; is = refl; may = tt; begins = refl }
      whole d (out.retry n) left texts m = record { move = move.rests; is = refl; may = tt; begins = refl }
      whole d (out.retry_global n) left texts m = record { move = move.rests; is = refl; may = tt; begins = refl }
      whole d out.wait left texts m = record { move = move.rests; is = refl; may = tt; begins = refl }
      whole d (out.message n c z) left texts m = record { move = move.rests; is = refl; may = tt; begins = refl }

      put : (d : Feed) (texts : List PartText) → AreWritten s.session.phase s.last texts → (o : Option PartText) → finished texts ≡ o → IsMoveTo mint y None (record s { feed = Some d }) (puts_on o texts d (record s { feed = Some d }))
      put d texts w None e = record { move = move.rests; is = refl; may = tt; begins = refl }
      put d texts w (Some t) e = whole d t.frame t.left texts (found s.session.phase s.last texts t w e)

      at : (o : Option Feed) → s.feed ≡ o → OnFeedAt o (λ d. same_socket k d.socket ≡ true) → IfFed o (FeedIsPaired (beside s b)) → IsMoveOf mint y f (item.wrote k bytes) s
      at None e g p = absurd g
      at (Some d) e g p =
          let it : record s { feed = Some d } ≡ s = ap (λ o. record s { feed = o }) (sym e) in
          let z = record s { feed = Some d } in
          let texts = narrowed bytes (texts_at f z d) in
          subst (λ z. IsMoveOf mint y f (item.wrote k bytes) z) it
          (put d texts (are_narrowed s.session.phase s.last bytes (texts_at f z d) (texts_fit f z d p.texts)) (finished texts) refl)

  -- ---- a feed is closed

  pub closed_move : (k : SocketId) (broken : Bool) → IsMoveOf mint y f (item.closed k broken) s
  closed_move k broken = at (is_on k s.feed)
    where
      w : Bool
      w = is_waiting s

      left : (o : Option Feed) (x z : Bool) → s.session.policy.server ≡ x → (s.session.policy.standby && not (is_waiting (record s { feed = o }))) ≡ z →
          view (breaks (record s { feed = o })) ≡ record (view (record s { feed = o })) { phase = (breaks (record s { feed = o })).session.phase; feed = None }
      left (Some d) true z e g = rw (policy, e) refl
      left None true z e g = rw (policy, e) refl
      left (Some d) false true e g = rw (policy, e, g) refl
      left None false true e g = rw (policy, e, g) refl
      left (Some d) false false e g = rw (policy, e, g) refl
      left None false false e g = rw (policy, e, g) refl

      no_back : (x z : Bool) → s.session.policy.server ≡ x → (s.session.policy.standby && not w) ≡ z → (step_of s.session (event.Faulted w)).effects.set_back ≡ false
      no_back true z e g = rw (policy, e) refl
      no_back false true e g = rw (policy, e, g) refl
      no_back false false e g = rw (policy, e, g) refl

      at : (t : Bool) → IsMoveTo mint y (if t then Some (event.Faulted (is_waiting s)) else None) s (if t then breaks s else forgets k s)
      at true = record {
        move = move.leaves (breaks s).session.phase;
        is = left s.feed s.session.policy.server (s.session.policy.standby && not w) refl refl;
        may = tt;
        begins = no_back s.session.policy.server (s.session.policy.standby && not w) refl refl;
      }
      at false = record { move = move.rests; is = refl; may = tt; begins = refl }

  -- ---- the side is marked down

  pub down_move : (planned : Bool) (step : Option Planned) → IsMoveOf mint y f (item.down planned step) s
  down_move planned step = record {
    move = move.goes_down;
    is = down s.feed ∙ ap (λ l. record (moved move.goes_down v) { accepted = l }) (thrown_handed s.deliveries);
    may = tt;
    begins = refl;
  }
    where
      down : (o : Option Feed) → view (after f (item.down planned step) (record s { feed = o })) ≡ record (moved move.goes_down (view (record s { feed = o }))) { accepted = handed_in_lives (s.deliveries ++ state.discarded ∷ []) }
      down (Some d) = refl
      down None = refl

  -- ---- an ask is sent

  -- in Connecting nothing is to come
  nothing_comes : (d : Feed) → FeedIsPaired (beside s b) d → s.session.phase ≡ phase.Connecting → NothingComes y.sent (record { socket = d.socket; opened = d.opened; taken = d.taken; resumed = d.resumed })
  nothing_comes d p e = subst (λ l. drop d.taken (answers_on d.socket l) ≡ []) (sym h.sent) (subst (λ q. move.NothingIn q (to_come d b.sent)) e (move.nothing_in s.session.phase (to_come d b.sent) p.coming))

  pub asked_move : (ident : Bool) (number : ℕ) → Lawful f (item.asked ident number) s → IsMoveOf mint y f (item.asked ident number) s
  asked_move ident number l = at s.feed refl l h.paired.near.feed
    where
      by_kind : (t : Bool) (d : Feed) → s.feed ≡ Some d → MayAsk s t number d → FeedIsPaired (beside s b) d → IsMoveOf mint y f (item.asked t number) s
      by_kind true d e g p =
          let it : record s { feed = Some d } ≡ s = ap (λ o. record s { feed = o }) (sym e) in
          let c = (step_of s.session (event.AskedIdent (cookie_of f number))).session.client_cookie in
          subst (λ z. IsMoveOf mint y f (item.asked true number) z) it
          (record { move = move.asks_ident c number; is = refl; may = record { phase = g.phase; drawn = g.unused.from; nothing = nothing_comes d p g.phase }; begins = refl })
      by_kind false d e g p =
          let it : record s { feed = Some d } ≡ s = ap (λ o. record s { feed = o }) (sym e) in
          subst (λ z. IsMoveOf mint y f (item.asked false number) z) it
          (record {
            move = move.asks_reconnect s.session.client_cookie number s.session.connect;
            is = refl;
            may = (record { phase = g.phase; drawn = g.unused.from; nothing = nothing_comes d p g.phase }, λ z. from_false_true (g.of_kind ∙ eq-eqb s.session.server_cookie 0 z));
            begins = refl;
          })

      at : (o : Option Feed) → s.feed ≡ o → OnFeedAt o (MayAsk s ident number) → IfFed o (FeedIsPaired (beside s b)) → IsMoveOf mint y f (item.asked ident number) s
      at None e g p = absurd g
      at (Some d) e g p = by_kind ident d e g p

  -- ---- a message gets its number

  number_at : (q : Queue) (n : ℕ) → next_number q ≡ Some n → q.base + q.cursor + 1 ≡ n
  number_at q n e = by_room (nat_lt q.cursor (length q.kept) || nat_lt 0 (length q.waiting)) e
    where
      inside : Option ℕ → ℕ
      inside (Some m) = m
      inside None = 0

      none_isnt : None ≡ Some n → ⊥
      none_isnt g = cc

      by_room : (t : Bool) → (if t then Some (cursor_number q) else None) ≡ Some n → q.base + q.cursor + 1 ≡ n
      by_room true g = ap inside g
      by_room false g = absurd (none_isnt g)

  get-map : (xs : List Content) (k : ℕ) (x : Content) → slice_get xs k ≡ Some x → slice_get (map unnumbered xs) k ≡ Some (unnumbered x)
  get-map [] k x e = absurd (none_isnt e)
    where
      none_isnt : None ≡ Some x → ⊥
      none_isnt g = cc
  get-map (z ∷ xs) zero x e = ap plain e
    where
      plain : Option Content → Option Content
      plain (Some c) = Some (unnumbered c)
      plain None = None
  get-map (z ∷ xs) (suc k) x e = get-map xs k x e

  module _ (places : EachNumberIsAPlace) (go_on : CallsGoOn) where
    its_place : (n : ℕ) (m : Content) → next_number s.out.queue ≡ Some n → message_at (after_next s.out.queue) n ≡ Some m →
        slice_get (map unnumbered s.out.numbered ++ map unnumbered (newly_numbered s.out.queue)) (n - 1) ≡ Some (unnumbered m)
    its_place n m next e =
        let at = number_at s.out.queue n next in
        let base = base-next s.out.queue in
        let leads : after_call s.out Next ≡ history_of (not f.policy.lossy) (h.calls.0 ++ Next ∷ []) =
        ap (λ x. after_call x Next) h.calls.1 ∙ sym (go_on (start_of (not f.policy.lossy)) h.calls.0 (Next ∷ [])) in
        let place = subst (λ k. k.queue.base < n → message_at k.queue n ≡ slice_get k.numbered (n - 1)) (sym leads) (places (not f.policy.lossy) (h.calls.0 ++ Next ∷ []) n) (omega (arith, at, base)) in
        ap (λ l. slice_get l (n - 1)) (sym (map-append unnumbered s.out.numbered (newly_numbered s.out.queue))) ∙ get-map (s.out.numbered ++ newly_numbered s.out.queue) (n - 1) m (sym place ∙ e)

    with_numbers : (u : View) (m n : ℕ) (xs ys : List Content) → m ≡ n → xs ≡ ys → ◌≡◌ {A = View} (record u { base = m; numbered = xs }) (record u { base = n; numbered = ys })
    with_numbers u m n xs ys e g = rw (e, g) refl

    pub numbered_move : s.out.queue.keeps ≡ true → (n : ℕ) → Lawful f (item.numbered n) s → IsMoveOf mint y f (item.numbered n) s
    numbered_move keeps n l = at s.feed refl l
      where
        more : List Content
        more = map unnumbered (newly_numbered s.out.queue)

        all_numbered : map unnumbered (s.out.numbered ++ newly_numbered s.out.queue) ≡ map unnumbered s.out.numbered ++ more
        all_numbered = map-append unnumbered s.out.numbered (newly_numbered s.out.queue)

        by_message : (d : Feed) → lawful.MayNumber s n d → (o : Option Content) → message_at (after_next s.out.queue) n ≡ o →
            IsMoveTo mint y None (record s { feed = Some d }) (writes_message f n o (queues Next (record s { feed = Some d })))
        by_message d g None e = record {
          move = move.orders more;
          is = with_numbers (record v { feed = spot_of (Some d) }) _ _ _ _ (base-next s.out.queue) all_numbered;
          may = tt;
          begins = refl;
        }
        by_message d g (Some m) e = record {
          move = move.numbers more n m;
          is = with_numbers (record (view (record s { feed = Some d })) { sent = s.sent ++ record { socket = d.socket; frame = out.message n s.last m } ∷ [] }) _ _ _ _
              (past_base (after_next s.out.queue) (next_keeps s.out.queue ∙ keeps) ∙ base-next s.out.queue) all_numbered;
          may = record { phase = g.phase; from = (let p = number_at s.out.queue n g.next in omega (arith, p)); is = its_place n m g.next e };
          begins = refl;
        }

        at : (o : Option Feed) → s.feed ≡ o → OnFeedAt o (lawful.MayNumber s n) → IsMoveOf mint y f (item.numbered n) s
        at None e g = absurd g
        at (Some d) e g =
            let it : record s { feed = Some d } ≡ s = ap (λ o. record s { feed = o }) (sym e) in
            subst (λ z. IsMoveTo mint y None z (after f (item.numbered n) z)) it (by_message d g (message_at (after_next s.out.queue) n) refl)

  -- ---- a message is accepted

  brought_frame : (d : Feed) (m : Content) → IsNextThere (brings m) (next_place s.last d) (answers_on d.socket b.sent) → m.header.seq ≡ s.last + 1 →
      (c : Content) × (unnumbered m ≡ unnumbered c) × ((acked : ℕ) × WasSent y.sent (out.message (s.last + 1) acked c) (record { socket = d.socket; opened = d.opened; taken = d.taken; resumed = d.resumed }))
  brought_frame d m n seq = at n.frame n.says n.first
    where
      rest : List OutFrame
      rest = drop (next_place s.last d + 1) (answers_on d.socket b.sent)

      at : (w : OutFrame) → Says (brings m) w → drop (next_place s.last d) (answers_on d.socket b.sent) ≡ w ∷ rest →
          (c : Content) × (unnumbered m ≡ unnumbered c) × ((acked : ℕ) × WasSent y.sent (out.message (s.last + 1) acked c) (record { socket = d.socket; opened = d.opened; taken = d.taken; resumed = d.resumed }))
      at (out.message number acked c) says_so first =
          let numbered : number ≡ s.last + 1 = sym (ap (λ (x : Content). x.header.seq) says_so) ∙ seq in (
            c,
            ap unnumbered says_so,
            (
              acked,
              subst (λ l. WasSent l (out.message (s.last + 1) acked c) (record { socket = d.socket; opened = d.opened; taken = d.taken; resumed = d.resumed })) (sym h.sent)
                  (next_sent b.sent (out.message (s.last + 1) acked c) (record { socket = d.socket; opened = d.opened; taken = next_place s.last d; resumed = d.resumed })
                  (rest, first ∙ ap (λ k. out.message k acked c ∷ rest) numbered)),
            ),
          )
      at out.greeting told first = elim told [ ]
      at (out.ident c g) told first = elim told [ ]
      at (out.reconnect c t g n z) told first = elim told [ ]
      at (out.server_ident c g) told first = elim told [ ]
      at (out.reconnect_ok n) told first = elim told [ ]
      at (out.reset full) told first = elim told [ ]
      at (out.retry n) told first = elim told [ ]
      at (out.retry_global n) told first = elim told [ ]
      at out.wait told first = elim told [ ]
      at (out.acknowledgement n) told first = elim told [ ]
      at (out.keepalive_answer n) told first = elim told [ ]

  pub accepted_move : (number : ℕ) (key : Key) → Lawful f (item.accepted number key) s → IsMoveOf mint y f (item.accepted number key) s
  accepted_move number key l = at s.feed refl l h.fits.near_hears
    where
      more_taken : (u : View) (m n : ℕ) (xs ys : List LifeMessage) (o p : Option Spot) → m ≡ n → xs ≡ ys → o ≡ p → ◌≡◌ {A = View} (record u { last = m; accepted = xs; feed = o }) (record u { last = n; accepted = ys; feed = p })
      more_taken u m n xs ys o p e g q = rw (e, g, q) refl

      brought : (d : Feed) → s.feed ≡ Some d → s.session.phase ≡ phase.Ready → HearsAt (Some d) b.sent → (o : Option Said) → next_said s.last d ≡ o → IsNext f s number key o →
          IsMoveTo mint y None (record s { feed = Some d }) (accepts number key o d (record s { feed = Some d }))
      brought d fed p heard (Some (brings m)) e n =
          let it = brought_frame d m (next_of (next_place s.last d) d.got (answers_on d.socket b.sent) (brings m) (λ r. r) heard e) (n.1 ∙ n.0) in
          record {
            move = move.accepts key it.0 (next_place s.last d + 1);
            is = more_taken (record v { feed = spot_of (Some d) }) number (s.last + 1) _ _ _ _ n.0
                (letter_handed s.deliveries number s.life key m ∙ ap (λ c. handed_in_lives s.deliveries ++ record { life = s.life; message = record { key = key; message = c } } ∷ []) it.1) refl;
            may = (p, it.2);
            begins = refl;
          }
      brought d fed p heard (Some (says c)) e n = absurd n
      brought d fed p heard (Some aborts) e n = absurd n
      brought d fed p heard (Some garbles) e n = absurd n
      brought d fed p heard None e n = absurd n

      at : (o : Option Feed) → s.feed ≡ o → OnFeedAt o (lawful.MayAccept f s number key) → HearsAt o b.sent → IsMoveOf mint y f (item.accepted number key) s
      at None e g heard = absurd g
      at (Some d) e g heard =
          let it : record s { feed = Some d } ≡ s = ap (λ o. record s { feed = o }) (sym e) in
          subst (λ z. IsMoveTo mint y None z (after f (item.accepted number key) z)) it (brought d e g.phase heard (next_said s.last d) refl g.next)

  -- ---- what is acknowledged

  some_same : {i j : ℕ} → Some i ≡ Some j → i ≡ j
  some_same {i} {j} z = ap (λ (o : Option ℕ). inside o) z
    where
      inside : Option ℕ → ℕ
      inside (Some k) = k
      inside None = 0

  none_told : {X : Type 0} (n : ℕ) → None ≡ Some n → X
  none_told n e = absurd (apart e)
    where
      apart : None ≡ Some n → ⊥
      apart e = cc

  acks_of : (n : ℕ) (x : Said) (w : OutFrame) → Says x w → told_by x ≡ Some n → Acknowledges n w
  acks_of n (brings m) (out.message number acked c) q e = sym (ap (λ (x : Content). x.header.ack_seq) q) ∙ some_same e
  acks_of n (says (control.Ack p)) (out.acknowledgement number) q e = sym q ∙ some_same e
  acks_of n (says (control.SessionReconnectOk p)) (out.reconnect_ok seen) q e = sym q ∙ some_same e
  acks_of n (says (control.KeepaliveAck p)) (out.keepalive_answer k) q e = none_told n e
  acks_of n (says (control.ServerIdent i)) (out.server_ident c g) q e = none_told n e
  acks_of n (says (control.SessionReset p)) (out.reset full) q e = none_told n e
  acks_of n (says (control.SessionRetry p)) (out.retry k) q e = none_told n e
  acks_of n (says (control.SessionRetryGlobal p)) (out.retry_global g) q e = none_told n e
  acks_of n (says (control.Wait p)) out.wait q e = none_told n e
  acks_of n garbles (out.retry k) q e = none_told n e
  acks_of n x w q e = elim q [ ]

  refusal_untold : (x : Said) → IsRefusal x → told_by x ≡ None
  refusal_untold (says (control.IdentMissingFeatures p)) r = refl
  refusal_untold x r = elim r [ ]

  -- what was got that acknowledges was sent
  got_acks : (n : ℕ) (is : List Item) (ws : List OutFrame) → AreSaid is ws → Has (λ (i : Item). told_by (said i) ≡ Some n) is → Has (Acknowledges n) ws
  got_acks n [] ws a t = absurd t
  got_acks n (i ∷ is) [] a (inl e) = none_told n (sym (refusal_untold (said i) a.0) ∙ e)
  got_acks n (i ∷ is) [] a (inr t) = absurd (subst (Has (λ (j : Item). told_by (said j) ≡ Some n)) a.1 t)
  got_acks n (i ∷ is) (w ∷ ws) a (inl e) = inl (acks_of n (said i) w a.0 e)
  got_acks n (i ∷ is) (w ∷ ws) a (inr t) = inr (got_acks n is ws a.1 t)

  which_told : (n : ℕ) (is : List Item) → list_any (λ m. m == n) (filter_map (λ i. told_by (said i)) is) ≡ true → Has (λ (i : Item). told_by (said i) ≡ Some n) is
  which_told n [] e = from_false_true e
  which_told n (i ∷ is) e = at (told_by (said i)) refl (which_told n is) e
    where
      at : (o : Option ℕ) → told_by (said i) ≡ o → (list_any (λ m. m == n) (filter_map (λ j. told_by (said j)) is) ≡ true → Has (λ (j : Item). told_by (said j) ≡ Some n) is) →
          list_any (λ m. m == n) (cons_option o (filter_map (λ j. told_by (said j)) is)) ≡ true → Has (λ (j : Item). told_by (said j) ≡ Some n) (i ∷ is)
      at None q later g = inr (later g)
      at (Some m) q later g = by (one_of_or (m == n) (list_any (λ k. k == n) (filter_map (λ j. told_by (said j)) is)) g)
        where
          by : ((m == n) ≡ true) ⊎ (list_any (λ k. k == n) (filter_map (λ j. told_by (said j)) is) ≡ true) → Has (λ (j : Item). told_by (said j) ≡ Some n) (i ∷ is)
          by (inl z) = inl (q ∙ ap Some (eqb-true m n z))
          by (inr z) = inr (later z)

  told_or : (n : ℕ) (o : Option ℕ) (ns : List ℕ) → list_any (λ m. m == n) (option_to_list o ++ ns) ≡ true → (o ≡ Some n) ⊎ (list_any (λ m. m == n) ns ≡ true)
  told_or n None ns e = inr e
  told_or n (Some m) ns e = at (one_of_or (m == n) (list_any (λ k. k == n) ns) e)
    where
      at : ((m == n) ≡ true) ⊎ (list_any (λ k. k == n) ns ≡ true) → (Some m ≡ Some n) ⊎ (list_any (λ k. k == n) ns ≡ true)
      at (inl z) = inl (ap Some (eqb-true m n z))
      at (inr z) = inr z

  one_sent : (n : ℕ) (k : SocketId) (xs : List SentFrame) → Has (λ (x : SentFrame). (x.socket ≡ k) × Acknowledges n x.frame) xs → (w : OutFrame) × Has (λ (x : SentFrame). (x.socket ≡ k) × (x.frame ≡ w)) xs × Acknowledges n w
  one_sent n k [] t = absurd t
  one_sent n k (x ∷ xs) (inl p) = (x.frame, inl (p.0, refl), p.1)
  one_sent n k (x ∷ xs) (inr t) = let it = one_sent n k xs t in (it.0, inr it.1, it.2)

  is_told : (n : ℕ) (d : Feed) → HearsAt (Some d) b.sent → MayAcknowledge s n d → IsTold y.sent n (record { socket = d.socket; opened = d.opened; taken = d.taken; resumed = d.resumed })
  is_told n d heard g = by (told_or n d.resumed (filter_map (λ i. told_by (said i)) d.got) g.told)
    where
      by : (d.resumed ≡ Some n) ⊎ (list_any (λ m. m == n) (filter_map (λ i. told_by (said i)) d.got) ≡ true) → IsTold y.sent n (record { socket = d.socket; opened = d.opened; taken = d.taken; resumed = d.resumed })
      by (inl e) = inr e
      by (inr e) =
          let it = one_sent n d.socket b.sent (answer_sent d.socket b.sent (Acknowledges n) (got_acks n d.got (answers_on d.socket b.sent) heard (which_told n d.got e))) in
          inl (it.0, subst (Has (λ (x : SentFrame). (x.socket ≡ d.socket) × (x.frame ≡ it.0))) (sym h.sent) it.1, it.2)

  -- an acknowledgement that is counted was told on the feed
  pub acked_may : (n : ℕ) → Lawful f (item.acked n) s → May mint y (move.counts n) v × (n ≤ s.out.queue.written)
  acked_may n l = at s.feed refl l h.fits.near_hears
    where
      at : (o : Option Feed) → s.feed ≡ o → OnFeedAt o (MayAcknowledge s n) → HearsAt o b.sent → May mint y (move.counts n) v × (n ≤ s.out.queue.written)
      at None e g heard = absurd g
      at (Some d) e g heard = ((g.phase, subst (λ o. OnSpot (spot_of o) (IsTold y.sent n)) (sym e) (is_told n d heard g)), g.written)

  pub acked_move : (n : ℕ) → Lawful f (item.acked n) s → IsMoveOf mint y f (item.acked n) s
  acked_move n l =
      let it = acked_may n l in
      record { move = move.counts n; is = ap (λ m. record v { base = m }) (acked_base s.out.queue n it.1); may = it.0; begins = refl }

  -- ---- a reset is obeyed

  pub obeyed_move : (full : Bool) → Lawful f (item.obeyed full) s → IsMoveOf mint y f (item.obeyed full) s
  obeyed_move full l = at s.feed refl l h.fits.near_hears
    where
      next : (d : Feed) → HearsAt (Some d) b.sent → (x : Said) → answer_said d ≡ Some x → IsReset full (Some x) →
          (w : OutFrame) × IsNextAnswer y.sent w (record { socket = d.socket; opened = d.opened; taken = d.taken; resumed = d.resumed }) × (IsAcceptance w → ⊥)
      next d heard x e r =
          let it = next_of d.taken d.got (answers_on d.socket b.sent) x (no_refusal full x r) heard e in (
            out.reset full,
            subst (λ l. IsNextAnswer l (out.reset full) (record { socket = d.socket; opened = d.opened; taken = d.taken; resumed = d.resumed })) (sym h.sent)
                (drop (d.taken + 1) (answers_on d.socket b.sent), it.first ∙ ap (λ z. z ∷ drop (d.taken + 1) (answers_on d.socket b.sent)) (it_resets full x it.frame it.says r)),
            λ z. z,
          )

      by_kind : (t : Bool) (d : Feed) → s.session.phase ≡ phase.ReconnectSent →
          ((w : OutFrame) × IsNextAnswer y.sent w (record { socket = d.socket; opened = d.opened; taken = d.taken; resumed = d.resumed }) × (IsAcceptance w → ⊥)) →
          IsMoveTo mint y (Some (event.GotReset t)) (record s { feed = Some d }) (tells (event.GotReset t) (with_feed (takes_answer d) (record s { feed = Some d })))
      by_kind true d p n = record {
        move = move.obeys [];
        is = ap (λ l. record (moved (move.obeys []) (view (record s { feed = Some d }))) { accepted = l }) (told_handed (s.deliveries ++ state.discarded ∷ []) ∙ thrown_handed s.deliveries);
        may = (p, n);
        begins = refl;
      }
      by_kind false d p n = record { move = move.obeys (map unnumbered (drop s.out.queue.base s.out.numbered)); is = refl; may = (p, n); begins = refl }

      at : (o : Option Feed) → s.feed ≡ o → OnFeedAt o (MayObey s full) → HearsAt o b.sent → IsMoveOf mint y f (item.obeyed full) s
      at None e g heard = absurd g
      at (Some d) e g heard =
          let it : record s { feed = Some d } ≡ s = ap (λ o. record s { feed = o }) (sym e) in
          let x = which full (answer_said d) g.next in
          subst (λ z. IsMoveOf mint y f (item.obeyed full) z) it
          (by_kind full d g.phase (next d heard x.0 x.1 (subst (IsReset full) x.1 g.next)))
