-- An ask that is judged is one of the moves; so each lawful entry of a lossless side is one.
use Rattle.std.proofs.Common.{◌≡◌, ℕ, ◌≤◌, ◌⊎◌, inl, inr, Bool, true, false, if◌then◌else◌, List, [], ◌∷◌, ◌++◌, map, drop, Option, Some, None, refl, sym, ap, subst, ◌∙◌, arith}
use Rattle.std.specs.List.{AllByRecursion, filter, filter_map, cons_option}
use Rattle.m2_journal.specs.Items as item
use Rattle.m2_journal.specs.Items.{JournalItem}
use Rattle.m2_journal.specs.Lawful.{Lawful, judged_on, judged_sockets, may_ask_again}
use Rattle.m2_journal.specs.Laws.{taken_among}
use Rattle.m2_journal.specs.OutFrames as out
use Rattle.m2_journal.specs.OutFrames.{OutFrame, replies_of}
use Rattle.m2_journal.specs.SideFacts.{SideFacts, cookie_of}
use Rattle.m2_journal.specs.State as state
use Rattle.m2_journal.specs.State.{Feed, Judgement, SentFrame, State}
use Rattle.m2_journal.specs.Steps.{after, answer_to, event_at, notes, sends, takes_socket, tells}
use Rattle.m2_journal.specs.declared.entry.JudgedItem.{JudgedItem}
use Rattle.m2_journal.specs.m2_fabric.declared.socket.SocketId.{SocketId}
use Rattle.m2_journal.specs.m2_fabric.Sockets.{is_among, same_socket}
use Rattle.m2_journal.specs.m2_message.Message.{Content, unnumbered}
use Rattle.m2_journal.specs.m2_queues.QueueLaws.{EachNumberIsAPlace, CallsGoOn}
use Rattle.m2_journal.specs.m2_session.declared.answer.Answer.{Answer}
use Rattle.m2_journal.specs.m2_session.declared.answer.Answer.TheVariants as answer
use Rattle.m2_journal.specs.m2_session.declared.ask.AskFacts.{AskFacts}
use Rattle.m2_journal.specs.m2_session.declared.event.Event.TheVariants as event
use Rattle.m2_journal.specs.m2_session.declared.session.Phase.{Phase}
use Rattle.m2_journal.specs.m2_session.Asks as asks
use Rattle.m2_journal.specs.m2_session.SessionLaws as session
use Rattle.m2_journal.specs.m2_session.Steps.{step_of}
use Rattle.m2_journal.proofs.Sockets.{no_more_asks}
use Rattle.m2_journal.proofs.m2_fabric.Sockets.{same_equal}
use Rattle.m2_journal.proofs.m2_lemmas.Booleans.{false_isnt_true, not_true_is_false}
use Rattle.m2_channel.proofs.Sides.{taken_more, taken_same}
use Rattle.m2_journal.specs.m2_session.Reconnect.{Reconnect}
use Rattle.m2_never_reset.specs.Asks.{Ask, by_ident, by_reconnect}
use Rattle.m2_never_reset.specs.CrossingLaws.{AnswersAreSteps}
use Rattle.m2_never_reset.specs.Fits.{AreItsAsks, HearsAt, ask_by}
use Rattle.m2_never_reset.specs.Frames.{ask_of, asks_on, no_ask, last_ask}
use Rattle.m2_never_reset.specs.Link.{Node, Stand}
use Rattle.m2_never_reset.specs.LinkOf.{node_of, role_of, stand_by, stand_of}
use Rattle.m2_never_reset.specs.PairLaws.{IsNoDown, MayCome}
use Rattle.m2_never_reset.specs.Roles.{Role}
use Rattle.m2_never_reset.specs.Sessions.{IsIdentStep, IsKept, IsReconnectStep}
use Rattle.m2_never_reset.specs.Steps.{Resumes}
use Rattle.m2_never_reset.proofs.Judged.{absent_stands, its_ask}
use Rattle.m2_never_reset.proofs.Sockets.{at_among, taken_is_judged}
use Rattle.m2_never_reset.proofs.Stable.{judgement}
use Rattle.m2_lives.specs.Lives.{Has}
use Rattle.m2_lives.proofs.Among.{has_so}
use Rattle.m2_lives.proofs.Ledger.{Ledger, count, IsAskFor, IsTrueFrame}
use Rattle.m2_lives.proofs.Moves as move
use Rattle.m2_lives.proofs.Moves.{View, view, moved, IsRefusalFrame, MayTake, begins}
use Rattle.m2_lives.proofs.Noting.{all_sent}
use Rattle.m2_lives.proofs.Entries.{IsMoveOf, IsSide, sets_back_told, told_handed, thrown_handed, with_handed, quietly, posts_move, opens_move, read_move, wrote_move, closed_move, down_move, asked_move, numbered_move, accepted_move, acked_move, obeyed_move}

module _ (mint theirs : ℕ → ℕ) (f : SideFacts) (s b : State) (y : Ledger) (h : IsSide f s b theirs y) where
  abbrev v : View
  v = view s

  -- ---- an ask is judged

  refusals : (a : Answer) → session.takes a ≡ false → AllByRecursion IsRefusalFrame (replies_of a)
  refusals answer.Wait e = (tt, tt)
  refusals (answer.Reset full) e = (tt, tt)
  refusals answer.ResetPending e = (tt, tt)
  refusals (answer.RetryGlobal number) e = (tt, tt)
  refusals (answer.Retry number) e = (tt, tt)
  refusals answer.Close e = tt
  refusals answer.Accept e = tt
  refusals answer.AcceptOver e = tt
  refusals (answer.AcceptReset full) e = tt
  refusals answer.AcceptAgain e = tt
  refusals answer.AcceptReplace e = tt
  refusals answer.AcceptRace e = tt
  refusals answer.Resume e = tt

  -- it asks again, so the socket wasn't taken
  not_taken_yet : (k : SocketId) (js : List Judgement) → AllByRecursion (λ (i : JudgedItem). may_ask_again i.answer ≡ true) (judged_on k js) → is_among k (taken_among js) ≡ false
  not_taken_yet k [] again = refl
  not_taken_yet k (j ∷ js) again = at (same_socket k j.socket) (session.takes j.item.answer) refl refl again (not_taken_yet k js)
    where
      at : (c t : Bool) → same_socket k j.socket ≡ c → session.takes j.item.answer ≡ t → AllByRecursion (λ (i : JudgedItem). may_ask_again i.answer ≡ true) (judged_on k (j ∷ js)) →
          (AllByRecursion (λ (i : JudgedItem). may_ask_again i.answer ≡ true) (judged_on k js) → is_among k (taken_among js) ≡ false) → is_among k (taken_among (j ∷ js)) ≡ false
      at true true e g again later = let both = rw e at again in absurd (no_more_asks j.item.answer g both.0)
      at true false e g again later = let both = rw e at again in rw g (later both.1)
      at false true e g again later = let more = rw e at again in rw (g, e) (later more)
      at false false e g again later = let more = rw e at again in rw g (later more)

  -- the ask was sent
  ask_sent : (k : SocketId) (r : Reconnect) (xs : List SentFrame) → Has (λ q. q ≡ by_reconnect r) (asks_on k xs) → Has (λ (x : SentFrame). (x.socket ≡ k) × (ask_of x.frame ≡ Some (by_reconnect r))) xs
  ask_sent k r [] t = t
  ask_sent k r (x ∷ xs) t = at (same_socket k x.socket) refl t (ask_sent k r xs)
    where
      at : (c : Bool) → same_socket k x.socket ≡ c → Has (λ q. q ≡ by_reconnect r) (filter_map ask_of (map (λ (z : SentFrame). z.frame) (if c then x ∷ filter (λ (z : SentFrame). same_socket k z.socket) xs else filter (λ (z : SentFrame). same_socket k z.socket) xs))) →
          (Has (λ q. q ≡ by_reconnect r) (asks_on k xs) → Has (λ (z : SentFrame). (z.socket ≡ k) × (ask_of z.frame ≡ Some (by_reconnect r))) xs) → Has (λ (z : SentFrame). (z.socket ≡ k) × (ask_of z.frame ≡ Some (by_reconnect r))) (x ∷ xs)
      at false e g later = inr (later g)
      at true e g later = by (ask_of x.frame) refl g
        where
          by : (o : Option Ask) → ask_of x.frame ≡ o → Has (λ q. q ≡ by_reconnect r) (cons_option o (asks_on k xs)) → Has (λ (z : SentFrame). (z.socket ≡ k) × (ask_of z.frame ≡ Some (by_reconnect r))) (x ∷ xs)
          by None q z = inr (later z)
          by (Some a) q (inl z) = inl (sym (same_equal k x.socket e), q ∙ ap Some z)
          by (Some a) q (inr z) = inr (later z)

  reconnect_is : (w : OutFrame) (r : Reconnect) → ask_of w ≡ Some (by_reconnect r) → w ≡ out.reconnect r.client r.server r.global r.connect r.seen
  reconnect_is (out.reconnect client server global connect seen) r e = ap (λ (z : Reconnect). out.reconnect z.client z.server z.global z.connect z.seen) (inside e)
    where
      asked : Option Ask → Reconnect
      asked (Some (by_reconnect z)) = z
      asked _ = r

      inside : Some (by_reconnect (record { client = client; server = server; global = global; connect = connect; seen = seen })) ≡ Some (by_reconnect r) → record { client = client; server = server; global = global; connect = connect; seen = seen } ≡ r
      inside z = ap asked z
  reconnect_is (out.ident c g) r e = absurd (apart e)
    where
      apart : Some (by_ident (record { cookie = c; global = g })) ≡ Some (by_reconnect r) → ⊥
      apart e = cc
  reconnect_is out.greeting r e = absurd (nothing r e)
    where
      nothing : (r : Reconnect) → None ≡ Some (by_reconnect r) → ⊥
      nothing r e = cc
  reconnect_is (out.server_ident c g) r e = absurd (nothing r e)
    where
      nothing : (r : Reconnect) → None ≡ Some (by_reconnect r) → ⊥
      nothing r e = cc
  reconnect_is (out.reconnect_ok seen) r e = absurd (nothing r e)
    where
      nothing : (r : Reconnect) → None ≡ Some (by_reconnect r) → ⊥
      nothing r e = cc
  reconnect_is (out.reset full) r e = absurd (nothing r e)
    where
      nothing : (r : Reconnect) → None ≡ Some (by_reconnect r) → ⊥
      nothing r e = cc
  reconnect_is (out.retry c) r e = absurd (nothing r e)
    where
      nothing : (r : Reconnect) → None ≡ Some (by_reconnect r) → ⊥
      nothing r e = cc
  reconnect_is (out.retry_global g) r e = absurd (nothing r e)
    where
      nothing : (r : Reconnect) → None ≡ Some (by_reconnect r) → ⊥
      nothing r e = cc
  reconnect_is out.wait r e = absurd (nothing r e)
    where
      nothing : (r : Reconnect) → None ≡ Some (by_reconnect r) → ⊥
      nothing r e = cc
  reconnect_is (out.message number acked m) r e = absurd (nothing r e)
    where
      nothing : (r : Reconnect) → None ≡ Some (by_reconnect r) → ⊥
      nothing r e = cc
  reconnect_is (out.acknowledgement number) r e = absurd (nothing r e)
    where
      nothing : (r : Reconnect) → None ≡ Some (by_reconnect r) → ⊥
      nothing r e = cc
  reconnect_is (out.keepalive_answer a) r e = absurd (nothing r e)
    where
      nothing : (r : Reconnect) → None ≡ Some (by_reconnect r) → ⊥
      nothing r e = cc

  last_among : (a : Ask) (r : Reconnect) (qs : List Ask) → last_ask a qs ≡ by_reconnect r → (a ≡ by_reconnect r) ⊎ Has (λ q. q ≡ by_reconnect r) qs
  last_among a r [] e = inl e
  last_among a r (q ∷ qs) e = at (last_among q r qs e)
    where
      at : (q ≡ by_reconnect r) ⊎ Has (λ z. z ≡ by_reconnect r) qs → (a ≡ by_reconnect r) ⊎ Has (λ z. z ≡ by_reconnect r) (q ∷ qs)
      at (inl z) = inr (inl z)
      at (inr z) = inr (inr z)

  -- the last ask of the other side on the socket is this reconnect, so what it says that it has seen it had accepted
  seen_within : (k : SocketId) (r : Reconnect) → last_ask no_ask (asks_on k b.sent) ≡ by_reconnect r → r.seen ≤ count r.server y
  seen_within k r e = at (last_among no_ask r (asks_on k b.sent) e)
    where
      not_none : no_ask ≡ by_reconnect r → ⊥
      not_none z = cc

      at : (no_ask ≡ by_reconnect r) ⊎ Has (λ q. q ≡ by_reconnect r) (asks_on k b.sent) → r.seen ≤ count r.server y
      at (inl z) = absurd (not_none z)
      at (inr z) =
          let was = subst (Has (λ (x : SentFrame). (x.socket ≡ k) × (x.frame ≡ out.reconnect r.client r.server r.global r.connect r.seen))) (sym h.sent)
          (has_so (λ (x : SentFrame). (x.socket ≡ k) × (ask_of x.frame ≡ Some (by_reconnect r))) (λ (x : SentFrame). (x.socket ≡ k) × (x.frame ≡ out.reconnect r.client r.server r.global r.connect r.seen))
          (λ x p. (p.0, reconnect_is x.frame r p.1)) b.sent (ask_sent k r b.sent z)) in
          (all_sent (IsTrueFrame theirs y) y.sent k (out.reconnect r.client r.server r.global r.connect r.seen) h.frames was).1

  module _ (g : SideFacts) (k : SocketId) (ask₀ : AskFacts) (number : ℕ) (unread : List ℕ) (trail : List JudgedItem) (mints : (n : ℕ) → mint n ≡ cookie_of f n) where
    abbrev identifying : AskFacts
    identifying = record ask₀ { ident = true }

    abbrev reconnecting : AskFacts
    reconnecting = record ask₀ { ident = false }

    abbrev Judged : AskFacts → Answer → JournalItem
    Judged ask given = item.judged k ask number given unread trail

    may_take : (ask : AskFacts) (given : Answer) → Lawful f (Judged ask given) s → MayTake v k number y.taken
    may_take ask given l = record {
      not_opened = l.not_opened;
      not_taken = not_taken_yet k s.judgements l.asks_again;
      not_theirs = ap (is_among k) h.taken ∙ not_true_is_false (is_among k (taken_among b.judgements))
          (λ t. false_isnt_true (sym l.not_opened ∙ (at_among (AreItsAsks s.opened s.sent b.judgements) (judged_sockets b) k h.fits.far_judges (taken_is_judged b.judgements k t)).opened));
      drawn = l.unused.from;
      within = l.unused.to;
    }

    abbrev noted : Answer → AskFacts → Option Feed → State
    noted given ask o = notes k ask number given (record s { feed = o })

    -- an ident is accepted
    accepted_by : (given : Answer) (full : Bool) → session.takes given ≡ true → Lawful f (Judged identifying given) s → (c : ℕ) →
        after f (Judged identifying given) s ≡ takes_socket f k identifying number unread (tells (event.TookIdent full c (cookie_of f number) ask₀.global) (noted given identifying s.feed)) →
        sets_back_told (event_at f (Judged identifying given) s) s.session ≡ true → IsMoveOf mint y f (Judged identifying given) s
    accepted_by given full t l c now back = record {
      move = move.takes k (cookie_of f number) number (kept full);
      is = ap view now ∙ told s.feed full;
      may = (may_take identifying given l, sym (mints number));
      begins = back;
    }
      where
        kept : Bool → List Content
        kept true = []
        kept false = map unnumbered (drop s.out.queue.base s.out.numbered)

        taken_now : taken_among (s.judgements ++ judgement k identifying given ∷ []) ≡ taken_among s.judgements ++ k ∷ []
        taken_now = taken_more s.judgements (judgement k identifying given) t

        both : (s.deliveries ++ state.discarded ∷ []) ++ state.remote_reset ∷ [] ≡ (s.deliveries ++ state.discarded ∷ []) ++ state.remote_reset ∷ []
        both = refl

        told : (o : Option Feed) (full : Bool) → view (takes_socket f k identifying number unread (tells (event.TookIdent full c (cookie_of f number) ask₀.global) (noted given identifying o)))
            ≡ moved (move.takes k (cookie_of f number) number (kept full)) (view (record s { feed = o }))
        told None true = with_handed (moved (move.takes k (cookie_of f number) number []) (view (record s { feed = None }))) _ _ _ _ (told_handed (s.deliveries ++ state.discarded ∷ []) ∙ thrown_handed s.deliveries) taken_now
        told (Some d) true = with_handed (moved (move.takes k (cookie_of f number) number []) (view (record s { feed = Some d }))) _ _ _ _ (told_handed (s.deliveries ++ state.discarded ∷ []) ∙ thrown_handed s.deliveries) taken_now
        told None false = with_handed (moved (move.takes k (cookie_of f number) number (kept false)) (view (record s { feed = None }))) _ _ _ _ refl taken_now
        told (Some d) false = with_handed (moved (move.takes k (cookie_of f number) number (kept false)) (view (record s { feed = Some d }))) _ _ _ _ refl taken_now

    -- an ask is not accepted, and nothing is told of it
    refused_by : (ask : AskFacts) (given : Answer) → session.takes given ≡ false → Lawful f (Judged ask given) s →
        after f (Judged ask given) s ≡ sends k (replies_of given) (noted given ask s.feed) → sets_back_told (event_at f (Judged ask given) s) s.session ≡ false → IsMoveOf mint y f (Judged ask given) s
    refused_by ask given t l now back = record {
      move = move.refuses k number (replies_of given);
      is = ap view now ∙ with_handed (moved (move.refuses k number (replies_of given)) v) _ _ _ _ refl (taken_same s.judgements (judgement k ask given) t);
      may = (refusals given t, (let d = l.unused.from in omega (arith, d)));
      begins = back;
    }

    ident_move : (given : Answer) (p : Role) (x : Node) (st : Stand) → IsIdentStep p x st (record { cookie = ask₀.client; global = ask₀.global }) given → Lawful f (Judged identifying given) s → IsMoveOf mint y f (Judged identifying given) s
    ident_move answer.Accept p x st q l = accepted_by answer.Accept false refl l _ refl refl
    ident_move answer.AcceptOver p x st q l = accepted_by answer.AcceptOver false refl l _ refl refl
    ident_move (answer.AcceptReset full) p x st q l = accepted_by (answer.AcceptReset full) full refl l _ refl refl
    ident_move answer.AcceptAgain p x st q l = accepted_by answer.AcceptAgain false refl l _ refl refl
    ident_move answer.AcceptReplace p x st q l = accepted_by answer.AcceptReplace false refl l _ refl refl
    ident_move answer.AcceptRace p x st q l = accepted_by answer.AcceptRace false refl l _ refl refl
    ident_move answer.Wait p x st q l = refused_by identifying answer.Wait refl l refl refl
    ident_move answer.Close p x st q l = refused_by identifying answer.Close refl l refl refl
    ident_move answer.Resume p x st q l = elim q [ ]
    ident_move (answer.Reset full) p x st q l = elim q [ ]
    ident_move answer.ResetPending p x st q l = elim q [ ]
    ident_move (answer.Retry m) p x st q l = elim q [ ]
    ident_move (answer.RetryGlobal m) p x st q l = elim q [ ]

    pending_move : Lawful f (Judged reconnecting answer.ResetPending) s → IsMoveOf mint y f (Judged reconnecting answer.ResetPending) s
    pending_move l = record {
      move = move.gives_way p k number (out.reset false ∷ []);
      is = told s.feed;
      may = ((tt, tt), (let d = l.unused.from in omega (arith, d)));
      begins = refl;
    }
      where
        p : Phase
        p = (step_of s.session event.Pending).session.phase

        told : (o : Option Feed) → view (after f (Judged reconnecting answer.ResetPending) (record s { feed = o })) ≡ moved (move.gives_way p k number (out.reset false ∷ [])) (view (record s { feed = o }))
        told None = with_handed (moved (move.gives_way p k number (out.reset false ∷ [])) (view (record s { feed = None }))) _ _ _ _ refl (taken_same s.judgements (judgement k reconnecting answer.ResetPending) refl)
        told (Some d) = with_handed (moved (move.gives_way p k number (out.reset false ∷ [])) (view (record s { feed = Some d }))) _ _ _ _ refl (taken_same s.judgements (judgement k reconnecting answer.ResetPending) refl)

    resume_move : (x : Node) → x.server ≡ s.session.server_cookie → Resumes x (asks.reconnect_of ask₀) → last_ask no_ask (asks_on k b.sent) ≡ by_reconnect (asks.reconnect_of ask₀) → Lawful f (Judged reconnecting answer.Resume) s →
        IsMoveOf mint y f (Judged reconnecting answer.Resume) s
    resume_move x e q last l = record {
      move = move.resumes k number ask₀.seen;
      is = told s.feed;
      may = (
        may_take reconnecting answer.Resume l,
        subst (λ z. IsAskFor v.server (last_ask no_ask (asks_on k z))) (sym h.sent) (subst (IsAskFor v.server) (sym last) server),
        λ z. q.names.kept (e ∙ z),
        subst (λ n. ask₀.seen ≤ count n y) server (seen_within k (asks.reconnect_of ask₀) last),
      );
      begins = refl;
    }
      where
        server : ask₀.server ≡ s.session.server_cookie
        server = q.names.server ∙ e

        told : (o : Option Feed) → view (after f (Judged reconnecting answer.Resume) (record s { feed = o })) ≡ moved (move.resumes k number ask₀.seen) (view (record s { feed = o }))
        told None = with_handed (moved (move.resumes k number ask₀.seen) (view (record s { feed = None }))) _ _ _ _ refl (taken_more s.judgements (judgement k reconnecting answer.Resume) refl)
        told (Some d) = with_handed (moved (move.resumes k number ask₀.seen) (view (record s { feed = Some d }))) _ _ _ _ refl (taken_more s.judgements (judgement k reconnecting answer.Resume) refl)

    reconnect_move : (given : Answer) (p : Role) (x : Node) (st : Stand) → x.server ≡ s.session.server_cookie → IsReconnectStep p x st (asks.reconnect_of ask₀) given → last_ask no_ask (asks_on k b.sent) ≡ by_reconnect (asks.reconnect_of ask₀) →
        Lawful f (Judged reconnecting given) s → IsMoveOf mint y f (Judged reconnecting given) s
    reconnect_move answer.Resume p x st e q last l = resume_move x e q last l
    reconnect_move answer.ResetPending p x st e q last l = pending_move l
    reconnect_move (answer.Reset full) p x st e q last l = refused_by reconnecting (answer.Reset full) refl l refl refl
    reconnect_move (answer.RetryGlobal m) p x st e q last l = refused_by reconnecting (answer.RetryGlobal m) refl l refl refl
    reconnect_move (answer.Retry m) p x st e q last l = refused_by reconnecting (answer.Retry m) refl l refl refl
    reconnect_move answer.Wait p x st e q last l = refused_by reconnecting answer.Wait refl l refl refl
    reconnect_move answer.Close p x st e q last l = refused_by reconnecting answer.Close refl l refl refl
    reconnect_move answer.Accept p x st e q last l = elim q [ ]
    reconnect_move answer.AcceptOver p x st e q last l = elim q [ ]
    reconnect_move (answer.AcceptReset full) p x st e q last l = elim q [ ]
    reconnect_move answer.AcceptAgain p x st e q last l = elim q [ ]
    reconnect_move answer.AcceptReplace p x st e q last l = elim q [ ]
    reconnect_move answer.AcceptRace p x st e q last l = elim q [ ]

  judged_move : AnswersAreSteps → (g : SideFacts) (k : SocketId) (ask : AskFacts) (number : ℕ) (given : Answer) (unread : List ℕ) (trail : List JudgedItem) → ((n : ℕ) → mint n ≡ cookie_of f n) →
      MayCome f g (item.judged k ask number given unread trail) s b → IsMoveOf mint y f (item.judged k ask number given unread trail) s
  judged_move tables g k ask number given unread trail mints may = by_kind ask.ident refl
    where
      x : Node
      x = node_of s (judged_sockets b)

      kept : IsKept (role_of f) x (stand_of s b) s.session
      kept = record {
        policy = sym may.near_replayed.sound.session.policy;
        lossless = may.near_keeps;
        client = refl;
        server = refl;
        peer_global = refl;
        absent = λ e. ap (λ p. stand_by s.feed p s.sent b.sent) e ∙ absent_stands s.feed s.sent b.sent;
      }

      last : last_ask no_ask (asks_on k b.sent) ≡ ask_by ask
      last = (its_ask f g k ask number given unread trail s b may).last

      by_kind : (t : Bool) → ask.ident ≡ t → IsMoveOf mint y f (item.judged k ask number given unread trail) s
      by_kind true e =
          let it : ask ≡ record ask { ident = true } = ap (λ t. record ask { ident = t }) e in
          subst (λ q. IsMoveOf mint y f (item.judged k q number given unread trail) s) (sym it)
          (ident_move g k ask number unread trail mints given (role_of f) x (stand_of s b)
          (subst (IsIdentStep (role_of f) x (stand_of s b) (record { cookie = ask.client; global = ask.global })) (sym (may.lawful.by_the_tables ∙ ap (λ q. answer_to q s) it))
          (tables.ident (role_of f) x (stand_of s b) s.session (record { cookie = ask.client; global = ask.global }) kept))
          (subst (λ q. Lawful f (item.judged k q number given unread trail) s) it may.lawful))
      by_kind false e =
          let it : ask ≡ record ask { ident = false } = ap (λ t. record ask { ident = t }) e in
          subst (λ q. IsMoveOf mint y f (item.judged k q number given unread trail) s) (sym it)
          (reconnect_move g k ask number unread trail mints given (role_of f) x (stand_of s b) refl
          (subst (IsReconnectStep (role_of f) x (stand_of s b) (asks.reconnect_of ask)) (sym (may.lawful.by_the_tables ∙ ap (λ q. answer_to q s) it))
          (tables.reconnect (role_of f) x (stand_of s b) s.session (asks.reconnect_of ask) s.out.queue.written kept))
          (last ∙ ap ask_by it)
          (subst (λ q. Lawful f (item.judged k q number given unread trail) s) it may.lawful))

  -- ---- every kind

  pub entry_moves : AnswersAreSteps → EachNumberIsAPlace → CallsGoOn → s.out.queue.keeps ≡ true → ((n : ℕ) → mint n ≡ cookie_of f n) → (g : SideFacts) (i : JournalItem) → HearsAt (after f i s).feed b.sent → Lawful f i s →
      (IsNoDown i → MayCome f g i s b) → IsMoveOf mint y f i s
  entry_moves tables places go_on keeps mints g (item.post place planned) heard l may = posts_move mint theirs f s b y h place planned
  entry_moves tables places go_on keeps mints g (item.dial planned) heard l may = quietly mint theirs f s b y h None _ refl refl
  entry_moves tables places go_on keeps mints g (item.opened k) heard l may = opens_move mint theirs f s b y h k l
  entry_moves tables places go_on keeps mints g (item.read k bytes) heard l may = read_move mint theirs f s b y h k bytes l heard
  entry_moves tables places go_on keeps mints g (item.wrote k bytes) heard l may = wrote_move mint theirs f s b y h k bytes l
  entry_moves tables places go_on keeps mints g (item.closed k broken) heard l may = closed_move mint theirs f s b y h k broken
  entry_moves tables places go_on keeps mints g (item.judged k ask number given unread trail) heard l may = judged_move tables g k ask number given unread trail mints (may tt)
  entry_moves tables places go_on keeps mints g (item.asked ident number) heard l may = asked_move mint theirs f s b y h ident number l
  entry_moves tables places go_on keeps mints g (item.numbered n) heard l may = numbered_move mint theirs f s b y h places go_on keeps n l
  entry_moves tables places go_on keeps mints g (item.accepted number key) heard l may = accepted_move mint theirs f s b y h number key l
  entry_moves tables places go_on keeps mints g (item.acked number) heard l may = acked_move mint theirs f s b y h number l
  entry_moves tables places go_on keeps mints g (item.obeyed full) heard l may = obeyed_move mint theirs f s b y h full l
  entry_moves tables places go_on keeps mints g (item.down planned step) heard l may = down_move mint theirs f s b y h planned step
