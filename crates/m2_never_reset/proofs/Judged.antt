-- An ask that is judged is steps of the link, by the answer of the tables.
--
-- Judged, an acceptance: `accepts` or `accepts_left`, also in full; Resume: `resumes` or `resumes_left`; ResetPending:
-- `leaves`, then `refuses` or `refuses_left`; Close: `refuses_left`; any other: `refuses` or `refuses_left`.
use Rattle.std.proofs.Common.{◌≡◌, ℕ, ◌+◌, ◌⊎◌, inl, inr, Bool, true, false, if◌then◌else◌, List, [], ◌∷◌, ◌++◌, map, Option, Some, None, refl, sym, ap, ◌∙◌, subst}
use Rattle.std.specs.List.{AllByRecursion}
use Rattle.std.proofs.lemmas.List.{map-append}
use Rattle.m2_session.specs.declared.ask.AskFacts.{AskFacts}
use Rattle.m2_session.specs.Asks as asks
use Rattle.m2_journal.specs.m2_fabric.declared.socket.SocketId.{SocketId}
use Rattle.m2_journal.specs.m2_fabric.Sockets.{is_among}
use Rattle.m2_session.specs.declared.answer.Answer.{Answer}
use Rattle.m2_session.specs.declared.answer.Answer.TheVariants as answer
use Rattle.m2_session.specs.declared.session.Phase.TheVariants as phase
use Rattle.m2_session.specs.Reconnect.{Reconnect}
use Rattle.m2_journal.specs.declared.entry.JudgedItem.{JudgedItem}
use Rattle.m2_journal.specs.Items as item
use Rattle.m2_journal.specs.Lawful.{judged_sockets}
use Rattle.m2_journal.specs.Laws.{IfFed}
use Rattle.m2_journal.specs.OutFrames as out
use Rattle.m2_journal.specs.SideFacts.{SideFacts}
use Rattle.m2_journal.specs.State.{Feed, SentFrame, State}
use Rattle.m2_journal.specs.Steps.{after, answer_to}
use Rattle.m2_never_reset.specs.Asks.{Ask, Ident, by_ident, by_reconnect, reset, retry, wait}
use Rattle.m2_never_reset.specs.CrossingLaws.{AnswersAreSteps}
use Rattle.m2_never_reset.specs.Link.{absent, Node}
use Rattle.m2_never_reset.specs.Sessions.{IsKept, IsIdentStep, IsReconnectStep}
use Rattle.m2_never_reset.specs.Steps.{Run, IsDrawn}
use Rattle.m2_never_reset.specs.Fits.{ask_by, AreItsAsks}
use Rattle.m2_never_reset.specs.Frames.{answers_on}
use Rattle.m2_never_reset.specs.LinkOf.{role_of, stand_by, stand_of, node_of, link_of}
use Rattle.m2_never_reset.specs.PairLaws.{MayCome, JudgedIsSteps}
use Rattle.m2_never_reset.specs.Paired.{beside, FeedIsPaired}
use Rattle.m2_never_reset.specs.Trouble.{trouble_at}
use Rattle.m2_never_reset.proofs.Accepting.{live_is_accepted, left_is_accepted}
use Rattle.m2_never_reset.proofs.Judging.{IsAsked, is_asked, HearsIt, HasLeftIt, either}
use Rattle.m2_never_reset.proofs.Leaving.{WaitsUnjudged}
use Rattle.m2_never_reset.proofs.Refusing.{live_is_refused, left_is_refused, is_closed, live_is_given_up, left_is_given_up}
use Rattle.m2_never_reset.proofs.Resuming.{live_is_resumed, left_is_resumed}
use Rattle.m2_never_reset.proofs.Sockets.{at_among}
use Rattle.m2_never_reset.proofs.Stable.{judgement, judged_after}
use Rattle.m2_journal.proofs.m2_fabric.Sockets.{among_last}

-- ---- facts of the entry

pub absent_stands : (o : Option Feed) (mine theirs : List SentFrame) → stand_by o phase.Absent mine theirs ≡ absent
absent_stands (Some d) mine theirs = refl
absent_stands None mine theirs = refl

waits_of : (a b : State) (o : Option Feed) → IfFed o (FeedIsPaired (beside a b)) →
    WaitsUnjudged o a.session.phase a.sent b.sent (judged_sockets b)
waits_of a b None h = tt
waits_of a b (Some d) h = h.unjudged

-- the judging side and the entry; what is known of the ask, and of the other side
module _ (f g : SideFacts) (k : SocketId) (number : ℕ) (unread : List ℕ) (trail : List JudgedItem) (n : ℕ) (a b : State)
    (lossless : f.policy.lossy ≡ false)
    (drawn : IsDrawn (node_of a (judged_sockets b)) number)
    (waits : WaitsUnjudged a.feed a.session.phase a.sent b.sent (judged_sockets b))
    (alone : answers_on k b.sent ≡ []) where
  abbrev x : Node
  x = node_of a (judged_sockets b)

  abbrev IsRun : AskFacts → Answer → Type 0
  IsRun ask ans = Run (role_of f) (role_of g) (link_of n a b)
      (link_of (n + trouble_at f (item.judged k ask number ans unread trail) a b) (after f (item.judged k ask number ans unread trail) a) b)

  abbrev Sees : Ask → Type 0
  Sees z = HearsIt k z a b ⊎ HasLeftIt k z a b

  module _ (ask₀ : AskFacts) where
    abbrev by_its_ident : AskFacts
    by_its_ident = record ask₀ { ident = true }

    abbrev i : Ident
    i = record { cookie = ask₀.client; global = ask₀.global }

    abbrev client : ℕ
    client = if f.policy.lossy then 0 else ask₀.client

    kept : client ≡ ask₀.client
    kept = rw lossless refl

    ident_is : (ans : Answer) → Sees (by_ident i) → IsIdentStep (role_of f) x (stand_of a b) i ans →
        IsRun by_its_ident ans
    ident_is answer.Accept (inl live) s =
        live_is_accepted f (role_of g) n k ask₀ number answer.Accept unread client a b a.feed false kept s drawn waits alone live
    ident_is answer.Accept (inr left) s =
        left_is_accepted f (role_of g) n k ask₀ number answer.Accept unread client a b a.feed false kept s drawn waits alone left
    ident_is answer.AcceptOver (inl live) s =
        live_is_accepted f (role_of g) n k ask₀ number answer.AcceptOver unread client a b a.feed false kept s drawn waits alone live
    ident_is answer.AcceptOver (inr left) s =
        left_is_accepted f (role_of g) n k ask₀ number answer.AcceptOver unread client a b a.feed false kept s drawn waits alone left
    ident_is (answer.AcceptReset full) (inl live) s =
        live_is_accepted f (role_of g) n k ask₀ number
        (answer.AcceptReset full) unread client a b a.feed full kept s drawn waits alone live
    ident_is (answer.AcceptReset full) (inr left) s =
        left_is_accepted f (role_of g) n k ask₀ number
        (answer.AcceptReset full) unread client a b a.feed full kept s drawn waits alone left
    ident_is answer.AcceptAgain (inl live) s =
        live_is_accepted f (role_of g) n k ask₀ number answer.AcceptAgain unread client a b a.feed false kept s drawn waits alone live
    ident_is answer.AcceptAgain (inr left) s =
        left_is_accepted f (role_of g) n k ask₀ number answer.AcceptAgain unread client a b a.feed false kept s drawn waits alone left
    ident_is answer.AcceptReplace (inl live) s =
        live_is_accepted f (role_of g) n k ask₀ number answer.AcceptReplace unread client a b a.feed false kept s drawn waits alone live
    ident_is answer.AcceptReplace (inr left) s =
        left_is_accepted f (role_of g) n k ask₀ number answer.AcceptReplace unread client a b a.feed false kept s drawn waits alone left
    ident_is answer.AcceptRace (inl live) s =
        live_is_accepted f (role_of g) n k ask₀ number answer.AcceptRace unread client a b a.feed false kept s drawn waits alone live
    ident_is answer.AcceptRace (inr left) s =
        left_is_accepted f (role_of g) n k ask₀ number answer.AcceptRace unread client a b a.feed false kept s drawn waits alone left
    ident_is answer.Wait (inl live) s =
        live_is_refused (role_of f) (role_of g) n k by_its_ident
        (by_ident i) number answer.Wait a b out.wait refl refl drawn wait s refl live
    ident_is answer.Wait (inr left) s =
        left_is_refused (role_of f) (role_of g) n k by_its_ident
        (by_ident i) number answer.Wait a b out.wait refl refl drawn left
    ident_is answer.Close sees s =
        is_closed (role_of f) (role_of g) n k by_its_ident (by_ident i) number answer.Close a b drawn
    ident_is answer.Resume sees s = elim s [ ]
    ident_is (answer.Reset full) sees s = elim s [ ]
    ident_is answer.ResetPending sees s = elim s [ ]
    ident_is (answer.Retry m) sees s = elim s [ ]
    ident_is (answer.RetryGlobal m) sees s = elim s [ ]

    abbrev by_its_reconnect : AskFacts
    by_its_reconnect = record ask₀ { ident = false }

    abbrev r : Reconnect
    r = asks.reconnect_of ask₀

    reconnect_is : (ans : Answer) → Sees (by_reconnect r) → IsReconnectStep (role_of f) x (stand_of a b) r ans →
        IsRun by_its_reconnect ans
    reconnect_is answer.Resume (inl live) s =
        live_is_resumed f (role_of g) n k ask₀ number answer.Resume unread a b a.feed s drawn waits alone live
    reconnect_is answer.Resume (inr left) s =
        left_is_resumed f (role_of g) n k ask₀ number answer.Resume unread a b a.feed s drawn waits alone left
    reconnect_is (answer.Reset full) (inl live) s =
        live_is_refused (role_of f) (role_of g) n k by_its_reconnect (by_reconnect r) number (answer.Reset full) a b
        (out.reset full) refl refl drawn (reset full) s refl live
    reconnect_is (answer.Reset full) (inr left) s =
        left_is_refused (role_of f) (role_of g) n k by_its_reconnect (by_reconnect r) number (answer.Reset full) a b
        (out.reset full) refl refl drawn left
    reconnect_is answer.ResetPending (inl live) s =
        live_is_given_up (role_of f) (role_of g) n k by_its_reconnect
        (by_reconnect r) number answer.ResetPending a b a.feed drawn s waits refl live
    reconnect_is answer.ResetPending (inr left) s =
        left_is_given_up (role_of f) (role_of g) n k by_its_reconnect
        (by_reconnect r) number answer.ResetPending a b a.feed drawn s waits left
    reconnect_is (answer.RetryGlobal m) (inl live) s =
        live_is_refused (role_of f) (role_of g) n k by_its_reconnect (by_reconnect r) number (answer.RetryGlobal m) a b
        (out.retry_global m) refl refl drawn retry s refl live
    reconnect_is (answer.RetryGlobal m) (inr left) s =
        left_is_refused (role_of f) (role_of g) n k by_its_reconnect (by_reconnect r) number (answer.RetryGlobal m) a b
        (out.retry_global m) refl refl drawn left
    reconnect_is (answer.Retry m) (inl live) s =
        live_is_refused (role_of f) (role_of g) n k by_its_reconnect (by_reconnect r) number (answer.Retry m) a b
        (out.retry m) refl refl drawn retry s refl live
    reconnect_is (answer.Retry m) (inr left) s =
        left_is_refused (role_of f) (role_of g) n k by_its_reconnect (by_reconnect r) number (answer.Retry m) a b
        (out.retry m) refl refl drawn left
    reconnect_is answer.Wait (inl live) s =
        live_is_refused (role_of f) (role_of g) n k by_its_reconnect
        (by_reconnect r) number answer.Wait a b out.wait refl refl drawn wait s refl live
    reconnect_is answer.Wait (inr left) s =
        left_is_refused (role_of f) (role_of g) n k by_its_reconnect
        (by_reconnect r) number answer.Wait a b out.wait refl refl drawn left
    reconnect_is answer.Close sees s =
        is_closed (role_of f) (role_of g) n k by_its_reconnect (by_reconnect r) number answer.Close a b drawn
    reconnect_is answer.Accept sees s = elim s [ ]
    reconnect_is answer.AcceptOver sees s = elim s [ ]
    reconnect_is (answer.AcceptReset full) sees s = elim s [ ]
    reconnect_is answer.AcceptAgain sees s = elim s [ ]
    reconnect_is answer.AcceptReplace sees s = elim s [ ]
    reconnect_is answer.AcceptRace sees s = elim s [ ]

-- ---- the entry

-- what an order that fits says of the ask
pub its_ask : (f g : SideFacts) (k : SocketId) (ask : AskFacts) (number : ℕ) (ans : Answer) (unread : List ℕ)
    (trail : List JudgedItem) (a b : State) →
    MayCome f g (item.judged k ask number ans unread trail) a b → IsAsked k (ask_by ask) b.sent (judged_sockets a)
its_ask f g k ask number ans unread trail a b may =
    let js = a.judgements ++ judgement k ask ans ∷ [] in
    let all : AllByRecursion (AreItsAsks b.opened b.sent js) (map (λ j. j.socket) js) =
    subst (λ js. AllByRecursion (AreItsAsks b.opened b.sent js) (map (λ j. j.socket) js))
    (judged_after f k ask number ans unread a) may.fits_after.near_judges in
    let among : is_among k (map (λ j. j.socket) js) ≡ true =
    subst (λ l. is_among k l ≡ true) (sym (map-append (λ j. j.socket) a.judgements (judgement k ask ans ∷ [])))
    (among_last k (judged_sockets a)) in
    is_asked k ask ans a.judgements b.opened b.sent
    (at_among (AreItsAsks b.opened b.sent js) (map (λ j. j.socket) js) k all among)
    (may.paired.far.asks_once k) (may.paired.far.unjudged k)

pub judged_is : AnswersAreSteps → JudgedIsSteps
judged_is tables f g k ask number ans unread trail n a b may = by_kind ask.ident refl
  where
    x : Node
    x = node_of a (judged_sockets b)

    its : IsAsked k (ask_by ask) b.sent (judged_sockets a)
    its = its_ask f g k ask number ans unread trail a b may

    drawn : IsDrawn x number
    drawn = record { above = may.lawful.unused.from; within = may.lawful.unused.to }

    kept : IsKept (role_of f) x (stand_of a b) a.session
    kept = record {
      policy = sym may.near_replayed.sound.session.policy;
      lossless = may.near_keeps;
      client = refl;
      server = refl;
      peer_global = refl;
      absent = λ e. ap (λ p. stand_by a.feed p a.sent b.sent) e ∙ absent_stands a.feed a.sent b.sent;
    }

    sees : HearsIt k (ask_by ask) a b ⊎ HasLeftIt k (ask_by ask) a b
    sees = either k (ask_by ask) a b its b.feed may.paired.far.feed

    waits : WaitsUnjudged a.feed a.session.phase a.sent b.sent (judged_sockets b)
    waits = waits_of a b a.feed may.paired.near.feed

    by_kind : (t : Bool) → ask.ident ≡ t →
        IsRun f g k number unread trail n a b may.near_keeps drawn waits its.alone ask ans
    by_kind true e =
        let it : ask ≡ record ask { ident = true } = ap (λ t. record ask { ident = t }) e in
        let table : ans ≡ answer_to (record ask { ident = true }) a = may.lawful.by_the_tables
        ∙ ap (λ q. answer_to q a) it in
        subst (λ q. IsRun f g k number unread trail n a b may.near_keeps drawn waits its.alone q ans) (sym it)
        (ident_is f g k number unread trail n a b may.near_keeps drawn waits its.alone ask ans
        (subst (λ q. HearsIt k (ask_by q) a b ⊎ HasLeftIt k (ask_by q) a b) it sees)
        (subst (IsIdentStep (role_of f) x (stand_of a b) (record { cookie = ask.client; global = ask.global })) (sym table)
        (tables.ident (role_of f) x (stand_of a b) a.session (record { cookie = ask.client; global = ask.global }) kept)))
    by_kind false e =
        let it : ask ≡ record ask { ident = false } = ap (λ t. record ask { ident = t }) e in
        let table : ans ≡ answer_to (record ask { ident = false }) a = may.lawful.by_the_tables
        ∙ ap (λ q. answer_to q a) it in
        subst (λ q. IsRun f g k number unread trail n a b may.near_keeps drawn waits its.alone q ans) (sym it)
        (reconnect_is f g k number unread trail n a b may.near_keeps drawn waits its.alone ask ans
        (subst (λ q. HearsIt k (ask_by q) a b ⊎ HasLeftIt k (ask_by q) a b) it sees)
        (subst (IsReconnectStep (role_of f) x (stand_of a b) (asks.reconnect_of ask)) (sym table)
        (tables.reconnect (role_of f) x (stand_of a b) a.session (asks.reconnect_of ask) a.out.queue.written kept)))
