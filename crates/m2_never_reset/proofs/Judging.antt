-- The ask that is judged is the last one of its socket, and the other side stands on it there, or has left it.
use Rattle.std.proofs.Common.{◌≡◌, ℕ, suc, ◌+◌, ◌≤◌, ◌⊎◌, inl, inr, Bool, true, false, not, ◌&&◌, if◌then◌else◌, List, [], ◌∷◌, ◌++◌, length, length-append, map, Option, Some, None, refl, sym, ap, ◌∙◌, subst, arith, append_assoc}
use Rattle.std.specs.List.{filter}
use Rattle.std.proofs.lemmas.Bool.{and_parts, ltb-true, lt-ltb}
use Rattle.std.proofs.lemmas.List.{map-append}
use Rattle.std.proofs.lemmas.List.Elements.{filter-append}
use Rattle.m2_session.specs.declared.ask.AskFacts.{AskFacts}
use Rattle.m2_journal.specs.m2_fabric.declared.socket.SocketId.{SocketId}
use Rattle.m2_journal.specs.m2_fabric.Sockets.{same_socket}
use Rattle.m2_session.specs.declared.answer.Answer.{Answer}
use Rattle.m2_session.specs.declared.session.Phase.{Phase}
use Rattle.m2_session.specs.declared.session.Phase.TheVariants as phase
use Rattle.m2_journal.specs.Lawful.{judged_on, judged_sockets}
use Rattle.m2_journal.specs.Laws.{IfFed}
use Rattle.m2_journal.specs.OutFrames.{OutFrame}
use Rattle.m2_journal.specs.State.{Feed, Judgement, SentFrame, State}
use Rattle.m2_never_reset.specs.Asks.{Ask, AtMost}
use Rattle.m2_never_reset.specs.Link.{asking, apart, by_near, by_far}
use Rattle.m2_never_reset.specs.Fits.{ask_by, AreItsAsks}
use Rattle.m2_never_reset.specs.Frames.{is_ask, asks_on, no_ask, last_ask, ask_now, answers_on, to_come}
use Rattle.m2_never_reset.specs.LinkOf.{is_feed, judged_count, is_unjudged, asks_left, joined_by, stand_asking, stand_on, stand_by, stand_of}
use Rattle.m2_never_reset.specs.Paired.{HasAsked, beside, FeedIsPaired}
use Rattle.m2_never_reset.proofs.Leaving.{chosen, stands_asking}
use Rattle.m2_never_reset.proofs.Links.{stand_same}
use Rattle.m2_never_reset.proofs.Sent.{last_of, to_come_here, to_come_elsewhere}
use Rattle.m2_never_reset.proofs.Stable.{judgement}
use Rattle.m2_journal.proofs.m2_fabric.Sockets.{same_refl, same_equal, same_turned}

-- ---- counts of judgements

abbrev sockets_of : List Judgement → List SocketId
sockets_of js = map (λ j. j.socket) js

counted : (k : SocketId) (js : List Judgement) → length (judged_on k js) ≡ judged_count k (sockets_of js)
counted k [] = refl
counted k (j ∷ js) = at (same_socket k j.socket) refl (counted k js)
  where
    at : (t : Bool) → same_socket k j.socket ≡ t → length (judged_on k js) ≡ judged_count k (sockets_of js) →
        length (judged_on k (j ∷ js)) ≡ judged_count k (sockets_of (j ∷ js))
    at true e h = rw e (ap suc h)
    at false e h = rw e h

pub asked_more : (k : SocketId) (js : List Judgement) (ask : AskFacts) (answer : Answer) →
    map (λ i. ask_by i.ask) (judged_on k (js ++ judgement k ask answer ∷ [])) ≡ map (λ i. ask_by i.ask)
    (judged_on k js) ++ ask_by ask ∷ []
asked_more k js ask answer =
    ap (λ l. map (λ i. ask_by i.ask) (map (λ j. j.item) l))
    (filter-append (λ j. same_socket k j.socket) js (judgement k ask answer ∷ []))
    ∙ ap (λ l. map (λ i. ask_by i.ask) l)
    (map-append (λ j. j.item) (filter (λ j. same_socket k j.socket) js) (filter (λ j. same_socket k j.socket) (judgement k ask answer ∷ [])))
    ∙ map-append (λ i. ask_by i.ask) (judged_on k js)
    (map (λ j. j.item) (filter (λ j. same_socket k j.socket) (judgement k ask answer ∷ [])))
    ∙ ap (λ l. map (λ i. ask_by i.ask) (judged_on k js) ++ map (λ i. ask_by i.ask) (map (λ j. j.item) l)) alone
  where
    alone : filter (λ j. same_socket k j.socket) (judgement k ask answer ∷ []) ≡ judgement k ask answer ∷ []
    alone = rw (same_refl k) refl

map_length : {X Y : Type 0} (h : X → Y) (xs : List X) → length (map h xs) ≡ length xs
map_length h [] = refl
map_length h (x ∷ xs) = ap suc (map_length h xs)

-- ---- the ask

-- the last ask that was sent on the socket is this one, it isn't judged, and nothing else was sent there
pub record IsAsked (k : SocketId) (q : Ask) (theirs : List SentFrame) (judged : List SocketId) : Type 0 where
  pub unjudged : is_unjudged k theirs judged ≡ true
  pub last : last_ask no_ask (asks_on k theirs) ≡ q
  pub alone : answers_on k theirs ≡ []

no_more : {X : Type 0} (xs ys : List X) (x : X) (n : ℕ) → length (xs ++ x ∷ ys) ≤ n + 1 → n ≡ length xs → ys ≡ []
no_more xs [] x n l e = refl
no_more xs (y ∷ ys) x n l e = let parts = length-append xs (x ∷ y ∷ ys) in absurd (omega (arith, l, e, parts))

pub is_asked : (k : SocketId) (ask : AskFacts) (answer : Answer) (js : List Judgement) (opened : List SocketId)
    (theirs : List SentFrame) →
    AreItsAsks opened theirs (js ++ judgement k ask answer ∷ []) k → length (asks_on k theirs) ≤ judged_count k
    (sockets_of js) + 1 →
    (is_unjudged k theirs (sockets_of js) ≡ true → answers_on k theirs ≡ []) → IsAsked k (ask_by ask) theirs
    (sockets_of js)
is_asked k ask answer js opened theirs its once alone =
    let asks = its.first in
    let qs = map (λ i. ask_by i.ask) (judged_on k js) in
    let all : asks_on k theirs ≡ qs ++ ask_by ask ∷ its.more = asks
    ∙ ap (λ l. l ++ its.more) (asked_more k js ask answer) ∙ append_assoc qs (ask_by ask ∷ []) its.more in
    let count : judged_count k (sockets_of js) ≡ length qs = sym (counted k js)
    ∙ sym (map_length (λ i. ask_by i.ask) (judged_on k js)) in
    let none : its.more ≡ [] = no_more qs its.more (ask_by ask) (judged_count k (sockets_of js))
    (subst (λ l. length l ≤ judged_count k (sockets_of js) + 1) all once) count in
    let whole : asks_on k theirs ≡ qs ++ ask_by ask ∷ [] = all ∙ ap (λ l. qs ++ ask_by ask ∷ l) none in
    let size : length (asks_on k theirs) ≡ length qs + 1 = ap length whole ∙ length-append qs (ask_by ask ∷ []) in
    let waiting : is_unjudged k theirs (sockets_of js) ≡ true = lt-ltb _ _ (omega (arith, size, count)) in
    record { unjudged = waiting; last = ap (last_ask no_ask) whole ∙ last_of no_ask (ask_by ask) qs; alone = alone waiting }

-- ---- fewer are unjudged behind a judgement

pub count-grows : {X : Type 0} (p : X → Bool) (xs ys : List X) → length (filter p xs) ≤ length (filter p (xs ++ ys))
count-grows p xs ys =
    let whole = ap length (filter-append p xs ys) in
    let parts = length-append (filter p xs) (filter p ys) in
    omega (arith, whole, parts)

pub fewer_unjudged : (socket : SocketId) (sent : List SentFrame) (judged more : List SocketId) →
    is_unjudged socket sent (judged ++ more) ≡ true → is_unjudged socket sent judged ≡ true
fewer_unjudged socket sent judged more e =
    let grows = count-grows (same_socket socket) judged more in
    let below = ltb-true _ _ e in
    lt-ltb _ _ (omega (arith, grows, below))

pub fewer_judged : (feed : Option Feed) (sent : List SentFrame) (js : List Judgement) (j : Judgement) →
    AtMost (asks_left feed sent (sockets_of js)) (asks_left feed sent (sockets_of (js ++ j ∷ [])))
fewer_judged feed sent js j socket a e =
    let test = chosen (not (is_feed feed socket) && is_unjudged socket sent (sockets_of (js ++ j ∷ [])))
    (last_ask no_ask (asks_on socket sent)) a e in
    let parts = and_parts (not (is_feed feed socket)) (is_unjudged socket sent (sockets_of (js ++ j ∷ []))) test.0 in
    let was = fewer_unjudged socket sent (sockets_of js) (j.socket ∷ [])
    (subst (λ l. is_unjudged socket sent l ≡ true) (map-append (λ j. j.socket) js (j ∷ [])) parts.1) in
    rw (parts.0, was) test.1

-- ---- the other side

-- it stands on the ask, and hears the frame
pub record HearsIt (k : SocketId) (q : Ask) (a b : State) : Type 0 where
  pub stands : stand_of b a ≡ asking q
  pub hears : (w : OutFrame) → is_ask w ≡ false → stand_by b.feed b.session.phase b.sent
      (a.sent ++ record { socket = k; frame = w } ∷ []) ≡ stand_asking q (w ∷ [])
  pub joined : (d : Feed) → d.socket ≡ k → d.opened ≡ false → joined_by (Some d) b.feed ≡ by_far

-- it has left the ask behind, and hears nothing
pub record HasLeftIt (k : SocketId) (q : Ask) (a b : State) : Type 0 where
  pub left : asks_left b.feed b.sent (judged_sockets a) k ≡ Some q
  pub deaf : (w : OutFrame) → stand_by b.feed b.session.phase b.sent
      (a.sent ++ record { socket = k; frame = w } ∷ []) ≡ stand_of b a
  pub apart_from : (d : Feed) → d.socket ≡ k → joined_by (Some d) b.feed ≡ apart

answered_on : (p : Phase) (e : Feed) (mine theirs : List SentFrame) (w : OutFrame) → HasAsked p →
    to_come e theirs ≡ w ∷ [] →
    stand_on p e mine theirs ≡ stand_asking (ask_now e mine) (w ∷ [])
answered_on phase.IdentSent e mine theirs w h c = ap (stand_asking (ask_now e mine)) c
answered_on phase.ReconnectSent e mine theirs w h c = ap (stand_asking (ask_now e mine)) c
answered_on phase.Connecting e mine theirs w h c = elim h [ ]
answered_on phase.Ready e mine theirs w h c = elim h [ ]
answered_on phase.Absent e mine theirs w h c = elim h [ ]
answered_on phase.Standby e mine theirs w h c = elim h [ ]
answered_on phase.Wait e mine theirs w h c = elim h [ ]

-- one or the other
module _ (k : SocketId) (q : Ask) (a b₀ : State) (its : IsAsked k q b₀.sent (judged_sockets a)) where
  abbrev with_feed : Option Feed → State
  with_feed o = record b₀ { feed = o }

  without : HasLeftIt k q a (with_feed None)
  without = record { left = rw its.unjudged (ap Some its.last); deaf = λ w. refl; apart_from = λ d e. refl }

  elsewhere : (e : Feed) → same_socket k e.socket ≡ false → HasLeftIt k q a (with_feed (Some e))
  elsewhere e h = record {
    left = rw (h, its.unjudged) (ap Some its.last);
    deaf = λ w. stand_same b₀.session.phase e b₀.sent a.sent (a.sent ++ record { socket = k; frame = w } ∷ [])
        (to_come_elsewhere e a.sent (record { socket = k; frame = w }) (same_turned e.socket k ∙ h));
    apart_from =
        λ d s. ap (λ t. if t then (if d.opened then by_near else by_far) else apart)
        (ap (same_socket e.socket) s ∙ same_turned e.socket k ∙ h);
  }

  here : (e : Feed) → same_socket k e.socket ≡ true → FeedIsPaired (beside (with_feed (Some e)) a) e →
      HearsIt k q a (with_feed (Some e))
  here e h paired =
      let one : k ≡ e.socket = same_equal k e.socket h in
      let waits = paired.unjudged (subst (λ s. is_unjudged s b₀.sent (judged_sockets a) ≡ true) one its.unjudged) in
      let asked : ask_now e b₀.sent ≡ q = subst (λ s. last_ask no_ask (asks_on s b₀.sent) ≡ q) one its.last in
      record {
        stands = stands_asking b₀.session.phase e b₀.sent a.sent waits.0 waits.1 ∙ ap asking asked;
        hears =
            λ w n. answered_on b₀.session.phase e b₀.sent (a.sent ++ record { socket = k; frame = w } ∷ []) w waits.0
            (to_come_here e a.sent (record { socket = k; frame = w }) n (same_turned e.socket k ∙ h) paired.sent ∙ ap (λ l. l ++ w ∷ []) waits.1)
            ∙ ap (λ z. stand_asking z (w ∷ [])) asked;
        joined = λ d s o. rw (s, o, same_turned e.socket k ∙ h) refl;
      }

  pub either : (o : Option Feed) → IfFed o (FeedIsPaired (beside (with_feed o) a)) →
      HearsIt k q a (with_feed o) ⊎ HasLeftIt k q a (with_feed o)
  either None h = inr without
  either (Some e) h = at (same_socket k e.socket) refl
    where
      at : (t : Bool) → same_socket k e.socket ≡ t →
          HearsIt k q a (with_feed (Some e)) ⊎ HasLeftIt k q a (with_feed (Some e))
      at true s = inl (here e s h)
      at false s = inr (elsewhere e s)
