-- The asks that a side leaves where it leaves its socket.
use Rattle.std.proofs.Common.{◌≡◌, ◌⊎◌, inl, inr, Bool, true, false, not, ◌&&◌, if◌then◌else◌, List, [], Option, Some, None, is_some, refl, ap, ◌∙◌, subst}
use Rattle.m2_journal.specs.m2_fabric.declared.socket.SocketId.{SocketId}
use Rattle.m2_journal.specs.m2_fabric.Sockets.{same_socket}
use Rattle.m2_session.specs.declared.session.Phase.{Phase}
use Rattle.m2_session.specs.declared.session.Phase.TheVariants as phase
use Rattle.m2_journal.specs.Laws.{IfFed}
use Rattle.m2_journal.specs.State.{Feed, SentFrame}
use Rattle.m2_never_reset.specs.Asks.{Ask, Asks, AtMost}
use Rattle.m2_never_reset.specs.Link.{Stand, asking}
use Rattle.m2_never_reset.specs.Steps.{LeavesAt}
use Rattle.m2_never_reset.specs.Frames.{asks_on, no_ask, last_ask, ask_now, to_come}
use Rattle.m2_never_reset.specs.LinkOf.{is_feed, asks_left, is_unjudged, stand_on, stand_by}
use Rattle.m2_never_reset.specs.Paired.{HasAsked}
use Rattle.m2_queues.proofs.m2_lemmas.Booleans.{from_false_true}
use Rattle.m2_journal.proofs.m2_fabric.Sockets.{same_equal}

-- a choice that gives something has its test true
pub chosen : {X : Type 0} (t : Bool) (x y : X) → (if t then Some x else None) ≡ Some y → (t ≡ true) × (Some x ≡ Some y)
chosen true x y e = (refl, e)
chosen false x y e = from_false_true (ap is_some e)

-- no ask is left where a feed is that wasn't left before
pub fewer_left : (d : Feed) (sent : List SentFrame) (judged : List SocketId) →
    AtMost (asks_left None sent judged) (asks_left (Some d) sent judged)
fewer_left d sent judged k a e = at (is_feed (Some d) k) e
  where
    at : (t : Bool) →
        (if not t && is_unjudged k sent judged then Some (last_ask no_ask (asks_on k sent)) else None) ≡ Some a →
        asks_left None sent judged k ≡ Some a
    at true h = from_false_true (ap is_some h)
    at false h = h

pub stands_asking : (p : Phase) (d : Feed) (mine theirs : List SentFrame) → HasAsked p → to_come d theirs ≡ [] →
    stand_on p d mine theirs ≡ asking (ask_now d mine)
stands_asking phase.IdentSent d mine theirs h e = rw e refl
stands_asking phase.ReconnectSent d mine theirs h e = rw e refl
stands_asking phase.Connecting d mine theirs h e = elim h [ ]
stands_asking phase.Ready d mine theirs h e = elim h [ ]
stands_asking phase.Absent d mine theirs h e = elim h [ ]
stands_asking phase.Standby d mine theirs h e = elim h [ ]
stands_asking phase.Wait d mine theirs h e = elim h [ ]

abbrev pub WaitsUnjudged : Option Feed → Phase → (mine theirs : List SentFrame) → (judged : List SocketId) → Type 0
WaitsUnjudged o p mine theirs judged =
    IfFed o (λ d. is_unjudged d.socket mine judged ≡ true → HasAsked p × (to_come d theirs ≡ []))

pub leaves_at : (o : Option Feed) (p : Phase) (mine theirs : List SentFrame) (judged : List SocketId) →
    WaitsUnjudged o p mine theirs judged →
    LeavesAt (stand_by o p mine theirs) (asks_left o mine judged) (asks_left None mine judged)
leaves_at None p mine theirs judged h k a e = inl e
leaves_at (Some d) p mine theirs judged h k a e = by_feed (same_socket k d.socket) refl
  where
    it : (is_unjudged k mine judged ≡ true) × (Some (last_ask no_ask (asks_on k mine)) ≡ Some a)
    it = chosen (is_unjudged k mine judged) (last_ask no_ask (asks_on k mine)) a e

    by_feed : (t : Bool) → same_socket k d.socket ≡ t →
        (asks_left (Some d) mine judged k ≡ Some a) ⊎ (stand_on p d mine theirs ≡ asking a)
    by_feed true s =
        let here = same_equal k d.socket s in
        let waits = h (subst (λ j. is_unjudged j mine judged ≡ true) here it.0) in
        inr (stands_asking p d mine theirs waits.0 waits.1 ∙ ap asked_by (subst (λ j. Some (last_ask no_ask (asks_on j mine)) ≡ Some a) here it.1))
      where
        asked_by : Option Ask → Stand
        asked_by (Some q) = asking q
        asked_by None = asking no_ask
    by_feed false s = inl (rw s e)

-- and where no more of them are left by then
pub leaves_fewer : (s : Stand) (old new less : Asks) → LeavesAt s old new → AtMost new less → LeavesAt s old less
leaves_fewer s old new less l m k a e = l k a (m k a e)
