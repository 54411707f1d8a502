-- At every point of an order of two journals of a lossy link in which bytes fit: what each side has heard are the first frames
-- that the other has sent there, and what it has accepted is some of what the other has composed.
use Rattle.std.proofs.Common.{◌≡◌, ℕ, ◌+◌, ◌≤◌, ◌⊎◌, inl, inr, Bool, true, false, if◌then◌else◌, List, [], ◌∷◌, ◌++◌, drop, length, map, Option, Some, None, refl, sym, ap, ◌∙◌, subst, arith, append-nil}
use Rattle.std.specs.List.{AllByRecursion}
use Rattle.m2_journal.specs.m2_control.declared.control.Control.TheVariants as control
use Rattle.m2_journal.specs.m2_fabric.declared.socket.SocketId.{SocketId}
use Rattle.m2_journal.specs.m2_fabric.Sockets.{is_among, same_socket}
use Rattle.m2_bytes_fit.specs.Ends.{Side}
use Rattle.m2_bytes_fit.specs.Halves.{BytesFit, KeepsRanges}
use Rattle.m2_bytes_fit.specs.Texts.{CanBePosted}
use Rattle.m2_bytes_fit.specs.m2_trail.Trails.{HalfBytes}
use Rattle.m2_bytes_fit.proofs.Bounded.{RestIsBounded, rest_after}
use Rattle.m2_bytes_fit.proofs.Composed.{AreComposed, can_be_sent, taken_in, unasked_so}
use Rattle.m2_bytes_fit.proofs.Entries.{FeedSo, entry_keeps}
use Rattle.m2_bytes_fit.proofs.Hands.{HandKept, HandSo, closing, hand_keeps}
use Rattle.m2_bytes_fit.proofs.Less.{less_trans, tells_less, untouched}
use Rattle.m2_bytes_fit.proofs.Hears.{NoAskBehind, near_hears}
use Rattle.m2_bytes_fit.proofs.Points.{Known, turn, near_judges}
use Rattle.m2_bytes_fit.proofs.Steps.{AllKept, kept_in_less, kept_quietly}
use Rattle.m2_journal.specs.Items as item
use Rattle.m2_journal.specs.Items.{JournalItem}
use Rattle.m2_journal.specs.Plan.{Planned}
use Rattle.m2_journal.specs.Lawful.{Lawful, judged_on, judged_sockets}
use Rattle.m2_journal.specs.Laws.{IfFed, ReplaysAreSound, taken_among}
use Rattle.m2_journal.specs.Replay.{AreLawful, after_items}
use Rattle.m2_journal.specs.Said.{says}
use Rattle.m2_journal.specs.SideFacts.{SideFacts}
use Rattle.m2_journal.specs.State.{Feed, Judgement, SentFrame, State, start}
use Rattle.m2_journal.specs.Steps.{after, tells}
use Rattle.m2_journal.proofs.Growing.{after-append}
use Rattle.m2_never_reset.specs.Fits.{AreItsAsks, HearsAt}
use Rattle.m2_never_reset.specs.Frames.{answers_on, asks_on}
use Rattle.m2_never_reset.specs.PairLaws.{IsNoDown}
use Rattle.m2_never_reset.specs.Orders.{posted_in, posts_in}
use Rattle.m2_never_reset.proofs.Answered.{next_of}
use Rattle.m2_never_reset.proofs.Read.{is_ident}
use Rattle.m2_never_reset.proofs.Sockets.{at_among}
use Rattle.m2_journal.specs.m2_session.SessionLaws as session
use Rattle.m2_journal.specs.m2_session.declared.event.Event.TheVariants as event
use Rattle.m2_journal.specs.m2_session.declared.session.Phase.{Phase}
use Rattle.m2_journal.specs.m2_session.declared.session.Phase.TheVariants as phase
use Rattle.m2_channel.proofs.Both.{Both, HasAcceptance, HasHeard, client_moves, server_moves}
use Rattle.m2_channel.proofs.Entries.{HasGotFor, IsLossySide, IsMoveOf, entry_moves}
use Rattle.m2_channel.proofs.Moves.{Spot, View, Move, rests, posts, opens, leaves, gives_up, refuses, takes_on, asks, settles, numbers, accepts, moved, posted_by, May, IfSpot, spot_of, view}
use Rattle.m2_channel.proofs.Named.{NamedKept, named_after}
use Rattle.m2_channel.proofs.Posted.{IsPosted, posted_after}
use Rattle.m2_channel.proofs.Sides.{SideIs, StandsIn, side_after}
use Rattle.m2_journal.proofs.m2_fabric.Sockets.{not_among_none}
use Rattle.m2_channel.proofs.Orders.{posts-append}
use Rattle.m2_journal.proofs.m2_lemmas.Booleans.{from_false_true}
use Rattle.m2_journal.proofs.JudgedOn.{lawful_front}

-- ---- a side by itself

pub record OneKept (f : SideFacts) (is : List JournalItem) (s : State) : Type 0 where
  pub kept : AllKept f is s
  pub lawful : AreLawful f is (start f)
  pub hand : HandKept s
  pub rest : RestIsBounded s
  pub named : NamedKept s
  pub composed : AreComposed f s.sent
  pub posted : IsPosted (posts_in is) (view s)

-- the one is the client, and the other the server
abbrev pub AreTwo : (f g : SideFacts) (a b : State) → Type 0
AreTwo f g a b = ((g.policy.server ≡ true) × Both f g (view a) (view b)) ⊎ ((f.policy.server ≡ true) × Both g f (view b) (view a))

abbrev pub state_at : SideFacts → List JournalItem → State
state_at f is = after_items f is (start f)

pub record PointKept (f g : SideFacts) (is js : List JournalItem) : Type 0 where
  pub near : OneKept f is (state_at f is)
  pub far : OneKept g js (state_at g js)
  pub both : AreTwo f g (state_at f is) (state_at g js)

-- ---- either way round

two_turned : (f g : SideFacts) (a b : State) → AreTwo f g a b → AreTwo g f b a
two_turned f g a b (inl h) = inr h
two_turned f g a b (inr h) = inl h

pub point_turned : (f g : SideFacts) (is js : List JournalItem) → PointKept f g is js → PointKept g f js is
point_turned f g is js h = record { near = h.far; far = h.near; both = two_turned f g (state_at f is) (state_at g js) h.both }

near_is : (f g : SideFacts) (a b : State) → AreTwo f g a b → SideIs f (view a)
near_is f g a b (inl h) = h.1.client
near_is f g a b (inr h) = h.1.server

far_is : (f g : SideFacts) (a b : State) → AreTwo f g a b → SideIs g (view b)
far_is f g a b (inl h) = h.1.server
far_is f g a b (inr h) = h.1.client

-- ---- what a side's feed is

spot_taken : (v : View) (p : Phase) (k : SocketId) (b : Bool) → b ≡ false → StandsIn v p (Some (record { socket = k; opened = b })) → is_among k (taken_among v.judgements) ≡ true
spot_taken v phase.Connecting k b e h = from_false_true (sym e ∙ h.opened)
spot_taken v phase.IdentSent k b e h = from_false_true (sym e ∙ h.opened)
spot_taken v phase.Ready k b e h = subst (λ t. is_among k (if t then v.opened else taken_among v.judgements) ≡ true) e h.there
spot_taken v phase.Absent k b e h = absurd h
spot_taken v phase.ReconnectSent k b e h = absurd h
spot_taken v phase.Standby k b e h = absurd h
spot_taken v phase.Wait k b e h = absurd h

spot_so : (v : View) (p : Phase) (k : SocketId) (b : Bool) → StandsIn v p (Some (record { socket = k; opened = b })) → ((p ≡ phase.Ready) ⊎ (answers_on k v.sent ≡ [])) × (b ≡ false → p ≡ phase.Ready)
spot_so v phase.Connecting k b h = (inr h.silent, λ e. from_false_true (sym e ∙ h.opened))
spot_so v phase.IdentSent k b h = (inr h.silent, λ e. from_false_true (sym e ∙ h.opened))
spot_so v phase.Ready k b h = (inl refl, λ e. refl)
spot_so v phase.Absent k b h = absurd h
spot_so v phase.ReconnectSent k b h = absurd h
spot_so v phase.Standby k b h = absurd h
spot_so v phase.Wait k b h = absurd h

feed_so : (f : SideFacts) (s : State) → SideIs f (view s) → IfFed s.feed (FeedSo s)
feed_so f s h = at s.feed h.stands
  where
    at : (o : Option Feed) → StandsIn (view s) s.session.phase (spot_of o) → IfFed o (FeedSo s)
    at None st = tt
    at (Some d) st = let so = spot_so (view s) s.session.phase d.socket d.opened st in record { asks_alone = so.0; taken = so.1 }

-- a socket that was taken was judged on
taken_judged : (k : SocketId) (js : List Judgement) → is_among k (taken_among js) ≡ true → 1 ≤ length (judged_on k js)
taken_judged k [] h = from_false_true h
taken_judged k (j ∷ js) h = at (same_socket k j.socket) (session.takes j.item.answer) refl refl h (taken_judged k js)
  where
    at : (a b : Bool) → same_socket k j.socket ≡ a → session.takes j.item.answer ≡ b → is_among k (taken_among (j ∷ js)) ≡ true → (is_among k (taken_among js) ≡ true → 1 ≤ length (judged_on k js)) →
        1 ≤ length (judged_on k (j ∷ js))
    at true b e g h later = rw e (omega arith)
    at false true e g h later = rw e (later (rw (g, e) at h))
    at false false e g h later = rw e (later (rw g at h))

no_ask_behind : (f g : SideFacts) (a b : State) → SideIs f (view a) → SideIs g (view b) → NoAskBehind a b
no_ask_behind f g a b h k = at a.feed h.stands
  where
    at : (o : Option Feed) → StandsIn (view a) a.session.phase (spot_of o) → IfFed o (λ d. d.opened ≡ false → length (asks_on d.socket b.sent) ≤ length (judged_on d.socket a.judgements))
    at None st = tt
    at (Some d) st = λ e.
        let some = taken_judged d.socket a.judgements (spot_taken (view a) a.session.phase d.socket d.opened e st) in
        omega (arith, k.frames.asked_once d.socket, some)

-- ---- what is known at a point

opened_apart : (f g : SideFacts) (a b : State) → AreTwo f g a b → (k : SocketId) → is_among k a.opened ≡ true → is_among k b.opened ≡ false
opened_apart f g a b (inl h) k e = not_among_none k b.opened h.1.opened
opened_apart f g a b (inr h) k e = from_false_true (sym (not_among_none k a.opened h.1.opened) ∙ e)

-- the same by what the sides opened alone
abbrev OnesOpened : State → State → Type 0
OnesOpened a b = (a.opened ≡ []) ⊎ (b.opened ≡ [])

ones_apart : (a b : State) → OnesOpened a b → (k : SocketId) → is_among k a.opened ≡ true → is_among k b.opened ≡ false
ones_apart a b (inl e) k h = from_false_true (sym (not_among_none k a.opened e) ∙ h)
ones_apart a b (inr e) k h = not_among_none k b.opened e

abbrev pub side_at : SideFacts → List JournalItem → (SocketId → HalfBytes) → Side
side_at f is halves = record { facts = f; entries = is; halves = halves }

known_at : (f g : SideFacts) (is js : List JournalItem) (p q : SocketId → HalfBytes) → KeepsRanges f → KeepsRanges g → AllKept f is (state_at f is) → AllKept g js (state_at g js) →
    AreComposed f (state_at f is).sent → AreComposed g (state_at g js).sent → OnesOpened (state_at f is) (state_at g js) → BytesFit (side_at f is p) (side_at g js q) →
    Known (side_at f is p) (side_at g js q)
known_at f g is js p q near_named far_named near far near_sent far_sent opened bytes = record {
  near_kept = near;
  far_kept = far;
  bytes = bytes;
  apart = ones_apart (state_at f is) (state_at g js) opened;
  near_sent = can_be_sent f (state_at f is).sent near_sent;
  far_sent = can_be_sent g (state_at g js).sent far_sent;
  near_named = near_named;
  far_named = far_named;
}

two_opened : (f g : SideFacts) (a b : State) → AreTwo f g a b → OnesOpened a b
two_opened f g a b (inl h) = inr h.1.opened
two_opened f g a b (inr h) = inl h.1.opened

-- nothing was judged where nothing was opened
none_judged : (sockets : List SocketId) (theirs : List SentFrame) (all js : List Judgement) → sockets ≡ [] → AllByRecursion (AreItsAsks sockets theirs all) (map (λ (j : Judgement). j.socket) js) → js ≡ []
none_judged sockets theirs all [] e h = refl
none_judged sockets theirs all (j ∷ js) e h = from_false_true (sym (not_among_none j.socket sockets e) ∙ h.0.opened)

-- an acceptance that was got was sent
got_accepted : (o : Option Feed) (p : Option Spot) (theirs : List SentFrame) → HearsAt o theirs → (c : ℕ) → HasGotFor (settles c) o → spot_of o ≡ p → IfSpot p (λ q. HasAcceptance q.socket theirs)
got_accepted None p theirs heard c got e = absurd got
got_accepted (Some d) p theirs heard c got e =
    let next = next_of got.place d.got (answers_on d.socket theirs) (says (control.ServerIdent got.ident)) (λ r. r) heard got.got in
    subst (λ z. IfSpot z (λ q. HasAcceptance q.socket theirs)) e (record {
      place = got.place;
      cookie = got.ident.cookie;
      global = got.ident.global;
      more = drop (got.place + 1) (answers_on d.socket theirs);
      first = next.first ∙ ap (λ w. w ∷ drop (got.place + 1) (answers_on d.socket theirs)) (is_ident got.ident next.frame next.says);
    })

heard_for : (m : Move) (v : View) (t : State) (theirs : List SentFrame) → view t ≡ moved m v → HearsAt t.feed theirs → HasGotFor m t.feed → HasHeard m v theirs
heard_for (settles c) v t theirs e heard got = got_accepted t.feed v.feed theirs heard c got (ap (λ (w : View). w.feed) e)
heard_for rests v t theirs e heard got = tt
heard_for (posts m) v t theirs e heard got = tt
heard_for (opens k) v t theirs e heard got = tt
heard_for (leaves p thrown) v t theirs e heard got = tt
heard_for gives_up v t theirs e heard got = tt
heard_for (refuses k ws item) v t theirs e heard got = tt
heard_for (takes_on k c g item) v t theirs e heard got = tt
heard_for (asks c g) v t theirs e heard got = tt
heard_for (numbers n m) v t theirs e heard got = tt
heard_for (accepts x) v t theirs e heard got = tt

-- a server opens nothing
still_unopened : (f : SideFacts) (theirs : List SentFrame) (m : Move) (v : View) → f.policy.server ≡ true → May f theirs m v → v.opened ≡ [] → (moved m v).opened ≡ []
still_unopened f theirs (opens k) v server may e = from_false_true (sym may.client ∙ server)
still_unopened f theirs rests v server may e = e
still_unopened f theirs (posts m) v server may e = e
still_unopened f theirs (leaves p thrown) v server may e = e
still_unopened f theirs gives_up v server may e = e
still_unopened f theirs (refuses k ws item) v server may e = e
still_unopened f theirs (takes_on k c g item) v server may e = e
still_unopened f theirs (asks c g) v server may e = e
still_unopened f theirs (settles c) v server may e = e
still_unopened f theirs (numbers n m) v server may e = e
still_unopened f theirs (accepts x) v server may e = e

-- ---- an entry that marks the side down, and any other

pub record IsDown (i : JournalItem) : Type 0 where
  pub planned : Bool
  pub step : Option Planned
  pub is : i ≡ item.down planned step

pub down_or_not : (i : JournalItem) → IsNoDown i ⊎ IsDown i
down_or_not (item.post place planned) = inl tt
down_or_not (item.dial planned) = inl tt
down_or_not (item.opened k) = inl tt
down_or_not (item.read k bytes) = inl tt
down_or_not (item.wrote k bytes) = inl tt
down_or_not (item.closed k broken) = inl tt
down_or_not (item.judged k ask number given unread trail) = inl tt
down_or_not (item.asked ident number) = inl tt
down_or_not (item.numbered number) = inl tt
down_or_not (item.accepted number key) = inl tt
down_or_not (item.acked number) = inl tt
down_or_not (item.obeyed full) = inl tt
down_or_not (item.down planned step) = inr record { planned = planned; step = step; is = refl }

down_keeps : (f : SideFacts) (is : List JournalItem) (planned : Bool) (step : Option Planned) (s : State) → AllKept f is s → AllKept f (is ++ item.down planned step ∷ []) (after f (item.down planned step) s)
down_keeps f is planned step s h =
    let t = tells event.MarkedDown s in
    kept_quietly f is (item.down planned step) (after f (item.down planned step) s) (λ k. record { read = refl; wrote = refl; taken = refl })
    (kept_in_less f is s (after f (item.down planned step) s) (less_trans s t (after f (item.down planned step) s) (tells_less event.MarkedDown s) (untouched t (after f (item.down planned step) s) refl refl refl refl)) h)

pub any_keeps : (f : SideFacts) (is : List JournalItem) (i : JournalItem) (s : State) → Lawful f i s → HandKept s → IfFed s.feed (FeedSo s) → AllKept f is s → AllKept f (is ++ i ∷ []) (after f i s)
any_keeps f is i s l hand so h = at (down_or_not i)
  where
    at : IsNoDown i ⊎ IsDown i → AllKept f (is ++ i ∷ []) (after f i s)
    at (inl up) = entry_keeps f is i s up l hand so h
    at (inr d) = subst (λ j. AllKept f (is ++ j ∷ []) (after f j s)) (sym d.is) (down_keeps f is d.planned d.step s h)

pub any_hand : (f : SideFacts) (i : JournalItem) (s : State) → Lawful f i s → HandKept s → HandKept (after f i s)
any_hand f i s l h = at (down_or_not i)
  where
    fed_nothing : (planned : Bool) (step : Option Planned) → HandKept (after f (item.down planned step) s)
    fed_nothing planned step = subst (λ o. IfFed o (HandSo (after f (item.down planned step) s))) (sym (closing event.MarkedDown s refl)) tt

    at : IsNoDown i ⊎ IsDown i → HandKept (after f i s)
    at (inl up) = hand_keeps f i s up l h
    at (inr d) = subst (λ j. HandKept (after f j s)) (sym d.is) (fed_nothing d.planned d.step)

-- ---- an entry more

pub record AreNamed (f g : SideFacts) : Type 0 where
  pub near_lossy : f.policy.lossy ≡ true
  pub far_lossy : g.policy.lossy ≡ true
  pub near : KeepsRanges f
  pub far : KeepsRanges g

module _ (sound : ReplaysAreSound) (f g : SideFacts) (n : AreNamed f g) (is js : List JournalItem) (i : JournalItem) (p q p' q' : SocketId → HalfBytes) (h : PointKept f g is js)
    (bytes : BytesFit (side_at f is p) (side_at g js q)) (bytes' : BytesFit (side_at f (is ++ i ∷ []) p') (side_at g js q')) (all_lawful : AreLawful f (is ++ i ∷ []) (start f))
    (can : CanBePosted i) where
  abbrev a : State
  a = state_at f is

  abbrev b : State
  b = state_at g js

  abbrev t : State
  t = after f i a

  l : Lawful f i a
  l = (lawful_front f is (i ∷ []) (start f) all_lawful).1.0

  known : Known (side_at f is p) (side_at g js q)
  known = known_at f g is js p q n.near n.far h.near.kept h.far.kept h.near.composed h.far.composed (two_opened f g a b h.both) bytes

  hears : HearsAt a.feed b.sent
  hears = near_hears (side_at f is p) (side_at g js q) known (no_ask_behind f g a b (near_is f g a b h.both) (far_is f g a b h.both))

  its : IsLossySide f a b.sent
  its = record {
    lossy = n.near_lossy;
    ranges = n.near;
    sound = (sound f is h.near.lawful).session;
    side = near_is f g a b h.both;
    rest = h.near.rest;
    named = h.near.named;
    composed = h.near.composed;
    hears = hears;
  }

  move : IsMoveOf f b.sent i a
  move = entry_moves f a b.sent its i l

  side' : SideIs f (view t)
  side' = subst (SideIs f) (sym move.is) (side_after f b.sent (view a) its.side move.move move.may)

  kept' : AllKept f (is ++ i ∷ []) t
  kept' = any_keeps f is i a l h.near.hand (feed_so f a its.side) h.near.kept

  state_is : state_at f (is ++ i ∷ []) ≡ t
  state_is = after-append f is (i ∷ []) (start f)

  near' : OneKept f (is ++ i ∷ []) t
  near' = record {
    kept = kept';
    lawful = all_lawful;
    hand = any_hand f i a l h.near.hand;
    rest = rest_after f i a can (taken_in f g i a b.sent l h.far.composed hears) (unasked_so a.feed b.sent hears) h.near.rest;
    named = named_after f i a n.near_lossy (unasked_so a.feed b.sent hears) h.near.named;
    composed = move.composed;
    posted =
        subst (λ ms. IsPosted ms (view t)) (sym (posts-append is (i ∷ []) ∙ ap (λ l. posts_in is ++ l) (append-nil (posted_in i) ∙ move.posted)))
        (subst (IsPosted (posts_in is ++ posted_by move.move)) (sym move.is) (posted_after f b.sent (posts_in is) (view a) its.side h.near.posted move.move move.may));
  }

  -- where one of the two has opened nothing
  module _ (opened : OnesOpened t b) where
    known' : Known (side_at f (is ++ i ∷ []) p') (side_at g js q')
    known' = known_at f g (is ++ i ∷ []) js p' q' n.near n.far (subst (AllKept f (is ++ i ∷ [])) (sym state_is) kept') h.far.kept
        (subst (λ (z : State). AreComposed f z.sent) (sym state_is) move.composed) h.far.composed (subst (λ z. OnesOpened z b) (sym state_is) opened) bytes'

    hears' : HearsAt t.feed b.sent
    hears' =
        subst (λ (z : State). HearsAt z.feed b.sent) state_is
        (near_hears (side_at f (is ++ i ∷ []) p') (side_at g js q') known' (subst (λ z. NoAskBehind z b) (sym state_is) (no_ask_behind f g t b side' (far_is f g a b h.both))))

    judges' : AllByRecursion (AreItsAsks b.opened b.sent t.judgements) (judged_sockets t)
    judges' = subst (λ z. AllByRecursion (AreItsAsks b.opened b.sent z.judgements) (judged_sockets z)) state_is (near_judges (side_at f (is ++ i ∷ []) p') (side_at g js q') known')

  both' : AreTwo f g a b → AreTwo f g t b
  both' (inl (server, k)) =
      let opened : OnesOpened t b = inr k.opened in
      let unjudged : t.judgements ≡ [] = none_judged b.opened b.sent t.judgements t.judgements k.opened (judges' opened) in
      inl (
        server,
        subst (λ v. Both f g v (view b)) (sym move.is)
            (client_moves f g (view a) (view b) k move.move move.may (sym (ap (λ (v : View). v.judgements) move.is) ∙ unjudged)
            (heard_for move.move (view a) t b.sent move.is (hears' opened) move.got)
            (λ j e. (at_among (AreItsAsks a.opened a.sent b.judgements) (judged_sockets b) j (near_judges (side_at g js q) (side_at f is p) (turn (side_at f is p) (side_at g js q) known)) e).opened)),
      )
  both' (inr (server, k)) =
      inr (
        server,
        subst (λ v. Both g f (view b) v) (sym move.is)
            (server_moves g f (view b) (view a) k move.move move.may (still_unopened f b.sent move.move (view a) server move.may k.opened)),
      )

  pub one_more : PointKept f g (is ++ i ∷ []) js
  one_more = record {
    near = subst (OneKept f (is ++ i ∷ [])) (sym state_is) near';
    far = h.far;
    both = subst (λ z. AreTwo f g z b) (sym state_is) (both' h.both);
  }
