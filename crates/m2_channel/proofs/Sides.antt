-- What holds of one side of a lossy link, wherever its moves have led.
use Rattle.std.proofs.Common.{◌≡◌, ℕ, ◌+◌, ◌≤◌, ◌⊎◌, inl, inr, Bool, true, false, if◌then◌else◌, List, [], ◌∷◌, ◌++◌, length, map, Option, Some, None, refl, sym, ap, ◌∙◌, subst, arith, append-nil, append_assoc, length-append}
use Rattle.std.specs.List.{AllByRecursion, filter, filter_map}
use Rattle.std.proofs.lemmas.Bool.{false_from_ne_true}
use Rattle.std.proofs.lemmas.List.{map-append}
use Rattle.std.proofs.lemmas.List.Elements.{filter-append}
use Rattle.m2_channel.specs.Channel.{KeyedMessage}
use Rattle.m2_never_reset.specs.Asks.{by_ident}
use Rattle.m2_journal.specs.m2_fabric.declared.socket.SocketId.{SocketId}
use Rattle.m2_journal.specs.m2_fabric.Sockets.{is_among, same_socket}
use Rattle.m2_journal.specs.declared.entry.JudgedItem.{JudgedItem}
use Rattle.m2_journal.specs.Lawful.{key_of}
use Rattle.m2_journal.specs.Laws.{taken_among}
use Rattle.m2_journal.specs.OutFrames as out
use Rattle.m2_journal.specs.OutFrames.{OutFrame}
use Rattle.m2_journal.specs.SideFacts.{SideFacts}
use Rattle.m2_journal.specs.State.{Judgement, SentFrame}
use Rattle.m2_journal.specs.m2_message.Message.{Content, priority_of}
use Rattle.m2_never_reset.specs.Frames.{asks_on, answers_on}
use Rattle.m2_never_reset.proofs.Sent.{answers_here, answers_same, answers_elsewhere, asks_here, asks_same, asks_elsewhere}
use Rattle.m2_never_reset.proofs.Sockets.{taken_is_judged}
use Rattle.m2_journal.proofs.m2_queues.ByRank.{Falls}
use Rattle.m2_journal.proofs.m2_queues.Joining.{falls-put_behind}
use Rattle.m2_journal.specs.m2_queues.OutQueues.{Queue}
use Rattle.m2_journal.specs.m2_session.SessionLaws as session
use Rattle.m2_journal.specs.m2_session.declared.session.Phase.{Phase}
use Rattle.m2_journal.specs.m2_session.declared.session.Phase.TheVariants as phase
use Rattle.m2_channel.proofs.Frames.{AreNumbered, IsMute, mail_of, mails_on, mails_here, mails_elsewhere, mails_same, mute_no_mails, mute_says_nothing, SaysNothing, numbered_more}
use Rattle.m2_channel.proofs.Moves.{Spot, View, Move, rests, posts, opens, leaves, gives_up, refuses, takes_on, asks, settles, numbers, accepts, moved, May, IsAway, LeavesSo, judgement, on_socket, sent_first, thrown_away}
use Rattle.m2_journal.proofs.m2_fabric.Sockets.{not_among_front, same_equal, same_refl, among_last}
use Rattle.m2_journal.proofs.m2_queues.Histories.{falls-rest}
use Rattle.m2_journal.proofs.m2_lemmas.Lists.{all_append}
use Rattle.m2_journal.proofs.m2_lemmas.Booleans.{from_false_true}

-- ---- sockets

abbrev pub judged_in : List Judgement → List SocketId
judged_in js = map (λ (j : Judgement). j.socket) js

pub not_same : (k j : SocketId) (xs : List SocketId) → is_among k xs ≡ false → is_among j xs ≡ true → same_socket k j ≡ false
not_same k j xs e h = false_from_ne_true (same_socket k j) (λ s. from_false_true (sym e ∙ subst (λ z. is_among z xs ≡ true) (sym (same_equal k j s)) h))

pub judged_more : (js : List Judgement) (j : Judgement) → judged_in (js ++ j ∷ []) ≡ judged_in js ++ j.socket ∷ []
judged_more js j = map-append (λ (i : Judgement). i.socket) js (j ∷ [])

only : (j : Judgement) (b : Bool) → session.takes j.item.answer ≡ b → taken_among (j ∷ []) ≡ (if b then j.socket ∷ [] else [])
only j true e = rw e refl
only j false e = rw e refl

taken_both : (js : List Judgement) (j : Judgement) → taken_among (js ++ j ∷ []) ≡ taken_among js ++ taken_among (j ∷ [])
taken_both js j =
    ap (map (λ (i : Judgement). i.socket)) (filter-append (λ (i : Judgement). session.takes i.item.answer) js (j ∷ []))
    ∙ map-append (λ (i : Judgement). i.socket) (filter (λ (i : Judgement). session.takes i.item.answer) js) (filter (λ (i : Judgement). session.takes i.item.answer) (j ∷ []))

pub taken_more : (js : List Judgement) (j : Judgement) → session.takes j.item.answer ≡ true → taken_among (js ++ j ∷ []) ≡ taken_among js ++ j.socket ∷ []
taken_more js j e = taken_both js j ∙ ap (λ l. taken_among js ++ l) (only j true e)

pub taken_same : (js : List Judgement) (j : Judgement) → session.takes j.item.answer ≡ false → taken_among (js ++ j ∷ []) ≡ taken_among js
taken_same js j e = taken_both js j ∙ ap (λ l. taken_among js ++ l) (only j false e) ∙ append-nil (taken_among js)

-- ---- the frames that were composed

pub record FramesAre (opened : List SocketId) (js : List Judgement) (sent : List SentFrame) : Type 0 where
  -- messages and acceptances on sockets alone that the side opened or took
  pub mute : (k : SocketId) → is_among k opened ≡ false → is_among k (taken_among js) ≡ false → AllByRecursion IsMute (answers_on k sent)
  -- nothing on others but those where it judged, and asks on the opened ones alone
  pub silent : (k : SocketId) → is_among k opened ≡ false → is_among k (judged_in js) ≡ false → answers_on k sent ≡ []
  pub unasked : (k : SocketId) → is_among k opened ≡ false → asks_on k sent ≡ []
  -- it asks at most once on a socket
  pub asked_once : (k : SocketId) → length (asks_on k sent) ≤ 1
  -- the messages of a socket are numbered from 1 on
  pub numbered : (k : SocketId) → AreNumbered 0 (mails_on k sent)

frames_ask : (opened : List SocketId) (js : List Judgement) (sent : List SentFrame) (k : SocketId) (cookie global : ℕ) → is_among k opened ≡ true → asks_on k sent ≡ [] → FramesAre opened js sent →
    FramesAre opened js (sent ++ record { socket = k; frame = out.ident cookie global } ∷ [])
frames_ask opened js sent k cookie global there none h = record {
  mute = λ j e t. subst (AllByRecursion IsMute) (sym (answers_same j sent x refl)) (h.mute j e t);
  silent = λ j e t. answers_same j sent x refl ∙ h.silent j e t;
  unasked = λ j e. asks_elsewhere j sent x (not_same j k opened e there) ∙ h.unasked j e;
  asked_once = λ j. once j (same_socket j k) refl;
  numbered = λ j. subst (AreNumbered 0) (sym (mails_same j sent x refl)) (h.numbered j);
}
  where
    x : SentFrame
    x = record { socket = k; frame = out.ident cookie global }

    once : (j : SocketId) (b : Bool) → same_socket j k ≡ b → length (asks_on j (sent ++ x ∷ [])) ≤ 1
    once j true e =
        let before : asks_on j sent ≡ [] = subst (λ z. asks_on z sent ≡ []) (sym (same_equal j k e)) none in
        let all = ap length (asks_here j sent x (by_ident (record { cookie = cookie; global = global })) refl e) in
        let parts = length-append (asks_on j sent) (by_ident (record { cookie = cookie; global = global }) ∷ []) in
        let none_yet = ap length before in
        omega (arith, all, parts, none_yet)
    once j false e = subst (λ l. length l ≤ 1) (sym (asks_elsewhere j sent x e)) (h.asked_once j)

-- a socket that is opened or was taken
abbrev pub IsOwn : List SocketId → List Judgement → SocketId → Type 0
IsOwn opened js k = (is_among k opened ≡ true) ⊎ (is_among k (taken_among js) ≡ true)

own_not : (opened : List SocketId) (js : List Judgement) (j k : SocketId) → is_among j opened ≡ false → is_among j (taken_among js) ≡ false → IsOwn opened js k → same_socket j k ≡ false
own_not opened js j k e t (inl h) = not_same j k opened e h
own_not opened js j k e t (inr h) = not_same j k (taken_among js) t h

own_not_judged : (opened : List SocketId) (js : List Judgement) (j k : SocketId) → is_among j opened ≡ false → is_among j (judged_in js) ≡ false → IsOwn opened js k → same_socket j k ≡ false
own_not_judged opened js j k e t (inl h) = not_same j k opened e h
own_not_judged opened js j k e t (inr h) = not_same j k (judged_in js) t (taken_is_judged js k h)

frames_mail : (opened : List SocketId) (js : List Judgement) (sent : List SentFrame) (k : SocketId) (number acked : ℕ) (m : Content) → IsOwn opened js k → number ≡ length (mails_on k sent) + 1 →
    FramesAre opened js sent → FramesAre opened js (sent ++ record { socket = k; frame = out.message number acked m } ∷ [])
frames_mail opened js sent k number acked m own next h = record {
  mute = λ j e t. subst (AllByRecursion IsMute) (sym (answers_elsewhere j sent x (own_not opened js j k e t own))) (h.mute j e t);
  silent = λ j e t. answers_elsewhere j sent x (own_not_judged opened js j k e t own) ∙ h.silent j e t;
  unasked = λ j e. asks_same j sent x refl ∙ h.unasked j e;
  asked_once = λ j. subst (λ l. length l ≤ 1) (sym (asks_same j sent x refl)) (h.asked_once j);
  numbered = λ j. more j (same_socket j k) refl;
}
  where
    x : SentFrame
    x = record { socket = k; frame = out.message number acked m }

    more : (j : SocketId) (b : Bool) → same_socket j k ≡ b → AreNumbered 0 (mails_on j (sent ++ x ∷ []))
    more j true e =
        subst (AreNumbered 0) (sym (mails_here j sent x refl e))
        (numbered_more 0 (mails_on j sent) (record { number = number; content = m }) (h.numbered j)
        (let at = subst (λ z. number ≡ length (mails_on z sent) + 1) (sym (same_equal j k e)) next in omega (arith, at)))
    more j false e = subst (AreNumbered 0) (sym (mails_elsewhere j sent x e)) (h.numbered j)

-- a frame that says nothing, on a socket on which an ask was judged
frames_mute : (opened : List SocketId) (js : List Judgement) (sent : List SentFrame) (k : SocketId) (w : OutFrame) → is_among k (judged_in js) ≡ true → IsMute w → FramesAre opened js sent →
    FramesAre opened js (sent ++ record { socket = k; frame = w } ∷ [])
frames_mute opened js sent k w judged mute h = record {
  mute = λ j e t. still j (same_socket j k) refl (h.mute j e t);
  silent = λ j e t. answers_elsewhere j sent x (not_same j k (judged_in js) t judged) ∙ h.silent j e t;
  unasked = λ j e. asks_same j sent x its.no_ask ∙ h.unasked j e;
  asked_once = λ j. subst (λ l. length l ≤ 1) (sym (asks_same j sent x its.no_ask)) (h.asked_once j);
  numbered = λ j. subst (AreNumbered 0) (sym (mails_same j sent x its.no_mail)) (h.numbered j);
}
  where
    x : SentFrame
    x = record { socket = k; frame = w }

    its : SaysNothing w
    its = mute_says_nothing w mute

    still : (j : SocketId) (b : Bool) → same_socket j k ≡ b → AllByRecursion IsMute (answers_on j sent) → AllByRecursion IsMute (answers_on j (sent ++ x ∷ []))
    still j true e old = subst (AllByRecursion IsMute) (sym (answers_here j sent x its.not_ask e)) (all_append IsMute (answers_on j sent) (w ∷ []) old (mute, tt))
    still j false e old = subst (AllByRecursion IsMute) (sym (answers_elsewhere j sent x e)) old

frames_mutes : (opened : List SocketId) (js : List Judgement) (sent : List SentFrame) (k : SocketId) (ws : List OutFrame) → is_among k (judged_in js) ≡ true → AllByRecursion IsMute ws → FramesAre opened js sent →
    FramesAre opened js (sent ++ on_socket k ws)
frames_mutes opened js sent k [] judged mute h = subst (FramesAre opened js) (sym (append-nil sent)) h
frames_mutes opened js sent k (w ∷ ws) judged mute h =
    let x : SentFrame = record { socket = k; frame = w } in
    subst (FramesAre opened js) (append_assoc sent (x ∷ []) (on_socket k ws))
    (frames_mutes opened js (sent ++ x ∷ []) k ws judged mute.1 (frames_mute opened js sent k w judged mute.0 h))

-- an acceptance, on a socket that was taken
frames_accepted : (opened : List SocketId) (js : List Judgement) (sent : List SentFrame) (k : SocketId) (cookie global : ℕ) → is_among k (taken_among js) ≡ true → FramesAre opened js sent →
    FramesAre opened js (sent ++ record { socket = k; frame = out.server_ident cookie global } ∷ [])
frames_accepted opened js sent k cookie global taken h = record {
  mute = λ j e t. subst (AllByRecursion IsMute) (sym (answers_elsewhere j sent x (not_same j k (taken_among js) t taken))) (h.mute j e t);
  silent = λ j e t. answers_elsewhere j sent x (not_same j k (judged_in js) t (taken_is_judged js k taken)) ∙ h.silent j e t;
  unasked = λ j e. asks_same j sent x refl ∙ h.unasked j e;
  asked_once = λ j. subst (λ l. length l ≤ 1) (sym (asks_same j sent x refl)) (h.asked_once j);
  numbered = λ j. subst (AreNumbered 0) (sym (mails_same j sent x refl)) (h.numbered j);
}
  where
    x : SentFrame
    x = record { socket = k; frame = out.server_ident cookie global }

-- more was opened, or judged
frames_opened : (opened more : List SocketId) (js : List Judgement) (sent : List SentFrame) → FramesAre opened js sent → FramesAre (opened ++ more) js sent
frames_opened opened more js sent h = record {
  mute = λ j e t. h.mute j (not_among_front j opened more e) t;
  silent = λ j e t. h.silent j (not_among_front j opened more e) t;
  unasked = λ j e. h.unasked j (not_among_front j opened more e);
  asked_once = h.asked_once;
  numbered = h.numbered;
}

taken_fewer : (k : SocketId) (js : List Judgement) (j : Judgement) → is_among k (taken_among (js ++ j ∷ [])) ≡ false → is_among k (taken_among js) ≡ false
taken_fewer k js j e = not_among_front k (taken_among js) (taken_among (j ∷ [])) (subst (λ l. is_among k l ≡ false) (taken_both js j) e)

frames_judged : (opened : List SocketId) (js : List Judgement) (j : Judgement) (sent : List SentFrame) → FramesAre opened js sent → FramesAre opened (js ++ j ∷ []) sent
frames_judged opened js j sent h = record {
  mute = λ k e t. h.mute k e (taken_fewer k js j t);
  silent = λ k e t. h.silent k e (not_among_front k (judged_in js) (j.socket ∷ []) (subst (λ l. is_among k l ≡ false) (judged_more js j) t));
  unasked = h.unasked;
  asked_once = h.asked_once;
  numbered = h.numbered;
}

-- ---- the queue

-- It keeps nothing that was sent. What waits stands in the order of priorities.
pub record IsPlain (q : Queue) : Type 0 where
  pub keeps : q.keeps ≡ false
  pub cursor : q.cursor ≡ 0
  pub kept : q.kept ≡ []
  pub written : q.written ≡ q.base
  pub falls : Falls priority_of q.waiting

plain_sent : (q : Queue) → IsPlain q → IsPlain (sent_first q)
plain_sent q h = record { keeps = h.keeps; cursor = h.cursor; kept = h.kept; written = omega (arith, h.written); falls = falls-rest q.waiting h.falls }

plain_thrown : (b : Bool) (q : Queue) → IsPlain q → IsPlain (thrown_away b q)
plain_thrown true q h = record { keeps = h.keeps; cursor = refl; kept = refl; written = refl; falls = tt }
plain_thrown false q h = record { keeps = h.keeps; cursor = refl; kept = h.kept; written = h.written; falls = h.falls }

-- ---- where the side stands

pub record Connects (v : View) (p : Spot) : Type 0 where
  pub cookie : v.cookie ≡ 0
  pub opened : p.opened ≡ true
  pub there : is_among p.socket v.opened ≡ true
  pub unasked : asks_on p.socket v.sent ≡ []
  pub silent : answers_on p.socket v.sent ≡ []

pub record HasAsked (v : View) (p : Spot) : Type 0 where
  pub cookie : v.cookie ≡ 0
  pub opened : p.opened ≡ true
  pub there : is_among p.socket v.opened ≡ true
  pub silent : answers_on p.socket v.sent ≡ []

pub record IsReady (v : View) (p : Spot) : Type 0 where
  pub there : is_among p.socket (if p.opened then v.opened else taken_among v.judgements) ≡ true
  -- as many messages were sent there as the number of the last one says
  pub count : length (mails_on p.socket v.sent) ≡ v.queue.base

abbrev pub StandsIn : View → Phase → Option Spot → Type 0
StandsIn v phase.Absent None = v.cookie ≡ 0
StandsIn v phase.Wait None = v.cookie ≡ 0
StandsIn v phase.Connecting (Some p) = Connects v p
StandsIn v phase.IdentSent (Some p) = HasAsked v p
StandsIn v phase.Ready (Some p) = IsReady v p
StandsIn v _ _ = ⊥

pub record SideIs (f : SideFacts) (v : View) : Type 0 where
  pub stands : StandsIn v v.phase v.feed
  pub queue : IsPlain v.queue
  pub frames : FramesAre v.opened v.judgements v.sent
  -- each message that was accepted has its key at this side
  pub keys : AllByRecursion (λ (x : KeyedMessage). x.key ≡ key_of f x.message) v.accepted

pub own_spot : (opened : List SocketId) (js : List Judgement) (k : SocketId) (b : Bool) → is_among k (if b then opened else taken_among js) ≡ true → IsOwn opened js k
own_spot opened js k true h = inl h
own_spot opened js k false h = inr h

-- ---- the moves of a side that is left or stays

stands_away : (v w : View) (p : Phase) → IsAway p → w.cookie ≡ 0 → StandsIn w p None
stands_away v w phase.Absent a e = e
stands_away v w phase.Wait a e = e
stands_away v w phase.Connecting a e = absurd a
stands_away v w phase.IdentSent a e = absurd a
stands_away v w phase.ReconnectSent a e = absurd a
stands_away v w phase.Ready a e = absurd a
stands_away v w phase.Standby a e = absurd a

cookie_in : (v : View) (o : Option Spot) → StandsIn v phase.IdentSent o → v.cookie ≡ 0
cookie_in v (Some p) h = h.cookie
cookie_in v None h = absurd h

-- it stands there still where nothing was sent there that counts, and no less was opened and judged
pub record Still (v w : View) : Type 0 where
  pub cookie : w.cookie ≡ v.cookie
  pub base : w.queue.base ≡ v.queue.base
  pub opened : (k : SocketId) → is_among k v.opened ≡ true → is_among k w.opened ≡ true
  pub taken : (k : SocketId) → is_among k (taken_among v.judgements) ≡ true → is_among k (taken_among w.judgements) ≡ true
  pub asks : (k : SocketId) → asks_on k w.sent ≡ asks_on k v.sent
  pub answers : (k : SocketId) → is_among k v.opened ≡ true → answers_on k w.sent ≡ answers_on k v.sent
  pub mails : (k : SocketId) → mails_on k w.sent ≡ mails_on k v.sent

stands_still : (v w : View) → Still v w → (p : Phase) (o : Option Spot) → StandsIn v p o → StandsIn w p o
stands_still v w s phase.Absent None h = s.cookie ∙ h
stands_still v w s phase.Wait None h = s.cookie ∙ h
stands_still v w s phase.Connecting (Some p) h = record {
  cookie = s.cookie ∙ h.cookie;
  opened = h.opened;
  there = s.opened p.socket h.there;
  unasked = s.asks p.socket ∙ h.unasked;
  silent = s.answers p.socket h.there ∙ h.silent;
}
stands_still v w s phase.IdentSent (Some p) h = record {
  cookie = s.cookie ∙ h.cookie;
  opened = h.opened;
  there = s.opened p.socket h.there;
  silent = s.answers p.socket h.there ∙ h.silent;
}
stands_still v w s phase.Ready (Some p) h = record { there = among p.opened h.there; count = ap length (s.mails p.socket) ∙ h.count ∙ sym s.base }
  where
    among : (b : Bool) → is_among p.socket (if b then v.opened else taken_among v.judgements) ≡ true → is_among p.socket (if b then w.opened else taken_among w.judgements) ≡ true
    among true t = s.opened p.socket t
    among false t = s.taken p.socket t
stands_still v w s phase.Absent (Some p) h = absurd h
stands_still v w s phase.Wait (Some p) h = absurd h
stands_still v w s phase.Connecting None h = absurd h
stands_still v w s phase.IdentSent None h = absurd h
stands_still v w s phase.Ready None h = absurd h
stands_still v w s phase.ReconnectSent o h = absurd h
stands_still v w s phase.Standby o h = absurd h

-- the frames of a refusal
asks_muted : (j k : SocketId) (ws : List OutFrame) (sent : List SentFrame) → AllByRecursion IsMute ws → asks_on j (sent ++ on_socket k ws) ≡ asks_on j sent
asks_muted j k [] sent h = ap (asks_on j) (append-nil sent)
asks_muted j k (w ∷ ws) sent h =
    let x : SentFrame = record { socket = k; frame = w } in
    ap (asks_on j) (sym (append_assoc sent (x ∷ []) (on_socket k ws))) ∙ asks_muted j k ws (sent ++ x ∷ []) h.1 ∙ asks_same j sent x (mute_says_nothing w h.0).no_ask

mails_muted : (j k : SocketId) (ws : List OutFrame) (sent : List SentFrame) → AllByRecursion IsMute ws → mails_on j (sent ++ on_socket k ws) ≡ mails_on j sent
mails_muted j k [] sent h = ap (mails_on j) (append-nil sent)
mails_muted j k (w ∷ ws) sent h =
    let x : SentFrame = record { socket = k; frame = w } in
    ap (mails_on j) (sym (append_assoc sent (x ∷ []) (on_socket k ws))) ∙ mails_muted j k ws (sent ++ x ∷ []) h.1 ∙ mails_same j sent x (mute_says_nothing w h.0).no_mail

answers_apart : (j k : SocketId) (ws : List OutFrame) (sent : List SentFrame) → same_socket j k ≡ false → answers_on j (sent ++ on_socket k ws) ≡ answers_on j sent
answers_apart j k [] sent e = ap (answers_on j) (append-nil sent)
answers_apart j k (w ∷ ws) sent e =
    let x : SentFrame = record { socket = k; frame = w } in
    ap (answers_on j) (sym (append_assoc sent (x ∷ []) (on_socket k ws))) ∙ answers_apart j k ws (sent ++ x ∷ []) e ∙ answers_elsewhere j sent x e

-- ---- every move

away_cookie : (v : View) (p : Phase) (o : Option Spot) → IsAway p → StandsIn v p o → v.cookie ≡ 0
away_cookie v phase.Absent None a h = h
away_cookie v phase.Wait None a h = h
away_cookie v phase.Absent (Some p) a h = absurd h
away_cookie v phase.Wait (Some p) a h = absurd h
away_cookie v phase.Connecting o a h = absurd a
away_cookie v phase.IdentSent o a h = absurd a
away_cookie v phase.ReconnectSent o a h = absurd a
away_cookie v phase.Ready o a h = absurd a
away_cookie v phase.Standby o a h = absurd a

module _ (f : SideFacts) (theirs : List SentFrame) (v : View) (h : SideIs f v) where
  after_post_move : (m : Content) → SideIs f (moved (posts m) v)
  after_post_move m = record {
    stands = stands_still v (moved (posts m) v) (record { cookie = refl; base = refl; opened = λ k e. e; taken = λ k e. e; asks = λ k. refl; answers = λ k e. refl; mails = λ k. refl }) v.phase v.feed h.stands;
    queue = record { keeps = h.queue.keeps; cursor = h.queue.cursor; kept = h.queue.kept; written = h.queue.written; falls = falls-put_behind priority_of v.queue.waiting m h.queue.falls };
    frames = h.frames;
    keys = h.keys;
  }

  after_open : (k : SocketId) → May f theirs (opens k) v → SideIs f (moved (opens k) v)
  after_open k may = record {
    stands = record {
      cookie = away_cookie v v.phase v.feed may.away h.stands;
      opened = refl;
      there = among_last k v.opened;
      unasked = h.frames.unasked k may.not_opened;
      silent = h.frames.silent k may.not_opened may.not_judged;
    };
    queue = h.queue;
    frames = frames_opened v.opened (k ∷ []) v.judgements v.sent h.frames;
    keys = h.keys;
  }

  after_leave : (p : Phase) (thrown : Bool) → May f theirs (leaves p thrown) v → SideIs f (moved (leaves p thrown) v)
  after_leave p thrown may = record {
    stands = stands_away v (moved (leaves p thrown) v) p may.0 (none thrown may.1);
    queue = plain_thrown thrown v.queue h.queue;
    frames = h.frames;
    keys = h.keys;
  }
    where
      none : (b : Bool) → LeavesSo b v.phase → (if b then 0 else v.cookie) ≡ 0
      none true l = refl
      none false l = cookie_in v v.feed (subst (λ q. StandsIn v q v.feed) l h.stands)

  after_giving_up : SideIs f (moved gives_up v)
  after_giving_up = record { stands = refl; queue = plain_thrown true v.queue h.queue; frames = h.frames; keys = h.keys }

  after_refusal : (k : SocketId) (ws : List OutFrame) (item : JudgedItem) → May f theirs (refuses k ws item) v → SideIs f (moved (refuses k ws item) v)
  after_refusal k ws item may = record {
    stands = stands_still v (moved (refuses k ws item) v) (record {
      cookie = refl;
      base = refl;
      opened = λ j e. e;
      taken = λ j e. subst (λ l. is_among j l ≡ true) (sym (taken_same v.judgements (judgement k item) may.refused)) e;
      asks = λ j. asks_muted j k ws v.sent may.mute;
      answers = λ j e. answers_apart j k ws v.sent (apart j e);
      mails = λ j. mails_muted j k ws v.sent may.mute;
    }) v.phase v.feed h.stands;
    queue = h.queue;
    frames =
        frames_mutes v.opened (v.judgements ++ judgement k item ∷ []) v.sent k ws
        (subst (λ l. is_among k l ≡ true) (sym (judged_more v.judgements (judgement k item))) (among_last k (judged_in v.judgements)))
        may.mute (frames_judged v.opened v.judgements (judgement k item) v.sent h.frames);
    keys = h.keys;
  }
    where
      apart : (j : SocketId) → is_among j v.opened ≡ true → same_socket j k ≡ false
      apart j e = false_from_ne_true (same_socket j k) (λ s. from_false_true (sym (subst (λ z. is_among z v.opened ≡ false) (sym (same_equal j k s)) may.not_opened) ∙ e))

  after_taking : (k : SocketId) (cookie global : ℕ) (item : JudgedItem) → May f theirs (takes_on k cookie global item) v → SideIs f (moved (takes_on k cookie global item) v)
  after_taking k cookie global item may = record {
    stands = record {
      there = there;
      count = ap length (mails_same k v.sent (record { socket = k; frame = out.server_ident cookie global }) refl ∙ mute_no_mails (answers_on k v.sent) (h.frames.mute k may.not_opened may.not_taken));
    };
    queue = record { keeps = h.queue.keeps; cursor = refl; kept = h.queue.kept; written = refl; falls = h.queue.falls };
    frames = frames_accepted v.opened (v.judgements ++ judgement k item ∷ []) v.sent k cookie global there (frames_judged v.opened v.judgements (judgement k item) v.sent h.frames);
    keys = h.keys;
  }
    where
      there : is_among k (taken_among (v.judgements ++ judgement k item ∷ [])) ≡ true
      there = subst (λ l. is_among k l ≡ true) (sym (taken_more v.judgements (judgement k item) may.taken)) (among_last k (taken_among v.judgements))

  after_ask : (cookie global : ℕ) → May f theirs (asks cookie global) v → SideIs f (moved (asks cookie global) v)
  after_ask cookie global may = at v.feed (subst (λ p. StandsIn v p v.feed) may h.stands)
    where
      at : (o : Option Spot) → StandsIn v phase.Connecting o → SideIs f (moved (asks cookie global) (record v { feed = o }))
      at None s = absurd s
      at (Some p) s = record {
        stands = record { cookie = s.cookie; opened = s.opened; there = s.there; silent = answers_same p.socket v.sent (record { socket = p.socket; frame = out.ident cookie global }) refl ∙ s.silent };
        queue = h.queue;
        frames = frames_ask v.opened v.judgements v.sent p.socket cookie global s.there s.unasked h.frames;
        keys = h.keys;
      }

  after_settling : (cookie : ℕ) → May f theirs (settles cookie) v → SideIs f (moved (settles cookie) v)
  after_settling cookie may = at v.feed (subst (λ p. StandsIn v p v.feed) may h.stands)
    where
      at : (o : Option Spot) → StandsIn v phase.IdentSent o → SideIs f (moved (settles cookie) (record v { feed = o }))
      at None s = absurd s
      at (Some p) s = record {
        stands = record {
          there = subst (λ b. is_among p.socket (if b then v.opened else taken_among v.judgements) ≡ true) (sym s.opened) s.there;
          count = ap (λ ws. length (filter_map mail_of ws)) s.silent;
        };
        queue = record { keeps = h.queue.keeps; cursor = refl; kept = h.queue.kept; written = refl; falls = h.queue.falls };
        frames = h.frames;
        keys = h.keys;
      }

  after_number : (n : ℕ) (m : Content) → May f theirs (numbers n m) v → SideIs f (moved (numbers n m) v)
  after_number n m may = at v.feed (subst (λ p. StandsIn v p v.feed) may.phase h.stands)
    where
      at : (o : Option Spot) → StandsIn v phase.Ready o → SideIs f (moved (numbers n m) (record v { feed = o }))
      at None s = absurd s
      at (Some p) s = record {
        stands = subst (λ q. StandsIn (moved (numbers n m) (record v { feed = Some p })) q (Some p)) (sym may.phase)
            (record { there = s.there; count = more });
        queue = plain_sent v.queue h.queue;
        frames = frames_mail v.opened v.judgements v.sent p.socket n v.last m (own_spot v.opened v.judgements p.socket p.opened s.there) (omega (arith, may.next, s.count)) h.frames;
        keys = h.keys;
      }
        where
          more : length (mails_on p.socket (v.sent ++ record { socket = p.socket; frame = out.message n v.last m } ∷ [])) ≡ v.queue.base + 1
          more =
              let one = ap length (mails_here p.socket v.sent (record { socket = p.socket; frame = out.message n v.last m }) refl (same_refl p.socket)) in
              let two = length-append (mails_on p.socket v.sent) (record { number = n; content = m } ∷ []) in
              omega (arith, one, two, s.count)

  after_acceptance : (x : KeyedMessage) → May f theirs (accepts x) v → SideIs f (moved (accepts x) v)
  after_acceptance x may = record {
    stands = stands_still v (moved (accepts x) v) (record { cookie = refl; base = refl; opened = λ k e. e; taken = λ k e. e; asks = λ k. refl; answers = λ k e. refl; mails = λ k. refl }) v.phase v.feed h.stands;
    queue = h.queue;
    frames = h.frames;
    keys = all_append (λ (x : KeyedMessage). x.key ≡ key_of f x.message) v.accepted (x ∷ []) h.keys (may.key, tt);
  }

  pub side_after : (m : Move) → May f theirs m v → SideIs f (moved m v)
  side_after rests may = h
  side_after (posts m) may = after_post_move m
  side_after (opens k) may = after_open k may
  side_after (leaves p thrown) may = after_leave p thrown may
  side_after gives_up may = after_giving_up
  side_after (refuses k ws item) may = after_refusal k ws item may
  side_after (takes_on k cookie global item) may = after_taking k cookie global item may
  side_after (asks cookie global) may = after_ask cookie global may
  side_after (settles cookie) may = after_settling cookie may
  side_after (numbers n m) may = after_number n m may
  side_after (accepts x) may = after_acceptance x may
