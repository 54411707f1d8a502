-- What is kept of each socket where one is opened, and where an ask is judged.
use Rattle.std.proofs.Common.{◌≡◌, ℕ, inr, Bool, true, false, ◌&&◌, if◌then◌else◌, List, [], ◌∷◌, ◌++◌, map, Option, Some, None, refl, sym, ap, ◌∙◌, subst, append_assoc, append-nil}
use Rattle.std.specs.List.{AllByRecursion, filter, filter_map}
use Rattle.std.proofs.lemmas.Grind.{flat_map-append}
use Rattle.std.proofs.lemmas.List.Elements.{filter-append}
use Rattle.std.proofs.lemmas.List.{map-append}
use Rattle.m2_feed.specs.m2_session.declared.ask.AskFacts.{AskFacts}
use Rattle.m2_feed.specs.m2_fabric.declared.socket.SocketId.{SocketId}
use Rattle.m2_feed.specs.m2_fabric.Sockets.{is_among, same_socket}
use Rattle.m2_feed.specs.m2_handshake.Course.{Course, text_of}
use Rattle.m2_feed.specs.m2_handshake.Moves.{is_authed}
use Rattle.m2_feed.specs.m2_session.declared.answer.Answer.{Answer}
use Rattle.m2_feed.specs.m2_session.declared.answer.Answer.TheVariants as answer
use Rattle.m2_feed.specs.m2_session.SessionLaws.{takes}
use Rattle.m2_feed.specs.m2_journal.declared.entry.JudgedItem.{JudgedItem}
use Rattle.m2_feed.specs.m2_journal.Feeds.{begun, greets, signs, opened_feed, silent_feed}
use Rattle.m2_feed.specs.m2_journal.Items as item
use Rattle.m2_feed.specs.m2_journal.Items.{JournalItem}
use Rattle.m2_feed.specs.m2_journal.Lawful.{judged_on, judged_sockets, may_ask_again}
use Rattle.m2_feed.specs.m2_journal.OutFrames.{OutFrame, is_unnamed, replies_of}
use Rattle.m2_feed.specs.m2_journal.Said.{split}
use Rattle.m2_feed.specs.m2_journal.SideFacts.{SideFacts}
use Rattle.m2_feed.specs.m2_journal.State.{Feed, Judgement, SentFrame, State}
use Rattle.m2_feed.specs.m2_journal.Steps.{opens}
use Rattle.m2_never_reset.specs.Frames.{is_ask, frames_on}
use Rattle.m2_never_reset.proofs.Sent.{frames_here, frames_elsewhere}
use Rattle.m2_bytes_fit.specs.Ends.{taken_in, read_on, wrote_on, takings_on}
use Rattle.m2_bytes_fit.specs.Texts.{texts_of}
use Rattle.m2_bytes_fit.proofs.Hearing.{Greets, greets_so}
use Rattle.m2_bytes_fit.proofs.Kept.{View, feed_on, view, replied, course_at, heard_of, IsNamed, OpenedFeed, UntakenKept, KeptBy, Kept, with_feed, kept_less, opened_put}
use Rattle.m2_bytes_fit.proofs.Less.{FeedLess}
use Rattle.m2_bytes_fit.proofs.Lists.{nil_not, some_not_none}
use Rattle.m2_bytes_fit.proofs.Puts.{HasPut, is_put, composed_put}
use Rattle.m2_bytes_fit.proofs.Says.{NoAsk}
use Rattle.m2_bytes_fit.proofs.Steps.{AllKept, read_next, wrote_next, takings_next, here_feed, other_feed}
use Rattle.m2_feed.proofs.m2_fabric.Sockets.{among_other, same_equal, among_last}
use Rattle.m2_feed.proofs.m2_lemmas.Booleans.{from_false_true}
use Rattle.m2_feed.proofs.m2_lemmas.Lists.{all_append}

-- ---- a socket is opened

same_hand : (b : Bool) (c : Course) (d e : Feed) → d.got ≡ e.got → d.rest ≡ e.rest → is_authed c.standing.stage ≡ b →
    ((signs c.standing d).hand ≡ (signs c.standing e).hand) × ((signs c.standing d).got ≡ (signs c.standing e).got) × ((signs c.standing d).rest ≡ (signs c.standing e).rest)
same_hand true c d e g r q = rw q (refl, ap (λ l. l ++ (split c.standing.rest).items) g, refl)
same_hand false c d e g r q = rw q (refl, g, r)

signs_keeps : (b : Bool) (c : Course) (d : Feed) → is_authed c.standing.stage ≡ b →
    ((signs c.standing d).socket ≡ d.socket) × ((signs c.standing d).opened ≡ d.opened) × ((signs c.standing d).texts ≡ d.texts)
signs_keeps true c d q = rw q (refl, refl, refl)
signs_keeps false c d q = rw q (refl, refl, refl)

nothing_put : (f : SideFacts) → HasPut f [] [] []
nothing_put f = record { each = tt; none = λ e. refl }

opened_there : (f : SideFacts) (k : SocketId) (last : ℕ) (owes : Bool) → OpenedFeed f [] [] [] (opened_feed f k last owes)
opened_there f k last owes =
    let c = course_at f [] in
    let put : Feed = record (silent_feed k true last owes) { texts = greets (text_of c.events) [] } in
    let same = same_hand (is_authed c.standing.stage) c put (silent_feed k true 0 false) refl refl refl in
    let keeps = signs_keeps (is_authed c.standing.stage) c put refl in
    let greeted : Greets f [] [] (text_of c.events) [] = greets_so f [] [] (text_of c.events) [] (nothing_put f) tt in
    record {
      opened = keeps.1;
      hand = same.0 ∙ ap (λ j. (heard_of f j []).hand) (sym keeps.0);
      got = same.1 ∙ ap (λ j. (heard_of f j []).got) (sym keeps.0);
      rest = same.2 ∙ ap (λ j. (heard_of f j []).rest) (sym keeps.0);
      put = subst (HasPut f [] (text_of c.events ++ [])) (sym keeps.2) (subst (λ l. HasPut f [] l (greets (text_of c.events) [])) (sym (append-nil (text_of c.events))) greeted.put);
      unsigned = inr (refl, subst (AllByRecursion IsNamed) (sym keeps.2) greeted.named);
    }

pub no_last : (xs : List JudgedItem) (x : JudgedItem) → [] ≡ xs ++ x ∷ [] → ⊥
no_last [] x e = nil_not e
no_last (y ∷ ys) x e = nil_not e

opens_here : (f : SideFacts) (v : View) (k : SocketId) (last : ℕ) (owes : Bool) → v.opened ≡ false → v.judged ≡ [] → Kept f v →
    (v.takings ≡ []) × Kept f (record v { opened = true; feed = Some (opened_feed f k last owes) })
opens_here f v k last owes closed none h = at v.opened v.takings closed refl h
  where
    at : (b : Bool) (ts : List (List ℕ)) → b ≡ false → v.takings ≡ ts → KeptBy f b ts v → (v.takings ≡ []) × KeptBy f true v.takings (record v { opened = true; feed = Some (opened_feed f k last owes) })
    at true ts q e g = from_false_true (sym q)
    at false [] q e g =
        let no_frames : v.frames ≡ [] = g.frames ∙ ap replied none in
        let feed : OpenedFeed f v.read v.wrote v.frames (opened_feed f k last owes) = rw (g.read, g.wrote, no_frames) (opened_there f k last owes) in (
          e,
          subst (λ ts. KeptBy f true ts (record v { opened = true; feed = Some (opened_feed f k last owes) })) (sym e) (record {
            unjudged = none;
            put = opened_put f v.read v.wrote v.frames (opened_feed f k last owes) feed;
            order = record { asks = []; mails = []; all = no_frames; are = tt; none = tt };
            feed = feed;
          }),
        )
    at false (u ∷ []) q e g = absurd (no_last g.before g.last (sym none ∙ g.judged))
    at false (u ∷ u' ∷ us) q e g = absurd g

pub not_judged_on : (k : SocketId) (js : List Judgement) → is_among k (map (λ j. j.socket) js) ≡ false → judged_on k js ≡ []
not_judged_on k [] e = refl
not_judged_on k (j ∷ js) e = at (same_socket k j.socket) refl (not_judged_on k js)
  where
    at : (b : Bool) → same_socket k j.socket ≡ b → (is_among k (map (λ j. j.socket) js) ≡ false → judged_on k js ≡ []) → judged_on k (j ∷ js) ≡ []
    at true q later = from_false_true (sym (rw q at e))
    at false q later = rw q (later (rw q at e))

pub kept_opens : (f : SideFacts) (is : List JournalItem) (k' : SocketId) (s : State) → is_among k' s.opened ≡ false → is_among k' (judged_sockets s) ≡ false →
    AllKept f is s → AllKept f (is ++ item.opened k' ∷ []) (opens f k' s)
kept_opens f is k' s closed unjudged h k = by_socket (same_socket k k') refl
  where
    i : JournalItem
    i = item.opened k'

    d : Feed
    d = opened_feed f k' s.last s.owes

    socket : d.socket ≡ k'
    socket = (signs_keeps (is_authed (course_at f []).standing.stage) (course_at f []) (record (silent_feed k' true s.last s.owes) { texts = greets (text_of (course_at f []).events) [] }) refl).0

    read : read_on k (is ++ i ∷ []) ≡ read_on k is
    read = read_next k is i ∙ append-nil (read_on k is)

    wrote : wrote_on k (is ++ i ∷ []) ≡ wrote_on k is
    wrote = wrote_next k is i ∙ append-nil (wrote_on k is)

    takings : takings_on k (is ++ i ∷ []) ≡ takings_on k is
    takings = takings_next k is i ∙ append-nil (takings_on k is)

    by_socket : (b : Bool) → same_socket k k' ≡ b → Kept f (view (is ++ i ∷ []) (opens f k' s) k)
    by_socket true e =
        let one = same_equal k k' e in
        let among : is_among k (s.opened ++ k' ∷ []) ≡ true = ap (λ j. is_among j (s.opened ++ k' ∷ [])) one ∙ among_last k' s.opened in
        let feed : feed_on k (Some d) ≡ Some d = here_feed k d (ap (same_socket k) socket ∙ e) in
        let it : view (is ++ i ∷ []) (opens f k' s) k ≡ record (view is s k) { opened = true; feed = Some d } = rw (read, wrote, takings, among, feed) refl in
        subst (Kept f) (sym it)
        (opens_here f (view is s k) k' s.last s.owes (ap (λ j. is_among j s.opened) one ∙ closed) (not_judged_on k s.judgements (ap (λ j. is_among j (judged_sockets s)) one ∙ unjudged)) (h k)).1
    by_socket false e =
        let among : is_among k (s.opened ++ k' ∷ []) ≡ is_among k s.opened = among_other k k' s.opened e in
        let feed : feed_on k (Some d) ≡ None = other_feed k d (ap (same_socket k) socket ∙ e) in
        let it : view (is ++ i ∷ []) (opens f k' s) k ≡ with_feed None (view is s k) = rw (read, wrote, takings, among, feed) refl in
        subst (Kept f) (sym it) (kept_less f (view is s k) None tt (h k))

-- ---- an ask is judged

takes_ends : (a : Answer) → takes a ≡ true → may_ask_again a ≡ true → ⊥
takes_ends answer.Accept t m = from_false_true m
takes_ends answer.AcceptOver t m = from_false_true m
takes_ends (answer.AcceptReset full) t m = from_false_true m
takes_ends answer.AcceptAgain t m = from_false_true m
takes_ends answer.AcceptReplace t m = from_false_true m
takes_ends answer.AcceptRace t m = from_false_true m
takes_ends answer.Resume t m = from_false_true m
takes_ends a t m = from_false_true t

takes_no_reply : (a : Answer) → takes a ≡ true → replies_of a ≡ []
takes_no_reply answer.Accept t = refl
takes_no_reply answer.AcceptOver t = refl
takes_no_reply (answer.AcceptReset full) t = refl
takes_no_reply answer.AcceptAgain t = refl
takes_no_reply answer.AcceptReplace t = refl
takes_no_reply answer.AcceptRace t = refl
takes_no_reply answer.Resume t = refl
takes_no_reply a t = from_false_true t

pub replies_no_asks : (a : Answer) → AllByRecursion NoAsk (replies_of a)
replies_no_asks answer.Wait = (refl, tt)
replies_no_asks (answer.Reset full) = (refl, tt)
replies_no_asks answer.ResetPending = (refl, tt)
replies_no_asks (answer.RetryGlobal n) = (refl, tt)
replies_no_asks (answer.Retry n) = (refl, tt)
replies_no_asks a = tt

pub replied_no_asks : (js : List JudgedItem) → AllByRecursion NoAsk (replied js)
replied_no_asks [] = tt
replied_no_asks (j ∷ js) = all_append NoAsk (replies_of j.answer) (replied js) (replies_no_asks j.answer) (replied_no_asks js)

pub replied_on : (js : List JudgedItem) (j : JudgedItem) → replied (js ++ j ∷ []) ≡ replied js ++ replies_of j.answer
replied_on js j = flat_map-append (λ (i : JudgedItem). replies_of i.answer) js (j ∷ []) ∙ ap (λ l. replied js ++ l) (append-nil (replies_of j.answer))

last_again : (xs : List JudgedItem) (x : JudgedItem) → AllByRecursion (λ (i : JudgedItem). may_ask_again i.answer ≡ true) (xs ++ x ∷ []) → may_ask_again x.answer ≡ true
last_again [] x h = h.0
last_again (y ∷ ys) x h = last_again ys x h.1

-- no socket of the peer is judged on once it was taken
untaken_here : (f : SideFacts) (v : View) → v.opened ≡ false → AllByRecursion (λ (i : JudgedItem). may_ask_again i.answer ≡ true) v.judged → Kept f v → (v.takings ≡ []) × UntakenKept v
untaken_here f v closed again h = at v.opened v.takings closed refl h
  where
    at : (b : Bool) (ts : List (List ℕ)) → b ≡ false → v.takings ≡ ts → KeptBy f b ts v → (v.takings ≡ []) × UntakenKept v
    at true ts q e g = from_false_true (sym q)
    at false [] q e g = (e, g)
    at false (u ∷ []) q e g = absurd (takes_ends g.last.answer g.took (last_again g.before g.last (subst (AllByRecursion (λ (i : JudgedItem). may_ask_again i.answer ≡ true)) g.judged again)))
    at false (u ∷ u' ∷ us) q e g = absurd g

pub judged_here : (k : SocketId) (js : List Judgement) (j : Judgement) → same_socket k j.socket ≡ true → judged_on k (js ++ j ∷ []) ≡ judged_on k js ++ j.item ∷ []
judged_here k js j e =
    ap (map (λ j. j.item)) (filter-append (λ j. same_socket k j.socket) js (j ∷ []) ∙ ap (λ l. filter (λ j. same_socket k j.socket) js ++ l) (rw e refl))
    ∙ map-append (λ j. j.item) (filter (λ j. same_socket k j.socket) js) (j ∷ [])

judged_elsewhere : (k : SocketId) (js : List Judgement) (j : Judgement) → same_socket k j.socket ≡ false → judged_on k (js ++ j ∷ []) ≡ judged_on k js
judged_elsewhere k js j e =
    ap (map (λ j. j.item)) (filter-append (λ j. same_socket k j.socket) js (j ∷ []) ∙ ap (λ l. filter (λ j. same_socket k j.socket) js ++ l) (rw e refl) ∙ append-nil _)

abbrev as_sent : SocketId → OutFrame → SentFrame
as_sent k w = record { socket = k; frame = w }

all_here : (k k' : SocketId) (ws : List OutFrame) (sent : List SentFrame) → same_socket k k' ≡ true → frames_on k (sent ++ map (λ w. record { socket = k'; frame = w }) ws) ≡ frames_on k sent ++ ws
all_here k k' [] sent e = ap (frames_on k) (append-nil sent) ∙ sym (append-nil (frames_on k sent))
all_here k k' (w ∷ ws) sent e =
    ap (frames_on k) (sym (append_assoc sent (as_sent k' w ∷ []) (map (λ w. record { socket = k'; frame = w }) ws)))
    ∙ all_here k k' ws (sent ++ as_sent k' w ∷ []) e ∙ ap (λ l. l ++ ws) (frames_here k sent (as_sent k' w) e) ∙ append_assoc (frames_on k sent) (w ∷ []) ws

all_elsewhere : (k k' : SocketId) (ws : List OutFrame) (sent : List SentFrame) → same_socket k k' ≡ false → frames_on k (sent ++ map (λ w. record { socket = k'; frame = w }) ws) ≡ frames_on k sent
all_elsewhere k k' [] sent e = ap (frames_on k) (append-nil sent)
all_elsewhere k k' (w ∷ ws) sent e =
    ap (frames_on k) (sym (append_assoc sent (as_sent k' w ∷ []) (map (λ w. record { socket = k'; frame = w }) ws)))
    ∙ all_elsewhere k k' ws (sent ++ as_sent k' w ∷ []) e ∙ frames_elsewhere k sent (as_sent k' w) e

-- a state in which an ask was judged on a socket of the peer, and these frames were sent there
pub record HasJudged (s t : State) (j : Judgement) (ws : List OutFrame) : Type 0 where
  pub opened : t.opened ≡ s.opened
  pub judgements : t.judgements ≡ s.judgements ++ j ∷ []
  pub sent : t.sent ≡ s.sent ++ map (λ w. record { socket = j.socket; frame = w }) ws

-- an ask that may be judged
pub record MayBeJudged (s : State) (k : SocketId) : Type 0 where
  pub not_opened : is_among k s.opened ≡ false
  pub asks_again : AllByRecursion (λ i. may_ask_again i.answer ≡ true) (judged_on k s.judgements)

module _ (f : SideFacts) (is : List JournalItem) (k' : SocketId) (ask : AskFacts) (number : ℕ) (given : Answer) (unread : List ℕ) (trail : List JudgedItem) where
  abbrev i : JournalItem
  i = item.judged k' ask number given unread trail

  abbrev j : Judgement
  j = record { socket = k'; item = record { ask = ask; answer = given } }

  taking : (k : SocketId) (b c : Bool) → same_socket k k' ≡ b → takes given ≡ c → filter_map (taken_in k) (i ∷ []) ≡ (if b && c then unread ∷ [] else [])
  taking k true true p q = rw (p, q) refl
  taking k true false p q = rw (p, q) refl
  taking k false true p q = rw p refl
  taking k false false p q = rw p refl

  elsewhere : (k : SocketId) (s t : State) (ws : List OutFrame) → HasJudged s t j ws → FeedLess (feed_on k s.feed) (feed_on k t.feed) → same_socket k k' ≡ false → Kept f (view is s k) → Kept f (view (is ++ i ∷ []) t k)
  elsewhere k s t ws now less e h =
      let read : read_on k (is ++ i ∷ []) ≡ read_on k is = read_next k is i ∙ append-nil (read_on k is) in
      let wrote : wrote_on k (is ++ i ∷ []) ≡ wrote_on k is = wrote_next k is i ∙ append-nil (wrote_on k is) in
      let takings : takings_on k (is ++ i ∷ []) ≡ takings_on k is = takings_next k is i ∙ ap (λ l. takings_on k is ++ l) (taking k false (takes given) e refl) ∙ append-nil (takings_on k is) in
      let judged : judged_on k t.judgements ≡ judged_on k s.judgements = ap (judged_on k) now.judgements ∙ judged_elsewhere k s.judgements j e in
      let frames : frames_on k t.sent ≡ frames_on k s.sent = ap (frames_on k) now.sent ∙ all_elsewhere k k' ws s.sent e in
      let it : view (is ++ i ∷ []) t k ≡ with_feed (feed_on k t.feed) (view is s k) = rw (read, wrote, takings, judged, frames, now.opened) refl in
      subst (Kept f) (sym it) (kept_less f (view is s k) (feed_on k t.feed) less h)

  -- it is answered by its frame alone
  pub kept_replies : (s t : State) → takes given ≡ false → MayBeJudged s k' → HasJudged s t j (replies_of given) → ((k : SocketId) → FeedLess (feed_on k s.feed) (feed_on k t.feed)) →
      AllKept f is s → AllKept f (is ++ i ∷ []) t
  kept_replies s t refused may now less h k = by_socket (same_socket k k') refl
    where
      by_socket : (b : Bool) → same_socket k k' ≡ b → Kept f (view (is ++ i ∷ []) t k)
      by_socket false e = elsewhere k s t (replies_of given) now (less k) e (h k)
      by_socket true e =
          let one = same_equal k k' e in
          let old = untaken_here f (view is s k) (ap (λ x. is_among x s.opened) one ∙ may.not_opened)
          (subst (λ x. AllByRecursion (λ i. may_ask_again i.answer ≡ true) (judged_on x s.judgements)) (sym one) may.asks_again) (h k) in
          let read : read_on k (is ++ i ∷ []) ≡ read_on k is = read_next k is i ∙ append-nil (read_on k is) in
          let wrote : wrote_on k (is ++ i ∷ []) ≡ wrote_on k is = wrote_next k is i ∙ append-nil (wrote_on k is) in
          let takings : takings_on k (is ++ i ∷ []) ≡ [] = takings_next k is i ∙ ap (λ l. takings_on k is ++ l) (taking k true false e refused) ∙ append-nil (takings_on k is) ∙ old.0 in
          let judged : judged_on k t.judgements ≡ judged_on k s.judgements ++ j.item ∷ [] = ap (judged_on k) now.judgements ∙ judged_here k s.judgements j e in
          let frames : frames_on k t.sent ≡ frames_on k s.sent ++ replies_of given = ap (frames_on k) now.sent ∙ all_here k k' (replies_of given) s.sent e in
          let closed : is_among k t.opened ≡ false = ap (is_among k) now.opened ∙ ap (λ x. is_among x s.opened) one ∙ may.not_opened in
          let feed : feed_on k t.feed ≡ None = none_there (feed_on k s.feed) (feed_on k t.feed) old.1.feed (less k) in
          let it : view (is ++ i ∷ []) t k ≡ record (view is s k) { takings = []; opened = false; judged = judged_on k s.judgements ++ j.item ∷ []; frames = frames_on k s.sent ++ replies_of given; feed = None } =
          rw (read, wrote, takings, judged, frames, closed, feed) refl in
          subst (Kept f) (sym it) (record {
            read = old.1.read;
            wrote = old.1.wrote;
            feed = refl;
            frames = ap (λ l. l ++ replies_of given) old.1.frames ∙ sym (replied_on (judged_on k s.judgements) j.item);
          })
        where
          none_there : (o p : Option Feed) → o ≡ None → FeedLess o p → p ≡ None
          none_there o None q l = refl
          none_there None (Some d) q l = absurd l
          none_there (Some c) (Some d) q l = some_not_none q

  -- it is answered by taking the socket
  pub kept_takes : (s t : State) (w : OutFrame) (d : Feed) → takes given ≡ true → is_unnamed w ≡ false → is_ask w ≡ false → MayBeJudged s k' → HasJudged s t j (w ∷ []) → t.feed ≡ Some d →
      d.socket ≡ k' → d.opened ≡ false → d.hand ≡ None → d.got ≡ (split unread).items → d.rest ≡ (split unread).rest → d.texts ≡ begun f w ∷ [] →
      AllKept f is s → AllKept f (is ++ i ∷ []) t
  kept_takes s t w d taken named no_ask may now fed socket opened hand got rest texts h k = by_socket (same_socket k k') refl
    where
      by_socket : (b : Bool) → same_socket k k' ≡ b → Kept f (view (is ++ i ∷ []) t k)
      by_socket false e =
          let gone : feed_on k t.feed ≡ None = ap (feed_on k) fed ∙ other_feed k d (ap (same_socket k) socket ∙ e) in
          elsewhere k s t (w ∷ []) now (subst (FeedLess (feed_on k s.feed)) (sym gone) tt) e (h k)
      by_socket true e =
          let one = same_equal k k' e in
          let old = untaken_here f (view is s k) (ap (λ x. is_among x s.opened) one ∙ may.not_opened)
          (subst (λ x. AllByRecursion (λ i. may_ask_again i.answer ≡ true) (judged_on x s.judgements)) (sym one) may.asks_again) (h k) in
          let read : read_on k (is ++ i ∷ []) ≡ [] = read_next k is i ∙ append-nil (read_on k is) ∙ old.1.read in
          let wrote : wrote_on k (is ++ i ∷ []) ≡ [] = wrote_next k is i ∙ append-nil (wrote_on k is) ∙ old.1.wrote in
          let takings : takings_on k (is ++ i ∷ []) ≡ unread ∷ [] = takings_next k is i ∙ ap (λ l. takings_on k is ++ l) (taking k true true e taken) ∙ ap (λ l. l ++ unread ∷ []) old.0 in
          let judged : judged_on k t.judgements ≡ judged_on k s.judgements ++ j.item ∷ [] = ap (judged_on k) now.judgements ∙ judged_here k s.judgements j e in
          let frames : frames_on k t.sent ≡ frames_on k s.sent ++ w ∷ [] = ap (frames_on k) now.sent ∙ all_here k k' (w ∷ []) s.sent e in
          let closed : is_among k t.opened ≡ false = ap (is_among k) now.opened ∙ ap (λ x. is_among x s.opened) one ∙ may.not_opened in
          let feed : feed_on k t.feed ≡ Some d = ap (feed_on k) fed ∙ here_feed k d (ap (same_socket k) socket ∙ e) in
          let it : view (is ++ i ∷ []) t k ≡ record { read = []; wrote = []; takings = unread ∷ []; opened = false; judged = judged_on k s.judgements ++ j.item ∷ []; frames = frames_on k s.sent ++ w ∷ []; feed = Some d } =
          rw (read, wrote, takings, judged, frames, closed, feed) refl in
          let put : HasPut f [] (texts_of f (w ∷ [])) (begun f w ∷ []) = composed_put f [] [] [] w named refl in
          subst (Kept f) (sym it) (record {
            before = judged_on k s.judgements;
            last = j.item;
            judged = refl;
            took = taken;
            after = w ∷ [];
            frames =
                ap (λ l. l ++ w ∷ []) (old.1.frames ∙ sym (append-nil (replied (judged_on k s.judgements))) ∙ ap (λ l. replied (judged_on k s.judgements) ++ l) (sym (takes_no_reply given taken)) ∙ sym (replied_on (judged_on k s.judgements) j.item));
            no_asks = all_append NoAsk (frames_on k s.sent) (w ∷ []) (subst (AllByRecursion NoAsk) (sym old.1.frames) (replied_no_asks (judged_on k s.judgements))) (no_ask, tt);
            put = is_put f [] [] (w ∷ []) (begun f w ∷ []) put;
            feed = record {
              opened = opened;
              hand = hand;
              got = got ∙ ap (λ l. (split l).items) (sym (append-nil unread));
              rest = rest ∙ ap (λ l. (split l).rest) (sym (append-nil unread));
              put = subst (HasPut f [] (texts_of f (w ∷ []))) (sym texts) put;
            };
          })
