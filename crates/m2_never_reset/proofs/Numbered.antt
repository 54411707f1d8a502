-- A message that is numbered is two steps of the link: it gets its number, and it is on its way where the other side's feed
-- is the same socket.
--
-- Numbered: `numbers`, then `writes`.
use Rattle.std.proofs.Common.{◌≡◌, ℕ, ◌+◌, ◌-◌, ◌≤◌, ◌<◌, Bool, true, false, not, List, [], ◌∷◌, ◌++◌, length, take, drop, map, Option, Some, None, refl, sym, ap, ◌∙◌, subst, arith}
use Rattle.std.specs.Prelude.{◌||◌, if◌then◌else◌, nat_lt, nat_le, slice_get}
use Rattle.std.proofs.lemmas.List.{map-append}
use Rattle.m2_journal.specs.m2_fabric.declared.socket.SocketId.{SocketId}
use Rattle.m2_queues.specs.m2_message.Message.{Content, unnumbered}
use Rattle.m2_queues.specs.OutQueues.{Queue, cursor_number, next_number, after_next, after_sent, after_acked, newly_numbered, message_at}
use Rattle.m2_queues.specs.QueueLaws.{Call, Post, Next, Sent, Acked, Requeue, Renumber, Discard, History, start_of, history_of, after_call, after_calls, EachNumberIsAPlace, CallsGoOn}
use Rattle.m2_session.specs.declared.session.Phase.TheVariants as phase
use Rattle.m2_journal.specs.Feeds.{begun}
use Rattle.m2_journal.specs.Items as item
use Rattle.m2_journal.specs.Lawful.{OnFeedAt, MayNumber, judged_sockets}
use Rattle.m2_journal.specs.Laws.{IfFed, IsOfCalls}
use Rattle.m2_journal.specs.OutFrames.{message}
use Rattle.m2_journal.specs.SideFacts.{SideFacts}
use Rattle.m2_journal.specs.State.{Feed, State}
use Rattle.m2_journal.specs.Steps.{after, queues, writes_message}
use Rattle.m2_never_reset.specs.Asks.{Asks}
use Rattle.m2_never_reset.specs.Link.{ready, Node, Link, link}
use Rattle.m2_never_reset.specs.Mails.{Mail, letter}
use Rattle.m2_never_reset.specs.Roles.{Role}
use Rattle.m2_never_reset.specs.Steps.{Run, done, near_acts, mailed, numbers, writes}
use Rattle.m2_never_reset.specs.Frames.{answers_on, to_come, mails}
use Rattle.m2_never_reset.specs.LinkOf.{role_of, asks_left, joined_by, node_of, stand_of, link_of}
use Rattle.m2_never_reset.specs.PairLaws.{NumberedIsSteps}
use Rattle.m2_never_reset.specs.Paired.{beside, FeedIsPaired}
use Rattle.m2_never_reset.proofs.Links.{plus_none, links, joined_same, same_asks}
use Rattle.m2_never_reset.proofs.Mailed.{mail_is_on_its_way}
use Rattle.m2_never_reset.proofs.Sent.{asks_same}
use Rattle.m2_queues.proofs.m2_lemmas.Options.{none_isnt_some}
use Rattle.m2_dispatch.proofs.m2_lemmas.Lists.{get_map}

abbrev IsNothing : {X : Type 0} → Option X → Type 0
IsNothing None = Unit {0}
IsNothing (Some x) = ⊥

-- ---- the queue

next_base : (q : Queue) → ((after_next q).base ≡ q.base) × ((after_next q).keeps ≡ q.keeps)
next_base q = by_room (nat_lt q.cursor (length q.kept))
  where
    by_room : (t : Bool) → ((if t then q else record q { kept = q.kept ++ take 1 q.waiting; waiting = drop 1 q.waiting }).base ≡ q.base)
        × ((if t then q else record q { kept = q.kept ++ take 1 q.waiting; waiting = drop 1 q.waiting }).keeps ≡ q.keeps)
    by_room true = (refl, refl)
    by_room false = (refl, refl)

abbrev past : Queue → Queue
past q = if nat_lt q.cursor (length q.kept) then after_sent q else q

past_base : (q : Queue) → q.keeps ≡ true → (past q).base ≡ q.base
past_base q k = by_place (nat_lt q.cursor (length q.kept))
  where
    sent_base : (after_sent q).base ≡ q.base
    sent_base = rw k refl

    by_place : (t : Bool) → (if t then after_sent q else q).base ≡ q.base
    by_place true = sent_base
    by_place false = refl

-- it keeps what it sends as it always did
call_keeps : (h : History) (c : Call) → (after_call h c).queue.keeps ≡ h.queue.keeps
call_keeps h (Post m) = refl
call_keeps h Next = (next_base h.queue).1
call_keeps h Sent = by_place (nat_lt h.queue.cursor (length h.queue.kept))
  where
    sent_keeps : (k : Bool) (x y : Queue) → x.keeps ≡ h.queue.keeps → y.keeps ≡ h.queue.keeps →
        (if k then x else y).keeps ≡ h.queue.keeps
    sent_keeps true x y e e' = e
    sent_keeps false x y e e' = e'

    by_place : (t : Bool) → (if t then after_sent h.queue else h.queue).keeps ≡ h.queue.keeps
    by_place true = sent_keeps h.queue.keeps _ _ refl refl
    by_place false = refl
call_keeps h (Acked n) = by_place (nat_le n h.queue.written)
  where
    by_place : (t : Bool) → (if t then after_acked h.queue n else h.queue).keeps ≡ h.queue.keeps
    by_place true = refl
    by_place false = refl
call_keeps h Requeue = refl
call_keeps h Renumber = refl
call_keeps h Discard = refl

pub calls_keep : (h : History) (cs : List Call) → (after_calls h cs).queue.keeps ≡ h.queue.keeps
calls_keep h [] = refl
calls_keep h (c ∷ cs) = calls_keep (after_call h c) cs ∙ call_keeps h c

-- ---- what stands at a number

number_at : (q : Queue) (n : ℕ) → next_number q ≡ Some n → q.base + q.cursor + 1 ≡ n
number_at q n e = by_room (nat_lt q.cursor (length q.kept) || nat_lt 0 (length q.waiting)) e
  where
    inside : Option ℕ → ℕ
    inside (Some m) = m
    inside None = 0

    by_room : (t : Bool) → (if t then Some (cursor_number q) else None) ≡ Some n → q.base + q.cursor + 1 ≡ n
    by_room true h = ap inside h
    by_room false h = absurd (none_isnt_some n h)

module _ (f : SideFacts) (p q : Role) (u n : ℕ) (a₀ b : State) (d : Feed) (m : Content) where
  -- the side that writes: on its feed, in Ready
  abbrev a : State
  a = record a₀ { feed = Some d; session = record a₀.session { phase = phase.Ready } }

  abbrev next : State
  next = queues Next a

  abbrev a' : State
  a' = writes_message f n (Some m) next

  abbrev it : Mail
  it = letter n a.last (unnumbered m)

  abbrev x : Node
  x = node_of a (judged_sockets b)

  abbrev x' : Node
  x' = record x { numbered = x.numbered ++ map unnumbered (newly_numbered a.out.queue) }

  abbrev y : Node
  y = node_of b (judged_sockets a)

  left_same : (k : SocketId) →
      asks_left (Some d) a.sent (judged_sockets b) k ≡ asks_left (Some d) a'.sent (judged_sockets b) k
  left_same k = rw (asks_same k a.sent (record { socket = d.socket; frame = message n a.last m }) refl) refl

  same_node : (base base' : ℕ) (ms ms' : List Content) (l l' : Asks) → base ≡ base' → ms ≡ ms' → l ≡ l' →
      ◌≡◌ {A = Node} (record x { base = base; numbered = ms; asks = l })
      (record x { base = base'; numbered = ms'; asks = l' })
  same_node base base' ms ms' l l' e₁ e₂ e₃ = rw (e₁, e₂, e₃) refl

  node_after : a.out.queue.keeps ≡ true → x' ≡ node_of a' (judged_sockets b)
  node_after k = same_node _ _ _ _ _ _
      (sym (past_base (after_next a.out.queue) ((next_base a.out.queue).1 ∙ k) ∙ (next_base a.out.queue).0))
      (sym (map-append unnumbered a.out.numbered (newly_numbered a.out.queue)))
      (same_asks (asks_left (Some d) a.sent (judged_sockets b)) (asks_left (Some d) a'.sent (judged_sockets b)) left_same)

  message_is_steps : a.out.queue.keeps ≡ true → IfFed b.feed (λ e. e.taken ≤ length (answers_on e.socket a.sent)) →
      1 ≤ n → slice_get x'.numbered (n - 1) ≡ Some (unnumbered m) →
      Run p q (link_of u a b) (link_of (u + 0) a' b)
  message_is_steps k h from at =
      let l : Link = link x' (ready (mails (to_come d b.sent))) y
      (mailed it (joined_by (Some d) b.feed) (stand_of b a)) (joined_by (Some d) b.feed) u in
      let same : l ≡ link_of (u + 0) a' b = links _ _ _ _ _ _ _ _ _ _ _ _ (node_after k) refl refl
      (mail_is_on_its_way (message n a.last m) it refl refl (λ a. refl) d b.feed b.session.phase b.sent a.sent h)
      (joined_same d (record d { texts = begun f (message n a.last m) ∷ [] }) b.feed refl refl)
      (plus_none u) in
      subst (λ l. Run p q (link_of u a b) l) same
      (near_acts _ _ _ (numbers x y (mails (to_come d b.sent)) (stand_of b a) (joined_by (Some d) b.feed) u (map unnumbered (newly_numbered a.out.queue)))
      (near_acts _ _ _ (writes x' y (mails (to_come d b.sent)) (stand_of b a) (joined_by (Some d) b.feed) u n (unnumbered m) from at) (done l)))

  -- where the number is that of no message, which doesn't come, it is the first step alone
  node_next : x' ≡ node_of next (judged_sockets b)
  node_next =
      same_node _ _ _ _ _ _ (sym (next_base a.out.queue).0)
      (sym (map-append unnumbered a.out.numbered (newly_numbered a.out.queue))) refl

  unwritten_is_steps : Run p q (link_of u a b) (link_of (u + 0) next b)
  unwritten_is_steps =
      let same : link x' (ready (mails (to_come d b.sent))) y (stand_of b a) (joined_by (Some d) b.feed) u ≡ link_of
      (u + 0) next b =
      links _ _ _ _ _ _ _ _ _ _ _ _ node_next refl refl refl refl (plus_none u) in
      subst (λ l. Run p q (link_of u a b) l) same
      (near_acts _ _ _ (numbers x y (mails (to_come d b.sent)) (stand_of b a) (joined_by (Some d) b.feed) u (map unnumbered (newly_numbered a.out.queue))) (done _))

any_message : Content
any_message = record {
  header = record {
    seq = 0;
    tid = 0;
    kind = 0;
    priority = 0;
    version = 0;
    pre_padding = 0;
    data_off = 0;
    ack_seq = 0;
    flags = 0;
    compat = 0;
    reserved = 0;
  };
  front = [];
  middle = [];
  tail = [];
}

module _ (places : EachNumberIsAPlace) (go_on : CallsGoOn) where
  -- the message that gets the number stands there
  its_place : (keeps : Bool) (h : History) (n : ℕ) (m : Content) → IsOfCalls keeps h → next_number h.queue ≡ Some n →
      message_at (after_next h.queue) n ≡ Some m →
      slice_get (map unnumbered h.numbered ++ map unnumbered (newly_numbered h.queue)) (n - 1) ≡ Some (unnumbered m)
  its_place keeps h n m is next e =
      let at = number_at h.queue n next in
      let base = (next_base h.queue).0 in
      let leads : after_call h Next ≡ history_of keeps (is.0 ++ Next ∷ []) = ap (λ x. after_call x Next) is.1
      ∙ sym (go_on (start_of keeps) is.0 (Next ∷ [])) in
      let place = subst (λ k. k.queue.base < n → message_at k.queue n ≡ slice_get k.numbered (n - 1)) (sym leads)
      (places keeps (is.0 ++ Next ∷ []) n) (omega (arith, at, base)) in
      ap (λ l. slice_get l (n - 1)) (sym (map-append unnumbered h.numbered (newly_numbered h.queue)))
      ∙ get_map unnumbered (h.numbered ++ newly_numbered h.queue) (n - 1) m (sym place ∙ e)

  pub numbered_is : NumberedIsSteps
  numbered_is f g n u s b may = at s.feed refl may.lawful
    where
      in_ready : (d : Feed) → s.feed ≡ Some d → s.session.phase ≡ phase.Ready → record s { feed = Some d; session = record s.session { phase = phase.Ready } } ≡ s
      in_ready d e p = rw (sym e, sym p) refl

      keeps : s.out.queue.keeps ≡ true
      keeps = let calls = may.near_replayed.sound.queue in
          ap (λ h. h.queue.keeps) calls.1 ∙ calls_keep (start_of (not f.policy.lossy)) calls.0 ∙ ap not may.near_keeps

      taken : (o : Option Feed) → IfFed o (FeedIsPaired (beside b s)) →
          IfFed o (λ e. e.taken ≤ length (answers_on e.socket s.sent))
      taken None h = tt
      taken (Some e) h = h.sent

      by_message : (d : Feed) → next_number s.out.queue ≡ Some n → (o : Option Content) →
          message_at (after_next s.out.queue) n ≡ o →
          Run (role_of f) (role_of g)
          (link_of u (record s { feed = Some d; session = record s.session { phase = phase.Ready } }) b)
          (link_of (u + 0) (writes_message f n o (queues Next (record s { feed = Some d; session = record s.session { phase = phase.Ready } }))) b)
      by_message d next None e = unwritten_is_steps f (role_of f) (role_of g) u n s b d any_message
      by_message d next (Some m) e =
          message_is_steps f (role_of f) (role_of g) u n s b d m keeps (taken b.feed may.paired.far.feed)
          (let at = number_at s.out.queue n next in omega (arith, at))
          (its_place (not f.policy.lossy) s.out n m may.near_replayed.sound.queue next e)

      at : (o : Option Feed) → s.feed ≡ o → OnFeedAt o (MayNumber s n) →
          Run (role_of f) (role_of g) (link_of u s b) (link_of (u + 0) (after f (item.numbered n) s) b)
      at None e h = elim h [ ]
      at (Some d) e h =
          subst (λ z. Run (role_of f) (role_of g) (link_of u z b) (link_of (u + 0) (after f (item.numbered n) z) b))
          (in_ready d e h.phase)
          (by_message d h.next (message_at (after_next s.out.queue) n) refl)
