-- What a lossy link brings over, of a whole order in which bytes fit.
use Rattle.std.proofs.Common.{◌≡◌, ℕ, ◌⊎◌, inl, inr, Bool, true, false, not, ◌&&◌, ◌||◌, ◌==◌, if◌then◌else◌, List, [], ◌∷◌, ◌++◌, map, refl, sym, ap, ◌∙◌, subst, arith, append_assoc, append-nil}
use Rattle.std.specs.List.{AllByRecursion, filter}
use Rattle.std.proofs.lemmas.Bool.{and_parts, or_cases}
use Rattle.m2_channel.specs.Channel as channel
use Rattle.m2_channel.specs.Channel.{KeyedMessage}
use Rattle.m2_channel.specs.Observed.{handed}
use Rattle.m2_dispatch.specs.Heard.{is_key}
use Rattle.m2_dispatch.specs.Laws.{IsSublist}
use Rattle.m2_dispatch.proofs.m2_lemmas.Booleans.{either_turned}
use Rattle.m2_bytes_fit.specs.Orders.{OrderEntry, near_entry, far_entry, near_half, far_half, entries_of, near_side, far_side}
use Rattle.m2_bytes_fit.specs.Texts.{CanBePosted}
use Rattle.m2_bytes_fit.proofs.Orders.{entries-append}
use Rattle.m2_bytes_fit.specs.Halves.{BytesFit}
use Rattle.m2_journal.specs.Items.{JournalItem}
use Rattle.m2_journal.specs.Lawful.{key_of}
use Rattle.m2_journal.specs.Laws.{ReplaysAreSound}
use Rattle.m2_journal.specs.Replay.{AreLawful}
use Rattle.m2_journal.specs.SideFacts.{SideFacts}
use Rattle.m2_journal.specs.State.{SentFrame, State, start}
use Rattle.m2_journal.specs.m2_message.Message.{Content, priority_of, unnumbered}
use Rattle.m2_never_reset.specs.Orders as orders
use Rattle.m2_never_reset.specs.Orders.{near_items, far_items, posts_in}
use Rattle.m2_never_reset.proofs.Sockets.{by_either}
use Rattle.m2_journal.specs.m2_policy.declared.path.Key.{Key}
use Rattle.m2_journal.specs.m2_policy.declared.policy.Policy.{Policy}
use Rattle.m2_journal.specs.m2_policy.Policy as policy
use Rattle.m2_journal.specs.m2_policy.Policy.{allows, is_pair, same, lossless_client, lossless_peer, lossy_client, stateful_server, stateless_server}
use Rattle.m2_journal.specs.m2_queues.QueueLaws.{of_priority}
use Rattle.m2_channel.specs.Lossy.{BothComeOver, ComeOver, IsByteOrder, LossyComesInOrder}
use Rattle.m2_channel.proofs.Both.{Both}
use Rattle.m2_channel.proofs.Frames.{Mail, messages_in, mails_in, plain}
use Rattle.m2_channel.proofs.Moves.{view}
use Rattle.m2_channel.proofs.Points.{AreNamed, AreTwo, OneKept, PointKept, one_more, point_turned, side_at, state_at}
use Rattle.m2_channel.proofs.Posted.{IsPosted, composed}
use Rattle.m2_channel.proofs.Readers.{Reads, contents, reads_some}
use Rattle.m2_channel.proofs.Sides.{SideIs}
use Rattle.m2_channel.proofs.Sublists.{some_front, some_of_some, some_passing}
use Rattle.m2_journal.proofs.m2_lemmas.Lists.{finer_filter, all_front, all_back}
use Rattle.m2_never_reset.proofs.Posted.{has_priority}
use Rattle.m2_never_reset.proofs.Sided.{near_append, far_append}
use Rattle.m2_journal.proofs.JudgedOn.{lawful_front}
use Rattle.m2_journal.proofs.m2_lemmas.Booleans.{from_false_true}
use Rattle.m2_bytes_fit.proofs.Points.{bytes_turn}
use Rattle.m2_channel.proofs.Handing.{some_of_map}

-- ---- the two policies

same_is : (a b : Bool) → same a b ≡ true → a ≡ b
same_is true true e = refl
same_is false false e = refl
same_is true false e = from_false_true e
same_is false true e = from_false_true e

record AreSame (p q : Policy) : Type 0 where
  lossy : p.lossy ≡ q.lossy
  server : p.server ≡ q.server

are_same : (p q : Policy) → policy.is p q ≡ true → AreSame p q
are_same p q e =
    let l = same p.lossy q.lossy in
    let s = same p.server q.server in
    let w = same p.standby q.standby in
    let three = (and_parts ((l && s) && w) (same p.resetcheck q.resetcheck) e).0 in
    let two = (and_parts (l && s) w three).0 in
    let both = and_parts l s two in
    record { lossy = same_is p.lossy q.lossy both.0; server = same_is p.server q.server both.1 }

-- both are lossy, and this one is the server's
record AreOfLossy (p q : Policy) : Type 0 where
  near : p.lossy ≡ true
  far : q.lossy ≡ true
  server : q.server ≡ true

lossless_apart : {X : Type 0} (p q : Policy) → p.lossy ≡ false → q.lossy ≡ false → (p.lossy ≡ true) ⊎ (q.lossy ≡ true) → X
lossless_apart p q e g (inl h) = from_false_true (sym e ∙ h)
lossless_apart p q e g (inr h) = from_false_true (sym g ∙ h)

pair_is : (p q : Policy) → is_pair p q ≡ true → (p.lossy ≡ true) ⊎ (q.lossy ≡ true) → AreOfLossy p q
pair_is p q e lossy =
    let peers = policy.is p lossless_peer && policy.is q lossless_peer in
    let clients = policy.is p lossless_client && policy.is q stateful_server in
    by_either (or_cases (peers || clients) (policy.is p lossy_client && policy.is q stateless_server) e)
    (λ h. by_either (or_cases peers clients h)
    (λ k. let both = and_parts (policy.is p lossless_peer) (policy.is q lossless_peer) k in lossless_apart p q (are_same p lossless_peer both.0).lossy (are_same q lossless_peer both.1).lossy lossy)
    (λ k. let both = and_parts (policy.is p lossless_client) (policy.is q stateful_server) k in lossless_apart p q (are_same p lossless_client both.0).lossy (are_same q stateful_server both.1).lossy lossy))
    (λ h.
    let both = and_parts (policy.is p lossy_client) (policy.is q stateless_server) h in
    let near = are_same p lossy_client both.0 in
    let far = are_same q stateless_server both.1 in
    record { near = near.lossy; far = far.lossy; server = far.server })

roles : (p q : Policy) → allows p q ≡ true → (p.lossy ≡ true) ⊎ (q.lossy ≡ true) → AreOfLossy p q ⊎ AreOfLossy q p
roles p q e lossy = by_either (or_cases (is_pair p q) (is_pair q p) e) (λ h. inl (pair_is p q h lossy)) (λ h. inr (pair_is q p h (either_turned lossy)))

-- ---- the start

starts : (f : SideFacts) → f.policy.lossy ≡ true → SideIs f (view (start f))
starts f lossy = record {
  stands = refl;
  queue = record { keeps = ap not lossy; cursor = refl; kept = refl; written = refl; falls = tt };
  frames = record { mute = λ k e t. tt; silent = λ k e t. refl; unasked = λ k e. refl; asked_once = λ k. omega arith; numbered = λ k. tt };
  keys = tt;
}

starts_alone : (f : SideFacts) → OneKept f [] (start f)
starts_alone f = record {
  kept = λ k. record { read = refl; wrote = refl; feed = refl; frames = refl };
  lawful = tt;
  hand = tt;
  rest = record { last = omega arith; queue = record { kept = tt; waiting = tt }; texts = tt };
  named = tt;
  composed = tt;
  posted = λ p. tt;
}

starts_reading : (f : SideFacts) → Reads (view (start f)) []
starts_reading f = record { before = []; after = []; parts = refl; old = []; now = []; all = refl; past = tt; feed = refl }

starts_both : (f g : SideFacts) → f.policy.lossy ≡ true → g.policy.lossy ≡ true → Both f g (view (start f)) (view (start g))
starts_both f g near far = record {
  client = starts f near;
  server = starts g far;
  opened = refl;
  unjudged = refl;
  met = λ k e. (refl, tt);
  client_reads = starts_reading f;
  server_reads = starts_reading g;
}

-- ---- every point

named_turned : (f g : SideFacts) → AreNamed f g → AreNamed g f
named_turned f g n = record { near_lossy = n.far_lossy; far_lossy = n.near_lossy; near = n.far; far = n.near }

abbrev PointAt : (f g : SideFacts) → List OrderEntry → Type 0
PointAt f g front = PointKept f g (near_items (entries_of front)) (far_items (entries_of front))

module _ (sound : ReplaysAreSound) (f g : SideFacts) (n : AreNamed f g) (order : List OrderEntry) (h : IsByteOrder f g order) where
  abbrev nears : List OrderEntry → List JournalItem
  nears front = near_items (entries_of front)

  abbrev fars : List OrderEntry → List JournalItem
  fars front = far_items (entries_of front)

  near_more : (front more : List OrderEntry) → nears (front ++ more) ≡ nears front ++ nears more
  near_more front more = ap near_items (entries-append front more) ∙ near_append (entries_of front) (entries_of more)

  far_more : (front more : List OrderEntry) → fars (front ++ more) ≡ fars front ++ fars more
  far_more front more = ap far_items (entries-append front more) ∙ far_append (entries_of front) (entries_of more)

  step : (front back : List OrderEntry) (m : OrderEntry) → order ≡ (front ++ m ∷ []) ++ back → PointAt f g front → PointAt f g (front ++ m ∷ [])
  step front back (near_entry i) e old =
      subst₂ (PointKept f g) (sym near) (sym far)
      (one_more sound f g n (nears front) (fars front) i _ _ _ _ old
      (h.bytes front (near_entry i ∷ back) (e ∙ append_assoc front (near_entry i ∷ []) back))
      (subst₂ (λ xs ys. BytesFit (side_at f xs (near_side f now).halves) (side_at g ys (far_side g now).halves)) near far (h.bytes now back e))
      (lawful_front f (nears front ++ i ∷ []) (nears back) (start f) (subst (λ xs. AreLawful f xs (start f)) whole h.near_lawful)).0
      (all_back CanBePosted (nears front) (i ∷ []) (all_front CanBePosted (nears front ++ i ∷ []) (nears back) (subst (AllByRecursion CanBePosted) whole h.near_posts))).0)
    where
      subst₂ : {X Y : Type 0} (P : X → Y → Type 0) {x x' : X} {y y' : Y} → x ≡ x' → y ≡ y' → P x y → P x' y'
      subst₂ P {x} {x'} {y} {y'} p q k = subst (λ z. P x' z) q (subst (λ z. P z y) p k)

      now : List OrderEntry
      now = front ++ near_entry i ∷ []

      near : nears (front ++ near_entry i ∷ []) ≡ nears front ++ i ∷ []
      near = near_more front (near_entry i ∷ [])

      far : fars (front ++ near_entry i ∷ []) ≡ fars front
      far = far_more front (near_entry i ∷ []) ∙ append-nil (fars front)

      whole : nears order ≡ (nears front ++ i ∷ []) ++ nears back
      whole = ap nears e ∙ near_more (front ++ near_entry i ∷ []) back ∙ ap (λ l. l ++ nears back) near
  step front back (far_entry i) e old =
      subst₂ (PointKept f g) (sym near) (sym far)
      (point_turned g f (fars front ++ i ∷ []) (nears front)
      (one_more sound g f (named_turned f g n) (fars front) (nears front) i _ _ _ _ (point_turned f g (nears front) (fars front) old)
      (bytes_turn (near_side f front) (far_side g front) (h.bytes front (far_entry i ∷ back) (e ∙ append_assoc front (far_entry i ∷ []) back)))
      (bytes_turn (side_at f (nears front) (near_side f now).halves) (side_at g (fars front ++ i ∷ []) (far_side g now).halves)
      (subst₂ (λ xs ys. BytesFit (side_at f xs (near_side f now).halves) (side_at g ys (far_side g now).halves)) near far (h.bytes now back e)))
      (lawful_front g (fars front ++ i ∷ []) (fars back) (start g) (subst (λ xs. AreLawful g xs (start g)) whole h.far_lawful)).0
      (all_back CanBePosted (fars front) (i ∷ []) (all_front CanBePosted (fars front ++ i ∷ []) (fars back) (subst (AllByRecursion CanBePosted) whole h.far_posts))).0))
    where
      subst₂ : {X Y : Type 0} (P : X → Y → Type 0) {x x' : X} {y y' : Y} → x ≡ x' → y ≡ y' → P x y → P x' y'
      subst₂ P {x} {x'} {y} {y'} p q k = subst (λ z. P x' z) q (subst (λ z. P z y) p k)

      now : List OrderEntry
      now = front ++ far_entry i ∷ []

      near : nears (front ++ far_entry i ∷ []) ≡ nears front
      near = near_more front (far_entry i ∷ []) ∙ append-nil (nears front)

      far : fars (front ++ far_entry i ∷ []) ≡ fars front ++ i ∷ []
      far = far_more front (far_entry i ∷ [])

      whole : fars order ≡ (fars front ++ i ∷ []) ++ fars back
      whole = ap fars e ∙ far_more (front ++ far_entry i ∷ []) back ∙ ap (λ l. l ++ fars back) far
  step front back (near_half k m) e old = subst (λ xs. PointKept f g (near_items xs) (far_items xs)) (sym (entries-append front (near_half k m ∷ []) ∙ append-nil (entries_of front))) old
  step front back (far_half k m) e old = subst (λ xs. PointKept f g (near_items xs) (far_items xs)) (sym (entries-append front (far_half k m ∷ []) ∙ append-nil (entries_of front))) old

  pub goes_on : (front back : List OrderEntry) → order ≡ front ++ back → PointAt f g front → PointAt f g order
  goes_on front [] e old = subst (PointAt f g) (sym (e ∙ append-nil front)) old
  goes_on front (m ∷ ms) e old =
      let here : order ≡ (front ++ m ∷ []) ++ ms = e ∙ sym (append_assoc front (m ∷ []) ms) in
      goes_on (front ++ m ∷ []) ms here (step front ms m here old)

-- ---- of each key

plain_of_key : (f : SideFacts) (key : Key) (ms : List Content) → orders.of_key f key (map unnumbered ms) ≡ map unnumbered (orders.of_key f key ms)
plain_of_key f key [] = refl
plain_of_key f key (m ∷ ms) = at (is_key (key_of f m) key) (plain_of_key f key ms)
  where
    at : (b : Bool) → orders.of_key f key (map unnumbered ms) ≡ map unnumbered (orders.of_key f key ms) →
        (if b then unnumbered m ∷ orders.of_key f key (map unnumbered ms) else orders.of_key f key (map unnumbered ms)) ≡ map unnumbered (if b then m ∷ orders.of_key f key ms else orders.of_key f key ms)
    at true more = ap (λ l. unnumbered m ∷ l) more
    at false more = more

-- with the keys of this side
accepted_keys : (f : SideFacts) (key : Key) (xs : List KeyedMessage) → AllByRecursion (λ (x : KeyedMessage). x.key ≡ key_of f x.message) xs → channel.of_key key xs ≡ orders.of_key f key (contents xs)
accepted_keys f key [] h = refl
accepted_keys f key (x ∷ xs) h = at (is_key (key_of f x.message) key) (ap (λ k. is_key k key) h.0) (accepted_keys f key xs h.1)
  where
    at : (b : Bool) → is_key x.key key ≡ b → channel.of_key key xs ≡ orders.of_key f key (contents xs) → channel.of_key key (x ∷ xs) ≡ (if b then x.message ∷ orders.of_key f key (contents xs) else orders.of_key f key (contents xs))
    at true e more = rw e (ap (λ l. x.message ∷ l) more)
    at false e more = rw e more

plain_all : (ms : List Mail) → map plain ms ≡ map unnumbered (map (λ (m : Mail). m.content) ms)
plain_all [] = refl
plain_all (m ∷ ms) = ap (λ l. unnumbered m.content ∷ l) (plain_all ms)

-- of each key some of what was composed, and so of what was posted
over : (f : SideFacts) (a : State) (sent : List SentFrame) (waiting posted : List Content) → SideIs f (view a) → Reads (view a) sent →
    ((p : ℕ) → IsSublist (of_priority p (composed sent) ++ of_priority p waiting) (of_priority p posted)) → (key : Key) →
    IsSublist (channel.of_key key (handed a.deliveries)) (orders.of_key f key (map unnumbered posted))
over f a sent waiting posted side reads is key =
    let p = key.priority in
    let test : Content → Bool = λ m. is_key (key_of f m) key in
    let of_p : Content → Bool = λ m. priority_of m == p in
    let some : IsSublist (filter test (composed sent)) (filter test posted) =
    subst (λ l. IsSublist l (filter test posted)) (finer_filter test of_p (has_priority f key) (composed sent))
    (subst (IsSublist (filter test (of_priority p (composed sent)))) (finer_filter test of_p (has_priority f key) posted)
    (some_passing test (of_priority p (composed sent)) (of_priority p posted) (some_front (of_priority p (composed sent)) (of_priority p waiting) (of_priority p posted) (is p)))) in
    let read : IsSublist (orders.of_key f key (contents (handed a.deliveries))) (map unnumbered (filter test (composed sent))) =
    subst (IsSublist (orders.of_key f key (contents (handed a.deliveries)))) (ap (orders.of_key f key) (plain_all (mails_in sent)) ∙ plain_of_key f key (composed sent))
    (some_passing test (contents (handed a.deliveries)) (messages_in sent) (reads_some (view a) sent reads)) in
    subst (λ l. IsSublist l (orders.of_key f key (map unnumbered posted))) (sym (accepted_keys f key (handed a.deliveries) side.keys))
    (subst (IsSublist (orders.of_key f key (contents (handed a.deliveries)))) (sym (plain_of_key f key posted))
    (some_of_some (orders.of_key f key (contents (handed a.deliveries))) (map unnumbered (filter test (composed sent))) (map unnumbered (filter test posted)) read
    (some_of_map unnumbered (filter test (composed sent)) (filter test posted) some)))

come_over : (f g : SideFacts) (a b : State) (posted : List Content) → SideIs f (view a) → Reads (view a) b.sent → IsPosted posted (view b) → ComeOver f g a posted
come_over f g a b posted side reads is = record {
  accepted = accepted;
  dispatched = λ logs some key. some_of_some _ _ _ (some key) (accepted key);
}
  where
    accepted : (key : Key) → IsSublist (channel.of_key key (handed a.deliveries)) (orders.of_key f key (map unnumbered posted))
    accepted = over f a b.sent b.out.queue.waiting posted side reads is

-- ---- both ways

both_come : (f g : SideFacts) (is js : List JournalItem) → PointKept f g is js → ComeOver f g (state_at f is) (posts_in js) × ComeOver g f (state_at g js) (posts_in is)
both_come f g is js h = at h.both
  where
    at : AreTwo f g (state_at f is) (state_at g js) → ComeOver f g (state_at f is) (posts_in js) × ComeOver g f (state_at g js) (posts_in is)
    at (inl (server, k)) = (
      come_over f g (state_at f is) (state_at g js) (posts_in js) k.client k.client_reads h.far.posted,
      come_over g f (state_at g js) (state_at f is) (posts_in is) k.server k.server_reads h.near.posted,
    )
    at (inr (server, k)) = (
      come_over f g (state_at f is) (state_at g js) (posts_in js) k.server k.server_reads h.far.posted,
      come_over g f (state_at g js) (state_at f is) (posts_in is) k.client k.client_reads h.near.posted,
    )

pub comes_in_order : ReplaysAreSound → LossyComesInOrder
comes_in_order sound f g order nodes h = by_roles (roles f.policy g.policy nodes.allowed nodes.lossy)
  where
    brought : (near : f.policy.lossy ≡ true) (far : g.policy.lossy ≡ true) → AreTwo f g (start f) (start g) → BothComeOver f g (entries_of order)
    brought near far two =
        let n : AreNamed f g = record { near_lossy = near; far_lossy = far; near = h.near_named; far = h.far_named } in
        let all = goes_on sound f g n order h [] order refl (record { near = starts_alone f; far = starts_alone g; both = two }) in
        let both = both_come f g (near_items (entries_of order)) (far_items (entries_of order)) all in
        record { near = both.0; far = both.1 }

    by_roles : AreOfLossy f.policy g.policy ⊎ AreOfLossy g.policy f.policy → BothComeOver f g (entries_of order)
    by_roles (inl r) = brought r.near r.far (inl (r.server, starts_both f g r.near r.far))
    by_roles (inr r) = brought r.far r.near (inr (r.server, starts_both g f r.near r.far))
