-- After the moment: no step changes the two cookies. No ident is taken, since all are old; no side is reset, since
-- each reconnect on which a side stands names the session.
use Rattle.std.proofs.Common.{◌≡◌, ℕ, ◌<◌, ◌≤◌, ◌⊎◌, inl, inr, Bool, [], refl, sym, ◌∙◌, subst, arith, le_of_eq, Some}
use Rattle.m2_journal.specs.m2_fabric.declared.socket.SocketId.{SocketId}
use Rattle.m2_session.specs.Reconnect.{Reconnect}
use Rattle.m2_never_reset.specs.Roles.{Role}
use Rattle.m2_never_reset.specs.Asks.{Ident, Ask, by_ident, by_reconnect, Refusal, reset, retry, wait, Asks, AtMost}
use Rattle.m2_never_reset.specs.Mails.{Mail}
use Rattle.m2_never_reset.specs.Link.{Stand, absent, standby, waiting, connecting, asking, refused, offered, resumed, ready, Node, Joined, apart, by_near, by_far, link}
use Rattle.m2_never_reset.specs.Steps.{HasLeft, LeavesAt, reconnect_of, IsForgotten, MayReset, MayRefuse, after_resumption, with_mail, mailed}
use Rattle.m2_never_reset.proofs.Before.{Identity, identity_of, IsAskedAt, Asked, IsBelow}
use Rattle.m2_never_reset.proofs.After.{IsSettledAt, Keeps, After}
use Rattle.m2_never_reset.proofs.CrossingAsked.{Fewer, asks_nothing, asks_left, asks_fewer, below_more, left_asks_nothing}

-- ---- a side, where the other one changes

-- the other side has no new ask, and knows of no smaller number
pub keeps : (c v : ℕ) (x z : Identity) (s u : Stand) (y w : Identity) → z.client ≡ x.client → z.server ≡ x.server → IsSettledAt c v u → Fewer x.asks s z.asks u →
    y.peer_global ≤ w.peer_global → Keeps c v x s y → Keeps c v z u w
keeps c v x z s u y w client server stand fewer rises k = record {
  same_client = client ∙ k.same_client;
  same_server = server ∙ k.same_server;
  stand = stand;
  old = λ a h. below_more y.peer_global w.peer_global a rises (k.old a (fewer a h));
}

-- the near side changes
pub after_moves : (c v : ℕ) (x z y : Node) (s u t : Stand) (i j : Joined) (n : ℕ) → z.client ≡ x.client → z.server ≡ x.server → IsSettledAt c v u →
    Fewer x.asks s z.asks u → x.peer_global ≤ z.peer_global → After c v (link x s y t i n) → After c v (link z u y t j n)
after_moves c v x z y s u t i j n client server stand fewer rises a = record {
  client_kept = a.client_kept;
  server_kept = a.server_kept;
  near = keeps c v (identity_of x) (identity_of z) s u (identity_of y) (identity_of y) client server stand fewer (omega arith) a.near;
  far = keeps c v (identity_of y) (identity_of y) t t (identity_of x) (identity_of z) refl refl a.far.stand (λ b h. h) rises a.far;
  calm = a.calm;
}

-- the far side is answered, or has mail
pub after_answers : (c v : ℕ) (x y : Node) (s t u : Stand) (i j : Joined) (n : ℕ) (theirs : Asks) → IsSettledAt c v u → Fewer y.asks t theirs u →
    After c v (link x s y t i n) → After c v (link x s (record y { asks = theirs }) u j n)
after_answers c v x y s t u i j n theirs stand fewer a = record {
  client_kept = a.client_kept;
  server_kept = a.server_kept;
  near = keeps c v (identity_of x) (identity_of x) s s (identity_of y) (record (identity_of y) { asks = theirs }) refl refl a.near.stand (λ b h. h) (omega arith) a.near;
  far = keeps c v (identity_of y) (record (identity_of y) { asks = theirs }) t u (identity_of x) (identity_of x) refl refl stand fewer (omega arith) a.far;
  calm = a.calm;
}

-- ---- sockets and asks

left_settled : (c v : ℕ) (u : Stand) → HasLeft u → IsSettledAt c v u
left_settled c v standby h = tt
left_settled c v waiting h = tt
left_settled c v u h = elim h [ ]

pub after_dials : (c v : ℕ) (x y : Node) (s t : Stand) (j : Joined) (n : ℕ) (asks : Asks) → AtMost x.asks asks →
    After c v (link x s y t j n) → After c v (link (record x { heard = 0; asks = asks }) connecting y t apart n)
after_dials c v x y s t j n asks fewer a =
    after_moves c v x (record x { heard = 0; asks = asks }) y s connecting t j apart n refl refl tt (asks_nothing x.asks asks s connecting fewer (λ b h. h)) (omega arith) a

pub never_asks_by_ident : (c v : ℕ) (x y : Node) (s t : Stand) (j : Joined) (n : ℕ) → x.server ≡ 0 → After c v (link x s y t j n) → ⊥
never_asks_by_ident c v x y s t j n none a = a.server_kept (sym a.near.same_server ∙ none)

pub after_asks_by_reconnect : (c v : ℕ) (x y : Node) (t : Stand) (j : Joined) (n : ℕ) (global connect : ℕ) →
    After c v (link x connecting y t j n) →
    After c v (link (record x { greatest = global }) (asking (by_reconnect (reconnect_of x global connect))) y t j n)
after_asks_by_reconnect c v x y t j n global connect a = record {
  client_kept = a.client_kept;
  server_kept = a.server_kept;
  near = record {
    same_client = a.near.same_client;
    same_server = a.near.same_server;
    stand = (a.near.same_client, a.near.same_server);
    old = old;
  };
  far = keeps c v (identity_of y) (identity_of y) t t (identity_of x) (record (identity_of x) { greatest = global }) refl refl a.far.stand (λ b h. h) (omega arith) a.far;
  calm = a.calm;
}
  where
    old : (b : Ask) → Asked x.asks (asking (by_reconnect (reconnect_of x global connect))) b → IsBelow y.peer_global b
    old b (inl h) = a.near.old b (inl h)
    old b (inr e) = subst (IsBelow y.peer_global) e tt

pub after_leaves : (c v : ℕ) (x y : Node) (s t u : Stand) (j : Joined) (n : ℕ) (asks : Asks) → HasLeft u → LeavesAt s x.asks asks →
    After c v (link x s y t j n) → After c v (link (record x { heard = 0; asks = asks }) u y t apart n)
after_leaves c v x y s t u j n asks left leaves a =
    after_moves c v x (record x { heard = 0; asks = asks }) y s u t j apart n refl refl (left_settled c v u left)
    (asks_left x.asks asks s u leaves (λ b. left_asks_nothing u b left)) (omega arith) a

-- ---- judgements

not_absent : (c v : ℕ) (s : Stand) → IsSettledAt c v s → s ≡ absent → ⊥
not_absent c v s stand e = subst (IsSettledAt c v) e stand

-- an ident on a socket that was left is old
pub never_accepts : (c v : ℕ) (x y : Node) (s t : Stand) (j : Joined) (n : ℕ) (k : SocketId) (i : Ident) → y.asks k ≡ Some (by_ident i) →
    (x.peer_global ≤ i.global) ⊎ (s ≡ absent) → After c v (link x s y t j n) → ⊥
never_accepts c v x y s t j n k i asked (inl h) a = let old : i.global < x.peer_global = a.far.old (by_ident i) (inl (k, asked)) in omega (arith, h, old)
never_accepts c v x y s t j n k i asked (inr h) a = not_absent c v s a.near.stand h

after_resumed : (c v : ℕ) (x y : Node) (s t u : Stand) (i j : Joined) (n : ℕ) (r : Reconnect) (number : ℕ) (mine theirs : Asks) → LeavesAt s x.asks mine →
    IsSettledAt c v u → Fewer y.asks t theirs u → After c v (link x s y t i n) →
    After c v (link (after_resumption x r number mine) (ready []) (record y { asks = theirs }) u j n)
after_resumed c v x y s t u i j n r number mine theirs left stand fewer a =
    after_moves c v x (after_resumption x r number mine) (record y { asks = theirs }) s (ready []) u j j n refl refl tt
    (asks_left x.asks mine s (ready []) left (λ b h. h)) (omega arith)
    (after_answers c v x y s t u i j n theirs stand fewer a)

pub after_resumes : (c v : ℕ) (x y : Node) (s : Stand) (j : Joined) (n : ℕ) (r : Reconnect) (number : ℕ) (mine theirs : Asks) → LeavesAt s x.asks mine → AtMost y.asks theirs →
    After c v (link x s y (asking (by_reconnect r)) j n) →
    After c v (link (after_resumption x r number mine) (ready []) (record y { asks = theirs }) (resumed x.last []) by_far n)
after_resumes c v x y s j n r number mine theirs left fewer a =
    after_resumed c v x y s (asking (by_reconnect r)) (resumed x.last []) j by_far n r number mine theirs left tt
    (asks_nothing y.asks theirs (asking (by_reconnect r)) (resumed x.last []) fewer (λ b h. h)) a

pub after_resumes_left : (c v : ℕ) (x y : Node) (s t : Stand) (j : Joined) (n : ℕ) (r : Reconnect) (number : ℕ) (mine theirs : Asks) → LeavesAt s x.asks mine → AtMost y.asks theirs →
    After c v (link x s y t j n) →
    After c v (link (after_resumption x r number mine) (ready []) (record y { asks = theirs }) t apart n)
after_resumes_left c v x y s t j n r number mine theirs left fewer a =
    after_resumed c v x y s t t j apart n r number mine theirs left a.far.stand (asks_fewer y.asks theirs t fewer) a

-- a side on which a reconnect stands keeps the session that it names
forgets_nothing : (c v : ℕ) (x y : Node) (s : Stand) (r : Reconnect) (j : Joined) (n : ℕ) → After c v (link x s y (asking (by_reconnect r)) j n) → IsForgotten x s r → ⊥
forgets_nothing c v x y s r j n a (inl h) = not_absent c v s a.near.stand h
forgets_nothing c v x y s r j n a (inr (inl h)) = h (a.far.stand.0 ∙ sym a.near.same_client)
forgets_nothing c v x y s r j n a (inr (inr h)) = h.1 (a.far.stand.1 ∙ sym a.near.same_server)

never_resets : (p : Role) (c v : ℕ) (x y : Node) (s : Stand) (r : Reconnect) (full : Bool) (j : Joined) (n : ℕ) → After c v (link x s y (asking (by_reconnect r)) j n) → MayReset p x s r full → ⊥
never_resets p c v x y s r full j n a (inl h) = forgets_nothing c v x y s r j n a h.0
never_resets p c v x y s r full j n a (inr h) = a.server_kept (sym a.near.same_server ∙ h.0)

refused_settled : (p : Role) (c v : ℕ) (x y : Node) (s : Stand) (b : Ask) (refusal : Refusal) (j : Joined) (n : ℕ) → MayRefuse p x s b refusal →
    After c v (link x s y (asking b) j n) → IsSettledAt c v (refused b refusal)
refused_settled p c v x y s (by_ident i) refusal j n may a = absurd a.far.stand
refused_settled p c v x y s (by_reconnect r) (reset full) j n may a = absurd (never_resets p c v x y s r full j n a may)
refused_settled p c v x y s (by_reconnect r) retry j n may a = tt
refused_settled p c v x y s (by_reconnect r) wait j n may a = tt

pub after_refuses : (p : Role) (c v : ℕ) (x y : Node) (s : Stand) (j : Joined) (n : ℕ) (b : Ask) (refusal : Refusal) (number : ℕ) (theirs : Asks) →
    MayRefuse p x s b refusal → AtMost y.asks theirs →
    After c v (link x s y (asking b) j n) →
    After c v (link (record x { greatest = number }) s (record y { asks = theirs }) (refused b refusal) j n)
after_refuses p c v x y s j n b refusal number theirs may fewer a =
    after_moves c v x (record x { greatest = number }) (record y { asks = theirs }) s s (refused b refusal) j j n refl refl a.near.stand (λ d h. h) (omega arith)
    (after_answers c v x y s (asking b) (refused b refusal) j j n theirs (refused_settled p c v x y s b refusal j n may a)
    (asks_nothing y.asks theirs (asking b) (refused b refusal) fewer (λ d h. h)) a)

pub after_refuses_left : (c v : ℕ) (x y : Node) (s t : Stand) (j : Joined) (n : ℕ) (number : ℕ) (theirs : Asks) → AtMost y.asks theirs →
    After c v (link x s y t j n) → After c v (link (record x { greatest = number }) s (record y { asks = theirs }) t j n)
after_refuses_left c v x y s t j n number theirs fewer a =
    after_moves c v x (record x { greatest = number }) (record y { asks = theirs }) s s t j j n refl refl a.near.stand (λ d h. h) (omega arith)
    (after_answers c v x y s t t j j n theirs a.far.stand (asks_fewer y.asks theirs t fewer) a)

-- ---- answers and mail

-- the near side stands on, and asks nothing new
pub after_stands : (c v : ℕ) (x z y : Node) (s u t : Stand) (j : Joined) (n : ℕ) → z.client ≡ x.client → z.server ≡ x.server → z.asks ≡ x.asks → z.peer_global ≡ x.peer_global →
    IsSettledAt c v u → ((b : Ask) → IsAskedAt u b → ⊥) → After c v (link x s y t j n) → After c v (link z u y t j n)
after_stands c v x z y s u t j n client server asks global stand none a =
    after_moves c v x z y s u t j j n client server stand (subst (λ k. Fewer x.asks s k u) (sym asks) (asks_nothing x.asks x.asks s u (λ k b h. h) none)) (le_of_eq (sym global)) a

mail_settled : (c v : ℕ) (m : Mail) (t : Stand) → IsSettledAt c v t → IsSettledAt c v (with_mail m t)
mail_settled c v m (offered cookie global ms) h = h
mail_settled c v m (resumed seen ms) h = tt
mail_settled c v m (ready ms) h = tt
mail_settled c v m t h = h

pub mail_asks : (m : Mail) (t : Stand) (b : Ask) → IsAskedAt (with_mail m t) b → IsAskedAt t b
mail_asks m (offered cookie global ms) b h = h
mail_asks m (resumed seen ms) b h = h
mail_asks m (ready ms) b h = h
mail_asks m t b h = h

pub mail_fewer : (asks : Asks) (m : Mail) (t : Stand) → Fewer asks t asks (with_mail m t)
mail_fewer asks m t b (inl h) = inl h
mail_fewer asks m t b (inr h) = inr (mail_asks m t b h)

with_mail_after : (c v : ℕ) (x y : Node) (s t : Stand) (j : Joined) (n : ℕ) (m : Mail) → After c v (link x s y t j n) → After c v (link x s y (with_mail m t) j n)
with_mail_after c v x y s t j n m a = after_answers c v x y s t (with_mail m t) j j n y.asks (mail_settled c v m t a.far.stand) (mail_fewer y.asks m t) a

pub after_writes : (c v : ℕ) (x y : Node) (s t : Stand) (j : Joined) (n : ℕ) (m : Mail) → After c v (link x s y t j n) → After c v (link x s y (mailed m j t) j n)
after_writes c v x y s t apart n m a = a
after_writes c v x y s t by_near n m a = with_mail_after c v x y s t by_near n m a
after_writes c v x y s t by_far n m a = with_mail_after c v x y s t by_far n m a
