-- Before the moment: an ident is accepted, on the socket on which its opener stands or on one that it has left. The
-- acceptor has left its own feed first.
use Rattle.std.proofs.Common.{◌≡◌, ℕ, ◌<◌, ◌≤◌, max, ◌⊎◌, inl, inr, Bool, true, false, [], length, refl, sym, ap, ◌∙◌, subst, arith, Some}
use Rattle.m2_journal.specs.m2_fabric.declared.socket.SocketId.{SocketId}
use Rattle.m2_never_reset.specs.Roles.{Role, IsNumber, AreMints}
use Rattle.m2_never_reset.specs.Asks.{Ident, Ask, by_ident, Asks, AtMost}
use Rattle.m2_never_reset.specs.Link.{Stand, absent, standby, asking, offered, ready, Node, Joined, apart, by_far, link}
use Rattle.m2_never_reset.specs.Steps.{LeavesAt, IsDrawn, IsAnotherClient, Accepts, after_acceptance, troubled}
use Rattle.m2_never_reset.proofs.Before.{Identity, identity_of, Asked, Owns, IsOffer, AtOffer, Side, IsUnusedAt, Before}
use Rattle.m2_never_reset.proofs.CrossingAsked.{below_more, ask_more, ask_below, at_offer}
use Rattle.m2_never_reset.proofs.BeforeLeaves.{before_fewer, before_leaves}

-- messages are thrown away only at a server, or at a side whose other is one
abbrev pub ChecksAsServer : Role → Role → Type 0
ChecksAsServer p q = p.policy.resetcheck ≡ true → (p.policy.server ≡ true) ⊎ (q.policy.server ≡ true)

pub no_trouble : (x y : Node) (n : ℕ) → IsUnusedAt x → IsUnusedAt y → n ≡ 0 → troubled false x y n ≡ 0
no_trouble x y n u v calm =
    let a = ap length u.none_accepted in
    let b = ap length v.none_accepted in
    omega (arith, a, b, calm)

-- ---- nothing is thrown away

client_is : (x : Node) (i : Ident) (client : ℕ) → IsAnotherClient x i → (x.client ≡ 0) ⊎ (x.client ≡ client) → i.cookie ≡ client → ⊥
client_is x i client o (inl z) e = o.client z
client_is x i client o (inr s) e = o.another (e ∙ sym s)

module _ (p q : Role) (x y : Node) (s t : Stand) (j : Joined) (n : ℕ) where
  at_server : (i : Ident) → Asked y.asks t (by_ident i) → Before p q (link x s y t j n) → IsAnotherClient x i → (p.policy.server ≡ true) ⊎ (q.policy.server ≡ true) → ⊥
  at_server i asked b other (inl e) = client_is x i y.client other (b.near.serves e).client ((b.near.serves e).idents (by_ident i) asked)
  at_server i asked b other (inr e) = (b.far.serves e).asks_nothing (by_ident i) asked

  never_full : (i : Ident) (full : Bool) → ChecksAsServer p q → Asked y.asks t (by_ident i) → Before p q (link x s y t j n) →
      (full ≡ false) ⊎ ((p.policy.resetcheck ≡ true) × IsAnotherClient x i) → full ≡ false
  never_full i full checks asked b (inl e) = e
  never_full i full checks asked b (inr h) = absurd (at_server i asked b h.1 (checks h.0))

-- ---- on the socket on which its opener stands

module _ (p q : Role) (x y : Node) (j : Joined) (n : ℕ) (i : Ident) (number : ℕ) where
  abbrev z : Identity
  z = identity_of (after_acceptance p x i false number x.asks)

  abbrev its_offer : Stand
  its_offer = offered (p.mint number) number []

  is_number : IsDrawn x number → IsNumber number
  is_number drawn = record { from = let above = drawn.above in omega (arith, above); to = drawn.within }

  live_near : IsDrawn x number → Before p q (link x standby y (asking (by_ident i)) j n) → Side p q z (ready []) (identity_of y) its_offer
  live_near drawn b = record {
    server = inr (number, is_number drawn, refl);
    asks = λ a h. ask_more p x.greatest number a (let above = drawn.above in omega (arith, above)) (b.near.asks a h);
    owns = refl;
    newest = tt;
    offer = tt;
    serves = λ e. record {
      asks_nothing = (b.near.serves e).asks_nothing;
      passive = tt;
      no_session = (b.near.serves e).no_session;
      idents = λ a h. (b.near.serves e).idents a (was_asked a h);
      client = inr b.far.owns.0;
      no_reset = tt;
    };
  }
    where
      was_asked : (a : Ask) → Asked y.asks its_offer a → Asked y.asks (asking (by_ident i)) a
      was_asked a (inl h) = inl h
      was_asked a (inr h) = absurd h

  live_far : AreMints p q → IsDrawn x number → Before p q (link x standby y (asking (by_ident i)) j n) → Side q p (identity_of y) its_offer z (ready [])
  live_far mints drawn b = record {
    server = b.far.server;
    asks = λ a h. b.far.asks a (was_asked a h);
    owns = b.far.owns.1;
    newest = tt;
    offer = record {
      none = b.far.owns.1;
      client_kept = λ e. (b.far.asks (by_ident i) (inr refl)).0 (b.far.owns.0 ∙ e);
      server_kept = mints.first_kept number;
      client = b.far.owns.0;
      server = refl;
      mine_old = λ k a e. below_more i.global (max x.peer_global i.global) a (omega arith) (b.far.newest k a e);
      theirs_old = λ a h. ask_below p x.greatest number a drawn.above (b.near.asks a h);
      no_reset = tt;
    };
    serves = λ e. absurd ((b.far.serves e).asks_nothing (by_ident i) (inr refl));
  }
    where
      was_asked : (a : Ask) → Asked y.asks its_offer a → Asked y.asks (asking (by_ident i)) a
      was_asked a (inl h) = inl h
      was_asked a (inr h) = absurd h

  accepts_here : AreMints p q → IsDrawn x number → Before p q (link x standby y (asking (by_ident i)) j n) →
      Before p q (link (after_acceptance p x i false number x.asks) (ready []) y its_offer by_far (troubled false x y n))
  accepts_here mints drawn b = record {
    near = live_near drawn b;
    far = live_far mints drawn b;
    near_unused = record { no_last = refl; no_base = refl; none_heard = refl; none_accepted = b.near_unused.none_accepted };
    far_unused = b.far_unused;
    joined = (tt, tt);
    calm = no_trouble x y n b.near_unused b.far_unused b.calm;
  }

pub before_accepts : (p q : Role) (x y : Node) (s : Stand) (j : Joined) (n : ℕ) (i : Ident) (full : Bool) (number : ℕ) (mine theirs : Asks) →
    AreMints p q → ChecksAsServer p q → Accepts p x s i full → IsDrawn x number → LeavesAt s x.asks mine → AtMost y.asks theirs →
    Before p q (link x s y (asking (by_ident i)) j n) →
    Before p q (link (after_acceptance p x i full number mine) (ready []) (record y { asks = theirs }) (offered (p.mint number) number []) by_far (troubled full x y n))
before_accepts p q x y s j n i full number mine theirs mints checks accepts drawn left fewer b =
    let e : full ≡ false = never_full p q x y s (asking (by_ident i)) j n i full checks (inr refl) b accepts.in_full in
    let away = before_leaves p q x y s (asking (by_ident i)) standby j n mine tt left b in
    let less = before_fewer p q (record x { heard = 0; asks = mine }) y standby (asking (by_ident i)) apart n theirs fewer away in
    subst (λ f. Before p q (link (after_acceptance p x i f number mine) (ready []) (record y { asks = theirs }) (offered (p.mint number) number []) by_far (troubled f x y n))) (sym e)
    (accepts_here p q (record x { heard = 0; asks = mine }) (record y { asks = theirs }) apart n i number mints (record { above = drawn.above; within = drawn.within }) less)

-- ---- on a socket that its opener has left

module _ (p q : Role) (x y : Node) (s t : Stand) (j : Joined) (n : ℕ) where
  -- the other side was offered nothing: its idents would be old
  not_old_ident : (cookie global : ℕ) (k : SocketId) (i : Ident) → y.asks k ≡ Some (by_ident i) → Owns x.client x.server s →
      (x.peer_global ≤ i.global) ⊎ (s ≡ absent) → IsOffer cookie global (identity_of y) (identity_of x) s → ⊥
  not_old_ident cookie global k i e owns (inl h) o = let old : i.global < x.peer_global = o.mine_old k (by_ident i) e in omega (arith, h, old)
  not_old_ident cookie global k i e owns (inr h) o = o.server_kept (sym o.server ∙ subst (Owns x.client x.server) h owns)

  not_offered : (F : ℕ → ℕ → Type 0) (k : SocketId) (i : Ident) → y.asks k ≡ Some (by_ident i) → (x.peer_global ≤ i.global) ⊎ (s ≡ absent) →
      Before p q (link x s y t j n) → AtOffer t F
  not_offered F k i e old b = at_offer t _ F (λ cookie global o. absurd (not_old_ident cookie global k i e b.near.owns old o)) b.far.offer

module _ (p q : Role) (x y : Node) (t : Stand) (j : Joined) (n : ℕ) (i : Ident) (number : ℕ) where
  abbrev w : Identity
  w = identity_of (after_acceptance p x i false number x.asks)

  left_near : IsDrawn x number → Asked y.asks t (by_ident i) → Before p q (link x standby y t j n) → Side p q w (ready []) (identity_of y) t
  left_near drawn asked b = record {
    server = inr (number, record { from = let above = drawn.above in omega (arith, above); to = drawn.within }, refl);
    asks = λ a h. ask_more p x.greatest number a (let above = drawn.above in omega (arith, above)) (b.near.asks a h);
    owns = refl;
    newest = tt;
    offer = tt;
    serves = λ e. record {
      asks_nothing = (b.near.serves e).asks_nothing;
      passive = tt;
      no_session = (b.near.serves e).no_session;
      idents = (b.near.serves e).idents;
      client = inr ((b.near.serves e).idents (by_ident i) asked);
      no_reset = (b.near.serves e).no_reset;
    };
  }

  left_far : Asked y.asks t (by_ident i) → AtOffer t (λ cookie global. IsOffer cookie global (identity_of y) w (ready [])) →
      Before p q (link x standby y t j n) → Side q p (identity_of y) t w (ready [])
  left_far asked none b = record {
    server = b.far.server;
    asks = b.far.asks;
    owns = b.far.owns;
    newest = b.far.newest;
    offer = none;
    serves = λ e. absurd ((b.far.serves e).asks_nothing (by_ident i) asked);
  }

  accepts_there : IsDrawn x number → Asked y.asks t (by_ident i) → AtOffer t (λ cookie global. IsOffer cookie global (identity_of y) w (ready [])) →
      Before p q (link x standby y t j n) →
      Before p q (link (after_acceptance p x i false number x.asks) (ready []) y t apart (troubled false x y n))
  accepts_there drawn asked none b = record {
    near = left_near drawn asked b;
    far = left_far asked none b;
    near_unused = record { no_last = refl; no_base = refl; none_heard = refl; none_accepted = b.near_unused.none_accepted };
    far_unused = b.far_unused;
    joined = tt;
    calm = no_trouble x y n b.near_unused b.far_unused b.calm;
  }

pub before_accepts_left : (p q : Role) (x y : Node) (s t : Stand) (j : Joined) (n : ℕ) (k : SocketId) (i : Ident) (full : Bool) (number : ℕ) (mine theirs : Asks) →
    ChecksAsServer p q → y.asks k ≡ Some (by_ident i) → Accepts p x s i full → IsDrawn x number → LeavesAt s x.asks mine → AtMost y.asks theirs →
    Before p q (link x s y t j n) →
    Before p q (link (after_acceptance p x i full number mine) (ready []) (record y { asks = theirs }) t apart (troubled full x y n))
before_accepts_left p q x y s t j n k i full number mine theirs checks asked accepts drawn left fewer b =
    let e : full ≡ false = never_full p q x y s t j n i full checks (inl (k, asked)) b accepts.in_full in
    let away = before_leaves p q x y s t standby j n mine tt left b in
    let none = not_offered p q x y s t j n (λ cookie global. IsOffer cookie global (identity_of y) (identity_of (after_acceptance p x i false number mine)) (ready [])) k i asked accepts.not_old b in
    let done = accepts_there p q (record x { heard = 0; asks = mine }) y t apart n i number (record { above = drawn.above; within = drawn.within }) (inl (k, asked)) none away in
    subst (λ f. Before p q (link (after_acceptance p x i f number mine) (ready []) (record y { asks = theirs }) t apart (troubled f x y n))) (sym e)
    (before_fewer p q (after_acceptance p x i false number mine) y (ready []) t apart (troubled false x y n) theirs fewer done)
