-- Before the moment: the sockets of a side are opened and left, and asks that were left are judged without a change.
use Rattle.std.proofs.Common.{◌≡◌, ℕ, ◌<◌, ◌≤◌, ◌⊎◌, inl, inr, false, true≢false, refl, sym, ◌∙◌, arith}
use Rattle.m2_never_reset.specs.Roles.{Role}
use Rattle.m2_never_reset.specs.Asks.{by_ident, Asks, AtMost}
use Rattle.m2_never_reset.specs.Link.{Stand, connecting, asking, Node, Joined, apart, link}
use Rattle.m2_never_reset.specs.Steps.{HasLeft, LeavesAt, IsDrawn}
use Rattle.m2_never_reset.proofs.Before.{Identity, identity_of, IsNewest, IsNotReset, IsOffer, Serves, Side, Before}
use Rattle.m2_never_reset.proofs.CrossingAsked.{Fewer, asks_nothing, asks_left, asks_fewer, below_more, ask_more, left_asks_nothing, left_owns, left_newest, left_not_offered, left_not_reset, left_passive, at_offer}

-- ---- what is known of a side, where the other one changes

-- the other side keeps its cookies and knows of no smaller number, has no new ask, and isn't reset
pub record Stays (y : Identity) (t : Stand) (z : Identity) (u : Stand) : Type 0 where
  pub client : z.client ≡ y.client
  pub server : z.server ≡ y.server
  pub peer_global : y.peer_global ≤ z.peer_global
  pub asks : Fewer y.asks t z.asks u
  pub no_reset : IsNotReset t → IsNotReset u

offer_stays : (cookie global : ℕ) (x y z : Identity) (t u : Stand) → Stays y t z u → IsOffer cookie global x y t → IsOffer cookie global x z u
offer_stays cookie global x y z t u h o = record {
  none = o.none;
  client_kept = o.client_kept;
  server_kept = o.server_kept;
  client = h.client ∙ o.client;
  server = h.server ∙ o.server;
  mine_old = λ k a e. below_more y.peer_global z.peer_global a h.peer_global (o.mine_old k a e);
  theirs_old = λ a b. o.theirs_old a (h.asks a b);
  no_reset = h.no_reset o.no_reset;
}

client_stays : (b c d : ℕ) → d ≡ c → (b ≡ 0) ⊎ (b ≡ c) → (b ≡ 0) ⊎ (b ≡ d)
client_stays b c d e (inl z) = inl z
client_stays b c d e (inr s) = inr (s ∙ sym e)

serves_stays : (x y z : Identity) (s t u : Stand) → Stays y t z u → Serves x s y t → Serves x s z u
serves_stays x y z s t u h o = record {
  asks_nothing = o.asks_nothing;
  passive = o.passive;
  no_session = h.server ∙ o.no_session;
  idents = λ a b. rw h.client (o.idents a (h.asks a b));
  client = client_stays x.client y.client z.client h.client o.client;
  no_reset = h.no_reset o.no_reset;
}

pub side_stays : (p q : Role) (x y z : Identity) (s t u : Stand) → Stays y t z u → Side p q x s y t → Side p q x s z u
side_stays p q x y z s t u h o = record {
  server = o.server;
  asks = o.asks;
  owns = o.owns;
  newest = o.newest;
  offer = at_offer s _ _ (λ cookie global. offer_stays cookie global x y z t u h) o.offer;
  serves = λ e. serves_stays x y z s t u h (o.serves e);
}

-- ---- fewer asks are unjudged

newest_fewer : (old new : Asks) (s : Stand) → AtMost old new → IsNewest old s → IsNewest new s
newest_fewer old new (asking (by_ident i)) fewer h = λ k a e. h k a (fewer k a e)
newest_fewer old new s fewer h = tt

pub fewer_asks : (p q : Role) (x : Identity) (s : Stand) (y : Identity) (t : Stand) (asks : Asks) → AtMost x.asks asks → Side p q x s y t → Side p q (record x { asks = asks }) s y t
fewer_asks p q x s y t asks fewer o = record {
  server = o.server;
  asks = λ a b. o.asks a (asks_fewer x.asks asks s fewer a b);
  owns = o.owns;
  newest = newest_fewer x.asks asks s fewer o.newest;
  offer = at_offer s _ _ (λ cookie global f. record {
    none = f.none;
    client_kept = f.client_kept;
    server_kept = f.server_kept;
    client = f.client;
    server = f.server;
    mine_old = λ k a e. f.mine_old k a (fewer k a e);
    theirs_old = f.theirs_old;
    no_reset = f.no_reset;
  }) o.offer;
  serves = λ e. record {
    asks_nothing = λ a b. (o.serves e).asks_nothing a (asks_fewer x.asks asks s fewer a b);
    passive = (o.serves e).passive;
    no_session = (o.serves e).no_session;
    idents = (o.serves e).idents;
    client = (o.serves e).client;
    no_reset = (o.serves e).no_reset;
  };
}

pub stays_fewer : (x : Identity) (s : Stand) (asks : Asks) → AtMost x.asks asks → Stays x s (record x { asks = asks }) s
stays_fewer x s asks fewer =
    record { client = refl; server = refl; peer_global = omega arith; asks = asks_fewer x.asks asks s fewer; no_reset = λ h. h }

-- the same, of the side that was asked
pub before_fewer : (p q : Role) (x y : Node) (s t : Stand) (j : Joined) (n : ℕ) (asks : Asks) → AtMost y.asks asks →
    Before p q (link x s y t j n) → Before p q (link x s (record y { asks = asks }) t j n)
before_fewer p q x y s t j n asks fewer b = record {
  near = side_stays p q (identity_of x) (identity_of y) (record (identity_of y) { asks = asks }) s t t (stays_fewer (identity_of y) t asks fewer) b.near;
  far = fewer_asks q p (identity_of y) t (identity_of x) s asks fewer b.far;
  near_unused = b.near_unused;
  far_unused = b.far_unused;
  joined = b.joined;
  calm = b.calm;
}

-- ---- steps

pub before_dials : (p q : Role) (x y : Node) (s t : Stand) (j : Joined) (n : ℕ) (asks : Asks) → p.policy.server ≡ false → AtMost x.asks asks →
    Before p q (link x s y t j n) → Before p q (link (record x { heard = 0; asks = asks }) connecting y t apart n)
before_dials p q x y s t j n asks client fewer b =
    let less : Fewer x.asks s asks connecting = asks_nothing x.asks asks s connecting fewer (λ a h. h) in record {
      near = record {
        server = b.near.server;
        asks = λ a h. b.near.asks a (less a h);
        owns = tt;
        newest = tt;
        offer = tt;
        serves = λ e. absurd (true≢false (sym e ∙ client));
      };
      far = side_stays q p (identity_of y) (identity_of x) (record (identity_of x) { asks = asks }) t s connecting
          (record { client = refl; server = refl; peer_global = omega arith; asks = less; no_reset = λ h. tt }) b.far;
      near_unused = record {
        no_last = b.near_unused.no_last;
        no_base = b.near_unused.no_base;
        none_heard = refl;
        none_accepted = b.near_unused.none_accepted;
      };
      far_unused = b.far_unused;
      joined = tt;
      calm = b.calm;
    }

pub before_leaves : (p q : Role) (x y : Node) (s t u : Stand) (j : Joined) (n : ℕ) (asks : Asks) → HasLeft u → LeavesAt s x.asks asks →
    Before p q (link x s y t j n) → Before p q (link (record x { heard = 0; asks = asks }) u y t apart n)
before_leaves p q x y s t u j n asks left leaves b =
    let less : Fewer x.asks s asks u = asks_left x.asks asks s u leaves (λ a. left_asks_nothing u a left) in record {
      near = record {
        server = b.near.server;
        asks = λ a h. b.near.asks a (less a h);
        owns = left_owns x.client x.server u left;
        newest = left_newest asks u left;
        offer = left_not_offered _ u left;
        serves = λ e. record {
          asks_nothing = λ a h. (b.near.serves e).asks_nothing a (less a h);
          passive = left_passive u left;
          no_session = (b.near.serves e).no_session;
          idents = (b.near.serves e).idents;
          client = (b.near.serves e).client;
          no_reset = (b.near.serves e).no_reset;
        };
      };
      far = side_stays q p (identity_of y) (identity_of x) (record (identity_of x) { asks = asks }) t s u
          (record { client = refl; server = refl; peer_global = omega arith; asks = less; no_reset = λ h. left_not_reset u left }) b.far;
      near_unused = record {
        no_last = b.near_unused.no_last;
        no_base = b.near_unused.no_base;
        none_heard = refl;
        none_accepted = b.near_unused.none_accepted;
      };
      far_unused = b.far_unused;
      joined = tt;
      calm = b.calm;
    }

-- a number is drawn for an answer that nobody hears
draws : (p q : Role) (x y : Identity) (s t : Stand) (number : ℕ) → x.greatest < number → Side p q x s y t → Side p q (record x { greatest = number }) s y t
draws p q x y s t number above o = record {
  server = o.server;
  asks = λ a h. ask_more p x.greatest number a (omega arith) (o.asks a h);
  owns = o.owns;
  newest = o.newest;
  offer = at_offer s _ _ (λ cookie global f. record {
    none = f.none;
    client_kept = f.client_kept;
    server_kept = f.server_kept;
    client = f.client;
    server = f.server;
    mine_old = f.mine_old;
    theirs_old = f.theirs_old;
    no_reset = f.no_reset;
  }) o.offer;
  serves = λ e. record {
    asks_nothing = (o.serves e).asks_nothing;
    passive = (o.serves e).passive;
    no_session = (o.serves e).no_session;
    idents = (o.serves e).idents;
    client = (o.serves e).client;
    no_reset = (o.serves e).no_reset;
  };
}

pub before_draws : (p q : Role) (x y : Node) (s t : Stand) (j : Joined) (n : ℕ) (number : ℕ) → IsDrawn x number →
    Before p q (link x s y t j n) → Before p q (link (record x { greatest = number }) s y t j n)
before_draws p q x y s t j n number drawn b = record {
  near = draws p q (identity_of x) (identity_of y) s t number drawn.above b.near;
  far = side_stays q p (identity_of y) (identity_of x) (record (identity_of x) { greatest = number }) t s s
      (record { client = refl; server = refl; peer_global = omega arith; asks = λ a h. h; no_reset = λ h. h }) b.far;
  near_unused = b.near_unused;
  far_unused = b.far_unused;
  joined = b.joined;
  calm = b.calm;
}
