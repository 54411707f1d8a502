-- Before the moment: a side asks, by an ident or by a reconnect.
use Rattle.std.proofs.Common.{◌≡◌, ◌≢◌, ℕ, ◌<◌, ◌⊎◌, inl, inr, refl, sym, ◌∙◌, subst, arith}
use Rattle.m2_session.specs.Reconnect.{Reconnect}
use Rattle.m2_never_reset.specs.Roles.{Role, AreMints}
use Rattle.m2_never_reset.specs.Asks.{Ident, Ask, by_ident, by_reconnect}
use Rattle.m2_never_reset.specs.Link.{Stand, connecting, asking, Node, Joined, apart, by_near, by_far, link}
use Rattle.m2_never_reset.specs.Steps.{IsDrawn, CarriesClient, reconnect_of}
use Rattle.m2_never_reset.proofs.Before.{identity_of, Asked, IsBelow, IsDrawnBy, IsAskOf, IsIdentOf, Serves, Side, AreJoined, Before}
use Rattle.m2_never_reset.proofs.CrossingAsked.{ask_more, ask_below, at_offer}

-- a side that connects is joined to nothing
connecting_apart : (j : Joined) (a : Ask) (t : Stand) → AreJoined j connecting t → AreJoined j (asking a) t
connecting_apart apart a t h = tt
connecting_apart by_near a t h = h
connecting_apart by_far a t h = h

module _ (p q : Role) (x y : Node) (t : Stand) (j : Joined) (n : ℕ) where
  -- the asks of the side once it asks this
  asks_then : (a : Ask) (greatest : ℕ) → x.greatest < greatest → IsAskOf p greatest a → ((b : Ask) → Asked x.asks connecting b → IsAskOf p x.greatest b) →
      (b : Ask) → Asked x.asks (asking a) b → IsAskOf p greatest b
  asks_then a greatest above new old b (inl h) = ask_more p x.greatest greatest b (omega arith) (old b (inl h))
  asks_then a greatest above new old b (inr e) = subst (IsAskOf p greatest) e new

  -- ---- by an ident

  -- the cookie of the ident is the one that the other idents carry
  same_cookie : (i : Ident) (b : Ask) → CarriesClient p x i → IsAskOf p x.greatest b → IsIdentOf x.client b → IsIdentOf i.cookie b
  same_cookie i (by_ident o) (inl kept) old same = same ∙ sym kept.1
  same_cookie i (by_ident o) (inr new) old same = absurd (old.0 (same ∙ new.0))
  same_cookie i (by_reconnect r) carries old same = same

  idents_then : (i : Ident) → CarriesClient p x i → ((b : Ask) → Asked x.asks connecting b → IsAskOf p x.greatest b) → ((b : Ask) → Asked x.asks connecting b → IsIdentOf x.client b) →
      (b : Ask) → Asked x.asks (asking (by_ident i)) b → IsIdentOf i.cookie b
  idents_then i carries old same b (inl h) = same_cookie i b carries (old b (inl h)) (same b (inl h))
  idents_then i carries old same b (inr e) = subst (IsIdentOf i.cookie) e refl

  client_then : (i : Ident) → CarriesClient p x i → (y.client ≡ 0) ⊎ (y.client ≡ x.client) → (y.client ≡ 0) ⊎ (y.client ≡ i.cookie)
  client_then i carries (inl z) = inl z
  client_then i (inl kept) (inr e) = inr (e ∙ sym kept.1)
  client_then i (inr new) (inr e) = inl (e ∙ new.0)

  cookie_kept : (i : Ident) → AreMints p q → CarriesClient p x i → i.cookie ≢ 0
  cookie_kept i mints (inl kept) z = kept.0 (sym kept.1 ∙ z)
  cookie_kept i mints (inr new) z = mints.first_kept i.global (sym new.1 ∙ z)

  ident_serves : (i : Ident) → CarriesClient p x i → Side p q (identity_of x) connecting (identity_of y) t → Serves (identity_of y) t (identity_of x) connecting →
      Serves (identity_of y) t (record (identity_of x) { client = i.cookie; greatest = i.global }) (asking (by_ident i))
  ident_serves i carries near o = record {
    asks_nothing = o.asks_nothing;
    passive = o.passive;
    no_session = o.no_session;
    idents = idents_then i carries near.asks o.idents;
    client = client_then i carries o.client;
    no_reset = tt;
  }

  pub before_asks_by_ident : (i : Ident) → AreMints p q → x.server ≡ 0 → IsDrawn x i.global → CarriesClient p x i →
      Before p q (link x connecting y t j n) →
      Before p q (link (record x { client = i.cookie; greatest = i.global }) (asking (by_ident i)) y t j n)
  before_asks_by_ident i mints none drawn carries b = record {
    near = record {
      server = b.near.server;
      asks = asks_then (by_ident i) i.global drawn.above (cookie_kept i mints carries, omega arith) b.near.asks;
      owns = (refl, none);
      newest = λ k a e. ask_below p x.greatest i.global a drawn.above (b.near.asks a (inl (k, e)));
      offer = tt;
      serves = λ e. absurd (b.near.serves e).passive;
    };
    far = record {
      server = b.far.server;
      asks = b.far.asks;
      owns = b.far.owns;
      newest = b.far.newest;
      offer = at_offer t _ _ (λ cookie global o. absurd (o.server_kept (sym o.server ∙ none))) b.far.offer;
      serves = λ e. ident_serves i carries b.near (b.far.serves e);
    };
    near_unused = b.near_unused;
    far_unused = b.far_unused;
    joined = connecting_apart j (by_ident i) t b.joined;
    calm = b.calm;
  }

  -- ---- by a reconnect

  drawn_by : (x.server ≡ 0) ⊎ IsDrawnBy p x.server → x.server ≢ 0 → IsDrawnBy p x.server
  drawn_by (inl z) kept = absurd (kept z)
  drawn_by (inr d) kept = d

  theirs_then : (r : Reconnect) (global : ℕ) → ((b : Ask) → Asked x.asks connecting b → IsBelow global b) →
      (b : Ask) → Asked x.asks (asking (by_reconnect r)) b → IsBelow global b
  theirs_then r global old b (inl h) = old b (inl h)
  theirs_then r global old b (inr e) = subst (IsBelow global) e tt

  pub before_asks_by_reconnect : (global connect : ℕ) → x.server ≢ 0 → IsDrawn x global →
      Before p q (link x connecting y t j n) →
      Before p q (link (record x { greatest = global }) (asking (by_reconnect (reconnect_of x global connect))) y t j n)
  before_asks_by_reconnect global connect kept drawn b =
      let r : Reconnect = reconnect_of x global connect in record {
        near = record {
          server = b.near.server;
          asks = asks_then (by_reconnect r) global drawn.above (drawn_by b.near.server kept) b.near.asks;
          owns = (refl, refl);
          newest = tt;
          offer = tt;
          serves = λ e. absurd (b.near.serves e).passive;
        };
        far = record {
          server = b.far.server;
          asks = b.far.asks;
          owns = b.far.owns;
          newest = b.far.newest;
          offer = at_offer t _ _ (λ cookie number o. record {
            none = o.none;
            client_kept = o.client_kept;
            server_kept = o.server_kept;
            client = o.client;
            server = o.server;
            mine_old = o.mine_old;
            theirs_old = theirs_then r number o.theirs_old;
            no_reset = tt;
          }) b.far.offer;
          serves = λ e. absurd (kept (b.far.serves e).no_session);
        };
        near_unused = b.near_unused;
        far_unused = b.far_unused;
        joined = connecting_apart j (by_reconnect r) t b.joined;
        calm = b.calm;
      }
