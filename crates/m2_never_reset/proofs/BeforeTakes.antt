-- Before the moment: a side takes the answer to its ask. To take an offer is the moment.
use Rattle.std.proofs.Common.{◌≡◌, ◌≢◌, ℕ, max, inl, inr, true, false, true≢false, List, refl, sym, ◌∙◌, subst, arith, Some}
use Rattle.m2_journal.specs.m2_fabric.declared.socket.SocketId.{SocketId}
use Rattle.m2_never_reset.specs.Roles.{Role}
use Rattle.m2_never_reset.specs.Asks.{Ask, by_ident, by_reconnect, Refusal, reset, retry, wait, Asks}
use Rattle.m2_never_reset.specs.Mails.{Mail}
use Rattle.m2_never_reset.specs.Link.{Stand, absent, standby, waiting, connecting, asking, refused, offered, resumed, ready, Node, Joined, apart, by_near, by_far, link}
use Rattle.m2_never_reset.specs.Steps.{set_back, after_offer, troubled}
use Rattle.m2_never_reset.proofs.Before.{identity_of, Asked, IsBelow, Owns, IsNotReset, IsOffer, AreJoined, Before}
use Rattle.m2_never_reset.proofs.After.{IsSettledAt, After}
use Rattle.m2_never_reset.proofs.CrossingAsked.{below_more, at_offer}
use Rattle.m2_never_reset.proofs.BeforeLeaves.{side_stays}
use Rattle.m2_never_reset.proofs.BeforeAccepts.{no_trouble}

-- ---- an offer

-- the side that made an offer stands where it keeps its session
settled : (client server : ℕ) (t : Stand) → server ≢ 0 → Owns client server t → IsNotReset t → IsSettledAt client server t
settled c v absent kept owns none = absurd (kept owns)
settled c v (asking (by_ident i)) kept owns none = absurd (kept owns.1)
settled c v (asking (by_reconnect r)) kept owns none = owns
settled c v (refused a (reset full)) kept owns none = absurd none
settled c v (refused a retry) kept owns none = tt
settled c v (refused a wait) kept owns none = tt
settled c v (offered cookie global ms) kept owns none = absurd (kept owns)
settled c v standby kept owns none = tt
settled c v waiting kept owns none = tt
settled c v connecting kept owns none = tt
settled c v (resumed seen ms) kept owns none = absurd owns
settled c v (ready ms) kept owns none = tt

idents_old : (asks : Asks) (n : ℕ) (ms : List Mail) → ((k : SocketId) (a : Ask) → asks k ≡ Some a → IsBelow n a) → (a : Ask) → Asked asks (ready ms) a → IsBelow n a
idents_old asks n ms old a (inl (k, e)) = old k a e
idents_old asks n ms old a (inr h) = absurd h

pub before_takes_offer : (p q : Role) (x y : Node) (t : Stand) (j : Joined) (n : ℕ) (cookie global : ℕ) (ms : List Mail) →
    Before p q (link x (offered cookie global ms) y t j n) →
    After x.client cookie (link (after_offer x cookie global) (ready ms) y t j (troubled false x y n))
before_takes_offer p q x y t j n cookie global ms b =
    let o : IsOffer cookie global (identity_of x) (identity_of y) t = b.near.offer in
    let kept : y.server ≢ 0 = λ e. o.server_kept (sym o.server ∙ e) in
    let stands : IsSettledAt y.client y.server t = settled y.client y.server t kept b.far.owns o.no_reset in record {
      client_kept = o.client_kept;
      server_kept = o.server_kept;
      near = record { same_client = refl; same_server = refl; stand = tt; old = idents_old x.asks y.peer_global ms o.mine_old };
      far = record {
        same_client = o.client;
        same_server = o.server;
        stand = subst (λ v. IsSettledAt x.client v t) o.server (subst (λ c. IsSettledAt c y.server t) o.client stands);
        old = λ a h. below_more global (max x.peer_global global) a (omega arith) (o.theirs_old a h);
      };
      calm = no_trouble x y n b.near_unused b.far_unused b.calm;
    }

-- ---- a retry

fewer_again : (asks : Asks) (s : Stand) (a : Ask) → Asked asks connecting a → Asked asks s a
fewer_again asks s a (inl h) = inl h
fewer_again asks s a (inr h) = absurd h

not_joined : (j : Joined) (a : Ask) (refusal : Refusal) (t : Stand) → AreJoined j (refused a refusal) t → AreJoined j connecting t
not_joined apart a refusal t h = tt
not_joined by_near a refusal t h = h
not_joined by_far a refusal t h = h

pub before_asks_again : (p q : Role) (x y : Node) (t : Stand) (j : Joined) (n : ℕ) (a : Ask) →
    Before p q (link x (refused a retry) y t j n) → Before p q (link x connecting y t j n)
before_asks_again p q x y t j n a b = record {
  near = record {
    server = b.near.server;
    asks = λ c h. b.near.asks c (fewer_again x.asks (refused a retry) c h);
    owns = tt;
    newest = tt;
    offer = tt;
    serves = λ e. absurd (b.near.serves e).passive;
  };
  far = side_stays q p (identity_of y) (identity_of x) (identity_of x) t (refused a retry) connecting
      (record { client = refl; server = refl; peer_global = omega arith; asks = fewer_again x.asks (refused a retry); no_reset = λ h. tt }) b.far;
  near_unused = b.near_unused;
  far_unused = b.far_unused;
  joined = not_joined j a retry t b.joined;
  calm = b.calm;
}

-- ---- a reset

pub before_obeys : (p q : Role) (x y : Node) (t : Stand) (j : Joined) (n : ℕ) (a : Ask) →
    Before p q (link x (refused a (reset false)) y t j n) →
    Before p q (link (record (set_back false x) { server = 0 }) connecting y t j (troubled false x y n))
before_obeys p q x y t j n a b = record {
  near = record {
    server = inl refl;
    asks = λ c h. b.near.asks c (fewer_again x.asks (refused a (reset false)) c h);
    owns = tt;
    newest = tt;
    offer = tt;
    serves = λ e. absurd (b.near.serves e).passive;
  };
  far = record {
    server = b.far.server;
    asks = b.far.asks;
    owns = b.far.owns;
    newest = b.far.newest;
    offer = at_offer t _ _ (λ cookie global o. absurd o.no_reset) b.far.offer;
    serves = λ e. absurd (b.far.serves e).no_reset;
  };
  near_unused = record { no_last = refl; no_base = refl; none_heard = b.near_unused.none_heard; none_accepted = b.near_unused.none_accepted };
  far_unused = b.far_unused;
  joined = not_joined j a (reset false) t b.joined;
  calm = no_trouble x y n b.near_unused b.far_unused b.calm;
}

pub never_in_full : (p q : Role) (x y : Node) (t : Stand) (j : Joined) (n : ℕ) (a : Ask) →
    Before p q (link x (refused a (reset true)) y t j n) → ⊥
never_in_full p q x y t j n a b = true≢false b.near.owns
