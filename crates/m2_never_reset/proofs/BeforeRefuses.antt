-- Before the moment: no reconnect names the session of the side that judges it, so that none is resumed and all are
-- reset without the mark. A side that resets has no offer on its way to it.
use Rattle.std.proofs.Common.{◌≡◌, ◌≢◌, ℕ, ◌⊎◌, inl, inr, Bool, true, false, List, refl, sym, ◌∙◌, subst}
use Rattle.m2_session.specs.Reconnect.{Reconnect}
use Rattle.m2_never_reset.specs.Roles.{Role, AreMints}
use Rattle.m2_never_reset.specs.Asks.{Ask, by_ident, by_reconnect, Refusal, reset, retry, wait, Asks, AtMost}
use Rattle.m2_never_reset.specs.Mails.{Mail}
use Rattle.m2_never_reset.specs.Link.{Stand, absent, asking, refused, offered, Node, Joined, apart, by_near, by_far, link}
use Rattle.m2_never_reset.specs.Steps.{IsAtRest, IsDrawn, Names, IsForgotten, MayReset, MayRefuse}
use Rattle.m2_never_reset.proofs.Before.{Identity, identity_of, Asked, IsDrawnBy, Owns, IsNotReset, IsOffer, AtOffer, Side, AreJoined, Before}
use Rattle.m2_never_reset.proofs.CrossingAsked.{at_offer}
use Rattle.m2_never_reset.proofs.BeforeLeaves.{before_fewer, before_draws}
use Rattle.m2_never_reset.proofs.BeforeAccepts.{ChecksAsServer}
use Rattle.m2_queues.proofs.m2_lemmas.Booleans.{not_true_is_false}

-- ---- no reconnect names the session of its judge

drawn_apart : (p q : Role) (c : ℕ) → AreMints p q → (c ≡ 0) ⊎ IsDrawnBy p c → c ≢ 0 → IsDrawnBy q c → ⊥
drawn_apart p q c mints (inl z) kept d = kept z
drawn_apart p q c mints (inr (m, is, e)) kept (n, also, f) = mints.apart m n is also (sym e ∙ f)

drawn_kept : (p q : Role) (c : ℕ) → AreMints p q → IsDrawnBy q c → c ≢ 0
drawn_kept p q c mints (n, also, f) z = mints.second_kept n (sym f ∙ z)

pub never_named : (p q : Role) (x y : Identity) (s t : Stand) (r : Reconnect) → AreMints p q → Side p q x s y t → Side q p y t x s → Asked y.asks t (by_reconnect r) →
    r.server ≡ x.server → x.server ≢ 0 → ⊥
never_named p q x y s t r mints near far asked same kept =
    drawn_apart p q x.server mints near.server kept (subst (IsDrawnBy q) same (far.asks (by_reconnect r) asked))

-- ---- a reset has no mark

module _ (p q : Role) (x y : Node) (s : Stand) (r : Reconnect) (j : Joined) (n : ℕ) (b : Before p q (link x s y (asking (by_reconnect r)) j n)) where
  -- a server's client has no session that it could name, and a server names none
  at_server : (p.policy.server ≡ true) ⊎ (q.policy.server ≡ true) → ⊥
  at_server (inl e) = (b.near.serves e).idents (by_reconnect r) (inr refl)
  at_server (inr e) = (b.far.serves e).asks_nothing (by_reconnect r) (inr refl)

  not_in_full : (full : Bool) → ChecksAsServer p q → MayReset p x s r full → full ≡ false
  not_in_full full checks (inl h) = h.1 ∙ not_true_is_false p.policy.resetcheck (λ e. at_server (checks e))
  not_in_full full checks (inr h) = h.2

-- ---- no offer is on its way to a side that resets

abbrev OfferTo : (x y : Node) (t : Stand) → Stand → Type 0
OfferTo x y t s = AtOffer s (λ cookie global. IsOffer cookie global (identity_of x) (identity_of y) t)

forgotten : (x y : Node) (cookie global : ℕ) (s : Stand) (r : Reconnect) (t : Stand) → (s ≡ absent → ⊥) → r.client ≡ y.client →
    IsOffer cookie global (identity_of x) (identity_of y) t → IsForgotten x s r → ⊥
forgotten x y cookie global s r t stands same o (inl h) = stands h
forgotten x y cookie global s r t stands same o (inr (inl h)) = h (same ∙ o.client)
forgotten x y cookie global s r t stands same o (inr (inr h)) = h.0 o.none

offered_stands : (cookie global : ℕ) (ms : List Mail) → offered cookie global ms ≡ absent → ⊥
offered_stands cookie global ms e = subst IsAtRest (sym e) tt

resets_none : (p : Role) (x y : Node) (s : Stand) (r : Reconnect) (full : Bool) (t u : Stand) → r.client ≡ y.client → MayReset p x s r full → OfferTo x y t s → OfferTo x y u s
resets_none p x y (offered cookie global ms) r full t u same (inl h) o = absurd (forgotten x y cookie global (offered cookie global ms) r t (offered_stands cookie global ms) same o h.0)
resets_none p x y (offered cookie global ms) r full t u same (inr h) o = absurd h.1
resets_none p x y s r full t u same h o = tt

-- ---- the step

was_asked : (asks : Asks) (a b : Ask) (refusal : Refusal) → Asked asks (refused a refusal) b → Asked asks (asking a) b
was_asked asks a b refusal (inl h) = inl h
was_asked asks a b refusal (inr h) = absurd h

not_joined : (j : Joined) (a : Ask) (refusal : Refusal) (s : Stand) → AreJoined j s (asking a) → AreJoined j s (refused a refusal)
not_joined apart a refusal s h = tt
not_joined by_near a refusal s h = h
not_joined by_far a refusal s h = h

is_refused : (p q : Role) (x y : Node) (s : Stand) (j : Joined) (n : ℕ) (a : Ask) (refusal : Refusal) →
    Owns y.client y.server (refused a refusal) → OfferTo x y (refused a refusal) s → (p.policy.server ≡ true → IsNotReset (refused a refusal)) →
    Before p q (link x s y (asking a) j n) → Before p q (link x s y (refused a refusal) j n)
is_refused p q x y s j n a refusal owns offer serves b = record {
  near = record {
    server = b.near.server;
    asks = b.near.asks;
    owns = b.near.owns;
    newest = b.near.newest;
    offer = offer;
    serves = λ e. record {
      asks_nothing = (b.near.serves e).asks_nothing;
      passive = (b.near.serves e).passive;
      no_session = (b.near.serves e).no_session;
      idents = λ c h. (b.near.serves e).idents c (was_asked y.asks a c refusal h);
      client = (b.near.serves e).client;
      no_reset = serves e;
    };
  };
  far = record {
    server = b.far.server;
    asks = λ c h. b.far.asks c (was_asked y.asks a c refusal h);
    owns = owns;
    newest = tt;
    offer = tt;
    serves = λ e. absurd ((b.far.serves e).asks_nothing a (inr refl));
  };
  near_unused = b.near_unused;
  far_unused = b.far_unused;
  joined = not_joined j a refusal s b.joined;
  calm = b.calm;
}

-- an answer that isn't a reset is heard by a side that was offered something as before
offer_refused : (x y : Node) (s : Stand) (a : Ask) (refusal : Refusal) → IsNotReset (refused a refusal) → OfferTo x y (asking a) s → OfferTo x y (refused a refusal) s
offer_refused x y s a refusal no_reset o = at_offer s _ _ (λ cookie global f. record {
  none = f.none;
  client_kept = f.client_kept;
  server_kept = f.server_kept;
  client = f.client;
  server = f.server;
  mine_old = f.mine_old;
  theirs_old = λ b h. f.theirs_old b (was_asked y.asks a b refusal h);
  no_reset = no_reset;
}) o

refuses_so : (p q : Role) (x y : Node) (s : Stand) (j : Joined) (n : ℕ) (a : Ask) (refusal : Refusal) → AreMints p q → ChecksAsServer p q → MayRefuse p x s a refusal →
    Before p q (link x s y (asking a) j n) → Before p q (link x s y (refused a refusal) j n)
refuses_so p q x y s j n (by_ident i) wait mints checks h b = is_refused p q x y s j n (by_ident i) wait tt (offer_refused x y s (by_ident i) wait tt b.near.offer) (λ e. tt) b
refuses_so p q x y s j n (by_ident i) retry mints checks h b = absurd h
refuses_so p q x y s j n (by_ident i) (reset full) mints checks h b = absurd h
refuses_so p q x y s j n (by_reconnect r) retry mints checks h b = absurd (never_named p q _ _ s _ r mints b.near b.far (inr refl) h.server h.kept)
refuses_so p q x y s j n (by_reconnect r) wait mints checks h b = absurd (never_named p q _ _ s _ r mints b.near b.far (inr refl) h.server h.kept)
refuses_so p q x y s j n (by_reconnect r) (reset full) mints checks h b =
    is_refused p q x y s j n (by_reconnect r) (reset full) (not_in_full p q x y s r j n b full checks h)
    (resets_none p x y s r full (asking (by_reconnect r)) (refused (by_reconnect r) (reset full)) b.far.owns.0 h b.near.offer)
    (λ e. absurd (at_server p q x y s r j n b (inl e))) b

pub before_refuses : (p q : Role) (x y : Node) (s : Stand) (j : Joined) (n : ℕ) (a : Ask) (refusal : Refusal) (number : ℕ) (theirs : Asks) →
    AreMints p q → ChecksAsServer p q → MayRefuse p x s a refusal → IsDrawn x number → AtMost y.asks theirs →
    Before p q (link x s y (asking a) j n) →
    Before p q (link (record x { greatest = number }) s (record y { asks = theirs }) (refused a refusal) j n)
before_refuses p q x y s j n a refusal number theirs mints checks may drawn fewer b =
    before_fewer p q (record x { greatest = number }) y s (refused a refusal) j n theirs fewer
    (before_draws p q x y s (refused a refusal) j n number drawn (refuses_so p q x y s j n a refusal mints checks may b))

-- ---- nothing is resumed

pub never_resumed : (p q : Role) (x y : Node) (s t : Stand) (j : Joined) (n : ℕ) (r : Reconnect) → AreMints p q → Names r x → Asked y.asks t (by_reconnect r) →
    Before p q (link x s y t j n) → ⊥
never_resumed p q x y s t j n r mints names asked b = never_named p q (identity_of x) (identity_of y) s t r mints b.near b.far asked names.server names.kept
