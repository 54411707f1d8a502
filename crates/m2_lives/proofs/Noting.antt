-- What the ledgers of the two sides keep where one of them does a thing more: it sends a frame, begins a life, is in Ready on a
-- socket, numbers or accepts a message, opens or takes a socket, draws a number.
use Rattle.std.proofs.Common.{◌≡◌, ◌≢◌, ℕ, zero, suc, ◌-◌, ◌≤◌, ◌⊎◌, inl, inr, Bool, true, false, ◌==◌, if◌then◌else◌, List, [], ◌∷◌, ◌++◌, length, length-append, map, Some, refl, sym, ap, subst, ◌∙◌, arith, append-nil, append_assoc, le_refl}
use Rattle.std.specs.Prelude.{slice_get}
use Rattle.std.specs.List.{AllByRecursion, filter}
use Rattle.std.proofs.lemmas.List.{length-map, map-append}
use Rattle.std.proofs.lemmas.List.Elements.{filter-append, filter_map-append}
use Rattle.std.proofs.lemmas.Bool.{eqb-true, eq-eqb}
use Rattle.std.proofs.lemmas.Option.{none-some}
use Rattle.m2_bytes_fit.proofs.Asking.{no_ask_of}
use Rattle.m2_channel.specs.Channel.{KeyedMessage}
use Rattle.m2_journal.specs.OutFrames as out
use Rattle.m2_journal.specs.OutFrames.{OutFrame}
use Rattle.m2_journal.specs.State.{SentFrame}
use Rattle.m2_journal.specs.m2_fabric.declared.socket.SocketId.{SocketId}
use Rattle.m2_journal.specs.m2_fabric.Sockets.{is_among, same_socket}
use Rattle.m2_journal.specs.m2_message.Message.{Content, unnumbered}
use Rattle.m2_journal.proofs.m2_fabric.Sockets.{among_front, among_other, same_equal}
use Rattle.m2_journal.proofs.m2_lemmas.Booleans.{false_isnt_true, from_false_true}
use Rattle.m2_journal.proofs.m2_lemmas.Lists.{all_front, all_last, all_so_of}
use Rattle.m2_never_reset.proofs.Tallies.{first-more}
use Rattle.m2_never_reset.specs.Frames.{asks_on, is_ask, no_ask, last_ask}
use Rattle.m2_never_reset.specs.Order.{AreFirstOf}
use Rattle.m2_never_reset.proofs.Sent.{asks_same, asks_elsewhere}
use Rattle.m2_lives.specs.Lives.{Has, IsNewName, LifeMessage, of_life}
use Rattle.m2_lives.specs.LivesLaws.{AreNames}
use Rattle.m2_lives.proofs.Among.{has_so, has_front, has_either, has_last, names_more, names_last, all_named}
use Rattle.m2_lives.specs.ObservedLaws.{NumberedLife}
use Rattle.m2_lives.proofs.Ledger.{Stay, Ledger, lives, names, contents, count, HasStay, HasNumbered, SentIn, IsTrueFrame, offer_of, offers, IsAcceptance, HasAccepted, IsAskFor, HasAskedFor, AreApart, StaysAreApart, IsThere, IsLedger, ComesFrom, AreLedgers}

-- ---- a ledger that grows

pub record Grows (x z : Ledger) : Type 0 where
  pub stays : (k : SocketId) (n : ℕ) → HasStay k n x → HasStay k n z
  pub counts : (n : ℕ) → count n x ≤ count n z
  pub numbered : (n place : ℕ) (m : Content) → HasNumbered n place m x → HasNumbered n place m z
  pub taken : (k : SocketId) → is_among k x.taken ≡ true → is_among k z.taken ≡ true
  pub opened : (k : SocketId) → is_among k x.opened ≡ true → is_among k z.opened ≡ true
  pub top : x.top ≤ z.top

sent_on : (k : SocketId) (acked n : ℕ) (x z : Ledger) → Grows x z → SentIn k acked n x → SentIn k acked n z
sent_on k acked n x z g h = record { stay = g.stays k n h.stay; within = let c = g.counts n in let a = h.within in omega (arith, c, a) }

pub true_on : (mint : ℕ → ℕ) (x z : Ledger) → Grows x z → (k : SocketId) (w : OutFrame) → IsTrueFrame mint x k w → IsTrueFrame mint z k w
true_on mint x z g k (out.message number acked m) h = (h.0, sent_on k acked h.0 x z g h.1, h.2, g.numbered h.0 (number - 1) (unnumbered m) h.3)
true_on mint x z g k (out.acknowledgement number) h = (h.0, sent_on k number h.0 x z g h.1)
true_on mint x z g k (out.reconnect_ok seen) h = (h.0, sent_on k seen h.0 x z g h.1, g.taken k h.2)
true_on mint x z g k (out.server_ident cookie global) h = (g.stays k cookie h.0, g.taken k h.1, h.2, h.3, let t = g.top in let a = h.4 in omega (arith, t, a))
true_on mint x z g k (out.reconnect client server global connect seen) h = (h.0, let c = g.counts server in let a = h.1 in omega (arith, c, a))
true_on mint x z g k out.greeting h = tt
true_on mint x z g k (out.ident cookie global) h = tt
true_on mint x z g k (out.reset full) h = tt
true_on mint x z g k (out.retry connect) h = tt
true_on mint x z g k (out.retry_global global) h = tt
true_on mint x z g k out.wait h = tt
true_on mint x z g k (out.keepalive_answer a) h = tt

frames_grow : (mint : ℕ → ℕ) (x z : Ledger) → Grows x z → AllByRecursion (λ (w : SentFrame). IsTrueFrame mint x w.socket w.frame) x.sent → AllByRecursion (λ (w : SentFrame). IsTrueFrame mint z w.socket w.frame) x.sent
frames_grow mint x z g h = all_so_of (λ (w : SentFrame). IsTrueFrame mint x w.socket w.frame) (λ (w : SentFrame). IsTrueFrame mint z w.socket w.frame) x.sent (λ w t. true_on mint x z g w.socket w.frame t) h

there_grow : (x z : Ledger) → Grows x z → (ss : List Stay) → AllByRecursion (λ (s : Stay). IsThere x s.socket) ss → AllByRecursion (λ (s : Stay). IsThere z s.socket) ss
there_grow x z g ss h = all_so_of (λ (s : Stay). IsThere x s.socket) (λ (s : Stay). IsThere z s.socket) ss (λ s t. at s t) h
  where
    at : (s : Stay) → IsThere x s.socket → IsThere z s.socket
    at s (inl o) = inl (g.opened s.socket o)
    at s (inr t) = inr (g.taken s.socket t)

from_grows : (mint : ℕ → ℕ) (x z y : Ledger) → Grows x z → (n : ℕ) → ComesFrom mint x y n → ComesFrom mint z y n
from_grows mint x z y g n (inl e) = inl e
from_grows mint x z y g n (inr (inl d)) = inr (inl (d.0, d.1, (let t = g.top in let a = d.2 in omega (arith, t, a)), d.3))
from_grows mint x z y g n (inr (inr h)) = inr (inr (has_so (λ (s : Stay). (s.name ≡ n) × HasStay s.socket n x) (λ (s : Stay). (s.name ≡ n) × HasStay s.socket n z) (λ s p. (p.0, g.stays s.socket n p.1)) (offers y.sent) h))

-- ---- sockets

pub no_stay : (k : SocketId) (ss : List Stay) → AllByRecursion (λ (s : Stay). s.socket ≢ k) ss → (n : ℕ) → Has (λ (s : Stay). (s.socket ≡ k) × (s.name ≡ n)) ss → ⊥
no_stay k [] all n h = h
no_stay k (s ∷ ss) all n (inl p) = all.0 p.0
no_stay k (s ∷ ss) all n (inr h) = no_stay k ss all.1 n h

pub one_stay : (k : SocketId) (n m : ℕ) (ss : List Stay) → StaysAreApart ss → Has (λ (s : Stay). (s.socket ≡ k) × (s.name ≡ n)) ss → Has (λ (s : Stay). (s.socket ≡ k) × (s.name ≡ m)) ss → n ≡ m
one_stay k n m [] apart h g = absurd h
one_stay k n m (s ∷ ss) apart (inl p) (inl q) = sym p.1 ∙ q.1
one_stay k n m (s ∷ ss) apart (inl p) (inr g) = absurd (no_stay k ss (subst (λ j. AllByRecursion (λ (t : Stay). t.socket ≢ j) ss) p.0 apart.0) m g)
one_stay k n m (s ∷ ss) apart (inr h) (inl q) = absurd (no_stay k ss (subst (λ j. AllByRecursion (λ (t : Stay). t.socket ≢ j) ss) q.0 apart.0) n h)
one_stay k n m (s ∷ ss) apart (inr h) (inr g) = one_stay k n m ss apart.1 h g

stays_more : (ss : List Stay) (t : Stay) → StaysAreApart ss → AllByRecursion (λ (s : Stay). s.socket ≢ t.socket) ss → StaysAreApart (ss ++ t ∷ [])
stays_more [] t apart new = (tt, tt)
stays_more (s ∷ ss) t apart new = (all_last (λ (u : Stay). u.socket ≢ s.socket) ss t apart.0 (λ e. new.0 (sym e)), stays_more ss t apart.1 new.1)

-- one of the stays is on this socket
pub stay_there : (x : Ledger) (ss : List Stay) (k : SocketId) (n : ℕ) → AllByRecursion (λ (s : Stay). IsThere x s.socket) ss → Has (λ (s : Stay). (s.socket ≡ k) × (s.name ≡ n)) ss → IsThere x k
stay_there x [] k n all h = absurd h
stay_there x (s ∷ ss) k n all (inl p) = subst (IsThere x) p.0 all.0
stay_there x (s ∷ ss) k n all (inr h) = stay_there x ss k n all.1 h

-- what is true of all frames is true of one that was sent
pub all_sent : (Q : SocketId → OutFrame → Type 0) (sent : List SentFrame) (k : SocketId) (v : OutFrame) → AllByRecursion (λ (w : SentFrame). Q w.socket w.frame) sent →
    Has (λ (w : SentFrame). (w.socket ≡ k) × (w.frame ≡ v)) sent → Q k v
all_sent Q [] k v all h = absurd h
all_sent Q (w ∷ ws) k v all (inl p) = subst (λ j. Q j v) p.0 (subst (Q w.socket) p.1 all.0)
all_sent Q (w ∷ ws) k v all (inr h) = all_sent Q ws k v all.1 h

-- ---- a frame that is sent

abbrev pub sends_one : SocketId → OutFrame → Ledger → Ledger
sends_one k w x = record x { sent = x.sent ++ record { socket = k; frame = w } ∷ [] }

-- what it takes to send it
pub record MaySend (mint : ℕ → ℕ) (k : SocketId) (w : OutFrame) (x y : Ledger) : Type 0 where
  pub true_frame : IsTrueFrame mint x k w
  -- a cookie that is offered was not offered before
  pub fresh : (cookie global : ℕ) → w ≡ out.server_ident cookie global → AllByRecursion (λ n. n ≢ cookie) (map (λ (s : Stay). s.name) (offers x.sent))
  -- nothing is asked on a socket where the other has accepted
  pub asks : is_ask w ≡ true → HasAccepted k y.sent → ⊥
  -- a session is resumed for an ask that names it
  pub resumes : (seen n : ℕ) → w ≡ out.reconnect_ok seen → HasStay k n x → HasAskedFor k n y.sent

pub same_grows : (k : SocketId) (w : OutFrame) (x : Ledger) → Grows x (sends_one k w x)
same_grows k w x = record { stays = λ j n p. p; counts = λ n. le_refl (count n x); numbered = λ n place m p. p; taken = λ j e. e; opened = λ j e. e; top = le_refl x.top }

offers_more : (xs : List SentFrame) (w : SentFrame) → offers (xs ++ w ∷ []) ≡ offers xs ++ offers (w ∷ [])
offers_more xs w = filter_map-append offer_of xs (w ∷ [])

apart_more : (ns : List ℕ) (m : ℕ) → AreApart ns → AllByRecursion (λ n. n ≢ m) ns → AreApart (ns ++ m ∷ [])
apart_more [] m apart new = (tt, tt)
apart_more (n ∷ ns) m apart new = (all_last (λ k. k ≢ n) ns m apart.0 (λ e. new.0 (sym e)), apart_more ns m apart.1 new.1)

abbrev stay_name : Stay → ℕ
stay_name s = s.name

offered_more : (k : SocketId) (w : OutFrame) (sent : List SentFrame) → AreApart (map stay_name (offers sent)) →
    ((cookie global : ℕ) → w ≡ out.server_ident cookie global → AllByRecursion (λ n. n ≢ cookie) (map stay_name (offers sent))) →
    AreApart (map stay_name (offers (sent ++ record { socket = k; frame = w } ∷ [])))
offered_more k w sent apart fresh = subst (λ l. AreApart (map stay_name l)) (sym (offers_more sent (record { socket = k; frame = w }))) (at w fresh)
  where
    still : AreApart (map stay_name (offers sent ++ []))
    still = subst (λ l. AreApart (map stay_name l)) (sym (append-nil (offers sent))) apart

    at : (v : OutFrame) → ((cookie global : ℕ) → v ≡ out.server_ident cookie global → AllByRecursion (λ n. n ≢ cookie) (map stay_name (offers sent))) →
        AreApart (map stay_name (offers sent ++ offers (record { socket = k; frame = v } ∷ [])))
    at (out.server_ident c g) new = subst AreApart (sym (map-append stay_name (offers sent) (record { socket = k; name = c } ∷ []))) (apart_more (map stay_name (offers sent)) c apart (new c g refl))
    at out.greeting new = still
    at (out.ident c g) new = still
    at (out.reconnect client server global connect seen) new = still
    at (out.reconnect_ok seen) new = still
    at (out.reset full) new = still
    at (out.retry connect) new = still
    at (out.retry_global global) new = still
    at out.wait new = still
    at (out.message number acked m) new = still
    at (out.acknowledgement number) new = still
    at (out.keepalive_answer a) new = still

-- a resumption is an acceptance
ok_accepts : (k : SocketId) (seen : ℕ) (sent : List SentFrame) → Has (λ (w : SentFrame). (w.socket ≡ k) × (w.frame ≡ out.reconnect_ok seen)) sent → HasAccepted k sent
ok_accepts k seen sent h =
    has_so (λ (w : SentFrame). (w.socket ≡ k) × (w.frame ≡ out.reconnect_ok seen)) (λ (w : SentFrame). (w.socket ≡ k) × IsAcceptance w.frame) (λ w p. (p.0, subst IsAcceptance (sym p.1) tt)) sent h

module _ (mint theirs : ℕ → ℕ) (k : SocketId) (w : OutFrame) (x y : Ledger) (may : MaySend mint k w x y) (h : AreLedgers mint theirs x y) where
  abbrev z : Ledger
  z = sends_one k w x

  abbrev it : SentFrame
  it = record { socket = k; frame = w }

  sends_near : IsLedger mint z
  sends_near = record {
    named = h.near.named;
    known = h.near.known;
    once = h.near.once;
    there = h.near.there;
    frames = all_last (λ (v : SentFrame). IsTrueFrame mint z v.socket v.frame) x.sent it (frames_grow mint x z (same_grows k w x) h.near.frames) (true_on mint x z (same_grows k w x) k w may.true_frame);
    offered = offered_more k w x.sent h.near.offered may.fresh;
  }

  sends_asked : (j : SocketId) (seen n : ℕ) → Has (λ (v : SentFrame). (v.socket ≡ j) × (v.frame ≡ out.reconnect_ok seen)) y.sent → HasStay j n y → HasAskedFor j n z.sent
  sends_asked j seen n has stay = at (is_ask w) refl
    where
      old : HasAskedFor j n x.sent
      old = h.near_beside.asked j seen n has stay

      same : asks_on j z.sent ≡ asks_on j x.sent → HasAskedFor j n z.sent
      same e = subst (λ l. IsAskFor n (last_ask no_ask l)) (sym e) old

      by_socket : (b : Bool) → same_socket j k ≡ b → is_ask w ≡ true → HasAskedFor j n z.sent
      by_socket true e q = absurd (may.asks q (subst (λ i. HasAccepted i y.sent) (same_equal j k e) (ok_accepts j seen y.sent has)))
      by_socket false e q = same (asks_elsewhere j x.sent it e)

      at : (b : Bool) → is_ask w ≡ b → HasAskedFor j n z.sent
      at true q = by_socket (same_socket j k) refl q
      at false q = same (asks_same j x.sent it (no_ask_of w q))

  sends_answers : (j : SocketId) (seen n : ℕ) → Has (λ (v : SentFrame). (v.socket ≡ j) × (v.frame ≡ out.reconnect_ok seen)) z.sent → HasStay j n z → HasAskedFor j n y.sent
  sends_answers j seen n has stay = at (has_either (λ (v : SentFrame). (v.socket ≡ j) × (v.frame ≡ out.reconnect_ok seen)) x.sent (it ∷ []) has)
    where
      at : Has (λ (v : SentFrame). (v.socket ≡ j) × (v.frame ≡ out.reconnect_ok seen)) x.sent ⊎ Has (λ (v : SentFrame). (v.socket ≡ j) × (v.frame ≡ out.reconnect_ok seen)) (it ∷ []) → HasAskedFor j n y.sent
      at (inl old) = h.far_beside.asked j seen n old stay
      at (inr (inl p)) = subst (λ i. HasAskedFor i n y.sent) p.0 (may.resumes seen n p.1 (subst (λ i. HasStay i n x) (sym p.0) stay))
      at (inr (inr q)) = absurd q

  sends_from : (n : ℕ) → ComesFrom theirs y x n → ComesFrom theirs y z n
  sends_from n (inl e) = inl e
  sends_from n (inr (inl d)) = inr (inl d)
  sends_from n (inr (inr has)) =
      inr (inr (subst (Has (λ (s : Stay). (s.name ≡ n) × HasStay s.socket n y)) (sym (offers_more x.sent it)) (has_front (λ (s : Stay). (s.name ≡ n) × HasStay s.socket n y) (offers x.sent) (offers (it ∷ [])) has)))

  pub sends_keeps : AreLedgers mint theirs z y
  sends_keeps = record {
    near = sends_near;
    far = h.far;
    near_beside = record { opener = h.near_beside.opener; names = h.near_beside.names; prefix = h.near_beside.prefix; asked = sends_asked };
    far_beside = record {
      opener = all_so_of (λ (s : Stay). is_among s.socket y.opened ≡ true → HasAccepted s.socket x.sent) (λ (s : Stay). is_among s.socket y.opened ≡ true → HasAccepted s.socket z.sent) y.stays
          (λ s p o. has_front (λ (v : SentFrame). (v.socket ≡ s.socket) × IsAcceptance v.frame) x.sent (it ∷ []) (p o)) h.far_beside.opener;
      names = all_so_of (ComesFrom theirs y x) (ComesFrom theirs y z) (names y) sends_from h.far_beside.names;
      prefix = h.far_beside.prefix;
      asked = sends_answers;
    };
    agree = h.agree;
  }

-- ---- a life that begins

abbrev pub begins_one : NumberedLife → Ledger → Ledger
begins_one l x = record x { ended = lives x; now = l }

pub record MayBegin (mint : ℕ → ℕ) (l : NumberedLife) (x y : Ledger) : Type 0 where
  pub fresh : IsNewName l.name (names x)
  pub from : ComesFrom mint x y l.name

abbrev life_name : NumberedLife → ℕ
life_name l = l.name

module _ (mint theirs : ℕ → ℕ) (l : NumberedLife) (x y : Ledger) (may : MayBegin mint l x y) (h : AreLedgers mint theirs x y) where
  abbrev begun : Ledger
  begun = begins_one l x

  more_names : names begun ≡ names x ++ l.name ∷ []
  more_names = map-append life_name (lives x) (l ∷ [])

  pub begin_grows : Grows x begun
  begin_grows = record {
    stays = λ j n p. p;
    counts = λ n. le_refl (count n x);
    numbered = λ n place m p. has_front (λ (k : NumberedLife). (k.name ≡ n) × (slice_get k.numbered place ≡ Some m)) (lives x) (l ∷ []) p;
    taken = λ j e. e;
    opened = λ j e. e;
    top = le_refl x.top;
  }

  begins_known : (n : ℕ) → (n ≡ 0) ⊎ AllByRecursion (λ m. m ≢ n) (names begun) → of_life n x.accepted ≡ []
  begins_known n (inl z) = h.near.known n (inl z)
  begins_known n (inr all) = h.near.known n (inr (all_front (λ m. m ≢ n) (names x) (l.name ∷ []) (subst (AllByRecursion (λ m. m ≢ n)) more_names all)))

  begins_prefix : (n : ℕ) → (contents n y ≡ []) ⊎ Has (λ (k : NumberedLife). (k.name ≡ n) × AreFirstOf (contents n y) k.numbered) (lives begun)
  begins_prefix n = at (h.far_beside.prefix n)
    where
      at : (contents n y ≡ []) ⊎ Has (λ (k : NumberedLife). (k.name ≡ n) × AreFirstOf (contents n y) k.numbered) (lives x) →
          (contents n y ≡ []) ⊎ Has (λ (k : NumberedLife). (k.name ≡ n) × AreFirstOf (contents n y) k.numbered) (lives begun)
      at (inl e) = inl e
      at (inr p) = inr (has_front (λ (k : NumberedLife). (k.name ≡ n) × AreFirstOf (contents n y) k.numbered) (lives x) (l ∷ []) p)

  pub begins_keeps : AreLedgers mint theirs begun y
  begins_keeps = record {
    near = record {
      named = subst AreNames (sym more_names) (names_more (names x) l.name h.near.named may.fresh);
      known = begins_known;
      once = h.near.once;
      there = h.near.there;
      frames = frames_grow mint x begun begin_grows h.near.frames;
      offered = h.near.offered;
    };
    far = h.far;
    near_beside = record {
      opener = h.near_beside.opener;
      names = subst (AllByRecursion (ComesFrom mint x y)) (sym more_names) (all_last (ComesFrom mint x y) (names x) l.name h.near_beside.names may.from);
      prefix = h.near_beside.prefix;
      asked = h.near_beside.asked;
    };
    far_beside = record { opener = h.far_beside.opener; names = h.far_beside.names; prefix = begins_prefix; asked = h.far_beside.asked };
    agree = h.agree;
  }

-- ---- a side that is in Ready on a socket

abbrev pub stays_one : SocketId → ℕ → Ledger → Ledger
stays_one k n x = record x { stays = x.stays ++ record { socket = k; name = n } ∷ [] }

pub record MayStay (k : SocketId) (name : ℕ) (x y : Ledger) : Type 0 where
  pub fresh : AllByRecursion (λ (s : Stay). s.socket ≢ k) x.stays
  pub there : IsThere x k
  pub agree : (m : ℕ) → HasStay k m y → name ≡ m
  pub opener : is_among k x.opened ≡ true → HasAccepted k y.sent

module _ (mint theirs : ℕ → ℕ) (k : SocketId) (name : ℕ) (x y : Ledger) (may : MayStay k name x y) (h : AreLedgers mint theirs x y) where
  abbrev stayed : Ledger
  stayed = stays_one k name x

  abbrev new_stay : Stay
  new_stay = record { socket = k; name = name }

  pub stay_grows : Grows x stayed
  stay_grows = record {
    stays = λ j n p. has_front (λ (s : Stay). (s.socket ≡ j) × (s.name ≡ n)) x.stays (new_stay ∷ []) p;
    counts = λ n. le_refl (count n x);
    numbered = λ n place m p. p;
    taken = λ j e. e;
    opened = λ j e. e;
    top = le_refl x.top;
  }

  -- it is an old one, or the new one
  which : (j : SocketId) (n : ℕ) → HasStay j n stayed → HasStay j n x ⊎ ((k ≡ j) × (name ≡ n))
  which j n has = at (has_either (λ (s : Stay). (s.socket ≡ j) × (s.name ≡ n)) x.stays (new_stay ∷ []) has)
    where
      at : HasStay j n x ⊎ Has (λ (s : Stay). (s.socket ≡ j) × (s.name ≡ n)) (new_stay ∷ []) → HasStay j n x ⊎ ((k ≡ j) × (name ≡ n))
      at (inl old) = inl old
      at (inr (inl p)) = inr p
      at (inr (inr q)) = absurd q

  stays_answers : (j : SocketId) (seen n : ℕ) → Has (λ (v : SentFrame). (v.socket ≡ j) × (v.frame ≡ out.reconnect_ok seen)) x.sent → HasStay j n stayed → HasAskedFor j n y.sent
  stays_answers j seen n has stay = at (which j n stay)
    where
      at : HasStay j n x ⊎ ((k ≡ j) × (name ≡ n)) → HasAskedFor j n y.sent
      at (inl old) = h.far_beside.asked j seen n has old
      at (inr p) =
          let sent : IsTrueFrame mint x j (out.reconnect_ok seen) = all_sent (IsTrueFrame mint x) x.sent j (out.reconnect_ok seen) h.near.frames has in
          absurd (no_stay k x.stays may.fresh sent.0 (subst (λ i. HasStay i sent.0 x) (sym p.0) sent.1.stay))

  stays_agree : (j : SocketId) (n m : ℕ) → HasStay j n stayed → HasStay j m y → n ≡ m
  stays_agree j n m mine his = at (which j n mine)
    where
      at : HasStay j n x ⊎ ((k ≡ j) × (name ≡ n)) → n ≡ m
      at (inl old) = h.agree j n m old his
      at (inr p) = sym p.1 ∙ may.agree m (subst (λ i. HasStay i m y) (sym p.0) his)

  pub stays_keeps : AreLedgers mint theirs stayed y
  stays_keeps = record {
    near = record {
      named = h.near.named;
      known = h.near.known;
      once = stays_more x.stays new_stay h.near.once may.fresh;
      there = all_last (λ (s : Stay). IsThere x s.socket) x.stays new_stay h.near.there may.there;
      frames = frames_grow mint x stayed stay_grows h.near.frames;
      offered = h.near.offered;
    };
    far = h.far;
    near_beside = record {
      opener = all_last (λ (s : Stay). is_among s.socket x.opened ≡ true → HasAccepted s.socket y.sent) x.stays new_stay h.near_beside.opener may.opener;
      names = all_so_of (ComesFrom mint x y) (ComesFrom mint stayed y) (names x) (λ n f. from_grows mint x stayed y stay_grows n f) h.near_beside.names;
      prefix = h.near_beside.prefix;
      asked = h.near_beside.asked;
    };
    far_beside = record { opener = h.far_beside.opener; names = h.far_beside.names; prefix = h.far_beside.prefix; asked = stays_answers };
    agree = stays_agree;
  }

-- ---- messages get numbers

abbrev pub numbers_more : List Content → Ledger → Ledger
numbers_more more x = record x { now = record x.now { numbered = x.now.numbered ++ more } }

pub get_more : {X : Type 0} (xs ys : List X) (i : ℕ) (m : X) → slice_get xs i ≡ Some m → slice_get (xs ++ ys) i ≡ Some m
get_more [] ys i m e = absurd (none-some m e)
get_more (x ∷ xs) ys zero m e = e
get_more (x ∷ xs) ys (suc i) m e = get_more xs ys i m e

module _ (mint theirs : ℕ → ℕ) (more : List Content) (x y : Ledger) (h : AreLedgers mint theirs x y) where
  abbrev numbered_more : Ledger
  numbered_more = numbers_more more x

  same_names : names x ≡ names numbered_more
  same_names = names_last life_name x.ended x.now numbered_more.now refl

  pub numbers_grow : Grows x numbered_more
  numbers_grow = record {
    stays = λ j n p. p;
    counts = λ n. le_refl (count n x);
    numbered = λ n place m p. has_last (λ (l : NumberedLife). (l.name ≡ n) × (slice_get l.numbered place ≡ Some m)) x.ended x.now numbered_more.now (λ q. (q.0, get_more x.now.numbered more place m q.1)) p;
    taken = λ j e. e;
    opened = λ j e. e;
    top = le_refl x.top;
  }

  numbers_prefix : (n : ℕ) → (contents n y ≡ []) ⊎ Has (λ (l : NumberedLife). (l.name ≡ n) × AreFirstOf (contents n y) l.numbered) (lives numbered_more)
  numbers_prefix n = at (h.far_beside.prefix n)
    where
      at : (contents n y ≡ []) ⊎ Has (λ (l : NumberedLife). (l.name ≡ n) × AreFirstOf (contents n y) l.numbered) (lives x) →
          (contents n y ≡ []) ⊎ Has (λ (l : NumberedLife). (l.name ≡ n) × AreFirstOf (contents n y) l.numbered) (lives numbered_more)
      at (inl e) = inl e
      at (inr p) =
          inr (has_last (λ (l : NumberedLife). (l.name ≡ n) × AreFirstOf (contents n y) l.numbered) x.ended x.now numbered_more.now
          (λ q. (q.0, (q.1.0 ++ more, ap (λ l. l ++ more) q.1.1 ∙ append_assoc (contents n y) q.1.0 more))) p)

  pub numbers_keeps : AreLedgers mint theirs numbered_more y
  numbers_keeps = record {
    near = record {
      named = subst AreNames same_names h.near.named;
      known = λ n new. h.near.known n (subst (λ ns. (n ≡ 0) ⊎ AllByRecursion (λ m. m ≢ n) ns) (sym same_names) new);
      once = h.near.once;
      there = h.near.there;
      frames = frames_grow mint x numbered_more numbers_grow h.near.frames;
      offered = h.near.offered;
    };
    far = h.far;
    near_beside = record {
      opener = h.near_beside.opener;
      names = subst (AllByRecursion (ComesFrom mint x y)) same_names h.near_beside.names;
      prefix = h.near_beside.prefix;
      asked = h.near_beside.asked;
    };
    far_beside = record { opener = h.far_beside.opener; names = h.far_beside.names; prefix = numbers_prefix; asked = h.far_beside.asked };
    agree = h.agree;
  }

-- ---- a message is accepted

abbrev pub accepts_one : LifeMessage → Ledger → Ledger
accepts_one m x = record x { accepted = x.accepted ++ m ∷ [] }

pub record MayAccept (m : LifeMessage) (x y : Ledger) : Type 0 where
  pub kept : m.life ≢ 0
  pub there : Has (λ n. n ≡ m.life) (names x)
  -- it is the one that the other has numbered behind those that were accepted
  pub next : HasNumbered m.life (count m.life x) m.message.message y

pub of_life_more : (n : ℕ) (xs : List LifeMessage) (m : LifeMessage) → of_life n (xs ++ m ∷ []) ≡ of_life n xs ++ of_life n (m ∷ [])
of_life_more n xs m =
    ap (map (λ (v : LifeMessage). v.message)) (filter-append (λ (v : LifeMessage). v.life == n) xs (m ∷ [])) ∙ map-append (λ (v : LifeMessage). v.message) (filter (λ (v : LifeMessage). v.life == n) xs) (filter (λ (v : LifeMessage). v.life == n) (m ∷ []))

pub of_its_life : (m : LifeMessage) → of_life m.life (m ∷ []) ≡ m.message ∷ []
of_its_life m = ap (λ b. map (λ (v : LifeMessage). v.message) (if b then m ∷ [] else [])) (eq-eqb m.life m.life refl)

of_another_life : (n : ℕ) (m : LifeMessage) → m.life ≢ n → of_life n (m ∷ []) ≡ []
of_another_life n m apart = at (m.life == n) refl
  where
    at : (b : Bool) → (m.life == n) ≡ b → of_life n (m ∷ []) ≡ []
    at true e = absurd (apart (eqb-true m.life n e))
    at false e = ap (λ b. map (λ (v : LifeMessage). v.message) (if b then m ∷ [] else [])) e

-- both hold of one
has_both : {X : Type 0} (P Q : X → Type 0) (xs : List X) → Has P xs → AllByRecursion (λ x. P x → Q x) xs → Has (λ x. P x × Q x) xs
has_both P Q [] h all = h
has_both P Q (x ∷ xs) (inl p) all = inl (p, all.0 p)
has_both P Q (x ∷ xs) (inr h) all = inr (has_both P Q xs h all.1)

all_weaker : {X : Type 0} (name : X → ℕ) (n : ℕ) (P Q : X → Type 0) (xs : List X) → AllByRecursion (λ x. name x ≡ n → Q x) xs → AllByRecursion (λ x. (name x ≡ n) × P x → Q x) xs
all_weaker name n P Q [] all = tt
all_weaker name n P Q (x ∷ xs) all = (λ p. all.0 p.0, all_weaker name n P Q xs all.1)

no_name : (ns : List ℕ) (n : ℕ) → AllByRecursion (λ m. m ≢ n) ns → Has (λ k. k ≡ n) ns → ⊥
no_name [] n all h = h
no_name (m ∷ ns) n all (inl e) = all.0 e
no_name (m ∷ ns) n all (inr h) = no_name ns n all.1 h

module _ (mint theirs : ℕ → ℕ) (m : LifeMessage) (x y : Ledger) (may : MayAccept m x y) (h : AreLedgers mint theirs x y) where
  abbrev accepted_more : Ledger
  accepted_more = accepts_one m x

  counts_more : (n : ℕ) → count n x ≤ count n accepted_more
  counts_more n = let e = ap length (of_life_more n x.accepted m) in let l = length-append (of_life n x.accepted) (of_life n (m ∷ [])) in omega (arith, e, l)

  pub accept_grows : Grows x accepted_more
  accept_grows = record { stays = λ j n p. p; counts = counts_more; numbered = λ n place c p. p; taken = λ j e. e; opened = λ j e. e; top = le_refl x.top }

  accepts_known : (n : ℕ) → (n ≡ 0) ⊎ AllByRecursion (λ k. k ≢ n) (names x) → of_life n accepted_more.accepted ≡ []
  accepts_known n new =
      of_life_more n x.accepted m ∙ ap (λ l. of_life n x.accepted ++ l) (of_another_life n m (apart new)) ∙ append-nil (of_life n x.accepted) ∙ h.near.known n new
    where
      apart : (n ≡ 0) ⊎ AllByRecursion (λ k. k ≢ n) (names x) → m.life ≢ n
      apart (inl z) = λ e. may.kept (e ∙ z)
      apart (inr all) = λ e. no_name (names x) n all (subst (λ i. Has (λ k. k ≡ i) (names x)) e may.there)

  -- the life of the other that has the message has numbered it behind what was accepted
  abbrev IsBehind : NumberedLife → Type 0
  IsBehind l = (l.name ≡ m.life) × AreFirstOf (contents m.life accepted_more) l.numbered

  now_contents : contents m.life accepted_more ≡ contents m.life x ++ m.message.message ∷ []
  now_contents =
      ap (map (λ (v : KeyedMessage). v.message)) (of_life_more m.life x.accepted m ∙ ap (λ l. of_life m.life x.accepted ++ l) (of_its_life m))
      ∙ map-append (λ (v : KeyedMessage). v.message) (of_life m.life x.accepted) (m.message ∷ [])

  one_behind : (l : NumberedLife) → AreFirstOf (contents m.life x) l.numbered → slice_get l.numbered (count m.life x) ≡ Some m.message.message → AreFirstOf (contents m.life accepted_more) l.numbered
  one_behind l (more, e) is =
      subst (λ c. AreFirstOf c l.numbered) (sym now_contents)
      (subst (AreFirstOf (contents m.life x ++ m.message.message ∷ [])) (sym e)
      (first-more (contents m.life x) more m.message.message
      (ap (λ n. slice_get (contents m.life x ++ more) n) (length-map (of_life m.life x.accepted) (λ (v : KeyedMessage). v.message)) ∙ ap (λ c. slice_get c (count m.life x)) (sym e) ∙ is)))

  behind : Has IsBehind (lives y)
  behind = at (h.near_beside.prefix m.life)
    where
      at : (contents m.life x ≡ []) ⊎ Has (λ (l : NumberedLife). (l.name ≡ m.life) × AreFirstOf (contents m.life x) l.numbered) (lives y) → Has IsBehind (lives y)
      at (inl e) =
          has_so (λ (l : NumberedLife). (l.name ≡ m.life) × (slice_get l.numbered (count m.life x) ≡ Some m.message.message)) IsBehind
          (λ l p. (p.0, one_behind l (l.numbered, ap (λ c. c ++ l.numbered) (sym e)) p.1)) (lives y) may.next
      at (inr p) =
          has_so (λ (l : NumberedLife). ((l.name ≡ m.life) × AreFirstOf (contents m.life x) l.numbered) × (slice_get l.numbered (count m.life x) ≡ Some m.message.message)) IsBehind
          (λ l q. (q.0.0, one_behind l q.0.1 q.1)) (lives y)
          (has_both (λ (l : NumberedLife). (l.name ≡ m.life) × AreFirstOf (contents m.life x) l.numbered) (λ (l : NumberedLife). slice_get l.numbered (count m.life x) ≡ Some m.message.message) (lives y) p
          (all_weaker life_name m.life (λ (l : NumberedLife). AreFirstOf (contents m.life x) l.numbered) (λ (l : NumberedLife). slice_get l.numbered (count m.life x) ≡ Some m.message.message) (lives y)
          (all_named life_name (λ (l : NumberedLife). slice_get l.numbered (count m.life x) ≡ Some m.message.message) m.life (lives y) may.kept h.far.named may.next)))

  accepts_prefix : (n : ℕ) → (contents n accepted_more ≡ []) ⊎ Has (λ (l : NumberedLife). (l.name ≡ n) × AreFirstOf (contents n accepted_more) l.numbered) (lives y)
  accepts_prefix n = at (m.life == n) refl
    where
      old : m.life ≢ n → (contents n accepted_more ≡ contents n x)
      old apart = ap (map (λ (v : KeyedMessage). v.message)) (of_life_more n x.accepted m ∙ ap (λ l. of_life n x.accepted ++ l) (of_another_life n m apart) ∙ append-nil (of_life n x.accepted))

      at : (b : Bool) → (m.life == n) ≡ b → (contents n accepted_more ≡ []) ⊎ Has (λ (l : NumberedLife). (l.name ≡ n) × AreFirstOf (contents n accepted_more) l.numbered) (lives y)
      at true e = inr (subst (λ i. Has (λ (l : NumberedLife). (l.name ≡ i) × AreFirstOf (contents i accepted_more) l.numbered) (lives y)) (eqb-true m.life n e) behind)
      at false e =
          subst (λ c. (c ≡ []) ⊎ Has (λ (l : NumberedLife). (l.name ≡ n) × AreFirstOf c l.numbered) (lives y))
          (sym (old (λ g. from_false_true (sym e ∙ eq-eqb m.life n g)))) (h.near_beside.prefix n)

  pub accepts_keeps : AreLedgers mint theirs accepted_more y
  accepts_keeps = record {
    near = record {
      named = h.near.named;
      known = accepts_known;
      once = h.near.once;
      there = h.near.there;
      frames = frames_grow mint x accepted_more accept_grows h.near.frames;
      offered = h.near.offered;
    };
    far = h.far;
    near_beside = record { opener = h.near_beside.opener; names = h.near_beside.names; prefix = accepts_prefix; asked = h.near_beside.asked };
    far_beside = record { opener = h.far_beside.opener; names = h.far_beside.names; prefix = h.far_beside.prefix; asked = h.far_beside.asked };
    agree = h.agree;
  }

-- ---- a socket is opened

abbrev pub opens_one : SocketId → Ledger → Ledger
opens_one k x = record x { opened = x.opened ++ k ∷ [] }

module _ (mint theirs : ℕ → ℕ) (k : SocketId) (x y : Ledger) (unopened : is_among k x.opened ≡ false) (untaken : is_among k x.taken ≡ false) (h : AreLedgers mint theirs x y) where
  abbrev opened_more : Ledger
  opened_more = opens_one k x

  pub open_grows : Grows x opened_more
  open_grows = record { stays = λ j n p. p; counts = λ n. le_refl (count n x); numbered = λ n place m p. p; taken = λ j e. e; opened = λ j e. among_front j x.opened (k ∷ []) e; top = le_refl x.top }

  not_there : (s : Stay) → IsThere x s.socket → s.socket ≡ k → ⊥
  not_there s (inl o) e = false_isnt_true (sym unopened ∙ subst (λ j. is_among j x.opened ≡ true) e o)
  not_there s (inr t) e = false_isnt_true (sym untaken ∙ subst (λ j. is_among j x.taken ≡ true) e t)

  opens_opener : (ss : List Stay) → AllByRecursion (λ (s : Stay). IsThere x s.socket) ss → AllByRecursion (λ (s : Stay). is_among s.socket x.opened ≡ true → HasAccepted s.socket y.sent) ss →
      AllByRecursion (λ (s : Stay). is_among s.socket opened_more.opened ≡ true → HasAccepted s.socket y.sent) ss
  opens_opener [] there all = tt
  opens_opener (s ∷ ss) there all = (λ o. all.0 (old (same_socket s.socket k) refl o), opens_opener ss there.1 all.1)
    where
      old : (b : Bool) → same_socket s.socket k ≡ b → is_among s.socket (x.opened ++ k ∷ []) ≡ true → is_among s.socket x.opened ≡ true
      old true e o = absurd (not_there s there.0 (same_equal s.socket k e))
      old false e o = sym (among_other s.socket k x.opened e) ∙ o

  pub opens_keeps : AreLedgers mint theirs opened_more y
  opens_keeps = record {
    near = record {
      named = h.near.named;
      known = h.near.known;
      once = h.near.once;
      there = there_grow x opened_more open_grows x.stays h.near.there;
      frames = frames_grow mint x opened_more open_grows h.near.frames;
      offered = h.near.offered;
    };
    far = h.far;
    near_beside = record { opener = opens_opener x.stays h.near.there h.near_beside.opener; names = h.near_beside.names; prefix = h.near_beside.prefix; asked = h.near_beside.asked };
    far_beside = record { opener = h.far_beside.opener; names = h.far_beside.names; prefix = h.far_beside.prefix; asked = h.far_beside.asked };
    agree = h.agree;
  }

-- ---- a number is drawn, and a socket taken

abbrev pub draws_one : (top : ℕ) → (taken : List SocketId) → Ledger → Ledger
draws_one top taken x = record x { top = top; taken = taken }

module _ (mint theirs : ℕ → ℕ) (top : ℕ) (taken : List SocketId) (x y : Ledger) (above : x.top ≤ top) (more : (k : SocketId) → is_among k x.taken ≡ true → is_among k taken ≡ true)
    (h : AreLedgers mint theirs x y) where
  abbrev drawn : Ledger
  drawn = draws_one top taken x

  pub draw_grows : Grows x drawn
  draw_grows = record { stays = λ j n p. p; counts = λ n. le_refl (count n x); numbered = λ n place m p. p; taken = more; opened = λ j e. e; top = above }

  pub draws_keeps : AreLedgers mint theirs drawn y
  draws_keeps = record {
    near = record {
      named = h.near.named;
      known = h.near.known;
      once = h.near.once;
      there = there_grow x drawn draw_grows x.stays h.near.there;
      frames = frames_grow mint x drawn draw_grows h.near.frames;
      offered = h.near.offered;
    };
    far = h.far;
    near_beside = record {
      opener = h.near_beside.opener;
      names = all_so_of (ComesFrom mint x y) (ComesFrom mint drawn y) (names x) (λ n f. from_grows mint x drawn y draw_grows n f) h.near_beside.names;
      prefix = h.near_beside.prefix;
      asked = h.near_beside.asked;
    };
    far_beside = record { opener = h.far_beside.opener; names = h.far_beside.names; prefix = h.far_beside.prefix; asked = h.far_beside.asked };
    agree = h.agree;
  }
