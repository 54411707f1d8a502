-- Where a side stands by its ledger, and that each of its moves leads to where it stands by a ledger that has grown.
use Rattle.std.proofs.Common.{◌≡◌, ◌≢◌, ℕ, zero, suc, ◌+◌, ◌≤◌, ◌⊎◌, inl, inr, Bool, true, false, not, if◌then◌else◌, List, [], ◌∷◌, ◌++◌, map, take, drop, None, refl, sym, ap, subst, ◌∙◌, arith, le_refl}
use Rattle.std.specs.Prelude.{IfSome}
use Rattle.std.specs.List.{AllByRecursion, filter}
use Rattle.std.proofs.lemmas.List.Elements.{filter_map-append}
use Rattle.m2_journal.specs.Growth.{IsExtended}
use Rattle.m2_journal.specs.OutFrames as out
use Rattle.m2_journal.specs.OutFrames.{OutFrame}
use Rattle.m2_journal.specs.State.{SentFrame}
use Rattle.m2_journal.specs.m2_fabric.declared.socket.SocketId.{SocketId}
use Rattle.m2_journal.specs.m2_fabric.Sockets.{same_socket}
use Rattle.m2_journal.specs.m2_session.declared.session.Phase.TheVariants as phase
use Rattle.m2_journal.proofs.m2_fabric.Sockets.{same_equal, same_refl}
use Rattle.m2_never_reset.specs.Frames.{answers_on, is_ask}
use Rattle.m2_never_reset.specs.Roles.{IsNumber}
use Rattle.m2_lives.specs.Lives.{Has}
use Rattle.m2_lives.proofs.Among.{has_back}
use Rattle.m2_lives.proofs.Ledger.{Stay, Ledger, lives, count, HasStay, IsTrueFrame, offer_of, offers, IsAcceptance, HasAccepted, HasAskedFor, AreApart, IsThere, AreLedgers}
use Rattle.m2_lives.proofs.Moves.{Spot, View, IfSpot, IsNextAnswer, NothingComes, WasSent}
use Rattle.m2_lives.proofs.Noting.{Grows}

-- ---- where a side stands

abbrev pub IsNoAcceptance : OutFrame → Type 0
IsNoAcceptance w = IsAcceptance w → ⊥

pub record FeedStands (v : View) (x y : Ledger) (p : Spot) : Type 0 where
  -- in Ready by the life in which it is
  pub ready : v.phase ≡ phase.Ready → HasStay p.socket v.life x × (v.life ≢ 0)
  pub not_yet : (v.phase ≡ phase.Ready → ⊥) → AllByRecursion (λ (s : Stay). s.socket ≢ p.socket) x.stays
  -- before that no acceptance was taken there
  pub waits : (v.phase ≡ phase.Ready → ⊥) → AllByRecursion IsNoAcceptance (take p.taken (answers_on p.socket y.sent))
  pub asked : v.phase ≡ phase.ReconnectSent → HasAskedFor p.socket v.life x.sent × (v.life ≢ 0)
  pub resumed : IfSome p.resumed (λ e. e ≤ count v.life y)
  pub unresumed : (v.phase ≡ phase.Ready → ⊥) → p.resumed ≡ None
  pub there : IsThere x p.socket

pub record Stands (v : View) (x y : Ledger) : Type 0 where
  pub now : x.now ≡ record { name = v.life; numbered = v.numbered }
  pub accepted : x.accepted ≡ v.accepted
  pub sent : x.sent ≡ v.sent
  pub opened : x.opened ≡ v.opened
  pub taken : x.taken ≡ v.taken
  pub top : x.top ≡ v.top
  pub cookie : v.server ≡ v.life
  -- it counts what it has accepted in this life, and what the other has accepted in its life of this name
  pub last : v.last ≡ count v.life x
  pub base : v.base ≤ count v.life y
  pub feed : IfSpot v.feed (FeedStands v x y)

-- cookies that two sides draw
pub record Draws (mine theirs : ℕ → ℕ) : Type 0 where
  pub kept : (n : ℕ) → mine n ≢ 0
  pub theirs_kept : (n : ℕ) → theirs n ≢ 0
  pub once : (m n : ℕ) → IsNumber m → IsNumber n → mine m ≡ mine n → m ≡ n
  pub apart : (m n : ℕ) → IsNumber m → IsNumber n → mine m ≢ theirs n

-- where a move leads, behind which a life may have begun
pub record Next (mint theirs : ℕ → ℕ) (began : Bool) (v : View) (x y : Ledger) : Type 0 where
  pub ledger : Ledger
  pub ledgers : AreLedgers mint theirs ledger y
  pub stands : Stands v ledger y
  pub grows : Grows x ledger
  pub sent : IsExtended x.sent ledger.sent
  pub ended : ledger.ended ≡ (if began then lives x else x.ended)

-- ---- growing

pub grows_trans : (x y z : Ledger) → Grows x y → Grows y z → Grows x z
grows_trans x y z a b = record {
  stays = λ k n p. b.stays k n (a.stays k n p);
  counts = λ n. let c = a.counts n in let d = b.counts n in omega (arith, c, d);
  numbered = λ n place m p. b.numbered n place m (a.numbered n place m p);
  taken = λ k e. b.taken k (a.taken k e);
  opened = λ k e. b.opened k (a.opened k e);
  top = let c = a.top in let d = b.top in omega (arith, c, d);
}

pub grows_none : (x : Ledger) → Grows x x
grows_none x = record { stays = λ k n p. p; counts = λ n. le_refl (count n x); numbered = λ n place m p. p; taken = λ k e. e; opened = λ k e. e; top = le_refl x.top }

-- ---- answers on a socket

answers_first : (k : SocketId) (x : SentFrame) (xs : List SentFrame) (P : OutFrame → Type 0) → Has P (answers_on k (x ∷ xs)) → ((x.socket ≡ k) × P x.frame) ⊎ Has P (answers_on k xs)
answers_first k x xs P h = at (same_socket k x.socket) (not (is_ask x.frame)) refl h
  where
    at : (a b : Bool) → same_socket k x.socket ≡ a → Has P (filter (λ w. not (is_ask w)) (map (λ (y : SentFrame). y.frame) (if a then x ∷ filter (λ (y : SentFrame). same_socket k y.socket) xs else filter (λ (y : SentFrame). same_socket k y.socket) xs))) →
        ((x.socket ≡ k) × P x.frame) ⊎ Has P (answers_on k xs)
    at false b e g = inr g
    at true b e g = by (not (is_ask x.frame)) g
      where
        by : (c : Bool) → Has P (if c then x.frame ∷ answers_on k xs else answers_on k xs) → ((x.socket ≡ k) × P x.frame) ⊎ Has P (answers_on k xs)
        by true (inl p) = inl (sym (same_equal k x.socket e), p)
        by true (inr q) = inr q
        by false q = inr q

-- an answer was sent
pub answer_sent : (k : SocketId) (xs : List SentFrame) (P : OutFrame → Type 0) → Has P (answers_on k xs) → Has (λ (x : SentFrame). (x.socket ≡ k) × P x.frame) xs
answer_sent k [] P h = h
answer_sent k (x ∷ xs) P h = at (answers_first k x xs P h) (λ g. answer_sent k xs P g)
  where
    at : ((x.socket ≡ k) × P x.frame) ⊎ Has P (answers_on k xs) → (Has P (answers_on k xs) → Has (λ (y : SentFrame). (y.socket ≡ k) × P y.frame) xs) → Has (λ (y : SentFrame). (y.socket ≡ k) × P y.frame) (x ∷ xs)
    at (inl p) rest = inl p
    at (inr q) rest = inr (rest q)

-- an acceptance that was sent is an answer
pub accepted_answers : (k : SocketId) (xs : List SentFrame) → HasAccepted k xs → Has IsAcceptance (answers_on k xs)
accepted_answers k [] h = h
accepted_answers k (x ∷ xs) (inl p) = here x.frame p.1 refl
  where
    placed : (w : OutFrame) → x.frame ≡ w → is_ask w ≡ false → IsAcceptance w → Has IsAcceptance (answers_on k (x ∷ xs))
    placed w e plain a = rw (ap (same_socket k) p.0 ∙ same_refl k, e, plain) (inl a)

    here : (w : OutFrame) → IsAcceptance w → x.frame ≡ w → Has IsAcceptance (answers_on k (x ∷ xs))
    here (out.server_ident c g) a e = placed (out.server_ident c g) e refl a
    here (out.reconnect_ok seen) a e = placed (out.reconnect_ok seen) e refl a
    here w a e = elim a [ ]
accepted_answers k (x ∷ xs) (inr h) = later (same_socket k x.socket) (not (is_ask x.frame)) (accepted_answers k xs h)
  where
    later : (a b : Bool) → Has IsAcceptance (answers_on k xs) →
        Has IsAcceptance (filter (λ w. not (is_ask w)) (map (λ (y : SentFrame). y.frame) (if a then x ∷ filter (λ (y : SentFrame). same_socket k y.socket) xs else filter (λ (y : SentFrame). same_socket k y.socket) xs)))
    later true b g = by (not (is_ask x.frame))
      where
        by : (c : Bool) → Has IsAcceptance (if c then x.frame ∷ answers_on k xs else answers_on k xs)
        by true = inr g
        by false = g
    later false b g = g

pub none_of_all : {X : Type 0} (P : X → Type 0) (xs : List X) → AllByRecursion (λ x. P x → ⊥) xs → Has P xs → ⊥
none_of_all P [] all h = h
none_of_all P (x ∷ xs) all (inl p) = all.0 p
none_of_all P (x ∷ xs) all (inr h) = none_of_all P xs all.1 h

drop_has : {X : Type 0} (n : ℕ) (xs more : List X) (x : X) → drop n xs ≡ x ∷ more → Has (λ y. y ≡ x) xs
drop_has zero xs more x e = subst (Has (λ y. y ≡ x)) (sym e) (inl refl)
drop_has (suc n) [] more x e = absurd (nothing e)
  where
    nothing : [] ≡ x ∷ more → ⊥
    nothing e = cc
drop_has (suc n) (y ∷ ys) more x e = inr (drop_has n ys more x e)

pub take_next : {X : Type 0} (n : ℕ) (xs more : List X) (x : X) → drop n xs ≡ x ∷ more → take (n + 1) xs ≡ take n xs ++ x ∷ []
take_next zero xs more x e = ap (take 1) e
take_next (suc n) [] more x e = absurd (nothing e)
  where
    nothing : [] ≡ x ∷ more → ⊥
    nothing e = cc
take_next (suc n) (y ∷ ys) more x e = ap (λ k. take k (y ∷ ys)) (let q : suc n + 1 ≡ suc (n + 1) = omega arith in q) ∙ ap (λ l. y ∷ l) (take_next n ys more x e)

all_taken : {X : Type 0} (P : X → Type 0) (n : ℕ) (xs : List X) → drop n xs ≡ [] → AllByRecursion P (take n xs) → AllByRecursion P xs
all_taken P zero xs e h = subst (AllByRecursion P) (sym e) tt
all_taken P (suc n) [] e h = tt
all_taken P (suc n) (x ∷ xs) e h = (h.0, all_taken P n xs e h.1)

-- the next answer was sent there
pub next_sent : (theirs : List SentFrame) (w : OutFrame) (p : Spot) → IsNextAnswer theirs w p → WasSent theirs w p
next_sent theirs w p n = answer_sent p.socket theirs (λ v. v ≡ w) (drop_has p.taken (answers_on p.socket theirs) n.0 w n.1)

-- where nothing comes and no acceptance was taken, none was sent
pub none_accepted : (theirs : List SentFrame) (p : Spot) → NothingComes theirs p → AllByRecursion IsNoAcceptance (take p.taken (answers_on p.socket theirs)) → HasAccepted p.socket theirs → ⊥
none_accepted theirs p none all h = none_of_all IsAcceptance (answers_on p.socket theirs) (all_taken IsNoAcceptance p.taken (answers_on p.socket theirs) none all) (accepted_answers p.socket theirs h)

-- ---- offers

-- each cookie that was offered was drawn
pub offers_drawn : (mint : ℕ → ℕ) (x : Ledger) (sent : List SentFrame) → AllByRecursion (λ (w : SentFrame). IsTrueFrame mint x w.socket w.frame) sent →
    AllByRecursion (λ (s : Stay). (g : ℕ) × IsNumber g × (g ≤ x.top) × (s.name ≡ mint g)) (offers sent)
offers_drawn mint x [] all = tt
offers_drawn mint x (w ∷ ws) all = at w.frame refl all.0 (offers_drawn mint x ws all.1)
  where
    Drawn : Stay → Type 0
    Drawn s = (g : ℕ) × IsNumber g × (g ≤ x.top) × (s.name ≡ mint g)

    skip : offer_of w ≡ None → AllByRecursion Drawn (offers ws) → AllByRecursion Drawn (offers (w ∷ ws))
    skip e rest = rw e rest

    at : (v : OutFrame) → w.frame ≡ v → IsTrueFrame mint x w.socket w.frame → AllByRecursion Drawn (offers ws) → AllByRecursion Drawn (offers (w ∷ ws))
    at (out.server_ident c g) e t rest =
        let is : IsTrueFrame mint x w.socket (out.server_ident c g) = subst (IsTrueFrame mint x w.socket) e t in
        rw e ((g, is.3, is.4, is.2), rest)
    at out.greeting e t rest = rw e rest
    at (out.ident c g) e t rest = rw e rest
    at (out.reconnect client server global connect seen) e t rest = rw e rest
    at (out.reconnect_ok seen) e t rest = rw e rest
    at (out.reset full) e t rest = rw e rest
    at (out.retry connect) e t rest = rw e rest
    at (out.retry_global global) e t rest = rw e rest
    at out.wait e t rest = rw e rest
    at (out.message number acked m) e t rest = rw e rest
    at (out.acknowledgement number) e t rest = rw e rest
    at (out.keepalive_answer a) e t rest = rw e rest

-- an offer that was sent is among them
pub offer_there : (k : SocketId) (c g : ℕ) (sent : List SentFrame) → Has (λ (w : SentFrame). (w.socket ≡ k) × (w.frame ≡ out.server_ident c g)) sent → Has (λ (s : Stay). (s.name ≡ c) × (s.socket ≡ k)) (offers sent)
offer_there k c g [] h = h
offer_there k c g (w ∷ ws) (inl p) = rw p.1 (inl (refl, p.0))
offer_there k c g (w ∷ ws) (inr h) = subst (Has (λ (s : Stay). (s.name ≡ c) × (s.socket ≡ k))) (sym (filter_map-append offer_of (w ∷ []) ws)) (has_back (λ (s : Stay). (s.name ≡ c) × (s.socket ≡ k)) (offers (w ∷ [])) (offers ws) (offer_there k c g ws h))

-- offers of one name are one
pub same_offer : (P Q : Stay → Type 0) (c : ℕ) (os : List Stay) → AreApart (map (λ (s : Stay). s.name) os) → Has (λ (s : Stay). (s.name ≡ c) × P s) os → Has (λ (s : Stay). (s.name ≡ c) × Q s) os → Has (λ (s : Stay). P s × Q s) os
same_offer P Q c [] apart h g = h
same_offer P Q c (o ∷ os) apart (inl p) (inl q) = inl (p.1, q.1)
same_offer P Q c (o ∷ os) apart (inl p) (inr g) = absurd (others os (subst (λ n. AllByRecursion (λ m. m ≢ n) (map (λ (s : Stay). s.name) os)) p.0 apart.0) g)
  where
    others : (zs : List Stay) → AllByRecursion (λ m. m ≢ c) (map (λ (s : Stay). s.name) zs) → Has (λ (s : Stay). (s.name ≡ c) × Q s) zs → ⊥
    others [] all h = h
    others (z ∷ zs) all (inl r) = all.0 r.0
    others (z ∷ zs) all (inr h) = others zs all.1 h
same_offer P Q c (o ∷ os) apart (inr h) (inl q) = absurd (others os (subst (λ n. AllByRecursion (λ m. m ≢ n) (map (λ (s : Stay). s.name) os)) q.0 apart.0) h)
  where
    others : (zs : List Stay) → AllByRecursion (λ m. m ≢ c) (map (λ (s : Stay). s.name) zs) → Has (λ (s : Stay). (s.name ≡ c) × P s) zs → ⊥
    others [] all h = h
    others (z ∷ zs) all (inl r) = all.0 r.0
    others (z ∷ zs) all (inr h) = others zs all.1 h
same_offer P Q c (o ∷ os) apart (inr h) (inr g) = inr (same_offer P Q c os apart.1 h g)
