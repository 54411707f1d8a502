-- What each side of an untroubled link has of the other's messages, and what is on its way to it: the facts behind
-- the order of messages.
use Rattle.std.proofs.Common.{◌≡◌, ℕ, zero, suc, ◌-◌, ◌≤◌, max, List, [], ◌∷◌, ◌++◌, length, append_assoc, Option, Some, None, ap, ◌∙◌, subst, arith}
use Rattle.std.specs.Prelude.{slice_get}
use Rattle.m2_queues.specs.m2_message.Message.{Content}
use Rattle.m2_never_reset.specs.Asks.{Ask, by_ident, by_reconnect, Asks}
use Rattle.m2_never_reset.specs.Mails.{Mail, letter, ack, acked_by, heard_with}
use Rattle.m2_never_reset.specs.Link.{Stand, offered, resumed, ready, Node, Link}
use Rattle.m2_never_reset.specs.Steps.{HasLeft, with_mail}
use Rattle.m2_never_reset.specs.Order.{AreFirstOf}
use Rattle.m2_never_reset.proofs.Before.{Asked}

-- ---- the facts

-- A letter carries the message that has its number. Nothing acknowledges more than its writer has accepted.
abbrev pub IsTrueMail : (last : ℕ) → List Content → Mail → Type 0
IsTrueMail last numbered (letter number acked m) = (acked ≤ last) × (slice_get numbered (number - 1) ≡ Some m)
IsTrueMail last numbered (ack acked) = acked ≤ last

abbrev pub AreTrue : (last : ℕ) → List Content → List Mail → Type 0
AreTrue last numbered [] = Unit {0}
AreTrue last numbered (m ∷ ms) = IsTrueMail last numbered m × AreTrue last numbered ms

-- what is on its way to a side
abbrev pub AreTrueAt : (last : ℕ) → List Content → Stand → Type 0
AreTrueAt last numbered (offered cookie global ms) = AreTrue last numbered ms
AreTrueAt last numbered (resumed seen ms) = (seen ≤ last) × AreTrue last numbered ms
AreTrueAt last numbered (ready ms) = AreTrue last numbered ms
AreTrueAt last numbered _ = Unit {0}

-- a reconnect names a message that its writer has accepted
abbrev pub IsSeen : (last : ℕ) → Ask → Type 0
IsSeen last (by_ident i) = Unit {0}
IsSeen last (by_reconnect r) = r.seen ≤ last

-- what a side has of its peer's messages, and knows of its own
pub record Tally : Type 0 where
  pub last : ℕ
  pub base : ℕ
  pub heard : ℕ
  pub accepted : List Content
  pub asks : Asks

abbrev pub tally_of : Node → Tally
tally_of x = record { last = x.last; base = x.base; heard = x.heard; accepted = x.accepted; asks = x.asks }

-- a side, by the last number that its peer has accepted and the peer's numbered messages
pub record Reads (x : Tally) (s : Stand) (peer_last : ℕ) (numbered : List Content) : Type 0 where
  pub counted : x.last ≡ length x.accepted
  pub prefix : AreFirstOf x.accepted numbered
  pub base : x.base ≤ peer_last
  pub heard : x.heard ≤ peer_last
  pub mails : AreTrueAt peer_last numbered s
  pub asks : (a : Ask) → Asked x.asks s a → IsSeen x.last a

pub record Read (l : Link) : Type 0 where
  pub near : Reads (tally_of l.near) l.near_stand l.far.last l.far.numbered
  pub far : Reads (tally_of l.far) l.far_stand l.near.last l.near.numbered

-- ---- lists

none_isnt_some : (x : Content) → None ≡ Some x → ⊥
none_isnt_some x e = subst IsNone e tt
  where
    IsNone : Option Content → Type 0
    IsNone None = Unit {0}
    IsNone (Some y) = ⊥

get-append : (xs ys : List Content) (i : ℕ) (m : Content) → slice_get xs i ≡ Some m → slice_get (xs ++ ys) i ≡ Some m
get-append [] ys i m e = absurd (none_isnt_some m e)
get-append (x ∷ xs) ys zero m e = e
get-append (x ∷ xs) ys (suc i) m e = get-append xs ys i m e

-- one more of them, in order
pub first-more : (xs more : List Content) (m : Content) → slice_get (xs ++ more) (length xs) ≡ Some m → AreFirstOf (xs ++ m ∷ []) (xs ++ more)
first-more [] [] m e = absurd (none_isnt_some m e)
first-more [] (k ∷ ks) m e = let same : k ≡ m = grind (arith, e) in (ks, ap (λ h. h ∷ ks) same)
first-more (x ∷ xs) more m e = let rest = first-more xs more m e in (rest.0, ap (λ l. x ∷ l) rest.1)

pub first-append : (xs ys more : List Content) → AreFirstOf xs ys → AreFirstOf xs (ys ++ more)
first-append xs ys more (rest, e) = (rest ++ more, ap (λ l. l ++ more) e ∙ append_assoc xs rest more)

-- ---- mail, where more is accepted and numbered

mail-later : (m n : ℕ) (numbered : List Content) (a : Mail) → m ≤ n → IsTrueMail m numbered a → IsTrueMail n numbered a
mail-later m n numbered (letter number acked c) h t = (omega (arith, h, t.0), t.1)
mail-later m n numbered (ack acked) h t = omega (arith, h, t)

mails-later : (m n : ℕ) (numbered : List Content) (ms : List Mail) → m ≤ n → AreTrue m numbered ms → AreTrue n numbered ms
mails-later m n numbered [] h t = tt
mails-later m n numbered (a ∷ ms) h t = (mail-later m n numbered a h t.0, mails-later m n numbered ms h t.1)

pub stand-later : (m n : ℕ) (numbered : List Content) (s : Stand) → m ≤ n → AreTrueAt m numbered s → AreTrueAt n numbered s
stand-later m n numbered (offered cookie global ms) h t = mails-later m n numbered ms h t
stand-later m n numbered (resumed seen ms) h t = (omega (arith, h, t.0), mails-later m n numbered ms h t.1)
stand-later m n numbered (ready ms) h t = mails-later m n numbered ms h t
stand-later m n numbered s h t = tt

mail-append : (n : ℕ) (xs ys : List Content) (a : Mail) → IsTrueMail n xs a → IsTrueMail n (xs ++ ys) a
mail-append n xs ys (letter number acked c) t = (t.0, get-append xs ys (number - 1) c t.1)
mail-append n xs ys (ack acked) t = t

mails-append : (n : ℕ) (xs ys : List Content) (ms : List Mail) → AreTrue n xs ms → AreTrue n (xs ++ ys) ms
mails-append n xs ys [] t = tt
mails-append n xs ys (a ∷ ms) t = (mail-append n xs ys a t.0, mails-append n xs ys ms t.1)

pub stand-append : (n : ℕ) (xs ys : List Content) (s : Stand) → AreTrueAt n xs s → AreTrueAt n (xs ++ ys) s
stand-append n xs ys (offered cookie global ms) t = mails-append n xs ys ms t
stand-append n xs ys (resumed seen ms) t = (t.0, mails-append n xs ys ms t.1)
stand-append n xs ys (ready ms) t = mails-append n xs ys ms t
stand-append n xs ys s t = tt

-- one mail more
one-more : (n : ℕ) (xs : List Content) (ms : List Mail) (a : Mail) → AreTrue n xs ms → IsTrueMail n xs a → AreTrue n xs (ms ++ a ∷ [])
one-more n xs [] a t h = (h, tt)
one-more n xs (m ∷ ms) a t h = (t.0, one-more n xs ms a t.1 h)

pub with-mail-true : (n : ℕ) (xs : List Content) (s : Stand) (a : Mail) → AreTrueAt n xs s → IsTrueMail n xs a → AreTrueAt n xs (with_mail a s)
with-mail-true n xs (offered cookie global ms) a t h = one-more n xs ms a t h
with-mail-true n xs (resumed seen ms) a t h = (t.0, one-more n xs ms a t.1 h)
with-mail-true n xs (ready ms) a t h = one-more n xs ms a t h
with-mail-true n xs s a t h = t

pub left-true : (n : ℕ) (xs : List Content) (u : Stand) → HasLeft u → AreTrueAt n xs u
left-true n xs (offered cookie global ms) h = elim h [ ]
left-true n xs (resumed seen ms) h = elim h [ ]
left-true n xs (ready ms) h = elim h [ ]
left-true n xs u h = tt

acked-within : (n : ℕ) (xs : List Content) (m : Mail) → IsTrueMail n xs m → acked_by m ≤ n
acked-within n xs (letter number acked c) t = t.0
acked-within n xs (ack acked) t = t

pub heard-more : (heard n : ℕ) (xs : List Content) (m : Mail) → heard ≤ n → IsTrueMail n xs m → max heard (acked_by m) ≤ n
heard-more heard n xs m h t = let within = acked-within n xs m t in omega (arith, h, within)

pub heard-within : (heard n : ℕ) (xs : List Content) (ms : List Mail) → heard ≤ n → AreTrue n xs ms → heard_with heard ms ≤ n
heard-within heard n xs [] h t = h
heard-within heard n xs (m ∷ ms) h t = heard-within (max heard (acked_by m)) n xs ms (heard-more heard n xs m h t.0) t.1

pub seen-more : (m n : ℕ) (a : Ask) → m ≤ n → IsSeen m a → IsSeen n a
seen-more m n (by_ident i) h s = tt
seen-more m n (by_reconnect r) h s = omega (arith, h, s)
