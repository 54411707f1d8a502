-- What a step does to the unjudged asks of a side, and what is known of stands.
use Rattle.std.proofs.Common.{◌≡◌, ℕ, ◌<◌, ◌≤◌, ◌⊎◌, inl, inr, refl, sym, subst, arith, Some}
use Rattle.m2_never_reset.specs.Roles.{Role}
use Rattle.m2_never_reset.specs.Asks.{Ask, by_ident, by_reconnect, Asks, AtMost}
use Rattle.m2_never_reset.specs.Link.{Stand, standby, waiting, asking, offered}
use Rattle.m2_never_reset.specs.Steps.{HasLeft, LeavesAt}
use Rattle.m2_never_reset.proofs.Before.{IsAskedAt, Asked, IsBelow, IsAskOf, Owns, IsNewest, IsNotReset, IsPassive, AtOffer}

-- no unjudged ask is new
abbrev pub Fewer : Asks → Stand → Asks → Stand → Type 0
Fewer old s new t = (a : Ask) → Asked new t a → Asked old s a

pub asks_nothing : (old new : Asks) (s t : Stand) → AtMost old new → ((a : Ask) → IsAskedAt t a → ⊥) → Fewer old s new t
asks_nothing old new s t fewer none a (inl (k, e)) = inl (k, fewer k a e)
asks_nothing old new s t fewer none a (inr h) = absurd (none a h)

asked_there : (s : Stand) (a : Ask) → s ≡ asking a → IsAskedAt s a
asked_there s a e = subst (λ t. IsAskedAt t a) (sym e) refl

pub asks_left : (old new : Asks) (s t : Stand) → LeavesAt s old new → ((a : Ask) → IsAskedAt t a → ⊥) → Fewer old s new t
asks_left old new s t left none a (inl (k, e)) = at (left k a e)
  where
    at : (old k ≡ Some a) ⊎ (s ≡ asking a) → Asked old s a
    at (inl h) = inl (k, h)
    at (inr h) = inr (asked_there s a h)
asks_left old new s t left none a (inr h) = absurd (none a h)

-- on the same stand
pub asks_fewer : (old new : Asks) (s : Stand) → AtMost old new → Fewer old s new s
asks_fewer old new s fewer a (inl (k, e)) = inl (k, fewer k a e)
asks_fewer old new s fewer a (inr h) = inr h

pub below_more : (m n : ℕ) (a : Ask) → m ≤ n → IsBelow m a → IsBelow n a
below_more m n (by_ident i) h b = omega (arith, h, b)
below_more m n (by_reconnect r) h b = tt

pub ask_more : (p : Role) (m n : ℕ) (a : Ask) → m ≤ n → IsAskOf p m a → IsAskOf p n a
ask_more p m n (by_ident i) h b = (b.0, omega (arith, h, b.1))
ask_more p m n (by_reconnect r) h b = b

-- an ask of a side has a number below those that it will draw
pub ask_below : (p : Role) (m n : ℕ) (a : Ask) → m < n → IsAskOf p m a → IsBelow n a
ask_below p m n (by_ident i) h b = omega (arith, h, b.1)
ask_below p m n (by_reconnect r) h b = tt

-- ---- a side that has left its socket

pub left_asks_nothing : (u : Stand) (a : Ask) → HasLeft u → IsAskedAt u a → ⊥
left_asks_nothing (asking b) a h e = elim h [ ]
left_asks_nothing u a h e = elim e [ ]

pub left_owns : (client server : ℕ) (u : Stand) → HasLeft u → Owns client server u
left_owns c v standby h = tt
left_owns c v waiting h = tt
left_owns c v u h = elim h [ ]

pub left_newest : (asks : Asks) (u : Stand) → HasLeft u → IsNewest asks u
left_newest asks standby h = tt
left_newest asks waiting h = tt
left_newest asks u h = elim h [ ]

pub left_not_offered : (F : ℕ → ℕ → Type 0) (u : Stand) → HasLeft u → AtOffer u F
left_not_offered F standby h = tt
left_not_offered F waiting h = tt
left_not_offered F u h = elim h [ ]

pub left_not_reset : (u : Stand) → HasLeft u → IsNotReset u
left_not_reset standby h = tt
left_not_reset waiting h = tt
left_not_reset u h = elim h [ ]

pub left_passive : (u : Stand) → HasLeft u → IsPassive u
left_passive standby h = tt
left_passive waiting h = tt
left_passive u h = elim h [ ]

-- ---- what is known of an offer, kept from one moment to the next

pub at_offer : (s : Stand) (F G : ℕ → ℕ → Type 0) → ((cookie global : ℕ) → F cookie global → G cookie global) → AtOffer s F → AtOffer s G
at_offer (offered cookie global ms) F G f h = f cookie global h
at_offer s F G f h = tt
