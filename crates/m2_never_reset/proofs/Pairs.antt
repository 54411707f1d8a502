-- Of an allowed pair that isn't lossy, a side whose resets are in full is a server, or the other is one.
use Rattle.std.proofs.Common.{◌≡◌, ◌⊎◌, inl, inr, Bool, true, false, true≢false, ◌||◌, refl, sym}
use Rattle.m2_session.specs.m2_policy.Policy.{is_pair, allows}
use Rattle.m2_never_reset.specs.Roles.{Role, AreLossless}
use Rattle.m2_never_reset.proofs.BeforeAccepts.{ChecksAsServer}

-- two that aren't servers don't reset in full
equals : (s t r : Bool) → allows (record { lossy = false; server = false; standby = s; resetcheck = true }) (record { lossy = false; server = false; standby = t; resetcheck = r }) ≡ true → ⊥
equals true true true h = true≢false (sym h)
equals true true false h = true≢false (sym h)
equals true false true h = true≢false (sym h)
equals true false false h = true≢false (sym h)
equals false true true h = true≢false (sym h)
equals false true false h = true≢false (sym h)
equals false false true h = true≢false (sym h)
equals false false false h = true≢false (sym h)

one_serves : (l a s c m b t r : Bool) → l ≡ false → m ≡ false → c ≡ true →
    allows (record { lossy = l; server = a; standby = s; resetcheck = c }) (record { lossy = m; server = b; standby = t; resetcheck = r }) ≡ true →
    (a ≡ true) ⊎ (b ≡ true)
one_serves l true s c m b t r e f g h = inl refl
one_serves l false s c m true t r e f g h = inr refl
one_serves true false s c m false t r e f g h = absurd (true≢false e)
one_serves false false s c true false t r e f g h = absurd (true≢false f)
one_serves false false s false false false t r e f g h = absurd (true≢false (sym g))
one_serves false false s true false false t r e f g h = absurd (equals s t r h)

or_turned : (a b : Bool) → (a || b) ≡ true → (b || a) ≡ true
or_turned true true h = refl
or_turned true false h = refl
or_turned false b h = rw h refl

pub checks : (p q : Role) → AreLossless p q → ChecksAsServer p q
checks p q a c = one_serves p.policy.lossy p.policy.server p.policy.standby p.policy.resetcheck q.policy.lossy q.policy.server q.policy.standby q.policy.resetcheck a.first a.second c a.allowed

pub turned : (p q : Role) → AreLossless p q → AreLossless q p
turned p q a = record {
  allowed = or_turned (is_pair p.policy q.policy) (is_pair q.policy p.policy) a.allowed;
  first = a.second;
  second = a.first;
}
