-- Of two different addresses exactly one is below the other, so one of two nodes wins.
use Rattle.std.proofs.Common.{◌≡◌, false, not, ◌||◌, refl}
use Rattle.std.specs.Ordering.{ordering_reverse, is_lt}
use Rattle.std.specs.declared.cmp.Ordering.{Ordering}
use Rattle.std.specs.declared.cmp.Ordering.TheVariants.{Less, Equal, Greater}
use Rattle.m2_addr.specs.Order.{address_cmp_in}
use Rattle.m2_addr.proofs.Order.{addresses_ordered}
use Rattle.m2_policy.specs.Laws.{OneWins}

one_below : (o p : Ordering) → o ≡ ordering_reverse p → (o ≡ Equal → ⊥) → (is_lt o || false) ≡ not (is_lt p || false)
one_below o Less h differ = rw h refl
one_below o Equal h differ = absurd (differ h)
one_below o Greater h differ = rw h refl

pub one_winner : OneWins
one_winner order a b differ =
    one_below (address_cmp_in order a b) (address_cmp_in order b a) ((addresses_ordered order).total.antisymm a b) (λ e. differ ((addresses_ordered order).same a b e))
