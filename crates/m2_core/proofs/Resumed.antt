-- What a resumption acknowledges may be counted where it is above what is counted already, and was written.
use Rattle.std.proofs.Common.{◌≡◌, ℕ, Bool, true, false, Option, Some, None, refl, sym, subst}
use Rattle.std.specs.Prelude.{IfSome, nat_lt, if◌then◌else◌}
use Rattle.std.proofs.lemmas.Bool.{ltb-true, ltb-false}
use Rattle.m2_core.specs.LiveNow.{is_ready}
use Rattle.m2_core.specs.Counting.{countable, to_count}
use Rattle.m2_core.specs.CoreNow.{CoreNow}
use Rattle.m2_core.specs.Next.{CanCount}
use Rattle.m2_core.proofs.Heeded.{resumed_counts}

abbrev CanIf : CoreNow → Option ℕ → Type 0
CanIf c o = IfSome o (λ n. CanCount n c)

by_number : (c : CoreNow) → is_ready c.live ≡ true → (a b : Bool) → nat_lt c.live.out.queue.written c.live.resumed ≡ a → nat_lt c.live.out.queue.base c.live.resumed ≡ b →
    CanIf c (if a then None else if b then Some c.live.resumed else None)
by_number c ready true b p q = tt
by_number c ready false true p q = resumed_counts c ready (ltb-true c.live.out.queue.base c.live.resumed q) (ltb-false c.live.out.queue.written c.live.resumed p)
by_number c ready false false p q = tt

counted_can : (c : CoreNow) → CanIf c (to_count c.live)
counted_can c = at (is_ready c.live) refl
  where
    at : (b : Bool) → is_ready c.live ≡ b → CanIf c (if b then countable c.live.out.queue.base c.live.out.queue.written c.live.resumed else None)
    at true q = by_number c q (nat_lt c.live.out.queue.written c.live.resumed) (nat_lt c.live.out.queue.base c.live.resumed) refl refl
    at false q = tt

pub may_be_counted : (c : CoreNow) (o : Option ℕ) → o ≡ to_count c.live → IfSome o (λ n. CanCount n c)
may_be_counted c o e = subst (CanIf c) (sym e) (counted_can c)
