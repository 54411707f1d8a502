-- Before any entry.
use Rattle.std.proofs.Common.{refl}
use Rattle.m2_journal.specs.State.{start}
use Rattle.m2_never_reset.specs.PairLaws.{StartsAreNew}
use Rattle.m2_never_reset.specs.Paired.{SideIsPaired}
use Rattle.m2_journal.specs.SideFacts.{SideFacts}
use Rattle.std.proofs.Common.{arith}

side : (f g : SideFacts) → SideIsPaired (start f) (start g)
side f g = record {
  feed = tt;
  asks = λ k e. refl;
  sent = λ k e h. refl;
  asks_once = λ k. omega arith;
  unjudged = λ k e. refl;
}

pub are_new : StartsAreNew
are_new = record { link = λ f g. refl; paired = λ f g. record { near = side f g; far = side g f } }
