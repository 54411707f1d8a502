-- An order of all that is woven; and where the greedy one stops, a byte that the other end hasn't written by then.
use Rattle.std.specs.Prelude.{◌≡◌, ℕ, List, [], ◌∷◌, length, map, slice_get, Option, Some, None}
use Rattle.m2_journal.specs.declared.entry.Entry.TheVariants as entry
use Rattle.m2_weave.specs.Order.{Cut, IsGreedy, IsOrder, reached}
use Rattle.m2_weave.specs.declared.unfit.Unfit.{Unfit}
use Rattle.m2_weave.specs.declared.strand.StrandItem.{StrandItem}
use Rattle.m2_weave.specs.declared.strand.StrandItem.TheVariants.{Noted}
use Rattle.m2_weave.specs.Strands.{StrandNow}
use Rattle.m2_weave.specs.Rule.{Woven, by_bytes, unfit_read}

-- how many items each strand has
abbrev pub sizes : Woven → Cut
sizes w = map (λ (s : StrandNow). length s.items) w.strands

-- an order of all items
abbrev pub IsWoven : Woven → List ℕ → Type 0
IsWoven w order = IsOrder (by_bytes w) (sizes w) order

-- what is wrong with the next item of a strand, if it is a read
abbrev pub unfit_item : Woven → Cut → StrandNow → ℕ → Option StrandItem → Option Unfit
unfit_item w at s n (Some (Noted (entry.Read k count))) = unfit_read w at s n k count
unfit_item w at s n _ = None

abbrev pub unfit_next : Woven → Cut → StrandNow → ℕ → Option Unfit
unfit_next w at s n = unfit_item w at s n (slice_get s.items n)

-- the first strand that stands at a read which may not come, by the byte
abbrev pub or_else : {X : Type 0} → Option X → Option X → Option X
or_else (Some x) y = Some x
or_else None y = y

abbrev pub first_stop : Woven → Cut → List StrandNow → (places : Cut) → Option Unfit
first_stop w at [] places = None
first_stop w at (s ∷ ss) [] = None
first_stop w at (s ∷ ss) (n ∷ places) = or_else (unfit_next w at s n) (first_stop w at ss places)

-- A greedy order stops before the end: there is no order of all. The byte is that at which the first strand stands that
-- stands at a read; none where all that are left wait for a judgement, or for an ask to be handed on.
pub record StopsAt (w : Woven) (u : Option Unfit) : Type 0 where
  pub order : List ℕ
  pub rank : ℕ → ℕ
  pub greedy : IsGreedy rank (by_bytes w) (sizes w) order
  pub short : reached (sizes w) order ≡ sizes w → ⊥
  pub byte : first_stop w (reached (sizes w) order) w.strands (reached (sizes w) order) ≡ u
