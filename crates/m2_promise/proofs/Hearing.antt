-- Where nodes hold the same but for what their ends were told, each link has an order still.
use Rattle.std.proofs.Common.{◌≡◌, ℕ, zero, suc, List, [], ◌∷◌, Some, refl, sym, subst, ◌∙◌}
use Rattle.std.specs.Prelude.{slice_get}
use Rattle.m2_links_go_on.specs.ClusterTold.{OneByOne, SameRecord}
use Rattle.m2_links_go_on.specs.m2_weave.TurnLaws.{HasOrder}
use Rattle.m2_links_go_on.specs.TellingLaws.{WovenStays}
use Rattle.m2_promise.specs.PassingLaws.{HearingKeepsOrders}
use Rattle.m2_promise.specs.Passed.{SameHolding}

-- its own of the other list, at the same place
pub record IsBefore {X : Type 0} (how : X → X → Type 0) (xs : List X) (i : ℕ) (y : X) : Type 0 where
  pub item : X
  pub there : slice_get xs i ≡ Some item
  pub same : how item y

pub before : {X : Type 0} (how : X → X → Type 0) (xs ys : List X) → OneByOne how xs ys → (i : ℕ) (y : X) → slice_get ys i ≡ Some y → IsBefore how xs i y
before how [] [] all i y is = absurd cc
before how [] (z ∷ ys) all i y is = absurd all
before how (x ∷ xs) [] all i y is = absurd all
before how (x ∷ xs) (z ∷ ys) all zero y is =
    let it : z ≡ y = cc in
    record { item = x; there = refl; same = subst (how x) it all.0 }
before how (x ∷ xs) (z ∷ ys) all (suc i) y is =
    let found = before how xs ys all.1 i y is in
    record { item = found.item; there = found.there; same = found.same }

pub keeps_orders : WovenStays → HearingKeepsOrders
keeps_orders woven old new same orders h g a b l =
    let near = before SameHolding old.holdings new.holdings same l.i h l.near in
    let far = before SameHolding old.holdings new.holdings same l.j g l.far in
    let r = before SameRecord near.item.records h.records near.same.records l.a_at a l.a_there in
    let s = before SameRecord far.item.records g.records far.same.records l.b_at b l.b_there in
    subst HasOrder
    (sym (woven (record { side = r.item; halves = near.item.halves }) (record { side = s.item; halves = far.item.halves })
    (record { side = a; halves = h.halves }) (record { side = b; halves = g.halves })
    (record { side = r.same; halves = near.same.halves }) (record { side = s.same; halves = far.same.halves })))
    (orders near.item far.item r.item s.item (record {
      i = l.i;
      j = l.j;
      near = near.there;
      far = far.there;
      a_at = l.a_at;
      b_at = l.b_at;
      a_there = r.there;
      b_there = s.there;
      a_towards = sym r.same.place ∙ l.a_towards;
      b_towards = sym s.same.place ∙ l.b_towards;
    }))
