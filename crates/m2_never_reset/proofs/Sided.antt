-- The items of either side of an order of both.
use Rattle.std.proofs.Common.{◌≡◌, List, [], ◌∷◌, ◌++◌, refl, ap}
use Rattle.m2_never_reset.specs.Orders.{SideItem, near_item, far_item, near_items, far_items}

pub near_append : (xs ys : List SideItem) → near_items (xs ++ ys) ≡ near_items xs ++ near_items ys
near_append [] ys = refl
near_append (near_item i ∷ xs) ys = ap (λ l. i ∷ l) (near_append xs ys)
near_append (far_item i ∷ xs) ys = near_append xs ys

pub far_append : (xs ys : List SideItem) → far_items (xs ++ ys) ≡ far_items xs ++ far_items ys
far_append [] ys = refl
far_append (near_item i ∷ xs) ys = far_append xs ys
far_append (far_item i ∷ xs) ys = ap (λ l. i ∷ l) (far_append xs ys)
