-- Some of a list, in order.
use Rattle.std.proofs.Common.{inl, inr, Bool, true, false, if◌then◌else◌, List, [], ◌∷◌, ◌++◌, refl, ◌∙◌, subst}
use Rattle.std.specs.List.{filter}
use Rattle.m2_dispatch.specs.Laws.{IsSublist}

-- behind other ones
pub some_behind : {X : Type 0} (xs ys zs : List X) → IsSublist xs zs → IsSublist xs (ys ++ zs)
some_behind [] ys zs h = tt
some_behind (x ∷ xs) [] zs h = h
some_behind (x ∷ xs) (y ∷ ys) zs h = inr (some_behind (x ∷ xs) ys zs h)

pub some_both : {X : Type 0} (xs ys us vs : List X) → IsSublist xs ys → IsSublist us vs → IsSublist (xs ++ us) (ys ++ vs)
some_both [] ys us vs h k = some_behind us ys vs k
some_both (x ∷ xs) [] us vs h k = absurd h
some_both (x ∷ xs) (y ∷ ys) us vs (inl h) k = inl (h.0, some_both xs ys us vs h.1 k)
some_both (x ∷ xs) (y ∷ ys) us vs (inr h) k = inr (some_both (x ∷ xs) ys us vs h k)

-- the first ones
pub some_front : {X : Type 0} (xs more ys : List X) → IsSublist (xs ++ more) ys → IsSublist xs ys
some_front [] more ys h = tt
some_front (x ∷ xs) more [] h = absurd h
some_front (x ∷ xs) more (y ∷ ys) (inl h) = inl (h.0, some_front xs more ys h.1)
some_front (x ∷ xs) more (y ∷ ys) (inr h) = inr (some_front (x ∷ xs) more ys h)

pub some_first : {X : Type 0} (xs more : List X) → IsSublist xs (xs ++ more)
some_first [] more = tt
some_first (x ∷ xs) more = inl (refl, some_first xs more)

pub some_of_some : {X : Type 0} (xs ys zs : List X) → IsSublist xs ys → IsSublist ys zs → IsSublist xs zs
some_of_some [] ys zs h k = tt
some_of_some (x ∷ xs) [] zs h k = absurd h
some_of_some (x ∷ xs) (y ∷ ys) [] h k = absurd k
some_of_some (x ∷ xs) (y ∷ ys) (z ∷ zs) (inl h) (inl k) = inl (h.0 ∙ k.0, some_of_some xs ys zs h.1 k.1)
some_of_some (x ∷ xs) (y ∷ ys) (z ∷ zs) (inr h) (inl k) = inr (some_of_some (x ∷ xs) ys zs h k.1)
some_of_some (x ∷ xs) (y ∷ ys) (z ∷ zs) (inl h) (inr k) = inr (some_of_some (x ∷ xs) (y ∷ ys) zs (inl h) k)
some_of_some (x ∷ xs) (y ∷ ys) (z ∷ zs) (inr h) (inr k) = inr (some_of_some (x ∷ xs) (y ∷ ys) zs (inr h) k)

some_more : {X : Type 0} (b : Bool) (x : X) (xs ys : List X) → IsSublist xs ys → IsSublist xs (if b then x ∷ ys else ys)
some_more true x xs ys h = some_behind xs (x ∷ []) ys h
some_more false x xs ys h = h

some_same : {X : Type 0} (b : Bool) (x : X) (xs ys : List X) → IsSublist xs ys → IsSublist (if b then x ∷ xs else xs) (if b then x ∷ ys else ys)
some_same true x xs ys h = inl (refl, h)
some_same false x xs ys h = h

-- those that pass a test
pub some_passing : {X : Type 0} (p : X → Bool) (xs ys : List X) → IsSublist xs ys → IsSublist (filter p xs) (filter p ys)
some_passing p [] ys h = tt
some_passing p (x ∷ xs) [] h = absurd h
some_passing p (x ∷ xs) (y ∷ ys) (inl h) =
    subst (λ z. IsSublist (filter p (x ∷ xs)) (filter p (z ∷ ys))) h.0 (some_same (p x) x (filter p xs) (filter p ys) (some_passing p xs ys h.1))
some_passing p (x ∷ xs) (y ∷ ys) (inr h) = some_more (p y) y (filter p (x ∷ xs)) (filter p ys) (some_passing p (x ∷ xs) ys h)
