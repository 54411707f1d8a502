-- Lists that are put together in two ways, and prefixes.
use Rattle.std.proofs.Common.{◌≡◌, ◌≢◌, ◌⊎◌, inl, inr, List, [], ◌∷◌, ◌++◌, Some, None, refl, sym, ap, ◌∙◌, append_assoc}
use Rattle.m2_feed.specs.m2_handshake.Laws.{IsPrefix}
use Rattle.m2_feed.proofs.m2_lemmas.Lists.{cons_same}

pub cons_is_some : {X : Type 0} (x : X) (xs : List X) → x ∷ xs ≢ []
cons_is_some x xs e = cc

pub not_nil : {X Y : Type 0} {x : X} {xs : List X} → x ∷ xs ≡ [] → Y
not_nil {X} {Y} {x} {xs} e = absurd (cons_is_some x xs e)

pub nil_not : {X Y : Type 0} {x : X} {xs : List X} → [] ≡ x ∷ xs → Y
nil_not {X} {Y} {x} {xs} e = absurd (cons_is_some x xs (sym e))

some_is_one : {X : Type 0} (x : X) → Some x ≢ None
some_is_one x e = cc

pub some_not_none : {X Y : Type 0} {x : X} → Some x ≡ None → Y
some_not_none {X} {Y} {x} e = absurd (some_is_one x e)

pub none_not_some : {X Y : Type 0} {x : X} → None ≡ Some x → Y
none_not_some {X} {Y} {x} e = absurd (some_is_one x (sym e))

-- the first of two parts ends before the other one does, and what is between
pub record EndsBefore {X : Type 0} (xs ys zs ws : List X) : Type 0 where
  pub more : List X
  pub some : more ≢ []
  pub longer : zs ≡ xs ++ more
  pub behind : ys ≡ more ++ ws

-- or it ends there or behind
pub record EndsBehind {X : Type 0} (xs ys zs ws : List X) : Type 0 where
  pub more : List X
  pub longer : xs ≡ zs ++ more
  pub behind : more ++ ys ≡ ws

pub compare : {X : Type 0} (xs ys zs ws : List X) → xs ++ ys ≡ zs ++ ws → EndsBefore xs ys zs ws ⊎ EndsBehind xs ys zs ws
compare [] ys [] ws e = inr (record { more = []; longer = refl; behind = e })
compare [] ys (z ∷ zs) ws e = inl (record { more = z ∷ zs; some = cons_is_some z zs; longer = refl; behind = e })
compare (x ∷ xs) ys [] ws e = inr (record { more = x ∷ xs; longer = refl; behind = e })
compare (x ∷ xs) ys (z ∷ zs) ws e =
    let same = cons_same x z (xs ++ ys) (zs ++ ws) e in
    by_either (compare xs ys zs ws same.1)
    (λ h. inl (record { more = h.more; some = h.some; longer = ap (λ l. z ∷ l) h.longer ∙ ap (λ y. y ∷ (xs ++ h.more)) (sym same.0); behind = h.behind }))
    (λ h. inr (record { more = h.more; longer = ap (λ l. x ∷ l) h.longer ∙ ap (λ y. y ∷ (zs ++ h.more)) same.0; behind = h.behind }))
  where
    by_either : {P Q R : Type 0} → P ⊎ Q → (P → R) → (Q → R) → R
    by_either (inl p) f g = f p
    by_either (inr q) f g = g q

-- ---- prefixes

pub prefix_trans : {X : Type 0} (xs ys zs : List X) → IsPrefix xs ys → IsPrefix ys zs → IsPrefix xs zs
prefix_trans xs ys zs p q = (p.0 ++ q.0, q.1 ∙ (ap (λ l. l ++ q.0) p.1 ∙ append_assoc xs p.0 q.0))
