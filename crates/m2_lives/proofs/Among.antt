-- Lists of lives: what holds of one of them, and their names.
use Rattle.std.proofs.Common.{◌≡◌, ◌≢◌, ℕ, zero, suc, ◌⊎◌, inl, inr, List, [], ◌∷◌, ◌++◌, map, refl, sym, ap, subst, ◌∙◌}
use Rattle.std.specs.List.{AllByRecursion}
use Rattle.m2_lives.specs.Lives.{Has, IsNewName}
use Rattle.m2_lives.specs.LivesLaws.{AreNames}

-- ---- one of a list

pub has_so : {X : Type 0} (P Q : X → Type 0) → ((x : X) → P x → Q x) → (xs : List X) → Has P xs → Has Q xs
has_so P Q so [] h = h
has_so P Q so (x ∷ xs) (inl p) = inl (so x p)
has_so P Q so (x ∷ xs) (inr h) = inr (has_so P Q so xs h)

pub has_front : {X : Type 0} (P : X → Type 0) (xs ys : List X) → Has P xs → Has P (xs ++ ys)
has_front P [] ys h = absurd h
has_front P (x ∷ xs) ys (inl p) = inl p
has_front P (x ∷ xs) ys (inr h) = inr (has_front P xs ys h)

pub has_back : {X : Type 0} (P : X → Type 0) (xs ys : List X) → Has P ys → Has P (xs ++ ys)
has_back P [] ys h = h
has_back P (x ∷ xs) ys h = inr (has_back P xs ys h)

pub has_either : {X : Type 0} (P : X → Type 0) (xs ys : List X) → Has P (xs ++ ys) → Has P xs ⊎ Has P ys
has_either P [] ys h = inr h
has_either P (x ∷ xs) ys (inl p) = inl (inl p)
has_either P (x ∷ xs) ys (inr h) = at (has_either P xs ys h)
  where
    at : Has P xs ⊎ Has P ys → Has P (x ∷ xs) ⊎ Has P ys
    at (inl p) = inl (inr p)
    at (inr q) = inr q

-- the last one is another
pub has_last : {X : Type 0} (P : X → Type 0) (xs : List X) (x y : X) → (P x → P y) → Has P (xs ++ x ∷ []) → Has P (xs ++ y ∷ [])
has_last P [] x y so (inl p) = inl (so p)
has_last P [] x y so (inr h) = inr h
has_last P (z ∷ zs) x y so (inl p) = inl p
has_last P (z ∷ zs) x y so (inr h) = inr (has_last P zs x y so h)

pub has_map : {X : Type 0} (P : X → Type 0) (f : X → X) → ((x : X) → P x → P (f x)) → (xs : List X) → Has P xs → Has P (map f xs)
has_map P f so [] h = h
has_map P f so (x ∷ xs) (inl p) = inl (so x p)
has_map P f so (x ∷ xs) (inr h) = inr (has_map P f so xs h)

-- ---- names

pub names_last : {X : Type 0} (name : X → ℕ) (xs : List X) (x y : X) → name x ≡ name y → map name (xs ++ x ∷ []) ≡ map name (xs ++ y ∷ [])
names_last name [] x y e = ap (λ n. n ∷ []) e
names_last name (z ∷ zs) x y e = ap (λ l. name z ∷ l) (names_last name zs x y e)

pub names_map : {X : Type 0} (name : X → ℕ) (f : X → X) → ((x : X) → name (f x) ≡ name x) → (xs : List X) → map name (map f xs) ≡ map name xs
names_map name f same [] = refl
names_map name f same (x ∷ xs) = ap (λ l. name (f x) ∷ l) (names_map name f same xs) ∙ ap (λ n. n ∷ map name xs) (same x)

pub none_or_some : (n : ℕ) → (n ≡ 0) ⊎ (n ≢ 0)
none_or_some zero = inl refl
none_or_some (suc n) = inr (λ e. absurd (suc_some n e))
  where
    suc_some : (k : ℕ) → suc k ≡ 0 → ⊥
    suc_some k e = cc

-- a new name behind them
new_behind : (n m : ℕ) (ns : List ℕ) → IsNewName n ns → (m ≡ 0) ⊎ (n ≢ m) → IsNewName n (ns ++ m ∷ [])
new_behind n m ns (inl z) h = inl z
new_behind n m ns (inr all) (inl z) = at (none_or_some n)
  where
    add : (ks : List ℕ) → n ≢ 0 → AllByRecursion (λ k. k ≢ n) ks → AllByRecursion (λ k. k ≢ n) (ks ++ m ∷ [])
    add [] some a = (λ e. some (sym e ∙ z), tt)
    add (k ∷ ks) some a = (a.0, add ks some a.1)

    at : (n ≡ 0) ⊎ (n ≢ 0) → IsNewName n (ns ++ m ∷ [])
    at (inl e) = inl e
    at (inr some) = inr (add ns some all)
new_behind n m ns (inr all) (inr apart) = inr (add ns all)
  where
    add : (ks : List ℕ) → AllByRecursion (λ k. k ≢ n) ks → AllByRecursion (λ k. k ≢ n) (ks ++ m ∷ [])
    add [] a = (λ e. apart (sym e), tt)
    add (k ∷ ks) a = (a.0, add ks a.1)

pub names_more : (ns : List ℕ) (m : ℕ) → AreNames ns → IsNewName m ns → AreNames (ns ++ m ∷ [])
names_more [] m h new = (inr tt, tt)
names_more (n ∷ ns) m h (inl z) = (new_behind n m ns h.0 (inl z), names_more ns m h.1 (inl z))
names_more (n ∷ ns) m h (inr all) = (new_behind n m ns h.0 (inr all.0), names_more ns m h.1 (inr all.1))

-- ---- one life of a name

-- no other one has the name of one that is named
none_named : {X : Type 0} (name : X → ℕ) (P : X → Type 0) (xs : List X) (n : ℕ) → AllByRecursion (λ k. k ≢ n) (map name xs) → ((x : X) → P x → name x ≡ n) → Has P xs → ⊥
none_named name P [] n all so h = h
none_named name P (x ∷ xs) n all so (inl p) = all.0 (so x p)
none_named name P (x ∷ xs) n all so (inr h) = none_named name P xs n all.1 so h

-- where the last one has the name, it is the one
pub only_last : {X : Type 0} (name : X → ℕ) (P : X → Type 0) (xs : List X) (y : X) → name y ≢ 0 → AreNames (map name (xs ++ y ∷ [])) → ((x : X) → P x → name x ≡ name y) → Has P (xs ++ y ∷ []) → P y
only_last name P [] y kept names so (inl p) = p
only_last name P [] y kept names so (inr h) = absurd h
only_last name P (x ∷ xs) y kept names so (inr h) = only_last name P xs y kept names.1 so h
only_last {X} name P (x ∷ xs) y kept names so (inl p) = absurd (at names.0)
  where
    there : (zs : List X) → AllByRecursion (λ k. k ≢ name x) (map name (zs ++ y ∷ [])) → ⊥
    there [] all = all.0 (sym (so x p))
    there (z ∷ zs) all = there zs all.1

    at : IsNewName (name x) (map name (xs ++ y ∷ [])) → ⊥
    at (inl z) = kept (sym (so x p) ∙ z)
    at (inr all) = there xs all

-- what holds of one with a name holds of each one with it
pub all_named : {X : Type 0} (name : X → ℕ) (P : X → Type 0) (n : ℕ) (xs : List X) → n ≢ 0 → AreNames (map name xs) → Has (λ x. (name x ≡ n) × P x) xs →
    AllByRecursion (λ x. name x ≡ n → P x) xs
all_named name P n [] kept names h = tt
all_named {X} name P n (x ∷ xs) kept names (inl p) = (λ e. p.1, others xs (at names.0))
  where
    at : IsNewName (name x) (map name xs) → AllByRecursion (λ k. k ≢ name x) (map name xs)
    at (inl z) = absurd (kept (sym p.0 ∙ z))
    at (inr all) = all

    others : (zs : List X) → AllByRecursion (λ k. k ≢ name x) (map name zs) → AllByRecursion (λ z. name z ≡ n → P z) zs
    others [] all = tt
    others (z ∷ zs) all = (λ e. absurd (all.0 (e ∙ sym p.0)), others zs all.1)
all_named name P n (x ∷ xs) kept names (inr h) = (λ e. absurd (at names.0 e), all_named name P n xs kept names.1 h)
  where
    at : IsNewName (name x) (map name xs) → name x ≡ n → ⊥
    at (inl z) e = kept (sym e ∙ z)
    at (inr all) e = none_named name (λ y. (name y ≡ n) × P y) xs n (subst (λ m. AllByRecursion (λ k. k ≢ m) (map name xs)) e all) (λ y p. p.0) h
