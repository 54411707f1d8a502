-- A test and a sum over what is left of a list, one item further.
use Rattle.std.proofs.Common.{◌≡◌, ℕ, ◌+◌, ◌<◌, ◌≤◌, ◌||◌, zero, suc, Bool, false, List, [], ◌∷◌, length, drop, get_or, sum_by, refl, sym, ap, ◌∙◌, arith}
use Rattle.std.specs.List.{list_any}
use Rattle.std.proofs.lemmas.List.Sums.{sum_by-drop_more}
use Rattle.std.proofs.Math.Seq.{drop-cons}

pub none_past : {X : Type 0} (xs : List X) (n : ℕ) → length xs ≤ n → drop n xs ≡ []
none_past [] zero past = refl
none_past [] (suc n) past = refl
none_past (x ∷ xs) zero past = absurd (omega (arith, past))
none_past (x ∷ xs) (suc n) past = none_past xs n (omega (arith, past))

pub any_next : {X : Type 0} (p : X → Bool) (xs : List X) (i : ℕ) (d : X) → i < length xs → p (get_or xs i d) ≡ false → list_any p (drop (i + 1) xs) ≡ list_any p (drop i xs)
any_next p xs i d fits not_here =
    let more : suc i ≡ i + 1 = omega arith in
    sym (ap (list_any p) (drop-cons xs i d fits) ∙ ap (λ b. b || list_any p (drop (suc i) xs)) not_here ∙ ap (λ (n : ℕ). list_any p (drop n xs)) more)

pub any_past : {X : Type 0} (p : X → Bool) (xs : List X) (n : ℕ) → length xs ≤ n → list_any p (drop n xs) ≡ false
any_past p xs n past = ap (list_any p) (none_past xs n past)

pub sum_next : {X : Type 0} (f : X → ℕ) (xs : List X) (i : ℕ) (d : X) (n m more total : ℕ) → i < length xs → d ≡ get_or xs i d → more ≡ n + m → m ≡ f d →
    n + sum_by f (drop i xs) ≡ total → more + sum_by f (drop (i + 1) xs) ≡ total
sum_next f xs i d n m more total fits is e g h = omega (arith, sum_by-drop_more f xs i d fits, ap f is, e, g, h)

pub sum_past : {X : Type 0} (f : X → ℕ) (xs : List X) (i n total : ℕ) → length xs ≤ i → n + sum_by f (drop i xs) ≡ total → n ≡ total
sum_past f xs i n total past h = omega (arith, ap (sum_by f) (none_past xs i past), h)
