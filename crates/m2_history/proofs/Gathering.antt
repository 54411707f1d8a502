-- What is gathered from the items of a list, one after the other.
use Rattle.std.proofs.Common.{◌≡◌, ℕ, suc, ◌+◌, ◌<◌, List, ◌∷◌, ◌++◌, length, drop, sym, ap, ◌∙◌, arith, append_assoc}
use Rattle.std.specs.Prelude.{slice_index_or}
use Rattle.std.proofs.Math.Seq.{drop-cons}

taken_off : {A : Type 0} (xs : List A) (n : ℕ) (x : A) → n < length xs → x ≡ slice_index_or xs n x → drop n xs ≡ x ∷ drop (n + 1) xs
taken_off xs n x h is =
    drop-cons xs n x h
    ∙ (ap (λ y. y ∷ drop (suc n) xs) (sym is)
    ∙ ap (λ m. x ∷ drop m xs) (let q : suc n ≡ n + 1 = omega arith in q))

pub one_more : {A B : Type 0} (f : List A → List B) (g : A → List B) → ((x : A) (xs : List A) → f (x ∷ xs) ≡ g x ++ f xs) → (xs : List A) (n : ℕ) (x : A) (old new all : List B) →
    n < length xs → x ≡ slice_index_or xs n x → old ++ f (drop n xs) ≡ all → new ≡ old ++ g x → new ++ f (drop (n + 1) xs) ≡ all
one_more f g step xs n x old new all h is before more =
    ap (λ l. l ++ f (drop (n + 1) xs)) more
    ∙ (append_assoc old (g x) (f (drop (n + 1) xs))
    ∙ (ap (λ l. old ++ l) (sym (step x (drop (n + 1) xs)) ∙ sym (ap f (taken_off xs n x h is)))
    ∙ before))
