-- How many posts generated load has.
use Rattle.std.proofs.Common.{◌≡◌, ◌+◌, ℕ, zero, suc, Bool, true, false, cond, if◌then◌else◌, List, [], ◌∷◌, ◌++◌, refl, arith, count_by}
use Rattle.std.proofs.lemmas.List.Sums.{sum_by-append}
use Rattle.m2_scenario.specs.Draft.{DraftLine, is_post, fault, settle}
use Rattle.m2_scenario.specs.declared.lines.TheConstants.{LAST_ROUNDS}
use Rattle.m2_scenario.specs.Choices.{from_by, to_by, post_by}
use Rattle.m2_scenario.specs.Generated.{lines_by, draws_of, first_lines, generated}

together : (xs ys : List DraftLine) → count_by is_post (xs ++ ys) ≡ count_by is_post xs + count_by is_post ys
together xs ys = sum_by-append (λ l. cond (is_post l) 1 0) xs ys

-- whether or not a fault and a round follow
one : (b c : Bool) (i x y : ℕ) (v : ℕ → ℕ) → count_by is_post (post_by i v ∷ (if b then fault x y 0 ∷ [] else []) ++ (if c then settle 1 ∷ [] else [])) ≡ 1
one true true i x y v = refl
one true false i x y v = refl
one false true i x y v = refl
one false false i x y v = refl

one_of : (i : ℕ) (v : ℕ → ℕ) → count_by is_post (lines_by i v) ≡ 1
one_of i v = one _ _ i (from_by (v 0)) (to_by (v 0) (v 1)) v

first_counted : (seed n : ℕ) → count_by is_post (first_lines seed n) ≡ n
first_counted seed zero = refl
first_counted seed (suc i) = omega (arith, together (first_lines seed i) (lines_by i (draws_of seed i)), first_counted seed i, one_of i (draws_of seed i))

last : count_by is_post (settle LAST_ROUNDS ∷ []) ≡ 0
last = refl

pub posts_counted : (posts seed : ℕ) → count_by is_post (generated posts seed).lines ≡ posts
posts_counted posts seed = omega (arith, together (first_lines seed posts) (settle LAST_ROUNDS ∷ []), first_counted seed posts, last)
