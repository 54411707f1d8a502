-- A loop that passes on what each item of a list does.
use Rattle.std.proofs.Common.{◌≡◌, ℕ, ◌+◌, ◌-◌, ◌<◌, List, [], ◌∷◌, ◌++◌, length, map, take, drop, get_or, set, refl, sym, ◌∙◌, ap, subst, arith, append-nil, suc, zero}
use Rattle.std.specs.Prelude.{flat_map}
use Rattle.std.proofs.Math.Seq.{take-suc}
use Rattle.std.proofs.lemmas.Grind.{flat_map-append}
use Rattle.std.proofs.lemmas.List.{get_or-append_right, get_or-drop, get_or_default, length-map, length-take-le}
use Rattle.std.proofs.lemmas.List.Edits.{map_over_more}
use Rattle.m2_fabric.specs.Holder.{EndName, SeenHolder}
use Rattle.m2_fabric.specs.News.{AreTold, Logs, logs_of, told_to}
use Rattle.m2_fabric.specs.declared.direction.Direction.{Direction}
use Rattle.m2_fabric.specs.declared.passing.Passing.{Passing}
use Rattle.m2_fabric.proofs.Passes.{passed_then}
use Rattle.m2_fabric.proofs.Told.{logs_same}

-- an item that the loop hasn't come to is as it was
untouched : {X : Type 0} (f : X → X) (xs ys : List X) (i : ℕ) (d : X) → i < length xs → ys ≡ map f (take i xs) ++ drop i xs → get_or ys i d ≡ get_or xs i d
untouched f xs ys i d below so_far =
    let done : length (map f (take i xs)) ≡ i = length-map (take i xs) f ∙ length-take-le i xs (omega (arith, below)) in
    let none : i - i ≡ 0 = omega arith in
    let here : i + 0 ≡ i = omega arith in
    ap (λ ys. get_or ys i d) so_far ∙ get_or-append_right (map f (take i xs)) (drop i xs) i i d done (omega arith)
    ∙ ap (λ n. get_or (drop i xs) n d) none ∙ get_or-drop i xs 0 d ∙ ap (λ n. get_or xs n d) here

one_more : {X : Type 0} (ds : X → List Direction) (xs : List X) (i : ℕ) (d : X) → i < length xs → flat_map ds (take (i + 1) xs) ≡ flat_map ds (take i xs) ++ ds (get_or xs i d)
one_more ds xs i d below =
    let next : i + 1 ≡ suc i = omega arith in
    ap (λ n. flat_map ds (take n xs)) next ∙ ap (flat_map ds) (take-suc xs i d below)
    ∙ flat_map-append ds (take i xs) (get_or xs i d ∷ [])
    ∙ ap (λ es. flat_map ds (take i xs) ++ es) (append-nil (ds (get_or xs i d)))

set_more : {X : Type 0} (f : X → X) (xs ys : List X) (i : ℕ) (d new : X) → i < length xs → length ys ≡ length xs → ys ≡ map f (take i xs) ++ drop i xs
    → new ≡ f (get_or ys i d) → set ys i new ≡ map f (take (i + 1) xs) ++ drop (i + 1) xs
set_more f xs ys i d new below long so_far is =
    let x = get_or ys i d in
    let at : x ≡ get_or ys i x = get_or_default ys i d x (omega (arith, below, long)) in
    ap (set ys i) is ∙ map_over_more f xs ys i x below so_far at

-- the items after one more, and what was told by then
pub record IsOneMore {X : Type 0} (what : Passing) (after : Logs → X → X) (ds : X → List Direction) (xs ys : List X) (i : ℕ) (a c : SeenHolder) : Type 0 where
  pub items : ys ≡ map (after (logs_of a)) (take i xs) ++ drop i xs
  pub told : AreTold (told_to what (logs_of a) (flat_map ds (take i xs))) a c

pub loop_step : {X : Type 0} (what : Passing) (after : Logs → X → X) (ds : X → List Direction) (xs ys : List X) (i : ℕ) (d new : X) (a b c : SeenHolder)
    → i < length xs → length ys ≡ length xs → ((k l : Logs) (x : X) → ((e : EndName) → k e ≡ l e) → after k x ≡ after l x)
    → ys ≡ map (after (logs_of a)) (take i xs) ++ drop i xs → AreTold (told_to what (logs_of a) (flat_map ds (take i xs))) a b
    → new ≡ after (logs_of b) (get_or ys i d) → AreTold (told_to what (logs_of b) (ds (get_or ys i d))) b c
    → IsOneMore what after ds xs (set ys i new) (i + 1) a c
loop_step what after ds xs ys i d new a b c below long by_logs so_far told is more =
    let f = after (logs_of a) in
    let same = by_logs (logs_of b) (logs_of a) (get_or ys i d) (logs_same (told_to what (logs_of a) (flat_map ds (take i xs))) a b told) in
    let here = untouched f xs ys i d below so_far in
    let P : List Direction → Type 0 = λ es. AreTold (told_to what (logs_of a) es) a c in
    let both = passed_then what (flat_map ds (take i xs)) (ds (get_or ys i d)) a b c told more in record {
      items = set_more f xs ys i d new below long so_far (is ∙ same);
      told = subst P (ap (λ x. flat_map ds (take i xs) ++ ds x) here ∙ sym (one_more ds xs i d below)) both;
    }

-- an item that keeps what it is called
pub same_set : {X Y : Type 0} (f : X → Y) (xs ys : List X) (i : ℕ) (d new : X) → i < length ys → map f ys ≡ map f xs → f new ≡ f (get_or ys i d)
    → map f (set ys i new) ≡ map f xs
same_set f xs ys i d new below same is = set_same f ys i d new below is ∙ same
  where
    set_same : {X Y : Type 0} (f : X → Y) (ys : List X) (i : ℕ) (d new : X) → i < length ys → f new ≡ f (get_or ys i d) → map f (set ys i new) ≡ map f ys
    set_same f [] i d new below is = refl
    set_same f (y ∷ ys) zero d new below is = ap (λ z. z ∷ map f ys) is
    set_same f (y ∷ ys) (suc i) d new below is = ap (λ zs. f y ∷ zs) (set_same f ys i d new (omega (arith, below)) is)
