-- Where nothing is passed on: sockets that are over both ways, and pairs that a call isn't about.
use Rattle.std.proofs.Common.{◌≡◌, ℕ, ◌+◌, ◌≤◌, ◌<◌, ◌||◌, Bool, true, false, if◌then◌else◌, List, [], ◌∷◌, ◌++◌, length, map, get_or, suc, zero, refl, sym, ◌∙◌, ap, subst, arith}
use Rattle.std.specs.Prelude.{Result, Ok, Err, OnOk}
use Rattle.m2_bytes.specs.declared.memory.NoMemory.{NoMemory}
use Rattle.m2_fabric.specs.Holder.{EndName, SeenHolder}
use Rattle.m2_fabric.specs.Kept.{SeenPair, back, of_pair, of_sockets, reader, same_end, there}
use Rattle.m2_fabric.specs.News.{AreTold, Logs, Told, is_about, is_closed, kept_after, logs_of, pair_after, progress_by, told_by, told_to}
use Rattle.m2_fabric.specs.Over.{AreOver, is_between, is_over, leads}
use Rattle.m2_fabric.specs.declared.direction.Direction.{Direction}
use Rattle.m2_fabric.specs.declared.direction.Progress.{Progress}
use Rattle.m2_fabric.specs.declared.kept.Kept.{Kept}
use Rattle.m2_fabric.specs.declared.passing.Passing.{Passing}
use Rattle.m2_fabric.proofs.Told.{told_nothing, told_same}
use Rattle.m2_bytes.proofs.m2_lemmas.Booleans.{neither_of_or, both_of_and}

-- ---- the first sockets

pub over_within : (n : ℕ) (ks : List Kept) → AreOver n ks → n ≤ length ks
over_within zero ks o = omega arith
over_within (suc n) [] o = absurd o
over_within (suc n) (k ∷ ks) o = omega (arith, over_within n ks o.1)

pub one_more_over : (n : ℕ) (ks : List Kept) (d : Kept) → AreOver n ks → n < length ks → is_over (get_or ks n d) ≡ true → AreOver (n + 1) ks
one_more_over n ks d o below is =
    let more : suc n ≡ n + 1 = omega arith in
    subst (λ (m : ℕ). AreOver m ks) more (next n ks o below is)
  where
    next : (n : ℕ) (ks : List Kept) → AreOver n ks → n < length ks → is_over (get_or ks n d) ≡ true → AreOver (suc n) ks
    next n [] o below is = absurd (omega (arith, below))
    next zero (k ∷ ks) o below is = (is, tt)
    next (suc n) (k ∷ ks) o below is = (o.0, next n ks o.1 (omega (arith, below)) is)

-- sockets behind the first ones may change, and others come
pub over_behind : (n : ℕ) (xs ys zs : List Kept) → length xs ≡ n → AreOver n (xs ++ ys) → AreOver n (xs ++ zs)
over_behind zero xs ys zs long o = tt
over_behind (suc n) [] ys zs long o = absurd (omega (arith, long))
over_behind (suc n) (x ∷ xs) ys zs long o = (o.0, over_behind n xs ys zs (omega (arith, long)) o.1)

pub over_then : (n : ℕ) (xs ys : List Kept) → AreOver n xs → AreOver n (xs ++ ys)
over_then zero xs ys o = tt
over_then (suc n) [] ys o = absurd o
over_then (suc n) (x ∷ xs) ys o = (o.0, over_then n xs ys o.1)

-- ---- nothing is passed on in a direction

abbrev nothing : List Told
nothing = []

pub record IsQuiet (what : Passing) (l : Logs) (d : Direction) : Type 0 where
  pub stays : progress_by what l d ≡ d.progress
  pub tells : told_by what l d ≡ []

alike : {X : Type 0} (b : Bool) (x : X) → (if b then x else x) ≡ x
alike true x = refl
alike false x = refl

over_keeps : {X : Type 0} (b over : Bool) (x y : X) → over ≡ true → (if b then (if over then x else y) else x) ≡ x
over_keeps false over x y h = refl
over_keeps true true x y h = refl
over_keeps true false x y h = absurd (cc)

over_is_quiet : (what : Passing) (l : Logs) (d : Direction) → d.progress.over ≡ true → IsQuiet what l d
over_is_quiet what l d over = record {
  stays = over_keeps (is_about what d) d.progress.over d.progress _ over;
  tells = over_keeps (is_about what d) (d.progress.over || is_closed (l (reader d))) nothing _ (ap (λ (b : Bool). b || is_closed (l (reader d))) over);
}

other_is_quiet : (what : Passing) (l : Logs) (d : Direction) → leads what d.from d.to ≡ false → IsQuiet what l d
other_is_quiet what l d other = record { stays = rw other refl; tells = rw other refl }

-- ---- and so on a socket, both ways

pub record AreQuiet (what : Passing) (l : Logs) (a b : ℕ) (k : Kept) : Type 0 where
  pub there : IsQuiet what l (there a b k)
  pub back : IsQuiet what l (back a b k)

over_are_quiet : (what : Passing) (l : Logs) (a b : ℕ) (k : Kept) → is_over k ≡ true → AreQuiet what l a b k
over_are_quiet what l a b k over =
    let both = both_of_and k.there.over k.back.over over in
    record { there = over_is_quiet what l (there a b k) both.0; back = over_is_quiet what l (back a b k) both.1 }

others_are_quiet : (what : Passing) (l : Logs) (a b : ℕ) (k : Kept) → is_between what a b ≡ false → AreQuiet what l a b k
others_are_quiet what l a b k other =
    let both = neither_of_or (leads what a b) (leads what b a) other in
    record { there = other_is_quiet what l (there a b k) both.0; back = other_is_quiet what l (back a b k) both.1 }

quiet_stays : (what : Passing) (l : Logs) (a b : ℕ) (k : Kept) → AreQuiet what l a b k → kept_after what l a b k ≡ k
quiet_stays what l a b k q =
    ap (λ (p : Progress). record k { there = p; back = progress_by what l (back a b k) }) q.there.stays
    ∙ ap (λ (p : Progress). record k { back = p }) q.back.stays

quiet_tells : (what : Passing) (l : Logs) (a b : ℕ) (k : Kept) (ds : List Direction) (e : EndName) → AreQuiet what l a b k
    → told_to what l (there a b k ∷ back a b k ∷ ds) e ≡ told_to what l ds e
quiet_tells what l a b k ds e q = none (there a b k) (back a b k ∷ ds) q.there.tells ∙ none (back a b k) ds q.back.tells
  where
    none : (d : Direction) (ds : List Direction) → told_by what l d ≡ [] → told_to what l (d ∷ ds) e ≡ told_to what l ds e
    none d ds tells =
        ap (λ (ts : List Told). (if same_end (reader d) e then ts else []) ++ told_to what l ds e) tells
        ∙ ap (λ (ts : List Told). ts ++ told_to what l ds e) (alike (same_end (reader d) e) nothing)

-- ---- behind the first sockets

pub first_stay : (what : Passing) (l : Logs) (a b n : ℕ) (xs ys : List Kept) → length xs ≡ n → AreOver n (xs ++ ys)
    → xs ++ map (kept_after what l a b) ys ≡ map (kept_after what l a b) (xs ++ ys)
first_stay what l a b n [] ys long o = refl
first_stay what l a b zero (x ∷ xs) ys long o = absurd (omega (arith, long))
first_stay what l a b (suc n) (x ∷ xs) ys long o =
    let f = kept_after what l a b in
    ap (λ (ks : List Kept). x ∷ ks) (first_stay what l a b n xs ys (omega (arith, long)) o.1)
    ∙ ap (λ (k : Kept). k ∷ map f (xs ++ ys)) (sym (quiet_stays what l a b x (over_are_quiet what l a b x o.0)))

pub first_tell : (what : Passing) (l : Logs) (a b n : ℕ) (xs ys : List Kept) (e : EndName) → length xs ≡ n → AreOver n (xs ++ ys)
    → told_to what l (of_sockets a b ys) e ≡ told_to what l (of_sockets a b (xs ++ ys)) e
first_tell what l a b n [] ys e long o = refl
first_tell what l a b zero (x ∷ xs) ys e long o = absurd (omega (arith, long))
first_tell what l a b (suc n) (x ∷ xs) ys e long o =
    first_tell what l a b n xs ys e (omega (arith, long)) o.1
    ∙ sym (quiet_tells what l a b x (of_sockets a b (xs ++ ys)) e (over_are_quiet what l a b x o.0))

-- what was passed on behind the first sockets is all that is passed on
pub behind_is_all : (r : Result (Unit {0}) NoMemory) (what : Passing) (l : Logs) (a b n : ℕ) (ks xs ys zs : List Kept) → ks ≡ xs ++ ys → length xs ≡ n → AreOver n ks
    → OnOk r (zs ≡ map (kept_after what l a b) ys) → OnOk r (xs ++ zs ≡ map (kept_after what l a b) ks)
behind_is_all (Ok _) what l a b n ks xs ys zs is long o after =
    ap (λ (zs : List Kept). xs ++ zs) after ∙ first_stay what l a b n xs ys long (subst (AreOver n) is o) ∙ sym (ap (map (kept_after what l a b)) is)
behind_is_all (Err _) what l a b n ks xs ys zs is long o after = tt

pub behind_tell_all : (r : Result (Unit {0}) NoMemory) (what : Passing) (a b n : ℕ) (ks xs ys : List Kept) (h i : SeenHolder) → ks ≡ xs ++ ys → length xs ≡ n → AreOver n ks
    → OnOk r (AreTold (told_to what (logs_of h) (of_sockets a b ys)) h i) → OnOk r (AreTold (told_to what (logs_of h) (of_sockets a b ks)) h i)
behind_tell_all (Ok _) what a b n ks xs ys h i is long o told =
    told_same (told_to what (logs_of h) (of_sockets a b ys)) (told_to what (logs_of h) (of_sockets a b ks)) h i same told
  where
    same : (e : EndName) → told_to what (logs_of h) (of_sockets a b ys) e ≡ told_to what (logs_of h) (of_sockets a b ks) e
    same e =
        first_tell what (logs_of h) a b n xs ys e long (subst (AreOver n) is o)
        ∙ sym (ap (λ (ks : List Kept). told_to what (logs_of h) (of_sockets a b ks) e) is)
behind_tell_all (Err _) what a b n ks xs ys h i is long o told = tt

-- ---- a pair that a call isn't about

others_stay : (what : Passing) (l : Logs) (a b : ℕ) (ks : List Kept) → is_between what a b ≡ false → ks ≡ map (kept_after what l a b) ks
others_stay what l a b [] other = refl
others_stay what l a b (k ∷ ks) other =
    ap (λ (ks : List Kept). k ∷ ks) (others_stay what l a b ks other)
    ∙ ap (λ (x : Kept). x ∷ map (kept_after what l a b) ks) (sym (quiet_stays what l a b k (others_are_quiet what l a b k other)))

others_tell : (what : Passing) (l : Logs) (a b : ℕ) (ks : List Kept) (e : EndName) → is_between what a b ≡ false → told_to what l (of_sockets a b ks) e ≡ []
others_tell what l a b [] e other = refl
others_tell what l a b (k ∷ ks) e other =
    quiet_tells what l a b k (of_sockets a b ks) e (others_are_quiet what l a b k other) ∙ others_tell what l a b ks e other

pub other_pair_stays : (what : Passing) (l : Logs) (p : SeenPair) → is_between what p.first p.second ≡ false → p ≡ pair_after what l p
other_pair_stays what l p other =
    ap (λ (ks : List Kept). record p { sockets = ks }) (others_stay what l p.first p.second p.sockets other)

pub other_pair_tells : (what : Passing) (p : SeenPair) (h : SeenHolder) → is_between what p.first p.second ≡ false
    → AreTold (told_to what (logs_of h) (of_pair p)) h h
other_pair_tells what p h other =
    told_same (λ e. []) (told_to what (logs_of h) (of_pair p)) h h (λ e. sym (others_tell what (logs_of h) p.first p.second p.sockets e other)) (told_nothing h)
