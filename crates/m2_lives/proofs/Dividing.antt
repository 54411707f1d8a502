-- What a side hands on is divided into stretches, between two of which what wasn't dispatched is thrown away. Each stretch has whole
-- lives, so pieces of the stretches are pieces of the lives.
use Rattle.std.proofs.Common.{◌≡◌, ◌≢◌, ℕ, ◌⊎◌, inl, inr, ◌==◌, if◌then◌else◌, List, [], ◌∷◌, ◌++◌, map, refl, sym, ap, subst, ◌∙◌, append-nil, append_assoc}
use Rattle.std.specs.List.{AllByRecursion, flat_map}
use Rattle.std.proofs.lemmas.Bool.{eq-eqb}
use Rattle.std.proofs.lemmas.Grind.{flat_map-append}
use Rattle.std.proofs.lemmas.List.{map-append}
use Rattle.std.proofs.lemmas.List.Elements.{filter-append}
use Rattle.m2_bytes_fit.proofs.Lists.{cons_is_some}
use Rattle.m2_journal.specs.State as state
use Rattle.m2_journal.specs.State.{Delivery}
use Rattle.m2_journal.specs.m2_message.Message.{Content}
use Rattle.m2_journal.specs.m2_policy.declared.path.Key.{Key}
use Rattle.m2_journal.proofs.m2_lemmas.Lists.{all_back, all_front, cons_same}
use Rattle.m2_lives.specs.Lives.{IsNewName, LifeMessage, of_life}
use Rattle.m2_lives.specs.LivesLaws.{AreNames, ArePiecesOf}
use Rattle.m2_lives.specs.Observed.{into_first, stretches}
use Rattle.m2_lives.specs.ObservedRun.{in_life}
use Rattle.m2_lives.proofs.Delivered.{one, not_same}
use Rattle.m2_lives.proofs.Showing.{last_is_new}

-- ---- lists

pub last_same : {X : Type 0} (xs ys : List X) (x y : X) → xs ++ x ∷ [] ≡ ys ++ y ∷ [] → (xs ≡ ys) × (x ≡ y)
last_same [] [] x y e = (refl, (cons_same x y [] [] e).0)
last_same {X} [] (z ∷ ys) x y e = absurd (none ys (cons_same x z [] (ys ++ y ∷ []) e).1)
  where
    none : (zs : List X) → [] ≡ zs ++ y ∷ [] → ⊥
    none [] g = cons_is_some y [] (sym g)
    none (w ∷ ws) g = cons_is_some w (ws ++ y ∷ []) (sym g)
last_same {X} (z ∷ xs) [] x y e = absurd (none xs (cons_same z y (xs ++ x ∷ []) [] e).1)
  where
    none : (zs : List X) → zs ++ x ∷ [] ≡ [] → ⊥
    none [] g = cons_is_some x [] g
    none (w ∷ ws) g = cons_is_some w (ws ++ x ∷ []) g
last_same (z ∷ xs) (w ∷ ys) x y e =
    let it = cons_same z w (xs ++ x ∷ []) (ys ++ y ∷ []) e in
    let rest = last_same xs ys x y it.1 in
    (ap (λ l. z ∷ l) rest.0 ∙ ap (λ v. v ∷ ys) it.0, rest.1)

abbrev pub joined : {X : Type 0} → List (List X) → List X
joined ls = flat_map (λ l. l) ls

pub joined_last : {X : Type 0} (ls : List (List X)) (l : List X) → joined (ls ++ l ∷ []) ≡ joined ls ++ l
joined_last [] l = append-nil l
joined_last (k ∷ ls) l = ap (λ z. k ++ z) (joined_last ls l) ∙ sym (append_assoc k (joined ls) l)

-- ---- the messages of lives

abbrev pub gathered : List LifeMessage → List ℕ → List LifeMessage
gathered xs ns = flat_map (λ n. in_life n xs) ns

pub life_more : (n life : ℕ) (key : Key) (m : Content) (xs : List LifeMessage) → life ≢ n → in_life n (xs ++ one life key m ∷ []) ≡ in_life n xs
life_more n life key m xs apart =
    filter-append (λ (x : LifeMessage). x.life == n) xs (one life key m ∷ [])
    ∙ ap (λ b. in_life n xs ++ (if b then one life key m ∷ [] else [])) (not_same life n apart) ∙ append-nil (in_life n xs)

pub its_life_more : (life : ℕ) (key : Key) (m : Content) (xs : List LifeMessage) → in_life life (xs ++ one life key m ∷ []) ≡ in_life life xs ++ one life key m ∷ []
its_life_more life key m xs =
    filter-append (λ (x : LifeMessage). x.life == life) xs (one life key m ∷ []) ∙ ap (λ b. in_life life xs ++ (if b then one life key m ∷ [] else [])) (eq-eqb life life refl)

gathered_others : (life : ℕ) (key : Key) (m : Content) (xs : List LifeMessage) (ns : List ℕ) → AllByRecursion (λ n. n ≢ life) ns → gathered (xs ++ one life key m ∷ []) ns ≡ gathered xs ns
gathered_others life key m xs [] h = refl
gathered_others life key m xs (n ∷ ns) h =
    ap (λ l. l ++ gathered (xs ++ one life key m ∷ []) ns) (life_more n life key m xs (λ e. h.0 (sym e))) ∙ ap (λ l. in_life n xs ++ l) (gathered_others life key m xs ns h.1)

all_gathered_others : (life : ℕ) (key : Key) (m : Content) (xs : List LifeMessage) (groups : List (List ℕ)) → AllByRecursion (λ n. n ≢ life) (joined groups) →
    map (gathered (xs ++ one life key m ∷ [])) groups ≡ map (gathered xs) groups
all_gathered_others life key m xs [] h = refl
all_gathered_others life key m xs (ns ∷ groups) h =
    ap (λ l. l ∷ map (gathered (xs ++ one life key m ∷ [])) groups) (gathered_others life key m xs ns (all_front (λ n. n ≢ life) ns (joined groups) h))
    ∙ ap (λ l. gathered xs ns ∷ l) (all_gathered_others life key m xs groups (all_back (λ n. n ≢ life) ns (joined groups) h))

-- a life of which nothing was accepted
no_life : (n : ℕ) (xs : List LifeMessage) → of_life n xs ≡ [] → in_life n xs ≡ []
no_life n xs e = at (in_life n xs) e
  where
    at : (ys : List LifeMessage) → map (λ (x : LifeMessage). x.message) ys ≡ [] → ys ≡ []
    at [] g = refl
    at (y ∷ ys) g = absurd (cons_is_some y.message (map (λ (x : LifeMessage). x.message) ys) g)

-- ---- the last stretch

pub record Ends (ds : List Delivery) : Type 0 where
  pub front : List (List LifeMessage)
  pub last : List LifeMessage
  pub is : stretches ds ≡ front ++ last ∷ []
  pub letter : (n life : ℕ) (key : Key) (m : Content) → stretches (ds ++ state.letter n life key m ∷ []) ≡ front ++ (last ++ one life key m ∷ []) ∷ []
  pub thrown : stretches (ds ++ state.discarded ∷ []) ≡ (front ++ last ∷ []) ++ [] ∷ []

first_into : (x : LifeMessage) (front : List (List LifeMessage)) (last : List LifeMessage) →
    (front' : List (List LifeMessage)) × (last' : List LifeMessage) × (into_first x (front ++ last ∷ []) ≡ front' ++ last' ∷ [])
    × ((y : LifeMessage) → into_first x (front ++ (last ++ y ∷ []) ∷ []) ≡ front' ++ (last' ++ y ∷ []) ∷ [])
    × (into_first x ((front ++ last ∷ []) ++ [] ∷ []) ≡ (front' ++ last' ∷ []) ++ [] ∷ [])
first_into x [] last = ([], x ∷ last, refl, λ y. refl, refl)
first_into x (f ∷ front) last = ((x ∷ f) ∷ front, last, refl, λ y. refl, refl)

pub ends : (ds : List Delivery) → Ends ds
ends [] = record { front = []; last = []; is = refl; letter = λ n life key m. refl; thrown = refl }
ends (state.letter k u l c ∷ ds) =
    let it = ends ds in
    let x = one u l c in
    let into = first_into x it.front it.last in
    record {
      front = into.0;
      last = into.1;
      is = ap (into_first x) it.is ∙ into.2;
      letter = λ n life key m. ap (into_first x) (it.letter n life key m) ∙ into.3 (one life key m);
      thrown = ap (into_first x) it.thrown ∙ into.4;
    }
ends (state.discarded ∷ ds) =
    let it = ends ds in
    record {
      front = [] ∷ it.front;
      last = it.last;
      is = ap (λ l. [] ∷ l) it.is;
      letter = λ n life key m. ap (λ l. [] ∷ l) (it.letter n life key m);
      thrown = ap (λ l. [] ∷ l) it.thrown;
    }
ends (state.remote_reset ∷ ds) = let it = ends ds in record { front = it.front; last = it.last; is = it.is; letter = it.letter; thrown = it.thrown }

told_same : (ds : List Delivery) → stretches (ds ++ state.remote_reset ∷ []) ≡ stretches ds
told_same [] = refl
told_same (state.letter k u l c ∷ ds) = ap (into_first (one u l c)) (told_same ds)
told_same (state.discarded ∷ ds) = ap (λ l. [] ∷ l) (told_same ds)
told_same (state.remote_reset ∷ ds) = told_same ds

-- ---- groups of lives

-- The lives by their names, and what was accepted: each stretch has that of the lives of a group.
pub record Divided (ds : List Delivery) (ns : List ℕ) (xs : List LifeMessage) : Type 0 where
  pub groups : List (List ℕ)
  pub before : List ℕ
  pub name : ℕ
  pub names : ns ≡ joined groups ++ (before ++ name ∷ [])
  pub stretched : stretches ds ≡ map (gathered xs) groups ++ gathered xs (before ++ name ∷ []) ∷ []

pub divided_start : Divided [] (0 ∷ []) []
divided_start = record { groups = []; before = []; name = 0; names = refl; stretched = refl }

pub divided_letter : (ds : List Delivery) (ns : List ℕ) (xs : List LifeMessage) (n life : ℕ) (key : Key) (m : Content) (d : Divided ds ns xs) → AreNames ns → life ≢ 0 → d.name ≡ life →
    Divided (ds ++ state.letter n life key m ∷ []) ns (xs ++ one life key m ∷ [])
divided_letter ds ns xs n life key m d named kept is = record { groups = d.groups; before = d.before; name = d.name; names = d.names; stretched = stretched }
  where
    x : LifeMessage
    x = one life key m

    apart : AllByRecursion (λ k. k ≢ life) (joined d.groups ++ d.before)
    apart = at (last_is_new (joined d.groups ++ d.before) life (subst AreNames (d.names ∙ ap (λ k. joined d.groups ++ (d.before ++ k ∷ [])) is ∙ sym (append_assoc (joined d.groups) d.before (life ∷ []))) named))
      where
        at : IsNewName life (joined d.groups ++ d.before) → AllByRecursion (λ k. k ≢ life) (joined d.groups ++ d.before)
        at (inl z) = absurd (kept z)
        at (inr all) = all

    own : gathered (xs ++ x ∷ []) (life ∷ []) ≡ gathered xs (life ∷ []) ++ x ∷ []
    own = append-nil (in_life life (xs ++ x ∷ [])) ∙ its_life_more life key m xs ∙ ap (λ l. l ++ x ∷ []) (sym (append-nil (in_life life xs)))

    last : gathered (xs ++ x ∷ []) (d.before ++ d.name ∷ []) ≡ gathered xs (d.before ++ d.name ∷ []) ++ x ∷ []
    last =
        ap (λ k. gathered (xs ++ x ∷ []) (d.before ++ k ∷ [])) is
        ∙ flat_map-append (λ k. in_life k (xs ++ x ∷ [])) d.before (life ∷ [])
        ∙ ap (λ l. l ++ gathered (xs ++ x ∷ []) (life ∷ [])) (gathered_others life key m xs d.before (all_back (λ k. k ≢ life) (joined d.groups) d.before apart))
        ∙ ap (λ l. gathered xs d.before ++ l) own
        ∙ sym (append_assoc (gathered xs d.before) (gathered xs (life ∷ [])) (x ∷ []))
        ∙ ap (λ l. l ++ x ∷ []) (sym (flat_map-append (λ k. in_life k xs) d.before (life ∷ [])))
        ∙ ap (λ k. gathered xs (d.before ++ k ∷ []) ++ x ∷ []) (sym is)

    stretched : stretches (ds ++ state.letter n life key m ∷ []) ≡ map (gathered (xs ++ x ∷ [])) d.groups ++ gathered (xs ++ x ∷ []) (d.before ++ d.name ∷ []) ∷ []
    stretched =
        let e = ends ds in
        let both = last_same e.front (map (gathered xs) d.groups) e.last (gathered xs (d.before ++ d.name ∷ [])) (sym e.is ∙ d.stretched) in
        e.letter n life key m ∙ ap (λ l. l ++ (e.last ++ x ∷ []) ∷ []) both.0 ∙ ap (λ l. map (gathered xs) d.groups ++ (l ++ x ∷ []) ∷ []) both.1
        ∙ ap (λ l. map (gathered xs) d.groups ++ l ∷ []) (sym last)
        ∙ ap (λ l. l ++ gathered (xs ++ x ∷ []) (d.before ++ d.name ∷ []) ∷ []) (sym (all_gathered_others life key m xs d.groups (all_front (λ k. k ≢ life) (joined d.groups) d.before apart)))

pub divided_anew : (ds : List Delivery) (ns : List ℕ) (xs : List LifeMessage) (name : ℕ) → of_life name xs ≡ [] → Divided ds ns xs → Divided ds (ns ++ name ∷ []) xs
divided_anew ds ns xs name unheard d = record {
  groups = d.groups;
  before = d.before ++ d.name ∷ [];
  name = name;
  names = ap (λ l. l ++ name ∷ []) d.names ∙ append_assoc (joined d.groups) (d.before ++ d.name ∷ []) (name ∷ []);
  stretched = d.stretched ∙ ap (λ l. map (gathered xs) d.groups ++ l ∷ []) (sym (
      flat_map-append (λ k. in_life k xs) (d.before ++ d.name ∷ []) (name ∷ []) ∙ ap (λ l. gathered xs (d.before ++ d.name ∷ []) ++ l) (append-nil (in_life name xs) ∙ no_life name xs unheard) ∙ append-nil (gathered xs (d.before ++ d.name ∷ []))));
}

pub divided_thrown : (ds : List Delivery) (ns : List ℕ) (xs : List LifeMessage) (name : ℕ) → of_life name xs ≡ [] → Divided ds ns xs → Divided (ds ++ state.discarded ∷ []) (ns ++ name ∷ []) xs
divided_thrown ds ns xs name unheard d = record {
  groups = d.groups ++ (d.before ++ d.name ∷ []) ∷ [];
  before = [];
  name = name;
  names = ap (λ l. l ++ name ∷ []) (d.names ∙ sym (joined_last d.groups (d.before ++ d.name ∷ [])));
  stretched =
      let e = ends ds in
      e.thrown ∙ ap (λ l. l ++ [] ∷ []) (sym e.is ∙ d.stretched ∙ sym (map-append (gathered xs) d.groups ((d.before ++ d.name ∷ []) ∷ [])))
      ∙ ap (λ l. map (gathered xs) (d.groups ++ (d.before ++ d.name ∷ []) ∷ []) ++ l ∷ []) (sym (append-nil (in_life name xs) ∙ no_life name xs unheard));
}

pub divided_told : (ds : List Delivery) (ns : List ℕ) (xs : List LifeMessage) → Divided ds ns xs → Divided (ds ++ state.remote_reset ∷ []) ns xs
divided_told ds ns xs d = record { groups = d.groups; before = d.before; name = d.name; names = d.names; stretched = told_same ds ∙ d.stretched }

-- ---- pieces

-- a part in front lies within the first one, or goes beyond it
pub front_split : {X : Type 0} (xs ys ps ls : List X) → xs ++ ys ≡ ps ++ ls → ((more : List X) × (xs ≡ ps ++ more)) ⊎ ((more : List X) × (ps ≡ xs ++ more) × (ys ≡ more ++ ls))
front_split [] ys ps ls e = inr (ps, refl, e)
front_split (x ∷ xs) ys [] ls e = inl (x ∷ xs, refl)
front_split {X} (x ∷ xs) ys (p ∷ ps) ls e = let it = cons_same x p (xs ++ ys) (ps ++ ls) e in at it.0 (front_split xs ys ps ls it.1)
  where
    at : x ≡ p → ((more : List X) × (xs ≡ ps ++ more)) ⊎ ((more : List X) × (ps ≡ xs ++ more) × (ys ≡ more ++ ls)) →
        ((more : List X) × (x ∷ xs ≡ (p ∷ ps) ++ more)) ⊎ ((more : List X) × (p ∷ ps ≡ (x ∷ xs) ++ more) × (ys ≡ more ++ ls))
    at same (inl (more, g)) = inl (more, ap (λ l. x ∷ l) g ∙ ap (λ z. z ∷ (ps ++ more)) same)
    at same (inr (more, g, k)) = inr (more, ap (λ l. p ∷ l) g ∙ ap (λ z. z ∷ (xs ++ more)) (sym same), k)

-- of lists that are cut alike
module _ {X N : Type 0} (cut : List X → List X) (none : cut [] ≡ []) (alike : (xs ys : List X) → cut (xs ++ ys) ≡ cut xs ++ cut ys) (of : N → List X) where
  -- the pieces of a group
  pub cuts : (ns : List N) (more : List (List X)) (piece left rest : List X) → cut (flat_map of ns) ≡ piece ++ left → ArePiecesOf rest more → ArePiecesOf (piece ++ rest) (map (λ n. cut (of n)) ns ++ more)
  cuts [] more piece left rest e h = subst (λ l. ArePiecesOf (l ++ rest) more) (sym (front piece left (sym e ∙ none))) h
    where
      front : (xs ys : List X) → xs ++ ys ≡ [] → xs ≡ []
      front [] ys g = refl
      front (x ∷ xs) ys g = absurd (cons_is_some x (xs ++ ys) g)
  cuts (n ∷ ns) more piece left rest e h =
      at (front_split (cut (of n)) (cut (flat_map of ns)) piece left (sym (alike (of n) (flat_map of ns)) ∙ e)) (λ front behind q. cuts ns more front behind rest q h)
    where
      at : ((m : List X) × (cut (of n) ≡ piece ++ m)) ⊎ ((m : List X) × (piece ≡ cut (of n) ++ m) × (cut (flat_map of ns) ≡ m ++ left)) →
          ((front behind : List X) → cut (flat_map of ns) ≡ front ++ behind → ArePiecesOf (front ++ rest) (map (λ k. cut (of k)) ns ++ more)) →
          ArePiecesOf (piece ++ rest) (cut (of n) ∷ (map (λ k. cut (of k)) ns ++ more))
      at (inl (m, g)) on = (piece, rest, m, refl, g, on [] (cut (flat_map of ns)) refl)
      at (inr (m, g, k)) on = (cut (of n), m ++ rest, [], ap (λ l. l ++ rest) g ∙ append_assoc (cut (of n)) m rest, sym (append-nil (cut (of n))), on m left k)

  pub cut_apart : (groups : List (List N)) (xs : List X) → ArePiecesOf xs (map cut (map (flat_map of) groups)) → ArePiecesOf xs (map (λ n. cut (of n)) (joined groups))
  cut_apart [] xs h = h
  cut_apart (ns ∷ groups) xs (piece, rest, left, e, g, more) =
      subst (λ l. ArePiecesOf xs l) (sym (map-append (λ n. cut (of n)) ns (joined groups)))
      (subst (λ l. ArePiecesOf l (map (λ n. cut (of n)) ns ++ map (λ n. cut (of n)) (joined groups))) (sym e) (cuts ns (map (λ n. cut (of n)) (joined groups)) piece left rest g (cut_apart groups rest more)))

-- the pieces of the stretches are pieces of the lives
pub by_lives : (cut : List LifeMessage → List LifeMessage) → cut [] ≡ [] → ((xs ys : List LifeMessage) → cut (xs ++ ys) ≡ cut xs ++ cut ys) → (ds : List Delivery) (ns : List ℕ) (xs given : List LifeMessage) → Divided ds ns xs →
    ArePiecesOf given (map cut (stretches ds)) → ArePiecesOf given (map (λ n. cut (in_life n xs)) ns)
by_lives cut none alike ds ns xs given d h =
    subst (λ l. ArePiecesOf given (map (λ n. cut (in_life n xs)) l)) (joined_last d.groups (d.before ++ d.name ∷ []) ∙ sym d.names)
    (cut_apart cut none alike (λ n. in_life n xs) (d.groups ++ (d.before ++ d.name ∷ []) ∷ []) given
    (subst (λ l. ArePiecesOf given (map cut l)) (d.stretched ∙ sym (map-append (gathered xs) d.groups ((d.before ++ d.name ∷ []) ∷ []))) h))
