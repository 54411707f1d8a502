-- The items of a strand, one after the other.
use Rattle.std.proofs.Common.{◌≡◌, ℕ, zero, suc, ◌+◌, ◌-◌, ◌<◌, ◌≤◌, max, ◌⊎◌, inl, inr, Bool, true, false, Some, None, List, [], ◌∷◌, ◌++◌, length, take, drop, map, refl, sym, ap, ◌∙◌, subst, arith, add-one}
use Rattle.std.specs.Prelude.{slice_get, slice_index_or, ◌||◌}
use Rattle.std.specs.List.{AllByRecursion, list_any}
use Rattle.std.proofs.lemmas.List.Folds.{list_any_more}
use Rattle.std.proofs.lemmas.List.{length-map, length-append, drop_more, drop_all, take_all}
use Rattle.m2_fabric.specs.declared.socket.SocketId.{SocketId}
use Rattle.m2_journal.specs.declared.entry.Entry.{Entry}
use Rattle.m2_weave.specs.declared.strand.StrandItem.{StrandItem}
use Rattle.m2_weave.specs.declared.strand.StrandItem.TheVariants.{Noted, Handed}
use Rattle.m2_weave.specs.Strands.{half_items, opens}
use Rattle.m2_bytes.proofs.m2_lemmas.Lists.{cons_same}

-- ---- how many a half has

part-count : (n : ℕ) (es : List Entry) → length (take n es) + length (drop n es) ≡ length es
part-count zero es = omega arith
part-count (suc n) [] = omega arith
part-count (suc n) (e ∷ es) = omega (arith, part-count n es)

pub half_count : (k : SocketId) (place : ℕ) (es : List Entry) (ns : List ℕ) → length (half_items k place es ns) ≡ length es + length ns
half_count k place es [] = omega (arith, length-map es Noted)
half_count k place es (n ∷ ns) =
    omega (
      arith,
      length-append (map Noted (take (n - place) es)) (Handed k ∷ half_items k (max n place) (drop (n - place) es) ns),
      length-map (take (n - place) es) Noted,
      half_count k (max n place) (drop (n - place) es) ns,
      part-count (n - place) es,
    )

-- ---- what comes next of a half

-- an ask that is handed on now
pub handed_now : (k : SocketId) (es : List Entry) (n : ℕ) (ns : List ℕ) (place : ℕ) → n ≤ place →
    half_items k place es (n ∷ ns) ≡ Handed k ∷ half_items k place es ns
handed_now k es n ns place h =
    ap (λ c. map Noted (take c es) ++ Handed k ∷ half_items k (max n place) (drop c es) ns) (let none : n - place ≡ 0 = omega (arith, h) in none)
    ∙ ap (λ p. Handed k ∷ half_items k p es ns) (let same : max n place ≡ place = omega (arith, h) in same)

-- an entry before it
pub noted_before : (k : SocketId) (e : Entry) (es : List Entry) (n : ℕ) (ns : List ℕ) (place : ℕ) → place < n →
    half_items k place (e ∷ es) (n ∷ ns) ≡ Noted e ∷ half_items k (suc place) es (n ∷ ns)
noted_before k e es n ns place h =
    ap (λ c. map Noted (take c (e ∷ es)) ++ Handed k ∷ half_items k (max n place) (drop c (e ∷ es)) ns) (let more : n - place ≡ suc (n - suc place) = omega (arith, h) in more)
    ∙ ap (λ p. Noted e ∷ (map Noted (take (n - suc place) es) ++ Handed k ∷ half_items k p (drop (n - suc place) es) ns)) (let same : max n place ≡ max n (suc place) = omega (arith, h) in same)

-- with no entry left all asks are handed on
no-entries : (k : SocketId) (n place : ℕ) (ns : List ℕ) → half_items k place [] (n ∷ ns) ≡ Handed k ∷ half_items k (max n place) [] ns
no-entries k n place ns =
    ap (λ (es : List Entry). map Noted es ++ Handed k ∷ half_items k (max n place) (drop (n - place) []) ns) (take_all (n - place) [] (omega arith))
    ∙ ap (λ (es : List Entry). Handed k ∷ half_items k (max n place) es ns) (drop_all (n - place) [] (omega arith))

any-place : (k : SocketId) (p q : ℕ) (ns : List ℕ) → half_items k p [] ns ≡ half_items k q [] ns
any-place k p q [] = refl
any-place k p q (n ∷ ns) = no-entries k n p ns ∙ ap (λ is. Handed k ∷ is) (any-place k (max n p) (max n q) ns) ∙ sym (no-entries k n q ns)

pub handed_last : (k : SocketId) (n place : ℕ) (ns : List ℕ) → half_items k place [] (n ∷ ns) ≡ Handed k ∷ half_items k place [] ns
handed_last k n place ns = no-entries k n place ns ∙ ap (λ is. Handed k ∷ is) (any-place k (max n place) place ns)

-- the next item is an ask, or an entry
pub hands_on : (k : SocketId) (es : List Entry) (asks ns : List ℕ) (n place : ℕ) → asks ≡ n ∷ ns → (n ≤ place) ⊎ (length es ≡ 0) →
    half_items k place es asks ≡ Handed k ∷ half_items k place es ns
hands_on k es asks ns n place split (inl h) = ap (half_items k place es) split ∙ handed_now k es n ns place h
hands_on k [] asks ns n place split (inr h) = ap (half_items k place []) split ∙ handed_last k n place ns
hands_on k (e ∷ es) asks ns n place split (inr h) = absurd (omega (arith, h))

pub notes : (k : SocketId) (es rest : List Entry) (e : Entry) (asks ns : List ℕ) (n place : ℕ) → es ≡ e ∷ rest → asks ≡ n ∷ ns → place < n →
    half_items k place es asks ≡ Noted e ∷ half_items k (place + 1) rest asks
notes k es rest e asks ns n place first split h =
    ap (λ xs. half_items k place xs asks) first ∙ ap (half_items k place (e ∷ rest)) split ∙ noted_before k e rest n ns place h
    ∙ ap (λ p. Noted e ∷ half_items k p rest (n ∷ ns)) (sym (add-one place)) ∙ ap (λ ms. Noted e ∷ half_items k (place + 1) rest ms) (sym split)

pub notes_last : (k : SocketId) (es rest : List Entry) (e : Entry) (asks : List ℕ) (place next : ℕ) → es ≡ e ∷ rest → length asks ≡ 0 →
    half_items k place es asks ≡ Noted e ∷ half_items k next rest asks
notes_last k es rest e [] place next first none = ap (λ xs. half_items k place xs []) first
notes_last k es rest e (n ∷ ns) place next first none = absurd (omega (arith, none))

-- those from a place on, of which the first stands there
pub left_at : (es : List Entry) (place : ℕ) (e : Entry) → slice_get es place ≡ Some e → drop place es ≡ e ∷ drop (place + 1) es
left_at es place e is = go es place is ∙ ap (λ n. e ∷ drop n es) (sym (add-one place))
  where
    go : (xs : List Entry) (n : ℕ) → slice_get xs n ≡ Some e → drop n xs ≡ e ∷ drop (suc n) xs
    go [] n is = absurd (cc is)
    go (x ∷ xs) zero is = let same : x ≡ e = cc is in ap (λ y. y ∷ xs) same
    go (x ∷ xs) (suc n) is = go xs n is

-- where none stands at a place there are no more
pub none_there : (es : List Entry) (place : ℕ) → slice_get es place ≡ None → length es ≤ place
none_there [] place is = omega arith
none_there (e ∷ es) zero is = absurd (cc is)
none_there (e ∷ es) (suc n) is = omega (arith, none_there es n is)

-- there are none behind the last
pub none_left : (es : List Entry) (place : ℕ) → length es ≤ place → length (drop place es) ≡ 0
none_left es place h = ap length (drop_all place es h)

-- ---- items that are still to come

-- the next of them is the one at the place at which they begin
pub next_at : (is left rest : List StrandItem) (n : ℕ) (i : StrandItem) → n < length is → left ≡ drop n is → left ≡ i ∷ rest →
    (i ≡ slice_index_or is n i) × (rest ≡ drop (n + 1) is)
next_at is left rest n i h at next = cons_same i (slice_index_or is n i) rest (drop (n + 1) is) (sym next ∙ at ∙ drop_more is n i h)

get-first : (n : ℕ) (is : List StrandItem) → slice_get (drop n is) 0 ≡ slice_get is n
get-first zero is = refl
get-first (suc n) [] = refl
get-first (suc n) (i ∷ is) = get-first n is

pub next_got : (is left rest : List StrandItem) (n place : ℕ) (i : StrandItem) → n ≡ place → left ≡ drop n is → left ≡ i ∷ rest → Some i ≡ slice_get is place
next_got is left rest n place i there at next =
    ap (λ l. slice_get l 0) (sym next) ∙ ap (λ l. slice_get l 0) at ∙ get-first n is ∙ ap (slice_get is) there

-- one more is open
either : (a b : Bool) → (a || b) ≡ (b || a)
either true true = refl
either true false = refl
either false true = refl
either false false = refl

pub opened_more : (k : SocketId) (is : List StrandItem) (n : ℕ) (d : StrandItem) (new old : Bool) → n < length is →
    new ≡ (opens k (slice_index_or is n d) || old) → old ≡ list_any (opens k) (take n is) → new ≡ list_any (opens k) (take (n + 1) is)
opened_more k is n d new old h set before =
    set ∙ either (opens k (slice_index_or is n d)) old ∙ ap (λ b. b || opens k (slice_index_or is n d)) before ∙ sym (list_any_more (opens k) is n d h)

-- one more is so
pub all_more : (P : StrandItem → Type 0) (is : List StrandItem) (n : ℕ) (d : StrandItem) → n < length is → AllByRecursion P (take n is) → P (slice_index_or is n d) →
    AllByRecursion P (take (n + 1) is)
all_more P is n d h all this = subst (λ m. AllByRecursion P (take m is)) (sym (add-one n)) (go n is h all this)
  where
    go : (n : ℕ) (is : List StrandItem) → n < length is → AllByRecursion P (take n is) → P (slice_index_or is n d) → AllByRecursion P (take (suc n) is)
    go n [] h all this = absurd (omega (arith, h))
    go zero (i ∷ is) h all this = (this, tt)
    go (suc n) (i ∷ is) h all this = (all.0, go n is (omega (arith, h)) all.1 this)
