-- The strand of a half that goes on goes on.
use Rattle.std.proofs.Common.{◌≡◌, ℕ, zero, suc, ◌+◌, ◌-◌, ◌≤◌, max, Bool, false, ◌||◌, List, [], ◌∷◌, ◌++◌, length, map, take, drop, refl, sym, ap, ◌∙◌, subst, arith, append_assoc}
use Rattle.std.specs.List.{AllByRecursion, list_any}
use Rattle.std.proofs.lemmas.List.{length-drop, map-append}
use Rattle.m2_fabric.specs.declared.socket.SocketId.{SocketId}
use Rattle.m2_history.proofs.Tidiness.{all_in}
use Rattle.m2_history.specs.HalfStrands.{strand_of}
use Rattle.m2_history.specs.Link.{IsOnSocket}
use Rattle.m2_weave.specs.m2_journal.declared.entry.Entry.{Entry}
use Rattle.m2_weave.specs.m2_journal.declared.entry.Entry.TheVariants as entry
use Rattle.m2_history.specs.m2_trail.Trails.{TrailNow, RisesWithin}
use Rattle.m2_links_go_on.specs.Sides.{HalfGoesOn, IsHalf}
use Rattle.m2_weave.specs.Later.{GoesOn}
use Rattle.m2_weave.specs.declared.strand.StrandItem.TheVariants.{Noted, Handed}
use Rattle.m2_weave.specs.Strands.{half_items, has_opened, opens}
use Rattle.m2_history.proofs.m2_trail.Judged.{least_first}
use Rattle.m2_fabric.proofs.m2_lemmas.Lists.{all_so}

-- ---- lists that go on

take-within : (n : ℕ) (xs more : List Entry) → n ≤ length xs → take n (xs ++ more) ≡ take n xs
take-within zero xs more h = refl
take-within (suc n) [] more h = absurd (omega (arith, h))
take-within (suc n) (x ∷ xs) more h = ap (λ l. x ∷ l) (take-within n xs more (omega (arith, h)))

drop-within : (n : ℕ) (xs more : List Entry) → n ≤ length xs → drop n (xs ++ more) ≡ drop n xs ++ more
drop-within zero xs more h = refl
drop-within (suc n) [] more h = absurd (omega (arith, h))
drop-within (suc n) (x ∷ xs) more h = drop-within n xs more (omega (arith, h))

take-beyond : (n : ℕ) (xs more : List Entry) → length xs ≤ n → (rest : List Entry) × (take n (xs ++ more) ≡ xs ++ rest)
take-beyond n [] more h = (take n more, refl)
take-beyond zero (x ∷ xs) more h = absurd (omega (arith, h))
take-beyond (suc n) (x ∷ xs) more h = let rest = take-beyond n xs more (omega (arith, h)) in (rest.0, ap (λ l. x ∷ l) rest.1)

-- behind a first part that stays
behind-on : {X : Type 0} (first : List X) (x : X) (old new : List X) → GoesOn old new → GoesOn (first ++ x ∷ old) (first ++ x ∷ new)
behind-on first x old new on = (on.0, ap (λ l. first ++ x ∷ l) on.1 ∙ sym (append_assoc first (x ∷ old) on.0))

-- ---- its items

max-of : (n place : ℕ) → place ≤ n → max n place ≡ n
max-of n place h = omega (arith, h)

no-more-asks : (k : SocketId) (place : ℕ) (es more : List Entry) (ms : List ℕ) → AllByRecursion (λ (n : ℕ). place + length es ≤ n) ms →
    GoesOn (map Noted es) (half_items k place (es ++ more) ms)
no-more-asks k place es more [] h = (map Noted more, map-append Noted es more)
no-more-asks k place es more (m ∷ ms) h =
    let rest = take-beyond (m - place) es more (omega (arith, h.0)) in
    let later = Handed k ∷ half_items k (max m place) (drop (m - place) (es ++ more)) ms in (
      map Noted rest.0 ++ later,
      ap (λ l. map Noted l ++ later) rest.1 ∙ ap (λ l. l ++ later) (map-append Noted es rest.0) ∙ append_assoc (map Noted es) (map Noted rest.0) later,
    )

pub items_on : (k : SocketId) (ns : List ℕ) (place : ℕ) (es more : List Entry) (ms : List ℕ) → RisesWithin place ns (place + length es) →
    AllByRecursion (λ (n : ℕ). place + length es ≤ n) ms → GoesOn (half_items k place es ns) (half_items k place (es ++ more) (ns ++ ms))
items_on k [] place es more ms rises h = no-more-asks k place es more ms h
items_on k (n ∷ ns) place es more ms rises h =
    let most : n ≤ place + length es = least_first n ns (place + length es) rises.1 in
    let short : n - place ≤ length es = omega (arith, most) in
    let same : n + length (drop (n - place) es) ≡ place + length es = omega (arith, length-drop (n - place) es, rises.0, most) in
    let rest = items_on k ns n (drop (n - place) es) more ms (subst (RisesWithin n ns) (sym same) rises.1)
    (subst (λ c. AllByRecursion (λ (x : ℕ). c ≤ x) ms) (sym same) h) in
    let its = max-of n place rises.0 in
    subst (λ first. GoesOn (map Noted (take (n - place) es) ++ Handed k ∷ half_items k (max n place) (drop (n - place) es) ns) (map Noted first ++ Handed k ∷ half_items k (max n place) (drop (n - place) (es ++ more)) (ns ++ ms)))
    (sym (take-within (n - place) es more short))
    (behind-on (map Noted (take (n - place) es)) (Handed k) (half_items k (max n place) (drop (n - place) es) ns) (half_items k (max n place) (drop (n - place) (es ++ more)) (ns ++ ms))
    (subst (λ p. GoesOn (half_items k p (drop (n - place) es) ns) (half_items k p (drop (n - place) (es ++ more)) (ns ++ ms))) (sym its)
    (subst (λ l. GoesOn (half_items k n (drop (n - place) es) ns) (half_items k n l (ns ++ ms))) (sym (drop-within (n - place) es more short)) rest)))

pub half_on_goes : (t u : TrailNow) → IsHalf t → u.socket ≡ t.socket → HalfGoesOn t u → GoesOn (strand_of t).items (strand_of u).items
half_on_goes t u half same on =
    subst (λ k. GoesOn (strand_of t).items (half_items k 0 u.entries u.judged_after)) (sym same)
    (subst (λ es. GoesOn (strand_of t).items (half_items t.socket 0 es u.judged_after)) (sym on.entries.1)
    (subst (λ ns. GoesOn (strand_of t).items (half_items t.socket 0 (t.entries ++ on.entries.0) ns)) (sym on.asks.1)
    (items_on t.socket t.judged_after 0 t.entries on.entries.0 on.asks.0
    (subst (RisesWithin 0 t.judged_after) (omega arith) half.rising)
    (subst (λ c. AllByRecursion (λ (n : ℕ). c ≤ n) on.asks.0) (omega arith) on.behind))))

-- ---- a half opens no socket

not-opening : (k x : SocketId) (e : Entry) → IsOnSocket x e → opens k (Noted e) ≡ false
not-opening k x (entry.Read y count) h = refl
not-opening k x (entry.Wrote y count) h = refl
not-opening k x (entry.Closed y) h = refl
not-opening k x (entry.Post place) h = absurd h
not-opening k x entry.Dial h = absurd h
not-opening k x (entry.Opened y) h = absurd h
not-opening k x (entry.Judged y ask number answer) h = absurd h
not-opening k x (entry.Asked ident number) h = absurd h
not-opening k x (entry.Numbered number) h = absurd h
not-opening k x (entry.Accepted number key) h = absurd h
not-opening k x (entry.Acked number) h = absurd h
not-opening k x (entry.Obeyed full) h = absurd h
not-opening k x (entry.Down planned) h = absurd h

none-any : {X : Type 0} (f : X → Bool) (xs : List X) → AllByRecursion (λ x. f x ≡ false) xs → list_any f xs ≡ false
none-any f [] h = refl
none-any f (x ∷ xs) h = ap (λ b. b || list_any f xs) h.0 ∙ none-any f xs h.1

pub never_opens : (t : TrailNow) (k : SocketId) → IsHalf t → has_opened (strand_of t) k ≡ false
never_opens t k half =
    none-any (opens k) (strand_of t).items
    (all_in (λ i. opens k i ≡ false) t.socket refl t.judged_after 0 t.entries (all_so (IsOnSocket t.socket) (λ e. opens k (Noted e) ≡ false) (not-opening k t.socket) t.entries half.entries))
