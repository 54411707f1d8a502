-- What is still to be sent, call by call.
use Rattle.std.proofs.Common.{◌≡◌, ℕ, ◌+◌, ◌-◌, zero, suc, ◌<◌, ◌≤◌, Bool, true, false, List, [], ◌∷◌, ◌++◌, length, take, drop, slice_get, Some, None, ltb, cond, refl, sym, ap, ◌∙◌, arith, append_assoc, add-one}
use Rattle.std.proofs.lemmas.List.{append-nil, take-append-drop, drop-append-le, drop-drop}
use Rattle.m2_queues.specs.OutQueues.{Queue, IsNumbered, after_next, after_sent, after_acked, next_number, cursor_number, due, unsent}
use Rattle.m2_queues.specs.QueueLaws.{KeepsNumbers}

-- the first past the n-th
pub first_behind : {X : Type 0} (n : ℕ) (xs ys : List X) → n < length xs → slice_get (drop n xs ++ ys) 0 ≡ slice_get xs n
first_behind zero [] ys h = absurd (omega arith)
first_behind zero (x ∷ xs) ys h = refl
first_behind (suc n) [] ys h = absurd (omega arith)
first_behind (suc n) (x ∷ xs) ys h = first_behind n xs ys (omega arith)

drop_one : {X : Type 0} (n : ℕ) (xs ys : List X) → n < length xs → drop (suc n) xs ++ ys ≡ drop 1 (drop n xs ++ ys)
drop_one zero [] ys h = absurd (omega arith)
drop_one zero (x ∷ xs) ys h = refl
drop_one (suc n) [] ys h = absurd (omega arith)
drop_one (suc n) (x ∷ xs) ys h = drop_one n xs ys (omega arith)

pub cursor_within : (q : Queue) → IsNumbered q → q.cursor ≤ length q.kept
cursor_within q h = omega (arith, h.sent, h.given)

-- the queue after the first that waits got its number
abbrev pub numbering : Queue → Queue
numbering q = record q { kept = q.kept ++ take 1 q.waiting; waiting = drop 1 q.waiting }

module _ (q : Queue) (within : q.cursor ≤ length q.kept) where
  -- the first so many of those that wait get their places
  pub next-places : (n : ℕ) × (due (after_next q) ≡ due q ++ take n q.waiting) × ((after_next q).waiting ≡ drop n q.waiting)
  next-places =
      elim (ltb q.cursor (length q.kept)) as (λ b. let p = cond b q (numbering q) in (n : ℕ) × (due p ≡ due q ++ take n q.waiting) × (p.waiting ≡ drop n q.waiting))
      [ true ↦ (0, sym (append-nil _), refl) | false ↦ (1, drop-append-le q.cursor q.kept (take 1 q.waiting) within, refl) ]

  pub unsent-next : unsent (after_next q) ≡ unsent q
  unsent-next =
      let n = next-places.0 in
      ap (λ l. l ++ (after_next q).waiting) next-places.1 ∙ ap (λ l. (due q ++ take n q.waiting) ++ l) next-places.2
      ∙ append_assoc (due q) (take n q.waiting) (drop n q.waiting) ∙ ap (λ l. due q ++ l) (take-append-drop n q.waiting)

-- what `next` leaves
pub cursor-next : (q : Queue) → (after_next q).cursor ≡ q.cursor
cursor-next q = elim (ltb q.cursor (length q.kept)) as (λ b. (cond b q (numbering q)).cursor ≡ q.cursor) [ true ↦ refl | false ↦ refl ]

pub base-next : (q : Queue) → (after_next q).base ≡ q.base
base-next q = elim (ltb q.cursor (length q.kept)) as (λ b. (cond b q (numbering q)).base ≡ q.base) [ true ↦ refl | false ↦ refl ]

pub keeps_numbers-next : (q : Queue) → KeepsNumbers q (after_next q)
keeps_numbers-next q =
    elim (ltb q.cursor (length q.kept)) as (λ b. KeepsNumbers q (cond b q (numbering q)))
    [ true ↦ record { keeps = refl; base = refl; written = refl; cursor = refl } | false ↦ record { keeps = refl; base = refl; written = refl; cursor = refl } ]

-- the number that `next` answers stands at the cursor
pub next-is_at_cursor : (q : Queue) (n : ℕ) → next_number q ≡ Some n → n ≡ cursor_number q
next-is_at_cursor q n e = is _ e
  where
    is : (b : Bool) → cond b (Some (cursor_number q)) None ≡ Some n → n ≡ cursor_number q
    is true f = cc
    is false f = cc

-- a message that was sent is the first that was still to be sent
pub unsent-sent : (q : Queue) → IsNumbered q → q.cursor < length q.kept → unsent (after_sent q) ≡ drop 1 (unsent q)
unsent-sent q h there = by_keeping q.keeps refl
  where
    by_keeping : (b : Bool) → q.keeps ≡ b → unsent (after_sent q) ≡ drop 1 (unsent q)
    by_keeping true e = rw (e, add-one) (drop_one q.cursor q.kept q.waiting there)
    by_keeping false e = let none : q.cursor ≡ 0 = h.unkept e in rw (e, none) (drop_one 0 q.kept q.waiting (omega arith))

-- an acknowledgement of what was sent leaves what is still to be sent
pub due-acked : (q : Queue) (n : ℕ) → n ≤ q.base + q.cursor → due (after_acked q n) ≡ due q
due-acked q n h = let e : (n - q.base) + (q.cursor - (n - q.base)) ≡ q.cursor = omega arith in rw (drop-drop, e)

pub unsent-acked : (q : Queue) (n : ℕ) → n ≤ q.base + q.cursor → unsent (after_acked q n) ≡ unsent q
unsent-acked q n h = ap (λ l. l ++ q.waiting) (due-acked q n h)
