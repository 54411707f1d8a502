-- What the two ranks of a priority do: a letter that comes in joins the letters as its priority says, and one that
-- comes back is the first.
use Rattle.std.proofs.Common.{◌≡◌, ◌+◌, ◌<◌, ◌≤◌, Bool, true, false, List, [], ◌∷◌, ltb, refl, ap, arith}
use Rattle.std.specs.List.{AllByRecursion}
use Rattle.std.proofs.lemmas.Bool.Decides.{nat_tests}
use Rattle.m2_queues.specs.ByRank.{put_behind, IsFalling}
use Rattle.m2_queues.specs.PriorityQueue.{Ranked, joined, rank_of}
use Rattle.m2_queues.proofs.ByRank.{Falls}
use Rattle.m2_queues.proofs.Joining.{all-put_behind, falling}
use Rattle.m2_dispatch.specs.declared.letter.Letter.{Letter}
use Rattle.m2_dispatch.specs.Letters.{letter_priority}
use Rattle.m2_dispatch.specs.Waiting.{GoesFirst, IsOrdered, letters_in, lower_rank}

pub joined-letters : (l : Letter) (rs : List (Ranked Letter)) → IsOrdered rs → letters_in (joined (lower_rank l) l rs) ≡ put_behind letter_priority l (letters_in rs)
joined-letters l [] h = refl
joined-letters l (r ∷ rs) h = go (ltb (letter_priority r.item) (letter_priority l)) refl (joined-letters l rs h.3)
  where
    go : (b : Bool) → ltb (letter_priority r.item) (letter_priority l) ≡ b → letters_in (joined (lower_rank l) l rs) ≡ put_behind letter_priority l (letters_in rs)
        → letters_in (joined (lower_rank l) l (r ∷ rs)) ≡ put_behind letter_priority l (letters_in (r ∷ rs))
    go true e more =
        let less : letter_priority r.item < letter_priority l = grind (arith, nat_tests) in
        let under : r.rank < lower_rank l = omega (arith, h.1) in
        let test : ltb r.rank (lower_rank l) ≡ true = grind (arith, nat_tests) in
        rw (test, e) refl
    go false e more =
        let least : letter_priority l ≤ letter_priority r.item = grind (arith, nat_tests) in
        let over : lower_rank l ≤ r.rank = omega (arith, h.0) in
        let test : ltb r.rank (lower_rank l) ≡ false = grind (arith, nat_tests) in
        rw (test, e) (ap (λ ls. r.item ∷ ls) more)

-- what goes first of all of a rank goes first of those that go behind it
behind : (m l : Letter) → lower_rank m ≤ lower_rank l → (rs : List (Ranked Letter)) → GoesFirst m rs → GoesFirst l rs
behind m l le [] h = tt
behind m l le (r ∷ rs) h = (omega (arith, h.0), behind m l le rs h.1)

pub joined-ordered : (l : Letter) (rs : List (Ranked Letter)) → IsOrdered rs → IsOrdered (joined (lower_rank l) l rs)
joined-ordered l [] h = (omega arith, omega arith, tt, tt)
joined-ordered l (r ∷ rs) h = go (ltb r.rank (lower_rank l)) refl (joined-ordered l rs h.3)
  where
    go : (b : Bool) → ltb r.rank (lower_rank l) ≡ b → IsOrdered (joined (lower_rank l) l rs) → IsOrdered (joined (lower_rank l) l (r ∷ rs))
    go true e more =
        let under : r.rank < lower_rank l = grind (arith, nat_tests) in
        rw e (omega arith, omega arith, (omega arith, behind r.item l (omega (arith, h.0)) rs h.2), h)
    go false e more =
        let over : lower_rank l ≤ r.rank = grind (arith, nat_tests) in
        rw e (h.0, h.1, all-put_behind rank_of (λ (s : Ranked Letter). s.rank ≤ lower_rank r.item) (record { rank = lower_rank l; item = l }) rs (omega (arith, h.1)) h.2, more)

pub joined-first : (l : Letter) (rs : List (Ranked Letter)) → GoesFirst l rs → joined (lower_rank l + 1) l rs ≡ (record { rank = lower_rank l + 1; item = l }) ∷ rs
joined-first l [] h = refl
joined-first l (r ∷ rs) h =
    let under : r.rank < lower_rank l + 1 = omega (arith, h.0) in
    let test : ltb r.rank (lower_rank l + 1) ≡ true = grind (arith, nat_tests) in
    rw test refl

pub first-ordered : (l : Letter) (rs : List (Ranked Letter)) → GoesFirst l rs → IsOrdered rs → IsOrdered (joined (lower_rank l + 1) l rs)
first-ordered l rs h ordered = rw (joined-first l rs h) (omega arith, omega arith, h, ordered)

under : (l : Letter) (rs : List (Ranked Letter)) → GoesFirst l rs → IsOrdered rs → AllByRecursion (λ m. letter_priority m ≤ letter_priority l) (letters_in rs)
under l [] h ordered = tt
under l (r ∷ rs) h ordered = (omega (arith, h.0, ordered.0), under l rs h.1 ordered.3)

pub falls : (rs : List (Ranked Letter)) → IsOrdered rs → Falls letter_priority (letters_in rs)
falls [] h = tt
falls (r ∷ rs) h = (under r.item rs h.2 h.3, falls rs h.3)

pub greatest_first : (rs : List (Ranked Letter)) → IsOrdered rs → IsFalling letter_priority (letters_in rs)
greatest_first rs h = falling letter_priority (letters_in rs) (falls rs h)
