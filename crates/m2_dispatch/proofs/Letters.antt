-- Lists of letters: the first one, whose letters they are, and what is granted for them.
use Rattle.std.proofs.Common.{◌≡◌, ℕ, ◌+◌, ◌≤◌, true, false, not, Some, None, List, [], ◌∷◌, ◌++◌, drop, take, length, ltb, refl, sym, ap, ◌∙◌, arith}
use Rattle.std.specs.List.{AllByRecursion}
use Rattle.std.specs.Option.{unwrap_or}
use Rattle.std.proofs.lemmas.Bool.Decides.{nat_tests}
use Rattle.std.proofs.lemmas.List.Elements.{All-from_recursion, recursion_from_All, All-filter}
use Rattle.std.proofs.lemmas.List.Sums.{sum_by-cons}
use Rattle.m2_queues.specs.ByRank.{put_behind}
use Rattle.m2_queues.proofs.ByRank.{Falls}
use Rattle.m2_queues.proofs.Joining.{all-put_behind}
use Rattle.m2_shared.specs.Gates.{Gate, Places, held}
use Rattle.m2_queues.specs.PriorityQueue.{Ranked}
use Rattle.m2_dispatch.specs.declared.letter.Letter.{Letter}
use Rattle.m2_dispatch.specs.declared.parcel.Parcel.{Parcel}
use Rattle.m2_dispatch.specs.declared.parcel.Parcel.TheVariants.{Discard, RemoteReset}
use Rattle.m2_dispatch.specs.declared.parcel.Parcel.TheVariants as parcel
use Rattle.m2_dispatch.specs.Letters.{AreOwned, IsOwnedLetter, first_of, granted, granted_for, is_of_peer, letter_priority, of_peer, others}
use Rattle.m2_dispatch.specs.Parcel.{AllOwned, IsOwned, after_put, letters_on}
use Rattle.m2_dispatch.specs.Waiting.{letters_in}

pub first-is : (ls : List Letter) (l : Letter) → Some l ≡ first_of ls → ls ≡ l ∷ drop 1 ls
first-is [] l e = absurd (let no_letter : Some l ≡ None = e in cc)
first-is (m ∷ ls) l e = ap (λ x. x ∷ ls) (sym (ap (λ o. unwrap_or o l) e))

pub none-is : (ls : List Letter) → None ≡ first_of ls → ls ≡ []
none-is [] e = refl
none-is (l ∷ ls) e = absurd (let no_letter : None ≡ Some l = e in cc)

-- all are owned, by recursion
by_recursion : (place : Places) (ls : List Letter) → AreOwned place ls → AllByRecursion (IsOwnedLetter place) ls
by_recursion place ls h = recursion_from_All (IsOwnedLetter place) ls h

by_index : (place : Places) (ls : List Letter) → AllByRecursion (IsOwnedLetter place) ls → AreOwned place ls
by_index place ls h = All-from_recursion (IsOwnedLetter place) ls h

pub owned-first : (place : Places) (l : Letter) (ls : List Letter) → AreOwned place (l ∷ ls) → IsOwnedLetter place l
owned-first place l ls h = (by_recursion place (l ∷ ls) h).0

pub owned-rest : (place : Places) (l : Letter) (ls : List Letter) → AreOwned place (l ∷ ls) → AreOwned place ls
owned-rest place l ls h = by_index place ls (by_recursion place (l ∷ ls) h).1

pub owned-put : (place : Places) (l : Letter) (ls : List Letter) → IsOwnedLetter place l → AreOwned place ls → AreOwned place (put_behind letter_priority l ls)
owned-put place l ls k h = by_index place (put_behind letter_priority l ls) (all-put_behind letter_priority (IsOwnedLetter place) l ls k (by_recursion place ls h))

pub owned-others : (place : Places) (peer : ℕ) (ls : List Letter) → AreOwned place ls → AreOwned place (others peer ls)
owned-others place peer ls h = All-filter (λ l. not (is_of_peer peer l)) (IsOwnedLetter place) ls h

pub granted-first : (gate : Gate) (l : Letter) (ls : List Letter) → granted (l ∷ ls) gate ≡ held l.grants gate + granted ls gate
granted-first gate l ls = sum_by-cons (granted_for gate) l ls

-- the first letter is the peer's
pub others-thrown : (peer : ℕ) (l : Letter) (ls : List Letter) → is_of_peer peer l ≡ true → others peer (l ∷ ls) ≡ others peer ls
others-thrown peer l ls e = rw e refl

pub granted-thrown : (gate : Gate) (peer : ℕ) (l : Letter) (ls : List Letter) → is_of_peer peer l ≡ true
    → granted (of_peer peer (l ∷ ls)) gate ≡ held l.grants gate + granted (of_peer peer ls) gate
granted-thrown gate peer l ls e = rw e (granted-first gate l (of_peer peer ls))

-- the first letter is another peer's
pub others-kept : (peer : ℕ) (l : Letter) (ls : List Letter) → is_of_peer peer l ≡ false → others peer (l ∷ ls) ≡ l ∷ others peer ls
others-kept peer l ls e = rw e refl

pub of_peer-kept : (peer : ℕ) (l : Letter) (ls : List Letter) → is_of_peer peer l ≡ false → of_peer peer (l ∷ ls) ≡ of_peer peer ls
of_peer-kept peer l ls e = rw e refl

-- what falls in priority keeps its order where its next letter joins what stands before it
pub put-next : (done : List Letter) (l : Letter) (ls : List Letter) → Falls letter_priority (done ++ l ∷ ls) → put_behind letter_priority l done ≡ done ++ l ∷ []
put-next [] l ls h = refl
put-next (m ∷ done) l ls h =
    let least : letter_priority l ≤ letter_priority m = among done h.0 in
    let test : ltb (letter_priority m) (letter_priority l) ≡ false = grind (arith, nat_tests) in
    rw test (ap (λ xs. m ∷ xs) (put-next done l ls h.1))
  where
    among : (xs : List Letter) → AllByRecursion (λ x. letter_priority x ≤ letter_priority m) (xs ++ l ∷ ls) → letter_priority l ≤ letter_priority m
    among [] all = all.0
    among (x ∷ xs) all = among xs all.1

-- it still falls without a letter
pub falls-without : (done : List Letter) (l : Letter) (ls : List Letter) → Falls letter_priority (done ++ l ∷ ls) → Falls letter_priority (done ++ ls)
falls-without [] l ls h = h.1
falls-without (m ∷ done) l ls h = (but done h.0, falls-without done l ls h.1)
  where
    but : (xs : List Letter) → AllByRecursion (λ x. letter_priority x ≤ letter_priority m) (xs ++ l ∷ ls) → AllByRecursion (λ x. letter_priority x ≤ letter_priority m) (xs ++ ls)
    but [] all = all.1
    but (x ∷ xs) all = (all.0, but xs all.1)

pub owned-drop : (place : Places) (ls : List Letter) → AreOwned place ls → AreOwned place (drop 1 ls)
owned-drop place [] h = h
owned-drop place (l ∷ ls) h = owned-rest place l ls h

-- so is the first one, where it is handed on
pub owned-on : (place : Places) (ls : List Letter) → AreOwned place ls → AllOwned place (letters_on (take 1 ls))
owned-on place [] h = tt
owned-on place (l ∷ ls) h = (owned-first place l ls h, tt)

pub granted-split : (gate : Gate) (ls : List Letter) (l : Letter) → Some l ≡ first_of ls → granted ls gate ≡ held l.grants gate + granted (drop 1 ls) gate
granted-split gate ls l e = ap (λ xs. granted xs gate) (first-is ls l e) ∙ granted-first gate l (drop 1 ls)

pub put-owned : (place : Places) (p : Parcel) (old new : List Letter) → AreOwned place old → IsOwned place p → new ≡ after_put p old → AreOwned place new
put-owned place (parcel.Letter l) old new h k e = rw e (owned-put place l old k h)
put-owned place (Discard peer) old new h k e = rw e (owned-others place peer old h)
put-owned place (RemoteReset peer) old new h k e = rw e h

pub emptied : (rs : List (Ranked Letter)) → letters_in rs ≡ [] → rs ≡ []
emptied [] e = refl
emptied (r ∷ rs) e = absurd (omega (arith, ap length e))
