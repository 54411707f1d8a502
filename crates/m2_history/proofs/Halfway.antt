-- Where each socket has one end of either kind it has one half.
use Rattle.std.proofs.Common.{◌≡◌, append-nil, inl, inr, Bool, true, false, ◌&&◌, if◌then◌else◌, List, [], ◌∷◌, ◌++◌, map, refl, sym, ap, ◌∙◌, subst}
use Rattle.std.specs.List.{AllByRecursion, IsDistinct, flat_map}
use Rattle.m2_fabric.specs.declared.socket.SocketId.{SocketId}
use Rattle.m2_fabric.specs.End.{SeenEnd}
use Rattle.m2_fabric.specs.Sockets.{same_socket}
use Rattle.m2_history.specs.Woven.{EndNow, half_end, is_of_link, loose_ends}
use Rattle.m2_journal.specs.declared.entry.Entry.{Entry}
use Rattle.m2_journal.specs.declared.entry.Entry.TheVariants as entry
use Rattle.m2_journal.specs.Items.{Places, Sources, item_of, items_from, passed}
use Rattle.m2_journal.specs.Laws.{taken_among}
use Rattle.m2_journal.specs.Lawful.{Lawful}
use Rattle.m2_journal.specs.Replay.{AreLawful, after_items}
use Rattle.m2_journal.specs.SideFacts.{SideFacts}
use Rattle.m2_journal.specs.State.{State, start}
use Rattle.m2_journal.specs.Steps.{after}
use Rattle.m2_journal.proofs.Sockets.{distinct-none, distinct-push, judgement, not_taken, taken-append}
use Rattle.m2_record.specs.TakenTrails.{taken_in}
use Rattle.m2_journal.specs.m2_session.SessionLaws.{takes}
use Rattle.m2_trail.specs.Arrivals.{LooseNow}
use Rattle.m2_trail.specs.Trails.{TrailNow}
use Rattle.m2_weave.specs.Strands.{same_side}
use Rattle.m2_history.specs.Actors.{of_half, loose_actors, is_near, taken_half, trail_by}
use Rattle.m2_history.specs.WovenLink.{same_end}
use Rattle.m2_history.proofs.Bytes.{IsOf, all_is}
use Rattle.m2_history.proofs.Journals.{judged_are, taken_are}
use Rattle.m2_history.proofs.Names.{entry_adds, items_add, judged_in}
use Rattle.m2_bytes.proofs.m2_lemmas.Lists.{all_front, all_back, all_append}

-- ---- lists

abbrev pub apart_from : {X : Type 0} (e : X → X → Bool) → List X → List X → Type 0
apart_from e xs ys = AllByRecursion (λ x. AllByRecursion (λ y. e x y ≡ false) ys) xs

pub distinct_join : {X : Type 0} (e : X → X → Bool) (xs ys : List X) → IsDistinct e xs → IsDistinct e ys → apart_from e xs ys → IsDistinct e (xs ++ ys)
unfolding IsDistinct
distinct_join e [] ys d c a = c
distinct_join e (x ∷ xs) ys d c a = (all_append (λ y. e x y ≡ false) xs ys d.0 a.0, distinct_join e xs ys d.1 c a.1)

pub distinct_last : {X : Type 0} (e : X → X → Bool) (xs ys : List X) → IsDistinct e (xs ++ ys) → IsDistinct e ys
unfolding IsDistinct
distinct_last e [] ys d = d
distinct_last e (x ∷ xs) ys d = distinct_last e xs ys d.1

pub distinct_first : {X : Type 0} (e : X → X → Bool) (xs ys : List X) → IsDistinct e (xs ++ ys) → IsDistinct e xs
unfolding IsDistinct
distinct_first e [] ys d = tt
distinct_first e (x ∷ xs) ys d = (all_front (λ y. e x y ≡ false) xs ys d.0, distinct_first e xs ys d.1)

-- one of the first list and one of the second are apart
pub distinct_parts : {X : Type 0} (e : X → X → Bool) (xs ys : List X) (x y : X) → IsDistinct e (xs ++ ys) → IsOf x xs → IsOf y ys → e x y ≡ false
unfolding IsDistinct
distinct_parts e [] ys x y d h k = absurd h
distinct_parts e (z ∷ xs) ys x y d (inl q) k = subst (λ w. e w y ≡ false) q (all_is (λ w. e z w ≡ false) y ys (all_back (λ w. e z w ≡ false) xs ys d.0) k)
distinct_parts e (z ∷ xs) ys x y d (inr h) k = distinct_parts e xs ys x y d.1 h k

-- ---- no socket is taken twice

taken_step : (f : SideFacts) (src : Sources) (p : Places) (e : Entry) (s : State) → Lawful f (item_of src p e) s → IsDistinct same_socket (taken_among s.judgements) →
    IsDistinct same_socket (taken_among (after f (item_of src p e) s).judgements)
taken_step f src p e s l d = subst (λ js. IsDistinct same_socket (taken_among js)) (sym (entry_adds f (item_of src p e) s).judgements) (subst (IsDistinct same_socket) (sym (taken-append s.judgements (judged_in (item_of src p e)))) (at e l))
  where
    none : IsDistinct same_socket (taken_among s.judgements ++ [])
    none = subst (IsDistinct same_socket) (sym (append-nil (taken_among s.judgements))) d

    at : (e : Entry) → Lawful f (item_of src p e) s → IsDistinct same_socket (taken_among s.judgements ++ taken_among (judged_in (item_of src p e)))
    at (entry.Judged x ask number answer) may = by_answer (takes answer) refl
      where
        by_answer : (b : Bool) → takes answer ≡ b → IsDistinct same_socket (taken_among s.judgements ++ taken_among (judgement x (record { ask = ask; answer = answer }) ∷ []))
        by_answer true q = rw q (distinct-push (taken_among s.judgements) x d (not_taken x s.judgements may.asks_again))
        by_answer false q = rw q none
    at (entry.Down true) may = none
    at (entry.Down false) may = none
    at _ may = none

taken_along : (f : SideFacts) (src : Sources) (p : Places) (es : List Entry) (s : State) → AreLawful f (items_from src p es) s → IsDistinct same_socket (taken_among s.judgements) →
    IsDistinct same_socket (taken_among (after_items f (items_from src p es) s).judgements)
taken_along f src p [] s l d = d
taken_along f src p (e ∷ es) s l d = taken_along f src (passed e p) es (after f (item_of src p e) s) l.1 (taken_step f src p e s l.0 d)

pub taken_once : (f : SideFacts) (src : Sources) (p : Places) (es : List Entry) → AreLawful f (items_from src p es) (start f) → IsDistinct same_socket (taken_in es)
taken_once f src p es l =
    subst (IsDistinct same_socket)
    (ap taken_among ((items_add f (items_from src p es) (start f)).judgements ∙ judged_are src p es) ∙ sym (taken_are es))
    (taken_along f src p es (start f) l distinct-none)

-- ---- the sockets of halves

abbrev pub sockets_of : List TrailNow → List SocketId
sockets_of ts = map (λ (t : TrailNow). t.socket) ts

abbrev pub loose_trails : (a b : List Entry) → List LooseNow → List TrailNow
loose_trails a b [] = []
loose_trails a b (h ∷ hs) = (if is_of_link a b h then h.trail ∷ [] else []) ++ loose_trails a b hs

pub trails_taken : (s : Bool) (ends : List SeenEnd) (ts : List TrailNow) → flat_map trail_by (map (taken_half s ends) ts) ≡ ts
trails_taken s ends [] = refl
trails_taken s ends (t ∷ ts) = ap (λ l. t ∷ l) (trails_taken s ends ts)

pub trails_loose : (a b : List Entry) (hs : List LooseNow) → flat_map trail_by (loose_actors a b hs) ≡ loose_trails a b hs
trails_loose a b [] = refl
trails_loose a b (h ∷ hs) = at (is_of_link a b h) (trails_loose a b hs)
  where
    at : (c : Bool) → flat_map trail_by (loose_actors a b hs) ≡ loose_trails a b hs →
        flat_map trail_by ((if c then of_half (is_near a b h.trail.socket) h.trail h.end.log ∷ [] else []) ++ loose_actors a b hs) ≡ (if c then h.trail ∷ [] else []) ++ loose_trails a b hs
    at true rest = ap (λ l. h.trail ∷ l) rest
    at false rest = rest

-- ---- apart by their ends

front_false : (b : Bool) → b && true ≡ false → b ≡ false
front_false true e = e
front_false false e = refl

-- two acceptors' ends that are apart are on two sockets
pub acceptors_apart : (d e : EndNow) → d.opener ≡ false → e.opener ≡ false → same_end d e ≡ false → same_socket d.socket e.socket ≡ false
acceptors_apart d e p q h =
    front_false (same_socket d.socket e.socket)
    (sym (ap (λ o. same_socket d.socket e.socket && same_side o e.opener) p ∙ ap (λ o. same_socket d.socket e.socket && same_side false o) q) ∙ h)

pub apart_named : (ts us : List TrailNow) → AllByRecursion (λ t. AllByRecursion (λ u. same_socket t.socket u.socket ≡ false) us) ts → apart_from same_socket (sockets_of ts) (sockets_of us)
apart_named [] us h = tt
apart_named (t ∷ ts) us h = (named us h.0, apart_named ts us h.1)
  where
    named : (us : List TrailNow) → AllByRecursion (λ u. same_socket t.socket u.socket ≡ false) us → AllByRecursion (λ k. same_socket t.socket k ≡ false) (sockets_of us)
    named [] h = tt
    named (u ∷ us) h = (h.0, named us h.1)

module _ (a b : List Entry) where
  abbrev pub IsNamedSo : LooseNow → Type 0
  IsNamedSo h = is_of_link a b h ≡ true → h.trail.socket ≡ h.end.id

  -- what is apart from the ends of loose halves is apart from their sockets
  pub from_loose : (e : EndNow) → e.opener ≡ false → (hs : List LooseNow) → AllByRecursion IsNamedSo hs → AllByRecursion (λ y. same_end e y ≡ false) (loose_ends a b hs) →
      AllByRecursion (λ (u : TrailNow). same_socket e.socket u.socket ≡ false) (loose_trails a b hs)
  from_loose e p [] n h = tt
  from_loose e p (g ∷ hs) n h = at (is_of_link a b g) n.0 h (from_loose e p hs n.1)
    where
      at : (c : Bool) → (c ≡ true → g.trail.socket ≡ g.end.id) → AllByRecursion (λ y. same_end e y ≡ false) ((if c then half_end g ∷ [] else []) ++ loose_ends a b hs) →
          (AllByRecursion (λ y. same_end e y ≡ false) (loose_ends a b hs) → AllByRecursion (λ (u : TrailNow). same_socket e.socket u.socket ≡ false) (loose_trails a b hs)) →
          AllByRecursion (λ (u : TrailNow). same_socket e.socket u.socket ≡ false) ((if c then g.trail ∷ [] else []) ++ loose_trails a b hs)
      at true named h on = (ap (same_socket e.socket) (named refl) ∙ acceptors_apart e (half_end g) p refl h.0, on h.1)
      at false named h on = on h

  pub loose_once : (hs : List LooseNow) → AllByRecursion IsNamedSo hs → IsDistinct same_end (loose_ends a b hs) → IsDistinct same_socket (sockets_of (loose_trails a b hs))
  unfolding IsDistinct
  loose_once [] n d = tt
  loose_once (g ∷ hs) n d = at (is_of_link a b g) n.0 d (loose_once hs n.1) (from_loose (half_end g) refl hs n.1)
    where
      named : (k : SocketId) (us : List TrailNow) → AllByRecursion (λ (u : TrailNow). same_socket k u.socket ≡ false) us → AllByRecursion (λ j. same_socket k j ≡ false) (sockets_of us)
      named k [] h = tt
      named k (u ∷ us) h = (h.0, named k us h.1)

      at : (c : Bool) → (c ≡ true → g.trail.socket ≡ g.end.id) → IsDistinct same_end ((if c then half_end g ∷ [] else []) ++ loose_ends a b hs) →
          (IsDistinct same_end (loose_ends a b hs) → IsDistinct same_socket (sockets_of (loose_trails a b hs))) →
          (AllByRecursion (λ y. same_end (half_end g) y ≡ false) (loose_ends a b hs) → AllByRecursion (λ (u : TrailNow). same_socket g.end.id u.socket ≡ false) (loose_trails a b hs)) →
          IsDistinct same_socket (sockets_of ((if c then g.trail ∷ [] else []) ++ loose_trails a b hs))
      at true p d on apart = (named g.trail.socket (loose_trails a b hs) (subst (λ k. AllByRecursion (λ (u : TrailNow). same_socket k u.socket ≡ false) (loose_trails a b hs)) (sym (p refl)) (apart d.0)), on d.1)
      at false p d on apart = on d
