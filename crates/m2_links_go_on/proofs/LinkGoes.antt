-- Where both sides of a link go on, with the halves of their nodes, the link does.
use Rattle.std.proofs.Common.{◌≡◌, ℕ, ◌⊎◌, inl, inr, Bool, true, false, ◌||◌, if◌then◌else◌, List, [], ◌∷◌, ◌++◌, map, refl, sym, ap, subst, ◌∙◌, arith, Some}
use Rattle.std.specs.List.{AllByRecursion}
use Rattle.m2_fabric.specs.declared.socket.SocketId.{SocketId}
use Rattle.m2_fabric.specs.End.{SeenEnd}
use Rattle.m2_growth.specs.Halves.{IsOneOf}
use Rattle.m2_growth.proofs.Among.{each_by, mapped_one, of_each, one_back, one_front}
use Rattle.m2_history.specs.Parts.{PartsNow}
use Rattle.m2_history.specs.Woven.{BothNow, EndNow, as_judged, end_of, ends_of, half_end, is_of_link, judged_times, loose_ends}
use Rattle.m2_weave.specs.m2_journal.declared.entry.Entry.{Entry}
use Rattle.m2_history.specs.m2_trail.Arrivals.{LooseNow}
use Rattle.m2_history.specs.m2_trail.Trails.{TrailNow}
use Rattle.m2_links_go_on.specs.Records.{RecordsGoOn}
use Rattle.m2_links_go_on.specs.Sides.{HasGoneOn, half_on, halves_of, loose_halves}
use Rattle.m2_links_go_on.proofs.Records.{own_half}
use Rattle.m2_links_go_on.proofs.Both as both
use Rattle.m2_links_go_on.proofs.Ends.{bytes_go_on}
use Rattle.m2_links_go_on.proofs.Going.{HasLater, IsKnown, LaterEnd, StandsOn, cut, end_goes, half_end_goes, half_goes, none_times, times, times_of}
use Rattle.m2_links_go_on.proofs.Standing as one
use Rattle.m2_links_go_on.proofs.Standing.{AreOpposed, StandsAt, ends_both, loose_both, opposed_too}
use Rattle.m2_fabric.proofs.m2_lemmas.Booleans.{one_of_or, either_turned, false_isnt_true}
use Rattle.m2_fabric.proofs.m2_lemmas.Lists.{all_append, all_map}

-- ---- the halves of the link

join : (a b : Bool) → (a ≡ true) ⊎ (b ≡ true) → (a || b) ≡ true
join true b h = refl
join false b (inl h) = absurd (false_isnt_true h)
join false b (inr h) = h

known : (a b : List Entry) (l : LooseNow) → is_of_link a b l ≡ true → IsKnown a b l
known a b l h = one_of_or _ _ h

pub of_link : (a b : List Entry) (l : LooseNow) → IsKnown a b l → is_of_link a b l ≡ true
of_link a b l h = join _ _ h

-- what holds of each of them
each_loose : (P : TrailNow → Type 0) (a b : List Entry) (ls : List LooseNow) → ((l : LooseNow) → IsOneOf l ls → IsKnown a b l → P (as_judged a b l.trail)) → AllByRecursion P (loose_halves a b ls)
each_loose P a b [] h = tt
each_loose P a b (l ∷ ls) h = at (is_of_link a b l) refl (each_loose P a b ls (λ x i k. h x (inr i) k))
  where
    at : (c : Bool) → is_of_link a b l ≡ c → AllByRecursion P (loose_halves a b ls) → AllByRecursion P ((if c then as_judged a b l.trail ∷ [] else []) ++ loose_halves a b ls)
    at true is rest = (h l (inl refl) (known a b l is), rest)
    at false is rest = rest

pub each_end : (P : EndNow → Type 0) (a b : List Entry) (ls : List LooseNow) → ((l : LooseNow) → IsOneOf l ls → IsKnown a b l → P (half_end l)) → AllByRecursion P (loose_ends a b ls)
each_end P a b [] h = tt
each_end P a b (l ∷ ls) h = at (is_of_link a b l) refl (each_end P a b ls (λ x i k. h x (inr i) k))
  where
    at : (c : Bool) → is_of_link a b l ≡ c → AllByRecursion P (loose_ends a b ls) → AllByRecursion P ((if c then half_end l ∷ [] else []) ++ loose_ends a b ls)
    at true is rest = (h l (inl refl) (known a b l is), rest)
    at false is rest = rest

-- one that either journal knows is one of them
one_loose : (a b : List Entry) (l : LooseNow) (ls : List LooseNow) → IsOneOf l ls → is_of_link a b l ≡ true → IsOneOf (as_judged a b l.trail) (loose_halves a b ls)
one_loose a b l [] i h = absurd i
one_loose a b l (x ∷ ls) (inl e) h = at (is_of_link a b x) (ap (is_of_link a b) (sym e) ∙ h)
  where
    at : (c : Bool) → c ≡ true → IsOneOf (as_judged a b l.trail) ((if c then as_judged a b x.trail ∷ [] else []) ++ loose_halves a b ls)
    at true is = inl (ap (λ (y : LooseNow). as_judged a b y.trail) e)
    at false is = absurd (false_isnt_true is)
one_loose a b l (x ∷ ls) (inr i) h = at (is_of_link a b x) (one_loose a b l ls i h)
  where
    at : (c : Bool) → IsOneOf (as_judged a b l.trail) (loose_halves a b ls) → IsOneOf (as_judged a b l.trail) ((if c then as_judged a b x.trail ∷ [] else []) ++ loose_halves a b ls)
    at true rest = inr rest
    at false rest = rest

pub one_end : (a b : List Entry) (l : LooseNow) (ls : List LooseNow) → IsOneOf l ls → is_of_link a b l ≡ true → IsOneOf (half_end l) (loose_ends a b ls)
one_end a b l [] i h = absurd i
one_end a b l (x ∷ ls) (inl e) h = at (is_of_link a b x) (ap (is_of_link a b) (sym e) ∙ h)
  where
    at : (c : Bool) → c ≡ true → IsOneOf (half_end l) ((if c then half_end x ∷ [] else []) ++ loose_ends a b ls)
    at true is = inl (ap half_end e)
    at false is = absurd (false_isnt_true is)
one_end a b l (x ∷ ls) (inr i) h = at (is_of_link a b x) (one_end a b l ls i h)
  where
    at : (c : Bool) → IsOneOf (half_end l) (loose_ends a b ls) → IsOneOf (half_end l) ((if c then half_end x ∷ [] else []) ++ loose_ends a b ls)
    at true rest = inr rest
    at false rest = rest

-- ---- both sides

module _ (here away : SocketId → Bool) (opposed : AreOpposed here away) (p p' q q' : PartsNow) (ls ls' ms ms' : List LooseNow)
    (near : StandsAt here away p ls) (near' : StandsAt here away p' ls') (far : StandsAt away here q ms) (far' : StandsAt away here q' ms')
    (on : StandsOn p p' ls ls' q.journal) (to : StandsOn q q' ms ms' p.journal) where
  abbrev back : AreOpposed away here
  back = opposed_too here away opposed

  abbrev old : BothNow
  old = record { a = p; b = q; loose = ls ++ ms }

  abbrev new : BothNow
  new = record { a = p'; b = q'; loose = ls' ++ ms' }

  -- how many asks on a socket either has judged: one side at most has judged any
  abbrev before : SocketId → ℕ
  before k = judged_times p.journal q.journal k

  abbrev after : SocketId → ℕ
  after k = judged_times p'.journal q'.journal k

  near_before : (k : SocketId) → here k ≡ true → before k ≡ times p.journal k
  near_before k h = omega (arith, times_of p.journal q.journal k, none_times q.journal k (one.unasked away here back q ms far k h))

  near_after : (k : SocketId) → here k ≡ true → after k ≡ times p'.journal k
  near_after k h = omega (arith, times_of p'.journal q'.journal k, none_times q'.journal k (one.unasked away here back q' ms' far' k h))

  far_before : (k : SocketId) → away k ≡ true → before k ≡ times q.journal k
  far_before k h = omega (arith, times_of p.journal q.journal k, none_times p.journal k (one.unasked here away opposed p ls near k h))

  far_after : (k : SocketId) → away k ≡ true → after k ≡ times q'.journal k
  far_after k h = omega (arith, times_of p'.journal q'.journal k, none_times p'.journal k (one.unasked here away opposed p' ls' near' k h))

  -- ---- halves

  abbrev now : List TrailNow
  now = halves_of new

  abbrev taken_now : List TrailNow
  taken_now = p'.trails ++ q'.trails

  abbrev left_now : List TrailNow
  left_now = loose_halves p'.journal q'.journal (ls' ++ ms')

  near_left : (l : LooseNow) → IsOneOf l ls' → IsKnown p'.journal q'.journal l → IsOneOf (cut (after l.trail.socket) l.trail) now
  near_left l i k = one_back (as_judged p'.journal q'.journal l.trail) taken_now left_now (one_loose p'.journal q'.journal l (ls' ++ ms') (one_front l ls' ms' i) (of_link p'.journal q'.journal l k))

  far_left : (l : LooseNow) → IsOneOf l ms' → IsKnown q'.journal p'.journal l → IsOneOf (cut (after l.trail.socket) l.trail) now
  far_left l i k = one_back (as_judged p'.journal q'.journal l.trail) taken_now left_now (one_loose p'.journal q'.journal l (ls' ++ ms') (one_back l ls' ms' i) (of_link p'.journal q'.journal l (either_turned k)))

  -- among halves of which no two are on one socket
  gone : (t : TrailNow) → HasLater now t → HasGoneOn now t
  gone t later = (
    later.half,
    subst (λ k. half_on k now ≡ Some later.half) later.socket
        (of_each (λ (u : TrailNow). half_on u.socket now ≡ Some u) later.half now
        (own_half now (both.are_told here away opposed p' q' ls' ms' near' far').halves.apart) later.there),
    later.goes,
  )

  loose_on : AllByRecursion (HasGoneOn now) (loose_halves p.journal q.journal (ls ++ ms))
  loose_on =
      subst (AllByRecursion (HasGoneOn now)) (sym (loose_both p.journal q.journal ls ms))
      (all_append (HasGoneOn now) (loose_halves p.journal q.journal ls) (loose_halves p.journal q.journal ms)
      (each_loose (HasGoneOn now) p.journal q.journal ls (λ l i k. gone (as_judged p.journal q.journal l.trail)
      (half_goes here away opposed p p' ls ls' near near' q.journal q'.journal on to.journal before after near_before near_after now
      (λ t j. one_front t taken_now left_now (one_front t p'.trails q'.trails j)) near_left l i k)))
      (each_loose (HasGoneOn now) p.journal q.journal ms (λ l i k. gone (as_judged p.journal q.journal l.trail)
      (half_goes away here back q q' ms ms' far far' p.journal p'.journal to on.journal before after far_before far_after now
      (λ t j. one_front t taken_now left_now (one_back t p'.trails q'.trails j)) far_left l i (either_turned k)))))

  -- ---- ends

  abbrev ends_now : List EndNow
  ends_now = ends_of new

  abbrev near_ends : List EndNow
  near_ends = map (end_of p'.journal) p'.ends

  abbrev far_ends : List EndNow
  far_ends = map (end_of q'.journal) q'.ends

  abbrev half_ends : List EndNow
  half_ends = loose_ends p'.journal q'.journal (ls' ++ ms')

  near_end : (e : SeenEnd) → IsOneOf e p'.ends → IsOneOf (end_of p'.journal e) ends_now
  near_end e i = one_front (end_of p'.journal e) (near_ends ++ far_ends) half_ends (one_front (end_of p'.journal e) near_ends far_ends (mapped_one (end_of p'.journal) e p'.ends i))

  far_end : (e : SeenEnd) → IsOneOf e q'.ends → IsOneOf (end_of q'.journal e) ends_now
  far_end e i = one_front (end_of q'.journal e) (near_ends ++ far_ends) half_ends (one_back (end_of q'.journal e) near_ends far_ends (mapped_one (end_of q'.journal) e q'.ends i))

  near_half : (l : LooseNow) → IsOneOf l ls' → IsKnown p'.journal q'.journal l → IsOneOf (half_end l) ends_now
  near_half l i k = one_back (half_end l) (near_ends ++ far_ends) half_ends (one_end p'.journal q'.journal l (ls' ++ ms') (one_front l ls' ms' i) (of_link p'.journal q'.journal l k))

  far_half : (l : LooseNow) → IsOneOf l ms' → IsKnown q'.journal p'.journal l → IsOneOf (half_end l) ends_now
  far_half l i k = one_back (half_end l) (near_ends ++ far_ends) half_ends (one_end p'.journal q'.journal l (ls' ++ ms') (one_back l ls' ms' i) (of_link p'.journal q'.journal l (either_turned k)))

  ends_on : AllByRecursion (LaterEnd ends_now) (ends_of old)
  ends_on =
      all_append (LaterEnd ends_now) (map (end_of p.journal) p.ends ++ map (end_of q.journal) q.ends) (loose_ends p.journal q.journal (ls ++ ms))
      (all_append (LaterEnd ends_now) (map (end_of p.journal) p.ends) (map (end_of q.journal) q.ends)
      (all_map (LaterEnd ends_now) (end_of p.journal) p.ends (each_by (λ (e : SeenEnd). LaterEnd ends_now (end_of p.journal e)) p.ends
      (end_goes here away opposed p p' ls ls' near near' q.journal q'.journal on to.journal ends_now near_end near_half)))
      (all_map (LaterEnd ends_now) (end_of q.journal) q.ends (each_by (λ (e : SeenEnd). LaterEnd ends_now (end_of q.journal e)) q.ends
      (end_goes away here back q q' ms ms' far far' p.journal p'.journal to on.journal ends_now far_end far_half))))
      (subst (AllByRecursion (LaterEnd ends_now)) (sym (ends_both p.journal q.journal ls ms))
      (all_append (LaterEnd ends_now) (loose_ends p.journal q.journal ls) (loose_ends p.journal q.journal ms)
      (each_end (LaterEnd ends_now) p.journal q.journal ls (half_end_goes here away opposed p p' ls ls' near near' q.journal q'.journal on to.journal ends_now near_end near_half))
      (each_end (LaterEnd ends_now) p.journal q.journal ms (λ l i k. half_end_goes away here back q q' ms ms' far far' p.journal p'.journal to on.journal ends_now far_end far_half l i (either_turned k)))))

  -- ---- all of it

  pub go_on : RecordsGoOn old new
  go_on =
      let before_all = both.are_told here away opposed p q ls ms near far in
      let now_all = both.are_told here away opposed p' q' ls' ms' near' far' in
      record {
        near = record { before = near.side; now = near'.side; journal = on.journal; trails = on.trails };
        far = record { before = far.side; now = far'.side; journal = to.journal; trails = to.trails };
        before = before_all.halves;
        now = now_all.halves;
        loose = loose_on;
        got = λ e. (bytes_go_on (ends_of old) ends_now now_all.apart ends_on e.socket e.opener).got;
        put = λ e. (bytes_go_on (ends_of old) ends_now now_all.apart ends_on e.socket e.opener).put;
      }
