-- Two sides of a link, each with the halves of its node that no record took: their halves and their ends are apart_turned, and they are
-- kept and told.
use Rattle.std.proofs.Common.{◌≡◌, ◌⊎◌, inl, inr, Bool, true, false, ◌&&◌, ◌||◌, if◌then◌else◌, List, [], ◌∷◌, ◌++◌, map, refl, sym, ap, subst, ◌∙◌}
use Rattle.std.specs.List.{AllByRecursion, IsDistinct}
use Rattle.m2_fabric.specs.declared.socket.SocketId.{SocketId}
use Rattle.m2_fabric.specs.End.{SeenEnd}
use Rattle.m2_fabric.specs.Sockets.{is_among, same_socket}
use Rattle.m2_growth.proofs.m2_bytes_fit.Judges.{not_judged_on}
use Rattle.m2_growth.proofs.Among.{among_mapped, each_by}
use Rattle.m2_history.specs.Link.{IsKeptHalf, IsKeptSide, IsWholeHalf, end_ids}
use Rattle.m2_history.specs.Parts.{PartsNow}
use Rattle.m2_history.specs.Woven.{EndNow, as_judged, end_of, half_end, is_of_link, loose_ends}
use Rattle.m2_weave.specs.m2_journal.declared.entry.Entry.{Entry}
use Rattle.m2_weave.specs.m2_journal.Items.{at_start}
use Rattle.m2_weave.specs.m2_journal.Lawful.{judged_on}
use Rattle.m2_weave.specs.m2_journal.State.{Judgement}
use Rattle.m2_history.specs.m2_record.RecordNow.{ids_of}
use Rattle.m2_history.specs.m2_record.TakenTrails.{judgements_in, taken_in}
use Rattle.m2_history.specs.m2_trail.Arrivals.{LooseNow}
use Rattle.m2_history.specs.m2_trail.Trails.{TrailNow}
use Rattle.m2_links_go_on.specs.Records.{IsSide}
use Rattle.m2_links_go_on.specs.Sides.{loose_halves}
use Rattle.m2_links_go_on.specs.Told.{TellsAll}
use Rattle.m2_weave.specs.Strands.{has_opened, journal_of, same_side}
use Rattle.m2_history.specs.WovenLink.{same_end, sources_in}
use Rattle.m2_history.proofs.Halfway.{apart_from, taken_once}
use Rattle.m2_history.proofs.Moved.{unjudged_untaken}
use Rattle.m2_fabric.proofs.m2_lemmas.Booleans.{not_true_is_false, false_isnt_true}
use Rattle.m2_history.proofs.Kept.{map-all}
use Rattle.m2_fabric.proofs.m2_lemmas.Lists.{all_map, all_so}
use Rattle.m2_fabric.proofs.Sockets.{apart_turned, same_equal}

-- ---- words

-- the sockets on which asks were judged
abbrev pub judged_sockets : List Entry → List SocketId
judged_sockets es = map (λ (j : Judgement). j.socket) (judgements_in es)

abbrev pub trail_sockets : List TrailNow → List SocketId
trail_sockets ts = map (λ (t : TrailNow). t.socket) ts

-- the sockets of the ends of halves, and those of their trails
abbrev pub ids_left : List LooseNow → List SocketId
ids_left ls = map (λ (l : LooseNow). l.end.id) ls

abbrev pub sockets_left : List LooseNow → List SocketId
sockets_left ls = map (λ (l : LooseNow). l.trail.socket) ls

-- A side and its node's halves. What it has opened leads away, and what it has judged, and the halves, come here. It has opened or
-- taken the sockets of its ends, and no two ends of it and of the halves are on one. Whatever it has judged, its half is there, and
-- a half that no record took was told just that.
pub record StandsAt (here away : SocketId → Bool) (p : PartsNow) (ls : List LooseNow) : Type 0 where
  pub side : IsSide p
  pub kept : IsKeptSide p
  pub tells : TellsAll p
  pub opened : (k : SocketId) → has_opened (journal_of p.journal) k ≡ true → away k ≡ true
  pub asked : (k : SocketId) → is_among k (judged_sockets p.journal) ≡ true → here k ≡ true
  pub ends : (k : SocketId) → is_among k (ids_of p.ends) ≡ true → (has_opened (journal_of p.journal) k ≡ true) ⊎ (is_among k (taken_in p.journal) ≡ true)
  pub own : IsDistinct same_socket (ids_of p.ends)
  pub whole : AllByRecursion IsWholeHalf ls
  pub comes : AllByRecursion (λ (l : LooseNow). here l.end.id ≡ true) ls
  pub single : IsDistinct same_socket (ids_left ls)
  pub others : apart_from same_socket (ids_of p.ends) (ids_left ls)
  pub halves : (k : SocketId) → is_among k (judged_sockets p.journal) ≡ true → is_among k (trail_sockets p.trails ++ sockets_left ls) ≡ true
  pub judged : AllByRecursion (λ (l : LooseNow). is_among l.trail.socket (judged_sockets p.journal) ≡ true → l.trail.judged ≡ judged_on l.trail.socket (judgements_in p.journal)) ls

-- no socket comes here and leads away
abbrev pub AreOpposed : (here away : SocketId → Bool) → Type 0
AreOpposed here away = (k : SocketId) → here k ≡ true → away k ≡ true → ⊥

pub opposed_too : (here away : SocketId → Bool) → AreOpposed here away → AreOpposed away here
opposed_too here away apart_turned k a h = apart_turned k h a

-- ---- what a side has taken it has judged

pub taken_asked : (k : SocketId) (es : List Entry) → is_among k (taken_in es) ≡ true → is_among k (judged_sockets es) ≡ true
taken_asked k es taken = at (is_among k (judged_sockets es)) refl
  where
    at : (b : Bool) → is_among k (judged_sockets es) ≡ b → is_among k (judged_sockets es) ≡ true
    at true is = is
    at false is = absurd (false_isnt_true (sym (unjudged_untaken k es (not_judged_on k (judgements_in es) is)) ∙ taken))

-- ---- loose halves that are the link's

pub loose_named : (P : SocketId → Type 0) (a b : List Entry) (ls : List LooseNow) → AllByRecursion IsWholeHalf ls → AllByRecursion P (ids_left ls) → AllByRecursion P (trail_sockets (loose_halves a b ls))
loose_named P a b [] whole all = tt
loose_named P a b (l ∷ ls) whole all = at (is_of_link a b l) (loose_named P a b ls whole.1 all.1)
  where
    at : (c : Bool) → AllByRecursion P (trail_sockets (loose_halves a b ls)) → AllByRecursion P (trail_sockets ((if c then as_judged a b l.trail ∷ [] else []) ++ loose_halves a b ls))
    at true rest = (subst P (sym whole.0.socket) all.0, rest)
    at false rest = rest

pub loose_single : (a b : List Entry) (ls : List LooseNow) → AllByRecursion IsWholeHalf ls → IsDistinct same_socket (ids_left ls) → IsDistinct same_socket (trail_sockets (loose_halves a b ls))
unfolding IsDistinct
loose_single a b [] whole d = tt
loose_single a b (l ∷ ls) whole d = at (is_of_link a b l) (loose_single a b ls whole.1 d.1) (loose_named (λ k. same_socket l.end.id k ≡ false) a b ls whole.1 d.0)
  where
    at : (c : Bool) → IsDistinct same_socket (trail_sockets (loose_halves a b ls)) → AllByRecursion (λ k. same_socket l.end.id k ≡ false) (trail_sockets (loose_halves a b ls)) →
        IsDistinct same_socket (trail_sockets ((if c then as_judged a b l.trail ∷ [] else []) ++ loose_halves a b ls))
    at true rest others = (subst (λ k. AllByRecursion (λ y. same_socket k y ≡ false) (trail_sockets (loose_halves a b ls))) (sym whole.0.socket) others, rest)
    at false rest others = rest

pub loose_both : (a b : List Entry) (ls ms : List LooseNow) → loose_halves a b (ls ++ ms) ≡ loose_halves a b ls ++ loose_halves a b ms
loose_both a b [] ms = refl
loose_both a b (l ∷ ls) ms = at (is_of_link a b l) (loose_both a b ls ms)
  where
    at : (c : Bool) → loose_halves a b (ls ++ ms) ≡ loose_halves a b ls ++ loose_halves a b ms →
        (if c then as_judged a b l.trail ∷ [] else []) ++ loose_halves a b (ls ++ ms) ≡ ((if c then as_judged a b l.trail ∷ [] else []) ++ loose_halves a b ls) ++ loose_halves a b ms
    at true rest = ap (λ ts. as_judged a b l.trail ∷ ts) rest
    at false rest = rest

-- their ends
pub loose_ends_are : (P : EndNow → Type 0) (a b : List Entry) (ls : List LooseNow) → AllByRecursion (λ (l : LooseNow). P (half_end l)) ls → AllByRecursion P (loose_ends a b ls)
loose_ends_are P a b [] all = tt
loose_ends_are P a b (l ∷ ls) all = at (is_of_link a b l) (loose_ends_are P a b ls all.1)
  where
    at : (c : Bool) → AllByRecursion P (loose_ends a b ls) → AllByRecursion P ((if c then half_end l ∷ [] else []) ++ loose_ends a b ls)
    at true rest = (all.0, rest)
    at false rest = rest

pub ends_both : (a b : List Entry) (ls ms : List LooseNow) → loose_ends a b (ls ++ ms) ≡ loose_ends a b ls ++ loose_ends a b ms
ends_both a b [] ms = refl
ends_both a b (l ∷ ls) ms = at (is_of_link a b l) (ends_both a b ls ms)
  where
    at : (c : Bool) → loose_ends a b (ls ++ ms) ≡ loose_ends a b ls ++ loose_ends a b ms →
        (if c then half_end l ∷ [] else []) ++ loose_ends a b (ls ++ ms) ≡ ((if c then half_end l ∷ [] else []) ++ loose_ends a b ls) ++ loose_ends a b ms
    at true rest = ap (λ es. half_end l ∷ es) rest
    at false rest = rest

-- ---- ends of two sockets are two ends

two_ends : (d e : EndNow) → same_socket d.socket e.socket ≡ false → same_end d e ≡ false
two_ends d e h = ap (λ b. b && same_side d.opener e.opener) h

pub ends_single : (js : List Entry) (ends : List SeenEnd) → IsDistinct same_socket (ids_of ends) → IsDistinct same_end (map (end_of js) ends)
unfolding IsDistinct
ends_single js [] d = tt
ends_single js (e ∷ ends) d = (
  all_map (λ x. same_end (end_of js e) x ≡ false) (end_of js) ends
      (all_so (λ (y : SeenEnd). same_socket e.id y.id ≡ false) (λ (y : SeenEnd). same_end (end_of js e) (end_of js y) ≡ false) (λ y h. two_ends (end_of js e) (end_of js y) h) ends
      (map-all (λ k. same_socket e.id k ≡ false) (λ (y : SeenEnd). y.id) ends d.0)),
  ends_single js ends d.1,
)

-- an end, and the ends of halves
end_from_loose : (d : EndNow) (a b : List Entry) (ls : List LooseNow) → AllByRecursion (λ k. same_socket d.socket k ≡ false) (ids_left ls) → AllByRecursion (λ x. same_end d x ≡ false) (loose_ends a b ls)
end_from_loose d a b ls all =
    loose_ends_are (λ x. same_end d x ≡ false) a b ls
    (all_so (λ (l : LooseNow). same_socket d.socket l.end.id ≡ false) (λ (l : LooseNow). same_end d (half_end l) ≡ false) (λ l h. two_ends d (half_end l) h) ls
    (map-all (λ k. same_socket d.socket k ≡ false) (λ (l : LooseNow). l.end.id) ls all))

pub loose_ends_single : (a b : List Entry) (ls : List LooseNow) → IsDistinct same_socket (ids_left ls) → IsDistinct same_end (loose_ends a b ls)
unfolding IsDistinct
loose_ends_single a b [] d = tt
loose_ends_single a b (l ∷ ls) d = at (is_of_link a b l) (loose_ends_single a b ls d.1) (end_from_loose (half_end l) a b ls d.0)
  where
    at : (c : Bool) → IsDistinct same_end (loose_ends a b ls) → AllByRecursion (λ x. same_end (half_end l) x ≡ false) (loose_ends a b ls) → IsDistinct same_end ((if c then half_end l ∷ [] else []) ++ loose_ends a b ls)
    at true rest others = (others, rest)
    at false rest others = rest

pub ends_from_loose : (js a b : List Entry) (ends : List SeenEnd) (ls : List LooseNow) → apart_from same_socket (ids_of ends) (ids_left ls) → apart_from same_end (map (end_of js) ends) (loose_ends a b ls)
ends_from_loose js a b [] ls all = tt
ends_from_loose js a b (e ∷ ends) ls all = (end_from_loose (end_of js e) a b ls all.0, ends_from_loose js a b ends ls all.1)

-- ---- one side

-- which end it is: an opener's of a socket that leads away, or an acceptor's of one that comes here
abbrev pub IsEndAt : (here away : SocketId → Bool) → EndNow → Type 0
IsEndAt here away d = ((d.opener ≡ true) × (away d.socket ≡ true)) ⊎ ((d.opener ≡ false) × (here d.socket ≡ true))

module _ (here away : SocketId → Bool) (opposed : AreOpposed here away) (p : PartsNow) (ls : List LooseNow) (st : StandsAt here away p ls) where
  -- what comes here it hasn't opened
  pub here_closed : (k : SocketId) → here k ≡ true → has_opened (journal_of p.journal) k ≡ false
  here_closed k h = not_true_is_false (has_opened (journal_of p.journal) k) (λ o. opposed k h (st.opened k o))

  pub taken_here : (k : SocketId) → is_among k (taken_in p.journal) ≡ true → here k ≡ true
  taken_here k h = st.asked k (taken_asked k p.journal h)

  pub unasked : (k : SocketId) → away k ≡ true → is_among k (judged_sockets p.journal) ≡ false
  unasked k a = not_true_is_false (is_among k (judged_sockets p.journal)) (λ h. opposed k (st.asked k h) a)

  -- the sockets of its halves
  pub trails_single : IsDistinct same_socket (trail_sockets p.trails)
  trails_single =
      subst (IsDistinct same_socket) (sym st.side.2.trails.sockets) (taken_once st.side.0 (sources_in st.side.1 p) at_start p.journal st.side.2.lawful)

  pub trail_taken : (k : SocketId) → is_among k (trail_sockets p.trails) ≡ true → is_among k (taken_in p.journal) ≡ true
  trail_taken k h = sym (ap (is_among k) st.side.2.trails.sockets) ∙ h

  pub trails_come : AllByRecursion (λ k. here k ≡ true) (trail_sockets p.trails)
  trails_come =
      all_map (λ k. here k ≡ true) (λ (t : TrailNow). t.socket) p.trails
      (each_by (λ (t : TrailNow). here t.socket ≡ true) p.trails
      (λ t i. taken_here t.socket (trail_taken t.socket (among_mapped (λ (u : TrailNow). u.socket) t t.socket p.trails i refl))))

  pub left_come : AllByRecursion (λ k. here k ≡ true) (ids_left ls)
  left_come = all_map (λ k. here k ≡ true) (λ (l : LooseNow). l.end.id) ls st.comes

  end_at_side : (k : SocketId) → is_among k (ids_of p.ends) ≡ true → ((has_opened (journal_of p.journal) k ≡ true) × (away k ≡ true)) ⊎ ((has_opened (journal_of p.journal) k ≡ false) × (here k ≡ true))
  end_at_side k h = by (st.ends k h)
    where
      by : (has_opened (journal_of p.journal) k ≡ true) ⊎ (is_among k (taken_in p.journal) ≡ true) →
          ((has_opened (journal_of p.journal) k ≡ true) × (away k ≡ true)) ⊎ ((has_opened (journal_of p.journal) k ≡ false) × (here k ≡ true))
      by (inl o) = inl (o, st.opened k o)
      by (inr t) = inr (here_closed k (taken_here k t), taken_here k t)

  pub side_ends : AllByRecursion (IsEndAt here away) (map (end_of p.journal) p.ends)
  side_ends =
      all_map (IsEndAt here away) (end_of p.journal) p.ends
      (each_by (λ (e : SeenEnd). IsEndAt here away (end_of p.journal e)) p.ends (λ e i. end_at_side e.id (among_mapped (λ (x : SeenEnd). x.id) e e.id p.ends i refl)))

  pub left_ends : (a b : List Entry) → AllByRecursion (IsEndAt here away) (loose_ends a b ls)
  left_ends a b = loose_ends_are (IsEndAt here away) a b ls (all_so (λ (l : LooseNow). here l.end.id ≡ true) (λ (l : LooseNow). IsEndAt here away (half_end l)) (λ l h. inr (refl, h)) ls st.comes)

  -- the halves that it took, and those that none took
  pub trails_from_left : (a b : List Entry) → apart_from same_socket (trail_sockets p.trails) (trail_sockets (loose_halves a b ls))
  trails_from_left a b =
      all_map (λ k. AllByRecursion (λ y. same_socket k y ≡ false) (trail_sockets (loose_halves a b ls))) (λ (t : TrailNow). t.socket) p.trails
      (all_so (λ (t : TrailNow). is_among t.socket (ids_of p.ends) ≡ true) (λ (t : TrailNow). AllByRecursion (λ y. same_socket t.socket y ≡ false) (trail_sockets (loose_halves a b ls)))
      (λ t h. loose_named (λ y. same_socket t.socket y ≡ false) a b ls st.whole (end_from t.socket (ids_of p.ends) st.others h)) p.trails
      (all_so (IsKeptHalf (end_ids p) p.journal) (λ (t : TrailNow). is_among t.socket (ids_of p.ends) ≡ true) (λ t h. h.end) p.trails st.kept.halves))
    where
      end_from : (k : SocketId) (ids : List SocketId) → apart_from same_socket ids (ids_left ls) → is_among k ids ≡ true → AllByRecursion (λ y. same_socket k y ≡ false) (ids_left ls)
      end_from k [] all h = absurd (false_isnt_true h)
      end_from k (i ∷ ids) all h = at (same_socket k i) refl h (end_from k ids all.1)
        where
          at : (b : Bool) → same_socket k i ≡ b → b || is_among k ids ≡ true → (is_among k ids ≡ true → AllByRecursion (λ y. same_socket k y ≡ false) (ids_left ls)) → AllByRecursion (λ y. same_socket k y ≡ false) (ids_left ls)
          at true same h rest = subst (λ j. AllByRecursion (λ y. same_socket j y ≡ false) (ids_left ls)) (sym (same_equal k i same)) all.0
          at false other h rest = rest h
