-- Two sides of a link with the halves beside them are kept, and all that their ends have got and put is told.
use Rattle.std.proofs.Common.{◌≡◌, ◌⊎◌, inl, inr, Bool, true, false, ◌&&◌, List, [], ◌∷◌, ◌++◌, map, refl, sym, ap, subst, ◌∙◌, append-nil}
use Rattle.std.specs.List.{AllByRecursion, IsDistinct}
use Rattle.std.proofs.lemmas.List.{map-append}
use Rattle.m2_fabric.specs.declared.socket.SocketId.{SocketId}
use Rattle.m2_fabric.specs.Sockets.{is_among, same_socket}
use Rattle.m2_growth.proofs.m2_bytes_fit.Judges.{not_judged_on}
use Rattle.m2_growth.proofs.Among.{among_back, among_mapped, each_by}
use Rattle.m2_history.specs.Link.{AreKept, AreOfLink, HaveHalves, IsJudgedSo, IsWholeHalf, half_sockets}
use Rattle.m2_history.specs.Parts.{PartsNow}
use Rattle.m2_history.specs.Woven.{BothNow, EndNow, end_of, ends_of, loose_ends}
use Rattle.m2_weave.specs.m2_journal.Lawful.{judged_on}
use Rattle.m2_weave.specs.m2_journal.State.{Judgement}
use Rattle.m2_history.specs.m2_record.TakenTrails.{judgements_in}
use Rattle.m2_history.specs.m2_trail.Arrivals.{LooseNow}
use Rattle.m2_history.specs.m2_trail.Trails.{TrailNow}
use Rattle.m2_links_go_on.specs.Sides.{halves_of, loose_halves}
use Rattle.m2_links_go_on.specs.Told.{AreTold}
use Rattle.m2_links_go_on.proofs.KeptHalves.{kept_are_halves}
use Rattle.m2_weave.specs.Strands.{same_side}
use Rattle.m2_history.specs.WovenLink.{same_end}
use Rattle.m2_links_go_on.proofs.LinkLists.{four_apart}
use Rattle.m2_links_go_on.proofs.Standing as one
use Rattle.m2_links_go_on.proofs.Standing.{AreOpposed, StandsAt, ends_both, ends_from_loose, ends_single, judged_sockets, loose_both, loose_ends_single, loose_named, loose_single, opposed_too, sockets_left, trail_sockets}
use Rattle.m2_fabric.proofs.m2_lemmas.Booleans.{and_false, false_isnt_true, not_true_is_false}
use Rattle.m2_fabric.proofs.Sockets.{among_front, among_part, same_equal}
use Rattle.m2_fabric.proofs.m2_lemmas.Lists.{all_append}
use Rattle.m2_history.proofs.m2_record.AsksJudged.{judged_append}

-- ---- apart

sockets_apart : (here away : SocketId → Bool) → AreOpposed here away → (j k : SocketId) → here j ≡ true → away k ≡ true → same_socket j k ≡ false
sockets_apart here away opposed j k h a = not_true_is_false (same_socket j k) (λ same. opposed k (ap here (sym (same_equal j k same)) ∙ h) a)

ends_apart : (here away : SocketId → Bool) → AreOpposed here away → (d e : EndNow) → one.IsEndAt here away d → one.IsEndAt away here e → same_end d e ≡ false
ends_apart here away opposed d e (inl (o, a)) (inl (q, h)) = ap (λ b. b && same_side d.opener e.opener) (sockets_apart away here (opposed_too here away opposed) d.socket e.socket a h)
ends_apart here away opposed d e (inr (o, h)) (inr (q, a)) = ap (λ b. b && same_side d.opener e.opener) (sockets_apart here away opposed d.socket e.socket h a)
ends_apart here away opposed d e (inl (o, a)) (inr (q, b)) =
    ap (λ c. same_socket d.socket e.socket && same_side c e.opener) o ∙ ap (λ c. same_socket d.socket e.socket && c) q ∙ and_false (same_socket d.socket e.socket)
ends_apart here away opposed d e (inr (o, h)) (inl (q, b)) =
    ap (λ c. same_socket d.socket e.socket && same_side c e.opener) o ∙ ap (λ c. same_socket d.socket e.socket && same_side false c) q ∙ and_false (same_socket d.socket e.socket)

-- ---- halves of what a side has judged

have_halves : (trails : List TrailNow) (all : List LooseNow) (js : List Judgement) →
    ((k : SocketId) → is_among k (map (λ (j : Judgement). j.socket) js) ≡ true → is_among k (half_sockets trails all) ≡ true) → HaveHalves trails all js
have_halves trails all js h =
    each_by (λ (j : Judgement). is_among j.socket (half_sockets trails all) ≡ true) js (λ j i. h j.socket (among_mapped (λ (x : Judgement). x.socket) j j.socket js i refl))

among_first : (k : SocketId) (trails : List TrailNow) (ls ms : List LooseNow) → is_among k (trail_sockets trails ++ sockets_left ls) ≡ true → is_among k (half_sockets trails (ls ++ ms)) ≡ true
among_first k trails ls ms h = by (among_part k (trail_sockets trails) (sockets_left ls) h)
  where
    by : (is_among k (trail_sockets trails) ≡ true) ⊎ (is_among k (sockets_left ls) ≡ true) → is_among k (half_sockets trails (ls ++ ms)) ≡ true
    by (inl i) = among_front k (trail_sockets trails) (sockets_left (ls ++ ms)) i
    by (inr i) =
        among_back k (trail_sockets trails) (sockets_left (ls ++ ms))
        (ap (is_among k) (map-append (λ (l : LooseNow). l.trail.socket) ls ms) ∙ among_front k (sockets_left ls) (sockets_left ms) i)

among_last : (k : SocketId) (trails : List TrailNow) (ls ms : List LooseNow) → is_among k (trail_sockets trails ++ sockets_left ms) ≡ true → is_among k (half_sockets trails (ls ++ ms)) ≡ true
among_last k trails ls ms h = by (among_part k (trail_sockets trails) (sockets_left ms) h)
  where
    by : (is_among k (trail_sockets trails) ≡ true) ⊎ (is_among k (sockets_left ms) ≡ true) → is_among k (half_sockets trails (ls ++ ms)) ≡ true
    by (inl i) = among_front k (trail_sockets trails) (sockets_left (ls ++ ms)) i
    by (inr i) =
        among_back k (trail_sockets trails) (sockets_left (ls ++ ms))
        (ap (is_among k) (map-append (λ (l : LooseNow). l.trail.socket) ls ms) ∙ among_back k (sockets_left ls) (sockets_left ms) i)

-- asks of two lists, on a socket on which one of them has judged none
judged_first : (k : SocketId) (js ks : List Judgement) → is_among k (map (λ (j : Judgement). j.socket) ks) ≡ false → judged_on k (js ++ ks) ≡ judged_on k js
judged_first k js ks none = judged_append k js ks ∙ ap (λ l. judged_on k js ++ l) (not_judged_on k ks none) ∙ append-nil (judged_on k js)

judged_last : (k : SocketId) (js ks : List Judgement) → is_among k (map (λ (j : Judgement). j.socket) js) ≡ false → judged_on k (js ++ ks) ≡ judged_on k ks
judged_last k js ks none = judged_append k js ks ∙ ap (λ l. l ++ judged_on k ks) (not_judged_on k js none)

-- a socket that is among two lists, and not among one
other_part : (k : SocketId) (xs ys : List SocketId) → is_among k (xs ++ ys) ≡ true → is_among k ys ≡ false → is_among k xs ≡ true
other_part k xs ys h none = by (among_part k xs ys h)
  where
    by : (is_among k xs ≡ true) ⊎ (is_among k ys ≡ true) → is_among k xs ≡ true
    by (inl i) = i
    by (inr i) = absurd (false_isnt_true (sym none ∙ i))

last_part : (k : SocketId) (xs ys : List SocketId) → is_among k (xs ++ ys) ≡ true → is_among k xs ≡ false → is_among k ys ≡ true
last_part k xs ys h none = by (among_part k xs ys h)
  where
    by : (is_among k xs ≡ true) ⊎ (is_among k ys ≡ true) → is_among k ys ≡ true
    by (inl i) = absurd (false_isnt_true (sym none ∙ i))
    by (inr i) = i

-- ---- both sides

module _ (here away : SocketId → Bool) (opposed : AreOpposed here away) (p q : PartsNow) (ls ms : List LooseNow) (near : StandsAt here away p ls) (far : StandsAt away here q ms) where
  abbrev pub x : BothNow
  x = record { a = p; b = q; loose = ls ++ ms }

  abbrev back : AreOpposed away here
  back = opposed_too here away opposed

  abbrev mine : List Judgement
  mine = judgements_in p.journal

  abbrev theirs : List Judgement
  theirs = judgements_in q.journal

  pub whole_all : AllByRecursion IsWholeHalf (ls ++ ms)
  whole_all = all_append IsWholeHalf ls ms near.whole far.whole

  -- a half is told what its side has judged, and the other has judged nothing there
  near_so : (l : LooseNow) → IsWholeHalf l → here l.end.id ≡ true → (is_among l.trail.socket (judged_sockets p.journal) ≡ true → l.trail.judged ≡ judged_on l.trail.socket mine) → IsJudgedSo (mine ++ theirs) l
  near_so l whole comes told among =
      let none : is_among l.trail.socket (judged_sockets q.journal) ≡ false = one.unasked away here back q ms far l.trail.socket (ap here whole.socket ∙ comes) in
      told (other_part l.trail.socket (judged_sockets p.journal) (judged_sockets q.journal) (sym (ap (is_among l.trail.socket) (map-append (λ (j : Judgement). j.socket) mine theirs)) ∙ among) none)
      ∙ sym (judged_first l.trail.socket mine theirs none)

  far_so : (l : LooseNow) → IsWholeHalf l → away l.end.id ≡ true → (is_among l.trail.socket (judged_sockets q.journal) ≡ true → l.trail.judged ≡ judged_on l.trail.socket theirs) → IsJudgedSo (mine ++ theirs) l
  far_so l whole comes told among =
      let none : is_among l.trail.socket (judged_sockets p.journal) ≡ false = one.unasked here away opposed p ls near l.trail.socket (ap away whole.socket ∙ comes) in
      told (last_part l.trail.socket (judged_sockets p.journal) (judged_sockets q.journal) (sym (ap (is_among l.trail.socket) (map-append (λ (j : Judgement). j.socket) mine theirs)) ∙ among) none)
      ∙ sym (judged_last l.trail.socket mine theirs none)

  of_link : AreOfLink x
  of_link = record {
    near = have_halves p.trails (ls ++ ms) mine (λ k h. among_first k p.trails ls ms (near.halves k h));
    far = have_halves q.trails (ls ++ ms) theirs (λ k h. among_last k q.trails ls ms (far.halves k h));
    loose = all_append (IsJudgedSo (mine ++ theirs)) ls ms (three near_so ls near.whole near.comes near.judged) (three far_so ms far.whole far.comes far.judged);
  }
    where
      three : {P Q R S : LooseNow → Type 0} → ((l : LooseNow) → P l → Q l → R l → S l) → (xs : List LooseNow) → AllByRecursion P xs → AllByRecursion Q xs → AllByRecursion R xs → AllByRecursion S xs
      three f [] a b c = tt
      three f (l ∷ xs) a b c = (f l a.0 b.0 c.0, three f xs a.1 b.1 c.1)

  pub are_kept : AreKept x
  are_kept = record { near = near.kept; far = far.kept; whole = whole_all; link = of_link }

  -- ---- apart

  abbrev near_loose : List TrailNow
  near_loose = loose_halves p.journal q.journal ls

  abbrev far_loose : List TrailNow
  far_loose = loose_halves p.journal q.journal ms

  halves_apart : IsDistinct same_socket (trail_sockets (halves_of x))
  halves_apart =
      let parts : trail_sockets (halves_of x) ≡ (trail_sockets p.trails ++ trail_sockets q.trails) ++ (trail_sockets near_loose ++ trail_sockets far_loose) =
      ap (λ ts. trail_sockets ((p.trails ++ q.trails) ++ ts)) (loose_both p.journal q.journal ls ms)
      ∙ map-append (λ (t : TrailNow). t.socket) (p.trails ++ q.trails) (near_loose ++ far_loose)
      ∙ ap (λ l. l ++ trail_sockets (near_loose ++ far_loose)) (map-append (λ (t : TrailNow). t.socket) p.trails q.trails)
      ∙ ap (λ l. (trail_sockets p.trails ++ trail_sockets q.trails) ++ l) (map-append (λ (t : TrailNow). t.socket) near_loose far_loose) in
      subst (IsDistinct same_socket) (sym parts)
      (four_apart same_socket (λ k. here k ≡ true) (λ k. away k ≡ true) (sockets_apart here away opposed) (sockets_apart away here back)
      (trail_sockets p.trails) (trail_sockets q.trails) (trail_sockets near_loose) (trail_sockets far_loose)
      (one.trails_come here away opposed p ls near) (one.trails_come away here back q ms far)
      (loose_named (λ k. here k ≡ true) p.journal q.journal ls near.whole (one.left_come here away opposed p ls near))
      (loose_named (λ k. away k ≡ true) p.journal q.journal ms far.whole (one.left_come away here back q ms far))
      (one.trails_single here away opposed p ls near) (one.trails_single away here back q ms far)
      (loose_single p.journal q.journal ls near.whole near.single) (loose_single p.journal q.journal ms far.whole far.single)
      (one.trails_from_left here away opposed p ls near p.journal q.journal) (one.trails_from_left away here back q ms far p.journal q.journal))

  ends_all_apart : IsDistinct same_end (ends_of x)
  ends_all_apart =
      let parts : ends_of x ≡ (map (end_of p.journal) p.ends ++ map (end_of q.journal) q.ends) ++ (loose_ends p.journal q.journal ls ++ loose_ends p.journal q.journal ms) =
      ap (λ es. (map (end_of p.journal) p.ends ++ map (end_of q.journal) q.ends) ++ es) (ends_both p.journal q.journal ls ms) in
      subst (IsDistinct same_end) (sym parts)
      (four_apart same_end (one.IsEndAt here away) (one.IsEndAt away here) (ends_apart here away opposed) (ends_apart away here back)
      (map (end_of p.journal) p.ends) (map (end_of q.journal) q.ends) (loose_ends p.journal q.journal ls) (loose_ends p.journal q.journal ms)
      (one.side_ends here away opposed p ls near) (one.side_ends away here back q ms far)
      (one.left_ends here away opposed p ls near p.journal q.journal) (one.left_ends away here back q ms far p.journal q.journal)
      (ends_single p.journal p.ends near.own) (ends_single q.journal q.ends far.own)
      (loose_ends_single p.journal q.journal ls near.single) (loose_ends_single p.journal q.journal ms far.single)
      (ends_from_loose p.journal p.journal q.journal p.ends ls near.others) (ends_from_loose q.journal p.journal q.journal q.ends ms far.others))

  pub are_told : AreTold x
  are_told = record {
    near = near.tells;
    far = far.tells;
    near_side = near.side;
    far_side = far.side;
    halves = record { each = kept_are_halves x are_kept near.side far.side; apart = halves_apart };
    whole = whole_all;
    apart = ends_all_apart;
  }
