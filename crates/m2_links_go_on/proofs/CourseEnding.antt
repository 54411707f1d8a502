-- What is left of a center that was on its course.
use Rattle.std.proofs.Common.{◌≡◌, ◌⊎◌, inl, inr, ℕ, true, List, [], ◌∷◌, ◌++◌, map, refl, sym, ap, subst, ◌∙◌}
use Rattle.std.specs.List.{AllByRecursion}
use Rattle.std.proofs.lemmas.List.{map-append}
use Rattle.m2_fabric.specs.declared.socket.SocketId.{SocketId}
use Rattle.m2_fabric.specs.End.{SeenEnd}
use Rattle.m2_fabric.specs.Sockets.{is_among}
use Rattle.m2_fabric.proofs.Sockets.{among_front, among_part}
use Rattle.m2_growth.specs.m2_bytes_fit.m2_trail.Arrivals.{LooseNow, left_of}
use Rattle.m2_cluster.specs.m2_center.Center.{CenterNow}
use Rattle.m2_cluster.specs.m2_center.Finishing.{rest_of}
use Rattle.m2_cluster.specs.m2_center.m2_record.RecordNow.{ids_of}
use Rattle.m2_cluster.specs.m2_center.m2_turn.Halves.{AllHalves, after_leaving}
use Rattle.m2_cluster.specs.m2_center.m2_turn.Sessions.{PendingNow}
use Rattle.m2_growth.specs.Ends.{AreOfTheirOwn}
use Rattle.m2_growth.specs.Holding.{ends_held}
use Rattle.m2_growth.specs.Records.{ends_of_all}
use Rattle.m2_growth.proofs.Among.{among_back, whose, of_each}
use Rattle.m2_growth.proofs.Ends.{later_behind, later_swapped}
use Rattle.m2_history.proofs.Kept as kept
use Rattle.m2_weave.proofs.Fitting.{same-bool}
use Rattle.m2_links_go_on.specs.Course.{holding_in}
use Rattle.m2_links_go_on.specs.CourseLaws.{CentersRunTheirCourse}
use Rattle.m2_links_go_on.specs.CourseEnded.{ends_left}
use Rattle.m2_links_go_on.specs.Made.{NodeMade}

-- ---- ends in another order

-- the ends of halves, those that are over first
abbrev turned : AllHalves → List SeenEnd
turned h = map (λ (l : LooseNow). l.end) h.loose ++ map (λ (p : PendingNow). p.half.end) h.pending

left_ends : (ps : List PendingNow) → map (λ (l : LooseNow). l.end) (map (λ (p : PendingNow). left_of p.half) ps) ≡ map (λ (p : PendingNow). p.half.end) ps
left_ends [] = refl
left_ends (p ∷ ps) = ap (λ l. p.half.end ∷ l) (left_ends ps)

left_are : (h : AllHalves) → map (λ (l : LooseNow). l.end) (after_leaving h).loose ≡ turned h
left_are h =
    map-append (λ (l : LooseNow). l.end) h.loose (map (λ (p : PendingNow). left_of p.half) h.pending)
    ∙ ap (λ l. map (λ (l : LooseNow). l.end) h.loose ++ l) (left_ends h.pending)

among_joined : (k : SocketId) (xs ys : List SeenEnd) → (is_among k (ids_of xs) ≡ true) ⊎ (is_among k (ids_of ys) ≡ true) → is_among k (ids_of (xs ++ ys)) ≡ true
among_joined k xs ys (inl is) = subst (λ l. is_among k l ≡ true) (sym (map-append (λ (e : SeenEnd). e.id) xs ys)) (among_front k (ids_of xs) (ids_of ys) is)
among_joined k xs ys (inr is) = subst (λ l. is_among k l ≡ true) (sym (map-append (λ (e : SeenEnd). e.id) xs ys)) (among_back k (ids_of xs) (ids_of ys) is)

among_of : (k : SocketId) (xs ys : List SeenEnd) → is_among k (ids_of (xs ++ ys)) ≡ true → (is_among k (ids_of xs) ≡ true) ⊎ (is_among k (ids_of ys) ≡ true)
among_of k xs ys is = among_part k (ids_of xs) (ids_of ys) (subst (λ l. is_among k l ≡ true) (map-append (λ (e : SeenEnd). e.id) xs ys) is)

behind : (k : SocketId) (front xs ys : List SeenEnd) → (is_among k (ids_of xs) ≡ true → is_among k (ids_of ys) ≡ true) → is_among k (ids_of (front ++ xs)) ≡ true → is_among k (ids_of (front ++ ys)) ≡ true
behind k front xs ys on is = at (among_of k front xs is)
  where
    at : (is_among k (ids_of front) ≡ true) ⊎ (is_among k (ids_of xs) ≡ true) → is_among k (ids_of (front ++ ys)) ≡ true
    at (inl here) = among_joined k front ys (inl here)
    at (inr here) = among_joined k front ys (inr (on here))

-- ---- what is left

module _ {D : Type 0} (c : CenterNow D) where
  abbrev pending_ends : List SeenEnd
  pending_ends = map (λ (p : PendingNow). p.half.end) c.halves.pending

  abbrev loose_ends : List SeenEnd
  loose_ends = map (λ (l : LooseNow). l.end) c.halves.loose

  left_so : ends_left (rest_of c) ≡ ends_of_all c.records ++ turned c.halves
  left_so = ap (λ l. ends_of_all c.records ++ l) (left_are c.halves)

  own_so : AreOfTheirOwn (ends_held (holding_in c)) → AreOfTheirOwn (ends_left (rest_of c))
  own_so own = subst AreOfTheirOwn (sym left_so) (later_behind (ends_of_all c.records) (pending_ends ++ loose_ends) (loose_ends ++ pending_ends) (later_swapped pending_ends loose_ends) own).own

  there : (k : SocketId) → is_among k (ids_of (ends_held (holding_in c))) ≡ true → is_among k (ids_of (ends_left (rest_of c))) ≡ true
  there k is = subst (λ l. is_among k (ids_of l) ≡ true) (sym left_so)
      (behind k (ends_of_all c.records) (pending_ends ++ loose_ends) (loose_ends ++ pending_ends) (kept.turned k pending_ends loose_ends) is)

  back : (k : SocketId) → is_among k (ids_of (ends_left (rest_of c))) ≡ true → is_among k (ids_of (ends_held (holding_in c))) ≡ true
  back k is = behind k (ends_of_all c.records) (loose_ends ++ pending_ends) (pending_ends ++ loose_ends) (kept.turned k loose_ends pending_ends)
      (subst (λ l. is_among k (ids_of l) ≡ true) left_so is)

  made_of : (made : List SocketId) (es : List SeenEnd) → AllByRecursion (λ (e : SeenEnd). is_among e.id made ≡ true) es → (k : SocketId) → is_among k (ids_of es) ≡ true → is_among k made ≡ true
  made_of made es all k is =
      let found = whose (λ (e : SeenEnd). e.id) k es is in
      ap (λ j. is_among j made) found.is ∙ of_each (λ (e : SeenEnd). is_among e.id made ≡ true) found.item es all found.there

pub centers_run_their_course : (D C : Type 0) (may_give : C → ℕ → Type 0) → CentersRunTheirCourse D C may_give
centers_run_their_course D C may_give clock moment node c was = record {
  given = was.given;
  at = ap (λ (n : NodeMade). n.at) was.made;
  sides = ap (λ (n : NodeMade). n.sides) was.made;
  own = own_so c was.own.held;
  once = was.once;
  sockets = λ k. same-bool (is_among k c.port.made) (is_among k (ids_of (ends_left (rest_of c)))) (λ is. there c k (was.held k is))
      (λ is. made_of c c.port.made (ends_held (holding_in c)) was.own.made k (back c k is));
  missed = was.missed;
  last = was.last;
  dials = was.dials;
}
