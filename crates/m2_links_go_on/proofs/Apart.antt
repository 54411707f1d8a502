-- Of each socket a link has one end of either kind.
use Rattle.std.proofs.Common.{◌≡◌, ◌⊎◌, inl, inr, Bool, true, false, List, [], ◌∷◌, ◌++◌, map, None, refl, sym, ap, subst, ◌∙◌}
use Rattle.std.specs.List.{AllByRecursion, IsDistinct}
use Rattle.std.proofs.lemmas.List.{map-append}
use Rattle.m2_fabric.specs.declared.socket.SocketId.{SocketId}
use Rattle.m2_fabric.specs.End.{SeenEnd}
use Rattle.m2_fabric.specs.SimFabric.{same_place}
use Rattle.m2_fabric.specs.Sockets.{goes_to, is_among, same_socket}
use Rattle.m2_growth.specs.Halves.{AskedTowards, IsOneOf, asked_on}
use Rattle.m2_growth.specs.Records.{ends_of_all}
use Rattle.m2_growth.proofs.Among.{among_mapped, each_by, mapped_one, of_each}
use Rattle.m2_growth.proofs.Ends.{own_apart, own_first, own_last}
use Rattle.m2_history.specs.Link.{both_of}
use Rattle.m2_history.specs.Woven.{EndNow, end_of, ends_of, half_end, loose_ends}
use Rattle.m2_fabric.proofs.m2_lemmas.Lists.{all_append, all_map}
use Rattle.m2_weave.specs.m2_journal.declared.entry.Entry.{Entry}
use Rattle.m2_growth.proofs.Asked.{end_own}
use Rattle.m2_links_go_on.proofs.LinkRecords.{none_some, one_at, one_own}
use Rattle.m2_links_go_on.proofs.Standing.{ends_single, loose_ends_are, loose_ends_single}
use Rattle.m2_fabric.proofs.m2_lemmas.Booleans.{both_of_and, false_isnt_true, not_true_is_false}
use Rattle.m2_fabric.proofs.Sockets.{same_equal}
use Rattle.m2_history.specs.m2_record.RecordNow as node
use Rattle.m2_history.specs.m2_record.RecordNow.{RecordNow, ids_of}
use Rattle.m2_history.specs.m2_record.Sources.{end_at}
use Rattle.m2_history.specs.m2_trail.Arrivals.{LooseNow}
use Rattle.m2_weave.specs.Strands.{has_opened, journal_of, same_side}
use Rattle.m2_history.specs.WovenLink.{same_end}
use Rattle.m2_history.proofs.Halfway.{apart_from, distinct_join}
use Rattle.m2_links_go_on.specs.Left.{AreLeftNodes, AreTowards, IsHalfOf, IsLeftNode, IsRecordOf, LeftNode, all_halves}
use Rattle.m2_links_go_on.proofs.Places.{IsAtNode, at_node, one_node, other_place}
use Rattle.m2_links_go_on.proofs.LeftSides.{end_kind, opened_goes}

-- ---- halves of all nodes

abbrev ids : List LooseNow → List SocketId
ids ls = map (λ (l : LooseNow). l.end.id) ls

half_ends : (ls : List LooseNow) → ids_of (map (λ (l : LooseNow). l.end) ls) ≡ ids ls
half_ends [] = refl
half_ends (l ∷ ls) = ap (λ ks. l.end.id ∷ ks) (half_ends ls)

node_ids : (n : LeftNode) → IsLeftNode n → IsDistinct same_socket (ids n.halves)
node_ids n is = subst (IsDistinct same_socket) (half_ends n.halves) (own_last (ends_of_all n.records) (map (λ (l : LooseNow). l.end) n.halves) is.own)

half_goes : (n : LeftNode) → IsLeftNode n → (l : LooseNow) → IsOneOf l n.halves → goes_to n.at l.end.id ≡ true
half_goes n is l one = (of_each (IsHalfOf n.at n.records) l n.halves is.halves one).here

all_ids : (ns : List LeftNode) → AllByRecursion IsLeftNode ns → IsDistinct same_place (map (λ (n : LeftNode). n.at) ns) → IsDistinct same_socket (ids (all_halves ns))
unfolding IsDistinct
all_ids [] all d = tt
all_ids (n ∷ ns) all d =
    subst (IsDistinct same_socket) (sym (map-append (λ (l : LooseNow). l.end.id) n.halves (all_halves ns)))
    (distinct_join same_socket (ids n.halves) (ids (all_halves ns)) (node_ids n all.0) (all_ids ns all.1 d.1) apart)
  where
    away : (l m : LooseNow) → IsOneOf l n.halves → IsOneOf m (all_halves ns) → same_socket l.end.id m.end.id ≡ false
    away l m i j = not_true_is_false (same_socket l.end.id m.end.id) (λ same. at_other (at_node ns m j) same)
      where
        at_other : IsAtNode ns m → same_socket l.end.id m.end.id ≡ true → ⊥
        at_other its same =
            other_place n its.node ns m.end.id d.0 its.there (ap (goes_to n.at) (sym (same_equal l.end.id m.end.id same)) ∙ half_goes n all.0 l i)
            (half_goes its.node (of_each IsLeftNode its.node ns all.1 its.there) m its.has)

    apart : apart_from same_socket (ids n.halves) (ids (all_halves ns))
    apart =
        all_map (λ k. AllByRecursion (λ j. same_socket k j ≡ false) (ids (all_halves ns))) (λ (l : LooseNow). l.end.id) n.halves
        (each_by (λ (l : LooseNow). AllByRecursion (λ j. same_socket l.end.id j ≡ false) (ids (all_halves ns))) n.halves
        (λ l i. all_map (λ j. same_socket l.end.id j ≡ false) (λ (m : LooseNow). m.end.id) (all_halves ns) (each_by (λ (m : LooseNow). same_socket l.end.id m.end.id ≡ false) (all_halves ns) (λ m j. away l m i j))))

-- ---- two of one kind on one socket

same_sides : (b c : Bool) → same_side b c ≡ true → b ≡ c
same_sides true true e = refl
same_sides true false e = sym e
same_sides false true e = e
same_sides false false e = refl

-- ---- a record of the node, and all halves

module _ (ns : List LeftNode) (left : AreLeftNodes ns) (n : LeftNode) (n_there : IsOneOf n ns) (r : RecordNow) (one : IsOneOf r n.records) where
  here : IsLeftNode n
  here = of_each IsLeftNode n ns left.each n_there

  its : IsRecordOf n.at r
  its = of_each (IsRecordOf n.at) r n.records here.records one

  -- an end on a socket that it didn't open goes to the node
  goes : (e : SeenEnd) → IsOneOf e (node.ends_of r) → has_opened (journal_of r.journal) e.id ≡ false → goes_to n.at e.id ≡ true
  goes e i closed = by (end_kind r its.is e.id (among_mapped (λ (x : SeenEnd). x.id) e e.id (node.ends_of r) i refl))
    where
      by : (has_opened (journal_of r.journal) e.id ≡ true) ⊎ (is_among e.id (asked_on r) ≡ true) → goes_to n.at e.id ≡ true
      by (inl o) = absurd (false_isnt_true (sym closed ∙ o))
      by (inr a) = of_each (AskedTowards n.at) r n.records here.asked one e.id a

  single : IsDistinct same_end (map (end_of r.journal) (node.ends_of r))
  single = ends_single r.journal (node.ends_of r) (one_own r n.records one (own_first (ends_of_all n.records) (map (λ (l : LooseNow). l.end) n.halves) here.own))

  -- it isn't that of a half
  no_half : (e : SeenEnd) (l : LooseNow) → IsOneOf e (node.ends_of r) → IsOneOf l (all_halves ns) → same_end (end_of r.journal e) (half_end l) ≡ true → ⊥
  no_half e l i j same = by (at_node ns l j)
    where
      parts : (same_socket e.id l.end.id ≡ true) × (same_side (has_opened (journal_of r.journal) e.id) false ≡ true)
      parts = both_of_and (same_socket e.id l.end.id) (same_side (has_opened (journal_of r.journal) e.id) false) same

      equal : e.id ≡ l.end.id
      equal = same_equal e.id l.end.id parts.0

      comes : goes_to n.at l.end.id ≡ true
      comes = ap (goes_to n.at) (sym equal) ∙ goes e i (same_sides (has_opened (journal_of r.journal) e.id) false parts.1)

      by : IsAtNode ns l → ⊥
      by at =
          let is : at.node ≡ n = one_node ns at.node n l.end.id left.apart at.there n_there (half_goes at.node (of_each IsLeftNode at.node ns left.each at.there) l at.has) comes in
          let has : IsOneOf l n.halves = subst (λ (y : LeftNode). IsOneOf l y.halves) is at.has in
          clash has (own_apart (ends_of_all n.records) (map (λ (y : LooseNow). y.end) n.halves) here.own e.id)
        where
          clash : IsOneOf l n.halves → (end_at (ends_of_all n.records) e.id ≡ None) ⊎ (end_at (map (λ (y : LooseNow). y.end) n.halves) e.id ≡ None) → ⊥
          clash has (inl none) =
              none_some e (end_at (ends_of_all n.records) e.id)
              (one_at r n.records one (own_first (ends_of_all n.records) (map (λ (y : LooseNow). y.end) n.halves) here.own) e.id e
              (end_own e (node.ends_of r) (one_own r n.records one (own_first (ends_of_all n.records) (map (λ (y : LooseNow). y.end) n.halves) here.own)) i)) none
          clash has (inr none) =
              none_some l.end (end_at (map (λ (y : LooseNow). y.end) n.halves) e.id)
              (ap (end_at (map (λ (y : LooseNow). y.end) n.halves)) equal
              ∙ end_own l.end (map (λ (y : LooseNow). y.end) n.halves) (own_last (ends_of_all n.records) (map (λ (y : LooseNow). y.end) n.halves) here.own) (mapped_one (λ (y : LooseNow). y.end) l n.halves has)) none

  from_halves : (a b : List Entry) → apart_from same_end (map (end_of r.journal) (node.ends_of r)) (loose_ends a b (all_halves ns))
  from_halves a b =
      all_map (λ d. AllByRecursion (λ y. same_end d y ≡ false) (loose_ends a b (all_halves ns))) (end_of r.journal) (node.ends_of r)
      (each_by (λ (e : SeenEnd). AllByRecursion (λ y. same_end (end_of r.journal e) y ≡ false) (loose_ends a b (all_halves ns))) (node.ends_of r)
      (λ e i. loose_ends_are (λ y. same_end (end_of r.journal e) y ≡ false) a b (all_halves ns)
      (each_by (λ (l : LooseNow). same_end (end_of r.journal e) (half_end l) ≡ false) (all_halves ns) (λ l j. not_true_is_false (same_end (end_of r.journal e) (half_end l)) (no_half e l i j)))))

-- ---- two records that are towards each other

module _ (ns : List LeftNode) (left : AreLeftNodes ns) (n m : LeftNode) (a b : RecordNow) (t : AreTowards ns n m a b) where
  a_is : IsRecordOf n.at a
  a_is = its ns left n t.near a t.mine

  b_is : IsRecordOf m.at b
  b_is = its ns left m t.far b t.theirs

  -- no socket goes to both nodes
  pub opposed : (k : SocketId) → goes_to n.at k ≡ true → goes_to m.at k ≡ true → ⊥
  opposed k p q = false_isnt_true (sym (a_is.elsewhere k (ap (λ x. goes_to x k) t.a_peer ∙ q)) ∙ p)

  pub a_opened : (k : SocketId) → has_opened (journal_of a.journal) k ≡ true → goes_to m.at k ≡ true
  a_opened k o = ap (λ x. goes_to x k) (sym t.a_peer) ∙ opened_goes a a_is.is k o

  pub b_opened : (k : SocketId) → has_opened (journal_of b.journal) k ≡ true → goes_to n.at k ≡ true
  b_opened k o = ap (λ x. goes_to x k) (sym t.b_peer) ∙ opened_goes b b_is.is k o

  two : (e f : SeenEnd) → IsOneOf e (node.ends_of a) → IsOneOf f (node.ends_of b) → same_end (end_of a.journal e) (end_of b.journal f) ≡ true → ⊥
  two e f i j same = by (has_opened (journal_of a.journal) e.id) refl
    where
      parts : (same_socket e.id f.id ≡ true) × (same_side (has_opened (journal_of a.journal) e.id) (has_opened (journal_of b.journal) f.id) ≡ true)
      parts = both_of_and (same_socket e.id f.id) (same_side (has_opened (journal_of a.journal) e.id) (has_opened (journal_of b.journal) f.id)) same

      equal : e.id ≡ f.id
      equal = same_equal e.id f.id parts.0

      kinds : has_opened (journal_of a.journal) e.id ≡ has_opened (journal_of b.journal) f.id
      kinds = same_sides (has_opened (journal_of a.journal) e.id) (has_opened (journal_of b.journal) f.id) parts.1

      by : (c : Bool) → has_opened (journal_of a.journal) e.id ≡ c → ⊥
      by true o = opposed f.id (b_opened f.id (sym kinds ∙ o)) (ap (goes_to m.at) (sym equal) ∙ a_opened e.id o)
      by false c = opposed f.id (ap (goes_to n.at) (sym equal) ∙ goes ns left n t.near a t.mine e i c) (goes ns left m t.far b t.theirs f j (sym kinds ∙ c))

  abbrev near_ends : List EndNow
  near_ends = map (end_of a.journal) (node.ends_of a)

  abbrev far_ends : List EndNow
  far_ends = map (end_of b.journal) (node.ends_of b)

  near_from_far : apart_from same_end near_ends far_ends
  near_from_far =
      all_map (λ d. AllByRecursion (λ y. same_end d y ≡ false) far_ends) (end_of a.journal) (node.ends_of a)
      (each_by (λ (e : SeenEnd). AllByRecursion (λ y. same_end (end_of a.journal e) y ≡ false) far_ends) (node.ends_of a)
      (λ e i. all_map (λ y. same_end (end_of a.journal e) y ≡ false) (end_of b.journal) (node.ends_of b)
      (each_by (λ (f : SeenEnd). same_end (end_of a.journal e) (end_of b.journal f) ≡ false) (node.ends_of b) (λ f j. not_true_is_false (same_end (end_of a.journal e) (end_of b.journal f)) (two e f i j)))))

  pub apart : IsDistinct same_end (ends_of (both_of a b (all_halves ns)))
  apart =
      distinct_join same_end (near_ends ++ far_ends) (loose_ends a.journal b.journal (all_halves ns))
      (distinct_join same_end near_ends far_ends (single ns left n t.near a t.mine) (single ns left m t.far b t.theirs) near_from_far)
      (loose_ends_single a.journal b.journal (all_halves ns) (all_ids ns left.each left.apart))
      (all_append (λ d. AllByRecursion (λ y. same_end d y ≡ false) (loose_ends a.journal b.journal (all_halves ns))) near_ends far_ends
      (from_halves ns left n t.near a t.mine a.journal b.journal) (from_halves ns left m t.far b t.theirs a.journal b.journal))
