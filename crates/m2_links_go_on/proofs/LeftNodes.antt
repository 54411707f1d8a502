-- Two nodes whose strands have an order are joined, as weaving asks of a link.
use Rattle.std.proofs.Common.{◌≡◌, ◌⊎◌, inl, inr, ℕ, Bool, true, false, ◌&&◌, ◌||◌, not, if◌then◌else◌, List, [], ◌∷◌, ◌++◌, map, refl, sym, ap, subst, ◌∙◌, append-nil}
use Rattle.std.specs.List.{AllByRecursion, flat_map}
use Rattle.std.proofs.lemmas.Grind.{flat_map-append}
use Rattle.std.proofs.lemmas.List.{map-append}
use Rattle.m2_growth.specs.AskLaws.{AskersAreTheOpeners}
use Rattle.m2_weave.specs.m2_control.Laws.{HasAddrRanges}
use Rattle.m2_fabric.specs.declared.socket.SocketId.{SocketId}
use Rattle.m2_fabric.specs.Sockets.{goes_to, is_among, same_socket}
use Rattle.m2_growth.proofs.m2_bytes_fit.Judges.{not_judged_on}
use Rattle.m2_growth.specs.m2_bytes_fit.Halves.{KeepsRanges}
use Rattle.m2_growth.specs.m2_bytes_fit.Texts.{CanBePosted}
use Rattle.m2_growth.specs.Halves.{AskedTowards, HasItsHalves, IsOneOf, asked_on, sockets_left, sockets_taken}
use Rattle.m2_growth.proofs.Among.{among_back, among_mapped, each_by, of_each, whose}
use Rattle.m2_fabric.proofs.Sockets.{among_front, among_part}
use Rattle.m2_weave.specs.m2_handshake.Laws.{IsPrefix}
use Rattle.m2_history.specs.Link.{AreOfLink, HaveHalves, IsJudgedSo, both_of, half_sockets}
use Rattle.m2_history.specs.Parts.{PartsNow}
use Rattle.m2_history.specs.Woven.{BothNow, end_of, is_of_link, knows, loose_ends}
use Rattle.m2_fabric.proofs.m2_lemmas.Lists.{all_append}
use Rattle.m2_fabric.proofs.m2_lemmas.Booleans.{false_isnt_true, not_true_is_false, one_of_or, or_right, or_true}
use Rattle.m2_weave.specs.m2_journal.Lawful.{judged_on}
use Rattle.m2_weave.specs.m2_journal.State.{Judgement}
use Rattle.m2_weave.specs.m2_journal.declared.entry.Entry.{Entry}
use Rattle.m2_weave.specs.m2_journal.declared.entry.Entry.TheVariants as entry
use Rattle.m2_links_go_on.proofs.LinkRecords.{knows_kind}
use Rattle.m2_links_go_on.proofs.Standing.{judged_sockets}
use Rattle.m2_history.specs.m2_record.RecordNow as node
use Rattle.m2_history.specs.m2_record.RecordNow.{RecordNow}
use Rattle.m2_history.specs.m2_record.Sources.{end_at, put_of}
use Rattle.m2_history.specs.m2_record.TakenTrails.{judgements_in}
use Rattle.m2_history.specs.m2_trail.Arrivals.{LooseNow}
use Rattle.m2_history.specs.m2_trail.Trails.{TrailNow, opener_of}
use Rattle.m2_weave.specs.WeaveLaws.{ReadWasWritten}
use Rattle.m2_weave.specs.Strands.{has_opened, journal_of}
use Rattle.m2_history.specs.Actors.{Actor, actors_of_side, is_near, loose_actors, of_half, part_of, taken_half, trail_by}
use Rattle.m2_history.specs.WovenLaws.{RecordsAreSides}
use Rattle.m2_history.specs.WovenLink.{IsLink, IsLooseBeside, IsOrderOf, IsSideOf, LinkNow, items_in, trails_of}
use Rattle.m2_history.proofs.Bytes.{end_there, of_left, of_right}
use Rattle.m2_history.proofs.m2_record.AsksJudged.{judged_append}
use Rattle.m2_links_go_on.specs.LeftLaws.{LeftAreOfLink, PostsFit, WovenNodesAreJoined, link_left}
use Rattle.m2_links_go_on.specs.Left.{AreLeftNodes, AreTowards, IsHalfOf, IsLeftNode, IsRecordOf, LeftNode, all_halves}
use Rattle.m2_links_go_on.proofs.Apart as apart
use Rattle.m2_links_go_on.proofs.Got as got
use Rattle.m2_links_go_on.proofs.Places.{IsAtNode, at_node, of_node, one_node}
use Rattle.m2_links_go_on.proofs.LeftSides.{opened_end}
use Rattle.m2_links_go_on.proofs.LeftTold as told

-- ---- the trails of all halves

module _ (P : TrailNow → Type 0) where
  taken_so : (near : Bool) (p : PartsNow) (ts : List TrailNow) → AllByRecursion P ts → AllByRecursion P (flat_map trail_by (map (taken_half near p.ends) ts))
  taken_so near p [] all = tt
  taken_so near p (u ∷ ts) all = (all.0, taken_so near p ts all.1)

  loose_so : (a b : List Entry) (ls : List LooseNow) → AllByRecursion (λ (l : LooseNow). P l.trail) ls → AllByRecursion P (flat_map trail_by (loose_actors a b ls))
  loose_so a b [] all = tt
  loose_so a b (l ∷ ls) all = at (is_of_link a b l) (loose_so a b ls all.1)
    where
      at : (c : Bool) → AllByRecursion P (flat_map trail_by (loose_actors a b ls)) → AllByRecursion P (flat_map trail_by ((if c then of_half (is_near a b l.trail.socket) l.trail l.end.log ∷ [] else []) ++ loose_actors a b ls))
      at true rest = (all.0, rest)
      at false rest = rest

  joined_so : (xs ys : List Actor) → AllByRecursion P (flat_map trail_by xs) → AllByRecursion P (flat_map trail_by ys) → AllByRecursion P (flat_map trail_by (xs ++ ys))
  joined_so xs ys p q = subst (AllByRecursion P) (sym (flat_map-append trail_by xs ys)) (all_append P (flat_map trail_by xs) (flat_map trail_by ys) p q)

  trails_so : (y : BothNow) → AllByRecursion P y.a.trails → AllByRecursion P y.b.trails → AllByRecursion (λ (l : LooseNow). P l.trail) y.loose → AllByRecursion P (trails_of y)
  trails_so y near far loose =
      joined_so (actors_of_side true y.a ++ actors_of_side false y.b) (loose_actors y.a.journal y.b.journal y.loose)
      (joined_so (actors_of_side true y.a) (actors_of_side false y.b) (taken_so true y.a y.a.trails near) (taken_so false y.b y.b.trails far)) (loose_so y.a.journal y.b.journal y.loose loose)

-- what it has judged asks on it knows
knows_asked : (k : SocketId) (es : List Entry) → is_among k (judged_sockets es) ≡ true → knows es k ≡ true
knows_asked k [] asked = absurd (false_isnt_true asked)
knows_asked k (entry.Opened y ∷ es) asked = or_right (same_socket k y) (knows es k) (knows_asked k es asked)
knows_asked k (entry.Judged y ask number answer ∷ es) asked = at (same_socket k y) asked (knows_asked k es)
  where
    at : (c : Bool) → c || is_among k (judged_sockets es) ≡ true → (is_among k (judged_sockets es) ≡ true → knows es k ≡ true) → c || knows es k ≡ true
    at true h rest = refl
    at false h rest = rest h
knows_asked k (e ∷ es) asked = knows_asked k es asked

-- ---- two records that are towards each other

module _ (ns : List LeftNode) (left : AreLeftNodes ns) (n m : LeftNode) (a b : RecordNow) (t : AreTowards ns n m a b) where
  here : IsLeftNode n
  here = of_each IsLeftNode n ns left.each t.near

  there : IsLeftNode m
  there = of_each IsLeftNode m ns left.each t.far

  a_is : IsRecordOf n.at a
  a_is = of_each (IsRecordOf n.at) a n.records here.records t.mine

  b_is : IsRecordOf m.at b
  b_is = of_each (IsRecordOf m.at) b m.records there.records t.theirs

  abbrev x : BothNow
  x = both_of a b (all_halves ns)

  opposed : (k : SocketId) → goes_to n.at k ≡ true → goes_to m.at k ≡ true → ⊥
  opposed = apart.opposed ns left n m a b t

  a_asked : (k : SocketId) → is_among k (asked_on a) ≡ true → goes_to n.at k ≡ true
  a_asked k asked = of_each (AskedTowards n.at) a n.records here.asked t.mine k asked

  b_asked : (k : SocketId) → is_among k (asked_on b) ≡ true → goes_to m.at k ≡ true
  b_asked k asked = of_each (AskedTowards m.at) b m.records there.asked t.theirs k asked

  -- ---- whose a half is

  abbrev NearHas : LooseNow → Type 0
  NearHas l = IsOneOf l n.halves × ((has_opened (journal_of b.journal) l.trail.socket ≡ true) ⊎ (is_among l.trail.socket (asked_on a) ≡ true))

  abbrev FarHas : LooseNow → Type 0
  FarHas l = IsOneOf l m.halves × ((has_opened (journal_of a.journal) l.trail.socket ≡ true) ⊎ (is_among l.trail.socket (asked_on b) ≡ true))

  its_half : (l : LooseNow) (at : IsAtNode ns l) → IsHalfOf at.node.at at.node.records l
  its_half l at = of_each (IsHalfOf at.node.at at.node.records) l at.node.halves (of_each IsLeftNode at.node ns left.each at.there).halves at.has

  goes_there : (l : LooseNow) (at : IsAtNode ns l) → goes_to at.node.at l.trail.socket ≡ true
  goes_there l at = let half = its_half l at in ap (goes_to at.node.at) half.whole.socket ∙ half.here

  near_has : (l : LooseNow) → IsAtNode ns l → goes_to n.at l.trail.socket ≡ true → IsOneOf l n.halves
  near_has l at goes = subst (λ (y : LeftNode). IsOneOf l y.halves) (one_node ns at.node n l.trail.socket left.apart at.there t.near (goes_there l at) goes) at.has

  far_has : (l : LooseNow) → IsAtNode ns l → goes_to m.at l.trail.socket ≡ true → IsOneOf l m.halves
  far_has l at goes = subst (λ (y : LeftNode). IsOneOf l y.halves) (one_node ns at.node m l.trail.socket left.apart at.there t.far (goes_there l at) goes) at.has

  who : (l : LooseNow) → IsOneOf l (all_halves ns) → is_of_link a.journal b.journal l ≡ true → NearHas l ⊎ FarHas l
  who l one its = by (one_of_or (knows a.journal k) (knows b.journal k) (ap (λ j. knows a.journal j || knows b.journal j) (its_half l at).whole.socket ∙ its))
    where
      k : SocketId
      k = l.trail.socket

      at : IsAtNode ns l
      at = at_node ns l one

      of_a : (has_opened (journal_of a.journal) k ≡ true) ⊎ (is_among k (judged_sockets a.journal) ≡ true) → NearHas l ⊎ FarHas l
      of_a (inl o) = inr (far_has l at (apart.a_opened ns left n m a b t k o), inl o)
      of_a (inr asked) = inl (near_has l at (a_asked k asked), inr asked)

      of_b : (has_opened (journal_of b.journal) k ≡ true) ⊎ (is_among k (judged_sockets b.journal) ≡ true) → NearHas l ⊎ FarHas l
      of_b (inl o) = inl (near_has l at (apart.b_opened ns left n m a b t k o), inl o)
      of_b (inr asked) = inr (far_has l at (b_asked k asked), inr asked)

      by : (knows a.journal k ≡ true) ⊎ (knows b.journal k ≡ true) → NearHas l ⊎ FarHas l
      by (inl known) = of_a (knows_kind k a.journal known)
      by (inr known) = of_b (knows_kind k b.journal known)

  -- ---- on which side it is

  unopened : (k : SocketId) → goes_to n.at k ≡ true → has_opened (journal_of a.journal) k ≡ false
  unopened k goes = not_true_is_false (has_opened (journal_of a.journal) k) (λ o. opposed k goes (apart.a_opened ns left n m a b t k o))

  near_is : (k : SocketId) → goes_to n.at k ≡ true → (has_opened (journal_of b.journal) k ≡ true) ⊎ (is_among k (asked_on a) ≡ true) → is_near a.journal b.journal k ≡ true
  near_is k goes which = ap (λ o. not o && (has_opened (journal_of b.journal) k || knows a.journal k)) (unopened k goes) ∙ by which
    where
      by : (has_opened (journal_of b.journal) k ≡ true) ⊎ (is_among k (asked_on a) ≡ true) → (has_opened (journal_of b.journal) k || knows a.journal k) ≡ true
      by (inl o) = ap (λ c. c || knows a.journal k) o
      by (inr asked) = ap (λ c. has_opened (journal_of b.journal) k || c) (knows_asked k a.journal asked) ∙ or_true (has_opened (journal_of b.journal) k)

  far_is : (k : SocketId) → goes_to m.at k ≡ true → is_near a.journal b.journal k ≡ false
  far_is k goes = by (has_opened (journal_of a.journal) k) refl
    where
      closed : has_opened (journal_of b.journal) k ≡ false
      closed = not_true_is_false (has_opened (journal_of b.journal) k) (λ o. opposed k (apart.b_opened ns left n m a b t k o) goes)

      unknown : has_opened (journal_of a.journal) k ≡ false → (has_opened (journal_of a.journal) k ≡ true) ⊎ (is_among k (judged_sockets a.journal) ≡ true) → ⊥
      unknown none (inl o) = false_isnt_true (sym none ∙ o)
      unknown none (inr asked) = opposed k (a_asked k asked) goes

      by : (c : Bool) → has_opened (journal_of a.journal) k ≡ c → is_near a.journal b.journal k ≡ false
      by true o = ap (λ c. not c && (has_opened (journal_of b.journal) k || knows a.journal k)) o
      by false none =
          ap (λ c. not c && (has_opened (journal_of b.journal) k || knows a.journal k)) none ∙ ap (λ c. c || knows a.journal k) closed
          ∙ not_true_is_false (knows a.journal k) (λ known. unknown none (knows_kind k a.journal known))

  -- ---- of the link

  has_halves : (p : LeftNode) → IsOneOf p ns → (r : RecordNow) → HasItsHalves p.halves r → HaveHalves r.trails (all_halves ns) (judgements_in r.journal)
  has_halves p at r has =
      each_by (λ (j : Judgement). is_among j.socket (half_sockets r.trails (all_halves ns)) ≡ true) (judgements_in r.journal)
      (λ j i. by j.socket (among_part j.socket (sockets_taken r) (sockets_left p.halves) (has j.socket (among_mapped (λ (y : Judgement). y.socket) j j.socket (judgements_in r.journal) i refl))))
    where
      by : (k : SocketId) → (is_among k (sockets_taken r) ≡ true) ⊎ (is_among k (sockets_left p.halves) ≡ true) → is_among k (sockets_taken r ++ sockets_left (all_halves ns)) ≡ true
      by k (inl taken) = among_front k (sockets_taken r) (sockets_left (all_halves ns)) taken
      by k (inr left) =
          let found = whose (λ (l : LooseNow). l.trail.socket) k p.halves left in
          among_back k (sockets_taken r) (sockets_left (all_halves ns)) (among_mapped (λ (l : LooseNow). l.trail.socket) found.item k (all_halves ns) (of_node ns p found.item at found.there) found.is)

  abbrev js : List Judgement
  js = judgements_in a.journal ++ judgements_in b.journal

  told_both : (l : LooseNow) → IsOneOf l (all_halves ns) → IsJudgedSo js l
  told_both l one asked =
      by (among_part k (judged_sockets a.journal) (judged_sockets b.journal) (ap (is_among k) (sym (map-append (λ (j : Judgement). j.socket) (judgements_in a.journal) (judgements_in b.journal))) ∙ asked))
      ∙ sym (judged_append k (judgements_in a.journal) (judgements_in b.journal))
    where
      k : SocketId
      k = l.trail.socket

      at : IsAtNode ns l
      at = at_node ns l one

      by : (is_among k (judged_sockets a.journal) ≡ true) ⊎ (is_among k (judged_sockets b.journal) ≡ true) → l.trail.judged ≡ judged_on k (judgements_in a.journal) ++ judged_on k (judgements_in b.journal)
      by (inl its) =
          let goes = a_asked k its in
          let half = of_each (IsHalfOf n.at n.records) l n.halves here.halves (near_has l at goes) in
          of_each (λ (r : RecordNow). is_among k (asked_on r) ≡ true → l.trail.judged ≡ judged_on k (judgements_in r.journal)) a n.records half.told t.mine its
          ∙ sym (append-nil (judged_on k (judgements_in a.journal)))
          ∙ ap (λ is. judged_on k (judgements_in a.journal) ++ is) (sym (not_judged_on k (judgements_in b.journal) (not_true_is_false (is_among k (asked_on b)) (λ other. opposed k goes (b_asked k other)))))
      by (inr its) =
          let goes = b_asked k its in
          let half = of_each (IsHalfOf m.at m.records) l m.halves there.halves (far_has l at goes) in
          of_each (λ (r : RecordNow). is_among k (asked_on r) ≡ true → l.trail.judged ≡ judged_on k (judgements_in r.journal)) b m.records half.told t.theirs its
          ∙ ap (λ is. is ++ judged_on k (judgements_in b.journal)) (sym (not_judged_on k (judgements_in a.journal) (not_true_is_false (is_among k (asked_on a)) (λ other. opposed k (a_asked k other) goes))))

  pub of_link : AreOfLink x
  of_link = record {
    near = has_halves n t.near a (of_each (HasItsHalves n.halves) a n.records here.each t.mine);
    far = has_halves m t.far b (of_each (HasItsHalves m.halves) b m.records there.each t.theirs);
    loose = each_by (IsJudgedSo js) (all_halves ns) told_both;
  }

  -- ---- joined

  module _ (read : ReadWasWritten) (askers : AskersAreTheOpeners) (order : List ℕ) (o : IsOrderOf (link_left ns a b) order) where
    module _ (l : LooseNow) (one : IsOneOf l (all_halves ns)) (its : is_of_link a.journal b.journal l ≡ true) where
      abbrev k : SocketId
      k = l.trail.socket

      half : IsHalfOf (at_node ns l one).node.at (at_node ns l one).node.records l
      half = its_half l (at_node ns l one)

      far_put : has_opened (journal_of b.journal) k ≡ true → IsPrefix l.end.log.got (put_of (end_at (node.ends_of b) k))
      far_put opened =
          let e = end_there b.journal (node.ends_of b) k (opened_end b b_is.is k opened) in
          subst (IsPrefix l.end.log.got) e.put
          (got.was_put x o.sockets o.rows (apart.apart ns left n m a b t) read order o.woven l one its half.whole e.end
          (of_left e.end (map (end_of a.journal) (node.ends_of a) ++ map (end_of b.journal) (node.ends_of b)) (loose_ends a.journal b.journal (all_halves ns))
          (of_right e.end (map (end_of a.journal) (node.ends_of a)) (map (end_of b.journal) (node.ends_of b)) e.there)) e.socket (e.opener ∙ opened))

      near_put : has_opened (journal_of a.journal) k ≡ true → IsPrefix l.end.log.got (put_of (end_at (node.ends_of a) k))
      near_put opened =
          let e = end_there a.journal (node.ends_of a) k (opened_end a a_is.is k opened) in
          subst (IsPrefix l.end.log.got) e.put
          (got.was_put x o.sockets o.rows (apart.apart ns left n m a b t) read order o.woven l one its half.whole e.end
          (of_left e.end (map (end_of a.journal) (node.ends_of a) ++ map (end_of b.journal) (node.ends_of b)) (loose_ends a.journal b.journal (all_halves ns))
          (of_left e.end (map (end_of a.journal) (node.ends_of a)) (map (end_of b.journal) (node.ends_of b)) e.there)) e.socket (e.opener ∙ opened))

      judged : NearHas l ⊎ FarHas l → l.trail.judged ≡ judged_on k (judgements_in (if is_near a.journal b.journal k then a.journal else b.journal))
      judged (inl near) =
          let goes = ap (goes_to n.at) (of_each (IsHalfOf n.at n.records) l n.halves here.halves near.0).whole.socket ∙ (of_each (IsHalfOf n.at n.records) l n.halves here.halves near.0).here in
          told.told n m here a b t.mine b_is t.a_peer askers l near.0 near.1 far_put
          ∙ sym (ap (λ c. judged_on k (judgements_in (if c then a.journal else b.journal))) (near_is k goes near.1))
      judged (inr far) =
          let goes = ap (goes_to m.at) (of_each (IsHalfOf m.at m.records) l m.halves there.halves far.0).whole.socket ∙ (of_each (IsHalfOf m.at m.records) l m.halves there.halves far.0).here in
          told.told m n there b a t.theirs a_is t.b_peer askers l far.0 far.1 near_put
          ∙ sym (ap (λ c. judged_on k (judgements_in (if c then a.journal else b.journal))) (far_is k goes))

      beside : IsLooseBeside a.journal b.journal l
      beside = record { whole = half.whole; entity = half.entity; judged = judged (who l one its) }

    pub is_link : RecordsAreSides → PostsFit a → PostsFit b → IsLink (link_left ns a b)
    is_link sides a_posts b_posts = record {
      sides = λ s. each s;
      joined = record {
        posts = λ s. posts s;
        loose = each_by (λ (l : LooseNow). is_of_link a.journal b.journal l ≡ true → IsLooseBeside a.journal b.journal l) (all_halves ns) (λ l one its. beside l one its);
        apart = apart.apart ns left n m a b t;
        named = λ s. named s;
        seen = trails_so (λ (u : TrailNow). HasAddrRanges (opener_of u.socket)) x a_is.seen b_is.seen
            (each_by (λ (l : LooseNow). HasAddrRanges (opener_of l.trail.socket)) (all_halves ns) (λ l one. (its_half l (at_node ns l one)).seen));
        peers = λ k p. not_true_is_false (goes_to b.core.facts.peer k) (λ q. opposed k (ap (λ y. goes_to y k) (sym t.b_peer) ∙ q) (ap (λ y. goes_to y k) (sym t.a_peer) ∙ p));
      };
    }
      where
        it : LinkNow
        it = link_left ns a b

        each : (s : Bool) → IsSideOf (it.facts s) (it.plans s) (part_of it.both s)
        each true = sides a a_is.is
        each false = sides b b_is.is

        posts : (s : Bool) → AllByRecursion CanBePosted (items_in (it.plans s) (part_of it.both s))
        posts true = a_posts
        posts false = b_posts

        named : (s : Bool) → KeepsRanges (it.facts s)
        named true = a_is.ranges
        named false = b_is.ranges

pub are_of_link : LeftAreOfLink
are_of_link nodes n m a b left towards = of_link nodes left n m a b towards

pub are_joined : ReadWasWritten → AskersAreTheOpeners → RecordsAreSides → WovenNodesAreJoined
are_joined read askers sides nodes n m a b order left towards a_posts b_posts is_order = is_link nodes left n m a b towards read askers order is_order sides a_posts b_posts
