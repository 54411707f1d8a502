-- Where a run on threads has ended its nodes are at their end: each record is over a link of the scenario and has the plan that the lines
-- make, and each link is in the order of its history.
use Rattle.std.proofs.Common.{◌≡◌, ℕ, suc, ◌<◌, inl, inr, Bool, true, false, ◌&&◌, ◌==◌, ◌||◌, if◌then◌else◌, List, [], ◌∷◌, ◌++◌, length, map, Option, Some, None, refl, sym, ap, subst, ◌∙◌, arith}
use Rattle.std.specs.Prelude.{slice_get}
use Rattle.std.specs.List.{AllByRecursion, IsDistinct, cons_option, flat_map, list_any}
use Rattle.std.specs.Option.{option_map}
use Rattle.std.proofs.lemmas.Bool.{eq-eqb, eqb-true}
use Rattle.std.proofs.lemmas.List.{length-map}
use Rattle.std.proofs.lemmas.Option.{none-some, same_Some, slice_get_within}
use Rattle.m2_cli.proofs.ThreadNodes.{all_records, are_centers, at_one, distinct, named_so, records_of_all}
use Rattle.m2_cli.specs.ThreadsOrder.{left_there}
use Rattle.m2_exact.proofs.m2_script.Lists.{item_at}
use Rattle.m2_exact.specs.m2_script.m2_center.Center.{CenterNow}
use Rattle.m2_exact.specs.m2_script.m2_cluster.Node.{NodeNow}
use Rattle.m2_exact.specs.m2_script.m2_record.IsRecord.{IsRecord}
use Rattle.m2_exact.specs.m2_script.m2_record.RecordNow.{RecordNow}
use Rattle.m2_fabric.proofs.m2_lemmas.Booleans.{false_isnt_true}
use Rattle.m2_fabric.proofs.m2_lemmas.Lists.{all_at, all_by_places, get_map}
use Rattle.m2_fabric.specs.Fabric.{SeenFabric}
use Rattle.m2_promise.proofs.m2_links_go_on.m2_growth.Among.{each_by, mapped_one, of_each, one_back, one_front}
use Rattle.m2_promise.specs.AtEnd.{AreAtEnd, AreFacing, IsLinkInOrder, IsNodeAtEnd, IsOfLines, is_down_of, is_down_step, posts_planned, posts_to}
use Rattle.m2_run.proofs.JoinedSides.{IsOfNode, all_of_node}
use Rattle.m2_run.specs.Joined.{IsJoinedBy}
use Rattle.m2_run.specs.Kept.{IsKeptNode}
use Rattle.m2_run.specs.m2_node.Nodes.{KeptNow, as_one, nodes_of, records_in}
use Rattle.m2_run.specs.m2_node.Planned.{plan_in}
use Rattle.m2_run.specs.Ran.{HasRan}
use Rattle.m2_run.specs.Rests.{EndedCenterNow, EndedNow, IsEndOf, IsEndOfCenter, loose_of}
use Rattle.m2_run.specs.Types.{IsCenterOfTypes}
use Rattle.m2_run.specs.Weaving.{HasHistory, SideNow, first_of, side_of, side_towards, towards}
use Rattle.m2_run.specs.declared.outcome.Outcome.{Outcome}
use Rattle.m2_run.specs.m2_links_go_on.LogLaws.{logging_in}
use Rattle.m2_run.specs.m2_links_go_on.Logged.{AreOfTheirPeers}
use Rattle.m2_run.specs.m2_links_go_on.m2_growth.Halves.{IsOneOf}
use Rattle.m2_run.specs.m2_links_go_on.m2_history.WovenLaws.{link_of, strands_in}
use Rattle.m2_run.specs.m2_links_go_on.m2_weave.m2_journal.declared.facts.PlanStep.TheVariants as step
use Rattle.m2_scenario.specs.Draft.{DraftLine, draft_line}
use Rattle.m2_scenario.specs.Valid.{IsSound}
use Rattle.m2_scenario.specs.declared.line.Line.{Line}
use Rattle.m2_scenario.specs.declared.line.Line.TheVariants as line
use Rattle.m2_scenario.specs.declared.link.Link.{Link}
use Rattle.m2_scenario.specs.declared.node.Node.{Node}
use Rattle.m2_scenario.specs.m2_dispatch.declared.logged.Logged.{Logged}
use Rattle.m2_scenario.specs.m2_dispatch.m2_message.Message.{content_of}

-- ---- lists

place_in : {X : Type 0} (x : X) (xs : List X) → IsOneOf x xs → (k : ℕ) × (slice_get xs k ≡ Some x)
place_in x [] one = absurd one
place_in x (y ∷ xs) (inl e) = (0, ap Some (sym e))
place_in x (y ∷ xs) (inr one) = let it = place_in x xs one in (suc it.0, it.1)

-- ---- plans

module _ (x y : ℕ) where
  abbrev said : List Line → List DraftLine
  said lines = map draft_line lines

  pub plan_posts : (lines : List Line) → posts_planned (plan_in lines x y) ≡ posts_to x y (said lines)
  plan_posts [] = refl
  plan_posts (line.Post a b m ∷ lines) = by ((a == x) && (b == y)) (plan_posts lines)
    where
      by : (c : Bool) → posts_planned (plan_in lines x y) ≡ posts_to x y (said lines) →
          posts_planned (cons_option (if c then Some (step.Post m) else None) (plan_in lines x y)) ≡ (if c then content_of m ∷ posts_to x y (said lines) else posts_to x y (said lines))
      by true same = ap (λ l. content_of m ∷ l) same
      by false same = same
  plan_posts (line.Dial a b ∷ lines) = by ((a == x) && (b == y)) (plan_posts lines)
    where
      by : (c : Bool) → posts_planned (plan_in lines x y) ≡ posts_to x y (said lines) →
          posts_planned (cons_option (if c then Some step.Dial else None) (plan_in lines x y)) ≡ posts_to x y (said lines)
      by true same = same
      by false same = same
  plan_posts (line.Down a b ∷ lines) = by ((a == x) && (b == y)) (plan_posts lines)
    where
      by : (c : Bool) → posts_planned (plan_in lines x y) ≡ posts_to x y (said lines) →
          posts_planned (cons_option (if c then Some step.Down else None) (plan_in lines x y)) ≡ posts_to x y (said lines)
      by true same = same
      by false same = same
  plan_posts (line.Cut a b bytes ∷ lines) = plan_posts lines
  plan_posts (line.Turn a ∷ lines) = plan_posts lines
  plan_posts (line.Flow a b socket most ∷ lines) = plan_posts lines
  plan_posts (line.Fault a b socket ∷ lines) = plan_posts lines
  plan_posts (line.Settle rounds ∷ lines) = plan_posts lines

  pub plan_marks : (lines : List Line) → list_any is_down_step (plan_in lines x y) ≡ list_any (is_down_of x y) (said lines)
  plan_marks [] = refl
  plan_marks (line.Post a b m ∷ lines) = by ((a == x) && (b == y)) (plan_marks lines)
    where
      by : (c : Bool) → list_any is_down_step (plan_in lines x y) ≡ list_any (is_down_of x y) (said lines) →
          list_any is_down_step (cons_option (if c then Some (step.Post m) else None) (plan_in lines x y)) ≡ list_any (is_down_of x y) (said lines)
      by true same = same
      by false same = same
  plan_marks (line.Dial a b ∷ lines) = by ((a == x) && (b == y)) (plan_marks lines)
    where
      by : (c : Bool) → list_any is_down_step (plan_in lines x y) ≡ list_any (is_down_of x y) (said lines) →
          list_any is_down_step (cons_option (if c then Some step.Dial else None) (plan_in lines x y)) ≡ list_any (is_down_of x y) (said lines)
      by true same = same
      by false same = same
  plan_marks (line.Down a b ∷ lines) = by ((a == x) && (b == y)) (plan_marks lines)
    where
      by : (c : Bool) → list_any is_down_step (plan_in lines x y) ≡ list_any (is_down_of x y) (said lines) →
          list_any is_down_step (cons_option (if c then Some step.Down else None) (plan_in lines x y)) ≡ (c || list_any (is_down_of x y) (said lines))
      by true same = refl
      by false same = same
  plan_marks (line.Cut a b bytes ∷ lines) = plan_marks lines
  plan_marks (line.Turn a ∷ lines) = plan_marks lines
  plan_marks (line.Flow a b socket most ∷ lines) = plan_marks lines
  plan_marks (line.Fault a b socket ∷ lines) = plan_marks lines
  plan_marks (line.Settle rounds ∷ lines) = plan_marks lines

-- ---- the only record

abbrev place_of : RecordNow → ℕ
place_of r = r.place

none_there : (n : ℕ) (r : RecordNow) (rs : List RecordNow) → AllByRecursion (λ (q : ℕ). (n == q) ≡ false) (map place_of rs) → IsOneOf r rs → (n == r.place) ≡ false
none_there n r rs all one = of_each (λ (q : ℕ). (n == q) ≡ false) r.place (map place_of rs) all (mapped_one place_of r rs one)

-- two records of one peer are the same
one_of_peer : (a b : RecordNow) (rs : List RecordNow) → AreOfTheirPeers rs → IsOneOf a rs → IsOneOf b rs → a.place ≡ b.place → b ≡ a
unfolding IsDistinct
one_of_peer a b [] apart one two e = absurd one
one_of_peer a b (r ∷ rs) apart (inl here) (inl there) e = there ∙ sym here
one_of_peer a b (r ∷ rs) apart (inl here) (inr there) e =
    absurd (false_isnt_true (sym (none_there r.place b rs apart.0 there) ∙ eq-eqb r.place b.place (ap place_of (sym here) ∙ e)))
one_of_peer a b (r ∷ rs) apart (inr here) (inl there) e =
    absurd (false_isnt_true (sym (none_there r.place a rs apart.0 here) ∙ eq-eqb r.place a.place (ap place_of (sym there) ∙ sym e)))
one_of_peer a b (r ∷ rs) apart (inr here) (inr there) e = one_of_peer a b rs apart.1 here there e

-- it is towards the node, and one of these
towards_there : (j : ℕ) (b : RecordNow) (rs : List RecordNow) → towards j rs ≡ Some b → IsOneOf b rs × (b.place ≡ j)
towards_there j b [] e = absurd (none-some b e)
towards_there j b (r ∷ rs) e = by (r.place == j) refl e (towards_there j b rs)
  where
    by : (c : Bool) → (r.place == j) ≡ c → (if c then Some r else towards j rs) ≡ Some b → (towards j rs ≡ Some b → IsOneOf b rs × (b.place ≡ j)) → IsOneOf b (r ∷ rs) × (b.place ≡ j)
    by true at f rest = let same = same_Some r b f in (inl (sym same), ap place_of (sym same) ∙ eqb-true r.place j at)
    by false at f rest = let its = rest f in (inr its.0, its.1)

abbrev records_left : List EndedCenterNow → List RecordNow
records_left cs = flat_map (λ (c : EndedCenterNow). c.records) cs

side_there : (j : ℕ) (c : EndedCenterNow) (b : RecordNow) (cs : List EndedCenterNow) → side_towards j cs ≡ Some (side_of c b) → IsOneOf b (records_left cs) × (b.place ≡ j)
side_there j c b [] e = absurd (none-some (side_of c b) e)
side_there j c b (d ∷ cs) e = by (towards j d.records) refl e (side_there j c b cs)
  where
    by : (o : Option RecordNow) → towards j d.records ≡ o → first_of (option_map (side_of d) o) (side_towards j cs) ≡ Some (side_of c b) →
        (side_towards j cs ≡ Some (side_of c b) → IsOneOf b (records_left cs) × (b.place ≡ j)) → IsOneOf b (records_left (d ∷ cs)) × (b.place ≡ j)
    by None at f rest = let its = rest f in (one_back b d.records (records_left cs) its.0, its.1)
    by (Some a) at f rest =
        let same = ap (λ (s : SideNow). s.record_) (same_Some (side_of d a) (side_of c b) f) in
        let its = towards_there j a d.records at in
        subst (λ (r : RecordNow). IsOneOf r (records_left (d ∷ cs)) × (r.place ≡ j)) same (one_front a d.records (records_left cs) its.0, its.1)

-- what is left of centers has their records
same_records : (cs : List (CenterNow (List Logged))) (ds : List EndedCenterNow) → length ds ≡ length cs →
    ((i : ℕ) (c : CenterNow (List Logged)) (d : EndedCenterNow) → slice_get cs i ≡ Some c → slice_get ds i ≡ Some d → IsEndOfCenter c d) → records_left ds ≡ records_of_all cs
same_records [] [] count each = refl
same_records [] (d ∷ ds) count each = absurd (omega (arith, count))
same_records (c ∷ cs) [] count each = absurd (omega (arith, count))
same_records (c ∷ cs) (d ∷ ds) count each =
    ap (λ l. l ++ records_left ds) (each 0 c d refl refl).records ∙ ap (λ l. c.records ++ l) (same_records cs ds (omega (arith, count)) (λ i a b e f. each (suc i) a b e f))

-- ---- a run

-- what of each link of such runs is promised
abbrev pub RunsJoined : (may_give : ℕ → Type 0) → List Node → List Link → List Line → Type 0
RunsJoined may_give nodes links lines = (limit : ℕ) (old new : SeenFabric) (o : Outcome) (ran : HasRan may_give limit nodes links lines old new o) →
    (place : ℕ) (l : Link) (there : slice_get links place ≡ Some l) → let h = ran.woven place l there in IsJoinedBy (link_of h.a h.b (loose_of ran.kept)) h.history

module _ (may_give : ℕ → Type 0) (limit : ℕ) (nodes : List Node) (links : List Link) (lines : List Line) (old new : SeenFabric) (o : Outcome) (ran : HasRan may_give limit nodes links lines old new o)
    (sound : IsSound nodes links (map draft_line lines)) where
  abbrev kept : List KeptNow
  kept = ran.kept

  -- ---- a node

  -- the kept node of which a node of the run as one is made, and the scenario's
  record IsAt (k : ℕ) (n : NodeNow (List Logged)) : Type 0 where
    node : Node
    mine : slice_get nodes k ≡ Some node
    its : KeptNow
    there : slice_get kept k ≡ Some its
    same : as_one its.node ≡ n
    is : IsKeptNode may_give ran.stop nodes links lines old new k node its

  node_at : (k : ℕ) (n : NodeNow (List Logged)) → slice_get (left_there kept).cluster.nodes k ≡ Some n → IsAt k n
  node_at k n e =
      let within : k < length kept = omega (arith, slice_get_within (map as_one (nodes_of kept)) k n e, length-map (nodes_of kept) as_one, length-map kept (λ (m : KeptNow). m.node)) in
      let its = item_at kept k within in
      let x = item_at nodes k (omega (arith, within, ran.run.count)) in
      record {
        node = x.0;
        mine = x.1;
        its = its.0;
        there = its.1;
        same = same_Some (as_one its.0.node) n (sym (get_map as_one (nodes_of kept) k its.0.node (get_map (λ (m : KeptNow). m.node) kept k its.0 its.1)) ∙ e);
        is = ran.run.each k x.0 its.0 x.1 its.1;
      }

  of_lines : (k : ℕ) (r : RecordNow) → IsRecord r → IsOfNode nodes lines k r → IsOfLines k (map draft_line lines) r
  of_lines k r is of = record {
    is_record = is;
    posts = ap posts_planned of.plan ∙ plan_posts k r.place lines;
    downs = ap (list_any is_down_step) of.plan ∙ plan_marks k r.place lines;
  }

  its_lines : (k : ℕ) (x : Node) (n : KeptNow) → IsKeptNode may_give ran.stop nodes links lines old new k x n → AllByRecursion (IsOfLines k (map draft_line lines)) (records_in n.node)
  its_lines k x n is =
      all_records (IsOfLines k (map draft_line lines)) n.node.centers
      (all_by_places (λ (c : CenterNow (List Logged)). AllByRecursion (IsOfLines k (map draft_line lines)) c.records) n.node.centers (λ j c e.
      let records = (all_at IsCenterOfTypes n.node.centers j c e is.types.centers).records in
      let of_node = all_of_node nodes links lines k is.node.word j x c (is.node.each j c e).way.course.made in
      each_by (IsOfLines k (map draft_line lines)) c.records
      (λ r one. of_lines k r (of_each IsRecord r c.records records one) (of_each (IsOfNode nodes lines k) r c.records of_node one))))

  kept_at_end : (k : ℕ) (x : Node) (n : KeptNow) → slice_get nodes k ≡ Some x → IsKeptNode may_give ran.stop nodes links lines old new k x n →
      IsNodeAtEnd nodes links (map draft_line lines) k (as_one n.node)
  kept_at_end k x n mine is = record {
    word = is.node.word;
    named_so = named_so may_give ran.stop nodes links lines k x n.node is.node (map draft_line lines) sound mine;
    distinct = distinct may_give ran.stop nodes links lines k x n.node is.node;
    of_lines = its_lines k x n is;
    centers = map logging_in n.node.centers;
    are = are_centers may_give ran.stop nodes links lines k x n.node is.node;
  }

  at_end : (k : ℕ) (n : NodeNow (List Logged)) → slice_get (left_there kept).cluster.nodes k ≡ Some n → IsNodeAtEnd nodes links (map draft_line lines) k n
  at_end k n e = let it = node_at k n e in subst (IsNodeAtEnd nodes links (map draft_line lines) k) it.same (kept_at_end k it.node it.its it.mine it.is)

  -- ---- a link

  -- of what is left of a node, the record towards another one is its only one
  same_side : (k j : ℕ) (n : NodeNow (List Logged)) (ended : EndedNow) (c : EndedCenterNow) (a b : RecordNow) (at_place : ℕ) → slice_get (left_there kept).cluster.nodes k ≡ Some n →
      slice_get ran.ends k ≡ Some ended → side_towards j ended.centers ≡ Some (side_of c b) → slice_get n.center.records at_place ≡ Some a → a.place ≡ j → b ≡ a
  same_side k j n ended c a b at_place here there mine e place =
      let it = node_at k n here in
      let is : IsEndOf it.its ended = ran.are_ends.each k it.its ended it.there there in
      let records : records_left ended.centers ≡ n.center.records = same_records it.its.node.centers ended.centers is.count is.each ∙ ap (λ (m : NodeNow (List Logged)). m.center.records) it.same in
      let its = side_there j c b ended.centers mine in
      one_of_peer a b n.center.records (at_end k n here).distinct (at_one n.center.records at_place a e) (subst (IsOneOf b) records its.0) (place ∙ sym its.1)

  in_order : RunsJoined may_give nodes links lines → (l : Link) (n m : NodeNow (List Logged)) (a b : RecordNow) → IsOneOf l links → AreFacing (left_there kept) l.a l.b n m a b →
      IsLinkInOrder (link_of a b (loose_of kept))
  in_order joins l n m a b one f =
      let at_links = place_in l links one in
      let h : HasHistory ran.ends (loose_of kept) l = ran.woven at_links.0 l at_links.1 in
      let joined = joins limit old new o ran at_links.0 l at_links.1 in
      let near = same_side l.a l.b n h.is_of.here h.near a h.a f.a_at f.near_there h.is_of.near_there h.is_of.mine f.a_there f.a_towards in
      let far = same_side l.b l.a m h.is_of.there h.far b h.b f.b_at f.far_there h.is_of.far_there h.is_of.theirs f.b_there f.b_towards in
      subst (λ (r : RecordNow). IsLinkInOrder (link_of r b (loose_of kept))) near
      (subst (λ (r : RecordNow). IsLinkInOrder (link_of h.a r (loose_of kept))) far (record { is_link = joined.is_link; order = strands_in h.history; is_order = joined.is_order }))

  pub are_at_end : RunsJoined may_give nodes links lines → AreAtEnd nodes links (map draft_line lines) (λ n m. loose_of kept) (left_there kept)
  are_at_end joins = record {
    count = length-map (nodes_of kept) as_one ∙ length-map kept (λ (m : KeptNow). m.node) ∙ ran.run.count;
    each = at_end;
    in_order = in_order joins;
  }
