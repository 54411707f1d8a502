-- A script's run that keeps what it keeps between any two deeds is one whose nodes are at their end, wherever its lines lead.
use Rattle.std.proofs.Common.{◌≡◌, ℕ, ◌+◌, List, [], ◌∷◌, length, map, refl, sym, ap, subst, ◌∙◌, append-nil}
use Rattle.std.specs.Prelude.{Some, slice_get}
use Rattle.std.specs.List.{AllByRecursion, list_any}
use Rattle.std.specs.Option.{option_map}
use Rattle.std.proofs.lemmas.List.Elements.{recursion_from_All}
use Rattle.std.proofs.lemmas.Option.{slice_get-map}
use Rattle.m2_dispatch.specs.Heard.{heard_by}
use Rattle.m2_dispatch.specs.declared.logged.Logged.{Logged}
use Rattle.m2_links_go_on.proofs.m2_growth.Among.{each_by, of_each}
use Rattle.m2_links_go_on.specs.Center.{holding_of}
use Rattle.m2_links_go_on.specs.LogLaws.{logging_in}
use Rattle.m2_links_go_on.specs.m2_growth.Halves.{IsOneOf}
use Rattle.m2_links_go_on.specs.m2_history.WovenLaws.{link_of}
use Rattle.m2_promise.proofs.Ends.{all_at}
use Rattle.m2_promise.proofs.Joined.{of_a, of_b}
use Rattle.m2_promise.proofs.Marks.{lines_mark}
use Rattle.m2_promise.proofs.PostedPlans.{lines_in_ranges, lines_post}
use Rattle.m2_promise.proofs.PostsTowards.{IsTowards, is_towards, marked_so}
use Rattle.m2_promise.proofs.Sides.{from_a, from_b}
use Rattle.m2_promise.specs.Acting.{holdings_of}
use Rattle.m2_promise.specs.AtEnd.{AreAtEnd, AreFacing, HaveTheSame, IsLinkInOrder, IsNodeAtEnd, IsOfLines, Named, is_down_step, named, posts_planned}
use Rattle.m2_promise.specs.Delivered.{PostsInRanges}
use Rattle.m2_promise.specs.DeliveryLaws.{LinksHaveOrders, RunsHaveLinks}
use Rattle.m2_promise.specs.PostLaws.{EndsArePromised}
use Rattle.m2_promise.specs.Planned.{IsKeptNode, IsTaken, steps_for}
use Rattle.m2_promise.specs.Posted.{AllNoted, IsMarkedSo, KeepsPromise, PostsOfTypes, of_both}
use Rattle.m2_promise.specs.Running.{IsLinkOf}
use Rattle.m2_promise.specs.StartLaws.{PlansAreOfLines}
use Rattle.m2_promise.specs.Started.{IsKept, run_in}
use Rattle.m2_scenario.specs.Draft.{DraftLine, draft_line}
use Rattle.m2_scenario.specs.Valid as valid
use Rattle.m2_scenario.specs.declared.line.Line.{Line}
use Rattle.m2_scenario.specs.declared.link.Link.{Link}
use Rattle.m2_scenario.specs.declared.node.Node.{Node}
use Rattle.m2_script.specs.Made.{Side, records_of, side_of}
use Rattle.m2_script.specs.Script.{RunNow, script_of}
use Rattle.m2_script.specs.m2_cluster.Node.{IsWholeNode, NodeNow}
use Rattle.m2_script.specs.m2_record.IsRecord.{IsRecord}
use Rattle.m2_script.specs.m2_record.RecordNow.{RecordNow}

-- a side tells how its record is named
abbrev named_in : Side → Named
named_in d = record { place = d.place; policy = d.facts.policy; number = d.facts.node.number; fast = d.facts.node.fast; salt = d.facts.node.salt }

sides_name : (rs : List RecordNow) → map named_in (map side_of rs) ≡ map named rs
sides_name [] = refl
sides_name (r ∷ rs) = ap (λ l. named r ∷ l) (sides_name rs)

-- a list has the same as itself
pub same_are_same : {X : Type 0} {xs ys : List X} → xs ≡ ys → HaveTheSame xs ys
same_are_same e = record { there = λ x one. subst (IsOneOf x) e one; back = λ x one. subst (IsOneOf x) (sym e) one }

module _ (nodes : List Node) (links : List Link) (lines : List Line) (s : RunNow (List Logged)) (types : AllByRecursion PostsOfTypes lines) (kept : IsKept heard_by nodes links s)
    (plans : PlansAreOfLines links (length nodes) lines s) where
  abbrev said : List DraftLine
  said = map draft_line lines

  -- ---- a node

  abbrev IsPlanned : ℕ → RecordNow → Type 0
  IsPlanned k r = r.plan ≡ steps_for k r.place (script_of links (length nodes) lines)

  of_lines : (k : ℕ) (r : RecordNow) → IsRecord r → IsPlanned k r → IsOfLines k said r
  of_lines k r is planned = record {
    is_record = is;
    posts = ap posts_planned planned ∙ lines_post k r.place links (length nodes) lines;
    downs = ap (list_any is_down_step) planned ∙ lines_mark k r.place links (length nodes) lines;
  }

  in_ranges : (k : ℕ) (r : RecordNow) → IsPlanned k r → AllByRecursion PostsInRanges r.plan
  in_ranges k r planned = subst (AllByRecursion PostsInRanges) (sym planned) (lines_in_ranges k r.place links (length nodes) lines types)

  records : (k : ℕ) (n : NodeNow (List Logged)) → slice_get s.cluster.nodes k ≡ Some n → AllByRecursion IsRecord n.center.records
  records k n e = (all_at IsWholeNode s.cluster.nodes k n kept.whole e).records

  node : (k : ℕ) (n : NodeNow (List Logged)) → slice_get s.cluster.nodes k ≡ Some n → IsNodeAtEnd nodes links said k n
  node k n e =
      let its = all_at (IsKeptNode heard_by) s.cluster.nodes k n kept.kept e in
      record {
        word = k + 1;
        named_so = same_are_same (sym (sides_name n.center.records) ∙ ap (map named_in) (kept.sides k n e) ∙ sides_name (records_of nodes links k (k + 1)));
        distinct = its.logged.peers;
        of_lines = each_by (IsOfLines k said) n.center.records
            (λ r one. of_lines k r (of_each IsRecord r n.center.records (records k n e) one) (of_each (IsPlanned k) r n.center.records (plans k n e) one));
        centers = logging_in n.center ∷ [];
        are = record {
          records = sym (append-nil n.center.records);
          fast = sym (append-nil n.center.out.fast);
          queued = sym (append-nil n.center.queued.inner);
          logged = (its.logged, tt);
          peers = (its.peers, tt);
        };
      }

  -- ---- a link

  holding : (k : ℕ) (n : NodeNow (List Logged)) → slice_get s.cluster.nodes k ≡ Some n → slice_get (holdings_of s.cluster.nodes) k ≡ Some (holding_of n.center)
  holding k n e = slice_get-map (λ (n : NodeNow (List Logged)). holding_of n.center) s.cluster.nodes k ∙ ap (option_map (λ (n : NodeNow (List Logged)). holding_of n.center)) e

  link : (l : Link) (n m : NodeNow (List Logged)) (a b : RecordNow) → AreFacing s l.a l.b n m a b → IsLinkOf (run_in s) (holding_of n.center) (holding_of m.center) a b
  link l n m a b f = record {
    i = l.a;
    j = l.b;
    near = holding l.a n f.near_there;
    far = holding l.b m f.far_there;
    a_at = f.a_at;
    b_at = f.b_at;
    a_there = f.a_there;
    b_there = f.b_there;
    a_towards = f.a_towards;
    b_towards = f.b_towards;
  }

  in_order : RunsHaveLinks → LinksHaveOrders → (l : Link) (n m : NodeNow (List Logged)) (a b : RecordNow) → AreFacing s l.a l.b n m a b → IsLinkInOrder (link_of a b (of_both n m))
  in_order has_link has_order l n m a b f =
      let near = all_at (IsPlanned l.a) n.center.records f.a_at a (plans l.a n f.near_there) f.a_there in
      let far = all_at (IsPlanned l.b) m.center.records f.b_at b (plans l.b m f.far_there) f.b_there in
      let is = link l n m a b f in
      let found = has_order (link_of a b (of_both n m)) (kept.rest.orders (holding_of n.center) (holding_of m.center) a b is) in
      record {
        is_link = has_link (run_in s) (holding_of n.center) (holding_of m.center) a b kept.rest.running is (in_ranges l.a a near) (in_ranges l.b b far);
        order = found.0;
        is_order = found.1;
      }

  at_end : RunsHaveLinks → LinksHaveOrders → AreAtEnd nodes links said of_both s
  at_end has_link has_order = record { count = kept.count; each = node; in_order = λ l n m a b one f. in_order has_link has_order l n m a b f }

  -- ---- what is promised of it

  module _ (ended_so : EndsArePromised) (has_link : RunsHaveLinks) (has_order : LinksHaveOrders) (sound : valid.IsSound nodes links said) (noted : AllNoted heard_by s) where
    abbrev ended : AreAtEnd nodes links said of_both s
    ended = at_end has_link has_order

    taken : (k : ℕ) (n : NodeNow (List Logged)) (r : RecordNow) → slice_get s.cluster.nodes k ≡ Some n → IsOneOf r n.center.records → IsTaken r
    taken k n r e one = of_each IsTaken r n.center.records (all_at (IsKeptNode heard_by) s.cluster.nodes k n kept.kept e).taken one

    marked : (l : Link) → IsOneOf l links → IsMarkedSo said s l.a l.b × IsMarkedSo said s l.b l.a
    marked l one =
        let is = of_each (valid.IsLink (length nodes)) l links (recursion_from_All (valid.IsLink (length nodes)) links sound.joined) one in
        let ea : IsTowards nodes s l.a (of_a l) = is_towards nodes links said of_both s ended l one l.a (of_a l) (from_a l) is.a is.b in
        let eb : IsTowards nodes s l.b (of_b l) = is_towards nodes links said of_both s ended l one l.b (of_b l) (from_b l is.different) is.b is.a in (
          marked_so nodes links said of_both s ended l.a (of_a l) ea (taken l.a ea.node ea.side.item ea.node_there ea.side.one),
          marked_so nodes links said of_both s ended l.b (of_b l) eb (taken l.b eb.node eb.side.item eb.node_there eb.side.one),
        )

    pub kept_promise : KeepsPromise nodes links lines s
    kept_promise = record {
      promised = ended_so nodes links said of_both s sound ended;
      noted = noted;
      marked = each_by (λ (l : Link). IsMarkedSo said s l.a l.b × IsMarkedSo said s l.b l.a) links marked;
    }
