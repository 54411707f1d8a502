-- A scenario's script has one run, but for want of memory: new nodes are alike, each deed leaves runs alike, and what is told of runs that
-- are alike is the same.
use Rattle.std.proofs.Common.{◌≡◌, ℕ, ◌+◌, ◌-◌, ◌==◌, ◌&&◌, ◌||◌, not, Bool, if◌then◌else◌, List, [], ◌∷◌, length, map, slice_get, Option, None, Some, Ok, refl, sym, subst, ◌∙◌, ap}
use Rattle.std.specs.Prelude.{count_by, fold}
use Rattle.std.specs.List.{AllByRecursion, list_any, range_with_len}
use Rattle.std.specs.Option.{option_to_list}
use Rattle.std.proofs.lemmas.List.{length-map}
use Rattle.m2_dispatch.specs.Heard.{Heard, heard_by, is_message_from}
use Rattle.m2_dispatch.specs.declared.logged.Logged.{Logged}
use Rattle.m2_fabric.proofs.m2_lemmas.Lists.{all_append, all_by_places, all_of_map, map_same}
use Rattle.m2_fabric.specs.CutPort.{fresh_cut_port}
use Rattle.m2_fabric.specs.InStep.{SeenFabric}
use Rattle.m2_fabric.specs.SimFabric.{looked_at}
use Rattle.m2_scenario.specs.declared.line.Line.{Line}
use Rattle.m2_scenario.specs.declared.link.Link.{Link}
use Rattle.m2_scenario.specs.declared.node.Node.{Node}
use Rattle.m2_script.specs.Apart.{EndsStayApart}
use Rattle.m2_script.specs.Made.{new_towards, other_of, over, records_of, roomless}
use Rattle.m2_script.specs.Nodes.{IsNewNode, cuts_of, none_drawn, none_granted}
use Rattle.m2_script.specs.Outcome.{all_heard, heard_at, heard_of_node, in_turns, is_down, is_down_at, is_lossless, is_post_step, is_up, left_from, left_in, left_over, messages_at, of_node, posts_at, records_at}
use Rattle.m2_script.specs.Script.{Deed, Ends, RunNow, script_of}
use Rattle.m2_script.specs.Started.{IsFirst, IsScriptRun}
use Rattle.m2_script.specs.declared.calls.TurnCalls.{TurnCalls}
use Rattle.m2_script.specs.declared.made.Towards.{Towards}
use Rattle.m2_script.specs.m2_center.Center.{CenterNow}
use Rattle.m2_script.specs.m2_center.Making.{new_center}
use Rattle.m2_script.specs.m2_cluster.Node.{NodeNow}
use Rattle.m2_dispatch.specs.m2_shared.Numbers.{SeenNumbers}
use Rattle.m2_dispatch.specs.m2_shared.Gates.{places}
use Rattle.m2_dispatch.specs.m2_shared.declared.throttles.Throttles.{Throttles}
use Rattle.m2_script.specs.m2_center.m2_record.RecordNow.{RecordNow}
use Rattle.m2_exact.proofs.Alone.{alone_places}
use Rattle.m2_exact.proofs.Deeds as deeds
use Rattle.m2_exact.proofs.Lists.{by_places, mapped_twice, said_at, there_too}
use Rattle.m2_exact.specs.Centers.{PlainCenter, plain_center}
use Rattle.m2_exact.specs.Deeds.{AreAlike, HasFitNodes, LikeRunsDoAlike}
use Rattle.m2_exact.specs.Nodes.{IsAskedBehind, IsFitNode, PlainNode, plain_node}
use Rattle.m2_exact.specs.Records.{plain}
use Rattle.m2_exact.specs.Runs.{FirstIsOne, IsToldTheSame, LikeRunsAreToldAlike, RunsAreOne}

-- ---- new nodes

records_plain : (rs ss : List RecordNow) → map roomless rs ≡ ss → map plain rs ≡ map plain ss
records_plain rs ss over = sym (mapped_twice plain roomless rs) ∙ ap (map plain) over

-- a new center with these records
abbrev with_records : (nodes : List Node) (lines : List Line) (k : ℕ) (x : Node) → List RecordNow → CenterNow (List Logged)
with_records nodes lines k x rs = new_center x.entity (fresh_cut_port x.at (cuts_of nodes lines k)) rs [] [] none_granted none_drawn

center_new : (nodes : List Node) (links : List Link) (lines : List Line) (k : ℕ) (x : Node) (n m : NodeNow (List Logged)) → IsNewNode nodes links lines k x n → IsNewNode nodes links lines k x m →
    plain_center heard_by n.center ≡ plain_center heard_by m.center
center_new nodes links lines k x n m h g =
    ap (plain_center heard_by) h.center
    ∙ ap (λ (rs : List RecordNow). record (plain_center heard_by (with_records nodes lines k x [])) { records = rs })
    (records_plain h.records (records_of nodes links k (k + 1)) h.over ∙ sym (records_plain g.records (records_of nodes links k (k + 1)) g.over))
    ∙ sym (ap (plain_center heard_by) g.center)

node_new : (nodes : List Node) (links : List Link) (lines : List Line) (k : ℕ) (x : Node) (n m : NodeNow (List Logged)) → IsNewNode nodes links lines k x n → IsNewNode nodes links lines k x m →
    plain_node heard_by n ≡ plain_node heard_by m
node_new nodes links lines k x n m h g =
    ap (λ (c : PlainCenter). record (plain_node heard_by n) { center = c }) (center_new nodes links lines k x n m h g)
    ∙ ap (λ (c : SeenNumbers). record { center = plain_center heard_by m.center; numbers = c; throttles = n.throttles }) (h.numbers ∙ sym g.numbers)
    ∙ ap (λ (t : Throttles). record (plain_node heard_by m) { throttles = t }) (h.throttles ∙ sym g.throttles)

first_alike : (nodes : List Node) (links : List Link) (lines : List Line) (s t : RunNow (List Logged)) → IsFirst nodes links lines s → IsFirst nodes links lines t → AreAlike heard_by s t
first_alike nodes links lines s t h g =
    let fabric : s.fabric ≡ t.fabric = h.fabric ∙ sym g.fabric in
    record {
      nodes = by_places (plain_node heard_by) s.cluster.nodes t.cluster.nodes (h.new.count ∙ sym g.new.count) at;
      addresses = ap (λ (f : SeenFabric). f.nodes) fabric;
      pairs = ap (λ (f : SeenFabric). f.pairs) fabric;
      looked = λ node. ap (λ (f : SeenFabric). looked_at f node) fabric;
      now = h.now ∙ sym g.now;
      calls = h.calls ∙ sym g.calls;
    }
  where
    at : (k : ℕ) (n m : NodeNow (List Logged)) → slice_get s.cluster.nodes k ≡ Some n → slice_get t.cluster.nodes k ≡ Some m → plain_node heard_by n ≡ plain_node heard_by m
    at k n m one other =
        let (x, is) = there_too nodes s.cluster.nodes k n (sym h.new.count) one in
        node_new nodes links lines k x n m (h.new.each k x n is one) (g.new.each k x m is other)

-- ---- and fit

new_asked : (nodes : List Node) (number word : ℕ) (mine peer : Option Node) (t : Towards) → AllByRecursion IsAskedBehind (option_to_list (new_towards mine peer number word t))
new_asked nodes number word (Some mine) (Some peer) t = (tt, tt)
new_asked nodes number word (Some mine) None t = tt
new_asked nodes number word None peer t = tt

over_asked : (nodes : List Node) (number word : ℕ) (o : Option Towards) → AllByRecursion IsAskedBehind (option_to_list (over nodes number word o))
over_asked nodes number word None = tt
over_asked nodes number word (Some t) = new_asked nodes number word (slice_get nodes number) (slice_get nodes t.place) t

made_asked : (nodes : List Node) (number word : ℕ) (links : List Link) → AllByRecursion IsAskedBehind (records_of nodes links number word)
made_asked nodes number word [] = tt
made_asked nodes number word (l ∷ ls) =
    all_append IsAskedBehind (option_to_list (over nodes number word (other_of number l))) (records_of nodes ls number word)
    (over_asked nodes number word (other_of number l)) (made_asked nodes number word ls)

first_fit : (nodes : List Node) (links : List Link) (lines : List Line) (s : RunNow (List Logged)) → IsFirst nodes links lines s → HasFitNodes s
first_fit nodes links lines s h = all_by_places IsFitNode s.cluster.nodes at
  where
    fit : (k : ℕ) (x : Node) (n : NodeNow (List Logged)) → IsNewNode nodes links lines k x n → IsFitNode n
    fit k x n new = record {
      whole = new.whole;
      asked = subst (AllByRecursion IsAskedBehind) (sym (ap (λ c. c.records) new.center))
          (all_of_map IsAskedBehind roomless new.records (subst (AllByRecursion IsAskedBehind) (sym new.over) (made_asked nodes k (k + 1) links)));
      throttles = alone_places (places n.throttles) x.throttle (λ gate. ap (λ (t : Throttles). places t gate) new.throttles);
      counter = ap (λ (c : SeenNumbers). c.place) new.numbers;
    }

    at : (k : ℕ) (n : NodeNow (List Logged)) → slice_get s.cluster.nodes k ≡ Some n → IsFitNode n
    at k n is = let (x, there) = there_too nodes s.cluster.nodes k n (sym h.new.count) is in fit k x n (h.new.each k x n there is)

pub first : FirstIsOne
first = record { alike = first_alike; fit = first_fit }

-- ---- what is told

any_plain : (y : ℕ) (rs : List RecordNow) → list_any (λ (r : RecordNow). (r.place == y) && is_down r) rs ≡ list_any (λ (r : RecordNow). (r.place == y) && is_down r) (map plain rs)
any_plain y [] = refl
any_plain y (r ∷ rs) = ap (λ (b : Bool). ((r.place == y) && is_down r) || b) (any_plain y rs)

posts_plain : (y sum : ℕ) (rs : List RecordNow) → fold (λ a (r : RecordNow). a + (if r.place == y then count_by is_post_step r.plan else 0)) sum rs ≡
    fold (λ a (r : RecordNow). a + (if r.place == y then count_by is_post_step r.plan else 0)) sum (map plain rs)
posts_plain y sum [] = refl
posts_plain y sum (r ∷ rs) = posts_plain y (sum + (if r.place == y then count_by is_post_step r.plan else 0)) rs

sum_same : {X : Type 0} (f g : X → ℕ) → ((x : X) → f x ≡ g x) → (sum : ℕ) (xs : List X) → fold (λ a x. a + f x) sum xs ≡ fold (λ a x. a + g x) sum xs
sum_same f g same sum [] = refl
sum_same f g same sum (x ∷ xs) = ap (λ n. fold (λ a x. a + f x) (sum + n) xs) (same x) ∙ sum_same f g same (sum + g x) xs

module _ {D : Type 0} (heard : D → List Heard) (s t : RunNow D) (like : AreAlike heard s t) where
  heard_same : (k : ℕ) → heard_at heard s k ≡ heard_at heard t k
  heard_same k =
      ap (λ (cs : List TurnCalls). heard_of_node heard k cs (slice_get s.cluster.nodes k)) like.calls
      ∙ said_at (plain_node heard) (heard_of_node heard k t.calls) (λ n m same. ap (λ (x : PlainNode). in_turns (of_node k t.calls) x.center.out.fast x.center.queued) same) s.cluster.nodes t.cluster.nodes like.nodes k

  many : length s.cluster.nodes ≡ length t.cluster.nodes
  many = sym (length-map s.cluster.nodes (plain_node heard)) ∙ ap length like.nodes ∙ length-map t.cluster.nodes (plain_node heard)

  all_heard_same : all_heard heard s ≡ all_heard heard t
  all_heard_same =
      map_same (heard_at heard s) (heard_at heard t) heard_same (range_with_len 0 (length s.cluster.nodes)) ∙ ap (λ n. map (heard_at heard t) (range_with_len 0 n)) many

  down_same : (x y : ℕ) → is_down_at s x y ≡ is_down_at t x y
  down_same x y =
      said_at (plain_node heard) (λ o. list_any (λ (r : RecordNow). (r.place == y) && is_down r) (records_at o))
      (λ n m same. any_plain y n.center.records ∙ ap (λ (p : PlainNode). list_any (λ (r : RecordNow). (r.place == y) && is_down r) p.center.records) same ∙ sym (any_plain y m.center.records))
      s.cluster.nodes t.cluster.nodes like.nodes x

  up_same : (l : Link) → is_up s l ≡ is_up t l
  up_same l =
      ap (λ b. is_lossless l && not (b || is_down_at s l.b l.a)) (down_same l.a l.b) ∙ ap (λ b. is_lossless l && not (is_down_at t l.a l.b || b)) (down_same l.b l.a)

  posts_same : (x y : ℕ) → posts_at s x y ≡ posts_at t x y
  posts_same x y =
      said_at (plain_node heard) (λ o. fold (λ a (r : RecordNow). a + (if r.place == y then count_by is_post_step r.plan else 0)) 0 (records_at o))
      (λ n m same. posts_plain y 0 n.center.records ∙ ap (λ (p : PlainNode). fold (λ a (r : RecordNow). a + (if r.place == y then count_by is_post_step r.plan else 0)) 0 p.center.records) same
      ∙ sym (posts_plain y 0 m.center.records))
      s.cluster.nodes t.cluster.nodes like.nodes x

  left_from_same : (x y : ℕ) → left_from heard s x y ≡ left_from heard t x y
  left_from_same x y = ap (λ n. n - messages_at heard s x y) (posts_same x y) ∙ ap (λ (hs : List Heard). posts_at t x y - count_by (is_message_from x) hs) (heard_same y)

  left_over_same : (l : Link) → left_over heard s l ≡ left_over heard t l
  left_over_same l =
      ap (λ b. if b then left_from heard s l.a l.b + left_from heard s l.b l.a else 0) (up_same l)
      ∙ ap (λ n. if is_up t l then n + left_from heard s l.b l.a else 0) (left_from_same l.a l.b)
      ∙ ap (λ n. if is_up t l then left_from heard t l.a l.b + n else 0) (left_from_same l.b l.a)

  left_same : (links : List Link) → left_in heard links s ≡ left_in heard links t
  left_same links = sum_same (left_over heard s) (left_over heard t) left_over_same 0 links

told_same : (links : List Link) (s t : RunNow (List Logged)) → AreAlike heard_by s t → IsToldTheSame links s t
told_same links s t like = record { heard = all_heard_same heard_by s t like; left = left_same heard_by s t like links; up = up_same heard_by s t like }

pub told : LikeRunsAreToldAlike
told = record { told = told_same }

-- ---- the script

module _ (E : Type 0) where
  doing : LikeRunsDoAlike E (List Logged) heard_by
  doing = deeds.alike E heard_by

  ends : (ds : List Deed) (s t last other : RunNow (List Logged)) → HasFitNodes s → EndsStayApart E heard_by ds s → AreAlike heard_by s t → Ends E heard_by (Ok tt) ds s last → Ends E heard_by (Ok tt) ds t other →
      AreAlike heard_by last other
  ends [] s t last other f apart like h g = subst (λ x. AreAlike heard_by last x) (sym g) (subst (λ x. AreAlike heard_by x t) (sym h) like)
  ends (d ∷ ds) s t last other f apart like h g =
      let (here, rest) = apart h.between h.first in
      ends ds h.between g.between last other (doing.stays d s h.between f h.first) rest (doing.deeds d s t h.between g.between f here like h.first g.first) h.behind g.behind

  comes_to : (nodes : List Node) (links : List Link) (lines : List Line) (first last one other : RunNow (List Logged)) → EndsStayApart E heard_by (script_of links (length nodes) lines) first →
      IsScriptRun E nodes links lines first last → IsScriptRun E nodes links lines one other → AreAlike heard_by last other
  comes_to nodes links lines first last one other apart h g =
      ends (script_of links (length nodes) lines) first one last other (first_fit nodes links lines first h.begins) apart (first_alike nodes links lines first one h.begins g.begins) h.ends g.ends

  pub one : RunsAreOne E
  one = record {
    alike = comes_to;
    told = λ nodes links lines first last one other apart h g. told_same links last other (comes_to nodes links lines first last one other apart h g);
  }
