-- Of nodes where a run has ended: the record of one towards another with which a link joins it.
use Rattle.std.proofs.Common.{◌≡◌, ℕ, ◌<◌, ◌^◌, ◌%◌, ◌==◌, ◌&&◌, ◌||◌, false, if◌then◌else◌, List, length, sum_by, count_by, sym, ap, subst, ◌∙◌, arith}
use Rattle.std.specs.Prelude.{Some, slice_get}
use Rattle.std.specs.List.{AllByRecursion, list_any}
use Rattle.m2_channel.specs.Handing.{LogsAreLogs}
use Rattle.m2_channel.specs.Observed.{Logs}
use Rattle.m2_channel.specs.m2_never_reset.Order.{AreFirstOf}
use Rattle.m2_channel.specs.m2_never_reset.Orders.{posts_in}
use Rattle.m2_dispatch.specs.Heard.{heard_by}
use Rattle.m2_dispatch.specs.declared.logged.Logged.{Logged}
use Rattle.m2_lives.specs.Handing.{LogsAreInLives}
use Rattle.m2_links_go_on.proofs.m2_growth.Among.{of_each}
use Rattle.m2_links_go_on.specs.LogLaws.{logging_in}
use Rattle.m2_links_go_on.specs.Logged.{logs_in}
use Rattle.m2_links_go_on.specs.m2_growth.Halves.{IsOneOf}
use Rattle.m2_links_go_on.specs.m2_weave.m2_journal.Items.{items_of}
use Rattle.m2_links_go_on.specs.m2_weave.m2_journal.State.{State}
use Rattle.m2_promise.proofs.Centers.{IsInCenter, heard_in_center, in_center, lives_in_center, ways_in_center}
use Rattle.m2_promise.proofs.Ends.{never_marked, only_any, only_towards}
use Rattle.m2_promise.proofs.Hears.{GoOneWay}
use Rattle.m2_promise.proofs.Marks.{only_marked, record_marked}
use Rattle.m2_promise.proofs.PostedPlans.{count_planned, count_posts, posted_first}
use Rattle.m2_promise.proofs.Sides.{HasNamed, named_by, record_over}
use Rattle.m2_promise.specs.AtEnd.{AreAtEnd, Beside, IsNodeAtEnd, IsOfLines, Named, is_down_of, is_down_step, posts_planned, posts_to}
use Rattle.m2_promise.specs.Delivered.{HasHeardInLives, HasHeardPeer, MarksNoneDown}
use Rattle.m2_promise.specs.Planned.{IsTaken}
use Rattle.m2_promise.specs.Posted.{IsMarkedOnlySo, IsMarkedSo, gave_up_at, is_given_up}
use Rattle.m2_scenario.specs.Draft.{DraftLine}
use Rattle.m2_scenario.specs.Order.{posts_between}
use Rattle.m2_scenario.specs.declared.link.Link.{Link}
use Rattle.m2_scenario.specs.declared.node.Node.{Node}
use Rattle.m2_script.proofs.Lists.{item_at}
use Rattle.m2_script.specs.Made.{other_of}
use Rattle.m2_script.specs.Outcome.{heard_at, heard_of_node, in_turns, is_down, is_down_at, is_post_step, of_node, posts_at, records_at}
use Rattle.m2_script.specs.Script.{RunNow}
use Rattle.m2_script.specs.declared.made.Towards.{Towards}
use Rattle.m2_script.specs.m2_cluster.Node.{NodeNow}
use Rattle.m2_script.specs.m2_record.RecordNow.{RecordNow, speaks_of}

-- a node of a scenario where a run has ended, and its record towards another
pub record IsTowards (nodes : List Node) (s : RunNow (List Logged)) (x : ℕ) (t : Towards) : Type 0 where
  pub mine : Node
  pub node : NodeNow (List Logged)
  pub word : ℕ
  pub mine_there : slice_get nodes x ≡ Some mine
  pub node_there : slice_get s.cluster.nodes x ≡ Some node
  pub side : HasNamed (named_by mine x word t) node.center.records

module _ (nodes : List Node) (links : List Link) (lines : List DraftLine) (beside : Beside) (s : RunNow (List Logged)) (ended : AreAtEnd nodes links lines beside s) where
  -- either node of a link has one
  pub is_towards : (l : Link) → IsOneOf l links → (x : ℕ) (t : Towards) → other_of x l ≡ Some t → x < length nodes → t.place < length nodes → IsTowards nodes s x t
  is_towards l one x t other here there =
      let mine = item_at nodes x here in
      let peer = item_at nodes t.place there in
      let node = item_at s.cluster.nodes x (subst (λ n. x < n) (sym ended.count) here) in
      let its = ended.each x node.0 node.1 in
      record {
        mine = mine.0;
        node = node.0;
        word = its.word;
        mine_there = mine.1;
        node_there = node.1;
        side = record_over nodes links x its.word node.0.center.records its.named_so l t mine.0 peer.0 one other mine.1 peer.1;
      }

  module _ (x : ℕ) (t : Towards) (e : IsTowards nodes s x t) where
    abbrev r : RecordNow
    r = e.side.item

    pub place : r.place ≡ t.place
    place = ap (λ (d : Named). d.place) e.side.is

    pub policy : r.core.facts.policy ≡ t.policy
    policy = ap (λ (d : Named). d.policy) e.side.is

    pub number : r.core.facts.node.number ≡ x
    number = ap (λ (d : Named). d.number) e.side.is

    pub fast : r.core.facts.node.fast ≡ e.mine.fast
    fast = ap (λ (d : Named). d.fast) e.side.is

    salted : (n : ℕ) → n % 65536 < 2 ^ 16
    salted n = omega arith

    pub salt : r.core.facts.node.salt < 2 ^ 16
    salt = subst (λ n. n < 2 ^ 16) (sym (ap (λ (d : Named). d.salt) e.side.is)) (salted e.word)

    its : IsNodeAtEnd nodes links lines x e.node
    its = ended.each x e.node e.node_there

    pub of_lines : IsOfLines x lines r
    of_lines = of_each (IsOfLines x lines) r e.node.center.records its.of_lines e.side.one

    -- ---- its plan

    posts : posts_planned r.plan ≡ posts_to x t.place lines
    posts = of_lines.posts ∙ ap (λ n. posts_to x n lines) place

    -- it has posted the first of what the lines post
    pub journal_posts : AreFirstOf (posts_in (items_of (speaks_of r) r.journal)) (posts_to x t.place lines)
    journal_posts = subst (AreFirstOf (posts_in (items_of (speaks_of r) r.journal))) posts (posted_first r of_lines.is_record)

    pub posts_counted : posts_at s x t.place ≡ posts_between lines x t.place
    posts_counted =
        ap (λ o. sum_by (λ (q : RecordNow). if q.place == t.place then count_by is_post_step q.plan else 0) (records_at o)) e.node_there
        ∙ only_towards t.place e.node.center.records r its.distinct e.side.one place ∙ count_planned r.plan ∙ ap length posts ∙ sym (count_posts x t.place lines)

    -- ---- what its node heard

    abbrev logs : Logs
    logs = logs_in heard_by (logging_in e.node.center)

    is_in : IsInCenter e.node r
    is_in = in_center e.node its.centers its.are its.distinct r e.side.one

    pub heard : LogsAreLogs → HasHeardPeer logs r
    heard law = heard_in_center e.node r is_in law

    pub in_lives : LogsAreInLives → HasHeardInLives logs r
    in_lives law = lives_in_center e.node r is_in law

    pub heard_in_turns : heard_at heard_by s x ≡ in_turns (of_node x s.calls) logs.fast logs.queued
    heard_in_turns = ap (heard_of_node heard_by x s.calls) e.node_there

    pub ways : LogsAreLogs → State → GoOneWay t.place logs
    ways law state = subst (λ n. GoOneWay n logs) place (ways_in_center e.node r is_in law state)

    -- ---- whether it was marked down

    is_down_there : is_down_at s x t.place ≡ is_down r
    is_down_there =
        ap (λ o. list_any (λ (q : RecordNow). (q.place == t.place) && is_down q) (records_at o)) e.node_there
        ∙ only_any is_down t.place e.node.center.records r its.distinct e.side.one place

    -- what its plan and its journal tell is what lines and the node do
    told : (list_any is_down_step r.plan || list_any is_given_up r.journal) ≡ (list_any (is_down_of x t.place) lines || gave_up_at s x t.place)
    told =
        let gave_up : gave_up_at s x t.place ≡ list_any is_given_up r.journal =
        ap (λ o. list_any (λ (q : RecordNow). (q.place == t.place) && list_any is_given_up q.journal) (records_at o)) e.node_there
        ∙ only_any (λ (q : RecordNow). list_any is_given_up q.journal) t.place e.node.center.records r its.distinct e.side.one place in
        ap (λ b. b || list_any is_given_up r.journal) (of_lines.downs ∙ ap (λ n. list_any (is_down_of x n) lines) place)
        ∙ ap (λ b. list_any (is_down_of x t.place) lines || b) (sym gave_up)

    -- only where a line does so, or it gave up; exactly there, if it took each step
    pub marked : IsMarkedOnlySo lines s x t.place
    marked down = sym told ∙ only_marked r of_lines.is_record (sym is_down_there ∙ down)

    pub marked_so : IsTaken r → IsMarkedSo lines s x t.place
    marked_so taken = is_down_there ∙ record_marked r of_lines.is_record taken ∙ told

    pub unmarked : is_down_at s x t.place ≡ false → AllByRecursion MarksNoneDown r.journal
    unmarked none = never_marked t.place e.node.center.records r (ap (λ o. list_any (λ (q : RecordNow). (q.place == t.place) && is_down q) (records_at o)) (sym e.node_there) ∙ none) e.side.one place
