-- Of each link of nodes where a run has ended: its records, an order of all that was done on it, and what both of its nodes heard.
use Rattle.std.proofs.Common.{◌≡◌, ℕ, ◌⊎◌, true, false, List, [], ◌∷◌, ◌++◌, length, map, refl, sym, ap, subst, ◌∙◌, append_assoc}
use Rattle.std.specs.List.{AllByRecursion}
use Rattle.m2_channel.specs.Handing.{IsNoResetOf, LogsAreLogs}
use Rattle.m2_channel.specs.Observed.{IsLetter, Logs, all_of, turned}
use Rattle.m2_channel.specs.ObservedLaws.{AcknowledgedIsAccepted, AreBrought, AreLogs, ObservedIsARun}
use Rattle.m2_channel.proofs.Orders.{far_after_turned, history_first, near_turned}
use Rattle.m2_promise.specs.Delivered.{AreLosslessUp, BothLogs, HasAccepted, HasHeardPeer, MarksNoneDown}
use Rattle.m2_promise.specs.AtEnd.{AreAtEnd, AreFacing, Beside, IsLinkInOrder, posts_to}
use Rattle.m2_promise.specs.Lossy.{ComeInOrderOn}
use Rattle.m2_promise.proofs.Links.{never_down}
use Rattle.m2_promise.proofs.Logs.{delivered_on, heard_there, in_lives_there, some_there}
use Rattle.m2_dispatch.specs.declared.logged.Logged.{Logged}
use Rattle.m2_dispatch.specs.Heard.{Heard, heard_by, of_key}
use Rattle.m2_dispatch.specs.Laws.{IsSublist}
use Rattle.m2_lives.specs.m2_bytes_fit.Orders.{entries_of}
use Rattle.m2_lives.specs.m2_bytes_fit.Trails.{TrailsTellEachPoint}
use Rattle.m2_links_go_on.specs.m2_growth.Halves.{IsOneOf}
use Rattle.m2_links_go_on.specs.m2_history.Counted.{posted}
use Rattle.m2_links_go_on.specs.m2_history.Delivered.{AreOfOrder, CountsAreOfTheItems}
use Rattle.m2_links_go_on.specs.m2_history.HalfStrands.{OrdersGivePoints}
use Rattle.m2_links_go_on.specs.m2_weave.m2_journal.Items as item
use Rattle.m2_links_go_on.specs.m2_weave.m2_journal.Items.{JournalItem, items_of}
use Rattle.m2_links_go_on.specs.m2_weave.m2_journal.Replay.{after_items}
use Rattle.m2_links_go_on.specs.m2_weave.m2_journal.State.{State, start}
use Rattle.m2_lives.specs.m2_bytes_fit.m2_trail.Arrivals.{LooseNow}
use Rattle.m2_links_go_on.specs.m2_history.m2_channel.Lossy.{AreLossy}
use Rattle.m2_lives.specs.Handing.{LogsAreInLives}
use Rattle.m2_lives.specs.InLives.{AreInLives, BytesComeInLives}
use Rattle.m2_lives.specs.LifeAfterLife.{ComesInLives}
use Rattle.m2_lives.specs.ObservedRun.{AreLogsInLives}
use Rattle.m2_message.specs.Message.{Content, unnumbered}
use Rattle.m2_scenario.specs.Order.{posts_of}
use Rattle.m2_channel.specs.m2_never_reset.Order.{AreFirstOf}
use Rattle.m2_channel.specs.m2_never_reset.Orders as orders
use Rattle.m2_channel.specs.m2_never_reset.Orders.{AreNodes, IsHistory, SideItem, far_item, far_items, near_item, near_items, posts_in}
use Rattle.m2_dispatch.specs.m2_policy.Policy.{allows}
use Rattle.m2_dispatch.specs.m2_policy.declared.path.Key.{Key}
use Rattle.m2_dispatch.specs.m2_policy.declared.policy.Policy.{Policy}
use Rattle.m2_promise.specs.Posted.{AreAcknowledged, AreMarkedIn, AreRecordsOver, AreSomeOf, AreUpIn, HearsInLives, IsMarkedOnlySo, items_by, logs_of}
use Rattle.m2_promise.proofs.Hears.{GoOneWay, HearsOf, come_further, hears_in_lives, hears_of, hears_some, some_further}
use Rattle.m2_promise.proofs.PostsTowards as record_of
use Rattle.m2_promise.proofs.PostsTowards.{IsTowards}
use Rattle.m2_script.specs.m2_record.IsRecord.{IsRecord}
use Rattle.m2_script.specs.m2_record.RecordNow.{RecordNow, speaks_of}
use Rattle.m2_scenario.specs.declared.link.Link.{Link}
use Rattle.m2_scenario.specs.declared.node.Node.{Node}
use Rattle.m2_scenario.specs.Draft.{DraftLine}
use Rattle.m2_scenario.specs.Valid as valid
use Rattle.m2_script.specs.declared.made.Towards.{Towards}
use Rattle.m2_script.specs.Outcome.{heard_at, in_turns, is_down_at, of_node}
use Rattle.m2_script.specs.Script.{RunNow}
use Rattle.m2_links_go_on.specs.m2_weave.WeaveLaws.{AsksComeFirst, ReadWasWritten}
use Rattle.m2_links_go_on.specs.m2_history.WovenLaws.{WovenBytesFit, WovenIsDelivered, WovenIsNeverReset, kept_by, link_of}
use Rattle.m2_links_go_on.specs.m2_history.WovenLink.{AreUp, IsLink, IsOrderOf, LinkNow, order_of}
use Rattle.m2_links_go_on.specs.m2_history.Lossy.{AreSomeLogs, WovenComesInOrder}
use Rattle.m2_links_go_on.specs.m2_history.Marked.{WovenIsARunToAMark}
use Rattle.m2_links_go_on.proofs.m2_history.Whole.{far_whole, near_whole, by_actors}
use Rattle.m2_fabric.proofs.m2_lemmas.Lists.{all_front, all_back}

-- ---- laws that are used

pub record AreLaws : Type 0 where
  pub read : ReadWasWritten
  pub asked : AsksComeFirst
  pub points : OrdersGivePoints
  pub tell : TrailsTellEachPoint
  pub never : WovenIsNeverReset
  pub delivers : WovenIsDelivered
  pub to_a_mark : WovenIsARunToAMark
  pub comes : WovenComesInOrder
  pub observed : ObservedIsARun
  pub acknowledged : AcknowledgedIsAccepted
  pub counts : CountsAreOfTheItems
  pub logs : LogsAreLogs
  pub fit : WovenBytesFit
  pub in_lives : LogsAreInLives
  pub lives : BytesComeInLives

-- ---- the two ends of a link

abbrev pub of_a : Link → Towards
of_a l = record { place = l.b; policy = l.of_a }

abbrev pub of_b : Link → Towards
of_b l = record { place = l.a; policy = l.of_b }

-- its policies keep messages
pub record KeepsAll (l : Link) : Type 0 where
  pub a_keeps : l.of_a.lossy ≡ false
  pub b_keeps : l.of_b.lossy ≡ false

-- neither end was marked down
pub record StaysUp (s : RunNow (List Logged)) (l : Link) : Type 0 where
  pub a_up : is_down_at s l.a l.b ≡ false
  pub b_up : is_down_at s l.b l.a ≡ false

module _ (laws : AreLaws) (nodes : List Node) (links : List Link) (lines : List DraftLine) (beside : Beside) (s : RunNow (List Logged)) (ended : AreAtEnd nodes links lines beside s)
    (l : Link) (one : IsOneOf l links) (is : valid.IsLink (length nodes) l) (ea : IsTowards nodes s l.a (of_a l)) (eb : IsTowards nodes s l.b (of_b l)) where
  abbrev a : RecordNow
  a = ea.side.item

  abbrev b : RecordNow
  b = eb.side.item

  abbrev logs : BothLogs
  logs = logs_of ea.node eb.node

  abbrev loose : List LooseNow
  loose = beside ea.node eb.node

  abbrev it : LinkNow
  it = link_of a b loose

  abbrev facing : AreFacing s l.a l.b ea.node eb.node a b
  facing = record {
    near_there = ea.node_there;
    far_there = eb.node_there;
    a_at = ea.side.at;
    b_at = eb.side.at;
    a_there = ea.side.there;
    b_there = eb.side.there;
    a_towards = record_of.place nodes links lines beside s ended l.a (of_a l) ea;
    b_towards = record_of.place nodes links lines beside s ended l.b (of_b l) eb;
  }

  abbrev pub records : AreRecordsOver s l
  records = record { near = ea.node; far = eb.node; a = a; b = b; facing = facing }

  is_a : IsRecord a
  is_a = (record_of.of_lines nodes links lines beside s ended l.a (of_a l) ea).is_record

  is_b : IsRecord b
  is_b = (record_of.of_lines nodes links lines beside s ended l.b (of_b l) eb).is_record

  -- ---- what its nodes and policies tell

  a_number : a.core.facts.node.number ≡ l.a
  a_number = record_of.number nodes links lines beside s ended l.a (of_a l) ea

  b_number : b.core.facts.node.number ≡ l.b
  b_number = record_of.number nodes links lines beside s ended l.b (of_b l) eb

  a_policy : a.core.facts.policy ≡ l.of_a
  a_policy = record_of.policy nodes links lines beside s ended l.a (of_a l) ea

  b_policy : b.core.facts.policy ≡ l.of_b
  b_policy = record_of.policy nodes links lines beside s ended l.b (of_b l) eb

  near_number : a.core.facts.node.number ≡ b.place
  near_number = a_number ∙ sym facing.b_towards

  far_number : b.core.facts.node.number ≡ a.place
  far_number = b_number ∙ sym facing.a_towards

  -- what holds of both policies of the link
  of_both : (P : Policy → Policy → Type 0) → P l.of_a l.of_b → P a.core.facts.policy b.core.facts.policy
  of_both P so = subst (λ p. P p b.core.facts.policy) (sym a_policy) (subst (P l.of_a) (sym b_policy) so)

  are_nodes : KeepsAll l → AreNodes a.core.facts b.core.facts
  are_nodes keeps = record {
    allowed = of_both (λ p q. allows p q ≡ true) is.allowed;
    near_keeps = of_both (λ p q. p.lossy ≡ false) keeps.a_keeps;
    far_keeps = of_both (λ p q. q.lossy ≡ false) keeps.b_keeps;
    places = λ same. is.different (sym a_number ∙ same ∙ b_number);
    near_salt = record_of.salt nodes links lines beside s ended l.a (of_a l) ea;
    far_salt = record_of.salt nodes links lines beside s ended l.b (of_b l) eb;
  }

  are_lossy : (l.of_a.lossy ≡ true) ⊎ (l.of_b.lossy ≡ true) → AreLossy a.core.facts b.core.facts
  are_lossy lossy = record { allowed = of_both (λ p q. allows p q ≡ true) is.allowed; lossy = of_both (λ p q. (p.lossy ≡ true) ⊎ (q.lossy ≡ true)) lossy }

  -- ---- plans and logs

  a_heard : HasHeardPeer logs.near a
  a_heard = record_of.heard nodes links lines beside s ended l.a (of_a l) ea laws.logs

  b_heard : HasHeardPeer logs.far b
  b_heard = record_of.heard nodes links lines beside s ended l.b (of_b l) eb laws.logs

  a_posts : AreFirstOf (posts_in (items_of (speaks_of a) a.journal)) (posts_to a.core.facts.node.number l.b lines)
  a_posts = subst (λ n. AreFirstOf (posts_in (items_of (speaks_of a) a.journal)) (posts_to n l.b lines)) (sym a_number) (record_of.journal_posts nodes links lines beside s ended l.a (of_a l) ea)

  b_posts : AreFirstOf (posts_in (items_of (speaks_of b) b.journal)) (posts_to b.core.facts.node.number l.a lines)
  b_posts = subst (λ n. AreFirstOf (posts_in (items_of (speaks_of b) b.journal)) (posts_to n l.a lines)) (sym b_number) (record_of.journal_posts nodes links lines beside s ended l.b (of_b l) eb)

  -- what goes to the far node, and what to the near one
  far_ways : GoOneWay a.core.facts.node.number logs.far
  far_ways = subst (λ n. GoOneWay n logs.far) (sym a_number) (record_of.ways nodes links lines beside s ended l.b (of_b l) eb laws.logs is_b.state)

  near_ways : GoOneWay b.core.facts.node.number logs.near
  near_ways = subst (λ n. GoOneWay n logs.near) (sym b_number) (record_of.ways nodes links lines beside s ended l.a (of_a l) ea laws.logs is_a.state)

  abbrev b_calls : List Heard
  b_calls = in_turns (of_node l.b s.calls) logs.far.fast logs.far.queued

  abbrev a_calls : List Heard
  a_calls = in_turns (of_node l.a s.calls) logs.near.fast logs.near.queued

  -- what holds of all calls of a node by the facts of both records holds of what it heard, by what the nodes are told
  at_b : (P : ℕ → List ℕ → List Heard → Type 0) → P a.core.facts.node.number b.core.facts.node.fast b_calls → P l.a eb.mine.fast (heard_at heard_by s l.b)
  at_b P so =
      subst (P l.a eb.mine.fast) (sym (record_of.heard_in_turns nodes links lines beside s ended l.b (of_b l) eb))
      (subst (λ f. P l.a f b_calls) (record_of.fast nodes links lines beside s ended l.b (of_b l) eb) (subst (λ n. P n b.core.facts.node.fast b_calls) a_number so))

  at_a : (P : ℕ → List ℕ → List Heard → Type 0) → P b.core.facts.node.number a.core.facts.node.fast a_calls → P l.b ea.mine.fast (heard_at heard_by s l.a)
  at_a P so =
      subst (P l.b ea.mine.fast) (sym (record_of.heard_in_turns nodes links lines beside s ended l.a (of_a l) ea))
      (subst (λ f. P l.b f a_calls) (record_of.fast nodes links lines beside s ended l.a (of_a l) ea) (subst (λ n. P n a.core.facts.node.fast a_calls) b_number so))

  -- ---- whether it is marked down

  pub a_marked : IsMarkedOnlySo lines s l.a l.b
  a_marked = record_of.marked nodes links lines beside s ended l.a (of_a l) ea

  pub b_marked : IsMarkedOnlySo lines s l.b l.a
  b_marked = record_of.marked nodes links lines beside s ended l.b (of_b l) eb

  -- ---- an order of it

  abbrev in_order : IsLinkInOrder it
  in_order = ended.in_order l ea.node eb.node a b one facing

  abbrev is_link : IsLink it
  is_link = in_order.is_link

  abbrev pub order : List ℕ
  order = in_order.order

  abbrev pub is_order : IsOrderOf it order
  is_order = in_order.is_order

  abbrev all : List SideItem
  all = entries_of (order_of it order)

  near_all : near_items all ≡ items_of (speaks_of a) a.journal
  near_all = near_whole laws.read laws.asked laws.points laws.tell it is_order.sockets is_link is_order.rows order (by_actors it order is_link is_order)

  far_all : far_items all ≡ items_of (speaks_of b) b.journal
  far_all = far_whole laws.read laws.asked laws.points laws.tell it is_order.sockets is_link is_order.rows order (by_actors it order is_link is_order)

  pub journals : AreOfOrder all (kept_by it true) (kept_by it false)
  journals = record { near_plan = refl; far_plan = refl; near_items = near_all; far_items = far_all }

  are_logs : AreLogs a.core.facts b.core.facts all logs.near logs.far
  are_logs = record {
    near = heard_there a is_a (near_items all) near_all logs.near b.core.facts.node.number a_heard far_number;
    far = heard_there b is_b (far_items all) far_all logs.far a.core.facts.node.number b_heard near_number;
  }

  -- ---- a lossless link, to a mark

  pub marked_in : KeepsAll l → AreMarkedIn it logs all
  marked_in keeps = (laws.to_a_mark it order logs.near logs.far (are_nodes keeps) is_link is_order).observed are_logs

  -- ---- a lossless link, life after life

  logs_in_lives : AreLogsInLives a.core.facts b.core.facts all logs.near logs.far
  logs_in_lives = record {
    near = in_lives_there a is_a (near_items all) near_all logs.near b.core.facts.node.number (record_of.in_lives nodes links lines beside s ended l.a (of_a l) ea laws.in_lives) far_number;
    far = in_lives_there b is_b (far_items all) far_all logs.far a.core.facts.node.number (record_of.in_lives nodes links lines beside s ended l.b (of_b l) eb laws.in_lives) near_number;
  }

  pub lives_in : KeepsAll l → AreInLives a.core.facts b.core.facts all logs.near logs.far
  lives_in keeps =
      laws.lives a.core.facts b.core.facts (order_of it order) logs.near logs.far (are_nodes keeps) is_link.joined.peers (laws.fit it order is_link is_order).fits logs_in_lives

  pub b_hears_in_lives : KeepsAll l → HearsInLives l.a a.core.facts b.core.facts (items_by a) (items_by b) (posts_to l.a l.b lines) (heard_at heard_by s l.b)
  b_hears_in_lives keeps =
      let come : ComesInLives a.core.facts b.core.facts (items_by a) (items_by b) logs.far =
      subst (λ is. ComesInLives a.core.facts b.core.facts is (items_by b) logs.far) near_all
      (subst (λ is. ComesInLives a.core.facts b.core.facts (near_items all) is logs.far) far_all (lives_in keeps).comes.near) in
      at_b (λ x fast heard. HearsInLives x a.core.facts b.core.facts (items_by a) (items_by b) (posts_to x l.b lines) heard)
      (hears_in_lives a.core.facts b.core.facts (items_by a) (items_by b) l.b lines logs.far (of_node l.b s.calls) far_ways come a_posts)

  pub a_hears_in_lives : KeepsAll l → HearsInLives l.b b.core.facts a.core.facts (items_by b) (items_by a) (posts_to l.b l.a lines) (heard_at heard_by s l.a)
  a_hears_in_lives keeps =
      let come : ComesInLives b.core.facts a.core.facts (items_by b) (items_by a) logs.near =
      subst (λ is. ComesInLives b.core.facts a.core.facts is (items_by a) logs.near) far_all
      (subst (λ is. ComesInLives b.core.facts a.core.facts (far_items all) is logs.near) near_all (lives_in keeps).comes.far) in
      at_a (λ x fast heard. HearsInLives x b.core.facts a.core.facts (items_by b) (items_by a) (posts_to x l.a lines) heard)
      (hears_in_lives b.core.facts a.core.facts (items_by b) (items_by a) l.a lines logs.near (of_node l.a s.calls) near_ways come b_posts)

  -- ---- a lossy link

  some_logs : AreSomeLogs a.core.facts b.core.facts all logs.near logs.far
  some_logs = record {
    near = some_there a is_a (near_items all) near_all logs.near b.core.facts.node.number a_heard far_number;
    far = some_there b is_b (far_items all) far_all logs.far a.core.facts.node.number b_heard near_number;
  }

  pub come_in : (l.of_a.lossy ≡ true) ⊎ (l.of_b.lossy ≡ true) → ComeInOrderOn it logs
  come_in lossy = laws.comes it order logs.near logs.far (are_lossy lossy) is_link is_order some_logs

  -- what is some of what a side posted is some of what the lines post
  near_some : (key : Key) (hs : List Content) → IsSublist hs (map unnumbered (posted a.plan b.core.facts.node.fast key a.journal)) →
      IsSublist hs (orders.of_key b.core.facts key (map unnumbered (posts_to a.core.facts.node.number l.b lines)))
  near_some key hs some =
      some_further b.core.facts key (posts_in (items_of (speaks_of a) a.journal)) (posts_to a.core.facts.node.number l.b lines) hs a_posts
      (subst (IsSublist hs) ((laws.counts a.core.facts (kept_by it true) refl is_a.at_state.replay.lawful).posted b.core.facts key) some)

  far_some : (key : Key) (hs : List Content) → IsSublist hs (map unnumbered (posted b.plan a.core.facts.node.fast key b.journal)) →
      IsSublist hs (orders.of_key a.core.facts key (map unnumbered (posts_to b.core.facts.node.number l.a lines)))
  far_some key hs some =
      some_further a.core.facts key (posts_in (items_of (speaks_of b) b.journal)) (posts_to b.core.facts.node.number l.a lines) hs b_posts
      (subst (IsSublist hs) ((laws.counts b.core.facts (kept_by it false) refl is_b.at_state.replay.lawful).posted a.core.facts key) some)

  pub b_hears_some : (l.of_a.lossy ≡ true) ⊎ (l.of_b.lossy ≡ true) → (key : Key) → AreSomeOf (of_key l.a key (heard_at heard_by s l.b)) (posts_of l.a l.b eb.mine.fast key lines)
  b_hears_some lossy key =
      at_b (λ x fast heard. AreSomeOf (of_key x key heard) (posts_of x l.b fast key lines))
      (hears_some a.core.facts b.core.facts l.b lines logs.far (of_node l.b s.calls) far_ways
      (λ k. near_some k (map unnumbered (of_key a.core.facts.node.number k (all_of logs.far))) ((come_in lossy).near k)) key)

  pub a_hears_some : (l.of_a.lossy ≡ true) ⊎ (l.of_b.lossy ≡ true) → (key : Key) → AreSomeOf (of_key l.b key (heard_at heard_by s l.a)) (posts_of l.b l.a ea.mine.fast key lines)
  a_hears_some lossy key =
      at_a (λ x fast heard. AreSomeOf (of_key x key heard) (posts_of x l.a fast key lines))
      (hears_some b.core.facts a.core.facts l.a lines logs.near (of_node l.a s.calls) near_ways
      (λ k. far_some k (map unnumbered (of_key b.core.facts.node.number k (all_of logs.near))) ((come_in lossy).far k)) key)

  -- ---- a link that is up

  module _ (keeps : KeepsAll l) (up : StaysUp s l) where
    nodes_so : AreNodes a.core.facts b.core.facts
    nodes_so = are_nodes keeps

    a_up : AllByRecursion MarksNoneDown a.journal
    a_up = record_of.unmarked nodes links lines beside s ended l.a (of_a l) ea up.a_up

    b_up : AllByRecursion MarksNoneDown b.journal
    b_up = record_of.unmarked nodes links lines beside s ended l.b (of_b l) eb up.b_up

    none_down : AreUp it
    none_down true = never_down a a_up
    none_down false = never_down b b_up

    history : IsHistory a.core.facts b.core.facts all
    history = (laws.never it order nodes_so is_link none_down is_order).history

    brought : AreBrought a.core.facts b.core.facts all logs.near logs.far
    brought = laws.observed a.core.facts b.core.facts all logs.near logs.far nodes_so history are_logs

    acknowledged : AreAcknowledged a.core.facts b.core.facts all
    acknowledged = record {
      near = λ before more number e. (laws.acknowledged a.core.facts b.core.facts before number nodes_so).near
          (history_first a.core.facts b.core.facts (before ++ near_item (item.acked number) ∷ []) more
          (subst (IsHistory a.core.facts b.core.facts) (e ∙ sym (append_assoc before (near_item (item.acked number) ∷ []) more)) history));
      far = λ before more number e. (laws.acknowledged a.core.facts b.core.facts before number nodes_so).far
          (history_first a.core.facts b.core.facts (before ++ far_item (item.acked number) ∷ []) more
          (subst (IsHistory a.core.facts b.core.facts) (e ∙ sym (append_assoc before (far_item (item.acked number) ∷ []) more)) history));
    }

    pub up_in : AreUpIn it logs all
    up_in = record {
      history = history;
      never_reset = (laws.never it order nodes_so is_link none_down is_order).never_reset;
      observed = brought;
      delivered = laws.delivers it order logs.near logs.far nodes_so is_link none_down is_order are_logs;
      acknowledged = acknowledged;
    }

    are_up : AreLosslessUp logs a b
    are_up = record {
      nodes = nodes_so;
      near_number = near_number;
      far_number = far_number;
      near = record { up = a_up; heard = a_heard };
      far = record { up = b_up; heard = b_heard };
    }

    pub accepted : HasAccepted a b × HasAccepted b a
    accepted =
        let on = delivered_on a b loose logs is_a is_b are_up laws.read laws.asked laws.points laws.tell is_link order is_order laws.never laws.delivers in (on.near_acknowledged, on.far_acknowledged)

    -- where a record's peer is heard, and its journal hands on messages alone, no reset is heard
    unreset : (r : RecordNow) → IsRecord r → (log : Logs) → HasHeardPeer log r → (items : List JournalItem) → items ≡ items_of (speaks_of r) r.journal →
        AllByRecursion IsLetter (after_items r.core.facts items (start r.core.facts)).deliveries → AllByRecursion (IsNoResetOf r.place) (all_of log)
    unreset r is log heard items same only =
        let leads : is.state ≡ after_items r.core.facts items (start r.core.facts) = is.at_state.replay.state ∙ ap (λ is. after_items r.core.facts is (start r.core.facts)) (sym same) in
        (heard is.state is.at_state).no_reset (subst (λ (t : State). AllByRecursion IsLetter t.deliveries) (sym leads) only)

    both_unreset : (x y : ℕ) (log : Logs) → x ≡ y → AllByRecursion (IsNoResetOf x) (all_of log) → AllByRecursion (IsNoResetOf y) log.fast × AllByRecursion (IsNoResetOf y) log.queued
    both_unreset x y log e none =
        let its = subst (λ n. AllByRecursion (IsNoResetOf n) (all_of log)) e none in (all_front (IsNoResetOf y) log.fast log.queued its, all_back (IsNoResetOf y) log.fast log.queued its)

    -- from the near node to the far one
    near_posts : AreFirstOf (posts_in (near_items all)) (posts_to a.core.facts.node.number l.b lines)
    near_posts = subst (λ ms. AreFirstOf ms (posts_to a.core.facts.node.number l.b lines)) (sym (ap posts_in near_all)) a_posts

    pub b_hears : HearsOf l.a l.b eb.mine.fast lines (heard_at heard_by s l.b)
    b_hears =
        at_b (λ x fast heard. HearsOf x l.b fast lines heard)
        (hears_of a.core.facts b.core.facts l.b lines logs.far (of_node l.b s.calls) (come_further a.core.facts b.core.facts (posts_in (near_items all)) (posts_to a.core.facts.node.number l.b lines) logs.far near_posts brought.near.as_posted) far_ways
        (both_unreset b.place a.core.facts.node.number logs.far (sym near_number) (unreset b is_b logs.far b_heard (far_items all) far_all brought.near.letters_only)))

    -- and back
    far_posts : AreFirstOf (posts_in (near_items (turned all))) (posts_to b.core.facts.node.number l.a lines)
    far_posts = subst (λ ms. AreFirstOf ms (posts_to b.core.facts.node.number l.a lines)) (sym (ap posts_in (near_turned all ∙ far_all))) b_posts

    pub a_hears : HearsOf l.b l.a ea.mine.fast lines (heard_at heard_by s l.a)
    a_hears =
        at_a (λ x fast heard. HearsOf x l.a fast lines heard)
        (hears_of b.core.facts a.core.facts l.a lines logs.near (of_node l.a s.calls) (come_further b.core.facts a.core.facts (posts_in (near_items (turned all))) (posts_to b.core.facts.node.number l.a lines) logs.near far_posts brought.far.as_posted) near_ways
        (both_unreset a.place b.core.facts.node.number logs.near (sym far_number)
        (unreset a is_a logs.near a_heard (near_items all) near_all (subst (λ (t : State). AllByRecursion IsLetter t.deliveries) (far_after_turned a.core.facts all) brought.far.letters_only))))
