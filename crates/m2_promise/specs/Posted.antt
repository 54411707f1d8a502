-- What is promised of a script's run: over each lossless link of which neither end was marked down, messages come in order, each once;
-- over a lossy one some of them come, in order. This is the project's promise.
use Rattle.std.specs.Prelude.{◌≡◌, ◌==◌, ◌&&◌, ◌||◌, not, ℕ, ◌≤◌, Bool, true, false, List, ◌∷◌, ◌++◌, length, map, slice_get, Some, sum_by}
use Rattle.std.specs.List.{AllByRecursion, list_any}
use Rattle.m2_channel.specs.ObservedLaws.{AreBrought, AreBroughtToAMark, posted_to}
use Rattle.m2_script.specs.m2_cluster.Node.{NodeNow}
use Rattle.m2_links_go_on.specs.Center.{holding_of}
use Rattle.m2_links_go_on.specs.m2_growth.Halves.{all_left}
use Rattle.m2_promise.specs.AtEnd.{AreFacing, Beside, is_down_of, posts_to}
use Rattle.m2_promise.specs.Delivered.{BothLogs, HasAccepted}
use Rattle.m2_promise.specs.Lossy.{ComeInOrderOn}
use Rattle.m2_dispatch.specs.declared.logged.Logged.{Logged}
use Rattle.m2_dispatch.specs.Heard.{Heard, heard_by, of_key}
use Rattle.m2_dispatch.specs.Laws.{IsSublist}
use Rattle.m2_lives.specs.m2_bytes_fit.Orders.{entries_of}
use Rattle.m2_lives.specs.m2_bytes_fit.Posts.{IsOfTypes}
use Rattle.m2_links_go_on.specs.m2_history.Delivered.{AreDelivered, AreOfOrder}
use Rattle.m2_links_go_on.specs.m2_weave.m2_journal.declared.entry.Entry.{Entry}
use Rattle.m2_links_go_on.specs.m2_weave.m2_journal.declared.entry.Entry.TheVariants as entry
use Rattle.m2_links_go_on.specs.m2_weave.m2_journal.Items as item
use Rattle.m2_links_go_on.specs.m2_weave.m2_journal.Items.{JournalItem, items_of}
use Rattle.m2_links_go_on.specs.m2_weave.m2_journal.SideFacts.{SideFacts}
use Rattle.m2_links_go_on.specs.LogLaws.{logging_in}
use Rattle.m2_links_go_on.specs.Logged.{logs_in}
use Rattle.m2_lives.specs.InLives.{AreInLives}
use Rattle.m2_lives.specs.LifeAfterLife.{held_for, sending_side}
use Rattle.m2_lives.specs.LivesLaws.{ArePiecesOf}
use Rattle.m2_lives.specs.ObservedLaws.{NumberedLife, lives_of}
use Rattle.m2_message.specs.Message.{Content, unnumbered}
use Rattle.m2_scenario.specs.Order.{AreCounted, AreOfJoined, HearsNoReset, HearsPrefix, HearsWhole, OverEach, at, fast_of, posts_of}
use Rattle.m2_channel.specs.m2_never_reset.LinkOf.{letters}
use Rattle.m2_channel.specs.m2_never_reset.Orders.{IsHistory, IsNeverReset, SideItem, far_after, far_item, near_after, near_item}
use Rattle.m2_dispatch.specs.m2_policy.declared.path.Key.{Key}
use Rattle.m2_script.specs.m2_record.RecordNow.{RecordNow, speaks_of}
use Rattle.m2_scenario.specs.declared.line.Line.{Line}
use Rattle.m2_scenario.specs.declared.line.Line.TheVariants as line
use Rattle.m2_scenario.specs.declared.link.Link.{Link}
use Rattle.m2_scenario.specs.declared.node.Node.{Node}
use Rattle.m2_scenario.specs.Draft.{DraftLine, draft_line}
use Rattle.m2_script.specs.declared.calls.TurnCalls.{TurnCalls}
use Rattle.m2_script.specs.Outcome.{all_heard, is_down_at, is_lossless, is_up, left_in, of_node, records_at}
use Rattle.m2_script.specs.Script.{RunNow, fast_calls, queued_calls}
pub use Rattle.m2_promise.specs.Started.{IsFirst, IsScriptRun}
use Rattle.m2_links_go_on.specs.m2_history.WovenLaws.{kept_by, link_of}
use Rattle.m2_links_go_on.specs.m2_history.WovenLink.{IsOrderOf, LinkNow, order_of}

-- ---- what lines post

-- header and bytes of a message that a line posts keep the ranges of their types, as every line of a program does
abbrev pub PostsOfTypes : Line → Type 0
PostsOfTypes (line.Post a b message) = IsOfTypes message
PostsOfTypes _ = Unit {0}

-- some of them, in order, each once; a message is the same whatever numbers the runtime wrote into it
abbrev pub AreSomeOf : (heard posted : List Content) → Type 0
AreSomeOf heard posted = IsSublist (map unnumbered heard) (map unnumbered posted)

-- of each key, what y heard from x is some of what x posted to y, in order, each once
abbrev pub HearsSome : List (List ℕ) → List DraftLine → List (List Heard) → (x y : ℕ) → Type 0
HearsSome fast lines heard x y = (key : Key) → AreSomeOf (of_key x key (at y heard)) (posts_of x y (at y fast) key lines)

abbrev pub is_lossy : Link → Bool
is_lossy l = not (is_lossless l)

-- ---- who is marked down

-- a record gave its session up, since a number that it needed next was above the greatest
abbrev pub is_given_up : Entry → Bool
is_given_up (entry.Down false) = true
is_given_up _ = false

abbrev pub gave_up_at : {D : Type 0} → RunNow D → (x y : ℕ) → Bool
gave_up_at s x y = list_any (λ (r : RecordNow). (r.place == y) && list_any is_given_up r.journal) (records_at (slice_get s.cluster.nodes x))

-- it was marked down exactly where a line does so, or it gave up
abbrev pub IsMarkedSo : {D : Type 0} → List DraftLine → RunNow D → (x y : ℕ) → Type 0
IsMarkedSo lines s x y = is_down_at s x y ≡ (list_any (is_down_of x y) lines || gave_up_at s x y)

-- only where a line does so, or it gave up
abbrev pub IsMarkedOnlySo : {D : Type 0} → List DraftLine → RunNow D → (x y : ℕ) → Type 0
IsMarkedOnlySo lines s x y = is_down_at s x y ≡ true → (list_any (is_down_of x y) lines || gave_up_at s x y) ≡ true

-- ---- turn by turn

-- the turns of the node at place k that were noted had all the calls of its dispatchers
pub record AreNoted {D : Type 0} (heard : D → List Heard) (s : RunNow D) (k : ℕ) (n : NodeNow D) : Type 0 where
  pub fast : sum_by (λ (c : TurnCalls). c.fast) (of_node k s.calls) ≡ fast_calls heard n
  pub queued : sum_by (λ (c : TurnCalls). c.queued) (of_node k s.calls) ≡ queued_calls heard n

-- so it is of each node
abbrev pub AllNoted : {D : Type 0} → (D → List Heard) → RunNow D → Type 0
AllNoted {D} heard s = (k : ℕ) (n : NodeNow D) → slice_get s.cluster.nodes k ≡ Some n → AreNoted heard s k n

-- ---- the runtime's own accounts

-- what both nodes of a link were called with
abbrev pub logs_of : (n m : NodeNow (List Logged)) → BothLogs
logs_of n m = record { near = logs_in heard_by (logging_in n.center); far = logs_in heard_by (logging_in m.center) }

-- a record of either node of a link, towards each other
pub record AreRecordsOver (s : RunNow (List Logged)) (l : Link) : Type 0 where
  pub near : NodeNow (List Logged)
  pub far : NodeNow (List Logged)
  pub a : RecordNow
  pub b : RecordNow
  pub facing : AreFacing s l.a l.b near far a b

-- the two with halves beside them, and what both nodes were called with
abbrev pub link_between : {s : RunNow (List Logged)} {l : Link} → Beside → AreRecordsOver s l → LinkNow
link_between beside r = link_of r.a r.b (beside r.near r.far)

abbrev pub logs_between : {s : RunNow (List Logged)} {l : Link} → AreRecordsOver s l → BothLogs
logs_between r = logs_of r.near r.far

-- what an entry counts as acknowledged the other side has accepted by then
pub record AreAcknowledged (f g : SideFacts) (order : List SideItem) : Type 0 where
  pub near : (before more : List SideItem) (number : ℕ) → order ≡ before ++ near_item (item.acked number) ∷ more → number ≤ length (letters (far_after g before).deliveries)
  pub far : (before more : List SideItem) (number : ℕ) → order ≡ before ++ far_item (item.acked number) ∷ more → number ≤ length (letters (near_after f before).deliveries)

-- Two lossless sides that weren't marked down, by both journals in an order: they are a history in which nothing was reset, and a run
-- of the ordered channel; what was dispatched is the first of what was posted; what was acknowledged was accepted.
pub record AreUpIn (l : LinkNow) (logs : BothLogs) (order : List SideItem) : Type 0 where
  pub history : IsHistory (l.facts true) (l.facts false) order
  pub never_reset : IsNeverReset (l.facts true) (l.facts false) order
  pub observed : AreBrought (l.facts true) (l.facts false) order logs.near logs.far
  pub delivered : AreDelivered (l.facts true) (l.facts false) (kept_by l true) (kept_by l false) logs.near logs.far
  pub acknowledged : AreAcknowledged (l.facts true) (l.facts false) order

-- Two lossless sides, whether marked down or not: what is observed is a run of the ordered channel, in which no reset comes before a
-- mark, and all that came before it is as above.
abbrev pub AreMarkedIn : LinkNow → BothLogs → List SideItem → Type 0
AreMarkedIn l logs order = AreBroughtToAMark (l.facts true) (l.facts false) order logs.near logs.far

-- Both journals stand whole in an order of all that was done on a link, and in it they are as its policies say. Where neither side is
-- lossy, what is heard comes life after life, whether a side was marked down or not.
pub record IsAccountedBy (s : RunNow (List Logged)) (l : Link) (x : LinkNow) (logs : BothLogs) (order : List ℕ) : Type 0 where
  pub is_order : IsOrderOf x order
  pub journals : AreOfOrder (entries_of (order_of x order)) (kept_by x true) (kept_by x false)
  pub up : is_up s l ≡ true → AreUpIn x logs (entries_of (order_of x order))
  pub lossless : is_lossless l ≡ true → AreMarkedIn x logs (entries_of (order_of x order))
  pub lives : is_lossless l ≡ true → AreInLives (x.facts true) (x.facts false) (entries_of (order_of x order)) logs.near logs.far
  pub lossy : is_lossless l ≡ false → ComeInOrderOn x logs

pub record IsAccountedOver (beside : Beside) (s : RunNow (List Logged)) (l : Link) : Type 0 where
  pub records : AreRecordsOver s l
  pub order : List ℕ
  pub accounted : IsAccountedBy s l (link_between beside records) (logs_between records) order
  pub near_acknowledged : is_up s l ≡ true → HasAccepted records.a records.b
  pub far_acknowledged : is_up s l ≡ true → HasAccepted records.b records.a

-- ---- life after life

-- What a node heard from x, by both journals of their link and by what x posts: of each key it is one piece of each life of the side that
-- hears, life after life, each the first ones of the posts from the start to the end of the one sending life of that name, in order, each
-- once; and nothing of a life of which no sending life has the name.
abbrev pub HearsInLives : (x : ℕ) (f g : SideFacts) (near far : List JournalItem) → List Content → List Heard → Type 0
HearsInLives x f g near far posts heard = (key : Key) →
    ArePiecesOf (map unnumbered (of_key x key heard)) (map (λ (l : NumberedLife). held_for l.name key (record (sending_side f g near) { posted = posted_to g posts })) (lives_of g far))

abbrev pub items_by : RecordNow → List JournalItem
items_by r = items_of (speaks_of r) r.journal

-- so it is of both nodes of a link, of what the other's lines post
pub record AreHeardInLives (lines : List DraftLine) (s : RunNow (List Logged)) (l : Link) : Type 0 where
  pub records : AreRecordsOver s l
  pub to_b : HearsInLives l.a records.a.core.facts records.b.core.facts (items_by records.a) (items_by records.b) (posts_to l.a l.b lines) (at l.b (all_heard heard_by s))
  pub to_a : HearsInLives l.b records.b.core.facts records.a.core.facts (items_by records.b) (items_by records.a) (posts_to l.b l.a lines) (at l.a (all_heard heard_by s))

-- ---- of any run

-- Over each link that is up: of each key what either node heard from the other is a prefix of what the other's lines post to it, in
-- order, each once, and neither heard a reset by the other. With the posts that are left these are all posts over such links, and where
-- none is left they are all. Over a lossy link it is some of the posts, in order, each once. Over a lossless one, marked down or not, it is
-- posts life after life. All that a node heard is of nodes that links join with it. A record is marked down only where a line does so, or it gave up. And both records of each link, with the halves
-- beside them, say so.
pub record IsPromised (nodes : List Node) (links : List Link) (lines : List DraftLine) (beside : Beside) (s : RunNow (List Logged)) : Type 0 where
  pub prefixes : OverEach (is_up s) links (HearsPrefix (map fast_of nodes) lines (all_heard heard_by s))
  pub whole : left_in heard_by links s ≡ 0 → OverEach (is_up s) links (HearsWhole (map fast_of nodes) lines (all_heard heard_by s))
  pub no_reset : OverEach (is_up s) links (HearsNoReset (all_heard heard_by s))
  pub counted : AreCounted (is_up s) links lines (all_heard heard_by s) (left_in heard_by links s)
  pub some : OverEach is_lossy links (HearsSome (map fast_of nodes) lines (all_heard heard_by s))
  pub lives : AllByRecursion (λ (l : Link). is_lossless l ≡ true → AreHeardInLives lines s l) links
  pub joined : AreOfJoined (length nodes) links (all_heard heard_by s)
  pub marked : AllByRecursion (λ (l : Link). IsMarkedOnlySo lines s l.a l.b × IsMarkedOnlySo lines s l.b l.a) links
  pub accounts : AllByRecursion (IsAccountedOver beside s) links

-- ---- of a script's run

-- the halves that no record of either node took
abbrev pub of_both : Beside
of_both n m = all_left (holding_of n.center).halves ++ all_left (holding_of m.center).halves

-- All that is promised of any run; a node's calls came in turns that were noted; and as each step was taken, a record is marked down
-- exactly where a line does so, or it gave up.
pub record KeepsPromise (nodes : List Node) (links : List Link) (lines : List Line) (s : RunNow (List Logged)) : Type 0 where
  pub promised : IsPromised nodes links (map draft_line lines) of_both s
  pub noted : AllNoted heard_by s
  pub marked : AllByRecursion (λ (l : Link). IsMarkedSo (map draft_line lines) s l.a l.b × IsMarkedSo (map draft_line lines) s l.b l.a) links
