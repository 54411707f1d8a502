-- The headline. For every scenario, cut, crossing of connects and schedule of turns or of threads, a lossless session that neither end marks down is
-- never reset; in it, of each priority and dispatch path, what a node dispatches from its peer is a prefix of what that peer posted, in
-- order, each message once; what a sender counts acknowledged was accepted; and Done means that every post of such a session was
-- dispatched. Where an end marks such a session down, it comes life after life, of each life a prefix of what the peer's life of that name
-- holds. In a lossy session, what a node dispatches is some of what its peer posted, in order, each once. It is said of the bytes
-- that were given, of those that were printed, and of a run of the scenario that leads from the one to the other. Where some posts are
-- left, the dispatched ones and the count are together the posts. Where a write failed, what was printed is a prefix of such a report.
use Rattle.std.specs.Prelude.{◌≡◌, ◌⊎◌, ◌+◌, ℕ, true, false, List, length, map, sum_by, count_by, Ok}
use Rattle.std.specs.List.{AllByRecursion}
use Rattle.m2_scenario.specs.m2_dispatch.declared.logged.Logged.{Logged}
use Rattle.m2_scenario.specs.m2_dispatch.Heard.{heard_by}
use Rattle.m2_edge.specs.Sink.{TakesBytes, TakesPrefix}
use Rattle.m2_scenario.specs.OrderLaws.{AreAll}
use Rattle.m2_scenario.specs.Order.{AreCounted, AreOfJoined, HearsNoReset, HearsPrefix, HearsWhole, OverEach, fast_of}
use Rattle.m2_cli.specs.Run.{AreHeardInLives, Beside, HearsSome, IsAccountedOver, IsMarkedSo, is_lossy, of_both}
use Rattle.m2_scenario.specs.Report.{report_of}
use Rattle.m2_scenario.specs.declared.link.Link.{Link}
use Rattle.m2_scenario.specs.Draft.{Draft, is_post}
use Rattle.m2_exact.specs.m2_script.Outcome.{all_heard, is_lossless, is_up, left_in}
use Rattle.m2_exact.specs.m2_script.Script.{RunNow}
use Rattle.m2_cli.specs.declared.status.Status.{Status}
use Rattle.m2_cli.specs.declared.status.Status.TheVariants.{Done, Usage, BadScenario, ReadFault, WriteFault, BindFault, Unfit, Stalled, Left, NoMemory, BadFrames}
use Rattle.m2_cli.specs.Edge.{Edge}
use Rattle.m2_cli.specs.Verdict.{IsRunOf, scenario_in}

-- ---- a run

-- either end of a link is marked down exactly where a line of the scenario does so, or where its record gave the session up, since a
-- number that it needed next was above the greatest
abbrev pub EndsAreMarkedSo : Draft → RunNow (List Logged) → Link → Type 0
EndsAreMarkedSo d last l = IsMarkedSo d.lines last l.a l.b × IsMarkedSo d.lines last l.b l.a

-- Where the nodes of the scenario were left. A link is up there where it is lossless and neither end was marked down.
-- prefixes, no_reset: of each node and each other over a link that is up, of each key, what it heard from the other is a prefix of what
-- the other's lines post to it, in order, each once; and it heard no reset by the other.
-- accounts: both journals of each link have an order of all that was done on it, with these halves beside it. Of a link that is up nothing
-- was reset in it, and what an entry counts as acknowledged had been accepted by then. Of a lossless link, marked down or not, nothing was
-- reset without a mark-down before it; what is heard of each key comes life after life of the side that hears, of each life the first ones
-- of what the other side's life of that name holds; and what counts as acknowledged was accepted in the life of that name.
-- lives: over a lossless link, marked down or not, what a node heard from the other is of each key posts of the other's lines, life after life
-- of its own record: of each life the first ones of those from the start to the end of the one life of that name of the other's record.
-- some: over a lossy link what is heard is some of the posts, in order, each once.
-- counted, together: the messages that were heard over links that are up and the count are together the posts over them; where all
-- links are up, all calls of dispatchers and the count are all posts.
-- joined: no node heard anything of a node with which no link joins it.
pub record AreSessionsKept (d : Draft) (beside : Beside) (last : RunNow (List Logged)) (count : ℕ) : Type 0 where
  pub left : left_in heard_by d.links last ≡ count
  pub prefixes : OverEach (is_up last) d.links (HearsPrefix (map fast_of d.nodes) d.lines (all_heard heard_by last))
  pub no_reset : OverEach (is_up last) d.links (HearsNoReset (all_heard heard_by last))
  pub accounts : AllByRecursion (IsAccountedOver beside last) d.links
  pub lives : AllByRecursion (λ (l : Link). is_lossless l ≡ true → AreHeardInLives d.lines last l) d.links
  pub some : OverEach is_lossy d.links (HearsSome (map fast_of d.nodes) d.lines (all_heard heard_by last))
  pub counted : AreCounted (is_up last) d.links d.lines (all_heard heard_by last) count
  pub together : AreAll (is_up last) d.links → sum_by length (all_heard heard_by last) + count ≡ count_by is_post d.lines
  pub joined : AreOfJoined (length d.nodes) d.links (all_heard heard_by last)

-- a run of the scenario's lines leads there; and which ends were marked down is told by the lines, but for records that gave up
pub record KeepsSessions (d : Draft) (last : RunNow (List Logged)) (count : ℕ) : Type 0 where
  pub run : IsRunOf d last
  pub kept : AreSessionsKept d of_both last count
  pub marked : AllByRecursion (EndsAreMarkedSo d last) d.links

-- of each node and each other over a link that is up: it heard all that the other posts to it, in order, each once
abbrev pub HeardAll : Draft → RunNow (List Logged) → Type 0
HeardAll d last = OverEach (is_up last) d.links (HearsWhole (map fast_of d.nodes) d.lines (all_heard heard_by last))

-- ---- what is given and what is printed

-- the text is the report of a run of the scenario that the bytes make, and so many posts are left
pub record KeepsPrefixes (given text : List ℕ) (count : ℕ) : Type 0 where
  pub scenario : Draft
  pub read : scenario_in given ≡ Ok scenario
  pub last : RunNow (List Logged)
  pub sessions : KeepsSessions scenario last count
  pub report : text ≡ report_of false scenario.nodes (all_heard heard_by last)

-- no post is left, and all were dispatched
pub record KeepsAll (given text : List ℕ) : Type 0 where
  pub prefixes : KeepsPrefixes given text 0
  pub all : HeardAll prefixes.scenario prefixes.last

-- ---- by what is answered

-- what is promised of a text that bytes come to: with so many posts left, and where none is left
pub record Promises : Type 1 where
  pub prefixes : (given text : List ℕ) → ℕ → Type 0
  pub all : (given text : List ℕ) → Type 0

-- Done: all that the file posts is printed, of links that are up. Left and Stalled: all but so many. WriteFault: a prefix of such a
-- report, or nothing. The others are not about order: with them nothing is printed.
abbrev pub KeepsOrderBy : Promises → Status → Edge → Edge → Type 0
KeepsOrderBy p Done before after = (text : List ℕ) × p.all after.source.given text × TakesBytes text before.out after.out
KeepsOrderBy p (Left count) before after = (text : List ℕ) × p.prefixes after.source.given text count × TakesBytes text before.out after.out
KeepsOrderBy p (Stalled count) before after = (text : List ℕ) × p.prefixes after.source.given text count × TakesBytes text before.out after.out
KeepsOrderBy p WriteFault before after =
    (after.out.taken ≡ before.out.taken)
    ⊎ ((text : List ℕ) × (count : ℕ) × p.prefixes after.source.given text count × TakesPrefix text before.out after.out)
KeepsOrderBy p Usage before after = Unit {0}
KeepsOrderBy p (BadScenario line kind) before after = Unit {0}
KeepsOrderBy p ReadFault before after = Unit {0}
KeepsOrderBy p NoMemory before after = Unit {0}
KeepsOrderBy p (BadFrames place fault) before after = Unit {0}
KeepsOrderBy p (BindFault node) before after = Unit {0}
KeepsOrderBy p (Unfit socket opener place why) before after = Unit {0}

-- of `sim`
abbrev pub KeepsOrder : Status → Edge → Edge → Type 0
KeepsOrder answered before after = KeepsOrderBy (record { prefixes = KeepsPrefixes; all = KeepsAll }) answered before after
