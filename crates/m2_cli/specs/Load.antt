-- What `load N SEED` comes to: a status and three lines, by a run of the generated scenario.
use Rattle.std.specs.Prelude.{◌≡◌, ◌⊎◌, ℕ, ◌+◌, false, List, [], ◌∷◌, ◌++◌, codes, length, sum_by}
use Rattle.std.specs.Fmt.{decimal}
use Rattle.std.specs.List.{AllByRecursion}
use Rattle.m2_scenario.specs.m2_dispatch.declared.logged.Logged.{Logged}
use Rattle.m2_scenario.specs.m2_dispatch.Heard.{heard_by}
use Rattle.m2_edge.specs.Sink.{TakesBytes, TakesPrefix}
use Rattle.m2_scenario.specs.Generated.{generated}
use Rattle.m2_cli.specs.Run.{gave_up_at}
use Rattle.m2_scenario.specs.declared.link.Link.{Link}
use Rattle.m2_exact.specs.m2_script.Outcome.{all_heard, left_in}
use Rattle.m2_exact.specs.m2_script.Script.{RunNow}
use Rattle.m2_cli.specs.declared.load.LoadCounts.{LoadCounts}
use Rattle.m2_cli.specs.declared.status.Status.{Status}
use Rattle.m2_cli.specs.declared.status.Status.TheVariants.{Done, Usage, BadScenario, ReadFault, WriteFault, BindFault, Unfit, Stalled, Left, NoMemory, BadFrames}
use Rattle.m2_cli.specs.Edge.{Edge, OutFailed}
use Rattle.m2_cli.specs.Order.{HeardAll, KeepsSessions}
use Rattle.m2_cli.specs.Print.{Delivers}
use Rattle.m2_cli.specs.Verdict.{IsRunOf, status_by_count}

-- how many messages were posted, dispatched and left
abbrev pub load_lines : ℕ → ℕ → ℕ → List ℕ
load_lines posted dispatched left =
    codes "posted " ++ decimal posted ++ 10 ∷ codes "dispatched " ++ decimal dispatched ++ 10 ∷ codes "left " ++ decimal left ++ 10 ∷ []

-- how many calls the dispatchers of all nodes together had
abbrev pub dispatched_in : RunNow (List Logged) → ℕ
dispatched_in last = sum_by length (all_heard heard_by last)

-- how many posts of the generated scenario are left
abbrev pub load_left : (posts seed : ℕ) → RunNow (List Logged) → ℕ
load_left posts seed last = left_in heard_by (generated posts seed).links last

-- The status goes by how many posts are left where a run of the generated scenario leads, and the three lines tell how many were posted,
-- dispatched and left.
pub record LoadComesTo (posts seed : ℕ) (status : Status) (text : List ℕ) : Type 0 where
  pub last : RunNow (List Logged)
  pub run : IsRunOf (generated posts seed) last
  pub counted : status ≡ status_by_count (load_left posts seed last)
  pub lines : text ≡ load_lines posts (dispatched_in last) (load_left posts seed last)
  -- and so does every run of it
  pub only : (other : RunNow (List Logged)) → IsRunOf (generated posts seed) other →
      (status ≡ status_by_count (load_left posts seed other)) × (text ≡ load_lines posts (dispatched_in other) (load_left posts seed other))

-- the two numbers that a run of the generated scenario leads to
pub record IsCounted (posts seed : ℕ) (c : LoadCounts) : Type 0 where
  pub last : RunNow (List Logged)
  pub run : IsRunOf (generated posts seed) last
  pub dispatched : c.dispatched ≡ dispatched_in last
  pub left : c.left ≡ load_left posts seed last

-- ---- what is left

-- nothing was read, the load comes to this status and three lines, and standard output took exactly these, flushed
pub record IsLoadRun (posts seed : ℕ) (work : Status) (before after : Edge) : Type 0 where
  pub unread : after.source ≡ before.source
  pub text : List ℕ
  pub comes : LoadComesTo posts seed work text
  pub printed : Delivers text before.out after.out

-- nothing was read, the load comes to a status and three lines, standard output failed, and took a prefix of these
pub record IsLoadInPart (posts seed : ℕ) (before after : Edge) : Type 0 where
  pub unread : after.source ≡ before.source
  pub failed : OutFailed before after
  pub status : Status
  pub text : List ℕ
  pub comes : LoadComesTo posts seed status text
  pub printed : TakesPrefix text before.out after.out

-- nothing was read or printed
pub record IsUntouched (before after : Edge) : Type 0 where
  pub unread : after.source ≡ before.source
  pub unprinted : after.out ≡ before.out

-- What `load N SEED` leaves, by what its work came to.
-- Done and Left: the load comes to exactly that, and its three lines were printed whole. WriteFault: standard output
-- failed, and has a prefix of them. NoMemory: nothing was printed. It never comes to the other statuses.
abbrev pub RunsLoad : ℕ → ℕ → Status → Edge → Edge → Type 0
RunsLoad posts seed Done before after = IsLoadRun posts seed Done before after
RunsLoad posts seed (Left count) before after = IsLoadRun posts seed (Left count) before after
RunsLoad posts seed WriteFault before after = IsLoadInPart posts seed before after
RunsLoad posts seed NoMemory before after = IsUntouched before after
RunsLoad posts seed Usage before after = ⊥
RunsLoad posts seed (BadScenario line kind) before after = ⊥
RunsLoad posts seed ReadFault before after = ⊥
RunsLoad posts seed (BadFrames place fault) before after = ⊥
RunsLoad posts seed (BindFault node) before after = ⊥
RunsLoad posts seed (Unfit socket opener place why) before after = ⊥
RunsLoad posts seed (Stalled left) before after = ⊥

-- ---- the headline

-- no record gave its session up, since a number that it needed next was above the greatest
abbrev pub NoneGaveUp : List Link → RunNow (List Logged) → Type 0
NoneGaveUp links last = AllByRecursion (λ (l : Link). (gave_up_at last l.a l.b ≡ false) × (gave_up_at last l.b l.a ≡ false)) links

-- A run of the generated scenario keeps the sessions, and so many posts are left. The text is three lines, that so many messages were
-- posted, so many calls of dispatchers made, and so many posts are left. The second and the third are together the first, where no
-- record gave its session up.
pub record CountsPrefixes (posts seed : ℕ) (last : RunNow (List Logged)) (count : ℕ) (text : List ℕ) : Type 0 where
  pub sessions : KeepsSessions (generated posts seed) last count
  pub lines : text ≡ load_lines posts (dispatched_in last) count
  pub together : NoneGaveUp (generated posts seed).links last → dispatched_in last + count ≡ posts

-- the same, where all that is posted is dispatched
pub record CountsAll (posts seed : ℕ) (last : RunNow (List Logged)) (text : List ℕ) : Type 0 where
  pub counts : CountsPrefixes posts seed last 0 text
  pub all : HeardAll (generated posts seed) last

-- By what is answered. Done: all that is posted was dispatched, of links that are up. Left: all but so many. WriteFault: a prefix of
-- such lines was printed, or nothing.
abbrev pub KeepsLoad : ℕ → ℕ → Status → Edge → Edge → Type 0
KeepsLoad posts seed Done before after =
    (text : List ℕ) × (last : RunNow (List Logged)) × CountsAll posts seed last text × TakesBytes text before.out after.out
KeepsLoad posts seed (Left count) before after =
    (text : List ℕ) × (last : RunNow (List Logged)) × CountsPrefixes posts seed last count text × TakesBytes text before.out after.out
KeepsLoad posts seed WriteFault before after =
    (after.out.taken ≡ before.out.taken)
    ⊎ ((text : List ℕ) × (last : RunNow (List Logged)) × (count : ℕ) × CountsPrefixes posts seed last count text × TakesPrefix text before.out after.out)
KeepsLoad posts seed Usage before after = Unit {0}
KeepsLoad posts seed (BadScenario line kind) before after = Unit {0}
KeepsLoad posts seed ReadFault before after = Unit {0}
KeepsLoad posts seed NoMemory before after = Unit {0}
KeepsLoad posts seed (BadFrames place fault) before after = Unit {0}
KeepsLoad posts seed (BindFault node) before after = Unit {0}
KeepsLoad posts seed (Unfit socket opener place why) before after = Unit {0}
KeepsLoad posts seed (Stalled left) before after = Unit {0}
