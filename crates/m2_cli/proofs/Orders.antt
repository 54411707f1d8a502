-- What `sim` and `run` print keeps the order of the posts, since a run keeps its promise.
use Rattle.std.proofs.Common.{◌≡◌, ◌∙◌, ℕ, zero, suc, ◌+◌, Bool, true, false, cond, if◌then◌else◌, List, [], ◌∷◌, ◌++◌, length, take, Option, Some, Result, Ok, Err, refl, sym, ap, subst, map, append-nil, arith, inl, inr}
use Rattle.std.specs.Prelude.{◌==◌, slice_get}
use Rattle.std.specs.List.{AllByRecursion, range_with_len}
use Rattle.std.proofs.lemmas.Bool.{eqb-true}
use Rattle.m2_scenario.specs.m2_dispatch.declared.logged.Logged.{Logged}
use Rattle.m2_scenario.specs.m2_dispatch.Heard.{Heard, heard_by}
use Rattle.m2_edge.specs.Sink.{SeenSink, TakesBytes, TakesPrefix}
use Rattle.m2_scenario.specs.OrderLaws.{CallsAndLeftArePosts}
use Rattle.m2_scenario.specs.Order.{AreCounted}
use Rattle.m2_cli.specs.Run.{Beside, IsMarkedSo, of_both}
use Rattle.m2_scenario.specs.Report.{heard_in, report_of}
use Rattle.m2_scenario.specs.declared.link.Link.{Link}
use Rattle.m2_scenario.specs.declared.line.Line.{Line}
use Rattle.m2_scenario.specs.declared.node.Node.{Node}
use Rattle.m2_scenario.specs.Draft.{Draft, DraftLine, draft_line}
use Rattle.m2_scenario.specs.Text.{Word}
use Rattle.m2_scenario.specs.Valid.{IsSound}
use Rattle.m2_exact.specs.m2_script.Outcome.{all_heard, heard_of_node, is_up, left_in}
use Rattle.m2_exact.specs.m2_script.Script.{RunNow}
use Rattle.m2_exact.specs.m2_script.m2_cluster.Node.{NodeNow}
use Rattle.m2_fabric.specs.Fabric.{SeenFabric}
use Rattle.m2_promise.specs.Posted.{IsPromised}
use Rattle.m2_promise.specs.PostLaws.{EndsArePromised}
use Rattle.m2_run.specs.Joined.{PostsOfTypes}
use Rattle.m2_run.specs.m2_node.Nodes.{KeptNow, RunNodeNow, as_one, nodes_of}
use Rattle.m2_run.specs.m2_node.Handing.{AreHeardAtEnd, heard_in_order}
use Rattle.m2_run.specs.Rests.{loose_of}
use Rattle.m2_run.specs.m2_node.Way.{IsNodeOf}
use Rattle.m2_run.proofs.m2_node.Places.{get_of_map, get_too}
use Rattle.m2_cli.proofs.ThreadEnds.{RunsJoined, are_at_end}
use Rattle.m2_cli.proofs.ThreadLogs.{Alike, all_alike, node_alike, report_alike}
use Rattle.m2_cli.specs.Threads.{IsThreadRun, IsThreadsPrintout, ThreadsReadTo, limit_of, names_in, status_by_left, threads_in}
use Rattle.m2_cli.specs.declared.printout.Printout.{Printout}
use Rattle.m2_cli.specs.declared.status.Status.{Status}
use Rattle.m2_cli.specs.declared.status.Status.TheVariants.{Done, Usage, BadScenario, ReadFault, WriteFault, BindFault, Unfit, Stalled, Left, NoMemory, BadFrames}
use Rattle.m2_cli.specs.Edge.{Edge}
use Rattle.m2_cli.specs.Order.{AreSessionsKept, HeardAll, KeepsAll, KeepsOrder, KeepsOrderBy, KeepsPrefixes, KeepsSessions, Promises}
use Rattle.m2_cli.specs.ThreadsOrder.{KeepsAllThreads, KeepsThreads, KeepsThreadsOrder, left_there}
use Rattle.m2_cli.specs.Print.{PrintsReport, SaysStatus, unsaid}
use Rattle.m2_cli.specs.Printout.{IsPrintoutOf}
use Rattle.m2_cli.specs.Verdict.{BadAt, IsRunOf, ReadingComesTo, scenario_in}
use Rattle.m2_program.proofs.Endings.{prefix_whole}

-- ---- sessions

module _ (law : CallsAndLeftArePosts) (d : Draft) (beside : Beside) (last : RunNow (List Logged)) (sound : IsSound d.nodes d.links d.lines) (promise : IsPromised d.nodes d.links d.lines beside last) where
  -- what is promised of nodes where a run has left them, where so many posts are left
  pub sessions_kept : (count : ℕ) → left_in heard_by d.links last ≡ count → AreSessionsKept d beside last count
  sessions_kept count left =
      let heard = all_heard heard_by last in
      let counted : AreCounted (is_up last) d.links d.lines heard count = subst (λ n. AreCounted (is_up last) d.links d.lines heard n) left promise.counted in
      record {
        left = left;
        prefixes = promise.prefixes;
        no_reset = promise.no_reset;
        accounts = promise.accounts;
        lives = promise.lives;
        some = promise.some;
        counted = counted;
        together = λ all.
            law (is_up last) d.nodes d.links d.lines heard count (record { sound = sound; all = all; joined = promise.joined; no_reset = promise.no_reset; counted = counted });
        joined = promise.joined;
      }

-- ---- a run of a script

promise_of : (d : Draft) (last : RunNow (List Logged)) (run : IsRunOf d last) → IsPromised d.nodes d.links d.lines of_both last
promise_of d last run = subst (λ lines. IsPromised d.nodes d.links lines of_both last) run.made run.promise.promised

-- a run keeps the sessions, where so many posts are left
pub keeps_sessions : CallsAndLeftArePosts → (d : Draft) (last : RunNow (List Logged)) (count : ℕ) → IsRunOf d last → left_in heard_by d.links last ≡ count
    → KeepsSessions d last count
keeps_sessions law d last count run left =
    let Marked : List DraftLine → Type 0 = λ lines. AllByRecursion (λ (l : Link). IsMarkedSo lines last l.a l.b × IsMarkedSo lines last l.b l.a) d.links in
    record {
      run = run;
      kept = sessions_kept law d of_both last run.sound (promise_of d last run) count left;
      marked = subst Marked run.made run.promise.marked;
    }

-- and all was heard, where none is left
pub heard_all : (d : Draft) (last : RunNow (List Logged)) → IsRunOf d last → left_in heard_by d.links last ≡ 0 → HeardAll d last
heard_all d last run none = (promise_of d last run).whole none

-- ---- what `sim` prints

-- the text is the report of this run
pub record IsReported (d : Draft) (last : RunNow (List Logged)) (given text : List ℕ) : Type 0 where
  pub read : scenario_in given ≡ Ok d
  pub run : IsRunOf d last
  pub report : text ≡ report_of false d.nodes (all_heard heard_by last)

abbrev keeps_prefixes : CallsAndLeftArePosts → (d : Draft) (last : RunNow (List Logged)) (given text : List ℕ) (count : ℕ) → IsReported d last given text
    → left_in heard_by d.links last ≡ count → KeepsPrefixes given text count
keeps_prefixes law d last given text count h left =
    record { scenario = d; read = h.read; last = last; sessions = keeps_sessions law d last count h.run left; report = h.report }

keeps_all : CallsAndLeftArePosts → (d : Draft) (last : RunNow (List Logged)) (given text : List ℕ) → IsReported d last given text
    → left_in heard_by d.links last ≡ 0 → KeepsAll given text
keeps_all law d last given text h none = record { prefixes = keeps_prefixes law d last given text 0 h none; all = heard_all d last h.run none }

-- what was read keeps the order, where its report was written whole
read_order : CallsAndLeftArePosts → (read : Result Draft BadAt) (work : Status) (text : List ℕ) (before after : Edge) → scenario_in after.source.given ≡ read
    → ReadingComesTo read work text → TakesBytes text before.out after.out → KeepsOrder work before after
read_order law (Ok d) work text before after e c h =
    let P : Status → Type 0 = λ x. KeepsOrder x before after in subst P (sym c.counted) (by_count (n == 0) refl)
  where
    n : ℕ
    n = left_in heard_by d.links c.last

    reported : IsReported d c.last after.source.given text
    reported = record { read = e; run = c.run; report = c.report }

    by_count : (b : Bool) → (n == 0) ≡ b → KeepsOrder (cond b Done (Left n)) before after
    by_count true none = (text, keeps_all law d c.last after.source.given text reported (eqb-true n 0 none), h)
    by_count false some = (text, keeps_prefixes law d c.last after.source.given text n reported refl, h)
read_order law (Err bad) work text before after e c h = let P : Status → Type 0 = λ x. KeepsOrder x before after in subst P (sym c.line) tt

take_nothing : (n : ℕ) → take {A = ℕ} n [] ≡ []
take_nothing zero = refl
take_nothing (suc n) = refl

-- of nothing no more than nothing is taken
nothing_taken : (old new : SeenSink) → TakesPrefix [] old new → new.taken ≡ old.taken
nothing_taken old new h = h.1 ∙ ap (λ l. old.taken ++ l) (take_nothing h.0) ∙ append-nil old.taken

-- what was read keeps the order, where a prefix of its report was written
read_prefix : CallsAndLeftArePosts → (read : Result Draft BadAt) (work : Status) (text : List ℕ) (before after : Edge) → scenario_in after.source.given ≡ read
    → ReadingComesTo read work text → TakesPrefix text before.out after.out → KeepsOrder WriteFault before after
read_prefix law (Ok d) work text before after e c h =
    let n = left_in heard_by d.links c.last in
    inr (text, n, keeps_prefixes law d c.last after.source.given text n (record { read = e; run = c.run; report = c.report }) refl, h)
read_prefix law (Err bad) work text before after e c h =
    let P : List ℕ → Type 0 = λ t. TakesPrefix t before.out after.out in inl (nothing_taken before.out after.out (subst P c.empty h))

-- ---- what is answered

module _ (p : Promises) (names : List Word) where
  -- what is answered where standard error refused a line is a write fault, or want of memory
  refused : (work : Status) (before after : Edge) → KeepsOrderBy p WriteFault before after → KeepsOrderBy p (unsaid work) before after
  refused Done before after h = h
  refused Usage before after h = h
  refused (BadScenario line kind) before after h = h
  refused ReadFault before after h = h
  refused WriteFault before after h = h
  refused (Left count) before after h = h
  refused NoMemory before after h = tt
  refused (BadFrames place fault) before after h = h
  refused (BindFault node) before after h = h
  refused (Unfit socket opener place why) before after h = h
  refused (Stalled left) before after h = h

  -- what is answered, where what the work came to keeps the order, and so does a write fault
  order_said : (work answered : Status) (before after : Edge) → KeepsOrderBy p work before after → KeepsOrderBy p WriteFault before after
      → SaysStatus names work answered before.err after.err → KeepsOrderBy p answered before after
  order_said work answered before after h fault (inl s) = let P : Status → Type 0 = λ x. KeepsOrderBy p x before after in subst P (sym s.answer) h
  order_said work answered before after h fault (inr s) = let P : Status → Type 0 = λ x. KeepsOrderBy p x before after in subst P (sym s.answer) (refused work before after fault)

  -- a printout that was printed, whose text keeps the order whole and in part
  printed_so : (out : Printout) (answered : Status) (before after : Edge) → (TakesBytes out.report.bytes before.out after.out → KeepsOrderBy p out.status before after)
      → (TakesPrefix out.report.bytes before.out after.out → KeepsOrderBy p WriteFault before after)
      → (work : Status) × PrintsReport out work before.out after.out × SaysStatus names work answered before.err after.err → KeepsOrderBy p answered before after
  printed_so out answered before after whole part (work, inl (same, d), said) =
      let P : Status → Type 0 = λ x. KeepsOrderBy p x before after in
      order_said work answered before after (subst P (sym same) (whole d.taken)) (part (prefix_whole out.report.bytes before.out after.out d.taken)) said
  printed_so out answered before after whole part (work, inr (same, failed, some), said) =
      let P : Status → Type 0 = λ x. KeepsOrderBy p x before after in order_said work answered before after (subst P (sym same) (part some)) (part some) said

  -- nothing was written
  pub order_nothing : (work answered : Status) (before after : Edge) → after.out.taken ≡ before.out.taken → KeepsOrderBy p work before after
      → SaysStatus names work answered before.err after.err → KeepsOrderBy p answered before after
  order_nothing work answered before after same h said = order_said work answered before after h (inl same) said

-- what `sim` printed
pub order_printed : CallsAndLeftArePosts → (p : Printout) (file : List ℕ) (answered : Status) (before after : Edge) → IsPrintoutOf p file before.source after.source
    → (work : Status) × PrintsReport p work before.out after.out × SaysStatus [] work answered before.err after.err → KeepsOrder answered before after
order_printed law p file answered before after o said =
    let read = scenario_in after.source.given in
    printed_so (record { prefixes = KeepsPrefixes; all = KeepsAll }) [] p answered before after (read_order law read p.status p.report.bytes before after refl o.printout.comes)
    (read_prefix law read p.status p.report.bytes before after refl o.printout.comes) said

-- ---- what `run` prints

-- what holds of each node by its place, in order
by_place : {X Y : Type 0} (f : Option X → Y) (g : X → Y) (first : ℕ) (all rest : List X) → ((x : X) → f (Some x) ≡ g x) → ((k : ℕ) → slice_get all (first + k) ≡ slice_get rest k) →
    map (λ k. f (slice_get all k)) (range_with_len first (length rest)) ≡ map g rest
by_place f g first all [] so e = refl
by_place f g first all (x ∷ rest) so e =
    ap (λ y. y ∷ map (λ k. f (slice_get all k)) (range_with_len (first + 1) (length rest))) (ap f (ap (slice_get all) (let h : first ≡ first + 0 = omega arith in h) ∙ e 0) ∙ so x)
    ∙ ap (λ l. g x ∷ l) (by_place f g (first + 1) all rest so (λ k. ap (slice_get all) (let h : first + 1 + k ≡ first + suc k = omega arith in h) ∙ e (suc k)))

-- what the dispatchers of a node of one center were called with
abbrev heard_of_one : NodeNow (List Logged) → List Heard
heard_of_one n = heard_by n.center.out.fast ++ heard_by n.center.queued.inner

-- what those of nodes that a run on threads has left were
heard_there : (kept : List KeptNow) → all_heard heard_by (left_there kept) ≡ map heard_in_order (nodes_of kept)
heard_there kept =
    let nodes = map as_one (nodes_of kept) in
    by_place (heard_of_node heard_by 0 []) heard_of_one 0 nodes nodes (λ n. refl) (λ k. ap (slice_get nodes) (let h : 0 + k ≡ k = omega arith in h)) ∙ each_as_one (nodes_of kept)
  where
    each_as_one : (ns : List RunNodeNow) → map heard_of_one (map as_one ns) ≡ map heard_in_order ns
    each_as_one [] = refl
    each_as_one (n ∷ ns) = ap (λ l. heard_in_order n ∷ l) (each_as_one ns)

-- the laws on which it stands
pub record ThreadLaws (may_give : ℕ → Type 0) : Type 0 where
  pub together : CallsAndLeftArePosts
  pub ends : EndsArePromised
  pub joined : (nodes : List Node) (links : List Link) (lines : List Line) → IsSound nodes links (map draft_line lines) → AllByRecursion PostsOfTypes lines → RunsJoined may_give nodes links lines

module _ (may_give : ℕ → Type 0) (old new : SeenFabric) (laws : ThreadLaws may_give) where
  abbrev threads : Promises
  threads = record { prefixes = KeepsThreads may_give old new; all = KeepsAllThreads may_give old new }

  module _ (d : Draft) (status : Status) (given text : List ℕ) (read : threads_in given ≡ Ok d) (run : IsThreadRun may_give old new d status text) where
    abbrev kept : List KeptNow
    kept = run.ran.kept

    promised : IsPromised d.nodes d.links d.lines (λ _ _. loose_of kept) (left_there kept)
    promised =
        let sound : IsSound d.nodes d.links (map draft_line run.lines) = subst (IsSound d.nodes d.links) (sym run.made) run.sound in
        subst (λ lines. IsPromised d.nodes d.links lines (λ _ _. loose_of kept) (left_there kept)) run.made
        (laws.ends d.nodes d.links (map draft_line run.lines) (λ _ _. loose_of kept) (left_there kept) sound
        (are_at_end may_give (limit_of d) d.nodes d.links run.lines old new run.outcome run.ran sound (laws.joined d.nodes d.links run.lines sound run.posts)))

    abbrev left : ℕ
    left = run.outcome.left

    left_is : left_in heard_by d.links (left_there kept) ≡ left
    left_is = sym run.ran.left

    -- each node is one of the scenario
    node_there : (k : ℕ) (n : RunNodeNow) → slice_get (nodes_of kept) k ≡ Some n → (heard : List Heard) → AreHeardAtEnd n heard → Alike heard (heard_in_order n)
    node_there k n here =
        let m = get_of_map (λ (z : KeptNow). z.node) kept k n here in
        let x = get_too kept d.nodes k m.item (sym run.ran.run.count) m.there in
        node_alike may_give run.ran.stop d.nodes d.links run.lines k x.item n
        (subst (λ (z : RunNodeNow). IsNodeOf may_give run.ran.stop d.nodes d.links run.lines k x.item z) m.same (run.ran.run.each k x.item m.item x.there m.there).node)

    keeps : (count : ℕ) → left_in heard_by d.links (left_there kept) ≡ count → KeepsThreads may_give old new given text count
    keeps count is = record {
      scenario = d;
      read = read;
      lines = run.lines;
      made = run.made;
      outcome = run.outcome;
      ran = run.ran;
      kept = sessions_kept laws.together d (λ _ _. loose_of kept) (left_there kept) run.sound promised count is;
      marked = promised.marked;
      report = run.report ∙ report_alike d.nodes (map heard_in run.outcome.logs.items) (map heard_in_order (nodes_of kept)) (all_alike (nodes_of kept) (map heard_in run.outcome.logs.items) node_there run.ran.logs)
          ∙ ap (report_of true d.nodes) (sym (heard_there kept));
    }

    keeps_so : (before after : Edge) → after.source.given ≡ given → TakesBytes text before.out after.out → KeepsOrderBy threads (status_by_left left) before after
    unfolding keeps
    keeps_so before after same h = by (left == 0) refl
      where
        by : (b : Bool) → (left == 0) ≡ b → KeepsOrderBy threads (if b then Done else Stalled left) before after
        by true none =
            let zero_left = left_is ∙ eqb-true left 0 none in
            (text, subst (λ g. KeepsAllThreads may_give old new g text) (sym same) (record { prefixes = keeps 0 zero_left; all = promised.whole zero_left }), h)
        by false some = (text, subst (λ g. KeepsThreads may_give old new g text left) (sym same) (keeps left left_is), h)

  -- what was read keeps the order, where its report was written whole
  threads_order : (read : Result Draft BadAt) (work : Status) (text : List ℕ) (before after : Edge) → threads_in after.source.given ≡ read → ThreadsReadTo may_give old new read work text →
      TakesBytes text before.out after.out → KeepsOrderBy threads work before after
  threads_order (Ok d) work text before after e (inl run) h =
      subst (λ x. KeepsOrderBy threads x before after) (sym run.counted) (keeps_so d work after.source.given text e run before after refl h)
  threads_order (Ok d) work text before after e (inr (inl unheard)) h = subst (λ x. KeepsOrderBy threads x before after) (sym unheard.told) tt
  threads_order (Ok d) work text before after e (inr (inr unwoven)) h = subst (λ x. KeepsOrderBy threads x before after) (sym unwoven.told) tt
  threads_order (Err bad) work text before after e c h = subst (λ x. KeepsOrderBy threads x before after) (sym c.0.line) tt

  -- where a prefix of it was
  threads_prefix : (read : Result Draft BadAt) (work : Status) (text : List ℕ) (before after : Edge) → threads_in after.source.given ≡ read → ThreadsReadTo may_give old new read work text →
      TakesPrefix text before.out after.out → KeepsOrderBy threads WriteFault before after
  threads_prefix (Ok d) work text before after e (inl run) h =
      inr (text, run.outcome.left, keeps d work after.source.given text e run run.outcome.left (left_is d work after.source.given text e run), h)
  threads_prefix (Ok d) work text before after e (inr (inl unheard)) h = inl (nothing_taken before.out after.out (subst (λ t. TakesPrefix t before.out after.out) unheard.empty h))
  threads_prefix (Ok d) work text before after e (inr (inr unwoven)) h = inl (nothing_taken before.out after.out (subst (λ t. TakesPrefix t before.out after.out) unwoven.empty h))
  threads_prefix (Err bad) work text before after e c h = inl (nothing_taken before.out after.out (subst (λ t. TakesPrefix t before.out after.out) c.0.empty h))

  -- what it printed
  pub threads_order_printed : (p : Printout) (file : List ℕ) (answered : Status) (before after : Edge) → IsThreadsPrintout p may_give old new file before.source after.source
      → (work : Status) × PrintsReport p work before.out after.out × SaysStatus (names_in after.source.given) work answered before.err after.err → KeepsThreadsOrder may_give old new answered before after
  threads_order_printed p file answered before after o said =
      let read = threads_in after.source.given in
      printed_so threads (names_in after.source.given) p answered before after (threads_order read p.status p.report.bytes before after refl o.printout.comes)
      (threads_prefix read p.status p.report.bytes before after refl o.printout.comes) said
