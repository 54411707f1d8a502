-- What came of a run, from what came of its parts.
use Rattle.std.proofs.Common.{◌≡◌, ◌⊎◌, inl, inr, ℕ, ◌+◌, false, List, [], ◌∷◌, length, map, sym, ap, subst, ◌∙◌}
use Rattle.std.specs.Prelude.{slice_get, Option, Some, Err}
use Rattle.std.specs.List.{AllByRecursion}
use Rattle.std.proofs.lemmas.List.{length-map}
use Rattle.std.proofs.lemmas.Option.{slice_get_within}
use Rattle.m2_bytes.proofs.m2_lemmas.Lists.{all_at, all_by_places, get_map}
use Rattle.m2_bytes.specs.Items.{Holding}
use Rattle.m2_node.specs.m2_script.m2_center.Center.{CenterNow}
use Rattle.m2_node.specs.m2_script.m2_center.Finishing.{rest_of}
use Rattle.m2_dispatch.specs.declared.logged.Logged.{Logged}
use Rattle.m2_edge.specs.Faults.{next_count}
use Rattle.m2_fabric.specs.Fabric.{SeenFabric}
use Rattle.m2_fabric.specs.declared.port.Cut.{Cut}
use Rattle.m2_handover.specs.Handed.{OnItsWay}
use Rattle.m2_handover.specs.m2_mailbox.declared.inbox.Inbox.{Inbox}
use Rattle.m2_node.specs.m2_links_go_on.Course.{IsOnCourse}
use Rattle.m2_node.specs.m2_links_go_on.CourseEnded.{HasRunItsCourse}
use Rattle.m2_node.specs.m2_links_go_on.Left.{IsSeen}
use Rattle.m2_node.specs.m2_links_go_on.Made.{NodeMade}
use Rattle.m2_node.specs.m2_links_go_on.m2_history.Link.{IsWholeHalf}
use Rattle.m2_node.specs.m2_links_go_on.m2_history.declared.history.WeaveFault.{WeaveFault}
use Rattle.m2_node.specs.m2_links_go_on.m2_history.declared.history.WeaveFault.TheVariants as weaving
use Rattle.m2_scenario.specs.Report.{AreLogsOf}
use Rattle.m2_scenario.specs.declared.line.Line.{Line}
use Rattle.m2_scenario.specs.declared.link.Link.{Link}
use Rattle.m2_scenario.specs.declared.node.Node.{Node}
use Rattle.m2_node.specs.m2_script.Nodes.{cuts_of}
use Rattle.m2_trail.specs.Arrivals.{LooseNow}
use Rattle.m2_trail.specs.declared.home.HomeOf.{HomeOf}
use Rattle.m2_run.specs.Cuts.{AreCutsOf, cuts_at}
use Rattle.m2_run.specs.Gathering.{ArePortsTold}
use Rattle.m2_run.specs.Kept.{AllGathered, AreOpened, IsGathered, IsKeptNode, IsKeptRun, IsUntouched, MadeIsHeld, left_of}
use Rattle.m2_node.specs.Lists.{SideBySide}
use Rattle.m2_node.specs.Nodes.{KeptNow, RunNodeNow, nodes_of}
use Rattle.m2_run.specs.Opened.{AllAreThere, AllClosed, AreOpenedNodes, HasRoomsFor, HaveEachOnce, IsClosed, IsOpenedNode, OpenedNow, all_kept, ended_of, loose_in, made_of_all}
use Rattle.m2_run.specs.Ran.{AreLeftBy, EndsInFault, HasFinished, HasRan, HasStalled, HaveEnded, IsFaultOf, ShowsEnd, ShowsFault, fault_told}
use Rattle.m2_run.specs.Rests.{AreEndsOf, EndedCenterNow, EndedNow, IsEndOfCenter, Shown, loose_of, shown_of}
use Rattle.m2_run.specs.Settling.{HasPlayed, HasStopped}
use Rattle.m2_run.specs.Still.{AllRest, IsAtRest}
use Rattle.m2_run.specs.Types.{IsCenterOfTypes, IsOfTypes}
use Rattle.m2_node.specs.Way.{AllGoOn, AreNodesOf, AreOut, GoesOn, IsCenterOf, IsNodeOf, IsOff, NodeGoesOn, made_in}
use Rattle.m2_run.specs.Weaving.{WeavesAll}
use Rattle.m2_run.specs.declared.outcome.Outcome.{Outcome}
use Rattle.m2_run.specs.declared.outcome.RunFault.{RunFault}
use Rattle.m2_run.specs.declared.outcome.RunFault.TheVariants as fault
use Rattle.m2_node.proofs.Beside.{side_get, side_length}
use Rattle.m2_run.proofs.Finished.{kept_as_ran, kept_ends, kept_held, kept_loose, kept_opened, kept_rest, kept_types}
use Rattle.m2_run.proofs.KeptOnce.{kept_once}
use Rattle.m2_node.proofs.Places.{get_too}
use Rattle.m2_run.proofs.Told.{logs_of_nodes, node_within}
use Rattle.m2_run.proofs.Weighing.{made_is_held}
use Rattle.m2_node.proofs.Workers.{one_at, one_length}

-- ---- nodes go on to where they stopped

module _ (may_give : ℕ → Type 0) (start stop : ℕ) (nodes : List Node) (links : List Link) (lines : List Line) where
  center_at_stop : (k j word : ℕ) (x : Node) (c d : CenterNow (List Logged)) → IsCenterOf may_give start nodes links lines k j word x c → GoesOn may_give start stop x.started c d →
      IsCenterOf may_give stop nodes links lines k j word x d
  center_at_stop k j word x c d is goes = record {
    way = goes.way (made_in nodes links lines k j word x) is.way;
    off = λ off. subst IsOff (sym (goes.off off)) (is.off off);
  }

  node_at_stop : (k : ℕ) (x : Node) (n m : RunNodeNow) → IsNodeOf may_give start nodes links lines k x n → NodeGoesOn may_give start stop x.started n m → IsNodeOf may_give stop nodes links lines k x m
  node_at_stop k x n m is goes =
      let count = one_length (GoesOn may_give start stop x.started) n.centers m.centers goes.each in
      record {
        word = is.word;
        count = count ∙ is.count;
        each = λ j d here.
            let c = get_too m.centers n.centers j d (sym count) here in
            center_at_stop k j is.word x c.item d (is.each j c.item c.there) (one_at (GoesOn may_give start stop x.started) n.centers m.centers goes.each j c.item d c.there here);
      }

  pub nodes_at_stop : (begun ran : List RunNodeNow) → AreNodesOf may_give start nodes links lines begun → AllGoOn may_give start stop nodes begun ran → AreNodesOf may_give stop nodes links lines ran
  nodes_at_stop begun ran are goes = record {
    count = goes.count ∙ are.count;
    each = λ k x m there here.
        let n = get_too ran begun k m (sym goes.count) here in
        node_at_stop k x n.item m (are.each k x n.item there n.there) (goes.each k x n.item m there n.there here);
  }

-- nodes that have played have stopped
pub has_stopped : (may_give : ℕ → Type 0) (limit : ℕ) (nodes : List Node) (links : List Link) (lines : List Line) (cuts : List (Holding Cut)) (start stop : ℕ) (begun ran : List RunNodeNow)
    (left : ℕ) (all : List OpenedNow) → may_give start → AreNodesOf may_give start nodes links lines begun → HasPlayed may_give limit nodes links start stop begun ran left →
    AllByRecursion (λ (n : RunNodeNow). AllByRecursion IsCenterOfTypes n.centers) ran → AreOpenedNodes (cuts_at cuts) ran all →
    HasStopped may_give limit nodes links lines cuts start stop ran left all
has_stopped may_give limit nodes links lines cuts start stop begun ran left all given are played types opened = record {
  start_given = given;
  stop_given = played.given;
  later = played.later;
  are_nodes = nodes_at_stop may_give start stop nodes links lines begun ran are played.goes_on;
  types = types;
  left_is = played.left_is;
  over = played.over;
  opened = opened;
}

-- ---- their inboxes are closed

closed_node : (cuts : List Cut) (n : RunNodeNow) (o p : OpenedNow) → IsOpenedNode cuts n o → IsClosed o p → IsOpenedNode cuts n p
closed_node cuts n o p is closed = record {
  ends = subst (λ (cs : List EndedCenterNow). SideBySide IsEndOfCenter n.centers cs) (sym closed.centers) is.ends;
  opened = subst (AreOpened cuts n.centers) (sym closed.opened) is.opened;
}

all_there : (all closed : List OpenedNow) → AllClosed all closed → AllByRecursion AllAreThere closed
all_there [] [] are = tt
all_there [] (p ∷ closed) are = absurd are
all_there (o ∷ all) [] are = absurd are
all_there (o ∷ all) (p ∷ closed) are = (are.0.there, all_there all closed are.1)

-- the centers of a node hold all that their ports made
node_holds : (may_give : ℕ → Type 0) (stop : ℕ) (nodes : List Node) (links : List Link) (lines : List Line) →
    ((node : NodeMade) (c : CenterNow (List Logged)) → IsOnCourse may_give stop node c → HasRunItsCourse may_give stop node (rest_of c)) → (k : ℕ) (x : Node) (n : RunNodeNow) →
    IsNodeOf may_give stop nodes links lines k x n → AllByRecursion MadeIsHeld n.centers
node_holds may_give stop nodes links lines law k x n is = all_by_places MadeIsHeld n.centers (λ j c here.
    let made = made_in nodes links lines k j is.word x in
    made_is_held may_give stop made c (law made c (is.each j c here).way.course))

pub are_left : (may_give : ℕ → Type 0) (limit : ℕ) (nodes : List Node) (links : List Link) (lines : List Line) (cuts : List (Holding Cut)) (start stop : ℕ) (ran : List RunNodeNow) (left : ℕ)
    (all closed : List OpenedNow) → HasStopped may_give limit nodes links lines cuts start stop ran left all →
    ((node : NodeMade) (c : CenterNow (List Logged)) → IsOnCourse may_give stop node c → HasRunItsCourse may_give stop node (rest_of c)) → AllClosed all closed → AreLeftBy cuts ran closed
are_left may_give limit nodes links lines cuts start stop ran left all closed s law are =
    let count = side_length IsClosed all closed are in
    record {
      opened = record {
        count = count ∙ s.opened.count;
        each = λ k n p here there.
            let o = get_too closed all k p (sym count) there in
            closed_node (cuts_at cuts k) n o.item p (s.opened.each k n o.item here o.there) (side_get IsClosed all closed are k o.item p o.there there);
      };
      types = s.types;
      held = all_by_places (λ (n : RunNodeNow). AllByRecursion MadeIsHeld n.centers) ran (λ k n here.
          let x = get_too ran nodes k n (sym s.are_nodes.count) here in
          node_holds may_give stop nodes links lines law k x.item n (s.are_nodes.each k x.item n x.there here));
      there = all_there all closed are;
    }

-- inboxes that are named are those that are given
pub rooms_named : (named given : ℕ → Option (Inbox OnItsWay HomeOf)) → ((i : ℕ) → named i ≡ given i) → (first : ℕ) (all : List OpenedNow) → HasRoomsFor named first all → HasRoomsFor given first all
rooms_named named given same first [] has = tt
rooms_named named given same first (o ∷ all) has = (
  record {
    gets = λ j g b there is. has.0.gets j g b there (same (first + j) ∙ is);
    puts = λ j p b there is. has.0.puts j p b there (same (first + j) ∙ is);
    whole = has.0.whole;
  },
  has.1,
  rooms_named named given same (first + length o.gets) all has.2,
)

-- ---- they are kept

-- Of nodes that were left so, whose ends and halves these are, the fabric tells what it does.
pub have_ended : (cuts : List (Holding Cut)) (nodes : List Node) (ran : List RunNodeNow) (all : List OpenedNow) (ends : List EndedNow) (loose : List LooseNow) (old new : SeenFabric) →
    length all ≡ length nodes → AreLeftBy cuts ran all → ends ≡ map ended_of all → loose ≡ loose_in all → AllByRecursion IsWholeHalf loose → AllByRecursion IsSeen loose →
    HaveEachOnce nodes all → ((kept : List KeptNow) → AreEndsOf kept ends → loose ≡ loose_of kept → AllGathered cuts nodes kept old new) → ArePortsTold nodes ends new →
    HaveEnded cuts nodes ran (all_kept ran all) ends old new
have_ended cuts nodes ran all ends loose old new count by ends_are loose_is whole seen once gathers told = record {
  as_ran = kept_as_ran ran all by.opened.count;
  types = kept_types ran all by.opened.count by.types (subst (AllByRecursion IsWholeHalf) loose_is whole) (subst (AllByRecursion IsSeen) loose_is seen);
  opened = kept_opened cuts ran all by.opened;
  once = kept_once (cuts_at cuts) nodes ran all by.opened once;
  are_ends = are_ends;
  gathered = gathered;
  all_held = kept_held cuts nodes ran all old new count by (subst (λ (es : List EndedNow). ArePortsTold nodes es new) ends_are told) gathered;
}
  where
    are_ends : AreEndsOf (all_kept ran all) ends
    are_ends = subst (AreEndsOf (all_kept ran all)) (sym ends_are) (kept_ends (cuts_at cuts) ran all by.opened)

    gathered : AllGathered cuts nodes (all_kept ran all) old new
    gathered = gathers (all_kept ran all) are_ends (loose_is ∙ kept_loose ran all by.opened.count)

-- they rest where what is left of them does
pub kept_rest_or : (cuts : ℕ → List Cut) (ran : List RunNodeNow) (all : List OpenedNow) (left : ℕ) → AreOpenedNodes cuts ran all →
    (left ≡ 0) ⊎ AllByRecursion (λ (o : OpenedNow). (o.left.on_way ≡ []) × AllByRecursion (IsAtRest (made_of_all all)) o.left.at_door) all → (left ≡ 0) ⊎ AllRest (all_kept ran all)
kept_rest_or cuts ran all left opened (inl none) = inl none
kept_rest_or cuts ran all left opened (inr rest) = inr (kept_rest cuts ran all opened rest)

-- ---- what the fabric tells since the call began

gathered_since : (cuts : List Cut) (k : ℕ) (n : KeptNow) (nodes : List Node) (old mid new : SeenFabric) → AreOut nodes old mid → IsGathered cuts k n mid new → IsGathered cuts k n old new
gathered_since cuts k n nodes old mid new out g = record {
  what = g.what;
  told = g.told;
  now = g.now ∙ ap next_count (out.gathers k);
  ports = g.ports;
  ends_are = g.ends_are;
}

untouched_since : (k : ℕ) (x : Node) (nodes : List Node) (old mid new : SeenFabric) → AreOut nodes old mid → slice_get nodes k ≡ Some x → x.started ≡ false → IsUntouched k mid new →
    IsUntouched k old new
untouched_since k x nodes old mid new out there off u = record {
  listens = u.listens ∙ out.off k x there off;
  gathered = u.gathered ∙ out.gathered k;
  gathers = u.gathers ∙ out.gathers k;
}

-- ---- a run

module _ (may_give : ℕ → Type 0) (limit : ℕ) (nodes : List Node) (links : List Link) (lines : List Line) (cuts : List (Holding Cut)) (start stop : ℕ) (ran : List RunNodeNow) (left : ℕ)
    (all : List OpenedNow) (old mid new : SeenFabric) (stopped : HasStopped may_give limit nodes links lines cuts start stop ran left all) (are_cuts : AreCutsOf nodes lines cuts)
    (out : AreOut nodes old mid) (no_fault : new.faults ≡ old.faults) where
  -- the node at a place as it ran
  ran_at : (kept : List KeptNow) → nodes_of kept ≡ ran → (k : ℕ) (n : KeptNow) → slice_get kept k ≡ Some n → slice_get ran k ≡ Some n.node
  ran_at kept same k n here = subst (λ (ns : List RunNodeNow). slice_get ns k ≡ Some n.node) same (get_map (λ (m : KeptNow). m.node) kept k n here)

  kept_node : (kept : List KeptNow) (ends : List EndedNow) → HaveEnded cuts nodes ran kept ends mid new → (k : ℕ) (x : Node) (n : KeptNow) → slice_get nodes k ≡ Some x → slice_get kept k ≡ Some n →
      IsKeptNode may_give stop nodes links lines old new k x n
  kept_node kept ends e k x n there here =
      let its = are_cuts.each k (slice_get_within nodes k x there) in
      record {
        types = all_at IsOfTypes kept k n here e.types;
        node = stopped.are_nodes.each k x n.node there (ran_at kept e.as_ran k n here);
        opened = subst (λ (cs : List Cut). AreOpened cs n.node.centers n.opened) its (e.opened k n here);
        once = e.once k x n there here;
        gathered = λ on. gathered_since (cuts_of nodes lines k) k n nodes old mid new out (subst (λ (cs : List Cut). IsGathered cs k n mid new) its (e.gathered.on k x n there here on));
        all_held = e.all_held k x there;
        untouched = λ off. untouched_since k x nodes old mid new out there off (e.gathered.off k x there off);
      }

  kept_count : (kept : List KeptNow) → nodes_of kept ≡ ran → length kept ≡ length nodes
  kept_count kept same = sym (length-map kept (λ (n : KeptNow). n.node)) ∙ ap length same ∙ stopped.are_nodes.count

  kept_run : (kept : List KeptNow) (ends : List EndedNow) → HaveEnded cuts nodes ran kept ends mid new → IsKeptRun may_give nodes links lines kept start stop old new
  kept_run kept ends e = record {
    count = kept_count kept e.as_ran;
    each = kept_node kept ends e;
    start_given = stopped.start_given;
    stop_given = stopped.stop_given;
    later = stopped.later;
  }

  -- of whom the calls are that are told
  told : (o : Outcome) (f : HasFinished left cuts nodes links ran mid new o) → AreLogsOf nodes o.logs.items
  told o f =
      let same = f.ended.as_ran in
      logs_of_nodes nodes (nodes_of f.kept) o.logs.items f.logs (ap length same ∙ stopped.are_nodes.count) (λ k n here.
      let its : slice_get ran k ≡ Some n = subst (λ (ns : List RunNodeNow). slice_get ns k ≡ Some n) same here in
      let x = get_too ran nodes k n (sym stopped.are_nodes.count) its in
      node_within may_give stop nodes links lines k x.item n (stopped.are_nodes.each k x.item n x.there its))

  -- nothing is left, or all has stalled and rests
  over : (o : Outcome) (kept : List KeptNow) → o.left ≡ left → nodes_of kept ≡ ran → (left ≡ 0) ⊎ AllRest kept → (left ≡ 0) ⊎ HasStalled limit nodes ran start stop →
      (o.left ≡ 0) ⊎ (HasStalled limit nodes (nodes_of kept) start stop × AllRest kept)
  over o kept is same (inl none) either = inl (is ∙ none)
  over o kept is same (inr rest) (inl none) = inl (is ∙ none)
  over o kept is same (inr rest) (inr stalled) = inr (subst (λ (ns : List RunNodeNow). HasStalled limit nodes ns start stop) (sym same) stalled, rest)

  pub has_ran : (o : Outcome) → HasFinished left cuts nodes links ran mid new o → HasRan may_give limit nodes links lines old new o
  has_ran o f = record {
    kept = f.kept;
    start = start;
    stop = stop;
    run = kept_run f.kept f.ends f.ended;
    faults = no_fault;
    ends = f.ends;
    are_ends = f.ended.are_ends;
    logs = f.logs;
    told = told o f;
    left = f.left_is ∙ stopped.left_is ∙ ap (left_of links) (sym f.ended.as_ran);
    woven = f.woven;
    over = over o f.kept f.left_is f.ended.as_ran f.rest stopped.over;
  }

  pub shows_run : (saw : Shown → Type 0) (o : Outcome) → (f : HasFinished left cuts nodes links ran mid new o) × saw (shown_of f.kept f.ends) →
      (r : HasRan may_give limit nodes links lines old new o) × saw (shown_of r.kept r.ends)
  unfolding has_ran
  shows_run saw o shows = (has_ran o shows.0, shows.1)

  pub has_faulted : (f : RunFault) → EndsInFault cuts nodes links ran mid new f → IsFaultOf may_give nodes links lines old new f
  has_faulted fault.NoMemory ended = no_fault
  has_faulted (fault.Bind node) ended = absurd ended
  has_faulted (fault.Unfit u) ended = record {
    kept = ended.kept;
    start = start;
    stop = stop;
    run = kept_run ended.kept ended.ends ended.ended;
    faults = no_fault;
    ends = ended.ends;
    are_ends = ended.ended.are_ends;
    stops = ended.stops;
  }

  pub shows_fault : (saw : Shown → Type 0) (stays : Type 0) (f : RunFault) → ShowsEnd saw stays cuts nodes links ran mid new f →
      ShowsFault saw stays may_give nodes links lines old new f
  unfolding has_faulted
  shows_fault saw stays fault.NoMemory shows = shows
  shows_fault saw stays (fault.Bind node) shows = absurd shows
  shows_fault saw stays (fault.Unfit u) shows = (has_faulted (fault.Unfit u) shows.0, shows.1)

-- ---- an end at a link without a history

module _ (saw : Shown → Type 0) (stays : Type 0) (cuts : List (Holding Cut)) (nodes : List Node) (links : List Link) (ran : List RunNodeNow) where
  pub faulted : (kept : List KeptNow) (ends : List EndedNow) (old new : SeenFabric) (f : WeaveFault) →
      HaveEnded cuts nodes ran kept ends old new → WeavesAll (Err f) ends (loose_of kept) links → saw (shown_of kept ends) → ShowsEnd saw stays cuts nodes links ran old new (fault_told f)
  faulted kept ends old new weaving.NoMemory ended weaves shown = inr (shown_of kept ends, shown)
  faulted kept ends old new (weaving.Unfit u) ended weaves shown = (record { kept = kept; ends = ends; ended = ended; stops = weaves }, shown)

  -- of what is shown it is an end
  pub ends_so : (old new : SeenFabric) (f : RunFault) → ShowsEnd saw stays cuts nodes links ran old new f → EndsInFault cuts nodes links ran old new f
  ends_so old new fault.NoMemory shows = tt
  ends_so old new (fault.Bind node) shows = shows
  ends_so old new (fault.Unfit u) shows = shows.0
