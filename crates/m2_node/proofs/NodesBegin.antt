-- Nodes of a valid scenario of which no thread has done anything are what they are made, on their way.
use Rattle.std.proofs.Common.{◌≡◌, ◌==◌, ◌&&◌, ◌⊎◌, inl, inr, ◌+◌, ◌<◌, ◌≤◌, ◌∙◌, ℕ, zero, suc, Bool, true, false, List, [], ◌∷◌, drop, length, get_or, map, take, Option, Some, None, refl, sym, ap, subst, arith}
use Rattle.std.specs.Prelude.{AllPairs, filter, if◌then◌else◌, slice_get}
use Rattle.std.specs.List.{AllByRecursion, IsDistinct, cons_option, filter_map}
use Rattle.std.proofs.lemmas.Bool.{and_parts, cases_lt, eqb-true}
use Rattle.std.proofs.lemmas.List.{length-map}
use Rattle.std.proofs.lemmas.List.Elements.{recursion_from_All}
use Rattle.std.proofs.lemmas.Option.{get_or_from_slice_get, none-some, same_Some, slice_get-get_or, slice_get_within}
use Rattle.m2_addr.specs.declared.addr.Addr.{Addr}
use Rattle.m2_bytes.specs.Items.{Holding}
use Rattle.m2_bytes.proofs.m2_lemmas.Lists.{all_filter, map_same}
use Rattle.m2_script.specs.m2_center.Center.{CenterNow}
use Rattle.m2_script.specs.m2_center.Making.{new_center}
use Rattle.m2_links_go_on.specs.Course.{IsOnCourse}
use Rattle.m2_links_go_on.specs.CourseLaws.{CentersBeginOnCourse}
use Rattle.m2_links_go_on.specs.Made.{IsBegun, NodeMade, SideMade, node_made, side_made}
use Rattle.m2_dispatch.specs.Heard.{heard_by}
use Rattle.m2_dispatch.specs.declared.logged.Logged.{Logged}
use Rattle.m2_fabric.specs.End.{SeenEnd}
use Rattle.m2_fabric.specs.Port.{SeenPort}
use Rattle.m2_fabric.specs.Sockets.{goes_to}
use Rattle.m2_fabric.specs.declared.socket.SocketId.{SocketId}
use Rattle.m2_fabric.proofs.m2_lemmas.Lists.{all_map, all_so_of}
use Rattle.m2_links_go_on.specs.m2_growth.Holding.{LeadsElsewhere, all_ends}
use Rattle.m2_journal.specs.declared.entry.Entry.{Entry}
use Rattle.m2_journal.specs.declared.facts.PlanStep.{PlanStep}
use Rattle.m2_journal.specs.declared.facts.PlanStep.TheVariants as step
use Rattle.m2_links_go_on.specs.Left.{AllCameOfPeer, CameOfPeer}
use Rattle.m2_links_go_on.specs.LeftLaws.{HaveCome}
use Rattle.m2_links_go_on.specs.LogLaws.{BeginLogged, holding_in, logging_in}
use Rattle.m2_links_go_on.specs.Logged.{AreOfTheirPeers, IsLogged}
use Rattle.m2_links_go_on.specs.OfPeers.{AreOfPeers}
use Rattle.m2_links_go_on.specs.PeerLaws.{BeginOfPeers}
use Rattle.m2_script.specs.m2_record.RecordNow.{RecordNow}
use Rattle.m2_script.specs.m2_record.TakenTrails.{judgements_in}
use Rattle.m2_scenario.specs.Draft.{DraftLine, draft_line}
use Rattle.m2_scenario.specs.Valid.{AreApart, IsLine, IsLink, IsSound}
use Rattle.m2_scenario.specs.declared.line.Line.{Line}
use Rattle.m2_scenario.specs.declared.line.Line.TheVariants as line
use Rattle.m2_scenario.specs.declared.link.Link.{Link}
use Rattle.m2_scenario.specs.declared.node.Node.{Node}
use Rattle.m2_script.specs.Laws.{NewRecordsCanBegin, ShortPostsAreSendable, bare}
use Rattle.m2_script.specs.Made.{records_of}
use Rattle.m2_script.proofs.Over.{IsOver, JoinsSo, all_over, all_through, apart_over, distinct_of, joins_so, map_through, places_differ}
use Rattle.m2_node.specs.Begins.{AreBeginning, AreBeginningAt, AreSendable, IsBeginning, items_of, steps_at}
use Rattle.m2_node.specs.Homes.{at_home, is_at_home}
use Rattle.m2_node.specs.Nodes.{RunNodeNow}
use Rattle.m2_node.specs.Planned.{AreStepsOf, IsSendableStep, plan_in, plan_of, side_by, side_in, steps_in, towards_in, waiting}
use Rattle.m2_node.specs.Ports.{off_port}
use Rattle.m2_node.specs.Sharing.{ShareNow}
use Rattle.m2_node.specs.Way.{AreNodesOf, IsCenterOf, IsNodeOf, IsOff, IsUnderWay, made_in}
use Rattle.m2_node.specs.Working.{AreGrouped, WorkerNow, center_of, node_of, nodes_of_workers}
use Rattle.m2_node.specs.declared.planning.StepTowards.{StepTowards}
use Rattle.m2_node.proofs.Filters.{distinct_filter, filter_mapped}
use Rattle.m2_node.proofs.HomesBegin.{kept_can_begin}
use Rattle.m2_node.proofs.Places.{get_of_map}
use Rattle.m2_node.proofs.Goings.{as_many_nodes}

-- ---- steps

-- what a line has a node do, and of that what is towards one peer, is what the line plans for that record
same_first : (k j a b : ℕ) (s : PlanStep) (xs : List StepTowards) (ys : List PlanStep) → filter_map (towards_in j) xs ≡ ys →
    filter_map (towards_in j) (cons_option (if a == k then Some (record { peer = b; step = s }) else None) xs) ≡ cons_option (if (a == k) && (b == j) then Some s else None) ys
same_first k j a b s xs ys h = go (a == k) (b == j) refl
  where
    go : (x y : Bool) → (b == j) ≡ y →
        filter_map (towards_in j) (cons_option (if x then Some (record { peer = b; step = s }) else None) xs) ≡ cons_option (if x && y then Some s else None) ys
    go true true e = rw e (ap (λ zs. s ∷ zs) h)
    go true false e = rw e h
    go false y e = h

pub same_plan : (k j : ℕ) (lines : List Line) → plan_of (steps_in lines k) j ≡ plan_in lines k j
same_plan k j [] = refl
same_plan k j (line.Post a b m ∷ ls) = same_first k j a b (step.Post m) (steps_in ls k) (plan_in ls k j) (same_plan k j ls)
same_plan k j (line.Dial a b ∷ ls) = same_first k j a b step.Dial (steps_in ls k) (plan_in ls k j) (same_plan k j ls)
same_plan k j (line.Down a b ∷ ls) = same_first k j a b step.Down (steps_in ls k) (plan_in ls k j) (same_plan k j ls)
same_plan k j (line.Cut a b n ∷ ls) = same_plan k j ls
same_plan k j (line.Turn a ∷ ls) = same_plan k j ls
same_plan k j (line.Flow a b s n ∷ ls) = same_plan k j ls
same_plan k j (line.Fault a b s ∷ ls) = same_plan k j ls
same_plan k j (line.Settle n ∷ ls) = same_plan k j ls

-- each can be planned
one_sendable : (k a b : ℕ) (s : PlanStep) (xs : List StepTowards) → IsSendableStep (record { peer = b; step = s }) → AllByRecursion IsSendableStep xs →
    AllByRecursion IsSendableStep (cons_option (if a == k then Some (record { peer = b; step = s }) else None) xs)
one_sendable k a b s xs can all = go (a == k)
  where
    go : (x : Bool) → AllByRecursion IsSendableStep (cons_option (if x then Some (record { peer = b; step = s }) else None) xs)
    go true = (can, all)
    go false = all

module _ (sendable : ShortPostsAreSendable) (n : ℕ) (links : List Link) (k : ℕ) where
  all_sendable : (ls : List Line) → AllByRecursion (IsLine n links) (map draft_line ls) → AllByRecursion IsSendableStep (steps_in ls k)
  all_sendable [] all = tt
  all_sendable (line.Post a b m ∷ ls) all = one_sendable k a b (step.Post m) (steps_in ls k) (sendable m all.0.1) (all_sendable ls all.1)
  all_sendable (line.Dial a b ∷ ls) all = one_sendable k a b step.Dial (steps_in ls k) tt (all_sendable ls all.1)
  all_sendable (line.Down a b ∷ ls) all = one_sendable k a b step.Down (steps_in ls k) tt (all_sendable ls all.1)
  all_sendable (line.Cut a b m ∷ ls) all = all_sendable ls all.1
  all_sendable (line.Turn a ∷ ls) all = all_sendable ls all.1
  all_sendable (line.Flow a b s m ∷ ls) all = all_sendable ls all.1
  all_sendable (line.Fault a b s ∷ ls) all = all_sendable ls all.1
  all_sendable (line.Settle m ∷ ls) all = all_sendable ls all.1

pub steps_sendable : (sendable : ShortPostsAreSendable) (nodes : List Node) (links : List Link) (lines : List Line) (count : ℕ) (all : List (Holding StepTowards)) → IsSound nodes links (map draft_line lines) → AreStepsOf count lines all → AreSendable all
steps_sendable sendable nodes links lines count all sound are k s e =
    subst (AllByRecursion IsSendableStep) (sym (are.each k s e))
    (all_sendable sendable (length nodes) links k lines (recursion_from_All (IsLine (length nodes) links) (map draft_line lines) sound.in_place))

-- ---- nodes stand apart

apart_at : (nodes : List Node) → AllPairs AreApart nodes → (i j : ℕ) (x y : Node) → slice_get nodes i ≡ Some x → slice_get nodes j ≡ Some y → (i ≡ j → ⊥) →
    (x.at.ip ≡ y.at.ip) × (x.at.port ≡ y.at.port) → ⊥
apart_at nodes pairs i j x y e f different same = go (cases_lt i j)
  where
    is_x : get_or nodes i x ≡ x
    is_x = get_or_from_slice_get nodes i x x e

    is_y : get_or nodes j x ≡ y
    is_y = get_or_from_slice_get nodes j y x f

    go : (i < j) ⊎ (j ≤ i) → ⊥
    go (inl before) =
        let apart : AreApart (get_or nodes i x) (get_or nodes j x) = pairs i j x before (slice_get_within nodes j y f) in
        (subst (λ (z : Node). AreApart z y) is_x (subst (λ (z : Node). AreApart (get_or nodes i x) z) is_y apart)).sockets same
    go (inr past) =
        let before : j < i = omega (arith, past, different) in
        let apart : AreApart (get_or nodes j x) (get_or nodes i x) = pairs j i x before (slice_get_within nodes i x e) in
        (subst (λ (z : Node). AreApart z x) is_y (subst (λ (z : Node). AreApart (get_or nodes j x) z) is_x apart)).sockets (sym same.0, sym same.1)

-- a socket goes to one ip and port
goes_both : (a b : Addr) (s : SocketId) → goes_to a s ≡ true → goes_to b s ≡ true → (b.ip ≡ a.ip) × (b.port ≡ a.port)
goes_both a b s e f =
    let p = and_parts (s.to_ip == a.ip) (s.to_port == a.port) e in
    let q = and_parts (s.to_ip == b.ip) (s.to_port == b.port) f in
    (sym (eqb-true s.to_ip b.ip q.0) ∙ eqb-true s.to_ip a.ip p.0, sym (eqb-true s.to_port b.port q.1) ∙ eqb-true s.to_port a.port p.1)

module _ (nodes : List Node) (links : List Link) (lines : List DraftLine) (sound : IsSound nodes links lines) (k word : ℕ) where
  -- no two of its new records are of one peer
  pub new_peers : AreOfTheirPeers (records_of nodes links k word)
  new_peers =
      let place : RecordNow → ℕ = λ (r : RecordNow). r.place in
      distinct_of place (λ (a b : ℕ). a == b) (records_of nodes links k word)
      (apart_over nodes k word (λ (r s : RecordNow). r.place == s.place) (places_differ nodes k word) links sound.joined_once)

  -- a link joins a node with another
  joins_other : (l : Link) (j : ℕ) → IsLink (length nodes) l → JoinsSo k j l → k ≡ j → ⊥
  joins_other l j is (inl e) same = is.different (e.0 ∙ same ∙ sym e.1)
  joins_other l j is (inr e) same = is.different (e.0 ∙ sym same ∙ sym e.1)

  module _ (test : RecordNow → Bool) (rs : List RecordNow) (over : map bare rs ≡ map bare (filter test (records_of nodes links k word))) where
    -- what the bare ones of new records over links show
    all_so : (P : RecordNow → Type 0) → ((l : Link) (r : RecordNow) → IsLink (length nodes) l → IsOver nodes k word l r → P (bare r)) → ((r : RecordNow) → P (bare r) → P r) → AllByRecursion P rs
    all_so P new so =
        let kept = filter test (records_of nodes links k word) in
        let all : AllByRecursion (λ (r : RecordNow). P (bare r)) kept =
        all_filter (λ (r : RecordNow). P (bare r)) test (records_of nodes links k word)
        (all_over nodes k word (IsLink (length nodes)) (λ (r : RecordNow). P (bare r)) new links (recursion_from_All (IsLink (length nodes)) links sound.joined)) in
        all_through bare P P so rs (subst (AllByRecursion P) (sym over) (all_map P bare kept all))

    pub peers_of : AreOfTheirPeers rs
    peers_of =
        let place : RecordNow → ℕ = λ (r : RecordNow). r.place in
        subst (IsDistinct (λ (a b : ℕ). a == b))
        (sym (map_through bare place (λ r. refl) (filter test (records_of nodes links k word))) ∙ sym (ap (map place) over) ∙ map_through bare place (λ r. refl) rs)
        (distinct_filter (λ (a b : ℕ). a == b) place test (records_of nodes links k word) new_peers)

    module _ (x : Node) (there : slice_get nodes k ≡ Some x) (port : SeenPort) (at : port.at ≡ x.at) where
      leads : (l : Link) (r : RecordNow) → IsLink (length nodes) l → IsOver nodes k word l r → LeadsElsewhere port (bare r)
      leads l r is v s goes = by (goes_to port.at s) refl
        where
          by : (b : Bool) → goes_to port.at s ≡ b → b ≡ false
          by false here = refl
          by true here =
              let peer : r.core.facts.peer ≡ v.peer.at = ap (λ (y : RecordNow). y.core.facts.peer) v.is in
              let to_x : goes_to x.at s ≡ true = subst (λ (a : Addr). goes_to a s ≡ true) at here in
              let to_y : goes_to v.peer.at s ≡ true = subst (λ (a : Addr). goes_to a s ≡ true) peer goes in
              absurd (apart_at nodes sound.apart k r.place x v.peer there v.peer_there (joins_other l r.place is (joins_so k r.place l v.joined)) (goes_both v.peer.at x.at s to_y to_x))

      pub elsewhere : AllByRecursion (LeadsElsewhere port) rs
      elsewhere = all_so (LeadsElsewhere port) leads (λ r led. led)

-- ---- a center that has done nothing

came_of_none : (ends : List SeenEnd) (r : RecordNow) → IsBegun r → AllCameOfPeer ends r
came_of_none ends r is = subst (λ (j : List Entry). AllByRecursion (CameOfPeer ends r) (judgements_in j)) (sym (ap (λ (y : RecordNow). y.journal) is)) tt

-- a side and a node as they are made, by their parts
abbrev side_with : RecordNow → List PlanStep → SideMade
side_with r p = record { place = r.place; facts = waiting r.core.facts; plan = p }

abbrev node_with : (entity : ℕ) → Addr → List SideMade → NodeMade
node_with entity at sides = record { entity = entity; at = at; sides = sides }

module _ (C : Type 0) (may_give_of : C → ℕ → Type 0) (clock : C) (on_course : CentersBeginOnCourse (List Logged) C may_give_of) (begin_logged : BeginLogged (List Logged)) (begin_of_peers : BeginOfPeers (List Logged))
    (can_begin : NewRecordsCanBegin) (moment : ℕ) (given : may_give_of clock moment) (nodes : List Node) (links : List Link) (lines : List Line) (sound : IsSound nodes links (map draft_line lines)) where
  module _ (k : ℕ) (x : Node) (there : slice_get nodes k ≡ Some x) (j word : ℕ) (c : CenterNow (List Logged)) (b : IsBeginning nodes links (steps_in lines k) k j word x c) where
    abbrev none : List Logged
    none = []

    abbrev begun : CenterNow (List Logged)
    begun = new_center x.entity b.port b.records none none b.bytes b.numbers

    abbrev made : NodeMade
    made = made_in nodes links lines k j word x

    abbrev its : RecordNow → Bool
    its r = is_at_home nodes x.centers j r.place

    sides : map side_made b.records ≡ made.sides
    sides =
        b.sides
        ∙ map_same (side_by (plan_of (steps_in lines k))) (side_in lines k)
        (λ r. ap (side_with r) (same_plan k r.place lines)) (at_home nodes x.centers j (records_of nodes links k word))
        ∙ sym (filter_mapped (side_in lines k) (λ (s : SideMade). is_at_home nodes x.centers j s.place) (records_of nodes links k word))

    is_made : node_made begun ≡ made
    is_made =
        ap (λ (a : Addr). node_with x.entity a (map side_made b.records)) b.at ∙ ap (node_with x.entity x.at) sides

    peers : AreOfTheirPeers b.records
    peers = peers_of nodes links (map draft_line lines) sound k word its b.records b.over

    course : IsOnCourse (may_give_of clock) moment (node_made begun) begun
    course =
        on_course clock moment x.entity b.port b.records none none b.bytes b.numbers
        (kept_can_begin nodes links k word its b.records b.over can_begin (map draft_line lines) sound x there b.port b.bytes b.numbers b.unused.made).0
        b.begun (elsewhere nodes links (map draft_line lines) sound k word its b.records b.over x there b.port b.at) b.unused.made b.unused.waiting given

    way : IsUnderWay (may_give_of clock) moment made c
    way = record {
      course = subst (λ (d : CenterNow (List Logged)). IsOnCourse (may_give_of clock) moment made d) (sym b.center) (subst (λ (m : NodeMade). IsOnCourse (may_give_of clock) moment m begun) is_made course);
      came = subst (λ (d : CenterNow (List Logged)). HaveCome (holding_in d)) (sym b.center)
          (all_so_of IsBegun (AllCameOfPeer (all_ends (holding_in begun))) b.records (λ r is. came_of_none (all_ends (holding_in begun)) r is) b.begun);
      logged = subst (λ (d : CenterNow (List Logged)). IsLogged heard_by (logging_in d)) (sym b.center)
          (begin_logged heard_by b.records none none peers (all_so_of IsBegun (λ (r : RecordNow). r.handed ≡ 0) b.records (λ r is. ap (λ (y : RecordNow). y.handed) is) b.begun) refl refl);
      peers = subst (λ (d : CenterNow (List Logged)). AreOfPeers heard_by d.records d.out d.queued) (sym b.center) (begin_of_peers heard_by b.records none none refl refl);
    }

    is_off : x.started ≡ false → IsOff c
    is_off o = record {
      records = subst (λ (d : CenterNow (List Logged)). AllByRecursion IsBegun d.records) (sym b.center) b.begun;
      new_one = subst (λ (d : CenterNow (List Logged)). d ≡ new_center d.entity (off_port d.port.at) d.records [] [] d.bytes d.numbers) (sym b.center)
          (ap (λ (p : SeenPort). new_center x.entity p b.records none none b.bytes b.numbers) (b.off o ∙ ap off_port (sym b.at)));
    }

    center_begins : IsCenterOf (may_give_of clock) moment nodes links lines k j word x c
    center_begins = record { way = way; off = is_off }

  -- ---- a node of such centers

  node_begins : (k : ℕ) (x : Node) → slice_get nodes k ≡ Some x → (s : ShareNow) (word : ℕ) (ws : List WorkerNow) → length ws ≡ x.centers →
      AreBeginningAt nodes links (steps_in lines k) k 0 word x ws → IsNodeOf (may_give_of clock) moment nodes links lines k x (node_of s ws)
  node_begins k x there s word ws long are = record {
    word = word;
    count = length-map ws center_of ∙ long;
    each = λ j c e.
        let m = get_of_map center_of ws j c e in
        subst (IsCenterOf (may_give_of clock) moment nodes links lines k j word x) m.same
        (center_begins k x there j word m.item.center
        (subst (λ (i : ℕ). IsBeginning nodes links (steps_in lines k) k i word x m.item.center) (let at : 0 + j ≡ j = omega arith in at) (are j m.item m.there)));
  }

  -- those of the nodes from place i on
  these_begin : (i : ℕ) (xs : List Node) (shares : List ShareNow) (ws : List WorkerNow) → ((m : ℕ) (x : Node) → slice_get xs m ≡ Some x → slice_get nodes (i + m) ≡ Some x) →
      AreBeginning nodes links (steps_in lines) i xs ws → AreGrouped xs shares ws →
      (m : ℕ) (x : Node) (n : RunNodeNow) → slice_get xs m ≡ Some x → slice_get (nodes_of_workers xs shares ws) m ≡ Some n → IsNodeOf (may_give_of clock) moment nodes links lines (i + m) x n
  these_begin i [] shares ws at are groups m x n e f = absurd (none-some x e)
  these_begin i (y ∷ ys) [] ws at are groups m x n e f = absurd groups
  these_begin i (y ∷ ys) (s ∷ shares) ws at are groups zero x n e f =
      let here : i + 0 ≡ i = omega arith in
      let there : slice_get nodes i ≡ Some y = ap (slice_get nodes) (sym here) ∙ at 0 y refl in
      subst (λ (k : ℕ). IsNodeOf (may_give_of clock) moment nodes links lines k x n) (sym here)
      (subst (λ (z : Node). IsNodeOf (may_give_of clock) moment nodes links lines i z n) (same_Some y x e)
      (subst (IsNodeOf (may_give_of clock) moment nodes links lines i y) (same_Some (node_of s (take y.centers ws)) n f)
      (node_begins i y there s are.0.0 (take y.centers ws) groups.0.count are.0.1)))
  these_begin i (y ∷ ys) (s ∷ shares) ws at are groups (suc m) x n e f =
      let next : (l : ℕ) → suc i + l ≡ i + suc l = λ l. omega arith in
      subst (λ (k : ℕ). IsNodeOf (may_give_of clock) moment nodes links lines k x n) (next m)
      (these_begin (suc i) ys shares (drop y.centers ws) (λ l z g. ap (slice_get nodes) (next l) ∙ at (suc l) z g) are.1 groups.1 m x n e f)

  pub nodes_begin : (shares : List ShareNow) (ws : List WorkerNow) → AreBeginning nodes links (steps_in lines) 0 nodes ws → AreGrouped nodes shares ws →
      AreNodesOf (may_give_of clock) moment nodes links lines (nodes_of_workers nodes shares ws)
  nodes_begin shares ws are groups = record {
    count = as_many_nodes nodes shares ws groups;
    each = λ k x n e f.
        let at : (l : ℕ) → 0 + l ≡ l = λ l. omega arith in
        subst (λ (i : ℕ). IsNodeOf (may_give_of clock) moment nodes links lines i x n) (at k)
        (these_begin 0 nodes shares ws (λ m y g. ap (slice_get nodes) (at m) ∙ g) are groups k x n e f);
  }

-- whichever steps they have, where they are those of the lines
by_lines : (nodes : List Node) (links : List Link) (f g : ℕ → List StepTowards) (i : ℕ) (xs : List Node) (ws : List WorkerNow) → ((m : ℕ) → m < length xs → f (i + m) ≡ g (i + m)) →
    AreBeginning nodes links f i xs ws → AreBeginning nodes links g i xs ws
by_lines nodes links f g i [] ws same are = tt
by_lines nodes links f g i (x ∷ xs) ws same are =
    let here : i + 0 ≡ i = omega arith in
    let next : (m : ℕ) → i + suc m ≡ suc i + m = λ m. omega arith in
    let steps : f i ≡ g i = ap f (sym here) ∙ same 0 (omega arith) ∙ ap g here in (
      (are.0.0, λ j w e. subst (λ (ss : List StepTowards). IsBeginning nodes links ss i (0 + j) are.0.0 x w.center) steps (are.0.1 j w e)),
      by_lines nodes links f g (suc i) xs (drop x.centers ws) (λ m less. ap f (sym (next m)) ∙ same (suc m) (omega (arith, less)) ∙ ap g (next m)) are.1,
    )

pub begin_by_lines : (nodes : List Node) (links : List Link) (lines : List Line) (count : ℕ) (steps : List (Holding StepTowards)) (ws : List WorkerNow) → count ≡ length nodes → AreStepsOf count lines steps →
    AreBeginning nodes links (steps_at steps) 0 nodes ws → AreBeginning nodes links (steps_in lines) 0 nodes ws
begin_by_lines nodes links lines count steps ws counted planned are = by_lines nodes links (steps_at steps) (steps_in lines) 0 nodes ws same are
  where
    at : (k : ℕ) (o : Option (Holding StepTowards)) → slice_get steps k ≡ o → k < length steps → steps_at steps k ≡ steps_in lines k
    at k (Some s) e within = ap items_of e ∙ planned.each k s e
    at k None e within =
        let d : Holding StepTowards = record { items = []; room = 0 } in
        absurd (none-some (get_or steps k d) (sym e ∙ slice_get-get_or steps k d within))

    same : (m : ℕ) → m < length nodes → steps_at steps (0 + m) ≡ steps_in lines (0 + m)
    same m less = at (0 + m) (slice_get steps (0 + m)) refl (let c = planned.count in omega (arith, less, c, counted))
