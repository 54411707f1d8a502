-- Deeds of runs that are alike lead to runs that are alike, but for want of memory.
use Rattle.std.proofs.Common.{◌≡◌, ℕ, zero, suc, ◌-◌, ◌&&◌, not, ◌++◌, List, [], ◌∷◌, length, map, slice_get, slice_set, Option, None, Some, Ok, refl, sym, subst, ◌∙◌, ap}
use Rattle.std.specs.List.{AllByRecursion, flat_map}
use Rattle.std.specs.Option.{option_map}
use Rattle.std.proofs.lemmas.List.{length-map}
use Rattle.m2_dispatch.specs.Heard.{Heard}
use Rattle.m2_dispatch.specs.m2_shared.Gates.{places}
use Rattle.m2_fabric.proofs.m2_lemmas.Lists.{all_at, cons_same}
use Rattle.m2_fabric.specs.End.{SeenEnd}
use Rattle.m2_fabric.specs.InStep.{Network, SeenFabric}
use Rattle.m2_fabric.specs.SimFabric.{Faults, Flows, Meets, looked_at}
use Rattle.m2_fabric.specs.Sockets.{is_among}
use Rattle.m2_fabric.specs.declared.socket.SocketId.{SocketId}
use Rattle.m2_script.specs.Apart.{AllEndsApart, EndsAreApart}
use Rattle.m2_script.specs.Script as script
use Rattle.m2_script.specs.Script.{Deed, Happens, IsPassed, PlansStep, RunNow, calls_between, network_of, next_moment, noted}
use Rattle.m2_script.specs.declared.calls.TurnCalls.{TurnCalls}
use Rattle.m2_script.specs.m2_center.Center.{CenterNow}
use Rattle.m2_script.specs.m2_center.Reaching.{all_ends_in, ends_in, untold_feed, untold_record, waiting_at}
use Rattle.m2_script.specs.m2_cluster.Cluster.{ClusterNow, address_of, end_of, held_by, line_of, made_by, waits_at}
use Rattle.m2_script.specs.m2_cluster.Node.{IsWholeNode, NodeNow, NodePlans, NodeTurns, rest_of_node}
use Rattle.m2_script.specs.m2_center.m2_turn.Hearing as halves
use Rattle.m2_script.specs.m2_center.m2_turn.Sessions.{PendingNow}
use Rattle.m2_script.specs.m2_center.m2_core.CoreNow.{IsAskedIfSigned}
use Rattle.m2_script.specs.m2_center.m2_feed.FeedNow.{FeedNow}
use Rattle.m2_script.specs.m2_center.m2_feed.m2_journal.declared.facts.PlanStep.{PlanStep}
use Rattle.m2_script.specs.m2_center.m2_feed.m2_session.declared.session.Phase.{Phase}
use Rattle.m2_script.specs.m2_center.m2_record.RecordNow.{RecordNow, ends_of, feed_end, ids_of}
use Rattle.m2_script.specs.m2_center.m2_record.Sources.{end_at}
use Rattle.m2_exact.proofs.Lists.{all_like, all_set, map_get, map_set, of_set, said_at}
use Rattle.m2_exact.proofs.Networks as networks
use Rattle.m2_exact.proofs.Nodes as nodes
use Rattle.m2_exact.proofs.Told as told
use Rattle.m2_exact.specs.Accepts.{plain_pending}
use Rattle.m2_exact.specs.Centers.{plain_center}
use Rattle.m2_exact.specs.Cores.{roomless_feed}
use Rattle.m2_exact.specs.Deeds.{AreAlike, HasFitNodes, LikeRunsDoAlike}
use Rattle.m2_exact.specs.Networks.{LikeHolders, LikeNetworks, StayAlike}
use Rattle.m2_exact.specs.Nodes.{IsAskedBehind, IsFitNode, LikeNodesActAlike, NodeTurned, PlainNode, plain_node}
use Rattle.m2_exact.specs.Records.{plain}

-- ---- the ends of what is alike

record_ends : (r : RecordNow) → ends_of r ≡ ends_of (plain r)
record_ends r = by r.core.live.feed
  where
    by : (x : Option FeedNow) → feed_end x ++ r.spent ≡ feed_end (option_map roomless_feed x) ++ r.spent
    by (Some v) = refl
    by None = refl

records_ends : (rs : List RecordNow) → flat_map ends_of rs ≡ flat_map ends_of (map plain rs)
records_ends [] = refl
records_ends (r ∷ rs) = ap (λ (es : List SeenEnd). es ++ flat_map ends_of rs) (record_ends r) ∙ ap (λ (es : List SeenEnd). ends_of (plain r) ++ es) (records_ends rs)

pending_ends : (ps : List PendingNow) → map (λ (p : PendingNow). p.half.end) ps ≡ map (λ (p : PendingNow). p.half.end) (map plain_pending ps)
pending_ends [] = refl
pending_ends (p ∷ ps) = ap (λ (es : List SeenEnd). p.half.end ∷ es) (pending_ends ps)

-- ---- nothing was asked too early, whatever ends were told

asked_untold : (p : Phase) (x : Option FeedNow) → IsAskedIfSigned p x → IsAskedIfSigned p (option_map untold_feed x)
asked_untold p (Some v) h = h
asked_untold p None h = h

untold_asked : (p : Phase) (x : Option FeedNow) → IsAskedIfSigned p (option_map untold_feed x) → IsAskedIfSigned p x
untold_asked p (Some v) h = h
untold_asked p None h = h

asked_told : (r s : RecordNow) → untold_record r ≡ untold_record s → IsAskedBehind r → IsAskedBehind s
asked_told r s same h =
    untold_asked s.core.live.session.phase s.core.live.feed (subst IsAskedBehind same (asked_untold r.core.live.session.phase r.core.live.feed h))

module _ {D : Type 0} (E : Type 0) (heard : D → List Heard) where
  center_ends : (c : CenterNow D) → ends_in c ≡ told.plain_ends (plain_center heard c)
  center_ends c =
      ap (λ (es : List SeenEnd). es ++ halves.ends_in c.halves) (records_ends c.records)
      ∙ ap (λ (es : List SeenEnd). flat_map ends_of (map plain c.records) ++ (es ++ map (λ l. l.end) c.halves.loose)) (pending_ends c.halves.pending)

  ends_same : (n m : NodeNow D) → plain_node heard n ≡ plain_node heard m → ends_in n.center ≡ ends_in m.center
  ends_same n m like = center_ends n.center ∙ ap (λ (x : PlainNode). told.plain_ends x.center) like ∙ sym (center_ends m.center)

  all_same : (n m : NodeNow D) → plain_node heard n ≡ plain_node heard m → all_ends_in n.center ≡ all_ends_in m.center
  all_same n m like =
      ap (λ (es : List SeenEnd). es ++ waiting_at n.center.port) (ends_same n m like) ∙ ap (λ (x : PlainNode). ends_in m.center ++ waiting_at x.center.port) like

  -- ---- networks

  like_holders : (xs ys : List (NodeNow D)) → map (plain_node heard) xs ≡ map (plain_node heard) ys → LikeHolders (held_by xs) (held_by ys)
  like_holders xs ys same = record {
    nodes = sym (length-map xs (plain_node heard)) ∙ ap length same ∙ length-map ys (plain_node heard);
    at = said_at (plain_node heard) address_of (λ n m like. ap (λ (x : PlainNode). x.center.port.at) like) xs ys same;
    made = said_at (plain_node heard) made_by (λ n m like. ap (λ (x : PlainNode). x.center.port.made) like) xs ys same;
    ends = λ k id. said_at (plain_node heard) (λ o. end_of o id) (λ n m like. ap (λ es. end_at es id) (all_same n m like)) xs ys same k;
    waits = λ k id. said_at (plain_node heard) (λ o. waits_at o id) (waits id) xs ys same k;
    line = said_at (plain_node heard) line_of (λ n m like. ap (λ (x : PlainNode). ids_of (waiting_at x.center.port)) like) xs ys same;
  }
    where
      waits : (id : SocketId) (n m : NodeNow D) → plain_node heard n ≡ plain_node heard m → waits_at (Some n) id ≡ waits_at (Some m) id
      waits id n m like =
          ap (λ (x : PlainNode). is_among id (ids_of (waiting_at x.center.port)) && not (is_among id (ids_of (ends_in n.center)))) like
          ∙ ap (λ (es : List SeenEnd). is_among id (ids_of (waiting_at m.center.port)) && not (is_among id (ids_of es))) (ends_same n m like)

  like_networks : (s t : RunNow D) → AreAlike heard s t → LikeNetworks (network_of s) (network_of t)
  like_networks s t like = record { holders = like_holders s.cluster.nodes t.cluster.nodes like.nodes; nodes = like.addresses; pairs = like.pairs; looked = like.looked }

  -- ---- something passes

  all_told : (olds lasts news behinds : List (NodeNow D)) → map (plain_node heard) olds ≡ map (plain_node heard) lasts →
      map rest_of_node news ≡ map rest_of_node olds → map rest_of_node behinds ≡ map rest_of_node lasts →
      AllByRecursion IsWholeNode news → AllByRecursion IsWholeNode behinds → AllByRecursion EndsAreApart news →
      ((k : ℕ) (id : SocketId) → end_of (slice_get news k) id ≡ end_of (slice_get behinds k) id) → ((k : ℕ) → line_of (slice_get news k) ≡ line_of (slice_get behinds k)) →
      map (plain_node heard) news ≡ map (plain_node heard) behinds
  all_told [] [] [] [] like h g whole entire apart ends line = refl
  all_told (o ∷ os) (l ∷ ls) (n ∷ ns) (b ∷ bs) like h g whole entire apart ends line =
      let likes = cons_same (plain_node heard o) (plain_node heard l) (map (plain_node heard) os) (map (plain_node heard) ls) like in
      let hs = cons_same (rest_of_node n) (rest_of_node o) (map rest_of_node ns) (map rest_of_node os) h in
      let gs = cons_same (rest_of_node b) (rest_of_node l) (map rest_of_node bs) (map rest_of_node ls) g in
      ap (λ x. x ∷ map (plain_node heard) ns) (told.alike heard o l n b likes.0 hs.0 gs.0 whole.0.port entire.0.port apart.0 (ends zero) (line zero))
      ∙ ap (λ xs. plain_node heard b ∷ xs) (all_told os ls ns bs likes.1 hs.1 gs.1 whole.1 entire.1 apart.1 (λ k. ends (suc k)) (λ k. line (suc k)))
  all_told [] (l ∷ ls) news behinds like h g whole entire apart ends line = absurd (cc like)
  all_told (o ∷ os) [] news behinds like h g whole entire apart ends line = absurd (cc like)
  all_told [] [] (n ∷ ns) behinds like h g whole entire apart ends line = absurd (cc h)
  all_told [] [] [] (b ∷ bs) like h g whole entire apart ends line = absurd (cc g)
  all_told (o ∷ os) (l ∷ ls) [] behinds like h g whole entire apart ends line = absurd (cc h)
  all_told (o ∷ os) (l ∷ ls) (n ∷ ns) [] like h g whole entire apart ends line = absurd (cc g)

  passed : (how : Network → Network → Type 0) → StayAlike how → (s t new behind : RunNow D) → AreAlike heard s t → AllEndsApart new → IsPassed (Ok tt) how s new → AllByRecursion IsWholeNode new.cluster.nodes →
      IsPassed (Ok tt) how t behind → AllByRecursion IsWholeNode behind.cluster.nodes → AreAlike heard new behind
  passed how stay s t new behind like apart h whole g entire =
      let net = stay (network_of s) (network_of t) (network_of new) (network_of behind) (like_networks s t like) h.passes g.passes in
      record {
        nodes = all_told s.cluster.nodes t.cluster.nodes new.cluster.nodes behind.cluster.nodes like.nodes (ap (λ (c : ClusterNow D). c.nodes) h.rest) (ap (λ (c : ClusterNow D). c.nodes) g.rest)
            whole entire apart net.holders.ends net.holders.line;
        addresses = net.nodes;
        pairs = net.pairs;
        looked = net.looked;
        now = h.now ∙ like.now ∙ sym g.now;
        calls = h.calls ∙ like.calls ∙ sym g.calls;
      }

  fit_told : (old new : NodeNow D) → IsFitNode old → rest_of_node new ≡ rest_of_node old → IsWholeNode new → IsFitNode new
  fit_told old new f h whole = record {
    whole = whole;
    asked = all_like untold_record IsAskedBehind asked_told old.center.records new.center.records (sym (ap (λ (n : NodeNow D). n.center.records) h)) f.asked;
    throttles = λ gate. ap (λ (n : NodeNow D). places n.throttles gate) h ∙ f.throttles gate;
    counter = ap (λ (n : NodeNow D). n.numbers.place) h ∙ f.counter;
  }

  all_fit : (olds news : List (NodeNow D)) → AllByRecursion IsFitNode olds → map rest_of_node news ≡ map rest_of_node olds → AllByRecursion IsWholeNode news → AllByRecursion IsFitNode news
  all_fit [] [] f h whole = tt
  all_fit (o ∷ os) (n ∷ ns) f h whole =
      let hs = cons_same (rest_of_node n) (rest_of_node o) (map rest_of_node ns) (map rest_of_node os) h in
      (fit_told o n f.0 hs.0 whole.0, all_fit os ns f.1 hs.1 whole.1)
  all_fit [] (n ∷ ns) f h whole = absurd (cc h)
  all_fit (o ∷ os) [] f h whole = absurd (cc h)

  passed_fit : (how : Network → Network → Type 0) (s new : RunNow D) → HasFitNodes s → IsPassed (Ok tt) how s new → AllByRecursion IsWholeNode new.cluster.nodes → HasFitNodes new
  passed_fit how s new f h whole = all_fit s.cluster.nodes new.cluster.nodes f (ap (λ (c : ClusterNow D). c.nodes) h.rest) whole

  -- ---- one node acts

  -- where the fabrics stay, and the nodes are alike
  acted : (s t new behind : RunNow D) → AreAlike heard s t → map (plain_node heard) new.cluster.nodes ≡ map (plain_node heard) behind.cluster.nodes → new.fabric ≡ s.fabric → behind.fabric ≡ t.fabric →
      new.now ≡ behind.now → new.calls ≡ behind.calls → AreAlike heard new behind
  acted s t new behind like nodes h g now calls = record {
    nodes = nodes;
    addresses = ap (λ (f : SeenFabric). f.nodes) h ∙ like.addresses ∙ sym (ap (λ (f : SeenFabric). f.nodes) g);
    pairs = ap (λ (f : SeenFabric). f.pairs) h ∙ like.pairs ∙ sym (ap (λ (f : SeenFabric). f.pairs) g);
    looked = λ node. ap (λ (f : SeenFabric). looked_at f node) h ∙ like.looked node ∙ sym (ap (λ (f : SeenFabric). looked_at f node) g);
    now = now;
    calls = calls;
  }

  acting : LikeNodesActAlike E D heard
  acting = nodes.alike E heard

  plans : (a b : ℕ) (x : PlanStep) (s t new behind : RunNow D) → HasFitNodes s → AreAlike heard s t → PlansStep (Ok tt) a b x s new → PlansStep (Ok tt) a b x t behind → AreAlike heard new behind
  plans a b x s t new behind f like h g =
      let before = map_get (plain_node heard) s.cluster.nodes t.cluster.nodes a h.acts.before g.acts.before like.nodes h.acts.was g.acts.was in
      let fit = all_at IsFitNode s.cluster.nodes a h.acts.before h.acts.was f in
      let same = acting.plans b x s.now h.acts.before g.acts.before h.acts.behind g.acts.behind fit before h.acts.does
      (subst (λ (now : ℕ). NodePlans (Ok tt) b x now g.acts.before g.acts.behind) (sym like.now) g.acts.does) in
      acted s t new behind like
      (ap (λ (c : ClusterNow D). map (plain_node heard) c.nodes) h.acts.only
      ∙ map_set (plain_node heard) s.cluster.nodes t.cluster.nodes a h.acts.behind g.acts.behind like.nodes same
      ∙ sym (ap (λ (c : ClusterNow D). map (plain_node heard) c.nodes) g.acts.only))
      h.fabric g.fabric (h.now ∙ like.now ∙ sym g.now) (h.calls ∙ like.calls ∙ sym g.calls)

  -- the calls of a turn, by what counts of the node before and behind it
  abbrev calls_of : ℕ → (before behind : PlainNode) → List TurnCalls
  calls_of a before behind = noted (record {
    node = a;
    fast = length behind.center.out.fast - length before.center.out.fast;
    queued = length behind.center.queued - length before.center.queued;
  })

  turns : (a : ℕ) (s t new behind : RunNow D) → HasFitNodes s → AreAlike heard s t → script.TakesTurn E heard a s new → script.TakesTurn E heard a t behind → AreAlike heard new behind
  turns a s t new behind f like h g =
      let before = map_get (plain_node heard) s.cluster.nodes t.cluster.nodes a h.acts.before g.acts.before like.nodes h.acts.was g.acts.was in
      let fit = all_at IsFitNode s.cluster.nodes a h.acts.before h.acts.was f in
      let one : NodeTurned E heard s.now h.acts.before h.acts.behind = record { turns = h.acts.does; none_held = h.none_held } in
      let other : NodeTurned E heard s.now g.acts.before g.acts.behind =
      record { turns = subst (λ (now : ℕ). NodeTurns E heard now (Ok tt) g.acts.before g.acts.behind) (sym like.now) g.acts.does; none_held = g.none_held } in
      let same = acting.turns s.now h.acts.before g.acts.before h.acts.behind g.acts.behind fit before one other in
      acted s t new behind like
      (ap (λ (c : ClusterNow D). map (plain_node heard) c.nodes) h.acts.only
      ∙ map_set (plain_node heard) s.cluster.nodes t.cluster.nodes a h.acts.behind g.acts.behind like.nodes same
      ∙ sym (ap (λ (c : ClusterNow D). map (plain_node heard) c.nodes) g.acts.only))
      h.fabric g.fabric (h.now ∙ ap next_moment like.now ∙ sym g.now)
      (h.calls
      ∙ ap (λ (cs : List TurnCalls). cs ++ calls_between heard a h.acts.before h.acts.behind) like.calls
      ∙ ap (λ (n : PlainNode). t.calls ++ calls_of a n (plain_node heard h.acts.behind)) before
      ∙ ap (λ (n : PlainNode). t.calls ++ calls_of a (plain_node heard g.acts.before) n) same
      ∙ sym g.calls)

  acts_fit : (a : ℕ) (s new : RunNow D) (before behind : NodeNow D) → HasFitNodes s → slice_get s.cluster.nodes a ≡ Some before → new.cluster ≡ record s.cluster { nodes = slice_set s.cluster.nodes a behind } →
      AllByRecursion IsWholeNode new.cluster.nodes → (IsFitNode before → IsWholeNode behind → IsFitNode behind) → HasFitNodes new
  acts_fit a s new before behind f was only whole so =
      let here : IsWholeNode behind = of_set IsWholeNode s.cluster.nodes a before behind was (subst (λ (c : ClusterNow D). AllByRecursion IsWholeNode c.nodes) only whole) in
      subst (λ (c : ClusterNow D). AllByRecursion IsFitNode c.nodes) (sym only)
      (all_set IsFitNode s.cluster.nodes a behind f (so (all_at IsFitNode s.cluster.nodes a before was f) here))

  -- ---- a deed

  deeds : (d : Deed) (old last new behind : RunNow D) → HasFitNodes old → AllEndsApart new → AreAlike heard old last → Happens E heard (Ok tt) d old new → Happens E heard (Ok tt) d last behind →
      AreAlike heard new behind
  deeds (script.plan a b x) old last new behind f apart like h g = plans a b x old last new behind f like h.0 g.0
  deeds (script.turn a) old last new behind f apart like h g = turns a old last new behind f like h.0 g.0
  deeds (script.meet a) old last new behind f apart like h g = passed (Meets a) (networks.alike.meetings a) old last new behind like apart h.0 h.1 g.0 g.1
  deeds (script.flow a b socket most) old last new behind f apart like h g =
      passed (Flows a b socket most) (networks.alike.flows a b socket most) old last new behind like apart h.0 h.1 g.0 g.1
  deeds (script.fault a b socket) old last new behind f apart like h g = passed (Faults a b socket) (networks.alike.faults a b socket) old last new behind like apart h.0 h.1 g.0 g.1

  stays : (d : Deed) (old new : RunNow D) → HasFitNodes old → Happens E heard (Ok tt) d old new → HasFitNodes new
  stays (script.plan a b x) old new f h =
      let acts = h.0.acts in acts_fit a old new acts.before acts.behind f acts.was acts.only h.1 (λ fit whole. acting.plan_stays b x old.now acts.before acts.behind fit acts.does whole)
  stays (script.turn a) old new f h =
      let acts = h.0.acts in
      acts_fit a old new acts.before acts.behind f acts.was acts.only h.1
      (λ fit whole. acting.turn_stays old.now acts.before acts.behind fit (record { turns = acts.does; none_held = h.0.none_held }) whole)
  stays (script.meet a) old new f h = passed_fit (Meets a) old new f h.0 h.1
  stays (script.flow a b socket most) old new f h = passed_fit (Flows a b socket most) old new f h.0 h.1
  stays (script.fault a b socket) old new f h = passed_fit (Faults a b socket) old new f h.0 h.1

  pub alike : LikeRunsDoAlike E D heard
  alike = record { deeds = deeds; stays = stays }
