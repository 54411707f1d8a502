-- What passes between ends in memory is told by what is seen of their networks.
use Rattle.std.proofs.Common.{◌≡◌, ◌≢◌, ℕ, ◌+◌, ◌==◌, ◌&&◌, ◌||◌, not, ◌++◌, Bool, true, false, if◌then◌else◌, List, [], ◌∷◌, drop, length, map, Option, None, Some, refl, sym, subst, ◌∙◌, ap}
use Rattle.std.specs.Prelude.{fold, get_or}
use Rattle.std.specs.Option.{option_map}
use Rattle.std.proofs.lemmas.Bool.{eqb-true}
use Rattle.m2_fabric.proofs.m2_lemmas.Numbers.{same_number}
use Rattle.m2_fabric.specs.m2_addr.declared.addr.Addr.{Addr}
use Rattle.m2_fabric.specs.End.{SeenEnd, fresh_end}
use Rattle.m2_fabric.specs.Holder.{EndName, SeenHolder, in_line, may_come}
use Rattle.m2_fabric.specs.InStep.{Network}
use Rattle.m2_fabric.specs.Kept.{SeenPair, back, between, directions, chosen, reader, same_end, there, writer}
use Rattle.m2_fabric.specs.Log.{Log}
use Rattle.m2_fabric.specs.Meeting.{Arrive, all_entered, arrivals, comes, is_one_of}
use Rattle.m2_fabric.specs.News.{AreTold, Logs, Told, hears, is_about, is_closed, kept_after, logs_of, moved, only, pair_after, progress_by, put_of, told_by, told_of, told_to}
use Rattle.m2_fabric.specs.SimFabric.{Enters, Faults, Flows, IsPassedOn, IsTold, Meets, Passes, closings_of, fault_at, flow_of, looked_at, new_made}
use Rattle.m2_fabric.specs.Sockets.{goes_to, is_among}
use Rattle.m2_fabric.specs.declared.end.News.TheVariants as news
use Rattle.m2_fabric.specs.declared.socket.SocketId.{SocketId}
use Rattle.m2_fabric.proofs.m2_lemmas.Lists.{flat_map_same, map_same}
use Rattle.m2_exact.specs.Networks.{LikeHolders, LikeNetworks, LikeNetworksPassAlike, StayAlike}

-- ---- lists

-- ---- what is told

-- the logs are the same
abbrev SameLogs : Logs → Logs → Type 0
SameLogs one other = (e : EndName) → one e ≡ other e

logs_same : (g h : SeenHolder) → LikeHolders g h → SameLogs (logs_of g) (logs_of h)
logs_same g h like e =
    ap (λ b. option_map (λ (s : SeenEnd). s.log) (if b then None else g.ends e.node e.id)) (like.waits e.node e.id)
    ∙ ap (λ o. option_map (λ (s : SeenEnd). s.log) (if h.waits e.node e.id then None else o)) (like.ends e.node e.id)

told_same : (what : _) (one other : Logs) → SameLogs one other → (d : _) → told_by what one d ≡ told_by what other d
told_same what one other same d =
    ap (λ r. if is_about what d then (if d.progress.over || is_closed r then [] else told_of what.most d.progress (one (writer d))) else []) (same (reader d))
    ∙ ap (λ w. if is_about what d then (if d.progress.over || is_closed (other (reader d)) then [] else told_of what.most d.progress w) else []) (same (writer d))

all_told_same : (what : _) (one other : Logs) → SameLogs one other → (ds : _) (e : EndName) → told_to what one ds e ≡ told_to what other ds e
all_told_same what one other same ds e =
    flat_map_same (λ d. if same_end (reader d) e then told_by what one d else []) (λ d. if same_end (reader d) e then told_by what other d else [])
    (λ d. ap (λ ts. if same_end (reader d) e then ts else []) (told_same what one other same d)) ds

progress_same : (what : _) (one other : Logs) → SameLogs one other → (d : _) → progress_by what one d ≡ progress_by what other d
progress_same what one other same d =
    ap (λ (r : Option Log). if is_about what d then (
    if d.progress.over then d.progress else
    if is_closed r then record d.progress { over = true } else
    record d.progress { flowed = d.progress.flowed + length (moved what.most d.progress.flowed (put_of (one (writer d)))) }
    ) else d.progress) (same (reader d))
    ∙ ap (λ (w : Option Log). if is_about what d then (
    if d.progress.over then d.progress else
    if is_closed (other (reader d)) then record d.progress { over = true } else
    record d.progress { flowed = d.progress.flowed + length (moved what.most d.progress.flowed (put_of w)) }
    ) else d.progress) (same (writer d))

kept_same : (what : _) (one other : Logs) → SameLogs one other → (p : SeenPair) (k : _) → kept_after what one p.first p.second k ≡ kept_after what other p.first p.second k
kept_same what one other same p k =
    ap (λ x. record k { there = x; back = progress_by what one (back p.first p.second k) }) (progress_same what one other same (there p.first p.second k))
    ∙ ap (λ x. record k { there = progress_by what other (there p.first p.second k); back = x }) (progress_same what one other same (back p.first p.second k))

pairs_same : (what : _) (one other : Logs) → SameLogs one other → (ps : List SeenPair) → map (pair_after what one) ps ≡ map (pair_after what other) ps
pairs_same what one other same ps =
    map_same (pair_after what one) (pair_after what other)
    (λ p. ap (λ ks. record p { sockets = ks }) (map_same (kept_after what one p.first p.second) (kept_after what other p.first p.second) (kept_same what one other same p) p.sockets)) ps

-- ---- ends that are told the same

told_alike : (one other : EndName → List Told) (g h new behind : SeenHolder) → ((e : EndName) → one e ≡ other e) → LikeHolders g h → AreTold one g new → AreTold other h behind → LikeHolders new behind
told_alike one other g h new behind same like t u = record {
  nodes = t.nodes ∙ like.nodes ∙ sym u.nodes;
  at = λ node. t.at node ∙ like.at node ∙ sym (u.at node);
  made = λ node. t.made node ∙ like.made node ∙ sym (u.made node);
  ends = λ node id. by (record { node = node; id = id });
  waits = λ node id. waits (record { node = node; id = id });
  line = λ node. t.line node ∙ like.line node ∙ sym (u.line node);
}
  where
    by : (e : EndName) → new.ends e.node e.id ≡ behind.ends e.node e.id
    by e = t.ends e ∙ ap (λ ts. option_map (hears ts) (g.ends e.node e.id)) (same e) ∙ ap (option_map (hears (other e))) (like.ends e.node e.id) ∙ sym (u.ends e)

    waits : (e : EndName) → new.waits e.node e.id ≡ behind.waits e.node e.id
    waits e = t.waits e ∙ like.waits e.node e.id ∙ sym (u.waits e)

passed_alike : (what : _) → StayAlike (IsPassedOn what)
passed_alike what n m new behind like p q =
    let logs = logs_same n.holder m.holder like.holders in
    record {
      holders = told_alike (told_to what (logs_of n.holder) (directions n.fabric.pairs)) (told_to what (logs_of m.holder) (directions m.fabric.pairs)) n.holder m.holder new.holder behind.holder
          (λ e. all_told_same what (logs_of n.holder) (logs_of m.holder) logs (directions n.fabric.pairs) e ∙ ap (λ ps. told_to what (logs_of m.holder) (directions ps) e) like.pairs)
          like.holders p.told q.told;
      nodes = p.nodes ∙ like.nodes ∙ sym q.nodes;
      pairs = p.pairs ∙ pairs_same what (logs_of n.holder) (logs_of m.holder) logs n.fabric.pairs ∙ ap (map (pair_after what (logs_of m.holder))) like.pairs ∙ sym q.pairs;
      looked = λ node. ap (λ l. get_or l node 0) p.looked ∙ like.looked node ∙ sym (ap (λ l. get_or l node 0) q.looked);
    }

-- ends are told this, and the fabrics stay
only_told : (one other : EndName → List Told) (n m new behind : Network) → ((e : EndName) → one e ≡ other e) → LikeNetworks n m → IsTold one n new → IsTold other m behind → LikeNetworks new behind
only_told one other n m new behind same like t u = record {
  holders = told_alike one other n.holder m.holder new.holder behind.holder same like.holders t.told u.told;
  nodes = ap (λ f. f.nodes) t.fabric ∙ like.nodes ∙ sym (ap (λ f. f.nodes) u.fabric);
  pairs = ap (λ f. f.pairs) t.fabric ∙ like.pairs ∙ sym (ap (λ f. f.pairs) u.fabric);
  looked = λ node. ap (λ f. looked_at f node) t.fabric ∙ like.looked node ∙ sym (ap (λ f. looked_at f node) u.fabric);
}

-- ---- sockets that come

new_same : (node : ℕ) (n m : Network) → LikeNetworks n m → new_made node n ≡ new_made node m
new_same node n m like = ap (λ k. drop k (n.holder.made node)) (like.looked node) ∙ ap (drop (looked_at m.fabric node)) (like.holders.made node)

may_same : (g h : SeenHolder) → LikeHolders g h → (e : EndName) → may_come e g ≡ may_come e h
may_same g h like e =
    ap (λ at. goes_to at e.id && (not (is_among e.id (g.made e.node)) && not (g.waits e.node e.id))) (like.at e.node)
    ∙ ap (λ made. goes_to (h.at e.node) e.id && (not (is_among e.id made) && not (g.waits e.node e.id))) (like.made e.node)
    ∙ ap (λ b. goes_to (h.at e.node) e.id && (not (is_among e.id (h.made e.node)) && not b)) (like.waits e.node e.id)

comes_same : (es fs : List EndName) (g h : SeenHolder) → es ≡ fs → LikeHolders g h → (e : EndName) → comes es g e ≡ comes fs h e
comes_same es fs g h same like e = ap (λ xs. is_one_of xs e && may_come e g) same ∙ ap (λ b. is_one_of fs e && b) (may_same g h like e)

-- a line, by where its node listens and what its port made
abbrev line_by : Addr → List SocketId → (node : ℕ) → List SocketId → EndName → List SocketId
line_by at made node line e = if (e.node == node) && (goes_to at e.id && (not (is_among e.id made) && not (is_among e.id line))) then line ++ e.id ∷ [] else line

line_same : (es fs : List EndName) (g h : SeenHolder) → es ≡ fs → LikeHolders g h → (node : ℕ) → fold (in_line g node) (g.line node) es ≡ fold (in_line h node) (h.line node) fs
line_same es fs g h same like node =
    ap (λ at. fold (line_by at (g.made node) node) (g.line node) es) (like.at node)
    ∙ ap (λ made. fold (line_by (h.at node) made node) (g.line node) es) (like.made node)
    ∙ ap (λ line. fold (line_by (h.at node) (h.made node) node) line es) (like.line node)
    ∙ ap (fold (line_by (h.at node) (h.made node) node) (h.line node)) same

arrive_alike : (es fs : List EndName) (g h new behind : SeenHolder) → es ≡ fs → LikeHolders g h → Arrive es g new → Arrive fs h behind → LikeHolders new behind
arrive_alike es fs g h new behind same like a b = record {
  nodes = a.nodes ∙ like.nodes ∙ sym b.nodes;
  at = λ node. a.at node ∙ like.at node ∙ sym (b.at node);
  made = λ node. a.made node ∙ like.made node ∙ sym (b.made node);
  ends = λ node id. ends (record { node = node; id = id });
  waits = λ node id. waits (record { node = node; id = id });
  line = λ node. a.line node ∙ line_same es fs g h same like node ∙ sym (b.line node);
}
  where
    ends : (e : EndName) → new.ends e.node e.id ≡ behind.ends e.node e.id
    ends e =
        a.ends e
        ∙ ap (λ c. if c then Some (fresh_end e.id) else g.ends e.node e.id) (comes_same es fs g h same like e)
        ∙ ap (λ o. if comes fs h e then Some (fresh_end e.id) else o) (like.ends e.node e.id)
        ∙ sym (b.ends e)

    waits : (e : EndName) → new.waits e.node e.id ≡ behind.waits e.node e.id
    waits e =
        a.waits e
        ∙ ap (λ c. c || g.waits e.node e.id) (comes_same es fs g h same like e)
        ∙ ap (λ w. comes fs h e || w) (like.waits e.node e.id)
        ∙ sym (b.waits e)

enters_alike : (node : ℕ) → StayAlike (Enters node)
enters_alike node n m new behind like e f =
    let made = new_same node n m like in
    record {
      holders = arrive_alike (arrivals n.fabric.nodes node (new_made node n) n.fabric.pairs) (arrivals m.fabric.nodes node (new_made node m) m.fabric.pairs)
          n.holder m.holder new.holder behind.holder
          (ap (λ at. arrivals at node (new_made node n) n.fabric.pairs) like.nodes
          ∙ ap (λ ids. arrivals m.fabric.nodes node ids n.fabric.pairs) made
          ∙ ap (arrivals m.fabric.nodes node (new_made node m)) like.pairs)
          like.holders e.arrive f.arrive;
      nodes = e.nodes ∙ like.nodes ∙ sym f.nodes;
      pairs =
          e.pairs
          ∙ ap (λ at. all_entered at node (new_made node n) n.fabric.pairs) like.nodes
          ∙ ap (λ ids. all_entered m.fabric.nodes node ids n.fabric.pairs) made
          ∙ ap (all_entered m.fabric.nodes node (new_made node m)) like.pairs
          ∙ sym f.pairs;
      looked = λ other. by other (other == node) refl;
    }
  where
    unlike : (a b : ℕ) → a ≡ b → (a == b) ≡ false → ⊥
    unlike a b same is = absurd (cc (same_number a b same, is))

    by : (other : ℕ) (b : Bool) → (other == node) ≡ b → looked_at new.fabric other ≡ looked_at behind.fabric other
    by other true is =
        let same = eqb-true other node is in
        ap (looked_at new.fabric) same ∙ e.looked ∙ ap length (like.holders.made node) ∙ sym f.looked ∙ sym (ap (looked_at behind.fabric) same)
    by other false is =
        let differs : other ≢ node = λ same. unlike other node same is in
        e.others other differs ∙ like.looked other ∙ sym (f.others other differs)

-- ---- calls

meets_alike : (node : ℕ) → StayAlike (Meets node)
meets_alike node n m new behind like h g =
    passed_alike (closings_of node) h.between g.between new behind (enters_alike node n m h.between g.between like h.enters g.enters) h.passed g.passed

passes_alike : (o : _) → StayAlike (Passes o)
passes_alike None n m new behind like h g = only_told (λ e. []) (λ e. []) n m new behind (λ e. refl) like h g
passes_alike (Some what) n m new behind like h g = passed_alike what n m new behind like h g

flows_alike : (a b socket most : ℕ) → StayAlike (Flows a b socket most)
flows_alike a b socket most n m new behind like h g =
    passes_alike (flow_of a b socket most n.fabric.pairs) n m new behind like h (subst (λ ps. Passes (flow_of a b socket most ps) m behind) (sym like.pairs) g)

fault_same : (a : ℕ) (one other : Logs) → SameLogs one other → (o : _) (e : EndName) → fault_at a one o e ≡ fault_at a other o e
fault_same a one other same None e = refl
fault_same a one other same (Some k) e =
    let end : EndName = record { node = a; id = k.id } in
    ap (λ (l : Option Log). (if is_closed l then (λ (x : EndName). let none : List Told = [] in none) else only end (record { news = news.Failed; bytes = [] } ∷ [])) e) (same end)

faults_alike : (a b socket : ℕ) → StayAlike (Faults a b socket)
faults_alike a b socket n m new behind like h g =
    only_told (fault_at a (logs_of n.holder) (chosen socket (between a b n.fabric.pairs))) (fault_at a (logs_of m.holder) (chosen socket (between a b m.fabric.pairs))) n m new behind
    (λ e. fault_same a (logs_of n.holder) (logs_of m.holder) (logs_same n.holder m.holder like.holders) (chosen socket (between a b n.fabric.pairs)) e
    ∙ ap (λ ps. fault_at a (logs_of m.holder) (chosen socket (between a b ps)) e) like.pairs)
    like h g

pub alike : LikeNetworksPassAlike
alike = record { meetings = meets_alike; flows = flows_alike; faults = faults_alike }
