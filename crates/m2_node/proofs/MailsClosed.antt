-- Mails are closed one after another, and all that their threads have handed on is dispatched.
use Rattle.std.proofs.Common.{◌≡◌, ℕ, zero, suc, ◌+◌, ◌≤◌, min, false, List, [], ◌∷◌, ◌++◌, drop, length, map, take, Some, refl, sym, ap, subst, ◌∙◌, arith, append_assoc, append-nil, drop-drop, length-drop, length-take, take-append-drop}
use Rattle.std.specs.Prelude.{slice_get}
use Rattle.std.specs.List.{AllByRecursion}
use Rattle.std.proofs.lemmas.List.{drop-map, drop_at, length-map, map-append, take_at}
use Rattle.m2_dispatch.specs.Heard.{Heard, heard_by}
use Rattle.m2_dispatch.specs.Parcel.{heard_for_all}
use Rattle.m2_dispatch.specs.declared.logged.Logged.{Logged}
use Rattle.m2_dispatch.specs.declared.parcel.Parcel.{Parcel}
use Rattle.m2_dispatch.specs.m2_shared.Gates.{AreShared}
use Rattle.m2_dispatch.specs.m2_shared.declared.ids.Ids.{Ids}
use Rattle.m2_dispatch.specs.m2_shared.declared.throttles.Throttles.{Throttles}
use Rattle.m2_links_go_on.specs.ClusterTold.{OneByOne}
use Rattle.m2_mailbox.specs.Merge.{IsMerge}
use Rattle.m2_mailbox.specs.Passes.{IsGetPassOf, puts_of, taken_of}
use Rattle.m2_mailbox.specs.declared.passes.GetPass.{GetPass}
use Rattle.m2_mailbox.proofs.Sublists.{one_list}
use Rattle.m2_scenario.specs.declared.node.Node.{Node}
use Rattle.m2_script.specs.m2_center.Center.{CenterNow}
use Rattle.m2_node.specs.Dispatching.{DispatcherNow, HasDispatched, HasEmptied, IsServing, Mail, Serves, ServingNow, taken_by, throttles_of}
use Rattle.m2_node.specs.Handing.{AreHanded, IsDispatched, IsSending, SenderNow, handed_by, worker_of}
use Rattle.m2_node.specs.Lists.{SideBySide}
use Rattle.m2_node.specs.Posts.{AreClosable, AreDispatched, ArePosts, AreServersOf, ClosesAll, ClosesSender, IsServerOf, PostsNow}
use Rattle.m2_node.specs.Sharing.{ShareNow}
use Rattle.m2_node.specs.Working.{AreGrouped, IsGroup, WorkerNow, center_of}
use Rattle.m2_node.proofs.Dispatched.{dispatched_then, heard_for_both}
use Rattle.m2_node.proofs.Merging.{merge_more}
use Rattle.m2_node.proofs.Places.{drop_here, get_drop}
use Rattle.m2_node.proofs.Posting.{none_grouped}
use Rattle.m2_node.proofs.Workers.{first_group}

-- what is left in the mail is dispatched, and then what waited
pub sender_closed : (mail : Mail) (s : SenderNow) (g : GetPass Parcel Ids) (old mid new : DispatcherNow) → IsSending mail s → HasEmptied (puts_of s.put) (taken_of g) old mid → HasDispatched s.waiting mid new →
    ClosesSender (taken_by g) (handed_by s.worker.center) old new
sender_closed mail s g old mid new sends e d =
    let own : taken_of g ++ e.left ≡ sends.own = one_list sends.own (taken_of g ++ e.left) (subst (λ (ps : List (List Parcel)). IsMerge Parcel ps (taken_of g ++ e.left)) sends.puts e.whole) in
    let both = dispatched_then e.left s.waiting old mid new e.dispatched d in
    record {
      throttles = both.throttles;
      lasted = both.lasted;
      more = heard_for_all (e.left ++ s.waiting);
      whole = sends.handed ∙ ap (λ (ps : List Parcel). heard_for_all (ps ++ s.waiting)) (sym own) ∙ ap heard_for_all (append_assoc (taken_of g) e.left s.waiting)
          ∙ heard_for_both (taken_of g) (e.left ++ s.waiting);
      heard = both.heard;
    }

-- ---- one after another

-- where all before are closed, and of the others what was taken is dispatched, one more is closed
pub one_closed : (before : List (List Heard)) (g : GetPass Parcel Ids) (gets : List (GetPass Parcel Ids)) (handed : List Heard) (old new : DispatcherNow) → ClosesSender (taken_by g) handed old new →
    (old.lost ≡ false → IsMerge Heard (before ++ taken_by g ∷ map taken_by gets) (heard_by old.log)) → new.lost ≡ false →
    IsMerge Heard ((before ++ handed ∷ []) ++ map taken_by gets) (heard_by new.log)
one_closed before g gets handed old new c were lasted =
    let more = merge_more before (taken_by g) (map taken_by gets) (heard_by old.log) c.more (were (c.lasted lasted)) in
    subst (λ (hs : List Heard). IsMerge Heard ((before ++ handed ∷ []) ++ map taken_by gets) hs) (sym (c.heard lasted))
    (subst (λ (ls : List (List Heard)). IsMerge Heard ls (heard_by old.log ++ c.more))
    (ap (λ (l : List Heard). before ++ l ∷ map taken_by gets) (sym c.whole) ∙ sym (append_assoc before (handed ∷ []) (map taken_by gets))) more)

-- those to which a dispatcher's thread has the rights, where there are as many
pub closable : (throttles : Throttles) (gets : List (GetPass Parcel Ids)) (mails : List Mail) (senders : List SenderNow) → SideBySide IsSending mails senders → length gets ≤ length senders →
    ((j : ℕ) (m : Mail) (g : GetPass Parcel Ids) → slice_get mails j ≡ Some m → slice_get gets j ≡ Some g → IsGetPassOf m g × (throttles_of m ≡ throttles)) → AreClosable throttles gets mails senders
closable throttles [] mails senders sending few ours = tt
closable throttles (g ∷ gets) mails [] sending few ours = absurd (omega (arith, few))
closable throttles (g ∷ gets) [] (s ∷ senders) sending few ours = absurd sending
closable throttles (g ∷ gets) (m ∷ mails) (s ∷ senders) sending few ours =
    let its = ours 0 m g refl refl in
    ((its.0, its.1, sending.0), closable throttles gets mails senders sending.1 (omega (arith, few)) (λ j n h p q. ours (suc j) n h p q))

-- what these threads' centers have handed on
abbrev pub handed_in : List SenderNow → List (List Heard)
handed_in senders = map handed_by (map center_of (map worker_of senders))

handed_both : (xs ys : List SenderNow) → handed_in (xs ++ ys) ≡ handed_in xs ++ handed_in ys
handed_both xs ys =
    ap (λ (ws : List WorkerNow). map handed_by (map center_of ws)) (map-append worker_of xs ys)
    ∙ ap (λ (cs : List (CenterNow (List Logged))). map handed_by cs) (map-append center_of (map worker_of xs) (map worker_of ys))
    ∙ map-append handed_by (map center_of (map worker_of xs)) (map center_of (map worker_of ys))

-- Some mails are closed, whose threads are gone; the others are closable.
pub record ClosedSoFar (gets_all gets : List (GetPass Parcel Ids)) (mails_all mails : List Mail) (senders_all senders : List SenderNow) (workers_old workers : List WorkerNow) (old new : DispatcherNow) : Type 0 where
  pub gone : List SenderNow
  pub workers_are : workers ≡ workers_old ++ map worker_of gone
  pub senders_are : gone ++ take (length gets) senders ≡ take (length gets_all) senders_all
  pub senders_left : drop (length gets) senders ≡ drop (length gets_all) senders_all
  pub mails_left : drop (length gets) mails ≡ drop (length gets_all) mails_all
  pub closable_still : AreClosable old.throttles gets mails senders
  pub throttles : new.throttles ≡ old.throttles
  pub lasted : new.lost ≡ false → old.lost ≡ false
  pub merged : (old.lost ≡ false → IsMerge Heard (map taken_by gets_all) (heard_by old.log)) → new.lost ≡ false → IsMerge Heard (handed_in gone ++ map taken_by gets) (heard_by new.log)

pub none_closed : (gets : List (GetPass Parcel Ids)) (mails : List Mail) (senders : List SenderNow) (workers : List WorkerNow) (d : DispatcherNow) → AreClosable d.throttles gets mails senders →
    ClosedSoFar gets gets mails mails senders senders workers workers d d
none_closed gets mails senders workers d can = record {
  gone = [];
  workers_are = sym (append-nil workers);
  senders_are = refl;
  senders_left = refl;
  mails_left = refl;
  closable_still = can;
  throttles = refl;
  lasted = λ e. e;
  merged = λ were lasted. were lasted;
}

module _ (gets_all gets gets_new : List (GetPass Parcel Ids)) (mails_all mails mails_new : List Mail) (senders_all senders senders_new : List SenderNow) (workers_old workers : List WorkerNow)
    (old mid : DispatcherNow) (g : GetPass Parcel Ids) (m : Mail) (s : SenderNow) (first_get : gets ≡ g ∷ gets_new) (first_mail : mails ≡ m ∷ mails_new) (first_sender : senders ≡ s ∷ senders_new)
    (c : ClosedSoFar gets_all gets mails_all mails senders_all senders workers_old workers old mid) where
  so_far : ClosedSoFar gets_all (g ∷ gets_new) mails_all (m ∷ mails_new) senders_all (s ∷ senders_new) workers_old workers old mid
  so_far =
      subst (λ (ss : List SenderNow). ClosedSoFar gets_all (g ∷ gets_new) mails_all (m ∷ mails_new) senders_all ss workers_old workers old mid) first_sender
      (subst (λ (ms : List Mail). ClosedSoFar gets_all (g ∷ gets_new) mails_all ms senders_all senders workers_old workers old mid) first_mail
      (subst (λ (gs : List (GetPass Parcel Ids)). ClosedSoFar gets_all gs mails_all mails senders_all senders workers_old workers old mid) first_get c))

  -- the next one
  pub next_closable : IsGetPassOf m g × (throttles_of m ≡ old.throttles) × IsSending m s
  next_closable = so_far.closable_still.0

  pub one_more_closed : (workers_new : List WorkerNow) (new : DispatcherNow) → workers_new ≡ workers ++ s.worker ∷ [] → ClosesSender (taken_by g) (handed_by s.worker.center) mid new →
      ClosedSoFar gets_all gets_new mails_all mails_new senders_all senders_new workers_old workers_new old new
  one_more_closed workers_new new last closes = record {
    gone = so_far.gone ++ s ∷ [];
    workers_are = last ∙ ap (λ (ws : List WorkerNow). ws ++ s.worker ∷ []) so_far.workers_are ∙ append_assoc workers_old (map worker_of so_far.gone) (s.worker ∷ [])
        ∙ ap (λ (ws : List WorkerNow). workers_old ++ ws) (sym (map-append worker_of so_far.gone (s ∷ [])));
    senders_are = append_assoc so_far.gone (s ∷ []) (take (length gets_new) senders_new) ∙ so_far.senders_are;
    senders_left = so_far.senders_left;
    mails_left = so_far.mails_left;
    closable_still = so_far.closable_still.1;
    throttles = closes.throttles ∙ so_far.throttles;
    lasted = λ lasted. so_far.lasted (closes.lasted lasted);
    merged = λ were lasted.
        subst (λ (ls : List (List Heard)). IsMerge Heard (ls ++ map taken_by gets_new) (heard_by new.log)) (sym (handed_both so_far.gone (s ∷ [])))
        (one_closed (handed_in so_far.gone) g gets_new (handed_by s.worker.center) mid new closes (so_far.merged were) lasted);
  }

-- all of them are closed
pub record AllClosed (gets : List (GetPass Parcel Ids)) (mails_old mails : List Mail) (senders_old senders : List SenderNow) (workers_old workers : List WorkerNow) (old new : DispatcherNow) : Type 0 where
  pub workers_are : workers ≡ workers_old ++ map worker_of (take (length gets) senders_old)
  pub senders_left : senders ≡ drop (length gets) senders_old
  pub mails_left : mails ≡ drop (length gets) mails_old
  pub closes : new.lost ≡ false → ClosesAll gets (take (length gets) senders_old) old new

pub all_closed : (gets_all gets : List (GetPass Parcel Ids)) (mails_all mails : List Mail) (senders_all senders : List SenderNow) (workers_old workers : List WorkerNow) (old new : DispatcherNow) →
    gets ≡ [] → ClosedSoFar gets_all gets mails_all mails senders_all senders workers_old workers old new → AllClosed gets_all mails_all mails senders_all senders workers_old workers old new
all_closed gets_all gets mails_all mails senders_all senders workers_old workers old new none so_far =
    let c : ClosedSoFar gets_all [] mails_all mails senders_all senders workers_old workers old new =
    subst (λ (gs : List (GetPass Parcel Ids)). ClosedSoFar gets_all gs mails_all mails senders_all senders workers_old workers old new) none so_far in
    let gone : c.gone ≡ take (length gets_all) senders_all = sym (append-nil c.gone) ∙ c.senders_are in
    record {
      workers_are = c.workers_are ∙ ap (λ (ss : List SenderNow). workers_old ++ map worker_of ss) gone;
      senders_left = c.senders_left;
      mails_left = c.mails_left;
      closes = λ lasted. record {
        throttles = c.throttles;
        lasted = lasted;
        handed = λ were.
            subst (λ (ls : List (List Heard)). IsMerge Heard ls (heard_by new.log)) (append-nil (handed_in c.gone) ∙ ap handed_in gone) (c.merged were lasted);
      };
    }

side_drop : (n : ℕ) (mails : List Mail) (senders : List SenderNow) → SideBySide IsSending mails senders → SideBySide IsSending (drop n mails) (drop n senders)
side_drop zero mails senders all = all
side_drop (suc n) [] [] all = tt
side_drop (suc n) [] (s ∷ senders) all = absurd all
side_drop (suc n) (m ∷ mails) [] all = absurd all
side_drop (suc n) (m ∷ mails) (s ∷ senders) all = side_drop n mails senders all.1

-- ---- node by node

-- where the threads of the first nodes are closed, those of the others are as they were
pub record ServersClosed (nodes : List Node) (shares : List ShareNow) (k : ℕ) (mails_all mails : List Mail) (senders_all senders : List SenderNow) (servers : List ServingNow) (workers : List WorkerNow)
    (dispatchers : List DispatcherNow) : Type 0 where
  pub first : ℕ
  pub mails_left : mails ≡ drop first mails_all
  pub servers_are : AreServersOf first (drop k nodes) (drop k shares) servers
  pub serving : AllByRecursion (IsServing mails_all) servers
  pub sending : SideBySide IsSending mails senders
  pub groups : AreGrouped (drop k nodes) (drop k shares) (map worker_of senders)
  pub workers_are : workers ++ map worker_of senders ≡ map worker_of senders_all
  pub dispatched_then : (ws : List WorkerNow) (ds : List DispatcherNow) → AreDispatched (drop k nodes) (drop k shares) ws ds → AreDispatched nodes shares (workers ++ ws) (dispatchers ++ ds)

pub no_servers_closed : (nodes : List Node) (shares : List ShareNow) (mails : List Mail) (senders : List SenderNow) (servers : List ServingNow) (workers : List WorkerNow) (dispatchers : List DispatcherNow) →
    workers ≡ [] → dispatchers ≡ [] → AreGrouped nodes shares (map worker_of senders) →
    ArePosts nodes shares (map worker_of senders) (record { senders = senders; servers = servers; mails = mails }) → ServersClosed nodes shares 0 mails mails senders senders servers workers dispatchers
no_servers_closed nodes shares mails senders servers workers dispatchers no_workers no_dispatchers groups posts = record {
  first = 0;
  mails_left = refl;
  servers_are = posts.servers_are;
  serving = posts.serving;
  sending = posts.sending;
  groups = groups;
  workers_are = ap (λ (ws : List WorkerNow). ws ++ map worker_of senders) no_workers;
  dispatched_then = λ ws ds are.
      subst (λ (vs : List WorkerNow). AreDispatched nodes shares (vs ++ ws) (dispatchers ++ ds)) (sym no_workers)
      (subst (λ (es : List DispatcherNow). AreDispatched nodes shares ws (es ++ ds)) (sym no_dispatchers) are);
}

module _ (nodes : List Node) (shares : List ShareNow) (k : ℕ) (mails_all mails : List Mail) (senders_all senders : List SenderNow) (servers servers_new : List ServingNow) (workers : List WorkerNow)
    (dispatchers : List DispatcherNow) (x : Node) (s : ShareNow) (v : ServingNow) (here : slice_get nodes k ≡ Some x) (there : slice_get shares k ≡ Some s) (first_server : servers ≡ v ∷ servers_new)
    (c : ServersClosed nodes shares k mails_all mails senders_all senders servers workers dispatchers) where
  server_here : IsServerOf c.first x s v × AreServersOf (c.first + x.centers) (drop (k + 1) nodes) (drop (k + 1) shares) servers_new
  server_here =
      subst (λ (vs : List ServingNow). AreServersOf c.first (x ∷ drop (k + 1) nodes) (s ∷ drop (k + 1) shares) vs) first_server
      (subst (λ (ss : List ShareNow). AreServersOf c.first (x ∷ drop (k + 1) nodes) ss servers) (drop_here shares k s there)
      (subst (λ (xs : List Node). AreServersOf c.first xs (drop k shares) servers) (drop_here nodes k x here) c.servers_are))

  serving_here : IsServing mails_all v × AllByRecursion (IsServing mails_all) servers_new
  serving_here = subst (AllByRecursion (IsServing mails_all)) first_server c.serving

  group_here : IsGroup x s (take x.centers (map worker_of senders)) × AreGrouped (drop (k + 1) nodes) (drop (k + 1) shares) (drop x.centers (map worker_of senders))
  group_here = first_group nodes shares (map worker_of senders) k x s here there c.groups

  pub count : length v.gets ≡ x.centers
  count = server_here.0.count

  pub enough : length v.gets ≤ length senders
  enough = omega (arith, count, group_here.0.count, length-take x.centers (map worker_of senders), length-map senders worker_of)

  pub server_closable : AreClosable v.dispatcher.throttles v.gets mails senders
  server_closable =
      closable v.dispatcher.throttles v.gets mails senders c.sending enough
      (λ j m g p q. serving_here.0.ours j m g
      (ap (λ (n : ℕ). slice_get mails_all (n + j)) server_here.0.first_is ∙ sym (get_drop mails_all c.first j) ∙ ap (λ (ms : List Mail). slice_get ms j) (sym c.mails_left) ∙ p) q)

  pub server_merged : v.dispatcher.lost ≡ false → IsMerge Heard (map taken_by v.gets) (heard_by v.dispatcher.log)
  server_merged = serving_here.0.merged

  module _ (mails_new : List Mail) (senders_new : List SenderNow) (workers_new : List WorkerNow) (dispatchers_new : List DispatcherNow) (d : DispatcherNow) (shared : AreShared s.throttles)
      (at : d.throttles ≡ v.dispatcher.throttles) (handed : AreHanded (map center_of (map worker_of (take (length v.gets) senders))) (heard_by d.log))
      (mails_left : mails_new ≡ drop (length v.gets) mails) (senders_left : senders_new ≡ drop (length v.gets) senders)
      (workers_last : workers_new ≡ workers ++ map worker_of (take (length v.gets) senders)) (dispatcher_last : dispatchers_new ≡ dispatchers ++ d ∷ []) where
    abbrev its : List WorkerNow
    its = map worker_of (take (length v.gets) senders)

    as_many : length its ≡ x.centers
    as_many = omega (arith, count, enough, length-map (take (length v.gets) senders) worker_of, length-take (length v.gets) senders)

    those_left : map worker_of senders_new ≡ drop x.centers (map worker_of senders)
    those_left = ap (map worker_of) senders_left ∙ sym (drop-map worker_of (length v.gets) senders) ∙ ap (λ (n : ℕ). drop n (map worker_of senders)) count

    dispatched : IsDispatched s.throttles (map center_of its) d
    dispatched = record { at = at ∙ server_here.0.throttles; shared = shared; handed = λ lasted. handed }

    dispatched_on : (ws : List WorkerNow) (ds : List DispatcherNow) → AreDispatched (drop (k + 1) nodes) (drop (k + 1) shares) ws ds → AreDispatched (drop k nodes) (drop k shares) (its ++ ws) (d ∷ ds)
    dispatched_on ws ds are =
        subst (λ (xs : List Node). AreDispatched xs (drop k shares) (its ++ ws) (d ∷ ds)) (sym (drop_here nodes k x here))
        (subst (λ (ss : List ShareNow). AreDispatched (x ∷ drop (k + 1) nodes) ss (its ++ ws) (d ∷ ds)) (sym (drop_here shares k s there)) (
          subst (λ (vs : List WorkerNow). IsDispatched s.throttles (map center_of vs) d) (sym (take_at its ws x.centers as_many)) dispatched,
          subst (λ (vs : List WorkerNow). AreDispatched (drop (k + 1) nodes) (drop (k + 1) shares) vs ds) (sym (drop_at its ws x.centers as_many)) are,
        ))

    pub one_more_server : ServersClosed nodes shares (k + 1) mails_all mails_new senders_all senders_new servers_new workers_new dispatchers_new
    one_more_server = record {
      first = c.first + x.centers;
      mails_left = mails_left ∙ ap (drop (length v.gets)) c.mails_left ∙ drop-drop (length v.gets) c.first mails_all ∙ ap (λ (n : ℕ). drop (c.first + n) mails_all) count;
      servers_are = server_here.1;
      serving = serving_here.1;
      sending = subst (λ (ms : List Mail). SideBySide IsSending ms senders_new) (sym mails_left)
          (subst (λ (ss : List SenderNow). SideBySide IsSending (drop (length v.gets) mails) ss) (sym senders_left) (side_drop (length v.gets) mails senders c.sending));
      groups = subst (AreGrouped (drop (k + 1) nodes) (drop (k + 1) shares)) (sym those_left) group_here.1;
      workers_are =
          ap (λ (ws : List WorkerNow). ws ++ map worker_of senders_new) workers_last
          ∙ append_assoc workers its (map worker_of senders_new)
          ∙ ap (λ (ss : List SenderNow). workers ++ (its ++ map worker_of ss)) senders_left
          ∙ ap (λ (ws : List WorkerNow). workers ++ ws) (sym (map-append worker_of (take (length v.gets) senders) (drop (length v.gets) senders)))
          ∙ ap (λ (ss : List SenderNow). workers ++ map worker_of ss) (take-append-drop (length v.gets) senders)
          ∙ c.workers_are;
      dispatched_then = λ ws ds are.
          subst (λ (vs : List WorkerNow). AreDispatched nodes shares vs (dispatchers_new ++ ds)) (sym (append_assoc workers its ws) ∙ ap (λ (vs : List WorkerNow). vs ++ ws) (sym workers_last))
          (subst (λ (es : List DispatcherNow). AreDispatched nodes shares (workers ++ (its ++ ws)) es)
          (sym (append_assoc dispatchers (d ∷ []) ds) ∙ ap (λ (es : List DispatcherNow). es ++ ds) (sym dispatcher_last)) (c.dispatched_then (its ++ ws) (d ∷ ds) (dispatched_on ws ds are)));
    }

-- those of all nodes
pub all_servers_closed : (nodes : List Node) (shares : List ShareNow) (k : ℕ) (mails_all mails : List Mail) (senders_all senders : List SenderNow) (servers : List ServingNow) (workers : List WorkerNow)
    (dispatchers : List DispatcherNow) → min (length nodes) (length shares) ≤ k → ServersClosed nodes shares k mails_all mails senders_all senders servers workers dispatchers →
    (workers ≡ map worker_of senders_all) × AreDispatched nodes shares workers dispatchers
all_servers_closed nodes shares k mails_all mails senders_all senders servers workers dispatchers most c =
    let none = none_grouped (drop k nodes) (drop k shares) (map worker_of senders) (omega (arith, most, length-drop k nodes, length-drop k shares)) c.groups in (
      sym (append-nil workers) ∙ ap (λ (ws : List WorkerNow). workers ++ ws) (sym none.1) ∙ c.workers_are,
      subst (λ (ws : List WorkerNow). AreDispatched nodes shares ws dispatchers) (append-nil workers)
          (subst (AreDispatched nodes shares (workers ++ [])) (append-nil dispatchers)
          (c.dispatched_then [] [] (subst (λ (xs : List Node). AreDispatched xs (drop k shares) [] []) (sym none.0) refl))),
    )

-- ---- threads that have worked

servers_still : (first : ℕ) (nodes : List Node) (shares : List ShareNow) (old new : List ServingNow) → OneByOne Serves old new → AreServersOf first nodes shares old → AreServersOf first nodes shares new
servers_still first [] shares [] [] all are = refl
servers_still first [] shares [] (w ∷ new) all are = absurd all
servers_still first [] shares (v ∷ old) new all are = absurd (omega (arith, ap length are))
servers_still first (x ∷ nodes) [] old new all are = absurd are
servers_still first (x ∷ nodes) (s ∷ shares) [] new all are = absurd are
servers_still first (x ∷ nodes) (s ∷ shares) (v ∷ old) [] all are = absurd all
servers_still first (x ∷ nodes) (s ∷ shares) (v ∷ old) (w ∷ new) all are = (
  record { count = all.0.count ∙ are.0.count; first_is = all.0.first ∙ are.0.first_is; throttles = all.0.throttles ∙ are.0.throttles; started = all.0.started ∙ are.0.started },
  servers_still (first + x.centers) nodes shares old new all.1 are.1,
)

-- they are still those of the nodes
pub posts_still : (nodes : List Node) (shares : List ShareNow) (workers : List WorkerNow) (old new : PostsNow) → ArePosts nodes shares workers old → SideBySide IsSending new.mails new.senders →
    AllByRecursion (IsServing new.mails) new.servers → OneByOne Serves old.servers new.servers → ArePosts nodes shares (map worker_of new.senders) new
posts_still nodes shares workers old new posts sending serving serves = record {
  workers_are = refl;
  sending = sending;
  servers_are = servers_still 0 nodes shares old.servers new.servers serves posts.servers_are;
  serving = serving;
}
