-- Mails and dispatchers are made for event threads, node by node.
use Rattle.std.proofs.Common.{◌≡◌, ℕ, zero, suc, ◌+◌, ◌-◌, ◌<◌, ◌≤◌, min, Bool, false, List, [], ◌∷◌, ◌++◌, length, map, take, drop, Some, refl, sym, ap, subst, ◌∙◌, arith, append_assoc, append-nil, drop_of_length-le, take-append-drop}
use Rattle.std.specs.Prelude.{slice_get, sum_by}
use Rattle.std.specs.List.{AllByRecursion}
use Rattle.std.proofs.lemmas.List.{drop_at, length-append, length-map, map-append}
use Rattle.std.proofs.lemmas.List.Elements.{All-from_recursion}
use Rattle.std.proofs.lemmas.List.Sums.{sum_by-cons}
use Rattle.std.proofs.lemmas.Option.{slice_get_within}
use Rattle.m2_bytes.proofs.m2_lemmas.Lists.{all_drop, all_last, all_so}
use Rattle.m2_dispatch.specs.Heard.{Heard, heard_by}
use Rattle.m2_dispatch.specs.Parcel.{heard_for_all}
use Rattle.m2_dispatch.specs.declared.parcel.Parcel.{Parcel}
use Rattle.m2_dispatch.specs.m2_shared.Gates.{ArePassesOf, AreShared}
use Rattle.m2_dispatch.specs.m2_shared.declared.throttles.TakePasses.{TakePasses}
use Rattle.m2_dispatch.specs.m2_shared.declared.throttles.Throttles.{Throttles}
use Rattle.m2_dispatch.specs.m2_shared.declared.ids.Ids.{Ids}
use Rattle.m2_mailbox.specs.Merge.{IsMerge, IsSublist}
use Rattle.m2_mailbox.specs.Passes.{IsGetPassOf, taken_of}
use Rattle.m2_mailbox.specs.declared.passes.GetPass.{GetPass}
use Rattle.m2_mailbox.specs.declared.passes.PutPass.{PutPass}
use Rattle.m2_scenario.specs.declared.node.Node.{Node}
use Rattle.m2_node.specs.Dispatching.{IsNewMail, IsServing, Mail, ServingNow, taken_by, throttles_of}
use Rattle.m2_node.specs.Handing.{HasHandedNothing, IsSending, SenderNow, worker_of}
use Rattle.m2_node.specs.Lists.{SideBySide}
use Rattle.m2_node.specs.Posts.{AddsPosts, ArePosts, AreServersOf, PostsNow}
use Rattle.m2_node.specs.Sharing.{AreRights, ShareNow}
use Rattle.m2_node.specs.Watching.{new_watch}
use Rattle.m2_node.specs.Working.{AreGrouped, IsGroup, WorkerNow}
use Rattle.m2_node.proofs.Beside.{side_both, side_get, side_last, side_length}
use Rattle.m2_node.proofs.Places.{drop_here, get_before, get_drop}
use Rattle.m2_node.proofs.Workers.{first_group}

-- ---- the threads of one node

-- a mail for what these throttles have granted for, and the right to take out of it, by which nothing was taken
pub record IsUntaken (throttles : Throttles) (m : Mail) (g : GetPass Parcel Ids) : Type 0 where
  pub gets : IsGetPassOf m g
  pub owner : throttles_of m ≡ throttles
  pub nothing : taken_of g ≡ []

-- what is made of a node's workers, where so many are left: threads that have handed on nothing, each with its mail
pub record AddedSoFar (s : ShareNow) (left : ℕ) (senders_old : List SenderNow) (mails_old : List Mail) (senders : List SenderNow) (mails : List Mail) (gets : List (GetPass Parcel Ids)) (ws all others : List WorkerNow) : Type 0 where
  pub added : List SenderNow
  pub fresh : List Mail
  pub senders_are : senders ≡ senders_old ++ added
  pub mails_are : mails ≡ mails_old ++ fresh
  pub so_far : map worker_of added ++ take left ws ≡ all
  pub behind : drop left ws ≡ others
  pub sending : SideBySide IsSending fresh added
  pub untaken : SideBySide (IsUntaken s.throttles) fresh gets
  pub throttles : AllByRecursion (λ (w : WorkerNow). w.throttles ≡ s.throttles) (take left ws)
  pub nothing : AllByRecursion HasHandedNothing (take left ws)

pub none_added : (x : Node) (s : ShareNow) (senders_old : List SenderNow) (mails_old : List Mail) (senders : List SenderNow) (mails : List Mail) (gets : List (GetPass Parcel Ids)) (ws : List WorkerNow) →
    senders ≡ senders_old → mails ≡ mails_old → gets ≡ [] → IsGroup x s (take x.centers ws) → AllByRecursion HasHandedNothing (take x.centers ws) →
    AddedSoFar s x.centers senders_old mails_old senders mails gets ws (take x.centers ws) (drop x.centers ws)
none_added x s senders_old mails_old senders mails gets ws same_senders same_mails none group nothing = record {
  added = [];
  fresh = [];
  senders_are = same_senders ∙ sym (append-nil senders_old);
  mails_are = same_mails ∙ sym (append-nil mails_old);
  so_far = refl;
  behind = refl;
  sending = tt;
  untaken = subst (λ (gs : List (GetPass Parcel Ids)). SideBySide (IsUntaken s.throttles) [] gs) (sym none) tt;
  throttles = group.throttles;
  nothing = nothing;
}

-- a worker that has handed on nothing sends with a new mail
begins_to_send : (s : ShareNow) (w : WorkerNow) (m : Mail) (put : PutPass Parcel Ids) (g : GetPass Parcel Ids) (waiting : List Parcel) → AreShared s.throttles → w.throttles ≡ s.throttles →
    HasHandedNothing w → IsNewMail s.throttles m put g → waiting ≡ [] → IsSending m (record { worker = w; put = put; waiting = waiting })
begins_to_send s w m put g waiting shared throttles nothing n none = record {
  owner = n.owner ∙ sym throttles;
  shared = subst AreShared (sym throttles) shared;
  ours = n.puts;
  whole = n.whole;
  room = n.room;
  own = [];
  puts = n.nothing_put;
  handed = ap heard_by nothing ∙ ap heard_for_all (sym none);
}

pub one_more_added : (s : ShareNow) (left : ℕ) (senders_old : List SenderNow) (mails_old : List Mail) (senders senders_new : List SenderNow) (mails mails_new : List Mail)
    (gets gets_new : List (GetPass Parcel Ids)) (ws rest all others : List WorkerNow) (w : WorkerNow) (m : Mail) (put : PutPass Parcel Ids) (g : GetPass Parcel Ids) (waiting : List Parcel) →
    AreShared s.throttles → AddedSoFar s (suc left) senders_old mails_old senders mails gets ws all others → ws ≡ w ∷ rest →
    senders_new ≡ senders ++ record { worker = w; put = put; waiting = waiting } ∷ [] → mails_new ≡ mails ++ m ∷ [] → gets_new ≡ gets ++ g ∷ [] → IsNewMail s.throttles m put g → waiting ≡ [] →
    AddedSoFar s left senders_old mails_old senders_new mails_new gets_new rest all others
one_more_added s left senders_old mails_old senders senders_new mails mails_new gets gets_new ws rest all others w m put g waiting shared so_far first sender_last mail_last get_last n none =
    let a : AddedSoFar s (suc left) senders_old mails_old senders mails gets (w ∷ rest) all others =
    subst (λ (vs : List WorkerNow). AddedSoFar s (suc left) senders_old mails_old senders mails gets vs all others) first so_far in
    let it : SenderNow = record { worker = w; put = put; waiting = waiting } in
    let sends : IsSending m it = begins_to_send s w m put g waiting shared a.throttles.0 a.nothing.0 n none in
    record {
      added = a.added ++ it ∷ [];
      fresh = a.fresh ++ m ∷ [];
      senders_are = sender_last ∙ ap (λ (ss : List SenderNow). ss ++ it ∷ []) a.senders_are ∙ append_assoc senders_old a.added (it ∷ []);
      mails_are = mail_last ∙ ap (λ (ms : List Mail). ms ++ m ∷ []) a.mails_are ∙ append_assoc mails_old a.fresh (m ∷ []);
      so_far = ap (λ (vs : List WorkerNow). vs ++ take left rest) (map-append worker_of a.added (it ∷ [])) ∙ append_assoc (map worker_of a.added) (w ∷ []) (take left rest) ∙ a.so_far;
      behind = a.behind;
      sending = side_last IsSending a.fresh a.added m it a.sending sends;
      untaken = subst (λ (gs : List (GetPass Parcel Ids)). SideBySide (IsUntaken s.throttles) (a.fresh ++ m ∷ []) gs) (sym get_last)
          (side_last (IsUntaken s.throttles) a.fresh gets m g a.untaken (record { gets = n.gets; owner = n.owner; nothing = n.nothing_taken }));
      throttles = a.throttles.1;
      nothing = a.nothing.1;
    }

-- the same, by how many of the node's threads came before it
pub next_added : (s : ShareNow) (most n : ℕ) (senders_old : List SenderNow) (mails_old : List Mail) (senders senders_new : List SenderNow) (mails mails_new : List Mail)
    (gets gets_new : List (GetPass Parcel Ids)) (ws rest all others : List WorkerNow) (w : WorkerNow) (m : Mail) (put : PutPass Parcel Ids) (g : GetPass Parcel Ids) (waiting : List Parcel) →
    n < most → AreShared s.throttles → AddedSoFar s (most - n) senders_old mails_old senders mails gets ws all others → ws ≡ w ∷ rest →
    senders_new ≡ senders ++ record { worker = w; put = put; waiting = waiting } ∷ [] → mails_new ≡ mails ++ m ∷ [] → gets_new ≡ gets ++ g ∷ [] → IsNewMail s.throttles m put g → waiting ≡ [] →
    AddedSoFar s (most - (n + 1)) senders_old mails_old senders_new mails_new gets_new rest all others
next_added s most n senders_old mails_old senders senders_new mails mails_new gets gets_new ws rest all others w m put g waiting less shared so_far first sender_last mail_last get_last new none =
    let next : most - n ≡ suc (most - (n + 1)) = omega (arith, less) in
    one_more_added s (most - (n + 1)) senders_old mails_old senders senders_new mails mails_new gets gets_new ws rest all others w m put g waiting shared
    (subst (λ (k : ℕ). AddedSoFar s k senders_old mails_old senders mails gets ws all others) next so_far) first sender_last mail_last get_last new none

-- a list of which nothing is
side_right : {X Y : Type 0} (how : X → Y → Type 0) (P : Y → Type 0) (xs : List X) (ys : List Y) → ((x : X) (y : Y) → how x y → P y) → SideBySide how xs ys → AllByRecursion P ys
side_right how P [] [] so all = tt
side_right how P [] (y ∷ ys) so all = absurd all
side_right how P (x ∷ xs) [] so all = absurd all
side_right how P (x ∷ xs) (y ∷ ys) so all = (so x y all.0, side_right how P xs ys so all.1)

abbrev IsUnused : GetPass Parcel Ids → Type 0
IsUnused g = taken_of g ≡ []

nothing_weighs : (weight : Heard → ℕ) (gets : List (GetPass Parcel Ids)) → AllByRecursion IsUnused gets → sum_by (sum_by weight) (map taken_by gets) ≡ 0
nothing_weighs weight [] all = refl
nothing_weighs weight (g ∷ gets) all =
    let none : sum_by weight (taken_by g) ≡ 0 = ap (λ (ps : List Parcel). sum_by weight (heard_for_all ps)) all.0 in
    omega (arith, sum_by-cons (sum_by weight) (taken_by g) (map taken_by gets), none, nothing_weighs weight gets all.1)

nothing_stands : (gets : List (GetPass Parcel Ids)) → AllByRecursion IsUnused gets → AllByRecursion (λ (l : List Heard). IsSublist l []) (map taken_by gets)
nothing_stands [] all = tt
nothing_stands (g ∷ gets) all = (ap heard_for_all all.0, nothing_stands gets all.1)

nothing_merged : (gets : List (GetPass Parcel Ids)) → AllByRecursion IsUnused gets → IsMerge Heard (map taken_by gets) []
nothing_merged gets all = record {
  weighs = λ weight. nothing_weighs weight gets all;
  in_order = All-from_recursion (λ (l : List Heard). IsSublist l []) (map taken_by gets) (nothing_stands gets all);
}

-- what stands behind a list
behind_all : {X : Type 0} (xs ys : List X) (j : ℕ) → slice_get (xs ++ ys) (length xs + j) ≡ slice_get ys j
behind_all xs ys j = sym (get_drop (xs ++ ys) (length xs) j) ∙ ap (λ (zs : List _). slice_get zs j) (drop_at xs ys (length xs) refl)

-- the dispatcher's thread of a node, before it takes anything
abbrev new_server : ShareNow → (started : Bool) → (first : ℕ) → List (GetPass Parcel Ids) → ServingNow
new_server s started first gets = record {
  dispatcher = record { throttles = s.throttles; log = []; lost = false };
  gets = gets;
  first = first;
  started = started;
  watch = new_watch;
}

serves_fresh : (s : ShareNow) (started : Bool) (mails_old fresh : List Mail) (gets : List (GetPass Parcel Ids)) → SideBySide (IsUntaken s.throttles) fresh gets →
    IsServing (mails_old ++ fresh) (new_server s started (length mails_old) gets)
serves_fresh s started mails_old fresh gets untaken = record {
  ours = λ j m g p q.
      let u = side_get (IsUntaken s.throttles) fresh gets untaken j m g (sym (behind_all mails_old fresh j) ∙ p) q in
      (u.gets, u.owner);
  merged = λ lasted. nothing_merged gets (side_right (IsUntaken s.throttles) IsUnused fresh gets (λ m g u. u.nothing) untaken);
}

pub all_added : (x : Node) (s : ShareNow) (most n : ℕ) (old : PostsNow) (senders : List SenderNow) (mails : List Mail) (gets : List (GetPass Parcel Ids)) (servers : List ServingNow)
    (ws all others : List WorkerNow) → most ≤ n → IsGroup x s all → AddedSoFar s (most - n) old.senders old.mails senders mails gets ws all others →
    servers ≡ old.servers ++ new_server s x.started (length old.mails) gets ∷ [] → AddsPosts x s all old (record { senders = senders; servers = servers; mails = mails })
all_added x s most n old senders mails gets servers ws all others behind group so_far server_last =
    let none : most - n ≡ zero = omega (arith, behind) in
    let a : AddedSoFar s zero old.senders old.mails senders mails gets ws all others =
    subst (λ (k : ℕ). AddedSoFar s k old.senders old.mails senders mails gets ws all others) none so_far in
    let workers_are : map worker_of a.added ≡ all = sym (append-nil (map worker_of a.added)) ∙ a.so_far in
    let v = new_server s x.started (length old.mails) gets in
    record {
      senders = a.added;
      server = v;
      mails = a.fresh;
      senders_last = a.senders_are;
      server_last = server_last;
      mails_last = a.mails_are;
      workers_are = workers_are;
      sending = a.sending;
      server_is = record {
        count = omega (arith, side_length (IsUntaken s.throttles) a.fresh gets a.untaken, side_length IsSending a.fresh a.added a.sending, length-map a.added worker_of, ap length workers_are, group.count);
        first_is = refl;
        throttles = refl;
        started = refl;
      };
      serving = subst (λ (ms : List Mail). IsServing ms v) (sym a.mails_are) (serves_fresh s x.started old.mails a.fresh gets a.untaken);
      lasted = refl;
    }

-- all workers of the node are taken
pub others_behind : (s : ShareNow) (most n : ℕ) (senders_old : List SenderNow) (mails_old : List Mail) (senders : List SenderNow) (mails : List Mail) (gets : List (GetPass Parcel Ids))
    (ws all others : List WorkerNow) → most ≤ n → AddedSoFar s (most - n) senders_old mails_old senders mails gets ws all others → ws ≡ others
others_behind s most n senders_old mails_old senders mails gets ws all others behind so_far =
    let none : most - n ≡ zero = omega (arith, behind) in
    let a : AddedSoFar s zero senders_old mails_old senders mails gets ws all others =
    subst (λ (k : ℕ). AddedSoFar s k senders_old mails_old senders mails gets ws all others) none so_far in
    a.behind

-- ---- all nodes

-- a dispatcher's thread whose mails are all among these
pub record ServesWithin (mails : List Mail) (v : ServingNow) : Type 0 where
  pub serves : IsServing mails v
  pub within : v.first + length v.gets ≤ length mails

-- so it is where there are more
serves_longer : (mails more : List Mail) (v : ServingNow) → ServesWithin mails v → ServesWithin (mails ++ more) v
serves_longer mails more v s = record {
  serves = record {
    ours = λ j m g p q.
        let there = slice_get_within v.gets j g q in
        s.serves.ours j m g (sym (get_before mails more (v.first + j) (omega (arith, there, s.within))) ∙ p) q;
    merged = s.serves.merged;
  };
  within = omega (arith, s.within, length-append mails more);
}

-- of the first nodes, where these workers are left
pub record PostsSoFar (nodes : List Node) (shares : List ShareNow) (k : ℕ) (whole left : List WorkerNow) (p : PostsNow) : Type 0 where
  pub workers_are : map worker_of p.senders ++ left ≡ whole
  pub sending : SideBySide IsSending p.mails p.senders
  pub servers_then : (vs : List ServingNow) → AreServersOf (length p.mails) (drop k nodes) (drop k shares) vs → AreServersOf 0 nodes shares (p.servers ++ vs)
  pub serving : AllByRecursion (ServesWithin p.mails) p.servers
  pub groups : AreGrouped (drop k nodes) (drop k shares) left
  pub nothing : AllByRecursion HasHandedNothing left

pub no_posts : (nodes : List Node) (shares : List ShareNow) (ws left : List WorkerNow) (p : PostsNow) → p.senders ≡ [] → p.servers ≡ [] → p.mails ≡ [] → left ≡ ws → AreGrouped nodes shares ws →
    AllByRecursion HasHandedNothing ws → PostsSoFar nodes shares 0 ws left p
no_posts nodes shares ws left p senders servers mails same groups nothing = record {
  workers_are = ap (λ (ss : List SenderNow). map worker_of ss ++ left) senders ∙ same;
  sending = subst (λ (ms : List Mail). SideBySide IsSending ms p.senders) (sym mails) (subst (λ (ss : List SenderNow). SideBySide IsSending [] ss) (sym senders) tt);
  servers_then = λ vs are. subst (λ (us : List ServingNow). AreServersOf 0 nodes shares (us ++ vs)) (sym servers) (subst (λ (ms : List Mail). AreServersOf (length ms) nodes shares vs) mails are);
  serving = subst (AllByRecursion (ServesWithin p.mails)) (sym servers) tt;
  groups = subst (AreGrouped nodes shares) (sym same) groups;
  nothing = subst (AllByRecursion HasHandedNothing) (sym same) nothing;
}

module _ (nodes : List Node) (shares : List ShareNow) (k : ℕ) (whole left rest : List WorkerNow) (p q : PostsNow) (x : Node) (s : ShareNow) (here : slice_get nodes k ≡ Some x)
    (there : slice_get shares k ≡ Some s) (a : AddsPosts x s (take x.centers left) p q) (others : rest ≡ drop x.centers left) (so_far : PostsSoFar nodes shares k whole left p) where
  groups_here : IsGroup x s (take x.centers left) × AreGrouped (drop (k + 1) nodes) (drop (k + 1) shares) (drop x.centers left)
  groups_here = first_group nodes shares left k x s here there so_far.groups

  as_many : length a.mails ≡ x.centers
  as_many = omega (arith, side_length IsSending a.mails a.senders a.sending, length-map a.senders worker_of, ap length a.workers_are, groups_here.0.count)

  longer : length q.mails ≡ length p.mails + x.centers
  longer = omega (arith, ap length a.mails_last, length-append p.mails a.mails, as_many)

  servers_on : (vs : List ServingNow) → AreServersOf (length q.mails) (drop (k + 1) nodes) (drop (k + 1) shares) vs → AreServersOf (length p.mails) (drop k nodes) (drop k shares) (a.server ∷ vs)
  servers_on vs are =
      subst (λ (xs : List Node). AreServersOf (length p.mails) xs (drop k shares) (a.server ∷ vs)) (sym (drop_here nodes k x here))
      (subst (λ (ss : List ShareNow). AreServersOf (length p.mails) (x ∷ drop (k + 1) nodes) ss (a.server ∷ vs)) (sym (drop_here shares k s there))
      (a.server_is, subst (λ (n : ℕ). AreServersOf n (drop (k + 1) nodes) (drop (k + 1) shares) vs) longer are))

  pub one_more_posts : PostsSoFar nodes shares (k + 1) whole rest q
  one_more_posts = record {
    workers_are =
        ap (λ (ss : List SenderNow). map worker_of ss ++ rest) a.senders_last
        ∙ ap (λ (ws : List WorkerNow). ws ++ rest) (map-append worker_of p.senders a.senders)
        ∙ append_assoc (map worker_of p.senders) (map worker_of a.senders) rest
        ∙ ap (λ (ws : List WorkerNow). map worker_of p.senders ++ (ws ++ rest)) a.workers_are
        ∙ ap (λ (ws : List WorkerNow). map worker_of p.senders ++ (take x.centers left ++ ws)) others
        ∙ ap (λ (ws : List WorkerNow). map worker_of p.senders ++ ws) (take-append-drop x.centers left)
        ∙ so_far.workers_are;
    sending = subst (λ (ms : List Mail). SideBySide IsSending ms q.senders) (sym a.mails_last)
        (subst (λ (ss : List SenderNow). SideBySide IsSending (p.mails ++ a.mails) ss) (sym a.senders_last)
        (side_both IsSending p.mails p.senders a.mails a.senders so_far.sending a.sending));
    servers_then = λ vs are.
        subst (AreServersOf 0 nodes shares) (sym (append_assoc p.servers (a.server ∷ []) vs) ∙ ap (λ (us : List ServingNow). us ++ vs) (sym a.server_last))
        (so_far.servers_then (a.server ∷ vs) (servers_on vs are));
    serving = subst (AllByRecursion (ServesWithin q.mails)) (sym a.server_last)
        (all_last (ServesWithin q.mails) p.servers a.server
        (subst (λ (ms : List Mail). AllByRecursion (ServesWithin ms) p.servers) (sym a.mails_last)
        (all_so (ServesWithin p.mails) (ServesWithin (p.mails ++ a.mails)) (serves_longer p.mails a.mails) p.servers so_far.serving))
        (record { serves = a.serving; within = omega (arith, a.server_is.first_is, a.server_is.count, longer) }));
    groups = subst (AreGrouped (drop (k + 1) nodes) (drop (k + 1) shares)) (sym others) groups_here.1;
    nothing = subst (AllByRecursion HasHandedNothing) (sym others) (all_drop HasHandedNothing x.centers left so_far.nothing);
  }

-- where there is no node more, there is no worker more
pub none_grouped : (xs : List Node) (ss : List ShareNow) (ws : List WorkerNow) → min (length xs) (length ss) ≡ 0 → AreGrouped xs ss ws → (xs ≡ []) × (ws ≡ [])
none_grouped [] [] ws none groups = (refl, groups)
none_grouped [] (s ∷ ss) ws none groups = absurd groups
none_grouped (x ∷ xs) [] ws none groups = absurd groups
none_grouped (x ∷ xs) (s ∷ ss) ws none groups = absurd (omega (arith, none))

pub all_posts : (nodes : List Node) (shares : List ShareNow) (k : ℕ) (whole left : List WorkerNow) (p : PostsNow) → length nodes ≤ k → PostsSoFar nodes shares k whole left p → ArePosts nodes shares whole p
all_posts nodes shares k whole left p most so_far =
    let no_node : drop k nodes ≡ [] = drop_of_length-le nodes most in
    let none : left ≡ [] = (none_grouped (drop k nodes) (drop k shares) left (let e : length (drop k nodes) ≡ 0 = ap length no_node in omega (arith, e)) so_far.groups).1 in
    record {
      workers_are = sym (append-nil (map worker_of p.senders)) ∙ ap (λ (ws : List WorkerNow). map worker_of p.senders ++ ws) (sym none) ∙ so_far.workers_are;
      sending = so_far.sending;
      servers_are = subst (AreServersOf 0 nodes shares) (append-nil p.servers)
          (so_far.servers_then [] (subst (λ (xs : List Node). AreServersOf (length p.mails) xs (drop k shares) []) (sym no_node) refl));
      serving = all_so (ServesWithin p.mails) (IsServing p.mails) (λ v s. s.serves) p.servers so_far.serving;
    }

-- the right of the next node's dispatcher
pub first_right : (shares : List ShareNow) (rights rest : List TakePasses) (k : ℕ) (s : ShareNow) (r : TakePasses) → slice_get shares k ≡ Some s → rights ≡ r ∷ rest → AreRights (drop k shares) rights →
    ArePassesOf s.throttles r × AreRights (drop (k + 1) shares) rest
first_right shares rights rest k s r there first are =
    subst (λ (rs : List TakePasses). AreRights (s ∷ drop (k + 1) shares) rs) first (subst (λ (ss : List ShareNow). AreRights ss rights) (drop_here shares k s there) are)
