-- What was heard of a peer, put in the order of its lines.
use Rattle.std.proofs.Common.{◌≡◌, ℕ, suc, ◌+◌, ◌-◌, ◌<◌, Bool, List, ◌∷◌, ◌++◌, length, filter, get_or, All, refl, sym, ap, ◌∙◌, subst, arith, append_assoc}
use Rattle.std.proofs.lemmas.List.{get_or-map, length-map}
use Rattle.std.proofs.lemmas.List.Elements.{All-filter, All-map}
use Rattle.std.proofs.lemmas.Grind.{flat_map-append}
use Rattle.std.specs.List.{flat_map, range_with_len}
use denote.Ref.{Bor}
use Rattle.m2_queues.specs.ByRank.{by_rank}
use Rattle.m2_queues.proofs.ByRank.{map-by_rank, all-by_rank}
use Rattle.m2_dispatch.specs.Heard.{Heard, heard_of, heard_by}
use Rattle.m2_dispatch.specs.declared.logged.Logged.{Logged}
use Rattle.m2_scenario.specs.Text.{Word}
use Rattle.m2_scenario.specs.Report.{rank_of, told_by, IsPeerAmong, IsOfNodes}

-- ---- calls that were gathered

-- the rank of a call that is lent
abbrev pub rank_of_lent : Bor Logged → ℕ
rank_of_lent c = rank_of (heard_of c.now)

-- what they tell, sorted
pub sorted_calls : (calls sorted : List (Bor Logged)) → sorted ≡ by_rank rank_of_lent calls → told_by sorted ≡ by_rank rank_of (told_by calls)
sorted_calls calls sorted e = ap told_by e ∙ map-by_rank (λ (c : Bor Logged). heard_of c.now) rank_of calls

-- what a node heard came from nodes, whatever is picked of it
pub picked_among : (nodes : ℕ) (log : List Logged) (pick : Heard → Bool) → All (IsOfNodes nodes) log → All (IsPeerAmong nodes) (filter pick (heard_by log))
picked_among nodes log pick all = All-filter pick (IsPeerAmong nodes) (heard_by log) (All-map (IsPeerAmong nodes) heard_of log all)

-- and in whatever order
pub sorted_among : (nodes : ℕ) (log : List Logged) (pick : Heard → Bool) → All (IsOfNodes nodes) log → All (IsPeerAmong nodes) (by_rank rank_of (filter pick (heard_by log)))
sorted_among nodes log pick all = all-by_rank rank_of (IsPeerAmong nodes) _ (picked_among nodes log pick all)

-- so the peer of each is one
pub gathered_there : (nodes : ℕ) (calls : List (Bor Logged)) (k : ℕ) (c : Bor Logged) → k < length calls → c ≡ get_or calls k c → All (IsPeerAmong nodes) (told_by calls) → IsOfNodes nodes c.now
gathered_there nodes calls k c h e all =
    let heard = λ (b : Bor Logged). heard_of b.now in
    let there : IsPeerAmong nodes (get_or (told_by calls) k (heard c)) = all k (heard c) (omega (arith, length-map calls heard, h)) in
    let at : get_or (told_by calls) k (heard c) ≡ heard c = get_or-map heard calls k c (heard c) h ∙ ap heard (sym e) in
    subst (IsPeerAmong nodes) at there

-- the lines of a peer: of its messages, and then of its resets
pub peer_lines : (line : Heard → Word) (old mid new : Word) (messages resets : List Heard) → mid ≡ old ++ flat_map line messages → new ≡ mid ++ flat_map line resets → new ≡ old ++ flat_map line (messages ++ resets)
peer_lines line old mid new messages resets e f =
    f ∙ ap (λ t. t ++ flat_map line resets) e ∙ append_assoc old _ _ ∙ ap (λ t. old ++ t) (sym (flat_map-append line messages resets))

-- ---- the peers one after another

-- the first of the numbers that are left
pub range_more : (k n : ℕ) → k < n → range_with_len k (n - k) ≡ k ∷ range_with_len (k + 1) (n - (k + 1))
range_more k n h =
    let e : n - k ≡ suc (n - (k + 1)) = omega (arith, h) in
    rw e refl

pub peers_more : (line : Heard → Word) (sorted : ℕ → List Heard) (k n : ℕ) → k < n
    → flat_map line (flat_map sorted (range_with_len k (n - k))) ≡ flat_map line (sorted k) ++ flat_map line (flat_map sorted (range_with_len (k + 1) (n - (k + 1))))
peers_more line sorted k n h = ap (λ r. flat_map line (flat_map sorted r)) (range_more k n h) ∙ flat_map-append line (sorted k) _
