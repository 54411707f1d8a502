-- Two nodes, each with a new record of the other, of which one acts by staying as it is.
use Rattle.std.proofs.Common.{◌≡◌, ℕ, zero, suc, true, false, [], ◌∷◌, ◌++◌, Some, None, refl, sym, subst, ◌⊎◌, inl, inr, arith, rules}
use Rattle.std.specs.Prelude.{IsSome, slice_get}
use Rattle.std.specs.List.{AllByRecursion}
use Rattle.m2_fabric.specs.declared.socket.SocketId.{SocketId}
use Rattle.m2_fabric.specs.Holder.{SeenHolder}
use Rattle.m2_fabric.specs.Sockets.{goes_to}
use Rattle.m2_lives.specs.m2_bytes_fit.Halves.{KeepsRanges}
use Rattle.m2_links_go_on.specs.m2_growth.Halves.{IsOneOf, all_left}
use Rattle.m2_links_go_on.specs.m2_growth.Holding.{Holding, all_ends}
use Rattle.m2_links_go_on.specs.m2_history.Link.{both_of}
use Rattle.m2_links_go_on.proofs.m2_weave.m2_journal.Pair.{facts_of_a, facts_of_b, here, there}
use Rattle.m2_links_go_on.proofs.Example.{is_node_of_a, is_node_of_b, node, side}
use Rattle.m2_links_go_on.proofs.LinkRecords.{at_place}
use Rattle.m2_links_go_on.proofs.Staying.{staying_goes_on}
use Rattle.m2_script.specs.m2_record.RecordNow.{RecordNow}
use Rattle.m2_script.specs.m2_record.Sources.{end_at}
use Rattle.m2_fabric.specs.InStep.{SeenFabric}
use Rattle.m2_fabric.specs.Kept.{is_kept}
use Rattle.m2_fabric.specs.SimFabric.{AreApart}
use Rattle.m2_script.specs.m2_center.m2_turn.Halves.{AllHalves}
use Rattle.m2_links_go_on.specs.Sides.{woven_now}
use Rattle.m2_links_go_on.specs.m2_weave.TurnLaws.{HasOrder}
use Rattle.m2_promise.specs.RunLaws.{ANodeActs}
use Rattle.m2_promise.specs.Running.{HasAskedPeer, HaveOrders, HoldsAll, IsNodeAt, IsRunning, RunNow}
use Rattle.m2_fabric.proofs.m2_lemmas.Booleans.{false_isnt_true}

abbrev one : Holding
one = (node facts_of_a 1).holding

abbrev two : Holding
two = (node facts_of_b 0).holding

abbrev holder : SeenHolder
holder = record { nodes = 2; at = λ n. here; made = λ n. []; ends = λ n k. None; waits = λ n k. false; line = λ n. [] }

abbrev fabric : SeenFabric
fabric = record { nodes = here ∷ there ∷ []; looked = []; pairs = [] }

abbrev run : RunNow
run = record { holdings = one ∷ two ∷ []; holder = holder; fabric = fabric }

-- what holds of both holds of all
of_both : (P : ℕ → Holding → Type 0) → P 0 one → P 1 two → (i : ℕ) (h : Holding) → slice_get (one ∷ two ∷ []) i ≡ Some h → P i h
of_both P p q zero h at = let same : one ≡ h = cc in subst (P 0) same p
of_both P p q (suc zero) h at = let same : two ≡ h = cc in subst (P 1) same q
of_both P p q (suc (suc i)) h at = absurd cc

apart : AreApart (here ∷ there ∷ [])
apart zero zero d less within = absurd (omega (arith, less))
apart zero (suc zero) d less within = refl
apart zero (suc (suc j)) d less within = absurd (omega (arith, within))
apart (suc i) zero d less within = absurd (omega (arith, less))
apart (suc i) (suc zero) d less within = absurd (omega (arith, less))
apart (suc i) (suc (suc j)) d less within = absurd (omega (arith, within))

holds : HoldsAll run
holds = record { nodes = refl; ends = of_both (λ i h. (k : SocketId) → None ≡ end_at (all_ends h) k) (λ k. refl) (λ k. refl); none = λ i at k. refl }

ranges_of_a : KeepsRanges facts_of_a
ranges_of_a = record { entity = omega arith; peer = search rules; mine = search rules; kind = refl; place = search rules; supports = omega arith; requires_ = omega arith }

ranges_of_b : KeepsRanges facts_of_b
ranges_of_b = record { entity = omega arith; peer = search rules; mine = search rules; kind = refl; place = search rules; supports = omega arith; requires_ = omega arith }

one_at : IsNodeAt (here ∷ there ∷ []) 0 one
one_at = record { node = is_node_of_a; at = refl; records = (record { mine = refl; peer = refl; other = refl; ranges = ranges_of_a }, tt); in_memory = refl; made = tt; waiting = tt }

two_at : IsNodeAt (here ∷ there ∷ []) 1 two
two_at = record { node = is_node_of_b; at = refl; records = (record { mine = refl; peer = refl; other = refl; ranges = ranges_of_b }, tt); in_memory = refl; made = tt; waiting = tt }

is_running : IsRunning run
is_running = record {
  apart = apart;
  in_step = record { nodes = refl; kept = tt; others = λ e unkept. tt };
  met = record { ends = tt; came = tt };
  holds = holds;
  between = record {
    kept = tt;
    arrived = of_both (λ i h. (k : SocketId) → goes_to h.port.at k ≡ true → IsSome (end_at (all_ends h) k) → is_kept k [] ≡ true) (λ k g s. absurd (false_isnt_true s)) (λ k g s. absurd (false_isnt_true s));
  };
  nodes = of_both (IsNodeAt (here ∷ there ∷ [])) one_at two_at;
  asked = of_both (λ i h. AllByRecursion HasAskedPeer h.records) (λ k a. absurd (false_isnt_true a), tt) (λ k a. absurd (false_isnt_true a), tt);
}

-- ---- nothing was done

abbrev no_halves : AllHalves
no_halves = record { pending = []; loose = [] }

abbrev IsNew : RecordNow → Type 0
IsNew r = (r ≡ side facts_of_a 1) ⊎ (r ≡ side facts_of_b 0)

record IsIdle (h : Holding) : Type 0 where
  halves : h.halves ≡ no_halves
  records : (r : RecordNow) → IsOneOf r h.records → IsNew r

idle_order : (a b : RecordNow) → IsNew a → IsNew b → HasOrder (woven_now (both_of a b []))
idle_order a b p q = by p q
  where
    of_two : (c d : RecordNow) → a ≡ c → b ≡ d → HasOrder (woven_now (both_of c d [])) → HasOrder (woven_now (both_of a b []))
    of_two c d p q order = subst (λ r. HasOrder (woven_now (both_of r b []))) (sym p) (subst (λ r. HasOrder (woven_now (both_of c r []))) (sym q) order)

    by : IsNew a → IsNew b → HasOrder (woven_now (both_of a b []))
    by (inl p) (inl q) = of_two (side facts_of_a 1) (side facts_of_a 1) p q ([], record { lawful = tt; whole = refl })
    by (inl p) (inr q) = of_two (side facts_of_a 1) (side facts_of_b 0) p q ([], record { lawful = tt; whole = refl })
    by (inr p) (inl q) = of_two (side facts_of_b 0) (side facts_of_a 1) p q ([], record { lawful = tt; whole = refl })
    by (inr p) (inr q) = of_two (side facts_of_b 0) (side facts_of_b 0) p q ([], record { lawful = tt; whole = refl })

only : (x r : RecordNow) → IsOneOf r (x ∷ []) → r ≡ x
only x r (inl e) = e
only x r (inr i) = absurd i

have_orders : HaveOrders run
have_orders h g a b l =
    let near : IsIdle h = idle l.i h l.near in
    let far : IsIdle g = idle l.j g l.far in
    subst (λ hs. HasOrder (woven_now (both_of a b (all_left hs ++ all_left g.halves)))) (sym near.halves)
    (subst (λ gs. HasOrder (woven_now (both_of a b (all_left no_halves ++ all_left gs)))) (sym far.halves)
    (idle_order a b (near.records a (at_place a h.records l.a_at l.a_there)) (far.records b (at_place b g.records l.b_at l.b_there))))
  where
    idle : (i : ℕ) (h : Holding) → slice_get (one ∷ two ∷ []) i ≡ Some h → IsIdle h
    idle =
        of_both (λ i h. IsIdle h) (record { halves = refl; records = λ r i. inl (only (side facts_of_a 1) r i) }) (record { halves = refl; records = λ r i. inr (only (side facts_of_b 0) r i) })

pub a_node_acts : ANodeActs
a_node_acts = record {
  node = 0;
  old = run;
  new = run;
  running = is_running;
  orders = have_orders;
  acts = record {
    before = one;
    behind = one;
    was = refl;
    is = refl;
    grows = (staying_goes_on (node facts_of_a 1) 0 is_node_of_a refl).grows;
    node = one_at;
    there = λ k none some. absurd (false_isnt_true some);
    fabric = refl;
    holds = holds;
    ends = record { nodes = refl; ends = λ n k. tt; memory = λ n k. tt };
  };
  h = one;
  g = two;
  a = side facts_of_a 1;
  b = side facts_of_b 0;
  link = record { i = 0; j = 1; near = refl; far = refl; a_at = 0; b_at = 0; a_there = refl; b_there = refl; a_towards = refl; b_towards = refl };
}
