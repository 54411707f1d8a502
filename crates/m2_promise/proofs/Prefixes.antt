-- What comes as it was posted, apart from the runtime's numbers, is the same messages.
use Rattle.std.proofs.Common.{◌≡◌, ℕ, ◌+◌, Bool, true, false, ◌==◌, cond, if◌then◌else◌, List, [], ◌∷◌, ◌++◌, length, map, drop, get_or, refl, sym, ap, ◌∙◌, arith, count_by}
use Rattle.std.specs.List.{filter}
use Rattle.std.proofs.lemmas.List.Sums.{sum_by-cons}
use Rattle.m2_channel.specs.Channel as channel
use Rattle.m2_channel.specs.Observed.{heard_from}
use Rattle.m2_channel.specs.m2_never_reset.Order.{AreFirstOf}
use Rattle.m2_dispatch.specs.Heard.{Heard, is_message_from, message, reset}
use Rattle.m2_links_go_on.specs.m2_weave.m2_journal.SideFacts.{SideFacts}
use Rattle.m2_message.specs.Message.{Content, unnumbered}
use Rattle.m2_scenario.specs.Order.{AreSame, IsPrefixOf}
use Rattle.m2_channel.specs.m2_never_reset.Orders as orders
use Rattle.m2_dispatch.specs.m2_policy.declared.path.Key.{Key}
use Rattle.m2_promise.proofs.PostedPlans.{has_key}

-- ---- one for one

heads : (m n : Content) (ms ns : List Content) → m ∷ ms ≡ n ∷ ns → m ≡ n
heads m n ms ns e = ap (λ l. get_or l 0 m) e

tails : (m n : Content) (ms ns : List Content) → m ∷ ms ≡ n ∷ ns → ms ≡ ns
tails m n ms ns e = ap (λ l. drop 1 l) e

pub are_same : (hs ps : List Content) → map unnumbered hs ≡ map unnumbered ps → AreSame hs ps
are_same [] [] e = tt
are_same [] (p ∷ ps) e = absurd cc
are_same (h ∷ hs) [] e = absurd cc
are_same (h ∷ hs) (p ∷ ps) e =
    (heads (unnumbered h) (unnumbered p) (map unnumbered hs) (map unnumbered ps) e, are_same hs ps (tails (unnumbered h) (unnumbered p) (map unnumbered hs) (map unnumbered ps) e))

pub is_prefix : (hs ps : List Content) → AreFirstOf (map unnumbered hs) (map unnumbered ps) → IsPrefixOf hs ps
is_prefix [] ps first = record { few = omega arith; same = tt }
is_prefix (h ∷ hs) [] (more, e) = absurd cc
is_prefix (h ∷ hs) (p ∷ ps) (more, e) =
    let rest = is_prefix hs ps (more, tails (unnumbered p) (unnumbered h) (map unnumbered ps) (map unnumbered hs ++ more) e) in
    record { few = omega (arith, rest.few); same = (sym (heads (unnumbered p) (unnumbered h) (map unnumbered ps) (map unnumbered hs ++ more) e), rest.same) }

-- ---- of a key

-- the numbers are no part of it
pub key_unnumbered : (g : SideFacts) (key : Key) (ms : List Content) → orders.of_key g key (map unnumbered ms) ≡ map unnumbered (filter (has_key g.node.fast key) ms)
key_unnumbered g key [] = refl
key_unnumbered g key (m ∷ ms) = at (has_key g.node.fast key m) (key_unnumbered g key ms)
  where
    at : (b : Bool) → orders.of_key g key (map unnumbered ms) ≡ map unnumbered (filter (has_key g.node.fast key) ms) →
        cond b (unnumbered m ∷ orders.of_key g key (map unnumbered ms)) (orders.of_key g key (map unnumbered ms)) ≡ map unnumbered (cond b (m ∷ filter (has_key g.node.fast key) ms) (filter (has_key g.node.fast key) ms))
    at true same = ap (λ l. unnumbered m ∷ l) same
    at false same = same

-- ---- how many of a peer

pub count_heard : (peer : ℕ) (log : List Heard) → count_by (is_message_from peer) log ≡ length (heard_from peer log)
count_heard peer [] = refl
count_heard peer (message p k n life m ∷ log) = sum_by-cons (λ (h : Heard). cond (is_message_from peer h) 1 0) (message p k n life m) log ∙ at (p == peer) (count_heard peer log)
  where
    at : (b : Bool) → count_by (is_message_from peer) log ≡ length (heard_from peer log) →
        cond b 1 0 + count_by (is_message_from peer) log ≡ length (if b then channel.keyed k m ∷ heard_from peer log else heard_from peer log)
    at true same = omega (arith, same)
    at false same = omega (arith, same)
count_heard peer (reset p ∷ log) = sum_by-cons (λ (h : Heard). cond (is_message_from peer h) 1 0) (reset p) log ∙ omega (arith, count_heard peer log)
