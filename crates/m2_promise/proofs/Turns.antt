-- The calls of both dispatchers turn by turn are the calls of both logs.
use Rattle.std.proofs.Common.{◌≡◌, ℕ, ◌+◌, ◌⊎◌, inl, inr, Bool, cond, List, [], ◌∷◌, ◌++◌, take, drop, refl, sym, ap, ◌∙◌, arith, append-nil, count_by}
use Rattle.std.specs.List.{AllByRecursion}
use Rattle.std.proofs.lemmas.List.{take-append-drop}
use Rattle.std.proofs.lemmas.List.Sums.{sum_by-append, sum_by-take-drop}
use Rattle.m2_channel.proofs.Handing.{heard-append}
use Rattle.m2_dispatch.specs.Heard.{Heard, of_key}
use Rattle.m2_message.specs.Message.{Content}
use Rattle.m2_dispatch.specs.m2_policy.declared.path.Key.{Key}
use Rattle.m2_script.specs.declared.calls.TurnCalls.{TurnCalls}
use Rattle.m2_script.specs.Outcome.{in_turns}
use Rattle.m2_fabric.proofs.m2_lemmas.Lists.{all_take, all_drop, all_append}

-- ---- what holds of each

pub all_turns : {X : Type 0} (P : X → Type 0) (cs : List TurnCalls) (fast queued : List X) → AllByRecursion P fast → AllByRecursion P queued → AllByRecursion P (in_turns cs fast queued)
all_turns P [] fast queued f q = all_append P fast queued f q
all_turns P (c ∷ cs) fast queued f q =
    let later = in_turns cs (drop c.fast fast) (drop c.queued queued) in
    all_append P (take c.fast fast) (take c.queued queued ++ later) (all_take P c.fast fast f)
    (all_append P (take c.queued queued) later (all_take P c.queued queued q)
    (all_turns P cs (drop c.fast fast) (drop c.queued queued) (all_drop P c.fast fast f) (all_drop P c.queued queued q)))

-- ---- how many

pub count_turns : {X : Type 0} (p : X → Bool) (cs : List TurnCalls) (fast queued : List X) → count_by p (in_turns cs fast queued) ≡ count_by p fast + count_by p queued
count_turns {X} p [] fast queued = sum_by-append (λ (x : X). cond (p x) 1 0) fast queued
count_turns {X} p (c ∷ cs) fast queued =
    let one : X → ℕ = λ x. cond (p x) 1 0 in
    let later = in_turns cs (drop c.fast fast) (drop c.queued queued) in
    let all : count_by p (take c.fast fast ++ (take c.queued queued ++ later)) ≡ count_by p (take c.fast fast) + count_by p (take c.queued queued ++ later) =
    sum_by-append one (take c.fast fast) (take c.queued queued ++ later) in
    let behind : count_by p (take c.queued queued ++ later) ≡ count_by p (take c.queued queued) + count_by p later = sum_by-append one (take c.queued queued) later in
    let f : count_by p (take c.fast fast) + count_by p (drop c.fast fast) ≡ count_by p fast = sum_by-take-drop one fast c.fast in
    let q : count_by p (take c.queued queued) + count_by p (drop c.queued queued) ≡ count_by p queued = sum_by-take-drop one queued c.queued in
    let rest = count_turns p cs (drop c.fast fast) (drop c.queued queued) in
    omega (arith, all, behind, f, q, rest)

-- ---- of a key

no_parts : {X : Type 0} (xs ys : List X) → xs ++ ys ≡ [] → (xs ≡ []) × (ys ≡ [])
no_parts [] ys e = (refl, e)
no_parts (x ∷ xs) ys e = absurd cc

module _ (peer : ℕ) (key : Key) where
  abbrev of_it : List Heard → List Content
  of_it log = of_key peer key log

  -- both parts of a log
  parted : (n : ℕ) (log : List Heard) → of_it (take n log) ++ of_it (drop n log) ≡ of_it log
  parted n log = sym (heard-append peer key (take n log) (drop n log)) ∙ ap of_it (take-append-drop n log)

  parts_none : (n : ℕ) (log : List Heard) → of_it log ≡ [] → (of_it (take n log) ≡ []) × (of_it (drop n log) ≡ [])
  parts_none n log e = no_parts (of_it (take n log)) (of_it (drop n log)) (parted n log ∙ e)

  three : (xs ys zs : List Heard) → of_it (xs ++ (ys ++ zs)) ≡ of_it xs ++ (of_it ys ++ of_it zs)
  three xs ys zs = heard-append peer key xs (ys ++ zs) ∙ ap (λ l. of_it xs ++ l) (heard-append peer key ys zs)

  by_fast : (cs : List TurnCalls) (fast queued : List Heard) → of_it queued ≡ [] → of_it (in_turns cs fast queued) ≡ of_it fast
  by_fast [] fast queued none = heard-append peer key fast queued ∙ ap (λ l. of_it fast ++ l) none ∙ append-nil (of_it fast)
  by_fast (c ∷ cs) fast queued none =
      let q = parts_none c.queued queued none in
      let later = in_turns cs (drop c.fast fast) (drop c.queued queued) in
      three (take c.fast fast) (take c.queued queued) later
      ∙ ap (λ l. of_it (take c.fast fast) ++ (l ++ of_it later)) q.0
      ∙ ap (λ l. of_it (take c.fast fast) ++ l) (by_fast cs (drop c.fast fast) (drop c.queued queued) q.1)
      ∙ parted c.fast fast

  by_queue : (cs : List TurnCalls) (fast queued : List Heard) → of_it fast ≡ [] → of_it (in_turns cs fast queued) ≡ of_it queued
  by_queue [] fast queued none = heard-append peer key fast queued ∙ ap (λ l. l ++ of_it queued) none
  by_queue (c ∷ cs) fast queued none =
      let f = parts_none c.fast fast none in
      let later = in_turns cs (drop c.fast fast) (drop c.queued queued) in
      three (take c.fast fast) (take c.queued queued) later
      ∙ ap (λ l. l ++ (of_it (take c.queued queued) ++ of_it later)) f.0
      ∙ ap (λ l. of_it (take c.queued queued) ++ l) (by_queue cs (drop c.fast fast) (drop c.queued queued) f.1)
      ∙ parted c.queued queued

  -- where all messages of a key are in one of the logs, they come as in both logs, one behind the other
  pub key_turns : (cs : List TurnCalls) (fast queued : List Heard) → (of_key peer key fast ≡ []) ⊎ (of_key peer key queued ≡ []) →
      of_key peer key (in_turns cs fast queued) ≡ of_key peer key (fast ++ queued)
  key_turns cs fast queued (inl none) = by_queue cs fast queued none ∙ sym (heard-append peer key fast queued ∙ ap (λ l. l ++ of_it queued) none)
  key_turns cs fast queued (inr none) = by_fast cs fast queued none ∙ sym (heard-append peer key fast queued ∙ ap (λ l. of_it fast ++ l) none ∙ append-nil (of_it fast))
