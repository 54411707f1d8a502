-- The last productive moment; and nodes were left where nothing is left, or where they have stalled.
use Rattle.std.proofs.Common.{◌≡◌, inl, inr, ℕ, ◌+◌, ◌<◌, ◌≤◌, List, length, get_or, take, refl, sym, ap, ◌∙◌, take_all}
use Rattle.std.specs.Prelude.{fold}
use Rattle.std.proofs.lemmas.List.Sums.{fold_more}
use Rattle.m2_scenario.specs.declared.link.Link.{Link}
use Rattle.m2_scenario.specs.declared.node.Node.{Node}
use Rattle.m2_run.specs.Kept.{left_of}
use Rattle.m2_node.specs.Nodes.{RunNodeNow}
use Rattle.m2_run.specs.Ran.{HasStalled}
use Rattle.m2_run.specs.Settling.{IsSettled}

-- ---- the last moment, one thing after another

module _ {X : Type 0} (later : ℕ → X → ℕ) (start : ℕ) (xs : List X) (k now : ℕ) (so_far : now ≡ fold later start (take k xs)) where
  -- behind one thing more
  pub one_further : (next : ℕ) (x : X) → k < length xs → x ≡ get_or xs k x → next ≡ later now x → next ≡ fold later start (take (k + 1) xs)
  one_further next x less read e =
      e ∙ ap (λ (n : ℕ). later n x) so_far ∙ ap (later (fold later start (take k xs))) read ∙ sym (fold_more later start xs k x less)

  -- behind all of them
  pub all_over : length xs ≤ k → now ≡ fold later start xs
  all_over all = so_far ∙ ap (fold later start) (take_all k xs all)

-- ---- where they were left

module _ (limit : ℕ) (nodes : List Node) (links : List Link) (all : List RunNodeNow) (start now left : ℕ) (is : left ≡ left_of links all) where
  pub none_left : left ≡ 0 → IsSettled limit nodes links all start now (record { left = left; stop = now })
  none_left none = record { left = is; over = inl none; stop = refl }

  pub have_stalled : HasStalled limit nodes all start now → IsSettled limit nodes links all start now (record { left = left; stop = now })
  have_stalled stalled = record { left = is; over = inr stalled; stop = refl }
