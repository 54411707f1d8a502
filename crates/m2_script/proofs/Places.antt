-- What is read of the records of the node at a place.
use Rattle.std.proofs.Common.{◌≡◌, ℕ, Bool, List, Some, Result, IfOk, sum_by, sym, ap, ◌∙◌, subst}
use Rattle.std.specs.List.{list_any, slice_get}
use Rattle.m2_bytes.specs.declared.memory.NoMemory as memory
use Rattle.m2_cluster.specs.m2_center.Center.{CenterNow}
use Rattle.m2_cluster.specs.Node.{NodeNow}
use Rattle.m2_record.specs.RecordNow.{RecordNow}
use Rattle.m2_script.specs.Outcome.{records_at}
use Rattle.m2_script.specs.Ways.{is_down_to, posts_to}

module _ {D : Type 0} (nodes : List (NodeNow D)) (x y : ℕ) (n : NodeNow D) (center : CenterNow D) (records : List RecordNow)
    (there : slice_get nodes x ≡ Some n) (of_node : center ≡ n.center) (of_center : records ≡ center.records) where
  its_records : records ≡ records_at (slice_get nodes x)
  its_records = of_center ∙ ap (λ (c : CenterNow D). c.records) of_node ∙ sym (ap records_at there)

  pub down_there : (r : Bool) → r ≡ list_any (is_down_to y) records → r ≡ list_any (is_down_to y) (records_at (slice_get nodes x))
  down_there r h = h ∙ ap (list_any (is_down_to y)) its_records

  pub posts_there : (r : Result ℕ memory.NoMemory) → IfOk r (λ k. k ≡ sum_by (posts_to y) records) → IfOk r (λ k. k ≡ sum_by (posts_to y) (records_at (slice_get nodes x)))
  posts_there r h = subst (λ (rs : List RecordNow). IfOk r (λ k. k ≡ sum_by (posts_to y) rs)) its_records h
