-- With the posts of the records that are left they are all.
use Rattle.std.proofs.Common.{◌≡◌, ◌+◌, drop, sum_by}
use Rattle.m2_script.specs.Ways.{posts_to}
use Rattle.m2_script.proofs.ways.posts_towards.Given as goal

abbrev pub invariant-loop-side : goal.invariant-loop-side
invariant-loop-side g l = l.posts + sum_by (posts_to l.to) (drop l.side-index l.records) ≡ sum_by (posts_to l.to) l.records
