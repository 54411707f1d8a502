-- The records so far, and those over the links that are left, are all of them that are at home there; and there is room for as many as links are left.
use Rattle.std.proofs.Common.{◌≡◌, ◌+◌, ◌-◌, ◌≤◌, ◌++◌, drop, length, map}
use Rattle.std.specs.Prelude.{vec_capacity, vec_len}
use Rattle.m2_script.specs.Made.{records_of, roomless}
use Rattle.m2_node.specs.Homes.{at_home}
use Rattle.m2_node.proofs.NewRecords.{new_one}
use Rattle.m2_node.proofs.records.new_records.Given as goal

abbrev pub invariant-loop-link : goal.invariant-loop-link
invariant-loop-link g l = record {
  so_far : map roomless l.records.items ++ map new_one (at_home l.nodes l.home.centers l.home.center (records_of l.nodes (drop l.link-index l.links) l.number l.word))
      ≡ map new_one (at_home l.nodes l.home.centers l.home.center (records_of l.nodes l.links l.number l.word));
  room : length l.links ≤ (vec_capacity l.records - vec_len l.records) + l.link-index;
}
