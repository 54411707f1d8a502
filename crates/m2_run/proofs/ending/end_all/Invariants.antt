-- Those before the ones that are left, which are turned round, are ended; and there is room for what is left.
use Rattle.std.proofs.Common.{◌≡◌, ◌+◌, ◌-◌, ◌≤◌, length}
use Rattle.std.specs.Prelude.{slice_get, vec_capacity, vec_len}
use Rattle.m2_run.specs.Cuts.{cuts_at}
use Rattle.m2_run.proofs.Lasts.{AreEnded}
use Rattle.m2_run.proofs.LogLists.{AreLogged}
use Rattle.m2_run.proofs.ending.end_all.Given as goal

abbrev pub invariant-nodes : goal.invariant-nodes
invariant-nodes g l = record {
  ended : AreEnded (cuts_at l.cuts) (slice_get g.B.Inboxes.inboxes) l.fn.all.items l.all.items l.ends.items l.number;
  count : length l.ends.items + length l.all.items ≡ length l.cuts;
  logged : AreLogged l.fn.all.items l.all.items l.logs.items;
  room : length l.all.items ≤ vec_capacity l.ends - vec_len l.ends;
}

abbrev pub decreases-nodes : goal.decreases-nodes
decreases-nodes g l = length l.all.items
