-- The links before this one have a history.
use Rattle.m2_run.proofs.Weaves.{HaveBefore}
use Rattle.m2_run.proofs.weaving.weave_all.Given as goal

abbrev pub invariant-links : goal.invariant-links
invariant-links g l = HaveBefore l.ends l.loose.items l.links l.link-index
