-- The inboxes are named as they stand.
use Rattle.m2_run.proofs.running.run.Given as goal

abbrev pub ghosts-run_named : goal.ghosts-run_named
ghosts-run_named g a = record { inboxes = a.grounds.rooms.inboxes.items }
