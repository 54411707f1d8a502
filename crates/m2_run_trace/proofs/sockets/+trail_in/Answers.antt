-- The first record that has one.
use Rattle.std.proofs.Common.{ap, map, ◌∙◌}
use Rattle.std.specs.Option.{option_map}
use Rattle.m2_trail.specs.Trails.{trail_now}
use Rattle.m2_run_trace.proofs.Trails.{found_first, found_later}
use Rattle.m2_run_trace.proofs.sockets.+trail_in.Goals as goal

pub returns-in-Some-trail_on : goal.returns-in-Some-trail_on
returns-in-Some-trail_on g t c =
    found_first c.in-Some.first.now c.in-Some.rest.now c.args.records.now c.args.socket.now (map trail_now c.as_slice.result.now) c.in-Some.ensures.cases.0
    (ap (map trail_now) c.as_slice.ensures ∙ c.trails.ensures) (trail_now c.in-Some-trail_on.trail.now) c.in-Some-trail_on.ensures

pub returns-in-None-trail_on : goal.returns-in-None-trail_on
returns-in-None-trail_on g t c =
    found_later c.in-Some.first.now c.in-Some.rest.now c.args.records.now c.args.socket.now (map trail_now c.as_slice.result.now) c.in-Some.ensures.cases.0
    (ap (map trail_now) c.as_slice.ensures ∙ c.trails.ensures) (option_map (λ t. trail_now t.now) c.trail_in.result) c.in-None-trail_on.ensures c.trail_in.ensures
