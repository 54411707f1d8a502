-- Each pass is of the throttle at its gate.
use Rattle.m2_shared.specs.Gates.{messages, bytes, dispatch}
use Rattle.m2_shared.specs.declared.peer_type.PeerType.TheVariants.{Mon, Mds, Osd, Client, Mgr}
use Rattle.m2_shared.proofs.Asking.{place_at}
use Rattle.m2_shared.proofs.peer_grants.more_at.Goals as goal

pub more_of-requires-clause-messages : goal.more_of-requires-clause-messages
more_of-requires-clause-messages c = place_at c.args.throttles.now c.args.passes.now (messages Mon) c.requires.passes

pub more_of-requires-clause-bytes : goal.more_of-requires-clause-bytes
more_of-requires-clause-bytes c = place_at c.args.throttles.now c.args.passes.now (bytes Mon) c.requires.passes

pub more_of-requires-clause-dispatch : goal.more_of-requires-clause-dispatch
more_of-requires-clause-dispatch c = place_at c.args.throttles.now c.args.passes.now dispatch c.requires.passes

pub more_of-requires-in-Mds-clause-messages : goal.more_of-requires-in-Mds-clause-messages
more_of-requires-in-Mds-clause-messages c = place_at c.args.throttles.now c.args.passes.now (messages Mds) c.requires.passes

pub more_of-requires-in-Mds-clause-bytes : goal.more_of-requires-in-Mds-clause-bytes
more_of-requires-in-Mds-clause-bytes c = place_at c.args.throttles.now c.args.passes.now (bytes Mds) c.requires.passes

pub more_of-requires-in-Mds-clause-dispatch : goal.more_of-requires-in-Mds-clause-dispatch
more_of-requires-in-Mds-clause-dispatch c = place_at c.args.throttles.now c.args.passes.now dispatch c.requires.passes

pub more_of-requires-in-Osd-clause-messages : goal.more_of-requires-in-Osd-clause-messages
more_of-requires-in-Osd-clause-messages c = place_at c.args.throttles.now c.args.passes.now (messages Osd) c.requires.passes

pub more_of-requires-in-Osd-clause-bytes : goal.more_of-requires-in-Osd-clause-bytes
more_of-requires-in-Osd-clause-bytes c = place_at c.args.throttles.now c.args.passes.now (bytes Osd) c.requires.passes

pub more_of-requires-in-Osd-clause-dispatch : goal.more_of-requires-in-Osd-clause-dispatch
more_of-requires-in-Osd-clause-dispatch c = place_at c.args.throttles.now c.args.passes.now dispatch c.requires.passes

pub more_of-requires-in-Client-clause-messages : goal.more_of-requires-in-Client-clause-messages
more_of-requires-in-Client-clause-messages c = place_at c.args.throttles.now c.args.passes.now (messages Client) c.requires.passes

pub more_of-requires-in-Client-clause-bytes : goal.more_of-requires-in-Client-clause-bytes
more_of-requires-in-Client-clause-bytes c = place_at c.args.throttles.now c.args.passes.now (bytes Client) c.requires.passes

pub more_of-requires-in-Client-clause-dispatch : goal.more_of-requires-in-Client-clause-dispatch
more_of-requires-in-Client-clause-dispatch c = place_at c.args.throttles.now c.args.passes.now dispatch c.requires.passes

pub more_of-requires-in-Mgr-clause-messages : goal.more_of-requires-in-Mgr-clause-messages
more_of-requires-in-Mgr-clause-messages c = place_at c.args.throttles.now c.args.passes.now (messages Mgr) c.requires.passes

pub more_of-requires-in-Mgr-clause-bytes : goal.more_of-requires-in-Mgr-clause-bytes
more_of-requires-in-Mgr-clause-bytes c = place_at c.args.throttles.now c.args.passes.now (bytes Mgr) c.requires.passes

pub more_of-requires-in-Mgr-clause-dispatch : goal.more_of-requires-in-Mgr-clause-dispatch
more_of-requires-in-Mgr-clause-dispatch c = place_at c.args.throttles.now c.args.passes.now dispatch c.requires.passes
