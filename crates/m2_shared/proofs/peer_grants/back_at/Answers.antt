-- Each pass is of the throttle at its gate.
use Rattle.m2_shared.specs.Gates.{messages, bytes, dispatch}
use Rattle.m2_shared.specs.declared.peer_type.PeerType.TheVariants.{Mon, Mds, Osd, Client, Mgr}
use Rattle.m2_shared.proofs.Asking.{place_at}
use Rattle.m2_shared.proofs.peer_grants.back_at.Goals as goal

pub back_to-requires-clause-messages : goal.back_to-requires-clause-messages
back_to-requires-clause-messages c = place_at c.args.throttles.now c.args.passes.now (messages Mon) c.requires.passes

pub back_to-requires-clause-bytes : goal.back_to-requires-clause-bytes
back_to-requires-clause-bytes c = place_at c.args.throttles.now c.args.passes.now (bytes Mon) c.requires.passes

pub back_to-requires-clause-dispatch : goal.back_to-requires-clause-dispatch
back_to-requires-clause-dispatch c = place_at c.args.throttles.now c.args.passes.now dispatch c.requires.passes

pub back_to-requires-in-Mds-clause-messages : goal.back_to-requires-in-Mds-clause-messages
back_to-requires-in-Mds-clause-messages c = place_at c.args.throttles.now c.args.passes.now (messages Mds) c.requires.passes

pub back_to-requires-in-Mds-clause-bytes : goal.back_to-requires-in-Mds-clause-bytes
back_to-requires-in-Mds-clause-bytes c = place_at c.args.throttles.now c.args.passes.now (bytes Mds) c.requires.passes

pub back_to-requires-in-Mds-clause-dispatch : goal.back_to-requires-in-Mds-clause-dispatch
back_to-requires-in-Mds-clause-dispatch c = place_at c.args.throttles.now c.args.passes.now dispatch c.requires.passes

pub back_to-requires-in-Osd-clause-messages : goal.back_to-requires-in-Osd-clause-messages
back_to-requires-in-Osd-clause-messages c = place_at c.args.throttles.now c.args.passes.now (messages Osd) c.requires.passes

pub back_to-requires-in-Osd-clause-bytes : goal.back_to-requires-in-Osd-clause-bytes
back_to-requires-in-Osd-clause-bytes c = place_at c.args.throttles.now c.args.passes.now (bytes Osd) c.requires.passes

pub back_to-requires-in-Osd-clause-dispatch : goal.back_to-requires-in-Osd-clause-dispatch
back_to-requires-in-Osd-clause-dispatch c = place_at c.args.throttles.now c.args.passes.now dispatch c.requires.passes

pub back_to-requires-in-Client-clause-messages : goal.back_to-requires-in-Client-clause-messages
back_to-requires-in-Client-clause-messages c = place_at c.args.throttles.now c.args.passes.now (messages Client) c.requires.passes

pub back_to-requires-in-Client-clause-bytes : goal.back_to-requires-in-Client-clause-bytes
back_to-requires-in-Client-clause-bytes c = place_at c.args.throttles.now c.args.passes.now (bytes Client) c.requires.passes

pub back_to-requires-in-Client-clause-dispatch : goal.back_to-requires-in-Client-clause-dispatch
back_to-requires-in-Client-clause-dispatch c = place_at c.args.throttles.now c.args.passes.now dispatch c.requires.passes

pub back_to-requires-in-Mgr-clause-messages : goal.back_to-requires-in-Mgr-clause-messages
back_to-requires-in-Mgr-clause-messages c = place_at c.args.throttles.now c.args.passes.now (messages Mgr) c.requires.passes

pub back_to-requires-in-Mgr-clause-bytes : goal.back_to-requires-in-Mgr-clause-bytes
back_to-requires-in-Mgr-clause-bytes c = place_at c.args.throttles.now c.args.passes.now (bytes Mgr) c.requires.passes

pub back_to-requires-in-Mgr-clause-dispatch : goal.back_to-requires-in-Mgr-clause-dispatch
back_to-requires-in-Mgr-clause-dispatch c = place_at c.args.throttles.now c.args.passes.now dispatch c.requires.passes
