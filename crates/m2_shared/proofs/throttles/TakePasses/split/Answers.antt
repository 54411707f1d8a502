-- Each pass is of the throttle at its gate, and threads share each.
use Rattle.m2_shared.specs.Gates.{messages, bytes, dispatch}
use Rattle.m2_shared.specs.declared.peer_type.PeerType.TheVariants.{Mon, Mds, Osd, Client, Mgr}
use Rattle.m2_shared.proofs.Asking.{place_at}
use Rattle.m2_shared.proofs.throttles.TakePasses.split.Goals as goal

pub split-requires-clause-messages : goal.split-requires-clause-messages
split-requires-clause-messages c = place_at c.args.throttles.now c.args.self.now (messages Mon) c.requires.passes

pub split-requires-clause-bytes : goal.split-requires-clause-bytes
split-requires-clause-bytes c = place_at c.args.throttles.now c.args.self.now (bytes Mon) c.requires.passes

pub split-requires-clause-messages_shared : goal.split-requires-clause-messages_shared
split-requires-clause-messages_shared c = c.requires.shared (messages Mon)

pub split-requires-clause-bytes_shared : goal.split-requires-clause-bytes_shared
split-requires-clause-bytes_shared c = c.requires.shared (bytes Mon)

pub split-requires-2-clause-messages : goal.split-requires-2-clause-messages
split-requires-2-clause-messages c = place_at c.args.throttles.now c.args.self.now (messages Mds) c.requires.passes

pub split-requires-2-clause-bytes : goal.split-requires-2-clause-bytes
split-requires-2-clause-bytes c = place_at c.args.throttles.now c.args.self.now (bytes Mds) c.requires.passes

pub split-requires-2-clause-messages_shared : goal.split-requires-2-clause-messages_shared
split-requires-2-clause-messages_shared c = c.requires.shared (messages Mds)

pub split-requires-2-clause-bytes_shared : goal.split-requires-2-clause-bytes_shared
split-requires-2-clause-bytes_shared c = c.requires.shared (bytes Mds)

pub split-requires-3-clause-messages : goal.split-requires-3-clause-messages
split-requires-3-clause-messages c = place_at c.args.throttles.now c.args.self.now (messages Osd) c.requires.passes

pub split-requires-3-clause-bytes : goal.split-requires-3-clause-bytes
split-requires-3-clause-bytes c = place_at c.args.throttles.now c.args.self.now (bytes Osd) c.requires.passes

pub split-requires-3-clause-messages_shared : goal.split-requires-3-clause-messages_shared
split-requires-3-clause-messages_shared c = c.requires.shared (messages Osd)

pub split-requires-3-clause-bytes_shared : goal.split-requires-3-clause-bytes_shared
split-requires-3-clause-bytes_shared c = c.requires.shared (bytes Osd)

pub split-requires-4-clause-messages : goal.split-requires-4-clause-messages
split-requires-4-clause-messages c = place_at c.args.throttles.now c.args.self.now (messages Client) c.requires.passes

pub split-requires-4-clause-bytes : goal.split-requires-4-clause-bytes
split-requires-4-clause-bytes c = place_at c.args.throttles.now c.args.self.now (bytes Client) c.requires.passes

pub split-requires-4-clause-messages_shared : goal.split-requires-4-clause-messages_shared
split-requires-4-clause-messages_shared c = c.requires.shared (messages Client)

pub split-requires-4-clause-bytes_shared : goal.split-requires-4-clause-bytes_shared
split-requires-4-clause-bytes_shared c = c.requires.shared (bytes Client)

pub split-requires-5-clause-messages : goal.split-requires-5-clause-messages
split-requires-5-clause-messages c = place_at c.args.throttles.now c.args.self.now (messages Mgr) c.requires.passes

pub split-requires-5-clause-bytes : goal.split-requires-5-clause-bytes
split-requires-5-clause-bytes c = place_at c.args.throttles.now c.args.self.now (bytes Mgr) c.requires.passes

pub split-requires-5-clause-messages_shared : goal.split-requires-5-clause-messages_shared
split-requires-5-clause-messages_shared c = c.requires.shared (messages Mgr)

pub split-requires-5-clause-bytes_shared : goal.split-requires-5-clause-bytes_shared
split-requires-5-clause-bytes_shared c = c.requires.shared (bytes Mgr)

pub split_one-dispatch-requires-clause-pass : goal.split_one-dispatch-requires-clause-pass
split_one-dispatch-requires-clause-pass c = place_at c.args.throttles.now c.args.self.now dispatch c.requires.passes

pub split_one-dispatch-requires-clause-shared : goal.split_one-dispatch-requires-clause-shared
split_one-dispatch-requires-clause-shared c = c.requires.shared dispatch
