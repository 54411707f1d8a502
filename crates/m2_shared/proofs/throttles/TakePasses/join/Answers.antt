-- Each pass is of the throttle at its gate, and threads share each.
use Rattle.m2_shared.specs.Gates.{messages, bytes, dispatch}
use Rattle.m2_shared.specs.declared.peer_type.PeerType.TheVariants.{Mon, Mds, Osd, Client, Mgr}
use Rattle.m2_shared.proofs.Asking.{place_at}
use Rattle.m2_shared.proofs.throttles.TakePasses.join.Goals as goal

pub join-requires-clause-messages : goal.join-requires-clause-messages
join-requires-clause-messages c = place_at c.args.throttles.now c.args.self.now (messages Mon) c.requires.passes

pub join-requires-clause-other_messages : goal.join-requires-clause-other_messages
join-requires-clause-other_messages c = place_at c.args.throttles.now c.args.other (messages Mon) c.requires.other

pub join-requires-clause-bytes : goal.join-requires-clause-bytes
join-requires-clause-bytes c = place_at c.args.throttles.now c.args.self.now (bytes Mon) c.requires.passes

pub join-requires-clause-other_bytes : goal.join-requires-clause-other_bytes
join-requires-clause-other_bytes c = place_at c.args.throttles.now c.args.other (bytes Mon) c.requires.other

pub join-requires-clause-messages_shared : goal.join-requires-clause-messages_shared
join-requires-clause-messages_shared c = c.requires.shared (messages Mon)

pub join-requires-clause-bytes_shared : goal.join-requires-clause-bytes_shared
join-requires-clause-bytes_shared c = c.requires.shared (bytes Mon)

pub join-requires-2-clause-messages : goal.join-requires-2-clause-messages
join-requires-2-clause-messages c = place_at c.args.throttles.now c.args.self.now (messages Mds) c.requires.passes

pub join-requires-2-clause-other_messages : goal.join-requires-2-clause-other_messages
join-requires-2-clause-other_messages c = place_at c.args.throttles.now c.args.other (messages Mds) c.requires.other

pub join-requires-2-clause-bytes : goal.join-requires-2-clause-bytes
join-requires-2-clause-bytes c = place_at c.args.throttles.now c.args.self.now (bytes Mds) c.requires.passes

pub join-requires-2-clause-other_bytes : goal.join-requires-2-clause-other_bytes
join-requires-2-clause-other_bytes c = place_at c.args.throttles.now c.args.other (bytes Mds) c.requires.other

pub join-requires-2-clause-messages_shared : goal.join-requires-2-clause-messages_shared
join-requires-2-clause-messages_shared c = c.requires.shared (messages Mds)

pub join-requires-2-clause-bytes_shared : goal.join-requires-2-clause-bytes_shared
join-requires-2-clause-bytes_shared c = c.requires.shared (bytes Mds)

pub join-requires-3-clause-messages : goal.join-requires-3-clause-messages
join-requires-3-clause-messages c = place_at c.args.throttles.now c.args.self.now (messages Osd) c.requires.passes

pub join-requires-3-clause-other_messages : goal.join-requires-3-clause-other_messages
join-requires-3-clause-other_messages c = place_at c.args.throttles.now c.args.other (messages Osd) c.requires.other

pub join-requires-3-clause-bytes : goal.join-requires-3-clause-bytes
join-requires-3-clause-bytes c = place_at c.args.throttles.now c.args.self.now (bytes Osd) c.requires.passes

pub join-requires-3-clause-other_bytes : goal.join-requires-3-clause-other_bytes
join-requires-3-clause-other_bytes c = place_at c.args.throttles.now c.args.other (bytes Osd) c.requires.other

pub join-requires-3-clause-messages_shared : goal.join-requires-3-clause-messages_shared
join-requires-3-clause-messages_shared c = c.requires.shared (messages Osd)

pub join-requires-3-clause-bytes_shared : goal.join-requires-3-clause-bytes_shared
join-requires-3-clause-bytes_shared c = c.requires.shared (bytes Osd)

pub join-requires-4-clause-messages : goal.join-requires-4-clause-messages
join-requires-4-clause-messages c = place_at c.args.throttles.now c.args.self.now (messages Client) c.requires.passes

pub join-requires-4-clause-other_messages : goal.join-requires-4-clause-other_messages
join-requires-4-clause-other_messages c = place_at c.args.throttles.now c.args.other (messages Client) c.requires.other

pub join-requires-4-clause-bytes : goal.join-requires-4-clause-bytes
join-requires-4-clause-bytes c = place_at c.args.throttles.now c.args.self.now (bytes Client) c.requires.passes

pub join-requires-4-clause-other_bytes : goal.join-requires-4-clause-other_bytes
join-requires-4-clause-other_bytes c = place_at c.args.throttles.now c.args.other (bytes Client) c.requires.other

pub join-requires-4-clause-messages_shared : goal.join-requires-4-clause-messages_shared
join-requires-4-clause-messages_shared c = c.requires.shared (messages Client)

pub join-requires-4-clause-bytes_shared : goal.join-requires-4-clause-bytes_shared
join-requires-4-clause-bytes_shared c = c.requires.shared (bytes Client)

pub join-requires-5-clause-messages : goal.join-requires-5-clause-messages
join-requires-5-clause-messages c = place_at c.args.throttles.now c.args.self.now (messages Mgr) c.requires.passes

pub join-requires-5-clause-other_messages : goal.join-requires-5-clause-other_messages
join-requires-5-clause-other_messages c = place_at c.args.throttles.now c.args.other (messages Mgr) c.requires.other

pub join-requires-5-clause-bytes : goal.join-requires-5-clause-bytes
join-requires-5-clause-bytes c = place_at c.args.throttles.now c.args.self.now (bytes Mgr) c.requires.passes

pub join-requires-5-clause-other_bytes : goal.join-requires-5-clause-other_bytes
join-requires-5-clause-other_bytes c = place_at c.args.throttles.now c.args.other (bytes Mgr) c.requires.other

pub join-requires-5-clause-messages_shared : goal.join-requires-5-clause-messages_shared
join-requires-5-clause-messages_shared c = c.requires.shared (messages Mgr)

pub join-requires-5-clause-bytes_shared : goal.join-requires-5-clause-bytes_shared
join-requires-5-clause-bytes_shared c = c.requires.shared (bytes Mgr)

pub join-requires-6-clause-pass : goal.join-requires-6-clause-pass
join-requires-6-clause-pass c = place_at c.args.throttles.now c.args.self.now dispatch c.requires.passes

pub join-requires-6-clause-other : goal.join-requires-6-clause-other
join-requires-6-clause-other c = place_at c.args.throttles.now c.args.other dispatch c.requires.other

pub join-requires-6-clause-shared : goal.join-requires-6-clause-shared
join-requires-6-clause-shared c = c.requires.shared dispatch
