-- The mails of one node more are closed, and at the end those of all.
use Rattle.std.proofs.Common.{◌≡◌, ◌∙◌, ◌+◌, ◌-◌, ◌<◌, length, map, reverse, take, ap, arith, length-drop, length-take}
use Rattle.std.specs.Prelude.{vec_len}
use Rattle.std.proofs.lemmas.List.{length-append, length-map, length-reverse}
use Rattle.m2_bytes.proofs.m2_lemmas.Lists.{all_at}
use Rattle.m2_node.specs.Handing.{worker_of}
use Rattle.m2_node.specs.Sharing.{IsShare}
use Rattle.m2_node.proofs.MailsClosed.{all_servers_closed, enough, no_servers_closed, one_more_server, server_closable, server_merged}
use Rattle.m2_node.proofs.Places.{There, reverse_last, there_at}
use Rattle.m2_node.proofs.posts.close_servers.Goals as goal

pub nodes-init : goal.nodes-init
nodes-init g c =
    let p = c.args.posts.now in
    record {
      closed = no_servers_closed c.args.nodes.now c.args.shares.now (reverse p.mails.items) (reverse p.senders.items) (reverse p.servers.items) c.reserve.new.self.items c.reserve-2.new.self.items
          (c.reserve.ensures.items ∙ c.requires.no_workers) (c.reserve-2.ensures.items ∙ c.requires.no_dispatchers) c.requires.groups c.requires.posts;
      worker_room = omega (arith, c.in_ok-reserve.ensures.ok, c.len.ensures);
      dispatcher_room = omega (arith, c.in_ok-reserve-2.ensures.ok, c.len-2.ensures);
    }

pub close_server-requires-clause-closable : goal.close_server-requires-clause-closable
close_server-requires-clause-closable g c =
    let l = c.nodes in
    let nodes = c.args.nodes.now in
    let shares = c.args.shares.now in
    let within : l.counter < length nodes = omega arith in
    let within_too : l.counter < length shares = omega arith in
    let x : There nodes l.counter = there_at nodes l.counter within in
    let s : There shares l.counter = there_at shares l.counter within_too in
    let first = ap reverse c.in-Some.ensures.items ∙ reverse_last c.pop.new.self.items c.in-Some.server in
    server_closable nodes shares l.counter _ (reverse l.mails.items) _ (reverse l.senders.items) (reverse l.servers.items) (reverse c.pop.new.self.items) l.workers.items l.dispatchers.items x.item s.item c.in-Some.server x.there
    s.there first l.invariant.closed

pub close_server-requires-clause-merged : goal.close_server-requires-clause-merged
close_server-requires-clause-merged g c =
    let l = c.nodes in
    let nodes = c.args.nodes.now in
    let shares = c.args.shares.now in
    let within : l.counter < length nodes = omega arith in
    let within_too : l.counter < length shares = omega arith in
    let x : There nodes l.counter = there_at nodes l.counter within in
    let s : There shares l.counter = there_at shares l.counter within_too in
    let first = ap reverse c.in-Some.ensures.items ∙ reverse_last c.pop.new.self.items c.in-Some.server in
    server_merged nodes shares l.counter _ (reverse l.mails.items) _ (reverse l.senders.items) (reverse l.servers.items) (reverse c.pop.new.self.items) l.workers.items l.dispatchers.items x.item s.item c.in-Some.server x.there
    s.there first l.invariant.closed

pub close_server-requires-clause-room : goal.close_server-requires-clause-room
close_server-requires-clause-room g c =
    let l = c.nodes in
    let nodes = c.args.nodes.now in
    let shares = c.args.shares.now in
    let within : l.counter < length nodes = omega arith in
    let within_too : l.counter < length shares = omega arith in
    let x : There nodes l.counter = there_at nodes l.counter within in
    let s : There shares l.counter = there_at shares l.counter within_too in
    let first = ap reverse c.in-Some.ensures.items ∙ reverse_last c.pop.new.self.items c.in-Some.server in
    let few = enough nodes shares l.counter _ (reverse l.mails.items) _ (reverse l.senders.items) (reverse l.servers.items) (reverse c.pop.new.self.items) l.workers.items l.dispatchers.items x.item s.item c.in-Some.server x.there
    s.there first l.invariant.closed in
    omega (arith, few, length-reverse l.senders.items, l.senders.ok.0, l.invariant.worker_room)

pub nodes-preserved : goal.nodes-preserved
nodes-preserved g c =
    let l = c.nodes in
    let nodes = c.args.nodes.now in
    let shares = c.args.shares.now in
    let within : l.counter < length nodes = omega arith in
    let within_too : l.counter < length shares = omega arith in
    let x : There nodes l.counter = there_at nodes l.counter within in
    let s : There shares l.counter = there_at shares l.counter within_too in
    let first = ap reverse c.in-Some.ensures.items ∙ reverse_last c.pop.new.self.items c.in-Some.server in
    let d = c.in_ok-dispatcher.dispatcher in
    let told = c.in_ok-dispatcher.ensures in
    let gets = c.in-Some.server.gets in
    let ss = reverse l.senders.items in
    let senders = c.close_server.new.senders in
    let workers = c.close_server.new.workers in
    let few = enough nodes shares l.counter _ (reverse l.mails.items) _ (reverse l.senders.items) (reverse l.servers.items) (reverse c.pop.new.self.items) l.workers.items l.dispatchers.items x.item s.item c.in-Some.server x.there
    s.there first l.invariant.closed in
    let shared = (all_at IsShare shares l.counter s.item s.there c.requires.shared).throttles in
    let left : vec_len senders ≡ vec_len l.senders - length gets =
    omega (arith, senders.ok.0, length-reverse senders.items, ap length told.senders, length-drop (length gets) ss, length-reverse l.senders.items, l.senders.ok.0) in
    let more : vec_len workers ≡ vec_len l.workers + length gets =
    omega (
      arith,
      workers.ok.0,
      ap length told.workers,
      length-append l.workers.items (map worker_of (take (length gets) ss)),
      length-map (take (length gets) ss) worker_of,
      length-take (length gets) ss,
      l.workers.ok.0,
      few,
    ) in
    record {
      closed = one_more_server nodes shares l.counter _ (reverse l.mails.items) _ (reverse l.senders.items) (reverse l.servers.items) (reverse c.pop.new.self.items) l.workers.items l.dispatchers.items x.item s.item c.in-Some.server x.there
          s.there first l.invariant.closed (reverse c.close_server.new.mails.items) (reverse senders.items) workers.items c.push_reserved.new.self.items d shared told.throttles told.handed told.mails
          told.senders told.workers c.push_reserved.ensures.items;
      worker_room = omega (arith, left, more, few, length-reverse l.senders.items, l.senders.ok.0, l.invariant.worker_room, c.close_server.ensures.capacity);
      dispatcher_room = omega (arith, l.invariant.dispatcher_room, c.in-Some.ensures.len, c.push_reserved.ensures.len, c.push_reserved.ensures.capacity);
    }

pub returns-clause-workers : goal.returns-clause-workers
returns-clause-workers g c =
    let l = c.nodes in
    (all_servers_closed c.args.nodes.now c.args.shares.now l.counter _ _ _ _ _ l.workers.items l.dispatchers.items (omega arith) l.invariant.closed).0

pub returns-clause-dispatched : goal.returns-clause-dispatched
returns-clause-dispatched g c =
    let l = c.nodes in
    (all_servers_closed c.args.nodes.now c.args.shares.now l.counter _ _ _ _ _ l.workers.items l.dispatchers.items (omega arith) l.invariant.closed).1
