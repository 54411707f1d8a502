-- One thread more with its mail, and at the end the node's dispatcher.
use Rattle.std.proofs.Common.{◌≡◌, ◌∙◌, ◌-◌, ◌++◌, ◌∷◌, [], ℕ, List, false, length, reverse, take, drop, ap, subst, arith}
use Rattle.m2_dispatch.specs.m2_shared.declared.throttles.Throttles.{Throttles}
use Rattle.m2_node.specs.Dispatching.{DispatcherNow, IsNewMail, ServingNow}
use Rattle.m2_node.specs.Posts.{PostsNow}
use Rattle.m2_node.specs.Sharing.{ShareNow}
use Rattle.m2_node.specs.Watching.{WatchNow}
use Rattle.m2_node.proofs.Places.{reverse_last}
use Rattle.m2_node.proofs.Posting.{AddedSoFar, all_added, next_added, none_added, others_behind}
use Rattle.m2_node.proofs.posts.add_posts.Goals as goal

pub centers-init : goal.centers-init
centers-init g c =
    let x = c.args.node.now in
    let s = c.args.shares.now in
    let old = c.args.posts.now in
    let ws = reverse c.args.workers.now.items in
    let senders = c.reserve-2.new.self.items in
    let mails = c.reserve-3.new.self.items in
    let gets = c.in_ok-gets.gets.items in
    let all : x.centers ≡ x.centers - 0 = omega arith in
    record {
      added = subst (λ (n : ℕ). AddedSoFar s n old.senders.items old.mails.items senders mails gets ws (take x.centers ws) (drop x.centers ws)) all
          (none_added x s old.senders.items old.mails.items senders mails gets ws c.reserve-2.ensures.items c.reserve-3.ensures.items c.in_ok-gets.ensures.items c.requires.group c.requires.nothing);
      servers = c.reserve.ensures.items;
      server_room = omega (arith, c.in_ok-reserve.ensures.ok);
      sender_room = omega (arith, c.in_ok-reserve-2.ensures.ok);
      mail_room = omega (arith, c.in_ok-reserve-3.ensures.ok);
      first = omega (arith, c.len-first.ensures, c.reserve-3.new.self.ok.0, ap length c.reserve-3.ensures.items);
    }

pub centers-preserved : goal.centers-preserved
centers-preserved g c =
    let l = c.centers in
    let x = c.args.node.now in
    let s = c.args.shares.now in
    let old = c.args.posts.now in
    let ws = reverse c.args.workers.now.items in
    let mail = c.in_ok-mail.mail in
    let put = c.in_ok-mail.put in
    let get = c.in_ok-mail.get in
    let w = c.in-Some.worker in
    let rest = reverse c.pop.new.self.items in
    let new = subst (λ (t : Throttles). IsNewMail t mail put get) (ap (λ (v : ShareNow). v.throttles) c.shares.view_is) c.in_ok-mail.ensures in
    record {
      added = next_added s x.centers l.counter old.senders.items old.mails.items l.posts.senders.items c.push_reserved-in-centers.new.self.items l.posts.mails.items c.push_reserved.new.self.items
          l.gets.items c.push.new.self.items (reverse l.workers.items) rest (take x.centers ws) (drop x.centers ws) w mail put get c.new.result.items c.centers-test.true c.requires.shared
          l.invariant.added (ap reverse c.in-Some.ensures.items ∙ reverse_last c.pop.new.self.items w) c.push_reserved-in-centers.ensures.items c.push_reserved.ensures.items c.in_ok-push.ensures.items
          new c.new.ensures.items;
      servers = l.invariant.servers;
      server_room = l.invariant.server_room;
      sender_room = omega (arith, l.invariant.sender_room, c.push_reserved-in-centers.ensures.len, c.push_reserved-in-centers.ensures.capacity);
      mail_room = omega (arith, l.invariant.mail_room, c.push_reserved.ensures.len, c.push_reserved.ensures.capacity);
      first = l.invariant.first;
    }

pub returns-clause-adds : goal.returns-clause-adds
returns-clause-adds g c =
    let l = c.centers in
    let x = c.args.node.now in
    let s = c.args.shares.now in
    let p = c.args.posts.now in
    let old : PostsNow = record { senders = p.senders.items; servers = p.servers.items; mails = p.mails.items } in
    let ws = reverse c.args.workers.now.items in
    let gets = l.gets.items in
    let at : _ ≡ s.throttles = ap (λ (v : ShareNow). v.throttles) c.shares.view_is in
    let new : DispatcherNow = record { throttles = s.throttles; log = []; lost = false } in
    let is = c.new-2.ensures ∙ ap (λ (t : Throttles). record { throttles = t; log = []; lost = false }) at in
    all_added x s x.centers l.counter old l.posts.senders.items l.posts.mails.items gets c.push_reserved-2.new.self.items (reverse l.workers.items) (take x.centers ws) (drop x.centers ws)
    c.centers-test.false c.requires.group l.invariant.added
    (c.push_reserved-2.ensures.items
    ∙ ap (λ (vs : List ServingNow). vs ++ record { dispatcher = c.new-2.result; gets = gets; first = c.len-first.result; started = x.started; watch = c.new-3.result } ∷ []) l.invariant.servers
    ∙ ap (λ (d : DispatcherNow). old.servers ++ record { dispatcher = d; gets = gets; first = c.len-first.result; started = x.started; watch = c.new-3.result } ∷ []) is
    ∙ ap (λ (n : ℕ). old.servers ++ record { dispatcher = new; gets = gets; first = n; started = x.started; watch = c.new-3.result } ∷ []) l.invariant.first
    ∙ ap (λ (w : WatchNow). old.servers ++ record { dispatcher = new; gets = gets; first = length old.mails; started = x.started; watch = w } ∷ []) c.new-3.ensures)

pub returns-clause-left : goal.returns-clause-left
returns-clause-left g c =
    let l = c.centers in
    let x = c.args.node.now in
    let old = c.args.posts.now in
    let ws = reverse c.args.workers.now.items in
    others_behind c.args.shares.now x.centers l.counter old.senders.items old.mails.items l.posts.senders.items l.posts.mails.items l.gets.items (reverse l.workers.items) (take x.centers ws)
    (drop x.centers ws) c.centers-test.false l.invariant.added
