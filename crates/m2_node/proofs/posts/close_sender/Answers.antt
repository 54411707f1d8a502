-- What is left in the mail is dispatched, and then what waited for room.
use Rattle.std.proofs.Common.{sym, subst}
use Rattle.m2_node.specs.Dispatching.{taken_by}
use Rattle.m2_node.specs.Handing.{IsSending, SenderNow, handed_by}
use Rattle.m2_node.specs.Posts.{ClosesSender}
use Rattle.m2_node.proofs.MailsClosed.{sender_closed}
use Rattle.m2_node.proofs.posts.close_sender.Goals as goal

pub returns-clause-closed : goal.returns-clause-closed
returns-clause-closed g c =
    let i = c.sender.inside in
    let s : SenderNow = record { worker = i.worker; put = i.put; waiting = i.waiting.items } in
    let sends : IsSending c.args.mail s = subst (IsSending c.args.mail) (sym c.sender.view_is) c.requires.sends in
    let closed = sender_closed c.args.mail s c.args.get c.args.dispatcher.now c.close_mail.new.to c.dispatch_all.new.to sends c.close_mail.ensures c.dispatch_all.ensures.dispatched in
    subst (λ (t : SenderNow). ClosesSender (taken_by c.args.get) (handed_by t.worker.center) c.args.dispatcher.now c.dispatch_all.new.to) c.sender.view_is closed
