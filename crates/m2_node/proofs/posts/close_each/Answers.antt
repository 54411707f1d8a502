-- One mail more is closed, and at the end all.
use Rattle.std.proofs.Common.{◌≡◌, ◌∙◌, ℕ, ◌++◌, [], ◌∷◌, drop, length, map, reverse, take, refl, ap, sym, subst, arith}
use Rattle.std.proofs.lemmas.List.{length-reverse, nil_from_length}
use Rattle.std.specs.Prelude.{vec_len}
use Rattle.m2_node.specs.Handing.{worker_of}
use Rattle.m2_node.specs.Posts.{ClosesAll}
use Rattle.m2_node.specs.Working.{WorkerNow}
use Rattle.m2_node.proofs.MailsClosed.{all_closed, next_closable, none_closed, one_more_closed}
use Rattle.m2_node.proofs.Places.{reverse_last}
use Rattle.m2_node.proofs.posts.close_each.Goals as goal

pub mails-init : goal.mails-init
mails-init g c = record {
  so_far = none_closed (reverse c.args.gets.items) (reverse c.args.mails.now.items) (reverse c.args.senders.now.items) c.args.workers.now.items c.args.dispatcher.now c.requires.closable;
  room = c.requires.room;
  capacity = refl;
}

pub close_sender-worker-requires-clause-sends : goal.close_sender-worker-requires-clause-sends
close_sender-worker-requires-clause-sends g c =
    let get = ap reverse c.in-Some.ensures.items ∙ reverse_last c.pop.new.self.items c.in-Some.get in
    let mail = ap reverse c.in-Some-pop.ensures.items ∙ reverse_last c.pop-in-Some.new.self.items c.in-Some-pop.mail in
    let sender = ap reverse c.in-Some-pop-2.ensures.items ∙ reverse_last c.pop-in-Some-2.new.self.items c.in-Some-pop-2.sender in
    (next_closable _ _ _ _ _ _ _ _ _ _ _ _ _ _ _ _ get mail sender c.mails.invariant.so_far).2

pub close_sender-worker-requires-clause-gets : goal.close_sender-worker-requires-clause-gets
close_sender-worker-requires-clause-gets g c =
    let get = ap reverse c.in-Some.ensures.items ∙ reverse_last c.pop.new.self.items c.in-Some.get in
    let mail = ap reverse c.in-Some-pop.ensures.items ∙ reverse_last c.pop-in-Some.new.self.items c.in-Some-pop.mail in
    let sender = ap reverse c.in-Some-pop-2.ensures.items ∙ reverse_last c.pop-in-Some-2.new.self.items c.in-Some-pop-2.sender in
    (next_closable _ _ _ _ _ _ _ _ _ _ _ _ _ _ _ _ get mail sender c.mails.invariant.so_far).0

pub close_sender-worker-requires-clause-throttles : goal.close_sender-worker-requires-clause-throttles
close_sender-worker-requires-clause-throttles g c =
    let get = ap reverse c.in-Some.ensures.items ∙ reverse_last c.pop.new.self.items c.in-Some.get in
    let mail = ap reverse c.in-Some-pop.ensures.items ∙ reverse_last c.pop-in-Some.new.self.items c.in-Some-pop.mail in
    let sender = ap reverse c.in-Some-pop-2.ensures.items ∙ reverse_last c.pop-in-Some-2.new.self.items c.in-Some-pop-2.sender in
    (next_closable _ _ _ _ _ _ _ _ _ _ _ _ _ _ _ _ get mail sender c.mails.invariant.so_far).1 ∙ sym c.mails.invariant.so_far.throttles

pub mails-preserved : goal.mails-preserved
mails-preserved g c =
    let get = ap reverse c.in-Some.ensures.items ∙ reverse_last c.pop.new.self.items c.in-Some.get in
    let mail = ap reverse c.in-Some-pop.ensures.items ∙ reverse_last c.pop-in-Some.new.self.items c.in-Some-pop.mail in
    let sender = ap reverse c.in-Some-pop-2.ensures.items ∙ reverse_last c.pop-in-Some-2.new.self.items c.in-Some-pop-2.sender in
    let same = c.close_sender-worker.ensures.worker in
    record {
      so_far = one_more_closed _ _ _ _ _ _ _ _ _ _ _ _ _ _ _ _ get mail sender c.mails.invariant.so_far c.push_reserved.new.self.items c.close_sender-worker.new.dispatcher
          (c.push_reserved.ensures.items ∙ ap (λ (w : WorkerNow). c.mails.workers.items ++ w ∷ []) same) c.close_sender-worker.ensures.closed;
      room = omega (arith, c.mails.invariant.room, c.in-Some.ensures.len, c.push_reserved.ensures.len, c.push_reserved.ensures.capacity);
      capacity = c.push_reserved.ensures.capacity ∙ c.mails.invariant.capacity;
    }

pub returns-clause-workers : goal.returns-clause-workers
returns-clause-workers g c =
    let l = c.mails in
    let none : l.gets.items ≡ [] = nil_from_length l.gets.items (sym l.gets.ok.0 ∙ c.in_default.ensures.cases.0) in
    let all = all_closed _ _ _ _ _ _ _ _ _ _ (ap reverse none) l.invariant.so_far in
    let count : length (reverse c.args.gets.items) ≡ vec_len c.args.gets = length-reverse c.args.gets.items ∙ sym c.args.gets.ok.0 in
    all.workers_are ∙ ap (λ (n : ℕ). c.args.workers.now.items ++ map worker_of (take n (reverse c.args.senders.now.items))) count

pub returns-clause-senders : goal.returns-clause-senders
returns-clause-senders g c =
    let l = c.mails in
    let none : l.gets.items ≡ [] = nil_from_length l.gets.items (sym l.gets.ok.0 ∙ c.in_default.ensures.cases.0) in
    let all = all_closed _ _ _ _ _ _ _ _ _ _ (ap reverse none) l.invariant.so_far in
    let count : length (reverse c.args.gets.items) ≡ vec_len c.args.gets = length-reverse c.args.gets.items ∙ sym c.args.gets.ok.0 in
    all.senders_left ∙ ap (λ (n : ℕ). drop n (reverse c.args.senders.now.items)) count

pub returns-clause-mails : goal.returns-clause-mails
returns-clause-mails g c =
    let l = c.mails in
    let none : l.gets.items ≡ [] = nil_from_length l.gets.items (sym l.gets.ok.0 ∙ c.in_default.ensures.cases.0) in
    let all = all_closed _ _ _ _ _ _ _ _ _ _ (ap reverse none) l.invariant.so_far in
    let count : length (reverse c.args.gets.items) ≡ vec_len c.args.gets = length-reverse c.args.gets.items ∙ sym c.args.gets.ok.0 in
    all.mails_left ∙ ap (λ (n : ℕ). drop n (reverse c.args.mails.now.items)) count

pub returns-clause-closed : goal.returns-clause-closed
returns-clause-closed g c =
    let l = c.mails in
    let none : l.gets.items ≡ [] = nil_from_length l.gets.items (sym l.gets.ok.0 ∙ c.in_default.ensures.cases.0) in
    let all = all_closed _ _ _ _ _ _ _ _ _ _ (ap reverse none) l.invariant.so_far in
    let count : length (reverse c.args.gets.items) ≡ vec_len c.args.gets = length-reverse c.args.gets.items ∙ sym c.args.gets.ok.0 in
    subst (λ (n : ℕ). ClosesAll (reverse c.args.gets.items) (take n (reverse c.args.senders.now.items)) c.args.dispatcher.now l.dispatcher) count
    (all.closes (sym c.is_lost.ensures ∙ c.if-is_lost.false))
