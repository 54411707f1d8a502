-- One more is closed.
use Rattle.std.proofs.Common.{◌≡◌, ◌∙◌, [], drop, length, reverse, ap, sym, subst}
use Rattle.std.proofs.lemmas.Bool.{eqb-true}
use Rattle.std.proofs.lemmas.List.{length-reverse, nil_from_length, reverse-reverse}
use Rattle.m2_run.specs.Closing.{AreAllRightsTo}
use Rattle.m2_run.proofs.Closes.{all_over, drop_last, last_rights, none_over_yet, one_over_more}
use Rattle.m2_run.proofs.inboxes.close_some.Goals as goal

pub threads-init : goal.threads-init
threads-init g c =
    let bs = c.args.inboxes.now.items in
    let ps = c.args.rights.now.puts.items in
    let gs = c.args.rights.now.gets.items in
    let puts : reverse c.reverse.new.self.items ≡ ps = ap reverse c.reverse.ensures.items ∙ reverse-reverse ps in
    let gets : reverse c.reverse-2.new.self.items ≡ gs = ap reverse c.reverse-2.ensures.items ∙ reverse-reverse gs in
    record {
      rights = subst (λ xs. AreAllRightsTo (reverse bs) xs (reverse c.reverse-2.new.self.items)) (sym puts) (subst (AreAllRightsTo (reverse bs) ps) (sym gets) c.requires);
      over = none_over_yet c.args.into.now.items ps c.reverse.new.self.items gs c.reverse-2.new.self.items c.reverse.ensures.items c.reverse-2.ensures.items;
      left = ap (λ n. drop n (reverse bs)) (ap length c.reverse-2.ensures.items ∙ length-reverse gs);
    }

pub close_one-requires-clause-put : goal.close_one-requires-clause-put
close_one-requires-clause-put g c =
    let l = c.threads in
    (last_rights l.inboxes.items c.pop-in-Some-2.new.self.items l.puts.items c.pop-in-Some.new.self.items l.gets.items c.pop.new.self.items c.in-Some-pop-2.inbox c.in-Some-pop.put c.in-Some.get
    c.in-Some-pop-2.ensures.items c.in-Some-pop.ensures.items c.in-Some.ensures.items l.invariant.rights).0.puts

pub close_one-requires-clause-get : goal.close_one-requires-clause-get
close_one-requires-clause-get g c =
    let l = c.threads in
    (last_rights l.inboxes.items c.pop-in-Some-2.new.self.items l.puts.items c.pop-in-Some.new.self.items l.gets.items c.pop.new.self.items c.in-Some-pop-2.inbox c.in-Some-pop.put c.in-Some.get
    c.in-Some-pop-2.ensures.items c.in-Some-pop.ensures.items c.in-Some.ensures.items l.invariant.rights).0.gets

pub close_one-requires-clause-only : goal.close_one-requires-clause-only
close_one-requires-clause-only g c =
    let l = c.threads in
    (last_rights l.inboxes.items c.pop-in-Some-2.new.self.items l.puts.items c.pop-in-Some.new.self.items l.gets.items c.pop.new.self.items c.in-Some-pop-2.inbox c.in-Some-pop.put c.in-Some.get
    c.in-Some-pop-2.ensures.items c.in-Some-pop.ensures.items c.in-Some.ensures.items l.invariant.rights).0.whole

pub threads-preserved : goal.threads-preserved
threads-preserved g c =
    let l = c.threads in
    let ps = c.args.rights.now.puts.items in
    let gs = c.args.rights.now.gets.items in
    let inboxes = c.in-Some-pop-2.ensures.items in
    let puts = c.in-Some-pop.ensures.items in
    let gets = c.in-Some.ensures.items in
    record {
      rights = (last_rights l.inboxes.items c.pop-in-Some-2.new.self.items l.puts.items c.pop-in-Some.new.self.items l.gets.items c.pop.new.self.items c.in-Some-pop-2.inbox c.in-Some-pop.put
          c.in-Some.get inboxes puts gets l.invariant.rights).1;
      over = one_over_more c.args.into.now.items l.into.items c.close_one.new.into.items ps l.puts.items c.pop-in-Some.new.self.items gs l.gets.items c.pop.new.self.items c.in-Some-pop.put
          c.in-Some.get puts gets c.in_ok-close_one.ensures l.invariant.over;
      left = drop_last l.inboxes.items c.pop-in-Some-2.new.self.items c.in-Some-pop-2.inbox l.gets.items c.pop.new.self.items c.in-Some.get inboxes gets ∙ l.invariant.left;
    }

pub returns-then-is_empty-clause-over : goal.returns-then-is_empty-clause-over
returns-then-is_empty-clause-over g c =
    let l = c.threads in
    let gets : l.gets.items ≡ [] = nil_from_length l.gets.items (sym l.gets.ok.0 ∙ c.in_default.ensures.cases.0) in
    all_over c.args.into.now.items l.into.items c.args.rights.now.puts.items l.puts.items c.args.rights.now.gets.items l.gets.items
    (nil_from_length l.puts.items (sym l.puts.ok.0 ∙ eqb-true l.puts.len 0 (sym c.is_empty.ensures ∙ c.if-is_empty.true))) gets l.invariant.over

pub returns-then-is_empty-clause-left : goal.returns-then-is_empty-clause-left
returns-then-is_empty-clause-left g c =
    let l = c.threads in
    let gets : l.gets.items ≡ [] = nil_from_length l.gets.items (sym l.gets.ok.0 ∙ c.in_default.ensures.cases.0) in
    ap (λ xs. drop (length xs) (reverse l.inboxes.items)) (sym gets) ∙ l.invariant.left
