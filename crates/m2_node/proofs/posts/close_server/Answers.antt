-- The rights are taken from the last one on, so they are turned round first.
use Rattle.std.proofs.Common.{◌≡◌, ◌∙◌, ℕ, ◌++◌, false, List, drop, length, map, reverse, take, ap, sym, subst, arith}
use Rattle.std.proofs.lemmas.List.{reverse-reverse}
use Rattle.std.specs.Prelude.{vec_len}
use Rattle.m2_dispatch.specs.Heard.{Heard, heard_by}
use Rattle.m2_dispatch.specs.declared.parcel.Parcel.{Parcel}
use Rattle.m2_dispatch.specs.m2_shared.declared.ids.Ids.{Ids}
use Rattle.m2_mailbox.specs.Merge.{IsMerge}
use Rattle.m2_mailbox.specs.declared.passes.GetPass.{GetPass}
use Rattle.m2_node.specs.Dispatching.{ServingNow, taken_by}
use Rattle.m2_node.specs.Handing.{AreHanded, worker_of}
use Rattle.m2_node.specs.Posts.{AreClosable}
use Rattle.m2_node.specs.Working.{center_of}
use Rattle.m2_node.proofs.posts.close_server.Goals as goal

pub close_each-requires-clause-closable : goal.close_each-requires-clause-closable
close_each-requires-clause-closable g c =
    let i = c.server.inside in
    let ms = reverse c.args.mails.now.items in
    let ss = reverse c.args.senders.now.items in
    let gets : reverse c.reverse.new.self.items ≡ i.gets.items = ap reverse c.reverse.ensures.items ∙ reverse-reverse i.gets.items in
    subst (λ (gs : List (GetPass Parcel Ids)). AreClosable i.dispatcher.throttles gs ms ss) (sym gets)
    (subst (λ (v : ServingNow). AreClosable v.dispatcher.throttles v.gets ms ss) (sym c.server.view_is) c.requires.closable)

pub close_each-requires-clause-room : goal.close_each-requires-clause-room
close_each-requires-clause-room g c =
    let i = c.server.inside in
    let same : length i.gets.items ≡ length c.args.server.gets = ap (λ (v : ServingNow). length v.gets) c.server.view_is in
    omega (arith, c.reverse.ensures.len, i.gets.ok.0, same, c.requires.room)

pub returns-in-Ok-clause-throttles : goal.returns-in-Ok-clause-throttles
returns-in-Ok-clause-throttles g c = c.in-Ok.ensures.closed.throttles ∙ ap (λ (v : ServingNow). v.dispatcher.throttles) c.server.view_is

pub returns-in-Ok-clause-handed : goal.returns-in-Ok-clause-handed
returns-in-Ok-clause-handed g c =
    let i = c.server.inside in
    let ss = reverse c.args.senders.now.items in
    let log = c.close_each.new.dispatcher.log in
    let gets : reverse c.reverse.new.self.items ≡ i.gets.items = ap reverse c.reverse.ensures.items ∙ reverse-reverse i.gets.items in
    let count : vec_len c.reverse.new.self ≡ length c.args.server.gets = c.reverse.ensures.len ∙ i.gets.ok.0 ∙ ap (λ (v : ServingNow). length v.gets) c.server.view_is in
    let merged = subst (λ (v : ServingNow). v.dispatcher.lost ≡ false → IsMerge Heard (map taken_by v.gets) (heard_by v.dispatcher.log)) (sym c.server.view_is) c.requires.merged in
    subst (λ (n : ℕ). AreHanded (map center_of (map worker_of (take n ss))) (heard_by log)) count
    (c.in-Ok.ensures.closed.handed (λ lasted. subst (λ (gs : List (GetPass Parcel Ids)). IsMerge Heard (map taken_by gs) (heard_by i.dispatcher.log)) (sym gets) (merged lasted)))

pub returns-in-Ok-clause-workers : goal.returns-in-Ok-clause-workers
returns-in-Ok-clause-workers g c =
    let i = c.server.inside in
    let count : vec_len c.reverse.new.self ≡ length c.args.server.gets = c.reverse.ensures.len ∙ i.gets.ok.0 ∙ ap (λ (v : ServingNow). length v.gets) c.server.view_is in
    c.in-Ok.ensures.workers ∙ ap (λ (n : ℕ). c.args.workers.now.items ++ map worker_of (take n (reverse c.args.senders.now.items))) count

pub returns-in-Ok-clause-senders : goal.returns-in-Ok-clause-senders
returns-in-Ok-clause-senders g c =
    let i = c.server.inside in
    let count : vec_len c.reverse.new.self ≡ length c.args.server.gets = c.reverse.ensures.len ∙ i.gets.ok.0 ∙ ap (λ (v : ServingNow). length v.gets) c.server.view_is in
    c.in-Ok.ensures.senders ∙ ap (λ (n : ℕ). drop n (reverse c.args.senders.now.items)) count

pub returns-in-Ok-clause-mails : goal.returns-in-Ok-clause-mails
returns-in-Ok-clause-mails g c =
    let i = c.server.inside in
    let count : vec_len c.reverse.new.self ≡ length c.args.server.gets = c.reverse.ensures.len ∙ i.gets.ok.0 ∙ ap (λ (v : ServingNow). length v.gets) c.server.view_is in
    c.in-Ok.ensures.mails ∙ ap (λ (n : ℕ). drop n (reverse c.args.mails.now.items)) count
