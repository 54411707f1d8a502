-- One node more, and at the end all.
use Rattle.std.proofs.Common.{◌≡◌, ◌∙◌, Some, reverse, refl, ap, sym}
use Rattle.std.specs.Prelude.{slice_get}
use Rattle.std.proofs.lemmas.Option.{slice_get-get_or}
use Rattle.m2_bytes.proofs.m2_lemmas.Lists.{all_at, all_take}
use Rattle.m2_scenario.specs.declared.node.Node.{Node}
use Rattle.m2_node.specs.Handing.{HasHandedNothing}
use Rattle.m2_node.specs.Sharing.{IsShare, ShareNow}
use Rattle.m2_node.proofs.Places.{reverse_last}
use Rattle.m2_node.proofs.Posting.{all_posts, first_right, no_posts, one_more_posts}
use Rattle.m2_node.proofs.Workers.{first_group, share_there}
use Rattle.m2_node.proofs.posts.add_all_posts.Goals as goal

pub nodes-init : goal.nodes-init
nodes-init g c =
    let ws = reverse c.args.workers.now.items in
    record {
      so_far = no_posts c.args.nodes.now c.args.shares.now ws ws _ c.requires.no_senders c.requires.no_servers c.requires.no_mails refl c.requires.groups c.requires.nothing;
      rights = c.requires.rights;
    }

pub bounds-shares-k : goal.bounds-shares-k
bounds-shares-k g c = share_there c.args.nodes.now c.args.shares.now (reverse c.nodes.workers.items) c.nodes.k c.nodes-test.true c.nodes.invariant.so_far.groups

pub add_posts-requires-clause-group : goal.add_posts-requires-clause-group
add_posts-requires-clause-group g c =
    let l = c.nodes in
    let nodes = c.args.nodes.now in
    let shares = c.args.shares.now in
    let ws = reverse l.workers.items in
    let x : Node = c.index-nodes-k.result in
    let s : ShareNow = c.index-shares-k.result in
    let here : slice_get nodes l.k ≡ Some x = slice_get-get_or nodes l.k x c.nodes-test.true ∙ ap Some (sym c.index-nodes-k.is) in
    let within = share_there nodes shares ws l.k c.nodes-test.true l.invariant.so_far.groups in
    let there : slice_get shares l.k ≡ Some s = slice_get-get_or shares l.k s within ∙ ap Some (sym c.index-shares-k.is) in
    (first_group nodes shares ws l.k x s here there l.invariant.so_far.groups).0

pub add_posts-requires-clause-nothing : goal.add_posts-requires-clause-nothing
add_posts-requires-clause-nothing g c =
    let x : Node = c.index-nodes-k.result in
    all_take HasHandedNothing x.centers (reverse c.nodes.workers.items) c.nodes.invariant.so_far.nothing

pub add_posts-requires-clause-shared : goal.add_posts-requires-clause-shared
add_posts-requires-clause-shared g c =
    let l = c.nodes in
    let shares = c.args.shares.now in
    let s : ShareNow = c.index-shares-k.result in
    let within = share_there c.args.nodes.now shares (reverse l.workers.items) l.k c.nodes-test.true l.invariant.so_far.groups in
    let there : slice_get shares l.k ≡ Some s = slice_get-get_or shares l.k s within ∙ ap Some (sym c.index-shares-k.is) in
    (all_at IsShare shares l.k s there c.requires.shared).throttles

pub add_posts-requires-clause-right : goal.add_posts-requires-clause-right
add_posts-requires-clause-right g c =
    let l = c.nodes in
    let shares = c.args.shares.now in
    let s : ShareNow = c.index-shares-k.result in
    let within = share_there c.args.nodes.now shares (reverse l.workers.items) l.k c.nodes-test.true l.invariant.so_far.groups in
    let there : slice_get shares l.k ≡ Some s = slice_get-get_or shares l.k s within ∙ ap Some (sym c.index-shares-k.is) in
    (first_right shares (reverse l.rights.items) (reverse c.pop.new.self.items) l.k s c.in-Some.right there (ap reverse c.in-Some.ensures.items ∙ reverse_last c.pop.new.self.items c.in-Some.right)
    l.invariant.rights).0

pub nodes-preserved : goal.nodes-preserved
nodes-preserved g c =
    let l = c.nodes in
    let nodes = c.args.nodes.now in
    let shares = c.args.shares.now in
    let ws = reverse l.workers.items in
    let x : Node = c.index-nodes-k.result in
    let s : ShareNow = c.index-shares-k.result in
    let here : slice_get nodes l.k ≡ Some x = slice_get-get_or nodes l.k x c.nodes-test.true ∙ ap Some (sym c.index-nodes-k.is) in
    let within = share_there nodes shares ws l.k c.nodes-test.true l.invariant.so_far.groups in
    let there : slice_get shares l.k ≡ Some s = slice_get-get_or shares l.k s within ∙ ap Some (sym c.index-shares-k.is) in
    record {
      so_far = one_more_posts nodes shares l.k (reverse c.args.workers.now.items) ws (reverse c.add_posts.new.workers.items) _ _ x s here there c.in_ok-add_posts.ensures.adds
          c.in_ok-add_posts.ensures.left l.invariant.so_far;
      rights = (first_right shares (reverse l.rights.items) (reverse c.pop.new.self.items) l.k s c.in-Some.right there (ap reverse c.in-Some.ensures.items ∙ reverse_last c.pop.new.self.items c.in-Some.right)
          l.invariant.rights).1;
    }

pub returns : goal.returns
returns g c =
    let l = c.nodes in
    all_posts c.args.nodes.now c.args.shares.now l.k (reverse c.args.workers.now.items) (reverse l.workers.items) _ c.nodes-test.false l.invariant.so_far
