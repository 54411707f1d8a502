-- One right more, and the passes that it is split off are as they were.
use Rattle.std.proofs.Common.{◌≡◌, ◌∙◌, ◌+◌, ◌<◌, ℕ, List, [], ◌∷◌, ◌++◌, length, get_or, suc, take, ap, sym, subst, arith}
use Rattle.std.specs.Prelude.{Some, slice_get, slice_set}
use Rattle.std.proofs.lemmas.List.{set-get_or}
use Rattle.std.proofs.lemmas.Option.{slice_get-get_or}
use Rattle.m2_dispatch.specs.m2_shared.Gates.{pass_places, places}
use Rattle.m2_node.specs.Sharing.{AreFirstOf, AreRights, FirstPassesNow, ShareNow}
use Rattle.m2_node.proofs.Beside.{side_length}
use Rattle.m2_node.proofs.RightsSplit.{first_there, one_right, unused_passes}
use Rattle.m2_node.proofs.sharing.rights_of.Goals as goal

pub index_mut-requires : goal.index_mut-requires
index_mut-requires c =
    let l = c.nodes in
    let same = ap length l.invariant.same in
    let long = side_length AreFirstOf c.args.shares.now c.args.passes.now.items c.requires.1.first in
    omega (arith, c.nodes-test.true, same, long, l.passes.ok.0)

pub split_right-right-requires-clause-throttles : goal.split_right-right-requires-clause-throttles
split_right-right-requires-clause-throttles c =
    let l = c.nodes in
    let shares = c.args.shares.now in
    let passes = c.args.passes.now.items in
    let s : ShareNow = c.index-shares-k.result in
    let p : FirstPassesNow = c.index_mut.result.now in
    let long = side_length AreFirstOf shares passes c.requires.1.first in
    let within : l.k < length passes = omega (arith, c.nodes-test.true, long) in
    let read : p ≡ get_or passes l.k p = c.index_mut.ensures.value ∙ ap (λ (ps : List FirstPassesNow). get_or ps l.k p) l.invariant.same in
    let here : slice_get shares l.k ≡ Some s = slice_get-get_or shares l.k s c.nodes-test.true ∙ ap Some (sym c.index-shares-k.is) in
    let there : slice_get passes l.k ≡ Some p = slice_get-get_or passes l.k p within ∙ ap Some (sym read) in
    ap pass_places (first_there c.requires.0 shares passes l.k s p c.requires.1 here there).throttles ∙ unused_passes s.throttles ∙ ap places (sym c.shared.ensures.throttles)

pub nodes-preserved : goal.nodes-preserved
nodes-preserved c =
    let l = c.nodes in
    let shares = c.args.shares.now in
    let s : ShareNow = c.index-shares-k.result in
    let p : FirstPassesNow = c.index_mut.result.now in
    let here : slice_get shares l.k ≡ Some s = slice_get-get_or shares l.k s c.nodes-test.true ∙ ap Some (sym c.index-shares-k.is) in
    let next : suc l.k ≡ l.k + 1 = omega arith in
    record {
      same = ap (slice_set l.passes.items l.k) (c.split_right-right.ensures.same ∙ c.index_mut.ensures.value) ∙ set-get_or l.passes.items l.k p ∙ l.invariant.same;
      rights = subst (AreRights (take (l.k + 1) shares)) (sym c.in_ok-push.ensures.items)
          (subst (λ (n : ℕ). AreRights (take n shares) (l.rights.items ++ c.split_right-right.result ∷ [])) next
          (one_right shares l.rights.items l.k s c.split_right-right.result here (ap pass_places c.split_right-right.ensures.throttles ∙ unused_passes c.shared.result.now.throttles ∙ ap places c.shared.ensures.throttles) l.invariant.rights));
    }
