-- One more strand is listed, and those before it still are.
use Rattle.std.proofs.Common.{◌≡◌, ◌<◌, [], ◌++◌, ◌∙◌, subst, sym, ap, length, take, drop, arith, List}
use Rattle.std.specs.Prelude.{slice_index_or}
use Rattle.std.proofs.lemmas.List.{take_at}
use Rattle.m2_weave.specs.declared.users.Users.{Users}
use Rattle.m2_weave.specs.Counted.{entries_of}
use Rattle.m2_weave.specs.Users.{ListsMore}
use Rattle.m2_weave.proofs.Listing.{entries-at, entries-count, within-at, strands-more}
use Rattle.m2_weave.proofs.users.users_of.Goals as goal

pub list_all-requires : goal.list_all-requires
list_all-requires c =
    let k : c.loop-k.k < length c.args.strands.now = omega arith in
    let es : slice_index_or (entries_of c.args.strands.now) c.loop-k.k [] ≡ c.as_slice.result.now =
    entries-at c.args.strands.now c.loop-k.k c.index-strands-k.result k c.index-strands-k.is ∙ sym c.as_slice.ensures in
    let n : c.args.counters ≡ length c.deref_mut.result.now = sym (ap length c.deref_mut.ensures.value ∙ c.loop-k.invariant.count) in
    record {
      within = within-at c.args.counters (length c.deref_mut.result.now) _ c.as_slice.result.now n es
          (c.requires.within c.loop-k.k [] (omega (arith, entries-count c.args.strands.now)));
    }

pub loop-k-preserved : goal.loop-k-preserved
loop-k-preserved c =
    let k : c.loop-k.k < length c.args.strands.now = omega arith in
    let back : take c.loop-k.users.len (c.list_all.new.users ++ drop (length c.list_all.new.users) c.loop-k.users.items) ≡ c.list_all.new.users =
    take_at c.list_all.new.users (drop (length c.list_all.new.users) c.loop-k.users.items) c.loop-k.users.len (omega arith) in
    let more : ListsMore c.deref_mut.result.now c.list_all.new.users = c.in_ok-list_all.ensures.more in
    record {
      count = ap length back ∙ more.count ∙ ap length c.deref_mut.ensures.value ∙ c.loop-k.invariant.count;
      listed = strands-more c.args.strands.now c.loop-k.users.items c.list_all.new.users _ c.loop-k.k c.index-strands-k.result c.as_slice.result.now
          back k c.index-strands-k.is c.as_slice.ensures
          (let P : List Users → Type 0 = λ us. ListsMore us c.list_all.new.users in subst P c.deref_mut.ensures.value more)
          c.loop-k.invariant.listed c.in_ok-list_all.ensures.listed;
    }
