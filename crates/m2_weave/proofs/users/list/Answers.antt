-- The strand is behind those that were listed, or is the last of them.
use Rattle.std.proofs.Common.{◌<◌, length, subst, sym}
use Rattle.std.specs.Prelude.{slice_set}
use Rattle.m2_weave.specs.Users.{IsListed, IsNeedWithin}
use Rattle.m2_weave.proofs.Listing.{lists-one, listed-one}
use Rattle.m2_weave.proofs.users.list.Goals as goal

pub returns-in_ok-push-clause-more : goal.returns-in_ok-push-clause-more
returns-in_ok-push-clause-more c =
    let within : c.in-AtLeast.counter < length c.args.users.now =
    subst (λ n. IsNeedWithin (length c.args.users.now) n) c.in-AtLeast.is c.requires.within in
    lists-one c.args.users.now c.in-AtLeast.counter (record { strands = c.push.new.self }) _ c.args.strand within c.in_ok-push.ensures.items

pub returns-in_ok-push-clause-listed : goal.returns-in_ok-push-clause-listed
returns-in_ok-push-clause-listed c =
    let within : c.in-AtLeast.counter < length c.args.users.now =
    subst (λ n. IsNeedWithin (length c.args.users.now) n) c.in-AtLeast.is c.requires.within in
    subst (λ n. IsListed (slice_set c.args.users.now c.in-AtLeast.counter (record { strands = c.push.new.self })) c.args.strand n) (sym c.in-AtLeast.is)
    (listed-one c.args.users.now c.in-AtLeast.counter (record { strands = c.push.new.self }) _ c.args.strand within c.in_ok-push.ensures.items)
