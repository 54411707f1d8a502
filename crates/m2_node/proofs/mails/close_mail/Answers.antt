-- One parcel more, and at the end all.
use Rattle.std.proofs.Common.{ap, sym, subst, ◌∙◌}
use Rattle.m2_dispatch.specs.Parcel.{IsOwned}
use Rattle.m2_dispatch.specs.m2_shared.Gates.{places}
use Rattle.m2_dispatch.specs.m2_shared.declared.ids.Ids.{Ids}
use Rattle.m2_dispatch.specs.m2_shared.declared.throttles.Throttles.{Throttles}
use Rattle.m2_mailbox.specs.Passes.{taken_of}
use Rattle.m2_mailbox.specs.Rest.{rest_taken}
use Rattle.m2_node.proofs.Dispatched.{nothing_left, one_left}
use Rattle.m2_node.proofs.mails.close_mail.Goals as goal

pub left-init : goal.left-init
left-init g c = record {
  owner = ap (λ (o : Ids). o.of) c.close-rest.ensures.owner ∙ c.requires.throttles;
  puts = c.close-rest.ensures.puts;
  so_far = nothing_left (taken_of c.args.get) (rest_taken c.close-rest.result) c.args.to.now c.close-rest.ensures.taken;
}

pub dispatch-requires : goal.dispatch-requires
dispatch-requires g c = subst (λ (t : Throttles). IsOwned (places t) c.in-Some-next.parcel) c.left.invariant.owner c.in-Some-next.ensures.belongs

pub left-preserved : goal.left-preserved
left-preserved g c = record {
  owner = ap (λ (o : Ids). o.of) c.next-in-left.ensures.owner ∙ c.left.invariant.owner ∙ sym c.dispatch.ensures.throttles;
  puts = c.next-in-left.ensures.puts ∙ c.left.invariant.puts;
  so_far = one_left (taken_of c.args.get) (rest_taken c.left.rest) (rest_taken c.next-in-left.new.self) c.in-Some-next.parcel c.args.to.now c.left.to c.dispatch.new.self c.left.invariant.so_far
      c.in-Some-next.ensures.taken c.dispatch.ensures;
}
