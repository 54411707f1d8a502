-- One mail more.
use Rattle.std.proofs.Common.{◌≡◌, ◌∙◌, ℕ, ap, arith, length, refl, subst}
use Rattle.m2_node.specs.Dispatching.{LooksBefore, ServingNow}
use Rattle.m2_node.proofs.Looked.{looks_before_none, looks_on}
use Rattle.m2_node.proofs.TakenOut.{serves_not, serves_then}
use Rattle.m2_node.proofs.serving.Serving.take_each.Goals as goal

pub mails-init : goal.mails-init
mails-init g c = record { served = c.requires; same = serves_not c.args.self.now; watch = refl; looks = looks_before_none c.args.mails.now c.args.self.now }

pub mails-preserved : goal.mails-preserved
mails-preserved g c = record {
  served = c.take_one-any.ensures.served;
  same = serves_then c.args.self.now c.mails.self c.take_one-any.new.self c.mails.invariant.same c.take_one-any.ensures.same;
  watch = c.take_one-any.ensures.watch ∙ c.mails.invariant.watch;
  looks = looks_on c.args.mails.now c.mails.j c.mails.any c.take_one-any.result c.args.self.now c.mails.self c.take_one-any.new.self c.mails.invariant.same.first c.mails.invariant.looks c.take_one-any.ensures.looks;
}

pub returns-clause-looks : goal.returns-clause-looks
returns-clause-looks g c =
    let all : c.mails.j ≡ length c.args.self.now.gets =
    omega (arith, c.mails-test.false, c.mails.auto.j-end, ap length c.as_slice-j-end.ensures.value, ap (λ (s : ServingNow). length s.gets) c.self.view_is) in
    subst (λ (k : ℕ). LooksBefore c.args.mails.now k c.mails.any c.args.self.now c.mails.self) all c.mails.invariant.looks
