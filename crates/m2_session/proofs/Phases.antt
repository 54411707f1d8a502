-- Tests of phases.
use Rattle.std.proofs.Common.{◌≡◌, false, refl}
use Rattle.m2_session.specs.declared.session.Phase.{Phase}
use Rattle.m2_session.specs.declared.session.Phase.TheVariants.{Connecting, Ready}
use Rattle.m2_session.specs.Phases.{is}

pub connecting_isnt_ready : (p : Phase) → p ≡ Connecting → is p Ready ≡ false
connecting_isnt_ready p e = rw e refl
