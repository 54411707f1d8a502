-- A side dials only in Absent, Standby and Wait.
use Rattle.std.proofs.Common.{◌≡◌, Bool, true, false, ◌&&◌, ◌||◌, refl}
use Rattle.std.specs.Prelude.{IsTrue, [], ◌∷◌}
use Rattle.m2_session.specs.declared.session.Phase.{Phase}
use Rattle.m2_session.specs.declared.session.Phase.TheVariants.{Absent, Connecting, IdentSent, ReconnectSent, Ready, Standby, Wait}
use Rattle.m2_session.specs.Phases.{is, is_among}
use Rattle.m2_session.specs.Dials.{at_rest}
use Rattle.m2_session.specs.AnswerLaws.{DialsAreLawful}

second : (a b : Bool) → a && b ≡ true → b ≡ true
second true b h = h
second false b h = cc

only_there : (p : Phase) (b : Bool) → ((is_among p at_rest && b) || is p Wait) ≡ true → IsTrue (is_among p (Absent ∷ Standby ∷ Wait ∷ []))
only_there Absent b h = refl
only_there Connecting b h = cc
only_there IdentSent b h = cc
only_there ReconnectSent b h = cc
only_there Ready b h = cc
only_there Standby b h = refl
only_there Wait b h = refl

pub are_lawful : DialsAreLawful
are_lawful s waits wanted h = only_there s.phase (waits || wanted) (second _ _ h)
