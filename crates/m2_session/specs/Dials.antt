-- When a side opens a socket, the moment aside. The rule is this project's profile.
use Rattle.std.specs.Prelude.{Bool, ◌&&◌, ◌||◌, not, List, [], ◌∷◌}
use Rattle.m2_session.specs.declared.session.Phase.{Phase}
use Rattle.m2_session.specs.declared.session.Phase.TheVariants.{Absent, Standby, Wait}
use Rattle.m2_session.specs.declared.session.Session.{Session}
use Rattle.m2_session.specs.Phases.{is, is_among}

-- the phases in which a side without a socket has nothing to write
abbrev pub at_rest : List Phase
at_rest = Absent ∷ Standby ∷ []

-- `waits`: something is kept or waits to be written; `wanted`: a dial was asked for, and no socket was opened or taken
-- since, nor the session given up. A server never dials.
abbrev pub dials : Session → (waits wanted : Bool) → Bool
dials s waits wanted = not s.policy.server && ((is_among s.phase at_rest && (waits || wanted)) || is s.phase Wait)
