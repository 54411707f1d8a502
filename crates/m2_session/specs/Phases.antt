-- Sets of phases.
use Rattle.std.specs.Prelude.{ℕ, Bool, ◌==◌, List, [], ◌∷◌}
use Rattle.std.specs.List.{list_any}
use Rattle.m2_session.specs.declared.session.Phase.{Phase}
use Rattle.m2_session.specs.declared.session.Phase.TheVariants.{Absent, Connecting, IdentSent, ReconnectSent, Ready, Standby, Wait}

abbrev pub phase_number : Phase → ℕ
phase_number Absent = 0
phase_number Connecting = 1
phase_number IdentSent = 2
phase_number ReconnectSent = 3
phase_number Ready = 4
phase_number Standby = 5
phase_number Wait = 6

abbrev pub is : Phase → Phase → Bool
is a b = phase_number a == phase_number b

abbrev pub is_among : Phase → List Phase → Bool
is_among phase phases = list_any (λ p. is phase p) phases

-- the phases in which a session has a feed
abbrev pub with_feed : List Phase
with_feed = Connecting ∷ IdentSent ∷ ReconnectSent ∷ Ready ∷ []

abbrev pub all_phases : List Phase
all_phases = Absent ∷ Connecting ∷ IdentSent ∷ ReconnectSent ∷ Ready ∷ Standby ∷ Wait ∷ []

abbrev pub all_but_absent : List Phase
all_but_absent = Connecting ∷ IdentSent ∷ ReconnectSent ∷ Ready ∷ Standby ∷ Wait ∷ []

abbrev pub all_but_absent_and_ready : List Phase
all_but_absent_and_ready = Connecting ∷ IdentSent ∷ ReconnectSent ∷ Standby ∷ Wait ∷ []
