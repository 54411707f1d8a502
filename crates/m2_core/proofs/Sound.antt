-- What holds of each core holds again after its calls.
use Rattle.std.proofs.Common.{◌≡◌, Bool, true, false, ◌&&◌, not, refl, arith}
use Rattle.std.specs.Prelude.{if◌then◌else◌}
use Rattle.m2_session.specs.declared.event.Effects.{Effects}
use Rattle.m2_session.specs.declared.event.Event.TheVariants as event
use Rattle.m2_session.specs.declared.session.Phase.TheVariants.{Absent, Standby, Wait}
use Rattle.m2_session.specs.declared.session.Session.{Session}
use Rattle.m2_session.specs.Steps.{closes}
use Rattle.m2_core.specs.LiveNow.{LiveNow, is_waiting}
use Rattle.m2_core.specs.Effects.{has_effects, tells}
use Rattle.m2_core.specs.LiveCalls.{after_fault}
use Rattle.m2_core.specs.CoreNow.{CoreNow, Holds, IsSound}

abbrev pub fault_by : (lossy server idle : Bool) → Session → Session × Effects
fault_by lossy server idle s =
    if lossy then (record s { phase = Absent; client_cookie = 0; server_cookie = 0 }, record closes { discard = true })
    else if server then (record s { phase = Standby }, closes)
    else if idle then (record s { phase = Standby }, closes)
    else (record s { phase = Wait }, closes)

faulted_by : (lossy server idle lost : Bool) (l : LiveNow) → IsSound l →
    IsSound (has_effects (fault_by lossy server idle l.session).1 (record l { session = record (fault_by lossy server idle l.session).0 { lost_ready = lost } }))
faulted_by true server idle lost l h = record { fed = refl; asked = tt; connect = h.connect; numbers = omega arith; grant = refl; told = refl; ungranted = λ _. refl }
faulted_by false true idle lost l h = record { fed = refl; asked = tt; connect = h.connect; numbers = h.numbers; grant = refl; told = refl; ungranted = λ _. refl }
faulted_by false false true lost l h = record { fed = refl; asked = tt; connect = h.connect; numbers = h.numbers; grant = refl; told = refl; ungranted = λ _. refl }
faulted_by false false false lost l h = record { fed = refl; asked = tt; connect = h.connect; numbers = h.numbers; grant = refl; told = refl; ungranted = λ _. refl }

pub faulted : (c : CoreNow) → Holds c → Holds (record c { live = after_fault c.live })
faulted c h = record {
  place = h.place;
  sound = faulted_by c.live.session.policy.lossy c.live.session.policy.server (c.live.session.policy.standby && not (is_waiting c.live)) _ c.live h.sound;
}

-- the same, as the code comes to it
pub faulted_to : (c : CoreNow) (l : LiveNow) (w : Bool) → Holds c → w ≡ is_waiting c.live → l ≡ tells (event.Faulted w) c.live → Holds (record c { live = l })
faulted_to c l w h e t = rw (t, e) (faulted c h)
