-- Where the fields can't be read, neither can the whole payload; a fault of what takes no memory is the first one.
use Rattle.std.proofs.Common.{◌≡◌, ◌≢◌, ℕ, List, Result, Ok, Err, sym, ap, ◌∙◌}
use Rattle.std.specs.Prelude.{IfOk}
use Rattle.m2_control.specs.declared.control.Control.{Control}
use Rattle.m2_control.specs.declared.fault.ControlFault.{ControlFault}
use Rattle.m2_control.specs.declared.fault.ControlFault.TheVariants.{Short, Extra, BadValue, NotNegotiated, Address, NoMemory}
use Rattle.m2_control.specs.Outcome.{Fails, GivesFront, GivesRest}
use Rattle.m2_control.specs.Control.{bare, whole}

pub whole_fails : (e : ControlFault) (read : Result (Control × List ℕ) ControlFault) → Fails e read → Fails e (whole read)
whole_fails Short read h = ap whole h
whole_fails Extra read h = ap whole h
whole_fails (BadValue field) read h = ap whole h
whole_fails NotNegotiated read h = ap whole h
whole_fails (Address fault) read h = ap whole h
whole_fails NoMemory read h = tt

pub fails : {Y : Type 0} (e : ControlFault) (read : Result Y ControlFault) → read ≡ Err e → Fails e read
fails Short read h = h
fails Extra read h = h
fails (BadValue field) read h = h
fails NotNegotiated read h = h
fails (Address fault) read h = h
fails NoMemory read h = tt

-- what takes no memory, as one that may says it
pub plain_fails : (e : ControlFault) (new : List ℕ) (read : Result (Control × List ℕ) ControlFault) → read ≡ Err e → GivesRest bare (Err e) new read
plain_fails e new read h = fails e read h

pub plain_gives : (c : Control) (new : List ℕ) (read : Result (Control × List ℕ) ControlFault) → bare c ≡ c → read ≡ Ok (c, new) → GivesRest bare (Ok c) new read
plain_gives c new read same h = h ∙ ap (λ (d : Control). let r : Result (Control × List ℕ) ControlFault = Ok (d, new) in r) (sym same)

pub plain_given : (r : Result Control ControlFault) (new : List ℕ) (read : Result (Control × List ℕ) ControlFault) → IfOk r (λ c. bare c ≡ c) → GivesFront (λ c. c) r new read → GivesRest bare r new read
plain_given (Ok c) new read same h = plain_gives c new read same h
plain_given (Err e) new read same h = fails e read h

pub plain_never : (r : Result Control ControlFault) (new : List ℕ) (read : Result (Control × List ℕ) ControlFault) → (read ≡ Err NoMemory → ⊥) → GivesFront (λ c. c) r new read → r ≢ Err NoMemory
plain_never (Ok c) new read never h e = cc
plain_never (Err d) new read never h e = let same : d ≡ NoMemory = cc in never (rw (← same) h)
