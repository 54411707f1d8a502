-- What a call returned, from what reading gives.
use Rattle.std.proofs.Common.{◌≡◌, ℕ, List, Result, Ok, Err, ap, subst, ◌∙◌, sym}
use Rattle.std.specs.Prelude.{IfOk}
use Rattle.m2_addr.specs.Grammar.{IsBytes}
use Rattle.m2_control.specs.declared.control.Control.{Control}
use Rattle.m2_frame.specs.declared.tag.Tag.{Tag}
use Rattle.m2_control.specs.declared.fault.ControlFault.{ControlFault}
use Rattle.m2_control.specs.Outcome.{Gives}
use Rattle.m2_control.specs.Control.{Spells, IsWritable, bare, tag_of, payload_of}
use Rattle.m2_control.proofs.Writable.{writable}
use Rattle.m2_control.proofs.Payloads.{payload_found, payload_only}

pub result_found : (r : Result Control ControlFault) (t : Tag) (bytes : List ℕ) → IsBytes bytes → Gives bare r (payload_of t bytes) → IfOk r (λ c. Spells (bare c) bytes × (tag_of (bare c) ≡ t))
result_found (Ok c) t bytes fits given = payload_found t bytes (bare c) fits given
result_found (Err e) t bytes fits given = tt

pub result_only : (r : Result Control ControlFault) (t : Tag) (bytes : List ℕ) → Gives bare r (payload_of t bytes) → (c : Control) → Spells c bytes → tag_of c ≡ t → Gives bare r (Ok (bare c))
result_only r t bytes given c spelled e = subst (λ (x : Result Control ControlFault). Gives bare r x) (ap (λ (s : Tag). payload_of s bytes) (sym e) ∙ payload_only c bytes spelled) given

pub result_writable : (r : Result Control ControlFault) (t : Tag) (bytes : List ℕ) → IsBytes bytes → Gives bare r (payload_of t bytes) → IfOk r IsWritable
result_writable (Ok c) t bytes fits given = writable c bytes (payload_found t bytes (bare c) fits given).0
result_writable (Err e) t bytes fits given = tt
