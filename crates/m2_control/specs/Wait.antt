-- The payload of WAIT: no fields.
use Rattle.std.specs.Prelude.{◌≡◌, ℕ, List, []}
use Rattle.m2_control.specs.declared.wait.Wait.{Wait}

abbrev pub IsWait : Wait → List ℕ → Type 0
IsWait p text = text ≡ []

abbrev pub wait_text : Wait → List ℕ
wait_text p = []
