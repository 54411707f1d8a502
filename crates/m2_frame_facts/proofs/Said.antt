-- The line of a place where no frame stands, put together of its parts.
use Rattle.std.proofs.Common.{◌≡◌, ℕ, List, ◌++◌, Result, Ok, Err, OnOk, ap, ◌∙◌, append_assoc}
use Rattle.std.specs.Prelude.{codes}
use Rattle.std.specs.Fmt.{decimal}
use Rattle.m2_frame_facts.specs.Ended.{bad_frames, fault_end}

pub bad_frames_said : {E : Type 0} (r : Result (Unit {0}) E) (old first second new : List ℕ) (place f : ℕ) → first ≡ old ++ codes "bad frames: place " → second ≡ first ++ decimal place
    → OnOk r (new ≡ second ++ fault_end f) → OnOk r (new ≡ old ++ bad_frames place f)
unfolding bad_frames
bad_frames_said (Ok x) old first second new place f a b h =
    h ∙ ap (λ t. t ++ fault_end f) (b ∙ ap (λ t. t ++ decimal place) a)
    ∙ append_assoc (old ++ codes "bad frames: place ") (decimal place) (fault_end f) ∙ append_assoc old (codes "bad frames: place ") (decimal place ++ fault_end f)
bad_frames_said (Err x) old first second new place f a b h = tt
