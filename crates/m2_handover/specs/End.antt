-- What contracts see of an end that was handed over. This project's own.
use Rattle.std.specs.Prelude.{◌≡◌, ◌⊎◌, [], Option, Some, None, IfSome}
use Rattle.m2_fabric.specs.End.{SeenEnd}
use Rattle.m2_fabric.specs.Log.{Log}
use Rattle.m2_handover.specs.Past.{IsDoneAgain, PastNow}
use Rattle.m2_trail.specs.Arrivals.{LooseNow}
use Rattle.m2_trail.specs.Trails.{IsWholeTrail}

-- The end inside; and, until all that was done on it before was done again, what that was and how far it is done again.
pub record HandedNow : Type 0 where
  pub inner : SeenEnd
  pub past : Option PastNow

-- what it did as whoever goes on with it sees it
abbrev pub log_in : Option PastNow → Log → Log
log_in (Some p) log = p.log
log_in None log = log

-- an end as one that tells nothing of what will be readable
abbrev pub told_nothing : SeenEnd → SeenEnd
told_nothing e = record e { left = None; inflow = None }

-- what every end shows, of this one
abbrev pub shown : HandedNow → SeenEnd
shown h = record (told_nothing h.inner) { log = log_in h.past h.inner.log }

-- what was done on an end before: the trail tells all that the end did, nothing of it was judged, and it is done again so far
pub record IsPastOf (end : SeenEnd) (p : PastNow) : Type 0 where
  pub again : IsDoneAgain end.log p.log
  pub whole : IsWholeTrail p.trail end
  pub unjudged : p.trail.judged ≡ []

-- what its type keeps
abbrev pub IsHanded : HandedNow → Type 0
IsHanded h = IfSome h.past (IsPastOf h.inner)

-- ---- the half of such an end, as one of the end inside

-- Where all was done again the two have the same log and trail. Else nothing was judged, and what the half did is the first of what the end
-- inside did, of which its trail tells all.
pub record IsHalfInside (half inside : LooseNow) : Type 0 where
  pub id : inside.end.id ≡ half.end.id
  pub faults : inside.end.faults ≡ half.end.faults
  pub whole : IsWholeTrail inside.trail inside.end
  pub judged : inside.trail.judged ≡ half.trail.judged
  pub again : ((inside.trail ≡ half.trail) × (inside.end.log ≡ half.end.log)) ⊎ ((half.trail.judged ≡ []) × IsDoneAgain inside.end.log half.end.log)
