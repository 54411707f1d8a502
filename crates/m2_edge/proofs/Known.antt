-- Known bytes that stay as they are, and then grow or are taken.
use Rattle.std.proofs.Common.{◌≡◌, ℕ, List, [], ◌++◌, take, Option, None, Some, refl, sym, ◌∙◌, ap, append-nil}
use Rattle.std.specs.Io.KnownBytes.{Keeps, Appends, Consumes}

pub keeps_same : (a : Option (List ℕ)) → Keeps a a
keeps_same None = tt
keeps_same (Some xs) = refl

pub keeps_keeps : (a b c : Option (List ℕ)) → Keeps a b → Keeps b c → Keeps a c
keeps_keeps None b c h k = tt
keeps_keeps (Some xs) None c h k = absurd h
keeps_keeps (Some xs) (Some ys) None h k = absurd k
keeps_keeps (Some xs) (Some ys) (Some zs) h k = k ∙ h

pub keeps_appends : (a b c : Option (List ℕ)) (more : List ℕ) → Keeps a b → Appends b c more → Appends a c more
keeps_appends None b c more h k = tt
keeps_appends (Some xs) None c more h k = absurd h
keeps_appends (Some xs) (Some ys) None more h k = absurd k
keeps_appends (Some xs) (Some ys) (Some zs) more h k = k ∙ ap (λ t. t ++ more) h

pub appends_nothing : (a b : Option (List ℕ)) (bytes : List ℕ) → Appends a b (take 0 bytes) → Keeps a b
appends_nothing None b bytes h = tt
appends_nothing (Some xs) None bytes h = absurd h
appends_nothing (Some xs) (Some ys) bytes h = h ∙ append-nil xs

pub keeps_consumes : (a b c : Option (List ℕ)) (first : List ℕ) → Keeps a b → Consumes b c first → Consumes a c first
keeps_consumes None b c first h k = tt
keeps_consumes (Some xs) None c first h k = absurd h
keeps_consumes (Some xs) (Some ys) None first h k = absurd k
keeps_consumes (Some xs) (Some ys) (Some zs) first h k = sym h ∙ k
