-- The way to one of a node's event threads, and the sockets that it refuses. This project's own.
use Rattle.std.specs.Prelude.{◌≡◌, ◌⊎◌, ℕ, List, [], ◌∷◌, ◌++◌, length, Option, Some, None}
use Rattle.std.specs.List.{AllByRecursion}
use Rattle.m2_mailbox.specs.Merge.{IsMerge}
use Rattle.m2_mailbox.specs.Passes.{capacity_of}
use Rattle.m2_mailbox.specs.Views.{put_by}
use Rattle.m2_mailbox.specs.declared.inbox.Inbox.{Inbox}
use Rattle.m2_trail.specs.Home.{home_of}
use Rattle.m2_trail.specs.declared.home.HomeOf.{HomeOf}
use Rattle.m2_handover.specs.Handed.{OnItsWay}

-- The home of the sockets that it takes; how many its inbox holds at most; and what was put there.
pub record WayNow : Type 0 where
  pub home : HomeOf
  pub most : ℕ
  pub put : List (List OnItsWay)

-- how many an inbox holds at most, where there is one
abbrev pub most_held : Option (Inbox OnItsWay HomeOf) → ℕ
most_held None = 0
most_held (Some inbox) = capacity_of inbox

-- ---- puts

-- the address that asked is at home there
abbrev pub IsAtHomeIn : HomeOf → OnItsWay → Type 0
IsAtHomeIn home h = home_of h.peer home.centers ≡ home.center

-- a socket was put
abbrev pub with_put : OnItsWay → WayNow → WayNow
with_put h w = record w { put = put_by h w.put }

-- these join what the pass itself put, in order
abbrev pub put_all : List OnItsWay → List (List OnItsWay) → List (List OnItsWay)
put_all [] puts = puts
put_all (h ∷ hs) [] = (h ∷ hs) ∷ []
put_all (h ∷ hs) (own ∷ joined) = (own ++ h ∷ hs) ∷ joined

-- these were put by a way, in order, each of which is at home there
pub record HavePut (more : List OnItsWay) (old new : WayNow) : Type 0 where
  pub home : AllByRecursion (IsAtHomeIn old.home) more
  pub put : new ≡ record old { put = put_all more old.put }

-- so was one list by each way
abbrev pub EachHasPut : List (List OnItsWay) → (old new : List WayNow) → Type 0
EachHasPut [] [] [] = Unit {0}
EachHasPut (more ∷ mores) (o ∷ olds) (n ∷ news) = HavePut more o n × EachHasPut mores olds news
EachHasPut _ _ _ = ⊥

-- Ways and the same ones later: more was put meanwhile.
abbrev pub AreLater : (old new : List WayNow) → Type 0
AreLater old new = (mores : List (List OnItsWay)) × EachHasPut mores old new

-- ---- refusals

-- As many lay in its inbox as that holds at most: these, behind what was taken, are all that was put.
pub record HadNoRoom (w : WayNow) : Type 0 where
  pub gone : List OnItsWay
  pub held : List OnItsWay
  pub full : length held ≡ w.most
  pub all : IsMerge OnItsWay w.put (gone ++ held)

-- A way refuses a socket that isn't at home there, and each one while its inbox is full.
abbrev pub Refuses : OnItsWay → WayNow → Type 0
Refuses h w = (IsAtHomeIn w.home h → ⊥) ⊎ HadNoRoom w

-- At a moment between these each way refused a socket.
pub record WasRefused (old new : List WayNow) (h : OnItsWay) : Type 0 where
  pub ways : List WayNow
  pub since : AreLater old ways
  pub before : AreLater ways new
  pub refused : AllByRecursion (Refuses h) ways
