-- A socket on its way to the event thread with which its peer is at home. This project's own.
use Rattle.std.specs.Prelude.{◌≡◌, false, List, [], ◌∷◌, ◌++◌, map, Option, Some, None, IfSome}
use Rattle.m2_addr.specs.declared.addr.Addr.{Addr}
use Rattle.m2_fabric.specs.End.{SeenEnd}
use Rattle.m2_mailbox.specs.Merge.{IsMerge}
use Rattle.m2_trail.specs.Arrivals.{LooseNow, left_of}
use Rattle.m2_trail.specs.Asks.{IsMain}
use Rattle.m2_trail.specs.Incoming.{IncomingNow}
use Rattle.m2_trail.specs.Trails.{IsWholeTrail, TrailNow}

-- Its end; what the half did on it that shook hands there; and the address that asked.
pub record OnItsWay : Type 0 where
  pub end : SeenEnd
  pub trail : TrailNow
  pub peer : Addr

-- What its type keeps: the end is open, and the trail tells all that it did, of which nothing was judged.
pub record IsOnItsWay (h : OnItsWay) : Type 0 where
  pub unclosed : h.end.log.closed ≡ false
  pub whole : IsWholeTrail h.trail h.end
  pub unjudged : h.trail.judged ≡ []

-- the half that it is where nobody goes on with it
abbrev pub left_behind : OnItsWay → LooseNow
left_behind h = record { end = h.end; trail = h.trail }

-- A half that was asked is on its way so: it is left as it was, and the address that asked is the main one of its ask.
pub record IsAskedAs (was : IncomingNow) (h : OnItsWay) : Type 0 where
  pub half : left_behind h ≡ left_of was
  pub peer : IfSome was.ask (λ ask. IsMain ask h.peer)

-- so are these, in their order
abbrev pub AreAskedAs : List IncomingNow → List OnItsWay → Type 0
AreAskedAs [] [] = Unit {0}
AreAskedAs (half ∷ halves) (h ∷ hs) = IsAskedAs half h × AreAskedAs halves hs
AreAskedAs _ _ = ⊥

-- these halves, which were asked, come last among those that are on their way
abbrev pub ComeAsked : List IncomingNow → (old new : List OnItsWay) → Type 0
ComeAsked halves old new = (more : List OnItsWay) × (new ≡ old ++ more) × AreAskedAs halves more

-- this is so of the inbox that has the name
abbrev pub IsOfNamed : {A : Type 0} → (A → Type 0) → Option A → Type 0
IsOfNamed P None = ⊥
IsOfNamed P (Some inbox) = P inbox

-- These halves are what is left of an inbox: behind what was taken, they are all that was put, each putter's in order.
pub record AreLeftIn (halves : List LooseNow) (puts : List (List OnItsWay)) (taken : List OnItsWay) : Type 0 where
  pub left : List OnItsWay
  pub are : halves ≡ map left_behind left
  pub all : IsMerge OnItsWay puts (taken ++ left)
