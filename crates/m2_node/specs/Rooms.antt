-- The inboxes of all event threads before their threads begin, with the rights to them. This project's own.
use Rattle.std.specs.Prelude.{◌≡◌, ℕ, zero, suc, Bool, true, false, List, [], ◌∷◌}
use Rattle.std.specs.List.{flat_map}
use Rattle.m2_handover.specs.Handed.{OnItsWay}
use Rattle.m2_handover.specs.m2_mailbox.Passes.{IsGetPassOf, IsPutPassOf, owner_of, parts_of, puts_of, taken_of}
use Rattle.m2_handover.specs.m2_mailbox.Views.{all_parts}
use Rattle.m2_handover.specs.m2_mailbox.declared.inbox.Inbox.{Inbox}
use Rattle.m2_handover.specs.m2_mailbox.declared.passes.GetPass.{GetPass}
use Rattle.m2_handover.specs.m2_mailbox.declared.passes.PutPass.{PutPass}
use Rattle.m2_scenario.specs.declared.node.Node.{Node}
use Rattle.m2_trail.specs.declared.home.HomeOf.{HomeOf}

-- a thread of a node, and how many it has
pub record HomeAt : Type 0 where
  pub center : ℕ
  pub centers : ℕ

-- that of a home
abbrev pub thread_of : HomeOf → HomeAt
thread_of home = record { center = home.center; centers = home.centers }

-- so many threads of a node from one on, of as many as it has
abbrev pub homes_from : (center count centers : ℕ) → List HomeAt
homes_from center zero centers = []
homes_from center (suc count) centers = record { center = center; centers = centers } ∷ homes_from (suc center) count centers

abbrev pub homes_if : (started : Bool) → (centers : ℕ) → List HomeAt
homes_if true centers = homes_from 0 centers centers
homes_if false centers = []

-- the threads of all nodes that are on, in their order
abbrev pub homes_of : List Node → List HomeAt
homes_of nodes = flat_map (λ (x : Node). homes_if x.started x.centers) nodes

-- the inbox of a thread, into which nothing was put, with all rights to it
pub record IsRoom (home : HomeAt) (inbox : Inbox OnItsWay HomeOf) (put : PutPass OnItsWay HomeOf) (get : GetPass OnItsWay HomeOf) : Type 0 where
  pub center : (owner_of inbox).center ≡ home.center
  pub centers : (owner_of inbox).centers ≡ home.centers
  pub puts : IsPutPassOf inbox put
  pub gets : IsGetPassOf inbox get
  pub whole : parts_of put ≡ all_parts
  pub nothing_put : puts_of put ≡ [] ∷ []
  pub nothing_taken : taken_of get ≡ []

-- those of these threads, in order
abbrev pub AreRoomsOf : List HomeAt → List (Inbox OnItsWay HomeOf) → List (PutPass OnItsWay HomeOf) → List (GetPass OnItsWay HomeOf) → Type 0
AreRoomsOf [] [] [] [] = Unit {0}
AreRoomsOf (h ∷ homes) (b ∷ inboxes) (p ∷ puts) (g ∷ gets) = IsRoom h b p g × AreRoomsOf homes inboxes puts gets
AreRoomsOf homes inboxes puts gets = ⊥
