-- Inboxes that are closed by all rights to them, and what is left there. This project's own.
use Rattle.std.specs.Prelude.{◌≡◌, ℕ, ◌+◌, List, ◌∷◌, sum_by}
use Rattle.m2_fabric.specs.declared.socket.SocketId.{SocketId}
use Rattle.m2_handover.specs.Door.{weight_of, weight_on_way}
use Rattle.m2_handover.specs.Handed.{OnItsWay}
use Rattle.m2_handover.specs.m2_mailbox.Passes.{IsGetPassOf, IsPutPassOf, parts_of}
use Rattle.m2_handover.specs.m2_mailbox.Views.{all_parts}
use Rattle.m2_handover.specs.m2_mailbox.declared.inbox.Inbox.{Inbox}
use Rattle.m2_handover.specs.m2_mailbox.declared.passes.GetPass.{GetPass}
use Rattle.m2_handover.specs.m2_mailbox.declared.passes.PutPass.{PutPass}
use Rattle.m2_trail.specs.Arrivals.{LooseNow}
use Rattle.m2_trail.specs.declared.home.HomeOf.{HomeOf}
use Rattle.m2_run.specs.Opened.{weight_put_by, weight_taken}

-- all rights to an inbox
pub record HasAllRights (inbox : Inbox OnItsWay HomeOf) (put : PutPass OnItsWay HomeOf) (get : GetPass OnItsWay HomeOf) : Type 0 where
  pub puts : IsPutPassOf inbox put
  pub gets : IsGetPassOf inbox get
  pub whole : parts_of put ≡ all_parts

-- those to the first of these inboxes, one by one
abbrev pub AreAllRightsTo : List (Inbox OnItsWay HomeOf) → List (PutPass OnItsWay HomeOf) → List (GetPass OnItsWay HomeOf) → Type 0
AreAllRightsTo (b ∷ inboxes) (p ∷ puts) (g ∷ gets) = HasAllRights b p g × AreAllRightsTo inboxes puts gets
AreAllRightsTo inboxes puts gets = Unit {0}

-- However sockets are weighed: what was put and not taken stands behind what was there before.
abbrev pub IsLeftOver : (old new : List LooseNow) → (puts : List (List OnItsWay)) → (taken : List OnItsWay) → Type 0
IsLeftOver old new puts taken = (weight : SocketId → ℕ) → sum_by (weight_of weight) new + sum_by (weight_on_way weight) taken
    ≡ sum_by (weight_of weight) old + sum_by (sum_by (weight_on_way weight)) puts

-- so it is of several inboxes
abbrev pub AreLeftOver : (old new : List LooseNow) → List (PutPass OnItsWay HomeOf) → List (GetPass OnItsWay HomeOf) → Type 0
AreLeftOver old new puts gets = (weight : SocketId → ℕ) → sum_by (weight_of weight) new + weight_taken weight gets ≡ sum_by (weight_of weight) old + weight_put_by weight puts
