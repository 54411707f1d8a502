-- The dispatcher of a node, on a thread of its own: it takes what event threads hand on out of their mails. This project's own.
use Rattle.std.specs.Prelude.{◌≡◌, ◌≢◌, ℕ, ◌+◌, ◌<◌, ◌≤◌, Bool, true, false, List, [], ◌∷◌, ◌++◌, length, map, slice_get, Some}
use Rattle.m2_dispatch.specs.Heard.{Heard, heard_by}
use Rattle.m2_dispatch.specs.Dispatch.{Queued}
use Rattle.m2_dispatch.specs.Letters.{heard_in}
use Rattle.m2_dispatch.specs.Parcel.{heard_for_all}
use Rattle.m2_dispatch.specs.declared.letter.Letter.{Letter}
use Rattle.m2_dispatch.specs.declared.logged.Logged.{Logged}
use Rattle.m2_dispatch.specs.declared.parcel.Parcel.{Parcel}
use Rattle.m2_dispatch.specs.declared.parcel.Parcel.TheVariants as parcel
use Rattle.m2_dispatch.specs.m2_shared.Gates.{GivesPeer}
use Rattle.m2_dispatch.specs.m2_shared.declared.ids.Ids.{Ids}
use Rattle.m2_dispatch.specs.m2_shared.declared.throttles.TakePasses.{TakePasses}
use Rattle.m2_dispatch.specs.m2_shared.declared.throttles.Throttles.{Throttles}
use Rattle.m2_mailbox.specs.Merge.{IsMerge}
use Rattle.m2_mailbox.specs.Passes.{IsGetPassOf, IsPutPassOf, capacity_of, looks_of, next_look, owner_of, parts_of, puts_of, taken_of}
use Rattle.m2_mailbox.specs.Views.{all_parts}
use Rattle.m2_mailbox.specs.declared.inbox.Inbox.{Inbox}
use Rattle.m2_mailbox.specs.declared.inbox.TheConstants.{MOST_PARCELS}
use Rattle.m2_mailbox.specs.declared.passes.GetPass.{GetPass}
use Rattle.m2_mailbox.specs.declared.passes.PutPass.{PutPass}
use Rattle.m2_node.specs.Watching.{RunsSo, WatchNow, told}

-- ---- a dispatcher

-- the throttles of its node, what the dispatcher was called with, and whether memory ran out
pub record DispatcherNow : Type 0 where
  pub throttles : Throttles
  pub log : List Logged
  pub lost : Bool

-- Where memory has lasted, it was called with what these parcels are dispatched as, in order, and with nothing else.
pub record HasDispatched (parcels : List Parcel) (old new : DispatcherNow) : Type 0 where
  pub throttles : new.throttles ≡ old.throttles
  pub lasted : new.lost ≡ false → old.lost ≡ false
  pub heard : new.lost ≡ false → heard_by new.log ≡ heard_by old.log ++ heard_for_all parcels

-- What was granted for a parcel comes back to these throttles: for a letter each word that threads share falls, in one step, by what was
-- granted for the letter at its stage, and no other word moves.
abbrev pub Returns : Throttles → Parcel → (before after : TakePasses) → Type 0
Returns t (parcel.Letter l) before after = GivesPeer t before after l.grants
Returns t (parcel.Discard peer) before after = after ≡ before
Returns t (parcel.RemoteReset peer) before after = after ≡ before

-- the first letters that wait were dispatched, in order, and nothing else
pub record DispatchesFirst (old new : Queued (List Logged)) : Type 0 where
  pub first : List Letter
  pub waiting : old.waiting ≡ first ++ new.waiting
  pub heard : heard_by new.inner ≡ heard_by old.inner ++ map heard_in first

-- ---- mails

abbrev pub Mail : Type 0
Mail = Inbox Parcel Ids

-- those that have granted for what it holds
abbrev pub throttles_of : Mail → Throttles
throttles_of mail = (owner_of mail).of

-- an empty mail for what these throttles have granted for, with room for so many parcels, and all rights to it
pub record IsNewMail (throttles : Throttles) (mail : Mail) (put : PutPass Parcel Ids) (get : GetPass Parcel Ids) : Type 0 where
  pub owner : throttles_of mail ≡ throttles
  pub puts : IsPutPassOf mail put
  pub gets : IsGetPassOf mail get
  pub whole : parts_of put ≡ all_parts
  pub room : capacity_of mail ≡ MOST_PARCELS
  pub nothing_put : puts_of put ≡ [] ∷ []
  pub nothing_taken : taken_of get ≡ []

-- all that these passes put and that wasn't taken by then was dispatched, in order
pub record HasEmptied (puts : List (List Parcel)) (taken : List Parcel) (old new : DispatcherNow) : Type 0 where
  pub left : List Parcel
  pub whole : IsMerge Parcel puts (taken ++ left)
  pub dispatched : HasDispatched left old new

-- ---- its thread

-- the dispatcher, its rights to take, the number of the first mail of its node, whether its thread takes any, and what that was told
pub record ServingNow : Type 0 where
  pub dispatcher : DispatcherNow
  pub gets : List (GetPass Parcel Ids)
  pub first : ℕ
  pub started : Bool
  pub watch : WatchNow

-- what the parcels that were taken are dispatched as
abbrev pub taken_by : GetPass Parcel Ids → List Heard
taken_by get = heard_for_all (taken_of get)

-- It is the only one who takes out of the mails of its node; and where memory has lasted, its dispatcher was called with what was taken out
-- of them, as one list: nothing is left out and nothing comes twice, and what was taken out of each stands in it in order.
pub record IsServing (mails : List Mail) (s : ServingNow) : Type 0 where
  pub ours : (j : ℕ) (m : Mail) (g : GetPass Parcel Ids) → slice_get mails (s.first + j) ≡ Some m → slice_get s.gets j ≡ Some g →
      IsGetPassOf m g × (throttles_of m ≡ s.dispatcher.throttles)
  pub merged : s.dispatcher.lost ≡ false → IsMerge Heard (map taken_by s.gets) (heard_by s.dispatcher.log)

-- it has taken more, by the same rights
pub record Serves (old new : ServingNow) : Type 0 where
  pub throttles : new.dispatcher.throttles ≡ old.dispatcher.throttles
  pub count : length new.gets ≡ length old.gets
  pub first : new.first ≡ old.first
  pub started : new.started ≡ old.started

-- one look into a mail by this right: whether a parcel was there, which was taken then, and nothing else
pub record Looks (any : Bool) (old new : GetPass Parcel Ids) : Type 0 where
  pub looked : looks_of new ≡ next_look (looks_of old)
  pub taken : any ≡ true → (parcel : Parcel) × (taken_of new ≡ taken_of old ++ parcel ∷ [])
  pub none : any ≡ false → taken_of new ≡ taken_of old

-- the right to take out of the mail at this place of its node, before and after
abbrev pub AreRightsAt : (j : ℕ) (old new : ServingNow) (g h : GetPass Parcel Ids) → Type 0
AreRightsAt j old new g h = (slice_get old.gets j ≡ Some g) × (slice_get new.gets j ≡ Some h)

-- one look into this mail of its node, if there is one, as there is where a parcel came of it; nothing was done with the others
pub record LooksAt (mails : List Mail) (j : ℕ) (any : Bool) (old new : ServingNow) : Type 0 where
  pub looks : (m : Mail) (g h : GetPass Parcel Ids) → slice_get mails (old.first + j) ≡ Some m → AreRightsAt j old new g h → Looks any g h
  pub some : any ≡ true → (g : GetPass Parcel Ids) × (h : GetPass Parcel Ids) × AreRightsAt j old new g h × Looks true g h
  pub others : (i : ℕ) → i ≢ j → slice_get new.gets i ≡ slice_get old.gets i

-- One look into each of the first so many mails of its node; a parcel was there, in one at least, or in none. Nothing was done with the
-- others.
pub record LooksBefore (mails : List Mail) (k : ℕ) (any : Bool) (old new : ServingNow) : Type 0 where
  pub each : (j : ℕ) (m : Mail) (g h : GetPass Parcel Ids) → j < k → slice_get mails (old.first + j) ≡ Some m → AreRightsAt j old new g h → (one : Bool) × Looks one g h × (any ≡ false → one ≡ false)
  pub some : any ≡ true → (j : ℕ) × (j < k) × (g : GetPass Parcel Ids) × (h : GetPass Parcel Ids) × AreRightsAt j old new g h × Looks true g h
  pub others : (j : ℕ) → k ≤ j → slice_get new.gets j ≡ slice_get old.gets j

-- one look into each mail of its node
abbrev pub LooksIntoAll : (mails : List Mail) (any : Bool) (old new : ServingNow) → Type 0
LooksIntoAll mails any old new = LooksBefore mails (length old.gets) any old new

-- it was told to go on, and looked once into each mail of its node
pub record ServesOnce (mails : List Mail) (old new : ServingNow) : Type 0 where
  pub goes : new.watch ≡ told true old.watch
  pub any : Bool
  pub looks : LooksIntoAll mails any old new

-- it was told to stop
abbrev pub StopsServing : (old new : ServingNow) → Type 0
StopsServing old new = new ≡ record old { watch = told false old.watch }

-- It looked into each mail of its node exactly as often as it was told to go on, until it was told to stop; of a node that is off it did
-- nothing.
abbrev pub RunsServing : (mails : List Mail) → (old new : ServingNow) → Type 0
RunsServing mails old new = RunsSo (ServesOnce mails) StopsServing old.started old new
