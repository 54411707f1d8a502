-- Where the parcels of a center's records go, and how each call changes that. Letters of fast kinds are dispatched at once, the
-- other parcels wait in the mail; that a letter can be held is this project's own.
use Rattle.std.specs.Prelude.{◌+◌, ◌≡◌, ℕ, ◌&&◌, nat_lt, Bool, List, [], ◌∷◌, ◌++◌, length, Option, Some, None}
use Rattle.std.specs.List.{AllByRecursion}
use Rattle.std.specs.Option.{is_none}
use Rattle.m2_dispatch.specs.Heard.{Heard}
use Rattle.m2_dispatch.specs.declared.letter.Letter.{Letter}
use Rattle.m2_dispatch.specs.declared.parcel.Parcel.{Parcel}
use Rattle.m2_dispatch.specs.declared.parcel.Parcel.TheVariants as parcel
use Rattle.m2_dispatch.specs.Parcel.{IsOwned}
use Rattle.m2_dispatch.specs.Letters.{IsOwnedLetter, heard_in}
use Rattle.m2_policy.specs.declared.path.Path.{Path}
use Rattle.m2_policy.specs.declared.path.Path.TheVariants.{Fast, Queued}
use Rattle.m2_record.specs.Calls.{all_granted}
use Rattle.m2_shared.specs.Gates.{Gate, Places, held}
use Rattle.m2_turn.specs.declared.outbox.TheConstants.{MOST_MAIL}

-- the dispatcher of fast kinds; the parcels in the mail, in order; and a letter of a fast kind that it couldn't take yet
pub record OutboxNow (D : Type 0) : Type 0 where
  pub fast : D
  pub mail : List Parcel
  pub held : Option Letter

abbrev pub IsFast : Letter → Type 0
IsFast l = l.key.path ≡ Fast

abbrev pub IsFastHeld : Option Letter → Type 0
IsFastHeld (Some l) = IsFast l
IsFastHeld None = Unit {0}

abbrev pub OwnsHeld : Places → Option Letter → Type 0
OwnsHeld places (Some l) = IsOwnedLetter places l
OwnsHeld places None = Unit {0}

-- all that is held and in the mail was granted by the throttles whose words lie there
pub record OwnsAll {D : Type 0} (places : Places) (o : OutboxNow D) : Type 0 where
  pub held : OwnsHeld places o.held
  pub mail : AllByRecursion (IsOwned places) o.mail

-- how much was granted for all of it at a gate
abbrev pub held_in : Option Letter → Gate → ℕ
held_in (Some l) gate = held l.grants gate
held_in None gate = 0

abbrev pub granted_in : {D : Type 0} → OutboxNow D → Gate → ℕ
granted_in o gate = all_granted o.mail gate + held_in o.held gate

-- a parcel may be put
abbrev pub is_free : {D : Type 0} → OutboxNow D → Bool
is_free o = is_none o.held && nat_lt (length o.mail) MOST_MAIL

-- ---- letters of fast kinds

-- by what is held afterwards
abbrev pub DispatchesOr : {D : Type 0} → (heard : D → List Heard) → Letter → OutboxNow D → OutboxNow D → Option Letter → Type 0
DispatchesOr heard l old new None = (heard new.fast ≡ heard old.fast ++ heard_in l ∷ []) × (new.mail ≡ old.mail)
DispatchesOr heard l old new (Some kept) = (kept ≡ l) × (heard new.fast ≡ heard old.fast) × (new.mail ≡ old.mail)

-- the dispatcher was called with it and nothing is held, or it is held and nothing else has changed
abbrev pub Dispatches : {D : Type 0} → (heard : D → List Heard) → Letter → OutboxNow D → OutboxNow D → Type 0
Dispatches heard l old new = DispatchesOr heard l old new new.held

-- what is given back for it
abbrev pub returned_for : Letter → (kept : Option Letter) → Gate → ℕ
returned_for l None gate = held l.grants gate
returned_for l (Some kept) gate = 0

-- by the letter that was held
abbrev pub RetriesFor : {D : Type 0} → (heard : D → List Heard) → Option Letter → OutboxNow D → OutboxNow D → Type 0
RetriesFor heard (Some l) old new = Dispatches heard l old new
RetriesFor heard None old new = new ≡ old

abbrev pub Retries : {D : Type 0} → (heard : D → List Heard) → OutboxNow D → OutboxNow D → Type 0
Retries heard old new = RetriesFor heard old.held old new

abbrev pub returned_again : (old new : Option Letter) → Gate → ℕ
returned_again (Some l) kept gate = returned_for l kept gate
returned_again None kept gate = 0

-- ---- parcels

abbrev pub in_mail : {D : Type 0} → Parcel → OutboxNow D → OutboxNow D
in_mail x o = record o { mail = o.mail ++ x ∷ [] }

abbrev pub PutsLetter : {D : Type 0} → (heard : D → List Heard) → Letter → Path → OutboxNow D → OutboxNow D → Type 0
PutsLetter heard l Fast old new = Dispatches heard l old new
PutsLetter heard l Queued old new = new ≡ in_mail (parcel.Letter l) old

-- by its kind: a fast letter is dispatched or held, each other parcel is last in the mail
abbrev pub Puts : {D : Type 0} → (heard : D → List Heard) → Parcel → OutboxNow D → OutboxNow D → Type 0
Puts heard (parcel.Letter l) old new = PutsLetter heard l l.key.path old new
Puts heard (parcel.Discard peer) old new = new ≡ in_mail (parcel.Discard peer) old
Puts heard (parcel.RemoteReset peer) old new = new ≡ in_mail (parcel.RemoteReset peer) old

abbrev pub returned_on : Letter → Path → (kept : Option Letter) → Gate → ℕ
returned_on l Fast kept gate = returned_for l kept gate
returned_on l Queued kept gate = 0

abbrev pub returned : Parcel → (kept : Option Letter) → Gate → ℕ
returned (parcel.Letter l) kept gate = returned_on l l.key.path kept gate
returned (parcel.Discard peer) kept gate = 0
returned (parcel.RemoteReset peer) kept gate = 0

-- the first of the mail goes; none exactly where it is empty
abbrev pub Takes : {D : Type 0} → Option Parcel → OutboxNow D → OutboxNow D → Type 0
Takes (Some x) old new = (old.mail ≡ x ∷ new.mail) × (new ≡ record old { mail = new.mail })
Takes None old new = (old.mail ≡ []) × (new ≡ old)
