-- How the mail of a center is emptied where another thread dispatches: what the dispatcher behind the queue is called with goes,
-- as parcels, to whoever hands it to that thread. This project's own.
use Rattle.std.specs.Prelude.{◌≡◌, List, [], ◌∷◌, ◌++◌, map}
use Rattle.std.specs.List.{AllByRecursion}
use Rattle.m2_dispatch.specs.Heard.{Heard}
use Rattle.m2_dispatch.specs.declared.letter.Letter.{Letter}
use Rattle.m2_dispatch.specs.declared.parcel.Parcel.{Parcel}
use Rattle.m2_dispatch.specs.declared.parcel.Parcel.TheVariants as parcel
use Rattle.m2_dispatch.specs.Dispatch.{Queued}
use Rattle.m2_dispatch.specs.Letters.{AreOwned, heard_in}
use Rattle.m2_dispatch.specs.Parcel.{AllOwned, heard_for_all, letters_on}
use Rattle.m2_shared.specs.Gates.{Places}
use Rattle.m2_turn.specs.Mailing.{Mailing, after_puts}

-- a letter or a reset: a discard would throw letters away that count as heard
abbrev pub IsNoDiscard : Parcel → Type 0
IsNoDiscard (parcel.Letter l) = Unit {0}
IsNoDiscard (parcel.Discard peer) = ⊥
IsNoDiscard (parcel.RemoteReset peer) = Unit {0}

-- The dispatcher was called with what these parcels, which are last now, are dispatched as, in order, and with nothing else; none
-- of them is a discard, and what they hold was granted by the throttles whose words lie there.
pub record HandsOn {D : Type 0} (heard : D → List Heard) (places : Places) (old new : D) (into behind : List Parcel) : Type 0 where
  pub more : List Parcel
  pub last : behind ≡ into ++ more
  pub heard_more : heard new ≡ heard old ++ heard_for_all more
  pub no_discard : AllByRecursion IsNoDiscard more
  pub owned : AllOwned places more

-- the letters among parcels, in order
abbrev pub letters_among : List Parcel → List Letter
letters_among [] = []
letters_among (parcel.Letter l ∷ xs) = l ∷ letters_among xs
letters_among (parcel.Discard peer ∷ xs) = letters_among xs
letters_among (parcel.RemoteReset peer ∷ xs) = letters_among xs

-- The letters among the parcels that are last now are those that were dispatched, with their grants: the first that waited behind
-- what was put of the mail, and no other.
pub record HandsLetters {D : Type 0} (old new : Mailing D) (into behind : List Parcel) : Type 0 where
  pub put : List Parcel
  pub mail : old.out.mail ≡ put ++ new.out.mail
  pub more : List Parcel
  pub last : behind ≡ into ++ more
  pub waiting : after_puts put old.queue.queued.waiting ≡ letters_among more ++ new.queue.queued.waiting

-- no letter is handed on
pub record HandsNoLetter {D : Type 0} (heard : D → List Heard) (places : Places) (old new : D) (into behind : List Parcel) : Type 0 where
  pub on : HandsOn heard places old new into behind
  pub none : letters_among on.more ≡ []

-- a parcel that is handed on where it is put
abbrev pub resets_on : Parcel → List Parcel
resets_on (parcel.Letter l) = []
resets_on (parcel.Discard peer) = []
resets_on (parcel.RemoteReset peer) = parcel.RemoteReset peer ∷ []

-- the first letters that wait are handed on, in order, and no other
pub record HandsAllOn {D : Type 0} (heard : D → List Heard) (old new : Queued D) (into behind : List Parcel) : Type 0 where
  pub dispatched : List Letter
  pub waiting : old.waiting ≡ dispatched ++ new.waiting
  pub heard_more : heard new.inner ≡ heard old.inner ++ map heard_in dispatched
  pub last : behind ≡ into ++ letters_on dispatched
  pub owned : (places : Places) → AreOwned places old.waiting → AreOwned places new.waiting × AllOwned places (letters_on dispatched)
