-- What a parcel does where it is put: to the letters that wait, to their grants and to the dispatcher. This project's
-- own; Ceph's dispatch queue has the same three uses (enqueue, discard_queue, queue_remote_reset).
use Rattle.std.specs.Prelude.{List, [], ◌∷◌, map}
use Rattle.std.specs.List.{AllByRecursion, flat_map}
use Rattle.m2_queues.specs.ByRank.{put_behind}
use Rattle.m2_dispatch.specs.Heard.{Heard, reset}
use Rattle.m2_shared.specs.Gates.{Places}
use Rattle.m2_dispatch.specs.declared.letter.Letter as letter
use Rattle.m2_dispatch.specs.declared.parcel.Parcel.{Parcel}
use Rattle.m2_dispatch.specs.declared.parcel.Parcel.TheVariants.{Discard, RemoteReset}
use Rattle.m2_dispatch.specs.declared.parcel.Parcel.TheVariants as parcel
use Rattle.m2_dispatch.specs.Letters.{IsOwnedLetter, heard_in, letter_priority, of_peer, others}

-- what it holds was granted by the throttles whose words lie there
abbrev pub IsOwned : Places → Parcel → Type 0
IsOwned places (parcel.Letter l) = IsOwnedLetter places l
IsOwned places (Discard peer) = Unit {0}
IsOwned places (RemoteReset peer) = Unit {0}

-- what waits after it: a letter is the last of its priority, and a discard leaves what comes from others
abbrev pub after_put : Parcel → List letter.Letter → List letter.Letter
after_put (parcel.Letter l) waiting = put_behind letter_priority l waiting
after_put (Discard peer) waiting = others peer waiting
after_put (RemoteReset peer) waiting = waiting

-- the letters whose grants it gives back
abbrev pub thrown_away : Parcel → List letter.Letter → List letter.Letter
thrown_away (parcel.Letter l) waiting = []
thrown_away (Discard peer) waiting = of_peer peer waiting
thrown_away (RemoteReset peer) waiting = []

-- what the dispatcher is called with at once
abbrev pub heard_at_put : Parcel → List Heard
heard_at_put (parcel.Letter l) = []
heard_at_put (Discard peer) = []
heard_at_put (RemoteReset peer) = reset peer ∷ []

-- ---- parcels that are handed on to another dispatcher

-- all that they hold was granted by the throttles whose words lie there
abbrev pub AllOwned : Places → List Parcel → Type 0
AllOwned places parcels = AllByRecursion (IsOwned places) parcels

-- letters, as parcels
abbrev pub letters_on : List letter.Letter → List Parcel
letters_on ls = map parcel.Letter ls

-- what a dispatcher is called with for one, by the time that nothing waits for it, where nothing waited before; and for these, one
-- after another
abbrev pub heard_for : Parcel → List Heard
heard_for (parcel.Letter l) = heard_in l ∷ []
heard_for (Discard peer) = []
heard_for (RemoteReset peer) = reset peer ∷ []

abbrev pub heard_for_all : List Parcel → List Heard
heard_for_all parcels = flat_map heard_for parcels
