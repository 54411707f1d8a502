-- What holds of a dispatch over every list of calls. What was put and what was dispatched are told whole, and for one
-- peer since its last discard.
use Rattle.std.specs.Prelude.{◌≡◌, ℕ, ◌==◌, ◌⊎◌, List, [], ◌∷◌, ◌++◌, take, drop, if◌then◌else◌}
use Rattle.m2_policy.specs.declared.path.Key.{Key}
use Rattle.m2_queues.specs.ByRank.{IsFalling}
use Rattle.m2_dispatch.specs.declared.letter.Letter as letter
use Rattle.m2_dispatch.specs.declared.parcel.Parcel.{Parcel}
use Rattle.m2_dispatch.specs.declared.parcel.Parcel.TheVariants.{Discard, RemoteReset}
use Rattle.m2_dispatch.specs.declared.parcel.Parcel.TheVariants as parcel
use Rattle.m2_dispatch.specs.Letters.{letter_priority, letters_of_key}
use Rattle.m2_dispatch.specs.Parcel.{after_put}

-- A call that did what it says. One for which memory ran out leaves all as it was.
pub data Call : Type 0 where
  Put : Parcel → Call
  Turn : Call

-- the letters that wait; since the peer's last discard those that were put and those that were dispatched; and all
-- that ever were
pub record History : Type 0 where
  pub waiting : List letter.Letter
  pub put : List letter.Letter
  pub dispatched : List letter.Letter
  pub ever_put : List letter.Letter
  pub ever_dispatched : List letter.Letter

abbrev pub start : History
start = record { waiting = []; put = []; dispatched = []; ever_put = []; ever_dispatched = [] }

-- the letters that a parcel brings
abbrev pub letters_of : Parcel → List letter.Letter
letters_of (parcel.Letter l) = l ∷ []
letters_of (Discard p) = []
letters_of (RemoteReset p) = []

-- a list since the peer's last discard begins anew with the next one
abbrev pub since : ℕ → Parcel → List letter.Letter → List letter.Letter
since peer (parcel.Letter l) ls = ls
since peer (Discard p) ls = if p == peer then [] else ls
since peer (RemoteReset p) ls = ls

abbrev pub after_call : ℕ → History → Call → History
after_call peer h (Put parcel) = record {
  waiting = after_put parcel h.waiting;
  put = since peer parcel h.put ++ letters_of parcel;
  dispatched = since peer parcel h.dispatched;
  ever_put = h.ever_put ++ letters_of parcel;
  ever_dispatched = h.ever_dispatched;
}
after_call peer h Turn = record h {
  waiting = drop 1 h.waiting;
  dispatched = h.dispatched ++ take 1 h.waiting;
  ever_dispatched = h.ever_dispatched ++ take 1 h.waiting;
}

abbrev pub after_calls : ℕ → History → List Call → History
after_calls peer h [] = h
after_calls peer h (c ∷ cs) = after_calls peer (after_call peer h c) cs

-- a new dispatch's history after these calls
abbrev pub history_of : ℕ → List Call → History
history_of peer calls = after_calls peer start calls

-- since the peer's last discard, each key's letters are dispatched in the order in which they were put, none left out
-- and none twice
abbrev pub EachKeyKeepsItsOrder : Type 0
EachKeyKeepsItsOrder = (peer : ℕ) (key : Key) (calls : List Call) → let h = history_of peer calls in
    letters_of_key peer key h.dispatched ++ letters_of_key peer key h.waiting ≡ letters_of_key peer key h.put

-- xs is some of ys, in the same order
abbrev pub IsSublist : {X : Type 0} → List X → List X → Type 0
IsSublist [] ys = Unit {0}
IsSublist (x ∷ xs) [] = ⊥
IsSublist (x ∷ xs) (y ∷ ys) = ((x ≡ y) × IsSublist xs ys) ⊎ IsSublist (x ∷ xs) ys

-- also over discards, what is dispatched of a key comes in the order in which it was put, none twice
abbrev pub DispatchedInOrder : Type 0
DispatchedInOrder = (peer : ℕ) (key : Key) (calls : List Call) → let h = history_of peer calls in
    IsSublist (letters_of_key peer key h.ever_dispatched) (letters_of_key peer key h.ever_put)

-- no letter that waits has a greater priority than one that will be dispatched before it
abbrev pub GreatestPriorityFirst : Type 0
GreatestPriorityFirst = (peer : ℕ) (calls : List Call) → IsFalling letter_priority (history_of peer calls).waiting
