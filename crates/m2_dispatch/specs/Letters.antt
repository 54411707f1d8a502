-- Letters and lists of them: their priority, whom they come from, what is granted for them, and what a dispatcher
-- hears of them. This project's own.
use Rattle.std.specs.Prelude.{ℕ, ◌==◌, Bool, not, ◌&&◌, Option, Some, None, List, [], ◌∷◌, All, filter, sum_by}
use Rattle.m2_message.specs.Message.{content_of}
use Rattle.m2_policy.specs.declared.path.Key.{Key}
use Rattle.m2_dispatch.specs.Heard.{Heard, is_key, message}
use Rattle.m2_shared.specs.Gates.{AreHeld, Gate, Places, held}
use Rattle.m2_dispatch.specs.declared.letter.Letter.{Letter}

abbrev pub letter_priority : Letter → ℕ
letter_priority l = l.key.priority

-- what a dispatcher is called with for it
abbrev pub heard_in : Letter → Heard
heard_in l = message l.peer l.key l.number l.life (content_of l.message)

abbrev pub is_of_peer : ℕ → Letter → Bool
is_of_peer peer l = l.peer == peer

-- the letters of a peer, in order
abbrev pub of_peer : ℕ → List Letter → List Letter
of_peer peer ls = filter (is_of_peer peer) ls

-- the letters of all other peers, in order
abbrev pub others : ℕ → List Letter → List Letter
others peer ls = filter (λ l. not (is_of_peer peer l)) ls

abbrev pub is_of_key : ℕ → Key → Letter → Bool
is_of_key peer key l = is_of_peer peer l && is_key l.key key

-- the letters of a peer with a key, in order
abbrev pub letters_of_key : ℕ → Key → List Letter → List Letter
letters_of_key peer key ls = filter (is_of_key peer key) ls

-- how much is granted for it at a gate
abbrev pub granted_for : Gate → Letter → ℕ
granted_for gate l = held l.grants gate

-- how much is granted for all of them together
abbrev pub granted : List Letter → Gate → ℕ
granted ls gate = sum_by (granted_for gate) ls

-- its grants were made from the throttles whose words lie there
abbrev pub IsOwnedLetter : Places → Letter → Type 0
IsOwnedLetter places l = AreHeld places l.grants

-- all their grants were
abbrev pub AreOwned : Places → List Letter → Type 0
AreOwned places ls = All (IsOwnedLetter places) ls

abbrev pub first_of : List Letter → Option Letter
first_of [] = None
first_of (l ∷ ls) = Some l
