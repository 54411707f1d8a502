-- What a node's dispatcher was called with, apart from where bytes lie in memory.
use Rattle.std.specs.Prelude.{ℕ, ◌==◌, Bool, true, false, ◌&&◌, if◌then◌else◌, List, [], ◌∷◌, map}
use Rattle.m2_message.specs.Message.{Content, content_of}
use Rattle.m2_policy.specs.declared.path.Key.{Key}
use Rattle.m2_policy.specs.declared.path.Path.{Path}
use Rattle.m2_policy.specs.declared.path.Path.TheVariants.{Fast, Queued}
use Rattle.m2_dispatch.specs.declared.logged.Logged.{Logged}
use Rattle.m2_dispatch.specs.declared.logged.Logged.TheVariants as logged

-- a message with its key, its number in the session and the name of the life that it was accepted in, or a reset, and the
-- place of the peer that it comes from
pub data Heard : Type 0 where
  message : (peer : ℕ) → Key → (number life : ℕ) → Content → Heard
  reset : (peer : ℕ) → Heard

abbrev pub heard_of : Logged → Heard
heard_of (logged.Message peer key number life m) = message peer key number life (content_of m)
heard_of (logged.Reset peer) = reset peer

-- what a log tells of it
abbrev pub heard_by : List Logged → List Heard
heard_by log = map heard_of log

abbrev pub peer_of : Heard → ℕ
peer_of (message peer key number life m) = peer
peer_of (reset peer) = peer

-- a message of this peer
abbrev pub is_message_from : ℕ → Heard → Bool
is_message_from x (message peer key number life m) = peer == x
is_message_from x (reset peer) = false

abbrev pub is_path : Path → Path → Bool
is_path Fast Fast = true
is_path Queued Queued = true
is_path _ _ = false

abbrev pub is_key : Key → Key → Bool
is_key k l = (k.priority == l.priority) && is_path k.path l.path

-- the messages of a peer with a key, in order
abbrev pub of_key : ℕ → Key → List Heard → List Content
of_key peer key [] = []
of_key peer key (message p k number life m ∷ hs) = if (p == peer) && is_key k key then m ∷ of_key peer key hs else of_key peer key hs
of_key peer key (reset p ∷ hs) = of_key peer key hs
