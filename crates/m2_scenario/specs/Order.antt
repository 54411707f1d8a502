-- The order of messages: over a link of which it is promised, what a node heard from the other of each key (a priority
-- with a dispatch path) is a prefix of what the other posted to it, in order, each once. Said of a scenario's lines and
-- of the calls of dispatchers alone. This is the project's promise; a message is the same whatever numbers the runtime
-- wrote into it.
use Rattle.std.specs.Prelude.{◌≡◌, ℕ, zero, suc, ◌+◌, ◌==◌, ◌&&◌, ◌<◌, ◌≤◌, Bool, true, false, if◌then◌else◌, List, [], ◌∷◌, length, take, sum_by, count_by}
use Rattle.std.specs.List.{AllByRecursion}
use Rattle.m2_message.specs.Message.{Content, IsSameMessage}
use Rattle.m2_policy.specs.Path.{path_of}
use Rattle.m2_policy.specs.declared.path.Key.{Key}
use Rattle.m2_dispatch.specs.Heard.{Heard, message, reset, is_message_from, peer_of, is_key, of_key}
use Rattle.m2_scenario.specs.declared.link.Link.{Link}
use Rattle.m2_scenario.specs.declared.node.Node.{Node}
use Rattle.m2_scenario.specs.Draft.{DraftLine, post, are_joined}

-- ---- what was posted

-- the kinds that a node dispatches at once
abbrev pub fast_of : Node → List ℕ
fast_of n = n.fast

-- the key of a message at a node that dispatches these kinds at once
abbrev pub key_of : List ℕ → Content → Key
key_of fast m = record { priority = m.header.priority; path = path_of m.header.kind fast }

-- the list at a place; the empty list where there is no such place
abbrev pub at : {X : Type 0} → ℕ → List (List X) → List X
at x [] = []
at zero (l ∷ ls) = l
at (suc x) (l ∷ ls) = at x ls

-- the messages that x posts to y, in order, with this key at y, which dispatches the kinds of `fast` at once
abbrev pub posts_of : (x y : ℕ) → List ℕ → Key → List DraftLine → List Content
posts_of x y fast key [] = []
posts_of x y fast key (post a b m ∷ ls) =
    if ((a == x) && (b == y)) && is_key (key_of fast m) key then m ∷ posts_of x y fast key ls else posts_of x y fast key ls
posts_of x y fast key (_ ∷ ls) = posts_of x y fast key ls

-- ---- what was heard of it

-- the same messages, one for one
abbrev pub AreSame : List Content → List Content → Type 0
AreSame [] [] = Unit {0}
AreSame (m ∷ ms) (n ∷ ns) = IsSameMessage m n × AreSame ms ns
AreSame _ _ = ⊥

-- the first ones of them, in order
pub record IsPrefixOf (heard posted : List Content) : Type 0 where
  pub few : length heard ≤ length posted
  pub same : AreSame heard (take (length heard) posted)

-- of each key, what y heard from x is a prefix of what x posted to y, in order, each once: by the kinds that each node
-- dispatches at once, the scenario's lines, and what each node heard
abbrev pub HearsPrefix : List (List ℕ) → List DraftLine → List (List Heard) → (x y : ℕ) → Type 0
HearsPrefix fast lines heard x y = (key : Key) → IsPrefixOf (of_key x key (at y heard)) (posts_of x y (at y fast) key lines)

-- and all of it
abbrev pub HearsWhole : List (List ℕ) → List DraftLine → List (List Heard) → (x y : ℕ) → Type 0
HearsWhole fast lines heard x y = (key : Key) → AreSame (of_key x key (at y heard)) (posts_of x y (at y fast) key lines)

-- no call is a reset by this node
abbrev pub IsNoResetBy : ℕ → Heard → Type 0
IsNoResetBy x (message peer key number life m) = Unit {0}
IsNoResetBy x (reset peer) = (peer == x) ≡ false

abbrev pub HearsNoReset : List (List Heard) → (x y : ℕ) → Type 0
HearsNoReset heard x y = AllByRecursion (IsNoResetBy x) (at y heard)

-- ---- over links

-- either way over each of these links that is so
abbrev pub OverEach : (Link → Bool) → List Link → (ℕ → ℕ → Type 0) → Type 0
OverEach is_so links how = AllByRecursion (λ (l : Link). is_so l ≡ true → how l.a l.b × how l.b l.a) links

-- how many of something there are, either way over all of these links that are so
abbrev pub count_over : (Link → Bool) → List Link → (ℕ → ℕ → ℕ) → ℕ
count_over is_so links count = sum_by (λ (l : Link). if is_so l then count l.a l.b + count l.b l.a else 0) links

-- how many posts of x to y there are, and how many messages of x the node at y heard
abbrev pub is_post_between : (x y : ℕ) → DraftLine → Bool
is_post_between x y (post a b m) = (a == x) && (b == y)
is_post_between x y _ = false

abbrev pub posts_between : List DraftLine → (x y : ℕ) → ℕ
posts_between lines x y = count_by (is_post_between x y) lines

abbrev pub messages_between : List (List Heard) → (x y : ℕ) → ℕ
messages_between heard x y = count_by (is_message_from x) (at y heard)

-- the messages that were heard over these links, and so many posts that are left, are the posts over them
abbrev pub AreCounted : (Link → Bool) → List Link → List DraftLine → List (List Heard) → (left : ℕ) → Type 0
AreCounted is_so links lines heard left =
    count_over is_so links (messages_between heard) + left ≡ count_over is_so links (posts_between lines)

-- ---- from whom

-- a node of so many that a link joins with the node at y
pub record IsPeer (nodes : ℕ) (links : List Link) (y x : ℕ) : Type 0 where
  pub within : x < nodes
  pub joined : are_joined links x y ≡ true

-- there is a list for each node, and all calls of a node's dispatchers are of nodes that links join with it
pub record AreOfJoined (nodes : ℕ) (links : List Link) (heard : List (List Heard)) : Type 0 where
  pub places : length heard ≡ nodes
  pub peers : (y : ℕ) → AllByRecursion (λ (h : Heard). IsPeer nodes links y (peer_of h)) (at y heard)
