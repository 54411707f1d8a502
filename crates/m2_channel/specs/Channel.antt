-- The ordered channel of one direction of a link, from the side that posts to the side that dispatches: what its state
-- is, its steps, and its runs. It knows no sockets, cookies, numbers on the wire, resending or handshakes. This project's
-- own.
use Rattle.std.specs.Prelude.{◌≡◌, ℕ, ◌≤◌, ◌⊎◌, max, Bool, true, false, if◌then◌else◌, List, [], ◌∷◌, ◌++◌, length, slice_get, Some}
use Rattle.m2_dispatch.specs.Heard.{is_key}
use Rattle.m2_dispatch.specs.m2_message.Message.{Content, unnumbered}
use Rattle.m2_dispatch.specs.m2_policy.declared.path.Key.{Key}

-- a message with its key at the side that dispatches it, a priority with a path
pub record KeyedMessage : Type 0 where
  pub key : Key
  pub message : Content

-- those of a key, in order
abbrev pub of_key : Key → List KeyedMessage → List Content
of_key key [] = []
of_key key (x ∷ xs) = if is_key x.key key then x.message ∷ of_key key xs else of_key key xs

-- ---- the state

pub record Channel : Type 0 where
  -- what was posted, accepted and dispatched, in order; a message stands here without the two numbers that the runtime
  -- writes
  pub posted : List KeyedMessage
  pub accepted : List KeyedMessage
  pub dispatched : List KeyedMessage
  -- how many accepted messages the poster knows of
  pub acknowledged : ℕ
  -- whether a side was marked down
  pub marked : Bool

abbrev pub new_channel : Channel
new_channel = record { posted = []; accepted = []; dispatched = []; acknowledged = 0; marked = false }

-- ---- its steps

pub data ChannelStep : Type 0 where
  post : Key → Content → ChannelStep
  accept : Key → Content → ChannelStep
  dispatch : Key → Content → ChannelStep
  acknowledge : (count : ℕ) → ChannelStep
  -- a side is marked down
  mark : ChannelStep
  -- the session is reset
  reset : ChannelStep

-- Of the messages of this key among all, the first that isn't among those done is the same message as this one: the
-- same in all but the two numbers that the runtime writes.
abbrev pub IsNextOf : Key → Content → (done all : List KeyedMessage) → Type 0
IsNextOf key m done all = slice_get (of_key key all) (length (of_key key done)) ≡ Some (unnumbered m)

-- when a step may be taken in a channel that isn't marked
abbrev pub IsLawful : ChannelStep → Channel → Type 0
IsLawful (post key m) c = Unit {0}
IsLawful (accept key m) c = IsNextOf key m c.accepted c.posted
IsLawful (dispatch key m) c = IsNextOf key m c.dispatched c.accepted
IsLawful (acknowledge count) c = count ≤ length c.accepted
IsLawful mark c = Unit {0}
IsLawful reset c = ⊥

-- in a marked one each may be taken
abbrev pub MayTake : ChannelStep → Channel → Type 0
MayTake x c = (c.marked ≡ true) ⊎ IsLawful x c

abbrev pub keyed : Key → Content → KeyedMessage
keyed key m = record { key = key; message = unnumbered m }

-- what a step changes in a channel that isn't marked
abbrev pub changed : ChannelStep → Channel → Channel
changed (post key m) c = record c { posted = c.posted ++ keyed key m ∷ [] }
changed (accept key m) c = record c { accepted = c.accepted ++ keyed key m ∷ [] }
changed (dispatch key m) c = record c { dispatched = c.dispatched ++ keyed key m ∷ [] }
changed (acknowledge count) c = record c { acknowledged = max c.acknowledged count }
changed mark c = record c { marked = true }
changed reset c = c

-- in a marked one it changes nothing
abbrev pub after_step : ChannelStep → Channel → Channel
after_step x c = if c.marked then c else changed x c

-- ---- its runs

abbrev pub after_steps : List ChannelStep → Channel → Channel
after_steps [] c = c
after_steps (x ∷ xs) c = after_steps xs (after_step x c)

-- each step may be taken where those before it lead
abbrev pub IsRun : List ChannelStep → Channel → Type 0
IsRun [] c = Unit {0}
IsRun (x ∷ xs) c = MayTake x c × IsRun xs (after_step x c)

-- ---- words of lists of steps

abbrev pub IsNoMark : ChannelStep → Type 0
IsNoMark mark = ⊥
IsNoMark _ = Unit {0}

abbrev pub IsNoReset : ChannelStep → Type 0
IsNoReset reset = ⊥
IsNoReset _ = Unit {0}

-- the steps before the first mark
abbrev pub unmarked : List ChannelStep → List ChannelStep
unmarked [] = []
unmarked (mark ∷ xs) = []
unmarked (x ∷ xs) = x ∷ unmarked xs

-- what they post, accept and dispatch, in order
abbrev pub posts : List ChannelStep → List KeyedMessage
posts [] = []
posts (post key m ∷ xs) = keyed key m ∷ posts xs
posts (_ ∷ xs) = posts xs

abbrev pub acceptances : List ChannelStep → List KeyedMessage
acceptances [] = []
acceptances (accept key m ∷ xs) = keyed key m ∷ acceptances xs
acceptances (_ ∷ xs) = acceptances xs

abbrev pub dispatches : List ChannelStep → List KeyedMessage
dispatches [] = []
dispatches (dispatch key m ∷ xs) = keyed key m ∷ dispatches xs
dispatches (_ ∷ xs) = dispatches xs
