-- The ordered channel of one direction of a link whose sides begin anew, each in lives of its own: what its state is, its
-- steps, and its runs. Like the channel without lives it knows no sockets, numbers on the wire, resending or handshakes; of
-- cookies it knows that lives have names. This project's own.
use Rattle.std.specs.Prelude.{◌≡◌, ◌≢◌, ℕ, ◌+◌, ◌-◌, ◌<◌, ◌⊎◌, ◌==◌, Bool, true, false, if◌then◌else◌, List, [], ◌∷◌, ◌++◌, map, take, drop, slice_get, Some}
use Rattle.std.specs.List.{AllByRecursion, filter, flat_map}
use Rattle.m2_channel.specs.Channel.{KeyedMessage, of_key, keyed}
use Rattle.m2_channel.specs.m2_dispatch.Heard.{is_key}
use Rattle.m2_channel.specs.m2_dispatch.m2_message.Message.{Content, unnumbered}
use Rattle.m2_channel.specs.m2_dispatch.m2_policy.declared.path.Key.{Key}

-- ---- the state

-- of each key how many
abbrev pub Counts : Type 0
Counts = Key → ℕ

abbrev pub none : Counts
none = λ key. 0

abbrev pub one_more : Key → Counts → Counts
one_more key counts = λ other. if is_key key other then counts other + 1 else counts other

-- A life of the side that posts, from where it begins to number its messages to where it begins again. Of each key it holds
-- what was posted from its start to its end, and of these the first ones are acknowledged.
pub record SendingLife : Type 0 where
  pub name : ℕ
  pub start : Counts
  pub end : Counts
  pub acknowledged : Counts

-- A life of the side that dispatches, likewise: of each key how many it has accepted, and how many of these are dispatched.
pub record ReceivingLife : Type 0 where
  pub name : ℕ
  pub accepted : Counts
  pub dispatched : Counts

pub record LivesChannel : Type 0 where
  pub posted : List KeyedMessage
  -- the lives that have ended, in order, and the current one, which holds all that is posted
  pub sent : List SendingLife
  pub sends : SendingLife
  pub received : List ReceivingLife
  pub receives : ReceivingLife
  -- whether a side was marked down
  pub marked : Bool

-- the name 0 is none
abbrev pub new_lives : LivesChannel
new_lives = record {
  posted = [];
  sent = [];
  sends = record { name = 0; start = none; end = none; acknowledged = none };
  received = [];
  receives = record { name = 0; accepted = none; dispatched = none };
  marked = false;
}

abbrev pub sending_lives : LivesChannel → List SendingLife
sending_lives c = c.sent ++ c.sends ∷ []

abbrev pub receiving_lives : LivesChannel → List ReceivingLife
receiving_lives c = c.received ++ c.receives ∷ []

-- ---- its steps

pub data LivesStep : Type 0 where
  post : Key → Content → LivesStep
  -- The side that posts begins a life of this name. Either all that isn't acknowledged is numbered anew, or it is thrown away.
  begins_sending : (name : ℕ) → (thrown : Bool) → LivesStep
  -- the side that dispatches begins one
  begins_receiving : (name : ℕ) → LivesStep
  accept : Key → Content → LivesStep
  -- one message of the key more is acknowledged
  acknowledge : Key → LivesStep
  -- a message is dispatched that was accepted in the life of this name
  dispatch : (name : ℕ) → Key → Content → LivesStep
  -- a side is marked down
  mark : LivesStep
  -- the session is reset
  reset : LivesStep

-- ---- when a step may be taken

-- this holds of one of them
abbrev pub Has : {X : Type 0} → (X → Type 0) → List X → Type 0
Has P [] = ⊥
Has P (x ∷ xs) = P x ⊎ Has P xs

-- it is none, or no life has it
abbrev pub IsNewName : ℕ → List ℕ → Type 0
IsNewName name names = (name ≡ 0) ⊎ AllByRecursion (λ n. n ≢ name) names

-- Of what was posted with the key, the message behind the first `done` ones of a life is the same as this one: the same in
-- all but the two numbers that the runtime writes.
abbrev pub IsSameAt : Key → Content → (done : ℕ) → (posted : List KeyedMessage) → SendingLife → Type 0
IsSameAt key m done posted l = slice_get (of_key key posted) (l.start key + done) ≡ Some (unnumbered m)

-- the life that is accepted from: the one sending life of the current receiving life's name
pub record Holds (name : ℕ) (key : Key) (m : Content) (done : ℕ) (posted : List KeyedMessage) (l : SendingLife) : Type 0 where
  pub named : l.name ≡ name
  pub below : l.start key + done < l.end key
  pub same : IsSameAt key m done posted l

pub record MayBeAccepted (key : Key) (m : Content) (c : LivesChannel) : Type 0 where
  pub kept : c.receives.name ≢ 0
  pub held : Has (Holds c.receives.name key m (c.receives.accepted key) c.posted) (sending_lives c)

-- a life of the side that dispatches has this name, and has accepted more of the key
abbrev pub HasAccepted : ℕ → Key → (known : ℕ) → ReceivingLife → Type 0
HasAccepted name key known l = (l.name ≡ name) × (known < l.accepted key)

pub record MayBeAcknowledged (key : Key) (c : LivesChannel) : Type 0 where
  pub kept : c.sends.name ≢ 0
  pub accepted : Has (HasAccepted c.sends.name key (c.sends.acknowledged key)) (receiving_lives c)

-- It is the next one of its life that was accepted, and nothing of its key is dispatched of a later life.
pub record MayBeDispatched (name : ℕ) (key : Key) (m : Content) (c : LivesChannel) : Type 0 where
  pub kept : name ≢ 0
  pub before : List ReceivingLife
  pub life : ReceivingLife
  pub later : List ReceivingLife
  pub lives : receiving_lives c ≡ before ++ life ∷ later
  pub named : life.name ≡ name
  pub accepted : life.dispatched key < life.accepted key
  pub first : AllByRecursion (λ (l : ReceivingLife). l.dispatched key ≡ 0) later
  pub held : Has (λ (l : SendingLife). (l.name ≡ name) × IsSameAt key m (life.dispatched key) c.posted l) (sending_lives c)

abbrev pub IsLawfulInLives : LivesStep → LivesChannel → Type 0
IsLawfulInLives (post key m) c = Unit {0}
IsLawfulInLives (begins_sending name thrown) c = IsNewName name (map (λ (l : SendingLife). l.name) (sending_lives c))
IsLawfulInLives (begins_receiving name) c = IsNewName name (map (λ (l : ReceivingLife). l.name) (receiving_lives c))
IsLawfulInLives (accept key m) c = MayBeAccepted key m c
IsLawfulInLives (acknowledge key) c = MayBeAcknowledged key c
IsLawfulInLives (dispatch name key m) c = MayBeDispatched name key m c
IsLawfulInLives mark c = Unit {0}
IsLawfulInLives reset c = c.marked ≡ true

-- ---- what a step changes

-- a life that begins behind another one: with the first that isn't acknowledged, or behind all
abbrev pub next_life : SendingLife → (name : ℕ) → (thrown : Bool) → SendingLife
next_life l name thrown = record {
  name = name;
  start = λ key. (if thrown then l.end key else l.start key + l.acknowledged key);
  end = l.end;
  acknowledged = none;
}

-- in a life of this name one more is dispatched
abbrev pub one_dispatched : (name : ℕ) → Key → ReceivingLife → ReceivingLife
one_dispatched name key l = if l.name == name then record l { dispatched = one_more key l.dispatched } else l

abbrev pub changed_in_lives : LivesStep → LivesChannel → LivesChannel
changed_in_lives (post key m) c = record c {
  posted = c.posted ++ keyed key m ∷ [];
  sends = record c.sends { end = one_more key c.sends.end };
}
changed_in_lives (begins_sending name thrown) c = record c {
  sent = sending_lives c;
  sends = next_life c.sends name thrown;
}
changed_in_lives (begins_receiving name) c = record c {
  received = receiving_lives c;
  receives = record { name = name; accepted = none; dispatched = none };
}
changed_in_lives (accept key m) c = record c {
  receives = record c.receives { accepted = one_more key c.receives.accepted };
}
changed_in_lives (acknowledge key) c = record c {
  sends = record c.sends { acknowledged = one_more key c.sends.acknowledged };
}
changed_in_lives (dispatch name key m) c = record c {
  received = map (one_dispatched name key) c.received;
  receives = one_dispatched name key c.receives;
}
changed_in_lives mark c = record c { marked = true }
changed_in_lives reset c = c

-- ---- its runs

abbrev pub after_in_lives : List LivesStep → LivesChannel → LivesChannel
after_in_lives [] c = c
after_in_lives (x ∷ xs) c = after_in_lives xs (changed_in_lives x c)

-- each step may be taken where those before it lead
abbrev pub IsRunOfLives : List LivesStep → LivesChannel → Type 0
IsRunOfLives [] c = Unit {0}
IsRunOfLives (x ∷ xs) c = IsLawfulInLives x c × IsRunOfLives xs (changed_in_lives x c)

-- ---- words of lists of steps

-- a message and the name of a life
pub record LifeMessage : Type 0 where
  pub life : ℕ
  pub message : KeyedMessage

abbrev pub of_life : ℕ → List LifeMessage → List KeyedMessage
of_life name xs = map (λ (x : LifeMessage). x.message) (filter (λ (x : LifeMessage). x.life == name) xs)

-- what they post, in order
abbrev pub posts : List LivesStep → List KeyedMessage
posts [] = []
posts (post key m ∷ xs) = keyed key m ∷ posts xs
posts (_ ∷ xs) = posts xs

-- what they accept, where the current life has this name
abbrev pub acceptances_from : (now : ℕ) → List LivesStep → List LifeMessage
acceptances_from now [] = []
acceptances_from now (begins_receiving name ∷ xs) = acceptances_from name xs
acceptances_from now (accept key m ∷ xs) = record { life = now; message = keyed key m } ∷ acceptances_from now xs
acceptances_from now (_ ∷ xs) = acceptances_from now xs

abbrev pub acceptances : List LivesStep → List LifeMessage
acceptances xs = acceptances_from 0 xs

abbrev pub dispatches : List LivesStep → List LifeMessage
dispatches [] = []
dispatches (dispatch name key m ∷ xs) = record { life = name; message = keyed key m } ∷ dispatches xs
dispatches (_ ∷ xs) = dispatches xs

-- ---- what lives hold

-- of what was posted with the key, what a life holds: from its start to its end
abbrev pub held_by : Key → (posted : List KeyedMessage) → SendingLife → List Content
held_by key posted l = take (l.end key - l.start key) (drop (l.start key) (of_key key posted))

-- what the life of this name holds; nothing where there is none
abbrev pub held_in : (name : ℕ) → Key → LivesChannel → List Content
held_in name key c = flat_map (λ (l : SendingLife). (if l.name == name then held_by key c.posted l else [])) (sending_lives c)
