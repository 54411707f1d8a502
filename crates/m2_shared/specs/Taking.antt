-- What a call of a throttle answers, and what it leaves of the pass.
use Rattle.std.specs.Prelude.{◌≡◌, ◌≢◌, ℕ, ◌-◌, Option, Some, None}
use Rattle.m2_shared.specs.Changes.{IsLook, IsMissed, IsReturn, IsRoom}
use Rattle.m2_shared.specs.Place.{IsAlone, IsShared, Place}
use Rattle.m2_shared.specs.Take.{IfFull, IfGranted, IfTakeAgain, IsAnswerAlone, word_after}
use Rattle.m2_shared.specs.Throttle.{SeenGrant, SeenTakePass, SeenThrottle, Waits}
use Rattle.m2_shared.specs.declared.take.Take.{Take}
use Rattle.m2_shared.specs.declared.take.Take.TheVariants as take

-- a throttle, and a pass of it as a call finds and leaves it
pub record Taking : Type 0 where
  pub throttle : SeenThrottle
  pub before : SeenTakePass
  pub behind : SeenTakePass

abbrev pub taking : SeenThrottle → SeenTakePass → SeenTakePass → Taking
taking throttle before behind = record { throttle = throttle; before = before; behind = behind }

abbrev pub TakesNothing : Taking → Type 0
TakesNothing t = t.behind ≡ t.before

-- n that this throttle grants
abbrev pub grant_of : SeenThrottle → ℕ → SeenGrant
grant_of throttle n = record { place = throttle.place; n = n }

-- This is what the throttle answers to n. Of a throttle that is alone it is the answer of its word, which is never Again. Of a
-- word that threads share it is the answer of the words at which the pass has looked.
pub record IsAnswer (t : Taking) (n : ℕ) (answer : Take) : Type 0 where
  pub granted : IfGranted answer (λ g. g ≡ grant_of t.throttle n)
  pub alone : IsAlone t.throttle.place → IsAnswerAlone answer t.throttle.most t.before.word n
  pub room : IsShared t.throttle.place → IfGranted answer (λ _. IsRoom t.throttle.most n t.before.changes t.behind.changes)
  pub full : IfFull answer (λ held. Waits t.throttle.most held n)
  pub look : IsShared t.throttle.place → IfFull answer (λ held. IsLook held t.before.changes t.behind.changes)
  pub again : IfTakeAgain answer (λ seen now. (now ≢ seen) × ¬ Waits t.throttle.most seen n)
  pub missed : IfTakeAgain answer (λ seen now. IsMissed seen now t.before.changes t.behind.changes)
  pub place : t.behind.place ≡ t.before.place
  pub word : IsAlone t.throttle.place → t.behind.word ≡ word_after answer t.before.word n

-- what is granted was granted by the throttle whose word lies there
abbrev pub IsOwned : Place → Option SeenGrant → Type 0
IsOwned place (Some g) = g.place ≡ place
IsOwned place None = Unit {0}

-- n comes back
pub record IsGiven (t : Taking) (n : ℕ) : Type 0 where
  pub place : t.behind.place ≡ t.before.place
  pub word : IsAlone t.throttle.place → t.behind.word ≡ t.before.word - n
  pub given : IsShared t.throttle.place → IsReturn n t.before.changes t.behind.changes

-- what was granted comes back, where something was
abbrev pub IsGivenBack : Taking → Option SeenGrant → Type 0
IsGivenBack t (Some g) = IsGiven t g.n
IsGivenBack t None = TakesNothing t
