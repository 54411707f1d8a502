-- What a step of a side does: a step of its record, and where that hands out a parcel, what its dispatchers are called with.
-- This project's own.
use Rattle.m2_shared.specs.Gates.{Gate, dispatch, words}
use Rattle.std.specs.Prelude.{◌≡◌, ℕ, ◌-◌, Bool, true, false, List, [], ◌∷◌, ◌++◌}
use Rattle.m2_dispatch.specs.declared.logged.Logged.{Logged}
use Rattle.m2_dispatch.specs.declared.logged.Logged.TheVariants as logged
use Rattle.m2_dispatch.specs.declared.letter.Letter.{Letter}
use Rattle.m2_dispatch.specs.declared.parcel.Parcel.{Parcel}
use Rattle.m2_dispatch.specs.declared.parcel.Parcel.TheVariants as parcel
use Rattle.m2_policy.specs.declared.path.Path.{Path}
use Rattle.m2_policy.specs.declared.path.Path.TheVariants as path
use Rattle.m2_record.specs.declared.stepped.Stepped.{Stepped}
use Rattle.m2_record.specs.declared.stepped.Stepped.TheVariants as stepped
use Rattle.m2_record.specs.Calls.{granted_in}
use Rattle.m2_record.specs.Stepping.{StepsAs, Worked}
use Rattle.m2_record_trace.specs.declared.step.SideStep.{SideStep}
use Rattle.m2_record_trace.specs.declared.step.SideStep.TheVariants as side
use Rattle.m2_record_trace.specs.SideNow.{SideNow}

-- ---- what is handed out

abbrev pub call_of : Letter → Logged
call_of l = logged.Message l.peer l.key l.number l.life l.message

-- a message of a kind that isn't fast, and a reset
abbrev pub queued_by : Path → Logged → List Logged
queued_by path.Queued call = call ∷ []
queued_by path.Fast call = []

abbrev pub fast_by : Path → Logged → List Logged
fast_by path.Queued call = []
fast_by path.Fast call = call ∷ []

-- what the dispatcher behind the queue is called with for a parcel, and what the one that takes messages at once is. Nothing
-- waits, so a discard throws nothing away.
abbrev pub queued_of : Parcel → List Logged
queued_of (parcel.Letter l) = queued_by l.key.path (call_of l)
queued_of (parcel.Discard peer) = []
queued_of (parcel.RemoteReset peer) = logged.Reset peer ∷ []

abbrev pub fast_of : Parcel → List Logged
fast_of (parcel.Letter l) = fast_by l.key.path (call_of l)
fast_of (parcel.Discard peer) = []
fast_of (parcel.RemoteReset peer) = []

-- ---- of an answer of the record's step

-- the same answer, without its parcel
abbrev pub side_step : Stepped → SideStep
side_step stepped.Moved = side.Moved
side_step (stepped.Hand x) = side.Handed
side_step stepped.Dry = side.Dry
side_step (stepped.Full stage held) = side.Full held
side_step (stepped.Again stage seen now) = side.Again
side_step stepped.Spent = side.Spent
side_step (stepped.Faulted cause) = side.Faulted cause
side_step stepped.NoMemory = side.NoMemory

abbrev pub queued_at : Stepped → List Logged
queued_at (stepped.Hand x) = queued_of x
queued_at answer = []

abbrev pub fast_at : Stepped → List Logged
fast_at (stepped.Hand x) = fast_of x
fast_at answer = []

-- how much is given back for what it hands out
abbrev pub given_back : Stepped → Gate → ℕ
given_back (stepped.Hand x) gate = granted_in x gate
given_back answer gate = 0

-- something was done
abbrev pub has_moved : SideStep → Bool
has_moved side.Moved = true
has_moved side.Handed = true
has_moved (side.Faulted cause) = true
has_moved _ = false

-- ---- a step

-- Its record takes a step at this moment, which answers so; a parcel that it hands out is dispatched, and its grants given back.
pub record TakesStep (answer : SideStep) (now : ℕ) (old new : SideNow) : Type 0 where
  pub stepped : Stepped
  pub worked : Worked
  pub moment : worked.now ≡ now
  pub same : worked.answer ≡ stepped
  pub answers : answer ≡ side_step stepped
  pub steps : StepsAs stepped worked old.kept new.kept
  pub before : words worked.bytes.before dispatch ≡ old.out
  pub only : new ≡ record old {
    kept = new.kept;
    out = words worked.bytes.behind dispatch - given_back stepped dispatch;
    log = old.log ++ queued_at stepped;
    fast = old.fast ++ fast_at stepped;
  }
