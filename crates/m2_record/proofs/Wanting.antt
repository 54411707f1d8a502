-- A step that finds no memory leaves the words of throttles that are alone, and draws no number.
use Rattle.std.proofs.Common.{◌≡◌, ℕ, ◌-◌, Bool, true, false, Option, Some, None, Ok, Err, refl, sym, ap, subst, ◌∙◌, arith}
use Rattle.std.specs.Prelude.{Result}
use Rattle.m2_bytes.specs.declared.memory.NoMemory as memory
use Rattle.m2_core.specs.Granting.{Throttled}
use Rattle.m2_core.specs.LiveHearing.{raised_by}
use Rattle.m2_fabric.specs.declared.end.EndRead.{EndRead}
use Rattle.m2_fabric.specs.declared.end.EndRead.TheVariants as read
use Rattle.m2_feed.specs.declared.answers.FeedWrite.{FeedWrite}
use Rattle.m2_feed.specs.declared.answers.FeedWrite.TheVariants as put
use Rattle.m2_feed.specs.declared.heard.Heard.{Heard}
use Rattle.m2_handshake.specs.declared.answer.HalfStep.{HalfStep}
use Rattle.m2_handshake.specs.declared.answer.HalfStep.TheVariants as half
use Rattle.m2_journal.specs.declared.facts.PlanStep.{PlanStep}
use Rattle.m2_journal.specs.declared.facts.PlanStep.TheVariants as step
use Rattle.m2_shared.specs.Numbers.{SeenNumberPass}
use Rattle.m2_shared.specs.Place.{Place}
use Rattle.m2_shared.specs.Gates.{Gate, words}
use Rattle.m2_shared.specs.declared.throttles.TakePasses.{TakePasses}
use Rattle.m2_record.specs.declared.composing.Composed.{Composed}
use Rattle.m2_record.specs.declared.composing.Composed.TheVariants as composed
use Rattle.m2_record.specs.declared.due.Due.{Due}
use Rattle.m2_record.specs.declared.due.Due.TheVariants as due
use Rattle.m2_record.specs.declared.framing.Framed.{Framed}
use Rattle.m2_record.specs.declared.framing.Framed.TheVariants as framed
use Rattle.m2_record.specs.declared.reading.RecordRead.{RecordRead}
use Rattle.m2_record.specs.declared.stepped.Stepped.{Stepped}
use Rattle.m2_record.specs.declared.stepped.Stepped.TheVariants as stepped
use Rattle.m2_record.specs.Calls.{DrawsAs, IsSameButRoom, fault_put, returned_for}
use Rattle.m2_record.specs.Due.{due_step, next_step}
use Rattle.m2_record.specs.Framing.{WordsFramed}
use Rattle.m2_record.specs.Reading.{fault_by, fault_read}
use Rattle.m2_record.specs.RecordNow.{RecordNow}
use Rattle.m2_record.specs.Stepping.{DrawsNothing, GivesBack, IfMemory, KeepsWords, NothingDone, PlansAs, StepsAs, StepsBy, TakesDue, Worked, answer_framed, answer_planned, answer_put, returned_planned}
use Rattle.m2_record.proofs.DueSteps.{memory-composed, memory-read, nothing-behind, unheard}
use Rattle.m2_bytes.proofs.m2_lemmas.Booleans.{false_isnt_true}

is_memory : Stepped → Bool
is_memory stepped.NoMemory = true
is_memory _ = false

is_err : Result (Unit {0}) memory.NoMemory → Bool
is_err (Ok u) = false
is_err (Err e) = true

-- ---- what is given back

planned : (o : Option PlanStep) (taken : Result (Unit {0}) memory.NoMemory) (now : ℕ) (old new : RecordNow) → PlansAs o taken now old new → answer_planned taken ≡ stepped.NoMemory →
    (gate : Gate) → returned_planned o old gate ≡ 0
unfolding is_memory is_err
planned o (Ok u) now old new p a gate = absurd (false_isnt_true (ap is_memory a))
planned (Some (step.Post m)) (Err e) now old new p a gate = refl
planned (Some step.Dial) (Err e) now old new p a gate = refl
planned (Some step.Down) (Err e) now old new p a gate = absurd p
planned None (Err e) now old new p a gate = absurd (false_isnt_true (sym (ap is_err p.0)))

putting : (answer : FeedWrite) (old : RecordNow) → answer_put answer ≡ stepped.NoMemory → (gate : Gate) → returned_for (fault_put answer) old gate ≡ 0
unfolding is_memory
putting put.NoMemory old a gate = refl
putting (put.Put n acknowledged) old a gate = absurd (false_isnt_true (ap is_memory a))
putting put.NotYet old a gate = absurd (false_isnt_true (ap is_memory a))
putting put.Failed old a gate = absurd (false_isnt_true (ap is_memory a))

reading : (x : RecordRead) (old : RecordNow) → x.answer ≡ read.NoMemory → (gate : Gate) → returned_for (fault_read x) old gate ≡ 0
reading x old e gate = ap (λ (z : EndRead). returned_for (fault_by z x.heard) old gate) e

halving : (answer : HalfStep) (t : Throttled) (before behind : Gate → ℕ) → answer_framed (framed.Half answer) ≡ stepped.NoMemory → WordsFramed (framed.Half answer) t before behind → KeepsWords t
unfolding is_memory
halving half.NoMemory t before behind a h = h
halving (half.Fault e) t before behind a h = absurd (false_isnt_true (ap is_memory a))
halving half.NotYet t before behind a h = absurd (false_isnt_true (ap is_memory a))
halving half.Wrote t before behind a h = absurd (false_isnt_true (ap is_memory a))
halving half.Authed t before behind a h = absurd (false_isnt_true (ap is_memory a))

framing : (f : Framed) (t : Throttled) (before behind : Gate → ℕ) → answer_framed f ≡ stepped.NoMemory → WordsFramed f t before behind → KeepsWords t
unfolding is_memory
framing (framed.Half answer) t before behind a h = halving answer t before behind a h
framing framed.NoMemory t before behind a h = h
framing framed.Passed t before behind a h = absurd (false_isnt_true (ap is_memory a))
framing framed.Granted t before behind a h = absurd (false_isnt_true (ap is_memory a))
framing (framed.Acked number) t before behind a h = absurd (false_isnt_true (ap is_memory a))
framing (framed.Accepted number) t before behind a h = absurd (false_isnt_true (ap is_memory a))
framing (framed.Obeyed full) t before behind a h = absurd (false_isnt_true (ap is_memory a))
framing (framed.Faulted cause) t before behind a h = absurd (false_isnt_true (ap is_memory a))
framing (framed.Full stage held) t before behind a h = absurd (false_isnt_true (ap is_memory a))
framing (framed.Again stage seen now) t before behind a h = absurd (false_isnt_true (ap is_memory a))

-- ---- the step that is due

gives_none : (n : Gate → ℕ) (t : Throttled) → GivesBack n t → ((gate : Gate) → n gate ≡ 0) → KeepsWords t
gives_none n t g none gate alone = let word = g gate alone in let e = none gate in omega (arith, word, e)

takes_none : (t : Throttled) → t.behind ≡ t.before → KeepsWords t
takes_none t e gate alone = ap (λ (p : TakePasses). words p gate) e

drawn : (c : Composed) (place : Place) (before behind : SeenNumberPass) → c ≡ composed.NoMemory → DrawsAs c place before behind → behind ≡ before
drawn c place before behind e d = subst (λ (z : Composed). DrawsAs z place before behind) e d

by_due : (d : Due) (w : Worked) (old new : RecordNow) → w.answer ≡ stepped.NoMemory → StepsBy d w old new → KeepsWords w.bytes × DrawsNothing w.numbers
by_due due.Nothing w old new a h = (takes_none w.bytes h.bytes, h.numbers)
by_due (due.Connect at) w old new a h = (takes_none w.bytes h.bytes, h.numbers)
by_due due.Plan w old new a h = (gives_none _ w.bytes h.bytes (planned (next_step old) h.taken w.now old new h.plans (sym h.answers ∙ a)), h.numbers)
by_due due.Hand w old new a h = (takes_none w.bytes h.bytes, h.numbers)
by_due due.Write w old new a h = (gives_none _ w.bytes h.bytes (putting h.put old (sym h.answers ∙ a)), h.numbers)
by_due due.Frame w old new a h = (framing h.framed w.bytes _ _ (sym h.answers ∙ a) h.bytes, h.numbers)
by_due due.Read w old new a h =
    let none : h.read.answer ≡ read.NoMemory = memory-read h.read.answer h.read.heard (sym h.answers ∙ a) in
    (gives_none _ w.bytes h.bytes (reading h.read old none), h.numbers ∙ ap (λ (o : Option Heard). raised_by o w.numbers.before) (unheard h.read w.now old new h.reads none))
by_due due.Compose w old new a h = (takes_none w.bytes h.bytes, drawn h.composed w.numbers.place w.numbers.before w.numbers.behind (memory-composed h.composed (sym h.answers ∙ a)) h.numbers)

due-wanting : (w : Worked) (old new : RecordNow) → w.answer ≡ stepped.NoMemory → TakesDue w old new → KeepsWords w.bytes × DrawsNothing w.numbers
due-wanting w old new a takes = by_due (due_step w.now old) w old new a takes

-- ---- the step

pub step-at : (a : Stepped) (w : Worked) (old mid new : RecordNow) → w.answer ≡ a → IsSameButRoom old mid → TakesDue w mid new → IfMemory a (NothingDone mid new) → StepsAs a w old new
step-at stepped.NoMemory w old mid new is room due none =
    let stays = due-wanting w mid new is due in
    record { nothing = nothing-behind old mid new room none; bytes = stays.0; numbers = stays.1 }
step-at stepped.Moved w old mid new is room due none = (mid, room, due)
step-at (stepped.Hand x) w old mid new is room due none = (mid, room, due)
step-at stepped.Dry w old mid new is room due none = (mid, room, due)
step-at (stepped.Full stage held) w old mid new is room due none = (mid, room, due)
step-at (stepped.Again stage seen now) w old mid new is room due none = (mid, room, due)
step-at stepped.Spent w old mid new is room due none = (mid, room, due)
step-at (stepped.Faulted cause) w old mid new is room due none = (mid, room, due)
