-- What a pass knows of the counter of global numbers it knows still behind a step.
use Rattle.std.proofs.Common.{◌≡◌, Option, ap, arith}
use Rattle.m2_core.specs.LiveHearing.{raised_by}
use Rattle.m2_feed.specs.declared.heard.Heard.{Heard}
use Rattle.m2_shared.specs.Numbers.{SeenNumberPass}
use Rattle.m2_shared.specs.Place.{Place}
use Rattle.m2_record.specs.declared.composing.Composed.{Composed}
use Rattle.m2_record.specs.declared.composing.Composed.TheVariants as composed
use Rattle.m2_record.specs.declared.due.Due.{Due}
use Rattle.m2_record.specs.declared.due.Due.TheVariants as due
use Rattle.m2_record.specs.Calls.{DrawsAs}
use Rattle.m2_record.specs.Due.{due_step}
use Rattle.m2_record.specs.RecordNow.{RecordNow}
use Rattle.m2_record.specs.Stepping.{KeepsReached, StepsBy, TakesDue, Worked}
use Rattle.m2_record.proofs.DueSteps.{raised-least}

stays : (before behind : SeenNumberPass) → behind ≡ before → KeepsReached before behind
stays before behind e n fits h = let l = ap (λ (p : SeenNumberPass). p.least) e in omega (arith, l, h)

raised : (o : Option Heard) (before behind : SeenNumberPass) → behind ≡ raised_by o before → KeepsReached before behind
raised o before behind e n fits h = let l = ap (λ (p : SeenNumberPass). p.least) e in let more = raised-least o before in omega (arith, l, more, h)

drawn : (c : Composed) (place : Place) (before behind : SeenNumberPass) → DrawsAs c place before behind → KeepsReached before behind
drawn (composed.Asked by_ident number) place before behind d n fits h = let l = d.least in let a = d.above in omega (arith, l, a, h)
drawn composed.Spent place before behind d n fits h = let l = d.least in omega (arith, l, fits)
drawn (composed.Again seen now) place before behind d n fits h = let l = d.least in let a = d.again in omega (arith, l, a.0, a.1, h)
drawn composed.NoMemory place before behind d n fits h = stays before behind d n fits h
drawn (composed.Numbered number) place before behind d n fits h = stays before behind d n fits h
drawn composed.Answered place before behind d n fits h = stays before behind d n fits h
drawn composed.Acknowledged place before behind d n fits h = stays before behind d n fits h

by_due : (d : Due) (w : Worked) (old new : RecordNow) → StepsBy d w old new → KeepsReached w.numbers.before w.numbers.behind
by_due due.Nothing w old new r = stays w.numbers.before w.numbers.behind r.numbers
by_due (due.Connect at) w old new r = stays w.numbers.before w.numbers.behind r.numbers
by_due due.Plan w old new r = stays w.numbers.before w.numbers.behind r.numbers
by_due due.Hand w old new r = stays w.numbers.before w.numbers.behind r.numbers
by_due due.Write w old new r = stays w.numbers.before w.numbers.behind r.numbers
by_due due.Frame w old new r = stays w.numbers.before w.numbers.behind r.numbers
by_due due.Read w old new r = raised r.read.heard w.numbers.before w.numbers.behind r.numbers
by_due due.Compose w old new r = drawn r.composed w.numbers.place w.numbers.before w.numbers.behind r.numbers

pub due-reached : (w : Worked) (old new : RecordNow) → TakesDue w old new → KeepsReached w.numbers.before w.numbers.behind
due-reached w old new takes = by_due (due_step w.now old) w old new takes
