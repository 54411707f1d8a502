-- A half is the same one after each of its moves.
use Rattle.std.proofs.Common.{◌≡◌, ℕ, List, [], ◌∷◌, ◌++◌, take, refl, sym, ap, subst, ◌∙◌, append-nil, append_assoc}
use Rattle.m2_fabric.specs.declared.end.EndRead.{EndRead}
use Rattle.m2_fabric.specs.declared.end.EndRead.TheVariants as read
use Rattle.m2_fabric.specs.declared.end.EndWrite.{EndWrite}
use Rattle.m2_fabric.specs.declared.end.EndWrite.TheVariants as write
use Rattle.m2_fabric.specs.End.{SeenEnd, Reads, Writes}
use Rattle.m2_journal.specs.declared.entry.Entry.{Entry}
use Rattle.m2_journal.specs.declared.entry.Entry.TheVariants as entry
use Rattle.m2_journal.specs.Growth.{IsExtended}
use Rattle.m2_trail.specs.declared.step.IncomingStep.{IncomingStep}
use Rattle.m2_trail.specs.declared.step.IncomingStep.TheVariants as step
use Rattle.m2_trail.specs.Incoming.{IncomingNow, ReadsOn, StepsOn, WritesOn, noted_read, noted_write, with_entry}
use Rattle.m2_trail.specs.Trails.{TrailNow}
use Rattle.m2_trail.specs.declared.turn_moves.Outcome.{Outcome}
use Rattle.m2_trail.specs.declared.turn.HalfTurn.{HalfTurn}
use Rattle.m2_trail.specs.declared.turn.HalfTurn.TheVariants as turn
use Rattle.m2_trail.specs.HalfLaws.{IsLater, IsLaterEnd, IsLaterTrail}
use Rattle.m2_trail.specs.TurnMoves.{Makes, MakesMove, Move, answers, reads, writes}
use Rattle.m2_trail.specs.Turn.{AdvancesAs, Moves}

-- ---- ends

pub same_list : {X : Type 0} (xs : List X) → IsExtended xs xs
same_list xs = ([], sym (append-nil xs))

by_list : {X : Type 0} (xs ys : List X) → ys ≡ xs → IsExtended xs ys
by_list xs ys e = ([], e ∙ sym (append-nil xs))

longer_list : {X : Type 0} (xs ys zs : List X) → IsExtended xs ys → IsExtended ys zs → IsExtended xs zs
longer_list xs ys zs (more, first) (again, second) =
    (more ++ again, second ∙ ap (λ l. l ++ again) first ∙ append_assoc xs more again)

same_end : (e : SeenEnd) → IsLaterEnd e e
same_end e = record { id = refl; got = same_list e.log.got; put = same_list e.log.put; runs = same_list e.log.runs; closed = refl }

unmoved : (old new : SeenEnd) → new.id ≡ old.id → new.log.got ≡ old.log.got → new.log.put ≡ old.log.put → new.log.runs ≡ old.log.runs → new.log.closed ≡ old.log.closed → IsLaterEnd old new
unmoved old new id got put runs closed = record {
  id = id;
  got = by_list old.log.got new.log.got got;
  put = by_list old.log.put new.log.put put;
  runs = by_list old.log.runs new.log.runs runs;
  closed = closed;
}

after_read : (answer : EndRead) (piece : List ℕ) (old new : SeenEnd) → Reads answer piece old new → IsLaterEnd old new
after_read (read.Got n) piece old new (_, _, e) = record {
  id = ap (λ v. v.id) e;
  got = (take n piece, ap (λ v. v.log.got) e);
  put = by_list old.log.put new.log.put (ap (λ v. v.log.put) e);
  runs = (_, ap (λ v. v.log.runs) e);
  closed = ap (λ v. v.log.closed) e;
}
after_read read.NotYet piece old new (_, e) = unmoved old new (ap (λ v. v.id) e) (ap (λ v. v.log.got) e) (ap (λ v. v.log.put) e) (ap (λ v. v.log.runs) e) (ap (λ v. v.log.closed) e)
after_read read.Ended piece old new (_, e) = unmoved old new (ap (λ v. v.id) e) (ap (λ v. v.log.got) e) (ap (λ v. v.log.put) e) (ap (λ v. v.log.runs) e) (ap (λ v. v.log.closed) e)
after_read read.Failed piece old new (_, e) = unmoved old new (ap (λ v. v.id) e) (ap (λ v. v.log.got) e) (ap (λ v. v.log.put) e) (ap (λ v. v.log.runs) e) (ap (λ v. v.log.closed) e)
after_read read.NoMemory piece old new e = unmoved old new (ap (λ v. v.id) e) (ap (λ v. v.log.got) e) (ap (λ v. v.log.put) e) (ap (λ v. v.log.runs) e) (ap (λ v. v.log.closed) e)

after_write : (answer : EndWrite) (piece : List ℕ) (old new : SeenEnd) → Writes answer piece old new → IsLaterEnd old new
after_write (write.Put n) piece old new (_, _, e) = record {
  id = ap (λ v. v.id) e;
  got = by_list old.log.got new.log.got (ap (λ v. v.log.got) e);
  put = (take n piece, ap (λ v. v.log.put) e);
  runs = (_, ap (λ v. v.log.runs) e);
  closed = ap (λ v. v.log.closed) e;
}
after_write write.NotYet piece old new (_, e) = unmoved old new (ap (λ v. v.id) e) (ap (λ v. v.log.got) e) (ap (λ v. v.log.put) e) (ap (λ v. v.log.runs) e) (ap (λ v. v.log.closed) e)
after_write write.Failed piece old new (_, e) = unmoved old new (ap (λ v. v.id) e) (ap (λ v. v.log.got) e) (ap (λ v. v.log.put) e) (ap (λ v. v.log.runs) e) (ap (λ v. v.log.closed) e)
after_write write.NoMemory piece old new e = unmoved old new (ap (λ v. v.id) e) (ap (λ v. v.log.got) e) (ap (λ v. v.log.put) e) (ap (λ v. v.log.runs) e) (ap (λ v. v.log.closed) e)

later_end : (a b c : SeenEnd) → IsLaterEnd a b → IsLaterEnd b c → IsLaterEnd a c
later_end a b c first second = record {
  id = second.id ∙ first.id;
  got = longer_list a.log.got b.log.got c.log.got first.got second.got;
  put = longer_list a.log.put b.log.put c.log.put first.put second.put;
  runs = longer_list a.log.runs b.log.runs c.log.runs first.runs second.runs;
  closed = second.closed ∙ first.closed;
}

-- ---- trails

same_trail : (t : TrailNow) → IsLaterTrail t t
same_trail t = record { socket = refl; entity = refl; entries = same_list t.entries; judged = refl; judged_after = refl }

one_entry : (e : Entry) (t : TrailNow) → IsLaterTrail t (with_entry e t)
one_entry e t = record { socket = refl; entity = refl; entries = (e ∷ [], refl); judged = refl; judged_after = refl }

read_noted : (answer : EndRead) (t : TrailNow) → IsLaterTrail t (noted_read answer t)
read_noted (read.Got n) t = one_entry (entry.Read t.socket n) t
read_noted read.NotYet t = same_trail t
read_noted read.Ended t = same_trail t
read_noted read.Failed t = same_trail t
read_noted read.NoMemory t = same_trail t

write_noted : (answer : EndWrite) (t : TrailNow) → IsLaterTrail t (noted_write answer t)
write_noted (write.Put n) t = one_entry (entry.Wrote t.socket n) t
write_noted write.NotYet t = same_trail t
write_noted write.Failed t = same_trail t
write_noted write.NoMemory t = same_trail t

later_trail : (a b c : TrailNow) → IsLaterTrail a b → IsLaterTrail b c → IsLaterTrail a c
later_trail a b c first second = record {
  socket = second.socket ∙ first.socket;
  entity = second.entity ∙ first.entity;
  entries = longer_list a.entries b.entries c.entries first.entries second.entries;
  judged = second.judged ∙ first.judged;
  judged_after = second.judged_after ∙ first.judged_after;
}

-- ---- halves

then : (a b c : IncomingNow) → IsLater a b → IsLater b c → IsLater a c
then a b c first second = record {
  end = later_end a.end b.end c.end first.end second.end;
  trail = later_trail a.trail b.trail c.trail first.trail second.trail;
  is_judged = second.is_judged ∙ first.is_judged;
  refused = second.refused ∙ first.refused;
}

same : (v : IncomingNow) → IsLater v v
same v = record { end = same_end v.end; trail = same_trail v.trail; is_judged = refl; refused = refl }

-- the same end and trail
still : (old new : IncomingNow) → new.end ≡ old.end → new.trail ≡ old.trail → new.is_judged ≡ old.is_judged → new.refused ≡ old.refused → IsLater old new
still old new end trail is_judged refused = record {
  end = subst (λ e. IsLaterEnd old.end e) (sym end) (same_end old.end);
  trail = subst (λ t. IsLaterTrail old.trail t) (sym trail) (same_trail old.trail);
  is_judged = is_judged;
  refused = refused;
}

by_step : (answer : IncomingStep) (old new : IncomingNow) → StepsOn answer old new → IsLater old new
by_step step.Wrote old new (_, _, e) = still old new (ap (λ v. v.end) e) (ap (λ v. v.trail) e) (ap (λ v. v.is_judged) e) (ap (λ v. v.refused) e)
by_step step.Signed old new (_, _, e) = still old new (ap (λ v. v.end) e) (ap (λ v. v.trail) e) (ap (λ v. v.is_judged) e) (ap (λ v. v.refused) e)
by_step step.Rests old new (_, e) = still old new (ap (λ v. v.end) e) (ap (λ v. v.trail) e) (ap (λ v. v.is_judged) e) (ap (λ v. v.refused) e)
by_step step.Asked old new (_, _, _, e) = still old new (ap (λ v. v.end) e) (ap (λ v. v.trail) e) (ap (λ v. v.is_judged) e) (ap (λ v. v.refused) e)
by_step (step.Fault f) old new (_, e) = still old new (ap (λ v. v.end) e) (ap (λ v. v.trail) e) (ap (λ v. v.is_judged) e) (ap (λ v. v.refused) e)
by_step step.NoMemory old new (_, e) = still old new (ap (λ v. v.end) e) (ap (λ v. v.trail) e) (ap (λ v. v.is_judged) e) (ap (λ v. v.refused) e)

by_read : (answer : EndRead) (piece : List ℕ) (old new : IncomingNow) → ReadsOn answer piece old new → IsLater old new
by_read answer piece old new (moved, e) = record {
  end = after_read answer piece old.end new.end moved;
  trail = subst (λ t. IsLaterTrail old.trail t) (sym (ap (λ v. v.trail) e)) (read_noted answer old.trail);
  is_judged = ap (λ v. v.is_judged) e;
  refused = ap (λ v. v.refused) e;
}

by_write : (answer : EndWrite) (old new : IncomingNow) → WritesOn answer old new → IsLater old new
by_write answer old new (moved, e) = record {
  end = after_write answer old.left old.end new.end moved;
  trail = subst (λ t. IsLaterTrail old.trail t) (sym (ap (λ v. v.trail) e)) (write_noted answer old.trail);
  is_judged = ap (λ v. v.is_judged) e;
  refused = ap (λ v. v.refused) e;
}

by_move : (m : Move) (old new : IncomingNow) → Makes m old new → IsLater old new
by_move (writes answer) old new (_, w) = by_write answer old new w
by_move (answers answer) old new (_, _, s) = by_step answer old new s
by_move (reads answer piece) old new (_, _, r) = by_read answer piece old new r

by_moves : (stood : List IncomingNow) (old new : IncomingNow) → Moves stood old new → IsLater old new
by_moves [] old new e = subst (λ v. IsLater old v) e (same old)
by_moves (v ∷ vs) old new (_, m, rest) = then old v new (by_move m.move old v m.makes) (by_moves vs v new rest)

by_last : (outcome : Outcome) (stood : List IncomingNow) (old before new : IncomingNow) → Moves stood old before → MakesMove outcome before new → IsLater old new
by_last outcome stood old before new moves m = then old before new (by_moves stood old before moves) (by_move m.move before new m.makes)

pub by_turn : (t : HalfTurn) (old new : IncomingNow) → AdvancesAs t old new → IsLater old new
by_turn turn.Asked old new a = by_moves a.stood old new a.moves
by_turn turn.Busy old new a = by_moves a.stood old new a.moves
by_turn turn.Waits old new a = by_last _ a.stood old a.before new a.moves a.last
by_turn turn.Over old new a = by_last _ a.stood old a.before new a.moves a.last
by_turn turn.NoMemory old new a = by_last _ a.stood old a.before new a.moves a.last
