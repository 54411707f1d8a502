-- The bytes that an end got are those that the system gave, and those that the system took are the first that were put.
use Rattle.std.proofs.Common.{◌≡◌, ℕ, ◌+◌, ◌≤◌, Bool, true, false, List, [], ◌∷◌, ◌++◌, length, take, drop, sym, ap, ◌∙◌, arith, append-nil}
use Rattle.std.proofs.lemmas.List.{length-append, take-append-le}
use Rattle.std.proofs.Math.Seq.{take-add}
use Rattle.m2_fabric.specs.Log.{Log, after_read, after_write}
use Rattle.m2_fabric.specs.declared.end.EndRead.{EndRead}
use Rattle.m2_fabric.specs.declared.end.EndRead.TheVariants as read
use Rattle.m2_fabric.specs.declared.end.EndWrite.{EndWrite}
use Rattle.m2_fabric.specs.declared.end.EndWrite.TheVariants as write
use Rattle.m2_mio.specs.End.{Asks, AsksOnce, TakesWhole, IsHandedOn, MioSeen, answered}
use Rattle.m2_mio.specs.Stream.{Answers, IsReadOf, after_reading, mark_of}

-- ---- a read, noted as it was answered

nothing_more : (a : List ℕ) (got : List ℕ) → a ≡ got → a ++ [] ≡ got
nothing_more a got h = append-nil a ∙ h

pub read_is_handed_on : (refused : Bool) (own : EndRead) (piece : List ℕ) (log : Log) (sent : ℕ) (a : Answers) → IsHandedOn log sent a
    → IsHandedOn (after_read (answered refused own) piece log) sent (after_reading own piece a)
read_is_handed_on refused (read.Got n) piece log sent a h = record { within = h.within; got = ap (λ l. l ++ take n piece) h.got; taken = h.taken }
read_is_handed_on false read.NotYet piece log sent a h = record { within = h.within; got = nothing_more a.given log.got h.got; taken = h.taken }
read_is_handed_on true read.NotYet piece log sent a h = record { within = h.within; got = nothing_more a.given log.got h.got; taken = h.taken }
read_is_handed_on refused read.Ended piece log sent a h = record { within = h.within; got = nothing_more a.given log.got h.got; taken = h.taken }
read_is_handed_on refused read.Failed piece log sent a h = record { within = h.within; got = nothing_more a.given log.got h.got; taken = h.taken }
read_is_handed_on refused read.NoMemory piece log sent a h = record { within = h.within; got = nothing_more a.given log.got h.got; taken = h.taken }

-- ---- a write, noted

longer : (sent : ℕ) (put more : List ℕ) → sent ≤ length put → sent ≤ length (put ++ more)
longer sent put more h = omega (arith, h, length-append put more)

pub write_is_handed_on : (answer : EndWrite) (piece : List ℕ) (log : Log) (sent : ℕ) (a : Answers) → IsHandedOn log sent a
    → IsHandedOn (after_write answer piece log) sent a
write_is_handed_on (write.Put n) piece log sent a h = record {
  within = longer sent log.put (take n piece) h.within;
  got = h.got;
  taken = h.taken ∙ sym (take-append-le sent log.put (take n piece) h.within);
}
write_is_handed_on write.NotYet piece log sent a h = record { within = h.within; got = h.got; taken = h.taken }
write_is_handed_on write.Failed piece log sent a h = record { within = h.within; got = h.got; taken = h.taken }
write_is_handed_on write.NoMemory piece log sent a h = record { within = h.within; got = h.got; taken = h.taken }

-- ---- what is unsent is handed on

pub more_is_taken : (n sent : ℕ) (put taken : List ℕ) → taken ≡ take sent put → taken ++ take n (drop sent put) ≡ take (sent + n) put
more_is_taken n sent put taken h = ap (λ l. l ++ take n (drop sent put)) h ∙ sym (take-add sent n put)

pub nothing_is_taken : (sent : ℕ) (put taken : List ℕ) → taken ≡ take sent put → taken ++ [] ≡ take sent put
nothing_is_taken sent put taken h = append-nil taken ∙ h

-- ---- what a call answers

pub whole_after : (answer : EndWrite) (piece : List ℕ) (mid new : MioSeen) → new.shows.log ≡ after_write answer piece mid.shows.log → new.sent ≡ mid.sent
    → TakesWhole answer piece mid → TakesWhole answer piece new
whole_after (write.Put n) piece mid new e s g = g
whole_after write.NotYet piece mid new e s g = rw (e, s) g
whole_after write.Failed piece mid new e s g = g
whole_after write.NoMemory piece mid new e s g = g

asks_once : (answer own : EndRead) (old new : MioSeen) → new.answers.reads ≡ old.answers.reads ++ mark_of own ∷ []
    → answer ≡ answered new.answers.refused own → AsksOnce answer old new
asks_once answer own old new asked is = record { own = own; asked = asked; answer_is = is }

-- what the system may have answered to a read, where the read answered NoMemory: nothing
never_for_memory : (refused : Bool) (own : EndRead) (piece : List ℕ) → IsReadOf own piece → read.NoMemory ≡ answered refused own → ⊥
never_for_memory refused (read.Got n) piece r e = cc
never_for_memory false read.NotYet piece r e = cc
never_for_memory true read.NotYet piece r e = cc
never_for_memory refused read.Ended piece r e = cc
never_for_memory refused read.Failed piece r e = cc
never_for_memory refused read.NoMemory piece r e = r

pub asked_once : (answer own : EndRead) (piece : List ℕ) (old new : MioSeen) → IsReadOf own piece
    → new.answers.reads ≡ old.answers.reads ++ mark_of own ∷ [] → answer ≡ answered new.answers.refused own → Asks answer old new
asked_once (read.Got n) own piece old new r h e = asks_once (read.Got n) own old new h e
asked_once read.NotYet own piece old new r h e = asks_once read.NotYet own old new h e
asked_once read.Ended own piece old new r h e = asks_once read.Ended own old new h e
asked_once read.Failed own piece old new r h e = asks_once read.Failed own old new h e
asked_once read.NoMemory own piece old new r h e = absurd (never_for_memory new.answers.refused own piece r e)
