-- The mail is emptied: parcels that are put one after another, and letters that are dispatched so.
use Rattle.std.proofs.Common.{◌≡◌, ◌+◌, ◌-◌, ◌<◌, ◌&&◌, ◌||◌, if◌then◌else◌, not, Bool, true, false, List, [], ◌∷◌, ◌++◌, map, length, Some, refl, sym, ap, ◌∙◌, arith, append-nil, append_assoc}
use Rattle.std.proofs.lemmas.List.{map-append}
use Rattle.std.proofs.lemmas.List.Sums.{sum_by-append}
use Rattle.m2_dispatch.specs.Heard.{Heard}
use Rattle.m2_dispatch.specs.declared.letter.Letter.{Letter}
use Rattle.m2_dispatch.specs.declared.parcel.Parcel.{Parcel}
use Rattle.m2_dispatch.specs.declared.turn.DispatchTurn.{DispatchTurn}
use Rattle.m2_dispatch.specs.declared.turn.DispatchTurn.TheVariants as turn
use Rattle.m2_dispatch.specs.Letters.{granted, granted_for, heard_in}
use Rattle.m2_dispatch.specs.Parcel.{after_put, heard_at_put, thrown_away}
use Rattle.m2_dispatch.specs.Turn.{IsTurn, dispatched}
use Rattle.m2_shared.specs.Place.{IsAlone}
use Rattle.m2_shared.specs.Gates.{Gate, Places, words}
use Rattle.m2_shared.specs.declared.throttles.TakePasses.{TakePasses}
use Rattle.m2_turn.specs.declared.mailing.Mailed.TheVariants as mailed
use Rattle.m2_turn.specs.Mailing.{DispatchesSome, Mailing, Mails, MailsSome, PutsSome, Queueing, after_puts, all_thrown_away, back_in_mail, heard_at_puts, is_mailed, is_none}
use Rattle.m2_turn.specs.Outbox.{OutboxNow, Takes}
use Rattle.m2_bytes.proofs.m2_lemmas.Booleans.{false_isnt_true}

-- ---- one parcel more

after_one_more : (xs : List Parcel) (x : Parcel) (ls : List Letter) → after_puts (xs ++ x ∷ []) ls ≡ after_put x (after_puts xs ls)
after_one_more [] x ls = refl
after_one_more (y ∷ ys) x ls = after_one_more ys x (after_put y ls)

thrown_one_more : (xs : List Parcel) (x : Parcel) (ls : List Letter) → all_thrown_away (xs ++ x ∷ []) ls ≡ all_thrown_away xs ls ++ thrown_away x (after_puts xs ls)
thrown_one_more [] x ls = append-nil (thrown_away x ls)
thrown_one_more (y ∷ ys) x ls = ap (λ l. thrown_away y ls ++ l) (thrown_one_more ys x (after_put y ls)) ∙ sym (append_assoc (thrown_away y ls) (all_thrown_away ys (after_put y ls)) (thrown_away x (after_puts ys (after_put y ls))))

heard_one_more : (xs : List Parcel) (x : Parcel) → heard_at_puts (xs ++ x ∷ []) ≡ heard_at_puts xs ++ heard_at_put x
heard_one_more [] x = append-nil (heard_at_put x)
heard_one_more (y ∷ ys) x = ap (λ l. heard_at_put y ++ l) (heard_one_more ys x) ∙ sym (append_assoc (heard_at_put y) (heard_at_puts ys) (heard_at_put x))

pub granted_append : (gate : Gate) (xs ys : List Letter) → granted (xs ++ ys) gate ≡ granted xs gate + granted ys gate
granted_append gate xs ys = sum_by-append (granted_for gate) xs ys

pub nothing_put : {D : Type 0} (heard : D → List Heard) (places : Places) (a : Mailing D) → PutsSome heard places a a
nothing_put heard places a = record { put = []; mail = refl; out = refl; waiting = refl; heard_more = sym (append-nil (heard a.queue.queued.inner)); word = (λ gate alone. omega arith) }

-- what a put of a parcel leaves of the queue
pub record PutsOne {D : Type 0} (heard : D → List Heard) (places : Places) (x : Parcel) (old new : Queueing D) : Type 0 where
  pub waiting : new.queued.waiting ≡ after_put x old.queued.waiting
  pub heard_more : heard new.queued.inner ≡ heard old.queued.inner ++ heard_at_put x
  pub word : (gate : Gate) → IsAlone (places gate) → words new.bytes gate ≡ words old.bytes gate - granted (thrown_away x old.queued.waiting) gate

pub one_put : {D : Type 0} (heard : D → List Heard) (places : Places) (x : Parcel) (old mid new : Mailing D) → PutsSome heard places old mid → Takes (Some x) mid.out new.out → PutsOne heard places x mid.queue new.queue → PutsSome heard places old new
one_put heard places x old mid new p (mail, out) one = record {
  put = p.put ++ x ∷ [];
  mail = p.mail ∙ ap (λ l. p.put ++ l) mail ∙ sym (append_assoc p.put (x ∷ []) new.out.mail);
  out = out ∙ ap (λ (o : OutboxNow _). record o { mail = new.out.mail }) p.out;
  waiting = one.waiting ∙ ap (after_put x) p.waiting ∙ sym (after_one_more p.put x old.queue.queued.waiting);
  heard_more = one.heard_more ∙ ap (λ l. l ++ heard_at_put x) p.heard_more ∙ append_assoc (heard old.queue.queued.inner) (heard_at_puts p.put) (heard_at_put x)
      ∙ ap (λ l. heard old.queue.queued.inner ++ l) (sym (heard_one_more p.put x));
  word = (λ gate alone.
      let first = p.word gate alone in let second = one.word gate alone in
      let thrown = ap (λ l. granted l gate) (thrown_one_more p.put x old.queue.queued.waiting) in
      let sum = granted_append gate (all_thrown_away p.put old.queue.queued.waiting) (thrown_away x (after_puts p.put old.queue.queued.waiting)) in
      let same = ap (λ l. granted (thrown_away x l) gate) p.waiting in
      omega (arith, first, second, thrown, sum, same));
}

-- one that couldn't be put is in the mail again
pub none_put : {D : Type 0} (heard : D → List Heard) (places : Places) (x : Parcel) (old mid new : Mailing D) (taken : OutboxNow D) → PutsSome heard places old mid → Takes (Some x) mid.out taken → new.out ≡ back_in_mail x taken →
    new.queue.queued.waiting ≡ mid.queue.queued.waiting → heard new.queue.queued.inner ≡ heard mid.queue.queued.inner → new.queue.bytes ≡ mid.queue.bytes → PutsSome heard places old new
none_put {D} heard places x old mid new taken p (mail, out) back waiting told bytes = record {
  put = p.put;
  mail = p.mail ∙ ap (λ (o : OutboxNow D). p.put ++ o.mail) (sym same);
  out = same ∙ p.out ∙ ap (λ (l : List Parcel). record old.out { mail = l }) (ap (λ (o : OutboxNow D). o.mail) (sym same));
  waiting = waiting ∙ p.waiting;
  heard_more = told ∙ p.heard_more;
  word = (λ gate alone. ap (λ (b : TakePasses). words b gate) bytes ∙ p.word gate alone);
}
  where
    same : new.out ≡ mid.out
    same = back ∙ ap (back_in_mail x) out ∙ ap (λ (l : List Parcel). record mid.out { mail = l }) (sym mail)

pub not_none : {D : Type 0} (x : Parcel) (new taken : OutboxNow D) → new ≡ back_in_mail x taken → is_none new.mail ≡ false
not_none x new taken back = ap (λ o. is_none o.mail) back

-- ---- one letter more

abbrev pub nothing_dispatched : {D : Type 0} (heard : D → List Heard) (places : Places) (a : Queueing D) → DispatchesSome heard places a a
nothing_dispatched heard places a = record { dispatched = []; waiting = refl; heard_more = sym (append-nil (heard a.queued.inner)); word = (λ gate alone. omega arith) }

-- what a turn of the queue leaves of it
pub record TurnsOnce {D : Type 0} (heard : D → List Heard) (places : Places) (result : DispatchTurn) (old new : Queueing D) : Type 0 where
  pub waiting : IsTurn result old.queued.waiting new.queued.waiting
  pub heard_more : heard new.queued.inner ≡ heard old.queued.inner ++ map heard_in (dispatched result old.queued.waiting)
  pub word : (gate : Gate) → IsAlone (places gate) → words new.bytes gate ≡ words old.bytes gate - granted (dispatched result old.queued.waiting) gate

pub split_at_one : (result : DispatchTurn) (old new : List Letter) → IsTurn result old new → old ≡ dispatched result old ++ new
split_at_one turn.One [] new (some, e) = absurd (omega (arith, some))
split_at_one turn.One (l ∷ ls) new (some, e) = ap (λ k. l ∷ k) (sym e)
split_at_one turn.Nothing old new (none, e) = none ∙ sym e
split_at_one turn.NoMemory old new (some, e) = sym e

abbrev pub one_dispatched : {D : Type 0} (heard : D → List Heard) (places : Places) (result : DispatchTurn) (old mid new : Queueing D) → DispatchesSome heard places old mid → TurnsOnce heard places result mid new → DispatchesSome heard places old new
one_dispatched heard places result old mid new d t = record {
  dispatched = d.dispatched ++ dispatched result mid.queued.waiting;
  waiting = d.waiting ∙ ap (λ l. d.dispatched ++ l) (split_at_one result mid.queued.waiting new.queued.waiting t.waiting) ∙ sym (append_assoc d.dispatched (dispatched result mid.queued.waiting) new.queued.waiting);
  heard_more = t.heard_more ∙ ap (λ l. l ++ map heard_in (dispatched result mid.queued.waiting)) d.heard_more ∙ append_assoc (heard old.queued.inner) (map heard_in d.dispatched) (map heard_in (dispatched result mid.queued.waiting))
      ∙ ap (λ l. heard old.queued.inner ++ l) (sym (map-append heard_in d.dispatched (dispatched result mid.queued.waiting)));
  word = (λ gate alone. let first = d.word gate alone in let second = t.word gate alone in let sum = granted_append gate d.dispatched (dispatched result mid.queued.waiting) in omega (arith, first, second, sum));
}

-- whether some were
pub some_wait : (ls : List Letter) → 0 < length ls → is_none ls ≡ false
some_wait [] some = absurd (omega (arith, some))
some_wait (l ∷ ls) some = refl

pub some_more : (ds old new : List Letter) → IsTurn turn.One old new → is_none (ds ++ dispatched turn.One old) ≡ false
some_more (d ∷ ds) old new t = refl
some_more [] [] new (some, e) = absurd (omega (arith, some))
some_more [] (l ∷ ls) new t = refl

pub none_same : (ds old behind : List Letter) → old ≡ ds ++ behind → behind ≡ [] → is_none old ≡ is_none ds
none_same [] old behind e none = ap is_none (e ∙ none)
none_same (d ∷ ds) old behind e none = ap is_none e

-- ---- all of it

none_put_then : (put mail : List Parcel) (ls : List Letter) → [] ≡ put ++ mail → after_puts put ls ≡ ls
none_put_then [] mail ls e = refl
none_put_then (x ∷ xs) mail ls e = absurd (false_isnt_true (sym (ap is_none e)))

was_mailed : (mail put rest : List Parcel) (before mid : List Letter) → mail ≡ put ++ rest → mid ≡ after_puts put before → is_none mail && is_none before ≡ is_none mail && is_none mid
was_mailed (x ∷ xs) put rest before mid e w = refl
was_mailed [] put rest before mid e w = ap is_none (sym (w ∙ none_put_then put rest before e))

neither : (a b c d : Bool) → a ≡ not c → b ≡ not d → c && d ≡ not (a || b)
neither a b true true e f = rw (e, f) refl
neither a b true false e f = rw (e, f) refl
neither a b false d e f = rw e refl

pub all_mailed : {D : Type 0} (heard : D → List Heard) (places : Places) (mail letters : Bool) (old new : Mailing D) (some : MailsSome heard places old new) →
    mail ≡ not (is_none old.out.mail) → letters ≡ not (is_none some.mid.queued.waiting) → is_none new.out.mail ≡ true → is_none new.queue.queued.waiting ≡ true →
    Mails heard places (if mail || letters then mailed.Moved else mailed.Dry) old new
all_mailed heard places mail letters old new some had were gone done = at (mail || letters) (was_mailed old.out.mail some.puts.put new.out.mail old.queue.queued.waiting some.mid.queued.waiting some.puts.mail some.puts.waiting ∙ neither mail letters _ _ had were)
  where
    at : (b : Bool) → is_mailed old ≡ not b → Mails heard places (if b then mailed.Moved else mailed.Dry) old new
    at true e = (some, e, rw (gone, done) refl)
    at false e = (some, e, rw (gone, done) refl)
