-- Centers that are alike take their turns alike, but for want of memory.
use Rattle.std.proofs.Common.{◌≡◌, ℕ, List, Option, None, Some, Ok, refl, sym, subst, ◌∙◌, ap}
use Rattle.std.specs.Prelude.{◌≢◌, IfSome, IsSome}
use Rattle.std.specs.List.{AllByRecursion}
use Rattle.m2_script.specs.m2_center.Center.{CenterNow}
use Rattle.m2_script.specs.m2_center.CenterTurn.{Accepts, EmptiesMail, TakesTurn, TurnsHalves, TurnsRecords, accepted_so, accepting_in, all_amid_in, answered_so, callers_of, delivered_so, mailing_in, stepped_so}
use Rattle.m2_script.specs.m2_center.Reaching.{ends_or_none, waiting_at}
use Rattle.m2_dispatch.specs.Heard.{Heard}
use Rattle.m2_dispatch.specs.m2_shared.Gates.{Places, places}
use Rattle.m2_fabric.specs.End.{SeenEnd}
use Rattle.m2_fabric.specs.Kinds.{IsInMemory, WaitInMemory}
use Rattle.m2_fabric.specs.Port.{SeenPort}
use Rattle.m2_script.specs.m2_center.m2_turn.Accepting.{Accepting, AcceptsAll}
use Rattle.m2_script.specs.m2_center.m2_turn.Halves.{halves_of}
use Rattle.m2_script.specs.m2_center.m2_turn.Hearing.{IsHalfInMemory}
use Rattle.m2_script.specs.m2_center.m2_turn.Mailing.{Mailing, Mails, MailsSome}
use Rattle.m2_script.specs.m2_center.m2_turn.RecordTurn.{Means}
use Rattle.m2_script.specs.m2_center.m2_turn.declared.accepting.Accepted.{Accepted}
use Rattle.m2_script.specs.m2_center.m2_turn.declared.accepting.Accepted.TheVariants as accepted
use Rattle.m2_script.specs.m2_center.m2_turn.declared.halves_turn.HalvesTurn.{HalvesTurn}
use Rattle.m2_script.specs.m2_center.m2_turn.declared.halves_turn.HalvesTurn.TheVariants as halves
use Rattle.m2_script.specs.m2_center.m2_turn.declared.mailing.Mailed.{Mailed}
use Rattle.m2_script.specs.m2_center.m2_turn.declared.mailing.Mailed.TheVariants as mailed
use Rattle.m2_script.specs.m2_center.m2_turn.declared.records_turn.RecordsTurn.{RecordsTurn}
use Rattle.m2_script.specs.m2_center.m2_turn.declared.records_turn.RecordsTurn.TheVariants as records
use Rattle.m2_exact.proofs.Accepts as accepting
use Rattle.m2_exact.proofs.HalvesTurns as calling
use Rattle.m2_exact.proofs.Mails as mails
use Rattle.m2_exact.proofs.RecordsTurns as stepping
use Rattle.m2_exact.specs.Accepts.{plain_accepting}
use Rattle.m2_exact.specs.Centers.{IsFitCenter, LikeCentersTurnAlike, PlainCenter, plain_center}
use Rattle.m2_exact.specs.HalvesTurns.{PlainCallers, plain_callers}
use Rattle.m2_exact.specs.Mails.{PlainMailing, plain_mailing}
use Rattle.m2_exact.specs.RecordTurns.{HasAlone, IsFit}
use Rattle.m2_exact.specs.RecordsTurns.{AreFit, PlainAll, plain_all}

-- ---- what waits

in_memory : (p : SeenPort) → IsSome p.waiting → AllByRecursion IsInMemory (waiting_at p) → WaitInMemory p
in_memory p some all = by p.waiting some all
  where
    by : (o : Option (List SeenEnd)) → IsSome o → AllByRecursion IsInMemory (ends_or_none o) → IsSome o × IfSome o (AllByRecursion IsInMemory)
    by (Some es) some all = (some, all)
    by None some all = absurd (cc some)

they_wait : (p : SeenPort) → WaitInMemory p → AllByRecursion IsInMemory (waiting_at p)
they_wait p m = by p.waiting m.1
  where
    by : (o : Option (List SeenEnd)) → IfSome o (AllByRecursion IsInMemory) → AllByRecursion IsInMemory (ends_or_none o)
    by (Some es) all = all
    by None all = tt

-- ---- memory lasted

accepts_found : (r : Accepted) → Ok tt ≡ accepted_so r → r ≢ accepted.NoMemory
accepts_found r e is = absurd (cc (e ∙ ap accepted_so is))

halves_found : (r : HalvesTurn) → Ok tt ≡ answered_so r → r ≡ halves.Done
halves_found halves.Done e = refl
halves_found halves.NoMemory e = absurd (cc e)

records_found : (r : RecordsTurn) → Ok tt ≡ stepped_so r → r ≡ records.Done
records_found records.Done e = refl
records_found records.NoMemory e = absurd (cc e)

mails_found : (r : Mailed) → Ok tt ≡ delivered_so r → r ≢ mailed.NoMemory
mails_found r e is = absurd (cc (e ∙ ap delivered_so is))

-- ---- what each part leaves

abbrev with_accepted : Accepting → PlainCenter → PlainCenter
with_accepted a c = record c { port = a.port; halves = a.halves }

abbrev with_called : PlainCallers → PlainCenter → PlainCenter
with_called k c = record c { halves = halves_of k.halves k.loose; records = k.homes.records; bytes = k.homes.bytes; numbers = k.homes.numbers }

abbrev with_stepped : PlainAll → PlainCenter → PlainCenter
with_stepped a c = record c { records = a.records; port = a.port; out = a.out; bytes = a.bytes; numbers = a.numbers }

abbrev with_mailed : PlainMailing → PlainCenter → PlainCenter
with_mailed m c = record c { out = m.out; waiting = m.waiting; queued = m.queued; bytes = m.bytes }

abbrev called_in : PlainCenter → PlainCallers
called_in c = record { halves = c.halves.pending; loose = c.halves.loose; homes = record { records = c.records; bytes = c.bytes; numbers = c.numbers } }

abbrev stepped_in : PlainCenter → PlainAll
stepped_in c = record { records = c.records; port = c.port; out = c.out; bytes = c.bytes; numbers = c.numbers }

abbrev mailed_in : PlainCenter → PlainMailing
mailed_in c = record { out = c.out; waiting = c.waiting; queued = c.queued; bytes = c.bytes }

-- mail that is emptied holds what was held
held_still : {D : Type 0} (heard : D → List Heard) (at : Places) (r : Mailed) (old new : Mailing D) → r ≢ mailed.NoMemory → Mails heard at r old new → new.out.held ≡ old.out.held
held_still {D} heard at r old new m h = by r m h
  where
    some : MailsSome heard at old new → new.out.held ≡ old.out.held
    some h = ap (λ o. o.held) h.puts.out

    by : (r : Mailed) → r ≢ mailed.NoMemory → Mails heard at r old new → new.out.held ≡ old.out.held
    by mailed.Moved m h = some h.0
    by mailed.Dry m h = some h.0
    by mailed.NoMemory m h = absurd (m refl)

module _ (E : Type 0) {D : Type 0} (heard : D → List Heard) (m : Means) where
  -- ---- the parts of a turn

  accepts_one : (r s : Accepted) (old last new behind : CenterNow D) → IsFitCenter old → plain_center heard old ≡ plain_center heard last → r ≢ accepted.NoMemory → s ≢ accepted.NoMemory →
      Accepts r old new → Accepts s last behind → plain_center heard new ≡ plain_center heard behind
  accepts_one r s old last new behind f like k l h g =
      let begins : plain_accepting (accepting_in old) ≡ plain_accepting (accepting_in last) = ap (λ (c : PlainCenter). record { port = c.port; halves = c.halves }) like in
      let kind : last.entity ≡ old.entity = sym (ap (λ (c : PlainCenter). c.entity) like) in
      let both = accepting.alike.accepts old.entity r s (accepting_in old) (accepting_in last) (accepting_in new) (accepting_in behind) f.port begins k l h.accepts
      (subst (λ (n : ℕ). AcceptsAll n s (accepting_in last) (accepting_in behind)) kind g.accepts) in
      ap (plain_center heard) h.only
      ∙ ap (λ (a : Accepting). with_accepted a (plain_center heard old)) both.1
      ∙ ap (with_accepted (plain_accepting (accepting_in behind))) like
      ∙ sym (ap (plain_center heard) g.only)

  halves_one : (old last new behind : CenterNow D) → HasAlone m → IsFitCenter old → plain_center heard old ≡ plain_center heard last → TurnsHalves E m halves.Done old new →
      TurnsHalves E m halves.Done last behind → plain_center heard new ≡ plain_center heard behind
  halves_one old last new behind alone f like h g =
      ap (plain_center heard) h.only
      ∙ ap (λ (k : PlainCallers). with_called k (plain_center heard old))
      (calling.alike.turns m (callers_of old) (callers_of last) (callers_of new) (callers_of behind) alone (record { halves = f.halves; records = f.records }) (ap called_in like) h.turns g.turns)
      ∙ ap (with_called (plain_callers (callers_of behind))) like
      ∙ sym (ap (plain_center heard) g.only)

  records_one : (old last new behind : CenterNow D) → HasAlone m → IsFitCenter old → plain_center heard old ≡ plain_center heard last → TurnsRecords heard m records.Done old new →
      TurnsRecords heard m records.Done last behind → new.out.held ≡ None → behind.out.held ≡ None → plain_center heard new ≡ plain_center heard behind
  records_one old last new behind alone f like h g none held =
      ap (plain_center heard) h.only
      ∙ ap (λ (a : PlainAll). with_stepped a (plain_center heard old))
      ((stepping.alike heard).turns m (all_amid_in old) (all_amid_in last) (all_amid_in new) (all_amid_in behind) alone (record { records = f.records; port = f.port })
      (ap stepped_in like) h.turns g.turns none held)
      ∙ ap (with_stepped (plain_all heard (all_amid_in behind))) like
      ∙ sym (ap (plain_center heard) g.only)

  mails_one : (r s : Mailed) (old last new behind : CenterNow D) → HasAlone m → plain_center heard old ≡ plain_center heard last → r ≢ mailed.NoMemory → s ≢ mailed.NoMemory →
      EmptiesMail heard m r old new → EmptiesMail heard m s last behind → plain_center heard new ≡ plain_center heard behind
  mails_one r s old last new behind alone like k l h g =
      let both = (mails.alike heard).mails (places m.throttles) r s (mailing_in old) (mailing_in last) (mailing_in new) (mailing_in behind) alone.throttles (ap mailed_in like) k l h.mails g.mails in
      ap (plain_center heard) h.only
      ∙ ap (λ (x : PlainMailing). with_mailed x (plain_center heard old)) both.1
      ∙ ap (with_mailed (plain_mailing heard (mailing_in behind))) like
      ∙ sym (ap (plain_center heard) g.only)

  -- ---- they leave it fit

  accepts_stay : (r : Accepted) (old new : CenterNow D) → IsFitCenter old → Accepts r old new → IsFitCenter new
  accepts_stay r old new f h =
      let a = accepting.alike.memory old.entity r (accepting_in old) (accepting_in new) (record { port = in_memory old.port f.port f.waits; halves = f.halves }) h.accepts in
      record {
        records = subst (λ (c : CenterNow D). AllByRecursion IsFit c.records) (sym h.only) f.records;
        halves = a.halves;
        port = a.port.0;
        waits = they_wait new.port a.port;
      }

  halves_stay : (old new : CenterNow D) → IsFitCenter old → TurnsHalves E m halves.Done old new → IsFitCenter new
  halves_stay old new f h =
      let a = calling.alike.stays m (callers_of old) (callers_of new) (record { halves = f.halves; records = f.records }) h.turns in
      record {
        records = a.records;
        halves = a.halves;
        port = subst (λ (c : CenterNow D). IsSome c.port.waiting) (sym h.only) f.port;
        waits = subst (λ (c : CenterNow D). AllByRecursion IsInMemory (waiting_at c.port)) (sym h.only) f.waits;
      }

  records_stay : (old new : CenterNow D) → IsFitCenter old → TurnsRecords heard m records.Done old new → new.out.held ≡ None → IsFitCenter new
  records_stay old new f h none =
      let fit : AreFit (all_amid_in old) = record { records = f.records; port = f.port } in
      let a = (stepping.alike heard).stays m (all_amid_in old) (all_amid_in new) fit h.turns none in
      let same = (stepping.alike heard).waits m (all_amid_in old) (all_amid_in new) fit h.turns none in
      record {
        records = a.records;
        halves = subst (λ (c : CenterNow D). AllByRecursion IsHalfInMemory c.halves.pending) (sym h.only) f.halves;
        port = a.port;
        waits = subst (λ (o : Option (List SeenEnd)). AllByRecursion IsInMemory (ends_or_none o)) (sym same) f.waits;
      }

  mails_stay : (r : Mailed) (old new : CenterNow D) → IsFitCenter old → EmptiesMail heard m r old new → IsFitCenter new
  mails_stay r old new f h = subst IsFitCenter (sym h.only) (record { records = f.records; halves = f.halves; port = f.port; waits = f.waits })

  -- ---- a turn

  -- its parts, where memory lasted in all
  record Parts (old new : CenterNow D) : Type 0 where
    pub first : Accepted
    pub last : Mailed
    pub called : CenterNow D
    pub answered : CenterNow D
    pub stepped : CenterNow D
    pub some : first ≢ accepted.NoMemory
    pub found : last ≢ mailed.NoMemory
    pub accepts : Accepts first old called
    pub answers : TurnsHalves E m halves.Done called answered
    pub steps : TurnsRecords heard m records.Done answered stepped
    pub delivers : EmptiesMail heard m last stepped new

  parts : (old new : CenterNow D) → TakesTurn E heard m (Ok tt) old new → Parts old new
  parts old new (a, (r, is, h), (b, (s, are, g), (c, (t, so, k), (u, then, l)))) = record {
    first = r;
    last = u;
    called = a;
    answered = b;
    stepped = c;
    some = accepts_found r is;
    found = mails_found u then;
    accepts = h;
    answers = subst (λ (x : HalvesTurn). TurnsHalves E m x a b) (halves_found s are) g;
    steps = subst (λ (x : RecordsTurn). TurnsRecords heard m x b c) (records_found t so) k;
    delivers = l;
  }

  none_held : (old new : CenterNow D) (p : Parts old new) → new.out.held ≡ None → p.stepped.out.held ≡ None
  none_held old new p none = sym (held_still heard (places m.throttles) p.last (mailing_in p.stepped) (mailing_in new) p.found p.delivers.mails) ∙ none

  turns : (old last new behind : CenterNow D) → HasAlone m → IsFitCenter old → plain_center heard old ≡ plain_center heard last → TakesTurn E heard m (Ok tt) old new →
      TakesTurn E heard m (Ok tt) last behind → new.out.held ≡ None → behind.out.held ≡ None → plain_center heard new ≡ plain_center heard behind
  turns old last new behind alone f like h g none held =
      let p = parts old new h in
      let q = parts last behind g in
      let called = accepts_one p.first q.first old last p.called q.called f like p.some q.some p.accepts q.accepts in
      let fit = accepts_stay p.first old p.called f p.accepts in
      let answered = halves_one p.called q.called p.answered q.answered alone fit called p.answers q.answers in
      let still = halves_stay p.called p.answered fit p.answers in
      let stepped = records_one p.answered q.answered p.stepped q.stepped alone still answered p.steps q.steps (none_held old new p none) (none_held last behind q held) in
      mails_one p.last q.last p.stepped q.stepped new behind alone stepped p.found q.found p.delivers q.delivers

  stays : (old new : CenterNow D) → IsFitCenter old → TakesTurn E heard m (Ok tt) old new → new.out.held ≡ None → IsFitCenter new
  stays old new f h none =
      let p = parts old new h in
      let answered = halves_stay p.called p.answered (accepts_stay p.first old p.called f p.accepts) p.answers in
      mails_stay p.last p.stepped new (records_stay p.answered p.stepped answered p.steps (none_held old new p none)) p.delivers

pub alike : {E D : Type 0} (heard : D → List Heard) → LikeCentersTurnAlike E D heard
alike {E} heard = record { turns = turns E heard; stays = stays E heard }
