-- The records of two centers that are alike take their turns alike, one after another, but for want of memory.
use Rattle.std.proofs.Common.{◌≡◌, ℕ, ◌-◌, ◌++◌, List, [], ◌∷◌, map, Bool, true, false, Option, None, Some, refl, sym, subst, ◌∙◌, ap}
use Rattle.std.proofs.Math.Path.{fun_ext}
use Rattle.std.specs.Prelude.{◌≢◌, IsSome}
use Rattle.std.specs.List.{AllByRecursion}
use Rattle.m2_dispatch.specs.Heard.{Heard}
use Rattle.m2_dispatch.specs.Letters.{heard_in}
use Rattle.m2_dispatch.specs.declared.letter.Letter.{Letter}
use Rattle.m2_dispatch.specs.m2_policy.declared.path.Path.TheVariants.{Fast}
use Rattle.m2_dispatch.specs.m2_shared.Numbers.{SeenNumberPass}
use Rattle.m2_dispatch.specs.m2_shared.Gates.{Gate, Return, places, words}
use Rattle.m2_fabric.specs.Port.{SeenPort}
use Rattle.m2_script.specs.m2_center.m2_turn.Outbox.{OutboxNow, RetriesFor, is_free, returned_again}
use Rattle.m2_script.specs.m2_center.m2_turn.RecordTurn.{Means}
use Rattle.m2_script.specs.m2_center.m2_turn.RecordsTurn.{AllAmid, Amid, Around, DialsAndSteps, EachTurns, TurnsEach, TurnsIf, TurnsOne, amid, at_port, come_to, sides_of, turning_amid}
use Rattle.m2_script.specs.m2_center.m2_turn.declared.record_turn.RecordTurn.{RecordTurn}
use Rattle.m2_script.specs.m2_center.m2_turn.declared.record_turn.RecordTurn.TheVariants as one
use Rattle.m2_script.specs.m2_center.m2_turn.declared.records_turn.RecordsTurn.TheVariants as turn
use Rattle.m2_script.specs.m2_center.m2_record.RecordNow.{RecordNow}
use Rattle.m2_exact.proofs.Dialing as dialing
use Rattle.m2_exact.proofs.RecordTurns as turns
use Rattle.m2_exact.specs.Holding.{AreAlone}
use Rattle.m2_exact.specs.Records.{bare_numbers, plain}
use Rattle.m2_exact.specs.RecordTurns.{HasAlone, IsFit, PlainOut, PlainTurning, Turned, plain_out, plain_turning}
use Rattle.m2_exact.specs.RecordsTurns.{AreFit, IsFitAt, LikeAllRecordsTurnAlike, PlainAll, PlainAt, plain_all, plain_at}
use Rattle.m2_fabric.proofs.m2_lemmas.Lists.{cons_same}

-- what stands around a record, as far as it counts
record PlainAround : Type 0 where
  pub port : SeenPort
  pub out : PlainOut
  pub bytes : Gate → ℕ
  pub numbers : SeenNumberPass

-- for want of memory alone the turn of all ends early
pub done_memory : (r : RecordTurn) → turn.Done ≡ come_to r → r ≢ one.NoMemory
done_memory r e is = absurd (cc (e ∙ ap come_to is))

module _ {D : Type 0} (heard : D → List Heard) (m : Means) where
  abbrev plain_around : Around D → PlainAround
  plain_around a = record { port = a.port; out = plain_out heard a.out; bytes = words a.bytes; numbers = bare_numbers a.numbers }

  -- ---- the letter that was held

  abbrev retried_out : Option Letter → PlainOut → PlainOut
  retried_out (Some l) o = record { fast = o.fast ++ heard_in l ∷ []; mail = o.mail; held = None }
  retried_out None o = o

  retries : (h : Option Letter) (o new : OutboxNow D) → new.held ≡ None → RetriesFor heard h o new → plain_out heard new ≡ retried_out h (plain_out heard o)
  retries (Some l) o new none h = turns.put_by heard l Fast o new none h
  retries None o new none h = ap (plain_out heard) h

  around_of : (a b : Around D) → a.port ≡ b.port → plain_out heard a.out ≡ plain_out heard b.out → words a.bytes ≡ words b.bytes → bare_numbers a.numbers ≡ bare_numbers b.numbers → plain_around a ≡ plain_around b
  around_of a b port out word numbers =
      ap (λ (p : SeenPort). record (plain_around a) { port = p }) port
      ∙ ap (λ (o : PlainOut). record (plain_around a) { port = b.port; out = o }) out
      ∙ ap (λ (n : Gate → ℕ). record (plain_around a) { port = b.port; out = plain_out heard b.out; bytes = n }) word
      ∙ ap (λ (n : SeenNumberPass). record (plain_around b) { numbers = n }) numbers

  retried_one : (a b new behind : Around D) → AreAlone (places m.throttles) → plain_around a ≡ plain_around b → new.out.held ≡ None → behind.out.held ≡ None →
      RetriesFor heard a.out.held a.out new.out → RetriesFor heard b.out.held b.out behind.out →
      Return (returned_again a.out.held new.out.held) m.throttles a.bytes new.bytes → Return (returned_again b.out.held behind.out.held) m.throttles b.bytes behind.bytes →
      new ≡ record a { out = new.out; bytes = new.bytes } → behind ≡ record b { out = behind.out; bytes = behind.bytes } → plain_around new ≡ plain_around behind
  retried_one a b new behind alone like none held h g gives gave only last =
      let out : plain_out heard new.out ≡ plain_out heard behind.out =
      retries a.out.held a.out new.out none h ∙ ap (λ (x : PlainAround). retried_out x.out.held x.out) like ∙ sym (retries b.out.held b.out behind.out held g) in
      let word : words new.bytes ≡ words behind.bytes =
      fun_ext (λ gate. gives gate (alone gate)
      ∙ ap (λ (l : Option Letter). words a.bytes gate - returned_again a.out.held l gate) none
      ∙ ap (λ (x : PlainAround). x.bytes gate - returned_again x.out.held None gate) like
      ∙ sym (ap (λ (l : Option Letter). words b.bytes gate - returned_again b.out.held l gate) held)
      ∙ sym (gave gate (alone gate))) in
      around_of new behind (ap (λ (x : Around D). x.port) only ∙ ap (λ (x : PlainAround). x.port) like ∙ sym (ap (λ (x : Around D). x.port) last)) out word
      (ap (λ (x : Around D). bare_numbers x.numbers) only ∙ ap (λ (x : PlainAround). x.numbers) like ∙ sym (ap (λ (x : Around D). bare_numbers x.numbers) last))

  -- ---- one record

  -- a record and what stands around it, as far as they count
  record Alike (old last : Amid D) : Type 0 where
    pub side : plain old.side ≡ plain last.side
    pub around : plain_around old.around ≡ plain_around last.around

  fit_at : (old : Amid D) → IsFit old.side → IsSome old.around.port.waiting → IsFitAt (at_port old)
  fit_at old f some = record { side = f; port = some }

  dials_and_steps : (old last new behind : Amid D) → HasAlone m → IsFit old.side → IsSome old.around.port.waiting → Alike old last → DialsAndSteps heard m turn.Done old new →
      DialsAndSteps heard m turn.Done last behind → new.around.out.held ≡ None → behind.around.out.held ≡ None → Alike new behind
  dials_and_steps old last new behind alone f some like h g none held =
      let at : plain_at (at_port old) ≡ plain_at (at_port last) =
      ap (λ (r : RecordNow). record { side = r; port = old.around.port }) like.side ∙ ap (λ (x : PlainAround). record { side = plain last.side; port = x.port }) like.around in
      let mid = dialing.alike.dials m.now (at_port old) (at_port last) h.mid g.mid (fit_at old f some) at h.dials g.dials in
      let fit = dialing.alike.stays m.now (at_port old) h.mid (fit_at old f some) h.dials in
      let begins : plain_turning heard (turning_amid h.mid.side old.around) ≡ plain_turning heard (turning_amid g.mid.side last.around) =
      ap (λ (x : PlainAt). record { side = x.side; out = plain_out heard old.around.out; bytes = words old.around.bytes; numbers = bare_numbers old.around.numbers }) mid
      ∙ ap (λ (x : PlainAround). record { side = plain g.mid.side; out = x.out; bytes = x.bytes; numbers = x.numbers }) like.around in
      let first : Turned heard m h.ended (turning_amid h.mid.side old.around) (turning_amid new.side new.around) = record { turns = h.turns; memory = done_memory h.ended h.comes; none_held = none } in
      let second : Turned heard m g.ended (turning_amid g.mid.side last.around) (turning_amid behind.side behind.around) = record { turns = g.turns; memory = done_memory g.ended g.comes; none_held = held } in
      let both = (turns.alike heard).turns m h.ended g.ended (turning_amid h.mid.side old.around) (turning_amid g.mid.side last.around) (turning_amid new.side new.around) (turning_amid behind.side behind.around)
      alone fit.side begins first second in
      record {
        side = ap (λ (t : PlainTurning). t.side) both.1;
        around = around_of new.around behind.around (h.port ∙ ap (λ (x : PlainAt). x.port) mid ∙ sym g.port) (ap (λ (t : PlainTurning). t.out) both.1)
            (ap (λ (t : PlainTurning). t.bytes) both.1) (ap (λ (t : PlainTurning). t.numbers) both.1);
      }

  same_amid : (old last new behind : Amid D) → Alike old last → new ≡ old → behind ≡ last → Alike new behind
  same_amid old last new behind like h g = record {
    side = ap (λ (x : Amid D). plain x.side) h ∙ like.side ∙ sym (ap (λ (x : Amid D). plain x.side) g);
    around = ap (λ (x : Amid D). plain_around x.around) h ∙ like.around ∙ sym (ap (λ (x : Amid D). plain_around x.around) g);
  }

  turns_if : (b : Bool) (old last new behind : Amid D) → HasAlone m → IsFit old.side → IsSome old.around.port.waiting → Alike old last → TurnsIf b heard m turn.Done old new →
      TurnsIf b heard m turn.Done last behind → new.around.out.held ≡ None → behind.around.out.held ≡ None → Alike new behind
  turns_if true old last new behind alone f some like h g none held = dials_and_steps old last new behind alone f some like h g none held
  turns_if false old last new behind alone f some like h g none held = same_amid old last new behind like h g

  turns_one : (old last new behind : Amid D) → HasAlone m → IsFit old.side → IsSome old.around.port.waiting → Alike old last → TurnsOne heard m turn.Done old new →
      TurnsOne heard m turn.Done last behind → new.around.out.held ≡ None → behind.around.out.held ≡ None → Alike new behind
  turns_one old last new behind alone f some like h g none held =
      let free = turns.free_one heard old.around.out last.around.out (ap (λ (x : PlainAround). x.out) like.around) in
      turns_if (is_free old.around.out) old last new behind alone f some like h (subst (λ (b : Bool). TurnsIf b heard m turn.Done last behind) (sym free) g) none held

  -- ---- it stays fit

  record IsFitAmid (a : Amid D) : Type 0 where
    pub side : IsFit a.side
    pub port : IsSome a.around.port.waiting

  stays_if : (b : Bool) (old new : Amid D) → IsFitAmid old → TurnsIf b heard m turn.Done old new → new.around.out.held ≡ None → IsFitAmid new
  stays_if true old new f h none =
      let fit = dialing.alike.stays m.now (at_port old) h.mid (fit_at old f.side f.port) h.dials in
      let turned : Turned heard m h.ended (turning_amid h.mid.side old.around) (turning_amid new.side new.around) = record { turns = h.turns; memory = done_memory h.ended h.comes; none_held = none } in
      record {
        side = (turns.alike heard).stays m h.ended (turning_amid h.mid.side old.around) (turning_amid new.side new.around) fit.side turned;
        port = subst (λ (p : SeenPort). IsSome p.waiting) (sym h.port) fit.port;
      }
  stays_if false old new f h none = subst IsFitAmid (sym h) f

  waits_if : (b : Bool) (old new : Amid D) → IsFitAmid old → TurnsIf b heard m turn.Done old new → new.around.port.waiting ≡ old.around.port.waiting
  waits_if true old new f h = ap (λ (p : SeenPort). p.waiting) h.port ∙ dialing.alike.waits m.now (at_port old) h.mid (fit_at old f.side f.port) h.dials
  waits_if false old new f h = ap (λ (x : Amid D). x.around.port.waiting) h

  -- ---- all of them

  -- a record that finds a letter held does nothing, and so it is held still at the end
  none_before : (rs : List RecordNow) (stood : List (Amid D)) (a new : Around D) → EachTurns heard m rs stood a new → new.out.held ≡ None → a.out.held ≡ None
  none_before [] [] a new h none = sym (ap (λ (x : Around D). x.out.held) h) ∙ none
  none_before [] (b ∷ bs) a new h none = absurd h
  none_before (r ∷ rs) [] a new h none = absurd h
  none_before (r ∷ rs) (b ∷ bs) a new (h, rest) none = by (is_free a.out) refl h (none_before rs bs b.around new rest none)
    where
      by : (free : Bool) → is_free a.out ≡ free → TurnsIf free heard m turn.Done (amid r a) b → b.around.out.held ≡ None → a.out.held ≡ None
      by true e h none = turns.free_holds_none heard a.out e
      by false e h none = sym (ap (λ (x : Amid D). x.around.out.held) h) ∙ none

  each : (rs ss : List RecordNow) (stood more : List (Amid D)) (a b new behind : Around D) → HasAlone m → AllByRecursion IsFit rs → IsSome a.port.waiting → map plain rs ≡ map plain ss →
      plain_around a ≡ plain_around b → EachTurns heard m rs stood a new → EachTurns heard m ss more b behind → new.out.held ≡ None → behind.out.held ≡ None →
      (map plain (sides_of stood) ≡ map plain (sides_of more)) × (plain_around new ≡ plain_around behind)
  each [] [] [] [] a b new behind alone f some like same h g none held = (refl, ap plain_around h ∙ same ∙ sym (ap plain_around g))
  each (r ∷ rs) (s ∷ ss) (x ∷ xs) (y ∷ ys) a b new behind alone f some like same (h, rest) (g, others) none held =
      let firsts = cons_same (plain r) (plain s) (map plain rs) (map plain ss) like in
      let first = none_before rs xs x.around new rest none in
      let here = turns_one (amid r a) (amid s b) x y alone f.0 some (record { side = firsts.0; around = same }) h g first (none_before ss ys y.around behind others held) in
      let stays = stays_if (is_free a.out) (amid r a) x (record { side = f.0; port = some }) h first in
      let both = each rs ss xs ys x.around y.around new behind alone f.1 stays.port firsts.1 here.around rest others none held in
      (ap (λ (z : RecordNow). z ∷ map plain (sides_of xs)) here.side ∙ ap (λ (zs : List RecordNow). plain y.side ∷ zs) both.0, both.1)
  each [] (s ∷ ss) stood more a b new behind alone f some like same h g none held = absurd (cc like)
  each (r ∷ rs) [] stood more a b new behind alone f some like same h g none held = absurd (cc like)
  each [] [] (x ∷ xs) more a b new behind alone f some like same h g none held = absurd h
  each [] [] [] (y ∷ ys) a b new behind alone f some like same h g none held = absurd g
  each (r ∷ rs) (s ∷ ss) [] more a b new behind alone f some like same h g none held = absurd h
  each (r ∷ rs) (s ∷ ss) (x ∷ xs) [] a b new behind alone f some like same h g none held = absurd g

  each_stays : (rs : List RecordNow) (stood : List (Amid D)) (a new : Around D) → AllByRecursion IsFit rs → IsSome a.port.waiting → EachTurns heard m rs stood a new → new.out.held ≡ None →
      AllByRecursion IsFit (sides_of stood) × (new.port.waiting ≡ a.port.waiting)
  each_stays [] [] a new f some h none = (tt, ap (λ (x : Around D). x.port.waiting) h)
  each_stays [] (x ∷ xs) a new f some h none = absurd h
  each_stays (r ∷ rs) [] a new f some h none = absurd h
  each_stays (r ∷ rs) (x ∷ xs) a new f some (h, rest) none =
      let here = stays_if (is_free a.out) (amid r a) x (record { side = f.0; port = some }) h (none_before rs xs x.around new rest none) in
      let all = each_stays rs xs x.around new f.1 here.port rest none in
      ((here.side, all.0), all.1 ∙ waits_if (is_free a.out) (amid r a) x (record { side = f.0; port = some }) h)

  all_turn : (old last new behind : AllAmid D) → HasAlone m → AreFit old → plain_all heard old ≡ plain_all heard last → TurnsEach heard m turn.Done old new → TurnsEach heard m turn.Done last behind →
      new.around.out.held ≡ None → behind.around.out.held ≡ None → plain_all heard new ≡ plain_all heard behind
  all_turn old last new behind alone f like h g none held =
      let around : plain_around old.around ≡ plain_around last.around = ap (λ (x : PlainAll). record { port = x.port; out = x.out; bytes = x.bytes; numbers = x.numbers }) like in
      let first = none_before old.records h.turns.stood h.retried new.around h.turns.turns none in
      let second = none_before last.records g.turns.stood g.retried behind.around g.turns.turns held in
      let retried = retried_one old.around last.around h.retried g.retried alone.throttles around first second h.retries g.retries h.gives g.gives h.only g.only in
      let both = each old.records last.records h.turns.stood g.turns.stood h.retried g.retried new.around behind.around alone f.records
      (subst (λ (x : Around D). IsSome x.port.waiting) (sym h.only) f.port) (ap (λ (x : PlainAll). x.records) like) retried h.turns.turns g.turns.turns none held in
      let records : map plain new.records ≡ map plain behind.records = ap (map plain) h.turns.records ∙ both.0 ∙ sym (ap (map plain) g.turns.records) in
      ap (λ (rs : List RecordNow). record (plain_all heard new) { records = rs }) records
      ∙ ap (λ (x : PlainAround). record { records = map plain behind.records; port = x.port; out = x.out; bytes = x.bytes; numbers = x.numbers }) both.1

  module _ (old new : AllAmid D) (f : AreFit old) (h : TurnsEach heard m turn.Done old new) (none : new.around.out.held ≡ None) where
    each_there : AllByRecursion IsFit (sides_of h.turns.stood) × (new.around.port.waiting ≡ h.retried.port.waiting)
    each_there = each_stays old.records h.turns.stood h.retried new.around f.records (subst (λ (x : Around D). IsSome x.port.waiting) (sym h.only) f.port) h.turns.turns none

    they_wait : new.around.port.waiting ≡ old.around.port.waiting
    they_wait = each_there.1 ∙ ap (λ (x : Around D). x.port.waiting) h.only

    all_stay : AreFit new
    all_stay = record { records = subst (AllByRecursion IsFit) (sym h.turns.records) each_there.0; port = subst IsSome (sym they_wait) f.port }

pub alike : {D : Type 0} (heard : D → List Heard) → LikeAllRecordsTurnAlike D heard
alike heard = record { turns = all_turn heard; stays = all_stay heard; waits = they_wait heard }
