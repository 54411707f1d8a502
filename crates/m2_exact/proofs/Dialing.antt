-- What a connect that is due, and a step that is planned, leave of records that are alike.
use Rattle.std.proofs.Common.{◌≡◌, ℕ, ◌++◌, ◌∷◌, [], List, Option, None, Some, Ok, true, false, refl, sym, subst, ◌∙◌, ap}
use Rattle.std.specs.Prelude.{◌≢◌, IfSome, IsSome}
use Rattle.m2_fabric.proofs.Exact as exact
use Rattle.m2_fabric.proofs.m2_lemmas.Options.{some_same}
use Rattle.m2_fabric.specs.m2_addr.declared.addr.Addr.{Addr}
use Rattle.m2_fabric.specs.End.{SeenEnd, nothing_told}
use Rattle.m2_fabric.specs.Kinds.{IsInMemory}
use Rattle.m2_fabric.specs.Exact.{after_opening, opened_by}
use Rattle.m2_fabric.specs.Port.{SeenPort}
use Rattle.m2_fabric.specs.Port as port
use Rattle.m2_fabric.specs.declared.port.Connect.{Connect}
use Rattle.m2_fabric.specs.declared.port.Connect.TheVariants as connect
use Rattle.m2_script.specs.m2_center.m2_turn.Connecting.{AtPort, Dials, DialsFor, DialsIfDue, Takes, answer_of}
use Rattle.m2_script.specs.m2_center.m2_turn.Planning.{TakesNew}
use Rattle.m2_script.specs.m2_center.m2_core.Calls.{IsOpening}
use Rattle.m2_script.specs.m2_center.m2_core.CoreNow.{CoreNow}
use Rattle.m2_script.specs.m2_center.m2_core.Effects.{tells}
use Rattle.m2_script.specs.m2_center.m2_feed.FeedNow.{FeedNow, shaking}
use Rattle.m2_script.specs.m2_center.m2_feed.declared.writing.Writing.TheVariants.{Nothing}
use Rattle.m2_script.specs.m2_center.m2_feed.m2_journal.SideFacts.{opener_half}
use Rattle.m2_script.specs.m2_center.m2_feed.m2_journal.declared.entry.Entry.TheVariants as entry
use Rattle.m2_script.specs.m2_center.m2_feed.m2_journal.declared.facts.PlanStep.{PlanStep}
use Rattle.m2_script.specs.m2_center.m2_feed.m2_session.declared.event.Event.TheVariants as event
use Rattle.m2_script.specs.m2_center.m2_record.Calls.{Connects, planned_too, with_opened}
use Rattle.m2_script.specs.m2_center.m2_record.Due.{due_step}
use Rattle.m2_script.specs.m2_center.m2_record.RecordNow.{RecordNow}
use Rattle.m2_script.specs.m2_center.m2_record.declared.due.Due.{Due}
use Rattle.m2_script.specs.m2_center.m2_record.declared.due.Due.TheVariants as due
use Rattle.m2_exact.proofs.Steps as steps
use Rattle.m2_exact.specs.Cores.{roomless, roomless_feed}
use Rattle.m2_exact.specs.Records.{plain}
use Rattle.m2_exact.specs.RecordTurns.{IsFit}
use Rattle.m2_exact.specs.RecordsTurns.{IsFitAt, LikeRecordsDialAndPlanAlike, PlainAt, plain_at}

-- ---- the port

-- what a port in memory opens
record Opens (p new : SeenPort) (to : Addr) (made : Connect SeenEnd) : Type 0 where
  pub waiting : List SeenEnd
  pub some : p.waiting ≡ Some waiting
  pub is : made ≡ connect.Made (opened_by to waiting p)
  pub leaves : new ≡ after_opening to waiting p

opens : (p new : SeenPort) (to : Addr) (made : Connect SeenEnd) → IsSome p.waiting → made ≢ connect.NoMemory → port.Connects made to p new → Opens p new to made
opens p new to made some memory h = by p.waiting refl some
  where
    by : (o : Option (List SeenEnd)) → p.waiting ≡ o → IsSome o → Opens p new to made
    by (Some w) e some = let both = exact.connects_are_exact made to w p new e memory h in record { waiting = w; some = e; is = both.0; leaves = both.1 }
    by None e some = absurd (cc some)

-- ---- the record

-- a feed that begins on this end
abbrev first_feed : SeenEnd → CoreNow → FeedNow
first_feed e c = record {
  end = e;
  opened = true;
  reading = shaking (opener_half c.facts);
  composed = [];
  writing = Nothing;
  stamps = [];
  room = record { payload = 0; text = 0 };
}

abbrev opened_core : SeenEnd → CoreNow → CoreNow
opened_core e c = record c { live = record (tells event.Dialled c.live) { feed = Some (first_feed e c) }; dials = false }

abbrev opened_record : SeenEnd → RecordNow → RecordNow
opened_record e r = record r { core = opened_core e r.core; journal = r.journal ++ entry.Opened e.id ∷ [] }

-- what an end that is taken leaves
record Opened (e : SeenEnd) (r new : RecordNow) : Type 0 where
  pub leaves : plain new ≡ opened_record e (plain r)
  pub fit : e.inflow ≡ Some nothing_told → IsFit new

opened_fit : (e : SeenEnd) (r new : RecordNow) (v : FeedNow) → IsOpening r.core.facts e v → new ≡ record (with_opened v e.id r) { room = new.room } → e.inflow ≡ Some nothing_told → IsFit new
opened_fit e r new v opening only told =
    subst IsFit (sym only) (record {
      memory = subst (λ (z : FeedNow). IsInMemory z.end) (sym opening) (subst IsSome (sym told) refl);
      asked = λ k. refl;
    })

opened : (e : SeenEnd) (r new : RecordNow) → Connects e r new → Opened e r new
opened e r new (each, some) = by new.core.live.feed each some
  where
    by : (x : Option FeedNow) → IfSome x (λ v. IsOpening r.core.facts e v × (new ≡ record (with_opened v e.id r) { room = new.room })) → IsSome x → Opened e r new
    by (Some v) (opening, only) some = record {
      leaves = ap plain only ∙ ap (λ (z : FeedNow). record (plain r) {
        core = record (opened_core e (roomless r.core)) { live = record (opened_core e (roomless r.core)).live { feed = Some (roomless_feed z) } };
        journal = r.journal ++ entry.Opened e.id ∷ [];
      }) opening;
      fit = opened_fit e r new v opening only;
    }
    by None each some = absurd (cc some)

-- ---- a connect

-- the next end was opened and taken
record Dialled (old new : AtPort) : Type 0 where
  pub waiting : List SeenEnd
  pub some : old.port.waiting ≡ Some waiting
  pub port : new.port ≡ after_opening old.side.core.facts.peer waiting old.port
  pub side : plain new.side ≡ opened_record (opened_by old.side.core.facts.peer waiting old.port) (plain old.side)
  pub fit : IsFit new.side

dialled : (now : ℕ) (old new : AtPort) → IsSome old.port.waiting → Dials (Ok tt) now old new → Dialled old new
dialled now old new some h =
    let o = opens old.port new.port old.side.core.facts.peer h.made some (λ e. found h.made e h.answers) h.port in
    let (mid, room, connects) = subst (λ (c : Connect SeenEnd). Takes c now old.side new.side) o.is h.takes in
    let e = opened_by old.side.core.facts.peer o.waiting old.port in
    let took = opened e mid new.side connects in
    record { waiting = o.waiting; some = o.some; port = o.leaves; side = took.leaves ∙ ap (opened_record e) (ap plain room); fit = took.fit refl }
  where
    found : (c : Connect SeenEnd) → c ≡ connect.NoMemory → Ok tt ≡ answer_of c → ⊥
    found c is e = absurd (cc (e ∙ ap answer_of is))

dialled_one : (old last new behind : AtPort) → plain_at old ≡ plain_at last → Dialled old new → Dialled last behind → plain_at new ≡ plain_at behind
dialled_one old last new behind like h g =
    let port : old.port ≡ last.port = ap (λ (a : PlainAt). a.port) like in
    let peer : old.side.core.facts.peer ≡ last.side.core.facts.peer = ap (λ (a : PlainAt). a.side.core.facts.peer) like in
    let waiting : h.waiting ≡ g.waiting = some_same h.waiting g.waiting (sym h.some ∙ ap (λ (p : SeenPort). p.waiting) port ∙ g.some) in
    let end : opened_by old.side.core.facts.peer h.waiting old.port ≡ opened_by last.side.core.facts.peer g.waiting last.port =
    ap (λ (a : Addr). opened_by a h.waiting old.port) peer
    ∙ ap (λ (w : List SeenEnd). opened_by last.side.core.facts.peer w old.port) waiting
    ∙ ap (λ (p : SeenPort). opened_by last.side.core.facts.peer g.waiting p) port in
    let ports : new.port ≡ behind.port =
    h.port
    ∙ ap (λ (a : Addr). after_opening a h.waiting old.port) peer
    ∙ ap (λ (w : List SeenEnd). after_opening last.side.core.facts.peer w old.port) waiting
    ∙ ap (λ (p : SeenPort). after_opening last.side.core.facts.peer g.waiting p) port
    ∙ sym g.port in
    ap (λ (p : SeenPort). record { side = plain new.side; port = p }) ports
    ∙ ap (λ (r : RecordNow). record { side = r; port = behind.port })
    (h.side
    ∙ ap (λ (e : SeenEnd). opened_record e (plain old.side)) end
    ∙ ap (λ (a : PlainAt). opened_record (opened_by last.side.core.facts.peer g.waiting last.port) a.side) like
    ∙ sym g.side)

-- ---- by what is due

dials_for : (d : Due) (now : ℕ) (old last new behind : AtPort) → IsSome old.port.waiting → plain_at old ≡ plain_at last → DialsFor d (Ok tt) now old new → DialsFor d (Ok tt) now last behind →
    plain_at new ≡ plain_at behind
dials_for (due.Connect at) now old last new behind some like h g =
    dialled_one old last new behind like (dialled now old new some h) (dialled now last behind (subst (λ (p : SeenPort). IsSome p.waiting) (ap (λ (a : PlainAt). a.port) like) some) g)
dials_for due.Nothing now old last new behind some like h g = ap plain_at h.1 ∙ like ∙ sym (ap plain_at g.1)
dials_for due.Plan now old last new behind some like h g = ap plain_at h.1 ∙ like ∙ sym (ap plain_at g.1)
dials_for due.Hand now old last new behind some like h g = ap plain_at h.1 ∙ like ∙ sym (ap plain_at g.1)
dials_for due.Write now old last new behind some like h g = ap plain_at h.1 ∙ like ∙ sym (ap plain_at g.1)
dials_for due.Frame now old last new behind some like h g = ap plain_at h.1 ∙ like ∙ sym (ap plain_at g.1)
dials_for due.Read now old last new behind some like h g = ap plain_at h.1 ∙ like ∙ sym (ap plain_at g.1)
dials_for due.Compose now old last new behind some like h g = ap plain_at h.1 ∙ like ∙ sym (ap plain_at g.1)

dials : (now : ℕ) (old last new behind : AtPort) → IsFitAt old → plain_at old ≡ plain_at last → DialsIfDue (Ok tt) now old new → DialsIfDue (Ok tt) now last behind → plain_at new ≡ plain_at behind
dials now old last new behind f like h g =
    dials_for (due_step now old.side) now old last new behind f.port like h
    (subst (λ (d : Due). DialsFor d (Ok tt) now last behind) (sym (steps.due_one now old.side last.side (ap (λ (a : PlainAt). a.side) like))) g)

stays_for : (d : Due) (now : ℕ) (old new : AtPort) → IsFitAt old → DialsFor d (Ok tt) now old new → IsFitAt new
stays_for (due.Connect at) now old new f h =
    let d = dialled now old new f.port h in
    record { side = d.fit; port = subst (λ (p : SeenPort). IsSome p.waiting) (sym d.port) f.port }
stays_for due.Nothing now old new f h = subst IsFitAt (sym h.1) f
stays_for due.Plan now old new f h = subst IsFitAt (sym h.1) f
stays_for due.Hand now old new f h = subst IsFitAt (sym h.1) f
stays_for due.Write now old new f h = subst IsFitAt (sym h.1) f
stays_for due.Frame now old new f h = subst IsFitAt (sym h.1) f
stays_for due.Read now old new f h = subst IsFitAt (sym h.1) f
stays_for due.Compose now old new f h = subst IsFitAt (sym h.1) f

waits_for : (d : Due) (now : ℕ) (old new : AtPort) → IsFitAt old → DialsFor d (Ok tt) now old new → new.port.waiting ≡ old.port.waiting
waits_for (due.Connect at) now old new f h = ap (λ (p : SeenPort). p.waiting) (dialled now old new f.port h).port
waits_for due.Nothing now old new f h = ap (λ (a : AtPort). a.port.waiting) h.1
waits_for due.Plan now old new f h = ap (λ (a : AtPort). a.port.waiting) h.1
waits_for due.Hand now old new f h = ap (λ (a : AtPort). a.port.waiting) h.1
waits_for due.Write now old new f h = ap (λ (a : AtPort). a.port.waiting) h.1
waits_for due.Frame now old new f h = ap (λ (a : AtPort). a.port.waiting) h.1
waits_for due.Read now old new f h = ap (λ (a : AtPort). a.port.waiting) h.1
waits_for due.Compose now old new f h = ap (λ (a : AtPort). a.port.waiting) h.1

-- ---- a step that is planned

plans : (x : PlanStep) (now : ℕ) (r s new behind : RecordNow) → plain r ≡ plain s → TakesNew x now r new → TakesNew x now s behind → plain new ≡ plain behind
plans x now r s new behind like h g =
    steps.plan_some x (Ok tt) (Ok tt) now (planned_too x h.mid) (planned_too x g.mid) new behind (ap (planned_too x) (ap plain h.room ∙ like ∙ sym (ap plain g.room))) (λ e. cc e) (λ e. cc e) h.takes g.takes

pub alike : LikeRecordsDialAndPlanAlike
alike = record { dials = dials; stays = λ now old new. stays_for (due_step now old.side) now old new; waits = λ now old new. waits_for (due_step now old.side) now old new; plans = plans }
