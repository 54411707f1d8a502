-- Records that are alike take their turns alike, but for want of memory.
use Rattle.std.proofs.Common.{◌≡◌, ℕ, ◌-◌, ◌<◌, ◌&&◌, ◌++◌, List, [], ◌∷◌, length, Bool, true, false, Option, None, Some, inl, inr, refl, sym, subst, ◌∙◌, ap, arith}
use Rattle.std.proofs.Math.Path.{fun_ext}
use Rattle.std.specs.Prelude.{◌≢◌, ◌⊎◌, nat_lt}
use Rattle.std.specs.Option.{is_none, option_map}
use Rattle.m2_dispatch.specs.Heard.{Heard}
use Rattle.m2_dispatch.specs.Letters.{heard_in}
use Rattle.m2_dispatch.specs.declared.letter.Letter.{Letter}
use Rattle.m2_dispatch.specs.declared.parcel.Parcel.{Parcel}
use Rattle.m2_dispatch.specs.declared.parcel.Parcel.TheVariants as parcel
use Rattle.m2_dispatch.specs.m2_policy.declared.path.Path.{Path}
use Rattle.m2_dispatch.specs.m2_policy.declared.path.Path.TheVariants.{Fast, Queued}
use Rattle.m2_dispatch.specs.m2_shared.Gates.{Gate, places, words}
use Rattle.m2_dispatch.specs.m2_shared.declared.stage.Stage.{Stage}
use Rattle.m2_dispatch.specs.m2_shared.declared.throttles.TakePasses.{TakePasses}
use Rattle.m2_dispatch.specs.m2_shared.declared.throttles.Throttles.{Throttles}
use Rattle.m2_script.specs.m2_center.m2_turn.Outbox.{DispatchesOr, OutboxNow, Puts, PutsLetter, is_free, returned}
use Rattle.m2_script.specs.m2_center.m2_turn.RecordTurn.{EndsBy, EndsWith, GivesHanded, LeadsOn, LedOn, Means, PutsHanded, Steps, TakesStep, Turning, TurnsAs, worked_by}
use Rattle.m2_script.specs.m2_center.m2_turn.declared.outbox.TheConstants.{MOST_MAIL}
use Rattle.m2_script.specs.m2_center.m2_turn.declared.record_turn.RecordTurn.{RecordTurn}
use Rattle.m2_script.specs.m2_center.m2_turn.declared.record_turn.RecordTurn.TheVariants as turn
use Rattle.m2_script.specs.m2_center.m2_turn.declared.record_turn.TheConstants.{MOST_STEPS}
use Rattle.m2_script.specs.m2_center.m2_core.CoreNow.{IsAskedIfSigned}
use Rattle.m2_script.specs.m2_center.m2_feed.FeedNow.{FeedNow}
use Rattle.m2_script.specs.m2_center.m2_feed.declared.wire_fault.WireFault.{WireFault}
use Rattle.m2_script.specs.m2_center.m2_feed.m2_session.declared.session.Phase.{Phase}
use Rattle.m2_script.specs.m2_center.m2_record.RecordNow.{RecordNow}
use Rattle.m2_script.specs.m2_center.m2_record.declared.stepped.Stepped.{Stepped}
use Rattle.m2_script.specs.m2_center.m2_record.declared.stepped.Stepped.TheVariants as stepped
use Rattle.m2_exact.proofs.Staying as steps
use Rattle.m2_exact.specs.Cores.{OnMemory, roomless_feed}
use Rattle.m2_exact.specs.Holding.{AreAlone}
use Rattle.m2_exact.specs.Records.{Done, Took, begun, bare_numbers, plain}
use Rattle.m2_exact.specs.RecordTurns.{HasAlone, IsFit, LikeRecordsTurnAlike, PlainOut, PlainTurning, Turned, plain_out, plain_turning}

-- ---- fitness

fit_feed : (x y : Option FeedNow) → option_map roomless_feed x ≡ option_map roomless_feed y → OnMemory x → OnMemory y
fit_feed (Some v) (Some w) same m = subst OnMemory same m
fit_feed (Some v) None same m = tt
fit_feed None (Some w) same m = absurd (cc same)
fit_feed None None same m = tt

fit_asked : (p : Phase) (x y : Option FeedNow) → option_map roomless_feed x ≡ option_map roomless_feed y → IsAskedIfSigned p x → IsAskedIfSigned p y
fit_asked p (Some v) (Some w) same m = subst (IsAskedIfSigned p) same m
fit_asked p (Some v) None same m = tt
fit_asked p None (Some w) same m = absurd (cc same)
fit_asked p None None same m = tt

pub fit : (r s : RecordNow) → plain r ≡ plain s → IsFit r → IsFit s
fit r s like h =
    let feeds = ap (λ (x : RecordNow). x.core.live.feed) like in
    record {
      memory = fit_feed r.core.live.feed s.core.live.feed feeds h.memory;
      asked = subst (λ (p : Phase). IsAskedIfSigned p s.core.live.feed) (ap (λ (x : RecordNow). x.core.live.session.phase) like)
          (fit_asked r.core.live.session.phase r.core.live.feed s.core.live.feed feeds h.asked);
    }

-- ---- what is put

abbrev put_letter : Letter → Path → PlainOut → PlainOut
put_letter l Fast o = record { fast = o.fast ++ heard_in l ∷ []; mail = o.mail; held = None }
put_letter l Queued o = record o { mail = o.mail ++ parcel.Letter l ∷ [] }

-- what is put leaves, where it isn't held
abbrev put_out : Parcel → PlainOut → PlainOut
put_out (parcel.Letter l) o = put_letter l l.key.path o
put_out (parcel.Discard peer) o = record o { mail = o.mail ++ parcel.Discard peer ∷ [] }
put_out (parcel.RemoteReset peer) o = record o { mail = o.mail ++ parcel.RemoteReset peer ∷ [] }

abbrev handed_out : Stepped → PlainOut → PlainOut
handed_out (stepped.Hand x) o = put_out x o
handed_out answer o = o

-- what is given back for it
abbrev handed_back : Stepped → (Gate → ℕ) → Gate → ℕ
handed_back (stepped.Hand x) words gate = words gate - returned x None gate
handed_back answer words gate = words gate

module _ {D : Type 0} (heard : D → List Heard) where
  pub put_by : (l : Letter) (p : Path) (o new : OutboxNow D) → new.held ≡ None → PutsLetter heard l p o new → plain_out heard new ≡ put_letter l p (plain_out heard o)
  put_by l Fast o new none h =
      let (said, same) = subst (DispatchesOr heard l o new) none h in
      ap (λ (x : List Heard). record { fast = x; mail = new.mail; held = new.held }) said
      ∙ ap (λ (xs : List Parcel). record { fast = heard o.fast ++ heard_in l ∷ []; mail = xs; held = new.held }) same
      ∙ ap (λ (x : Option Letter). record { fast = heard o.fast ++ heard_in l ∷ []; mail = o.mail; held = x }) none
  put_by l Queued o new none h = ap (plain_out heard) h

  put : (x : Parcel) (o new : OutboxNow D) → new.held ≡ None → Puts heard x o new → plain_out heard new ≡ put_out x (plain_out heard o)
  put (parcel.Letter l) o new none h = put_by l l.key.path o new none h
  put (parcel.Discard peer) o new none h = ap (plain_out heard) h
  put (parcel.RemoteReset peer) o new none h = ap (plain_out heard) h

  handed : (a : Stepped) (o new : OutboxNow D) → new.held ≡ None → PutsHanded heard a o new → plain_out heard new ≡ handed_out a (plain_out heard o)
  handed (stepped.Hand x) o new none h = put x o new none h
  handed stepped.Moved o new none h = ap (plain_out heard) h
  handed stepped.Dry o new none h = ap (plain_out heard) h
  handed (stepped.Full stage out) o new none h = ap (plain_out heard) h
  handed (stepped.Again stage seen now) o new none h = ap (plain_out heard) h
  handed stepped.Spent o new none h = ap (plain_out heard) h
  handed (stepped.Faulted _) o new none h = ap (plain_out heard) h
  handed stepped.NoMemory o new none h = ap (plain_out heard) h

  given : (t : Throttles) (a : Stepped) (o : OutboxNow D) (before behind : TakePasses) → AreAlone (places t) → o.held ≡ None → GivesHanded t a o before behind →
      (gate : Gate) → words behind gate ≡ handed_back a (words before) gate
  given t (stepped.Hand x) o before behind alone none h gate =
      h gate (alone gate) ∙ ap (λ (l : Option Letter). words before gate - returned x l gate) none
  given t stepped.Moved o before behind alone none h gate = ap (λ (p : TakePasses). words p gate) h
  given t stepped.Dry o before behind alone none h gate = ap (λ (p : TakePasses). words p gate) h
  given t (stepped.Full stage out) o before behind alone none h gate = ap (λ (p : TakePasses). words p gate) h
  given t (stepped.Again stage seen now) o before behind alone none h gate = ap (λ (p : TakePasses). words p gate) h
  given t stepped.Spent o before behind alone none h gate = ap (λ (p : TakePasses). words p gate) h
  given t (stepped.Faulted cause) o before behind alone none h gate = ap (λ (p : TakePasses). words p gate) h
  given t stepped.NoMemory o before behind alone none h gate = ap (λ (p : TakePasses). words p gate) h

  -- ---- one step

  -- a step that found memory, in itself and for what it hands out
  record TookStep (m : Means) (a : Stepped) (old new : Turning D) : Type 0 where
    pub takes : TakesStep heard m a old new
    pub memory : a ≢ stepped.NoMemory
    pub none_held : new.out.held ≡ None

  step_stays : (m : Means) (a : Stepped) (old new : Turning D) → a ≢ stepped.NoMemory → IsFit old.side → TakesStep heard m a old new → IsFit new.side
  step_stays m a old new k f h =
      let w = worked_by m a h.behind old new in
      let took : Took w old.side new.side = record { steps = h.steps; memory = k } in
      record { memory = steps.alike.stays w old.side new.side f.memory took; asked = steps.alike.signed w old.side new.side f.asked took }

  module _ (m : Means) (alone : HasAlone m) where
    step_one : (a b : Stepped) (old last new behind : Turning D) → IsFit old.side → plain_turning heard old ≡ plain_turning heard last → TookStep m a old new → TookStep m b last behind →
        (a ≡ b) × (plain_turning heard new ≡ plain_turning heard behind)
    step_one a b old last new behind f like h g =
        let w = worked_by m a h.takes.behind old new in
        let v = worked_by m b g.takes.behind last behind in
        let begins : begun w ≡ begun v = ap (λ (t : PlainTurning). record { now = m.now; throttles = m.throttles; counter = m.counter; bytes = t.bytes; numbers = t.numbers }) like in
        let both = steps.alike.steps w v old.side last.side new.side behind.side f.memory f.asked (record { throttles = alone.throttles; counter = alone.counter }) begins (ap (λ (t : PlainTurning). t.side) like)
        (record { steps = h.takes.steps; memory = h.memory }) (record { steps = g.takes.steps; memory = g.memory }) in
        let answers : a ≡ b = ap (λ (d : Done). d.answer) both.0 in
        let out : plain_out heard new.out ≡ plain_out heard behind.out =
        handed a old.out new.out h.none_held h.takes.puts
        ∙ ap (λ (x : Stepped). handed_out x (plain_out heard old.out)) answers
        ∙ ap (λ (t : PlainTurning). handed_out b t.out) like
        ∙ sym (handed b last.out behind.out g.none_held g.takes.puts) in
        let same : words new.bytes ≡ words behind.bytes =
        fun_ext (λ gate. given m.throttles a new.out h.takes.behind new.bytes alone.throttles h.none_held h.takes.gives gate
        ∙ ap (λ (x : Stepped). handed_back x (words h.takes.behind) gate) answers
        ∙ ap (λ (d : Done). handed_back b d.bytes gate) both.0
        ∙ sym (given m.throttles b behind.out g.takes.behind behind.bytes alone.throttles g.none_held g.takes.gives gate)) in (
          answers,
          ap (λ (r : RecordNow). record { side = r; out = plain_out heard new.out; bytes = words new.bytes; numbers = bare_numbers new.numbers }) both.1
              ∙ ap (λ (o : PlainOut). record { side = plain behind.side; out = o; bytes = words new.bytes; numbers = bare_numbers new.numbers }) out
              ∙ ap (λ (n : Gate → ℕ). record { side = plain behind.side; out = plain_out heard behind.out; bytes = n; numbers = bare_numbers new.numbers }) same
              ∙ ap (λ (d : Done). record { side = plain behind.side; out = plain_out heard behind.out; bytes = words behind.bytes; numbers = d.numbers }) both.0,
        )

  -- ---- steps, one after another

  pub free_holds_none : (o : OutboxNow D) → is_free o ≡ true → o.held ≡ None
  free_holds_none o h = by o.held (first (is_none o.held) (nat_lt (length o.mail) MOST_MAIL) h)
    where
      first : (a b : Bool) → (a && b) ≡ true → a ≡ true
      first true b h = refl
      first false b h = absurd (cc h)

      by : (l : Option Letter) → is_none l ≡ true → l ≡ None
      by None h = refl
      by (Some l) h = absurd (cc h)

  pub free_one : (o p : OutboxNow D) → plain_out heard o ≡ plain_out heard p → is_free o ≡ is_free p
  free_one o p like = ap (λ (x : PlainOut). is_none x.held && nat_lt (length x.mail) MOST_MAIL) like

  -- how a turn ends, where so many steps are left to it
  record Ended (m : Means) (one : RecordTurn) (most : ℕ) (old new : Turning D) : Type 0 where
    pub answer : Stepped
    pub takes : TakesStep heard m answer old new
    pub ends : EndsWith one answer
    pub some : 0 < most

  record HasNoMore (one : RecordTurn) (most : ℕ) (old new : Turning D) : Type 0 where
    pub is : one ≡ turn.Busy
    pub same : old ≡ new
    pub none : most ≡ 0

  record MayNot (one : RecordTurn) (most : ℕ) (old new : Turning D) : Type 0 where
    pub is : one ≡ turn.Stuck
    pub same : old ≡ new
    pub full : is_free new.out ≡ false
    pub some : 0 < most

  abbrev Last : Means → RecordTurn → (most : ℕ) → Turning D → Turning D → Type 0
  Last m one most old new = Ended m one most old new ⊎ (HasNoMore one most old new ⊎ MayNot one most old new)

  -- steps that lead on, and then this end
  abbrev Walks : Means → RecordTurn → List (Turning D) → (most : ℕ) → Turning D → Turning D → Type 0
  Walks m one [] most old new = Last m one most old new
  Walks m one (t ∷ ts) most old new = LedOn heard m old t × (0 < most) × Walks m one ts (most - 1) t new

  ended : (m : Means) (one : RecordTurn) (ts : List (Turning D)) (most : ℕ) (old mid new : Turning D) (a : Stepped) → length ts < most → Steps heard m ts old mid → TakesStep heard m a mid new →
      EndsWith one a → Walks m one ts most old new
  ended m one [] most old mid new a few same h e = inl (record { answer = a; takes = subst (λ (t : Turning D). TakesStep heard m a t new) (sym same) h; ends = e; some = omega (arith, few) })
  ended m one (t ∷ ts) most old mid new a few (led, rest) h e = (led, omega (arith, few), ended m one ts (most - 1) t mid new a (omega (arith, few)) rest h e)

  busy : (m : Means) (ts : List (Turning D)) (most : ℕ) (old new : Turning D) → length ts ≡ most → Steps heard m ts old new → Walks m turn.Busy ts most old new
  busy m [] most old new many same = inr (inl (record { is = refl; same = same; none = omega (arith, many) }))
  busy m (t ∷ ts) most old new many (led, rest) = (led, omega (arith, many), busy m ts (most - 1) t new (omega (arith, many)) rest)

  stuck : (m : Means) (ts : List (Turning D)) (most : ℕ) (old new : Turning D) → length ts < most → is_free new.out ≡ false → Steps heard m ts old new → Walks m turn.Stuck ts most old new
  stuck m [] most old new few full same = inr (inr (record { is = refl; same = same; full = full; some = omega (arith, few) }))
  stuck m (t ∷ ts) most old new few full (led, rest) = (led, omega (arith, few), stuck m ts (most - 1) t new (omega (arith, few)) full rest)

  by_end : (m : Means) (one : RecordTurn) (old new : Turning D) → EndsBy heard m one old new → (ts : List (Turning D)) × Walks m one ts MOST_STEPS old new
  by_end m one old new h = (h.led.stood, ended m one h.led.stood MOST_STEPS old h.mid new h.answer h.led.within h.led.steps h.takes h.ends)

  walks : (m : Means) (one : RecordTurn) (old new : Turning D) → TurnsAs heard m one old new → (ts : List (Turning D)) × Walks m one ts MOST_STEPS old new
  walks m turn.Busy old new h = (h.stood, busy m h.stood MOST_STEPS old new h.many h.steps)
  walks m turn.Stuck old new h = (h.led.stood, stuck m h.led.stood MOST_STEPS old new h.led.within h.full h.led.steps)
  walks m turn.Dry old new h = by_end m turn.Dry old new h
  walks m (turn.Full stage n) old new h = by_end m (turn.Full stage n) old new h
  walks m (turn.Again stage n k) old new h = by_end m (turn.Again stage n k) old new h
  walks m turn.Spent old new h = by_end m turn.Spent old new h
  walks m (turn.Faulted f) old new h = by_end m (turn.Faulted f) old new h
  walks m turn.NoMemory old new h = by_end m turn.NoMemory old new h

  -- ---- what ends a turn

  abbrev turned_of : Stepped → RecordTurn
  turned_of stepped.Moved = turn.Busy
  turned_of (stepped.Hand x) = turn.Busy
  turned_of stepped.Dry = turn.Dry
  turned_of (stepped.Full stage out) = turn.Full stage out
  turned_of (stepped.Again stage seen at) = turn.Again stage seen at
  turned_of stepped.Spent = turn.Spent
  turned_of (stepped.Faulted f) = turn.Faulted f
  turned_of stepped.NoMemory = turn.NoMemory

  ends_so : (one : RecordTurn) (a : Stepped) → EndsWith one a → one ≡ turned_of a
  ends_so turn.Dry stepped.Dry e = refl
  ends_so (turn.Full stage n) (stepped.Full full out) e = ap (λ (x : Stage). turn.Full x n) e.0 ∙ ap (λ (x : ℕ). turn.Full full x) e.1
  ends_so (turn.Again stage n k) (stepped.Again changed was at) e =
      ap (λ (x : Option Stage). turn.Again x n k) e.0 ∙ ap (λ (x : ℕ). turn.Again changed x k) e.1 ∙ ap (λ (x : ℕ). turn.Again changed was x) e.2
  ends_so turn.Spent stepped.Spent e = refl
  ends_so (turn.Faulted c) (stepped.Faulted f) e = ap (λ (x : WireFault). turn.Faulted x) e
  ends_so turn.NoMemory stepped.NoMemory e = refl
  ends_so one a e = absurd e

  abbrev leads_on : Stepped → Bool
  leads_on stepped.Moved = true
  leads_on (stepped.Hand x) = true
  leads_on a = false

  leads : (a : Stepped) → LeadsOn a → leads_on a ≡ true
  leads stepped.Moved h = refl
  leads (stepped.Hand x) h = refl
  leads a h = absurd h

  ends : (one : RecordTurn) (a : Stepped) → EndsWith one a → leads_on a ≡ false
  ends one stepped.Dry e = refl
  ends one (stepped.Full stage out) e = refl
  ends one (stepped.Again stage was at) e = refl
  ends one stepped.Spent e = refl
  ends one (stepped.Faulted f) e = refl
  ends one stepped.NoMemory e = refl
  ends turn.Dry stepped.Moved e = absurd e
  ends (turn.Full stage n) stepped.Moved e = absurd e
  ends (turn.Again stage n k) stepped.Moved e = absurd e
  ends turn.Spent stepped.Moved e = absurd e
  ends (turn.Faulted f) stepped.Moved e = absurd e
  ends turn.Busy stepped.Moved e = absurd e
  ends turn.Stuck stepped.Moved e = absurd e
  ends turn.NoMemory stepped.Moved e = absurd e
  ends turn.Dry (stepped.Hand x) e = absurd e
  ends (turn.Full stage n) (stepped.Hand x) e = absurd e
  ends (turn.Again stage n k) (stepped.Hand x) e = absurd e
  ends turn.Spent (stepped.Hand x) e = absurd e
  ends (turn.Faulted f) (stepped.Hand x) e = absurd e
  ends turn.Busy (stepped.Hand x) e = absurd e
  ends turn.Stuck (stepped.Hand x) e = absurd e
  ends turn.NoMemory (stepped.Hand x) e = absurd e

  ended_memory : (one : RecordTurn) (a : Stepped) → one ≢ turn.NoMemory → EndsWith one a → a ≢ stepped.NoMemory
  ended_memory one a m e is = m (ends_so one a e ∙ ap turned_of is)

  led_memory : (a : Stepped) → LeadsOn a → a ≢ stepped.NoMemory
  led_memory stepped.Moved h = λ e. cc e
  led_memory (stepped.Hand x) h = λ e. cc e
  led_memory a h = absurd h

  -- nothing is held behind a step that another one follows, nor behind one that ends a turn in which none is held at last
  none_held : (m : Means) (one : RecordTurn) (ts : List (Turning D)) (most : ℕ) (t new : Turning D) → Walks m one ts most t new → new.out.held ≡ None → t.out.held ≡ None
  none_held m one [] most t new (inl h) none = free_holds_none t.out h.takes.free
  none_held m one [] most t new (inr (inl h)) none = ap (λ (x : Turning D). x.out.held) h.same ∙ none
  none_held m one [] most t new (inr (inr h)) none = ap (λ (x : Turning D). x.out.held) h.same ∙ none
  none_held m one (u ∷ ts) most t new (led, some, rest) none = free_holds_none t.out led.takes.free

  -- ---- two turns

  module _ (m : Means) (alone : HasAlone m) where
    -- a turn that ends where the other leads on
    ends_and_leads : (one : RecordTurn) (most : ℕ) (old last new t : Turning D) → one ≢ turn.NoMemory → IsFit old.side → plain_turning heard old ≡ plain_turning heard last → Last m one most old new →
        new.out.held ≡ None → LedOn heard m last t → 0 < most → t.out.held ≡ None → ⊥
    ends_and_leads one most old last new t k f like (inl h) none led some held =
        let both = step_one m alone h.answer led.answer old last new t f like (record { takes = h.takes; memory = ended_memory one h.answer k h.ends; none_held = none })
        (record { takes = led.takes; memory = led_memory led.answer led.leads; none_held = held }) in
        absurd (cc (leads led.answer led.leads, ends one h.answer h.ends, ap leads_on both.0))
    ends_and_leads one most old last new t k f like (inr (inl h)) none led some held = absurd (omega (arith, h.none, some))
    ends_and_leads one most old last new t k f like (inr (inr h)) none led some held =
        absurd (cc (ap (λ (x : Turning D). is_free x.out) h.same ∙ h.full, free_one old.out last.out (ap (λ (x : PlainTurning). x.out) like), led.takes.free))

    both_end : (one other : RecordTurn) (most : ℕ) (old last new behind : Turning D) → one ≢ turn.NoMemory → other ≢ turn.NoMemory → IsFit old.side → plain_turning heard old ≡ plain_turning heard last →
        Last m one most old new → Last m other most last behind → new.out.held ≡ None → behind.out.held ≡ None → (one ≡ other) × (plain_turning heard new ≡ plain_turning heard behind)
    both_end one other most old last new behind k l f like (inl h) (inl g) none held =
        let both = step_one m alone h.answer g.answer old last new behind f like (record { takes = h.takes; memory = ended_memory one h.answer k h.ends; none_held = none })
        (record { takes = g.takes; memory = ended_memory other g.answer l g.ends; none_held = held }) in
        (ends_so one h.answer h.ends ∙ ap turned_of both.0 ∙ sym (ends_so other g.answer g.ends), both.1)
    both_end one other most old last new behind k l f like (inr (inl h)) (inr (inl g)) none held =
        (h.is ∙ sym g.is, sym (ap (plain_turning heard) h.same) ∙ like ∙ ap (plain_turning heard) g.same)
    both_end one other most old last new behind k l f like (inr (inr h)) (inr (inr g)) none held =
        (h.is ∙ sym g.is, sym (ap (plain_turning heard) h.same) ∙ like ∙ ap (plain_turning heard) g.same)
    both_end one other most old last new behind k l f like (inl h) (inr (inl g)) none held = absurd (omega (arith, h.some, g.none))
    both_end one other most old last new behind k l f like (inr (inl h)) (inl g) none held = absurd (omega (arith, g.some, h.none))
    both_end one other most old last new behind k l f like (inr (inl h)) (inr (inr g)) none held = absurd (omega (arith, g.some, h.none))
    both_end one other most old last new behind k l f like (inr (inr h)) (inr (inl g)) none held = absurd (omega (arith, h.some, g.none))
    both_end one other most old last new behind k l f like (inl h) (inr (inr g)) none held =
        absurd (cc (h.takes.free, free_one old.out last.out (ap (λ (x : PlainTurning). x.out) like), ap (λ (x : Turning D). is_free x.out) g.same ∙ g.full))
    both_end one other most old last new behind k l f like (inr (inr h)) (inl g) none held =
        absurd (cc (g.takes.free, free_one old.out last.out (ap (λ (x : PlainTurning). x.out) like), ap (λ (x : Turning D). is_free x.out) h.same ∙ h.full))

    both_walk : (one other : RecordTurn) (ts us : List (Turning D)) (most : ℕ) (old last new behind : Turning D) → one ≢ turn.NoMemory → other ≢ turn.NoMemory → IsFit old.side →
        plain_turning heard old ≡ plain_turning heard last → Walks m one ts most old new → Walks m other us most last behind → new.out.held ≡ None → behind.out.held ≡ None →
        (one ≡ other) × (plain_turning heard new ≡ plain_turning heard behind)
    both_walk one other [] [] most old last new behind k l f like h g none held = both_end one other most old last new behind k l f like h g none held
    both_walk one other [] (u ∷ us) most old last new behind k l f like h (led, some, rest) none held =
        absurd (ends_and_leads one most old last new u k f like h none led some (none_held m other us (most - 1) u behind rest held))
    both_walk one other (t ∷ ts) [] most old last new behind k l f like (led, some, rest) g none held =
        absurd (ends_and_leads other most last old behind t l (fit old.side last.side (ap (λ (x : PlainTurning). x.side) like) f) (sym like) g held led some (none_held m one ts (most - 1) t new rest none))
    both_walk one other (t ∷ ts) (u ∷ us) most old last new behind k l f like (led, some, rest) (leads, more, others) none held =
        let first : TookStep m led.answer old t = record { takes = led.takes; memory = led_memory led.answer led.leads; none_held = none_held m one ts (most - 1) t new rest none } in
        let second : TookStep m leads.answer last u = record { takes = leads.takes; memory = led_memory leads.answer leads.leads; none_held = none_held m other us (most - 1) u behind others held } in
        let both = step_one m alone led.answer leads.answer old last t u f like first second in
        both_walk one other ts us (most - 1) t u new behind k l (step_stays m led.answer old t first.memory f first.takes) both.1 rest others none held

    turns : (one other : RecordTurn) (old last new behind : Turning D) → IsFit old.side → plain_turning heard old ≡ plain_turning heard last → Turned heard m one old new → Turned heard m other last behind →
        (one ≡ other) × (plain_turning heard new ≡ plain_turning heard behind)
    turns one other old last new behind f like h g =
        let (ts, first) = walks m one old new h.turns in
        let (us, second) = walks m other last behind g.turns in
        both_walk one other ts us MOST_STEPS old last new behind h.memory g.memory f like first second h.none_held g.none_held

  -- ---- it stays fit

  walk_stays : (m : Means) (one : RecordTurn) (ts : List (Turning D)) (most : ℕ) (old new : Turning D) → one ≢ turn.NoMemory → IsFit old.side → Walks m one ts most old new → IsFit new.side
  walk_stays m one [] most old new k f (inl h) = step_stays m h.answer old new (ended_memory one h.answer k h.ends) f h.takes
  walk_stays m one [] most old new k f (inr (inl h)) = subst (λ (t : Turning D). IsFit t.side) h.same f
  walk_stays m one [] most old new k f (inr (inr h)) = subst (λ (t : Turning D). IsFit t.side) h.same f
  walk_stays m one (t ∷ ts) most old new k f (led, some, rest) = walk_stays m one ts (most - 1) t new k (step_stays m led.answer old t (led_memory led.answer led.leads) f led.takes) rest

  stays : (m : Means) (one : RecordTurn) (old new : Turning D) → IsFit old.side → Turned heard m one old new → IsFit new.side
  stays m one old new f h = let (ts, walk) = walks m one old new h.turns in walk_stays m one ts MOST_STEPS old new h.memory f walk

pub alike : {D : Type 0} (heard : D → List Heard) → LikeRecordsTurnAlike D heard
alike heard = record { turns = λ m one other old last new behind alone. turns heard m alone one other old last new behind; stays = stays heard }
