-- What becomes of a record, and of all beside their port, at a moment.
use Rattle.std.proofs.Common.{◌≡◌, ◌⊎◌, inl, inr, ℕ, ◌+◌, ◌≤◌, ◌||◌, ◌&&◌, not, if◌then◌else◌, Bool, true, false, List, [], ◌∷◌, ◌++◌, map, refl, sym, ap, subst, ◌∙◌, arith, append-nil}
use Rattle.std.specs.List.{AllByRecursion, IsDistinct, list_any}
use Rattle.m2_cluster.specs.m2_center.m2_core.Waits.{IsWithin, begun, over, stepped}
use Rattle.m2_cluster.specs.m2_center.m2_core.declared.waits.Waits.{Waits}
use Rattle.m2_cluster.specs.m2_center.m2_feed.m2_journal.declared.entry.Entry.{Entry}
use Rattle.m2_cluster.specs.m2_center.m2_feed.m2_journal.declared.facts.NodeFacts.{NodeFacts}
use Rattle.m2_cluster.specs.m2_center.m2_feed.m2_journal.declared.facts.PlanStep.{PlanStep}
use Rattle.m2_cluster.specs.m2_center.m2_feed.m2_journal.SideFacts.{SideFacts}
use Rattle.m2_cluster.specs.m2_center.m2_feed.m2_session.declared.session.Phase.{Phase}
use Rattle.m2_cluster.specs.m2_center.m2_feed.m2_session.declared.session.Phase.TheVariants.{Ready, Wait}
use Rattle.m2_cluster.specs.m2_center.m2_feed.m2_session.Phases as phase
use Rattle.m2_cluster.specs.m2_center.m2_record.RecordNow.{RecordNow}
use Rattle.m2_cluster.proofs.m2_center.m2_turn.m2_record.Kept.{begun-within, stepped-within}
use Rattle.m2_cluster.proofs.m2_center.m2_turn.Joined.{distinct_between}
use Rattle.m2_fabric.specs.declared.socket.SocketId.{SocketId}
use Rattle.m2_fabric.specs.Port.{SeenPort}
use Rattle.m2_fabric.specs.Sockets.{IsNewTo, is_among, same_socket}
use Rattle.m2_fabric.proofs.m2_lemmas.Booleans.{false_isnt_true}
use Rattle.m2_links_go_on.specs.Course.{DialsInTime, HasCounted, LastIsGiven, is_productive, missed_by}
use Rattle.m2_links_go_on.specs.Made.{SideMade, side_made}

-- ---- waits

-- what is known of a wait at a moment, by the facts of its node
pub record WaitsInTime (now : ℕ) (node : NodeFacts) (w : Waits) : Type 0 where
  pub within : IsWithin node w
  pub dial : w.next_dial ≤ now + node.most_wait

abbrev pub WaitsGo : (now : ℕ) → NodeFacts → Waits → Waits → Type 0
WaitsGo now node w x = WaitsInTime now node w → WaitsInTime now node x

pub begins : (now : ℕ) (node : NodeFacts) (w : Waits) → WaitsGo now node w (begun node now w)
begins now node w h = record { within = begun-within node now w h.within; dial = (let to = h.within.to in omega (arith, to)) }

pub goes_stepped : (now : ℕ) (node : NodeFacts) (p q : Phase) (w : Waits) → WaitsGo now node w (stepped node now p q w)
goes_stepped now node p q w h = record {
  within = stepped-within node now p q w h.within;
  dial = at (phase.is q Wait) (phase.is p Wait) (phase.is q Ready);
}
  where
    begin : (begun node now w).next_dial ≤ now + node.most_wait
    begin = (begins now node w h).dial

    at : (a b c : Bool) → (if a && not b then begun node now w else (if c then over node w else w)).next_dial ≤ now + node.most_wait
    at true false c = begin
    at true true true = h.dial
    at true true false = h.dial
    at false b true = h.dial
    at false b false = h.dial

-- ---- the last moment

abbrev pub is_moved : List Entry → Bool
is_moved journal = list_any is_productive journal

-- it is this moment, or that of before, and then there is a productive entry only if there was one
abbrev pub LastGoes : (now : ℕ) → RecordNow → RecordNow → Type 0
LastGoes now old new = (new.last ≡ now) ⊎ ((new.last ≡ old.last) × (is_moved new.journal ≡ true → is_moved old.journal ≡ true))

last_chain : (now : ℕ) (a b c : RecordNow) → LastGoes now a b → LastGoes now b c → LastGoes now a c
last_chain now a b c p (inl e) = inl e
last_chain now a b c (inl e) (inr (same, none)) = inl (same ∙ e)
last_chain now a b c (inr (same, none)) (inr (again, still)) = inr (again ∙ same, λ h. none (still h))

pub moved_before : (journal more : List Entry) → is_moved more ≡ false → is_moved (journal ++ more) ≡ true → is_moved journal ≡ true
moved_before [] more none h = absurd (false_isnt_true (sym none ∙ h))
moved_before (e ∷ es) more none h = at (is_productive e) h (moved_before es more none)
  where
    at : (b : Bool) → b || is_moved (es ++ more) ≡ true → (is_moved (es ++ more) ≡ true → is_moved es ≡ true) → b || is_moved es ≡ true
    at true h rest = refl
    at false h rest = rest h

-- what came isn't productive
pub last_still : (now : ℕ) (old new : RecordNow) (more : List Entry) → new.last ≡ old.last → new.journal ≡ old.journal ++ more → is_moved more ≡ false → LastGoes now old new
last_still now old new more same journal none = inr (same, λ h. moved_before old.journal more none (sym (ap is_moved journal) ∙ h))

-- ---- a record

-- what a step leaves alone: its peer's place, its plan, and how many connects it missed
pub record Steady : Type 0 where
  pub place : ℕ
  pub plan : List PlanStep
  pub missed : ℕ

abbrev pub steady_of : RecordNow → Steady
steady_of r = record { place = r.place; plan = r.plan; missed = r.missed }

-- what a step does to the rest
pub record Beats (now : ℕ) (old new : RecordNow) : Type 0 where
  pub steady : steady_of new ≡ steady_of old
  pub last : LastGoes now old new
  pub waits : WaitsGo now old.core.facts.node old.waits new.waits

pub beats_chain : (now : ℕ) (a b c : RecordNow) → b.core.facts ≡ a.core.facts → Beats now a b → Beats now b c → Beats now a c
beats_chain now a b c same p q = record {
  steady = q.steady ∙ p.steady;
  last = last_chain now a b c p.last q.last;
  waits = λ h. subst (λ (f : SideFacts). WaitsGo now f.node b.waits c.waits) same q.waits (p.waits h);
}

-- what is neither its last moment nor its waits
pub record Calm : Type 0 where
  pub steady : Steady
  pub last : ℕ
  pub waits : Waits

abbrev pub calm_of : RecordNow → Calm
calm_of r = record { steady = steady_of r; last = r.last; waits = r.waits }

-- the journal gets entries of which none is productive
pub beats_calm : (now : ℕ) (old new : RecordNow) (more : List Entry) → calm_of new ≡ calm_of old → new.journal ≡ old.journal ++ more → is_moved more ≡ false → Beats now old new
beats_calm now old new more calm journal none = record {
  steady = ap (λ (c : Calm). c.steady) calm;
  last = last_still now old new more (ap (λ (c : Calm). c.last) calm) journal none;
  waits = λ h. subst (WaitsInTime now old.core.facts.node) (sym (ap (λ (c : Calm). c.waits) calm)) h;
}

-- or none
pub beats_same : (now : ℕ) (old new : RecordNow) → calm_of new ≡ calm_of old → new.journal ≡ old.journal → Beats now old new
beats_same now old new calm journal = record {
  steady = ap (λ (c : Calm). c.steady) calm;
  last = inr (ap (λ (c : Calm). c.last) calm, λ h. sym (ap is_moved journal) ∙ h);
  waits = λ h. subst (WaitsInTime now old.core.facts.node) (sym (ap (λ (c : Calm). c.waits) calm)) h;
}

-- ---- a record with its facts

pub record SideGoes (now : ℕ) (old new : RecordNow) : Type 0 where
  pub made : side_made new ≡ side_made old
  pub missed : new.missed ≡ old.missed
  pub last : LastGoes now old new
  pub waits : WaitsGo now old.core.facts.node old.waits new.waits

abbrev made_of : (place : ℕ) → SideFacts → List PlanStep → SideMade
made_of place facts plan = record { place = place; facts = facts; plan = plan }

made_by : (old new : RecordNow) → new.place ≡ old.place → new.core.facts ≡ old.core.facts → new.plan ≡ old.plan → side_made new ≡ side_made old
made_by old new place facts plan =
    ap (λ x. made_of x new.core.facts new.plan) place ∙ (ap (λ x. made_of old.place x new.plan) facts ∙ ap (made_of old.place old.core.facts) plan)

pub goes_by : (now : ℕ) (old new : RecordNow) → new.core.facts ≡ old.core.facts → Beats now old new → SideGoes now old new
goes_by now old new facts b = record {
  made = made_by old new (ap (λ (s : Steady). s.place) b.steady) facts (ap (λ (s : Steady). s.plan) b.steady);
  missed = ap (λ (s : Steady). s.missed) b.steady;
  last = b.last;
  waits = b.waits;
}

pub side_same : (now : ℕ) (r s : RecordNow) → s ≡ r → SideGoes now r s
side_same now r s same = record {
  made = ap side_made same;
  missed = ap (λ x. x.missed) same;
  last = inr (ap (λ x. x.last) same, λ h. sym (ap (λ x. is_moved x.journal) same) ∙ h);
  waits = λ h. subst (WaitsInTime now r.core.facts.node) (sym (ap (λ x. x.waits) same)) h;
}

pub side_chain : (now : ℕ) (a b c : RecordNow) → SideGoes now a b → SideGoes now b c → SideGoes now a c
side_chain now a b c p q = record {
  made = q.made ∙ p.made;
  missed = q.missed ∙ p.missed;
  last = last_chain now a b c p.last q.last;
  waits = λ h. subst (λ (s : SideMade). WaitsGo now s.facts.node b.waits c.waits) p.made q.waits (p.waits h);
}

-- ---- a port

-- no socket is twice among those that it made
abbrev pub AreOnce : SeenPort → Type 0
AreOnce p = IsDistinct same_socket p.made

-- it listens where it did and has missed as many, and no socket was made twice
pub record PortStays (p q : SeenPort) : Type 0 where
  pub at : q.at ≡ p.at
  pub missed : q.missed ≡ p.missed
  pub once : AreOnce p → AreOnce q

pub stays_by : (p q : SeenPort) → q ≡ p → PortStays p q
stays_by p q e = record { at = ap (λ x. x.at) e; missed = ap (λ x. x.missed) e; once = λ h. subst AreOnce (sym e) h }

pub stays_same : (p : SeenPort) → PortStays p p
stays_same p = stays_by p p refl

pub stays_chain : (p q t : SeenPort) → PortStays p q → PortStays q t → PortStays p t
stays_chain p q t a b = record { at = b.at ∙ a.at; missed = b.missed ∙ a.missed; once = λ h. b.once (a.once h) }

-- a new socket is the last
pub once_more : (p q : SeenPort) (k : SocketId) → IsNewTo p.made k → q.made ≡ p.made ++ k ∷ [] → AreOnce p → AreOnce q
once_more p q k new made once = subst (IsDistinct same_socket) (sym made)
    (distinct_between k p.made [] (subst (IsDistinct same_socket) (sym (append-nil p.made)) once) (ap (is_among k) (append-nil p.made) ∙ new))

-- ---- beside a port

-- whatever others have missed
abbrev pub CountsOn : (old_port old_missed new_port new_missed : ℕ) → Type 0
CountsOn p r q s = (others : ℕ) → HasCounted p (r + others) → HasCounted q (s + others)

-- a record that dials at a port
pub record Goes (now : ℕ) (p q : SeenPort) (old new : RecordNow) : Type 0 where
  pub made : side_made new ≡ side_made old
  pub at : q.at ≡ p.at
  pub once : AreOnce p → AreOnce q
  pub missed : CountsOn p.missed old.missed q.missed new.missed
  pub last : LastGoes now old new
  pub waits : WaitsGo now old.core.facts.node old.waits new.waits

pub counted : (p a b : ℕ) → a ≡ b → HasCounted p a → HasCounted p b
counted p a b e h = subst (HasCounted p) e h

same_counted : (p q r s : ℕ) → q ≡ p → s ≡ r → CountsOn p r q s
same_counted p q r s port missed others h = subst (λ n. HasCounted n (s + others)) (sym port) (subst (λ n. HasCounted p (n + others)) (sym missed) h)

-- the port stays
pub goes_beside : (now : ℕ) (p q : SeenPort) (old new : RecordNow) → PortStays p q → SideGoes now old new → Goes now p q old new
goes_beside now p q old new s g =
    record { made = g.made; at = s.at; once = s.once; missed = same_counted p.missed q.missed old.missed new.missed s.missed g.missed; last = g.last; waits = g.waits }

pub goes_chain : (now : ℕ) (p q t : SeenPort) (a b c : RecordNow) → Goes now p q a b → Goes now q t b c → Goes now p t a c
goes_chain now p q t a b c f g = record {
  made = g.made ∙ f.made;
  at = g.at ∙ f.at;
  once = λ h. g.once (f.once h);
  missed = λ others h. g.missed others (f.missed others h);
  last = last_chain now a b c f.last g.last;
  waits = λ h. subst (λ (s : SideMade). WaitsGo now s.facts.node b.waits c.waits) f.made g.waits (f.waits h);
}

-- ---- all records

-- what is known of each, apart from what it missed
pub record GoesOn (now : ℕ) (old new : RecordNow) : Type 0 where
  pub made : side_made new ≡ side_made old
  pub last : LastGoes now old new
  pub waits : WaitsGo now old.core.facts.node old.waits new.waits

abbrev pub EachGoesOn : (now : ℕ) → (old new : List RecordNow) → Type 0
EachGoesOn now [] [] = Unit {0}
EachGoesOn now (r ∷ rs) (s ∷ ss) = GoesOn now r s × EachGoesOn now rs ss
EachGoesOn now _ _ = ⊥

pub record AllGo (now : ℕ) (p q : SeenPort) (old new : List RecordNow) : Type 0 where
  pub each : EachGoesOn now old new
  pub at : q.at ≡ p.at
  pub once : AreOnce p → AreOnce q
  pub missed : CountsOn p.missed (missed_by old) q.missed (missed_by new)

each_same : (now : ℕ) (rs : List RecordNow) → EachGoesOn now rs rs
each_same now [] = tt
each_same now (r ∷ rs) = let g = side_same now r r refl in (record { made = g.made; last = g.last; waits = g.waits }, each_same now rs)

one_chain : (now : ℕ) (a b c : RecordNow) → GoesOn now a b → GoesOn now b c → GoesOn now a c
one_chain now a b c f g = record {
  made = g.made ∙ f.made;
  last = last_chain now a b c f.last g.last;
  waits = λ h. subst (λ (s : SideMade). WaitsGo now s.facts.node b.waits c.waits) f.made g.waits (f.waits h);
}

each_chain : (now : ℕ) (rs ss ts : List RecordNow) → EachGoesOn now rs ss → EachGoesOn now ss ts → EachGoesOn now rs ts
each_chain now [] [] [] p q = tt
each_chain now [] [] (t ∷ ts) p q = absurd q
each_chain now [] (s ∷ ss) ts p q = absurd p
each_chain now (r ∷ rs) [] ts p q = absurd p
each_chain now (r ∷ rs) (s ∷ ss) [] p q = absurd q
each_chain now (r ∷ rs) (s ∷ ss) (t ∷ ts) p q = (one_chain now r s t p.0 q.0, each_chain now rs ss ts p.1 q.1)

pub all_same : (now : ℕ) (p q : SeenPort) (rs : List RecordNow) → PortStays p q → AllGo now p q rs rs
all_same now p q rs s = record { each = each_same now rs; at = s.at; once = s.once; missed = same_counted p.missed q.missed (missed_by rs) (missed_by rs) s.missed refl }

pub all_by : (now : ℕ) (p q : SeenPort) (rs ss : List RecordNow) → PortStays p q → ss ≡ rs → AllGo now p q rs ss
all_by now p q rs ss s same = subst (AllGo now p q rs) (sym same) (all_same now p q rs s)

pub all_chain : (now : ℕ) (p q t : SeenPort) (rs ss us : List RecordNow) → AllGo now p q rs ss → AllGo now q t ss us → AllGo now p t rs us
all_chain now p q t rs ss us f g = record { each = each_chain now rs ss us f.each g.each; at = g.at ∙ f.at; once = λ h. g.once (f.once h); missed = λ others h. g.missed others (f.missed others h) }

counts_then : (p q t r s x y : ℕ) → CountsOn p r q s → CountsOn q x t y → CountsOn p (r + x) t (s + y)
counts_then p q t r s x y f g others h =
    let first : HasCounted q (s + (x + others)) = f (x + others) (counted p ((r + x) + others) (r + (x + others)) (omega arith) h) in
    let rest : HasCounted t (y + (s + others)) = g (s + others) (counted q (s + (x + others)) (x + (s + others)) (omega arith) first) in
    counted t (y + (s + others)) ((s + y) + others) (omega arith) rest

-- one, and then the others
pub all_cons : (now : ℕ) (p q t : SeenPort) (r s : RecordNow) (rs ss : List RecordNow) → Goes now p q r s → AllGo now q t rs ss → AllGo now p t (r ∷ rs) (s ∷ ss)
all_cons now p q t r s rs ss f g = record {
  each = (record { made = f.made; last = f.last; waits = f.waits }, g.each);
  at = g.at ∙ f.at;
  once = λ h. g.once (f.once h);
  missed = counts_then p.missed q.missed t.missed r.missed s.missed (missed_by rs) (missed_by ss) f.missed g.missed;
}

each_append : (now : ℕ) (rs ss us vs : List RecordNow) → EachGoesOn now rs ss → EachGoesOn now us vs → EachGoesOn now (rs ++ us) (ss ++ vs)
each_append now [] [] us vs f g = g
each_append now (r ∷ rs) (s ∷ ss) us vs f g = (f.0, each_append now rs ss us vs f.1 g)
each_append now [] (s ∷ ss) us vs f g = absurd f
each_append now (r ∷ rs) [] us vs f g = absurd f

missed_append : (rs us : List RecordNow) → missed_by (rs ++ us) ≡ missed_by rs + missed_by us
missed_append [] us = none (missed_by us)
  where
    none : (n : ℕ) → n ≡ 0 + n
    none n = omega arith
missed_append (r ∷ rs) us = more r.missed (missed_by (rs ++ us)) (missed_by rs) (missed_by us) (missed_append rs us)
  where
    more : (a x b c : ℕ) → x ≡ b + c → a + x ≡ (a + b) + c
    more a x b c e = omega (arith, e)

-- some, and then others
pub all_append : (now : ℕ) (p q t : SeenPort) (rs ss us vs : List RecordNow) → AllGo now p q rs ss → AllGo now q t us vs → AllGo now p t (rs ++ us) (ss ++ vs)
all_append now p q t rs ss us vs f g = record {
  each = each_append now rs ss us vs f.each g.each;
  at = g.at ∙ f.at;
  once = λ h. g.once (f.once h);
  missed = subst (λ n. CountsOn p.missed n t.missed (missed_by (ss ++ vs))) (sym (missed_append rs us))
      (subst (λ n. CountsOn p.missed (missed_by rs + missed_by us) t.missed n) (sym (missed_append ss vs))
      (counts_then p.missed q.missed t.missed (missed_by rs) (missed_by ss) (missed_by us) (missed_by vs) f.missed g.missed));
}

-- ---- what follows

pub sides_still : (now : ℕ) (rs ss : List RecordNow) → EachGoesOn now rs ss → map side_made ss ≡ map side_made rs
sides_still now [] [] e = refl
sides_still now (r ∷ rs) (s ∷ ss) e = ap (λ x. x ∷ map side_made ss) e.0.made ∙ ap (λ l. side_made r ∷ l) (sides_still now rs ss e.1)
sides_still now [] (s ∷ ss) e = absurd e
sides_still now (r ∷ rs) [] e = absurd e

last_given : (now : ℕ) (may_give : ℕ → Type 0) (r s : RecordNow) → may_give now → LastGoes now r s → LastIsGiven may_give r → LastIsGiven may_give s
last_given now may_give r s given (inl e) was moved = subst may_give (sym e) given
last_given now may_give r s given (inr (same, none)) was moved = subst may_give (sym same) (was (none moved))

pub lasts_given : (now : ℕ) (may_give : ℕ → Type 0) (rs ss : List RecordNow) → may_give now → EachGoesOn now rs ss →
    AllByRecursion (LastIsGiven may_give) rs → AllByRecursion (LastIsGiven may_give) ss
lasts_given now may_give [] [] given e was = tt
lasts_given now may_give (r ∷ rs) (s ∷ ss) given e was = (last_given now may_give r s given e.0.last was.0, lasts_given now may_give rs ss given e.1 was.1)
lasts_given now may_give [] (s ∷ ss) given e was = absurd e
lasts_given now may_give (r ∷ rs) [] given e was = absurd e

pub dials_in_time : (now : ℕ) (rs ss : List RecordNow) → EachGoesOn now rs ss → AllByRecursion (λ (r : RecordNow). IsWithin r.core.facts.node r.waits) rs →
    AllByRecursion (DialsInTime now) rs → AllByRecursion (DialsInTime now) ss
dials_in_time now [] [] e within was = tt
dials_in_time now (r ∷ rs) (s ∷ ss) e within was = (
  subst (λ (x : SideMade). s.waits.next_dial ≤ now + x.facts.node.most_wait) (sym e.0.made) (e.0.waits (record { within = within.0; dial = was.0 })).dial,
  dials_in_time now rs ss e.1 within.1 was.1,
)
dials_in_time now [] (s ∷ ss) e within was = absurd e
dials_in_time now (r ∷ rs) [] e within was = absurd e
