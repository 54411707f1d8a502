-- Centers go on: in a turn, where they wait, where time passes, and in one of these after another.
use Rattle.std.proofs.Common.{◌≡◌, ◌⊎◌, inl, inr, ℕ, zero, suc, ◌≤◌, max, Bool, true, false, List, refl, sym, ap, subst, ◌∙◌, le_refl, le_trans, arith}
use Rattle.m2_script.specs.m2_center.Center.{CenterNow}
use Rattle.m2_script.specs.m2_center.CenterTurn.{means_at}
use Rattle.m2_links_go_on.specs.CourseLaws.{PollsStayOnCourse, TurnsStayOnCourse, WaitingStaysOnCourse}
use Rattle.m2_links_go_on.specs.Made.{NodeMade}
use Rattle.m2_dispatch.specs.Heard.{heard_by}
use Rattle.m2_dispatch.specs.declared.logged.Logged.{Logged}
use Rattle.m2_edge.specs.Clock.{IsNextMoment}
use Rattle.m2_fabric.proofs.m2_lemmas.Booleans.{from_true_false}
use Rattle.m2_links_go_on.specs.ClusterLaws.{TurnGrows}
use Rattle.m2_links_go_on.specs.LeftLaws.{ComingStays}
use Rattle.m2_links_go_on.specs.LogLaws.{TurnsStayLogged, holding_in}
use Rattle.m2_links_go_on.specs.PeerLaws.{TurnsStayOfPeers}
use Rattle.m2_node.specs.Watching.{Steps}
use Rattle.m2_node.specs.Way.{GoesOn, IsUnderWay}
use Rattle.m2_node.specs.WayLaws.{PollsGoOn, StepsGoOn, TurnsGoOn, WaitingGoesOn}
use Rattle.m2_node.specs.Working.{Runs, Stops, TurnsOnce, WaitsOnce, WorkerNow, Works}

-- ---- a center

-- where nothing happens
pub goes_not : (may_give : ℕ → Type 0) (moment : ℕ) (started : Bool) (c : CenterNow (List Logged)) → GoesOn may_give moment moment started c c
goes_not may_give moment started c = record { way = λ made w. w; off = λ h. refl }

-- one after another
pub goes_then : (may_give : ℕ → Type 0) (a b c : ℕ) (started : Bool) (x y z : CenterNow (List Logged)) → GoesOn may_give a b started x y → GoesOn may_give b c started y z →
    GoesOn may_give a c started x z
goes_then may_give a b c started x y z g h = record {
  way = λ made w. h.way made (g.way made w);
  off = λ off. h.off off ∙ g.off off;
}

pub turns_go_on : (E C : Type 0) (may_give : C → ℕ → Type 0) → TurnsStayOnCourse (List Logged) E C may_give → TurnGrows (List Logged) E → ComingStays →
    TurnsStayLogged (List Logged) E → TurnsStayOfPeers (List Logged) E → TurnsGoOn E C may_give
turns_go_on E C may_give on_course grows coming logged of_peers clock from now numbers throttles old new t given later =
    let m = means_at now numbers throttles in
    let turn = t.turns in
    record {
      way = λ (made : NodeMade) (w : IsUnderWay (may_give clock) from made old). record {
        course = on_course heard_by m t.answer old new turn clock from made given later t.before w.course;
        came = coming (holding_in old) (holding_in new) (grows heard_by m t.answer old new turn w.course.own) w.came;
        logged = logged heard_by m t.answer old new turn w.course.own t.before t.behind w.logged;
        peers = of_peers heard_by m t.answer old new turn w.peers;
      };
      off = λ h. from_true_false h;
    }

pub polls_go_on : (C : Type 0) (may_give : C → ℕ → Type 0) → PollsStayOnCourse (List Logged) C may_give → PollsGoOn C may_give
polls_go_on C may_give on_course clock moment old new polls =
    let faults = new.port.faults in
    record {
      way = λ (made : NodeMade) (w : IsUnderWay (may_give clock) moment made old).
          subst (λ (c : CenterNow (List Logged)). IsUnderWay (may_give clock) moment made c) (sym polls) (record {
            course = on_course clock moment faults made old w.course;
            came = w.came;
            logged = w.logged;
            peers = w.peers;
          });
      off = λ h. from_true_false h;
    }

pub waiting_goes_on : (C : Type 0) (may_give : C → ℕ → Type 0) → WaitingStaysOnCourse (List Logged) C may_give → WaitingGoesOn C may_give
waiting_goes_on C may_give on_course clock from now started c given later = record {
  way = λ (made : NodeMade) (w : IsUnderWay (may_give clock) from made c). record {
    course = on_course clock from now made c given later w.course;
    came = w.came;
    logged = w.logged;
    peers = w.peers;
  };
  off = λ h. refl;
}

pub steps_go_on : (E C : Type 0) (may_give : C → ℕ → Type 0) → TurnsGoOn E C may_give → PollsGoOn C may_give → StepsGoOn E C may_give
steps_go_on E C may_give turns polls clock from now numbers throttles old new s given later =
    let turned = turns clock from now numbers throttles old s.mid s.turns given later in
    elim s.waits [
      | inl same ↦ subst (λ (c : CenterNow (List Logged)). GoesOn (may_give clock) from now true old c) (sym same) turned
      | inr polled ↦ goes_then (may_give clock) from now now true old s.mid new turned (polls clock now s.mid new polled)
    ]

-- ---- a worker

pub works_not : (may_give : ℕ → Type 0) (w : WorkerNow) → Works may_give w w
works_not may_give w = record {
  numbers = refl;
  throttles = refl;
  started = refl;
  later = le_refl w.moment;
  given = λ g. g;
  goes = λ g. goes_not may_give w.moment w.started w.center;
}

pub works_then : (may_give : ℕ → Type 0) (a b c : WorkerNow) → Works may_give a b → Works may_give b c → Works may_give a c
works_then may_give a b c f g = record {
  numbers = g.numbers ∙ f.numbers;
  throttles = g.throttles ∙ f.throttles;
  started = g.started ∙ f.started;
  later = le_trans f.later g.later;
  given = λ given. g.given (f.given given);
  goes = λ given.
      goes_then may_give a.moment b.moment c.moment a.started a.center b.center c.center (f.goes given)
      (subst (λ (s : Bool). GoesOn may_give b.moment c.moment s b.center c.center) f.started (g.goes (f.given given)));
}

-- ---- the greater of two

pub either : (a b : ℕ) → (max a b ≡ a) ⊎ (max a b ≡ b)
either a b = grind arith

pub first_below : (a b : ℕ) → a ≤ max a b
first_below a b = grind arith

next_later : (may_give : ℕ → Type 0) (earlier moment : ℕ) → IsNextMoment may_give earlier moment → earlier ≤ moment
next_later may_give earlier moment next = subst (λ (m : ℕ). earlier ≤ m) (sym next.2) (first_below earlier next.0)

next_given : (may_give : ℕ → Type 0) (earlier moment : ℕ) → IsNextMoment may_give earlier moment → may_give earlier → may_give moment
next_given may_give earlier moment next given = subst may_give (sym next.2) (elim (either earlier next.0) [
  | inl same ↦ subst may_give (sym same) given
  | inr same ↦ subst may_give (sym same) next.1
])

-- ---- a worker, step by step

-- one that is on takes a turn, behind which its thread may wait
works_turning : (E C : Type 0) (may_give : C → ℕ → Type 0) → StepsGoOn E C may_give → (clock : C) (old new : WorkerNow) → old.started ≡ true → TurnsOnce E (may_give clock) old new →
    Works (may_give clock) old new
works_turning E C may_give steps clock old new on t =
    let later = next_later (may_give clock) old.moment new.moment t.moment in
    let given = next_given (may_give clock) old.moment new.moment t.moment in
    record {
      numbers = ap (λ (w : WorkerNow). w.numbers) t.same;
      throttles = ap (λ (w : WorkerNow). w.throttles) t.same;
      started = ap (λ (w : WorkerNow). w.started) t.same;
      later = later;
      given = given;
      goes = λ g.
          subst (λ (b : Bool). GoesOn (may_give clock) old.moment new.moment b old.center new.center) (sym on)
          (steps clock old.moment new.moment old.numbers old.throttles old.center new.center t.steps (given g) later);
    }

-- or its thread waits
works_waiting : (C : Type 0) (may_give : C → ℕ → Type 0) → PollsGoOn C may_give → (clock : C) (old new : WorkerNow) → old.started ≡ true → WaitsOnce old new → Works (may_give clock) old new
works_waiting C may_give polls clock old new on w =
    let moment : new.moment ≡ old.moment = ap (λ (v : WorkerNow). v.moment) w.same in
    record {
      numbers = ap (λ (v : WorkerNow). v.numbers) w.same;
      throttles = ap (λ (v : WorkerNow). v.throttles) w.same;
      started = ap (λ (v : WorkerNow). v.started) w.same;
      later = subst (λ (m : ℕ). old.moment ≤ m) (sym moment) (le_refl old.moment);
      given = λ g. subst (may_give clock) (sym moment) g;
      goes = λ g.
          subst (λ (m : ℕ). GoesOn (may_give clock) old.moment m old.started old.center new.center) (sym moment)
          (subst (λ (b : Bool). GoesOn (may_give clock) old.moment old.moment b old.center new.center) (sym on)
          (polls clock old.moment old.center new.center w.polls));
    }

-- or is told to stop
works_stopping : (may_give : ℕ → Type 0) (old new : WorkerNow) → Stops old new → Works may_give old new
works_stopping may_give old new stops = subst (λ (w : WorkerNow). Works may_give old w) (sym stops) (record {
  numbers = refl;
  throttles = refl;
  started = refl;
  later = le_refl old.moment;
  given = λ g. g;
  goes = λ g. goes_not may_give old.moment old.started old.center;
})

module _ (E C : Type 0) (may_give : C → ℕ → Type 0) (steps : StepsGoOn E C may_give) (polls : PollsGoOn C may_give) (clock : C) where
  works_once : (old new : WorkerNow) → old.started ≡ true → TurnsOnce E (may_give clock) old new ⊎ WaitsOnce old new → Works (may_give clock) old new
  works_once old new on step = elim step [
    | inl turns ↦ works_turning E C may_give steps clock old new on turns
    | inr waits ↦ works_waiting C may_give polls clock old new on waits
  ]

  works_often : (count : ℕ) (old new : WorkerNow) → old.started ≡ true → Steps (λ (v w : WorkerNow). TurnsOnce E (may_give clock) v w ⊎ WaitsOnce v w) count old new → Works (may_give clock) old new
  works_often zero old new on same = subst (λ (w : WorkerNow). Works (may_give clock) old w) (sym same) (works_not (may_give clock) old)
  works_often (suc n) old new on s =
      let first = works_often n old s.0 on s.1 in
      works_then (may_give clock) old s.0 new first (works_once s.0 new (first.started ∙ on) s.2)

  -- and until it is told to stop
  pub works_all : (old new : WorkerNow) → Runs E (may_give clock) old new → Works (may_give clock) old new
  works_all old new r = go old.started refl
    where
      go : (b : Bool) → old.started ≡ b → Works (may_give clock) old new
      go true on =
          let u = r.on on in
          works_then (may_give clock) old u.last new (works_often u.count old u.last on u.steps) (works_stopping (may_give clock) u.last new u.stopped)
      go false off = subst (λ (w : WorkerNow). Works (may_give clock) old w) (sym (r.off off)) (works_not (may_give clock) old)
