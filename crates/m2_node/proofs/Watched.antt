-- Steps of a thread, of which there are as many as it was told to go on.
use Rattle.std.proofs.Common.{◌≡◌, ◌≢◌, ◌⊎◌, inl, inr, ◌∙◌, ℕ, zero, suc, ◌<◌, Bool, true, false, List, [], ◌∷◌, ◌++◌, append_assoc, length, map, get_or, ap, arith, refl, subst, sym}
use Rattle.std.specs.Bool.{OnFalse, OnTrue}
use Rattle.std.specs.Prelude.{slice_get, IfSome}
use Rattle.m2_dispatch.specs.Heard.{Heard, heard_by}
use Rattle.m2_bytes.proofs.m2_lemmas.Lists.{all_append}
use Rattle.m2_dispatch.specs.Parcel.{AllOwned, IsOwned, heard_for_all}
use Rattle.m2_dispatch.specs.declared.logged.Logged.{Logged}
use Rattle.m2_dispatch.specs.declared.parcel.Parcel.{Parcel}
use Rattle.m2_dispatch.specs.m2_shared.Gates.{AreShared, Places, places}
use Rattle.m2_dispatch.specs.m2_shared.declared.ids.Ids.{Ids}
use Rattle.m2_dispatch.specs.m2_shared.Numbers.{SeenNumbers}
use Rattle.m2_dispatch.specs.m2_shared.declared.throttles.Throttles.{Throttles}
use Rattle.m2_edge.specs.Clock.{IsNextMoment}
use Rattle.m2_links_go_on.specs.ClusterTold.{OneByOne}
use Rattle.m2_mailbox.specs.Passes.{IsPutPassOf, WasFull, parts_of, puts_of}
use Rattle.m2_mailbox.specs.declared.passes.PutPass.{PutPass}
use Rattle.m2_script.specs.m2_center.m2_turn.HandingOn.{HandsOn}
use Rattle.m2_node.specs.Dispatching.{IsServing, LooksIntoAll, Mail, Serves, ServesOnce, ServingNow}
use Rattle.m2_node.specs.Handing.{HasFilled, IsSending, RunsSender, SenderNow, SendsOnce, worker_of}
use Rattle.m2_node.specs.Lists.{SideBySide}
use Rattle.m2_node.specs.Watching.{RunsSo, Steps, WatchNow, told}
use Rattle.m2_node.specs.Way.{PollsSo, StepsSo}
use Rattle.m2_node.specs.WayLaws.{PollsGoOn, StepsGoOn}
use Rattle.m2_node.specs.Working.{AllWork, Runs, Stops, TurnsOnce, WaitsOnce, WorkerNow, Works}
use Rattle.m2_node.proofs.Dispatched.{heard_for_both}
use Rattle.m2_node.proofs.SendersWork.{one_map}
use Rattle.m2_node.proofs.Way.{works_all}

-- ---- a worker

same_but : (old new : WorkerNow) (w : WatchNow) → new.numbers ≡ old.numbers → new.throttles ≡ old.throttles → new.started ≡ old.started → new.watch ≡ w →
    new ≡ record old { center = new.center; moment = new.moment; watch = w }
same_but old new w numbers throttles started watch =
    ap {A = SeenNumbers} (λ n. record new { numbers = n }) numbers
    ∙ ap {A = Throttles} (λ t. record new { numbers = old.numbers; throttles = t }) throttles
    ∙ ap {A = Bool} (λ b. record new { numbers = old.numbers; throttles = old.throttles; started = b }) started
    ∙ ap {A = WatchNow} (λ v. record old { center = new.center; moment = new.moment; watch = v }) watch

-- it was told to go on, and then took a turn
pub turned : (E : Type 0) (may_give : ℕ → Type 0) (old mid new : WorkerNow) (now : ℕ) → mid ≡ record old { watch = told true old.watch } → IsNextMoment may_give old.moment now →
    new.moment ≡ now → new.started ≡ mid.started → new.numbers ≡ mid.numbers → new.throttles ≡ mid.throttles → new.watch ≡ mid.watch →
    StepsSo E now mid.numbers mid.throttles mid.center new.center → TurnsOnce E may_give old new
turned E may_give old mid new now asked next moment started numbers throttles watch steps = record {
  moment = subst (IsNextMoment may_give old.moment) (sym moment) next;
  steps = subst (λ (m : ℕ). StepsSo E m old.numbers old.throttles old.center new.center) (sym moment)
      (subst (λ (w : WorkerNow). StepsSo E now w.numbers w.throttles w.center new.center) asked steps);
  same = same_but old new (told true old.watch) (numbers ∙ ap (λ (w : WorkerNow). w.numbers) asked) (throttles ∙ ap (λ (w : WorkerNow). w.throttles) asked)
      (started ∙ ap (λ (w : WorkerNow). w.started) asked) (watch ∙ ap (λ (w : WorkerNow). w.watch) asked);
}

-- or its thread waited
pub waited : (old mid new : WorkerNow) → mid ≡ record old { watch = told true old.watch } → new ≡ record mid { center = new.center } → PollsSo mid.center new.center → WaitsOnce old new
waited old mid new asked same polls = record {
  polls = subst (λ (w : WorkerNow). PollsSo w.center new.center) asked polls;
  same = same ∙ ap {A = WorkerNow} (λ w. record w { center = new.center }) asked;
}

-- either way it shares what it did
pub kept_throttles : (E : Type 0) (may_give : ℕ → Type 0) (b : Bool) (old new : WorkerNow) → OnTrue b (TurnsOnce E may_give old new) → OnFalse b (Stops old new) → new.throttles ≡ old.throttles
kept_throttles E may_give true old new turns stops = ap (λ (w : WorkerNow). w.throttles) turns.same
kept_throttles E may_give false old new turns stops = ap (λ (w : WorkerNow). w.throttles) stops

-- and so it does where it waits
pub kept_waiting : (b : Bool) (old new : WorkerNow) → OnTrue b (WaitsOnce old new) → OnFalse b (Stops old new) → new.throttles ≡ old.throttles
kept_waiting true old new waits stops = ap (λ (w : WorkerNow). w.throttles) waits.same
kept_waiting false old new waits stops = ap (λ (w : WorkerNow). w.throttles) stops

-- what waits behind a turn was granted by the same throttles as what waited before
pub owned_behind : (t u : Throttles) (old new : List Logged) (into behind : List Parcel) → u ≡ t → HandsOn heard_by (places t) old new into behind → AllOwned (places t) into → AllOwned (places u) behind
owned_behind t u old new into behind same on owned =
    subst (λ (v : Throttles). AllOwned (places v) behind) (sym same)
    (subst (AllOwned (places t)) (sym on.last) (all_append (IsOwned (places t)) into on.more owned on.owned))

-- ---- a worker with its mail

-- what it hands on in a turn waits for the mail
pub sends_on : (mail : Mail) (at : Places) (old new : SenderNow) → new.put ≡ old.put → new.worker.throttles ≡ old.worker.throttles →
    HandsOn heard_by at old.worker.center.queued.inner new.worker.center.queued.inner old.waiting new.waiting → IsSending mail old → IsSending mail new
sends_on mail at old new put throttles on s = record {
  owner = s.owner ∙ sym throttles;
  shared = subst AreShared (sym throttles) s.shared;
  ours = subst (λ (p : PutPass Parcel Ids). IsPutPassOf mail p) (sym put) s.ours;
  whole = ap (λ (p : PutPass Parcel Ids). parts_of p) put ∙ s.whole;
  room = s.room;
  own = s.own;
  puts = ap (λ (p : PutPass Parcel Ids). puts_of p) put ∙ s.puts;
  handed =
      on.heard_more
      ∙ ap (λ (hs : List Heard). hs ++ heard_for_all on.more) s.handed
      ∙ sym (heard_for_both (s.own ++ old.waiting) on.more)
      ∙ ap heard_for_all (append_assoc s.own old.waiting on.more ∙ ap (λ (ps : List Parcel). s.own ++ ps) (sym on.last));
}

filled : (mail : Mail) (s : SenderNow) → IsSending mail s → WasFull mail s.put → HasFilled s.put
filled mail s sends full =
    let f = full sends.whole in
    record { gone = f.0; held = f.1; full = f.2 ∙ sends.room; whole = f.3 }

-- it puts what waits, and then takes a turn, or waits since the mail was full
pub sent : (E : Type 0) (may_give : ℕ → Type 0) (mail : Mail) (old mid new : SenderNow) → mid.worker ≡ old.worker → IsSending mail mid → (mid.waiting ≡ []) ⊎ WasFull mail mid.put →
    new.put ≡ mid.put → ((mid.waiting ≡ []) × TurnsOnce E may_give mid.worker new.worker) ⊎ ((mid.waiting ≢ []) × WaitsOnce mid.worker new.worker) → SendsOnce E may_give old new
sent E may_give mail old mid new worker sends full put goes = elim goes [
  | inl turns ↦ inl (subst (λ (w : WorkerNow). TurnsOnce E may_give w new.worker) worker turns.1)
  | inr waits ↦ inr (
    subst HasFilled (sym put) (filled mail mid sends (elim full [
      | inl none ↦ absurd (waits.0 none)
      | inr was ↦ was
    ])),
    subst (λ (w : WorkerNow). WaitsOnce w new.worker) worker waits.1,
  )
]

pub still_started : (E : Type 0) (may_give : ℕ → Type 0) (old new : SenderNow) → SendsOnce E may_give old new → new.worker.started ≡ old.worker.started
still_started E may_give old new step = elim step [
  | inl turns ↦ ap (λ (w : WorkerNow). w.started) turns.same
  | inr waits ↦ ap (λ (w : WorkerNow). w.started) waits.1.same
]

-- each does where each has its mail
pub each_sent : (how : SenderNow → SenderNow → Type 0) (mails : List Mail) (old new : List SenderNow) → length new ≡ length old → SideBySide IsSending mails old →
    ((i : ℕ) (d : SenderNow) → i < length old → IfSome (slice_get mails i) (λ (_ : Mail). how (get_or old i d) (get_or new i d))) → OneByOne how old new
each_sent how [] [] [] e all each = tt
each_sent how [] [] (t ∷ new) e all each = absurd (omega (arith, e))
each_sent how [] (s ∷ old) new e all each = absurd all
each_sent how (m ∷ mails) [] new e all each = absurd all
each_sent how (m ∷ mails) (s ∷ old) [] e all each = absurd (omega (arith, e))
each_sent how (m ∷ mails) (s ∷ old) (t ∷ new) e all each = (each 0 t (omega arith), each_sent how mails old new (omega (arith, e)) all.1 (λ i d less. each (suc i) d (omega (arith, less))))

-- ---- threads

module _ {X Y : Type 0} (f : X → Y) (step stop : X → X → Type 0) (step_so stop_so : Y → Y → Type 0) (steps_too : (x y : X) → step x y → step_so (f x) (f y))
    (stops_too : (x y : X) → stop x y → stop_so (f x) (f y)) where
  steps_map : (count : ℕ) (x y : X) → Steps step count x y → Steps step_so count (f x) (f y)
  steps_map zero x y same = ap f same
  steps_map (suc n) x y s = (f s.0, steps_map n x s.0 s.1, steps_too s.0 y s.2)

  -- what is so of steps is so of what stands for what they change
  runs_map : (b : Bool) (x y : X) → RunsSo step stop b x y → RunsSo step_so stop_so b (f x) (f y)
  runs_map b x y r = record {
    on = λ is. (let u = r.on is in record { count = u.count; last = f u.last; steps = steps_map u.count x u.last u.steps; stopped = stops_too u.last y u.stopped });
    off = λ is. ap f (r.off is);
  }

-- the worker of a sender has done as many
pub worker_runs : (E : Type 0) (may_give : ℕ → Type 0) (s t : SenderNow) → RunsSender E may_give s t → Runs E may_give s.worker t.worker
worker_runs E may_give s t r =
    runs_map (λ (u : SenderNow). u.worker) (SendsOnce E may_give) (λ (u v : SenderNow). Stops u.worker v.worker) (λ (v w : WorkerNow). TurnsOnce E may_give v w ⊎ WaitsOnce v w) Stops
    (λ u v step. elim step [
      | inl turns ↦ inl turns
      | inr waits ↦ inr waits.1
    ]) (λ u v stops. stops) s.worker.started s t r

-- a relation that goes on to another one
pub one_so : {X : Type 0} (how so : X → X → Type 0) (xs ys : List X) → ((x y : X) → how x y → so x y) → OneByOne how xs ys → OneByOne so xs ys
one_so how so [] [] goes all = tt
one_so how so [] (y ∷ ys) goes all = absurd all
one_so how so (x ∷ xs) [] goes all = absurd all
one_so how so (x ∷ xs) (y ∷ ys) goes all = (goes x y all.0, one_so how so xs ys goes all.1)

-- so have all workers
pub workers_run : (E : Type 0) (may_give : ℕ → Type 0) (ws : List WorkerNow) (old new : List SenderNow) → map worker_of old ≡ ws → OneByOne (RunsSender E may_give) old new →
    OneByOne (Runs E may_give) ws (map worker_of new)
workers_run E may_give ws old new are runs =
    subst (λ (vs : List WorkerNow). OneByOne (Runs E may_give) vs (map worker_of new)) are
    (one_map worker_of (Runs E may_give) old new (one_so (RunsSender E may_give) (λ (s t : SenderNow). Runs E may_give s.worker t.worker) old new (worker_runs E may_give) runs))

pub all_work : (E C : Type 0) (may_give : C → ℕ → Type 0) → StepsGoOn E C may_give → PollsGoOn C may_give → (clock : C) (old new : List WorkerNow) → OneByOne (Runs E (may_give clock)) old new →
    AllWork (may_give clock) old new
all_work E C may_give steps polls clock old new runs = one_so (Runs E (may_give clock)) (Works (may_give clock)) old new (works_all E C may_give steps polls clock) runs

-- ---- a dispatcher's thread

-- it serves as it did when it was told something
pub serves_asked : (mails : List Mail) (old mid : ServingNow) (w : WatchNow) → mid ≡ record old { watch = w } → IsServing mails old → IsServing mails mid
serves_asked mails old mid w asked serves = subst (IsServing mails) (sym asked) (record { ours = serves.ours; merged = serves.merged })

pub same_asked : (old mid : ServingNow) (w : WatchNow) → mid ≡ record old { watch = w } → Serves old mid
same_asked old mid w asked = subst (Serves old) (sym asked) (record { throttles = refl; count = refl; first = refl; started = refl })

-- it was told to go on, and then looked into each mail of its node
pub looked_once : (mails : List Mail) (old mid new : ServingNow) → mid ≡ record old { watch = told true old.watch } → new.watch ≡ mid.watch → (any : Bool) × LooksIntoAll mails any mid new →
    ServesOnce mails old new
looked_once mails old mid new asked kept looks =
    let l : LooksIntoAll mails looks.0 (record old { watch = told true old.watch }) new = subst (λ (s : ServingNow). LooksIntoAll mails looks.0 s new) asked looks.1 in
    record { goes = kept ∙ ap (λ (s : ServingNow). s.watch) asked; any = looks.0; looks = record { each = l.each; some = l.some; others = l.others } }
