-- A turn, the clock, and the calls that the turn brought.
use Rattle.std.proofs.Common.{◌≡◌, ℕ, inl, inr, ◌+◌, ◌-◌, zero, suc, Bool, true, false, List, [], ◌∷◌, ◌++◌, slice_get, slice_set, Option, Some, None, IfSome, Ok, Err, is_some, refl, sym, ap, subst, ◌∙◌}
use Rattle.m2_bytes.specs.declared.memory.NoMemory as memory
use Rattle.m2_dispatch.specs.Heard.{Heard}
use Rattle.m2_cluster.specs.m2_center.CenterTurn.{Answer}
use Rattle.m2_cluster.specs.Cluster.{ClusterNow, OneDoes}
use Rattle.m2_cluster.specs.Node.{NodeNow, NodeTurns}
use Rattle.m2_script.specs.declared.calls.TurnCalls.{TurnCalls}
use Rattle.m2_script.specs.Script.{LacksMemory, RunNow, StopsTurn, TakesTurn, calls_between, fast_calls, next_moment, noted, queued_calls}
use Rattle.m2_bytes.proofs.m2_lemmas.Options.{none_of_isnt_some}

here : {X : Type 0} (xs : List X) (k : ℕ) (x y : X) → slice_get xs k ≡ Some x → slice_get (slice_set xs k y) k ≡ Some y
here [] k x y h = absurd (cc)
here (z ∷ zs) zero x y h = refl
here (z ∷ zs) (suc k) x y h = here zs k x y h

of_it : {X : Type 0} (xs : List X) (k : ℕ) (x : X) (P : X → Type 0) → slice_get xs k ≡ Some x → IfSome (slice_get xs k) P → P x
of_it {X} xs k x P there h = subst (λ (o : Option X). IfSome o P) there h

module _ {D : Type 0} (E : Type 0) (heard : D → List Heard) (was old : RunNow D) (same : was ≡ old) (a : ℕ) (new : ClusterNow D)
    (h : OneDoes a (NodeTurns E heard was.now (Ok tt)) was.cluster new) (f q g r : ℕ)
    (f_is : IfSome (slice_get was.cluster.nodes a) (λ (n : NodeNow D). f ≡ fast_calls heard n))
    (q_is : IfSome (slice_get was.cluster.nodes a) (λ (n : NodeNow D). q ≡ queued_calls heard n))
    (g_is : IfSome (slice_get new.nodes a) (λ (n : NodeNow D). g ≡ fast_calls heard n))
    (r_is : IfSome (slice_get new.nodes a) (λ (n : NodeNow D). r ≡ queued_calls heard n)) where
  there : slice_get new.nodes a ≡ Some h.behind
  there = ap (λ (c : ClusterNow D). slice_get c.nodes a) h.only ∙ here was.cluster.nodes a h.before h.behind h.was

  between : noted (record { node = a; fast = g - f; queued = r - q }) ≡ calls_between heard a h.before h.behind
  between =
      ap (λ (x : ℕ). noted (record { node = a; fast = x - f; queued = r - q })) (of_it new.nodes a h.behind (λ (n : NodeNow D). g ≡ fast_calls heard n) there g_is)
      ∙ ap (λ (x : ℕ). noted (record { node = a; fast = fast_calls heard h.behind - x; queued = r - q })) (of_it was.cluster.nodes a h.before (λ (n : NodeNow D). f ≡ fast_calls heard n) h.was f_is)
      ∙ ap (λ (x : ℕ). noted (record { node = a; fast = fast_calls heard h.behind - fast_calls heard h.before; queued = x - q }))
      (of_it new.nodes a h.behind (λ (n : NodeNow D). r ≡ queued_calls heard n) there r_is)
      ∙ ap (λ (x : ℕ). noted (record { node = a; fast = fast_calls heard h.behind - fast_calls heard h.before; queued = queued_calls heard h.behind - x }))
      (of_it was.cluster.nodes a h.before (λ (n : NodeNow D). q ≡ queued_calls heard n) h.was q_is)

  none_held : (held : Bool) → held ≡ false → IfSome (slice_get new.nodes a) (λ (n : NodeNow D). held ≡ is_some n.center.out.held) → h.behind.center.out.held ≡ None
  none_held held free is =
      none_of_isnt_some h.behind.center.out.held (sym (of_it new.nodes a h.behind (λ (n : NodeNow D). held ≡ is_some n.center.out.held) there is) ∙ free)

  pub turned : (held : Bool) → held ≡ false → IfSome (slice_get new.nodes a) (λ (n : NodeNow D). held ≡ is_some n.center.out.held) → (now : ℕ) → now ≡ next_moment was.now → (calls : List TurnCalls) → calls ≡ was.calls ++ noted (record { node = a; fast = g - f; queued = r - q }) →
      TakesTurn E heard a old (record { cluster = new; fabric = was.fabric; now = now; calls = calls })
  turned held free is now later calls more =
      subst (λ (o : RunNow D). TakesTurn E heard a o (record { cluster = new; fabric = was.fabric; now = now; calls = calls })) same (record {
        acts = h;
        fabric = refl;
        now = later;
        calls = more ∙ ap (λ (c : List TurnCalls). was.calls ++ c) between;
        none_held = none_held held free is;
      })

-- what a turn did, by what it said of memory
pub by_memory : {D : Type 0} (E : Type 0) (heard : D → List Heard) (now a : ℕ) (old new : ClusterNow D) (answer said : Answer) → answer ≡ said → OneDoes a (NodeTurns E heard now said) old new →
    OneDoes a (NodeTurns E heard now answer) old new
by_memory E heard now a old new answer said is h = subst (λ (o : Answer). OneDoes a (NodeTurns E heard now o) old new) (sym is) h

-- The node found no memory: its turn stopped, or a letter is held behind it.
module _ {D : Type 0} (E : Type 0) (heard : D → List Heard) (was old : RunNow D) (same : was ≡ old) (a : ℕ) (new : ClusterNow D)
    (calls : List TurnCalls) (kept : calls ≡ was.calls) (e : memory.NoMemory) where
  lacks : OneDoes a (LacksMemory E heard was.now e) was.cluster new → StopsTurn E heard e a old (record was { cluster = new; calls = calls })
  lacks h =
      subst (λ (o : RunNow D). StopsTurn E heard e a o (record was { cluster = new; calls = calls })) same
      (record { acts = h; only = ap (λ (c : List TurnCalls). record was { cluster = new; calls = c }) kept })

  pub stopped : OneDoes a (NodeTurns E heard was.now (Err e)) was.cluster new → StopsTurn E heard e a old (record was { cluster = new; calls = calls })
  stopped h = lacks (record { before = h.before; behind = h.behind; was = h.was; does = inl h.does; only = h.only })

  pub held_one : (h : OneDoes a (NodeTurns E heard was.now (Ok tt)) was.cluster new) (held : Bool) → held ≡ true →
      IfSome (slice_get new.nodes a) (λ (n : NodeNow D). held ≡ is_some n.center.out.held) → StopsTurn E heard e a old (record was { cluster = new; calls = calls })
  held_one h held so is =
      lacks (record {
        before = h.before;
        behind = h.behind;
        was = h.was;
        does = inr (
          h.does,
          sym (of_it new.nodes a h.behind (λ (n : NodeNow D). held ≡ is_some n.center.out.held)
              (ap (λ (c : ClusterNow D). slice_get c.nodes a) h.only ∙ here was.cluster.nodes a h.before h.behind h.was) is) ∙ so,
        );
        only = h.only;
      })
