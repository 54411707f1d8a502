-- What is known in the midst of deeds that are done one after another.
use Rattle.std.proofs.Common.{◌≡◌, List, [], ◌++◌, Ok, Err, OnOk, refl, sym, ap, ◌∙◌, subst, append_assoc, append-nil}
use Rattle.m2_promise.specs.m2_script.m2_cluster.m2_center.CenterTurn.{Answer}
use Rattle.m2_dispatch.specs.Heard.{heard_by}
use Rattle.m2_run_trace.specs.Acts.{CanDo, Does, MemoryRun}
use Rattle.m2_promise.specs.m2_script.Script.{Deed, Ends}
use Rattle.m2_promise.proofs.m2_script.Deeds as deeds
use Rattle.m2_fabric.specs.declared.cut_end.CutEnd.{CutEnd}
use Rattle.m2_fabric.specs.declared.sim_end.SimEnd.{SimEnd}

-- in full where it succeeds
pub does_if : (result : Answer) (ds : List Deed) (old new : MemoryRun) → Ends (CutEnd SimEnd) heard_by result ds old new → OnOk result (Does ds old new)
does_if (Ok u) ds old new h = h
does_if (Err e) ds old new h = tt

pub does_both : (xs ys : List Deed) (s t u : MemoryRun) → Does xs s t → Does ys t u → Does (xs ++ ys) s u
does_both xs ys s t u h k = deeds.then_all (CutEnd SimEnd) heard_by (Ok tt) xs ys s t u h k

pub does_then : (result : Answer) (xs ys : List Deed) (s t u : MemoryRun) → Does xs s t → OnOk result (Does ys t u) → OnOk result (Does (xs ++ ys) s u)
does_then (Ok done) xs ys s t u h k = does_both xs ys s t u h k
does_then (Err e) xs ys s t u h k = tt

pub can_first : (xs ys : List Deed) (s : MemoryRun) → CanDo (xs ++ ys) s → CanDo xs s
can_first xs ys s can = deeds.can_first (CutEnd SimEnd) heard_by xs ys s can

pub can_behind : (xs ys : List Deed) (s t : MemoryRun) → Does xs s t → CanDo (xs ++ ys) s → CanDo ys t
can_behind xs ys s t h can = deeds.can_behind (CutEnd SimEnd) heard_by xs ys s t h can

-- some of all deeds are done from the start to here, and these are left and can be done
pub record DoesSome (all left : List Deed) (start here : MemoryRun) : Type 0 where
  pub done : List Deed
  pub splits : all ≡ done ++ left
  pub does : Does done start here
  pub can : CanDo left here

pub some_first : (all : List Deed) (start : MemoryRun) → CanDo all start → DoesSome all all start start
some_first all start can = record { done = []; splits = refl; does = refl; can = can }

module _ (all left xs ys : List Deed) (start here : MemoryRun) (split : left ≡ xs ++ ys) (amid : DoesSome all left start here) where
  can_both : CanDo (xs ++ ys) here
  can_both = subst (λ (ds : List Deed). CanDo ds here) split amid.can

  pub can_next : CanDo xs here
  can_next = can_first xs ys here can_both

  pub some_next : (next : MemoryRun) → Does xs here next → DoesSome all ys start next
  some_next next h = record {
    done = amid.done ++ xs;
    splits = amid.splits ∙ ap (λ (l : List Deed). amid.done ++ l) split ∙ sym (append_assoc amid.done xs ys);
    does = does_both amid.done xs start here next amid.does h;
    can = can_behind xs ys here next h can_both;
  }

pub some_last : (all left : List Deed) (start here : MemoryRun) → left ≡ [] → DoesSome all left start here → Does all start here
some_last all left start here none amid =
    subst (λ (ds : List Deed). Does ds start here) (sym (amid.splits ∙ ap (λ (l : List Deed). amid.done ++ l) none ∙ append-nil amid.done)) amid.does
