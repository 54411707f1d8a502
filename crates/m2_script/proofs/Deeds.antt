-- Deeds of one list and then of another are those of both; and what is known in the midst of a list.
use Rattle.std.proofs.Common.{◌≡◌, inl, inr, List, [], ◌∷◌, ◌++◌, Ok, Err, refl, sym, subst}
use Rattle.m2_bytes.specs.declared.memory.NoMemory as memory
use Rattle.m2_dispatch.specs.Heard.{Heard}
use Rattle.m2_cluster.specs.m2_center.CenterTurn.{Answer}
use Rattle.m2_script.specs.Script.{CanAllBeDone, Deed, Ends, Happens, RunNow}

module _ {D : Type 0} (E : Type 0) (heard : D → List Heard) where
  -- ---- one deed

  pub one_ends : (r : Answer) (d : Deed) (s u : RunNow D) → Happens E heard r d s u → Ends E heard r (d ∷ []) s u
  one_ends (Ok done) d s u h = record { between = u; first = h; behind = refl }
  one_ends (Err e) d s u h = inl h

  pub then_one : (r : Answer) (d : Deed) (ds : List Deed) (s t u : RunNow D) → Happens E heard (Ok tt) d s t → Ends E heard r ds t u → Ends E heard r (d ∷ ds) s u
  then_one (Ok done) d ds s t u h k = record { between = t; first = h; behind = k }
  then_one (Err e) d ds s t u h k = inr (record { between = t; first = h; behind = k })

  -- ---- two lists

  pub then_all : (r : Answer) (xs ys : List Deed) (s t u : RunNow D) → Ends E heard (Ok tt) xs s t → Ends E heard r ys t u → Ends E heard r (xs ++ ys) s u
  then_all r [] ys s t u h k = subst (λ (v : RunNow D). Ends E heard r ys v u) h k
  then_all (Ok done) (x ∷ xs) ys s t u h k = record { between = h.between; first = h.first; behind = then_all (Ok tt) xs ys h.between t u h.behind k }
  then_all (Err e) (x ∷ xs) ys s t u h k = inr (record { between = h.between; first = h.first; behind = then_all (Err e) xs ys h.between t u h.behind k })

  pub stops_in : (e : memory.NoMemory) (xs ys : List Deed) (s u : RunNow D) → Ends E heard (Err e) xs s u → Ends E heard (Err e) (xs ++ ys) s u
  stops_in e [] ys s u h = absurd h
  stops_in e (x ∷ xs) ys s u h =
      elim h [
        | inl stop ↦ inl stop
        | inr more ↦ inr (record { between = more.between; first = more.first; behind = stops_in e xs ys more.between u more.behind })
      ]

  pub can_first : (xs ys : List Deed) (s : RunNow D) → CanAllBeDone E heard (xs ++ ys) s → CanAllBeDone E heard xs s
  can_first [] ys s can = tt
  can_first (x ∷ xs) ys s can = (can.0, λ t done. can_first xs ys t (can.1 t done))

  pub can_behind : (xs ys : List Deed) (s t : RunNow D) → Ends E heard (Ok tt) xs s t → CanAllBeDone E heard (xs ++ ys) s → CanAllBeDone E heard ys t
  can_behind [] ys s t h can = subst (λ (v : RunNow D). CanAllBeDone E heard ys v) (sym h) can
  can_behind (x ∷ xs) ys s t h can = can_behind xs ys h.between t h.behind (can.1 h.between h.first)

  -- ---- in the midst of a list

  -- The deeds that are left can be done from here, and lead to where all of them lead from the start.
  pub record IsAmid (left all : List Deed) (start here : RunNow D) : Type 0 where
    pub can : CanAllBeDone E heard left here
    pub leads : (r : Answer) (u : RunNow D) → Ends E heard r left here u → Ends E heard r all start u

  pub amid_first : (all : List Deed) (start : RunNow D) → CanAllBeDone E heard all start → IsAmid all all start start
  amid_first all start can = record { can = can; leads = λ r u h. h }

  module _ (left xs ys all : List Deed) (split : left ≡ xs ++ ys) (start here next : RunNow D) (amid : IsAmid left all start here) where
    can_now : CanAllBeDone E heard (xs ++ ys) here
    can_now = subst (λ (ds : List Deed). CanAllBeDone E heard ds here) split amid.can

    leads_now : (r : Answer) (u : RunNow D) → Ends E heard r (xs ++ ys) here u → Ends E heard r all start u
    leads_now r u = subst (λ (ds : List Deed). Ends E heard r ds here u → Ends E heard r all start u) split (amid.leads r u)

    pub can_next : CanAllBeDone E heard xs here
    can_next = can_first xs ys here can_now

    pub amid_next : Ends E heard (Ok tt) xs here next → IsAmid ys all start next
    amid_next h = record {
      can = can_behind xs ys here next h can_now;
      leads = λ r u k. leads_now r u (then_all r xs ys here next u h k);
    }

    pub amid_stops : (e : memory.NoMemory) → Ends E heard (Err e) xs here next → Ends E heard (Err e) all start next
    amid_stops e h = leads_now (Err e) next (stops_in e xs ys here next h)

  pub amid_last : (left all : List Deed) (start here : RunNow D) → left ≡ [] → IsAmid left all start here → Ends E heard (Ok tt) all start here
  amid_last left all start here none amid =
      subst (λ (ds : List Deed). Ends E heard (Ok tt) ds here here → Ends E heard (Ok tt) all start here) none (amid.leads (Ok tt) here) refl
