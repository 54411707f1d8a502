-- Acts of one list and then of another are those of both; and what is known in the midst of a list.
use Rattle.std.proofs.Common.{◌≡◌, ℕ, List, [], ◌∷◌, ◌++◌, Some, Ok, Err, OnOk, refl, sym, ap, ◌∙◌, subst, append_assoc, append-nil}
use Rattle.std.proofs.lemmas.Grind.{flat_map-append}
use Rattle.m2_promise.specs.m2_script.m2_cluster.m2_center.CenterTurn.{Answer}
use Rattle.m2_run_trace.specs.Acts.{Act, CanDo, CanPlay, Does, MemoryRun, Plays, PlaysAll, StageNow, deeds_in, news_by, silent_act}
use Rattle.m2_run_trace.proofs.Deeds.{can_behind, can_first, does_both}
use Rattle.m2_scenario.specs.declared.node.Node.{Node}
use Rattle.m2_promise.specs.m2_script.Script.{Deed}
use Rattle.m2_scenario.specs.Text.{Word}

pub both_deeds : (xs ys : List Act) → deeds_in (xs ++ ys) ≡ deeds_in xs ++ deeds_in ys
both_deeds xs ys = flat_map-append (λ (a : Act). a.deeds) xs ys

module _ (nodes : List Node) where
  -- ---- two lists

  pub one_plays : (a : Act) (s u : StageNow) → Plays nodes a s u → PlaysAll nodes (a ∷ []) s u
  one_plays a s u h = record { between = u; first = h; behind = refl }

  pub plays_then : (result : Answer) (a : Act) (acts : List Act) (s t u : StageNow) → Plays nodes a s t → OnOk result (PlaysAll nodes acts t u) → OnOk result (PlaysAll nodes (a ∷ acts) s u)
  plays_then (Ok done) a acts s t u h k = record { between = t; first = h; behind = k }
  plays_then (Err e) a acts s t u h k = tt

  pub then_all : (xs ys : List Act) (s t u : StageNow) → PlaysAll nodes xs s t → PlaysAll nodes ys t u → PlaysAll nodes (xs ++ ys) s u
  then_all [] ys s t u h k = subst (λ (v : StageNow). PlaysAll nodes ys v u) h k
  then_all (x ∷ xs) ys s t u h k = record { between = h.between; first = h.first; behind = then_all xs ys h.between t u h.behind k }

  -- where acts are played their deeds are done
  pub plays_does : (acts : List Act) (s u : StageNow) → PlaysAll nodes acts s u → Does (deeds_in acts) s.run u.run
  plays_does [] s u h = ap (λ (v : StageNow). v.run) h
  plays_does (a ∷ acts) s u h = does_both a.deeds (deeds_in acts) s.run h.between.run u.run h.first.does (plays_does acts h.between u h.behind)

  -- ---- in the midst of a list

  -- some of all acts are played from the start to here, and these are left and can be played
  pub record IsAmid (all left : List Act) (start here : StageNow) : Type 0 where
    pub done : List Act
    pub splits : all ≡ done ++ left
    pub plays : PlaysAll nodes done start here
    pub can : CanPlay left here.run

  pub amid_first : (all : List Act) (start : StageNow) → CanPlay all start.run → IsAmid all all start start
  amid_first all start can = record { done = []; splits = refl; plays = refl; can = can }

  module _ (all left xs ys : List Act) (start here : StageNow) (split : left ≡ xs ++ ys) (amid : IsAmid all left start here) where
    can_both : CanDo (deeds_in xs ++ deeds_in ys) here.run
    can_both = subst (λ (ds : List Deed). CanDo ds here.run) (ap deeds_in split ∙ both_deeds xs ys) amid.can

    pub can_next : CanPlay xs here.run
    can_next = can_first (deeds_in xs) (deeds_in ys) here.run can_both

    pub amid_next : (next : StageNow) → PlaysAll nodes xs here next → IsAmid all ys start next
    amid_next next h = record {
      done = amid.done ++ xs;
      splits = amid.splits ∙ ap (λ (l : List Act). amid.done ++ l) split ∙ sym (append_assoc amid.done xs ys);
      plays = then_all amid.done xs start here next amid.plays h;
      can = can_behind (deeds_in xs) (deeds_in ys) here.run next.run (plays_does xs here next h) can_both;
    }

  pub amid_last : (all left : List Act) (start here : StageNow) → left ≡ [] → IsAmid all left start here → PlaysAll nodes all start here
  amid_last all left start here none amid =
      subst (λ (acts : List Act). PlaysAll nodes acts start here) (sym (amid.splits ∙ ap (λ (l : List Act). amid.done ++ l) none ∙ append-nil amid.done)) amid.plays

  -- ---- what is printed before deeds

  -- where deeds of a node were done, and the text of an act had been printed before them, that act was played
  pub said_before : (says : MemoryRun → Word) (deeds : List Deed) (node : ℕ) (old new : StageNow) (text : Word) → text ≡ old.text ++ says old.run →
      Plays nodes (silent_act deeds node) (record old { text = text }) new → Plays nodes (record { says = says; deeds = deeds; node = Some node }) old new
  said_before says deeds node old new text said plays = record {
    does = plays.does;
    text = plays.text ∙ ap (λ (t : Word). t ++ news_by nodes (Some node) old new.run) said ∙ append_assoc old.text (says old.run) (news_by nodes (Some node) old new.run);
    sockets = plays.sockets;
  }
