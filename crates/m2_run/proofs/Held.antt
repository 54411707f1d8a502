-- All that the ports of a node made its ends hold: those of its records, and those of the halves that no record took.
use Rattle.std.proofs.Common.{◌≡◌, ℕ, ◌+◌, List, [], ◌∷◌, ◌++◌, map, sum_by, Option, refl, sym, ap, ◌∙◌, arith}
use Rattle.std.specs.List.{AllByRecursion, flat_map}
use Rattle.std.specs.Option.{option_to_list}
use Rattle.std.proofs.lemmas.List.{map-append}
use Rattle.std.proofs.lemmas.List.Concat.{flat_map-append}
use Rattle.std.proofs.lemmas.List.Sums.{sum_by-append, sum_by-cons}
use Rattle.m2_node.specs.m2_script.m2_center.Center.{CenterNow}
use Rattle.m2_node.specs.m2_script.m2_center.Finishing.{rest_of}
use Rattle.m2_dispatch.specs.declared.logged.Logged.{Logged}
use Rattle.m2_fabric.specs.End.{SeenEnd}
use Rattle.m2_fabric.specs.Fabric.{Gathered}
use Rattle.m2_fabric.specs.Port.{SeenPort}
use Rattle.m2_fabric.specs.declared.port.Cut.{Cut}
use Rattle.m2_fabric.specs.declared.socket.SocketId.{SocketId}
use Rattle.m2_handover.specs.Door.{weight_of}
use Rattle.m2_handover.specs.End.{told_nothing}
use Rattle.m2_trail.specs.Arrivals.{LooseNow}
use Rattle.m2_run.specs.Cuts.{AreEndsOver, bound_of}
use Rattle.m2_run.specs.Kept.{AreAllHeld, AreEndsGiven, AreOpened, IsOpenedAs, MadeIsHeld, ends_of_records}
use Rattle.m2_node.specs.Lists.{SideBySide, joined}
use Rattle.m2_node.specs.Nodes.{RunNodeNow, loose_at}
use Rattle.m2_run.specs.Opened.{AllAreThere, OpenedNow, kept_as, made_in, untold, weight_inside}
use Rattle.m2_run.specs.Rests.{EndedCenterNow, IsEndOfCenter}
use Rattle.m2_run.proofs.Weighing.{weight_of_map}

-- ---- halves that tell nothing of what will be readable are opened as they were

one_untold : (bound : SocketId → Option ℕ) (half opened : LooseNow) → IsOpenedAs bound half opened → IsOpenedAs bound half (untold opened)
one_untold bound half opened is = record {
  mid = is.mid;
  over = is.over;
  inside = record {
    id = is.inside.id;
    faults = is.inside.faults;
    whole = record { socket = is.inside.whole.socket; entries = is.inside.whole.entries; counted = is.inside.whole.counted; facts = is.inside.whole.facts };
    judged = is.inside.judged;
    again = is.inside.again;
  };
}

all_untold : (bound : SocketId → Option ℕ) (halves opened : List LooseNow) → SideBySide (IsOpenedAs bound) halves opened → SideBySide (IsOpenedAs bound) halves (map untold opened)
all_untold bound [] [] are = tt
all_untold bound [] (o ∷ os) are = elim are [ ]
all_untold bound (h ∷ hs) [] are = elim are [ ]
all_untold bound (h ∷ hs) (o ∷ os) are = (one_untold bound h o are.0, all_untold bound hs os are.1)

abbrev HalvesOf : List Cut → CenterNow (List Logged) → List LooseNow → Type 0
HalvesOf cuts c os = SideBySide (IsOpenedAs (bound_of cuts c.port.made)) (rest_of c).loose os

each_untold : (cuts : List Cut) (cs : List (CenterNow (List Logged))) (oss : List (List LooseNow)) → SideBySide (HalvesOf cuts) cs oss → SideBySide (HalvesOf cuts) cs (map (map untold) oss)
each_untold cuts [] [] are = tt
each_untold cuts [] (os ∷ oss) are = elim are [ ]
each_untold cuts (c ∷ cs) [] are = elim are [ ]
each_untold cuts (c ∷ cs) (os ∷ oss) are = (all_untold (bound_of cuts c.port.made) (rest_of c).loose os are.0, each_untold cuts cs oss are.1)

joined_untold : (oss : List (List LooseNow)) → map untold (joined oss) ≡ joined (map (map untold) oss)
joined_untold [] = refl
joined_untold (os ∷ oss) = map-append untold os (joined oss) ∙ ap (λ ls. map untold os ++ ls) (joined_untold oss)

pub opened_untold : (cuts : List Cut) (cs : List (CenterNow (List Logged))) (opened : List LooseNow) → AreOpened cuts cs opened → AreOpened cuts cs (map untold opened)
opened_untold cuts cs opened are = record {
  of_each = map (map untold) are.of_each;
  split = ap (map untold) are.split ∙ joined_untold are.of_each;
  each = each_untold cuts cs are.of_each are.each;
}

-- ---- weights

module _ (weight : SocketId → ℕ) where
  abbrev of_end : SeenEnd → ℕ
  of_end e = weight e.id

  -- ends over others weigh what those weigh
  over_weighs : (cuts : List Cut) (made : List SocketId) (xs ys : List SeenEnd) → AreEndsOver cuts made xs ys → sum_by of_end ys ≡ sum_by of_end xs
  over_weighs cuts made [] [] are = refl
  over_weighs cuts made [] (y ∷ ys) are = elim are [ ]
  over_weighs cuts made (x ∷ xs) [] are = elim are [ ]
  over_weighs cuts made (x ∷ xs) (y ∷ ys) are =
      omega (arith, sum_by-cons of_end x xs, sum_by-cons of_end y ys, ap weight are.0.id, over_weighs cuts made xs ys are.1)

  -- so do ends that tell nothing, and halves that are opened
  told_weighs : (halves : List LooseNow) (ends : List SeenEnd) → map (λ (l : LooseNow). l.end) halves ≡ map told_nothing ends → sum_by of_end ends ≡ sum_by (weight_of weight) halves
  told_weighs halves ends e =
      sym (weight_of_map told_nothing of_end ends) ∙ ap (sum_by of_end) (sym e) ∙ weight_of_map (λ (l : LooseNow). l.end) of_end halves

  opened_weigh : (bound : SocketId → Option ℕ) (halves opened : List LooseNow) → SideBySide (IsOpenedAs bound) halves opened → sum_by (weight_of weight) opened ≡ sum_by (weight_of weight) halves
  opened_weigh bound [] [] are = refl
  opened_weigh bound [] (o ∷ os) are = elim are [ ]
  opened_weigh bound (h ∷ hs) [] are = elim are [ ]
  opened_weigh bound (h ∷ hs) (o ∷ os) are =
      omega (arith, sum_by-cons (weight_of weight) h hs, sum_by-cons (weight_of weight) o os, ap weight (are.0.inside.id ∙ sym are.0.over.id), opened_weigh bound hs os are.1)

  -- of all threads
  abbrev of_records : CenterNow (List Logged) → ℕ
  of_records c = sum_by of_end (ends_of_records c)

  abbrev of_loose : CenterNow (List Logged) → ℕ
  of_loose c = sum_by (weight_of weight) (rest_of c).loose

  all_opened_weigh : (cuts : List Cut) (cs : List (CenterNow (List Logged))) (oss : List (List LooseNow)) → SideBySide (HalvesOf cuts) cs oss → sum_by (weight_of weight) (joined oss) ≡ sum_by of_loose cs
  all_opened_weigh cuts [] [] are = refl
  all_opened_weigh cuts [] (os ∷ oss) are = elim are [ ]
  all_opened_weigh cuts (c ∷ cs) [] are = elim are [ ]
  all_opened_weigh cuts (c ∷ cs) (os ∷ oss) are =
      omega (arith, sum_by-append (weight_of weight) os (joined oss), sum_by-cons of_loose c cs, opened_weigh (bound_of cuts c.port.made) (rest_of c).loose os are.0, all_opened_weigh cuts cs oss are.1)

  all_ends_weigh : (cuts : List Cut) (cs : List (CenterNow (List Logged))) (ess : List (List SeenEnd)) →
      SideBySide (λ (c : CenterNow (List Logged)) es. AreEndsOver cuts c.port.made (ends_of_records c) es) cs ess → sum_by of_end (joined ess) ≡ sum_by of_records cs
  all_ends_weigh cuts [] [] are = refl
  all_ends_weigh cuts [] (es ∷ ess) are = elim are [ ]
  all_ends_weigh cuts (c ∷ cs) [] are = elim are [ ]
  all_ends_weigh cuts (c ∷ cs) (es ∷ ess) are =
      omega (arith, sum_by-append of_end es (joined ess), sum_by-cons of_records c cs, over_weighs cuts c.port.made (ends_of_records c) es are.0, all_ends_weigh cuts cs ess are.1)

  -- what a thread's port made
  center_weighs : (c : CenterNow (List Logged)) → MadeIsHeld c → sum_by weight c.port.made ≡ of_records c + of_loose c
  center_weighs c held =
      let loose = map (λ (l : LooseNow). l.end) (rest_of c).loose in
      let all : sum_by weight (map (λ (e : SeenEnd). e.id) (ends_of_records c ++ loose)) ≡ sum_by of_end (ends_of_records c ++ loose) =
      weight_of_map (λ (e : SeenEnd). e.id) weight (ends_of_records c ++ loose) in
      let its : sum_by of_end loose ≡ of_loose c = weight_of_map (λ (l : LooseNow). l.end) of_end (rest_of c).loose in
      omega (arith, held weight, all, its, sum_by-append of_end (ends_of_records c) loose)

  made_weighs : (cs : List (CenterNow (List Logged))) (ds : List EndedCenterNow) → AllByRecursion MadeIsHeld cs → SideBySide IsEndOfCenter cs ds →
      sum_by weight (made_in ds) ≡ sum_by of_records cs + sum_by of_loose cs
  made_weighs [] [] held are = refl
  made_weighs [] (d ∷ ds) held are = elim are [ ]
  made_weighs (c ∷ cs) [] held are = elim are [ ]
  made_weighs (c ∷ cs) (d ∷ ds) held are =
      let its : sum_by weight d.made ≡ sum_by weight c.port.made = ap (sum_by weight) are.0.made in
      omega (arith, its, sum_by-append weight d.made (made_in ds), center_weighs c held.0, sum_by-cons of_records c cs, sum_by-cons of_loose c cs, made_weighs cs ds held.1 are.1)

  -- and what the fabric's ports inside made
  abbrev ports_in : List EndedCenterNow → List SeenPort
  ports_in ds = flat_map (λ (d : EndedCenterNow). option_to_list d.port) ds

  abbrev made_of : List SeenPort → List SocketId
  made_of ps = flat_map (λ (p : SeenPort). p.made) ps

  ports_weigh : (ps : List SeenPort) → sum_by weight (made_of ps) ≡ sum_by (λ (p : SeenPort). sum_by weight p.made) ps
  ports_weigh [] = refl
  ports_weigh (p ∷ ps) = omega (arith, sum_by-append weight p.made (made_of ps), sum_by-cons (λ (q : SeenPort). sum_by weight q.made) p ps, ports_weigh ps)

  inside_weighs : (ds : List EndedCenterNow) → sum_by weight (made_of (ports_in ds)) ≡ weight_inside weight ds
  inside_weighs [] = refl
  inside_weighs (d ∷ ds) =
      let its : List SeenPort = option_to_list d.port in
      let parted : sum_by weight (made_of (its ++ ports_in ds)) ≡ sum_by weight (made_of its) + sum_by weight (made_of (ports_in ds)) =
      ap (sum_by weight) (flat_map-append (λ (p : SeenPort). p.made) its (ports_in ds)) ∙ sum_by-append weight (made_of its) (made_of (ports_in ds)) in
      omega (arith, parted, ports_weigh its, sum_by-cons (λ (c : EndedCenterNow). sum_by (λ (p : SeenPort). sum_by weight p.made) (option_to_list c.port)) d ds, inside_weighs ds)

  untold_weigh : (ls : List LooseNow) → sum_by (weight_of weight) (map untold ls) ≡ sum_by (weight_of weight) ls
  untold_weigh ls = weight_of_map untold (weight_of weight) ls

  halves_weigh : (opened door way : List LooseNow) → sum_by (weight_of weight) (map untold opened ++ map untold door ++ map untold way)
      ≡ sum_by (weight_of weight) opened + (sum_by (weight_of weight) door + sum_by (weight_of weight) way)
  halves_weigh opened door way =
      omega (
        arith,
        sum_by-append (weight_of weight) (map untold opened ++ map untold door) (map untold way),
        sum_by-append (weight_of weight) (map untold opened) (map untold door),
        untold_weigh opened,
        untold_weigh door,
        untold_weigh way,
      )

-- ---- a node

balance : (ports inside made beside records loose all ends halves opened door way : ℕ) → ports ≡ inside → inside ≡ made + beside → made ≡ records + loose → all ≡ ends + halves → ends ≡ records →
    halves ≡ opened + (door + way) → opened ≡ loose → beside ≡ door + way → ports ≡ all
balance ports inside made beside records loose all ends halves opened door way a b c d e f g h = omega (arith, a, b, c, d, e, f, g, h)

-- Where each of its centers holds what its port made, and no socket was lost on its way, all that its ports made are those of the ends that it gives.
pub node_holds_all : (cuts : List Cut) (n : RunNodeNow) (o : OpenedNow) (what : Gathered) → SideBySide IsEndOfCenter n.centers o.centers → AreOpened cuts n.centers o.left.opened →
    AllByRecursion MadeIsHeld n.centers → AllAreThere o → what.ports ≡ flat_map (λ (d : EndedCenterNow). option_to_list d.port) o.centers → AreEndsGiven cuts (kept_as n o) what.ends → AreAllHeld what
node_holds_all cuts n o what are opened held there ports given weight =
    balance _ (weight_inside weight o.centers) (sum_by weight (made_in o.centers)) (sum_by (weight_of weight) (o.left.at_door ++ o.left.on_way)) (sum_by (of_records weight) n.centers)
    (sum_by (of_loose weight) n.centers) _ (sum_by (of_end weight) (joined given.of_each)) (sum_by (of_end weight) given.of_halves) (sum_by (weight_of weight) o.left.opened)
    (sum_by (weight_of weight) o.left.at_door) (sum_by (weight_of weight) o.left.on_way)
    (ap (λ ps. sum_by weight (flat_map (λ (p : SeenPort). p.made) ps)) ports ∙ inside_weighs weight o.centers) (there weight) (made_weighs weight n.centers o.centers held are)
    (ap (λ es. sum_by weight (map (λ (e : SeenEnd). e.id) es)) given.split ∙ weight_of_map (λ (e : SeenEnd). e.id) weight (joined given.of_each ++ given.of_halves)
    ∙ sum_by-append (of_end weight) (joined given.of_each) given.of_halves)
    (all_ends_weigh weight cuts n.centers given.of_each given.each)
    (told_weighs weight (loose_at (kept_as n o)) given.of_halves given.halves ∙ halves_weigh weight o.left.opened o.left.at_door o.left.on_way)
    (ap (sum_by (weight_of weight)) opened.split ∙ all_opened_weigh weight cuts n.centers opened.of_each opened.each)
    (sum_by-append (weight_of weight) o.left.at_door o.left.on_way)
