-- What is woven of two sides, without what their ends were told.
use Rattle.std.proofs.Common.{◌≡◌, ℕ, zero, suc, List, [], ◌∷◌, ◌++◌, map, Option, Some, None, slice_get, refl, sym, ap, ◌∙◌}
use Rattle.std.specs.Option.{option_map}
use Rattle.std.proofs.lemmas.List.{map-append}
use Rattle.m2_fabric.specs.End.{SeenEnd}
use Rattle.m2_weave.specs.m2_journal.declared.entry.Entry.{Entry}
use Rattle.m2_history.specs.m2_record.RecordNow.{RecordNow, ends_of}
use Rattle.m2_history.specs.m2_trail.Arrivals.{LooseNow}
use Rattle.m2_cluster.specs.m2_center.m2_turn.Halves.{AllHalves}
use Rattle.m2_cluster.specs.m2_center.Reaching.{untold, untold_loose, untold_record}
use Rattle.m2_cluster.specs.Node.{NodeNow}
use Rattle.m2_growth.specs.Halves.{all_left}
use Rattle.m2_links_go_on.specs.ClusterTold.{OneByOne, SameHalves, SameNode, SameRecord}
use Rattle.m2_links_go_on.proofs.ClusterTelling.{same_nodes}
use Rattle.m2_links_go_on.proofs.Untold.{ends_untold, left_untold, map_same, untold_halves}
use Rattle.m2_history.specs.Link.{both_of}
use Rattle.m2_history.specs.Woven as woven
use Rattle.m2_history.specs.Woven.{EndNow, bytes_at, loose_end, loose_ends, loose_strand, loose_strands, strands_of_side}
use Rattle.m2_links_go_on.specs.Sides.{woven_now}
use Rattle.m2_weave.specs.Rule.{Woven}
use Rattle.m2_weave.specs.Strands.{EndOf, StrandNow}
use Rattle.m2_links_go_on.specs.ToldSides.{SideName, OneSide, side_at, side_in, woven_of}
use Rattle.m2_links_go_on.specs.TellingLaws.{SameSide, ToldStaysWoven, WovenStays}

-- ---- two sides

-- these strands, with the bytes of these ends
abbrev weave : List StrandNow → List EndNow → Woven
weave strands ends = record {
  strands = strands;
  bytes = record { got = λ (e : EndOf). (bytes_at e.socket e.opener ends).got; put = λ (e : EndOf). (bytes_at e.socket e.opener ends).put };
}

strands_untold : (a b : List Entry) (ls : List LooseNow) → loose_strands a b (map untold_loose ls) ≡ loose_strands a b ls
strands_untold a b [] = refl
strands_untold a b (l ∷ ls) = ap (λ rest. loose_strand a b l ++ rest) (strands_untold a b ls)

loose_untold : (a b : List Entry) (ls : List LooseNow) → loose_ends a b (map untold_loose ls) ≡ loose_ends a b ls
loose_untold a b [] = refl
loose_untold a b (l ∷ ls) = ap (λ rest. loose_end a b l ++ rest) (loose_untold a b ls)

side_untold : (r : RecordNow) → map (woven.end_of r.journal) (ends_of (untold_record r)) ≡ map (woven.end_of r.journal) (ends_of r)
side_untold r = ap (map (woven.end_of r.journal)) (ends_untold r) ∙ map_same untold (woven.end_of r.journal) (λ (e : SeenEnd). refl) (ends_of r)

untold_woven : (a b : RecordNow) (ls : List LooseNow) → woven_now (both_of (untold_record a) (untold_record b) (map untold_loose ls)) ≡ woven_now (both_of a b ls)
untold_woven a b ls =
    ap (λ s. weave (sides ++ s) (woven.ends_of (both_of (untold_record a) (untold_record b) (map untold_loose ls)))) (strands_untold a.journal b.journal ls)
    ∙ ap (weave (sides ++ loose_strands a.journal b.journal ls))
    (ap (λ es. (es ++ map (woven.end_of b.journal) (ends_of (untold_record b))) ++ loose_ends a.journal b.journal (map untold_loose ls)) (side_untold a)
    ∙ ap (λ es. (map (woven.end_of a.journal) (ends_of a) ++ es) ++ loose_ends a.journal b.journal (map untold_loose ls)) (side_untold b)
    ∙ ap (λ es. (map (woven.end_of a.journal) (ends_of a) ++ map (woven.end_of b.journal) (ends_of b)) ++ es) (loose_untold a.journal b.journal ls))
  where
    sides : List StrandNow
    sides = strands_of_side a.journal a.trails ++ strands_of_side b.journal b.trails

halves_same : (g h : AllHalves) → SameHalves g h → map untold_loose (all_left h) ≡ map untold_loose (all_left g)
halves_same g h same =
    sym (left_untold h)
    ∙ ap (λ ps. all_left (record { pending = ps; loose = map untold_loose h.loose })) same.pending
    ∙ ap (λ ls. all_left (record { pending = (untold_halves g).pending; loose = ls })) same.loose
    ∙ left_untold g

pub woven_stays : WovenStays
woven_stays a b c d s t =
    sym (untold_woven c.side d.side (all_left c.halves ++ all_left d.halves))
    ∙ ap (λ (r : RecordNow). woven_now (both_of r (untold_record d.side) (map untold_loose (all_left c.halves ++ all_left d.halves)))) s.side.all
    ∙ ap (λ (r : RecordNow). woven_now (both_of (untold_record a.side) r (map untold_loose (all_left c.halves ++ all_left d.halves)))) t.side.all
    ∙ ap (λ (ls : List LooseNow). woven_now (both_of (untold_record a.side) (untold_record b.side) ls)) left
    ∙ untold_woven a.side b.side (all_left a.halves ++ all_left b.halves)
  where
    left : map untold_loose (all_left c.halves ++ all_left d.halves) ≡ map untold_loose (all_left a.halves ++ all_left b.halves)
    left =
        map-append untold_loose (all_left c.halves) (all_left d.halves)
        ∙ ap (λ ls. ls ++ map untold_loose (all_left d.halves)) (halves_same a.halves c.halves s.halves)
        ∙ ap (λ ls. map untold_loose (all_left a.halves) ++ ls) (halves_same b.halves d.halves t.halves)
        ∙ sym (map-append untold_loose (all_left a.halves) (all_left b.halves))

-- ---- a cluster

-- both are there, and so it is of them; or neither is
abbrev IfEither : {X : Type 0} → (X → X → Type 0) → Option X → Option X → Type 0
IfEither how (Some x) (Some y) = how x y
IfEither how None None = Unit {0}
IfEither how _ _ = ⊥

at_place : {X : Type 0} (how : X → X → Type 0) (xs ys : List X) → OneByOne how xs ys → (k : ℕ) → IfEither how (slice_get xs k) (slice_get ys k)
at_place how [] [] all k = tt
at_place how [] (y ∷ ys) all k = absurd all
at_place how (x ∷ xs) [] all k = absurd all
at_place how (x ∷ xs) (y ∷ ys) all zero = all.0
at_place how (x ∷ xs) (y ∷ ys) all (suc k) = at_place how xs ys all.1 k

side_same : {D : Type 0} (place : ℕ) (o p : Option (NodeNow D)) → IfEither SameNode o p → IfEither SameSide (side_in place o) (side_in place p)
side_same place None None same = tt
side_same place None (Some n) same = absurd same
side_same place (Some m) None same = absurd same
side_same place (Some m) (Some n) same = at (slice_get m.center.records place) (slice_get n.center.records place) (at_place SameRecord m.center.records n.center.records same.center.records place)
  where
    at : (q r : Option RecordNow) → IfEither SameRecord q r →
        IfEither SameSide (option_map (λ (r : RecordNow). record { side = r; halves = m.center.halves }) q) (option_map (λ (r : RecordNow). record { side = r; halves = n.center.halves }) r)
    at None None h = tt
    at None (Some s) h = absurd h
    at (Some r) None h = absurd h
    at (Some r) (Some s) h = record { side = h; halves = same.center.halves }

woven_same : (a b c d : Option OneSide) → IfEither SameSide a c → IfEither SameSide b d → woven_of c d ≡ woven_of a b
woven_same None b None d s t = refl
woven_same None b (Some c) d s t = absurd s
woven_same (Some a) b None d s t = absurd s
woven_same (Some a) None (Some c) None s t = refl
woven_same (Some a) None (Some c) (Some d) s t = absurd t
woven_same (Some a) (Some b) (Some c) None s t = absurd t
woven_same (Some a) (Some b) (Some c) (Some d) s t = ap Some (woven_stays a b c d s t)

pub told_woven : (D : Type 0) → ToldStaysWoven D
told_woven D old new e a b =
    woven_same (side_at old.nodes a) (side_at old.nodes b) (side_at new.nodes a) (side_at new.nodes b) (there a) (there b)
  where
    there : (s : SideName) → IfEither SameSide (side_at old.nodes s) (side_at new.nodes s)
    there s = side_same s.place (slice_get old.nodes s.node) (slice_get new.nodes s.node) (at_place SameNode old.nodes new.nodes (same_nodes old new e) s.node)
