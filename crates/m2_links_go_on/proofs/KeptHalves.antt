-- The halves of kept sides, and whole ones beside them, are on their sockets, and their asks were judged behind entries that are
-- there.
use Rattle.std.proofs.Common.{ℕ, zero, suc, Bool, true, false, if◌then◌else◌, List, [], ◌∷◌, ◌++◌, length, map, take, sym, subst}
use Rattle.std.specs.List.{AllByRecursion}
use Rattle.m2_fabric.specs.declared.socket.SocketId.{SocketId}
use Rattle.m2_fabric.specs.End.{SeenEnd}
use Rattle.m2_history.specs.Link.{IsKeptHalf, IsOnSocket, IsWholeHalf}
use Rattle.m2_history.specs.Woven.{as_judged, is_of_link}
use Rattle.m2_weave.specs.m2_journal.declared.entry.Entry.{Entry}
use Rattle.m2_history.specs.m2_record.TakenTrails.{IsKeptTrail}
use Rattle.m2_history.specs.m2_trail.Arrivals.{LooseNow}
use Rattle.m2_history.specs.m2_trail.Trails as trail
use Rattle.m2_history.specs.m2_trail.Trails.{TrailNow, RisesWithin}
use Rattle.m2_links_go_on.specs.TurnLaws.{KeptAreHalves}
use Rattle.m2_links_go_on.specs.Sides.{IsHalf, loose_halves}
use Rattle.m2_history.proofs.Kept.{of-runs}
use Rattle.m2_history.proofs.Linked.{of-close}
use Rattle.m2_fabric.proofs.m2_lemmas.Lists.{all_append}
use Rattle.m2_history.proofs.m2_trail.Judged.{least_first}

-- ---- halves that were taken

taken-are : (kind : ℕ) (ids : List SocketId) (ends : List SeenEnd) (journal : List Entry) (ts : List TrailNow) → AllByRecursion (IsKeptHalf ids journal) ts →
    AllByRecursion (IsKeptTrail kind ends journal) ts → AllByRecursion IsHalf ts
taken-are kind ids ends journal [] kept trails = tt
taken-are kind ids ends journal (t ∷ ts) kept trails =
    (record { entries = kept.0.entries; rising = trails.0.beside.facts.rising }, taken-are kind ids ends journal ts kept.1 trails.1)

-- ---- loose halves

rises-first : (n least : ℕ) (ns : List ℕ) (most : ℕ) → RisesWithin least ns most → RisesWithin least (take n ns) most
rises-first zero least ns most h = least_first least ns most h
rises-first (suc n) least [] most h = h
rises-first (suc n) least (m ∷ ns) most h = (h.0, rises-first n m ns most h.1)

loose-is : (a b : List Entry) (l : LooseNow) → IsWholeHalf l → IsHalf (as_judged a b l.trail)
loose-is a b l whole = record {
  entries =
      subst (AllByRecursion (IsOnSocket l.trail.socket)) (sym whole.entries)
      (all_append (IsOnSocket l.trail.socket) (map (trail.entry_of l.trail.socket) l.end.log.runs) (trail.closing l.trail.socket l.end.log.closed)
      (of-runs l.trail.socket l.end.log.runs) (of-close l.trail.socket l.end.log.closed));
  rising = rises-first _ 0 l.trail.judged_after (length l.trail.entries) whole.facts.rising;
}

loose-are : (a b : List Entry) (ls : List LooseNow) → AllByRecursion IsWholeHalf ls → AllByRecursion IsHalf (loose_halves a b ls)
loose-are a b [] whole = tt
loose-are a b (l ∷ ls) whole = at (is_of_link a b l) (loose-are a b ls whole.1)
  where
    at : (c : Bool) → AllByRecursion IsHalf (loose_halves a b ls) → AllByRecursion IsHalf ((if c then as_judged a b l.trail ∷ [] else []) ++ loose_halves a b ls)
    at true rest = (loose-is a b l whole.0, rest)
    at false rest = rest

pub kept_are_halves : KeptAreHalves
kept_are_halves x kept near far =
    all_append IsHalf (x.a.trails ++ x.b.trails) (loose_halves x.a.journal x.b.journal x.loose)
    (all_append IsHalf x.a.trails x.b.trails (taken-are _ _ x.a.ends x.a.journal x.a.trails kept.near.halves near.2.trails.each)
    (taken-are _ _ x.b.ends x.b.journal x.b.trails kept.far.halves far.2.trails.each))
    (loose-are x.a.journal x.b.journal x.loose kept.whole)
