-- Links that are woven one after the other.
use Rattle.std.proofs.Common.{◌≡◌, ℕ, ◌+◌, ◌<◌, false, List, Option, drop, refl, ap, subst, ◌∙◌}
use Rattle.std.specs.Prelude.{◌==◌, if◌then◌else◌, slice_get, Some, None, Ok, Err, IfSome, IsSome}
use Rattle.std.specs.Option.{option_map}
use Rattle.std.proofs.lemmas.Bool.{false≢true, ne_eqb}
use Rattle.std.proofs.lemmas.Option.{none-some, same_Some}
use Rattle.m2_bytes.proofs.m2_lemmas.Numbers.{same_number}
use Rattle.m2_dispatch.specs.declared.logged.Logged.{Logged}
use Rattle.m2_node.specs.m2_links_go_on.m2_history.Counted.{logs_of}
use Rattle.m2_node.specs.m2_links_go_on.m2_history.Link.{WeavesRecords, both_of}
use Rattle.m2_node.specs.m2_links_go_on.m2_history.Lossy.{IsInOrderIn}
use Rattle.m2_node.specs.m2_links_go_on.m2_history.Marked.{IsToAMarkIn}
use Rattle.m2_node.specs.m2_links_go_on.m2_history.WovenLaws.{IsDeliveredIn, IsUnreset, link_of}
use Rattle.m2_node.specs.m2_links_go_on.m2_history.declared.history.History.{History}
use Rattle.m2_node.specs.m2_links_go_on.m2_history.declared.history.WeaveFault.{WeaveFault}
use Rattle.m2_node.specs.m2_links_go_on.m2_history.declared.history.WeaveFault.TheVariants as fault
use Rattle.m2_node.specs.m2_script.m2_record.RecordNow.{RecordNow}
use Rattle.m2_scenario.specs.declared.link.Link.{Link}
use Rattle.m2_trail.specs.Arrivals.{LooseNow}
use Rattle.m2_run.specs.Rests.{EndedCenterNow, EndedNow}
use Rattle.m2_run.specs.Weaving.{HasHistory, IsLinkOf, SideNow, WeavesAll, WeavesLink, first_of, side_of, side_towards, towards}
use Rattle.m2_node.proofs.Places.{drop_here}

-- the links before this one have a history
abbrev pub HaveBefore : List EndedNow → List LooseNow → List Link → ℕ → Type 0
HaveBefore all loose links k = (i : ℕ) (l : Link) → i < k → slice_get links i ≡ Some l → HasHistory all loose l

-- and this one has none
pub stops_here : (all : List EndedNow) (loose : List LooseNow) (links : List Link) (k : ℕ) (l : Link) (f : WeaveFault) → slice_get links k ≡ Some l → HaveBefore all loose links k →
    WeavesLink (Err f) all loose l → WeavesAll (Err f) all loose links
stops_here all loose links k l (fault.Unfit u) there before stops = record { place = k; link = l; there = there; before = before; stops = stops }
stops_here all loose links k l fault.NoMemory there before stops = tt

-- what weaving two records says where it gives no history
no_history : (all : List EndedNow) (loose : List LooseNow) (l : Link) (near far : EndedCenterNow) (a b : RecordNow) (f : WeaveFault) → IsLinkOf all l near far a b →
    WeavesRecords (Err f) (both_of a b loose) → WeavesLink (Err f) all loose l
no_history all loose l near far a b (fault.Unfit u) is weaves = record { near = near; far = far; a = a; b = b; is_of = is; weaves = weaves }
no_history all loose l near far a b fault.NoMemory is weaves = tt

-- ---- two records woven

-- a side that was found is some side
pub record Found (side : Option SideNow) (r : RecordNow) (fast queued : List Logged) : Type 0 where
  pub its : SideNow
  pub there : side ≡ Some its
  pub record_is : r ≡ its.record_
  pub fast_is : fast ≡ its.center.fast
  pub queued_is : queued ≡ its.center.queued

found : (side : Option SideNow) (r : RecordNow) (fast queued : List Logged) → IsSome side → IfSome side (λ (t : SideNow). (r ≡ t.record_) × (fast ≡ t.center.fast) × (queued ≡ t.center.queued)) →
    Found side r fast queued
found None r fast queued is its = absurd (false≢true is)
found (Some t) r fast queued is its = record { its = t; there = refl; record_is = its.0; fast_is = its.1; queued_is = its.2 }

pub found_so : {S : Type 0} (answer : Option S) (s : S) (record_ : S → RecordNow) (fast queued : S → List Logged) (side : Option SideNow) → answer ≡ Some s → IfSome answer (λ _. IsSome side) →
    IfSome answer (λ (x : S). IfSome side (λ (t : SideNow). (record_ x ≡ t.record_) × (fast x ≡ t.center.fast) × (queued x ≡ t.center.queued))) → Found side (record_ s) (fast s) (queued s)
found_so None s record_ fast queued side e is its = absurd (none-some s e)
found_so (Some x) s record_ fast queued side e is its =
    subst (λ y. Found side (record_ y) (fast y) (queued y)) (same_Some x s e) (found side (record_ x) (fast x) (queued x) is its)

-- what weaving says of two records, and of what the dispatchers of their threads were called with
pub record AreWoven (loose : List LooseNow) (a b : RecordNow) (fast queued far_fast far_queued : List Logged) (h : History) : Type 0 where
  pub weaves : WeavesRecords (Ok h) (both_of a b loose)
  pub never_reset : IsUnreset (link_of a b loose) h
  pub delivered : IsDeliveredIn (link_of a b loose) (logs_of fast queued) (logs_of far_fast far_queued) h
  pub to_a_mark : IsToAMarkIn (link_of a b loose) (logs_of fast queued) (logs_of far_fast far_queued) h
  pub lossy : IsInOrderIn (link_of a b loose) (logs_of fast queued) (logs_of far_fast far_queued) h

module _ (all : List EndedNow) (loose : List LooseNow) (l : Link) (here there : EndedNow) (a b : RecordNow) (fast queued far_fast far_queued : List Logged)
    (near_there : slice_get all l.a ≡ Some here) (far_there : slice_get all l.b ≡ Some there) (mine : Found (side_towards l.b here.centers) a fast queued)
    (theirs : Found (side_towards l.a there.centers) b far_fast far_queued) where
  is_link : IsLinkOf all l mine.its.center theirs.its.center mine.its.record_ theirs.its.record_
  is_link = record { here = here; there = there; near_there = near_there; far_there = far_there; mine = mine.there; theirs = theirs.there }

  pub has_history : (h : History) → AreWoven loose a b fast queued far_fast far_queued h → HasHistory all loose l
  has_history h w =
      let near = mine.its in
      let far = theirs.its in
      let of_near = subst (λ ls. AreWoven loose near.record_ b near.center.fast ls far_fast far_queued h) mine.queued_is
      (subst (λ ls. AreWoven loose near.record_ b ls queued far_fast far_queued h) mine.fast_is (subst (λ r. AreWoven loose r b fast queued far_fast far_queued h) mine.record_is w)) in
      let of_both = subst (λ ls. AreWoven loose near.record_ far.record_ near.center.fast near.center.queued far.center.fast ls h) theirs.queued_is
      (subst (λ ls. AreWoven loose near.record_ far.record_ near.center.fast near.center.queued ls far_queued h) theirs.fast_is
      (subst (λ r. AreWoven loose near.record_ r near.center.fast near.center.queued far_fast far_queued h) theirs.record_is of_near)) in
      record {
        near = near.center;
        far = far.center;
        a = near.record_;
        b = far.record_;
        is_of = is_link;
        history = h;
        weaves = of_both.weaves;
        never_reset = of_both.never_reset;
        delivered = of_both.delivered;
        to_a_mark = of_both.to_a_mark;
        lossy = of_both.lossy;
      }

  pub has_none : (f : WeaveFault) → WeavesRecords (Err f) (both_of a b loose) → WeavesLink (Err f) all loose l
  has_none f weaves = no_history all loose l mine.its.center theirs.its.center mine.its.record_ theirs.its.record_ f is_link
      (subst (λ r. WeavesRecords (Err f) (both_of mine.its.record_ r loose)) theirs.record_is (subst (λ r. WeavesRecords (Err f) (both_of r b loose)) mine.record_is weaves))

-- ---- the record towards a peer

other_number : (a b : ℕ) → (a ≡ b → ⊥) → (a == b) ≡ false
other_number a b other = ne_eqb a b other

-- the first of those from a place on is that one, where it is towards the peer
pub towards_here : (j : ℕ) (rs : List RecordNow) (k : ℕ) (r : RecordNow) → slice_get rs k ≡ Some r → r.place ≡ j → towards j (drop k rs) ≡ Some r
towards_here j rs k r there same = ap (towards j) (drop_here rs k r there) ∙ ap (λ b. if b then Some r else towards j (drop (k + 1) rs)) (same_number r.place j same)

-- and else one behind it
pub towards_next : (j : ℕ) (rs : List RecordNow) (k : ℕ) (r : RecordNow) → slice_get rs k ≡ Some r → (r.place ≡ j → ⊥) → towards j (drop k rs) ≡ towards j (drop (k + 1) rs)
towards_next j rs k r there other =
    ap (towards j) (drop_here rs k r there) ∙ ap (λ b. if b then Some r else towards j (drop (k + 1) rs)) (other_number r.place j other)

-- ---- the side towards a peer

-- it is at the first of those from a place on, where that has a record towards the peer
pub side_here : (j : ℕ) (cs : List EndedCenterNow) (k : ℕ) (c : EndedCenterNow) (r : RecordNow) → slice_get cs k ≡ Some c → towards j c.records ≡ Some r → side_towards j (drop k cs) ≡ Some (side_of c r)
side_here j cs k c r there its =
    ap (side_towards j) (drop_here cs k c there) ∙ ap (λ o. first_of (option_map (side_of c) o) (side_towards j (drop (k + 1) cs))) its

-- and else at one behind it
pub side_next : (j : ℕ) (cs : List EndedCenterNow) (k : ℕ) (c : EndedCenterNow) → slice_get cs k ≡ Some c → towards j c.records ≡ None → side_towards j (drop k cs) ≡ side_towards j (drop (k + 1) cs)
side_next j cs k c there none =
    ap (side_towards j) (drop_here cs k c there) ∙ ap (λ o. first_of (option_map (side_of c) o) (side_towards j (drop (k + 1) cs))) none
