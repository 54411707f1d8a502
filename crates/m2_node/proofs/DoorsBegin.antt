-- What the ports of a node's threads are made of, one after another.
use native.Mathlib.Bridge.{le_prop}
use Rattle.std.proofs.Common.{◌≡◌, ℕ, zero, suc, ◌+◌, ◌-◌, ◌<◌, ◌≤◌, false, List, [], ◌∷◌, ◌++◌, length, drop, Option, Some, None, refl, sym, ap, subst, ◌∙◌, arith}
use Rattle.std.specs.Prelude.{slice_get, sum_by}
use Rattle.std.specs.List.{AllByRecursion}
use Rattle.std.proofs.lemmas.List.Sums.{sum_by-cons}
use Rattle.std.proofs.lemmas.Option.{same_Some}
use Rattle.m2_fabric.specs.Fabric.{IsUnused}
use Rattle.m2_fabric.specs.Port.{SeenPort}
use Rattle.m2_fabric.specs.declared.socket.SocketId.{SocketId}
use Rattle.m2_handover.specs.Door.{DoorNow, weight_by, weight_on_way, weight_put}
use Rattle.m2_handover.specs.Handed.{OnItsWay}
use Rattle.m2_handover.specs.Home.{IsBalanced, weight_at_door}
use Rattle.m2_handover.specs.Way.{WayNow}
use Rattle.m2_handover.specs.m2_mailbox.Passes.{IsPutPassOf, owner_of, parts_of, puts_of}
use Rattle.m2_handover.specs.m2_mailbox.Views.{all_parts}
use Rattle.m2_handover.specs.m2_mailbox.declared.inbox.Inbox.{Inbox}
use Rattle.m2_handover.specs.m2_mailbox.declared.passes.GetPass.{GetPass}
use Rattle.m2_handover.specs.m2_mailbox.declared.passes.PutPass.{PutPass}
use Rattle.m2_trail.specs.declared.home.HomeOf.{HomeOf}
use Rattle.m2_node.specs.Begins.{AreDoorsAmid, AreDoorsOf, AreRoomsAmid, DoorsNow, IsNewDoor, IsNewWay, IsStillFull}
use Rattle.m2_node.specs.Rooms.{HomeAt, homes_from, thread_of}
use Rattle.m2_node.proofs.InboxLists.{homes_last}
use Rattle.m2_node.proofs.Places.{drop_here, get_drop}

-- ---- homes

abbrev home_with : (center centers : ℕ) → 1 ≤ centers → HomeOf
home_with center centers some = record { center = center; centers = centers; some = some }

same_with : (a b n m : ℕ) (p : 1 ≤ n) (q : 1 ≤ m) → a ≡ b → n ≡ m → home_with a n p ≡ home_with b m q
same_with a b n m p q e f =
    ap (λ (i : ℕ). home_with i n p) e ∙ subst (λ (i : ℕ). (r : 1 ≤ i) → home_with b n p ≡ home_with b i r) f (λ r. ap (home_with b n) (le_prop p r)) q

pub same_home : (g h : HomeOf) → g.center ≡ h.center → g.centers ≡ h.centers → g ≡ h
same_home g h e f = same_with g.center h.center g.centers h.centers g.some h.some e f

pub homes_count : (center count centers : ℕ) → length (homes_from center count centers) ≡ count
homes_count center zero centers = refl
homes_count center (suc count) centers = ap suc (homes_count (suc center) count centers)

-- ---- the way to one of them

-- the right to put into an inbox into which nothing was put, which is that of a thread
pub record IsStillUnused (h : HomeAt) (inbox : Inbox OnItsWay HomeOf) (put : PutPass OnItsWay HomeOf) : Type 0 where
  pub center : (owner_of inbox).center ≡ h.center
  pub centers : (owner_of inbox).centers ≡ h.centers
  pub puts : IsPutPassOf inbox put
  pub whole : parts_of put ≡ all_parts
  pub nothing_put : puts_of put ≡ [] ∷ []

next_put : (its rest : List HomeAt) (h : HomeAt) (bs : List (Inbox OnItsWay HomeOf)) (p : PutPass OnItsWay HomeOf) (ps : List (PutPass OnItsWay HomeOf)) (gs : List (GetPass OnItsWay HomeOf))
    (b : Inbox OnItsWay HomeOf) → AreRoomsAmid its (h ∷ rest) bs (p ∷ ps) gs → slice_get bs (length its) ≡ Some b → IsStillUnused h b p
next_put [] rest h [] p ps gs b rooms there = absurd rooms
next_put [] rest h (c ∷ bs) p ps [] b rooms there = absurd rooms
next_put [] rest h (c ∷ bs) p ps (g ∷ gs) b rooms there =
    let r = rooms.0 in
    subst (λ (d : Inbox OnItsWay HomeOf). IsStillUnused h d p) (same_Some c b there)
    (record { center = r.center; centers = r.centers; puts = r.puts; whole = r.whole; nothing_put = r.nothing_put })
next_put (i ∷ its) rest h [] p ps gs b rooms there = absurd rooms
next_put (i ∷ its) rest h (c ∷ bs) p ps [] b rooms there = absurd rooms
next_put (i ∷ its) rest h (c ∷ bs) p ps (g ∷ gs) b rooms there = next_put its rest h bs p ps gs b rooms.1 there

put_away : (its rest : List HomeAt) (h : HomeAt) (bs : List (Inbox OnItsWay HomeOf)) (p : PutPass OnItsWay HomeOf) (ps : List (PutPass OnItsWay HomeOf)) (gs : List (GetPass OnItsWay HomeOf)) →
    AreRoomsAmid its (h ∷ rest) bs (p ∷ ps) gs → AreRoomsAmid (its ++ h ∷ []) rest bs ps gs
put_away [] rest h [] p ps gs rooms = absurd rooms
put_away [] rest h (c ∷ bs) p ps [] rooms = absurd rooms
put_away [] rest h (c ∷ bs) p ps (g ∷ gs) rooms = (record { gets = rooms.0.gets; nothing_taken = rooms.0.nothing_taken }, rooms.1)
put_away (i ∷ its) rest h [] p ps gs rooms = absurd rooms
put_away (i ∷ its) rest h (c ∷ bs) p ps [] rooms = absurd rooms
put_away (i ∷ its) rest h (c ∷ bs) p ps (g ∷ gs) rooms = (rooms.0, put_away its rest h bs p ps gs rooms.1)

module _ (inbox : ℕ → Option (Inbox OnItsWay HomeOf)) (d : DoorsNow) where
  -- with the next right to put
  pub way_there : (its rest : List HomeAt) (h : HomeAt) (p : PutPass OnItsWay HomeOf) (ps : List (PutPass OnItsWay HomeOf)) (b : Inbox OnItsWay HomeOf) (number : ℕ) → AreDoorsAmid inbox its (h ∷ rest) d →
      d.puts ≡ p ∷ ps → number ≡ d.next + length its → slice_get d.inboxes number ≡ Some b → IsStillUnused h b p
  way_there its rest h p ps b number doors puts is there =
      next_put its rest h (drop d.next d.inboxes) p ps d.gets b
      (subst (λ qs. AreRoomsAmid its (h ∷ rest) (drop d.next d.inboxes) qs d.gets) puts doors.rooms)
      (get_drop d.inboxes d.next (length its) ∙ ap (slice_get d.inboxes) (sym is) ∙ there)

  pub way_made : (its rest : List HomeAt) (h : HomeAt) (p : PutPass OnItsWay HomeOf) (new : DoorsNow) → d.puts ≡ p ∷ new.puts → new.inboxes ≡ d.inboxes → new.gets ≡ d.gets → new.next ≡ d.next →
      AreDoorsAmid inbox its (h ∷ rest) d → AreDoorsAmid inbox (its ++ h ∷ []) rest new
  way_made its rest h p new puts inboxes gets next doors =
      let rooms : AreRoomsAmid (its ++ h ∷ []) rest (drop d.next d.inboxes) new.puts d.gets =
      put_away its rest h (drop d.next d.inboxes) p new.puts d.gets (subst (λ qs. AreRoomsAmid its (h ∷ rest) (drop d.next d.inboxes) qs d.gets) puts doors.rooms) in
      let same : drop d.next d.inboxes ≡ drop new.next new.inboxes = ap (λ (n : ℕ). drop n d.inboxes) (sym next) ∙ ap (drop new.next) (sym inboxes) in
      record {
        named = λ i. doors.named i ∙ ap (λ bs. slice_get bs i) (sym inboxes);
        rooms = subst (λ bs. AreRoomsAmid (its ++ h ∷ []) rest bs new.puts new.gets) same (subst (AreRoomsAmid (its ++ h ∷ []) rest (drop d.next d.inboxes) new.puts) (sym gets) rooms);
      }

  pub no_way_yet : (homes : List HomeAt) → AreDoorsOf inbox homes d → AreDoorsAmid inbox [] homes d
  no_way_yet homes doors = record { named = doors.named; rooms = doors.rooms }

  pub no_port_left : (rest : List HomeAt) → AreDoorsAmid inbox [] rest d → AreDoorsOf inbox rest d
  no_port_left rest doors = record { named = doors.named; rooms = doors.rooms }

-- the same of doors as they are seen
pub way_found : (inbox : ℕ → Option (Inbox OnItsWay HomeOf)) (d seen : DoorsNow) (home : HomeOf) (p : PutPass OnItsWay HomeOf) (ps : List (PutPass OnItsWay HomeOf)) (b : Inbox OnItsWay HomeOf) (number : ℕ) →
    (rest : List HomeAt) × AreDoorsAmid inbox (homes_from 0 home.center home.centers) (thread_of home ∷ rest) d → seen ≡ d → seen.puts ≡ p ∷ ps → number ≡ seen.next + home.center →
    slice_get seen.inboxes number ≡ Some b → IsStillUnused (thread_of home) b p
way_found inbox d seen home p ps b number doors is puts at there =
    let its = homes_from 0 home.center home.centers in
    way_there inbox seen its doors.0 (thread_of home) p ps b number (subst (AreDoorsAmid inbox its (thread_of home ∷ doors.0)) (sym is) doors.1) puts
    (at ∙ ap (λ (n : ℕ). seen.next + n) (sym (homes_count 0 home.center home.centers))) there

-- those of the threads of a node before this one, one more, and all
pub ways_more : (inbox : ℕ → Option (Inbox OnItsWay HomeOf)) (d : DoorsNow) (center centers : ℕ) (rest : List HomeAt) → AreDoorsAmid inbox (homes_from 0 center centers ++ record { center = center; centers = centers } ∷ []) rest d →
    AreDoorsAmid inbox (homes_from 0 (center + 1) centers) rest d
ways_more inbox d center centers rest doors =
    let at : 0 + center ≡ center = omega arith in
    subst (λ hs. AreDoorsAmid inbox hs rest d)
    (ap (λ (n : ℕ). homes_from 0 center centers ++ record { center = n; centers = centers } ∷ []) (sym at) ∙ sym (homes_last 0 center centers)) doors

-- the next one to which the way is made
pub next_way : (inbox : ℕ → Option (Inbox OnItsWay HomeOf)) (d : DoorsNow) (its : List HomeAt) (center centers : ℕ) (rest : List HomeAt) → center < centers →
    AreDoorsAmid inbox its (homes_from center (centers - center) centers ++ rest) d →
    AreDoorsAmid inbox its (record { center = center; centers = centers } ∷ (homes_from (center + 1) (centers - (center + 1)) centers ++ rest)) d
next_way inbox d its center centers rest less doors =
    let more : centers - center ≡ suc (centers - (center + 1)) = omega (arith, less) in
    let at : suc center ≡ center + 1 = omega arith in
    subst (λ (n : ℕ). AreDoorsAmid inbox its (record { center = center; centers = centers } ∷ (homes_from n (centers - (center + 1)) centers ++ rest)) d) at
    (subst (λ (n : ℕ). AreDoorsAmid inbox its (homes_from center n centers ++ rest) d) more doors)

-- before the first one, and behind the last one
pub first_way : (inbox : ℕ → Option (Inbox OnItsWay HomeOf)) (d : DoorsNow) (centers : ℕ) (rest : List HomeAt) → AreDoorsOf inbox (homes_from 0 centers centers ++ rest) d →
    AreDoorsAmid inbox (homes_from 0 0 centers) (homes_from 0 (centers - 0) centers ++ rest) d
first_way inbox d centers rest doors =
    let all : centers ≡ centers - 0 = omega arith in
    subst (λ (n : ℕ). AreDoorsAmid inbox [] (homes_from 0 n centers ++ rest) d) all (no_way_yet inbox d (homes_from 0 centers centers ++ rest) doors)

pub all_ways : (inbox : ℕ → Option (Inbox OnItsWay HomeOf)) (d : DoorsNow) (center centers : ℕ) (rest : List HomeAt) → center ≡ centers →
    AreDoorsAmid inbox (homes_from 0 center centers) (homes_from center (centers - center) centers ++ rest) d → AreDoorsAmid inbox (homes_from 0 centers centers) rest d
all_ways inbox d center centers rest all doors =
    let none : centers - center ≡ 0 = omega (arith, all) in
    subst (λ (n : ℕ). AreDoorsAmid inbox (homes_from 0 n centers) rest d) all
    (subst (λ (n : ℕ). AreDoorsAmid inbox (homes_from 0 center centers) (homes_from center n centers ++ rest) d) none doors)

-- ---- the port of the next one

module _ (inbox : ℕ → Option (Inbox OnItsWay HomeOf)) (d : DoorsNow) (home : HomeAt) (its rest : List HomeAt) (b : Inbox OnItsWay HomeOf) (g : GetPass OnItsWay HomeOf) (gs : List (GetPass OnItsWay HomeOf))
    (doors : AreDoorsAmid inbox (home ∷ its) rest d) (gets : d.gets ≡ g ∷ gs) (there : slice_get d.inboxes d.next ≡ Some b) where
  next_rooms : IsStillFull b g × AreRoomsAmid its rest (drop (d.next + 1) d.inboxes) d.puts gs
  next_rooms =
      subst (λ bs. AreRoomsAmid (home ∷ its) rest bs d.puts (g ∷ gs)) (drop_here d.inboxes d.next b there)
      (subst (AreRoomsAmid (home ∷ its) rest (drop d.next d.inboxes) d.puts) gets doors.rooms)

  pub port_there : IsStillFull b g
  port_there = next_rooms.0

  pub port_made : (new : DoorsNow) → new.inboxes ≡ d.inboxes → new.puts ≡ d.puts → new.gets ≡ gs → new.next ≡ d.next + 1 → AreDoorsAmid inbox its rest new
  port_made new inboxes puts left next =
      let same : drop (d.next + 1) d.inboxes ≡ drop new.next new.inboxes = ap (λ (n : ℕ). drop n d.inboxes) (sym next) ∙ ap (drop new.next) (sym inboxes) in
      record {
        named = λ i. doors.named i ∙ ap (λ bs. slice_get bs i) (sym inboxes);
        rooms = subst (λ bs. AreRoomsAmid its rest bs new.puts new.gets) same
            (subst (λ qs. AreRoomsAmid its rest (drop (d.next + 1) d.inboxes) qs new.gets) (sym puts)
            (subst (AreRoomsAmid its rest (drop (d.next + 1) d.inboxes) d.puts) (sym left) next_rooms.1));
      }

-- so many are left
pub ports_more : (inbox : ℕ → Option (Inbox OnItsWay HomeOf)) (old new : DoorsNow) (made left after next centers : ℕ) (rest : List HomeAt) → left ≡ suc after → next ≡ made + 1 →
    ((home : HomeAt) (its others : List HomeAt) → AreDoorsAmid inbox (home ∷ its) others old → AreDoorsAmid inbox its others new) →
    AreDoorsAmid inbox (homes_from made left centers) rest old → AreDoorsAmid inbox (homes_from next after centers) rest new
ports_more inbox old new made left after next centers rest one e gives doors =
    let at : suc made ≡ next = omega (arith, e) in
    subst (λ (n : ℕ). AreDoorsAmid inbox (homes_from n after centers) rest new) at
    (gives (record { center = made; centers = centers }) (homes_from (suc made) after centers) rest (subst (λ (n : ℕ). AreDoorsAmid inbox (homes_from made n centers) rest old) one doors))

-- ---- where nothing was done

ways_weigh : (weight : SocketId → ℕ) (ways : List WayNow) → AllByRecursion IsNewWay ways → weight_put weight ways ≡ 0
ways_weigh weight [] all = refl
ways_weigh weight (w ∷ ways) all =
    let none : weight_by weight w ≡ 0 = ap (sum_by (sum_by (weight_on_way weight))) all.0 in
    omega (arith, sum_by-cons (weight_by weight) w ways, none, ways_weigh weight ways all.1)

pub new_door : (door : DoorNow) (ways : List WayNow) → door ≡ record { halves = []; asked = []; over = []; ways = ways; busy = false } → AllByRecursion IsNewWay ways → IsNewDoor (Some door)
new_door door ways is all weight =
    let weighs : weight_at_door weight (Some door) ≡ weight_at_door weight (Some (record { halves = []; asked = []; over = []; ways = ways; busy = false })) = ap (λ d. weight_at_door weight (Some d)) is in
    omega (arith, weighs, ways_weigh weight ways all)

pub none_new_door : IsNewDoor None
none_new_door weight = refl

pub new_balanced : (inner : SeenPort) (taken : List OnItsWay) (looks : ℕ) (door : Option DoorNow) → IsUnused inner → taken ≡ [] → IsNewDoor door →
    IsBalanced (record { inner = inner; made = []; room = 0; quiet = false; taken = taken; looks = looks; next = None; fresh = false; door = door })
new_balanced inner taken looks door unused none new weight =
    let m : sum_by weight inner.made ≡ 0 = ap (sum_by weight) unused.made in
    let t : sum_by (weight_on_way weight) taken ≡ 0 = ap (sum_by (weight_on_way weight)) none in
    omega (arith, m, t, new weight)
