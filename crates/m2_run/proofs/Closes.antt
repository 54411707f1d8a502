-- Inboxes that are closed, one after another.
use Rattle.std.proofs.Common.{◌≡◌, ℕ, suc, ◌+◌, ◌<◌, ◌≤◌, List, [], ◌∷◌, ◌++◌, length, get_or, take, drop, reverse, refl, sym, ap, subst, ◌∙◌, arith}
use Rattle.std.specs.Prelude.{slice_get, slice_set, sum_by, Some}
use Rattle.std.specs.List.{AllByRecursion}
use Rattle.std.proofs.lemmas.List.{drop-set-lt, drop_more, length-append, length-set, reverse-reverse, take_all, take_more, take_more_set}
use Rattle.std.proofs.lemmas.List.Sums.{sum_by-append, sum_by-cons}
use Rattle.m2_fabric.specs.declared.socket.SocketId.{SocketId}
use Rattle.m2_handover.specs.Door.{weight_of, weight_on_way}
use Rattle.m2_handover.specs.Handed.{AreLeftIn, OnItsWay}
use Rattle.m2_handover.specs.m2_mailbox.Passes.{IsGetPassOf, IsPutPassOf, parts_of, puts_of, taken_of}
use Rattle.m2_handover.specs.m2_mailbox.Views.{all_parts}
use Rattle.m2_handover.specs.m2_mailbox.declared.inbox.Inbox.{Inbox}
use Rattle.m2_handover.specs.m2_mailbox.declared.passes.GetPass.{GetPass}
use Rattle.m2_handover.specs.m2_mailbox.declared.passes.PutPass.{PutPass}
use Rattle.m2_handover.proofs.Weights.{left_weigh}
use Rattle.m2_trail.specs.Arrivals.{LooseNow}
use Rattle.m2_trail.specs.declared.home.HomeOf.{HomeOf}
use Rattle.m2_run.specs.Closing.{AreAllRightsTo, AreLeftOver, HasAllRights, IsLeftOver}
use Rattle.m2_node.specs.Lists.{SideBySide}
use Rattle.m2_run.specs.Opened.{AreRightsTo, HasRoomsFor, IsClosed, OpenedNow, WeighsUp, made_in, weight_inside, weight_put_by, weight_taken}
use Rattle.m2_node.proofs.Beside.{side_last}
use Rattle.m2_node.proofs.Places.{get_drop, reverse_last}

-- ---- all rights

all_rights : (bs : List (Inbox OnItsWay HomeOf)) (ps : List (PutPass OnItsWay HomeOf)) (gs : List (GetPass OnItsWay HomeOf)) →
    ((j : ℕ) (g : GetPass OnItsWay HomeOf) (b : Inbox OnItsWay HomeOf) → slice_get gs j ≡ Some g → slice_get bs j ≡ Some b → IsGetPassOf b g) →
    ((j : ℕ) (p : PutPass OnItsWay HomeOf) (b : Inbox OnItsWay HomeOf) → slice_get ps j ≡ Some p → slice_get bs j ≡ Some b → IsPutPassOf b p) →
    AllByRecursion (λ (p : PutPass OnItsWay HomeOf). parts_of p ≡ all_parts) ps → AreAllRightsTo bs ps gs
all_rights [] ps gs gets puts whole = tt
all_rights (b ∷ bs) [] gs gets puts whole = tt
all_rights (b ∷ bs) (p ∷ ps) [] gets puts whole = tt
all_rights (b ∷ bs) (p ∷ ps) (g ∷ gs) gets puts whole = (
  record { puts = puts 0 p b refl refl; gets = gets 0 g b refl refl; whole = whole.0 },
  all_rights bs ps gs (λ j h c e f. gets (suc j) h c e f) (λ j q c e f. puts (suc j) q c e f) whole.1,
)

-- those of a node whose first inbox comes first
pub rights_of_node : (bs : List (Inbox OnItsWay HomeOf)) (o : OpenedNow) → AreRightsTo (slice_get bs) 0 o → AreAllRightsTo bs o.puts o.gets
rights_of_node bs o h =
    let at : (j : ℕ) → 0 + j ≡ j = λ j. omega arith in
    all_rights bs o.puts o.gets (λ j g b e f. h.gets j g b e (ap (slice_get bs) (at j) ∙ f)) (λ j p b e f. h.puts j p b e (ap (slice_get bs) (at j) ∙ f)) h.whole

-- to the last ones of lists that were turned round, and to those that are left
pub last_rights : (bs left_bs : List (Inbox OnItsWay HomeOf)) (ps left_ps : List (PutPass OnItsWay HomeOf)) (gs left_gs : List (GetPass OnItsWay HomeOf))
    (b : Inbox OnItsWay HomeOf) (p : PutPass OnItsWay HomeOf) (g : GetPass OnItsWay HomeOf) → bs ≡ left_bs ++ b ∷ [] → ps ≡ left_ps ++ p ∷ [] → gs ≡ left_gs ++ g ∷ [] →
    AreAllRightsTo (reverse bs) (reverse ps) (reverse gs) → HasAllRights b p g × AreAllRightsTo (reverse left_bs) (reverse left_ps) (reverse left_gs)
last_rights bs left_bs ps left_ps gs left_gs b p g e f h all =
    subst (λ (xs : List (Inbox OnItsWay HomeOf)). AreAllRightsTo xs (p ∷ reverse left_ps) (g ∷ reverse left_gs)) (ap reverse e ∙ reverse_last left_bs b)
    (subst (λ (xs : List (PutPass OnItsWay HomeOf)). AreAllRightsTo (reverse bs) xs (g ∷ reverse left_gs)) (ap reverse f ∙ reverse_last left_ps p)
    (subst (AreAllRightsTo (reverse bs) (reverse ps)) (ap reverse h ∙ reverse_last left_gs g) all))

-- ---- behind the first ones

rights_behind : (bs : List (Inbox OnItsWay HomeOf)) (m first : ℕ) (o : OpenedNow) → AreRightsTo (slice_get bs) (m + first) o → AreRightsTo (slice_get (drop m bs)) first o
rights_behind bs m first o h =
    let at : (j : ℕ) → slice_get bs ((m + first) + j) ≡ slice_get (drop m bs) (first + j) =
    λ j. ap (slice_get bs) (let e : (m + first) + j ≡ m + (first + j) = omega arith in e) ∙ sym (get_drop bs m (first + j)) in
    record { gets = λ j g b e f. h.gets j g b e (at j ∙ f); puts = λ j p b e f. h.puts j p b e (at j ∙ f); whole = h.whole }

pub rooms_behind : (bs : List (Inbox OnItsWay HomeOf)) (m first : ℕ) (all : List OpenedNow) → HasRoomsFor (slice_get bs) (m + first) all → HasRoomsFor (slice_get (drop m bs)) first all
rooms_behind bs m first [] h = tt
rooms_behind bs m first (o ∷ all) h =
    let at : (m + first) + length o.gets ≡ m + (first + length o.gets) = omega arith in
    (rights_behind bs m first o h.0, h.1, rooms_behind bs m (first + length o.gets) all (subst (λ (n : ℕ). HasRoomsFor (slice_get bs) n all) at h.2))

-- those of the nodes behind one, once its own are closed
pub rooms_next : (bs left_bs : List (Inbox OnItsWay HomeOf)) (o : OpenedNow) (all : List OpenedNow) → left_bs ≡ drop (length o.gets) bs → HasRoomsFor (slice_get bs) 0 (o ∷ all) →
    HasRoomsFor (slice_get left_bs) 0 all
rooms_next bs left_bs o all left h =
    let at : 0 + length o.gets ≡ length o.gets + 0 = omega arith in
    subst (λ (xs : List (Inbox OnItsWay HomeOf)). HasRoomsFor (slice_get xs) 0 all) (sym left)
    (rooms_behind bs (length o.gets) 0 all (subst (λ (n : ℕ). HasRoomsFor (slice_get bs) n all) at h.2))

-- one less is left of these
pub drop_last : {X Y : Type 0} (xs left_xs : List X) (x : X) (ys left_ys : List Y) (y : Y) → xs ≡ left_xs ++ x ∷ [] → ys ≡ left_ys ++ y ∷ [] →
    drop (length left_ys) (reverse left_xs) ≡ drop (length ys) (reverse xs)
drop_last xs left_xs x ys left_ys y e f =
    let one : suc (length left_ys) ≡ length ys = let long = ap length f ∙ length-append left_ys (y ∷ []) in omega (arith, long) in
    ap (drop (suc (length left_ys))) (sym (ap reverse e ∙ reverse_last left_xs x)) ∙ ap (λ (n : ℕ). drop n (reverse xs)) one

-- ---- what is left there

pub left_over : (old new halves : List LooseNow) (puts : List (List OnItsWay)) (taken : List OnItsWay) → new ≡ old ++ halves → AreLeftIn halves puts taken → IsLeftOver old new puts taken
left_over old new halves puts taken is h weight =
    let behind : sum_by (weight_of weight) new ≡ sum_by (weight_of weight) old + sum_by (weight_of weight) halves = ap (sum_by (weight_of weight)) is ∙ sum_by-append (weight_of weight) old halves in
    let same : sum_by (weight_of weight) halves ≡ sum_by (weight_on_way weight) h.left = ap (sum_by (weight_of weight)) h.are ∙ left_weigh weight h.left in
    omega (arith, behind, same, h.all.weighs (weight_on_way weight), sum_by-append (weight_on_way weight) taken h.left)

-- however they are weighed, what was left over so far, of all and with what these that are left have
pub record IsLeftSoFar (first now : List LooseNow) (all_puts puts : List (PutPass OnItsWay HomeOf)) (all_gets gets : List (GetPass OnItsWay HomeOf)) : Type 0 where
  pub so : (weight : SocketId → ℕ) → sum_by (weight_of weight) now + weight_taken weight all_gets + weight_put_by weight puts
      ≡ sum_by (weight_of weight) first + weight_put_by weight all_puts + weight_taken weight gets

pub none_over_yet : (first : List LooseNow) (puts now_puts : List (PutPass OnItsWay HomeOf)) (gets now_gets : List (GetPass OnItsWay HomeOf)) → now_puts ≡ reverse puts → now_gets ≡ reverse gets →
    IsLeftSoFar first first puts (reverse now_puts) gets (reverse now_gets)
none_over_yet first puts now_puts gets now_gets e f = record {
  so = λ weight.
      let p : weight_put_by weight (reverse now_puts) ≡ weight_put_by weight puts = ap (weight_put_by weight) (ap reverse e ∙ reverse-reverse puts) in
      let g : weight_taken weight (reverse now_gets) ≡ weight_taken weight gets = ap (weight_taken weight) (ap reverse f ∙ reverse-reverse gets) in
      omega (arith, p, g);
}

pub one_over_more : (first old new : List LooseNow) (all_puts puts left_puts : List (PutPass OnItsWay HomeOf)) (all_gets gets left_gets : List (GetPass OnItsWay HomeOf))
    (p : PutPass OnItsWay HomeOf) (g : GetPass OnItsWay HomeOf) → puts ≡ left_puts ++ p ∷ [] → gets ≡ left_gets ++ g ∷ [] → IsLeftOver old new (puts_of p) (taken_of g) →
    IsLeftSoFar first old all_puts (reverse puts) all_gets (reverse gets) → IsLeftSoFar first new all_puts (reverse left_puts) all_gets (reverse left_gets)
one_over_more first old new all_puts puts left_puts all_gets gets left_gets p g e f one far = record {
  so = λ weight.
      let ps : weight_put_by weight (reverse puts) ≡ sum_by (sum_by (weight_on_way weight)) (puts_of p) + weight_put_by weight (reverse left_puts) =
      ap (weight_put_by weight) (ap reverse e ∙ reverse_last left_puts p) ∙ sum_by-cons (λ (q : PutPass OnItsWay HomeOf). sum_by (sum_by (weight_on_way weight)) (puts_of q)) p (reverse left_puts) in
      let gs : weight_taken weight (reverse gets) ≡ sum_by (weight_on_way weight) (taken_of g) + weight_taken weight (reverse left_gets) =
      ap (weight_taken weight) (ap reverse f ∙ reverse_last left_gets g) ∙ sum_by-cons (λ (h : GetPass OnItsWay HomeOf). sum_by (weight_on_way weight) (taken_of h)) g (reverse left_gets) in
      omega (arith, far.so weight, one weight, ps, gs);
}

pub all_over : (first new : List LooseNow) (all_puts puts : List (PutPass OnItsWay HomeOf)) (all_gets gets : List (GetPass OnItsWay HomeOf)) → puts ≡ [] → gets ≡ [] →
    IsLeftSoFar first new all_puts (reverse puts) all_gets (reverse gets) → AreLeftOver first new all_puts all_gets
all_over first new all_puts puts all_gets gets e f far weight =
    let ps : weight_put_by weight (reverse puts) ≡ 0 = ap (λ xs. weight_put_by weight (reverse xs)) e in
    let gs : weight_taken weight (reverse gets) ≡ 0 = ap (λ xs. weight_taken weight (reverse xs)) f in
    omega (arith, far.so weight, ps, gs)

-- a node whose inboxes are closed
pub closed_by : (old new : OpenedNow) → WeighsUp old → new.centers ≡ old.centers → new.left.opened ≡ old.left.opened → new.left.at_door ≡ old.left.at_door →
    AreLeftOver old.left.on_way new.left.on_way old.puts old.gets → IsClosed old new
closed_by old new weighs centers opened at_door over = record {
  centers = centers;
  opened = opened;
  at_door = at_door;
  there = λ weight.
      let w = weight_of weight in
      let inside : weight_inside weight new.centers ≡ weight_inside weight old.centers = ap (weight_inside weight) centers in
      let made : sum_by weight (made_in new.centers) ≡ sum_by weight (made_in old.centers) = ap (λ cs. sum_by weight (made_in cs)) centers in
      let door : sum_by w new.left.at_door ≡ sum_by w old.left.at_door = ap (sum_by w) at_door in
      omega (arith, weighs weight, over weight, inside, made, door, sum_by-append w old.left.at_door old.left.on_way, sum_by-append w new.left.at_door new.left.on_way);
}

-- the same as it is seen
pub closed_over : (old seen new : OpenedNow) → seen ≡ old → WeighsUp old → new.centers ≡ seen.centers → new.left.opened ≡ seen.left.opened → new.left.at_door ≡ seen.left.at_door →
    AreLeftOver seen.left.on_way new.left.on_way seen.puts seen.gets → IsClosed old new
closed_over old seen new is weighs centers opened at_door over =
    subst (λ (o : OpenedNow). IsClosed o new) is (closed_by seen new (subst WeighsUp (sym is) weighs) centers opened at_door over)

-- ---- node by node

pub record AreClosedSoFar (k : ℕ) (all ends : List OpenedNow) (bs : List (Inbox OnItsWay HomeOf)) : Type 0 where
  pub count : length ends ≡ length all
  pub closed : SideBySide IsClosed (take k all) (take k ends)
  pub same : drop k ends ≡ drop k all
  pub rooms : HasRoomsFor (slice_get bs) 0 (drop k ends)

module _ (k : ℕ) (all ends : List OpenedNow) (old : OpenedNow) (bs : List (Inbox OnItsWay HomeOf)) (less : k < length all) (is : old ≡ get_or ends k old) (far : AreClosedSoFar k all ends bs) where
  within : k < length ends
  within = let count = far.count in omega (arith, less, count)

  first_left : drop k ends ≡ old ∷ drop (k + 1) ends
  first_left = drop_more ends k old within ∙ ap (λ y. y ∷ drop (k + 1) ends) (sym is)

  rooms_left : HasRoomsFor (slice_get bs) 0 (old ∷ drop (k + 1) ends)
  rooms_left = subst (HasRoomsFor (slice_get bs) 0) first_left far.rooms

  pub node_left : AreRightsTo (slice_get bs) 0 old × WeighsUp old
  node_left = (rooms_left.0, rooms_left.1)

  pub one_closed : (new : OpenedNow) (left_bs : List (Inbox OnItsWay HomeOf)) → IsClosed old new → left_bs ≡ drop (length old.gets) bs → AreClosedSoFar (k + 1) all (slice_set ends k new) left_bs
  one_closed new left_bs closed left =
      let both : get_or all k old ∷ drop (k + 1) all ≡ old ∷ drop (k + 1) ends = sym (drop_more all k old less) ∙ sym far.same ∙ first_left in
      let first : get_or all k old ≡ old = cc in
      let rest : drop (k + 1) all ≡ drop (k + 1) ends = cc in
      let kept : drop (k + 1) (slice_set ends k new) ≡ drop (k + 1) ends = drop-set-lt (k + 1) ends k new (omega arith) in
      record {
        count = length-set ends k new ∙ far.count;
        closed = subst (λ (xs : List OpenedNow). SideBySide IsClosed xs (take (k + 1) (slice_set ends k new))) (sym (take_more all k old less ∙ ap (λ y. take k all ++ y ∷ []) first))
            (subst (SideBySide IsClosed (take k all ++ old ∷ [])) (sym (take_more_set ends k new within)) (side_last IsClosed (take k all) (take k ends) old new far.closed closed));
        same = kept ∙ sym rest;
        rooms = subst (HasRoomsFor (slice_get left_bs) 0) (sym kept) (rooms_next bs left_bs old (drop (k + 1) ends) left rooms_left);
      }

pub all_closed : (k : ℕ) (all ends : List OpenedNow) (bs : List (Inbox OnItsWay HomeOf)) → length all ≤ k → AreClosedSoFar k all ends bs → SideBySide IsClosed all ends
all_closed k all ends bs past far =
    subst (λ (xs : List OpenedNow). SideBySide IsClosed xs ends) (take_all k all past)
    (subst (SideBySide IsClosed (take k all)) (take_all k ends (let count = far.count in omega (arith, past, count))) far.closed)
