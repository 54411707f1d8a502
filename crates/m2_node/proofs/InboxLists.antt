-- The inboxes of threads, one after another.
use Rattle.std.proofs.Common.{◌≡◌, ℕ, zero, suc, ◌+◌, ◌<◌, List, [], ◌∷◌, ◌++◌, length, drop, get_or, take, sym, ap, subst, ◌∙◌, append_assoc, arith}
use Rattle.std.specs.Prelude.{slice_get, Some}
use Rattle.std.proofs.lemmas.List.{append-nil, take_more}
use Rattle.std.proofs.lemmas.List.Concat.{flat_map-append}
use Rattle.m2_handover.specs.Handed.{OnItsWay}
use Rattle.m2_handover.specs.m2_mailbox.declared.inbox.Inbox.{Inbox}
use Rattle.m2_handover.specs.m2_mailbox.declared.passes.GetPass.{GetPass}
use Rattle.m2_handover.specs.m2_mailbox.declared.passes.PutPass.{PutPass}
use Rattle.m2_scenario.specs.declared.node.Node.{Node}
use Rattle.m2_trail.specs.declared.home.HomeOf.{HomeOf}
use Rattle.m2_node.specs.Rooms.{AreRoomsOf, HomeAt, IsRoom, homes_from, homes_if, homes_of}
use Rattle.m2_node.proofs.Places.{drop_here}

-- ---- threads

abbrev thread : (center centers : ℕ) → HomeAt
thread center centers = record { center = center; centers = centers }

pub homes_last : (center count centers : ℕ) → homes_from center (count + 1) centers ≡ homes_from center count centers ++ thread (center + count) centers ∷ []
homes_last center zero centers = ap (λ (n : ℕ). thread n centers ∷ []) (let e : center ≡ center + 0 = omega arith in e)
homes_last center (suc count) centers =
    ap (λ (n : ℕ). homes_from center n centers) (let e : suc count + 1 ≡ suc (count + 1) = omega arith in e)
    ∙ ap (λ hs. thread center centers ∷ hs) (homes_last (suc center) count centers)
    ∙ ap (λ (n : ℕ). thread center centers ∷ (homes_from (suc center) count centers ++ thread n centers ∷ [])) (let e : suc center + count ≡ center + suc count = omega arith in e)

-- those of one node more
pub homes_more : (nodes : List Node) (k : ℕ) (x : Node) → k < length nodes → x ≡ get_or nodes k x → homes_of (take (k + 1) nodes) ≡ homes_of (take k nodes) ++ homes_if x.started x.centers
homes_more nodes k x less is =
    let its = λ (y : Node). homes_if y.started y.centers in
    ap homes_of (take_more nodes k x less)
    ∙ flat_map-append its (take k nodes) (get_or nodes k x ∷ [])
    ∙ ap (λ hs. homes_of (take k nodes) ++ hs) (append-nil (its (get_or nodes k x)))
    ∙ ap (λ y. homes_of (take k nodes) ++ its y) (sym is)

-- and those that are left, where it is the next one
pub homes_next : (nodes : List Node) (k : ℕ) (x : Node) → slice_get nodes k ≡ Some x → homes_of (drop k nodes) ≡ homes_if x.started x.centers ++ homes_of (drop (k + 1) nodes)
homes_next nodes k x there = ap homes_of (drop_here nodes k x there)

-- ---- their inboxes

pub no_rooms_yet : (inboxes : List (Inbox OnItsWay HomeOf)) (puts : List (PutPass OnItsWay HomeOf)) (gets : List (GetPass OnItsWay HomeOf)) → inboxes ≡ [] → puts ≡ [] → gets ≡ [] →
    AreRoomsOf [] inboxes puts gets
no_rooms_yet inboxes puts gets none_b none_p none_g =
    subst (λ bs. AreRoomsOf [] bs puts gets) (sym none_b) (subst (λ ps. AreRoomsOf [] [] ps gets) (sym none_p) (subst (AreRoomsOf [] [] []) (sym none_g) tt))

pub one_room_more : (homes : List HomeAt) (inboxes : List (Inbox OnItsWay HomeOf)) (puts : List (PutPass OnItsWay HomeOf)) (gets : List (GetPass OnItsWay HomeOf))
    (h : HomeAt) (b : Inbox OnItsWay HomeOf) (p : PutPass OnItsWay HomeOf) (g : GetPass OnItsWay HomeOf) → AreRoomsOf homes inboxes puts gets → IsRoom h b p g →
    AreRoomsOf (homes ++ h ∷ []) (inboxes ++ b ∷ []) (puts ++ p ∷ []) (gets ++ g ∷ [])
one_room_more [] [] [] [] h b p g rooms is = (is, tt)
one_room_more [] [] [] (x ∷ gets) h b p g rooms is = absurd rooms
one_room_more [] [] (x ∷ puts) gets h b p g rooms is = absurd rooms
one_room_more [] (x ∷ inboxes) puts gets h b p g rooms is = absurd rooms
one_room_more (y ∷ homes) [] puts gets h b p g rooms is = absurd rooms
one_room_more (y ∷ homes) (c ∷ inboxes) [] gets h b p g rooms is = absurd rooms
one_room_more (y ∷ homes) (c ∷ inboxes) (q ∷ puts) [] h b p g rooms is = absurd rooms
one_room_more (y ∷ homes) (c ∷ inboxes) (q ∷ puts) (f ∷ gets) h b p g rooms is = (rooms.0, one_room_more homes inboxes puts gets h b p g rooms.1 is)

-- one thread more of a node, behind those of the nodes before it
pub one_thread_more : (homes : List HomeAt) (center centers : ℕ) (old_b new_b : List (Inbox OnItsWay HomeOf)) (old_p new_p : List (PutPass OnItsWay HomeOf)) (old_g new_g : List (GetPass OnItsWay HomeOf)) →
    ((all : List HomeAt) → AreRoomsOf all old_b old_p old_g → AreRoomsOf (all ++ thread center centers ∷ []) new_b new_p new_g) →
    AreRoomsOf (homes ++ homes_from 0 center centers) old_b old_p old_g → AreRoomsOf (homes ++ homes_from 0 (center + 1) centers) new_b new_p new_g
one_thread_more homes center centers old_b new_b old_p new_p old_g new_g adds rooms =
    let at : 0 + center ≡ center = omega arith in
    subst (λ hs. AreRoomsOf hs new_b new_p new_g)
    (append_assoc homes (homes_from 0 center centers) (thread center centers ∷ [])
    ∙ ap (λ hs. homes ++ hs) (ap (λ (n : ℕ). homes_from 0 center centers ++ thread n centers ∷ []) (sym at) ∙ sym (homes_last 0 center centers)))
    (adds (homes ++ homes_from 0 center centers) rooms)
