-- Threads that are taken apart, one after another: where their sockets are, and the rights to their inboxes.
use Rattle.std.proofs.Common.{◌≡◌, inl, inr, ℕ, ◌+◌, List, [], ◌∷◌, ◌++◌, length, sum_by, Option, Some, None, refl, sym, ap, subst, ◌∙◌, append_assoc, arith, length-append}
use Rattle.std.specs.Prelude.{slice_get}
use Rattle.std.specs.List.{AllByRecursion}
use Rattle.std.specs.Option.{option_to_list}
use Rattle.std.proofs.lemmas.List.{append-nil, nil_from_length}
use Rattle.std.proofs.lemmas.List.Concat.{flat_map-append}
use Rattle.std.proofs.lemmas.List.Sums.{sum_by-append, sum_by-cons}
use Rattle.std.proofs.lemmas.Option.{none-some, same_Some, slice_get_within}
use Rattle.m2_bytes.proofs.m2_lemmas.Lists.{all_last}
use Rattle.m2_node.specs.m2_script.m2_center.Center.{CenterNow}
use Rattle.m2_node.specs.m2_script.m2_center.Finishing.{RestNow, rest_of}
use Rattle.m2_dispatch.specs.declared.logged.Logged.{Logged}
use Rattle.m2_fabric.specs.Port.{SeenPort}
use Rattle.m2_fabric.specs.declared.port.Cut.{Cut}
use Rattle.m2_fabric.specs.declared.socket.SocketId.{SocketId}
use Rattle.m2_handover.specs.Door.{weight_by, weight_of, weight_on_way, weight_put}
use Rattle.m2_handover.specs.Handed.{IsOfNamed, OnItsWay}
use Rattle.m2_handover.specs.Way.{WayNow}
use Rattle.m2_handover.specs.m2_mailbox.Passes.{IsGetPassOf, IsPutPassOf, parts_of, puts_of, taken_of}
use Rattle.m2_handover.specs.m2_mailbox.Views.{all_parts}
use Rattle.m2_handover.specs.m2_mailbox.declared.inbox.Inbox.{Inbox}
use Rattle.m2_handover.specs.m2_mailbox.declared.passes.GetPass.{GetPass}
use Rattle.m2_handover.specs.m2_mailbox.declared.passes.PutPass.{PutPass}
use Rattle.m2_trail.specs.Arrivals.{LooseNow}
use Rattle.m2_trail.specs.declared.home.HomeOf.{HomeOf}
use Rattle.m2_run.specs.Cuts.{bound_of}
use Rattle.m2_run.specs.Kept.{AreOpened, IsOpenedAs}
use Rattle.m2_node.specs.Lists.{SideBySide, joined}
use Rattle.m2_run.specs.Opened.{AreRightsTo, EndsCenter, EndsCenters, IsTakenApart, LeftNow, OpenedNow, PartsNow, WeighsUp, made_in, parts_in, weight_beside, weight_inside, weight_put_by, weight_taken}
use Rattle.m2_run.specs.Rests.{EndedCenterNow, IsEndOfCenter, IsInside}
use Rattle.m2_node.proofs.Beside.{joined_both, joined_one, side_both, side_last}
use Rattle.m2_node.proofs.Places.{below_or_at, get_before, get_behind}

abbrev pub Put : Type 0
Put = PutPass OnItsWay HomeOf

abbrev pub Get : Type 0
Get = GetPass OnItsWay HomeOf

abbrev pub Inboxes : Type 0
Inboxes = ℕ → Option (Inbox OnItsWay HomeOf)

-- ---- rights

-- what is so of each place and the item there is so where one more goes last
one_more_at : {X : Type 0} (P : ℕ → X → Type 0) (xs : List X) (x : X) → ((k : ℕ) (y : X) → slice_get xs k ≡ Some y → P k y) → P (length xs) x →
    (k : ℕ) (y : X) → slice_get (xs ++ x ∷ []) k ≡ Some y → P k y
one_more_at P xs x each last k y there =
    let within = slice_get_within (xs ++ x ∷ []) k y there in
    elim (below_or_at k (length xs) (let one = length-append xs (x ∷ []) in omega (arith, within, one))) [
      | inl less ↦ each k y (sym (get_before xs (x ∷ []) k less) ∙ there)
      | inr same ↦
          let here = ap (slice_get (xs ++ x ∷ [])) same ∙ get_behind xs x [] (length xs) refl in
          subst (λ z. P k z) (same_Some x y (sym here ∙ there)) (subst (λ j. P j x) (sym same) last)
    ]

-- an inbox that has the name is the one there
of_named : {A : Type 0} (P : A → Type 0) (named : Option A) (b : A) → IsOfNamed P named → named ≡ Some b → P b
of_named P None b is e = elim is [ ]
of_named P (Some a) b is e = subst P (same_Some a b e) is

-- the rights to put, as those of a node say it
pub record ArePutsTo (inbox : Inboxes) (first : ℕ) (puts : List Put) : Type 0 where
  pub each : (j : ℕ) (p : Put) (b : Inbox OnItsWay HomeOf) → slice_get puts j ≡ Some p → inbox (first + j) ≡ Some b → IsPutPassOf b p
  pub whole : AllByRecursion (λ (p : Put). parts_of p ≡ all_parts) puts

-- one more
pub put_more : (inbox : Inboxes) (first : ℕ) (puts : List Put) (p : Put) → parts_of p ≡ all_parts → IsOfNamed (λ b. IsPutPassOf b p) (inbox (first + length puts)) → ArePutsTo inbox first puts →
    ArePutsTo inbox first (puts ++ p ∷ [])
put_more inbox first puts p all is are = record {
  each = λ j q b there named.
      one_more_at (λ k r. (c : Inbox OnItsWay HomeOf) → inbox (first + k) ≡ Some c → IsPutPassOf c r) puts p (λ k r at c e. are.each k r c at e)
      (λ c e. of_named (λ d. IsPutPassOf d p) (inbox (first + length puts)) c is e) j q there b named;
  whole = all_last (λ (q : Put). parts_of q ≡ all_parts) puts p are.whole all;
}

-- and of a right to take
get_more : (inbox : Inboxes) (first : ℕ) (gets : List Get) (g : Get) → IsOfNamed (λ b. IsGetPassOf b g) (inbox (first + length gets)) →
    ((j : ℕ) (h : Get) (b : Inbox OnItsWay HomeOf) → slice_get gets j ≡ Some h → inbox (first + j) ≡ Some b → IsGetPassOf b h) →
    (j : ℕ) (h : Get) (b : Inbox OnItsWay HomeOf) → slice_get (gets ++ g ∷ []) j ≡ Some h → inbox (first + j) ≡ Some b → IsGetPassOf b h
get_more inbox first gets g is are j h b there named =
    one_more_at (λ k r. (c : Inbox OnItsWay HomeOf) → inbox (first + k) ≡ Some c → IsGetPassOf c r) gets g (λ k r at c e. are k r c at e)
    (λ c e. of_named (λ d. IsGetPassOf d g) (inbox (first + length gets)) c is e) j h there b named

-- ---- weights

pub put_weighs : (weight : SocketId → ℕ) (puts : List Put) (p : Put) → weight_put_by weight (puts ++ p ∷ []) ≡ weight_put_by weight puts + sum_by (sum_by (weight_on_way weight)) (puts_of p)
put_weighs weight puts p =
    let w : Put → ℕ = λ (q : Put). sum_by (sum_by (weight_on_way weight)) (puts_of q) in
    omega (arith, sum_by-append w puts (p ∷ []), sum_by-cons w p [])

get_weighs : (weight : SocketId → ℕ) (gets : List Get) (g : Get) → weight_taken weight (gets ++ g ∷ []) ≡ weight_taken weight gets + sum_by (weight_on_way weight) (taken_of g)
get_weighs weight gets g =
    let w : Get → ℕ = λ (h : Get). sum_by (weight_on_way weight) (taken_of h) in
    omega (arith, sum_by-append w gets (g ∷ []), sum_by-cons w g [])

way_weighs : (weight : SocketId → ℕ) (way : WayNow) (ways : List WayNow) → weight_put weight (way ∷ ways) ≡ weight_by weight way + weight_put weight ways
way_weighs weight way ways = sum_by-cons (weight_by weight) way ways

-- ---- the ways of a door, one after another

-- The rights to put so far, of all but these ways.
pub record ArePutAway (inbox : Inboxes) (first : ℕ) (all left : List WayNow) (old now : List Put) : Type 0 where
  pub weighs : (weight : SocketId → ℕ) → weight_put_by weight now + weight_put weight left ≡ weight_put_by weight old + weight_put weight all
  pub rights : ArePutsTo inbox first old → ArePutsTo inbox first now

pub none_away : (inbox : Inboxes) (first : ℕ) (all : List WayNow) (old : List Put) → ArePutAway inbox first all all old old
none_away inbox first all old = record { weighs = λ weight. refl; rights = λ are. are }

pub one_away : (inbox : Inboxes) (first : ℕ) (all left rest : List WayNow) (old now new : List Put) (way : WayNow) (p : Put) → left ≡ way ∷ rest → new ≡ now ++ p ∷ [] →
    puts_of p ≡ way.put → parts_of p ≡ all_parts → IsOfNamed (λ b. IsPutPassOf b p) (inbox (first + length now)) → ArePutAway inbox first all left old now → ArePutAway inbox first all rest old new
one_away inbox first all left rest old now new way p e pushed put whole is a = record {
  weighs = λ weight.
      let w : List (List OnItsWay) → ℕ = sum_by (sum_by (weight_on_way weight)) in
      omega (arith, a.weighs weight, ap (weight_put weight) e, way_weighs weight way rest, ap (weight_put_by weight) pushed, put_weighs weight now p, ap w put);
  rights = λ are. subst (ArePutsTo inbox first) (sym pushed) (put_more inbox first now p whole is (a.rights are));
}

pub all_away : (inbox : Inboxes) (first : ℕ) (all left ways : List WayNow) (begun old now : List Put) → all ≡ ways → length left ≡ 0 → begun ≡ old →
    ArePutAway inbox first all left begun now → ArePutAway inbox first ways [] old now
all_away inbox first all left ways begun old now same none first_same a =
    subst (λ ps. ArePutAway inbox first ways [] ps now) first_same
    (subst (λ ws. ArePutAway inbox first ways ws begun now) (nil_from_length left none) (subst (λ ws. ArePutAway inbox first ws left begun now) same a))

-- ---- a port

abbrev pub parts : LeftNow → List Put → List Get → PartsNow
parts left puts gets = record { left = left; puts = puts; gets = gets }

-- it is taken apart, and all that it had is beside the rest
pub port_apart : (inbox : Inboxes) (first : ℕ) (inner : SeenPort) (made : List SocketId) (left new : LeftNow) (puts puts_new : List Put) (gets gets_new : List Get) (g : Get)
    (at_door on_way : List LooseNow) (taken : List OnItsWay) (ways : List WayNow) →
    new.opened ≡ left.opened → new.at_door ≡ left.at_door ++ at_door → new.on_way ≡ left.on_way ++ on_way → gets_new ≡ gets ++ g ∷ [] → taken_of g ≡ taken →
    IsOfNamed (λ b. IsGetPassOf b g) (inbox (first + length gets)) →
    ((weight : SocketId → ℕ) → sum_by weight inner.made + sum_by (weight_on_way weight) taken ≡ sum_by weight made + sum_by (weight_of weight) (at_door ++ on_way) + weight_put weight ways) →
    ArePutAway inbox first ways [] puts puts_new → IsTakenApart inbox first (Some inner) made (parts left puts gets) (parts new puts_new gets_new)
port_apart inbox first inner made left new puts puts_new gets gets_new g at_door on_way taken ways opened door way pushed took is all away = record {
  opened = opened;
  weighs = λ weight.
      let doors : sum_by (weight_of weight) new.at_door ≡ sum_by (weight_of weight) left.at_door + sum_by (weight_of weight) at_door =
      ap (sum_by (weight_of weight)) door ∙ sum_by-append (weight_of weight) left.at_door at_door in
      let on_ways : sum_by (weight_of weight) new.on_way ≡ sum_by (weight_of weight) left.on_way + sum_by (weight_of weight) on_way =
      ap (sum_by (weight_of weight)) way ∙ sum_by-append (weight_of weight) left.on_way on_way in
      let inside : SeenPort → ℕ = λ (p : SeenPort). sum_by weight p.made in
      let its : sum_by inside (option_to_list (Some inner)) ≡ sum_by weight inner.made = let one = sum_by-cons inside inner [] in omega (arith, one) in
      let took_so : sum_by (weight_on_way weight) (taken_of g) ≡ sum_by (weight_on_way weight) taken = ap (sum_by (weight_on_way weight)) took in
      let gets_so : weight_taken weight gets_new ≡ weight_taken weight gets + sum_by (weight_on_way weight) (taken_of g) = ap (weight_taken weight) pushed ∙ get_weighs weight gets g in
      omega (arith, doors, on_ways, its, took_so, gets_so, all weight, sum_by-append (weight_of weight) at_door on_way, away.weighs weight);
  rights = λ cs are.
      let put = away.rights (record { each = are.puts; whole = are.whole }) in
      record {
        gets = subst (λ hs. (j : ℕ) (h : Get) (b : Inbox OnItsWay HomeOf) → slice_get hs j ≡ Some h → inbox (first + j) ≡ Some b → IsGetPassOf b h) (sym pushed) (get_more inbox first gets g is are.gets);
        puts = put.each;
        whole = put.whole;
      };
}

-- that of a thread whose node is off has nothing
pub nothing_apart : (inbox : Inboxes) (first : ℕ) (old : PartsNow) → IsTakenApart inbox first None [] old old
nothing_apart inbox first old = record {
  opened = refl;
  weighs = λ weight. omega arith;
  rights = λ cs are. are;
}

-- where its halves are opened besides
pub apart_opened : (inbox : Inboxes) (first : ℕ) (inside : Option SeenPort) (made : List SocketId) (old : PartsNow) (mid : LeftNow) (puts : List Put) (gets : List Get) →
    IsTakenApart inbox first inside made old (parts mid puts gets) → IsTakenApart inbox first inside made old (parts (record mid { opened = old.left.opened }) puts gets)
apart_opened inbox first inside made old mid puts gets a =
    subst (λ (l : LeftNow). IsTakenApart inbox first inside made old (parts l puts gets)) (ap (λ os. record mid { opened = os }) a.opened) a

-- ---- halves that are opened one after another

-- these go last
pub record OpensAll (cuts : List Cut) (made : List SocketId) (halves old new : List LooseNow) : Type 0 where
  pub behind : List LooseNow
  pub split : new ≡ old ++ behind
  pub are : SideBySide (IsOpenedAs (bound_of cuts made)) halves behind

pub one_half_more : (cuts : List Cut) (made : List SocketId) (from rest into new all : List LooseNow) (half opened : LooseNow) → from ≡ half ∷ rest → new ≡ into ++ opened ∷ [] →
    IsOpenedAs (bound_of cuts made) half opened → OpensAll cuts made rest new all → OpensAll cuts made from into all
one_half_more cuts made from rest into new all half opened e pushed is o = subst (λ hs. OpensAll cuts made hs into all) (sym e) (record {
  behind = opened ∷ o.behind;
  split = o.split ∙ ap (λ ls. ls ++ o.behind) pushed ∙ append_assoc into (opened ∷ []) o.behind;
  are = (is, o.are);
})

pub no_half_left : (cuts : List Cut) (made : List SocketId) (left now : List LooseNow) → length left ≡ 0 → OpensAll cuts made left now now
no_half_left cuts made [] now none = record { behind = []; split = sym (append-nil now); are = tt }
no_half_left cuts made (l ∷ ls) now none = absurd (omega (arith, none))

-- behind those that were there, by the sockets that were made
pub opened_behind : (cuts : List Cut) (made its : List SocketId) (halves was inside now : List LooseNow) → inside ≡ was → its ≡ made →
    (opened : List LooseNow) × (now ≡ inside ++ opened) × SideBySide (IsOpenedAs (bound_of cuts its)) halves opened →
    (opened : List LooseNow) × (now ≡ was ++ opened) × SideBySide (IsOpenedAs (bound_of cuts made)) halves opened
opened_behind cuts made its halves was inside now same mine o =
    (o.0, o.1 ∙ ap (λ ls. ls ++ o.0) same, subst (λ ids. SideBySide (IsOpenedAs (bound_of cuts ids)) halves o.0) mine o.2)

-- ---- centers

-- the halves of one, as those of a list of centers
pub one_opened : (cuts : List Cut) (c : CenterNow (List Logged)) (opened : List LooseNow) → SideBySide (IsOpenedAs (bound_of cuts c.port.made)) (rest_of c).loose opened → AreOpened cuts (c ∷ []) opened
one_opened cuts c opened are = record { of_each = opened ∷ []; split = sym (joined_one opened); each = (are, tt) }

-- one is ended
pub center_ends : (cuts : List Cut) (inbox : Inboxes) (first : ℕ) (c : CenterNow (List Logged)) (d : EndedCenterNow) (old new : PartsNow) → IsEndOfCenter c d →
    (opened : List LooseNow) × (new.left.opened ≡ old.left.opened ++ opened) × SideBySide (IsOpenedAs (bound_of cuts c.port.made)) (rest_of c).loose opened →
    IsTakenApart inbox first d.port d.made old (record new { left = record new.left { opened = old.left.opened } }) → EndsCenter cuts inbox first c d old new
center_ends cuts inbox first c d old new end opened apart = record {
  end = end;
  opened = opened.0;
  are_opened = one_opened cuts c opened.0 opened.2;
  behind = opened.1;
  apart = apart;
}

-- by what is left of it, whose halves are opened, and whose port is taken apart
pub center_ended : (cuts : List Cut) (inbox : Inboxes) (first : ℕ) (c : CenterNow (List Logged)) (r : RestNow (List Logged)) (d : EndedCenterNow) (old new : PartsNow) → r ≡ rest_of c →
    d.made ≡ r.port.made → IsInside r.port d.port → d.records ≡ r.records → d.fast ≡ r.out.fast → d.queued ≡ r.queued.inner →
    (opened : List LooseNow) × (new.left.opened ≡ old.left.opened ++ opened) × SideBySide (IsOpenedAs (bound_of cuts r.port.made)) r.loose opened →
    IsTakenApart inbox first d.port d.made old (record new { left = record new.left { opened = old.left.opened } }) → EndsCenter cuts inbox first c d old new
center_ended cuts inbox first c r d old new e made inside records fast queued opened apart = center_ends cuts inbox first c d old new
    (record {
      made = made ∙ ap (λ (x : RestNow (List Logged)). x.port.made) e;
      inside = subst (λ (x : RestNow (List Logged)). IsInside x.port d.port) e inside;
      records = records ∙ ap (λ (x : RestNow (List Logged)). x.records) e;
      fast = fast ∙ ap (λ (x : RestNow (List Logged)). x.out.fast) e;
      queued = queued ∙ ap (λ (x : RestNow (List Logged)). x.queued.inner) e;
    })
    (subst (λ (x : RestNow (List Logged)). (os : List LooseNow) × (new.left.opened ≡ old.left.opened ++ os) × SideBySide (IsOpenedAs (bound_of cuts x.port.made)) x.loose os) e opened)
    apart

abbrev HalvesOf : List Cut → CenterNow (List Logged) → List LooseNow → Type 0
HalvesOf cuts c os = SideBySide (IsOpenedAs (bound_of cuts c.port.made)) (rest_of c).loose os

opened_both : (cuts : List Cut) (cs ds : List (CenterNow (List Logged))) (os ps : List LooseNow) → AreOpened cuts cs os → AreOpened cuts ds ps → AreOpened cuts (cs ++ ds) (os ++ ps)
opened_both cuts cs ds os ps a b = record {
  of_each = a.of_each ++ b.of_each;
  split = ap (λ xs. xs ++ ps) a.split ∙ ap (λ xs. joined a.of_each ++ xs) b.split ∙ sym (joined_both a.of_each b.of_each);
  each = side_both (HalvesOf cuts) cs a.of_each ds b.of_each a.each b.each;
}

-- none yet
pub none_end : (cuts : List Cut) (inbox : Inboxes) (first : ℕ) (old new : OpenedNow) → new ≡ old → EndsCenters cuts inbox first [] old new
none_end cuts inbox first old new e = subst (EndsCenters cuts inbox first [] old) (sym e) (record {
  behind = [];
  opened = [];
  ends = tt;
  are_opened = record { of_each = []; split = refl; each = tt };
  centers_are = sym (append-nil old.centers);
  opened_are = sym (append-nil old.left.opened);
  weighs = λ up. up;
  rights = λ are. are;
})

-- one more
inside_last : (weight : SocketId → ℕ) (cs : List EndedCenterNow) (d : EndedCenterNow) →
    weight_inside weight (cs ++ d ∷ []) ≡ weight_inside weight cs + sum_by (λ (p : SeenPort). sum_by weight p.made) (option_to_list d.port)
inside_last weight cs d =
    let w : EndedCenterNow → ℕ = λ (c : EndedCenterNow). sum_by (λ (p : SeenPort). sum_by weight p.made) (option_to_list c.port) in
    omega (arith, sum_by-append w cs (d ∷ []), sum_by-cons w d [])

made_last : (weight : SocketId → ℕ) (cs : List EndedCenterNow) (d : EndedCenterNow) → sum_by weight (made_in (cs ++ d ∷ [])) ≡ sum_by weight (made_in cs) + sum_by weight d.made
made_last weight cs d =
    ap (sum_by weight) (flat_map-append (λ (c : EndedCenterNow). c.made) cs (d ∷ []) ∙ ap (λ xs. made_in cs ++ xs) (append-nil d.made)) ∙ sum_by-append weight (made_in cs) d.made

still_weighs : (inbox : Inboxes) (first : ℕ) (d : EndedCenterNow) (old new : OpenedNow) (between : PartsNow) → between ≡ record (parts_in new) { left = record new.left { opened = old.left.opened } } →
    new.centers ≡ old.centers ++ d ∷ [] → IsTakenApart inbox first d.port d.made (parts_in old) between → WeighsUp old → WeighsUp new
still_weighs inbox first d old new between e pushed apart up weight =
    let inside : weight_inside weight new.centers ≡ weight_inside weight old.centers + sum_by (λ (p : SeenPort). sum_by weight p.made) (option_to_list d.port) =
    ap (weight_inside weight) pushed ∙ inside_last weight old.centers d in
    let made : sum_by weight (made_in new.centers) ≡ sum_by weight (made_in old.centers) + sum_by weight d.made = ap (λ cs. sum_by weight (made_in cs)) pushed ∙ made_last weight old.centers d in
    let here = sum_by-append (weight_of weight) old.left.at_door old.left.on_way in
    let there = sum_by-append (weight_of weight) new.left.at_door new.left.on_way in
    let beside : weight_beside weight between ≡ sum_by (weight_of weight) new.left.at_door + sum_by (weight_of weight) new.left.on_way + weight_put_by weight new.puts = ap (weight_beside weight) e in
    let taken : weight_taken weight between.gets ≡ weight_taken weight new.gets = ap (λ (p : PartsNow). weight_taken weight p.gets) e in
    omega (arith, inside, made, here, there, beside, taken, up weight, apart.weighs weight)

pub one_end_more : (cuts : List Cut) (inbox : Inboxes) (first : ℕ) (cs : List (CenterNow (List Logged))) (c : CenterNow (List Logged)) (d : EndedCenterNow) (old mid new : OpenedNow) →
    new.centers ≡ mid.centers ++ d ∷ [] → EndsCenter cuts inbox first c d (parts_in mid) (parts_in new) → EndsCenters cuts inbox first cs old mid → EndsCenters cuts inbox first (cs ++ c ∷ []) old new
one_end_more cuts inbox first cs c d old mid new pushed one are = record {
  behind = are.behind ++ d ∷ [];
  opened = are.opened ++ one.opened;
  ends = side_last IsEndOfCenter cs are.behind c d are.ends one.end;
  are_opened = opened_both cuts cs (c ∷ []) are.opened one.opened are.are_opened one.are_opened;
  centers_are = pushed ∙ ap (λ ds. ds ++ d ∷ []) are.centers_are ∙ append_assoc old.centers are.behind (d ∷ []);
  opened_are = one.behind ∙ ap (λ os. os ++ one.opened) are.opened_are ∙ append_assoc old.left.opened are.opened one.opened;
  weighs = λ up. still_weighs inbox first d mid new (record (parts_in new) { left = record new.left { opened = mid.left.opened } }) refl pushed one.apart (are.weighs up);
  rights = λ to.
      let so = one.apart.rights new.centers (let was = are.rights to in record { gets = was.gets; puts = was.puts; whole = was.whole }) in
      record { gets = so.gets; puts = so.puts; whole = so.whole };
}

-- all of a node
pub node_opened : (cuts : List Cut) (inbox : Inboxes) (first : ℕ) (centers : List (CenterNow (List Logged))) (old new : OpenedNow) → old.centers ≡ [] → old.left.opened ≡ [] →
    EndsCenters cuts inbox first centers old new → SideBySide IsEndOfCenter centers new.centers × AreOpened cuts centers new.left.opened
node_opened cuts inbox first centers old new none nothing are = (
  subst (SideBySide IsEndOfCenter centers) (sym (are.centers_are ∙ ap (λ cs. cs ++ are.behind) none)) are.ends,
  subst (AreOpened cuts centers) (sym (are.opened_are ∙ ap (λ os. os ++ are.opened) nothing)) are.are_opened,
)

-- where none is ended yet
pub nothing_weighs : (o : OpenedNow) → o.centers ≡ [] → o.left.at_door ≡ [] → o.left.on_way ≡ [] → o.puts ≡ [] → o.gets ≡ [] → WeighsUp o
nothing_weighs o none door way puts gets weight =
    let inside : weight_inside weight o.centers ≡ 0 = ap (weight_inside weight) none in
    let taken : weight_taken weight o.gets ≡ 0 = ap (weight_taken weight) gets in
    let made : sum_by weight (made_in o.centers) ≡ 0 = ap (λ cs. sum_by weight (made_in cs)) none in
    let halves : sum_by (weight_of weight) (o.left.at_door ++ o.left.on_way) ≡ 0 =
    ap (λ ls. sum_by (weight_of weight) (ls ++ o.left.on_way)) door ∙ ap (sum_by (weight_of weight)) way in
    let put : weight_put_by weight o.puts ≡ 0 = ap (weight_put_by weight) puts in
    omega (arith, inside, taken, made, halves, put)

pub no_rights : (inbox : Inboxes) (first : ℕ) (o : OpenedNow) → o.puts ≡ [] → o.gets ≡ [] → AreRightsTo inbox first o
no_rights inbox first o puts gets = record {
  gets = λ j g b there named. absurd (none-some g (ap (λ gs. slice_get gs j) (sym gets) ∙ there));
  puts = λ j p b there named. absurd (none-some p (ap (λ ps. slice_get ps j) (sym puts) ∙ there));
  whole = subst (AllByRecursion (λ (p : Put). parts_of p ≡ all_parts)) (sym puts) tt;
}
