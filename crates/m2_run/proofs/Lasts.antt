-- Nodes and threads that are ended one after another.
use Rattle.std.proofs.Common.{◌≡◌, inl, inr, ℕ, ◌+◌, ◌-◌, ◌<◌, ◌≤◌, false, List, [], ◌∷◌, ◌++◌, length, map, reverse, refl, sym, ap, subst, ◌∙◌, append_assoc, arith, length-append}
use Rattle.std.specs.Prelude.{OnOk, Result, Ok, Err, slice_get, Some}
use Rattle.std.specs.List.{AllByRecursion}
use Rattle.std.specs.Result.{is_err}
use Rattle.std.proofs.lemmas.List.{append-nil, length-map, length-reverse, reverse-reverse}
use Rattle.std.proofs.lemmas.Option.{none-some, same_Some, slice_get_within}
use Rattle.m2_bytes.proofs.m2_lemmas.Lists.{all_last}
use Rattle.m2_node.specs.m2_script.m2_center.Center.{CenterNow}
use Rattle.m2_dispatch.specs.declared.logged.Logged.{Logged}
use Rattle.m2_fabric.specs.declared.port.Cut.{Cut}
use Rattle.m2_trail.specs.Arrivals.{LooseNow}
use Rattle.m2_node.specs.Nodes.{RunNodeNow}
use Rattle.m2_run.specs.Opened.{AreOpenedNodes, AreRightsTo, EndsCenter, EndsCenters, EndsNext, HasRoomsFor, IsOpenedNode, OpenedNow, WeighsUp, ended_of, loose_in, parts_in, untold}
use Rattle.m2_run.specs.Rests.{EndedCenterNow, EndedNow}
use Rattle.m2_run.specs.Types.{IsCenterOfTypes}
use Rattle.m2_run.proofs.Apart.{Inboxes, none_end, one_end_more}
use Rattle.m2_node.proofs.Beside.{next_turned}
use Rattle.m2_node.proofs.Places.{below_or_at, get_before, get_behind, joined_first, reverse_last}

-- what a call that hasn't failed has ensured
pub so_on_ok : {T E P : Type 0} (r : Result T E) → is_err r ≡ false → OnOk r P → P
so_on_ok (Ok x) fine p = p
so_on_ok (Err e) fine p = absurd (cc)

-- where there is room for so many, there is for as many as are turned round
pub room_turned : {X : Type 0} (xs turned : List X) (count len capacity : ℕ) → turned ≡ reverse xs → count ≡ length xs → len + count ≤ capacity → length turned ≤ capacity - len
room_turned xs turned count len capacity e many room = omega (arith, ap length e, length-reverse xs, many, room)

-- ---- the threads of a node

-- Those before the ones that are left, which are turned round, are ended.
pub record AreEndedOf (cuts : List Cut) (inbox : Inboxes) (first : ℕ) (all left : List (CenterNow (List Logged))) (old now : OpenedNow) : Type 0 where
  pub gone : List (CenterNow (List Logged))
  pub split : all ≡ gone ++ reverse left
  pub ends : EndsCenters cuts inbox first gone old now
  pub types : AllByRecursion IsCenterOfTypes gone

pub none_ended_of : (cuts : List Cut) (inbox : Inboxes) (first : ℕ) (all left : List (CenterNow (List Logged))) (old now : OpenedNow) → left ≡ reverse all → now ≡ old → AreEndedOf cuts inbox first all left old now
none_ended_of cuts inbox first all left old now turned same = record {
  gone = [];
  split = sym (ap reverse turned ∙ reverse-reverse all);
  ends = none_end cuts inbox first old now same;
  types = tt;
}

pub one_ended_of : (cuts : List Cut) (inbox : Inboxes) (first : ℕ) (all left rest : List (CenterNow (List Logged))) (c : CenterNow (List Logged)) (d : EndedCenterNow) (old now new : OpenedNow) →
    left ≡ rest ++ c ∷ [] → new.centers ≡ now.centers ++ d ∷ [] → EndsCenter cuts inbox first c d (parts_in now) (parts_in new) → IsCenterOfTypes c →
    AreEndedOf cuts inbox first all left old now → AreEndedOf cuts inbox first all rest old new
one_ended_of cuts inbox first all left rest c d old now new split pushed one types a = record {
  gone = a.gone ++ c ∷ [];
  split = next_turned all a.gone left rest c a.split split;
  ends = one_end_more cuts inbox first a.gone c d old now new pushed one a.ends;
  types = all_last IsCenterOfTypes a.gone c a.types types;
}

all_gone : {X : Type 0} (all gone left : List X) → all ≡ gone ++ reverse left → left ≡ [] → gone ≡ all
all_gone all gone left split none = sym (split ∙ ap (λ xs. gone ++ reverse xs) none ∙ append-nil gone)

pub all_ended_of : (cuts : List Cut) (inbox : Inboxes) (first : ℕ) (all left : List (CenterNow (List Logged))) (old now : OpenedNow) → left ≡ [] → AreEndedOf cuts inbox first all left old now →
    EndsCenters cuts inbox first all old now × AllByRecursion IsCenterOfTypes all
all_ended_of cuts inbox first all left old now none a =
    let e = all_gone all a.gone left a.split none in (
      subst (λ cs. EndsCenters cuts inbox first cs old now) e a.ends,
      subst (AllByRecursion IsCenterOfTypes) e a.types,
    )

-- ---- nodes

-- the number of the first thread behind those of these nodes
abbrev pub number_behind : (first : ℕ) → List OpenedNow → ℕ
number_behind first [] = first
number_behind first (o ∷ all) = number_behind (first + length o.gets) all

number_last : (first : ℕ) (all : List OpenedNow) (o : OpenedNow) → number_behind first (all ++ o ∷ []) ≡ number_behind first all + length o.gets
number_last first [] o = refl
number_last first (p ∷ all) o = number_last (first + length p.gets) all o

rooms_last : (inbox : Inboxes) (first : ℕ) (all : List OpenedNow) (o : OpenedNow) → HasRoomsFor inbox first all → AreRightsTo inbox (number_behind first all) o → WeighsUp o →
    HasRoomsFor inbox first (all ++ o ∷ [])
rooms_last inbox first [] o has rights weighs = (rights, weighs, tt)
rooms_last inbox first (p ∷ all) o has rights weighs = (has.0, has.1, rooms_last inbox (first + length p.gets) all o has.2 rights weighs)

opened_last : (cuts : ℕ → List Cut) (nodes : List RunNodeNow) (all : List OpenedNow) (n : RunNodeNow) (o : OpenedNow) → AreOpenedNodes cuts nodes all → IsOpenedNode (cuts (length all)) n o →
    AreOpenedNodes cuts (nodes ++ n ∷ []) (all ++ o ∷ [])
opened_last cuts nodes all n o are is = record {
  count = length-append all (o ∷ []) ∙ ap (λ (k : ℕ). k + 1) are.count ∙ sym (length-append nodes (n ∷ []));
  each = λ k m p here there.
      let within = slice_get_within (all ++ o ∷ []) k p there in
      elim (below_or_at k (length all) (let one = length-append all (o ∷ []) in omega (arith, within, one))) [
        | inl less ↦ are.each k m p (sym (get_before nodes (n ∷ []) k (subst (λ (j : ℕ). k < j) are.count less)) ∙ here) (sym (get_before all (o ∷ []) k less) ∙ there)
        | inr same ↦ at_end k m p here there same
      ];
}
  where
    at_end : (k : ℕ) (m : RunNodeNow) (p : OpenedNow) → slice_get (nodes ++ n ∷ []) k ≡ Some m → slice_get (all ++ o ∷ []) k ≡ Some p → k ≡ length all → IsOpenedNode (cuts k) m p
    at_end k m p here there same =
        let its : n ≡ m = same_Some n m (sym (get_behind nodes n [] k (sym (same ∙ are.count))) ∙ here) in
        let left : o ≡ p = same_Some o p (sym (get_behind all o [] k (sym same)) ∙ there) in
        subst (λ (q : OpenedNow). IsOpenedNode (cuts k) m q) left (subst (λ (q : RunNodeNow). IsOpenedNode (cuts k) q o) its (subst (λ (j : ℕ). IsOpenedNode (cuts j) n o) (sym same) is))

abbrev pub AreCentersOfTypes : RunNodeNow → Type 0
AreCentersOfTypes n = AllByRecursion IsCenterOfTypes n.centers

-- Those before the ones that are left, which are turned round, are ended; and that is the number of the next thread.
pub record AreEnded (cuts : ℕ → List Cut) (inbox : Inboxes) (all left : List RunNodeNow) (ends : List OpenedNow) (number : ℕ) : Type 0 where
  pub gone : List RunNodeNow
  pub split : all ≡ gone ++ reverse left
  pub opened : AreOpenedNodes cuts gone ends
  pub rooms : HasRoomsFor inbox 0 ends
  pub next : number ≡ number_behind 0 ends
  pub types : AllByRecursion AreCentersOfTypes gone

pub none_ended : (cuts : ℕ → List Cut) (inbox : Inboxes) (all left : List RunNodeNow) (ends : List OpenedNow) → left ≡ reverse all → ends ≡ [] → AreEnded cuts inbox all left ends 0
none_ended cuts inbox all left ends turned none = subst (λ os. AreEnded cuts inbox all left os 0) (sym none) (record {
  gone = [];
  split = sym (ap reverse turned ∙ reverse-reverse all);
  opened = record { count = refl; each = λ k n o here there. absurd (none-some n here) };
  rooms = tt;
  next = refl;
  types = tt;
})

pub one_ended : (cuts : ℕ → List Cut) (inbox : Inboxes) (all left rest : List RunNodeNow) (n : RunNodeNow) (ends after : List OpenedNow) (o : OpenedNow) (number behind : ℕ) →
    left ≡ rest ++ n ∷ [] → after ≡ ends ++ o ∷ [] → behind ≡ number + length o.gets → IsOpenedNode (cuts (length ends)) n o → WeighsUp o → AreRightsTo inbox number o → AreCentersOfTypes n →
    AreEnded cuts inbox all left ends number → AreEnded cuts inbox all rest after behind
one_ended cuts inbox all left rest n ends after o number behind split pushed next is weighs rights types a =
    subst (λ os. AreEnded cuts inbox all rest os behind) (sym pushed) (record {
      gone = a.gone ++ n ∷ [];
      split = next_turned all a.gone left rest n a.split split;
      opened = opened_last cuts a.gone ends n o a.opened is;
      rooms = rooms_last inbox 0 ends o a.rooms (subst (λ (k : ℕ). AreRightsTo inbox k o) a.next rights) weighs;
      next = next ∙ ap (λ (k : ℕ). k + length o.gets) a.next ∙ sym (number_last 0 ends o);
      types = all_last AreCentersOfTypes a.gone n a.types types;
    })

pub next_ended : (cuts : ℕ → List Cut) (inbox : Inboxes) (all left rest : List RunNodeNow) (n : RunNodeNow) (ends after : List OpenedNow) (number behind : ℕ) (own : List Cut) →
    left ≡ rest ++ n ∷ [] → own ≡ cuts (length ends) → EndsNext own inbox number n ends behind after → AreCentersOfTypes n → AreEnded cuts inbox all left ends number →
    AreEnded cuts inbox all rest after behind
next_ended cuts inbox all left rest n ends after number behind own split mine e types a =
    one_ended cuts inbox all left rest n ends after e.ended number behind split e.last e.next (subst (λ cs. IsOpenedNode cs n e.ended) mine e.is) e.weighs e.rights types a

pub all_ended : (cuts : ℕ → List Cut) (inbox : Inboxes) (all left : List RunNodeNow) (ends : List OpenedNow) (number : ℕ) → left ≡ [] → AreEnded cuts inbox all left ends number →
    AreOpenedNodes cuts all ends × AllByRecursion AreCentersOfTypes all
all_ended cuts inbox all left ends number none a =
    let e = all_gone all a.gone left a.split none in (
      subst (λ ns. AreOpenedNodes cuts ns ends) e a.opened,
      subst (AllByRecursion AreCentersOfTypes) e a.types,
    )

-- ---- nodes whose halves are joined, from the last one on

-- the halves of one
abbrev pub halves_of : OpenedNow → List LooseNow
halves_of o = o.left.opened ++ o.left.at_door ++ o.left.on_way

abbrev untold_of : OpenedNow → List LooseNow
untold_of o = map untold (halves_of o)

-- Of those behind the ones that are left this is left, the last one first, and their halves are these, where memory lasted so far.
pub record AreJoined {E : Type 0} (all left : List OpenedNow) (ends : List EndedNow) (moved : Result (Unit {0}) E) (loose : List LooseNow) : Type 0 where
  pub gone : List OpenedNow
  pub split : all ≡ left ++ gone
  pub ends_are : OnOk moved (reverse ends ≡ map ended_of gone)
  pub halves : OnOk moved (loose ≡ loose_in gone)

pub none_joined : {E : Type 0} (all : List OpenedNow) (ends : List EndedNow) (u : Unit {0}) (loose : List LooseNow) → ends ≡ [] → loose ≡ [] → AreJoined {E = E} all all ends (Ok u) loose
none_joined {E} all ends u loose none empty = record { gone = []; split = sym (append-nil all); ends_are = ap reverse none; halves = empty }

-- what is left of one more
left_of_one : (o : OpenedNow) (e : EndedNow) (was now : List LooseNow) → e.centers ≡ o.centers → e.halves ≡ length now - length was → now ≡ was ++ untold_of o → e ≡ ended_of o
left_of_one o e was now centers halves moves =
    let count : e.halves ≡ length (halves_of o) = omega (arith, halves, ap length moves, length-append was (untold_of o), length-map (halves_of o) untold) in
    ap (λ cs. record e { centers = cs }) centers ∙ ap (λ (n : ℕ). record (ended_of o) { halves = n }) count

more_ends : {E : Type 0} (before behind : Result (Unit {0}) E) (gone : List OpenedNow) (o : OpenedNow) (ends after : List EndedNow) (e : EndedNow) (was now : List LooseNow) → after ≡ ends ++ e ∷ [] →
    e.centers ≡ o.centers → e.halves ≡ length now - length was → OnOk behind (now ≡ was ++ untold_of o) → OnOk behind (before ≡ behind) → OnOk before (reverse ends ≡ map ended_of gone) →
    OnOk behind (reverse after ≡ map ended_of (o ∷ gone))
more_ends before (Err e) gone o ends after d was now pushed centers halves moves same old = tt
more_ends before (Ok u) gone o ends after d was now pushed centers halves moves same old =
    ap reverse pushed ∙ reverse_last ends d ∙ ap (λ x. x ∷ reverse ends) (left_of_one o d was now centers halves moves)
    ∙ ap (λ ds. ended_of o ∷ ds) (subst (λ r. OnOk r (reverse ends ≡ map ended_of gone)) same old)

more_halves : {E : Type 0} (before behind : Result (Unit {0}) E) (gone : List OpenedNow) (o : OpenedNow) (was now : List LooseNow) → OnOk behind (now ≡ was ++ untold_of o) →
    OnOk behind (before ≡ behind) → OnOk before (was ≡ loose_in gone) → OnOk behind (now ≡ loose_in (o ∷ gone))
more_halves before (Err e) gone o was now moves same old = tt
more_halves before (Ok u) gone o was now moves same old =
    moves ∙ ap (λ ls. ls ++ untold_of o) (subst (λ r. OnOk r (was ≡ loose_in gone)) same old) ∙ sym (joined_first untold_of o gone)

pub one_joined : {E : Type 0} (all left rest : List OpenedNow) (o : OpenedNow) (ends after : List EndedNow) (e : EndedNow) (before behind : Result (Unit {0}) E) (was now : List LooseNow) →
    left ≡ rest ++ o ∷ [] → after ≡ ends ++ e ∷ [] → e.centers ≡ o.centers → e.halves ≡ length now - length was → OnOk behind (now ≡ was ++ untold_of o) → OnOk behind (before ≡ behind) →
    AreJoined all left ends before was → AreJoined all rest after behind now
one_joined all left rest o ends after e before behind was now split pushed centers halves moves same a = record {
  gone = o ∷ a.gone;
  split = a.split ∙ ap (λ os. os ++ a.gone) split ∙ append_assoc rest (o ∷ []) a.gone;
  ends_are = more_ends before behind a.gone o ends after e was now pushed centers halves moves same a.ends_are;
  halves = more_halves before behind a.gone o was now moves same a.halves;
}

pub all_joined : {E : Type 0} (all left : List OpenedNow) (ends : List EndedNow) (u : Unit {0}) (loose : List LooseNow) → left ≡ [] → AreJoined {E = E} all left ends (Ok u) loose →
    (reverse ends ≡ map ended_of all) × (loose ≡ loose_in all)
all_joined all left ends u loose none a =
    let e : a.gone ≡ all = sym (a.split ∙ ap (λ os. os ++ a.gone) none) in
    (a.ends_are ∙ ap (map ended_of) e, a.halves ∙ ap loose_in e)
