-- Ends that grow, beside what flowed between them.
use Rattle.std.proofs.Common.{◌≡◌, ℕ, zero, suc, ◌≤◌, Bool, true, false, List, [], ◌∷◌, ◌++◌, length, take, Option, Some, None, refl, sym, ap, subst, ◌∙◌, arith, append_assoc, length-append}
use Rattle.std.specs.Prelude.{IfSome, IsSome, MatchOption, is_some, unwrap_or}
use Rattle.std.specs.List.{AllByRecursion}
use Rattle.std.specs.Option.{option_map}
use Rattle.m2_fabric.specs.End.{Inflow, SeenEnd}
use Rattle.m2_fabric.specs.Holder.{SeenHolder}
use Rattle.m2_fabric.specs.InStep.{AreFirst, HasFirst, HaveWhatFlowed, IsUnread, end_of, put_by}
use Rattle.m2_fabric.specs.Kept.{reader, writer}
use Rattle.m2_weave.specs.Later.{GoesOn}
use Rattle.m2_growth.specs.Ends.{EndGrowsTo, IsNewborn, come_to}
use Rattle.m2_growth.specs.Turn.{AllEndsGrow, CameOfPut}
use Rattle.m2_fabric.proofs.m2_lemmas.Booleans.{false_isnt_true}

-- ---- lists

pub empty_front : (xs ys : List ℕ) → xs ++ ys ≡ [] → (xs ≡ []) × (ys ≡ [])
empty_front [] ys e = (refl, e)
empty_front (x ∷ xs) ys e = absurd (omega (arith, ap length e))

take_front : (n : ℕ) (xs ys : List ℕ) → n ≤ length xs → take n (xs ++ ys) ≡ take n xs
take_front zero xs ys fits = refl
take_front (suc n) [] ys fits = absurd (omega (arith, fits))
take_front (suc n) (x ∷ xs) ys fits = ap (λ l. x ∷ l) (take_front n xs ys (omega (arith, fits)))

first_of_more : (n : ℕ) (whole more part : List ℕ) → AreFirst n whole part → AreFirst n (whole ++ more) part
first_of_more n whole more part f = record {
  some = omega (arith, f.some, length-append whole more);
  same = f.same ∙ sym (take_front n whole more f.some);
}

-- ---- one end

put_grows : (o p : Option SeenEnd) → EndGrowsTo o p → GoesOn (put_by o) (put_by p)
put_grows (Some e) (Some f) g = g.put
put_grows (Some e) None g = absurd g
put_grows None (Some f) g = (f.log.put, refl)
put_grows None None g = ([], refl)

pub still_there : (o p : Option SeenEnd) → EndGrowsTo o p → IsSome o → IsSome p
still_there (Some e) (Some f) g s = refl
still_there (Some e) None g s = absurd g
still_there None p g s = absurd (false_isnt_true s)

-- what came to it in memory
has_first : (n : ℕ) (put more : List ℕ) (e f : SeenEnd) → come_to f ≡ come_to e → HasFirst n put e → HasFirst n (put ++ more) f
has_first n put more e f same h = at e.inflow f.inflow h same
  where
    at : (i j : Option Inflow) → MatchOption i ⊥ (λ (i : Inflow). AreFirst n put (e.log.got ++ i.readable)) →
        option_map (λ (i : Inflow). f.log.got ++ i.readable) j ≡ option_map (λ (i : Inflow). e.log.got ++ i.readable) i →
        MatchOption j ⊥ (λ (j : Inflow). AreFirst n (put ++ more) (f.log.got ++ j.readable))
    at None j h same = absurd h
    at (Some i) None h same = absurd (false_isnt_true (ap is_some same))
    at (Some i) (Some j) h same =
        subst (λ l. AreFirst n (put ++ more) l) (sym (ap (λ o. unwrap_or o []) same)) (first_of_more n put more (e.log.got ++ i.readable) h)

-- ---- in step

pub by_closed : {P : Type 0} → (b : Bool) → (b ≡ true → P) → (b ≡ false → P) → P
by_closed {P} true shut apart = shut refl
by_closed {P} false shut apart = apart refl

-- what flowed to an open end
flowed_to : (n : ℕ) (put : List ℕ) (o p : Option SeenEnd) (put_then : List ℕ) → EndGrowsTo o p → IsSome o → GoesOn put put_then →
    IfSome o (λ e. e.log.closed ≡ false → HasFirst n put e) → IfSome p (λ f. f.log.closed ≡ false → HasFirst n put_then f)
flowed_to n put None p put_then g s more h = absurd (false_isnt_true s)
flowed_to n put (Some e) None put_then g s more h = absurd g
flowed_to n put (Some e) (Some f) put_then g s more h =
    λ open_now. by_closed e.log.closed
    (λ closed. absurd (false_isnt_true (sym open_now ∙ g.closed closed)))
    (λ open_then. subst (λ l. HasFirst n l f) (sym more.1) (has_first n put more.0 e f g.come (h open_then)))

pub all_flowed : (old new : SeenHolder) (ds : _) → AllEndsGrow old new → AllByRecursion (λ d. IsSome (end_of old (reader d))) ds → HaveWhatFlowed old ds → HaveWhatFlowed new ds
all_flowed old new [] g there flowed = tt
all_flowed old new (d ∷ ds) g there flowed = (
  flowed_to d.progress.flowed (put_by (end_of old (writer d))) (end_of old (reader d)) (end_of new (reader d)) (put_by (end_of new (writer d)))
      (g.ends d.to d.id) there.0 (put_grows (end_of old (writer d)) (end_of new (writer d)) (g.ends d.from d.id)) flowed.0,
  all_flowed old new ds g there.1 flowed.1,
)

-- an end to which nothing flows
nothing_came : (e : SeenEnd) (i : Option Inflow) → e.inflow ≡ i → IsSome i → IsNewborn e → IsUnread e
nothing_came e None is s n = absurd (false_isnt_true s)
nothing_came e (Some i) is s n =
    let none = empty_front e.log.got i.readable (subst (λ o. IfSome (option_map (λ (i : Inflow). e.log.got ++ i.readable) o) (λ bytes. bytes ≡ [])) is n) in
    record { got = none.0; readable = subst (λ o. MatchOption o ⊥ (λ (i : Inflow). i.readable ≡ [])) (sym is) none.1 }

pub unread_came : (e : SeenEnd) (i : Option Inflow) → e.inflow ≡ i → IsUnread e → come_to e ≡ Some []
unread_came e None is u = absurd (subst (λ o. MatchOption o ⊥ (λ (i : Inflow). i.readable ≡ [])) is u.readable)
unread_came e (Some i) is u =
    ap (option_map (λ (i : Inflow). e.log.got ++ i.readable)) is
    ∙ ap Some (ap (λ l. l ++ i.readable) u.got ∙ subst (λ o. MatchOption o ⊥ (λ (i : Inflow). i.readable ≡ [])) is u.readable)

pub unread_grows : (o p : Option SeenEnd) → EndGrowsTo o p → IfSome p (λ f. IsSome f.inflow) → IfSome o IsUnread → IfSome p IsUnread
unread_grows o None g m u = tt
unread_grows None (Some f) g m u = nothing_came f f.inflow refl m g
unread_grows (Some e) (Some f) g m u =
    nothing_came f f.inflow refl m (subst (λ o. IfSome o (λ bytes. bytes ≡ [])) (sym (g.come ∙ unread_came e e.inflow refl u)) refl)

-- ---- met

pub all_there : (old new : SeenHolder) (ds : _) → AllEndsGrow old new → AllByRecursion (λ d. IsSome (end_of old (reader d))) ds → AllByRecursion (λ d. IsSome (end_of new (reader d))) ds
all_there old new [] g there = tt
all_there old new (d ∷ ds) g there =
    (still_there (end_of old (reader d)) (end_of new (reader d)) (g.ends d.to d.id) there.0, all_there old new ds g there.1)

came_so : (o p : Option SeenEnd) (put put_then : List ℕ) → EndGrowsTo o p → IsSome o → GoesOn put put_then →
    IfSome o (λ e. IfSome (come_to e) (λ bytes. GoesOn bytes put)) → IfSome p (λ e. IfSome (come_to e) (λ bytes. GoesOn bytes put_then))
came_so None p put put_then g s more h = absurd (false_isnt_true s)
came_so (Some e) None put put_then g s more h = absurd g
came_so (Some e) (Some f) put put_then g s more h =
    subst (λ o. IfSome o (λ bytes. GoesOn bytes put_then)) (sym g.come) (at (come_to e) h)
  where
    at : (o : Option (List ℕ)) → IfSome o (λ bytes. GoesOn bytes put) → IfSome o (λ bytes. GoesOn bytes put_then)
    at None h = tt
    at (Some bytes) h = (h.0 ++ more.0, more.1 ∙ ap (λ l. l ++ more.0) h.1 ∙ append_assoc bytes h.0 more.0)

pub all_came : (old new : SeenHolder) (ds : _) → AllEndsGrow old new → AllByRecursion (λ d. IsSome (end_of old (reader d))) ds → AllByRecursion (λ d. CameOfPut (end_of old (reader d)) (end_of old (writer d))) ds → AllByRecursion (λ d. CameOfPut (end_of new (reader d)) (end_of new (writer d))) ds
all_came old new [] g there came = tt
all_came old new (d ∷ ds) g there came = (
  came_so (end_of old (reader d)) (end_of new (reader d)) (put_by (end_of old (writer d))) (put_by (end_of new (writer d)))
      (g.ends d.to d.id) there.0 (put_grows (end_of old (writer d)) (end_of new (writer d)) (g.ends d.from d.id)) came.0,
  all_came old new ds g there.1 came.1,
)
