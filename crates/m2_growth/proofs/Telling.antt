-- Ends that are told something stay met.
use Rattle.std.proofs.Common.{◌≡◌, ℕ, ◌||◌, Bool, true, false, if◌then◌else◌, List, [], ◌∷◌, ◌++◌, drop, map, Option, Some, None, refl, sym, ap, subst, ◌∙◌, append-nil}
use Rattle.std.specs.Prelude.{IfSome, IsSome, MatchOption, slice_get}
use Rattle.std.specs.List.{AllByRecursion}
use Rattle.std.specs.Option.{is_some, option_map}
use Rattle.std.proofs.lemmas.List.{take-append-drop}
use Rattle.m2_fabric.specs.End.{Inflow, SeenEnd}
use Rattle.m2_fabric.specs.Holder.{EndName, SeenHolder}
use Rattle.m2_fabric.specs.Sockets.{is_among}
use Rattle.m2_fabric.specs.InStep.{AreFirst, HasFirst, HaveWhatFlowed, IsInStep, Network, SeenFabric, end_of, put_by}
use Rattle.m2_fabric.specs.Kept.{directions, reader, same_end, writer}
use Rattle.m2_fabric.specs.News.{AreTold, Logs, Told, hears, is_about, is_closed, logs_of, progress_by, told_by, told_of, told_to}
use Rattle.m2_fabric.specs.SimFabric.{IsPassedOn, IsTold, Passes, fault_at}
use Rattle.m2_fabric.proofs.Flowing.{after_by, bytes_in, closed_stays, directions_after, failing_is_quiet, hears_is, put_stays, tells, tells_readable}
use Rattle.m2_fabric.proofs.Told.{end_equal}
use Rattle.m2_weave.specs.Later.{GoesOn}
use Rattle.m2_growth.specs.Ends.{come_to}
use Rattle.m2_growth.specs.InStepLaws.{AreMet, StayMet}
use Rattle.m2_growth.specs.Passed.{HasItsEnds, MadeHaveEnds, WaitingAreOpen}
use Rattle.m2_growth.specs.Turn.{CameOfPut}
use Rattle.m2_growth.proofs.Growing.{by_closed}
use Rattle.m2_fabric.proofs.m2_lemmas.Booleans.{false_isnt_true}

-- ---- one end

-- where no bytes are told nothing comes
come_told : (ts : List Told) (e : SeenEnd) → bytes_in ts ≡ [] → come_to (hears ts e) ≡ come_to e
come_told ts e none = ap come_to (hears_is ts e) ∙ at e.inflow
  where
    at : (i : Option Inflow) → option_map (λ (i : Inflow). e.log.got ++ i.readable) (option_map (tells ts) i) ≡ option_map (λ (i : Inflow). e.log.got ++ i.readable) i
    at None = refl
    at (Some i) = ap (λ l. Some (e.log.got ++ l)) (tells_readable ts i ∙ (ap (λ l. i.readable ++ l) none ∙ append-nil i.readable))

pub told_came : (ts us : List Told) (r w : Option SeenEnd) → bytes_in ts ≡ [] → CameOfPut r w → CameOfPut (option_map (hears ts) r) (option_map (hears us) w)
told_came ts us None w none came = tt
told_came ts us (Some e) w none came =
    subst (λ l. IfSome (come_to (hears ts e)) (λ bytes. GoesOn bytes l)) (sym (put_stays us w))
    (subst (λ o. IfSome o (λ bytes. GoesOn bytes (put_by w))) (sym (come_told ts e none)) came)

-- what flowed had been put
flowed_came : (n : ℕ) (put : List ℕ) (e : SeenEnd) → HasFirst n put e → IfSome (come_to e) (λ bytes. GoesOn bytes put)
flowed_came n put e first = at e.inflow first
  where
    at : (i : Option Inflow) → MatchOption i ⊥ (λ (i : Inflow). AreFirst n put (e.log.got ++ i.readable)) →
        IfSome (option_map (λ (i : Inflow). e.log.got ++ i.readable) i) (λ bytes. GoesOn bytes put)
    at None f = absurd f
    at (Some i) f = (drop n put, sym (take-append-drop n put) ∙ ap (λ l. l ++ drop n put) (sym f.same))

-- what flowed to an open end
abbrev Flowed : ℕ → (reads writes : Option SeenEnd) → Type 0
Flowed n r w = IfSome r (λ (e : SeenEnd). e.log.closed ≡ false → HasFirst n (put_by w) e)

-- no bytes are told to a closed end
abbrev IsQuiet : List Told → Option SeenEnd → Type 0
IsQuiet ts r = IfSome r (λ (e : SeenEnd). e.log.closed ≡ true → bytes_in ts ≡ [])

passed_came : (n : ℕ) (ts us : List Told) (r w : Option SeenEnd) → Flowed n (option_map (hears ts) r) (option_map (hears us) w) → IsQuiet ts r → CameOfPut r w →
    CameOfPut (option_map (hears ts) r) (option_map (hears us) w)
passed_came n ts us None w flowed quiet came = tt
passed_came n ts us (Some e) w flowed quiet came =
    by_closed e.log.closed
    (λ shut. told_came ts us (Some e) w (quiet shut) came)
    (λ opened. flowed_came n (put_by (option_map (hears us) w)) (hears ts e) (flowed (closed_stays ts e ∙ opened)))

-- ends that are as others were told
by_ends : (P Q : Option SeenEnd → Option SeenEnd → Type 0) (r s w x : Option SeenEnd) → s ≡ r → x ≡ w → (P r w → Q r w) → P s x → Q s x
by_ends P Q r s w x reads writes so = subst (λ o. P o x → Q o x) (sym reads) (subst (λ o. P r o → Q r o) (sym writes) so)

-- ---- a closed end is told nothing

told_none : (about over shut : Bool) (ts : List Told) → shut ≡ true → (if about then (if over || shut then [] else ts) else []) ≡ []
told_none false over shut ts is = refl
told_none true true shut ts is = refl
told_none true false true ts is = refl
told_none true false false ts is = absurd (false_isnt_true is)

closed_told : (what : _) (l : Logs) (ds : _) (e : EndName) → is_closed (l e) ≡ true → told_to what l ds e ≡ []
closed_told what l [] e shut = refl
closed_told what l (d ∷ ds) e shut = by_name (same_end (reader d) e) refl (closed_told what l ds e shut)
  where
    by_name : (s : Bool) → same_end (reader d) e ≡ s → told_to what l ds e ≡ [] → (if s then told_by what l d else []) ++ told_to what l ds e ≡ []
    by_name false is rest = rest
    by_name true is rest =
        ap (λ ts. ts ++ told_to what l ds e)
        (told_none (is_about what d) d.progress.over (is_closed (l (reader d))) (told_of what.most d.progress (l (writer d))) (ap (λ e. is_closed (l e)) (end_equal (reader d) e is) ∙ shut))
        ∙ rest

-- an end that is closed doesn't wait, so its log tells it
log_closed : (h : SeenHolder) (e : EndName) (s : SeenEnd) → WaitingAreOpen h → h.ends e.node e.id ≡ Some s → s.log.closed ≡ true → is_closed (logs_of h e) ≡ true
log_closed h e s opens is shut = at (h.waits e.node e.id) refl
  where
    at : (w : Bool) → h.waits e.node e.id ≡ w → is_closed (option_map (λ (s : SeenEnd). s.log) (if w then None else h.ends e.node e.id)) ≡ true
    at true waits = absurd (false_isnt_true (sym (subst (λ o. MatchOption o ⊥ (λ (e : SeenEnd). e.log.closed ≡ false)) is (opens e.node e.id waits)) ∙ shut))
    at false waits = ap (λ o. is_closed (option_map (λ (s : SeenEnd). s.log) o)) is ∙ shut

quiet_end : (what : _) (ds : _) (h : SeenHolder) (e : EndName) (o : Option SeenEnd) → WaitingAreOpen h → h.ends e.node e.id ≡ o → IsQuiet (told_to what (logs_of h) ds e) o
quiet_end what ds h e None opens is = tt
quiet_end what ds h e (Some s) opens is = λ shut. ap bytes_in (closed_told what (logs_of h) ds e (log_closed h e s opens is shut))

-- ---- all directions

-- what is said of their ends, whatever flowed
pub behind : (P : EndName → EndName → Type 0) (what : _) (l : Logs) (ds : _) → AllByRecursion (λ d. P (reader d) (writer d)) ds → AllByRecursion (λ d. P (reader d) (writer d)) (map (after_by what l) ds)
behind P what l [] all = tt
behind P what l (d ∷ ds) all = (all.0, behind P what l ds all.1)

there_told : (ts : List Told) (o p : Option SeenEnd) → p ≡ option_map (hears ts) o → IsSome o → IsSome p
there_told ts None p is there = absurd (false_isnt_true there)
there_told ts (Some e) p is there = ap is_some is

pub ends_told : (f : EndName → List Told) (a b : SeenHolder) (ds : _) → AreTold f a b → AllByRecursion (λ d. IsSome (end_of a (reader d))) ds → AllByRecursion (λ d. IsSome (end_of b (reader d))) ds
ends_told f a b [] t there = tt
ends_told f a b (d ∷ ds) t there =
    (there_told (f (reader d)) (end_of a (reader d)) (end_of b (reader d)) (t.ends (reader d)) there.0, ends_told f a b ds t there.1)

came_passed : (what : _) (a b : SeenHolder) (all ds : _) → AreTold (told_to what (logs_of a) all) a b → WaitingAreOpen a → HaveWhatFlowed b (map (after_by what (logs_of a)) ds) →
    AllByRecursion (λ d. CameOfPut (end_of a (reader d)) (end_of a (writer d))) ds → AllByRecursion (λ d. CameOfPut (end_of b (reader d)) (end_of b (writer d))) ds
came_passed what a b all [] t opens flowed came = tt
came_passed what a b all (d ∷ ds) t opens flowed came =
    let l = logs_of a in
    let r = reader d in
    let w = writer d in
    let n : ℕ = (progress_by what l d).flowed in
    let ts : List Told = told_to what l all r in
    let us : List Told = told_to what l all w in (
      by_ends (Flowed n) CameOfPut (option_map (hears ts) (end_of a r)) (end_of b r) (option_map (hears us) (end_of a w)) (end_of b w) (t.ends r) (t.ends w)
          (λ has. passed_came n ts us (end_of a r) (end_of a w) has (quiet_end what all a r (end_of a r) opens refl) came.0) flowed.0,
      came_passed what a b all ds t opens flowed.1 came.1,
    )

came_told : (f : EndName → List Told) (a b : SeenHolder) (ds : _) → ((e : EndName) → bytes_in (f e) ≡ []) → AreTold f a b →
    AllByRecursion (λ d. CameOfPut (end_of a (reader d)) (end_of a (writer d))) ds → AllByRecursion (λ d. CameOfPut (end_of b (reader d)) (end_of b (writer d))) ds
came_told f a b [] quiet t came = tt
came_told f a b (d ∷ ds) quiet t came =
    let r = reader d in
    let w = writer d in (
      by_ends (λ r w. Unit {0}) CameOfPut (option_map (hears (f r)) (end_of a r)) (end_of b r) (option_map (hears (f w)) (end_of a w)) (end_of b w) (t.ends r) (t.ends w)
          (λ none. told_came (f r) (f w) (end_of a r) (end_of a w) (quiet r) came.0) tt,
      came_told f a b ds quiet t came.1,
    )

-- ---- all of it

pub passed_met : (what : _) (old new : Network) → IsPassedOn what old new → IsInStep new → WaitingAreOpen old.holder → AreMet old → AreMet new
passed_met what old new p step opens met =
    let l = logs_of old.holder in
    let ds = directions old.fabric.pairs in
    let same = ap directions p.pairs ∙ directions_after what l old.fabric.pairs in record {
      ends = subst (λ ds. AllByRecursion (λ d. IsSome (end_of new.holder (reader d))) ds) (sym same)
          (behind (λ r w. IsSome (end_of new.holder r)) what l ds (ends_told (told_to what l ds) old.holder new.holder ds p.told met.ends));
      came = subst (λ ds. AllByRecursion (λ d. CameOfPut (end_of new.holder (reader d)) (end_of new.holder (writer d))) ds) (sym same)
          (behind (λ r w. CameOfPut (end_of new.holder r) (end_of new.holder w)) what l ds
          (came_passed what old.holder new.holder ds ds p.told opens (subst (HaveWhatFlowed new.holder) same step.kept) met.came));
    }

pub told_met : (f : EndName → List Told) (old new : Network) → ((e : EndName) → bytes_in (f e) ≡ []) → IsTold f old new → AreMet old → AreMet new
told_met f old new quiet t met =
    let ds = directions old.fabric.pairs in
    subst (λ (fabric : SeenFabric). StayMet fabric new.holder) (sym t.fabric) (record {
      ends = ends_told f old.holder new.holder ds t.told met.ends;
      came = came_told f old.holder new.holder ds quiet t.told met.came;
    })

-- what flows, or nothing
pub passes_met : (what : _) (old new : Network) → Passes what old new → IsInStep new → WaitingAreOpen old.holder → AreMet old → AreMet new
passes_met None old new p step opens met = told_met (λ e. []) old new (λ e. refl) p met
passes_met (Some what) old new p step opens met = passed_met what old new p step opens met

-- by a fault no bytes come
pub fault_is_quiet : (a : ℕ) (l : Logs) (which : _) (e : EndName) → bytes_in (fault_at a l which e) ≡ []
fault_is_quiet a l None e = refl
fault_is_quiet a l (Some k) e = failing_is_quiet a l k.id e

-- ---- ends stay there

open_told : (ts : List Told) (o p : Option SeenEnd) → p ≡ option_map (hears ts) o → MatchOption o ⊥ (λ (e : SeenEnd). e.log.closed ≡ false) → MatchOption p ⊥ (λ (e : SeenEnd). e.log.closed ≡ false)
open_told ts None p is opened = absurd opened
open_told ts (Some e) p is opened = subst (λ o. MatchOption o ⊥ (λ (e : SeenEnd). e.log.closed ≡ false)) (sym is) (closed_stays ts e ∙ opened)

pub made_told : (f : EndName → List Told) (a b : SeenHolder) → AreTold f a b → MadeHaveEnds a → MadeHaveEnds b
made_told f a b t made = λ node k is.
    let e : EndName = record { node = node; id = k } in
    there_told (f e) (a.ends node k) (b.ends node k) (t.ends e) (made node k (ap (is_among k) (sym (t.made node)) ∙ is))

pub waiting_told : (f : EndName → List Told) (a b : SeenHolder) → AreTold f a b → WaitingAreOpen a → WaitingAreOpen b
waiting_told f a b t opens = λ node k waits.
    let e : EndName = record { node = node; id = k } in
    open_told (f e) (a.ends node k) (b.ends node k) (t.ends e) (opens node k (sym (t.waits e) ∙ waits))

pub told_keeps : (f : EndName → List Told) (old new : Network) → AreTold f old.holder new.holder → new.fabric.nodes ≡ old.fabric.nodes → HasItsEnds old → HasItsEnds new
told_keeps f old new t nodes has = record {
  made = made_told f old.holder new.holder t has.made;
  waiting = waiting_told f old.holder new.holder t has.waiting;
  places = λ node at is. t.at node ∙ has.places node at (ap (λ ns. slice_get ns node) (sym nodes) ∙ is);
}

pub is_told_keeps : (f : EndName → List Told) (old new : Network) → IsTold f old new → HasItsEnds old → HasItsEnds new
is_told_keeps f old new t has = told_keeps f old new t.told (ap (λ (f : SeenFabric). f.nodes) t.fabric) has

pub passes_keeps : (what : _) (old new : Network) → Passes what old new → HasItsEnds old → HasItsEnds new
passes_keeps None old new p has = is_told_keeps (λ e. []) old new p has
passes_keeps (Some what) old new p has = told_keeps (told_to what (logs_of old.holder) (directions old.fabric.pairs)) old new p.told p.nodes has
