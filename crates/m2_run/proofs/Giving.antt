-- What a node gives back to the fabric: the ends inside those of its records and halves, and what its dispatchers were called with.
use Rattle.std.proofs.Common.{◌≡◌, ℕ, zero, suc, Bool, true, Option, List, [], ◌∷◌, ◌++◌, map, reverse, take, sym, ap, subst, refl, ◌∙◌, append_assoc, arith, length}
use Rattle.std.specs.Prelude.{IfOk, OnOk, Result, Ok, Err}
use Rattle.std.specs.List.{flat_map}
use Rattle.std.specs.Option.{option_to_list}
use Rattle.std.proofs.lemmas.List.{append-nil, map-append, reverse-reverse}
use Rattle.std.proofs.lemmas.List.Concat.{flat_map-append}
use Rattle.m2_dispatch.specs.declared.logged.Logged.{Logged}
use Rattle.m2_fabric.specs.End.{SeenEnd}
use Rattle.m2_fabric.specs.Fabric.{Gathered, SeenFabric}
use Rattle.m2_fabric.specs.Port.{SeenPort}
use Rattle.m2_fabric.specs.declared.port.Cut.{Cut}
use Rattle.m2_fabric.specs.declared.socket.SocketId.{SocketId}
use Rattle.m2_handover.specs.End.{told_nothing}
use Rattle.m2_node.specs.m2_script.m2_record.RecordNow.{RecordNow}
use Rattle.m2_trail.specs.Arrivals.{LooseNow}
use Rattle.m2_run.specs.Cuts.{AreEndsOver, IsEndOver, bound_of}
use Rattle.m2_node.specs.Ends.{RunEndNow, seen_end}
use Rattle.m2_run.specs.Gathering.{GathersIf, GivenNow, Gives, GivesBack, Opens, OpensHalves}
use Rattle.m2_run.specs.Kept.{ends_of_record}
use Rattle.m2_node.specs.Lists.{joined}
use Rattle.m2_run.specs.Rests.{EndedCenterNow, EndedNow}
use Rattle.m2_node.proofs.Beside.{joined_one, next_turned, side_both}
use Rattle.m2_node.proofs.Places.{reverse_last}

-- an end over one that was handed over and on which all was done again is over the one inside
pub over_inner : (bound : Option ℕ) (e mid inner : SeenEnd) → IsEndOver bound e mid → mid ≡ told_nothing inner → IsEndOver bound e inner
over_inner bound e mid inner is same =
    let o = subst (IsEndOver bound e) same is in
    record { id = o.id; log = o.log; within = o.within; counted = o.counted; cause = o.cause }

pub ok_so : {A E : Type 0} (P Q : A → Type 0) (r : Result A E) → ((x : A) → P x → Q x) → IfOk r P → IfOk r Q
ok_so P Q (Ok x) f p = f x p
ok_so P Q (Err e) f p = tt

module _ (cuts : List Cut) (made : List SocketId) where
  -- ---- ends

  pub opens_none : (now : List SeenEnd) → Opens cuts made [] now now
  opens_none now = record { behind = []; split = sym (append-nil now); over = tt }

  opens_first : (e inner : SeenEnd) (ends now all : List SeenEnd) → IsEndOver (bound_of cuts made e.id) e inner → Opens cuts made ends (now ++ inner ∷ []) all → Opens cuts made (e ∷ ends) now all
  opens_first e inner ends now all is o = record { behind = inner ∷ o.behind; split = o.split ∙ append_assoc now (inner ∷ []) o.behind; over = (is, o.over) }

  over_both : (xs ys us vs : List SeenEnd) → AreEndsOver cuts made xs ys → AreEndsOver cuts made us vs → AreEndsOver cuts made (xs ++ us) (ys ++ vs)
  over_both [] [] us vs a b = b
  over_both [] (y ∷ ys) us vs a b = elim a [ ]
  over_both (x ∷ xs) [] us vs a b = elim a [ ]
  over_both (x ∷ xs) (y ∷ ys) us vs a b = (a.0, over_both xs ys us vs a.1 b)

  opens_both : (ends more old mid new : List SeenEnd) → Opens cuts made ends old mid → Opens cuts made more mid new → Opens cuts made (ends ++ more) old new
  opens_both ends more old mid new a b = record {
    behind = a.behind ++ b.behind;
    split = b.split ∙ ap (λ es. es ++ b.behind) a.split ∙ append_assoc old a.behind b.behind;
    over = over_both ends a.behind more b.behind a.over b.over;
  }

  -- none is left
  pub opened : {X : Type 0} (see : X → SeenEnd) (left : List X) (now : List SeenEnd) → length left ≡ 0 → Opens cuts made (map see left) now now
  opened see [] now none = opens_none now
  opened see (x ∷ xs) now none = absurd (omega (arith, none))

  -- one more is put last, of those that are left
  pub one_end : {X : Type 0} (seen : X → SeenEnd) (into new : List X) (from rest : List RunEndNow) (x : X) (b : RunEndNow) (all : List SeenEnd) → from ≡ b ∷ rest → new ≡ into ++ x ∷ [] →
      IsEndOver (bound_of cuts made (seen_end b).id) (seen_end b) (seen x) → Opens cuts made (map seen_end rest) (map seen new) all → Opens cuts made (map seen_end from) (map seen into) all
  one_end seen into new from rest x b all e f is o =
      subst (λ ys. Opens cuts made (map seen_end ys) (map seen into) all) (sym e)
      (opens_first (seen_end b) (seen x) (map seen_end rest) (map seen into) all is
      (subst (λ es. Opens cuts made (map seen_end rest) es all) (ap (map seen) f ∙ map-append seen into (x ∷ [])) o))

  -- ---- records

  -- the first ones are all of them
  pub none_given : (records now : List RecordNow) (into all : List SeenEnd) → now ≡ reverse records →
      Opens cuts made (flat_map ends_of_record (reverse now)) into all → Opens cuts made (flat_map ends_of_record records) into all
  none_given records now into all e o = subst (λ rs. Opens cuts made (flat_map ends_of_record rs) into all) (ap reverse e ∙ reverse-reverse records) o

  -- the ends of one more, in front of those of the ones that are left
  ends_first : (records rest : List RecordNow) (r : RecordNow) (ends : List SeenEnd) → records ≡ rest ++ r ∷ [] → ends ≡ ends_of_record r →
      flat_map ends_of_record (reverse records) ≡ ends ++ flat_map ends_of_record (reverse rest)
  ends_first records rest r ends e its =
      ap (λ rs. flat_map ends_of_record rs) (ap reverse e ∙ reverse_last rest r) ∙ ap (λ es. es ++ flat_map ends_of_record (reverse rest)) (sym its)

  pub one_record : {E : Type 0} (before behind : Result (Unit {0}) E) (first into new : List SeenEnd) (ends : List RunEndNow) (given records rest : List RecordNow) (r : RecordNow) →
      records ≡ rest ++ r ∷ [] → map seen_end ends ≡ ends_of_record r → OnOk behind (Opens cuts made (map seen_end ends) into new) → OnOk behind (before ≡ behind) →
      OnOk before ((all : List SeenEnd) → Opens cuts made (flat_map ends_of_record (reverse records)) into all → Opens cuts made (flat_map ends_of_record given) first all) →
      OnOk behind ((all : List SeenEnd) → Opens cuts made (flat_map ends_of_record (reverse rest)) new all → Opens cuts made (flat_map ends_of_record given) first all)
  one_record before (Err e) first into new ends given records rest r split its gives same old = tt
  one_record before (Ok u) first into new ends given records rest r split its gives same old = λ all o.
      subst (λ g. OnOk g ((xs : List SeenEnd) → Opens cuts made (flat_map ends_of_record (reverse records)) into xs → Opens cuts made (flat_map ends_of_record given) first xs)) same old all
      (subst (λ es. Opens cuts made es into all) (sym (ends_first records rest r (map seen_end ends) split its))
      (opens_both (map seen_end ends) (flat_map ends_of_record (reverse rest)) into new all gives o))

  -- all of them, where none is left
  pub none_left : {E : Type 0} (so : Result (Unit {0}) E) (first into : List SeenEnd) (given records : List RecordNow) → records ≡ [] →
      OnOk so ((all : List SeenEnd) → Opens cuts made (flat_map ends_of_record (reverse records)) into all → Opens cuts made (flat_map ends_of_record given) first all) →
      OnOk so (Opens cuts made (flat_map ends_of_record given) first into)
  none_left (Err e) first into given records none old = tt
  none_left (Ok u) first into given records none old =
      old into (subst (λ rs. Opens cuts made (flat_map ends_of_record (reverse rs)) into into) (sym none) (opens_none into))

-- ---- halves

halves_none : (now : List SeenEnd) → OpensHalves [] now now
halves_none now = record { behind = []; split = sym (append-nil now); are = refl }

halves_first : (l : LooseNow) (inner : SeenEnd) (halves : List LooseNow) (now all : List SeenEnd) → l.end ≡ told_nothing inner → OpensHalves halves (now ++ inner ∷ []) all → OpensHalves (l ∷ halves) now all
halves_first l inner halves now all is o = record {
  behind = inner ∷ o.behind;
  split = o.split ∙ append_assoc now (inner ∷ []) o.behind;
  are = ap (λ e. e ∷ map (λ (h : LooseNow). h.end) halves) is ∙ ap (λ es. told_nothing inner ∷ es) o.are;
}

-- the end of one half more
pub one_half : {X : Type 0} (seen : X → SeenEnd) (into new : List X) (from rest : List LooseNow) (x : X) (l : LooseNow) (n m : ℕ) (all : List SeenEnd) → from ≡ l ∷ rest → n ≡ suc m →
    new ≡ into ++ x ∷ [] → l.end ≡ told_nothing (seen x) → OpensHalves (take m rest) (map seen new) all → OpensHalves (take n from) (map seen into) all
one_half seen into new from rest x l n m all e few f is o =
    subst (λ ls. OpensHalves ls (map seen into) all) (sym (ap (take n) e ∙ ap (λ (k : ℕ). take k (l ∷ rest)) few))
    (halves_first l (seen x) (take m rest) (map seen into) all is
    (subst (λ es. OpensHalves (take m rest) es all) (ap (map seen) f ∙ map-append seen into (x ∷ [])) o))

-- none of the halves is left, or none is to be given
pub none_of : (n : ℕ) (left : List LooseNow) (now : List SeenEnd) → length left ≡ 0 → OpensHalves (take n left) now now
none_of zero left now none = halves_none now
none_of (suc n) [] now none = halves_none now
none_of (suc n) (l ∷ ls) now none = absurd (omega (arith, none))

pub first_none : (n : ℕ) (left : List LooseNow) (now : List SeenEnd) → n ≡ 0 → OpensHalves (take n left) now now
first_none n left now none = subst (λ (k : ℕ). OpensHalves (take k left) now now) (sym none) (halves_none now)

-- ---- threads

abbrev ports_in : List EndedCenterNow → List SeenPort
ports_in centers = flat_map (λ (c : EndedCenterNow). option_to_list c.port) centers

abbrev fast_of : List EndedCenterNow → List Logged
fast_of centers = flat_map (λ (c : EndedCenterNow). c.fast) centers

abbrev EndsOfCenter : List Cut → EndedCenterNow → List SeenEnd → Type 0
EndsOfCenter cuts c es = AreEndsOver cuts c.made (flat_map ends_of_record c.records) es

-- one gives
pub center_gives : (cuts : List Cut) (c : EndedCenterNow) (old new : GivenNow) → Opens cuts c.made (flat_map ends_of_record c.records) old.ends new.ends →
    new.ports ≡ old.ports ++ option_to_list c.port → new.fast ≡ old.fast ++ c.fast → Gives cuts (c ∷ []) old new
center_gives cuts c old new ends ports fast = record {
  ends_of_each = ends.behind ∷ [];
  ports = ports ∙ ap (λ ps. old.ports ++ ps) (sym (append-nil (option_to_list c.port)));
  ends = ends.split ∙ ap (λ es. old.ends ++ es) (sym (joined_one ends.behind));
  over = (ends.over, tt);
  fast = fast ∙ ap (λ ls. old.fast ++ ls) (sym (append-nil c.fast));
}

-- what goes behind, and what goes behind that
behind_both : {X A : Type 0} (f : X → List A) (xs ys : List X) (old mid new : List A) → mid ≡ old ++ flat_map f xs → new ≡ mid ++ flat_map f ys → new ≡ old ++ flat_map f (xs ++ ys)
behind_both f xs ys old mid new a b =
    b ∙ ap (λ zs. zs ++ flat_map f ys) a ∙ append_assoc old (flat_map f xs) (flat_map f ys) ∙ ap (λ zs. old ++ zs) (sym (flat_map-append f xs ys))

gives_both : (cuts : List Cut) (cs ds : List EndedCenterNow) (old mid new : GivenNow) → Gives cuts cs old mid → Gives cuts ds mid new → Gives cuts (cs ++ ds) old new
gives_both cuts cs ds old mid new a b = record {
  ends_of_each = a.ends_of_each ++ b.ends_of_each;
  ports = behind_both (λ (c : EndedCenterNow). option_to_list c.port) cs ds old.ports mid.ports new.ports a.ports b.ports;
  ends = behind_both (λ es. es) a.ends_of_each b.ends_of_each old.ends mid.ends new.ends a.ends b.ends;
  over = side_both (EndsOfCenter cuts) cs a.ends_of_each ds b.ends_of_each a.over b.over;
  fast = behind_both (λ (c : EndedCenterNow). c.fast) cs ds old.fast mid.fast new.fast a.fast b.fast;
}

-- Those before the ones that are left, which are turned round, have given.
pub record HaveGiven (cuts : List Cut) (all left : List EndedCenterNow) (old now : GivenNow) : Type 0 where
  pub gone : List EndedCenterNow
  pub split : all ≡ gone ++ reverse left
  pub gives : Gives cuts gone old now

pub none_have_given : (cuts : List Cut) (all left : List EndedCenterNow) (now : GivenNow) → left ≡ reverse all → HaveGiven cuts all left now now
none_have_given cuts all left now turned = record {
  gone = [];
  split = sym (ap reverse turned ∙ reverse-reverse all);
  gives = record {
    ends_of_each = [];
    ports = sym (append-nil now.ports);
    ends = sym (append-nil now.ends);
    over = tt;
    fast = sym (append-nil now.fast);
  };
}

pub one_has_given : (cuts : List Cut) (all left rest : List EndedCenterNow) (c : EndedCenterNow) (old now new : GivenNow) → left ≡ rest ++ c ∷ [] → Gives cuts (c ∷ []) now new →
    HaveGiven cuts all left old now → HaveGiven cuts all rest old new
one_has_given cuts all left rest c old now new split gives a = record {
  gone = a.gone ++ c ∷ [];
  split = next_turned all a.gone left rest c a.split split;
  gives = gives_both cuts a.gone (c ∷ []) old now new a.gives gives;
}

pub all_have_given : (cuts : List Cut) (all left : List EndedCenterNow) (old now : GivenNow) → left ≡ [] → HaveGiven cuts all left old now → Gives cuts all old now
all_have_given cuts all left old now none a =
    subst (λ cs. Gives cuts cs old now) (sym (a.split ∙ ap (λ cs. a.gone ++ reverse cs) none ∙ append-nil a.gone)) a.gives

-- ---- a node

-- so its ports and all its ends are given back, where it is on
pub node_gives : (cuts : List Cut) (started : Bool) (place count : ℕ) (n : EndedNow) (halves : List LooseNow) (none given : GivenNow) (ports : List SeenPort) (ends : List SeenEnd) (old new : SeenFabric) →
    none.ports ≡ [] → none.ends ≡ [] → Gives cuts n.centers none given → OpensHalves halves given.ends ends → ports ≡ given.ports → count ≡ length n.centers → (started ≡ true → length ports ≡ count) →
    GathersIf started place (record { ports = ports; ends = ends }) old new → GivesBack cuts started place n halves old new
node_gives cuts started place count n halves none given ports ends old new no_ports no_ends gives opens same many whole gathers =
    let its : ports ≡ ports_in n.centers = same ∙ gives.ports ∙ ap (λ ps. ps ++ ports_in n.centers) no_ports in
    let are : ends ≡ joined gives.ends_of_each ++ opens.behind = opens.split ∙ ap (λ es. es ++ opens.behind) (gives.ends ∙ ap (λ es. es ++ joined gives.ends_of_each) no_ends) in
    record {
      of_each = gives.ends_of_each;
      of_halves = opens.behind;
      over = gives.over;
      halves_are = opens.are;
      whole = λ on. ap length (sym its) ∙ whole on ∙ many;
      gathers = subst (λ (what : Gathered). GathersIf started place what old new)
          (ap (λ ps. let what : Gathered = record { ports = ps; ends = ends } in what) its ∙ ap (λ es. let what : Gathered = record { ports = ports_in n.centers; ends = es } in what) are) gathers;
    }
