-- Lists of ends, each of a socket of its own, and what becomes of them.
use Rattle.std.proofs.Common.{◌≡◌, ℕ, ◌⊎◌, inl, inr, Bool, true, false, if◌then◌else◌, List, [], ◌∷◌, ◌++◌, Option, Some, None, IfSome, refl, sym, ap, subst, ◌∙◌, append_assoc, append-nil}
use Rattle.std.specs.List.{AllByRecursion, IsDistinct}
use Rattle.m2_fabric.specs.declared.socket.SocketId.{SocketId}
use Rattle.m2_fabric.specs.End.{SeenEnd}
use Rattle.m2_fabric.specs.Sockets.{is_among, same_socket}
use Rattle.m2_turn.specs.m2_record.RecordNow.{ids_of}
use Rattle.m2_turn.specs.m2_record.Sources.{end_at}
use Rattle.m2_turn.proofs.m2_record.Ends.{end-first}
use Rattle.m2_weave.specs.Later.{GoesOn}
use Rattle.m2_growth.specs.Ends.{AreOfTheirOwn, BringNone, EndGrows, EndGrowsTo, EndsGrow, IsNewborn}
use Rattle.m2_fabric.proofs.m2_lemmas.Booleans.{false_isnt_true}
use Rattle.m2_fabric.proofs.Sockets.{same_equal}

-- ---- lists that go on

pub on_same : {X : Type 0} (xs : List X) → GoesOn xs xs
on_same xs = ([], sym (append-nil xs))

pub on_chain : {X : Type 0} (xs ys zs : List X) → GoesOn xs ys → GoesOn ys zs → GoesOn xs zs
on_chain xs ys zs (m, p) (n, q) = (m ++ n, q ∙ ap (λ l. l ++ n) p ∙ append_assoc xs m n)

pub on_by : {X : Type 0} (xs ys : List X) → ys ≡ xs → GoesOn xs ys
on_by xs ys e = ([], e ∙ sym (append-nil xs))

-- ---- the end of a socket

pub none_some : (e : SeenEnd) → Some e ≡ None → ⊥
none_some e h = subst (λ (o : Option SeenEnd). elim o as (λ _. Type 0) [ None ↦ ⊥ | Some x ↦ Unit {0} ]) h tt

-- the first of two that is there
abbrev pub first_of : Option SeenEnd → Option SeenEnd → Option SeenEnd
first_of (Some e) o = Some e
first_of None o = o

pub end_append : (xs ys : List SeenEnd) (k : SocketId) → end_at (xs ++ ys) k ≡ first_of (end_at xs k) (end_at ys k)
end_append [] ys k = refl
end_append (e ∷ es) ys k = at (same_socket k e.id) (end_append es ys k)
  where
    at : (b : Bool) → end_at (es ++ ys) k ≡ first_of (end_at es k) (end_at ys k) → (if b then Some e else end_at (es ++ ys) k) ≡ first_of (if b then Some e else end_at es k) (end_at ys k)
    at true rest = refl
    at false rest = rest

none_of : (o p : Option SeenEnd) → first_of o p ≡ None → (o ≡ None) × (p ≡ None)
none_of (Some e) p h = absurd (none_some e h)
none_of None p h = (refl, h)

pub none_parts : (xs ys : List SeenEnd) (k : SocketId) → end_at (xs ++ ys) k ≡ None → (end_at xs k ≡ None) × (end_at ys k ≡ None)
none_parts xs ys k h = none_of (end_at xs k) (end_at ys k) (sym (end_append xs ys k) ∙ h)

pub none_join : (xs ys : List SeenEnd) (k : SocketId) → end_at xs k ≡ None → end_at ys k ≡ None → end_at (xs ++ ys) k ≡ None
none_join xs ys k p q = end_append xs ys k ∙ ap (λ o. first_of o (end_at ys k)) p ∙ q

pub none_tail : (e : SeenEnd) (es : List SeenEnd) (k : SocketId) → end_at (e ∷ es) k ≡ None → (same_socket k e.id ≡ false) × (end_at es k ≡ None)
none_tail e es k h = at (same_socket k e.id) h
  where
    at : (b : Bool) → (if b then Some e else end_at es k) ≡ None → (b ≡ false) × (end_at es k ≡ None)
    at true h = absurd (none_some e h)
    at false h = (refl, h)

pub none_cons : (e : SeenEnd) (es : List SeenEnd) (k : SocketId) → same_socket k e.id ≡ false → end_at es k ≡ None → end_at (e ∷ es) k ≡ None
none_cons e es k other h = ap (λ b. if b then Some e else end_at es k) other ∙ h

not_none : (e : SeenEnd) (es : List SeenEnd) → end_at (e ∷ es) e.id ≡ None → ⊥
not_none e es h = none_some e (sym (end-first e es) ∙ h)

-- ---- none of them is of a socket

pub none_all : (k : SocketId) (es : List SeenEnd) → AllByRecursion (λ y. same_socket k y ≡ false) (ids_of es) → end_at es k ≡ None
none_all k [] all = refl
none_all k (e ∷ es) all = none_cons e es k all.0 (none_all k es all.1)

pub all_none : (k : SocketId) (es : List SeenEnd) → end_at es k ≡ None → AllByRecursion (λ y. same_socket k y ≡ false) (ids_of es)
all_none k [] h = tt
all_none k (e ∷ es) h = let two = none_tail e es k h in (two.0, all_none k es two.1)

-- ---- each is of a socket of its own

-- of no socket both have an end
abbrev pub AreApart : List SeenEnd → List SeenEnd → Type 0
AreApart xs ys = (k : SocketId) → (end_at xs k ≡ None) ⊎ (end_at ys k ≡ None)

pub apart_swapped : (xs ys : List SeenEnd) → AreApart xs ys → AreApart ys xs
apart_swapped xs ys a k = elim (a k) [ inl h ↦ inr h | inr h ↦ inl h ]

pub own_cons : (e : SeenEnd) (es : List SeenEnd) → end_at es e.id ≡ None → AreOfTheirOwn es → AreOfTheirOwn (e ∷ es)
unfolding IsDistinct
own_cons e es h own = (all_none e.id es h, own)

pub own_tail : (e : SeenEnd) (es : List SeenEnd) → AreOfTheirOwn (e ∷ es) → (end_at es e.id ≡ None) × AreOfTheirOwn es
unfolding IsDistinct
own_tail e es own = (none_all e.id es own.0, own.1)

pub own_none : AreOfTheirOwn []
unfolding IsDistinct
own_none = tt

pub own_join : (xs ys : List SeenEnd) → AreOfTheirOwn xs → AreOfTheirOwn ys → AreApart xs ys → AreOfTheirOwn (xs ++ ys)
own_join [] ys p q a = q
own_join (x ∷ xs) ys p q a =
    own_cons x (xs ++ ys) (none_join xs ys x.id (own_tail x xs p).0 (elim (a x.id) [ inl h ↦ absurd (not_none x xs h) | inr h ↦ h ]))
    (own_join xs ys (own_tail x xs p).1 q (λ k. elim (a k) [ inl h ↦ inl (none_tail x xs k h).1 | inr h ↦ inr h ]))

pub own_last : (xs ys : List SeenEnd) → AreOfTheirOwn (xs ++ ys) → AreOfTheirOwn ys
own_last [] ys own = own
own_last (x ∷ xs) ys own = own_last xs ys (own_tail x (xs ++ ys) own).1

pub own_first : (xs ys : List SeenEnd) → AreOfTheirOwn (xs ++ ys) → AreOfTheirOwn xs
own_first [] ys own = own_none
own_first (x ∷ xs) ys own = let two = own_tail x (xs ++ ys) own in own_cons x xs (none_parts xs ys x.id two.0).0 (own_first xs ys two.1)

pub own_apart : (xs ys : List SeenEnd) → AreOfTheirOwn (xs ++ ys) → AreApart xs ys
own_apart [] ys own k = inl refl
own_apart (x ∷ xs) ys own k = at (same_socket k x.id) refl (own_apart xs ys (own_tail x (xs ++ ys) own).1 k)
  where
    none : end_at (xs ++ ys) x.id ≡ None
    none = (own_tail x (xs ++ ys) own).0

    at : (b : Bool) → same_socket k x.id ≡ b → (end_at xs k ≡ None) ⊎ (end_at ys k ≡ None) → (end_at (x ∷ xs) k ≡ None) ⊎ (end_at ys k ≡ None)
    at true same rest = inr (none_parts xs ys k (subst (λ j. end_at (xs ++ ys) j ≡ None) (sym (same_equal k x.id same)) none)).1
    at false other rest = elim rest [ inl h ↦ inl (none_cons x xs k other h) | inr h ↦ inr h ]

-- ---- an end, later

pub grows_same : (e : SeenEnd) → EndGrows e e
grows_same e = record { id = refl; got = on_same e.log.got; put = on_same e.log.put; closed = λ h. h; come = refl }

pub grows_chain : (e f g : SeenEnd) → EndGrows e f → EndGrows f g → EndGrows e g
grows_chain e f g p q = record {
  id = q.id ∙ p.id;
  got = on_chain e.log.got f.log.got g.log.got p.got q.got;
  put = on_chain e.log.put f.log.put g.log.put p.put q.put;
  closed = λ h. q.closed (p.closed h);
  come = q.come ∙ p.come;
}

pub to_same : (o : Option SeenEnd) → EndGrowsTo o o
to_same (Some e) = grows_same e
to_same None = tt

newborn_still : (f g : SeenEnd) → IsNewborn f → EndGrows f g → IsNewborn g
newborn_still f g new p = subst (λ (o : Option (List ℕ)). IfSome o (λ bytes. bytes ≡ [])) (sym p.come) new

pub to_chain : (o p q : Option SeenEnd) → EndGrowsTo o p → EndGrowsTo p q → EndGrowsTo o q
to_chain (Some e) (Some f) (Some g) a b = grows_chain e f g a b
to_chain (Some e) (Some f) None a b = absurd b
to_chain (Some e) None q a b = absurd a
to_chain None (Some f) (Some g) a b = newborn_still f g a b
to_chain None (Some f) None a b = absurd b
to_chain None None q a b = b

pub to_by : (o p : Option SeenEnd) → o ≡ p → EndGrowsTo o p
to_by o p e = subst (λ x. EndGrowsTo o x) e (to_same o)

-- ---- ends, later

pub grow_same : (xs : List SeenEnd) → EndsGrow xs xs
grow_same xs k = to_same (end_at xs k)

pub grow_chain : (xs ys zs : List SeenEnd) → EndsGrow xs ys → EndsGrow ys zs → EndsGrow xs zs
grow_chain xs ys zs p q k = to_chain (end_at xs k) (end_at ys k) (end_at zs k) (p k) (q k)

-- the same ends, later, in some order: each is of a socket of its own still, they grow, and none came
pub record AreStill (old new : List SeenEnd) : Type 0 where
  pub own : AreOfTheirOwn new
  pub grow : EndsGrow old new
  pub none : BringNone old new

-- so they are where each was of its own
abbrev pub AreLater : (old new : List SeenEnd) → Type 0
AreLater old new = AreOfTheirOwn old → AreStill old new

pub later_same : (xs : List SeenEnd) → AreLater xs xs
later_same xs own = record { own = own; grow = grow_same xs; none = λ k h. h }

pub later_by : (xs ys : List SeenEnd) → ys ≡ xs → AreLater xs ys
later_by xs ys e = subst (AreLater xs) (sym e) (later_same xs)

pub later_chain : (xs ys zs : List SeenEnd) → AreLater xs ys → AreLater ys zs → AreLater xs zs
later_chain xs ys zs p q own =
    let first = p own in
    let second = q first.own in
    record { own = second.own; grow = grow_chain xs ys zs first.grow second.grow; none = λ k h. second.none k (first.none k h) }

-- one end grows
pub later_one : (e f : SeenEnd) → EndGrows e f → AreLater (e ∷ []) (f ∷ [])
later_one e f g own = record { own = own_cons f [] refl own_none; grow = λ k. grow k (same_socket k e.id) refl; none = λ k h. none_cons f [] k (ap (same_socket k) g.id ∙ (none_tail e [] k h).0) refl }
  where
    grow : (k : SocketId) (b : Bool) → same_socket k e.id ≡ b → EndGrowsTo (end_at (e ∷ []) k) (end_at (f ∷ []) k)
    grow k true same = rw (same, ap (same_socket k) g.id, same) g
    grow k false other = rw (other, ap (same_socket k) g.id, other) tt

-- behind others
pub later_behind : (zs xs ys : List SeenEnd) → AreLater xs ys → AreLater (zs ++ xs) (zs ++ ys)
later_behind zs xs ys later own =
    let are = later (own_last zs xs own) in
    record {
      own = own_join zs ys (own_first zs xs own) are.own (λ k. elim (own_apart zs xs own k) [ inl h ↦ inl h | inr h ↦ inr (are.none k h) ]);
      grow = λ k. rw (end_append zs xs k, end_append zs ys k) (within (end_at zs k) (end_at xs k) (end_at ys k) (are.grow k));
      none = λ k h. let two = none_parts zs xs k h in none_join zs ys k two.0 (are.none k two.1);
    }
  where
    within : (o p q : Option SeenEnd) → EndGrowsTo p q → EndGrowsTo (first_of o p) (first_of o q)
    within (Some e) p q g = grows_same e
    within None p q g = g

-- two parts of a list change places
pub later_swapped : (xs ys : List SeenEnd) → AreLater (xs ++ ys) (ys ++ xs)
later_swapped xs ys own = record {
  own = own_join ys xs (own_last xs ys own) (own_first xs ys own) (apart_swapped xs ys (own_apart xs ys own));
  grow = λ k. rw (end_append xs ys k, end_append ys xs k) (swapped (end_at xs k) (end_at ys k) (own_apart xs ys own k));
  none = λ k h. let two = none_parts xs ys k h in none_join ys xs k two.1 two.0;
}
  where
    swapped : (o p : Option SeenEnd) → (o ≡ None) ⊎ (p ≡ None) → EndGrowsTo (first_of o p) (first_of p o)
    swapped None None h = tt
    swapped (Some e) None h = grows_same e
    swapped None (Some f) h = grows_same f
    swapped (Some e) (Some f) (inl h) = absurd (none_some e h)
    swapped (Some e) (Some f) (inr h) = absurd (none_some f h)

-- before others
pub later_before : (xs ys zs : List SeenEnd) → AreLater xs ys → AreLater (xs ++ zs) (ys ++ zs)
later_before xs ys zs later =
    later_chain (xs ++ zs) (zs ++ xs) (ys ++ zs) (later_swapped xs zs)
    (later_chain (zs ++ xs) (zs ++ ys) (ys ++ zs) (later_behind zs xs ys later) (later_swapped zs ys))

pub later_between : (front xs ys zs : List SeenEnd) → AreLater xs ys → AreLater (front ++ (xs ++ zs)) (front ++ (ys ++ zs))
later_between front xs ys zs later = later_behind front (xs ++ zs) (ys ++ zs) (later_before xs ys zs later)

-- the first goes to a place behind it, and back
pub later_shifted : (e : SeenEnd) (xs ys : List SeenEnd) → AreLater (e ∷ (xs ++ ys)) (xs ++ e ∷ ys)
later_shifted e xs ys = subst (AreLater (e ∷ (xs ++ ys))) (append_assoc xs (e ∷ []) ys) (later_before (e ∷ xs) (xs ++ e ∷ []) ys (later_swapped (e ∷ []) xs))

pub later_first : (e : SeenEnd) (xs ys : List SeenEnd) → AreLater (xs ++ e ∷ ys) (e ∷ (xs ++ ys))
later_first e xs ys = subst (λ l. AreLater l (e ∷ (xs ++ ys))) (append_assoc xs (e ∷ []) ys) (later_before (xs ++ e ∷ []) (e ∷ xs) ys (later_swapped xs (e ∷ [])))

-- ---- an end that comes

pub record AreWith (old new : List SeenEnd) : Type 0 where
  pub own : AreOfTheirOwn new
  pub grow : EndsGrow old new

pub with_first : (e : SeenEnd) (xs : List SeenEnd) → IsNewborn e → end_at xs e.id ≡ None → AreOfTheirOwn xs → AreWith xs (e ∷ xs)
with_first e xs new none own = record { own = own_cons e xs none own; grow = λ k. grow k (same_socket k e.id) refl }
  where
    grow : (k : SocketId) (b : Bool) → same_socket k e.id ≡ b → EndGrowsTo (end_at xs k) (end_at (e ∷ xs) k)
    grow k true same = rw (same, same_equal k e.id same, none) new
    grow k false other = rw other (to_same (end_at xs k))

pub with_between : (e : SeenEnd) (xs ys : List SeenEnd) → IsNewborn e → end_at (xs ++ ys) e.id ≡ None → AreOfTheirOwn (xs ++ ys) → AreWith (xs ++ ys) (xs ++ e ∷ ys)
with_between e xs ys new none own =
    let first = with_first e (xs ++ ys) new none own in
    let still = later_shifted e xs ys first.own in
    record { own = still.own; grow = grow_chain (xs ++ ys) (e ∷ (xs ++ ys)) (xs ++ e ∷ ys) first.grow still.grow }

-- ---- ends of sockets that were made

abbrev pub AreMade : List SocketId → List SeenEnd → Type 0
AreMade made ends = AllByRecursion (λ (e : SeenEnd). is_among e.id made ≡ true) ends

pub among_or_not : (b : Bool) → (b ≡ true) ⊎ (b ≡ false)
among_or_not true = inl refl
among_or_not false = inr refl

-- a socket that wasn't made has no end among them
pub made_none : (made : List SocketId) (ends : List SeenEnd) (k : SocketId) → AreMade made ends → is_among k made ≡ false → end_at ends k ≡ None
made_none made [] k all new = refl
made_none made (e ∷ es) k all new = at (same_socket k e.id) refl (made_none made es k all.1 new)
  where
    at : (b : Bool) → same_socket k e.id ≡ b → end_at es k ≡ None → end_at (e ∷ es) k ≡ None
    at true same rest = absurd (false_isnt_true (sym new ∙ ap (λ j. is_among j made) (same_equal k e.id same) ∙ all.0))
    at false other rest = none_cons e es k other rest

pub made_so : (made : List SocketId) (ends : List SeenEnd) → ((k : SocketId) → is_among k made ≡ false → end_at ends k ≡ None) → AreMade made ends
made_so made [] none = tt
made_so made (e ∷ es) none = (
  elim (among_or_not (is_among e.id made)) [ inl h ↦ h | inr h ↦ absurd (not_none e es (none e.id h)) ],
  made_so made es (λ k h. (none_tail e es k (none k h)).1),
)

pub made_later : (made : List SocketId) (old new : List SeenEnd) → BringNone old new → AreMade made old → AreMade made new
made_later made old new none all = made_so made new (λ k h. none k (made_none made old k all h))
