-- A new center of begun records is on its course.
use Rattle.std.proofs.Common.{◌≡◌, inl, ℕ, ◌+◌, ◌≤◌, true, List, [], ◌∷◌, ◌++◌, refl, sym, ap, subst, ◌∙◌, arith}
use Rattle.std.specs.List.{AllByRecursion, IsDistinct}
use Rattle.m2_fabric.specs.declared.socket.SocketId.{SocketId}
use Rattle.m2_fabric.specs.End.{SeenEnd}
use Rattle.m2_fabric.specs.Sockets.{is_among, same_socket}
use Rattle.m2_fabric.proofs.m2_lemmas.Booleans.{false_isnt_true}
use Rattle.m2_fabric.proofs.m2_lemmas.Lists.{all_so}
use Rattle.m2_cluster.specs.m2_center.m2_record.RecordNow.{RecordNow, ends_of}
use Rattle.m2_growth.specs.Ends.{AreOfTheirOwn}
use Rattle.m2_growth.specs.Halves.{AskedOnMade, AskedTowards, HasItsHalves, JudgeApart, OneJudge, asked_on}
use Rattle.m2_growth.specs.Holding.{IsToCome}
use Rattle.m2_growth.specs.Records.{IsFed, ends_of_all}
use Rattle.m2_growth.proofs.Ends.{own_none}
use Rattle.m2_links_go_on.specs.Course.{DialsInTime, LastIsGiven, missed_by}
use Rattle.m2_links_go_on.specs.CourseLaws.{CentersBeginOnCourse, RecordsBegin}
use Rattle.m2_links_go_on.specs.Made.{IsBegun}
use Rattle.m2_links_go_on.proofs.CourseMoving.{is_moved}

-- ---- records

pub records_begin : RecordsBegin
records_begin = record {
  first = λ f place peer room. refl;
  planned = λ x old new e is. subst IsBegun (sym e) (ap (λ (r : RecordNow). record r { plan = old.plan ++ x ∷ [] }) is);
  roomy = λ old new e is. subst IsBegun (sym e) (ap (λ (r : RecordNow). record r { room = new.room }) is);
}

-- it judged nothing
none_asked : (r : RecordNow) → IsBegun r → asked_on r ≡ []
none_asked r is = ap asked_on is

no_ends : (r : RecordNow) → IsBegun r → ends_of r ≡ []
no_ends r is = ap ends_of is

none_at_all : (rs : List RecordNow) → AllByRecursion IsBegun rs → ends_of_all rs ≡ []
none_at_all [] all = refl
none_at_all (r ∷ rs) all = ap (λ l. l ++ ends_of_all rs) (no_ends r all.0) ∙ none_at_all rs all.1

none_missed : (rs : List RecordNow) → AllByRecursion IsBegun rs → missed_by rs ≡ 0
none_missed [] all = refl
none_missed (r ∷ rs) all = both r.missed (missed_by rs) (ap (λ (x : RecordNow). x.missed) all.0) (none_missed rs all.1)
  where
    both : (a b : ℕ) → a ≡ 0 → b ≡ 0 → a + b ≡ 0
    both a b e f = omega (arith, e, f)

fed_so : (r : RecordNow) → IsBegun r → IsFed r
fed_so r is = subst IsFed (sym is) refl

never_given : (may_give : ℕ → Type 0) (r : RecordNow) → IsBegun r → LastIsGiven may_give r
never_given may_give r is moved = absurd (false_isnt_true (sym (ap (λ (x : RecordNow). is_moved x.journal) is) ∙ moved))

dials_soon : (moment : ℕ) (r : RecordNow) → IsBegun r → DialsInTime moment r
dials_soon moment r is = let none : r.waits.next_dial ≡ 0 = ap (λ (x : RecordNow). x.waits.next_dial) is in omega (arith, none)

unasked : (r : RecordNow) (k : SocketId) → IsBegun r → is_among k (asked_on r) ≡ true → {X : Type 0} → X
unasked r k is asked = absurd (false_isnt_true (sym (ap (is_among k) (none_asked r is)) ∙ asked))

apart_so : (r s : RecordNow) → IsBegun s → JudgeApart r s
apart_so r s is k asked = ap (is_among k) (none_asked s is)

one_judge : (rs : List RecordNow) → AllByRecursion IsBegun rs → OneJudge rs
one_judge [] all = tt
one_judge (r ∷ rs) all = (all_so IsBegun (JudgeApart r) (λ s is. apart_so r s is) rs all.1, one_judge rs all.1)

-- ---- a center

pub centers_begin_on_course : (D C : Type 0) (may_give : C → ℕ → Type 0) → CentersBeginOnCourse D C may_give
centers_begin_on_course D C may_give clock moment entity port records fast queued bytes numbers can begun elsewhere made waiting given = record {
  given = given;
  made = refl;
  own = record {
    held = subst AreOfTheirOwn (sym none) own_none;
    made = subst (AllByRecursion (λ (e : SeenEnd). is_among e.id port.made ≡ true)) (sym none) tt;
    waiting = subst AreOfTheirOwn (sym waiting) own_none;
    to_come = subst (AllByRecursion (IsToCome port)) (sym waiting) tt;
    elsewhere = elsewhere;
    fed = all_so IsBegun IsFed fed_so records begun;
    on_socket = tt;
    here = tt;
  };
  held = λ k is. absurd (false_isnt_true (sym (ap (is_among k) made) ∙ is));
  once = subst (IsDistinct same_socket) (sym made) own_none;
  halves = record {
    each = all_so IsBegun (HasItsHalves []) (λ r is k asked. unasked r k is asked) records begun;
    made = all_so IsBegun (AskedOnMade port.made) (λ r is k asked. unasked r k is asked) records begun;
    here = all_so IsBegun (AskedTowards port.at) (λ r is k asked. unasked r k is asked) records begun;
    one_judge = one_judge records begun;
    askers = tt;
    peers = can.peers;
  };
  missed = inl (at_most (missed_by records) port.missed (none_missed records begun));
  last = all_so IsBegun (LastIsGiven (may_give clock)) (never_given (may_give clock)) records begun;
  dials = all_so IsBegun (DialsInTime moment) (dials_soon moment) records begun;
}
  where
    none : ends_of_all records ++ [] ≡ []
    none = ap (λ l. l ++ []) (none_at_all records begun)

    at_most : (n m : ℕ) → n ≡ 0 → n ≤ m
    at_most n m e = omega (arith, e)
