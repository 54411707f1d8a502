-- Of all_so socket one record at most has judged asks, also where one record judges one more.
use Rattle.std.proofs.Common.{◌≡◌, ◌⊎◌, inl, inr, ℕ, zero, suc, true, false, List, [], ◌∷◌, ◌++◌, map, sym, ap, subst, ◌∙◌, arith}
use Rattle.std.specs.Prelude.{slice_set}
use Rattle.std.specs.List.{AllByRecursion, IsDistinct}
use Rattle.m2_fabric.specs.m2_addr.declared.addr.Addr.{Addr}
use Rattle.m2_fabric.specs.declared.socket.SocketId.{SocketId}
use Rattle.m2_fabric.specs.Sockets.{is_among}
use Rattle.m2_turn.specs.m2_handshake.Asks.{same_addr}
use Rattle.m2_turn.specs.m2_record.RecordNow.{RecordNow}
use Rattle.m2_turn.specs.Sessions.{peer_of}
use Rattle.m2_turn.proofs.Peers.{each_of_two, with_one}
use Rattle.m2_turn.proofs.Turned.{IsHome}
use Rattle.m2_growth.specs.Halves.{JudgeApart, OneJudge, asked_on}
use Rattle.m2_fabric.proofs.m2_lemmas.Booleans.{not_true_is_false, false_isnt_true}
use Rattle.m2_turn.proofs.m2_handshake.Idents.{same_means}
use Rattle.m2_fabric.proofs.m2_lemmas.Lists.{all_so, all_of_map}

-- ---- no record judges

apart_first : (r s x : RecordNow) → asked_on s ≡ asked_on r → JudgeApart r x → JudgeApart s x
apart_first r s x e a k asked = a k (ap (is_among k) (sym e) ∙ asked)

apart_second : (r s x : RecordNow) → asked_on s ≡ asked_on r → JudgeApart x r → JudgeApart x s
apart_second r s x e a k asked = ap (is_among k) e ∙ a k asked

all_second : (r s x : RecordNow) (before rest : List RecordNow) → asked_on s ≡ asked_on r → AllByRecursion (JudgeApart x) (before ++ r ∷ rest) → AllByRecursion (JudgeApart x) (before ++ s ∷ rest)
all_second r s x [] rest e all = (apart_second r s x e all.0, all.1)
all_second r s x (y ∷ ys) rest e all = (all.0, all_second r s x ys rest e all.1)

pub one_same : (r s : RecordNow) (before rest : List RecordNow) → asked_on s ≡ asked_on r → OneJudge (before ++ r ∷ rest) → OneJudge (before ++ s ∷ rest)
one_same r s [] rest e one = (all_so (JudgeApart r) (JudgeApart s) (λ x a. apart_first r s x e a) rest one.0, one.1)
one_same r s (x ∷ xs) rest e one = (all_second r s x xs rest e one.0, one_same r s xs rest e one.1)

-- ---- one record judges

-- asks on this socket are of that peer
abbrev pub IsOfPeer : SocketId → Addr → RecordNow → Type 0
IsOfPeer k peer r = is_among k (asked_on r) ≡ true → same_addr peer (peer_of r) ≡ true

-- further asks were judged on this socket alone
abbrev AsksOn : SocketId → RecordNow → RecordNow → Type 0
AsksOn k old new = (j : SocketId) → is_among j (asked_on new) ≡ true → (is_among j (asked_on old) ≡ true) ⊎ (j ≡ k)

-- two of one peer
same_two : (peer : Addr) (r s : RecordNow) → same_addr peer (peer_of r) ≡ true → same_addr peer (peer_of s) ≡ true → same_addr (peer_of r) (peer_of s) ≡ true
same_two peer r s p q = ap (λ a. same_addr a (peer_of s)) (sym (same_means peer (peer_of r) p)) ∙ q

-- the one that judges, and another
judge_and : (k : SocketId) (peer : Addr) (side behind s : RecordNow) → same_addr peer (peer_of side) ≡ true → AsksOn k side behind → same_addr (peer_of side) (peer_of s) ≡ false →
    IsOfPeer k peer s → JudgeApart side s → JudgeApart behind s
judge_and k peer side behind s same more other heard a j asked = at (more j asked)
  where
    at : (is_among j (asked_on side) ≡ true) ⊎ (j ≡ k) → is_among j (asked_on s) ≡ false
    at (inl h) = a j h
    at (inr e) = not_true_is_false (is_among j (asked_on s)) (λ too. false_isnt_true (sym other ∙ same_two peer side s same (heard (ap (λ i. is_among i (asked_on s)) (sym e) ∙ too))))

-- another, and the one that judges
and_judge : (k : SocketId) (peer : Addr) (side behind r : RecordNow) → same_addr peer (peer_of side) ≡ true → AsksOn k side behind → same_addr (peer_of r) (peer_of side) ≡ false →
    IsOfPeer k peer r → JudgeApart r side → JudgeApart r behind
and_judge k peer side behind r same more other heard a j asked = not_true_is_false (is_among j (asked_on behind)) (λ too. at (more j too))
  where
    at : (is_among j (asked_on side) ≡ true) ⊎ (j ≡ k) → ⊥
    at (inl h) = false_isnt_true (sym (a j asked) ∙ h)
    at (inr e) = false_isnt_true (sym other ∙ same_two peer r side (heard (ap (λ i. is_among i (asked_on r)) (sym e) ∙ asked)) same)

pub one_judges : (k : SocketId) (peer : Addr) (rs : List RecordNow) (place : ℕ) (side behind : RecordNow) → IsHome rs place peer side → AsksOn k side behind → IsDistinct same_addr (map peer_of rs) →
    AllByRecursion (IsOfPeer k peer) rs → OneJudge rs → OneJudge (slice_set rs place behind)
unfolding IsDistinct
one_judges k peer [] place side behind home more apart heard one = absurd (omega (arith, home.within))
one_judges k peer (r ∷ rs) zero side behind home more apart heard one = (
  each_of_two (λ s. same_addr (peer_of side) (peer_of s) ≡ false) (λ s. IsOfPeer k peer s × JudgeApart side s) (JudgeApart behind)
      (λ s other both. judge_and k peer side behind s home.same more other both.0 both.1) rs
      (subst (λ x. AllByRecursion (λ s. same_addr (peer_of x) (peer_of s) ≡ false) rs) home.here (all_of_map (λ a. same_addr (peer_of r) a ≡ false) peer_of rs apart.0))
      (each_of_two (IsOfPeer k peer) (JudgeApart side) (λ s. IsOfPeer k peer s × JudgeApart side s) (λ s h a. (h, a)) rs heard.1 (subst (λ x. AllByRecursion (JudgeApart x) rs) home.here one.0)),
  one.1,
)
one_judges k peer (r ∷ rs) (suc n) side behind home more apart heard one = (
  with_one (λ s. JudgeApart r s × (same_addr (peer_of r) (peer_of s) ≡ false)) (JudgeApart r) peer side behind rs n apart.1 (omega (arith, home.within)) home.here home.same
      (λ s other both. both.0) (λ both. and_judge k peer side behind r home.same more both.1 heard.0 both.0)
      (each_of_two (JudgeApart r) (λ s. same_addr (peer_of r) (peer_of s) ≡ false) (λ s. JudgeApart r s × (same_addr (peer_of r) (peer_of s) ≡ false)) (λ s a b. (a, b)) rs one.0 (all_of_map (λ a. same_addr (peer_of r) a ≡ false) peer_of rs apart.0)),
  one_judges k peer rs n side behind (record { within = omega (arith, home.within); here = home.here; same = home.same }) more apart.1 heard.1 one.1,
)
