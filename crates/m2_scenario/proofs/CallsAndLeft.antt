-- What is counted over all links is counted once: each two nodes that are joined are by one link.
use Rattle.std.proofs.Common.{◌≡◌, ◌≢◌, ℕ, zero, suc, ◌+◌, ◌<◌, ◌==◌, Bool, true, false, ◌&&◌, ◌||◌, cond, List, [], ◌∷◌, length, refl, sym, ap, ◌∙◌, arith, sum_by, count_by, ◌⊎◌, inl, inr}
use Rattle.std.specs.List.{AllByRecursion, AllPairs}
use Rattle.std.proofs.lemmas.List.Elements.{recursion_from_All, All-from_get_or}
use Rattle.std.proofs.lemmas.List.Sums.{sum_by-cons}
use Rattle.std.proofs.lemmas.Bool.Decides.{nat_tests}
use Rattle.m2_dispatch.specs.Heard.{Heard, is_message_from, message, reset, peer_of}
use Rattle.m2_scenario.specs.declared.link.Link.{Link}
use Rattle.m2_scenario.specs.Draft.{DraftLine, post, dial, down, cut, turn, flow, fault, settle, is_post, joins, are_joined}
use Rattle.m2_scenario.specs.Valid.{IsLine, IsLink, JoinOthers}
use Rattle.m2_scenario.specs.OrderLaws.{AreAll, CallsAndLeftArePosts}
use Rattle.m2_scenario.specs.Order.{HearsNoReset, IsNoResetBy, IsPeer, OverEach, at, count_over, is_post_between, messages_between, posts_between}
use Rattle.m2_bytes.proofs.m2_lemmas.Booleans.{one_of_or, or_true}
use Rattle.m2_bytes.proofs.m2_lemmas.Numbers.{same_number, test_turned}

-- ---- sums over links

one_over : (is_so : Link → Bool) (l : Link) (ls : List Link) (f : ℕ → ℕ → ℕ)
    → count_over is_so (l ∷ ls) f ≡ cond (is_so l) (f l.a l.b + f l.b l.a) 0 + count_over is_so ls f
one_over is_so l ls f = sum_by-cons (λ (m : Link). cond (is_so m) (f m.a m.b + f m.b m.a) 0) l ls

same_over : (is_so : Link → Bool) (ls : List Link) (f g : ℕ → ℕ → ℕ) → ((x y : ℕ) → f x y ≡ g x y) → count_over is_so ls f ≡ count_over is_so ls g
same_over is_so [] f g same = refl
same_over is_so (l ∷ ls) f g same =
    let head : cond (is_so l) (f l.a l.b + f l.b l.a) 0 ≡ cond (is_so l) (g l.a l.b + g l.b l.a) 0 = rw (same l.a l.b, same l.b l.a) refl in
    one_over is_so l ls f ∙ omega (arith, head, same_over is_so ls f g same) ∙ sym (one_over is_so l ls g)

added_over : (is_so : Link → Bool) (ls : List Link) (f g : ℕ → ℕ → ℕ) → count_over is_so ls (λ x y. f x y + g x y) ≡ count_over is_so ls f + count_over is_so ls g
added_over is_so [] f g = refl
added_over is_so (l ∷ ls) f g =
    one_over is_so l ls (λ x y. f x y + g x y) ∙ omega (arith, head (is_so l), added_over is_so ls f g, one_over is_so l ls f, one_over is_so l ls g)
  where
    head : (b : Bool) → cond b ((f l.a l.b + g l.a l.b) + (f l.b l.a + g l.b l.a)) 0 ≡ cond b (f l.a l.b + f l.b l.a) 0 + cond b (g l.a l.b + g l.b l.a) 0
    head true = omega arith
    head false = refl

nothing_over : (is_so : Link → Bool) (ls : List Link) → count_over is_so ls (λ x y. 0) ≡ 0
nothing_over is_so [] = refl
nothing_over is_so (l ∷ ls) = one_over is_so l ls (λ x y. 0) ∙ omega (arith, head (is_so l), nothing_over is_so ls)
  where
    head : (b : Bool) → cond b (0 + 0) 0 ≡ 0
    head true = refl
    head false = refl

-- ---- one pair of nodes

-- one where the pair is this
abbrev one : (a b x y : ℕ) → ℕ
one a b x y = cond ((a == x) && (b == y)) 1 0

same_from : (m n : ℕ) → (m == n) ≡ true → m ≡ n
same_from m n h = grind (arith, nat_tests)

and_first : (p q : Bool) → (p && q) ≡ true → p ≡ true
and_first true q h = refl
and_first false q h = absurd cc

and_second : (p q : Bool) → (p && q) ≡ true → q ≡ true
and_second true q h = h
and_second false q h = absurd cc

-- which node of the link is which
abbrev AreEnds : (a b : ℕ) → Link → Type 0
AreEnds a b l = ((l.a ≡ a) × (l.b ≡ b)) ⊎ ((l.a ≡ b) × (l.b ≡ a))

pub ends_of : (a b : ℕ) (l : Link) → joins a b l ≡ true → AreEnds a b l
ends_of a b l h = elim (one_of_or ((l.a == a) && (l.b == b)) ((l.a == b) && (l.b == a)) h) as (λ _. AreEnds a b l) [
  | inl p ↦ inl (same_from _ _ (and_first _ _ p), same_from _ _ (and_second _ _ p))
  | inr p ↦ inr (same_from _ _ (and_first _ _ p), same_from _ _ (and_second _ _ p))
]

joins_so : (a b : ℕ) (l : Link) → AreEnds a b l → joins a b l ≡ true
joins_so a b l (inl h) = rw (same_number l.a a h.0, same_number l.b b h.1) refl
joins_so a b l (inr h) = rw (same_number l.a b h.0, same_number l.b a h.1) (or_true _)

-- where a link joins the two, another doesn't
not_again : (a b : ℕ) (l m : Link) → joins a b l ≡ true → JoinOthers l m → joins a b m ≡ false
not_again a b l m h apart = go (joins a b m) refl
  where
    both : AreEnds a b l → AreEnds a b m → AreEnds m.a m.b l
    both (inl p) (inl q) = inl (p.0 ∙ sym q.0, p.1 ∙ sym q.1)
    both (inl p) (inr q) = inr (p.0 ∙ sym q.1, p.1 ∙ sym q.0)
    both (inr p) (inl q) = inr (p.0 ∙ sym q.1, p.1 ∙ sym q.0)
    both (inr p) (inr q) = inl (p.0 ∙ sym q.0, p.1 ∙ sym q.1)

    go : (t : Bool) → joins a b m ≡ t → joins a b m ≡ false
    go false e = e
    go true e = absurd (let again = joins_so m.a m.b l (both (ends_of a b l h) (ends_of a b m e)) in cc)

swapped : (p q : Bool) → (q && p) ≡ (p && q)
swapped true true = refl
swapped true false = refl
swapped false true = refl
swapped false false = refl

-- two tests that don't both hold
one_of_two : (p q r : Bool) → (p ≡ true → q ≡ true → ⊥) → r ≡ q → cond p 1 0 + cond r 1 0 ≡ cond (p || q) 1 0
one_of_two true true r no_both e = absurd (no_both refl refl)
one_of_two true false r no_both e = rw e refl
one_of_two false true r no_both e = rw e refl
one_of_two false false r no_both e = rw e refl

-- a link joins the two in one way
counted_here : (a b : ℕ) (l : Link) → l.a ≢ l.b → one a b l.a l.b + one a b l.b l.a ≡ cond (joins a b l) 1 0
counted_here a b l differ =
    let p : Bool = (a == l.a) && (b == l.b) in
    let q : Bool = (b == l.a) && (a == l.b) in
    let no_both : p ≡ true → q ≡ true → ⊥ = λ e f. differ (sym (same_from a l.a (and_first _ _ e)) ∙ same_from a l.b (and_second (b == l.a) (a == l.b) f)) in
    let tests : joins a b l ≡ (p || q) = rw (test_turned l.a a, test_turned l.b b, test_turned l.a b, test_turned l.b a) refl in
    one_of_two p q ((a == l.b) && (b == l.a)) no_both (swapped (b == l.a) (a == l.b)) ∙ ap (λ (t : Bool). cond t 1 0) (sym tests)

-- links of two nodes each, no two of which join the same
pub record AreLinks (ls : List Link) : Type 0 where
  pub differ : AllByRecursion (λ (l : Link). l.a ≢ l.b) ls
  pub apart : AllPairs JoinOthers ls

pairs_tail : {X : Type 0} (R : X → X → Type 0) (x : X) (xs : List X) → AllPairs R (x ∷ xs) → AllPairs R xs
pairs_tail R x xs h i j d p q = h (suc i) (suc j) d (omega arith) (omega arith)

pairs_head : {X : Type 0} (R : X → X → Type 0) (x : X) (xs : List X) → AllPairs R (x ∷ xs) → AllByRecursion (R x) xs
pairs_head R x xs h = recursion_from_All (R x) xs (All-from_get_or (R x) xs x (λ i p. h 0 (suc i) x (omega arith) (omega arith)))

fewer : (l : Link) (ls : List Link) → AreLinks (l ∷ ls) → AreLinks ls
fewer l ls h = record { differ = h.differ.1; apart = pairs_tail JoinOthers l ls h.apart }

-- where no link joins the two
none_over : (is_so : Link → Bool) (a b : ℕ) (ls : List Link) → AllByRecursion (λ (l : Link). l.a ≢ l.b) ls → AllByRecursion (λ (l : Link). joins a b l ≡ false) ls
    → count_over is_so ls (one a b) ≡ 0
none_over is_so a b [] differ none = refl
none_over is_so a b (l ∷ ls) differ none =
    let here : one a b l.a l.b + one a b l.b l.a ≡ 0 = counted_here a b l differ.0 ∙ rw none.0 refl in
    one_over is_so l ls (one a b) ∙ omega (arith, head (is_so l) (one a b l.a l.b + one a b l.b l.a) here, none_over is_so a b ls differ.1 none.1)
  where
    head : (t : Bool) (n : ℕ) → n ≡ 0 → cond t n 0 ≡ 0
    head true n h = h
    head false n h = refl

others : (a b : ℕ) (l : Link) (ms : List Link) → joins a b l ≡ true → AllByRecursion (JoinOthers l) ms → AllByRecursion (λ (m : Link). joins a b m ≡ false) ms
others a b l [] h all = tt
others a b l (m ∷ ms) h all = (not_again a b l m h all.0, others a b l ms h all.1)

-- where a link joins them
once_over : (is_so : Link → Bool) (a b : ℕ) (ls : List Link) → AreAll is_so ls → AreLinks ls → are_joined ls a b ≡ true → count_over is_so ls (one a b) ≡ 1
once_over is_so a b [] so links joined = absurd cc
once_over is_so a b (l ∷ ls) so links joined =
    one_over is_so l ls (one a b) ∙ go (joins a b l) refl joined (once_over is_so a b ls so.1 (fewer l ls links))
  where
    head : cond (is_so l) (one a b l.a l.b + one a b l.b l.a) 0 ≡ cond (joins a b l) 1 0
    head = rw so.0 (counted_here a b l links.differ.0)

    go : (t : Bool) → joins a b l ≡ t → (t || are_joined ls a b) ≡ true → (are_joined ls a b ≡ true → count_over is_so ls (one a b) ≡ 1)
        → cond (is_so l) (one a b l.a l.b + one a b l.b l.a) 0 + count_over is_so ls (one a b) ≡ 1
    go true e h more =
        let here : cond (is_so l) (one a b l.a l.b + one a b l.b l.a) 0 ≡ 1 = head ∙ rw e refl in
        omega (arith, here, none_over is_so a b ls links.differ.1 (others a b l ls e (pairs_head JoinOthers l ls links.apart)))
    go false e h more =
        let here : cond (is_so l) (one a b l.a l.b + one a b l.b l.a) 0 ≡ 0 = head ∙ rw e refl in omega (arith, here, more h)

-- ---- posts

-- one line more
line_over : (is_so : Link → Bool) (links : List Link) (l : DraftLine) (ls : List DraftLine)
    → count_over is_so links (posts_between (l ∷ ls))
    ≡ count_over is_so links (λ x y. cond (is_post_between x y l) 1 0) + count_over is_so links (posts_between ls)
line_over is_so links l ls =
    same_over is_so links (posts_between (l ∷ ls)) (λ x y. cond (is_post_between x y l) 1 0 + posts_between ls x y)
    (λ x y. sum_by-cons (λ (k : DraftLine). cond (is_post_between x y k) 1 0) l ls)
    ∙ added_over is_so links (λ x y. cond (is_post_between x y l) 1 0) (posts_between ls)

posts_over : (is_so : Link → Bool) (nodes : ℕ) (links : List Link) → AreAll is_so links → AreLinks links → (ls : List DraftLine) → AllByRecursion (IsLine nodes links) ls
    → count_over is_so links (posts_between ls) ≡ count_by is_post ls
posts_over is_so nodes links so are [] fits = nothing_over is_so links
posts_over is_so nodes links so are (l ∷ ls) fits =
    line_over is_so links l ls
    ∙ omega (arith, here l fits.0, posts_over is_so nodes links so are ls fits.1, sum_by-cons (λ (k : DraftLine). cond (is_post k) 1 0) l ls)
  where
    here : (k : DraftLine) → IsLine nodes links k → count_over is_so links (λ x y. cond (is_post_between x y k) 1 0) ≡ cond (is_post k) 1 0
    here (post a b m) fit = once_over is_so a b links so are fit.0
    here (dial a b) fit = nothing_over is_so links
    here (down a b) fit = nothing_over is_so links
    here (cut a b bytes) fit = nothing_over is_so links
    here (turn a) fit = nothing_over is_so links
    here (flow a b socket most) fit = nothing_over is_so links
    here (fault a b socket) fit = nothing_over is_so links
    here (settle rounds) fit = nothing_over is_so links

-- ---- calls

-- a message of a node that a link joins with the one at k
abbrev IsMessageAt : List Link → (k : ℕ) → Heard → Type 0
IsMessageAt links k (message peer key number life m) = are_joined links peer k ≡ true
IsMessageAt links k (reset peer) = ⊥

-- what the node at k heard of x, where y is k
abbrev calls_at : (k : ℕ) → List Heard → (x y : ℕ) → ℕ
calls_at k cs x y = cond (k == y) (count_by (is_message_from x) cs) 0

-- one where the test holds
abbrev one_if : Bool → ℕ
one_if t = cond t 1 0

and_true : (t : Bool) → one_if t ≡ one_if (t && true)
and_true true = refl
and_true false = refl

-- one call more
call_more : (k p : ℕ) (c : Heard) (cs : List Heard) (x y : ℕ) → is_message_from x c ≡ (p == x) → calls_at k (c ∷ cs) x y ≡ one p k x y + calls_at k cs x y
call_more k p c cs x y e = go (k == y) (p == x) (sym e)
  where
    go : (s t : Bool) → t ≡ is_message_from x c → cond s (count_by (is_message_from x) (c ∷ cs)) 0 ≡ one_if (t && s) + cond s (count_by (is_message_from x) cs) 0
    go true t e =
        let first : one_if (is_message_from x c) ≡ one_if (t && true) = rw (sym e) (and_true t) in
        sum_by-cons (λ (h : Heard). one_if (is_message_from x h)) c cs ∙ omega (arith, first)
    go false true e = refl
    go false false e = refl

nothing_either : (s : Bool) → cond {A = ℕ} s 0 0 ≡ 0
nothing_either true = refl
nothing_either false = refl

calls_over : (is_so : Link → Bool) (links : List Link) → AreAll is_so links → AreLinks links → (k : ℕ) (cs : List Heard) → AllByRecursion (IsMessageAt links k) cs
    → count_over is_so links (calls_at k cs) ≡ length cs
calls_over is_so links so are k [] all =
    same_over is_so links (calls_at k []) (λ x y. 0) (λ x y. nothing_either (k == y)) ∙ nothing_over is_so links
calls_over is_so links so are k (message p key number life m ∷ cs) all =
    same_over is_so links (calls_at k (message p key number life m ∷ cs)) (λ x y. one p k x y + calls_at k cs x y) (λ x y. call_more k p (message p key number life m) cs x y refl)
    ∙ added_over is_so links (one p k) (calls_at k cs)
    ∙ omega (arith, once_over is_so p k links so are all.0, calls_over is_so links so are k cs all.1)
calls_over is_so links so are k (reset p ∷ cs) all = absurd all.0

-- what nodes heard, the first of which is at k
abbrev heard_from : (k : ℕ) → List (List Heard) → (x y : ℕ) → ℕ
heard_from k [] x y = 0
heard_from k (cs ∷ hs) x y = calls_at k cs x y + heard_from (k + 1) hs x y

lists_over : (is_so : Link → Bool) (links : List Link) → AreAll is_so links → AreLinks links → (k : ℕ) (hs : List (List Heard))
    → ((y : ℕ) → AllByRecursion (IsMessageAt links (k + y)) (at y hs)) → count_over is_so links (heard_from k hs) ≡ sum_by length hs
lists_over is_so links so are k [] all = nothing_over is_so links
lists_over is_so links so are k (cs ∷ hs) all =
    let first : AllByRecursion (IsMessageAt links k) cs = rw (sym (none k)) (all 0) in
    let later : (y : ℕ) → AllByRecursion (IsMessageAt links ((k + 1) + y)) (at y hs) = λ y. rw (next k y) (all (suc y)) in
    added_over is_so links (calls_at k cs) (heard_from (k + 1) hs)
    ∙ omega (arith, calls_over is_so links so are k cs first, lists_over is_so links so are (k + 1) hs later, sum_by-cons length cs hs)
  where
    none : (k : ℕ) → k + 0 ≡ k
    none k = omega arith

    next : (k y : ℕ) → (k + 1) + y ≡ k + suc y
    next k y = omega arith

-- ---- which list is whose

test_before : (k y : ℕ) → y < k → (k == y) ≡ false
test_before k y h = grind (arith, nat_tests)

test_behind : (k y : ℕ) → (k == k + suc y) ≡ false
test_behind k y = grind (arith, nat_tests)

heard_before : (k : ℕ) (hs : List (List Heard)) (x y : ℕ) → y < k → heard_from k hs x y ≡ 0
heard_before k [] x y h = refl
heard_before k (cs ∷ hs) x y h = rw (test_before k y h) (omega (arith, heard_before (k + 1) hs x y (omega arith)))

heard_there : (k : ℕ) (hs : List (List Heard)) (x y z : ℕ) → z ≡ k + y → heard_from k hs x z ≡ count_by (is_message_from x) (at y hs)
heard_there k [] x y z e = refl
heard_there k (cs ∷ hs) x zero z e =
    let here : (k == z) ≡ true = same_number k z (omega (arith, e)) in
    let rest : heard_from (k + 1) hs x z ≡ 0 = heard_before (k + 1) hs x z (omega (arith, e)) in
    rw here (omega (arith, rest))
heard_there k (cs ∷ hs) x (suc y) z e =
    let elsewhere : (k == z) ≡ false = rw e (test_behind k y) in
    rw elsewhere (omega (arith, heard_there (k + 1) hs x y z (omega (arith, e))))

-- ---- no reset was heard

-- what is so over each link is so of each two nodes that are joined
over_joined : (is_so : Link → Bool) (how : ℕ → ℕ → Type 0) (links : List Link) → AreAll is_so links → OverEach is_so links how → (x y : ℕ) → are_joined links x y ≡ true → how x y
over_joined is_so how [] so each x y joined = absurd cc
over_joined is_so how (l ∷ ls) so each x y joined = go (joins x y l) refl joined (over_joined is_so how ls so.1 each.1 x y)
  where
    by_ends : AreEnds x y l → how l.a l.b × how l.b l.a → how x y
    by_ends (inl e) both = rw (sym e.0, sym e.1) both.0
    by_ends (inr e) both = rw (sym e.0, sym e.1) both.1

    go : (t : Bool) → joins x y l ≡ t → (t || are_joined ls x y) ≡ true → (are_joined ls x y ≡ true → how x y) → how x y
    go true e h more = by_ends (ends_of x y l e) (each.0 so.0)
    go false e h more = more h

are_messages : (nodes : ℕ) (links : List Link) (k : ℕ) (cs : List Heard) → AllByRecursion (λ (h : Heard). IsPeer nodes links k (peer_of h)) cs
    → ((x : ℕ) → are_joined links x k ≡ true → AllByRecursion (IsNoResetBy x) cs) → AllByRecursion (IsMessageAt links k) cs
are_messages nodes links k [] peers no_reset = tt
are_messages nodes links k (message p key number life m ∷ cs) peers no_reset =
    (peers.0.joined, are_messages nodes links k cs peers.1 (λ x joined. (no_reset x joined).1))
are_messages nodes links k (reset p ∷ cs) peers no_reset =
    absurd (let this : (p == p) ≡ false = (no_reset p peers.0.joined).0 in let so : (p == p) ≡ true = same_number p p refl in cc)

-- ---- all of it

differ_of : (nodes : ℕ) (ls : List Link) → AllByRecursion (IsLink nodes) ls → AllByRecursion (λ (l : Link). l.a ≢ l.b) ls
differ_of nodes [] all = tt
differ_of nodes (l ∷ ls) all = (all.0.different, differ_of nodes ls all.1)

from_zero : (y : ℕ) → 0 + y ≡ y
from_zero y = omega arith

pub calls_and_left : CallsAndLeftArePosts
calls_and_left is_so nodes links lines heard left h =
    let n = length nodes in
    let are : AreLinks links = record { differ = differ_of n links (recursion_from_All (IsLink n) links h.sound.joined); apart = h.sound.joined_once } in
    let messages : (y : ℕ) → AllByRecursion (IsMessageAt links (0 + y)) (at y heard) =
    λ y. rw (from_zero y) (are_messages n links y (at y heard) (h.joined.peers y) (λ x joined. over_joined is_so (HearsNoReset heard) links h.all h.no_reset x y joined))
    in
    let calls : count_over is_so links (messages_between heard) ≡ sum_by length heard =
    same_over is_so links (messages_between heard) (heard_from 0 heard) (λ x y. sym (heard_there 0 heard x y y (sym (from_zero y))))
    ∙ lists_over is_so links h.all are 0 heard messages
    in
    let posts = posts_over is_so n links h.all are lines (recursion_from_All (IsLine n links) lines h.sound.in_place) in
    omega (arith, calls, posts, h.counted)
