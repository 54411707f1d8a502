-- A valid scenario stays valid with one node, link or line more.
use Rattle.std.proofs.Common.{◌≡◌, ◌==◌, ◌<◌, ◌≤◌, ℕ, zero, suc, Bool, true, false, ◌&&◌, ◌||◌, List, [], ◌∷◌, ◌++◌, length, get_or, refl, sym, ap, eqb, subst, Result, Ok, Err, MatchResult, ◌∙◌, arith, length-append}
use Rattle.std.specs.List.{list_any, AllByRecursion}
use Rattle.std.specs.Str.{bytes_eq}
use Rattle.std.proofs.lemmas.List.Folds.{list_any-append}
use Rattle.std.proofs.lemmas.List.Elements.{All-push, All-weaker, recursion_from_All}
use Rattle.std.proofs.lemmas.List.Quantifiers.{all_pairs_push}
use Rattle.std.proofs.lemmas.Bool.{eqb-true, and_parts}
use Rattle.std.proofs.lemmas.Slice.Eq.{bytes_eq-Decides}
use Rattle.m2_scenario.specs.declared.node.Node.{Node}
use Rattle.m2_scenario.specs.declared.link.Link.{Link}
use Rattle.m2_scenario.specs.declared.limits.TheConstants.{MOST_NODES, MOST_LINKS}
use Rattle.m2_scenario.specs.Draft.{DraftLine, joins, are_joined, is_named, is_at, without, post, dial, down, cut, turn, flow, fault, settle}
use Rattle.m2_scenario.specs.declared.counts.Counts.{Counts}
use Rattle.m2_scenario.specs.Counts.{counts_of, with_one_more, AreWithin, Permit}
use Rattle.m2_scenario.specs.Plan.{IsAmong}
use Rattle.m2_scenario.proofs.Counted.{counts_more}
use Rattle.m2_scenario.specs.Valid.{IsSound, IsLine, IsLink, JoinOthers, HasCenters, HasMsgr2, AreApart}
use Rattle.m2_bytes.proofs.m2_lemmas.Booleans.{both_true}
use Rattle.m2_bytes.proofs.m2_lemmas.Numbers.{same_number}

-- counts stay within the limits with a line that these permit
permitted : (c : Counts) (l : DraftLine) → AreWithin c → Permit c l → AreWithin (with_one_more c l)
permitted c (post a b m) w room = record { posts = omega (arith, room); cuts = w.cuts; faults = w.faults; rounds = w.rounds }
permitted c (cut a b n) w room = record { posts = w.posts; cuts = omega (arith, room); faults = w.faults; rounds = w.rounds }
permitted c (fault a b s) w room = record { posts = w.posts; cuts = w.cuts; faults = omega (arith, room); rounds = w.rounds }
permitted c (settle n) w room = record { posts = w.posts; cuts = w.cuts; faults = w.faults; rounds = room }
permitted c (dial a b) w room = w
permitted c (down a b) w room = w
permitted c (turn a) w room = w
permitted c (flow a b s n) w room = w

pub line_kept : (nodes : List Node) (links : List Link) (lines : List DraftLine) (l : DraftLine) → IsSound nodes links lines → IsLine (length nodes) links l → Permit (counts_of lines) l → IsSound nodes links (lines ++ l ∷ [])
line_kept nodes links lines l s fits room = record {
  few_nodes = s.few_nodes;
  few_links = s.few_links;
  centers = s.centers;
  msgr2 = s.msgr2;
  apart = s.apart;
  joined = s.joined;
  joined_once = s.joined_once;
  in_place = All-push (IsLine (length nodes) links) lines l s.in_place fits;
  within = rw (counts_more lines l) (permitted (counts_of lines) l s.within room);
}

or_first : (a b : Bool) → (a || b) ≡ false → a ≡ false
or_first true b e = e
or_first false b e = refl

or_second : (a b : Bool) → (a || b) ≡ false → b ≡ false
or_second true b e = absurd (cc)
or_second false b e = e

-- where none passes, the one at a place doesn't
none_at : {X : Type 0} (p : X → Bool) (xs : List X) → list_any p xs ≡ false → (k : ℕ) (d : X) → k < length xs → p (get_or xs k d) ≡ false
none_at p [] e k d h = absurd (omega arith)
none_at p (x ∷ xs) e zero d h = or_first (p x) (list_any p xs) e
none_at p (x ∷ xs) e (suc k) d h = none_at p xs (or_second (p x) (list_any p xs) e) k d (omega arith)

still_joined : (links : List Link) (l : Link) (a b : ℕ) → are_joined links a b ≡ true → are_joined (links ++ l ∷ []) a b ≡ true
still_joined links l a b e = rw (list_any-append (joins a b) links (l ∷ []), e) refl

more_links : (n : ℕ) (links : List Link) (l : Link) (t : DraftLine) → IsLine n links t → IsLine n (links ++ l ∷ []) t
more_links n links l (post a b m) h = (still_joined links l a b h.0, h.1)
more_links n links l (dial a b) h = still_joined links l a b h
more_links n links l (down a b) h = still_joined links l a b h
more_links n links l (cut a b k) h = (still_joined links l a b h.0, h.1)
more_links n links l (turn a) h = h
more_links n links l (flow a b socket k) h = still_joined links l a b h
more_links n links l (fault a b socket) h = still_joined links l a b h
more_links n links l (settle k) h = h

pub link_kept : (nodes : List Node) (links : List Link) (lines : List DraftLine) (l : Link) → IsSound nodes links lines → length links < MOST_LINKS → IsLink (length nodes) l → are_joined links l.a l.b ≡ false → IsSound nodes (links ++ l ∷ []) lines
link_kept nodes links lines l s room fits first = record {
  few_nodes = s.few_nodes;
  few_links = omega (arith, length-append links (l ∷ []), room);
  centers = s.centers;
  msgr2 = s.msgr2;
  apart = s.apart;
  joined = All-push (IsLink (length nodes)) links l s.joined fits;
  joined_once = all_pairs_push JoinOthers links l s.joined_once (none_at (joins l.a l.b) links first);
  in_place = All-weaker (IsLine (length nodes) links) (IsLine (length nodes) (links ++ l ∷ [])) (more_links (length nodes) links l) lines s.in_place;
  within = s.within;
}

link_among_more : (m n : ℕ) → m ≤ n → (l : Link) → IsLink m l → IsLink n l
link_among_more m n h l fits = record { a = omega (arith, h, fits.a); b = omega (arith, h, fits.b); different = fits.different; allowed = fits.allowed }

line_among_more : (m n : ℕ) → m ≤ n → (links : List Link) (t : DraftLine) → IsLine m links t → IsLine n links t
line_among_more m n h links (post a b message) fits = fits
line_among_more m n h links (dial a b) fits = fits
line_among_more m n h links (down a b) fits = fits
line_among_more m n h links (cut a b k) fits = fits
line_among_more m n h links (turn a) fits = omega (arith, h, fits)
line_among_more m n h links (flow a b socket k) fits = fits
line_among_more m n h links (fault a b socket) fits = fits
line_among_more m n h links (settle k) fits = fits

apart_from : (at : Node) (n : Node) → is_named at.name n ≡ false → is_at at.at n ≡ false → AreApart n at
apart_from new n name socket = record {
  names = λ e. let same : bytes_eq n.name new.name ≡ true = (bytes_eq-Decides n.name new.name).1 e in cc;
  sockets = λ e. let same : is_at new.at n ≡ true = both_true (n.at.ip == new.at.ip) (n.at.port == new.at.port) (same_number n.at.ip new.at.ip e.0) (same_number n.at.port new.at.port e.1) in cc;
}

pub node_kept : (nodes : List Node) (links : List Link) (lines : List DraftLine) (n : Node) → IsSound nodes links lines → length nodes < MOST_NODES → HasCenters n → HasMsgr2 n
    → list_any (is_named n.name) nodes ≡ false → list_any (is_at n.at) nodes ≡ false → IsSound (nodes ++ n ∷ []) links lines
node_kept nodes links lines n s room centers msgr2 names sockets =
    let more : length nodes ≤ length (nodes ++ n ∷ []) = omega (arith, length-append nodes (n ∷ [])) in
    record {
      few_nodes = omega (arith, length-append nodes (n ∷ []), room);
      few_links = s.few_links;
      centers = All-push HasCenters nodes n s.centers centers;
      msgr2 = All-push HasMsgr2 nodes n s.msgr2 msgr2;
      apart = all_pairs_push AreApart nodes n s.apart (λ k d h. apart_from n (get_or nodes k d) (none_at (is_named n.name) nodes names k d h) (none_at (is_at n.at) nodes sockets k d h));
      joined = All-weaker (IsLink (length nodes)) (IsLink (length (nodes ++ n ∷ []))) (link_among_more (length nodes) (length (nodes ++ n ∷ [])) more) links s.joined;
      joined_once = s.joined_once;
      in_place = All-weaker (IsLine (length nodes) links) (IsLine (length (nodes ++ n ∷ [])) links) (line_among_more (length nodes) (length (nodes ++ n ∷ [])) more links) lines s.in_place;
      within = s.within;
    }

-- a node that isn't started is as it was in all else
record Alike (m n : Node) : Type 0 where
  name : m.name ≡ n.name
  at : m.at ≡ n.at
  centers : m.centers ≡ n.centers

length_without : (nodes : List Node) (a : ℕ) → length (without a nodes) ≡ length nodes
length_without [] a = refl
length_without (n ∷ ns) zero = refl
length_without (n ∷ ns) (suc a) = ap suc (length_without ns a)

alike : (nodes : List Node) (a k : ℕ) (d : Node) → Alike (get_or (without a nodes) k d) (get_or nodes k d)
alike [] a k d = record { name = refl; at = refl; centers = refl }
alike (n ∷ ns) zero zero d = record { name = refl; at = refl; centers = refl }
alike (n ∷ ns) zero (suc k) d = record { name = refl; at = refl; centers = refl }
alike (n ∷ ns) (suc a) zero d = record { name = refl; at = refl; centers = refl }
alike (n ∷ ns) (suc a) (suc k) d = alike ns a k d

has_centers : (m n : Node) → Alike m n → HasCenters n → HasCenters m
has_centers m n e h = record { one = omega (arith, e.centers, h.one); most = omega (arith, e.centers, h.most) }

are_apart : (m n p q : Node) → Alike m p → Alike n q → AreApart p q → AreApart m n
are_apart m n p q e f h = record {
  names = λ s. h.names (sym e.name ∙ s ∙ f.name);
  sockets = λ s. h.sockets (sym (ap (λ a. a.ip) e.at) ∙ s.0 ∙ ap (λ a. a.ip) f.at, sym (ap (λ a. a.port) e.at) ∙ s.1 ∙ ap (λ a. a.port) f.at);
}

pub start_kept : (nodes : List Node) (links : List Link) (lines : List DraftLine) (a : ℕ) → IsSound nodes links lines → IsSound (without a nodes) links lines
start_kept nodes links lines a s =
    let same : length (without a nodes) ≡ length nodes = length_without nodes a in
    record {
      few_nodes = omega (arith, same, s.few_nodes);
      few_links = s.few_links;
      centers = λ k d h. has_centers (get_or (without a nodes) k d) (get_or nodes k d) (alike nodes a k d) (s.centers k d (omega (arith, same, h)));
      msgr2 = λ k d h. ap (λ at. at.kind) (alike nodes a k d).at ∙ s.msgr2 k d (omega (arith, same, h));
      apart = λ i j d h k. are_apart (get_or (without a nodes) i d) (get_or (without a nodes) j d) (get_or nodes i d) (get_or nodes j d) (alike nodes a i d) (alike nodes a j d) (s.apart i j d h (omega (arith, same, k)));
      joined = rw same s.joined;
      joined_once = s.joined_once;
      in_place = rw same s.in_place;
      within = s.within;
    }

-- whoever is joined to another is a node
joined_within : (n : ℕ) (links : List Link) (a b : ℕ) → AllByRecursion (IsLink n) links → are_joined links a b ≡ true → a < n
joined_within n [] a b all h = absurd (cc)
joined_within n (l ∷ ls) a b all h = go (eqb l.a a && eqb l.b b) (eqb l.a b && eqb l.b a) refl refl h (joined_within n ls a b all.1)
  where
    go : (t u : Bool) → (eqb l.a a && eqb l.b b) ≡ t → (eqb l.a b && eqb l.b a) ≡ u → ((t || u) || are_joined ls a b) ≡ true → (are_joined ls a b ≡ true → a < n) → a < n
    go true u e f h more = let same : l.a ≡ a = eqb-true l.a a (and_parts (eqb l.a a) (eqb l.b b) e).0 in omega (arith, all.0.a, same)
    go false true e f h more = let same : l.b ≡ a = eqb-true l.b a (and_parts (eqb l.a b) (eqb l.b a) f).1 in omega (arith, all.0.b, same)
    go false false e f h more = more h

small : (nodes : List Node) (links : List Link) (lines : List DraftLine) (a b : ℕ) → IsSound nodes links lines → are_joined links a b ≡ true → a < MOST_NODES
small nodes links lines a b s h = omega (arith, s.few_nodes, joined_within (length nodes) links a b (recursion_from_All (IsLink (length nodes)) links s.joined) h)

-- the node of a step has a place
pub step_among : (nodes : List Node) (links : List Link) (lines : List DraftLine) (l : DraftLine) → IsSound nodes links lines → IsLine (length nodes) links l → IsAmong MOST_NODES l
step_among nodes links lines (post a b m) s fits = small nodes links lines a b s fits.0
step_among nodes links lines (dial a b) s fits = small nodes links lines a b s fits
step_among nodes links lines (down a b) s fits = small nodes links lines a b s fits
step_among nodes links lines (cut a b n) s fits = tt
step_among nodes links lines (turn a) s fits = tt
step_among nodes links lines (flow a b socket n) s fits = tt
step_among nodes links lines (fault a b socket) s fits = tt
step_among nodes links lines (settle n) s fits = tt

-- nothing yet is valid
pub nothing_sound : (nodes : List Node) (links : List Link) (lines : List DraftLine) → nodes ≡ [] → links ≡ [] → lines ≡ [] → IsSound nodes links lines
nothing_sound nodes links lines e f g = rw (e, f, g) (record {
  few_nodes = omega arith;
  few_links = omega arith;
  centers = λ k d h. absurd (omega (arith, h));
  msgr2 = λ k d h. absurd (omega (arith, h));
  apart = λ i j d h k. absurd (omega (arith, k));
  joined = λ k d h. absurd (omega (arith, h));
  joined_once = λ i j d h k. absurd (omega (arith, k));
  in_place = λ k d h. absurd (omega (arith, h));
  within = record { posts = omega arith; cuts = omega arith; faults = omega arith; rounds = omega arith };
})

-- what holds of what was there, and of what a push makes of it, holds however the push ends
pub either_way : {X A B : Type 0} (P : X → Type 0) (old more new : X) (r : Result A B) → MatchResult r (λ _. new ≡ more) (λ _. new ≡ old) → P old → P more → P new
either_way P old more new (Ok a) e was is = subst P (sym e) is
either_way P old more new (Err b) e was is = subst P (sym e) was
