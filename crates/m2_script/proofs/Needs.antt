-- The deeds of a valid scenario's lines are of nodes that there are, and its steps of links.
use Rattle.std.proofs.Common.{◌≡◌, ℕ, ◌+◌, ◌<◌, ◌≤◌, zero, suc, ◌&&◌, ◌||◌, Bool, true, false, List, [], ◌∷◌, ◌++◌, length, map, refl, arith}
use Rattle.std.specs.Prelude.{flat_map}
use Rattle.std.specs.List.{AllByRecursion}
use Rattle.std.proofs.lemmas.Bool.{and_parts, eqb-true, leb-true}
use Rattle.std.proofs.Math.Dec.{eqb}
use Rattle.m2_dispatch.specs.m2_message.declared.message.Message.{Message}
use Rattle.m2_dispatch.specs.m2_message.Message.{IsSendable, content_of}
use Rattle.m2_scenario.specs.declared.limits.TheConstants.{MOST_PART_BYTES}
use Rattle.m2_scenario.specs.declared.line.Line.{Line}
use Rattle.m2_scenario.specs.declared.line.Line.TheVariants as line
use Rattle.m2_scenario.specs.declared.link.Link.{Link}
use Rattle.m2_scenario.specs.Draft.{are_joined, draft_line}
use Rattle.m2_scenario.specs.Valid.{IsLine, IsLink, are_short, is_short}
use Rattle.m2_script.specs.Script.{Deed, IsWithin, both_flow, deeds_of, round_of, rounds_of, script_of, turns_from}

-- ---- the deeds of a valid scenario

joined_within : (n : ℕ) (links : List Link) (a b : ℕ) → AllByRecursion (IsLink n) links → are_joined links a b ≡ true → (a < n) × (b < n)
joined_within n [] a b all h = absurd (cc)
joined_within n (l ∷ ls) a b all h = go (eqb l.a a && eqb l.b b) (eqb l.a b && eqb l.b a) refl refl h (joined_within n ls a b all.1)
  where
    go : (t u : Bool) → (eqb l.a a && eqb l.b b) ≡ t → (eqb l.a b && eqb l.b a) ≡ u → ((t || u) || are_joined ls a b) ≡ true → (are_joined ls a b ≡ true → (a < n) × (b < n)) → (a < n) × (b < n)
    go true u e f h more =
        let p = and_parts (eqb l.a a) (eqb l.b b) e in
        let one : l.a ≡ a = eqb-true l.a a p.0 in
        let other : l.b ≡ b = eqb-true l.b b p.1 in
        (omega (arith, all.0.a, one), omega (arith, all.0.b, other))
    go false true e f h more =
        let p = and_parts (eqb l.a b) (eqb l.b a) f in
        let one : l.a ≡ b = eqb-true l.a b p.0 in
        let other : l.b ≡ a = eqb-true l.b a p.1 in
        (omega (arith, all.0.b, other), omega (arith, all.0.a, one))
    go false false e f h more = more h

short_within : (bytes : List ℕ) → is_short bytes ≡ true → length bytes ≤ MOST_PART_BYTES
short_within bytes h = leb-true (length bytes) MOST_PART_BYTES h

pub sendable : (m : Message) → are_short (content_of m) ≡ true → IsSendable m
sendable m h =
    let p = and_parts (is_short m.front.bytes && is_short m.middle.bytes) (is_short m.tail.bytes) h in
    let q = and_parts (is_short m.front.bytes) (is_short m.middle.bytes) p.0 in
    record {
      front = omega (arith, short_within m.front.bytes q.0);
      middle = omega (arith, short_within m.middle.bytes q.1);
      tail = omega (arith, short_within m.tail.bytes p.1);
    }

within_both : (all_links : List Link) (n : ℕ) (xs ys : List Deed) → AllByRecursion (IsWithin all_links n) xs → AllByRecursion (IsWithin all_links n) ys → AllByRecursion (IsWithin all_links n) (xs ++ ys)
within_both all_links n [] ys all more = more
within_both all_links n (x ∷ xs) ys all more = (all.0, within_both all_links n xs ys all.1 more)

flows_within : (all_links : List Link) (n : ℕ) (links : List Link) → AllByRecursion (IsLink n) links → AllByRecursion (IsWithin all_links n) (flat_map both_flow links)
flows_within all_links n [] all = tt
flows_within all_links n (l ∷ ls) all = ((all.0.a, all.0.b), ((all.0.b, all.0.a), flows_within all_links n ls all.1))

turns_within : (all_links : List Link) (n k count : ℕ) → k + count ≤ n → AllByRecursion (IsWithin all_links n) (turns_from k count)
turns_within all_links n k zero h = tt
turns_within all_links n k (suc count) h =
    let here : k < n = omega (arith, h) in
    let rest : suc k + count ≤ n = omega (arith, h) in
    (here, (here, turns_within all_links n (suc k) count rest))

round_within : (all_links : List Link) (n : ℕ) (links : List Link) → AllByRecursion (IsLink n) links → AllByRecursion (IsWithin all_links n) (round_of links n)
round_within all_links n links all = within_both all_links n (flat_map both_flow links) (turns_from 0 n) (flows_within all_links n links all) (turns_within all_links n 0 n (omega arith))

rounds_within : (all_links : List Link) (n : ℕ) (links : List Link) (count : ℕ) → AllByRecursion (IsLink n) links → AllByRecursion (IsWithin all_links n) (rounds_of links n count)
rounds_within all_links n links zero all = tt
rounds_within all_links n links (suc count) all = within_both all_links n (round_of links n) (rounds_of links n count) (round_within all_links n links all) (rounds_within all_links n links count all)

line_within : (n : ℕ) (links : List Link) → AllByRecursion (IsLink n) links → (l : Line) → IsLine n links (draft_line l) → AllByRecursion (IsWithin links n) (deeds_of links n l)
line_within n links all (line.Post a b message) h = (record { node = (joined_within n links a b all h.0).0; joined = h.0; step = sendable message h.1 }, tt)
line_within n links all (line.Dial a b) h = (record { node = (joined_within n links a b all h).0; joined = h; step = tt }, tt)
line_within n links all (line.Down a b) h = (record { node = (joined_within n links a b all h).0; joined = h; step = tt }, ((joined_within n links a b all h).0, tt))
line_within n links all (line.Cut a b bytes) h = tt
line_within n links all (line.Turn a) h = (h, (h, tt))
line_within n links all (line.Flow a b socket most) h = (joined_within n links a b all h, tt)
line_within n links all (line.Fault a b socket) h = (joined_within n links a b all h, tt)
line_within n links all (line.Settle rounds) h = rounds_within links n links rounds all

pub script_within : (n : ℕ) (links : List Link) → AllByRecursion (IsLink n) links → (lines : List Line) → AllByRecursion (IsLine n links) (map draft_line lines) →
    AllByRecursion (IsWithin links n) (script_of links n lines)
script_within n links all [] h = tt
script_within n links all (l ∷ ls) h = within_both links n (deeds_of links n l) (script_of links n ls) (line_within n links all l h.0) (script_within n links all ls h.1)
