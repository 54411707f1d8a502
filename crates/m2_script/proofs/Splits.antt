-- What is left of a line's deeds is what comes next, and what is left behind it.
use Rattle.std.proofs.Common.{◌≡◌, ℕ, ◌+◌, ◌-◌, ◌<◌, ◌≤◌, zero, suc, false, List, [], ◌∷◌, ◌++◌, length, drop, get_or, refl, ap, ◌∙◌, arith}
use Rattle.std.specs.Prelude.{flat_map}
use Rattle.std.proofs.Math.Seq.{drop-cons}
use Rattle.m2_scenario.specs.declared.link.Link.{Link}
use Rattle.m2_script.specs.Script.{both_flow, round_of, rounds_of, turn_and_meet, turns_from}

-- the item that a read past the end of a list gives
abbrev pub no_link : Link
no_link =
    record { a = 0; b = 0; of_a = record { lossy = false; server = false; standby = false; resetcheck = false }; of_b = record { lossy = false; server = false; standby = false; resetcheck = false } }

pub next_flows : (links : List Link) (i : ℕ) → i < length links →
    flat_map both_flow (drop i links) ≡ both_flow (get_or links i no_link) ++ flat_map both_flow (drop (i + 1) links)
next_flows links i fits =
    let e : suc i ≡ i + 1 = omega arith in
    ap (flat_map both_flow) (drop-cons links i no_link fits) ∙ ap (λ (n : ℕ). both_flow (get_or links i no_link) ++ flat_map both_flow (drop n links)) e

pub next_links : {X : Type 0} (f : Link → List X) (links : List Link) (i : ℕ) → i < length links →
    flat_map f (drop i links) ≡ f (get_or links i no_link) ++ flat_map f (drop (i + 1) links)
next_links f links i fits =
    let e : suc i ≡ i + 1 = omega arith in
    ap (flat_map f) (drop-cons links i no_link fits) ∙ ap (λ (n : ℕ). f (get_or links i no_link) ++ flat_map f (drop n links)) e

pub none_past : (links : List Link) (n : ℕ) → length links ≤ n → drop n links ≡ []
none_past [] zero past = refl
none_past [] (suc n) past = refl
none_past (x ∷ xs) zero past = absurd (omega (arith, past))
none_past (x ∷ xs) (suc n) past = none_past xs n (omega (arith, past))

pub next_turns : (n count : ℕ) → n < count → turns_from n (count - n) ≡ turn_and_meet n ++ turns_from (n + 1) (count - (n + 1))
next_turns n count fits =
    let e : count - n ≡ suc (count - (n + 1)) = omega arith in
    let f : suc n ≡ n + 1 = omega arith in
    ap (turns_from n) e ∙ ap (λ (m : ℕ). turn_and_meet n ++ turns_from m (count - (n + 1))) f

pub next_rounds : (links : List Link) (nodes n count : ℕ) → n < count →
    rounds_of links nodes (count - n) ≡ round_of links nodes ++ rounds_of links nodes (count - (n + 1))
next_rounds links nodes n count fits =
    let e : count - n ≡ suc (count - (n + 1)) = omega arith in
    ap (rounds_of links nodes) e
