-- Cuts and pieces.
use Rattle.std.proofs.Common.{◌≡◌, ◌==◌, ℕ, zero, suc, ◌<◌, Bool, true, false, if◌then◌else◌, List, [], ◌∷◌, length, take, drop, get_or, Option, Some, None, refl, ap, ◌∙◌, arith}
use Rattle.std.specs.List.{position, position_or_len}
use Rattle.std.specs.Prelude.{nat_lt}
use Rattle.std.proofs.lemmas.Bool.{ltb-false}
use Rattle.std.proofs.lemmas.List.Quantifiers.{position-Some}
use Rattle.std.proofs.lemmas.List.Sums.{fails_before_first}
use Rattle.m2_scenario.specs.Text.{Word, cut_at, with_first, pieces, glued, filled}

-- the first mark is where the text is cut
pub cut_found : (mark : ℕ) (bs : List ℕ) (i : ℕ) → i < length bs → ((k : ℕ) → k < i → (get_or bs k 0 == mark) ≡ false) → (get_or bs i 0 == mark) ≡ true → cut_at mark bs ≡ Some (take i bs, drop 1 (drop i bs))
cut_found mark [] i h before here = absurd (omega arith)
cut_found mark (b ∷ bs) zero h before here = rw here refl
cut_found mark (b ∷ bs) (suc i) h before here =
    let first : (b == mark) ≡ false = before zero (omega arith) in
    let rest : cut_at mark bs ≡ Some (take i bs, drop 1 (drop i bs)) = cut_found mark bs i (omega arith) (λ k l. before (suc k) (omega arith)) here in
    rw (first, rest) refl

-- a text without the mark isn't cut
pub cut_nowhere : (mark : ℕ) (bs : List ℕ) → ((k : ℕ) → k < length bs → (get_or bs k 0 == mark) ≡ false) → cut_at mark bs ≡ None
cut_nowhere mark [] before = refl
cut_nowhere mark (b ∷ bs) before =
    let first : (b == mark) ≡ false = before zero (omega arith) in
    let rest : cut_at mark bs ≡ None = cut_nowhere mark bs (λ k l. before (suc k) (omega arith)) in
    rw (first, rest) refl

joined : ℕ → Option (Word × Word) → Word → List Word
joined mark None bs = bs ∷ []
joined mark (Some p) bs = p.0 ∷ pieces mark p.1

glue_joined : (mark b : ℕ) (o : Option (Word × Word)) (bs : Word) → glued b (joined mark o bs) ≡ joined mark (with_first b o) (b ∷ bs)
unfolding joined
glue_joined mark b None bs = refl
glue_joined mark b (Some p) bs = refl

split_step : (mark b : ℕ) (bs : Word) (t : Bool) → pieces mark bs ≡ joined mark (cut_at mark bs) bs
    → (if t then [] ∷ pieces mark bs else glued b (pieces mark bs)) ≡ joined mark (if t then Some ([], bs) else with_first b (cut_at mark bs)) (b ∷ bs)
unfolding joined
split_step mark b bs true ih = refl
split_step mark b bs false ih = ap (glued b) ih ∙ glue_joined mark b (cut_at mark bs) bs

pieces_split : (mark : ℕ) (bs : Word) → pieces mark bs ≡ joined mark (cut_at mark bs) bs
unfolding joined
pieces_split mark [] = refl
pieces_split mark (b ∷ bs) = split_step mark b bs (b == mark) (pieces_split mark bs)

-- a text that is cut has what stands before as its first piece
pub pieces_cut : (mark : ℕ) (bs f r : Word) → cut_at mark bs ≡ Some (f, r) → pieces mark bs ≡ f ∷ pieces mark r
unfolding joined
pieces_cut mark bs f r e = pieces_split mark bs ∙ ap (λ o. joined mark o bs) e

pub pieces_whole : (mark : ℕ) (bs : Word) → cut_at mark bs ≡ None → pieces mark bs ≡ bs ∷ []
unfolding joined
pieces_whole mark bs e = pieces_split mark bs ∙ ap (λ o. joined mark o bs) e

-- an empty piece is no word
pub filled_empty : (w : Word) (ps : List Word) → length w ≡ 0 → filled (w ∷ ps) ≡ filled ps
filled_empty [] ps e = refl
filled_empty (b ∷ bs) ps e = absurd (omega (arith, e))

pub filled_word : (w : Word) (ps : List Word) → 0 < length w → filled (w ∷ ps) ≡ w ∷ filled ps
filled_word [] ps h = absurd (omega (arith, h))
filled_word (b ∷ bs) ps h = refl

at_end : (p : ℕ → Bool) (bs : List ℕ) (k : ℕ) → k < length bs → (t : Bool) → nat_lt (position_or_len p bs) (length bs) ≡ t → (if t then Some (position_or_len p bs) else None) ≡ None → p (get_or bs k 0) ≡ false
at_end p bs k h true is e = cc
at_end p bs k h false is e = fails_before_first p bs k 0 (omega (arith, ltb-false (position_or_len p bs) (length bs) is))

-- where no byte passes, none does at any place
pub nowhere : (p : ℕ → Bool) (bs : List ℕ) → position p bs ≡ None → (k : ℕ) → k < length bs → p (get_or bs k 0) ≡ false
nowhere p bs e k h = at_end p bs k h (nat_lt (position_or_len p bs) (length bs)) refl e

-- a cut at the first mark
pub cut_somewhere : (mark : ℕ) (bs : List ℕ) (i : ℕ) → position (λ b. b == mark) bs ≡ Some i → cut_at mark bs ≡ Some (take i bs, drop 1 (drop i bs))
cut_somewhere mark bs i e =
    let found = position-Some (λ b. b == mark) bs i 0 e in
    cut_found mark bs i found.0 found.2 found.1
