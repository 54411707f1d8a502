-- What stands before the first byte outside a class is read in one way, and so is a text between others.
use Rattle.std.proofs.Common.{◌≡◌, ℕ, Bool, true, false, List, [], ◌∷◌, ◌++◌, drop, refl, sym, ap, subst, ◌∙◌, append_assoc}
use Rattle.std.specs.List.{list_all}
use Rattle.std.proofs.lemmas.Bool.{and_parts, and_from}
use Rattle.m2_frame_facts.specs.Value.{quoted}
use Rattle.m2_frame_facts.specs.declared.style.Style.{Style}
use Rattle.m2_frame_facts.specs.declared.style.Style.TheVariants as style
use Rattle.m2_frame_facts.proofs.Classes.{is_inner}

-- the text is at its end, or goes on with a byte outside the class
abbrev pub Stops : (ℕ → Bool) → List ℕ → Type 0
Stops p [] = Unit {0}
Stops p (b ∷ bs) = p b ≡ false

clash : (b : Bool) → b ≡ true → b ≡ false → ⊥
clash true t f = cc
clash false t f = cc

pub cut_once : (p : ℕ → Bool) (a b r s : List ℕ) → list_all p a ≡ true → list_all p b ≡ true → Stops p r → Stops p s → a ++ r ≡ b ++ s → (a ≡ b) × (r ≡ s)
cut_once p [] [] r s all all_too stops stops_too e = (refl, e)
cut_once p [] (y ∷ b) r s all all_too stops stops_too e =
    absurd (clash (p y) (and_parts (p y) (list_all p b) all_too).0 (subst (Stops p) e stops))
cut_once p (x ∷ a) [] r s all all_too stops stops_too e =
    absurd (clash (p x) (and_parts (p x) (list_all p a) all).0 (subst (Stops p) (sym e) stops_too))
cut_once p (x ∷ a) (y ∷ b) r s all all_too stops stops_too e =
    let first : x ≡ y = cc in
    let rest : a ++ r ≡ b ++ s = cc in
    let ih = cut_once p a b r s (and_parts (p x) (list_all p a) all).1 (and_parts (p y) (list_all p b) all_too).1 stops stops_too rest in
    (cc, ih.1)

pub all_imply : (p q : ℕ → Bool) → ((b : ℕ) → p b ≡ true → q b ≡ true) → (w : List ℕ) → list_all p w ≡ true → list_all q w ≡ true
all_imply p q imply [] h = refl
all_imply p q imply (b ∷ bs) h =
    let parts = and_parts (p b) (list_all p bs) h in and_from (q b) (list_all q bs) (imply b parts.0) (all_imply p q imply bs parts.1)

-- ---- texts of which it is known what stands behind them

-- where these two texts stand before what isn't of their class, what is read of them is the same, and so is what stands behind
abbrev pub Once : Type 0 → List ℕ → List ℕ → Type 0
Once E t u = (r s : List ℕ) → Stops is_inner r → Stops is_inner s → t ++ r ≡ u ++ s → E × (r ≡ s)

pub joined : (a b c d r s : List ℕ) → (a ++ b) ++ r ≡ (c ++ d) ++ s → a ++ (b ++ r) ≡ c ++ (d ++ s)
joined a b c d r s e = sym (append_assoc a b r) ∙ e ∙ append_assoc c d s

-- texts with one byte between them
between : (a b r : List ℕ) (mark : ℕ) → (a ++ mark ∷ [] ++ b) ++ r ≡ a ++ mark ∷ (b ++ r)
between a b r mark = append_assoc (a ++ mark ∷ []) b r ∙ append_assoc a (mark ∷ []) (b ++ r)

pub parted : (a b c d r s : List ℕ) (mark : ℕ) → (a ++ mark ∷ [] ++ b) ++ r ≡ (c ++ mark ∷ [] ++ d) ++ s → a ++ mark ∷ (b ++ r) ≡ c ++ mark ∷ (d ++ s)
parted a b c d r s mark e = sym (between a b r mark) ∙ e ∙ between c d s mark

pub quoted_once : {E : Type 0} (form : Style) (t u : List ℕ) → Once E t u → Once E (quoted form t) (quoted form u)
quoted_once style.Line t u once r s stops stops_too e = once r s stops stops_too (joined t [] u [] r s e)
quoted_once style.Json t u once r s stops stops_too e =
    let inner : (t ++ 34 ∷ []) ++ r ≡ (u ++ 34 ∷ []) ++ s = ap (drop 1) e in
    let found = once (34 ∷ r) (34 ∷ s) refl refl (joined t (34 ∷ []) u (34 ∷ []) r s inner) in
    (found.0, ap (drop 1) found.1)
