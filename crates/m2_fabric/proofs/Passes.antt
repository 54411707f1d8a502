-- What a call passes on, one direction after another.
use Rattle.std.proofs.Common.{◌≡◌, ℕ, Bool, true, false, if◌then◌else◌, List, [], ◌∷◌, ◌++◌, map, refl, sym, ◌∙◌, ap, append-nil}
use Rattle.std.proofs.lemmas.Grind.{flat_map-append}
use Rattle.m2_fabric.specs.Holder.{EndName, SeenHolder}
use Rattle.m2_fabric.specs.Kept.{SeenPair, reader, same_end, writer}
use Rattle.m2_fabric.specs.News.{AreTold, Logs, Told, is_about, kept_after, logs_of, only, pair_after, passed_on, progress_by, told_by, told_to}
use Rattle.m2_fabric.specs.declared.direction.Direction.{Direction}
use Rattle.m2_fabric.specs.declared.kept.Kept.{Kept}
use Rattle.m2_fabric.specs.declared.passing.Passing.{Passing}
use Rattle.m2_fabric.proofs.Told.{logs_same, told_nothing, told_same, told_then}

abbrev nothing : List Told
nothing = []

told_once : (b : Bool) (ts : List Told) → (if b then ts else []) ≡ (if b then ts else []) ++ []
told_once true ts = sym (append-nil ts)
told_once false ts = refl

-- a direction that a call is about, and one that it isn't about
pub one_passed : (what : Passing) (d : Direction) (a b : SeenHolder) → is_about what d ≡ true
    → AreTold (only (reader d) (passed_on what.most (logs_of a) d)) a b → AreTold (told_to what (logs_of a) (d ∷ [])) a b
one_passed what d a b about p =
    told_same (only (reader d) (passed_on what.most (logs_of a) d)) (told_to what (logs_of a) (d ∷ [])) a b (λ e. rw about (told_once (same_end (reader d) e) (passed_on what.most (logs_of a) d))) p

untold : (b : Bool) → nothing ≡ (if b then nothing else nothing) ++ nothing
untold true = refl
untold false = refl

pub none_passed : (what : Passing) (d : Direction) (h : SeenHolder) → is_about what d ≡ false → AreTold (told_to what (logs_of h) (d ∷ [])) h h
none_passed what d h about =
    told_same (λ e. []) (told_to what (logs_of h) (d ∷ [])) h h (λ e. rw about (untold (same_end (reader d) e))) (told_nothing h)

-- ---- what is passed on depends on what ends did alone

same_told : (what : Passing) (k l : Logs) (d : Direction) → ((e : EndName) → k e ≡ l e) → told_by what k d ≡ told_by what l d
same_told what k l d same = rw (same (reader d), same (writer d)) refl

pub same_progress : (what : Passing) (f : EndName → List Told) (a b : SeenHolder) (d : Direction) → AreTold f a b
    → progress_by what (logs_of b) d ≡ progress_by what (logs_of a) d
same_progress what f a b d p = rw (logs_same f a b p (reader d), logs_same f a b p (writer d)) refl

pub same_told_to : (what : Passing) (k l : Logs) (ds : List Direction) (e : EndName) → ((e : EndName) → k e ≡ l e) → told_to what k ds e ≡ told_to what l ds e
same_told_to what k l [] e same = refl
same_told_to what k l (d ∷ ds) e same =
    ap (λ (ts : List Told). (if same_end (reader d) e then ts else []) ++ told_to what k ds e) (same_told what k l d same)
    ∙ ap (λ (ts : List Told). (if same_end (reader d) e then told_by what l d else []) ++ ts) (same_told_to what k l ds e same)

-- some directions, and then others
pub passed_then : (what : Passing) (xs ys : List Direction) (a b c : SeenHolder) → AreTold (told_to what (logs_of a) xs) a b
    → AreTold (told_to what (logs_of b) ys) b c → AreTold (told_to what (logs_of a) (xs ++ ys)) a c
passed_then what xs ys a b c p q =
    told_same (λ e. told_to what (logs_of a) xs e ++ told_to what (logs_of b) ys e) (told_to what (logs_of a) (xs ++ ys)) a c together (told_then (told_to what (logs_of a) xs) (told_to what (logs_of b) ys) a b c p q)
  where
    same : (e : EndName) → logs_of b e ≡ logs_of a e
    same e = logs_same (told_to what (logs_of a) xs) a b p e

    together : (e : EndName) → told_to what (logs_of a) xs e ++ told_to what (logs_of b) ys e ≡ told_to what (logs_of a) (xs ++ ys) e
    together e =
        ap (λ (ts : List Told). told_to what (logs_of a) xs e ++ ts) (same_told_to what (logs_of b) (logs_of a) ys e same)
        ∙ sym (flat_map-append (λ (d : Direction). if same_end (reader d) e then told_by what (logs_of a) d else []) xs ys)

pub same_after : (what : Passing) (first second : ℕ) (k l : Logs) (x : Kept) → ((e : EndName) → k e ≡ l e) → kept_after what k first second x ≡ kept_after what l first second x
same_after what first second k l x same =
    rw (same (record { node = first; id = x.id }), same (record { node = second; id = x.id })) refl

pub same_pair_after : (what : Passing) (k l : Logs) (p : SeenPair) → ((e : EndName) → k e ≡ l e) → pair_after what k p ≡ pair_after what l p
same_pair_after what k l p same =
    ap (λ (ks : List Kept). record p { sockets = ks }) (each p.sockets)
  where
    each : (ks : List Kept) → map (kept_after what k p.first p.second) ks ≡ map (kept_after what l p.first p.second) ks
    each [] = refl
    each (x ∷ xs) =
        ap (λ (y : Kept). y ∷ map (kept_after what k p.first p.second) xs) (same_after what p.first p.second k l x same)
        ∙ ap (λ (ys : List Kept). kept_after what l p.first p.second x ∷ ys) (each xs)
