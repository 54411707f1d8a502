-- A report is read in one way: each line tells its node, and the nodes come in order.
use Rattle.std.proofs.Common.{◌≡◌, ◌≢◌, ℕ, suc, ◌<◌, inl, inr, false, List, [], ◌∷◌, ◌++◌, length, map, get_or, All, refl, sym, ap, ◌∙◌, subst, arith, append_assoc}
use Rattle.std.specs.Prelude.{AllPairs}
use Rattle.std.specs.List.{flat_map}
use Rattle.std.proofs.lemmas.Bool.{cases_order}
use Rattle.std.proofs.lemmas.List.{length-map}
use Rattle.std.proofs.lemmas.List.Elements.{All-head, All-tail}
use Rattle.m2_dispatch.specs.Heard.{Heard}
use Rattle.m2_scenario.specs.declared.node.Node.{Node}
use Rattle.m2_scenario.specs.Valid.{AreApart}
use Rattle.m2_scenario.specs.Text.{Word, word}
use Rattle.m2_scenario.specs.Report.{name_of, line_of}
use Rattle.m2_scenario.specs.Printed.{IsNamed, AreNamed, IsReportable, printed_of}
use Rattle.m2_scenario.specs.ReportLaws.{ReportsAreReadInOneWay}
use Rattle.m2_scenario.proofs.Names.{name_there}
use Rattle.m2_scenario.proofs.PlainWords.{IsPlain, cut_once, plain_name}
use Rattle.m2_scenario.proofs.HexWords.{HexIsReadAgain}
use Rattle.m2_scenario.proofs.LinesOnce.{AreTellingNames, line_begins, line_once}
use Rattle.m2_scenario.proofs.ReportLines.{lines_of}

-- ---- the names

plain_at : (nodes : List Node) → All IsNamed nodes → (k : ℕ) → k < length nodes → IsPlain (word (map name_of nodes) k)
plain_at [] named k h = absurd (omega (arith, h))
plain_at (n ∷ ns) named k h = subst IsPlain (sym (name_there (n ∷ ns) k n h)) (plain_name _ (named k n h))

word_once : (nodes : List Node) → AllPairs AreApart nodes → (j k : ℕ) → j < length nodes → k < length nodes
    → word (map name_of nodes) j ≡ word (map name_of nodes) k → j ≡ k
word_once [] apart j k h i e = absurd (omega (arith, h))
word_once (n ∷ ns) apart j k h i e =
    let same : name_of (get_or (n ∷ ns) j n) ≡ name_of (get_or (n ∷ ns) k n) = sym (name_there (n ∷ ns) j n h) ∙ e ∙ name_there (n ∷ ns) k n i in
    elim (cases_order j k) [
      | inl equal ↦ equal
      | inr (inl below) ↦ absurd ((apart j k n below i).names same)
      | inr (inr above) ↦ absurd ((apart k j n above h).names (sym same))
    ]

telling_names : (nodes : List Node) → AreNamed nodes → AreTellingNames (map name_of nodes)
telling_names nodes are =
    let n : length (map name_of nodes) ≡ length nodes = length-map nodes name_of in
    record {
      plain = λ k h. plain_at nodes are.named k (omega (arith, n, h));
      once = λ j k h i e. word_once nodes are.apart j k (omega (arith, n, h)) (omega (arith, n, i)) e;
    }

-- ---- the lines of a node

-- the text doesn't go on with a line of this node
abbrev Elsewhere : Word → Word → Type 0
Elsewhere node text = (more : Word) → text ≡ node ++ 32 ∷ more → ⊥

no_text : (node : Word) → Elsewhere node []
no_text [] more e = cc
no_text (b ∷ bs) more e = cc

node_once : HexIsReadAgain → (names : List Word) → AreTellingNames names → (node : Word) → IsPlain node → (one other : List Heard)
    → All (IsReportable (length names)) one → All (IsReportable (length names)) other → (r s : Word) → Elsewhere node r → Elsewhere node s
    → flat_map (line_of names node) one ++ r ≡ flat_map (line_of names node) other ++ s → (map printed_of one ≡ map printed_of other) × (r ≡ s)
node_once again names telling node plain [] [] fit fit_too r s apart apart_too e = (refl, e)
node_once again names telling node plain [] (y ∷ ys) fit fit_too r s apart apart_too e =
    let begun = line_begins names node y (flat_map (line_of names node) ys ++ s) in
    absurd (apart begun.0 (e ∙ append_assoc (line_of names node y) (flat_map (line_of names node) ys) s ∙ begun.1))
node_once again names telling node plain (x ∷ xs) [] fit fit_too r s apart apart_too e =
    let begun = line_begins names node x (flat_map (line_of names node) xs ++ r) in
    absurd (apart_too begun.0 (sym e ∙ append_assoc (line_of names node x) (flat_map (line_of names node) xs) r ∙ begun.1))
node_once again names telling node plain (x ∷ xs) (y ∷ ys) fit fit_too r s apart apart_too e =
    let lines = flat_map (line_of names node) in
    let P = IsReportable (length names) in
    let begun = line_once again names telling node plain x y (All-head P x xs fit) (All-head P y ys fit_too) (lines xs ++ r) (lines ys ++ s)
    (sym (append_assoc (line_of names node x) (lines xs) r) ∙ e ∙ append_assoc (line_of names node y) (lines ys) s) in
    let rest = node_once again names telling node plain xs ys (All-tail P x xs fit) (All-tail P y ys fit_too) r s apart apart_too begun.1 in
    (ap (λ p. p ∷ map printed_of xs) begun.0 ∙ ap (λ ps. printed_of y ∷ ps) rest.0, rest.1)

-- ---- node by node

-- the lines of other nodes are elsewhere
others_lines : (names : List Word) (node : Word) → IsPlain node → (nodes : List Node) → All IsNamed nodes → All (λ m. node ≢ name_of m) nodes
    → (heard : List (List Heard)) → Elsewhere node (lines_of false names nodes heard)
others_lines names node plain [] named differ heard more e = no_text node more e
others_lines names node plain (m ∷ ms) named differ [] more e = no_text node more e
others_lines names node plain (m ∷ ms) named differ ([] ∷ hs) more e =
    others_lines names node plain ms (All-tail IsNamed m ms named) (All-tail (λ n. node ≢ name_of n) m ms differ) hs more e
others_lines names node plain (m ∷ ms) named differ ((x ∷ xs) ∷ hs) more e =
    let line = line_of names (name_of m) in
    let behind = flat_map line xs ++ lines_of false names ms hs in
    let begun = line_begins names (name_of m) x behind in
    let both : node ++ 32 ∷ more ≡ name_of m ++ 32 ∷ begun.0 = sym e ∙ append_assoc (line x) (flat_map line xs) (lines_of false names ms hs) ∙ begun.1 in
    All-head (λ n. node ≢ name_of n) m ms differ (cut_once 32 node (name_of m) _ _ (omega arith) plain (plain_name _ (All-head IsNamed m ms named)) both).0

names_apart : (n : Node) (ns : List Node) → AllPairs AreApart (n ∷ ns) → All (λ m. name_of n ≢ name_of m) ns
names_apart n ns apart k d h = (apart 0 (suc k) d (omega arith) (omega (arith, h))).names

nodes_once : HexIsReadAgain → (names : List Word) → AreTellingNames names → (nodes : List Node) → AreNamed nodes → (one other : List (List Heard))
    → length one ≡ length nodes → length other ≡ length nodes
    → All (All (IsReportable (length names))) one → All (All (IsReportable (length names))) other
    → lines_of false names nodes one ≡ lines_of false names nodes other → map (map printed_of) one ≡ map (map printed_of) other
nodes_once again names telling [] are [] [] l m fit fit_too e = refl
nodes_once again names telling [] are [] (g ∷ gs) l m fit fit_too e = absurd (omega (arith, m))
nodes_once again names telling [] are (h ∷ hs) other l m fit fit_too e = absurd (omega (arith, l))
nodes_once again names telling (n ∷ ns) are [] other l m fit fit_too e = absurd (omega (arith, l))
nodes_once again names telling (n ∷ ns) are (h ∷ hs) [] l m fit fit_too e = absurd (omega (arith, m))
nodes_once again names telling (n ∷ ns) are (h ∷ hs) (g ∷ gs) l m fit fit_too e =
    let P = All (IsReportable (length names)) in
    let plain = plain_name _ (All-head IsNamed n ns are.named) in
    let named = All-tail IsNamed n ns are.named in
    let differ = names_apart n ns are.apart in
    let first = node_once again names telling (name_of n) plain h g (All-head P h hs fit) (All-head P g gs fit_too) (lines_of false names ns hs) (lines_of false names ns gs)
    (others_lines names (name_of n) plain ns named differ hs) (others_lines names (name_of n) plain ns named differ gs) e in
    let later : AreNamed ns = record { named = named; apart = λ i j d below within. are.apart (suc i) (suc j) d (omega (arith, below)) (omega (arith, within)) } in
    let rest = nodes_once again names telling ns later hs gs (omega (arith, l)) (omega (arith, m)) (All-tail P h hs fit) (All-tail P g gs fit_too) first.1 in
    ap (λ p. p ∷ map (map printed_of) hs) first.0 ∙ ap (λ ps. map printed_of g ∷ ps) rest

pub report_once : HexIsReadAgain → ReportsAreReadInOneWay
report_once again nodes one other are fit fit_too e =
    let n : length (map name_of nodes) ≡ length nodes = length-map nodes name_of in
    nodes_once again (map name_of nodes) (telling_names nodes are) nodes are one other fit.each fit_too.each
    (subst (λ k. All (All (IsReportable k)) one) (sym n) fit.calls) (subst (λ k. All (All (IsReportable k)) other) (sym n) fit_too.calls) e
