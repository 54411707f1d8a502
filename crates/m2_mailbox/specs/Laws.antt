-- What holds of every merge of lists.
use Rattle.std.specs.Prelude.{◌≡◌, List, [], ◌∷◌, ◌++◌, All}
use Rattle.m2_mailbox.specs.Merge.{IsSublist, IsMerge}

-- a merge of one list is that list
abbrev pub MergeOfOneIsTheList : Type 0 → Type 0
MergeOfOneIsTheList T = (list whole : List T) → IsMerge T (list ∷ []) whole → whole ≡ list

-- the list is two parts, of which the first stands in `taken` in order, and the second in `held`
abbrev pub IsCut : {T : Type 0} → List T → List T → List T → Type 0
IsCut {T} taken held list =
    (first second : List T) × (list ≡ first ++ second) × IsSublist first taken × IsSublist second held

-- where what was taken and then what is held is a merge, the items of each list that were taken are a prefix of it,
-- in its order
abbrev pub EachListIsCut : Type 0 → Type 0
EachListIsCut T =
    (lists : List (List T)) (taken held : List T) → IsMerge T lists (taken ++ held) → All (IsCut taken held) lists
