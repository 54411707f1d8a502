-- One node more is ended, the last one of those that are left.
use Rattle.std.proofs.Common.{◌≡◌, List, [], ◌∷◌, ◌++◌, map, reverse, sym, ap, ◌∙◌, append_assoc}
use Rattle.std.proofs.lemmas.List.{map-append, reverse-append}
use Rattle.m2_cluster.specs.Node.{NodeNow}
use Rattle.m2_dispatch.specs.declared.logged.Logged.{Logged}
use Rattle.m2_script.specs.declared.ending.BothLogs.{BothLogs}
use Rattle.m2_script.specs.Ended.{both_in, both_of}

last_first : {X Y Z : Type 0} (f : X → Z) (h : Y → Z) (nodes rest : List X) (node : X) (logs new : List Y) (log : Y) → nodes ≡ rest ++ node ∷ [] → new ≡ logs ++ log ∷ [] → h log ≡ f node →
    map f rest ++ map h (reverse new) ≡ map f nodes ++ map h (reverse logs)
last_first f h nodes rest node logs new log e g same =
    let behind = map h (reverse logs) in
    let both : map f rest ++ (h log ∷ behind) ≡ (map f rest ++ f node ∷ []) ++ behind = ap (λ z. map f rest ++ (z ∷ behind)) same ∙ sym (append_assoc (map f rest) (f node ∷ []) behind) in
    rw (g, reverse-append logs (log ∷ []), e, map-append f rest (node ∷ [])) both

pub one_more_ended : (nodes rest : List (NodeNow (List Logged))) (node : NodeNow (List Logged)) (logs new : List BothLogs) (log : BothLogs) → nodes ≡ rest ++ node ∷ [] → new ≡ logs ++ log ∷ [] →
    both_in log ≡ both_of node → map both_of rest ++ map both_in (reverse new) ≡ map both_of nodes ++ map both_in (reverse logs)
one_more_ended nodes rest node logs new log e g same = last_first both_of both_in nodes rest node logs new log e g same
