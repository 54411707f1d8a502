-- The logs of the dispatchers of nodes that are ended one after another.
use Rattle.std.proofs.Common.{◌≡◌, List, [], ◌∷◌, ◌++◌, reverse, sym, ap, subst, ◌∙◌, append-nil, append_assoc}
use Rattle.std.proofs.lemmas.List.{reverse-reverse}
use Rattle.m2_bytes.specs.Items.{Holding}
use Rattle.m2_dispatch.specs.declared.logged.Logged.{Logged}
use Rattle.m2_node.specs.Handing.{AddsLog, IsLogOf}
use Rattle.m2_node.specs.Lists.{SideBySide}
use Rattle.m2_node.specs.Nodes.{RunNodeNow}
use Rattle.m2_node.proofs.Beside.{side_last}
use Rattle.m2_node.proofs.Places.{reverse_last}

-- of those before the ones that are left, which are turned round
pub record AreLogged (all left : List RunNodeNow) (logs : List (Holding Logged)) : Type 0 where
  pub gone : List RunNodeNow
  pub split : all ≡ gone ++ reverse left
  pub are : SideBySide IsLogOf gone logs

pub none_logged : (all left : List RunNodeNow) (logs : List (Holding Logged)) → left ≡ reverse all → logs ≡ [] → AreLogged all left logs
none_logged all left logs turned none = record { gone = []; split = sym (ap reverse turned ∙ reverse-reverse all); are = subst (SideBySide IsLogOf []) (sym none) tt }

pub one_logged : (all left rest : List RunNodeNow) (n : RunNodeNow) (logs more : List (Holding Logged)) → left ≡ rest ++ n ∷ [] → AddsLog n logs more → AreLogged all left logs → AreLogged all rest more
one_logged all left rest n logs more last adds a = record {
  gone = a.gone ++ n ∷ [];
  split = a.split ∙ ap (λ (ns : List RunNodeNow). a.gone ++ ns) (ap reverse last ∙ reverse_last rest n) ∙ sym (append_assoc a.gone (n ∷ []) (reverse rest));
  are = subst (SideBySide IsLogOf (a.gone ++ n ∷ [])) (sym adds.last) (side_last IsLogOf a.gone logs n adds.log a.are adds.is);
}

pub all_logged : (all left : List RunNodeNow) (logs : List (Holding Logged)) → left ≡ [] → AreLogged all left logs → SideBySide IsLogOf all logs
all_logged all left logs none a = subst (λ (ns : List RunNodeNow). SideBySide IsLogOf ns logs) (sym (a.split ∙ ap (λ (ns : List RunNodeNow). a.gone ++ reverse ns) none ∙ append-nil a.gone)) a.are
